use Rattle.std.proofs.Common.{◌≡◌, ◌+◌, ◌≤◌, ◌++◌, ℕ, List, length, drop, sym, ap, ◌∙◌, arith, append_assoc}
use Rattle.std.specs.List.{before_first}
use Rattle.std.specs.Str.Lines.{strip_carriage_return}
use Rattle.gt_scan.specs.declared.token.Token.{Token}
use Rattle.gt_scan.specs.Tokens.{is_line_feed, tokens_of_line, tokens_of_lines, next}
use Rattle.gt_scan.proofs.Parts.{take-drop_rest, parts_behind, first-fits}
use Rattle.gt_scan.proofs.Lines.{tokens_of_lines-last, tokens_of_lines-more}
use Rattle.gt_scan.proofs.scan.tokens.Goals.{then-next-text, else-next-text}
use Rattle.gt_scan.proofs.scan.tokens.Goals as goal

pub loop-at-preserved : goal.loop-at-preserved
loop-at-preserved c =
    let text : List ℕ = c.args.text.now in
    let whole : List ℕ = c.first_line-whole.result.now in
    let bytes : List ℕ = c.if-next-text.bytes.now in
    let at : ℕ = c.loop-at.at in
    let line : ℕ = c.loop-at.line in
    let is : whole ≡ before_first is_line_feed (drop at text) = c.first_line-whole.ensures ∙ ap (before_first is_line_feed) (take-drop_rest at text) in
    let fits : at + length whole ≤ length text = rw is (first-fits is_line_feed at text (omega arith)) in
    let place : at + length whole + 1 ≡ at + (length whole + 1) = omega arith in
    let rest : ℕ → List Token = λ k. tokens_of_lines (next line) k (parts_behind is_line_feed k text) in
    let step : (tokens_of_lines line at (parts_behind is_line_feed at text) ≡ tokens_of_line line at bytes ++ rest (at + (length whole + 1))) × (length bytes ≤ length whole) =
    elim c.if-next-text.branch [
      | then-next-text w ↦
          let same : bytes ≡ whole = ap (λ r. r.now) w.bytes-is in
          (tokens_of_lines-last line at text whole (omega arith) is (omega (arith, w.if-next-text.true)) ∙ ap (λ bs. tokens_of_line line at bs ++ rest (at + (length whole + 1))) (sym same), omega (arith, ap length same))
      | else-next-text w ↦
          let same : bytes ≡ strip_carriage_return whole = ap (λ r. r.now) w.bytes-is ∙ w.without_return-bytes.ensures.value in
          let is_short : length bytes ≡ length w.without_return-bytes.result.now = ap (λ r. length r.now) w.bytes-is in
          let short : length bytes ≤ length whole = omega (arith, w.without_return-bytes.ensures.length) in
          (tokens_of_lines-more line at text whole (omega arith) is (omega (arith, w.if-next-text.false)) ∙ ap (λ bs. tokens_of_line line at bs ++ rest (at + (length whole + 1))) (sym same), short)
    ] in
    let added = c.in_ok-scan_line.ensures.tokens in
    record {
      in_text = omega arith;
      tokens =
          rw (c.saturating_add-line.ensures, place)
          (ap (λ ts. ts ++ rest (at + (length whole + 1))) added ∙ (append_assoc c.loop-at.tokens.items (tokens_of_line line at bytes) (rest (at + (length whole + 1)))
          ∙ (ap (λ ts. c.loop-at.tokens.items ++ ts) (sym step.0) ∙ c.loop-at.invariant.tokens)));
      spans = c.in_ok-scan_line.ensures.spans (length text) (omega (arith, step.1)) c.loop-at.invariant.spans;
    }
