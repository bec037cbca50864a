use Rattle.std.proofs.Common.{◌≡◌, ◌+◌, ◌≤◌, ◌++◌, [], ℕ, List, All, length, sym, ap, ◌∙◌, arith, append_assoc, drop, subst}
use Rattle.std.specs.List.{before_first}
use Rattle.std.proofs.lemmas.List.Elements.{All-append}
use Rattle.gt_scan.specs.declared.token.Token.{Token}
use Rattle.gt_scan.specs.Tokens.{is_blank, with_token, tokens_among, IsSpan}
use Rattle.gt_scan.proofs.Parts.{take-drop_rest, parts_behind, first-fits}
use Rattle.gt_scan.proofs.Lines.{tokens_among-cut, spans-with_token}
use Rattle.gt_scan.proofs.scan.scan_line.Goals as goal

pub loop-at-preserved : goal.loop-at-preserved
loop-at-preserved c =
    let bytes : List ℕ = c.args.bytes.now in
    let word : List ℕ = c.first_word-word.result.now in
    let at : ℕ = c.loop-at.at in
    let from : ℕ = c.args.start + at in
    let is : word ≡ before_first is_blank (drop at bytes) = c.first_word-word.ensures ∙ ap (before_first is_blank) (take-drop_rest at bytes) in
    let fits : at + length word ≤ length bytes = rw is (first-fits is_blank at bytes (omega arith)) in
    let added : c.add_word.new.tokens.items ≡ c.loop-at.tokens.items ++ with_token c.args.line from word [] = c.in_ok-add_word.ensures.tokens in
    let more : List Token = tokens_among c.args.line (c.args.start + (at + (length word + 1))) (parts_behind is_blank (at + (length word + 1)) bytes) in
    record {
      in_line = omega arith;
      tokens =
          ap (λ ts. ts ++ more) added ∙ (append_assoc c.loop-at.tokens.items (with_token c.args.line from word []) more
          ∙ (ap (λ ts. c.loop-at.tokens.items ++ ts) (sym (tokens_among-cut c.args.line c.args.start at bytes word (omega arith) is)) ∙ c.loop-at.invariant.tokens));
      spans = λ n inside old.
          subst (All (IsSpan n)) (sym added)
          (All-append (IsSpan n) c.loop-at.tokens.items (with_token c.args.line from word []) (c.loop-at.invariant.spans n inside old) (spans-with_token n c.args.line from word (omega arith)));
    }
