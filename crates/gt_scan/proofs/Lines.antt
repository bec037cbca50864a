-- The tokens of a line, and of the lines of a text, from the front on.
use Rattle.std.proofs.Common.{◌≡◌, ◌+◌, ◌<◌, ◌≤◌, ℕ, List, [], ◌∷◌, ◌++◌, length, drop, refl, sym, ap, ◌∙◌, arith}
use Rattle.std.specs.List.{All, before_first}
use Rattle.std.specs.Str.Lines.{strip_carriage_return}
use Rattle.std.proofs.lemmas.List.{append-nil}
use Rattle.std.proofs.lemmas.List.Elements.{All-nil, All-cons}
use Rattle.std.proofs.lemmas.List.Splits.{length-slice_split}
use Rattle.gt_scan.specs.declared.token.Token.{Token}
use Rattle.gt_scan.specs.Tokens.{is_blank, is_line_feed, with_token, tokens_among, tokens_of_line, tokens_of_lines, next, IsSpan}
use Rattle.gt_scan.proofs.Parts.{parts_behind, parts_behind-cut, parts_behind-end, parts_behind-inside}

with_token-append : (line at : ℕ) (part : List ℕ) (tokens : List Token) → with_token line at part tokens ≡ with_token line at part [] ++ tokens
with_token-append line at [] tokens = refl
with_token-append line at (b ∷ bs) tokens = refl

-- the next word of a line
pub tokens_among-cut : (line start at : ℕ) (bytes word : List ℕ) → at ≤ length bytes → word ≡ before_first is_blank (drop at bytes)
    → tokens_among line (start + at) (parts_behind is_blank at bytes) ≡ with_token line (start + at) word [] ++ tokens_among line (start + (at + (length word + 1))) (parts_behind is_blank (at + (length word + 1)) bytes)
tokens_among-cut line start at bytes word inside is =
    let place : start + at + (length word + 1) ≡ start + (at + (length word + 1)) = omega arith in
    let more : List (List ℕ) = parts_behind is_blank (at + (length word + 1)) bytes in
    let cut : parts_behind is_blank at bytes ≡ word ∷ more = rw is (parts_behind-cut is_blank at bytes inside) in
    ap (tokens_among line (start + at)) cut ∙ (with_token-append line (start + at) word (tokens_among line (start + at + (length word + 1)) more)
    ∙ ap (λ k. with_token line (start + at) word [] ++ tokens_among line k more) place)

pub spans-with_token : (n line at : ℕ) (part : List ℕ) → at + length part ≤ n → All (IsSpan n) (with_token line at part [])
spans-with_token n line at [] h = All-nil (IsSpan n)
spans-with_token n line at (b ∷ bs) h = All-cons (IsSpan n) _ [] (omega arith, h) (All-nil (IsSpan n))

-- the bytes of a line without its end: of the last one all
abbrev pub bytes_of : List ℕ → List (List ℕ) → List ℕ
bytes_of whole [] = whole
bytes_of whole (part ∷ parts) = strip_carriage_return whole

tokens_of_lines-cons : (line at : ℕ) (whole : List ℕ) (more : List (List ℕ))
    → tokens_of_lines line at (whole ∷ more) ≡ tokens_of_line line at (bytes_of whole more) ++ tokens_of_lines (next line) (at + (length whole + 1)) more
tokens_of_lines-cons line at whole [] = sym (append-nil (tokens_of_line line at whole))
tokens_of_lines-cons line at whole (part ∷ parts) = refl

bytes_of-some : (whole : List ℕ) (more : List (List ℕ)) → 0 < length more → bytes_of whole more ≡ strip_carriage_return whole
bytes_of-some whole [] h = absurd (omega arith)
bytes_of-some whole (part ∷ parts) h = refl

-- the last line of a text
pub tokens_of_lines-last : (line at : ℕ) (text whole : List ℕ) → at ≤ length text → whole ≡ before_first is_line_feed (drop at text)
    → length text < at + (length whole + 1)
    → tokens_of_lines line at (parts_behind is_line_feed at text) ≡ tokens_of_line line at whole ++ tokens_of_lines (next line) (at + (length whole + 1)) (parts_behind is_line_feed (at + (length whole + 1)) text)
tokens_of_lines-last line at text whole inside is last =
    let more : List (List ℕ) = parts_behind is_line_feed (at + (length whole + 1)) text in
    let cut : parts_behind is_line_feed at text ≡ whole ∷ more = rw is (parts_behind-cut is_line_feed at text inside) in
    let bytes : bytes_of whole more ≡ whole = ap (bytes_of whole) (parts_behind-end is_line_feed (at + (length whole + 1)) text last) in
    ap (tokens_of_lines line at) cut ∙ (tokens_of_lines-cons line at whole more
    ∙ ap (λ bs. tokens_of_line line at bs ++ tokens_of_lines (next line) (at + (length whole + 1)) more) bytes)

-- a line in front of another
pub tokens_of_lines-more : (line at : ℕ) (text whole : List ℕ) → at ≤ length text → whole ≡ before_first is_line_feed (drop at text)
    → at + (length whole + 1) ≤ length text
    → tokens_of_lines line at (parts_behind is_line_feed at text) ≡ tokens_of_line line at (strip_carriage_return whole) ++ tokens_of_lines (next line) (at + (length whole + 1)) (parts_behind is_line_feed (at + (length whole + 1)) text)
tokens_of_lines-more line at text whole inside is more_text =
    let rest : ℕ = at + (length whole + 1) in
    let more : List (List ℕ) = parts_behind is_line_feed rest text in
    let cut : parts_behind is_line_feed at text ≡ whole ∷ more = rw is (parts_behind-cut is_line_feed at text inside) in
    let some : 0 < length more = rw (parts_behind-inside is_line_feed rest text more_text, length-slice_split is_line_feed (drop rest text)) (omega arith) in
    let bytes : bytes_of whole more ≡ strip_carriage_return whole = bytes_of-some whole more some in
    ap (tokens_of_lines line at) cut ∙ (tokens_of_lines-cons line at whole more
    ∙ ap (λ bs. tokens_of_line line at bs ++ tokens_of_lines (next line) rest more) bytes)
