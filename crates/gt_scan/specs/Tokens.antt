-- The tokens of a text.
use Rattle.std.specs.Prelude.{ℕ, ◌+◌, ◌-◌, ◌^◌, ◌==◌, ◌≡◌, ◌<◌, ◌≤◌, min, Bool, false, ◌||◌, if◌then◌else◌, List, [], ◌∷◌, ◌++◌, length, take, fold, IsUtf8}
use Rattle.std.specs.List.{slice_split}
use Rattle.std.specs.Str.Lines.{strip_carriage_return}
use Rattle.std.specs.Str.Lossy.{utf8_valid_len}
use Rattle.gt_scan.specs.declared.token.Token.{Token}
use Rattle.gt_scan.specs.declared.token.ScanFault.{ScanFault}
use Rattle.gt_scan.specs.declared.token.ScanFault.TheVariants.{Utf8, NoMemory}

-- what separates words: a space or a tab
abbrev pub is_blank : ℕ → Bool
is_blank b = b == 32 || b == 9

abbrev pub is_line_feed : ℕ → Bool
is_line_feed b = b == 10

-- the first byte of a comment that is no blank is `#`
abbrev pub is_comment : List ℕ → Bool
is_comment [] = false
is_comment (b ∷ bs) = if is_blank b then is_comment bs else b == 35

-- what stands between two blanks is a token, unless it is empty
abbrev pub with_token : ℕ → ℕ → List ℕ → List Token → List Token
with_token line at [] tokens = tokens
with_token line at (b ∷ bs) tokens = record { line = line; from = at; to = at + length (b ∷ bs) } ∷ tokens

-- the tokens among the parts between blanks, where the first part starts at the byte `at`
abbrev pub tokens_among : ℕ → ℕ → List (List ℕ) → List Token
tokens_among line at [] = []
tokens_among line at (part ∷ parts) = with_token line at part (tokens_among line (at + (length part + 1)) parts)

-- the tokens of a line without its end, which starts at the byte `at`
abbrev pub tokens_of_line : ℕ → ℕ → List ℕ → List Token
tokens_of_line line at bytes = if is_comment bytes then [] else tokens_among line at (slice_split is_blank bytes)

-- the next number; a count of 32 bits stands still at its end
abbrev pub next : ℕ → ℕ
next n = min (n + 1) (2 ^ 32 - 1)

-- the tokens of the parts between line feeds, where the first has this number and starts at the byte `at`; only a part in
-- front of a line feed loses its carriage return
abbrev pub tokens_of_lines : ℕ → ℕ → List (List ℕ) → List Token
tokens_of_lines line at [] = []
tokens_of_lines line at (part ∷ []) = tokens_of_line line at part
tokens_of_lines line at (part ∷ part' ∷ parts) =
    tokens_of_line line at (strip_carriage_return part) ++ tokens_of_lines (next line) (at + (length part + 1)) (part' ∷ parts)

abbrev pub tokens_of : List ℕ → List Token
tokens_of text = tokens_of_lines 1 0 (slice_split is_line_feed text)

-- the number of the line behind this front of a text
abbrev pub line_number : List ℕ → ℕ
line_number front = fold (λ n b. if is_line_feed b then next n else n) 1 front

-- a token with some bytes, all in a text of this length
abbrev pub IsSpan : ℕ → Token → Type 0
IsSpan n t = (t.from < t.to) × (t.to ≤ n)

-- the fault of a text: it is not UTF-8, and the line is that of the first byte at which it is not
abbrev pub IsFault : List ℕ → ScanFault → Type 0
IsFault text (Utf8 line) = ¬ (IsUtf8 text) × (line ≡ line_number (take (utf8_valid_len text) text))
IsFault text NoMemory = ⊥
