-- The lines and the words of a text.
use Rattle.std.specs.Prelude.{ℕ, ◌+◌, ◌-◌, ◌^◌, ◌==◌, min, Bool, true, false, not, ◌||◌, if◌then◌else◌, List, [], ◌∷◌, filter}
use Rattle.std.specs.List.{slice_split}
use Rattle.std.specs.Str.Lines.{lines}

-- the words of a line, each a list of bytes
abbrev pub Words : Type 0
Words = List (List ℕ)

-- what separates words: a space or a tab
abbrev pub is_blank : ℕ → Bool
is_blank b = b == 32 || b == 9

abbrev pub has_bytes : List ℕ → Bool
has_bytes [] = false
has_bytes (b ∷ bs) = true

-- the words of a line: what stands between blanks
abbrev pub words_of : List ℕ → Words
words_of line = filter has_bytes (slice_split is_blank line)

-- a comment begins with `#`
abbrev pub is_comment : List ℕ → Bool
is_comment [] = false
is_comment (b ∷ bs) = b == 35

-- whether a line counts: it has words, and is no comment
abbrev pub is_significant : Words → Bool
is_significant [] = false
is_significant (word ∷ words) = not (is_comment word)

-- a line that counts, with its number in the text
pub record NumberedLine : Type 0 where
  pub number : ℕ
  pub words : Words

-- the next number; a count of 32 bits stands still at its end
abbrev pub next : ℕ → ℕ
next n = min (n + 1) (2 ^ 32 - 1)

-- the lines that count, where the first line has this number
abbrev pub numbered_from : ℕ → List (List ℕ) → List NumberedLine
numbered_from number [] = []
numbered_from number (line ∷ lines) =
    if is_significant (words_of line) then record { number = number; words = words_of line } ∷ numbered_from (next number) lines
    else numbered_from (next number) lines

-- the lines of a text that count, where its first line has this number
abbrev pub lines_from : ℕ → List ℕ → List NumberedLine
lines_from number text = numbered_from number (lines text)

abbrev pub numbered_lines : List ℕ → List NumberedLine
numbered_lines text = lines_from 1 text

-- whether no line is left
abbrev pub is_end : List NumberedLine → Bool
is_end [] = true
is_end (line ∷ lines) = false
