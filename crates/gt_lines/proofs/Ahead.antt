-- A line, and what is left behind it.
use Rattle.std.proofs.Common.{◌≡◌, ℕ, ◌+◌, Bool, true, false, not, ◌∷◌, length, Option, Some, None, refl, sym, ap, ◌∙◌}
use Rattle.std.specs.Option.{is_some}
use Rattle.gt_lines.specs.declared.lines.Line.{Line}
use Rattle.gt_lines.specs.Words.{lines_from, next, is_end}
use Rattle.gt_lines.specs.Lines.{line_at, lines_at}

-- how many bytes are left behind a line, and one for the line
abbrev pub bytes_left : Option Line → ℕ
bytes_left None = 0
bytes_left (Some line) = length line.after.now + 1

pub lines-ahead : (ahead ahead' : Option Line) (line : Line) (n : ℕ) → ahead ≡ Some line → lines_at ahead' ≡ lines_from n line.after.now → n ≡ next line.number → lines_at ahead ≡ line_at line ∷ lines_at ahead'
lines-ahead ahead ahead' line n is h e = ap lines_at is ∙ ap (λ r. line_at line ∷ r) (sym (h ∙ ap (λ m. lines_from m line.after.now) e))

pub last-is : (o : Option Line) (b : Bool) → is_some o ≡ not b → b ≡ is_end (lines_at o)
last-is None true h = refl
last-is None false h = cc
last-is (Some line) true h = cc
last-is (Some line) false h = refl
