-- The lines of a text from where a reader stands.
use Rattle.std.specs.Prelude.{List, [], ◌∷◌}
use Rattle.std.specs.declared.option.Option.{Option}
use Rattle.std.specs.declared.option.Option.TheVariants.{None, Some}
use Rattle.gt_lines.specs.declared.lines.Line.{Line}
use Rattle.gt_lines.specs.Words.{NumberedLine, words_of, lines_from, next}

-- the line that a reader stands at
abbrev pub line_at : Line → NumberedLine
line_at line = record { number = line.number; words = line.word.now ∷ words_of line.rest.now }

-- the lines from there on
abbrev pub lines_at : Option Line → List NumberedLine
lines_at None = []
lines_at (Some line) = line_at line ∷ lines_from (next line.number) line.after.now
