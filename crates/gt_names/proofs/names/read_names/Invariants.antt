use Rattle.std.proofs.Common.{◌≡◌, ℕ, List}
use Rattle.gt_lines.specs.Words.{numbered_lines}
use Rattle.gt_lines.specs.Lines.{lines_at}
use Rattle.gt_lines.proofs.Ahead.{bytes_left}
use Rattle.gt_names.specs.Known.{known_with}
use Rattle.gt_names.specs.Names.{names_of}
use Rattle.gt_names.proofs.names.read_names.Given as goal

abbrev pub invariant-loop-ahead : goal.invariant-loop-ahead
invariant-loop-ahead l = (q : List ℕ) → known_with l.names (lines_at l.ahead) q ≡ names_of (numbered_lines l.text) q

abbrev pub decreases-loop-ahead : goal.decreases-loop-ahead
decreases-loop-ahead l = bytes_left l.ahead
