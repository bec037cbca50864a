use Rattle.std.proofs.Common.{◌≡◌, ◌≤◌, length}
use Rattle.gt_lines.specs.Words.{lines_from}
use Rattle.gt_lines.proofs.lines.next_line.Given as goal

abbrev pub invariant-loop-line : goal.invariant-loop-line
invariant-loop-line l = record {
  left : lines_from l.at l.left ≡ lines_from l.number l.text;
  short : length l.left ≤ length l.text;
}

abbrev pub decreases-loop-line : goal.decreases-loop-line
decreases-loop-line l = length l.left
