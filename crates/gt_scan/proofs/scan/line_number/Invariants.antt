use Rattle.std.proofs.Common.{◌≡◌, take}
use Rattle.gt_scan.specs.Tokens.{line_number}
use Rattle.gt_scan.proofs.scan.line_number.Given as goal

abbrev pub invariant-loop-b : goal.invariant-loop-b
invariant-loop-b l = l.number ≡ line_number (take l.b-index l.front)
