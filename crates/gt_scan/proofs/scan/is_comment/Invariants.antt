use Rattle.std.proofs.Common.{◌≡◌, drop}
use Rattle.gt_scan.specs.Tokens.{is_comment}
use Rattle.gt_scan.proofs.scan.is_comment.Given as goal

abbrev pub invariant-loop-b : goal.invariant-loop-b
invariant-loop-b l = is_comment (drop l.b-index l.line) ≡ is_comment l.line
