use Rattle.std.proofs.Common.{◌≡◌, ◌≤◌, ◌+◌, length}
use Rattle.gt_runner.specs.Begun.{AreUpTo}
use Rattle.gt_runner.proofs.begin.first_records.Given as goal

abbrev pub invariant-loop-id : goal.invariant-loop-id
invariant-loop-id l = AreUpTo l.fn.script l.id l.records × (length l.records.items + l.records.spare ≡ l.fn.count) × (l.id ≤ length l.fn.script.decls)
