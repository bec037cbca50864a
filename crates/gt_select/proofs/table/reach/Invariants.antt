use Rattle.std.proofs.Common.{◌≡◌, ◌+◌, length}
use Rattle.gt_select.proofs.Tables.{table_of}
use Rattle.gt_select.proofs.table.reach.Given as goal

abbrev pub invariant-loop-used : goal.invariant-loop-used
invariant-loop-used l = record {
  table : table_of l.used.items l.used.spare ≡ table_of l.fn.used.items l.fn.used.spare;
  room : length l.used.items + l.used.spare ≡ length l.fn.used.items + l.fn.used.spare;
}

abbrev pub decreases-loop-used : goal.decreases-loop-used
decreases-loop-used l = l.used.spare
