use Rattle.std.proofs.Common.{◌+◌, ◌-◌, ◌<◌, ◌≤◌, length, vec_len}
use Rattle.gt_io.specs.Bytes.{Taken}
use Rattle.gt_io.specs.Counts.{RoseBy}
use Rattle.gt_io.proofs.whole.read_to_limit.Given as goal

abbrev pub invariant-loop-piece : goal.invariant-loop-piece
invariant-loop-piece g l = record {
  piece : 0 < vec_len l.piece;
  within : length l.read.items ≤ l.limit + 1;
  counted : RoseBy (length l.read.items) (g.S.Source.given l.fn.source) (g.S.Source.given l.source);
  taken : Taken (g.S.Source.left l.fn.source) (g.S.Source.left l.source) l.read.items;
  faults_never_fall : g.S.Source.faults l.fn.source ≤ g.S.Source.faults l.source;
}

abbrev pub decreases-loop-piece : goal.decreases-loop-piece
decreases-loop-piece g l = l.limit + 1 - length l.read.items
