use Rattle.std.proofs.Common.{◌≡◌, [], ◌∷◌}
use Rattle.std.specs.List.{range_with_len}
use Rattle.gt_sync.proofs.moving.all_below.Given as goal

abbrev pub invariant-loop-number : goal.invariant-loop-number
invariant-loop-number l = record {
  queues : l.numbers.queues ≡ range_with_len 0 l.number ∷ [];
  members : l.numbers.members ≡ l.count;
}
