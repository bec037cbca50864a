use Rattle.std.proofs.Common.{◌≡◌, ◌+◌, replicate}
use Rattle.gt_room.proofs.Room.fill.Given as goal

abbrev pub invariant-loop : goal.invariant-loop
invariant-loop g l = (l.room.items ≡ replicate l.counter l.x) × (l.room.spare + l.counter ≡ l.n)
