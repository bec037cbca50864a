-- What a room ends as, where a `&mut` to one of its items is returned.
use Rattle.std.specs.Prelude.{ℕ, slice_set}
use Rattle.std.specs.Borrow.{Lends, Fml, RattleType, MutBor}
use Rattle.gt_room.specs.Contents.{Contents}
use Rattle.gt_room.specs.contracts.Room.{the_row}

-- the item at place i is x, and nothing else changes
abbrev pub with_item : {T : Type 0} → Contents T → ℕ → T → Contents T
with_item c i x = record c { items = slice_set c.items i x }

module _ (T : RattleType) where
  -- once the borrow r ends, the item at place i is the last value written through r
  abbrev pub LendsItem : MutBor (Contents T.Denot) → ℕ → MutBor T.Denot → Fml
  LendsItem room i r = Lends (the_row T) T room r (with_item room.now i)
