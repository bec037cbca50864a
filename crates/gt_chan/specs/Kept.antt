-- What a channel's fields keep.
use Rattle.std.specs.Prelude.{◌≡◌, ℕ, ◌+◌, ◌≤◌, ◌<◌, ◌^◌, Bool, false, Option, None, List, [], length}

-- its items, with room for so many, and the number of its first list
pub record IsKept (world : Option ℕ) (capacity : ℕ) (items : List ℕ) (room : ℕ) (closed : Bool) (list : ℕ) : Type 0 where
  pub few : length items ≤ capacity
  pub space : room ≡ capacity
  pub numbers : list + 1 < 2 ^ 32
  pub empty : world ≡ None → items ≡ []
  pub opened : world ≡ None → closed ≡ false
