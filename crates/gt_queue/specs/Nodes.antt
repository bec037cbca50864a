-- The links of all nodes, where those of the last members were not written yet.
use Rattle.std.specs.Prelude.{◌≡◌, ℕ, ◌+◌, ◌-◌, ◌^◌, ◌<◌, List, ◌++◌, length}
use Rattle.std.specs.List.{range_with_len}
use Rattle.gt_room.specs.Contents.{Contents}

-- a member whose link was not written is its own
unfoldable pub nodes_of : ℕ → List ℕ → List ℕ → List ℕ
nodes_of members low high = low ++ (range_with_len (length low) (members - length low) ++ high)

pub record HaveRoom (members : ℕ) (low : Contents ℕ) (high : List ℕ) : Type 0 where
  pub room : length low.items + low.spare ≡ members
  pub few : members + length high < 2 ^ 32
