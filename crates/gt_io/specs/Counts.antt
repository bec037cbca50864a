-- Counts that rise. A count is kept as a u64, and at the greatest u64, 2 ^ 64 - 1, it stops. One that
-- stopped there counts as having risen, by any amount.
use Rattle.std.specs.Prelude.{◌≡◌, ℕ, ◌+◌, ◌-◌, ◌^◌, ◌<◌, ◌≤◌}

-- the count rose, by 1 at the least
pub record Rose (before now : ℕ) : Type 0 where
  pub never_fell : before ≤ now
  pub is_above : now < 2 ^ 64 - 1 → before < now

-- the count rose by n
pub record RoseBy (n before now : ℕ) : Type 0 where
  pub never_fell : before ≤ now
  pub is_sum : now < 2 ^ 64 - 1 → now ≡ before + n
