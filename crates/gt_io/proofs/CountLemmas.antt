-- What follows from the rise of a count.
use Rattle.std.proofs.Common.{ℕ, ◌≤◌, arith}
use Rattle.gt_io.specs.Counts.{Rose}

-- a rise is one from any earlier count too
pub ≤-then_Rose : {a b c : ℕ} → a ≤ b → Rose b c → Rose a c
≤-then_Rose {a} {b} {c} stays rose =
    record { never_fell = omega (arith, rose.never_fell); is_above = omega (arith, rose.never_fell, rose.is_above) }
