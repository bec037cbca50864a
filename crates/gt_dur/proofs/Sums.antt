-- Sums that stand still at a greatest number.
use Rattle.std.proofs.Common.{◌≡◌, ◌≤◌, ◌*◌, ℕ, zero, suc, min, refl, arith, inl, inr}
use Rattle.std.proofs.Math.Nat.{le-mul_of_pos_right, zero-lt-suc}
use Rattle.std.proofs.lemmas.Bool.{cases_lt}

pub min-mul_min : (n k most : ℕ) → min (min n most * k) most ≡ min (n * k) most
min-mul_min n zero most = grind arith
min-mul_min n (suc j) most =
    elim (cases_lt n most) [
      | inl below ↦ let e : min n most ≡ n = omega arith in rw e refl
      | inr above ↦
          let e : min n most ≡ most = omega arith in
          let a : n ≤ n * suc j = le-mul_of_pos_right n (zero-lt-suc j) in
          let b : most ≤ most * suc j = le-mul_of_pos_right most (zero-lt-suc j) in
          rw e (omega arith)
    ]
