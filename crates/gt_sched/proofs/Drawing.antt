-- Turns that a generator draws, one after another.
use Rattle.std.proofs.Common.{◌≡◌, ◌+◌, ◌-◌, ◌<◌, ◌%◌, ℕ, suc, List, ◌∷◌, refl, arith}
use Rattle.std.specs.Prelude.{map}
use Rattle.rand_pcg.specs.Lcg.{Lcg}
use Rattle.rand_pcg.specs.Pcg.{pcg32}
use Rattle.gt_sched.specs.Schedules.{words}

abbrev pub drawn_by : ℕ → ℕ → Lcg → List ℕ
drawn_by n ps g = map (λ w. w % ps) (words n g)

pub drawn_by-more : (i n ps : ℕ) (g : Lcg) → i < n → drawn_by (n - i) ps g ≡ (pcg32 g).0 % ps ∷ drawn_by (n - (i + 1)) ps (pcg32 g).1
drawn_by-more i n ps g h = let e : n - i ≡ suc (n - (i + 1)) = omega arith in rw e refl
