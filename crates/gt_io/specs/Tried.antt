-- What contracts see of a writer as a sink.
use Rattle.std.specs.Prelude.{ℕ, refl}
use Rattle.std.specs.Coded.{Coded, code_by, coded×, coded_ℕ}

-- the writer, and how often it failed
pub record Tried (W : Type 0) : Type 0 where
  pub writer : W
  pub faults : ℕ

-- it is stored as the pair of its fields
abbrev pub tried_code : {W : Type 0} → Coded W → Coded (Tried W)
tried_code {W} code =
    code_by (W × ℕ) (coded× code coded_ℕ) (λ t. (t.writer, t.faults)) (λ p. record { writer = p.0; faults = p.1 }) (λ _. refl)
