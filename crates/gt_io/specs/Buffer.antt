-- What contracts see of a sink that keeps bytes back.
use Rattle.std.specs.Prelude.{ℕ, List, ◌++◌, Option, Some, None, refl}
use Rattle.std.specs.Coded.{Coded, code_by, coded×, coded_ℕ, coded_list}

-- the sink below, and the bytes that were taken and not passed on yet
pub record Buffer (K : Type 0) : Type 0 where
  pub sink : K
  pub kept : List ℕ

-- a buffer is stored as the pair of its fields
abbrev pub buffer_code : {K : Type 0} → Coded K → Coded (Buffer K)
buffer_code {K} code =
    code_by (K × List ℕ) (coded× code (coded_list coded_ℕ)) (λ b. (b.sink, b.kept))
    (λ p. record { sink = p.0; kept = p.1 }) (λ _. refl)

-- known bytes, and then these
abbrev pub and_then : Option (List ℕ) → List ℕ → Option (List ℕ)
and_then None kept = None
and_then (Some bytes) kept = Some (bytes ++ kept)

-- all that was taken: what the sink below has, and then what is kept back
abbrev pub taken : {K : Type 0} → (K → Option (List ℕ)) → Buffer K → Option (List ℕ)
taken written b = and_then (written b.sink) b.kept
