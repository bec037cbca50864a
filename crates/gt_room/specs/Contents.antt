-- What a contract sees of a room.
use Rattle.std.specs.Prelude.{ℕ, List, refl}
use Rattle.std.specs.Coded.{Coded, code_by, coded×, coded_ℕ, coded_list}

-- the items, in order, and how many more fit without memory
pub record Contents (T : Type 0) : Type 0 where
  pub items : List T
  pub spare : ℕ

-- contents are stored as the pair of their fields
abbrev pub contents_code : {T : Type 0} → Coded T → Coded (Contents T)
contents_code {T} code =
    code_by (List T × ℕ) (coded× (coded_list code) coded_ℕ) (λ c. (c.items, c.spare))
    (λ p. record { items = p.0; spare = p.1 }) (λ _. refl)
