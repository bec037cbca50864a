-- Whether an option is a given number.
use Rattle.std.proofs.Common.{◌≡◌, ℕ, Option, Some, None, true, false, eqb, ap, sym, ◌∙◌}
use Rattle.std.specs.Option.{option_eq}
use Rattle.std.proofs.lemmas.Bool.{eqb-true, eq-eqb, false≢true}

pub is_some_of : (x : Option ℕ) (n : ℕ) → option_eq eqb x (Some n) ≡ true → x ≡ Some n
is_some_of None n e = absurd (false≢true e)
is_some_of (Some m) n e = ap Some (eqb-true m n e)

pub is_not_some_of : (x : Option ℕ) (n : ℕ) → option_eq eqb x (Some n) ≡ false → x ≡ Some n → ⊥
is_not_some_of None n e same = cc
is_not_some_of (Some m) n e same =
    let here : m ≡ n = cc in
    false≢true (sym e ∙ eq-eqb m n here)
