-- Decimal numbers.
use Rattle.std.specs.Prelude.{ℕ, ◌+◌, ◌-◌, ◌*◌, Bool, false, List, [], ◌∷◌, fold}
use Rattle.std.specs.List.{list_all}
use Rattle.std.specs.Char.{is_ascii_digit}

-- one or more digits
abbrev pub is_number : List ℕ → Bool
is_number [] = false
is_number (b ∷ bs) = list_all is_ascii_digit (b ∷ bs)

-- the value of decimal digits
abbrev pub value_of : List ℕ → ℕ
value_of digits = fold (λ n b. 10 * n + (b - 48)) 0 digits
