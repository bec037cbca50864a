-- Numbers.
use Rattle.std.specs.Prelude.{ℕ, ◌+◌, ◌-◌, ◌*◌, ◌^◌, nat_lt, nat_le, ◌&&◌, if◌then◌else◌, List, length, fold}
use Rattle.std.specs.List.{list_all}
use Rattle.std.specs.declared.option.Option.{Option}
use Rattle.std.specs.declared.option.Option.TheVariants.{None, Some}
use Rattle.gt_model.specs.Good.{is_digit}

-- the value of decimal digits
abbrev pub value_of : List ℕ → ℕ
value_of digits = fold (λ n b. 10 * n + (b - 48)) 0 digits

-- the number of 32 bits that a word spells: one or more decimal digits, of which the first ones may be 0
abbrev pub number_of : List ℕ → Option ℕ
number_of word =
    if nat_lt 0 (length word) && list_all is_digit word && nat_le (value_of word) (2 ^ 32 - 1) then Some (value_of word) else None
