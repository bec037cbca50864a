-- Duration texts.
use Rattle.std.specs.Prelude.{ℕ, ◌-◌, ◌^◌, ◌==◌, nat_le, min, length, Bool, true, false, not, ◌&&◌, ◌||◌, IsTrue, if◌then◌else◌, List, [], ◌∷◌, sum_by, codes, Option, None, Some, Result, Ok, Err}
use Rattle.std.specs.List.{list_all}
use Rattle.std.specs.Str.{bytes_eq}
use Rattle.gt_model.specs.Good.{is_digit}
use Rattle.gt_model.specs.Times.{greatest_time}
use Rattle.gt_dur.specs.declared.fault.DurFault.{DurFault}
use Rattle.gt_dur.specs.Pairs.{pairs_of, has_unit, amount_of, unmet_from}

abbrev pub begins_with_digit : List ℕ → Bool
begins_with_digit [] = false
begins_with_digit (b ∷ bs) = is_digit b

-- the text is empty or begins with a digit
abbrev pub is_at_digits : List ℕ → Bool
is_at_digits [] = true
is_at_digits (b ∷ bs) = is_digit b

-- there is a first byte, and it is no digit
abbrev pub BeginsWithoutDigit : List ℕ → Type 0
BeginsWithoutDigit [] = ⊥
BeginsWithoutDigit (b ∷ bs) = IsTrue (not (is_digit b))

-- the text `0`, or one or more pairs of a digit run and a unit
abbrev pub is_duration : List ℕ → Bool
is_duration text = bytes_eq text (codes "0") || begins_with_digit text && list_all has_unit (pairs_of text)

-- the sum of the pairs, in nanoseconds
abbrev pub nanoseconds_of : List ℕ → ℕ
nanoseconds_of text = sum_by amount_of (pairs_of text)

-- the place behind the first digit run that no unit follows
abbrev pub unmet_place : List ℕ → Option ℕ
unmet_place text = unmet_from 0 (pairs_of text)

-- the sum of the pairs, or the greatest `u64` where it is greater, unless a unit is missing
abbrev pub total_of : Option ℕ → ℕ → Result ℕ DurFault
total_of (Some at) n = Err (DurFault.Unit at)
total_of None n = Ok (min n (2 ^ 64 - 1))

-- a time that a clock can show
abbrev pub capped : ℕ → Result ℕ DurFault
capped n = if nat_le n greatest_time then Ok n else Err DurFault.Big

-- the sum of the pairs, unless a unit is missing or the sum is too big
abbrev pub outcome_of : Option ℕ → ℕ → Result ℕ DurFault
outcome_of (Some at) n = Err (DurFault.Unit at)
outcome_of None n = capped n

-- what reading a text gives
abbrev pub read_of : List ℕ → Result ℕ DurFault
read_of text =
    if length text == 0 then Err DurFault.Empty
    else (if bytes_eq text (codes "0") then Ok 0
    else (if begins_with_digit text then outcome_of (unmet_place text) (nanoseconds_of text) else Err DurFault.Digit))
