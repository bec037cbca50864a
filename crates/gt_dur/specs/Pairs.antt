-- The digit runs of a text, and the units behind them.
use Rattle.std.specs.Prelude.{ℕ, ◌+◌, ◌-◌, ◌*◌, ◌<◌, ◌≡◌, Bool, not, IsTrue, if◌then◌else◌, List, [], ◌∷◌, ◌++◌, length, fold, codes, is_some, unwrap_or, Option, None, Some}
use Rattle.std.specs.List.{list_all}
use Rattle.std.specs.Str.{bytes_eq}
use Rattle.gt_model.specs.Good.{is_digit}

-- a digit run, and the bytes behind it that are no digits
pub record Pair : Type 0 where
  pub digits : List ℕ
  pub unit : List ℕ

-- the pairs of a text with one more digit in front
abbrev pub with_digit : ℕ → List Pair → List Pair
with_digit b [] = record { digits = b ∷ []; unit = [] } ∷ []
with_digit b (p ∷ ps) = record { digits = b ∷ p.digits; unit = p.unit } ∷ ps

-- the pairs of a text with one more byte in front that is no digit: it joins a unit that has no digit run yet
abbrev pub with_unit_byte : ℕ → List Pair → List Pair
with_unit_byte b [] = record { digits = []; unit = b ∷ [] } ∷ []
with_unit_byte b (p ∷ ps) = in_front_of p.digits
  where
    in_front_of : List ℕ → List Pair
    in_front_of [] = record { digits = []; unit = b ∷ p.unit } ∷ ps
    in_front_of (d ∷ ds) = record { digits = []; unit = b ∷ [] } ∷ p ∷ ps

-- the pairs of a text, from the front on; only the first may have no digits, and only the last no unit
abbrev pub pairs_of : List ℕ → List Pair
pairs_of [] = []
pairs_of (b ∷ bs) = if is_digit b then with_digit b (pairs_of bs) else with_unit_byte b (pairs_of bs)

-- the text that pairs make
abbrev pub joined : List Pair → List ℕ
joined [] = []
joined (p ∷ ps) = p.digits ++ p.unit ++ joined ps

-- the digits of a pair are digits, the bytes of its unit are none, and it is not empty
pub record IsPair (p : Pair) : Type 0 where
  pub digits : IsTrue (list_all is_digit p.digits)
  pub unit : IsTrue (list_all (λ b. not (is_digit b)) p.unit)
  pub some : 0 < length p.digits + length p.unit

-- between two pairs a unit ends and a digit run begins
abbrev pub AreWhole : List Pair → Type 0
AreWhole [] = Unit {0}
AreWhole (p ∷ []) = IsPair p
AreWhole (p ∷ q ∷ ps) = IsPair p × (0 < length p.unit) × (0 < length q.digits) × AreWhole (q ∷ ps)

-- the pairs make the text, and no run is cut or joined
pub record SplitsInto (text : List ℕ) (pairs : List Pair) : Type 0 where
  pub text_is : joined pairs ≡ text
  pub whole : AreWhole pairs

-- the nanoseconds of a unit; the signs of `µs` and `μs` are U+00B5 and U+03BC
unfoldable pub unit_of : List ℕ → Option ℕ
unit_of unit =
    if bytes_eq unit (codes "ns") then Some 1
    else (if bytes_eq unit (codes "us") then Some 1000
    else (if bytes_eq unit (0xc2 ∷ 0xb5 ∷ codes "s") then Some 1000
    else (if bytes_eq unit (0xce ∷ 0xbc ∷ codes "s") then Some 1000
    else (if bytes_eq unit (codes "ms") then Some 1000000
    else (if bytes_eq unit (codes "s") then Some 1000000000
    else (if bytes_eq unit (codes "m") then Some 60000000000
    else (if bytes_eq unit (codes "h") then Some 3600000000000 else None)))))))

abbrev pub has_unit : Pair → Bool
has_unit p = is_some (unit_of p.unit)

-- the value of decimal digits
abbrev pub value_of : List ℕ → ℕ
value_of digits = fold (λ n b. 10 * n + (b - 48)) 0 digits

-- the nanoseconds of a pair
abbrev pub amount_of : Pair → ℕ
amount_of p = value_of p.digits * unwrap_or (unit_of p.unit) 0

-- the place behind the first digit run that no unit follows, where the pairs begin at the place `from`
abbrev pub unmet_from : ℕ → List Pair → Option ℕ
unmet_from from [] = None
unmet_from from (p ∷ ps) =
    if has_unit p then unmet_from (from + length p.digits + length p.unit) ps
    else Some (from + length p.digits)
