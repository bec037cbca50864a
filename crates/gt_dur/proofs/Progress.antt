-- How far the pairs of a text are read.
use Rattle.std.proofs.Common.{◌≡◌, ◌≤◌, ◌+◌, ◌-◌, ◌*◌, ◌^◌, ℕ, sum_by, Bool, true, eqb, IsTrue, List, [], ◌∷◌, length, Some, None, Ok, min, refl, sym, ap, ◌∙◌, arith}
use Rattle.std.proofs.lemmas.Bool.{eqb-true}
use Rattle.std.proofs.lemmas.List.Sums.{sum_by-cons}
use Rattle.gt_dur.specs.Pairs.{Pair, pairs_of, unit_of, value_of, amount_of, unmet_from}
use Rattle.gt_dur.specs.Duration.{is_at_digits, unmet_place, nanoseconds_of, total_of}
use Rattle.gt_dur.proofs.Runs.{pairs_with}

abbrev pub most : ℕ
most = 2 ^ 64 - 1

-- the rest of a text is still to read, and the pairs in front of it have units and this total
pub record IsRead (text rest : List ℕ) (total : ℕ) : Type 0 where
  pub starts : IsTrue (is_at_digits rest)
  pub within : length rest ≤ length text
  pub unmet : unmet_from (length text - length rest) (pairs_of rest) ≡ unmet_place text
  pub small : total ≤ most
  pub sum : min (total + nanoseconds_of rest) most ≡ min (nanoseconds_of text) most

unmet_from-met : (from k : ℕ) (p : Pair) (ps : List Pair) → unit_of p.unit ≡ Some k
    → unmet_from from (p ∷ ps) ≡ unmet_from (from + length p.digits + length p.unit) ps
unmet_from-met from k p ps h = simp h

amount_of-met : (k : ℕ) (p : Pair) → unit_of p.unit ≡ Some k → amount_of p ≡ value_of p.digits * k
amount_of-met k p h = simp h

min-sum : (total n amount tail most : ℕ) → min (total + min amount most) most ≡ n
    → min (n + tail) most ≡ min (total + (amount + tail)) most
min-sum total n amount tail most h = omega arith

-- one more pair is read
pub read_more : (text rest digits unit next : List ℕ) (total k n : ℕ) → IsRead text rest total
    → pairs_of rest ≡ pairs_with digits unit next
    → length digits + length unit + length next ≡ length rest
    → IsTrue (is_at_digits next)
    → unit_of unit ≡ Some k
    → n ≡ min (total + min (value_of digits * k) most) most
    → IsRead text next n
read_more text rest digits unit next total k n read first lengths starts met is =
    let p : Pair = record { digits = digits; unit = unit } in
    let within : length rest ≤ length text = read.within in
    let place : length text - length rest + length digits + length unit ≡ length text - length next = omega arith in
    let step = unmet_from-met (length text - length rest) k p (pairs_of next) met in
    let sums : nanoseconds_of rest ≡ value_of digits * k + nanoseconds_of next =
    ap (λ ps. sum_by amount_of ps) first ∙ sum_by-cons amount_of p (pairs_of next)
    ∙ ap (λ a. a + nanoseconds_of next) (amount_of-met k p met) in
    record {
      starts = starts;
      within = omega arith;
      small = omega arith;
      unmet = sym (ap (λ at. unmet_from at (pairs_of next)) place) ∙ sym step ∙ sym (ap (unmet_from (length text - length rest)) first) ∙ read.unmet;
      sum = min-sum total n (value_of digits * k) (nanoseconds_of next) most (sym is)
          ∙ sym (ap (λ s. min (total + s) most) sums) ∙ read.sum;
    }

empty-from_test : (xs : List ℕ) (b : Bool) → b ≡ eqb (length xs) 0 → b ≡ true → xs ≡ []
empty-from_test [] b is tested = refl
empty-from_test (x ∷ xs) b is tested = absurd (omega (arith, eqb-true (length (x ∷ xs)) 0 (sym is ∙ tested)))

-- no pair is left
pub read_all : (text rest : List ℕ) (total : ℕ) → IsRead text rest total → (b : Bool) → b ≡ eqb (length rest) 0 → b ≡ true
    → Ok total ≡ total_of (unmet_place text) (nanoseconds_of text)
read_all text rest total read b is_empty tested =
    let none : rest ≡ [] = empty-from_test rest b is_empty tested in
    let small : total ≤ most = read.small in
    let met : unmet_place text ≡ None = sym read.unmet ∙ ap (λ r. unmet_from (length text - length rest) (pairs_of r)) none in
    let left : nanoseconds_of rest ≡ 0 = ap nanoseconds_of none in
    let sum = read.sum in
    let is : total ≡ min (nanoseconds_of text) most = omega arith in
    ap Ok is ∙ sym (ap (λ u. total_of u (nanoseconds_of text)) met)
