-- The pairs of a text are its digit runs and their units.
use Rattle.std.proofs.Common.{◌≡◌, ◌<◌, ℕ, Bool, true, false, not, cond, IsTrue, List, [], ◌∷◌, ◌++◌, length, refl, ap, ◌∙◌, arith}
use Rattle.std.specs.List.{list_all}
use Rattle.gt_model.specs.Good.{is_digit}
use Rattle.gt_dur.specs.Pairs.{Pair, with_digit, with_unit_byte, pairs_of, joined, IsPair, AreWhole, SplitsInto}

joined-with_digit : (b : ℕ) (ps : List Pair) → joined (with_digit b ps) ≡ b ∷ joined ps
joined-with_digit b [] = refl
joined-with_digit b (p ∷ ps) = refl

joined-with_unit_byte : (b : ℕ) (ps : List Pair) → joined (with_unit_byte b ps) ≡ b ∷ joined ps
joined-with_unit_byte b [] = refl
joined-with_unit_byte b (p ∷ ps) = at_front p.digits p.unit
  where
    at_front : (digits unit : List ℕ)
        → joined (with_unit_byte b (record { digits = digits; unit = unit } ∷ ps)) ≡ b ∷ (digits ++ unit ++ joined ps)
    at_front [] unit = refl
    at_front (d ∷ ds) unit = refl

IsPair-of_digit : (b : ℕ) → is_digit b ≡ true → IsPair (record { digits = b ∷ []; unit = [] })
IsPair-of_digit b h = record { digits = simp h; unit = refl; some = omega arith }

IsPair-with_digit : (b : ℕ) (p : Pair) → is_digit b ≡ true → IsPair p → IsPair (record { digits = b ∷ p.digits; unit = p.unit })
IsPair-with_digit b p h pair = record { digits = simp h pair.digits; unit = pair.unit; some = omega arith }

IsPair-of_unit_byte : (b : ℕ) → is_digit b ≡ false → IsPair (record { digits = []; unit = b ∷ [] })
IsPair-of_unit_byte b h = record { digits = refl; unit = simp h; some = omega arith }

IsPair-with_unit_byte : (b : ℕ) (unit : List ℕ) → is_digit b ≡ false → IsTrue (list_all (λ c. not (is_digit c)) unit)
    → IsPair (record { digits = []; unit = b ∷ unit })
IsPair-with_unit_byte b unit h pair = record { digits = refl; unit = simp h pair; some = omega arith }

AreWhole-with_digit : (b : ℕ) (ps : List Pair) → is_digit b ≡ true → AreWhole ps → AreWhole (with_digit b ps)
AreWhole-with_digit b [] h whole = IsPair-of_digit b h
AreWhole-with_digit b (p ∷ []) h whole = IsPair-with_digit b p h whole
AreWhole-with_digit b (p ∷ q ∷ ps) h whole = (IsPair-with_digit b p h whole.0, whole.1, whole.2, whole.3)

AreWhole-with_unit_byte : (b : ℕ) (ps : List Pair) → is_digit b ≡ false → AreWhole ps → AreWhole (with_unit_byte b ps)
AreWhole-with_unit_byte b [] h whole = IsPair-of_unit_byte b h
AreWhole-with_unit_byte b (p ∷ []) h whole = at_front p.digits p.unit whole
  where
    at_front : (digits unit : List ℕ) → IsPair (record { digits = digits; unit = unit })
        → AreWhole (with_unit_byte b (record { digits = digits; unit = unit } ∷ []))
    at_front [] unit pair = IsPair-with_unit_byte b unit h pair.unit
    at_front (d ∷ ds) unit pair = (IsPair-of_unit_byte b h, omega arith, omega arith, pair)
AreWhole-with_unit_byte b (p ∷ q ∷ ps) h whole = at_front p.digits p.unit whole.0 whole.1
  where
    at_front : (digits unit : List ℕ) → IsPair (record { digits = digits; unit = unit }) → 0 < length unit
        → AreWhole (with_unit_byte b (record { digits = digits; unit = unit } ∷ q ∷ ps))
    at_front [] unit pair some = (IsPair-with_unit_byte b unit h pair.unit, omega arith, whole.2, whole.3)
    at_front (d ∷ ds) unit pair some =
        (IsPair-of_unit_byte b h, omega arith, omega arith, (pair, some, whole.2, whole.3))

joined-pairs_of : (text : List ℕ) → joined (pairs_of text) ≡ text
joined-pairs_of [] = refl
joined-pairs_of (b ∷ bs) = next (is_digit b) (joined-pairs_of bs)
  where
    next : (t : Bool) → joined (pairs_of bs) ≡ bs
        → joined (cond t (with_digit b (pairs_of bs)) (with_unit_byte b (pairs_of bs))) ≡ b ∷ bs
    next true more = joined-with_digit b (pairs_of bs) ∙ ap (λ xs. b ∷ xs) more
    next false more = joined-with_unit_byte b (pairs_of bs) ∙ ap (λ xs. b ∷ xs) more

AreWhole-pairs_of : (text : List ℕ) → AreWhole (pairs_of text)
AreWhole-pairs_of [] = tt
AreWhole-pairs_of (b ∷ bs) = next (is_digit b) refl (AreWhole-pairs_of bs)
  where
    next : (t : Bool) → is_digit b ≡ t → AreWhole (pairs_of bs)
        → AreWhole (cond t (with_digit b (pairs_of bs)) (with_unit_byte b (pairs_of bs)))
    next true h more = AreWhole-with_digit b (pairs_of bs) h more
    next false h more = AreWhole-with_unit_byte b (pairs_of bs) h more

pub pairs_of-SplitsInto : (text : List ℕ) → SplitsInto text (pairs_of text)
pairs_of-SplitsInto text = record { text_is = joined-pairs_of text; whole = AreWhole-pairs_of text }
