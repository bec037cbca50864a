-- The first pair of a text.
use Rattle.std.proofs.Common.{◌≡◌, ◌+◌, ℕ, suc, Bool, true, false, not, cond, IsTrue, List, [], ◌∷◌, take, drop, refl, sym, ap, ◌∙◌, arith}
use Rattle.std.specs.List.{All, prefix_len}
use Rattle.std.proofs.lemmas.List.Elements.{All-cons}
use Rattle.gt_model.specs.Good.{is_digit}
use Rattle.gt_dur.specs.Pairs.{Pair, with_digit, with_unit_byte, pairs_of}
use Rattle.gt_dur.specs.Duration.{begins_with_digit, is_at_digits}

-- the longest front of a list that passes, and what stands behind it
abbrev pub front : (ℕ → Bool) → List ℕ → List ℕ
front p [] = []
front p (x ∷ xs) = cond (p x) (x ∷ front p xs) []

abbrev pub behind : (ℕ → Bool) → List ℕ → List ℕ
behind p [] = []
behind p (x ∷ xs) = cond (p x) (behind p xs) (x ∷ xs)

take-one_more : (n x : ℕ) (xs : List ℕ) → take (1 + n) (x ∷ xs) ≡ x ∷ take n xs
take-one_more n x xs = let e : 1 + n ≡ suc n = omega arith in rw e refl

drop-one_more : (n x : ℕ) (xs : List ℕ) → drop (1 + n) (x ∷ xs) ≡ drop n xs
drop-one_more n x xs = let e : 1 + n ≡ suc n = omega arith in rw e refl

pub take-prefix_len : (p : ℕ → Bool) (xs : List ℕ) → take (prefix_len p xs) xs ≡ front p xs
take-prefix_len p [] = refl
take-prefix_len p (x ∷ xs) =
    elim (p x) as (λ b. take (cond b (1 + prefix_len p xs) 0) (x ∷ xs) ≡ cond b (x ∷ front p xs) []) [
      | true ↦ take-one_more _ x xs ∙ ap (λ ys. x ∷ ys) (take-prefix_len p xs)
      | false ↦ refl
    ]

pub drop-prefix_len : (p : ℕ → Bool) (xs : List ℕ) → drop (prefix_len p xs) xs ≡ behind p xs
drop-prefix_len p [] = refl
drop-prefix_len p (x ∷ xs) =
    elim (p x) as (λ b. drop (cond b (1 + prefix_len p xs) 0) (x ∷ xs) ≡ cond b (behind p xs) (x ∷ xs)) [
      | true ↦ drop-one_more _ x xs ∙ drop-prefix_len p xs
      | false ↦ refl
    ]

-- the pairs that begin with this one
abbrev pub pairs_with : List ℕ → List ℕ → List ℕ → List Pair
pairs_with digits unit rest = record { digits = digits; unit = unit } ∷ pairs_of rest

abbrev pub is_other : ℕ → Bool
is_other b = not (is_digit b)

-- a byte of a unit in front of a text that begins with a digit
with_unit_byte-digit : (c e : ℕ) (ps : List Pair)
    → with_unit_byte c (with_digit e ps) ≡ record { digits = []; unit = c ∷ [] } ∷ with_digit e ps
with_unit_byte-digit c e [] = refl
with_unit_byte-digit c e (p ∷ ps) = refl

-- a text that begins with a unit
pairs_of-unit : (c : ℕ) (cs : List ℕ) → is_digit c ≡ false
    → pairs_of (c ∷ cs) ≡ pairs_with [] (c ∷ front is_other cs) (behind is_other cs)
pairs_of-unit c [] h = rw h refl
pairs_of-unit c (e ∷ es) h = rw h (next (is_digit e) refl (pairs_of-unit e es))
  where
    next : (b : Bool) → is_digit e ≡ b
        → (is_digit e ≡ false → pairs_of (e ∷ es) ≡ pairs_with [] (e ∷ front is_other es) (behind is_other es))
        → with_unit_byte c (pairs_of (e ∷ es)) ≡ pairs_with [] (c ∷ front is_other (e ∷ es)) (behind is_other (e ∷ es))
    next true k more = simp k (with_unit_byte-digit c e (pairs_of es))
    next false k more = ap (with_unit_byte c) (more k) ∙ simp k

-- a text that begins with a digit
pub pairs_of-digits : (b : ℕ) (bs : List ℕ) → is_digit b ≡ true
    → pairs_of (b ∷ bs) ≡ pairs_with (b ∷ front is_digit bs) (front is_other (behind is_digit bs)) (behind is_other (behind is_digit bs))
pairs_of-digits b [] h = rw h refl
pairs_of-digits b (c ∷ cs) h = rw h (next (is_digit c) refl (pairs_of-digits c cs))
  where
    next : (t : Bool) → is_digit c ≡ t
        → (is_digit c ≡ true
        → pairs_of (c ∷ cs)
        ≡ pairs_with (c ∷ front is_digit cs) (front is_other (behind is_digit cs)) (behind is_other (behind is_digit cs)))
        → with_digit b (pairs_of (c ∷ cs))
        ≡ pairs_with (b ∷ front is_digit (c ∷ cs)) (front is_other (behind is_digit (c ∷ cs))) (behind is_other (behind is_digit (c ∷ cs)))
    next true k more = ap (with_digit b) (more k) ∙ simp k
    next false k more = ap (with_digit b) (pairs_of-unit c cs k) ∙ simp k

-- the same, of the first pair as the code cuts it
pub pairs_of-front : (text : List ℕ) → IsTrue (begins_with_digit text)
    → pairs_of text ≡ pairs_with (front is_digit text) (front is_other (behind is_digit text)) (behind is_other (behind is_digit text))
pairs_of-front [] h = cc
pairs_of-front (b ∷ bs) h = pairs_of-digits b bs h ∙ sym (simp h)

-- behind a unit stands a digit, or nothing
pub is_at_digits-behind : (text : List ℕ) → IsTrue (is_at_digits (behind is_other text))
is_at_digits-behind [] = refl
is_at_digits-behind (b ∷ bs) = next (is_digit b) refl (is_at_digits-behind bs)
  where
    next : (t : Bool) → is_digit b ≡ t → IsTrue (is_at_digits (behind is_other bs))
        → IsTrue (is_at_digits (behind is_other (b ∷ bs)))
    next true k more = simp k
    next false k more = simp k more

pub All-front : (text : List ℕ) → All (λ b. IsTrue (is_digit b)) (front is_digit text)
All-front [] = λ k d k_in. absurd (omega arith)
All-front (b ∷ bs) = next (is_digit b) refl (All-front bs)
  where
    next : (t : Bool) → is_digit b ≡ t → All (λ c. IsTrue (is_digit c)) (front is_digit bs)
        → All (λ c. IsTrue (is_digit c)) (cond t (b ∷ front is_digit bs) [])
    next true k more = All-cons (λ c. IsTrue (is_digit c)) b (front is_digit bs) k more
    next false k more = λ i d i_in. absurd (omega arith)
