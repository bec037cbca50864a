-- Who is on a list, and on the list without one of its members.
use Rattle.std.proofs.Common.{◌≡◌, ◌≢◌, ℕ, zero, suc, ◌<◌, ◌≤◌, ◌⊎◌, inl, inr, false, eqb, Some, List, [], ◌∷◌, length, get_or, drop, refl, sym, ◌∙◌, ap, arith}
use Rattle.std.specs.List.{Contains, IsDistinct, AllByRecursion, list_any, slice_get}
use Rattle.std.proofs.lemmas.Bool.{cases_eq, eq-eqb, ne_eqb, eqb-true, false_from_ne_true, false≢true}
use Rattle.std.proofs.lemmas.Map.Keys.{IsDistinct-head, IsDistinct-tail, IsDistinct-cons}
use Rattle.std.proofs.lemmas.Map.Views.{Contains-from_any}
use Rattle.std.proofs.lemmas.Map.Steps.{length-le_from_distinct_below}
use Rattle.gt_queue.specs.Contents.{without}

-- an element that cannot be on the empty list
pub Contains-nil : (y : ℕ) → Contains [] y → {P : Type 0} → P
Contains-nil y h {P} = absurd (omega (arith, h.1))

pub Contains-here : (x : ℕ) (xs : List ℕ) → Contains (x ∷ xs) x
Contains-here x xs = (0, omega arith, refl)

pub Contains-there : (x y : ℕ) (xs : List ℕ) → Contains xs y → Contains (x ∷ xs) y
Contains-there x y xs h = (suc h.0, omega (arith, h.1), h.2)

-- the first or a later one
pub Contains_cases : (x y : ℕ) (xs : List ℕ) → Contains (x ∷ xs) y → (x ≡ y) ⊎ Contains xs y
Contains_cases x y xs h = go h.0 h.1 h.2
  where
    go : (k : ℕ) → k < length (x ∷ xs) → get_or (x ∷ xs) k y ≡ y → (x ≡ y) ⊎ Contains xs y
    go zero l e = inl e
    go (suc k) l e = inr (k, omega arith, e)

pub without-other : (m x : ℕ) (xs : List ℕ) → x ≢ m → without (x ∷ xs) m ≡ x ∷ without xs m
without-other m x xs n = rw (ne_eqb x m n) refl

pub without-same : (m x : ℕ) (xs : List ℕ) → x ≡ m → without (x ∷ xs) m ≡ without xs m
without-same m x xs e = rw (eq-eqb x m e) refl

-- who is left was there, and is another
pub Contains-without : (m y : ℕ) (xs : List ℕ) → Contains (without xs m) y → Contains xs y × (y ≢ m)
Contains-without m y [] h = Contains-nil y h
Contains-without m y (x ∷ xs) h =
    elim (cases_eq x m) [
      | inl e ↦
          let r = Contains-without m y xs (rw (without-same m x xs e) at h) in
          (Contains-there x y xs r.0, r.1)
      | inr n ↦
          elim (Contains_cases x y (without xs m) (rw (without-other m x xs n) at h)) [
            | inl e ↦ (rw (← e) (Contains-here x xs), λ ym. n (e ∙ ym))
            | inr g ↦
                let r = Contains-without m y xs g in
                (Contains-there x y xs r.0, r.1)
          ]
    ]

-- each other member is left
pub without-keeps : (m y : ℕ) (xs : List ℕ) → Contains xs y → y ≢ m → Contains (without xs m) y
without-keeps m y [] h n = Contains-nil y h
without-keeps m y (x ∷ xs) h n =
    elim (cases_eq x m) [
      | inl e ↦
          rw (without-same m x xs e)
          (elim (Contains_cases x y xs h) [
            | inl f ↦ absurd (n (sym f ∙ e))
            | inr g ↦ without-keeps m y xs g n
          ])
      | inr k ↦
          rw (without-other m x xs k)
          (elim (Contains_cases x y xs h) [
            | inl f ↦ rw (← f) (Contains-here x (without xs m))
            | inr g ↦ Contains-there x y (without xs m) (without-keeps m y xs g n)
          ])
    ]

-- a list without somebody who is not there
pub without-absent : (m : ℕ) (xs : List ℕ) → (Contains xs m → ⊥) → without xs m ≡ xs
without-absent m [] h = refl
without-absent m (x ∷ xs) h =
    without-other m x xs (λ e. h (rw (← e) (Contains-here x xs)))
    ∙ ap (λ ys. x ∷ ys) (without-absent m xs (λ g. h (Contains-there x m xs g)))

-- what holds of each element holds of each that is left
AllByRecursion-without : (P : ℕ → Type 0) (m : ℕ) (xs : List ℕ) → AllByRecursion P xs → AllByRecursion P (without xs m)
AllByRecursion-without P m [] h = h
AllByRecursion-without P m (x ∷ xs) h =
    elim (cases_eq x m) [
      | inl e ↦ rw (without-same m x xs e) (AllByRecursion-without P m xs h.1)
      | inr n ↦ rw (without-other m x xs n) (h.0, AllByRecursion-without P m xs h.1)
    ]

pub IsDistinct-without : (m : ℕ) (xs : List ℕ) → IsDistinct eqb xs → IsDistinct eqb (without xs m)
IsDistinct-without m [] d = d
IsDistinct-without m (x ∷ xs) d =
    let rest = IsDistinct-without m xs (IsDistinct-tail eqb x xs d) in
    elim (cases_eq x m) [
      | inl e ↦ rw (without-same m x xs e) rest
      | inr n ↦
          rw (without-other m x xs n)
          (IsDistinct-cons eqb x (without xs m) (AllByRecursion-without _ m xs (IsDistinct-head eqb x xs d)) rest)
    ]

-- the first of a list of distinct elements is nowhere behind
AllByRecursion-contains : (P : ℕ → Type 0) (y : ℕ) (xs : List ℕ) → AllByRecursion P xs → Contains xs y → P y
AllByRecursion-contains P y [] a h = Contains-nil y h
AllByRecursion-contains P y (x ∷ xs) a h =
    elim (Contains_cases x y xs h) [
      | inl e ↦ rw (← e) a.0
      | inr g ↦ AllByRecursion-contains P y xs a.1 g
    ]

pub IsDistinct-apart : (x : ℕ) (xs : List ℕ) → IsDistinct eqb (x ∷ xs) → Contains xs x → ⊥
IsDistinct-apart x xs d h =
    false≢true (sym (AllByRecursion-contains (λ y. eqb x y ≡ false) x xs (IsDistinct-head eqb x xs d) h) ∙ eq-eqb x x refl)

without-head : (x : ℕ) (xs : List ℕ) → IsDistinct eqb (x ∷ xs) → without (x ∷ xs) x ≡ xs
without-head x xs d =
    without-same x x xs refl
    ∙ without-absent x xs (IsDistinct-apart x xs d)

-- without the first of them, the rest is left
pub without-first : (m : ℕ) (xs : List ℕ) → Some m ≡ slice_get xs 0 → IsDistinct eqb xs → without xs m ≡ drop 1 xs
without-first m [] e d = absurd (cc)
without-first m (x ∷ xs) e d =
    let same : m ≡ x = cc in
    ap (without (x ∷ xs)) same ∙ without-head x xs d

-- distinct numbers below n are n at most
pub length-le_from_distinct : (n : ℕ) (xs : List ℕ) → IsDistinct eqb xs → ((y : ℕ) → Contains xs y → y < n) → length xs ≤ n
length-le_from_distinct n xs d below =
    length-le_from_distinct_below xs n d (λ q e. below q (Contains-from_any (λ x y. eqb-true x y) q xs e))

-- somebody who is not on a list is not found there
pub list_any-absent : (m : ℕ) (xs : List ℕ) → (Contains xs m → ⊥) → list_any (eqb m) xs ≡ false
list_any-absent m xs h =
    false_from_ne_true _ (λ e. h (Contains-from_any (λ x y. eqb-true x y) m xs e))

-- the first of a list is on it
pub Contains-from_first : (m : ℕ) (xs : List ℕ) → Some m ≡ slice_get xs 0 → Contains xs m
Contains-from_first m [] e = absurd (cc)
Contains-from_first m (x ∷ xs) e =
    let same : x ≡ m = cc in
    rw (← same) (Contains-here x xs)
