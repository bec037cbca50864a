-- How often a number and a party stand in a list, and who stands at a declaration, after a change.
use Rattle.std.proofs.Common.{◌≡◌, ◌≢◌, ℕ, zero, suc, ◌+◌, ◌<◌, List, [], ◌∷◌, ◌++◌, length, map, drop, replicate, refl, sym, ap, ◌∙◌, arith, slice_get, Some, true, false, ◌&&◌, ◌≤◌, ◌⊎◌, eqb, subst, get_or-set_same, get_or-set_other, inl, inr}
use Rattle.std.specs.List.{Contains}
use Rattle.std.proofs.lemmas.Bool.{cases_eq, cases_lt, eq-eqb, ne_eqb}
use Rattle.std.proofs.lemmas.List.{get_or_past, length-set}
use Rattle.gt_model.specs.declared.entry.Party.{Party}
use Rattle.gt_queue.proofs.Members.{Contains-nil, Contains_cases}
use Rattle.gt_schedule.specs.Counts.{as_number, times, is_party, often}
use Rattle.gt_schedule.specs.Schedule.{parties_at, without_goroutine, joins}

-- ---- how often a number stands in a list

pub times-append : (x : ℕ) (xs ys : List ℕ) → times x (xs ++ ys) ≡ times x xs + times x ys
times-append x [] ys = omega arith
times-append x (y ∷ xs) ys =
    let rest : times x (xs ++ ys) ≡ times x xs + times x ys = times-append x xs ys in
    omega arith

pub times-one_same : (x : ℕ) → times x (x ∷ []) ≡ 1
times-one_same x = rw (eq-eqb x x refl) refl

pub times-one_other : (x y : ℕ) → x ≢ y → times x (y ∷ []) ≡ 0
times-one_other x y n = rw (ne_eqb y x (λ e. n (sym e))) refl

pub times-push_same : (x : ℕ) (xs : List ℕ) → times x (xs ++ x ∷ []) ≡ times x xs + 1
times-push_same x xs = times-append x xs (x ∷ []) ∙ ap (λ n. times x xs + n) (times-one_same x)

pub times-push_other : (x y : ℕ) (xs : List ℕ) → x ≢ y → times x (xs ++ y ∷ []) ≡ times x xs
times-push_other x y xs n =
    let push : times x (xs ++ y ∷ []) ≡ times x xs + times x (y ∷ []) = times-append x xs (y ∷ []) in
    let one : times x (y ∷ []) ≡ 0 = times-one_other x y n in
    omega arith

-- the first of a list
pub times-first_same : (x : ℕ) (xs : List ℕ) → slice_get xs 0 ≡ Some x → times x xs ≡ times x (drop 1 xs) + 1
times-first_same x [] e = cc
times-first_same x (y ∷ xs) e =
    let is : eqb y x ≡ true = eq-eqb y x cc in
    rw is (omega arith)

pub times-first_other : (x y : ℕ) (xs : List ℕ) → slice_get xs 0 ≡ Some y → x ≢ y → times x (drop 1 xs) ≡ times x xs
times-first_other x y [] e n = refl
times-first_other x y (z ∷ xs) e n =
    let same : z ≡ y = cc in
    let is : eqb z x ≡ false = ne_eqb z x (λ k. n (sym k ∙ same)) in
    rw is (omega arith)

-- who is on a list stands there once at least
pub times-contains : (g : ℕ) (xs : List ℕ) → Contains xs g → 0 < times g xs
times-contains g [] h = Contains-nil g h
times-contains g (x ∷ xs) h =
    elim (Contains_cases x g xs h) [
      | inl e ↦ let one : as_number (eqb x g) ≡ 1 = ap as_number (eq-eqb x g e) in omega arith
      | inr there ↦ let more : 0 < times g xs = times-contains g xs there in omega arith
    ]

-- ---- how often a party stands in a list

pub is_party-same : (p : Party) → is_party p p ≡ true
is_party-same p = rw (eq-eqb p.g p.g refl, eq-eqb p.case_no p.case_no refl) refl

pub is_party-other : (p q : Party) → p.g ≢ q.g → is_party p q ≡ false
is_party-other p q n = rw (ne_eqb p.g q.g n) refl

pub often-push : (p q : Party) (ps : List Party) → often p (ps ++ q ∷ []) ≡ often p ps + as_number (is_party q p)
often-push p q [] = omega arith
often-push p q (x ∷ ps) =
    let rest : often p (ps ++ q ∷ []) ≡ often p ps + as_number (is_party q p) = often-push p q ps in
    omega arith

-- the parties of the other goroutines
pub often-without_same : (p : Party) (g : ℕ) (ps : List Party) → p.g ≡ g → often p (without_goroutine g ps) ≡ 0
often-without_same p g [] e = refl
often-without_same p g (x ∷ ps) e =
    let rest : often p (without_goroutine g ps) ≡ 0 = often-without_same p g ps e in
    elim (cases_eq x.g g) [
      | inl is ↦ rw (eq-eqb x.g g is) rest
      | inr n ↦
          let none : as_number (is_party x p) ≡ 0 = ap as_number (is_party-other x p (λ k. n (k ∙ e))) in
          rw (ne_eqb x.g g n) (omega arith)
    ]

pub often-without_other : (p : Party) (g : ℕ) (ps : List Party) → p.g ≢ g → often p (without_goroutine g ps) ≡ often p ps
often-without_other p g [] n = refl
often-without_other p g (x ∷ ps) n =
    let rest : often p (without_goroutine g ps) ≡ often p ps = often-without_other p g ps n in
    elim (cases_eq x.g g) [
      | inl is ↦
          let none : as_number (is_party x p) ≡ 0 = ap as_number (is_party-other x p (λ k. n (sym k ∙ is))) in
          rw (eq-eqb x.g g is) (omega arith)
      | inr m ↦ rw (ne_eqb x.g g m) (omega arith)
    ]

-- the first of a list stands there
pub often-first : (p : Party) (ps : List Party) → slice_get ps 0 ≡ Some p → 0 < often p ps
often-first p [] e = cc
often-first p (x ∷ ps) e =
    let is : x ≡ p = cc in
    let one : as_number (is_party x p) ≡ 1 = ap (λ (q : Party). as_number (is_party q p)) is ∙ ap as_number (is_party-same p) in
    omega arith

-- ---- who stands at a declaration

pub parties-joins_same : (lists : List (List Party)) (t : ℕ) (p : Party) → t < length lists → parties_at (joins lists t p) t ≡ parties_at lists t ++ p ∷ []
parties-joins_same lists t p h = get_or-set_same lists t (parties_at lists t ++ p ∷ []) [] h

pub parties-joins_other : (lists : List (List Party)) (t u : ℕ) (p : Party) → u ≢ t → parties_at (joins lists t p) u ≡ parties_at lists u
parties-joins_other lists t u p n = get_or-set_other lists t u (parties_at lists t ++ p ∷ []) [] n

pub parties-without : (g : ℕ) (lists : List (List Party)) (t : ℕ) → parties_at (map (without_goroutine g) lists) t ≡ without_goroutine g (parties_at lists t)
parties-without g [] t = refl
parties-without g (x ∷ xs) zero = refl
parties-without g (x ∷ xs) (suc t) = parties-without g xs t

-- nobody leaves a list in which nobody stands
pub without-nobody : (g n : ℕ) → map (without_goroutine g) (replicate n []) ≡ replicate n []
without-nobody g zero = refl
without-nobody g (suc n) = ap (λ xs. [] ∷ xs) (without-nobody g n)

-- nobody stands at a declaration where the lists are empty
pub nobody-there : (n t : ℕ) → parties_at (replicate n []) t ≡ []
nobody-there zero t = refl
nobody-there (suc n) zero = refl
nobody-there (suc n) (suc t) = nobody-there n t

-- ---- how often a party stands at a declaration, after a change of the lists

pub length-joins : (lists : List (List Party)) (t : ℕ) (q : Party) → length (joins lists t q) ≡ length lists
length-joins lists t q = length-set lists t (parties_at lists t ++ q ∷ [])

pub length-left : (g : ℕ) (lists : List (List Party)) → length (map (without_goroutine g) lists) ≡ length lists
length-left g [] = refl
length-left g (x ∷ xs) = ap suc (length-left g xs)

-- where a party joins, it stands once more
pub often-joins_here : (lists : List (List Party)) (t : ℕ) (p q : Party) → t < length lists
    → often p (parties_at (joins lists t q) t) ≡ often p (parties_at lists t) + as_number (is_party q p)
often-joins_here lists t p q within = ap (often p) (parties-joins_same lists t q within) ∙ often-push p q (parties_at lists t)

pub often-joins_elsewhere : (lists : List (List Party)) (t u : ℕ) (p q : Party) → u ≢ t → often p (parties_at (joins lists t q) u) ≡ often p (parties_at lists u)
often-joins_elsewhere lists t u p q n = ap (often p) (parties-joins_other lists t u q n)

-- both in one: it stands once more there, if it is the one that joins, and elsewhere as often as before
pub often-joins : (lists : List (List Party)) (t u : ℕ) (p q : Party) → t < length lists
    → often p (parties_at (joins lists t q) u) ≡ often p (parties_at lists u) + as_number (eqb t u && is_party q p)
often-joins lists t u p q within =
    elim (cases_eq t u) [
      | inl e ↦
          let one : as_number (eqb t u && is_party q p) ≡ as_number (is_party q p) = ap (λ b. as_number (b && is_party q p)) (eq-eqb t u e) in
          let here : often p (parties_at (joins lists t q) u) ≡ often p (parties_at lists u) + as_number (is_party q p) =
          subst (λ u. often p (parties_at (joins lists t q) u) ≡ often p (parties_at lists u) + as_number (is_party q p)) e (often-joins_here lists t p q within) in
          omega arith
      | inr n ↦
          let none : as_number (eqb t u && is_party q p) ≡ 0 = ap (λ b. as_number (b && is_party q p)) (ne_eqb t u n) in
          let same : often p (parties_at (joins lists t q) u) ≡ often p (parties_at lists u) = often-joins_elsewhere lists t u p q (λ e. n (sym e)) in
          omega arith
    ]

-- the parties of the other goroutines stand as often as before
pub often-joins_other : (lists : List (List Party)) (t u : ℕ) (p q : Party) → p.g ≢ q.g → often p (parties_at (joins lists t q) u) ≡ often p (parties_at lists u)
often-joins_other lists t u p q n =
    elim (cases_eq u t) [
      | inl e ↦ subst (λ u. often p (parties_at (joins lists t q) u) ≡ often p (parties_at lists u)) (sym e) (here (cases_lt t (length lists)))
      | inr k ↦ often-joins_elsewhere lists t u p q k
    ]
  where
    here : (t < length lists) ⊎ (length lists ≤ t) → often p (parties_at (joins lists t q) t) ≡ often p (parties_at lists t)
    here (inl within) =
        let push : often p (parties_at (joins lists t q) t) ≡ often p (parties_at lists t) + as_number (is_party q p) = often-joins_here lists t p q within in
        let none : as_number (is_party q p) ≡ 0 = ap as_number (is_party-other q p (λ e. n (sym e))) in
        omega arith
    here (inr past) =
        let long : length (joins lists t q) ≡ length lists = length-joins lists t q in
        ap (often p) (get_or_past (joins lists t q) t [] (omega arith) ∙ sym (get_or_past lists t [] past))

-- who has left stands nowhere, and the parties of the others stand as often as before
pub often-left_same : (g : ℕ) (lists : List (List Party)) (t : ℕ) (p : Party) → p.g ≡ g → often p (parties_at (map (without_goroutine g) lists) t) ≡ 0
often-left_same g lists t p e = ap (often p) (parties-without g lists t) ∙ often-without_same p g (parties_at lists t) e

pub often-left_other : (g : ℕ) (lists : List (List Party)) (t : ℕ) (p : Party) → p.g ≢ g
    → often p (parties_at (map (without_goroutine g) lists) t) ≡ often p (parties_at lists t)
often-left_other g lists t p n = ap (often p) (parties-without g lists t) ∙ often-without_other p g (parties_at lists t) n
