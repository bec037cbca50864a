-- What a list has at a place, and by number from 1, where it is changed, written or added to.
use Rattle.std.proofs.Common.{◌≡◌, ◌≢◌, ℕ, zero, suc, ◌+◌, ◌<◌, ◌≤◌, List, [], ◌∷◌, ◌++◌, length, set, refl, ap, subst, slice_get, Option, None, Some, sym, arith}
use Rattle.std.proofs.lemmas.Option.{slice_get_past}
use Rattle.gt_model.specs.Tables.{at, flatten, numbered, change, change_numbered}

-- ---- by place

pub change-same : {X : Type 0} (xs : List X) (i : ℕ) (f : X → X) (x : X) → slice_get xs i ≡ Some x → slice_get (change xs i f) i ≡ Some (f x)
change-same [] i f x e = cc
change-same (y ∷ ys) zero f x e = let is : y ≡ x = cc in ap (λ z. Some (f z)) is
change-same (y ∷ ys) (suc i) f x e = change-same ys i f x e

pub change-other : {X : Type 0} (xs : List X) (i j : ℕ) (f : X → X) → j ≢ i → slice_get (change xs i f) j ≡ slice_get xs j
change-other [] i j f n = refl
change-other (y ∷ ys) zero zero f n = absurd (n refl)
change-other (y ∷ ys) zero (suc j) f n = refl
change-other (y ∷ ys) (suc i) zero f n = refl
change-other (y ∷ ys) (suc i) (suc j) f n = change-other ys i j f (λ e. n (ap suc e))

set-other : {X : Type 0} (xs : List X) (i j : ℕ) (x : X) → j ≢ i → slice_get (set xs i x) j ≡ slice_get xs j
set-other [] i j x n = refl
set-other (y ∷ ys) zero zero x n = absurd (n refl)
set-other (y ∷ ys) zero (suc j) x n = refl
set-other (y ∷ ys) (suc i) zero x n = refl
set-other (y ∷ ys) (suc i) (suc j) x n = set-other ys i j x (λ e. n (ap suc e))

push-same : {X : Type 0} (xs : List X) (y : X) → slice_get (xs ++ y ∷ []) (length xs) ≡ Some y
push-same [] y = refl
push-same (x ∷ xs) y = push-same xs y

push-other : {X : Type 0} (xs : List X) (y : X) (i : ℕ) → i ≢ length xs → slice_get (xs ++ y ∷ []) i ≡ slice_get xs i
push-other [] y zero n = absurd (n refl)
push-other [] y (suc i) n = refl
push-other (x ∷ xs) y zero n = refl
push-other (x ∷ xs) y (suc i) n = push-other xs y i (λ e. n (ap suc e))

-- ---- what may be missing at a place

pub at-is : {X : Type 0} (xs : List (Option X)) (i : ℕ) (x : X) → at xs i ≡ Some x → slice_get xs i ≡ Some (Some x)
at-is xs i x e =
    elim (slice_get xs i) as (λ o. flatten o ≡ Some x → o ≡ Some (Some x)) [ None ↦ λ h. cc | Some o ↦ λ h. ap Some h ] e

pub at-set_same : {X : Type 0} (xs : List (Option X)) (i : ℕ) (x : Option X) → i < length xs → at (set xs i x) i ≡ x
at-set_same [] i x h = absurd (omega arith)
at-set_same (y ∷ ys) zero x h = refl
at-set_same (y ∷ ys) (suc i) x h = at-set_same ys i x (omega arith)

pub at-set_other : {X : Type 0} (xs : List (Option X)) (i j : ℕ) (x : Option X) → j ≢ i → at (set xs i x) j ≡ at xs j
at-set_other xs i j x n = ap flatten (set-other xs i j x n)

pub at-change_same : {X : Type 0} (xs : List (Option X)) (i : ℕ) (f : Option X → Option X) → f None ≡ None → at (change xs i f) i ≡ f (at xs i)
at-change_same [] i f h = sym h
at-change_same (y ∷ ys) zero f h = refl
at-change_same (y ∷ ys) (suc i) f h = at-change_same ys i f h

pub at-change_other : {X : Type 0} (xs : List (Option X)) (i j : ℕ) (f : Option X → Option X) → j ≢ i → at (change xs i f) j ≡ at xs j
at-change_other xs i j f n = ap flatten (change-other xs i j f n)

-- ---- by number

pub numbered-change_same : {X : Type 0} (xs : List X) (g : ℕ) (f : X → X) (x : X) → numbered xs g ≡ Some x → numbered (change_numbered xs g f) g ≡ Some (f x)
numbered-change_same xs zero f x e = cc
numbered-change_same xs (suc i) f x e = change-same xs i f x e

pub numbered-change_other : {X : Type 0} (xs : List X) (g h : ℕ) (f : X → X) → h ≢ g → numbered (change_numbered xs g f) h ≡ numbered xs h
numbered-change_other xs zero h f n = refl
numbered-change_other xs (suc i) zero f n = refl
numbered-change_other xs (suc i) (suc j) f n = change-other xs i j f (λ e. n (ap suc e))

-- a new item has the next number
pub numbered-push_same : {X : Type 0} (xs : List X) (y : X) (g : ℕ) → g ≡ length xs + 1 → numbered (xs ++ y ∷ []) g ≡ Some y
numbered-push_same xs y zero e = absurd (omega arith)
numbered-push_same xs y (suc i) e =
    let is : length xs ≡ i = omega arith in
    subst (λ j. slice_get (xs ++ y ∷ []) j ≡ Some y) is (push-same xs y)

pub numbered-push_other : {X : Type 0} (xs : List X) (y : X) (g : ℕ) → g ≢ length xs + 1 → numbered (xs ++ y ∷ []) g ≡ numbered xs g
numbered-push_other xs y zero n = refl
numbered-push_other xs y (suc i) n = push-other xs y i (λ e. n (omega arith))

-- the next number is nobody's
pub numbered-next : {X : Type 0} (xs : List X) (g : ℕ) → g ≡ length xs + 1 → numbered xs g ≡ None
numbered-next xs zero e = refl
numbered-next xs (suc i) e = let k : length xs ≤ i = omega arith in slice_get_past xs i k

-- a number that a list has
pub record HasNumber {X : Type 0} (xs : List X) (g : ℕ) : Type 0 where
  pub item : X
  pub there : numbered xs g ≡ Some item

has_place : {X Y : Type 0} (xs : List X) (ys : List Y) (i : ℕ) (x : X) → length xs ≡ length ys → slice_get xs i ≡ Some x → HasNumber ys (suc i)
has_place [] ys i x e h = cc
has_place (a ∷ xs) [] i x e h = absurd (omega arith)
has_place (a ∷ xs) (b ∷ ys) zero x e h = record { item = b; there = refl }
has_place (a ∷ xs) (b ∷ ys) (suc i) x e h =
    let size : length xs ≡ length ys = omega arith in
    let rest : HasNumber ys (suc i) = has_place xs ys i x size h in
    record { item = rest.item; there = rest.there }

-- two lists of one length have the same numbers
pub has_number : {X Y : Type 0} (xs : List X) (ys : List Y) (g : ℕ) (x : X) → length xs ≡ length ys → numbered xs g ≡ Some x → HasNumber ys g
has_number xs ys zero x e h = cc
has_number xs ys (suc i) x e h = has_place xs ys i x e h
