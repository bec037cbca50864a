-- What holds of each item of a list holds of each where one is changed, written or added.
use Rattle.std.proofs.Common.{◌≡◌, ℕ, zero, suc, List, [], ◌∷◌, ◌++◌, length, set, ap, subst, slice_get, Some, refl}
use Rattle.gt_model.specs.Tables.{numbered, change, change_numbered}

abbrev pub AllAt : {X : Type 0} → (X → Type 0) → List X → Type 0
AllAt {X} P xs = (i : ℕ) (x : X) → slice_get xs i ≡ Some x → P x

-- the same by numbers, from 1
abbrev pub AllNumbered : {X : Type 0} → (X → Type 0) → List X → Type 0
AllNumbered {X} P xs = (g : ℕ) (x : X) → numbered xs g ≡ Some x → P x

pub all-change : {X : Type 0} (P : X → Type 0) (xs : List X) (i : ℕ) (f : X → X)
    → AllAt P xs → ((x : X) → slice_get xs i ≡ Some x → P (f x)) → AllAt P (change xs i f)
all-change P [] i f all new j x e = cc
all-change P (y ∷ ys) zero f all new zero x e = let is : f y ≡ x = cc in subst P is (new y refl)
all-change P (y ∷ ys) zero f all new (suc j) x e = all (suc j) x e
all-change P (y ∷ ys) (suc i) f all new zero x e = all zero x e
all-change P (y ∷ ys) (suc i) f all new (suc j) x e = all-change P ys i f (λ k. all (suc k)) new j x e

pub all-set : {X : Type 0} (P : X → Type 0) (xs : List X) (i : ℕ) (y : X) → AllAt P xs → P y → AllAt P (set xs i y)
all-set P [] i y all new j x e = cc
all-set P (z ∷ zs) zero y all new zero x e = let is : y ≡ x = cc in subst P is new
all-set P (z ∷ zs) zero y all new (suc j) x e = all (suc j) x e
all-set P (z ∷ zs) (suc i) y all new zero x e = all zero x e
all-set P (z ∷ zs) (suc i) y all new (suc j) x e = all-set P zs i y (λ k. all (suc k)) new j x e

pub all-append : {X : Type 0} (P : X → Type 0) (xs : List X) (y : X) → AllAt P xs → P y → AllAt P (xs ++ y ∷ [])
all-append P [] y all new zero x e = let is : y ≡ x = cc in subst P is new
all-append P [] y all new (suc j) x e = cc
all-append P (z ∷ zs) y all new zero x e = all zero x e
all-append P (z ∷ zs) y all new (suc j) x e = all-append P zs y (λ k. all (suc k)) new j x e

pub all_numbered-change : {X : Type 0} (P : X → Type 0) (xs : List X) (g : ℕ) (f : X → X)
    → AllNumbered P xs → ((x : X) → numbered xs g ≡ Some x → P (f x)) → AllNumbered P (change_numbered xs g f)
all_numbered-change P xs zero f all new j x e = all j x e
all_numbered-change P xs (suc i) f all new zero x e = cc
all_numbered-change P xs (suc i) f all new (suc j) x e = all-change P xs i f (λ k. all (suc k)) new j x e

pub all_numbered-append : {X : Type 0} (P : X → Type 0) (xs : List X) (y : X) → AllNumbered P xs → P y → AllNumbered P (xs ++ y ∷ [])
all_numbered-append P xs y all new zero x e = cc
all_numbered-append P xs y all new (suc j) x e = all-append P xs y (λ k. all (suc k)) new j x e

pub length-change : {X : Type 0} (xs : List X) (i : ℕ) (f : X → X) → length (change xs i f) ≡ length xs
length-change [] i f = refl
length-change (y ∷ ys) zero f = refl
length-change (y ∷ ys) (suc i) f = ap suc (length-change ys i f)

pub length-change_numbered : {X : Type 0} (xs : List X) (g : ℕ) (f : X → X) → length (change_numbered xs g f) ≡ length xs
length-change_numbered xs zero f = refl
length-change_numbered xs (suc i) f = length-change xs i f
