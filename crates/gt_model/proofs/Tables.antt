-- A change at a place is a write there.
use Rattle.std.proofs.Common.{◌≡◌, ℕ, zero, suc, ◌-◌, List, [], ◌∷◌, ap, set, slice_get, Some, sub-one}
use Rattle.gt_model.specs.Tables.{numbered, change, change_numbered}

pub change-set : {X : Type 0} (xs : List X) (i : ℕ) (f : X → X) (x : X) → slice_get xs i ≡ Some x → change xs i f ≡ set xs i (f x)
change-set [] i f x e = cc
change-set (y ∷ xs) zero f x e = let is : y ≡ x = cc in ap (λ z. f z ∷ xs) is
change-set (y ∷ xs) (suc i) f x e = ap (λ zs. y ∷ zs) (change-set xs i f x e)

pub change_numbered-set : {X : Type 0} (xs : List X) (g : ℕ) (f : X → X) (x : X) → numbered xs g ≡ Some x → change_numbered xs g f ≡ set xs (g - 1) (f x)
change_numbered-set xs zero f x e = cc
change_numbered-set xs (suc i) f x e = rw sub-one (change-set xs i f x e)
