-- Lists that are read and changed at a place.
use Rattle.std.specs.Prelude.{ℕ, zero, suc, List, [], ◌∷◌, slice_get, min}
use Rattle.std.specs.declared.option.Option.{Option}
use Rattle.std.specs.declared.option.Option.TheVariants.{None, Some}

-- the item with this number, counted from 1
abbrev pub numbered : {X : Type 0} → List X → ℕ → Option X
numbered xs zero = None
numbered xs (suc i) = slice_get xs i

-- the list with the item at place i changed
abbrev pub change : {X : Type 0} → List X → ℕ → (X → X) → List X
change [] i f = []
change (x ∷ xs) zero f = f x ∷ xs
change (x ∷ xs) (suc i) f = x ∷ change xs i f

-- the same for the item with this number, counted from 1
abbrev pub change_numbered : {X : Type 0} → List X → ℕ → (X → X) → List X
change_numbered xs zero f = xs
change_numbered xs (suc i) f = change xs i f

-- the value at a place of a list of optional values
abbrev pub flatten : {X : Type 0} → Option (Option X) → Option X
flatten None = None
flatten (Some o) = o

abbrev pub at : {X : Type 0} → List (Option X) → ℕ → Option X
at xs i = flatten (slice_get xs i)

-- the least number of a list
abbrev pub least : List ℕ → Option ℕ
least [] = None
least (x ∷ xs) = Some (least_from x xs)
  where
    least_from : ℕ → List ℕ → ℕ
    least_from x [] = x
    least_from x (y ∷ ys) = least_from (min x y) ys
