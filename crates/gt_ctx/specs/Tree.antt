-- A tree in which each node's parent has a smaller number.
use Rattle.std.specs.Prelude.{ℕ, zero, suc, Bool, ◌==◌, List, [], ◌∷◌, Option, None}
use Rattle.std.specs.Option.{option_or, option_map_or}
use Rattle.std.specs.List.{list_any}

-- the node, its parent, and so on up, and n parents at most
unfoldable pub line : (ℕ → Option ℕ) → ℕ → ℕ → List ℕ
line parent zero node = node ∷ []
line parent (suc n) node = node ∷ option_map_or (λ p. line parent n p) (parent node) []

-- the node and all above it: no more than its number, since numbers fall
abbrev pub lineage : (ℕ → Option ℕ) → ℕ → List ℕ
lineage parent node = line parent node node

-- whether the node is x or stands below it
abbrev pub is_within : (ℕ → Option ℕ) → ℕ → ℕ → Bool
is_within parent x node = list_any (λ y. y == x) (lineage parent node)

-- the first that is found at these nodes
abbrev pub first_found : (ℕ → Option ℕ) → List ℕ → Option ℕ
first_found f [] = None
first_found f (y ∷ ys) = option_or (f y) (first_found f ys)
