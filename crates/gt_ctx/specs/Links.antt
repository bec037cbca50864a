-- Lists of numbers that are spelled by links: the first item of each list, and the item after each item.
use Rattle.std.specs.Prelude.{◌≡◌, ℕ, zero, suc, ◌<◌, Bool, ◌==◌, List, [], ◌∷◌, length, map, slice_index_or, slice_set, Option, None, Some}
use Rattle.std.specs.List.{list_any}

-- the list of this number
abbrev pub items_of : List (List ℕ) → ℕ → List ℕ
items_of lists k = slice_index_or lists k []

-- whether an item is in a list
abbrev pub has : List ℕ → ℕ → Bool
has items item = list_any (λ k. k == item) items

-- the lists after an item was put at the front of one of them, where one is named
abbrev pub joined_to : List (List ℕ) → Option ℕ → ℕ → List (List ℕ)
joined_to lists None item = lists
joined_to lists (Some k) item = slice_set lists k (item ∷ items_of lists k)

abbrev pub link_at : List (Option ℕ) → ℕ → Option ℕ
link_at links k = slice_index_or links k None

-- the items from the first one on, n at most
abbrev pub chain : List (Option ℕ) → ℕ → Option ℕ → List ℕ
chain nexts zero first = []
chain nexts (suc n) None = []
chain nexts (suc n) (Some item) = item ∷ chain nexts n (link_at nexts item)

-- the links from the first one on spell this list, and end
abbrev pub IsChain : List (Option ℕ) → Option ℕ → List ℕ → Type 0
IsChain nexts first [] = first ≡ None
IsChain nexts first (item ∷ items) =
    (first ≡ Some item) × ((item < length nexts) × IsChain nexts (link_at nexts item) items)

abbrev pub spelled : List (Option ℕ) → List (Option ℕ) → List (List ℕ)
spelled firsts nexts = map (chain nexts (length nexts)) firsts

-- each of the lists comes to an end
pub record AreSpelled (firsts nexts : List (Option ℕ)) : Type 0 where
  pub as_many : length firsts ≡ length nexts
  pub ends : (k : ℕ) → IsChain nexts (link_at firsts k) (chain nexts (length nexts) (link_at firsts k))
