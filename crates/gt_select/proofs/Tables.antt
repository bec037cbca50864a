-- A list of which the last items were not written yet: each of them is None.
use Rattle.std.proofs.Common.{◌≡◌, ℕ, suc, ◌+◌, ◌-◌, ◌<◌, ◌≤◌, Option, None, List, [], ◌∷◌, ◌++◌, length, length-append, get_or, set, replicate, append_assoc, refl, sym, ap, ◌∙◌, inl, inr, arith}
use Rattle.std.proofs.Math.ListN.{get_or-append}
use Rattle.std.proofs.lemmas.Bool.{cases_lt}
use Rattle.std.proofs.lemmas.List.{get_or-append_right, set-append_left, get_or-replicate, get_or_past, length-replicate}

abbrev pub table_of : List (Option ℕ) → ℕ → List (Option ℕ)
table_of written left = written ++ replicate left None

pub table_of-written : (xs : List (Option ℕ)) (n : ℕ) → table_of (xs ++ None ∷ []) n ≡ table_of xs (suc n)
table_of-written xs n = append_assoc xs (None ∷ []) (replicate n None)

none_at : (n k : ℕ) → get_or {A = Option ℕ} (replicate n None) k None ≡ None
none_at n k =
    elim (cases_lt k n) [
      | inl l ↦ get_or-replicate n k None None l
      | inr past ↦ get_or_past (replicate n None) k None (omega (arith, length-replicate {A = Option ℕ} n None))
    ]

pub table_of-past : (xs : List (Option ℕ)) (n k : ℕ) → length xs ≤ k → get_or (table_of xs n) k None ≡ None
table_of-past xs n k past = get_or-append_right xs (replicate n None) (length xs) k None refl past ∙ none_at n (k - length xs)

pub table_of-low : (xs : List (Option ℕ)) (n k : ℕ) → k < length xs → get_or (table_of xs n) k None ≡ get_or xs k None
table_of-low xs n k low = get_or-append xs (replicate n None) None k low

pub table_of-set : (xs : List (Option ℕ)) (n k : ℕ) (x : Option ℕ) → k < length xs → table_of (set xs k x) n ≡ set (table_of xs n) k x
table_of-set xs n k x low = sym (set-append_left xs (replicate n None) k x low)

pub length-table_of : (xs : List (Option ℕ)) (n : ℕ) → length (table_of xs n) ≡ length xs + n
length-table_of xs n = length-append xs (replicate n None) ∙ ap (λ k. length xs + k) (length-replicate {A = Option ℕ} n None)
