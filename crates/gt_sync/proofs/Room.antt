-- There is a free queue for whoever stands in no list.
use Rattle.std.proofs.Common.{rules, ◌≡◌, ◌≢◌, ℕ, zero, suc, ◌+◌, ◌<◌, ◌≤◌, add-one, arith, map, List, [], ◌∷◌, length, get_or, replicate, refl, sym, ◌∙◌, inl, inr}
use Rattle.std.specs.List.{Contains, range_with_len, slice_get}
use Rattle.std.specs.Prelude.{nat_eq, Option, IsSome}
use Rattle.std.proofs.lemmas.Bool.{cases_lt, ne_eqb}
use Rattle.std.proofs.lemmas.List.{get_or_past, get_or-replicate, length-replicate}
use Rattle.std.proofs.lemmas.List.FromFn.{length-map-range_with_len, get_or-map-range_with_len, length-range_with_len, get_or-range_with_len}
use Rattle.std.proofs.lemmas.Map.Keys.{IsDistinct-from_apart}
use Rattle.gt_queue.specs.Contents.{Contents, IsWaiting, IsLawful, waiting_in}
use Rattle.gt_queue.proofs.Members.{Contains-nil, length-le_from_distinct}
use Rattle.gt_sync.specs.Kept.{AreFree, IsKept}

-- g, and then of each queue the first
abbrev one_of_each : List (List ℕ) → ℕ → ℕ → ℕ
one_of_each qs g zero = g
one_of_each qs g (suc n) = get_or (waiting_in qs (suc n)) 0 0

first_in : (xs : List ℕ) → xs ≢ [] → Contains xs (get_or xs 0 0)
first_in [] n = absurd (n refl)
first_in (x ∷ xs) n = (0, omega arith, refl)

module _ (w : Contents) (g : ℕ) (lawful : IsLawful w) (gl : g < w.members) (free : ¬ IsWaiting w.queues g) (full : (n : ℕ) → n < w.members → waiting_in w.queues (n + 1) ≢ []) where
  stands : (n : ℕ) → n < w.members → Contains (waiting_in w.queues (suc n)) (one_of_each w.queues g (suc n))
  stands n nl = first_in (waiting_in w.queues (suc n)) (λ e. full n nl (rw (add-one n) e))

  below : (i : ℕ) → i < w.members + 1 → one_of_each w.queues g i < w.members
  below zero il = gl
  below (suc n) il = lawful.below (suc n) (one_of_each w.queues g (suc n)) (stands n (omega arith))

  differ : (i j : ℕ) → i < j → j < w.members + 1 → one_of_each w.queues g i ≢ one_of_each w.queues g j
  differ i zero ij jl e = absurd (omega arith)
  differ zero (suc m) ij jl e = free (suc m, rw e (stands m (omega arith)))
  differ (suc n) (suc m) ij jl e =
      let same = lawful.apart (suc n) (suc m) (one_of_each w.queues g (suc m)) (rw (← e) (stands n (omega arith))) (stands m (omega arith)) in
      absurd (omega arith)

  too_many : ⊥
  too_many =
      let all : List ℕ = map (one_of_each w.queues g) (range_with_len 0 (w.members + 1)) in
      let size : length all ≡ w.members + 1 = length-map-range_with_len (one_of_each w.queues g) 0 (w.members + 1) in
      let at : (i d : ℕ) → i < w.members + 1 → get_or all i d ≡ one_of_each w.queues g i = λ i d il. get_or-map-range_with_len (one_of_each w.queues g) 0 (w.members + 1) i i d il (omega arith) in
      let few : length all ≤ w.members =
      length-le_from_distinct w.members all
      (IsDistinct-from_apart nat_eq all
      (λ i j d ij jl.
      let jl' : j < w.members + 1 = omega arith in
      let il' : i < w.members + 1 = omega arith in
      rw (at i d il', at j d jl') (ne_eqb _ _ (differ i j ij jl'))))
      (λ y h.
      let il : h.0 < w.members + 1 = let l = h.1 in omega arith in
      rw (← (sym (at h.0 y il) ∙ h.2)) (below h.0 il)) in
      omega arith

pub some_free : (w f : Contents) (g : ℕ) → IsKept w f → IsLawful w → g < w.members → ¬ IsWaiting w.queues g → waiting_in f.queues 0 ≢ []
some_free w f g kept lawful gl free none =
    too_many w g lawful gl free (λ n nl e. Contains-nil n (rw none at (kept.free.all n nl e)))

-- at first all queues are empty, and all numbers free
pub empty_list : (n k : ℕ) → get_or {A = List ℕ} (replicate n []) k [] ≡ []
empty_list n k =
    elim (cases_lt k n) [
      | inl l ↦ get_or-replicate n k [] [] l
      | inr past ↦ get_or_past (replicate n []) k [] (omega (arith, length-replicate {A = List ℕ} n []))
    ]

pub AreFree-first : (count lists : ℕ) (queues : List (List ℕ)) (free : List ℕ) → queues ≡ replicate lists [] → free ≡ range_with_len 0 count → AreFree count (λ n. waiting_in queues (n + 1)) free
AreFree-first count lists queues free q f = record {
  empty = λ n h. rw q (empty_list lists (n + 1));
  all = λ n nl e.
      rw f (n, omega (arith, length-range_with_len 0 count), get_or-range_with_len 0 count n n nl ∙ omega arith);
}

pub some_first : (r : Option ℕ) (xs : List ℕ) → r ≡ slice_get xs 0 → xs ≢ [] → IsSome r
some_first r [] e n = absurd (n refl)
some_first r (x ∷ xs) e n = rw e (search rules)
