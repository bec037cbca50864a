-- How many marks a timer has, after one was set or taken away.
use Rattle.std.proofs.Common.{◌≡◌, ◌≢◌, ℕ, zero, suc, ◌+◌, ◌*◌, ◌<◌, ◌≤◌, ◌==◌, List, [], ◌∷◌, ◌++◌, length, sum_by, slice_get, refl, sym, ap, subst, ◌∙◌, arith, Option, None, Some, Bool, true, false, inl, inr}
use Rattle.std.proofs.lemmas.Bool.{cases_eq, eq-eqb, ne_eqb}
use Rattle.std.proofs.lemmas.List.Sums.{sum_by-cons}
use Rattle.gt_model.specs.Tables.{numbered, change, change_numbered}
use Rattle.gt_schedule.specs.Counts.{as_number, times}
use Rattle.gt_schedule.specs.Schedule.{Schedule, marks_at, mark_count, marked, unmarked, without_first}
use Rattle.gt_schedule.proofs.Lists.{times-push_same, times-push_other}

-- ---- a sum over a list of which one item changes

sum-change : {X : Type 0} (f : X → ℕ) (xs : List X) (i : ℕ) (h : X → X) (x : X) → slice_get xs i ≡ Some x → sum_by f (change xs i h) + f x ≡ sum_by f xs + f (h x)
sum-change f [] i h x e = cc
sum-change f (y ∷ xs) zero h x e =
    let same : y ≡ x = cc in
    let before : sum_by f (y ∷ xs) ≡ f y + sum_by f xs = sum_by-cons f y xs in
    let now : sum_by f (h y ∷ xs) ≡ f (h y) + sum_by f xs = sum_by-cons f (h y) xs in
    let first : f y ≡ f x = ap f same in
    let last : f (h y) ≡ f (h x) = ap (λ x. f (h x)) same in
    omega arith
sum-change f (y ∷ xs) (suc i) h x e =
    let before : sum_by f (y ∷ xs) ≡ f y + sum_by f xs = sum_by-cons f y xs in
    let now : sum_by f (y ∷ change xs i h) ≡ f y + sum_by f (change xs i h) = sum_by-cons f y (change xs i h) in
    let rest : sum_by f (change xs i h) + f x ≡ sum_by f xs + f (h x) = sum-change f xs i h x e in
    omega arith

sum-change_numbered : {X : Type 0} (f : X → ℕ) (xs : List X) (g : ℕ) (h : X → X) (x : X) → numbered xs g ≡ Some x → sum_by f (change_numbered xs g h) + f x ≡ sum_by f xs + f (h x)
sum-change_numbered f xs zero h x e = cc
sum-change_numbered f xs (suc i) h x e = sum-change f xs i h x e

-- ---- one mark more, or less

pub count-marked_same : (m : Schedule) (g t : ℕ) (ts : List ℕ) → numbered m.marks g ≡ Some ts → mark_count (marked m g t) t ≡ mark_count m t + 1
count-marked_same m g t ts e =
    let sum : mark_count (marked m g t) t + times t ts ≡ mark_count m t + times t (ts ++ t ∷ []) = sum-change_numbered (times t) m.marks g (λ ts. ts ++ t ∷ []) ts e in
    let more : times t (ts ++ t ∷ []) ≡ times t ts + 1 = times-push_same t ts in
    omega arith

pub count-marked_other : (m : Schedule) (g t u : ℕ) (ts : List ℕ) → numbered m.marks g ≡ Some ts → u ≢ t → mark_count (marked m g t) u ≡ mark_count m u
count-marked_other m g t u ts e other =
    let sum : mark_count (marked m g t) u + times u ts ≡ mark_count m u + times u (ts ++ t ∷ []) = sum-change_numbered (times u) m.marks g (λ ts. ts ++ t ∷ []) ts e in
    let more : times u (ts ++ t ∷ []) ≡ times u ts = times-push_other u t ts other in
    omega arith

without-same : (t : ℕ) (ts : List ℕ) → 0 < times t ts → times t (without_first t ts) + 1 ≡ times t ts
without-same t [] h = absurd (omega arith)
without-same t (x ∷ xs) h =
    elim (cases_eq x t) [
      | inl e ↦ rw (eq-eqb x t e) (omega arith)
      | inr n ↦
          let here : 0 < as_number false + times t xs = subst (λ b. 0 < as_number b + times t xs) (ne_eqb x t n) h in
          let rest : 0 < times t xs = omega arith in
          let less : times t (without_first t xs) + 1 ≡ times t xs = without-same t xs rest in
          rw (ne_eqb x t n, ne_eqb x t n) (omega arith)
    ]

without-other : (t u : ℕ) (ts : List ℕ) → u ≢ t → times u (without_first t ts) ≡ times u ts
without-other t u [] n = refl
without-other t u (x ∷ xs) n =
    elim (cases_eq x t) [
      | inl e ↦
          let off : x ≡ u → ⊥ = λ k. n (sym k ∙ e) in
          rw (eq-eqb x t e, ne_eqb x u off) (omega arith)
      | inr k ↦ rw (ne_eqb x t k) (ap (λ i. as_number (x == u) + i) (without-other t u xs n))
    ]

pub count-unmarked_same : (m : Schedule) (g t : ℕ) (ts : List ℕ) → numbered m.marks g ≡ Some ts → 0 < times t ts → mark_count (unmarked m g t) t + 1 ≡ mark_count m t
count-unmarked_same m g t ts e some =
    let sum : mark_count (unmarked m g t) t + times t ts ≡ mark_count m t + times t (without_first t ts) = sum-change_numbered (times t) m.marks g (without_first t) ts e in
    let less : times t (without_first t ts) + 1 ≡ times t ts = without-same t ts some in
    omega arith

pub count-unmarked_other : (m : Schedule) (g t u : ℕ) (ts : List ℕ) → numbered m.marks g ≡ Some ts → u ≢ t → mark_count (unmarked m g t) u ≡ mark_count m u
count-unmarked_other m g t u ts e other =
    let sum : mark_count (unmarked m g t) u + times u ts ≡ mark_count m u + times u (without_first t ts) = sum-change_numbered (times u) m.marks g (without_first t) ts e in
    let same : times u (without_first t ts) ≡ times u ts = without-other t u ts other in
    omega arith

-- ---- who has a mark

pub record HasMark (m : Schedule) (t : ℕ) : Type 0 where
  pub who : ℕ
  pub marks : List ℕ
  pub there : numbered m.marks who ≡ Some marks
  pub marked : 0 < times t marks

abbrev Marked : List (List ℕ) → ℕ → Type 0
Marked xss t = (g : ℕ) × ((ts : List ℕ) × (numbered xss g ≡ Some ts) × (0 < times t ts))

mark-later : (xs : List ℕ) (xss : List (List ℕ)) (t g : ℕ) (ts : List ℕ) → numbered xss g ≡ Some ts → 0 < times t ts → Marked (xs ∷ xss) t
mark-later xs xss t zero ts e k = cc
mark-later xs xss t (suc i) ts e k = (suc (suc i), (ts, e, k))

mark-first : (xs : List ℕ) (xss : List (List ℕ)) (t k : ℕ) → times t xs ≡ k → (k ≡ 0 → Marked xss t) → Marked (xs ∷ xss) t
mark-first xs xss t (suc k) e rest = (1, (xs, refl, omega arith))
mark-first xs xss t zero e rest = let found = rest refl in mark-later xs xss t found.0 found.1.0 found.1.1 found.1.2

some-mark : (xss : List (List ℕ)) (t : ℕ) → 0 < sum_by (times t) xss → Marked xss t
some-mark [] t h = absurd (omega arith)
some-mark (xs ∷ xss) t h =
    let sum : sum_by (times t) (xs ∷ xss) ≡ times t xs + sum_by (times t) xss = sum_by-cons (times t) xs xss in
    mark-first xs xss t (times t xs) refl (λ none. some-mark xss t (omega arith))

pub has-mark : (m : Schedule) (t : ℕ) → 0 < mark_count m t → HasMark m t
has-mark m t h = let found = some-mark m.marks t h in record { who = found.0; marks = found.1.0; there = found.1.1; marked = found.1.2 }

pub mark-counts : (m : Schedule) (g t : ℕ) (ts : List ℕ) → numbered m.marks g ≡ Some ts → 0 < times t ts → 0 < mark_count m t
mark-counts m g t ts e some =
    let sum : sum_by (times t) (change_numbered m.marks g (λ _. [])) + times t ts ≡ mark_count m t + times t [] = sum-change_numbered (times t) m.marks g (λ _. []) ts e in
    omega arith

-- ---- few marks

times-few : (t : ℕ) (ts : List ℕ) → times t ts ≤ length ts
times-few t [] = omega arith
times-few t (x ∷ xs) = let rest : times t xs ≤ length xs = times-few t xs in one (x == t) rest
  where
    one : (b : Bool) → times t xs ≤ length xs → as_number b + times t xs ≤ length (x ∷ xs)
    one true h = omega arith
    one false h = omega arith

few-marks : (xss : List (List ℕ)) (t : ℕ) → ((i : ℕ) (ts : List ℕ) → slice_get xss i ≡ Some ts → length ts ≤ 16) → sum_by (times t) xss ≤ 16 * length xss
few-marks [] t h = omega arith
few-marks (xs ∷ xss) t h =
    let sum : sum_by (times t) (xs ∷ xss) ≡ times t xs + sum_by (times t) xss = sum_by-cons (times t) xs xss in
    let one : length xs ≤ 16 = h 0 xs refl in
    let few : times t xs ≤ length xs = times-few t xs in
    let rest : sum_by (times t) xss ≤ 16 * length xss = few-marks xss t (λ i ts e. h (suc i) ts e) in
    omega arith

pub count-few : (m : Schedule) (t : ℕ) → ((g : ℕ) → length (marks_at m g) ≤ 16) → mark_count m t ≤ 16 * length m.marks
count-few m t h = few-marks m.marks t (λ i ts e. subst (λ (o : Option (List ℕ)). length (list_or_none o) ≤ 16) e (h (suc i)))
  where
    list_or_none : Option (List ℕ) → List ℕ
    list_or_none None = []
    list_or_none (Some ts) = ts
