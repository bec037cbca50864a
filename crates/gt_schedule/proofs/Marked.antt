-- A goroutine's marks are changed and read, and the first of a timer is found among them.
use Rattle.std.proofs.Common.{◌≡◌, ℕ, zero, suc, ◌-◌, ◌<◌, ◌≤◌, ◌==◌, false, List, [], ◌∷◌, length, set, remove, get_or, slice_get, Option, Some, None, IsSome, eq-eqb, sym, refl, ap, subst, ◌∙◌, arith}
use Rattle.gt_model.specs.Tables.{numbered, change, change_numbered}
use Rattle.gt_schedule.specs.Counts.{times}
use Rattle.gt_schedule.specs.Schedule.{without_first}

-- the marks at a place
abbrev list_of : Option (List ℕ) → List ℕ
list_of None = []
list_of (Some ts) = ts

change-there : (xs : List (List ℕ)) (i : ℕ) (f : List ℕ → List ℕ) (ts : List ℕ) → slice_get xs i ≡ Some ts → set xs i (f ts) ≡ change xs i f
change-there [] i f ts e = cc
change-there (x ∷ xs) zero f ts e = let is : x ≡ ts = cc in ap (λ y. f y ∷ xs) (sym is)
change-there (x ∷ xs) (suc i) f ts e = ap (λ ys. x ∷ ys) (change-there xs i f ts e)

-- the marks of goroutine g are changed
pub marks-changed : (xs : List (List ℕ)) (g : ℕ) (f : List ℕ → List ℕ) (ts : List ℕ) → 1 ≤ g → slice_get xs (g - 1) ≡ Some ts → set xs (g - 1) (f ts) ≡ change_numbered xs g f
marks-changed xs zero f ts some e = absurd (omega arith)
marks-changed xs (suc i) f ts some e = let is : suc i - 1 ≡ i = omega arith in ap (λ k. set xs k (f ts)) is ∙ change-there xs i f ts (ap (slice_get xs) (sym is) ∙ e)

-- ---- the first place of a number

-- it is not among the first n
abbrev pub IsBehind : ℕ → List ℕ → ℕ → Type 0
IsBehind t xs n = (k : ℕ) → k < n → k < length xs → get_or xs k 0 == t ≡ false

behind-rest : (t x : ℕ) (xs : List ℕ) (n : ℕ) → IsBehind t (x ∷ xs) (suc n) → IsBehind t xs n
behind-rest t x xs n h k less within = h (suc k) (omega arith) (omega arith)

-- a list that does not have it stays
pub without-none : (t : ℕ) (xs : List ℕ) (n : ℕ) → length xs ≤ n → IsBehind t xs n → without_first t xs ≡ xs
without-none t [] n few h = refl
without-none t (x ∷ xs) zero few h = absurd (omega arith)
without-none t (x ∷ xs) (suc n) few h =
    let other : x == t ≡ false = h 0 (omega arith) (omega arith) in
    rw other (ap (λ ys. x ∷ ys) (without-none t xs n (omega arith) (behind-rest t x xs n h)))

-- and else its first place is left out
pub without-found : (t : ℕ) (xs : List ℕ) (n d : ℕ) → n < length xs → get_or xs n d ≡ t → IsBehind t xs n → without_first t xs ≡ remove xs n
without-found t [] n d within is h = absurd (omega arith)
without-found t (x ∷ xs) zero d within is h = rw (eq-eqb x t is) refl
without-found t (x ∷ xs) (suc n) d within is h =
    let other : x == t ≡ false = h 0 (omega arith) (omega arith) in
    rw other (ap (λ ys. x ∷ ys) (without-found t xs n d (omega arith) is (behind-rest t x xs n h)))

-- ---- a goroutine with marks

pub numbered-from : {X : Type 0} (xs : List X) (g : ℕ) → IsSome (numbered xs g) → 1 ≤ g
numbered-from xs zero some = cc
numbered-from xs (suc i) some = omega arith

pub marked-from : (xs : List (List ℕ)) (g t : ℕ) → 0 < times t (list_of (numbered xs g)) → 1 ≤ g
marked-from xs zero t some = absurd (omega arith)
marked-from xs (suc i) t some = omega arith

-- who has the number g has its marks at the place before
pub marks-there : (xs : List (List ℕ)) (g : ℕ) (ts : List ℕ) → 1 ≤ g → slice_get xs (g - 1) ≡ Some ts → numbered xs g ≡ Some ts
marks-there xs zero ts some e = absurd (omega arith)
marks-there xs (suc i) ts some e = let is : suc i - 1 ≡ i = omega arith in ap (slice_get xs) (sym is) ∙ e

pub few-marks : (xs : List (List ℕ)) (g : ℕ) (ts : List ℕ) → 1 ≤ g → slice_get xs (g - 1) ≡ Some ts → length (list_of (numbered xs g)) < 16 → length ts < 16
few-marks xs g ts some e few = subst (λ (o : Option (List ℕ)). length (list_of o) < 16) (marks-there xs g ts some e) few
