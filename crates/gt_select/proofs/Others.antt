-- The first party of another goroutine in a list.
use Rattle.std.proofs.Common.{◌≡◌, ◌≢◌, ℕ, ◌<◌, Option, Some, None, List, [], ◌∷◌, length, map, refl, sym, ap, ◌∙◌, arith}
use Rattle.std.specs.Prelude.{nat_eq}
use Rattle.std.specs.List.{Contains, IsDistinct, slice_get}
use Rattle.std.proofs.lemmas.Bool.{eq-eqb, ne_eqb}
use Rattle.gt_model.specs.declared.entry.Party.{Party}
use Rattle.gt_queue.specs.Contents.{behind}
use Rattle.gt_queue.proofs.Behind.{behind-same, behind-next, Contains-behind}
use Rattle.gt_queue.proofs.Members.{Contains-from_first}
use Rattle.gt_select.specs.Kept.{from_member}
use Rattle.gt_select.specs.Waiting.{without_goroutine}

pub without_goroutine-same : (p : Party) (ps : List Party) (g : ℕ) → p.g ≡ g → without_goroutine (p ∷ ps) g ≡ without_goroutine ps g
without_goroutine-same p ps g e = rw (eq-eqb p.g g e) refl

pub without_goroutine-other : (p : Party) (ps : List Party) (g : ℕ) → p.g ≢ g → without_goroutine (p ∷ ps) g ≡ p ∷ without_goroutine ps g
without_goroutine-other p ps g n = rw (ne_eqb p.g g n) refl

pub from_member-first : (xs : List ℕ) (first : Option ℕ) → first ≡ slice_get xs 0 → from_member xs first ≡ xs
from_member-first xs first e = ap (from_member xs) e ∙ all xs
  where
    all : (ys : List ℕ) → from_member ys (slice_get ys 0) ≡ ys
    all [] = refl
    all (y ∷ ys) = ap (λ zs. y ∷ zs) (behind-same y y ys refl)

pub from_member-next : (xs : List ℕ) (m : ℕ) (next : Option ℕ) → IsDistinct nat_eq xs → next ≡ slice_get (behind xs m) 0 → from_member xs next ≡ behind xs m
from_member-next xs m None d e = nothing (behind xs m) e
  where
    nothing : (ys : List ℕ) → None ≡ slice_get ys 0 → [] ≡ ys
    nothing [] e = refl
    nothing (y ∷ ys) e = absurd (cc)
from_member-next xs m (Some n) d e = sym (behind-next m n xs d e)

-- so far: nobody of another goroutine was passed by, and the next one stands in the list
pub record IsPassing (f : ℕ → Party) (xs : List ℕ) (g : ℕ) (next : Option ℕ) : Type 0 where
  pub rest : without_goroutine (map f (from_member xs next)) g ≡ without_goroutine (map f xs) g
  pub stands : (n : ℕ) → next ≡ Some n → Contains xs n

module _ (f : ℕ → Party) (xs : List ℕ) (g : ℕ) where
  pub IsPassing-start : (first : Option ℕ) → first ≡ slice_get xs 0 → IsPassing f xs g first
  IsPassing-start first e = record {
    rest = ap (λ ys. without_goroutine (map f ys) g) (from_member-first xs first e);
    stands = λ n some. Contains-from_first n xs (sym some ∙ e);
  }

  pub IsPassing-next : (m : ℕ) (next : Option ℕ) → IsDistinct nat_eq xs → next ≡ slice_get (behind xs m) 0 → (f m).g ≡ g → IsPassing f xs g (Some m) → IsPassing f xs g next
  IsPassing-next m next d e same i = record {
    rest =
        ap (λ ys. without_goroutine (map f ys) g) (from_member-next xs m next d e)
        ∙ sym (without_goroutine-same (f m) (map f (behind xs m)) g same)
        ∙ i.rest;
    stands = λ n some. Contains-behind m n xs (Contains-from_first n (behind xs m) (sym some ∙ e));
  }

  pub IsPassing-found : (m : ℕ) → (f m).g ≢ g → IsPassing f xs g (Some m) → Some (f m) ≡ slice_get (without_goroutine (map f xs) g) 0
  IsPassing-found m other i =
      ap (λ ys. slice_get ys 0) (sym (without_goroutine-other (f m) (map f (behind xs m)) g other) ∙ i.rest)

  pub IsPassing-none : (next : Option ℕ) → next ≡ None → IsPassing f xs g next → None ≡ slice_get (without_goroutine (map f xs) g) 0
  IsPassing-none next none i =
      ap (λ ys. slice_get ys 0) (ap (λ n. without_goroutine (map f (from_member xs n)) g) (sym none) ∙ i.rest)

  pub from_member-shorter : (m : ℕ) (next : Option ℕ) → IsDistinct nat_eq xs → next ≡ slice_get (behind xs m) 0 → length (from_member xs next) < length (from_member xs (Some m))
  from_member-shorter m next d e =
      let same = ap length (from_member-next xs m next d e) in
      omega arith
