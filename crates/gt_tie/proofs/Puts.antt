-- Two changes of one item of a list, and the places that a record may have.
use Rattle.std.proofs.Common.{◌≡◌, ◌≢◌, ◌+◌, ◌-◌, ◌<◌, length, ℕ, zero, suc, Bool, true, false, cond, eqb, List, [], ◌∷◌, set, Option, None, Some, refl, ap, sym, ◌∙◌, inl, inr, arith, eq-eqb, ne_eqb}
use Rattle.std.specs.Option.{ForSome}
use Rattle.std.proofs.lemmas.Bool.{eqb-true, eqb-false}
use Rattle.gt_tie.specs.declared.view.Setting.{Setting}
use Rattle.gt_tie.specs.declared.view.HeapPart.{HeapPart}
use Rattle.gt_tie.specs.declared.view.Place.{Place}
use Rattle.std.specs.Prelude.{slice_get}
use Rattle.gt_tie.specs.Views.{due_of, key_in, key_at, key_under, place_of, IsOurs}
use Rattle.gt_tie.specs.Steps.{due_put, period_put, key_put, key_placed}

pub period_put-due_put : (l : List Setting) (i w p : ℕ) → period_put i p (due_put i w l) ≡ set l i (record { due = due_of w; period = p })
period_put-due_put [] i w p = refl
period_put-due_put (x ∷ xs) zero w p = refl
period_put-due_put (x ∷ xs) (suc i) w p = ap (λ ys. x ∷ ys) (period_put-due_put xs i w p)

set-set : (l : List (Option ℕ)) (i : ℕ) (a b : Option ℕ) → set (set l i a) i b ≡ set l i b
set-set [] i a b = refl
set-set (x ∷ xs) zero a b = refl
set-set (x ∷ xs) (suc i) a b = ap (λ ys. x ∷ ys) (set-set xs i a b)

pub key_put-none : (i key : ℕ) (h : HeapPart) → key_put i 0 key h ≡ key_placed i None h
key_put-none i key h =
    let none : key_in h.number 0 key ≡ None = ap (λ b. cond b (Some key) None) (ne_eqb 0 (h.number + 1) (λ e. absurd (omega arith))) in
    ap (λ y. record h { keys = set h.keys i y }) none

pub key_put-some : (i was key : ℕ) (h : HeapPart) → key_put i (h.number + 1) key (key_put i was key h) ≡ key_placed i (Some key) h
key_put-some i was key h =
    let is : key_in h.number (h.number + 1) key ≡ Some key = ap (λ b. cond b (Some key) None) (eq-eqb (h.number + 1) (h.number + 1) refl) in
    ap (λ ys. record h { keys = ys }) (set-set h.keys i (key_in h.number was key) (key_in h.number (h.number + 1) key) ∙ ap (λ y. set h.keys i y) is)

pub ours_from_place : (q heap key : ℕ) → ForSome (place_of heap key) (λ (p : Place). p.heap ≡ q) → IsOurs q heap
ours_from_place q heap key h = next (eqb heap 0) refl h
  where
    next : (b : Bool) → eqb heap 0 ≡ b → ForSome (cond b None (Some (record { heap = heap - 1; key = key }))) (λ (p : Place). p.heap ≡ q) → IsOurs q heap
    next true e _ = inl (eqb-true heap 0 e)
    next false e here = let ne = eqb-false heap 0 e in let is : heap - 1 ≡ q = here (record { heap = heap - 1; key = key }) refl in inr (omega arith)

pub slice_get-at : (keys : List (Option ℕ)) (i : ℕ) → i < length keys → slice_get keys i ≡ Some (key_at keys i)
slice_get-at [] i h = absurd (omega arith)
slice_get-at (x ∷ xs) zero h = refl
slice_get-at (x ∷ xs) (suc i) h = slice_get-at xs i (omega arith)

pub key_in-key_under : (q heap key : ℕ) → key_in q heap key ≡ key_under q (place_of heap key)
key_in-key_under q heap key = next (eqb heap 0) refl
  where
    next : (b : Bool) → eqb heap 0 ≡ b → key_in q heap key ≡ key_under q (cond b None (Some (record { heap = heap - 1; key = key })))
    next true e = let zero_is = eqb-true heap 0 e in ap (λ b. cond b (Some key) None) (ne_eqb heap (q + 1) (λ z. absurd (omega arith)))
    next false e = let ne = eqb-false heap 0 e in inner (eqb (heap - 1) q) refl ne
      where
        inner : (b : Bool) → eqb (heap - 1) q ≡ b → heap ≢ 0 → key_in q heap key ≡ cond (eqb (heap - 1) q) (Some key) None
        inner true e some = let same = eqb-true (heap - 1) q e in (λ j. cond (eq-eqb heap (q + 1) (omega arith) j) (Some key) None) ∙ (λ j. cond (sym e j) (Some key) None)
        inner false e some = let other = eqb-false (heap - 1) q e in (λ j. cond (ne_eqb heap (q + 1) (λ z. other (omega arith)) j) (Some key) None) ∙ (λ j. cond (sym e j) (Some key) None)
