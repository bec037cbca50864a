-- Seats taken off the rest keep the rule.
use Rattle.std.proofs.Common.{◌≡◌, ◌<◌, ◌≢◌, ◌+◌, ◌⊎◌, ℕ, zero, suc, false, List, [], ◌∷◌, ◌++◌, length, set, Some, refl, sym, ap, ◌∙◌, subst, inl, inr, ⊎_elim, arith, replicate}
use mathlib.Core.Option.{some, some-injective, some-ne-none}
use lib.ListN.{get_elem?}
use Rattle.atomic_table.specs.Table.{State, Splits, opening}
use Rattle.atomic_table.proofs.Lists.{at_set}
use Rattle.gt_word_table.specs.declared.view.View.{View}
use Rattle.gt_word_table.specs.declared.view.View.TheVariants.{Rest, Worker, Heap}
use Rattle.gt_word_table.specs.declared.view.Load.{Load}
use Rattle.gt_word_table.specs.Views.{no_load, load_at}
use Rattle.gt_word_table.specs.Rule.{Holds, Deal, Fits, FitsRest, FitsWorker, rest, new_worker, new_heap, fresh_worker, fresh_heap, one_made}
use Rattle.std.specs.Prelude.{slice_get}
use Rattle.gt_word_table.specs.Shown.{ShownTable, ShownHeap}
use Rattle.gt_word_table.specs.Opening.{AreEmpty, IsFreshHeap, AreFreshHeaps}
use Rattle.gt_word_table.proofs.Heaps.{moved, moved-same, moved-other}

load_at-replicate : (n q : ℕ) → load_at (replicate n no_load) q ≡ no_load
load_at-replicate zero q = refl
load_at-replicate (suc n) zero = refl
load_at-replicate (suc n) (suc q) = load_at-replicate n q

-- a place in a list with one more: it is a place of the list, or the last
last_or : {A : Type 0} (xs : List A) (a b : A) (j : ℕ) → get_elem? (xs ++ a ∷ []) j ≡ some b → (get_elem? xs j ≡ some b) ⊎ ((j ≡ length xs) × (a ≡ b))
last_or [] a b zero e = inr (refl, some-injective a b e)
last_or [] a b (suc j) e = absurd (some-ne-none b (sym e))
last_or (x ∷ xs) a b zero e = inl e
last_or (x ∷ xs) a b (suc j) e = ⊎_elim (λ t. inl t) (λ t. inr (ap suc t.0, t.1)) (last_or xs a b j e)

some_same : {A : Type 0} {x y : A} → Some x ≡ Some y → x ≡ y
some_same e = cc

get_last_or : {A : Type 0} (xs : List A) (a b : A) (q : ℕ) → slice_get (xs ++ a ∷ []) q ≡ Some b → (slice_get xs q ≡ Some b) ⊎ ((q ≡ length xs) × (a ≡ b))
get_last_or [] a b zero e = inr (refl, some_same e)
get_last_or [] a b (suc q) e = cc
get_last_or (x ∷ xs) a b zero e = inl e
get_last_or (x ∷ xs) a b (suc q) e = ⊎_elim (λ t. inl t) (λ t. inr (ap suc t.0, t.1)) (get_last_or xs a b q e)

new_worker-fits : (words : List ℕ) (d : Deal) (n : ℕ) → FitsWorker words d (new_worker n)
new_worker-fits words d n = record {
  counts = λ q. let e : (load_at (replicate n no_load) q).word ≡ 0 = ap (λ (l : Load). l.word) (load_at-replicate n q) in omega arith;
  note = λ m e. cc;
}

-- a view cut in two, where each view fits afterwards
split_holds : (n id : ℕ) (s : State Unit View) (d : Deal) (left right : View) → Holds n s
    → Fits s.words d id left → Fits s.words d (length (set s.views id left)) right
    → ((k : ℕ) (u : View) → k ≢ id → get_elem? s.views k ≡ some u → Fits s.words d k u)
    → Holds n (record { words = s.words; homes = s.homes; views = set s.views id left ++ right ∷ [] })
split_holds n id s d left right h mine new others = record {
  words = h.words;
  deal = d;
  each = λ k u e. ⊎_elim
      (λ (was : get_elem? (set s.views id left) k ≡ some u). ⊎_elim
      (λ (t : (k ≡ id) × (left ≡ u)). subst (λ (y : ℕ × View). Fits s.words d y.0 y.1) (λ j. (sym t.0 j, t.1 j)) mine)
      (λ (t : (k ≢ id) × (get_elem? s.views k ≡ some u)). others k u t.0 t.1)
      (at_set s.views id k left u was))
      (λ (t : (k ≡ length (set s.views id left)) × (right ≡ u)). subst (λ (y : ℕ × View). Fits s.words d y.0 y.1) (λ j. (sym t.0 j, t.1 j)) new)
      (last_or (set s.views id left) right u k e);
}

pub worker_splits : (n id made : ℕ) → Splits (Holds n) id (rest n made) (rest n made) (Worker (new_worker n))
worker_splits n id made s h at =
    split_holds n id s h.deal (rest n made) (Worker (new_worker n)) h (h.each id (rest n made) at) (new_worker-fits s.words h.deal n) (λ k u ne e. h.each k u e)

pub heap_splits : (n id made : ℕ) → made < n → Splits (Holds n) id (rest n made) (rest n (made + 1)) (Heap (new_heap made))
heap_splits n id made below s h at =
    let own : FitsRest s.words h.deal id (record { heaps = n; made = made }) = h.each id (rest n made) at in
    let place : ℕ = length (set s.views id (rest n (made + 1))) in
    let made_is = own.made in
    let d : Deal = record h.deal { made = made + 1; seat_of = moved h.deal.seat_of made place } in
    split_holds n id s d (rest n (made + 1)) (Heap (new_heap made)) h
    (record { here = own.here; made = refl; counts = λ q le. own.counts q (omega arith); held = λ q le inside. own.held q (omega arith) inside; bumped = λ q le. own.bumped q (omega arith) })
    (record { here = sym (moved-same h.deal.seat_of made place); made = omega arith; count = own.counts made (omega arith); word = own.held made (omega arith) below; bumped = own.bumped made (omega arith); low = λ v e. cc })
    (λ k u ne e. stays k u ne (h.each k u e))
  where
    stays : (k : ℕ) (u : View) → k ≢ id → Fits s.words h.deal k u
        → Fits s.words (record h.deal { made = made + 1; seat_of = moved h.deal.seat_of made (length (set s.views id (rest n (made + 1)))) }) k u
    stays k (Rest r) ne f = absurd (ne (f.here ∙ sym (h.each id (rest n made) at).here))
    stays k (Worker w) ne f = record { counts = f.counts; note = f.note }
    stays k (Heap g) ne f =
        let made_is = (h.each id (rest n made) at).made in
        let under = f.made in
        record {
          here = f.here ∙ sym (moved-other h.deal.seat_of made (length (set s.views id (rest n (made + 1)))) g.heap (λ e. omega arith));
          made = omega arith;
          count = f.count;
          word = f.word;
          bumped = f.bumped;
          low = f.low;
        }

-- the table at the start
pub opening_holds : (n : ℕ) (words : List ℕ) → AreEmpty n words → Holds n (opening words [] (rest n 0))
opening_holds n words empty = record {
  words = empty.sized;
  deal = record { rest_seat = 0; made = 0; seat_of = λ _. 0; bumped = λ _. false };
  each = fits;
}
  where
    fits : (k : ℕ) (v : View) → get_elem? (rest n 0 ∷ []) k ≡ some v → Fits words (record { rest_seat = 0; made = 0; seat_of = λ _. 0; bumped = λ _. false }) k v
    fits zero v e = subst (Fits words (record { rest_seat = 0; made = 0; seat_of = λ _. 0; bumped = λ _. false }) 0) (some-injective (rest n 0) v e)
        (record { here = refl; made = refl; counts = λ q _. empty.counts q; held = λ q _ inside. empty.heaps q inside; bumped = λ _ _. refl })
    fits (suc k) v e = absurd (some-ne-none v (sym e))

-- a list of heaps' seats with one more
pub AreFreshHeaps-append : (t : ShownTable) (hs : List ShownHeap) (n : ℕ) (h : ShownHeap) → length hs ≡ n → AreFreshHeaps t hs → IsFreshHeap t n h → AreFreshHeaps t (hs ++ h ∷ [])
AreFreshHeaps-append t hs n h len fresh one = λ q g e. ⊎_elim (λ (was : slice_get hs q ≡ Some g). fresh q g was) (λ (new : (q ≡ length hs) × (h ≡ g)). subst (λ (y : ℕ × ShownHeap). IsFreshHeap t y.0 y.1) (λ j. (sym (new.0 ∙ len) j, new.1 j)) one) (get_last_or hs h g q e)

-- the splits at views that are known
pub worker_splits_as : (n id : ℕ) (v : View) (made : ℕ) → v ≡ rest n made → Splits (Holds n) id v v (fresh_worker v)
worker_splits_as n id v made e = subst (λ (u : View). Splits (Holds n) id u u (fresh_worker u)) (sym e) (worker_splits n id made)

pub heap_splits_as : (n id : ℕ) (v : View) (made : ℕ) → v ≡ rest n made → made < n → Splits (Holds n) id v (one_made v) (fresh_heap v)
heap_splits_as n id v made e below = subst (λ (u : View). Splits (Holds n) id u (one_made u) (fresh_heap u)) (sym e) (heap_splits n id made below)
