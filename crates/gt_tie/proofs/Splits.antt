-- Records and heaps are dealt one after another.
use Rattle.std.proofs.Common.{◌≡◌, ◌+◌, ◌*◌, ◌<◌, ℕ, zero, suc, List, [], ◌∷◌, length, set, Option, None, Some, refl, sym, ap, ◌∙◌, subst, arith, replicate, cond, ne_eqb, ◌++◌, ◌⊎◌, inl, inr, ⊎_elim}
use Rattle.std.specs.Prelude.{slice_index, slice_get}
use Rattle.gt_tie.specs.Shown.{ShownTies, ShownRec, ShownHeap}
use Rattle.gt_tie.specs.Opening.{IsUnsetRec, IsEmptyHeap, AreUnsetRecs, AreEmptyHeaps}
use mathlib.Core.Option.{some, some-injective, some-ne-none}
use lib.ListN.{get_elem?}
use Rattle.atomic_table.specs.Table.{Splits, opening}
use Rattle.gt_tie.specs.declared.view.View.{View}
use Rattle.gt_tie.specs.declared.view.Setting.{Setting}
use Rattle.gt_tie.specs.Views.{unset, due_of, key_in, setting_at, key_at, rec_view, heap_view}
use Rattle.gt_tie.specs.Rule.{Holds, Deal, Fits, FitsRest, FitsBook, FitsHeap, FitsRec, whole, new_rec, new_heap, one_record_less, next_record, one_heap_less, next_heap}
use Rattle.gt_tie.proofs.Moves.{moved, moved-same, moved-other, some_same, none_some, split_holds}

setting_at-replicate : (n i : ℕ) → setting_at (replicate n unset) i ≡ unset
setting_at-replicate zero i = refl
setting_at-replicate (suc n) zero = refl
setting_at-replicate (suc n) (suc i) = setting_at-replicate n i

key_at-replicate : (n i : ℕ) → key_at (replicate n None) i ≡ None
key_at-replicate zero i = refl
key_at-replicate (suc n) zero = refl
key_at-replicate (suc n) (suc i) = key_at-replicate n i

zero_at : (n i : ℕ) → slice_index (replicate n 0) i ≡ 0
zero_at zero i = refl
zero_at (suc n) zero = refl
zero_at (suc n) (suc i) = zero_at n i

length-replicate_settings : (n : ℕ) → length (replicate n unset) ≡ n
length-replicate_settings zero = refl
length-replicate_settings (suc n) = ap suc (length-replicate_settings n)

length-replicate_keys : (n : ℕ) → length (replicate {A = Option ℕ} n None) ≡ n
length-replicate_keys zero = refl
length-replicate_keys (suc n) = ap suc (length-replicate_keys n)

pub record_splits : (n m id i q : ℕ) → i < n → Splits (Holds n m) id (whole n m i q) (whole n m (i + 1) q) (rec_view m (new_rec i))
record_splits n m id i q inside s t at =
    let mine : Fits s.words n m t.deal id (whole n m i q) = t.each id (whole n m i q) at in
    let own = mine.rest (record { records = n; from_record = i; from_heap = q }) refl in
    let from = own.from_record in
    let place : ℕ = length (set s.views id (whole n m (i + 1) q)) in
    let d : Deal = record t.deal { records = i + 1; rec_seat = moved t.deal.rec_seat i place } in
    split_holds n m id s d (whole n m (i + 1) q) (rec_view m (new_rec i)) t.words
    (record {
      rest = λ r e. subst (FitsRest s.words n d id) (some_same e) (record {
        here = own.here;
        records = refl;
        from_record = refl;
        from_heap = own.from_heap;
        due = λ p le. own.due p (omega arith);
        period = λ p le. own.period p (omega arith);
        heap = λ p le. own.heap p (omega arith);
        key = λ p le. own.key p (omega arith);
        unplaced = own.unplaced;
      });
      book = λ l e. let b = mine.book l e in record { here = b.here; all = b.all; due = b.due; period = b.period };
      heap = λ h e. none_some e;
      rec = λ r e. none_some e;
    })
    (record {
      rest = λ r e. none_some e;
      book = λ l e. none_some e;
      heap = λ h e. none_some e;
      rec = λ r e. subst (FitsRec s.words n m d place) (some_same e) (record {
        here = sym (moved-same t.deal.rec_seat i place);
        dealt = omega arith;
        number = inside;
        due = own.due i (omega arith);
        period = own.period i (omega arith);
        heap = own.heap i (omega arith);
        key = own.key i (omega arith);
        below = omega arith;
      });
    })
    (λ k u ne e. let f = t.each k u e in record {
      rest = λ r is. absurd (ne ((f.rest r is).here ∙ sym own.here));
      book = λ l is. let b = f.book l is in record { here = b.here; all = b.all; due = b.due; period = b.period };
      heap = λ h is. let b = f.heap h is in record { here = b.here; dealt = b.dealt; number = b.number; all = b.all; keys = b.keys };
      rec = λ r is. let b = f.rec r is in let under = b.dealt in record {
        here = b.here ∙ sym (moved-other t.deal.rec_seat i place r.number (λ z. absurd (omega arith)));
        dealt = omega arith;
        number = b.number;
        due = b.due;
        period = b.period;
        heap = b.heap;
        key = b.key;
        below = b.below;
      };
    })

pub heap_splits : (n m id i q : ℕ) → q < m → Splits (Holds n m) id (whole n m i q) (whole n m i (q + 1)) (heap_view m (new_heap n q))
heap_splits n m id i q inside s t at =
    let mine : Fits s.words n m t.deal id (whole n m i q) = t.each id (whole n m i q) at in
    let own = mine.rest (record { records = n; from_record = i; from_heap = q }) refl in
    let from = own.from_heap in
    let place : ℕ = length (set s.views id (whole n m i (q + 1))) in
    let d : Deal = record t.deal { heaps = q + 1; heap_seat = moved t.deal.heap_seat q place } in
    split_holds n m id s d (whole n m i (q + 1)) (heap_view m (new_heap n q)) t.words
    (record {
      rest = λ r e. subst (FitsRest s.words n d id) (some_same e) (record {
        here = own.here;
        records = refl;
        from_record = own.from_record;
        from_heap = refl;
        due = own.due;
        period = own.period;
        heap = own.heap;
        key = own.key;
        unplaced = λ p y le y_in. own.unplaced p y (omega arith) y_in;
      });
      book = λ l e. let b = mine.book l e in record { here = b.here; all = b.all; due = b.due; period = b.period };
      heap = λ h e. none_some e;
      rec = λ r e. none_some e;
    })
    (record {
      rest = λ r e. none_some e;
      book = λ l e. none_some e;
      heap = λ h e. subst (FitsHeap s.words n m d place) (some_same e) (record {
        here = sym (moved-same t.deal.heap_seat q place);
        dealt = omega arith;
        number = inside;
        all = length-replicate_keys n;
        keys = λ y y_in. key_at-replicate n y ∙ sym (own.unplaced q y (omega arith) y_in);
      });
      rec = λ r e. none_some e;
    })
    (λ k u ne e. let f = t.each k u e in record {
      rest = λ r is. absurd (ne ((f.rest r is).here ∙ sym own.here));
      book = λ l is. let b = f.book l is in record { here = b.here; all = b.all; due = b.due; period = b.period };
      heap = λ h is. let b = f.heap h is in let under = b.dealt in record {
        here = b.here ∙ sym (moved-other t.deal.heap_seat q place h.number (λ z. absurd (omega arith)));
        dealt = omega arith;
        number = b.number;
        all = b.all;
        keys = b.keys;
      };
      rec = λ r is. let b = f.rec r is in record { here = b.here; dealt = b.dealt; number = b.number; due = b.due; period = b.period; heap = b.heap; key = b.key; below = b.below };
    })

abbrev start : Deal
start = record { rest_seat = 0; book_seat = 0; rec_seat = λ _. 0; heap_seat = λ _. 0; records = 0; heaps = 0 }

pub opening_holds : (n m : ℕ) → Holds n m (opening (replicate (4 * n) 0) [] (whole n m 0 0))
opening_holds n m = record { words = length-zeros (4 * n); deal = start; each = fits }
  where
    length-zeros : (k : ℕ) → length {A = ℕ} (replicate k 0) ≡ k
    length-zeros zero = refl
    length-zeros (suc k) = ap suc (length-zeros k)

    ws : List ℕ
    ws = replicate (4 * n) 0

    first : Fits ws n m start 0 (whole n m 0 0)
    first = record {
      rest = λ r e. subst (FitsRest ws n start 0) (some_same e) (record {
        here = refl;
        records = refl;
        from_record = refl;
        from_heap = refl;
        due = λ i _. zero_at (4 * n) (4 * i);
        period = λ i _. zero_at (4 * n) (4 * i + 1);
        heap = λ i _. zero_at (4 * n) (4 * i + 2);
        key = λ i _. zero_at (4 * n) (4 * i + 3);
        unplaced = λ q i _ _. (λ j. key_in q (zero_at (4 * n) (4 * i + 2) j) (slice_index ws (4 * i + 3))) ∙ ap (λ b. cond b (Some (slice_index ws (4 * i + 3))) None) (ne_eqb 0 (q + 1) (λ e. absurd (omega arith)));
      });
      book = λ l e. subst (FitsBook ws n start 0) (some_same e) (record {
        here = refl;
        all = length-replicate_settings n;
        due = λ i _. ap (λ (z : Setting). z.due) (setting_at-replicate n i) ∙ ap due_of (sym (zero_at (4 * n) (4 * i)));
        period = λ i _. ap (λ (z : Setting). z.period) (setting_at-replicate n i) ∙ sym (zero_at (4 * n) (4 * i + 1));
      });
      heap = λ h e. none_some e;
      rec = λ r e. none_some e;
    }

    fits : (k : ℕ) (v : View) → get_elem? (whole n m 0 0 ∷ []) k ≡ some v → Fits ws n m start k v
    fits zero v e = subst (Fits ws n m start 0) (some-injective (whole n m 0 0) v e) first
    fits (suc k) v e = absurd (some-ne-none v (sym e))

pub record_splits_as : (n m id i q : ℕ) (v : View) → v ≡ whole n m i q → i < n → Splits (Holds n m) id v (one_record_less v) (next_record v)
record_splits_as n m id i q v e inside = subst (λ (u : View). Splits (Holds n m) id u (one_record_less u) (next_record u)) (sym e) (record_splits n m id i q inside)

pub heap_splits_as : (n m id i q : ℕ) (v : View) → v ≡ whole n m i q → q < m → Splits (Holds n m) id v (one_heap_less v) (next_heap v)
heap_splits_as n m id i q v e inside = subst (λ (u : View). Splits (Holds n m) id u (one_heap_less u) (next_heap u)) (sym e) (heap_splits n m id i q inside)

get_last_or : {A : Type 0} (xs : List A) (a b : A) (q : ℕ) → slice_get (xs ++ a ∷ []) q ≡ Some b → (slice_get xs q ≡ Some b) ⊎ ((q ≡ length xs) × (a ≡ b))
get_last_or [] a b zero e = inr (refl, some_same e)
get_last_or [] a b (suc q) e = cc
get_last_or (x ∷ xs) a b zero e = inl e
get_last_or (x ∷ xs) a b (suc q) e = ⊎_elim (λ t. inl t) (λ t. inr (ap suc t.0, t.1)) (get_last_or xs a b q e)

pub AreUnsetRecs-append : (t : ShownTies) (xs : List ShownRec) (n : ℕ) (x : ShownRec) → length xs ≡ n → AreUnsetRecs t xs → IsUnsetRec t n x → AreUnsetRecs t (xs ++ x ∷ [])
AreUnsetRecs-append t xs n x len all one = λ q g e. ⊎_elim (λ (was : slice_get xs q ≡ Some g). all q g was) (λ (new : (q ≡ length xs) × (x ≡ g)). subst (λ (y : ℕ × ShownRec). IsUnsetRec t y.0 y.1) (λ j. (sym (new.0 ∙ len) j, new.1 j)) one) (get_last_or xs x g q e)

pub AreEmptyHeaps-append : (t : ShownTies) (xs : List ShownHeap) (n : ℕ) (x : ShownHeap) → length xs ≡ n → AreEmptyHeaps t xs → IsEmptyHeap t n x → AreEmptyHeaps t (xs ++ x ∷ [])
AreEmptyHeaps-append t xs n x len all one = λ q g e. ⊎_elim (λ (was : slice_get xs q ≡ Some g). all q g was) (λ (new : (q ≡ length xs) × (x ≡ g)). subst (λ (y : ℕ × ShownHeap). IsEmptyHeap t y.0 y.1) (λ j. (sym (new.0 ∙ len) j, new.1 j)) one) (get_last_or xs x g q e)
