-- Stores and looks keep the rule.
use Rattle.std.proofs.Common.{◌≡◌, ◌≢◌, ◌+◌, ◌*◌, ◌<◌, ◌≤◌, ℕ, Bool, true, false, cond, eqb, List, [], set, Option, None, Some, refl, sym, ap, ◌∙◌, subst, ⊎_elim, arith, length-set, ne_eqb}
use Rattle.std.specs.Prelude.{slice_index}
use Rattle.std.proofs.lemmas.Bool.{eqb-true, eqb-false}
use Rattle.std.proofs.lemmas.List.{get_or-set_same, get_or-set_other, set-get_or}
use mathlib.Core.Option.{some, none}
use lib.ListN.{get_elem?}
use Rattle.atomic_table.specs.Table.{State, step, Allows, stepped, keeps}
use Rattle.atomic_table.proofs.Lists.{at_set}
use Rattle.gt_tie.specs.declared.view.View.{View}
use Rattle.gt_tie.specs.declared.view.Rest.{Rest}
use Rattle.gt_tie.specs.declared.view.Setting.{Setting}
use Rattle.gt_tie.specs.declared.view.HeapPart.{HeapPart}
use Rattle.gt_tie.specs.declared.view.RecPart.{RecPart}
use Rattle.gt_tie.specs.Views.{unset, due_of, key_in, setting_at, key_at, IsOurs, with_book, with_heap}
use Rattle.gt_tie.specs.Rule.{Holds, Deal, Fits, FitsRest, FitsBook, FitsHeap, FitsRec, due_word, period_word, heap_word, key_word}
use Rattle.gt_tie.specs.Steps.{Looks, DueStores, PeriodStores, HeapStores, KeyStores, due_put, period_put, key_put, rec_due, rec_period, rec_heap, rec_key}
use Rattle.gt_tie.proofs.Moves.{some_same, none_some, at_place}

-- the words of the other records are the same
record Apart (ws ws' : List ℕ) (i : ℕ) : Type 0 where
  pub due : (p : ℕ) → p ≢ i → due_word ws' p ≡ due_word ws p
  pub period : (p : ℕ) → p ≢ i → period_word ws' p ≡ period_word ws p
  pub heap : (p : ℕ) → p ≢ i → heap_word ws' p ≡ heap_word ws p
  pub key : (p : ℕ) → p ≢ i → key_word ws' p ≡ key_word ws p

apart : (ws : List ℕ) (i j a x : ℕ) → j < 4 → a ≡ 4 * i + j → Apart ws (set ws a x) i
apart ws i j a x small is = record {
  due = λ p ne. get_or-set_other ws a (4 * p) x 0 (λ e. ne (omega arith));
  period = λ p ne. get_or-set_other ws a (4 * p + 1) x 0 (λ e. ne (omega arith));
  heap = λ p ne. get_or-set_other ws a (4 * p + 2) x 0 (λ e. ne (omega arith));
  key = λ p ne. get_or-set_other ws a (4 * p + 3) x 0 (λ e. ne (omega arith));
}

rec-kept : (ws ws' : List ℕ) (n m : ℕ) (d : Deal) (k i : ℕ) (r : RecPart) → Apart ws ws' i → r.number ≢ i → FitsRec ws n m d k r → FitsRec ws' n m d k r
rec-kept ws ws' n m d k i r other ne t = record {
  here = t.here;
  dealt = t.dealt;
  number = t.number;
  due = other.due r.number ne ∙ t.due;
  period = other.period r.number ne ∙ t.period;
  heap = other.heap r.number ne ∙ t.heap;
  key = other.key r.number ne ∙ t.key;
  below = t.below;
}

by_number : (P : ℕ → Type 0) (p i : ℕ) → (p ≡ i → P p) → (p ≢ i → P p) → P p
by_number P p i same other = next (eqb p i) refl
  where
    next : (b : Bool) → eqb p i ≡ b → P p
    next true e = same (eqb-true p i e)
    next false e = other (eqb-false p i e)

rest-kept : (ws ws' : List ℕ) (n : ℕ) (d : Deal) (k i : ℕ) (r : Rest) → Apart ws ws' i → i < d.records
    → ((q : ℕ) → d.heaps ≤ q → key_in q (heap_word ws' i) (key_word ws' i) ≡ None) → FitsRest ws n d k r → FitsRest ws' n d k r
rest-kept ws ws' n d k i r other dealt free t = record {
  here = t.here;
  records = t.records;
  from_record = t.from_record;
  from_heap = t.from_heap;
  due = λ p le. other.due p (λ e. absurd (omega arith)) ∙ t.due p le;
  period = λ p le. other.period p (λ e. absurd (omega arith)) ∙ t.period p le;
  heap = λ p le. other.heap p (λ e. absurd (omega arith)) ∙ t.heap p le;
  key = λ p le. other.key p (λ e. absurd (omega arith)) ∙ t.key p le;
  unplaced = λ q p le inside. by_number (λ y. key_in q (heap_word ws' y) (key_word ws' y) ≡ None) p i
      (λ e. subst (λ y. key_in q (heap_word ws' y) (key_word ws' y) ≡ None) (sym e) (free q le))
      (λ ne. (λ j. key_in q (other.heap p ne j) (other.key p ne j)) ∙ t.unplaced q p le inside);
}

heap-kept : (ws ws' : List ℕ) (n m : ℕ) (d : Deal) (k i : ℕ) (h : HeapPart) → Apart ws ws' i
    → key_in h.number (heap_word ws' i) (key_word ws' i) ≡ key_in h.number (heap_word ws i) (key_word ws i) → FitsHeap ws n m d k h → FitsHeap ws' n m d k h
heap-kept ws ws' n m d k i h other same t = record {
  here = t.here;
  dealt = t.dealt;
  number = t.number;
  all = t.all;
  keys = λ p inside. t.keys p inside ∙ by_number (λ y. key_in h.number (heap_word ws y) (key_word ws y) ≡ key_in h.number (heap_word ws' y) (key_word ws' y)) p i
      (λ e. subst (λ y. key_in h.number (heap_word ws y) (key_word ws y) ≡ key_in h.number (heap_word ws' y) (key_word ws' y)) (sym e) (sym same))
      (λ ne. λ j. key_in h.number (sym (other.heap p ne) j) (sym (other.key p ne) j));
}

book-kept : (ws ws' : List ℕ) (n : ℕ) (d : Deal) (k i : ℕ) (l : List Setting) → Apart ws ws' i → due_word ws' i ≡ due_word ws i → period_word ws' i ≡ period_word ws i
    → FitsBook ws n d k l → FitsBook ws' n d k l
book-kept ws ws' n d k i l other due period t = record {
  here = t.here;
  all = t.all;
  due = λ p inside. t.due p inside ∙ by_number (λ y. due_of (due_word ws y) ≡ due_of (due_word ws' y)) p i
      (λ e. subst (λ y. due_of (due_word ws y) ≡ due_of (due_word ws' y)) (sym e) (ap due_of (sym due)))
      (λ ne. ap due_of (sym (other.due p ne)));
  period = λ p inside. t.period p inside ∙ by_number (λ y. period_word ws y ≡ period_word ws' y) p i
      (λ e. subst (λ y. period_word ws y ≡ period_word ws' y) (sym e) (sym period))
      (λ ne. sym (other.period p ne));
}

-- what a store of the record i asks of the seats that do not have the record
record Spares (ws ws' : List ℕ) (n m : ℕ) (d : Deal) (id i : ℕ) : Type 0 where
  pub rests : (k : ℕ) (r : Rest) → FitsRest ws n d k r → (q : ℕ) → d.heaps ≤ q → key_in q (heap_word ws' i) (key_word ws' i) ≡ None
  pub books : (k : ℕ) (l : List Setting) → k ≢ id → FitsBook ws n d k l → (due_word ws' i ≡ due_word ws i) × (period_word ws' i ≡ period_word ws i)
  pub heaps : (k : ℕ) (h : HeapPart) → k ≢ id → FitsHeap ws n m d k h → key_in h.number (heap_word ws' i) (key_word ws' i) ≡ key_in h.number (heap_word ws i) (key_word ws i)

store_holds : (n m : ℕ) (s : State Unit View) (t : Holds n m s) (j a x id : ℕ) (c : List (ℕ × Unit)) (w : View) (r : RecPart) → j < 4 → a ≡ 4 * r.number + j
    → FitsRec s.words n m t.deal id r → Spares s.words (set s.words a x) n m t.deal id r.number
    → Fits (set s.words a x) n m t.deal id w
    → Holds n m (stepped s a x id c w keeps)
store_holds n m s t j a x id c w r small place own spares mine =
    let ws : List ℕ = set s.words a x in
    let other : Apart s.words ws r.number = apart s.words r.number j a x small place in
    record {
      words = length-set s.words a x ∙ t.words;
      deal = t.deal;
      each = λ k u e. ⊎_elim
          (λ (y : (k ≡ id) × (w ≡ u)). at_place ws n m t.deal k id w u y.0 y.1 mine)
          (λ (y : (k ≢ id) × (get_elem? s.views k ≡ some u)).
          let f : Fits s.words n m t.deal k u = t.each k u y.1 in
          record {
            rest = λ p is. let g = f.rest p is in rest-kept s.words ws n t.deal k r.number p other own.dealt (spares.rests k p g) g;
            book = λ l is. let g = f.book l is in let b = spares.books k l y.0 g in book-kept s.words ws n t.deal k r.number l other b.0 b.1 g;
            heap = λ h is. let g = f.heap h is in heap-kept s.words ws n m t.deal k r.number h other (spares.heaps k h y.0 g) g;
            rec = λ p is. let g = f.rec p is in rec-kept s.words ws n m t.deal k r.number p other (λ same. y.0 (g.here ∙ (ap t.deal.rec_seat same ∙ sym own.here))) g;
          })
          (at_set s.views id k w u e);
    }

pub looks : (n m id slots : ℕ) (v : View) (c : List (ℕ × Unit)) → Allows (Holds n m) slots id (v, c) 0 (λ x. x) (Looks (step slots 0 0 0 none) (v, c))
looks n m id slots v c s t _ at _ =
    let same : set s.words 0 (slice_index s.words 0) ≡ s.words = set-get_or s.words 0 0 in
    let f : Fits s.words n m t.deal id v = t.each id v at in (
      v,
      keeps,
      tt,
      record {
        words = length-set s.words 0 (slice_index s.words 0) ∙ t.words;
        deal = t.deal;
        each = λ k u e. subst (λ ws. Fits ws n m t.deal k u) (sym same) (⊎_elim
            (λ (y : (k ≡ id) × (v ≡ u)). at_place s.words n m t.deal k id v u y.0 y.1 f)
            (λ (y : (k ≢ id) × (get_elem? s.views k ≡ some u)). t.each k u y.1)
            (at_set s.views id k v u e));
      },
      (
        refl,
        λ l r is has.
            let b = f.book l is in
            let o = f.rec r has in
            let all = b.all in
            let number = o.number in
            let due : (setting_at l r.number).due ≡ due_of r.due = b.due r.number o.number ∙ ap due_of o.due in
            let period : (setting_at l r.number).period ≡ r.period = b.period r.number o.number ∙ o.period in
            (omega arith, λ j. record { due = due j; period = period j }),
        λ h r is has.
            let b = f.heap h is in
            let o = f.rec r has in
            let all = b.all in
            let number = o.number in
            (omega arith, b.keys r.number o.number ∙ (λ j. key_in h.number (o.heap j) (o.key j))),
      ),
    )

book-put : (ws ws' : List ℕ) (n : ℕ) (d : Deal) (k i : ℕ) (l : List Setting) (y : Setting) → Apart ws ws' i → i < n
    → y.due ≡ due_of (due_word ws' i) → y.period ≡ period_word ws' i → FitsBook ws n d k l → FitsBook ws' n d k (set l i y)
book-put ws ws' n d k i l y other inside due period t =
    let all = t.all in
    let here : setting_at (set l i y) i ≡ y = get_or-set_same l i y unset (omega arith) in
    record {
      here = t.here;
      all = length-set l i y ∙ t.all;
      due = λ p p_in. by_number (λ q. (setting_at (set l i y) q).due ≡ due_of (due_word ws' q)) p i
          (λ e. subst (λ q. (setting_at (set l i y) q).due ≡ due_of (due_word ws' q)) (sym e) (ap (λ (z : Setting). z.due) here ∙ due))
          (λ ne. ap (λ (z : Setting). z.due) (get_or-set_other l i p y unset ne) ∙ (t.due p p_in ∙ ap due_of (sym (other.due p ne))));
      period = λ p p_in. by_number (λ q. (setting_at (set l i y) q).period ≡ period_word ws' q) p i
          (λ e. subst (λ q. (setting_at (set l i y) q).period ≡ period_word ws' q) (sym e) (ap (λ (z : Setting). z.period) here ∙ period))
          (λ ne. ap (λ (z : Setting). z.period) (get_or-set_other l i p y unset ne) ∙ (t.period p p_in ∙ sym (other.period p ne)));
    }

heap-put : (ws ws' : List ℕ) (n m : ℕ) (d : Deal) (k i : ℕ) (h : HeapPart) (y : Option ℕ) → Apart ws ws' i → i < n
    → y ≡ key_in h.number (heap_word ws' i) (key_word ws' i) → FitsHeap ws n m d k h → FitsHeap ws' n m d k (record h { keys = set h.keys i y })
heap-put ws ws' n m d k i h y other inside is t =
    let all = t.all in
    record {
      here = t.here;
      dealt = t.dealt;
      number = t.number;
      all = length-set h.keys i y ∙ t.all;
      keys = λ p p_in. by_number (λ q. key_at (set h.keys i y) q ≡ key_in h.number (heap_word ws' q) (key_word ws' q)) p i
          (λ e. subst (λ q. key_at (set h.keys i y) q ≡ key_in h.number (heap_word ws' q) (key_word ws' q)) (sym e) (get_or-set_same h.keys i y None (omega arith) ∙ is))
          (λ ne. get_or-set_other h.keys i p y None ne ∙ (t.keys p p_in ∙ (λ j. key_in h.number (sym (other.heap p ne) j) (sym (other.key p ne) j))));
    }

fits-book : (ws : List ℕ) (n m : ℕ) (d : Deal) (k hm : ℕ) (l : List Setting) (r : RecPart) → FitsBook ws n d k l → FitsRec ws n m d k r → Fits ws n m d k (with_book hm l r)
fits-book ws n m d k hm l r b o = record {
  rest = λ p e. none_some e;
  book = λ p e. subst (FitsBook ws n d k) (some_same e) b;
  heap = λ p e. none_some e;
  rec = λ p e. subst (FitsRec ws n m d k) (some_same e) o;
}

fits-heap : (ws : List ℕ) (n m : ℕ) (d : Deal) (k hm : ℕ) (h : HeapPart) (r : RecPart) → FitsHeap ws n m d k h → FitsRec ws n m d k r → Fits ws n m d k (with_heap hm h r)
fits-heap ws n m d k hm h r b o = record {
  rest = λ p e. none_some e;
  book = λ p e. none_some e;
  heap = λ p e. subst (FitsHeap ws n m d k) (some_same e) b;
  rec = λ p e. subst (FitsRec ws n m d k) (some_same e) o;
}

pub due_stores : (n m id slots hm x : ℕ) (l : List Setting) (r : RecPart)
    → Allows (Holds n m) slots id (with_book hm l r, []) (4 * r.number) (λ _. x) (λ _. DueStores (step slots (4 * r.number) x 0 none) (with_book hm l r, []) x)
due_stores n m id slots hm x l r s t _ at _ =
    let i : ℕ = r.number in
    let ws : List ℕ = set s.words (4 * i) x in
    let f : Fits s.words n m t.deal id (with_book hm l r) = t.each id (with_book hm l r) at in
    let b = f.book l refl in
    let o = f.rec r refl in
    let number = o.number in
    let len = t.words in
    let due : due_word ws i ≡ x = get_or-set_same s.words (4 * i) x 0 (omega arith) in
    let period : period_word ws i ≡ period_word s.words i = get_or-set_other s.words (4 * i) (4 * i + 1) x 0 (λ e. absurd (omega arith)) in
    let heap : heap_word ws i ≡ heap_word s.words i = get_or-set_other s.words (4 * i) (4 * i + 2) x 0 (λ e. absurd (omega arith)) in
    let key : key_word ws i ≡ key_word s.words i = get_or-set_other s.words (4 * i) (4 * i + 3) x 0 (λ e. absurd (omega arith)) in
    let other : Apart s.words ws i = apart s.words i 0 (4 * i) x (omega arith) (omega arith) in (
      with_book hm (due_put i x l) (rec_due x r),
      keeps,
      tt,
      store_holds n m s t 0 (4 * i) x id [] (with_book hm (due_put i x l) (rec_due x r)) r (omega arith) (omega arith) o
          (record {
            rests = λ k p g q le. (λ j. key_in q (heap j) (key j)) ∙ g.unplaced q i le o.number;
            books = λ k p ne g. absurd (ne (g.here ∙ sym b.here));
            heaps = λ k h ne g. λ j. key_in h.number (heap j) (key j);
          })
          (fits-book ws n m t.deal id hm (due_put i x l) (rec_due x r)
          (book-put s.words ws n t.deal id i l (record (setting_at l i) { due = due_of x }) other o.number (ap due_of (sym due)) (b.period i o.number ∙ sym period) b)
          (record { here = o.here; dealt = o.dealt; number = o.number; due = due; period = period ∙ o.period; heap = heap ∙ o.heap; key = key ∙ o.key; below = o.below })),
      refl,
    )

pub period_stores : (n m id slots hm x : ℕ) (l : List Setting) (r : RecPart)
    → Allows (Holds n m) slots id (with_book hm l r, []) (4 * r.number + 1) (λ _. x) (λ _. PeriodStores (step slots (4 * r.number + 1) x 0 none) (with_book hm l r, []) x)
period_stores n m id slots hm x l r s t _ at _ =
    let i : ℕ = r.number in
    let ws : List ℕ = set s.words (4 * i + 1) x in
    let f : Fits s.words n m t.deal id (with_book hm l r) = t.each id (with_book hm l r) at in
    let b = f.book l refl in
    let o = f.rec r refl in
    let number = o.number in
    let len = t.words in
    let period : period_word ws i ≡ x = get_or-set_same s.words (4 * i + 1) x 0 (omega arith) in
    let due : due_word ws i ≡ due_word s.words i = get_or-set_other s.words (4 * i + 1) (4 * i) x 0 (λ e. absurd (omega arith)) in
    let heap : heap_word ws i ≡ heap_word s.words i = get_or-set_other s.words (4 * i + 1) (4 * i + 2) x 0 (λ e. absurd (omega arith)) in
    let key : key_word ws i ≡ key_word s.words i = get_or-set_other s.words (4 * i + 1) (4 * i + 3) x 0 (λ e. absurd (omega arith)) in
    let other : Apart s.words ws i = apart s.words i 1 (4 * i + 1) x (omega arith) refl in (
      with_book hm (period_put i x l) (rec_period x r),
      keeps,
      tt,
      store_holds n m s t 1 (4 * i + 1) x id [] (with_book hm (period_put i x l) (rec_period x r)) r (omega arith) refl o
          (record {
            rests = λ k p g q le. (λ j. key_in q (heap j) (key j)) ∙ g.unplaced q i le o.number;
            books = λ k p ne g. absurd (ne (g.here ∙ sym b.here));
            heaps = λ k h ne g. λ j. key_in h.number (heap j) (key j);
          })
          (fits-book ws n m t.deal id hm (period_put i x l) (rec_period x r)
          (book-put s.words ws n t.deal id i l (record (setting_at l i) { period = x }) other o.number (b.due i o.number ∙ ap due_of (sym due)) (sym period) b)
          (record { here = o.here; dealt = o.dealt; number = o.number; due = due ∙ o.due; period = period; heap = heap ∙ o.heap; key = key ∙ o.key; below = o.below })),
      refl,
    )

key_in-other : (q p heap key : ℕ) → IsOurs q heap → p ≢ q → key_in p heap key ≡ None
key_in-other q p heap key ours ne = ap (λ b. cond b (Some key) None) (ne_eqb heap (p + 1) (λ e. ⊎_elim (λ zero. absurd (omega arith)) (λ is. ne (omega arith)) ours))

pub heap_stores : (n m id slots hm x : ℕ) (h : HeapPart) (r : RecPart) → IsOurs h.number x → IsOurs h.number r.heap
    → Allows (Holds n m) slots id (with_heap hm h r, []) (4 * r.number + 2) (λ _. x) (λ _. HeapStores (step slots (4 * r.number + 2) x 0 none) (with_heap hm h r, []) x)
heap_stores n m id slots hm x h r new ours s t _ at _ =
    let i : ℕ = r.number in
    let ws : List ℕ = set s.words (4 * i + 2) x in
    let f : Fits s.words n m t.deal id (with_heap hm h r) = t.each id (with_heap hm h r) at in
    let b = f.heap h refl in
    let o = f.rec r refl in
    let number = o.number in
    let len = t.words in
    let small = b.number in
    let heap : heap_word ws i ≡ x = get_or-set_same s.words (4 * i + 2) x 0 (omega arith) in
    let due : due_word ws i ≡ due_word s.words i = get_or-set_other s.words (4 * i + 2) (4 * i) x 0 (λ e. absurd (omega arith)) in
    let period : period_word ws i ≡ period_word s.words i = get_or-set_other s.words (4 * i + 2) (4 * i + 1) x 0 (λ e. absurd (omega arith)) in
    let key : key_word ws i ≡ key_word s.words i = get_or-set_other s.words (4 * i + 2) (4 * i + 3) x 0 (λ e. absurd (omega arith)) in
    let other : Apart s.words ws i = apart s.words i 2 (4 * i + 2) x (omega arith) refl in
    let after : (q : ℕ) → q ≢ h.number → key_in q (heap_word ws i) (key_word ws i) ≡ None = λ q ne. (λ j. key_in q (heap j) (key_word ws i)) ∙ key_in-other h.number q x (key_word ws i) new ne in
    let before : (q : ℕ) → q ≢ h.number → key_in q (heap_word s.words i) (key_word s.words i) ≡ None = λ q ne. (λ j. key_in q (o.heap j) (key_word s.words i)) ∙ key_in-other h.number q r.heap (key_word s.words i) ours ne in
    let below : x ≤ m = ⊎_elim (λ zero. omega arith) (λ is. omega arith) new in
    let dealt = b.dealt in (
      with_heap hm (key_put i x r.key h) (rec_heap x r),
      keeps,
      tt,
      store_holds n m s t 2 (4 * i + 2) x id [] (with_heap hm (key_put i x r.key h) (rec_heap x r)) r (omega arith) refl o
          (record {
            rests = λ k p g q le. after q (λ e. absurd (omega arith));
            books = λ k p ne g. (due, period);
            heaps = λ k p ne g. let far : p.number ≢ h.number = λ e. ne (g.here ∙ (ap t.deal.heap_seat e ∙ sym b.here)) in after p.number far ∙ sym (before p.number far);
          })
          (fits-heap ws n m t.deal id hm (key_put i x r.key h) (rec_heap x r)
          (heap-put s.words ws n m t.deal id i h (key_in h.number x r.key) other o.number (λ j. key_in h.number (sym heap j) (sym (key ∙ o.key) j)) b)
          (record { here = o.here; dealt = o.dealt; number = o.number; due = due ∙ o.due; period = period ∙ o.period; heap = heap; key = key ∙ o.key; below = below })),
      refl,
    )

pub key_stores : (n m id slots hm x : ℕ) (h : HeapPart) (r : RecPart) → IsOurs h.number r.heap
    → Allows (Holds n m) slots id (with_heap hm h r, []) (4 * r.number + 3) (λ _. x) (λ _. KeyStores (step slots (4 * r.number + 3) x 0 none) (with_heap hm h r, []) x)
key_stores n m id slots hm x h r ours s t _ at _ =
    let i : ℕ = r.number in
    let ws : List ℕ = set s.words (4 * i + 3) x in
    let f : Fits s.words n m t.deal id (with_heap hm h r) = t.each id (with_heap hm h r) at in
    let b = f.heap h refl in
    let o = f.rec r refl in
    let number = o.number in
    let len = t.words in
    let key : key_word ws i ≡ x = get_or-set_same s.words (4 * i + 3) x 0 (omega arith) in
    let due : due_word ws i ≡ due_word s.words i = get_or-set_other s.words (4 * i + 3) (4 * i) x 0 (λ e. absurd (omega arith)) in
    let period : period_word ws i ≡ period_word s.words i = get_or-set_other s.words (4 * i + 3) (4 * i + 1) x 0 (λ e. absurd (omega arith)) in
    let heap : heap_word ws i ≡ heap_word s.words i = get_or-set_other s.words (4 * i + 3) (4 * i + 2) x 0 (λ e. absurd (omega arith)) in
    let other : Apart s.words ws i = apart s.words i 3 (4 * i + 3) x (omega arith) refl in
    let after : (q : ℕ) → q ≢ h.number → key_in q (heap_word ws i) (key_word ws i) ≡ None = λ q ne. (λ j. key_in q ((heap ∙ o.heap) j) (key_word ws i)) ∙ key_in-other h.number q r.heap (key_word ws i) ours ne in
    let before : (q : ℕ) → q ≢ h.number → key_in q (heap_word s.words i) (key_word s.words i) ≡ None = λ q ne. (λ j. key_in q (o.heap j) (key_word s.words i)) ∙ key_in-other h.number q r.heap (key_word s.words i) ours ne in
    let dealt = b.dealt in (
      with_heap hm (key_put i r.heap x h) (rec_key x r),
      keeps,
      tt,
      store_holds n m s t 3 (4 * i + 3) x id [] (with_heap hm (key_put i r.heap x h) (rec_key x r)) r (omega arith) refl o
          (record {
            rests = λ k p g q le. after q (λ e. absurd (omega arith));
            books = λ k p ne g. (due, period);
            heaps = λ k p ne g. let far : p.number ≢ h.number = λ e. ne (g.here ∙ (ap t.deal.heap_seat e ∙ sym b.here)) in after p.number far ∙ sym (before p.number far);
          })
          (fits-heap ws n m t.deal id hm (key_put i r.heap x h) (rec_key x r)
          (heap-put s.words ws n m t.deal id i h (key_in h.number r.heap x) other o.number (λ j. key_in h.number (sym (heap ∙ o.heap) j) (sym key j)) b)
          (record { here = o.here; dealt = o.dealt; number = o.number; due = due ∙ o.due; period = period ∙ o.period; heap = heap ∙ o.heap; key = key; below = o.below })),
      refl,
    )
