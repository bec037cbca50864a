-- The steps of a heap's seat keep the rule.
use Rattle.std.proofs.Common.{◌≡◌, ◌≢◌, ◌+◌, ◌*◌, ◌%◌, ◌^◌, ◌<◌, ◌≤◌, ℕ, Bool, true, false, cond, eqb, min, List, set, refl, sym, ap, ◌∙◌, subst, arith, eq-eqb, ne_eqb}
use Rattle.std.proofs.lemmas.Bool.{eqb-true, eqb-false}
use Rattle.std.proofs.lemmas.List.{get_or-set_same, get_or-set_other, set-get_or}
use Rattle.std.proofs.Math.Nat.{mod-eq_of_lt}
use mathlib.Core.Option.{none}
use prog.Atomic.{either}
use Rattle.atomic_table.specs.Table.{State, step, Allows, stepped, keeps}
use Rattle.atomic_table.proofs.Lists.{exchanged}
use Rattle.gt_word_table.specs.declared.view.View.{View}
use Rattle.gt_word_table.specs.declared.view.View.TheVariants.{Rest, Worker, Heap}
use Rattle.gt_word_table.specs.declared.view.Heap.{Heap as HeapView}
use Rattle.gt_word_table.specs.declared.view.Phase.{Phase}
use Rattle.gt_word_table.specs.declared.view.Note.{Note}
use Rattle.gt_word_table.specs.Views.{load_at, lowered}
use Rattle.gt_word_table.specs.Rule.{Holds, Deal, Fits, FitsHeap, Covers, mod_at, heap_at, count_at, is_bumped}
use Rattle.gt_word_table.specs.Steps.{Looks, Lowers, Clears, Bumps, Raises}
use Rattle.gt_word_table.proofs.Notes.{Covers-seen, Covers-lowered, Covers-cleared, Covers-bumped, Covers-raised, is_bumped-lowered}
use Rattle.gt_word_table.proofs.Workers.{step_holds}

-- the function with another value at q
abbrev pub moved : {A : Type 0} → (ℕ → A) → ℕ → A → ℕ → A
moved f q a p = cond (eqb p q) a (f p)

pub moved-same : {A : Type 0} (f : ℕ → A) (q : ℕ) (a : A) → moved f q a q ≡ a
moved-same f q a = ap (λ b. cond b a (f q)) (eq-eqb q q refl)

pub moved-other : {A : Type 0} (f : ℕ → A) (q : ℕ) (a : A) (p : ℕ) → p ≢ q → moved f q a p ≡ f p
moved-other f q a p ne = ap (λ b. cond b a (f p)) (ne_eqb p q ne)

-- what a step of heap q's seat leaves as it is
record Apart (words words' : List ℕ) (q : ℕ) : Type 0 where
  pub mods : (p : ℕ) → p ≢ q → mod_at words' p ≡ mod_at words p
  pub heaps : (p : ℕ) → p ≢ q → heap_at words' p ≡ heap_at words p
  pub counts : (p : ℕ) → p ≢ q → count_at words' p ≡ count_at words p

apart : (words : List ℕ) (q j i x : ℕ) → j < 3 → i ≡ 3 * q + j → Apart words (set words i x) q
apart words q j i x small is = record {
  mods = λ p ne. get_or-set_other words i (3 * p) x 0 (λ e. ne (omega arith));
  heaps = λ p ne. get_or-set_other words i (3 * p + 1) x 0 (λ e. ne (omega arith));
  counts = λ p ne. get_or-set_other words i (3 * p + 2) x 0 (λ e. ne (omega arith));
}

-- a heap's seat in another phase, with a count that is not less
abbrev after : Deal → HeapView → Deal
after d h = record d { bumped = moved d.bumped h.heap (is_bumped h.phase) }

-- what the other seats know stays true, if what the notes at this heap ask does
others_stay : (words words' : List ℕ) (d : Deal) (id : ℕ) (h g : HeapView) → g.heap ≡ h.heap → Apart words words' h.heap
    → FitsHeap words d id h → count_at words' h.heap ≡ g.count → h.count ≤ g.count
    → ((m : Note) → Covers (is_bumped h.phase) (mod_at words h.heap) (heap_at words h.heap) h.count m
    → Covers (is_bumped g.phase) (mod_at words' h.heap) (heap_at words' h.heap) g.count m)
    → (k : ℕ) (u : View) → k ≢ id → Fits words d k u → Fits words' (after d g) k u
others_stay words words' d id h g place other own count risen covers k (Rest r) ne f = record {
  here = f.here;
  made = f.made;
  counts = λ q le. let far : q ≢ h.heap = λ e. absurd (let a = own.made in let b = f.made in omega arith) in other.counts q far ∙ f.counts q le;
  held = λ q le inside. let far : q ≢ h.heap = λ e. absurd (let a = own.made in let b = f.made in omega arith) in other.heaps q far ∙ f.held q le inside;
  bumped = λ q le. let far : q ≢ g.heap = λ e. absurd (let a = own.made in let b = f.made in omega arith) in moved-other d.bumped g.heap (is_bumped g.phase) q far ∙ f.bumped q le;
}
others_stay words words' d id h g place other own count risen covers k (Worker w) ne f = record {
  counts = λ q. counted q (eqb q h.heap) refl;
  note = λ m e. noted m (f.note m e) (eqb m.heap h.heap) refl;
}
  where
    counted : (q : ℕ) (b : Bool) → eqb q h.heap ≡ b → (load_at w.counts q).word ≤ count_at words' q
    counted q true e =
        let here : q ≡ h.heap = eqb-true q h.heap e in
        let old = f.counts q in
        let was : count_at words q ≡ h.count = ap (count_at words) here ∙ own.count in
        let is : count_at words' q ≡ g.count = ap (count_at words') here ∙ count in
        omega arith
    counted q false e = let far = eqb-false q h.heap e in let same = other.counts q far in let old = f.counts q in omega arith

    noted : (m : Note) → Covers (d.bumped m.heap) (mod_at words m.heap) (heap_at words m.heap) (count_at words m.heap) m → (b : Bool) → eqb m.heap h.heap ≡ b
        → Covers (moved d.bumped g.heap (is_bumped g.phase) m.heap) (mod_at words' m.heap) (heap_at words' m.heap) (count_at words' m.heap) m
    noted m v true e =
        let here : m.heap ≡ h.heap = eqb-true m.heap h.heap e in
        let at_h : Covers (d.bumped h.heap) (mod_at words h.heap) (heap_at words h.heap) (count_at words h.heap) m =
        subst (λ q. Covers (d.bumped q) (mod_at words q) (heap_at words q) (count_at words q) m) here v in
        let before : Covers (is_bumped h.phase) (mod_at words h.heap) (heap_at words h.heap) h.count m =
        subst (λ (y : Bool × ℕ). Covers y.0 (mod_at words h.heap) (heap_at words h.heap) y.1 m) (λ j. (own.bumped j, own.count j)) at_h in
        let then : Covers (is_bumped g.phase) (mod_at words' h.heap) (heap_at words' h.heap) g.count m = covers m before in
        let is : moved d.bumped g.heap (is_bumped g.phase) h.heap ≡ is_bumped g.phase = ap (moved d.bumped g.heap (is_bumped g.phase)) (sym place) ∙ moved-same d.bumped g.heap (is_bumped g.phase) in
        let now : Covers (moved d.bumped g.heap (is_bumped g.phase) h.heap) (mod_at words' h.heap) (heap_at words' h.heap) (count_at words' h.heap) m =
        subst (λ (y : Bool × ℕ). Covers y.0 (mod_at words' h.heap) (heap_at words' h.heap) y.1 m) (λ j. (sym is j, sym count j)) then in
        subst (λ q. Covers (moved d.bumped g.heap (is_bumped g.phase) q) (mod_at words' q) (heap_at words' q) (count_at words' q) m) (sym here) now
    noted m v false e =
        let far : m.heap ≢ h.heap = eqb-false m.heap h.heap e in
        let far_g : m.heap ≢ g.heap = λ same. far (same ∙ place) in
        subst (λ (y : Bool × (ℕ × (ℕ × ℕ))). Covers y.0 y.1.0 y.1.1.0 y.1.1.1 m)
        (λ j. (sym (moved-other d.bumped g.heap (is_bumped g.phase) m.heap far_g) j, (sym (other.mods m.heap far) j, (sym (other.heaps m.heap far) j, sym (other.counts m.heap far) j)))) v
others_stay words words' d id h g place other own count risen covers k (Heap o) ne f =
    let far : o.heap ≢ h.heap = λ e. ne (f.here ∙ (ap d.seat_of e ∙ sym own.here)) in
    let far_g : o.heap ≢ g.heap = λ same. far (same ∙ place) in
    record {
      here = f.here;
      made = f.made;
      count = other.counts o.heap far ∙ f.count;
      word = other.heaps o.heap far ∙ f.word;
      bumped = moved-other d.bumped g.heap (is_bumped g.phase) o.heap far_g ∙ f.bumped;
      low = λ v e. let l = f.low v e in let same = other.heaps o.heap far in omega arith;
    }

-- the step of a heap's seat on one of its words
heap_step : (n : ℕ) (s : State Unit View) (j i x id : ℕ) (c : List (ℕ × Unit)) (h : HeapView) (p : Phase) (y count : ℕ) (r : Holds n s) → j < 3 → i ≡ 3 * h.heap + j
    → FitsHeap s.words r.deal id h
    → heap_at (set s.words i x) h.heap ≡ y
    → count_at (set s.words i x) h.heap ≡ count → h.count ≤ count
    → ((v : ℕ) → p ≡ Phase.Low v → heap_at (set s.words i x) h.heap ≤ v)
    → ((m : Note) → Covers (is_bumped h.phase) (mod_at s.words h.heap) (heap_at s.words h.heap) h.count m
    → Covers (is_bumped p) (mod_at (set s.words i x) h.heap) (heap_at (set s.words i x) h.heap) count m)
    → Holds n (stepped s i x id c (Heap (record { heap = h.heap; phase = p; word = y; count = count })) keeps)
heap_step n s j i x id c h p y count r small place own held is risen low covers =
    let g : HeapView = record { heap = h.heap; phase = p; word = y; count = count } in
    let words : List ℕ = set s.words i x in
    let mine : FitsHeap words (after r.deal g) id g = record {
      here = own.here;
      made = own.made;
      count = is;
      word = held;
      bumped = moved-same r.deal.bumped h.heap (is_bumped p);
      low = low;
    } in
    step_holds n s (after r.deal g) i x id c (Heap g) r.words mine
    (λ k u ne e. others_stay s.words words r.deal id h g refl (apart s.words h.heap j i x small place) own is risen covers k u ne (r.each k u e))

pub looks : (n id slots : ℕ) (h : HeapView) (c : List (ℕ × Unit))
    → Allows (Holds n) slots id (Heap h, c) (3 * h.heap) (λ x. x) (Looks (step slots (3 * h.heap) 0 0 none) (Heap h, c))
looks n id slots h c s r _ at _ =
    let own : FitsHeap s.words r.deal id h = r.each id (Heap h) at in
    let found : ℕ = mod_at s.words h.heap in
    let same : set s.words (3 * h.heap) found ≡ s.words = set-get_or s.words (3 * h.heap) 0 in (
      Heap (record h { phase = Phase.Seen found }),
      keeps,
      tt,
      heap_step n s 0 (3 * h.heap) found id c h (Phase.Seen found) h.word h.count r (omega arith) (omega arith) own (ap (λ ws. heap_at ws h.heap) same ∙ own.word) (ap (λ ws. count_at ws h.heap) same ∙ own.count) (omega arith)
          (λ v e. cc)
          (λ m v. subst (λ ws. Covers false (mod_at ws h.heap) (heap_at ws h.heap) h.count m) (sym same) (Covers-seen (is_bumped h.phase) (mod_at s.words h.heap) (heap_at s.words h.heap) h.count m v)),
      refl,
    )

low-lowered : (p : Phase) (v heap u : ℕ) → ((w : ℕ) → p ≡ Phase.Low w → heap ≤ w) → lowered p v ≡ Phase.Low u → min heap v ≤ u
low-lowered Phase.Free v heap u low e = cc
low-lowered (Phase.Seen w) v heap u low e = next (eqb w v) refl e
  where
    next : (b : Bool) → eqb w v ≡ b → cond b (Phase.Low w) (Phase.Seen w) ≡ Phase.Low u → min heap v ≤ u
    next true h is = let same = eqb-true w v h in let to : w ≡ u = cc in omega arith
    next false h is = cc
low-lowered (Phase.Low w) v heap u low e = let l = low u e in omega arith
low-lowered Phase.Cleared v heap u low e = cc
low-lowered Phase.Bumped v heap u low e = cc

pub lowers : (n id slots v : ℕ) (h : HeapView) (c : List (ℕ × Unit)) → h.heap < n
    → Allows (Holds n) slots id (Heap h, c) (3 * h.heap + 1) (λ x. min x v) (Lowers (step slots (3 * h.heap + 1) v 0 none) (Heap h, c))
lowers n id slots v h c inside s r _ at _ =
    let own : FitsHeap s.words r.deal id h = r.each id (Heap h) at in
    let q : ℕ = h.heap in
    let x : ℕ = min (heap_at s.words q) v in
    let words : List ℕ = set s.words (3 * q + 1) x in
    let len = r.words in
    let heap_is : heap_at words q ≡ x = get_or-set_same s.words (3 * q + 1) x 0 (omega arith) in
    let mod_is : mod_at words q ≡ mod_at s.words q = get_or-set_other s.words (3 * q + 1) (3 * q) x 0 (λ e. absurd (omega arith)) in
    let count_is : count_at words q ≡ count_at s.words q = get_or-set_other s.words (3 * q + 1) (3 * q + 2) x 0 (λ e. absurd (omega arith)) in (
      Heap (record h { phase = lowered h.phase v; word = min h.word v }),
      keeps,
      tt,
      heap_step n s 1 (3 * q + 1) x id c h (lowered h.phase v) (min h.word v) h.count r (omega arith) refl own (heap_is ∙ ap (λ k. min k v) own.word) (count_is ∙ own.count) (omega arith)
          (λ u e. let l = low-lowered h.phase v (heap_at s.words q) u own.low e in omega arith)
          (λ m w. subst (λ (y : Bool × (ℕ × ℕ)). Covers y.0 y.1.0 y.1.1 h.count m)
          (λ j. (sym (is_bumped-lowered h.phase v) j, (sym mod_is j, sym heap_is j)))
          (Covers-lowered (is_bumped h.phase) (mod_at s.words q) (heap_at s.words q) h.count v m w)),
      refl,
    )

pub clears : (n id slots seen new : ℕ) (h : HeapView) (c : List (ℕ × Unit)) → h.heap < n → h.phase ≡ Phase.Low seen
    → Allows (Holds n) slots id (Heap h, c) (3 * h.heap) (λ x. either (eqb x seen) new x) (Clears (step slots (3 * h.heap) seen new none) (Heap h, c))
clears n id slots seen new h c inside phase s r _ at _ =
    let own : FitsHeap s.words r.deal id h = r.each id (Heap h) at in
    let q : ℕ = h.heap in
    let found : ℕ = mod_at s.words q in
    let x : ℕ = either (eqb found seen) new found in
    let words : List ℕ = set s.words (3 * q) x in
    let len = r.words in
    let low : heap_at s.words q ≤ seen = own.low seen phase in
    let mod_is : mod_at words q ≡ x = get_or-set_same s.words (3 * q) x 0 (omega arith) in
    let heap_is : heap_at words q ≡ heap_at s.words q = get_or-set_other s.words (3 * q) (3 * q + 1) x 0 (λ e. absurd (omega arith)) in
    let count_is : count_at words q ≡ count_at s.words q = get_or-set_other s.words (3 * q) (3 * q + 2) x 0 (λ e. absurd (omega arith)) in (
      Heap (record h { phase = Phase.Cleared }),
      keeps,
      tt,
      heap_step n s 0 (3 * q) x id c h Phase.Cleared h.word h.count r (omega arith) (omega arith) own (heap_is ∙ own.word) (count_is ∙ own.count) (omega arith)
          (λ u e. cc)
          (λ m w.
          let was : Covers false found (heap_at s.words q) h.count m = subst (λ b. Covers b found (heap_at s.words q) h.count m) (ap is_bumped phase) w in
          let now : Covers false x (heap_at s.words q) h.count m = exchanged found seen new (λ y. Covers false y (heap_at s.words q) h.count m)
          (λ e. Covers-cleared found (heap_at s.words q) h.count new m was (omega arith)) (λ _. was) in
          subst (λ (y : ℕ × ℕ). Covers false y.0 y.1 h.count m) (λ j. (sym mod_is j, sym heap_is j)) now),
      refl,
    )

pub bumps : (n id slots : ℕ) (h : HeapView) (c : List (ℕ × Unit)) → h.heap < n → h.phase ≡ Phase.Cleared → h.count + 1 < 2 ^ 64
    → Allows (Holds n) slots id (Heap h, c) (3 * h.heap + 2) (λ x. (x + 1) % 2 ^ 64) (Bumps (step slots (3 * h.heap + 2) 1 0 none) (Heap h, c))
bumps n id slots h c inside phase small s r _ at _ =
    let own : FitsHeap s.words r.deal id h = r.each id (Heap h) at in
    let q : ℕ = h.heap in
    let x : ℕ = (count_at s.words q + 1) % 2 ^ 64 in
    let words : List ℕ = set s.words (3 * q + 2) x in
    let len = r.words in
    let counted = own.count in
    let next : x ≡ h.count + 1 = ap (λ k. (k + 1) % 2 ^ 64) counted ∙ mod-eq_of_lt small in
    let count_is : count_at words q ≡ h.count + 1 = get_or-set_same s.words (3 * q + 2) x 0 (omega arith) ∙ next in
    let mod_is : mod_at words q ≡ mod_at s.words q = get_or-set_other s.words (3 * q + 2) (3 * q) x 0 (λ e. absurd (omega arith)) in
    let heap_is : heap_at words q ≡ heap_at s.words q = get_or-set_other s.words (3 * q + 2) (3 * q + 1) x 0 (λ e. absurd (omega arith)) in (
      Heap (record h { phase = Phase.Bumped; count = h.count + 1 }),
      keeps,
      tt,
      heap_step n s 2 (3 * q + 2) x id c h Phase.Bumped h.word (h.count + 1) r (omega arith) refl own (heap_is ∙ own.word) count_is (omega arith)
          (λ u e. cc)
          (λ m w.
          let was : Covers false (mod_at s.words q) (heap_at s.words q) h.count m = subst (λ b. Covers b (mod_at s.words q) (heap_at s.words q) h.count m) (ap is_bumped phase) w in
          subst (λ (y : ℕ × ℕ). Covers true y.0 y.1 (h.count + 1) m) (λ j. (sym mod_is j, sym heap_is j)) (Covers-bumped (mod_at s.words q) (heap_at s.words q) h.count m was)),
      refl,
    )

pub raises : (n id slots v : ℕ) (h : HeapView) (c : List (ℕ × Unit)) → h.heap < n → h.phase ≡ Phase.Bumped
    → Allows (Holds n) slots id (Heap h, c) (3 * h.heap + 1) (λ _. v) (λ _. Raises (step slots (3 * h.heap + 1) v 0 none) (Heap h, c) v)
raises n id slots v h c inside phase s r _ at _ =
    let own : FitsHeap s.words r.deal id h = r.each id (Heap h) at in
    let q : ℕ = h.heap in
    let words : List ℕ = set s.words (3 * q + 1) v in
    let len = r.words in
    let heap_is : heap_at words q ≡ v = get_or-set_same s.words (3 * q + 1) v 0 (omega arith) in
    let mod_is : mod_at words q ≡ mod_at s.words q = get_or-set_other s.words (3 * q + 1) (3 * q) v 0 (λ e. absurd (omega arith)) in
    let count_is : count_at words q ≡ count_at s.words q = get_or-set_other s.words (3 * q + 1) (3 * q + 2) v 0 (λ e. absurd (omega arith)) in (
      Heap (record h { phase = Phase.Free; word = v }),
      keeps,
      tt,
      heap_step n s 1 (3 * q + 1) v id c h Phase.Free v h.count r (omega arith) refl own heap_is (count_is ∙ own.count) (omega arith)
          (λ u e. cc)
          (λ m w.
          let was : Covers true (mod_at s.words q) (heap_at s.words q) h.count m = subst (λ b. Covers b (mod_at s.words q) (heap_at s.words q) h.count m) (ap is_bumped phase) w in
          subst (λ (y : ℕ × ℕ). Covers false y.0 y.1 h.count m) (λ j. (sym mod_is j, sym heap_is j)) (Covers-raised (mod_at s.words q) (heap_at s.words q) h.count v m was)),
      refl,
    )
