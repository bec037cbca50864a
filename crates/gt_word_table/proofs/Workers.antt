-- The steps of a worker keep the rule.
use Rattle.std.proofs.Common.{◌≡◌, ◌≢◌, ◌+◌, ◌*◌, ◌<◌, ◌≤◌, ◌⊎◌, ℕ, zero, suc, Bool, true, false, ◌&&◌, cond, eqb, ltb, min, List, [], ◌∷◌, length, set, Option, None, Some, refl, sym, ap, ◌∙◌, subst, inl, inr, ⊎_elim, arith, length-set}
use Rattle.std.specs.Prelude.{slice_index}
use Rattle.std.specs.Option.{option_map}
use Rattle.std.proofs.lemmas.Bool.{ltb-true, eqb-true, eqb-false}
use Rattle.std.proofs.lemmas.List.{get_or-set_same, get_or-set_other, set-get_or}
use mathlib.Core.Option.{some, none}
use lib.ListN.{get_elem?}
use Rattle.atomic_table.specs.Table.{State, step, Allows, stepped, keeps}
use Rattle.atomic_table.proofs.Lists.{at_set}
use Rattle.gt_word_table.specs.declared.view.View.{View}
use Rattle.gt_word_table.specs.declared.view.View.TheVariants.{Rest, Worker, Heap}
use Rattle.gt_word_table.specs.declared.view.Worker.{Worker as WorkerView}
use Rattle.gt_word_table.specs.declared.view.Note.{Note}
use Rattle.gt_word_table.specs.declared.view.Load.{Load}
use Rattle.gt_word_table.specs.Views.{load_at, loaded, with_count, with_mod, with_heap, with_note, passed_at, behind_at}
use Rattle.gt_word_table.specs.Rule.{Holds, Deal, Fits, FitsWorker, Covers, mod_at, heap_at, count_at}
use Rattle.gt_word_table.specs.Steps.{CountLoads, ModLoads, HeapLoads, Notes}
use Rattle.gt_word_table.proofs.Notes.{false_true, Covers-less, Covers-passed_at, Covers-behind}

-- a step of the seat id on the word i, where each view fits the words afterwards
pub step_holds : (n : ℕ) (s : State Unit View) (d : Deal) (i x id : ℕ) (c : List (ℕ × Unit)) (v : View)
    → length s.words ≡ 3 * n → Fits (set s.words i x) d id v
    → ((k : ℕ) (u : View) → k ≢ id → get_elem? s.views k ≡ some u → Fits (set s.words i x) d k u)
    → Holds n (stepped s i x id c v keeps)
step_holds n s d i x id c v len mine others = record {
  words = length-set s.words i x ∙ len;
  deal = d;
  each = λ k u e. ⊎_elim
      (λ (t : (k ≡ id) × (v ≡ u)). subst (λ (y : ℕ × View). Fits (set s.words i x) d y.0 y.1) (λ j. (sym t.0 j, t.1 j)) mine)
      (λ (t : (k ≢ id) × (get_elem? s.views k ≡ some u)). others k u t.0 t.1)
      (at_set s.views id k v u e);
}

-- a load changes no word
load_holds : (n : ℕ) (s : State Unit View) (i id : ℕ) (c : List (ℕ × Unit)) (w : WorkerView) (h : Holds n s) → FitsWorker s.words h.deal w
    → Holds n (stepped s i (slice_index s.words i) id c (Worker w) keeps)
load_holds n s i id c w h mine =
    let same : set s.words i (slice_index s.words i) ≡ s.words = set-get_or s.words i 0 in
    step_holds n s h.deal i (slice_index s.words i) id c (Worker w) h.words
    (subst (λ ws. FitsWorker ws h.deal w) (sym same) mine)
    (λ k u ne e. subst (λ ws. Fits ws h.deal k u) (sym same) (h.each k u e))

load_at-loaded : (ls : List Load) (l : Load) (q p : ℕ) → ((p ≡ q) × (load_at (set ls q l) p ≡ l)) ⊎ (load_at (set ls q l) p ≡ load_at ls p)
load_at-loaded [] l q p = inr refl
load_at-loaded (x ∷ xs) l zero zero = inl (refl, refl)
load_at-loaded (x ∷ xs) l zero (suc p) = inr refl
load_at-loaded (x ∷ xs) l (suc q) zero = inr refl
load_at-loaded (x ∷ xs) l (suc q) (suc p) = ⊎_elim (λ t. inl (ap suc t.0, t.1)) (λ t. inr t) (load_at-loaded xs l q p)

fits-count : (words : List ℕ) (d : Deal) (w : WorkerView) (q : ℕ) → FitsWorker words d w → FitsWorker words d (with_count w q (count_at words q))
fits-count words d w q f = record {
  counts = λ p. ⊎_elim
      (λ t. let e : (load_at (loaded w.counts q (count_at words q)) p).word ≡ count_at words q = ap (λ (l : Load). l.word) t.1 in let same : count_at words p ≡ count_at words q = ap (count_at words) t.0 in omega arith)
      (λ t. let e : (load_at (loaded w.counts q (count_at words q)) p).word ≡ (load_at w.counts p).word = ap (λ (l : Load). l.word) t in let old = f.counts p in omega arith)
      (load_at-loaded w.counts (record { word = count_at words q; loads = (load_at w.counts q).loads + 1 }) q p);
  note = f.note;
}

some_same : {A : Type 0} {x y : A} → Some x ≡ Some y → x ≡ y
some_same e = cc

-- a note after a change is a note before it, changed
noted : (f : Note → Note) (o : Option Note) (m : Note) → option_map f o ≡ Some m → (k : Note) × (o ≡ Some k) × (f k ≡ m)
noted f None m e = cc
noted f (Some k) m e = (k, refl, some_same e)

-- what is known of a note by the words of its heap
abbrev Sighted : List ℕ → Deal → Note → Type 0
Sighted words d m = Covers (d.bumped m.heap) (mod_at words m.heap) (heap_at words m.heap) (count_at words m.heap) m

sighted-passed : (words : List ℕ) (d : Deal) (q : ℕ) (m : Note) → Sighted words d m → Sighted words d (passed_at q (mod_at words q) m)
sighted-passed words d q m v = next (eqb m.heap q) refl
  where
    next : (b : Bool) → eqb m.heap q ≡ b → Sighted words d (cond b (record m { passed = ltb m.when (mod_at words q) }) m)
    next true h =
        let here : m.heap ≡ q = eqb-true m.heap q h in
        subst (λ a. Sighted words d (record m { passed = ltb m.when (mod_at words a) })) here
        (Covers-passed_at (d.bumped m.heap) (mod_at words m.heap) (heap_at words m.heap) (count_at words m.heap) q m (λ _. v) here)
    next false h = v

pub and_both : (a b : Bool) → (a && b) ≡ true → (a ≡ true) × (b ≡ true)
and_both true true e = (refl, refl)
and_both true false e = cc
and_both false b e = cc

sighted-behind : (words : List ℕ) (d : Deal) (q : ℕ) (m : Note) → Sighted words d m → Sighted words d (behind_at q (heap_at words q) m)
sighted-behind words d q m v = next (eqb m.heap q && (m.passed && ltb m.when (heap_at words q))) refl
  where
    next : (b : Bool) → (eqb m.heap q && (m.passed && ltb m.when (heap_at words q))) ≡ b → Sighted words d (cond b (record m { behind = true }) m)
    next true h =
        let both = and_both (eqb m.heap q) (m.passed && ltb m.when (heap_at words q)) h in
        let above = and_both m.passed (ltb m.when (heap_at words q)) both.1 in
        let here : m.heap ≡ q = eqb-true m.heap q both.0 in
        let over : m.when < heap_at words m.heap = subst (λ a. m.when < heap_at words a) (sym here) (ltb-true m.when (heap_at words q) above.1) in
        Covers-behind (d.bumped m.heap) (mod_at words m.heap) (heap_at words m.heap) (count_at words m.heap) m v above.0 over
    next false h = v

fits-mod : (words : List ℕ) (d : Deal) (w : WorkerView) (q : ℕ) → FitsWorker words d w → FitsWorker words d (with_mod w q (mod_at words q))
fits-mod words d w q f = record {
  counts = f.counts;
  note = λ m e. let t = noted (passed_at q (mod_at words q)) w.note m e in subst (Sighted words d) t.2 (sighted-passed words d q t.0 (f.note t.0 t.1));
}

fits-heap : (words : List ℕ) (d : Deal) (w : WorkerView) (q : ℕ) → FitsWorker words d w → FitsWorker words d (with_heap w q (heap_at words q))
fits-heap words d w q f = record {
  counts = f.counts;
  note = λ m e. let t = noted (behind_at q (heap_at words q)) w.note m e in subst (Sighted words d) t.2 (sighted-behind words d q t.0 (f.note t.0 t.1));
}

worker_same : {v w : WorkerView} → Worker v ≡ Worker w → v ≡ w
worker_same e = cc

pub count_loads : (n id slots q : ℕ) (w : WorkerView) (c : List (ℕ × Unit))
    → Allows (Holds n) slots id (Worker w, c) (3 * q + 2) (λ x. x) (CountLoads (step slots (3 * q + 2) 0 0 none) (Worker w, c))
count_loads n id slots q w c s h _ at _ =
    let mine : FitsWorker s.words h.deal w = h.each id (Worker w) at in
    let found : ℕ = count_at s.words q in (
      Worker (with_count w q found),
      keeps,
      tt,
      load_holds n s (3 * q + 2) id c (with_count w q found) h (fits-count s.words h.deal w q mine),
      λ p e. let same : q ≡ p = omega arith in (
        ap (λ a. (Worker (with_count w a found), c)) same,
        λ k m is e here behind.
            let note : w.note ≡ Some m = ap (λ (v : WorkerView). v.note) (worker_same is) ∙ e in
            let v = (mine.note m note).behind behind in
            subst (λ a. m.count < count_at s.words a) (here ∙ sym same) v,
      ),
    )

pub mod_loads : (n id slots q : ℕ) (w : WorkerView) (c : List (ℕ × Unit))
    → Allows (Holds n) slots id (Worker w, c) (3 * q) (λ x. x) (ModLoads (step slots (3 * q) 0 0 none) (Worker w, c))
mod_loads n id slots q w c s h _ at _ =
    let mine : FitsWorker s.words h.deal w = h.each id (Worker w) at in
    let found : ℕ = mod_at s.words q in (
      Worker (with_mod w q found),
      keeps,
      tt,
      load_holds n s (3 * q) id c (with_mod w q found) h (fits-mod s.words h.deal w q mine),
      λ p e. let same : q ≡ p = omega arith in ap (λ a. (Worker (with_mod w a found), c)) same,
    )

pub heap_loads : (n id slots q : ℕ) (w : WorkerView) (c : List (ℕ × Unit))
    → Allows (Holds n) slots id (Worker w, c) (3 * q + 1) (λ x. x) (HeapLoads (step slots (3 * q + 1) 0 0 none) (Worker w, c))
heap_loads n id slots q w c s h _ at _ =
    let mine : FitsWorker s.words h.deal w = h.each id (Worker w) at in
    let found : ℕ = heap_at s.words q in (
      Worker (with_heap w q found),
      keeps,
      tt,
      load_holds n s (3 * q + 1) id c (with_heap w q found) h (fits-heap s.words h.deal w q mine),
      λ p e. let same : q ≡ p = omega arith in ap (λ a. (Worker (with_heap w a found), c)) same,
    )

-- words that are the same, but for modified words that are not greater
record Less (words words' : List ℕ) : Type 0 where
  pub mods : (q : ℕ) → mod_at words' q ≤ mod_at words q
  pub heaps : (q : ℕ) → heap_at words' q ≡ heap_at words q
  pub counts : (q : ℕ) → count_at words' q ≡ count_at words q

fits-less : (words words' : List ℕ) (d : Deal) (k : ℕ) (v : View) → Less words words' → Fits words d k v → Fits words' d k v
fits-less words words' d k (Rest r) less f = record { here = f.here; made = f.made; counts = λ q h. less.counts q ∙ f.counts q h; held = λ q h g. less.heaps q ∙ f.held q h g; bumped = f.bumped }
fits-less words words' d k (Worker w) less f = record {
  counts = λ q. let l = f.counts q in let e = less.counts q in omega arith;
  note = λ m e. Covers-less (d.bumped m.heap) (mod_at words m.heap) (heap_at words m.heap) (count_at words m.heap) (mod_at words' m.heap) (heap_at words' m.heap) (count_at words' m.heap) m (less.mods m.heap) (less.heaps m.heap) (less.counts m.heap) (f.note m e);
}
fits-less words words' d k (Heap h) less f = record {
  here = f.here;
  made = f.made;
  count = less.counts h.heap ∙ f.count;
  word = less.heaps h.heap ∙ f.word;
  bumped = f.bumped;
  low = λ v e. let l = f.low v e in let same = less.heaps h.heap in omega arith;
}

less-noted : (words : List ℕ) (q when : ℕ) → 3 * q < length words → Less words (set words (3 * q) (min (mod_at words q) when))
less-noted words q when inside = record {
  mods = λ p. next p (eqb p q) refl;
  heaps = λ p. get_or-set_other words (3 * q) (3 * p + 1) (min (mod_at words q) when) 0 (λ e. omega arith);
  counts = λ p. get_or-set_other words (3 * q) (3 * p + 2) (min (mod_at words q) when) 0 (λ e. omega arith);
}
  where
    next : (p : ℕ) (b : Bool) → eqb p q ≡ b → mod_at (set words (3 * q) (min (mod_at words q) when)) p ≤ mod_at words p
    next p true h =
        let same : p ≡ q = eqb-true p q h in
        let P : ℕ → Type 0 = λ a. mod_at (set words (3 * q) (min (mod_at words q) when)) a ≤ mod_at words a in
        subst P (sym same) (rw (get_or-set_same words (3 * q) (min (mod_at words q) when) 0 inside) (omega arith))
    next p false h =
        let ne = eqb-false p q h in
        let e = get_or-set_other words (3 * q) (3 * p) (min (mod_at words q) when) 0 (λ same. ne (omega arith)) in
        omega arith

pub notes : (n id slots q when : ℕ) (w : WorkerView) (c : List (ℕ × Unit)) → q < n
    → Allows (Holds n) slots id (Worker w, c) (3 * q) (λ x. min x when) (Notes (step slots (3 * q) when 0 none) (Worker w, c))
notes n id slots q when w c inside s h _ at _ =
    let mine : FitsWorker s.words h.deal w = h.each id (Worker w) at in
    let x : ℕ = min (mod_at s.words q) when in
    let words : List ℕ = set s.words (3 * q) x in
    let in_words : 3 * q < length s.words = let e = h.words in omega arith in
    let less = less-noted s.words q when in_words in
    let kept : FitsWorker words h.deal w = fits-less s.words words h.deal id (Worker w) less mine in
    let low : mod_at words q ≤ when = rw (get_or-set_same s.words (3 * q) x 0 in_words) (omega arith) in
    let new : Note = record { heap = q; when = when; count = (load_at w.counts q).word; passed = false; behind = false } in
    let covers : Covers (h.deal.bumped q) (mod_at words q) (heap_at words q) (count_at words q) new = record {
      counted = kept.counts q;
      least = λ _. omega arith;
      modified_least = λ _ _. low;
      passed = λ t _. false_true t;
      passed_bumped = λ t _. false_true t;
      behind = λ t. false_true t;
    } in
    let fits : FitsWorker words h.deal (with_note w q when) = record {
      counts = kept.counts;
      note = λ m e. subst (Sighted words h.deal) (some_same e) covers;
    } in (
      Worker (with_note w q when),
      keeps,
      tt,
      step_holds n s h.deal (3 * q) x id c (Worker (with_note w q when)) h.words fits (λ k u ne e. fits-less s.words words h.deal k u less (h.each k u e)),
      λ p e. let same : q ≡ p = omega arith in ap (λ a. (Worker (with_note w a when), c)) same,
    )
