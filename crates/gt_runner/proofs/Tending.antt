-- A section of one record tends the others as they were.
use Rattle.std.proofs.Common.{◌≡◌, ◌≢◌, ◌⊎◌, ℕ, zero, suc, ◌+◌, ◌≤◌, List, [], ◌∷◌, length, set, slice_get, count_by, cond, refl, sym, ap, subst, ◌∙◌, arith, Option, None, Some, IsSomeAnd, IsTrue, is_some, is_none, Bool, true, inl, inr}
use Rattle.std.proofs.lemmas.Bool.{cases_eq, lt-ltb}
use Rattle.std.proofs.lemmas.List.{length-set}
use Rattle.gt_rec.specs.declared.RecKind.{RecKind}
use Rattle.gt_rec.specs.Rec.{Rec}
use Rattle.gt_lazy.specs.Slots.{LazyHeap, slot_with}
use Rattle.gt_schedule.specs.Counts.{as_number}
use Rattle.gt_schedule.specs.Schedule.{mark_count, most_goroutines}
use Rattle.gt_schedule.proofs.Counting.{count-cons}
use Rattle.gt_model.specs.declared.script.Script.{Script}
use Rattle.gt_model.specs.Script.{is_ctx}
use Rattle.gt_model.proofs.Declared.{ctx_declared}
use Rattle.gt_model.specs.declared.context.Context.{Context}
use Rattle.gt_model.specs.declared.context.End.{End}
use Rattle.gt_rules.specs.State.{State, context_at, has_ended}
use Rattle.gt_book.specs.View.{BookView}
use Rattle.gt_book.specs.Steps.{live_deadline}
use Rattle.gt_rows.specs.Agrees.{kind_by, due_by, period_by, Shows}
use Rattle.gt_rows.specs.Lent.{IsKept}
use Rattle.gt_runner.specs.declared.runner.Runner.{Runner}
use Rattle.gt_runner.specs.Served.{IsWatched, AtKind, IsAt, AtNumber, IsTended, is_heaped, record_count}

-- what was noted stays noted, or less is
abbrev pub KeepsNote : Option ℕ → Option ℕ → Type 0
KeepsNote noted next = (w : ℕ) → IsSomeAnd noted (λ v. v ≤ w) → IsSomeAnd next (λ v. v ≤ w)

-- the due time that a record has to show is what it was, or its context has ended
abbrev pub DueStays : BookView → BookView → ℕ → Type 0
DueStays b b' id = (due_by b'.script b'.state id ≡ due_by b.script b.state id) ⊎ (IsTrue (is_ctx b.script id) × IsTrue (has_ended b'.state id))

-- what is read of book and heap for the record of a number is what it was, but for the deadline of a context that has ended
pub record Stays (b b' : BookView) (h h' : LazyHeap) (id : ℕ) : Type 0 where
  pub script_is : b'.script ≡ b.script
  pub due : DueStays b b' id
  pub ended : has_ended b.state id ≡ true → has_ended b'.state id ≡ true
  pub period : period_by b'.script b'.state id ≡ period_by b.script b.state id
  pub count : mark_count b'.schedule id ≡ mark_count b.schedule id
  pub slot : slot_with h'.slots id ≡ slot_with h.slots id
  pub number_is : h'.number ≡ h.number

-- a context that has ended has no deadline to come
live-over : (o : Option Context) → is_some (elim o as (λ _. Option End) [ None ↦ None | Some r ↦ r.end ]) ≡ true → (elim o as (λ _. Option ℕ) [ None ↦ None | Some r ↦ live_deadline r ]) ≡ None
live-over None h = refl
live-over (Some r) h = by r.end h
  where
    by : (end : Option End) → is_some end ≡ true → cond (is_none end) r.own None ≡ None
    by None h = cc
    by (Some end) h = refl

pub over-due : (script : Script) (s : State) (id : ℕ) → is_ctx script id ≡ true → has_ended s id ≡ true → due_by script s id ≡ None
over-due script s id ctx ended = rw (lt-ltb id (length script.decls) (ctx_declared script id ctx), ctx) (live-over (context_at s id) ended)

shows-stays : (b b' : BookView) (h h' : LazyHeap) (r : Rec) → Stays b b' h h' r.id → Shows b.script b.state r → Shows b'.script b'.state r
shows-stays b b' h h' r st shows =
    elim shows [
      | inl is ↦ elim st.due [
        | inl same ↦ inl (is ∙ sym same)
        | inr over ↦ inr (subst (λ (s : Script). IsTrue (is_ctx s r.id)) (sym st.script_is) over.0, over.1)
      ]
      | inr over ↦ inr (subst (λ (s : Script). IsTrue (is_ctx s r.id)) (sym st.script_is) over.0, st.ended over.1)
    ]

none-stays : (b b' : BookView) (h h' : LazyHeap) (id : ℕ) → Stays b b' h h' id → due_by b.script b.state id ≡ None → due_by b'.script b'.state id ≡ None
none-stays b b' h h' id st none =
    elim st.due [
      | inl same ↦ same ∙ none
      | inr over ↦ over-due b'.script b'.state id (ap (λ (s : Script). is_ctx s id) st.script_is ∙ over.0) over.1
    ]

kept-stays : (b b' : BookView) (h h' : LazyHeap) (r : Rec) → Stays b b' h h' r.id → IsKept b h r → IsKept b' h' r
kept-stays b b' h h' r st k = record {
  rec = record {
    agrees = record {
      kind = ap (λ s. kind_by s r.id) st.script_is ∙ k.rec.agrees.kind;
      shown = shows-stays b b' h h' r st k.rec.agrees.shown;
      period = k.rec.agrees.period ∙ sym st.period;
    };
    bits = k.rec.bits;
  };
  placed = record {
    here = λ e. subst (λ o. IsSomeAnd o (λ s. s.key ≡ r.key)) (sym st.slot) (k.placed.here (e ∙ ap Some st.number_is));
    elsewhere = λ n. st.slot ∙ k.placed.elsewhere (λ e. n (e ∙ ap Some (sym st.number_is)));
  };
}

watched-stays : (b b' : BookView) (h h' : LazyHeap) (noted noted' : Option ℕ) (r : Rec) → Stays b b' h h' r.id → KeepsNote noted noted' → IsWatched b h noted r → IsWatched b' h' noted' r
watched-stays b b' h h' noted noted' r st keeps w = record {
  kept = kept-stays b b' h h' r st w.kept;
  inside = λ s. w.inside s ∙ ap Some (sym st.number_is);
  heaped = w.heaped;
  early = λ n v e l. keeps v (w.early n v e l);
  blocked = λ c. w.blocked c ∙ sym st.count;
  none_ready = w.none_ready;
  none_sent = w.none_sent;
}

kind-stays : (b b' : BookView) (h h' : LazyHeap) (noted noted' : Option ℕ) (id : ℕ) (r : Rec) (o : Option RecKind) → r.id ≡ id → Stays b b' h h' id → KeepsNote noted noted'
    → AtKind b h noted id r o → AtKind b' h' noted' id r o
kind-stays b b' h h' noted noted' id r None is st keeps at = (at.0, st.slot ∙ at.1)
kind-stays b b' h h' noted noted' id r (Some kind) is st keeps at = watched-stays b b' h h' noted noted' r (subst (Stays b b' h h') (sym is) st) keeps at

pub number-stays : (b b' : BookView) (h h' : LazyHeap) (noted noted' : Option ℕ) (id : ℕ) (o : Option Rec) → Stays b b' h h' id → KeepsNote noted noted'
    → AtNumber b h noted id o → AtNumber b' h' noted' id o
number-stays b b' h h' noted noted' id None st keeps at = (none-stays b b' h h' id st at.0, st.slot ∙ at.1)
number-stays b b' h h' noted noted' id (Some r) st keeps at = record {
  id_is = at.id_is;
  watched = subst (AtKind b' h' noted' id r) (sym (ap (λ s. kind_by s id) st.script_is)) (kind-stays b b' h h' noted noted' id r (kind_by b.script id) at.id_is st keeps at.watched);
}

-- ---- one record changes

pub get-set_same : {X : Type 0} (xs : List X) (i : ℕ) (x y : X) → slice_get xs i ≡ Some x → slice_get (set xs i y) i ≡ Some y
get-set_same [] i x y e = cc
get-set_same (z ∷ zs) zero x y e = refl
get-set_same (z ∷ zs) (suc i) x y e = get-set_same zs i x y e

pub get-set_other : {X : Type 0} (xs : List X) (i j : ℕ) (y : X) → j ≢ i → slice_get (set xs i y) j ≡ slice_get xs j
get-set_other [] i j y n = refl
get-set_other (z ∷ zs) zero zero y n = absurd (n refl)
get-set_other (z ∷ zs) zero (suc j) y n = refl
get-set_other (z ∷ zs) (suc i) zero y n = refl
get-set_other (z ∷ zs) (suc i) (suc j) y n = get-set_other zs i j y (λ e. n (ap suc e))

pub count-set : {X : Type 0} (p : X → Bool) (xs : List X) (i : ℕ) (x y : X) → slice_get xs i ≡ Some x → count_by p (set xs i y) + as_number (p x) ≡ count_by p xs + as_number (p y)
count-set p [] i x y e = cc
count-set p (z ∷ zs) zero x y e =
    let same : as_number (p z) ≡ as_number (p x) = (let is : z ≡ x = cc in ap (λ z. as_number (p z)) is) in
    let before : count_by p (z ∷ zs) ≡ as_number (p z) + count_by p zs = count-cons p z zs in
    let now : count_by p (y ∷ zs) ≡ as_number (p y) + count_by p zs = count-cons p y zs in
    omega arith
count-set p (z ∷ zs) (suc i) x y e =
    let before : count_by p (z ∷ zs) ≡ as_number (p z) + count_by p zs = count-cons p z zs in
    let now : count_by p (z ∷ set zs i y) ≡ as_number (p z) + count_by p (set zs i y) = count-cons p z (set zs i y) in
    let rest : count_by p (set zs i y) + as_number (p x) ≡ count_by p zs + as_number (p y) = count-set p zs i x y e in
    omega arith

-- what a section does to a run: the record of a number changes from r to r', and the others are left alone
pub record Touches (x x' : Runner) (id : ℕ) (r r' : Rec) : Type 0 where
  pub there : slice_get x.records.items id ≡ Some r
  pub records_are : x'.records.items ≡ set x.records.items id r'
  pub spare : x'.records.spare ≡ x.records.spare
  pub limits : x'.book.limits ≡ x.book.limits
  pub stays : (j : ℕ) → j ≢ id → Stays x.book x'.book x.heap x'.heap j
  pub script_is : x'.book.script ≡ x.book.script
  pub room : x'.heap.spare + as_number (is_heaped r') ≡ x.heap.spare + as_number (is_heaped r)
  pub noted_is : KeepsNote x.noted x'.noted
  pub own : IsAt x'.book x'.heap x'.noted id r'

pub tended-touched : (x x' : Runner) (id : ℕ) (r r' : Rec) → IsTended x → Touches x x' id r r' → IsTended x'
tended-touched x x' id r r' t c =
    let many : length x'.records.items ≡ length x.records.items = ap length c.records_are ∙ length-set x.records.items id r' in
    let records : record_count x'.book ≡ record_count x.book =
    ap (λ (s : Script). length s.decls + most_goroutines s x'.book.limits + 1) c.script_is ∙ ap (λ l. length x.book.script.decls + most_goroutines x.book.script l + 1) c.limits in
    let names : length x'.book.script.decls ≡ length x.book.script.decls = ap (λ (s : Script). length s.decls) c.script_is in
    let declared : length x.book.script.decls ≤ length x.records.items = t.declared in
    let all : length x.records.items + x.records.spare ≡ record_count x.book = t.record_room in
    let spare : x'.records.spare ≡ x.records.spare = c.spare in
    let counted : count_by is_heaped (set x.records.items id r') + as_number (is_heaped r) ≡ count_by is_heaped x.records.items + as_number (is_heaped r') = count-set is_heaped x.records.items id r r' c.there in
    let now : count_by is_heaped x'.records.items ≡ count_by is_heaped (set x.records.items id r') = ap (count_by is_heaped) c.records_are in
    let heap : record_count x.book ≤ x.heap.spare + count_by is_heaped x.records.items = t.heap_room in
    let room : x'.heap.spare + as_number (is_heaped r') ≡ x.heap.spare + as_number (is_heaped r) = c.room in
    record {
      at = λ j. subst (λ xs. AtNumber x'.book x'.heap x'.noted j (slice_get xs j)) (sym c.records_are)
          (elim (cases_eq j id) [
            | inl e ↦
                subst (λ k. AtNumber x'.book x'.heap x'.noted k (slice_get (set x.records.items id r') k)) (sym e)
                (subst (AtNumber x'.book x'.heap x'.noted id) (sym (get-set_same x.records.items id r r' c.there)) c.own)
            | inr n ↦
                subst (AtNumber x'.book x'.heap x'.noted j) (sym (get-set_other x.records.items id j r' n))
                (number-stays x.book x'.book x.heap x'.heap x.noted x'.noted j (slice_get x.records.items j) (c.stays j n) c.noted_is (t.at j))
          ]);
      declared = omega arith;
      record_room = omega arith;
      heap_room = omega arith;
    }

-- ---- no record changes

pub record Spares (x x' : Runner) : Type 0 where
  pub records_are : x'.records ≡ x.records
  pub heap_is : x'.heap ≡ x.heap
  pub noted_is : x'.noted ≡ x.noted
  pub limits : x'.book.limits ≡ x.book.limits
  pub script_is : x'.book.script ≡ x.book.script
  pub stays : (j : ℕ) → Stays x.book x'.book x.heap x.heap j

pub tended-spared : (x x' : Runner) → IsTended x → Spares x x' → IsTended x'
tended-spared x x' t c =
    let records : record_count x'.book ≡ record_count x.book =
    ap (λ (s : Script). length s.decls + most_goroutines s x'.book.limits + 1) c.script_is ∙ ap (λ l. length x.book.script.decls + most_goroutines x.book.script l + 1) c.limits in
    let names : length x'.book.script.decls ≡ length x.book.script.decls = ap (λ (s : Script). length s.decls) c.script_is in
    let declared : length x.book.script.decls ≤ length x.records.items = t.declared in
    let all : length x.records.items + x.records.spare ≡ record_count x.book = t.record_room in
    let heap : record_count x.book ≤ x.heap.spare + count_by is_heaped x.records.items = t.heap_room in
    let many : length x'.records.items ≡ length x.records.items = ap (λ r. length r.items) c.records_are in
    let spare : x'.records.spare ≡ x.records.spare = ap (λ r. r.spare) c.records_are in
    let heaped : count_by is_heaped x'.records.items ≡ count_by is_heaped x.records.items = ap (λ r. count_by is_heaped r.items) c.records_are in
    let free : x'.heap.spare ≡ x.heap.spare = ap (λ h. h.spare) c.heap_is in
    record {
      at = λ j. subst (λ rs. AtNumber x'.book x'.heap x'.noted j (slice_get rs.items j)) (sym c.records_are)
          (subst (λ h. AtNumber x'.book h x'.noted j (slice_get x.records.items j)) (sym c.heap_is)
          (subst (λ n. AtNumber x'.book x.heap n j (slice_get x.records.items j)) (sym c.noted_is)
          (number-stays x.book x'.book x.heap x.heap x.noted x.noted j (slice_get x.records.items j) (c.stays j) (λ w h. h) (t.at j))));
      declared = omega arith;
      record_room = omega arith;
      heap_room = omega arith;
    }
