-- A run before its first entry is served: nothing is set, and nobody has a mark.
use Rattle.std.proofs.Common.{◌≡◌, ℕ, zero, suc, ◌+◌, ◌-◌, ◌<◌, ◌≤◌, nat_lt, cond, List, [], ◌∷◌, ◌++◌, length, length-append, map, slice_get, count_by, refl, sym, ap, subst, ◌∙◌, arith, Option, None, Some, true, false, ◌⊎◌, inl, inr}
use Rattle.std.proofs.lemmas.Option.{slice_get_within}
use Rattle.gt_model.specs.declared.script.Script.{Script}
use Rattle.gt_model.specs.declared.script.Decl.{Decl}
use Rattle.gt_model.specs.declared.script.What.{What}
use Rattle.gt_model.specs.declared.state.Timer.{Timer}
use Rattle.gt_model.specs.declared.context.Context.{Context}
use Rattle.gt_model.specs.Script.{is_ctx}
use Rattle.gt_book.specs.Steps.{live_deadline}
use Rattle.gt_model.specs.declared.entry.Limits.{Limits}
use Rattle.gt_model.specs.Tables.{at}
use Rattle.gt_rules.specs.State.{due_of, sleeps_until, timer_at}
use Rattle.gt_rules.specs.After.{first_state}
use Rattle.gt_rec.specs.declared.RecKind.{RecKind}
use Rattle.gt_rec.specs.Rec.{Rec, BitsRight}
use Rattle.gt_rec.specs.Changes.{unset_rec}
use Rattle.gt_room.specs.Contents.{Contents}
use Rattle.gt_lazy.specs.Slots.{LazyHeap, slot_with}
use Rattle.gt_rows.specs.Agrees.{kind_by, kind_of_what, due_by, live_at, period_by, period_of_timer}
use Rattle.gt_schedule.specs.Counts.{times}
use Rattle.gt_schedule.specs.Schedule.{first_schedule, marks_at}
use Rattle.gt_book.specs.View.{BookView, first_view}
use Rattle.gt_runner.specs.declared.runner.Runner.{Runner}
use Rattle.gt_runner.specs.Begun.{kind_at, AreFirst, AreUpTo}
use Rattle.gt_runner.specs.Served.{AtKind, IsAt, AtNumber, IsServed, MarkFitsAt, is_heaped, record_count}

-- ---- the records, one by one

pub up-to-none : (script : Script) (records : Contents Rec) → records.items ≡ [] → AreUpTo script 0 records
up-to-none script records e = record {
  many = ap length e;
  each = λ id r d there named. (let off : slice_get [] id ≡ Some r = subst (λ (xs : List Rec). slice_get xs id ≡ Some r) e there in cc);
}

get-push : (xs : List Rec) (x r : Rec) (i : ℕ) → slice_get (xs ++ x ∷ []) i ≡ Some r → (slice_get xs i ≡ Some r) ⊎ ((i ≡ length xs) × (x ≡ r))
get-push [] x r zero e = inr (refl, cc)
get-push [] x r (suc i) e = cc
get-push (y ∷ ys) x r zero e = inl e
get-push (y ∷ ys) x r (suc i) e =
    elim (get-push ys x r i e) [
      | inl k ↦ inl k
      | inr k ↦ inr (ap suc k.0, k.1)
    ]

pub up-to-more : (script : Script) (id : ℕ) (records next : Contents Rec) (r : Rec) (d : Decl) → AreUpTo script id records → next.items ≡ records.items ++ r ∷ [] → slice_get script.decls id ≡ Some d
    → r ≡ unset_rec id (kind_at d.what) → BitsRight r → AreUpTo script (id + 1) next
up-to-more script id records next r d upto items named is bits = record {
  many = ap length items ∙ (length-append records.items (r ∷ []) ∙ ap (λ n. n + 1) upto.many);
  each = λ j s e there decl.
      elim (get-push records.items r s j (ap (λ xs. slice_get xs j) (sym items) ∙ there)) [
        | inl k ↦ upto.each j s e k decl
        | inr k ↦
            let place : j ≡ id = k.0 ∙ upto.many in
            let own : slice_get script.decls id ≡ Some e = ap (slice_get script.decls) (sym place) ∙ decl in
            let same : d ≡ e = cc in
            (sym k.1 ∙ (is ∙ (ap (λ (d : Decl). unset_rec id (kind_at d.what)) same ∙ ap (λ i. unset_rec i (kind_at e.what)) (sym place))), subst BitsRight k.1 bits)
      ];
}

pub up-to-all : (script : Script) (id : ℕ) (records : Contents Rec) → AreUpTo script id records → id ≡ length script.decls → AreFirst script records
up-to-all script id records upto e = record { many = upto.many ∙ e; each = upto.each }

-- ---- nothing is set

abbrev no_timer : Option Timer
no_timer = None

unmade : (decls : List Decl) (i : ℕ) → at (map (λ (d : Decl). no_timer) decls) i ≡ no_timer
unmade [] i = refl
unmade (d ∷ ds) zero = refl
unmade (d ∷ ds) (suc i) = unmade ds i

first-timer : (script : Script) (id : ℕ) → timer_at (first_state script) id ≡ None
first-timer script id = unmade script.decls id

abbrev no_context : Option Context
no_context = None

underived : (decls : List Decl) (i : ℕ) → at (map (λ (d : Decl). no_context) decls) i ≡ no_context
underived [] i = refl
underived (d ∷ ds) zero = refl
underived (d ∷ ds) (suc i) = underived ds i

first-own : (script : Script) (id : ℕ) → live_at (first_state script) id ≡ None
first-own script id = ap (λ (o : Option Context). elim o as (λ _. Option ℕ) [ None ↦ None | Some r ↦ live_deadline r ]) (underived script.decls id)

first-due : (script : Script) (id : ℕ) → due_of (first_state script) id ≡ None
first-due script id = ap (λ (o : Option Timer). elim o as (λ _. Option ℕ) [ None ↦ None | Some r ↦ r.due ]) (first-timer script id)

first-sleep : (script : Script) (g : ℕ) → sleeps_until (first_state script) g ≡ None
first-sleep script zero = refl
first-sleep script (suc zero) = refl
first-sleep script (suc (suc g)) = refl

nothing-due : (script : Script) (id : ℕ) → due_by script (first_state script) id ≡ None
nothing-due script id =
    elim (nat_lt id (length script.decls))
    as (λ b. cond b (cond (is_ctx script id) (live_at (first_state script) id) (due_of (first_state script) id)) (sleeps_until (first_state script) (id - length script.decls)) ≡ None) [
      | true ↦ elim (is_ctx script id) as (λ b. cond b (live_at (first_state script) id) (due_of (first_state script) id) ≡ None) [
        | true ↦ first-own script id
        | false ↦ first-due script id
      ]
      | false ↦ first-sleep script (id - length script.decls)
    ]

nothing-period : (script : Script) (id : ℕ) → period_by script (first_state script) id ≡ 0
nothing-period script id =
    elim (nat_lt id (length script.decls)) as (λ b. cond b (period_of_timer (timer_at (first_state script) id)) 0 ≡ 0) [
      | true ↦ ap period_of_timer (first-timer script id)
      | false ↦ refl
    ]

first-marks : (script : Script) (g : ℕ) → marks_at (first_schedule script) g ≡ []
first-marks script zero = refl
first-marks script (suc zero) = refl
first-marks script (suc (suc g)) = refl

-- ---- the run

first-kind : (script : Script) (limits : Limits) (h : LazyHeap) (id : ℕ) (w : What) (o : Option RecKind) → h.slots ≡ [] → kind_by script id ≡ o → kind_of_what w ≡ o → BitsRight (unset_rec id (kind_at w))
    → AtKind (first_view script limits) h None id (unset_rec id (kind_at w)) o
first-kind script limits h id w None empty is what bits = (refl, ap (λ slots. slot_with slots id) empty)
first-kind script limits h id w (Some kind) empty is what bits =
    let same : kind ≡ kind_at w = kinds w kind what in
    record {
      kept = record {
        rec = record {
          agrees = record { kind = is ∙ ap Some same; shown = inl (sym (nothing-due script id)); period = sym (nothing-period script id) };
          bits = bits;
        };
        placed = record { here = λ e. cc; elsewhere = λ n. ap (λ slots. slot_with slots id) empty };
      };
      inside = λ some. cc;
      heaped = λ n. cc;
      early = λ n v e l. cc;
      blocked = λ c. refl;
      none_ready = refl;
      none_sent = refl;
    }
  where
    kinds : (w : What) (kind : RecKind) → kind_of_what w ≡ Some kind → kind ≡ kind_at w
    kinds What.Timer kind e = cc
    kinds What.Ticker kind e = cc
    kinds (What.AfterFunc f) kind e = cc
    kinds (What.Chan cap) kind e = cc
    kinds What.Mutex kind e = cc
    kinds What.Wg kind e = cc
    kinds (What.Cond mutex) kind e = cc
    kinds (What.Ctx parent form) kind e = cc
    kinds (What.Hook ctx func) kind e = cc
    kinds What.Error kind e = cc
    kinds What.Function kind e = cc

get-some : {X : Type 0} (xs : List X) (i : ℕ) → i < length xs → (x : X) × (slice_get xs i ≡ Some x)
get-some [] i h = absurd (omega arith)
get-some (x ∷ xs) zero h = (x, refl)
get-some (x ∷ xs) (suc i) h = get-some xs i (omega arith)

first-at : (script : Script) (limits : Limits) (h : LazyHeap) (records : Contents Rec) (id : ℕ) (o : Option Rec) → h.slots ≡ [] → AreFirst script records → slice_get records.items id ≡ o
    → AtNumber (first_view script limits) h None id o
first-at script limits h records id None empty first e = (nothing-due script id, ap (λ slots. slot_with slots id) empty)
first-at script limits h records id (Some r) empty first e =
    let within : id < length records.items = slice_get_within records.items id r e in
    let many : length records.items ≡ length script.decls = first.many in
    let decl = get-some script.decls id (omega arith) in
    let own = first.each id r decl.0 e decl.1 in
    let kind : kind_by script id ≡ kind_of_what decl.0.what =
    ap (λ (o : Option Decl). elim o as (λ _. Option RecKind) [ None ↦ Some RecKind.Sleep | Some d ↦ kind_of_what d.what ]) decl.1 in
    subst (IsAt (first_view script limits) h None id) (sym own.0) (record {
      id_is = refl;
      watched = first-kind script limits h id decl.0.what (kind_by script id) empty refl (sym kind) (subst BitsRight own.0 own.1);
    })

none-heaped : (xs : List Rec) → ((i : ℕ) (r : Rec) → slice_get xs i ≡ Some r → is_heaped r ≡ false) → count_by is_heaped xs ≡ 0
none-heaped [] h = refl
none-heaped (x ∷ xs) h =
    let sum : count_by is_heaped (x ∷ xs) ≡ Rattle.gt_schedule.specs.Counts.as_number (is_heaped x) + count_by is_heaped xs = Rattle.gt_schedule.proofs.Counting.count-cons is_heaped x xs in
    let here : Rattle.gt_schedule.specs.Counts.as_number (is_heaped x) ≡ 0 = ap Rattle.gt_schedule.specs.Counts.as_number (h 0 x refl) in
    let rest : count_by is_heaped xs ≡ 0 = none-heaped xs (λ i r e. h (suc i) r e) in
    omega arith

pub served-first : (x : Runner) (script : Script) (limits : Limits) → x.book ≡ first_view script limits → x.heap.slots ≡ [] → x.noted ≡ None → AreFirst script x.records
    → length x.records.items + x.records.spare ≡ record_count (first_view script limits) → record_count (first_view script limits) ≤ x.heap.spare → IsServed x
served-first x script limits book empty noted first room spare =
    let b : BookView = first_view script limits in
    let many : length x.records.items ≡ length script.decls = first.many in
    let served : IsServed (record x { book = b }) = record {
      tended = record {
        at = λ id. subst (λ n. AtNumber b x.heap n id (slice_get x.records.items id)) (sym noted) (first-at script limits x.heap x.records id (slice_get x.records.items id) empty first refl);
        declared = omega arith;
        record_room = room;
        heap_room = omega arith;
      };
      marks = λ g. first-fits g;
      named = λ g t h. (let off : 0 < times t [] = subst (λ ts. 0 < times t ts) (first-marks script g) h in absurd (omega arith));
    } in
    subst (λ b. IsServed (record x { book = b })) (sym book) served
  where
    first-fits : (g : ℕ) → MarkFitsAt script (first_state script) (first_schedule script) g
    first-fits zero = refl
    first-fits (suc zero) = omega arith
    first-fits (suc (suc g)) = refl
