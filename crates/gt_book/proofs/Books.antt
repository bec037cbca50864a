-- A book that began keeps what a book keeps; a run that makes an entry, and one that ends, do what they say.
use Rattle.std.proofs.Common.{◌≡◌, zero, suc, ◌+◌, ◌<◌, ◌≤◌, [], ◌∷◌, ◌++◌, refl, sym, ap, subst, ◌∙◌, arith, Option, None, Some, length, length-append, is_some, List, cond, Bool, true, false, slice_get, option_map, count_by, ℕ}
use Rattle.gt_model.specs.declared.script.Script.{Script}
use Rattle.gt_model.specs.declared.entry.Entry.{Entry}
use Rattle.gt_model.specs.declared.entry.Limits.{Limits}
use Rattle.gt_model.specs.declared.entry.Outcome.{Outcome}
use Rattle.gt_model.specs.declared.state.Ending.{Ending}
use Rattle.gt_rules.specs.State.{State, hook_at, is_started, is_registered}
use Rattle.gt_rules.specs.After.{after, first_state}
use Rattle.gt_model.specs.Good.{IsGood, AreLimits}
use Rattle.gt_facts.proofs.Formed.{formed-first, formed-after}
use Rattle.gt_room.specs.Contents.{Contents}
use Rattle.gt_machine.specs.declared.machine.Machine.{Machine}
use Rattle.gt_machine.specs.Machine.{state_of, capacities, HasChannels, HasContexts}
use Rattle.gt_machine.specs.Outcomes.{outcome_in, due_outcome}
use Rattle.gt_schedule.specs.Counts.{as_number}
use Rattle.gt_schedule.specs.Schedule.{first_schedule, most_goroutines, scheduled, hook_count, is_hook_decl}
use Rattle.gt_schedule.specs.Scheduler.{schedule_of, capacity, IsScheduler, CanApply}
use Rattle.gt_book.specs.declared.book.Book.TheInside.{Inside}
use Rattle.gt_book.specs.declared.run.Run.{Run}
use Rattle.gt_book.specs.View.{BookView, IsLawful, first_view, with_entries, finish_by}
use Rattle.gt_book.specs.Run.{seen_of, HasRooms, IsUnderWay, IsKeptRun, CanMake, Makes, CanEnd, Ends, HasWakingRoom}
use Rattle.gt_book.specs.Book.{seen, IsKept}
use Rattle.gt_book.specs.Calm.{IsCalm}
use Rattle.gt_book.proofs.Entering.{IsCounted, counted-May, way-more, no-entries, lawful-way, lawful-finishes}
use Rattle.gt_book.proofs.Fitting.{fits-first, orderly-fits}
use Rattle.gt_book.proofs.Turning.{rightly-May, has-lists_in}
use Rattle.gt_rules.specs.Change.{change_of}
use Rattle.std.specs.Prelude.{slice_index_or}
use Rattle.std.proofs.lemmas.List.Sums.{sum_by-cons, count_by-le-length}
use Rattle.std.specs.BinaryHeap.{heap_capacity}
use Rattle.gt_model.specs.declared.script.Decl.{Decl}
use Rattle.gt_model.specs.declared.context.HookState.{HookState}
use Rattle.gt_model.specs.Script.{names_hook}
use Rattle.gt_facts.specs.Formed.{IsFormed, started_count}
use Rattle.gt_facts.proofs.Starts.{starts-few}

none-parked : (script : Script) → IsCalm script (first_state script) (first_schedule script)
none-parked script zero waits = cc
none-parked script (suc zero) waits = cc
none-parked script (suc (suc g)) waits = cc

pub lawful-first : (script : Script) (limits : Limits) → IsGood script → AreLimits limits → IsLawful (first_view script limits)
lawful-first script limits good are = record {
  good = good;
  limits = are;
  legal = tt;
  reached = refl;
  goes = record { ending = refl; room = are.some };
  formed = formed-first script good;
  fits = fits-first script;
  calm = λ running. none-parked script;
}

-- what a run is seen as, by its parts
pub seen-is : (script : Script) (limits : Limits) (r : Run) (v : BookView) → script ≡ v.script → limits ≡ v.limits → r.history.items ≡ v.history → state_of r.machine ≡ v.state
    → schedule_of r.scheduler ≡ v.schedule → seen_of script limits r ≡ v
seen-is script limits r v of_script of_limits history state schedule =
    ap (λ x. record { script = x; limits = limits; history = r.history.items; state = state_of r.machine; schedule = schedule_of r.scheduler }) of_script
    ∙ ap (λ x. record { script = v.script; limits = x; history = r.history.items; state = state_of r.machine; schedule = schedule_of r.scheduler }) of_limits
    ∙ ap (λ x. record { script = v.script; limits = v.limits; history = x; state = state_of r.machine; schedule = schedule_of r.scheduler }) history
    ∙ ap (λ x. record { script = v.script; limits = v.limits; history = v.history; state = x; schedule = schedule_of r.scheduler }) state
    ∙ ap (λ x. record { script = v.script; limits = v.limits; history = v.history; state = v.state; schedule = x }) schedule

-- a book as it begins
pub begun-kept : (b : Inside) → HasContexts b.script b.run.machine → HasWakingRoom b.script b.run → IsGood b.script → AreLimits b.limits → b.run.history.items ≡ [] → b.run.history.spare ≡ b.limits.entries + 1
    → state_of b.run.machine ≡ first_state b.script → HasChannels b.script b.run.machine → b.run.machine.goroutines.spare + 1 ≡ most_goroutines b.script b.limits → schedule_of b.run.scheduler ≡ first_schedule b.script
    → capacity b.run.scheduler ≡ most_goroutines b.script b.limits → IsScheduler b.run.scheduler → IsKept b
begun-kept b contexts waking good are empty spare state channels room schedule places kept =
    let is : seen b ≡ first_view b.script b.limits = seen-is b.script b.limits b.run (first_view b.script b.limits) refl refl empty state schedule in
    let none : length b.run.history.items ≡ 0 = ap length empty in
    let one : length b.run.machine.goroutines.items ≡ 1 = ap (λ (s : State). length s.goroutines) state in
    let zero_entries : b.run.machine.entries ≡ 0 = ap (λ (s : State). s.entries) state in
    let running : as_number (is_some (outcome_in b.run.machine.ending)) ≡ 0 = ap (λ (s : State). as_number (is_some (outcome_in s.ending))) state in
    record {
      lawful = subst IsLawful (sym is) (lawful-first b.script b.limits good are);
      rooms = record { history = omega arith; goroutines = omega arith; channels = channels; contexts = contexts; waking = waking; schedule = places; scheduler = kept; entries = omega arith };
    }

-- ---- a run that makes an entry

-- a hook that was started is declared as one
started-registered : (hook : HookState) → is_started hook ≡ true → is_registered hook ≡ true
started-registered HookState.Started h = refl
started-registered _ h = cc

started-few : (ds : List Decl) (hooks : List HookState) → length hooks ≡ length ds
    → ((h : ℕ) → is_started (slice_index_or hooks h HookState.Unregistered) ≡ true → names_hook (option_map (λ (d : Decl). d.what) (slice_get ds h)) ≡ true)
    → count_by is_started hooks ≤ count_by is_hook_decl ds
started-few [] [] as_many each = omega arith
started-few [] (hook ∷ hooks) as_many each = absurd (omega arith)
started-few (d ∷ ds) [] as_many each = absurd (omega arith)
started-few (d ∷ ds) (hook ∷ hooks) as_many each =
    let rest : count_by is_started hooks ≤ count_by is_hook_decl ds = started-few ds hooks (omega arith) (λ h. each (suc h)) in
    let now : count_by is_started (hook ∷ hooks) ≡ cond (is_started hook) 1 0 + count_by is_started hooks = sum_by-cons (λ x. cond (is_started x) 1 0) hook hooks in
    let all : count_by is_hook_decl (d ∷ ds) ≡ cond (is_hook_decl d) 1 0 + count_by is_hook_decl ds = sum_by-cons (λ x. cond (is_hook_decl x) 1 0) d ds in
    let one : cond (is_started hook) 1 0 ≤ cond (is_hook_decl d) 1 0 = one-each (is_started hook) (is_hook_decl d) (each 0) in
    omega arith
  where
    one-each : (a b : Bool) → (a ≡ true → b ≡ true) → cond a 1 0 ≤ cond b 1 0
    one-each true b h = subst (λ b. 1 ≤ cond b 1 0) (sym (h refl)) (omega arith)
    one-each false b h = omega arith

hooks-few : (script : Script) (s : State) → IsFormed script s → started_count s ≤ hook_count script
hooks-few script s formed =
    started-few script.decls s.hooks formed.hooks (λ h started. (formed.hooked h (started-registered (hook_at s h) started)).named)

-- an entry counts once at most
counted-one : (e : Entry) → (change_of e).counted ≤ 1
counted-one (Entry.Finish outcome) = omega arith
counted-one _ = omega arith

-- there is room for the goroutines that an entry starts
pub starts-fit : (script : Script) (limits : Limits) (r : Run) (e : Entry) → CanMake script limits r e
    → length r.machine.goroutines.items + length (change_of e).starts ≤ most_goroutines script limits
starts-fit script limits r e can =
    let room : r.machine.entries < limits.entries = can.running.room in
    let few : length r.machine.goroutines.items ≤ r.machine.entries + 1 + started_count (state_of r.machine) = can.kept.way.sound.formed.few in
    let next : length (change_of e).starts + started_count (state_of r.machine) ≤ (change_of e).counted + started_count (after script (state_of r.machine) e) =
    starts-few script (state_of r.machine) e can.may in
    let all : started_count (after script (state_of r.machine) e) ≤ hook_count script =
    hooks-few script (after script (state_of r.machine) e) (formed-after script (state_of r.machine) e can.kept.way.sound.good can.kept.way.sound.formed can.may) in
    let one : (change_of e).counted ≤ 1 = counted-one e in
    omega arith

-- what the parts of the run need
pub can_make-applies : (script : Script) (limits : Limits) (r : Run) (e : Entry) → CanMake script limits r e → CanApply r.scheduler e
can_make-applies script limits r e can =
    let room : length r.machine.goroutines.items + length (change_of e).starts ≤ most_goroutines script limits = starts-fit script limits r e can in
    let as_many : length r.scheduler.statuses.items ≡ length r.machine.goroutines.items = can.kept.way.sound.fits.as_many in
    let places : capacity r.scheduler ≡ most_goroutines script limits = can.kept.rooms.schedule in
    record {
      kept = can.kept.rooms.scheduler;
      orderly = orderly-fits script (state_of r.machine) (schedule_of r.scheduler) can.kept.way.sound.fits;
      served = can.served;
      lists = has-lists_in script (state_of r.machine) (schedule_of r.scheduler) (change_of e)
          (rightly-May script (state_of r.machine) e can.kept.way.sound.good can.kept.way.sound.formed can.may) can.kept.way.sound.fits can.served;
      spare = omega arith;
    }

pub can_make-room : (script : Script) (limits : Limits) (r : Run) (e : Entry) → CanMake script limits r e → length (change_of e).starts ≤ r.machine.goroutines.spare
can_make-room script limits r e can =
    let room : length r.machine.goroutines.items + length (change_of e).starts ≤ most_goroutines script limits = starts-fit script limits r e can in
    let all : length r.machine.goroutines.items + r.machine.goroutines.spare ≡ most_goroutines script limits = can.kept.rooms.goroutines in
    omega arith

pub can_make-few : (script : Script) (limits : Limits) (r : Run) (e : Entry) → CanMake script limits r e → r.machine.entries < 200000
can_make-few script limits r e can =
    let room : r.machine.entries < limits.entries = can.running.room in
    let most : limits.entries ≤ 200000 = can.kept.way.sound.limits.most in
    omega arith

-- the same where nothing was noted
pub waking-room : (script : Script) (old new : Run) → new.waking ≡ old.waking → HasWakingRoom script old → HasWakingRoom script new
waking-room script old new same before = record { room = subst (λ w. length script.decls ≤ heap_capacity w) (sym same) before.room }

-- there is room for a finish
pub kept-room : (script : Script) (limits : Limits) (r : Run) → IsKeptRun script limits r → 0 < r.history.spare
kept-room script limits r kept =
    let few : r.machine.entries ≤ limits.entries = kept.way.few in
    let all : length r.history.items + r.history.spare ≡ limits.entries + 1 = kept.rooms.history in
    let none : as_number (is_some (outcome_in r.machine.ending)) ≡ 0 = ap (λ (o : Option Outcome). as_number (is_some o)) kept.way.unfinished in
    let count : length r.history.items ≡ r.machine.entries + as_number (is_some (outcome_in r.machine.ending)) = kept.rooms.entries in
    omega arith

-- the parts of a run after an entry
pub record Applied (script : Script) (old : Run) (e : Entry) (new : Run) : Type 0 where
  pub state : state_of new.machine ≡ after script (state_of old.machine) e
  pub goroutines : length new.machine.goroutines.items + new.machine.goroutines.spare ≡ length old.machine.goroutines.items + old.machine.goroutines.spare
  pub channels : HasChannels script new.machine
  pub contexts : HasContexts script new.machine
  pub waking : HasWakingRoom script new
  pub schedule : schedule_of new.scheduler ≡ scheduled (schedule_of old.scheduler) e
  pub places : capacity new.scheduler ≡ capacity old.scheduler
  pub kept : IsScheduler new.scheduler
  pub items : new.history.items ≡ old.history.items ++ e ∷ []
  pub spare : new.history.spare + 1 ≡ old.history.spare

pub makes-applied : (script : Script) (limits : Limits) (old : Run) (e : Entry) (new : Run) → CanMake script limits old e → Applied script old e new → Makes script limits old e new
makes-applied script limits old e new can done =
    let is : seen_of script limits new ≡ with_entries (seen_of script limits old) (e ∷ []) =
    seen-is script limits new (with_entries (seen_of script limits old) (e ∷ [])) refl refl done.items done.state done.schedule in
    let way : IsUnderWay (seen_of script limits new) = subst IsUnderWay (sym is) (way-more (seen_of script limits old) e can.kept.way can.running can.may can.served) in
    record { is = is; kept = record { way = way; rooms = rooms way.unfinished } }
  where
    rooms : outcome_in new.machine.ending ≡ None → HasRooms script limits new
    rooms unfinished =
        let counted : IsCounted script (state_of old.machine) e = counted-May script (state_of old.machine) e can.may in
        let entries : new.machine.entries ≡ old.machine.entries + 1 = ap (λ (s : State). s.entries) done.state ∙ counted.more in
        let none : as_number (is_some (outcome_in old.machine.ending)) ≡ 0 = ap (λ (o : Option Outcome). as_number (is_some o)) can.kept.way.unfinished in
        let none_now : as_number (is_some (outcome_in new.machine.ending)) ≡ 0 = ap (λ (o : Option Outcome). as_number (is_some o)) unfinished in
        let count : length old.history.items ≡ old.machine.entries + as_number (is_some (outcome_in old.machine.ending)) = can.kept.rooms.entries in
        let longer : length new.history.items ≡ length old.history.items + 1 = ap length done.items ∙ length-append old.history.items (e ∷ []) in
        let before : length old.history.items + old.history.spare ≡ limits.entries + 1 = can.kept.rooms.history in
        let spare : new.history.spare + 1 ≡ old.history.spare = done.spare in
        record {
          history = omega arith;
          goroutines = done.goroutines ∙ can.kept.rooms.goroutines;
          channels = done.channels;
          contexts = done.contexts;
          waking = done.waking;
          entries = omega arith;
          schedule = done.places ∙ can.kept.rooms.schedule;
          scheduler = done.kept;
        }

-- ---- a run that ends

-- the parts after a finish
pub record Finished (script : Script) (outcome : Outcome) (old new : Run) : Type 0 where
  pub state : state_of new.machine ≡ after script (state_of old.machine) (Entry.Finish outcome)
  pub goroutines : new.machine.goroutines ≡ old.machine.goroutines
  pub channels : new.machine.channels ≡ old.machine.channels
  pub contexts : new.machine.ctxs ≡ old.machine.ctxs
  pub waking : new.waking ≡ old.waking
  pub scheduler : new.scheduler ≡ old.scheduler
  pub items : new.history.items ≡ old.history.items ++ Entry.Finish outcome ∷ []
  pub spare : new.history.spare + 1 ≡ old.history.spare

pub seen-finished : (script : Script) (limits : Limits) (outcome : Outcome) (old new : Run) → Finished script outcome old new
    → seen_of script limits new ≡ with_entries (seen_of script limits old) (Entry.Finish outcome ∷ [])
seen-finished script limits outcome old new ends =
    seen-is script limits new (with_entries (seen_of script limits old) (Entry.Finish outcome ∷ [])) refl refl ends.items ends.state (ap schedule_of ends.scheduler)

-- the rooms after a finish
pub finished-rooms : (script : Script) (limits : Limits) (outcome : Outcome) (old new : Run) → HasRooms script limits old → outcome_in old.machine.ending ≡ None → Finished script outcome old new
    → HasRooms script limits new
finished-rooms script limits outcome old new before none ends =
    let unfinished : as_number (is_some (outcome_in old.machine.ending)) ≡ 0 = ap (λ (o : Option Outcome). as_number (is_some o)) none in
    let count : length old.history.items ≡ old.machine.entries + as_number (is_some (outcome_in old.machine.ending)) = before.entries in
    let same : new.machine.entries ≡ old.machine.entries + 0 = ap (λ (s : State). s.entries) ends.state in
    let ending : new.machine.ending ≡ Ending.Finished outcome = ap (λ (s : State). s.ending) ends.state in
    let some : as_number (is_some (outcome_in new.machine.ending)) ≡ 1 = ap (λ (x : Ending). as_number (is_some (outcome_in x))) ending in
    let room : length old.history.items + old.history.spare ≡ limits.entries + 1 = before.history in
    let spare : new.history.spare + 1 ≡ old.history.spare = ends.spare in
    let grows : length new.history.items ≡ length old.history.items + 1 = ap length ends.items ∙ length-append old.history.items (Entry.Finish outcome ∷ []) in
    record {
      history = omega arith;
      goroutines = ap (λ (r : Contents _). length r.items + r.spare) ends.goroutines ∙ before.goroutines;
      channels = has-channels old.machine new.machine ends.channels before.channels;
      contexts = has-contexts old.machine new.machine ends.contexts before.contexts;
      waking = waking-room script old new ends.waking before.waking;
      schedule = ap capacity ends.scheduler ∙ before.schedule;
      scheduler = subst IsScheduler (sym ends.scheduler) before.scheduler;
      entries = omega arith;
    }
  where
    has-channels : (m n : Machine) → n.channels ≡ m.channels → HasChannels script m → HasChannels script n
    has-channels m n same has = record { declared = ap (λ cs. capacities cs.items) same ∙ has.declared }

    has-contexts : (m n : Machine) → n.ctxs ≡ m.ctxs → HasContexts script m → HasContexts script n
    has-contexts m n same has = record { declared = ap (λ cs. cs.decls) same ∙ has.declared; begun = ap (λ cs. cs.started) same ∙ has.begun }

pub ends-finished : (script : Script) (limits : Limits) (outcome : Outcome) (old new : Run) → CanEnd script limits old → due_outcome limits (state_of old.machine) ≡ Some outcome
    → Finished script outcome old new → Ends script limits old new
ends-finished script limits outcome old new can due ends =
    let is : seen_of script limits new ≡ with_entries (seen_of script limits old) (Entry.Finish outcome ∷ []) = seen-finished script limits outcome old new ends in
    record {
      is = is ∙ ap (λ o. with_entries (seen_of script limits old) (finish_by o)) (sym due);
      lawful = subst IsLawful (sym is) (lawful-finishes (seen_of script limits old) outcome can.kept.way due);
      rooms = finished-rooms script limits outcome old new can.kept.rooms can.kept.way.unfinished ends;
    }

-- nothing is due, and nothing changes
pub ends-none : (script : Script) (limits : Limits) (r : Run) → CanEnd script limits r → due_outcome limits (state_of r.machine) ≡ None → Ends script limits r r
ends-none script limits r can none = record {
  is = no-entries (seen_of script limits r) ∙ ap (λ o. with_entries (seen_of script limits r) (finish_by o)) (sym none);
  lawful = lawful-way (seen_of script limits r) can.kept.way none (can.calm none);
  rooms = can.kept.rooms;
}

-- how many goroutines there are at most
pub few-goroutines : (b : Inside) → IsKept b → length b.run.machine.goroutines.items ≤ 204097
few-goroutines b kept =
    let all : length b.run.machine.goroutines.items + b.run.machine.goroutines.spare ≡ most_goroutines b.script b.limits = kept.rooms.goroutines in
    let entries : b.limits.entries ≤ 200000 = kept.lawful.limits.most in
    let names : length b.script.decls ≤ 4096 = kept.lawful.good.few_names in
    let hooks : hook_count b.script ≤ length b.script.decls = count_by-le-length is_hook_decl b.script.decls in
    omega arith
