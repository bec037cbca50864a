-- The run that lets those go on who wait at an object, and an entry with those that it wakes.
use Rattle.std.proofs.Common.{◌≡◌, ℕ, ◌+◌, ◌-◌, ◌<◌, List, [], ◌∷◌, ◌++◌, length, eqb, refl, sym, ap, subst, ◌∙◌, arith, Option, None, Some, Bool, true, false, not, is_some}
use Rattle.std.proofs.lemmas.Bool.{eqb-true, eq-eqb}
use Rattle.gt_model.specs.declared.script.Script.{Script}
use Rattle.gt_model.specs.declared.entry.Entry.{Entry}
use Rattle.gt_model.specs.declared.entry.Limits.{Limits}
use Rattle.gt_model.specs.declared.entry.Outcome.{Outcome}
use Rattle.gt_rules.specs.Legal.{May}
use Rattle.gt_rules.specs.Finish.{IsRunning}
use Rattle.gt_rules.specs.History.{AllLegal, state_after}
use Rattle.gt_rules.specs.After.{after}
use Rattle.gt_rules.specs.Change.{change_of}
use Rattle.gt_machine.specs.Machine.{state_of, is_cut}
use Rattle.gt_machine.specs.Outcomes.{due_outcome}
use Rattle.gt_schedule.specs.Schedule.{Schedule, scheduled, Served}
use Rattle.gt_schedule.specs.Scheduler.{schedule_of}
use Rattle.gt_book.specs.declared.run.Run.{Run}
use Rattle.gt_book.specs.Woken.{next_woken, changed_object}
use Rattle.gt_book.specs.Calm.{IsCalm, IsCalmBut}
use Rattle.gt_book.specs.declared.book.Book.TheInside.{Inside}
use Rattle.gt_book.specs.Book.{seen, IsKept}
use Rattle.gt_book.specs.Run.{seen_of, IsKeptRun, CanMake, Makes, CanWake, Wakes, CanEnter, Entered, Ends}
use Rattle.gt_book.specs.View.{BookView, AreWoken, Enters, with_entries, finish_due, outcome_of}
use Rattle.gt_book.proofs.Firm.{nowhere, nowhere-calm}
use Rattle.gt_book.proofs.Calm.{calm-but, calm-entered, calm_but-again}
use Rattle.gt_book.proofs.Entering.{IsCounted, counted-May, legal-May, running-none, way-lawful, way-running, with_entries-more, no-entries, all_legal-more, woken-more}
use Rattle.gt_book.proofs.Waking.{IsWoken, is-woken, none-woken, declared}

-- ---- the run that lets them go on

-- so far some went on
pub record Woke (script : Script) (limits : Limits) (old now : Run) : Type 0 where
  pub woken : List Entry
  pub legal : AllLegal script limits (state_of old.machine) woken
  pub each_woken : AreWoken script (state_of old.machine) (schedule_of old.scheduler) woken
  pub is : seen_of script limits now ≡ with_entries (seen_of script limits old) woken

pub woke-first : (script : Script) (limits : Limits) (old now : Run) → seen_of script limits now ≡ seen_of script limits old → Woke script limits old now
woke-first script limits old now same = record { woken = []; legal = tt; each_woken = tt; is = same ∙ no-entries (seen_of script limits old) }

-- and one more
pub woke-more : (script : Script) (limits : Limits) (old now new : Run) (e : Entry) → IsRunning limits (state_of now.machine) → May script (state_of now.machine) e
    → AreWoken script (state_of now.machine) (schedule_of now.scheduler) (e ∷ []) → Woke script limits old now → Makes script limits now e new → Woke script limits old new
woke-more script limits old now new e running goes goes_woken w makes =
    let state : state_of now.machine ≡ (with_entries (seen_of script limits old) w.woken).state = ap (λ (b : BookView). b.state) w.is in
    let schedule : schedule_of now.scheduler ≡ (with_entries (seen_of script limits old) w.woken).schedule = ap (λ (b : BookView). b.schedule) w.is in
    let legal : AllLegal script limits (state_of now.machine) (e ∷ []) = (legal-May script limits (state_of now.machine) e running goes, tt) in
    record {
      woken = w.woken ++ e ∷ [];
      legal = all_legal-more script limits (state_of old.machine) w.woken (e ∷ []) w.legal (subst (λ s. AllLegal script limits s (e ∷ [])) state legal);
      each_woken = woken-more script (state_of old.machine) (schedule_of old.scheduler) w.woken (e ∷ []) w.each_woken
          (subst (λ s. AreWoken script s (with_entries (seen_of script limits old) w.woken).schedule (e ∷ [])) state
          (subst (λ m. AreWoken script (state_of now.machine) m (e ∷ [])) schedule goes_woken));
      is = makes.is ∙ (ap (λ b. with_entries b (e ∷ [])) w.is ∙ with_entries-more (seen_of script limits old) w.woken (e ∷ []));
    }

-- until nobody goes on any more
pub woke-calm : (script : Script) (limits : Limits) (old now : Run) → Woke script limits old now → IsKeptRun script limits now
    → (due_outcome limits (state_of now.machine) ≡ None → IsCalm script (state_of now.machine) (schedule_of now.scheduler)) → Wakes script limits old now
woke-calm script limits old now w kept calm = record { woken = w.woken; legal = w.legal; each_woken = w.each_woken; is = w.is; kept = kept; calm = calm }

-- or the run is to end
pub woke-due : (script : Script) (limits : Limits) (old now : Run) (outcome : Outcome) → Woke script limits old now → IsKeptRun script limits now
    → due_outcome limits (state_of now.machine) ≡ Some outcome → Wakes script limits old now
woke-due script limits old now outcome w kept due = woke-calm script limits old now w kept (λ none. let both : Some outcome ≡ None = sym due ∙ none in cc)

-- at an object
pub record Waking (script : Script) (limits : Limits) (old now : Run) (c : ℕ) : Type 0 where
  pub woke : Woke script limits old now
  pub can : CanWake script limits now c

pub waking-first : (script : Script) (limits : Limits) (r : Run) (c : ℕ) → CanWake script limits r c → Waking script limits r r c
waking-first script limits r c can = record { woke = woke-first script limits r r refl; can = can }

-- the object has its lists
pub record HasLists (m : Schedule) (c : ℕ) : Type 0 where
  pub receivers : c < length m.receivers
  pub senders : c < length m.senders

pub waking-lists : (script : Script) (limits : Limits) (old now : Run) (c : ℕ) → Waking script limits old now c → HasLists (schedule_of now.scheduler) c
waking-lists script limits old now c w =
    let within : c < length script.decls =
    declared script (state_of now.machine) (schedule_of now.scheduler) (λ o. eqb o c) c (eq-eqb c c refl) w.can.kept.way.sound.good w.can.kept.way.sound.formed w.can.kept.way.sound.fits w.can.but in
    record {
      receivers = subst (λ n. c < n) (sym w.can.kept.way.sound.fits.receivers) within;
      senders = subst (λ n. c < n) (sym w.can.kept.way.sound.fits.senders) within;
    }

pub waking-less : (script : Script) (limits : Limits) (now new : Run) (e : Entry) → CanMake script limits now e → Makes script limits now e new
    → limits.entries - new.machine.entries < limits.entries - now.machine.entries
waking-less script limits now new e can makes =
    let counted : IsCounted script (state_of now.machine) e = counted-May script (state_of now.machine) e can.may in
    let more : new.machine.entries ≡ now.machine.entries + 1 = ap (λ (b : BookView). b.state.entries) makes.is ∙ counted.more in
    let room : now.machine.entries < limits.entries = can.running.room in
    omega arith

module _ (script : Script) (limits : Limits) (old now : Run) (c : ℕ) (e : Entry) (w : Waking script limits old now c) (next : next_woken script (state_of now.machine) (schedule_of now.scheduler) c ≡ Some e)
    (none : due_outcome limits (state_of now.machine) ≡ None) where
  goes : IsWoken script (state_of now.machine) (schedule_of now.scheduler) (λ o. eqb o c) e
  goes = is-woken script (state_of now.machine) (schedule_of now.scheduler) (λ o. eqb o c) c (eq-eqb c c refl) w.can.kept.way.sound.good w.can.kept.way.sound.formed w.can.kept.way.sound.fits w.can.but e next

  running : IsRunning limits (state_of now.machine)
  running = way-running (seen_of script limits now) w.can.kept.way none

  pub waking-can : CanMake script limits now e
  waking-can = record { kept = w.can.kept; running = running; may = goes.may; served = goes.served }

  pub waking-alone : (change_of e).broadcast ≡ None
  waking-alone = goes.quiet

  pub waking-uncut : is_cut (change_of e).tree ≡ false
  waking-uncut = goes.uncut

  pub waking-more : (new : Run) → Makes script limits now e new → Waking script limits old new c
  waking-more new makes = record {
    woke = woke-more script limits old now new e running goes.may goes.woken w.woke makes;
    can = record {
      kept = makes.kept;
      but = subst (λ (b : BookView). IsCalmBut script b.state b.schedule (λ o. eqb o c)) (sym makes.is)
          (calm_but-again script (state_of now.machine) (schedule_of now.scheduler) e (λ o. eqb o c) w.can.kept.way.sound.good goes.may w.can.kept.way.sound.fits goes.served goes.here goes.alone goes.quiet w.can.but);
    };
  }

pub wakes-none : (script : Script) (limits : Limits) (old now : Run) (c : ℕ) → Waking script limits old now c → next_woken script (state_of now.machine) (schedule_of now.scheduler) c ≡ None
    → Wakes script limits old now
wakes-none script limits old now c w none =
    woke-calm script limits old now w.woke w.can.kept (λ due.
    nowhere-calm script (state_of now.machine) (schedule_of now.scheduler)
    (none-woken script (state_of now.machine) (schedule_of now.scheduler) (λ o. eqb o c) c (eq-eqb c c refl) w.can.kept.way.sound.good w.can.kept.way.sound.formed w.can.kept.way.sound.fits
    w.can.but nowhere (λ o less is. eqb-true o c is) (λ o h. cc) none))

pub wakes-due : (script : Script) (limits : Limits) (old now : Run) (c : ℕ) (outcome : Outcome) → Waking script limits old now c → due_outcome limits (state_of now.machine) ≡ Some outcome
    → Wakes script limits old now
wakes-due script limits old now c outcome w due = woke-due script limits old now outcome w.woke w.can.kept due

-- whether an outcome is due, by the test of it
pub none-due : (limits : Limits) (r : Run) (due : Option Outcome) (none : Bool) → due ≡ due_outcome limits (state_of r.machine) → is_some due ≡ not none → none ≡ true
    → due_outcome limits (state_of r.machine) ≡ None
none-due limits r None none is e h = sym is
none-due limits r (Some outcome) none is e h = let none_not : true ≡ not true = e ∙ ap not h in cc

pub some-due : (limits : Limits) (r : Run) (due : Option Outcome) (none : Bool) → due ≡ due_outcome limits (state_of r.machine) → is_some due ≡ not none → none ≡ false
    → (outcome : Outcome) × (due_outcome limits (state_of r.machine) ≡ Some outcome)
some-due limits r None none is e h = let some_not : false ≡ not false = e ∙ ap not h in cc
some-due limits r (Some outcome) none is e h = (outcome, sym is)

-- ---- an entry with those that it wakes

module _ (script : Script) (limits : Limits) (old mid : Run) (e : Entry) (can : CanEnter script limits old e) (makes : Makes script limits old e mid) where
  first-legal : AllLegal script limits (state_of old.machine) (e ∷ [])
  first-legal = (legal-May script limits (state_of old.machine) e can.can.running can.can.may, tt)

  state-is : state_of mid.machine ≡ after script (state_of old.machine) e
  state-is = ap (λ (b : BookView). b.state) makes.is

  schedule-is : schedule_of mid.scheduler ≡ scheduled (schedule_of old.scheduler) e
  schedule-is = ap (λ (b : BookView). b.schedule) makes.is

  pub entered-alone : changed_object script (change_of e) ≡ None → is_cut (change_of e).tree ≡ false → Entered script limits old e mid
  entered-alone none uncut = record {
    woken = [];
    legal = first-legal;
    each_woken = tt;
    is = makes.is;
    kept = makes.kept;
    calm = λ due. subst (λ (b : BookView). IsCalm script b.state b.schedule) (sym makes.is)
        (calm-entered script (state_of old.machine) (schedule_of old.scheduler) e can.can.kept.way.sound.good can.can.may can.can.kept.way.sound.fits can.can.served none uncut can.calm);
  }

  pub can-wake : (c : ℕ) → changed_object script (change_of e) ≡ Some c → CanWake script limits mid c
  can-wake c is = record {
    kept = makes.kept;
    but = subst (λ (b : BookView). IsCalmBut script b.state b.schedule (λ o. eqb o c)) (sym makes.is)
        (calm-but script (state_of old.machine) (schedule_of old.scheduler) e c can.can.kept.way.sound.good can.can.kept.way.sound.formed can.can.may can.can.kept.way.sound.fits can.can.served is can.calm);
  }

  pub entered-woken : (new : Run) → Wakes script limits mid new → Entered script limits old e new
  entered-woken new w = record {
    woken = w.woken;
    legal = (first-legal.0, subst (λ s. AllLegal script limits s w.woken) state-is w.legal);
    each_woken = subst (λ s. AreWoken script s (scheduled (schedule_of old.scheduler) e) w.woken) state-is
        (subst (λ m. AreWoken script (state_of mid.machine) m w.woken) schedule-is w.each_woken);
    is = w.is ∙ (ap (λ b. with_entries b w.woken) makes.is ∙ with_entries-more (seen_of script limits old) (e ∷ []) w.woken);
    kept = w.kept;
    calm = w.calm;
  }

-- ---- the book

-- a book in which an entry may come
pub can_enter-seen : (b : Inside) (v : BookView) (e : Entry) → seen b ≡ v → IsKept b → outcome_of v ≡ None → May v.script v.state e → Served v.schedule e
    → CanEnter b.script b.limits b.run e
can_enter-seen b v e is kept none may served =
    let unfinished : outcome_of (seen b) ≡ None = subst (λ (v : BookView). outcome_of v ≡ None) (sym is) none in
    record {
      can = record {
        kept = record { way = way-lawful (seen b) kept.lawful unfinished; rooms = kept.rooms };
        running = running-none (seen b) kept.lawful unfinished;
        may = subst (λ (v : BookView). May v.script v.state e) (sym is) may;
        served = subst (λ (v : BookView). Served v.schedule e) (sym is) served;
      };
      calm = kept.lawful.calm unfinished;
    }

pub kept-ends : (b : Inside) (mid new : Run) → Ends b.script b.limits mid new → IsKept (record { script = b.script; limits = b.limits; run = new })
kept-ends b mid new ends = record { lawful = ends.lawful; rooms = ends.rooms }

pub enters-ends : (b : Inside) (e : Entry) (mid new : Run) → Entered b.script b.limits b.run e mid → Ends b.script b.limits mid new
    → Enters (seen b) e (seen (record { script = b.script; limits = b.limits; run = new }))
enters-ends b e mid new entered ends = record {
  woken = entered.woken;
  legal = entered.legal;
  each_woken = entered.each_woken;
  is =
      let state : state_of mid.machine ≡ (with_entries (seen b) (e ∷ entered.woken)).state = ap (λ (v : BookView). v.state) entered.is in
      ends.is
      ∙ (ap (λ s. with_entries (seen_of b.script b.limits mid) (finish_due b.limits s)) state
      ∙ (ap (λ v. with_entries v (finish_due b.limits (state_after b.script (state_of b.run.machine) (e ∷ entered.woken)))) entered.is
      ∙ with_entries-more (seen b) (e ∷ entered.woken) (finish_due b.limits (state_after b.script (state_of b.run.machine) (e ∷ entered.woken)))));
}
