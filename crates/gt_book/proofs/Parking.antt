-- What a goroutine in hand does next may be done, and where it is parked a book keeps what a book keeps.
use Rattle.std.proofs.Common.{◌≡◌, ℕ, ◌<◌, length, sym, ap, ◌∙◌, subst, None, Some, List, IsTrue, get_or}
use Rattle.std.specs.List.{All}
use Rattle.gt_model.specs.declared.script.Case.{Case}
use Rattle.gt_model.specs.Good.{IsGoodChoice, OperatesRightly}
use Rattle.gt_model.proofs.GoodCode.{all_at}
use Rattle.gt_rules.specs.State.{stands_at}
use Rattle.gt_model.specs.declared.script.CaseKind.{CaseKind}
use Rattle.gt_model.specs.declared.entry.Entry.{Entry}
use Rattle.gt_machine.specs.Machine.{state_of}
use Rattle.gt_rules.specs.Legal.{May}
use Rattle.gt_schedule.specs.declared.scheduler.Scheduler.{Scheduler}
use Rattle.gt_schedule.specs.declared.status.RunStatus.{RunStatus}
use Rattle.gt_schedule.specs.Schedule.{plainly, object_of, status_of, parked_at, parked_cases, Served}
use Rattle.gt_schedule.specs.Scheduler.{schedule_of, capacity, IsScheduler}
use Rattle.gt_book.specs.declared.book.Book.TheInside.{Inside}
use Rattle.gt_book.specs.declared.step.Step.{Step}
use Rattle.gt_book.specs.Steps.{step_of, chooses, cases_of}
use Rattle.gt_book.specs.View.{BookView, outcome_of}
use Rattle.gt_book.specs.Book.{seen, IsKept}
use Rattle.gt_book.proofs.Calm.{CanPark, calm-parked_at, calm-parked_cases}
use Rattle.gt_book.proofs.Fitting.{fits-parked_at, fits-parked_cases}
use Rattle.gt_book.proofs.Going.{makes-may, makes-served, waits-parks}
use Rattle.gt_book.proofs.Scheduled.{with_scheduler, kept-scheduled}
use Rattle.gt_book.proofs.Resting.{CanChoose, parks-rightly, chooses-rightly, operates-declared}

-- ---- it makes its entry

pub may-seen : (b : Inside) (v : BookView) (g : ℕ) (e : Entry) → seen b ≡ v → IsKept b → outcome_of v ≡ None → status_of v.schedule g ≡ Some RunStatus.InHand
    → step_of v.script v.state v.schedule g ≡ Some (Step.Makes e) → May v.script v.state e
may-seen b v g e is kept =
    subst (λ (v : BookView). outcome_of v ≡ None → status_of v.schedule g ≡ Some RunStatus.InHand → step_of v.script v.state v.schedule g ≡ Some (Step.Makes e) → May v.script v.state e) is
    (λ none in_hand step. makes-may (seen b).script (seen b).state (seen b).schedule g e kept.lawful.good kept.lawful.formed kept.lawful.fits (kept.lawful.calm none) in_hand step)

pub served-seen : (b : Inside) (v : BookView) (g : ℕ) (e : Entry) → seen b ≡ v → IsKept b → outcome_of v ≡ None → status_of v.schedule g ≡ Some RunStatus.InHand
    → step_of v.script v.state v.schedule g ≡ Some (Step.Makes e) → Served v.schedule e
served-seen b v g e is kept =
    subst (λ (v : BookView). outcome_of v ≡ None → status_of v.schedule g ≡ Some RunStatus.InHand → step_of v.script v.state v.schedule g ≡ Some (Step.Makes e) → Served v.schedule e) is
    (λ none in_hand step. makes-served (seen b).script (seen b).state (seen b).schedule g e kept.lawful.good kept.lawful.formed kept.lawful.fits (kept.lawful.calm none) in_hand step)

-- ---- it waits

abbrev pub MayPark : Inside → ℕ → CaseKind → Type 0
MayPark b g kind = CanPark b.script (state_of b.run.machine) (schedule_of b.run.scheduler) g kind

pub waits-may : (b : Inside) (v : BookView) (g t : ℕ) → seen b ≡ v → IsKept b → status_of v.schedule g ≡ Some RunStatus.InHand
    → step_of v.script v.state v.schedule g ≡ Some (Step.Waits t) → MayPark b g (CaseKind.Recv t)
waits-may b v g t is kept in_hand step =
    waits-parks b.script (state_of b.run.machine) (schedule_of b.run.scheduler) g t kept.lawful.good kept.lawful.formed
    (subst (λ (v : BookView). status_of v.schedule g ≡ Some RunStatus.InHand) (sym is) in_hand)
    (subst (λ (v : BookView). step_of v.script v.state v.schedule g ≡ Some (Step.Waits t)) (sym is) step)

pub parks-may : (b : Inside) (v : BookView) (g : ℕ) (kind : CaseKind) → seen b ≡ v → IsKept b → status_of v.schedule g ≡ Some RunStatus.InHand
    → step_of v.script v.state v.schedule g ≡ Some (Step.Parks kind) → MayPark b g kind
parks-may b v g kind is kept in_hand step =
    parks-rightly b.script (state_of b.run.machine) (schedule_of b.run.scheduler) g kind kept.lawful.good kept.lawful.fits
    (subst (λ (v : BookView). status_of v.schedule g ≡ Some RunStatus.InHand) (sym is) in_hand)
    (subst (λ (v : BookView). step_of v.script v.state v.schedule g ≡ Some (Step.Parks kind)) (sym is) step)

pub park-declared : (b : Inside) (g : ℕ) (kind : CaseKind) → IsKept b → MayPark b g kind → object_of kind < length (schedule_of b.run.scheduler).receivers
park-declared b g kind kept may = subst (λ n. object_of kind < n) (sym kept.lawful.fits.receivers) may.waiter.declared

pub kept-parked : (b : Inside) (g : ℕ) (kind : CaseKind) (m : Scheduler) → IsKept b → MayPark b g kind → schedule_of m ≡ parked_at (schedule_of b.run.scheduler) (plainly g) kind
    → capacity m ≡ capacity b.run.scheduler → IsScheduler m → IsKept (with_scheduler b m)
kept-parked b g kind m kept may is places scheduler =
    kept-scheduled b m (parked_at (schedule_of b.run.scheduler) (plainly g) kind) kept is
    (fits-parked_at b.script (state_of b.run.machine) (schedule_of b.run.scheduler) g kind kept.lawful.fits may.waiter)
    (λ running. calm-parked_at b.script (state_of b.run.machine) (schedule_of b.run.scheduler) g kind kept.lawful.good may (kept.lawful.calm running))
    places scheduler

-- ---- it waits at the cases of its choice

abbrev pub MayChoose : Inside → ℕ → Type 0
MayChoose b g = CanChoose b.script (state_of b.run.machine) (schedule_of b.run.scheduler) g

pub chooses-may : (b : Inside) (v : BookView) (g : ℕ) → seen b ≡ v → IsKept b → IsTrue (chooses (step_of v.script v.state v.schedule g)) → MayChoose b g
chooses-may b v g is kept h =
    chooses-rightly b.script (state_of b.run.machine) (schedule_of b.run.scheduler) g kept.lawful.good kept.lawful.fits
    (subst (λ (v : BookView). IsTrue (chooses (step_of v.script v.state v.schedule g))) (sym is) h)

-- its cases are those of its instruction
pub chosen-cases : (b : Inside) (g : ℕ) (cases : List Case) → MayChoose b g → cases_of (stands_at b.script (state_of b.run.machine) g) ≡ cases → IsGoodChoice b.script cases None
chosen-cases b g cases may e = subst (λ xs. IsGoodChoice b.script xs None) (sym (ap cases_of may.stands) ∙ e) may.names

-- what they name has its lists
pub chosen-declared : (b : Inside) (g : ℕ) (cases : List Case) → IsKept b → IsGoodChoice b.script cases None
    → All (λ (c : Case). object_of c.kind < length (schedule_of b.run.scheduler).receivers) cases
chosen-declared b g cases kept names k d within =
    subst (λ n. object_of (get_or cases k d).kind < n) (sym kept.lawful.fits.receivers) (operates-declared b.script (get_or cases k d).kind (names.each k d within))

pub kept-chosen : (b : Inside) (v : BookView) (g : ℕ) (cases : List Case) (m : Scheduler) → seen b ≡ v → IsKept b → status_of v.schedule g ≡ Some RunStatus.InHand → MayChoose b g
    → cases_of (stands_at b.script (state_of b.run.machine) g) ≡ cases → schedule_of m ≡ parked_cases (schedule_of b.run.scheduler) g cases
    → capacity m ≡ capacity b.run.scheduler → IsScheduler m → IsKept (with_scheduler b m)
kept-chosen b v g cases m is kept in_hand may e schedule places scheduler =
    let same : may.cases ≡ cases = sym (ap cases_of may.stands) ∙ e in
    kept-scheduled b m (parked_cases (schedule_of b.run.scheduler) g may.cases) kept (schedule ∙ ap (parked_cases (schedule_of b.run.scheduler) g) (sym same))
    (fits-parked_cases b.script (state_of b.run.machine) (schedule_of b.run.scheduler) g may.cases None kept.lawful.fits (record {
      stands = may.stands;
      in_hand = subst (λ (v : BookView). status_of v.schedule g ≡ Some RunStatus.InHand) (sym is) in_hand;
      declared = λ k c there.
          operates-declared b.script c.kind (all_at (λ (c : Case). OperatesRightly b.script c.kind) may.cases k c may.names.each there);
    }))
    (λ running. calm-parked_cases b.script (state_of b.run.machine) (schedule_of b.run.scheduler) g may.cases kept.lawful.good may.waits (kept.lawful.calm running))
    places scheduler
