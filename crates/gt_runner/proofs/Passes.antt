-- One call of a goroutine, and what happens where nobody runs, keep a run.
use Rattle.std.proofs.Common.{◌≡◌, ◌≢◌, ℕ, ◌+◌, ◌<◌, List, [], ◌∷◌, ◌++◌, refl, sym, ap, subst, ◌∙◌, arith, None, Some, count_by, length, length-append, inl, inr}
use Rattle.gt_model.specs.declared.entry.Entry.{Entry}
use Rattle.gt_model.specs.declared.entry.Outcome.{Outcome}
use Rattle.gt_rules.specs.After.{first_state}
use Rattle.gt_rules.specs.Change.{change_of}
use Rattle.gt_rules.specs.History.{ClockJumps}
use Rattle.gt_book.specs.declared.step.Step.{Step}
use Rattle.gt_model.specs.declared.script.Case.{Case}
use Rattle.gt_model.specs.Tables.{numbered}
use Rattle.gt_schedule.specs.declared.status.RunStatus.{RunStatus}
use Rattle.gt_schedule.specs.Schedule.{Schedule, plainly, status_of, is_queued, queued_count, parked, parked_at, parked_cases}
use Rattle.gt_schedule.proofs.Cases.{waiting_at-statuses, waiting_at-marks, cases-statuses, cases-marks}
use Rattle.gt_model.specs.declared.script.Script.{Script}
use Rattle.gt_model.specs.declared.script.CaseKind.{CaseKind}
use Rattle.gt_rules.specs.State.{State}
use Rattle.gt_book.specs.Steps.{step_of}
use Rattle.gt_book.proofs.Going.{makes-call}
use Rattle.gt_book.specs.View.{BookView, Enters, IsLawful, with_entries, with_schedule}
use Rattle.gt_book.proofs.Passing.{jumps-append, enters-script, enters-limits, enters-jumps, enters-longer, enters-hands, parked_at-leaves_hand, parked_at-hands, parked_at-queued_count}
use Rattle.gt_runner.specs.Run.{HandsFree, IsAlone, Passes, Goes, Moves}

pub passes-enters : (old : BookView) (e : Entry) (new : BookView) → IsLawful old → Enters old e new → ClockJumps old.script 0 old.state e → HandsFree old → Passes old new
passes-enters old e new lawful enters clock free = record {
  script = enters-script old e new enters;
  limits = enters-limits old e new enters;
  jumps = enters-jumps old e new enters lawful.reached clock;
  hands = λ none g h. free g (enters-hands old e new g enters h);
  goes = inl (enters-longer old e new enters);
}

pub passes-deadlock : (old new : BookView) → new ≡ with_entries old (Entry.Finish Outcome.Deadlock ∷ []) → HandsFree old → Passes old new
passes-deadlock old new is free = subst (Passes old) (sym is) (record {
  script = refl;
  limits = refl;
  jumps = λ jumps. jumps-append old.script 0 (first_state old.script) old.history (Entry.Finish Outcome.Deadlock ∷ []) jumps (tt, tt);
  hands = λ none g h. free g h;
  goes = inl (let longer : length (old.history ++ Entry.Finish Outcome.Deadlock ∷ []) ≡ length old.history + 1 = length-append old.history (Entry.Finish Outcome.Deadlock ∷ []) in omega arith);
})

pub moves-enters : (old : BookView) (e : Entry) (new : BookView) → IsLawful old → Enters old e new → ClockJumps old.script 0 old.state e → HandsFree old → Moves old new
moves-enters old e new lawful enters clock free = record { passes = passes-enters old e new lawful enters clock free; longer = enters-longer old e new enters }

pub moves-deadlock : (old new : BookView) → new ≡ with_entries old (Entry.Finish Outcome.Deadlock ∷ []) → HandsFree old → Moves old new
moves-deadlock old new is free = record {
  passes = passes-deadlock old new is free;
  longer = subst (λ (v : BookView). length old.history < length v.history) (sym is)
      (let longer : length (old.history ++ Entry.Finish Outcome.Deadlock ∷ []) ≡ length old.history + 1 = length-append old.history (Entry.Finish Outcome.Deadlock ∷ []) in omega arith);
}

pub goes-enters : (old : BookView) (e : Entry) (new : BookView) (g : ℕ) → IsLawful old → Enters old e new → ClockJumps old.script 0 old.state e → IsAlone old g → Goes g old new
goes-enters old e new g lawful enters clock alone = record {
  script = enters-script old e new enters;
  limits = enters-limits old e new enters;
  jumps = enters-jumps old e new enters lawful.reached clock;
  hands = λ h is. alone.alone h (enters-hands old e new h enters is);
  goes = inl (enters-longer old e new enters);
}

-- ---- a goroutine was parked

-- nobody else's status changed, and no mark did
pub record WasParked (m n : Schedule) (g : ℕ) : Type 0 where
  pub statuses : n.statuses ≡ (parked m g).statuses
  pub marks : n.marks ≡ m.marks

pub was-parked_at : (m : Schedule) (g : ℕ) (kind : CaseKind) → WasParked m (parked_at m (plainly g) kind) g
was-parked_at m g kind = record { statuses = waiting_at-statuses (parked m g) (plainly g) kind; marks = waiting_at-marks (parked m g) (plainly g) kind }

pub was-parked_cases : (m : Schedule) (g : ℕ) (cases : List Case) → WasParked m (parked_cases m g cases) g
was-parked_cases m g cases = record { statuses = cases-statuses (parked m g) g 1 cases; marks = cases-marks (parked m g) g 1 cases }

-- where it waits is no matter to the statuses
pub parked-hands : (m n : Schedule) (g h : ℕ) → n.statuses ≡ (parked m g).statuses → status_of n h ≡ Some RunStatus.InHand → status_of m h ≡ Some RunStatus.InHand
parked-hands m n g h statuses e = parked_at-hands m (plainly g) (CaseKind.Recv 0) h (sym (ap (λ (xs : List RunStatus). numbered xs h) statuses) ∙ e)

pub parked-leaves_hand : (m n : Schedule) (g : ℕ) → n.statuses ≡ (parked m g).statuses → status_of m g ≡ Some RunStatus.InHand → status_of n g ≢ Some RunStatus.InHand
parked-leaves_hand m n g statuses e h =
    parked_at-leaves_hand m (plainly g) (CaseKind.Recv 0) e (sym (ap (λ (xs : List RunStatus). numbered xs g) statuses) ∙ h)

pub parked-queued_count : (m n : Schedule) (g : ℕ) → n.statuses ≡ (parked m g).statuses → status_of m g ≡ Some RunStatus.InHand → queued_count n ≡ queued_count m
parked-queued_count m n g statuses e =
    ap (count_by (λ (status : RunStatus). is_queued (Some status))) statuses ∙ parked_at-queued_count m (plainly g) (CaseKind.Recv 0) e

pub goes-waits : (old new : BookView) (g : ℕ) (n : Schedule) → new ≡ with_schedule old n → n.statuses ≡ (parked old.schedule g).statuses → IsAlone old g → Goes g old new
goes-waits old new g n is statuses alone = subst (Goes g old) (sym is) (record {
  script = refl;
  limits = refl;
  jumps = λ jumps. jumps;
  hands = λ h q. alone.alone h (parked-hands old.schedule n g h statuses q);
  goes = inr (refl, parked-queued_count old.schedule n g statuses alone.in_hand, parked-leaves_hand old.schedule n g statuses alone.in_hand);
})

-- no step moves a clock
no-clock : (script : Script) (s : State) (e : Entry) → (change_of e).clock ≡ None → ClockJumps script 0 s e
no-clock script s (Entry.Clock world to) h = cc
no-clock script s _ h = tt

pub makes-no_clock : (old : BookView) (g : ℕ) (e : Entry) → step_of old.script old.state old.schedule g ≡ Some (Step.Makes e) → ClockJumps old.script 0 old.state e
makes-no_clock old g e h = no-clock old.script old.state e (makes-call old.script old.state old.schedule g e h).clock
