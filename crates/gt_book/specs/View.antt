-- What a contract sees of a book.
use Rattle.std.specs.Prelude.{ℕ, zero, suc, ◌+◌, ◌<◌, ◌≡◌, ◌&&◌, cond, Bool, false, is_none, slice_get, IsTrue, MatchOption, List, [], ◌∷◌, ◌++◌, length, map}
use Rattle.std.specs.Option.{option_and_then}
use Rattle.std.specs.declared.option.Option.{Option}
use Rattle.std.specs.declared.option.Option.TheVariants.{None, Some}
use Rattle.gt_model.specs.declared.script.Script.{Script}
use Rattle.gt_model.specs.declared.entry.Entry.{Entry}
use Rattle.gt_model.specs.declared.entry.Party.{Party}
use Rattle.gt_model.specs.declared.script.Decl.{Decl}
use Rattle.gt_model.specs.declared.script.Instr.{Instr}
use Rattle.gt_model.specs.declared.script.Case.{Case}
use Rattle.gt_model.specs.declared.script.CaseKind.{CaseKind}
use Rattle.gt_model.specs.declared.entry.Limits.{Limits}
use Rattle.gt_model.specs.declared.entry.Outcome.{Outcome}
use Rattle.gt_model.specs.declared.state.Goroutine.{Goroutine}
use Rattle.gt_model.specs.declared.state.Mode.{Mode}
use Rattle.gt_rules.specs.State.{State, goroutine_at, stands_at}
use Rattle.gt_model.specs.Good.{IsGood, AreLimits}
use Rattle.gt_rules.specs.After.{after, first_state}
use Rattle.gt_rules.specs.Finish.{IsRunning}
use Rattle.gt_rules.specs.History.{AllLegal, state_after}
use Rattle.gt_facts.specs.Formed.{IsFormed}
use Rattle.gt_rules.specs.Ready.{is_firm}
use Rattle.gt_machine.specs.Outcomes.{outcome_in, due_outcome}
use Rattle.gt_rules.specs.Legal.{operation_at}
use Rattle.gt_model.specs.Script.{instr_at, mutex_of}
use Rattle.gt_rules.specs.Operations.{operation, receives_from, sends_to, offers}
use Rattle.gt_rules.specs.Change.{Change, change_of}
use Rattle.gt_rules.specs.declared.change.Move.{Move}
use Rattle.gt_schedule.specs.declared.status.RunStatus.{RunStatus}
use Rattle.gt_schedule.specs.Counts.{as_number, often}
use Rattle.gt_schedule.specs.Schedule.{Schedule, at_case, mutex_in, first_schedule, status_of, is_parked, parties_at, scheduled, schedule_after, RunsQueued}

pub record BookView : Type 0 where
  pub script : Script
  pub limits : Limits
  pub history : List Entry
  pub state : State  -- the state after the history
  pub schedule : Schedule

-- the book after these entries, and nothing else
abbrev pub with_entries : BookView → List Entry → BookView
with_entries b h = record b {
  history = b.history ++ h;
  state = state_after b.script b.state h;
  schedule = schedule_after b.schedule h;
}

abbrev pub with_schedule : BookView → Schedule → BookView
with_schedule b m = record b { schedule = m }

-- the outcome of the run, if it has one
abbrev pub outcome_of : BookView → Option Outcome
outcome_of b = outcome_in b.state.ending

-- the first state of a book
abbrev pub first_view : Script → Limits → BookView
first_view script limits = record {
  script = script;
  limits = limits;
  history = [];
  state = first_state script;
  schedule = first_schedule script;
}

abbrev pub finish_by : Option Outcome → List Entry
finish_by None = []
finish_by (Some outcome) = Entry.Finish outcome ∷ []

-- the finish that is due in a state
abbrev pub finish_due : Limits → State → List Entry
finish_due limits s = finish_by (due_outcome limits s)

-- the goroutine that goes on, or panics
abbrev pub goer : Option (ℕ × Move) → Option ℕ
goer None = None
goer (Some x) = elim x.1 [
  | Move.GoesOn case_no ↦ Some x.0
  | Move.FallsAsleep until ↦ None
  | Move.Suspends k ↦ None
  | Move.Relocks k ↦ None
  | Move.Ends ↦ None
  | Move.Panics ↦ Some x.0
]

-- whether a change is of one goroutine alone: it signals nobody, sets no timer, starts nobody, changes no context and moves no clock
abbrev pub is_own : Change → Bool
is_own c = is_none c.partner && is_none c.broadcast && is_none c.timer && is_none c.tree && is_none (slice_get c.starts 0) && is_none c.clock

-- the goroutine that makes an entry when it is woken: it goes on or panics, alone
abbrev pub maker : Entry → Option ℕ
maker e = cond (is_own (change_of e)) (goer (change_of e).mover) None

-- whether a goroutine is parked
abbrev pub is_waiting : Schedule → ℕ → Bool
is_waiting m g = is_parked (status_of m g)

-- whether a goroutine is firmly ready, where its partners count that are parked
abbrev pub is_firm_at : Script → State → Schedule → ℕ → Bool
is_firm_at script s m g = elim (goroutine_at s g) [ None ↦ false | Some r ↦ is_firm script s (is_waiting m) g r ]

-- Each entry is of a goroutine that was parked and is firmly ready there. It is parked no more after it, so it has one entry at most
abbrev pub AreWoken : Script → State → Schedule → List Entry → Type 0
AreWoken script s m [] = Unit {0}
AreWoken script s m (e ∷ h) = WokenBy script s m (maker e) × AreWoken script (after script s e) (scheduled m e) h
  where
    WokenBy : Script → State → Schedule → Option ℕ → Type 0
    WokenBy script s m None = ⊥
    WokenBy script s m (Some g) = IsTrue (is_waiting m g) × IsTrue (is_firm_at script s m g)

-- What a change by an entry is: that entry, the entries of the goroutines that it wakes, and the finish that is due then. The rest stays
pub record Enters (old : BookView) (e : Entry) (new : BookView) : Type 0 where
  pub woken : List Entry
  pub legal : AllLegal old.script old.limits old.state (e ∷ woken)
  pub each_woken : AreWoken old.script (after old.script old.state e) (scheduled old.schedule e) woken
  pub is : new ≡ with_entries old ((e ∷ woken) ++ finish_due old.limits (state_after old.script old.state (e ∷ woken)))

-- what a goroutine does agrees with where it is
abbrev pub Agrees : Mode → RunStatus → Type 0
Agrees Mode.At RunStatus.Queued = Unit {0}
Agrees Mode.At RunStatus.InHand = Unit {0}
Agrees Mode.At (RunStatus.Parked since) = Unit {0}
Agrees (Mode.Sleeping until) (RunStatus.Parked since) = Unit {0}
Agrees (Mode.Suspended k) (RunStatus.Parked since) = Unit {0}
Agrees (Mode.Relocking k) (RunStatus.Parked since) = Unit {0}
Agrees Mode.Ended RunStatus.Ended = Unit {0}
Agrees _ _ = ⊥

-- whether a party stands at an operation that passes a test
abbrev pub is_at : Script → State → Party → (CaseKind → Bool) → Bool
is_at script s p test = elim (operation_at script s p) [ None ↦ false | Some kind ↦ test kind ]

-- the number of the first case that passes a test, where the first one has the number n
abbrev pub first_case : (CaseKind → Bool) → ℕ → List Case → ℕ
first_case test n [] = n
first_case test n (c ∷ cases) = cond (test c.kind) n (first_case test (n + 1) cases)

-- the lowest number under which an instruction offers such an operation: 0 where it is a plain one
abbrev pub case_of : (CaseKind → Bool) → Option Instr → ℕ
case_of test None = 0
case_of test (Some i) = elim i [ Instr.Select cases default_to ↦ first_case test 1 cases | _ ↦ 0 ]

-- the party of a goroutine that receives from an object
abbrev pub receiver_of : Script → State → ℕ → ℕ → Party
receiver_of script s g o = at_case g (case_of (receives_from o) (stands_at script s g))

-- whether a goroutine stands at an instruction that receives from an object, plainly or as a case
abbrev pub stands_for : Script → State → ℕ → ℕ → Bool
stands_for script s g o = elim (stands_at script s g) [ None ↦ false | Some i ↦ offers (receives_from o) i ]

-- what a goroutine wants that is plain: nothing under the number of a case
abbrev pub wants_plainly : CaseKind → ℕ → Option CaseKind
wants_plainly kind zero = Some kind
wants_plainly kind (suc k) = None

-- what a party waits for: its operation; who is suspended a signal of its Cond. Who was signalled there waits for the Cond's mutex, where senders stand
abbrev pub wanted : Script → ℕ → Goroutine → Option CaseKind
wanted script case_no r = elim r.mode [
  | Mode.At ↦ option_and_then (λ (i : Instr). operation i case_no) (instr_at script r.place)
  | Mode.Sleeping until ↦ None
  | Mode.Suspended k ↦ wants_plainly (CaseKind.Recv k) case_no
  | Mode.Relocking k ↦ wants_plainly (CaseKind.Send (mutex_of script k) 0) case_no
  | Mode.Ended ↦ None
]

abbrev pub wanted_at : Script → State → Party → Option CaseKind
wanted_at script s p = option_and_then (wanted script p.case_no) (goroutine_at s p.g)

abbrev pub wants : Script → State → Party → (CaseKind → Bool) → Bool
wants script s p test = elim (wanted_at script s p) [ None ↦ false | Some kind ↦ test kind ]

-- whether a party is parked where it waits for what passes a test
abbrev pub is_parked_at : Script → State → Schedule → Party → (CaseKind → Bool) → Bool
is_parked_at script s m p test = is_waiting m p.g && wants script s p test

-- the schedule fits the state: the run queue has exactly those that are queued, and the lists at a declaration the parties that are parked there, each once
pub record Fits (script : Script) (s : State) (m : Schedule) : Type 0 where
  pub as_many : length m.statuses ≡ length s.goroutines
  pub mutexes : m.mutexes ≡ map (λ (d : Decl). mutex_in d.what) script.decls
  pub receivers : length m.receivers ≡ length script.decls
  pub senders : length m.senders ≡ length script.decls
  pub agree : (g : ℕ) (r : Goroutine) (status : RunStatus) → goroutine_at s g ≡ Some r → status_of m g ≡ Some status → Agrees r.mode status
  pub queued : RunsQueued m
  pub waiting : (t : ℕ) (p : Party) → t < length script.decls → often p (parties_at m.receivers t) ≡ as_number (is_parked_at script s m p (receives_from t))
  pub sending : (c : ℕ) (p : Party) → c < length script.decls → often p (parties_at m.senders c) ≡ as_number (is_parked_at script s m p (sends_to c))

-- no goroutine that is parked is firmly ready
abbrev pub NoneFirm : BookView → Type 0
NoneFirm b = (g : ℕ) → IsTrue (is_waiting b.schedule g) → is_firm_at b.script b.state b.schedule g ≡ false

-- What a book keeps: its history is legal, its state is the state after it, the run goes on or has its outcome, and until then
-- nobody is parked who could go on by another cause than a time
pub record IsLawful (b : BookView) : Type 0 where
  pub good : IsGood b.script
  pub limits : AreLimits b.limits
  pub legal : AllLegal b.script b.limits (first_state b.script) b.history
  pub reached : state_after b.script (first_state b.script) b.history ≡ b.state
  pub goes : MatchOption (outcome_of b) (IsRunning b.limits b.state) (λ outcome. Unit {0})
  pub formed : IsFormed b.script b.state
  pub fits : Fits b.script b.state b.schedule
  pub calm : outcome_of b ≡ None → NoneFirm b
