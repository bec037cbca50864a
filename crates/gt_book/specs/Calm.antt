-- Where nobody who is parked is firmly ready, but at some objects.
use Rattle.std.specs.Prelude.{ℕ, ◌<◌, ◌≡◌, Bool, true, false, is_none, length}
use Rattle.std.specs.declared.option.Option.{Option}
use Rattle.std.specs.declared.option.Option.TheVariants.{None, Some}
use Rattle.gt_model.specs.declared.script.Script.{Script}
use Rattle.gt_model.specs.declared.state.Mode.{Mode}
use Rattle.gt_model.specs.Script.{mutex_of}
use Rattle.gt_model.specs.declared.script.Instr.{Instr}
use Rattle.gt_model.specs.declared.script.CaseKind.{CaseKind}
use Rattle.gt_model.specs.declared.entry.Reason.{Reason}
use Rattle.gt_rules.specs.State.{State, mode_of, stands_at, is_locked}
use Rattle.gt_rules.specs.Panics.{case_fault, choice_fault}
use Rattle.gt_rules.specs.Legal.{operation_at}
use Rattle.gt_rules.specs.Ready.{has_partner, is_ready_alone, no_timer}
use Rattle.gt_schedule.specs.Schedule.{Schedule, at_case, object_of}
use Rattle.gt_book.specs.View.{is_waiting, is_firm_at}

-- nobody parked is firmly ready
abbrev pub IsCalm : Script → State → Schedule → Type 0
IsCalm script s m = (g : ℕ) → is_waiting m g ≡ true → is_firm_at script s m g ≡ false

-- Whether one that is parked may stand there: at operations, and at no choice with a default. Nobody stands at the bounds of a loop or at a jump
abbrev pub may_wait : Option Instr → Bool
may_wait None = true
may_wait (Some i) = elim i [
  | Instr.Recv o ↦ true
  | Instr.Send c v ↦ true
  | Instr.Lock m ↦ true
  | Instr.Wait w ↦ true
  | Instr.Select cases default_to ↦ is_none default_to
  | Instr.LoopTop depth count past ↦ true
  | Instr.LoopEnd depth top ↦ true
  | Instr.Jump to ↦ true
  | _ ↦ false
]

-- the misuse of an instruction that names what was not made. That a channel is closed is none here, and a mutex and a WaitGroup need not be made
abbrev pub unmade : State → Instr → Option Reason
unmade s (Instr.Recv o) = case_fault s (CaseKind.Recv o)
unmade s (Instr.Send c v) = case_fault s (CaseKind.Send c v)
unmade s (Instr.Select cases default_to) = choice_fault s cases
unmade s _ = None

-- Who is parked waits at operations on objects that may be used, and meets no partner who is parked; none of these is ready by itself but at some objects, which
-- are declared
pub record IsCalmBut (script : Script) (s : State) (m : Schedule) (but : ℕ → Bool) : Type 0 where
  pub waits : (g : ℕ) → is_waiting m g ≡ true → may_wait (stands_at script s g) ≡ true
  pub objects : (g : ℕ) (i : Instr) → is_waiting m g ≡ true → stands_at script s g ≡ Some i → unmade s i ≡ None
  pub partners : (g n : ℕ) (kind : CaseKind) → is_waiting m g ≡ true → operation_at script s (at_case g n) ≡ Some kind → has_partner script s (is_waiting m) g kind ≡ false
  pub others : (g n : ℕ) (kind : CaseKind) → is_waiting m g ≡ true → operation_at script s (at_case g n) ≡ Some kind → but (object_of kind) ≡ false
      → is_ready_alone script s no_timer kind ≡ false
  -- who was signalled at a Cond waits while its mutex is locked
  pub relocks : (g k : ℕ) → is_waiting m g ≡ true → mode_of s g ≡ Some (Mode.Relocking k) → but (mutex_of script k) ≡ false → is_locked s (mutex_of script k) ≡ true
  pub declared : (c : ℕ) → but c ≡ true → c < length script.decls
