-- What ends a run: the misuse of an object.
use Rattle.std.specs.Prelude.{ℕ, suc, ℤ, pos, negsuc, nat_lt, ◌+◌, ◌==◌, ◌&&◌, Bool, true, false, not, cond, is_some, is_none, List, [], ◌∷◌}
use Rattle.std.specs.declared.option.Option.{Option}
use Rattle.std.specs.declared.option.Option.TheVariants.{None, Some}
use Rattle.gt_model.specs.declared.script.Script.{Script}
use Rattle.gt_model.specs.Script.{is_ticker, mutex_of, parent_of, ctx_of}
use Rattle.gt_model.specs.declared.script.Instr.{Instr}
use Rattle.gt_model.specs.declared.script.Case.{Case}
use Rattle.gt_model.specs.declared.script.CaseKind.{CaseKind}
use Rattle.gt_model.specs.declared.entry.Reason.{Reason}
use Rattle.gt_model.specs.declared.state.Goroutine.{Goroutine}
use Rattle.gt_rules.specs.State.{State, stands, goroutine_at, timer_at, channel_at, is_made, is_closed, is_locked, counter_of, context_at, hook_at, is_registered}

-- the reason, if the test says so
abbrev pub when : Bool → Reason → Option Reason
when true reason = Some reason
when false reason = None

-- the first of two
abbrev pub or_else : Option Reason → Option Reason → Option Reason
or_else (Some reason) other = Some reason
or_else None other = other

-- the use of a channel that was not made, or was closed
abbrev pub open_fault : State → ℕ → Option Reason
open_fault s c = or_else (when (is_none (channel_at s c)) Reason.Unmade) (when (is_closed s c) Reason.Closed)

-- the misuse of the object of a case. That a channel is closed is none: then a send panics where it is chosen
abbrev pub case_fault : State → CaseKind → Option Reason
case_fault s (CaseKind.Recv o) = when (not (is_made s o)) Reason.Unmade
case_fault s (CaseKind.Send c v) = when (is_none (channel_at s c)) Reason.Unmade

-- the misuse of the first faulty case, and its number, where the first case has the number n
abbrev pub choice_fault : State → List Case → Option Reason
choice_fault s [] = None
choice_fault s (c ∷ cases) = or_else (case_fault s c.kind) (choice_fault s cases)

abbrev pub faulty_case : State → ℕ → List Case → ℕ
faulty_case s n [] = n
faulty_case s n (c ∷ cases) = cond (is_some (case_fault s c.kind)) n (faulty_case s (n + 1) cases)

-- a ticker without a time between its ticks (Go 1.23, package time: NewTicker and Reset panic where d is not above 0)
abbrev pub zero_ticker : Script → ℕ → ℕ → Option Reason
zero_ticker script t d = when (is_ticker script t && d == 0) Reason.Ticker

-- whether a number that is added brings a counter below 0
abbrev pub falls_below : ℕ → ℤ → Bool
falls_below counter (pos n) = false
falls_below counter (negsuc n) = nat_lt counter (suc n)

-- a counter below 0 (Go 1.23, package sync: "If the counter goes negative, Add panics")
abbrev pub negative : State → ℕ → ℤ → Option Reason
negative s w n = when (falls_below (counter_of s w) n) Reason.Negative

-- the use of a context that was not made
abbrev pub unmade_parent : State → Option ℕ → Option Reason
unmade_parent s None = None
unmade_parent s (Some x) = when (is_none (context_at s x)) Reason.Unmade

-- the first misuse of an instruction
abbrev pub fault : Script → State → Instr → Option Reason
fault script s (Instr.New t d) = or_else (when (is_some (timer_at s t)) Reason.Twice) (zero_ticker script t d)
fault script s (Instr.Stop t) = when (is_none (timer_at s t)) Reason.Unmade
fault script s (Instr.Reset t d) = or_else (when (is_none (timer_at s t)) Reason.Unmade) (zero_ticker script t d)
fault script s (Instr.Recv o) = when (not (is_made s o)) Reason.Unmade
fault script s (Instr.Make c) = when (is_some (channel_at s c)) Reason.Twice
fault script s (Instr.Send c v) = open_fault s c
fault script s (Instr.Close c) = open_fault s c
fault script s (Instr.Unlock m) = when (not (is_locked s m)) Reason.Unlocked
fault script s (Instr.CWait k) = when (not (is_locked s (mutex_of script k))) Reason.Unlocked
fault script s (Instr.Add w n) = negative s w n
fault script s (Instr.With x) = or_else (when (is_some (context_at s x)) Reason.Twice) (unmade_parent s (parent_of script x))
fault script s (Instr.Cancel x cause) = when (is_none (context_at s x)) Reason.Unmade
fault script s (Instr.ErrOf x) = when (is_none (context_at s x)) Reason.Unmade
fault script s (Instr.CauseOf x) = when (is_none (context_at s x)) Reason.Unmade
fault script s (Instr.After h) = or_else (when (is_registered (hook_at s h)) Reason.Twice) (unmade_parent s (ctx_of script h))
fault script s (Instr.Unhook h) = when (not (is_registered (hook_at s h))) Reason.Unmade
fault script s (Instr.Select cases default_to) = choice_fault s cases
fault script s _ = None

-- the case number of a misuse, which is 0 for a plain instruction
abbrev pub fault_case : State → Instr → ℕ
fault_case s (Instr.Select cases default_to) = faulty_case s 1 cases
fault_case s _ = 0

-- both
abbrev pub fault_at : Script → State → Instr → Option (ℕ × Reason)
fault_at script s i = elim (fault script s i) [ None ↦ None | Some reason ↦ Some (fault_case s i, reason) ]

-- the panic of a goroutine where it stands, if there is one
abbrev pub panic_of : Script → State → Goroutine → Option (ℕ × Reason)
panic_of script s r = elim (stands script r) [ None ↦ None | Some i ↦ fault_at script s i ]

abbrev pub panic_at : Script → State → ℕ → Option (ℕ × Reason)
panic_at script s g = elim (goroutine_at s g) [ None ↦ None | Some r ↦ panic_of script s r ]
