-- Which goroutines could go on.
use Rattle.std.specs.Prelude.{ℕ, ◌==◌, nat_le, nat_lt, Bool, true, false, not, ◌&&◌, ◌||◌, is_some, is_none}
use Rattle.std.specs.List.{list_any, enumerate_from}
use Rattle.std.specs.declared.option.Option.{Option}
use Rattle.std.specs.declared.option.Option.TheVariants.{None, Some}
use Rattle.gt_model.specs.declared.script.Script.{Script}
use Rattle.gt_model.specs.declared.script.Instr.{Instr}
use Rattle.gt_model.specs.declared.script.Case.{Case}
use Rattle.gt_model.specs.declared.script.CaseKind.{CaseKind}
use Rattle.gt_model.specs.declared.script.What.{What}
use Rattle.gt_model.specs.declared.state.Goroutine.{Goroutine}
use Rattle.gt_model.specs.declared.state.Mode.{Mode}
use Rattle.gt_model.specs.Script.{instr_at, what_at, is_chan, capacity_of, mutex_of}
use Rattle.gt_rules.specs.State.{State, clock, due_of, stands, item_count, is_closed, is_locked, is_done, has_ended}
use Rattle.gt_rules.specs.Operations.{receives_from, sends_to, offers, polls}
use Rattle.gt_rules.specs.Panics.{fault, panic_of}

-- whether an optional time is set and at or below a clock
abbrev pub is_due : Option ℕ → ℕ → Bool
is_due None now = false
is_due (Some due) now = nat_le due now

-- whether goroutine e.0, which is e.1, is a partner of `me`: another one that counts, makes no panic,
-- and stands at an operation that passes a test, where it would wait
abbrev pub is_partner : Script → State → (ℕ → Bool) → ℕ → (CaseKind → Bool) → ℕ × Goroutine → Bool
is_partner script s counts me test e =
    not (e.0 == me) && counts e.0 && is_none (panic_of script s e.1) && elim (stands script e.1) [ None ↦ false | Some i ↦ not (polls i) && offers test i ]

abbrev pub partner_waits : Script → State → (ℕ → Bool) → ℕ → (CaseKind → Bool) → Bool
partner_waits script s counts me test = list_any (is_partner script s counts me test) (enumerate_from 1 s.goroutines)

-- a channel that keeps no values passes them from one goroutine to another
abbrev pub has_partner : Script → State → (ℕ → Bool) → ℕ → CaseKind → Bool
has_partner script s counts me (CaseKind.Recv o) = is_chan script o && capacity_of script o == 0 && partner_waits script s counts me (sends_to o)
has_partner script s counts me (CaseKind.Send c v) = capacity_of script c == 0 && partner_waits script s counts me (receives_from c)

-- Ready by another cause than a partner: `timed` says whether the receive of a timer is
abbrev pub is_ready_recv : State → (ℕ → Bool) → ℕ → Option What → Bool
is_ready_recv s timed o None = false
is_ready_recv s timed o (Some What.Timer) = timed o
is_ready_recv s timed o (Some What.Ticker) = timed o
is_ready_recv s timed o (Some (What.AfterFunc func)) = false
is_ready_recv s timed o (Some (What.Chan cap)) = nat_lt 0 (item_count s o) || is_closed s o
is_ready_recv s timed o (Some What.Mutex) = not (is_locked s o)
is_ready_recv s timed o (Some What.Wg) = is_done s o
is_ready_recv s timed o (Some (What.Cond mutex)) = false
is_ready_recv s timed o (Some (What.Ctx parent form)) = has_ended s o
is_ready_recv s timed o (Some (What.Hook ctx func)) = false
is_ready_recv s timed o (Some What.Error) = false
is_ready_recv s timed o (Some What.Function) = false

abbrev pub is_ready_alone : Script → State → (ℕ → Bool) → CaseKind → Bool
is_ready_alone script s timed (CaseKind.Recv o) = is_ready_recv s timed o (what_at script o)
is_ready_alone script s timed (CaseKind.Send c v) = is_closed s c || nat_lt (item_count s c) (capacity_of script c)

abbrev pub is_ready_case : Script → State → (ℕ → Bool) → (ℕ → Bool) → ℕ → CaseKind → Bool
is_ready_case script s timed counts me kind = is_ready_alone script s timed kind || has_partner script s counts me kind

-- Whether goroutine `me` could go on that stands at this instruction and makes no panic. Nobody stands at the bounds of a loop or at a jump
abbrev pub is_ready_instr : Script → State → (ℕ → Bool) → (ℕ → Bool) → ℕ → Instr → Bool
is_ready_instr script s timed counts me (Instr.Recv o) = is_ready_case script s timed counts me (CaseKind.Recv o)
is_ready_instr script s timed counts me (Instr.Send c v) = is_ready_case script s timed counts me (CaseKind.Send c v)
is_ready_instr script s timed counts me (Instr.Lock m) = is_ready_case script s timed counts me (CaseKind.Recv m)
is_ready_instr script s timed counts me (Instr.Wait w) = is_ready_case script s timed counts me (CaseKind.Recv w)
is_ready_instr script s timed counts me (Instr.LoopTop depth count past) = false
is_ready_instr script s timed counts me (Instr.LoopEnd depth top) = false
is_ready_instr script s timed counts me (Instr.Jump to) = false
is_ready_instr script s timed counts me (Instr.Select cases default_to) =
    is_some default_to || list_any (λ (c : Case). is_ready_case script s timed counts me c.kind) cases
is_ready_instr script s timed counts me _ = true

-- the same of a place, where a misuse goes on by its panic
abbrev pub is_ready_at : Script → State → (ℕ → Bool) → (ℕ → Bool) → ℕ → Option Instr → Bool
is_ready_at script s timed counts me None = false
is_ready_at script s timed counts me (Some i) = is_some (fault script s i) || is_ready_instr script s timed counts me i

-- the timers whose time has come by the clock of world w
abbrev pub has_come : State → ℕ → ℕ → Bool
has_come s w t = is_due (due_of s t) (clock s w)

-- everyone, and no timer
abbrev pub everyone : ℕ → Bool
everyone g = true

abbrev pub no_timer : ℕ → Bool
no_timer t = false

abbrev pub is_ready_in : Script → State → ℕ → Goroutine → Mode → Bool
is_ready_in script s g r Mode.At = is_ready_at script s (has_come s r.world) everyone g (instr_at script r.place)
is_ready_in script s g r (Mode.Sleeping until) = nat_le until (clock s r.world)
is_ready_in script s g r (Mode.Suspended k) = false
is_ready_in script s g r (Mode.Relocking k) = not (is_locked s (mutex_of script k))
is_ready_in script s g r Mode.Ended = false

-- whether goroutine g, which is r, could go on
abbrev pub is_ready : Script → State → ℕ → Goroutine → Bool
is_ready script s g r = is_ready_in script s g r r.mode

-- Whether a goroutine that is parked is firmly ready: by another cause than the time of its sleep or the receive of a timer. Of its partners some count.
-- Sleeps and timers are served where time passes.
abbrev pub is_firm_in : Script → State → (ℕ → Bool) → ℕ → Goroutine → Mode → Bool
is_firm_in script s counts g r Mode.At = is_ready_at script s no_timer counts g (instr_at script r.place)
is_firm_in script s counts g r (Mode.Sleeping until) = false
is_firm_in script s counts g r (Mode.Suspended k) = false
is_firm_in script s counts g r (Mode.Relocking k) = not (is_locked s (mutex_of script k))
is_firm_in script s counts g r Mode.Ended = false

abbrev pub is_firm : Script → State → (ℕ → Bool) → ℕ → Goroutine → Bool
is_firm script s counts g r = is_firm_in script s counts g r r.mode
