-- The state of the one-thread timer machine, and what is looked up in it.
use Rattle.std.specs.Prelude.{ℕ, ◌==◌, ◌+◌, Bool, true, false, not, is_some, ◌||◌, List, [], length, slice_index, slice_index_or, count_by}
use Rattle.std.specs.Option.{option_map}
use Rattle.std.specs.declared.option.Option.{Option}
use Rattle.std.specs.declared.option.Option.TheVariants.{None, Some}
use Rattle.gt_model.specs.declared.script.Script.{Script}
use Rattle.gt_model.specs.declared.script.Instr.{Instr}
use Rattle.gt_model.specs.declared.state.Goroutine.{Goroutine}
use Rattle.gt_model.specs.declared.state.Mode.{Mode}
use Rattle.gt_model.specs.declared.state.Timer.{Timer}
use Rattle.gt_model.specs.declared.state.Ending.{Ending}
use Rattle.gt_model.specs.declared.state.SyncState.{SyncState}
use Rattle.gt_model.specs.declared.context.Context.{Context}
use Rattle.gt_model.specs.declared.context.End.{End}
use Rattle.gt_model.specs.declared.context.HookState.{HookState}
use Rattle.gt_model.specs.Tables.{numbered, at}
use Rattle.gt_model.specs.Script.{instr_at}

-- a channel that was made
pub record Channel : Type 0 where
  pub world : ℕ  -- where it was made
  pub items : List ℕ  -- what was sent and not yet received, the first one first
  pub closed : Bool

pub record State : Type 0 where
  pub clocks : List ℕ  -- by world: the program is world 0
  pub entries : ℕ  -- how many came before, the end of the run not counted
  pub goroutines : List Goroutine  -- by number, from 1
  pub timers : List (Option Timer)  -- by declaration; none is unmade
  pub channels : List (Option Channel)  -- by declaration; none is unmade
  pub syncs : List SyncState  -- by declaration: what there is of a mutex, of a WaitGroup or of a Cond
  pub contexts : List (Option Context)  -- by declaration; none is unmade
  pub hooks : List HookState  -- by declaration: what has become of a hook
  pub ending : Ending

abbrev pub goroutine_at : State → ℕ → Option Goroutine
goroutine_at s g = numbered s.goroutines g

abbrev pub mode_of : State → ℕ → Option Mode
mode_of s g = option_map (λ (r : Goroutine). r.mode) (goroutine_at s g)

-- the clock of a world
abbrev pub clock : State → ℕ → ℕ
clock s w = slice_index s.clocks w

-- the world of a goroutine, and its clock
abbrev pub world_of : State → ℕ → ℕ
world_of s g = elim (goroutine_at s g) [ None ↦ 0 | Some r ↦ r.world ]

abbrev pub clock_of : State → ℕ → ℕ
clock_of s g = clock s (world_of s g)

-- the instruction at which a goroutine stands: none where its mode is another than At
abbrev pub stands : Script → Goroutine → Option Instr
stands script r = elim r.mode [ Mode.At ↦ instr_at script r.place | _ ↦ None ]

abbrev pub stands_at : Script → State → ℕ → Option Instr
stands_at script s g = elim (goroutine_at s g) [ None ↦ None | Some r ↦ stands script r ]

-- the time until which a goroutine sleeps
abbrev pub until_of : Mode → Option ℕ
until_of (Mode.Sleeping until) = Some until
until_of _ = None

abbrev pub sleeps_until : State → ℕ → Option ℕ
sleeps_until s g = elim (mode_of s g) [ None ↦ None | Some mode ↦ until_of mode ]

-- the Cond at which a goroutine waits to be signalled, and the one at which it was, while it waits for the mutex
abbrev pub suspended_at : Mode → Option ℕ
suspended_at (Mode.Suspended k) = Some k
suspended_at _ = None

abbrev pub relocking_at : Mode → Option ℕ
relocking_at (Mode.Relocking k) = Some k
relocking_at _ = None

abbrev pub is_suspended : ℕ → Goroutine → Bool
is_suspended k r = elim (suspended_at r.mode) [ None ↦ false | Some at ↦ at == k ]

-- how many wait at a Cond to be signalled
abbrev pub suspended_count : State → ℕ → ℕ
suspended_count s k = count_by (is_suspended k) s.goroutines

-- the number of the next goroutine
abbrev pub next_number : State → ℕ
next_number s = length s.goroutines + 1

abbrev pub timer_at : State → ℕ → Option Timer
timer_at s t = at s.timers t

abbrev pub due_of : State → ℕ → Option ℕ
due_of s t = elim (timer_at s t) [ None ↦ None | Some r ↦ r.due ]

-- the time between two ticks of a timer
abbrev pub period_at : State → ℕ → ℕ
period_at s t = elim (timer_at s t) [ None ↦ 0 | Some r ↦ r.period ]

abbrev pub channel_at : State → ℕ → Option Channel
channel_at s c = at s.channels c

-- the values that a channel keeps, and how many
abbrev pub items_of : State → ℕ → List ℕ
items_of s c = elim (channel_at s c) [ None ↦ [] | Some r ↦ r.items ]

abbrev pub item_count : State → ℕ → ℕ
item_count s c = length (items_of s c)

-- a channel that was closed, and one that was made and not closed
abbrev pub is_closed : State → ℕ → Bool
is_closed s c = elim (channel_at s c) [ None ↦ false | Some r ↦ r.closed ]

abbrev pub is_open : State → ℕ → Bool
is_open s c = elim (channel_at s c) [ None ↦ false | Some r ↦ not r.closed ]

-- what there is of a mutex, a WaitGroup or a Cond before the first call: its zero value is ready for use
abbrev pub unused : SyncState
unused = record { locked = false; counter = 0; world = None }

abbrev pub sync_at : State → ℕ → SyncState
sync_at s o = slice_index_or s.syncs o unused

abbrev pub is_locked : State → ℕ → Bool
is_locked s m = (sync_at s m).locked

abbrev pub counter_of : State → ℕ → ℕ
counter_of s w = (sync_at s w).counter

-- nobody has to wait for the WaitGroup
abbrev pub is_done : State → ℕ → Bool
is_done s w = counter_of s w == 0

-- what is kept of a context, its end, and its own deadline
abbrev pub context_at : State → ℕ → Option Context
context_at s x = at s.contexts x

abbrev pub end_at : State → ℕ → Option End
end_at s x = elim (context_at s x) [ None ↦ None | Some r ↦ r.end ]

abbrev pub has_ended : State → ℕ → Bool
has_ended s x = is_some (end_at s x)

abbrev pub own_at : State → ℕ → Option ℕ
own_at s x = elim (context_at s x) [ None ↦ None | Some r ↦ r.own ]

abbrev pub hook_at : State → ℕ → HookState
hook_at s h = slice_index_or s.hooks h HookState.Unregistered

-- a hook that was registered
abbrev pub is_registered : HookState → Bool
is_registered HookState.Unregistered = false
is_registered HookState.Waiting = true
is_registered HookState.Started = true
is_registered HookState.Stopped = true

-- one that was started
abbrev pub is_started : HookState → Bool
is_started HookState.Unregistered = false
is_started HookState.Waiting = false
is_started HookState.Started = true
is_started HookState.Stopped = false

-- a timer, a channel or a context that was made
abbrev pub is_made : State → ℕ → Bool
is_made s o = is_some (timer_at s o) || is_some (channel_at s o) || is_some (context_at s o)
