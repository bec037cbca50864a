-- The state after an entry.
use Rattle.std.specs.Prelude.{ℕ, Bool, suc, ℤ, pos, negsuc, ◌-◌, ◌+◌, cond, true, false, List, [], ◌∷◌, ◌++◌, drop, map, set, slice_index}
use Rattle.std.specs.declared.option.Option.{Option}
use Rattle.std.specs.declared.option.Option.TheVariants.{None, Some}
use Rattle.gt_model.specs.declared.script.Script.{Script}
use Rattle.gt_model.specs.declared.script.Decl.{Decl}
use Rattle.gt_model.specs.declared.script.Instr.{Instr}
use Rattle.gt_model.specs.declared.entry.Entry.{Entry}
use Rattle.gt_model.specs.declared.state.Goroutine.{Goroutine}
use Rattle.gt_model.specs.declared.state.Mode.{Mode}
use Rattle.gt_model.specs.declared.state.Timer.{Timer}
use Rattle.gt_model.specs.declared.state.Ending.{Ending}
use Rattle.gt_model.specs.Tables.{change, change_numbered}
use Rattle.gt_rules.specs.State.{State, Channel, stands_at, world_of, timer_at, unused, is_suspended}
use Rattle.gt_model.specs.Script.{func_of, is_ticker, mutex_of, hook_func}
use Rattle.gt_rules.specs.Places.{first_place, place_after}
use Rattle.gt_rules.specs.declared.change.Move.{Move}
use Rattle.gt_rules.specs.declared.change.Setting.{Setting}
use Rattle.gt_rules.specs.declared.change.Start.{Start}
use Rattle.gt_rules.specs.declared.change.Trade.{Trade}
use Rattle.gt_rules.specs.declared.change.SyncStep.{SyncStep}
use Rattle.gt_model.specs.declared.state.SyncState.{SyncState}
use Rattle.gt_model.specs.declared.context.Context.{Context}
use Rattle.gt_model.specs.declared.context.HookState.{HookState}
use Rattle.gt_rules.specs.declared.change.TreeStep.{TreeStep}
use Rattle.gt_rules.specs.Contexts.{made_context, cut_contexts, cut_hooks, cancel_end, named_by, expiry_end, starting, hook_world, registered, unhooked}
use Rattle.gt_rules.specs.Change.{Change, change_of}

abbrev pub in_mode : Mode → Goroutine → Goroutine
in_mode mode r = record r { mode = mode }

-- a goroutine moves on: to the place after an operation of its instruction
abbrev pub moved_on : Script → ℕ → Goroutine → Goroutine
moved_on script case_no r = record r { place = place_after script case_no r.place; mode = Mode.At }

abbrev pub moved : Script → Move → Goroutine → Goroutine
moved script (Move.GoesOn case_no) r = moved_on script case_no r
moved script (Move.FallsAsleep until) r = in_mode (Mode.Sleeping until) r
moved script (Move.Suspends k) r = in_mode (Mode.Suspended k) r
moved script (Move.Relocks k) r = in_mode (Mode.Relocking k) r
moved script Move.Ends r = in_mode Mode.Ended r
moved script Move.Panics r = r

-- a new goroutine at the beginning of function f
abbrev pub begun : Script → ℕ → ℕ → Goroutine
begun script w f = record { world = w; place = first_place script f; mode = Mode.At }

-- the time between two ticks, of a setting that was made with d: only a ticker ticks again
abbrev pub period_of : Script → ℕ → ℕ → ℕ
period_of script t d = cond (is_ticker script t) d 0

-- the duration of a `new` or `reset`
abbrev pub duration_of : Option Instr → ℕ
duration_of None = 0
duration_of (Some i) = elim i [ Instr.New t d ↦ d | Instr.Reset t d ↦ d | _ ↦ 0 ]

-- the period of the setting that g makes
abbrev pub new_period : Script → State → ℕ → ℕ → ℕ
new_period script s g t = period_of script t (duration_of (stands_at script s g))

abbrev pub set_due : Option ℕ → Option Timer → Option Timer
set_due due None = None
set_due due (Some r) = Some (record r { due = due })

abbrev pub set_again : ℕ → ℕ → Option Timer → Option Timer
set_again due period None = None
set_again due period (Some r) = Some (record r { due = Some due; period = period })

-- the number of who makes an entry; 0, which is nobody's, where nobody does
abbrev pub number_of : Option (ℕ × Move) → ℕ
number_of None = 0
number_of (Some m) = m.0

abbrev pub timer_world : State → ℕ → ℕ
timer_world s t = elim (timer_at s t) [ None ↦ 0 | Some r ↦ r.world ]

-- the timer after a change of it, by goroutine g of the change where somebody makes it
abbrev pub retimed : Script → State → Option (ℕ × Move) → ℕ → List (Option Timer) → Setting → List (Option Timer)
retimed script s mover t timers (Setting.Made due) =
    set timers t (Some (record { world = world_of s (number_of mover); due = Some due; period = new_period script s (number_of mover) t }))
retimed script s mover t timers (Setting.SetAnew due) = change timers t (set_again due (new_period script s (number_of mover) t))
retimed script s mover t timers (Setting.Ended due) = change timers t (set_due due)

abbrev pub option_or : {X : Type 0} → X → Option X → X
option_or x None = x
option_or x (Some y) = y

abbrev pub with_items : (List ℕ → List ℕ) → Option Channel → Option Channel
with_items f None = None
with_items f (Some r) = Some (record r { items = f r.items })

abbrev pub shut : Option Channel → Option Channel
shut None = None
shut (Some r) = Some (record r { closed = true })

-- what becomes of a channel, by somebody of world w
abbrev pub traded : ℕ → Trade → Option Channel → Option Channel
traded w Trade.Opened was = Some (record { world = w; items = []; closed = false })
traded w (Trade.Puts v) was = with_items (λ items. items ++ v ∷ []) was
traded w Trade.Takes was = with_items (drop 1) was
traded w Trade.Shut was = shut was

-- a counter to which a number is added, where that does not bring it below 0
abbrev pub added : ℕ → ℤ → ℕ
added counter (pos n) = counter + n
added counter (negsuc n) = counter - suc n

abbrev pub with_lock : Bool → SyncState → SyncState
with_lock locked was = record was { locked = locked }

-- a WaitGroup belongs to the world of its first `add`, and a Cond to that of its first `cwait`
abbrev pub owned : ℕ → SyncState → SyncState
owned w was = record was { world = Some (option_or w was.world) }

abbrev pub counted_on : ℤ → SyncState → SyncState
counted_on n was = record was { counter = added was.counter n }

-- what becomes of the mutexes, the WaitGroups and the Conds, by somebody of world w
abbrev pub stepped : Script → ℕ → List SyncState → ℕ → SyncStep → List SyncState
stepped script w syncs o SyncStep.Locks = change syncs o (with_lock true)
stepped script w syncs o SyncStep.Unlocks = change syncs o (with_lock false)
stepped script w syncs o (SyncStep.Adds n) = change syncs o (λ was. owned w (counted_on n was))
stepped script w syncs o SyncStep.Releases = change (change syncs (mutex_of script o) (with_lock false)) o (owned w)
stepped script w syncs o SyncStep.Retakes = change syncs (mutex_of script o) (with_lock true)

abbrev pub with_mover : Script → List Goroutine → Option (ℕ × Move) → List Goroutine
with_mover script gs None = gs
with_mover script gs (Some m) = change_numbered gs m.0 (moved script m.1)

-- a goroutine that is started has the world of who starts it
abbrev pub started_by : Script → State → Start → Goroutine
started_by script s (Start.ByGoroutine g f) = begun script (world_of s g) f
started_by script s (Start.ByTimer t) = begun script (timer_world s t) (func_of script t)
started_by script s (Start.ByHook h) = begun script (hook_world script s h) (hook_func script h)
started_by script s (Start.ByEnd x i) = let h : ℕ = slice_index (starting script s x) i in begun script (hook_world script s h) (hook_func script h)

abbrev pub with_starts : Script → State → List Goroutine → List Start → List Goroutine
with_starts script s gs [] = gs
with_starts script s gs (x ∷ xs) = with_starts script s (gs ++ started_by script s x ∷ []) xs

abbrev pub with_retimed : Script → State → Option (ℕ × Move) → List (Option Timer) → Option (ℕ × Setting) → List (Option Timer)
with_retimed script s mover timers None = timers
with_retimed script s mover timers (Some c) = retimed script s mover c.0 timers c.1

abbrev pub with_traded : State → Option (ℕ × Move) → List (Option Channel) → Option (ℕ × Trade) → List (Option Channel)
with_traded s mover channels None = channels
with_traded s mover channels (Some c) = change channels c.0 (traded (world_of s (number_of mover)) c.1)

abbrev pub with_stepped : Script → State → Option (ℕ × Move) → List SyncState → Option (ℕ × SyncStep) → List SyncState
with_stepped script s mover syncs None = syncs
with_stepped script s mover syncs (Some c) = stepped script (world_of s (number_of mover)) syncs c.0 c.1

-- who waits at a Cond is signalled, and waits for its mutex
abbrev pub signalled : ℕ → Goroutine → Goroutine
signalled k r = cond (is_suspended k r) (in_mode (Mode.Relocking k) r) r

abbrev pub with_signalled : List Goroutine → Option ℕ → List Goroutine
with_signalled gs None = gs
with_signalled gs (Some k) = map (signalled k) gs

abbrev pub with_clock : List ℕ → Option (ℕ × ℕ) → List ℕ
with_clock clocks None = clocks
with_clock clocks (Some c) = set clocks c.0 c.1

-- what becomes of the contexts, by somebody of world w who stands at an instruction
abbrev pub grown : Script → State → ℕ → Option Instr → ℕ → TreeStep → List (Option Context)
grown script s w i x TreeStep.Derived = set s.contexts x (Some (made_context script s w x))
grown script s w i x TreeStep.Canceled = cut_contexts script s x (cancel_end (named_by i))
grown script s w i x TreeStep.Expired = cut_contexts script s x (expiry_end script x)
grown script s w i x TreeStep.Registered = s.contexts
grown script s w i x TreeStep.Unhooked = s.contexts

-- and of the hooks
abbrev pub hooked : Script → State → ℕ → TreeStep → List HookState
hooked script s x TreeStep.Derived = s.hooks
hooked script s x TreeStep.Canceled = cut_hooks script s x
hooked script s x TreeStep.Expired = cut_hooks script s x
hooked script s x TreeStep.Registered = change s.hooks x (λ hook. registered script s x)
hooked script s x TreeStep.Unhooked = change s.hooks x unhooked

abbrev pub with_grown : Script → State → Option (ℕ × Move) → Option (ℕ × TreeStep) → List (Option Context)
with_grown script s mover None = s.contexts
with_grown script s mover (Some c) = grown script s (world_of s (number_of mover)) (stands_at script s (number_of mover)) c.0 c.1

abbrev pub with_hooked : Script → State → Option (ℕ × TreeStep) → List HookState
with_hooked script s None = s.hooks
with_hooked script s (Some c) = hooked script s c.0 c.1

-- the state after a change
abbrev pub changed : Script → State → Change → State
changed script s c = record {
  clocks = with_clock s.clocks c.clock;
  entries = s.entries + c.counted;
  goroutines = with_starts script s (with_signalled (with_mover script (with_mover script s.goroutines c.mover) c.partner) c.broadcast) c.starts;
  timers = with_retimed script s c.mover s.timers c.timer;
  channels = with_traded s c.mover s.channels c.channel;
  syncs = with_stepped script s c.mover s.syncs c.sync;
  contexts = with_grown script s c.mover c.tree;
  hooks = with_hooked script s c.tree;
  ending = option_or s.ending c.ending;
}

-- the state after an entry
abbrev pub after : Script → State → Entry → State
after script s e = changed script s (change_of e)

-- the first state: goroutine 1 stands at main's first place, and nothing is made
abbrev pub first_state : Script → State
first_state script = record {
  clocks = 0 ∷ [];
  entries = 0;
  goroutines = begun script 0 script.main ∷ [];
  timers = map (λ (d : Decl). None) script.decls;
  channels = map (λ (d : Decl). None) script.decls;
  syncs = map (λ (d : Decl). unused) script.decls;
  contexts = map (λ (d : Decl). None) script.decls;
  hooks = map (λ (d : Decl). HookState.Unregistered) script.decls;
  ending = Ending.Running;
}
