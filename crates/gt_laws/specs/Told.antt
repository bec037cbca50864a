-- What the entries of a history tell so far, by what each changes: the machine's state is not named here.
use Rattle.std.specs.Prelude.{ℕ, ◌+◌, ◌==◌, ◌&&◌, cond, if◌then◌else◌, Bool, true, false, List, [], ◌∷◌, ◌++◌, length, map, filter, set, count_by, slice_index, slice_index_or}
use Rattle.std.specs.List.{fold, list_any, enumerate_from}
use Rattle.std.specs.declared.option.Option.{Option}
use Rattle.std.specs.declared.option.Option.TheVariants.{None, Some}
use Rattle.std.specs.Option.{option_map, option_and_then, unwrap_or}
use Rattle.gt_model.specs.declared.script.Script.{Script}
use Rattle.gt_model.specs.declared.script.Decl.{Decl}
use Rattle.gt_model.specs.declared.script.Instr.{Instr}
use Rattle.gt_model.specs.declared.script.Place.{Place}
use Rattle.gt_model.specs.declared.entry.Entry.{Entry}
use Rattle.gt_model.specs.declared.state.Ending.{Ending}
use Rattle.gt_model.specs.declared.context.HookState.{HookState}
use Rattle.gt_model.specs.Tables.{numbered, at, change, change_numbered}
use Rattle.gt_model.specs.Script.{instr_at, func_of, mutex_of, ctx_of, hook_func}
use Rattle.gt_model.specs.declared.script.CaseKind.{CaseKind}
use Rattle.gt_model.specs.declared.entry.Party.{Party}
use Rattle.gt_rules.specs.Places.{first_place, place_after}
use Rattle.gt_rules.specs.After.{added, duration_of, period_of}
use Rattle.gt_rules.specs.Contexts.{heeded, above, is_waiting_hook, unhooked}
use Rattle.gt_rules.specs.Operations.{operation, polls}
use Rattle.gt_rules.specs.declared.change.Move.{Move}
use Rattle.gt_rules.specs.declared.change.Setting.{Setting}
use Rattle.gt_rules.specs.declared.change.Start.{Start}
use Rattle.gt_rules.specs.declared.change.SyncStep.{SyncStep}
use Rattle.gt_rules.specs.declared.change.Trade.{Trade}
use Rattle.gt_rules.specs.declared.change.TreeStep.{TreeStep}
use Rattle.gt_rules.specs.Change.{Change, change_of}

-- what these entries make of v, each by its change
abbrev pub told : {V : Type 0} → (V → Change → V) → V → List Entry → V
told by v h = fold (λ v e. by v (change_of e)) v h

-- the clock of world w: the time of its last move
abbrev pub clock_by : ℕ → ℕ → Change → ℕ
clock_by w now c = elim c.clock [ None ↦ now | Some x ↦ if x.0 == w then x.1 else now ]

abbrev pub clock_told : ℕ → List Entry → ℕ
clock_told w h = told (clock_by w) 0 h

-- the due time of timer t: that of its last setting, if nothing ended it
abbrev pub due_set : Setting → Option ℕ
due_set (Setting.Made due) = Some due
due_set (Setting.SetAnew due) = Some due
due_set (Setting.Ended next) = next

abbrev pub due_by : ℕ → Option ℕ → Change → Option ℕ
due_by t due c = elim c.timer [ None ↦ due | Some x ↦ if x.0 == t then due_set x.1 else due ]

abbrev pub due_told : ℕ → List Entry → Option ℕ
due_told t h = told (due_by t) None h

-- whether timer t was made
abbrev pub makes : Setting → Bool → Bool
makes (Setting.Made due) was = true
makes (Setting.SetAnew due) was = was
makes (Setting.Ended next) was = was

abbrev pub made_by : ℕ → Bool → Change → Bool
made_by t was c = elim c.timer [ None ↦ was | Some x ↦ if x.0 == t then makes x.1 was else was ]

abbrev pub made_told : ℕ → List Entry → Bool
made_told t h = told (made_by t) false h

-- the values that were sent to channel k and kept there, the first one first
abbrev pub sends : Trade → List ℕ → List ℕ
sends Trade.Opened sent = sent
sends (Trade.Puts v) sent = sent ++ v ∷ []
sends Trade.Takes sent = sent
sends Trade.Shut sent = sent

abbrev pub sent_by : ℕ → List ℕ → Change → List ℕ
sent_by k sent c = elim c.channel [ None ↦ sent | Some x ↦ if x.0 == k then sends x.1 sent else sent ]

abbrev pub sent_told : ℕ → List Entry → List ℕ
sent_told k h = told (sent_by k) [] h

-- how many of them were received
abbrev pub takes : Trade → ℕ → ℕ
takes Trade.Opened taken = taken
takes (Trade.Puts v) taken = taken
takes Trade.Takes taken = taken + 1
takes Trade.Shut taken = taken

abbrev pub taken_by : ℕ → ℕ → Change → ℕ
taken_by k taken c = elim c.channel [ None ↦ taken | Some x ↦ if x.0 == k then takes x.1 taken else taken ]

abbrev pub taken_told : ℕ → List Entry → ℕ
taken_told k h = told (taken_by k) 0 h

-- whether channel k was made
abbrev pub opens : Trade → Bool → Bool
opens Trade.Opened was = true
opens (Trade.Puts v) was = was
opens Trade.Takes was = was
opens Trade.Shut was = was

abbrev pub opened_by : ℕ → Bool → Change → Bool
opened_by k was c = elim c.channel [ None ↦ was | Some x ↦ if x.0 == k then opens x.1 was else was ]

abbrev pub opened_told : ℕ → List Entry → Bool
opened_told k h = told (opened_by k) false h

-- whether channel k was closed
abbrev pub shuts : Trade → Bool → Bool
shuts Trade.Opened was = was
shuts (Trade.Puts v) was = was
shuts Trade.Takes was = was
shuts Trade.Shut was = true

abbrev pub closed_by : ℕ → Bool → Change → Bool
closed_by k was c = elim c.channel [ None ↦ was | Some x ↦ if x.0 == k then shuts x.1 was else was ]

abbrev pub closed_told : ℕ → List Entry → Bool
closed_told k h = told (closed_by k) false h

-- the mutex that a step locks or unlocks: that of the Cond, where a Cond is named
abbrev pub mutex_in : Script → ℕ → SyncStep → ℕ
mutex_in script o SyncStep.Locks = o
mutex_in script o SyncStep.Unlocks = o
mutex_in script o (SyncStep.Adds n) = o
mutex_in script o SyncStep.Releases = mutex_of script o
mutex_in script o SyncStep.Retakes = mutex_of script o

-- whether somebody has mutex m
abbrev pub holds : SyncStep → Bool → Bool
holds SyncStep.Locks was = true
holds SyncStep.Unlocks was = false
holds (SyncStep.Adds n) was = was
holds SyncStep.Releases was = false
holds SyncStep.Retakes was = true

abbrev pub held_by : Script → ℕ → Bool → Change → Bool
held_by script m was c = elim c.sync [ None ↦ was | Some x ↦ if mutex_in script x.0 x.1 == m then holds x.1 was else was ]

abbrev pub held_told : Script → ℕ → List Entry → Bool
held_told script m h = told (held_by script m) false h

-- the sum of what was added to WaitGroup w
abbrev pub adds : SyncStep → ℕ → ℕ
adds SyncStep.Locks counter = counter
adds SyncStep.Unlocks counter = counter
adds (SyncStep.Adds n) counter = added counter n
adds SyncStep.Releases counter = counter
adds SyncStep.Retakes counter = counter

abbrev pub counter_by : ℕ → ℕ → Change → ℕ
counter_by w counter c = elim c.sync [ None ↦ counter | Some x ↦ if x.0 == w then adds x.1 counter else counter ]

abbrev pub counter_told : ℕ → List Entry → ℕ
counter_told w h = told (counter_by w) 0 h

-- whether context x was made
abbrev pub derives : TreeStep → Bool → Bool
derives TreeStep.Derived was = true
derives TreeStep.Canceled was = was
derives TreeStep.Expired was = was
derives TreeStep.Registered was = was
derives TreeStep.Unhooked was = was

abbrev pub derived_by : ℕ → Bool → Change → Bool
derived_by x was c = elim c.tree [ None ↦ was | Some y ↦ if y.0 == x then derives y.1 was else was ]

abbrev pub derived_told : ℕ → List Entry → Bool
derived_told x h = told (derived_by x) false h

-- whether hook k was registered
abbrev pub registers : TreeStep → Bool → Bool
registers TreeStep.Derived was = was
registers TreeStep.Canceled was = was
registers TreeStep.Expired was = was
registers TreeStep.Registered was = true
registers TreeStep.Unhooked was = was

abbrev pub registered_by : ℕ → Bool → Change → Bool
registered_by k was c = elim c.tree [ None ↦ was | Some y ↦ if y.0 == k then registers y.1 was else was ]

abbrev pub registered_told : ℕ → List Entry → Bool
registered_told k h = told (registered_by k) false h

-- how a run ends: with main's function, with a panic, or with a finish that gives its outcome
abbrev pub ending_by : Ending → Change → Ending
ending_by ending c = unwrap_or c.ending ending

abbrev pub ending_told : List Entry → Ending
ending_told h = told ending_by Ending.Running h

-- how many entries count against the limit
abbrev pub entries_by : ℕ → Change → ℕ
entries_by n c = n + c.counted

abbrev pub entries_told : List Entry → ℕ
entries_told h = told entries_by 0 h

-- how many goroutines there are: main's, and one more at each start
abbrev pub started_by : ℕ → Change → ℕ
started_by n c = n + length c.starts

abbrev pub started_told : List Entry → ℕ
started_told h = told started_by 1 h

-- ---- all goroutines at once, since who is started has the world of who starts it

pub data Wait : Type 0 where
  awake : Wait
  asleep : ℕ → Wait
  -- at a Cond, until it is signalled; and then, until it has the mutex
  suspended : ℕ → Wait
  signalled : ℕ → Wait

-- a goroutine: its world, where it is in its code (nowhere after its end), and its wait
pub record ToldGoroutine : Type 0 where
  pub world : ℕ
  pub place : Option Place
  pub wait : Wait

-- a timer that was made: the world in which it was, and the time between its ticks, which is 0 but for a ticker
pub record ToldTimer : Type 0 where
  pub owner : ℕ
  pub period : ℕ

-- the goroutines by number, from 1; and by declaration the timers that were made, the worlds of the contexts that were, and what has become of the hooks
pub record Everyone : Type 0 where
  pub goroutines : List ToldGoroutine
  pub timers : List (Option ToldTimer)
  pub contexts : List (Option ℕ)
  pub hooks : List HookState

abbrev pub place_of : Option ToldGoroutine → Option Place
place_of None = None
place_of (Some r) = r.place

abbrev pub wait_of : Option ToldGoroutine → Wait
wait_of None = awake
wait_of (Some r) = r.wait

-- the instruction at which somebody stands: none where he sleeps or waits at a Cond, or is nowhere
abbrev pub stands_in : Script → Option Place → Wait → Option Instr
stands_in script place awake = option_and_then (instr_at script) place
stands_in script place (asleep until) = None
stands_in script place (suspended k) = None
stands_in script place (signalled k) = None

abbrev pub stands_of : Script → Option ToldGoroutine → Option Instr
stands_of script o = stands_in script (place_of o) (wait_of o)

abbrev pub owner_in : Option ToldTimer → ℕ
owner_in None = 0
owner_in (Some r) = r.owner

abbrev pub period_in : Option ToldTimer → ℕ
period_in None = 0
period_in (Some r) = r.period

abbrev pub world_in : Option ToldGoroutine → ℕ
world_in None = 0
world_in (Some r) = r.world

-- a call leads a goroutine to the place after its instruction, at a choice to the body of its case; a panic leads nowhere
abbrev pub led : Script → Move → ToldGoroutine → ToldGoroutine
led script (Move.GoesOn case_no) r = record r { place = option_map (place_after script case_no) r.place; wait = awake }
led script (Move.FallsAsleep until) r = record r { wait = asleep until }
led script (Move.Suspends k) r = record r { wait = suspended k }
led script (Move.Relocks k) r = record r { wait = signalled k }
led script Move.Ends r = record r { place = None; wait = awake }
led script Move.Panics r = r

abbrev pub with_led : Script → List ToldGoroutine → Option (ℕ × Move) → List ToldGoroutine
with_led script rs None = rs
with_led script rs (Some m) = change_numbered rs m.0 (led script m.1)

-- a broadcast signals all that wait at its Cond
abbrev pub woken : ℕ → Wait → Wait
woken k awake = awake
woken k (asleep until) = asleep until
woken k (suspended at) = if at == k then signalled k else suspended at
woken k (signalled at) = signalled at

abbrev pub waken : ℕ → ToldGoroutine → ToldGoroutine
waken k r = record r { wait = woken k r.wait }

abbrev pub with_woken : List ToldGoroutine → Option ℕ → List ToldGoroutine
with_woken rs None = rs
with_woken rs (Some k) = map (waken k) rs

-- who begins stands at the first place of its function
abbrev pub beginner : Script → ℕ → ℕ → ToldGoroutine
beginner script world f = record { world = world; place = Some (first_place script f); wait = awake }

-- whether the end of context x reaches context y: it is y, or one above it
abbrev pub reaches : Script → ℕ → ℕ → Bool
reaches script x y = list_any (λ z. z == x) (above (heeded script) y)

abbrev pub reaches_some : Script → ℕ → Option ℕ → Bool
reaches_some script x None = false
reaches_some script x (Some y) = reaches script x y

-- whether hook e.0, of which e.1 has become, waits on a context that the end of x reaches. A hook waits no more once its context has ended
abbrev pub is_hook_started : Script → ℕ → ℕ × HookState → Bool
is_hook_started script x e = is_waiting_hook e.1 && reaches_some script x (ctx_of script e.0)

-- the hooks that the end of x starts, in the order of their declarations
abbrev pub hooks_started : Script → List HookState → ℕ → List ℕ
hooks_started script hooks x = map (λ (e : ℕ × HookState). e.0) (filter (is_hook_started script x) (enumerate_from 0 hooks))

-- the world of a hook: that of its context
abbrev pub owner_of : List (Option ℕ) → Option ℕ → ℕ
owner_of contexts None = 0
owner_of contexts (Some x) = unwrap_or (at contexts x) 0

abbrev pub begun_hook : Script → Everyone → ℕ → ToldGoroutine
begun_hook script all k = beginner script (owner_of all.contexts (ctx_of script k)) (hook_func script k)

abbrev pub begun_by : Script → Everyone → Start → ToldGoroutine
begun_by script all (Start.ByGoroutine g f) = beginner script (world_in (numbered all.goroutines g)) f
begun_by script all (Start.ByTimer t) = beginner script (owner_in (at all.timers t)) (func_of script t)
begun_by script all (Start.ByHook k) = begun_hook script all k
begun_by script all (Start.ByEnd x i) = begun_hook script all (slice_index (hooks_started script all.hooks x) i)

-- a timer that somebody makes is of that one's world, and has the period of that one's instruction
abbrev pub mover_world : List ToldGoroutine → Option (ℕ × Move) → ℕ
mover_world rs None = 0
mover_world rs (Some m) = world_in (numbered rs m.0)

abbrev pub mover_stands : Script → List ToldGoroutine → Option (ℕ × Move) → Option Instr
mover_stands script rs None = None
mover_stands script rs (Some m) = stands_of script (numbered rs m.0)

abbrev pub period_by : Script → List ToldGoroutine → Option (ℕ × Move) → ℕ → ℕ
period_by script rs m t = period_of script t (duration_of (mover_stands script rs m))

abbrev pub with_period : ℕ → ToldTimer → ToldTimer
with_period period r = record r { period = period }

abbrev pub timed : Script → List ToldGoroutine → Option (ℕ × Move) → ℕ → List (Option ToldTimer) → Setting → List (Option ToldTimer)
timed script rs m t timers (Setting.Made due) = set timers t (Some (record { owner = mover_world rs m; period = period_by script rs m t }))
timed script rs m t timers (Setting.SetAnew due) = change timers t (option_map (with_period (period_by script rs m t)))
timed script rs m t timers (Setting.Ended next) = timers

abbrev pub with_timed : Script → List ToldGoroutine → Option (ℕ × Move) → List (Option ToldTimer) → Option (ℕ × Setting) → List (Option ToldTimer)
with_timed script rs m timers None = timers
with_timed script rs m timers (Some x) = timed script rs m x.0 timers x.1

-- a context that somebody makes is of that one's world
abbrev pub derive_in : ℕ → List (Option ℕ) → ℕ → TreeStep → List (Option ℕ)
derive_in w contexts x TreeStep.Derived = set contexts x (Some w)
derive_in w contexts x TreeStep.Canceled = contexts
derive_in w contexts x TreeStep.Expired = contexts
derive_in w contexts x TreeStep.Registered = contexts
derive_in w contexts x TreeStep.Unhooked = contexts

abbrev pub with_derived : ℕ → List (Option ℕ) → Option (ℕ × TreeStep) → List (Option ℕ)
with_derived w contexts None = contexts
with_derived w contexts (Some x) = derive_in w contexts x.0 x.1

-- a hook that somebody registers waits, or somebody starts by it at once
abbrev pub registered_as : List Start → HookState
registered_as [] = HookState.Waiting
registered_as (x ∷ xs) = HookState.Started

-- the end of context x starts the hooks that wait on it and on those that it reaches
abbrev pub at_end : Script → ℕ → ℕ × HookState → HookState
at_end script x e = cond (is_hook_started script x e) HookState.Started e.1

abbrev pub all_at_end : Script → ℕ → List HookState → List HookState
all_at_end script x hooks = map (at_end script x) (enumerate_from 0 hooks)

-- and a hook that waits is kept from being started by who takes it back
abbrev pub hooks_in : Script → List Start → List HookState → ℕ → TreeStep → List HookState
hooks_in script starts hooks x TreeStep.Derived = hooks
hooks_in script starts hooks x TreeStep.Canceled = all_at_end script x hooks
hooks_in script starts hooks x TreeStep.Expired = all_at_end script x hooks
hooks_in script starts hooks x TreeStep.Registered = change hooks x (λ was. registered_as starts)
hooks_in script starts hooks x TreeStep.Unhooked = change hooks x unhooked

abbrev pub with_hooks : Script → List Start → List HookState → Option (ℕ × TreeStep) → List HookState
with_hooks script starts hooks None = hooks
with_hooks script starts hooks (Some x) = hooks_in script starts hooks x.0 x.1

abbrev pub everyone_by : Script → Everyone → Change → Everyone
everyone_by script all c = record {
  goroutines = with_woken (with_led script (with_led script all.goroutines c.mover) c.partner) c.broadcast ++ map (begun_by script all) c.starts;
  timers = with_timed script all.goroutines c.mover all.timers c.timer;
  contexts = with_derived (mover_world all.goroutines c.mover) all.contexts c.tree;
  hooks = with_hooks script c.starts all.hooks c.tree;
}

abbrev pub everyone_first : Script → Everyone
everyone_first script = record {
  goroutines = beginner script 0 script.main ∷ [];
  timers = map (λ (d : Decl). None) script.decls;
  contexts = map (λ (d : Decl). None) script.decls;
  hooks = map (λ (d : Decl). HookState.Unregistered) script.decls;
}

abbrev pub everyone_told : Script → List Entry → Everyone
everyone_told script h = told (everyone_by script) (everyone_first script) h

abbrev pub goroutine_told : Script → ℕ → List Entry → Option ToldGoroutine
goroutine_told script g h = numbered (everyone_told script h).goroutines g

-- the world of goroutine g, the world of timer t, and the clock that g has
abbrev pub world_told : Script → ℕ → List Entry → ℕ
world_told script g h = world_in (goroutine_told script g h)

abbrev pub owner_told : Script → ℕ → List Entry → ℕ
owner_told script t h = owner_in (at (everyone_told script h).timers t)

-- the time between two ticks of timer t: that of its last setting
abbrev pub period_told : Script → ℕ → List Entry → ℕ
period_told script t h = period_in (at (everyone_told script h).timers t)

-- the world of context x
abbrev pub ctx_world_told : Script → ℕ → List Entry → ℕ
ctx_world_told script x h = owner_of (everyone_told script h).contexts (Some x)

-- what has become of hook k, and the hooks that the end of x starts
abbrev pub hook_told : Script → ℕ → List Entry → HookState
hook_told script k h = slice_index_or (everyone_told script h).hooks k HookState.Unregistered

abbrev pub starts_told : Script → ℕ → List Entry → List ℕ
starts_told script x h = hooks_started script (everyone_told script h).hooks x

abbrev pub now_told : Script → ℕ → List Entry → ℕ
now_told script g h = clock_told (world_told script g h) h

-- where goroutine g is, and its wait
abbrev pub place_told : Script → ℕ → List Entry → Option Place
place_told script g h = place_of (goroutine_told script g h)

abbrev pub wait_told : Script → ℕ → List Entry → Wait
wait_told script g h = wait_of (goroutine_told script g h)

-- the time until which it sleeps
abbrev pub until_in : Wait → Option ℕ
until_in awake = None
until_in (asleep until) = Some until
until_in (suspended k) = None
until_in (signalled k) = None

abbrev pub until_told : Script → ℕ → List Entry → Option ℕ
until_told script g h = until_in (wait_told script g h)

-- how many wait at Cond k until they are signalled
abbrev pub waits_in : ℕ → Wait → Bool
waits_in k awake = false
waits_in k (asleep until) = false
waits_in k (suspended at) = at == k
waits_in k (signalled at) = false

abbrev pub suspended_told : Script → ℕ → List Entry → ℕ
suspended_told script k h = count_by (λ (r : ToldGoroutine). waits_in k r.wait) (everyone_told script h).goroutines

-- the instruction at which it stands
abbrev pub stands_told : Script → ℕ → List Entry → Option Instr
stands_told script g h = stands_of script (goroutine_told script g h)

-- the operation at which a party stands, by its case number
abbrev pub operation_in : Option Instr → ℕ → Option CaseKind
operation_in None n = None
operation_in (Some i) n = operation i n

abbrev pub operation_told : Script → Party → List Entry → Option CaseKind
operation_told script p h = operation_in (stands_told script p.g h) p.case_no

-- whether a goroutine stands at a choice with a default
abbrev pub polls_in : Option Instr → Bool
polls_in None = false
polls_in (Some i) = polls i

abbrev pub polls_told : Script → ℕ → List Entry → Bool
polls_told script g h = polls_in (stands_told script g h)
