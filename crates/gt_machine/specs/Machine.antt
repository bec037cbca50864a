-- The state that a machine's fields mean.
use Rattle.std.specs.Prelude.{◌≡◌, ℕ, ◌<◌, ◌≤◌, ◌+◌, ◌-◌, ◌^◌, ◌≢◌, Bool, true, false, IsSome, IfSome, IsSomeAnd, List, [], ◌∷◌, ◌++◌, length, map, slice_get}
use Rattle.std.specs.Option.{option_map}
use Rattle.std.specs.declared.option.Option.{Option}
use Rattle.std.specs.declared.option.Option.TheVariants.{None, Some}
use Rattle.gt_model.specs.declared.script.Script.{Script}
use Rattle.gt_model.specs.declared.script.Decl.{Decl}
use Rattle.gt_model.specs.declared.script.What.{What}
use Rattle.gt_model.specs.declared.script.Instr.{Instr}
use Rattle.gt_model.specs.declared.script.Case.{Case}
use Rattle.gt_model.specs.declared.entry.Reason.{Reason}
use Rattle.gt_model.specs.Good.{most_cases, IsAddable}
use Rattle.gt_model.specs.Script.{mutex_of}
use Rattle.gt_rules.specs.Panics.{case_fault}
use Rattle.gt_model.specs.declared.state.Goroutine.{Goroutine}
use Rattle.gt_model.specs.declared.state.Timer.{Timer}
use Rattle.gt_rules.specs.declared.change.Setting.{Setting}
use Rattle.gt_rules.specs.declared.change.Trade.{Trade}
use Rattle.gt_rules.specs.declared.change.SyncStep.{SyncStep}
use Rattle.gt_rules.specs.declared.change.TreeStep.{TreeStep}
use Rattle.gt_model.specs.declared.context.Context.{Context}
use Rattle.gt_model.specs.declared.context.HookState.{HookState}
use Rattle.gt_model.specs.Times.{greatest_time}
use Rattle.gt_ctx.specs.declared.decl.CtxDecl.{CtxDecl}
use Rattle.gt_ctx.specs.Decls.{decl_at, decls_of, is_context, parent_by}
use Rattle.gt_ctx.specs.Contents.{context_at, hook_at, world_at}
use Rattle.gt_ctx.specs.Calls.{ctx_of}
use Rattle.gt_model.specs.declared.state.SyncState.{SyncState}
use Rattle.gt_rules.specs.After.{set_due, set_again}
use Rattle.gt_model.specs.Tables.{numbered, flatten}
use Rattle.gt_rules.specs.State.{State, Channel}
use Rattle.gt_chan.specs.Channel as chan
use Rattle.gt_machine.specs.declared.machine.Machine.{Machine}

-- the channel that a machine's one means, by its world, its items and whether it is closed: none while it is unmade
abbrev pub channel_by : Option ℕ → List ℕ → Bool → Option Channel
channel_by None items closed = None
channel_by (Some world) items closed = Some (record { world = world; items = items; closed = closed })

abbrev pub channel_of : chan.Channel → Option Channel
channel_of ch = channel_by ch.world ch.items ch.closed

abbrev pub state_of : Machine → State
state_of m = record {
  clocks = m.clocks.items;
  entries = m.entries;
  goroutines = m.goroutines.items;
  timers = m.timers.items;
  channels = map channel_of m.channels.items;
  syncs = m.syncs.items;
  contexts = m.ctxs.contexts;
  hooks = m.ctxs.hooks;
  ending = m.ending;
}

-- how many values a declaration's channel keeps at most; what is no channel keeps none
abbrev pub capacity_in : What → ℕ
capacity_in (What.Chan cap) = cap
capacity_in _ = 0

abbrev pub capacities : List chan.Channel → List ℕ
capacities chs = map (λ (ch : chan.Channel). ch.capacity) chs

-- there is one channel for each declaration, in their order, and it has the capacity that is declared
pub record HasChannels (script : Script) (m : Machine) : Type 0 where
  pub declared : capacities m.channels.items ≡ map (λ (d : Decl). capacity_in d.what) script.decls

-- the contexts and the hooks are those of the script, and whoever an end started has begun
pub record HasContexts (script : Script) (m : Machine) : Type 0 where
  pub declared : m.ctxs.decls ≡ decls_of script.decls
  pub begun : m.ctxs.started ≡ []

-- the contexts that the last cut ended
abbrev pub ended_of : Machine → List ℕ
ended_of m = m.ctxs.ended

-- whether contexts end by a change
abbrev pub is_cut : Option (ℕ × TreeStep) → Bool
is_cut None = false
is_cut (Some x) = elim x.1 [
  | TreeStep.Derived ↦ false
  | TreeStep.Canceled ↦ true
  | TreeStep.Expired ↦ true
  | TreeStep.Registered ↦ false
  | TreeStep.Unhooked ↦ false
]

-- a context that may be made by somebody of a world with this clock
pub record IsDerivable (decls : List CtxDecl) (contexts : List (Option Context)) (world now x : ℕ) : Type 0 where
  pub context : is_context (decl_at decls x) ≡ true
  pub fresh : context_at contexts x ≡ None
  pub parent : IfSome (parent_by (decl_at decls x)) (λ p. world_at contexts p ≡ Some world)
  pub time : now ≤ greatest_time

-- a context or a hook of which this may become, and no end
abbrev pub IsGrowable : List CtxDecl → List (Option Context) → List HookState → ℕ → ℕ → ℕ → TreeStep → Type 0
IsGrowable decls contexts hooks world now x TreeStep.Derived = IsDerivable decls contexts world now x
IsGrowable decls contexts hooks world now x TreeStep.Canceled = ⊥
IsGrowable decls contexts hooks world now x TreeStep.Expired = ⊥
IsGrowable decls contexts hooks world now x TreeStep.Registered = IsSome (ctx_of decls x) × (hook_at hooks x ≡ HookState.Unregistered)
IsGrowable decls contexts hooks world now x TreeStep.Unhooked = hook_at hooks x ≢ HookState.Unregistered

-- a goroutine that is there, at a place that leaves room to move on
abbrev pub IsInside : List Goroutine → ℕ → Type 0
IsInside gs g = IsSomeAnd (numbered gs g) (λ r. r.place.at < 2 ^ 32 - 1)

-- the goroutines, and one more where one begins
abbrev pub with_new : List Goroutine → Option Goroutine → List Goroutine
with_new gs None = gs
with_new gs (Some r) = gs ++ r ∷ []

-- what becomes of one timer, by somebody of this world whose setting has this period
abbrev pub retimed_in : ℕ → ℕ → Setting → Option Timer → Option Timer
retimed_in world period (Setting.Made due) was = Some (record { world = world; due = Some due; period = period })
retimed_in world period (Setting.SetAnew due) was = set_again due period was
retimed_in world period (Setting.Ended due) was = set_due due was

-- A channel of which this may become: it is made once, and used once it is made; one that keeps one item more is open and has room for it
abbrev pub MayTrade : Trade → chan.Channel → Type 0
MayTrade Trade.Opened ch = ch.world ≡ None
MayTrade (Trade.Puts v) ch = IsSome ch.world × (ch.closed ≡ false) × (length ch.items < ch.capacity)
MayTrade Trade.Takes ch = IsSome ch.world
MayTrade Trade.Shut ch = IsSome ch.world

-- the channel at this place is one
abbrev pub IsTradable : List chan.Channel → ℕ → Trade → Type 0
IsTradable chs c trade = IsSomeAnd (slice_get chs c) (MayTrade trade)

-- what may be added to a counter: a million entries' worth is far below its greatest value
abbrev pub MayStep : SyncStep → ℕ → Type 0
MayStep SyncStep.Locks counter = Unit {0}
MayStep SyncStep.Unlocks counter = Unit {0}
MayStep (SyncStep.Adds n) counter = (counter ≤ 200000000000) × IsAddable n
MayStep SyncStep.Releases counter = Unit {0}
MayStep SyncStep.Retakes counter = Unit {0}

-- there is one at this place, and a mutex where it is a Cond, and this may become of it
pub record IsSteppable (script : Script) (syncs : List SyncState) (o : ℕ) (step : SyncStep) : Type 0 where
  pub may : IsSomeAnd (slice_get syncs o) (λ s. MayStep step s.counter)
  pub mutex : mutex_of script o < length syncs

-- the channel that a look-up found, if it is made
abbrev pub made_in : Option chan.Channel → Option Channel
made_in ch = flatten (option_map channel_of ch)

-- an instruction has no more cases than a choice may have
abbrev pub HasFewCases : Instr → Type 0
HasFewCases (Instr.Select cases default_to) = length cases ≤ most_cases
HasFewCases _ = Unit {0}

-- the place of the first faulty case, and why it is faulty, where the first case has the place k
abbrev pub first_fault : State → ℕ → List Case → Option (ℕ × Reason)
first_fault s k [] = None
first_fault s k (c ∷ cases) = elim (case_fault s c.kind) [ None ↦ first_fault s (k + 1) cases | Some reason ↦ Some (k, reason) ]
