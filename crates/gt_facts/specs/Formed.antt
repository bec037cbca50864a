-- What the states keep that a run reaches.
use Rattle.std.specs.Prelude.{ℕ, ◌*◌, ◌+◌, ◌<◌, ◌≤◌, ◌≡◌, Bool, true, false, IfSome, IsSomeAnd, IsTrue, is_some, count_by, List, [], ◌∷◌, length, slice_get}
use Rattle.std.specs.declared.option.Option.TheVariants.{None, Some}
use Rattle.gt_model.specs.declared.script.Script.{Script}
use Rattle.gt_model.specs.declared.script.Instr.{Instr}
use Rattle.gt_model.specs.declared.script.Place.{Place}
use Rattle.gt_model.specs.declared.state.Goroutine.{Goroutine}
use Rattle.gt_model.specs.declared.state.Timer.{Timer}
use Rattle.gt_model.specs.declared.state.Mode.{Mode}
use Rattle.gt_model.specs.declared.context.Context.{Context}
use Rattle.gt_model.specs.declared.context.End.{End}
use Rattle.gt_model.specs.Named.{IsNamedCause}
use Rattle.gt_model.specs.Times.{greatest_time}
use Rattle.gt_rules.specs.State.{State, Channel, clock, goroutine_at, timer_at, channel_at, counter_of, until_of, suspended_at, relocking_at, context_at, hook_at, is_registered, is_started}
use Rattle.gt_model.specs.Good.{most_added}
use Rattle.gt_model.specs.Script.{code_of, is_ticker, is_chan, is_cond, is_ctx, is_hook, ctx_of, capacity_of}
use Rattle.gt_rules.specs.Places.{silent_at}
use Rattle.gt_facts.specs.Quiet.{IsOneWorld}

-- an index of a code to which goroutines come: it is in no loop that is passed over
pub record IsOnWay (code : List Instr) (at : ℕ) : Type 0 where
  pub within : at < length code
  pub entered : (i depth past : ℕ) → slice_get code i ≡ Some (Instr.LoopTop depth 0 past) → i < at → at < past → ⊥

-- a place in a code: a goroutine stands at an instruction that makes an entry, and who sleeps or waits at a Cond goes on behind it
abbrev pub IsPlacedIn : List Instr → Place → Mode → Type 0
IsPlacedIn code p Mode.At = IsOnWay code p.at × (silent_at code p ≡ None)
IsPlacedIn code p (Mode.Sleeping until) = IsOnWay code p.at × IsOnWay code (p.at + 1)
IsPlacedIn code p (Mode.Suspended k) = IsOnWay code p.at × IsOnWay code (p.at + 1)
IsPlacedIn code p (Mode.Relocking k) = IsOnWay code p.at × IsOnWay code (p.at + 1)
IsPlacedIn code p Mode.Ended = IsOnWay code p.at

abbrev pub IsPlaced : Script → Goroutine → Type 0
IsPlaced script r = IsPlacedIn (code_of script r.place.func) r.place r.mode

-- a channel is declared as one, belongs to the program, and keeps no more values than it may
pub record IsFormedChannel (script : Script) (c : ℕ) (r : Channel) : Type 0 where
  pub named : IsTrue (is_chan script c)
  pub world : r.world ≡ 0
  pub few : length r.items ≤ capacity_of script c

-- a context is declared as one, belongs to the program, its deadline is a time, and the cause of its end a declared error, if it is one
pub record IsFormedContext (script : Script) (x : ℕ) (r : Context) : Type 0 where
  pub named : IsTrue (is_ctx script x)
  pub world : r.world ≡ 0
  pub own : IfSome r.own (λ at. at ≤ greatest_time)
  pub cause : IfSome r.end (λ (end : End). IsNamedCause script (Some end.cause))

-- a hook that was registered is declared as one, and its context was made
pub record IsFormedHook (script : Script) (s : State) (h : ℕ) : Type 0 where
  pub named : IsTrue (is_hook script h)
  pub made : IsSomeAnd (ctx_of script h) (λ x. IsTrue (is_some (context_at s x)))

-- how many hooks were started
abbrev pub started_count : State → ℕ
started_count s = count_by is_started s.hooks

-- the time between two ticks, by whether a timer is a ticker
abbrev pub IsPeriod : Bool → ℕ → Type 0
IsPeriod true period = 0 < period
IsPeriod false period = period ≡ 0

pub record IsFormed (script : Script) (s : State) : Type 0 where
  pub world : IsOneWorld s
  -- the program's clock is the only one, and is a time
  pub one_clock : s.clocks ≡ clock s 0 ∷ []
  pub time : clock s 0 ≤ greatest_time
  -- each goroutine stands in its code, and sleeps until a time
  pub placed : (g : ℕ) (r : Goroutine) → goroutine_at s g ≡ Some r → IsPlaced script r
  pub untils : (g : ℕ) (r : Goroutine) → goroutine_at s g ≡ Some r → IfSome (until_of r.mode) (λ until. until ≤ greatest_time)
  -- who waits at a Cond waits at what is declared as one
  pub conds : (g : ℕ) (r : Goroutine) → goroutine_at s g ≡ Some r → IfSome (suspended_at r.mode) (λ k. IsTrue (is_cond script k)) × IfSome (relocking_at r.mode) (λ k. IsTrue (is_cond script k))
  -- an entry makes one goroutine at most, but for those that hooks start
  pub few : length s.goroutines ≤ s.entries + 1 + started_count s
  -- there is a timer or none for each declaration, and it is due at a time
  pub timers : length s.timers ≡ length script.decls
  pub dues : (t : ℕ) (r : Timer) → timer_at s t ≡ Some r → IfSome r.due (λ due. due ≤ greatest_time)
  -- a ticker that was made has a time between its ticks, and no other timer has one
  pub periods : (t : ℕ) (r : Timer) → timer_at s t ≡ Some r → IsPeriod (is_ticker script t) r.period
  -- there is a channel or none for each declaration
  pub channels : length s.channels ≡ length script.decls
  -- there is what is kept of mutexes, WaitGroups and Conds for each declaration
  pub syncs : length s.syncs ≡ length script.decls
  -- each entry has added a million to a counter at most
  pub counters : (w : ℕ) → counter_of s w ≤ most_added * s.entries
  pub chans : (c : ℕ) (r : Channel) → channel_at s c ≡ Some r → IsFormedChannel script c r
  -- there is a context or none for each declaration, and what has become of a hook
  pub contexts : length s.contexts ≡ length script.decls
  pub ctxs : (x : ℕ) (r : Context) → context_at s x ≡ Some r → IsFormedContext script x r
  pub hooks : length s.hooks ≡ length script.decls
  pub hooked : (h : ℕ) → IsTrue (is_registered (hook_at s h)) → IsFormedHook script s h
