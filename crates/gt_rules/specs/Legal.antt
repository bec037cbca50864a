-- Which entry may come next.
use Rattle.std.specs.Prelude.{ℕ, zero, suc, ◌+◌, ◌-◌, ◌*◌, ◌<◌, ◌≤◌, ◌≡◌, min, cond, Bool, true, false, not, ◌&&◌, IsTrue, IsSomeAnd, is_some, is_none, ◌≢◌, MatchOption, List, [], slice_get}
use Rattle.std.specs.List.{All}
use Rattle.std.specs.declared.option.Option.{Option}
use Rattle.std.specs.declared.option.Option.TheVariants.{None, Some}
use Rattle.gt_model.specs.declared.script.Script.{Script}
use Rattle.gt_model.specs.declared.script.Instr.{Instr}
use Rattle.gt_model.specs.declared.entry.Entry.{Entry}
use Rattle.gt_model.specs.Times.{greatest_time}
use Rattle.gt_model.specs.declared.state.Mode.{Mode}
use Rattle.gt_model.specs.declared.entry.Party.{Party}
use Rattle.gt_model.specs.declared.entry.Reason.{Reason}
use Rattle.gt_model.specs.declared.state.Timer.{Timer}
use Rattle.gt_model.specs.declared.script.Case.{Case}
use Rattle.gt_model.specs.declared.script.CaseKind.{CaseKind}
use Rattle.gt_rules.specs.State.{State, stands_at, clock, clock_of, world_of, sleeps_until, next_number, timer_at, due_of, period_at, items_of, item_count, is_open, is_closed, is_locked, counter_of, mode_of, suspended_count, context_at, end_at, has_ended, hook_at}
use Rattle.gt_rules.specs.Contexts.{made_context, start_count, hook_is_due, is_waiting_hook}
use Rattle.gt_model.specs.declared.context.Context.{Context}
use Rattle.gt_model.specs.declared.context.End.{End}
use Rattle.std.specs.Option.{option_map}
use Rattle.gt_rules.specs.Operations.{operation, polls}
use Rattle.gt_model.specs.Script.{is_timer, is_ticker, is_func, is_chan, is_mutex, is_wg, is_ctx, mutex_of, capacity_of}
use Rattle.gt_rules.specs.Panics.{panic_at}
use Rattle.gt_rules.specs.Ready.{is_due, is_ready_alone, has_come}

-- the due time of a setting made at a clock: never past the greatest time
abbrev pub due_at : ℕ → ℕ → ℕ
due_at now d = min (now + d) greatest_time

-- the time until which `sleep` sleeps: for 0 there is none
abbrev pub sleep_end : ℕ → ℕ → Option ℕ
sleep_end now zero = None
sleep_end now (suc d) = Some (due_at now (suc d))

-- g stands at this instruction, and makes no panic
pub record Does (script : Script) (s : State) (g : ℕ) (i : Instr) : Type 0 where
  pub stands : stands_at script s g ≡ Some i
  pub calm : panic_at script s g ≡ None

-- the operation at which a party stands
abbrev pub operation_at : Script → State → Party → Option CaseKind
operation_at script s p = elim (stands_at script s p.g) [ None ↦ None | Some i ↦ operation i p.case_no ]

-- p stands at this operation, and makes no panic
pub record Operates (script : Script) (s : State) (p : Party) (kind : CaseKind) : Type 0 where
  pub stands : operation_at script s p ≡ Some kind
  pub calm : panic_at script s p.g ≡ None

-- what `stop` and `reset` answer: whether the timer is set; nothing of a ticker
abbrev pub was_set : Script → State → ℕ → Option Bool
was_set script s t = cond (is_ticker script t) None (Some (is_some (due_of s t)))

-- The tick that is next once the one at v has been received at a clock: some periods later, the last one but one of which has begun by then. So a slow
-- receiver misses ticks, and gets none early (Go 1.23, package time: "The ticker will adjust the time interval or drop ticks to make up for slow receivers")
pub record IsNextTick (now v period next : ℕ) : Type 0 where
  pub ticks : ℕ
  pub some : 1 ≤ ticks
  pub begun : v + (ticks - 1) * period ≤ now
  pub is : next ≡ min greatest_time (v + ticks * period)

-- the due time after a receive of v: a timer that ticks once has none
abbrev pub LeavesBy : Bool → ℕ → ℕ → ℕ → Option ℕ → Type 0
LeavesBy true now v period next = IsSomeAnd next (λ at. IsNextTick now v period at)
LeavesBy false now v period next = next ≡ None

abbrev pub LeavesDue : Script → State → ℕ → ℕ → ℕ → Option ℕ → Type 0
LeavesDue script s now t v next = LeavesBy (is_ticker script t) now v (period_at s t) next

-- what a receive from a channel gives: its first value, or none where it is closed and keeps none
abbrev pub Gives : State → ℕ → Option ℕ → Type 0
Gives s c None = (items_of s c ≡ []) × IsTrue (is_closed s c)
Gives s c (Some v) = slice_get (items_of s c) 0 ≡ Some v

-- p stands at a case that sends to a closed channel: to choose it is a misuse
abbrev pub ChoosesClosed : State → Option CaseKind → Reason → Type 0
ChoosesClosed s (Some (CaseKind.Send c v)) reason = IsTrue (is_closed s c) × (reason ≡ Reason.Closed)
ChoosesClosed s (Some (CaseKind.Recv o)) reason = ⊥
ChoosesClosed s None reason = ⊥

-- the misuse of p's goroutine where it stands, with its case number; or its choice of a case that is a misuse
abbrev pub MayPanic : Script → State → Party → Reason → Type 0
MayPanic script s p reason =
    MatchOption (panic_at script s p.g) (ChoosesClosed s (operation_at script s p) reason) (λ x. x ≡ (p.case_no, reason))

-- whether a party stands at a choice with a default
abbrev pub is_polling : Script → State → ℕ → Bool
is_polling script s g = elim (stands_at script s g) [ None ↦ false | Some i ↦ polls i ]

-- g stands at a choice with a default, and no case of it could go on but by a partner
pub record Defaults (script : Script) (s : State) (g : ℕ) : Type 0 where
  pub cases : List Case
  pub to : ℕ
  pub does : Does script s g (Instr.Select cases (Some to))
  pub none : All (λ (c : Case). is_ready_alone script s (has_come s (world_of s g)) c.kind ≡ false) cases

-- who is signalled waits at the Cond, and nobody is exactly where nobody waits there
abbrev pub Signals : State → ℕ → Option ℕ → Type 0
Signals s k None = suspended_count s k ≡ 0
Signals s k (Some g) = mode_of s g ≡ Some (Mode.Suspended k)

-- a context has come to its own deadline, and has no end yet
abbrev pub Expires : State → ℕ → Type 0
Expires s x = IsSomeAnd (context_at s x) (λ (r : Context). IsTrue (is_due r.own (clock s r.world)) × IsTrue (is_none r.end))

-- where the clock of a world may move, and to which time
abbrev pub MovesClock : State → ℕ → ℕ → Type 0
MovesClock s zero to = (clock s 0 < to) × (to ≤ greatest_time)
MovesClock s (suc world) to = ⊥

-- which entry may come next while the run goes on. The end of the run has rows of its own, in Finish
abbrev pub May : Script → State → Entry → Type 0
May script s (Entry.Say g n) = Does script s g (Instr.Say n)
May script s (Entry.Now g at) = Does script s g Instr.Now × (at ≡ clock_of s g)
May script s (Entry.Go g child f) = Does script s g (Instr.Go f) × (child ≡ next_number s)
May script s (Entry.End g) = Does script s g Instr.Finish
May script s (Entry.Sleep g until) = (d : ℕ) × Does script s g (Instr.Sleep d) × (until ≡ sleep_end (clock_of s g) d)
May script s (Entry.Wake g) = IsSomeAnd (sleeps_until s g) (λ until. until ≤ clock_of s g)
May script s (Entry.New g t due) = (d : ℕ) × Does script s g (Instr.New t d) × (due ≡ due_at (clock_of s g) d)
May script s (Entry.Stop g t was) = Does script s g (Instr.Stop t) × (was ≡ was_set script s t)
May script s (Entry.Reset g t was due) =
    (d : ℕ) × Does script s g (Instr.Reset t d) × (was ≡ was_set script s t) × (due ≡ due_at (clock_of s g) d)
May script s (Entry.TRecv p t due next) =
    Operates script s p (CaseKind.Recv t) × IsTrue (is_timer script t) × (due_of s t ≡ Some due) × (due ≤ clock_of s p.g) × LeavesDue script s (clock_of s p.g) t due next
May script s (Entry.FireFunc t child) =
    IsTrue (is_func script t) × IsSomeAnd (timer_at s t) (λ (r : Timer). IsTrue (is_due r.due (clock s r.world))) × (child ≡ next_number s)
May script s (Entry.Make g c) = Does script s g (Instr.Make c)
May script s (Entry.Send p c v) = Operates script s p (CaseKind.Send c v) × IsTrue (is_open s c) × (item_count s c < capacity_of script c)
May script s (Entry.Recv p c v) = Operates script s p (CaseKind.Recv c) × IsTrue (is_chan script c) × Gives s c v
May script s (Entry.Pair from to c v) =
    Operates script s from (CaseKind.Send c v) × Operates script s to (CaseKind.Recv c) × IsTrue (is_open s c) × (capacity_of script c ≡ 0) × (from.g ≢ to.g)
    × IsTrue (not (is_polling script s from.g && is_polling script s to.g))
May script s (Entry.Close g c) = Does script s g (Instr.Close c)
May script s (Entry.Default g) = Defaults script s g
May script s (Entry.Lock g m) = Does script s g (Instr.Lock m) × IsTrue (is_mutex script m) × (is_locked s m ≡ false)
May script s (Entry.Unlock g m) = Does script s g (Instr.Unlock m)
May script s (Entry.CondWait g k) = Does script s g (Instr.CWait k)
May script s (Entry.CondWake g k) = (mode_of s g ≡ Some (Mode.Relocking k)) × (is_locked s (mutex_of script k) ≡ false)
May script s (Entry.Signal g k woken) = Does script s g (Instr.Signal k) × Signals s k woken
May script s (Entry.Broadcast g k count) = Does script s g (Instr.Broadcast k) × (count ≡ suspended_count s k)
May script s (Entry.Add g w n) = Does script s g (Instr.Add w n)
May script s (Entry.WgWait g w) = Does script s g (Instr.Wait w) × IsTrue (is_wg script w) × (counter_of s w ≡ 0)
May script s (Entry.CtxMake g x ended) = Does script s g (Instr.With x) × (ended ≡ is_some (made_context script s (world_of s g) x).end)
May script s (Entry.Cancel g x newly starts) = (named : Option ℕ) × Does script s g (Instr.Cancel x named) × (newly ≡ not (has_ended s x)) × (starts ≡ start_count script s x)
May script s (Entry.Expire x starts) = Expires s x × (starts ≡ start_count script s x)
May script s (Entry.CtxErr g x err) = Does script s g (Instr.ErrOf x) × (err ≡ option_map (λ (end : End). end.err) (end_at s x))
May script s (Entry.Cause g x cause) = Does script s g (Instr.CauseOf x) × (cause ≡ option_map (λ (end : End). end.cause) (end_at s x))
May script s (Entry.CtxDone p x) = Operates script s p (CaseKind.Recv x) × IsTrue (is_ctx script x) × IsTrue (has_ended s x)
May script s (Entry.CtxAfter g h child) = Does script s g (Instr.After h) × (child ≡ cond (hook_is_due script s h) (Some (next_number s)) None)
May script s (Entry.CtxStop g h stopped) = Does script s g (Instr.Unhook h) × (stopped ≡ is_waiting_hook (hook_at s h))
May script s (Entry.Clock world to) = MovesClock s world to
May script s (Entry.Panic p reason) = MayPanic script s p reason
May script s (Entry.Finish outcome) = ⊥
