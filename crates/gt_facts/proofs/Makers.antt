-- Who makes an entry that may come next, and what the entry changes: of what is shown here alone each kind of entry, and of instruction, has a clause.
use Rattle.std.proofs.Common.{◌≡◌, ℕ, zero, suc, ◌<◌, ◌≤◌, List, [], ◌∷◌, length, refl, sym, ap, subst, ◌∙◌, arith, Option, None, Some, Bool, true, false, not, ◌&&◌, ◌||◌, ◌==◌, ◌≢◌, nat_lt, slice_get, is_some, is_none, IsTrue, IfSome, IsSomeAnd, MatchOption, option_map, get_or, cond, ◌+◌, ◌*◌, min}
use Rattle.std.specs.List.{list_any}
use Rattle.std.proofs.Math.Nat.{min-le_left}
use Rattle.std.proofs.lemmas.Bool.{and_parts, eqb-true, leb-true, lt-ltb, ltb-true, or_left, or_right}
use Rattle.std.proofs.lemmas.Option.{slice_get_within, slice_get-get_or}
use Rattle.gt_model.specs.declared.script.Script.{Script}
use Rattle.gt_model.specs.declared.script.Instr.{Instr}
use Rattle.gt_model.specs.declared.entry.Entry.{Entry}
use Rattle.gt_model.specs.declared.entry.Party.{Party}
use Rattle.gt_model.specs.declared.entry.Reason.{Reason}
use Rattle.gt_model.specs.declared.state.Mode.{Mode}
use Rattle.gt_model.specs.declared.state.Timer.{Timer}
use Rattle.gt_model.specs.Times.{greatest_time}
use Rattle.gt_model.specs.declared.script.Case.{Case}
use Rattle.gt_model.specs.declared.script.CaseKind.{CaseKind}
use Rattle.gt_model.specs.declared.script.What.{What}
use Rattle.gt_model.specs.Script.{what_at, names_timer, names_chan, names_mutex, names_wg, names_ctx, is_func, is_timer, is_chan, mutex_of, capacity_of, is_ticker}
use Rattle.gt_model.specs.Good.{IsGood, is_finish, is_setting}
use Rattle.gt_model.proofs.Declared.{timer_setting, func_setting}
use Rattle.gt_rules.specs.State.{is_locked, counter_of, mode_of, suspended_count, State, Channel, goroutine_at, stands, world_of, clock, clock_of, sleeps_until, next_number, timer_at, due_of, period_at, channel_at, items_of, item_count, is_closed, is_open, end_at, has_ended, hook_at}
use Rattle.gt_rules.specs.Contexts.{made_context, start_count, hook_is_due, is_waiting_hook}
use Rattle.gt_model.specs.declared.context.End.{End}
use Rattle.gt_rules.specs.Panics.{panic_of, fault, fault_at, fault_case, case_fault, choice_fault, when, or_else, open_fault, zero_ticker}
use Rattle.gt_rules.specs.Ready.{is_due, is_ready_instr, is_ready_case, is_ready_alone, is_ready_recv, has_partner, partner_waits, has_come, everyone}
use Rattle.gt_rules.specs.Operations.{operation, polls, receives_from, sends_to}
use Rattle.gt_rules.specs.declared.change.Move.{Move}
use Rattle.gt_rules.specs.declared.change.Trade.{Trade}
use Rattle.gt_rules.specs.declared.change.Setting.{Setting}
use Rattle.gt_rules.specs.Change.{change_of, sleeps, takes, goes_on}
use Rattle.gt_rules.specs.Legal.{May, MayPanic, ChoosesClosed, Does, Operates, operation_at, is_polling, Gives, due_at, sleep_end, was_set, LeavesBy, Expires}
use Rattle.gt_rules.specs.Finish.{IsIdle}
use Rattle.gt_facts.proofs.Lookups.{locks-Operates, waits-Operates, names-Does, names-Operates, operates-Does, does-Operates, AtOperation, at_operation, HasAny, any-has, IsCase, is-case, ReceivesFrom, receives-recv, SendsTo, sends-send}
use Rattle.gt_facts.proofs.Partners.{Partner, partner}
use Rattle.gt_facts.proofs.Suspended.{Waiter, waiter}

-- ---- times

due_at-time : (now d : ℕ) → due_at now d ≤ greatest_time
due_at-time now d = omega arith

sleep_end-time : (now d : ℕ) → IfSome (sleep_end now d) (λ until. until ≤ greatest_time)
sleep_end-time now zero = tt
sleep_end-time now (suc d) = due_at-time now (suc d)

-- ---- who makes an entry

-- a goroutine moves on from its instruction so: an end has nothing behind it, a sleep has a time, and who waits at a Cond is signalled by another one
abbrev pub Leaves : Instr → Move → Type 0
Leaves i (Move.GoesOn case_no) = is_finish i ≡ false
Leaves i (Move.FallsAsleep until) = (is_finish i ≡ false) × (until ≤ greatest_time)
Leaves i (Move.Suspends k) = i ≡ Instr.CWait k
Leaves i (Move.Relocks k) = ⊥
Leaves i Move.Ends = Unit {0}
Leaves i Move.Panics = Unit {0}

-- who makes an entry with this mover, this partner and this move of a clock
pub data Maker (script : Script) (s : State) : Option (ℕ × Move) → Option (ℕ × Move) → Option (ℕ × ℕ) → Type 0 where
  -- a goroutine at an instruction that is ready wherever it is no misuse
  calls : (g : ℕ) (i : Instr) (m : Move) → Does script s g i → ((timed counts : ℕ → Bool) (me : ℕ) → is_ready_instr script s timed counts me i ≡ true) → Leaves i m
      → Maker script s (Some (g, m)) None None
  -- a goroutine at the receive of a timer's value that has come
  receives : (p : Party) (t due : ℕ) → Operates script s p (CaseKind.Recv t) → IsTrue (is_timer script t) → due_of s t ≡ Some due → due ≤ clock_of s p.g
      → Maker script s (Some (goes_on p)) None None
  -- a goroutine at an operation of a channel, or of a context, that is ready by itself
  trades : (p : Party) (kind : CaseKind) → Operates script s p kind → ((timed : ℕ → Bool) → is_ready_alone script s timed kind ≡ true) → Maker script s (Some (goes_on p)) None None
  -- two at the two operations of a channel that keeps no values: a good script declares it as one
  pairs : (from to : Party) (c v : ℕ) → Operates script s from (CaseKind.Send c v) → Operates script s to (CaseKind.Recv c) → (IsGood script → IsTrue (is_chan script c)) → capacity_of script c ≡ 0
      → from.g ≢ to.g → IsTrue (not (is_polling script s from.g && is_polling script s to.g)) → Maker script s (Some (goes_on from)) (Some (goes_on to)) None
  -- a sleeper whose time has come, an AfterFunc timer, and a context
  wakes : (g : ℕ) → IsSomeAnd (sleeps_until s g) (λ until. until ≤ clock_of s g) → Maker script s (Some (g, Move.GoesOn 0)) None None
  fires : (t : ℕ) → IsTrue (is_func script t) → IsSomeAnd (timer_at s t) (λ (r : Timer). IsTrue (is_due r.due (clock s r.world))) → Maker script s None None None
  expires : (x : ℕ) → Expires s x → Maker script s None None None
  -- the program's clock, and a misuse
  ticks : (to : ℕ) → clock s 0 < to → to ≤ greatest_time → Maker script s None None (Some (0, to))
  panics : (p : Party) (reason : Reason) → MayPanic script s p reason → Maker script s (Some (p.g, Move.Panics)) None None
  -- who was signalled at a Cond the mutex of which is free, and who signals another one
  retakes : (g k : ℕ) → mode_of s g ≡ Some (Mode.Relocking k) → is_locked s (mutex_of script k) ≡ false → Maker script s (Some (g, Move.GoesOn 0)) None None
  signals : (g k h : ℕ) → Does script s g (Instr.Signal k) → mode_of s h ≡ Some (Mode.Suspended k)
      → Maker script s (Some (g, Move.GoesOn 0)) (Some (h, Move.Relocks k)) None

asleep-leaves : (d : ℕ) (until : Option ℕ) → IfSome until (λ u. u ≤ greatest_time) → Leaves (Instr.Sleep d) (sleeps until)
asleep-leaves d None time = refl
asleep-leaves d (Some until) time = (refl, time)

-- a channel gives a value where it keeps some, and none where it is closed
gives-some : (s : State) (c : ℕ) (v : Option ℕ) → Gives s c v → (nat_lt 0 (item_count s c) || is_closed s c) ≡ true
gives-some s c None gives = or_right (nat_lt 0 (item_count s c)) (is_closed s c) gives.1
gives-some s c (Some v) gives = or_left (nat_lt 0 (item_count s c)) (is_closed s c) (lt-ltb 0 (item_count s c) (slice_get_within (items_of s c) 0 v gives))

chan-ready : (s : State) (c : ℕ) (v : Option ℕ) (what : What) → IsTrue (names_chan (Some what)) → Gives s c v → (timed : ℕ → Bool) → is_ready_recv s timed c (Some what) ≡ true
chan-ready s c v (What.Chan cap) h gives timed = gives-some s c v gives
chan-ready s c v What.Timer h gives timed = cc
chan-ready s c v What.Ticker h gives timed = cc
chan-ready s c v (What.AfterFunc func) h gives timed = cc
chan-ready s c v What.Mutex h gives timed = cc
chan-ready s c v What.Wg h gives timed = cc
chan-ready s c v (What.Cond mutex) h gives timed = cc
chan-ready s c v (What.Ctx parent form) h gives timed = cc
chan-ready s c v (What.Hook ctx func) h gives timed = cc
chan-ready s c v What.Error h gives timed = cc
chan-ready s c v What.Function h gives timed = cc

-- what is received from a channel makes the receive ready by itself
pub gives-ready : (script : Script) (s : State) (c : ℕ) (v : Option ℕ) → IsTrue (is_chan script c) → Gives s c v → (timed : ℕ → Bool) → is_ready_alone script s timed (CaseKind.Recv c) ≡ true
gives-ready script s c v chan gives timed =
    elim (what_at script c) as (λ o. IsTrue (names_chan o) → is_ready_recv s timed c o ≡ true) [
      | None ↦ λ h. cc
      | Some what ↦ λ h. chan-ready s c v what h gives timed
    ] chan

-- a mutex that is free, and a WaitGroup at 0
pub free-ready : (s : State) (m : ℕ) (w : Option What) → IsTrue (names_mutex w) → is_locked s m ≡ false → (timed : ℕ → Bool) → is_ready_recv s timed m w ≡ true
free-ready s m (Some What.Mutex) mutex free timed = ap not free
free-ready s m _ mutex free timed = cc

pub done-ready : (s : State) (w : ℕ) (o : Option What) → IsTrue (names_wg o) → counter_of s w ≡ 0 → (timed : ℕ → Bool) → is_ready_recv s timed w o ≡ true
done-ready s w (Some What.Wg) wg done timed = ap (λ n. n == 0) done
done-ready s w _ wg done timed = cc

-- and a context that has ended
pub ended-ready : (s : State) (x : ℕ) (w : Option What) → IsTrue (names_ctx w) → IsTrue (has_ended s x) → (timed : ℕ → Bool) → is_ready_recv s timed x w ≡ true
ended-ready s x (Some (What.Ctx parent form)) ctx ended timed = ended
ended-ready s x _ ctx ended timed = cc

pub maker : (script : Script) (s : State) (e : Entry) → May script s e → Maker script s (change_of e).mover (change_of e).partner (change_of e).clock
maker script s (Entry.Say g n) may = calls g (Instr.Say n) (Move.GoesOn 0) may (λ timed counts me. refl) refl
maker script s (Entry.Now g at) may = calls g Instr.Now (Move.GoesOn 0) may.0 (λ timed counts me. refl) refl
maker script s (Entry.Go g child f) may = calls g (Instr.Go f) (Move.GoesOn 0) may.0 (λ timed counts me. refl) refl
maker script s (Entry.End g) may = calls g Instr.Finish Move.Ends may (λ timed counts me. refl) tt
maker script s (Entry.Sleep g until) may =
    let time : IfSome until (λ u. u ≤ greatest_time) = subst (λ (o : Option ℕ). IfSome o (λ u. u ≤ greatest_time)) (sym may.2) (sleep_end-time (clock_of s g) may.0) in
    calls g (Instr.Sleep may.0) (sleeps until) may.1 (λ timed counts me. refl) (asleep-leaves may.0 until time)
maker script s (Entry.Wake g) may = wakes g may
maker script s (Entry.New g t due) may = calls g (Instr.New t may.0) (Move.GoesOn 0) may.1 (λ timed counts me. refl) refl
maker script s (Entry.Stop g t was) may = calls g (Instr.Stop t) (Move.GoesOn 0) may.0 (λ timed counts me. refl) refl
maker script s (Entry.Reset g t was due) may = calls g (Instr.Reset t may.0) (Move.GoesOn 0) may.1 (λ timed counts me. refl) refl
maker script s (Entry.TRecv p t due next) may = receives p t due may.0 may.1 may.2 may.3
maker script s (Entry.FireFunc t child) may = fires t may.0 may.1
maker script s (Entry.Make g c) may = calls g (Instr.Make c) (Move.GoesOn 0) may (λ timed counts me. refl) refl
maker script s (Entry.Send p c v) may = trades p (CaseKind.Send c v) may.0 (λ timed. or_right (is_closed s c) _ (lt-ltb (item_count s c) (capacity_of script c) may.2))
maker script s (Entry.Recv p c v) may = trades p (CaseKind.Recv c) may.0 (gives-ready script s c v may.1 may.2)
maker script s (Entry.Pair from to c v) may =
    pairs from to c v may.0 may.1 (λ good. names-Operates script s from (CaseKind.Send c v) good may.0) may.3 may.4 may.5
maker script s (Entry.Close g c) may = calls g (Instr.Close c) (Move.GoesOn 0) may (λ timed counts me. refl) refl
maker script s (Entry.Default g) may = calls g (Instr.Select may.cases (Some may.to)) (Move.GoesOn 0) may.does (λ timed counts me. refl) refl
maker script s (Entry.Lock g m) may =
    calls g (Instr.Lock m) (Move.GoesOn 0) may.0
    (λ timed counts me. or_left (is_ready_alone script s timed (CaseKind.Recv m)) _ (free-ready s m (what_at script m) may.1 may.2 timed)) refl
maker script s (Entry.Unlock g m) may = calls g (Instr.Unlock m) (Move.GoesOn 0) may (λ timed counts me. refl) refl
maker script s (Entry.CondWait g k) may = calls g (Instr.CWait k) (Move.Suspends k) may (λ timed counts me. refl) refl
maker script s (Entry.CondWake g k) may = retakes g k may.0 may.1
maker script s (Entry.Signal g k None) may = calls g (Instr.Signal k) (Move.GoesOn 0) may.0 (λ timed counts me. refl) refl
maker script s (Entry.Signal g k (Some h)) may = signals g k h may.0 may.1
maker script s (Entry.Broadcast g k count) may = calls g (Instr.Broadcast k) (Move.GoesOn 0) may.0 (λ timed counts me. refl) refl
maker script s (Entry.Add g w n) may = calls g (Instr.Add w n) (Move.GoesOn 0) may (λ timed counts me. refl) refl
maker script s (Entry.WgWait g w) may =
    calls g (Instr.Wait w) (Move.GoesOn 0) may.0
    (λ timed counts me. or_left (is_ready_alone script s timed (CaseKind.Recv w)) _ (done-ready s w (what_at script w) may.1 may.2 timed)) refl
maker script s (Entry.CtxMake g x ended) may = calls g (Instr.With x) (Move.GoesOn 0) may.0 (λ timed counts me. refl) refl
maker script s (Entry.Cancel g x newly count) may = calls g (Instr.Cancel x may.0) (Move.GoesOn 0) may.1 (λ timed counts me. refl) refl
maker script s (Entry.Expire x count) may = expires x may.0
maker script s (Entry.CtxErr g x err) may = calls g (Instr.ErrOf x) (Move.GoesOn 0) may.0 (λ timed counts me. refl) refl
maker script s (Entry.Cause g x cause) may = calls g (Instr.CauseOf x) (Move.GoesOn 0) may.0 (λ timed counts me. refl) refl
maker script s (Entry.CtxDone p x) may = trades p (CaseKind.Recv x) may.0 (λ timed. ended-ready s x (what_at script x) may.1 may.2 timed)
maker script s (Entry.CtxAfter g h child) may = calls g (Instr.After h) (Move.GoesOn 0) may.0 (λ timed counts me. refl) refl
maker script s (Entry.CtxStop g h stopped) may = calls g (Instr.Unhook h) (Move.GoesOn 0) may.0 (λ timed counts me. refl) refl
maker script s (Entry.Clock zero to) may = ticks to may.0 may.1
maker script s (Entry.Clock (suc world) to) may = absurd may
maker script s (Entry.Panic p reason) may = panics p reason may
maker script s (Entry.Finish outcome) may = absurd may

-- ---- the timer that an entry changes

-- whether the timer was made before
abbrev pub was_made : Setting → Bool
was_made (Setting.Made due) = false
was_made (Setting.SetAnew due) = true
was_made (Setting.Ended next) = true

-- when it is due after
abbrev pub next_due : Setting → Option ℕ
next_due (Setting.Made due) = Some due
next_due (Setting.SetAnew due) = Some due
next_due (Setting.Ended next) = next

pub record Sets (script : Script) (s : State) (t : ℕ) (x : Setting) : Type 0 where
  pub named : IsTrue (is_setting script t)
  pub made : is_some (timer_at s t) ≡ was_made x
  pub time : IfSome (next_due x) (λ due. due ≤ greatest_time)

pub none-when : (b : Bool) (reason : Reason) → when b reason ≡ None → b ≡ false
none-when true reason h = cc
none-when false reason h = refl

pub some-not_none : {X : Type 0} (o : Option X) → is_none o ≡ false → is_some o ≡ true
some-not_none None h = cc
some-not_none (Some x) h = refl

-- neither of two
pub neither : (a b : Option Reason) → or_else a b ≡ None → (a ≡ None) × (b ≡ None)
neither None b h = (refl, h)
neither (Some reason) b h = cc

no-fault : (n : ℕ) (o : Option Reason) → (elim o as (λ o. Option (ℕ × Reason)) [ None ↦ None | Some reason ↦ Some (n, reason) ]) ≡ None → o ≡ None
no-fault n None h = refl
no-fault n (Some reason) h = cc

pub calm-fault : (script : Script) (s : State) (g : ℕ) (i : Instr) → Does script s g i → fault script s i ≡ None
calm-fault script s g i does =
    elim (goroutine_at s g) as (λ o. (elim o as (λ o. Option Instr) [ None ↦ None | Some r ↦ stands script r ]) ≡ Some i
    → (elim o as (λ o. Option (ℕ × Reason)) [ None ↦ None | Some r ↦ panic_of script s r ]) ≡ None → fault script s i ≡ None) [
      | None ↦ λ p q. cc
      | Some r ↦ λ p q. no-fault (fault_case s i) (fault script s i) (subst (λ o. (elim o as (λ o. Option (ℕ × Reason)) [ None ↦ None | Some i ↦ fault_at script s i ]) ≡ None) p q)
    ] does.stands does.calm

-- an instruction that asks for a timer which was made, and makes no misuse
used-made : (s : State) (t : ℕ) → when (is_none (timer_at s t)) Reason.Unmade ≡ None → is_some (timer_at s t) ≡ true
used-made s t calm = some-not_none (timer_at s t) (none-when (is_none (timer_at s t)) Reason.Unmade calm)

due-made : (s : State) (t due : ℕ) → due_of s t ≡ Some due → is_some (timer_at s t) ≡ true
due-made s t due e =
    elim (timer_at s t) as (λ o. (elim o as (λ o. Option ℕ) [ None ↦ None | Some r ↦ r.due ]) ≡ Some due → is_some o ≡ true) [ None ↦ λ h. cc | Some r ↦ λ h. refl ] e

some-made : (o : Option Timer) (P : Timer → Type 0) → IsSomeAnd o P → is_some o ≡ true
some-made None P h = absurd h
some-made (Some r) P h = refl

due-time : (now d due : ℕ) → due ≡ due_at now d → due ≤ greatest_time
due-time now d due is = subst (λ n. n ≤ greatest_time) (sym is) (due_at-time now d)

-- the next tick is at a time
left-time : (ticker : Bool) (now due period : ℕ) (next : Option ℕ) → LeavesBy ticker now due period next → IfSome next (λ u. u ≤ greatest_time)
left-time true now due period None h = tt
left-time true now due period (Some at) h = subst (λ u. u ≤ greatest_time) (sym h.is) (min-le_left greatest_time (due + h.ticks * period))
left-time false now due period next h = subst (λ (o : Option ℕ). IfSome o (λ u. u ≤ greatest_time)) (sym h) tt

pub sets : (script : Script) (s : State) (e : Entry) → IsGood script → May script s e → IfSome (change_of e).timer (λ (x : ℕ × Setting). Sets script s x.0 x.1)
sets script s (Entry.New g t due) good may = record {
  named = (names-Does script s g (Instr.New t may.0) good may.1).0;
  made = none-when (is_some (timer_at s t)) Reason.Twice
      (neither (when (is_some (timer_at s t)) Reason.Twice) (zero_ticker script t may.0) (calm-fault script s g (Instr.New t may.0) may.1)).0;
  time = due-time (clock_of s g) may.0 due may.2;
}
sets script s (Entry.Stop g t was) good may =
    record { named = names-Does script s g (Instr.Stop t) good may.0; made = used-made s t (calm-fault script s g (Instr.Stop t) may.0); time = tt }
sets script s (Entry.Reset g t was due) good may = record {
  named = (names-Does script s g (Instr.Reset t may.0) good may.1).0;
  made = used-made s t
      (neither (when (is_none (timer_at s t)) Reason.Unmade) (zero_ticker script t may.0) (calm-fault script s g (Instr.Reset t may.0) may.1)).0;
  time = due-time (clock_of s g) may.0 due may.3;
}
sets script s (Entry.TRecv p t due next) good may = record {
  named = timer_setting script t may.1;
  made = due-made s t due may.2;
  time = left-time (is_ticker script t) (clock_of s p.g) due (period_at s t) next may.4;
}
sets script s (Entry.FireFunc t child) good may = record { named = func_setting script t may.0; made = some-made (timer_at s t) _ may.1; time = tt }
sets script s _ good may = tt

-- ---- the channel that an entry changes

-- what may become of a channel: it is made once, keeps a value more where it is open and has room, gives one that it keeps, and is closed where it is open
abbrev pub HasTrade : Script → State → ℕ → Trade → Type 0
HasTrade script s c Trade.Opened = is_some (channel_at s c) ≡ false
HasTrade script s c (Trade.Puts v) = (is_some (channel_at s c) ≡ true) × (is_closed s c ≡ false) × (item_count s c < capacity_of script c)
HasTrade script s c Trade.Takes = (is_some (channel_at s c) ≡ true) × (0 < item_count s c)
HasTrade script s c Trade.Shut = (is_some (channel_at s c) ≡ true) × (is_closed s c ≡ false)

pub record Trades (script : Script) (s : State) (c : ℕ) (x : Trade) : Type 0 where
  pub named : IsTrue (is_chan script c)
  pub has : HasTrade script s c x

-- a channel that was made and not closed
pub record IsOpened (s : State) (c : ℕ) : Type 0 where
  pub made : is_some (channel_at s c) ≡ true
  pub unshut : is_closed s c ≡ false
  pub is : is_open s c ≡ true

not_closed : (b : Bool) → not b ≡ true → b ≡ false
not_closed true h = cc
not_closed false h = refl

open-made : (o : Option Channel) → (elim o as (λ o. Bool) [ None ↦ false | Some r ↦ not r.closed ]) ≡ true
    → (is_some o ≡ true) × ((elim o as (λ o. Bool) [ None ↦ false | Some r ↦ r.closed ]) ≡ false)
open-made None h = cc
open-made (Some r) h = (refl, not_closed r.closed h)

pub is_open-IsOpened : (s : State) (c : ℕ) → is_open s c ≡ true → IsOpened s c
is_open-IsOpened s c h =
    let both = open-made (channel_at s c) h in
    record { made = both.0; unshut = both.1; is = h }

no-open_fault : (o : Option Channel) → or_else (when (is_none o) Reason.Unmade) (when (elim o as (λ o. Bool) [ None ↦ false | Some r ↦ r.closed ]) Reason.Closed) ≡ None
    → (elim o as (λ o. Bool) [ None ↦ false | Some r ↦ not r.closed ]) ≡ true
no-open_fault None h = cc
no-open_fault (Some r) h = ap not (none-when r.closed Reason.Closed h)

-- who uses a channel that it may use
pub opened : (script : Script) (s : State) (g c : ℕ) (i : Instr) → fault script s i ≡ open_fault s c → Does script s g i → IsOpened s c
opened script s g c i asks does = is_open-IsOpened s c (no-open_fault (channel_at s c) (sym asks ∙ calm-fault script s g i does))

item-made : (o : Option Channel) → 0 < length (elim o as (λ o. List ℕ) [ None ↦ [] | Some r ↦ r.items ]) → is_some o ≡ true
item-made None h = absurd (omega arith)
item-made (Some r) h = refl

takes-May : (script : Script) (s : State) (c : ℕ) (v : Option ℕ) → IsTrue (is_chan script c) → Gives s c v → IfSome (takes c v) (λ (x : ℕ × Trade). Trades script s x.0 x.1)
takes-May script s c None chan gives = tt
takes-May script s c (Some v) chan gives =
    let some : 0 < item_count s c = slice_get_within (items_of s c) 0 v gives in
    record { named = chan; has = (item-made (channel_at s c) some, some) }

pub trades-May : (script : Script) (s : State) (e : Entry) → IsGood script → May script s e → IfSome (change_of e).channel (λ (x : ℕ × Trade). Trades script s x.0 x.1)
trades-May script s (Entry.Make g c) good may = record {
  named = names-Does script s g (Instr.Make c) good may;
  has = none-when (is_some (channel_at s c)) Reason.Twice (calm-fault script s g (Instr.Make c) may);
}
trades-May script s (Entry.Send p c v) good may =
    let is : IsOpened s c = is_open-IsOpened s c may.1 in
    record { named = names-Operates script s p (CaseKind.Send c v) good may.0; has = (is.made, is.unshut, may.2) }
trades-May script s (Entry.Recv p c v) good may = takes-May script s c v may.1 may.2
trades-May script s (Entry.Close g c) good may =
    let is : IsOpened s c = opened script s g c (Instr.Close c) refl may in
    record { named = names-Does script s g (Instr.Close c) good may; has = (is.made, is.unshut) }
trades-May script s _ good may = tt

-- ---- the entry of who stands at an instruction

not_true : (b : Bool) → (b ≡ true → ⊥) → b ≡ false
not_true true h = absurd (h refl)
not_true false h = refl

either-not : (a b : Bool) → (a || b) ≡ true → (a ≡ true → ⊥) → (b ≡ true → ⊥) → ⊥
either-not true b h left right = left refl
either-not false b h left right = right h

-- there is a next tick, one period after the one that is received
some-tick : (ticker : Bool) (now due period : ℕ) → due ≤ now → (next : Option ℕ) × LeavesBy ticker now due period next
some-tick true now due period come =
    let none : due + 0 * period ≤ now = omega arith in
    (Some (min greatest_time (due + 1 * period)), record { ticks = 1; some = omega arith; begun = none; is = refl })
some-tick false now due period come = (None, refl)

-- the receive of a timer's value that has come
timer-not : (script : Script) (s : State) (p : Party) (w t : ℕ) → IsIdle script s → clock_of s p.g ≡ clock s w → Operates script s p (CaseKind.Recv t) → IsTrue (is_timer script t)
    → is_due (due_of s t) (clock s w) ≡ true → ⊥
timer-not script s p w t idle now gets timer ready =
    elim (due_of s t) as (λ o. due_of s t ≡ o → is_due o (clock s w) ≡ true → ⊥) [
      | None ↦ λ is come. cc
      | Some due ↦ λ is come.
          let here : due ≤ clock_of s p.g = subst (λ now. due ≤ now) (sym now) (leb-true due (clock s w) come) in
          let tick = some-tick (is_ticker script t) (clock_of s p.g) due (period_at s t) here in
          idle (Entry.TRecv p t due tick.0) (gets, timer, is, here, tick.1)
    ] refl ready

-- the receive from a channel that keeps values, or is closed
keeps-not : (script : Script) (s : State) (p : Party) (c : ℕ) (items : List ℕ) → IsIdle script s → Operates script s p (CaseKind.Recv c) → IsTrue (is_chan script c) → items_of s c ≡ items
    → (nat_lt 0 (length items) || is_closed s c) ≡ true → ⊥
keeps-not script s p c [] idle gets chan is ready = idle (Entry.Recv p c None) (gets, chan, (is, ready))
keeps-not script s p c (v ∷ rest) idle gets chan is ready = idle (Entry.Recv p c (Some v)) (gets, chan, ap (λ (items : List ℕ). slice_get items 0) is)

gives-not : (script : Script) (s : State) (p : Party) (w o : ℕ) (what : What) → IsGood script → IsIdle script s → clock_of s p.g ≡ clock s w → Operates script s p (CaseKind.Recv o)
    → what_at script o ≡ Some what → is_ready_recv s (has_come s w) o (Some what) ≡ true → ⊥
gives-not script s p w o What.Timer good idle now gets is ready = timer-not script s p w o idle now gets (ap names_timer is) ready
gives-not script s p w o What.Ticker good idle now gets is ready = timer-not script s p w o idle now gets (ap names_timer is) ready
gives-not script s p w o (What.AfterFunc func) good idle now gets is ready = cc
gives-not script s p w o (What.Chan cap) good idle now gets is ready = keeps-not script s p o (items_of s o) idle gets (ap names_chan is) refl ready
gives-not script s p w o What.Mutex good idle now gets is ready =
    let locks = locks-Operates script s p o good gets (ap names_mutex is) in
    idle (Entry.Lock p.g o) (locks.0, ap names_mutex is, unlocked (is_locked s o) ready)
  where
    unlocked : (b : Bool) → not b ≡ true → b ≡ false
    unlocked true h = cc
    unlocked false h = refl
gives-not script s p w o What.Wg good idle now gets is ready =
    let waits = waits-Operates script s p o good gets (ap names_wg is) in
    idle (Entry.WgWait p.g o) (waits.0, ap names_wg is, eqb-true (counter_of s o) 0 ready)
gives-not script s p w o (What.Cond mutex) good idle now gets is ready = cc
gives-not script s p w o (What.Ctx parent form) good idle now gets is ready = idle (Entry.CtxDone p o) (gets, ap names_ctx is, ready)
gives-not script s p w o (What.Hook ctx func) good idle now gets is ready = cc
gives-not script s p w o What.Error good idle now gets is ready = cc
gives-not script s p w o What.Function good idle now gets is ready = cc

recv-not : (script : Script) (s : State) (p : Party) (w o : ℕ) → IsGood script → IsIdle script s → clock_of s p.g ≡ clock s w → Operates script s p (CaseKind.Recv o)
    → is_ready_alone script s (has_come s w) (CaseKind.Recv o) ≡ true → ⊥
recv-not script s p w o good idle now gets ready =
    elim (what_at script o) as (λ q. what_at script o ≡ q → is_ready_recv s (has_come s w) o q ≡ true → ⊥) [
      | None ↦ λ is h. cc
      | Some what ↦ λ is h. gives-not script s p w o what good idle now gets is h
    ] refl ready

-- the channel of a send was made: else it is a misuse
send-fault : (s : State) (c v : ℕ) → case_fault s (CaseKind.Send c v) ≡ None → is_some (channel_at s c) ≡ true
send-fault s c v h = some-not_none (channel_at s c) (none-when (is_none (channel_at s c)) Reason.Unmade h)

no-first : (a b : Option Reason) → or_else a b ≡ None → (a ≡ None) × (b ≡ None)
no-first None b h = (refl, h)
no-first (Some reason) b h = cc

no-case_fault : (s : State) (cases : List Case) (k : ℕ) (c : Case) → choice_fault s cases ≡ None → slice_get cases k ≡ Some c → case_fault s c.kind ≡ None
no-case_fault s [] k c none e = cc
no-case_fault s (d ∷ cases) zero c none e =
    let is : d ≡ c = cc in
    subst (λ (c : Case). case_fault s c.kind ≡ None) is (no-first (case_fault s d.kind) (choice_fault s cases) none).0
no-case_fault s (d ∷ cases) (suc k) c none e = no-case_fault s cases k c (no-first (case_fault s d.kind) (choice_fault s cases) none).1 e

operation-fault : (script : Script) (s : State) (i : Instr) (n c v : ℕ) → fault script s i ≡ None → operation i n ≡ Some (CaseKind.Send c v) → is_some (channel_at s c) ≡ true
operation-fault script s (Instr.Send d w) zero c v none e =
    let same : d ≡ c = cc in
    subst (λ c. is_some (channel_at s c) ≡ true) same
    (some-not_none (channel_at s d) (none-when (is_none (channel_at s d)) Reason.Unmade (no-first (when (is_none (channel_at s d)) Reason.Unmade) (when (is_closed s d) Reason.Closed) none).0))
operation-fault script s (Instr.Send d w) (suc k) c v none e = cc
operation-fault script s (Instr.Recv o) zero c v none e = cc
operation-fault script s (Instr.Recv o) (suc k) c v none e = cc
operation-fault script s (Instr.Select cases default_to) zero c v none e = cc
operation-fault script s (Instr.Select cases default_to) (suc k) c v none e =
    let one : IsCase cases k (CaseKind.Send c v) = is-case cases k (CaseKind.Send c v) e in
    send-fault s c v (subst (λ kind. case_fault s kind ≡ None) one.its (no-case_fault s cases k one.item none one.there))
operation-fault script s (Instr.Lock m) zero c v none e = cc
operation-fault script s (Instr.Lock m) (suc k) c v none e = cc
operation-fault script s (Instr.Wait w) zero c v none e = cc
operation-fault script s (Instr.Wait w) (suc k) c v none e = cc
operation-fault script s _ n c v none e = cc

send-made : (script : Script) (s : State) (p : Party) (c v : ℕ) → Operates script s p (CaseKind.Send c v) → is_some (channel_at s c) ≡ true
send-made script s p c v sends =
    let at : AtOperation script s p (CaseKind.Send c v) = at_operation script s p (CaseKind.Send c v) sends.stands in
    operation-fault script s at.instr p.case_no c v (calm-fault script s p.g at.instr (operates-Does script s p (CaseKind.Send c v) at sends)) at.has

made-open : (o : Option Channel) → is_some o ≡ true → (elim o as (λ o. Bool) [ None ↦ false | Some r ↦ r.closed ]) ≡ false → (elim o as (λ o. Bool) [ None ↦ false | Some r ↦ not r.closed ]) ≡ true
made-open None h shut = cc
made-open (Some r) h shut = ap not shut

-- A send to a closed channel is a misuse, so that an idle program has none; to an open one with room it goes on
shut-not : (script : Script) (s : State) (p : Party) (c v : ℕ) → IsIdle script s → Operates script s p (CaseKind.Send c v) → is_closed s c ≡ true → ⊥
shut-not script s p c v idle sends shut =
    let chooses : ChoosesClosed s (operation_at script s p) Reason.Closed =
    subst (λ o. ChoosesClosed s o Reason.Closed) (sym sends.stands) (shut, refl) in
    idle (Entry.Panic p Reason.Closed)
    (subst (λ (o : Option (ℕ × Reason)). MatchOption o (ChoosesClosed s (operation_at script s p) Reason.Closed) (λ x. x ≡ (p.case_no, Reason.Closed))) (sym sends.calm) chooses)

send-open : (script : Script) (s : State) (p : Party) (c v : ℕ) → IsIdle script s → Operates script s p (CaseKind.Send c v) → is_open s c ≡ true
send-open script s p c v idle sends =
    made-open (channel_at s c) (send-made script s p c v sends) (not_true (is_closed s c) (shut-not script s p c v idle sends))

send-not : (script : Script) (s : State) (p : Party) (c v : ℕ) → IsIdle script s → Operates script s p (CaseKind.Send c v)
    → (is_closed s c || nat_lt (item_count s c) (capacity_of script c)) ≡ true → ⊥
send-not script s p c v idle sends ready =
    either-not (is_closed s c) (nat_lt (item_count s c) (capacity_of script c)) ready (shut-not script s p c v idle sends)
    (λ room. idle (Entry.Send p c v) (sends, send-open script s p c v idle sends, ltb-true (item_count s c) (capacity_of script c) room))

-- a sender and a receiver at a channel that keeps no values, of whom one would wait
pair-not : (script : Script) (s : State) (from to : Party) (c v : ℕ) → IsIdle script s → Operates script s from (CaseKind.Send c v) → Operates script s to (CaseKind.Recv c)
    → capacity_of script c ≡ 0 → from.g ≢ to.g → IsTrue (not (is_polling script s from.g && is_polling script s to.g)) → ⊥
pair-not script s from to c v idle sends gets none other waits = idle (Entry.Pair from to c v) (sends, gets, send-open script s from c v idle sends, none, other, waits)

-- who does an instruction at which it would wait is not at a choice with a default
pub waits-polling : (script : Script) (s : State) (g : ℕ) (i : Instr) → Does script s g i → polls i ≡ false → is_polling script s g ≡ false
waits-polling script s g i does waits = ap (λ (o : Option Instr). elim o as (λ o. Bool) [ None ↦ false | Some i ↦ polls i ]) does.stands ∙ waits

not-and_left : (a b : Bool) → a ≡ false → not (a && b) ≡ true
not-and_left false b h = refl
not-and_left true b h = cc

not-and_right : (a b : Bool) → b ≡ false → not (a && b) ≡ true
not-and_right false b h = refl
not-and_right true false h = refl
not-and_right true true h = cc

-- who receives from such a channel has a sender there
recv-partner-not : (script : Script) (s : State) (p : Party) (o : ℕ) → IsIdle script s → Operates script s p (CaseKind.Recv o) → has_partner script s everyone p.g (CaseKind.Recv o) ≡ true → ⊥
recv-partner-not script s p o idle gets ready =
    let waits = and_parts (is_chan script o && capacity_of script o == 0) (partner_waits script s everyone p.g (sends_to o)) ready in
    let none = and_parts (is_chan script o) (capacity_of script o == 0) waits.0 in
    let q : Partner script s everyone p.g (sends_to o) = partner script s everyone p.g (sends_to o) waits.1 in
    let to : SendsTo q.instr o = sends-send q.instr o q.passes in
    let from : Party = record { g = q.number; case_no = to.case_no } in
    pair-not script s from p o to.value idle (does-Operates script s from q.instr (CaseKind.Send o to.value) to.has q.does) gets (eqb-true (capacity_of script o) 0 none.1) q.other
    (not-and_left (is_polling script s q.number) (is_polling script s p.g) (waits-polling script s q.number q.instr q.does q.waits))

-- and who sends to it a receiver
send-partner-not : (script : Script) (s : State) (p : Party) (c v : ℕ) → IsIdle script s → Operates script s p (CaseKind.Send c v) → has_partner script s everyone p.g (CaseKind.Send c v) ≡ true → ⊥
send-partner-not script s p c v idle sends ready =
    let waits = and_parts (capacity_of script c == 0) (partner_waits script s everyone p.g (receives_from c)) ready in
    let q : Partner script s everyone p.g (receives_from c) = partner script s everyone p.g (receives_from c) waits.1 in
    let gets : ReceivesFrom q.instr c = receives-recv q.instr c q.passes in
    let to : Party = record { g = q.number; case_no = gets.case_no } in
    pair-not script s p to c v idle sends (does-Operates script s to q.instr (CaseKind.Recv c) gets.has q.does) (eqb-true (capacity_of script c) 0 waits.0) (λ e. q.other (sym e))
    (not-and_right (is_polling script s p.g) (is_polling script s q.number) (waits-polling script s q.number q.instr q.does q.waits))

-- an operation that is ready has its entry
alone-not : (script : Script) (s : State) (p : Party) (w : ℕ) (kind : CaseKind) → IsGood script → IsIdle script s → clock_of s p.g ≡ clock s w → Operates script s p kind
    → is_ready_alone script s (has_come s w) kind ≡ true → ⊥
alone-not script s p w (CaseKind.Recv o) good idle now gets ready = recv-not script s p w o good idle now gets ready
alone-not script s p w (CaseKind.Send c v) good idle now sends ready = send-not script s p c v idle sends ready

partner-not : (script : Script) (s : State) (p : Party) (kind : CaseKind) → IsIdle script s → Operates script s p kind → has_partner script s everyone p.g kind ≡ true → ⊥
partner-not script s p (CaseKind.Recv o) idle gets ready = recv-partner-not script s p o idle gets ready
partner-not script s p (CaseKind.Send c v) idle sends ready = send-partner-not script s p c v idle sends ready

operation-not : (script : Script) (s : State) (p : Party) (w : ℕ) (kind : CaseKind) → IsGood script → IsIdle script s → clock_of s p.g ≡ clock s w → Operates script s p kind
    → is_ready_case script s (has_come s w) everyone p.g kind ≡ true → ⊥
operation-not script s p w kind good idle now h ready =
    either-not (is_ready_alone script s (has_come s w) kind) (has_partner script s everyone p.g kind) ready (alone-not script s p w kind good idle now h) (partner-not script s p kind idle h)

-- who stands at a plain operation, and at a case of a choice
plain-not : (script : Script) (s : State) (g w : ℕ) (i : Instr) (kind : CaseKind) → IsGood script → IsIdle script s → clock_of s g ≡ clock s w → Does script s g i → operation i 0 ≡ Some kind
    → is_ready_case script s (has_come s w) everyone g kind ≡ true → ⊥
plain-not script s g w i kind good idle now does has ready =
    let p : Party = record { g = g; case_no = 0 } in
    operation-not script s p w kind good idle now (does-Operates script s p i kind has does) ready

case-not : (script : Script) (s : State) (g w : ℕ) (cases : List Case) (default_to : Option ℕ) → IsGood script → IsIdle script s → clock_of s g ≡ clock s w → Does script s g (Instr.Select cases default_to)
    → list_any (λ (c : Case). is_ready_case script s (has_come s w) everyone g c.kind) cases ≡ true → ⊥
case-not script s g w cases default_to good idle now does ready =
    let one : HasAny (λ (c : Case). is_ready_case script s (has_come s w) everyone g c.kind) cases = any-has (λ (c : Case). is_ready_case script s (has_come s w) everyone g c.kind) cases ready in
    let p : Party = record { g = g; case_no = suc one.place } in
    operation-not script s p w one.item.kind good idle now
    (does-Operates script s p (Instr.Select cases default_to) one.item.kind (ap (option_map (λ (c : Case). c.kind)) one.there) does) one.passes

-- a choice with a default takes it where no case could go on but by a partner
default-not : (script : Script) (s : State) (g : ℕ) (cases : List Case) (default_to : Option ℕ) → IsGood script → IsIdle script s → Does script s g (Instr.Select cases default_to) → is_some default_to ≡ true → ⊥
default-not script s g cases None good idle does h = cc
default-not script s g cases (Some to) good idle does h =
    idle (Entry.Default g) (record {
      cases = cases;
      to = to;
      does = does;
      none = λ k d below.
          not_true (is_ready_alone script s (has_come s (world_of s g)) (get_or cases k d).kind)
          (alone-not script s (record { g = g; case_no = suc k }) (world_of s g) (get_or cases k d).kind good idle refl
          (does-Operates script s (record { g = g; case_no = suc k }) (Instr.Select cases (Some to)) (get_or cases k d).kind
          (ap (option_map (λ (c : Case). c.kind)) (slice_get-get_or cases k d below)) does));
    })

-- who signals wakes somebody where one waits, and nobody where nobody does
signal-not : (script : Script) (s : State) (g k n : ℕ) → IsIdle script s → Does script s g (Instr.Signal k) → suspended_count s k ≡ n → ⊥
signal-not script s g k zero idle does count = idle (Entry.Signal g k None) (does, count)
signal-not script s g k (suc n) idle does count = let one : Waiter s k = waiter s k n count in idle (Entry.Signal g k (Some one.number)) (does, one.waits)

-- who stands at an instruction that is ready, and makes no misuse, has an entry: the program is not idle
pub idle-not : (script : Script) (s : State) (g w : ℕ) (i : Instr) → IsGood script → IsIdle script s → clock_of s g ≡ clock s w → Does script s g i
    → is_ready_instr script s (has_come s w) everyone g i ≡ true → ⊥
idle-not script s g w (Instr.Say n) good idle now does ready = idle (Entry.Say g n) does
idle-not script s g w Instr.Now good idle now does ready = idle (Entry.Now g (clock_of s g)) (does, refl)
idle-not script s g w (Instr.Sleep d) good idle now does ready = idle (Entry.Sleep g (sleep_end (clock_of s g) d)) (d, does, refl)
idle-not script s g w (Instr.Go f) good idle now does ready = idle (Entry.Go g (next_number s) f) (does, refl)
idle-not script s g w (Instr.New t d) good idle now does ready = idle (Entry.New g t (due_at (clock_of s g) d)) (d, does, refl)
idle-not script s g w (Instr.Stop t) good idle now does ready = idle (Entry.Stop g t (was_set script s t)) (does, refl)
idle-not script s g w (Instr.Reset t d) good idle now does ready = idle (Entry.Reset g t (was_set script s t) (due_at (clock_of s g) d)) (d, does, refl, refl)
idle-not script s g w (Instr.Recv o) good idle now does ready =
    plain-not script s g w (Instr.Recv o) (CaseKind.Recv o) good idle now does refl ready
idle-not script s g w (Instr.Make c) good idle now does ready = idle (Entry.Make g c) does
idle-not script s g w (Instr.Send c v) good idle now does ready =
    plain-not script s g w (Instr.Send c v) (CaseKind.Send c v) good idle now does refl ready
idle-not script s g w (Instr.Close c) good idle now does ready = idle (Entry.Close g c) does
idle-not script s g w (Instr.Lock m) good idle now does ready = plain-not script s g w (Instr.Lock m) (CaseKind.Recv m) good idle now does refl ready
idle-not script s g w (Instr.Unlock m) good idle now does ready = idle (Entry.Unlock g m) does
idle-not script s g w (Instr.CWait k) good idle now does ready = idle (Entry.CondWait g k) does
idle-not script s g w (Instr.Signal k) good idle now does ready = signal-not script s g k (suspended_count s k) idle does refl
idle-not script s g w (Instr.Broadcast k) good idle now does ready = idle (Entry.Broadcast g k (suspended_count s k)) (does, refl)
idle-not script s g w (Instr.Add k n) good idle now does ready = idle (Entry.Add g k n) does
idle-not script s g w (Instr.Wait k) good idle now does ready = plain-not script s g w (Instr.Wait k) (CaseKind.Recv k) good idle now does refl ready
idle-not script s g w (Instr.With x) good idle now does ready = idle (Entry.CtxMake g x (is_some (made_context script s (world_of s g) x).end)) (does, refl)
idle-not script s g w (Instr.Cancel x named) good idle now does ready = idle (Entry.Cancel g x (not (has_ended s x)) (start_count script s x)) (named, does, refl, refl)
idle-not script s g w (Instr.ErrOf x) good idle now does ready = idle (Entry.CtxErr g x (option_map (λ (end : End). end.err) (end_at s x))) (does, refl)
idle-not script s g w (Instr.CauseOf x) good idle now does ready = idle (Entry.Cause g x (option_map (λ (end : End). end.cause) (end_at s x))) (does, refl)
idle-not script s g w (Instr.After h) good idle now does ready = idle (Entry.CtxAfter g h (cond (hook_is_due script s h) (Some (next_number s)) None)) (does, refl)
idle-not script s g w (Instr.Unhook h) good idle now does ready = idle (Entry.CtxStop g h (is_waiting_hook (hook_at s h))) (does, refl)
idle-not script s g w Instr.Finish good idle now does ready = idle (Entry.End g) does
idle-not script s g w (Instr.LoopTop depth count past) good idle now does ready = cc
idle-not script s g w (Instr.LoopEnd depth top) good idle now does ready = cc
idle-not script s g w (Instr.Jump to) good idle now does ready = cc
idle-not script s g w (Instr.Select cases default_to) good idle now does ready =
    either-not (is_some default_to) (list_any (λ (c : Case). is_ready_case script s (has_come s w) everyone g c.kind) cases) ready
    (default-not script s g cases default_to good idle does) (case-not script s g w cases default_to good idle now does)
