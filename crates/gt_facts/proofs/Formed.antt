-- The states that a run reaches are formed, and the program's clock never falls.
use Rattle.std.proofs.Common.{◌≡◌, ℕ, zero, suc, ◌+◌, ◌<◌, ◌≤◌, List, [], ◌∷◌, ◌++◌, map, set, length, refl, sym, ap, subst, ◌∙◌, arith, slice_get, slice_index, Option, None, Some, Bool, true, false, cond, IsTrue, IsSomeAnd, IfSome, option_map, drop, eqb}
use Rattle.std.proofs.lemmas.Bool.{eqb-true, eqb-false}
use Rattle.std.proofs.lemmas.List.{length-map, length-set}
use Rattle.std.proofs.lemmas.Option.{slice_get_within}
use Rattle.std.proofs.Math.ListN.{length-append}
use Rattle.gt_model.specs.declared.script.Script.{Script}
use Rattle.gt_model.specs.declared.script.Decl.{Decl}
use Rattle.gt_model.specs.declared.script.Func.{Func}
use Rattle.gt_model.specs.declared.script.What.{What}
use Rattle.gt_model.specs.declared.script.Instr.{Instr}
use Rattle.gt_model.specs.declared.script.Place.{Place}
use Rattle.gt_model.specs.declared.entry.Entry.{Entry}
use Rattle.gt_model.specs.declared.entry.Limits.{Limits}
use Rattle.gt_model.specs.declared.entry.Outcome.{Outcome}
use Rattle.gt_model.specs.declared.entry.Party.{Party}
use Rattle.gt_model.specs.declared.script.CaseKind.{CaseKind}
use Rattle.gt_model.specs.declared.state.Goroutine.{Goroutine}
use Rattle.gt_model.specs.declared.state.Timer.{Timer}
use Rattle.gt_model.specs.declared.state.Mode.{Mode}
use Rattle.gt_model.specs.Times.{greatest_time}
use Rattle.gt_model.specs.Tables.{at, change, change_numbered, flatten}
use Rattle.gt_rules.specs.State.{State, Channel, goroutine_at, mode_of, stands_at, until_of, suspended_at, relocking_at, is_suspended, sleeps_until, clock, clock_of, world_of, timer_at, channel_at, item_count, context_at}
use Rattle.gt_rules.specs.Contexts.{starting, hook_world}
use Rattle.gt_model.specs.declared.context.Context.{Context}
use Rattle.gt_model.specs.Script.{code_of, instr_at, is_func, is_cond, names_func, func_of, capacity_of, ctx_of, hook_func}
use Rattle.gt_model.specs.Good.{IsGood, IsGoodCode, DeclaresRightly, is_finish}
use Rattle.gt_rules.specs.declared.change.Move.{Move}
use Rattle.gt_rules.specs.declared.change.Setting.{Setting}
use Rattle.gt_rules.specs.declared.change.Start.{Start}
use Rattle.gt_rules.specs.declared.change.Trade.{Trade}
use Rattle.gt_rules.specs.Change.{Change, change_of}
use Rattle.gt_rules.specs.After.{after, first_state, moved_on, moved, in_mode, begun, set_due, set_again, timer_world, number_of, new_period, retimed, with_mover, signalled, with_signalled, with_starts, started_by, with_retimed, with_clock, with_items, shut, traded, with_traded}
use Rattle.gt_rules.specs.Legal.{May, Operates}
use Rattle.gt_rules.specs.Operations.{operation}
use Rattle.gt_rules.specs.Finish.{Legal}
use Rattle.gt_rules.specs.History.{AllLegal, state_after}
use Rattle.gt_rules.specs.Places.{silent, silent_at, settled, next_of, place_after}
use Rattle.gt_facts.specs.Formed.{IsFormed, IsFormedChannel, started_count, IsOnWay, IsPlaced, IsPlacedIn}
use Rattle.gt_model.proofs.GoodCode.{HasItem, has_item, all_at, main_within}
use Rattle.gt_facts.proofs.Landing.{way-forward, next-way, passes, Landed, landed}
use Rattle.gt_facts.proofs.Lookups.{Standing, standing, AtOperation, at_operation, mode_is, names-instr_at}
use Rattle.gt_facts.proofs.Suspended.{suspended-mode, signals-other, all-signalled}
pub use Rattle.gt_facts.proofs.Suspended.{length-signalled}
use Rattle.gt_facts.proofs.Makers.{Maker, calls, receives, trades, pairs, wakes, ticks, panics, retakes, signals, maker, Leaves, Sets, sets, Trades, trades-May}
use Rattle.gt_facts.proofs.Starts.{Begins, AllBegin, starts, starts-few}
use Rattle.gt_facts.proofs.Contexts.{AreContexts, AreHooks, IsHookOf, contexts-of, hooks-of, contexts-first, hooks-first, contexts-entered, hooks-entered}
use Rattle.gt_facts.proofs.Counters.{AreSyncs, syncs-finished, syncs-entered, syncs-first}
use Rattle.gt_facts.proofs.Periods.{ArePeriods, periods-first, periods-entered}
use Rattle.gt_facts.proofs.Within.{chan_within, hook_func-within}
use Rattle.gt_model.proofs.Items.{at-is, at-change_other, numbered-change_other}
use Rattle.gt_model.proofs.Changes.{AllAt, AllNumbered, all-change, all-set, all_numbered-change, all_numbered-append, length-change, length-change_numbered}

-- ---- the facts of a state, part by part

pub record AreClocks (clocks : List ℕ) : Type 0 where
  pub one : clocks ≡ slice_index clocks 0 ∷ []
  pub time : slice_index clocks 0 ≤ greatest_time

-- who waits at a Cond, or for its mutex, waits at what is declared as one
abbrev pub WaitsRightly : Script → Mode → Type 0
WaitsRightly script mode = IfSome (suspended_at mode) (λ k. IsTrue (is_cond script k)) × IfSome (relocking_at mode) (λ k. IsTrue (is_cond script k))

pub record IsFormedGoroutine (script : Script) (r : Goroutine) : Type 0 where
  pub world : r.world ≡ 0
  pub placed : IsPlaced script r
  pub until : IfSome (until_of r.mode) (λ until. until ≤ greatest_time)
  pub conds : WaitsRightly script r.mode

pub record IsFormedTimer (r : Timer) : Type 0 where
  pub world : r.world ≡ 0
  pub due : IfSome r.due (λ due. due ≤ greatest_time)

pub record AreGoroutines (script : Script) (gs : List Goroutine) : Type 0 where
  pub each : AllNumbered (IsFormedGoroutine script) gs

pub record AreTimers (script : Script) (ts : List (Option Timer)) : Type 0 where
  pub count : length ts ≡ length script.decls
  pub each : AllAt (λ (o : Option Timer). IfSome o IsFormedTimer) ts

pub record AreChannels (script : Script) (cs : List (Option Channel)) : Type 0 where
  pub count : length cs ≡ length script.decls
  pub each : (c : ℕ) (r : Channel) → at cs c ≡ Some r → IsFormedChannel script c r

formed-parts : (script : Script) (s : State) → AreClocks s.clocks → AreGoroutines script s.goroutines → length s.goroutines ≤ s.entries + 1 + started_count s → AreTimers script s.timers
    → ArePeriods script s.timers → AreChannels script s.channels → AreSyncs script s.entries s.syncs → AreContexts script s.contexts → AreHooks script s.contexts s.hooks → IsFormed script s
formed-parts script s clocks gs few ts periods cs ys xs hs =
    let timer : (t : ℕ) (r : Timer) → timer_at s t ≡ Some r → IsFormedTimer r = λ t r e. ts.each t (Some r) (at-is s.timers t r e) in
    record {
      world = record { goroutines = λ g r e. (gs.each g r e).world; timers = λ t r e. (timer t r e).world; contexts = λ x r e. (xs.each x r e).world };
      one_clock = clocks.one;
      time = clocks.time;
      placed = λ g r e. (gs.each g r e).placed;
      untils = λ g r e. (gs.each g r e).until;
      conds = λ g r e. (gs.each g r e).conds;
      few = few;
      timers = ts.count;
      dues = λ t r e. (timer t r e).due;
      periods = periods;
      channels = cs.count;
      chans = cs.each;
      syncs = ys.count;
      counters = ys.each;
      contexts = xs.count;
      ctxs = xs.each;
      hooks = hs.count;
      hooked = λ h is. (let was : IsHookOf script s.contexts h = hs.each h is in record { named = was.named; made = was.made });
    }

clocks-of : (script : Script) (s : State) → IsFormed script s → AreClocks s.clocks
clocks-of script s formed = record { one = formed.one_clock; time = formed.time }

goroutines-of : (script : Script) (s : State) → IsFormed script s → AreGoroutines script s.goroutines
goroutines-of script s formed = record {
  each = λ g r e. record { world = formed.world.goroutines g r e; placed = formed.placed g r e; until = formed.untils g r e; conds = formed.conds g r e };
}

timers-of : (script : Script) (s : State) → IsFormed script s → AreTimers script s.timers
timers-of script s formed = record {
  count = formed.timers;
  each = λ t o. elim o as (λ o. slice_get s.timers t ≡ Some o → IfSome o IsFormedTimer) [
    | None ↦ λ e. tt
    | Some r ↦ λ e. let is : timer_at s t ≡ Some r = ap flatten e in record { world = formed.world.timers t r is; due = formed.dues t r is }
  ];
}

channels-of : (script : Script) (s : State) → IsFormed script s → AreChannels script s.channels
channels-of script s formed = record { count = formed.channels; each = formed.chans }

-- ---- places

good_code : (script : Script) (func place : ℕ) → IsGood script → place < length (code_of script func) → IsGoodCode script (code_of script func)
good_code script func place good h =
    let code_in : Option Func → List Instr = λ o. elim o [ None ↦ [] | Some f ↦ f.code ] in
    elim (slice_get script.funcs func) as (λ o. slice_get script.funcs func ≡ o → place < length (code_in o) → IsGoodCode script (code_in o)) [
      | None ↦ λ e k. let none : place < 0 = k in absurd (omega arith)
      | Some f ↦ λ e k. all_at (λ (f : Func). IsGoodCode script f.code) script.funcs func f good.code e
    ] refl h

instr_there : (script : Script) (s : State) (g : ℕ) (i : Instr) (r : Goroutine) → stands_at script s g ≡ Some i → goroutine_at s g ≡ Some r → instr_at script r.place ≡ Some i
instr_there script s g i r h e =
    let st : Standing script s g i = standing script s g i h in
    let there : goroutine_at s g ≡ Some st.who = st.there in
    let same : st.who ≡ r = cc in
    subst (λ (q : Goroutine). instr_at script q.place ≡ Some i) same st.on

awake_there : (script : Script) (s : State) (g : ℕ) (i : Instr) (r : Goroutine) → stands_at script s g ≡ Some i → goroutine_at s g ≡ Some r → r.mode ≡ Mode.At
awake_there script s g i r h e =
    let st : Standing script s g i = standing script s g i h in
    let there : goroutine_at s g ≡ Some st.who = st.there in
    let same : st.who ≡ r = cc in
    subst (λ (q : Goroutine). q.mode ≡ Mode.At) same st.at

-- an instruction that makes an entry
silent-here : (script : Script) (p : Place) (i : Instr) → instr_at script p ≡ Some i → silent_at (code_of script p.func) p ≡ None → silent p i ≡ None
silent-here script p i on none = sym (ap (λ (o : Option Instr). elim o as (λ o. Option Place) [ None ↦ None | Some i ↦ silent p i ]) on) ∙ none

passes-not : (p : Place) (i : Instr) → silent p i ≡ None → passes i ≡ false
passes-not p (Instr.LoopTop depth zero past) none = cc
passes-not p _ none = refl

follows : (script : Script) (s : State) (g : ℕ) (i : Instr) (r : Goroutine) → IsGood script → IsFormed script s → stands_at script s g ≡ Some i → is_finish i ≡ false → goroutine_at s g ≡ Some r
    → IsOnWay (code_of script r.place.func) (r.place.at + 1)
follows script s g i r good formed h next e =
    let on : instr_at script r.place ≡ Some i = instr_there script s g i r h e in
    let at : r.mode ≡ Mode.At = awake_there script s g i r h e in
    let placed : IsPlacedIn (code_of script r.place.func) r.place Mode.At = subst (IsPlacedIn (code_of script r.place.func) r.place) at (formed.placed g r e) in
    way-forward script (code_of script r.place.func) r.place.at i (good_code script r.place.func r.place.at good (slice_get_within (code_of script r.place.func) r.place.at i on)) placed.0 on next
    (passes-not r.place i (silent-here script r.place i on placed.1))

-- who goes on from the way stands at an instruction again
lands-placed : (script : Script) (p : Place) → IsGood script → IsOnWay (code_of script p.func) p.at → IsPlacedIn (code_of script (settled script p).func) (settled script p) Mode.At
lands-placed script p good way =
    let to : Landed (code_of script p.func) p = landed script (code_of script p.func) p (good_code script p.func p.at good way.within) way in
    subst (λ f. IsPlacedIn (code_of script f) (settled script p) Mode.At) (sym to.func) (to.way, to.stands)

-- where a goroutine of a function goes on after an operation with any case number
goes_on-way : (script : Script) (p : Place) (n : ℕ) → IsGood script → IsOnWay (code_of script p.func) p.at → IsOnWay (code_of script p.func) (p.at + 1)
    → IsOnWay (code_of script p.func) (next_of (instr_at script p) n (p.at + 1))
goes_on-way script p n good way behind =
    elim (instr_at script p) as (λ o. instr_at script p ≡ o → IsOnWay (code_of script p.func) (next_of o n (p.at + 1))) [
      | None ↦ λ on. behind
      | Some x ↦ λ on. next-way script (code_of script p.func) p.at n x (good_code script p.func p.at good way.within) way on behind
    ] refl

after-placed : (script : Script) (p : Place) (n : ℕ) → IsGood script → IsOnWay (code_of script p.func) p.at → IsOnWay (code_of script p.func) (p.at + 1)
    → IsPlacedIn (code_of script (place_after script n p).func) (place_after script n p) Mode.At
after-placed script p n good way behind =
    lands-placed script (record p { at = next_of (instr_at script p) n (p.at + 1) }) good (goes_on-way script p n good way behind)

-- the beginning of a function is in no loop
begins : (script : Script) (f : ℕ) → IsGood script → f < length script.funcs → IsOnWay (code_of script f) 0
begins script f good h =
    let found : HasItem script.funcs f = has_item script.funcs f h in
    let code : IsGoodCode script found.item.code = all_at (λ (x : Func). IsGoodCode script x.code) script.funcs f found.item good.code found.there in
    let is : code_of script f ≡ found.item.code = rw (found.there, code_of) refl in
    record { within = subst (λ (xs : List Instr). 0 < length xs) (sym is) code.some; entered = λ i depth past top before inside. absurd (omega arith) }

begun-formed : (script : Script) (w f : ℕ) → IsGood script → w ≡ 0 → f < length script.funcs → IsFormedGoroutine script (begun script w f)
begun-formed script w f good zero_world h =
    record { world = zero_world; placed = lands-placed script (record { func = f; at = 0; loops = 0 ∷ 0 ∷ 0 ∷ 0 ∷ [] }) good (begins script f good h); until = tt; conds = (tt, tt) }

-- ---- the first state

all-none : (ds : List Decl) → AllAt (λ (o : Option Timer). IfSome o IsFormedTimer) (map (λ (d : Decl). None) ds)
all-none [] t o e = cc
all-none (d ∷ ds) zero o e = let is : None ≡ o = cc in subst (λ (o : Option Timer). IfSome o IsFormedTimer) is tt
all-none (d ∷ ds) (suc t) o e = all-none ds t o e

-- no channel is made at first
none_channel : (script : Script) (ds : List Decl) (c k : ℕ) (r : Channel) → at (map (λ (d : Decl). None) ds) c ≡ Some r → IsFormedChannel script k r
none_channel script [] c k r e = cc
none_channel script (d ∷ ds) zero k r e = cc
none_channel script (d ∷ ds) (suc c) k r e = none_channel script ds c k r e

none_numbered : (script : Script) → AllNumbered (IsFormedGoroutine script) []
none_numbered script zero r e = cc
none_numbered script (suc g) r e = cc

pub formed-first : (script : Script) → IsGood script → IsFormed script (first_state script)
formed-first script good =
    formed-parts script (first_state script) (record { one = refl; time = omega arith })
    (record { each = all_numbered-append (IsFormedGoroutine script) [] (begun script 0 script.main) (none_numbered script) (begun-formed script 0 script.main good refl (main_within script good)) })
    (omega arith)
    (record { count = length-map script.decls (λ (d : Decl). None); each = all-none script.decls })
    (periods-first script)
    (record { count = length-map script.decls (λ (d : Decl). None); each = λ c r e. none_channel script script.decls c c r e })
    (syncs-first script) (contexts-first script) (hooks-first script)

-- ---- goroutines

pub placed_inside : (code : List Instr) (p : Place) (m : Mode) → IsPlacedIn code p m → IsOnWay code p.at
placed_inside code p Mode.At h = h.0
placed_inside code p (Mode.Sleeping until) h = h.0
placed_inside code p (Mode.Suspended k) h = h.0
placed_inside code p (Mode.Relocking k) h = h.0
placed_inside code p Mode.Ended h = h

moved-formed : (script : Script) (s : State) (g n : ℕ) (i : Instr) (r : Goroutine) → IsGood script → IsFormed script s → stands_at script s g ≡ Some i → is_finish i ≡ false
    → goroutine_at s g ≡ Some r → IsFormedGoroutine script (moved_on script n r)
moved-formed script s g n i r good formed h next e = record {
  world = formed.world.goroutines g r e;
  placed = after-placed script r.place n good (placed_inside (code_of script r.place.func) r.place r.mode (formed.placed g r e)) (follows script s g i r good formed h next e);
  until = tt;
  conds = (tt, tt);
}

-- a sleeper goes on behind its sleep
placed_next : (code : List Instr) (p : Place) (now : ℕ) (m : Mode) → IsPlacedIn code p m → IsSomeAnd (until_of m) (λ until. until ≤ now) → IsOnWay code (p.at + 1)
placed_next code p now (Mode.Sleeping until) h k = h.1
placed_next code p now _ h k = absurd k

behind-formed : (script : Script) (s : State) (g : ℕ) (r : Goroutine) → IsGood script → IsFormed script s → goroutine_at s g ≡ Some r → IsOnWay (code_of script r.place.func) (r.place.at + 1)
    → IsFormedGoroutine script (moved_on script 0 r)
behind-formed script s g r good formed e behind = record {
  world = formed.world.goroutines g r e;
  placed = after-placed script r.place 0 good (placed_inside (code_of script r.place.func) r.place r.mode (formed.placed g r e)) behind;
  until = tt;
  conds = (tt, tt);
}

woken-formed : (script : Script) (s : State) (g now : ℕ) (r : Goroutine) → IsGood script → IsFormed script s → IsSomeAnd (sleeps_until s g) (λ until. until ≤ now) → goroutine_at s g ≡ Some r
    → IsFormedGoroutine script (moved_on script 0 r)
woken-formed script s g now r good formed h e =
    let slept : IsSomeAnd (until_of r.mode) (λ until. until ≤ now) =
    subst (λ (o : Option Goroutine). IsSomeAnd (elim (option_map (λ (q : Goroutine). q.mode) o) [ None ↦ None | Some mode ↦ until_of mode ]) (λ until. until ≤ now)) e h in
    behind-formed script s g r good formed e (placed_next (code_of script r.place.func) r.place now r.mode (formed.placed g r e) slept)

-- who was signalled at a Cond goes on behind its wait
relocked-formed : (script : Script) (s : State) (g k : ℕ) (r : Goroutine) → IsGood script → IsFormed script s → mode_of s g ≡ Some (Mode.Relocking k) → goroutine_at s g ≡ Some r
    → IsFormedGoroutine script (moved_on script 0 r)
relocked-formed script s g k r good formed h e =
    let placed : IsPlacedIn (code_of script r.place.func) r.place (Mode.Relocking k) =
    subst (IsPlacedIn (code_of script r.place.func) r.place) (mode_is s g r (Mode.Relocking k) h e) (formed.placed g r e) in
    behind-formed script s g r good formed e placed.1

-- and who is signalled there waits for its mutex
relocks-formed : (script : Script) (k : ℕ) (r : Goroutine) → IsFormedGoroutine script r → r.mode ≡ Mode.Suspended k → IsFormedGoroutine script (in_mode (Mode.Relocking k) r)
relocks-formed script k r was its = record {
  world = was.world;
  placed = subst (IsPlacedIn (code_of script r.place.func) r.place) its was.placed;
  until = tt;
  conds = (tt, (subst (WaitsRightly script) its was.conds).0);
}

signalled-formed : (script : Script) (k : ℕ) (r : Goroutine) → IsFormedGoroutine script r → IsFormedGoroutine script (signalled k r)
signalled-formed script k r was =
    elim (is_suspended k r) as (λ b. is_suspended k r ≡ b → IsFormedGoroutine script (cond b (in_mode (Mode.Relocking k) r) r)) [
      | true ↦ λ e. relocks-formed script k r was (suspended-mode k r e)
      | false ↦ λ e. was
    ] refl

ended-formed : (script : Script) (s : State) (g : ℕ) (r : Goroutine) → IsFormed script s → goroutine_at s g ≡ Some r → IsFormedGoroutine script (in_mode Mode.Ended r)
ended-formed script s g r formed e = record {
  world = formed.world.goroutines g r e;
  placed = placed_inside (code_of script r.place.func) r.place r.mode (formed.placed g r e);
  until = tt;
  conds = (tt, tt);
}

-- a goroutine that leaves its instruction
leaves-formed : (script : Script) (s : State) (g : ℕ) (i : Instr) (m : Move) (r : Goroutine) → IsGood script → IsFormed script s → stands_at script s g ≡ Some i → Leaves i m → goroutine_at s g ≡ Some r
    → IsFormedGoroutine script (moved script m r)
leaves-formed script s g i (Move.GoesOn case_no) r good formed h next e = moved-formed script s g case_no i r good formed h next e
leaves-formed script s g i (Move.FallsAsleep until) r good formed h leaves e =
    record {
      world = formed.world.goroutines g r e;
      placed = (placed_inside (code_of script r.place.func) r.place r.mode (formed.placed g r e), follows script s g i r good formed h leaves.0 e);
      until = leaves.1;
      conds = (tt, tt);
    }
leaves-formed script s g i (Move.Suspends k) r good formed h leaves e =
    let on : instr_at script r.place ≡ Some (Instr.CWait k) = instr_there script s g i r h e ∙ ap Some leaves in
    record {
      world = formed.world.goroutines g r e;
      placed = (placed_inside (code_of script r.place.func) r.place r.mode (formed.placed g r e), follows script s g i r good formed h (ap is_finish leaves) e);
      until = tt;
      conds = (names-instr_at script r.place (Instr.CWait k) good on, tt);
    }
leaves-formed script s g i (Move.Relocks k) r good formed h leaves e = absurd leaves
leaves-formed script s g i Move.Ends r good formed h leaves e = ended-formed script s g r formed e
leaves-formed script s g i Move.Panics r good formed h leaves e = (goroutines-of script s formed).each g r e

changed_goroutines : (script : Script) (s : State) (g : ℕ) (f : Goroutine → Goroutine) → IsFormed script s → ((r : Goroutine) → goroutine_at s g ≡ Some r → IsFormedGoroutine script (f r))
    → AreGoroutines script (change_numbered s.goroutines g f)
changed_goroutines script s g f formed new = record { each = all_numbered-change (IsFormedGoroutine script) s.goroutines g f (goroutines-of script s formed).each new }

-- ---- timers

set_due-formed : (due : Option ℕ) (o : Option Timer) → IfSome due (λ d. d ≤ greatest_time) → IfSome o IsFormedTimer → IfSome (set_due due o) IsFormedTimer
set_due-formed due None time h = tt
set_due-formed due (Some r) time h = let was : IsFormedTimer r = h in record { world = was.world; due = time }

set_again-formed : (due period : ℕ) (o : Option Timer) → due ≤ greatest_time → IfSome o IsFormedTimer → IfSome (set_again due period o) IsFormedTimer
set_again-formed due period None time h = tt
set_again-formed due period (Some r) time h = let was : IsFormedTimer r = h in record { world = was.world; due = time }

changed_timers : (script : Script) (s : State) (t : ℕ) (f : Option Timer → Option Timer) → IsFormed script s → ((o : Option Timer) → IfSome o IsFormedTimer → IfSome (f o) IsFormedTimer)
    → AreTimers script (change s.timers t f)
changed_timers script s t f formed new =
    let ts : AreTimers script s.timers = timers-of script s formed in
    record {
      count = length-change s.timers t f ∙ ts.count;
      each = all-change (λ (o : Option Timer). IfSome o IsFormedTimer) s.timers t f ts.each (λ o e. new o (ts.each t o e));
    }

set_timers : (script : Script) (s : State) (t : ℕ) (r : Timer) → IsFormed script s → IsFormedTimer r → AreTimers script (set s.timers t (Some r))
set_timers script s t r formed new =
    let ts : AreTimers script s.timers = timers-of script s formed in
    record {
      count = length-set s.timers t (Some r) ∙ ts.count;
      each = all-set (λ (o : Option Timer). IfSome o IsFormedTimer) s.timers t (Some r) ts.each new;
    }

-- ---- worlds

pub world_of-zero : (script : Script) (s : State) (g : ℕ) → IsFormed script s → world_of s g ≡ 0
world_of-zero script s g formed = elim (goroutine_at s g) as (λ o. goroutine_at s g ≡ o → (elim o [ None ↦ 0 | Some r ↦ r.world ]) ≡ 0) [
  | None ↦ λ e. refl
  | Some r ↦ λ e. formed.world.goroutines g r e
] refl

pub timer_world-zero : (script : Script) (s : State) (t : ℕ) → IsFormed script s → timer_world s t ≡ 0
timer_world-zero script s t formed = elim (timer_at s t) as (λ o. timer_at s t ≡ o → (elim o [ None ↦ 0 | Some r ↦ r.world ]) ≡ 0) [
  | None ↦ λ e. refl
  | Some r ↦ λ e. formed.world.timers t r e
] refl

abbrev world_in : Option Context → ℕ
world_in o = elim o [ None ↦ 0 | Some r ↦ r.world ]

context_world-zero : (script : Script) (s : State) (x : ℕ) → IsFormed script s → world_in (context_at s x) ≡ 0
context_world-zero script s x formed = elim (context_at s x) as (λ o. context_at s x ≡ o → world_in o ≡ 0) [
  | None ↦ λ e. refl
  | Some r ↦ λ e. formed.world.contexts x r e
] refl

pub hook_world-zero : (script : Script) (s : State) (h : ℕ) → IsFormed script s → hook_world script s h ≡ 0
hook_world-zero script s h formed = elim (ctx_of script h) as (λ o. (elim o [ None ↦ 0 | Some x ↦ world_in (context_at s x) ]) ≡ 0) [
  | None ↦ refl
  | Some x ↦ context_world-zero script s x formed
]

starts_what : (script : Script) (what : What) → DeclaresRightly script what → names_func (Some what) ≡ true → (elim what [ What.AfterFunc f ↦ f | _ ↦ 0 ]) < length script.funcs
starts_what script What.Timer h k = cc
starts_what script What.Ticker h k = cc
starts_what script What.Mutex h k = cc
starts_what script What.Wg h k = cc
starts_what script (What.Cond mutex) h k = cc
starts_what script (What.AfterFunc f) h k = h
starts_what script (What.Chan cap) h k = cc
starts_what script (What.Ctx parent form) h k = cc
starts_what script (What.Hook ctx func) h k = cc
starts_what script What.Error h k = cc
starts_what script What.Function h k = cc

func_of-within : (script : Script) (t : ℕ) → IsGood script → is_func script t ≡ true → func_of script t < length script.funcs
func_of-within script t good h =
    elim (slice_get script.decls t)
    as (λ o. slice_get script.decls t ≡ o → names_func (option_map (λ (d : Decl). d.what) o) ≡ true
    → (elim (option_map (λ (d : Decl). d.what) o) [ None ↦ 0 | Some what ↦ elim what [ What.AfterFunc f ↦ f | _ ↦ 0 ] ]) < length script.funcs) [
      | None ↦ λ e k. cc
      | Some d ↦ λ e k. starts_what script d.what (all_at (λ (d : Decl). DeclaresRightly script d.what) script.decls t d good.declares e) k
    ] refl h

operation-next : (i : Instr) (n : ℕ) (kind : CaseKind) → operation i n ≡ Some kind → is_finish i ≡ false
operation-next Instr.Finish n kind e = cc
operation-next _ n kind e = refl

-- ---- the state after a change

pub length-mover : (script : Script) (gs : List Goroutine) (m : Option (ℕ × Move)) → length (with_mover script gs m) ≡ length gs
length-mover script gs None = refl
length-mover script gs (Some m) = length-change_numbered gs m.0 (moved script m.1)

-- two who make an entry, or of whom one signals the other, add nobody
pub length-movers : (script : Script) (gs : List Goroutine) (m p : Option (ℕ × Move)) → length (with_mover script (with_mover script gs m) p) ≡ length gs
length-movers script gs m p = length-mover script (with_mover script gs m) p ∙ length-mover script gs m

pub length-starts : (script : Script) (s : State) (gs : List Goroutine) (xs : List Start) → length (with_starts script s gs xs) ≡ length gs + length xs
length-starts script s gs [] = omega arith
length-starts script s gs (x ∷ xs) =
    let rest : length (with_starts script s (gs ++ started_by script s x ∷ []) xs) ≡ length (gs ++ started_by script s x ∷ []) + length xs =
    length-starts script s (gs ++ started_by script s x ∷ []) xs in
    let one : length (gs ++ started_by script s x ∷ []) ≡ length gs + 1 = length-append gs (started_by script s x ∷ []) in
    omega arith

-- who goes on after its operation
operates-formed : (script : Script) (s : State) (p : Party) (kind : CaseKind) (r : Goroutine) → IsGood script → IsFormed script s → Operates script s p kind → goroutine_at s p.g ≡ Some r
    → IsFormedGoroutine script (moved_on script p.case_no r)
operates-formed script s p kind r good formed call e =
    let at : AtOperation script s p kind = at_operation script s p kind call.stands in
    moved-formed script s p.g p.case_no at.instr r good formed at.stands (operation-next at.instr p.case_no kind at.has) e

mover-formed : (script : Script) (s : State) (m p : Option (ℕ × Move)) (k : Option (ℕ × ℕ)) → IsGood script → IsFormed script s → Maker script s m p k
    → AreGoroutines script (with_mover script s.goroutines m)
mover-formed script s m q k good formed (calls g i n does goes leaves) =
    changed_goroutines script s g (moved script n) formed (λ r e. leaves-formed script s g i n r good formed does.stands leaves e)
mover-formed script s m q k good formed (receives p t due call timer is come) =
    changed_goroutines script s p.g (moved_on script p.case_no) formed (λ r e. operates-formed script s p (CaseKind.Recv t) r good formed call e)
mover-formed script s m q k good formed (trades p kind call ready) =
    changed_goroutines script s p.g (moved_on script p.case_no) formed (λ r e. operates-formed script s p kind r good formed call e)
mover-formed script s m q k good formed (pairs from to c v sends gets chan none other waits) =
    changed_goroutines script s from.g (moved_on script from.case_no) formed (λ r e. operates-formed script s from (CaseKind.Send c v) r good formed sends e)
mover-formed script s m q k good formed (wakes g h) =
    changed_goroutines script s g (moved_on script 0) formed (λ r e. woken-formed script s g (clock_of s g) r good formed h e)
mover-formed script s m q k good formed (retakes g c relocks free) =
    changed_goroutines script s g (moved_on script 0) formed (λ r e. relocked-formed script s g c r good formed relocks e)
mover-formed script s m q k good formed (signals g c h does waits) =
    changed_goroutines script s g (moved_on script 0) formed (λ r e. moved-formed script s g 0 (Instr.Signal c) r good formed does.stands refl e)
mover-formed script s m q k good formed (panics p reason h) =
    changed_goroutines script s p.g (moved script Move.Panics) formed (λ r e. (goroutines-of script s formed).each p.g r e)
mover-formed script s m q k good formed _ = goroutines-of script s formed

-- the partner is another goroutine than the mover, and stands where it stood
partner-formed : (script : Script) (s : State) (m p : Option (ℕ × Move)) (k : Option (ℕ × ℕ)) → IsGood script → IsFormed script s → Maker script s m p k
    → AreGoroutines script (with_mover script s.goroutines m) → AreGoroutines script (with_mover script (with_mover script s.goroutines m) p)
partner-formed script s m q k good formed (pairs from to c v sends gets chan none other waits) all = record {
  each = all_numbered-change (IsFormedGoroutine script) (with_mover script s.goroutines m) to.g (moved_on script to.case_no) all.each
      (λ r e.
      operates-formed script s to (CaseKind.Recv c) r good formed gets
      (sym (numbered-change_other s.goroutines from.g to.g (moved_on script from.case_no) (λ same. other (sym same))) ∙ e));
}
partner-formed script s m q k good formed (signals g c h does waits) all = record {
  each = all_numbered-change (IsFormedGoroutine script) (with_mover script s.goroutines m) h (in_mode (Mode.Relocking c)) all.each
      (λ r e.
      relocks-formed script c r (all.each h r e)
      (mode_is s h r (Mode.Suspended c) waits
      (sym (numbered-change_other s.goroutines g h (moved_on script 0) (signals-other script s g h c (Instr.Signal c) does.stands waits)) ∙ e)));
}
partner-formed script s m q k good formed _ all = all

broadcast-formed : (script : Script) (gs : List Goroutine) (o : Option ℕ) → AreGoroutines script gs → AreGoroutines script (with_signalled gs o)
broadcast-formed script gs o all = record { each = all-signalled (IsFormedGoroutine script) gs o all.each (signalled-formed script) }

starter-formed : (script : Script) (s : State) (x : Start) → IsGood script → IsFormed script s → Begins script s x → IsFormedGoroutine script (started_by script s x)
starter-formed script s (Start.ByGoroutine g f) good formed h = begun-formed script (world_of s g) f good (world_of-zero script s g formed) h
starter-formed script s (Start.ByTimer t) good formed h =
    begun-formed script (timer_world s t) (func_of script t) good (timer_world-zero script s t formed) (func_of-within script t good h)
starter-formed script s (Start.ByHook h) good formed hook =
    begun-formed script (hook_world script s h) (hook_func script h) good (hook_world-zero script s h formed) (hook_func-within script h good hook)
starter-formed script s (Start.ByEnd x i) good formed hook =
    let h : ℕ = slice_index (starting script s x) i in
    begun-formed script (hook_world script s h) (hook_func script h) good (hook_world-zero script s h formed) (hook_func-within script h good hook)

starts-formed : (script : Script) (s : State) (gs : List Goroutine) (xs : List Start) → IsGood script → IsFormed script s → AllBegin script s xs → AreGoroutines script gs
    → AreGoroutines script (with_starts script s gs xs)
starts-formed script s gs [] good formed begin all = all
starts-formed script s gs (x ∷ xs) good formed begin all =
    starts-formed script s (gs ++ started_by script s x ∷ []) xs good formed begin.1
    (record { each = all_numbered-append (IsFormedGoroutine script) gs (started_by script s x) all.each (starter-formed script s x good formed begin.0) })

timer-formed : (script : Script) (s : State) (m : Option (ℕ × Move)) (t : ℕ) (x : Setting) → IsFormed script s → Sets script s t x
    → AreTimers script (retimed script s m t s.timers x)
timer-formed script s m t (Setting.Made due) formed h =
    set_timers script s t _ formed (record { world = world_of-zero script s (number_of m) formed; due = h.time })
timer-formed script s m t (Setting.SetAnew due) formed h =
    changed_timers script s t (set_again due (new_period script s (number_of m) t)) formed
    (λ o was. set_again-formed due (new_period script s (number_of m) t) o h.time was)
timer-formed script s m t (Setting.Ended next) formed h = changed_timers script s t (set_due next) formed (λ o was. set_due-formed next o h.time was)

timers-formed : (script : Script) (s : State) (m : Option (ℕ × Move)) (o : Option (ℕ × Setting)) → IsFormed script s → IfSome o (λ (x : ℕ × Setting). Sets script s x.0 x.1)
    → AreTimers script (with_retimed script s m s.timers o)
timers-formed script s m None formed h = timers-of script s formed
timers-formed script s m (Some x) formed h = timer-formed script s m x.0 x.1 formed h

-- ---- channels

pub at-change_within : (cs : List (Option Channel)) (c : ℕ) (f : Option Channel → Option Channel) → c < length cs → at (change cs c f) c ≡ f (at cs c)
at-change_within [] c f h = absurd (omega arith)
at-change_within (x ∷ xs) zero f h = refl
at-change_within (x ∷ xs) (suc c) f h = at-change_within xs c f (omega arith)

drop-fewer : (xs : List ℕ) → length (drop 1 xs) ≤ length xs
drop-fewer [] = omega arith
drop-fewer (x ∷ xs) = omega arith

-- a channel that keeps other values, and no more than it may
kept-formed : (script : Script) (c : ℕ) (q r : Channel) (items : List ℕ) (closed : Bool) → IsFormedChannel script c q → length items ≤ capacity_of script c
    → record { world = q.world; items = items; closed = closed } ≡ r → IsFormedChannel script c r
kept-formed script c q r items closed was few is = subst (IsFormedChannel script c) is (record { named = was.named; world = was.world; few = few })

puts-formed : (script : Script) (s : State) (c v : ℕ) (r : Channel) → IsFormed script s → item_count s c < capacity_of script c
    → with_items (λ items. items ++ v ∷ []) (channel_at s c) ≡ Some r → IsFormedChannel script c r
puts-formed script s c v r formed room e =
    elim (channel_at s c) as (λ o. channel_at s c ≡ o → with_items (λ items. items ++ v ∷ []) o ≡ Some r → IsFormedChannel script c r) [
      | None ↦ λ is k. cc
      | Some q ↦ λ is k.
          let count : item_count s c ≡ length q.items = ap (λ (o : Option Channel). length (elim o as (λ o. List ℕ) [ None ↦ [] | Some r ↦ r.items ])) is in
          let more : length (q.items ++ v ∷ []) ≡ length q.items + 1 = length-append q.items (v ∷ []) in
          let new : record { world = q.world; items = q.items ++ v ∷ []; closed = q.closed } ≡ r = cc in
          kept-formed script c q r (q.items ++ v ∷ []) q.closed (formed.chans c q is) (omega arith) new
    ] refl e

takes-formed : (script : Script) (s : State) (c : ℕ) (r : Channel) → IsFormed script s → with_items (drop 1) (channel_at s c) ≡ Some r → IsFormedChannel script c r
takes-formed script s c r formed e =
    elim (channel_at s c) as (λ o. channel_at s c ≡ o → with_items (drop 1) o ≡ Some r → IsFormedChannel script c r) [
      | None ↦ λ is k. cc
      | Some q ↦ λ is k.
          let was : IsFormedChannel script c q = formed.chans c q is in
          let fewer : length (drop 1 q.items) ≤ length q.items = drop-fewer q.items in
          let few : length q.items ≤ capacity_of script c = was.few in
          let new : record { world = q.world; items = drop 1 q.items; closed = q.closed } ≡ r = cc in
          kept-formed script c q r (drop 1 q.items) q.closed was (omega arith) new
    ] refl e

shut-formed : (script : Script) (s : State) (c : ℕ) (r : Channel) → IsFormed script s → shut (channel_at s c) ≡ Some r → IsFormedChannel script c r
shut-formed script s c r formed e =
    elim (channel_at s c) as (λ o. channel_at s c ≡ o → shut o ≡ Some r → IsFormedChannel script c r) [
      | None ↦ λ is k. cc
      | Some q ↦ λ is k.
          let was : IsFormedChannel script c q = formed.chans c q is in
          let new : record { world = q.world; items = q.items; closed = true } ≡ r = cc in
          kept-formed script c q r q.items true was was.few new
    ] refl e

-- a channel that changes stays formed: the one that is made keeps no value, and one that gets a value has room for it
channel-formed : (script : Script) (s : State) (w c : ℕ) (x : Trade) (r : Channel) → IsFormed script s → w ≡ 0 → Trades script s c x → traded w x (channel_at s c) ≡ Some r
    → IsFormedChannel script c r
channel-formed script s w c Trade.Opened r formed zero_world h e =
    let new : record { world = w; items = []; closed = false } ≡ r = cc in
    subst (IsFormedChannel script c) new (record { named = h.named; world = zero_world; few = omega arith })
channel-formed script s w c (Trade.Puts v) r formed zero_world h e = puts-formed script s c v r formed h.has.2 e
channel-formed script s w c Trade.Takes r formed zero_world h e = takes-formed script s c r formed e
channel-formed script s w c Trade.Shut r formed zero_world h e = shut-formed script s c r formed e

changed_channels : (script : Script) (s : State) (w c : ℕ) (x : Trade) → IsFormed script s → w ≡ 0 → Trades script s c x → AreChannels script (change s.channels c (traded w x))
changed_channels script s w c x formed zero_world h = record {
  count = length-change s.channels c (traded w x) ∙ formed.channels;
  each = λ k r e.
      elim (eqb k c) as (λ b. eqb k c ≡ b → IsFormedChannel script k r) [
        | true ↦ λ is.
            let same : k ≡ c = eqb-true k c is in
            let there : at (change s.channels c (traded w x)) c ≡ Some r = subst (λ j. at (change s.channels c (traded w x)) j ≡ Some r) same e in
            let here : traded w x (channel_at s c) ≡ Some r = sym (at-change_within s.channels c (traded w x) (chan_within script s c formed h.named)) ∙ there in
            subst (λ j. IsFormedChannel script j r) (sym same) (channel-formed script s w c x r formed zero_world h here)
        | false ↦ λ is.
            formed.chans k r (sym (at-change_other s.channels c k (traded w x) (eqb-false k c is)) ∙ e)
      ] refl;
}

channels-formed : (script : Script) (s : State) (m : Option (ℕ × Move)) (o : Option (ℕ × Trade)) → IsFormed script s → IfSome o (λ (x : ℕ × Trade). Trades script s x.0 x.1)
    → AreChannels script (with_traded s m s.channels o)
channels-formed script s m None formed h = channels-of script s formed
channels-formed script s m (Some x) formed h = changed_channels script s (world_of s (number_of m)) x.0 x.1 formed (world_of-zero script s (number_of m) formed) h

-- ---- clocks

set-clocks : (clocks : List ℕ) (to : ℕ) → clocks ≡ slice_index clocks 0 ∷ [] → to ≤ greatest_time → AreClocks (set clocks 0 to)
set-clocks clocks to one time = subst (λ (cs : List ℕ). AreClocks (set cs 0 to)) (sym one) (record { one = refl; time = time })

clocks-formed : (script : Script) (s : State) (m p : Option (ℕ × Move)) (k : Option (ℕ × ℕ)) → IsFormed script s → Maker script s m p k → AreClocks (with_clock s.clocks k)
clocks-formed script s m p k formed (ticks to up most) = set-clocks s.clocks to formed.one_clock most
clocks-formed script s m p k formed _ = clocks-of script s formed

pub formed-after : (script : Script) (s : State) (e : Entry) → IsGood script → IsFormed script s → May script s e → IsFormed script (after script s e)
formed-after script s e good formed may =
    let c : Change = change_of e in
    let who : Maker script s c.mover c.partner c.clock = maker script s e may in
    let movers : List Goroutine = with_mover script (with_mover script s.goroutines c.mover) c.partner in
    let same : length movers ≡ length s.goroutines = length-movers script s.goroutines c.mover c.partner in
    let woken : List Goroutine = with_signalled movers c.broadcast in
    let kept : length woken ≡ length movers = length-signalled movers c.broadcast in
    let more : length (with_starts script s woken c.starts) ≡ length woken + length c.starts = length-starts script s woken c.starts in
    let counts : length c.starts + started_count s ≤ c.counted + started_count (after script s e) = starts-few script s e may in
    let few : length s.goroutines ≤ s.entries + 1 + started_count s = formed.few in
    let moved_once : AreGoroutines script (with_mover script s.goroutines c.mover) = mover-formed script s c.mover c.partner c.clock good formed who in
    formed-parts script (after script s e)
    (clocks-formed script s c.mover c.partner c.clock formed who)
    (starts-formed script s woken c.starts good formed (starts script s e good formed may)
    (broadcast-formed script movers c.broadcast (partner-formed script s c.mover c.partner c.clock good formed who moved_once)))
    (omega arith)
    (timers-formed script s c.mover c.timer formed (sets script s e good may))
    (periods-entered script s e may formed.periods)
    (channels-formed script s c.mover c.channel formed (trades-May script s e good may))
    (syncs-entered script s e good formed may)
    (contexts-entered script s e good formed (world_of-zero script s (number_of c.mover) formed) may)
    (hooks-entered script s e good formed may)

pub formed-finish : (script : Script) (s : State) (outcome : Outcome) → IsFormed script s → IsFormed script (after script s (Entry.Finish outcome))
formed-finish script s outcome formed =
    let few : length s.goroutines ≤ s.entries + 1 + started_count s = formed.few in
    formed-parts script (after script s (Entry.Finish outcome)) (clocks-of script s formed) (goroutines-of script s formed) (omega arith) (timers-of script s formed)
    formed.periods (channels-of script s formed) (syncs-finished script s formed) (contexts-of script s formed) (hooks-of script s formed)

-- ---- legal entries, and histories of them

pub formed-Legal : (script : Script) (limits : Limits) (s : State) (e : Entry) → IsGood script → IsFormed script s → Legal script limits s e → IsFormed script (after script s e)
formed-Legal script limits s (Entry.Finish outcome) good formed legal = formed-finish script s outcome formed
formed-Legal script limits s e good formed legal = formed-after script s e good formed legal.1

pub formed-from : (script : Script) (limits : Limits) (s : State) (h : List Entry) → IsGood script → IsFormed script s → AllLegal script limits s h → IsFormed script (state_after script s h)
formed-from script limits s [] good formed legal = formed
formed-from script limits s (e ∷ h) good formed legal =
    formed-from script limits (after script s e) h good (formed-Legal script limits s e good formed legal.0) legal.1

pub formed-history : (script : Script) (limits : Limits) (h : List Entry) → IsGood script → AllLegal script limits (first_state script) h → IsFormed script (state_after script (first_state script) h)
formed-history script limits h good legal = formed-from script limits (first_state script) h good (formed-first script good) legal

-- ---- the program's clock never falls

set-clock : (clocks : List ℕ) (to : ℕ) → slice_index clocks 0 ≤ to → slice_index clocks 0 ≤ slice_index (set clocks 0 to) 0
set-clock [] to h = omega arith
set-clock (c ∷ cs) to h = h

pub clock-after : (script : Script) (s : State) (e : Entry) → May script s e → clock s 0 ≤ clock (after script s e) 0
clock-after script s (Entry.Clock zero to) may =
    let up : clock s 0 < to = may.0 in
    set-clock s.clocks to (omega arith)
clock-after script s (Entry.Clock (suc world) to) may = absurd may
clock-after script s _ may = omega arith
