-- What an entry that may come next changes is there to be changed: its goroutines live, its timer or its channel was made or is not yet, what steps is declared, its context or hook may change so, its clock ticks.
use Rattle.std.proofs.Common.{◌≡◌, ℕ, ◌<◌, List, length, sym, subst, ◌∙◌, arith, Option, None, Some, true, false, is_some, IsTrue, refl, IfSome, IsSomeAnd, MatchOption, ap}
use Rattle.gt_model.specs.declared.script.Script.{Script}
use Rattle.gt_model.specs.declared.script.Instr.{Instr}
use Rattle.gt_model.specs.declared.entry.Entry.{Entry}
use Rattle.gt_model.specs.declared.entry.Limits.{Limits}
use Rattle.gt_model.specs.declared.entry.Party.{Party}
use Rattle.gt_model.specs.declared.entry.Reason.{Reason}
use Rattle.gt_model.specs.declared.script.CaseKind.{CaseKind}
use Rattle.gt_model.specs.Script.{is_chan, is_mutex, is_wg, is_cond, mutex_of}
use Rattle.gt_model.proofs.Declared.{mutex_declared, wg_declared, cond_declared}
use Rattle.gt_model.specs.declared.state.Goroutine.{Goroutine}
use Rattle.gt_model.specs.declared.state.Mode.{Mode}
use Rattle.gt_model.specs.Good.{IsGood}
use Rattle.gt_rules.specs.State.{State, goroutine_at, mode_of, stands_at, timer_at, sleeps_until}
use Rattle.gt_rules.specs.declared.change.Move.{Move}
use Rattle.gt_rules.specs.declared.change.Setting.{Setting}
use Rattle.gt_rules.specs.declared.change.SyncStep.{SyncStep}
use Rattle.gt_rules.specs.declared.change.Trade.{Trade}
use Rattle.gt_rules.specs.declared.change.TreeStep.{TreeStep}
use Rattle.gt_rules.specs.Change.{Change, change_of}
use Rattle.gt_rules.specs.Legal.{May, MayPanic, ChoosesClosed, Operates, operation_at}
use Rattle.gt_rules.specs.Panics.{panic_at, fault_at}
use Rattle.gt_rules.specs.Finish.{Legal}
use Rattle.gt_facts.specs.Formed.{IsFormed}
use Rattle.gt_facts.proofs.Lookups.{Standing, standing, Asleep, sleeper, InMode, in-mode, AtOperation, at_operation, names-Does}
use Rattle.gt_facts.proofs.Makers.{Maker, calls, receives, trades, pairs, wakes, ticks, panics, retakes, signals, maker, Sets, sets, HasTrade, Trades, trades-May}
pub use Rattle.gt_facts.proofs.Contexts.{FitsTree, FitsDerived, FitsEnd, FitsRegistered, FitsUnhooked, tree-fits}
use Rattle.gt_facts.proofs.Still.{panic_stands}
use Rattle.gt_facts.proofs.Within.{setting_within, chan_within, mutex_of-within, relocking-cond}

-- a goroutine that has not ended
pub record IsLive (s : State) (g : ℕ) : Type 0 where
  pub who : Goroutine
  pub there : goroutine_at s g ≡ Some who
  pub live : who.mode ≡ Mode.Ended → ⊥

-- a timer that is made has its place and was not made; one that is set anew or ends was
abbrev pub FitsTimer : State → ℕ → Setting → Type 0
FitsTimer s t (Setting.Made due) = (t < length s.timers) × (is_some (timer_at s t) ≡ false)
FitsTimer s t (Setting.SetAnew due) = is_some (timer_at s t) ≡ true
FitsTimer s t (Setting.Ended due) = is_some (timer_at s t) ≡ true

-- a channel that changes has its place, is declared as one, and may change so
pub record FitsChannel (script : Script) (s : State) (c : ℕ) (x : Trade) : Type 0 where
  pub within : c < length s.channels
  pub named : IsTrue (is_chan script c)
  pub has : HasTrade script s c x

-- what a step names
abbrev pub NamesSync : Script → ℕ → SyncStep → Type 0
NamesSync script o SyncStep.Locks = IsTrue (is_mutex script o)
NamesSync script o SyncStep.Unlocks = IsTrue (is_mutex script o)
NamesSync script o (SyncStep.Adds n) = IsTrue (is_wg script o)
NamesSync script o SyncStep.Releases = IsTrue (is_cond script o)
NamesSync script o SyncStep.Retakes = IsTrue (is_cond script o)

-- a mutex, a WaitGroup or a Cond that steps is declared as such and has its place, and the mutex of a Cond has one
pub record FitsSync (script : Script) (s : State) (o : ℕ) (x : SyncStep) : Type 0 where
  pub named : NamesSync script o x
  pub within : o < length s.syncs
  pub mutex : mutex_of script o < length s.syncs

pub record Fits (script : Script) (s : State) (c : Change) : Type 0 where
  pub mover : IfSome c.mover (λ (m : ℕ × Move). IsLive s m.0)
  pub partner : IfSome c.partner (λ (m : ℕ × Move). IsLive s m.0)
  pub broadcast : IfSome c.broadcast (λ k. IsTrue (is_cond script k))
  pub timer : IfSome c.timer (λ (x : ℕ × Setting). FitsTimer s x.0 x.1)
  pub channel : IfSome c.channel (λ (x : ℕ × Trade). FitsChannel script s x.0 x.1)
  pub sync : IfSome c.sync (λ (x : ℕ × SyncStep). FitsSync script s x.0 x.1)
  pub tree : IfSome c.tree (λ (x : ℕ × TreeStep). FitsTree script s x.0 x.1)
  pub clock : IfSome c.clock (λ (x : ℕ × ℕ). x.0 < length s.clocks)

-- ---- who makes an entry lives

awake-live : (m : Mode) → m ≡ Mode.At → m ≡ Mode.Ended → ⊥
awake-live m at over = let both : Mode.At ≡ Mode.Ended = sym at ∙ over in cc

asleep-live : (m : Mode) (until : ℕ) → m ≡ Mode.Sleeping until → m ≡ Mode.Ended → ⊥
asleep-live m until sleeps over = let both : Mode.Sleeping until ≡ Mode.Ended = sym sleeps ∙ over in cc

stands-live : (script : Script) (s : State) (g : ℕ) (i : Instr) → stands_at script s g ≡ Some i → IsLive s g
stands-live script s g i e =
    let st : Standing script s g i = standing script s g i e in
    record { who = st.who; there = st.there; live = awake-live st.who.mode st.at }

operates-live : (script : Script) (s : State) (p : Party) (kind : CaseKind) → Operates script s p kind → IsLive s p.g
operates-live script s p kind call =
    let at : AtOperation script s p kind = at_operation script s p kind call.stands in
    stands-live script s p.g at.instr at.stands

panics-live : (script : Script) (s : State) (g n : ℕ) (reason : Reason) → panic_at script s g ≡ Some (n, reason) → IsLive s g
panics-live script s g n reason h =
    elim (stands_at script s g)
    as (λ o. stands_at script s g ≡ o → (elim o as (λ x. Option (ℕ × Reason)) [ None ↦ None | Some i ↦ fault_at script s i ]) ≡ Some (n, reason) → IsLive s g) [
      | None ↦ λ e k. cc
      | Some i ↦ λ e k. stands-live script s g i e
    ] refl (panic_stands script s g ∙ h)

chooses-live : (script : Script) (s : State) (p : Party) (o : Option CaseKind) (reason : Reason) → operation_at script s p ≡ o → ChoosesClosed s o reason → IsLive s p.g
chooses-live script s p (Some kind) reason is h =
    let at : AtOperation script s p kind = at_operation script s p kind is in
    stands-live script s p.g at.instr at.stands
chooses-live script s p None reason is h = absurd h

may_panic-live : (script : Script) (s : State) (p : Party) (reason : Reason) → MayPanic script s p reason → IsLive s p.g
may_panic-live script s p reason may =
    elim (panic_at script s p.g) as (λ o. panic_at script s p.g ≡ o → MatchOption o (ChoosesClosed s (operation_at script s p) reason) (λ x. x ≡ (p.case_no, reason)) → IsLive s p.g) [
      | None ↦ λ calm h. chooses-live script s p (operation_at script s p) reason refl h
      | Some x ↦ λ is h. panics-live script s p.g p.case_no reason (is ∙ ap Some h)
    ] refl may

sleeps-live : (s : State) (g : ℕ) (P : ℕ → Type 0) → IsSomeAnd (sleeps_until s g) P → IsLive s g
sleeps-live s g P h =
    let a : Asleep s g = sleeper s g P h in
    record { who = a.who; there = a.there; live = asleep-live a.who.mode a.until a.sleeps }

-- who is in a mode in which it lives
mode-live : (s : State) (g : ℕ) (mode : Mode) → (mode ≡ Mode.Ended → ⊥) → mode_of s g ≡ Some mode → IsLive s g
mode-live s g mode lives h =
    let a : InMode s g mode = in-mode s g mode h in
    record { who = a.who; there = a.there; live = λ over. lives (sym a.its ∙ over) }

live-Maker : (script : Script) (s : State) (m p : Option (ℕ × Move)) (k : Option (ℕ × ℕ)) → Maker script s m p k → IfSome m (λ (m : ℕ × Move). IsLive s m.0)
live-Maker script s m q k (calls g i n does goes leaves) = stands-live script s g i does.stands
live-Maker script s m q k (receives p t due call timer is come) = operates-live script s p (CaseKind.Recv t) call
live-Maker script s m q k (trades p kind call ready) = operates-live script s p kind call
live-Maker script s m q k (pairs from to c v sends gets chan none other waits) = operates-live script s from (CaseKind.Send c v) sends
live-Maker script s m q k (wakes g h) = sleeps-live s g _ h
live-Maker script s m q k (panics p reason h) = may_panic-live script s p reason h
live-Maker script s m q k (retakes g c relocks free) = mode-live s g (Mode.Relocking c) (λ over. cc) relocks
live-Maker script s m q k (signals g c h does waits) = stands-live script s g (Instr.Signal c) does.stands
live-Maker script s m q k _ = tt

pub mover-fits : (script : Script) (s : State) (e : Entry) → May script s e → IfSome (change_of e).mover (λ (m : ℕ × Move). IsLive s m.0)
mover-fits script s e may = live-Maker script s (change_of e).mover (change_of e).partner (change_of e).clock (maker script s e may)

-- and so does its partner
live-partner : (script : Script) (s : State) (m p : Option (ℕ × Move)) (k : Option (ℕ × ℕ)) → Maker script s m p k → IfSome p (λ (m : ℕ × Move). IsLive s m.0)
live-partner script s m q k (pairs from to c v sends gets chan none other waits) = operates-live script s to (CaseKind.Recv c) gets
live-partner script s m q k (signals g c h does waits) = mode-live s h (Mode.Suspended c) (λ over. cc) waits
live-partner script s m q k _ = tt

pub partner-fits : (script : Script) (s : State) (e : Entry) → May script s e → IfSome (change_of e).partner (λ (m : ℕ × Move). IsLive s m.0)
partner-fits script s e may = live-partner script s (change_of e).mover (change_of e).partner (change_of e).clock (maker script s e may)

-- ---- the timer that is set fits

sets-fits : (script : Script) (s : State) (t : ℕ) (x : Setting) → IsFormed script s → Sets script s t x → FitsTimer s t x
sets-fits script s t (Setting.Made due) formed h = (setting_within script s t formed h.named, h.made)
sets-fits script s t (Setting.SetAnew due) formed h = h.made
sets-fits script s t (Setting.Ended due) formed h = h.made

timer-sets : (script : Script) (s : State) (o : Option (ℕ × Setting)) → IsFormed script s → IfSome o (λ (x : ℕ × Setting). Sets script s x.0 x.1)
    → IfSome o (λ (x : ℕ × Setting). FitsTimer s x.0 x.1)
timer-sets script s None formed h = tt
timer-sets script s (Some x) formed h = sets-fits script s x.0 x.1 formed h

pub timer-fits : (script : Script) (s : State) (e : Entry) → IsGood script → IsFormed script s → May script s e
    → IfSome (change_of e).timer (λ (x : ℕ × Setting). FitsTimer s x.0 x.1)
timer-fits script s e good formed may = timer-sets script s (change_of e).timer formed (sets script s e good may)

-- ---- the channel that changes fits

channel-trades : (script : Script) (s : State) (o : Option (ℕ × Trade)) → IsFormed script s → IfSome o (λ (x : ℕ × Trade). Trades script s x.0 x.1)
    → IfSome o (λ (x : ℕ × Trade). FitsChannel script s x.0 x.1)
channel-trades script s None formed h = tt
channel-trades script s (Some x) formed h =
    let fits : Trades script s x.0 x.1 = h in
    record { within = chan_within script s x.0 formed fits.named; named = fits.named; has = fits.has }

pub channel-fits : (script : Script) (s : State) (e : Entry) → IsGood script → IsFormed script s → May script s e
    → IfSome (change_of e).channel (λ (x : ℕ × Trade). FitsChannel script s x.0 x.1)
channel-fits script s e good formed may = channel-trades script s (change_of e).channel formed (trades-May script s e good may)

-- ---- what steps fits, and where a broadcast is made

names-sync : (script : Script) (s : State) (e : Entry) → IsGood script → IsFormed script s → May script s e
    → IfSome (change_of e).sync (λ (x : ℕ × SyncStep). NamesSync script x.0 x.1)
names-sync script s (Entry.Lock g m) good formed may = may.1
names-sync script s (Entry.Unlock g m) good formed may = names-Does script s g (Instr.Unlock m) good may
names-sync script s (Entry.CondWait g k) good formed may = names-Does script s g (Instr.CWait k) good may
names-sync script s (Entry.CondWake g k) good formed may = relocking-cond script s g k formed may.0
names-sync script s (Entry.Add g w n) good formed may = (names-Does script s g (Instr.Add w n) good may).0
names-sync script s _ good formed may = tt

sync-declared : (script : Script) (o : ℕ) (x : SyncStep) → NamesSync script o x → o < length script.decls
sync-declared script o SyncStep.Locks h = mutex_declared script o h
sync-declared script o SyncStep.Unlocks h = mutex_declared script o h
sync-declared script o (SyncStep.Adds n) h = wg_declared script o h
sync-declared script o SyncStep.Releases h = cond_declared script o h
sync-declared script o SyncStep.Retakes h = cond_declared script o h

sync-names : (script : Script) (s : State) (o : Option (ℕ × SyncStep)) → IsGood script → IsFormed script s → IfSome o (λ (x : ℕ × SyncStep). NamesSync script x.0 x.1)
    → IfSome o (λ (x : ℕ × SyncStep). FitsSync script s x.0 x.1)
sync-names script s None good formed h = tt
sync-names script s (Some x) good formed h =
    let within : x.0 < length script.decls = sync-declared script x.0 x.1 h in
    let mutex : mutex_of script x.0 < length script.decls = mutex_of-within script x.0 good within in
    record { named = h; within = rw formed.syncs within; mutex = rw formed.syncs mutex }

pub sync-fits : (script : Script) (s : State) (e : Entry) → IsGood script → IsFormed script s → May script s e
    → IfSome (change_of e).sync (λ (x : ℕ × SyncStep). FitsSync script s x.0 x.1)
sync-fits script s e good formed may = sync-names script s (change_of e).sync good formed (names-sync script s e good formed may)

pub broadcast-fits : (script : Script) (s : State) (e : Entry) → IsGood script → May script s e → IfSome (change_of e).broadcast (λ k. IsTrue (is_cond script k))
broadcast-fits script s (Entry.Broadcast g k count) good may = names-Does script s g (Instr.Broadcast k) good may.0
broadcast-fits script s _ good may = tt

-- ---- a clock that moves is one of those that tick

clock-there : (script : Script) (s : State) → IsFormed script s → 0 < length s.clocks
clock-there script s formed = subst (λ (cs : List ℕ). 0 < length cs) (sym formed.one_clock) (omega arith)

ticks-there : (script : Script) (s : State) (m p : Option (ℕ × Move)) (k : Option (ℕ × ℕ)) → IsFormed script s → Maker script s m p k
    → IfSome k (λ (x : ℕ × ℕ). x.0 < length s.clocks)
ticks-there script s m p k formed (ticks to up most) = clock-there script s formed
ticks-there script s m p k formed _ = tt

pub clock-fits : (script : Script) (s : State) (e : Entry) → IsFormed script s → May script s e → IfSome (change_of e).clock (λ (x : ℕ × ℕ). x.0 < length s.clocks)
clock-fits script s e formed may = ticks-there script s (change_of e).mover (change_of e).partner (change_of e).clock formed (maker script s e may)

pub fits-May : (script : Script) (s : State) (e : Entry) → IsGood script → IsFormed script s → May script s e → Fits script s (change_of e)
fits-May script s e good formed may = record {
  mover = mover-fits script s e may;
  partner = partner-fits script s e may;
  broadcast = broadcast-fits script s e good may;
  timer = timer-fits script s e good formed may;
  channel = channel-fits script s e good formed may;
  sync = sync-fits script s e good formed may;
  tree = tree-fits script s e good formed may;
  clock = clock-fits script s e formed may;
}

pub fits-Legal : (script : Script) (limits : Limits) (s : State) (e : Entry) → IsGood script → IsFormed script s → Legal script limits s e → Fits script s (change_of e)
fits-Legal script limits s (Entry.Finish outcome) good formed legal = record { mover = tt; partner = tt; broadcast = tt; timer = tt; channel = tt; sync = tt; tree = tt; clock = tt }
fits-Legal script limits s e good formed legal = fits-May script s e good formed legal.1
