-- All that wait at a Cond are signalled, and their broadcast is entered.
use Rattle.std.proofs.Common.{◌≡◌, ℕ, zero, suc, ◌+◌, ◌-◌, ◌^◌, ◌<◌, ◌≤◌, List, [], ◌∷◌, map, refl, sym, ap, subst, ◌∙◌, arith, slice_get, Option, None, Some, Bool, true, false, IsTrue, IsSomeAnd, IfSome, cond, length, count_by}
use Rattle.std.proofs.lemmas.Bool.{eq-eqb}
use Rattle.std.proofs.lemmas.List.Sums.{sum_by-cons, count_by-le-length}
use Rattle.gt_model.specs.declared.script.Script.{Script}
use Rattle.gt_model.specs.declared.script.Func.{Func}
use Rattle.gt_model.specs.declared.script.Instr.{Instr}
use Rattle.gt_model.specs.declared.entry.Party.{Party}
use Rattle.gt_model.specs.declared.state.Goroutine.{Goroutine}
use Rattle.gt_model.specs.declared.state.Mode.{Mode}
use Rattle.gt_model.specs.Tables.{numbered, change, change_numbered}
use Rattle.gt_model.specs.Good.{IsGood, IsGoodCode}
use Rattle.gt_model.specs.Script.{code_of, is_cond}
use Rattle.gt_model.specs.Times.{greatest_time}
use Rattle.gt_model.proofs.Changes.{all_numbered-change, length-change_numbered}
use Rattle.gt_model.proofs.GoodCode.{all_at}
use Rattle.gt_rules.specs.State.{State, goroutine_at, mode_of, until_of, is_suspended, suspended_count}
use Rattle.gt_rules.specs.After.{in_mode, signalled}
use Rattle.gt_facts.specs.Formed.{IsFormed, IsPlaced, IsPlacedIn, started_count, IsFormedHook}
use Rattle.gt_facts.proofs.Lookups.{InMode, in-mode}
use Rattle.gt_facts.proofs.Suspended.{Waiter, waiter}
use Rattle.gt_machine.specs.declared.machine.Machine.{Machine}
use Rattle.gt_machine.specs.Machine.{state_of, IsInside, HasContexts}
use Rattle.gt_schedule.specs.declared.scheduler.Scheduler.{Scheduler}
use Rattle.gt_schedule.specs.Counts.{often}
use Rattle.gt_schedule.specs.Schedule.{Schedule, plainly, parties_at, relocked, each_relocked, all_relocked, IsCondAt, most_goroutines}
use Rattle.gt_schedule.specs.Scheduler.{schedule_of, capacity, IsScheduler}
use Rattle.gt_book.specs.declared.run.Run.{Run}
use Rattle.gt_book.specs.View.{Fits}
use Rattle.gt_book.specs.Broadcasts.{AreFit, CanSignal, Signals}
use Rattle.gt_book.proofs.Relocking.{fits-relocked, cond-at, stands-at_cond}
use Rattle.gt_book.proofs.Signalling.{relocked_state, FirstThere, first-there, signalled-relocked, conds-relocked, signalled-none}
use Rattle.std.proofs.Common.{◌++◌}
use Rattle.gt_model.specs.declared.entry.Entry.{Entry}
use Rattle.gt_model.specs.declared.entry.Limits.{Limits}
use Rattle.gt_model.specs.declared.entry.Reason.{Reason}
use Rattle.gt_rules.specs.State.{stands, stands_at}
use Rattle.gt_rules.specs.After.{after, moved}
use Rattle.gt_rules.specs.Change.{change_of}
use Rattle.gt_rules.specs.Legal.{May}
use Rattle.gt_rules.specs.Panics.{fault_at, panic_of, panic_at}
use Rattle.gt_rules.specs.declared.change.Move.{Move}
use Rattle.gt_facts.proofs.Lookups.{Standing, standing, names-Does}
use Rattle.gt_room.specs.Contents.{Contents}
use Rattle.gt_machine.specs.Machine.{HasChannels}
use Rattle.gt_schedule.specs.declared.status.RunStatus.{RunStatus}
use Rattle.gt_schedule.specs.Counts.{as_number, is_party}
use Rattle.gt_schedule.specs.Schedule.{status_of, is_parked, gone_on, scheduled, MayMove, Served}
use Rattle.gt_schedule.specs.Scheduler.{CanApply}
use Rattle.gt_schedule.proofs.Lists.{is_party-same}
use Rattle.gt_schedule.proofs.Relocked.{each-statuses}
use Rattle.gt_schedule.proofs.Signalled.{all-cond}
use Rattle.gt_book.specs.Run.{CanMake, Makes}
use Rattle.gt_book.proofs.Books.{makes-applied, starts-fit, waking-room}
use Rattle.gt_book.proofs.Fitting.{orderly-fits}
use Rattle.gt_book.proofs.Turning.{rightly-May, has-lists_in}

-- ---- a state after one was signalled

-- it is as well formed as before
pub formed-relocked : (script : Script) (s : State) (g k : ℕ) → IsFormed script s → mode_of s g ≡ Some (Mode.Suspended k) → IsFormed script (relocked_state s g k)
formed-relocked script s g k formed waits = record {
  world = record {
    goroutines = all_numbered-change (λ (r : Goroutine). r.world ≡ 0) s.goroutines g (in_mode (Mode.Relocking k)) formed.world.goroutines (λ r e. formed.world.goroutines g r e);
    timers = formed.world.timers;
    contexts = formed.world.contexts;
  };
  one_clock = formed.one_clock;
  time = formed.time;
  placed = all_numbered-change (IsPlaced script) s.goroutines g (in_mode (Mode.Relocking k)) formed.placed placed;
  untils = all_numbered-change (λ (r : Goroutine). IfSome (until_of r.mode) (λ until. until ≤ greatest_time)) s.goroutines g (in_mode (Mode.Relocking k)) formed.untils (λ r e. tt);
  conds = conds-relocked script s g k formed.conds waits;
  few = subst (λ n. n ≤ s.entries + 1 + started_count s) (sym (length-change_numbered s.goroutines g (in_mode (Mode.Relocking k)))) formed.few;
  timers = formed.timers;
  dues = formed.dues;
  periods = formed.periods;
  channels = formed.channels;
  syncs = formed.syncs;
  counters = formed.counters;
  chans = formed.chans;
  contexts = formed.contexts;
  ctxs = formed.ctxs;
  hooks = formed.hooks;
  hooked = λ h registered. (let was : IsFormedHook script s h = formed.hooked h registered in record { named = was.named; made = was.made });
}
  where
    placed : (r : Goroutine) → goroutine_at s g ≡ Some r → IsPlaced script (in_mode (Mode.Relocking k) r)
    placed r e =
        let a : InMode s g (Mode.Suspended k) = in-mode s g (Mode.Suspended k) waits in
        let there : goroutine_at s g ≡ Some a.who = a.there in
        let same : a.who ≡ r = cc in
        let its : r.mode ≡ Mode.Suspended k = subst (λ (q : Goroutine). q.mode ≡ Mode.Suspended k) same a.its in
        subst (IsPlacedIn (code_of script r.place.func) r.place) its (formed.placed g r e)

-- one less is suspended at the Cond
count-change : {X : Type 0} (p : X → Bool) (f : X → X) (xs : List X) (i : ℕ) (x : X) → slice_get xs i ≡ Some x → p x ≡ true → p (f x) ≡ false
    → count_by p (change xs i f) + 1 ≡ count_by p xs
count-change p f [] i x e was now = cc
count-change p f (y ∷ ys) zero x e was now =
    let is : y ≡ x = cc in
    let new : count_by p (f y ∷ ys) ≡ cond (p (f y)) 1 0 + count_by p ys = sum_by-cons (λ z. cond (p z) 1 0) (f y) ys in
    let old : count_by p (y ∷ ys) ≡ cond (p y) 1 0 + count_by p ys = sum_by-cons (λ z. cond (p z) 1 0) y ys in
    let none : cond {A = ℕ} (p (f y)) 1 0 ≡ 0 = ap (λ (b : Bool). cond {A = ℕ} b 1 0) (subst (λ z. p (f z) ≡ false) (sym is) now) in
    let one : cond {A = ℕ} (p y) 1 0 ≡ 1 = ap (λ (b : Bool). cond {A = ℕ} b 1 0) (subst (λ z. p z ≡ true) (sym is) was) in
    omega arith
count-change p f (y ∷ ys) (suc i) x e was now =
    let rest : count_by p (change ys i f) + 1 ≡ count_by p ys = count-change p f ys i x e was now in
    let new : count_by p (y ∷ change ys i f) ≡ cond (p y) 1 0 + count_by p (change ys i f) = sum_by-cons (λ z. cond (p z) 1 0) y (change ys i f) in
    let old : count_by p (y ∷ ys) ≡ cond (p y) 1 0 + count_by p ys = sum_by-cons (λ z. cond (p z) 1 0) y ys in
    omega arith

count-change_numbered : {X : Type 0} (p : X → Bool) (f : X → X) (xs : List X) (g : ℕ) (x : X) → numbered xs g ≡ Some x → p x ≡ true → p (f x) ≡ false
    → count_by p (change_numbered xs g f) + 1 ≡ count_by p xs
count-change_numbered p f xs zero x e was now = cc
count-change_numbered p f xs (suc i) x e was now = count-change p f xs i x e was now

counted-relocked : (s : State) (g k : ℕ) → mode_of s g ≡ Some (Mode.Suspended k) → suspended_count (relocked_state s g k) k + 1 ≡ suspended_count s k
counted-relocked s g k waits =
    let a : InMode s g (Mode.Suspended k) = in-mode s g (Mode.Suspended k) waits in
    let was : is_suspended k a.who ≡ true = subst (λ (m : Mode). is_suspended k (in_mode m a.who) ≡ true) (sym a.its) (eq-eqb k k refl) in
    count-change_numbered (is_suspended k) (in_mode (Mode.Relocking k)) s.goroutines g a.who a.there was refl

-- nobody is where nobody stands there
counted-none : (script : Script) (s : State) (m : Schedule) (k : ℕ) → Fits script s m → IsTrue (is_cond script k) → parties_at m.receivers k ≡ [] → suspended_count s k ≡ 0
counted-none script s m k fits is none = at (suspended_count s k) refl
  where
    at : (n : ℕ) → suspended_count s k ≡ n → suspended_count s k ≡ 0
    at zero e = e
    at (suc n) e =
        let one : Waiter s k = waiter s k n e in
        let stands : 0 < often (plainly one.number) (parties_at m.receivers k) = stands-at_cond script s m one.number k fits one.waits is in
        let nobody : often (plainly one.number) (parties_at m.receivers k) ≡ 0 = ap (often (plainly one.number)) none in
        absurd (omega arith)

-- who is suspended stands at a place that leaves room to move on
short-code : (script : Script) (func at : ℕ) → IsGood script → at < length (code_of script func) → at < 2 ^ 32 - 1
short-code script func at good h =
    let code_in : Option Func → List Instr = λ o. elim o [ None ↦ [] | Some f ↦ f.code ] in
    elim (slice_get script.funcs func) as (λ o. slice_get script.funcs func ≡ o → at < length (code_in o) → at < 2 ^ 32 - 1) [
      | None ↦ λ e k. let none : at < 0 = k in absurd (omega arith)
      | Some f ↦ λ e k.
          let its : IsGoodCode script f.code = all_at (λ (f : Func). IsGoodCode script f.code) script.funcs func f good.code e in
          let short : length f.code < 2 ^ 32 = its.short in
          omega (arith, k)
    ] refl h

pub inside-suspended : (script : Script) (s : State) (g k : ℕ) → IsGood script → IsFormed script s → mode_of s g ≡ Some (Mode.Suspended k) → IsInside s.goroutines g
inside-suspended script s g k good formed waits =
    let a : InMode s g (Mode.Suspended k) = in-mode s g (Mode.Suspended k) waits in
    let placed : IsPlacedIn (code_of script a.who.place.func) a.who.place (Mode.Suspended k) =
    subst (IsPlacedIn (code_of script a.who.place.func) a.who.place) a.its (formed.placed g a.who a.there) in
    subst (λ o. IsSomeAnd o (λ (r : Goroutine). r.place.at < 2 ^ 32 - 1)) (sym a.there) (short-code script a.who.place.func a.who.place.at good placed.0.within)

-- ---- one after the other

-- so far so many were signalled
pub record Signalling (script : Script) (old now : Run) (k count : ℕ) : Type 0 where
  pub good : IsGood script
  pub cond : IsTrue (is_cond script k)
  pub fit : AreFit script now
  pub history : now.history ≡ old.history
  pub state : state_of now.machine ≡ record (state_of old.machine) { goroutines = (state_of now.machine).goroutines }
  pub goroutines : map (signalled k) (state_of now.machine).goroutines ≡ map (signalled k) (state_of old.machine).goroutines
  pub schedule : all_relocked (schedule_of now.scheduler) k ≡ all_relocked (schedule_of old.scheduler) k
  pub counted : count + suspended_count (state_of now.machine) k ≡ suspended_count (state_of old.machine) k
  pub few : suspended_count (state_of old.machine) k < 2 ^ 32
  pub many : length now.machine.goroutines.items ≡ length old.machine.goroutines.items
  pub spare : now.machine.goroutines.spare ≡ old.machine.goroutines.spare
  pub channels : now.machine.channels ≡ old.machine.channels
  pub contexts : now.machine.ctxs ≡ old.machine.ctxs
  pub waking : now.waking ≡ old.waking
  pub places : capacity now.scheduler ≡ capacity old.scheduler

few-suspended : (script : Script) (r : Run) (k : ℕ) → AreFit script r → suspended_count (state_of r.machine) k < 2 ^ 32
few-suspended script r k fit =
    let some : suspended_count (state_of r.machine) k ≤ length r.machine.goroutines.items = count_by-le-length (is_suspended k) r.machine.goroutines.items in
    let as_many : length r.scheduler.statuses.items ≡ length r.machine.goroutines.items = fit.fits.as_many in
    let bound : capacity r.scheduler + length r.scheduler.waiters.lists < 2 ^ 32 - 2 = fit.kept.few in
    omega arith

pub signalling-first : (script : Script) (r : Run) (k : ℕ) → CanSignal script r k → Signalling script r r k 0
signalling-first script r k can = record {
  good = can.good;
  cond = can.cond;
  fit = can.fit;
  history = refl;
  state = refl;
  goroutines = refl;
  schedule = refl;
  counted = omega arith;
  few = few-suspended script r k can.fit;
  many = refl;
  spare = refl;
  channels = refl;
  contexts = refl;
  waking = refl;
  places = refl;
}

-- the first of those that are left
pub record Next (r : Run) (k : ℕ) (p : Party) : Type 0 where
  pub rest : List Party
  pub parts : parties_at (schedule_of r.scheduler).receivers k ≡ p ∷ rest
  pub its : FirstThere (state_of r.machine) (schedule_of r.scheduler) k p rest

first-parts : (p : Party) (xs : List Party) → Some p ≡ slice_get xs 0 → (rest : List Party) × (xs ≡ p ∷ rest)
first-parts p [] e = cc
first-parts p (x ∷ xs) e = (xs, let is : x ≡ p = cc in ap (λ y. y ∷ xs) is)

module _ (script : Script) (old now : Run) (k count : ℕ) (so_far : Signalling script old now k count) where
  pub signalling-cond : IsCondAt (schedule_of now.scheduler) k
  signalling-cond = cond-at script (state_of now.machine) (schedule_of now.scheduler) k so_far.good so_far.fit.fits so_far.cond

  pub signalling-next : (p : Party) → Some p ≡ slice_get (parties_at (schedule_of now.scheduler).receivers k) 0 → Next now k p
  signalling-next p first =
      let list = first-parts p (parties_at (schedule_of now.scheduler).receivers k) first in
      record {
        rest = list.0;
        parts = list.1;
        its = first-there script (state_of now.machine) (schedule_of now.scheduler) k p list.0 so_far.good so_far.fit.formed.conds so_far.fit.fits so_far.cond list.1;
      }

  pub signalling-inside : (p : Party) → Next now k p → IsInside now.machine.goroutines.items p.g
  signalling-inside p next = inside-suspended script (state_of now.machine) p.g k so_far.good so_far.fit.formed next.its.waits

  module _ (p : Party) (next : Next now k p) (m : Machine) (w : Scheduler) (state : state_of m ≡ relocked_state (state_of now.machine) p.g k)
      (schedule : schedule_of w ≡ relocked (schedule_of now.scheduler) p.g k) where
    counted : count + 1 + suspended_count (state_of m) k ≡ suspended_count (state_of old.machine) k
    counted =
        let less : suspended_count (relocked_state (state_of now.machine) p.g k) k + 1 ≡ suspended_count (state_of now.machine) k = counted-relocked (state_of now.machine) p.g k next.its.waits in
        let same : suspended_count (state_of m) k ≡ suspended_count (relocked_state (state_of now.machine) p.g k) k = ap (λ (s : State). suspended_count s k) state in
        let before : count + suspended_count (state_of now.machine) k ≡ suspended_count (state_of old.machine) k = so_far.counted in
        omega arith

    pub signalling-few : count + 1 < 2 ^ 32
    signalling-few =
        let all : count + 1 + suspended_count (state_of m) k ≡ suspended_count (state_of old.machine) k = counted in
        let few : suspended_count (state_of old.machine) k < 2 ^ 32 = so_far.few in
        omega arith

    pub signalling-less : length (parties_at (schedule_of w).receivers k) < length (parties_at (schedule_of now.scheduler).receivers k)
    signalling-less =
        let after : length (parties_at (schedule_of w).receivers k) ≡ length next.rest = ap (λ (x : Schedule). length (parties_at x.receivers k)) schedule ∙ ap length next.its.list in
        let before : length (parties_at (schedule_of now.scheduler).receivers k) ≡ length (p ∷ next.rest) = ap length next.parts in
        omega arith

    fit-next : IsScheduler w → AreFit script (record { history = now.history; machine = m; scheduler = w; waking = now.waking })
    fit-next kept = record {
      formed = subst (IsFormed script) (sym state) (formed-relocked script (state_of now.machine) p.g k so_far.fit.formed next.its.waits);
      fits = subst (λ s. Fits script s (schedule_of w)) (sym state) (subst (Fits script (relocked_state (state_of now.machine) p.g k)) (sym schedule)
          (fits-relocked script (state_of now.machine) (schedule_of now.scheduler) p.g k so_far.good so_far.fit.formed.conds so_far.fit.fits next.its.waits));
      kept = kept;
    }

    pub signalling-more : length m.goroutines.items ≡ length now.machine.goroutines.items → m.goroutines.spare ≡ now.machine.goroutines.spare → m.channels ≡ now.machine.channels → m.ctxs ≡ now.machine.ctxs
        → capacity w ≡ capacity now.scheduler → IsScheduler w → Signalling script old (record { history = now.history; machine = m; scheduler = w; waking = now.waking }) k (count + 1)
    signalling-more many spare channels contexts places kept = record {
      good = so_far.good;
      cond = so_far.cond;
      fit = fit-next kept;
      history = so_far.history;
      state =
          let here : state_of m ≡ record (state_of now.machine) { goroutines = (state_of m).goroutines } =
          state ∙ ap (λ (s : State). record (state_of now.machine) { goroutines = s.goroutines }) (sym state) in
          here ∙ ap (λ (s : State). record s { goroutines = (state_of m).goroutines }) so_far.state;
      goroutines = ap (λ (s : State). map (signalled k) s.goroutines) state ∙ (signalled-relocked (state_of now.machine) p.g k next.its.waits ∙ so_far.goroutines);
      schedule =
          let after : Schedule = relocked (schedule_of now.scheduler) p.g k in
          ap (λ x. all_relocked x k) schedule ∙ (ap (each_relocked after k) next.its.list ∙ (ap (each_relocked (schedule_of now.scheduler) k) (sym next.parts) ∙ so_far.schedule));
      counted = counted;
      few = so_far.few;
      many = many ∙ so_far.many;
      spare = spare ∙ so_far.spare;
      channels = channels ∙ so_far.channels;
      contexts = contexts ∙ so_far.contexts;
      waking = so_far.waking;
      places = places ∙ so_far.places;
    }

  -- where nobody is left, all are signalled
  pub signals-all : parties_at (schedule_of now.scheduler).receivers k ≡ [] → Signals script old k count now
  signals-all none =
      let nobody : suspended_count (state_of now.machine) k ≡ 0 = counted-none script (state_of now.machine) (schedule_of now.scheduler) k so_far.fit.fits so_far.cond none in
      let before : count + suspended_count (state_of now.machine) k ≡ suspended_count (state_of old.machine) k = so_far.counted in
      let same : (state_of now.machine).goroutines ≡ map (signalled k) (state_of old.machine).goroutines =
      sym (signalled-none script (state_of now.machine) (schedule_of now.scheduler) k so_far.fit.fits so_far.cond none) ∙ so_far.goroutines in
      record {
        history = so_far.history;
        state = so_far.state ∙ ap (λ gs. record (state_of old.machine) { goroutines = gs }) same;
        schedule = sym (ap (each_relocked (schedule_of now.scheduler) k) none) ∙ so_far.schedule;
        counted = omega arith;
        none = nobody;
        fit = so_far.fit;
        many = so_far.many;
        spare = so_far.spare;
        channels = so_far.channels;
        contexts = so_far.contexts;
        waking = so_far.waking;
        places = so_far.places;
      }

-- ---- the broadcast

-- signalling twice is signalling once, and who goes on does so as well after it
map-twice : {X : Type 0} (f : X → X) (xs : List X) → ((x : X) → f (f x) ≡ f x) → map f (map f xs) ≡ map f xs
map-twice f [] same = refl
map-twice f (x ∷ xs) same = ap (λ y. y ∷ map f (map f xs)) (same x) ∙ ap (λ ys. f x ∷ ys) (map-twice f xs same)

map-changed : {X : Type 0} (f h : X → X) (xs : List X) (i : ℕ) → ((x : X) → f (f x) ≡ f x) → ((x : X) → f (h (f x)) ≡ f (h x)) → map f (change (map f xs) i h) ≡ map f (change xs i h)
map-changed f h [] i same after = refl
map-changed f h (x ∷ xs) zero same after = ap (λ y. y ∷ map f (map f xs)) (after x) ∙ ap (λ ys. f (h x) ∷ ys) (map-twice f xs same)
map-changed f h (x ∷ xs) (suc i) same after = ap (λ y. y ∷ map f (change (map f xs) i h)) (same x) ∙ ap (λ ys. f x ∷ ys) (map-changed f h xs i same after)

map-changed_numbered : {X : Type 0} (f h : X → X) (xs : List X) (g : ℕ) → ((x : X) → f (f x) ≡ f x) → ((x : X) → f (h (f x)) ≡ f (h x))
    → map f (change_numbered (map f xs) g h) ≡ map f (change_numbered xs g h)
map-changed_numbered f h xs zero same after = map-twice f xs same
map-changed_numbered f h xs (suc i) same after = map-changed f h xs i same after

signalled-twice : (k : ℕ) (r : Goroutine) → signalled k (signalled k r) ≡ signalled k r
signalled-twice k r =
    elim (is_suspended k r) as (λ b. is_suspended k r ≡ b → signalled k (cond b (in_mode (Mode.Relocking k) r) r) ≡ cond b (in_mode (Mode.Relocking k) r) r) [
      | true ↦ λ e. refl
      | false ↦ λ e. ap (λ b. cond b (in_mode (Mode.Relocking k) r) r) e
    ] refl

signalled-moved : (script : Script) (k : ℕ) (r : Goroutine) → signalled k (moved script (Move.GoesOn 0) (signalled k r)) ≡ signalled k (moved script (Move.GoesOn 0) r)
signalled-moved script k r =
    elim (is_suspended k r)
    as (λ b. signalled k (moved script (Move.GoesOn 0) (cond b (in_mode (Mode.Relocking k) r) r)) ≡ signalled k (moved script (Move.GoesOn 0) r)) [
      | true ↦ refl
      | false ↦ refl
    ]

-- the state after the broadcast, by the signalled one
after-signalled : (script : Script) (s : State) (g k n : ℕ) → after script (record s { goroutines = map (signalled k) s.goroutines }) (Entry.Broadcast g k 0) ≡ after script s (Entry.Broadcast g k n)
after-signalled script s g k n =
    ap (λ gs. record (after script s (Entry.Broadcast g k n)) { goroutines = gs })
    (map-changed_numbered (signalled k) (moved script (Move.GoesOn 0)) s.goroutines g (signalled-twice k) (signalled-moved script k))

-- and so is the schedule
often-none : (xs : List Party) → ((q : Party) → often q xs ≡ 0) → xs ≡ []
often-none [] none = refl
often-none (x ∷ xs) none =
    let one : as_number (is_party x x) ≡ 1 = ap as_number (is_party-same x) in
    let nobody : often x (x ∷ xs) ≡ 0 = none x in
    absurd (omega arith)

scheduled-hand : (m : Schedule) (g k n : ℕ) → status_of m g ≡ Some RunStatus.InHand → scheduled m (Entry.Broadcast g k n) ≡ all_relocked m k
scheduled-hand m g k n hand = ap (λ (o : Option RunStatus). all_relocked (gone_on m g (is_parked o)) k) hand

hand-relocked : (m : Schedule) (g k : ℕ) → status_of m g ≡ Some RunStatus.InHand → status_of (all_relocked m k) g ≡ Some RunStatus.InHand
hand-relocked m g k hand = ap (λ xs. numbered xs g) (each-statuses m k (parties_at m.receivers k)) ∙ hand

scheduled-signalled : (m : Schedule) (g k n : ℕ) → IsCondAt m k → status_of m g ≡ Some RunStatus.InHand
    → scheduled (all_relocked m k) (Entry.Broadcast g k 0) ≡ scheduled m (Entry.Broadcast g k n)
scheduled-signalled m g k n cond hand =
    let none : parties_at (all_relocked m k).receivers k ≡ [] = often-none (parties_at (all_relocked m k).receivers k) (λ q. all-cond m k q cond) in
    scheduled-hand (all_relocked m k) g k 0 (hand-relocked m g k hand) ∙ (ap (each_relocked (all_relocked m k) k) none ∙ sym (scheduled-hand m g k n hand))

-- who makes the broadcast stands there still
slice_get-map : {X : Type 0} (f : X → X) (xs : List X) (i : ℕ) (x : X) → slice_get xs i ≡ Some x → slice_get (map f xs) i ≡ Some (f x)
slice_get-map f [] i x e = cc
slice_get-map f (y ∷ ys) zero x e = let is : y ≡ x = cc in ap (λ z. Some (f z)) is
slice_get-map f (y ∷ ys) (suc i) x e = slice_get-map f ys i x e

numbered-map : {X : Type 0} (f : X → X) (xs : List X) (g : ℕ) (x : X) → numbered xs g ≡ Some x → numbered (map f xs) g ≡ Some (f x)
numbered-map f xs zero x e = cc
numbered-map f xs (suc i) x e = slice_get-map f xs i x e

stands-signalled : (script : Script) (s : State) (g k : ℕ) (i : Instr) → stands_at script s g ≡ Some i → stands_at script (record s { goroutines = map (signalled k) s.goroutines }) g ≡ Some i
stands-signalled script s g k i h =
    let st : Standing script s g i = standing script s g i h in
    let own : signalled k st.who ≡ st.who = subst (λ (m : Mode). signalled k (in_mode m st.who) ≡ in_mode m st.who) (sym st.at) refl in
    let same : numbered (map (signalled k) s.goroutines) g ≡ goroutine_at s g = numbered-map (signalled k) s.goroutines g st.who st.there ∙ (ap Some own ∙ sym st.there) in
    ap (λ (o : Option Goroutine). elim o as (λ o. Option Instr) [ None ↦ None | Some r ↦ stands script r ]) same ∙ h

broadcast-calm : (script : Script) (s : State) (g k : ℕ) → stands_at script s g ≡ Some (Instr.Broadcast k) → panic_at script s g ≡ None
broadcast-calm script s g k h =
    elim (goroutine_at s g)
    as (λ o. (elim o as (λ o. Option Instr) [ None ↦ None | Some r ↦ stands script r ]) ≡ Some (Instr.Broadcast k)
    → (elim o as (λ o. Option (ℕ × Reason)) [ None ↦ None | Some r ↦ panic_of script s r ]) ≡ None) [
      | None ↦ λ q. refl
      | Some r ↦ λ q. ap (λ (o : Option Instr). elim o as (λ o. Option (ℕ × Reason)) [ None ↦ None | Some i ↦ fault_at script s i ]) q
    ] h

-- a run that may make a broadcast may signal those that wait at its Cond
pub can_make-signals : (script : Script) (limits : Limits) (r : Run) (g k n : ℕ) → CanMake script limits r (Entry.Broadcast g k n) → CanSignal script r k
can_make-signals script limits r g k n can = record {
  good = can.kept.way.sound.good;
  cond = names-Does script (state_of r.machine) g (Instr.Broadcast k) can.kept.way.sound.good can.may.0;
  fit = record { formed = can.kept.way.sound.formed; fits = can.kept.way.sound.fits; kept = can.kept.rooms.scheduler };
}

-- once they are signalled, nobody is left
module _ (script : Script) (limits : Limits) (old mid : Run) (g k n count : ℕ) (can : CanMake script limits old (Entry.Broadcast g k n)) (all : Signals script old k count mid)
    (hand : status_of (schedule_of old.scheduler) g ≡ Some RunStatus.InHand) where
  pub broadcast-may : May script (state_of mid.machine) (Entry.Broadcast g k 0)
  broadcast-may =
      let stands : stands_at script (state_of mid.machine) g ≡ Some (Instr.Broadcast k) =
      ap (λ (s : State). stands_at script s g) all.state ∙ stands-signalled script (state_of old.machine) g k (Instr.Broadcast k) can.may.0.stands in
      (record { stands = stands; calm = broadcast-calm script (state_of mid.machine) g k stands }, sym all.none)

  in_hand : status_of (schedule_of mid.scheduler) g ≡ Some RunStatus.InHand
  in_hand = ap (λ (m : Schedule). status_of m g) all.schedule ∙ hand-relocked (schedule_of old.scheduler) g k hand

  served : Served (schedule_of mid.scheduler) (Entry.Broadcast g k 0)
  served = (subst (λ (o : Option RunStatus). MayMove o (Move.GoesOn 0)) (sym in_hand) refl, tt)

  pub broadcast-applies : CanApply mid.scheduler (Entry.Broadcast g k 0)
  broadcast-applies =
      let room : length old.machine.goroutines.items + 0 ≤ most_goroutines script limits = starts-fit script limits old (Entry.Broadcast g k n) can in
      let many : length mid.machine.goroutines.items ≡ length old.machine.goroutines.items = all.many in
      let as_many : length mid.scheduler.statuses.items ≡ length mid.machine.goroutines.items = all.fit.fits.as_many in
      let before : capacity old.scheduler ≡ most_goroutines script limits = can.kept.rooms.schedule in
      let places : capacity mid.scheduler ≡ capacity old.scheduler = all.places in
      record {
        kept = all.fit.kept;
        orderly = orderly-fits script (state_of mid.machine) (schedule_of mid.scheduler) all.fit.fits;
        served = served;
        lists = has-lists_in script (state_of mid.machine) (schedule_of mid.scheduler) (change_of (Entry.Broadcast g k 0))
            (rightly-May script (state_of mid.machine) (Entry.Broadcast g k 0) can.kept.way.sound.good all.fit.formed broadcast-may) all.fit.fits served;
        spare = omega arith;
      }

  -- and the entry is made as from the beginning
  pub broadcast-applied : (new : Run) → n ≡ count → state_of new.machine ≡ after script (state_of mid.machine) (Entry.Broadcast g k 0)
      → length new.machine.goroutines.items + new.machine.goroutines.spare ≡ length mid.machine.goroutines.items + mid.machine.goroutines.spare
      → HasChannels script new.machine → HasContexts script new.machine → new.waking ≡ mid.waking → schedule_of new.scheduler ≡ scheduled (schedule_of mid.scheduler) (Entry.Broadcast g k 0)
      → capacity new.scheduler ≡ capacity mid.scheduler → IsScheduler new.scheduler
      → new.history.items ≡ mid.history.items ++ Entry.Broadcast g k count ∷ [] → new.history.spare + 1 ≡ mid.history.spare → Makes script limits old (Entry.Broadcast g k n) new
  broadcast-applied new counted state goroutines channels contexts waking schedule places kept items spare =
      let cond : IsCondAt (schedule_of old.scheduler) k =
      cond-at script (state_of old.machine) (schedule_of old.scheduler) k can.kept.way.sound.good can.kept.way.sound.fits (can_make-signals script limits old g k n can).cond in
      makes-applied script limits old (Entry.Broadcast g k n) new can (record {
        state = state ∙ (ap (λ s. after script s (Entry.Broadcast g k 0)) all.state ∙ after-signalled script (state_of old.machine) g k n);
        goroutines = goroutines ∙ (ap (λ a. a + mid.machine.goroutines.spare) all.many ∙ ap (λ a. length old.machine.goroutines.items + a) all.spare);
        channels = channels;
        contexts = contexts;
        waking = waking-room script old new (waking ∙ all.waking) can.kept.rooms.waking;
        schedule = schedule ∙ (ap (λ m. scheduled m (Entry.Broadcast g k 0)) all.schedule ∙ scheduled-signalled (schedule_of old.scheduler) g k n cond hand);
        places = places ∙ all.places;
        kept = kept;
        items = items ∙ (ap (λ (h : Contents Entry). h.items ++ Entry.Broadcast g k count ∷ []) all.history ∙ ap (λ a. old.history.items ++ Entry.Broadcast g k a ∷ []) (sym counted));
        spare = spare ∙ ap (λ (h : Contents Entry). h.spare) all.history;
      })
