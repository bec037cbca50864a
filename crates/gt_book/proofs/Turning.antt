-- Every change keeps a schedule that fits its state.
use Rattle.std.proofs.Common.{IfSome, option_map, ◌≡◌, ℕ, zero, suc, cond, option_map, ◌+◌, ◌<◌, List, [], ◌∷◌, ◌++◌, length, refl, sym, ap, subst, ◌∙◌, arith, Option, None, Some, Bool, true, false, ◌||◌, IsTrue}
use Rattle.std.proofs.Math.ListN.{length-append}
use Rattle.gt_model.specs.declared.script.Script.{Script}
use Rattle.gt_model.specs.declared.script.Instr.{Instr}
use Rattle.gt_model.specs.declared.script.CaseKind.{CaseKind}
use Rattle.gt_model.specs.declared.entry.Entry.{Entry}
use Rattle.gt_model.specs.declared.state.Goroutine.{Goroutine}
use Rattle.gt_model.specs.declared.state.Mode.{Mode}
use Rattle.gt_model.specs.Tables.{numbered, change, change_numbered}
use Rattle.gt_model.proofs.Changes.{length-change_numbered}
use Rattle.gt_model.proofs.Items.{numbered-change_same, numbered-change_other, numbered-push_same, numbered-push_other, numbered-next}
use Rattle.gt_rules.specs.State.{State, goroutine_at}
use Rattle.gt_rules.specs.After.{after, changed, moved, with_mover, with_starts, started_by}
use Rattle.gt_rules.specs.Change.{Change, change_of}
use Rattle.gt_rules.specs.Operations.{receives_from, sends_to}
use Rattle.gt_rules.specs.declared.change.Move.{Move}
use Rattle.gt_rules.specs.declared.change.Start.{Start}
use Rattle.gt_schedule.specs.declared.status.RunStatus.{RunStatus}
use Rattle.gt_schedule.specs.Counts.{as_number}
use Rattle.gt_schedule.specs.Schedule.{Schedule, plainly, status_of, is_queued, is_in_hand, is_parked, parked_at, with_new, gone_on, turned, moved_by, begun_by, rescheduled, scheduled, MayMove, ServedBy, ServedIn, Served}
use Rattle.gt_schedule.proofs.Lists.{times-push_same, times-push_other, length-joins, often-joins_other}
use Rattle.gt_model.specs.declared.entry.Outcome.{Outcome}
use Rattle.gt_model.specs.Good.{IsGood}
use Rattle.gt_model.specs.Script.{is_cond}
use Rattle.gt_model.proofs.Declared.{cond_declared}
use Rattle.gt_model.proofs.Changes.{AllNumbered, all_numbered-change}
use Rattle.gt_rules.specs.After.{in_mode, with_signalled}
use Rattle.gt_rules.specs.Legal.{May}
use Rattle.gt_facts.specs.Formed.{IsFormed}
use Rattle.gt_facts.proofs.Formed.{WaitsRightly}
use Rattle.gt_facts.proofs.Lookups.{names-Does}
use Rattle.gt_facts.proofs.Suspended.{signals-other}
use Rattle.gt_schedule.specs.Schedule.{signalled_by, HasLists, HasListsBy, HasListsAt, HasListsIn}
use Rattle.gt_schedule.proofs.Lists.{length-joins, often-joins_other}
use Rattle.gt_book.specs.View.{Agrees, Fits}
use Rattle.gt_book.proofs.Changing.{wants_of, FitsOne, fits-one, Known, known, fits-changes, fits-stays, fits-goes_on, fits-leaves_hand, fits-unparked, one-is, one-of, off}
use Rattle.gt_book.proofs.Joining.{WaitsFor, joined-waits, apart-waits}
use Rattle.gt_book.proofs.Relocking.{WaitAtConds, waits-cond, suspended-waits, cond-at, stands-at_cond, plain-at_cond, fits-relocked}
use Rattle.gt_book.proofs.Signalling.{fits-signalled}

-- ---- every move

abbrev with_goroutines : State → List Goroutine → State
with_goroutines s gs = record s { goroutines = gs }

hand-is : (o : Option RunStatus) → is_parked o ≡ false → IsTrue (is_in_hand o || is_parked o) → o ≡ Some RunStatus.InHand
hand-is None e h = cc
hand-is (Some RunStatus.Queued) e h = cc
hand-is (Some RunStatus.InHand) e h = refl
hand-is (Some (RunStatus.Parked since)) e h = cc
hand-is (Some RunStatus.Ended) e h = cc

fits-gone_on : (script : Script) (s : State) (m : Schedule) (g n : ℕ) (waits : Bool) → is_parked (status_of m g) ≡ waits → Fits script s m
    → MayMove (status_of m g) (Move.GoesOn n)
    → Fits script (with_goroutines s (change_numbered s.goroutines g (moved script (Move.GoesOn n)))) (gone_on m g waits)
fits-gone_on script s m g n true e fits may =
    fits-unparked script s (with_goroutines s (change_numbered s.goroutines g (moved script (Move.GoesOn n)))) m g (moved script (Move.GoesOn n)) fits e refl (λ r. tt)
fits-gone_on script s m g n false e fits may =
    fits-goes_on script s (with_goroutines s (change_numbered s.goroutines g (moved script (Move.GoesOn n)))) m g (moved script (Move.GoesOn n)) fits (hand-is (status_of m g) e may) refl (λ r. tt)

-- a change to the same changes nothing
same-change : {X : Type 0} (xs : List X) (i : ℕ) → change xs i (λ x. x) ≡ xs
same-change [] i = refl
same-change (x ∷ xs) zero = refl
same-change (x ∷ xs) (suc i) = ap (λ ys. x ∷ ys) (same-change xs i)

pub unchanged : {X : Type 0} (xs : List X) (g : ℕ) → change_numbered xs g (λ x. x) ≡ xs
unchanged xs zero = refl
unchanged xs (suc i) = same-change xs i

-- what a move needs of the goroutine that moves: a wait is at a Cond, and who is signalled at one waits there
abbrev pub MovesRightly : Script → List Goroutine → ℕ → Move → Type 0
MovesRightly script gs g (Move.GoesOn n) = Unit {0}
MovesRightly script gs g (Move.FallsAsleep until) = Unit {0}
MovesRightly script gs g (Move.Suspends k) = IsTrue (is_cond script k)
MovesRightly script gs g (Move.Relocks k) = option_map (λ (r : Goroutine). r.mode) (numbered gs g) ≡ Some (Mode.Suspended k)
MovesRightly script gs g Move.Ends = Unit {0}
MovesRightly script gs g Move.Panics = Unit {0}

abbrev pub MoverRightly : Script → List Goroutine → Option (ℕ × Move) → Type 0
MoverRightly script gs None = Unit {0}
MoverRightly script gs (Some x) = MovesRightly script gs x.0 x.1

-- who is in hand waits at a Cond, behind those that wait there
fits-suspends : (script : Script) (s : State) (m : Schedule) (g k : ℕ) → Fits script s m → status_of m g ≡ Some RunStatus.InHand → IsTrue (is_cond script k)
    → Fits script (with_goroutines s (change_numbered s.goroutines g (in_mode (Mode.Suspended k)))) (parked_at m (plainly g) (CaseKind.Recv k))
fits-suspends script s m g k fits in_hand cond =
    let known_so : Known script s m g RunStatus.InHand = known script s m g RunStatus.InHand fits in_hand in
    let many : length m.receivers ≡ length script.decls = fits.receivers in
    let declared : k < length script.decls = cond_declared script k cond in
    let next : State = with_goroutines s (change_numbered s.goroutines g (in_mode (Mode.Suspended k))) in
    let n : Schedule = parked_at m (plainly g) (CaseKind.Recv k) in
    let x : RunStatus = RunStatus.Parked m.parks in
    let r : Goroutine = in_mode (Mode.Suspended k) known_so.who in
    let waits : WaitsFor script r (CaseKind.Recv k) = suspended-waits script known_so.who k in
    fits-changes script s next m n g fits
    (length-change_numbered m.statuses g (λ _. x) ∙ (fits.as_many ∙ sym (length-change_numbered s.goroutines g (in_mode (Mode.Suspended k)))))
    refl
    (length-joins m.receivers k (plainly g))
    refl
    (λ y other. numbered-change_other s.goroutines g y (in_mode (Mode.Suspended k)) other)
    (λ y other. numbered-change_other m.statuses g y (λ _. x) other)
    (λ y other. refl)
    (λ u p other. often-joins_other m.receivers k u p (plainly g) other)
    (λ u p other. refl)
    (one-is script n g (goroutine_at next g) (Some r) (status_of n g) (Some x)
    (numbered-change_same s.goroutines g (in_mode (Mode.Suspended k)) known_so.who known_so.there)
    (numbered-change_same m.statuses g (λ _. x) RunStatus.InHand in_hand)
    (one-of script n g r x tt known_so.one.queued
    (λ u c h. joined-waits script m.receivers r g (CaseKind.Recv k) receives_from waits k u c (λ u. refl) (omega arith) (known_so.one.waiting u c h))
    (λ u c h. apart-waits script m.senders r g (CaseKind.Recv k) sends_to waits u c refl (known_so.one.sending u c h))))

fits-turned : (script : Script) (s : State) (m : Schedule) (g : ℕ) (move : Move) → IsGood script → WaitAtConds script s
    → MovesRightly script s.goroutines g move → Fits script s m
    → MayMove (status_of m g) move → Fits script (with_goroutines s (change_numbered s.goroutines g (moved script move))) (turned m g move)
fits-turned script s m g (Move.GoesOn n) good conds rightly fits may = fits-gone_on script s m g n (is_parked (status_of m g)) refl fits may
fits-turned script s m g (Move.FallsAsleep until) good conds rightly fits may =
    fits-leaves_hand script s (with_goroutines s (change_numbered s.goroutines g (moved script (Move.FallsAsleep until)))) m _ g (moved script (Move.FallsAsleep until)) (RunStatus.Parked m.parks)
    fits may refl (λ r. tt) refl (λ r n test. refl)
fits-turned script s m g (Move.Suspends k) good conds rightly fits may = fits-suspends script s m g k fits may rightly
fits-turned script s m g (Move.Relocks k) good conds rightly fits may = fits-relocked script s m g k good conds fits rightly
fits-turned script s m g Move.Ends good conds rightly fits may =
    fits-leaves_hand script s (with_goroutines s (change_numbered s.goroutines g (moved script Move.Ends))) m m.parks g (moved script Move.Ends) RunStatus.Ended fits may refl (λ r. tt) refl (λ r n test. refl)
fits-turned script s m g Move.Panics good conds rightly fits may = fits-stays script s (with_goroutines s (change_numbered s.goroutines g (λ r. r))) m fits (unchanged s.goroutines g)

pub fits-moved : (script : Script) (s : State) (m : Schedule) (o : Option (ℕ × Move)) → IsGood script → WaitAtConds script s
    → MoverRightly script s.goroutines o → Fits script s m → ServedBy m o
    → Fits script (with_goroutines s (with_mover script s.goroutines o)) (moved_by m o)
fits-moved script s m None good conds rightly fits served = fits-stays script s (with_goroutines s s.goroutines) m fits refl
fits-moved script s m (Some x) good conds rightly fits served = fits-turned script s m x.0 x.1 good conds rightly fits served

-- waits are at Conds after a move too
conds-turned : (script : Script) (gs : List Goroutine) (g : ℕ) (move : Move) (r : Goroutine) → AllNumbered (λ (r : Goroutine). WaitsRightly script r.mode) gs
    → MovesRightly script gs g move
    → numbered gs g ≡ Some r → WaitsRightly script (moved script move r).mode
conds-turned script gs g (Move.GoesOn n) r conds rightly there = (tt, tt)
conds-turned script gs g (Move.FallsAsleep until) r conds rightly there = (tt, tt)
conds-turned script gs g (Move.Suspends k) r conds rightly there = (rightly, tt)
conds-turned script gs g (Move.Relocks k) r conds rightly there =
    let its : Some r.mode ≡ Some (Mode.Suspended k) = sym (ap (option_map (λ (r : Goroutine). r.mode)) there) ∙ rightly in
    let is : r.mode ≡ Mode.Suspended k = cc in
    (tt, (subst (WaitsRightly script) is (conds g r there)).0)
conds-turned script gs g Move.Ends r conds rightly there = (tt, tt)
conds-turned script gs g Move.Panics r conds rightly there = conds g r there

pub conds-moved : (script : Script) (s : State) (o : Option (ℕ × Move)) → WaitAtConds script s → MoverRightly script s.goroutines o
    → WaitAtConds script (with_goroutines s (with_mover script s.goroutines o))
conds-moved script s None conds rightly = conds
conds-moved script s (Some x) conds rightly =
    all_numbered-change (λ (r : Goroutine). WaitsRightly script r.mode) s.goroutines x.0 (moved script x.1) conds (λ r there. conds-turned script s.goroutines x.0 x.1 r conds rightly there)

-- ---- a new goroutine

pub fits-begins : (script : Script) (s next : State) (m : Schedule) (r : Goroutine) → Fits script s m → next.goroutines ≡ s.goroutines ++ r ∷ []
    → Agrees r.mode RunStatus.Queued
    → Fits script next (with_new m)
fits-begins script s next m r fits is agrees =
    let child : ℕ = length m.statuses + 1 in
    let new : child ≡ length s.goroutines + 1 = ap (λ n. n + 1) fits.as_many in
    let none : status_of m child ≡ None = numbered-next m.statuses child refl in
    let before : FitsOne script m child (goroutine_at s child) (status_of m child) = fits-one script s m child fits in
    let more : length (s.goroutines ++ r ∷ []) ≡ length s.goroutines + 1 = length-append s.goroutines (r ∷ []) in
    let more_statuses : length (m.statuses ++ RunStatus.Queued ∷ []) ≡ length m.statuses + 1 = length-append m.statuses (RunStatus.Queued ∷ []) in
    fits-changes script s next m (with_new m) child fits
    (more_statuses ∙ (new ∙ sym (ap length is ∙ more)))
    refl
    refl
    refl
    (λ y other. ap (λ gs. numbered gs y) is ∙ numbered-push_other s.goroutines r y (λ e. other (e ∙ sym new)))
    (λ y other. numbered-push_other m.statuses RunStatus.Queued y other)
    (λ y other. times-push_other y child m.run_queue other)
    (λ t p other. refl)
    (λ t p other. refl)
    (one-is script (with_new m) child (goroutine_at next child) (Some r) (status_of (with_new m) child) (Some RunStatus.Queued)
    (ap (λ gs. numbered gs child) is ∙ numbered-push_same s.goroutines r child new)
    (numbered-push_same m.statuses RunStatus.Queued child refl)
    (one-of script (with_new m) child r RunStatus.Queued agrees
    (times-push_same child m.run_queue ∙ ap (λ n. n + 1) (before.queued ∙ ap (λ o. as_number (is_queued o)) none))
    (λ t n h. before.waiting t n h ∙ off (is_parked (status_of m child)) (wants_of script (goroutine_at s child) n (receives_from t)) (ap is_parked none))
    (λ t n h. before.sending t n h ∙ off (is_parked (status_of m child)) (wants_of script (goroutine_at s child) n (sends_to t)) (ap is_parked none))))

started-at : (script : Script) (s : State) (x : Start) → Agrees (started_by script s x).mode RunStatus.Queued
started-at script s (Start.ByGoroutine g f) = tt
started-at script s (Start.ByTimer t) = tt
started-at script s (Start.ByHook h) = tt
started-at script s (Start.ByEnd x i) = tt

fits-begun : (script : Script) (s : State) (gs : List Goroutine) (m : Schedule) (starts : List Start) → Fits script (with_goroutines s gs) m
    → Fits script (with_goroutines s (with_starts script s gs starts)) (begun_by m starts)
fits-begun script s gs m [] fits = fits
fits-begun script s gs m (x ∷ xs) fits =
    fits-begun script s (gs ++ started_by script s x ∷ []) (with_new m) xs
    (fits-begins script (with_goroutines s gs) (with_goroutines s (gs ++ started_by script s x ∷ [])) m (started_by script s x) fits refl (started-at script s x))

-- ---- every change

-- what a change needs of the state: waits are at Conds, before it and by it, and who is signalled waits there
pub record ChangesRightly (script : Script) (s : State) (c : Change) : Type 0 where
  pub good : IsGood script
  pub conds : WaitAtConds script s
  pub mover : MoverRightly script s.goroutines c.mover
  pub partner : MoverRightly script (with_mover script s.goroutines c.mover) c.partner
  pub broadcast : IfSome c.broadcast (λ k. IsTrue (is_cond script k))

-- who makes the entry moves, and then its partner
pub fits-both : (script : Script) (s : State) (m : Schedule) (c : Change) → ChangesRightly script s c → Fits script s m → ServedIn m c
    → Fits script (with_goroutines s (with_mover script (with_mover script s.goroutines c.mover) c.partner)) (moved_by (moved_by m c.mover) c.partner)
fits-both script s m c rightly fits served =
    fits-moved script (with_goroutines s (with_mover script s.goroutines c.mover)) (moved_by m c.mover) c.partner rightly.good
    (conds-moved script s c.mover rightly.conds rightly.mover) rightly.partner
    (fits-moved script s m c.mover rightly.good rightly.conds rightly.mover fits served.0) served.1

pub conds-both : (script : Script) (s : State) (c : Change) → ChangesRightly script s c
    → WaitAtConds script (with_goroutines s (with_mover script (with_mover script s.goroutines c.mover) c.partner))
conds-both script s c rightly =
    conds-moved script (with_goroutines s (with_mover script s.goroutines c.mover)) c.partner (conds-moved script s c.mover rightly.conds rightly.mover) rightly.partner

pub fits-changed : (script : Script) (s : State) (m : Schedule) (c : Change) → ChangesRightly script s c → Fits script s m → ServedIn m c
    → Fits script (changed script s c) (rescheduled m c)
fits-changed script s m c rightly fits served =
    let gs : List Goroutine = with_mover script (with_mover script s.goroutines c.mover) c.partner in
    let both : Schedule = moved_by (moved_by m c.mover) c.partner in
    fits-stays script (with_goroutines s (changed script s c).goroutines) (changed script s c) (rescheduled m c)
    (fits-begun script s (with_signalled gs c.broadcast) (signalled_by both c.broadcast) c.starts
    (fits-signalled script (with_goroutines s gs) both c.broadcast rightly.good (conds-both script s c rightly) (fits-both script s m c rightly fits served) rightly.broadcast)) refl

-- ---- every entry

pub rightly-May : (script : Script) (s : State) (e : Entry) → IsGood script → IsFormed script s → May script s e → ChangesRightly script s (change_of e)
rightly-May script s (Entry.Sleep g None) good formed may = record { good = good; conds = formed.conds; mover = tt; partner = tt; broadcast = tt }
rightly-May script s (Entry.Sleep g (Some until)) good formed may = record { good = good; conds = formed.conds; mover = tt; partner = tt; broadcast = tt }
rightly-May script s (Entry.CondWait g k) good formed may =
    record { good = good; conds = formed.conds; mover = names-Does script s g (Instr.CWait k) good may; partner = tt; broadcast = tt }
rightly-May script s (Entry.Signal g k None) good formed may = record { good = good; conds = formed.conds; mover = tt; partner = tt; broadcast = tt }
rightly-May script s (Entry.Signal g k (Some h)) good formed may = record {
  good = good;
  conds = formed.conds;
  mover = tt;
  partner =
      ap (option_map (λ (r : Goroutine). r.mode))
      (numbered-change_other s.goroutines g h (moved script (Move.GoesOn 0)) (signals-other script s g h k (Instr.Signal k) may.0.stands may.1)) ∙ may.1;
  broadcast = tt;
}
rightly-May script s (Entry.Broadcast g k count) good formed may =
    record { good = good; conds = formed.conds; mover = tt; partner = tt; broadcast = names-Does script s g (Instr.Broadcast k) good may.0 }
rightly-May script s (Entry.Finish outcome) good formed may = absurd may
rightly-May script s _ good formed may = record { good = good; conds = formed.conds; mover = tt; partner = tt; broadcast = tt }

pub rightly-finish : (script : Script) (s : State) (outcome : Outcome) → IsGood script → IsFormed script s
    → ChangesRightly script s (change_of (Entry.Finish outcome))
rightly-finish script s outcome good formed = record { good = good; conds = formed.conds; mover = tt; partner = tt; broadcast = tt }

pub fits-entered : (script : Script) (s : State) (m : Schedule) (e : Entry) → IsGood script → IsFormed script s → May script s e → Fits script s m → Served m e
    → Fits script (after script s e) (scheduled m e)
fits-entered script s m e good formed may fits served = fits-changed script s m (change_of e) (rightly-May script s e good formed may) fits served

-- ---- the lists that a change needs

has-lists : (script : Script) (s : State) (m : Schedule) (g : ℕ) (move : Move) → IsGood script → WaitAtConds script s
    → MovesRightly script s.goroutines g move → Fits script s m → HasLists m g move
has-lists script s m g (Move.GoesOn n) good conds rightly fits = tt
has-lists script s m g (Move.FallsAsleep until) good conds rightly fits = tt
has-lists script s m g (Move.Suspends k) good conds rightly fits = (cond-at script s m k good fits rightly).declared
has-lists script s m g (Move.Relocks k) good conds rightly fits =
    let cond : IsTrue (is_cond script k) = waits-cond script s g k conds rightly in
    (cond-at script s m k good fits cond, stands-at_cond script s m g k fits rightly cond)
has-lists script s m g Move.Ends good conds rightly fits = tt
has-lists script s m g Move.Panics good conds rightly fits = tt

has-lists_by : (script : Script) (s : State) (m : Schedule) (o : Option (ℕ × Move)) → IsGood script → WaitAtConds script s
    → MoverRightly script s.goroutines o → Fits script s m → HasListsBy m o
has-lists_by script s m None good conds rightly fits = tt
has-lists_by script s m (Some x) good conds rightly fits = has-lists script s m x.0 x.1 good conds rightly fits

has-lists_at : (script : Script) (s : State) (m : Schedule) (o : Option ℕ) → IsGood script → WaitAtConds script s → IfSome o (λ k. IsTrue (is_cond script k))
    → Fits script s m → HasListsAt m o
has-lists_at script s m None good conds cond fits = tt
has-lists_at script s m (Some k) good conds cond fits = (cond-at script s m k good fits cond, plain-at_cond script s m k good conds fits cond)

pub has-lists_in : (script : Script) (s : State) (m : Schedule) (c : Change) → ChangesRightly script s c → Fits script s m → ServedIn m c → HasListsIn m c
has-lists_in script s m c rightly fits served =
    let mid : State = with_goroutines s (with_mover script s.goroutines c.mover) in
    let both : State = with_goroutines s (with_mover script (with_mover script s.goroutines c.mover) c.partner) in (
      has-lists_by script s m c.mover rightly.good rightly.conds rightly.mover fits,
      has-lists_by script mid (moved_by m c.mover) c.partner rightly.good (conds-moved script s c.mover rightly.conds rightly.mover) rightly.partner
          (fits-moved script s m c.mover rightly.good rightly.conds rightly.mover fits served.0),
      has-lists_at script both (moved_by (moved_by m c.mover) c.partner) c.broadcast rightly.good (conds-both script s c rightly) rightly.broadcast (fits-both script s m c rightly fits served),
    )
