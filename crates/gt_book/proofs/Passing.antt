-- What a change by an entry leaves as it was: the clock's moves stay idle jumps, nobody comes into a worker's hand, and those that are to run are counted.
use Rattle.std.proofs.Common.{◌≡◌, ◌≢◌, refl, count_by, Bool, true, false, ℕ, zero, suc, ◌+◌, ◌<◌, ◌≤◌, List, [], ◌∷◌, ◌++◌, length, length-append, slice_get, Option, None, Some, sym, ap, subst, ◌∙◌, arith}
use Rattle.std.proofs.lemmas.List.Sums.{count_by-le-length}
use Rattle.gt_model.specs.declared.script.Script.{Script}
use Rattle.gt_model.specs.declared.entry.Entry.{Entry}
use Rattle.gt_model.specs.declared.entry.Outcome.{Outcome}
use Rattle.gt_rules.specs.State.{State}
use Rattle.gt_rules.specs.After.{after, first_state}
use Rattle.gt_rules.specs.History.{AllJump, ClockJumps, state_after}
use Rattle.gt_model.specs.Tables.{numbered, change, change_numbered}
use Rattle.gt_model.specs.declared.entry.Party.{Party}
use Rattle.gt_model.specs.declared.script.CaseKind.{CaseKind}
use Rattle.gt_rules.specs.Change.{change_of}
use Rattle.gt_rules.specs.declared.change.Move.{Move}
use Rattle.gt_rules.specs.declared.change.Start.{Start}
use Rattle.gt_schedule.specs.declared.status.RunStatus.{RunStatus}
use Rattle.gt_schedule.specs.Schedule.{Schedule, status_of, is_queued, is_parked, queued_count, parties_at, gone_on, turned, moved_by, signalled_by, begun_by, with_new, scheduled, schedule_after, parked, waiting_at, parked_at, taken}
use Rattle.gt_book.specs.View.{BookView, Enters, AreWoken, finish_by, finish_due}
use Rattle.gt_machine.specs.Outcomes.{due_outcome}
use Rattle.gt_model.proofs.Items.{numbered-change_same, numbered-change_other}
use Rattle.gt_schedule.proofs.Counting.{count-change_numbered}
use Rattle.gt_schedule.proofs.Relocked.{each-statuses}

-- ---- the moves of the program's clock

pub jumps-append : (script : Script) (slip : ℕ) (s : State) (h k : List Entry)
    → AllJump script slip s h → AllJump script slip (state_after script s h) k → AllJump script slip s (h ++ k)
jumps-append script slip s [] k all next = next
jumps-append script slip s (e ∷ h) k all next = (all.0, jumps-append script slip (after script s e) h k all.1 next)

-- an entry of a goroutine that is woken moves no clock
woken-jump : (script : Script) (s : State) (m : Schedule) (e : Entry) (h : List Entry) → AreWoken script s m (e ∷ h) → ClockJumps script 0 s e
woken-jump script s m (Entry.Clock world to) h woken = absurd woken.0
woken-jump script s m _ h woken = tt

pub woken-jumps : (script : Script) (s : State) (m : Schedule) (h : List Entry) → AreWoken script s m h → AllJump script 0 s h
woken-jumps script s m [] woken = tt
woken-jumps script s m (e ∷ h) woken = (woken-jump script s m e h woken, woken-jumps script (after script s e) (scheduled m e) h woken.1)

pub finish-jumps : (script : Script) (slip : ℕ) (s : State) (o : Option Outcome) → AllJump script slip s (finish_by o)
finish-jumps script slip s None = tt
finish-jumps script slip s (Some outcome) = (tt, tt)

-- ---- a change by an entry

pub enters-script : (old : BookView) (e : Entry) (new : BookView) → Enters old e new → new.script ≡ old.script
enters-script old e new enters = ap (λ (b : BookView). b.script) enters.is

pub enters-limits : (old : BookView) (e : Entry) (new : BookView) → Enters old e new → new.limits ≡ old.limits
enters-limits old e new enters = ap (λ (b : BookView). b.limits) enters.is

-- the entries of a change
abbrev entered : (old : BookView) (e : Entry) (new : BookView) → Enters old e new → List Entry
entered old e new enters = (e ∷ enters.woken) ++ finish_due old.limits (state_after old.script old.state (e ∷ enters.woken))

entered-jumps : (old : BookView) (e : Entry) (new : BookView) (enters : Enters old e new) → ClockJumps old.script 0 old.state e
    → AllJump old.script 0 old.state (entered old e new enters)
entered-jumps old e new enters jumps =
    let last : State = state_after old.script old.state (e ∷ enters.woken) in
    jumps-append old.script 0 old.state (e ∷ enters.woken) (finish_due old.limits last)
    (jumps, woken-jumps old.script (after old.script old.state e) (scheduled old.schedule e) enters.woken enters.each_woken)
    (finish-jumps old.script 0 last (due_outcome old.limits last))

pub enters-jumps : (old : BookView) (e : Entry) (new : BookView) → Enters old e new → state_after old.script (first_state old.script) old.history ≡ old.state
    → ClockJumps old.script 0 old.state e → AllJump old.script 0 (first_state old.script) old.history → AllJump new.script 0 (first_state new.script) new.history
enters-jumps old e new enters reached jumps all =
    let more : AllJump old.script 0 (state_after old.script (first_state old.script) old.history) (entered old e new enters) =
    subst (λ (s : State). AllJump old.script 0 s (entered old e new enters)) (sym reached) (entered-jumps old e new enters jumps) in
    subst (λ (b : BookView). AllJump b.script 0 (first_state b.script) b.history) (sym enters.is)
    (jumps-append old.script 0 (first_state old.script) old.history (entered old e new enters) all more)

-- the history is longer after it
pub enters-longer : (old : BookView) (e : Entry) (new : BookView) → Enters old e new → length old.history < length new.history
enters-longer old e new enters =
    let is : length new.history ≡ length (old.history ++ entered old e new enters) = ap (λ (b : BookView). length b.history) enters.is in
    let parts : length (old.history ++ entered old e new enters) ≡ length old.history + length (entered old e new enters) = length-append old.history (entered old e new enters) in
    let some : 0 < length (entered old e new enters) = omega arith in
    omega arith

-- ---- who is in a worker's hand

-- a value that no item was changed to was there before
change-from : {X : Type 0} (xs : List X) (i j : ℕ) (y x : X) → Some y ≢ Some x → slice_get (change xs i (λ _. y)) j ≡ Some x → slice_get xs j ≡ Some x
change-from [] i j y x n e = e
change-from (z ∷ xs) zero zero y x n e = absurd (n e)
change-from (z ∷ xs) zero (suc j) y x n e = e
change-from (z ∷ xs) (suc i) zero y x n e = e
change-from (z ∷ xs) (suc i) (suc j) y x n e = change-from xs i j y x n e

change_numbered-from : {X : Type 0} (xs : List X) (g h : ℕ) (y x : X) → Some y ≢ Some x → numbered (change_numbered xs g (λ _. y)) h ≡ Some x → numbered xs h ≡ Some x
change_numbered-from xs zero h y x n e = e
change_numbered-from xs (suc i) zero y x n e = e
change_numbered-from xs (suc i) (suc j) y x n e = change-from xs i j y x n e

push-from : {X : Type 0} (xs : List X) (j : ℕ) (y x : X) → Some y ≢ Some x → slice_get (xs ++ y ∷ []) j ≡ Some x → slice_get xs j ≡ Some x
push-from [] zero y x n e = absurd (n e)
push-from [] (suc j) y x n e = e
push-from (z ∷ xs) zero y x n e = e
push-from (z ∷ xs) (suc j) y x n e = push-from xs j y x n e

numbered_push-from : {X : Type 0} (xs : List X) (h : ℕ) (y x : X) → Some y ≢ Some x → numbered (xs ++ y ∷ []) h ≡ Some x → numbered xs h ≡ Some x
numbered_push-from xs zero y x n e = e
numbered_push-from xs (suc j) y x n e = push-from xs j y x n e

with_new-hands : (statuses : List RunStatus) (h : ℕ) → numbered (statuses ++ RunStatus.Queued ∷ []) h ≡ Some RunStatus.InHand → numbered statuses h ≡ Some RunStatus.InHand
with_new-hands statuses h e = numbered_push-from statuses h RunStatus.Queued RunStatus.InHand (λ k. cc) e

queued-hands : (statuses : List RunStatus) (g h : ℕ) → numbered (change_numbered statuses g (λ _. RunStatus.Queued)) h ≡ Some RunStatus.InHand → numbered statuses h ≡ Some RunStatus.InHand
queued-hands statuses g h e = change_numbered-from statuses g h RunStatus.Queued RunStatus.InHand (λ k. cc) e

parked-hands : (m : Schedule) (g h : ℕ) → status_of (parked m g) h ≡ Some RunStatus.InHand → status_of m h ≡ Some RunStatus.InHand
parked-hands m g h e = change_numbered-from m.statuses g h (RunStatus.Parked m.parks) RunStatus.InHand (λ k. cc) e

gone_on-hands : (m : Schedule) (x g : ℕ) (waits : Bool) → status_of (gone_on m x waits) g ≡ Some RunStatus.InHand → status_of m g ≡ Some RunStatus.InHand
gone_on-hands m x g true h = queued-hands m.statuses x g h
gone_on-hands m x g false h = h

-- no move puts anybody into a worker's hand, and who begins is in none
turned-hands : (m : Schedule) (x : ℕ) (move : Move) (g : ℕ) → status_of (turned m x move) g ≡ Some RunStatus.InHand → status_of m g ≡ Some RunStatus.InHand
turned-hands m x (Move.GoesOn case_no) g h = gone_on-hands m x g (is_parked (status_of m x)) h
turned-hands m x (Move.FallsAsleep until) g h = parked-hands m x g h
turned-hands m x (Move.Suspends k) g h = parked-hands m x g h
turned-hands m x (Move.Relocks k) g h = h
turned-hands m x Move.Ends g h = change_numbered-from m.statuses x g RunStatus.Ended RunStatus.InHand (λ k. cc) h
turned-hands m x Move.Panics g h = h

moved-hands : (m : Schedule) (o : Option (ℕ × Move)) (g : ℕ) → status_of (moved_by m o) g ≡ Some RunStatus.InHand → status_of m g ≡ Some RunStatus.InHand
moved-hands m None g h = h
moved-hands m (Some x) g h = turned-hands m x.0 x.1 g h

signalled-hands : (m : Schedule) (o : Option ℕ) (g : ℕ) → status_of (signalled_by m o) g ≡ Some RunStatus.InHand → status_of m g ≡ Some RunStatus.InHand
signalled-hands m None g h = h
signalled-hands m (Some k) g h = sym (ap (λ (xs : List RunStatus). numbered xs g) (each-statuses m k (parties_at m.receivers k))) ∙ h

begun-hands : (m : Schedule) (starts : List Start) (g : ℕ) → status_of (begun_by m starts) g ≡ Some RunStatus.InHand → status_of m g ≡ Some RunStatus.InHand
begun-hands m [] g h = h
begun-hands m (x ∷ xs) g h = with_new-hands m.statuses g (begun-hands (with_new m) xs g h)

pub scheduled-hands : (m : Schedule) (e : Entry) (g : ℕ) → status_of (scheduled m e) g ≡ Some RunStatus.InHand → status_of m g ≡ Some RunStatus.InHand
scheduled-hands m e g h =
    let first : Schedule = moved_by m (change_of e).mover in
    let both : Schedule = moved_by first (change_of e).partner in
    moved-hands m (change_of e).mover g (moved-hands first (change_of e).partner g
    (signalled-hands both (change_of e).broadcast g (begun-hands (signalled_by both (change_of e).broadcast) (change_of e).starts g h)))

pub schedule_after-hands : (m : Schedule) (es : List Entry) (g : ℕ) → status_of (schedule_after m es) g ≡ Some RunStatus.InHand → status_of m g ≡ Some RunStatus.InHand
schedule_after-hands m [] g h = h
schedule_after-hands m (e ∷ es) g h = scheduled-hands m e g (schedule_after-hands (scheduled m e) es g h)

pub enters-hands : (old : BookView) (e : Entry) (new : BookView) (g : ℕ) → Enters old e new → status_of new.schedule g ≡ Some RunStatus.InHand → status_of old.schedule g ≡ Some RunStatus.InHand
enters-hands old e new g enters h =
    schedule_after-hands old.schedule (entered old e new enters) g (subst (λ (b : BookView). status_of b.schedule g ≡ Some RunStatus.InHand) enters.is h)

-- a party that waits at an operation stands in a list, and nobody's status changes
waiting_at-statuses : (m : Schedule) (p : Party) (kind : CaseKind) → (waiting_at m p kind).statuses ≡ m.statuses
waiting_at-statuses m p (CaseKind.Recv o) = refl
waiting_at-statuses m p (CaseKind.Send c v) = refl

waiting_at-status : (m : Schedule) (p : Party) (kind : CaseKind) (h : ℕ) → status_of (waiting_at m p kind) h ≡ status_of m h
waiting_at-status m p kind h = ap (λ (xs : List RunStatus). numbered xs h) (waiting_at-statuses m p kind)

-- who waits at an operation is in nobody's hand, and the others are where they were
pub parked_at-leaves_hand : (m : Schedule) (p : Party) (kind : CaseKind) → status_of m p.g ≡ Some RunStatus.InHand → status_of (parked_at m p kind) p.g ≢ Some RunStatus.InHand
parked_at-leaves_hand m p kind e h =
    let now : status_of (parked_at m p kind) p.g ≡ Some (RunStatus.Parked m.parks) =
    waiting_at-status (parked m p.g) p kind p.g ∙ numbered-change_same m.statuses p.g (λ _. RunStatus.Parked m.parks) RunStatus.InHand e in
    cc

pub parked_at-hands : (m : Schedule) (p : Party) (kind : CaseKind) (h : ℕ) → status_of (parked_at m p kind) h ≡ Some RunStatus.InHand → status_of m h ≡ Some RunStatus.InHand
parked_at-hands m p kind h e = parked-hands m p.g h (sym (waiting_at-status (parked m p.g) p kind h) ∙ e)

-- who is taken is in a worker's hand, and nobody else comes there
pub taken-in_hand : (m : Schedule) (g : ℕ) → status_of m g ≡ Some RunStatus.Queued → status_of (taken m g) g ≡ Some RunStatus.InHand
taken-in_hand m g e = numbered-change_same m.statuses g (λ _. RunStatus.InHand) RunStatus.Queued e

pub taken-hands : (m : Schedule) (g h : ℕ) → status_of (taken m g) h ≡ Some RunStatus.InHand → h ≢ g → status_of m h ≡ Some RunStatus.InHand
taken-hands m g h e n = sym (numbered-change_other m.statuses g h (λ _. RunStatus.InHand) n) ∙ e

-- ---- how many are to run

pub parked_at-queued_count : (m : Schedule) (p : Party) (kind : CaseKind) → status_of m p.g ≡ Some RunStatus.InHand → queued_count (parked_at m p kind) ≡ queued_count m
parked_at-queued_count m p kind e =
    let same : queued_count (parked_at m p kind) ≡ queued_count (parked m p.g) =
    ap (count_by (λ (status : RunStatus). is_queued (Some status))) (waiting_at-statuses (parked m p.g) p kind) in
    let counted : queued_count (parked m p.g) + 0 ≡ queued_count m + 0 =
    count-change_numbered (λ (status : RunStatus). is_queued (Some status)) m.statuses p.g (λ _. RunStatus.Parked m.parks) RunStatus.InHand e in
    omega arith

pub taken-queued_count : (m : Schedule) (g : ℕ) → status_of m g ≡ Some RunStatus.Queued → queued_count (taken m g) + 1 ≡ queued_count m
taken-queued_count m g e =
    let counted : queued_count (taken m g) + 1 ≡ queued_count m + 0 =
    count-change_numbered (λ (status : RunStatus). is_queued (Some status)) m.statuses g (λ _. RunStatus.InHand) RunStatus.Queued e in
    omega arith

pub queued_count-few : (m : Schedule) → queued_count m ≤ length m.statuses
queued_count-few m = count_by-le-length (λ (status : RunStatus). is_queued (Some status)) m.statuses
