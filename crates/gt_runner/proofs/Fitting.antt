-- Every entry keeps the marks fitting: who is woken, goes on or panics is where its marks allow it.
use Rattle.std.proofs.Common.{◌≡◌, ◌≢◌, ℕ, zero, suc, ◌+◌, ◌<◌, ◌≤◌, cond, List, [], ◌∷◌, ◌++◌, map, slice_get, length, length-append, refl, sym, ap, subst, ◌∙◌, arith, Option, None, Some, Bool, true, false, ◌||◌, IsTrue, inl, inr}
use Rattle.std.proofs.lemmas.Bool.{cases_eq}
use Rattle.gt_model.specs.declared.script.Script.{Script}
use Rattle.gt_model.specs.declared.entry.Entry.{Entry}
use Rattle.gt_model.specs.declared.entry.Limits.{Limits}
use Rattle.gt_model.specs.declared.entry.Outcome.{Outcome}
use Rattle.gt_model.specs.declared.entry.Party.{Party}
use Rattle.gt_model.specs.declared.state.Goroutine.{Goroutine}
use Rattle.gt_model.specs.Tables.{numbered, change_numbered}
use Rattle.gt_model.proofs.Items.{HasNumber, has_number, numbered-change_same, numbered-change_other, numbered-push_same, numbered-push_other}
use Rattle.gt_model.proofs.Changes.{length-change_numbered}
use Rattle.gt_rules.specs.State.{State, stands, is_suspended}
use Rattle.gt_rules.specs.After.{after, changed, moved, in_mode, signalled, with_mover, with_signalled, with_starts, started_by}
use Rattle.gt_rules.specs.Change.{Change, change_of}
use Rattle.gt_rules.specs.History.{state_after}
use Rattle.gt_rules.specs.declared.change.Move.{Move}
use Rattle.gt_rules.specs.declared.change.Start.{Start}
use Rattle.gt_machine.specs.Outcomes.{due_outcome}
use Rattle.gt_schedule.specs.declared.status.RunStatus.{RunStatus}
use Rattle.gt_schedule.specs.Schedule.{Schedule, status_of, is_in_hand, is_parked, marks_at, gone_on, turned, moved_by, signalled_by, relocked, all_relocked, parties_at, begun_by, with_new, rescheduled, scheduled, schedule_after, MayMove, ServedBy, ServedIn, Served}
use Rattle.gt_book.specs.View.{BookView, Enters, AreWoken, IsLawful, with_schedule, finish_by}
use Rattle.gt_model.specs.Good.{IsGood}
use Rattle.gt_model.specs.Script.{is_timer}
use Rattle.gt_schedule.specs.Counts.{times}
use Rattle.gt_schedule.proofs.Lists.{times-push_other}
use Rattle.gt_book.proofs.Fitting.{unchanged}
use Rattle.std.proofs.lemmas.Option.{slice_get-map}
use Rattle.std.proofs.lemmas.List.{length-map}
use Rattle.std.specs.Option.{option_map}
use Rattle.gt_model.specs.declared.script.Instr.{Instr}
use Rattle.gt_model.specs.declared.state.Mode.{Mode}
use Rattle.gt_rules.specs.Finish.{Legal}
use Rattle.gt_facts.specs.Formed.{IsFormed}
use Rattle.gt_facts.proofs.Suspended.{suspended-mode}
use Rattle.gt_schedule.proofs.Relocked.{each-statuses, each-marks}
use Rattle.gt_book.proofs.Turning.{MovesRightly, MoverRightly, ChangesRightly, rightly-May}
use Rattle.gt_runner.specs.Served.{timers_of}
use Rattle.gt_book.proofs.Going.{parked-goes}
use Rattle.gt_book.proofs.Passing.{enters-script}
use Rattle.gt_rows.proofs.Frames.{enters-marks}
use Rattle.gt_runner.specs.Served.{NamesTimers, awaited_by, MarkFits, MarkFitsAt}
use Rattle.gt_runner.proofs.Awaiting.{awaited_in, few-awaited_in}

-- ---- the marks of everybody, with the goroutines as a list

abbrev FitIn : Script → List Goroutine → Schedule → ℕ → Type 0
FitIn script gs m h = MarkFits (marks_at m h) (awaited_in script (numbered gs h)) (status_of m h)

record AllFit (script : Script) (gs : List Goroutine) (m : Schedule) : Type 0 where
  as_many : length m.statuses ≡ length gs
  marks : length m.marks ≡ length m.statuses
  each : (h : ℕ) → FitIn script gs m h

-- what is known of marks, goroutine and status
pub fit-is : (a b : List ℕ) (x y : List ℕ) (p q : Option RunStatus) → a ≡ b → x ≡ y → p ≡ q → MarkFits b y q → MarkFits a x p
fit-is a b x y p q marks awaited status fit =
    subst (λ a. MarkFits a x p) (sym marks) (subst (λ x. MarkFits b x p) (sym awaited) (subst (λ p. MarkFits b y p) (sym status) fit))

-- ---- one goroutine moves

parked-some : (o : Option RunStatus) → is_parked o ≡ true → (since : ℕ) × (o ≡ Some (RunStatus.Parked since))
parked-some None e = cc
parked-some (Some RunStatus.Queued) e = cc
parked-some (Some RunStatus.InHand) e = cc
parked-some (Some (RunStatus.Parked since)) e = (since, refl)
parked-some (Some RunStatus.Ended) e = cc

in_hand-only : (o : Option RunStatus) → is_parked o ≡ false → IsTrue (is_in_hand o || is_parked o) → o ≡ Some RunStatus.InHand
in_hand-only None e h = cc
in_hand-only (Some RunStatus.Queued) e h = cc
in_hand-only (Some RunStatus.InHand) e h = refl
in_hand-only (Some (RunStatus.Parked since)) e h = cc
in_hand-only (Some RunStatus.Ended) e h = cc

-- it gets a status x, for which its marks are right; the others' fit
fit-one : (script : Script) (gs : List Goroutine) (m n : Schedule) (g : ℕ) (f : Goroutine → Goroutine) (was x : RunStatus) → length m.statuses ≡ length gs → length m.marks ≡ length m.statuses
    → ((h : ℕ) → h ≢ g → FitIn script gs m h)
    → status_of m g ≡ Some was → n.statuses ≡ change_numbered m.statuses g (λ _. x) → n.marks ≡ m.marks
    → ((r : Goroutine) → numbered gs g ≡ Some r → MarkFits (marks_at m g) (awaited_in script (Some (f r))) (Some x)) → AllFit script (change_numbered gs g f) n
fit-one script gs m n g f was x as_many same_marks others at statuses marks own =
    let there : HasNumber gs g = has_number m.statuses gs g was as_many at in
    record {
      as_many = ap length statuses ∙ (length-change_numbered m.statuses g (λ _. x) ∙ (as_many ∙ sym (length-change_numbered gs g f)));
      marks = ap length marks ∙ (same_marks ∙ sym (ap length statuses ∙ length-change_numbered m.statuses g (λ _. x)));
      each = λ h. elim (cases_eq h g) [
        | inl e ↦
            subst (λ k. FitIn script (change_numbered gs g f) n k) (sym e)
            (fit-is (marks_at n g) (marks_at m g) (awaited_in script (numbered (change_numbered gs g f) g)) (awaited_in script (Some (f there.item))) (status_of n g) (Some x)
            (ap (λ xs. marks_at (record m { marks = xs }) g) marks)
            (ap (awaited_in script) (numbered-change_same gs g f there.item there.there))
            (ap (λ xs. numbered xs g) statuses ∙ numbered-change_same m.statuses g (λ _. x) was at)
            (own there.item there.there))
        | inr k ↦
            fit-is (marks_at n h) (marks_at m h) (awaited_in script (numbered (change_numbered gs g f) h)) (awaited_in script (numbered gs h)) (status_of n h) (status_of m h)
            (ap (λ xs. marks_at (record m { marks = xs }) h) marks)
            (ap (awaited_in script) (numbered-change_other gs g h f k))
            (ap (λ xs. numbered xs h) statuses ∙ numbered-change_other m.statuses g h (λ _. x) k)
            (others h k)
      ];
    }

fit-status : (script : Script) (gs : List Goroutine) (m n : Schedule) (g : ℕ) (f : Goroutine → Goroutine) (was x : RunStatus) → AllFit script gs m
    → status_of m g ≡ Some was → n.statuses ≡ change_numbered m.statuses g (λ _. x) → n.marks ≡ m.marks
    → ((r : Goroutine) → numbered gs g ≡ Some r → MarkFits (marks_at m g) (awaited_in script (Some (f r))) (Some x)) → AllFit script (change_numbered gs g f) n
fit-status script gs m n g f was x all at statuses marks own = fit-one script gs m n g f was x all.as_many all.marks (λ h k. all.each h) at statuses marks own

marks-in_hand : (script : Script) (gs : List Goroutine) (m : Schedule) (g : ℕ) → AllFit script gs m → status_of m g ≡ Some RunStatus.InHand → marks_at m g ≡ []
marks-in_hand script gs m g all at = subst (MarkFits (marks_at m g) (awaited_in script (numbered gs g))) at (all.each g)

-- it goes on where it was in hand: nothing changes in the schedule
same-status : (statuses : List RunStatus) (g : ℕ) (x : RunStatus) → numbered statuses g ≡ Some x → statuses ≡ change_numbered statuses g (λ _. x)
same-status statuses zero x e = refl
same-status statuses (suc i) x e = same-at statuses i x e
  where
    same-at : (xs : List RunStatus) (i : ℕ) (x : RunStatus) → Rattle.std.proofs.Common.slice_get xs i ≡ Some x → xs ≡ Rattle.gt_model.specs.Tables.change xs i (λ _. x)
    same-at [] i x e = refl
    same-at (y ∷ ys) zero x e = let is : y ≡ x = cc in ap (λ z. z ∷ ys) is
    same-at (y ∷ ys) (suc i) x e = ap (λ zs. y ∷ zs) (same-at ys i x e)

fit-gone_on : (script : Script) (gs : List Goroutine) (m : Schedule) (g n : ℕ) (waits : Bool) → is_parked (status_of m g) ≡ waits → IsGood script → AllFit script gs m → MayMove (status_of m g) (Move.GoesOn n)
    → AllFit script (change_numbered gs g (moved script (Move.GoesOn n))) (gone_on m g waits)
fit-gone_on script gs m g n true e good all may =
    let was = parked-some (status_of m g) e in
    let fits : marks_at m g ≡ awaited_in script (numbered gs g) = subst (MarkFits (marks_at m g) (awaited_in script (numbered gs g))) was.1 (all.each g) in
    let few : length (awaited_in script (numbered gs g)) ≤ 16 = few-awaited_in script (numbered gs g) good in
    fit-status script gs m (gone_on m g true) g (moved script (Move.GoesOn n)) (RunStatus.Parked was.0) RunStatus.Queued all was.1 refl refl
    (λ r k. subst (λ ts. length ts ≤ 16) (sym fits) few)
fit-gone_on script gs m g n false e good all may =
    let at : status_of m g ≡ Some RunStatus.InHand = in_hand-only (status_of m g) e may in
    fit-status script gs m m g (moved script (Move.GoesOn n)) RunStatus.InHand RunStatus.InHand all at (same-status m.statuses g RunStatus.InHand at) refl
    (λ r k. marks-in_hand script gs m g all at)

-- who is signalled at a Cond stands nowhere before and after
stands-suspended : (script : Script) (r : Goroutine) (k : ℕ) → r.mode ≡ Mode.Suspended k → stands script r ≡ None
stands-suspended script r k e = ap (λ (m : Mode). stands script (record r { mode = m })) e

suspended-awaits : (script : Script) (o : Option Goroutine) (k : ℕ) → option_map (λ (r : Goroutine). r.mode) o ≡ Some (Mode.Suspended k) → awaited_in script o ≡ []
suspended-awaits script None k e = cc
suspended-awaits script (Some r) k e =
    let mode : r.mode ≡ Mode.Suspended k = cc in
    ap (λ (i : Option Instr). elim i as (λ _. List ℕ) [ None ↦ [] | Some i ↦ timers_of script i ]) (stands-suspended script r k mode)

fit-relocked : (script : Script) (gs : List Goroutine) (m : Schedule) (g k : ℕ) → AllFit script gs m → IsTrue (is_parked (status_of m g)) → MovesRightly script gs g (Move.Relocks k)
    → AllFit script (change_numbered gs g (moved script (Move.Relocks k))) (relocked m g k)
fit-relocked script gs m g k all may rightly =
    let was = parked-some (status_of m g) may in
    let fits : marks_at m g ≡ awaited_in script (numbered gs g) = subst (MarkFits (marks_at m g) (awaited_in script (numbered gs g))) was.1 (all.each g) in
    fit-status script gs m (relocked m g k) g (moved script (Move.Relocks k)) (RunStatus.Parked was.0) (RunStatus.Parked was.0) all was.1 (same-status m.statuses g (RunStatus.Parked was.0) was.1) refl
    (λ r there. fits ∙ suspended-awaits script (numbered gs g) k rightly)

fit-turned : (script : Script) (gs : List Goroutine) (m : Schedule) (g : ℕ) (move : Move) → IsGood script → AllFit script gs m → MayMove (status_of m g) move
    → MovesRightly script gs g move → AllFit script (change_numbered gs g (moved script move)) (turned m g move)
fit-turned script gs m g (Move.GoesOn n) good all may rightly = fit-gone_on script gs m g n (is_parked (status_of m g)) refl good all may
fit-turned script gs m g (Move.FallsAsleep until) good all may rightly =
    fit-status script gs m (turned m g (Move.FallsAsleep until)) g (moved script (Move.FallsAsleep until)) RunStatus.InHand (RunStatus.Parked m.parks) all may refl refl
    (λ r k. marks-in_hand script gs m g all may)
fit-turned script gs m g (Move.Suspends k) good all may rightly =
    fit-status script gs m (turned m g (Move.Suspends k)) g (moved script (Move.Suspends k)) RunStatus.InHand (RunStatus.Parked m.parks) all may refl refl
    (λ r k. marks-in_hand script gs m g all may)
fit-turned script gs m g (Move.Relocks k) good all may rightly = fit-relocked script gs m g k all may rightly
fit-turned script gs m g Move.Ends good all may rightly =
    fit-status script gs m (turned m g Move.Ends) g (moved script Move.Ends) RunStatus.InHand RunStatus.Ended all may refl refl
    (λ r k. marks-in_hand script gs m g all may)
fit-turned script gs m g Move.Panics good all may rightly = subst (λ gs. AllFit script gs m) (sym (unchanged gs g)) all

fit-moved : (script : Script) (gs : List Goroutine) (m : Schedule) (o : Option (ℕ × Move)) → IsGood script → AllFit script gs m → ServedBy m o → MoverRightly script gs o
    → AllFit script (with_mover script gs o) (moved_by m o)
fit-moved script gs m None good all served rightly = all
fit-moved script gs m (Some x) good all served rightly = fit-turned script gs m x.0 x.1 good all served rightly

-- ---- a broadcast

stands-signalled : (script : Script) (k : ℕ) (r : Goroutine) → stands script (signalled k r) ≡ stands script r
stands-signalled script k r =
    elim (is_suspended k r) as (λ b. is_suspended k r ≡ b → stands script (cond b (in_mode (Mode.Relocking k) r) r) ≡ stands script r) [
      | true ↦ λ e. sym (stands-suspended script r k (suspended-mode k r e))
      | false ↦ λ e. refl
    ] refl

awaited-signalled : (script : Script) (k : ℕ) (o : Option Goroutine) → awaited_in script (option_map (signalled k) o) ≡ awaited_in script o
awaited-signalled script k None = refl
awaited-signalled script k (Some r) = ap (λ (i : Option Instr). elim i as (λ _. List ℕ) [ None ↦ [] | Some i ↦ timers_of script i ]) (stands-signalled script k r)

numbered-map : (gs : List Goroutine) (f : Goroutine → Goroutine) (h : ℕ) → numbered (map f gs) h ≡ option_map f (numbered gs h)
numbered-map gs f zero = refl
numbered-map gs f (suc i) = slice_get-map f gs i

fit-signalled : (script : Script) (gs : List Goroutine) (m : Schedule) (o : Option ℕ) → AllFit script gs m → AllFit script (with_signalled gs o) (signalled_by m o)
fit-signalled script gs m None all = all
fit-signalled script gs m (Some k) all =
    let statuses : (all_relocked m k).statuses ≡ m.statuses = each-statuses m k (parties_at m.receivers k) in
    let marks : (all_relocked m k).marks ≡ m.marks = each-marks m k (parties_at m.receivers k) in
    record {
      as_many = ap length statuses ∙ (all.as_many ∙ sym (length-map gs (signalled k)));
      marks = ap length marks ∙ (all.marks ∙ sym (ap length statuses));
      each = λ h. fit-is (marks_at (all_relocked m k) h) (marks_at m h) (awaited_in script (numbered (map (signalled k) gs) h)) (awaited_in script (numbered gs h))
          (status_of (all_relocked m k) h) (status_of m h)
          (ap (λ xs. marks_at (record m { marks = xs }) h) marks)
          (ap (awaited_in script) (numbered-map gs (signalled k) h) ∙ awaited-signalled script k (numbered gs h))
          (ap (λ xs. numbered xs h) statuses) (all.each h);
    }

-- ---- goroutines are started

fit-begins : (script : Script) (gs : List Goroutine) (m : Schedule) (r : Goroutine) → AllFit script gs m → AllFit script (gs ++ r ∷ []) (with_new m)
fit-begins script gs m r all =
    let child : ℕ = length m.statuses + 1 in
    let in_state : child ≡ length gs + 1 = ap (λ n. n + 1) all.as_many in
    let in_marks : child ≡ length m.marks + 1 = ap (λ n. n + 1) (sym all.marks) in
    record {
      as_many = length-append m.statuses (RunStatus.Queued ∷ []) ∙ (ap (λ n. n + 1) all.as_many ∙ sym (length-append gs (r ∷ [])));
      marks = length-append m.marks ([] ∷ []) ∙ (ap (λ n. n + 1) all.marks ∙ sym (length-append m.statuses (RunStatus.Queued ∷ [])));
      each = λ h. elim (cases_eq h child) [
        | inl e ↦
            subst (λ k. FitIn script (gs ++ r ∷ []) (with_new m) k) (sym e)
            (fit-is (marks_at (with_new m) child) [] (awaited_in script (numbered (gs ++ r ∷ []) child)) (awaited_in script (numbered (gs ++ r ∷ []) child)) (status_of (with_new m) child) (Some RunStatus.Queued)
            (ap (λ (o : Option (List ℕ)). list_or_none o) (numbered-push_same m.marks [] child in_marks)) refl (numbered-push_same m.statuses RunStatus.Queued child refl) (omega arith))
        | inr k ↦
            fit-is (marks_at (with_new m) h) (marks_at m h) (awaited_in script (numbered (gs ++ r ∷ []) h)) (awaited_in script (numbered gs h)) (status_of (with_new m) h) (status_of m h)
            (ap (λ (o : Option (List ℕ)). list_or_none o) (numbered-push_other m.marks [] h (λ e. k (e ∙ sym in_marks))))
            (ap (awaited_in script) (numbered-push_other gs r h (λ e. k (e ∙ sym in_state))))
            (numbered-push_other m.statuses RunStatus.Queued h k)
            (all.each h)
      ];
    }
  where
    list_or_none : Option (List ℕ) → List ℕ
    list_or_none None = []
    list_or_none (Some ts) = ts

fit-begun : (script : Script) (s : State) (gs : List Goroutine) (m : Schedule) (starts : List Start) → AllFit script gs m → AllFit script (with_starts script s gs starts) (begun_by m starts)
fit-begun script s gs m [] all = all
fit-begun script s gs m (x ∷ xs) all = fit-begun script s (gs ++ started_by script s x ∷ []) (with_new m) xs (fit-begins script gs m (started_by script s x) all)

-- who is signalled by a change waits at the Cond
abbrev RightlyIn : Script → List Goroutine → Change → Type 0
RightlyIn script gs c = MoverRightly script gs c.mover × MoverRightly script (with_mover script gs c.mover) c.partner

fit-changed : (script : Script) (s : State) (m : Schedule) (c : Change) → IsGood script → AllFit script s.goroutines m → ServedIn m c → RightlyIn script s.goroutines c
    → AllFit script (changed script s c).goroutines (rescheduled m c)
fit-changed script s m c good all served rightly =
    let gs : List Goroutine = with_mover script s.goroutines c.mover in
    let both : AllFit script (with_mover script gs c.partner) (moved_by (moved_by m c.mover) c.partner) =
    fit-moved script gs (moved_by m c.mover) c.partner good (fit-moved script s.goroutines m c.mover good all served.0 rightly.0) served.1 rightly.1 in
    fit-begun script s (with_signalled (with_mover script gs c.partner) c.broadcast) (signalled_by (moved_by (moved_by m c.mover) c.partner) c.broadcast) c.starts
    (fit-signalled script (with_mover script gs c.partner) (moved_by (moved_by m c.mover) c.partner) c.broadcast both)

-- ---- entries

-- who is woken was parked, and goes on or panics, alone
woken-served : (script : Script) (s : State) (m : Schedule) (e : Entry) (h : List Entry) → AreWoken script s m (e ∷ h)
    → Served m e × RightlyIn script s.goroutines (change_of e)
woken-served script s m (Entry.Say g n) h woken = ((parked-goes (status_of m g) woken.0.0, tt), (tt, tt))
woken-served script s m (Entry.Now g at) h woken = ((parked-goes (status_of m g) woken.0.0, tt), (tt, tt))
woken-served script s m (Entry.Sleep g None) h woken = ((parked-goes (status_of m g) woken.0.0, tt), (tt, tt))
woken-served script s m (Entry.Wake g) h woken = ((parked-goes (status_of m g) woken.0.0, tt), (tt, tt))
woken-served script s m (Entry.Make g c) h woken = ((parked-goes (status_of m g) woken.0.0, tt), (tt, tt))
woken-served script s m (Entry.Send p c v) h woken = ((parked-goes (status_of m p.g) woken.0.0, tt), (tt, tt))
woken-served script s m (Entry.Recv p c v) h woken = ((parked-goes (status_of m p.g) woken.0.0, tt), (tt, tt))
woken-served script s m (Entry.Close g c) h woken = ((parked-goes (status_of m g) woken.0.0, tt), (tt, tt))
woken-served script s m (Entry.Default g) h woken = ((parked-goes (status_of m g) woken.0.0, tt), (tt, tt))
woken-served script s m (Entry.Lock g k) h woken = ((parked-goes (status_of m g) woken.0.0, tt), (tt, tt))
woken-served script s m (Entry.Unlock g k) h woken = ((parked-goes (status_of m g) woken.0.0, tt), (tt, tt))
woken-served script s m (Entry.Add g w n) h woken = ((parked-goes (status_of m g) woken.0.0, tt), (tt, tt))
woken-served script s m (Entry.WgWait g w) h woken = ((parked-goes (status_of m g) woken.0.0, tt), (tt, tt))
woken-served script s m (Entry.CondWake g k) h woken = ((parked-goes (status_of m g) woken.0.0, tt), (tt, tt))
woken-served script s m (Entry.Signal g k None) h woken = ((parked-goes (status_of m g) woken.0.0, tt), (tt, tt))
woken-served script s m (Entry.Panic p reason) h woken = ((parked-goes (status_of m p.g) woken.0.0, tt), (tt, tt))
woken-served script s m (Entry.CtxErr g x err) h woken = ((parked-goes (status_of m g) woken.0.0, tt), (tt, tt))
woken-served script s m (Entry.Cause g x cause) h woken = ((parked-goes (status_of m g) woken.0.0, tt), (tt, tt))
woken-served script s m (Entry.CtxDone p x) h woken = ((parked-goes (status_of m p.g) woken.0.0, tt), (tt, tt))
woken-served script s m (Entry.Cancel g x true n) h woken = absurd woken.0
woken-served script s m (Entry.Cancel g x false zero) h woken = ((parked-goes (status_of m g) woken.0.0, tt), (tt, tt))
woken-served script s m (Entry.Cancel g x false (suc n)) h woken = absurd woken.0
woken-served script s m _ h woken = absurd woken.0

fit-finished : (script : Script) (s : State) (m : Schedule) (o : Option Outcome) → IsGood script → AllFit script s.goroutines m
    → AllFit script (state_after script s (finish_by o)).goroutines (schedule_after m (finish_by o))
fit-finished script s m None good all = all
fit-finished script s m (Some outcome) good all = fit-changed script s m (change_of (Entry.Finish outcome)) good all (tt, tt) (tt, tt)

fit-woken : (script : Script) (s : State) (m : Schedule) (h : List Entry) (o : Option Outcome) → IsGood script → AreWoken script s m h → AllFit script s.goroutines m
    → AllFit script (state_after script s (h ++ finish_by o)).goroutines (schedule_after m (h ++ finish_by o))
fit-woken script s m [] o good woken all = fit-finished script s m o good all
fit-woken script s m (e ∷ h) o good woken all =
    fit-woken script (after script s e) (scheduled m e) h o good woken.1 (fit-changed script s m (change_of e) good all (woken-served script s m e h woken).0 (woken-served script s m e h woken).1)

rightly-Legal : (script : Script) (limits : Limits) (s : State) (e : Entry) → IsGood script → IsFormed script s → Legal script limits s e → RightlyIn script s.goroutines (change_of e)
rightly-Legal script limits s (Entry.Finish outcome) good formed legal = (tt, tt)
rightly-Legal script limits s e good formed legal =
    let rightly : ChangesRightly script s (change_of e) = rightly-May script s e good formed legal.1 in
    (rightly.mover, rightly.partner)

-- everybody's marks fit in a book
abbrev pub MarksFit : BookView → Type 0
MarksFit b = (g : ℕ) → MarkFitsAt b.script b.state b.schedule g

pub fit-enters : (old : BookView) (e : Entry) (new : BookView) → IsLawful old → length old.schedule.marks ≡ length old.schedule.statuses → Enters old e new
    → Served old.schedule e → MarksFit old → MarksFit new
fit-enters old e new lawful marks enters served fit =
    let all : AllFit old.script old.state.goroutines old.schedule = record { as_many = lawful.fits.as_many; marks = marks; each = fit } in
    let first : AllFit old.script (after old.script old.state e).goroutines (scheduled old.schedule e) = fit-changed old.script old.state old.schedule (change_of e) lawful.good all served
    (rightly-Legal old.script old.limits old.state e lawful.good lawful.formed enters.legal.0) in
    let done = fit-woken old.script (after old.script old.state e) (scheduled old.schedule e) enters.woken
    (due_outcome old.limits (state_after old.script old.state (e ∷ enters.woken))) lawful.good enters.each_woken first in
    subst MarksFit (sym enters.is) done.each

-- ---- the marks of one goroutine

-- who is parked and receives is to be taken, with what marks it has
pub fit-receives : (old : BookView) (p : Party) (t due : ℕ) (next : Option ℕ) (new : BookView) → IsLawful old → length old.schedule.marks ≡ length old.schedule.statuses
    → Enters old (Entry.TRecv p t due next) new → is_parked (status_of old.schedule p.g) ≡ true → ((h : ℕ) → h ≢ p.g → MarkFitsAt old.script old.state old.schedule h)
    → length (marks_at old.schedule p.g) ≤ 16 → MarksFit new
fit-receives old p t due next new lawful marks enters parked others few =
    let was = parked-some (status_of old.schedule p.g) parked in
    let e : Entry = Entry.TRecv p t due next in
    let goes : Goroutine → Goroutine = moved old.script (Move.GoesOn p.case_no) in
    let one : AllFit old.script (change_numbered old.state.goroutines p.g goes) (gone_on old.schedule p.g true) =
    fit-one old.script old.state.goroutines old.schedule (gone_on old.schedule p.g true) p.g goes (RunStatus.Parked was.0) RunStatus.Queued
    lawful.fits.as_many marks others was.1 refl refl (λ r k. few) in
    let first : AllFit old.script (after old.script old.state e).goroutines (scheduled old.schedule e) =
    subst (λ b. AllFit old.script (change_numbered old.state.goroutines p.g goes) (gone_on old.schedule p.g b)) (sym parked) one in
    let done = fit-woken old.script (after old.script old.state e) (scheduled old.schedule e) enters.woken
    (due_outcome old.limits (state_after old.script old.state (e ∷ enters.woken))) lawful.good enters.each_woken first in
    subst MarksFit (sym enters.is) done.each

-- the marks of g become others: those of the others still fit
pub fit-others : (v : BookView) (g : ℕ) (f : List ℕ → List ℕ) → ((h : ℕ) → h ≢ g → MarkFitsAt v.script v.state v.schedule h)
    → (h : ℕ) → h ≢ g → MarkFitsAt v.script v.state (record v.schedule { marks = change_numbered v.schedule.marks g f }) h
fit-others v g f others h n =
    subst (λ ts. MarkFits ts (awaited_by v.script v.state h) (status_of v.schedule h)) (sym (ap list_or_none (numbered-change_other v.schedule.marks g h f n))) (others h n)
  where
    list_or_none : Option (List ℕ) → List ℕ
    list_or_none None = []
    list_or_none (Some ts) = ts

-- the marks of g become others, which fit it
pub fit-remarked : (v : BookView) (g : ℕ) (f : List ℕ → List ℕ) (ts : List ℕ) → numbered v.schedule.marks g ≡ Some ts
    → ((h : ℕ) → h ≢ g → MarkFitsAt v.script v.state v.schedule h) → MarkFits (f ts) (awaited_by v.script v.state g) (status_of v.schedule g)
    → MarksFit (with_schedule v (record v.schedule { marks = change_numbered v.schedule.marks g f }))
fit-remarked v g f ts there others own h =
    elim (cases_eq h g) [
      | inl e ↦
          subst (λ k. MarkFitsAt v.script v.state (record v.schedule { marks = change_numbered v.schedule.marks g f }) k) (sym e)
          (subst (λ ts. MarkFits ts (awaited_by v.script v.state g) (status_of v.schedule g)) (sym (ap list_or_none (numbered-change_same v.schedule.marks g f ts there))) own)
      | inr n ↦
          fit-others v g f others h n
    ]
  where
    list_or_none : Option (List ℕ) → List ℕ
    list_or_none None = []
    list_or_none (Some ts) = ts

-- nobody has more marks than a choice has cases
pub fit-few : (marks awaited : List ℕ) (o : Option RunStatus) → length awaited ≤ 16 → MarkFits marks awaited o → length marks ≤ 16
fit-few marks awaited (Some (RunStatus.Parked since)) h fit = subst (λ ts. length ts ≤ 16) (sym fit) h
fit-few marks awaited (Some RunStatus.Queued) h fit = fit
fit-few marks awaited (Some RunStatus.InHand) h fit = subst (λ ts. length ts ≤ 16) (sym fit) (omega arith)
fit-few marks awaited (Some RunStatus.Ended) h fit = subst (λ ts. length ts ≤ 16) (sym fit) (omega arith)
fit-few marks awaited None h fit = subst (λ ts. length ts ≤ 16) (sym fit) (omega arith)

-- ---- marks are of timers

pub named-enters : (old : BookView) (e : Entry) (new : BookView) → Enters old e new → NamesTimers old → NamesTimers new
named-enters old e new enters named g t h =
    ap (λ script. is_timer script t) (enters-script old e new enters) ∙ named g t (subst (λ ts. 0 < times t ts) (enters-marks old e new enters g) h)

-- g gets other marks
pub named-remarked : (v : BookView) (g : ℕ) (f : List ℕ → List ℕ) (ts : List ℕ) → numbered v.schedule.marks g ≡ Some ts → NamesTimers v
    → ((t : ℕ) → 0 < times t (f ts) → is_timer v.script t ≡ true) → NamesTimers (with_schedule v (record v.schedule { marks = change_numbered v.schedule.marks g f }))
named-remarked v g f ts there named own h t some =
    elim (cases_eq h g) [
      | inl e ↦ own t (subst (λ us. 0 < times t us) (ap list_or_none (numbered-change_same v.schedule.marks g f ts there)) (subst (λ k. 0 < times t (list_or_none (numbered (change_numbered v.schedule.marks g f) k))) e some))
      | inr n ↦ named h t (subst (λ us. 0 < times t us) (ap list_or_none (numbered-change_other v.schedule.marks g h f n)) some)
    ]
  where
    list_or_none : Option (List ℕ) → List ℕ
    list_or_none None = []
    list_or_none (Some ts) = ts

-- one mark more is of a timer
pub named-pushed : (script : Script) (t u : ℕ) (ts : List ℕ) → is_timer script t ≡ true → (0 < times u ts → is_timer script u ≡ true) → 0 < times u (ts ++ t ∷ []) → is_timer script u ≡ true
named-pushed script t u ts timer before h =
    elim (cases_eq u t) [
      | inl e ↦ ap (is_timer script) e ∙ timer
      | inr n ↦ before (subst (λ (k : ℕ). 0 < k) (times-push_other u t ts n) h)
    ]
