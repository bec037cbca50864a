-- A move of a goroutine keeps a schedule orderly.
use Rattle.std.proofs.Common.{◌≡◌, ℕ, ◌+◌, ◌<◌, ◌≤◌, arith, drop, slice_get, Bool, true, false, length, Option, Some, None, refl, sym, ap, subst, ◌∙◌, inl, inr}
use Rattle.std.proofs.lemmas.Bool.{cases_eq}
use Rattle.gt_model.specs.declared.script.CaseKind.{CaseKind}
use Rattle.gt_model.specs.Tables.{change_numbered}
use Rattle.gt_model.proofs.Changes.{length-change_numbered}
use Rattle.gt_model.proofs.Items.{numbered-change_same, numbered-change_other}
use Rattle.gt_rules.specs.declared.change.Move.{Move}
use Rattle.gt_schedule.specs.declared.status.RunStatus.{RunStatus}
use Rattle.gt_schedule.specs.Counts.{as_number, times}
use Rattle.gt_schedule.specs.Schedule.{Schedule, status_of, is_parked, is_queued, plainly, parked, parked_at, parties_at, all_relocked, unparked, with_status, gone_on, turned, moved_by, signalled_by, MayMove, ServedBy, ServedIn, RunsQueued}
use Rattle.gt_schedule.specs.Scheduler.{schedule_of, capacity, IsOrderly}
use Rattle.gt_schedule.specs.declared.scheduler.Scheduler.{Scheduler}
use Rattle.gt_rules.specs.Change.{Change}
use Rattle.gt_schedule.proofs.Lists.{times-push_same, times-push_other, times-first_same}
use Rattle.gt_schedule.proofs.Parties.{parked-stay, parked-left}
use Rattle.gt_schedule.proofs.Counting.{Parking, status-parked}
use Rattle.gt_schedule.proofs.Relocked.{parked-joins, orderly-relocked, orderly-all, each-statuses}

-- one goroutine takes a status in which it is neither queued nor parked, or is parked from now on
orderly-leaves_hand : (m : Schedule) (parks g : ℕ) (x : RunStatus) → IsOrderly m → status_of m g ≡ Some RunStatus.InHand → is_queued (Some x) ≡ false
    → IsOrderly (record m { statuses = change_numbered m.statuses g (λ _. x); parks = parks })
orderly-leaves_hand m parks g x orderly in_hand unqueued =
    let now : status_of (with_status m g x) g ≡ Some x = numbered-change_same m.statuses g (λ _. x) RunStatus.InHand in_hand in
    record {
      queued = λ h. elim (cases_eq h g) [
        | inl e ↦
            subst (λ h. times h m.run_queue ≡ as_number (is_queued (status_of (with_status m g x) h))) (sym e)
            (orderly.queued g ∙ (ap (λ o. as_number (is_queued o)) in_hand ∙ sym (ap (λ o. as_number (is_queued o)) now ∙ ap as_number unqueued)))
        | inr n ↦ orderly.queued h ∙ ap (λ o. as_number (is_queued o)) (sym (numbered-change_other m.statuses g h (λ _. x) n))
      ];
      receivers = parked-stay m (with_status m g x) g m.receivers orderly.receivers (ap is_parked in_hand) (λ h n. numbered-change_other m.statuses g h (λ _. x) n);
      senders = parked-stay m (with_status m g x) g m.senders orderly.senders (ap is_parked in_hand) (λ h n. numbered-change_other m.statuses g h (λ _. x) n);
    }

orderly-unparked : (m : Schedule) (g : ℕ) → IsOrderly m → is_parked (status_of m g) ≡ true → IsOrderly (unparked m g)
orderly-unparked m g orderly waits =
    let was : Parking (status_of m g) = status-parked (status_of m g) waits in
    let now : status_of (unparked m g) g ≡ Some RunStatus.Queued = numbered-change_same m.statuses g (λ _. RunStatus.Queued) (RunStatus.Parked was.since) was.is in
    record {
      queued = λ h. elim (cases_eq h g) [
        | inl e ↦
            subst (λ h. times h (unparked m g).run_queue ≡ as_number (is_queued (status_of (unparked m g) h))) (sym e)
            (times-push_same g m.run_queue ∙ (ap (λ k. k + 1) (orderly.queued g ∙ ap (λ o. as_number (is_queued o)) was.is) ∙ sym (ap (λ o. as_number (is_queued o)) now)))
        | inr n ↦
            times-push_other h g m.run_queue n
            ∙ (orderly.queued h ∙ ap (λ o. as_number (is_queued o)) (sym (numbered-change_other m.statuses g h (λ _. RunStatus.Queued) n)))
      ];
      receivers = parked-left m (unparked m g) g m.receivers orderly.receivers (λ h n. numbered-change_other m.statuses g h (λ _. RunStatus.Queued) n);
      senders = parked-left m (unparked m g) g m.senders orderly.senders (λ h n. numbered-change_other m.statuses g h (λ _. RunStatus.Queued) n);
    }

orderly-gone_on : (m : Schedule) (g : ℕ) (waits : Bool) → is_parked (status_of m g) ≡ waits → IsOrderly m → IsOrderly (gone_on m g waits)
orderly-gone_on m g true e orderly = orderly-unparked m g orderly e
orderly-gone_on m g false e orderly = orderly

orderly-suspended : (m : Schedule) (g k : ℕ) → IsOrderly m → status_of m g ≡ Some RunStatus.InHand → IsOrderly (parked_at m (plainly g) (CaseKind.Recv k))
orderly-suspended m g k orderly in_hand =
    let waits : is_parked (status_of (parked m g) g) ≡ true = ap is_parked (numbered-change_same m.statuses g (λ _. RunStatus.Parked m.parks) RunStatus.InHand in_hand) in
    let first : IsOrderly (parked m g) = orderly-leaves_hand m _ g (RunStatus.Parked m.parks) orderly in_hand refl in
    record { queued = first.queued; receivers = parked-joins (parked m g) m.receivers k (plainly g) first.receivers waits; senders = first.senders }

pub orderly-turned : (m : Schedule) (g : ℕ) (move : Move) → IsOrderly m → MayMove (status_of m g) move → IsOrderly (turned m g move)
orderly-turned m g (Move.GoesOn case_no) orderly may = orderly-gone_on m g (is_parked (status_of m g)) refl orderly
orderly-turned m g (Move.FallsAsleep until) orderly may = orderly-leaves_hand m _ g (RunStatus.Parked m.parks) orderly may refl
orderly-turned m g (Move.Suspends k) orderly may = orderly-suspended m g k orderly may
orderly-turned m g (Move.Relocks k) orderly may = orderly-relocked m g k orderly may
orderly-turned m g Move.Ends orderly may = orderly-leaves_hand m m.parks g RunStatus.Ended orderly may refl
orderly-turned m g Move.Panics orderly may = orderly

pub orderly-moved : (m : Schedule) (o : Option (ℕ × Move)) → IsOrderly m → ServedBy m o → IsOrderly (moved_by m o)
orderly-moved m None orderly served = orderly
orderly-moved m (Some x) orderly served = orderly-turned m x.0 x.1 orderly served

as_many-gone_on : (m : Schedule) (g : ℕ) (waits : Bool) → length (gone_on m g waits).statuses ≡ length m.statuses
as_many-gone_on m g true = length-change_numbered m.statuses g (λ _. RunStatus.Queued)
as_many-gone_on m g false = refl

-- and makes no goroutine
pub as_many-turned : (m : Schedule) (g : ℕ) (move : Move) → length (turned m g move).statuses ≡ length m.statuses
as_many-turned m g (Move.GoesOn case_no) = as_many-gone_on m g (is_parked (status_of m g))
as_many-turned m g (Move.FallsAsleep until) = length-change_numbered m.statuses g (λ _. RunStatus.Parked m.parks)
as_many-turned m g (Move.Suspends k) = length-change_numbered m.statuses g (λ _. RunStatus.Parked m.parks)
as_many-turned m g (Move.Relocks k) = refl
as_many-turned m g Move.Ends = length-change_numbered m.statuses g (λ _. RunStatus.Ended)
as_many-turned m g Move.Panics = refl

pub as_many-moved : (m : Schedule) (o : Option (ℕ × Move)) → length (moved_by m o).statuses ≡ length m.statuses
as_many-moved m None = refl
as_many-moved m (Some x) = as_many-turned m x.0 x.1

-- ---- a scheduler after a move

pub record HasMoved (m n : Scheduler) (o : Option (ℕ × Move)) : Type 0 where
  pub schedule : schedule_of n ≡ moved_by (schedule_of m) o
  pub room : capacity n ≡ capacity m

-- where one moves, and where nobody does
pub moved-some : (m n turn : Scheduler) (o found : Option (ℕ × Move)) (g : ℕ) (move : Move) → found ≡ o → found ≡ Some (g, move) → n ≡ turn
    → schedule_of turn ≡ turned (schedule_of m) g move → capacity turn ≡ capacity m → HasMoved m n o
moved-some m n turn o found g move is some same schedule room = record {
  schedule = ap schedule_of same ∙ (schedule ∙ ap (moved_by (schedule_of m)) (sym some ∙ is));
  room = ap capacity same ∙ room;
}

pub moved-none : (m n : Scheduler) (o found : Option (ℕ × Move)) → found ≡ o → found ≡ None → n ≡ m → HasMoved m n o
moved-none m n o found is none same = record { schedule = ap schedule_of same ∙ ap (moved_by (schedule_of m)) (sym none ∙ is); room = ap capacity same }

-- a scheduler after a broadcast
pub record HasSignalled (m n : Scheduler) (o : Option ℕ) : Type 0 where
  pub schedule : schedule_of n ≡ signalled_by (schedule_of m) o
  pub room : capacity n ≡ capacity m

pub signalled-some : (m n all : Scheduler) (o found : Option ℕ) (k : ℕ) → found ≡ o → found ≡ Some k → n ≡ all
    → schedule_of all ≡ all_relocked (schedule_of m) k → capacity all ≡ capacity m → HasSignalled m n o
signalled-some m n all o found k is some same schedule room = record {
  schedule = ap schedule_of same ∙ (schedule ∙ ap (signalled_by (schedule_of m)) (sym some ∙ is));
  room = ap capacity same ∙ room;
}

pub signalled-none : (m n : Scheduler) (o found : Option ℕ) → found ≡ o → found ≡ None → n ≡ m → HasSignalled m n o
signalled-none m n o found is none same = record { schedule = ap schedule_of same ∙ ap (signalled_by (schedule_of m)) (sym none ∙ is); room = ap capacity same }

orderly-signalled : (m : Schedule) (o : Option ℕ) → IsOrderly m → IsOrderly (signalled_by m o)
orderly-signalled m None orderly = orderly
orderly-signalled m (Some k) orderly = orderly-all m k orderly

as_many-signalled : (m : Schedule) (o : Option ℕ) → length (signalled_by m o).statuses ≡ length m.statuses
as_many-signalled m None = refl
as_many-signalled m (Some k) = ap length (each-statuses m k (parties_at m.receivers k))

-- a scheduler after all that an entry does to those that are there is orderly, and as much room is left as before
pub both-is : (m mid n : Scheduler) (c : Change) → HasMoved m mid c.mover → HasMoved mid n c.partner → schedule_of n ≡ moved_by (moved_by (schedule_of m) c.mover) c.partner
both-is m mid n c first second = second.schedule ∙ ap (λ (x : Schedule). moved_by x c.partner) first.schedule

pub orderly-all_moved : (m mid n end : Scheduler) (c : Change) → HasMoved m mid c.mover → HasMoved mid n c.partner → HasSignalled n end c.broadcast
    → IsOrderly (schedule_of m) → ServedIn (schedule_of m) c → IsOrderly (schedule_of end)
orderly-all_moved m mid n end c first second third orderly served =
    let moved : IsOrderly (moved_by (moved_by (schedule_of m) c.mover) c.partner) =
    orderly-moved (moved_by (schedule_of m) c.mover) c.partner (orderly-moved (schedule_of m) c.mover orderly served.0) served.1 in
    subst IsOrderly (sym (third.schedule ∙ ap (λ (x : Schedule). signalled_by x c.broadcast) (both-is m mid n c first second)))
    (orderly-signalled (moved_by (moved_by (schedule_of m) c.mover) c.partner) c.broadcast moved)

as_many-after : (m n : Scheduler) (o : Option (ℕ × Move)) → HasMoved m n o → length n.statuses.items ≡ length m.statuses.items
as_many-after m n o moved = ap (λ (x : Schedule). length x.statuses) moved.schedule ∙ as_many-moved (schedule_of m) o

pub spare-all_moved : (m mid n end : Scheduler) (c : Change) → HasMoved m mid c.mover → HasMoved mid n c.partner → HasSignalled n end c.broadcast
    → length m.statuses.items + length c.starts ≤ capacity m → length end.statuses.items + length c.starts ≤ capacity end
spare-all_moved m mid n end c first second third spare =
    let once : length mid.statuses.items ≡ length m.statuses.items = as_many-after m mid c.mover first in
    let twice : length n.statuses.items ≡ length mid.statuses.items = as_many-after mid n c.partner second in
    let thrice : length end.statuses.items ≡ length n.statuses.items = ap (λ (x : Schedule). length x.statuses) third.schedule ∙ as_many-signalled (schedule_of n) c.broadcast in
    let room : capacity mid ≡ capacity m = first.room in
    let more_room : capacity n ≡ capacity mid = second.room in
    let most_room : capacity end ≡ capacity n = third.room in
    omega arith

-- ---- the run queue

positive : (b : Bool) → 0 < as_number b → b ≡ true
positive true h = refl
positive false h = absurd (omega arith)

-- a goroutine that is queued is one of those
pub status-queued : (s : Option RunStatus) → is_queued s ≡ true → s ≡ Some RunStatus.Queued
status-queued None e = cc
status-queued (Some RunStatus.Queued) e = refl
status-queued (Some RunStatus.InHand) e = cc
status-queued (Some (RunStatus.Parked since)) e = cc
status-queued (Some RunStatus.Ended) e = cc

-- the first of the run queue is queued
pub first-queued : (m : Schedule) (g : ℕ) → RunsQueued m → slice_get m.run_queue 0 ≡ Some g → status_of m g ≡ Some RunStatus.Queued
first-queued m g runs first =
    let some : times g m.run_queue ≡ times g (drop 1 m.run_queue) + 1 = times-first_same g m.run_queue first in
    let as_often : times g m.run_queue ≡ as_number (is_queued (status_of m g)) = runs g in
    status-queued (status_of m g) (positive (is_queued (status_of m g)) (omega arith))
