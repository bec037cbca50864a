-- Who waits at the operations, after each change of a schedule: what holds of any lists of parties, and then of both lists.
use Rattle.std.proofs.Common.{◌≡◌, ◌≢◌, ℕ, ◌+◌, ◌<◌, Bool, true, false, List, length, map, slice_get, Some, refl, sym, ap, subst, ◌∙◌, arith, inl, inr}
use Rattle.std.proofs.lemmas.Bool.{cases_eq}
use Rattle.gt_model.specs.declared.entry.Party.{Party}
use Rattle.gt_model.specs.declared.script.CaseKind.{CaseKind}
use Rattle.gt_model.specs.Tables.{change_numbered}
use Rattle.gt_model.proofs.Changes.{length-change_numbered}
use Rattle.gt_model.proofs.Items.{numbered-change_same, numbered-change_other, numbered-push_other}
use Rattle.gt_schedule.specs.declared.status.RunStatus.{RunStatus}
use Rattle.gt_schedule.specs.Counts.{times, often}
use Rattle.gt_schedule.specs.Schedule.{Schedule, status_of, is_parked, parties_at, without_goroutine, taken, parked, parked_at, unparked, with_new, AreParked}
use Rattle.gt_schedule.proofs.Lists.{times-push_other, times-first_other, often-first, length-joins, length-left, often-joins_other, often-left_same, often-left_other}

-- ---- those in a list are parked

-- they stay so where one who was not parked takes another status
pub parked-stay : (m n : Schedule) (g : ℕ) (lists : List (List Party)) → AreParked m lists → is_parked (status_of m g) ≡ false
    → ((h : ℕ) → h ≢ g → status_of n h ≡ status_of m h) → AreParked n lists
parked-stay m n g lists are before others t p not_parked =
    elim (cases_eq p.g g) [
      | inl e ↦ are t p (subst (λ h. is_parked (status_of m h) ≡ false) (sym e) before)
      | inr k ↦ are t p (ap is_parked (sym (others p.g k)) ∙ not_parked)
    ]

-- and where one leaves the lists, whatever its status is then
pub parked-left : (m n : Schedule) (g : ℕ) (lists : List (List Party)) → AreParked m lists → ((h : ℕ) → h ≢ g → status_of n h ≡ status_of m h)
    → AreParked n (map (without_goroutine g) lists)
parked-left m n g lists are others t p not_parked =
    elim (cases_eq p.g g) [
      | inl e ↦ often-left_same g lists t p e
      | inr k ↦ often-left_other g lists t p k ∙ are t p (ap is_parked (sym (others p.g k)) ∙ not_parked)
    ]

-- the longest waiting in a list is parked
pub first-parked : (m : Schedule) (lists : List (List Party)) (t : ℕ) (p : Party) → AreParked m lists → slice_get (parties_at lists t) 0 ≡ Some p
    → is_parked (status_of m p.g) ≡ true
first-parked m lists t p are first = waits (is_parked (status_of m p.g)) refl
  where
    waits : (b : Bool) → is_parked (status_of m p.g) ≡ b → is_parked (status_of m p.g) ≡ true
    waits true e = e
    waits false e =
        let some : 0 < often p (parties_at lists t) = often-first p (parties_at lists t) first in
        let none : often p (parties_at lists t) ≡ 0 = are t p e in
        absurd (omega arith)

-- ---- a party waits at an operation

-- of all but the lists it is the parking that counts
pub parked_at-statuses : (m : Schedule) (p : Party) (kind : CaseKind) → (parked_at m p kind).statuses ≡ (parked m p.g).statuses
parked_at-statuses m p (CaseKind.Recv o) = refl
parked_at-statuses m p (CaseKind.Send c v) = refl

pub parked_at-run_queue : (m : Schedule) (p : Party) (kind : CaseKind) → (parked_at m p kind).run_queue ≡ m.run_queue
parked_at-run_queue m p (CaseKind.Recv o) = refl
parked_at-run_queue m p (CaseKind.Send c v) = refl

pub parked_at-marks : (m : Schedule) (p : Party) (kind : CaseKind) → (parked_at m p kind).marks ≡ m.marks
parked_at-marks m p (CaseKind.Recv o) = refl
parked_at-marks m p (CaseKind.Send c v) = refl

pub parked_at-mutexes : (m : Schedule) (p : Party) (kind : CaseKind) → (parked_at m p kind).mutexes ≡ m.mutexes
parked_at-mutexes m p (CaseKind.Recv o) = refl
parked_at-mutexes m p (CaseKind.Send c v) = refl

pub parked_at-as_many : (m : Schedule) (p : Party) (kind : CaseKind) → length (parked_at m p kind).statuses ≡ length m.statuses
parked_at-as_many m p kind = ap length (parked_at-statuses m p kind) ∙ length-change_numbered m.statuses p.g (λ _. RunStatus.Parked m.parks)

pub parked_at-status_same : (m : Schedule) (p : Party) (kind : CaseKind) (was : RunStatus) → status_of m p.g ≡ Some was
    → status_of (parked_at m p kind) p.g ≡ Some (RunStatus.Parked m.parks)
parked_at-status_same m p (CaseKind.Recv o) was e = numbered-change_same m.statuses p.g (λ _. RunStatus.Parked m.parks) was e
parked_at-status_same m p (CaseKind.Send c v) was e = numbered-change_same m.statuses p.g (λ _. RunStatus.Parked m.parks) was e

pub parked_at-status_other : (m : Schedule) (p : Party) (kind : CaseKind) (h : ℕ) → h ≢ p.g → status_of (parked_at m p kind) h ≡ status_of m h
parked_at-status_other m p (CaseKind.Recv o) h n = numbered-change_other m.statuses p.g h (λ _. RunStatus.Parked m.parks) n
parked_at-status_other m p (CaseKind.Send c v) h n = numbered-change_other m.statuses p.g h (λ _. RunStatus.Parked m.parks) n

-- each list is as long as before, and has the parties of the other goroutines as often
pub length-parked_at_receivers : (m : Schedule) (p : Party) (kind : CaseKind) → length (parked_at m p kind).receivers ≡ length m.receivers
length-parked_at_receivers m p (CaseKind.Recv o) = length-joins m.receivers o p
length-parked_at_receivers m p (CaseKind.Send c v) = refl

pub length-parked_at_senders : (m : Schedule) (p : Party) (kind : CaseKind) → length (parked_at m p kind).senders ≡ length m.senders
length-parked_at_senders m p (CaseKind.Recv o) = refl
length-parked_at_senders m p (CaseKind.Send c v) = length-joins m.senders c p

pub often-parked_at_receivers : (m : Schedule) (p : Party) (kind : CaseKind) (t : ℕ) (q : Party) → q.g ≢ p.g
    → often q (parties_at (parked_at m p kind).receivers t) ≡ often q (parties_at m.receivers t)
often-parked_at_receivers m p (CaseKind.Recv o) t q n = often-joins_other m.receivers o t q p n
often-parked_at_receivers m p (CaseKind.Send c v) t q n = refl

pub often-parked_at_senders : (m : Schedule) (p : Party) (kind : CaseKind) (t : ℕ) (q : Party) → q.g ≢ p.g
    → often q (parties_at (parked_at m p kind).senders t) ≡ often q (parties_at m.senders t)
often-parked_at_senders m p (CaseKind.Recv o) t q n = refl
often-parked_at_senders m p (CaseKind.Send c v) t q n = often-joins_other m.senders c t q p n

-- ---- what each change leaves of the other goroutines

-- n is m but for one goroutine: the others have their statuses, and stand in the run queue and in both lists as often as before
pub record OthersStay (m n : Schedule) (g : ℕ) : Type 0 where
  pub statuses : (h : ℕ) → h ≢ g → status_of n h ≡ status_of m h
  pub run_queue : (h : ℕ) → h ≢ g → times h n.run_queue ≡ times h m.run_queue
  pub receivers_long : length n.receivers ≡ length m.receivers
  pub senders_long : length n.senders ≡ length m.senders
  pub receivers : (t : ℕ) (p : Party) → p.g ≢ g → often p (parties_at n.receivers t) ≡ often p (parties_at m.receivers t)
  pub senders : (t : ℕ) (p : Party) → p.g ≢ g → often p (parties_at n.senders t) ≡ often p (parties_at m.senders t)

-- where it takes a status and stands in the lists as before: `parked` and `with_status` are such
pub others-status : (m : Schedule) (parks g : ℕ) (x : RunStatus) → OthersStay m (record m { statuses = change_numbered m.statuses g (λ _. x); parks = parks }) g
others-status m parks g x = record {
  statuses = λ h n. numbered-change_other m.statuses g h (λ _. x) n;
  run_queue = λ h n. refl;
  receivers_long = refl;
  senders_long = refl;
  receivers = λ t p n. refl;
  senders = λ t p n. refl;
}

pub others-taken : (m : Schedule) (g : ℕ) → slice_get m.run_queue 0 ≡ Some g → OthersStay m (taken m g) g
others-taken m g first = record {
  statuses = λ h n. numbered-change_other m.statuses g h (λ _. RunStatus.InHand) n;
  run_queue = λ h n. times-first_other h g m.run_queue first n;
  receivers_long = refl;
  senders_long = refl;
  receivers = λ t p n. refl;
  senders = λ t p n. refl;
}

pub others-parked_at : (m : Schedule) (p : Party) (kind : CaseKind) → OthersStay m (parked_at m p kind) p.g
others-parked_at m p kind = record {
  statuses = parked_at-status_other m p kind;
  run_queue = λ h n. ap (times h) (parked_at-run_queue m p kind);
  receivers_long = length-parked_at_receivers m p kind;
  senders_long = length-parked_at_senders m p kind;
  receivers = often-parked_at_receivers m p kind;
  senders = often-parked_at_senders m p kind;
}

pub others-unparked : (m : Schedule) (g : ℕ) → OthersStay m (unparked m g) g
others-unparked m g = record {
  statuses = λ h n. numbered-change_other m.statuses g h (λ _. RunStatus.Queued) n;
  run_queue = λ h n. times-push_other h g m.run_queue n;
  receivers_long = length-left g m.receivers;
  senders_long = length-left g m.senders;
  receivers = often-left_other g m.receivers;
  senders = often-left_other g m.senders;
}

pub others-new : (m : Schedule) → OthersStay m (with_new m) (length m.statuses + 1)
others-new m = record {
  statuses = λ h n. numbered-push_other m.statuses RunStatus.Queued h n;
  run_queue = λ h n. times-push_other h (length m.statuses + 1) m.run_queue n;
  receivers_long = refl;
  senders_long = refl;
  receivers = λ t p n. refl;
  senders = λ t p n. refl;
}
