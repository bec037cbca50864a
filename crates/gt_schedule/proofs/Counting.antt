-- How many items pass a test where one of them is changed or added, and that a scheduler keeps its counts.
use Rattle.std.proofs.Common.{◌≡◌, ℕ, zero, suc, ◌+◌, ◌-◌, ◌^◌, ◌<◌, ◌≤◌, Bool, true, false, cond, IsTrue, List, [], ◌∷◌, length, set, Option, Some, None, IsSome, is_some, slice_get, count_by, refl, sym, ap, subst, ◌∙◌, inl, inr, arith}
use Rattle.std.proofs.lemmas.List.Sums.{count_by-le-length, sum_by-append}
use Rattle.gt_model.specs.Tables.{numbered, change, change_numbered}
use Rattle.gt_model.proofs.Changes.{length-change_numbered}
use Rattle.gt_model.proofs.Tables.{change_numbered-set}
use Rattle.gt_model.proofs.Items.{numbered-change_same, numbered-change_other}
use Rattle.gt_select.specs.Waiting.{ticket_of}
use Rattle.std.proofs.lemmas.Bool.{cases_eq, false≢true}
use Rattle.gt_schedule.specs.declared.status.RunStatus.{RunStatus}
use Rattle.gt_schedule.specs.declared.scheduler.Scheduler.{Scheduler}
use Rattle.gt_schedule.specs.Counts.{as_number}
use Rattle.gt_room.specs.Contents.{Contents}
use Rattle.gt_schedule.specs.Schedule.{status_of, is_parked, is_in_hand, in_hand}
use Rattle.gt_schedule.specs.Scheduler.{schedule_of, capacity, HoldParked, IsScheduler}

cond-as_number : (b : Bool) → cond b 1 0 ≡ as_number b
cond-as_number true = refl
cond-as_number false = refl

as_number-le : (b : Bool) → as_number b ≤ 1
as_number-le true = omega arith
as_number-le false = omega arith

pub count-cons : {X : Type 0} (p : X → Bool) (x : X) (xs : List X) → count_by p (x ∷ xs) ≡ as_number (p x) + count_by p xs
count-cons p x xs =
    let parts : count_by p (x ∷ xs) ≡ count_by p (x ∷ []) + count_by p xs = sum_by-append (λ y. cond (p y) 1 0) (x ∷ []) xs in
    let one : cond (p x) 1 0 ≡ as_number (p x) = cond-as_number (p x) in
    omega arith

-- a write at the place of an item is the change of it
pub set-change_numbered : {X : Type 0} (xs : List X) (g : ℕ) (y : X) (o : Option X) → numbered xs g ≡ o → IsSome o → set xs (g - 1) y ≡ change_numbered xs g (λ _. y)
set-change_numbered xs g y None e h = cc
set-change_numbered xs g y (Some x) e h = sym (change_numbered-set xs g (λ _. y) x e)

-- the count after changing one item is the count without the old one's part, and with the new one's
pub count-change : {X : Type 0} (p : X → Bool) (xs : List X) (i : ℕ) (f : X → X) (x : X) → slice_get xs i ≡ Some x
    → count_by p (change xs i f) + as_number (p x) ≡ count_by p xs + as_number (p (f x))
count-change p [] i f x e = cc
count-change p (y ∷ ys) zero f x e =
    let is : y ≡ x = cc in
    let old : as_number (p y) ≡ as_number (p x) = ap (λ z. as_number (p z)) is in
    let new : as_number (p (f y)) ≡ as_number (p (f x)) = ap (λ z. as_number (p (f z))) is in
    let before : count_by p (y ∷ ys) ≡ as_number (p y) + count_by p ys = count-cons p y ys in
    let after : count_by p (f y ∷ ys) ≡ as_number (p (f y)) + count_by p ys = count-cons p (f y) ys in
    omega arith
count-change p (y ∷ ys) (suc i) f x e =
    let rest : count_by p (change ys i f) + as_number (p x) ≡ count_by p ys + as_number (p (f x)) = count-change p ys i f x e in
    let before : count_by p (y ∷ ys) ≡ as_number (p y) + count_by p ys = count-cons p y ys in
    let after : count_by p (y ∷ change ys i f) ≡ as_number (p y) + count_by p (change ys i f) = count-cons p y (change ys i f) in
    omega arith

pub count-change_numbered : {X : Type 0} (p : X → Bool) (xs : List X) (g : ℕ) (f : X → X) (x : X) → numbered xs g ≡ Some x
    → count_by p (change_numbered xs g f) + as_number (p x) ≡ count_by p xs + as_number (p (f x))
count-change_numbered p xs zero f x e = cc
count-change_numbered p xs (suc i) f x e = count-change p xs i f x e

-- where an item does not pass, fewer are counted than there are
count-lt-at : {X : Type 0} (p : X → Bool) (xs : List X) (i : ℕ) (x : X) → slice_get xs i ≡ Some x → p x ≡ false → count_by p xs < length xs
count-lt-at p [] i x e fails = cc
count-lt-at p (y ∷ ys) zero x e fails =
    let is : y ≡ x = cc in
    let none : as_number (p y) ≡ 0 = ap (λ z. as_number (p z)) is ∙ ap as_number fails in
    let all : count_by p (y ∷ ys) ≡ as_number (p y) + count_by p ys = count-cons p y ys in
    let few : count_by p ys ≤ length ys = count_by-le-length p ys in
    omega arith
count-lt-at p (y ∷ ys) (suc i) x e fails =
    let one : as_number (p y) ≤ 1 = as_number-le (p y) in
    let all : count_by p (y ∷ ys) ≡ as_number (p y) + count_by p ys = count-cons p y ys in
    let few : count_by p ys < length ys = count-lt-at p ys i x e fails in
    omega arith

pub count-lt-length : {X : Type 0} (p : X → Bool) (xs : List X) (g : ℕ) (x : X) → numbered xs g ≡ Some x → p x ≡ false → count_by p xs < length xs
count-lt-length p xs zero x e fails = cc
count-lt-length p xs (suc i) x e fails = count-lt-at p xs i x e fails

-- where an item passes, there is one that is counted
pub count-numbered : {X : Type 0} (p : X → Bool) (xs : List X) (g : ℕ) (x : X) (failing : X) → numbered xs g ≡ Some x → p x ≡ true → p failing ≡ false → 0 < count_by p xs
count-numbered p xs g x failing e passes fails =
    let changed : count_by p (change_numbered xs g (λ _. failing)) + as_number (p x) ≡ count_by p xs + as_number (p failing) = count-change_numbered p xs g (λ _. failing) x e in
    let one : as_number (p x) ≡ 1 = ap as_number passes in
    let none : as_number (p failing) ≡ 0 = ap as_number fails in
    omega arith

-- what is parked is not in hand
pub record Parking (s : Option RunStatus) : Type 0 where
  pub since : ℕ
  pub is : s ≡ Some (RunStatus.Parked since)

pub status-parked : (s : Option RunStatus) → IsTrue (is_parked s) → Parking s
status-parked None e = cc
status-parked (Some RunStatus.Queued) e = cc
status-parked (Some RunStatus.InHand) e = cc
status-parked (Some (RunStatus.Parked since)) e = record { since = since; is = refl }
status-parked (Some RunStatus.Ended) e = cc

abbrev counts_hand : RunStatus → Bool
counts_hand status = is_in_hand (Some status)

-- where those in hand are counted, and one is in hand, one is counted
pub running-some : (m : Scheduler) (g : ℕ) → IsScheduler m → status_of (schedule_of m) g ≡ Some RunStatus.InHand → 0 < m.running
running-some m g kept is =
    let counted : m.running ≡ in_hand (schedule_of m) = kept.running in
    let some : 0 < in_hand (schedule_of m) = count-numbered counts_hand m.statuses.items g RunStatus.InHand RunStatus.Ended is refl refl in
    omega arith

-- n is m with the status of g changed, and as many in hand as that means; nobody has a new ticket, and g has one only if it is parked now
pub record Marks (m n : Scheduler) (g : ℕ) (was status : RunStatus) : Type 0 where
  pub at : status_of (schedule_of m) g ≡ Some was
  pub items : n.statuses.items ≡ change_numbered m.statuses.items g (λ _. status)
  pub spare : n.statuses.spare ≡ m.statuses.spare
  pub members : n.run_queue.members ≡ m.run_queue.members
  pub queues : length n.run_queue.queues ≡ length m.run_queue.queues
  pub goroutines : n.waiters.goroutines ≡ m.waiters.goroutines
  pub lists : length n.waiters.lists ≡ length m.waiters.lists
  pub tickets : (h : ℕ) → IsSome (ticket_of n.waiters h) → IsSome (ticket_of m.waiters h)
  pub own : IsSome (ticket_of n.waiters g) → is_parked (Some status) ≡ true
  pub declared : n.declared ≡ m.declared
  pub running : n.running + as_number (is_in_hand (Some was)) ≡ m.running + as_number (is_in_hand (Some status))
  pub parks : m.parks ≤ 2 ^ 64 - 1 → n.parks ≤ 2 ^ 64 - 1
  pub marks : n.marks ≡ m.marks

pub room-marks : (old new : Contents RunStatus) (g : ℕ) (status : RunStatus) → new.items ≡ change_numbered old.items g (λ _. status) → new.spare ≡ old.spare
    → length new.items + new.spare ≡ length old.items + old.spare
room-marks old new g status items spare =
    let long : length new.items ≡ length old.items = ap length items ∙ length-change_numbered old.items g (λ _. status) in
    omega arith

-- who is not parked has no ticket
pub no-ticket : (m : Scheduler) (g : ℕ) → HoldParked m → is_parked (status_of (schedule_of m) g) ≡ false → ticket_of m.waiters g ≡ None
no-ticket m g hold not_parked = none (ticket_of m.waiters g) refl
  where
    none : (o : Option ℕ) → ticket_of m.waiters g ≡ o → ticket_of m.waiters g ≡ None
    none None e = e
    none (Some turn) e = absurd (false≢true (sym not_parked ∙ hold g (ap is_some e)))

-- so it may take any status where the tickets stay
pub own-unparked : (m : Scheduler) (g : ℕ) (was status : RunStatus) → HoldParked m → status_of (schedule_of m) g ≡ Some was → is_parked (Some was) ≡ false
    → IsSome (ticket_of m.waiters g) → is_parked (Some status) ≡ true
own-unparked m g was status hold at not_parked has = absurd (false≢true (sym (ap is_parked at ∙ not_parked) ∙ hold g has))

hold-marks : (m n : Scheduler) (g : ℕ) (was status : RunStatus) → Marks m n g was status → HoldParked m → HoldParked n
hold-marks m n g was status marks hold h has =
    elim (cases_eq h g) [
      | inl e ↦
          let now : status_of (schedule_of n) g ≡ Some status = ap (λ xs. numbered xs g) marks.items ∙ numbered-change_same m.statuses.items g (λ _. status) was marks.at in
          let mine : IsSome (ticket_of n.waiters g) = subst (λ k. IsSome (ticket_of n.waiters k)) e has in
          ap (λ k. is_parked (status_of (schedule_of n) k)) e ∙ (ap is_parked now ∙ marks.own mine)
      | inr other ↦
          let same : status_of (schedule_of n) h ≡ status_of (schedule_of m) h = ap (λ xs. numbered xs h) marks.items ∙ numbered-change_other m.statuses.items g h (λ _. status) other in
          ap is_parked same ∙ hold h (marks.tickets h has)
    ]

pub kept-marks : (m n : Scheduler) (g : ℕ) (was status : RunStatus) → Marks m n g was status → IsScheduler m → IsScheduler n
kept-marks m n g was status marks h =
    let counted : count_by counts_hand (change_numbered m.statuses.items g (λ _. status)) + as_number (is_in_hand (Some was)) ≡ in_hand (schedule_of m) + as_number (is_in_hand (Some status)) =
    count-change_numbered counts_hand m.statuses.items g (λ _. status) was marks.at in
    let as_many : count_by counts_hand n.statuses.items ≡ count_by counts_hand (change_numbered m.statuses.items g (λ _. status)) = ap (count_by counts_hand) marks.items in
    let room : capacity n ≡ capacity m = room-marks m.statuses n.statuses g status marks.items marks.spare in
    let before : m.running ≡ in_hand (schedule_of m) = h.running in
    let change : n.running + as_number (is_in_hand (Some was)) ≡ m.running + as_number (is_in_hand (Some status)) = marks.running in
    let same_lists : length n.waiters.lists ≡ length m.waiters.lists = marks.lists in
    let all_lists : length m.waiters.lists ≡ m.declared + m.declared = h.lists in
    let same_names : n.declared ≡ m.declared = marks.declared in
    let few : capacity m + length m.waiters.lists < 2 ^ 32 - 2 = h.few in
    record {
      running = omega arith;
      members = marks.members ∙ (h.members ∙ ap (λ k. k + 1) (sym room));
      queues = marks.queues ∙ h.queues;
      goroutines = marks.goroutines ∙ (h.goroutines ∙ sym room);
      lists = omega arith;
      few = omega arith;
      parks = marks.parks h.parks;
      tickets = hold-marks m n g was status marks h.tickets;
      marks = ap (λ (r : Contents (List ℕ)). length r.items) marks.marks ∙ (h.marks ∙ sym (ap length marks.items ∙ length-change_numbered m.statuses.items g (λ _. status)));
      mark_room = ap (λ (r : Contents (List ℕ)). length r.items + r.spare) marks.marks ∙ (h.mark_room ∙ sym room);
    }
