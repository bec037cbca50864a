-- Goroutines that an entry starts, one after the other.
use Rattle.std.proofs.Common.{◌≡◌, ℕ, zero, suc, ◌+◌, ◌<◌, ◌≤◌, List, [], ◌∷◌, ◌++◌, length, length-append, refl, sym, ap, subst, ◌∙◌, inl, inr, None, Some, arith}
use Rattle.std.proofs.lemmas.Bool.{cases_eq}
use Rattle.gt_model.proofs.Items.{numbered-push_same, numbered-push_other, numbered-next}
use Rattle.gt_rules.specs.declared.change.Start.{Start}
use Rattle.gt_schedule.specs.declared.status.RunStatus.{RunStatus}
use Rattle.gt_schedule.specs.declared.scheduler.Scheduler.{Scheduler}
use Rattle.gt_schedule.specs.Counts.{as_number, times}
use Rattle.gt_schedule.specs.Schedule.{Schedule, status_of, is_queued, with_new, begun_by, RunsQueued}
use Rattle.gt_schedule.specs.Scheduler.{schedule_of, capacity, IsScheduler}
use Rattle.gt_schedule.proofs.Lists.{times-push_same, times-push_other}

-- so many new goroutines
abbrev pub new_many : Schedule → ℕ → Schedule
new_many m zero = m
new_many m (suc n) = with_new (new_many m n)

new-first : (m : Schedule) (n : ℕ) → new_many (with_new m) n ≡ with_new (new_many m n)
new-first m zero = refl
new-first m (suc n) = ap with_new (new-first m n)

pub begun-many : (m : Schedule) (starts : List Start) → begun_by m starts ≡ new_many m (length starts)
begun-many m [] = refl
begun-many m (x ∷ xs) = begun-many (with_new m) xs ∙ new-first m (length xs)

-- who is new is queued
pub queued-new : (m : Schedule) → RunsQueued m → RunsQueued (with_new m)
queued-new m queued g =
    let child : ℕ = length m.statuses + 1 in
    elim (cases_eq g child) [
      | inl is ↦
          let none : status_of m g ≡ None = numbered-next m.statuses g is in
          let now : status_of (with_new m) g ≡ Some RunStatus.Queued = numbered-push_same m.statuses RunStatus.Queued g is in
          let before : times g m.run_queue ≡ 0 = queued g ∙ ap (λ o. as_number (is_queued o)) none in
          let pushed : times g (m.run_queue ++ g ∷ []) ≡ times g m.run_queue + 1 = times-push_same g m.run_queue in
          let more : times g (m.run_queue ++ child ∷ []) ≡ times g m.run_queue + 1 = subst (λ k. times g (m.run_queue ++ k ∷ []) ≡ times g m.run_queue + 1) is pushed in
          let one : times g (m.run_queue ++ child ∷ []) ≡ 1 = omega arith in
          one ∙ ap (λ o. as_number (is_queued o)) (sym now)
      | inr other ↦ times-push_other g child m.run_queue other ∙ (queued g ∙ ap (λ o. as_number (is_queued o)) (sym (numbered-push_other m.statuses RunStatus.Queued g other)))
    ]

-- a scheduler with so many more goroutines
pub record HasBegun (first now : Scheduler) (n : ℕ) : Type 0 where
  pub schedule : schedule_of now ≡ new_many (schedule_of first) n
  pub queued : RunsQueued (schedule_of now)
  pub long : length now.statuses.items ≡ length first.statuses.items + n
  pub room : capacity now ≡ capacity first
  pub kept : IsScheduler now

pub begun-first : (m : Scheduler) → IsScheduler m → RunsQueued (schedule_of m) → HasBegun m m 0
begun-first m kept queued = record { schedule = refl; queued = queued; long = omega arith; room = refl; kept = kept }

pub begun-next : (first now next : Scheduler) (n : ℕ) → HasBegun first now n → schedule_of next ≡ with_new (schedule_of now) → capacity next ≡ capacity now → IsScheduler next
    → HasBegun first next (n + 1)
begun-next first now next n begun is room kept = record {
  schedule = let one : suc n ≡ n + 1 = omega arith in is ∙ (ap with_new begun.schedule ∙ ap (new_many (schedule_of first)) one);
  queued = subst RunsQueued (sym is) (queued-new (schedule_of now) begun.queued);
  long =
      let longer : length next.statuses.items ≡ length (now.statuses.items ++ RunStatus.Queued ∷ []) = ap (λ (x : Schedule). length x.statuses) is in
      let more : length (now.statuses.items ++ RunStatus.Queued ∷ []) ≡ length now.statuses.items + 1 = length-append now.statuses.items (RunStatus.Queued ∷ []) in
      let before : length now.statuses.items ≡ length first.statuses.items + n = begun.long in
      omega arith;
  room = room ∙ begun.room;
  kept = kept;
}

pub begun-room : (first now : Scheduler) (n count : ℕ) → HasBegun first now n → n < count → length first.statuses.items + count ≤ capacity first → length now.statuses.items < capacity now
begun-room first now n count begun more spare =
    let long : length now.statuses.items ≡ length first.statuses.items + n = begun.long in
    let room : capacity now ≡ capacity first = begun.room in
    omega arith

pub begun-all : (first now : Scheduler) (n : ℕ) (starts : List Start) → HasBegun first now n → n ≡ length starts → schedule_of now ≡ begun_by (schedule_of first) starts
begun-all first now n starts begun as_many = begun.schedule ∙ (ap (new_many (schedule_of first)) as_many ∙ sym (begun-many (schedule_of first) starts))
