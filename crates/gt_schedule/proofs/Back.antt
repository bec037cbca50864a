-- Whoever is in a worker's hand goes back to the run queue, one after another in the order of their numbers.
use Rattle.std.proofs.Common.{◌≡◌, ℕ, zero, suc, ◌+◌, ◌<◌, ◌≤◌, true, false, List, [], ◌∷◌, ◌++◌, length, map, Option, Some, None, slice_get, refl, sym, ap, subst, ◌∙◌, arith, inl, inr}
use Rattle.std.proofs.Common.{append_assoc, nat_lt}
use Rattle.std.specs.Option.{option_map}
use Rattle.std.proofs.lemmas.Bool.{cases_eq, ltb-true, ltb-false}
use Rattle.gt_model.specs.Tables.{change, change_numbered}
use Rattle.gt_model.proofs.Changes.{length-change_numbered}
use Rattle.gt_model.proofs.Items.{numbered-change_same, numbered-change_other}
use Rattle.gt_schedule.specs.declared.status.RunStatus.{RunStatus}
use Rattle.gt_schedule.specs.Counts.{as_number, times}
use Rattle.gt_schedule.specs.Schedule.{Schedule, status_of, is_parked, is_queued, is_in_hand, back_in_queue, in_hands_from, given_back, put_back}
use Rattle.gt_schedule.specs.Scheduler.{IsOrderly}
use Rattle.gt_schedule.proofs.Lists.{times-push_same, times-push_other}
use Rattle.gt_schedule.proofs.Parties.{parked-stay}

pub hand-status : (o : Option RunStatus) → is_in_hand o ≡ true → o ≡ Some RunStatus.InHand
hand-status None e = cc
hand-status (Some RunStatus.Queued) e = cc
hand-status (Some RunStatus.InHand) e = refl
hand-status (Some (RunStatus.Parked since)) e = cc
hand-status (Some RunStatus.Ended) e = cc

-- one goroutine with this status, once it is in the run queue
abbrev queued : Schedule → ℕ → Schedule
queued m g = record m { statuses = change_numbered m.statuses g (λ _. RunStatus.Queued); run_queue = m.run_queue ++ g ∷ [] }

pub put_back-hand : (m : Schedule) (g : ℕ) → is_in_hand (status_of m g) ≡ true → put_back m g ≡ queued m g
put_back-hand m g e = rw e refl

pub put_back-other : (m : Schedule) (g : ℕ) → is_in_hand (status_of m g) ≡ false → put_back m g ≡ m
put_back-other m g e = rw e refl

-- by whether it is in hand
by-hand : (m : Schedule) (g : ℕ) (P : Schedule → Type 0) → (is_in_hand (status_of m g) ≡ true → P (queued m g)) → (is_in_hand (status_of m g) ≡ false → P m) → P (put_back m g)
by-hand m g P hand other =
    elim (is_in_hand (status_of m g)) as (λ b. is_in_hand (status_of m g) ≡ b → P (put_back m g)) [
      | true ↦ λ e. subst P (sym (put_back-hand m g e)) (hand e)
      | false ↦ λ e. subst P (sym (put_back-other m g e)) (other e)
    ] refl

-- ---- the first of those in hand

in_hands-first : (xs : List RunStatus) (n i : ℕ) → ((j : ℕ) → j < i → is_in_hand (slice_get xs j) ≡ false) → slice_get xs i ≡ Some RunStatus.InHand
    → in_hands_from n xs ≡ (n + i) ∷ in_hands_from n (change xs i (λ _. RunStatus.Queued))
in_hands-first [] n i before e = cc
in_hands-first (x ∷ xs) n zero before e =
    let is : x ≡ RunStatus.InHand = cc in
    let same : n ≡ n + 0 = omega arith in
    ap (λ y. in_hands_from n (y ∷ xs)) is ∙ ap (λ k. k ∷ in_hands_from (n + 1) xs) same
in_hands-first (x ∷ xs) n (suc i) before e =
    let first : is_in_hand (Some x) ≡ false = before 0 (omega arith) in
    let same : (n + 1) + i ≡ n + suc i = omega arith in
    let rest : in_hands_from (n + 1) xs ≡ ((n + 1) + i) ∷ in_hands_from (n + 1) (change xs i (λ _. RunStatus.Queued)) =
    in_hands-first xs (n + 1) i (λ j less. before (suc j) (omega arith)) e in
    rw first (rest ∙ ap (λ k. k ∷ in_hands_from (n + 1) (change xs i (λ _. RunStatus.Queued))) same)

back-change : (xs : List RunStatus) (i : ℕ) → slice_get xs i ≡ Some RunStatus.InHand → map back_in_queue (change xs i (λ _. RunStatus.Queued)) ≡ map back_in_queue xs
back-change [] i e = cc
back-change (x ∷ xs) zero e =
    let is : RunStatus.InHand ≡ x = cc in
    ap (λ y. back_in_queue y ∷ map back_in_queue xs) is
back-change (x ∷ xs) (suc i) e = ap (λ ys. back_in_queue x ∷ ys) (back-change xs i e)

in_hands-none : (xs : List RunStatus) (n : ℕ) → ((j : ℕ) → is_in_hand (slice_get xs j) ≡ false) → in_hands_from n xs ≡ []
in_hands-none [] n none = refl
in_hands-none (x ∷ xs) n none = let first : is_in_hand (Some x) ≡ false = none 0 in rw first (in_hands-none xs (n + 1) (λ j. none (suc j)))

stays : (x : RunStatus) → is_in_hand (Some x) ≡ false → back_in_queue x ≡ x
stays RunStatus.Queued e = refl
stays RunStatus.InHand e = cc
stays (RunStatus.Parked since) e = refl
stays RunStatus.Ended e = refl

back-none : (xs : List RunStatus) → ((j : ℕ) → is_in_hand (slice_get xs j) ≡ false) → map back_in_queue xs ≡ xs
back-none [] none = refl
back-none (x ∷ xs) none = ap (λ y. y ∷ map back_in_queue xs) (stays x (none 0)) ∙ ap (λ ys. x ∷ ys) (back-none xs (λ j. none (suc j)))

-- ---- one after another

-- what is left to give back, while the first goroutines are in nobody's hand
pub record GivesBack (first m : Schedule) (n : ℕ) : Type 0 where
  pub given : given_back m ≡ given_back first
  pub orderly : IsOrderly m
  pub long : length m.statuses ≡ length first.statuses
  pub before : (g : ℕ) → g < n + 1 → is_in_hand (status_of m g) ≡ false

pub gives_back-first : (m : Schedule) → IsOrderly m → GivesBack m m 0
gives_back-first m orderly = record {
  given = refl;
  orderly = orderly;
  long = refl;
  before = λ g less. (let is : 0 ≡ g = omega arith in subst (λ g. is_in_hand (status_of m g) ≡ false) is refl);
}

given-queued : (m : Schedule) (g : ℕ) → ((h : ℕ) → h < g → is_in_hand (status_of m h) ≡ false) → is_in_hand (status_of m g) ≡ true → given_back (queued m g) ≡ given_back m
given-queued m zero before hand = cc
given-queued m (suc i) before hand =
    let at : slice_get m.statuses i ≡ Some RunStatus.InHand = hand-status (slice_get m.statuses i) hand in
    let left : List ℕ = in_hands_from 1 (change m.statuses i (λ _. RunStatus.Queued)) in
    let number : 1 + i ≡ suc i = omega arith in
    let first : in_hands_from 1 m.statuses ≡ (suc i) ∷ left =
    in_hands-first m.statuses 1 i (λ j less. before (suc j) (omega arith)) at ∙ ap (λ k. k ∷ left) number in
    ap (λ xs. record m { statuses = xs; run_queue = (m.run_queue ++ (suc i) ∷ []) ++ left }) (back-change m.statuses i at)
    ∙ ap (λ xs. record m { statuses = map back_in_queue m.statuses; run_queue = xs }) (append_assoc m.run_queue ((suc i) ∷ []) left ∙ ap (λ xs. m.run_queue ++ xs) (sym first))

orderly-queued : (m : Schedule) (g : ℕ) → IsOrderly m → status_of m g ≡ Some RunStatus.InHand → IsOrderly (queued m g)
orderly-queued m g orderly in_hand =
    let now : status_of (queued m g) g ≡ Some RunStatus.Queued = numbered-change_same m.statuses g (λ _. RunStatus.Queued) RunStatus.InHand in_hand in
    record {
      queued = λ h. elim (cases_eq h g) [
        | inl e ↦
            subst (λ h. times h (queued m g).run_queue ≡ as_number (is_queued (status_of (queued m g) h))) (sym e)
            (times-push_same g m.run_queue ∙ (ap (λ k. k + 1) (orderly.queued g ∙ ap (λ o. as_number (is_queued o)) in_hand) ∙ sym (ap (λ o. as_number (is_queued o)) now)))
        | inr n ↦
            times-push_other h g m.run_queue n
            ∙ (orderly.queued h ∙ ap (λ o. as_number (is_queued o)) (sym (numbered-change_other m.statuses g h (λ _. RunStatus.Queued) n)))
      ];
      receivers = parked-stay m (queued m g) g m.receivers orderly.receivers (ap is_parked in_hand) (λ h n. numbered-change_other m.statuses g h (λ _. RunStatus.Queued) n);
      senders = parked-stay m (queued m g) g m.senders orderly.senders (ap is_parked in_hand) (λ h n. numbered-change_other m.statuses g h (λ _. RunStatus.Queued) n);
    }

before-queued : (m : Schedule) (n : ℕ) → ((h : ℕ) → h < n + 1 → is_in_hand (status_of m h) ≡ false) → status_of m (n + 1) ≡ Some RunStatus.InHand
    → (h : ℕ) → h < (n + 1) + 1 → is_in_hand (status_of (queued m (n + 1)) h) ≡ false
before-queued m n before at h less =
    elim (cases_eq h (n + 1)) [
      | inl e ↦
          subst (λ h. is_in_hand (status_of (queued m (n + 1)) h) ≡ false) (sym e)
          (ap is_in_hand (numbered-change_same m.statuses (n + 1) (λ _. RunStatus.Queued) RunStatus.InHand at))
      | inr other ↦ ap is_in_hand (numbered-change_other m.statuses (n + 1) h (λ _. RunStatus.Queued) other) ∙ before h (omega arith)
    ]

before-other : (m : Schedule) (n : ℕ) → ((h : ℕ) → h < n + 1 → is_in_hand (status_of m h) ≡ false) → is_in_hand (status_of m (n + 1)) ≡ false
    → (h : ℕ) → h < (n + 1) + 1 → is_in_hand (status_of m h) ≡ false
before-other m n before at h less =
    elim (cases_eq h (n + 1)) [
      | inl e ↦ subst (λ h. is_in_hand (status_of m h) ≡ false) (sym e) at
      | inr other ↦ before h (omega arith)
    ]

pub gives_back-next : (first m : Schedule) (n : ℕ) → GivesBack first m n → GivesBack first (put_back m (n + 1)) (n + 1)
gives_back-next first m n so_far =
    by-hand m (n + 1) (λ m. GivesBack first m (n + 1)) (λ hand.
    let at : status_of m (n + 1) ≡ Some RunStatus.InHand = hand-status (status_of m (n + 1)) hand in
    record {
      given = given-queued m (n + 1) so_far.before hand ∙ so_far.given;
      orderly = orderly-queued m (n + 1) so_far.orderly at;
      long = length-change_numbered m.statuses (n + 1) (λ _. RunStatus.Queued) ∙ so_far.long;
      before = before-queued m n so_far.before at;
    }) (λ other. record {
      given = so_far.given;
      orderly = so_far.orderly;
      long = so_far.long;
      before = before-other m n so_far.before other;
    })

-- ---- and all of them

nobody-past : (xs : List RunStatus) (j : ℕ) → length xs ≤ j → is_in_hand (slice_get xs j) ≡ false
nobody-past [] j h = refl
nobody-past (x ∷ xs) zero h = absurd (omega arith)
nobody-past (x ∷ xs) (suc j) h = nobody-past xs j (omega arith)

pub gives_back-all : (first m : Schedule) → GivesBack first m (length m.statuses) → m ≡ given_back first
gives_back-all first m done =
    let none : (j : ℕ) → is_in_hand (slice_get m.statuses j) ≡ false = λ j. nobody m done.before j in
    let queue : m.run_queue ++ in_hands_from 1 m.statuses ≡ m.run_queue = ap (λ xs. m.run_queue ++ xs) (in_hands-none m.statuses 1 none) ∙ append-nothing m.run_queue in
    sym (ap (λ xs. record m { statuses = xs; run_queue = m.run_queue ++ in_hands_from 1 m.statuses }) (back-none m.statuses none)
    ∙ ap (λ xs. record m { run_queue = xs }) queue)
    ∙ done.given
  where
    append-nothing : (xs : List ℕ) → xs ++ [] ≡ xs
    append-nothing [] = refl
    append-nothing (x ∷ xs) = ap (λ ys. x ∷ ys) (append-nothing xs)

    nobody : (m : Schedule) → ((g : ℕ) → g < length m.statuses + 1 → is_in_hand (status_of m g) ≡ false) → (j : ℕ) → is_in_hand (slice_get m.statuses j) ≡ false
    nobody m before j =
        elim (nat_lt j (length m.statuses)) as (λ b. nat_lt j (length m.statuses) ≡ b → is_in_hand (slice_get m.statuses j) ≡ false) [
          | true ↦ λ q. (let less : j < length m.statuses = ltb-true j (length m.statuses) q in before (suc j) (omega arith))
          | false ↦ λ q. nobody-past m.statuses j (ltb-false j (length m.statuses) q)
        ] refl

-- ---- each status after it

numbered-back : (xs : List RunStatus) (i : ℕ) → slice_get (map back_in_queue xs) i ≡ option_map back_in_queue (slice_get xs i)
numbered-back [] i = refl
numbered-back (x ∷ xs) zero = refl
numbered-back (x ∷ xs) (suc i) = numbered-back xs i

pub status-given : (m : Schedule) (g : ℕ) → status_of (given_back m) g ≡ option_map back_in_queue (status_of m g)
status-given m zero = refl
status-given m (suc i) = numbered-back m.statuses i

-- who is parked stays so, and nobody else is
pub parked-given : (m : Schedule) (g : ℕ) → is_parked (status_of (given_back m) g) ≡ is_parked (status_of m g)
parked-given m g = ap is_parked (status-given m g) ∙ stays-parked (status_of m g)
  where
    stays-parked : (o : Option RunStatus) → is_parked (option_map back_in_queue o) ≡ is_parked o
    stays-parked None = refl
    stays-parked (Some RunStatus.Queued) = refl
    stays-parked (Some RunStatus.InHand) = refl
    stays-parked (Some (RunStatus.Parked since)) = refl
    stays-parked (Some RunStatus.Ended) = refl
