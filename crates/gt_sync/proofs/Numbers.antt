-- The numbers of the free queues: after each change they are those of the queues in which nobody waits.
use Rattle.std.proofs.Common.{◌≡◌, ◌≢◌, ℕ, ◌+◌, ◌<◌, ap, arith, Option, Some, None, List, [], ◌∷◌, ◌++◌, drop, length, set, get_or, get_or-set_same, get_or-set_other, refl, sym, ◌∙◌, inl, inr}
use Rattle.std.specs.List.{Contains, slice_get}
use Rattle.std.proofs.lemmas.Bool.{cases_eq, cases_lt}
use Rattle.std.proofs.lemmas.List.{length-set, get_or_past}
use Rattle.std.proofs.lemmas.List.Elements.{Contains-append_left, Contains-push, Contains-push_cases}
use Rattle.gt_queue.specs.Contents.{Contents, IsWaiting, IsLawful, waiting_in, without}
use Rattle.gt_queue.proofs.Members.{Contains-without, without-first, without-keeps, Contains-from_first}
use Rattle.gt_queue.proofs.Waiting.{queue_in}
use Rattle.gt_sync.specs.Waiting.{HasQueue, IsQueueFor}
use Rattle.gt_sync.specs.Kept.{waiting_of, IsKept}
use Rattle.gt_sync.proofs.Shown.{waiting_in-shown, length-shown}

-- the queue n
abbrev pub queue_at : Contents → ℕ → List ℕ
queue_at c n = waiting_in c.queues (n + 1)

abbrev pub free_numbers : Contents → List ℕ
free_numbers c = waiting_in c.queues 0

-- at most the queue n has changed
pub record Changes (w w' : Contents) (n : ℕ) : Type 0 where
  pub members : w'.members ≡ w.members
  pub lists : length w'.queues ≡ length w.queues
  pub others : (k : ℕ) → k ≢ n → queue_at w' k ≡ queue_at w k

pub Changes-set : (w w' : Contents) (n : ℕ) (xs : List ℕ) → w'.queues ≡ set w.queues (n + 1) xs → w'.members ≡ w.members → Changes w w' n
Changes-set w w' n xs e m = record {
  members = m;
  lists = rw e (length-set w.queues (n + 1) xs);
  others = λ k other. rw e (get_or-set_other w.queues (n + 1) (k + 1) xs [] (λ same. other (omega arith)));
}

pub Changes-both : (w w' : Contents) (n : ℕ) (xs ys : List ℕ) → w'.queues ≡ set (set w.queues (n + 1) xs) 0 ys → w'.members ≡ w.members → Changes w w' n
Changes-both w w' n xs ys e m = record {
  members = m;
  lists = rw e (length-set (set w.queues (n + 1) xs) 0 ys ∙ length-set w.queues (n + 1) xs);
  others = λ k other.
      rw e
      (get_or-set_other (set w.queues (n + 1) xs) 0 (k + 1) ys [] (λ same. absurd (omega arith))
      ∙ get_or-set_other w.queues (n + 1) (k + 1) xs [] (λ same. other (omega arith)));
}

-- a queue in which somebody waits is there
pub queue_there : (w : Contents) (n : ℕ) → length w.queues ≡ w.members + 1 → queue_at w n ≢ [] → n < w.members
queue_there w n lists some =
    elim (cases_lt (n + 1) (length w.queues)) [
      | inl l ↦ omega arith
      | inr past ↦ absurd (some (get_or_past w.queues (n + 1) [] past))
    ]

-- a queue in which somebody waits is not free
pub used_not_free : (w f : Contents) (n : ℕ) → IsKept w f → queue_at w n ≢ [] → ¬ IsWaiting f.queues n
used_not_free w f n kept some h =
    let one = kept.one in
    let l = queue_in f.queues h.0 n h.1 in
    let first : h.0 ≡ 0 = omega arith in
    some (kept.free.empty n (rw first at h.1))

-- a queue that ran empty is given back
pub IsKept-returned : (w f w' f' : Contents) (n : ℕ) → IsKept w f → Changes w w' n → queue_at w n ≢ [] → queue_at w' n ≡ [] → f'.queues ≡ set f.queues 0 (free_numbers f ++ n ∷ []) → f'.members ≡ f.members → IsKept w' f'
IsKept-returned w f w' f' n kept c some none fq fm =
    let one = kept.one in
    let numbers : free_numbers f' ≡ free_numbers f ++ n ∷ [] = rw fq (get_or-set_same f.queues 0 (free_numbers f ++ n ∷ []) [] (omega arith)) in
    record {
      some = rw c.members kept.some;
      few = rw c.members kept.few;
      lists = c.lists ∙ kept.lists ∙ ap (λ m. m + 1) (sym c.members);
      one = rw fq (length-set f.queues 0 (free_numbers f ++ n ∷ []) ∙ kept.one);
      numbers = fm ∙ kept.numbers ∙ sym c.members;
      free = record {
        empty = λ k h.
            elim (Contains-push_cases (free_numbers f) n k (rw numbers at h)) [
              | inl old ↦ let e = kept.free.empty k old in c.others k (λ same. some (rw same at e)) ∙ e
              | inr new ↦ rw (← new) none
            ];
        all = λ k kl e.
            rw numbers
            (elim (cases_eq k n) [
              | inl same ↦ rw same (Contains-push (free_numbers f) n)
              | inr other ↦ Contains-append_left (free_numbers f) (n ∷ []) k (kept.free.all k (rw c.members at kl) (sym (c.others k other) ∙ e))
            ]);
      };
    }

-- a number was chosen for the next one who waits at the object with this queue: the other numbers are free or not as before
pub record IsChosen (w f : Contents) (own : Option ℕ) (n : ℕ) : Type 0 where
  pub there : n < w.members
  pub fits : IsQueueFor (waiting_of w) own n
  pub one : length f.queues ≡ 1
  pub numbers : f.members ≡ w.members
  pub empty : (k : ℕ) → Contains (free_numbers f) k → (queue_at w k ≡ []) × (k ≢ n)
  pub all : (k : ℕ) → k < w.members → queue_at w k ≡ [] → k ≢ n → Contains (free_numbers f) k

pub IsChosen-own : (w f : Contents) (n : ℕ) → IsKept w f → HasQueue (waiting_of w) (Some n) → IsChosen w f (Some n) n
IsChosen-own w f n kept here =
    let some : queue_at w n ≢ [] = rw (waiting_in-shown w.queues n) at here in
    record {
      there = queue_there w n kept.lists some;
      fits = refl;
      one = kept.one;
      numbers = kept.numbers;
      empty = λ k h. let e = kept.free.empty k h in (e, λ same. some (rw same at e));
      all = λ k kl e other. kept.free.all k kl e;
    }

pub IsChosen-drawn : (w f f' : Contents) (n : ℕ) → IsKept w f → IsLawful f → Some n ≡ slice_get (free_numbers f) 0 → f'.queues ≡ set f.queues 0 (drop 1 (free_numbers f)) → f'.members ≡ f.members → IsChosen w f' None n
IsChosen-drawn w f f' n kept lawful first fq fm =
    let one = kept.one in
    let stands = Contains-from_first n (free_numbers f) first in
    let below = lawful.below 0 n stands in
    let size = kept.numbers in
    let there : n < w.members = omega arith in
    let left : free_numbers f' ≡ without (free_numbers f) n =
    rw fq
    (get_or-set_same f.queues 0 (drop 1 (free_numbers f)) [] (omega arith)
    ∙ sym (without-first n (free_numbers f) first (lawful.once 0))) in
    record {
      there = there;
      fits = (rw (length-shown w.queues w.members kept.lists) there, waiting_in-shown w.queues n ∙ kept.free.empty n stands);
      one = rw fq (length-set f.queues 0 (drop 1 (free_numbers f)) ∙ kept.one);
      numbers = fm ∙ kept.numbers;
      empty = λ k h. let r = Contains-without n k (free_numbers f) (rw left at h) in (kept.free.empty k r.0, r.1);
      all = λ k kl e other. rw left (without-keeps n k (free_numbers f) (kept.free.all k kl e) other);
    }

-- somebody waits in the chosen queue
pub IsKept-filled : (w f w' f' : Contents) (own : Option ℕ) (n : ℕ) → IsKept w f → IsChosen w f' own n → Changes w w' n → queue_at w' n ≢ [] → IsKept w' f'
IsKept-filled w f w' f' own n kept chosen c some = record {
  some = rw c.members kept.some;
  few = rw c.members kept.few;
  lists = c.lists ∙ kept.lists ∙ ap (λ m. m + 1) (sym c.members);
  one = chosen.one;
  numbers = chosen.numbers ∙ sym c.members;
  free = record {
    empty = λ k h. let r = chosen.empty k h in c.others k r.1 ∙ r.0;
    all = λ k kl e.
        elim (cases_eq k n) [
          | inl same ↦ absurd (some (rw same at e))
          | inr other ↦ chosen.all k (rw c.members at kl) (sym (c.others k other) ∙ e) other
        ];
  };
}

-- a queue whose members are moved to the first list is empty
pub emptied : (w w' : Contents) (n : ℕ) → length w.queues ≡ w.members + 1 → queue_at w n ≢ [] → (ys : List ℕ) → w'.queues ≡ set (set w.queues (n + 1) []) 0 ys → queue_at w' n ≡ []
emptied w w' n lists some ys e =
    let there = queue_there w n lists some in
    rw e
    (get_or-set_other (set w.queues (n + 1) []) 0 (n + 1) ys [] (λ same. absurd (omega arith))
    ∙ get_or-set_same w.queues (n + 1) [] [] (omega arith))

-- where somebody has just joined, a queue is not empty
pushed_not_nil : (xs : List ℕ) (g : ℕ) → xs ++ g ∷ [] ≢ []
pushed_not_nil [] g e = cc
pushed_not_nil (x ∷ xs) g e = cc

pub joined_not_empty : (w w' : Contents) (n g : ℕ) → length w.queues ≡ w.members + 1 → n < w.members → w'.queues ≡ set w.queues (n + 1) (queue_at w n ++ g ∷ []) → queue_at w' n ≢ []
joined_not_empty w w' n g lists there e none =
    pushed_not_nil (queue_at w n) g
    (sym (get_or-set_same w.queues (n + 1) (queue_at w n ++ g ∷ []) [] (omega arith)) ∙ ap (λ qs. get_or qs (n + 1) []) (sym e) ∙ none)
