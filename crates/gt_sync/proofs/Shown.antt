-- The lists as they are shown: the objects' queues are all lists but the first.
use Rattle.std.proofs.Common.{◌≡◌, ℕ, zero, suc, ◌+◌, ◌<◌, add-one, arith, List, [], ◌∷◌, ◌++◌, drop, length, set, get_or-set_other, refl}
use Rattle.std.specs.List.{Contains}
use Rattle.gt_queue.specs.Contents.{Contents, IsWaiting, waiting_in}
use Rattle.gt_queue.specs.Contents as lists
use Rattle.gt_sync.specs.Waiting.{MayPark, IsLawful, queued}
use Rattle.gt_sync.specs.Kept.{waiting_of}

pub waiting_in-shown : (qs : List (List ℕ)) (n : ℕ) → waiting_in (drop 1 qs) n ≡ waiting_in qs (n + 1)
waiting_in-shown [] n = refl
waiting_in-shown (x ∷ qs) n = rw (add-one n) refl

pub set-shown : (qs : List (List ℕ)) (n : ℕ) (xs : List ℕ) → drop 1 (set qs (n + 1) xs) ≡ set (drop 1 qs) n xs
set-shown [] n xs = refl
set-shown (x ∷ qs) n xs = rw (add-one n) refl

pub length-shown : (qs : List (List ℕ)) (n : ℕ) → length qs ≡ n + 1 → length (drop 1 qs) ≡ n
length-shown [] n e = absurd (omega arith)
length-shown (x ∷ qs) n e = omega arith

-- whoever may park stands in no list
pub MayPark-free : (c : Contents) (g : ℕ) → MayPark (waiting_of c) g → ¬ IsWaiting c.queues g
MayPark-free c g may w = go w.0 w.1
  where
    go : (q : ℕ) → Contains (waiting_in c.queues q) g → ⊥
    go zero h = may.handed_out h
    go (suc n) h =
        may.waits_nowhere n
        (rw (waiting_in-shown c.queues n, add-one n) h)

-- what is true of the lists is true of what is shown
pub IsLawful-shown : (c : Contents) → 0 < c.members → lists.IsLawful c → IsLawful (waiting_of c)
IsLawful-shown c some l = record {
  below = λ n g h. let b = l.below (n + 1) g (rw (waiting_in-shown c.queues n) at h) in omega arith;
  apart = λ n m g h k. let e = l.apart (n + 1) (m + 1) g (rw (waiting_in-shown c.queues n) at h) (rw (waiting_in-shown c.queues m) at k) in omega arith;
  once = λ n. rw (waiting_in-shown c.queues n) (l.once (n + 1));
  woken_below = λ g h. let b = l.below 0 g h in omega arith;
  woken_apart = λ n g h k. let e = l.apart 0 (n + 1) g h (rw (waiting_in-shown c.queues n) at k) in absurd (omega arith);
  woken_once = l.once 0;
}

-- the lists after one joined, as they are shown
pub waiting_of-joined : (c c' : Contents) (n g : ℕ) → c'.queues ≡ set c.queues (n + 1) (waiting_in c.queues (n + 1) ++ g ∷ []) → c'.members ≡ c.members → waiting_of c' ≡ queued (waiting_of c) n g
waiting_of-joined c c' n g e m =
    rw (e, m)
    (rw (set-shown c.queues n (waiting_in c.queues (n + 1) ++ g ∷ []), get_or-set_other c.queues (n + 1) 0 (waiting_in c.queues (n + 1) ++ g ∷ []) [] (λ e. absurd (omega arith)))
    (rw (waiting_in-shown c.queues n) refl))
