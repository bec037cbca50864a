-- Who wait at objects, and who were woken.
use Rattle.std.specs.Prelude.{◌≡◌, ◌≢◌, ℕ, ◌+◌, ◌≤◌, ◌<◌, Option, Some, None, IsSomeAnd, List, [], ◌∷◌, ◌++◌, drop, length, replicate, slice_set, Contains, nat_eq}
use Rattle.std.specs.List.{IsDistinct}
use Rattle.gt_queue.specs.Contents.{waiting_in}

pub record Waiting : Type 0 where
  pub queues : List (List ℕ)  -- by queue: the goroutines that wait there, the longest waiting first
  pub woken : List ℕ  -- who were woken and are still to be handed out, in this order
  pub goroutines : ℕ  -- the greatest number of a goroutine

-- who wait at the object with this queue, the longest waiting first
abbrev pub waiters : Waiting → Option ℕ → List ℕ
waiters q None = []
waiters q (Some n) = waiting_in q.queues n

-- those that wait at the object wait in q: it has a queue there exactly while somebody waits at it
abbrev pub HasQueue : Waiting → Option ℕ → Type 0
HasQueue q None = Unit {0}
HasQueue q (Some n) = waiting_in q.queues n ≢ []

-- g is a goroutine that waits at no object, and it is not still to be handed out
pub record MayPark (q : Waiting) (g : ℕ) : Type 0 where
  pub first : 1 ≤ g
  pub last : g ≤ q.goroutines
  pub waits_nowhere : (n : ℕ) → ¬ Contains (waiting_in q.queues n) g
  pub handed_out : ¬ Contains q.woken g

-- nobody waits yet
abbrev pub no_waiters : ℕ → Waiting
no_waiters goroutines = record { queues = replicate (goroutines + 1) []; woken = []; goroutines = goroutines }

-- the queue in which the next one waits: the object's own, or one where nobody waits
abbrev pub IsQueueFor : Waiting → Option ℕ → ℕ → Type 0
IsQueueFor q None n = (n < length q.queues) × (waiting_in q.queues n ≡ [])
IsQueueFor q (Some own) n = n ≡ own

-- g is the last in a queue
abbrev pub queued : Waiting → ℕ → ℕ → Waiting
queued q n g = record q { queues = slice_set q.queues n (waiting_in q.queues n ++ g ∷ []) }

-- g waits at the object from now on, behind those that wait there; q and the object's queue before and after
abbrev pub Parks : Waiting → Option ℕ → ℕ → Waiting → Option ℕ → Type 0
Parks q queue g q' queue' = IsSomeAnd queue' (λ n. IsQueueFor q queue n × (q' ≡ queued q n g))

-- an object keeps its queue while somebody is left there
abbrev pub queue_for : List ℕ → Option ℕ → Option ℕ
queue_for [] queue = None
queue_for (g ∷ gs) queue = queue

-- the object's queue after the one that waited longest has left, if somebody waited
abbrev pub queue_left : Waiting → Option ℕ → Option ℕ
queue_left q queue = queue_for (drop 1 (waiters q queue)) queue

abbrev pub first_gone : Waiting → Option ℕ → Waiting
first_gone q None = q
first_gone q (Some n) = record q { queues = slice_set q.queues n (drop 1 (waiting_in q.queues n)) }

-- all that waited at the object are to be handed out, after those that were woken before
abbrev pub all_woken : Waiting → Option ℕ → Waiting
all_woken q None = q
all_woken q (Some n) = record q { queues = slice_set q.queues n []; woken = q.woken ++ waiting_in q.queues n }

-- the first of the woken is handed out
abbrev pub handed_out : Waiting → Waiting
handed_out q = record q { woken = drop 1 q.woken }

-- what is true at all times: each number is a goroutine's, and nobody stands in two lists or twice in one
pub record IsLawful (q : Waiting) : Type 0 where
  pub below : (n g : ℕ) → Contains (waiting_in q.queues n) g → g ≤ q.goroutines
  pub apart : (n m g : ℕ) → Contains (waiting_in q.queues n) g → Contains (waiting_in q.queues m) g → n ≡ m
  pub once : (n : ℕ) → IsDistinct nat_eq (waiting_in q.queues n)
  pub woken_below : (g : ℕ) → Contains q.woken g → g ≤ q.goroutines
  pub woken_apart : (n g : ℕ) → Contains q.woken g → ¬ Contains (waiting_in q.queues n) g
  pub woken_once : IsDistinct nat_eq q.woken
