-- How two sets of lists make the queues: in the first, the list 0 is that of the woken, and the list n + 1 is the queue n; in
-- the second, the list 0 has the numbers of the queues in which nobody waits.
use Rattle.std.specs.Prelude.{◌≡◌, ℕ, ◌+◌, ◌-◌, ◌^◌, ◌<◌, List, [], drop, length, Contains}
use Rattle.gt_queue.specs.Contents.{Contents, waiting_in}
use Rattle.gt_sync.specs.Waiting.{Waiting}

abbrev pub waiting_of : Contents → Waiting
waiting_of c = record { queues = drop 1 c.queues; woken = waiting_in c.queues 0; goroutines = c.members - 1 }

-- the free numbers are those of the empty queues, of so many queues in all
pub record AreFree (count : ℕ) (queue : ℕ → List ℕ) (free : List ℕ) : Type 0 where
  pub empty : (n : ℕ) → Contains free n → queue n ≡ []
  pub all : (n : ℕ) → n < count → queue n ≡ [] → Contains free n

-- there are as many queues as members: the goroutines and the number 0, which is nobody's
pub record IsKept (waiting unused : Contents) : Type 0 where
  pub some : 0 < waiting.members
  pub few : waiting.members < 2 ^ 31
  pub lists : length waiting.queues ≡ waiting.members + 1
  pub one : length unused.queues ≡ 1
  pub numbers : unused.members ≡ waiting.members
  pub free : AreFree waiting.members (λ n. waiting_in waiting.queues (n + 1)) (waiting_in unused.queues 0)
