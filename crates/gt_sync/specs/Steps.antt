-- What each call answers, and what it makes of its object.
use Rattle.std.specs.Prelude.{ℕ, zero, suc, ℤ, pos, negsuc, ◌+ℤ◌, Bool, true, false, Option, None, List, [], ◌∷◌}
use Rattle.gt_sync.specs.declared.mutex.LockStep.{LockStep}
use Rattle.gt_sync.specs.declared.mutex.UnlockStep.{UnlockStep}
use Rattle.gt_sync.specs.declared.wait_group.AddStep.{AddStep}
use Rattle.gt_sync.specs.declared.wait_group.WaitStep.{WaitStep}
use Rattle.gt_sync.specs.Waiting.{Waiting, all_woken}

-- what contracts see of a WaitGroup, of a mutex and of a condition variable; each has a queue while somebody waits there
pub record Group : Type 0 where
  pub counter : ℤ
  pub queue : Option ℕ

pub record Lock : Type 0 where
  pub locked : Bool
  pub queue : Option ℕ

pub record Suspension : Type 0 where
  pub queue : Option ℕ

-- a goroutine waits exactly where the mutex is locked
abbrev pub lock_step : Bool → LockStep
lock_step false = LockStep.Done
lock_step true = LockStep.Park

-- by whether the mutex is locked, and who wait
abbrev pub unlock_step : Bool → List ℕ → UnlockStep
unlock_step false waiters = UnlockStep.NotLocked
unlock_step true [] = UnlockStep.Free
unlock_step true (next ∷ others) = UnlockStep.Next next

-- whether somebody has the lock afterwards
abbrev pub is_held : UnlockStep → Bool
is_held UnlockStep.Free = false
is_held (UnlockStep.Next next) = true
is_held UnlockStep.NotLocked = false

-- a goroutine waits exactly where the counter is not 0
abbrev pub wait_step : ℤ → WaitStep
wait_step (pos zero) = WaitStep.Done
wait_step (pos (suc n)) = WaitStep.Park
wait_step (negsuc n) = WaitStep.Park

-- by the sum, and who wait
abbrev pub add_step : ℤ → List ℕ → AddStep
add_step (negsuc n) waiters = AddStep.Negative
add_step (pos zero) [] = AddStep.Plain
add_step (pos zero) (g ∷ gs) = AddStep.Woken
add_step (pos (suc n)) waiters = AddStep.Plain

abbrev pub counter_after : AddStep → ℤ → ℤ → ℤ
counter_after AddStep.Plain counter n = counter +ℤ n
counter_after AddStep.Woken counter n = counter +ℤ n
counter_after AddStep.Negative counter n = counter

abbrev pub queue_after : AddStep → Option ℕ → Option ℕ
queue_after AddStep.Plain queue = queue
queue_after AddStep.Woken queue = None
queue_after AddStep.Negative queue = queue

abbrev pub queues_after : AddStep → Waiting → Option ℕ → Waiting
queues_after AddStep.Plain q queue = q
queues_after AddStep.Woken q queue = all_woken q queue
queues_after AddStep.Negative q queue = q
