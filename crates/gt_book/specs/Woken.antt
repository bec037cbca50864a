-- Who goes on at an object after it changed, of those that wait there.
use Rattle.std.specs.Prelude.{ℕ, ◌+◌, nat_lt, Bool, true, false, cond, List, [], ◌∷◌, slice_get}
use Rattle.std.specs.declared.option.Option.{Option}
use Rattle.std.specs.declared.option.Option.TheVariants.{None, Some}
use Rattle.gt_model.specs.declared.script.Script.{Script}
use Rattle.gt_model.specs.declared.script.Instr.{Instr}
use Rattle.gt_model.specs.declared.script.Case.{Case}
use Rattle.gt_model.specs.declared.script.CaseKind.{CaseKind}
use Rattle.gt_model.specs.declared.entry.Entry.{Entry}
use Rattle.gt_model.specs.declared.entry.Party.{Party}
use Rattle.gt_rules.specs.State.{State, goroutine_at, is_locked}
use Rattle.gt_model.specs.declared.state.Goroutine.{Goroutine}
use Rattle.gt_model.specs.declared.state.Mode.{Mode}
use Rattle.gt_model.specs.Script.{instr_at, mutex_of}
use Rattle.gt_rules.specs.declared.change.Move.{Move}
use Rattle.gt_rules.specs.Change.{Change}
use Rattle.gt_rules.specs.declared.change.Trade.{Trade}
use Rattle.gt_rules.specs.declared.change.SyncStep.{SyncStep}
use Rattle.gt_rules.specs.declared.change.TreeStep.{TreeStep}
use Rattle.gt_schedule.specs.Schedule.{Schedule, plainly, at_case, parties_at, since_of}
use Rattle.gt_book.specs.Steps.{goes_alone, or_next}

-- the entry of the first case that can go on by itself, where the first one has the number n
abbrev pub first_alone : Script → State → ℕ → ℕ → List Case → Option Entry
first_alone script s g n [] = None
first_alone script s g n (c ∷ cases) = or_next (goes_alone script s (at_case g n) c.kind) (first_alone script s g (n + 1) cases)

-- the entry of a goroutine that waits at an instruction, where it can go on by itself: of a choice that of the case with the lowest number
abbrev pub alone_of : Script → State → ℕ → Option Instr → Option Entry
alone_of script s g None = None
alone_of script s g (Some i) = elim i [
  | Instr.Recv o ↦ goes_alone script s (plainly g) (CaseKind.Recv o)
  | Instr.Send c v ↦ goes_alone script s (plainly g) (CaseKind.Send c v)
  | Instr.Lock m ↦ goes_alone script s (plainly g) (CaseKind.Recv m)
  | Instr.Wait w ↦ goes_alone script s (plainly g) (CaseKind.Recv w)
  | Instr.Select cases default_to ↦ first_alone script s g 1 cases
  | _ ↦ None
]

-- who was signalled at a Cond goes on where nobody has the mutex
abbrev pub relocks : Script → State → ℕ → ℕ → Option Entry
relocks script s g k = cond (is_locked s (mutex_of script k)) None (Some (Entry.CondWake g k))

-- the entry of a goroutine that waits, where it can go on by itself. Who is suspended at a Cond waits for a signal
abbrev pub woken_in : Script → State → ℕ → Goroutine → Option Entry
woken_in script s g r = elim r.mode [
  | Mode.At ↦ alone_of script s g (instr_at script r.place)
  | Mode.Sleeping until ↦ None
  | Mode.Suspended k ↦ None
  | Mode.Relocking k ↦ relocks script s g k
  | Mode.Ended ↦ None
]

abbrev pub woken_by : Script → State → Option Party → Option Entry
woken_by script s None = None
woken_by script s (Some p) = elim (goroutine_at s p.g) [ None ↦ None | Some r ↦ woken_in script s p.g r ]

-- whether a sender has waited longer than a receiver, where there are both
abbrev pub is_longer : Schedule → Option Party → Option Party → Bool
is_longer m (Some q) (Some p) = nat_lt (since_of m q.g) (since_of m p.g)
is_longer m (Some q) None = false
is_longer m None receiver = false

abbrev pub first_woken : Script → State → Option Party → Option Party → Bool → Option Entry
first_woken script s receiver sender true = or_next (woken_by script s sender) (woken_by script s receiver)
first_woken script s receiver sender false = or_next (woken_by script s receiver) (woken_by script s sender)

-- the entry of the one that goes on next: of those that have waited longest, of receivers and of senders, who has waited longer is asked first
abbrev pub next_woken : Script → State → Schedule → ℕ → Option Entry
next_woken script s m c =
    let receiver : Option Party = slice_get (parties_at m.receivers c) 0
    in let sender : Option Party = slice_get (parties_at m.senders c) 0
    in first_woken script s receiver sender (is_longer m sender receiver)

-- the mutex or the WaitGroup that a step changes, as far as somebody waits for it: of a Cond its mutex
abbrev pub stepped_object : Script → ℕ → SyncStep → ℕ
stepped_object script o SyncStep.Locks = o
stepped_object script o SyncStep.Unlocks = o
stepped_object script o (SyncStep.Adds n) = o
stepped_object script o SyncStep.Releases = mutex_of script o
stepped_object script o SyncStep.Retakes = mutex_of script o

-- the mutex for which somebody waits once it is signalled
abbrev pub signalled_for : Script → Option (ℕ × Move) → Option ℕ
signalled_for script None = None
signalled_for script (Some x) = elim x.1 [
  | Move.GoesOn case_no ↦ None
  | Move.FallsAsleep until ↦ None
  | Move.Suspends k ↦ None
  | Move.Relocks k ↦ Some (mutex_of script k)
  | Move.Ends ↦ None
  | Move.Panics ↦ None
]

-- the context that is made, at which nobody waits yet
abbrev pub derived : Option (ℕ × TreeStep) → Option ℕ
derived None = None
derived (Some x) = elim x.1 [
  | TreeStep.Derived ↦ Some x.0
  | TreeStep.Canceled ↦ None
  | TreeStep.Expired ↦ None
  | TreeStep.Registered ↦ None
  | TreeStep.Unhooked ↦ None
]

-- The object at which an entry by which no context ends may let others go on: the channel, the mutex, the WaitGroup or the context that it changes, or the mutex for which
-- those wait whom it signals. It is one at most
abbrev pub changed_object : Script → Change → Option ℕ
changed_object script c = first_of c.channel c.sync (signalled_for script c.partner) c.broadcast
  where
    first_of : Option (ℕ × Trade) → Option (ℕ × SyncStep) → Option ℕ → Option ℕ → Option ℕ
    first_of (Some x) sync signalled broadcast = Some x.0
    first_of None (Some x) signalled broadcast = Some (stepped_object script x.0 x.1)
    first_of None None (Some m) broadcast = Some m
    first_of None None None (Some k) = Some (mutex_of script k)
    first_of None None None None = derived c.tree
