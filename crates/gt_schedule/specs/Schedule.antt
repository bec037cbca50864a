-- Who runs, who is to run and who waits.
use Rattle.std.specs.Prelude.{ℕ, ◌+◌, ◌-◌, ◌^◌, ◌<◌, ◌==◌, ◌≡◌, cond, nat_lt, IsTrue, Bool, true, false, not, ◌||◌, min, length, replicate, map, filter, List, [], ◌∷◌, ◌++◌, drop, set, slice_index_or, count_by, sum_by}
use Rattle.std.specs.List.{list_all}
use Rattle.std.specs.declared.option.Option.{Option}
use Rattle.std.specs.declared.option.Option.TheVariants.{None, Some}
use Rattle.gt_model.specs.declared.script.Script.{Script}
use Rattle.gt_model.specs.declared.script.Decl.{Decl}
use Rattle.gt_model.specs.declared.script.What.{What}
use Rattle.gt_model.specs.declared.entry.Entry.{Entry}
use Rattle.gt_model.specs.declared.entry.Limits.{Limits}
use Rattle.gt_model.specs.declared.entry.Party.{Party}
use Rattle.gt_model.specs.declared.script.Case.{Case}
use Rattle.gt_model.specs.declared.script.CaseKind.{CaseKind}
use Rattle.gt_model.specs.Good.{most_cases}
use Rattle.gt_model.specs.Script.{names_hook}
use Rattle.gt_model.specs.Tables.{numbered, change_numbered}
use Rattle.gt_rules.specs.declared.change.Move.{Move}
use Rattle.gt_rules.specs.declared.change.Start.{Start}
use Rattle.gt_rules.specs.Change.{Change, change_of}
use Rattle.gt_schedule.specs.declared.status.RunStatus.{RunStatus}
use Rattle.gt_schedule.specs.declared.status.Ticket.{Ticket}
use Rattle.gt_schedule.specs.Counts.{as_number, times, often}

pub record Schedule : Type 0 where
  pub statuses : List RunStatus  -- by goroutine number, from 1
  pub run_queue : List ℕ  -- who are to be taken, the longest waiting first
  pub receivers : List (List Party)  -- by declaration: the parties parked at a receive from it, the longest waiting first
  pub senders : List (List Party)  -- by declaration: the parties parked at a send to it, the longest waiting first; of a mutex those that were signalled at a Cond of it
  pub parks : ℕ  -- how many times a goroutine was parked
  pub marks : List (List ℕ)  -- by goroutine number, from 1: the timers whose records count it among those that wait there, the earliest first
  pub mutexes : List ℕ  -- by declaration: the mutex of a Cond; 0 of what is none

-- how many hooks are declared
abbrev pub is_hook_decl : Decl → Bool
is_hook_decl d = names_hook (Some d.what)

abbrev pub hook_count : Script → ℕ
hook_count script = count_by is_hook_decl script.decls

-- the greatest number of goroutines of a run: main's, one for each entry, and one for each hook
abbrev pub most_goroutines : Script → Limits → ℕ
most_goroutines script limits = limits.entries + 1 + hook_count script

-- a goroutine at its plain instruction
abbrev pub plainly : ℕ → Party
plainly g = record { g = g; case_no = 0 }

abbrev pub status_of : Schedule → ℕ → Option RunStatus
status_of m g = numbered m.statuses g

abbrev pub is_queued : Option RunStatus → Bool
is_queued (Some RunStatus.Queued) = true
is_queued _ = false

abbrev pub is_in_hand : Option RunStatus → Bool
is_in_hand (Some RunStatus.InHand) = true
is_in_hand _ = false

abbrev pub is_parked : Option RunStatus → Bool
is_parked (Some (RunStatus.Parked since)) = true
is_parked _ = false

-- how many times a goroutine was parked before this one was; 0 of one that is not parked
abbrev pub since_of : Schedule → ℕ → ℕ
since_of m g = since_in (status_of m g)
  where
    since_in : Option RunStatus → ℕ
    since_in (Some (RunStatus.Parked since)) = since
    since_in _ = 0

-- a ticket is live while its goroutine is parked as it was when it got it
abbrev pub IsLive : Schedule → Ticket → Type 0
IsLive m ticket = status_of m ticket.g ≡ Some (RunStatus.Parked ticket.turn)

-- the timers that have a goroutine marked, the earliest mark first
abbrev pub marks_at : Schedule → ℕ → List ℕ
marks_at m g = list_or_none (numbered m.marks g)
  where
    list_or_none : Option (List ℕ) → List ℕ
    list_or_none None = []
    list_or_none (Some ts) = ts

-- how many marks a timer has
abbrev pub mark_count : Schedule → ℕ → ℕ
mark_count m t = sum_by (times t) m.marks

-- a goroutine may get a mark: it has fewer than a choice may have cases
abbrev pub HasMarkRoom : Schedule → ℕ → Type 0
HasMarkRoom m g = length (marks_at m g) < most_cases

-- a goroutine gets a mark of a timer
abbrev pub marked : Schedule → ℕ → ℕ → Schedule
marked m g t = record m { marks = change_numbered m.marks g (λ ts. ts ++ t ∷ []) }

-- the list without the first place of a number
abbrev pub without_first : ℕ → List ℕ → List ℕ
without_first t [] = []
without_first t (x ∷ xs) = cond (x == t) xs (x ∷ without_first t xs)

-- one mark of a timer is taken away from a goroutine
abbrev pub unmarked : Schedule → ℕ → ℕ → Schedule
unmarked m g t = record m { marks = change_numbered m.marks g (without_first t) }

-- who was in a worker's hand is to be taken
abbrev pub back_in_queue : RunStatus → RunStatus
back_in_queue RunStatus.InHand = RunStatus.Queued
back_in_queue RunStatus.Queued = RunStatus.Queued
back_in_queue (RunStatus.Parked since) = RunStatus.Parked since
back_in_queue RunStatus.Ended = RunStatus.Ended

-- the goroutines in workers' hands, in the order of their numbers, where the first status is that of number g
abbrev pub in_hands_from : ℕ → List RunStatus → List ℕ
in_hands_from g [] = []
in_hands_from g (status ∷ rest) = cond (is_in_hand (Some status)) (g ∷ in_hands_from (g + 1) rest) (in_hands_from (g + 1) rest)

-- whoever is in a worker's hand goes to the end of the run queue
abbrev pub given_back : Schedule → Schedule
given_back m = record m {
  statuses = map back_in_queue m.statuses;
  run_queue = m.run_queue ++ in_hands_from 1 m.statuses;
}

-- one goroutine goes to the end of the run queue, if it is in a worker's hand
abbrev pub put_back : Schedule → ℕ → Schedule
put_back m g = put_back_by m g (is_in_hand (status_of m g))
  where
    put_back_by : Schedule → ℕ → Bool → Schedule
    put_back_by m g true = record m { statuses = change_numbered m.statuses g (λ _. RunStatus.Queued); run_queue = m.run_queue ++ g ∷ [] }
    put_back_by m g false = m

-- how many goroutines are to run, and how many are in a worker's hand
abbrev pub queued_count : Schedule → ℕ
queued_count m = count_by (λ (status : RunStatus). is_queued (Some status)) m.statuses

abbrev pub in_hand : Schedule → ℕ
in_hand m = count_by (λ (status : RunStatus). is_in_hand (Some status)) m.statuses

-- the parties at a declaration
abbrev pub parties_at : List (List Party) → ℕ → List Party
parties_at lists t = slice_index_or lists t []

-- the parties of the other goroutines, in their order
abbrev pub without_goroutine : ℕ → List Party → List Party
without_goroutine g parties = filter (λ (p : Party). not (p.g == g)) parties

-- a party joins those at a declaration at their end
abbrev pub joins : List (List Party) → ℕ → Party → List (List Party)
joins lists t p = set lists t (parties_at lists t ++ p ∷ [])

-- the mutex of a Cond
abbrev pub mutex_in : What → ℕ
mutex_in What.Timer = 0
mutex_in What.Ticker = 0
mutex_in (What.AfterFunc func) = 0
mutex_in (What.Chan cap) = 0
mutex_in What.Mutex = 0
mutex_in What.Wg = 0
mutex_in (What.Cond mutex) = mutex
mutex_in (What.Ctx parent form) = 0
mutex_in (What.Hook ctx func) = 0
mutex_in What.Error = 0
mutex_in What.Function = 0

abbrev pub mutex_at : Schedule → ℕ → ℕ
mutex_at m k = slice_index_or m.mutexes k 0

-- before the first entry: goroutine 1 is to be taken
abbrev pub first_schedule : Script → Schedule
first_schedule script = record {
  statuses = RunStatus.Queued ∷ [];
  run_queue = 1 ∷ [];
  receivers = replicate (length script.decls) [];
  senders = replicate (length script.decls) [];
  parks = 0;
  marks = [] ∷ [];
  mutexes = map (λ (d : Decl). mutex_in d.what) script.decls;
}

abbrev pub with_status : Schedule → ℕ → RunStatus → Schedule
with_status m g status = record m { statuses = change_numbered m.statuses g (λ _. status) }

-- the first of the run queue comes into a worker's hand
abbrev pub taken : Schedule → ℕ → Schedule
taken m g = record m { statuses = change_numbered m.statuses g (λ _. RunStatus.InHand); run_queue = drop 1 m.run_queue }

-- a count stands still at its greatest value
abbrev pub next_park : ℕ → ℕ
next_park parks = min (parks + 1) (2 ^ 64 - 1)

-- a goroutine waits
abbrev pub parked : Schedule → ℕ → Schedule
parked m g = record m { statuses = change_numbered m.statuses g (λ _. RunStatus.Parked m.parks); parks = next_park m.parks }

-- a party waits at an operation, behind those that wait there
abbrev pub waiting_at : Schedule → Party → CaseKind → Schedule
waiting_at m p (CaseKind.Recv o) = record m { receivers = joins m.receivers o p }
waiting_at m p (CaseKind.Send c v) = record m { senders = joins m.senders c p }

abbrev pub parked_at : Schedule → Party → CaseKind → Schedule
parked_at m p kind = waiting_at (parked m p.g) p kind

-- a goroutine at its case with this number
abbrev pub at_case : ℕ → ℕ → Party
at_case g case_no = record { g = g; case_no = case_no }

-- a goroutine waits at all cases of a choice, in their order, behind those that wait there, where the first case has the number k
abbrev pub waiting_at_cases : Schedule → ℕ → ℕ → List Case → Schedule
waiting_at_cases m g k [] = m
waiting_at_cases m g k (c ∷ cases) = waiting_at_cases (waiting_at m (at_case g k) c.kind) g (k + 1) cases

abbrev pub parked_cases : Schedule → ℕ → List Case → Schedule
parked_cases m g cases = waiting_at_cases (parked m g) g 1 cases

-- the object of an operation
abbrev pub object_of : CaseKind → ℕ
object_of (CaseKind.Recv o) = o
object_of (CaseKind.Send c v) = c

-- the ticket of a goroutine that is parked next
abbrev pub ticket_of : Schedule → ℕ → Ticket
ticket_of m g = record { g = g; turn = m.parks }

-- a goroutine that waited goes to the end of the run queue, and waits nowhere any more. There is no other way out of a parking
abbrev pub unparked : Schedule → ℕ → Schedule
unparked m g = record m {
  statuses = change_numbered m.statuses g (λ _. RunStatus.Queued);
  run_queue = m.run_queue ++ g ∷ [];
  receivers = map (without_goroutine g) m.receivers;
  senders = map (without_goroutine g) m.senders;
}

-- a new goroutine, with the next number, is to be taken
abbrev pub with_new : Schedule → Schedule
with_new m = record m {
  statuses = m.statuses ++ RunStatus.Queued ∷ [];
  run_queue = m.run_queue ++ (length m.statuses + 1) ∷ [];
  marks = m.marks ++ [] ∷ [];
}

-- a goroutine that goes on is queued where it was parked
abbrev pub gone_on : Schedule → ℕ → Bool → Schedule
gone_on m g true = unparked m g
gone_on m g false = m

-- ---- who was signalled at a Cond waits for its mutex

-- a goroutine leaves those at a declaration
abbrev pub leaves : List (List Party) → ℕ → ℕ → List (List Party)
leaves lists t g = set lists t (without_goroutine g (parties_at lists t))

-- a party stands in front of those at the end of a list that are later
abbrev pub in_place : (Party → Bool) → Party → List Party → List Party
in_place later p [] = p ∷ []
in_place later p (x ∷ xs) = cond (list_all later (x ∷ xs)) (p ∷ x ∷ xs) (x ∷ in_place later p xs)

abbrev pub takes_place : (Party → Bool) → List (List Party) → ℕ → Party → List (List Party)
takes_place later lists t p = set lists t (in_place later p (parties_at lists t))

-- a party was parked later than goroutine g
abbrev pub is_later : Schedule → ℕ → Party → Bool
is_later m g q = nat_lt (since_of m g) (since_of m q.g)

-- A goroutine leaves those at a Cond, and takes its place among those that were signalled for the mutex, by when it was parked. They stand where senders do, since nobody
-- sends to a mutex: so those that came to lock it need not be passed over
abbrev pub relocked : Schedule → ℕ → ℕ → Schedule
relocked m g k = record m { receivers = leaves m.receivers k g; senders = takes_place (is_later m g) m.senders (mutex_at m k) (plainly g) }

-- so do the goroutines of parties, one after the other
abbrev pub each_relocked : Schedule → ℕ → List Party → Schedule
each_relocked m k [] = m
each_relocked m k (p ∷ ps) = each_relocked (relocked m p.g k) k ps

-- so do all that wait at a Cond
abbrev pub all_relocked : Schedule → ℕ → Schedule
all_relocked m k = each_relocked m k (parties_at m.receivers k)

-- who waits at a Cond stands behind those that wait there
abbrev pub turned : Schedule → ℕ → Move → Schedule
turned m g (Move.GoesOn case_no) = gone_on m g (is_parked (status_of m g))
turned m g (Move.FallsAsleep until) = parked m g
turned m g (Move.Suspends k) = parked_at m (plainly g) (CaseKind.Recv k)
turned m g (Move.Relocks k) = relocked m g k
turned m g Move.Ends = with_status m g RunStatus.Ended
turned m g Move.Panics = m

abbrev pub moved_by : Schedule → Option (ℕ × Move) → Schedule
moved_by m None = m
moved_by m (Some x) = turned m x.0 x.1

abbrev pub signalled_by : Schedule → Option ℕ → Schedule
signalled_by m None = m
signalled_by m (Some k) = all_relocked m k

abbrev pub begun_by : Schedule → List Start → Schedule
begun_by m [] = m
begun_by m (x ∷ xs) = begun_by (with_new m) xs

-- what a change does to the schedule
abbrev pub rescheduled : Schedule → Change → Schedule
rescheduled m c = begun_by (signalled_by (moved_by (moved_by m c.mover) c.partner) c.broadcast) c.starts

-- what an entry does to the schedule
abbrev pub scheduled : Schedule → Entry → Schedule
scheduled m e = rescheduled m (change_of e)

abbrev pub schedule_after : Schedule → List Entry → Schedule
schedule_after m [] = m
schedule_after m (e ∷ h) = schedule_after (scheduled m e) h

-- where a goroutine has to be that moves: in hand, or parked where it goes on or panics; who is signalled is parked
abbrev pub MayMove : Option RunStatus → Move → Type 0
MayMove status (Move.GoesOn case_no) = IsTrue (is_in_hand status || is_parked status)
MayMove status (Move.FallsAsleep until) = status ≡ Some RunStatus.InHand
MayMove status (Move.Suspends k) = status ≡ Some RunStatus.InHand
MayMove status (Move.Relocks k) = IsTrue (is_parked status)
MayMove status Move.Ends = status ≡ Some RunStatus.InHand
MayMove status Move.Panics = IsTrue (is_in_hand status || is_parked status)

abbrev pub ServedBy : Schedule → Option (ℕ × Move) → Type 0
ServedBy m None = Unit {0}
ServedBy m (Some x) = MayMove (status_of m x.0) x.1

-- who makes an entry is in hand, or waits for it, and so is the other one of two; timers and clocks are nobody's
abbrev pub ServedIn : Schedule → Change → Type 0
ServedIn m c = ServedBy m c.mover × ServedBy (moved_by m c.mover) c.partner

abbrev pub Served : Schedule → Entry → Type 0
Served m e = ServedIn m (change_of e)

-- a Cond and its mutex are declared
pub record IsCondAt (m : Schedule) (k : ℕ) : Type 0 where
  pub declared : k < length m.receivers
  pub mutex_declared : mutex_at m k < length m.senders

-- who waits at a Cond and is signalled stands there at its plain instruction
abbrev pub StandsAt : Schedule → ℕ → ℕ → Type 0
StandsAt m g k = 0 < often (plainly g) (parties_at m.receivers k)

abbrev pub ArePlain : List Party → Type 0
ArePlain parties = (p : Party) → 0 < often p parties → p.case_no ≡ 0

-- what the lists need of a move, and of a broadcast
abbrev pub HasLists : Schedule → ℕ → Move → Type 0
HasLists m g (Move.GoesOn case_no) = Unit {0}
HasLists m g (Move.FallsAsleep until) = Unit {0}
HasLists m g (Move.Suspends k) = k < length m.receivers
HasLists m g (Move.Relocks k) = IsCondAt m k × StandsAt m g k
HasLists m g Move.Ends = Unit {0}
HasLists m g Move.Panics = Unit {0}

abbrev pub HasListsBy : Schedule → Option (ℕ × Move) → Type 0
HasListsBy m None = Unit {0}
HasListsBy m (Some x) = HasLists m x.0 x.1

abbrev pub HasListsAt : Schedule → Option ℕ → Type 0
HasListsAt m None = Unit {0}
HasListsAt m (Some k) = IsCondAt m k × ArePlain (parties_at m.receivers k)

abbrev pub HasListsIn : Schedule → Change → Type 0
HasListsIn m c = HasListsBy m c.mover × HasListsBy (moved_by m c.mover) c.partner × HasListsAt (moved_by (moved_by m c.mover) c.partner) c.broadcast

-- the run queue has exactly those that are queued, each once
abbrev pub RunsQueued : Schedule → Type 0
RunsQueued m = (g : ℕ) → times g m.run_queue ≡ as_number (is_queued (status_of m g))

-- who stands in a list is parked
abbrev pub AreParked : Schedule → List (List Party) → Type 0
AreParked m lists = (t : ℕ) (p : Party) → is_parked (status_of m p.g) ≡ false → often p (parties_at lists t) ≡ 0
