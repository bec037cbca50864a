-- What a whole call of a goroutine in hand needs, and what it leaves.
use Rattle.std.specs.Prelude.{ℕ, ◌≡◌, ◌⊎◌, Bool, true, false, List, [], ◌∷◌, ◌++◌, length, slice_get}
use Rattle.std.specs.declared.option.Option.{Option}
use Rattle.std.specs.declared.option.Option.TheVariants.{None, Some}
use Rattle.gt_model.specs.declared.entry.Entry.{Entry}
use Rattle.gt_model.specs.declared.entry.Party.{Party}
use Rattle.gt_model.specs.Tables.{numbered}
use Rattle.gt_model.specs.declared.script.Instr.{Instr}
use Rattle.gt_rules.specs.State.{stands_at}
use Rattle.gt_rec.specs.Rec.{Rec}
use Rattle.gt_schedule.specs.declared.status.Ticket.{Ticket}
use Rattle.gt_schedule.specs.Schedule.{marked, IsLive}
use Rattle.gt_book.specs.declared.step.Step.{Step}
use Rattle.gt_book.specs.declared.answers.TimerOp.{TimerOp}
use Rattle.gt_book.specs.View.{BookView, Enters, IsLawful, outcome_of, receiver_of, with_schedule}
use Rattle.gt_rows.specs.Rows.{next_of}
use Rattle.gt_runner.specs.declared.runner.Runner.{Runner}
use Rattle.gt_runner.specs.Run.{IsAlone, Goes}
use Rattle.gt_runner.specs.Served.{IsWatched, IsServed, IsServedBut, awaited_by}
use Rattle.gt_runner.specs.Serves.{ButMarks}

-- a record of the run that is watched
pub record HasRecord (x : Runner) (id : ℕ) : Type 0 where
  pub rec : Rec
  pub there : slice_get x.records.items id ≡ Some rec
  pub id_is : rec.id ≡ id
  pub watched : IsWatched x.book x.heap x.noted rec

-- what a whole call leaves
pub record After (x x' : Runner) (g : ℕ) : Type 0 where
  pub goes : Goes g x.book x'.book
  pub served : IsServed x'

-- a run in which g may make its call
pub record Ready (x : Runner) (g : ℕ) : Type 0 where
  pub served : IsServed x
  pub lawful : IsLawful x.book
  pub marks : length x.book.schedule.marks ≡ length x.book.schedule.statuses
  pub alone : IsAlone x.book g
  pub running : outcome_of x.book ≡ None

-- g wants to set timer t
pub record WantsSet (b : BookView) (g t : ℕ) : Type 0 where
  pub d : ℕ
  pub anew : Bool
  pub wants : next_of b g ≡ Some (Step.Needs (TimerOp.Set t d anew))

-- A run in which the goroutine of a ticket was parked among these timers: it is counted at those that are done, in their order, and not at those that are left
pub record IsCounting (x : Runner) (ticket : Ticket) (done left : List ℕ) : Type 0 where
  pub but : IsServedBut x ticket.g
  pub lawful : IsLawful x.book
  pub marks_many : length x.book.schedule.marks ≡ length x.book.schedule.statuses
  pub live : IsLive x.book.schedule ticket
  pub running : outcome_of x.book ≡ None
  pub instr : Instr
  pub stands : stands_at x.book.script x.book.state ticket.g ≡ Some instr
  pub awaits : awaited_by x.book.script x.book.state ticket.g ≡ done ++ left
  pub marked : numbered x.book.schedule.marks ticket.g ≡ Some done

-- timer t is the next at which it has to be counted
pub record IsEnrolled (x : Runner) (ticket : Ticket) (t : ℕ) : Type 0 where
  pub done : List ℕ
  pub left : List ℕ
  pub counting : IsCounting x ticket done (t ∷ left)

-- it is counted there
pub record IsCounted (x x' : Runner) (g t : ℕ) : Type 0 where
  pub book_is : x'.book ≡ with_schedule x.book (marked x.book.schedule g t)
  pub but : IsServedBut x' g

-- it has received
pub record HasReceived (x x' : Runner) (g t : ℕ) : Type 0 where
  pub due : ℕ
  pub next : Option ℕ
  pub entered : Enters x.book (Entry.TRecv (receiver_of x.book.script x.book.state g t) t due next) x'.book
  pub served : IsServed x'

-- by whether it waits still
abbrev pub Enrols : Runner → Runner → ℕ → ℕ → Bool → Type 0
Enrols x x' g t true = IsCounted x x' g t
Enrols x x' g t false = HasReceived x x' g t

-- it is counted at no timer yet
abbrev pub IsUncounted : Runner → Ticket → Type 0
IsUncounted x ticket = IsCounting x ticket [] (awaited_by x.book.script x.book.state ticket.g)

-- an entry of a party after marks alone may have changed
pub record ReceivesAfter (old new : BookView) : Type 0 where
  pub mid : BookView
  pub party : Party
  pub timer : ℕ
  pub due : ℕ
  pub next : Option ℕ
  pub marks : ButMarks old mid
  pub entered : Enters mid (Entry.TRecv party timer due next) new

-- the goroutine is counted at each timer where it waits, or has received from one of them
pub record EnrolsAll (x x' : Runner) : Type 0 where
  pub does : ButMarks x.book x'.book ⊎ ReceivesAfter x.book x'.book
  pub served : IsServed x'

-- other records may have been added
pub record Grows (x x' : Runner) : Type 0 where
  pub book_is : x'.book ≡ x.book
  pub heap_is : x'.heap ≡ x.heap
  pub noted_is : x'.noted ≡ x.noted

-- g wants to sleep for a while
abbrev pub IsSleep : BookView → ℕ → Type 0
IsSleep b g = (d : ℕ) × (next_of b g ≡ Some (Step.Needs (TimerOp.Sleep d)))

-- g wants to make context x, whose own deadline is to come
abbrev pub IsDerive : BookView → ℕ → ℕ → Type 0
IsDerive b g x = (due : ℕ) × (next_of b g ≡ Some (Step.Needs (TimerOp.Deadline x due)))
