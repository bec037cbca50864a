-- What each section makes of the parts that it is lent, and what it answers.
use Rattle.std.specs.Prelude.{ℕ, zero, suc, ◌+◌, ◌-◌, ◌≡◌, cond, if◌then◌else◌, nat_lt, Bool, true, false, ◌&&◌, is_some, MatchOption, length, slice_get}
use Rattle.std.specs.declared.option.Option.{Option}
use Rattle.std.specs.declared.option.Option.TheVariants.{None, Some}
use Rattle.gt_model.specs.declared.script.Instr.{Instr}
use Rattle.gt_model.specs.declared.entry.Entry.{Entry}
use Rattle.gt_model.specs.declared.entry.Party.{Party}
use Rattle.gt_model.specs.declared.entry.Outcome.{Outcome}
use Rattle.gt_rules.specs.State.{clock, clock_of, stands_at, next_number, has_ended}
use Rattle.gt_rules.specs.Contexts.{start_count}
use Rattle.gt_rules.specs.Legal.{due_at}
use Rattle.gt_rules.specs.After.{new_period}
use Rattle.gt_rules.specs.Operations.{offers, polls, receives_from}
use Rattle.gt_rec.specs.declared.RecKind.{RecKind}
use Rattle.gt_rec.specs.Rec.{Rec, shown, needs_heap, is_awaited}
use Rattle.gt_rec.specs.Changes.{armed, disarmed, ended, received, taken, more_blocked, less_blocked}
use Rattle.gt_lazy.specs.Slots.{LazyHeap, Scans}
use Rattle.gt_lazy.specs.Running.{head_answer, head_run}
use Rattle.gt_lazy.specs.declared.answer.Ran.{Ran}
use Rattle.gt_schedule.specs.Schedule.{parties_at, marked, unmarked, IsLive}
use Rattle.gt_schedule.specs.declared.status.Ticket.{Ticket}
use Rattle.gt_book.specs.declared.answers.TimerOp.{TimerOp}
use Rattle.gt_book.specs.declared.step.Step.{Step}
use Rattle.gt_book.specs.Steps.{set_entry, step_of, step_of_instr}
use Rattle.gt_book.specs.View.{BookView, Enters, outcome_of, receiver_of, with_schedule}
use Rattle.gt_rows.specs.declared.answers.SetDone.{SetDone}
use Rattle.gt_rows.specs.declared.answers.StopDone.{StopDone}
use Rattle.gt_rows.specs.declared.answers.PollDone.{PollDone}
use Rattle.gt_rows.specs.declared.answers.BlockDone.{BlockDone}
use Rattle.gt_rows.specs.declared.answers.Delivered.{Delivered}
use Rattle.gt_rows.specs.declared.answers.HeadDone.{HeadDone}
use Rattle.gt_rows.specs.Lent.{joins, Settles}

-- a record and the book, as a section is lent them without a heap
pub record Pair : Type 0 where
  pub rec : Rec
  pub book : BookView

-- the same with the caller's heap
pub record Parts : Type 0 where
  pub heap : LazyHeap
  pub rec : Rec
  pub book : BookView

-- where the run has its outcome nothing changes, and the answer says it
abbrev pub UnlessOver : {Done : Type 0} → BookView → (Outcome → Done) → Done → Type 0 → Type 0 → Type 0
UnlessOver b over reply Same Row = MatchOption (outcome_of b) Row (λ outcome. (reply ≡ over outcome) × Same)

-- the answer of a section that entered: the run's outcome where it has one then
abbrev pub Answers : {Done : Type 0} → BookView → (Outcome → Done) → Done → Done → Type 0
Answers b over reply answer = MatchOption (outcome_of b) (reply ≡ answer) (λ outcome. reply ≡ over outcome)

-- what ending a setting, or renewing it, answers by a record: whether it was set; nothing of a ticker
abbrev pub answer_of : Rec → Option Bool
answer_of r = elim r.kind [ RecKind.Ticker ↦ None | _ ↦ Some (is_some (shown r)) ]

-- what a goroutine does next
abbrev pub next_of : BookView → ℕ → Option Step
next_of b g = step_of b.script b.state b.schedule g

-- ---- setting a timer, and falling asleep

-- the timer that a step asks to set
abbrev pub sets : Step → Option ℕ
sets (Step.Needs (TimerOp.Set t d anew)) = Some t
sets _ = None

-- a goroutine stands at an instruction that sets this timer, unless it panics
abbrev pub SetsAt : BookView → ℕ → ℕ → Type 0
SetsAt b g t = elim (stands_at b.script b.state g) [ None ↦ ⊥ | Some i ↦ sets (step_of_instr b.script b.state b.schedule g i) ≡ Some t ]

-- the heap that has to be told of a due time, where it has the record under a later one
abbrev pub note_of : Rec → ℕ → ℕ → Option ℕ
note_of r due period = elim r.heaped [ None ↦ None | Some q ↦ cond (needs_heap (armed r due period) && nat_lt due r.key) (Some q) None ]

abbrev pub told_answer : ℕ → Option ℕ → SetDone
told_answer due None = SetDone.Done
told_answer due (Some q) = SetDone.Note q due

abbrev pub set_answer : Rec → ℕ → ℕ → SetDone
set_answer r due period = cond (joins (armed r due period)) (SetDone.Lower due) (told_answer due (note_of r due period))

-- a new setting with its entry: the record is armed, and joins the heap where it needs one and is in none
pub record Arms (old : Parts) (e : Entry) (due period : ℕ) (new : Parts) (reply : SetDone) : Type 0 where
  pub entered : Enters old.book e new.book
  pub place : Settles old.heap (armed old.rec due period) new.heap new.rec (joins (armed old.rec due period))
  pub answer : Answers new.book SetDone.Over reply (set_answer old.rec due period)

-- an entry that touches neither record nor heap
pub record OnlyEnters (old : Parts) (e : Entry) (new : Parts) (reply : SetDone) : Type 0 where
  pub entered : Enters old.book e new.book
  pub heap : new.heap ≡ old.heap
  pub rec : new.rec ≡ old.rec
  pub answer : Answers new.book SetDone.Over reply SetDone.Done

abbrev pub SetsBy : Parts → ℕ → Parts → SetDone → Option Step → Type 0
SetsBy old g new reply (Some (Step.Needs (TimerOp.Set t d anew))) =
    let due : ℕ = due_at (clock_of old.book.state g) d
    in Arms old (set_entry g t anew (answer_of old.rec) due) due (new_period old.book.script old.book.state g t) new reply
SetsBy old g new reply (Some (Step.Makes e)) = OnlyEnters old e new reply
SetsBy old g new reply (Some (Step.Needs (TimerOp.Stop t))) = ⊥
SetsBy old g new reply (Some (Step.Needs (TimerOp.Enrolled ticket))) = ⊥
SetsBy old g new reply (Some (Step.Needs (TimerOp.Sleep d))) = ⊥
SetsBy old g new reply (Some (Step.Waits t)) = ⊥
SetsBy old g new reply (Some (Step.Parks kind)) = ⊥
SetsBy old g new reply (Some (Step.Chooses timed)) = ⊥
SetsBy old g new reply (Some (Step.Broadcasts k)) = ⊥
SetsBy old g new reply (Some (Step.Cancels x)) = ⊥
SetsBy old g new reply (Some (Step.Needs (TimerOp.Deadline x due))) = ⊥
SetsBy old g new reply (Some (Step.Needs (TimerOp.Poll t))) = ⊥
SetsBy old g new reply (Some Step.Nowhere) = ⊥
SetsBy old g new reply None = ⊥

-- the setting of a timer by g, or its panic
abbrev pub SetRow : Parts → ℕ → Parts → SetDone → Type 0
SetRow old g new reply = UnlessOver old.book SetDone.Over reply (new ≡ old) (SetsBy old g new reply (next_of old.book g))

-- whether an instruction sleeps for a while
abbrev pub sleeps : Instr → Bool
sleeps (Instr.Sleep zero) = false
sleeps (Instr.Sleep (suc d)) = true
sleeps _ = false

-- a goroutine stands at a `sleep` of some time, and the record is that of its sleep
abbrev pub StandsAtSleep : BookView → ℕ → Type 0
StandsAtSleep b g = elim (stands_at b.script b.state g) [ None ↦ ⊥ | Some i ↦ sleeps i ≡ true ]

pub record SleepsAt (b : BookView) (g id : ℕ) : Type 0 where
  pub stands : StandsAtSleep b g
  pub its : id ≡ length b.script.decls + g

abbrev pub SleepsBy : Parts → ℕ → Parts → SetDone → Option Step → Type 0
SleepsBy old g new reply (Some (Step.Needs (TimerOp.Sleep d))) =
    let until : ℕ = due_at (clock_of old.book.state g) d in Arms old (Entry.Sleep g (Some until)) until 0 new reply
SleepsBy old g new reply (Some (Step.Needs (TimerOp.Set t d anew))) = ⊥
SleepsBy old g new reply (Some (Step.Needs (TimerOp.Stop t))) = ⊥
SleepsBy old g new reply (Some (Step.Needs (TimerOp.Enrolled ticket))) = ⊥
SleepsBy old g new reply (Some (Step.Makes e)) = ⊥
SleepsBy old g new reply (Some (Step.Waits t)) = ⊥
SleepsBy old g new reply (Some (Step.Parks kind)) = ⊥
SleepsBy old g new reply (Some (Step.Chooses timed)) = ⊥
SleepsBy old g new reply (Some (Step.Broadcasts k)) = ⊥
SleepsBy old g new reply (Some (Step.Cancels x)) = ⊥
SleepsBy old g new reply (Some (Step.Needs (TimerOp.Deadline x due))) = ⊥
SleepsBy old g new reply (Some (Step.Needs (TimerOp.Poll t))) = ⊥
SleepsBy old g new reply (Some Step.Nowhere) = ⊥
SleepsBy old g new reply None = ⊥

abbrev pub SleepRow : Parts → ℕ → Parts → SetDone → Type 0
SleepRow old g new reply = UnlessOver old.book SetDone.Over reply (new ≡ old) (SleepsBy old g new reply (next_of old.book g))

-- ---- making a context with a deadline

-- the context that an instruction makes
abbrev pub derives : Instr → Option ℕ
derives (Instr.With x) = Some x
derives _ = None

-- a goroutine stands at a `with` of this context
abbrev pub DerivesAt : BookView → ℕ → ℕ → Type 0
DerivesAt b g x = elim (stands_at b.script b.state g) [ None ↦ ⊥ | Some i ↦ derives i ≡ Some x ]

abbrev pub DerivesBy : Parts → ℕ → Parts → SetDone → Option Step → Type 0
DerivesBy old g new reply (Some (Step.Needs (TimerOp.Deadline x due))) = Arms old (Entry.CtxMake g x false) due 0 new reply
DerivesBy old g new reply (Some (Step.Makes e)) = OnlyEnters old e new reply
DerivesBy old g new reply (Some (Step.Needs (TimerOp.Set t d anew))) = ⊥
DerivesBy old g new reply (Some (Step.Needs (TimerOp.Stop t))) = ⊥
DerivesBy old g new reply (Some (Step.Needs (TimerOp.Enrolled ticket))) = ⊥
DerivesBy old g new reply (Some (Step.Needs (TimerOp.Sleep d))) = ⊥
DerivesBy old g new reply (Some (Step.Needs (TimerOp.Poll t))) = ⊥
DerivesBy old g new reply (Some (Step.Waits t)) = ⊥
DerivesBy old g new reply (Some (Step.Parks kind)) = ⊥
DerivesBy old g new reply (Some (Step.Chooses timed)) = ⊥
DerivesBy old g new reply (Some (Step.Broadcasts k)) = ⊥
DerivesBy old g new reply (Some (Step.Cancels x)) = ⊥
DerivesBy old g new reply (Some Step.Nowhere) = ⊥
DerivesBy old g new reply None = ⊥

-- the making of a context by g, or its panic
abbrev pub DeriveRow : Parts → ℕ → Parts → SetDone → Type 0
DeriveRow old g new reply = UnlessOver old.book SetDone.Over reply (new ≡ old) (DerivesBy old g new reply (next_of old.book g))

-- the record of a context's deadline is set no more
abbrev pub DropRow : Rec → Rec → Type 0
DropRow old new = new ≡ disarmed old

-- ---- stopping a timer

-- the timer that an instruction stops
abbrev pub stops : Instr → Option ℕ
stops (Instr.Stop t) = Some t
stops _ = None

-- a goroutine stands at a `stop` of this timer
abbrev pub StopsAt : BookView → ℕ → ℕ → Type 0
StopsAt b g t = elim (stands_at b.script b.state g) [ None ↦ ⊥ | Some i ↦ stops i ≡ Some t ]

-- an entry, with what becomes of the record
pub record Stops (old : Pair) (e : Entry) (r : Rec) (new : Pair) (reply : StopDone) : Type 0 where
  pub entered : Enters old.book e new.book
  pub rec : new.rec ≡ r
  pub answer : Answers new.book StopDone.Over reply StopDone.Done

abbrev pub StopsBy : Pair → ℕ → Pair → StopDone → Option Step → Type 0
StopsBy old g new reply (Some (Step.Needs (TimerOp.Stop t))) = Stops old (Entry.Stop g t (answer_of old.rec)) (disarmed old.rec) new reply
StopsBy old g new reply (Some (Step.Makes e)) = Stops old e old.rec new reply
StopsBy old g new reply (Some (Step.Needs (TimerOp.Set t d anew))) = ⊥
StopsBy old g new reply (Some (Step.Needs (TimerOp.Enrolled ticket))) = ⊥
StopsBy old g new reply (Some (Step.Needs (TimerOp.Sleep d))) = ⊥
StopsBy old g new reply (Some (Step.Waits t)) = ⊥
StopsBy old g new reply (Some (Step.Parks kind)) = ⊥
StopsBy old g new reply (Some (Step.Chooses timed)) = ⊥
StopsBy old g new reply (Some (Step.Broadcasts k)) = ⊥
StopsBy old g new reply (Some (Step.Cancels x)) = ⊥
StopsBy old g new reply (Some (Step.Needs (TimerOp.Deadline x due))) = ⊥
StopsBy old g new reply (Some (Step.Needs (TimerOp.Poll t))) = ⊥
StopsBy old g new reply (Some Step.Nowhere) = ⊥
StopsBy old g new reply None = ⊥

-- `stop` of g, or its panic
abbrev pub StopRow : Pair → ℕ → Pair → StopDone → Type 0
StopRow old g new reply = UnlessOver old.book StopDone.Over reply (new ≡ old) (StopsBy old g new reply (next_of old.book g))

-- ---- a choice with a default, one of whose cases receives from a timer

-- an entry, with what becomes of the record
pub record Polls (old : Pair) (e : Entry) (r : Rec) (new : Pair) (reply fine : PollDone) : Type 0 where
  pub entered : Enters old.book e new.book
  pub rec : new.rec ≡ r
  pub answer : Answers new.book PollDone.Over reply fine

-- by what a receive would take
abbrev pub PollsFor : Pair → ℕ → Pair → PollDone → Option (ℕ × Option ℕ) → Type 0
PollsFor old g new reply (Some got) =
    Polls old (Entry.TRecv (receiver_of old.book.script old.book.state g old.rec.id) old.rec.id got.0 got.1) (taken old.rec got.1) new reply PollDone.Received
PollsFor old g new reply None = ⊥

-- the timer's value is received exactly where its case is the one with the lowest number that can go on
abbrev pub PollsBy : Pair → ℕ → Pair → PollDone → Option Step → Type 0
PollsBy old g new reply (Some (Step.Needs (TimerOp.Poll t))) = PollsFor old g new reply (received old.rec (clock old.book.state 0))
PollsBy old g new reply (Some (Step.Makes e)) = Polls old e old.rec new reply PollDone.Other
PollsBy old g new reply (Some (Step.Needs (TimerOp.Set t d anew))) = ⊥
PollsBy old g new reply (Some (Step.Needs (TimerOp.Stop t))) = ⊥
PollsBy old g new reply (Some (Step.Needs (TimerOp.Enrolled ticket))) = ⊥
PollsBy old g new reply (Some (Step.Needs (TimerOp.Sleep d))) = ⊥
PollsBy old g new reply (Some (Step.Waits t)) = ⊥
PollsBy old g new reply (Some (Step.Parks kind)) = ⊥
PollsBy old g new reply (Some (Step.Chooses timed)) = ⊥
PollsBy old g new reply (Some (Step.Broadcasts k)) = ⊥
PollsBy old g new reply (Some (Step.Cancels x)) = ⊥
PollsBy old g new reply (Some (Step.Needs (TimerOp.Deadline x due))) = ⊥
PollsBy old g new reply (Some Step.Nowhere) = ⊥
PollsBy old g new reply None = ⊥

abbrev pub PollRow : Pair → ℕ → Pair → PollDone → Type 0
PollRow old g new reply = UnlessOver old.book PollDone.Over reply (new ≡ old) (PollsBy old g new reply (next_of old.book g))

-- whether an instruction is a choice with a default that receives from this timer
abbrev pub polls_for : ℕ → Instr → Bool
polls_for t i = polls i && offers (receives_from t) i

-- a goroutine stands at such a choice
abbrev pub PollsAt : BookView → ℕ → ℕ → Type 0
PollsAt b g t = elim (stands_at b.script b.state g) [ None ↦ ⊥ | Some i ↦ polls_for t i ≡ true ]

-- ---- waiting at a timer

-- the due time under which a record joins the heap, where it does
abbrev pub lower_of : Rec → Option ℕ
lower_of r = cond (joins r) r.when None

-- the goroutine receives at once
pub record ReceivesAtOnce (old : Parts) (g due : ℕ) (next : Option ℕ) (new : Parts) (reply : BlockDone) : Type 0 where
  pub entered : Enters old.book (Entry.TRecv (receiver_of old.book.script old.book.state g old.rec.id) old.rec.id due next) new.book
  pub rec : new.rec ≡ taken old.rec next
  pub heap : new.heap ≡ old.heap
  pub answer : Answers new.book BlockDone.Over reply BlockDone.Received

-- the goroutine is counted among those that wait at the timer, and has its mark
pub record Blocks (old : Parts) (g : ℕ) (new : Parts) (reply : BlockDone) : Type 0 where
  pub book : new.book ≡ with_schedule old.book (marked old.book.schedule g old.rec.id)
  pub place : Settles old.heap (more_blocked old.rec) new.heap new.rec (joins (more_blocked old.rec))
  pub answer : reply ≡ BlockDone.Blocked (lower_of (more_blocked old.rec))

abbrev pub BlocksBy : Parts → ℕ → Parts → BlockDone → Option (ℕ × Option ℕ) → Type 0
BlocksBy old g new reply (Some got) = ReceivesAtOnce old g got.0 got.1 new reply
BlocksBy old g new reply None = Blocks old g new reply

pub record BlockCases (old : Parts) (ticket : Ticket) (new : Parts) (reply : BlockDone) : Type 0 where
  pub live : IsLive old.book.schedule ticket → BlocksBy old ticket.g new reply (received old.rec (clock old.book.state 0))
  pub gone : ¬ IsLive old.book.schedule ticket → (reply ≡ BlockDone.Gone) × (new ≡ old)

-- a goroutine that was parked with this ticket, and whose record this is
abbrev pub BlockRow : Parts → Ticket → Parts → BlockDone → Type 0
BlockRow old ticket new reply = UnlessOver old.book BlockDone.Over reply (new ≡ old) (BlockCases old ticket new reply)

-- a mark is taken away, and one goroutine fewer is counted
abbrev pub UnblockRow : Pair → ℕ → Pair → Type 0
UnblockRow old g new =
    (new.book ≡ with_schedule old.book (unmarked old.book.schedule g old.rec.id))
    × (new.rec ≡ (if nat_lt 0 old.rec.blocked then less_blocked old.rec else old.rec))

-- ---- the end of a send

-- somebody waits, and receives the value that was sent
pub record Gives (old : Pair) (r : Rec) (p : Party) (due : ℕ) (next : Option ℕ) (new : Pair) (reply : Delivered) : Type 0 where
  pub entered : Enters old.book (Entry.TRecv p r.id due next) new.book
  pub rec : new.rec ≡ taken r next
  pub answer : Answers new.book Delivered.Over reply (Delivered.Given p)

-- the value stands ready
pub record StaysReady (old : Pair) (r : Rec) (new : Pair) (reply : Delivered) : Type 0 where
  pub book : new.book ≡ old.book
  pub rec : new.rec ≡ r
  pub answer : reply ≡ Delivered.Kept

-- by the party that waits longest there, and by what a receive would take at this clock
abbrev pub DeliversTo : Pair → Rec → Pair → Delivered → Option Party → Option (ℕ × Option ℕ) → Type 0
DeliversTo old r new reply (Some p) (Some got) = Gives old r p got.0 got.1 new reply
DeliversTo old r new reply (Some p) None = StaysReady old r new reply
DeliversTo old r new reply None o = StaysReady old r new reply

-- by whether the send of this number may still bring its value
abbrev pub DeliversBy : Pair → ℕ → Pair → Delivered → Bool → Type 0
DeliversBy old seq new reply true =
    DeliversTo old (ended old.rec seq) new reply (slice_get (parties_at old.book.schedule.receivers old.rec.id) 0)
    (received (ended old.rec seq) (clock old.book.state 0))
DeliversBy old seq new reply false = (reply ≡ Delivered.Dropped) × (new ≡ old)

abbrev pub DeliverRow : Pair → ℕ → Pair → Delivered → Type 0
DeliverRow old seq new reply = UnlessOver old.book Delivered.Over reply (new ≡ old) (DeliversBy old seq new reply (is_awaited old.rec seq))

-- ---- the head of a heap

-- record and heap are those after the head was run or cleaned, and the book is as it was
pub record Runs (old new : Parts) (reply came : HeadDone) : Type 0 where
  pub book : new.book ≡ old.book
  pub rec : new.rec ≡ head_run old.rec (clock old.book.state 0)
  pub scans : Scans old.heap new.heap 0 old.rec new.rec
  pub answer : reply ≡ came

-- the same with an entry
pub record Fires (old : Parts) (e : Entry) (new : Parts) (reply : HeadDone) : Type 0 where
  pub entered : Enters old.book e new.book
  pub rec : new.rec ≡ head_run old.rec (clock old.book.state 0)
  pub scans : Scans old.heap new.heap 0 old.rec new.rec
  pub answer : Answers new.book HeadDone.Over reply HeadDone.Fired

-- a deadline that has come ends its context, unless that has ended
abbrev pub ExpiresBy : Parts → Parts → HeadDone → Bool → Type 0
ExpiresBy old new reply true = Runs old new reply HeadDone.Gone
ExpiresBy old new reply false = Fires old (Entry.Expire old.rec.id (start_count old.book.script old.book.state old.rec.id)) new reply

-- what fired, by its kind
abbrev pub FiresAs : Parts → ℕ → Parts → HeadDone → RecKind → Type 0
FiresAs old seq new reply RecKind.Timer = Runs old new reply (HeadDone.Send seq)
FiresAs old seq new reply RecKind.Ticker = Runs old new reply (HeadDone.Send seq)
FiresAs old seq new reply RecKind.Func = Fires old (Entry.FireFunc old.rec.id (next_number old.book.state)) new reply
FiresAs old seq new reply RecKind.Sleep = Fires old (Entry.Wake (old.rec.id - length old.book.script.decls)) new reply
FiresAs old seq new reply RecKind.Deadline = ExpiresBy old new reply (has_ended old.book.state old.rec.id)

-- what came of the head, by what running it answers
abbrev pub HeadBy : Parts → Parts → HeadDone → Ran → Type 0
HeadBy old new reply (Ran.NotDue key) = (reply ≡ HeadDone.Later key) × (new ≡ old)
HeadBy old new reply Ran.Stale = Runs old new reply HeadDone.Stale
HeadBy old new reply Ran.Dropped = Runs old new reply HeadDone.Dropped
HeadBy old new reply (Ran.Fired due seq next) = FiresAs old seq new reply old.rec.kind

abbrev pub HeadRow : Parts → Parts → HeadDone → Type 0
HeadRow old new reply = UnlessOver old.book HeadDone.Over reply (new ≡ old) (HeadBy old new reply (head_answer old.rec (clock old.book.state 0)))
