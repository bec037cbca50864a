-- What a run on one worker keeps between two whole calls: its records and its heap agree with the book.
use Rattle.std.specs.Prelude.{ℕ, ◌+◌, ◌<◌, ◌≤◌, ◌≡◌, ◌≢◌, min, nat_lt, cond, ◌&&◌, true, Bool, List, [], ◌∷◌, length, map, slice_get, count_by, is_some, IsSome, IsSomeAnd}
use Rattle.std.specs.declared.option.Option.{Option}
use Rattle.std.specs.declared.option.Option.TheVariants.{None, Some}
use Rattle.gt_model.specs.declared.script.Script.{Script}
use Rattle.gt_model.specs.declared.script.Instr.{Instr}
use Rattle.gt_model.specs.declared.script.Case.{Case}
use Rattle.gt_model.specs.declared.script.CaseKind.{CaseKind}
use Rattle.std.specs.List.{filter_map}
use Rattle.gt_rules.specs.State.{State, stands_at}
use Rattle.gt_rec.specs.declared.RecKind.{RecKind}
use Rattle.gt_rec.specs.Rec.{Rec, needs_heap, has_channel}
use Rattle.gt_lazy.specs.Slots.{LazyHeap, slot_with}
use Rattle.gt_model.specs.Script.{is_timer}
use Rattle.gt_schedule.specs.Counts.{times}
use Rattle.gt_schedule.specs.declared.status.RunStatus.{RunStatus}
use Rattle.gt_schedule.specs.Schedule.{Schedule, status_of, marks_at, mark_count, most_goroutines}
use Rattle.gt_book.specs.Steps.{timer_of}
use Rattle.gt_book.specs.View.{BookView}
use Rattle.gt_rows.specs.Agrees.{kind_by, due_by}
use Rattle.gt_rows.specs.Lent.{IsKept}
use Rattle.gt_runner.specs.declared.runner.Runner.{Runner}

-- ---- one record

-- a record agrees with the book and the heap, stands in the heap where it needs one, and has no value between two calls
pub record IsWatched (b : BookView) (h : LazyHeap) (noted : Option ℕ) (r : Rec) : Type 0 where
  pub kept : IsKept b h r
  pub inside : IsSome r.heaped → r.heaped ≡ Some h.number
  pub heaped : needs_heap r ≡ true → IsSome r.heaped
  -- where it is due before its key, that was noted
  pub early : needs_heap r ≡ true → (w : ℕ) → r.when ≡ Some w → w < r.key → IsSomeAnd noted (λ v. v ≤ w)
  pub blocked : has_channel r.kind ≡ true → r.blocked ≡ mark_count b.schedule r.id
  pub none_ready : r.ready ≡ None
  pub none_sent : r.sending ≡ None

-- a function's number has no record to watch
abbrev pub AtKind : BookView → LazyHeap → Option ℕ → ℕ → Rec → Option RecKind → Type 0
AtKind b h noted id r (Some kind) = IsWatched b h noted r
AtKind b h noted id r None = (r.heaped ≡ None) × (slot_with h.slots id ≡ None)

pub record IsAt (b : BookView) (h : LazyHeap) (noted : Option ℕ) (id : ℕ) (r : Rec) : Type 0 where
  pub id_is : r.id ≡ id
  pub watched : AtKind b h noted id r (kind_by b.script id)

-- a record that was not made yet would show nothing
abbrev pub AtNumber : BookView → LazyHeap → Option ℕ → ℕ → Option Rec → Type 0
AtNumber b h noted id (Some r) = IsAt b h noted id r
AtNumber b h noted id None = (due_by b.script b.state id ≡ None) × (slot_with h.slots id ≡ None)

-- the due time of a record that is in a heap under a later key
abbrev pub early_due : Rec → Option ℕ
early_due r = elim r.when [ None ↦ None | Some w ↦ cond (is_some r.heaped && nat_lt w r.key) (Some w) None ]

-- what is noted once such a time was noted too
abbrev pub least_of : Option ℕ → ℕ → ℕ
least_of None w = w
least_of (Some v) w = min v w

abbrev pub noted_with : Option ℕ → Option ℕ → Option ℕ
noted_with noted None = noted
noted_with noted (Some w) = Some (least_of noted w)

abbrev pub noted_at : Option ℕ → Rec → Option ℕ
noted_at noted r = noted_with noted (early_due r)

-- ---- marks

-- the receives among which an instruction waits, plainly or as a choice: those of a choice with its sends, in the order of its cases
abbrev pub operations_of : Instr → List CaseKind
operations_of (Instr.Recv o) = CaseKind.Recv o ∷ []
operations_of (Instr.Select cases default_to) = map (λ (c : Case). c.kind) cases
operations_of _ = []

-- the timers from which it receives, in that order: one that two cases name stands there twice
abbrev pub timers_of : Script → Instr → List ℕ
timers_of script i = filter_map (timer_of script) (operations_of i)

abbrev pub awaited_by : Script → State → ℕ → List ℕ
awaited_by script s g = elim (stands_at script s g) [ None ↦ [] | Some i ↦ timers_of script i ]

-- who is parked is marked at each timer at which it waits; who is to be taken may have its marks still; nobody else has one
abbrev pub MarkFits : List ℕ → List ℕ → Option RunStatus → Type 0
MarkFits marks awaited (Some (RunStatus.Parked since)) = marks ≡ awaited
MarkFits marks awaited (Some RunStatus.Queued) = length marks ≤ 16
MarkFits marks awaited (Some RunStatus.InHand) = marks ≡ []
MarkFits marks awaited (Some RunStatus.Ended) = marks ≡ []
MarkFits marks awaited None = marks ≡ []

abbrev pub MarkFitsAt : Script → State → Schedule → ℕ → Type 0
MarkFitsAt script s m g = MarkFits (marks_at m g) (awaited_by script s g) (status_of m g)

-- marks are of channel timers
abbrev pub NamesTimers : BookView → Type 0
NamesTimers b = (g t : ℕ) → 0 < times t (marks_at b.schedule g) → is_timer b.script t ≡ true

-- ---- the run

-- how many records a run has at most
abbrev pub record_count : BookView → ℕ
record_count b = length b.script.decls + most_goroutines b.script b.limits + 1

abbrev pub is_heaped : Rec → Bool
is_heaped r = is_some r.heaped

-- records and heap, whatever the marks are
pub record IsTended (x : Runner) : Type 0 where
  pub at : (id : ℕ) → AtNumber x.book x.heap x.noted id (slice_get x.records.items id)
  pub declared : length x.book.script.decls ≤ length x.records.items
  pub record_room : length x.records.items + x.records.spare ≡ record_count x.book
  pub heap_room : record_count x.book ≤ x.heap.spare + count_by is_heaped x.records.items

pub record IsServed (x : Runner) : Type 0 where
  pub tended : IsTended x
  pub marks : (g : ℕ) → MarkFitsAt x.book.script x.book.state x.book.schedule g
  pub named : NamesTimers x.book

-- the same but for the marks of g
pub record IsServedBut (x : Runner) (g : ℕ) : Type 0 where
  pub tended : IsTended x
  pub marks : (h : ℕ) → h ≢ g → MarkFitsAt x.book.script x.book.state x.book.schedule h
  pub named : NamesTimers x.book
