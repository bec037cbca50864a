-- What a step of a goroutine is, and the entry of an operation.
use Rattle.std.specs.Prelude.{ℕ, ◌+◌, zero, suc, [], slice_get, ◌≡◌, Bool, true, false, not, ◌||◌, MatchOption, is_some, is_none, nat_lt, ◌&&◌, ◌==◌, cond, List, ◌∷◌, length}
use Rattle.std.specs.List.{list_any}
use Rattle.std.specs.Option.{option_map}
use Rattle.std.specs.declared.option.Option.{Option}
use Rattle.std.specs.declared.option.Option.TheVariants.{None, Some}
use Rattle.gt_model.specs.declared.script.Script.{Script}
use Rattle.gt_model.specs.declared.script.Instr.{Instr}
use Rattle.gt_model.specs.declared.script.What.{What}
use Rattle.gt_model.specs.declared.entry.Entry.{Entry}
use Rattle.gt_model.specs.declared.entry.Party.{Party}
use Rattle.gt_model.specs.declared.entry.Reason.{Reason}
use Rattle.gt_model.specs.declared.script.Case.{Case}
use Rattle.gt_model.specs.declared.script.CaseKind.{CaseKind}
use Rattle.gt_model.specs.Good.{awaits_timer}
use Rattle.gt_model.specs.declared.context.Context.{Context}
use Rattle.gt_model.specs.declared.context.End.{End}
use Rattle.gt_model.specs.Script.{what_at, is_chan, is_ctx, is_timer, capacity_of}
use Rattle.gt_rules.specs.State.{State, clock, stands_at, clock_of, due_of, next_number, sleeps_until, items_of, item_count, is_closed, is_locked, is_done, suspended_count, world_of, end_at, has_ended, hook_at}
use Rattle.gt_rules.specs.Contexts.{made_context, start_count, hook_is_due, is_waiting_hook}
use Rattle.gt_rules.specs.Operations.{receives_from}
use Rattle.gt_rules.specs.Panics.{fault, fault_case}
use Rattle.gt_rules.specs.Ready.{is_due}
use Rattle.gt_rules.specs.Legal.{May, operation_at}
use Rattle.gt_rules.specs.Legal as legal
use Rattle.gt_rules.specs.After.{new_period}
use Rattle.gt_book.specs.declared.step.Step.{Step}
use Rattle.gt_book.specs.declared.answers.Did.{Did}
use Rattle.gt_book.specs.declared.answers.Pick.{Pick}
use Rattle.gt_book.specs.declared.answers.TimerOp.{TimerOp}
use Rattle.gt_book.specs.declared.answers.Op.{Op}
use Rattle.gt_book.specs.declared.answers.Commit.{Commit}
use Rattle.gt_schedule.specs.Schedule.{Schedule, plainly, at_case, parked_cases, status_of, is_in_hand, is_parked, in_hand, taken, parked_at, ticket_of, parties_at, Served}
use Rattle.gt_schedule.specs.declared.status.Ticket.{Ticket}
use Rattle.gt_schedule.specs.declared.scheduler.Scheduler.{Scheduler}
use Rattle.gt_schedule.specs.Scheduler.{schedule_of, IsScheduler}
use Rattle.gt_book.specs.View.{BookView, Enters, with_schedule, outcome_of, is_at}

-- the party that has waited longest at the other side of a channel, where it keeps no values
abbrev pub partner_in : Script → List (List Party) → ℕ → Option Party
partner_in script lists c = cond (capacity_of script c == 0) (slice_get (parties_at lists c) 0) None

-- the value of a send
abbrev pub value_of : Option CaseKind → ℕ
value_of None = 0
value_of (Some kind) = elim kind [ CaseKind.Recv o ↦ 0 | CaseKind.Send c v ↦ v ]

-- the first of two entries
abbrev pub or_next : Option Entry → Option Entry → Option Entry
or_next None next = next
or_next (Some e) next = Some e

-- The entry of a party at an operation that can go on by itself: a receive from a channel, by the values that it keeps and whether it is closed; a send,
-- by whether the channel is closed, where to send is a misuse, and whether it has room
abbrev pub receives_alone : Party → ℕ → List ℕ → Bool → Option Entry
receives_alone p c (v ∷ items) closed = Some (Entry.Recv p c (Some v))
receives_alone p c [] true = Some (Entry.Recv p c None)
receives_alone p c [] false = None

abbrev pub sends_alone : Party → ℕ → ℕ → Bool → Bool → Option Entry
sends_alone p c v true room = Some (Entry.Panic p Reason.Closed)
sends_alone p c v false true = Some (Entry.Send p c v)
sends_alone p c v false false = None

-- What is no channel gives by what it is declared as: a mutex its lock where nobody has it, a WaitGroup the end of a wait where its counter is 0, a context its end
-- once it has ended. What a timer gives needs its record
abbrev pub takes_alone : State → Party → ℕ → Option What → Option Entry
takes_alone s p o None = None
takes_alone s p o (Some What.Timer) = None
takes_alone s p o (Some What.Ticker) = None
takes_alone s p o (Some (What.AfterFunc func)) = None
takes_alone s p o (Some (What.Chan cap)) = None
takes_alone s p o (Some What.Mutex) = cond (is_locked s o) None (Some (Entry.Lock p.g o))
takes_alone s p o (Some What.Wg) = cond (is_done s o) (Some (Entry.WgWait p.g o)) None
takes_alone s p o (Some (What.Cond mutex)) = None
takes_alone s p o (Some (What.Ctx parent form)) = cond (has_ended s o) (Some (Entry.CtxDone p o)) None
takes_alone s p o (Some (What.Hook ctx func)) = None
takes_alone s p o (Some What.Error) = None
takes_alone s p o (Some What.Function) = None

abbrev pub goes_alone : Script → State → Party → CaseKind → Option Entry
goes_alone script s p (CaseKind.Recv o) = cond (is_chan script o) (receives_alone p o (items_of s o) (is_closed s o)) (takes_alone s p o (what_at script o))
goes_alone script s p (CaseKind.Send c v) = sends_alone p c v (is_closed s c) (nat_lt (item_count s c) (capacity_of script c))

-- its entry with a partner that is parked
abbrev pub meets_sender : Script → State → Party → ℕ → Option Party → Option Entry
meets_sender script s p c None = None
meets_sender script s p c (Some q) = Some (Entry.Pair q p c (value_of (operation_at script s q)))

abbrev pub meets_receiver : Party → ℕ → ℕ → Option Party → Option Entry
meets_receiver p c v None = None
meets_receiver p c v (Some q) = Some (Entry.Pair p q c v)

abbrev pub meets : Script → State → Schedule → Party → CaseKind → Option Entry
meets script s m p (CaseKind.Recv o) = cond (is_chan script o) (meets_sender script s p o (partner_in script m.senders o)) None
meets script s m p (CaseKind.Send c v) = meets_receiver p c v (partner_in script m.receivers c)

-- its entry, where it can go on without the value of a timer
abbrev pub goes_by : Script → State → Schedule → Party → CaseKind → Option Entry
goes_by script s m p kind = or_next (goes_alone script s p kind) (meets script s m p kind)

-- what a plain operation is
abbrev pub plain_step : CaseKind → Option Entry → Step
plain_step kind (Some e) = Step.Makes e
plain_step kind None = Step.Parks kind

-- the timer from which an operation receives
abbrev pub timer_of : Script → CaseKind → Option ℕ
timer_of script (CaseKind.Recv o) = cond (is_timer script o) (Some o) None
timer_of script (CaseKind.Send c v) = None

-- the timer of a receive whose time has come by a clock
abbrev pub come_timer : Script → State → ℕ → CaseKind → Option ℕ
come_timer script s now (CaseKind.Recv o) = cond (is_timer script o && is_due (due_of s o) now) (Some o) None
come_timer script s now (CaseKind.Send c v) = None

-- what a case is where it can go on: its entry; or, where the choice has a default, the receive of a timer's value that has come, which needs its record
abbrev pub case_step : Option Entry → Bool → Option ℕ → Option Step
case_step (Some e) polling come = Some (Step.Makes e)
case_step None true (Some t) = Some (Step.Needs (TimerOp.Poll t))
case_step None true None = None
case_step None false come = None

-- the case with the lowest number goes on, where the first one has the number n
abbrev pub first_step : Script → State → Schedule → ℕ → Bool → ℕ → List Case → Option Step
first_step script s m g polling n [] = None
first_step script s m g polling n (c ∷ cases) =
    elim (case_step (goes_by script s m (at_case g n) c.kind) polling (come_timer script s (clock_of s g) c.kind)) [
      | None ↦ first_step script s m g polling (n + 1) cases
      | Some step ↦ Some step
    ]

-- what a choice is where no case can go on: its default; else it waits at its cases
abbrev pub no_case : Script → ℕ → List Case → Option ℕ → Step
no_case script g cases (Some to) = Step.Makes (Entry.Default g)
no_case script g cases None = Step.Chooses (list_any (λ (c : Case). awaits_timer script c.kind) cases)

abbrev pub choice_step : Script → State → Schedule → ℕ → List Case → Option ℕ → Step
choice_step script s m g cases default_to =
    elim (first_step script s m g (is_some default_to) 1 cases) [ None ↦ no_case script g cases default_to | Some step ↦ step ]

-- the own deadline of a context that has not ended
abbrev pub live_deadline : Context → Option ℕ
live_deadline r = cond (is_none r.end) r.own None

-- a context is made: one whose own deadline is to come needs its record
abbrev pub makes_context : ℕ → ℕ → Context → Step
makes_context g x r = elim (live_deadline r) [ None ↦ Step.Makes (Entry.CtxMake g x (is_some r.end)) | Some due ↦ Step.Needs (TimerOp.Deadline x due) ]

-- a cancellation of a context, by whether that has ended
abbrev pub cancels : ℕ → ℕ → Bool → Step
cancels g x true = Step.Makes (Entry.Cancel g x false 0)
cancels g x false = Step.Cancels x

-- an instruction without a panic
abbrev pub step_of_instr : Script → State → Schedule → ℕ → Instr → Step
step_of_instr script s m g (Instr.Say n) = Step.Makes (Entry.Say g n)
step_of_instr script s m g Instr.Now = Step.Makes (Entry.Now g (clock_of s g))
step_of_instr script s m g (Instr.Sleep zero) = Step.Makes (Entry.Sleep g None)
step_of_instr script s m g (Instr.Sleep (suc d)) = Step.Needs (TimerOp.Sleep (suc d))
step_of_instr script s m g (Instr.Go f) = Step.Makes (Entry.Go g (next_number s) f)
step_of_instr script s m g (Instr.New t d) = Step.Needs (TimerOp.Set t d false)
step_of_instr script s m g (Instr.Stop t) = Step.Needs (TimerOp.Stop t)
step_of_instr script s m g (Instr.Reset t d) = Step.Needs (TimerOp.Set t d true)
step_of_instr script s m g (Instr.Recv o) =
    cond (is_chan script o || is_ctx script o) (plain_step (CaseKind.Recv o) (goes_by script s m (plainly g) (CaseKind.Recv o))) (Step.Waits o)
step_of_instr script s m g (Instr.Make c) = Step.Makes (Entry.Make g c)
step_of_instr script s m g (Instr.Send c v) = plain_step (CaseKind.Send c v) (goes_by script s m (plainly g) (CaseKind.Send c v))
step_of_instr script s m g (Instr.Close c) = Step.Makes (Entry.Close g c)
step_of_instr script s m g (Instr.Lock k) = plain_step (CaseKind.Recv k) (goes_by script s m (plainly g) (CaseKind.Recv k))
step_of_instr script s m g (Instr.Unlock k) = Step.Makes (Entry.Unlock g k)
step_of_instr script s m g (Instr.CWait k) = Step.Makes (Entry.CondWait g k)
step_of_instr script s m g (Instr.Signal k) = Step.Makes (Entry.Signal g k (option_map (λ (p : Party). p.g) (slice_get (parties_at m.receivers k) 0)))
step_of_instr script s m g (Instr.Broadcast k) = Step.Broadcasts k
step_of_instr script s m g (Instr.Add w n) = Step.Makes (Entry.Add g w n)
step_of_instr script s m g (Instr.Wait w) = plain_step (CaseKind.Recv w) (goes_by script s m (plainly g) (CaseKind.Recv w))
step_of_instr script s m g (Instr.With x) = makes_context g x (made_context script s (world_of s g) x)
step_of_instr script s m g (Instr.Cancel x cause) = cancels g x (has_ended s x)
step_of_instr script s m g (Instr.ErrOf x) = Step.Makes (Entry.CtxErr g x (option_map (λ (end : End). end.err) (end_at s x)))
step_of_instr script s m g (Instr.CauseOf x) = Step.Makes (Entry.Cause g x (option_map (λ (end : End). end.cause) (end_at s x)))
step_of_instr script s m g (Instr.After h) = Step.Makes (Entry.CtxAfter g h (cond (hook_is_due script s h) (Some (next_number s)) None))
step_of_instr script s m g (Instr.Unhook h) = Step.Makes (Entry.CtxStop g h (is_waiting_hook (hook_at s h)))
step_of_instr script s m g (Instr.Select cases default_to) = choice_step script s m g cases default_to
step_of_instr script s m g (Instr.LoopTop depth count past) = Step.Nowhere
step_of_instr script s m g (Instr.Jump to) = Step.Nowhere
step_of_instr script s m g (Instr.LoopEnd depth top) = Step.Nowhere
step_of_instr script s m g Instr.Finish = Step.Makes (Entry.End g)

abbrev pub step_or_panic : Script → State → Schedule → ℕ → Instr → Option Reason → Step
step_or_panic script s m g i (Some reason) = Step.Makes (Entry.Panic (at_case g (fault_case s i)) reason)
step_or_panic script s m g i None = step_of_instr script s m g i

-- what a goroutine does next: at a channel it goes on with a partner that is parked
abbrev pub step_of : Script → State → Schedule → ℕ → Option Step
step_of script s m g = elim (stands_at script s g) [ None ↦ None | Some i ↦ Some (step_or_panic script s m g i (fault script s i)) ]

-- whether a step waits at a choice
abbrev pub chooses : Option Step → Bool
chooses None = false
chooses (Some step) = elim step [ Step.Chooses timed ↦ true | _ ↦ false ]

-- the cases of a choice
abbrev pub cases_of : Option Instr → List Case
cases_of None = []
cases_of (Some i) = elim i [ Instr.Select cases default_to ↦ cases | _ ↦ [] ]

-- the answer of who waits at its choice: where a timer's value is one of its cases, its records are to be told of it
abbrev pub choice_answer : Ticket → Bool → Did
choice_answer ticket true = Did.Timer (TimerOp.Enrolled ticket)
choice_answer ticket false = Did.Parked

-- the answer after an entry
abbrev pub DidEnter : BookView → Did → Type 0
DidEnter new did = MatchOption (outcome_of new) (did ≡ Did.Entered) (λ outcome. did ≡ Did.Over outcome)

-- what a step does to the book, and answers
abbrev pub Does : BookView → ℕ → Step → BookView → Did → Type 0
Does old g (Step.Makes e) new did = Enters old e new × DidEnter new did
Does old g (Step.Waits t) new did =
    (new ≡ with_schedule old (parked_at old.schedule (plainly g) (CaseKind.Recv t))) × (did ≡ Did.Timer (TimerOp.Enrolled (ticket_of old.schedule g)))
Does old g (Step.Parks kind) new did = (new ≡ with_schedule old (parked_at old.schedule (plainly g) kind)) × (did ≡ Did.Parked)
Does old g (Step.Chooses timed) new did =
    (new ≡ with_schedule old (parked_cases old.schedule g (cases_of (stands_at old.script old.state g)))) × (did ≡ choice_answer (ticket_of old.schedule g) timed)
Does old g (Step.Cancels x) new did = Enters old (Entry.Cancel g x true (start_count old.script old.state x)) new × DidEnter new did
Does old g (Step.Broadcasts k) new did = Enters old (Entry.Broadcast g k (suspended_count old.state k)) new × DidEnter new did
Does old g (Step.Needs op) new did = (new ≡ old) × (did ≡ Did.Timer op)
Does old g Step.Nowhere new did = ⊥

-- where the run has its outcome nothing changes
abbrev pub Steps : BookView → ℕ → BookView → Did → Type 0
Steps old g new did =
    MatchOption (outcome_of old) (MatchOption (step_of old.script old.state old.schedule g) ⊥ (λ step. Does old g step new did))
    (λ outcome. (did ≡ Did.Over outcome) × (new ≡ old))

-- what taking a goroutine does to the book, and answers
abbrev pub Takes : BookView → Pick → BookView → Type 0
Takes old (Pick.Run g) new = (slice_get (old.schedule.run_queue) 0 ≡ Some g) × (new ≡ with_schedule old (taken old.schedule g))
Takes old (Pick.Nothing running) new = (old.schedule.run_queue ≡ []) × (running ≡ in_hand old.schedule) × (new ≡ old)

-- what a reading of the program's clock does to the book: it moves the clock where it is later, while the run goes on
abbrev pub Clocks : BookView → ℕ → BookView → Type 0
Clocks old to new = ClocksBy old to new (is_none (outcome_of old) && nat_lt (clock old.state 0) to)
  where
    ClocksBy : BookView → ℕ → BookView → Bool → Type 0
    ClocksBy old to new true = Enters old (Entry.Clock 0 to) new
    ClocksBy old to new false = new ≡ old

-- the instruction that sets a timer, anew or for the first time, and its entry
abbrev pub set_instr : ℕ → ℕ → Bool → Instr
set_instr t d true = Instr.Reset t d
set_instr t d false = Instr.New t d

abbrev pub set_entry : ℕ → ℕ → Bool → Option Bool → ℕ → Entry
set_entry g t true was due = Entry.Reset g t was due
set_entry g t false was due = Entry.New g t due

-- the entry of an operation
abbrev pub entry_of : Script → State → Op → Entry
entry_of script s (Op.Set g t anew was due period) = set_entry g t anew was due
entry_of script s (Op.Stop g t was) = Entry.Stop g t was
entry_of script s (Op.TRecv p t due next) = Entry.TRecv p t due next
entry_of script s (Op.Fire t) = Entry.FireFunc t (next_number s)
entry_of script s (Op.Sleep g until) = Entry.Sleep g (Some until)
entry_of script s (Op.Wake g) = Entry.Wake g
entry_of script s (Op.Derive g x) = Entry.CtxMake g x (is_some (made_context script s (world_of s g) x).end)
entry_of script s (Op.Expire x) = Entry.Expire x (start_count script s x)

-- the period that an operation sets is that of its instruction
abbrev pub HasPeriod : Script → State → Op → Type 0
HasPeriod script s (Op.Set g t anew was due period) = period ≡ new_period script s g t
HasPeriod script s _ = Unit {0}

-- whether a party in hand, or one that is parked, stands at a receive from t
abbrev pub is_receiving : Script → State → Schedule → Party → ℕ → Bool
is_receiving script s m p t = (is_in_hand (status_of m p.g) || is_parked (status_of m p.g)) && is_at script s p (receives_from t)

-- whether an operation comes too late for its goroutine, or for its context
abbrev pub is_late : BookView → Op → Bool
is_late b (Op.TRecv p t due next) = not (is_receiving b.script b.state b.schedule p t)
is_late b (Op.Wake g) = not (is_some (sleeps_until b.state g))
is_late b (Op.Expire x) = has_ended b.state x
is_late b _ = false

abbrev pub is_gone : BookView → Op → Bool
is_gone b op = is_some (outcome_of b) || is_late b op

abbrev pub DidCommit : BookView → Commit → Type 0
DidCommit new did = MatchOption (outcome_of new) (did ≡ Commit.Entered) (λ outcome. did ≡ Commit.Over outcome)

-- what a commitment does to the book, and answers
abbrev pub Commits : BookView → Op → Bool → BookView → Commit → Type 0
Commits old op true new did = (new ≡ old) × (did ≡ Commit.Gone)
Commits old op false new did = Enters old (entry_of old.script old.state op) new × DidCommit new did

-- what a commitment needs that does not come too late
abbrev pub MayCommit : BookView → Op → Type 0
MayCommit b op = May b.script b.state (entry_of b.script b.state op) × Served b.schedule (entry_of b.script b.state op) × HasPeriod b.script b.state op

-- what the entry of an operation needs by which no context ends: the instruction that makes a context, and no misuse
abbrev pub MayEnter : BookView → Op → Type 0
MayEnter b (Op.Derive g x) = legal.Does b.script b.state g (Instr.With x)
MayEnter b (Op.Expire x) = ⊥
MayEnter b _ = Unit {0}

-- a scheduler has a list for each side of each declaration
pub record HasLists (script : Script) (m : Scheduler) : Type 0 where
  pub kept : IsScheduler m
  pub receivers : length (schedule_of m).receivers ≡ length script.decls
  pub senders : length (schedule_of m).senders ≡ length script.decls
