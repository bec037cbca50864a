-- What the status of a call says of the bytes that it read and wrote.
use Rattle.std.specs.Prelude.{◌≡◌, ℕ, ◌+◌, ◌<◌, ◌≤◌, List, length, take, Some, IfSome}
use Rattle.std.specs.declared.result.Result.{Result}
use Rattle.std.specs.declared.result.Result.TheVariants.{Ok, Err}
use Rattle.gt_io.specs.Counts.{Rose, RoseBy}
use Rattle.gt_io.specs.Bytes.{Appended}
use Rattle.gt_model.specs.declared.script.Script.{Script}
use Rattle.gt_model.specs.declared.entry.Entry.{Entry}
use Rattle.gt_model.specs.declared.entry.Limits.{Limits}
use Rattle.gt_model.specs.declared.entry.Outcome.{Outcome}
use Rattle.gt_rules.specs.After.{first_state}
use Rattle.gt_rules.specs.History.{History, AllJump}
use Rattle.gt_laws.specs.Laws.{AtEach, InOrder, InTime, IsFresh, UsesRightly, PassesOn, ChoosesRightly, IsAlone, AddsUp, IsSignalled, KeepsFirstCause, HasOneCause, HooksOnce, HooksStay}
use Rattle.gt_laws.specs.Unrolled.{InTurn}
use Rattle.gt_laws.specs.Ends.{EndsRightly, EndsWhereStuck, JumpsToLeast}
use Rattle.gt_grammar.specs.Grammar.{IsFirstFault, Spells}
use Rattle.gt_grammar.specs.declared.fault.ScriptFault.{ScriptFault}
use Rattle.gt_trace.specs.Text.{text}
use Rattle.gt_top.specs.declared.status.Status.{Status}
use Rattle.gt_top.specs.declared.words.Order.{Order}
use Rattle.gt_top.specs.declared.words.WordFault.{WordFault}
use Rattle.gt_top.specs.Words.{order_of}
use Rattle.gt_top.specs.Call.{input_limit, SourceState, SinkState, Call, ReadsAll, IsUntouched}

-- A complete history of the script: each entry legal in the one-thread machine, and its clock moved only where nothing else could happen. So
-- each goroutine's calls come once and in order, loops repeated as often as they say, nothing comes before its time, no value of a setting that was
-- ended is received, the values of a channel come out in the order in which they were sent, each once, no default passes over a case that gives, nobody
-- locks a mutex that somebody has, a wait goes on where the sum of the adds is 0, a signal wakes one that waits at its Cond where somebody does, a context
-- keeps the first cause of its end and ends once, at its own deadline or later where by that, a hook starts once or was stopped, each panic is a misuse, the
-- outcome has its cause, and a deadlock is reported exactly where nothing can go on
pub record IsRun (script : Script) (limits : Limits) (h : List Entry) (outcome : Outcome) : Type 0 where
  pub complete : History script limits h outcome
  pub jumps : AllJump script 0 (first_state script) h
  pub in_order : AtEach (InOrder script) h
  pub in_turn : AtEach (InTurn script) h
  pub jumps_to_least : AtEach (JumpsToLeast script 0) h
  pub in_time : AtEach (InTime script) h
  pub fresh : AtEach (IsFresh script) h
  pub uses : AtEach (UsesRightly script) h
  pub passes : AtEach (PassesOn script) h
  pub chooses : AtEach (ChoosesRightly script) h
  pub alone : AtEach (IsAlone script) h
  pub adds_up : AtEach AddsUp h
  pub signals : AtEach (IsSignalled script) h
  pub keeps : AtEach (KeepsFirstCause script) h
  pub one_cause : HasOneCause h
  pub hooks : AtEach (HooksOnce script) h
  pub hooks_stay : AtEach (HooksStay script) h
  pub ends : AtEach (EndsRightly script limits) h
  pub ends_where_stuck : AtEach (EndsWhereStuck script limits) h

-- what was written is the trace of a complete history, and nothing else was
pub record PrintsRun (script : Script) (limits : Limits) (before after : SinkState) (outcome : Outcome) : Type 0 where
  pub history : List Entry
  pub run : IsRun script limits history outcome
  pub written : Appended before.written after.written (text script history)

-- a write failed, and what was written before is a front of such a trace
pub record PrintsFront (script : Script) (limits : Limits) (before after : SinkState) : Type 0 where
  pub history : List Entry
  pub outcome : Outcome
  pub run : IsRun script limits history outcome
  pub count : ℕ
  pub written : Appended before.written after.written (take count (text script history))
  pub cause : Rose before.faults after.faults

-- what the status says of the writing of a run
abbrev pub Prints : Script → Limits → SinkState → SinkState → Status → Type 0
Prints script limits before after (Status.Done outcome) = PrintsRun script limits before after outcome
Prints script limits before after Status.WriteFault = PrintsFront script limits before after
Prints script limits before after Status.NoMemory = after ≡ before
Prints script limits before after (Status.Usage fault) = ⊥
Prints script limits before after (Status.BadScript fault) = ⊥
Prints script limits before after (Status.TooLong limit) = ⊥
Prints script limits before after Status.ReadFault = ⊥

-- the status of a reading that gave no whole input
abbrev pub ReadsNot : SourceState → SourceState → Status → Type 0
ReadsNot before after (Status.TooLong limit) =
    (limit ≡ input_limit) × RoseBy (input_limit + 1) before.given after.given × IfSome before.left (λ left. input_limit < length left)
ReadsNot before after Status.ReadFault = Rose before.faults after.faults
ReadsNot before after Status.NoMemory = Unit {0}
ReadsNot before after (Status.Done outcome) = ⊥
ReadsNot before after (Status.Usage fault) = ⊥
ReadsNot before after (Status.BadScript fault) = ⊥
ReadsNot before after Status.WriteFault = ⊥

-- the status of bytes that gave no script: this is the first fault in them, or memory ran out
abbrev pub SpellsNot : List ℕ → Status → Type 0
SpellsNot bytes (Status.BadScript fault) = IsFirstFault bytes fault
SpellsNot bytes Status.NoMemory = Unit {0}
SpellsNot bytes (Status.Done outcome) = ⊥
SpellsNot bytes (Status.Usage fault) = ⊥
SpellsNot bytes (Status.TooLong limit) = ⊥
SpellsNot bytes Status.ReadFault = ⊥
SpellsNot bytes Status.WriteFault = ⊥

-- the bytes that were read spell this script, and what follows is told of its run
pub record ReadsScript (c : Call) (P : Script → Type 0) : Type 0 where
  pub bytes : List ℕ
  pub script : Script
  pub read : ReadsAll c.source_before c.source_after bytes
  pub spelled : Spells bytes script
  pub holds : P script

-- the bytes that were read spell no script, this is the first fault in them, and nothing was written
pub record RefusesScript (c : Call) (fault : ScriptFault) : Type 0 where
  pub bytes : List ℕ
  pub read : ReadsAll c.source_before c.source_after bytes
  pub refused : IsFirstFault bytes fault
  pub unwritten : c.sink_after ≡ c.sink_before

-- what the status says of `sim`
abbrev pub Simulates : Limits → Call → Status → Type 0
Simulates limits c (Status.Done outcome) = ReadsScript c (λ script. PrintsRun script limits c.sink_before c.sink_after outcome)
Simulates limits c Status.WriteFault = ReadsScript c (λ script. PrintsFront script limits c.sink_before c.sink_after)
Simulates limits c (Status.BadScript fault) = RefusesScript c fault
Simulates limits c (Status.TooLong limit) = ReadsNot c.source_before c.source_after (Status.TooLong limit) × (c.sink_after ≡ c.sink_before)
Simulates limits c Status.ReadFault = Rose c.source_before.faults c.source_after.faults × (c.sink_after ≡ c.sink_before)
Simulates limits c Status.NoMemory = c.sink_after ≡ c.sink_before
Simulates limits c (Status.Usage fault) = ⊥

-- the limits of an order's run
abbrev pub up_to : ℕ → Limits
up_to limit = record { entries = limit }

-- what the status says, by the order that the words mean
abbrev pub AnswersOrder : Result Order WordFault → Call → Status → Type 0
AnswersOrder (Ok (Order.Sim limit)) c status = Simulates (up_to limit) c status
AnswersOrder (Err fault) c status = (status ≡ Status.Usage fault) × IsUntouched c

-- The headline: what the program writes is the trace of one complete history of the script that it read. Every refusal has its cause
abbrev pub Answers : List (List ℕ) → Call → Status → Type 0
Answers words c status = AnswersOrder (order_of words) c status

-- good input: the words mean an order, the source tells a script within the limit, and no read and no write failed in the call
pub record IsAccepted (words : List (List ℕ)) (c : Call) : Type 0 where
  pub limit : ℕ
  pub order : order_of words ≡ Ok (Order.Sim limit)
  pub bytes : List ℕ
  pub script : Script
  pub told : c.source_before.left ≡ Some bytes
  pub short : length bytes ≤ input_limit
  pub spelled : Spells bytes script
  pub no_read_fault : ¬ Rose c.source_before.faults c.source_after.faults
  pub no_write_fault : ¬ Rose c.sink_before.faults c.sink_after.faults

abbrev pub IsDoneOrNoMemory : Status → Type 0
IsDoneOrNoMemory (Status.Done outcome) = Unit {0}
IsDoneOrNoMemory Status.NoMemory = Unit {0}
IsDoneOrNoMemory _ = ⊥
