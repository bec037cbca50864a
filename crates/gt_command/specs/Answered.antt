-- What a call of the command did.
use Rattle.std.specs.Prelude.{◌≡◌, ℕ, ◌<◌, ◌≤◌, List, length, take}
use Rattle.std.specs.declared.option.Option.{Option}
use Rattle.std.specs.declared.option.Option.TheVariants.{None, Some}
use Rattle.gt_io.specs.Bytes.{Appended}
use Rattle.gt_io.specs.Counts.{Rose}
use Rattle.gt_top.specs.Answer.{Answers}
use Rattle.gt_top.specs.Call.{Call, SinkState}
use Rattle.gt_top.specs.declared.status.Status.{Status}
use Rattle.gt_command.specs.declared.end.End.{End}
use Rattle.gt_command.specs.declared.help.Info.{Info}
use Rattle.gt_command.specs.Ends.{exit_of}
use Rattle.gt_command.specs.Faults.{line_of, told_of}
use Rattle.gt_command.specs.Help.{info_of, info_text}

-- a write failed, and a prefix of the bytes was written
pub record WritesPrefix (before after : SinkState) (bytes : List ℕ) : Type 0 where
  pub count : ℕ
  pub within : count ≤ length bytes
  pub written : Appended before.written after.written (take count bytes)
  pub cause : Rose before.faults after.faults

-- what was asked for was told, or a write failed
abbrev pub Tells : Info → SinkState → SinkState → End → Type 0
Tells info before after End.Told = Appended before.written after.written (info_text info)
Tells info before after (End.Called Status.WriteFault) = WritesPrefix before after (info_text info)
Tells info before after (End.Called (Status.Done outcome)) = ⊥
Tells info before after (End.Called (Status.Usage fault)) = ⊥
Tells info before after (End.Called (Status.BadScript fault)) = ⊥
Tells info before after (End.Called (Status.TooLong limit)) = ⊥
Tells info before after (End.Called Status.ReadFault) = ⊥
Tells info before after (End.Called Status.NoMemory) = ⊥

-- words that ask for nothing of the kind are answered by the top call: what the sink has in the end is what its answer says
abbrev pub Calls : List (List ℕ) → Call → End → Type 0
Calls words c End.Told = ⊥
Calls words c (End.Called status) = Answers words c status

-- what was asked for is told and nothing is read, or the top call is made
abbrev pub AnswersAsked : Option Info → List (List ℕ) → Call → End → Type 0
AnswersAsked None words c end = Calls words c end
AnswersAsked (Some info) words c end = Tells info c.sink_before c.sink_after end × (c.source_after ≡ c.source_before)

-- what the end says of what was read and of what the sink has, by the words
abbrev pub IsEndOf : List (List ℕ) → Call → End → Type 0
IsEndOf words c end = AnswersAsked (info_of words) words c end

-- the line of the end went to standard error, or a prefix of it where a write failed there
pub record Reports (end : End) (before after : SinkState) : Type 0 where
  pub count : ℕ
  pub within : count ≤ length (told_of (line_of end))
  pub written : Appended before.written after.written (take count (told_of (line_of end)))
  pub cut_by_a_fault : count < length (told_of (line_of end)) → Rose before.faults after.faults

-- the whole command: its exit status and its line on standard error are those of an end that says what was done
pub record Commands (words : List (List ℕ)) (c : Call) (errors_before errors_after : SinkState) (code : ℕ) : Type 0 where
  pub end : End
  pub answered : IsEndOf words c end
  pub status : code ≡ exit_of end
  pub told : Reports end errors_before errors_after
