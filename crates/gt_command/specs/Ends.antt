-- The exit status of the program.
use Rattle.std.specs.Prelude.{ℕ}
use Rattle.gt_model.specs.declared.entry.Outcome.{Outcome}
use Rattle.gt_top.specs.declared.status.Status.{Status}
use Rattle.gt_command.specs.declared.end.End.{End}

-- 0 and small numbers for runs, by their outcome; for refusals those of BSD's sysexits
abbrev pub exit_of : End → ℕ
exit_of End.Told = 0
exit_of (End.Called (Status.Done Outcome.Exit)) = 0
exit_of (End.Called (Status.Done Outcome.Deadlock)) = 2
exit_of (End.Called (Status.Done Outcome.Panic)) = 3
exit_of (End.Called (Status.Done Outcome.Limit)) = 4
exit_of (End.Called (Status.Usage fault)) = 64
exit_of (End.Called (Status.BadScript fault)) = 65
exit_of (End.Called (Status.TooLong limit)) = 66
exit_of (End.Called Status.NoMemory) = 71
exit_of (End.Called Status.ReadFault) = 73
exit_of (End.Called Status.WriteFault) = 74
