-- The exit status of a run that counted nothing.
use Rattle.std.specs.Prelude.{ℕ}
use Rattle.gt_words_bench.specs.declared.fault.Fault.{Fault}

-- those of BSD's sysexits
abbrev pub exit_of : Fault → ℕ
exit_of Fault.Input = 65
exit_of Fault.NoMemory = 71
exit_of Fault.Read = 73
exit_of Fault.Write = 74
