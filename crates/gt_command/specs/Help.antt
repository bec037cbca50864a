-- What the command tells of itself.
use Rattle.std.specs.Prelude.{ℕ, if◌then◌else◌, List, [], ◌∷◌, ◌++◌, codes}
use Rattle.std.specs.Str.{bytes_eq}
use Rattle.std.specs.List.{flat_map}
use Rattle.std.specs.declared.option.Option.{Option}
use Rattle.std.specs.declared.option.Option.TheVariants.{None, Some}
use Rattle.gt_command.specs.declared.help.Info.{Info}

abbrev pub info_named : List ℕ → Option Info
info_named option = if bytes_eq option (codes "--help") then Some Info.Help else (if bytes_eq option (codes "--version") then Some Info.Version else None)

-- `--help` or `--version`, alone or after a command that is built
abbrev pub info_of : List (List ℕ) → Option Info
info_of (option ∷ []) = info_named option
info_of (command ∷ option ∷ []) = if bytes_eq command (codes "sim") then info_named option else None
info_of _ = None

abbrev pub help_lines : List (List ℕ)
help_lines =
    codes "gotime runs scripts of goroutines on Go's timer system and prints what happens." ∷
    codes "" ∷
    codes "usage:" ∷
    codes "  gotime sim [-l LIMIT] < SCRIPT" ∷
    codes "  gotime [sim] --help" ∷
    codes "  gotime [sim] --version" ∷
    codes "" ∷
    codes "commands:" ∷
    codes "  sim          reads a script from standard input, runs it, and writes its trace" ∷
    codes "               to standard output; the clock jumps to what comes next" ∷
    codes "" ∷
    codes "options of sim:" ∷
    codes "  -l LIMIT     end the run after LIMIT entries: 1 to 200,000 (default 10,000)" ∷
    codes "" ∷
    codes "exit status:" ∷
    codes "  0            the run ended with exit, or help or the version was asked for" ∷
    codes "  2, 3, 4      the run ended with deadlock, panic, limit" ∷
    codes "  64           the words are no command line" ∷
    codes "  65           standard input is no script" ∷
    codes "  66           standard input is above 67,108,864 bytes" ∷
    codes "  71           memory ran out" ∷
    codes "  73, 74       a read failed, a write failed" ∷
    codes "Each of 64 to 74 has a line on standard error that says why." ∷
    codes "" ∷
    codes "The script language, traces and faults are told in README.md and docs/ of the" ∷
    codes "repository; scripts with their traces are in examples/." ∷
    []

-- the lines of the usage, each with a line feed, and the line of the version
abbrev pub info_text : Info → List ℕ
info_text Info.Help = flat_map (λ (line : List ℕ). line ++ codes "\n") help_lines
info_text Info.Version = codes "gotime 0.2.0\n"
