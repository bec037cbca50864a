-- The lines on standard error, byte for byte.
use Rattle.std.specs.Prelude.{ℕ, List, [], ◌++◌, codes, decimal}
use Rattle.std.specs.declared.option.Option.{Option}
use Rattle.std.specs.declared.option.Option.TheVariants.{None, Some}
use Rattle.gt_grammar.specs.declared.fault.Why.{Why}
use Rattle.gt_top.specs.declared.status.Status.{Status}
use Rattle.gt_top.specs.declared.words.WordFault.{WordFault}
use Rattle.gt_command.specs.declared.end.End.{End}
use Rattle.gt_command.specs.declared.fault.FaultLine.{FaultLine}

-- which line an end has: each refusal has one, with its cause, and nothing else has
abbrev pub line_of : End → Option FaultLine
line_of End.Told = None
line_of (End.Called (Status.Done outcome)) = None
line_of (End.Called (Status.Usage fault)) = Some (FaultLine.Usage fault)
line_of (End.Called (Status.BadScript fault)) = Some (FaultLine.Script fault)
line_of (End.Called (Status.TooLong limit)) = Some (FaultLine.InputAbove limit)
line_of (End.Called Status.ReadFault) = Some FaultLine.ReadFault
line_of (End.Called Status.WriteFault) = Some FaultLine.WriteFault
line_of (End.Called Status.NoMemory) = Some FaultLine.NoMemory

abbrev pub usage_word : WordFault → List ℕ
usage_word WordFault.Command = codes "command"
usage_word WordFault.Form = codes "form"
usage_word WordFault.Number = codes "number"

abbrev pub cause_word : Why → List ℕ
cause_word Why.Utf8 = codes "utf8"
cause_word Why.Head = codes "head"
cause_word Why.Word = codes "word"
cause_word Why.Name = codes "name"
cause_word Why.Twice = codes "twice"
cause_word Why.Missing = codes "missing"
cause_word Why.Number = codes "number"
cause_word Why.Nest = codes "nest"
cause_word Why.Select = codes "select"
cause_word Why.Many = codes "many"
cause_word Why.NoMain = codes "nomain"

-- what a line says after the name of the program
abbrev pub reason_of : FaultLine → List ℕ
reason_of (FaultLine.Usage fault) = codes "usage: " ++ usage_word fault
reason_of (FaultLine.Script fault) = codes "script line " ++ decimal fault.line ++ codes ": " ++ cause_word fault.why
reason_of (FaultLine.InputAbove limit) = codes "input above " ++ decimal limit ++ codes " bytes"
reason_of FaultLine.ReadFault = codes "read fault"
reason_of FaultLine.WriteFault = codes "write fault"
reason_of FaultLine.NoMemory = codes "no memory"

-- the text of a line, with its line feed
abbrev pub text_of : FaultLine → List ℕ
text_of line = codes "gotime: " ++ reason_of line ++ codes "\n"

-- what goes to standard error
abbrev pub told_of : Option FaultLine → List ℕ
told_of None = []
told_of (Some line) = text_of line
