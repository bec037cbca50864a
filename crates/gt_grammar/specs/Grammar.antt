-- The script language: the first fault of a text, and the script that it spells where it has none.
use Rattle.std.specs.Prelude.{ℕ, ◌==◌, ◌≡◌, nat_lt, if◌then◌else◌, List, length, take, fold}
use Rattle.std.specs.Str.Lossy.{utf8_valid_len}
use Rattle.std.specs.declared.option.Option.{Option}
use Rattle.std.specs.declared.option.Option.TheVariants.{None, Some}
use Rattle.gt_model.specs.declared.script.Script.{Script}
use Rattle.gt_grammar.specs.declared.fault.Why.{Why}
use Rattle.gt_grammar.specs.declared.fault.ScriptFault.{ScriptFault}
use Rattle.gt_lines.specs.Words.{numbered_lines, next}
use Rattle.gt_grammar.specs.Deeds.{script_of}
use Rattle.gt_grammar.specs.Faults.{fault_in_lines}

-- the number of the line behind this front of a text
abbrev pub line_number : List ℕ → ℕ
line_number front = fold (λ n b. if b == 10 then next n else n) 1 front

-- the line with the first byte at which a text is not UTF-8
abbrev pub utf8_fault : List ℕ → Option ScriptFault
utf8_fault text =
    if nat_lt (utf8_valid_len text) (length text)
    then Some (record { line = line_number (take (utf8_valid_len text) text); why = Why.Utf8 })
    else None

-- the fault on the earlier line; on one line the first one
abbrev pub earlier : Option ScriptFault → Option ScriptFault → Option ScriptFault
earlier None other = other
earlier (Some f) None = Some f
earlier (Some f) (Some g) = if nat_lt g.line f.line then Some g else Some f

-- the first fault of a text
abbrev pub first_fault : List ℕ → Option ScriptFault
first_fault text = earlier (utf8_fault text) (fault_in_lines (numbered_lines text))

abbrev pub IsFirstFault : List ℕ → ScriptFault → Type 0
IsFirstFault text fault = first_fault text ≡ Some fault

-- the script that a text spells: the text has no fault, and its lines make the script
pub record Spells (text : List ℕ) (script : Script) : Type 0 where
  pub faultless : first_fault text ≡ None
  pub lines : script ≡ script_of (numbered_lines text)
