-- Why no script was read.
use Rattle.std.specs.Prelude.{ℕ, nat_lt, if◌then◌else◌}
use Rattle.gt_grammar.specs.declared.fault.ScriptFault.{ScriptFault}
use Rattle.gt_grammar.specs.declared.fault.Why.{Why}
use Rattle.gt_script.specs.declared.unread.Unread.{Unread}

-- what holds of the fault of a refusal
abbrev pub IfRefused : Unread → (ScriptFault → Type 0) → Type 0
IfRefused (Unread.Refused fault) P = P fault
IfRefused Unread.NoMemory P = Unit {0}

abbrev pub fault_of : ℕ → Why → ScriptFault
fault_of line why = record { line = line; why = why }

-- of a line with a byte that is not UTF-8 and what was wrong with the lines, the fault on the earlier line
abbrev pub earlier_of : ℕ → Unread → Unread
earlier_of line (Unread.Refused fault) = Unread.Refused (if nat_lt fault.line line then fault else fault_of line Why.Utf8)
earlier_of line Unread.NoMemory = Unread.NoMemory
