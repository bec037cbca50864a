-- What is wrong with the lines of a script: the first faulty line, and the first cause on it.
use Rattle.std.specs.Prelude.{ℕ, ◌+◌, ◌==◌, nat_lt, nat_le, Bool, true, false, not, ◌&&◌, ◌||◌, if◌then◌else◌, List, [], ◌∷◌, length, codes}
use Rattle.std.specs.Option.{option_map, is_some, unwrap_or}
use Rattle.std.specs.declared.option.Option.{Option}
use Rattle.std.specs.declared.option.Option.TheVariants.{None, Some}
use Rattle.gt_model.specs.Good.{most_names, most_functions, most_instructions, most_loops, most_cases}
use Rattle.gt_lines.specs.Words.{NumberedLine, is_end}
use Rattle.gt_table.specs.declared.form.Arg.{Arg}
use Rattle.gt_table.specs.declared.form.Role.{Role}
use Rattle.gt_table.specs.Forms.{is_declaration, opens, acts, is_amount, is_parent, is_kind_function}
use Rattle.gt_table.specs.Table.{form_of}
use Rattle.gt_names.specs.declared.names.Declared.{Declared}
use Rattle.gt_names.specs.Names.{Names, names_of}
use Rattle.gt_grammar.specs.declared.fault.Why.{Why}
use Rattle.gt_grammar.specs.declared.fault.ScriptFault.{ScriptFault}
use Rattle.gt_grammar.specs.declared.statement.Statement.{Statement}
use Rattle.gt_grammar.specs.Progress.{Progress}
use Rattle.gt_grammar.specs.declared.progress.OpenBlock.{OpenBlock}
use Rattle.gt_grammar.specs.declared.progress.Held.{Held}
use Rattle.gt_grammar.specs.Statements.{command_of, statement_of, awaits_timer, passes_of, is_head}

-- a cause, and whether it applies
pub record Test : Type 0 where
  pub applies : Bool
  pub why : Why

abbrev pub test : Bool → Why → Test
test applies why = record { applies = applies; why = why }

-- the first cause that applies
abbrev pub first_cause : List Test → Option Why
first_cause [] = None
first_cause (t ∷ ts) = if t.applies then Some t.why else first_cause ts

-- declarations stand outside functions and instructions inside; `end`, `case` and `default` are judged by themselves
abbrev pub stands : Bool → Role → Bool
stands inside (Role.Declares kind) = not inside
stands inside Role.Closes = true
stands inside Role.Acts = inside
stands inside Role.Loops = inside
stands inside Role.Selects = inside
stands inside Role.Chooses = true
stands inside Role.Defaults = true

abbrev pub role_of : Statement → Role
role_of s = (form_of s.keyword).role

-- a word that spells no amount has a value: the name is spelled rightly, declared, and of the right kind
abbrev pub is_named : Arg → Option ℕ → Bool
is_named arg value = is_amount arg || is_some value

-- a word that spells an amount has one
abbrev pub is_counted : Arg → Option ℕ → Bool
is_counted arg value = not (is_amount arg) || is_some value

-- whether the names of a statement are spelled rightly, declared, and of the right kind
abbrev pub names_rightly : Statement → Bool
names_rightly s =
    is_named (form_of s.keyword).first s.first && is_named (form_of s.keyword).second s.second
    && is_named (form_of s.keyword).third s.third && is_named (form_of s.keyword).fourth s.fourth

-- whether the amounts of a statement are spelled rightly and in their ranges
abbrev pub counts_rightly : Statement → Bool
counts_rightly s =
    is_counted (form_of s.keyword).first s.first && is_counted (form_of s.keyword).second s.second
    && is_counted (form_of s.keyword).third s.third && is_counted (form_of s.keyword).fourth s.fourth

-- whether a place is among the first ones
abbrev pub is_before : ℕ → Option ℕ → Bool
is_before names None = false
is_before names (Some place) = nat_lt place names

-- whether a statement declares a name anew: so many declarations precede it
abbrev pub declares_twice : Progress → Statement → Bool
declares_twice p s = is_declaration (role_of s) && is_before p.names s.first

-- whether a parent is none of the first ones: it counts from 1, and the root is 0
abbrev pub is_late : ℕ → Option ℕ → Bool
is_late names None = false
is_late names (Some value) = nat_lt names value

-- whether a statement derives a context from one that is not declared on an earlier line
abbrev pub derives_late : Progress → Statement → Bool
derives_late p s = is_parent (form_of s.keyword).second && is_late p.names s.second

-- whether no block is open
abbrev pub are_none_open : List OpenBlock → Bool
are_none_open [] = true
are_none_open (inner ∷ outer) = false

-- whether a reader is inside a function behind a line
abbrev pub inside_after : Progress → Role → Bool
inside_after p (Role.Declares kind) = is_kind_function kind || p.inside
inside_after p Role.Closes = not (are_none_open p.blocks)
inside_after p Role.Acts = p.inside
inside_after p Role.Loops = p.inside
inside_after p Role.Selects = p.inside
inside_after p Role.Chooses = p.inside
inside_after p Role.Defaults = p.inside

-- a loop may end that holds something; one with passes holds more than loops that are passed over
abbrev pub may_end : Bool → Held → Bool
may_end repeats Held.Nothing = false
may_end repeats Held.Skipped = not repeats
may_end repeats Held.Entered = true

-- whether the innermost block that is open may not end: no function is open, or a loop that holds too little
abbrev pub ends_wrongly : Bool → List OpenBlock → Bool
ends_wrongly inside [] = not inside
ends_wrongly inside (OpenBlock.Loop repeats held ∷ outer) = not (may_end repeats held)
ends_wrongly inside (OpenBlock.Choice cases timers has_default ∷ outer) = false

abbrev pub is_loop : OpenBlock → Bool
is_loop (OpenBlock.Loop repeats held) = true
is_loop (OpenBlock.Choice cases timers has_default) = false

-- how many loops are open
abbrev pub loop_count : List OpenBlock → ℕ
loop_count [] = 0
loop_count (OpenBlock.Loop repeats held ∷ outer) = loop_count outer + 1
loop_count (OpenBlock.Choice cases timers has_default ∷ outer) = loop_count outer

-- whether the innermost block that is open is a select
abbrev pub in_choice : List OpenBlock → Bool
in_choice [] = false
in_choice (OpenBlock.Loop repeats held ∷ outer) = false
in_choice (OpenBlock.Choice cases timers has_default ∷ outer) = true

-- how deep blocks, loops and selects together, may stand in one another
abbrev pub most_blocks : ℕ
most_blocks = 16

-- whether a statement is an `end`, a `case` or a `default` that may not stand there, a fifth loop in four others, or a seventeenth block in sixteen others
abbrev pub nests_wrongly : Progress → Role → Bool
nests_wrongly p (Role.Declares kind) = false
nests_wrongly p Role.Closes = ends_wrongly p.inside p.blocks
nests_wrongly p Role.Acts = false
nests_wrongly p Role.Loops = nat_le most_loops (loop_count p.blocks) || nat_le most_blocks (length p.blocks)
nests_wrongly p Role.Selects = nat_le most_blocks (length p.blocks)
nests_wrongly p Role.Chooses = not (in_choice p.blocks)
nests_wrongly p Role.Defaults = not (in_choice p.blocks)

-- whether a line with this role may not stand in a select with so many cases so far, of which none, one, or two and more receive from timers, and with its
-- default or without
abbrev pub chooses_wrongly : ℕ → ℕ → Bool → Role → Bool
chooses_wrongly cases timers has_default (Role.Declares kind) = false
chooses_wrongly cases timers has_default Role.Closes = cases == 0
chooses_wrongly cases timers has_default Role.Acts = cases == 0
chooses_wrongly cases timers has_default Role.Loops = cases == 0
chooses_wrongly cases timers has_default Role.Selects = cases == 0
chooses_wrongly cases timers has_default Role.Chooses = has_default || nat_le most_cases cases
chooses_wrongly cases timers has_default Role.Defaults = has_default || nat_le 2 timers

-- the same for the innermost block, if that is a select
abbrev pub selects_wrongly : List OpenBlock → Role → Bool
selects_wrongly [] role = false
selects_wrongly (OpenBlock.Loop repeats held ∷ outer) role = false
selects_wrongly (OpenBlock.Choice cases timers has_default ∷ outer) role = chooses_wrongly cases timers has_default role

-- whether a line brings the names, functions or instructions above their limits
abbrev pub brings_too_many : Progress → Role → Bool
brings_too_many p role =
    (is_declaration role && nat_le most_names p.names)
    || (opens role && nat_le most_functions p.functions)
    || (acts role && nat_le most_instructions p.instructions)

-- the causes on a line that has the form of a statement, in their order; on the last line it counts where the script ends
abbrev pub causes : Bool → Bool → Progress → Statement → List Test
causes is_last lacks_main p s =
    test (not (stands p.inside (role_of s))) Why.Word
    ∷ test (not (names_rightly s) || derives_late p s) Why.Name
    ∷ test (declares_twice p s) Why.Twice
    ∷ test (is_last && inside_after p (role_of s)) Why.Missing
    ∷ test (not (counts_rightly s)) Why.Number
    ∷ test (nests_wrongly p (role_of s)) Why.Nest
    ∷ test (selects_wrongly p.blocks (role_of s)) Why.Select
    ∷ test (brings_too_many p (role_of s)) Why.Many
    ∷ test lacks_main Why.NoMain
    ∷ []

abbrev pub cause_with : Bool → Bool → Progress → Option Statement → Option Why
cause_with is_last lacks_main p None = Some Why.Word
cause_with is_last lacks_main p (Some s) = first_cause (causes is_last lacks_main p s)

abbrev pub is_function : Option Declared → Bool
is_function None = false
is_function (Some d) = is_kind_function d.kind

-- whether the script ends here without a function `main`
abbrev pub lacks_main : Names → Bool → Bool
lacks_main names is_last = is_last && not (is_function (names (codes "main")))

abbrev pub statement_at : Names → NumberedLine → Option Statement
statement_at names line = option_map (statement_of names) (command_of line.words)

-- what is wrong with a line behind the first
abbrev pub cause_at : Names → Bool → Progress → NumberedLine → Option Why
cause_at names is_last p line = cause_with is_last (lacks_main names is_last) p (statement_at names line)

-- what is wrong with the first line
abbrev pub head_cause : Names → Bool → NumberedLine → Option Why
head_cause names is_last line =
    first_cause (test (not (is_head line.words)) Why.Head ∷ test (lacks_main names is_last) Why.NoMain ∷ [])

-- one more, where a test holds
abbrev pub count_if : Bool → ℕ → ℕ
count_if b n = if b then n + 1 else n

-- what a loop holds in which a loop ended: one that is passed over adds nothing to what is entered
abbrev pub held_with : Bool → Held → Held
held_with true held = Held.Entered
held_with false Held.Nothing = Held.Skipped
held_with false Held.Skipped = Held.Skipped
held_with false Held.Entered = Held.Entered

-- the innermost block, if it is a loop, holds this now
abbrev pub holding : Held → List OpenBlock → List OpenBlock
holding held [] = []
holding held (OpenBlock.Loop repeats before ∷ outer) = OpenBlock.Loop repeats held ∷ outer
holding held (OpenBlock.Choice cases timers has_default ∷ outer) = OpenBlock.Choice cases timers has_default ∷ outer

-- a loop, with passes or without, ended in the innermost of these
abbrev pub ended_in : Bool → List OpenBlock → List OpenBlock
ended_in repeats [] = []
ended_in repeats (OpenBlock.Loop again held ∷ outer) = OpenBlock.Loop again (held_with repeats held) ∷ outer
ended_in repeats (OpenBlock.Choice cases timers has_default ∷ outer) = OpenBlock.Choice cases timers has_default ∷ outer

-- the innermost block ended
abbrev pub block_ended : List OpenBlock → List OpenBlock
block_ended [] = []
block_ended (OpenBlock.Loop repeats held ∷ outer) = ended_in repeats outer
block_ended (OpenBlock.Choice cases timers has_default ∷ outer) = outer

-- the innermost block, if it is a select, has a case more, which receives from a timer or does not; of those two are counted
abbrev pub case_added : Bool → List OpenBlock → List OpenBlock
case_added awaits [] = []
case_added awaits (OpenBlock.Loop repeats held ∷ outer) = OpenBlock.Loop repeats held ∷ outer
case_added awaits (OpenBlock.Choice cases timers has_default ∷ outer) = OpenBlock.Choice (cases + 1) (count_if (awaits && nat_lt timers 2) timers) has_default ∷ outer

-- the innermost block, if it is a select, has its default
abbrev pub default_added : List OpenBlock → List OpenBlock
default_added [] = []
default_added (OpenBlock.Loop repeats held ∷ outer) = OpenBlock.Loop repeats held ∷ outer
default_added (OpenBlock.Choice cases timers has_default ∷ outer) = OpenBlock.Choice cases timers true ∷ outer

-- the blocks that are open behind a line with this role, the innermost first; a loop that it opens has so many passes, and a case of it receives from a
-- timer or does not
abbrev pub blocks_after : List OpenBlock → Role → ℕ → Bool → List OpenBlock
blocks_after blocks (Role.Declares kind) count awaits = blocks
blocks_after blocks Role.Closes count awaits = block_ended blocks
blocks_after blocks Role.Acts count awaits = holding Held.Entered blocks
blocks_after blocks Role.Loops count awaits = OpenBlock.Loop (nat_lt 0 count) Held.Nothing ∷ blocks
blocks_after blocks Role.Selects count awaits = OpenBlock.Choice 0 0 false ∷ holding Held.Entered blocks
blocks_after blocks Role.Chooses count awaits = case_added awaits blocks
blocks_after blocks Role.Defaults count awaits = default_added blocks

-- how far a reader is behind a line
abbrev pub progress_with : Progress → Role → ℕ → Bool → Progress
progress_with p role count awaits = record {
  inside = inside_after p role;
  blocks = blocks_after p.blocks role count awaits;
  names = count_if (is_declaration role) p.names;
  functions = count_if (opens role) p.functions;
  instructions = count_if (acts role) p.instructions;
}

-- how many passes a word spells, if it does
abbrev pub count_of : List ℕ → ℕ
count_of word = unwrap_or (passes_of word) 0

abbrev pub progress_after : Names → Progress → NumberedLine → Progress
progress_after names p line = elim (command_of line.words) [ None ↦ p | Some c ↦ progress_with p (form_of c.keyword).role (count_of c.first) (awaits_timer names c) ]

abbrev pub no_progress : Progress
no_progress = record { inside = false; blocks = []; names = 0; functions = 0; instructions = 0 }

-- a fault, where there is a cause; else what is wrong further on
abbrev pub fault_or : Option Why → ℕ → Option ScriptFault → Option ScriptFault
fault_or None number later = later
fault_or (Some why) number later = Some (record { line = number; why = why })

-- the first fault of the lines behind a reader
abbrev pub fault_from : Names → Progress → List NumberedLine → Option ScriptFault
fault_from names p [] = None
fault_from names p (line ∷ lines) =
    fault_or (cause_at names (is_end lines) p line) line.number (fault_from names (progress_after names p line) lines)

-- the first fault of lines, where each byte is part of a character
abbrev pub fault_in_lines : List NumberedLine → Option ScriptFault
fault_in_lines [] = Some (record { line = 1; why = Why.Head })
fault_in_lines (head ∷ lines) =
    fault_or (head_cause (names_of (head ∷ lines)) (is_end lines) head) head.number
    (fault_from (names_of (head ∷ lines)) no_progress lines)
