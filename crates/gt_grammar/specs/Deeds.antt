-- The script language: the script that lines make.
use Rattle.std.specs.Prelude.{ℕ, zero, suc, ◌+◌, List, [], ◌∷◌, ◌++◌, codes}
use Rattle.std.specs.Option.{option_map, option_and_then, option_to_list}
use Rattle.std.specs.declared.option.Option.{Option}
use Rattle.std.specs.declared.option.Option.TheVariants.{None, Some}
use Rattle.gt_model.specs.declared.script.Script.{Script}
use Rattle.gt_model.specs.declared.script.Decl.{Decl}
use Rattle.gt_model.specs.declared.script.Func.{Func}
use Rattle.gt_model.specs.declared.script.What.{What}
use Rattle.gt_model.specs.declared.script.Instr.{Instr}
use Rattle.gt_model.specs.declared.script.Case.{Case}
use Rattle.gt_model.specs.declared.script.CaseKind.{CaseKind}
use Rattle.gt_lines.specs.Words.{NumberedLine}
use Rattle.gt_table.specs.declared.form.Step.{Step}
use Rattle.gt_names.specs.declared.names.Declared.{Declared}
use Rattle.gt_names.specs.Names.{Names, names_of}
use Rattle.gt_grammar.specs.Statements.{Command, command_of, statement_of, step_with}

-- what a line does: it declares a name, opens a function whose name is declared at a place, goes on with an instruction, opens a loop with so many
-- passes, opens a select, goes on with a case or the default of the innermost select, or closes the innermost block that is open, or else the function
pub data Deed : Type 0 where
  declares : List ℕ → What → Deed
  opens : List ℕ → ℕ → Deed
  does : Instr → Deed
  loops : ℕ → Deed
  selects : Deed
  chooses : CaseKind → Deed
  defaults : Deed
  closes : Deed

-- what is done with this name, if it is one
abbrev pub deed_of : List ℕ → Step → Deed
deed_of name (Step.Declare what) = declares name what
deed_of name (Step.Open decl) = opens name decl
deed_of name (Step.Do instr) = does instr
deed_of name (Step.Loop count) = loops count
deed_of name Step.Select = selects
deed_of name (Step.Case kind) = chooses kind
deed_of name Step.Default = defaults
deed_of name Step.Close = closes

abbrev pub deed_with : Names → Command → Option Deed
deed_with names c = option_map (deed_of c.first) (step_with (statement_of names c))

abbrev pub deed_at : Names → NumberedLine → Option Deed
deed_at names line = option_and_then (deed_with names) (command_of line.words)

abbrev pub deeds_of : Names → List NumberedLine → List Deed
deeds_of names [] = []
deeds_of names (line ∷ lines) = option_to_list (deed_at names line) ++ deeds_of names lines

abbrev pub decl_of : List ℕ → What → Decl
decl_of name what = record { name = name; what = what }

abbrev pub func_of : ℕ → List Instr → Func
func_of decl code = record { decl = decl; code = code }

-- the declarations that they make
abbrev pub decls_in : List Deed → List Decl
decls_in [] = []
decls_in (declares name what ∷ rest) = decl_of name what ∷ decls_in rest
decls_in (opens name decl ∷ rest) = decl_of name What.Function ∷ decls_in rest
decls_in (does instr ∷ rest) = decls_in rest
decls_in (loops count ∷ rest) = decls_in rest
decls_in (selects ∷ rest) = decls_in rest
decls_in (chooses kind ∷ rest) = decls_in rest
decls_in (defaults ∷ rest) = decls_in rest
decls_in (closes ∷ rest) = decls_in rest

-- How many instructions these make up to the end of a block that is open, which has so many other open blocks in it. The line of a select makes none: its
-- first case makes the choice. Each other case and the default make the jump that ends the body in front of them, and the end of a select makes the last one
abbrev pub span : ℕ → List Deed → ℕ
span inner [] = 0
span inner (declares name what ∷ rest) = span inner rest
span inner (opens name decl ∷ rest) = span inner rest
span inner (does instr ∷ rest) = span inner rest + 1
span inner (loops count ∷ rest) = span (suc inner) rest + 1
span inner (selects ∷ rest) = span (suc inner) rest
span inner (chooses kind ∷ rest) = span inner rest + 1
span inner (defaults ∷ rest) = span inner rest + 1
span zero (closes ∷ rest) = 1
span (suc inner) (closes ∷ rest) = span inner rest + 1

-- a case whose body begins at an index
abbrev pub case_at : CaseKind → ℕ → Case
case_at kind to = record { kind = kind; to = to }

-- the cases that are still to come of a select that is open, which has so many other open blocks in it, where the next instruction has the index i
abbrev pub cases_from : ℕ → ℕ → List Deed → List Case
cases_from inner i [] = []
cases_from inner i (declares name what ∷ rest) = cases_from inner i rest
cases_from inner i (opens name decl ∷ rest) = cases_from inner i rest
cases_from inner i (does instr ∷ rest) = cases_from inner (i + 1) rest
cases_from inner i (loops count ∷ rest) = cases_from (suc inner) (i + 1) rest
cases_from inner i (selects ∷ rest) = cases_from (suc inner) i rest
cases_from zero i (chooses kind ∷ rest) = case_at kind (i + 1) ∷ cases_from zero (i + 1) rest
cases_from (suc inner) i (chooses kind ∷ rest) = cases_from (suc inner) (i + 1) rest
cases_from inner i (defaults ∷ rest) = cases_from inner (i + 1) rest
cases_from zero i (closes ∷ rest) = []
cases_from (suc inner) i (closes ∷ rest) = cases_from inner (i + 1) rest

-- the index at which its default begins, if that is still to come
abbrev pub default_from : ℕ → ℕ → List Deed → Option ℕ
default_from inner i [] = None
default_from inner i (declares name what ∷ rest) = default_from inner i rest
default_from inner i (opens name decl ∷ rest) = default_from inner i rest
default_from inner i (does instr ∷ rest) = default_from inner (i + 1) rest
default_from inner i (loops count ∷ rest) = default_from (suc inner) (i + 1) rest
default_from inner i (selects ∷ rest) = default_from (suc inner) i rest
default_from inner i (chooses kind ∷ rest) = default_from inner (i + 1) rest
default_from zero i (defaults ∷ rest) = Some (i + 1)
default_from (suc inner) i (defaults ∷ rest) = default_from (suc inner) (i + 1) rest
default_from zero i (closes ∷ rest) = None
default_from (suc inner) i (closes ∷ rest) = default_from inner (i + 1) rest

-- a block that is open: a loop whose top has an index, a select in front of its first case, or a select in a body
pub data Block : Type 0 where
  in_loop : ℕ → Block
  in_select : Block
  in_body : Block

-- how many of these are loops
abbrev pub loops_among : List Block → ℕ
loops_among [] = 0
loops_among (in_loop top ∷ outer) = loops_among outer + 1
loops_among (in_select ∷ outer) = loops_among outer
loops_among (in_body ∷ outer) = loops_among outer

-- The code of the function that is open, from the index i on up to its end, where these blocks are open, the innermost first. A top tells where its loop
-- ends, and an end where its loop begins; a choice tells where its bodies begin, and each jump where the select ends
abbrev pub code_from : List Block → ℕ → List Deed → List Instr
code_from blocks i [] = []
code_from blocks i (declares name what ∷ rest) = code_from blocks i rest
code_from blocks i (opens name decl ∷ rest) = code_from blocks i rest
code_from blocks i (does instr ∷ rest) = instr ∷ code_from blocks (i + 1) rest
code_from blocks i (loops count ∷ rest) = Instr.LoopTop (loops_among blocks) count (i + 1 + span 0 rest) ∷ code_from (in_loop i ∷ blocks) (i + 1) rest
code_from blocks i (selects ∷ rest) = code_from (in_select ∷ blocks) i rest
code_from (in_select ∷ blocks) i (chooses kind ∷ rest) =
    Instr.Select (case_at kind (i + 1) ∷ cases_from 0 (i + 1) rest) (default_from 0 (i + 1) rest) ∷ code_from (in_body ∷ blocks) (i + 1) rest
code_from blocks i (chooses kind ∷ rest) = Instr.Jump (i + 1 + span 0 rest) ∷ code_from blocks (i + 1) rest
code_from blocks i (defaults ∷ rest) = Instr.Jump (i + 1 + span 0 rest) ∷ code_from blocks (i + 1) rest
code_from [] i (closes ∷ rest) = Instr.Finish ∷ []
code_from (in_loop top ∷ blocks) i (closes ∷ rest) = Instr.LoopEnd (loops_among blocks) top ∷ code_from blocks (i + 1) rest
code_from (in_select ∷ blocks) i (closes ∷ rest) = Instr.Jump (i + 1) ∷ code_from blocks (i + 1) rest
code_from (in_body ∷ blocks) i (closes ∷ rest) = Instr.Jump (i + 1) ∷ code_from blocks (i + 1) rest

-- the code of the function that is open
abbrev pub code_in : List Deed → List Instr
code_in deeds = code_from [] 0 deeds

-- the functions that they open, each with its code
abbrev pub funcs_in : List Deed → List Func
funcs_in [] = []
funcs_in (declares name what ∷ rest) = funcs_in rest
funcs_in (opens name decl ∷ rest) = func_of decl (code_in rest) ∷ funcs_in rest
funcs_in (does instr ∷ rest) = funcs_in rest
funcs_in (loops count ∷ rest) = funcs_in rest
funcs_in (selects ∷ rest) = funcs_in rest
funcs_in (chooses kind ∷ rest) = funcs_in rest
funcs_in (defaults ∷ rest) = funcs_in rest
funcs_in (closes ∷ rest) = funcs_in rest

abbrev pub script_in : List Deed → ℕ → Script
script_in deeds main = record { decls = decls_in deeds; funcs = funcs_in deeds; main = main }

-- the place of a declared function among the functions
abbrev pub func_place : Option Declared → ℕ
func_place None = 0
func_place (Some d) = d.func

-- the script of lines behind the first
abbrev pub script_with : Names → List NumberedLine → Script
script_with names lines = script_in (deeds_of names lines) (func_place (names (codes "main")))

-- the script of lines that have no fault
abbrev pub script_of : List NumberedLine → Script
script_of [] = script_with (names_of []) []
script_of (head ∷ lines) = script_with (names_of (head ∷ lines)) lines
