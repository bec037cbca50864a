-- What is left to read, from where a reader stands.
use Rattle.std.specs.Prelude.{◌≡◌, ℕ, suc, ◌+◌, ◌-◌, ◌<◌, ◌≤◌, Bool, true, false, if◌then◌else◌, List, [], ◌∷◌, ◌++◌, length, map, codes}
use Rattle.std.specs.Option.{is_some}
use Rattle.std.specs.declared.option.Option.{Option}
use Rattle.std.specs.declared.option.Option.TheVariants.{None, Some}
use Rattle.gt_model.specs.declared.script.Decl.{Decl}
use Rattle.gt_model.specs.declared.script.Func.{Func}
use Rattle.gt_model.specs.declared.script.Instr.{Instr}
use Rattle.gt_model.specs.declared.script.Case.{Case}
use Rattle.gt_model.specs.declared.script.Script.{Script}
use Rattle.gt_model.specs.declared.script.What.{What}
use Rattle.gt_model.specs.Tables.{change}
use Rattle.gt_lines.specs.Words.{Words, NumberedLine}
use Rattle.gt_names.specs.Names.{Names}
use Rattle.gt_grammar.specs.Deeds.{Deed, declares, opens, does, loops, selects, chooses, defaults, closes, deeds_of, decl_of, func_of, decls_in, span, case_at, cases_from, default_from, Block as Open, in_loop, in_select, in_body, code_from, funcs_in, func_place}
use Rattle.gt_grammar.specs.declared.progress.OpenBlock.{OpenBlock}
use Rattle.gt_grammar.specs.Faults.{loop_count}
use Rattle.gt_grammar.specs.Progress.{Progress}
use Rattle.gt_script.specs.declared.reader.Block.{Block}

-- the word of a line that has no other
abbrev pub only_word : Words → Option (List ℕ)
only_word (word ∷ []) = Some word
only_word _ = None

-- what is made of the lines so far: the declarations, the functions that are closed, and the one that is open, with its open blocks, the innermost first
pub record Built : Type 0 where
  pub decls : List Decl
  pub funcs : List Func
  pub open_decl : ℕ
  pub code : List Instr
  pub blocks : List Block

abbrev pub nothing_built : Built
nothing_built = record { decls = []; funcs = []; open_decl = 0; code = []; blocks = [] }

-- how far a reader is, and what it made
pub record Reader : Type 0 where
  pub progress : Progress
  pub built : Built

-- an instruction, where the top of a loop leads past it to this index
abbrev pub leading : ℕ → Instr → Instr
leading past (Instr.LoopTop depth count other) = Instr.LoopTop depth count past
leading past instr = instr

abbrev pub is_loop : Block → Bool
is_loop (Block.Loop top) = true
is_loop (Block.Choice cases default_to) = false

-- how many loops are open
abbrev pub loops_open : List Block → ℕ
loops_open [] = 0
loops_open (Block.Loop top ∷ outer) = loops_open outer + 1
loops_open (Block.Choice cases default_to ∷ outer) = loops_open outer

-- the code, where this instruction stands in front of an index
abbrev pub put : List Instr → ℕ → Instr → List Instr
put code to instr = change code (to - 1) (λ _. instr)

-- the code, where jumps to an index stand in front of the bodies of these cases
abbrev pub all_jump : ℕ → List Case → List Instr → List Instr
all_jump end [] code = code
all_jump end (c ∷ cases) code = all_jump end cases (put code c.to (Instr.Jump end))

-- the same of the body of a default
abbrev pub default_jumps : ℕ → Option ℕ → List Instr → List Instr
default_jumps end None code = code
default_jumps end (Some to) code = put code to (Instr.Jump end)

-- the code, where a choice stands in front of the first body of these
abbrev pub choice_put : List Case → List Case → Option ℕ → List Instr → List Instr
choice_put [] all default_to code = code
choice_put (c ∷ cases) all default_to code = put code c.to (Instr.Select all default_to)

-- the code, where the bodies of these cases and of this default end by jumps to an index, and the choice has all cases and this default
abbrev pub chosen : ℕ → List Case → Option ℕ → List Case → Option ℕ → List Instr → List Instr
chosen end cases default_to all default code = choice_put cases all default (all_jump end cases (default_jumps end default_to code))

-- the code, with the end of the innermost block that is open; no block is open for the end of the function
abbrev pub closed : Built → List Block → Built
closed b [] = record b { funcs = b.funcs ++ func_of b.open_decl (b.code ++ Instr.Finish ∷ []) ∷ []; code = [] }
closed b (Block.Loop top ∷ blocks) =
    record b { code = change (b.code ++ Instr.LoopEnd (loops_open blocks) top ∷ []) top (leading (length b.code + 1)); blocks = blocks }
closed b (Block.Choice cases default_to ∷ blocks) =
    record b { code = chosen (length b.code + 1) cases default_to cases default_to (b.code ++ Instr.Jump (length b.code + 1) ∷ []); blocks = blocks }

-- the innermost block, if it is a select, has a case more, or its default
abbrev pub case_put : Case → List Block → List Block
case_put c [] = []
case_put c (Block.Loop top ∷ outer) = Block.Loop top ∷ outer
case_put c (Block.Choice cases default_to ∷ outer) = Block.Choice (cases ++ c ∷ []) default_to ∷ outer

abbrev pub default_put : ℕ → List Block → List Block
default_put to [] = []
default_put to (Block.Loop top ∷ outer) = Block.Loop top ∷ outer
default_put to (Block.Choice cases default_to ∷ outer) = Block.Choice cases (Some to) ∷ outer

-- what is made of one line more; the top of a loop leads nowhere before its end is read, and what stands in front of a body is made when the select ends
abbrev pub built_after : Built → Deed → Built
built_after b (declares name what) = record b { decls = b.decls ++ decl_of name what ∷ [] }
built_after b (opens name decl) = record b { decls = b.decls ++ decl_of name What.Function ∷ []; open_decl = decl; code = [] }
built_after b (does instr) = record b { code = b.code ++ instr ∷ [] }
built_after b (loops count) = record b { code = b.code ++ Instr.LoopTop (loops_open b.blocks) count 0 ∷ []; blocks = Block.Loop (length b.code) ∷ b.blocks }
built_after b selects = record b { blocks = Block.Choice [] None ∷ b.blocks }
built_after b (chooses kind) = record b { code = b.code ++ Instr.Jump 0 ∷ []; blocks = case_put (case_at kind (length b.code + 1)) b.blocks }
built_after b defaults = record b { code = b.code ++ Instr.Jump 0 ∷ []; blocks = default_put (length b.code + 1) b.blocks }
built_after b closes = closed b b.blocks

-- a default, or else the one that is still to come
abbrev pub or_later : Option ℕ → Option ℕ → Option ℕ
or_later None later = later
or_later (Some to) later = Some to

-- what is still to come of an open block: the index behind its end, and of a select its cases and its default
pub record Later : Type 0 where
  pub past : ℕ
  pub cases : List Case
  pub default_to : Option ℕ

-- the code, where a block is as it will be
abbrev pub made : Block → Later → List Instr → List Instr
made (Block.Loop top) later code = change code top (leading later.past)
made (Block.Choice cases default_to) later code = chosen later.past cases default_to (cases ++ later.cases) (or_later default_to later.default_to) code

-- the same for blocks, the first of which has the first of these still to come, and so on
abbrev pub led : List Block → (ℕ → Later) → List Instr → List Instr
led [] laters code = code
led (b ∷ blocks) laters code = led blocks (λ k. laters (suc k)) (made b (laters 0) code)

-- what is still to come of the blocks that are open in front of these deeds, the innermost first: the next instruction has the index i
abbrev pub still_to_come : ℕ → List Deed → ℕ → Later
still_to_come i deeds k = record { past = i + span k deeds; cases = cases_from k i deeds; default_to = default_from k i deeds }

-- where a reader stands in a block
abbrev pub open_of : Block → Open
open_of (Block.Loop top) = in_loop top
open_of (Block.Choice [] default_to) = in_select
open_of (Block.Choice (c ∷ cases) default_to) = in_body

-- the code of the function that is open, where these deeds are left
abbrev pub code_left : Built → List Deed → List Instr
code_left b deeds = led b.blocks (still_to_come (length b.code) deeds) b.code ++ code_from (map open_of b.blocks) (length b.code) deeds

-- the functions of a script, where these deeds are left
abbrev pub funcs_left : Bool → Built → List Deed → List Func
funcs_left inside b deeds = b.funcs ++ (if inside then func_of b.open_decl (code_left b deeds) ∷ funcs_in deeds else funcs_in deeds)

abbrev pub script_by : Bool → Built → List Deed → ℕ → Script
script_by inside b deeds main = record { decls = b.decls ++ decls_in deeds; funcs = funcs_left inside b deeds; main = main }

-- the script, where these lines are left
abbrev pub script_left : Names → Bool → Built → List NumberedLine → Script
script_left names inside b lines = script_by inside b (deeds_of names lines) (func_place (names (codes "main")))

-- behind a line the same script is left as in front of it
abbrev pub Goes : Names → Bool → Built → NumberedLine → Bool → Built → Type 0
Goes names inside b line inside' b' = (lines : List NumberedLine) → script_left names inside' b' lines ≡ script_left names inside b (line ∷ lines)

-- the instructions in front of the bodies of these cases stand in a code of n instructions
abbrev pub AreWithin : ℕ → List Case → Type 0
AreWithin n [] = Unit {0}
AreWithin n (c ∷ cases) = (c.to - 1 < n) × AreWithin n cases

abbrev pub IsWithin : ℕ → Option ℕ → Type 0
IsWithin n None = Unit {0}
IsWithin n (Some to) = to - 1 < n

-- what these blocks change stands in a code of n instructions
abbrev pub AllWithin : ℕ → List Block → Type 0
AllWithin n [] = Unit {0}
AllWithin n (Block.Loop top ∷ blocks) = (top < n) × AllWithin n blocks
AllWithin n (Block.Choice cases default_to ∷ blocks) = AreWithin n cases × IsWithin n default_to × AllWithin n blocks

-- each block is of the kind that the reader counts, and a select has its default where the reader says so
abbrev pub AreAlike : List Block → List OpenBlock → Type 0
AreAlike [] [] = Unit {0}
AreAlike (Block.Loop top ∷ blocks) (OpenBlock.Loop repeats held ∷ outer) = AreAlike blocks outer
AreAlike (Block.Choice cases default_to ∷ blocks) (OpenBlock.Choice count timers has_default ∷ outer) = (is_some default_to ≡ has_default) × AreAlike blocks outer
AreAlike _ _ = ⊥

-- what is made agrees with how far a reader is: it has the same open blocks, and what they change stands in the code
pub record Agrees (p : Progress) (b : Built) : Type 0 where
  pub alike : AreAlike b.blocks p.blocks
  pub shallow : loop_count p.blocks ≤ 4
  pub outside : p.inside ≡ false → b.blocks ≡ []
  pub within : AllWithin (length b.code) b.blocks
