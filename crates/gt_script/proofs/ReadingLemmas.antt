-- How lines are read one by one.
use Rattle.std.proofs.Common.{◌≡◌, ℕ, ◌+◌, ◌-◌, ◌<◌, ◌≤◌, Bool, true, false, not, ◌&&◌, ◌||◌, List, [], ◌∷◌, ◌++◌, length, Option, Some, None, IfSome, IsSome, Result, Ok, Err, OnOk, IfOk, IfErr, refl, sym, ap, subst, ◌∙◌, append_assoc, leb, arith, codes}
use Rattle.std.specs.Option.{option_map, option_and_then, option_to_list, unwrap_or}
use Rattle.std.specs.Str.{bytes_eq}
use Rattle.std.proofs.lemmas.Bool.{both_ways, leb-false}
use Rattle.gt_model.specs.declared.script.Decl.{Decl}
use Rattle.gt_model.specs.declared.script.Func.{Func}
use Rattle.gt_model.specs.declared.script.Script.{Script}
use Rattle.gt_model.proofs.Changes.{length-change}
use Rattle.gt_model.specs.declared.script.What.{What}
use Rattle.gt_model.specs.declared.script.Instr.{Instr}
use Rattle.gt_model.specs.declared.script.Case.{Case}
use Rattle.gt_lines.specs.Words.{Words, NumberedLine, is_end}
use Rattle.gt_table.specs.declared.form.Arg.{Arg}
use Rattle.gt_table.specs.declared.form.Role.{Role}
use Rattle.gt_table.specs.declared.form.Step.{Step}
use Rattle.gt_table.specs.declared.table.Keyword.{Keyword}
use Rattle.gt_table.specs.Forms.{is_kind_function}
use Rattle.gt_table.specs.Table.{form_of}
use Rattle.gt_names.specs.Names.{Names, names_of}
use Rattle.gt_grammar.specs.declared.fault.Why.{Why}
use Rattle.gt_grammar.specs.declared.fault.ScriptFault.{ScriptFault}
use Rattle.gt_grammar.specs.declared.progress.OpenBlock.{OpenBlock}
use Rattle.gt_grammar.specs.declared.progress.Held.{Held}
use Rattle.gt_grammar.specs.Progress.{Progress}
use Rattle.gt_grammar.specs.declared.statement.Statement.{Statement}
use Rattle.gt_grammar.specs.Statements.{Command, awaits_timer, command_of, statement_of, value_of, step_with, is_head}
use Rattle.gt_grammar.specs.Deeds.{Deed, declares, opens, does, loops, selects, chooses, defaults, closes, deed_of, deed_with, deeds_of, decl_of, func_of, decls_in, case_at, code_in, funcs_in, func_place, script_of, script_with}
use Rattle.gt_grammar.specs.Faults.{causes, first_cause, role_of, stands, are_none_open, inside_after, ends_wrongly, nests_wrongly, selects_wrongly, in_choice, loop_count, holding, ended_in, block_ended, case_added, default_added, count_of, progress_with, progress_after, cause_at, fault_or, fault_from, fault_in_lines, head_cause, no_progress}
use Rattle.gt_grammar.proofs.Fits.{FitsRole}
use Rattle.gt_grammar.proofs.KindTests.{started}
use Rattle.gt_grammar.proofs.OpenLoops.{depth-holding, depth-ended}
use Rattle.gt_grammar.proofs.RightLines.{IsRight, is_right, Doing, doing}
use Rattle.gt_script.specs.Unread.{fault_of, IfRefused}
use Rattle.gt_script.specs.declared.unread.Unread.{Unread}
use Rattle.gt_script.specs.Reading.{only_word, Built, Reader, leading, loops_open, closed, case_put, default_put, built_after, made, script_by, Goes, AreWithin, AllWithin, AreAlike, Agrees}
use Rattle.gt_script.specs.declared.reader.Block.{Block}
use Rattle.gt_script.proofs.CodeLeft.{one-more, within-more, length-chosen, built, does-left, loops-left, closes-left, selects-left, finishes-left, chooses-left, defaults-left}

-- where a deed stands behind open blocks, and where the reader stands behind it
abbrev Moves : Deed → List Block → Bool → Bool → Type 0
Moves (declares name what) blocks inside inside' = (inside ≡ false) × (inside' ≡ false)
Moves (opens name decl) blocks inside inside' = (inside ≡ false) × (inside' ≡ true)
Moves (does instr) blocks inside inside' = (inside ≡ true) × (inside' ≡ true)
Moves (loops count) blocks inside inside' = (inside ≡ true) × (inside' ≡ true)
Moves selects blocks inside inside' = (inside ≡ true) × (inside' ≡ true)
Moves (chooses kind) (Block.Choice cases None ∷ blocks) inside inside' = (inside ≡ true) × (inside' ≡ true)
Moves (chooses kind) _ inside inside' = ⊥
Moves defaults (Block.Choice cases None ∷ blocks) inside inside' = (inside ≡ true) × (inside' ≡ true)
Moves defaults _ inside inside' = ⊥
Moves closes [] inside inside' = (inside ≡ true) × (inside' ≡ false)
Moves closes (b ∷ blocks) inside inside' = (inside ≡ true) × (inside' ≡ true)

not-true : (b : Bool) → not b ≡ true → b ≡ false
not-true true h = cc
not-true false h = refl

moves-closes : (inside : Bool) (blocks : List Block) (open_blocks : List OpenBlock) → AreAlike blocks open_blocks → (inside ≡ false → blocks ≡ []) → ends_wrongly inside open_blocks ≡ false → Moves closes blocks inside (not (are_none_open open_blocks))
moves-closes true [] [] e out h = (refl, refl)
moves-closes false [] [] e out h = cc
moves-closes inside [] (inner ∷ outer) e out h = absurd e
moves-closes inside (Block.Loop top ∷ blocks) [] e out h = absurd e
moves-closes inside (Block.Choice cases d ∷ blocks) [] e out h = absurd e
moves-closes true (b ∷ blocks) (inner ∷ outer) e out h = (refl, refl)
moves-closes false (b ∷ blocks) (inner ∷ outer) e out h = let none = out refl in cc

-- a select without its default so far is open in front of a case, and of its default
has-choice : (deed : Deed) (inside : Bool) (blocks : List Block) (open_blocks : List OpenBlock) → ((cases : List Case) (outer : List Block) → (inside ≡ true) → Moves deed (Block.Choice cases None ∷ outer) inside inside) → AreAlike blocks open_blocks → (inside ≡ false → blocks ≡ []) → not (in_choice open_blocks) ≡ false
    → ((cases timers : ℕ) (has_default : Bool) (outer : List OpenBlock) → open_blocks ≡ OpenBlock.Choice cases timers has_default ∷ outer → has_default ≡ false) → Moves deed blocks inside inside
has-choice deed inside blocks [] by e out h none = cc
has-choice deed inside blocks (OpenBlock.Loop repeats held ∷ outer) by e out h none = cc
has-choice deed inside [] (OpenBlock.Choice cases timers has_default ∷ outer) by e out h none = absurd e
has-choice deed inside (Block.Loop top ∷ blocks) (OpenBlock.Choice cases timers has_default ∷ outer) by e out h none = absurd e
has-choice deed inside (Block.Choice items (Some to) ∷ blocks) (OpenBlock.Choice cases timers has_default ∷ outer) by e out h none =
    let no : has_default ≡ false = none cases timers has_default outer refl in let yes = e.0 in cc
has-choice deed false (Block.Choice items None ∷ blocks) (OpenBlock.Choice cases timers has_default ∷ outer) by e out h none = let no = out refl in cc
has-choice deed true (Block.Choice items None ∷ blocks) (OpenBlock.Choice cases timers has_default ∷ outer) by e out h none = by items blocks refl

or-left : (a b : Bool) → (a || b) ≡ false → a ≡ false
or-left true b h = cc
or-left false b h = refl

case-left : (blocks : List OpenBlock) → selects_wrongly blocks Role.Chooses ≡ false → (cases timers : ℕ) (has_default : Bool) (outer : List OpenBlock) → blocks ≡ OpenBlock.Choice cases timers has_default ∷ outer → has_default ≡ false
case-left blocks c cases timers has_default outer e = or-left has_default _ (ap (λ bs. selects_wrongly bs Role.Chooses) (sym e) ∙ c)

default-left : (blocks : List OpenBlock) → selects_wrongly blocks Role.Defaults ≡ false → (cases timers : ℕ) (has_default : Bool) (outer : List OpenBlock) → blocks ≡ OpenBlock.Choice cases timers has_default ∷ outer → has_default ≡ false
default-left blocks c cases timers has_default outer e = or-left has_default _ (ap (λ bs. selects_wrongly bs Role.Defaults) (sym e) ∙ c)

moves : (names : Names) (name : List ℕ) (role : Role) (arg : Arg) (a : ℕ) (awaits : Bool) (step : Step) (p : Progress) (b : Built) → FitsRole names role arg a awaits step → stands p.inside role ≡ true → nests_wrongly p role ≡ false → selects_wrongly p.blocks role ≡ false → Agrees p b → Moves (deed_of name step) b.blocks p.inside (inside_after p role)
moves names name (Role.Declares kind) arg a awaits (Step.Declare what) p b fit h c d agrees =
    let outside : p.inside ≡ false = not-true p.inside h in
    (outside, ap (λ k. is_kind_function k || p.inside) fit.1 ∙ ap (λ x. x || p.inside) (started names what fit.2) ∙ outside)
moves names name (Role.Declares kind) arg a awaits (Step.Open decl) p b fit h c d agrees =
    (not-true p.inside h, ap (λ k. is_kind_function k || p.inside) fit.1)
moves names name Role.Closes arg a awaits Step.Close p b fit h c d agrees = moves-closes p.inside b.blocks p.blocks agrees.alike agrees.outside c
moves names name Role.Acts arg a awaits (Step.Do instr) p b fit h c d agrees = (h, h)
moves names name Role.Loops arg a awaits (Step.Loop passes) p b fit h c d agrees = (h, h)
moves names name Role.Selects arg a awaits Step.Select p b fit h c d agrees = (h, h)
moves names name Role.Chooses arg a awaits (Step.Case case) p b fit h c d agrees =
    has-choice (chooses case) p.inside b.blocks p.blocks (λ cases outer e. (e, e)) agrees.alike agrees.outside c (case-left p.blocks d)
moves names name Role.Defaults arg a awaits Step.Default p b fit h c d agrees =
    has-choice defaults p.inside b.blocks p.blocks (λ cases outer e. (e, e)) agrees.alike agrees.outside c (default-left p.blocks d)
moves names name (Role.Declares kind) arg a awaits (Step.Do instr) p b fit h c d agrees = absurd fit
moves names name (Role.Declares kind) arg a awaits (Step.Loop passes) p b fit h c d agrees = absurd fit
moves names name (Role.Declares kind) arg a awaits Step.Select p b fit h c d agrees = absurd fit
moves names name (Role.Declares kind) arg a awaits (Step.Case case) p b fit h c d agrees = absurd fit
moves names name (Role.Declares kind) arg a awaits Step.Default p b fit h c d agrees = absurd fit
moves names name (Role.Declares kind) arg a awaits Step.Close p b fit h c d agrees = absurd fit
moves names name Role.Closes arg a awaits (Step.Declare what) p b fit h c d agrees = absurd fit
moves names name Role.Closes arg a awaits (Step.Open decl) p b fit h c d agrees = absurd fit
moves names name Role.Closes arg a awaits (Step.Do instr) p b fit h c d agrees = absurd fit
moves names name Role.Closes arg a awaits (Step.Loop passes) p b fit h c d agrees = absurd fit
moves names name Role.Closes arg a awaits Step.Select p b fit h c d agrees = absurd fit
moves names name Role.Closes arg a awaits (Step.Case case) p b fit h c d agrees = absurd fit
moves names name Role.Closes arg a awaits Step.Default p b fit h c d agrees = absurd fit
moves names name Role.Acts arg a awaits (Step.Declare what) p b fit h c d agrees = absurd fit
moves names name Role.Acts arg a awaits (Step.Open decl) p b fit h c d agrees = absurd fit
moves names name Role.Acts arg a awaits (Step.Loop passes) p b fit h c d agrees = absurd fit
moves names name Role.Acts arg a awaits Step.Select p b fit h c d agrees = absurd fit
moves names name Role.Acts arg a awaits (Step.Case case) p b fit h c d agrees = absurd fit
moves names name Role.Acts arg a awaits Step.Default p b fit h c d agrees = absurd fit
moves names name Role.Acts arg a awaits Step.Close p b fit h c d agrees = absurd fit
moves names name Role.Loops arg a awaits (Step.Declare what) p b fit h c d agrees = absurd fit
moves names name Role.Loops arg a awaits (Step.Open decl) p b fit h c d agrees = absurd fit
moves names name Role.Loops arg a awaits (Step.Do instr) p b fit h c d agrees = absurd fit
moves names name Role.Loops arg a awaits Step.Select p b fit h c d agrees = absurd fit
moves names name Role.Loops arg a awaits (Step.Case case) p b fit h c d agrees = absurd fit
moves names name Role.Loops arg a awaits Step.Default p b fit h c d agrees = absurd fit
moves names name Role.Loops arg a awaits Step.Close p b fit h c d agrees = absurd fit
moves names name Role.Selects arg a awaits (Step.Declare what) p b fit h c d agrees = absurd fit
moves names name Role.Selects arg a awaits (Step.Open decl) p b fit h c d agrees = absurd fit
moves names name Role.Selects arg a awaits (Step.Do instr) p b fit h c d agrees = absurd fit
moves names name Role.Selects arg a awaits (Step.Loop passes) p b fit h c d agrees = absurd fit
moves names name Role.Selects arg a awaits (Step.Case case) p b fit h c d agrees = absurd fit
moves names name Role.Selects arg a awaits Step.Default p b fit h c d agrees = absurd fit
moves names name Role.Selects arg a awaits Step.Close p b fit h c d agrees = absurd fit
moves names name Role.Chooses arg a awaits (Step.Declare what) p b fit h c d agrees = absurd fit
moves names name Role.Chooses arg a awaits (Step.Open decl) p b fit h c d agrees = absurd fit
moves names name Role.Chooses arg a awaits (Step.Do instr) p b fit h c d agrees = absurd fit
moves names name Role.Chooses arg a awaits (Step.Loop passes) p b fit h c d agrees = absurd fit
moves names name Role.Chooses arg a awaits Step.Select p b fit h c d agrees = absurd fit
moves names name Role.Chooses arg a awaits Step.Default p b fit h c d agrees = absurd fit
moves names name Role.Chooses arg a awaits Step.Close p b fit h c d agrees = absurd fit
moves names name Role.Defaults arg a awaits (Step.Declare what) p b fit h c d agrees = absurd fit
moves names name Role.Defaults arg a awaits (Step.Open decl) p b fit h c d agrees = absurd fit
moves names name Role.Defaults arg a awaits (Step.Do instr) p b fit h c d agrees = absurd fit
moves names name Role.Defaults arg a awaits (Step.Loop passes) p b fit h c d agrees = absurd fit
moves names name Role.Defaults arg a awaits Step.Select p b fit h c d agrees = absurd fit
moves names name Role.Defaults arg a awaits (Step.Case case) p b fit h c d agrees = absurd fit
moves names name Role.Defaults arg a awaits Step.Close p b fit h c d agrees = absurd fit

-- the script, with this code of the open function
abbrev with_code : Built → List Deed → ℕ → List Instr → Script
with_code b deeds main code = record { decls = b.decls ++ decls_in deeds; funcs = b.funcs ++ (func_of b.open_decl code ∷ funcs_in deeds); main = main }

deed-left : (decls : List Decl) (funcs : List Func) (open_decl : ℕ) (code : List Instr) (blocks : List Block) (deed : Deed) (deeds : List Deed) (main : ℕ) (inside inside' : Bool) → AllWithin (length code) blocks → (inside ≡ false → blocks ≡ []) → Moves deed blocks inside inside'
    → script_by inside' (built_after (built decls funcs open_decl code blocks) deed) deeds main ≡ script_by inside (built decls funcs open_decl code blocks) (deed ∷ deeds) main
deed-left decls funcs open_decl code blocks (declares name what) deeds main false false w out h =
    ap (λ ds. record { decls = ds; funcs = funcs ++ funcs_in deeds; main = main }) (append_assoc decls (decl_of name what ∷ []) (decls_in deeds))
deed-left decls funcs open_decl code blocks (declares name what) deeds main true inside' w out h = let e = h.0 in cc
deed-left decls funcs open_decl code blocks (declares name what) deeds main false true w out h = let e = h.1 in cc
deed-left decls funcs open_decl code [] (opens name d) deeds main false true w out h =
    ap (λ ds. record { decls = ds; funcs = funcs ++ (func_of d (code_in deeds) ∷ funcs_in deeds); main = main }) (append_assoc decls (decl_of name What.Function ∷ []) (decls_in deeds))
deed-left decls funcs open_decl code (b ∷ blocks) (opens name d) deeds main false true w out h = let none = out refl in cc
deed-left decls funcs open_decl code blocks (opens name d) deeds main true inside' w out h = let e = h.0 in cc
deed-left decls funcs open_decl code blocks (opens name d) deeds main false false w out h = let e = h.1 in cc
deed-left decls funcs open_decl code blocks (does instr) deeds main true true w out h =
    let b : Built = built decls funcs open_decl code blocks in
    ap (with_code b deeds main) (does-left b instr deeds w)
deed-left decls funcs open_decl code blocks (does instr) deeds main false inside' w out h = let e = h.0 in cc
deed-left decls funcs open_decl code blocks (does instr) deeds main true false w out h = let e = h.1 in cc
deed-left decls funcs open_decl code blocks (loops count) deeds main true true w out h =
    let b : Built = built decls funcs open_decl code blocks in
    ap (with_code b deeds main) (loops-left b count deeds w)
deed-left decls funcs open_decl code blocks (loops count) deeds main false inside' w out h = let e = h.0 in cc
deed-left decls funcs open_decl code blocks (loops count) deeds main true false w out h = let e = h.1 in cc
deed-left decls funcs open_decl code [] closes deeds main true false w out h =
    ap (λ fs. record { decls = decls ++ decls_in deeds; funcs = fs; main = main }) (append_assoc funcs (func_of open_decl (code ++ Instr.Finish ∷ []) ∷ []) (funcs_in deeds))
deed-left decls funcs open_decl code [] closes deeds main false inside' w out h = let e = h.0 in cc
deed-left decls funcs open_decl code [] closes deeds main true true w out h = let e = h.1 in cc
deed-left decls funcs open_decl code (Block.Loop top ∷ blocks) closes deeds main true true w out h =
    ap (with_code (built decls funcs open_decl code (Block.Loop top ∷ blocks)) deeds main) (closes-left decls funcs open_decl code top blocks deeds w)
deed-left decls funcs open_decl code (Block.Choice cases d ∷ blocks) closes deeds main true true w out h =
    ap (with_code (built decls funcs open_decl code (Block.Choice cases d ∷ blocks)) deeds main) (finishes-left decls funcs open_decl code cases d blocks deeds w)
deed-left decls funcs open_decl code (b ∷ blocks) closes deeds main false inside' w out h = let e = h.0 in cc
deed-left decls funcs open_decl code (b ∷ blocks) closes deeds main true false w out h = let e = h.1 in cc
deed-left decls funcs open_decl code blocks selects deeds main true true w out h =
    let b : Built = built decls funcs open_decl code blocks in
    ap (with_code b deeds main) (selects-left b deeds)
deed-left decls funcs open_decl code blocks selects deeds main false inside' w out h = let e = h.0 in cc
deed-left decls funcs open_decl code blocks selects deeds main true false w out h = let e = h.1 in cc
deed-left decls funcs open_decl code [] (chooses kind) deeds main inside inside' w out h = absurd h
deed-left decls funcs open_decl code (Block.Loop top ∷ blocks) (chooses kind) deeds main inside inside' w out h = absurd h
deed-left decls funcs open_decl code (Block.Choice cases (Some to) ∷ blocks) (chooses kind) deeds main inside inside' w out h = absurd h
deed-left decls funcs open_decl code (Block.Choice cases None ∷ blocks) (chooses kind) deeds main true true w out h =
    ap (with_code (built decls funcs open_decl code (Block.Choice cases None ∷ blocks)) deeds main) (chooses-left decls funcs open_decl code cases blocks kind deeds w)
deed-left decls funcs open_decl code (Block.Choice cases None ∷ blocks) (chooses kind) deeds main false inside' w out h = let e = h.0 in cc
deed-left decls funcs open_decl code (Block.Choice cases None ∷ blocks) (chooses kind) deeds main true false w out h = let e = h.1 in cc
deed-left decls funcs open_decl code [] defaults deeds main inside inside' w out h = absurd h
deed-left decls funcs open_decl code (Block.Loop top ∷ blocks) defaults deeds main inside inside' w out h = absurd h
deed-left decls funcs open_decl code (Block.Choice cases (Some to) ∷ blocks) defaults deeds main inside inside' w out h = absurd h
deed-left decls funcs open_decl code (Block.Choice cases None ∷ blocks) defaults deeds main true true w out h =
    ap (with_code (built decls funcs open_decl code (Block.Choice cases None ∷ blocks)) deeds main) (defaults-left decls funcs open_decl code cases blocks deeds w)
deed-left decls funcs open_decl code (Block.Choice cases None ∷ blocks) defaults deeds main false inside' w out h = let e = h.0 in cc
deed-left decls funcs open_decl code (Block.Choice cases None ∷ blocks) defaults deeds main true false w out h = let e = h.1 in cc

-- ---- what is made agrees with how far the reader is

alike-depth : (blocks : List Block) (open_blocks : List OpenBlock) → AreAlike blocks open_blocks → loops_open blocks ≡ loop_count open_blocks
alike-depth [] [] h = refl
alike-depth [] (inner ∷ outer) h = absurd h
alike-depth (Block.Loop top ∷ blocks) [] h = absurd h
alike-depth (Block.Choice cases d ∷ blocks) [] h = absurd h
alike-depth (Block.Loop top ∷ blocks) (OpenBlock.Choice n t e ∷ outer) h = absurd h
alike-depth (Block.Choice cases d ∷ blocks) (OpenBlock.Loop repeats held ∷ outer) h = absurd h
alike-depth (Block.Loop top ∷ blocks) (OpenBlock.Loop repeats held ∷ outer) h = omega (arith, alike-depth blocks outer h)
alike-depth (Block.Choice cases d ∷ blocks) (OpenBlock.Choice n t e ∷ outer) h = alike-depth blocks outer h.1

pub agrees-depth : (p : Progress) (b : Built) → Agrees p b → loops_open b.blocks ≡ loop_count p.blocks
agrees-depth p b agrees = alike-depth b.blocks p.blocks agrees.alike

alike-holding : (held : Held) (blocks : List Block) (open_blocks : List OpenBlock) → AreAlike blocks open_blocks → AreAlike blocks (holding held open_blocks)
alike-holding held blocks [] h = h
alike-holding held [] (OpenBlock.Loop repeats before ∷ outer) h = absurd h
alike-holding held (Block.Loop top ∷ blocks) (OpenBlock.Loop repeats before ∷ outer) h = h
alike-holding held (Block.Choice cases d ∷ blocks) (OpenBlock.Loop repeats before ∷ outer) h = absurd h
alike-holding held blocks (OpenBlock.Choice n t e ∷ outer) h = h

alike-ended : (repeats : Bool) (blocks : List Block) (open_blocks : List OpenBlock) → AreAlike blocks open_blocks → AreAlike blocks (ended_in repeats open_blocks)
alike-ended repeats blocks [] h = h
alike-ended repeats [] (OpenBlock.Loop again before ∷ outer) h = absurd h
alike-ended repeats (Block.Loop top ∷ blocks) (OpenBlock.Loop again before ∷ outer) h = h
alike-ended repeats (Block.Choice cases d ∷ blocks) (OpenBlock.Loop again before ∷ outer) h = absurd h
alike-ended repeats blocks (OpenBlock.Choice n t e ∷ outer) h = h

alike-case : (awaits : Bool) (c : Case) (blocks : List Block) (open_blocks : List OpenBlock) → AreAlike blocks open_blocks → AreAlike (case_put c blocks) (case_added awaits open_blocks)
alike-case awaits c [] [] h = tt
alike-case awaits c [] (inner ∷ outer) h = absurd h
alike-case awaits c (Block.Loop top ∷ blocks) [] h = absurd h
alike-case awaits c (Block.Choice cases d ∷ blocks) [] h = absurd h
alike-case awaits c (Block.Loop top ∷ blocks) (OpenBlock.Choice n t e ∷ outer) h = absurd h
alike-case awaits c (Block.Choice cases d ∷ blocks) (OpenBlock.Loop repeats held ∷ outer) h = absurd h
alike-case awaits c (Block.Loop top ∷ blocks) (OpenBlock.Loop repeats held ∷ outer) h = h
alike-case awaits c (Block.Choice cases d ∷ blocks) (OpenBlock.Choice n t e ∷ outer) h = h

alike-default : (to : ℕ) (blocks : List Block) (open_blocks : List OpenBlock) → AreAlike blocks open_blocks → AreAlike (default_put to blocks) (default_added open_blocks)
alike-default to [] [] h = tt
alike-default to [] (inner ∷ outer) h = absurd h
alike-default to (Block.Loop top ∷ blocks) [] h = absurd h
alike-default to (Block.Choice cases d ∷ blocks) [] h = absurd h
alike-default to (Block.Loop top ∷ blocks) (OpenBlock.Choice n t e ∷ outer) h = absurd h
alike-default to (Block.Choice cases d ∷ blocks) (OpenBlock.Loop repeats held ∷ outer) h = absurd h
alike-default to (Block.Loop top ∷ blocks) (OpenBlock.Loop repeats held ∷ outer) h = h
alike-default to (Block.Choice cases d ∷ blocks) (OpenBlock.Choice n t e ∷ outer) h = (refl, h.1)

depth-case : (awaits : Bool) (blocks : List OpenBlock) → loop_count (case_added awaits blocks) ≡ loop_count blocks
depth-case awaits [] = refl
depth-case awaits (OpenBlock.Loop repeats held ∷ outer) = refl
depth-case awaits (OpenBlock.Choice n t e ∷ outer) = refl

depth-default : (blocks : List OpenBlock) → loop_count (default_added blocks) ≡ loop_count blocks
depth-default [] = refl
depth-default (OpenBlock.Loop repeats held ∷ outer) = refl
depth-default (OpenBlock.Choice n t e ∷ outer) = refl

last-within : (n : ℕ) (cases : List Case) (c : Case) → c.to - 1 < n → AreWithin n cases → AreWithin n (cases ++ c ∷ [])
last-within n [] c h w = (h, tt)
last-within n (x ∷ cases) c h w = (w.0, last-within n cases c h w.1)

case-within : (n : ℕ) (c : Case) (blocks : List Block) → c.to - 1 < n → AllWithin n blocks → AllWithin n (case_put c blocks)
case-within n c [] h w = tt
case-within n c (Block.Loop top ∷ blocks) h w = w
case-within n c (Block.Choice cases d ∷ blocks) h w = (last-within n cases c h w.0, w.1, w.2)

default-within : (n to : ℕ) (blocks : List Block) → to - 1 < n → AllWithin n blocks → AllWithin n (default_put to blocks)
default-within n to [] h w = tt
default-within n to (Block.Loop top ∷ blocks) h w = w
default-within n to (Block.Choice cases d ∷ blocks) h w = (w.0, h, w.2)

-- outside functions no block is open
no-case : (c : Case) (blocks : List Block) → blocks ≡ [] → case_put c blocks ≡ []
no-case c blocks e = ap (case_put c) e

no-default : (to : ℕ) (blocks : List Block) → blocks ≡ [] → default_put to blocks ≡ []
no-default to blocks e = ap (default_put to) e

agrees-closes : (p : Progress) (b : Built) (count : ℕ) (awaits : Bool) (blocks : List Block) (open_blocks : List OpenBlock) → p.blocks ≡ open_blocks → b.blocks ≡ blocks → loop_count open_blocks ≤ 4 → AreAlike blocks open_blocks → AllWithin (length b.code) blocks → Agrees (progress_with p Role.Closes count awaits) (closed b blocks)
agrees-closes p b count awaits [] [] l t few e w = record {
  alike = subst (λ bs. AreAlike b.blocks (block_ended bs)) (sym l) (subst (λ bs. AreAlike bs []) (sym t) tt);
  shallow = omega (arith, ap (λ bs. loop_count (block_ended bs)) l);
  outside = λ _. t;
  within = subst (AllWithin 0) (sym t) tt;
}
agrees-closes p b count awaits [] (inner ∷ outer) l t few e w = absurd e
agrees-closes p b count awaits (Block.Loop top ∷ blocks) [] l t few e w = absurd e
agrees-closes p b count awaits (Block.Choice cases d ∷ blocks) [] l t few e w = absurd e
agrees-closes p b count awaits (Block.Loop top ∷ blocks) (OpenBlock.Choice n u f ∷ outer) l t few e w = absurd e
agrees-closes p b count awaits (Block.Choice cases d ∷ blocks) (OpenBlock.Loop repeats held ∷ outer) l t few e w = absurd e
agrees-closes p b count awaits (Block.Loop top ∷ blocks) (OpenBlock.Loop repeats held ∷ outer) l t few e w =
    let end : Instr = Instr.LoopEnd (loops_open blocks) top in
    let size = length-change (b.code ++ end ∷ []) top (leading (length b.code + 1)) in
    let more = one-more b.code end in
    record {
      alike = subst (λ bs. AreAlike blocks (block_ended bs)) (sym l) (alike-ended repeats blocks outer e);
      shallow = omega (arith, few, ap (λ bs. loop_count (block_ended bs)) l, depth-ended repeats outer);
      outside = λ h. let none : true ≡ false = ap (λ ls. not (are_none_open ls)) (sym l) ∙ h in cc;
      within = within-more (length b.code) _ blocks (omega (arith, size, more)) w.1;
    }
agrees-closes p b count awaits (Block.Choice cases d ∷ blocks) (OpenBlock.Choice n u f ∷ outer) l t few e w =
    let end : Instr = Instr.Jump (length b.code + 1) in
    let size = length-chosen (length b.code + 1) cases d cases d (b.code ++ end ∷ []) in
    let more = one-more b.code end in
    record {
      alike = subst (λ bs. AreAlike blocks (block_ended bs)) (sym l) e.1;
      shallow = omega (arith, few, ap (λ bs. loop_count (block_ended bs)) l);
      outside = λ h. let none : true ≡ false = ap (λ ls. not (are_none_open ls)) (sym l) ∙ h in cc;
      within = within-more (length b.code) _ blocks (omega (arith, size, more)) w.2;
    }

agrees-by : (names : Names) (name : List ℕ) (role : Role) (arg : Arg) (a : ℕ) (awaits : Bool) (step : Step) (count : ℕ) (p : Progress) (b : Built) → FitsRole names role arg a awaits step → stands p.inside role ≡ true → nests_wrongly p role ≡ false → Agrees p b → Agrees (progress_with p role count awaits) (built_after b (deed_of name step))
agrees-by names name (Role.Declares kind) arg a awaits (Step.Declare what) count p b fit h c agrees =
    record { alike = agrees.alike; shallow = agrees.shallow; outside = λ e. agrees.outside (not-true p.inside h); within = agrees.within }
agrees-by names name (Role.Declares kind) arg a awaits (Step.Open decl) count p b fit h c agrees =
    let none : b.blocks ≡ [] = agrees.outside (not-true p.inside h) in
    record { alike = agrees.alike; shallow = agrees.shallow; outside = λ e. none; within = subst (AllWithin 0) (sym none) tt }
agrees-by names name Role.Closes arg a awaits Step.Close count p b fit h c agrees = agrees-closes p b count awaits b.blocks p.blocks refl refl agrees.shallow agrees.alike agrees.within
agrees-by names name Role.Acts arg a awaits (Step.Do instr) count p b fit h c agrees = record {
  alike = alike-holding Held.Entered b.blocks p.blocks agrees.alike;
  shallow = omega (arith, agrees.shallow, depth-holding Held.Entered p.blocks);
  outside = agrees.outside;
  within = within-more (length b.code) (length (b.code ++ instr ∷ [])) b.blocks (omega (arith, one-more b.code instr)) agrees.within;
}
agrees-by names name Role.Loops arg a awaits (Step.Loop passes) count p b fit h c agrees =
    let top : Instr = Instr.LoopTop (loops_open b.blocks) passes 0 in
    let more : length (b.code ++ top ∷ []) ≡ length b.code + 1 = one-more b.code top in
    record {
      alike = agrees.alike;
      shallow = omega (arith, leb-false 4 (loop_count p.blocks) (or-left (leb 4 (loop_count p.blocks)) (leb 16 (length p.blocks)) c));
      outside = λ e. absurd (both_ways p.inside e h);
      within = (omega (arith, more), within-more (length b.code) (length (b.code ++ top ∷ [])) b.blocks (omega (arith, more)) agrees.within);
    }
agrees-by names name Role.Selects arg a awaits Step.Select count p b fit h c agrees = record {
  alike = (refl, alike-holding Held.Entered b.blocks p.blocks agrees.alike);
  shallow = omega (arith, agrees.shallow, depth-holding Held.Entered p.blocks);
  outside = λ e. absurd (both_ways p.inside e h);
  within = (tt, tt, agrees.within);
}
agrees-by names name Role.Chooses arg a awaits (Step.Case case) count p b fit h c agrees =
    let more : length (b.code ++ Instr.Jump 0 ∷ []) ≡ length b.code + 1 = one-more b.code (Instr.Jump 0) in
    record {
      alike = alike-case awaits (case_at case (length b.code + 1)) b.blocks p.blocks agrees.alike;
      shallow = omega (arith, agrees.shallow, depth-case awaits p.blocks);
      outside = λ e. no-case (case_at case (length b.code + 1)) b.blocks (agrees.outside e);
      within = case-within (length (b.code ++ Instr.Jump 0 ∷ [])) (case_at case (length b.code + 1)) b.blocks (omega (arith, more)) (within-more (length b.code) (length (b.code ++ Instr.Jump 0 ∷ [])) b.blocks (omega (arith, more)) agrees.within);
    }
agrees-by names name Role.Defaults arg a awaits Step.Default count p b fit h c agrees =
    let more : length (b.code ++ Instr.Jump 0 ∷ []) ≡ length b.code + 1 = one-more b.code (Instr.Jump 0) in
    record {
      alike = alike-default (length b.code + 1) b.blocks p.blocks agrees.alike;
      shallow = omega (arith, agrees.shallow, depth-default p.blocks);
      outside = λ e. no-default (length b.code + 1) b.blocks (agrees.outside e);
      within = default-within (length (b.code ++ Instr.Jump 0 ∷ [])) (length b.code + 1) b.blocks (omega (arith, more)) (within-more (length b.code) (length (b.code ++ Instr.Jump 0 ∷ [])) b.blocks (omega (arith, more)) agrees.within);
    }
agrees-by names name (Role.Declares kind) arg a awaits (Step.Do instr) count p b fit h c agrees = absurd fit
agrees-by names name (Role.Declares kind) arg a awaits (Step.Loop passes) count p b fit h c agrees = absurd fit
agrees-by names name (Role.Declares kind) arg a awaits Step.Select count p b fit h c agrees = absurd fit
agrees-by names name (Role.Declares kind) arg a awaits (Step.Case case) count p b fit h c agrees = absurd fit
agrees-by names name (Role.Declares kind) arg a awaits Step.Default count p b fit h c agrees = absurd fit
agrees-by names name (Role.Declares kind) arg a awaits Step.Close count p b fit h c agrees = absurd fit
agrees-by names name Role.Closes arg a awaits (Step.Declare what) count p b fit h c agrees = absurd fit
agrees-by names name Role.Closes arg a awaits (Step.Open decl) count p b fit h c agrees = absurd fit
agrees-by names name Role.Closes arg a awaits (Step.Do instr) count p b fit h c agrees = absurd fit
agrees-by names name Role.Closes arg a awaits (Step.Loop passes) count p b fit h c agrees = absurd fit
agrees-by names name Role.Closes arg a awaits Step.Select count p b fit h c agrees = absurd fit
agrees-by names name Role.Closes arg a awaits (Step.Case case) count p b fit h c agrees = absurd fit
agrees-by names name Role.Closes arg a awaits Step.Default count p b fit h c agrees = absurd fit
agrees-by names name Role.Acts arg a awaits (Step.Declare what) count p b fit h c agrees = absurd fit
agrees-by names name Role.Acts arg a awaits (Step.Open decl) count p b fit h c agrees = absurd fit
agrees-by names name Role.Acts arg a awaits (Step.Loop passes) count p b fit h c agrees = absurd fit
agrees-by names name Role.Acts arg a awaits Step.Select count p b fit h c agrees = absurd fit
agrees-by names name Role.Acts arg a awaits (Step.Case case) count p b fit h c agrees = absurd fit
agrees-by names name Role.Acts arg a awaits Step.Default count p b fit h c agrees = absurd fit
agrees-by names name Role.Acts arg a awaits Step.Close count p b fit h c agrees = absurd fit
agrees-by names name Role.Loops arg a awaits (Step.Declare what) count p b fit h c agrees = absurd fit
agrees-by names name Role.Loops arg a awaits (Step.Open decl) count p b fit h c agrees = absurd fit
agrees-by names name Role.Loops arg a awaits (Step.Do instr) count p b fit h c agrees = absurd fit
agrees-by names name Role.Loops arg a awaits Step.Select count p b fit h c agrees = absurd fit
agrees-by names name Role.Loops arg a awaits (Step.Case case) count p b fit h c agrees = absurd fit
agrees-by names name Role.Loops arg a awaits Step.Default count p b fit h c agrees = absurd fit
agrees-by names name Role.Loops arg a awaits Step.Close count p b fit h c agrees = absurd fit
agrees-by names name Role.Selects arg a awaits (Step.Declare what) count p b fit h c agrees = absurd fit
agrees-by names name Role.Selects arg a awaits (Step.Open decl) count p b fit h c agrees = absurd fit
agrees-by names name Role.Selects arg a awaits (Step.Do instr) count p b fit h c agrees = absurd fit
agrees-by names name Role.Selects arg a awaits (Step.Loop passes) count p b fit h c agrees = absurd fit
agrees-by names name Role.Selects arg a awaits (Step.Case case) count p b fit h c agrees = absurd fit
agrees-by names name Role.Selects arg a awaits Step.Default count p b fit h c agrees = absurd fit
agrees-by names name Role.Selects arg a awaits Step.Close count p b fit h c agrees = absurd fit
agrees-by names name Role.Chooses arg a awaits (Step.Declare what) count p b fit h c agrees = absurd fit
agrees-by names name Role.Chooses arg a awaits (Step.Open decl) count p b fit h c agrees = absurd fit
agrees-by names name Role.Chooses arg a awaits (Step.Do instr) count p b fit h c agrees = absurd fit
agrees-by names name Role.Chooses arg a awaits (Step.Loop passes) count p b fit h c agrees = absurd fit
agrees-by names name Role.Chooses arg a awaits Step.Select count p b fit h c agrees = absurd fit
agrees-by names name Role.Chooses arg a awaits Step.Default count p b fit h c agrees = absurd fit
agrees-by names name Role.Chooses arg a awaits Step.Close count p b fit h c agrees = absurd fit
agrees-by names name Role.Defaults arg a awaits (Step.Declare what) count p b fit h c agrees = absurd fit
agrees-by names name Role.Defaults arg a awaits (Step.Open decl) count p b fit h c agrees = absurd fit
agrees-by names name Role.Defaults arg a awaits (Step.Do instr) count p b fit h c agrees = absurd fit
agrees-by names name Role.Defaults arg a awaits (Step.Loop passes) count p b fit h c agrees = absurd fit
agrees-by names name Role.Defaults arg a awaits Step.Select count p b fit h c agrees = absurd fit
agrees-by names name Role.Defaults arg a awaits (Step.Case case) count p b fit h c agrees = absurd fit
agrees-by names name Role.Defaults arg a awaits Step.Close count p b fit h c agrees = absurd fit

-- ---- how far the reader is

-- the count of a loop is the value of its first word; no other line has one
count-is : (names : Names) (p : Progress) (k : Keyword) (word : List ℕ) (awaits : Bool) → progress_with p (form_of k).role (unwrap_or (value_of names (form_of k).first word) 0) awaits ≡ progress_with p (form_of k).role (count_of word) awaits
count-is names p Keyword.Loop word awaits = refl
count-is names p _ word awaits = refl

pub passed : (names : Names) (p : Progress) (line : NumberedLine) (c : Command) (s : Statement) → command_of line.words ≡ Some c → s ≡ statement_of names c → progress_with p (role_of s) (unwrap_or s.first 0) s.awaits ≡ progress_after names p line
passed names p line c s h e =
    ap (λ (t : Statement). progress_with p (role_of t) (unwrap_or t.first 0) t.awaits) e ∙ count-is names p c.keyword c.first (awaits_timer names c)
    ∙ sym (ap (λ (o : Option Command). elim o [ None ↦ p | Some d ↦ progress_with p (form_of d.keyword).role (count_of d.first) (awaits_timer names d) ]) h)

-- where a cause is looked for and none is found, the statement is right
pub right-at : (r r' : Reader) (is_last lacks_main : Bool) (s : Statement) → r ≡ r' → None ≡ first_cause (causes is_last lacks_main r.progress s) → IsRight is_last lacks_main r'.progress s
right-at r r' is_last lacks_main s same none =
    is_right is_last lacks_main r'.progress s (ap (λ (x : Reader). first_cause (causes is_last lacks_main x.progress s)) (sym same) ∙ sym none)

-- a right statement does something
pub step-IsSome : (names : Names) (c : Command) (s : Statement) (is_last lacks_main : Bool) (p : Progress) → s ≡ statement_of names c → IsRight is_last lacks_main p s → IsSome (step_with s)
step-IsSome names c s is_last lacks_main p e right =
    let r : IsRight is_last lacks_main p (statement_of names c) = subst (IsRight is_last lacks_main p) e right in
    let what : Doing names c = doing names c r.names r.counts in
    let P : Option Step → Type 0 = λ o. IsSome o in
    subst P (sym (ap step_with e ∙ what.step_is)) refl

built-is : (b b' : Built) (name : List ℕ) (o : Option Step) (step : Step) → o ≡ Some step → IfSome o (λ s. b' ≡ built_after b (deed_of name s)) → b' ≡ built_after b (deed_of name step)
built-is b b' name o step e h = let P : Option Step → Type 0 = λ x. IfSome x (λ s. b' ≡ built_after b (deed_of name s)) in subst P e h

pub goes : (names : Names) (p : Progress) (b b' : Built) (line : NumberedLine) (c : Command) (s : Statement) (inside' is_last lacks_main : Bool) → command_of line.words ≡ Some c → s ≡ statement_of names c → IsRight is_last lacks_main p s → Agrees p b → inside' ≡ inside_after p (role_of s) → IfSome (step_with s) (λ step. b' ≡ built_after b (deed_of c.first step)) → Goes names p.inside b line inside' b'
goes names p b b' line c s inside' is_last lacks_main h e right agrees i made = λ lines.
    let role : Role = (form_of c.keyword).role in
    let r : IsRight is_last lacks_main p (statement_of names c) = subst (IsRight is_last lacks_main p) e right in
    let what : Doing names c = doing names c r.names r.counts in
    let deed : Deed = deed_of c.first what.step in
    let main : ℕ = func_place (names (codes "main")) in
    let rest : List Deed = deeds_of names lines in
    let deeds : deeds_of names (line ∷ lines) ≡ deed ∷ rest =
    ap (λ o. option_to_list o ++ rest) (ap (option_and_then (deed_with names)) h ∙ ap (option_map (deed_of c.first)) what.step_is) in
    let b_is : b' ≡ built_after b deed = built-is b b' c.first (step_with s) what.step (ap step_with e ∙ what.step_is) made in
    ap (λ x. script_by x b' rest main) (i ∙ ap (λ (t : Statement). inside_after p (role_of t)) e)
    ∙ ap (λ x. script_by (inside_after p role) x rest main) b_is
    ∙ deed-left b.decls b.funcs b.open_decl b.code b.blocks deed rest main p.inside (inside_after p role) agrees.within agrees.outside
    (moves names c.first role (form_of c.keyword).first what.first (awaits_timer names c) what.step p b what.fits r.stands_here r.nested r.chosen agrees)
    ∙ ap (λ ds. script_by p.inside b ds main) (sym deeds)

pub agrees : (names : Names) (p p' : Progress) (b b' : Built) (c : Command) (s : Statement) (count : ℕ) (is_last lacks_main : Bool) → s ≡ statement_of names c → IsRight is_last lacks_main p s → Agrees p b → p' ≡ progress_with p (role_of s) count s.awaits → IfSome (step_with s) (λ step. b' ≡ built_after b (deed_of c.first step)) → Agrees p' b'
agrees names p p' b b' c s count is_last lacks_main e right old i made =
    let role : Role = (form_of c.keyword).role in
    let r : IsRight is_last lacks_main p (statement_of names c) = subst (IsRight is_last lacks_main p) e right in
    let what : Doing names c = doing names c r.names r.counts in
    let b_is : b' ≡ built_after b (deed_of c.first what.step) = built-is b b' c.first (step_with s) what.step (ap step_with e ∙ what.step_is) made in
    let p_is : p' ≡ progress_with p role count (awaits_timer names c) = i ∙ ap (λ (t : Statement). progress_with p (role_of t) count t.awaits) e in
    subst (Agrees p') (sym b_is) (subst (λ q. Agrees q (built_after b (deed_of c.first what.step))) (sym p_is)
    (agrees-by names c.first role (form_of c.keyword).first what.first (awaits_timer names c) what.step count p b what.fits r.stands_here r.nested old))

-- ---- faults

pub fault-is : (f : ScriptFault) (line : ℕ) (why : Why) → f.line ≡ line → f.why ≡ why → fault_of line why ≡ f
fault-is f line why e h = ap (λ l. fault_of l why) (sym e) ∙ ap (λ w. fault_of f.line w) (sym h)

-- the first line with a cause has the fault
pub fault-here : (names : Names) (p : Progress) (line : NumberedLine) (rest : List NumberedLine) (is_last : Bool) (f : ScriptFault) → is_last ≡ is_end rest → f.line ≡ line.number → cause_at names is_last p line ≡ Some f.why → fault_from names p (line ∷ rest) ≡ Some f
fault-here names p line rest is_last f last at h =
    ap (λ o. fault_or o line.number (fault_from names (progress_after names p line) rest)) (ap (λ b. cause_at names b p line) (sym last) ∙ h)
    ∙ ap (λ (x : ScriptFault). Some x) (fault-is f line.number f.why at refl)

-- a line with none leads to the next one
pub fault-later : (names : Names) (p : Progress) (line : NumberedLine) (rest : List NumberedLine) (is_last : Bool) → is_last ≡ is_end rest → cause_at names is_last p line ≡ None → fault_from names p (line ∷ rest) ≡ fault_from names (progress_after names p line) rest
fault-later names p line rest is_last last h =
    ap (λ o. fault_or o line.number (fault_from names (progress_after names p line) rest)) (ap (λ b. cause_at names b p line) (sym last) ∙ h)

-- the words of the head
pub is_head-words : (name kind version : List ℕ) (words rest : Words) → words ≡ kind ∷ rest → only_word rest ≡ Some version → is_head (name ∷ words) ≡ (bytes_eq name (codes "gotime") && bytes_eq kind (codes "script") && bytes_eq version (codes "1"))
is_head-words name kind version words [] e one = cc
is_head-words name kind version words (v ∷ []) e one = let same : v ≡ version = cc in rw (e, same) refl
is_head-words name kind version words (v ∷ u ∷ more) e one = cc

-- the first line has a cause
pub head-fault : (all : List NumberedLine) (names : Names) (head : NumberedLine) (lines : List NumberedLine) (is_last : Bool) (why : Why) → all ≡ head ∷ lines → names ≡ names_of all → is_last ≡ is_end lines → Some why ≡ head_cause names is_last head → fault_in_lines all ≡ Some (fault_of head.number why)
head-fault all names head lines is_last why e n last h =
    ap fault_in_lines e
    ∙ ap (λ o. fault_or o head.number (fault_from (names_of (head ∷ lines)) no_progress lines))
    (ap (λ (m : Names). head_cause m (is_end lines) head) (sym (n ∙ ap names_of e)) ∙ ap (λ b. head_cause names b head) (sym last) ∙ sym h)

-- the first line has none
pub head-right : (all : List NumberedLine) (names : Names) (head : NumberedLine) (lines : List NumberedLine) (is_last : Bool) → all ≡ head ∷ lines → names ≡ names_of all → is_last ≡ is_end lines → None ≡ head_cause names is_last head → fault_in_lines all ≡ fault_from names no_progress lines
head-right all names head lines is_last e n last h =
    ap fault_in_lines e
    ∙ ap (λ o. fault_or o head.number (fault_from (names_of (head ∷ lines)) no_progress lines))
    (ap (λ (m : Names). head_cause m (is_end lines) head) (sym (n ∙ ap names_of e)) ∙ ap (λ b. head_cause names b head) (sym last) ∙ sym h)
    ∙ ap (λ (m : Names). fault_from m no_progress lines) (sym (n ∙ ap names_of e))

pub script-is : (all : List NumberedLine) (names : Names) (head : NumberedLine) (lines : List NumberedLine) → all ≡ head ∷ lines → names ≡ names_of all → script_with names lines ≡ script_of all
script-is all names head lines e n = ap (λ (m : Names). script_with m lines) (n ∙ ap names_of e) ∙ ap script_of (sym e)

-- ---- results

pub on-ok : {T E P Q : Type 0} (r : Result T E) → (P → Q) → OnOk r P → OnOk r Q
on-ok (Ok x) f h = f h
on-ok (Err e) f h = tt

pub if-ok : {T E : Type 0} {P Q : T → Type 0} (r : Result T E) → ((x : T) → P x → Q x) → IfOk r P → IfOk r Q
if-ok (Ok x) f h = f x h
if-ok (Err e) f h = tt

pub if-err : {T E : Type 0} {P Q : E → Type 0} (r : Result T E) → ((e : E) → P e → Q e) → IfErr r P → IfErr r Q
if-err (Ok x) f h = tt
if-err (Err e) f h = f e h

pub if-refused : (P Q : ScriptFault → Type 0) (u : Unread) → ((f : ScriptFault) → P f → Q f) → IfRefused u P → IfRefused u Q
if-refused P Q (Unread.Refused fault) f h = f fault h
if-refused P Q Unread.NoMemory f h = tt

-- of the faults of a refusal
pub if-err_refused : {T : Type 0} (P Q : ScriptFault → Type 0) (r : Result T Unread) → ((f : ScriptFault) → P f → Q f) → IfErr r (λ u. IfRefused u P) → IfErr r (λ u. IfRefused u Q)
if-err_refused P Q (Ok x) f h = tt
if-err_refused P Q (Err u) f h = if-refused P Q u f h
