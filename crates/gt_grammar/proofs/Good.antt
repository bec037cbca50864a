-- A script that a text spells is good.
use Rattle.std.proofs.Common.{◌≡◌, ℕ, ◌+◌, ◌<◌, ◌≤◌, Bool, true, false, not, cond, ◌&&◌, ◌||◌, List, [], ◌∷◌, ◌++◌, length, Option, None, Some, IfSome, Result, Ok, Err, OnOk, IfOk, refl, sym, ap, subst, ◌∙◌, arith, codes, leb, ltb}
use Rattle.std.specs.Option.{option_map, option_and_then, option_to_list, unwrap_or}
use Rattle.std.specs.Str.{bytes_eq}
use Rattle.std.proofs.lemmas.Slice.Eq.{bytes_eq-Decides}
use Rattle.std.proofs.lemmas.Bool.{leb-false, not-false, and_parts, both_ways}
use Rattle.gt_model.specs.declared.script.Script.{Script}
use Rattle.gt_model.specs.declared.script.What.{What}
use Rattle.gt_model.specs.declared.script.Instr.{Instr}
use Rattle.gt_model.specs.declared.script.CaseKind.{CaseKind}
use Rattle.gt_model.specs.Good.{IsGood}
use Rattle.gt_lines.specs.Words.{Words, NumberedLine, next, is_end}
use Rattle.gt_table.specs.declared.form.Arg.{Arg}
use Rattle.gt_table.specs.declared.form.CtxForm.{CtxForm}
use Rattle.gt_table.specs.declared.form.Kind.{Kind}
use Rattle.gt_table.specs.declared.form.Role.{Role}
use Rattle.gt_table.specs.declared.form.Step.{Step}
use Rattle.gt_table.specs.declared.table.Keyword.{Keyword}
use Rattle.gt_table.specs.Forms.{declared_kind, is_wanted, is_kind_function, is_declaration as is_declaring}
use Rattle.gt_table.specs.Table.{keyword_of, case_keyword_of, ctx_form_of, ctx_with, cancel_with, form_of}
use Rattle.gt_names.specs.declared.names.Declared.{Declared}
use Rattle.gt_names.specs.Names.{Names, Naming, naming, is_free_name, form_told, kind_of, named, naming_of, functions_with, Declaration, declaration, declarations_from, find, names_of}
use Rattle.gt_grammar.specs.declared.fault.Why.{Why}
use Rattle.gt_grammar.specs.declared.progress.OpenBlock.{OpenBlock}
use Rattle.gt_grammar.specs.declared.progress.Held.{Held}
use Rattle.gt_grammar.specs.Progress.{Progress}
use Rattle.gt_grammar.specs.Statements.{Command, command, are_two, tail_by, tail_with, command_by, command_with, command_in, case_of, ctx_of, cancel_of, command_of, awaits_timer, value_of, is_head}
use Rattle.gt_grammar.specs.Deeds.{Deed, declares, opens, does, loops, selects, chooses, defaults, closes, deed_of, deed_with, deed_at, deeds_of, func_place, script_in, script_with, script_of}
use Rattle.gt_grammar.specs.Faults.{test, stands, is_before, is_function, are_none_open, may_end, ends_wrongly, nests_wrongly, selects_wrongly, in_choice, loop_count, holding, block_ended, case_added, default_added, count_if, count_of, progress_after, progress_with, brings_too_many, lacks_main, fault_from, fault_in_lines, head_cause, no_progress}
use Rattle.gt_grammar.proofs.Rightly.{kind_in, place_of, is_declared_before, naming_as, names_in, Refers, RefersCase, Starts, Precedes, IsNew, IsChosen, MayChoose, MayDefault, Right, opened, chosen_in}
use Rattle.gt_grammar.proofs.KindTests.{started, starts_functions}
use Rattle.gt_grammar.proofs.DeedsGood.{deeds-good}
use Rattle.gt_grammar.proofs.Fits.{FitsRole, IsFree, new-value, step_parent}
use Rattle.gt_grammar.proofs.RightLines.{first-None, Doing, doing, RightLine, AllRight, all_right, fault_or-None}

-- ---- what a line declares, by its command

-- the first word of a command is the word behind the keyword, if one is wanted
abbrev FirstIs : Bool → Words → List ℕ → Type 0
FirstIs false words first = first ≡ []
FirstIs true [] first = ⊥
FirstIs true (word ∷ words) first = first ≡ word

record CommandIs (k : Keyword) (wanted : Bool) (words : Words) (c : Command) : Type 0 where
  keyword : c.keyword ≡ k
  first : FirstIs wanted words c.first

command-is : (k : Keyword) (first second third fourth : List ℕ) (c : Command) → Some (command k first second third fourth) ≡ Some c → (c.keyword ≡ k) × (c.first ≡ first)
command-is k first second third fourth c h =
    let same : c ≡ command k first second third fourth = cc in
    (ap (λ (d : Command). d.keyword) same, ap (λ (d : Command). d.first) same)

tail-words : (k : Keyword) (x y : Bool) (a b : List ℕ) (words : Words) (c : Command) → tail_by k x y a b words ≡ Some c → (c.keyword ≡ k) × (c.first ≡ a)
tail-words k false false a b [] c h = command-is k a b [] [] c h
tail-words k false false a b (w ∷ ws) c h = cc
tail-words k false true a b [] c h = cc
tail-words k false true a b (w ∷ []) c h = command-is k a b [] w c h
tail-words k false true a b (w ∷ v ∷ ws) c h = cc
tail-words k true false a b [] c h = cc
tail-words k true false a b (w ∷ []) c h = command-is k a b w [] c h
tail-words k true false a b (w ∷ v ∷ ws) c h = cc
tail-words k true true a b [] c h = cc
tail-words k true true a b (w ∷ []) c h = cc
tail-words k true true a b (w ∷ v ∷ []) c h = command-is k a b w v c h
tail-words k true true a b (w ∷ v ∷ u ∷ ws) c h = cc

tail-is : (k : Keyword) (a b : List ℕ) (words : Words) (c : Command) → tail_with k a b words ≡ Some c → (c.keyword ≡ k) × (c.first ≡ a)
tail-is k a b words c h = tail-words k (is_wanted (form_of k).third) (is_wanted (form_of k).fourth) a b words c h

with-words : (k : Keyword) (x y : Bool) (words : Words) (c : Command) → command_by k x y words ≡ Some c → CommandIs k x words c
with-words k false false words c h = let e = tail-is k [] [] words c h in record { keyword = e.0; first = e.1 }
with-words k false true [] c h = cc
with-words k false true (w ∷ ws) c h = let e = tail-is k [] w ws c h in record { keyword = e.0; first = e.1 }
with-words k true false [] c h = cc
with-words k true false (w ∷ ws) c h = let e = tail-is k w [] ws c h in record { keyword = e.0; first = e.1 }
with-words k true true [] c h = cc
with-words k true true (w ∷ []) c h = cc
with-words k true true (w ∷ v ∷ ws) c h = let e = tail-is k w v ws c h in record { keyword = e.0; first = e.1 }

command-keyword : (k : Keyword) (words : Words) (c : Command) → command_with k words ≡ Some c → c.keyword ≡ k
command-keyword k words c h = let is : CommandIs k (is_wanted (form_of k).first) words c = with-words k (is_wanted (form_of k).first) (is_wanted (form_of k).second) words c h in is.keyword

abbrev role_in : Keyword → Role
role_in k = (form_of k).role

abbrev kind_by : Option Keyword → Option Kind
kind_by o = option_and_then (λ (k : Keyword). declared_kind (role_in k)) o

abbrev naming_by : Option Keyword → Words → Option Naming
naming_by o [] = None
naming_by o (name ∷ words) = named name (kind_by o)

cond-None : {X : Type 0} (b : Bool) → cond {A = Option X} b None None ≡ None
cond-None true = refl
cond-None false = refl

named-none : (word : List ℕ) → named word None ≡ None
named-none word = cond-None (is_free_name word)

naming-first : (kind : Option Kind) (wanted : Bool) (o : Option Keyword) (words : Words) (first : List ℕ) → kind_by o ≡ kind → (wanted ≡ false → kind ≡ None) → FirstIs wanted words first → naming_by o words ≡ named first kind
naming-first kind false o [] first e none is = sym (ap (λ w. named w kind) is ∙ first-none kind)
  where
    first-none : (k : Option Kind) → named [] k ≡ None
    first-none None = refl
    first-none (Some k) = refl
naming-first kind false o (word ∷ words) first e none is =
    ap (named word) (e ∙ none refl) ∙ named-none word ∙ sym (ap (named first) (none refl) ∙ named-none first)
naming-first kind true o [] first e none is = absurd is
naming-first kind true o (word ∷ words) first e none is = ap (named word) e ∙ ap (λ w. named w kind) (sym is)

naming-command : (o : Option Keyword) (words : Words) (c : Command) → option_and_then (λ (k : Keyword). command_with k words) o ≡ Some c → (is_wanted (form_of c.keyword).first ≡ false → declared_kind (role_in c.keyword) ≡ None) → naming_by o words ≡ named c.first (declared_kind (role_in c.keyword))
naming-command None words c h none = cc
naming-command (Some k) words c h none =
    let is : CommandIs k (is_wanted (form_of k).first) words c = with-words k (is_wanted (form_of k).first) (is_wanted (form_of k).second) words c h in
    let P : Keyword → Type 0 = λ x. FirstIs (is_wanted (form_of x).first) words c.first in
    naming-first (declared_kind (role_in c.keyword)) (is_wanted (form_of c.keyword).first) (Some k) words c.first (ap (λ x. declared_kind (role_in x)) (sym is.keyword)) none (subst P (sym is.keyword) is.first)

-- the line of a context tells its form by itself
abbrev kind_with : Bool → List ℕ → Words → Option Kind
kind_with ctx word words = cond ctx (Some (Kind.Ctx (form_told words))) (kind_by (keyword_of word))

naming-words : (word : List ℕ) (words : Words) → bytes_eq word (codes "ctx") ≡ false → naming_of (word ∷ words) ≡ naming_by (keyword_of word) words
naming-words word [] e = refl
naming-words word (name ∷ words) e = ap (λ b. named name (kind_with b word (name ∷ words))) e

-- a case declares nothing
case-role : (k : Keyword) (word : List ℕ) → case_keyword_of word ≡ Some k → declared_kind (role_in k) ≡ None
case-role k word h = by (bytes_eq word (codes "recv")) (bytes_eq word (codes "send")) h
  where
    by : (recv send : Bool) → cond recv (Some Keyword.CaseRecv) (cond send (Some Keyword.CaseSend) None) ≡ Some k → declared_kind (role_in k) ≡ None
    by true send e = let same : k ≡ Keyword.CaseRecv = cc in ap (λ x. declared_kind (role_in x)) same
    by false true e = let same : k ≡ Keyword.CaseSend = cc in ap (λ x. declared_kind (role_in x)) same
    by false false e = cc

case-declares : (o : Option Keyword) (words : Words) (c : Command) → command_in o words ≡ Some c → ((k : Keyword) → o ≡ Some k → declared_kind (role_in k) ≡ None) → declared_kind (role_in c.keyword) ≡ None
case-declares None words c h none = cc
case-declares (Some k) words c h none = ap (λ x. declared_kind (role_in x)) (command-keyword k words c h) ∙ none k refl

case-none : (words : Words) (c : Command) → case_of words ≡ Some c → declared_kind (role_in c.keyword) ≡ None
case-none [] c h = cc
case-none (word ∷ words) c h = case-declares (case_keyword_of word) words c h (λ k e. case-role k word e)

-- and neither does a cancel
cancel-none : (words : Words) (c : Command) → cancel_of words ≡ Some c → declared_kind (role_in c.keyword) ≡ None
cancel-none words c h = ap (λ x. declared_kind (role_in x)) (command-keyword (cancel_with (are_two words)) words c h) ∙ by (are_two words)
  where
    by : (caused : Bool) → declared_kind (role_in (cancel_with caused)) ≡ None
    by true = refl
    by false = refl

no-name : (word : List ℕ) (words : Words) (first : List ℕ) (kind : Option Kind) → kind_of word words ≡ None → kind ≡ None → naming_of (word ∷ words) ≡ named first kind
no-name word [] first kind e none = sym (ap (named first) none ∙ named-none first)
no-name word (name ∷ words) first kind e none = ap (named name) e ∙ named-none name ∙ sym (ap (named first) none ∙ named-none first)

-- a context is declared with the form that its line tells
ctx-kind : (form : CtxForm) (caused : Bool) → declared_kind (role_in (ctx_with caused form)) ≡ Some (Kind.Ctx (Some form))
ctx-kind CtxForm.Cancel caused = refl
ctx-kind CtxForm.Cause caused = refl
ctx-kind CtxForm.Timeout true = refl
ctx-kind CtxForm.Timeout false = refl
ctx-kind CtxForm.Without caused = refl

ctx-named : (name parent : List ℕ) (words : Words) (c : Command) (o : Option CtxForm) → option_and_then (λ (k : Keyword). tail_with k name parent words) (option_map (ctx_with (are_two words)) o) ≡ Some c
    → named name (Some (Kind.Ctx o)) ≡ named c.first (declared_kind (role_in c.keyword))
ctx-named name parent words c None h = cc
ctx-named name parent words c (Some form) h =
    let is = tail-is (ctx_with (are_two words) form) name parent words c h in
    let kind : declared_kind (role_in c.keyword) ≡ Some (Kind.Ctx (Some form)) = ap (λ k. declared_kind (role_in k)) is.0 ∙ ctx-kind form (are_two words) in
    ap (named name) (sym kind) ∙ ap (λ w. named w (declared_kind (role_in c.keyword))) (sym is.1)

ctx-naming : (word : List ℕ) (words : Words) (c : Command) → word ≡ codes "ctx" → ctx_of words ≡ Some c → naming_of (word ∷ words) ≡ named c.first (declared_kind (role_in c.keyword))
ctx-naming word [] c is h = cc
ctx-naming word (name ∷ []) c is h = cc
ctx-naming word (name ∷ parent ∷ []) c is h = cc
ctx-naming word (name ∷ parent ∷ form ∷ words) c is h =
    ap (λ w. named name (kind_of w (name ∷ parent ∷ form ∷ words))) is ∙ ctx-named name parent words c (ctx_form_of form) h

naming-by-word : (word : List ℕ) (words : Words) (c : Command) (case ctx cancel : Bool) → bytes_eq word (codes "case") ≡ case → bytes_eq word (codes "ctx") ≡ ctx → bytes_eq word (codes "cancel") ≡ cancel
    → cond case (case_of words) (cond ctx (ctx_of words) (cond cancel (cancel_of words) (command_in (keyword_of word) words))) ≡ Some c
    → (is_wanted (form_of c.keyword).first ≡ false → declared_kind (role_in c.keyword) ≡ None) → naming_of (word ∷ words) ≡ named c.first (declared_kind (role_in c.keyword))
naming-by-word word words c true ctx cancel e f g h none =
    let same : word ≡ codes "case" = (bytes_eq-Decides word (codes "case")).0 e in
    no-name word words c.first (declared_kind (role_in c.keyword)) (ap (λ w. kind_of w words) same) (case-none words c h)
naming-by-word word words c false true cancel e f g h none = ctx-naming word words c ((bytes_eq-Decides word (codes "ctx")).0 f) h
naming-by-word word words c false false true e f g h none =
    let same : word ≡ codes "cancel" = (bytes_eq-Decides word (codes "cancel")).0 g in
    no-name word words c.first (declared_kind (role_in c.keyword)) (ap (λ w. kind_of w words) same) (cancel-none words c h)
naming-by-word word words c false false false e f g h none = naming-words word words f ∙ naming-command (keyword_of word) words c h none

naming-is : (words : Words) (c : Command) → command_of words ≡ Some c → (is_wanted (form_of c.keyword).first ≡ false → declared_kind (role_in c.keyword) ≡ None) → naming_of words ≡ named c.first (declared_kind (role_in c.keyword))
naming-is [] c h none = cc
naming-is (word ∷ words) c h none =
    naming-by-word word words c (bytes_eq word (codes "case")) (bytes_eq word (codes "ctx")) (bytes_eq word (codes "cancel")) refl refl refl h none

-- a line that declares wants a name
wants-name : (names : Names) (role : Role) (arg : Arg) (a : ℕ) (awaits : Bool) (step : Step) → FitsRole names role arg a awaits step → is_wanted arg ≡ false → declared_kind role ≡ None
wants-name names (Role.Declares kind) arg a awaits (Step.Declare what) f h = let e : is_wanted arg ≡ true = ap is_wanted f.0 in cc
wants-name names (Role.Declares kind) arg a awaits (Step.Open decl) f h = let e : is_wanted arg ≡ true = ap is_wanted f.0 in cc
wants-name names (Role.Declares kind) arg a awaits (Step.Do instr) f h = absurd f
wants-name names (Role.Declares kind) arg a awaits Step.Close f h = absurd f
wants-name names (Role.Declares kind) arg a awaits (Step.Loop count) f h = absurd f
wants-name names (Role.Declares kind) arg a awaits Step.Select f h = absurd f
wants-name names (Role.Declares kind) arg a awaits (Step.Case case) f h = absurd f
wants-name names (Role.Declares kind) arg a awaits Step.Default f h = absurd f
wants-name names Role.Closes arg a awaits step f h = refl
wants-name names Role.Acts arg a awaits step f h = refl
wants-name names Role.Loops arg a awaits step f h = refl
wants-name names Role.Selects arg a awaits step f h = refl
wants-name names Role.Chooses arg a awaits step f h = refl
wants-name names Role.Defaults arg a awaits step f h = refl

-- ---- what lines with nothing wrong do

record Done (names : Names) (p : Progress) (lines : List NumberedLine) : Type 0 where
  are : declarations_from p.names p.functions lines ≡ names_in p.names p.functions (deeds_of names lines)
  right : Right names p.inside p.blocks p.names p.functions p.instructions (deeds_of names lines)

next-is : (n : ℕ) → n < 4096 → next n ≡ n + 1
next-is n h = omega arith

abbrev declared_by : ℕ → ℕ → List NumberedLine → Option Naming → List Declaration
declared_by n f lines o = elim o [
  | None ↦ declarations_from n f lines
  | Some m ↦ declaration m n f ∷ declarations_from (next n) (functions_with m.kind f) lines
]

abbrev progress : Bool → List OpenBlock → ℕ → ℕ → ℕ → Progress
progress inside blocks n f k = record { inside = inside; blocks = blocks; names = n; functions = f; instructions = k }

abbrev with_deed : Option Deed → List Deed → List Deed
with_deed o deeds = option_to_list o ++ deeds

-- the line does this deed, and declares this
record Says (names : Names) (line : NumberedLine) (deed : Deed) (naming : Option Naming) : Type 0 where
  deed_is : deed_at names line ≡ Some deed
  naming_is : naming_of line.words ≡ naming

by-deed : (names : Names) (p : Progress) (line : NumberedLine) (rest : List NumberedLine) (deed : Deed) (naming : Option Naming) → Says names line deed naming
    → declared_by p.names p.functions rest naming ≡ names_in p.names p.functions (deed ∷ deeds_of names rest)
    → Right names p.inside p.blocks p.names p.functions p.instructions (deed ∷ deeds_of names rest) → Done names p (line ∷ rest)
by-deed names p line rest deed naming says are right =
    let deeds : deeds_of names (line ∷ rest) ≡ deed ∷ deeds_of names rest = ap (λ o. with_deed o (deeds_of names rest)) says.deed_is in
    record {
      are = ap (declared_by p.names p.functions rest) says.naming_is ∙ are ∙ ap (names_in p.names p.functions) (sym deeds);
      right = subst (Right names p.inside p.blocks p.names p.functions p.instructions) (sym deeds) right;
    }

or-first : (a b : Bool) → (a || b) ≡ false → a ≡ false
or-first true b h = cc
or-first false b h = refl

or-second : (a b : Bool) → (a || b) ≡ false → b ≡ false
or-second true b h = cc
or-second false b h = h

-- outside functions no loop is open
abbrev NoneOutside : Bool → List OpenBlock → Type 0
NoneOutside inside blocks = inside ≡ false → blocks ≡ []

are-none : (blocks : List OpenBlock) → not (are_none_open blocks) ≡ false → blocks ≡ []
are-none [] h = refl
are-none (inner ∷ outer) h = cc

none-outside : (p : Progress) (role : Role) (count : ℕ) (awaits : Bool) → stands p.inside role ≡ true → NoneOutside p.inside p.blocks → NoneOutside (progress_with p role count awaits).inside (progress_with p role count awaits).blocks
none-outside p (Role.Declares kind) count awaits here none = λ e. none (or-second (is_kind_function kind) p.inside e)
none-outside p Role.Closes count awaits here none = λ e. ap block_ended (are-none p.blocks e)
none-outside p Role.Acts count awaits here none = λ e. ap (holding Held.Entered) (none e)
none-outside p Role.Loops count awaits here none = λ e. absurd (both_ways p.inside e here)
none-outside p Role.Selects count awaits here none = λ e. absurd (both_ways p.inside e here)
none-outside p Role.Chooses count awaits here none = λ e. ap (case_added awaits) (none e)
none-outside p Role.Defaults count awaits here none = λ e. ap default_added (none e)

done-declares : (names : Names) (inside : Bool) (blocks : List OpenBlock) (n f k : ℕ) (line : NumberedLine) (rest : List NumberedLine) (name : List ℕ) (what : What) → Says names line (declares name what) (Some (naming_as name (kind_in what))) → not inside ≡ true → n < 4096 → IsNew names name n → Starts names what → Precedes n what → Done names (progress inside blocks (n + 1) f k) rest → Done names (progress inside blocks n f k) (line ∷ rest)
done-declares names true blocks n f k line rest name what says here room new starts early ih = cc
done-declares names false blocks n f k line rest name what says here room new starts early ih =
    let x : Naming = naming_as name (kind_in what) in
    by-deed names (progress false blocks n f k) line rest (declares name what) (Some x) says
    (ap (λ m. declaration x n f ∷ declarations_from m (functions_with (kind_in what) f) rest) (next-is n room)
    ∙ ap (λ m. declaration x n f ∷ declarations_from (n + 1) m rest) (starts_functions names what f starts)
    ∙ ap (λ ds. declaration x n f ∷ ds) ih.are)
    (refl, room, new, starts, early, ih.right)

done-opens : (names : Names) (inside : Bool) (blocks : List OpenBlock) (n f k : ℕ) (line : NumberedLine) (rest : List NumberedLine) (name : List ℕ) (decl : ℕ) → Says names line (opens name decl) (Some (naming_as name Kind.Function)) → not inside ≡ true → n < 4096 → f < 256 → IsNew names name n → decl ≡ place_of (names name) → NoneOutside inside blocks → Done names (progress true blocks (n + 1) (f + 1) k) rest → Done names (progress inside blocks n f k) (line ∷ rest)
done-opens names true blocks n f k line rest name decl says here room few new place none ih = cc
done-opens names false blocks n f k line rest name decl says here room few new place none ih =
    let x : Naming = naming_as name Kind.Function in
    let P : List OpenBlock → Type 0 = λ ls. Right names true ls (n + 1) (f + 1) k (deeds_of names rest) in
    by-deed names (progress false blocks n f k) line rest (opens name decl) (Some x) says
    (ap (λ m. declaration x n f ∷ declarations_from m (next f) rest) (next-is n room)
    ∙ ap (λ m. declaration x n f ∷ declarations_from (n + 1) m rest) (next-is f (omega arith))
    ∙ ap (λ ds. declaration x n f ∷ ds) ih.are)
    (refl, room, few, new, place, none refl, subst P (none refl) ih.right)

done-does : (names : Names) (inside : Bool) (blocks : List OpenBlock) (n f k : ℕ) (line : NumberedLine) (rest : List NumberedLine) (i : Instr) → Says names line (does i) None → inside ≡ true → k < 100000 → Refers names i → Done names (progress inside (holding Held.Entered blocks) n f (k + 1)) rest → Done names (progress inside blocks n f k) (line ∷ rest)
done-does names false blocks n f k line rest i says here room refers ih = cc
done-does names true blocks n f k line rest i says here room refers ih =
    by-deed names (progress true blocks n f k) line rest (does i) None says ih.are (refl, room, refers, ih.right)

done-loops : (names : Names) (inside : Bool) (blocks : List OpenBlock) (n f k : ℕ) (line : NumberedLine) (rest : List NumberedLine) (count : ℕ) → Says names line (loops count) None → inside ≡ true → count ≤ 1000000 → loop_count blocks < 4 → Done names (progress inside (opened count blocks) n f k) rest → Done names (progress inside blocks n f k) (line ∷ rest)
done-loops names false blocks n f k line rest count says here few shallow ih = cc
done-loops names true blocks n f k line rest count says here few shallow ih =
    by-deed names (progress true blocks n f k) line rest (loops count) None says ih.are (refl, few, shallow, ih.right)

done-selects : (names : Names) (inside : Bool) (blocks : List OpenBlock) (n f k : ℕ) (line : NumberedLine) (rest : List NumberedLine) → Says names line selects None → inside ≡ true → k < 100000 → IsChosen (deeds_of names rest) → Done names (progress inside (chosen_in blocks) n f (k + 1)) rest → Done names (progress inside blocks n f k) (line ∷ rest)
done-selects names false blocks n f k line rest says here room chosen ih = cc
done-selects names true blocks n f k line rest says here room chosen ih =
    by-deed names (progress true blocks n f k) line rest selects None says ih.are (refl, room, chosen, ih.right)

may-choose : (blocks : List OpenBlock) → not (in_choice blocks) ≡ false → selects_wrongly blocks Role.Chooses ≡ false → MayChoose blocks
may-choose [] h c = cc
may-choose (OpenBlock.Loop repeats held ∷ outer) h c = cc
may-choose (OpenBlock.Choice cases timers has_default ∷ outer) h c = (or-first has_default (leb 16 cases) c, leb-false 16 cases (or-second has_default (leb 16 cases) c))

may-default : (blocks : List OpenBlock) → not (in_choice blocks) ≡ false → selects_wrongly blocks Role.Defaults ≡ false → MayDefault blocks
may-default [] h c = cc
may-default (OpenBlock.Loop repeats held ∷ outer) h c = cc
may-default (OpenBlock.Choice cases timers has_default ∷ outer) h c = (or-first has_default (leb 2 timers) c, leb-false 2 timers (or-second has_default (leb 2 timers) c))

-- outside functions no select is open
choice-inside : (inside : Bool) (blocks : List OpenBlock) → not (in_choice blocks) ≡ false → NoneOutside inside blocks → inside ≡ true
choice-inside true blocks h none = refl
choice-inside false blocks h none = let e : not (in_choice []) ≡ false = ap (λ b. not (in_choice b)) (sym (none refl)) ∙ h in cc

done-chooses : (names : Names) (inside : Bool) (blocks : List OpenBlock) (n f k : ℕ) (line : NumberedLine) (rest : List NumberedLine) (kind : CaseKind) (awaits : Bool) → Says names line (chooses kind) None → not (in_choice blocks) ≡ false → selects_wrongly blocks Role.Chooses ≡ false → RefersCase names awaits kind → NoneOutside inside blocks → Done names (progress inside (case_added awaits blocks) n f k) rest → Done names (progress inside blocks n f k) (line ∷ rest)
done-chooses names inside blocks n f k line rest kind awaits says nested chosen refers none ih =
    let here : inside ≡ true = choice-inside inside blocks nested none in
    by-deed names (progress inside blocks n f k) line rest (chooses kind) None says ih.are
    (here, may-choose blocks nested chosen, (awaits, refers, subst (λ b. Right names b (case_added awaits blocks) n f k (deeds_of names rest)) here ih.right))

done-defaults : (names : Names) (inside : Bool) (blocks : List OpenBlock) (n f k : ℕ) (line : NumberedLine) (rest : List NumberedLine) → Says names line defaults None → not (in_choice blocks) ≡ false → selects_wrongly blocks Role.Defaults ≡ false → NoneOutside inside blocks → Done names (progress inside (default_added blocks) n f k) rest → Done names (progress inside blocks n f k) (line ∷ rest)
done-defaults names inside blocks n f k line rest says nested chosen none ih =
    let here : inside ≡ true = choice-inside inside blocks nested none in
    by-deed names (progress inside blocks n f k) line rest defaults None says ih.are
    (here, may-default blocks nested chosen, subst (λ b. Right names b (default_added blocks) n f k (deeds_of names rest)) here ih.right)

done-closes : (names : Names) (inside : Bool) (blocks : List OpenBlock) (n f k : ℕ) (line : NumberedLine) (rest : List NumberedLine) → Says names line closes None → ends_wrongly inside blocks ≡ false → NoneOutside inside blocks → Done names (progress (not (are_none_open blocks)) (block_ended blocks) n f k) rest → Done names (progress inside blocks n f k) (line ∷ rest)
done-closes names false [] n f k line rest says ended none ih = cc
done-closes names true [] n f k line rest says ended none ih = by-deed names (progress true [] n f k) line rest closes None says ih.are (refl, ih.right)
done-closes names false (inner ∷ outer) n f k line rest says ended none ih = let e = none refl in cc
done-closes names true (OpenBlock.Loop repeats held ∷ outer) n f k line rest says ended none ih =
    by-deed names (progress true (OpenBlock.Loop repeats held ∷ outer) n f k) line rest closes None says ih.are (refl, not-false (may_end repeats held) ended, ih.right)
done-closes names true (OpenBlock.Choice cases timers has_default ∷ outer) n f k line rest says ended none ih =
    by-deed names (progress true (OpenBlock.Choice cases timers has_default ∷ outer) n f k) line rest closes None says ih.are (refl, tt, ih.right)

new-name : (names : Names) (name : List ℕ) (n a : ℕ) → IsFree names name a → ltb a n ≡ false → IsNew names name n
new-name names name n a free late = record {
  free = free.free;
  first = ap (is_declared_before n) free.known ∙ ap (λ x. ltb x n) (sym free.place) ∙ late;
}

new-place : (names : Names) (name : List ℕ) (decl a : ℕ) → IsFree names name a → decl ≡ a → decl ≡ place_of (names name)
new-place names name decl a free e = e ∙ free.place ∙ ap place_of (sym free.known)

as-new : (names : Names) (arg : Arg) (name : List ℕ) (a : ℕ) → arg ≡ Arg.NewName → value_of names arg name ≡ Some a → IsFree names name a
as-new names arg name a e h = new-value names name a (ap (λ x. value_of names x name) (sym e) ∙ h)

naming-free : (name : List ℕ) (kind : Kind) → is_free_name name ≡ true → named name (Some kind) ≡ Some (naming_as name kind)
naming-free name kind h = ap (λ b. cond b (Some (naming_as name kind)) None) h

-- the deed of a line, and what it declares
says : (names : Names) (line : NumberedLine) (name : List ℕ) (kind : Option Kind) (step : Step) (naming : Option Naming) → deed_at names line ≡ Some (deed_of name step) → naming_of line.words ≡ named name kind → named name kind ≡ naming → Says names line (deed_of name step) naming
says names line name kind step naming d n e = record { deed_is = d; naming_is = n ∙ e }

passes-are : (names : Names) (arg : Arg) (name : List ℕ) (a count : ℕ) → arg ≡ Arg.Passes → count ≡ a → value_of names arg name ≡ Some a → count_of name ≡ count
passes-are names arg name a count e is h = ap (λ o. unwrap_or o 0) (ap (λ x. value_of names x name) (sym e) ∙ h) ∙ sym is

-- a declaration that opens nothing, and one that opens a function. They take a kind and an equation, so that no pair of a kind and a declaration needs a clause
done-declared : (names : Names) (inside : Bool) (blocks : List OpenBlock) (n f k : ℕ) (line : NumberedLine) (rest : List NumberedLine) (name : List ℕ) (kind : Kind) (a : ℕ) (awaits : Bool) (what : What)
    → deed_at names line ≡ Some (declares name what) → naming_of line.words ≡ named name (Some kind) → not inside ≡ true → ltb a n ≡ false → brings_too_many (progress inside blocks n f k) (Role.Declares kind) ≡ false
    → IsFree names name a → kind ≡ kind_in what → Starts names what → Precedes n what → Done names (progress_with (progress inside blocks n f k) (Role.Declares kind) (count_of name) awaits) rest → Done names (progress inside blocks n f k) (line ∷ rest)
done-declared names inside blocks n f k line rest name kind a awaits what d m here late room free is starts early ih =
    let none : is_kind_function kind ≡ false = ap is_kind_function is ∙ started names what starts in
    let P : Bool → Type 0 = λ b. Done names (progress (b || inside) blocks (n + 1) (count_if b f) k) rest in
    done-declares names inside blocks n f k line rest name what
    (says names line name (Some kind) (Step.Declare what) (Some (naming_as name (kind_in what))) d m (naming-free name kind free.free ∙ ap (λ x. Some (naming_as name x)) is))
    here (leb-false 4096 n (or-first (leb 4096 n) (is_kind_function kind && leb 256 f) (or-first (leb 4096 n || (is_kind_function kind && leb 256 f)) false room)))
    (new-name names name n a free late) starts early (subst P none ih)

done-opened : (names : Names) (inside : Bool) (blocks : List OpenBlock) (n f k : ℕ) (line : NumberedLine) (rest : List NumberedLine) (name : List ℕ) (kind : Kind) (a : ℕ) (awaits : Bool) (decl : ℕ)
    → deed_at names line ≡ Some (opens name decl) → naming_of line.words ≡ named name (Some kind) → not inside ≡ true → ltb a n ≡ false → brings_too_many (progress inside blocks n f k) (Role.Declares kind) ≡ false
    → IsFree names name a → kind ≡ Kind.Function → decl ≡ a → NoneOutside inside blocks → Done names (progress_with (progress inside blocks n f k) (Role.Declares kind) (count_of name) awaits) rest → Done names (progress inside blocks n f k) (line ∷ rest)
done-opened names inside blocks n f k line rest name kind a awaits decl d m here late room free is place none ih =
    let P : Kind → Type 0 = λ x. Done names (progress_with (progress inside blocks n f k) (Role.Declares x) (count_of name) awaits) rest in
    let full = or-first (leb 4096 n || leb 256 f) false (ap (λ x. brings_too_many (progress inside blocks n f k) (Role.Declares x)) (sym is) ∙ room) in
    done-opens names inside blocks n f k line rest name decl
    (says names line name (Some kind) (Step.Open decl) (Some (naming_as name Kind.Function)) d m (naming-free name kind free.free ∙ ap (λ x. Some (naming_as name x)) is))
    here (leb-false 4096 n (or-first (leb 4096 n) (leb 256 f) full)) (leb-false 256 f (or-second (leb 4096 n) (leb 256 f) full))
    (new-name names name n a free late) (new-place names name decl a free place) none (subst P is ih)

done-role : (names : Names) (inside : Bool) (blocks : List OpenBlock) (n f k : ℕ) (line : NumberedLine) (rest : List NumberedLine) (name : List ℕ) (role : Role) (arg : Arg) (a : ℕ) (awaits : Bool) (step : Step)
    → deed_at names line ≡ Some (deed_of name step) → naming_of line.words ≡ named name (declared_kind role) → value_of names arg name ≡ Some a
    → stands inside role ≡ true → (is_declaring role && ltb a n) ≡ false → nests_wrongly (progress inside blocks n f k) role ≡ false → selects_wrongly blocks role ≡ false → brings_too_many (progress inside blocks n f k) role ≡ false
    → FitsRole names role arg a awaits step → IfSome (step_parent step) (λ p. p < n) → NoneOutside inside blocks → (role ≡ Role.Selects → IsChosen (deeds_of names rest)) → Done names (progress_with (progress inside blocks n f k) role (count_of name) awaits) rest → Done names (progress inside blocks n f k) (line ∷ rest)
done-role names inside blocks n f k line rest name (Role.Declares kind) arg a awaits (Step.Declare what) d m v here late nested chosen room fit early none next ih =
    done-declared names inside blocks n f k line rest name kind a awaits what d m here late room (as-new names arg name a fit.0 v) fit.1 fit.2 early ih
done-role names inside blocks n f k line rest name (Role.Declares kind) arg a awaits (Step.Open decl) d m v here late nested chosen room fit early none next ih =
    done-opened names inside blocks n f k line rest name kind a awaits decl d m here late room (as-new names arg name a fit.0 v) fit.1 fit.2 none ih
done-role names inside blocks n f k line rest name Role.Closes arg a awaits Step.Close d m v here late nested chosen room fit early none next ih =
    done-closes names inside blocks n f k line rest (says names line name None Step.Close None d m (named-none name)) nested none ih
done-role names inside blocks n f k line rest name Role.Acts arg a awaits (Step.Do instr) d m v here late nested chosen room fit early none next ih =
    done-does names inside blocks n f k line rest instr (says names line name None (Step.Do instr) None d m (named-none name)) here (leb-false 100000 k room) fit ih
done-role names inside blocks n f k line rest name Role.Loops arg a awaits (Step.Loop count) d m v here late nested chosen room fit early none next ih =
    let P : ℕ → Type 0 = λ passes. Done names (progress inside (opened passes blocks) n f k) rest in
    done-loops names inside blocks n f k line rest count (says names line name None (Step.Loop count) None d m (named-none name))
    here fit.2 (leb-false 4 (loop_count blocks) (or-first (leb 4 (loop_count blocks)) (leb 16 (length blocks)) nested)) (subst P (passes-are names arg name a count fit.0 fit.1 v) ih)
done-role names inside blocks n f k line rest name Role.Selects arg a awaits Step.Select d m v here late nested chosen room fit early none next ih =
    done-selects names inside blocks n f k line rest (says names line name None Step.Select None d m (named-none name)) here (leb-false 100000 k room) (next refl) ih
done-role names inside blocks n f k line rest name Role.Chooses arg a awaits (Step.Case kind) d m v here late nested chosen room fit early none next ih =
    done-chooses names inside blocks n f k line rest kind awaits (says names line name None (Step.Case kind) None d m (named-none name)) nested chosen fit none ih
done-role names inside blocks n f k line rest name Role.Defaults arg a awaits Step.Default d m v here late nested chosen room fit early none next ih =
    done-defaults names inside blocks n f k line rest (says names line name None Step.Default None d m (named-none name)) nested chosen none ih
done-role names inside blocks n f k line rest name role arg a awaits step d m v here late nested chosen room fit early none next ih = absurd fit

abbrev progress_by : Names → Progress → Option Command → Progress
progress_by names p o = elim o [ None ↦ p | Some c ↦ progress_with p (role_in c.keyword) (count_of c.first) (awaits_timer names c) ]

late-is : (names : Names) (role : Role) (n a : ℕ) (o : Option ℕ) → o ≡ Some a → (is_declaring role && is_before n o) ≡ false → (is_declaring role && ltb a n) ≡ false
late-is names role n a o e h = ap (λ x. is_declaring role && is_before n x) (sym e) ∙ h

-- behind the line of a select stands its first case: nothing else may stand there
first-role : (names : Names) (p : Progress) (role : Role) (arg : Arg) (a : ℕ) (awaits : Bool) (name : List ℕ) (step : Step) (timers : ℕ) (has_default : Bool) (outer : List OpenBlock) → p.inside ≡ true → p.blocks ≡ OpenBlock.Choice 0 timers has_default ∷ outer
    → stands p.inside role ≡ true → selects_wrongly p.blocks role ≡ false → FitsRole names role arg a awaits step
    → (rest : List Deed) → (role ≡ Role.Defaults → has_default ≡ false → ⊥) → IsChosen (deed_of name step ∷ rest)
first-role names p (Role.Declares kind) arg a awaits name step timers has_default outer inside are here chosen fit rest none = let e : not true ≡ true = ap not (sym inside) ∙ here in cc
first-role names p Role.Closes arg a awaits name step timers has_default outer inside are here chosen fit rest none =
    let e : selects_wrongly (OpenBlock.Choice 0 timers has_default ∷ outer) Role.Closes ≡ false = ap (λ b. selects_wrongly b Role.Closes) (sym are) ∙ chosen in cc
first-role names p Role.Acts arg a awaits name step timers has_default outer inside are here chosen fit rest none =
    let e : selects_wrongly (OpenBlock.Choice 0 timers has_default ∷ outer) Role.Acts ≡ false = ap (λ b. selects_wrongly b Role.Acts) (sym are) ∙ chosen in cc
first-role names p Role.Loops arg a awaits name step timers has_default outer inside are here chosen fit rest none =
    let e : selects_wrongly (OpenBlock.Choice 0 timers has_default ∷ outer) Role.Loops ≡ false = ap (λ b. selects_wrongly b Role.Loops) (sym are) ∙ chosen in cc
first-role names p Role.Selects arg a awaits name step timers has_default outer inside are here chosen fit rest none =
    let e : selects_wrongly (OpenBlock.Choice 0 timers has_default ∷ outer) Role.Selects ≡ false = ap (λ b. selects_wrongly b Role.Selects) (sym are) ∙ chosen in cc
first-role names p Role.Defaults arg a awaits name step timers true outer inside are here chosen fit rest none =
    let e : selects_wrongly (OpenBlock.Choice 0 timers true ∷ outer) Role.Defaults ≡ false = ap (λ b. selects_wrongly b Role.Defaults) (sym are) ∙ chosen in cc
first-role names p Role.Defaults arg a awaits name step timers false outer inside are here chosen fit rest none = absurd (none refl refl)
first-role names p Role.Chooses arg a awaits name (Step.Case kind) timers has_default outer inside are here chosen fit rest none = tt
first-role names p Role.Chooses arg a awaits name (Step.Declare what) timers has_default outer inside are here chosen fit rest none = absurd fit
first-role names p Role.Chooses arg a awaits name (Step.Open decl) timers has_default outer inside are here chosen fit rest none = absurd fit
first-role names p Role.Chooses arg a awaits name (Step.Do instr) timers has_default outer inside are here chosen fit rest none = absurd fit
first-role names p Role.Chooses arg a awaits name (Step.Loop count) timers has_default outer inside are here chosen fit rest none = absurd fit
first-role names p Role.Chooses arg a awaits name Step.Select timers has_default outer inside are here chosen fit rest none = absurd fit
first-role names p Role.Chooses arg a awaits name Step.Default timers has_default outer inside are here chosen fit rest none = absurd fit
first-role names p Role.Chooses arg a awaits name Step.Close timers has_default outer inside are here chosen fit rest none = absurd fit

-- a line with nothing wrong, and what it does
record Line (names : Names) (p : Progress) (line : NumberedLine) : Type 0 where
  c : Command
  behind : progress_after names p line ≡ progress_with p (role_in c.keyword) (count_of c.first) (awaits_timer names c)
  what : Doing names c
  deed : deed_at names line ≡ Some (deed_of c.first what.step)
  stands_here : stands p.inside (role_in c.keyword) ≡ true
  chosen : selects_wrongly p.blocks (role_in c.keyword) ≡ false

line-of : (names : Names) (is_last : Bool) (p : Progress) (line : NumberedLine) → RightLine names is_last p line → Line names p line
line-of names is_last p line r =
    let what : Doing names r.c = doing names r.c r.right.names r.right.counts in
    record {
      c = r.c;
      behind = ap (progress_by names p) r.is;
      what = what;
      deed = ap (option_and_then (deed_with names)) r.is ∙ ap (option_map (deed_of r.c.first)) what.step_is;
      stands_here = r.right.stands_here;
      chosen = r.right.chosen;
    }

-- a select whose default stands in front of each case comes to no end
no-case : (names : Names) (p : Progress) (timers : ℕ) (outer : List OpenBlock) (lines : List NumberedLine) → AllRight names p lines → p.inside ≡ true → p.blocks ≡ OpenBlock.Choice 0 timers true ∷ outer → ⊥
no-case names p timers outer [] r inside are = both_ways p.inside r inside
no-case names p timers outer (line ∷ lines) r inside are =
    let l : Line names p line = line-of names (is_end lines) p line r.0 in
    wrong (role_in l.c.keyword) l.stands_here (ap (λ b. selects_wrongly b (role_in l.c.keyword)) (sym are) ∙ l.chosen)
  where
    wrong : (role : Role) → stands p.inside role ≡ true → selects_wrongly (OpenBlock.Choice 0 timers true ∷ outer) role ≡ false → ⊥
    wrong (Role.Declares kind) here chosen = let e : not true ≡ true = ap not (sym inside) ∙ here in cc
    wrong Role.Closes here chosen = cc
    wrong Role.Acts here chosen = cc
    wrong Role.Loops here chosen = cc
    wrong Role.Selects here chosen = cc
    wrong Role.Chooses here chosen = cc
    wrong Role.Defaults here chosen = cc

first-case : (names : Names) (p : Progress) (outer : List OpenBlock) (lines : List NumberedLine) → AllRight names p lines → p.inside ≡ true → p.blocks ≡ OpenBlock.Choice 0 0 false ∷ outer → IsChosen (deeds_of names lines)
first-case names p outer [] r inside are = absurd (both_ways p.inside r inside)
first-case names p outer (line ∷ lines) r inside are =
    let l : Line names p line = line-of names (is_end lines) p line r.0 in
    let deeds : deeds_of names (line ∷ lines) ≡ deed_of l.c.first l.what.step ∷ deeds_of names lines = ap (λ o. with_deed o (deeds_of names lines)) l.deed in
    subst IsChosen (sym deeds)
    (first-role names p (role_in l.c.keyword) (form_of l.c.keyword).first l.what.first (awaits_timer names l.c) l.c.first l.what.step 0 false outer inside are l.stands_here l.chosen l.what.fits (deeds_of names lines)
    (λ is e. no-case names (progress_after names p line) 0 outer lines r.1
    (ap (λ (q : Progress). q.inside) (l.behind ∙ ap (λ role. progress_with p role (count_of l.c.first) (awaits_timer names l.c)) is) ∙ inside)
    (ap (λ (q : Progress). q.blocks) (l.behind ∙ ap (λ role. progress_with p role (count_of l.c.first) (awaits_timer names l.c)) is) ∙ ap default_added are)))

done : (names : Names) (p : Progress) (lines : List NumberedLine) → AllRight names p lines → NoneOutside p.inside p.blocks → Done names p lines
done names p [] out none = record { are = refl; right = out }
done names p (line ∷ lines) r none =
    let c : Command = r.0.c in
    let right = r.0.right in
    let P : Progress → Type 0 = λ q. Done names q lines in
    let Q : Progress → Type 0 = λ q. NoneOutside q.inside q.blocks in
    let behind : progress_after names p line ≡ progress_with p (role_in c.keyword) (count_of c.first) (awaits_timer names c) = ap (progress_by names p) r.0.is in
    let outside : Q (progress_after names p line) = subst Q (sym behind) (none-outside p (role_in c.keyword) (count_of c.first) (awaits_timer names c) right.stands_here none) in
    let ih : Done names (progress_with p (role_in c.keyword) (count_of c.first) (awaits_timer names c)) lines = subst P behind (done names (progress_after names p line) lines r.1 outside) in
    let what : Doing names c = doing names c right.names right.counts in
    done-role names p.inside p.blocks p.names p.functions p.instructions line lines c.first (role_in c.keyword) (form_of c.keyword).first what.first (awaits_timer names c) what.step
    (ap (option_and_then (deed_with names)) r.0.is ∙ ap (option_map (deed_of c.first)) what.step_is)
    (naming-is line.words c r.0.is (wants-name names (role_in c.keyword) (form_of c.keyword).first what.first (awaits_timer names c) what.step what.fits))
    what.first_is right.stands_here
    (late-is names (role_in c.keyword) p.names what.first (value_of names (form_of c.keyword).first c.first) what.first_is right.first)
    right.nested right.chosen right.room what.fits (what.parent p right.early) none
    (λ is. let after = behind ∙ ap (λ role. progress_with p role (count_of c.first) (awaits_timer names c)) is in
    first-case names (progress_after names p line) (holding Held.Entered p.blocks) lines r.1
    (ap (λ (q : Progress). q.inside) after ∙ (ap (stands p.inside) (sym is) ∙ right.stands_here))
    (ap (λ (q : Progress). q.blocks) after))
    ih

-- `main` is a function
and-right : (a b : Bool) → a ≡ true → (a && not b) ≡ false → b ≡ true
and-right true true e h = refl
and-right true false e h = cc
and-right false b e h = cc

main-body : (names : Names) (p : Progress) (lines : List NumberedLine) → AllRight names p lines → (is_end lines ≡ true → is_function (names (codes "main")) ≡ true) → is_function (names (codes "main")) ≡ true
main-body names p [] r h = h refl
main-body names p (line ∷ lines) r h =
    main-body names (progress_after names p line) lines r.1 (λ e. and-right (is_end lines) (is_function (names (codes "main"))) e r.0.right.main)

-- what is declared as a function
record Main (o : Option Declared) : Type 0 where
  declared : Declared
  is : o ≡ Some declared
  function : is_kind_function declared.kind ≡ true

main-by : (o : Option Declared) → is_function o ≡ true → Main o
main-by None h = cc
main-by (Some d) h = record { declared = d; is = refl; function = h }

-- the head declares nothing
head-naming : (words : Words) → is_head words ≡ true → naming_of words ≡ None
head-naming [] h = cc
head-naming (a ∷ []) h = refl
head-naming (a ∷ b ∷ []) h = cc
head-naming (a ∷ b ∷ c ∷ d ∷ more) h = cc
head-naming (a ∷ b ∷ c ∷ []) h =
    let parts = and_parts (bytes_eq a (codes "gotime") && bytes_eq b (codes "script")) (bytes_eq c (codes "1")) h in
    let first = and_parts (bytes_eq a (codes "gotime")) (bytes_eq b (codes "script")) parts.0 in
    let same : a ≡ codes "gotime" = (bytes_eq-Decides a (codes "gotime")).0 first.0 in
    ap (λ (w : List ℕ). named b (kind_of w (b ∷ c ∷ []))) same ∙ named-none b

script-good : (names : Names) (lines : List NumberedLine) → Done names no_progress lines → names ≡ find (declarations_from 0 0 lines) → is_function (names (codes "main")) ≡ true → IsGood (script_with names lines)
script-good names lines d are main =
    let found : Main (names (codes "main")) = main-by (names (codes "main")) main in
    let place : found.declared.func ≡ func_place (names (codes "main")) = sym (ap func_place found.is) in
    subst IsGood (ap (script_in (deeds_of names lines)) place) (deeds-good names (deeds_of names lines) found.declared (are ∙ ap find d.are) d.right found.is found.function)

-- lines with no fault make a good script
pub lines-good : (all : List NumberedLine) → fault_in_lines all ≡ None → IsGood (script_of all)
lines-good [] h = cc
lines-good (head ∷ lines) h =
    let names : Names = names_of (head ∷ lines) in
    let both = fault_or-None (head_cause names (is_end lines) head) head.number (fault_from names no_progress lines) h in
    let first = first-None (not (is_head head.words)) Why.Head (test (lacks_main names (is_end lines)) Why.NoMain ∷ []) both.0 in
    let second = first-None (lacks_main names (is_end lines)) Why.NoMain [] first.1 in
    let right : AllRight names no_progress lines = all_right names no_progress lines (λ e. refl) both.1 in
    let are : names ≡ find (declarations_from 0 0 lines) = ap (λ o. find (declared_by 0 0 lines o)) (head-naming head.words (not-false (is_head head.words) first.0)) in
    script-good names lines (done names no_progress lines right (λ e. refl)) are
    (main-body names no_progress lines right (λ e. and-right (is_end lines) (is_function (names (codes "main"))) e second.0))

-- what is read is good
pub good-read : {E : Type 0} (r : Result Script E) (lines : List NumberedLine) → OnOk r (fault_in_lines lines ≡ None) → IfOk r (λ script. script ≡ script_of lines) → IfOk r (λ script. IsGood script)
good-read (Err e) lines h k = tt
good-read (Ok script) lines h k = subst IsGood (sym k) (lines-good lines h)
