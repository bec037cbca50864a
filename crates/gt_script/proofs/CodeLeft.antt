-- The code that is left behind a line is the code that is left in front of it.
use Rattle.std.proofs.Common.{◌≡◌, ℕ, zero, suc, ◌+◌, ◌-◌, ◌<◌, ◌≤◌, List, [], ◌∷◌, ◌++◌, length, map, Option, Some, None, refl, sym, ap, subst, ◌∙◌, append_assoc, length-append, get_or, set, arith}
use Rattle.std.proofs.lemmas.Option.{slice_get_read}
use Rattle.gt_model.specs.declared.script.Decl.{Decl}
use Rattle.gt_model.specs.declared.script.Func.{Func}
use Rattle.gt_model.specs.Tables.{change}
use Rattle.gt_model.proofs.Changes.{length-change}
use Rattle.gt_model.proofs.Tables.{change-set}
use Rattle.gt_model.specs.declared.script.Instr.{Instr}
use Rattle.gt_model.specs.declared.script.Case.{Case}
use Rattle.gt_model.specs.declared.script.CaseKind.{CaseKind}
use Rattle.gt_grammar.specs.Deeds.{Deed, does, loops, selects, chooses, defaults, closes, loops_among, span, case_at, cases_from, default_from, Block as Open, in_loop, in_body, code_from}
use Rattle.gt_script.specs.Reading.{Built, leading, loops_open, put, all_jump, default_jumps, choice_put, chosen, built_after, or_later, Later, made, led, still_to_come, open_of, code_left, AreWithin, IsWithin, AllWithin}
use Rattle.gt_script.specs.declared.reader.Block.{Block}

-- ---- open blocks are as they will be

change-append_left : {X : Type 0} (xs ys : List X) (i : ℕ) (f : X → X) → i < length xs → change (xs ++ ys) i f ≡ change xs i f ++ ys
change-append_left [] ys i f h = absurd (omega arith)
change-append_left (x ∷ xs) ys zero f h = refl
change-append_left (x ∷ xs) ys (suc i) f h = ap (λ zs. x ∷ zs) (change-append_left xs ys i f (omega arith))

change-append_seam : {X : Type 0} (xs : List X) (x : X) (f : X → X) → change (xs ++ x ∷ []) (length xs) f ≡ xs ++ f x ∷ []
change-append_seam [] x f = refl
change-append_seam (y ∷ ys) x f = ap (λ zs. y ∷ zs) (change-append_seam ys x f)

pub change-past : {X : Type 0} (xs : List X) (i : ℕ) (f : X → X) → length xs ≤ i → change xs i f ≡ xs
change-past [] i f h = refl
change-past (x ∷ xs) zero f h = absurd (omega arith)
change-past (x ∷ xs) (suc i) f h = ap (λ zs. x ∷ zs) (change-past xs i f (omega arith))

pub lead-is : (code : List Instr) (i index : ℕ) (x y : Instr) → i < length code → x ≡ get_or code i x → y ≡ leading index x → set code i y ≡ change code i (leading index)
lead-is code i index x y h here is =
    ap (set code i) is ∙ sym (change-set code i (leading index) x (slice_get_read code (length code) i x refl h here))

pub one-more : {X : Type 0} (xs : List X) (x : X) → length (xs ++ x ∷ []) ≡ length xs + 1
one-more xs x = omega (arith, length-append xs (x ∷ []))

-- ---- what stands in front of bodies

put-append : (code more : List Instr) (to : ℕ) (x : Instr) → to - 1 < length code → put (code ++ more) to x ≡ put code to x ++ more
put-append code more to x w = change-append_left code more (to - 1) (λ _. x) w

length-put : (code : List Instr) (to : ℕ) (x : Instr) → length (put code to x) ≡ length code
length-put code to x = length-change code (to - 1) (λ _. x)

put-seam : (code : List Instr) (to : ℕ) (x y : Instr) → to ≡ length code + 1 → put (code ++ x ∷ []) to y ≡ code ++ y ∷ []
put-seam code to x y e = let at : to - 1 ≡ length code = omega (arith, e) in ap (λ i. change (code ++ x ∷ []) i (λ _. y)) at ∙ change-append_seam code x (λ _. y)

length-jumps : (end : ℕ) (cases : List Case) (code : List Instr) → length (all_jump end cases code) ≡ length code
length-jumps end [] code = refl
length-jumps end (c ∷ cases) code = length-jumps end cases (put code c.to (Instr.Jump end)) ∙ length-put code c.to (Instr.Jump end)

jumps-append : (end : ℕ) (cases : List Case) (code more : List Instr) → AreWithin (length code) cases → all_jump end cases (code ++ more) ≡ all_jump end cases code ++ more
jumps-append end [] code more w = refl
jumps-append end (c ∷ cases) code more w =
    ap (all_jump end cases) (put-append code more c.to (Instr.Jump end) w.0)
    ∙ jumps-append end cases (put code c.to (Instr.Jump end)) more (subst (λ n. AreWithin n cases) (sym (length-put code c.to (Instr.Jump end))) w.1)

jumps-last : (end : ℕ) (cases : List Case) (c : Case) (code : List Instr) → all_jump end (cases ++ c ∷ []) code ≡ put (all_jump end cases code) c.to (Instr.Jump end)
jumps-last end [] c code = refl
jumps-last end (x ∷ cases) c code = jumps-last end cases c (put code x.to (Instr.Jump end))

length-default : (end : ℕ) (d : Option ℕ) (code : List Instr) → length (default_jumps end d code) ≡ length code
length-default end None code = refl
length-default end (Some to) code = length-put code to (Instr.Jump end)

default-append : (end : ℕ) (d : Option ℕ) (code more : List Instr) → IsWithin (length code) d → default_jumps end d (code ++ more) ≡ default_jumps end d code ++ more
default-append end None code more w = refl
default-append end (Some to) code more w = put-append code more to (Instr.Jump end) w

length-choice : (cases all : List Case) (d : Option ℕ) (code : List Instr) → length (choice_put cases all d code) ≡ length code
length-choice [] all d code = refl
length-choice (c ∷ cases) all d code = length-put code c.to (Instr.Select all d)

choice-append : (cases all : List Case) (d : Option ℕ) (code more : List Instr) → AreWithin (length code) cases → choice_put cases all d (code ++ more) ≡ choice_put cases all d code ++ more
choice-append [] all d code more w = refl
choice-append (c ∷ cases) all d code more w = put-append code more c.to (Instr.Select all d) w.0

pub length-chosen : (end : ℕ) (cases : List Case) (d : Option ℕ) (all : List Case) (e : Option ℕ) (code : List Instr) → length (chosen end cases d all e code) ≡ length code
length-chosen end cases d all e code =
    length-choice cases all e (all_jump end cases (default_jumps end d code)) ∙ length-jumps end cases (default_jumps end d code) ∙ length-default end d code

-- the bodies of an open select stand in front of what comes
chosen-append : (end : ℕ) (cases : List Case) (d : Option ℕ) (all : List Case) (e : Option ℕ) (code more : List Instr) → AreWithin (length code) cases → IsWithin (length code) d → chosen end cases d all e (code ++ more) ≡ chosen end cases d all e code ++ more
chosen-append end cases d all e code more w v =
    let front : List Instr = default_jumps end d code in
    let jumping : List Instr = all_jump end cases front in
    let P : ℕ → Type 0 = λ n. AreWithin n cases in
    let within : AreWithin (length front) cases = subst P (sym (length-default end d code)) w in
    let last : AreWithin (length jumping) cases = subst P (sym (length-jumps end cases front)) within in
    ap (λ c. choice_put cases all e (all_jump end cases c)) (default-append end d code more v)
    ∙ ap (choice_put cases all e) (jumps-append end cases front more within)
    ∙ choice-append cases all e jumping more last

-- ---- open blocks

length-made : (b : Block) (later : Later) (code : List Instr) → length (made b later code) ≡ length code
length-made (Block.Loop top) later code = length-change code top (leading later.past)
length-made (Block.Choice cases d) later code = length-chosen later.past cases d (cases ++ later.cases) (or_later d later.default_to) code

-- what one block changes stands in a code of n instructions
abbrev Within : ℕ → Block → Type 0
Within n (Block.Loop top) = top < n
Within n (Block.Choice cases d) = AreWithin n cases × IsWithin n d

all-within : (n : ℕ) (b : Block) (blocks : List Block) → AllWithin n (b ∷ blocks) → Within n b × AllWithin n blocks
all-within n (Block.Loop top) blocks w = (w.0, w.1)
all-within n (Block.Choice cases d) blocks w = ((w.0, w.1), w.2)

made-append : (b : Block) (later : Later) (code more : List Instr) → Within (length code) b → made b later (code ++ more) ≡ made b later code ++ more
made-append (Block.Loop top) later code more w = change-append_left code more top (leading later.past) w
made-append (Block.Choice cases d) later code more w = chosen-append later.past cases d (cases ++ later.cases) (or_later d later.default_to) code more w.0 w.1

cases-more : (n m : ℕ) (cases : List Case) → n ≤ m → AreWithin n cases → AreWithin m cases
cases-more n m [] h w = tt
cases-more n m (c ∷ cases) h w = let here = w.0 in (omega (arith, h, here), cases-more n m cases h w.1)

default-more : (n m : ℕ) (d : Option ℕ) → n ≤ m → IsWithin n d → IsWithin m d
default-more n m None h w = tt
default-more n m (Some to) h w = omega (arith, h, w)

pub within-more : (n m : ℕ) (blocks : List Block) → n ≤ m → AllWithin n blocks → AllWithin m blocks
within-more n m [] h w = tt
within-more n m (Block.Loop top ∷ blocks) h w = let here = w.0 in (omega (arith, h, here), within-more n m blocks h w.1)
within-more n m (Block.Choice cases d ∷ blocks) h w = (cases-more n m cases h w.0, default-more n m d h w.1, within-more n m blocks h w.2)

led-append : (blocks : List Block) (laters : ℕ → Later) (code more : List Instr) → AllWithin (length code) blocks → led blocks laters (code ++ more) ≡ led blocks laters code ++ more
led-append [] laters code more w = refl
led-append (b ∷ blocks) laters code more w =
    let both : Within (length code) b × AllWithin (length code) blocks = all-within (length code) b blocks w in
    let changed : List Instr = made b (laters 0) code in
    let later : ℕ → Later = λ k. laters (suc k) in
    let inside : AllWithin (length changed) blocks = subst (λ n. AllWithin n blocks) (sym (length-made b (laters 0) code)) both.1 in
    ap (led blocks later) (made-append b (laters 0) code more both.0) ∙ led-append blocks later changed more inside

led-same : (blocks : List Block) (p q : ℕ → Later) (code : List Instr) → ((k : ℕ) → p k ≡ q k) → led blocks p code ≡ led blocks q code
led-same [] p q code h = refl
led-same (b ∷ blocks) p q code h =
    ap (λ l. led blocks (λ k. p (suc k)) (made b l code)) (h 0)
    ∙ led-same blocks (λ k. p (suc k)) (λ k. q (suc k)) (made b (q 0) code) (λ k. h (suc k))

-- the code with an instruction more, where the same is still to come
grown : (blocks : List Block) (code rest : List Instr) (x : Instr) (p q : ℕ → Later) → AllWithin (length code) blocks → ((k : ℕ) → p k ≡ q k) → led blocks p (code ++ x ∷ []) ++ rest ≡ led blocks q code ++ x ∷ rest
grown blocks code rest x p q w h =
    ap (λ c. c ++ rest) (led-same blocks p q (code ++ x ∷ []) h ∙ led-append blocks q code (x ∷ []) w) ∙ append_assoc (led blocks q code) (x ∷ []) rest

abbrev later : ℕ → List Case → Option ℕ → Later
later past cases d = record { past = past; cases = cases; default_to = d }

later-is : (n m : ℕ) (cases : List Case) (d : Option ℕ) → n ≡ m → later n cases d ≡ later m cases d
later-is n m cases d e = ap (λ x. later x cases d) e

-- ---- behind a line that is right the same script is left

abbrev pub built : List Decl → List Func → ℕ → List Instr → List Block → Built
built decls funcs open_decl code blocks = record { decls = decls; funcs = funcs; open_decl = open_decl; code = code; blocks = blocks }

pub does-left : (b : Built) (instr : Instr) (deeds : List Deed) → AllWithin (length b.code) b.blocks → code_left (built_after b (does instr)) deeds ≡ code_left b (does instr ∷ deeds)
does-left b instr deeds w =
    let i : ℕ = length b.code in
    let n : length (b.code ++ instr ∷ []) ≡ i + 1 = one-more b.code instr in
    ap (λ j. led b.blocks (still_to_come j deeds) (b.code ++ instr ∷ []) ++ code_from (map open_of b.blocks) j deeds) n
    ∙ grown b.blocks b.code (code_from (map open_of b.blocks) (i + 1) deeds) instr (still_to_come (i + 1) deeds) (still_to_come i (does instr ∷ deeds)) w
    (λ k. later-is (i + 1 + span k deeds) (i + (span k deeds + 1)) (cases_from k (i + 1) deeds) (default_from k (i + 1) deeds) (omega arith))

loops-among : (blocks : List Block) → loops_open blocks ≡ loops_among (map open_of blocks)
loops-among [] = refl
loops-among (Block.Loop top ∷ outer) = omega (arith, loops-among outer)
loops-among (Block.Choice [] d ∷ outer) = loops-among outer
loops-among (Block.Choice (c ∷ cases) d ∷ outer) = loops-among outer

pub loops-left : (b : Built) (count : ℕ) (deeds : List Deed) → AllWithin (length b.code) b.blocks → code_left (built_after b (loops count)) deeds ≡ code_left b (loops count ∷ deeds)
loops-left b count deeds w =
    let i : ℕ = length b.code in
    let depth : ℕ = loops_open b.blocks in
    let top : Instr = Instr.LoopTop depth count (i + 1 + span 0 deeds) in
    let later : ℕ → Later = λ k. still_to_come (i + 1) deeds (suc k) in
    let rest : List Instr = code_from (in_loop i ∷ map open_of b.blocks) (i + 1) deeds in
    ap (λ n. led (Block.Loop i ∷ b.blocks) (still_to_come n deeds) (b.code ++ Instr.LoopTop depth count 0 ∷ []) ++ code_from (in_loop i ∷ map open_of b.blocks) n deeds) (one-more b.code (Instr.LoopTop depth count 0))
    ∙ ap (λ c. led b.blocks later c ++ rest) (change-append_seam b.code (Instr.LoopTop depth count 0) (leading (i + 1 + span 0 deeds)))
    ∙ grown b.blocks b.code rest top later (still_to_come i (loops count ∷ deeds)) w
    (λ k. later-is (i + 1 + span (suc k) deeds) (i + (span (suc k) deeds + 1)) (cases_from (suc k) (i + 1) deeds) (default_from (suc k) (i + 1) deeds) (omega arith))
    ∙ ap (λ d. led b.blocks (still_to_come i (loops count ∷ deeds)) b.code ++ Instr.LoopTop d count (i + 1 + span 0 deeds) ∷ rest) (loops-among b.blocks)

pub closes-left : (decls : List Decl) (funcs : List Func) (open_decl : ℕ) (code : List Instr) (top : ℕ) (blocks : List Block) (deeds : List Deed) → AllWithin (length code) (Block.Loop top ∷ blocks)
    → code_left (built_after (built decls funcs open_decl code (Block.Loop top ∷ blocks)) closes) deeds ≡ code_left (built decls funcs open_decl code (Block.Loop top ∷ blocks)) (closes ∷ deeds)
closes-left decls funcs open_decl code top blocks deeds w =
    let i : ℕ = length code in
    let end : Instr = Instr.LoopEnd (loops_open blocks) top in
    let changed : List Instr = change code top (leading (i + 1)) in
    let size : length changed ≡ i = length-change code top (leading (i + 1)) in
    let same : change (code ++ end ∷ []) top (leading (i + 1)) ≡ changed ++ end ∷ [] = change-append_left code (end ∷ []) top (leading (i + 1)) w.0 in
    let inside : AllWithin (length changed) blocks = subst (λ n. AllWithin n blocks) (sym size) w.1 in
    let rest : List Instr = code_from (map open_of blocks) (i + 1) deeds in
    let behind : ℕ → Later = λ k. still_to_come i (closes ∷ deeds) (suc k) in
    ap (λ c. led blocks (still_to_come (length c) deeds) c ++ code_from (map open_of blocks) (length c) deeds) same
    ∙ ap (λ n. led blocks (still_to_come n deeds) (changed ++ end ∷ []) ++ code_from (map open_of blocks) n deeds) (one-more changed end ∙ ap (λ n. n + 1) size)
    ∙ grown blocks changed rest end (still_to_come (i + 1) deeds) behind inside
    (λ k. later-is (i + 1 + span k deeds) (i + (span k deeds + 1)) (cases_from k (i + 1) deeds) (default_from k (i + 1) deeds) (omega arith))
    ∙ ap (λ d. led blocks behind changed ++ Instr.LoopEnd d top ∷ rest) (loops-among blocks)

-- a select in front of its cases changes nothing
pub selects-left : (b : Built) (deeds : List Deed) → code_left (built_after b selects) deeds ≡ code_left b (selects ∷ deeds)
selects-left b deeds = refl

open-same : (cases : List Case) (d e : Option ℕ) → open_of (Block.Choice cases d) ≡ open_of (Block.Choice cases e)
open-same [] d e = refl
open-same (c ∷ cases) d e = refl

none-more : (cases : List Case) → cases ++ [] ≡ cases
none-more [] = refl
none-more (c ∷ cases) = ap (λ cs. c ∷ cs) (none-more cases)

or-none : (d : Option ℕ) → or_later d None ≡ d
or-none None = refl
or-none (Some to) = refl

closed-from : (cases : List Case) (d : Option ℕ) (stack : List Open) (i : ℕ) (deeds : List Deed) → code_from (open_of (Block.Choice cases d) ∷ stack) i (closes ∷ deeds) ≡ Instr.Jump (i + 1) ∷ code_from stack (i + 1) deeds
closed-from [] d stack i deeds = refl
closed-from (c ∷ cases) d stack i deeds = refl

pub finishes-left : (decls : List Decl) (funcs : List Func) (open_decl : ℕ) (code : List Instr) (cases : List Case) (d : Option ℕ) (blocks : List Block) (deeds : List Deed) → AllWithin (length code) (Block.Choice cases d ∷ blocks)
    → code_left (built_after (built decls funcs open_decl code (Block.Choice cases d ∷ blocks)) closes) deeds ≡ code_left (built decls funcs open_decl code (Block.Choice cases d ∷ blocks)) (closes ∷ deeds)
finishes-left decls funcs open_decl code cases d blocks deeds w =
    let i : ℕ = length code in
    let end : Instr = Instr.Jump (i + 1) in
    let changed : List Instr = chosen (i + 1) cases d cases d code in
    let size : length changed ≡ i = length-chosen (i + 1) cases d cases d code in
    let same : chosen (i + 1) cases d cases d (code ++ end ∷ []) ≡ changed ++ end ∷ [] = chosen-append (i + 1) cases d cases d code (end ∷ []) w.0 w.1 in
    let inside : AllWithin (length changed) blocks = subst (λ n. AllWithin n blocks) (sym size) w.2 in
    let rest : List Instr = code_from (map open_of blocks) (i + 1) deeds in
    let behind : ℕ → Later = λ k. still_to_come i (closes ∷ deeds) (suc k) in
    ap (λ c. led blocks (still_to_come (length c) deeds) c ++ code_from (map open_of blocks) (length c) deeds) same
    ∙ ap (λ n. led blocks (still_to_come n deeds) (changed ++ end ∷ []) ++ code_from (map open_of blocks) n deeds) (one-more changed end ∙ ap (λ n. n + 1) size)
    ∙ grown blocks changed rest end (still_to_come (i + 1) deeds) behind inside
    (λ k. later-is (i + 1 + span k deeds) (i + (span k deeds + 1)) (cases_from k (i + 1) deeds) (default_from k (i + 1) deeds) (omega arith))
    ∙ ap (λ cs. led blocks behind (chosen (i + 1) cases d cs d code) ++ end ∷ rest) (sym (none-more cases))
    ∙ ap (λ e. led blocks behind (chosen (i + 1) cases d (cases ++ []) e code) ++ end ∷ rest) (sym (or-none d))
    ∙ ap (λ is. led blocks behind (chosen (i + 1) cases d (cases ++ []) (or_later d None) code) ++ is) (sym (closed-from cases d (map open_of blocks) i deeds))

-- the first case makes the choice
first-left : (decls : List Decl) (funcs : List Func) (open_decl : ℕ) (code : List Instr) (blocks : List Block) (kind : CaseKind) (deeds : List Deed) → AllWithin (length code) blocks
    → code_left (built_after (built decls funcs open_decl code (Block.Choice [] None ∷ blocks)) (chooses kind)) deeds ≡ code_left (built decls funcs open_decl code (Block.Choice [] None ∷ blocks)) (chooses kind ∷ deeds)
first-left decls funcs open_decl code blocks kind deeds w =
    let i : ℕ = length code in
    let c : Case = case_at kind (i + 1) in
    let end : ℕ = i + 1 + span 0 deeds in
    let choice : Instr = Instr.Select (c ∷ cases_from 0 (i + 1) deeds) (default_from 0 (i + 1) deeds) in
    let rest : List Instr = code_from (in_body ∷ map open_of blocks) (i + 1) deeds in
    let behind : ℕ → Later = λ k. still_to_come (i + 1) deeds (suc k) in
    ap (λ n. led (Block.Choice (c ∷ []) None ∷ blocks) (still_to_come n deeds) (code ++ Instr.Jump 0 ∷ []) ++ code_from (in_body ∷ map open_of blocks) n deeds) (one-more code (Instr.Jump 0))
    ∙ ap (λ x. led blocks behind (put x (i + 1) choice) ++ rest) (put-seam code (i + 1) (Instr.Jump 0) (Instr.Jump end) refl)
    ∙ ap (λ x. led blocks behind x ++ rest) (put-seam code (i + 1) (Instr.Jump end) choice refl)
    ∙ grown blocks code rest choice behind (λ k. still_to_come i (chooses kind ∷ deeds) (suc k)) w
    (λ k. later-is (i + 1 + span (suc k) deeds) (i + (span (suc k) deeds + 1)) (cases_from (suc k) (i + 1) deeds) (default_from (suc k) (i + 1) deeds) (omega arith))

-- what a select that has bodies becomes with a case more
case-more : (end : ℕ) (c0 c : Case) (cases all : List Case) (d : Option ℕ) (code : List Instr) → c.to ≡ length code + 1 → AreWithin (length code) (c0 ∷ cases)
    → chosen end (c0 ∷ (cases ++ c ∷ [])) None all d (code ++ Instr.Jump 0 ∷ []) ≡ chosen end (c0 ∷ cases) None all d code ++ Instr.Jump end ∷ []
case-more end c0 c cases all d code to w =
    let jumping : List Instr = all_jump end (c0 ∷ cases) code in
    let size : length jumping ≡ length code = length-jumps end (c0 ∷ cases) code in
    let choice : Instr = Instr.Select all d in
    ap (λ x. put x c0.to choice) (jumps-last end (c0 ∷ cases) c (code ++ Instr.Jump 0 ∷ []))
    ∙ ap (λ x. put (put x c.to (Instr.Jump end)) c0.to choice) (jumps-append end (c0 ∷ cases) code (Instr.Jump 0 ∷ []) w)
    ∙ ap (λ x. put x c0.to choice) (put-seam jumping c.to (Instr.Jump 0) (Instr.Jump end) (omega (arith, to, size)))
    ∙ put-append jumping (Instr.Jump end ∷ []) c0.to choice (omega (arith, w.0, size))

next-left : (decls : List Decl) (funcs : List Func) (open_decl : ℕ) (code : List Instr) (c0 : Case) (cases : List Case) (blocks : List Block) (kind : CaseKind) (deeds : List Deed) → AllWithin (length code) (Block.Choice (c0 ∷ cases) None ∷ blocks)
    → code_left (built_after (built decls funcs open_decl code (Block.Choice (c0 ∷ cases) None ∷ blocks)) (chooses kind)) deeds ≡ code_left (built decls funcs open_decl code (Block.Choice (c0 ∷ cases) None ∷ blocks)) (chooses kind ∷ deeds)
next-left decls funcs open_decl code c0 cases blocks kind deeds w =
    let i : ℕ = length code in
    let c : Case = case_at kind (i + 1) in
    let end : ℕ = i + 1 + span 0 deeds in
    let last : ℕ = i + (span 0 deeds + 1) in
    let more : List Case = cases_from 0 (i + 1) deeds in
    let d : Option ℕ = default_from 0 (i + 1) deeds in
    let all : List Case = (c0 ∷ cases ++ c ∷ []) ++ more in
    let changed : List Instr = chosen end (c0 ∷ cases) None all d code in
    let size : length changed ≡ i = length-chosen end (c0 ∷ cases) None all d code in
    let inside : AllWithin (length changed) blocks = subst (λ n. AllWithin n blocks) (sym size) w.2 in
    let rest : List Instr = code_from (in_body ∷ map open_of blocks) (i + 1) deeds in
    let behind : ℕ → Later = λ k. still_to_come (i + 1) deeds (suc k) in
    let before : ℕ → Later = λ k. still_to_come i (chooses kind ∷ deeds) (suc k) in
    let ends : end ≡ last = omega arith in
    ap (λ n. led (Block.Choice (c0 ∷ cases ++ c ∷ []) None ∷ blocks) (still_to_come n deeds) (code ++ Instr.Jump 0 ∷ []) ++ code_from (in_body ∷ map open_of blocks) n deeds) (one-more code (Instr.Jump 0))
    ∙ ap (λ x. led blocks behind x ++ rest) (case-more end c0 c cases all d code refl w.0)
    ∙ grown blocks changed rest (Instr.Jump end) behind before inside
    (λ k. later-is (i + 1 + span (suc k) deeds) (i + (span (suc k) deeds + 1)) (cases_from (suc k) (i + 1) deeds) (default_from (suc k) (i + 1) deeds) (omega arith))
    ∙ ap (λ cs. led blocks before (chosen end (c0 ∷ cases) None cs d code) ++ Instr.Jump end ∷ rest) (append_assoc (c0 ∷ cases) (c ∷ []) more)
    ∙ ap (λ x. led blocks before (chosen x (c0 ∷ cases) None (c0 ∷ cases ++ c ∷ more) d code) ++ Instr.Jump end ∷ rest) ends

pub chooses-left : (decls : List Decl) (funcs : List Func) (open_decl : ℕ) (code : List Instr) (cases : List Case) (blocks : List Block) (kind : CaseKind) (deeds : List Deed) → AllWithin (length code) (Block.Choice cases None ∷ blocks)
    → code_left (built_after (built decls funcs open_decl code (Block.Choice cases None ∷ blocks)) (chooses kind)) deeds ≡ code_left (built decls funcs open_decl code (Block.Choice cases None ∷ blocks)) (chooses kind ∷ deeds)
chooses-left decls funcs open_decl code [] blocks kind deeds w = first-left decls funcs open_decl code blocks kind deeds w.2
chooses-left decls funcs open_decl code (c0 ∷ cases) blocks kind deeds w = next-left decls funcs open_decl code c0 cases blocks kind deeds w

pub defaults-left : (decls : List Decl) (funcs : List Func) (open_decl : ℕ) (code : List Instr) (cases : List Case) (blocks : List Block) (deeds : List Deed) → AllWithin (length code) (Block.Choice cases None ∷ blocks)
    → code_left (built_after (built decls funcs open_decl code (Block.Choice cases None ∷ blocks)) defaults) deeds ≡ code_left (built decls funcs open_decl code (Block.Choice cases None ∷ blocks)) (defaults ∷ deeds)
defaults-left decls funcs open_decl code cases blocks deeds w =
    let i : ℕ = length code in
    let end : ℕ = i + 1 + span 0 deeds in
    let last : ℕ = i + (span 0 deeds + 1) in
    let all : List Case = cases ++ cases_from 0 (i + 1) deeds in
    let d : Option ℕ = Some (i + 1) in
    let changed : List Instr = chosen end cases None all d code in
    let size : length changed ≡ i = length-chosen end cases None all d code in
    let inside : AllWithin (length changed) blocks = subst (λ n. AllWithin n blocks) (sym size) w.2 in
    let stands_in : Open = open_of (Block.Choice cases d) in
    let rest : Open → List Instr = λ o. code_from (o ∷ map open_of blocks) (i + 1) deeds in
    let behind : ℕ → Later = λ k. still_to_come (i + 1) deeds (suc k) in
    let before : ℕ → Later = λ k. still_to_come i (defaults ∷ deeds) (suc k) in
    let ends : end ≡ last = omega arith in
    ap (λ n. led (Block.Choice cases d ∷ blocks) (still_to_come n deeds) (code ++ Instr.Jump 0 ∷ []) ++ code_from (stands_in ∷ map open_of blocks) n deeds) (one-more code (Instr.Jump 0))
    ∙ ap (λ x. led blocks behind (choice_put cases all d (all_jump end cases x)) ++ rest stands_in) (put-seam code (i + 1) (Instr.Jump 0) (Instr.Jump end) refl)
    ∙ ap (λ x. led blocks behind x ++ rest stands_in) (chosen-append end cases None all d code (Instr.Jump end ∷ []) w.0 tt)
    ∙ grown blocks changed (rest stands_in) (Instr.Jump end) behind before inside
    (λ k. later-is (i + 1 + span (suc k) deeds) (i + (span (suc k) deeds + 1)) (cases_from (suc k) (i + 1) deeds) (default_from (suc k) (i + 1) deeds) (omega arith))
    ∙ ap (λ x. led blocks before (chosen x cases None all d code) ++ Instr.Jump end ∷ rest stands_in) ends
    ∙ ap (λ o. led blocks before (chosen last cases None all d code) ++ Instr.Jump end ∷ rest o) (open-same cases d None)
