-- How long the code is that deeds make which follow one another rightly.
use Rattle.std.proofs.Common.{◌≡◌, ℕ, suc, ◌+◌, ◌*◌, ◌-◌, ◌≤◌, Bool, true, false, cond, ltb as nat_lt, List, [], ◌∷◌, length, refl, subst, arith}
use Rattle.std.proofs.lemmas.Bool.{both_ways}
use Rattle.gt_names.specs.Names.{Names}
use Rattle.gt_grammar.specs.declared.progress.OpenBlock.{OpenBlock}
use Rattle.gt_grammar.specs.declared.progress.Held.{Held}
use Rattle.gt_grammar.specs.Faults.{holding, may_end, ended_in, case_added, default_added, loop_count}
use Rattle.gt_grammar.specs.Deeds.{Deed, declares, opens, does, loops, selects, chooses, defaults, closes, Block as Open, in_loop, in_select, in_body, code_from}
use Rattle.gt_grammar.proofs.Rightly.{Right, chosen_in}
use Rattle.gt_grammar.proofs.OpenLoops.{Alike, alike-holding, alike-ended, depth-holding, depth-ended}

-- how many instructions a select may bring yet, which has so many cases and its default or not: one for each body and the end
abbrev room : ℕ → Bool → ℕ
room cases has_default = (16 - cases) + cond has_default 0 1 + 1

abbrev rooms : List OpenBlock → ℕ
rooms [] = 0
rooms (OpenBlock.Loop repeats held ∷ outer) = rooms outer
rooms (OpenBlock.Choice cases timers has_default ∷ outer) = room cases has_default + rooms outer

rooms-holding : (held : Held) (blocks : List OpenBlock) → rooms (holding held blocks) ≡ rooms blocks
rooms-holding held [] = refl
rooms-holding held (OpenBlock.Loop repeats before ∷ outer) = refl
rooms-holding held (OpenBlock.Choice cases timers has_default ∷ outer) = refl

rooms-ended : (repeats : Bool) (blocks : List OpenBlock) → rooms (ended_in repeats blocks) ≡ rooms blocks
rooms-ended repeats [] = refl
rooms-ended repeats (OpenBlock.Loop again before ∷ outer) = refl
rooms-ended repeats (OpenBlock.Choice cases timers has_default ∷ outer) = refl

-- How long the code is, where so many lines with an instruction may come yet: each stands in at most four loops, and a select has at most 17 bodies; so each
-- brings at most 27 instructions
abbrev FitsHeld : Held → ℕ → ℕ → ℕ → ℕ → Type 0
FitsHeld Held.Nothing depth size left space = size + depth ≤ 27 * left + 1 + space
FitsHeld Held.Skipped depth size left space = size ≤ 27 * left + 1 + depth + space
FitsHeld Held.Entered depth size left space = size ≤ 27 * left + 1 + depth + space

abbrev Fits : List OpenBlock → ℕ → ℕ → Type 0
Fits [] size left = size ≤ 27 * left + 1
Fits (OpenBlock.Loop repeats held ∷ outer) size left = FitsHeld held (suc (loop_count outer)) size left (rooms outer)
Fits (OpenBlock.Choice cases timers has_default ∷ outer) size left = size ≤ 27 * left + 1 + loop_count outer + room cases has_default + rooms outer

fits-most-held : (held : Held) (depth size left space : ℕ) → FitsHeld held depth size left space → size ≤ 27 * left + 1 + depth + space
fits-most-held Held.Nothing depth size left space h = omega arith
fits-most-held Held.Skipped depth size left space h = h
fits-most-held Held.Entered depth size left space h = h

fits-most : (blocks : List OpenBlock) (size left : ℕ) → Fits blocks size left → size ≤ 27 * left + 1 + loop_count blocks + rooms blocks
fits-most [] size left h = omega arith
fits-most (OpenBlock.Loop repeats held ∷ outer) size left h = omega (arith, fits-most-held held (suc (loop_count outer)) size left (rooms outer) h)
fits-most (OpenBlock.Choice cases timers has_default ∷ outer) size left h = omega arith

-- a line with an instruction brings it, and as many more as a select may
fits-line-held : (held : Held) (depth more size left space : ℕ) → depth ≤ 4 → more ≤ 17 → size ≤ 27 * left + 1 + depth + space + more → FitsHeld held depth (suc size) (suc left) space
fits-line-held Held.Nothing depth more size left space few brief h = omega arith
fits-line-held Held.Skipped depth more size left space few brief h = omega arith
fits-line-held Held.Entered depth more size left space few brief h = omega arith

fits-line : (blocks : List OpenBlock) (more size left : ℕ) → loop_count blocks ≤ 4 → more ≤ 17 → size ≤ 27 * left + 1 + loop_count blocks + rooms blocks + more → Fits blocks (suc size) (suc left)
fits-line [] more size left few brief h = omega arith
fits-line (OpenBlock.Loop repeats held ∷ outer) more size left few brief h = fits-line-held held (suc (loop_count outer)) more size left (rooms outer) (omega (arith, few)) brief (omega (arith, h))
fits-line (OpenBlock.Choice cases timers has_default ∷ outer) more size left few brief h = omega arith

fits-loops-held : (held : Held) (depth size left space : ℕ) → size + suc depth ≤ 27 * left + 1 + space → FitsHeld held depth (suc size) left space
fits-loops-held Held.Nothing depth size left space h = omega arith
fits-loops-held Held.Skipped depth size left space h = omega arith
fits-loops-held Held.Entered depth size left space h = omega arith

fits-loops : (blocks : List OpenBlock) (size left : ℕ) → size + suc (loop_count blocks) ≤ 27 * left + 1 + rooms blocks → Fits blocks (suc size) left
fits-loops [] size left h = omega arith
fits-loops (OpenBlock.Loop repeats held ∷ outer) size left h = fits-loops-held held (suc (loop_count outer)) size left (rooms outer) (omega (arith, h))
fits-loops (OpenBlock.Choice cases timers has_default ∷ outer) size left h = omega arith

fits-closes-held : (repeats : Bool) (held : Held) (depth size left space : ℕ) → may_end repeats held ≡ true → size ≤ 27 * left + 1 + depth + space → FitsHeld held (suc depth) (suc size) left space
fits-closes-held repeats Held.Nothing depth size left space may h = cc
fits-closes-held repeats Held.Skipped depth size left space may h = omega arith
fits-closes-held repeats Held.Entered depth size left space may h = omega arith

pub code-fits : (names : Names) (deeds : List Deed) (i : ℕ) (stack : List Open) (blocks : List OpenBlock) (n f k : ℕ) → Alike stack blocks → loop_count blocks ≤ 4
    → Right names true blocks n f k deeds → Fits blocks (length (code_from stack i deeds)) (100000 - k)
code-fits names [] i stack blocks n f k same few right = cc
code-fits names (declares name what ∷ rest) i stack blocks n f k same few right = absurd (both_ways true right.0 refl)
code-fits names (opens name decl ∷ rest) i stack blocks n f k same few right = absurd (both_ways true right.0 refl)
code-fits names (does instr ∷ rest) i stack blocks n f k same few right =
    let e : loop_count (holding Held.Entered blocks) ≡ loop_count blocks = depth-holding Held.Entered blocks in
    let left : suc (100000 - (k + 1)) ≡ 100000 - k = omega (arith, right.1) in
    let size : ℕ = length (code_from stack (i + 1) rest) in
    let most = fits-most (holding Held.Entered blocks) size (100000 - (k + 1)) (code-fits names rest (i + 1) stack (holding Held.Entered blocks) n f (k + 1) (alike-holding Held.Entered stack blocks same) (omega arith) right.3) in
    subst (Fits blocks (suc size)) left (fits-line blocks 0 size (100000 - (k + 1)) few (omega arith) (omega (arith, most, e, rooms-holding Held.Entered blocks)))
code-fits names (loops count ∷ rest) i stack blocks n f k same few right =
    fits-loops blocks (length (code_from (in_loop i ∷ stack) (i + 1) rest)) (100000 - k)
    (code-fits names rest (i + 1) (in_loop i ∷ stack) (OpenBlock.Loop (nat_lt 0 count) Held.Nothing ∷ blocks) n f k same (omega (arith, right.2)) right.3)
code-fits names (selects ∷ chooses kind ∷ rest) i stack blocks n f k same few right =
    let e : loop_count (holding Held.Entered blocks) ≡ loop_count blocks = depth-holding Held.Entered blocks in
    let left : suc (100000 - (k + 1)) ≡ 100000 - k = omega (arith, right.1) in
    let size : ℕ = length (code_from (in_body ∷ stack) (i + 1) rest) in
    let first = right.3.2 in
    let fits = code-fits names rest (i + 1) (in_body ∷ stack) (case_added first.0 (chosen_in blocks)) n f (k + 1) (alike-holding Held.Entered stack blocks same) (omega (arith, e)) first.2 in
    subst (Fits blocks (suc size)) left (fits-line blocks 17 size (100000 - (k + 1)) few (omega arith) (omega (arith, fits, e, rooms-holding Held.Entered blocks)))
code-fits names (selects ∷ []) i stack blocks n f k same few right = absurd right.2
code-fits names (selects ∷ declares name what ∷ rest) i stack blocks n f k same few right = absurd right.2
code-fits names (selects ∷ opens name decl ∷ rest) i stack blocks n f k same few right = absurd right.2
code-fits names (selects ∷ does instr ∷ rest) i stack blocks n f k same few right = absurd right.2
code-fits names (selects ∷ loops count ∷ rest) i stack blocks n f k same few right = absurd right.2
code-fits names (selects ∷ selects ∷ rest) i stack blocks n f k same few right = absurd right.2
code-fits names (selects ∷ defaults ∷ rest) i stack blocks n f k same few right = absurd right.2
code-fits names (selects ∷ closes ∷ rest) i stack blocks n f k same few right = absurd right.2
code-fits names (chooses kind ∷ rest) i stack [] n f k same few right = absurd right.1
code-fits names (chooses kind ∷ rest) i stack (OpenBlock.Loop repeats held ∷ outer) n f k same few right = absurd right.1
code-fits names (chooses kind ∷ rest) i [] (OpenBlock.Choice cases timers has_default ∷ outer) n f k same few right = absurd same
code-fits names (chooses kind ∷ rest) i (in_loop top ∷ stack) (OpenBlock.Choice cases timers has_default ∷ outer) n f k same few right = absurd same
code-fits names (chooses kind ∷ rest) i (in_select ∷ stack) (OpenBlock.Choice cases timers has_default ∷ outer) n f k same few right = absurd same
code-fits names (chooses kind ∷ rest) i (in_body ∷ stack) (OpenBlock.Choice cases timers has_default ∷ outer) n f k same few right =
    let fits = code-fits names rest (i + 1) (in_body ∷ stack) (case_added right.2.0 (OpenBlock.Choice cases timers has_default ∷ outer)) n f k same few right.2.2 in
    let room : (16 - (cases + 1)) + 1 ≡ 16 - cases = omega (arith, right.1.1) in
    omega (arith, fits, room)
code-fits names (defaults ∷ rest) i stack [] n f k same few right = absurd right.1
code-fits names (defaults ∷ rest) i stack (OpenBlock.Loop repeats held ∷ outer) n f k same few right = absurd right.1
code-fits names (defaults ∷ rest) i [] (OpenBlock.Choice cases timers has_default ∷ outer) n f k same few right = absurd same
code-fits names (defaults ∷ rest) i (in_loop top ∷ stack) (OpenBlock.Choice cases timers has_default ∷ outer) n f k same few right = absurd same
code-fits names (defaults ∷ rest) i (in_select ∷ stack) (OpenBlock.Choice cases timers has_default ∷ outer) n f k same few right = absurd same
code-fits names (defaults ∷ rest) i (in_body ∷ stack) (OpenBlock.Choice cases timers true ∷ outer) n f k same few right = let e = right.1.0 in cc
code-fits names (defaults ∷ rest) i (in_body ∷ stack) (OpenBlock.Choice cases timers false ∷ outer) n f k same few right =
    let fits = code-fits names rest (i + 1) (in_body ∷ stack) (default_added (OpenBlock.Choice cases timers false ∷ outer)) n f k same few right.2 in
    omega (arith, fits)
code-fits names (closes ∷ rest) i [] [] n f k same few right = omega arith
code-fits names (closes ∷ rest) i [] (inner ∷ outer) n f k same few right = absurd same
code-fits names (closes ∷ rest) i (in_select ∷ stack) blocks n f k same few right = absurd same
code-fits names (closes ∷ rest) i (in_loop top ∷ stack) [] n f k same few right = absurd same
code-fits names (closes ∷ rest) i (in_body ∷ stack) [] n f k same few right = absurd same
code-fits names (closes ∷ rest) i (in_body ∷ stack) (OpenBlock.Loop repeats held ∷ outer) n f k same few right = absurd same
code-fits names (closes ∷ rest) i (in_loop top ∷ stack) (OpenBlock.Choice cases timers has_default ∷ outer) n f k same few right = absurd same
code-fits names (closes ∷ rest) i (in_body ∷ stack) (OpenBlock.Choice cases timers has_default ∷ outer) n f k same few right =
    let size : ℕ = length (code_from stack (i + 1) rest) in
    let most = fits-most outer size (100000 - k) (code-fits names rest (i + 1) stack outer n f k same few right.2) in
    omega (arith, most)
code-fits names (closes ∷ rest) i (in_loop top ∷ stack) (OpenBlock.Loop repeats held ∷ outer) n f k same few right =
    let e : loop_count (ended_in repeats outer) ≡ loop_count outer = depth-ended repeats outer in
    let size : ℕ = length (code_from stack (i + 1) rest) in
    let most = fits-most (ended_in repeats outer) size (100000 - k) (code-fits names rest (i + 1) stack (ended_in repeats outer) n f k (alike-ended repeats stack outer same) (omega (arith, few, e)) right.2) in
    fits-closes-held repeats held (loop_count outer) size (100000 - k) (rooms outer) right.1 (omega (arith, most, e, rooms-ended repeats outer))

-- the code of a function is short
pub code-short : (names : Names) (deeds : List Deed) (n f k : ℕ) → Right names true [] n f k deeds → length (code_from [] 0 deeds) ≤ 2700001
code-short names deeds n f k right = omega (arith, code-fits names deeds 0 [] [] n f k tt (omega arith) right)
