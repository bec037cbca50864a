-- The blocks that are open, from either end.
use Rattle.std.proofs.Common.{◌≡◌, ℕ, zero, suc, ◌+◌, ◌-◌, ◌<◌, ◌≤◌, length, set, cond, List, [], ◌∷◌, ◌++◌, reverse, refl, ◌∙◌, ap, arith}
use Rattle.std.specs.List.{count_by}
use Rattle.std.proofs.lemmas.List.{reverse-append}
use Rattle.std.proofs.lemmas.List.Recursion.{is_count_by}
use Rattle.gt_script.specs.declared.reader.Block.{Block}
use Rattle.gt_model.specs.declared.script.Instr.{Instr}
use Rattle.gt_model.specs.Tables.{change}
use Rattle.gt_script.specs.Reading.{is_loop, loops_open, put}

loops_open-last : (blocks : List Block) (x : Block) → loops_open (blocks ++ x ∷ []) ≡ cond (is_loop x) (1 + loops_open blocks) (loops_open blocks)
loops_open-last [] (Block.Loop top) = refl
loops_open-last [] (Block.Choice cases default_to) = refl
loops_open-last (Block.Loop top ∷ outer) (Block.Loop other) = omega (arith, loops_open-last outer (Block.Loop other))
loops_open-last (Block.Loop top ∷ outer) (Block.Choice cases default_to) = omega (arith, loops_open-last outer (Block.Choice cases default_to))
loops_open-last (Block.Choice cases default_to ∷ outer) x = loops_open-last outer x

pub loops_open_reverse : (blocks : List Block) → loops_open (reverse blocks) ≡ count_by is_loop blocks
loops_open_reverse = is_count_by (λ xs. loops_open (reverse xs)) is_loop refl (λ x xs. ap loops_open (reverse-append (x ∷ []) xs) ∙ loops_open-last (reverse xs) x)

-- the code with an instruction in front of an index
set-is : {X : Type 0} (xs : List X) (i : ℕ) (x : X) → i < length xs → set xs i x ≡ change xs i (λ _. x)
set-is [] i x h = absurd (omega arith)
set-is (y ∷ ys) zero x h = refl
set-is (y ∷ ys) (suc i) x h = ap (λ zs. y ∷ zs) (set-is ys i x (omega arith))

change-beyond : {X : Type 0} (xs : List X) (i : ℕ) (x : X) → length xs ≤ i → xs ≡ change xs i (λ _. x)
change-beyond [] i x h = refl
change-beyond (y ∷ ys) zero x h = absurd (omega arith)
change-beyond (y ∷ ys) (suc i) x h = ap (λ zs. y ∷ zs) (change-beyond ys i x (omega arith))

pub put_within : (code : List Instr) (to : ℕ) (x : Instr) → to - 1 < length code → set code (to - 1) x ≡ put code to x
put_within code to x h = set-is code (to - 1) x h

pub put_beyond : (code : List Instr) (to : ℕ) (x : Instr) → length code ≤ to - 1 → code ≡ put code to x
put_beyond code to x h = change-beyond code (to - 1) x h
