-- The blocks that are open, from either end.
use Rattle.std.proofs.Common.{◌≡◌, ◌+◌, cond, List, [], ◌∷◌, ◌++◌, reverse, refl, ◌∙◌, ap, arith}
use Rattle.std.specs.List.{count_by}
use Rattle.std.proofs.lemmas.List.{reverse-append}
use Rattle.std.proofs.lemmas.List.Recursion.{is_count_by}
use Rattle.gt_grammar.specs.declared.progress.OpenBlock.{OpenBlock}
use Rattle.gt_grammar.specs.Faults.{is_loop, loop_count}

loop_count-last : (blocks : List OpenBlock) (x : OpenBlock) → loop_count (blocks ++ x ∷ []) ≡ cond (is_loop x) (1 + loop_count blocks) (loop_count blocks)
loop_count-last [] (OpenBlock.Loop repeats held) = refl
loop_count-last [] (OpenBlock.Choice cases timers has_default) = refl
loop_count-last (OpenBlock.Loop repeats held ∷ outer) (OpenBlock.Loop again more) = omega (arith, loop_count-last outer (OpenBlock.Loop again more))
loop_count-last (OpenBlock.Loop repeats held ∷ outer) (OpenBlock.Choice cases timers has_default) = omega (arith, loop_count-last outer (OpenBlock.Choice cases timers has_default))
loop_count-last (OpenBlock.Choice cases timers has_default ∷ outer) x = loop_count-last outer x

pub loop_count_reverse : (blocks : List OpenBlock) → loop_count (reverse blocks) ≡ count_by is_loop blocks
loop_count_reverse = is_count_by (λ xs. loop_count (reverse xs)) is_loop refl (λ x xs. ap loop_count (reverse-append (x ∷ []) xs) ∙ loop_count-last (reverse xs) x)
