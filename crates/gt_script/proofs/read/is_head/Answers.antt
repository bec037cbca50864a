use Rattle.std.proofs.Common.{sym, arith}
use Rattle.std.proofs.lemmas.Grind.{common_steps}
use Rattle.gt_script.proofs.ReadingLemmas.{is_head-words}
use Rattle.gt_script.proofs.read.is_head.Goals as goal

pub returns-then-is_text-2 : goal.returns-then-is_text-2
returns-then-is_text-2 c =
    let words = is_head-words c.args.word.now _ _ _ _ c.in-Some.ensures (sym c.in-Some-only_word.ensures) in
    rw words (grind (arith, common_steps))
