use Rattle.std.proofs.Common.{sym, subst}
use Rattle.gt_word_table.specs.Opening.{AreEmpty}
use Rattle.gt_word_table.proofs.Splits.{opening_holds}
use Rattle.gt_word_table.proofs.open.open_words.Goals as goal

pub of_words-requires : goal.of_words-requires
of_words-requires c = opening_holds c.args.ps c.as_slice.result.now (subst (AreEmpty c.args.ps) (sym c.as_slice.ensures.value) c.in_ok-empty.ensures)
