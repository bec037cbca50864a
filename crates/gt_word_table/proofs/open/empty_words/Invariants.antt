use Rattle.gt_word_table.specs.Opening.{AreEmpty}
use Rattle.gt_word_table.proofs.open.empty_words.Given as goal

abbrev pub invariant-loop : goal.invariant-loop
invariant-loop l = AreEmpty l.counter l.words.items
