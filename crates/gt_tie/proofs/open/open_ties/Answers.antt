use Rattle.std.proofs.Common.{ℕ, List, [], sym, ◌∙◌, subst}
use Rattle.atomic_table.specs.Table.{opening}
use Rattle.gt_tie.specs.Rule.{Holds, whole}
use Rattle.gt_tie.proofs.Splits.{opening_holds}
use Rattle.gt_tie.proofs.open.open_ties.Goals as goal

pub of_words-requires : goal.of_words-requires
of_words-requires c = subst (λ (ws : List ℕ). Holds c.args.records c.args.heaps (opening ws [] (whole c.args.records c.args.heaps 0 0))) (sym (c.as_slice.ensures.value ∙ c.in_ok-words.ensures)) (opening_holds c.args.records c.args.heaps)
