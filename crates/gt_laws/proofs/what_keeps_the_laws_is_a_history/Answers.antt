use Rattle.gt_laws.proofs.Converse.{lawful-History}
use Rattle.gt_laws.proofs.what_keeps_the_laws_is_a_history.Goals as goal

pub returns : goal.returns
returns c = λ script limits h outcome good order time fresh uses passes chooses alone adds_up signals keeps hooks ends over.
    lawful-History script limits h outcome
    (record { good = good; order = order; time = time; fresh = fresh; uses = uses; passes = passes; chooses = chooses; alone = alone; adds_up = adds_up; signals = signals; keeps = keeps; hooks = hooks; ends = ends }) over
