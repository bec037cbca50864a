use Rattle.gt_runner.proofs.Cleanings.{FirstIs, head-first, early-first}
use Rattle.gt_runner.proofs.settling.is_early.Goals as goal

pub returns-in-Some-Some : goal.returns-in-Some-Some
returns-in-Some-Some c =
    let x = c.args.run.now in
    let f : FirstIs x.heap.slots c.in-Some-Some.key c.in-Some-Some.field-0-1-1 =
    head-first x.heap.slots c.in-Some-Some.key c.in-Some-Some.field-0-1-1 c.in-Some-Some.ensures.first c.in-Some-Some.ensures.with in
    early-first x c.in-Some-Some.noted c.in-Some-Some.key c.in-Some-Some.field-0-1-1 f c.in-Some-Some.is-0
