use Rattle.gt_dur.proofs.Progress.{read_all}
use Rattle.gt_dur.proofs.pairs.read_pairs.Goals as goal

pub returns : goal.returns
returns c = read_all c.args.text.now c.loop-rest.rest.now c.loop-rest.total c.loop-rest.invariant c.is_empty.result c.is_empty.ensures c.loop-rest-test.false
