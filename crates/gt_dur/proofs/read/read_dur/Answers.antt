use Rattle.gt_dur.proofs.Reading.{read_of-Ok, read_of-Big}
use Rattle.gt_dur.proofs.Splitting.{pairs_of-SplitsInto}
use Rattle.gt_dur.proofs.read.read_dur.Goals as goal

pub returns-clause-duration : goal.returns-clause-duration
returns-clause-duration c = λ n. rw (c.read_bytes.ensures, c.as_bytes.ensures.value) (read_of-Ok c.args.text.now n)

pub returns-clause-big : goal.returns-clause-big
returns-clause-big c = rw (c.read_bytes.ensures, c.as_bytes.ensures.value) (read_of-Big c.args.text.now)

pub returns-clause-pairs : goal.returns-clause-pairs
returns-clause-pairs c = pairs_of-SplitsInto c.args.text.now
