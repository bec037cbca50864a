use Rattle.std.proofs.Common.{arith}
use Rattle.gt_io.proofs.ByteLemmas.{passed_on-more}
use Rattle.gt_io.proofs.buffered.BufferedSink.flush.Goals as goal

pub loop-self-preserved : goal.loop-self-preserved
loop-self-preserved g c =
    let so_far = c.loop-self.invariant in
    let now = c.in_ok-pass_on.ensures in
    let more = passed_on-more _ _ _ _ _ _ _ so_far.within so_far.rest so_far.passed_on now.within now.rest now.passed_on in record {
      within = more.0;
      rest = more.1;
      passed_on = more.2;
      faults_never_fall = omega (arith, so_far.faults_never_fall, now.faults_never_fall);
    }
