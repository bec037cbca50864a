use Rattle.std.proofs.Common.{ℕ, arith, length-drop}
use Rattle.std.proofs.lemmas.List.{take_rest}
use Rattle.gt_io.proofs.ByteLemmas.{Appended-more}
use Rattle.gt_io.proofs.whole.write_all.Goals as goal

pub loop-at-preserved : goal.loop-at-preserved
loop-at-preserved g c = record {
  in_bytes = omega (arith, c.in_ok-count.ensures.within, length-drop {A = ℕ});
  appended = Appended-more _ _ _ _ _ _ c.loop-at.invariant.appended (rw take_rest at c.in_ok-count.ensures.appended);
  untouched = λ none. absurd (omega (arith, none));
  faults_never_fall = omega (arith, c.write.ensures.faults_never_fall, c.loop-at.invariant.faults_never_fall);
}
