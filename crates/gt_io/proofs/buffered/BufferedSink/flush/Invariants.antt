use Rattle.std.proofs.Common.{◌≡◌, ◌-◌, ◌≤◌, length, take, drop}
use Rattle.gt_io.specs.Bytes.{Appended}
use Rattle.gt_io.proofs.buffered.BufferedSink.flush.Given as goal

abbrev pub invariant-loop-self : goal.invariant-loop-self
invariant-loop-self g l = let passed = length l.fn.self.kept - length l.self.kept in record {
  within : length l.self.kept ≤ length l.fn.self.kept;
  rest : l.self.kept ≡ drop passed l.fn.self.kept;
  passed_on : Appended (g.K.Sink.written l.fn.self.sink) (g.K.Sink.written l.self.sink) (take passed l.fn.self.kept);
  faults_never_fall : g.K.Sink.faults l.fn.self.sink ≤ g.K.Sink.faults l.self.sink;
}

abbrev pub decreases-loop-self : goal.decreases-loop-self
decreases-loop-self g l = length l.self.kept
