use Rattle.gt_io.proofs.CountLemmas.{≤-then_Rose}
use Rattle.gt_top.specs.Call.{sink_state}
use Rattle.gt_command.specs.Answered.{WritesPrefix}
use Rattle.gt_command.proofs.Below.{prefix_below-of_prefix, prefix_below-passed_on}
use Rattle.gt_command.proofs.Passing.{on_err, on_err-map}
use Rattle.gt_command.proofs.calls.write_through.Goals as goal

pub returns-in_err-write_all-clause-failed : goal.returns-in_err-write_all-clause-failed
returns-in_err-write_all-clause-failed g c =
    let wrote = c.in_err-write_all.ensures in
    let found = prefix_below-of_prefix (g.K.Sink.written c.args.sink.now.sink) (g.K.Sink.written c.write_all.new.sink.sink) c.args.sink.now.kept c.write_all.new.sink.kept c.args.bytes.now wrote.front.0 c.requires.unwritten c.requires.nothing_kept wrote.front.2 in
    let prefix : WritesPrefix (sink_state g.K.Sink.written g.K.Sink.faults c.args.sink.now.sink) (sink_state g.K.Sink.written g.K.Sink.faults c.write_all.new.sink.sink) c.args.bytes.now =
    record { count = found.0; within = found.1; written = found.2; cause = wrote.failed } in
    on_err c.from_residual.result prefix

pub returns-clause-failed : goal.returns-clause-failed
returns-clause-failed g c =
    on_err-map c.flush.result c.flush.ensures.rest c.flush.ensures.failed (λ rest rose.
    let found = prefix_below-passed_on (g.K.Sink.written c.args.sink.now.sink) (g.K.Sink.written c.write_all.new.sink.sink) (g.K.Sink.written c.flush.new.self.sink) c.args.sink.now.kept c.write_all.new.sink.kept c.args.bytes.now rest.0 c.requires.unwritten c.requires.nothing_kept c.in_ok-write_all.ensures.ok rest.3 in
    record { count = found.0; within = found.1; written = found.2; cause = ≤-then_Rose c.in_ok-write_all.ensures.faults_never_fall rose })
