use Rattle.std.proofs.Common.{map, string_bytes}
use Rattle.gt_io.proofs.CountLemmas.{≤-then_Rose}
use Rattle.gt_top.specs.Call.{source_state, sink_state}
use Rattle.gt_command.proofs.Passing.{answered-done, answered-cut, answered-other}
use Rattle.gt_command.proofs.calls.call.Goals as goal

pub returns-in-Ok-clause-answer : goal.returns-in-Ok-clause-answer
returns-in-Ok-clause-answer g c =
    let source = source_state g.S.Source.left g.S.Source.faults g.S.Source.given in
    let sink = sink_state g.K.Sink.written g.K.Sink.faults in
    answered-done (map string_bytes c.args.words.now) (source c.args.source.now) (source c.calm.new.source) (sink c.args.sink.now.sink) (sink c.calm.new.sink.sink) (sink c.flush.new.self.sink) c.args.sink.now.kept c.calm.new.sink.kept c.in-Done.outcome c.requires.nothing_kept c.in-Done.ensures.answer c.in-Ok.ensures.passed_on

pub returns-in-Err-clause-answer : goal.returns-in-Err-clause-answer
returns-in-Err-clause-answer g c =
    let source = source_state g.S.Source.left g.S.Source.faults g.S.Source.given in
    let sink = sink_state g.K.Sink.written g.K.Sink.faults in
    let rest = c.in-Err.ensures.rest in
    answered-cut (map string_bytes c.args.words.now) (source c.args.source.now) (source c.calm.new.source) (sink c.args.sink.now.sink) (sink c.calm.new.sink.sink) (sink c.flush.new.self.sink) c.args.sink.now.kept c.calm.new.sink.kept rest.0 c.in-Done.outcome c.requires.unwritten c.requires.nothing_kept c.in-Done.ensures.answer rest.3 (≤-then_Rose c.in-Done.ensures.faults_never_fall c.in-Err.ensures.failed)

pub returns-in-Err-clause-complete : goal.returns-in-Err-clause-complete
returns-in-Err-clause-complete g c = λ accepted.
    accepted.no_write_fault (≤-then_Rose c.in-Done.ensures.faults_never_fall c.in-Err.ensures.failed)

pub returns-in_default : goal.returns-in_default
returns-in_default g c =
    let source = source_state g.S.Source.left g.S.Source.faults g.S.Source.given in
    let sink = sink_state g.K.Sink.written g.K.Sink.faults in
    record {
      answer = answered-other (map string_bytes c.args.words.now) c.calm.result (source c.args.source.now) (source c.calm.new.source) (sink c.args.sink.now.sink) (sink c.calm.new.sink.sink) c.args.sink.now.kept c.calm.new.sink.kept c.in_default.not-Done c.requires.unwritten c.requires.nothing_kept c.calm.ensures.answer;
      complete = λ accepted. c.calm.ensures.complete (record {
        limit = accepted.limit;
        order = accepted.order;
        bytes = accepted.bytes;
        script = accepted.script;
        told = accepted.told;
        short = accepted.short;
        spelled = accepted.spelled;
        no_read_fault = accepted.no_read_fault;
        no_write_fault = accepted.no_write_fault;
      });
    }
