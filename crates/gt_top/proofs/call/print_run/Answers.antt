use Rattle.std.proofs.Common.{◌≡◌, Some}
use Rattle.gt_book.specs.View.{outcome_of}
use Rattle.gt_top.specs.Answer.{IsRun}
use Rattle.gt_top.proofs.Complete.{complete-IsRun, complete-AllNamed}
use Rattle.gt_top.proofs.call.print_run.Goals as goal

pub write_trace-requires-clause-named : goal.write_trace-requires-clause-named
write_trace-requires-clause-named g c =
    rw (c.history.ensures, c.script.ensures, c.in-Ok.ensures.of_script) (complete-AllNamed c.args.script c.args.limits c.in-Ok.book c.in-Ok.ensures c.lawful.ensures.lawful)

pub returns-in-Ok-write_trace-clause-prints : goal.returns-in-Ok-write_trace-clause-prints
returns-in-Ok-write_trace-clause-prints g c =
    let over : outcome_of c.in-Ok.book ≡ Some c.unwrap-outcome.result = cc in
    let run : IsRun c.args.script c.args.limits c.in-Ok.book.history c.unwrap-outcome.result =
    complete-IsRun c.args.script c.args.limits c.in-Ok.book c.unwrap-outcome.result c.in-Ok.ensures c.lawful.ensures.lawful over in
    record { history = c.history.result.now; run = rw c.history.ensures run; written = rw (c.script.ensures, c.in-Ok.ensures.of_script) at c.in-Ok-write_trace.ensures.ok }

pub returns-clause-prints : goal.returns-clause-prints
returns-clause-prints g c =
    let over : outcome_of c.in-Ok.book ≡ Some c.unwrap-outcome.result = cc in
    let run : IsRun c.args.script c.args.limits c.in-Ok.book.history c.unwrap-outcome.result =
    complete-IsRun c.args.script c.args.limits c.in-Ok.book c.unwrap-outcome.result c.in-Ok.ensures c.lawful.ensures.lawful over in
    record {
      history = c.history.result.now;
      outcome = c.unwrap-outcome.result;
      run = rw c.history.ensures run;
      count = c.in-Err.ensures.front.0;
      written = rw (c.script.ensures, c.in-Ok.ensures.of_script) at c.in-Err.ensures.front.2;
      cause = c.in-Err.ensures.failed;
    }
