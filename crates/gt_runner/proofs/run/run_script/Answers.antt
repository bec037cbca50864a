use Rattle.std.proofs.Common.{rules, ◌≡◌, None}
use Rattle.gt_book.specs.View.{outcome_of}
use Rattle.gt_runner.proofs.run.run_script.Goals as goal

pub turn-requires-clause-served : goal.turn-requires-clause-served
turn-requires-clause-served c =
    let running : outcome_of c.loop-run.run.book ≡ None = search rules in
    c.loop-run.invariant.1 running

pub turn-requires-clause-free : goal.turn-requires-clause-free
turn-requires-clause-free c =
    let running : outcome_of c.loop-run.run.book ≡ None = search rules in
    c.loop-run.invariant.0.hands running
