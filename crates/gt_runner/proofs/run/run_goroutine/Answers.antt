use Rattle.std.proofs.Common.{rules, ◌≡◌, Some}
use Rattle.gt_schedule.specs.declared.status.RunStatus.{RunStatus}
use Rattle.gt_schedule.specs.Schedule.{status_of}
use Rattle.gt_runner.proofs.Taking.{less-turn}
use Rattle.gt_runner.proofs.run.run_goroutine.Goals as goal

pub loop-run-smaller : goal.loop-run-smaller
loop-run-smaller c =
    let in_hand : status_of c.loop-run.run.book.schedule c.args.g ≡ Some RunStatus.InHand = search rules in
    less-turn c.loop-run.run.book c.call.new.run.book c.args.g in_hand c.call.ensures.goes c.lawful-in-loop-run.ensures.few
