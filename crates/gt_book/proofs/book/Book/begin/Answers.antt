use Rattle.std.proofs.Common.{rules, arith, ◌≡◌, ◌+◌, ◌-◌, []}
use Rattle.gt_rules.specs.After.{first_state}
use Rattle.gt_machine.specs.Machine.{state_of, HasChannels, HasContexts}
use Rattle.gt_schedule.specs.Schedule.{first_schedule, most_goroutines}
use Rattle.gt_schedule.specs.Scheduler.{schedule_of, capacity, IsScheduler}
use Rattle.gt_book.specs.declared.run.Run.{Run}
use Rattle.gt_book.specs.Run.{HasWakingRoom}
use Rattle.gt_book.proofs.Books.{begun-kept}
use Rattle.gt_book.proofs.book.Book.begin.Goals as goal

pub invariant_of-result : goal.invariant_of-result
invariant_of-result c =
    let empty : c.in_ok-history.history.items ≡ [] = search rules in
    let spare : c.in_ok-history.history.spare ≡ c.args.limits.entries + 1 = search rules in
    let state : state_of c.in_ok-machine.machine ≡ first_state c.args.script = search rules in
    let most : c.most_goroutines-most.result ≡ most_goroutines c.args.script c.args.limits = search rules in
    let spares : c.in_ok-machine.machine.goroutines.spare ≡ c.most_goroutines-most.result - 1 = search rules in
    let room : c.in_ok-machine.machine.goroutines.spare + 1 ≡ most_goroutines c.args.script c.args.limits = omega arith in
    let channels : HasChannels c.args.script c.in_ok-machine.machine = search rules in
    let contexts : HasContexts c.args.script c.in_ok-machine.machine = search rules in
    let schedule : schedule_of c.in_ok-scheduler.scheduler ≡ first_schedule c.args.script = search rules in
    let places : capacity c.in_ok-scheduler.scheduler ≡ most_goroutines c.args.script c.args.limits = search rules in
    let kept : IsScheduler c.in_ok-scheduler.scheduler = search rules in
    let run : Run = record {
      history = c.in_ok-history.history;
      machine = c.in_ok-machine.machine;
      scheduler = c.in_ok-scheduler.scheduler;
      waking = c.in_ok-waking.waking;
    } in
    let waking : HasWakingRoom c.args.script run = record { room = search rules } in
    begun-kept (record { script = c.args.script; limits = c.args.limits; run = run }) contexts waking c.requires.good c.requires.limits empty spare state channels room schedule places kept
