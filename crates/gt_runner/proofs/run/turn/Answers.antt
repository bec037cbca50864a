use Rattle.std.proofs.Common.{◌≡◌, ◌∙◌, ap, None}
use Rattle.gt_book.specs.View.{outcome_of}
use Rattle.gt_runner.proofs.Turning.{alone-taken, less-run}
use Rattle.gt_runner.proofs.Taking.{after-taken, alone-marks, passes-marks, running-marks}
use Rattle.gt_runner.proofs.run.turn.Goals as goal

pub unblock-requires : goal.unblock-requires
unblock-requires c = record { taken = after-taken c.args.run.now c.take_ready.new.self c.in-Run.g c.requires.served c.lawful.ensures.lawful c.lawful.ensures.marks c.in-Run.ensures }

pub run_goroutine-requires : goal.run_goroutine-requires
run_goroutine-requires c =
    let before : outcome_of c.take_ready.new.self ≡ None = ap outcome_of c.in-Run.ensures.1 ∙ c.requires.running in
    record {
      ready = record {
        served = c.unblock.ensures.served;
        lawful = c.lawful-in-Run.ensures.lawful;
        marks = c.lawful-in-Run.ensures.marks;
        alone = alone-marks c.take_ready.new.self c.unblock.new.run.book c.in-Run.g c.unblock.ensures.marks
            (alone-taken c.args.run.now.book c.take_ready.new.self c.in-Run.g c.lawful.ensures.lawful c.requires.free c.in-Run.ensures);
        running = running-marks c.take_ready.new.self c.unblock.new.run.book c.unblock.ensures.marks before;
      };
    }

pub returns-in-Run-clause-less : goal.returns-in-Run-clause-less
returns-in-Run-clause-less c =
    less-run c.args.run.now.book c.take_ready.new.self c.run_goroutine.new.run.book c.in-Run.g c.lawful.ensures.lawful c.in-Run.ensures
    (passes-marks c.take_ready.new.self c.unblock.new.run.book c.run_goroutine.new.run.book c.unblock.ensures.marks c.run_goroutine.ensures.passes)
    c.lawful-in-Run-2.ensures.few c.lawful-in-Run-2.ensures.few_goroutines
