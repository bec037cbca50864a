use Rattle.std.proofs.Common.{◌∙◌, ap, subst}
use Rattle.gt_book.specs.declared.answers.Did.{Did}
use Rattle.gt_book.specs.Steps.{Steps}
use Rattle.gt_fire.proofs.Sleeping.{AsksOnly, sleep-asks, asks-nothing_else, kept-lent, sleeps-row}
use Rattle.gt_fire.proofs.sleep.sec_sleep.Goals as goal

pub returns-in-Timer-Sleep-clause-row : goal.returns-in-Timer-Sleep-clause-row
returns-in-Timer-Sleep-clause-row c =
    sleeps-row (record { heap = c.args.heap.now; rec = c.args.rec.now; book = c.args.book.now })
    (record { heap = c.fall_asleep.new.heap; rec = c.fall_asleep.new.rec; book = c.fall_asleep.new.book }) c.step_plain.new.self c.args.g c.in-Timer-Sleep.d c.fall_asleep.result
    c.requires.stands.stands (subst (Steps c.args.book.now c.args.g c.step_plain.new.self) (c.in-Timer-Sleep.is ∙ ap Did.Timer c.in-Timer-Sleep.field-0-is) c.step_plain.ensures) c.fall_asleep.ensures.arms

pub returns-in-Over-clause-kept : goal.returns-in-Over-clause-kept
returns-in-Over-clause-kept c =
    let asks : AsksOnly c.args.book.now c.args.g c.step_plain.new.self c.step_plain.result =
    sleep-asks c.args.book.now c.args.g c.step_plain.new.self c.step_plain.result c.requires.stands.stands c.step_plain.ensures in
    kept-lent c.args.book.now c.step_plain.new.self c.args.heap.now c.args.rec.now asks.same c.requires.lent

pub returns-in-Entered : goal.returns-in-Entered
returns-in-Entered c =
    absurd (asks-nothing_else c.args.book.now c.args.g c.step_plain.new.self c.step_plain.result c.in-Entered.is c.requires.stands.stands c.step_plain.ensures)

pub returns-in-Timer-clause-kept : goal.returns-in-Timer-clause-kept
returns-in-Timer-clause-kept c =
    let asks : AsksOnly c.args.book.now c.args.g c.step_plain.new.self c.step_plain.result =
    sleep-asks c.args.book.now c.args.g c.step_plain.new.self c.step_plain.result c.requires.stands.stands c.step_plain.ensures in
    kept-lent c.args.book.now c.step_plain.new.self c.args.heap.now c.args.rec.now asks.same c.requires.lent
