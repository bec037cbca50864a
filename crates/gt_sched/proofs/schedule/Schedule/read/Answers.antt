use Rattle.std.proofs.Common.{◌≡◌, ◌⊎◌, ◌<◌, All, Some, inl, inr, ⊎_elim, ap, ◌∙◌, subst, arith, rules}
use Rattle.std.specs.List.{before_first}
use Rattle.gt_sched.specs.declared.fault.SchedFault.{SchedFault}
use Rattle.gt_sched.specs.Schedules.{fault_of}
use Rattle.gt_sched.specs.Items.{is_blank, items_of}
use Rattle.gt_sched.proofs.Reading.{take-drop_rest, reading_more, reading_fails, reading_ends}
use Rattle.gt_sched.proofs.Workers.{turns_of-workers}
use Rattle.gt_sched.proofs.schedule.Schedule.read.Goals as goal

pub returns-in_err-read_part-clause-fault : goal.returns-in_err-read_part-clause-fault
returns-in_err-read_part-clause-fault c =
    let e : SchedFault = c.in_err-read_part.field-0.0 in
    let part = c.first_part-part.ensures ∙ ap (before_first is_blank) (take-drop_rest c.loop-at.at c.args.text.now) in
    let failed : (e ≡ SchedFault.NoMemory) ⊎ (fault_of c.args.ps c.args.text.now ≡ Some e) = ⊎_elim
    (λ h. inl h)
    (λ h. inr (reading_fails c.args.ps c.loop-at.at c.args.text.now c.loop-at.reading.turns.items c.first_part-part.result.now c.loop-at.reading.total e c.loop-at.invariant (omega arith) part h))
    c.in_err-read_part.ensures.fault in
    search (rules, failed)

pub loop-at-preserved : goal.loop-at-preserved
loop-at-preserved c =
    let part = c.first_part-part.ensures ∙ ap (before_first is_blank) (take-drop_rest c.loop-at.at c.args.text.now) in
    reading_more c.args.ps c.loop-at.at c.args.text.now c.loop-at.reading.turns.items c.read_part.new.reading.turns.items c.first_part-part.result.now c.loop-at.reading.total c.read_part.new.reading.total
    c.loop-at.invariant (omega arith) part c.in_ok-read_part.ensures.good c.in_ok-read_part.ensures.total c.in_ok-read_part.ensures.turns

pub returns-clause-workers : goal.returns-clause-workers
returns-clause-workers c =
    let ends = reading_ends c.args.ps c.loop-at.at c.args.text.now c.loop-at.reading.turns.items c.loop-at.reading.total c.loop-at.invariant (omega arith) in
    subst (All (λ p. p < c.args.ps)) (ends.2 (omega arith)) (turns_of-workers c.args.ps (items_of c.args.text.now) ends.0)
