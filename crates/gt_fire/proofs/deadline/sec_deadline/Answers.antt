use Rattle.std.proofs.Common.{◌≡◌, Some, subst, sym, refl}
use Rattle.gt_schedule.specs.declared.status.RunStatus.{RunStatus}
use Rattle.gt_schedule.specs.Schedule.{status_of}
use Rattle.gt_book.specs.declared.answers.TimerOp.{TimerOp}
use Rattle.gt_book.specs.declared.step.Step.{Step}
use Rattle.gt_book.specs.View.{BookView}
use Rattle.gt_rows.specs.declared.answers.SetDone.{SetDone}
use Rattle.gt_rows.specs.Lent.{IsLent}
use Rattle.gt_rows.specs.Rows.{next_of}
use Rattle.gt_fire.proofs.Deriving.{NeedsDeadline, needs-deadline, derived-row, derives-ctx, other-never, never-parked, plain-kept, plain-row}
use Rattle.gt_fire.proofs.deadline.sec_deadline.Goals as goal
use Rattle.gt_fire.proofs.deadline.sec_deadline.Goals.{In-Deadline}

needs : (c : In-Deadline) → NeedsDeadline c.args.book.now c.args.g c.args.rec.now.id c.step_plain.new.self c.in-Deadline.due
needs c =
    needs-deadline c.args.book.now c.args.g c.args.rec.now.id c.step_plain.new.self c.step_plain.result c.in-Timer.op _ c.in-Deadline.due
    c.requires.stands c.in-Timer.is c.in-Deadline.is c.step_plain.ensures

pub derive-requires-clause-lent : goal.derive-requires-clause-lent
derive-requires-clause-lent c = subst (λ (b : BookView). IsLent b c.args.heap.now c.args.rec.now) (sym (needs (goal.at.derive-requires-clause-lent c).In-Deadline).same) c.requires.lent

pub derive-requires-clause-in_hand : goal.derive-requires-clause-in_hand
derive-requires-clause-in_hand c = subst (λ (b : BookView). status_of b.schedule c.args.g ≡ Some RunStatus.InHand) (sym (needs (goal.at.derive-requires-clause-in_hand c).In-Deadline).same) c.requires.in_hand

pub derive-requires-clause-asks : goal.derive-requires-clause-asks
derive-requires-clause-asks c =
    subst (λ (b : BookView). next_of b c.args.g ≡ Some (Step.Needs (TimerOp.Deadline c.args.rec.now.id c.in-Deadline.due))) (sym (needs (goal.at.derive-requires-clause-asks c).In-Deadline).same) (needs (goal.at.derive-requires-clause-asks c).In-Deadline).step

pub returns-in-Deadline-clause-row : goal.returns-in-Deadline-clause-row
returns-in-Deadline-clause-row c =
    derived-row (record { heap = c.args.heap.now; rec = c.args.rec.now; book = c.args.book.now })
    (record { heap = c.derive.new.heap; rec = c.derive.new.rec; book = c.derive.new.book }) c.step_plain.new.self c.args.g c.in-Deadline.due c.derive.result (needs (goal.at.returns-in-Deadline-clause-row c).In-Deadline) c.derive.ensures.arms

pub returns-in-Entered-clause-row : goal.returns-in-Entered-clause-row
returns-in-Entered-clause-row c =
    plain-row (record { heap = c.args.heap.now; rec = c.args.rec.now; book = c.args.book.now }) c.args.g c.step_plain.new.self c.step_plain.result SetDone.Done
    c.requires.stands c.step_plain.ensures (rw c.in-Entered.is refl)

pub returns-in-Entered-clause-kept : goal.returns-in-Entered-clause-kept
returns-in-Entered-clause-kept c =
    plain-kept c.args.book.now c.args.g c.step_plain.new.self c.step_plain.result SetDone.Done c.args.heap.now c.args.rec.now c.lawful.ensures.lawful
    (derives-ctx c.args.book.now c.args.g c.args.rec.now.id c.lawful.ensures.lawful c.requires.stands) c.requires.stands c.step_plain.ensures (rw c.in-Entered.is refl) c.requires.lent

pub returns-in-Over-clause-row : goal.returns-in-Over-clause-row
returns-in-Over-clause-row c =
    plain-row (record { heap = c.args.heap.now; rec = c.args.rec.now; book = c.args.book.now }) c.args.g c.step_plain.new.self c.step_plain.result (SetDone.Over c.in-Over.outcome)
    c.requires.stands c.step_plain.ensures (rw c.in-Over.is refl)

pub returns-in-Over-clause-kept : goal.returns-in-Over-clause-kept
returns-in-Over-clause-kept c =
    plain-kept c.args.book.now c.args.g c.step_plain.new.self c.step_plain.result (SetDone.Over c.in-Over.outcome) c.args.heap.now c.args.rec.now c.lawful.ensures.lawful
    (derives-ctx c.args.book.now c.args.g c.args.rec.now.id c.lawful.ensures.lawful c.requires.stands) c.requires.stands c.step_plain.ensures (rw c.in-Over.is refl) c.requires.lent

pub unreachable-requires : goal.unreachable-requires
unreachable-requires c =
    other-never c.args.book.now c.args.g c.args.rec.now.id c.step_plain.new.self c.step_plain.result c.in-Timer.op c.requires.stands c.in-Timer.is c.in_default.not-Deadline c.step_plain.ensures

pub unreachable-requires-in-Parked : goal.unreachable-requires-in-Parked
unreachable-requires-in-Parked c =
    never-parked c.args.book.now c.args.g c.args.rec.now.id c.step_plain.new.self c.step_plain.result c.requires.stands c.in-Parked.is c.step_plain.ensures
