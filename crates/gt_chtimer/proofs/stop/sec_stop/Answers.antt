use Rattle.std.proofs.Common.{◌≡◌, inl, inr, sym, ap, subst, ◌∙◌, refl}
use Rattle.gt_model.specs.declared.entry.Entry.{Entry}
use Rattle.gt_rec.specs.Rec.{Rec, BitsRight}
use Rattle.gt_rec.specs.Fields.{rec_of}
use Rattle.gt_rec.specs.Changes.{disarmed}
use Rattle.gt_book.specs.Steps.{Steps}
use Rattle.gt_rows.specs.Lent.{IsLentRec}
use Rattle.gt_rows.specs.Rows.{Pair, Stops, answer_of}
use Rattle.gt_rows.specs.declared.answers.StopDone.{StopDone}
use Rattle.gt_chtimer.proofs.Committing.{Tells, tells-over, tells-fine}
use Rattle.gt_chtimer.specs.Kinds.{answer_by}
use Rattle.gt_chtimer.proofs.ByKind.{answer-is}
use Rattle.gt_chtimer.proofs.Stopping.{StopComes, stop-comes, stop-came, stop-row, stop-kept, plain-kept}
use Rattle.gt_chtimer.proofs.stop.sec_stop.Goals as goal
use Rattle.gt_chtimer.proofs.stop.sec_stop.Goals.{After-answer_of-was, in-Over-commit, in-Entered-commit}

pub returns-in-Entered-clause-kept : goal.returns-in-Entered-clause-kept
returns-in-Entered-clause-kept c =
    plain-kept c.args.book.now c.args.g c.step_plain.result c.args.rec.now c.step_plain.new.self StopDone.Done c.lawful.ensures.lawful c.requires.stands c.requires.lent c.step_plain.ensures
    (elim c.in-Entered.is [ inl is ↦ rw is refl | inr is ↦ rw is refl ])

pub returns-in-Over-clause-kept : goal.returns-in-Over-clause-kept
returns-in-Over-clause-kept c =
    plain-kept c.args.book.now c.args.g c.step_plain.result c.args.rec.now c.step_plain.new.self (StopDone.Over c.in-Over.outcome) c.lawful.ensures.lawful c.requires.stands c.requires.lent c.step_plain.ensures
    (rw c.in-Over.is refl)

abbrev old : After-answer_of-was → Pair
old c = record { rec = c.args.rec.now; book = c.args.book.now }

-- the record as it is read again
disarmed-now : (c : After-answer_of-was) → rec_of c.rec.inside ≡ disarmed c.args.rec.now
disarmed-now c = c.rec.view_is ∙ c.disarm-was_set.ensures.after

-- the stop at its commitment
comes : (c : After-answer_of-was) → StopComes (old c) c.args.g c.step_plain.new.self c.rec.inside.id c.answer_of-was.result
comes c =
    stop-comes (old c) c.args.g c.step_plain.new.self c.in-Timer.field-0 c.rec.inside.id c.answer_of-was.result c.lawful.ensures.lawful c.requires.stands c.requires.lent c.requires.in_hand
    (subst (Steps c.args.book.now c.args.g c.step_plain.new.self) c.in-Timer.is c.step_plain.ensures) (ap (λ (r : Rec). r.id) (disarmed-now c))
    (answer-is c.args.rec.now c.disarm-was_set.result c.answer_of-was.result c.disarm-was_set.ensures.was_set
    (c.answer_of-was.ensures ∙ ap (λ (r : Rec). answer_by r.kind c.disarm-was_set.result) (disarmed-now c)))

pub commit-requires : goal.commit-requires
commit-requires c = λ in_time. (comes (goal.at.commit-requires c).After-answer_of-was).may

pub returns-after-commit-clause-row : goal.returns-after-commit-clause-row
returns-after-commit-clause-row c =
    let a : After-answer_of-was = (goal.at.returns-after-commit-clause-row c).After-answer_of-was in
    let at : StopComes (old a) c.args.g c.step_plain.new.self c.rec.inside.id c.answer_of-was.result = comes a in
    let tells : Tells StopDone.Over StopDone.Done c.commit.result c.match-commit.result =
    elim c.match-commit.branch [
      | in-Over-commit w ↦ tells-over StopDone.Over StopDone.Done c.commit.result w.in-Over-commit.outcome c.match-commit.result w.in-Over-commit.is w.result-is
      | in-Entered-commit w ↦ tells-fine StopDone.Over StopDone.Done c.commit.result c.match-commit.result w.in-Entered-commit.is w.result-is
    ] in
    stop-row (old a) c.args.g (record { rec = c.disarm-was_set.new.self; book = c.commit.new.self }) c.match-commit.result at.running at.step
    (stop-came (old a) c.args.g c.step_plain.new.self c.rec.inside.id c.answer_of-was.result c.disarm-was_set.new.self c.commit.new.self c.commit.result c.match-commit.result at
    c.disarm-was_set.ensures.after c.commit.ensures tells)

pub returns-after-commit-clause-kept : goal.returns-after-commit-clause-kept
returns-after-commit-clause-kept c =
    let a : After-answer_of-was = (goal.at.returns-after-commit-clause-kept c).After-answer_of-was in
    let tells : Tells StopDone.Over StopDone.Done c.commit.result c.match-commit.result =
    elim c.match-commit.branch [
      | in-Over-commit w ↦ tells-over StopDone.Over StopDone.Done c.commit.result w.in-Over-commit.outcome c.match-commit.result w.in-Over-commit.is w.result-is
      | in-Entered-commit w ↦ tells-fine StopDone.Over StopDone.Done c.commit.result c.match-commit.result w.in-Entered-commit.is w.result-is
    ] in
    let row : Stops (old a) (Entry.Stop c.args.g c.args.rec.now.id (answer_of c.args.rec.now)) (disarmed c.args.rec.now)
    (record { rec = c.disarm-was_set.new.self; book = c.commit.new.self }) c.match-commit.result =
    stop-came (old a) c.args.g c.step_plain.new.self c.rec.inside.id c.answer_of-was.result c.disarm-was_set.new.self c.commit.new.self c.commit.result c.match-commit.result (comes a)
    c.disarm-was_set.ensures.after c.commit.ensures tells in
    let right : BitsRight (disarmed c.args.rec.now) = subst BitsRight c.disarm-was_set.ensures.after c.disarm-was_set.ensures.bits in
    subst (IsLentRec c.commit.new.self) (sym c.disarm-was_set.ensures.after)
    (stop-kept c.args.book.now c.args.g (answer_of c.args.rec.now) c.args.rec.now c.commit.new.self c.lawful.ensures.lawful c.requires.stands c.requires.lent row.entered right)
