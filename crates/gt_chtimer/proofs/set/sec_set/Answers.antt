use Rattle.std.proofs.Common.{is_some, ap, ◌∙◌, refl}
use Rattle.gt_rec.specs.Rec.{Rec}
use Rattle.gt_rows.specs.declared.answers.SetDone.{SetDone}
use Rattle.gt_rows.specs.Rows.{Parts, answer_of}
use Rattle.gt_chtimer.specs.Kinds.{answer_by, setting_period}
use Rattle.gt_chtimer.proofs.ByKind.{answer-is}
use Rattle.gt_chtimer.proofs.Setting.{set-plain_kept, set-needed, SettingComes, setting-comes, setting-arms, setting-row, setting-kept}
use Rattle.gt_chtimer.proofs.set.sec_set.Goals as goal
use Rattle.gt_chtimer.proofs.set.sec_set.Goals.{After-period_of-period}

pub returns-in-Entered-clause-kept : goal.returns-in-Entered-clause-kept
returns-in-Entered-clause-kept c = record {
  rec = set-plain_kept c.args.book.now c.args.g c.step_plain.result c.args.rec.now c.step_plain.new.self SetDone.Done c.lawful.ensures.lawful c.requires.stands c.requires.lent.rec c.step_plain.ensures
      (rw c.in-Entered.is refl);
  placed = c.requires.lent.placed;
}

pub returns-in-Over-clause-kept : goal.returns-in-Over-clause-kept
returns-in-Over-clause-kept c = record {
  rec = set-plain_kept c.args.book.now c.args.g c.step_plain.result c.args.rec.now c.step_plain.new.self (SetDone.Over c.in-Over.outcome) c.lawful.ensures.lawful c.requires.stands c.requires.lent.rec c.step_plain.ensures
      (rw c.in-Over.is refl);
  placed = c.requires.lent.placed;
}

abbrev old : After-period_of-period → Parts
old c = record { heap = c.args.heap.now; rec = c.args.rec.now; book = c.args.book.now }

-- the setting may come
comes : (c : After-period_of-period)
    → SettingComes (old c) c.args.g c.step_plain.new.self c.in-Timer-Set.t c.in-Timer-Set.d c.due_in-due.result c.period_of-period.result c.in-Timer-Set.anew c.answer_of-was.result
comes c =
    setting-comes (old c) c.args.g c.step_plain.new.self c.in-Timer-Set.t c.in-Timer-Set.d c.due_in-due.result c.period_of-period.result c.in-Timer-Set.anew c.answer_of-was.result
    c.lawful.ensures.lawful c.requires.stands c.requires.lent.rec c.requires.in_hand
    (set-needed c.args.book.now c.args.g c.step_plain.new.self c.args.rec.now.id c.in-Timer-Set.t c.in-Timer-Set.d c.in-Timer-Set.anew c.step_plain.result c.in-Timer-Set.field-0
    c.requires.stands c.in-Timer-Set.is c.in-Timer-Set.field-0-is c.step_plain.ensures)
    (answer-is c.args.rec.now c.is_some-was_set.result c.answer_of-was.result (c.is_some-was_set.ensures ∙ ap is_some c.shown_due.ensures)
    (c.answer_of-was.ensures ∙ ap (λ (r : Rec). answer_by r.kind c.is_some-was_set.result) c.rec.view_is))
    c.due_in-due.ensures (c.period_of-period.ensures ∙ ap (λ (r : Rec). setting_period r.kind c.in-Timer-Set.d) c.rec.view_is)

pub arm_with-requires-clause-period : goal.arm_with-requires-clause-period
arm_with-requires-clause-period c = (comes (goal.at.arm_with-requires-clause-period c).After-period_of-period).ticks

pub arm_with-requires-clause-may : goal.arm_with-requires-clause-may
arm_with-requires-clause-may c = (comes (goal.at.arm_with-requires-clause-may c).After-period_of-period).may

pub returns-in-Timer-Set-clause-row : goal.returns-in-Timer-Set-clause-row
returns-in-Timer-Set-clause-row c =
    let a : After-period_of-period = (goal.at.returns-in-Timer-Set-clause-row c).After-period_of-period in
    let new : Parts = record { heap = c.arm_with.new.heap; rec = c.arm_with.new.rec; book = c.arm_with.new.book } in
    setting-row (old a) c.args.g c.step_plain.new.self c.in-Timer-Set.t c.in-Timer-Set.d c.due_in-due.result c.period_of-period.result c.in-Timer-Set.anew c.answer_of-was.result new c.arm_with.result (comes a)
    (setting-arms (old a) c.args.g c.step_plain.new.self c.in-Timer-Set.t c.in-Timer-Set.d c.due_in-due.result c.period_of-period.result c.in-Timer-Set.anew c.answer_of-was.result new c.arm_with.result (comes a)
    c.arm_with.ensures.arms)

pub returns-in-Timer-Set-clause-kept : goal.returns-in-Timer-Set-clause-kept
returns-in-Timer-Set-clause-kept c =
    let a : After-period_of-period = (goal.at.returns-in-Timer-Set-clause-kept c).After-period_of-period in
    let new : Parts = record { heap = c.arm_with.new.heap; rec = c.arm_with.new.rec; book = c.arm_with.new.book } in
    record {
      rec = setting-kept (old a) c.args.g c.due_in-due.result c.period_of-period.result c.in-Timer-Set.anew (answer_of c.args.rec.now) new c.arm_with.result c.lawful.ensures.lawful
          c.requires.stands c.requires.lent.rec (comes a).periodic
          (setting-arms (old a) c.args.g c.step_plain.new.self c.in-Timer-Set.t c.in-Timer-Set.d c.due_in-due.result c.period_of-period.result c.in-Timer-Set.anew c.answer_of-was.result new c.arm_with.result
          (comes a) c.arm_with.ensures.arms)
          c.arm_with.ensures.bits;
      placed = c.arm_with.ensures.placed;
    }
