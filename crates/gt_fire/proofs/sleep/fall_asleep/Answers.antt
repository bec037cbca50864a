use Rattle.std.proofs.Common.{◌≡◌, ◌⊎◌, inl, inr, ◌∙◌, ◌+◌, sym, ap, refl, subst, min, false}
use Rattle.gt_model.specs.Times.{greatest_time}
use Rattle.gt_book.specs.declared.answers.Commit.{Commit}
use Rattle.gt_book.specs.declared.answers.Op.{Op}
use Rattle.gt_rules.specs.State.{clock}
use Rattle.gt_book.specs.Steps.{Commits, MayCommit, is_gone}
use Rattle.gt_book.proofs.Committing.{may-sleep}
use Rattle.gt_rows.specs.declared.answers.SetDone.{SetDone}
use Rattle.gt_rows.specs.Rows.{Parts}
use Rattle.gt_fire.proofs.Sleeping.{FallsAsleep, Tells, sleep-arms, sleep-kept}
use Rattle.gt_fire.proofs.sleep.fall_asleep.Goals as goal

pub commit-requires : goal.commit-requires
commit-requires c =
    let until_is : c.due_after-until.result ≡ min (clock c.args.book.now.state 0 + c.args.d) greatest_time = c.due_after-until.ensures ∙ ap (λ now. min (now + c.args.d) greatest_time) c.clock_of.ensures in
    let may : MayCommit c.args.book.now (Op.Sleep c.args.g c.due_after-until.result) × (is_gone c.args.book.now (Op.Sleep c.args.g c.due_after-until.result) ≡ false) =
    may-sleep c.args.book.now c.args.g c.args.d c.due_after-until.result c.lawful.ensures.lawful c.requires.running c.requires.asks c.requires.in_hand until_is in
    λ in_time. may.0

pub returns-in-Over-clause-arms : goal.returns-in-Over-clause-arms
returns-in-Over-clause-arms c =
    let old : Parts = record { heap = c.args.heap.now; rec = c.args.rec.now; book = c.args.book.now } in
    let new : Parts = record { heap = c.arm-answer.new.heap; rec = c.arm-answer.new.rec; book = c.commit.new.self } in
    sleep-arms old new c.args.g c.args.d c.due_after-until.result (Commit.Over c.in-Over.outcome) c.arm-answer.result (SetDone.Over c.in-Over.outcome)
    (record {
      lawful = c.lawful.ensures.lawful;
      running = c.requires.running;
      asks = c.requires.asks;
      in_hand = c.requires.in_hand;
      until_is = c.due_after-until.ensures ∙ ap (λ now. min (now + c.args.d) greatest_time) c.clock_of.ensures;
      commits = subst (Commits c.args.book.now (Op.Sleep c.args.g c.due_after-until.result) _ c.commit.new.self) c.in-Over.is c.commit.ensures;
      answer_is = c.arm-answer.ensures.answer;
      place = c.arm-answer.ensures.place;
      tells = refl;
    })

pub returns-in-Over-clause-kept : goal.returns-in-Over-clause-kept
returns-in-Over-clause-kept c =
    let old : Parts = record { heap = c.args.heap.now; rec = c.args.rec.now; book = c.args.book.now } in
    let new : Parts = record { heap = c.arm-answer.new.heap; rec = c.arm-answer.new.rec; book = c.commit.new.self } in
    sleep-kept old new c.args.g c.args.d c.due_after-until.result (Commit.Over c.in-Over.outcome) c.arm-answer.result (SetDone.Over c.in-Over.outcome)
    (record {
      lawful = c.lawful.ensures.lawful;
      running = c.requires.running;
      asks = c.requires.asks;
      in_hand = c.requires.in_hand;
      until_is = c.due_after-until.ensures ∙ ap (λ now. min (now + c.args.d) greatest_time) c.clock_of.ensures;
      commits = subst (Commits c.args.book.now (Op.Sleep c.args.g c.due_after-until.result) _ c.commit.new.self) c.in-Over.is c.commit.ensures;
      answer_is = c.arm-answer.ensures.answer;
      place = c.arm-answer.ensures.place;
      tells = refl;
    })
    c.requires.lent c.requires.its c.arm-answer.ensures.placed c.arm-answer.ensures.bits

told : (did : Commit) (answer : SetDone) → (did ≡ Commit.Entered) ⊎ (did ≡ Commit.Gone) → Tells did answer answer
told did answer is = elim is [ inl e ↦ subst (λ did. Tells did answer answer) (sym e) refl | inr e ↦ subst (λ did. Tells did answer answer) (sym e) refl ]

pub returns-in-Entered : goal.returns-in-Entered
returns-in-Entered c =
    let old : Parts = record { heap = c.args.heap.now; rec = c.args.rec.now; book = c.args.book.now } in
    let new : Parts = record { heap = c.arm-answer.new.heap; rec = c.arm-answer.new.rec; book = c.commit.new.self } in
    let falls : FallsAsleep old new c.args.g c.args.d c.due_after-until.result c.commit.result c.arm-answer.result c.arm-answer.result = record {
      lawful = c.lawful.ensures.lawful;
      running = c.requires.running;
      asks = c.requires.asks;
      in_hand = c.requires.in_hand;
      until_is = c.due_after-until.ensures ∙ ap (λ now. min (now + c.args.d) greatest_time) c.clock_of.ensures;
      commits = c.commit.ensures;
      answer_is = c.arm-answer.ensures.answer;
      place = c.arm-answer.ensures.place;
      tells = told c.commit.result c.arm-answer.result c.in-Entered.is;
    } in
    record {
      arms = sleep-arms old new c.args.g c.args.d c.due_after-until.result c.commit.result c.arm-answer.result c.arm-answer.result falls;
      kept = sleep-kept old new c.args.g c.args.d c.due_after-until.result c.commit.result c.arm-answer.result c.arm-answer.result falls
          c.requires.lent c.requires.its c.arm-answer.ensures.placed c.arm-answer.ensures.bits;
    }
