use Rattle.std.proofs.Common.{◌≡◌, ◌⊎◌, inl, inr, sym, refl, subst}
use Rattle.gt_rec.specs.Rec.{Rec}
use Rattle.gt_book.specs.declared.answers.Commit.{Commit}
use Rattle.gt_book.specs.declared.answers.Op.{Op}
use Rattle.gt_book.specs.Steps.{Commits, MayCommit, is_gone}
use Rattle.gt_book.proofs.Deadlines.{MayDerive, may-derive}
use Rattle.gt_rules.specs.State.{world_of}
use Rattle.gt_rows.specs.declared.answers.SetDone.{SetDone}
use Rattle.gt_rows.specs.Rows.{Parts}
use Rattle.gt_fire.proofs.Sleeping.{Tells}
use Rattle.gt_fire.proofs.Deriving.{IsMade, asks-ctx, ctx-no_ticker, deadline-time, derive-arms, derive-kept}
use Rattle.gt_fire.proofs.deadline.derive.Goals as goal
use Rattle.gt_fire.proofs.deadline.derive.Goals.{After-rec, After-commit}

may : (c : After-rec) → MayDerive c.args.book.now c.args.g c.args.rec.now.id c.args.due
may c = may-derive c.args.book.now c.args.g c.args.rec.now.id c.args.due c.lawful.ensures.lawful c.requires.running c.requires.asks c.requires.in_hand

pub arm-answer-requires-clause-time : goal.arm-answer-requires-clause-time
arm-answer-requires-clause-time c =
    deadline-time c.args.book.now.script c.args.book.now.state (world_of c.args.book.now.state c.args.g) c.args.rec.now.id c.args.due (may (goal.at.arm-answer-requires-clause-time c).After-rec).live

pub arm-answer-requires-clause-period : goal.arm-answer-requires-clause-period
arm-answer-requires-clause-period c =
    λ ticker. absurd (ctx-no_ticker c.args.book.now.script c.args.book.now.state c.args.rec.now c.requires.lent.rec.agrees
    (asks-ctx c.args.book.now c.args.g c.args.rec.now.id c.args.due c.lawful.ensures.lawful (may (goal.at.arm-answer-requires-clause-period c).After-rec)) ticker)

pub commit-requires : goal.commit-requires
commit-requires c =
    let m : MayDerive c.args.book.now c.args.g c.args.rec.now.id c.args.due =
    may-derive c.args.book.now c.args.g c.args.rec.now.id c.args.due c.lawful.ensures.lawful c.requires.running c.requires.asks c.requires.in_hand in
    λ in_time. subst (λ (r : Rec). MayCommit c.args.book.now (Op.Derive c.args.g r.id)) (sym c.rec.view_is) m.may

-- what was committed
made : (c : After-commit) (reply : SetDone) → Tells c.commit.result c.arm-answer.result reply
    → IsMade (record { heap = c.args.heap.now; rec = c.args.rec.now; book = c.args.book.now })
    (record { heap = c.arm-answer.new.heap; rec = c.arm-answer.new.rec; book = c.commit.new.self }) c.args.g c.args.due c.commit.result c.arm-answer.result reply
made c reply tells = record {
  lawful = c.lawful.ensures.lawful;
  running = c.requires.running;
  asks = c.requires.asks;
  in_hand = c.requires.in_hand;
  commits = subst (λ (r : Rec). Commits c.args.book.now (Op.Derive c.args.g r.id) (is_gone c.args.book.now (Op.Derive c.args.g r.id)) c.commit.new.self c.commit.result) c.rec.view_is c.commit.ensures;
  answer_is = c.arm-answer.ensures.answer;
  place = c.arm-answer.ensures.place;
  tells = tells;
}

told-over : (did : Commit) (answer : SetDone) (outcome : _) → did ≡ Commit.Over outcome → Tells did answer (SetDone.Over outcome)
told-over did answer outcome is = subst (λ did. Tells did answer (SetDone.Over outcome)) (sym is) refl

told : (did : Commit) (answer : SetDone) → (did ≡ Commit.Entered) ⊎ (did ≡ Commit.Gone) → Tells did answer answer
told did answer is = elim is [ inl e ↦ subst (λ did. Tells did answer answer) (sym e) refl | inr e ↦ subst (λ did. Tells did answer answer) (sym e) refl ]

pub returns-in-Over-clause-arms : goal.returns-in-Over-clause-arms
returns-in-Over-clause-arms c =
    derive-arms (record { heap = c.args.heap.now; rec = c.args.rec.now; book = c.args.book.now })
    (record { heap = c.arm-answer.new.heap; rec = c.arm-answer.new.rec; book = c.commit.new.self }) c.args.g c.args.due c.commit.result c.arm-answer.result (SetDone.Over c.in-Over.outcome)
    (made (goal.at.returns-in-Over-clause-arms c).After-commit (SetDone.Over c.in-Over.outcome) (told-over c.commit.result c.arm-answer.result c.in-Over.outcome c.in-Over.is))

pub returns-in-Over-clause-kept : goal.returns-in-Over-clause-kept
returns-in-Over-clause-kept c =
    let m : MayDerive c.args.book.now c.args.g c.args.rec.now.id c.args.due =
    may-derive c.args.book.now c.args.g c.args.rec.now.id c.args.due c.lawful.ensures.lawful c.requires.running c.requires.asks c.requires.in_hand in
    derive-kept (record { heap = c.args.heap.now; rec = c.args.rec.now; book = c.args.book.now })
    (record { heap = c.arm-answer.new.heap; rec = c.arm-answer.new.rec; book = c.commit.new.self }) c.args.g c.args.due c.commit.result c.arm-answer.result (SetDone.Over c.in-Over.outcome)
    (made (goal.at.returns-in-Over-clause-kept c).After-commit (SetDone.Over c.in-Over.outcome) (told-over c.commit.result c.arm-answer.result c.in-Over.outcome c.in-Over.is)) c.requires.lent
    (asks-ctx c.args.book.now c.args.g c.args.rec.now.id c.args.due c.lawful.ensures.lawful m) c.arm-answer.ensures.placed c.arm-answer.ensures.bits

pub returns-in-Entered : goal.returns-in-Entered
returns-in-Entered c =
    let old : Parts = record { heap = c.args.heap.now; rec = c.args.rec.now; book = c.args.book.now } in
    let new : Parts = record { heap = c.arm-answer.new.heap; rec = c.arm-answer.new.rec; book = c.commit.new.self } in
    let m : MayDerive c.args.book.now c.args.g c.args.rec.now.id c.args.due =
    may-derive c.args.book.now c.args.g c.args.rec.now.id c.args.due c.lawful.ensures.lawful c.requires.running c.requires.asks c.requires.in_hand in
    let is : IsMade old new c.args.g c.args.due c.commit.result c.arm-answer.result c.arm-answer.result =
    made (goal.at.returns-in-Entered c).After-commit c.arm-answer.result (told c.commit.result c.arm-answer.result c.in-Entered.is) in
    record {
      arms = derive-arms old new c.args.g c.args.due c.commit.result c.arm-answer.result c.arm-answer.result is;
      kept = derive-kept old new c.args.g c.args.due c.commit.result c.arm-answer.result c.arm-answer.result is c.requires.lent
          (asks-ctx c.args.book.now c.args.g c.args.rec.now.id c.args.due c.lawful.ensures.lawful m) c.arm-answer.ensures.placed c.arm-answer.ensures.bits;
    }
