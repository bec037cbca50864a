use Rattle.std.proofs.Common.{◌≡◌, Some, sym, ap, ◌∙◌, inl, inr, refl}
use Rattle.gt_rules.specs.State.{clock}
use Rattle.gt_rec.specs.Rec.{Rec, shown}
use Rattle.gt_rec.specs.Changes.{received, taken}
use Rattle.gt_book.specs.View.{BookView, receiver_of}
use Rattle.gt_rows.specs.Rows.{Pair}
use Rattle.gt_rows.specs.declared.answers.PollDone.{PollDone}
use Rattle.gt_chtimer.proofs.Committing.{Tells, tells-over, tells-fine}
use Rattle.gt_chtimer.proofs.Receiving.{ReceiveComes}
use Rattle.gt_chtimer.proofs.Polling.{Plain, plain, PollComes, poll-comes, never-empty, clock-there, poll-may, poll-row, poll-kept}
use Rattle.gt_chtimer.proofs.poll.sec_recv.Goals as goal

pub returns-in-Entered : goal.returns-in-Entered
returns-in-Entered c =
    let p : Plain (record { rec = c.args.rec.now; book = c.args.book.now }) c.args.g c.step_plain.new.self PollDone.Other =
    plain (record { rec = c.args.rec.now; book = c.args.book.now }) c.args.g c.step_plain.new.self c.step_plain.result PollDone.Other c.lawful.ensures.lawful c.requires.lent c.requires.channel c.requires.stands
    c.step_plain.ensures (elim c.in-Entered.is [ inl is ↦ rw is refl | inr is ↦ rw is refl ]) in
    record { row = p.row; kept = p.kept }

pub returns-in-Over : goal.returns-in-Over
returns-in-Over c =
    let p : Plain (record { rec = c.args.rec.now; book = c.args.book.now }) c.args.g c.step_plain.new.self (PollDone.Over c.in-Over.outcome) =
    plain (record { rec = c.args.rec.now; book = c.args.book.now }) c.args.g c.step_plain.new.self c.step_plain.result (PollDone.Over c.in-Over.outcome) c.lawful.ensures.lawful c.requires.lent c.requires.channel c.requires.stands
    c.step_plain.ensures (rw c.in-Over.is refl) in
    record { row = p.row; kept = p.kept }

pub clock_of-requires : goal.clock_of-requires
clock_of-requires c =
    let old : Pair = record { rec = c.args.rec.now; book = c.args.book.now } in
    clock-there old c.args.g c.step_plain.new.self c.lawful.ensures.lawful
    (poll-comes old c.args.g c.step_plain.new.self c.step_plain.result c.in-Timer.field-0 c.lawful.ensures.lawful c.requires.lent c.requires.channel c.requires.stands c.in-Timer.is c.step_plain.ensures)

-- without a value there would have been no receive
pub returns-in_default-clause-row : goal.returns-in_default-clause-row
returns-in_default-clause-row c =
    let old : Pair = record { rec = c.args.rec.now; book = c.args.book.now } in
    let at : PollComes old c.args.g c.step_plain.new.self =
    poll-comes old c.args.g c.step_plain.new.self c.step_plain.result c.in-Timer.field-0 c.lawful.ensures.lawful c.requires.lent c.requires.channel c.requires.stands c.in-Timer.is c.step_plain.ensures in
    absurd (never-empty old c.args.g c.step_plain.new.self at (ap (received c.args.rec.now) (sym c.clock_of.ensures) ∙ (sym c.take_ready.ensures.answer ∙ c.in_default.is)))

pub returns-in_default-clause-kept : goal.returns-in_default-clause-kept
returns-in_default-clause-kept c =
    let old : Pair = record { rec = c.args.rec.now; book = c.args.book.now } in
    let at : PollComes old c.args.g c.step_plain.new.self =
    poll-comes old c.args.g c.step_plain.new.self c.step_plain.result c.in-Timer.field-0 c.lawful.ensures.lawful c.requires.lent c.requires.channel c.requires.stands c.in-Timer.is c.step_plain.ensures in
    absurd (never-empty old c.args.g c.step_plain.new.self at (ap (received c.args.rec.now) (sym c.clock_of.ensures) ∙ (sym c.take_ready.ensures.answer ∙ c.in_default.is)))

pub commit-requires : goal.commit-requires
commit-requires c =
    let old : Pair = record { rec = c.args.rec.now; book = c.args.book.now } in
    let mid : BookView = c.step_plain.new.self in
    let at : PollComes old c.args.g mid =
    poll-comes old c.args.g mid c.step_plain.result c.in-Timer.field-0 c.lawful.ensures.lawful c.requires.lent c.requires.channel c.requires.stands c.in-Timer.is c.step_plain.ensures in
    let its : c.receiver-p.result ≡ receiver_of mid.script mid.state c.args.g c.args.rec.now.id =
    c.receiver-p.ensures ∙ ap (λ (r : Rec). receiver_of mid.script mid.state c.args.g r.id) c.rec.view_is in
    let value : received c.args.rec.now (clock mid.state 0) ≡ Some (c.in-Some.due, c.in-Some.next) =
    ap (received c.args.rec.now) (sym c.clock_of.ensures) ∙ (sym c.take_ready.ensures.answer ∙ c.in-Some.is) in
    let comes : ReceiveComes mid c.receiver-p.result c.rec.inside.id c.in-Some.due c.in-Some.next =
    poll-may old c.args.g mid c.receiver-p.result c.rec.inside.id c.in-Some.due c.in-Some.next c.lawful.ensures.lawful c.requires.lent c.requires.channel c.requires.in_hand at its
    (ap (λ (r : Rec). r.id) c.rec.view_is) value in
    λ in_time. comes.may

pub returns-in-Over-commit : goal.returns-in-Over-commit
returns-in-Over-commit c =
    let old : Pair = record { rec = c.args.rec.now; book = c.args.book.now } in
    let mid : BookView = c.step_plain.new.self in
    let at : PollComes old c.args.g mid =
    poll-comes old c.args.g mid c.step_plain.result c.in-Timer.field-0 c.lawful.ensures.lawful c.requires.lent c.requires.channel c.requires.stands c.in-Timer.is c.step_plain.ensures in
    let its : c.receiver-p.result ≡ receiver_of mid.script mid.state c.args.g c.args.rec.now.id =
    c.receiver-p.ensures ∙ ap (λ (r : Rec). receiver_of mid.script mid.state c.args.g r.id) c.rec.view_is in
    let value : received c.args.rec.now (clock mid.state 0) ≡ Some (c.in-Some.due, c.in-Some.next) =
    ap (received c.args.rec.now) (sym c.clock_of.ensures) ∙ (sym c.take_ready.ensures.answer ∙ c.in-Some.is) in
    let timer : c.rec.inside.id ≡ c.args.rec.now.id = ap (λ (r : Rec). r.id) c.rec.view_is in
    let after : c.take_ready.new.self ≡ taken c.args.rec.now c.in-Some.next = c.in-Some.ensures.after in
    let shows : shown c.take_ready.new.self ≡ c.in-Some.next = c.in-Some.ensures.shows in
    let comes : ReceiveComes mid c.receiver-p.result c.rec.inside.id c.in-Some.due c.in-Some.next =
    poll-may old c.args.g mid c.receiver-p.result c.rec.inside.id c.in-Some.due c.in-Some.next c.lawful.ensures.lawful c.requires.lent c.requires.channel c.requires.in_hand at its timer value in
    let tells : Tells PollDone.Over PollDone.Received c.commit.result (PollDone.Over c.in-Over-commit.outcome) =
    tells-over PollDone.Over PollDone.Received c.commit.result c.in-Over-commit.outcome (PollDone.Over c.in-Over-commit.outcome) c.in-Over-commit.is refl in
    record {
      row = poll-row old c.args.g mid c.receiver-p.result c.rec.inside.id c.in-Some.due c.in-Some.next c.take_ready.new.self c.commit.new.self c.commit.result (PollDone.Over c.in-Over-commit.outcome)
          at its timer value comes after c.commit.ensures tells;
      kept = poll-kept old c.args.g mid c.receiver-p.result c.rec.inside.id c.in-Some.due c.in-Some.next c.take_ready.new.self c.commit.new.self c.commit.result c.lawful.ensures.lawful c.requires.lent
          c.requires.channel at comes timer after shows c.take_ready.ensures.bits c.commit.ensures;
    }

pub returns-in-Entered-commit : goal.returns-in-Entered-commit
returns-in-Entered-commit c =
    let old : Pair = record { rec = c.args.rec.now; book = c.args.book.now } in
    let mid : BookView = c.step_plain.new.self in
    let at : PollComes old c.args.g mid =
    poll-comes old c.args.g mid c.step_plain.result c.in-Timer.field-0 c.lawful.ensures.lawful c.requires.lent c.requires.channel c.requires.stands c.in-Timer.is c.step_plain.ensures in
    let its : c.receiver-p.result ≡ receiver_of mid.script mid.state c.args.g c.args.rec.now.id =
    c.receiver-p.ensures ∙ ap (λ (r : Rec). receiver_of mid.script mid.state c.args.g r.id) c.rec.view_is in
    let value : received c.args.rec.now (clock mid.state 0) ≡ Some (c.in-Some.due, c.in-Some.next) =
    ap (received c.args.rec.now) (sym c.clock_of.ensures) ∙ (sym c.take_ready.ensures.answer ∙ c.in-Some.is) in
    let timer : c.rec.inside.id ≡ c.args.rec.now.id = ap (λ (r : Rec). r.id) c.rec.view_is in
    let after : c.take_ready.new.self ≡ taken c.args.rec.now c.in-Some.next = c.in-Some.ensures.after in
    let shows : shown c.take_ready.new.self ≡ c.in-Some.next = c.in-Some.ensures.shows in
    let comes : ReceiveComes mid c.receiver-p.result c.rec.inside.id c.in-Some.due c.in-Some.next =
    poll-may old c.args.g mid c.receiver-p.result c.rec.inside.id c.in-Some.due c.in-Some.next c.lawful.ensures.lawful c.requires.lent c.requires.channel c.requires.in_hand at its timer value in
    let tells : Tells PollDone.Over PollDone.Received c.commit.result PollDone.Received =
    tells-fine PollDone.Over PollDone.Received c.commit.result PollDone.Received c.in-Entered-commit.is refl in
    record {
      row = poll-row old c.args.g mid c.receiver-p.result c.rec.inside.id c.in-Some.due c.in-Some.next c.take_ready.new.self c.commit.new.self c.commit.result PollDone.Received
          at its timer value comes after c.commit.ensures tells;
      kept = poll-kept old c.args.g mid c.receiver-p.result c.rec.inside.id c.in-Some.due c.in-Some.next c.take_ready.new.self c.commit.new.self c.commit.result c.lawful.ensures.lawful c.requires.lent
          c.requires.channel at comes timer after shows c.take_ready.ensures.bits c.commit.ensures;
    }
