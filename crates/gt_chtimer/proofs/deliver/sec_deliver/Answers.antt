use Rattle.std.proofs.Common.{◌≡◌, IsNone, IsSome, ℕ, None, Some, sym, ap, ◌∙◌, rules, true, refl, slice_get, subst}
use Rattle.gt_model.specs.Script.{is_timer}
use Rattle.gt_rules.specs.Operations.{receives_from}
use Rattle.gt_rec.specs.Rec.{Rec, in_flight, is_awaited}
use Rattle.gt_schedule.specs.Schedule.{parties_at}
use Rattle.gt_book.specs.View.{is_parked_at, outcome_of}
use Rattle.gt_book.proofs.Committing.{parked-first}
use Rattle.gt_rows.specs.declared.answers.Delivered.{Delivered}
use Rattle.gt_chtimer.proofs.Committing.{tells-over, tells-fine}
use Rattle.gt_chtimer.proofs.Receiving.{channel-timer}
use Rattle.gt_chtimer.proofs.Delivering.{TellsGiven, awaited-kept, deliver-row}
use Rattle.gt_chtimer.proofs.deliver.sec_deliver.Goals as goal

pub receive-requires-clause-waits : goal.receive-requires-clause-waits
receive-requires-clause-waits c =
    let here : slice_get (parties_at c.args.book.now.schedule.receivers c.rec.inside.id) 0 ≡ Some c.in-Some-timer_waiter.p = sym c.timer_waiter.ensures ∙ c.in-Some-timer_waiter.is in
    let timer : is_timer c.args.book.now.script c.args.rec.now.id ≡ true = channel-timer c.args.book.now.script c.args.rec.now.id c.args.rec.now.kind c.requires.channel c.requires.lent.agrees.kind in
    let its : c.end_send.new.self.id ≡ c.args.rec.now.id = ap (λ (r : Rec). r.id) c.end_send.ensures.after in
    let running : outcome_of c.args.book.now ≡ None = search rules in
    let first : slice_get (parties_at c.args.book.now.schedule.receivers c.args.rec.now.id) 0 ≡ Some c.in-Some-timer_waiter.p =
    subst (λ (id : ℕ). slice_get (parties_at c.args.book.now.schedule.receivers id) 0 ≡ Some c.in-Some-timer_waiter.p) (ap (λ (r : Rec). r.id) c.rec.view_is ∙ its) here in
    subst (λ (id : ℕ). is_parked_at c.args.book.now.script c.args.book.now.state c.args.book.now.schedule c.in-Some-timer_waiter.p (receives_from id) ≡ true) (sym its)
    (parked-first c.args.book.now c.args.rec.now.id c.in-Some-timer_waiter.p c.lawful.ensures.lawful timer first)

pub returns-in-Over-clause-row : goal.returns-in-Over-clause-row
returns-in-Over-clause-row c =
    let running : outcome_of c.args.book.now ≡ None = search rules in
    let kept : (c.args.seq ≡ c.args.rec.now.seq) × IsNone c.args.rec.now.ready × IsSome (in_flight c.args.rec.now) = search rules in
    let awaited : is_awaited c.args.rec.now c.args.seq ≡ true = awaited-kept c.args.rec.now c.args.seq kept.0 kept.1 kept.2 in
    let here : slice_get (parties_at c.args.book.now.schedule.receivers c.rec.inside.id) 0 ≡ Some c.in-Some-timer_waiter.p = sym c.timer_waiter.ensures ∙ c.in-Some-timer_waiter.is in
    let first : slice_get (parties_at c.args.book.now.schedule.receivers c.end_send.new.self.id) 0 ≡ Some c.in-Some-timer_waiter.p =
    subst (λ (id : ℕ). slice_get (parties_at c.args.book.now.schedule.receivers id) 0 ≡ Some c.in-Some-timer_waiter.p) (ap (λ (r : Rec). r.id) c.rec.view_is) here in
    deliver-row (record { rec = c.args.rec.now; book = c.args.book.now }) c.args.seq c.end_send.new.self c.in-Some-timer_waiter.p (record { rec = c.receive.new.rec; book = c.receive.new.book })
    (Delivered.Over c.in-Over.outcome) c.receive.result running awaited c.end_send.ensures.after first c.receive.ensures.received
    (subst (λ did. TellsGiven c.in-Some-timer_waiter.p did (Delivered.Over c.in-Over.outcome)) (sym c.in-Some-receive.is)
    (tells-over Delivered.Over (Delivered.Given c.in-Some-timer_waiter.p) c.in-Some-receive.commit c.in-Over.outcome (Delivered.Over c.in-Over.outcome) c.in-Over.is refl))

pub returns-in-Entered-clause-row : goal.returns-in-Entered-clause-row
returns-in-Entered-clause-row c =
    let running : outcome_of c.args.book.now ≡ None = search rules in
    let kept : (c.args.seq ≡ c.args.rec.now.seq) × IsNone c.args.rec.now.ready × IsSome (in_flight c.args.rec.now) = search rules in
    let awaited : is_awaited c.args.rec.now c.args.seq ≡ true = awaited-kept c.args.rec.now c.args.seq kept.0 kept.1 kept.2 in
    let here : slice_get (parties_at c.args.book.now.schedule.receivers c.rec.inside.id) 0 ≡ Some c.in-Some-timer_waiter.p = sym c.timer_waiter.ensures ∙ c.in-Some-timer_waiter.is in
    let first : slice_get (parties_at c.args.book.now.schedule.receivers c.end_send.new.self.id) 0 ≡ Some c.in-Some-timer_waiter.p =
    subst (λ (id : ℕ). slice_get (parties_at c.args.book.now.schedule.receivers id) 0 ≡ Some c.in-Some-timer_waiter.p) (ap (λ (r : Rec). r.id) c.rec.view_is) here in
    deliver-row (record { rec = c.args.rec.now; book = c.args.book.now }) c.args.seq c.end_send.new.self c.in-Some-timer_waiter.p (record { rec = c.receive.new.rec; book = c.receive.new.book })
    (Delivered.Given c.in-Some-timer_waiter.p) c.receive.result running awaited c.end_send.ensures.after first c.receive.ensures.received
    (subst (λ did. TellsGiven c.in-Some-timer_waiter.p did (Delivered.Given c.in-Some-timer_waiter.p)) (sym c.in-Some-receive.is)
    (tells-fine Delivered.Over (Delivered.Given c.in-Some-timer_waiter.p) c.in-Some-receive.commit (Delivered.Given c.in-Some-timer_waiter.p) c.in-Entered.is refl))

pub returns-in_default-receive-clause-row : goal.returns-in_default-receive-clause-row
returns-in_default-receive-clause-row c =
    let running : outcome_of c.args.book.now ≡ None = search rules in
    let kept : (c.args.seq ≡ c.args.rec.now.seq) × IsNone c.args.rec.now.ready × IsSome (in_flight c.args.rec.now) = search rules in
    let awaited : is_awaited c.args.rec.now c.args.seq ≡ true = awaited-kept c.args.rec.now c.args.seq kept.0 kept.1 kept.2 in
    let here : slice_get (parties_at c.args.book.now.schedule.receivers c.rec.inside.id) 0 ≡ Some c.in-Some-timer_waiter.p = sym c.timer_waiter.ensures ∙ c.in-Some-timer_waiter.is in
    let first : slice_get (parties_at c.args.book.now.schedule.receivers c.end_send.new.self.id) 0 ≡ Some c.in-Some-timer_waiter.p =
    subst (λ (id : ℕ). slice_get (parties_at c.args.book.now.schedule.receivers id) 0 ≡ Some c.in-Some-timer_waiter.p) (ap (λ (r : Rec). r.id) c.rec.view_is) here in
    deliver-row (record { rec = c.args.rec.now; book = c.args.book.now }) c.args.seq c.end_send.new.self c.in-Some-timer_waiter.p (record { rec = c.receive.new.rec; book = c.receive.new.book })
    Delivered.Kept c.receive.result running awaited c.end_send.ensures.after first c.receive.ensures.received
    (subst (λ did. TellsGiven c.in-Some-timer_waiter.p did Delivered.Kept) (sym c.in_default-receive.is) refl)
