use Rattle.std.proofs.Common.{◌≡◌, ◌+◌, ◌≤◌, length, set, slice_get, refl, sym, ap, subst, ◌∙◌, Some, arith}
use Rattle.gt_model.specs.declared.script.Script.{Script}
use Rattle.gt_book.specs.declared.answers.TimerOp.{TimerOp}
use Rattle.gt_book.specs.declared.step.Step.{Step}
use Rattle.gt_book.specs.View.{BookView}
use Rattle.gt_rows.specs.Rows.{next_of}
use Rattle.gt_runner.specs.Served.{noted_at}
use Rattle.gt_runner.specs.Calls.{HasRecord, Ready}
use Rattle.gt_runner.proofs.Tending.{get-set_same}
use Rattle.gt_runner.proofs.Growing.{ready-grown, after-same, most-few, hand-below}
use Rattle.gt_schedule.specs.declared.status.RunStatus.{RunStatus}
use Rattle.gt_schedule.specs.Schedule.{most_goroutines}
use Rattle.gt_runner.proofs.Calling.{sleep-record, record-is, record-lent}
use Rattle.gt_runner.proofs.Waiting.{sleep-sleeps, after-sleep}
use Rattle.gt_runner.proofs.calls.sleep.Goals as goal

pub overflow_add-id : goal.overflow_add-id
overflow_add-id c =
    let v : BookView = c.args.run.now.book in
    let below : c.args.g ≤ length v.schedule.statuses = hand-below v.schedule.statuses c.args.g RunStatus.InHand c.requires.ready.alone.in_hand in
    let few : length v.schedule.statuses ≤ most_goroutines v.script v.limits = c.lawful.ensures.few_goroutines in
    let most : most_goroutines v.script v.limits ≤ 204097 = most-few v.script v.limits c.requires.ready.lawful.good c.requires.ready.lawful.limits in
    let few_names : length v.script.decls ≤ 4096 = c.requires.ready.lawful.good.few_names in
    let names : length c.as_slice.result.now ≡ length v.script.decls = ap length (c.as_slice.ensures ∙ ap (λ (s : Script). s.decls) c.script.ensures) in
    omega arith

pub grow-requires-clause-room : goal.grow-requires-clause-room
grow-requires-clause-room c =
    let v : BookView = c.args.run.now.book in
    let below : c.args.g ≤ length v.schedule.statuses = hand-below v.schedule.statuses c.args.g RunStatus.InHand c.requires.ready.alone.in_hand in
    let few : length v.schedule.statuses ≤ most_goroutines v.script v.limits = c.lawful.ensures.few_goroutines in
    let names : length c.as_slice.result.now ≡ length v.script.decls = ap length (c.as_slice.ensures ∙ ap (λ (s : Script). s.decls) c.script.ensures) in
    omega arith

pub sec_sleep-done-requires-clause-lent : goal.sec_sleep-done-requires-clause-lent
sec_sleep-done-requires-clause-lent c =
    let x1 = c.grow.new.run in
    let id = length c.as_slice.result.now + c.args.g in
    let names : length c.as_slice.result.now ≡ length x1.book.script.decls =
    ap length (c.as_slice.ensures ∙ ap (λ (s : Script). s.decls) (c.script.ensures ∙ ap (λ (b : BookView). b.script) (sym c.grow.ensures.grows.book_is))) in
    record-lent x1 id c.at_mut.result.now c.grow.ensures.served.tended (sleep-record x1 id c.grow.ensures.served.tended (omega arith) c.grow.ensures.within) c.at_mut.ensures.value

pub sec_sleep-done-requires-clause-stands : goal.sec_sleep-done-requires-clause-stands
sec_sleep-done-requires-clause-stands c =
    let x1 = c.grow.new.run in
    let id = length c.as_slice.result.now + c.args.g in
    let names : length c.as_slice.result.now ≡ length x1.book.script.decls =
    ap length (c.as_slice.ensures ∙ ap (λ (s : Script). s.decls) (c.script.ensures ∙ ap (λ (b : BookView). b.script) (sym c.grow.ensures.grows.book_is))) in
    let h : HasRecord x1 id = sleep-record x1 id c.grow.ensures.served.tended (omega arith) c.grow.ensures.within in
    let own = record-is x1 id c.at_mut.result.now h c.at_mut.ensures.value in
    let next : next_of x1.book c.args.g ≡ Some (Step.Needs (TimerOp.Sleep c.requires.wants.0)) = subst (λ b. next_of b c.args.g ≡ Some (Step.Needs (TimerOp.Sleep c.requires.wants.0))) (sym c.grow.ensures.grows.book_is) c.requires.wants.1 in
    record { stands = sleep-sleeps x1.book c.args.g c.requires.wants.0 next; its = own.1 ∙ ap (λ n. n + c.args.g) names }

pub returns : goal.returns
returns c =
    let x = c.args.run.now in
    let x1 = c.grow.new.run in
    let id = length c.as_slice.result.now + c.args.g in
    let names : length c.as_slice.result.now ≡ length x1.book.script.decls =
    ap length (c.as_slice.ensures ∙ ap (λ (s : Script). s.decls) (c.script.ensures ∙ ap (λ (b : BookView). b.script) (sym c.grow.ensures.grows.book_is))) in
    let h : HasRecord x1 id = sleep-record x1 id c.grow.ensures.served.tended (omega arith) c.grow.ensures.within in
    let now : slice_get (set x1.records.items id c.sec_sleep-done.new.rec) id ≡ Some c.at.result.now = c.at.ensures.value in
    let own : slice_get (set x1.records.items id c.sec_sleep-done.new.rec) id ≡ Some c.sec_sleep-done.new.rec = get-set_same x1.records.items id c.at_mut.result.now c.sec_sleep-done.new.rec c.at_mut.ensures.value in
    let is : c.at.result.now ≡ c.sec_sleep-done.new.rec = cc in
    let ready : Ready x1 c.args.g = ready-grown x x1 c.args.g c.requires.ready c.grow.ensures.served c.grow.ensures.grows in
    let next : next_of x1.book c.args.g ≡ Some (Step.Needs (TimerOp.Sleep c.requires.wants.0)) = subst (λ b. next_of b c.args.g ≡ Some (Step.Needs (TimerOp.Sleep c.requires.wants.0))) (sym c.grow.ensures.grows.book_is) c.requires.wants.1 in
    after-same x x1 _ c.args.g c.grow.ensures.grows.book_is
    (after-sleep x1 _ c.args.g c.requires.wants.0 id c.at_mut.result.now c.sec_sleep-done.new.rec c.sec_sleep-done.result ready next (ap (λ n. n + c.args.g) names) h c.at_mut.ensures.value refl refl
    (c.noted_at-run.ensures ∙ ap (noted_at x1.noted) is) c.sec_sleep-done.ensures.row c.sec_sleep-done.ensures.kept)
