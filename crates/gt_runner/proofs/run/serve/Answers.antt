use Rattle.std.proofs.Common.{◌≡◌, set, slice_get, Some, refl, ap, subst, ◌∙◌}
use Rattle.gt_rec.specs.Rec.{Rec, has_channel}
use Rattle.gt_rows.specs.Rows.{DeliverRow}
use Rattle.gt_runner.proofs.Tending.{get-set_same}
use Rattle.gt_runner.proofs.Serving.{Due, due-item, head-sends, is-sent, heads-passing, sends-passing, set-twice}
use Rattle.gt_runner.proofs.run.serve.Goals as goal

pub returns-in_default : goal.returns-in_default
returns-in_default c =
    let x = c.args.run.now in
    heads-passing x _ c.args.id c.at_mut.result.now c.sec_run_head-done.new.rec c.sec_run_head-done.result c.requires.idle (due-item x c.args.id c.at_mut.result.now c.requires.due c.at_mut.ensures.value)
    c.at_mut.ensures.value refl refl refl c.sec_run_head-done.ensures.row c.sec_run_head-done.ensures.kept c.in_default.not-Send

pub sec_deliver-done-requires-clause-channel : goal.sec_deliver-done-requires-clause-channel
sec_deliver-done-requires-clause-channel c =
    let x = c.args.run.now in
    let s = head-sends x (record x { heap = c.sec_run_head-done.new.heap; book = c.sec_run_head-done.new.book }) c.args.id c.at_mut.result.now c.sec_run_head-done.new.rec c.sec_run_head-done.result c.in-Send.seq c.requires.idle
    (due-item x c.args.id c.at_mut.result.now c.requires.due c.at_mut.ensures.value) c.sec_run_head-done.ensures.row c.in-Send.is in
    let now : slice_get (set x.records.items c.args.id c.sec_run_head-done.new.rec) c.args.id ≡ Some c.at_mut-in-Send.result.now = c.at_mut-in-Send.ensures.value in
    let own : slice_get (set x.records.items c.args.id c.sec_run_head-done.new.rec) c.args.id ≡ Some c.sec_run_head-done.new.rec = get-set_same x.records.items c.args.id c.at_mut.result.now c.sec_run_head-done.new.rec c.at_mut.ensures.value in
    let is : c.at_mut-in-Send.result.now ≡ c.sec_run_head-done.new.rec = cc in
    let sent = is-sent x c.sec_run_head-done.new.book c.sec_run_head-done.new.heap c.at_mut.result.now c.sec_run_head-done.new.rec c.in-Send.seq s in
    ap (λ (r : Rec). has_channel r.kind) is ∙ (ap has_channel sent.kind ∙ s.channel)

pub returns-in-Send : goal.returns-in-Send
returns-in-Send c =
    let x = c.args.run.now in
    let d : Due x c.args.id c.at_mut.result.now = due-item x c.args.id c.at_mut.result.now c.requires.due c.at_mut.ensures.value in
    let s = head-sends x (record x { heap = c.sec_run_head-done.new.heap; book = c.sec_run_head-done.new.book }) c.args.id c.at_mut.result.now c.sec_run_head-done.new.rec c.sec_run_head-done.result c.in-Send.seq c.requires.idle
    d c.sec_run_head-done.ensures.row c.in-Send.is in
    let now : slice_get (set x.records.items c.args.id c.sec_run_head-done.new.rec) c.args.id ≡ Some c.at_mut-in-Send.result.now = c.at_mut-in-Send.ensures.value in
    let own : slice_get (set x.records.items c.args.id c.sec_run_head-done.new.rec) c.args.id ≡ Some c.sec_run_head-done.new.rec = get-set_same x.records.items c.args.id c.at_mut.result.now c.sec_run_head-done.new.rec c.at_mut.ensures.value in
    let is : c.at_mut-in-Send.result.now ≡ c.sec_run_head-done.new.rec = cc in
    let row = subst (λ r. DeliverRow (record { rec = r; book = c.sec_run_head-done.new.book }) c.in-Send.seq (record { rec = c.sec_deliver-done.new.rec; book = c.sec_deliver-done.new.book }) c.sec_deliver-done.result) is c.sec_deliver-done.ensures.row in
    sends-passing x _ c.args.id c.in-Send.seq c.at_mut.result.now c.sec_run_head-done.new.rec c.sec_deliver-done.new.rec c.sec_run_head-done.new.book c.sec_run_head-done.new.heap c.sec_deliver-done.result c.requires.idle d
    c.at_mut.ensures.value s (set-twice x.records.items c.args.id c.sec_run_head-done.new.rec c.sec_deliver-done.new.rec) refl refl refl row c.sec_deliver-done.ensures.kept c.sec_run_head-done.ensures.kept
