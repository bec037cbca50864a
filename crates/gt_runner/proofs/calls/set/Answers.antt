use Rattle.std.proofs.Common.{◌≡◌, length, set, slice_get, refl, ap, ◌∙◌, Some, arith}
use Rattle.std.proofs.lemmas.List.{length-set}
use Rattle.gt_runner.specs.Served.{noted_at}
use Rattle.gt_runner.specs.Calls.{HasRecord}
use Rattle.gt_runner.proofs.Tending.{get-set_same}
use Rattle.gt_runner.proofs.Calling.{setting-record, record-within, record-lent, wants-setting, after-set}
use Rattle.gt_runner.proofs.calls.set.Goals as goal

pub at_mut-requires : goal.at_mut-requires
at_mut-requires c =
    let x = c.args.run.now in
    record-within x c.args.t (setting-record x c.args.t c.requires.ready.served.tended (wants-setting x.book c.args.g c.args.t c.requires.ready.lawful c.requires.wants))

pub sec_set-done-requires-clause-lent : goal.sec_set-done-requires-clause-lent
sec_set-done-requires-clause-lent c =
    let x = c.args.run.now in
    let h : HasRecord x c.args.t = setting-record x c.args.t c.requires.ready.served.tended (wants-setting x.book c.args.g c.args.t c.requires.ready.lawful c.requires.wants) in
    record-lent x c.args.t c.at_mut.result.now c.requires.ready.served.tended h c.at_mut.ensures.value

pub at-requires : goal.at-requires
at-requires c =
    let x = c.args.run.now in
    let within = record-within x c.args.t (setting-record x c.args.t c.requires.ready.served.tended (wants-setting x.book c.args.g c.args.t c.requires.ready.lawful c.requires.wants)) in
    let same : length (set x.records.items c.args.t c.sec_set-done.new.rec) ≡ length x.records.items = length-set x.records.items c.args.t c.sec_set-done.new.rec in
    omega arith

pub returns : goal.returns
returns c =
    let x = c.args.run.now in
    let h : HasRecord x c.args.t = setting-record x c.args.t c.requires.ready.served.tended (wants-setting x.book c.args.g c.args.t c.requires.ready.lawful c.requires.wants) in
    let now : slice_get (set x.records.items c.args.t c.sec_set-done.new.rec) c.args.t ≡ Some c.at.result.now = c.at.ensures.value in
    let own : slice_get (set x.records.items c.args.t c.sec_set-done.new.rec) c.args.t ≡ Some c.sec_set-done.new.rec = get-set_same x.records.items c.args.t c.at_mut.result.now c.sec_set-done.new.rec c.at_mut.ensures.value in
    let is : c.at.result.now ≡ c.sec_set-done.new.rec = cc in
    after-set x _ c.args.g c.args.t c.at_mut.result.now c.sec_set-done.new.rec c.sec_set-done.result c.requires.ready c.requires.wants h c.at_mut.ensures.value refl refl
    (c.noted_at-run.ensures ∙ ap (noted_at x.noted) is) c.sec_set-done.ensures.row c.sec_set-done.ensures.kept
