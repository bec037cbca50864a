use Rattle.std.proofs.Common.{◌≡◌, length, set, slice_get, refl, ap, subst, ◌∙◌, Some, arith, sym}
use Rattle.std.proofs.lemmas.List.{length-set}
use Rattle.gt_rows.specs.Rows.{DerivesAt}
use Rattle.gt_runner.specs.Served.{noted_at}
use Rattle.gt_runner.specs.Calls.{HasRecord}
use Rattle.gt_runner.proofs.Tending.{get-set_same}
use Rattle.gt_runner.proofs.Deriving.{IsMade, derive-made}
use Rattle.gt_runner.proofs.Calling.{derive-record, record-is, record-within, record-lent, after-derive}
use Rattle.gt_runner.proofs.calls.derive.Goals as goal

pub at_mut-requires : goal.at_mut-requires
at_mut-requires c =
    let x = c.args.run.now in
    record-within x c.args.x (derive-record x c.args.g c.args.x c.requires.ready c.requires.wants)

pub sec_deadline-done-requires-clause-lent : goal.sec_deadline-done-requires-clause-lent
sec_deadline-done-requires-clause-lent c =
    let x = c.args.run.now in
    let h : HasRecord x c.args.x = derive-record x c.args.g c.args.x c.requires.ready c.requires.wants in
    record-lent x c.args.x c.at_mut.result.now c.requires.ready.served.tended h c.at_mut.ensures.value

pub sec_deadline-done-requires-clause-stands : goal.sec_deadline-done-requires-clause-stands
sec_deadline-done-requires-clause-stands c =
    let x = c.args.run.now in
    let h : HasRecord x c.args.x = derive-record x c.args.g c.args.x c.requires.ready c.requires.wants in
    let made : IsMade x.book c.args.g c.args.x =
    derive-made x.book c.args.g c.args.x c.requires.wants.0 c.requires.ready.lawful c.requires.ready.running c.requires.ready.alone.in_hand c.requires.wants.1 in
    subst (DerivesAt x.book c.args.g) (sym (record-is x c.args.x c.at_mut.result.now h c.at_mut.ensures.value).1) made.stands

pub at-requires : goal.at-requires
at-requires c =
    let x = c.args.run.now in
    let within = record-within x c.args.x (derive-record x c.args.g c.args.x c.requires.ready c.requires.wants) in
    let same : length (set x.records.items c.args.x c.sec_deadline-done.new.rec) ≡ length x.records.items = length-set x.records.items c.args.x c.sec_deadline-done.new.rec in
    omega arith

pub returns : goal.returns
returns c =
    let x = c.args.run.now in
    let h : HasRecord x c.args.x = derive-record x c.args.g c.args.x c.requires.ready c.requires.wants in
    let now : slice_get (set x.records.items c.args.x c.sec_deadline-done.new.rec) c.args.x ≡ Some c.at.result.now = c.at.ensures.value in
    let own : slice_get (set x.records.items c.args.x c.sec_deadline-done.new.rec) c.args.x ≡ Some c.sec_deadline-done.new.rec =
    get-set_same x.records.items c.args.x c.at_mut.result.now c.sec_deadline-done.new.rec c.at_mut.ensures.value in
    let is : c.at.result.now ≡ c.sec_deadline-done.new.rec = cc in
    after-derive x _ c.args.g c.args.x c.at_mut.result.now c.sec_deadline-done.new.rec c.sec_deadline-done.result c.requires.ready c.requires.wants h c.at_mut.ensures.value refl refl
    (c.noted_at-run.ensures ∙ ap (noted_at x.noted) is) c.sec_deadline-done.ensures.row c.sec_deadline-done.ensures.kept
