use Rattle.std.proofs.Common.{refl, sym, subst}
use Rattle.gt_model.specs.declared.script.Instr.{Instr}
use Rattle.gt_rows.specs.Rows.{StopsAt}
use Rattle.gt_runner.specs.Calls.{HasRecord}
use Rattle.gt_runner.proofs.Calling.{setting-record, record-within, record-lent, record-is, names-standing, stands-stop}
use Rattle.gt_runner.proofs.Waiting.{stop-stops, after-stop}
use Rattle.gt_runner.proofs.calls.stop.Goals as goal

pub at_mut-requires : goal.at_mut-requires
at_mut-requires c =
    let x = c.args.run.now in
    record-within x c.args.t (setting-record x c.args.t c.requires.ready.served.tended
    (names-standing x.book c.args.g (Instr.Stop c.args.t) c.requires.ready.lawful (stands-stop x.book c.args.g c.args.t c.requires.wants)))

pub sec_stop-done-requires-clause-lent : goal.sec_stop-done-requires-clause-lent
sec_stop-done-requires-clause-lent c =
    let x = c.args.run.now in
    let h : HasRecord x c.args.t = setting-record x c.args.t c.requires.ready.served.tended
    (names-standing x.book c.args.g (Instr.Stop c.args.t) c.requires.ready.lawful (stands-stop x.book c.args.g c.args.t c.requires.wants)) in
    (record-lent x c.args.t c.at_mut.result.now c.requires.ready.served.tended h c.at_mut.ensures.value).rec

pub sec_stop-done-requires-clause-stands : goal.sec_stop-done-requires-clause-stands
sec_stop-done-requires-clause-stands c =
    let x = c.args.run.now in
    let h : HasRecord x c.args.t = setting-record x c.args.t c.requires.ready.served.tended
    (names-standing x.book c.args.g (Instr.Stop c.args.t) c.requires.ready.lawful (stands-stop x.book c.args.g c.args.t c.requires.wants)) in
    subst (StopsAt x.book c.args.g) (sym (record-is x c.args.t c.at_mut.result.now h c.at_mut.ensures.value).1) (stop-stops x.book c.args.g c.args.t c.requires.wants)

pub returns : goal.returns
returns c =
    let x = c.args.run.now in
    let h : HasRecord x c.args.t = setting-record x c.args.t c.requires.ready.served.tended
    (names-standing x.book c.args.g (Instr.Stop c.args.t) c.requires.ready.lawful (stands-stop x.book c.args.g c.args.t c.requires.wants)) in
    after-stop x _ c.args.g c.args.t c.at_mut.result.now c.sec_stop-done.new.rec c.sec_stop-done.result c.requires.ready c.requires.wants h c.at_mut.ensures.value refl refl refl refl
    c.sec_stop-done.ensures.row c.sec_stop-done.ensures.kept
