use Rattle.std.proofs.Common.{sym, ◌∙◌, refl}
use Rattle.gt_runner.proofs.Calling.{record-within, record-is}
use Rattle.gt_runner.proofs.Unblocking.{taken-record, unblocked-book, unblocked-fewer, unblocks-taken, unmarked-served, but-none, but-then, but-unmarked}
use Rattle.gt_runner.proofs.run.unblock.Goals as goal

pub loop-t-init : goal.loop-t-init
loop-t-init c = (c.requires.taken, but-none c.args.run.now.book)

pub at_mut-requires : goal.at_mut-requires
at_mut-requires c =
    let x = c.loop-t.run in
    record-within x c.in-Some.t (taken-record x c.args.g c.in-Some.t c.loop-t.invariant.0 (sym c.next_blocked.ensures ∙ c.in-Some.is))

pub sec_unblock-requires-clause-lent : goal.sec_unblock-requires-clause-lent
sec_unblock-requires-clause-lent c =
    let x = c.loop-t.run in
    (record-is x c.in-Some.t c.at_mut.result.now (taken-record x c.args.g c.in-Some.t c.loop-t.invariant.0 (sym c.next_blocked.ensures ∙ c.in-Some.is)) c.at_mut.ensures.value).2.kept.rec

pub loop-t-smaller : goal.loop-t-smaller
loop-t-smaller c =
    let x = c.loop-t.run in
    let first = sym c.next_blocked.ensures ∙ c.in-Some.is in
    unblocked-fewer x.book c.sec_unblock.new.book c.args.g c.in-Some.t first
    (unblocked-book x c.sec_unblock.new.book c.args.g c.in-Some.t c.at_mut.result.now c.sec_unblock.new.rec c.loop-t.invariant.0 first c.at_mut.ensures.value c.sec_unblock.ensures.row)

pub loop-t-preserved : goal.loop-t-preserved
loop-t-preserved c =
    let x = c.loop-t.run in
    let v = c.sec_unblock.new.book in
    let first = sym c.next_blocked.ensures ∙ c.in-Some.is in (
      unblocks-taken x _ c.args.g c.in-Some.t c.at_mut.result.now c.sec_unblock.new.rec (record {
        taken = c.loop-t.invariant.0;
        first = first;
        there = c.at_mut.ensures.value;
        records_are = refl;
        spare = refl;
        noted_is = refl;
        heap_is = refl;
        row = c.sec_unblock.ensures.row;
        lent = c.sec_unblock.ensures.kept;
      }),
      but-then c.args.run.now.book x.book v c.loop-t.invariant.1 (but-unmarked x.book v c.args.g c.in-Some.t
          (unblocked-book x v c.args.g c.in-Some.t c.at_mut.result.now c.sec_unblock.new.rec c.loop-t.invariant.0 first c.at_mut.ensures.value c.sec_unblock.ensures.row)),
    )

pub returns-clause-served : goal.returns-clause-served
returns-clause-served c = unmarked-served c.loop-t.run c.args.g c.loop-t.invariant.0 (sym c.next_blocked.ensures ∙ c.in_default.is)
