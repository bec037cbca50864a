use Rattle.std.proofs.Common.{sym}
use Rattle.gt_runner.proofs.Cleanings.{FirstIs, head-first, head-stands, inside-items, fit-item, unfit-item}
use Rattle.gt_runner.proofs.settling.unfit_head.Goals as goal

pub at-requires : goal.at-requires
at-requires c =
    let x = c.args.run.now in
    let f : FirstIs x.heap.slots c.in_ok-id.field-0-0 c.in_ok-id.id = head-first x.heap.slots c.in_ok-id.field-0-0 c.in_ok-id.id c.in_ok-id.ensures.first c.in_ok-id.ensures.with in
    let h = head-stands x c.in_ok-id.field-0-0 c.in_ok-id.id c.requires.tended f in
    inside-items x c.in_ok-id.id f.slot h.0

pub returns-then-is_unfit-clause-some : goal.returns-then-is_unfit-clause-some
returns-then-is_unfit-clause-some c =
    let x = c.args.run.now in
    let f : FirstIs x.heap.slots c.in_ok-id.field-0-0 c.in_ok-id.id = head-first x.heap.slots c.in_ok-id.field-0-0 c.in_ok-id.id c.in_ok-id.ensures.first c.in_ok-id.ensures.with in
    unfit-item x c.in_ok-id.field-0-0 c.in_ok-id.id c.at.result.now c.requires.tended f c.at.ensures.value (sym c.if-is_unfit.ensures)

pub returns-else-is_unfit-clause-none : goal.returns-else-is_unfit-clause-none
returns-else-is_unfit-clause-none c none =
    let x = c.args.run.now in
    let f : FirstIs x.heap.slots c.in_ok-id.field-0-0 c.in_ok-id.id = head-first x.heap.slots c.in_ok-id.field-0-0 c.in_ok-id.id c.in_ok-id.ensures.first c.in_ok-id.ensures.with in
    fit-item x c.in_ok-id.field-0-0 c.in_ok-id.id c.at.result.now c.requires.tended f c.at.ensures.value (sym c.if-is_unfit.ensures)
