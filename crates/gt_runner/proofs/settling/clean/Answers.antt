use Rattle.std.proofs.Common.{refl, ◌∙◌}
use Rattle.gt_runner.proofs.Tending.{tended-touched}
use Rattle.gt_runner.proofs.Cleanings.{cleans-item, cleans-touches, bits-item}
use Rattle.gt_runner.proofs.Dropping.{Dropped, head-dropped, dropped-within, unfit-fewer}
use Rattle.gt_runner.proofs.settling.clean.Goals as goal

pub loop-id-smaller : goal.loop-id-smaller
loop-id-smaller c =
    let x = c.loop-id.run in
    let x1 = c.drop_head.new.run in
    let id = c.in-Some.id in
    let h : Dropped x x1 id c.at_mut.result.now = head-dropped x x1 id c.at_mut.result.now c.in-Some.ensures.some c.drop_head.ensures.tended c.drop_head.ensures.drops c.at_mut.ensures.value in
    unfit-fewer x x1 c.clean_head-how.new.self id c.at_mut.result.now c.clean_head-how.new.rec h c.drop_head.ensures.drops c.clean_head-how.ensures.record

pub loop-id-preserved : goal.loop-id-preserved
loop-id-preserved c =
    let x = c.loop-id.run in
    let x1 = c.drop_head.new.run in
    let id = c.in-Some.id in
    let h : Dropped x x1 id c.at_mut.result.now = head-dropped x x1 id c.at_mut.result.now c.in-Some.ensures.some c.drop_head.ensures.tended c.drop_head.ensures.drops c.at_mut.ensures.value in
    let k = cleans-item x1 id 0 h.slot c.at_mut.result.now c.clean_head-how.new.rec c.clean_head-how.new.self h.held c.at_mut.ensures.value c.clean_head-how.ensures.record
    c.clean_head-how.ensures.scans c.clean_head-how.ensures.settled c.clean_head-how.ensures.shows c.clean_head-how.ensures.bits in (
      tended-touched x1 _ id c.at_mut.result.now c.clean_head-how.new.rec c.drop_head.ensures.tended (cleans-touches x1 _ id 0 c.at_mut.result.now c.clean_head-how.new.rec k),
      c.drop_head.ensures.drops.book_is ∙ c.loop-id.invariant.1,
      c.drop_head.ensures.drops.noted_is ∙ c.loop-id.invariant.2,
    )

pub at_mut-requires : goal.at_mut-requires
at_mut-requires c =
    let x = c.loop-id.run in
    dropped-within x c.drop_head.new.run c.in-Some.id c.in-Some.ensures.some c.drop_head.ensures.drops

pub clean_head-how-requires-clause-place : goal.clean_head-how-requires-clause-place
clean_head-how-requires-clause-place c =
    let x = c.loop-id.run in
    (head-dropped x c.drop_head.new.run c.in-Some.id c.at_mut.result.now c.in-Some.ensures.some c.drop_head.ensures.tended c.drop_head.ensures.drops c.at_mut.ensures.value).stands

pub clean_head-how-requires-clause-bits : goal.clean_head-how-requires-clause-bits
clean_head-how-requires-clause-bits c =
    let x = c.loop-id.run in
    let x1 = c.drop_head.new.run in
    let h = head-dropped x x1 c.in-Some.id c.at_mut.result.now c.in-Some.ensures.some c.drop_head.ensures.tended c.drop_head.ensures.drops c.at_mut.ensures.value in
    bits-item x1 c.in-Some.id h.slot c.at_mut.result.now h.held c.at_mut.ensures.value

pub returns-clause-fit : goal.returns-clause-fit
returns-clause-fit c = c.in_default.ensures.none refl
