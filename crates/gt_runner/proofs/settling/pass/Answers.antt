use Rattle.std.proofs.Common.{◌≡◌, sym, subst, refl}
use Rattle.gt_lazy.specs.Slots.{LazyHeap}
use Rattle.gt_runner.specs.Served.{IsTended}
use Rattle.gt_runner.specs.Settled.{ScannedAreSettled}
use Rattle.gt_runner.proofs.Tending.{tended-touched}
use Rattle.gt_runner.proofs.Cleanings.{cleans-item, cleans-touches, entry-stands, inside-items, stands-item, bits-item, scanned-more, tended-unscanned, none-scanned, tended-unnoted}
use Rattle.gt_runner.proofs.settling.pass.Goals as goal

pub loop-place-init : goal.loop-place-init
loop-place-init c =
    let x = c.args.run.now in
    let P : LazyHeap → Type 0 = λ heap. IsTended (record x { heap = heap }) × (x.book ≡ x.book) × ScannedAreSettled (record x { heap = heap }) in
    subst P (sym c.begin_pass.ensures.entries) (tended-unscanned x c.requires.tended, (λ i. x.book), none-scanned x)

pub at_mut-requires : goal.at_mut-requires
at_mut-requires c =
    let x = c.loop-place.run in
    let h = entry-stands x c.in-Some.place c.entry-id.result.0 c.entry-id.result.1 c.entry-id.result.2 c.loop-place.invariant.0 c.in-Some.ensures.within c.entry-id.ensures.at c.entry-id.ensures.with in
    inside-items x c.entry-id.result.1 _ h.0

pub scan_one-how-requires-clause-place : goal.scan_one-how-requires-clause-place
scan_one-how-requires-clause-place c =
    let x = c.loop-place.run in
    let h = entry-stands x c.in-Some.place c.entry-id.result.0 c.entry-id.result.1 c.entry-id.result.2 c.loop-place.invariant.0 c.in-Some.ensures.within c.entry-id.ensures.at c.entry-id.ensures.with in
    stands-item x c.entry-id.result.1 c.in-Some.place _ c.at_mut.result.now h.0 c.at_mut.ensures.value h.1

pub scan_one-how-requires-clause-bits : goal.scan_one-how-requires-clause-bits
scan_one-how-requires-clause-bits c =
    let x = c.loop-place.run in
    let h = entry-stands x c.in-Some.place c.entry-id.result.0 c.entry-id.result.1 c.entry-id.result.2 c.loop-place.invariant.0 c.in-Some.ensures.within c.entry-id.ensures.at c.entry-id.ensures.with in
    bits-item x c.entry-id.result.1 _ c.at_mut.result.now h.0 c.at_mut.ensures.value

pub loop-place-preserved : goal.loop-place-preserved
loop-place-preserved c =
    let x = c.loop-place.run in
    let h = entry-stands x c.in-Some.place c.entry-id.result.0 c.entry-id.result.1 c.entry-id.result.2 c.loop-place.invariant.0 c.in-Some.ensures.within c.entry-id.ensures.at c.entry-id.ensures.with in
    let k = cleans-item x c.entry-id.result.1 c.in-Some.place _ c.at_mut.result.now c.scan_one-how.new.rec c.scan_one-how.new.self h.0 c.at_mut.ensures.value c.scan_one-how.ensures.record
    c.scan_one-how.ensures.scans c.scan_one-how.ensures.settled c.scan_one-how.ensures.shows c.scan_one-how.ensures.bits in (
      tended-touched x _ c.entry-id.result.1 c.at_mut.result.now c.scan_one-how.new.rec c.loop-place.invariant.0 (cleans-touches x _ c.entry-id.result.1 c.in-Some.place c.at_mut.result.now c.scan_one-how.new.rec k),
      c.loop-place.invariant.1,
      scanned-more x _ c.entry-id.result.1 c.in-Some.place c.at_mut.result.now c.scan_one-how.new.rec k c.loop-place.invariant.2,
    )

pub returns-clause-tended : goal.returns-clause-tended
returns-clause-tended c = tended-unnoted c.loop-place.run c.loop-place.invariant.0 c.loop-place.invariant.2 (c.in_default.ensures.none.0 refl)
