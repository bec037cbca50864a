use Rattle.std.proofs.Common.{refl, sym}
use Rattle.gt_runner.proofs.Tending.{tended-touched}
use Rattle.gt_runner.proofs.Cleanings.{inside-items}
use Rattle.gt_runner.proofs.Dropping.{over-lent, drops-touches, over-drops, rests-drops, rests-tended, head-lent}
use Rattle.gt_runner.proofs.settling.drop_head.Goals as goal

pub at_mut-rec-requires : goal.at_mut-rec-requires
at_mut-rec-requires c = inside-items c.args.run.now c.args.id c.requires.head.slot c.requires.head.held

pub returns-then-is_over-clause-tended : goal.returns-then-is_over-clause-tended
returns-then-is_over-clause-tended c =
    let x = c.args.run.now in
    tended-touched x _ c.args.id c.at_mut-rec.result.now c.sec_drop_deadline.new.rec c.requires.tended
    (drops-touches x _ c.args.id c.at_mut-rec.result.now c.sec_drop_deadline.new.rec (record {
      there = c.at_mut-rec.ensures.value;
      head = c.requires.head;
      over = sym c.if-is_over.ensures;
      records_are = refl;
      spare = refl;
      book_is = refl;
      heap_is = refl;
      noted_is = refl;
      row = c.sec_drop_deadline.ensures.row;
      lent = over-lent x.book c.at_mut-rec.result.now c.sec_drop_deadline.new.rec (sym c.if-is_over.ensures)
          (head-lent x c.args.id c.at_mut-rec.result.now c.requires.head c.at_mut-rec.ensures.value) c.sec_drop_deadline.ensures.kept;
    }))

pub returns-then-is_over-clause-drops : goal.returns-then-is_over-clause-drops
returns-then-is_over-clause-drops c =
    let x = c.args.run.now in
    over-drops x _ c.args.id c.at_mut-rec.result.now c.sec_drop_deadline.new.rec (record {
      there = c.at_mut-rec.ensures.value;
      head = c.requires.head;
      over = sym c.if-is_over.ensures;
      records_are = refl;
      spare = refl;
      book_is = refl;
      heap_is = refl;
      noted_is = refl;
      row = c.sec_drop_deadline.ensures.row;
      lent = over-lent x.book c.at_mut-rec.result.now c.sec_drop_deadline.new.rec (sym c.if-is_over.ensures)
          (head-lent x c.args.id c.at_mut-rec.result.now c.requires.head c.at_mut-rec.ensures.value) c.sec_drop_deadline.ensures.kept;
    })

pub returns-else-is_over-clause-tended : goal.returns-else-is_over-clause-tended
returns-else-is_over-clause-tended c = rests-tended c.args.run.now c.args.id c.at_mut-rec.result.now c.at_mut-rec.ensures.value c.requires.tended

pub returns-else-is_over-clause-drops : goal.returns-else-is_over-clause-drops
returns-else-is_over-clause-drops c = rests-drops c.args.run.now c.args.id c.at_mut-rec.result.now c.at_mut-rec.ensures.value (sym c.if-is_over.ensures)
