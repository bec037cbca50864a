use Rattle.std.proofs.Common.{◌≡◌, ◌+◌, Some, drop, slice_get, sym, ap, ◌∙◌, arith}
use Rattle.gt_rec.specs.Rec.{Rec}
use Rattle.gt_schedule.specs.Schedule.{marks_at}
use Rattle.gt_schedule.specs.Counts.{times}
use Rattle.gt_schedule.proofs.Lists.{times-first_same}
use Rattle.gt_chtimer.proofs.unblock.sec_unblock.Goals as goal

pub unmark_blocked-requires : goal.unmark_blocked-requires
unmark_blocked-requires c =
    let marked : slice_get (marks_at c.args.book.now.schedule c.args.g) 0 ≡ Some c.rec.inside.id = c.requires.marked ∙ ap (λ (r : Rec). Some r.id) (sym c.rec.view_is) in
    let counted : times c.rec.inside.id (marks_at c.args.book.now.schedule c.args.g) ≡ times c.rec.inside.id (drop 1 (marks_at c.args.book.now.schedule c.args.g)) + 1 =
    times-first_same c.rec.inside.id (marks_at c.args.book.now.schedule c.args.g) marked in
    omega arith
