use Rattle.gt_book.proofs.Scheduled.{kept-marked}
use Rattle.gt_book.proofs.book.Book.mark_blocked.Goals as goal

pub invariant_of-self : goal.invariant_of-self
invariant_of-self c =
    kept-marked c.self.inside c.mark_blocked.new.self _ c.self.invariant c.mark_blocked.ensures.schedule c.mark_blocked.ensures.room c.mark_blocked.ensures.kept
