use Rattle.gt_book.proofs.Scheduled.{kept-marked}
use Rattle.gt_book.proofs.book.Book.unmark_blocked.Goals as goal

pub invariant_of-self : goal.invariant_of-self
invariant_of-self c =
    kept-marked c.self.inside c.unmark_blocked.new.self _ c.self.invariant c.unmark_blocked.ensures.schedule c.unmark_blocked.ensures.room c.unmark_blocked.ensures.kept
