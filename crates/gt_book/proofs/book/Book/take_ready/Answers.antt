use Rattle.gt_book.proofs.Scheduled.{kept-taken}
use Rattle.gt_book.proofs.book.Book.take_ready.Goals as goal

pub invariant_of-self : goal.invariant_of-self
invariant_of-self c =
    kept-taken c.self.inside c.take.new.self c.take.result c.self.invariant c.take.ensures.first c.take.ensures.unchanged c.take.ensures.schedule c.take.ensures.room c.take.ensures.kept
