use Rattle.gt_book.proofs.Giving.{kept-given}
use Rattle.gt_book.proofs.book.Book.give_back.Goals as goal

pub invariant_of-self : goal.invariant_of-self
invariant_of-self c =
    kept-given c.self.inside c.give_back.new.self c.self.invariant c.give_back.ensures.schedule c.give_back.ensures.orderly c.give_back.ensures.room c.give_back.ensures.kept
