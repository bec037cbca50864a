use Rattle.gt_book.proofs.Books.{few-goroutines}
use Rattle.gt_book.proofs.book.Book.least_counted.Goals as goal

pub least_counted-requires-clause-few : goal.least_counted-requires-clause-few
least_counted-requires-clause-few c = few-goroutines c.self.inside c.self.invariant
