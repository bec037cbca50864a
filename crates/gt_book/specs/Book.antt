-- What contracts see of a book, and what it keeps.
use Rattle.gt_book.specs.declared.book.Book.TheInside.{Inside}
use Rattle.gt_book.specs.View.{BookView, IsLawful}
use Rattle.gt_book.specs.Run.{seen_of, HasRooms}

abbrev pub seen : Inside → BookView
seen b = seen_of b.script b.limits b.run

pub record IsKept (b : Inside) : Type 0 where
  pub lawful : IsLawful (seen b)
  pub rooms : HasRooms b.script b.limits b.run
