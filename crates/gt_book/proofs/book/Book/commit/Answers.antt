use Rattle.std.proofs.Common.{◌∙◌, sym}
use Rattle.gt_book.proofs.Committing.{may-enter}
use Rattle.gt_book.proofs.book.Book.commit.Goals as goal

pub entry_of-entry-requires : goal.entry_of-entry-requires
entry_of-entry-requires c = may-enter c.args.self.now c.args.op c.in_default.not-Expire (c.requires (sym c.is_gone.ensures ∙ c.if-is_gone.false))
