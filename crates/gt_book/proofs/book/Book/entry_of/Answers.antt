use Rattle.std.proofs.Common.{sym, subst}
use Rattle.gt_book.specs.Steps.{MayEnter}
use Rattle.gt_book.specs.Book.{seen}
use Rattle.gt_book.proofs.Committing.{derives-ctx}
use Rattle.gt_book.proofs.book.Book.entry_of.Goals as goal

pub made-requires-clause-context : goal.made-requires-clause-context
made-requires-clause-context c =
    derives-ctx (seen c.self.inside) c.in-Derive.g c.in-Derive.x c.self.invariant.lawful.good
    (subst (λ op. MayEnter (seen c.self.inside) op) c.in-Derive.is (subst (λ v. MayEnter v c.args.op.now) (sym c.self.view_is) c.requires))
