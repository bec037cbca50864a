use Rattle.std.proofs.Common.{subst}
use Rattle.gt_book.specs.Run.{CanEnd}
use Rattle.gt_book.specs.View.{Enters}
use Rattle.gt_book.specs.Book.{seen}
use Rattle.gt_book.proofs.Runs.{can_enter-seen, kept-ends, enters-ends}
use Rattle.gt_book.proofs.book.Book.enter.Goals as goal

pub enter-requires-clause-can : goal.enter-requires-clause-can
enter-requires-clause-can c = can_enter-seen c.self.inside c.args.self.now c.args.entry c.self.view_is c.self.invariant c.requires.running c.requires.may c.requires.served

pub end-requires : goal.end-requires
end-requires c = (c.self.inside.script, record { kept = c.enter.ensures.kept; calm = c.enter.ensures.calm })

pub invariant_of-self : goal.invariant_of-self
invariant_of-self c =
    let can : CanEnd c.self.inside.script c.self.inside.limits c.enter.new.self = record { kept = c.enter.ensures.kept; calm = c.enter.ensures.calm } in
    kept-ends c.self.inside c.enter.new.self c.end.new.self (c.end.ensures c.self.inside.script can)

pub returns : goal.returns
returns c =
    let can : CanEnd c.self.inside.script c.self.inside.limits c.enter.new.self = record { kept = c.enter.ensures.kept; calm = c.enter.ensures.calm } in
    subst (λ v. Enters v c.args.entry (seen (record { script = c.self.inside.script; limits = c.self.inside.limits; run = c.end.new.self }))) c.self.view_is
    (enters-ends c.self.inside c.args.entry c.enter.new.self c.end.new.self c.enter.ensures (c.end.ensures c.self.inside.script can))
