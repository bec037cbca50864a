use Rattle.std.proofs.Common.{subst}
use Rattle.gt_model.specs.declared.entry.Entry.{Entry}
use Rattle.gt_rules.specs.Contexts.{start_count}
use Rattle.gt_machine.specs.Machine.{state_of}
use Rattle.gt_book.specs.Run.{CanEnd}
use Rattle.gt_book.specs.View.{BookView, Enters}
use Rattle.gt_book.specs.Book.{seen}
use Rattle.gt_book.proofs.Ending.{can-expire}
use Rattle.gt_book.proofs.Runs.{kept-ends, enters-ends}
use Rattle.gt_book.proofs.book.Book.expire.Goals as goal

pub expire-requires : goal.expire-requires
expire-requires c = can-expire c.self.inside c.args.self.now c.args.x c.self.view_is c.self.invariant c.requires.running c.requires.expires

pub end-requires : goal.end-requires
end-requires c = (c.self.inside.script, record { kept = c.expire.ensures.kept; calm = c.expire.ensures.calm })

pub invariant_of-self : goal.invariant_of-self
invariant_of-self c =
    let can : CanEnd c.self.inside.script c.self.inside.limits c.expire.new.self =
    record { kept = c.expire.ensures.kept; calm = c.expire.ensures.calm } in
    kept-ends c.self.inside c.expire.new.self c.end.new.self (c.end.ensures c.self.inside.script can)

pub returns : goal.returns
returns c =
    let can : CanEnd c.self.inside.script c.self.inside.limits c.expire.new.self =
    record { kept = c.expire.ensures.kept; calm = c.expire.ensures.calm } in
    let e : Entry = Entry.Expire c.args.x (start_count c.self.inside.script (state_of c.self.inside.run.machine) c.args.x) in
    let new : BookView = seen (record { script = c.self.inside.script; limits = c.self.inside.limits; run = c.end.new.self }) in
    subst (λ (v : BookView). Enters v (Entry.Expire c.args.x (start_count v.script v.state c.args.x)) new) c.self.view_is
    (enters-ends c.self.inside e c.expire.new.self c.end.new.self c.expire.ensures (c.end.ensures c.self.inside.script can))
