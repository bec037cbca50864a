use Rattle.std.proofs.Common.{subst, true}
use Rattle.gt_model.specs.declared.entry.Entry.{Entry}
use Rattle.gt_rules.specs.Contexts.{start_count}
use Rattle.gt_machine.specs.Machine.{state_of}
use Rattle.gt_book.specs.Run.{CanEnd}
use Rattle.gt_book.specs.View.{BookView, Enters}
use Rattle.gt_book.specs.Book.{seen}
use Rattle.gt_book.proofs.Broadcasts.{hand-seen}
use Rattle.gt_book.proofs.Ending.{can-cancel}
use Rattle.gt_book.proofs.Runs.{kept-ends, enters-ends}
use Rattle.gt_book.proofs.book.Book.cancel.Goals as goal

pub cancel-requires-clause-in_hand : goal.cancel-requires-clause-in_hand
cancel-requires-clause-in_hand c = hand-seen c.self.inside c.args.self.now c.args.g c.self.view_is c.requires.in_hand

pub cancel-requires-clause-can : goal.cancel-requires-clause-can
cancel-requires-clause-can c =
    can-cancel c.self.inside c.args.self.now c.args.g c.args.x c.self.view_is c.self.invariant c.requires.running c.requires.in_hand c.requires.cancels

pub end-requires : goal.end-requires
end-requires c = (c.self.inside.script, record { kept = c.cancel.ensures.kept; calm = c.cancel.ensures.calm })

pub invariant_of-self : goal.invariant_of-self
invariant_of-self c =
    let can : CanEnd c.self.inside.script c.self.inside.limits c.cancel.new.self =
    record { kept = c.cancel.ensures.kept; calm = c.cancel.ensures.calm } in
    kept-ends c.self.inside c.cancel.new.self c.end.new.self (c.end.ensures c.self.inside.script can)

pub returns : goal.returns
returns c =
    let can : CanEnd c.self.inside.script c.self.inside.limits c.cancel.new.self =
    record { kept = c.cancel.ensures.kept; calm = c.cancel.ensures.calm } in
    let e : Entry = Entry.Cancel c.args.g c.args.x true (start_count c.self.inside.script (state_of c.self.inside.run.machine) c.args.x) in
    let new : BookView = seen (record { script = c.self.inside.script; limits = c.self.inside.limits; run = c.end.new.self }) in
    subst (λ (v : BookView). Enters v (Entry.Cancel c.args.g c.args.x true (start_count v.script v.state c.args.x)) new) c.self.view_is
    (enters-ends c.self.inside e c.cancel.new.self c.end.new.self c.cancel.ensures (c.end.ensures c.self.inside.script can))
