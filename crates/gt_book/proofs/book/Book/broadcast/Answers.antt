use Rattle.std.proofs.Common.{subst}
use Rattle.gt_model.specs.declared.entry.Entry.{Entry}
use Rattle.gt_rules.specs.State.{suspended_count}
use Rattle.gt_machine.specs.Machine.{state_of}
use Rattle.gt_book.specs.Run.{CanEnd}
use Rattle.gt_book.specs.View.{BookView, Enters}
use Rattle.gt_book.specs.Book.{seen}
use Rattle.gt_book.proofs.Broadcasts.{can-broadcast, hand-seen}
use Rattle.gt_book.proofs.Runs.{kept-ends, enters-ends}
use Rattle.gt_book.proofs.book.Book.broadcast.Goals as goal

pub broadcast-requires-clause-in_hand : goal.broadcast-requires-clause-in_hand
broadcast-requires-clause-in_hand c = hand-seen c.self.inside c.args.self.now c.args.g c.self.view_is c.requires.in_hand

pub broadcast-requires-clause-can : goal.broadcast-requires-clause-can
broadcast-requires-clause-can c =
    can-broadcast c.self.inside c.args.self.now c.args.g c.args.k c.self.view_is c.self.invariant c.requires.running c.requires.in_hand c.requires.broadcasts

pub end-requires : goal.end-requires
end-requires c = (c.self.inside.script, record { kept = c.broadcast.ensures.kept; calm = c.broadcast.ensures.calm })

pub invariant_of-self : goal.invariant_of-self
invariant_of-self c =
    let can : CanEnd c.self.inside.script c.self.inside.limits c.broadcast.new.self =
    record { kept = c.broadcast.ensures.kept; calm = c.broadcast.ensures.calm } in
    kept-ends c.self.inside c.broadcast.new.self c.end.new.self (c.end.ensures c.self.inside.script can)

pub returns : goal.returns
returns c =
    let can : CanEnd c.self.inside.script c.self.inside.limits c.broadcast.new.self =
    record { kept = c.broadcast.ensures.kept; calm = c.broadcast.ensures.calm } in
    let e : Entry = Entry.Broadcast c.args.g c.args.k (suspended_count (state_of c.self.inside.run.machine) c.args.k) in
    let new : BookView = seen (record { script = c.self.inside.script; limits = c.self.inside.limits; run = c.end.new.self }) in
    subst (λ (v : BookView). Enters v (Entry.Broadcast c.args.g c.args.k (suspended_count v.state c.args.k)) new) c.self.view_is
    (enters-ends c.self.inside e c.broadcast.new.self c.end.new.self c.broadcast.ensures (c.end.ensures c.self.inside.script can))
