use Rattle.std.proofs.Common.{ap, sym, Some}
use Rattle.gt_model.specs.declared.entry.Entry.{Entry}
use Rattle.gt_rules.specs.State.{suspended_count}
use Rattle.gt_machine.specs.Machine.{state_of}
use Rattle.gt_book.proofs.Runs.{can-wake, entered-woken}
use Rattle.gt_book.proofs.run.Run.broadcast.Goals as goal

pub make_broadcast-requires-clause-can : goal.make_broadcast-requires-clause-can
make_broadcast-requires-clause-can c = (c.args.limits, c.requires.can.can)

pub wake-requires : goal.wake-requires
wake-requires c =
    can-wake c.args.script.now c.args.limits c.args.self.now c.make_broadcast.new.self (Entry.Broadcast c.args.g c.args.k (suspended_count (state_of c.args.self.now.machine) c.args.k))
    c.requires.can (c.make_broadcast.ensures c.args.limits c.requires.can.can) c.mutex_of.result (ap Some (sym c.mutex_of.ensures))

pub returns : goal.returns
returns c =
    entered-woken c.args.script.now c.args.limits c.args.self.now c.make_broadcast.new.self (Entry.Broadcast c.args.g c.args.k (suspended_count (state_of c.args.self.now.machine) c.args.k))
    c.requires.can (c.make_broadcast.ensures c.args.limits c.requires.can.can) c.wake.new.self c.wake.ensures
