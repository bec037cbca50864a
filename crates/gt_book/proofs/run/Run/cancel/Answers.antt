use Rattle.std.proofs.Common.{true}
use Rattle.gt_model.specs.declared.entry.Entry.{Entry}
use Rattle.gt_rules.specs.Contexts.{start_count}
use Rattle.gt_machine.specs.Machine.{state_of}
use Rattle.gt_book.proofs.Endings.{cancel-ends, can-wake_ended}
use Rattle.gt_book.proofs.Runs.{entered-woken}
use Rattle.gt_book.proofs.run.Run.cancel.Goals as goal

pub make_cancel-requires : goal.make_cancel-requires
make_cancel-requires c = (c.args.limits, c.requires.can.can)

pub wake_ended-requires : goal.wake_ended-requires
wake_ended-requires c =
    can-wake_ended c.args.script.now c.args.limits c.args.self.now c.make_cancel.new.self
    (Entry.Cancel c.args.g c.args.x true (start_count c.args.script.now (state_of c.args.self.now.machine) c.args.x))
    (cancel-ends c.args.script.now (state_of c.args.self.now.machine) c.args.g c.args.x (start_count c.args.script.now (state_of c.args.self.now.machine) c.args.x)) c.requires.can (c.make_cancel.ensures.makes c.args.limits c.requires.can.can)
    c.make_cancel.ensures.ended

pub returns : goal.returns
returns c =
    entered-woken c.args.script.now c.args.limits c.args.self.now c.make_cancel.new.self
    (Entry.Cancel c.args.g c.args.x true (start_count c.args.script.now (state_of c.args.self.now.machine) c.args.x)) c.requires.can
    (c.make_cancel.ensures.makes c.args.limits c.requires.can.can) c.wake_ended.new.self c.wake_ended.ensures
