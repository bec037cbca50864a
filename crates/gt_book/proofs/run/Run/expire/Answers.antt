use Rattle.gt_model.specs.declared.entry.Entry.{Entry}
use Rattle.gt_rules.specs.Contexts.{start_count}
use Rattle.gt_machine.specs.Machine.{state_of}
use Rattle.gt_book.proofs.Endings.{expiry-ends, can-wake_ended}
use Rattle.gt_book.proofs.Runs.{entered-woken}
use Rattle.gt_book.proofs.run.Run.expire.Goals as goal

pub make_expiry-requires : goal.make_expiry-requires
make_expiry-requires c = (c.args.limits, c.requires.can)

pub wake_ended-requires : goal.wake_ended-requires
wake_ended-requires c =
    can-wake_ended c.args.script.now c.args.limits c.args.self.now c.make_expiry.new.self
    (Entry.Expire c.args.x (start_count c.args.script.now (state_of c.args.self.now.machine) c.args.x))
    (expiry-ends c.args.script.now (state_of c.args.self.now.machine) c.args.x (start_count c.args.script.now (state_of c.args.self.now.machine) c.args.x)) c.requires (c.make_expiry.ensures.makes c.args.limits c.requires.can)
    c.make_expiry.ensures.ended

pub returns : goal.returns
returns c =
    entered-woken c.args.script.now c.args.limits c.args.self.now c.make_expiry.new.self
    (Entry.Expire c.args.x (start_count c.args.script.now (state_of c.args.self.now.machine) c.args.x)) c.requires (c.make_expiry.ensures.makes c.args.limits c.requires.can)
    c.wake_ended.new.self c.wake_ended.ensures
