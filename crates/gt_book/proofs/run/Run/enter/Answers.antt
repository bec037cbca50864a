use Rattle.std.proofs.Common.{◌∙◌, sym}
use Rattle.gt_book.proofs.Runs.{entered-alone, entered-woken, can-wake}
use Rattle.gt_book.proofs.run.Run.enter.Goals as goal

pub make-requires-clause-can : goal.make-requires-clause-can
make-requires-clause-can c = (c.args.limits, c.requires.can.can)

pub wake-requires : goal.wake-requires
wake-requires c =
    can-wake c.args.script.now c.args.limits c.args.self.now c.make.new.self c.args.entry c.requires.can (c.make.ensures.makes c.args.limits c.requires.can.can) c.in-Some.o
    (sym c.changed_object.ensures ∙ c.in-Some.is)

pub returns-in-Some : goal.returns-in-Some
returns-in-Some c =
    entered-woken c.args.script.now c.args.limits c.args.self.now c.make.new.self c.args.entry c.requires.can (c.make.ensures.makes c.args.limits c.requires.can.can) c.wake.new.self c.wake.ensures

pub returns-in_default : goal.returns-in_default
returns-in_default c =
    entered-alone c.args.script.now c.args.limits c.args.self.now c.make.new.self c.args.entry c.requires.can (c.make.ensures.makes c.args.limits c.requires.can.can)
    (sym c.changed_object.ensures ∙ c.in_default.is) c.requires.uncut
