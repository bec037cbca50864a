use Rattle.std.proofs.Common.{ap, refl}
use Rattle.std.proofs.lemmas.Option.{slice_get_read}
use Rattle.gt_machine.specs.Machine.{state_of}
use Rattle.gt_machine.proofs.Machines.{retimed-set}
use Rattle.gt_machine.proofs.machine.Machine.retime.Goals as goal

pub returns-clause-state : goal.returns-clause-state
returns-clause-state c =
    rw (c.retimed.ensures, c.mover_world-world.ensures, c.new_period-period.ensures, c.in-Some.is)
    (ap (λ ts. record (state_of c.args.self.now) { timers = ts })
    (retimed-set c.args.script.now (state_of c.args.self.now) c.args.mover c.args.self.now.timers.items c.in-Some.t c.in-Some.setting c.index.result.now
    (slice_get_read _ _ _ _ refl (rw c.in-Some.is at c.requires) c.index.ensures)))
