use Rattle.std.proofs.Common.{ap}
use Rattle.gt_rules.specs.After.{moved}
use Rattle.gt_machine.proofs.Machines.{set_numbered}
use Rattle.gt_machine.specs.Machine.{state_of}
use Rattle.gt_machine.proofs.machine.Machine.move_on.Goals as goal

pub returns-in-Some-clause-state : goal.returns-in-Some-clause-state
returns-in-Some-clause-state c =
    rw (c.move_goroutine.ensures, c.in-Some.is)
    (ap (λ gs. record (state_of c.args.self.now) { goroutines = gs })
    (set_numbered c.args.self.now.goroutines.items c.in-Some.g (moved c.args.script.now c.in-Some.how) c.at_mut.result.now _ (rw c.in-Some.is at c.requires.inside) c.at_mut.ensures.value))
