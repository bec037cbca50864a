use Rattle.std.proofs.Common.{ap}
use Rattle.gt_model.specs.declared.state.Mode.{Mode}
use Rattle.gt_rules.specs.After.{in_mode}
use Rattle.gt_machine.proofs.Machines.{set_numbered}
use Rattle.gt_machine.specs.Machine.{state_of}
use Rattle.gt_machine.proofs.machine.Machine.relock.Goals as goal

pub returns-clause-state : goal.returns-clause-state
returns-clause-state c =
    ap (λ gs. record (state_of c.args.self.now) { goroutines = gs })
    (set_numbered c.args.self.now.goroutines.items c.args.g (in_mode (Mode.Relocking c.args.k)) c.at_mut.result.now _ c.requires c.at_mut.ensures.value)
