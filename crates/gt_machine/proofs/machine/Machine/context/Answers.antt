use Rattle.std.proofs.Common.{◌∙◌}
use Rattle.gt_ctx.proofs.Rules.{context_at-is}
use Rattle.gt_machine.specs.Machine.{state_of}
use Rattle.gt_machine.proofs.machine.Machine.context.Goals as goal

pub returns : goal.returns
returns c = c.context.ensures ∙ context_at-is (state_of c.args.self.now) c.args.x
