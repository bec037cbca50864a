use Rattle.std.proofs.Common.{◌∙◌, ap}
use Rattle.gt_rules.specs.Contexts.{made_context}
use Rattle.gt_ctx.proofs.Rules.{made_context-is}
use Rattle.gt_machine.specs.Machine.{state_of}
use Rattle.gt_machine.proofs.Trees.{tree_of}
use Rattle.gt_machine.proofs.machine.Machine.made.Goals as goal

pub returns : goal.returns
returns c =
    let s = state_of c.args.self.now in
    c.context_for.ensures
    ∙ made_context-is c.args.script.now s c.args.self.now.ctxs (tree_of c.args.script.now c.args.self.now c.requires.contexts) c.args.x c.world_of-world.result c.clock.result c.clock.ensures
    ∙ ap (λ w. made_context c.args.script.now s w c.args.x) c.world_of-world.ensures
