use Rattle.gt_ctx.proofs.Rules.{ordered-good}
use Rattle.gt_machine.proofs.machine.unmade_contexts.Goals as goal

pub with_decls-requires-clause-ordered : goal.with_decls-requires-clause-ordered
with_decls-requires-clause-ordered c = ordered-good c.args.script.now c.requires
