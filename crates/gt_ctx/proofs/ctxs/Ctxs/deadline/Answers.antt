use Rattle.std.proofs.Common.{sym, ◌∙◌}
use Rattle.gt_ctx.proofs.Lines.{heeded_earlier, deadline-parent}
use Rattle.gt_ctx.proofs.Trees.{unmade_own}
use Rattle.gt_ctx.proofs.ctxs.Ctxs.deadline.Goals as goal

pub up-smaller : goal.up-smaller
up-smaller c =
    heeded_earlier c.args.self.now.decls c.lawful.ensures.ordered c.up.at c.in-Some.parent (sym c.parent.ensures ∙ c.in-Some.is)

pub up-preserved : goal.up-preserved
up-preserved c =
    c.up.invariant
    ∙ deadline-parent c.args.self.now c.lawful.ensures.ordered c.up.at _ (unmade_own c.args.self.now.contexts c.up.at (sym c.is_made.ensures ∙ c.if-is_made.false)) (sym c.parent.ensures ∙ c.in-Some.is)

pub returns-in-None : goal.returns-in-None
returns-in-None c =
    sym (c.up.invariant
    ∙ deadline-parent c.args.self.now c.lawful.ensures.ordered c.up.at _ (unmade_own c.args.self.now.contexts c.up.at (sym c.is_made.ensures ∙ c.if-is_made.false)) (sym c.parent.ensures ∙ c.in-None.is))
