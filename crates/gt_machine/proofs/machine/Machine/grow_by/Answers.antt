use Rattle.std.proofs.Common.{◌∙◌, Some, ap, set}
use Rattle.gt_ctx.specs.Contents.{Contents}
use Rattle.gt_ctx.proofs.Rules.{made_context-is, hooks-registered, hooks-stopped, stopped-contexts}
use Rattle.gt_machine.specs.Machine.{state_of}
use Rattle.gt_machine.proofs.Trees.{tree_of, with_tree}
use Rattle.gt_machine.proofs.machine.Machine.grow_by.Goals as goal

pub returns-in-Derived-clause-state : goal.returns-in-Derived-clause-state
returns-in-Derived-clause-state c instr =
    let script = c.args.script.now in
    let m = c.args.self.now in
    let s = state_of m in
    rw c.in-Derived.is
    (with_tree s _ _ _ _
    (ap (λ (t : Contents). t.contexts) c.make.ensures.after
    ∙ ap (λ kept. set s.contexts c.args.x (Some kept)) (made_context-is script s m.ctxs (tree_of script m c.requires.contexts) c.args.x c.args.world c.clock-now.result c.clock-now.ensures))
    (ap (λ (t : Contents). t.hooks) c.make.ensures.after))

pub returns-in-Registered-clause-state : goal.returns-in-Registered-clause-state
returns-in-Registered-clause-state c instr =
    let script = c.args.script.now in
    let m = c.args.self.now in
    let s = state_of m in
    rw c.in-Registered.is
    (with_tree s _ _ _ _
    (ap (λ (t : Contents). t.contexts) c.after.ensures.after)
    (ap (λ (t : Contents). t.hooks) c.after.ensures.after ∙ hooks-registered script s m.ctxs (tree_of script m c.requires.contexts) c.args.x))

pub returns-in-Unhooked-clause-state : goal.returns-in-Unhooked-clause-state
returns-in-Unhooked-clause-state c instr =
    let script = c.args.script.now in
    let m = c.args.self.now in
    let s = state_of m in
    rw c.in-Unhooked.is
    (with_tree s _ _ _ _
    (ap (λ (t : Contents). t.contexts) c.stop_hook.ensures.after ∙ stopped-contexts m.ctxs c.args.x)
    (ap (λ (t : Contents). t.hooks) c.stop_hook.ensures.after ∙ hooks-stopped script s m.ctxs (tree_of script m c.requires.contexts) c.args.x))
