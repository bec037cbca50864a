use Rattle.std.proofs.Common.{rules, ◌≡◌, ◌<◌, ◌∙◌, false, refl, length, is_some, IfSome, Some, ap, sym, subst, arith}
use Rattle.gt_ctx.specs.Contents.{Contents, context_at, world_at}
use Rattle.gt_ctx.specs.Decls.{decl_at, parent_by}
use Rattle.gt_ctx.proofs.Cuts.{declared_still, made_still, world_still, none_made}
use Rattle.gt_leaf_tests.proofs.ctx.without_is_not_reached.Goals as goal

pub make-made-requires-4-clause-unmade : goal.make-made-requires-4-clause-unmade
make-made-requires-4-clause-unmade g c =
    let within : 3 < length c.make-made-3.new.self.decls =
    rw (c.make-made-3.ensures.after, c.make-made-2.ensures.after, c.make-made.ensures.after, c.in_ok-ctxs.ensures, c.in_ok-script.ensures.declared) (omega arith) in
    let unmade : is_some (context_at c.make-made-3.new.self.contexts 3) ≡ false =
    rw (c.make-made-3.ensures.after, c.make-made-2.ensures.after, c.make-made.ensures.after, c.in_ok-ctxs.ensures, c.in_ok-script.ensures.declared) refl in
    none_made (context_at c.cancel.new.self.contexts 3) (made_still c.make-made-3.new.self c.cancel.new.self 0 _ c.cancel.ensures.after 3 within ∙ unmade)

pub make-made-requires-4-clause-parent : goal.make-made-requires-4-clause-parent
make-made-requires-4-clause-parent g c =
    let within : 0 < length c.make-made-3.new.self.decls =
    rw (c.make-made-3.ensures.after, c.make-made-2.ensures.after, c.make-made.ensures.after, c.in_ok-ctxs.ensures, c.in_ok-script.ensures.declared) (omega arith) in
    let parent : parent_by (decl_at c.cancel.new.self.decls 3) ≡ Some 0 =
    rw (
      declared_still c.make-made-3.new.self c.cancel.new.self 0 _ c.cancel.ensures.after,
      c.make-made-3.ensures.after,
      c.make-made-2.ensures.after,
      c.make-made.ensures.after,
      c.in_ok-ctxs.ensures,
      c.in_ok-script.ensures.declared,
      c.context-4.ensures,
    ) refl in
    let world : world_at c.make-made-3.new.self.contexts 0 ≡ Some 0 = search rules in
    subst (λ o. IfSome o (λ p. world_at c.cancel.new.self.contexts p ≡ Some 0)) (sym parent) (world_still c.make-made-3.new.self c.cancel.new.self 0 _ c.cancel.ensures.after 0 within ∙ world)
