use Rattle.std.proofs.Common.{rules, ◌≡◌, ◌<◌, ◌∙◌, true, refl, length, is_some, arith}
use Rattle.gt_ctx.specs.Contents.{context_at}
use Rattle.gt_ctx.proofs.Cuts.{made_still}
use Rattle.gt_leaf_tests.proofs.ctx.first_cause_stays.Goals as goal

-- a context that was made is still made after the cancellation of another one
pub cancel-requires-2 : goal.cancel-requires-2
cancel-requires-2 g c =
    let within : 2 < length c.make-4.new.self.decls =
    rw (c.make-4.ensures.after, c.make-3.ensures.after, c.make-2.ensures.after, c.make.ensures.after, c.in_ok-ctxs.ensures, c.in_ok-script.ensures.declared) (omega arith) in
    let made : is_some (context_at c.make-4.new.self.contexts 2) ≡ true =
    rw (c.make-4.ensures.after, c.make-3.ensures.after, c.make-2.ensures.after, c.make.ensures.after, c.in_ok-ctxs.ensures, c.in_ok-script.ensures.declared) refl in
    made_still c.make-4.new.self c.cancel.new.self 3 _ c.cancel.ensures.after 2 within ∙ made
