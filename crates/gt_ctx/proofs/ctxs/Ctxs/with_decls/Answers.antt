use Rattle.std.proofs.Common.{rules, ◌≡◌, ◌∙◌, sym, ap, subst, refl, length, replicate, None, arith}
use Rattle.std.proofs.lemmas.List.{length-map}
use Rattle.gt_model.specs.declared.script.Decl.{Decl}
use Rattle.gt_model.specs.declared.context.HookState.{HookState}
use Rattle.gt_ctx.specs.Decls.{AreOrdered, decl_by, decls_of}
use Rattle.gt_ctx.specs.Calls.{fresh}
use Rattle.gt_ctx.proofs.Fresh.{fresh_is_kept}
use Rattle.gt_ctx.proofs.Cuts.{contents_same}
use Rattle.gt_ctx.proofs.ctxs.Ctxs.with_decls.Goals as goal

pub invariant_of-result : goal.invariant_of-result
invariant_of-result c =
    let n = c.len-names.result in
    let contexts : c.in_ok-vec.field-0.items ≡ replicate n None = search rules in
    let deadlines : c.in_ok-vec-2.field-0.items ≡ replicate n None = search rules in
    let hooks : c.in_ok-vec-3.field-0.items ≡ replicate n HookState.Unregistered = search rules in
    let whole = c.in_ok-decls.decls.ok in
    let kept = c.in_ok-decls.ensures ∙ ap decls_of c.as_slice.ensures in
    let all : n ≡ length c.in_ok-decls.decls.items = search (rules, arith) in
    fresh_is_kept c.in_ok-decls.decls.items n _ _ _ _ _ _ _ _ _ _ _ _ contexts hooks deadlines c.in_ok-with_names.ensures c.in_ok-with_names-2.ensures all
    (subst AreOrdered (sym kept) c.requires.ordered) (omega (arith, ap length kept, length-map c.args.script.now.decls (λ (d : Decl). decl_by d.what), c.requires.few))
    c.in_ok-with_capacity.ensures.len c.in_ok-with_capacity.ensures.capacity c.in_ok-with_capacity-2.ensures.len c.in_ok-with_capacity-2.ensures.capacity c.in_ok-with_capacity-3.ensures.len c.in_ok-with_capacity-3.ensures.capacity c.in_ok-with_capacity-4.ensures.capacity

pub returns : goal.returns
returns c =
    let n = c.len-names.result in
    let contexts : c.in_ok-vec.field-0.items ≡ replicate n None = search rules in
    let hooks : c.in_ok-vec-3.field-0.items ≡ replicate n HookState.Unregistered = search rules in
    let kept = c.in_ok-decls.ensures ∙ ap decls_of c.as_slice.ensures in
    let all : n ≡ length c.in_ok-decls.decls.items = search (rules, arith) in
    contents_same _ (fresh c.in_ok-decls.decls.items) refl
    (contexts ∙ ap (λ m. replicate m None) all) (hooks ∙ ap (λ m. replicate m HookState.Unregistered) all) c.in_ok-with_capacity-3.ensures.items c.in_ok-with_capacity-4.ensures.items ∙ ap fresh kept
