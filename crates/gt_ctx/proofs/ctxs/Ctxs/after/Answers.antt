use Rattle.std.proofs.Common.{◌≡◌, ◌<◌, ◌∙◌, Some, true, sym, ap, subst, refl, length, arith}
use Rattle.std.proofs.lemmas.List.{length-set, get_or_read}
use Rattle.std.specs.Option.{is_some}
use Rattle.gt_model.specs.declared.context.HookState.{HookState}
use Rattle.gt_ctx.specs.declared.decl.CtxDecl.{CtxDecl}
use Rattle.gt_ctx.specs.contracts.ctxs.Ctxs.{the_view}
use Rattle.gt_ctx.specs.Contents.{Contents, hook_at}
use Rattle.gt_ctx.specs.Decls.{ctx_by}
use Rattle.gt_ctx.specs.Calls.{ctx_of}
use Rattle.gt_ctx.specs.Kept.{AreWaiting}
use Rattle.gt_ctx.proofs.Trees.{hook_leaves, hook_joins, room_stays, context_within, hook_within, fresh_unstarted}
use Rattle.gt_ctx.proofs.ctxs.Ctxs.after.Goals as goal

pub join-requires-clause-list : goal.join-requires-clause-list
join-requires-clause-list c =
    let v : Contents = the_view c.self.inside in
    let inv = c.self.invariant in
    let s = c.args.s in
    let within = hook_within v.decls s (subst (λ (u : Contents). is_some (ctx_of u.decls s) ≡ true) (sym c.self.view_is) c.requires.hook) in
    let is = get_or_read v.decls s c.index.result.now within c.index.ensures CtxDecl.Other in
    let of : ctx_of v.decls s ≡ Some c.in-Some.ctx = ap ctx_by (sym is) ∙ sym c.hooked.ensures ∙ c.in-Some.is in
    let there = context_within v.decls c.in-Some.ctx (inv.ordered.ctx_context s c.in-Some.ctx of) in
    let size = inv.are_waiting.of_each in
    omega arith

pub invariant_of-self : goal.invariant_of-self
invariant_of-self c =
    let v : Contents = the_view c.self.inside in
    let inv = c.self.invariant in
    let hooks = c.self.inside.hooks.items in
    let s = c.args.s in
    let declared = hook_within v.decls s (subst (λ (u : Contents). is_some (ctx_of u.decls s) ≡ true) (sym c.self.view_is) c.requires.hook) in
    let size = inv.hooks_of_each in
    let within : s < length hooks = omega arith in
    let fresh : hook_at hooks s ≡ HookState.Unregistered = subst (λ (u : Contents). hook_at u.hooks s ≡ HookState.Unregistered) (sym c.self.view_is) c.requires.unregistered in
    let is = get_or_read v.decls s c.index.result.now declared c.index.ensures CtxDecl.Other in
    let of : ctx_of v.decls s ≡ Some c.in-Some.ctx = ap ctx_by (sym is) ∙ sym c.hooked.ensures ∙ c.in-Some.is in
    let there = context_within v.decls c.in-Some.ctx (inv.ordered.ctx_context s c.in-Some.ctx of) in
    let lists = inv.are_waiting.of_each in
    record {
      ordered = inv.ordered;
      few = inv.few;
      contexts_of_each = inv.contexts_of_each;
      hooks_of_each = length-set hooks s HookState.Waiting ∙ inv.hooks_of_each;
      are_derived = inv.are_derived;
      are_children = inv.are_children;
      are_waiting = subst (AreWaiting v.decls _) (sym c.join.ensures) (hook_joins v.decls hooks c.self.inside.waiting inv.are_waiting s within c.in-Some.ctx fresh of (omega arith));
      none_left = inv.none_left;
      room_left = inv.room_left;
      none_found = inv.none_found;
      room_found = inv.room_found;
      handed_out = inv.handed_out;
      room = room_stays hooks s HookState.Waiting _ _ within (fresh_unstarted (hook_at hooks s) fresh) inv.room;
      room_ended = inv.room_ended;
    }

pub invariant_of-self-in_default : goal.invariant_of-self-in_default
invariant_of-self-in_default c =
    let v : Contents = the_view c.self.inside in
    let inv = c.self.invariant in
    let hooks = c.self.inside.hooks.items in
    let s = c.args.s in
    let declared = hook_within v.decls s (subst (λ (u : Contents). is_some (ctx_of u.decls s) ≡ true) (sym c.self.view_is) c.requires.hook) in
    let size = inv.hooks_of_each in
    let within : s < length hooks = omega arith in
    record {
      ordered = inv.ordered;
      few = inv.few;
      contexts_of_each = inv.contexts_of_each;
      hooks_of_each = length-set hooks s HookState.Started ∙ inv.hooks_of_each;
      are_derived = inv.are_derived;
      are_children = inv.are_children;
      are_waiting = hook_leaves v.decls hooks c.self.inside.waiting inv.are_waiting s within HookState.Started refl refl;
      none_left = inv.none_left;
      room_left = inv.room_left;
      none_found = inv.none_found;
      room_found = inv.room_found;
      handed_out = inv.handed_out;
      room = room_stays hooks s HookState.Started _ _ within (omega arith) inv.room;
      room_ended = inv.room_ended;
    }
