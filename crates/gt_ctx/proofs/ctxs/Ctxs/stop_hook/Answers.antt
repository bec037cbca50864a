use Rattle.std.proofs.Common.{◌≡◌, ◌≤◌, ◌∙◌, true, sym, ap, refl}
use Rattle.std.proofs.lemmas.List.{length-set}
use Rattle.gt_model.specs.declared.context.HookState.{HookState}
use Rattle.gt_ctx.specs.Contents.{hook_at}
use Rattle.gt_rules.specs.Contexts.{is_waiting_hook}
use Rattle.gt_ctx.specs.Kept.{unstarted}
use Rattle.gt_ctx.proofs.Trees.{hook_leaves, room_stays, waiting_within, waits_unstarted}
use Rattle.gt_ctx.proofs.ctxs.Ctxs.stop_hook.Goals as goal

pub invariant_of-self : goal.invariant_of-self
invariant_of-self c =
    let inv = c.self.invariant in
    let hooks = c.self.inside.hooks.items in
    let s = c.args.s in
    let waits : is_waiting_hook (hook_at hooks s) ≡ true = ap (λ hs. is_waiting_hook (hook_at hs s)) (sym c.as_slice.ensures.value) ∙ sym c.waits-waits.ensures ∙ c.if-waits.true in
    let within = waiting_within hooks s waits in
    let one : 1 ≤ unstarted (hook_at hooks s) = waits_unstarted (hook_at hooks s) waits in
    record {
      ordered = inv.ordered;
      few = inv.few;
      contexts_of_each = inv.contexts_of_each;
      hooks_of_each = length-set hooks s HookState.Stopped ∙ inv.hooks_of_each;
      are_derived = inv.are_derived;
      are_children = inv.are_children;
      are_waiting = hook_leaves c.self.inside.decls.items hooks c.self.inside.waiting inv.are_waiting s within HookState.Stopped refl refl;
      none_left = inv.none_left;
      room_left = inv.room_left;
      none_found = inv.none_found;
      room_found = inv.room_found;
      handed_out = inv.handed_out;
      room = room_stays hooks s HookState.Stopped _ _ within one inv.room;
      room_ended = inv.room_ended;
    }
