use Rattle.std.proofs.Common.{rules, ◌≡◌, ◌<◌, ◌∙◌, ap, sym, refl, length, arith}
use Rattle.gt_ctx.specs.Contents.{Contents, hook_at}
use Rattle.gt_ctx.specs.Kept.{unregistered}
use Rattle.gt_ctx.proofs.Cuts.{declared_still, registered_still, is_registered, is_unregistered, stopped_other}
use Rattle.gt_leaf_tests.proofs.ctx.hooks_start_once.Goals as goal

-- a hook that was started was registered
pub stop_hook-requires-2 : goal.stop_hook-requires-2
stop_hook-requires-2 g c =
    let all : length c.stop_hook.new.self.decls ≡ 6 = search rules in
    let same : length c.cancel.new.self.decls ≡ length c.stop_hook.new.self.decls = ap length (declared_still c.stop_hook.new.self c.cancel.new.self 0 _ c.cancel.ensures.after) in
    let registered : unregistered (hook_at c.stop_hook.new.self.hooks 1) ≡ 0 = search rules in
    let handed : c.take_started-3.new.self.hooks ≡ c.cancel-2.new.self.hooks =
    ap (λ (t : Contents). t.hooks) c.take_started-3.ensures.after ∙ ap (λ (t : Contents). t.hooks) c.take_started-2.ensures.after ∙ ap (λ (t : Contents). t.hooks) c.take_started.ensures.after in
    is_registered (hook_at c.take_started-3.new.self.hooks 1)
    (ap (λ hs. unregistered (hook_at hs 1)) handed
    ∙ registered_still c.cancel.new.self c.cancel-2.new.self 0 _ c.cancel-2.ensures.after 1 (omega arith)
    ∙ registered_still c.stop_hook.new.self c.cancel.new.self 0 _ c.cancel.ensures.after 1 (omega arith)
    ∙ registered)

pub after-requires-4-clause-unregistered : goal.after-requires-4-clause-unregistered
after-requires-4-clause-unregistered g c =
    let all : length c.stop_hook.new.self.decls ≡ 6 = search rules in
    let same : length c.cancel.new.self.decls ≡ length c.stop_hook.new.self.decls = ap length (declared_still c.stop_hook.new.self c.cancel.new.self 0 _ c.cancel.ensures.after) in
    let fresh : unregistered (hook_at c.stop_hook.new.self.hooks 5) ≡ 1 = search rules in
    let handed : c.take_started-3.new.self.hooks ≡ c.cancel-2.new.self.hooks =
    ap (λ (t : Contents). t.hooks) c.take_started-3.ensures.after ∙ ap (λ (t : Contents). t.hooks) c.take_started-2.ensures.after ∙ ap (λ (t : Contents). t.hooks) c.take_started.ensures.after in
    let before : unregistered (hook_at c.take_started-3.new.self.hooks 5) ≡ 1 =
    ap (λ hs. unregistered (hook_at hs 5)) handed
    ∙ registered_still c.cancel.new.self c.cancel-2.new.self 0 _ c.cancel-2.ensures.after 5 (omega arith)
    ∙ registered_still c.stop_hook.new.self c.cancel.new.self 0 _ c.cancel.ensures.after 5 (omega arith)
    ∙ fresh in
    is_unregistered (hook_at c.stop_hook-2.new.self.hooks 5) (ap (λ (t : Contents). unregistered (hook_at t.hooks 5)) c.stop_hook-2.ensures.after ∙ stopped_other c.take_started-3.new.self 1 5 (λ e. absurd (omega arith)) ∙ before)
