use Rattle.std.proofs.Common.{◌≡◌, ℕ, [], ◌∷◌, None, Some, refl, arith, true, false}
use Rattle.gt_model.specs.declared.context.HookState.{HookState}
use Rattle.gt_model.specs.declared.entry.Entry.{Entry}
use Rattle.gt_rules.specs.Contexts.{line_of}
use Rattle.gt_laws.specs.Broken.{hook_started, hook_stopped, hook_waits}
use Rattle.gt_laws.proofs.a_hook_that_starts_twice_breaks_the_law.Goals as goal

pub returns-clause-starts_stopped : goal.returns-clause-starts_stopped
returns-clause-starts_stopped c = λ h.
    let same : ◌≡◌ {A = ℕ} 1 0 = h hook_stopped (Entry.Cancel 1 0 true 1) [] refl in
    omega arith

pub returns-clause-hook_left_out : goal.returns-clause-hook_left_out
unfolding line_of
returns-clause-hook_left_out c = λ h.
    let same : ◌≡◌ {A = ℕ} 0 1 = h hook_waits (Entry.Cancel 1 0 true 0) [] refl in
    omega arith

pub returns-clause-stop_denied : goal.returns-clause-stop_denied
returns-clause-stop_denied c = λ h.
    let same : false ≡ true = h hook_waits (Entry.CtxStop 1 1 false) [] refl in
    cc same

pub returns-clause-starts_again : goal.returns-clause-starts_again
returns-clause-starts_again c = λ h.
    let same : ◌≡◌ {A = ℕ} 1 0 = h hook_started (Entry.Cancel 1 0 false 1) [] refl in
    omega arith

pub returns-clause-stopped_late : goal.returns-clause-stopped_late
unfolding line_of
returns-clause-stopped_late c = λ h.
    let same : true ≡ false = h hook_started (Entry.CtxStop 1 1 true) [] refl in
    cc same

pub returns-clause-starts_early : goal.returns-clause-starts_early
returns-clause-starts_early c = λ h.
    let same : true ≡ false = h (Entry.CtxMake 1 0 false ∷ []) (Entry.CtxAfter 1 1 (Some 2)) [] refl in
    cc same

pub returns-clause-waits_late : goal.returns-clause-waits_late
unfolding line_of
returns-clause-waits_late c = λ h.
    let same : false ≡ true = h (Entry.CtxMake 1 0 false ∷ Entry.Cancel 1 0 true 0 ∷ []) (Entry.CtxAfter 1 1 None) [] refl in
    cc same

pub returns-clause-registered_again : goal.returns-clause-registered_again
returns-clause-registered_again c = λ h.
    let same : HookState.Waiting ≡ HookState.Stopped = h hook_stopped (Entry.CtxAfter 1 1 None) [] refl 1 refl in
    cc same
