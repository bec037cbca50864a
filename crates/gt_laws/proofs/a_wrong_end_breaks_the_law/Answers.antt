use Rattle.std.proofs.Common.{◌≡◌, ℕ, zero, suc, ◌<◌, [], ◌∷◌, Some, refl, arith, false, IsTrue}
use Rattle.gt_model.specs.declared.entry.Entry.{Entry}
use Rattle.gt_model.specs.declared.entry.Outcome.{Outcome}
use Rattle.gt_model.specs.declared.state.Ending.{Ending}
use Rattle.gt_model.specs.Script.{is_func}
use Rattle.gt_rules.specs.Ready.{is_due}
use Rattle.gt_laws.specs.Told.{clock_told, due_told, owner_told}
use Rattle.gt_laws.specs.Contexts.{ended_told, own_is_due}
use Rattle.gt_laws.specs.Ends.{EndsRightly}
use Rattle.gt_laws.specs.GoesOn.{IsStuckTold, goes_on_told}
use Rattle.gt_laws.specs.Broken.{one_sleep, two_calls, one_wait, waits_in_vain}
use Rattle.gt_laws.proofs.a_wrong_end_breaks_the_law.Goals as goal

pub returns-clause-given_up : goal.returns-clause-given_up
returns-clause-given_up c = λ limits h.
    let end : EndsRightly one_sleep limits (Entry.Sleep 1 (Some 9) ∷ []) (Entry.Finish Outcome.Deadlock) =
    h (Entry.Sleep 1 (Some 9) ∷ []) (Entry.Finish Outcome.Deadlock) [] refl in
    cc end.1.none_counted

pub returns-clause-exits_early : goal.returns-clause-exits_early
returns-clause-exits_early c = λ limits h.
    let end : Ending.Running ≡ Ending.MainEnded = h (Entry.Say 1 1 ∷ []) (Entry.Finish Outcome.Exit) [] refl in
    cc end

pub returns-clause-limit_early : goal.returns-clause-limit_early
returns-clause-limit_early c = λ limits some h.
    let full : 0 ≡ limits.entries = (h [] (Entry.Finish Outcome.Limit) [] refl).1 in
    let room : 0 < limits.entries = some in
    omega arith

pub returns-clause-after_the_end : goal.returns-clause-after_the_end
returns-clause-after_the_end c = λ limits h.
    let more : EndsRightly two_calls limits (Entry.Say 1 1 ∷ Entry.End 1 ∷ []) (Entry.Say 1 2) =
    h (Entry.Say 1 1 ∷ Entry.End 1 ∷ []) (Entry.Say 1 2) [] refl in
    cc more.0

pub returns-clause-time_after_the_end : goal.returns-clause-time_after_the_end
returns-clause-time_after_the_end c = λ limits h.
    let more : EndsRightly two_calls limits (Entry.End 1 ∷ []) (Entry.Clock 0 5) = h (Entry.End 1 ∷ []) (Entry.Clock 0 5) [] refl in
    cc more.0

nobody : (g : ℕ) → goes_on_told one_wait g waits_in_vain ≡ false
nobody zero = refl
nobody (suc zero) = refl
nobody (suc (suc g)) = refl

no-func : (t : ℕ) → IsTrue (is_func one_wait t) → is_due (due_told t waits_in_vain) (clock_told (owner_told one_wait t waits_in_vain) waits_in_vain) ≡ false
no-func zero func = cc
no-func (suc zero) func = cc
no-func (suc (suc t)) func = cc

no-deadline : (x : ℕ) → ended_told one_wait x waits_in_vain ≡ false → own_is_due one_wait x waits_in_vain ≡ false
no-deadline zero going = refl
no-deadline (suc zero) going = refl
no-deadline (suc (suc x)) going = refl

stuck : IsStuckTold one_wait waits_in_vain
stuck = record { still = record { nobody = nobody; no_func = no-func; no_deadline = no-deadline }; none_counted = refl }

pub returns-clause-stuck : goal.returns-clause-stuck
returns-clause-stuck c = stuck

pub returns-clause-in_vain : goal.returns-clause-in_vain
returns-clause-in_vain c = λ limits room h. cc (h waits_in_vain (Entry.Clock 0 9) [] refl (refl, room) stuck)
