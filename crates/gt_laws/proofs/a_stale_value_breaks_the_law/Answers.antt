use Rattle.std.proofs.Common.{◌≡◌, ◌+◌, ◌*◌, ◌-◌, ◌≤◌, min, arith, true, false, [], ◌∷◌, None, Some, refl}
use Rattle.gt_model.specs.declared.entry.Entry.{Entry}
use Rattle.gt_rules.specs.Legal.{IsNextTick}
use Rattle.gt_laws.specs.Broken.{set_again, slept_over}
use Rattle.gt_laws.proofs.a_stale_value_breaks_the_law.Goals as goal

pub returns-clause-stale : goal.returns-clause-stale
returns-clause-stale c = λ h.
    let stale : Some 15 ≡ Some 1 =
    (h set_again (Entry.TRecv (record { g = 1; case_no = 0 }) 0 1 None) [] refl).0 in
    cc stale

pub returns-clause-denied : goal.returns-clause-denied
returns-clause-denied c = λ h.
    let denied : Some false ≡ Some true =
    h (Entry.New 1 0 1 ∷ Entry.Sleep 1 (Some 5) ∷ Entry.Clock 0 5 ∷ Entry.Wake 1 ∷ []) (Entry.Stop 1 0 (Some false)) [] refl in
    cc denied

pub returns-clause-fires_stopped : goal.returns-clause-fires_stopped
returns-clause-fires_stopped c = λ h.
    let due : false ≡ true = h (Entry.New 1 0 5 ∷ Entry.Stop 1 0 (Some true) ∷ Entry.Clock 0 5 ∷ []) (Entry.FireFunc 0 2) [] refl in
    cc due

-- 45 is no whole number of periods behind 10
pub returns-clause-off_tick : goal.returns-clause-off_tick
returns-clause-off_tick c = λ h.
    let tick : IsNextTick 35 10 10 45 = (h slept_over (Entry.TRecv (record { g = 1; case_no = 0 }) 0 10 (Some 45)) [] refl).1 in
    let is : 45 ≡ min 9223372036854775807 (10 + tick.ticks * 10) = tick.is in
    absurd (omega arith)

-- the tick before 50 has not begun at 35
pub returns-clause-far_tick : goal.returns-clause-far_tick
returns-clause-far_tick c = λ h.
    let tick : IsNextTick 35 10 10 50 = (h slept_over (Entry.TRecv (record { g = 1; case_no = 0 }) 0 10 (Some 50)) [] refl).1 in
    let is : 50 ≡ min 9223372036854775807 (10 + tick.ticks * 10) = tick.is in
    let begun : 10 + (tick.ticks - 1) * 10 ≤ 35 = tick.begun in
    absurd (omega arith)

pub returns-clause-ticker_answers : goal.returns-clause-ticker_answers
returns-clause-ticker_answers c = λ h.
    let answer : Some true ≡ None = h (Entry.New 1 0 10 ∷ []) (Entry.Stop 1 0 (Some true)) [] refl in
    cc answer
