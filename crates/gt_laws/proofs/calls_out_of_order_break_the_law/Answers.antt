use Rattle.std.proofs.Common.{◌≡◌, ℕ, [], ◌∷◌, arith, None, Some, true, false, refl, sym, subst}
use Rattle.gt_model.specs.declared.script.CaseKind.{CaseKind}
use Rattle.gt_model.specs.declared.script.Instr.{Instr}
use Rattle.gt_model.specs.declared.entry.Entry.{Entry}
use Rattle.gt_rules.specs.Legal.{sleep_end}
use Rattle.gt_laws.specs.Laws.{InOrder}
use Rattle.gt_laws.specs.Told.{awake, signalled, suspended}
use Rattle.gt_laws.specs.Broken.{case_taken, hook_started, is_woken, one_sleep, one_start, value_waits}
use Rattle.gt_laws.proofs.calls_out_of_order_break_the_law.Goals as goal

pub returns-clause-swapped : goal.returns-clause-swapped
returns-clause-swapped c = λ h. cc (h [] (Entry.Say 1 2) (Entry.Say 1 1 ∷ Entry.End 1 ∷ []) refl)

pub returns-clause-twice : goal.returns-clause-twice
returns-clause-twice c = λ h. cc (h (Entry.Say 1 1 ∷ []) (Entry.Say 1 1) (Entry.End 1 ∷ []) refl)

pub returns-clause-left_out : goal.returns-clause-left_out
returns-clause-left_out c = λ h. cc (h (Entry.Say 1 1 ∷ []) (Entry.End 1) [] refl)

pub returns-clause-asleep_twice : goal.returns-clause-asleep_twice
returns-clause-asleep_twice c = λ h.
    let again : InOrder one_sleep (Entry.Sleep 1 (Some 9) ∷ []) (Entry.Sleep 1 (Some 9)) = h (Entry.Sleep 1 (Some 9) ∷ []) (Entry.Sleep 1 (Some 9)) [] refl in
    let awake : None ≡ Some (Instr.Sleep again.0) = again.1 in
    cc awake

pub returns-clause-cut_short : goal.returns-clause-cut_short
returns-clause-cut_short c = λ h.
    let short : InOrder one_sleep [] (Entry.Sleep 1 (Some 4)) = h [] (Entry.Sleep 1 (Some 4)) (Entry.Clock 0 4 ∷ Entry.Wake 1 ∷ []) refl in
    let called : Some (Instr.Sleep 9) ≡ Some (Instr.Sleep short.0) = short.1 in
    let length : 9 ≡ short.0 = cc in
    let until : Some 4 ≡ sleep_end 0 9 = subst (λ (d : ℕ). Some 4 ≡ sleep_end 0 d) (sym length) short.2 in
    cc until

pub returns-clause-number_twice : goal.returns-clause-number_twice
returns-clause-number_twice c = λ h.
    let start : InOrder one_start [] (Entry.Go 1 1 0) = h [] (Entry.Go 1 1 0) (Entry.Go 1 2 0 ∷ Entry.End 1 ∷ []) refl in
    cc start.1

pub returns-clause-wakes_awake : goal.returns-clause-wakes_awake
returns-clause-wakes_awake c = λ h.
    let sleeps : false ≡ true = h [] (Entry.Wake 1) [] refl in
    cc sleeps

pub returns-clause-other_body : goal.returns-clause-other_body
returns-clause-other_body c = λ h.
    let body : Some (Instr.Say 1) ≡ Some (Instr.Say 2) = h case_taken (Entry.Say 1 2) [] refl in
    cc body

pub returns-clause-other_case : goal.returns-clause-other_case
returns-clause-other_case c = λ h.
    let none : None ≡ Some (CaseKind.Recv 1) = (h value_waits (Entry.Recv (record { g = 1; case_no = 0 }) 1 (Some 7)) [] refl).0 in
    cc none

pub returns-clause-wakes_unsignalled : goal.returns-clause-wakes_unsignalled
returns-clause-wakes_unsignalled c = λ h.
    let waits : suspended 2 ≡ signalled 2 = h (Entry.Go 1 2 1 ∷ Entry.Lock 1 1 ∷ Entry.CondWait 1 2 ∷ []) (Entry.CondWake 1 2) [] refl in
    cc waits

pub returns-clause-wakes_twice : goal.returns-clause-wakes_twice
returns-clause-wakes_twice c = λ h.
    let wakes : awake ≡ signalled 2 = h is_woken (Entry.CondWake 1 2) [] refl in
    cc wakes

pub returns-clause-number_of_a_hook : goal.returns-clause-number_of_a_hook
returns-clause-number_of_a_hook c = λ h.
    let next : ◌≡◌ {A = ℕ} 2 3 = (h hook_started (Entry.Go 1 2 1) [] refl).1 in
    omega arith
