use Rattle.std.proofs.Common.{◌≡◌, ℕ, List, [], ◌∷◌, arith, None, Some, true, false, refl, sym, subst}
use Rattle.gt_model.specs.declared.script.CaseKind.{CaseKind}
use Rattle.gt_model.specs.declared.script.Instr.{Instr}
use Rattle.gt_model.specs.declared.entry.Entry.{Entry}
use Rattle.gt_model.specs.declared.entry.Reason.{Reason}
use Rattle.gt_laws.specs.GoesOn.{misuse_told}
use Rattle.gt_laws.specs.Laws.{IsMisuse, UsesRightly}
use Rattle.gt_laws.specs.Broken.{two_calls, one_stop, one_unmade, two_polls, hook_stopped}
use Rattle.gt_laws.proofs.a_misuse_without_a_panic_breaks_the_law.Goals as goal

pub returns-clause-made_twice : goal.returns-clause-made_twice
returns-clause-made_twice c = λ h.
    let was : true ≡ false = (h (Entry.New 1 0 5 ∷ []) (Entry.New 1 0 5) [] refl).0 in
    cc was

pub returns-clause-unmade : goal.returns-clause-unmade
returns-clause-unmade c = λ h.
    let was : false ≡ true = h [] (Entry.Stop 1 1 (Some false)) [] refl in
    cc was

pub returns-clause-without_a_period : goal.returns-clause-without_a_period
returns-clause-without_a_period c = λ h.
    let misuse : Some Reason.Ticker ≡ None = (h [] (Entry.New 1 0 0) [] refl).1 in
    cc misuse

pub returns-clause-for_nothing : goal.returns-clause-for_nothing
returns-clause-for_nothing c = λ h.
    let panic : UsesRightly two_calls [] (Entry.Panic (record { g = 1; case_no = 0 }) Reason.Unmade) =
    h [] (Entry.Panic (record { g = 1; case_no = 0 }) Reason.Unmade) [] refl in
    let stands : Some (Instr.Say 1) ≡ Some panic.0 = panic.1 in
    let at : Instr.Say 1 ≡ panic.0 = cc in
    subst (λ (i : Instr). IsMisuse [] i 0 Reason.Unmade (misuse_told two_calls [] i)) (sym at) panic.2

pub returns-clause-for_another_reason : goal.returns-clause-for_another_reason
returns-clause-for_another_reason c = λ h.
    let panic : UsesRightly one_stop [] (Entry.Panic (record { g = 1; case_no = 0 }) Reason.Twice) =
    h [] (Entry.Panic (record { g = 1; case_no = 0 }) Reason.Twice) [] refl in
    let stands : Some (Instr.Stop 1) ≡ Some panic.0 = panic.1 in
    let at : Instr.Stop 1 ≡ panic.0 = cc in
    let misuse : IsMisuse [] (Instr.Stop 1) 0 Reason.Twice (Some Reason.Unmade) = subst (λ (i : Instr). IsMisuse [] i 0 Reason.Twice (misuse_told one_stop [] i)) (sym at) panic.2 in
    cc misuse.0

pub returns-clause-beside_a_misuse : goal.returns-clause-beside_a_misuse
returns-clause-beside_a_misuse c = λ h.
    let misuse : Some Reason.Unmade ≡ None = (h (Entry.Make 1 1 ∷ []) (Entry.Send (record { g = 1; case_no = 1 }) 1 7) [] refl).2 in
    cc misuse

pub returns-clause-for_another_case : goal.returns-clause-for_another_case
returns-clause-for_another_case c = λ h.
    let front : List Entry = Entry.Make 1 1 ∷ [] in
    let panic : UsesRightly one_unmade front (Entry.Panic (record { g = 1; case_no = 1 }) Reason.Unmade) =
    h front (Entry.Panic (record { g = 1; case_no = 1 }) Reason.Unmade) [] refl in
    let choice : Instr = Instr.Select ((record { kind = CaseKind.Send 1 7; to = 2 }) ∷ (record { kind = CaseKind.Recv 2; to = 3 }) ∷ []) None in
    let same : Some choice ≡ Some panic.0 = panic.1 in
    let at : choice ≡ panic.0 = cc in
    let other : ◌≡◌ {A = ℕ} 1 2 = (subst (λ (i : Instr). IsMisuse front i 1 Reason.Unmade (misuse_told one_unmade front i)) (sym at) panic.2).1 in
    omega arith

pub returns-clause-for_no_close : goal.returns-clause-for_no_close
returns-clause-for_no_close c = λ h.
    let front : List Entry = Entry.Make 1 1 ∷ Entry.Go 1 2 1 ∷ [] in
    let panic : UsesRightly two_polls front (Entry.Panic (record { g = 2; case_no = 1 }) Reason.Closed) =
    h front (Entry.Panic (record { g = 2; case_no = 1 }) Reason.Closed) [] refl in
    let choice : Instr = Instr.Select ((record { kind = CaseKind.Send 1 1; to = 1 }) ∷ []) (Some 2) in
    let same : Some choice ≡ Some panic.0 = panic.1 in
    let at : choice ≡ panic.0 = cc in
    let closed : false ≡ true = (subst (λ (i : Instr). IsMisuse front i 1 Reason.Closed (misuse_told two_polls front i)) (sym at) panic.2).0 in
    cc closed

pub returns-clause-without_a_lock : goal.returns-clause-without_a_lock
returns-clause-without_a_lock c = λ h.
    let held : false ≡ true = h (Entry.Go 1 2 1 ∷ []) (Entry.CondWait 1 2) [] refl in
    cc held

pub returns-clause-context_twice : goal.returns-clause-context_twice
returns-clause-context_twice c = λ h.
    let was : true ≡ false = (h (Entry.CtxMake 1 0 false ∷ []) (Entry.CtxMake 1 0 false) [] refl).0 in
    cc was

pub returns-clause-made_above : goal.returns-clause-made_above
returns-clause-made_above c = λ h.
    let was : false ≡ true = (h [] (Entry.CtxMake 1 1 false) [] refl).1 in
    cc was

pub returns-clause-registered_again : goal.returns-clause-registered_again
returns-clause-registered_again c = λ h.
    let was : true ≡ false = (h hook_stopped (Entry.CtxAfter 1 1 None) [] refl).0 in
    cc was

pub returns-clause-stopped_unregistered : goal.returns-clause-stopped_unregistered
returns-clause-stopped_unregistered c = λ h.
    let was : false ≡ true = h (Entry.CtxMake 1 0 false ∷ []) (Entry.CtxStop 1 1 false) [] refl in
    cc was
