use Rattle.std.proofs.Common.{◌≡◌, ◌≤◌, ◌<◌, ◌+◌, ℕ, length, Some, None, sym, ap, subst, ◌∙◌, arith}
use Rattle.std.specs.Prelude.{Option}
use Rattle.gt_model.specs.declared.script.Instr.{Instr}
use Rattle.gt_rules.specs.Panics.{fault_at}
use Rattle.gt_model.specs.Good.{most_cases}
use Rattle.gt_model.specs.declared.entry.Reason.{Reason}
use Rattle.gt_machine.specs.Machine.{state_of, first_fault, HasFewCases}
use Rattle.gt_machine.proofs.Faults.{IsFirst, fault-found, choice-found, choice-none, plain-fault}
use Rattle.gt_machine.proofs.machine.Machine.fault_at.Goals as goal

-- the faulty case that was found is the first one
found : (c : goal.After-row_known-1) → IsFirst (state_of c.args.self.now) 0 c.in-Select.cases c.in-Some.k c.in-Some.reason
found c =
    let s = state_of c.args.self.now in
    fault-found s 0 c.in-Select.cases c.in-Some.k c.in-Some.reason (ap (first_fault s 0) (sym c.as_slice.ensures) ∙ (sym c.faulty_case.ensures ∙ c.in-Some.is))

few : (c : goal.After-row_known-1) → c.in-Some.k < 16
few c =
    let most : length c.in-Select.cases ≤ most_cases = subst HasFewCases c.in-Select.is c.requires in
    let within : c.in-Some.k < 0 + length c.in-Select.cases = (found c).within in
    omega arith

pub overflow_cast-result : goal.overflow_cast-result
overflow_cast-result c = let small : c.in-Some.k < 16 = few c in omega arith

pub overflow_add-result : goal.overflow_add-result
overflow_add-result c = let small : c.in-Some.k < 16 = few c in omega arith

pub returns-in-Some : goal.returns-in-Some
returns-in-Some c =
    let script = c.args.script.now in
    let s = state_of c.args.self.now in
    subst (λ (i : Instr). Some (c.in-Some.k + 1, c.in-Some.reason) ≡ fault_at script s i) (sym c.in-Select.is)
    (choice-found script s c.in-Select.cases c.in-Select.default_to c.in-Some.k c.in-Some.reason (found c))

pub returns-in-None : goal.returns-in-None
returns-in-None c =
    let script = c.args.script.now in
    let s = state_of c.args.self.now in
    let none : first_fault s 0 c.in-Select.cases ≡ None = ap (first_fault s 0) (sym c.as_slice.ensures) ∙ (sym c.faulty_case.ensures ∙ c.in-None.is) in
    subst (λ (i : Instr). None ≡ fault_at script s i) (sym c.in-Select.is) (choice-none script s c.in-Select.cases c.in-Select.default_to none)

pub returns-in-Some-fault : goal.returns-in-Some-fault
returns-in-Some-fault c =
    let script = c.args.script.now in
    sym (plain-fault script (state_of c.args.self.now) c.args.i.now c.in_default.not-Select
    ∙ ap (λ (o : Option Reason). elim o as (λ o. Option (ℕ × Reason)) [ None ↦ None | Some reason ↦ Some (0, reason) ]) (sym c.fault.ensures ∙ c.in-Some-fault.is))

pub returns-in-None-fault : goal.returns-in-None-fault
returns-in-None-fault c =
    let script = c.args.script.now in
    sym (plain-fault script (state_of c.args.self.now) c.args.i.now c.in_default.not-Select
    ∙ ap (λ (o : Option Reason). elim o as (λ o. Option (ℕ × Reason)) [ None ↦ None | Some reason ↦ Some (0, reason) ]) (sym c.fault.ensures ∙ c.in-None-fault.is))
