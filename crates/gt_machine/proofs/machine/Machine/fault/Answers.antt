use Rattle.std.proofs.Common.{◌≡◌, Some, None, sym, ap, ◌∙◌}
use Rattle.gt_machine.specs.Machine.{state_of, first_fault}
use Rattle.gt_machine.proofs.Faults.{fault-found, no-fault}
use Rattle.gt_machine.proofs.machine.Machine.fault.Goals as goal

pub returns-in-Some : goal.returns-in-Some
returns-in-Some c =
    let s = state_of c.args.self.now in
    let found : first_fault s 0 c.in-Select.cases ≡ Some (c.in-Some.field-0-0, c.in-Some.reason) = ap (first_fault s 0) (sym c.as_slice.ensures) ∙ (sym c.faulty_case.ensures ∙ c.in-Some.is) in
    rw c.in-Select.is (sym (fault-found s 0 c.in-Select.cases c.in-Some.field-0-0 c.in-Some.reason found).why)

pub returns-in-None : goal.returns-in-None
returns-in-None c =
    let s = state_of c.args.self.now in
    let none : first_fault s 0 c.in-Select.cases ≡ None = ap (first_fault s 0) (sym c.as_slice.ensures) ∙ (sym c.faulty_case.ensures ∙ c.in-None.is) in
    rw c.in-Select.is (sym (no-fault s 0 c.in-Select.cases none))
