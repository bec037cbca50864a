use Rattle.std.proofs.Common.{rules, ◌≡◌, ◌≤◌, Some, length, subst, sym}
use Rattle.gt_model.specs.Good.{most_cases}
use Rattle.gt_rules.specs.State as at
use Rattle.gt_machine.specs.Machine.{state_of, HasFewCases}
use Rattle.gt_machine.proofs.Faults.{few-cases}
use Rattle.gt_book.proofs.channels.woken_by.Goals as goal

pub first_alone-requires : goal.first_alone-requires
first_alone-requires c =
    let stands : at.stands_at c.args.script.now (state_of c.args.machine.now) c.args.p.g ≡ Some c.in_ok-o.field-0.now = search rules in
    let few : HasFewCases c.in_ok-o.field-0.now = few-cases c.args.script.now (state_of c.args.machine.now) c.args.p.g c.in_ok-o.field-0.now c.requires stands in
    let most : length c.in-Select.cases ≤ most_cases = subst HasFewCases c.in-Select.is few in
    subst (λ xs. length xs ≤ 16) (sym c.as_slice.ensures) most
