use Rattle.std.proofs.Common.{rules, refl, sym, ◌∙◌, ◌≡◌, Some, None}
use Rattle.gt_rules.specs.State as at
use Rattle.gt_rules.specs.Panics.{fault}
use Rattle.gt_machine.specs.Machine.{state_of}
use Rattle.gt_machine.proofs.Faults.{few-cases}
use Rattle.gt_facts.proofs.Lookups.{Standing, standing, names-instr_at}
use Rattle.gt_book.proofs.Choosing.{IsFault, fault-is, fault-none}
use Rattle.gt_book.proofs.step.next_step.Goals as goal

pub returns-in-Some : goal.returns-in-Some
returns-in-Some c =
    let script = c.args.script.now in
    let s = state_of c.args.machine.now in
    let stands : at.stands_at script s c.args.g ≡ Some c.in_ok-instr.instr.now = search rules in
    let found : IsFault script s c.in_ok-instr.instr.now c.in-Some.case_no c.in-Some.reason =
    fault-is script s c.in_ok-instr.instr.now c.in-Some.case_no c.in-Some.reason (sym c.fault_at.ensures ∙ c.in-Some.is) in
    rw (stands, found.why, found.number) refl

pub returns-in-None : goal.returns-in-None
returns-in-None c =
    let script = c.args.script.now in
    let s = state_of c.args.machine.now in
    let stands : at.stands_at script s c.args.g ≡ Some c.in_ok-instr.instr.now = search rules in
    let faultless : fault script s c.in_ok-instr.instr.now ≡ None = fault-none script s c.in_ok-instr.instr.now (sym c.fault_at.ensures ∙ c.in-None.is) in
    rw (stands, faultless, c.step_of_instr.ensures) refl

pub step_of_instr-requires-clause-names : goal.step_of_instr-requires-clause-names
step_of_instr-requires-clause-names c =
    let stands : at.stands_at c.args.script.now (state_of c.args.machine.now) c.args.g ≡ Some c.in_ok-instr.instr.now = search rules in
    let here : Standing c.args.script.now (state_of c.args.machine.now) c.args.g c.in_ok-instr.instr.now =
    standing c.args.script.now (state_of c.args.machine.now) c.args.g c.in_ok-instr.instr.now stands in
    names-instr_at c.args.script.now here.who.place c.in_ok-instr.instr.now c.requires.good here.on

pub fault_at-requires : goal.fault_at-requires
fault_at-requires c =
    let stands : at.stands_at c.args.script.now (state_of c.args.machine.now) c.args.g ≡ Some c.in_ok-instr.instr.now = search rules in
    few-cases c.args.script.now (state_of c.args.machine.now) c.args.g c.in_ok-instr.instr.now c.requires.good stands
