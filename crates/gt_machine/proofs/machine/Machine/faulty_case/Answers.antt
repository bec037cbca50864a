use Rattle.std.proofs.Common.{refl, sym, ◌∙◌}
use Rattle.gt_machine.specs.Machine.{state_of}
use Rattle.gt_machine.proofs.Faults.{passes-by, stops-at, nothing-behind}
use Rattle.gt_machine.proofs.machine.Machine.faulty_case.Goals as goal

pub loop-k-init : goal.loop-k-init
loop-k-init c = refl

pub returns-in-Some : goal.returns-in-Some
returns-in-Some c =
    sym (c.loop-k.invariant
    ∙ stops-at (state_of c.args.self.now) c.loop-k.k c.loop-k.k c.args.cases.now _ c.in-Some.reason c.loop-k-test.true (sym c.case_fault.ensures ∙ c.in-Some.is))

pub loop-k-preserved : goal.loop-k-preserved
loop-k-preserved c =
    c.loop-k.invariant ∙ passes-by (state_of c.args.self.now) c.loop-k.k c.loop-k.k c.args.cases.now _ c.loop-k-test.true (sym c.case_fault.ensures ∙ c.in_default.is)

pub returns : goal.returns
returns c =
    sym (c.loop-k.invariant ∙ nothing-behind (state_of c.args.self.now) c.loop-k.k c.loop-k.k c.args.cases.now c.loop-k-test.false)
