use Rattle.std.proofs.Common.{◌≡◌, ℕ, ◌+◌, ◌-◌, ◌<◌, suc, length, refl, sym, subst, ◌∙◌, arith, None, Some}
use Rattle.gt_rules.specs.Places as places
use Rattle.gt_facts.proofs.Landing.{stops, steps}
use Rattle.gt_machine.proofs.places.walked.Goals as goal

pub loop-init : goal.loop-init
loop-init c = λ k e.
    let all : k ≡ length c.args.code.now + length c.args.code.now = omega arith in
    subst (λ m. places.go_on m c.args.code.now c.args.place ≡ places.settled_in c.args.code.now c.args.place) (sym all) (refl)

pub returns-in-None : goal.returns-in-None
returns-in-None c =
    let n : ℕ = length c.args.code.now + length c.args.code.now in
    let none : places.silent_at c.args.code.now c.loop.here ≡ None = sym c.silent_at.ensures ∙ c.in-None.is in
    let before : c.loop.counter < n = c.loop-test.true in
    sym (stops (n - c.loop.counter) c.args.code.now c.loop.here none) ∙ c.loop.invariant (n - c.loop.counter) (omega arith)

pub loop-preserved : goal.loop-preserved
loop-preserved c = λ k e.
    let some : places.silent_at c.args.code.now c.loop.here ≡ Some c.in-Some.next = sym c.silent_at.ensures ∙ c.in-Some.is in
    sym (steps k c.args.code.now c.loop.here c.in-Some.next some) ∙ c.loop.invariant (suc k) (omega arith)

pub returns : goal.returns
returns c = c.loop.invariant 0 (omega arith)
