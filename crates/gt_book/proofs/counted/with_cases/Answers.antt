use Rattle.std.proofs.Common.{[], refl}
use Rattle.gt_machine.specs.Machine.{state_of}
use Rattle.gt_book.proofs.Finding.{LooksOn, looks-first, looks-on, looks-last, looked-all}
use Rattle.gt_book.proofs.counted.with_cases.Goals as goal

pub loop-case-init : goal.loop-case-init
loop-case-init c = looks-first (state_of c.args.machine.now) c.args.found c.args.cases.now

pub loop-case-preserved : goal.loop-case-preserved
loop-case-preserved c =
    looks-on (state_of c.args.machine.now) c.args.found c.args.cases.now c.loop-case.least c.with_operation-least.result c.loop-case.case-index _ c.loop-case-test.true
    c.loop-case.invariant c.with_operation-least.ensures.not_later c.with_operation-least.ensures.still c.with_operation-least.ensures.shown

-- all cases were looked at
all : (c : goal.After-loop-case) → LooksOn (state_of c.args.machine.now) c.args.found c.args.cases.now c.loop-case.least []
all c = looks-last (state_of c.args.machine.now) c.args.found c.args.cases.now c.loop-case.least c.loop-case.case-index c.loop-case-test.false c.loop-case.invariant

pub returns-clause-not_later : goal.returns-clause-not_later
returns-clause-not_later c = looked-all (state_of c.args.machine.now) c.args.found c.args.cases.now c.loop-case.least (all c)

pub returns-clause-still : goal.returns-clause-still
returns-clause-still c = (all c).still

pub returns-clause-shown : goal.returns-clause-shown
returns-clause-shown c = (all c).shown c.loop-case.least refl
