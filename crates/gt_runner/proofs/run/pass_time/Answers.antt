use Rattle.std.proofs.Common.{◌≡◌, ◌<◌, ◌≤◌, ℕ, Option, Some, refl, sym, ap, subst, arith}
use Rattle.gt_model.specs.Times.{greatest_time}
use Rattle.gt_model.specs.Tables.{least}
use Rattle.gt_rules.specs.State.{clock}
use Rattle.gt_rules.specs.Counted.{counted}
use Rattle.gt_runner.specs.Serves.{IsIdleRun}
use Rattle.gt_runner.proofs.Cleanings.{FirstIs, head-first}
use Rattle.gt_runner.proofs.Timing.{settled-idle, empty-counted, empty-idle, no-first, Head, head-of, head-due, head-least, head-time, jump-passing, deadlock-passing, passing-same}
use Rattle.gt_runner.proofs.run.pass_time.Goals as goal

pub finish_deadlock-requires-clause-idle : goal.finish_deadlock-requires-clause-idle
finish_deadlock-requires-clause-idle c =
    let x1 = c.settle.new.run in
    let idle : IsIdleRun x1 = settled-idle c.args.run.now x1 c.requires.idle c.settle.ensures.tended c.settle.ensures.book in
    empty-idle x1 idle c.settle.ensures.clean (no-first x1.heap.slots (c.in-None.ensures.none.0 refl))

pub finish_deadlock-requires-clause-none_counted : goal.finish_deadlock-requires-clause-none_counted
finish_deadlock-requires-clause-none_counted c =
    let x1 = c.settle.new.run in
    let idle : IsIdleRun x1 = settled-idle c.args.run.now x1 c.requires.idle c.settle.ensures.tended c.settle.ensures.book in
    empty-counted x1 idle c.settle.ensures.clean (no-first x1.heap.slots (c.in-None.ensures.none.0 refl))

pub serve-requires-clause-idle : goal.serve-requires-clause-idle
serve-requires-clause-idle c = settled-idle c.args.run.now c.settle.new.run c.requires.idle c.settle.ensures.tended c.settle.ensures.book

pub serve-requires-clause-due : goal.serve-requires-clause-due
serve-requires-clause-due c =
    let x1 = c.settle.new.run in
    let f : FirstIs x1.heap.slots c.in-Some.key c.in-Some.id = head-first x1.heap.slots c.in-Some.key c.in-Some.id c.in-Some.ensures.first c.in-Some.ensures.with in
    let h : Head x1 c.in-Some.id c.in-Some.key = head-of x1 c.in-Some.id c.in-Some.key c.settle.ensures.tended c.settle.ensures.clean f in
    head-due x1 c.in-Some.id c.in-Some.key h (subst (λ n. c.in-Some.key ≤ n) c.clock_of.ensures c.if-key-clock_of.true)

pub jump-requires-clause-time : goal.jump-requires-clause-time
jump-requires-clause-time c =
    let x1 = c.settle.new.run in
    let idle : IsIdleRun x1 = settled-idle c.args.run.now x1 c.requires.idle c.settle.ensures.tended c.settle.ensures.book in
    let f : FirstIs x1.heap.slots c.in-Some.key c.in-Some.id = head-first x1.heap.slots c.in-Some.key c.in-Some.id c.in-Some.ensures.first c.in-Some.ensures.with in
    head-time x1 c.in-Some.id c.in-Some.key idle (head-of x1 c.in-Some.id c.in-Some.key c.settle.ensures.tended c.settle.ensures.clean f)

pub returns-in-None : goal.returns-in-None
returns-in-None c =
    let x1 = c.settle.new.run in
    deadlock-passing c.args.run.now x1 _ (settled-idle c.args.run.now x1 c.requires.idle c.settle.ensures.tended c.settle.ensures.book) c.settle.ensures.book c.finish_deadlock.ensures

pub returns-in-Some : goal.returns-in-Some
returns-in-Some c = passing-same c.args.run.now c.settle.new.run c.serve.new.run c.settle.ensures.book c.serve.ensures

same-key : (o : Option (ℕ × ℕ)) (a b : ℕ × ℕ) → o ≡ Some a → o ≡ Some b → a.0 ≡ b.0
same-key o a b e f = (let is : a ≡ b = cc in ap (λ (x : ℕ × ℕ). x.0) is)

pub returns-in-Some-2 : goal.returns-in-Some-2
returns-in-Some-2 c =
    let x1 = c.settle.new.run in
    let key = c.in-Some-2.key in
    let id = c.in-Some-2.field-0-1 in
    let idle : IsIdleRun x1 = settled-idle c.args.run.now x1 c.requires.idle c.settle.ensures.tended c.settle.ensures.book in
    let f : FirstIs x1.heap.slots key id = head-first x1.heap.slots key id c.in-Some-2.ensures.first c.in-Some-2.ensures.with in
    let h : Head x1 id key = head-of x1 id key c.settle.ensures.tended c.settle.ensures.clean f in
    let same : c.in-Some.key ≡ key = same-key c.head.result (c.in-Some.key, c.in-Some.id) (key, id) c.in-Some.is c.in-Some-2.is in
    let late : c.clock_of.result < c.in-Some.key = c.if-key-clock_of.false in
    let now : c.clock_of.result ≡ clock x1.book.state 0 = c.clock_of.ensures in
    let later : clock x1.book.state 0 < c.in-Some.key = omega arith in
    let least_is : least (counted x1.book.script x1.book.state 0) ≡ Some c.in-Some.key =
    subst (λ k. least (counted x1.book.script x1.book.state 0) ≡ Some k) (sym same) (head-least x1 id key idle c.settle.ensures.clean f c.in-Some-2.ensures.least h) in
    let most : c.in-Some.key ≤ greatest_time = subst (λ k. k ≤ greatest_time) (sym same) (head-time x1 id key idle h) in
    jump-passing c.args.run.now x1 _ id c.in-Some.key idle c.settle.ensures.book least_is later most c.jump.ensures refl refl refl
