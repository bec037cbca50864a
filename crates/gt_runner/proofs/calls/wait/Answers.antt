use Rattle.std.proofs.Common.{◌≡◌, ℕ, suc, ◌+◌, ◌<◌, slice_get, sym, ap, subst, ◌∙◌, arith, None, Some}
use Rattle.gt_model.specs.Good.{OperatesRightly}
use Rattle.gt_book.specs.Steps.{timer_of}
use Rattle.gt_runner.specs.Served.{operations_of}
use Rattle.gt_runner.specs.Calls.{IsCounted, HasReceived, Enrols}
use Rattle.gt_runner.proofs.Counting.{Counts, counts-first, counts-operation, counts-names, counts-below, counts-skips, counts-enrolled, counts-one, counts-received, counts-all}
use Rattle.gt_runner.proofs.calls.wait.Goals as goal
use Rattle.gt_runner.proofs.calls.wait.Goals.{in-Some-timer_of+else-not-block, in_default-timer_of}

pub loop-kind-init : goal.loop-kind-init
loop-kind-init c = counts-first c.args.run.now c.args.ticket c.requires.uncounted

pub timer_of-requires : goal.timer_of-requires
timer_of-requires c =
    let x = c.loop-kind.run in
    let inv = c.loop-kind.invariant in
    let op : slice_get (operations_of inv.instr) c.loop-kind.k ≡ Some c.in-Some.kind =
    counts-operation c.args.run.now x c.args.ticket c.loop-kind.k inv c.instr_of.result.now (Some c.in-Some.kind) c.instr_of.ensures c.in-Some.ensures in
    subst (λ s. OperatesRightly s c.in-Some.kind) (sym c.script.ensures) (counts-names c.args.run.now x c.args.ticket c.loop-kind.k inv c.in-Some.kind op)

pub block-requires : goal.block-requires
block-requires c =
    let x = c.loop-kind.run in
    let inv = c.loop-kind.invariant in
    let op : slice_get (operations_of inv.instr) c.loop-kind.k ≡ Some c.in-Some.kind =
    counts-operation c.args.run.now x c.args.ticket c.loop-kind.k inv c.instr_of.result.now (Some c.in-Some.kind) c.instr_of.ensures c.in-Some.ensures in
    let timer : timer_of x.book.script c.in-Some.kind ≡ Some c.in-Some-timer_of.t = sym (c.in-Some-timer_of.ensures ∙ ap (λ s. timer_of s c.in-Some.kind) c.script.ensures) in
    record { enrolled = counts-enrolled c.args.run.now x c.args.ticket c.loop-kind.k inv c.in-Some.kind c.in-Some-timer_of.t op timer }

pub loop-kind-smaller : goal.loop-kind-smaller
loop-kind-smaller c =
    let inv = c.loop-kind.invariant in
    let op : slice_get (operations_of inv.instr) c.loop-kind.k ≡ Some c.in-Some.kind =
    counts-operation c.args.run.now c.loop-kind.run c.args.ticket c.loop-kind.k inv c.instr_of.result.now (Some c.in-Some.kind) c.instr_of.ensures c.in-Some.ensures in
    let below : c.loop-kind.k < 16 = counts-below c.args.run.now c.loop-kind.run c.args.ticket c.loop-kind.k inv c.in-Some.kind op in
    omega arith

pub loop-kind-preserved : goal.loop-kind-preserved
loop-kind-preserved c =
    let x0 = c.args.run.now in
    let x = c.loop-kind.run in
    let k : ℕ = c.loop-kind.k in
    let inv = c.loop-kind.invariant in
    let op : slice_get (operations_of inv.instr) k ≡ Some c.in-Some.kind =
    counts-operation x0 x c.args.ticket k inv c.instr_of.result.now (Some c.in-Some.kind) c.instr_of.ensures c.in-Some.ensures in
    let next : suc k ≡ k + 1 = omega arith in
    subst (λ n. Counts x0 c.match-timer_of.run c.args.ticket n) next
    (elim c.match-timer_of.branch [
      | in-Some-timer_of+else-not-block w ↦
          let timer : timer_of x.book.script c.in-Some.kind ≡ Some w.in-Some-timer_of.t = sym (w.in-Some-timer_of.ensures ∙ ap (λ s. timer_of s c.in-Some.kind) c.script.ensures) in
          let counted : IsCounted x w.block.new.run c.args.ticket.g w.in-Some-timer_of.t =
          subst (Enrols x w.block.new.run c.args.ticket.g w.in-Some-timer_of.t) w.if-not-block.false w.block.ensures in
          subst (λ run. Counts x0 run c.args.ticket (suc k)) (sym w.run-is)
          (counts-one x0 x c.args.ticket k inv w.block.new.run c.in-Some.kind w.in-Some-timer_of.t op timer counted)
      | in_default-timer_of w ↦
          let none : timer_of x.book.script c.in-Some.kind ≡ None = sym (w.in_default-timer_of.ensures ∙ ap (λ s. timer_of s c.in-Some.kind) c.script.ensures) in
          subst (λ run. Counts x0 run c.args.ticket (suc k)) (sym w.run-is) (counts-skips x0 x c.args.ticket k inv c.in-Some.kind op none)
    ])

pub returns-then-not-block : goal.returns-then-not-block
returns-then-not-block c =
    let x = c.loop-kind.run in
    let got : HasReceived x c.block.new.run c.args.ticket.g c.in-Some-timer_of.t =
    subst (Enrols x c.block.new.run c.args.ticket.g c.in-Some-timer_of.t) c.if-not-block.true c.block.ensures in
    counts-received c.args.run.now x c.args.ticket c.loop-kind.k c.loop-kind.invariant c.block.new.run c.in-Some-timer_of.t got

pub returns : goal.returns
returns c =
    let x = c.loop-kind.run in
    let inv = c.loop-kind.invariant in
    counts-all c.args.run.now x c.args.ticket c.loop-kind.k inv
    (counts-operation c.args.run.now x c.args.ticket c.loop-kind.k inv c.instr_of.result.now None c.instr_of.ensures c.in_default.ensures)
