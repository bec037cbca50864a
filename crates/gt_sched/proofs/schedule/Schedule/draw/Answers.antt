use Rattle.std.proofs.Common.{◌+◌, ◌-◌, ◌%◌, ◌++◌, ◌∷◌, [], ℕ, sym, ap, ◌∙◌, arith, append_assoc}
use Rattle.rand_pcg.specs.Lcg.{Lcg}
use Rattle.gt_sched.proofs.Drawing.{drawn_by, drawn_by-more}
use Rattle.gt_sched.proofs.schedule.Schedule.draw.Goals as goal

pub loop-preserved : goal.loop-preserved
loop-preserved c =
    let more = drawn_by-more c.loop.counter c.args.turns c.args.ps c.loop.generator c.loop-test.true in
    let left : ℕ = c.args.turns - (c.loop.counter + 1) in
    let word = ap (λ (p : ℕ × Lcg). p.0 % c.args.ps ∷ drawn_by left c.args.ps p.1) c.next_word.ensures in
    record {
      some = omega arith;
      drawn =
          ap (λ turns. turns ++ drawn_by left c.args.ps c.next_word.new.self) c.push_back_reserved.ensures.items
          ∙ (append_assoc c.loop.self-inside.turns.items (c.next_word.result % c.args.ps ∷ []) (drawn_by left c.args.ps c.next_word.new.self)
          ∙ (ap (λ turns. c.loop.self-inside.turns.items ++ turns) (word ∙ sym more) ∙ c.loop.invariant.drawn));
      room = omega arith;
    }
