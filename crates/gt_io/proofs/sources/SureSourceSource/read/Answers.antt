use Rattle.std.proofs.Common.{ℕ, ◌+◌, ◌-◌, List, take, drop, ◌∙◌, ap, arith, length-drop}
use Rattle.gt_io.proofs.ByteLemmas.{copied_front}
use Rattle.gt_io.proofs.sources.SureSourceSource.read.Goals as goal

pub returns-clause-taken : goal.returns-clause-taken
returns-clause-taken c =
    let copied = c.copy_from_slice.ensures.after ∙ ap (λ (l : List ℕ). take (c.self.inside.at + c.min-count.result - c.self.inside.at) (drop c.self.inside.at l)) c.as_slice.ensures.value in
    rw (← c.self.view_is) (copied_front c.self.inside.bytes.items c.args.into.now c.copy_from_slice.new.self c.self.inside.at c.min-count.result (c.self.inside.at + c.min-count.result - c.self.inside.at) (omega arith) (omega (arith, length-drop {A = ℕ})) copied)
