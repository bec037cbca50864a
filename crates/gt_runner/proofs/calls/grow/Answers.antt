use Rattle.std.proofs.Common.{◌≡◌, ◌++◌, ◌∷◌, [], ap, subst, ◌∙◌, length}
use Rattle.gt_rec.specs.declared.RecKind.{RecKind}
use Rattle.gt_rec.specs.Rec.{BitsRight}
use Rattle.gt_rec.specs.Changes.{unset_rec}
use Rattle.gt_runner.proofs.Growing.{tended-grown}
use Rattle.gt_runner.proofs.calls.grow.Goals as goal

pub loop-run-preserved : goal.loop-run-preserved
loop-run-preserved c =
    let x = c.loop-run.run in
    let is : c.unset.result ≡ unset_rec (length x.records.items) RecKind.Sleep = c.unset.ensures.value ∙ ap (λ n. unset_rec n RecKind.Sleep) c.len-next.ensures in
    let bits : BitsRight (unset_rec (length x.records.items) RecKind.Sleep) = subst BitsRight is c.unset.ensures.bits in
    let items : c.put.new.self.items ≡ x.records.items ++ unset_rec (length x.records.items) RecKind.Sleep ∷ [] = c.put.ensures.items ∙ ap (λ r. x.records.items ++ r ∷ []) is in (
      record { tended = tended-grown x c.put.new.self c.loop-run.invariant.0.tended bits items c.put.ensures.spare; marks = c.loop-run.invariant.0.marks; named = c.loop-run.invariant.0.named },
      record { book_is = c.loop-run.invariant.1.book_is; heap_is = c.loop-run.invariant.1.heap_is; noted_is = c.loop-run.invariant.1.noted_is },
    )
