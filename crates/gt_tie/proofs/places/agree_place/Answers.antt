use Rattle.std.proofs.Common.{Some, ap, sym, ◌∙◌}
use Rattle.std.specs.Prelude.{slice_get}
use Rattle.atomic_table.specs.Table.{Me}
use Rattle.gt_tie.specs.declared.view.View.{View}
use Rattle.gt_tie.specs.declared.view.HeapPart.{HeapPart}
use Rattle.gt_tie.specs.declared.view.RecPart.{RecPart}
use Rattle.gt_tie.specs.Views.{heap_of, rec_of, key_under}
use Rattle.gt_tie.proofs.Puts.{slice_get-at, key_in-key_under}
use Rattle.gt_tie.proofs.places.agree_place.Goals as goal

pub returns-clause-agrees : goal.returns-clause-agrees
returns-clause-agrees c =
    let h : HeapPart = heap_of c.heap.inside.seat.me.0 in
    let r : RecPart = rec_of c.rec.inside.seat.me.0 in
    let found = c.look.ensures.heap h r
    (ap (λ (m : Me Unit View). m.0.heap) c.bring.ensures.both ∙ ap (λ (m : Me Unit View). m.0.heap) c.heap.invariant.0)
    (ap (λ (m : Me Unit View). m.0.rec) c.bring.ensures.both ∙ ap (λ (m : Me Unit View). m.0.rec) c.rec.invariant.0) in
    let base = slice_get-at h.keys r.number found.0 ∙ ap Some (found.1 ∙ key_in-key_under h.number r.heap r.key) in
    let number = sym c.rec.invariant.1 ∙ ap (λ z. z.number) c.rec.view_is in
    let keys = ap (λ z. z.keys) c.heap.view_is in
    let heap = sym c.heap.invariant.1 ∙ ap (λ z. z.number) c.heap.view_is in
    let place = ap (λ z. z.place) c.rec.view_is in
    (λ j. slice_get (sym keys j) (sym number j)) ∙ (base ∙ (λ j. Some (key_under (heap j) (place j))))
