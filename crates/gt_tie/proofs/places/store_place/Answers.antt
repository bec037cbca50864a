use Rattle.std.proofs.Common.{◌≡◌, ◌+◌, ℕ, [], Some, ap, sym, ◌∙◌}
use Rattle.atomic_table.specs.Table.{Me}
use Rattle.gt_tie.specs.declared.view.View.{View}
use Rattle.gt_tie.specs.declared.view.HeapPart.{HeapPart}
use Rattle.gt_tie.specs.declared.view.RecPart.{RecPart}
use Rattle.gt_tie.specs.Views.{heap_of, rec_of, with_heap}
use Rattle.gt_tie.specs.Steps.{key_put, rec_heap, rec_key, key_placed, rec_placed}
use Rattle.gt_tie.proofs.Puts.{key_put-some}
use Rattle.gt_tie.proofs.places.store_place.Goals as goal

pub returns-in-Some-clause-side : goal.returns-in-Some-clause-side
returns-in-Some-clause-side c =
    let i : ℕ = c.args.number in
    let k : ℕ = c.in-Some.key in
    let hm : ℕ = c.args.side.now.me.0.heaps in
    let h : HeapPart = heap_of c.args.side.now.me.0 in
    let r : RecPart = rec_of c.args.side.now.me.0 in
    let x : ℕ = c.from.result + 1 in
    let put : Me Unit View → Me Unit View = λ m. (with_heap m.0.heaps (key_put i x (rec_of m.0).key (heap_of m.0)) (rec_heap x (rec_of m.0)), []) in
    let is : x ≡ h.number + 1 = ap (λ n. n + 1) (c.from.ensures ∙ c.requires.heap) in
    c.store_heap-in-Some.ensures.side ∙ (ap put c.store_key.ensures.side
    ∙ ((λ j. (with_heap hm (key_put i (is j) k (key_put i r.heap k h)) (rec_heap (is j) (rec_key k r)), []))
    ∙ ((λ j. (with_heap hm (key_put-some i r.heap k h j) (rec_heap (h.number + 1) (rec_key k r)), []))
    ∙ ((λ j. (with_heap hm (key_placed i (Some k) h) (rec_placed (sym c.requires.heap j) (Some k) r), []))
    ∙ (λ j. (with_heap hm (key_placed i (sym c.in-Some.is j) h) (rec_placed c.args.heap (sym c.in-Some.is j) r), []))))))
