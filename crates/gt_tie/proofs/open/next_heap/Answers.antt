use Rattle.std.proofs.Common.{ap, sym, ◌∙◌, arith}
use Rattle.atomic_table.specs.Table.{Me}
use Rattle.gt_tie.specs.declared.view.View.{View}
use Rattle.gt_tie.specs.declared.table.Size.{Size}
use Rattle.gt_tie.specs.Rule.{whole}
use Rattle.gt_tie.proofs.Splits.{heap_splits_as}
use Rattle.gt_tie.proofs.open.next_heap.Goals as goal

pub split_seat-seat-requires : goal.split_seat-seat-requires
split_seat-seat-requires c =
    let table = c.requires.table ∙ ap (λ t. t.table) (sym c.t.view_is) in
    let size = c.t.invariant.1 in
    let some = c.t.invariant.2 in
    let records = ap (λ t. t.records) (sym c.t.view_is) ∙ ap (λ (z : Size). z.records) (sym c.t.invariant.0) in
    let heaps = ap (λ t. t.heaps) (sym c.t.view_is) ∙ ap (λ (z : Size). z.heaps) (sym c.t.invariant.0) in
    let below = c.requires.number in
    let is = ap (λ (v : Me Unit View). v.0) c.requires.first ∙ (λ j. whole (records j) (heaps j) c.args.t.now.records c.args.number) in
    (table, omega arith, heap_splits_as c.t.inside.table.shared.key.records c.t.inside.table.shared.key.heaps c.args.first.now.id c.args.t.now.records c.args.number c.args.first.now.me.0 is (omega arith))
