use Rattle.std.proofs.Common.{◌<◌, ap, sym, ◌∙◌, arith}
use Rattle.atomic_table.specs.Table.{Me}
use Rattle.gt_word_table.specs.declared.view.View.{View}
use Rattle.gt_word_table.specs.Rule.{rest}
use Rattle.gt_word_table.proofs.Splits.{heap_splits_as}
use Rattle.gt_word_table.proofs.open.next_heap.Goals as goal

pub split_seat-seat-requires : goal.split_seat-seat-requires
split_seat-seat-requires c =
    let table = c.requires.table ∙ ap (λ t. t.table) (sym c.words.view_is) in
    let all = c.words.invariant.0 in
    let size = c.words.invariant.1 in
    let heaps = ap (λ t. t.heaps) c.words.view_is in
    let some = c.requires.heap in
    let is = ap (λ (m : Me Unit View). m.0) c.requires.rest ∙ ap (λ n. rest n c.args.heap) (sym (all ∙ heaps)) in
    let inside : c.args.heap < c.words.inside.words.shared.key = omega arith in
    (table, omega arith, heap_splits_as c.words.inside.words.shared.key c.args.remaining.now.id c.args.remaining.now.me.0 c.args.heap is inside)
