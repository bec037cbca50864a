use Rattle.std.proofs.Common.{◌≡◌, ◌<◌, ap, sym, ◌∙◌, arith}
use Rattle.atomic_table.specs.Seated.{TableId}
use Rattle.gt_word_table.specs.declared.view.Heap.{Heap as HeapView}
use Rattle.gt_word_table.specs.Shown.{heap_of}
use Rattle.gt_word_table.proofs.Seats.{lowers_as}
use Rattle.gt_word_table.proofs.heap.HeapSeat.lower.Goals as goal

pub fetch_min-requires : goal.fetch_min-requires
fetch_min-requires c =
    let table : c.self.inside.seat.table_id ≡ c.t.inside.words.shared.table_id = ap (λ h. h.table) c.self.view_is ∙ (c.requires ∙ ap (λ t. t.table) (sym c.t.view_is)) in
    let size = ap (λ (z : TableId). z.words) table in
    let all = c.t.invariant.0 in
    let words = c.t.invariant.1 in
    let here = c.self.invariant.0 in
    let inside : c.self.inside.heap < c.t.inside.words.shared.key = omega arith in
    let h : HeapView = record { heap = c.self.inside.heap; phase = (heap_of c.self.inside.seat.me.0).phase; word = (heap_of c.self.inside.seat.me.0).word; count = c.self.inside.count } in
    (table, omega arith, lowers_as c.t.inside.words.shared.key c.self.inside.seat.id c.t.inside.words.shared.table_id.slots c.args.v c.self.inside.seat.me h c.self.invariant.1 inside)
