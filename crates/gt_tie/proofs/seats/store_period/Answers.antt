use Rattle.std.proofs.Common.{ap, sym, ◌∙◌, arith}
use Rattle.atomic_table.specs.Seated.{TableId}
use Rattle.gt_tie.specs.Views.{rec_of, book_of}
use Rattle.gt_tie.proofs.Known.{period_stores_as}
use Rattle.gt_tie.proofs.seats.store_period.Goals as goal

pub store-requires : goal.store-requires
store-requires c =
    let table = c.requires.table ∙ ap (λ t. t.table) (sym c.t.view_is) in
    let size = c.t.invariant.1 in
    let some = c.t.invariant.2 in
    let words = ap (λ (z : TableId). z.words) table in
    let number = c.requires.number in
    (table, omega (arith, number.1), period_stores_as c.t.inside.table.shared.key.records c.t.inside.table.shared.key.heaps c.args.side.now.id c.t.inside.table.shared.table_id.slots c.args.side.now.me.0.heaps c.args.x c.args.number c.args.side.now.me (book_of c.args.side.now.me.0) (rec_of c.args.side.now.me.0) c.requires.side number.0)
