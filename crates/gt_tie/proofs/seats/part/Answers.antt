use Rattle.std.proofs.Common.{ap, sym, ◌∙◌, arith}
use Rattle.atomic_table.specs.Seated.{TableId}
use Rattle.gt_tie.specs.Views.{rec_of}
use Rattle.gt_tie.proofs.Moves.{rec_splits}
use Rattle.gt_tie.proofs.seats.part.Goals as goal

pub split_seat-requires : goal.split_seat-requires
split_seat-requires c =
    let table = c.requires.side_table ∙ ap (λ t. t.table) (sym c.t.view_is) in
    let size = c.t.invariant.1 in
    let some = c.t.invariant.2 in
    let words = ap (λ (z : TableId). z.words) table in
    (table, omega arith, rec_splits c.t.inside.table.shared.key.records c.t.inside.table.shared.key.heaps c.args.side.now.id c.args.side.now.me.0 (rec_of c.args.side.now.me.0) c.requires.side.1)
