use Rattle.std.proofs.Common.{ap, sym, ◌∙◌, arith}
use Rattle.gt_tie.proofs.Moves.{rest_splits}
use Rattle.gt_tie.proofs.open.book_tie.Goals as goal

pub split_seat-nobody-requires : goal.split_seat-nobody-requires
split_seat-nobody-requires c =
    let table = c.requires.table ∙ ap (λ t. t.table) (sym c.t.view_is) in
    let size = c.t.invariant.1 in
    let some = c.t.invariant.2 in
    (table, omega arith, rest_splits c.t.inside.table.shared.key.records c.t.inside.table.shared.key.heaps c.args.first.id c.args.first.me.0 c.args.first.me.0.heaps)
