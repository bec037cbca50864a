use Rattle.std.proofs.Common.{ap, sym, ◌∙◌, arith}
use Rattle.atomic_table.specs.Seated.{TableId}
use Rattle.gt_tie.proofs.Stores.{looks}
use Rattle.gt_tie.proofs.seats.look.Goals as goal

pub load-requires : goal.load-requires
load-requires c =
    let table = c.requires ∙ ap (λ t. t.table) (sym c.t.view_is) in
    let size = c.t.invariant.1 in
    let some = c.t.invariant.2 in
    let words = ap (λ (z : TableId). z.words) table in
    (table, omega arith, looks c.t.inside.table.shared.key.records c.t.inside.table.shared.key.heaps c.args.side.now.id c.t.inside.table.shared.table_id.slots c.args.side.now.me.0 c.args.side.now.me.1)
