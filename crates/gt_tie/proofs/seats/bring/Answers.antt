use Rattle.std.proofs.Common.{ap, sym, ◌∙◌, arith}
use Rattle.atomic_table.specs.Seated.{TableId}
use Rattle.atomic_table.specs.Table.{Me}
use Rattle.gt_tie.specs.declared.view.View.{View}
use Rattle.gt_tie.specs.Views.{rec_of}
use Rattle.gt_tie.proofs.Moves.{empty_splits}
use Rattle.gt_tie.proofs.Known.{joins_as}
use Rattle.gt_tie.proofs.seats.bring.Goals as goal

pub split_seat-spare-requires : goal.split_seat-spare-requires
split_seat-spare-requires c =
    let table = c.requires.side_table ∙ ap (λ t. t.table) (sym c.t.view_is) in
    let size = c.t.invariant.1 in
    let some = c.t.invariant.2 in
    let words = ap (λ (z : TableId). z.words) table in
    (table, omega arith, empty_splits c.t.inside.table.shared.key.records c.t.inside.table.shared.key.heaps c.args.side.now.id c.args.side.now.me.0 c.args.side.now.me.0.heaps)

pub join_seat-requires : goal.join_seat-requires
join_seat-requires c =
    let back = ap (λ t. t.table) (sym c.t.view_is) in
    let size = c.t.invariant.1 in
    let some = c.t.invariant.2 in
    let value = c.replace-seat.ensures.value in
    let side = c.split_seat-spare.ensures.2 in (
      c.split_seat-spare.ensures.0 ∙ (c.requires.side_table ∙ back),
      ap (λ s. s.table_id) value ∙ (c.requires.rec_table ∙ back),
      ap (λ s. s.me.1) value ∙ ap (λ (v : Me Unit View). v.1) c.requires.rec,
      omega arith,
      joins_as c.t.inside.table.shared.key.records c.t.inside.table.shared.key.heaps c.split_seat-spare.new.seat.id c.replace-seat.result.id c.split_seat-spare.new.seat.me.0 c.replace-seat.result.me.0 c.args.rec.now.me.0.heaps (rec_of c.args.rec.now.me.0)
          (ap (λ (v : Me Unit View). v.0.rec) side ∙ c.requires.side.1)
          (ap (λ s. s.me.0) value ∙ ap (λ (v : Me Unit View). v.0) c.requires.rec),
    )
