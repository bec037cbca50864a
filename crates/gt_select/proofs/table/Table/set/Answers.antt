use Rattle.std.proofs.Common.{◌≡◌, ◌+◌, length, set, ap, sym, ◌∙◌, arith}
use Rattle.gt_select.proofs.Tables.{table_of, table_of-set, length-table_of}
use Rattle.gt_select.proofs.table.Table.set.Goals as goal

pub reach-requires : goal.reach-requires
reach-requires c =
    let f = c.self.inside.used in
    let size : length f.items + f.spare ≡ length c.args.self.now = sym (length-table_of f.items f.spare) ∙ ap length c.self.view_is in
    omega arith

pub returns : goal.returns
returns c =
    let r = c.reach.new.used in
    ap (λ xs. table_of xs c.set.new.self.spare) c.set.ensures.items
    ∙ ap (table_of (set r.items c.args.i c.args.x)) c.set.ensures.spare
    ∙ table_of-set r.items r.spare c.args.i c.args.x c.reach.ensures.reached
    ∙ ap (λ xs. set xs c.args.i c.args.x) (c.reach.ensures.table ∙ c.self.view_is)
