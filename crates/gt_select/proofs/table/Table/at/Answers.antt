use Rattle.std.proofs.Common.{◌≤◌, ◌<◌, length, get_or, None, sym, ap, ◌∙◌, arith}
use Rattle.gt_select.proofs.Tables.{table_of-low, table_of-past}
use Rattle.gt_select.proofs.table.Table.at.Goals as goal

pub returns-then-i-len : goal.returns-then-i-len
returns-then-i-len c =
    let f = c.self.inside.used in
    let below : c.args.i < length f.items = omega arith in
    c.at.ensures.by_index None ∙ sym (table_of-low f.items f.spare c.args.i below) ∙ ap (λ xs. get_or xs c.args.i None) c.self.view_is

pub returns-else-i-len : goal.returns-else-i-len
returns-else-i-len c =
    let f = c.self.inside.used in
    let past : length f.items ≤ c.args.i = omega arith in
    sym (table_of-past f.items f.spare c.args.i past) ∙ ap (λ xs. get_or xs c.args.i None) c.self.view_is
