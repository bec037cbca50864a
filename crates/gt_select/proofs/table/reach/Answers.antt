use Rattle.std.proofs.Common.{◌≡◌, suc, ◌+◌, ◌∷◌, [], None, length, length-append, ap, ◌∙◌, arith}
use Rattle.gt_select.proofs.Tables.{table_of, table_of-written}
use Rattle.gt_select.proofs.table.reach.Goals as goal

pub loop-used-preserved : goal.loop-used-preserved
loop-used-preserved c =
    let xs = c.loop-used.used.items in
    let spare : c.put.new.self.spare + 1 ≡ c.loop-used.used.spare = c.put.ensures.spare in
    let one : suc c.put.new.self.spare ≡ c.loop-used.used.spare = omega arith in
    let longer : length c.put.new.self.items ≡ length xs + 1 = ap length c.put.ensures.items ∙ length-append xs (None ∷ []) in
    let room = c.loop-used.invariant.room in
    record {
      table =
          ap (λ ys. table_of ys c.put.new.self.spare) c.put.ensures.items
          ∙ table_of-written xs c.put.new.self.spare
          ∙ ap (table_of xs) one
          ∙ c.loop-used.invariant.table;
      room = omega arith;
    }
