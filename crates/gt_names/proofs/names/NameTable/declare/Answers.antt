use Rattle.std.proofs.Common.{sym}
use Rattle.std.proofs.lemmas.Map.Text.{btree_map_updates_str}
use Rattle.std.specs.BTreeMap.{get_by}
use Rattle.std.specs.Cmp.Lexicographic.{slice_cmp}
use Rattle.std.specs.Ordering.{nat_cmp}
use Rattle.gt_names.specs.Known.{known}
use Rattle.gt_names.specs.Names.{Names}
use Rattle.gt_names.proofs.NameLemmas.{put}
use Rattle.gt_names.proofs.names.NameTable.declare.Goals as goal

pub returns-in_ok-insert-in-None-clause-known : goal.returns-in_ok-insert-in-None-clause-known
returns-in_ok-insert-in-None-clause-known c =
    let new : Names = λ q. get_by (λ k. slice_cmp nat_cmp q k.now) c.insert.new.self in
    put (known c.args.self.now) new c.args.name.now c.args.declared (sym c.in-None.ensures.value)
    (btree_map_updates_str c.args.name.now c.args.self.now.map c.insert.new.self _ c.in_ok-insert-in-None.ensures.updates)
