-- chan c 0 / func main / make c / recv c / end
use Rattle.std.specs.Prelude.{◌∷◌, [], List, codes}
use Rattle.gt_model.specs.declared.script.Script.{Script}
use Rattle.gt_model.specs.declared.script.Instr.{Instr}
use Rattle.gt_model.specs.declared.script.What.{What}
use Rattle.gt_model.specs.declared.entry.Entry.{Entry}
use Rattle.gt_model.specs.declared.entry.Outcome.{Outcome}

abbrev pub script : Script
script = record {
  decls = (record { name = codes "c"; what = What.Chan 0 }) ∷ (record { name = codes "main"; what = What.Function }) ∷ [];
  funcs = (record { decl = 1; code = Instr.Make 0 ∷ Instr.Recv 0 ∷ Instr.Finish ∷ [] }) ∷ [];
  main = 0;
}

abbrev pub history : List Entry
history =
    Entry.Make 1 0
    ∷ Entry.Finish Outcome.Deadlock
    ∷ []
