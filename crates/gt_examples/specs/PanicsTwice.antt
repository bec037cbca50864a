-- timer t / func main / new t 1ms / new t 2ms / end
use Rattle.std.specs.Prelude.{◌∷◌, [], List, codes}
use Rattle.gt_model.specs.declared.script.Script.{Script}
use Rattle.gt_model.specs.declared.script.Instr.{Instr}
use Rattle.gt_model.specs.declared.script.What.{What}
use Rattle.gt_model.specs.declared.entry.Entry.{Entry}
use Rattle.gt_model.specs.declared.entry.Reason.{Reason}
use Rattle.gt_model.specs.declared.entry.Outcome.{Outcome}
use Rattle.gt_examples.specs.Words.{plainly}

abbrev pub script : Script
script = record {
  decls = (record { name = codes "t"; what = What.Timer }) ∷ (record { name = codes "main"; what = What.Function }) ∷ [];
  funcs = (record { decl = 1; code = Instr.New 0 1000000 ∷ Instr.New 0 2000000 ∷ Instr.Finish ∷ [] }) ∷ [];
  main = 0;
}

abbrev pub history : List Entry
history =
    Entry.New 1 0 1000000
    ∷ Entry.Panic (plainly 1) Reason.Twice
    ∷ Entry.Finish Outcome.Panic
    ∷ []
