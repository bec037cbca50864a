-- chan c 1 / func main / make c / close c / send c 1 / end
use Rattle.std.specs.Prelude.{◌∷◌, [], List, codes}
use Rattle.gt_model.specs.declared.script.Script.{Script}
use Rattle.gt_model.specs.declared.script.Instr.{Instr}
use Rattle.gt_model.specs.declared.script.What.{What}
use Rattle.gt_model.specs.declared.entry.Entry.{Entry}
use Rattle.gt_model.specs.declared.entry.Reason.{Reason}
use Rattle.gt_model.specs.declared.entry.Outcome.{Outcome}
use Rattle.gt_examples.specs.Words.{plainly}

abbrev pub script : Script
script = record {
  decls = (record { name = codes "c"; what = What.Chan 1 }) ∷ (record { name = codes "main"; what = What.Function }) ∷ [];
  funcs = (record { decl = 1; code = Instr.Make 0 ∷ Instr.Close 0 ∷ Instr.Send 0 1 ∷ Instr.Finish ∷ [] }) ∷ [];
  main = 0;
}

abbrev pub history : List Entry
history =
    Entry.Make 1 0
    ∷ Entry.Close 1 0
    ∷ Entry.Panic (plainly 1) Reason.Closed
    ∷ Entry.Finish Outcome.Panic
    ∷ []

-- the closed channel keeps the value
abbrev pub keeps_it : List Entry
keeps_it =
    Entry.Make 1 0
    ∷ Entry.Close 1 0
    ∷ Entry.Send (plainly 1) 0 1
    ∷ Entry.End 1
    ∷ Entry.Finish Outcome.Exit
    ∷ []
