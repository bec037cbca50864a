-- timer t / func main / stop t / end
use Rattle.std.specs.Prelude.{◌∷◌, [], List, false, codes}
use Rattle.std.specs.declared.option.Option.TheVariants.{Some}
use Rattle.gt_model.specs.declared.script.Script.{Script}
use Rattle.gt_model.specs.declared.script.Instr.{Instr}
use Rattle.gt_model.specs.declared.script.What.{What}
use Rattle.gt_model.specs.declared.entry.Entry.{Entry}
use Rattle.gt_model.specs.declared.entry.Reason.{Reason}
use Rattle.gt_model.specs.declared.entry.Outcome.{Outcome}
use Rattle.gt_examples.specs.Words.{plainly}

abbrev pub script : Script
script = record {
  decls = (record { name = codes "t"; what = What.Timer }) ∷ (record { name = codes "main"; what = What.Function }) ∷ [];
  funcs = (record { decl = 1; code = Instr.Stop 0 ∷ Instr.Finish ∷ [] }) ∷ [];
  main = 0;
}

abbrev pub history : List Entry
history =
    Entry.Panic (plainly 1) Reason.Unmade
    ∷ Entry.Finish Outcome.Panic
    ∷ []

abbrev pub answers : List Entry
answers =
    Entry.Stop 1 0 (Some false)
    ∷ Entry.End 1
    ∷ Entry.Finish Outcome.Exit
    ∷ []
