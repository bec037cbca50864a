-- timer t / func main / new t 1ms / sleep 5ms / stop t / end
use Rattle.std.specs.Prelude.{◌∷◌, [], List, true, false, codes}
use Rattle.std.specs.declared.option.Option.TheVariants.{Some}
use Rattle.gt_model.specs.declared.script.Script.{Script}
use Rattle.gt_model.specs.declared.script.Instr.{Instr}
use Rattle.gt_model.specs.declared.script.What.{What}
use Rattle.gt_model.specs.declared.entry.Entry.{Entry}
use Rattle.gt_model.specs.declared.entry.Outcome.{Outcome}

abbrev pub script : Script
script = record {
  decls = (record { name = codes "t"; what = What.Timer }) ∷ (record { name = codes "main"; what = What.Function }) ∷ [];
  funcs = (record { decl = 1; code = Instr.New 0 1000000 ∷ Instr.Sleep 5000000 ∷ Instr.Stop 0 ∷ Instr.Finish ∷ [] }) ∷ [];
  main = 0;
}

abbrev pub history : List Entry
history =
    Entry.New 1 0 1000000
    ∷ Entry.Sleep 1 (Some 5000000)
    ∷ Entry.Clock 0 5000000
    ∷ Entry.Wake 1
    ∷ Entry.Stop 1 0 (Some true)
    ∷ Entry.End 1
    ∷ Entry.Finish Outcome.Exit
    ∷ []

abbrev pub denies : List Entry
denies =
    Entry.New 1 0 1000000
    ∷ Entry.Sleep 1 (Some 5000000)
    ∷ Entry.Clock 0 5000000
    ∷ Entry.Wake 1
    ∷ Entry.Stop 1 0 (Some false)
    ∷ Entry.End 1
    ∷ Entry.Finish Outcome.Exit
    ∷ []
