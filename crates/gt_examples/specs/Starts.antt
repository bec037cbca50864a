-- func main / go other / sleep 1ms / end / func other / say 7 / end
use Rattle.std.specs.Prelude.{◌∷◌, [], List, codes}
use Rattle.std.specs.declared.option.Option.TheVariants.{Some}
use Rattle.gt_model.specs.declared.script.Script.{Script}
use Rattle.gt_model.specs.declared.script.Instr.{Instr}
use Rattle.gt_model.specs.declared.script.What.{What}
use Rattle.gt_model.specs.declared.entry.Entry.{Entry}
use Rattle.gt_model.specs.declared.entry.Outcome.{Outcome}

abbrev pub script : Script
script = record {
  decls = (record { name = codes "main"; what = What.Function }) ∷ (record { name = codes "other"; what = What.Function }) ∷ [];
  funcs = (record { decl = 0; code = Instr.Go 1 ∷ Instr.Sleep 1000000 ∷ Instr.Finish ∷ [] }) ∷ (record { decl = 1; code = Instr.Say 7 ∷ Instr.Finish ∷ [] }) ∷ [];
  main = 0;
}

abbrev pub history : List Entry
history =
    Entry.Go 1 2 1
    ∷ Entry.Sleep 1 (Some 1000000)
    ∷ Entry.Say 2 7
    ∷ Entry.End 2
    ∷ Entry.Clock 0 1000000
    ∷ Entry.Wake 1
    ∷ Entry.End 1
    ∷ Entry.Finish Outcome.Exit
    ∷ []

abbrev pub skips_a_number : List Entry
skips_a_number =
    Entry.Go 1 3 1
    ∷ Entry.Sleep 1 (Some 1000000)
    ∷ Entry.Say 3 7
    ∷ Entry.End 3
    ∷ Entry.Clock 0 1000000
    ∷ Entry.Wake 1
    ∷ Entry.End 1
    ∷ Entry.Finish Outcome.Exit
    ∷ []
