-- afterfunc f hit / func main / new f 1ms / sleep 5ms / end / func hit / say 5 / end
use Rattle.std.specs.Prelude.{◌∷◌, [], List, codes}
use Rattle.std.specs.declared.option.Option.TheVariants.{Some}
use Rattle.gt_model.specs.declared.script.Script.{Script}
use Rattle.gt_model.specs.declared.script.Instr.{Instr}
use Rattle.gt_model.specs.declared.script.What.{What}
use Rattle.gt_model.specs.declared.entry.Entry.{Entry}
use Rattle.gt_model.specs.declared.entry.Outcome.{Outcome}

abbrev pub script : Script
script = record {
  decls = (record { name = codes "f"; what = What.AfterFunc 1 }) ∷ (record { name = codes "main"; what = What.Function }) ∷ (record { name = codes "hit"; what = What.Function }) ∷ [];
  funcs = (record { decl = 1; code = Instr.New 0 1000000 ∷ Instr.Sleep 5000000 ∷ Instr.Finish ∷ [] }) ∷ (record { decl = 2; code = Instr.Say 5 ∷ Instr.Finish ∷ [] }) ∷ [];
  main = 0;
}

abbrev pub history : List Entry
history =
    Entry.New 1 0 1000000
    ∷ Entry.Sleep 1 (Some 5000000)
    ∷ Entry.Clock 0 1000000
    ∷ Entry.FireFunc 0 2
    ∷ Entry.Say 2 5
    ∷ Entry.End 2
    ∷ Entry.Clock 0 5000000
    ∷ Entry.Wake 1
    ∷ Entry.End 1
    ∷ Entry.Finish Outcome.Exit
    ∷ []

abbrev pub deadlock_while_set : List Entry
deadlock_while_set =
    Entry.New 1 0 1000000
    ∷ Entry.Sleep 1 (Some 5000000)
    ∷ Entry.Finish Outcome.Deadlock
    ∷ []
