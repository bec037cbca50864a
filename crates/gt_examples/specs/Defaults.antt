-- timer t / func main / new t 10ms / sleep 5ms / stop t / sleep 10ms / select / case recv t / say 1 / default / say 2 / end / end
use Rattle.std.specs.Prelude.{◌∷◌, [], List, true, codes}
use Rattle.std.specs.declared.option.Option.TheVariants.{Some}
use Rattle.gt_model.specs.declared.script.Script.{Script}
use Rattle.gt_model.specs.declared.script.Instr.{Instr}
use Rattle.gt_model.specs.declared.script.What.{What}
use Rattle.gt_model.specs.declared.script.CaseKind.{CaseKind}
use Rattle.gt_model.specs.declared.entry.Entry.{Entry}
use Rattle.gt_model.specs.declared.entry.Outcome.{Outcome}
use Rattle.gt_examples.specs.Words.{case_of}

abbrev pub script : Script
script = record {
  decls = (record { name = codes "t"; what = What.Timer }) ∷ (record { name = codes "main"; what = What.Function }) ∷ [];
  funcs = (record {
    decl = 1;
    code = Instr.New 0 10000000
        ∷ Instr.Sleep 5000000
        ∷ Instr.Stop 0
        ∷ Instr.Sleep 10000000
        ∷ Instr.Select (case_of (CaseKind.Recv 0) 5 ∷ []) (Some 7)
        ∷ Instr.Say 1
        ∷ Instr.Jump 9
        ∷ Instr.Say 2
        ∷ Instr.Jump 9
        ∷ Instr.Finish
        ∷ [];
  })
      ∷ [];
  main = 0;
}

abbrev pub history : List Entry
history =
    Entry.New 1 0 10000000
    ∷ Entry.Sleep 1 (Some 5000000)
    ∷ Entry.Clock 0 5000000
    ∷ Entry.Wake 1
    ∷ Entry.Stop 1 0 (Some true)
    ∷ Entry.Sleep 1 (Some 15000000)
    ∷ Entry.Clock 0 15000000
    ∷ Entry.Wake 1
    ∷ Entry.Default 1
    ∷ Entry.Say 1 2
    ∷ Entry.End 1
    ∷ Entry.Finish Outcome.Exit
    ∷ []
