-- chan c 1 / func main / make c / send c 7 / select / case recv c / say 1 / default / say 2 / end / end
use Rattle.std.specs.Prelude.{◌∷◌, [], List, codes}
use Rattle.std.specs.declared.option.Option.TheVariants.{Some}
use Rattle.gt_model.specs.declared.script.Script.{Script}
use Rattle.gt_model.specs.declared.script.Instr.{Instr}
use Rattle.gt_model.specs.declared.script.What.{What}
use Rattle.gt_model.specs.declared.script.CaseKind.{CaseKind}
use Rattle.gt_model.specs.declared.entry.Entry.{Entry}
use Rattle.gt_model.specs.declared.entry.Outcome.{Outcome}
use Rattle.gt_examples.specs.Words.{plainly, at_case, case_of}

abbrev pub script : Script
script = record {
  decls = (record { name = codes "c"; what = What.Chan 1 }) ∷ (record { name = codes "main"; what = What.Function }) ∷ [];
  funcs = (record {
    decl = 1;
    code = Instr.Make 0
        ∷ Instr.Send 0 7
        ∷ Instr.Select (case_of (CaseKind.Recv 0) 3 ∷ []) (Some 5)
        ∷ Instr.Say 1
        ∷ Instr.Jump 7
        ∷ Instr.Say 2
        ∷ Instr.Jump 7
        ∷ Instr.Finish
        ∷ [];
  })
      ∷ [];
  main = 0;
}

abbrev pub history : List Entry
history =
    Entry.Make 1 0
    ∷ Entry.Send (plainly 1) 0 7
    ∷ Entry.Recv (at_case 1 1) 0 (Some 7)
    ∷ Entry.Say 1 1
    ∷ Entry.End 1
    ∷ Entry.Finish Outcome.Exit
    ∷ []

-- the default is taken over the case that gives a value
abbrev pub passed_by : List Entry
passed_by =
    Entry.Make 1 0
    ∷ Entry.Send (plainly 1) 0 7
    ∷ Entry.Default 1
    ∷ Entry.Say 1 2
    ∷ Entry.End 1
    ∷ Entry.Finish Outcome.Exit
    ∷ []
