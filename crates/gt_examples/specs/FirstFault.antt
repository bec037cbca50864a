-- timer t / chan c 0 / func main / make c / select / case recv c / say 1 / case recv t / say 2 / default / say 3 / end / end
use Rattle.std.specs.Prelude.{◌∷◌, [], List, codes}
use Rattle.std.specs.declared.option.Option.TheVariants.{Some}
use Rattle.gt_model.specs.declared.script.Script.{Script}
use Rattle.gt_model.specs.declared.script.Instr.{Instr}
use Rattle.gt_model.specs.declared.script.What.{What}
use Rattle.gt_model.specs.declared.script.CaseKind.{CaseKind}
use Rattle.gt_model.specs.declared.entry.Entry.{Entry}
use Rattle.gt_model.specs.declared.entry.Reason.{Reason}
use Rattle.gt_model.specs.declared.entry.Outcome.{Outcome}
use Rattle.gt_examples.specs.Words.{at_case, case_of}

abbrev pub script : Script
script = record {
  decls = (record { name = codes "t"; what = What.Timer })
      ∷ (record { name = codes "c"; what = What.Chan 0 })
      ∷ (record { name = codes "main"; what = What.Function })
      ∷ [];
  funcs = (record {
    decl = 2;
    code = Instr.Make 1
        ∷ Instr.Select (case_of (CaseKind.Recv 1) 2 ∷ case_of (CaseKind.Recv 0) 4 ∷ []) (Some 6)
        ∷ Instr.Say 1
        ∷ Instr.Jump 8
        ∷ Instr.Say 2
        ∷ Instr.Jump 8
        ∷ Instr.Say 3
        ∷ Instr.Jump 8
        ∷ Instr.Finish
        ∷ [];
  })
      ∷ [];
  main = 0;
}

abbrev pub history : List Entry
history =
    Entry.Make 1 1
    ∷ Entry.Panic (at_case 1 2) Reason.Unmade
    ∷ Entry.Finish Outcome.Panic
    ∷ []

-- the panic names the case before
abbrev pub wrong_case : List Entry
wrong_case =
    Entry.Make 1 1
    ∷ Entry.Panic (at_case 1 1) Reason.Unmade
    ∷ Entry.Finish Outcome.Panic
    ∷ []

-- the default is taken
abbrev pub passed_by : List Entry
passed_by =
    Entry.Make 1 1
    ∷ Entry.Default 1
    ∷ Entry.Say 1 3
    ∷ Entry.End 1
    ∷ Entry.Finish Outcome.Exit
    ∷ []
