-- chan c 0 / func main / make c / close c / select / case recv c / say 1 / case send c 7 / say 2 / end / end
use Rattle.std.specs.Prelude.{◌∷◌, [], List, codes}
use Rattle.std.specs.declared.option.Option.TheVariants.{None}
use Rattle.gt_model.specs.declared.script.Script.{Script}
use Rattle.gt_model.specs.declared.script.Instr.{Instr}
use Rattle.gt_model.specs.declared.script.What.{What}
use Rattle.gt_model.specs.declared.script.CaseKind.{CaseKind}
use Rattle.gt_model.specs.declared.entry.Entry.{Entry}
use Rattle.gt_model.specs.declared.entry.Reason.{Reason}
use Rattle.gt_model.specs.declared.entry.Outcome.{Outcome}
use Rattle.gt_examples.specs.Words.{at_case, case_of}

abbrev pub script : Script
script = record {
  decls = (record { name = codes "c"; what = What.Chan 0 }) ∷ (record { name = codes "main"; what = What.Function }) ∷ [];
  funcs = (record {
    decl = 1;
    code = Instr.Make 0
        ∷ Instr.Close 0
        ∷ Instr.Select (case_of (CaseKind.Recv 0) 3 ∷ case_of (CaseKind.Send 0 7) 5 ∷ []) None
        ∷ Instr.Say 1
        ∷ Instr.Jump 7
        ∷ Instr.Say 2
        ∷ Instr.Jump 7
        ∷ Instr.Finish
        ∷ [];
  })
      ∷ [];
  main = 0;
}

-- the case that receives is chosen
abbrev pub receives : List Entry
receives =
    Entry.Make 1 0
    ∷ Entry.Close 1 0
    ∷ Entry.Recv (at_case 1 1) 0 None
    ∷ Entry.Say 1 1
    ∷ Entry.End 1
    ∷ Entry.Finish Outcome.Exit
    ∷ []

-- the case that sends is chosen
abbrev pub sends : List Entry
sends =
    Entry.Make 1 0
    ∷ Entry.Close 1 0
    ∷ Entry.Panic (at_case 1 2) Reason.Closed
    ∷ Entry.Finish Outcome.Panic
    ∷ []

-- the case that receives panics
abbrev pub wrong_case : List Entry
wrong_case =
    Entry.Make 1 0
    ∷ Entry.Close 1 0
    ∷ Entry.Panic (at_case 1 1) Reason.Closed
    ∷ Entry.Finish Outcome.Panic
    ∷ []
