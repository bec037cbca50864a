-- chan c 0 / func main / make c / go b / select / case recv c / say 1 / default / end / end / func b / select / case send c 7 / default / end / end
use Rattle.std.specs.Prelude.{◌∷◌, [], List, codes}
use Rattle.std.specs.declared.option.Option.TheVariants.{Some}
use Rattle.gt_model.specs.declared.script.Script.{Script}
use Rattle.gt_model.specs.declared.script.Instr.{Instr}
use Rattle.gt_model.specs.declared.script.What.{What}
use Rattle.gt_model.specs.declared.script.CaseKind.{CaseKind}
use Rattle.gt_model.specs.declared.entry.Entry.{Entry}
use Rattle.gt_model.specs.declared.entry.Outcome.{Outcome}
use Rattle.gt_examples.specs.Words.{at_case, case_of}

abbrev pub script : Script
script = record {
  decls = (record { name = codes "c"; what = What.Chan 0 }) ∷ (record { name = codes "main"; what = What.Function }) ∷ (record { name = codes "b"; what = What.Function }) ∷ [];
  funcs = (record {
    decl = 1;
    code = Instr.Make 0
        ∷ Instr.Go 1
        ∷ Instr.Select (case_of (CaseKind.Recv 0) 3 ∷ []) (Some 5)
        ∷ Instr.Say 1
        ∷ Instr.Jump 6
        ∷ Instr.Jump 6
        ∷ Instr.Finish
        ∷ [];
  })
      ∷ (record {
        decl = 2;
        code = Instr.Select (case_of (CaseKind.Send 0 7) 1 ∷ []) (Some 2)
            ∷ Instr.Jump 3
            ∷ Instr.Jump 3
            ∷ Instr.Finish
            ∷ [];
      })
      ∷ [];
  main = 0;
}

-- each goes on at its default
abbrev pub history : List Entry
history =
    Entry.Make 1 0
    ∷ Entry.Go 1 2 1
    ∷ Entry.Default 2
    ∷ Entry.Default 1
    ∷ Entry.End 2
    ∷ Entry.End 1
    ∷ Entry.Finish Outcome.Exit
    ∷ []

-- the two meet, and neither waits
abbrev pub meet : List Entry
meet =
    Entry.Make 1 0
    ∷ Entry.Go 1 2 1
    ∷ Entry.Pair (at_case 2 1) (at_case 1 1) 0 7
    ∷ []
