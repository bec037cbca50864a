-- chan a 0 / chan b 0 / func main / make a / make b / go tx / select / case recv a / say 1 / case recv b / say 2 / end / end / func tx / send b 7 / end
use Rattle.std.specs.Prelude.{◌∷◌, [], List, codes}
use Rattle.std.specs.declared.option.Option.TheVariants.{None}
use Rattle.gt_model.specs.declared.script.Script.{Script}
use Rattle.gt_model.specs.declared.script.Instr.{Instr}
use Rattle.gt_model.specs.declared.script.What.{What}
use Rattle.gt_model.specs.declared.script.CaseKind.{CaseKind}
use Rattle.gt_model.specs.declared.entry.Entry.{Entry}
use Rattle.gt_model.specs.declared.entry.Outcome.{Outcome}
use Rattle.gt_examples.specs.Words.{plainly, at_case, case_of}

abbrev pub script : Script
script = record {
  decls = (record { name = codes "a"; what = What.Chan 0 })
      ∷ (record { name = codes "b"; what = What.Chan 0 })
      ∷ (record { name = codes "main"; what = What.Function })
      ∷ (record { name = codes "tx"; what = What.Function })
      ∷ [];
  funcs = (record {
    decl = 2;
    code = Instr.Make 0
        ∷ Instr.Make 1
        ∷ Instr.Go 1
        ∷ Instr.Select (case_of (CaseKind.Recv 0) 4 ∷ case_of (CaseKind.Recv 1) 6 ∷ []) None
        ∷ Instr.Say 1
        ∷ Instr.Jump 8
        ∷ Instr.Say 2
        ∷ Instr.Jump 8
        ∷ Instr.Finish
        ∷ [];
  })
      ∷ (record { decl = 3; code = Instr.Send 1 7 ∷ Instr.Finish ∷ [] })
      ∷ [];
  main = 0;
}

abbrev pub history : List Entry
history =
    Entry.Make 1 0
    ∷ Entry.Make 1 1
    ∷ Entry.Go 1 2 1
    ∷ Entry.Pair (plainly 2) (at_case 1 2) 1 7
    ∷ Entry.End 2
    ∷ Entry.Say 1 2
    ∷ Entry.End 1
    ∷ Entry.Finish Outcome.Exit
    ∷ []

-- the value passes at the case that receives from the other channel
abbrev pub other_case : List Entry
other_case =
    Entry.Make 1 0
    ∷ Entry.Make 1 1
    ∷ Entry.Go 1 2 1
    ∷ Entry.Pair (plainly 2) (at_case 1 1) 1 7
    ∷ []

-- the body of the other case follows
abbrev pub other_body : List Entry
other_body =
    Entry.Make 1 0
    ∷ Entry.Make 1 1
    ∷ Entry.Go 1 2 1
    ∷ Entry.Pair (plainly 2) (at_case 1 2) 1 7
    ∷ Entry.Say 1 1
    ∷ []
