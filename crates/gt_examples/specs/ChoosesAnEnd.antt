-- ctx x root cancel / chan c 0 / func main / with x / make c / go f / select / case recv c / say 1 / case recv x / say 2 / end / end; func f / cancel x / end
use Rattle.std.specs.Prelude.{◌∷◌, [], List, codes, true, false}
use Rattle.std.specs.declared.option.Option.TheVariants.{None}
use Rattle.gt_model.specs.declared.script.Script.{Script}
use Rattle.gt_model.specs.declared.script.Instr.{Instr}
use Rattle.gt_model.specs.declared.script.CaseKind.{CaseKind}
use Rattle.gt_model.specs.declared.script.What.{What}
use Rattle.gt_model.specs.declared.context.Form.{Form}
use Rattle.gt_model.specs.declared.entry.Entry.{Entry}
use Rattle.gt_model.specs.declared.entry.Outcome.{Outcome}
use Rattle.gt_examples.specs.Words.{at_case, case_of}

abbrev pub script : Script
script = record {
  decls =
      (record { name = codes "x"; what = What.Ctx None Form.Cancel })
      ∷ (record { name = codes "c"; what = What.Chan 0 })
      ∷ (record { name = codes "main"; what = What.Function })
      ∷ (record { name = codes "f"; what = What.Function })
      ∷ [];
  funcs =
      (record {
        decl = 2;
        code = Instr.With 0 ∷ Instr.Make 1 ∷ Instr.Go 1 ∷ Instr.Select (case_of (CaseKind.Recv 1) 4 ∷ case_of (CaseKind.Recv 0) 6 ∷ []) None ∷ Instr.Say 1
            ∷ Instr.Jump 8 ∷ Instr.Say 2 ∷ Instr.Jump 8 ∷ Instr.Finish ∷ [];
      })
      ∷ (record { decl = 3; code = Instr.Cancel 0 None ∷ Instr.Finish ∷ [] })
      ∷ [];
  main = 0;
}

abbrev pub history : List Entry
history =
    Entry.CtxMake 1 0 false
    ∷ Entry.Make 1 1
    ∷ Entry.Go 1 2 1
    ∷ Entry.Cancel 2 0 true 0
    ∷ Entry.CtxDone (at_case 1 2) 0
    ∷ Entry.Say 1 2
    ∷ Entry.End 2
    ∷ Entry.End 1
    ∷ Entry.Finish Outcome.Exit
    ∷ []

-- the choice goes on at the other case
abbrev pub other_case : List Entry
other_case =
    Entry.CtxMake 1 0 false
    ∷ Entry.Make 1 1
    ∷ Entry.Go 1 2 1
    ∷ Entry.Cancel 2 0 true 0
    ∷ Entry.CtxDone (at_case 1 1) 0
    ∷ []
