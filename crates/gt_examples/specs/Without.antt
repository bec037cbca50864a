-- ctx p root cancel / ctx w p without / ctx c w cancel / func main / with p / with w / with c / cancel p / err c / err p / end
use Rattle.std.specs.Prelude.{◌∷◌, [], List, codes, true, false}
use Rattle.std.specs.declared.option.Option.TheVariants.{None, Some}
use Rattle.gt_model.specs.declared.script.Script.{Script}
use Rattle.gt_model.specs.declared.script.Instr.{Instr}
use Rattle.gt_model.specs.declared.script.What.{What}
use Rattle.gt_model.specs.declared.context.Form.{Form}
use Rattle.gt_model.specs.declared.context.ErrVal.{ErrVal}
use Rattle.gt_model.specs.declared.entry.Entry.{Entry}
use Rattle.gt_model.specs.declared.entry.Outcome.{Outcome}

abbrev pub script : Script
script = record {
  decls =
      (record { name = codes "p"; what = What.Ctx None Form.Cancel })
      ∷ (record { name = codes "w"; what = What.Ctx (Some 0) Form.Without })
      ∷ (record { name = codes "c"; what = What.Ctx (Some 1) Form.Cancel })
      ∷ (record { name = codes "main"; what = What.Function })
      ∷ [];
  funcs =
      (record { decl = 3; code = Instr.With 0 ∷ Instr.With 1 ∷ Instr.With 2 ∷ Instr.Cancel 0 None ∷ Instr.ErrOf 2 ∷ Instr.ErrOf 0 ∷ Instr.Finish ∷ [] })
      ∷ [];
  main = 0;
}

abbrev pub history : List Entry
history =
    Entry.CtxMake 1 0 false
    ∷ Entry.CtxMake 1 1 false
    ∷ Entry.CtxMake 1 2 false
    ∷ Entry.Cancel 1 0 true 0
    ∷ Entry.CtxErr 1 2 None
    ∷ Entry.CtxErr 1 0 (Some ErrVal.Canceled)
    ∷ Entry.End 1
    ∷ Entry.Finish Outcome.Exit
    ∷ []

-- the end passes the context of the form `without`
abbrev pub passes : List Entry
passes =
    Entry.CtxMake 1 0 false
    ∷ Entry.CtxMake 1 1 false
    ∷ Entry.CtxMake 1 2 false
    ∷ Entry.Cancel 1 0 true 0
    ∷ Entry.CtxErr 1 2 (Some ErrVal.Canceled)
    ∷ []
