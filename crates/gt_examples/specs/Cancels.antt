-- error e / error f / ctx x root cause / ctx y x cancel / func main / with x / cancel x e / cancel x f / with y / cause x / cause y / end
use Rattle.std.specs.Prelude.{◌∷◌, [], List, codes, true, false}
use Rattle.std.specs.declared.option.Option.TheVariants.{None, Some}
use Rattle.gt_model.specs.declared.script.Script.{Script}
use Rattle.gt_model.specs.declared.script.Instr.{Instr}
use Rattle.gt_model.specs.declared.script.What.{What}
use Rattle.gt_model.specs.declared.context.Form.{Form}
use Rattle.gt_model.specs.declared.context.CauseVal.{CauseVal}
use Rattle.gt_model.specs.declared.entry.Entry.{Entry}
use Rattle.gt_model.specs.declared.entry.Outcome.{Outcome}

abbrev pub script : Script
script = record {
  decls =
      (record { name = codes "e"; what = What.Error })
      ∷ (record { name = codes "f"; what = What.Error })
      ∷ (record { name = codes "x"; what = What.Ctx None Form.Cause })
      ∷ (record { name = codes "y"; what = What.Ctx (Some 2) Form.Cancel })
      ∷ (record { name = codes "main"; what = What.Function })
      ∷ [];
  funcs =
      (record { decl = 4; code = Instr.With 2 ∷ Instr.Cancel 2 (Some 0) ∷ Instr.Cancel 2 (Some 1) ∷ Instr.With 3 ∷ Instr.CauseOf 2 ∷ Instr.CauseOf 3 ∷ Instr.Finish ∷ [] })
      ∷ [];
  main = 0;
}

abbrev pub history : List Entry
history =
    Entry.CtxMake 1 2 false
    ∷ Entry.Cancel 1 2 true 0
    ∷ Entry.Cancel 1 2 false 0
    ∷ Entry.CtxMake 1 3 true
    ∷ Entry.Cause 1 2 (Some (CauseVal.Named 0))
    ∷ Entry.Cause 1 3 (Some (CauseVal.Named 0))
    ∷ Entry.End 1
    ∷ Entry.Finish Outcome.Exit
    ∷ []

-- both cancellations bring an end
abbrev pub ends_twice : List Entry
ends_twice =
    Entry.CtxMake 1 2 false
    ∷ Entry.Cancel 1 2 true 0
    ∷ Entry.Cancel 1 2 true 0
    ∷ []

-- the context below is made without an end
abbrev pub live_below : List Entry
live_below =
    Entry.CtxMake 1 2 false
    ∷ Entry.Cancel 1 2 true 0
    ∷ Entry.Cancel 1 2 false 0
    ∷ Entry.CtxMake 1 3 false
    ∷ []
