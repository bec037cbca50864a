-- ctx x root cancel / hook s x f / hook u x f / hook v x f / func main / with x / after s / after u / unhook u / cancel x / after v / unhook s / end; func f / say 1 / end
use Rattle.std.specs.Prelude.{◌∷◌, [], List, codes, true, false}
use Rattle.std.specs.declared.option.Option.TheVariants.{None, Some}
use Rattle.gt_model.specs.declared.script.Script.{Script}
use Rattle.gt_model.specs.declared.script.Instr.{Instr}
use Rattle.gt_model.specs.declared.script.What.{What}
use Rattle.gt_model.specs.declared.context.Form.{Form}
use Rattle.gt_model.specs.declared.entry.Entry.{Entry}
use Rattle.gt_model.specs.declared.entry.Outcome.{Outcome}

abbrev pub script : Script
script = record {
  decls =
      (record { name = codes "x"; what = What.Ctx None Form.Cancel })
      ∷ (record { name = codes "s"; what = What.Hook 0 1 })
      ∷ (record { name = codes "u"; what = What.Hook 0 1 })
      ∷ (record { name = codes "v"; what = What.Hook 0 1 })
      ∷ (record { name = codes "main"; what = What.Function })
      ∷ (record { name = codes "f"; what = What.Function })
      ∷ [];
  funcs =
      (record { decl = 4; code = Instr.With 0 ∷ Instr.After 1 ∷ Instr.After 2 ∷ Instr.Unhook 2 ∷ Instr.Cancel 0 None ∷ Instr.After 3 ∷ Instr.Unhook 1 ∷ Instr.Finish ∷ [] })
      ∷ (record { decl = 5; code = Instr.Say 1 ∷ Instr.Finish ∷ [] })
      ∷ [];
  main = 0;
}

abbrev pub history : List Entry
history =
    Entry.CtxMake 1 0 false
    ∷ Entry.CtxAfter 1 1 None
    ∷ Entry.CtxAfter 1 2 None
    ∷ Entry.CtxStop 1 2 true
    ∷ Entry.Cancel 1 0 true 1
    ∷ Entry.CtxAfter 1 3 (Some 3)
    ∷ Entry.CtxStop 1 1 false
    ∷ Entry.Say 2 1
    ∷ Entry.End 2
    ∷ Entry.Say 3 1
    ∷ Entry.End 3
    ∷ Entry.End 1
    ∷ Entry.Finish Outcome.Exit
    ∷ []

-- a hook starts before the end
abbrev pub starts_early : List Entry
starts_early =
    Entry.CtxMake 1 0 false
    ∷ Entry.CtxAfter 1 1 (Some 2)
    ∷ []

-- it is denied that a hook was kept from being started
abbrev pub denies : List Entry
denies =
    Entry.CtxMake 1 0 false
    ∷ Entry.CtxAfter 1 1 None
    ∷ Entry.CtxAfter 1 2 None
    ∷ Entry.CtxStop 1 2 false
    ∷ []

-- the hook that was taken back starts too
abbrev pub starts_both : List Entry
starts_both =
    Entry.CtxMake 1 0 false
    ∷ Entry.CtxAfter 1 1 None
    ∷ Entry.CtxAfter 1 2 None
    ∷ Entry.CtxStop 1 2 true
    ∷ Entry.Cancel 1 0 true 2
    ∷ []

-- the hook that waits does not start
abbrev pub starts_none : List Entry
starts_none =
    Entry.CtxMake 1 0 false
    ∷ Entry.CtxAfter 1 1 None
    ∷ Entry.CtxAfter 1 2 None
    ∷ Entry.CtxStop 1 2 true
    ∷ Entry.Cancel 1 0 true 0
    ∷ []

-- a hook waits after the end
abbrev pub waits_late : List Entry
waits_late =
    Entry.CtxMake 1 0 false
    ∷ Entry.CtxAfter 1 1 None
    ∷ Entry.CtxAfter 1 2 None
    ∷ Entry.CtxStop 1 2 true
    ∷ Entry.Cancel 1 0 true 1
    ∷ Entry.CtxAfter 1 3 None
    ∷ []
