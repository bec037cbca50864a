-- error stop / error slow / ctx p root timeout 10ms slow / ctx c p cause / ctx d c cancel / ctx q p timeout 1h / hook h d f / func main / with p / with c / with d / with q / after h / sleep 5ms
-- / cancel c stop / err d / cause d / recv q / err p / cause p / cause q / cause c / unhook h / end; func f / end
use Rattle.std.specs.Prelude.{◌∷◌, [], List, codes, true, false}
use Rattle.std.specs.declared.option.Option.TheVariants.{None, Some}
use Rattle.gt_model.specs.declared.script.Script.{Script}
use Rattle.gt_model.specs.declared.script.Instr.{Instr}
use Rattle.gt_model.specs.declared.script.What.{What}
use Rattle.gt_model.specs.declared.context.Form.{Form}
use Rattle.gt_model.specs.declared.context.ErrVal.{ErrVal}
use Rattle.gt_model.specs.declared.context.CauseVal.{CauseVal}
use Rattle.gt_model.specs.declared.entry.Entry.{Entry}
use Rattle.gt_model.specs.declared.entry.Outcome.{Outcome}
use Rattle.gt_examples.specs.Words.{plainly}

abbrev pub script : Script
script = record {
  decls =
      (record { name = codes "stop"; what = What.Error })
      ∷ (record { name = codes "slow"; what = What.Error })
      ∷ (record { name = codes "p"; what = What.Ctx None (Form.Timeout 10000000 (Some 1)) })
      ∷ (record { name = codes "c"; what = What.Ctx (Some 2) Form.Cause })
      ∷ (record { name = codes "d"; what = What.Ctx (Some 3) Form.Cancel })
      ∷ (record { name = codes "q"; what = What.Ctx (Some 2) (Form.Timeout 3600000000000 None) })
      ∷ (record { name = codes "h"; what = What.Hook 4 1 })
      ∷ (record { name = codes "main"; what = What.Function })
      ∷ (record { name = codes "f"; what = What.Function })
      ∷ [];
  funcs =
      (record {
        decl = 7;
        code = Instr.With 2 ∷ Instr.With 3 ∷ Instr.With 4 ∷ Instr.With 5 ∷ Instr.After 6 ∷ Instr.Sleep 5000000 ∷ Instr.Cancel 3 (Some 0) ∷ Instr.ErrOf 4
            ∷ Instr.CauseOf 4 ∷ Instr.Recv 5 ∷ Instr.ErrOf 2 ∷ Instr.CauseOf 2 ∷ Instr.CauseOf 5 ∷ Instr.CauseOf 3 ∷ Instr.Unhook 6 ∷ Instr.Finish ∷ [];
      })
      ∷ (record { decl = 8; code = Instr.Finish ∷ [] })
      ∷ [];
  main = 0;
}

abbrev pub history : List Entry
history =
    Entry.CtxMake 1 2 false
    ∷ Entry.CtxMake 1 3 false
    ∷ Entry.CtxMake 1 4 false
    ∷ Entry.CtxMake 1 5 false
    ∷ Entry.CtxAfter 1 6 None
    ∷ Entry.Sleep 1 (Some 5000000)
    ∷ Entry.Clock 0 5000000
    ∷ Entry.Wake 1
    ∷ Entry.Cancel 1 3 true 1
    ∷ Entry.End 2
    ∷ Entry.CtxErr 1 4 (Some ErrVal.Canceled)
    ∷ Entry.Cause 1 4 (Some (CauseVal.Named 0))
    ∷ Entry.Clock 0 10000000
    ∷ Entry.Expire 2 0
    ∷ Entry.CtxDone (plainly 1) 5
    ∷ Entry.CtxErr 1 2 (Some ErrVal.DeadlineExceeded)
    ∷ Entry.Cause 1 2 (Some (CauseVal.Named 1))
    ∷ Entry.Cause 1 5 (Some (CauseVal.Named 1))
    ∷ Entry.Cause 1 3 (Some (CauseVal.Named 0))
    ∷ Entry.CtxStop 1 6 false
    ∷ Entry.End 1
    ∷ Entry.Finish Outcome.Exit
    ∷ []

-- the deadline of the parent overwrites a cause
abbrev pub overwrites : List Entry
overwrites =
    Entry.CtxMake 1 2 false
    ∷ Entry.CtxMake 1 3 false
    ∷ Entry.CtxMake 1 4 false
    ∷ Entry.CtxMake 1 5 false
    ∷ Entry.CtxAfter 1 6 None
    ∷ Entry.Sleep 1 (Some 5000000)
    ∷ Entry.Clock 0 5000000
    ∷ Entry.Wake 1
    ∷ Entry.Cancel 1 3 true 1
    ∷ Entry.End 2
    ∷ Entry.CtxErr 1 4 (Some ErrVal.Canceled)
    ∷ Entry.Cause 1 4 (Some (CauseVal.Named 0))
    ∷ Entry.Clock 0 10000000
    ∷ Entry.Expire 2 0
    ∷ Entry.CtxDone (plainly 1) 5
    ∷ Entry.CtxErr 1 2 (Some ErrVal.DeadlineExceeded)
    ∷ Entry.Cause 1 2 (Some (CauseVal.Named 1))
    ∷ Entry.Cause 1 5 (Some (CauseVal.Named 1))
    ∷ Entry.Cause 1 3 (Some (CauseVal.Named 1))
    ∷ []

-- a deadline ends its context before its time
abbrev pub early : List Entry
early =
    Entry.CtxMake 1 2 false
    ∷ Entry.CtxMake 1 3 false
    ∷ Entry.CtxMake 1 4 false
    ∷ Entry.CtxMake 1 5 false
    ∷ Entry.CtxAfter 1 6 None
    ∷ Entry.Sleep 1 (Some 5000000)
    ∷ Entry.Clock 0 5000000
    ∷ Entry.Wake 1
    ∷ Entry.Expire 2 0
    ∷ []
