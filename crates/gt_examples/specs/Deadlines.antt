-- ctx x root timeout 5ms / ctx y x timeout 1h / ctx z root timeout 0s / func main / with x / with y / with z / err z / recv y / err x / cause y / end
use Rattle.std.specs.Prelude.{◌∷◌, [], List, codes, true, false}
use Rattle.std.specs.declared.option.Option.TheVariants.{None, Some}
use Rattle.gt_model.specs.declared.script.Script.{Script}
use Rattle.gt_model.specs.declared.script.Instr.{Instr}
use Rattle.gt_model.specs.declared.script.What.{What}
use Rattle.gt_model.specs.declared.context.Form.{Form}
use Rattle.gt_model.specs.declared.context.ErrVal.{ErrVal}
use Rattle.gt_model.specs.declared.context.CauseVal.{CauseVal}
use Rattle.gt_model.specs.declared.entry.Entry.{Entry}
use Rattle.gt_model.specs.declared.entry.Outcome.{Outcome}
use Rattle.gt_examples.specs.Words.{plainly}

abbrev pub script : Script
script = record {
  decls =
      (record { name = codes "x"; what = What.Ctx None (Form.Timeout 5000000 None) })
      ∷ (record { name = codes "y"; what = What.Ctx (Some 0) (Form.Timeout 3600000000000 None) })
      ∷ (record { name = codes "z"; what = What.Ctx None (Form.Timeout 0 None) })
      ∷ (record { name = codes "main"; what = What.Function })
      ∷ [];
  funcs =
      (record { decl = 3; code = Instr.With 0 ∷ Instr.With 1 ∷ Instr.With 2 ∷ Instr.ErrOf 2 ∷ Instr.Recv 1 ∷ Instr.ErrOf 0 ∷ Instr.CauseOf 1 ∷ Instr.Finish ∷ [] })
      ∷ [];
  main = 0;
}

abbrev pub history : List Entry
history =
    Entry.CtxMake 1 0 false
    ∷ Entry.CtxMake 1 1 false
    ∷ Entry.CtxMake 1 2 true
    ∷ Entry.CtxErr 1 2 (Some ErrVal.DeadlineExceeded)
    ∷ Entry.Clock 0 5000000
    ∷ Entry.Expire 0 0
    ∷ Entry.CtxDone (plainly 1) 1
    ∷ Entry.CtxErr 1 0 (Some ErrVal.DeadlineExceeded)
    ∷ Entry.Cause 1 1 (Some CauseVal.DeadlineExceeded)
    ∷ Entry.End 1
    ∷ Entry.Finish Outcome.Exit
    ∷ []

-- a context whose time is 0 is made without an end
abbrev pub live : List Entry
live =
    Entry.CtxMake 1 0 false
    ∷ Entry.CtxMake 1 1 false
    ∷ Entry.CtxMake 1 2 false
    ∷ []

-- the wait ends before the deadline
abbrev pub found_early : List Entry
found_early =
    Entry.CtxMake 1 0 false
    ∷ Entry.CtxMake 1 1 false
    ∷ Entry.CtxMake 1 2 true
    ∷ Entry.CtxErr 1 2 (Some ErrVal.DeadlineExceeded)
    ∷ Entry.CtxDone (plainly 1) 1
    ∷ []

-- a deadlock before it
abbrev pub gives_up : List Entry
gives_up =
    Entry.CtxMake 1 0 false
    ∷ Entry.CtxMake 1 1 false
    ∷ Entry.CtxMake 1 2 true
    ∷ Entry.CtxErr 1 2 (Some ErrVal.DeadlineExceeded)
    ∷ Entry.Finish Outcome.Deadlock
    ∷ []

-- the deadline of the context below passes, which has none of its own
abbrev pub expires_below : List Entry
expires_below =
    Entry.CtxMake 1 0 false
    ∷ Entry.CtxMake 1 1 false
    ∷ Entry.CtxMake 1 2 true
    ∷ Entry.CtxErr 1 2 (Some ErrVal.DeadlineExceeded)
    ∷ Entry.Clock 0 5000000
    ∷ Entry.Expire 1 0
    ∷ []
