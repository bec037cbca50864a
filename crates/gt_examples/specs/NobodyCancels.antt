-- ctx x root cancel / func main / with x / recv x / end
use Rattle.std.specs.Prelude.{◌∷◌, [], List, codes, false}
use Rattle.std.specs.declared.option.Option.TheVariants.{None}
use Rattle.gt_model.specs.declared.script.Script.{Script}
use Rattle.gt_model.specs.declared.script.Instr.{Instr}
use Rattle.gt_model.specs.declared.script.What.{What}
use Rattle.gt_model.specs.declared.context.Form.{Form}
use Rattle.gt_model.specs.declared.entry.Entry.{Entry}
use Rattle.gt_model.specs.declared.entry.Outcome.{Outcome}
use Rattle.gt_examples.specs.Words.{plainly}

abbrev pub script : Script
script = record {
  decls =
      (record { name = codes "x"; what = What.Ctx None Form.Cancel })
      ∷ (record { name = codes "main"; what = What.Function })
      ∷ [];
  funcs =
      (record { decl = 1; code = Instr.With 0 ∷ Instr.Recv 0 ∷ Instr.Finish ∷ [] })
      ∷ [];
  main = 0;
}

abbrev pub history : List Entry
history =
    Entry.CtxMake 1 0 false
    ∷ Entry.Finish Outcome.Deadlock
    ∷ []

-- main goes on
abbrev pub goes_on : List Entry
goes_on =
    Entry.CtxMake 1 0 false
    ∷ Entry.CtxDone (plainly 1) 0
    ∷ []
