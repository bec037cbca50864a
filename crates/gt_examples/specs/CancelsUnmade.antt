-- ctx x root cancel / func main / cancel x / end
use Rattle.std.specs.Prelude.{◌∷◌, [], List, codes, true}
use Rattle.std.specs.declared.option.Option.TheVariants.{None}
use Rattle.gt_model.specs.declared.script.Script.{Script}
use Rattle.gt_model.specs.declared.script.Instr.{Instr}
use Rattle.gt_model.specs.declared.script.What.{What}
use Rattle.gt_model.specs.declared.context.Form.{Form}
use Rattle.gt_model.specs.declared.entry.Entry.{Entry}
use Rattle.gt_model.specs.declared.entry.Outcome.{Outcome}
use Rattle.gt_model.specs.declared.entry.Reason.{Reason}
use Rattle.gt_examples.specs.Words.{plainly}

abbrev pub script : Script
script = record {
  decls =
      (record { name = codes "x"; what = What.Ctx None Form.Cancel })
      ∷ (record { name = codes "main"; what = What.Function })
      ∷ [];
  funcs =
      (record { decl = 1; code = Instr.Cancel 0 None ∷ Instr.Finish ∷ [] })
      ∷ [];
  main = 0;
}

abbrev pub history : List Entry
history =
    Entry.Panic (plainly 1) Reason.Unmade
    ∷ Entry.Finish Outcome.Panic
    ∷ []

-- main goes on
abbrev pub goes_on : List Entry
goes_on =
    Entry.Cancel 1 0 true 0
    ∷ []
