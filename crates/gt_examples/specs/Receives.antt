-- timer t / func main / new t 1ms / recv t / stop t / end
use Rattle.std.specs.Prelude.{◌∷◌, [], List, false, codes}
use Rattle.std.specs.declared.option.Option.TheVariants.{None, Some}
use Rattle.gt_model.specs.declared.script.Script.{Script}
use Rattle.gt_model.specs.declared.script.Instr.{Instr}
use Rattle.gt_model.specs.declared.script.What.{What}
use Rattle.gt_model.specs.declared.entry.Entry.{Entry}
use Rattle.gt_model.specs.declared.entry.Outcome.{Outcome}
use Rattle.gt_examples.specs.Words.{plainly}

abbrev pub script : Script
script = record {
  decls = (record { name = codes "t"; what = What.Timer }) ∷ (record { name = codes "main"; what = What.Function }) ∷ [];
  funcs = (record { decl = 1; code = Instr.New 0 1000000 ∷ Instr.Recv 0 ∷ Instr.Stop 0 ∷ Instr.Finish ∷ [] }) ∷ [];
  main = 0;
}

abbrev pub history : List Entry
history =
    Entry.New 1 0 1000000
    ∷ Entry.Clock 0 1000000
    ∷ Entry.TRecv (plainly 1) 0 1000000 None
    ∷ Entry.Stop 1 0 (Some false)
    ∷ Entry.End 1
    ∷ Entry.Finish Outcome.Exit
    ∷ []

abbrev pub early : List Entry
early =
    Entry.New 1 0 1000000
    ∷ Entry.TRecv (plainly 1) 0 1000000 None
    ∷ Entry.Stop 1 0 (Some false)
    ∷ Entry.End 1
    ∷ Entry.Finish Outcome.Exit
    ∷ []
