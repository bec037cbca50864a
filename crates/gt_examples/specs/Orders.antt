-- chan c 2 / func main / make c / send c 1 / send c 2 / recv c / recv c / end
use Rattle.std.specs.Prelude.{◌∷◌, [], List, codes}
use Rattle.std.specs.declared.option.Option.TheVariants.{Some}
use Rattle.gt_model.specs.declared.script.Script.{Script}
use Rattle.gt_model.specs.declared.script.Instr.{Instr}
use Rattle.gt_model.specs.declared.script.What.{What}
use Rattle.gt_model.specs.declared.entry.Entry.{Entry}
use Rattle.gt_model.specs.declared.entry.Outcome.{Outcome}
use Rattle.gt_examples.specs.Words.{plainly}

abbrev pub script : Script
script = record {
  decls = (record { name = codes "c"; what = What.Chan 2 }) ∷ (record { name = codes "main"; what = What.Function }) ∷ [];
  funcs = (record { decl = 1; code = Instr.Make 0 ∷ Instr.Send 0 1 ∷ Instr.Send 0 2 ∷ Instr.Recv 0 ∷ Instr.Recv 0 ∷ Instr.Finish ∷ [] }) ∷ [];
  main = 0;
}

abbrev pub history : List Entry
history =
    Entry.Make 1 0
    ∷ Entry.Send (plainly 1) 0 1
    ∷ Entry.Send (plainly 1) 0 2
    ∷ Entry.Recv (plainly 1) 0 (Some 1)
    ∷ Entry.Recv (plainly 1) 0 (Some 2)
    ∷ Entry.End 1
    ∷ Entry.Finish Outcome.Exit
    ∷ []

-- of the two values that the channel keeps the second one comes first
abbrev pub second_first : List Entry
second_first =
    Entry.Make 1 0
    ∷ Entry.Send (plainly 1) 0 1
    ∷ Entry.Send (plainly 1) 0 2
    ∷ Entry.Recv (plainly 1) 0 (Some 2)
    ∷ []
