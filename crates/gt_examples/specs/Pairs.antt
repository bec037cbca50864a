-- chan c 0 / func main / make c / go b / recv c / end / func b / send c 7 / end
use Rattle.std.specs.Prelude.{◌∷◌, [], List, codes}
use Rattle.std.specs.declared.option.Option.TheVariants.{Some}
use Rattle.gt_model.specs.declared.script.Script.{Script}
use Rattle.gt_model.specs.declared.script.Instr.{Instr}
use Rattle.gt_model.specs.declared.script.What.{What}
use Rattle.gt_model.specs.declared.entry.Entry.{Entry}
use Rattle.gt_model.specs.declared.entry.Outcome.{Outcome}
use Rattle.gt_examples.specs.Words.{plainly}

abbrev pub script : Script
script = record {
  decls = (record { name = codes "c"; what = What.Chan 0 }) ∷ (record { name = codes "main"; what = What.Function }) ∷ (record { name = codes "b"; what = What.Function }) ∷ [];
  funcs = (record { decl = 1; code = Instr.Make 0 ∷ Instr.Go 1 ∷ Instr.Recv 0 ∷ Instr.Finish ∷ [] }) ∷ (record { decl = 2; code = Instr.Send 0 7 ∷ Instr.Finish ∷ [] }) ∷ [];
  main = 0;
}

abbrev pub history : List Entry
history =
    Entry.Make 1 0
    ∷ Entry.Go 1 2 1
    ∷ Entry.Pair (plainly 2) (plainly 1) 0 7
    ∷ Entry.End 1
    ∷ Entry.Finish Outcome.Exit
    ∷ []

-- a channel that keeps no values keeps one
abbrev pub keeps_it : List Entry
keeps_it =
    Entry.Make 1 0
    ∷ Entry.Go 1 2 1
    ∷ Entry.Send (plainly 2) 0 7
    ∷ Entry.Recv (plainly 1) 0 (Some 7)
    ∷ Entry.End 1
    ∷ Entry.Finish Outcome.Exit
    ∷ []

-- a deadlock where one sends and the other receives
abbrev pub deadlock_beside_a_partner : List Entry
deadlock_beside_a_partner =
    Entry.Make 1 0
    ∷ Entry.Go 1 2 1
    ∷ Entry.Finish Outcome.Deadlock
    ∷ []
