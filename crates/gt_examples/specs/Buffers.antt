-- chan c 1 / func main / make c / go b / recv c / recv c / recv c / end / func b / send c 1 / send c 2 / close c / end
use Rattle.std.specs.Prelude.{◌∷◌, [], List, codes}
use Rattle.std.specs.declared.option.Option.TheVariants.{None, Some}
use Rattle.gt_model.specs.declared.script.Script.{Script}
use Rattle.gt_model.specs.declared.script.Instr.{Instr}
use Rattle.gt_model.specs.declared.script.What.{What}
use Rattle.gt_model.specs.declared.entry.Entry.{Entry}
use Rattle.gt_model.specs.declared.entry.Outcome.{Outcome}
use Rattle.gt_examples.specs.Words.{plainly}

abbrev pub script : Script
script = record {
  decls = (record { name = codes "c"; what = What.Chan 1 }) ∷ (record { name = codes "main"; what = What.Function }) ∷ (record { name = codes "b"; what = What.Function }) ∷ [];
  funcs =
      (record { decl = 1; code = Instr.Make 0 ∷ Instr.Go 1 ∷ Instr.Recv 0 ∷ Instr.Recv 0 ∷ Instr.Recv 0 ∷ Instr.Finish ∷ [] })
      ∷ (record { decl = 2; code = Instr.Send 0 1 ∷ Instr.Send 0 2 ∷ Instr.Close 0 ∷ Instr.Finish ∷ [] })
      ∷ [];
  main = 0;
}

abbrev pub history : List Entry
history =
    Entry.Make 1 0
    ∷ Entry.Go 1 2 1
    ∷ Entry.Send (plainly 2) 0 1
    ∷ Entry.Recv (plainly 1) 0 (Some 1)
    ∷ Entry.Send (plainly 2) 0 2
    ∷ Entry.Close 2 0
    ∷ Entry.Recv (plainly 1) 0 (Some 2)
    ∷ Entry.Recv (plainly 1) 0 None
    ∷ Entry.End 1
    ∷ Entry.Finish Outcome.Exit
    ∷ []

-- the second value comes first
abbrev pub second_first : List Entry
second_first =
    Entry.Make 1 0
    ∷ Entry.Go 1 2 1
    ∷ Entry.Send (plainly 2) 0 1
    ∷ Entry.Recv (plainly 1) 0 (Some 2)
    ∷ []

-- the channel keeps two values
abbrev pub past_its_capacity : List Entry
past_its_capacity =
    Entry.Make 1 0
    ∷ Entry.Go 1 2 1
    ∷ Entry.Send (plainly 2) 0 1
    ∷ Entry.Send (plainly 2) 0 2
    ∷ []

-- the value passes the channel by
abbrev pub passed_by : List Entry
passed_by =
    Entry.Make 1 0
    ∷ Entry.Go 1 2 1
    ∷ Entry.Pair (plainly 2) (plainly 1) 0 1
    ∷ []

-- the channel is open and keeps nothing
abbrev pub gives_none : List Entry
gives_none =
    Entry.Make 1 0
    ∷ Entry.Go 1 2 1
    ∷ Entry.Recv (plainly 1) 0 None
    ∷ []

-- the first value comes twice
abbrev pub first_twice : List Entry
first_twice =
    Entry.Make 1 0
    ∷ Entry.Go 1 2 1
    ∷ Entry.Send (plainly 2) 0 1
    ∷ Entry.Recv (plainly 1) 0 (Some 1)
    ∷ Entry.Recv (plainly 1) 0 (Some 1)
    ∷ []
