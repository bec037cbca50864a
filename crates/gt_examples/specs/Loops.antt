-- func main / loop 2 / say 1 / loop 0 / say 2 / end / loop 2 / say 3 / end / end / end
use Rattle.std.specs.Prelude.{List, [], ◌∷◌}
use Rattle.gt_model.specs.declared.script.Script.{Script}
use Rattle.gt_model.specs.declared.script.Instr.{Instr}
use Rattle.gt_model.specs.declared.entry.Entry.{Entry}
use Rattle.gt_model.specs.declared.entry.Outcome.{Outcome}
use Rattle.gt_examples.specs.Words.{main_alone}

abbrev pub script : Script
script = main_alone (
    Instr.LoopTop 0 2 9
    ∷ Instr.Say 1
    ∷ Instr.LoopTop 1 0 5
    ∷ Instr.Say 2
    ∷ Instr.LoopEnd 1 2
    ∷ Instr.LoopTop 1 2 8
    ∷ Instr.Say 3
    ∷ Instr.LoopEnd 1 5
    ∷ Instr.LoopEnd 0 0
    ∷ Instr.Finish
    ∷ []
    )

abbrev pub history : List Entry
history =
    Entry.Say 1 1
    ∷ Entry.Say 1 3
    ∷ Entry.Say 1 3
    ∷ Entry.Say 1 1
    ∷ Entry.Say 1 3
    ∷ Entry.Say 1 3
    ∷ Entry.End 1
    ∷ Entry.Finish Outcome.Exit
    ∷ []

-- the outer loop is passed once more
abbrev pub once_more : List Entry
once_more =
    Entry.Say 1 1
    ∷ Entry.Say 1 3
    ∷ Entry.Say 1 3
    ∷ Entry.Say 1 1
    ∷ Entry.Say 1 3
    ∷ Entry.Say 1 3
    ∷ Entry.Say 1 1
    ∷ []

-- the loop with no pass is entered
abbrev pub entered : List Entry
entered =
    Entry.Say 1 1
    ∷ Entry.Say 1 2
    ∷ []
