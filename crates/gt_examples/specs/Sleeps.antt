-- func main / sleep 5ms / now / end
use Rattle.std.specs.Prelude.{List, [], ◌∷◌}
use Rattle.std.specs.declared.option.Option.TheVariants.{Some}
use Rattle.gt_model.specs.declared.script.Script.{Script}
use Rattle.gt_model.specs.declared.script.Instr.{Instr}
use Rattle.gt_model.specs.declared.entry.Entry.{Entry}
use Rattle.gt_model.specs.declared.entry.Outcome.{Outcome}
use Rattle.gt_examples.specs.Words.{main_alone}

abbrev pub script : Script
script = main_alone (Instr.Sleep 5000000 ∷ Instr.Now ∷ Instr.Finish ∷ [])

abbrev pub history : List Entry
history =
    Entry.Sleep 1 (Some 5000000)
    ∷ Entry.Clock 0 5000000
    ∷ Entry.Wake 1
    ∷ Entry.Now 1 5000000
    ∷ Entry.End 1
    ∷ Entry.Finish Outcome.Exit
    ∷ []

-- the clock moves first
abbrev pub swapped : List Entry
swapped =
    Entry.Clock 0 5000000
    ∷ Entry.Sleep 1 (Some 5000000)
    ∷ Entry.Wake 1
    ∷ Entry.Now 1 5000000
    ∷ Entry.End 1
    ∷ Entry.Finish Outcome.Exit
    ∷ []

-- no clock moves before the sleep ends
abbrev pub early : List Entry
early =
    Entry.Sleep 1 (Some 5000000)
    ∷ Entry.Wake 1
    ∷ Entry.Now 1 0
    ∷ Entry.End 1
    ∷ Entry.Finish Outcome.Exit
    ∷ []

-- the look at the clock answers 5 ms and 1 ns
abbrev pub wrong_time : List Entry
wrong_time =
    Entry.Sleep 1 (Some 5000000)
    ∷ Entry.Clock 0 5000000
    ∷ Entry.Wake 1
    ∷ Entry.Now 1 5000001
    ∷ Entry.End 1
    ∷ Entry.Finish Outcome.Exit
    ∷ []

-- the last entry is left out
abbrev pub cut_short : List Entry
cut_short =
    Entry.Sleep 1 (Some 5000000)
    ∷ Entry.Clock 0 5000000
    ∷ Entry.Wake 1
    ∷ Entry.Now 1 5000000
    ∷ Entry.End 1
    ∷ []
