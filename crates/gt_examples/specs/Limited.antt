-- func main / say 1 / say 2 / end, with room for two entries
use Rattle.std.specs.Prelude.{List, [], ◌∷◌}
use Rattle.gt_model.specs.declared.script.Script.{Script}
use Rattle.gt_model.specs.declared.script.Instr.{Instr}
use Rattle.gt_model.specs.declared.entry.Entry.{Entry}
use Rattle.gt_model.specs.declared.entry.Limits.{Limits}
use Rattle.gt_model.specs.declared.entry.Outcome.{Outcome}
use Rattle.gt_examples.specs.Words.{main_alone}

abbrev pub script : Script
script = main_alone (Instr.Say 1 ∷ Instr.Say 2 ∷ Instr.Finish ∷ [])

abbrev pub limits : Limits
limits = record { entries = 2 }

abbrev pub history : List Entry
history = Entry.Say 1 1 ∷ Entry.Say 1 2 ∷ Entry.Finish Outcome.Limit ∷ []

-- the limit before its time, and an entry past it
abbrev pub early : List Entry
early = Entry.Say 1 1 ∷ Entry.Finish Outcome.Limit ∷ []

abbrev pub late : List Entry
late = Entry.Say 1 1 ∷ Entry.Say 1 2 ∷ Entry.End 1 ∷ Entry.Finish Outcome.Exit ∷ []
