-- func main / end
use Rattle.std.specs.Prelude.{List, [], ◌∷◌}
use Rattle.gt_model.specs.declared.script.Script.{Script}
use Rattle.gt_model.specs.declared.script.Instr.{Instr}
use Rattle.gt_model.specs.declared.entry.Entry.{Entry}
use Rattle.gt_model.specs.declared.entry.Outcome.{Outcome}
use Rattle.gt_examples.specs.Words.{main_alone}

abbrev pub script : Script
script = main_alone (Instr.Finish ∷ [])

abbrev pub history : List Entry
history = Entry.End 1 ∷ Entry.Finish Outcome.Exit ∷ []
