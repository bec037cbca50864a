-- mutex m / cond k m / func main / cwait k / end
use Rattle.std.specs.Prelude.{◌∷◌, [], List, codes}
use Rattle.gt_model.specs.declared.script.Script.{Script}
use Rattle.gt_model.specs.declared.script.Instr.{Instr}
use Rattle.gt_model.specs.declared.script.What.{What}
use Rattle.gt_model.specs.declared.entry.Entry.{Entry}
use Rattle.gt_model.specs.declared.entry.Reason.{Reason}
use Rattle.gt_model.specs.declared.entry.Outcome.{Outcome}
use Rattle.gt_examples.specs.Words.{plainly}

abbrev pub script : Script
script = record {
  decls =
      (record { name = codes "m"; what = What.Mutex })
      ∷ (record { name = codes "k"; what = What.Cond 0 })
      ∷ (record { name = codes "main"; what = What.Function })
      ∷ [];
  funcs = (record { decl = 2; code = Instr.CWait 1 ∷ Instr.Finish ∷ [] }) ∷ [];
  main = 0;
}

abbrev pub history : List Entry
history =
    Entry.Panic (plainly 1) Reason.Unlocked
    ∷ Entry.Finish Outcome.Panic
    ∷ []

-- the mutex is free, and main waits
abbrev pub goes_on : List Entry
goes_on =
    Entry.CondWait 1 1
    ∷ Entry.Finish Outcome.Deadlock
    ∷ []
