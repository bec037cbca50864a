-- mutex m / func main / lock m / lock m / end
use Rattle.std.specs.Prelude.{◌∷◌, [], List, codes}
use Rattle.gt_model.specs.declared.script.Script.{Script}
use Rattle.gt_model.specs.declared.script.Instr.{Instr}
use Rattle.gt_model.specs.declared.script.What.{What}
use Rattle.gt_model.specs.declared.entry.Entry.{Entry}
use Rattle.gt_model.specs.declared.entry.Outcome.{Outcome}

abbrev pub script : Script
script = record {
  decls = (record { name = codes "m"; what = What.Mutex }) ∷ (record { name = codes "main"; what = What.Function }) ∷ [];
  funcs = (record { decl = 1; code = Instr.Lock 0 ∷ Instr.Lock 0 ∷ Instr.Finish ∷ [] }) ∷ [];
  main = 0;
}

abbrev pub history : List Entry
history =
    Entry.Lock 1 0
    ∷ Entry.Finish Outcome.Deadlock
    ∷ []

-- main locks what it has
abbrev pub locks_again : List Entry
locks_again =
    Entry.Lock 1 0
    ∷ Entry.Lock 1 0
    ∷ []
