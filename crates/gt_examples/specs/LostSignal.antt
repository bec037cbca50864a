-- mutex m / cond k m / func main / signal k / lock m / cwait k / unlock m / end
use Rattle.std.specs.Prelude.{◌∷◌, [], List, codes}
use Rattle.std.specs.declared.option.Option.TheVariants.{None}
use Rattle.gt_model.specs.declared.script.Script.{Script}
use Rattle.gt_model.specs.declared.script.Instr.{Instr}
use Rattle.gt_model.specs.declared.script.What.{What}
use Rattle.gt_model.specs.declared.entry.Entry.{Entry}
use Rattle.gt_model.specs.declared.entry.Outcome.{Outcome}

abbrev pub script : Script
script = record {
  decls =
      (record { name = codes "m"; what = What.Mutex })
      ∷ (record { name = codes "k"; what = What.Cond 0 })
      ∷ (record { name = codes "main"; what = What.Function })
      ∷ [];
  funcs = (record { decl = 2; code = Instr.Signal 1 ∷ Instr.Lock 0 ∷ Instr.CWait 1 ∷ Instr.Unlock 0 ∷ Instr.Finish ∷ [] }) ∷ [];
  main = 0;
}

-- main signals before somebody waits, and then nobody signals main
abbrev pub history : List Entry
history =
    Entry.Signal 1 1 None
    ∷ Entry.Lock 1 0
    ∷ Entry.CondWait 1 1
    ∷ Entry.Finish Outcome.Deadlock
    ∷ []

-- the signal wakes main, which waits after it
abbrev pub wakes_later : List Entry
wakes_later =
    Entry.Signal 1 1 None
    ∷ Entry.Lock 1 0
    ∷ Entry.CondWait 1 1
    ∷ Entry.CondWake 1 1
    ∷ []
