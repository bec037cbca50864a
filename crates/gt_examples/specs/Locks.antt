-- mutex m / wg w / func main / add w 1 / go f / lock m / unlock m / wait w / end / func f / lock m / unlock m / done w / end
use Rattle.std.specs.Prelude.{pos, negsuc, ◌∷◌, [], List, codes}
use Rattle.gt_model.specs.declared.script.Script.{Script}
use Rattle.gt_model.specs.declared.script.Instr.{Instr}
use Rattle.gt_model.specs.declared.script.What.{What}
use Rattle.gt_model.specs.declared.entry.Entry.{Entry}
use Rattle.gt_model.specs.declared.entry.Outcome.{Outcome}

abbrev pub script : Script
script = record {
  decls =
      (record { name = codes "m"; what = What.Mutex })
      ∷ (record { name = codes "w"; what = What.Wg })
      ∷ (record { name = codes "main"; what = What.Function })
      ∷ (record { name = codes "f"; what = What.Function })
      ∷ [];
  funcs =
      (record { decl = 2; code = Instr.Add 1 (pos 1) ∷ Instr.Go 1 ∷ Instr.Lock 0 ∷ Instr.Unlock 0 ∷ Instr.Wait 1 ∷ Instr.Finish ∷ [] })
      ∷ (record { decl = 3; code = Instr.Lock 0 ∷ Instr.Unlock 0 ∷ Instr.Add 1 (negsuc 0) ∷ Instr.Finish ∷ [] })
      ∷ [];
  main = 0;
}

abbrev pub history : List Entry
history =
    Entry.Add 1 1 (pos 1)
    ∷ Entry.Go 1 2 1
    ∷ Entry.Lock 1 0
    ∷ Entry.Unlock 1 0
    ∷ Entry.Lock 2 0
    ∷ Entry.Unlock 2 0
    ∷ Entry.Add 2 1 (negsuc 0)
    ∷ Entry.WgWait 1 1
    ∷ Entry.End 1
    ∷ Entry.Finish Outcome.Exit
    ∷ []

-- f locks the mutex while main has it
abbrev pub two_hold : List Entry
two_hold =
    Entry.Add 1 1 (pos 1)
    ∷ Entry.Go 1 2 1
    ∷ Entry.Lock 1 0
    ∷ Entry.Lock 2 0
    ∷ []

-- main goes on behind its wait while the counter is 1
abbrev pub above_zero : List Entry
above_zero =
    Entry.Add 1 1 (pos 1)
    ∷ Entry.Go 1 2 1
    ∷ Entry.Lock 1 0
    ∷ Entry.Unlock 1 0
    ∷ Entry.WgWait 1 1
    ∷ []

-- a deadlock while main waits and f could lock the mutex
abbrev pub deadlock_beside_a_lock : List Entry
deadlock_beside_a_lock =
    Entry.Add 1 1 (pos 1)
    ∷ Entry.Go 1 2 1
    ∷ Entry.Lock 1 0
    ∷ Entry.Unlock 1 0
    ∷ Entry.Finish Outcome.Deadlock
    ∷ []
