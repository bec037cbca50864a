-- mutex m / cond k m / wg w / func main / add w 1 / go b / lock m / cwait k / unlock m / wait w / end / func b / lock m / signal k / unlock m / done w / end
use Rattle.std.specs.Prelude.{pos, negsuc, ◌∷◌, [], List, codes}
use Rattle.std.specs.declared.option.Option.TheVariants.{Some}
use Rattle.gt_model.specs.declared.script.Script.{Script}
use Rattle.gt_model.specs.declared.script.Instr.{Instr}
use Rattle.gt_model.specs.declared.script.What.{What}
use Rattle.gt_model.specs.declared.entry.Entry.{Entry}
use Rattle.gt_model.specs.declared.entry.Outcome.{Outcome}

abbrev pub script : Script
script = record {
  decls =
      (record { name = codes "m"; what = What.Mutex })
      ∷ (record { name = codes "k"; what = What.Cond 0 })
      ∷ (record { name = codes "w"; what = What.Wg })
      ∷ (record { name = codes "main"; what = What.Function })
      ∷ (record { name = codes "b"; what = What.Function })
      ∷ [];
  funcs =
      (record { decl = 3; code = Instr.Add 2 (pos 1) ∷ Instr.Go 1 ∷ Instr.Lock 0 ∷ Instr.CWait 1 ∷ Instr.Unlock 0 ∷ Instr.Wait 2 ∷ Instr.Finish ∷ [] })
      ∷ (record { decl = 4; code = Instr.Lock 0 ∷ Instr.Signal 1 ∷ Instr.Unlock 0 ∷ Instr.Add 2 (negsuc 0) ∷ Instr.Finish ∷ [] })
      ∷ [];
  main = 0;
}

-- b signals main, which goes on once the mutex is free
abbrev pub history : List Entry
history =
    Entry.Add 1 2 (pos 1)
    ∷ Entry.Go 1 2 1
    ∷ Entry.Lock 1 0
    ∷ Entry.CondWait 1 1
    ∷ Entry.Lock 2 0
    ∷ Entry.Signal 2 1 (Some 1)
    ∷ Entry.Unlock 2 0
    ∷ Entry.CondWake 1 1
    ∷ Entry.Add 2 2 (negsuc 0)
    ∷ Entry.End 2
    ∷ Entry.Unlock 1 0
    ∷ Entry.WgWait 1 2
    ∷ Entry.End 1
    ∷ Entry.Finish Outcome.Exit
    ∷ []

-- main has the mutex again while b has it
abbrev pub wakes_over_a_lock : List Entry
wakes_over_a_lock =
    Entry.Add 1 2 (pos 1)
    ∷ Entry.Go 1 2 1
    ∷ Entry.Lock 1 0
    ∷ Entry.CondWait 1 1
    ∷ Entry.Lock 2 0
    ∷ Entry.Signal 2 1 (Some 1)
    ∷ Entry.CondWake 1 1
    ∷ []

-- main goes on behind its wait, and nobody signalled it
abbrev pub wakes_unsignalled : List Entry
wakes_unsignalled =
    Entry.Add 1 2 (pos 1)
    ∷ Entry.Go 1 2 1
    ∷ Entry.Lock 1 0
    ∷ Entry.CondWait 1 1
    ∷ Entry.CondWake 1 1
    ∷ []

-- a deadlock while main was signalled and the mutex is free
abbrev pub deadlock_beside_a_signal : List Entry
deadlock_beside_a_signal =
    Entry.Add 1 2 (pos 1)
    ∷ Entry.Go 1 2 1
    ∷ Entry.Lock 1 0
    ∷ Entry.CondWait 1 1
    ∷ Entry.Lock 2 0
    ∷ Entry.Signal 2 1 (Some 1)
    ∷ Entry.Unlock 2 0
    ∷ Entry.Add 2 2 (negsuc 0)
    ∷ Entry.End 2
    ∷ Entry.Finish Outcome.Deadlock
    ∷ []
