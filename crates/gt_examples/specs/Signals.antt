-- mutex m / cond k m / func main / go f / go f / lock m / signal k / unlock m / lock m / broadcast k / unlock m / end /
-- func f / lock m / cwait k / unlock m / end
use Rattle.std.specs.Prelude.{◌∷◌, ◌++◌, [], List, codes}
use Rattle.std.specs.declared.option.Option.TheVariants.{None, Some}
use Rattle.gt_model.specs.declared.script.Script.{Script}
use Rattle.gt_model.specs.declared.script.Instr.{Instr}
use Rattle.gt_model.specs.declared.script.What.{What}
use Rattle.gt_model.specs.declared.entry.Entry.{Entry}
use Rattle.gt_model.specs.declared.entry.Outcome.{Outcome}

abbrev pub script : Script
script = record {
  decls =
      (record { name = codes "m"; what = What.Mutex })
      ∷ (record { name = codes "k"; what = What.Cond 0 })
      ∷ (record { name = codes "main"; what = What.Function })
      ∷ (record { name = codes "f"; what = What.Function })
      ∷ [];
  funcs =
      (record { decl = 2; code = Instr.Go 1 ∷ Instr.Go 1 ∷ Instr.Lock 0 ∷ Instr.Signal 1 ∷ Instr.Unlock 0 ∷ Instr.Lock 0 ∷ Instr.Broadcast 1 ∷ Instr.Unlock 0 ∷ Instr.Finish ∷ [] })
      ∷ (record { decl = 3; code = Instr.Lock 0 ∷ Instr.CWait 1 ∷ Instr.Unlock 0 ∷ Instr.Finish ∷ [] })
      ∷ [];
  main = 0;
}

-- two goroutines wait at k, and main has the mutex
abbrev pub both_wait : List Entry
both_wait =
    Entry.Go 1 2 1
    ∷ Entry.Go 1 3 1
    ∷ Entry.Lock 2 0
    ∷ Entry.CondWait 2 1
    ∷ Entry.Lock 3 0
    ∷ Entry.CondWait 3 1
    ∷ Entry.Lock 1 0
    ∷ []

-- the signal wakes the second one, and the broadcast the first one
abbrev pub history : List Entry
history =
    both_wait
    ++ Entry.Signal 1 1 (Some 3)
    ∷ Entry.Unlock 1 0
    ∷ Entry.CondWake 3 1
    ∷ Entry.Unlock 3 0
    ∷ Entry.Lock 1 0
    ∷ Entry.Broadcast 1 1 1
    ∷ Entry.Unlock 1 0
    ∷ Entry.CondWake 2 1
    ∷ Entry.Unlock 2 0
    ∷ Entry.End 1
    ∷ Entry.Finish Outcome.Exit
    ∷ []

-- a signal wakes two: the one that it names, and then the other one
abbrev pub wakes_two : List Entry
wakes_two =
    both_wait
    ++ Entry.Signal 1 1 (Some 3)
    ∷ Entry.Unlock 1 0
    ∷ Entry.CondWake 3 1
    ∷ Entry.Unlock 3 0
    ∷ Entry.CondWake 2 1
    ∷ []

-- a signal wakes nobody, though two wait
abbrev pub wakes_nobody : List Entry
wakes_nobody = both_wait ++ Entry.Signal 1 1 None ∷ []

-- a broadcast counts one that was signalled before
abbrev pub miscounts : List Entry
miscounts =
    both_wait
    ++ Entry.Signal 1 1 (Some 3)
    ∷ Entry.Unlock 1 0
    ∷ Entry.Lock 1 0
    ∷ Entry.Broadcast 1 1 2
    ∷ []
