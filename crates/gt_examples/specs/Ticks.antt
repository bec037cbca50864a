-- ticker k / func main / new k 10ms / sleep 35ms / recv k / recv k / end
use Rattle.std.specs.Prelude.{◌∷◌, [], List, true, codes}
use Rattle.std.specs.declared.option.Option.TheVariants.{None, Some}
use Rattle.gt_model.specs.declared.script.Script.{Script}
use Rattle.gt_model.specs.declared.script.Instr.{Instr}
use Rattle.gt_model.specs.declared.script.What.{What}
use Rattle.gt_model.specs.declared.entry.Entry.{Entry}
use Rattle.gt_model.specs.declared.entry.Reason.{Reason}
use Rattle.gt_model.specs.declared.entry.Outcome.{Outcome}
use Rattle.gt_examples.specs.Words.{plainly}

abbrev pub script : Script
script = record {
  decls = (record { name = codes "k"; what = What.Ticker }) ∷ (record { name = codes "main"; what = What.Function }) ∷ [];
  funcs = (record { decl = 1; code = Instr.New 0 10000000 ∷ Instr.Sleep 35000000 ∷ Instr.Recv 0 ∷ Instr.Recv 0 ∷ Instr.Finish ∷ [] }) ∷ [];
  main = 0;
}

abbrev pub history : List Entry
history =
    Entry.New 1 0 10000000
    ∷ Entry.Sleep 1 (Some 35000000)
    ∷ Entry.Clock 0 35000000
    ∷ Entry.Wake 1
    ∷ Entry.TRecv (plainly 1) 0 10000000 (Some 40000000)
    ∷ Entry.Clock 0 40000000
    ∷ Entry.TRecv (plainly 1) 0 40000000 (Some 50000000)
    ∷ Entry.End 1
    ∷ Entry.Finish Outcome.Exit
    ∷ []

-- the second tick is a period behind the receive of the first one, in place of the first one itself
abbrev pub drifts : List Entry
drifts =
    Entry.New 1 0 10000000
    ∷ Entry.Sleep 1 (Some 35000000)
    ∷ Entry.Clock 0 35000000
    ∷ Entry.Wake 1
    ∷ Entry.TRecv (plainly 1) 0 10000000 (Some 45000000)
    ∷ Entry.Clock 0 45000000
    ∷ Entry.TRecv (plainly 1) 0 45000000 (Some 55000000)
    ∷ Entry.End 1
    ∷ Entry.Finish Outcome.Exit
    ∷ []

-- a tick that is still to come is passed over
abbrev pub passes_over : List Entry
passes_over =
    Entry.New 1 0 10000000
    ∷ Entry.Sleep 1 (Some 35000000)
    ∷ Entry.Clock 0 35000000
    ∷ Entry.Wake 1
    ∷ Entry.TRecv (plainly 1) 0 10000000 (Some 50000000)
    ∷ Entry.Clock 0 50000000
    ∷ Entry.TRecv (plainly 1) 0 50000000 (Some 60000000)
    ∷ Entry.End 1
    ∷ Entry.Finish Outcome.Exit
    ∷ []

-- ticker k / func main / new k 10ms / reset k 20ms / stop k / end
abbrev pub stopped : Script
stopped = record {
  decls = (record { name = codes "k"; what = What.Ticker }) ∷ (record { name = codes "main"; what = What.Function }) ∷ [];
  funcs = (record { decl = 1; code = Instr.New 0 10000000 ∷ Instr.Reset 0 20000000 ∷ Instr.Stop 0 ∷ Instr.Finish ∷ [] }) ∷ [];
  main = 0;
}

abbrev pub stops : List Entry
stops =
    Entry.New 1 0 10000000
    ∷ Entry.Reset 1 0 None 20000000
    ∷ Entry.Stop 1 0 None
    ∷ Entry.End 1
    ∷ Entry.Finish Outcome.Exit
    ∷ []

abbrev pub stop_answers : List Entry
stop_answers =
    Entry.New 1 0 10000000
    ∷ Entry.Reset 1 0 None 20000000
    ∷ Entry.Stop 1 0 (Some true)
    ∷ Entry.End 1
    ∷ Entry.Finish Outcome.Exit
    ∷ []

-- ticker k / func main / new k 0 / end
abbrev pub without_a_period : Script
without_a_period = record {
  decls = (record { name = codes "k"; what = What.Ticker }) ∷ (record { name = codes "main"; what = What.Function }) ∷ [];
  funcs = (record { decl = 1; code = Instr.New 0 0 ∷ Instr.Finish ∷ [] }) ∷ [];
  main = 0;
}

abbrev pub panics : List Entry
panics =
    Entry.Panic (plainly 1) Reason.Ticker
    ∷ Entry.Finish Outcome.Panic
    ∷ []

abbrev pub goes_on : List Entry
goes_on =
    Entry.New 1 0 0
    ∷ Entry.End 1
    ∷ Entry.Finish Outcome.Exit
    ∷ []
