-- wg w / func main / add w -1 / end
use Rattle.std.specs.Prelude.{negsuc, ◌∷◌, [], List, codes}
use Rattle.gt_model.specs.declared.script.Script.{Script}
use Rattle.gt_model.specs.declared.script.Instr.{Instr}
use Rattle.gt_model.specs.declared.script.What.{What}
use Rattle.gt_model.specs.declared.entry.Entry.{Entry}
use Rattle.gt_model.specs.declared.entry.Reason.{Reason}
use Rattle.gt_model.specs.declared.entry.Outcome.{Outcome}
use Rattle.gt_examples.specs.Words.{plainly}

abbrev pub script : Script
script = record {
  decls = (record { name = codes "w"; what = What.Wg }) ∷ (record { name = codes "main"; what = What.Function }) ∷ [];
  funcs = (record { decl = 1; code = Instr.Add 0 (negsuc 0) ∷ Instr.Finish ∷ [] }) ∷ [];
  main = 0;
}

abbrev pub history : List Entry
history =
    Entry.Panic (plainly 1) Reason.Negative
    ∷ Entry.Finish Outcome.Panic
    ∷ []

-- the counter is below 0, and the run goes on
abbrev pub goes_on : List Entry
goes_on =
    Entry.Add 1 0 (negsuc 0)
    ∷ Entry.End 1
    ∷ Entry.Finish Outcome.Exit
    ∷ []
