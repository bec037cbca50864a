-- Short words for the scripts of worked examples.
use Rattle.std.specs.Prelude.{ℕ, List, [], ◌∷◌, codes}
use Rattle.gt_model.specs.declared.script.Script.{Script}
use Rattle.gt_model.specs.declared.script.What.{What}
use Rattle.gt_model.specs.declared.script.Instr.{Instr}
use Rattle.gt_model.specs.declared.script.Case.{Case}
use Rattle.gt_model.specs.declared.script.CaseKind.{CaseKind}
use Rattle.gt_model.specs.declared.entry.Limits.{Limits}
use Rattle.gt_model.specs.declared.entry.Party.{Party}

-- a script whose only function is main, with this code
abbrev pub main_alone : List Instr → Script
main_alone code = record {
  decls = (record { name = codes "main"; what = What.Function }) ∷ [];
  funcs = (record { decl = 0; code = code }) ∷ [];
  main = 0;
}

-- a goroutine at a plain instruction
abbrev pub plainly : ℕ → Party
plainly g = record { g = g; case_no = 0 }

-- a goroutine at its case with this number
abbrev pub at_case : ℕ → ℕ → Party
at_case g case_no = record { g = g; case_no = case_no }

-- a case, and where its body begins
abbrev pub case_of : CaseKind → ℕ → Case
case_of kind to = record { kind = kind; to = to }

abbrev pub default_limits : Limits
default_limits = record { entries = 10000 }
