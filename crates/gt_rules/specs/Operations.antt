-- The operations of an instruction: what a party receives from, or sends to.
use Rattle.std.specs.Prelude.{ℕ, zero, suc, ◌==◌, Bool, false, is_some, slice_get}
use Rattle.std.specs.List.{list_any}
use Rattle.std.specs.Option.{option_map}
use Rattle.std.specs.declared.option.Option.{Option}
use Rattle.std.specs.declared.option.Option.TheVariants.{None, Some}
use Rattle.gt_model.specs.declared.script.Instr.{Instr}
use Rattle.gt_model.specs.declared.script.Case.{Case}
use Rattle.gt_model.specs.declared.script.CaseKind.{CaseKind}

-- The operation at which an instruction stands under a case number: 0 is a plain one, and the cases of a choice count from 1. A lock takes its mutex, and a wait
-- the end of what its WaitGroup counts, as a receive takes a value
abbrev pub operation : Instr → ℕ → Option CaseKind
operation (Instr.Recv o) zero = Some (CaseKind.Recv o)
operation (Instr.Send c v) zero = Some (CaseKind.Send c v)
operation (Instr.Lock m) zero = Some (CaseKind.Recv m)
operation (Instr.Wait w) zero = Some (CaseKind.Recv w)
operation (Instr.Select cases default_to) (suc k) = option_map (λ (c : Case). c.kind) (slice_get cases k)
operation _ _ = None

-- whether an operation is a receive from this object, or a send to it
abbrev pub receives_from : ℕ → CaseKind → Bool
receives_from o (CaseKind.Recv p) = p == o
receives_from o (CaseKind.Send c v) = false

abbrev pub sends_to : ℕ → CaseKind → Bool
sends_to o (CaseKind.Recv p) = false
sends_to o (CaseKind.Send c v) = c == o

-- whether an operation of an instruction passes a test
abbrev pub offers : (CaseKind → Bool) → Instr → Bool
offers test (Instr.Recv o) = test (CaseKind.Recv o)
offers test (Instr.Send c v) = test (CaseKind.Send c v)
offers test (Instr.Lock m) = test (CaseKind.Recv m)
offers test (Instr.Wait w) = test (CaseKind.Recv w)
offers test (Instr.Select cases default_to) = list_any (λ (c : Case). test c.kind) cases
offers test _ = false

-- whether an instruction goes on where none of its operations can: a choice with a default
abbrev pub polls : Instr → Bool
polls (Instr.Select cases default_to) = is_some default_to
polls _ = false
