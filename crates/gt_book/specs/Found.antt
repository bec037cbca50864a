-- What a look for the least time that counts has found so far: a time, and the number of a record that shows it.
use Rattle.std.specs.Prelude.{ℕ, ◌+◌, ◌<◌, ◌≤◌, ◌≡◌, ◌⊎◌, true, IfSome, List, [], ◌∷◌, length}
use Rattle.std.specs.declared.option.Option.{Option}
use Rattle.std.specs.declared.option.Option.TheVariants.{None, Some}
use Rattle.gt_model.specs.declared.script.Script.{Script}
use Rattle.gt_model.specs.declared.script.Instr.{Instr}
use Rattle.gt_model.specs.declared.script.Case.{Case}
use Rattle.gt_model.specs.declared.script.CaseKind.{CaseKind}
use Rattle.gt_model.specs.Script.{is_func}
use Rattle.gt_rules.specs.Operations.{receives_from, offers}
use Rattle.gt_rules.specs.State.{State, stands_at, sleeps_until, due_of, context_at}
use Rattle.gt_rules.specs.Counted.{deadline_in}
use Rattle.gt_book.specs.Least.{IsCountedBy}

-- what was found is there, and not later than a time, if that is one
abbrev pub IsNotLater : Option (ℕ × ℕ) → Option ℕ → Type 0
IsNotLater found None = Unit {0}
IsNotLater None (Some at) = ⊥
IsNotLater (Some x) (Some at) = x.0 ≤ at

-- what was found before, or else this time with the number of its record
abbrev pub IsOneOf : Option (ℕ × ℕ) → Option ℕ → ℕ → Option (ℕ × ℕ) → Type 0
IsOneOf found time id result = (result ≡ found) ⊎ IfTime time
  where
    IfTime : Option ℕ → Type 0
    IfTime None = ⊥
    IfTime (Some at) = result ≡ Some (at, id)

-- what was found before, or else the due time of the timer from which an operation receives, or one of several operations
abbrev pub IsOneDue : State → Option (ℕ × ℕ) → CaseKind → Option (ℕ × ℕ) → Type 0
IsOneDue s found (CaseKind.Recv o) result = IsOneOf found (due_of s o) o result
IsOneDue s found (CaseKind.Send c v) result = result ≡ found

abbrev pub IsOneOfDue : State → Option (ℕ × ℕ) → List Case → Option (ℕ × ℕ) → Type 0
IsOneOfDue s found [] result = result ≡ found
IsOneOfDue s found (c ∷ cases) result = (between : Option (ℕ × ℕ)) × IsOneDue s found c.kind between × IsOneOfDue s between cases result

-- the same of the operations of an instruction
abbrev pub IsOneAt : State → Option (ℕ × ℕ) → Instr → Option (ℕ × ℕ) → Type 0
IsOneAt s found (Instr.Recv o) result = IsOneDue s found (CaseKind.Recv o) result
IsOneAt s found (Instr.Lock m) result = IsOneDue s found (CaseKind.Recv m) result
IsOneAt s found (Instr.Wait w) result = IsOneDue s found (CaseKind.Recv w) result
IsOneAt s found (Instr.Select cases default_to) result = IsOneOfDue s found cases result
IsOneAt s found _ result = result ≡ found

-- its record shows what was found
abbrev pub IsShown : Script → State → Option (ℕ × ℕ) → Type 0
IsShown script s found = IfSome found (λ x. IsCountedBy script s x.1 x.0)

-- what was found is shown, and not later than what the goroutines with a number below n wait for
pub record IsLeastBelow (script : Script) (s : State) (n : ℕ) (found : Option (ℕ × ℕ)) : Type 0 where
  pub shown : IsShown script s found
  pub sleeps : (g : ℕ) → g < n → IsNotLater found (sleeps_until s g)
  pub timers : (g t : ℕ) (i : Instr) → g < n → stands_at script s g ≡ Some i → offers (receives_from t) i ≡ true → IsNotLater found (due_of s t)

-- nor than what any goroutine waits for, nor than when the AfterFunc timers and the contexts among the first n declarations are due
pub record IsLeastWith (script : Script) (s : State) (n : ℕ) (found : Option (ℕ × ℕ)) : Type 0 where
  pub goroutines : IsLeastBelow script s (length s.goroutines + 1) found
  pub funcs : (t : ℕ) → t < n → is_func script t ≡ true → IsNotLater found (due_of s t)
  pub deadlines : (x : ℕ) → x < n → IsNotLater found (deadline_in 0 (context_at s x))
