-- Where a program of one world is quiet: nobody could go on, and no time has come.
use Rattle.std.specs.Prelude.{ℕ, nat_lt, ◌≡◌, Bool, true, not}
use Rattle.std.specs.List.{list_all, enumerate_from}
use Rattle.std.specs.declared.option.Option.TheVariants.{Some}
use Rattle.gt_model.specs.declared.script.Script.{Script}
use Rattle.gt_model.specs.declared.state.Goroutine.{Goroutine}
use Rattle.gt_model.specs.declared.state.Timer.{Timer}
use Rattle.gt_model.specs.declared.context.Context.{Context}
use Rattle.gt_rules.specs.State.{State, clock, goroutine_at, timer_at, context_at}
use Rattle.gt_rules.specs.Ready.{is_firm, everyone}
use Rattle.gt_rules.specs.Counted.{counted}

-- everything belongs to the program
pub record IsOneWorld (s : State) : Type 0 where
  pub goroutines : (g : ℕ) (r : Goroutine) → goroutine_at s g ≡ Some r → r.world ≡ 0
  pub timers : (t : ℕ) (r : Timer) → timer_at s t ≡ Some r → r.world ≡ 0
  pub contexts : (x : ℕ) (r : Context) → context_at s x ≡ Some r → r.world ≡ 0

-- no goroutine is firmly ready, be its partners parked or not
abbrev pub none_firm : Script → State → Bool
none_firm script s = list_all (λ (e : ℕ × Goroutine). not (is_firm script s everyone e.0 e.1)) (enumerate_from 1 s.goroutines)

-- no counted time of the program is at or below its clock
abbrev pub none_due : Script → State → Bool
none_due script s = list_all (nat_lt (clock s 0)) (counted script s 0)

pub record IsQuiet (script : Script) (s : State) : Type 0 where
  pub world : IsOneWorld s
  pub none_firm : none_firm script s ≡ true
  pub none_due : none_due script s ≡ true
