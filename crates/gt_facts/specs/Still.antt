-- Where a program stands still.
use Rattle.std.specs.Prelude.{ℕ, ◌≡◌, false, IsTrue}
use Rattle.std.specs.declared.option.Option.TheVariants.{None, Some}
use Rattle.gt_model.specs.declared.context.Context.{Context}
use Rattle.gt_model.specs.declared.script.Script.{Script}
use Rattle.gt_model.specs.declared.state.Goroutine.{Goroutine}
use Rattle.gt_model.specs.declared.state.Timer.{Timer}
use Rattle.gt_rules.specs.State.{State, goroutine_at, timer_at, context_at, clock}
use Rattle.gt_model.specs.Script.{is_func}
use Rattle.gt_rules.specs.Ready.{is_due, is_ready}

-- nobody is ready, and no AfterFunc timer and no context that has not ended has come to its time
pub record IsStill (script : Script) (s : State) : Type 0 where
  pub nobody_ready : (g : ℕ) (r : Goroutine) → goroutine_at s g ≡ Some r → is_ready script s g r ≡ false
  pub no_func_due : (t : ℕ) (r : Timer) → timer_at s t ≡ Some r → IsTrue (is_func script t) → is_due r.due (clock s r.world) ≡ false
  pub no_deadline_due : (x : ℕ) (r : Context) → context_at s x ≡ Some r → r.end ≡ None → is_due r.own (clock s r.world) ≡ false
