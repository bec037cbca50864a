-- The times that will unblock a goroutine.
use Rattle.std.specs.Prelude.{ℕ, ◌==◌, cond, if◌then◌else◌, Bool, false, ◌&&◌, ◌||◌, is_none, List, ◌++◌}
use Rattle.std.specs.List.{filter_map, list_any, enumerate_from}
use Rattle.std.specs.declared.option.Option.{Option}
use Rattle.std.specs.declared.option.Option.TheVariants.{None, Some}
use Rattle.gt_model.specs.declared.script.Script.{Script}
use Rattle.gt_model.specs.declared.state.Goroutine.{Goroutine}
use Rattle.gt_model.specs.declared.state.Timer.{Timer}
use Rattle.gt_model.specs.declared.context.Context.{Context}
use Rattle.gt_rules.specs.State.{State, until_of, stands}
use Rattle.gt_rules.specs.Operations.{receives_from, offers}
use Rattle.gt_model.specs.Script.{is_func}

-- the time until which a goroutine of world w sleeps
abbrev pub sleep_of : ℕ → Goroutine → Option ℕ
sleep_of w r = if r.world == w then until_of r.mode else None

-- whether a goroutine of world w stands at a receive from this timer
abbrev pub awaits : Script → ℕ → ℕ → Goroutine → Bool
awaits script w t r = r.world == w && elim (stands script r) [ None ↦ false | Some i ↦ offers (receives_from t) i ]

abbrev pub is_awaited : Script → State → ℕ → ℕ → Bool
is_awaited script s w t = list_any (awaits script w t) s.goroutines

-- the due time of a timer of world w, if it counts: that of an AfterFunc timer where it is set, that of a channel timer where it is awaited too
abbrev pub counted_timer : Script → State → ℕ → ℕ × Option Timer → Option ℕ
counted_timer script s w e = elim e.1 [
  | None ↦ None
  | Some r ↦ cond (r.world == w && (is_func script e.0 || is_awaited script s w e.0)) r.due None
]

-- the own deadline of a context of world w that has not ended
abbrev pub deadline_in : ℕ → Option Context → Option ℕ
deadline_in w None = None
deadline_in w (Some r) = cond (r.world == w && is_none r.end) r.own None

-- the counted times of world w: the ends of its sleeps, the due times of its timers that count, and the deadlines of its contexts that have not ended
abbrev pub counted : Script → State → ℕ → List ℕ
counted script s w = filter_map (sleep_of w) s.goroutines ++ filter_map (counted_timer script s w) (enumerate_from 0 s.timers) ++ filter_map (deadline_in w) s.contexts
