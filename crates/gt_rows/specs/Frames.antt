-- What becomes by a change of the due times and periods that records have to show, and of the program's clock.
use Rattle.std.specs.Prelude.{ℕ, ◌-◌, ◌==◌, cond, nat_lt, length}
use Rattle.std.specs.declared.option.Option.{Option}
use Rattle.std.specs.declared.option.Option.TheVariants.{None, Some}
use Rattle.gt_model.specs.declared.script.Script.{Script}
use Rattle.gt_model.specs.Script.{is_ctx}
use Rattle.gt_rules.specs.State.{State, world_of}
use Rattle.gt_rules.specs.Contexts.{made_context, is_reached}
use Rattle.gt_rules.specs.declared.change.TreeStep.{TreeStep}
use Rattle.gt_book.specs.Steps.{live_deadline}
use Rattle.gt_rules.specs.After.{new_period, number_of}
use Rattle.gt_rules.specs.Change.{Change}
use Rattle.gt_rules.specs.declared.change.Move.{Move}
use Rattle.gt_rules.specs.declared.change.Setting.{Setting}

-- the due time that a timer has by its setting, and the end of the sleep that a goroutine has by its move, where it had this one before
abbrev pub due_after : Setting → Option ℕ
due_after (Setting.Made due) = Some due
due_after (Setting.SetAnew due) = Some due
due_after (Setting.Ended next) = next

abbrev pub until_after : Move → Option ℕ → Option ℕ
until_after (Move.GoesOn case_no) before = None
until_after (Move.FallsAsleep until) before = Some until
until_after (Move.Suspends k) before = None
until_after (Move.Relocks k) before = None
until_after Move.Ends before = None
until_after Move.Panics before = before

abbrev pub timer_touched : Option (ℕ × Setting) → ℕ → Option ℕ → Option ℕ
timer_touched None t before = before
timer_touched (Some c) t before = cond (t == c.0) (due_after c.1) before

abbrev pub sleep_touched : Option (ℕ × Move) → ℕ → Option ℕ → Option ℕ
sleep_touched None g before = before
sleep_touched (Some x) g before = cond (g == x.0) (until_after x.1 before) before

-- the own deadline that a context keeps, where this becomes of context x and it had this one before: one that is made has its own, and those that an end reaches have none
abbrev pub own_after : Script → State → Change → ℕ → TreeStep → ℕ → Option ℕ → Option ℕ
own_after script s c x TreeStep.Derived id before = cond (id == x) (live_deadline (made_context script s (world_of s (number_of c.mover)) x)) before
own_after script s c x TreeStep.Canceled id before = cond (is_reached script s x id) None before
own_after script s c x TreeStep.Expired id before = cond (is_reached script s x id) None before
own_after script s c x TreeStep.Registered id before = before
own_after script s c x TreeStep.Unhooked id before = before

abbrev pub own_touched : Script → State → Change → Option (ℕ × TreeStep) → ℕ → Option ℕ → Option ℕ
own_touched script s c None id before = before
own_touched script s c (Some x) id before = own_after script s c x.0 x.1 id before

-- the due time of the record of a number, which had this one before
abbrev pub touched : Script → State → Change → ℕ → Option ℕ → Option ℕ
touched script s c id before =
    cond (nat_lt id (length script.decls)) (cond (is_ctx script id) (own_touched script s c c.tree id before) (timer_touched c.timer id before))
    (sleep_touched c.partner (id - length script.decls) (sleep_touched c.mover (id - length script.decls) before))

-- a new setting has its own period, and an end leaves the old one
abbrev pub period_after : Setting → ℕ → ℕ → ℕ
period_after (Setting.Made due) period before = period
period_after (Setting.SetAnew due) period before = period
period_after (Setting.Ended next) period before = before

abbrev pub timer_period_touched : Script → State → Change → ℕ → ℕ → Option (ℕ × Setting) → ℕ
timer_period_touched script s c id before None = before
timer_period_touched script s c id before (Some x) = cond (id == x.0) (period_after x.1 (new_period script s (number_of c.mover) x.0) before) before

-- the period of the record of a number, which had this one before. A sleep has none
abbrev pub period_touched : Script → State → Change → ℕ → ℕ → ℕ
period_touched script s c id before = cond (nat_lt id (length script.decls)) (timer_period_touched script s c id before c.timer) before

-- the program's clock, which is that of world 0
abbrev pub clock_touched : Option (ℕ × ℕ) → ℕ → ℕ
clock_touched None before = before
clock_touched (Some c) before = cond (c.0 == 0) c.1 before
