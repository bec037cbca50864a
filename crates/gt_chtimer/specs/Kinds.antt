-- What depends on the kind of a record alone.
use Rattle.std.specs.Prelude.{ℕ, Bool}
use Rattle.std.specs.declared.option.Option.{Option}
use Rattle.std.specs.declared.option.Option.TheVariants.{None, Some}
use Rattle.gt_rec.specs.declared.RecKind.{RecKind}

-- what ending a setting, or renewing it, answers, by whether the timer was set: nothing of a ticker
abbrev pub answer_by : RecKind → Bool → Option Bool
answer_by RecKind.Timer was_set = Some was_set
answer_by RecKind.Ticker was_set = None
answer_by RecKind.Func was_set = Some was_set
answer_by RecKind.Sleep was_set = Some was_set
answer_by RecKind.Deadline was_set = Some was_set

-- the time between the ticks of a setting that is made with this duration: only a ticker ticks again
abbrev pub setting_period : RecKind → ℕ → ℕ
setting_period RecKind.Timer d = 0
setting_period RecKind.Ticker d = d
setting_period RecKind.Func d = 0
setting_period RecKind.Sleep d = 0
setting_period RecKind.Deadline d = 0
