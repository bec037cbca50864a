use Rattle.std.proofs.Common.{length, sym, ap, ◌∙◌}
use Rattle.std.proofs.lemmas.List.FromFn.{length-map-range_with_len}
use Rattle.gt_rules.specs.declared.change.Start.{Start}
use Rattle.gt_rules.specs.Change.{all_started}
use Rattle.gt_schedule.proofs.scheduler.start_count.Goals as goal

pub returns-in-ByEnd : goal.returns-in-ByEnd
returns-in-ByEnd c = sym (ap (λ s. length (all_started s)) c.in-ByEnd.is ∙ length-map-range_with_len (Start.ByEnd c.in-ByEnd.x) 0 c.in-ByEnd.count)
