use Rattle.std.proofs.Common.{subst, ◌≡◌, ◌+◌, ◌≤◌, length, arith}
use Rattle.gt_schedule.specs.Schedule.{most_goroutines}
use Rattle.gt_schedule.specs.Scheduler.{capacity}
use Rattle.gt_book.specs.View.{BookView}
use Rattle.gt_book.specs.Book.{seen}
use Rattle.gt_book.proofs.book.Book.lawful.Goals as goal

pub returns-clause-few : goal.returns-clause-few
returns-clause-few c =
    let room : length c.self.inside.run.history.items + c.self.inside.run.history.spare ≡ c.self.inside.limits.entries + 1 = c.self.invariant.rooms.history in
    let few : length (seen c.self.inside).history ≤ (seen c.self.inside).limits.entries + 1 = omega arith in
    subst (λ (v : BookView). length v.history ≤ v.limits.entries + 1) c.self.view_is few

pub returns-clause-few_goroutines : goal.returns-clause-few_goroutines
returns-clause-few_goroutines c =
    let room : capacity c.self.inside.run.scheduler ≡ most_goroutines c.self.inside.script c.self.inside.limits = c.self.invariant.rooms.schedule in
    let few : length (seen c.self.inside).schedule.statuses ≤ most_goroutines (seen c.self.inside).script (seen c.self.inside).limits = omega arith in
    subst (λ (v : BookView). length v.schedule.statuses ≤ most_goroutines v.script v.limits) c.self.view_is few
