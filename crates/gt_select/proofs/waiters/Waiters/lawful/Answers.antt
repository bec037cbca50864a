use Rattle.gt_select.proofs.Shown.{IsLawful-shown}
use Rattle.gt_select.proofs.waiters.Waiters.lawful.Goals as goal

pub returns : goal.returns
returns c =
    let f = c.self.inside in
    rw (← c.self.view_is) (IsLawful-shown f.goroutines f.turns f.keys f.places f.tickets f.queues c.self.invariant.0 c.self.invariant.1 c.lawful.ensures)
