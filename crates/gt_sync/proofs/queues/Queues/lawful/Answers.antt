use Rattle.gt_sync.proofs.Shown.{IsLawful-shown}
use Rattle.gt_sync.proofs.queues.Queues.lawful.Goals as goal

pub returns : goal.returns
returns c =
    rw (← c.self.view_is) (IsLawful-shown c.self.inside.waiting c.self.invariant.some c.lawful.ensures)
