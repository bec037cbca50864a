use Rattle.std.proofs.Common.{◌≡◌, Some, None, sym, ap, ◌∙◌}
use Rattle.std.specs.List.{last_or}
use Rattle.gt_queue.specs.Contents.{waiting_in}
use Rattle.gt_select.specs.Kept.{party_at, lists_of}
use Rattle.gt_select.specs.Waiting.{parties_in}
use Rattle.gt_select.proofs.Parties.{parties_in-lists}
use Rattle.gt_select.proofs.InFront.{last-map_some}
use Rattle.gt_select.proofs.waiters.Waiters.last.Goals as goal

pub returns-clause-last : goal.returns-clause-last
returns-clause-last c =
    let f = c.self.inside in
    rw (← c.self.view_is)
    (ap Some c.party_at.ensures
    ∙ last-map_some (party_at f.tickets) (waiting_in f.queues.queues c.args.list) c.in_ok-node.node c.in_ok-node.ensures.last
    ∙ ap (last_or None) (sym (parties_in-lists f.tickets f.queues.queues c.args.list)))

pub returns-clause-none : goal.returns-clause-none
returns-clause-none c =
    let f = c.self.inside in
    let last : Some (party_at f.tickets c.in_ok-node.node) ≡ last_or None (parties_in (lists_of f.tickets f.queues.queues) c.args.list) =
    last-map_some (party_at f.tickets) (waiting_in f.queues.queues c.args.list) c.in_ok-node.node c.in_ok-node.ensures.last
    ∙ ap (last_or None) (sym (parties_in-lists f.tickets f.queues.queues c.args.list)) in
    rw (← c.self.view_is)
    (λ e. cc, λ e. let none = rw e at last in cc)
