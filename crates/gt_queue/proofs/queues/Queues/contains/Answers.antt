use Rattle.std.proofs.Common.{◌≡◌, ◌<◌, eqb, get_or, sym, ◌∙◌}
use Rattle.std.proofs.lemmas.Bool.{eqb-false, not-true, not_from_false, ne_eqb}
use Rattle.gt_queue.specs.Links.{linked_queues}
use Rattle.gt_queue.proofs.Changes.{not_alone_if_waiting}
use Rattle.gt_queue.proofs.queues.Queues.contains.Goals as goal

pub returns : goal.returns
returns c =
    let f = c.self.inside in
    let l = c.self.invariant in
    let m = c.args.member in
    let members_in : m < f.members = rw (← c.self.view_is) at c.requires in
    let read : c.at.result ≡ get_or f.next m 0 = c.at.ensures in
    rw (← c.self.view_is) (
      λ t. l.alone m members_in (λ e. eqb-false c.at.result m (not-true (eqb c.at.result m) t) (read ∙ e)),
      λ w. not_from_false (eqb c.at.result m)
          (ne_eqb c.at.result m (λ e. not_alone_if_waiting f.members f.next f.prev (linked_queues f.members f.next) l w.0 m w.1 (sym read ∙ e))),
    )
