use Rattle.std.proofs.Common.{◌≡◌, Some, Contains, List, ℕ, [], set, refl, sym, ap, ◌∙◌}
use Rattle.std.proofs.lemmas.Bool.{false≢true}
use Rattle.std.proofs.lemmas.List.{set-get_or}
use Rattle.gt_queue.specs.Contents.{waiting_in, without}
use Rattle.gt_queue.proofs.Members.{without-absent}
use Rattle.gt_select.proofs.Options.{is_some_of, is_not_some_of}
use Rattle.gt_select.proofs.nodes.leave_here.Goals as goal
use Rattle.gt_select.proofs.nodes.leave_here.Goals.{else-eq-via-then-eq+else-contains, else-eq-via-else-eq}

same_number : (m n : ℕ) → Some m ≡ Some n → m ≡ n
same_number m n e = cc

unchanged : (queues : List (List ℕ)) (queue node : ℕ) → (Contains (waiting_in queues queue) node → ⊥) → queues ≡ set queues queue (without (waiting_in queues queue) node)
unchanged queues queue node absent = sym (ap (set queues queue) (without-absent node (waiting_in queues queue) absent) ∙ set-get_or queues queue [])

pub remove-requires : goal.remove-requires
remove-requires c =
    let stands = c.if-contains.ensures.0 refl in
    let placed = c.requires.placed stands.0 stands.1 in
    let noted = sym c.at.ensures ∙ is_some_of c.at.result c.args.queue (sym c.if-eq.ensures) in
    rw (← same_number stands.0 c.args.queue (sym placed ∙ noted)) stands.1

pub returns-else-eq-clause-queues : goal.returns-else-eq-clause-queues
returns-else-eq-clause-queues c =
    unchanged c.args.queues.now.queues c.args.queue c.args.node
    (λ h. elim c.else-eq.branch [
      | else-eq-via-then-eq+else-contains w ↦ false≢true (w.if-contains.ensures.1 (c.args.queue, h))
      | else-eq-via-else-eq w ↦ is_not_some_of c.at.result c.args.queue (sym w.if-eq.ensures) (c.at.ensures ∙ c.requires.placed c.args.queue h)
    ])
