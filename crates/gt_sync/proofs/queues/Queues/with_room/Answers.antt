use Rattle.std.proofs.Common.{arith, ◌+◌, ap, get_or, length, ◌∙◌, sym, []}
use Rattle.std.proofs.lemmas.List.{length-replicate}
use Rattle.gt_sync.proofs.Room.{AreFree-first}
use Rattle.gt_sync.proofs.queues.Queues.with_room.Goals as goal

pub invariant_of-result : goal.invariant_of-result
invariant_of-result c =
    let w = c.in_ok-waiting.ensures in
    let f = c.in_ok-free.ensures in
    record {
      some = omega (arith, w.members);
      few = omega (arith, w.members);
      lists = ap length w.queues ∙ length-replicate (c.args.goroutines + 1 + 1) [] ∙ ap (λ m. m + 1) (sym w.members);
      one = ap length f.queues;
      numbers = f.members ∙ sym w.members;
      free = rw w.members (AreFree-first (c.args.goroutines + 1) (c.args.goroutines + 1 + 1) c.in_ok-waiting.waiting.queues _ w.queues (ap (λ qs. get_or qs 0 []) f.queues));
    }
