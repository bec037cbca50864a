use Rattle.std.proofs.Common.{◌≡◌, ◌+◌, ◌*◌, [], set, add-one, refl, sym, ap, arith, ◌∙◌}
use Rattle.std.proofs.lemmas.List.{set-get_or}
use Rattle.gt_queue.specs.Contents.{waiting_in, without}
use Rattle.gt_select.specs.Kept.{without_run}
use Rattle.gt_select.proofs.Runs.{set-without_run, without_run-key, Contains-set_run}
use Rattle.gt_select.proofs.nodes.leave_one.Goals as goal

pub loop-case_no-init : goal.loop-case_no-init
loop-case_no-init c = record {
  queues = sym (set-get_or c.args.queues.now.queues c.args.queue []);
  members = refl;
}

pub leave_here-requires-clause-placed : goal.leave_here-requires-clause-placed
leave_here-requires-clause-placed c =
    let n = c.loop-case_no.case_no in
    let first = c.args.key * 17 in
    λ q h.
    c.requires.placed q (first + n)
    (Contains-set_run c.args.queues.now.queues c.args.queue first n q (first + n) c.requires.queue (rw c.loop-case_no.invariant.queues at h))

pub loop-case_no-preserved : goal.loop-case_no-preserved
loop-case_no-preserved c =
    let n = c.loop-case_no.case_no in
    let qs = c.args.queues.now.queues in
    let first = c.args.key * 17 in
    let q = c.args.queue in
    record {
      queues =
          c.leave_here.ensures.queues
          ∙ ap (λ now. set now q (without (waiting_in now q) (first + n))) c.loop-case_no.invariant.queues
          ∙ set-without_run qs q first n c.requires.queue
          ∙ ap (λ k. set qs q (without_run (waiting_in qs q) first k)) (sym (add-one n));
      members = c.leave_here.ensures.members ∙ c.loop-case_no.invariant.members;
    }

pub returns-clause-queues : goal.returns-clause-queues
returns-clause-queues c =
    let n = c.loop-case_no.case_no in
    let last : n ≡ c.args.most + 1 = omega arith in
    let qs = c.args.queues.now.queues in
    let q = c.args.queue in
    c.loop-case_no.invariant.queues
    ∙ ap (λ k. set qs q (without_run (waiting_in qs q) (c.args.key * 17) k)) last
    ∙ ap (set qs q) (without_run-key c.args.key c.args.most (waiting_in qs q) c.requires.most c.requires.reached)
