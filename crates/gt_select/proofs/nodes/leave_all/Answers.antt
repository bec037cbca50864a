use Rattle.std.proofs.Common.{◌≡◌, ◌+◌, ◌*◌, map, add-one, refl, sym, ap, arith, ◌∙◌}
use Rattle.gt_queue.specs.Contents.{without}
use Rattle.gt_select.specs.Kept.{without_run}
use Rattle.gt_select.proofs.Runs.{map-without_run, map-without_none, map-without_key}
use Rattle.gt_select.proofs.nodes.leave_all.Goals as goal

pub loop-case_no-init : goal.loop-case_no-init
loop-case_no-init c = record {
  queues = sym (map-without_none c.args.queues.now.queues (c.args.key * 17));
  members = refl;
}

pub loop-case_no-preserved : goal.loop-case_no-preserved
loop-case_no-preserved c =
    let n = c.loop-case_no.case_no in
    let qs = c.args.queues.now.queues in
    let first = c.args.key * 17 in
    record {
      queues =
          c.withdraw.ensures.queues
          ∙ ap (map (λ waiting. without waiting (first + n))) c.loop-case_no.invariant.queues
          ∙ map-without_run qs first n
          ∙ ap (λ k. map (λ waiting. without_run waiting first k) qs) (sym (add-one n));
      members = c.withdraw.ensures.members ∙ c.loop-case_no.invariant.members;
    }

pub returns-clause-queues : goal.returns-clause-queues
returns-clause-queues c =
    let n = c.loop-case_no.case_no in
    let last : n ≡ c.args.most + 1 = omega arith in
    let qs = c.args.queues.now.queues in
    c.loop-case_no.invariant.queues
    ∙ ap (λ k. map (λ waiting. without_run waiting (c.args.key * 17) k) qs) last
    ∙ map-without_key qs c.args.key c.args.most c.requires.most c.requires.reached
