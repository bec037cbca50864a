use Rattle.std.proofs.Common.{◌≡◌, ◌≢◌, ◌-◌, ◌<◌, length, length-set, ap, ◌∙◌, arith}
use Rattle.gt_model.specs.declared.entry.Party.{Party}
use Rattle.gt_select.specs.Waiting.{nobody_waits, enrolled}
use Rattle.gt_select.proofs.Callers.{MayWait-enrolled, MayWait-joined, nowhere-nobody_waits}
use Rattle.gt_leaf_tests.proofs.select.winner_leaves_sixteen_lists.Goals as goal

pub loop-case_no-init : goal.loop-case_no-init
loop-case_no-init g c =
    let first : c.enrol-ticket.new.self ≡ enrolled (nobody_waits 1 16) 1 = c.enrol-ticket.ensures.waiters ∙ ap (λ w. enrolled w 1) c.in_ok-waiters.ensures in
    record {
      lists = ap (λ w. length w.lists) first;
      may_wait = λ k lo hi. let p : Party = record { g = 1; case_no = k } in rw first (MayWait-enrolled (nobody_waits 1 16) p (omega arith) hi (λ list. nowhere-nobody_waits 1 16 list p));
    }

pub loop-case_no-preserved : goal.loop-case_no-preserved
loop-case_no-preserved g c =
    let n = c.loop-case_no.case_no in
    let w = c.loop-case_no.waiters in
    let p : Party = record { g = 1; case_no = n } in
    record {
      lists = ap (λ v. length v.lists) c.wait.ensures ∙ length-set w.lists (n - 1) _ ∙ c.loop-case_no.invariant.lists;
      may_wait = λ k lo hi.
          let q : Party = record { g = 1; case_no = k } in
          let other : p ≢ q = λ e. let same = ap (λ r. r.case_no) e in absurd (omega arith) in
          rw c.wait.ensures (MayWait-joined w (n - 1) p q other (c.loop-case_no.invariant.may_wait k (omega arith) hi));
    }

pub wait-requires-clause-may_wait : goal.wait-requires-clause-may_wait
wait-requires-clause-may_wait g c =
    let below : c.loop-case_no.case_no < 17 = c.loop-case_no-test.true in
    c.loop-case_no.invariant.may_wait c.loop-case_no.case_no (omega arith) (omega arith)
