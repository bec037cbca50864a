use Rattle.std.proofs.Common.{◌≡◌, ℕ, ◌≤◌, length}
use Rattle.gt_select.specs.Waiting.{MayWait}
use Rattle.gt_leaf_tests.proofs.select.winner_leaves_sixteen_lists.Given as goal

abbrev pub invariant-loop-case_no : goal.invariant-loop-case_no
invariant-loop-case_no g l = record {
  lists : length l.waiters.lists ≡ 16;
  may_wait : (k : ℕ) → l.case_no ≤ k → k ≤ 16 → MayWait l.waiters (record { g = 1; case_no = k });
}
