use Rattle.std.proofs.Common.{◌≡◌, [], vec_len}
use Rattle.gt_tie.specs.Rule.{whole}
use Rattle.gt_tie.specs.Opening.{AreEmptyHeaps}
use Rattle.gt_tie.proofs.open.heap_ties.Given as goal

abbrev pub invariant-loop-number : goal.invariant-loop-number
invariant-loop-number l = record {
  heaps : l.heaps ≡ l.t.heaps;
  table : l.first.table_id ≡ l.t.table;
  first : l.first.me ≡ (whole l.t.records l.t.heaps l.t.records l.number, []);
  count : vec_len l.ties ≡ l.number;
  ties : AreEmptyHeaps l.t l.ties.items;
}
