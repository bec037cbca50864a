use Rattle.std.proofs.Common.{◌≡◌, [], vec_len}
use Rattle.gt_tie.specs.Rule.{whole}
use Rattle.gt_tie.specs.Opening.{AreUnsetRecs}
use Rattle.gt_tie.proofs.open.record_ties.Given as goal

abbrev pub invariant-loop-number : goal.invariant-loop-number
invariant-loop-number l = record {
  records : l.records ≡ l.t.records;
  table : l.first.table_id ≡ l.t.table;
  first : l.first.me ≡ (whole l.t.records l.t.heaps l.number 0, []);
  count : vec_len l.ties ≡ l.number;
  ties : AreUnsetRecs l.t l.ties.items;
}
