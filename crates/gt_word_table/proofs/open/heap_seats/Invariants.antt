use Rattle.std.proofs.Common.{◌≡◌, [], vec_len}
use Rattle.gt_word_table.specs.Rule.{rest}
use Rattle.gt_word_table.specs.Opening.{AreFreshHeaps}
use Rattle.gt_word_table.proofs.open.heap_seats.Given as goal

abbrev pub invariant-loop-heap : goal.invariant-loop-heap
invariant-loop-heap l = record {
  heaps : l.heaps ≡ l.words.heaps;
  table : l.remaining.table_id ≡ l.words.table;
  rest : l.remaining.me ≡ (rest l.words.heaps l.heap, []);
  count : vec_len l.seats ≡ l.heap;
  seats : AreFreshHeaps l.words l.seats.items;
}
