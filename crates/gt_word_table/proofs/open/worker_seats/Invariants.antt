use Rattle.std.proofs.Common.{◌≡◌, ◌≤◌, [], All, vec_len}
use Rattle.gt_word_table.specs.Rule.{rest}
use Rattle.gt_word_table.specs.Opening.{IsFreshWorker}
use Rattle.gt_word_table.proofs.open.worker_seats.Given as goal

abbrev pub invariant-loop : goal.invariant-loop
invariant-loop l = record {
  heaps : 1 ≤ l.words.heaps;
  table : l.remaining.table_id ≡ l.words.table;
  rest : l.remaining.me ≡ (rest l.words.heaps 0, []);
  count : vec_len l.seats ≡ l.counter;
  seats : All (IsFreshWorker l.words) l.seats.items;
}
