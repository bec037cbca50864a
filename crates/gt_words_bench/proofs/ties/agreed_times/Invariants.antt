use Rattle.std.proofs.Common.{◌≡◌, ◌<◌, Some, slice_get}
use Rattle.gt_words_bench.proofs.ties.agreed_times.Given as goal

abbrev pub invariant-loop-call : goal.invariant-loop-call
invariant-loop-call l = record {
  agreed : l.agreed ≡ l.call;
  table : l.book.table ≡ l.ties.table;
  rec_table : l.rec.table ≡ l.ties.table;
  book : l.book ≡ l.initial.book;
  rec : l.rec ≡ l.initial.rec;
  agrees : 0 < l.call → slice_get l.book.settings l.rec.number ≡ Some (record { due = l.rec.due; period = l.rec.period });
}
