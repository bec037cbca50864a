use Rattle.std.proofs.Common.{◌≡◌, ◌+◌, ◌<◌}
use Rattle.gt_word_table.specs.Views.{load_at}
use Rattle.gt_words_bench.proofs.words.answered_notes.Given as goal

abbrev pub invariant-loop-call : goal.invariant-loop-call
invariant-loop-call l = record {
  heaps : 1 < l.words.heaps;
  table : l.worker.table ≡ l.words.table;
  answered : l.answered ≡ l.call;
  known : l.known ≡ (load_at l.worker.view.counts 1).word;
  mods : (load_at l.worker.view.mods 1).loads ≡ (load_at l.initial.worker.view.mods 1).loads + l.call;
  heap_words : (load_at l.worker.view.heaps 1).loads ≡ (load_at l.initial.worker.view.heaps 1).loads + l.call;
  counts : (load_at l.worker.view.counts 1).loads ≡ (load_at l.initial.worker.view.counts 1).loads + l.call;
}
