-- A table that is being opened.
use Rattle.std.specs.Prelude.{ℕ, ◌-◌, ◌*◌, ◌^◌, ◌<◌, ◌≡◌, List, length, slice_get, Some}
use Rattle.gt_word_table.specs.declared.view.Phase.{Phase}
use Rattle.gt_word_table.specs.Shown.{ShownTable, ShownWorker, ShownHeap}
use Rattle.gt_word_table.specs.Rule.{count_at, heap_at, new_worker}

-- the words of n heaps, with no due time in their heap words, and counts of 0
pub record AreEmpty (n : ℕ) (words : List ℕ) : Type 0 where
  pub sized : length words ≡ 3 * n
  pub counts : (q : ℕ) → count_at words q ≡ 0
  pub heaps : (q : ℕ) → q < n → heap_at words q ≡ 2 ^ 64 - 1

-- a seat of this table that has loaded nothing and has no note
pub record IsFreshWorker (t : ShownTable) (w : ShownWorker) : Type 0 where
  pub table : w.table ≡ t.table
  pub view : w.view ≡ new_worker t.heaps

-- the seat of heap q of this table, which is looked through not at all
pub record IsFreshHeap (t : ShownTable) (q : ℕ) (h : ShownHeap) : Type 0 where
  pub table : h.table ≡ t.table
  pub heap : h.heap ≡ q
  pub phase : h.phase ≡ Phase.Free
  pub word : h.word ≡ 2 ^ 64 - 1
  pub count : h.count ≡ 0

-- the seats of all heaps of this table, by their numbers
abbrev pub AreFreshHeaps : ShownTable → List ShownHeap → Type 0
AreFreshHeaps t heaps = (q : ℕ) (h : ShownHeap) → slice_get heaps q ≡ Some h → IsFreshHeap t q h
