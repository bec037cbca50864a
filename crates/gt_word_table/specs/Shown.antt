-- What callers see of a table and of its seats.
use Rattle.std.specs.Prelude.{ℕ, [], None}
use Rattle.atomic_table.specs.Seated.{TableId}
use Rattle.gt_word_table.specs.declared.view.View.{View}
use Rattle.gt_word_table.specs.declared.view.View.TheVariants.{Rest, Worker, Heap}
use Rattle.gt_word_table.specs.declared.view.Worker.{Worker as WorkerView}
use Rattle.gt_word_table.specs.declared.view.Heap.{Heap as HeapView}
use Rattle.gt_word_table.specs.declared.view.Phase.{Phase}

pub record ShownTable : Type 0 where
  pub table : TableId
  pub heaps : ℕ

pub record ShownWorker : Type 0 where
  pub table : TableId
  pub view : WorkerView

pub record ShownHeap : Type 0 where
  pub table : TableId
  pub heap : ℕ
  pub phase : Phase
  pub word : ℕ
  pub count : ℕ

-- what a worker's seat knows
abbrev pub worker_of : View → WorkerView
worker_of (Worker w) = w
worker_of (Rest r) = record { note = None; counts = []; mods = []; heaps = [] }
worker_of (Heap h) = record { note = None; counts = []; mods = []; heaps = [] }

-- what a heap's seat knows
abbrev pub heap_of : View → HeapView
heap_of (Heap h) = h
heap_of (Rest r) = record { heap = 0; phase = Phase.Free; word = 0; count = 0 }
heap_of (Worker w) = record { heap = 0; phase = Phase.Free; word = 0; count = 0 }
