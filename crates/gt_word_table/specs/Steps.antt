-- The kinds of step: which word, and the view afterwards.
use Rattle.std.specs.Prelude.{◌≡◌, ℕ, ◌+◌, ◌*◌, ◌<◌, min, IsTrue, Some}
use Rattle.atomic_table.specs.Table.{Step, Me}
use Rattle.gt_word_table.specs.declared.view.View.{View}
use Rattle.gt_word_table.specs.declared.view.View.TheVariants.{Rest, Worker, Heap}
use Rattle.gt_word_table.specs.declared.view.Worker.{Worker as WorkerView}
use Rattle.gt_word_table.specs.declared.view.Heap.{Heap as HeapView}
use Rattle.gt_word_table.specs.declared.view.Note.{Note}
use Rattle.gt_word_table.specs.declared.view.Phase.{Phase}
use Rattle.gt_word_table.specs.Views.{with_count, with_mod, with_heap, with_note, lowered}

abbrev pub worker_then : (WorkerView → WorkerView) → View → View
worker_then f (Worker w) = Worker (f w)
worker_then f (Rest r) = Rest r
worker_then f (Heap h) = Heap h

abbrev pub heap_then : (HeapView → HeapView) → View → View
heap_then f (Heap h) = Heap (f h)
heap_then f (Rest r) = Rest r
heap_then f (Worker w) = Worker w

-- a load of heap q's count; a note there that is behind has a lesser one
abbrev pub CountLoads : Step Unit → Me Unit View → ℕ → Me Unit View → Type 0
CountLoads s v found w = (q : ℕ) → s.word ≡ 3 * q + 2
    → (w ≡ (worker_then (λ k. with_count k q found) v.0, v.1))
    × ((k : WorkerView) (m : Note) → v.0 ≡ Worker k → k.note ≡ Some m → m.heap ≡ q → IsTrue m.behind → m.count < found)

-- a load of heap q's modified word
abbrev pub ModLoads : Step Unit → Me Unit View → ℕ → Me Unit View → Type 0
ModLoads s v found w = (q : ℕ) → s.word ≡ 3 * q → w ≡ (worker_then (λ k. with_mod k q found) v.0, v.1)

-- a load of heap q's heap word
abbrev pub HeapLoads : Step Unit → Me Unit View → ℕ → Me Unit View → Type 0
HeapLoads s v found w = (q : ℕ) → s.word ≡ 3 * q + 1 → w ≡ (worker_then (λ k. with_heap k q found) v.0, v.1)

-- a note at heap q
abbrev pub Notes : Step Unit → Me Unit View → ℕ → Me Unit View → Type 0
Notes s v found w = (q : ℕ) → s.word ≡ 3 * q → w ≡ (worker_then (λ k. with_note k q s.first) v.0, v.1)

-- a heap's load of its modified word
abbrev pub Looks : Step Unit → Me Unit View → ℕ → Me Unit View → Type 0
Looks s v found w = w ≡ (heap_then (λ h. record h { phase = Phase.Seen found }) v.0, v.1)

-- a lowering of the heap word
abbrev pub Lowers : Step Unit → Me Unit View → ℕ → Me Unit View → Type 0
Lowers s v found w = w ≡ (heap_then (λ h. record h { phase = lowered h.phase s.first; word = min h.word s.first }) v.0, v.1)

-- a clearing of the modified word, done or not
abbrev pub Clears : Step Unit → Me Unit View → ℕ → Me Unit View → Type 0
Clears s v found w = w ≡ (heap_then (λ h. record h { phase = Phase.Cleared }) v.0, v.1)

-- one more count
abbrev pub Bumps : Step Unit → Me Unit View → ℕ → Me Unit View → Type 0
Bumps s v found w = w ≡ (heap_then (λ h. record h { phase = Phase.Bumped; count = h.count + 1 }) v.0, v.1)

-- a new heap word
abbrev pub Raises : Step Unit → Me Unit View → ℕ → Me Unit View → Type 0
Raises s v found w = w ≡ (heap_then (λ h. record h { phase = Phase.Free; word = s.first }) v.0, v.1)
