-- The rule of the words. Heap q has the words 3q, 3q + 1 and 3q + 2: modified, heap and count.
use Rattle.std.specs.Prelude.{◌≡◌, ℕ, ◌+◌, ◌-◌, ◌*◌, ◌^◌, ◌<◌, ◌≤◌, min, Bool, true, false, IsTrue, List, length, slice_index, replicate, None, Some}
use mathlib.Core.Option.{some}
use lib.ListN.{get_elem?}
use Rattle.atomic_table.specs.Table.{State}
use Rattle.gt_word_table.specs.declared.view.View.{View}
use Rattle.gt_word_table.specs.declared.view.View.TheVariants.{Rest, Worker, Heap}
use Rattle.gt_word_table.specs.declared.view.Rest.{Rest as RestView}
use Rattle.gt_word_table.specs.declared.view.Worker.{Worker as WorkerView}
use Rattle.gt_word_table.specs.declared.view.Heap.{Heap as HeapView}
use Rattle.gt_word_table.specs.declared.view.Note.{Note}
use Rattle.gt_word_table.specs.declared.view.Phase.{Phase}
use Rattle.gt_word_table.specs.Views.{no_load, load_at}

abbrev pub mod_at : List ℕ → ℕ → ℕ
mod_at ws q = slice_index ws (3 * q)

abbrev pub heap_at : List ℕ → ℕ → ℕ
heap_at ws q = slice_index ws (3 * q + 1)

abbrev pub count_at : List ℕ → ℕ → ℕ
count_at ws q = slice_index ws (3 * q + 2)

abbrev pub is_bumped : Phase → Bool
is_bumped Phase.Free = false
is_bumped (Phase.Seen v) = false
is_bumped (Phase.Low v) = false
is_bumped Phase.Cleared = false
is_bumped Phase.Bumped = true

-- a standing note stays in sight, by the words of its heap and by whether that heap's seat is bumped
pub record Covers (bumped : Bool) (modified heap count : ℕ) (m : Note) : Type 0 where
  pub counted : m.count ≤ count
  pub least : m.count ≡ count → min modified heap ≤ m.when
  pub modified_least : m.count ≡ count → IsTrue bumped → modified ≤ m.when
  pub passed : IsTrue m.passed → m.count ≡ count → heap ≤ m.when
  pub passed_bumped : IsTrue m.passed → IsTrue bumped → m.count < count
  pub behind : IsTrue m.behind → m.count < count

-- which seat has the rest, how many heaps have seats, which seat each of them has, and whether it is bumped
pub record Deal : Type 0 where
  pub rest_seat : ℕ
  pub made : ℕ
  pub seat_of : ℕ → ℕ
  pub bumped : ℕ → Bool

-- the heaps that have no seat yet have a count of 0 and no due time in their heap words, and are not bumped
pub record FitsRest (words : List ℕ) (d : Deal) (k : ℕ) (r : RestView) : Type 0 where
  pub here : k ≡ d.rest_seat
  pub made : r.made ≡ d.made
  pub counts : (q : ℕ) → r.made ≤ q → count_at words q ≡ 0
  pub held : (q : ℕ) → r.made ≤ q → q < r.heaps → heap_at words q ≡ 2 ^ 64 - 1
  pub bumped : (q : ℕ) → r.made ≤ q → d.bumped q ≡ false

pub record FitsWorker (words : List ℕ) (d : Deal) (w : WorkerView) : Type 0 where
  pub counts : (q : ℕ) → (load_at w.counts q).word ≤ count_at words q
  pub note : (m : Note) → w.note ≡ Some m → Covers (d.bumped m.heap) (mod_at words m.heap) (heap_at words m.heap) (count_at words m.heap) m

pub record FitsHeap (words : List ℕ) (d : Deal) (k : ℕ) (h : HeapView) : Type 0 where
  pub here : k ≡ d.seat_of h.heap
  pub made : h.heap < d.made
  pub count : count_at words h.heap ≡ h.count
  pub word : heap_at words h.heap ≡ h.word
  pub bumped : d.bumped h.heap ≡ is_bumped h.phase
  pub low : (v : ℕ) → h.phase ≡ Phase.Low v → heap_at words h.heap ≤ v

-- what the view of seat k says of the words
abbrev pub Fits : List ℕ → Deal → ℕ → View → Type 0
Fits words d k (Rest r) = FitsRest words d k r
Fits words d k (Worker w) = FitsWorker words d w
Fits words d k (Heap h) = FitsHeap words d k h

-- the rule of the words of n heaps
pub record Holds (n : ℕ) (s : State Unit View) : Type 0 where
  pub words : length s.words ≡ 3 * n
  pub deal : Deal
  pub each : (k : ℕ) (v : View) → get_elem? s.views k ≡ some v → Fits s.words deal k v

-- the seats that are still to be made
abbrev pub rest : ℕ → ℕ → View
rest n made = Rest (record { heaps = n; made = made })

abbrev pub new_worker : ℕ → WorkerView
new_worker n = record { note = None; counts = replicate n no_load; mods = replicate n no_load; heaps = replicate n no_load }

abbrev pub new_heap : ℕ → HeapView
new_heap q = record { heap = q; phase = Phase.Free; word = 2 ^ 64 - 1; count = 0 }

-- a worker's seat off the rest
abbrev pub fresh_worker : View → View
fresh_worker (Rest r) = Worker (new_worker r.heaps)
fresh_worker (Worker w) = Worker w
fresh_worker (Heap h) = Heap h

-- the next heap's seat off the rest, and the rest then
abbrev pub fresh_heap : View → View
fresh_heap (Rest r) = Heap (new_heap r.made)
fresh_heap (Worker w) = Worker w
fresh_heap (Heap h) = Heap h

abbrev pub one_made : View → View
one_made (Rest r) = rest r.heaps (r.made + 1)
one_made (Worker w) = Worker w
one_made (Heap h) = Heap h
