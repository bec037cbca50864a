-- What seats know, and how it is joined and cut.
use Rattle.std.specs.Prelude.{ℕ, ◌+◌, ◌-◌, ◌==◌, ◌≡◌, ◌⊎◌, if◌then◌else◌, List, [], slice_index_or, Option, None, Some, unwrap_or}
use Rattle.gt_tie.specs.declared.view.View.{View}
use Rattle.gt_tie.specs.declared.view.Setting.{Setting}
use Rattle.gt_tie.specs.declared.view.HeapPart.{HeapPart}
use Rattle.gt_tie.specs.declared.view.RecPart.{RecPart}
use Rattle.gt_tie.specs.declared.view.Place.{Place}

-- a record that is not set
abbrev pub unset : Setting
unset = record { due = None; period = 0 }

-- a due time's word is one more than it, and 0 for none
abbrev pub due_of : ℕ → Option ℕ
due_of n = if n == 0 then None else Some (n - 1)

-- the key under which heap q has a record with these words
abbrev pub key_in : ℕ → ℕ → ℕ → Option ℕ
key_in q heap key = if heap == q + 1 then Some key else None

-- the place that a record's words tell
abbrev pub place_of : ℕ → ℕ → Option Place
place_of heap key = if heap == 0 then None else Some (record { heap = heap - 1; key = key })

abbrev pub setting_at : List Setting → ℕ → Setting
setting_at settings i = slice_index_or settings i unset

abbrev pub key_at : List (Option ℕ) → ℕ → Option ℕ
key_at keys i = slice_index_or keys i None

abbrev pub nobody : ℕ → View
nobody m = record { heaps = m; rest = None; book = None; heap = None; rec = None }

abbrev pub book_view : ℕ → List Setting → View
book_view m settings = record { heaps = m; rest = None; book = Some settings; heap = None; rec = None }

abbrev pub heap_view : ℕ → HeapPart → View
heap_view m h = record { heaps = m; rest = None; book = None; heap = Some h; rec = None }

abbrev pub rec_view : ℕ → RecPart → View
rec_view m r = record { heaps = m; rest = None; book = None; heap = None; rec = Some r }

-- the record's part is taken in, and cut off
abbrev pub joined : View → View → View
joined v w = record v { rec = w.rec }

abbrev pub without_rec : View → View
without_rec v = record v { rec = None }

abbrev pub only_rec : View → View
only_rec v = record { heaps = v.heaps; rest = None; book = None; heap = None; rec = v.rec }

abbrev pub without_rest : View → View
without_rest v = record v { rest = None }

-- the parts of a view, or stand-ins where it lacks them
abbrev pub book_of : View → List Setting
book_of v = unwrap_or v.book []

abbrev pub heap_of : View → HeapPart
heap_of v = unwrap_or v.heap (record { number = 0; keys = [] })

abbrev pub rec_of : View → RecPart
rec_of v = unwrap_or v.rec (record { number = 0; due = 0; period = 0; heap = 0; key = 0 })

-- the heap word of a record that is in heap q or in none
abbrev pub IsOurs : ℕ → ℕ → Type 0
IsOurs q heap = (heap ≡ 0) ⊎ (heap ≡ q + 1)

-- the book with a record, and a heap with one
abbrev pub with_book : ℕ → List Setting → RecPart → View
with_book m l r = record { heaps = m; rest = None; book = Some l; heap = None; rec = Some r }

abbrev pub with_heap : ℕ → HeapPart → RecPart → View
with_heap m h r = record { heaps = m; rest = None; book = None; heap = Some h; rec = Some r }

abbrev pub place_in : ℕ → ℕ → Place
place_in heap key = record { heap = heap; key = key }

-- the key under which heap q has a record with this place
abbrev pub key_under : ℕ → Option Place → Option ℕ
key_under q None = None
key_under q (Some p) = if p.heap == q then Some p.key else None
