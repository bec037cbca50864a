-- The rule of the ties. Record i has the words 4i to 4i + 3: its due time plus one, or 0; its period; the number of its heap
-- plus one, or 0; its key.
use Rattle.std.specs.Prelude.{◌≡◌, ℕ, ◌+◌, ◌*◌, ◌<◌, ◌≤◌, List, length, slice_index, replicate, None, Some}
use Rattle.std.specs.Option.{option_map}
use mathlib.Core.Option.{some}
use lib.ListN.{get_elem?}
use Rattle.atomic_table.specs.Table.{State}
use Rattle.gt_tie.specs.declared.view.View.{View}
use Rattle.gt_tie.specs.declared.view.Rest.{Rest}
use Rattle.gt_tie.specs.declared.view.Setting.{Setting}
use Rattle.gt_tie.specs.declared.view.HeapPart.{HeapPart}
use Rattle.gt_tie.specs.declared.view.RecPart.{RecPart}
use Rattle.gt_tie.specs.Views.{unset, due_of, key_in, setting_at, key_at}

abbrev pub due_word : List ℕ → ℕ → ℕ
due_word ws i = slice_index ws (4 * i)

abbrev pub period_word : List ℕ → ℕ → ℕ
period_word ws i = slice_index ws (4 * i + 1)

abbrev pub heap_word : List ℕ → ℕ → ℕ
heap_word ws i = slice_index ws (4 * i + 2)

abbrev pub key_word : List ℕ → ℕ → ℕ
key_word ws i = slice_index ws (4 * i + 3)

-- which seats have the rest, the book, each record and each heap, and how many records and heaps are dealt
pub record Deal : Type 0 where
  pub rest_seat : ℕ
  pub book_seat : ℕ
  pub rec_seat : ℕ → ℕ
  pub heap_seat : ℕ → ℕ
  pub records : ℕ
  pub heaps : ℕ

-- what is not dealt is not set, and has no place
pub record FitsRest (ws : List ℕ) (n : ℕ) (d : Deal) (k : ℕ) (r : Rest) : Type 0 where
  pub here : k ≡ d.rest_seat
  pub records : r.records ≡ n
  pub from_record : r.from_record ≡ d.records
  pub from_heap : r.from_heap ≡ d.heaps
  pub due : (i : ℕ) → d.records ≤ i → due_word ws i ≡ 0
  pub period : (i : ℕ) → d.records ≤ i → period_word ws i ≡ 0
  pub heap : (i : ℕ) → d.records ≤ i → heap_word ws i ≡ 0
  pub key : (i : ℕ) → d.records ≤ i → key_word ws i ≡ 0
  -- no record has its place in a heap that is not dealt
  pub unplaced : (q i : ℕ) → d.heaps ≤ q → i < n → key_in q (heap_word ws i) (key_word ws i) ≡ None

pub record FitsBook (ws : List ℕ) (n : ℕ) (d : Deal) (k : ℕ) (l : List Setting) : Type 0 where
  pub here : k ≡ d.book_seat
  pub all : length l ≡ n
  pub due : (i : ℕ) → i < n → (setting_at l i).due ≡ due_of (due_word ws i)
  pub period : (i : ℕ) → i < n → (setting_at l i).period ≡ period_word ws i

pub record FitsHeap (ws : List ℕ) (n m : ℕ) (d : Deal) (k : ℕ) (h : HeapPart) : Type 0 where
  pub here : k ≡ d.heap_seat h.number
  pub dealt : h.number < d.heaps
  pub number : h.number < m
  pub all : length h.keys ≡ n
  pub keys : (i : ℕ) → i < n → key_at h.keys i ≡ key_in h.number (heap_word ws i) (key_word ws i)

pub record FitsRec (ws : List ℕ) (n m : ℕ) (d : Deal) (k : ℕ) (r : RecPart) : Type 0 where
  pub here : k ≡ d.rec_seat r.number
  pub dealt : r.number < d.records
  pub number : r.number < n
  pub due : due_word ws r.number ≡ r.due
  pub period : period_word ws r.number ≡ r.period
  pub heap : heap_word ws r.number ≡ r.heap
  pub key : key_word ws r.number ≡ r.key
  pub below : r.heap ≤ m

-- what the view of seat k says of the words of n records and m heaps
pub record Fits (ws : List ℕ) (n m : ℕ) (d : Deal) (k : ℕ) (v : View) : Type 0 where
  pub rest : (r : Rest) → v.rest ≡ Some r → FitsRest ws n d k r
  pub book : (l : List Setting) → v.book ≡ Some l → FitsBook ws n d k l
  pub heap : (h : HeapPart) → v.heap ≡ Some h → FitsHeap ws n m d k h
  pub rec : (r : RecPart) → v.rec ≡ Some r → FitsRec ws n m d k r

pub record Holds (n m : ℕ) (s : State Unit View) : Type 0 where
  pub words : length s.words ≡ 4 * n
  pub deal : Deal
  pub each : (k : ℕ) (v : View) → get_elem? s.views k ≡ some v → Fits s.words n m deal k v

-- the first seat: the book, and the records and heaps from these numbers on
abbrev pub whole : ℕ → ℕ → ℕ → ℕ → View
whole n m i q = record { heaps = m; rest = Some (record { records = n; from_record = i; from_heap = q }); book = Some (replicate n unset); heap = None; rec = None }

abbrev pub new_rec : ℕ → RecPart
new_rec i = record { number = i; due = 0; period = 0; heap = 0; key = 0 }

abbrev pub new_heap : ℕ → ℕ → HeapPart
new_heap n q = record { number = q; keys = replicate n None }

abbrev pub record_dealt : Rest → Rest
record_dealt r = record r { from_record = r.from_record + 1 }

abbrev pub heap_dealt : Rest → Rest
heap_dealt r = record r { from_heap = r.from_heap + 1 }

abbrev pub record_part : Rest → RecPart
record_part r = new_rec r.from_record

abbrev pub heap_part : Rest → HeapPart
heap_part r = new_heap r.records r.from_heap

abbrev pub one_record_less : View → View
one_record_less v = record v { rest = option_map record_dealt v.rest }

abbrev pub next_record : View → View
next_record v = record { heaps = v.heaps; rest = None; book = None; heap = None; rec = option_map record_part v.rest }

abbrev pub one_heap_less : View → View
one_heap_less v = record v { rest = option_map heap_dealt v.rest }

abbrev pub next_heap : View → View
next_heap v = record { heaps = v.heaps; rest = None; book = None; heap = option_map heap_part v.rest; rec = None }
