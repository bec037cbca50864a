-- The kinds of step: the view afterwards, and what is known then.
use Rattle.std.specs.Prelude.{◌≡◌, ℕ, List, length, slice_set, Option, None, Some, ◌<◌, ◌+◌}
use Rattle.std.specs.Option.{option_map}
use Rattle.atomic_table.specs.Table.{Step, Me}
use Rattle.gt_tie.specs.declared.view.View.{View}
use Rattle.gt_tie.specs.declared.view.Setting.{Setting}
use Rattle.gt_tie.specs.declared.view.HeapPart.{HeapPart}
use Rattle.gt_tie.specs.declared.view.RecPart.{RecPart}
use Rattle.gt_tie.specs.Views.{due_of, key_in, setting_at, key_at, rec_of}

-- a record agrees with the book
abbrev pub BookAgrees : View → Type 0
BookAgrees v = (l : List Setting) (r : RecPart) → v.book ≡ Some l → v.rec ≡ Some r
    → (r.number < length l) × (setting_at l r.number ≡ record { due = due_of r.due; period = r.period })

-- a record agrees with a heap
abbrev pub HeapAgrees : View → Type 0
HeapAgrees v = (h : HeapPart) (r : RecPart) → v.heap ≡ Some h → v.rec ≡ Some r
    → (r.number < length h.keys) × (key_at h.keys r.number ≡ key_in h.number r.heap r.key)

-- a look changes nothing, and tells that the parts of a seat agree
abbrev pub Looks : Step Unit → Me Unit View → ℕ → Me Unit View → Type 0
Looks s v found w = (w ≡ v) × BookAgrees v.0 × HeapAgrees v.0

abbrev pub due_put : ℕ → ℕ → List Setting → List Setting
due_put i x l = slice_set l i (record (setting_at l i) { due = due_of x })

abbrev pub period_put : ℕ → ℕ → List Setting → List Setting
period_put i x l = slice_set l i (record (setting_at l i) { period = x })

abbrev pub key_put : ℕ → ℕ → ℕ → HeapPart → HeapPart
key_put i heap key h = record h { keys = slice_set h.keys i (key_in h.number heap key) }

abbrev pub rec_due : ℕ → RecPart → RecPart
rec_due x r = record r { due = x }

abbrev pub rec_period : ℕ → RecPart → RecPart
rec_period x r = record r { period = x }

abbrev pub rec_heap : ℕ → RecPart → RecPart
rec_heap x r = record r { heap = x }

abbrev pub rec_key : ℕ → RecPart → RecPart
rec_key x r = record r { key = x }

-- the record is in heap q under a key, or in none
abbrev pub rec_placed : ℕ → Option ℕ → RecPart → RecPart
rec_placed q None r = record r { heap = 0 }
rec_placed q (Some k) r = record r { heap = q + 1; key = k }

abbrev pub key_placed : ℕ → Option ℕ → HeapPart → HeapPart
key_placed i key h = record h { keys = slice_set h.keys i key }

-- the record has another due word, in the book and in the record
abbrev pub DueStores : Step Unit → Me Unit View → ℕ → Me Unit View → Type 0
DueStores s v found w =
    w ≡ (record v.0 { book = option_map (due_put (rec_of v.0).number s.first) v.0.book; rec = option_map (rec_due s.first) v.0.rec }, v.1)

-- another period
abbrev pub PeriodStores : Step Unit → Me Unit View → ℕ → Me Unit View → Type 0
PeriodStores s v found w =
    w ≡ (record v.0 { book = option_map (period_put (rec_of v.0).number s.first) v.0.book; rec = option_map (rec_period s.first) v.0.rec }, v.1)

-- another heap word, in the heap and in the record
abbrev pub HeapStores : Step Unit → Me Unit View → ℕ → Me Unit View → Type 0
HeapStores s v found w =
    w ≡ (record v.0 { heap = option_map (key_put (rec_of v.0).number s.first (rec_of v.0).key) v.0.heap; rec = option_map (rec_heap s.first) v.0.rec }, v.1)

-- another key
abbrev pub KeyStores : Step Unit → Me Unit View → ℕ → Me Unit View → Type 0
KeyStores s v found w =
    w ≡ (record v.0 { heap = option_map (key_put (rec_of v.0).number (rec_of v.0).heap s.first) v.0.heap; rec = option_map (rec_key s.first) v.0.rec }, v.1)
