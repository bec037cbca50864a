-- Ties that nothing was set in.
use Rattle.std.specs.Prelude.{ℕ, ◌≡◌, List, slice_get, replicate, Some, None}
use Rattle.gt_tie.specs.Shown.{ShownTies, ShownRec, ShownHeap}

-- the side of record i, which is not set and has no place
pub record IsUnsetRec (t : ShownTies) (i : ℕ) (r : ShownRec) : Type 0 where
  pub table : r.table ≡ t.table
  pub number : r.number ≡ i
  pub due : r.due ≡ None
  pub period : r.period ≡ 0
  pub place : r.place ≡ None

-- the side of heap q, which has no record
pub record IsEmptyHeap (t : ShownTies) (q : ℕ) (h : ShownHeap) : Type 0 where
  pub table : h.table ≡ t.table
  pub number : h.number ≡ q
  pub keys : h.keys ≡ replicate t.records None

abbrev pub AreUnsetRecs : ShownTies → List ShownRec → Type 0
AreUnsetRecs t recs = (i : ℕ) (r : ShownRec) → slice_get recs i ≡ Some r → IsUnsetRec t i r

abbrev pub AreEmptyHeaps : ShownTies → List ShownHeap → Type 0
AreEmptyHeaps t heaps = (q : ℕ) (h : ShownHeap) → slice_get heaps q ≡ Some h → IsEmptyHeap t q h
