-- What a section is lent: a record, the caller's heap and the book.
use Rattle.std.specs.Prelude.{◌+◌, ◌≡◌, ◌≢◌, ◌<◌, IsNone, IsSomeAnd, Bool, true, false, ◌&&◌, is_none}
use Rattle.std.specs.declared.option.Option.TheVariants.{None, Some}
use Rattle.gt_rec.specs.Rec.{Rec, BitsRight, needs_heap}
use Rattle.gt_rec.specs.Changes.{in_heap}
use Rattle.gt_lazy.specs.Slots.{LazyHeap, slot_with, ChangesOnly}
use Rattle.gt_book.specs.View.{BookView}
use Rattle.gt_rows.specs.Agrees.{Agrees}

-- the heap has the record's number exactly where the record names this heap, and then under its key
pub record IsPlaced (h : LazyHeap) (r : Rec) : Type 0 where
  pub here : r.heaped ≡ Some h.number → IsSomeAnd (slot_with h.slots r.id) (λ s. s.key ≡ r.key)
  pub elsewhere : r.heaped ≢ Some h.number → slot_with h.slots r.id ≡ None

-- a record beside a book
pub record IsLentRec (b : BookView) (r : Rec) : Type 0 where
  pub agrees : Agrees b.script b.state r
  pub bits : BitsRight r

-- a record and a heap beside a book, with room for the record where it may join the heap
pub record IsLent (b : BookView) (h : LazyHeap) (r : Rec) : Type 0 where
  pub rec : IsLentRec b r
  pub placed : IsPlaced h r
  pub room : IsNone r.heaped → 0 < h.spare

-- the same after a section: the room may be taken
pub record IsKept (b : BookView) (h : LazyHeap) (r : Rec) : Type 0 where
  pub rec : IsLentRec b r
  pub placed : IsPlaced h r

-- a record that needs a heap and is in none joins the caller's
abbrev pub joins : Rec → Bool
joins r = is_none r.heaped && needs_heap r

-- the record joins the heap, under its due time and unscanned
pub record Joins (h : LazyHeap) (r : Rec) (h' : LazyHeap) (r' : Rec) : Type 0 where
  pub record_is : r' ≡ in_heap r h.number
  pub entries : ChangesOnly h.slots h'.slots r.id (Some (record { key = r'.key; id = r.id; scanned = false }))
  pub number : h'.number ≡ h.number
  pub spare : h'.spare + 1 ≡ h.spare

-- what becomes of a changed record and the heap
abbrev pub Settles : LazyHeap → Rec → LazyHeap → Rec → Bool → Type 0
Settles h r h' r' true = Joins h r h' r'
Settles h r h' r' false = (h' ≡ h) × (r' ≡ r)
