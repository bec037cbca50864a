-- A heap whose head may be read: the heap has learned of each change that matters to it.
use Rattle.std.specs.Prelude.{ℕ, ◌≤◌, ◌≡◌, ◌&&◌, ◌||◌, cond, nat_lt, Bool, true, false, All, set, slice_get, count_by, is_some}
use Rattle.std.specs.declared.option.Option.TheVariants.{None, Some}
use Rattle.gt_rules.specs.State.{has_ended}
use Rattle.gt_rec.specs.declared.RecKind.{RecKind}
use Rattle.gt_rec.specs.Rec.{Rec, needs_heap}
use Rattle.gt_rec.specs.Changes.{disarmed}
use Rattle.gt_lazy.specs.Slots.{Slot, StandsAt, slot_with}
use Rattle.gt_lazy.specs.Running.{is_stale}
use Rattle.gt_book.specs.View.{BookView}
use Rattle.gt_runner.specs.declared.runner.Runner.{Runner}
use Rattle.gt_runner.specs.Served.{IsWatched}

-- an entry of the heap with its record
pub record Held (x : Runner) (id : ℕ) (s : Slot) : Type 0 where
  pub rec : Rec
  pub there : slice_get x.records.items id ≡ Some rec
  pub id_is : rec.id ≡ id
  pub watched : IsWatched x.book x.heap x.noted rec
  pub heaped : rec.heaped ≡ Some x.heap.number
  pub key_is : s.key ≡ rec.key

abbrev pub is_deadline : RecKind → Bool
is_deadline RecKind.Timer = false
is_deadline RecKind.Ticker = false
is_deadline RecKind.Func = false
is_deadline RecKind.Sleep = false
is_deadline RecKind.Deadline = true

-- a record shows the deadline of a context that has ended, which counts no more
abbrev pub is_over : BookView → Rec → Bool
is_over b r = is_deadline r.kind && has_ended b.state r.id

-- a record at the head is not fit to be read where the heap has yet to learn of a change of it, or where it is over
abbrev pub is_unfit : BookView → Rec → Bool
is_unfit b r = is_stale r || is_over b r

-- the record of a number stands at the head, and is unfit
pub record UnfitHead (x : Runner) (id : ℕ) : Type 0 where
  pub slot : Slot
  pub held : Held x id slot
  pub unfit : is_unfit x.book held.rec ≡ true
  pub entry : slot_with x.heap.slots id ≡ Some slot
  pub stands : StandsAt x.heap 0 held.rec

-- the record of the entry at the head is fit
abbrev pub HeadIsFit : Runner → Type 0
HeadIsFit x = (s : Slot) → slice_get x.heap.slots 0 ≡ Some s → (h : Held x s.id s) × (is_unfit x.book h.rec ≡ false)

-- how many records in the heap are unfit
abbrev pub unfit_count : Runner → ℕ
unfit_count x = count_by (λ (r : Rec). is_some r.heaped && is_unfit x.book r) x.records.items

-- a record is set no more where it is over
abbrev pub dropped : BookView → Rec → Rec
dropped b r = cond (is_over b r) (disarmed r) r

-- that of a number was so changed, and nothing else
pub record Drops (x x' : Runner) (id : ℕ) : Type 0 where
  pub rec : Rec
  pub there : slice_get x.records.items id ≡ Some rec
  pub records_are : x'.records.items ≡ set x.records.items id (dropped x.book rec)
  pub book_is : x'.book ≡ x.book
  pub heap_is : x'.heap ≡ x.heap
  pub noted_is : x'.noted ≡ x.noted

-- a pass has looked at an entry: its record stands there under its due time
abbrev pub ScannedAreSettled : Runner → Type 0
ScannedAreSettled x = (id : ℕ) (s : Slot) (r : Rec) → slot_with x.heap.slots id ≡ Some s → s.scanned ≡ true → slice_get x.records.items id ≡ Some r
    → (is_stale r ≡ false) × (r.when ≡ Some r.key)

-- the head is fit, and where its key is a least one, no record that needs the heap is due before it
pub record IsClean (x : Runner) : Type 0 where
  pub fit : HeadIsFit x
  pub low : (s : Slot) → slice_get x.heap.slots 0 ≡ Some s → All (λ (t : Slot). s.key ≤ t.key) x.heap.slots → (id w : ℕ) (r : Rec) → slice_get x.records.items id ≡ Some r → r.id ≡ id → IsWatched x.book x.heap x.noted r
      → needs_heap r ≡ true → r.when ≡ Some w → s.key ≤ w
  pub none : slice_get x.heap.slots 0 ≡ None → (id : ℕ) (r : Rec) → slice_get x.records.items id ≡ Some r → r.id ≡ id → IsWatched x.book x.heap x.noted r → needs_heap r ≡ false

-- a time before the head's was noted
abbrev pub is_early : Runner → Bool
is_early x = elim x.noted [ None ↦ false | Some v ↦ elim (slice_get x.heap.slots 0) [ None ↦ false | Some s ↦ nat_lt v s.key ] ]
