-- A deadline that is over leaves the heap once its record is at the head.
use Rattle.std.proofs.Common.{IsTrue, ◌≡◌, ℕ, ◌+◌, ◌<◌, ◌≤◌, if◌then◌else◌, ◌&&◌, ◌||◌, cond, zero, suc, List, [], ◌∷◌, length, set, slice_get, count_by, refl, sym, ap, subst, ◌∙◌, arith, Option, Some, IsSome, IsSomeAnd, Bool, true, false, is_some, inl}
use Rattle.std.proofs.lemmas.Option.{slice_get_within}
use Rattle.gt_model.specs.Script.{is_ctx}
use Rattle.gt_rules.specs.State.{has_ended}
use Rattle.gt_rec.specs.declared.RecKind.{RecKind}
use Rattle.gt_rec.specs.Rec.{Rec, needs_heap, has_channel}
use Rattle.gt_rec.specs.Changes.{disarmed, out_of_heap, rekeyed}
use Rattle.gt_lazy.specs.Slots.{LazyHeap, Slot, StandsAt, slot_with}
use Rattle.gt_lazy.specs.Cleaning.{cleaned}
use Rattle.gt_schedule.specs.Counts.{as_number}
use Rattle.gt_book.specs.View.{BookView}
use Rattle.gt_rows.specs.Lent.{IsLentRec, IsPlaced}
use Rattle.gt_rows.specs.Rows.{DropRow}
use Rattle.gt_rows.proofs.Tickers.{kind-deadline}
use Rattle.gt_runner.specs.declared.runner.Runner.{Runner}
use Rattle.gt_runner.specs.Served.{IsWatched, IsTended, is_heaped}
use Rattle.gt_runner.specs.Settled.{Held, UnfitHead, Drops, dropped, is_deadline, is_over, is_unfit, unfit_count}
use Rattle.gt_runner.proofs.Tending.{Touches, Stays, count-set, get-set_same}
use Rattle.gt_runner.proofs.Touching.{at-kind}
use Rattle.gt_runner.proofs.Cleanings.{Cleaned, cleaned-is, held}
use Rattle.gt_runner.proofs.Serving.{set-twice}

-- ---- one record

both-ways : (b : Bool) → b ≡ true → b ≡ false → ⊥
both-ways true e h = cc
both-ways false e h = cc

left-of : (a b : Bool) → (a && b) ≡ true → a ≡ true
left-of true b e = refl
left-of false b e = cc

right-of : (a b : Bool) → (a && b) ≡ true → b ≡ true
right-of true b e = e
right-of false b e = cc

deadline-no_channel : (kind : RecKind) → is_deadline kind ≡ true → has_channel kind ≡ false
deadline-no_channel RecKind.Timer h = cc
deadline-no_channel RecKind.Ticker h = cc
deadline-no_channel RecKind.Func h = cc
deadline-no_channel RecKind.Sleep h = cc
deadline-no_channel RecKind.Deadline h = refl

-- what dropping a record leaves
record SameBut (r r1 : Rec) : Type 0 where
  id : r1.id ≡ r.id
  kind : r1.kind ≡ r.kind
  heaped : r1.heaped ≡ r.heaped
  key : r1.key ≡ r.key
  blocked : r1.blocked ≡ r.blocked

same-by : (r : Rec) (over : Bool) → SameBut r (cond over (disarmed r) r)
same-by r true = record { id = refl; kind = refl; heaped = refl; key = refl; blocked = refl }
same-by r false = record { id = refl; kind = refl; heaped = refl; key = refl; blocked = refl }

same-but : (b : BookView) (r : Rec) → SameBut r (dropped b r)
same-but b r = same-by r (is_over b r)

-- ---- the run

-- a record that is over is dropped
pub record DropsOver (x x' : Runner) (id : ℕ) (r r1 : Rec) : Type 0 where
  pub there : slice_get x.records.items id ≡ Some r
  pub head : UnfitHead x id
  pub over : is_over x.book r ≡ true
  pub records_are : x'.records.items ≡ set x.records.items id r1
  pub spare : x'.records.spare ≡ x.records.spare
  pub book_is : x'.book ≡ x.book
  pub heap_is : x'.heap ≡ x.heap
  pub noted_is : x'.noted ≡ x.noted
  pub row : DropRow r r1
  pub lent : IsLentRec x.book r1

dropped-is : (x x' : Runner) (id : ℕ) (r r1 : Rec) → DropsOver x x' id r r1 → r1 ≡ disarmed r
dropped-is x x' id r r1 d = d.row

is-deadline : (kind : RecKind) → is_deadline kind ≡ true → kind ≡ RecKind.Deadline
is-deadline RecKind.Timer h = cc
is-deadline RecKind.Ticker h = cc
is-deadline RecKind.Func h = cc
is-deadline RecKind.Sleep h = cc
is-deadline RecKind.Deadline h = refl

-- one that is over is of a context that has ended, so it stays right when it is dropped
pub over-lent : (b : BookView) (r r1 : Rec) → is_over b r ≡ true → IsLentRec b r
    → ((b : BookView) → IsLentRec b r → IsTrue (is_ctx b.script r.id) → IsTrue (has_ended b.state r.id) → IsLentRec b r1) → IsLentRec b r1
over-lent b r r1 over lent kept =
    kept b lent (kind-deadline b.script r.id (lent.agrees.kind ∙ ap Some (is-deadline r.kind (left-of (is_deadline r.kind) (has_ended b.state r.id) over))))
    (right-of (is_deadline r.kind) (has_ended b.state r.id) over)

same-item : {X : Type 0} (o : Option X) (x y : X) → o ≡ Some x → o ≡ Some y → x ≡ y
same-item o x y e f = cc

pub drops-touches : (x x' : Runner) (id : ℕ) (r r1 : Rec) → DropsOver x x' id r r1 → Touches x x' id r r1
drops-touches x x' id r r1 d =
    let h : Held x id d.head.slot = d.head.held in
    let same : h.rec ≡ r = same-item (slice_get x.records.items id) h.rec r h.there d.there in
    let w : IsWatched x.book x.heap x.noted r = subst (IsWatched x.book x.heap x.noted) same h.watched in
    let id_is : r.id ≡ id = subst (λ (r : Rec). r.id ≡ id) same h.id_is in
    let is : r1 ≡ disarmed r = dropped-is x x' id r r1 d in
    let free : needs_heap r1 ≡ false = ap needs_heap is in
    let plain : has_channel r1.kind ≡ false = ap (λ (r : Rec). has_channel r.kind) is ∙ deadline-no_channel r.kind (left-of (is_deadline r.kind) (has_ended x.book.state r.id) d.over) in
    let heaped : r1.heaped ≡ r.heaped = ap (λ (r : Rec). r.heaped) is in
    let watched : IsWatched x.book x.heap x.noted r1 = record {
      kept = record {
        rec = d.lent;
        placed = subst (IsPlaced x.heap) (sym is) (record { here = w.kept.placed.here; elsewhere = w.kept.placed.elsewhere });
      };
      inside = λ some. heaped ∙ w.inside (subst IsSome heaped some);
      heaped = λ n. absurd (both-ways (needs_heap r1) n free);
      early = λ n. absurd (both-ways (needs_heap r1) n free);
      blocked = λ channel. absurd (both-ways (has_channel r1.kind) channel plain);
      none_ready = ap (λ (r : Rec). r.ready) is;
      none_sent = ap (λ (r : Rec). r.sending) is;
    } in
    record {
      there = d.there;
      records_are = d.records_are;
      spare = d.spare;
      limits = ap (λ (b : BookView). b.limits) d.book_is;
      stays = λ j n. subst (λ b'. Stays x.book b' x.heap x'.heap j) (sym d.book_is) (subst (λ h'. Stays x.book x.book x.heap h' j) (sym d.heap_is) (record {
        script_is = refl;
        due = inl refl;
        ended = λ h. h;
        period = refl;
        count = refl;
        slot = refl;
        number_is = refl;
      }));
      script_is = ap (λ (b : BookView). b.script) d.book_is;
      room = (let same_room : x'.heap.spare ≡ x.heap.spare = ap (λ (h : LazyHeap). h.spare) d.heap_is in
          let same_heaped : as_number (is_heaped r1) ≡ as_number (is_heaped r) = ap (λ (r : Rec). as_number (is_heaped r)) is in omega arith);
      noted_is = λ w h. subst (λ o. IsSomeAnd o (λ v. v ≤ w)) (sym d.noted_is) h;
      own = at-kind x' id r1 (ap (λ (r : Rec). r.id) is ∙ id_is)
          (subst (λ b. IsWatched b x'.heap x'.noted r1) (sym d.book_is) (subst (λ h. IsWatched x.book h x'.noted r1) (sym d.heap_is) (subst (λ n. IsWatched x.book x.heap n r1) (sym d.noted_is) watched)));
    }

-- ---- a turn of cleaning: the head is dropped where it is over, and cleaned

pub set-same : (xs : List Rec) (i : ℕ) (r : Rec) → slice_get xs i ≡ Some r → xs ≡ set xs i r
set-same xs i r e = by xs i e
  where
    by : (xs : List Rec) (i : ℕ) → slice_get xs i ≡ Some r → xs ≡ set xs i r
    by [] i e = cc
    by (y ∷ ys) zero e = let is : y ≡ r = cc in ap (λ z. z ∷ ys) is
    by (y ∷ ys) (suc i) e = ap (λ zs. y ∷ zs) (by ys i e)

-- the record that is cleaned stands at the head still
pub record Dropped (x x1 : Runner) (id : ℕ) (r1 : Rec) : Type 0 where
  pub rec : Rec
  pub there : slice_get x.records.items id ≡ Some rec
  pub unfit : is_unfit x.book rec ≡ true
  pub heaped : rec.heaped ≡ Some x.heap.number
  pub is : r1 ≡ dropped x.book rec
  pub slot : Slot
  pub held : Held x1 id slot
  pub now : slice_get x1.records.items id ≡ Some r1
  pub stands : StandsAt x1.heap 0 r1

pub head-dropped : (x x1 : Runner) (id : ℕ) (r1 : Rec) → UnfitHead x id → IsTended x1 → Drops x x1 id → slice_get x1.records.items id ≡ Some r1 → Dropped x x1 id r1
head-dropped x x1 id r1 h t d e =
    let same : h.held.rec ≡ d.rec = same-item (slice_get x.records.items id) h.held.rec d.rec h.held.there d.there in
    let own : slice_get x1.records.items id ≡ Some (dropped x.book d.rec) = ap (λ xs. slice_get xs id) d.records_are ∙ get-set_same x.records.items id d.rec (dropped x.book d.rec) d.there in
    let is : r1 ≡ dropped x.book d.rec = same-item (slice_get x1.records.items id) r1 (dropped x.book d.rec) e own in
    let but : SameBut d.rec (dropped x.book d.rec) = same-but x.book d.rec in
    let stands : StandsAt x.heap 0 d.rec = subst (StandsAt x.heap 0) same h.stands in
    record {
      rec = d.rec;
      there = d.there;
      unfit = subst (λ r. is_unfit x.book r ≡ true) same h.unfit;
      heaped = subst (λ (r : Rec). r.heaped ≡ Some x.heap.number) same h.held.heaped;
      is = is;
      slot = h.slot;
      held = held x1 id h.slot t (ap (λ (heap : LazyHeap). slot_with heap.slots id) d.heap_is ∙ h.entry);
      now = e;
      stands = subst (StandsAt x1.heap 0) (sym is) (subst (λ heap. StandsAt heap 0 (dropped x.book d.rec)) (sym d.heap_is) (record {
        within = stands.within;
        heaped = but.heaped ∙ stands.heaped;
        id = λ s. stands.id s ∙ sym but.id;
        key = λ s. stands.key s ∙ sym but.key;
      }));
    }

-- the records that were lent
pub head-lent : (x : Runner) (id : ℕ) (r : Rec) → UnfitHead x id → slice_get x.records.items id ≡ Some r → IsLentRec x.book r
head-lent x id r h e = subst (IsLentRec x.book) (same-item (slice_get x.records.items id) h.held.rec r h.held.there e) h.held.watched.kept.rec

pub dropped-within : (x x1 : Runner) (id : ℕ) → UnfitHead x id → Drops x x1 id → id < length x1.records.items
dropped-within x x1 id h d =
    slice_get_within x1.records.items id (dropped x.book d.rec) (ap (λ xs. slice_get xs id) d.records_are ∙ get-set_same x.records.items id d.rec (dropped x.book d.rec) d.there)

-- what drop_head leaves, by whether the record is over
pub over-drops : (x x' : Runner) (id : ℕ) (r r1 : Rec) → DropsOver x x' id r r1 → Drops x x' id
over-drops x x' id r r1 d = record {
  rec = r;
  there = d.there;
  records_are = d.records_are ∙ ap (set x.records.items id) (dropped-is x x' id r r1 d ∙ sym (ap (λ b. cond b (disarmed r) r) d.over));
  book_is = d.book_is;
  heap_is = d.heap_is;
  noted_is = d.noted_is;
}

-- the same where the record was lent and stays as it is
abbrev pub lent_run : Runner → ℕ → Rec → Runner
lent_run x id r = record x { records = record { items = set x.records.items id r; spare = x.records.spare } }

pub rests-tended : (x : Runner) (id : ℕ) (r : Rec) → slice_get x.records.items id ≡ Some r → IsTended x → IsTended (lent_run x id r)
rests-tended x id r e tended = subst (λ xs. IsTended (record x { records = record { items = xs; spare = x.records.spare } })) (set-same x.records.items id r e) tended

pub rests-drops : (x : Runner) (id : ℕ) (r : Rec) → slice_get x.records.items id ≡ Some r → is_over x.book r ≡ false → Drops x (lent_run x id r) id
rests-drops x id r e going = record {
  rec = r;
  there = e;
  records_are = ap (set x.records.items id) (sym (ap (λ b. cond b (disarmed r) r) going));
  book_is = refl;
  heap_is = refl;
  noted_is = refl;
}

-- one record fewer is unfit
cleaned-zombie : (r : Rec) → r.zombie ≡ true → is_some (cleaned r).heaped ≡ false
cleaned-zombie r e = ap (λ b. is_some (if b then out_of_heap r else (if r.modified then rekeyed r else r)).heaped) e

cleaned-fit : (b : BookView) (r : Rec) (over : Bool) → is_over b r ≡ over → is_some r.heaped ≡ true
    → (is_some (cleaned (cond over (disarmed r) r)).heaped && is_unfit b (cleaned (cond over (disarmed r) r))) ≡ false
cleaned-fit b r true e heaped = ap (λ q. q && is_unfit b (cleaned (disarmed r))) (cleaned-zombie (disarmed r) heaped)
cleaned-fit b r false e heaped =
    let k : Cleaned r (cleaned r) = cleaned-is r in
    let same : is_over b (cleaned r) ≡ false =
    ap (λ kind. is_deadline kind && has_ended b.state (cleaned r).id) k.kind ∙ (ap (λ id. is_deadline r.kind && has_ended b.state id) k.id ∙ e) in
    none (is_some (cleaned r).heaped) (is_unfit b (cleaned r)) (ap (λ q. q || is_over b (cleaned r)) k.fresh ∙ same)
  where
    none : (a b : Bool) → b ≡ false → (a && b) ≡ false
    none true b h = h
    none false b h = refl

abbrev pub cleaned_run : Runner → LazyHeap → ℕ → Rec → Runner
cleaned_run x heap id r = record { book = x.book; heap = heap; records = record { items = set x.records.items id r; spare = x.records.spare }; noted = x.noted }

pub unfit-fewer : (x x1 : Runner) (heap : LazyHeap) (id : ℕ) (r1 r2 : Rec) → Dropped x x1 id r1 → Drops x x1 id → r2 ≡ cleaned r1 → unfit_count (cleaned_run x1 heap id r2) < unfit_count x
unfit-fewer x x1 heap id r1 r2 h d is =
    let p : Rec → Bool = λ r. is_some r.heaped && is_unfit x.book r in
    let items : set x1.records.items id r2 ≡ set x.records.items id r2 =
    ap (λ xs. set xs id r2) d.records_are ∙ set-twice x.records.items id (dropped x.book d.rec) r2 in
    let counted : count_by p (set x.records.items id r2) + as_number (p h.rec) ≡ count_by p x.records.items + as_number (p r2) = count-set p x.records.items id h.rec r2 h.there in
    let now : unfit_count (cleaned_run x1 heap id r2) ≡ count_by p (set x.records.items id r2) =
    ap (λ (b : BookView). count_by (λ (r : Rec). is_some r.heaped && is_unfit b r) (set x1.records.items id r2)) d.book_is ∙ ap (count_by p) items in
    let heaped : is_some h.rec.heaped ≡ true = ap is_some h.heaped in
    let was : as_number (p h.rec) ≡ 1 = ap (λ q. as_number (q && is_unfit x.book h.rec)) heaped ∙ ap as_number h.unfit in
    let none : as_number (p r2) ≡ 0 = ap (λ r. as_number (p r)) (is ∙ ap cleaned h.is) ∙ ap as_number (cleaned-fit x.book h.rec (is_over x.book h.rec) refl heaped) in
    omega arith
