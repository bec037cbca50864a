-- The heap learns of a change of a record, and the run is tended as before.
use Rattle.std.proofs.Common.{◌≡◌, ℕ, ◌+◌, ◌<◌, ◌≤◌, nat_lt, if◌then◌else◌, List, [], ◌∷◌, All, length, set, slice_get, slice_index_or, map, refl, sym, ap, subst, ◌∙◌, arith, Option, None, Some, IsSome, IsTrue, IsSomeAnd, Bool, true, false, ◌==◌, is_some, inl, inr}
use Rattle.std.specs.List.{find}
use Rattle.std.specs.Option.{option_map}
use Rattle.std.proofs.lemmas.Bool.{cases_eq, cases_lt, eq-eqb, ltb-false}
use Rattle.std.proofs.lemmas.List.Elements.{All-head, All-tail}
use Rattle.std.proofs.lemmas.Option.{slice_get_within}
use Rattle.gt_rec.specs.declared.RecKind.{RecKind}
use Rattle.gt_rec.specs.Rec.{Rec, BitsRight, needs_heap, has_channel, shown}
use Rattle.gt_rec.specs.Changes.{out_of_heap, rekeyed}
use Rattle.gt_lazy.specs.Slots.{LazyHeap, Slot, slot_with, unscanned, StandsAt, IsSettled, Scans, scanned_slot}
use Rattle.gt_lazy.specs.Cleaning.{cleaned}
use Rattle.gt_lazy.specs.Running.{is_stale}
use Rattle.gt_schedule.specs.Counts.{as_number}
use Rattle.gt_schedule.specs.Schedule.{mark_count}
use Rattle.gt_book.specs.View.{BookView}
use Rattle.gt_rows.specs.Agrees.{kind_by}
use Rattle.gt_rows.proofs.Keeping.{agrees-stays}
use Rattle.gt_rows.specs.Lent.{IsKept}
use Rattle.gt_runner.specs.declared.runner.Runner.{Runner}
use Rattle.gt_runner.specs.Served.{IsWatched, AtKind, AtNumber, IsTended, is_heaped}
use Rattle.gt_runner.specs.Settled.{Held, UnfitHead, HeadIsFit, ScannedAreSettled, IsClean, is_unfit, is_early}
use Rattle.gt_runner.proofs.Tending.{Stays, Touches, get-set_same, get-set_other}
use Rattle.gt_runner.proofs.Touching.{at-kind}

-- ---- who stands in the heap

held-kind : (x : Runner) (id : ℕ) (s : Slot) (r : Rec) (o : Option RecKind) → slice_get x.records.items id ≡ Some r → r.id ≡ id → slot_with x.heap.slots id ≡ Some s
    → AtKind x.book x.heap x.noted id r o → Held x id s
held-kind x id s r None there is e at = (let off : ◌≡◌ {A = Option Slot} None (Some s) = sym at.1 ∙ e in cc)
held-kind x id s r (Some kind) there is e watched =
    let heaped : r.heaped ≡ Some x.heap.number = in_heap r.heaped refl in
    record {
      rec = r;
      there = there;
      id_is = is;
      watched = watched;
      heaped = heaped;
      key_is = subst (λ o. IsSomeAnd o (λ (s : Slot). s.key ≡ r.key)) (ap (slot_with x.heap.slots) is ∙ e) (watched.kept.placed.here heaped);
    }
  where
    in_heap : (o : Option ℕ) → r.heaped ≡ o → r.heaped ≡ Some x.heap.number
    in_heap None q =
        let none : slot_with x.heap.slots r.id ≡ None = watched.kept.placed.elsewhere (λ k. (let off : ◌≡◌ {A = Option ℕ} None (Some x.heap.number) = sym q ∙ k in cc)) in
        let off : ◌≡◌ {A = Option Slot} None (Some s) = sym none ∙ (ap (slot_with x.heap.slots) is ∙ e) in
        cc
    in_heap (Some n) q = watched.inside (ap is_some q)

pub held : (x : Runner) (id : ℕ) (s : Slot) → IsTended x → slot_with x.heap.slots id ≡ Some s → Held x id s
held x id s t e =
    elim (slice_get x.records.items id) as (λ o. slice_get x.records.items id ≡ o → AtNumber x.book x.heap x.noted id o → Held x id s) [
      | None ↦ λ q k. (let off : ◌≡◌ {A = Option Slot} None (Some s) = sym k.1 ∙ e in cc)
      | Some r ↦ λ q k. held-kind x id s r (kind_by x.book.script id) q k.id_is e k.watched
    ] refl (t.at id)

-- ---- a record is cleaned

pub record Cleaned (r : Rec) (r' : Rec) : Type 0 where
  pub id : r'.id ≡ r.id
  pub kind : r'.kind ≡ r.kind
  pub period : r'.period ≡ r.period
  pub blocked : r'.blocked ≡ r.blocked
  pub when : r'.when ≡ r.when
  pub ready : r'.ready ≡ r.ready
  pub sending : r'.sending ≡ r.sending
  pub fresh : is_stale r' ≡ false

pub cleaned-is : (r : Rec) → Cleaned r (cleaned r)
cleaned-is r = by r.zombie r.modified refl refl
  where
    by : (z m : Bool) → r.zombie ≡ z → r.modified ≡ m → Cleaned r (cleaned r)
    by true m e f = subst (λ b. Cleaned r (if b then out_of_heap r else (if r.modified then rekeyed r else r))) (sym e) (record {
      id = refl;
      kind = refl;
      period = refl;
      blocked = refl;
      when = refl;
      ready = refl;
      sending = refl;
      fresh = refl;
    })
    by false true e f = subst (λ b. Cleaned r (if b then out_of_heap r else (if r.modified then rekeyed r else r))) (sym e)
        (subst (λ b. Cleaned r (if b then rekeyed r else r)) (sym f) (record {
          id = refl;
          kind = refl;
          period = refl;
          blocked = refl;
          when = refl;
          ready = refl;
          sending = refl;
          fresh = e;
        }))
    by false false e f = subst (λ b. Cleaned r (if b then out_of_heap r else (if r.modified then rekeyed r else r))) (sym e)
        (subst (λ b. Cleaned r (if b then rekeyed r else r)) (sym f) (record {
          id = refl;
          kind = refl;
          period = refl;
          blocked = refl;
          when = refl;
          ready = refl;
          sending = refl;
          fresh = rw (f, e) refl;
        }))

-- the heap has looked at the entry of a record
pub record Cleans (x x' : Runner) (id place : ℕ) (r r' : Rec) : Type 0 where
  pub there : slice_get x.records.items id ≡ Some r
  pub id_is : r.id ≡ id
  pub watched : IsWatched x.book x.heap x.noted r
  pub heaped : r.heaped ≡ Some x.heap.number
  pub records_are : x'.records.items ≡ set x.records.items id r'
  pub spare : x'.records.spare ≡ x.records.spare
  pub book_is : x'.book ≡ x.book
  pub noted_is : x'.noted ≡ x.noted
  pub record_is : r' ≡ cleaned r
  pub scans : Scans x.heap x'.heap place r r'
  pub settled : IsSettled x'.heap r'
  pub shows : shown r' ≡ shown r
  pub bits : BitsRight r'

is-clean : (x x' : Runner) (id place : ℕ) (r r' : Rec) → Cleans x x' id place r r' → Cleaned r r'
is-clean x x' id place r r' c = subst (Cleaned r) (sym c.record_is) (cleaned-is r)

need-of : (b : Bool) → b ≡ true → b ≡ false → ⊥
need-of true e h = cc
need-of false e h = cc

none-heaped : (o : Option ℕ) → o ≡ None → IsSome o → ⊥
none-heaped None e h = cc
none-heaped (Some q) e h = cc

cleans-watched : (x x' : Runner) (id place : ℕ) (r r' : Rec) → Cleans x x' id place r r' → (needed : Bool) → needs_heap r' ≡ needed → IsWatched x'.book x'.heap x'.noted r'
cleans-watched x x' id place r r' c needed q =
    let k : Cleaned r r' = is-clean x x' id place r r' c in
    let script : x'.book.script ≡ x.book.script = ap (λ (b : BookView). b.script) c.book_is in
    let kept : IsKept x'.book x'.heap r' = record {
      rec = record {
        agrees = subst (λ (b : BookView). Rattle.gt_rows.specs.Agrees.Agrees b.script b.state r') (sym c.book_is)
            (agrees-stays x.book.script x.book.state r r' c.watched.kept.rec.agrees (record { id = k.id; kind = k.kind }) c.shows k.period);
        bits = c.bits;
      };
      placed = placed needed q;
    } in
    record {
      kept = kept;
      inside = λ some. inside needed q some;
      heaped = λ n. ap is_some (c.settled.needed n).0.0;
      early = λ n w at low. (let key : r'.when ≡ Some r'.key = (c.settled.needed n).1 in let is : w ≡ r'.key = cc in absurd (omega arith));
      blocked = λ channel. k.blocked ∙ (c.watched.blocked (ap has_channel (sym k.kind) ∙ channel)
          ∙ (ap (mark_count x.book.schedule) (sym k.id) ∙ ap (λ (b : BookView). mark_count b.schedule r'.id) (sym c.book_is)));
      none_ready = k.ready ∙ c.watched.none_ready;
      none_sent = k.sending ∙ c.watched.none_sent;
    }
  where
    placed : (needed : Bool) → needs_heap r' ≡ needed → Rattle.gt_rows.specs.Lent.IsPlaced x'.heap r'
    placed true q = record {
      here = λ e. (c.settled.needed q).0.1;
      elsewhere = λ n. absurd (n (c.settled.needed q).0.0);
    }
    placed false q = record {
      here = λ e. absurd (none-heaped r'.heaped (c.settled.free q).0 (ap is_some e));
      elsewhere = λ n. (c.settled.free q).1;
    }

    inside : (needed : Bool) → needs_heap r' ≡ needed → IsSome r'.heaped → r'.heaped ≡ Some x'.heap.number
    inside true q some = (c.settled.needed q).0.0
    inside false q some = absurd (none-heaped r'.heaped (c.settled.free q).0 some)

pub cleans-touches : (x x' : Runner) (id place : ℕ) (r r' : Rec) → Cleans x x' id place r r' → Touches x x' id r r'
cleans-touches x x' id place r r' c =
    let k : Cleaned r r' = is-clean x x' id place r r' c in
    record {
      there = c.there;
      records_are = c.records_are;
      spare = c.spare;
      limits = ap (λ (b : BookView). b.limits) c.book_is;
      stays = λ j n. subst (λ b'. Stays x.book b' x.heap x'.heap j) (sym c.book_is) (record {
        script_is = refl;
        due = inl refl;
        ended = λ h. h;
        period = refl;
        count = refl;
        slot = c.scans.entries.others j (λ e. n (e ∙ c.id_is));
        number_is = c.scans.number;
      });
      script_is = ap (λ (b : BookView). b.script) c.book_is;
      room = room (is_some r'.heaped) refl;
      noted_is = λ w h. subst (λ o. IsSomeAnd o (λ v. v ≤ w)) (sym c.noted_is) h;
      own = at-kind x' id r' (k.id ∙ c.id_is) (cleans-watched x x' id place r r' c (needs_heap r') refl);
    }
  where
    room : (b : Bool) → is_some r'.heaped ≡ b → x'.heap.spare + as_number (is_heaped r') ≡ x.heap.spare + as_number (is_heaped r)
    room b e =
        let was : as_number (is_heaped r) ≡ 1 = ap (λ o. as_number (is_some o)) c.heaped in
        let spare : x'.heap.spare ≡ x.heap.spare + (if is_some r'.heaped then 0 else 1) = c.scans.spare in
        by b e spare was
      where
        by : (b : Bool) → is_some r'.heaped ≡ b → x'.heap.spare ≡ x.heap.spare + (if is_some r'.heaped then 0 else 1) → as_number (is_heaped r) ≡ 1
            → x'.heap.spare + as_number (is_heaped r') ≡ x.heap.spare + as_number (is_heaped r)
        by true e spare was =
            let now : as_number (is_heaped r') ≡ 1 = ap as_number e in
            let free : x'.heap.spare ≡ x.heap.spare + 0 = spare ∙ ap (λ q. x.heap.spare + (if q then 0 else 1)) e in
            omega arith
        by false e spare was =
            let now : as_number (is_heaped r') ≡ 0 = ap as_number e in
            let free : x'.heap.spare ≡ x.heap.spare + 1 = spare ∙ ap (λ q. x.heap.spare + (if q then 0 else 1)) e in
            omega arith

-- ---- a pass begins

find-unscanned : (slots : List Slot) (id : ℕ) → slot_with (map unscanned slots) id ≡ option_map unscanned (slot_with slots id)
find-unscanned [] id = refl
find-unscanned (s ∷ rest) id =
    elim (s.id == id) as (λ b. (if b then Some (unscanned s) else find (λ (t : Slot). t.id == id) (map unscanned rest)) ≡ option_map unscanned (if b then Some s else find (λ (t : Slot). t.id == id) rest)) [
      | true ↦ refl
      | false ↦ find-unscanned rest id
    ]

abbrev pub unscanned_run : Runner → Runner
unscanned_run x = record x { heap = record x.heap { slots = map unscanned x.heap.slots } }

unscanned-here : (o : Option Slot) (key : ℕ) → IsSomeAnd o (λ (s : Slot). s.key ≡ key) → IsSomeAnd (option_map unscanned o) (λ (s : Slot). s.key ≡ key)
unscanned-here None key h = h
unscanned-here (Some s) key h = h

unscanned-kind : (x : Runner) (id : ℕ) (r : Rec) (o : Option RecKind) → AtKind x.book x.heap x.noted id r o → AtKind x.book (unscanned_run x).heap x.noted id r o
unscanned-kind x id r None at = (at.0, find-unscanned x.heap.slots id ∙ ap (option_map unscanned) at.1)
unscanned-kind x id r (Some kind) w = record {
  kept = record {
    rec = w.kept.rec;
    placed = record {
      here = λ e. subst (λ o. IsSomeAnd o (λ (s : Slot). s.key ≡ r.key)) (sym (find-unscanned x.heap.slots r.id)) (unscanned-here (slot_with x.heap.slots r.id) r.key (w.kept.placed.here e));
      elsewhere = λ n. find-unscanned x.heap.slots r.id ∙ ap (option_map unscanned) (w.kept.placed.elsewhere n);
    };
  };
  inside = w.inside;
  heaped = w.heaped;
  early = w.early;
  blocked = w.blocked;
  none_ready = w.none_ready;
  none_sent = w.none_sent;
}

unscanned-at : (x : Runner) (id : ℕ) (o : Option Rec) → AtNumber x.book x.heap x.noted id o → AtNumber x.book (unscanned_run x).heap x.noted id o
unscanned-at x id None at = (at.0, find-unscanned x.heap.slots id ∙ ap (option_map unscanned) at.1)
unscanned-at x id (Some r) at = record { id_is = at.id_is; watched = unscanned-kind x id r (kind_by x.book.script id) at.watched }

pub tended-unscanned : (x : Runner) → IsTended x → IsTended (unscanned_run x)
tended-unscanned x t = record {
  at = λ id. unscanned-at x id (slice_get x.records.items id) (t.at id);
  declared = t.declared;
  record_room = t.record_room;
  heap_room = t.heap_room;
}

not-scanned : (o : Option Slot) (s : Slot) → option_map unscanned o ≡ Some s → s.scanned ≡ true → ⊥
not-scanned None s e h = cc
not-scanned (Some t) s e h = (let is : unscanned t ≡ s = cc in let off : false ≡ true = ap (λ (s : Slot). s.scanned) is ∙ h in cc)

pub none-scanned : (x : Runner) → ScannedAreSettled (unscanned_run x)
none-scanned x id s r e h there = absurd (not-scanned (slot_with x.heap.slots id) s (sym (find-unscanned x.heap.slots id) ∙ e) h)

-- ---- a pass looks at an entry

slot-heaped : (r : Rec) (s : Slot) (b : Bool) → is_some r.heaped ≡ b → scanned_slot r ≡ Some s → b ≡ true
slot-heaped r s true q e = refl
slot-heaped r s false q e = (let off : ◌≡◌ {A = Option Slot} None (Some s) = sym (ap (λ b. if b then Some (record { key = r.key; id = r.id; scanned = true }) else None) q) ∙ e in cc)

settled-when : (x' : Runner) (r' : Rec) (needed : Bool) → needs_heap r' ≡ needed → IsSettled x'.heap r' → IsSome r'.heaped → r'.when ≡ Some r'.key
settled-when x' r' true q s some = (s.needed q).1
settled-when x' r' false q s some = absurd (none-heaped r'.heaped (s.free q).0 some)

pub scanned-more : (x x' : Runner) (id place : ℕ) (r r' : Rec) → Cleans x x' id place r r' → ScannedAreSettled x → ScannedAreSettled x'
scanned-more x x' id place r r' c before j s u slot h there =
    let k : Cleaned r r' = is-clean x x' id place r r' c in
    elim (cases_eq j id) [
      | inl e ↦
          let own : slice_get x'.records.items id ≡ Some r' = ap (λ xs. slice_get xs id) c.records_are ∙ get-set_same x.records.items id r r' c.there in
          let own_too : slice_get x'.records.items id ≡ Some u = subst (λ j. slice_get x'.records.items j ≡ Some u) e there in
          let is : r' ≡ u = cc in
          let entry : scanned_slot r' ≡ Some s = sym c.scans.entries.here ∙ (ap (slot_with x'.heap.slots) c.id_is ∙ subst (λ j. slot_with x'.heap.slots j ≡ Some s) e slot) in
          let heaped : is_some r'.heaped ≡ true = slot-heaped r' s (is_some r'.heaped) refl entry in
          subst (λ u. (is_stale u ≡ false) × (u.when ≡ Some u.key)) is (k.fresh, settled-when x' r' (needs_heap r') refl c.settled heaped)
      | inr n ↦
          before j s u (sym (c.scans.entries.others j (λ e. n (e ∙ c.id_is))) ∙ slot) h
          (sym (get-set_other x.records.items id j r' n) ∙ (ap (λ xs. slice_get xs j) (sym c.records_are) ∙ there))
    ]

-- ---- a pass has looked at all

find-all : (P : Slot → Type 0) (p : Slot → Bool) (slots : List Slot) (s : Slot) → find p slots ≡ Some s → All P slots → P s
find-all P p [] s e all = cc
find-all P p (t ∷ rest) s e all =
    elim (p t) as (λ b. (if b then Some t else find p rest) ≡ Some s → P s) [
      | true ↦ λ k. (let is : t ≡ s = cc in subst P is (All-head P t rest all))
      | false ↦ λ k. find-all P p rest s k (All-tail P t rest all)
    ] e

-- the entry of a record that needs the heap
pub record Entered (x : Runner) (r : Rec) : Type 0 where
  pub slot : Slot
  pub there : slot_with x.heap.slots r.id ≡ Some slot
  pub key_is : slot.key ≡ r.key

some-entry : (o : Option Slot) (key : ℕ) → IsSomeAnd o (λ (s : Slot). s.key ≡ key) → (s : Slot) × ((o ≡ Some s) × (s.key ≡ key))
some-entry None key h = absurd h
some-entry (Some s) key h = (s, (refl, h))

pub entered : (x : Runner) (r : Rec) → IsWatched x.book x.heap x.noted r → needs_heap r ≡ true → Entered x r
entered x r w needs =
    let found = some-entry (slot_with x.heap.slots r.id) r.key (w.kept.placed.here (w.inside (w.heaped needs))) in
    record { slot = found.0; there = found.1.0; key_is = found.1.1 }

-- where all entries were looked at, a record that needs the heap stands under its due time
all-settled : (x : Runner) → ScannedAreSettled x → All (λ (s : Slot). IsTrue s.scanned) x.heap.slots → (id : ℕ) (r : Rec) → slice_get x.records.items id ≡ Some r → r.id ≡ id
    → IsWatched x.book x.heap x.noted r → needs_heap r ≡ true → r.when ≡ Some r.key
all-settled x scanned all id r there is w needs =
    let e : Entered x r = entered x r w needs in
    let slot : slot_with x.heap.slots id ≡ Some e.slot = ap (slot_with x.heap.slots) (sym is) ∙ e.there in
    (scanned id e.slot r slot (find-all (λ (s : Slot). IsTrue s.scanned) (λ (s : Slot). s.id == id) x.heap.slots e.slot slot all) there).1

abbrev pub unnoted_run : Runner → Runner
unnoted_run x = record x { noted = None }

unnoted-kind : (x : Runner) (id : ℕ) (r : Rec) (o : Option RecKind) → ScannedAreSettled x → All (λ (s : Slot). IsTrue s.scanned) x.heap.slots → slice_get x.records.items id ≡ Some r → r.id ≡ id
    → AtKind x.book x.heap x.noted id r o → AtKind x.book x.heap None id r o
unnoted-kind x id r None scanned all there is at = at
unnoted-kind x id r (Some kind) scanned all there is w = record {
  kept = w.kept;
  inside = w.inside;
  heaped = w.heaped;
  early = λ n v at low.
      let key : r.when ≡ Some r.key = all-settled x scanned all id r there is w n in
      let same : v ≡ r.key = cc in
      absurd (omega arith);
  blocked = w.blocked;
  none_ready = w.none_ready;
  none_sent = w.none_sent;
}

unnoted-at : (x : Runner) (id : ℕ) (o : Option Rec) → slice_get x.records.items id ≡ o → ScannedAreSettled x → All (λ (s : Slot). IsTrue s.scanned) x.heap.slots
    → AtNumber x.book x.heap x.noted id o → AtNumber x.book x.heap None id o
unnoted-at x id None there scanned all at = at
unnoted-at x id (Some r) there scanned all at = record { id_is = at.id_is; watched = unnoted-kind x id r (kind_by x.book.script id) scanned all there at.id_is at.watched }

pub tended-unnoted : (x : Runner) → IsTended x → ScannedAreSettled x → All (λ (s : Slot). IsTrue s.scanned) x.heap.slots → IsTended (unnoted_run x)
tended-unnoted x t scanned all = record {
  at = λ id. unnoted-at x id (slice_get x.records.items id) refl scanned all (t.at id);
  declared = t.declared;
  record_room = t.record_room;
  heap_room = t.heap_room;
}

-- ---- the head may be read

first-least : (slots : List Slot) (s t : Slot) (id : ℕ) → slice_get slots 0 ≡ Some s → All (λ (t : Slot). s.key ≤ t.key) slots → slot_with slots id ≡ Some t → s.key ≤ t.key
first-least slots s t id e all found = find-all (λ (t : Slot). s.key ≤ t.key) (λ (t : Slot). t.id == id) slots t found all

none-entered : (slots : List Slot) (id : ℕ) (s : Slot) → slice_get slots 0 ≡ None → slot_with slots id ≡ Some s → ⊥
none-entered [] id s e k = cc
none-entered (t ∷ rest) id s e k = cc

none-needs : (x : Runner) → slice_get x.heap.slots 0 ≡ None → (r : Rec) → IsWatched x.book x.heap x.noted r → (b : Bool) → needs_heap r ≡ b → b ≡ false
none-needs x empty r w true q = (let e : Entered x r = entered x r w q in absurd (none-entered x.heap.slots r.id e.slot empty e.there))
none-needs x empty r w false q = refl

pub clean-unscanned : (x : Runner) → HeadIsFit x → is_early x ≡ false → IsClean x
clean-unscanned x fit late = record {
  fit = fit;
  low = λ s first least id w r there is watched needs at.
      let e : Entered x r = entered x r watched needs in
      let head : s.key ≤ e.slot.key = first-least x.heap.slots s e.slot r.id first least e.there in
      let key : e.slot.key ≡ r.key = e.key_is in
      elim (cases_lt w r.key) [
        | inl early ↦ noted-late x.noted refl s first w (watched.early needs w at early)
        | inr later ↦ omega arith
      ];
  none = λ empty id r there is watched. none-needs x empty r watched (needs_heap r) refl;
}
  where
    noted-late : (o : Option ℕ) → x.noted ≡ o → (s : Slot) → slice_get x.heap.slots 0 ≡ Some s → (w : ℕ) → IsSomeAnd x.noted (λ v. v ≤ w) → s.key ≤ w
    noted-late None q s first w h = absurd (subst (λ o. IsSomeAnd o (λ v. v ≤ w)) q h)
    noted-late (Some v) q s first w h =
        let low : v ≤ w = subst (λ o. IsSomeAnd o (λ v. v ≤ w)) q h in
        let test : nat_lt v s.key ≡ false =
        ap (λ (o : Option Slot). elim o as (λ _. Bool) [ None ↦ false | Some s ↦ nat_lt v s.key ]) (sym first)
        ∙ (ap (λ (o : Option ℕ). elim o as (λ _. Bool) [ None ↦ false | Some v ↦ elim (slice_get x.heap.slots 0) as (λ _. Bool) [ None ↦ false | Some s ↦ nat_lt v s.key ] ]) (sym q) ∙ late) in
        let past : s.key ≤ v = ltb-false v s.key test in
        omega arith

first-own : (slots : List Slot) (s : Slot) → slice_get slots 0 ≡ Some s → slot_with slots s.id ≡ Some s
first-own [] s e = cc
first-own (t ∷ rest) s e =
    let is : t ≡ s = cc in
    ap (λ b. if b then Some t else find (λ (u : Slot). u.id == s.id) rest) (eq-eqb t.id s.id (ap (λ (u : Slot). u.id) is)) ∙ e

pub own-entry : (x : Runner) (s : Slot) → slice_get x.heap.slots 0 ≡ Some s → slot_with x.heap.slots s.id ≡ Some s
own-entry x s e = first-own x.heap.slots s e

-- ---- the head that a heap answers

pub record FirstIs (slots : List Slot) (key id : ℕ) : Type 0 where
  pub slot : Slot
  pub there : slice_get slots 0 ≡ Some slot
  pub key_is : key ≡ slot.key
  pub id_is : id ≡ slot.id

pub head-first : (slots : List Slot) (key id : ℕ) → ((d : Slot) → (key ≡ (slice_index_or slots 0 d).key) × (id ≡ (slice_index_or slots 0 d).id))
    → IsSomeAnd (slot_with slots id) (λ s. s.key ≡ key) → FirstIs slots key id
head-first [] key id first with_id = absurd with_id
head-first (s ∷ rest) key id first with_id = record { slot = s; there = refl; key_is = (first s).0; id_is = (first s).1 }

-- its record stands there
pub head-stands : (x : Runner) (key id : ℕ) → IsTended x → (f : FirstIs x.heap.slots key id) → (h : Held x id f.slot) × StandsAt x.heap 0 h.rec
head-stands x key id t f =
    let own : slot_with x.heap.slots id ≡ Some f.slot = ap (slot_with x.heap.slots) f.id_is ∙ own-entry x f.slot f.there in
    let h : Held x id f.slot = held x id f.slot t own in (
      h,
      record {
        within = within x.heap.slots f.slot f.there;
        heaped = h.heaped;
        id = λ d. ap (λ (s : Slot). s.id) (first x.heap.slots f.slot d f.there) ∙ (sym f.id_is ∙ sym h.id_is);
        key = λ d. ap (λ (s : Slot). s.key) (first x.heap.slots f.slot d f.there) ∙ h.key_is;
      },
    )
  where
    within : (slots : List Slot) (s : Slot) → slice_get slots 0 ≡ Some s → 0 < length slots
    within [] s e = cc
    within (t ∷ rest) s e = omega arith

    first : (slots : List Slot) (s d : Slot) → slice_get slots 0 ≡ Some s → slice_index_or slots 0 d ≡ s
    first [] s d e = cc
    first (t ∷ rest) s d e = cc

-- ---- the steps of cleaning, by what the calls promise

same-item : {X : Type 0} (o : Option X) (x y : X) → o ≡ Some x → o ≡ Some y → x ≡ y
same-item o x y e f = cc

pub stands-item : (x : Runner) (id place : ℕ) (s : Slot) (r : Rec) (h : Held x id s) → slice_get x.records.items id ≡ Some r → StandsAt x.heap place h.rec → StandsAt x.heap place r
stands-item x id place s r h e stands = subst (StandsAt x.heap place) (same-item (slice_get x.records.items id) h.rec r h.there e) stands

pub bits-item : (x : Runner) (id : ℕ) (s : Slot) (r : Rec) → Held x id s → slice_get x.records.items id ≡ Some r → BitsRight r
bits-item x id s r h e = subst BitsRight (same-item (slice_get x.records.items id) h.rec r h.there e) h.watched.kept.rec.bits

pub inside-items : (x : Runner) (id : ℕ) (s : Slot) → Held x id s → id < length x.records.items
inside-items x id s h = slice_get_within x.records.items id h.rec h.there

pub cleans-item : (x : Runner) (id place : ℕ) (s : Slot) (r r' : Rec) (heap : LazyHeap) (h : Held x id s) → slice_get x.records.items id ≡ Some r
    → r' ≡ cleaned r → Scans x.heap heap place r r' → IsSettled heap r' → shown r' ≡ shown r → BitsRight r'
    → Cleans x (record { book = x.book; heap = heap; records = record { items = set x.records.items id r'; spare = x.records.spare }; noted = x.noted }) id place r r'
cleans-item x id place s r r' heap h e record_is scans settled shows bits =
    let is : h.rec ≡ r = same-item (slice_get x.records.items id) h.rec r h.there e in
    record {
      there = e;
      id_is = subst (λ (r : Rec). r.id ≡ id) is h.id_is;
      watched = subst (IsWatched x.book x.heap x.noted) is (h.watched);
      heaped = subst (λ (r : Rec). r.heaped ≡ Some x.heap.number) is (held-heaped x id s h);
      records_are = refl;
      spare = refl;
      book_is = refl;
      noted_is = refl;
      record_is = record_is;
      scans = scans;
      settled = settled;
      shows = shows;
      bits = bits;
    }
  where
    held-heaped : (x : Runner) (id : ℕ) (s : Slot) (h : Held x id s) → h.rec.heaped ≡ Some x.heap.number
    held-heaped x id s h = h.heaped

-- the entry at a place that a heap answers
pub entry-stands : (x : Runner) (place key id : ℕ) (b : Bool) → IsTended x → place < length x.heap.slots
    → ((d : Slot) → slice_index_or x.heap.slots place d ≡ record { key = key; id = id; scanned = b })
    → slot_with x.heap.slots id ≡ Some (record { key = key; id = id; scanned = b })
    → (h : Held x id (record { key = key; id = id; scanned = b })) × StandsAt x.heap place h.rec
entry-stands x place key id b t within at with_id =
    let h : Held x id (record { key = key; id = id; scanned = b }) = held x id (record { key = key; id = id; scanned = b }) t with_id in (
      h,
      record {
        within = within;
        heaped = h.heaped;
        id = λ d. ap (λ (s : Slot). s.id) (at d) ∙ sym h.id_is;
        key = λ d. ap (λ (s : Slot). s.key) (at d) ∙ h.key_is;
      },
    )

-- the head is fit, where the call that looks for an unfit one says so
pub fit-item : (x : Runner) (key id : ℕ) (r : Rec) → IsTended x → FirstIs x.heap.slots key id → slice_get x.records.items id ≡ Some r → is_unfit x.book r ≡ false → HeadIsFit x
fit-item x key id r t f e fit s first =
    let is : f.slot ≡ s = same-item (slice_get x.heap.slots 0) f.slot s f.there first in
    let own : slot_with x.heap.slots s.id ≡ Some s = own-entry x s first in
    let h : Held x s.id s = held x s.id s t own in
    let same : id ≡ s.id = f.id_is ∙ ap (λ (s : Slot). s.id) is in
    let here : slice_get x.records.items s.id ≡ Some r = subst (λ i. slice_get x.records.items i ≡ Some r) same e in
    (h, subst (λ r. is_unfit x.book r ≡ false) (same-item (slice_get x.records.items s.id) r h.rec here h.there) fit)

pub fit-empty : (x : Runner) → x.heap.slots ≡ [] → HeadIsFit x
fit-empty x e s first = (let off : slice_get [] 0 ≡ Some s = subst (λ (slots : List Slot). slice_get slots 0 ≡ Some s) e first in cc)

-- the head that is found unfit
pub unfit-item : (x : Runner) (key id : ℕ) (r : Rec) → IsTended x → FirstIs x.heap.slots key id → slice_get x.records.items id ≡ Some r → is_unfit x.book r ≡ true → UnfitHead x id
unfit-item x key id r t f e unfit =
    let h = head-stands x key id t f in
    record {
      slot = f.slot;
      held = h.0;
      unfit = subst (λ r. is_unfit x.book r ≡ true) (same-item (slice_get x.records.items id) r h.0.rec e h.0.there) unfit;
      entry = ap (slot_with x.heap.slots) f.id_is ∙ own-entry x f.slot f.there;
      stands = h.1;
    }

-- nothing is early where nothing was noted
pub none-early : (x : Runner) → x.noted ≡ None → is_early x ≡ false
none-early x e = ap (λ (o : Option ℕ). elim o as (λ _. Bool) [ None ↦ false | Some v ↦ elim (slice_get x.heap.slots 0) as (λ _. Bool) [ None ↦ false | Some s ↦ nat_lt v s.key ] ]) e

pub early-first : (x : Runner) (v key id : ℕ) → FirstIs x.heap.slots key id → x.noted ≡ Some v → nat_lt v key ≡ is_early x
early-first x v key id f noted =
    ap (nat_lt v) f.key_is
    ∙ (sym (ap (λ (o : Option Slot). elim o as (λ _. Bool) [ None ↦ false | Some s ↦ nat_lt v s.key ]) f.there)
    ∙ sym (ap (λ (o : Option ℕ). elim o as (λ _. Bool) [ None ↦ false | Some v ↦ elim (slice_get x.heap.slots 0) as (λ _. Bool) [ None ↦ false | Some s ↦ nat_lt v s.key ] ]) noted))
