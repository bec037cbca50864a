-- What each section does to a run: it touches one record, and leaves the others alone.
use Rattle.std.proofs.Common.{◌≡◌, ◌≢◌, ℕ, ◌+◌, ◌-◌, ◌^◌, ◌<◌, ◌≤◌, nat_lt, cond, min, unwrap_or, ◌||◌, List, set, slice_get, refl, sym, ap, subst, ◌∙◌, arith, Option, None, Some, IsSome, IsSomeAnd, Bool, true, false, not, ◌&&◌, is_some, is_none, inl}
use Rattle.std.proofs.lemmas.Bool.{lt-ltb}
use Rattle.gt_model.specs.declared.entry.Entry.{Entry}
use Rattle.gt_rules.specs.Change.{change_of}
use Rattle.gt_rec.specs.Rec.{Rec, needs_heap, has_channel}
use Rattle.gt_rec.specs.Changes.{armed, more_blocked, less_blocked}
use Rattle.gt_model.specs.Tables.{numbered}
use Rattle.gt_lazy.specs.Slots.{LazyHeap, slot_with}
use Rattle.gt_schedule.specs.Counts.{as_number, times}
use Rattle.gt_schedule.specs.Schedule.{Schedule, mark_count, marked, unmarked}
use Rattle.gt_book.specs.View.{BookView, Enters, IsLawful, with_schedule}
use Rattle.gt_book.proofs.Passing.{enters-script, enters-limits}
use Rattle.gt_rows.specs.declared.answers.SetDone.{SetDone}
use Rattle.gt_rows.specs.Agrees.{kind_by}
use Rattle.gt_rows.specs.Lent.{IsKept, Settles, joins}
use Rattle.gt_rows.specs.Rows.{Arms}
use Rattle.gt_rows.proofs.Owns.{ended-stays}
use Rattle.gt_runner.specs.declared.runner.Runner.{Runner}
use Rattle.gt_runner.specs.Served.{IsWatched, AtKind, IsAt, is_heaped, early_due, least_of, noted_with, noted_at}
use Rattle.gt_runner.proofs.Marks.{count-marked_same, count-marked_other, count-unmarked_same, count-unmarked_other}
use Rattle.gt_runner.proofs.Leaving.{Leaves, leaves-due, leaves-period, enters-mark_count}
use Rattle.gt_runner.proofs.Tending.{KeepsNote, Stays, Touches}

-- what an entry leaves of the record of a number, where the heap leaves it too
pub stays-enters : (old : BookView) (e : Entry) (new : BookView) (h h' : LazyHeap) (j : ℕ) → IsLawful old → Enters old e new → Leaves old (change_of e) j
    → slot_with h'.slots j ≡ slot_with h.slots j → h'.number ≡ h.number → Stays old new h h' j
stays-enters old e new h h' j lawful enters leaves slot number_is = record {
  script_is = enters-script old e new enters;
  due = leaves-due old e new lawful enters j leaves;
  ended = λ h. ended-stays old e new j lawful enters h;
  period = leaves-period old e new lawful enters j leaves;
  count = enters-mark_count old e new enters j;
  slot = slot;
  number_is = number_is;
}

-- a watched record stays one of a kind
pub at-kind : (x' : Runner) (id : ℕ) (r' : Rec) → r'.id ≡ id → IsWatched x'.book x'.heap x'.noted r' → IsAt x'.book x'.heap x'.noted id r'
at-kind x' id r' is watched = record {
  id_is = is;
  watched = subst (AtKind x'.book x'.heap x'.noted id r') (sym (ap (kind_by x'.book.script) (sym is) ∙ watched.kept.rec.agrees.kind)) watched;
}

-- ---- a section by an entry that does not let the record join the heap

-- a record that needs the heap is in it, and where it is due before its key, that was noted
pub record IsNoted (noted : Option ℕ) (r : Rec) : Type 0 where
  pub heaped : IsSome r.heaped
  pub early : (w : ℕ) → r.when ≡ Some w → w < r.key → IsSomeAnd noted (λ v. v ≤ w)

no-need : (b : Bool) → b ≡ true → b ≡ false → ⊥
no-need true e h = cc
no-need false e h = cc

pub needs-nothing : (noted : Option ℕ) (r : Rec) → needs_heap r ≡ false → needs_heap r ≡ true → IsNoted noted r
needs-nothing noted r none needs = absurd (no-need (needs_heap r) needs none)

pub note-same : (noted noted' : Option ℕ) → noted' ≡ noted → KeepsNote noted noted'
note-same noted noted' is w h = subst (λ o. IsSomeAnd o (λ v. v ≤ w)) (sym is) h

pub record Rests (x x' : Runner) (id : ℕ) (r r' : Rec) (e : Entry) : Type 0 where
  pub there : slice_get x.records.items id ≡ Some r
  pub id_is : r.id ≡ id
  pub watched : IsWatched x.book x.heap x.noted r
  pub records_are : x'.records.items ≡ set x.records.items id r'
  pub spare : x'.records.spare ≡ x.records.spare
  pub notes : KeepsNote x.noted x'.noted
  pub enters : Enters x.book e x'.book
  pub leaves : (j : ℕ) → j ≢ id → Leaves x.book (change_of e) j
  pub slots : (j : ℕ) → j ≢ id → slot_with x'.heap.slots j ≡ slot_with x.heap.slots j
  pub number_is : x'.heap.number ≡ x.heap.number
  pub room : x'.heap.spare + as_number (is_heaped r') ≡ x.heap.spare + as_number (is_heaped r)
  pub kept : IsKept x'.book x'.heap r'
  pub same_id : r'.id ≡ r.id
  pub same_kind : r'.kind ≡ r.kind
  pub same_blocked : r'.blocked ≡ r.blocked
  pub inside : IsSome r'.heaped → r'.heaped ≡ Some x'.heap.number
  pub needs : needs_heap r' ≡ true → IsNoted x'.noted r'
  pub none_ready : r'.ready ≡ None
  pub none_sent : r'.sending ≡ None

pub rests-touches : (x x' : Runner) (id : ℕ) (r r' : Rec) (e : Entry) → IsLawful x.book → Rests x x' id r r' e → Touches x x' id r r'
rests-touches x x' id r r' e lawful c = record {
  there = c.there;
  records_are = c.records_are;
  spare = c.spare;
  limits = enters-limits x.book e x'.book c.enters;
  stays = λ j n. stays-enters x.book e x'.book x.heap x'.heap j lawful c.enters (c.leaves j n) (c.slots j n) c.number_is;
  script_is = enters-script x.book e x'.book c.enters;
  room = c.room;
  noted_is = c.notes;
  own = at-kind x' id r' (c.same_id ∙ c.id_is) (record {
    kept = c.kept;
    inside = c.inside;
    heaped = λ n. (c.needs n).heaped;
    early = λ n. (c.needs n).early;
    blocked = λ channel.
        c.same_blocked ∙ (c.watched.blocked (ap has_channel (sym c.same_kind) ∙ channel)
        ∙ (ap (mark_count x.book.schedule) (sym c.same_id) ∙ sym (enters-mark_count x.book e x'.book c.enters r'.id)));
    none_ready = c.none_ready;
    none_sent = c.none_sent;
  });
}

-- ---- a new setting

pub record Sets (x x' : Runner) (id : ℕ) (r r' : Rec) (e : Entry) (due period : ℕ) (reply : SetDone) : Type 0 where
  pub there : slice_get x.records.items id ≡ Some r
  pub id_is : r.id ≡ id
  pub watched : IsWatched x.book x.heap x.noted r
  pub records_are : x'.records.items ≡ set x.records.items id r'
  pub spare : x'.records.spare ≡ x.records.spare
  pub noted_is : x'.noted ≡ noted_at x.noted r'
  pub arms : Arms (record { heap = x.heap; rec = r; book = x.book }) e due period (record { heap = x'.heap; rec = r'; book = x'.book }) reply
  pub leaves : (j : ℕ) → j ≢ id → Leaves x.book (change_of e) j
  pub kept : IsKept x'.book x'.heap r'

none-some : (o : Option ℕ) → is_none o ≡ false → IsSome o
none-some None e = cc
none-some (Some q) e = refl

some-is : (o : Option ℕ) → IsSome o → (q : ℕ) × (o ≡ Some q)
some-is None e = cc
some-is (Some q) e = (q, refl)

and-left : (a b : Bool) → (a && b) ≡ true → a ≡ true
and-left true b e = refl
and-left false b e = cc

and-fails : (a b : Bool) → (a && b) ≡ false → b ≡ true → a ≡ false
and-fails true b e h = absurd (no-need b h e)
and-fails false b e h = refl

none-is : (o : Option ℕ) → is_none o ≡ true → o ≡ None
none-is None e = refl
none-is (Some q) e = cc

least-below : (o : Option ℕ) (w : ℕ) → least_of o w ≤ w
least-below None w = omega arith
least-below (Some v) w = omega arith

noted-below : (noted : Option ℕ) (o : Option ℕ) (w : ℕ) → o ≡ Some w → IsSomeAnd (noted_with noted o) (λ v. v ≤ w)
noted-below noted None w e = cc
noted-below noted (Some v) w e = let same : v ≡ w = cc in let low : least_of noted v ≤ v = least-below noted v in omega arith

pub notes-keep : (noted : Option ℕ) (o : Option ℕ) → KeepsNote noted (noted_with noted o)
notes-keep noted None w h = h
notes-keep None (Some v) w h = absurd h
notes-keep (Some u) (Some v) w h = let low : u ≤ w = h in omega arith

early-is : (r : Rec) (w : ℕ) → r.when ≡ Some w → IsSome r.heaped → w < r.key → early_due r ≡ Some w
early-is r w at heaped low =
    ap (λ (o : Option ℕ). elim o as (λ _. Option ℕ) [ None ↦ None | Some w ↦ cond (is_some r.heaped && nat_lt w r.key) (Some w) None ]) at
    ∙ (ap (λ b. cond (b && nat_lt w r.key) (Some w) None) heaped ∙ ap (λ b. cond b (Some w) None) (lt-ltb w r.key low))

-- a record that is due before its key is noted
pub noted-early : (noted : Option ℕ) (r : Rec) (w : ℕ) → r.when ≡ Some w → IsSome r.heaped → w < r.key → IsSomeAnd (noted_at noted r) (λ v. v ≤ w)
noted-early noted r w at heaped low = noted-below noted (early_due r) w (early-is r w at heaped low)

-- where the record was in no heap it has joined this one, else it is where it was
sets-watched : (x x' : Runner) (id : ℕ) (r r' : Rec) (e : Entry) (due period : ℕ) (reply : SetDone) → IsLawful x.book → Sets x x' id r r' e due period reply
    → (joined : Bool) → joins (armed r due period) ≡ joined → Settles x.heap (armed r due period) x'.heap r' joined → IsWatched x'.book x'.heap x'.noted r'
sets-watched x x' id r r' e due period reply lawful c true q s =
    subst (λ r'. IsKept x'.book x'.heap r' → IsWatched x'.book x'.heap x'.noted r') (sym s.record_is) (λ kept. record {
      kept = kept;
      inside = λ _. ap Some (sym s.number);
      heaped = λ _. refl;
      early = λ n w at low. (let is : w ≡ due = cc in absurd (omega arith));
      blocked = λ channel. c.watched.blocked channel ∙ sym (enters-mark_count x.book e x'.book c.arms.entered r.id);
      none_ready = refl;
      none_sent = refl;
    }) c.kept
sets-watched x x' id r r' e due period reply lawful c false q s =
    subst (λ r'. IsKept x'.book x'.heap r' → IsWatched x'.book x'.heap x'.noted r') (sym s.1) (λ kept. record {
      kept = kept;
      inside = λ some. c.watched.inside some ∙ ap (λ (h : LazyHeap). Some h.number) (sym s.0);
      heaped = λ needs. none-some r.heaped (and-fails (is_none r.heaped) (needs_heap (armed r due period)) q needs);
      early = λ needs w at low.
          let heaped : IsSome r.heaped = none-some r.heaped (and-fails (is_none r.heaped) (needs_heap (armed r due period)) q needs) in
          subst (λ o. IsSomeAnd o (λ v. v ≤ w)) (sym (c.noted_is ∙ ap (noted_at x.noted) s.1)) (noted-early x.noted (armed r due period) w at heaped low);
      blocked = λ channel. c.watched.blocked channel ∙ sym (enters-mark_count x.book e x'.book c.arms.entered r.id);
      none_ready = refl;
      none_sent = refl;
    }) c.kept

sets-slots : (x x' : Runner) (id : ℕ) (r r' : Rec) (due period : ℕ) → r.id ≡ id → (joined : Bool) → Settles x.heap (armed r due period) x'.heap r' joined
    → (j : ℕ) → j ≢ id → slot_with x'.heap.slots j ≡ slot_with x.heap.slots j
sets-slots x x' id r r' due period is true s j n = s.entries.others j (λ e. n (e ∙ is))
sets-slots x x' id r r' due period is false s j n = ap (λ (h : LazyHeap). slot_with h.slots j) s.0

sets-number : (x x' : Runner) (r r' : Rec) (due period : ℕ) (joined : Bool) → Settles x.heap (armed r due period) x'.heap r' joined → x'.heap.number ≡ x.heap.number
sets-number x x' r r' due period true s = s.number
sets-number x x' r r' due period false s = ap (λ (h : LazyHeap). h.number) s.0

sets-id : (x x' : Runner) (r r' : Rec) (due period : ℕ) (joined : Bool) → Settles x.heap (armed r due period) x'.heap r' joined → r'.id ≡ r.id
sets-id x x' r r' due period true s = ap (λ (r : Rec). r.id) s.record_is
sets-id x x' r r' due period false s = ap (λ (r : Rec). r.id) s.1

sets-room : (x x' : Runner) (r r' : Rec) (due period : ℕ) (joined : Bool) → joins (armed r due period) ≡ joined → Settles x.heap (armed r due period) x'.heap r' joined
    → x'.heap.spare + as_number (is_heaped r') ≡ x.heap.spare + as_number (is_heaped r)
sets-room x x' r r' due period true q s =
    let free : is_some r.heaped ≡ false = ap is_some (none-is r.heaped (and-left (is_none r.heaped) (needs_heap (armed r due period)) q)) in
    let old : as_number (is_heaped r) ≡ 0 = ap as_number free in
    let new : as_number (is_heaped r') ≡ 1 = ap (λ (r : Rec). as_number (is_heaped r)) s.record_is in
    let less : x'.heap.spare + 1 ≡ x.heap.spare = s.spare in
    omega arith
sets-room x x' r r' due period false q s =
    let same : x'.heap.spare ≡ x.heap.spare = ap (λ (h : LazyHeap). h.spare) s.0 in
    let heaped : as_number (is_heaped r') ≡ as_number (is_heaped r) = ap (λ (r : Rec). as_number (is_heaped r)) s.1 in
    omega arith

pub sets-touches : (x x' : Runner) (id : ℕ) (r r' : Rec) (e : Entry) (due period : ℕ) (reply : SetDone) → IsLawful x.book → Sets x x' id r r' e due period reply → Touches x x' id r r'
sets-touches x x' id r r' e due period reply lawful c =
    let joined : Bool = joins (armed r due period) in
    let number_is : x'.heap.number ≡ x.heap.number = sets-number x x' r r' due period joined c.arms.place in
    record {
      there = c.there;
      records_are = c.records_are;
      spare = c.spare;
      limits = enters-limits x.book e x'.book c.arms.entered;
      stays = λ j n. stays-enters x.book e x'.book x.heap x'.heap j lawful c.arms.entered (c.leaves j n) (sets-slots x x' id r r' due period c.id_is joined c.arms.place j n) number_is;
      script_is = enters-script x.book e x'.book c.arms.entered;
      room = sets-room x x' r r' due period joined refl c.arms.place;
      noted_is = λ w h. subst (λ o. IsSomeAnd o (λ v. v ≤ w)) (sym c.noted_is) (notes-keep x.noted (early_due r') w h);
      own = at-kind x' id r' (sets-id x x' r r' due period joined c.arms.place ∙ c.id_is)
          (sets-watched x x' id r r' e due period reply lawful c joined refl c.arms.place);
    }

-- ---- a goroutine is counted among those that wait

pub record Counts (x x' : Runner) (id g : ℕ) (r r' : Rec) : Type 0 where
  pub there : slice_get x.records.items id ≡ Some r
  pub id_is : r.id ≡ id
  pub watched : IsWatched x.book x.heap x.noted r
  pub records_are : x'.records.items ≡ set x.records.items id r'
  pub spare : x'.records.spare ≡ x.records.spare
  pub noted_is : x'.noted ≡ noted_at x.noted r'
  pub book_is : x'.book ≡ with_schedule x.book (marked x.book.schedule g r.id)
  pub place : Settles x.heap (more_blocked r) x'.heap r' (joins (more_blocked r))
  pub marks : List ℕ
  pub has_marks : numbered x.book.schedule.marks g ≡ Some marks
  pub few : mark_count x.book.schedule r.id + 1 ≤ 2 ^ 32 - 1
  pub kept : IsKept x'.book x'.heap r'

counts-blocked : (x x' : Runner) (id g : ℕ) (r r' : Rec) → Counts x x' id g r r' → has_channel r.kind ≡ true → min (r.blocked + 1) (2 ^ 32 - 1) ≡ mark_count x'.book.schedule r.id
counts-blocked x x' id g r r' c channel =
    let was : r.blocked ≡ mark_count x.book.schedule r.id = c.watched.blocked channel in
    let few : mark_count x.book.schedule r.id + 1 ≤ 2 ^ 32 - 1 = c.few in
    let more : mark_count x'.book.schedule r.id ≡ mark_count x.book.schedule r.id + 1 =
    ap (λ (b : BookView). mark_count b.schedule r.id) c.book_is ∙ count-marked_same x.book.schedule g r.id c.marks c.has_marks in
    omega arith

counts-watched : (x x' : Runner) (id g : ℕ) (r r' : Rec) → Counts x x' id g r r' → (joined : Bool) → joins (more_blocked r) ≡ joined → Settles x.heap (more_blocked r) x'.heap r' joined
    → IsWatched x'.book x'.heap x'.noted r'
counts-watched x x' id g r r' c true q s =
    subst (λ r'. IsKept x'.book x'.heap r' → IsWatched x'.book x'.heap x'.noted r') (sym s.record_is) (λ kept. record {
      kept = kept;
      inside = λ _. ap Some (sym s.number);
      heaped = λ _. refl;
      early = λ n w at low. absurd (not-early (more_blocked r) w at low);
      blocked = λ channel. counts-blocked x x' id g r r' c channel;
      none_ready = c.watched.none_ready;
      none_sent = c.watched.none_sent;
    }) c.kept
  where
    not-early : (r : Rec) (w : ℕ) → r.when ≡ Some w → w < unwrap_or r.when r.key → ⊥
    not-early r w at low = let same : w < w = subst (λ o. w < unwrap_or o r.key) at low in absurd (omega arith)
counts-watched x x' id g r r' c false q s =
    subst (λ r'. IsKept x'.book x'.heap r' → IsWatched x'.book x'.heap x'.noted r') (sym s.1) (λ kept. record {
      kept = kept;
      inside = λ some. c.watched.inside some ∙ ap (λ (h : LazyHeap). Some h.number) (sym s.0);
      heaped = λ needs. none-some r.heaped (and-fails (is_none r.heaped) (needs_heap (more_blocked r)) q needs);
      early = λ needs w at low.
          let heaped : IsSome r.heaped = none-some r.heaped (and-fails (is_none r.heaped) (needs_heap (more_blocked r)) q needs) in
          subst (λ o. IsSomeAnd o (λ v. v ≤ w)) (sym (c.noted_is ∙ ap (noted_at x.noted) s.1)) (noted-early x.noted (more_blocked r) w at heaped low);
      blocked = λ channel. counts-blocked x x' id g r r' c channel;
      none_ready = c.watched.none_ready;
      none_sent = c.watched.none_sent;
    }) c.kept

counts-slots : (x x' : Runner) (id : ℕ) (r r' : Rec) → r.id ≡ id → (joined : Bool) → Settles x.heap (more_blocked r) x'.heap r' joined
    → (j : ℕ) → j ≢ id → slot_with x'.heap.slots j ≡ slot_with x.heap.slots j
counts-slots x x' id r r' is true s j n = s.entries.others j (λ e. n (e ∙ is))
counts-slots x x' id r r' is false s j n = ap (λ (h : LazyHeap). slot_with h.slots j) s.0

counts-number : (x x' : Runner) (r r' : Rec) (joined : Bool) → Settles x.heap (more_blocked r) x'.heap r' joined → x'.heap.number ≡ x.heap.number
counts-number x x' r r' true s = s.number
counts-number x x' r r' false s = ap (λ (h : LazyHeap). h.number) s.0

counts-id : (x x' : Runner) (r r' : Rec) (joined : Bool) → Settles x.heap (more_blocked r) x'.heap r' joined → r'.id ≡ r.id
counts-id x x' r r' true s = ap (λ (r : Rec). r.id) s.record_is
counts-id x x' r r' false s = ap (λ (r : Rec). r.id) s.1

counts-room : (x x' : Runner) (r r' : Rec) (joined : Bool) → joins (more_blocked r) ≡ joined → Settles x.heap (more_blocked r) x'.heap r' joined
    → x'.heap.spare + as_number (is_heaped r') ≡ x.heap.spare + as_number (is_heaped r)
counts-room x x' r r' true q s =
    let free : is_some r.heaped ≡ false = ap is_some (none-is r.heaped (and-left (is_none r.heaped) (needs_heap (more_blocked r)) q)) in
    let old : as_number (is_heaped r) ≡ 0 = ap as_number free in
    let new : as_number (is_heaped r') ≡ 1 = ap (λ (r : Rec). as_number (is_heaped r)) s.record_is in
    let less : x'.heap.spare + 1 ≡ x.heap.spare = s.spare in
    omega arith
counts-room x x' r r' false q s =
    let same : x'.heap.spare ≡ x.heap.spare = ap (λ (h : LazyHeap). h.spare) s.0 in
    let heaped : as_number (is_heaped r') ≡ as_number (is_heaped r) = ap (λ (r : Rec). as_number (is_heaped r)) s.1 in
    omega arith

-- another record, where the book has other marks alone
stays-marked : (b b' : BookView) (m : Schedule) (h h' : LazyHeap) (j : ℕ) → b' ≡ with_schedule b m → mark_count m j ≡ mark_count b.schedule j
    → slot_with h'.slots j ≡ slot_with h.slots j → h'.number ≡ h.number → Stays b b' h h' j
stays-marked b b' m h h' j is count slot number_is =
    subst (λ b'. Stays b b' h h' j) (sym is) (record { script_is = refl; due = inl refl; ended = λ h. h; period = refl; count = count; slot = slot; number_is = number_is })

pub counts-touches : (x x' : Runner) (id g : ℕ) (r r' : Rec) → Counts x x' id g r r' → Touches x x' id r r'
counts-touches x x' id g r r' c =
    let joined : Bool = joins (more_blocked r) in
    let number_is : x'.heap.number ≡ x.heap.number = counts-number x x' r r' joined c.place in
    record {
      there = c.there;
      records_are = c.records_are;
      spare = c.spare;
      limits = ap (λ (b : BookView). b.limits) c.book_is;
      stays = λ j n. stays-marked x.book x'.book (marked x.book.schedule g r.id) x.heap x'.heap j c.book_is
          (count-marked_other x.book.schedule g r.id j c.marks c.has_marks (λ e. n (e ∙ c.id_is))) (counts-slots x x' id r r' c.id_is joined c.place j n) number_is;
      script_is = ap (λ (b : BookView). b.script) c.book_is;
      room = counts-room x x' r r' joined refl c.place;
      noted_is = λ w h. subst (λ o. IsSomeAnd o (λ v. v ≤ w)) (sym c.noted_is) (notes-keep x.noted (early_due r') w h);
      own = at-kind x' id r' (counts-id x x' r r' joined c.place ∙ c.id_is) (counts-watched x x' id g r r' c joined refl c.place);
    }

-- ---- a goroutine is counted no more

pub record Uncounts (x x' : Runner) (id g : ℕ) (r r' : Rec) : Type 0 where
  pub there : slice_get x.records.items id ≡ Some r
  pub id_is : r.id ≡ id
  pub watched : IsWatched x.book x.heap x.noted r
  pub channel : has_channel r.kind ≡ true
  pub records_are : x'.records.items ≡ set x.records.items id r'
  pub spare : x'.records.spare ≡ x.records.spare
  pub noted_is : x'.noted ≡ x.noted
  pub heap_is : x'.heap ≡ x.heap
  pub book_is : x'.book ≡ with_schedule x.book (unmarked x.book.schedule g r.id)
  pub marks : List ℕ
  pub has_marks : numbered x.book.schedule.marks g ≡ Some marks
  pub marked_there : 0 < times r.id marks
  pub record_is : r' ≡ less_blocked r
  pub kept : IsKept x'.book x'.heap r'

-- who needs the heap with one fewer needed it before
fewer-needs : (b k : ℕ) (w : Option ℕ) (c : Bool) → b + 1 ≡ k → (is_some w && (not c || nat_lt 0 b)) ≡ true → (is_some w && (not c || nat_lt 0 k)) ≡ true
fewer-needs b k None c e h = cc
fewer-needs b k (Some w) false e h = refl
fewer-needs b k (Some w) true e h = lt-ltb 0 k (omega arith)

pub uncounts-touches : (x x' : Runner) (id g : ℕ) (r r' : Rec) → Uncounts x x' id g r r' → Touches x x' id r r'
uncounts-touches x x' id g r r' c =
    let was : r.blocked ≡ mark_count x.book.schedule r.id = c.watched.blocked c.channel in
    let less : mark_count (unmarked x.book.schedule g r.id) r.id + 1 ≡ mark_count x.book.schedule r.id = count-unmarked_same x.book.schedule g r.id c.marks c.has_marks c.marked_there in
    let number_is : x'.heap.number ≡ x.heap.number = ap (λ (h : LazyHeap). h.number) c.heap_is in
    let same_heaped : r'.heaped ≡ r.heaped = ap (λ (r : Rec). r.heaped) c.record_is in
    let fewer : (r.blocked - 1) + 1 ≡ r.blocked = omega arith in
    let needed : needs_heap r' ≡ true → needs_heap r ≡ true = λ h. fewer-needs (r.blocked - 1) r.blocked r.when (has_channel r.kind) fewer (subst (λ (r : Rec). needs_heap r ≡ true) c.record_is h) in
    record {
      there = c.there;
      records_are = c.records_are;
      spare = c.spare;
      limits = ap (λ (b : BookView). b.limits) c.book_is;
      stays = λ j n. stays-marked x.book x'.book (unmarked x.book.schedule g r.id) x.heap x'.heap j c.book_is
          (count-unmarked_other x.book.schedule g r.id j c.marks c.has_marks (λ e. n (e ∙ c.id_is))) (ap (λ (h : LazyHeap). slot_with h.slots j) c.heap_is) number_is;
      script_is = ap (λ (b : BookView). b.script) c.book_is;
      room = (let heaped : as_number (is_heaped r') ≡ as_number (is_heaped r) = ap (λ (r : Rec). as_number (is_heaped r)) c.record_is in
          let free : x'.heap.spare ≡ x.heap.spare = ap (λ (h : LazyHeap). h.spare) c.heap_is in omega arith);
      noted_is = λ w h. subst (λ o. IsSomeAnd o (λ v. v ≤ w)) (sym c.noted_is) h;
      own = at-kind x' id r' (ap (λ (r : Rec). r.id) c.record_is ∙ c.id_is) (record {
        kept = c.kept;
        inside = λ some. same_heaped ∙ (c.watched.inside (subst IsSome same_heaped some) ∙ ap Some (sym number_is));
        heaped = λ n. subst IsSome (sym same_heaped) (c.watched.heaped (needed n));
        early = λ n w at low. subst (λ o. IsSomeAnd o (λ v. v ≤ w)) (sym c.noted_is)
            (c.watched.early (needed n) w (sym (ap (λ (r : Rec). r.when) c.record_is) ∙ at) (subst (λ (r : Rec). w < r.key) c.record_is low));
        blocked = λ channel.
            let now : r'.blocked ≡ r.blocked - 1 = ap (λ (r : Rec). r.blocked) c.record_is in
            let count : mark_count x'.book.schedule r'.id ≡ mark_count (unmarked x.book.schedule g r.id) r.id =
            ap (λ (b : BookView). mark_count b.schedule r'.id) c.book_is ∙ ap (mark_count (unmarked x.book.schedule g r.id)) (ap (λ (r : Rec). r.id) c.record_is) in
            omega arith;
        none_ready = ap (λ (r : Rec). r.ready) c.record_is ∙ c.watched.none_ready;
        none_sent = ap (λ (r : Rec). r.sending) c.record_is ∙ c.watched.none_sent;
      });
    }
