-- A goroutine that was taken is counted no more, mark after mark.
use Rattle.std.proofs.Common.{◌≡◌, ◌≢◌, ℕ, ◌<◌, cond, if◌then◌else◌, List, [], ◌∷◌, length, set, slice_get, refl, sym, ap, subst, ◌∙◌, arith, Option, None, Some, true, eq-eqb, inl, inr}
use Rattle.std.proofs.lemmas.Bool.{lt-ltb, cases_eq}
use Rattle.gt_model.specs.Tables.{numbered}
use Rattle.gt_model.specs.Script.{is_timer}
use Rattle.gt_model.proofs.Declared.{timer_setting}
use Rattle.gt_model.proofs.Items.{numbered-change_same, numbered-change_other}
use Rattle.gt_model.proofs.Changes.{length-change_numbered}
use Rattle.gt_rec.specs.Rec.{Rec, has_channel}
use Rattle.gt_rec.specs.Changes.{less_blocked}
use Rattle.gt_rows.specs.Lent.{IsLentRec, IsPlaced}
use Rattle.gt_rows.specs.Rows.{UnblockRow}
use Rattle.gt_schedule.specs.Counts.{times}
use Rattle.gt_schedule.specs.declared.status.RunStatus.{RunStatus}
use Rattle.gt_schedule.specs.Schedule.{Schedule, status_of, marks_at, mark_count, unmarked, without_first}
use Rattle.gt_book.specs.View.{BookView, with_schedule}
use Rattle.gt_runner.specs.declared.runner.Runner.{Runner}
use Rattle.gt_runner.specs.Served.{NamesTimers, IsServed, MarkFits, MarkFitsAt, awaited_by}
use Rattle.gt_runner.specs.Calls.{HasRecord}
use Rattle.gt_runner.specs.Serves.{IsTaken, ButMarks}
use Rattle.gt_runner.proofs.Marks.{mark-counts}
use Rattle.gt_runner.proofs.Fitting.{named-remarked}
use Rattle.gt_runner.proofs.Tending.{Touches, tended-touched}
use Rattle.gt_runner.proofs.Touching.{uncounts-touches}
use Rattle.gt_runner.proofs.Calling.{setting-record, record-is}
use Rattle.gt_runner.proofs.Waiting.{placed-same, channel-of}

-- ---- the first mark

-- the marks after the first
abbrev rest_of : List ℕ → List ℕ
rest_of [] = []
rest_of (t ∷ rest) = rest

first-of : (ts : List ℕ) (t : ℕ) → slice_get ts 0 ≡ Some t → ts ≡ t ∷ rest_of ts
first-of [] t e = cc
first-of (x ∷ rest) t e = (let is : x ≡ t = cc in ap (λ x. x ∷ rest) is)

no-mark : (ts : List ℕ) → slice_get ts 0 ≡ None → ts ≡ []
no-mark [] e = refl
no-mark (x ∷ rest) e = cc

abbrev list_or_none : Option (List ℕ) → List ℕ
list_or_none None = []
list_or_none (Some ts) = ts

has-marks : (m : Schedule) (g t : ℕ) → slice_get (marks_at m g) 0 ≡ Some t → numbered m.marks g ≡ Some (t ∷ rest_of (marks_at m g))
has-marks m g t e =
    elim (numbered m.marks g) as (λ o. slice_get (list_or_none o) 0 ≡ Some t → o ≡ Some (t ∷ rest_of (list_or_none o))) [
      | None ↦ λ k. cc
      | Some ts ↦ λ k. ap Some (first-of ts t k)
    ] e

has-first : (t : ℕ) (rest : List ℕ) → 0 < times t (t ∷ rest)
has-first t rest = rw (eq-eqb t t refl) (omega arith)

has-later : (t u : ℕ) (rest : List ℕ) → 0 < times u rest → 0 < times u (t ∷ rest)
has-later t u rest h = omega arith

without-head : (t : ℕ) (rest : List ℕ) → without_first t (t ∷ rest) ≡ rest
without-head t rest = ap (λ b. cond b rest (t ∷ without_first t rest)) (eq-eqb t t refl)

-- without it the others are left
rest-left : (m : Schedule) (g t : ℕ) → slice_get (marks_at m g) 0 ≡ Some t → marks_at (unmarked m g t) g ≡ rest_of (marks_at m g)
rest-left m g t e =
    ap list_or_none (numbered-change_same m.marks g (without_first t) (t ∷ rest_of (marks_at m g)) (has-marks m g t e)) ∙ without-head t (rest_of (marks_at m g))

first-timer : (x : Runner) (g t : ℕ) → IsTaken x g → slice_get (marks_at x.book.schedule g) 0 ≡ Some t → is_timer x.book.script t ≡ true
first-timer x g t taken e =
    let ts : List ℕ = marks_at x.book.schedule g in
    taken.but.named g t (subst (λ ts. 0 < times t ts) (sym (first-of ts t e)) (has-first t (rest_of ts)))

pub taken-record : (x : Runner) (g t : ℕ) → IsTaken x g → slice_get (marks_at x.book.schedule g) 0 ≡ Some t → HasRecord x t
taken-record x g t taken e = setting-record x t taken.but.tended (timer_setting x.book.script t (first-timer x g t taken e))

-- ---- it is taken away

pub unblocked-book : (x : Runner) (v : BookView) (g t : ℕ) (r r' : Rec) → IsTaken x g → slice_get (marks_at x.book.schedule g) 0 ≡ Some t → slice_get x.records.items t ≡ Some r
    → UnblockRow (record { rec = r; book = x.book }) g (record { rec = r'; book = v }) → v ≡ with_schedule x.book (unmarked x.book.schedule g t)
unblocked-book x v g t r r' taken first there row =
    let own = record-is x t r (taken-record x g t taken first) there in
    row.0 ∙ ap (λ i. with_schedule x.book (unmarked x.book.schedule g i)) own.1

pub unblocked-fewer : (b b' : BookView) (g t : ℕ) → slice_get (marks_at b.schedule g) 0 ≡ Some t → b' ≡ with_schedule b (unmarked b.schedule g t)
    → length (marks_at b'.schedule g) < length (marks_at b.schedule g)
unblocked-fewer b b' g t first is =
    let old : length (marks_at b.schedule g) ≡ length (t ∷ rest_of (marks_at b.schedule g)) = ap length (first-of (marks_at b.schedule g) t first) in
    let new : length (marks_at b'.schedule g) ≡ length (rest_of (marks_at b.schedule g)) =
    ap (λ (v : BookView). length (marks_at v.schedule g)) is ∙ ap length (rest-left b.schedule g t first) in
    omega arith

pub record Unblocks (x x' : Runner) (g t : ℕ) (r r' : Rec) : Type 0 where
  pub taken : IsTaken x g
  pub first : slice_get (marks_at x.book.schedule g) 0 ≡ Some t
  pub there : slice_get x.records.items t ≡ Some r
  pub records_are : x'.records.items ≡ set x.records.items t r'
  pub spare : x'.records.spare ≡ x.records.spare
  pub noted_is : x'.noted ≡ x.noted
  pub heap_is : x'.heap ≡ x.heap
  pub row : UnblockRow (record { rec = r; book = x.book }) g (record { rec = r'; book = x'.book })
  pub lent : IsLentRec x'.book r'

unblocks-touches : (x x' : Runner) (g t : ℕ) (r r' : Rec) → Unblocks x x' g t r r' → Touches x x' t r r'
unblocks-touches x x' g t r r' u =
    let own = record-is x t r (taken-record x g t u.taken u.first) u.there in
    let marks : List ℕ = t ∷ rest_of (marks_at x.book.schedule g) in
    let has : numbered x.book.schedule.marks g ≡ Some marks = has-marks x.book.schedule g t u.first in
    let marked : 0 < times t marks = has-first t (rest_of (marks_at x.book.schedule g)) in
    let channel : has_channel r.kind ≡ true = channel-of x t r (first-timer x g t u.taken u.first) own in
    let count : 0 < mark_count x.book.schedule t = mark-counts x.book.schedule g t marks has marked in
    let blocked : r.blocked ≡ mark_count x.book.schedule t = own.2.blocked channel ∙ ap (mark_count x.book.schedule) own.1 in
    let rec_is : r' ≡ less_blocked r = u.row.1 ∙ ap (λ b. if b then less_blocked r else r) (lt-ltb 0 r.blocked (omega arith)) in
    uncounts-touches x x' t g r r' (record {
      there = u.there;
      id_is = own.1;
      watched = own.2;
      channel = channel;
      records_are = u.records_are;
      spare = u.spare;
      noted_is = u.noted_is;
      heap_is = u.heap_is;
      book_is = u.row.0;
      marks = marks;
      has_marks = has;
      marked_there = subst (λ i. 0 < times i marks) (sym own.1) marked;
      record_is = rec_is;
      kept = record {
        rec = u.lent;
        placed = subst (λ h. IsPlaced h r') (sym u.heap_is)
            (placed-same x.heap r r' (ap (λ (r : Rec). r.id) rec_is) (ap (λ (r : Rec). r.heaped) rec_is) (ap (λ (r : Rec). r.key) rec_is) own.2.kept.placed);
      };
    })

-- the others' marks fit as they did
others-fit : (x : Runner) (g t : ℕ) → IsTaken x g → (h : ℕ) → h ≢ g → MarkFitsAt x.book.script x.book.state (unmarked x.book.schedule g t) h
others-fit x g t taken h n =
    subst (λ ts. MarkFits ts (awaited_by x.book.script x.book.state h) (status_of x.book.schedule h))
    (sym (ap list_or_none (numbered-change_other x.book.schedule.marks g h (without_first t) n))) (taken.but.marks h n)

rest-named : (x : Runner) (g t : ℕ) → IsTaken x g → slice_get (marks_at x.book.schedule g) 0 ≡ Some t → NamesTimers (with_schedule x.book (unmarked x.book.schedule g t))
rest-named x g t taken e =
    let ts : List ℕ = marks_at x.book.schedule g in
    named-remarked x.book g (without_first t) (t ∷ rest_of ts) (has-marks x.book.schedule g t e) taken.but.named (λ u h.
    let later : 0 < times u (rest_of ts) = subst (λ ts. 0 < times u ts) (without-head t (rest_of ts)) h in
    taken.but.named g u (subst (λ ts. 0 < times u ts) (sym (first-of ts t e)) (has-later t u (rest_of ts) later)))

pub unblocks-taken : (x x' : Runner) (g t : ℕ) (r r' : Rec) → Unblocks x x' g t r r' → IsTaken x' g
unblocks-taken x x' g t r r' u =
    let m : Schedule = x.book.schedule in
    let is : x'.book ≡ with_schedule x.book (unmarked m g t) = unblocked-book x x'.book g t r r' u.taken u.first u.there u.row in
    record {
      but = record {
        tended = tended-touched x x' t r r' u.taken.but.tended (unblocks-touches x x' g t r r' u);
        marks = subst (λ (b : BookView). (h : ℕ) → h ≢ g → MarkFitsAt b.script b.state b.schedule h) (sym is) (others-fit x g t u.taken);
        named = subst NamesTimers (sym is) (rest-named x g t u.taken u.first);
      };
      marks_many = subst (λ (b : BookView). length b.schedule.marks ≡ length b.schedule.statuses) (sym is) (length-change_numbered m.marks g (without_first t) ∙ u.taken.marks_many);
      in_hand = subst (λ (b : BookView). status_of b.schedule g ≡ Some RunStatus.InHand) (sym is) u.taken.in_hand;
    }

-- ---- no mark is left

pub unmarked-served : (x : Runner) (g : ℕ) → IsTaken x g → slice_get (marks_at x.book.schedule g) 0 ≡ None → IsServed x
unmarked-served x g taken e = record {
  tended = taken.but.tended;
  marks = λ h. elim (cases_eq h g) [
    | inl is ↦ subst (λ k. MarkFitsAt x.book.script x.book.state x.book.schedule k) (sym is)
        (subst (MarkFits (marks_at x.book.schedule g) (awaited_by x.book.script x.book.state g)) (sym taken.in_hand) (no-mark (marks_at x.book.schedule g) e))
    | inr n ↦ taken.but.marks h n
  ];
  named = taken.but.named;
}

-- ---- marks alone change

pub but-none : (b : BookView) → ButMarks b b
but-none b = record { schedule = b.schedule; is = refl; statuses = refl; run_queue = refl }

pub but-then : (b b' b'' : BookView) → ButMarks b b' → ButMarks b' b'' → ButMarks b b''
but-then b b' b'' p q = record {
  schedule = q.schedule;
  is = q.is ∙ ap (λ (b : BookView). with_schedule b q.schedule) p.is;
  statuses = q.statuses ∙ (ap (λ (b : BookView). b.schedule.statuses) p.is ∙ p.statuses);
  run_queue = q.run_queue ∙ (ap (λ (b : BookView). b.schedule.run_queue) p.is ∙ p.run_queue);
}

pub but-unmarked : (b b' : BookView) (g t : ℕ) → b' ≡ with_schedule b (unmarked b.schedule g t) → ButMarks b b'
but-unmarked b b' g t is = record { schedule = unmarked b.schedule g t; is = is; statuses = refl; run_queue = refl }
