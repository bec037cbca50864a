-- Where nobody runs, the key of a clean head is the least counted time.
use Rattle.std.proofs.Common.{◌≡◌, ◌≢◌, ◌⊎◌, ◌==◌, ◌&&◌, cond, inl, inr, is_none, IfSome, ℕ, ◌+◌, ◌-◌, ◌<◌, ◌≤◌, nat_lt, ◌||◌, List, [], ◌∷◌, All, length, slice_get, refl, sym, ap, subst, ◌∙◌, arith, Option, None, Some, Bool, true, false}
use Rattle.gt_model.specs.declared.entry.Entry.{Entry}
use Rattle.gt_model.specs.declared.entry.Outcome.{Outcome}
use Rattle.gt_model.specs.Times.{greatest_time}
use Rattle.gt_model.specs.Tables.{least}
use Rattle.gt_model.specs.declared.context.Context.{Context}
use Rattle.gt_facts.specs.Formed.{IsFormedContext}
use Rattle.gt_rules.specs.State.{clock, context_at}
use Rattle.gt_rules.specs.Counted.{counted, deadline_in}
use Rattle.gt_rules.specs.Finish.{IsIdle}
use Rattle.gt_rec.specs.Rec.{Rec, needs_heap}
use Rattle.gt_lazy.specs.Slots.{Slot, StandsAt}
use Rattle.gt_lazy.specs.Running.{is_stale}
use Rattle.gt_book.specs.Least.{NobodyRuns, CountsBy}
use Rattle.gt_book.proofs.Waiting.{counts-timer, counts-sleep}
use Rattle.gt_book.specs.View.{BookView, Enters, IsLawful, outcome_of, with_entries}
use Rattle.gt_book.proofs.Counting.{AsMany, least-counted, none-counted}
use Rattle.gt_book.proofs.Idling.{idle-none, jumps-least, due-time, sleep-time}
use Rattle.gt_runner.specs.declared.runner.Runner.{Runner}
use Rattle.gt_runner.specs.Served.{IsTended, MarkFitsAt, NamesTimers, IsWatched}
use Rattle.gt_runner.specs.Settled.{IsClean, is_over, is_unfit}
use Rattle.gt_runner.specs.Serves.{IsIdleRun, IsDueHead, Passing}
use Rattle.gt_runner.proofs.Fitting.{fit-enters, named-enters}
use Rattle.gt_runner.proofs.Needing.{Needing, needs-counted, counted-needing}
use Rattle.gt_runner.proofs.Cleanings.{FirstIs, head-stands}
use Rattle.gt_runner.proofs.Calling.{tended-plain}
use Rattle.gt_runner.proofs.Passes.{moves-enters, moves-deadlock}
use Rattle.gt_runner.specs.Run.{Moves}

pub settled-idle : (x x1 : Runner) → IsIdleRun x → IsTended x1 → x1.book ≡ x.book → IsIdleRun x1
settled-idle x x1 idle tended is = record {
  served = record {
    tended = tended;
    marks = subst (λ (b : BookView). (g : ℕ) → MarkFitsAt b.script b.state b.schedule g) (sym is) idle.served.marks;
    named = subst NamesTimers (sym is) idle.served.named;
  };
  lawful = subst IsLawful (sym is) idle.lawful;
  running = subst (λ b. outcome_of b ≡ None) (sym is) idle.running;
  nobody = subst NobodyRuns (sym is) idle.nobody;
  marks_many = subst (λ (b : BookView). length b.schedule.marks ≡ length b.schedule.statuses) (sym is) idle.marks_many;
}

-- ---- no entry

both-ways : (b : Bool) → b ≡ true → b ≡ false → ⊥
both-ways true e h = cc
both-ways false e h = cc

as-many : (x : Runner) → IsIdleRun x → AsMany x.book.script x.book.state
as-many x idle = record { timers = idle.lawful.formed.timers; contexts = idle.lawful.formed.contexts }

pub empty-counted : (x : Runner) → IsIdleRun x → IsClean x → slice_get x.heap.slots 0 ≡ None → counted x.book.script x.book.state 0 ≡ []
empty-counted x idle clean empty =
    none-counted x.book.script x.book.state (as-many x idle) (λ j w q.
    let n : Needing x j w = counted-needing x j w idle.lawful idle.nobody idle.served q in
    both-ways (needs_heap n.rec) n.needs (clean.none empty j n.rec n.there n.id_is n.watched))

pub empty-idle : (x : Runner) → IsIdleRun x → IsClean x → slice_get x.heap.slots 0 ≡ None → IsIdle x.book.script x.book.state
empty-idle x idle clean empty = idle-none x.book idle.lawful idle.running idle.nobody (empty-counted x idle clean empty)

pub no-first : (slots : List Slot) → slots ≡ [] → slice_get slots 0 ≡ None
no-first slots e = ap (λ (slots : List Slot). slice_get slots 0) e

-- ---- the head

-- the record at the head, whether its time has come or not
pub record Head (x : Runner) (id key : ℕ) : Type 0 where
  pub rec : Rec
  pub there : slice_get x.records.items id ≡ Some rec
  pub id_is : rec.id ≡ id
  pub watched : IsWatched x.book x.heap x.noted rec
  pub stands : StandsAt x.heap 0 rec
  pub fresh : is_stale rec ≡ false
  pub going : is_over x.book rec ≡ false
  pub key_is : key ≡ rec.key

same-item : {X : Type 0} (o : Option X) (a b : X) → o ≡ Some a → o ≡ Some b → a ≡ b
same-item o a b e f = cc

or-left : (a b : Bool) → (a || b) ≡ false → a ≡ false
or-left true b e = cc
or-left false b e = refl

or-right : (a b : Bool) → (a || b) ≡ false → b ≡ false
or-right true b e = cc
or-right false b e = e

pub head-of : (x : Runner) (id key : ℕ) → IsTended x → IsClean x → FirstIs x.heap.slots key id → Head x id key
head-of x id key tended clean f =
    let h = head-stands x key id tended f in
    let fit = clean.fit f.slot f.there in
    let here : slice_get x.records.items f.slot.id ≡ Some h.0.rec = subst (λ i. slice_get x.records.items i ≡ Some h.0.rec) f.id_is h.0.there in
    let same : fit.0.rec ≡ h.0.rec = same-item (slice_get x.records.items f.slot.id) fit.0.rec h.0.rec fit.0.there here in
    let unfit : (is_stale h.0.rec || is_over x.book h.0.rec) ≡ false = subst (λ r. is_unfit x.book r ≡ false) same fit.1 in
    record {
      rec = h.0.rec;
      there = h.0.there;
      id_is = h.0.id_is;
      watched = h.0.watched;
      stands = h.1;
      fresh = or-left (is_stale h.0.rec) (is_over x.book h.0.rec) unfit;
      going = or-right (is_stale h.0.rec) (is_over x.book h.0.rec) unfit;
      key_is = f.key_is ∙ h.0.key_is;
    }

pub head-due : (x : Runner) (id key : ℕ) → Head x id key → key ≤ clock x.book.state 0 → IsDueHead x id
head-due x id key h come = record {
  rec = h.rec;
  there = h.there;
  id_is = h.id_is;
  watched = h.watched;
  stands = h.stands;
  fresh = h.fresh;
  going = h.going;
  come = subst (λ k. k ≤ clock x.book.state 0) h.key_is come;
}

not-false : (b : Bool) → false ≡ Rattle.std.proofs.Common.not b → b ≡ true
not-false true e = refl
not-false false e = cc

fresh-needs : (x : Runner) (id key : ℕ) → (h : Head x id key) → needs_heap h.rec ≡ true
fresh-needs x id key h =
    not-false (needs_heap h.rec) (sym (or-right h.rec.modified h.rec.zombie h.fresh) ∙ h.watched.kept.rec.bits.zombie (ap Rattle.std.proofs.Common.is_some h.stands.heaped))

fresh-when : (x : Runner) (id key : ℕ) → (h : Head x id key) → h.rec.when ≡ Some key
fresh-when x id key h =
    h.watched.kept.rec.bits.key (ap Rattle.std.proofs.Common.is_some h.stands.heaped) (or-left h.rec.modified h.rec.zombie h.fresh) (or-right h.rec.modified h.rec.zombie h.fresh)
    ∙ ap Some (sym h.key_is)

pub head-least : (x : Runner) (id key : ℕ) → IsIdleRun x → IsClean x → (f : FirstIs x.heap.slots key id) → All (λ (s : Slot). key ≤ s.key) x.heap.slots → Head x id key
    → least (counted x.book.script x.book.state 0) ≡ Some key
head-least x id key idle clean f all h =
    least-counted x.book.script x.book.state key id (as-many x idle)
    (needs-counted x id key h.rec idle.lawful idle.nobody idle.served.marks h.id_is h.watched (fresh-needs x id key h) (fresh-when x id key h) h.going)
    (λ j t e.
    let n : Needing x j t = counted-needing x j t idle.lawful idle.nobody idle.served e in
    let low : f.slot.key ≤ t = clean.low f.slot f.there (subst (λ k. All (λ (s : Slot). k ≤ s.key) x.heap.slots) f.key_is all) j t n.rec n.there n.id_is n.watched n.needs n.when_is in
    subst (λ k. k ≤ t) (sym f.key_is) low)

-- its key is a time
pub head-time : (x : Runner) (id key : ℕ) → IsIdleRun x → Head x id key → key ≤ greatest_time
head-time x id key idle h =
    elim (nat_lt id (length x.book.script.decls)) as (λ b. CountsBy x.book.script x.book.state id key b → key ≤ greatest_time) [
      | true ↦ λ k. elim k [
        | inl timer ↦ due-time x.book id key idle.lawful (counts-timer x.book.script x.book.state id key timer).due
        | inr own ↦ own-time (context_at x.book.state id) (idle.lawful.formed.ctxs id) own
      ]
      | false ↦ λ k. sleep-time x.book (id - length x.book.script.decls) key idle.lawful (counts-sleep x.book.state (id - length x.book.script.decls) key k)
    ] (needs-counted x id key h.rec idle.lawful idle.nobody idle.served.marks h.id_is h.watched (fresh-needs x id key h) (fresh-when x id key h) h.going)
  where
    own-time : (o : Option Context) → ((r : Context) → o ≡ Some r → IsFormedContext x.book.script id r) → deadline_in 0 o ≡ Some key → key ≤ greatest_time
    own-time None formed e = cc
    own-time (Some r) formed e = subst (λ (o : Option ℕ). IfSome o (λ at. at ≤ greatest_time)) (in_world (r.world == 0 && is_none r.end) e) (formed r refl).own
      where
        in_world : (b : Bool) → cond b r.own None ≡ Some key → r.own ≡ Some key
        in_world true e = e
        in_world false e = cc

-- ---- what comes of it

pub jump-passing : (x x1 x' : Runner) (id key : ℕ) → IsIdleRun x1 → x1.book ≡ x.book → least (counted x1.book.script x1.book.state 0) ≡ Some key → clock x1.book.state 0 < key → key ≤ greatest_time
    → Enters x1.book (Entry.Clock 0 key) x'.book → x'.records ≡ x1.records → x'.heap ≡ x1.heap → x'.noted ≡ x1.noted → Passing x x'
jump-passing x x1 x' id key idle is low later time enters records_are heap_is noted_is = record {
  moves = subst (λ b. Moves b x'.book) is
      (moves-enters x1.book (Entry.Clock 0 key) x'.book idle.lawful enters (jumps-least x1.book key idle.lawful idle.running idle.nobody low later time) idle.nobody.hands);
  served = λ _. record {
    tended = tended-plain x1 x' (Entry.Clock 0 key) idle.served.tended idle.lawful enters (λ j. record { timer = tt; mover = tt; partner = tt; tree = tt }) records_are heap_is noted_is;
    marks = fit-enters x1.book (Entry.Clock 0 key) x'.book idle.lawful idle.marks_many enters (tt, tt) idle.served.marks;
    named = named-enters x1.book (Entry.Clock 0 key) x'.book enters idle.served.named;
  };
}

pub deadlock-passing : (x x1 x' : Runner) → IsIdleRun x1 → x1.book ≡ x.book → x'.book ≡ with_entries x1.book (Entry.Finish Outcome.Deadlock ∷ []) → Passing x x'
deadlock-passing x x1 x' idle is ends = record {
  moves = subst (λ b. Moves b x'.book) is (moves-deadlock x1.book x'.book ends idle.nobody.hands);
  served = λ none. (let over : outcome_of x'.book ≡ Some Outcome.Deadlock = ap outcome_of ends in absurd (clash (outcome_of x'.book) none over));
}
  where
    clash : (o : Option Outcome) → o ≡ None → o ≡ Some Outcome.Deadlock → ⊥
    clash None e f = cc
    clash (Some outcome) e f = cc

pub passing-same : (x x1 x' : Runner) → x1.book ≡ x.book → Passing x1 x' → Passing x x'
passing-same x x1 x' is p = record { moves = subst (λ b. Moves b x'.book) is p.moves; served = p.served }
