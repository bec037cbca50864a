-- A goroutine that falls asleep: what it asks for, and the record of its sleep afterwards.
use Rattle.std.proofs.Common.{◌≡◌, ◌⊎◌, inl, inr, ℕ, zero, suc, ◌+◌, ◌-◌, min, nat_lt, length, Bool, true, false, refl, sym, ap, subst, ◌∙◌, Option, None, Some, MatchOption, arith}
use Rattle.gt_model.specs.Times.{greatest_time}
use Rattle.gt_model.specs.declared.entry.Entry.{Entry}
use Rattle.gt_model.specs.declared.entry.Outcome.{Outcome}
use Rattle.gt_model.specs.declared.script.Instr.{Instr}
use Rattle.gt_rules.specs.State.{clock, clock_of, stands_at}
use Rattle.gt_rules.specs.Legal.{due_at}
use Rattle.gt_rules.specs.Panics.{fault}
use Rattle.gt_rules.specs.declared.change.Move.{Move}
use Rattle.gt_facts.proofs.Formed.{world_of-zero}
use Rattle.gt_rec.specs.Rec.{Rec, BitsRight, shown}
use Rattle.gt_rec.specs.Changes.{armed}
use Rattle.gt_lazy.specs.Slots.{LazyHeap}
use Rattle.gt_schedule.specs.declared.status.RunStatus.{RunStatus}
use Rattle.gt_schedule.specs.Schedule.{status_of}
use Rattle.gt_book.specs.declared.answers.Commit.{Commit}
use Rattle.gt_book.specs.declared.answers.Did.{Did}
use Rattle.gt_book.specs.declared.answers.Op.{Op}
use Rattle.gt_book.specs.declared.answers.TimerOp.{TimerOp}
use Rattle.gt_book.specs.declared.step.Step.{Step}
use Rattle.gt_book.specs.Steps.{Commits, Does, Steps, is_gone, step_or_panic}
use Rattle.gt_book.specs.View.{BookView, IsLawful, outcome_of}
use Rattle.gt_book.proofs.Committing.{may-sleep}
use Rattle.gt_rows.specs.declared.answers.SetDone.{SetDone}
use Rattle.gt_rows.specs.Lent.{IsLent, IsKept, IsPlaced, Settles, joins}
use Rattle.gt_rows.specs.Rows.{Parts, Arms, SleepsBy, SleepRow, StandsAtSleep, next_of, set_answer, sleeps}
use Rattle.gt_rows.proofs.Keeping.{IsOfSame, agrees-moved}
use Rattle.gt_fire.proofs.Heads.{not-below}

-- ---- what it asks for

instr-asks : (b : BookView) (g : ℕ) (i : Instr) → sleeps i ≡ true → (d : ℕ) × (step_or_panic b.script b.state b.schedule g i (fault b.script b.state i) ≡ Step.Needs (TimerOp.Sleep d))
instr-asks b g (Instr.Sleep zero) h = cc
instr-asks b g (Instr.Sleep (suc d)) h = (suc d, refl)
instr-asks b g _ h = cc

sleep-step : (b : BookView) (g : ℕ) → StandsAtSleep b g → (d : ℕ) × (next_of b g ≡ Some (Step.Needs (TimerOp.Sleep d)))
sleep-step b g stands =
    elim (stands_at b.script b.state g) as (λ o. (elim o as (λ o. Type 0) [ None ↦ ⊥ | Some i ↦ sleeps i ≡ true ])
    → (d : ℕ) × ((elim o as (λ o. Option Step) [ None ↦ None | Some i ↦ Some (step_or_panic b.script b.state b.schedule g i (fault b.script b.state i)) ]) ≡ Some (Step.Needs (TimerOp.Sleep d)))) [
      | None ↦ λ h. absurd h
      | Some i ↦ λ h. let asks = instr-asks b g i h in (asks.0, ap Some asks.1)
    ] stands

-- its step changes nothing: it asks for its sleep, where the run goes on
pub record AsksOnly (old : BookView) (g : ℕ) (new : BookView) (did : Did) : Type 0 where
  pub same : new ≡ old
  pub d : ℕ
  pub step : next_of old g ≡ Some (Step.Needs (TimerOp.Sleep d))
  pub answer : MatchOption (outcome_of old) (did ≡ Did.Timer (TimerOp.Sleep d)) (λ outcome. did ≡ Did.Over outcome)

abbrev Answers : BookView → ℕ → Did → BookView → Option Outcome → Type 0
Answers old d did new o = (new ≡ old) × MatchOption o (did ≡ Did.Timer (TimerOp.Sleep d)) (λ outcome. did ≡ Did.Over outcome)

answers-step : (old : BookView) (g d : ℕ) (new : BookView) (did : Did) → next_of old g ≡ Some (Step.Needs (TimerOp.Sleep d)) → Steps old g new did → Answers old d did new (outcome_of old)
answers-step old g d new did is steps =
    elim (outcome_of old) as (λ o. MatchOption o (MatchOption (next_of old g) ⊥ (λ step. Does old g step new did)) (λ outcome. (did ≡ Did.Over outcome) × (new ≡ old)) → Answers old d did new o) [
      | None ↦ λ h. subst (λ o. MatchOption o ⊥ (λ step. Does old g step new did)) is h
      | Some outcome ↦ λ h. (h.1, h.0)
    ] steps

pub sleep-asks : (old : BookView) (g : ℕ) (new : BookView) (did : Did) → StandsAtSleep old g → Steps old g new did → AsksOnly old g new did
sleep-asks old g new did stands steps =
    let asks = sleep-step old g stands in
    let answers : Answers old asks.0 did new (outcome_of old) = answers-step old g asks.0 new did asks.1 steps in
    record { same = answers.0; d = asks.0; step = asks.1; answer = answers.1 }

-- it is asked for nothing else
pub asks-nothing_else : (old : BookView) (g : ℕ) (new : BookView) (did : Did) → (did ≡ Did.Entered) ⊎ (did ≡ Did.Parked) → StandsAtSleep old g → Steps old g new did → ⊥
asks-nothing_else old g new did other stands steps =
    let asks : AsksOnly old g new did = sleep-asks old g new did stands steps in
    elim (outcome_of old) as (λ o. MatchOption o (did ≡ Did.Timer (TimerOp.Sleep asks.d)) (λ outcome. did ≡ Did.Over outcome) → ⊥) [
      | None ↦ λ h. elim other [ inl is ↦ cc | inr is ↦ cc ]
      | Some outcome ↦ λ h. elim other [ inl is ↦ cc | inr is ↦ cc ]
    ] asks.answer

pub kept-lent : (b new : BookView) (h : LazyHeap) (r : Rec) → new ≡ b → IsLent b h r → IsKept new h r
kept-lent b new h r same lent = subst (λ (b : BookView). IsKept b h r) (sym same) (record { rec = lent.rec; placed = lent.placed })

-- the row of its sleep, where the book was as before
pub sleeps-row : (old new : Parts) (mid : BookView) (g d : ℕ) (reply : SetDone) → StandsAtSleep old.book g → Steps old.book g mid (Did.Timer (TimerOp.Sleep d))
    → Arms (record old { book = mid }) (Entry.Sleep g (Some (due_at (clock_of mid.state g) d))) (due_at (clock_of mid.state g) d) 0 new reply → SleepRow old g new reply
sleeps-row old new mid g d reply stands steps arms =
    let asks : AsksOnly old.book g mid (Did.Timer (TimerOp.Sleep d)) = sleep-asks old.book g mid (Did.Timer (TimerOp.Sleep d)) stands steps in
    let here : Arms old (Entry.Sleep g (Some (due_at (clock_of old.book.state g) d))) (due_at (clock_of old.book.state g) d) 0 new reply =
    subst (λ (b : BookView). Arms (record old { book = b }) (Entry.Sleep g (Some (due_at (clock_of b.state g) d))) (due_at (clock_of b.state g) d) 0 new reply) asks.same arms in
    elim (outcome_of old.book) as (λ o. MatchOption o (Did.Timer (TimerOp.Sleep d) ≡ Did.Timer (TimerOp.Sleep asks.d)) (λ outcome. Did.Timer (TimerOp.Sleep d) ≡ Did.Over outcome)
    → MatchOption o (SleepsBy old g new reply (next_of old.book g)) (λ outcome. (reply ≡ SetDone.Over outcome) × (new ≡ old))) [
      | None ↦ λ h.
          let its : asks.d ≡ d = cc in
          subst (SleepsBy old g new reply) (sym (asks.step ∙ ap (λ d. Some (Step.Needs (TimerOp.Sleep d))) its)) here
      | Some outcome ↦ λ h. cc
    ] asks.answer

-- ---- its entry

-- what a section answers by what the commitment came to
abbrev pub Tells : Commit → SetDone → SetDone → Type 0
Tells Commit.Entered answer reply = reply ≡ answer
Tells Commit.Gone answer reply = reply ≡ answer
Tells (Commit.Over outcome) answer reply = reply ≡ SetDone.Over outcome

until-is : (b : BookView) (g d until : ℕ) → IsLawful b → until ≡ min (clock b.state 0 + d) greatest_time → until ≡ due_at (clock_of b.state g) d
until-is b g d until lawful is = is ∙ ap (λ world. due_at (clock b.state world) d) (sym (world_of-zero b.script b.state g lawful.formed))

-- what is given to the commitment, and what comes of it
pub record FallsAsleep (old new : Parts) (g d until : ℕ) (did : Commit) (answer reply : SetDone) : Type 0 where
  pub lawful : IsLawful old.book
  pub running : outcome_of old.book ≡ None
  pub asks : next_of old.book g ≡ Some (Step.Needs (TimerOp.Sleep d))
  pub in_hand : status_of old.book.schedule g ≡ Some RunStatus.InHand
  pub until_is : until ≡ min (clock old.book.state 0 + d) greatest_time
  pub commits : Commits old.book (Op.Sleep g until) (is_gone old.book (Op.Sleep g until)) new.book did
  pub answer_is : answer ≡ set_answer old.rec until 0
  pub place : Settles old.heap (armed old.rec until 0) new.heap new.rec (joins (armed old.rec until 0))
  pub tells : Tells did answer reply

commits-sleep : (old new : Parts) (g d until : ℕ) (did : Commit) (answer reply : SetDone) → FallsAsleep old new g d until did answer reply
    → Commits old.book (Op.Sleep g until) false new.book did
commits-sleep old new g d until did answer reply f =
    let may = may-sleep old.book g d until f.lawful f.running f.asks f.in_hand f.until_is in
    subst (λ b. Commits old.book (Op.Sleep g until) b new.book did) may.1 f.commits

pub sleep-arms : (old new : Parts) (g d until : ℕ) (did : Commit) (answer reply : SetDone) → FallsAsleep old new g d until did answer reply
    → Arms old (Entry.Sleep g (Some (due_at (clock_of old.book.state g) d))) (due_at (clock_of old.book.state g) d) 0 new reply
sleep-arms old new g d until did answer reply f =
    let all : Commits old.book (Op.Sleep g until) false new.book did = commits-sleep old new g d until did answer reply f in
    subst (λ until. Arms old (Entry.Sleep g (Some until)) until 0 new reply) (until-is old.book g d until f.lawful f.until_is)
    (record {
      entered = all.0;
      place = f.place;
      answer = elim (outcome_of new.book) as (λ o. MatchOption o (did ≡ Commit.Entered) (λ outcome. did ≡ Commit.Over outcome)
          → MatchOption o (reply ≡ set_answer old.rec until 0) (λ outcome. reply ≡ SetDone.Over outcome)) [
            | None ↦ λ is. subst (λ did. Tells did answer reply) is f.tells ∙ f.answer_is
            | Some outcome ↦ λ is. subst (λ did. Tells did answer reply) is f.tells
          ] all.1;
    })

-- the record of the sleep
pub record IsArmed (r now : Rec) (due : ℕ) : Type 0 where
  pub same : IsOfSame r now
  pub shows : shown now ≡ Some due
  pub period : now.period ≡ 0

pub armed-settles : (h : LazyHeap) (r : Rec) (h' : LazyHeap) (r' : Rec) (due : ℕ) (b : Bool) → Settles h (armed r due 0) h' r' b → IsArmed r r' due
armed-settles h r h' r' due true place =
    subst (λ (r' : Rec). IsArmed r r' due) (sym place.record_is) (record { same = record { id = refl; kind = refl }; shows = refl; period = refl })
armed-settles h r h' r' due false place =
    subst (λ (r' : Rec). IsArmed r r' due) (sym place.1) (record { same = record { id = refl; kind = refl }; shows = refl; period = refl })

pub sleep-kept : (old new : Parts) (g d until : ℕ) (did : Commit) (answer reply : SetDone) → FallsAsleep old new g d until did answer reply
    → IsLent old.book old.heap old.rec → old.rec.id ≡ length old.book.script.decls + g → IsPlaced new.heap new.rec → BitsRight new.rec → IsKept new.book new.heap new.rec
sleep-kept old new g d until did answer reply f lent its placed bits =
    let all : Commits old.book (Op.Sleep g until) false new.book did = commits-sleep old new g d until did answer reply f in
    let now : IsArmed old.rec new.rec until = armed-settles old.heap old.rec new.heap new.rec until (joins (armed old.rec until 0)) f.place in
    let beyond : nat_lt old.rec.id (length old.book.script.decls) ≡ false = not-below old.rec.id (length old.book.script.decls) (omega arith) in
    let who : g ≡ old.rec.id - length old.book.script.decls = omega arith in
    let none : old.rec.period ≡ 0 = lent.rec.agrees.period ∙ rw beyond refl in
    record {
      rec = record {
        agrees = agrees-moved old.book (Entry.Sleep g (Some until)) new.book old.rec new.rec (Move.FallsAsleep until) f.lawful all.0 lent.rec.agrees beyond
            (ap (λ g. Some (g, Move.FallsAsleep until)) who) refl now.same now.shows (now.period ∙ sym none);
        bits = bits;
      };
      placed = placed;
    }
