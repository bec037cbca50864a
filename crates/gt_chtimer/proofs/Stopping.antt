-- The stop of a timer.
use Rattle.std.proofs.Common.{◌≡◌, ◌⊎◌, ◌<◌, ◌||◌, length, IsTrue, false, ℕ, refl, sym, ap, subst, ◌∙◌, Option, None, Some, Bool, is_some}
use Rattle.gt_model.specs.declared.entry.Outcome.{Outcome}
use Rattle.gt_model.specs.declared.script.Instr.{Instr}
use Rattle.gt_model.specs.declared.entry.Entry.{Entry}
use Rattle.gt_model.specs.Good.{is_setting}
use Rattle.gt_model.specs.Script.{is_ctx}
use Rattle.gt_rules.specs.State.{stands_at, stands}
use Rattle.gt_rules.specs.Panics.{fault, panic_at}
use Rattle.gt_rules.specs.Legal.{Does, was_set}
use Rattle.gt_rules.specs.declared.change.Setting.{Setting}
use Rattle.gt_facts.proofs.Lookups.{Standing, standing}
use Rattle.gt_facts.proofs.Named.{names-instr_at}
use Rattle.gt_facts.proofs.Within.{setting_within}
use Rattle.gt_rec.specs.Changes.{disarmed}
use Rattle.gt_schedule.specs.declared.status.RunStatus.{RunStatus}
use Rattle.gt_schedule.specs.Schedule.{status_of}
use Rattle.gt_book.specs.declared.answers.Op.{Op}
use Rattle.gt_book.proofs.Firm.{calm-standing}
use Rattle.gt_book.proofs.Going.{in_hand-goes}
use Rattle.gt_rows.specs.Lent.{IsLentRec}
use Rattle.gt_rows.proofs.Keeping.{agrees-set}
use Rattle.gt_chtimer.proofs.Keeping.{agrees-panicked, setting-no_ctx}
use Rattle.gt_chtimer.proofs.Committing.{Tells, Came, came}
use Rattle.gt_rec.specs.Rec.{Rec, BitsRight}
use Rattle.gt_book.specs.declared.answers.Commit.{Commit}
use Rattle.gt_book.specs.declared.answers.Did.{Did}
use Rattle.gt_book.specs.declared.answers.TimerOp.{TimerOp}
use Rattle.gt_book.specs.declared.step.Step.{Step}
use Rattle.gt_book.specs.Steps.{Steps, Commits, MayCommit, is_gone, step_or_panic}
use Rattle.gt_book.specs.View.{BookView, Enters, IsLawful, outcome_of}
use Rattle.gt_rows.specs.declared.answers.StopDone.{StopDone}
use Rattle.gt_rows.specs.Rows.{Pair, Stops, answer_of, stops, StopsAt, StopsBy, StopRow, next_of}
use Rattle.gt_rows.proofs.Tickers.{answer-was_set}
use Rattle.gt_chtimer.proofs.Asking.{Panics, panic-or-needs, Echoes, Panicked, panicked, IsOver, is-over, Asked, asked}

stops-is : (i : Instr) (t : ℕ) → stops i ≡ Some t → i ≡ Instr.Stop t
stops-is (Instr.Stop u) t h = let is : u ≡ t = cc in ap Instr.Stop is
stops-is _ t h = cc

stop-stands : (b : BookView) (g t : ℕ) → StopsAt b g t → stands_at b.script b.state g ≡ Some (Instr.Stop t)
stop-stands b g t h =
    elim (stands_at b.script b.state g) as (λ o. (elim o as (λ _. Type 0) [ None ↦ ⊥ | Some i ↦ stops i ≡ Some t ]) → o ≡ Some (Instr.Stop t)) [
      | None ↦ λ k. absurd k
      | Some i ↦ λ k. ap Some (stops-is i t k)
    ] h

pub stop-step : (b : BookView) (g t : ℕ) → StopsAt b g t → Panics b g ⊎ (next_of b g ≡ Some (Step.Needs (TimerOp.Stop t)))
stop-step b g t h = panic-or-needs b g (Instr.Stop t) (TimerOp.Stop t) (stop-stands b g t h) refl

-- ---- with the record

-- a step that needs the record is of an instruction without a fault
needs-faultless : (b : BookView) (g t : ℕ) → StopsAt b g t → next_of b g ≡ Some (Step.Needs (TimerOp.Stop t)) → fault b.script b.state (Instr.Stop t) ≡ None
needs-faultless b g t stands step =
    let is : next_of b g ≡ Some (step_or_panic b.script b.state b.schedule g (Instr.Stop t) (fault b.script b.state (Instr.Stop t))) =
    ap (λ (o : Option Instr). elim o as (λ o. Option Step) [ None ↦ None | Some i ↦ Some (step_or_panic b.script b.state b.schedule g i (fault b.script b.state i)) ]) (stop-stands b g t stands) in
    elim (fault b.script b.state (Instr.Stop t)) as (λ f. Some (step_or_panic b.script b.state b.schedule g (Instr.Stop t) f) ≡ Some (Step.Needs (TimerOp.Stop t)) → f ≡ None) [
      | None ↦ λ h. refl
      | Some reason ↦ λ h. cc
    ] (sym is ∙ step)

-- the stop may come
pub may-stop : (b : BookView) (g t : ℕ) (was : Option Bool) → StopsAt b g t → outcome_of b ≡ None → next_of b g ≡ Some (Step.Needs (TimerOp.Stop t))
    → status_of b.schedule g ≡ Some RunStatus.InHand → was ≡ was_set b.script b.state t
    → MayCommit b (Op.Stop g t was) × (is_gone b (Op.Stop g t was) ≡ false)
may-stop b g t was stands running step in_hand answers =
    let at : stands_at b.script b.state g ≡ Some (Instr.Stop t) = stop-stands b g t stands in
    let calm : panic_at b.script b.state g ≡ None = calm-standing b.script b.state g (Instr.Stop t) at (needs-faultless b g t stands step) in
    let does : Does b.script b.state g (Instr.Stop t) = record { stands = at; calm = calm } in
    (((does, answers), (in_hand-goes (status_of b.schedule g) in_hand, tt), tt), ap (λ (o : Option Outcome). is_some o || false) running)

-- a timer that is stopped is declared
stop-setting : (b : BookView) (g t : ℕ) → IsLawful b → StopsAt b g t → IsTrue (is_setting b.script t)
stop-setting b g t lawful stands =
    let there : Standing b.script b.state g (Instr.Stop t) = standing b.script b.state g (Instr.Stop t) (stop-stands b g t stands) in
    names-instr_at b.script there.who.place (Instr.Stop t) lawful.good there.on

pub stop-declared : (b : BookView) (g t : ℕ) → IsLawful b → StopsAt b g t → t < length b.script.decls
stop-declared b g t lawful stands = subst (λ (n : ℕ). t < n) lawful.formed.timers (setting_within b.script b.state t lawful.formed (stop-setting b g t lawful stands))

pub stop-no_ctx : (b : BookView) (g t : ℕ) → IsLawful b → StopsAt b g t → is_ctx b.script t ≡ false
stop-no_ctx b g t lawful stands = setting-no_ctx b.script t (stop-setting b g t lawful stands)

-- after it the record shows nothing
pub stop-kept : (old : BookView) (g : ℕ) (was : Option Bool) (r : Rec) (new : BookView) → IsLawful old → StopsAt old g r.id → IsLentRec old r
    → Enters old (Entry.Stop g r.id was) new → BitsRight (disarmed r) → IsLentRec new (disarmed r)
stop-kept old g was r new lawful stands lent entered bits =
    let below : r.id < length old.script.decls = stop-declared old g r.id lawful stands in
    record {
      agrees = agrees-set old (Entry.Stop g r.id was) new r (disarmed r) (Setting.Ended None) lawful entered lent.agrees below (stop-no_ctx old g r.id lawful stands) refl (record { id = refl; kind = refl }) refl refl;
      bits = bits;
    }

pub plain-kept : (old : BookView) (g : ℕ) (did : Did) (r : Rec) (new : BookView) (done : StopDone) → IsLawful old → StopsAt old g r.id → IsLentRec old r → Steps old g new did
    → Echoes StopDone.Over StopDone.Done did done → IsLentRec new r
plain-kept old g did r new done lawful stands lent steps echo =
    elim (outcome_of old) as (λ o. outcome_of old ≡ o → IsLentRec new r) [
      | None ↦ λ running.
          let p : Panicked old g new StopDone.Over StopDone.Done done =
          panicked StopDone.Over StopDone.Done old g (TimerOp.Stop r.id) new did done (stop-step old g r.id stands) running steps echo in
          record { agrees = agrees-panicked old p.panics.party p.panics.reason new r lawful p.entered lent.agrees; bits = lent.bits }
      | Some outcome ↦ λ ended.
          let over : IsOver old outcome new StopDone.Over done = is-over StopDone.Over StopDone.Done old g outcome new did done ended steps echo in
          subst (λ b. IsLentRec b r) (sym over.same) lent
    ] refl

-- the row of a stop that came
pub stop-row : (old : Pair) (g : ℕ) (new : Pair) (done : StopDone) → outcome_of old.book ≡ None → next_of old.book g ≡ Some (Step.Needs (TimerOp.Stop old.rec.id))
    → Stops old (Entry.Stop g old.rec.id (answer_of old.rec)) (disarmed old.rec) new done → StopRow old g new done
stop-row old g new done running step came =
    rw running (subst (StopsBy old g new done) (sym step) came)

-- a stop that needs the record may come
pub record StopComes (old : Pair) (g : ℕ) (mid : BookView) (t : ℕ) (was : Option Bool) : Type 0 where
  pub running : outcome_of old.book ≡ None
  pub step : next_of old.book g ≡ Some (Step.Needs (TimerOp.Stop old.rec.id))
  pub same : mid ≡ old.book
  pub timer : t ≡ old.rec.id
  pub answer : was ≡ answer_of old.rec
  pub may : MayCommit mid (Op.Stop g t was)
  pub in_time : is_gone mid (Op.Stop g t was) ≡ false

pub stop-comes : (old : Pair) (g : ℕ) (mid : BookView) (op : TimerOp) (t : ℕ) (was : Option Bool) → IsLawful old.book → StopsAt old.book g old.rec.id → IsLentRec old.book old.rec
    → status_of old.book.schedule g ≡ Some RunStatus.InHand → Steps old.book g mid (Did.Timer op) → t ≡ old.rec.id → was ≡ answer_of old.rec
    → StopComes old g mid t was
stop-comes old g mid op t was lawful stands lent in_hand steps timer answer =
    let a : Asked old.book g (TimerOp.Stop old.rec.id) mid op = asked old.book g (TimerOp.Stop old.rec.id) mid op (stop-step old.book g old.rec.id stands) steps in
    let answers : answer_of old.rec ≡ was_set old.book.script old.book.state old.rec.id =
    answer-was_set old.book.script old.book.state old.rec lent.agrees (stop-declared old.book g old.rec.id lawful stands)
    (stop-no_ctx old.book g old.rec.id lawful stands) in
    let all : MayCommit old.book (Op.Stop g t was) × (is_gone old.book (Op.Stop g t was) ≡ false) =
    may-stop old.book g t was (subst (StopsAt old.book g) (sym timer) stands) a.running (a.step ∙ ap (λ t. Some (Step.Needs (TimerOp.Stop t))) (sym timer)) in_hand
    (answer ∙ (answers ∙ ap (was_set old.book.script old.book.state) (sym timer))) in
    record {
      running = a.running;
      step = a.step;
      same = a.same;
      timer = timer;
      answer = answer;
      may = subst (λ b. MayCommit b (Op.Stop g t was)) (sym a.same) all.0;
      in_time = subst (λ b. is_gone b (Op.Stop g t was) ≡ false) (sym a.same) all.1;
    }

pub stop-came : (old : Pair) (g : ℕ) (mid : BookView) (t : ℕ) (was : Option Bool) (r : Rec) (new : BookView) (did : Commit) (done : StopDone) → StopComes old g mid t was
    → r ≡ disarmed old.rec → Commits mid (Op.Stop g t was) (is_gone mid (Op.Stop g t was)) new did → Tells StopDone.Over StopDone.Done did done
    → Stops old (Entry.Stop g old.rec.id (answer_of old.rec)) (disarmed old.rec) (record { rec = r; book = new }) done
stop-came old g mid t was r new did done comes is commits tells =
    let all : Came mid (Op.Stop g t was) new StopDone.Over StopDone.Done done = came StopDone.Over StopDone.Done mid (Op.Stop g t was) new did done comes.in_time commits tells in
    let here : Enters old.book (Entry.Stop g t was) new = subst (λ b. Enters b (Entry.Stop g t was) new) comes.same all.entered in
    let its : Enters old.book (Entry.Stop g old.rec.id was) new = subst (λ t. Enters old.book (Entry.Stop g t was) new) comes.timer here in
    record { entered = subst (λ was. Enters old.book (Entry.Stop g old.rec.id was) new) comes.answer its; rec = is; answer = all.answer }
