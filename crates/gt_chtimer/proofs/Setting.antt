-- A new setting of a timer.
use Rattle.std.proofs.Common.{◌≡◌, ◌⊎◌, ℕ, ◌+◌, ◌<◌, min, length, IsTrue, refl, sym, ap, subst, ◌∙◌, Option, None, Some, MatchOption, Bool, true, false}
use Rattle.gt_model.specs.Times.{greatest_time}
use Rattle.gt_model.specs.declared.script.Instr.{Instr}
use Rattle.gt_model.specs.declared.script.Script.{Script}
use Rattle.gt_model.specs.Good.{is_setting, NamesRightly}
use Rattle.gt_model.specs.Script.{is_ctx}
use Rattle.gt_rules.specs.State.{stands_at, clock, clock_of}
use Rattle.gt_rules.specs.After.{new_period, period_of}
use Rattle.gt_rules.specs.Legal.{due_at, was_set}
use Rattle.gt_rules.specs.declared.change.Setting.{Setting}
use Rattle.gt_facts.proofs.Formed.{world_of-zero}
use Rattle.gt_facts.proofs.Lookups.{Standing, standing}
use Rattle.gt_facts.proofs.Named.{names-instr_at}
use Rattle.gt_facts.proofs.Within.{setting_within}
use Rattle.gt_rec.specs.declared.RecKind.{RecKind}
use Rattle.gt_rec.specs.Rec.{Rec, BitsRight, shown}
use Rattle.gt_rec.specs.Changes.{armed}
use Rattle.gt_lazy.specs.Slots.{LazyHeap}
use Rattle.gt_schedule.specs.declared.status.RunStatus.{RunStatus}
use Rattle.gt_schedule.specs.Schedule.{status_of}
use Rattle.gt_book.specs.declared.answers.Did.{Did}
use Rattle.gt_book.specs.declared.answers.Op.{Op}
use Rattle.gt_book.specs.declared.answers.TimerOp.{TimerOp}
use Rattle.gt_book.specs.declared.step.Step.{Step}
use Rattle.gt_book.specs.Steps.{Steps, MayCommit, is_gone, set_instr, set_entry, step_of_instr}
use Rattle.gt_book.specs.View.{BookView, IsLawful, outcome_of}
use Rattle.gt_book.proofs.Committing.{may-set, set-period, set-ticks}
use Rattle.gt_book.proofs.Setting.{instr-set}
use Rattle.gt_rows.specs.declared.answers.SetDone.{SetDone}
use Rattle.gt_rows.specs.Lent.{IsLentRec, Settles, joins}
use Rattle.gt_rows.specs.Rows.{Parts, Arms, answer_of, sets, SetsAt, SetsBy, SetRow, next_of}
use Rattle.gt_rows.proofs.Tickers.{answer-was_set, ticking-period}
use Rattle.gt_chtimer.specs.Kinds.{setting_period}
use Rattle.gt_chtimer.proofs.ByKind.{period-is}
use Rattle.gt_chtimer.proofs.Asking.{Panics, panic-or-needs, Echoes, Panicked, panicked, IsOver, is-over, Asked, asked}
use Rattle.gt_rows.proofs.Keeping.{agrees-set}
use Rattle.gt_chtimer.proofs.Keeping.{agrees-panicked, setting-no_ctx}

-- a step that asks to set a timer
record Sets (t : ℕ) (step : Step) : Type 0 where
  d : ℕ
  anew : Bool
  is : step ≡ Step.Needs (TimerOp.Set t d anew)

sets-is : (step : Step) (t : ℕ) → sets step ≡ Some t → Sets t step
sets-is (Step.Needs (TimerOp.Set u d anew)) t h = let same : u ≡ t = cc in record { d = d; anew = anew; is = ap (λ u. Step.Needs (TimerOp.Set u d anew)) same }
sets-is _ t h = cc

-- the instruction at which a goroutine stands that sets this timer, and what it asks for
record SetsBy_instr (b : BookView) (g t : ℕ) : Type 0 where
  instr : Instr
  stands : stands_at b.script b.state g ≡ Some instr
  d : ℕ
  anew : Bool
  asks : step_of_instr b.script b.state b.schedule g instr ≡ Step.Needs (TimerOp.Set t d anew)

set-instr : (b : BookView) (g t : ℕ) → SetsAt b g t → SetsBy_instr b g t
set-instr b g t h =
    elim (stands_at b.script b.state g) as (λ o. stands_at b.script b.state g ≡ o → (elim o as (λ _. Type 0) [ None ↦ ⊥ | Some i ↦ sets (step_of_instr b.script b.state b.schedule g i) ≡ Some t ]) → SetsBy_instr b g t) [
      | None ↦ λ q k. absurd k
      | Some i ↦ λ q k.
          let s : Sets t (step_of_instr b.script b.state b.schedule g i) = sets-is (step_of_instr b.script b.state b.schedule g i) t k in
          record { instr = i; stands = q; d = s.d; anew = s.anew; asks = s.is }
    ] refl h

set-step : (b : BookView) (g t : ℕ) → (i : SetsBy_instr b g t) → Panics b g ⊎ (next_of b g ≡ Some (Step.Needs (TimerOp.Set t i.d i.anew)))
set-step b g t i = panic-or-needs b g i.instr (TimerOp.Set t i.d i.anew) i.stands i.asks

-- without the record the instruction panics, or the run was over
pub set-plain_kept : (old : BookView) (g : ℕ) (did : Did) (r : Rec) (new : BookView) (done : SetDone) → IsLawful old → SetsAt old g r.id → IsLentRec old r → Steps old g new did
    → Echoes SetDone.Over SetDone.Done did done → IsLentRec new r
set-plain_kept old g did r new done lawful stands lent steps echo =
    let i : SetsBy_instr old g r.id = set-instr old g r.id stands in
    elim (outcome_of old) as (λ o. outcome_of old ≡ o → IsLentRec new r) [
      | None ↦ λ running.
          let p : Panicked old g new SetDone.Over SetDone.Done done = panicked SetDone.Over SetDone.Done old g (TimerOp.Set r.id i.d i.anew) new did done (set-step old g r.id i) running steps echo in
          record { agrees = agrees-panicked old p.panics.party p.panics.reason new r lawful p.entered lent.agrees; bits = lent.bits }
      | Some outcome ↦ λ ended.
          let over : IsOver old outcome new SetDone.Over done = is-over SetDone.Over SetDone.Done old g outcome new did done ended steps echo in
          subst (λ b. IsLentRec b r) (sym over.same) lent
    ] refl

-- ---- with the record

pub names-setting : (script : Script) (t d : ℕ) (anew : Bool) → NamesRightly script (set_instr t d anew) → IsTrue (is_setting script t)
names-setting script t d true names = names.0
names-setting script t d false names = names.0

pub set-setting : (b : BookView) (g t : ℕ) → IsLawful b → SetsAt b g t → IsTrue (is_setting b.script t)
set-setting b g t lawful stands =
    let i : SetsBy_instr b g t = set-instr b g t stands in
    let there : Standing b.script b.state g i.instr = standing b.script b.state g i.instr i.stands in
    let names : NamesRightly b.script (set_instr t i.d i.anew) =
    subst (NamesRightly b.script) (instr-set b.script b.state b.schedule g t i.d i.anew i.instr i.asks) (names-instr_at b.script there.who.place i.instr lawful.good there.on) in
    names-setting b.script t i.d i.anew names

pub set-declared : (b : BookView) (g t : ℕ) → IsLawful b → SetsAt b g t → t < length b.script.decls
set-declared b g t lawful stands = subst (λ (n : ℕ). t < n) lawful.formed.timers (setting_within b.script b.state t lawful.formed (set-setting b g t lawful stands))

pub set-no_ctx : (b : BookView) (g t : ℕ) → IsLawful b → SetsAt b g t → is_ctx b.script t ≡ false
set-no_ctx b g t lawful stands = setting-no_ctx b.script t (set-setting b g t lawful stands)

-- an operation on this timer is needed
pub record Needed (old : BookView) (g : ℕ) (op : TimerOp) (mid : BookView) (t id : ℕ) : Type 0 where
  pub step : next_of old g ≡ Some (Step.Needs op)
  pub running : outcome_of old ≡ None
  pub same : mid ≡ old
  pub timer : t ≡ id

pub set-needed : (old : BookView) (g : ℕ) (mid : BookView) (id t d : ℕ) (anew : Bool) (did : Did) (op : TimerOp) → SetsAt old g id → did ≡ Did.Timer op → op ≡ TimerOp.Set t d anew
    → Steps old g mid did → Needed old g (TimerOp.Set t d anew) mid t id
set-needed old g mid id t d anew did op stands is of steps =
    let i : SetsBy_instr old g id = set-instr old g id stands in
    let a : Asked old g (TimerOp.Set id i.d i.anew) mid (TimerOp.Set t d anew) =
    asked old g (TimerOp.Set id i.d i.anew) mid (TimerOp.Set t d anew) (set-step old g id i) (subst (Steps old g mid) (is ∙ ap Did.Timer of) steps) in
    let its : TimerOp.Set t d anew ≡ TimerOp.Set id i.d i.anew = a.its in
    let timer : t ≡ id = cc in
    record { step = a.step ∙ ap (λ op. Some (Step.Needs op)) (sym its); running = a.running; same = a.same; timer = timer }

due-is : (old mid : BookView) (g d due : ℕ) → IsLawful old → mid ≡ old → due ≡ min (clock mid.state 0 + d) greatest_time → due ≡ due_at (clock_of old.state g) d
due-is old mid g d due lawful same e =
    e ∙ (ap (λ (b : BookView). min (clock b.state 0 + d) greatest_time) same
    ∙ ap (λ w. min (clock old.state w + d) greatest_time) (sym (world_of-zero old.script old.state g lawful.formed)))

-- a setting may come
pub record SettingComes (old : Parts) (g : ℕ) (mid : BookView) (t d due period : ℕ) (anew : Bool) (was : Option Bool) : Type 0 where
  pub needs : Needed old.book g (TimerOp.Set t d anew) mid t old.rec.id
  pub answer : was ≡ answer_of old.rec
  pub time : due ≡ due_at (clock_of old.book.state g) d
  pub periodic : period ≡ new_period old.book.script old.book.state g old.rec.id
  pub ticks : old.rec.kind ≡ RecKind.Ticker → 0 < period
  pub may : MayCommit mid (Op.Set g t anew was due period)

pub setting-comes : (old : Parts) (g : ℕ) (mid : BookView) (t d due period : ℕ) (anew : Bool) (was : Option Bool) → IsLawful old.book → SetsAt old.book g old.rec.id
    → IsLentRec old.book old.rec → status_of old.book.schedule g ≡ Some RunStatus.InHand → Needed old.book g (TimerOp.Set t d anew) mid t old.rec.id
    → was ≡ answer_of old.rec → due ≡ min (clock mid.state 0 + d) greatest_time → period ≡ setting_period old.rec.kind d → SettingComes old g mid t d due period anew was
setting-comes old g mid t d due period anew was lawful stands lent in_hand needs answer e p =
    let b : BookView = old.book in
    let r : Rec = old.rec in
    let below : r.id < length b.script.decls = set-declared b g r.id lawful stands in
    let step : next_of b g ≡ Some (Step.Needs (TimerOp.Set r.id d anew)) = needs.step ∙ ap (λ t. Some (Step.Needs (TimerOp.Set t d anew))) needs.timer in
    let its : period ≡ period_of b.script r.id d = p ∙ period-is b.script r.id d r.kind lent.agrees.kind in
    let periodic : period ≡ new_period b.script b.state g r.id = its ∙ sym (set-period b g r.id d anew step) in
    let answers : was ≡ was_set b.script b.state t = answer ∙ (answer-was_set b.script b.state r lent.agrees below (set-no_ctx b g r.id lawful stands) ∙ ap (was_set b.script b.state) (sym needs.timer)) in
    let time : due ≡ min (clock b.state 0 + d) greatest_time = e ∙ ap (λ (b : BookView). min (clock b.state 0 + d) greatest_time) needs.same in
    let all : MayCommit b (Op.Set g t anew was due period) × (is_gone b (Op.Set g t anew was due period) ≡ false) =
    may-set b g t d due period anew was lawful needs.running needs.step in_hand answers time (periodic ∙ ap (new_period b.script b.state g) (sym needs.timer)) in
    record {
      needs = needs;
      answer = answer;
      time = due-is b mid g d due lawful needs.same e;
      periodic = periodic;
      ticks = λ ticker. subst (λ p. 0 < p) (sym its) (ticking-period b.script b.state r (period_of b.script r.id d) lent.agrees (set-ticks b g r.id d anew step) ticker);
      may = subst (λ b. MayCommit b (Op.Set g t anew was due period)) (sym needs.same) all.0;
    }

abbrev begins : Parts → BookView → Parts
begins old mid = record { heap = old.heap; rec = old.rec; book = mid }

set-row : (old : Parts) (g : ℕ) (new : Parts) (done : SetDone) (step : Step) → outcome_of old.book ≡ None → next_of old.book g ≡ Some step → SetsBy old g new done (Some step) → SetRow old g new done
set-row old g new done step running next row =
    let by : SetsBy old g new done (next_of old.book g) = subst (SetsBy old g new done) (sym next) row in
    subst (λ o. MatchOption o (SetsBy old g new done (next_of old.book g)) (λ outcome. (done ≡ SetDone.Over outcome) × (new ≡ old))) (sym running) by

-- as the record tells it
pub setting-arms : (old : Parts) (g : ℕ) (mid : BookView) (t d due period : ℕ) (anew : Bool) (was : Option Bool) (new : Parts) (done : SetDone) → SettingComes old g mid t d due period anew was
    → Arms (begins old mid) (set_entry g t anew was due) due period new done → Arms old (set_entry g old.rec.id anew (answer_of old.rec) due) due period new done
setting-arms old g mid t d due period anew was new done c arms =
    subst (λ was. Arms old (set_entry g old.rec.id anew was due) due period new done) c.answer
    (subst (λ t. Arms old (set_entry g t anew was due) due period new done) c.needs.timer
    (subst (λ b. Arms (begins old b) (set_entry g t anew was due) due period new done) c.needs.same arms))

pub setting-row : (old : Parts) (g : ℕ) (mid : BookView) (t d due period : ℕ) (anew : Bool) (was : Option Bool) (new : Parts) (done : SetDone) → SettingComes old g mid t d due period anew was
    → Arms old (set_entry g old.rec.id anew (answer_of old.rec) due) due period new done → SetRow old g new done
setting-row old g mid t d due period anew was new done c arms =
    set-row old g new done (Step.Needs (TimerOp.Set old.rec.id d anew)) c.needs.running (c.needs.step ∙ ap (λ t. Some (Step.Needs (TimerOp.Set t d anew))) c.needs.timer)
    (subst (λ period. Arms old (set_entry g old.rec.id anew (answer_of old.rec) (due_at (clock_of old.book.state g) d)) (due_at (clock_of old.book.state g) d) period new done) c.periodic
    (subst (λ due. Arms old (set_entry g old.rec.id anew (answer_of old.rec) due) due period new done) c.time arms))

-- ---- the record afterwards

record IsAlike (r now : Rec) : Type 0 where
  id : now.id ≡ r.id
  kind : now.kind ≡ r.kind
  period : now.period ≡ r.period
  shows : shown now ≡ shown r

settles-alike : (h : LazyHeap) (r : Rec) (h' : LazyHeap) (r' : Rec) (b : Bool) → Settles h r h' r' b → IsAlike r r'
settles-alike h r h' r' true joins =
    record { id = ap (λ (r : Rec). r.id) joins.record_is; kind = ap (λ (r : Rec). r.kind) joins.record_is; period = ap (λ (r : Rec). r.period) joins.record_is; shows = ap shown joins.record_is }
settles-alike h r h' r' false same = record { id = ap (λ (r : Rec). r.id) same.1; kind = ap (λ (r : Rec). r.kind) same.1; period = ap (λ (r : Rec). r.period) same.1; shows = ap shown same.1 }

pub setting-kept : (old : Parts) (g due period : ℕ) (anew : Bool) (was : Option Bool) (new : Parts) (reply : SetDone) → IsLawful old.book → SetsAt old.book g old.rec.id
    → IsLentRec old.book old.rec → period ≡ new_period old.book.script old.book.state g old.rec.id → Arms old (set_entry g old.rec.id anew was due) due period new reply
    → BitsRight new.rec → IsLentRec new.book new.rec
setting-kept old g due period true was new reply lawful stands lent periodic arms bits =
    let alike : IsAlike (armed old.rec due period) new.rec = settles-alike old.heap (armed old.rec due period) new.heap new.rec (joins (armed old.rec due period)) arms.place in
    record {
      agrees = agrees-set old.book (set_entry g old.rec.id true was due) new.book old.rec new.rec (Setting.SetAnew due) lawful arms.entered lent.agrees
          (set-declared old.book g old.rec.id lawful stands) (set-no_ctx old.book g old.rec.id lawful stands) refl (record { id = alike.id; kind = alike.kind }) alike.shows (alike.period ∙ periodic);
      bits = bits;
    }
setting-kept old g due period false was new reply lawful stands lent periodic arms bits =
    let alike : IsAlike (armed old.rec due period) new.rec = settles-alike old.heap (armed old.rec due period) new.heap new.rec (joins (armed old.rec due period)) arms.place in
    record {
      agrees = agrees-set old.book (set_entry g old.rec.id false was due) new.book old.rec new.rec (Setting.Made due) lawful arms.entered lent.agrees
          (set-declared old.book g old.rec.id lawful stands) (set-no_ctx old.book g old.rec.id lawful stands) refl (record { id = alike.id; kind = alike.kind }) alike.shows (alike.period ∙ periodic);
      bits = bits;
    }
