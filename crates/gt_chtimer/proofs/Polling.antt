-- A choice with a default that receives from a timer.
use Rattle.std.proofs.Common.{◌≡◌, ℕ, zero, suc, ◌<◌, ◌≤◌, ◌&&◌, nat_le, cond, List, [], ◌∷◌, length, filter, slice_get, refl, sym, ap, subst, ◌∙◌, arith, Option, None, Some, option_and_then, MatchOption, Bool, true, false, is_some}
use Rattle.std.specs.List.{list_any}
use Rattle.std.proofs.lemmas.Bool.{and_parts, lt-ltb}
use Rattle.gt_model.specs.declared.entry.Entry.{Entry}
use Rattle.gt_model.specs.declared.entry.Outcome.{Outcome}
use Rattle.gt_model.specs.declared.entry.Party.{Party}
use Rattle.gt_model.specs.declared.script.Case.{Case}
use Rattle.gt_model.specs.declared.script.CaseKind.{CaseKind}
use Rattle.gt_model.specs.declared.script.Instr.{Instr}
use Rattle.gt_model.specs.declared.script.Script.{Script}
use Rattle.gt_model.specs.Good.{IsGood, IsGoodChoice, awaits_timer}
use Rattle.gt_model.specs.Script.{is_chan, is_ctx, is_timer, what_at}
use Rattle.gt_model.specs.declared.script.What.{What}
use Rattle.gt_rules.specs.State.{is_locked, is_done, has_ended, State, clock, clock_of, due_of, stands_at, items_of, is_closed}
use Rattle.gt_rules.specs.Operations.{operation, receives_from}
use Rattle.gt_rules.specs.Panics.{fault}
use Rattle.gt_rules.specs.Ready.{is_due}
use Rattle.gt_rules.specs.Change.{Change, change_of}
use Rattle.gt_facts.proofs.Formed.{world_of-zero}
use Rattle.gt_facts.proofs.Lookups.{Standing, standing, HasAny, any-has, IsCase, is-case}
use Rattle.gt_facts.proofs.Named.{names-instr_at}
use Rattle.gt_rec.specs.Rec.{Rec, BitsRight, has_channel, shown}
use Rattle.gt_rec.specs.Changes.{received, taken}
use Rattle.gt_schedule.specs.declared.status.RunStatus.{RunStatus}
use Rattle.gt_schedule.specs.Schedule.{Schedule, at_case, status_of}
use Rattle.gt_book.specs.declared.answers.Commit.{Commit}
use Rattle.gt_book.specs.declared.answers.Did.{Did}
use Rattle.gt_book.specs.declared.answers.Op.{Op}
use Rattle.gt_book.specs.declared.answers.TimerOp.{TimerOp}
use Rattle.gt_book.specs.declared.step.Step.{Step}
use Rattle.gt_book.specs.Steps.{takes_alone, Steps, Does, Commits, is_gone, or_next, receives_alone, sends_alone, goes_alone, partner_in, meets_sender, meets_receiver, meets, goes_by, come_timer, step_or_panic}
use Rattle.gt_book.specs.View.{BookView, Enters, IsLawful, outcome_of, receiver_of}
use Rattle.gt_book.proofs.Committing.{may-poll}
use Rattle.gt_book.proofs.Wanting.{receives-kind}
use Rattle.gt_book.proofs.Options.{ChoiceIs, case_goes, case_polls, all_rest, all_wait, choice-so}
use Rattle.gt_rows.specs.declared.answers.PollDone.{PollDone}
use Rattle.gt_rows.specs.Frames.{touched}
use Rattle.gt_rows.specs.Lent.{IsLentRec}
use Rattle.gt_rows.specs.Rows.{Pair, PollsAt, PollsBy, PollsFor, PollRow, polls_for, next_of}
use Rattle.gt_chtimer.proofs.Asking.{Echoes, echoes-answers, IsOver, is-over, asks-running}
use Rattle.gt_chtimer.proofs.Committing.{Tells, Came, came}
use Rattle.gt_rows.proofs.Keeping.{agrees-entered, period-still}
use Rattle.gt_rows.proofs.Tickers.{channel-no_ctx}
use Rattle.gt_chtimer.proofs.Keeping.{shown-declared}
use Rattle.gt_chtimer.proofs.Receiving.{channel-timer, channel-declared, gets, Got, got, got-leaves, ReceiveComes, receive-kept}

-- ---- at most one case receives from a timer

some-passes : {X : Type 0} (p : X → Bool) (xs : List X) (i : ℕ) (x : X) → slice_get xs i ≡ Some x → p x ≡ true → 1 ≤ length (filter p xs)
some-passes p [] i x e h = cc
some-passes p (y ∷ xs) zero x e h =
    let is : y ≡ x = cc in
    let first : p y ≡ true = rw is h in
    rw first (omega arith)
some-passes p (y ∷ xs) (suc i) x e h =
    let rest : 1 ≤ length (filter p xs) = some-passes p xs i x e h in
    elim (p y) as (λ b. 1 ≤ length (cond b (y ∷ filter p xs) (filter p xs))) [ true ↦ omega arith | false ↦ rest ]

none-twice : {X : Type 0} (p : X → Bool) (xs : List X) (z : X) (j : ℕ) (y : X) → length (filter p (z ∷ xs)) ≤ 1 → p z ≡ true → slice_get xs j ≡ Some y → p y ≡ true → ⊥
none-twice p xs z j y few first e h =
    let more : 1 ≤ length (filter p xs) = some-passes p xs j y e h in
    let both : length (z ∷ filter p xs) ≤ 1 = subst (λ b. length (cond b (z ∷ filter p xs) (filter p xs)) ≤ 1) first few in
    omega arith

-- of a list where at most one item passes a test all that pass it are the same
one-passes : {X : Type 0} (p : X → Bool) (xs : List X) (i j : ℕ) (x y : X) → length (filter p xs) ≤ 1 → slice_get xs i ≡ Some x → p x ≡ true → slice_get xs j ≡ Some y → p y ≡ true → x ≡ y
one-passes p [] i j x y few e h f k = cc
one-passes p (z ∷ xs) zero zero x y few e h f k = cc
one-passes p (z ∷ xs) zero (suc j) x y few e h f k =
    let is : z ≡ x = cc in absurd (none-twice p xs z j y few (rw is h) f k)
one-passes p (z ∷ xs) (suc i) zero x y few e h f k =
    let is : z ≡ y = cc in absurd (none-twice p xs z i x few (rw is k) e h)
one-passes p (z ∷ xs) (suc i) (suc j) x y few e h f k =
    let fewer : length (filter p xs) ≤ 1 =
    elim (p z) as (λ b. length (cond b (z ∷ filter p xs) (filter p xs)) ≤ 1 → length (filter p xs) ≤ 1) [ true ↦ λ l. omega arith | false ↦ λ l. l ] few in
    one-passes p xs i j x y fewer e h f k

-- ---- an entry by which a case goes on is of no timer

abbrev pub IsTimerless : Entry → Type 0
IsTimerless e = (change_of e).timer ≡ None

abbrev IsTimerlessIf : Option Entry → Type 0
IsTimerlessIf None = Unit {0}
IsTimerlessIf (Some e) = IsTimerless e

receives-timerless : (p : Party) (c : ℕ) (items : List ℕ) (closed : Bool) → IsTimerlessIf (receives_alone p c items closed)
receives-timerless p c (v ∷ items) closed = refl
receives-timerless p c [] true = refl
receives-timerless p c [] false = tt

sends-timerless : (p : Party) (c v : ℕ) (closed room : Bool) → IsTimerlessIf (sends_alone p c v closed room)
sends-timerless p c v true room = refl
sends-timerless p c v false true = refl
sends-timerless p c v false false = tt

cond-timerless : (b : Bool) (o : Option Entry) → IsTimerlessIf o → IsTimerlessIf (cond b o None)
cond-timerless true o h = h
cond-timerless false o h = tt

both-timerless : (b : Bool) (o q : Option Entry) → IsTimerlessIf o → IsTimerlessIf q → IsTimerlessIf (cond b o q)
both-timerless true o q h k = h
both-timerless false o q h k = k

takes-timerless : (s : State) (p : Party) (o : ℕ) (w : Option What) → IsTimerlessIf (takes_alone s p o w)
takes-timerless s p o (Some What.Mutex) = both-timerless (is_locked s o) None (Some (Entry.Lock p.g o)) tt refl
takes-timerless s p o (Some What.Wg) = both-timerless (is_done s o) (Some (Entry.WgWait p.g o)) None refl tt
takes-timerless s p o (Some (What.Cond mutex)) = tt
takes-timerless s p o (Some (What.Ctx parent form)) = both-timerless (has_ended s o) (Some (Entry.CtxDone p o)) None refl tt
takes-timerless s p o (Some (What.Hook ctx func)) = tt
takes-timerless s p o (Some What.Error) = tt
takes-timerless s p o (Some What.Timer) = tt
takes-timerless s p o (Some What.Ticker) = tt
takes-timerless s p o (Some (What.AfterFunc func)) = tt
takes-timerless s p o (Some (What.Chan cap)) = tt
takes-timerless s p o (Some What.Function) = tt
takes-timerless s p o None = tt

alone-timerless : (script : Script) (s : State) (p : Party) (kind : CaseKind) → IsTimerlessIf (goes_alone script s p kind)
alone-timerless script s p (CaseKind.Recv o) =
    both-timerless (is_chan script o) (receives_alone p o (items_of s o) (is_closed s o)) (takes_alone s p o (what_at script o)) (receives-timerless p o (items_of s o) (is_closed s o))
    (takes-timerless s p o (what_at script o))
alone-timerless script s p (CaseKind.Send c v) = sends-timerless p c v _ _

sender-timerless : (script : Script) (s : State) (p : Party) (c : ℕ) (o : Option Party) → IsTimerlessIf (meets_sender script s p c o)
sender-timerless script s p c None = tt
sender-timerless script s p c (Some q) = refl

receiver-timerless : (p : Party) (c v : ℕ) (o : Option Party) → IsTimerlessIf (meets_receiver p c v o)
receiver-timerless p c v None = tt
receiver-timerless p c v (Some q) = refl

meets-timerless : (script : Script) (s : State) (m : Schedule) (p : Party) (kind : CaseKind) → IsTimerlessIf (meets script s m p kind)
meets-timerless script s m p (CaseKind.Recv o) =
    cond-timerless (is_chan script o) (meets_sender script s p o (partner_in script m.senders o)) (sender-timerless script s p o (partner_in script m.senders o))
meets-timerless script s m p (CaseKind.Send c v) = receiver-timerless p c v (partner_in script m.receivers c)

or-timerless : (a b : Option Entry) → IsTimerlessIf a → IsTimerlessIf b → IsTimerlessIf (or_next a b)
or-timerless None b h k = k
or-timerless (Some e) b h k = h

goes-timerless : (script : Script) (s : State) (m : Schedule) (p : Party) (kind : CaseKind) (e : Entry) → goes_by script s m p kind ≡ Some e → IsTimerless e
goes-timerless script s m p kind e h =
    subst IsTimerlessIf h (or-timerless (goes_alone script s p kind) (meets script s m p kind) (alone-timerless script s p kind) (meets-timerless script s m p kind))

-- ---- the step of such a choice

-- it makes an entry that is of no timer, or receives from this timer, whose time has come
abbrev pub PollsOr : State → ℕ → ℕ → Step → Type 0
PollsOr s g t (Step.Makes e) = IsTimerless e
PollsOr s g t (Step.Needs op) = (op ≡ TimerOp.Poll t) × (is_due (due_of s t) (clock_of s g) ≡ true)
PollsOr s g t _ = ⊥

-- a case whose value has come
pub record Comes (script : Script) (s : State) (now t : ℕ) (kind : CaseKind) : Type 0 where
  pub kind_is : kind ≡ CaseKind.Recv t
  pub timer : is_timer script t ≡ true
  pub due : is_due (due_of s t) now ≡ true

pub comes : (script : Script) (s : State) (now t : ℕ) (kind : CaseKind) → come_timer script s now kind ≡ Some t → Comes script s now t kind
comes script s now t (CaseKind.Recv o) h =
    elim (is_timer script o && is_due (due_of s o) now) as (λ b. (is_timer script o && is_due (due_of s o) now) ≡ b → cond b (Some o) None ≡ Some t → Comes script s now t (CaseKind.Recv o)) [
      | true ↦ λ e k.
          let same : o ≡ t = cc in
          let both = and_parts (is_timer script o) (is_due (due_of s o) now) e in
          record { kind_is = ap CaseKind.Recv same; timer = subst (λ o. is_timer script o ≡ true) same both.0; due = subst (λ o. is_due (due_of s o) now ≡ true) same both.1 }
      | false ↦ λ e k. cc
    ] refl h
comes script s now t (CaseKind.Send c v) h = cc

-- where two cases receive from timers they are the same case
same-timer : (script : Script) (cases : List Case) (default_to : Option ℕ) (n t u : ℕ) (kind : CaseKind) → IsGoodChoice script cases default_to → is_some default_to ≡ true
    → operation (Instr.Select cases default_to) n ≡ Some kind → kind ≡ CaseKind.Recv u → is_timer script u ≡ true
    → is_timer script t ≡ true → list_any (λ (c : Case). receives_from t c.kind) cases ≡ true → u ≡ t
same-timer script cases default_to zero t u kind good some has is own timer any = cc
same-timer script cases default_to (suc k) t u kind good some has is own timer any =
    let one : IsCase cases k kind = is-case cases k kind has in
    let other : HasAny (λ (c : Case). receives_from t c.kind) cases = any-has (λ (c : Case). receives_from t c.kind) cases any in
    let its : one.item.kind ≡ CaseKind.Recv u = one.its ∙ is in
    let receives : other.item.kind ≡ CaseKind.Recv t = receives-kind other.item.kind t other.passes in
    let same : one.item ≡ other.item =
    one-passes (λ (c : Case). awaits_timer script c.kind) cases k other.place one.item other.item (good.polls some) one.there (ap (awaits_timer script) its ∙ own)
    other.there (ap (awaits_timer script) receives ∙ timer) in
    let kinds : CaseKind.Recv u ≡ CaseKind.Recv t = sym its ∙ (ap (λ (c : Case). c.kind) same ∙ receives) in
    cc

choice-polls : (script : Script) (s : State) (m : Schedule) (g t : ℕ) (cases : List Case) (default_to : Option ℕ) (step : Step) → ChoiceIs script s m g cases default_to step
    → IsGoodChoice script cases default_to → is_some default_to ≡ true → is_timer script t ≡ true → list_any (λ (c : Case). receives_from t c.kind) cases ≡ true → PollsOr s g t step
choice-polls script s m g t cases default_to step (case_goes n kind e has by) good some timer any = goes-timerless script s m (at_case g n) kind e by
choice-polls script s m g t cases default_to step (case_polls n kind u has come) good some timer any =
    let c : Comes script s (clock_of s g) u kind = comes script s (clock_of s g) u kind come in
    let same : u ≡ t = same-timer script cases default_to n t u kind good some has c.kind_is c.timer timer any in
    (ap TimerOp.Poll same, subst (λ u. is_due (due_of s u) (clock_of s g) ≡ true) same c.due)
choice-polls script s m g t cases default_to step (all_rest to is none) good some timer any = refl
choice-polls script s m g t cases default_to step (all_wait is none) good some timer any =
    let never : true ≡ false = sym some ∙ ap is_some is in cc

-- it is a choice with a default, and has such a case
record IsPolling (t : ℕ) (i : Instr) : Type 0 where
  cases : List Case
  default_to : Option ℕ
  is : i ≡ Instr.Select cases default_to
  some : is_some default_to ≡ true
  any : list_any (λ (c : Case). receives_from t c.kind) cases ≡ true

polling : (t : ℕ) (i : Instr) → polls_for t i ≡ true → IsPolling t i
polling t (Instr.Select cases default_to) h =
    let both = and_parts (is_some default_to) (list_any (λ (c : Case). receives_from t c.kind) cases) h in
    record { cases = cases; default_to = default_to; is = refl; some = both.0; any = both.1 }
polling t _ h = cc

-- where it stands
record StandsPolling (b : BookView) (g t : ℕ) : Type 0 where
  instr : Instr
  stands : stands_at b.script b.state g ≡ Some instr
  polls : IsPolling t instr

stands-polling : (b : BookView) (g t : ℕ) → PollsAt b g t → StandsPolling b g t
stands-polling b g t h =
    elim (stands_at b.script b.state g) as (λ o. stands_at b.script b.state g ≡ o → (elim o as (λ _. Type 0) [ None ↦ ⊥ | Some i ↦ polls_for t i ≡ true ]) → StandsPolling b g t) [
      | None ↦ λ e k. absurd k
      | Some i ↦ λ e k. record { instr = i; stands = e; polls = polling t i k }
    ] refl h

good-choice : (b : BookView) (g : ℕ) (cases : List Case) (default_to : Option ℕ) → IsGood b.script → stands_at b.script b.state g ≡ Some (Instr.Select cases default_to)
    → IsGoodChoice b.script cases default_to
good-choice b g cases default_to good e =
    let there : Standing b.script b.state g (Instr.Select cases default_to) = standing b.script b.state g (Instr.Select cases default_to) e in
    names-instr_at b.script there.who.place (Instr.Select cases default_to) good there.on

-- the next step of a goroutine that stands at it
pub record PollStep (b : BookView) (g t : ℕ) : Type 0 where
  pub step : Step
  pub next : next_of b g ≡ Some step
  pub so : PollsOr b.state g t step

choice-step : (b : BookView) (g t : ℕ) (cases : List Case) (default_to : Option ℕ) → IsGood b.script → is_timer b.script t ≡ true → stands_at b.script b.state g ≡ Some (Instr.Select cases default_to)
    → is_some default_to ≡ true → list_any (λ (c : Case). receives_from t c.kind) cases ≡ true → PollStep b g t
choice-step b g t cases default_to good timer stands some any =
    let i : Instr = Instr.Select cases default_to in
    let is : next_of b g ≡ Some (step_or_panic b.script b.state b.schedule g i (fault b.script b.state i)) =
    ap (λ (o : Option Instr). elim o as (λ o. Option Step) [ None ↦ None | Some i ↦ Some (step_or_panic b.script b.state b.schedule g i (fault b.script b.state i)) ]) stands in
    let so : PollsOr b.state g t (step_or_panic b.script b.state b.schedule g i (fault b.script b.state i)) =
    elim (fault b.script b.state i) as (λ f. PollsOr b.state g t (step_or_panic b.script b.state b.schedule g i f)) [
      | None ↦ choice-polls b.script b.state b.schedule g t cases default_to _ (choice-so b.script b.state b.schedule g cases default_to) (good-choice b g cases default_to good stands) some timer any
      | Some reason ↦ refl
    ] in
    record { step = step_or_panic b.script b.state b.schedule g i (fault b.script b.state i); next = is; so = so }

pub poll-step : (b : BookView) (g t : ℕ) → IsGood b.script → is_timer b.script t ≡ true → PollsAt b g t → PollStep b g t
poll-step b g t good timer at =
    let s : StandsPolling b g t = stands-polling b g t at in
    choice-step b g t s.polls.cases s.polls.default_to good timer (s.stands ∙ ap Some s.polls.is) s.polls.some s.polls.any

-- the same, of the record with a channel
pub record-step : (b : BookView) (g : ℕ) (r : Rec) → IsLawful b → IsLentRec b r → has_channel r.kind ≡ true → PollsAt b g r.id → PollStep b g r.id
record-step b g r lawful lent channel at =
    poll-step b g r.id lawful.good (channel-timer b.script r.id r.kind channel lent.agrees.kind) at

-- ---- without the record

untouched : (script : Script) (s : State) (c : Change) (id : ℕ) (before : Option ℕ) → c.timer ≡ None → id < length script.decls → is_ctx script id ≡ false
    → touched script s c id before ≡ before
untouched script s c id before none below other = rw (lt-ltb id (length script.decls) below, other, none) refl

-- an entry of no timer leaves the record of a timer right
timerless-kept : (old : BookView) (e : Entry) (new : BookView) (r : Rec) → IsLawful old → IsTimerless e → r.id < length old.script.decls → is_ctx old.script r.id ≡ false → Enters old e new
    → IsLentRec old r → IsLentRec new r
timerless-kept old e new r lawful none below other entered lent = record {
  agrees = agrees-entered old e new r r lawful entered lent.agrees (record { id = refl; kind = refl })
      (sym (untouched old.script old.state (change_of e) r.id (shown r) none below other))
      (sym (period-still old.script old.state (change_of e) r.id r.period none));
  bits = lent.bits;
}

-- nothing is received: the record stays
pub record Plain (old : Pair) (g : ℕ) (new : BookView) (done : PollDone) : Type 0 where
  pub row : PollRow old g (record { rec = old.rec; book = new }) done
  pub kept : IsLentRec new old.rec

plain-does : (old : Pair) (g : ℕ) (new : BookView) (did : Did) (done : PollDone) (step : Step) → IsLawful old.book → IsLentRec old.book old.rec → old.rec.id < length old.book.script.decls
    → is_ctx old.book.script old.rec.id ≡ false → outcome_of old.book ≡ None → next_of old.book g ≡ Some step → PollsOr old.book.state g old.rec.id step → Does old.book g step new did → Echoes PollDone.Over PollDone.Other did done
    → Plain old g new done
plain-does old g new did done (Step.Makes e) lawful lent below other running next so does echo =
    let polls : PollsBy old g (record { rec = old.rec; book = new }) done (Some (Step.Makes e)) =
    record { entered = does.0; rec = refl; answer = echoes-answers PollDone.Over PollDone.Other new did done does.1 echo } in
    record {
      row = rw running (subst (PollsBy old g (record { rec = old.rec; book = new }) done) (sym next) polls);
      kept = timerless-kept old.book e new old.rec lawful so below other does.0 lent;
    }
plain-does old g new did done (Step.Needs op) lawful lent below other running next so does echo = absurd (subst (λ did. Echoes PollDone.Over PollDone.Other did done) does.1 echo)
plain-does old g new did done _ lawful lent below other running next so does echo = absurd so

does-step : (b : BookView) (g : ℕ) (new : BookView) (did : Did) (step : Step) → outcome_of b ≡ None → next_of b g ≡ Some step → Steps b g new did → Does b g step new did
does-step b g new did step running next steps =
    let does : MatchOption (next_of b g) ⊥ (λ step. Does b g step new did) =
    subst (λ (o : Option Outcome). MatchOption o (MatchOption (next_of b g) ⊥ (λ step. Does b g step new did)) (λ outcome. (did ≡ Did.Over outcome) × (new ≡ b))) running steps in
    subst (λ o. MatchOption o ⊥ (λ step. Does b g step new did)) next does

pub plain : (old : Pair) (g : ℕ) (new : BookView) (did : Did) (done : PollDone) → IsLawful old.book → IsLentRec old.book old.rec → has_channel old.rec.kind ≡ true → PollsAt old.book g old.rec.id
    → Steps old.book g new did → Echoes PollDone.Over PollDone.Other did done → Plain old g new done
plain old g new did done lawful lent channel at steps echo =
    let p : PollStep old.book g old.rec.id = record-step old.book g old.rec lawful lent channel at in
    elim (outcome_of old.book) as (λ o. outcome_of old.book ≡ o → Plain old g new done) [
      | None ↦ λ running.
          plain-does old g new did done p.step lawful lent (channel-declared old.book.script old.book.state old.rec lent.agrees channel)
          (channel-no_ctx old.book.script old.book.state old.rec lent.agrees channel) running p.next p.so
          (does-step old.book g new did p.step running p.next steps) echo
      | Some outcome ↦ λ ended.
          let over : IsOver old.book outcome new PollDone.Over done = is-over PollDone.Over PollDone.Other old.book g outcome new did done ended steps echo in
          record {
            row = rw ended (over.answer, ap (λ (b : BookView). record { rec = old.rec; book = b }) over.same);
            kept = subst (λ b. IsLentRec b old.rec) (sym over.same) lent;
          }
    ] refl

-- ---- with the record

-- the timer's case is the one that goes on
pub record PollComes (old : Pair) (g : ℕ) (mid : BookView) : Type 0 where
  pub running : outcome_of old.book ≡ None
  pub step : next_of old.book g ≡ Some (Step.Needs (TimerOp.Poll old.rec.id))
  pub same : mid ≡ old.book
  pub due : is_due (shown old.rec) (clock old.book.state 0) ≡ true

comes-does : (old : Pair) (g : ℕ) (mid : BookView) (wanted : TimerOp) (step : Step) → IsLawful old.book → due_of old.book.state old.rec.id ≡ shown old.rec → outcome_of old.book ≡ None
    → next_of old.book g ≡ Some step → PollsOr old.book.state g old.rec.id step → Does old.book g step mid (Did.Timer wanted) → PollComes old g mid
comes-does old g mid wanted (Step.Makes e) lawful shows running next so does =
    absurd (elim (outcome_of mid) as (λ o. MatchOption o (Did.Timer wanted ≡ Did.Entered) (λ outcome. Did.Timer wanted ≡ Did.Over outcome) → ⊥) [
      | None ↦ λ h. cc
      | Some outcome ↦ λ h. cc
    ] does.1)
comes-does old g mid wanted (Step.Needs op) lawful shows running next so does =
    let now : clock_of old.book.state g ≡ clock old.book.state 0 = ap (clock old.book.state) (world_of-zero old.book.script old.book.state g lawful.formed) in
    record {
      running = running;
      step = next ∙ ap (λ op. Some (Step.Needs op)) so.0;
      same = does.0;
      due = subst (λ o. is_due o (clock old.book.state 0) ≡ true) shows (subst (λ now. is_due (due_of old.book.state old.rec.id) now ≡ true) now so.1);
    }
comes-does old g mid wanted _ lawful shows running next so does = absurd so

pub poll-comes : (old : Pair) (g : ℕ) (mid : BookView) (did : Did) (wanted : TimerOp) → IsLawful old.book → IsLentRec old.book old.rec → has_channel old.rec.kind ≡ true
    → PollsAt old.book g old.rec.id → did ≡ Did.Timer wanted → Steps old.book g mid did → PollComes old g mid
poll-comes old g mid did wanted lawful lent channel at is steps =
    let p : PollStep old.book g old.rec.id = record-step old.book g old.rec lawful lent channel at in
    let its : Steps old.book g mid (Did.Timer wanted) = subst (Steps old.book g mid) is steps in
    let running : outcome_of old.book ≡ None = asks-running old.book g mid wanted its in
    let below : old.rec.id < length old.book.script.decls = channel-declared old.book.script old.book.state old.rec lent.agrees channel in
    comes-does old g mid wanted p.step lawful (shown-declared old.book.script old.book.state old.rec lent.agrees below
    (channel-no_ctx old.book.script old.book.state old.rec lent.agrees channel)) running p.next p.so
    (does-step old.book g mid (Did.Timer wanted) p.step running p.next its)

-- so something is received
came-due : (r : Rec) (now at : ℕ) (b : Bool) → b ≡ true → gets r now at b ≡ None → ⊥
came-due r now at true h none = cc
came-due r now at false h none = cc

due-received : (r : Rec) (now : ℕ) → is_due (shown r) now ≡ true → received r now ≡ None → ⊥
due-received r now due none =
    elim (shown r) as (λ o. is_due o now ≡ true → option_and_then (λ (at : ℕ). gets r now at (nat_le at now)) o ≡ None → ⊥) [
      | None ↦ λ h k. cc
      | Some at ↦ λ h k. came-due r now at (nat_le at now) h k
    ] due none

pub never-empty : (old : Pair) (g : ℕ) (mid : BookView) → PollComes old g mid → received old.rec (clock mid.state 0) ≡ None → ⊥
never-empty old g mid c none =
    due-received old.rec (clock old.book.state 0) c.due (ap (λ (b : BookView). received old.rec (clock b.state 0)) (sym c.same) ∙ none)

-- the program's clock is there
pub clock-there : (old : Pair) (g : ℕ) (mid : BookView) → IsLawful old.book → PollComes old g mid → 0 < length mid.state.clocks
clock-there old g mid lawful c =
    let here : 0 < length old.book.state.clocks = (let one : length old.book.state.clocks ≡ 1 = ap length lawful.formed.one_clock in omega arith) in
    subst (λ (b : BookView). 0 < length b.state.clocks) (sym c.same) here

-- the receive may come
pub poll-may : (old : Pair) (g : ℕ) (mid : BookView) (p : Party) (t due : ℕ) (next : Option ℕ) → IsLawful old.book → IsLentRec old.book old.rec → has_channel old.rec.kind ≡ true
    → status_of old.book.schedule g ≡ Some RunStatus.InHand → PollComes old g mid → p ≡ receiver_of mid.script mid.state g old.rec.id → t ≡ old.rec.id
    → received old.rec (clock mid.state 0) ≡ Some (due, next) → ReceiveComes mid p t due next
poll-may old g mid p t due next lawful lent channel in_hand c its timer_is is =
    let b : BookView = old.book in
    let r : Rec = old.rec in
    let now : received r (clock b.state 0) ≡ Some (due, next) = ap (λ (b : BookView). received r (clock b.state 0)) (sym c.same) ∙ is in
    let value : Got r (clock b.state 0) due next = got r (clock b.state 0) due next now in
    let timer : is_timer b.script r.id ≡ true = channel-timer b.script r.id r.kind channel lent.agrees.kind in
    let set : due_of b.state r.id ≡ Some due = shown-declared b.script b.state r lent.agrees (channel-declared b.script b.state r lent.agrees channel)
    (channel-no_ctx b.script b.state r lent.agrees channel) ∙ value.shows in
    let all = may-poll b g r.id due next lawful c.running c.step in_hand timer set value.come (got-leaves b r due next lent.agrees channel value) in
    let here : ReceiveComes b (receiver_of b.script b.state g r.id) r.id due next = record { may = all.0; in_time = all.1 } in
    let there : ReceiveComes mid (receiver_of mid.script mid.state g r.id) r.id due next = subst (λ (b : BookView). ReceiveComes b (receiver_of b.script b.state g r.id) r.id due next) (sym c.same) here in
    subst (λ p. ReceiveComes mid p t due next) (sym its) (subst (λ t. ReceiveComes mid (receiver_of mid.script mid.state g r.id) t due next) (sym timer_is) there)

-- and what comes of it
pub poll-row : (old : Pair) (g : ℕ) (mid : BookView) (p : Party) (t due : ℕ) (next : Option ℕ) (now : Rec) (new : BookView) (did : Commit) (done : PollDone) → PollComes old g mid
    → p ≡ receiver_of mid.script mid.state g old.rec.id → t ≡ old.rec.id → received old.rec (clock mid.state 0) ≡ Some (due, next) → ReceiveComes mid p t due next
    → now ≡ taken old.rec next → Commits mid (Op.TRecv p t due next) (is_gone mid (Op.TRecv p t due next)) new did → Tells PollDone.Over PollDone.Received did done
    → PollRow old g (record { rec = now; book = new }) done
poll-row old g mid p t due next now new did done c its timer_is is may rec_is commits tells =
    let all : Came mid (Op.TRecv p t due next) new PollDone.Over PollDone.Received done =
    came PollDone.Over PollDone.Received mid (Op.TRecv p t due next) new did done may.in_time commits tells in
    let mine : Enters mid (Entry.TRecv (receiver_of mid.script mid.state g old.rec.id) t due next) new = subst (λ p. Enters mid (Entry.TRecv p t due next) new) its all.entered in
    let its_own : Enters mid (Entry.TRecv (receiver_of mid.script mid.state g old.rec.id) old.rec.id due next) new =
    subst (λ t. Enters mid (Entry.TRecv (receiver_of mid.script mid.state g old.rec.id) t due next) new) timer_is mine in
    let here : Enters old.book (Entry.TRecv (receiver_of old.book.script old.book.state g old.rec.id) old.rec.id due next) new =
    subst (λ (b : BookView). Enters b (Entry.TRecv (receiver_of b.script b.state g old.rec.id) old.rec.id due next) new) c.same its_own in
    let value : received old.rec (clock old.book.state 0) ≡ Some (due, next) = ap (λ (b : BookView). received old.rec (clock b.state 0)) (sym c.same) ∙ is in
    let polls : PollsFor old g (record { rec = now; book = new }) done (Some (due, next)) = record { entered = here; rec = rec_is; answer = all.answer } in
    let by : PollsBy old g (record { rec = now; book = new }) done (Some (Step.Needs (TimerOp.Poll old.rec.id))) = subst (PollsFor old g (record { rec = now; book = new }) done) (sym value) polls in
    rw (c.running) (subst (PollsBy old g (record { rec = now; book = new }) done) (sym c.step) by)

pub poll-kept : (old : Pair) (g : ℕ) (mid : BookView) (p : Party) (t due : ℕ) (next : Option ℕ) (now : Rec) (new : BookView) (did : Commit) → IsLawful old.book → IsLentRec old.book old.rec
    → has_channel old.rec.kind ≡ true → PollComes old g mid → ReceiveComes mid p t due next → t ≡ old.rec.id → now ≡ taken old.rec next → shown now ≡ next → (BitsRight old.rec → BitsRight now)
    → Commits mid (Op.TRecv p t due next) (is_gone mid (Op.TRecv p t due next)) new did → IsLentRec new now
poll-kept old g mid p t due next now new did lawful lent channel c may timer_is rec_is shows bits commits =
    receive-kept mid old.rec p t due next now new did (subst IsLawful (sym c.same) lawful) (subst (λ b. IsLentRec b old.rec) (sym c.same) lent) channel may timer_is rec_is shows bits commits
