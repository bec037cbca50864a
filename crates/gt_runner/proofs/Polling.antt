-- What a whole call does that receives from a timer as a case of a choice with a default.
use Rattle.std.proofs.Common.{◌≡◌, ℕ, zero, suc, ◌+◌, set, slice_get, refl, sym, ap, subst, ◌∙◌, Option, None, Some, IsSome, Bool, true, false, ◌&&◌, is_some, inr, List, [], ◌∷◌}
use Rattle.std.proofs.lemmas.Bool.{eq-eqb}
use Rattle.gt_model.specs.declared.entry.Entry.{Entry}
use Rattle.gt_model.specs.declared.script.Case.{Case}
use Rattle.gt_model.specs.declared.script.Instr.{Instr}
use Rattle.gt_model.specs.declared.script.CaseKind.{CaseKind}
use Rattle.gt_model.specs.declared.script.Script.{Script}
use Rattle.gt_model.specs.Script.{is_timer}
use Rattle.gt_model.proofs.Declared.{timer_setting}
use Rattle.gt_rules.specs.State.{State, clock, clock_of}
use Rattle.gt_rules.specs.Operations.{offers, receives_from}
use Rattle.gt_rules.specs.Panics.{fault}
use Rattle.gt_facts.proofs.Lookups.{offers-operation}
use Rattle.gt_rec.specs.Rec.{Rec, has_channel}
use Rattle.gt_rec.specs.Changes.{received, taken}
use Rattle.gt_lazy.specs.Slots.{LazyHeap, slot_with}
use Rattle.gt_schedule.specs.Counts.{as_number}
use Rattle.gt_schedule.specs.Schedule.{Schedule, at_case, plainly, status_of}
use Rattle.gt_book.specs.declared.answers.TimerOp.{TimerOp}
use Rattle.gt_book.specs.declared.step.Step.{Step}
use Rattle.gt_book.specs.Steps.{case_step, come_timer, first_step, goes_by, no_case, choice_step, step_of_instr, step_or_panic}
use Rattle.gt_book.specs.View.{BookView, Enters, receiver_of}
use Rattle.gt_book.proofs.Going.{IsStep, step-is, in_hand-goes}
use Rattle.gt_book.proofs.Meeting.{plain-is, recv-is, send-is, with-is, cancel-is}
use Rattle.gt_book.proofs.Options.{ChoiceIs, case_goes, case_polls, all_rest, all_wait, choice-so}
use Rattle.gt_rows.specs.declared.answers.PollDone.{PollDone}
use Rattle.gt_rows.specs.Lent.{IsLentRec, IsPlaced}
use Rattle.gt_rows.specs.Rows.{Pair, PollsAt, PollsBy, PollsFor, PollRow, polls_for, next_of}
use Rattle.gt_chtimer.proofs.Polling.{Comes, comes}
use Rattle.gt_runner.specs.declared.runner.Runner.{Runner}
use Rattle.gt_runner.specs.Calls.{After, HasRecord, Ready}
use Rattle.gt_runner.specs.Served.{is_heaped}
use Rattle.gt_runner.proofs.Calling.{record-is, after-enters, in_hand-awake, running-row, setting-record}
use Rattle.gt_runner.proofs.Tending.{KeepsNote, tended-touched}
use Rattle.gt_runner.proofs.Touching.{note-same, rests-touches}
use Rattle.gt_runner.proofs.Receiving.{taken-noted}
use Rattle.gt_runner.proofs.Waiting.{channel-of}

-- ---- where it stands

-- a choice without a default polls no timer
unpolled-case : (t : ℕ) (e : Option Entry) (come : Option ℕ) (next : Option Step) → (next ≡ Some (Step.Needs (TimerOp.Poll t)) → ⊥)
    → (elim (case_step e false come) as (λ o. Option Step) [ None ↦ next | Some step ↦ Some step ]) ≡ Some (Step.Needs (TimerOp.Poll t)) → ⊥
unpolled-case t (Some e) come next h k = cc
unpolled-case t None come next h k = h k

unpolled : (script : Script) (s : State) (m : Schedule) (g t n : ℕ) (cases : List Case) → first_step script s m g false n cases ≡ Some (Step.Needs (TimerOp.Poll t)) → ⊥
unpolled script s m g t n [] h = cc
unpolled script s m g t n (c ∷ cases) h =
    unpolled-case t (goes_by script s m (at_case g n) c.kind) (come_timer script s (clock_of s g) c.kind) (first_step script s m g false (n + 1) cases)
    (unpolled script s m g t (n + 1) cases) h

has-default : (script : Script) (s : State) (m : Schedule) (g t : ℕ) (cases : List Case) (default_to : Option ℕ) → choice_step script s m g cases default_to ≡ Step.Needs (TimerOp.Poll t)
    → is_some default_to ≡ true
has-default script s m g t cases (Some to) h = refl
has-default script s m g t cases None h =
    absurd (elim (first_step script s m g false 1 cases) as (λ o. first_step script s m g false 1 cases ≡ o
    → (elim o as (λ o. Step) [ None ↦ no_case script g cases None | Some step ↦ step ]) ≡ Step.Needs (TimerOp.Poll t) → ⊥) [
      | None ↦ λ e k. cc
      | Some step ↦ λ e k. unpolled script s m g t 1 cases (e ∙ ap Some k)
    ] refl h)

-- an instruction that polls a timer
record PollsInstr (script : Script) (t : ℕ) (i : Instr) : Type 0 where
  polls : polls_for t i ≡ true
  timer : is_timer script t ≡ true

both-true : (a b : Bool) → a ≡ true → b ≡ true → (a && b) ≡ true
both-true a b h k = rw (h, k) refl

choice-polls : (script : Script) (s : State) (m : Schedule) (g t : ℕ) (cases : List Case) (default_to : Option ℕ) (step : Step) → ChoiceIs script s m g cases default_to step
    → step ≡ Step.Needs (TimerOp.Poll t) → is_some default_to ≡ true → PollsInstr script t (Instr.Select cases default_to)
choice-polls script s m g t cases default_to step (case_goes n kind e has by) h some = cc
choice-polls script s m g t cases default_to step (case_polls n kind u has come) h some =
    let same : u ≡ t = cc in
    let c : Comes script s (clock_of s g) t kind = comes script s (clock_of s g) t kind (come ∙ ap Some same) in
    let offered : offers (receives_from t) (Instr.Select cases default_to) ≡ true =
    offers-operation (receives_from t) (Instr.Select cases default_to) n kind has (subst (λ kind. receives_from t kind ≡ true) (sym c.kind_is) (eq-eqb t t refl)) in
    record { polls = both-true (is_some default_to) (offers (receives_from t) (Instr.Select cases default_to)) some offered; timer = c.timer }
choice-polls script s m g t cases default_to step (all_rest to is none) h some = cc
choice-polls script s m g t cases default_to step (all_wait is none) h some = cc

instr-polls : (script : Script) (s : State) (m : Schedule) (g t : ℕ) (i : Instr) → step_of_instr script s m g i ≡ Step.Needs (TimerOp.Poll t) → PollsInstr script t i
instr-polls script s m g t (Instr.Select cases default_to) h =
    choice-polls script s m g t cases default_to _ (choice-so script s m g cases default_to) h (has-default script s m g t cases default_to h)
instr-polls script s m g t (Instr.Sleep zero) h = cc
instr-polls script s m g t (Instr.Sleep (suc d)) h = cc
instr-polls script s m g t (Instr.Recv o) h = absurd (recv-is (λ step. step ≡ Step.Needs (TimerOp.Poll t) → ⊥) (λ e q. cc) (λ kind q. cc) (λ t q. cc) script s m g o h)
instr-polls script s m g t (Instr.Send c v) h = absurd (send-is (λ step. step ≡ Step.Needs (TimerOp.Poll t) → ⊥) (λ e q. cc) (λ kind q. cc) script s m g c v h)
instr-polls script s m g t (Instr.Lock k) h = absurd (plain-is (λ step. step ≡ Step.Needs (TimerOp.Poll t) → ⊥) (λ e q. cc) (λ kind q. cc) (CaseKind.Recv k) (goes_by script s m (plainly g) (CaseKind.Recv k)) h)
instr-polls script s m g t (Instr.Wait k) h = absurd (plain-is (λ step. step ≡ Step.Needs (TimerOp.Poll t) → ⊥) (λ e q. cc) (λ kind q. cc) (CaseKind.Recv k) (goes_by script s m (plainly g) (CaseKind.Recv k)) h)
instr-polls script s m g t (Instr.With x) h = absurd (with-is (λ step. step ≡ Step.Needs (TimerOp.Poll t) → ⊥) (λ e q. cc) (λ y due q. cc) script s m g x h)
instr-polls script s m g t (Instr.Cancel x cause) h = absurd (cancel-is (λ step. step ≡ Step.Needs (TimerOp.Poll t) → ⊥) (λ e q. cc) (λ y q. cc) script s m g x cause h)
instr-polls script s m g t _ h = cc

-- who polls a timer stands at a choice that may, and it is a timer
pub record IsPoll (v : BookView) (g t : ℕ) : Type 0 where
  pub stands : PollsAt v g t
  pub timer : is_timer v.script t ≡ true

pub next-polls : (v : BookView) (g t : ℕ) → next_of v g ≡ Some (Step.Needs (TimerOp.Poll t)) → IsPoll v g t
next-polls v g t e =
    let st : IsStep v.script v.state v.schedule g (Step.Needs (TimerOp.Poll t)) = step-is v.script v.state v.schedule g (Step.Needs (TimerOp.Poll t)) e in
    let p : PollsInstr v.script t st.instr =
    elim (fault v.script v.state st.instr) as (λ o. step_or_panic v.script v.state v.schedule g st.instr o ≡ Step.Needs (TimerOp.Poll t) → PollsInstr v.script t st.instr) [
      | None ↦ λ h. instr-polls v.script v.state v.schedule g t st.instr h
      | Some reason ↦ λ h. cc
    ] st.is in
    record { stands = subst (λ o. elim o as (λ _. Type 0) [ None ↦ ⊥ | Some i ↦ polls_for t i ≡ true ]) (sym st.stands) p.polls; timer = p.timer }

-- ---- its record

pub poll-record : (x : Runner) (g t : ℕ) → Ready x g → next_of x.book g ≡ Some (Step.Needs (TimerOp.Poll t)) → HasRecord x t
poll-record x g t ready next = setting-record x t ready.served.tended (timer_setting x.book.script t (next-polls x.book g t next).timer)

pub poll-channel : (x : Runner) (g t : ℕ) (r : Rec) → Ready x g → next_of x.book g ≡ Some (Step.Needs (TimerOp.Poll t)) → slice_get x.records.items t ≡ Some r → has_channel r.kind ≡ true
poll-channel x g t r ready next there =
    channel-of x t r (next-polls x.book g t next).timer (record-is x t r (poll-record x g t ready next) there)

pub poll-stands : (x : Runner) (g t : ℕ) (r : Rec) → Ready x g → next_of x.book g ≡ Some (Step.Needs (TimerOp.Poll t)) → slice_get x.records.items t ≡ Some r → PollsAt x.book g r.id
poll-stands x g t r ready next there =
    subst (PollsAt x.book g) (sym (record-is x t r (poll-record x g t ready next) there).1) (next-polls x.book g t next).stands

-- ---- the call

-- what was received
record HasPolled (x x' : Runner) (g t : ℕ) (r r' : Rec) : Type 0 where
  due : ℕ
  next : Option ℕ
  value : received r (clock x.book.state 0) ≡ Some (due, next)
  entered : Enters x.book (Entry.TRecv (receiver_of x.book.script x.book.state g t) t due next) x'.book
  rec_is : r' ≡ taken r next

polled : (x x' : Runner) (g t : ℕ) (r r' : Rec) (reply : PollDone) (o : Option (ℕ × Option ℕ)) → r.id ≡ t
    → received r (clock x.book.state 0) ≡ o → PollsFor (record { rec = r; book = x.book }) g (record { rec = r'; book = x'.book }) reply o → HasPolled x x' g t r r'
polled x x' g t r r' reply None its is row = absurd row
polled x x' g t r r' reply (Some o) its is row = record {
  due = o.0;
  next = o.1;
  value = is;
  entered = subst (λ i. Enters x.book (Entry.TRecv (receiver_of x.book.script x.book.state g i) i o.0 o.1) x'.book) its row.entered;
  rec_is = row.rec;
}

pub after-poll : (x x' : Runner) (g t : ℕ) (r r' : Rec) (reply : PollDone) → Ready x g → next_of x.book g ≡ Some (Step.Needs (TimerOp.Poll t))
    → slice_get x.records.items t ≡ Some r → x'.records.items ≡ set x.records.items t r' → x'.records.spare ≡ x.records.spare → x'.noted ≡ x.noted → x'.heap ≡ x.heap
    → PollRow (record { rec = r; book = x.book }) g (record { rec = r'; book = x'.book }) reply → IsLentRec x'.book r' → After x x' g
after-poll x x' g t r r' reply ready next there records_are spare noted_is heap_is row lent =
    let own = record-is x t r (poll-record x g t ready next) there in
    let old : Pair = record { rec = r; book = x.book } in
    let new : Pair = record { rec = r'; book = x'.book } in
    let by : PollsBy old g new reply (next_of x.book g) = running-row x.book PollDone.Over reply (new ≡ old) (PollsBy old g new reply (next_of x.book g)) ready.running row in
    let p : HasPolled x x' g t r r' =
    polled x x' g t r r' reply (received r (clock x.book.state 0)) own.1 refl (subst (PollsBy old g new reply) next by) in
    let same_heaped : r'.heaped ≡ r.heaped = ap (λ (r : Rec). r.heaped) p.rec_is in
    let number_is : x'.heap.number ≡ x.heap.number = ap (λ (h : LazyHeap). h.number) heap_is in
    let placed : IsPlaced x.heap r' = subst (IsPlaced x.heap) (sym p.rec_is) (record { here = own.2.kept.placed.here; elsewhere = own.2.kept.placed.elsewhere }) in
    let notes : KeepsNote x.noted x'.noted = note-same x.noted x'.noted noted_is in
    after-enters x x' g _ ready p.entered (in_hand-goes (status_of x.book.schedule g) ready.alone.in_hand, tt) tt
    (tended-touched x x' t r r' ready.served.tended (rests-touches x x' t r r' _ ready.lawful (record {
      there = there;
      id_is = own.1;
      watched = own.2;
      records_are = records_are;
      spare = spare;
      notes = notes;
      enters = p.entered;
      leaves = λ j n. record { timer = λ e. n (sym e); mover = inr (in_hand-awake x.book g ready.lawful ready.alone.in_hand, refl); partner = tt; tree = tt };
      slots = λ j n. ap (λ (h : LazyHeap). slot_with h.slots j) heap_is;
      number_is = number_is;
      room = (let heaped = ap (λ (r : Rec). as_number (is_heaped r)) p.rec_is in let free = ap (λ (h : LazyHeap). h.spare) heap_is in rw (heaped, free) refl);
      kept = record { rec = lent; placed = subst (λ h. IsPlaced h r') (sym heap_is) placed };
      same_id = ap (λ (r : Rec). r.id) p.rec_is;
      same_kind = ap (λ (r : Rec). r.kind) p.rec_is;
      same_blocked = ap (λ (r : Rec). r.blocked) p.rec_is;
      inside = λ some. same_heaped ∙ (own.2.inside (subst IsSome same_heaped some) ∙ ap Some (sym number_is));
      needs = taken-noted x.book x.heap x.noted x'.noted r r' (p.due, p.next) ready.lawful own.2 p.value p.rec_is notes;
      none_ready = ap (λ (r : Rec). r.ready) p.rec_is;
      none_sent = ap (λ (r : Rec). r.sending) p.rec_is;
    })))
