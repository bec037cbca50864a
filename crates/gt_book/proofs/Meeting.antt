-- What a goroutine in hand meets at a channel: a partner that is parked there, which stands at its operation without a misuse, or nobody.
use Rattle.std.proofs.Common.{◌≡◌, ◌≢◌, ℕ, zero, suc, ◌+◌, ◌<◌, ◌==◌, nat_lt, cond, List, [], ◌∷◌, length, slice_get, refl, sym, ap, ◌∙◌, Option, None, Some, Bool, true, false, not, ◌&&◌, ◌||◌, is_some, IsTrue}
use Rattle.std.proofs.lemmas.Bool.{eqb-true, eq-eqb, and_parts, and_from}
use Rattle.std.specs.Option.{option_map}
use Rattle.gt_model.specs.declared.script.Script.{Script}
use Rattle.gt_model.specs.declared.script.Instr.{Instr}
use Rattle.gt_model.specs.declared.script.Case.{Case}
use Rattle.gt_model.specs.declared.script.What.{What}
use Rattle.gt_model.specs.declared.script.CaseKind.{CaseKind}
use Rattle.gt_model.specs.declared.entry.Entry.{Entry}
use Rattle.gt_model.specs.declared.entry.Party.{Party}
use Rattle.gt_model.specs.declared.state.Goroutine.{Goroutine}
use Rattle.gt_model.specs.declared.state.Mode.{Mode}
use Rattle.gt_model.specs.Script.{is_timer, is_chan, is_cond, names_timer, capacity_of, is_ctx, is_endable}
use Rattle.gt_rules.specs.State.{State, Channel, channel_at, mode_of, stands_at, clock_of, until_of, sleeps_until, suspended_count, item_count, is_open, is_closed, world_of, has_ended}
use Rattle.gt_rules.specs.Operations.{operation, offers, polls, receives_from, sends_to}
use Rattle.gt_rules.specs.Legal.{Operates, Signals, operation_at, is_polling}
use Rattle.gt_rules.specs.Panics.{fault}
use Rattle.gt_rules.specs.Ready.{is_ready_recv, is_ready_case, is_ready_instr, is_ready_at, has_partner, partner_waits, is_firm, is_firm_in, no_timer}
use Rattle.gt_facts.proofs.Lookups.{Standing, standing, AtOperation, at_operation, Offered, offered, InMode, in-mode}
use Rattle.gt_facts.proofs.Partners.{Partner, partner}
use Rattle.gt_schedule.specs.declared.status.RunStatus.{RunStatus}
use Rattle.gt_schedule.specs.Schedule.{Schedule, plainly, at_case, status_of, is_parked, parties_at}
use Rattle.gt_book.specs.declared.step.Step.{Step}
use Rattle.gt_book.specs.declared.answers.TimerOp.{TimerOp}
use Rattle.gt_book.specs.Steps.{partner_in, value_of, plain_step, goes_by, case_step, come_timer, first_step, no_case, step_of_instr, makes_context, live_deadline, cancels}
use Rattle.gt_book.specs.View.{Agrees, is_waiting, is_firm_at, is_at, wants, is_parked_at, Fits}
use Rattle.gt_book.specs.Calm.{IsCalm}
use Rattle.gt_book.proofs.Fitting.{has_status, first-waiting, first-sending, none-waiting, none-sending}
use Rattle.gt_book.proofs.Wanting.{receives-kind, operates-wanted, suspended-wanted, wanted-passes, wants-sends, wants-receives, wants-suspended}
use Rattle.gt_model.specs.Good.{IsGood, gives_values}
use Rattle.gt_model.proofs.Declared.{chan_declared, cond_declared}
use Rattle.gt_model.proofs.Items.{HasNumber}
use Rattle.gt_facts.specs.Formed.{IsFormed}
use Rattle.gt_facts.proofs.Suspended.{Waiter, waiter}
use Rattle.gt_book.proofs.Choosing.{unready-waits, unready-operation, sends-made}
use Rattle.gt_book.proofs.Firm.{IsOpenChannel, or-false, no-reason, calm-standing, unless-true, never-both}
use Rattle.gt_rules.specs.Contexts.{made_context}
use Rattle.gt_model.specs.declared.context.Context.{Context}

-- ---- a step at a channel makes an entry or parks; one at a timer waits

-- an entry is made, or none
pub plain-is : (P : Step → Type 0) → ((e : Entry) → P (Step.Makes e)) → ((kind : CaseKind) → P (Step.Parks kind)) → (kind : CaseKind) (o : Option Entry) → P (plain_step kind o)
plain-is P makes parks kind (Some e) = makes e
plain-is P makes parks kind None = parks kind

pub recv-is : (P : Step → Type 0) → ((e : Entry) → P (Step.Makes e)) → ((kind : CaseKind) → P (Step.Parks kind)) → ((t : ℕ) → P (Step.Waits t))
    → (script : Script) (s : State) (m : Schedule) (g o : ℕ) → P (step_of_instr script s m g (Instr.Recv o))
recv-is P makes parks waits script s m g o = by (is_chan script o || is_ctx script o)
  where
    by : (b : Bool) → P (cond b (plain_step (CaseKind.Recv o) (goes_by script s m (plainly g) (CaseKind.Recv o))) (Step.Waits o))
    by true = plain-is P makes parks (CaseKind.Recv o) (goes_by script s m (plainly g) (CaseKind.Recv o))
    by false = waits o

pub send-is : (P : Step → Type 0) → ((e : Entry) → P (Step.Makes e)) → ((kind : CaseKind) → P (Step.Parks kind))
    → (script : Script) (s : State) (m : Schedule) (g c v : ℕ) → P (step_of_instr script s m g (Instr.Send c v))
send-is P makes parks script s m g c v = plain-is P makes parks (CaseKind.Send c v) (goes_by script s m (plainly g) (CaseKind.Send c v))

-- a context is made, or needs its record
pub made-is : (P : Step → Type 0) → ((e : Entry) → P (Step.Makes e)) → ((x due : ℕ) → P (Step.Needs (TimerOp.Deadline x due))) → (g x : ℕ) (r : Context) → P (makes_context g x r)
made-is P makes needs g x r = by (live_deadline r)
  where
    by : (o : Option ℕ) → P (elim o as (λ o. Step) [ None ↦ Step.Makes (Entry.CtxMake g x (is_some r.end)) | Some due ↦ Step.Needs (TimerOp.Deadline x due) ])
    by None = makes (Entry.CtxMake g x (is_some r.end))
    by (Some due) = needs x due

pub with-is : (P : Step → Type 0) → ((e : Entry) → P (Step.Makes e)) → ((x due : ℕ) → P (Step.Needs (TimerOp.Deadline x due)))
    → (script : Script) (s : State) (m : Schedule) (g x : ℕ) → P (step_of_instr script s m g (Instr.With x))
with-is P makes needs script s m g x = made-is P makes needs g x (made_context script s (world_of s g) x)

-- a context is canceled, or has ended before
pub cancel-is : (P : Step → Type 0) → ((e : Entry) → P (Step.Makes e)) → ((x : ℕ) → P (Step.Cancels x))
    → (script : Script) (s : State) (m : Schedule) (g x : ℕ) (cause : Option ℕ) → P (step_of_instr script s m g (Instr.Cancel x cause))
cancel-is P makes ends script s m g x cause = by (has_ended s x)
  where
    by : (b : Bool) → P (cancels g x b)
    by true = makes (Entry.Cancel g x false 0)
    by false = ends x

-- a choice makes an entry, polls a timer, or waits
pub choice-is : (P : Step → Type 0) → ((e : Entry) → P (Step.Makes e)) → ((t : ℕ) → P (Step.Needs (TimerOp.Poll t))) → ((timed : Bool) → P (Step.Chooses timed))
    → (script : Script) (s : State) (m : Schedule) (g : ℕ) (cases : List Case) (default_to : Option ℕ) → P (step_of_instr script s m g (Instr.Select cases default_to))
choice-is P makes polls waits script s m g cases default_to = first 1 cases
  where
    MaybeP : Option Step → Type 0
    MaybeP o = P (elim o as (λ o. Step) [ None ↦ no_case script g cases default_to | Some step ↦ step ])

    none : (to : Option ℕ) → P (no_case script g cases to)
    none (Some to) = makes _
    none None = waits _

    one : (e : Option Entry) (polling : Bool) (come : Option ℕ) (next : Option Step) → MaybeP next
        → MaybeP (elim (case_step e polling come) as (λ o. Option Step) [ None ↦ next | Some step ↦ Some step ])
    one (Some e) polling come next h = makes e
    one None true (Some t) next h = polls t
    one None true None next h = h
    one None false come next h = h

    first : (n : ℕ) (left : List Case) → MaybeP (first_step script s m g (is_some default_to) n left)
    first n [] = none default_to
    first n (c ∷ left) =
        one (goes_by script s m (at_case g n) c.kind) (is_some default_to) (come_timer script s (clock_of s g) c.kind)
        (first_step script s m g (is_some default_to) (n + 1) left) (first (n + 1) left)

-- ---- who is awake

mode-awake : (mode : Mode) → mode ≡ Mode.At → until_of mode ≡ None
mode-awake Mode.At e = refl
mode-awake (Mode.Sleeping until) e = cc
mode-awake (Mode.Suspended k) e = cc
mode-awake (Mode.Relocking k) e = cc
mode-awake Mode.Ended e = cc

-- who stands at an instruction does not sleep
pub stands-awake : (script : Script) (s : State) (g : ℕ) (i : Instr) → stands_at script s g ≡ Some i → sleeps_until s g ≡ None
stands-awake script s g i e =
    let st : Standing script s g i = standing script s g i e in
    ap (λ (o : Option Goroutine). elim (option_map (λ (r : Goroutine). r.mode) o) as (λ o. Option ℕ) [ None ↦ None | Some mode ↦ until_of mode ]) st.there ∙ mode-awake st.who.mode st.at

-- and so does who operates
pub operates-awake : (script : Script) (s : State) (p : Party) (kind : CaseKind) → Operates script s p kind → sleeps_until s p.g ≡ None
operates-awake script s p kind on =
    let at : AtOperation script s p kind = at_operation script s p kind on.stands in
    stands-awake script s p.g at.instr at.stands

-- ---- a party that is parked at an operation

-- it stands at an operation that passes a test
record Stood (script : Script) (s : State) (p : Party) (test : CaseKind → Bool) : Type 0 where
  kind : CaseKind
  there : operation_at script s p ≡ Some kind
  passes : test kind ≡ true

at-stood : (script : Script) (s : State) (p : Party) (test : CaseKind → Bool) → is_at script s p test ≡ true → Stood script s p test
at-stood script s p test h =
    elim (operation_at script s p) as (λ o. operation_at script s p ≡ o → (elim o as (λ o. Bool) [ None ↦ false | Some kind ↦ test kind ]) ≡ true → Stood script s p test) [
      | None ↦ λ e k. cc
      | Some kind ↦ λ e k. record { kind = kind; there = e; passes = k }
    ] refl h

sends-kind : (kind : CaseKind) (c : ℕ) → sends_to c kind ≡ true → kind ≡ CaseKind.Send c (value_of (Some kind))
sends-kind (CaseKind.Recv p) c h = cc
sends-kind (CaseKind.Send d v) c h = ap (λ d. CaseKind.Send d v) (eqb-true d c h)

-- who stands at a receive from an object
pub at-receives : (script : Script) (s : State) (p : Party) (o : ℕ) → is_at script s p (receives_from o) ≡ true → operation_at script s p ≡ Some (CaseKind.Recv o)
at-receives script s p o h =
    let at : Stood script s p (receives_from o) = at-stood script s p (receives_from o) h in
    at.there ∙ ap Some (receives-kind at.kind o at.passes)

-- who stands at a send to a channel sends its value
pub at-sends : (script : Script) (s : State) (p : Party) (c : ℕ) → is_at script s p (sends_to c) ≡ true → operation_at script s p ≡ Some (CaseKind.Send c (value_of (operation_at script s p)))
at-sends script s p c h =
    let at : Stood script s p (sends_to c) = at-stood script s p (sends_to c) h in
    let is : at.kind ≡ CaseKind.Send c (value_of (Some at.kind)) = sends-kind at.kind c at.passes in
    at.there ∙ ap Some (is ∙ ap (λ o. CaseKind.Send c (value_of o)) (sym at.there))

-- In a calm book who is parked makes no misuse, and is not ready
pub record Parked (script : Script) (s : State) (m : Schedule) (g : ℕ) (i : Instr) : Type 0 where
  pub faultless : fault script s i ≡ None
  pub unready : is_ready_instr script s no_timer (is_waiting m) g i ≡ false

pub parked-unready : (script : Script) (s : State) (m : Schedule) (g : ℕ) (i : Instr) → IsCalm script s m → is_waiting m g ≡ true → stands_at script s g ≡ Some i → Parked script s m g i
parked-unready script s m g i calm waits e =
    let st : Standing script s g i = standing script s g i e in
    let firm : is_firm_at script s m g ≡ is_ready_at script s no_timer (is_waiting m) g (Some i) =
    ap (λ (o : Option Goroutine). elim o as (λ o. Bool) [ None ↦ false | Some r ↦ is_firm script s (is_waiting m) g r ]) st.there
    ∙ (ap (is_firm_in script s (is_waiting m) g st.who) st.at ∙ ap (is_ready_at script s no_timer (is_waiting m) g) st.on) in
    let here : is_ready_at script s no_timer (is_waiting m) g (Some i) ≡ false = sym firm ∙ calm g waits in
    let parts = or-false (is_some (fault script s i)) (is_ready_instr script s no_timer (is_waiting m) g i) here in
    record { faultless = no-reason (fault script s i) parts.0; unready = parts.1 }

pub parked-faultless : (script : Script) (s : State) (m : Schedule) (g : ℕ) (i : Instr) → IsCalm script s m → is_waiting m g ≡ true → stands_at script s g ≡ Some i → fault script s i ≡ None
parked-faultless script s m g i calm waits e = (parked-unready script s m g i calm waits e).faultless

pub parked-operates : (script : Script) (s : State) (m : Schedule) (p : Party) (kind : CaseKind) → IsCalm script s m → is_waiting m p.g ≡ true → operation_at script s p ≡ Some kind → Operates script s p kind
parked-operates script s m p kind calm waits e =
    let at : AtOperation script s p kind = at_operation script s p kind e in
    record { stands = e; calm = calm-standing script s p.g at.instr at.stands (parked-faultless script s m p.g at.instr calm waits at.stands) }

-- ---- the partner that a step meets

-- the one that waits longest, at a channel that keeps no values
record First (script : Script) (lists : List (List Party)) (c : ℕ) (q : Party) : Type 0 where
  none_kept : capacity_of script c ≡ 0
  first : slice_get (parties_at lists c) 0 ≡ Some q

partner-first : (script : Script) (lists : List (List Party)) (c : ℕ) (q : Party) → partner_in script lists c ≡ Some q → First script lists c q
partner-first script lists c q e =
    elim (capacity_of script c == 0) as (λ b. (capacity_of script c == 0) ≡ b → cond b (slice_get (parties_at lists c) 0) None ≡ Some q → First script lists c q) [
      | true ↦ λ is h. record { none_kept = eqb-true (capacity_of script c) 0 is; first = h }
      | false ↦ λ is h. cc
    ] refl e

-- a party that is parked at an operation, at a channel that keeps no values
pub record Met (script : Script) (s : State) (m : Schedule) (q : Party) (c : ℕ) (kind : CaseKind) : Type 0 where
  pub waits : is_waiting m q.g ≡ true
  pub operates : Operates script s q kind
  pub none_kept : capacity_of script c ≡ 0
  pub settled : is_polling script s q.g ≡ false

-- a party that is parked stands at no choice with a default
parked-polling : (script : Script) (s : State) (m : Schedule) (p : Party) (kind : CaseKind) → IsCalm script s m → is_waiting m p.g ≡ true → operation_at script s p ≡ Some kind
    → is_polling script s p.g ≡ false
parked-polling script s m p kind calm waits e =
    let at : AtOperation script s p kind = at_operation script s p kind e in
    let there : Parked script s m p.g at.instr = parked-unready script s m p.g at.instr calm waits at.stands in
    ap (λ (o : Option Instr). elim o as (λ o. Bool) [ None ↦ false | Some i ↦ polls i ]) at.stands ∙ unready-waits script s no_timer (is_waiting m) p.g at.instr there.unready

pub sender-met : (script : Script) (s : State) (m : Schedule) (q : Party) (c : ℕ) → IsGood script → IsFormed script s → Fits script s m → IsCalm script s m → IsTrue (is_chan script c) → partner_in script m.senders c ≡ Some q
    → Met script s m q c (CaseKind.Send c (value_of (operation_at script s q)))
sender-met script s m q c good formed fits calm chan e =
    let one : First script m.senders c q = partner-first script m.senders c q e in
    let both = and_parts (is_waiting m q.g) (wants script s q (sends_to c)) (first-sending script s m q c fits (chan_declared script c chan) one.first) in
    let sends = at-sends script s q c (wants-sends script s q c good formed chan both.1) in
    record { waits = both.0; operates = parked-operates script s m q _ calm both.0 sends; none_kept = one.none_kept; settled = parked-polling script s m q _ calm both.0 sends }

-- a channel gives values
chan-gives : (script : Script) (c : ℕ) → IsTrue (is_chan script c) → IsTrue (gives_values script c)
chan-gives script c chan = either (is_timer script c) (is_chan script c) (is_endable script c) chan
  where
    either : (a b d : Bool) → b ≡ true → (a || b || d) ≡ true
    either true b d h = refl
    either false true d h = refl
    either false false d h = cc

pub receiver-met : (script : Script) (s : State) (m : Schedule) (q : Party) (c : ℕ) → IsGood script → IsFormed script s → Fits script s m → IsCalm script s m → IsTrue (is_chan script c)
    → partner_in script m.receivers c ≡ Some q → Met script s m q c (CaseKind.Recv c)
receiver-met script s m q c good formed fits calm chan e =
    let one : First script m.receivers c q = partner-first script m.receivers c q e in
    let both = and_parts (is_waiting m q.g) (wants script s q (receives_from c)) (first-waiting script s m q c fits (chan_declared script c chan) one.first) in
    let receives = at-receives script s q c (wants-receives script s q c good formed (chan-gives script c chan) both.1) in
    record {
      waits = both.0;
      operates = parked-operates script s m q (CaseKind.Recv c) calm both.0 receives;
      none_kept = one.none_kept;
      settled = parked-polling script s m q (CaseKind.Recv c) calm both.0 receives;
    }

-- who is parked is not in hand
pub parked-other : (m : Schedule) (h g : ℕ) → is_waiting m h ≡ true → status_of m g ≡ Some RunStatus.InHand → h ≢ g
parked-other m h g waits in_hand is =
    let here : is_waiting m h ≡ is_parked (Some RunStatus.InHand) = ap (is_waiting m) is ∙ ap is_parked in_hand in
    cc

-- ---- who is signalled at a Cond

suspends-parked : (k : ℕ) (mode : Mode) (x : RunStatus) → mode ≡ Mode.Suspended k → Agrees mode x → is_parked (Some x) ≡ true
suspends-parked k (Mode.Suspended j) (RunStatus.Parked since) e h = refl
suspends-parked k (Mode.Suspended j) RunStatus.Queued e h = absurd h
suspends-parked k (Mode.Suspended j) RunStatus.InHand e h = absurd h
suspends-parked k (Mode.Suspended j) RunStatus.Ended e h = absurd h
suspends-parked k _ x e h = cc

-- who is suspended is parked
pub suspended-parked : (script : Script) (s : State) (m : Schedule) (g k : ℕ) → Fits script s m → mode_of s g ≡ Some (Mode.Suspended k) → is_waiting m g ≡ true
suspended-parked script s m g k fits h =
    let a : InMode s g (Mode.Suspended k) = in-mode s g (Mode.Suspended k) h in
    let x : HasNumber m.statuses g = has_status script s m g a.who fits a.there in
    ap is_parked x.there ∙ suspends-parked k a.who.mode x.item a.its (fits.agree g a.who x.item a.there x.there)

-- the one that has waited longest at a Cond is suspended there, and nobody is where nobody stands there
pub signals-rightly : (script : Script) (s : State) (m : Schedule) (k : ℕ) → IsGood script → IsFormed script s → Fits script s m → IsTrue (is_cond script k)
    → Signals s k (option_map (λ (p : Party). p.g) (slice_get (parties_at m.receivers k) 0))
signals-rightly script s m k good formed fits cond = by (parties_at m.receivers k) refl
  where
    none : parties_at m.receivers k ≡ [] → (n : ℕ) → suspended_count s k ≡ n → suspended_count s k ≡ 0
    none empty zero e = e
    none empty (suc n) e =
        let one : Waiter s k = waiter s k n e in
        let there : wants script s (plainly one.number) (receives_from k) ≡ true =
        wanted-passes script s (plainly one.number) (receives_from k) (CaseKind.Recv k) (suspended-wanted script s one.number k one.waits) (eq-eqb k k refl) in
        absurd (never-both (is_parked_at script s m (plainly one.number) (receives_from k))
        (and_from (is_waiting m one.number) (wants script s (plainly one.number) (receives_from k)) (suspended-parked script s m one.number k fits one.waits) there)
        (none-waiting script s m k fits (cond_declared script k cond) empty (plainly one.number)))

    by : (parties : List Party) → parties_at m.receivers k ≡ parties → Signals s k (option_map (λ (p : Party). p.g) (slice_get parties 0))
    by [] e = none e (suspended_count s k) refl
    by (p ∷ parties) e =
        let parked = first-waiting script s m p k fits (cond_declared script k cond) (ap (λ (ps : List Party). slice_get ps 0) e) in
        let both = and_parts (is_waiting m p.g) (wants script s p (receives_from k)) parked in
        wants-suspended script s p k good formed cond both.1

-- a channel that was made and is not closed is open
pub open-is : (s : State) (c : ℕ) → IsOpenChannel s c → IsTrue (is_open s c)
open-is s c is = by (channel_at s c) is.made is.unshut
  where
    by : (o : Option Channel) → is_some o ≡ true → (elim o as (λ o. Bool) [ None ↦ false | Some r ↦ r.closed ]) ≡ false
        → (elim o as (λ o. Bool) [ None ↦ false | Some r ↦ not r.closed ]) ≡ true
    by None h k = cc
    by (Some r) h k = ap not k

-- a parked sender's channel is open: else its send would be a misuse, and go on
pub met-open : (script : Script) (s : State) (m : Schedule) (q : Party) (c v : ℕ) → IsCalm script s m → Met script s m q c (CaseKind.Send c v) → IsTrue (is_open s c)
met-open script s m q c v calm met =
    let at : AtOperation script s q (CaseKind.Send c v) = at_operation script s q (CaseKind.Send c v) met.operates.stands in
    let there : Parked script s m q.g at.instr = parked-unready script s m q.g at.instr calm met.waits at.stands in
    let unready : is_ready_case script s no_timer (is_waiting m) q.g (CaseKind.Send c v) ≡ false =
    unready-operation script s no_timer (is_waiting m) q.g at.instr q.case_no (CaseKind.Send c v) at.has there.unready in
    let alone = or-false (is_closed s c || nat_lt (item_count s c) (capacity_of script c)) _ unready in
    open-is s c (record {
      made = sends-made script s at.instr q.case_no c v there.faultless at.has;
      unshut = (or-false (is_closed s c) (nat_lt (item_count s c) (capacity_of script c)) alone.0).0;
    })

-- ---- where a step meets nobody

-- nobody stands in the list of a channel that keeps no values
none-listed : (script : Script) (lists : List (List Party)) (c : ℕ) → partner_in script lists c ≡ None → (capacity_of script c == 0) ≡ true → parties_at lists c ≡ []
none-listed script lists c e zero_kept = empty (parties_at lists c) (sym (ap (λ b. cond b (slice_get (parties_at lists c) 0) None) zero_kept) ∙ e)
  where
    empty : (ps : List Party) → slice_get ps 0 ≡ None → ps ≡ []
    empty [] h = refl
    empty (p ∷ ps) h = cc

-- what an instruction offers, it does as one of its parties
record AtOffer (script : Script) (s : State) (g : ℕ) (test : CaseKind → Bool) : Type 0 where
  case_no : ℕ
  is : wants script s (at_case g case_no) test ≡ true

offers-at : (script : Script) (s : State) (g : ℕ) (i : Instr) (test : CaseKind → Bool) → stands_at script s g ≡ Some i → offers test i ≡ true → AtOffer script s g test
offers-at script s g i test e h =
    let one : Offered i test = offered i test h in
    let there : operation_at script s (at_case g one.case_no) ≡ Some one.kind =
    ap (λ (o : Option Instr). elim o as (λ o. Option CaseKind) [ None ↦ None | Some i ↦ operation i one.case_no ]) e ∙ one.has in
    record {
      case_no = one.case_no;
      is = wanted-passes script s (at_case g one.case_no) test one.kind (operates-wanted script s (at_case g one.case_no) one.kind there) one.passes;
    }

-- where nobody is parked at an operation, nobody parked is a partner there
none-waits : (script : Script) (s : State) (m : Schedule) (g : ℕ) (test : CaseKind → Bool) → ((p : Party) → is_parked_at script s m p test ≡ false)
    → partner_waits script s (is_waiting m) g test ≡ true → ⊥
none-waits script s m g test none h =
    let p : Partner script s (is_waiting m) g test = partner script s (is_waiting m) g test h in
    let at : AtOffer script s p.number test = offers-at script s p.number p.instr test p.does.stands p.passes in
    never-both (is_parked_at script s m (at_case p.number at.case_no) test)
    (and_from (is_waiting m p.number) (wants script s (at_case p.number at.case_no) test) p.counted at.is) (none (at_case p.number at.case_no))

pub recv-alone : (script : Script) (s : State) (m : Schedule) (g c : ℕ) → Fits script s m → c < length script.decls → partner_in script m.senders c ≡ None
    → has_partner script s (is_waiting m) g (CaseKind.Recv c) ≡ false
recv-alone script s m g c fits declared none =
    unless-true (has_partner script s (is_waiting m) g (CaseKind.Recv c)) (λ h.
    let parts = and_parts (is_chan script c && capacity_of script c == 0) (partner_waits script s (is_waiting m) g (sends_to c)) h in
    let kept = and_parts (is_chan script c) (capacity_of script c == 0) parts.0 in
    none-waits script s m g (sends_to c) (none-sending script s m c fits declared (none-listed script m.senders c none kept.1)) parts.1)

pub send-alone : (script : Script) (s : State) (m : Schedule) (g c v : ℕ) → Fits script s m → c < length script.decls → partner_in script m.receivers c ≡ None
    → has_partner script s (is_waiting m) g (CaseKind.Send c v) ≡ false
send-alone script s m g c v fits declared none =
    unless-true (has_partner script s (is_waiting m) g (CaseKind.Send c v)) (λ h.
    let parts = and_parts (capacity_of script c == 0) (partner_waits script s (is_waiting m) g (receives_from c)) h in
    none-waits script s m g (receives_from c) (none-waiting script s m c fits declared (none-listed script m.receivers c none parts.0)) parts.1)

-- what is no channel has no partner
pub timer-alone : (script : Script) (s : State) (m : Schedule) (g t : ℕ) → is_chan script t ≡ false → has_partner script s (is_waiting m) g (CaseKind.Recv t) ≡ false
timer-alone script s m g t none = ap (λ b. b && capacity_of script t == 0 && partner_waits script s (is_waiting m) g (sends_to t)) none

-- a timer is ready for a receive by its time alone
pub timer-unready : (s : State) (t : ℕ) (what : Option What) → names_timer what ≡ true → is_ready_recv s no_timer t what ≡ false
timer-unready s t None timer = refl
timer-unready s t (Some What.Timer) timer = refl
timer-unready s t (Some What.Ticker) timer = refl
timer-unready s t (Some _) timer = cc
