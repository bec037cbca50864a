-- A goroutine in hand that waits joins those that wait at its operation, or at each case of its choice.
use Rattle.std.proofs.Common.{◌≡◌, ◌≢◌, ℕ, zero, suc, cond, option_map, ◌+◌, ◌<◌, List, [], ◌∷◌, length, refl, sym, ap, subst, ◌∙◌, arith, slice_get, Option, None, Some, Bool, true, false, ◌&&◌, ◌||◌, eqb, inl, inr}
use Rattle.std.proofs.lemmas.Bool.{cases_eq, eq-eqb, ne_eqb}
use Rattle.gt_model.specs.declared.script.Script.{Script}
use Rattle.gt_model.specs.declared.script.Instr.{Instr}
use Rattle.gt_model.specs.declared.script.CaseKind.{CaseKind}
use Rattle.gt_model.specs.declared.script.Case.{Case}
use Rattle.gt_model.specs.declared.entry.Party.{Party}
use Rattle.gt_model.specs.declared.state.Goroutine.{Goroutine}
use Rattle.gt_model.specs.declared.state.Mode.{Mode}
use Rattle.gt_model.specs.Tables.{numbered, change_numbered}
use Rattle.gt_model.proofs.Changes.{length-change_numbered}
use Rattle.gt_model.proofs.Items.{numbered-change_same, numbered-change_other}
use Rattle.gt_model.specs.Good.{NamesRightly}
use Rattle.gt_model.specs.Script.{names_timer, names_chan, names_mutex, names_wg, can_end, named_form}
use Rattle.gt_model.proofs.Declared.{declared_within, chan_declared}
use Rattle.gt_rules.specs.State.{State, goroutine_at, stands, stands_at}
use Rattle.gt_rules.specs.Operations.{operation, receives_from, sends_to}
use Rattle.gt_facts.proofs.Lookups.{Standing, standing, NamesObject, names-operation}
use Rattle.gt_schedule.specs.declared.status.RunStatus.{RunStatus}
use Rattle.gt_schedule.specs.Counts.{as_number, times, is_party, often}
use Rattle.gt_schedule.specs.Schedule.{Schedule, plainly, status_of, parties_at, joins, parked, parked_at, waiting_at, waiting_at_cases, parked_cases, object_of}
use Rattle.gt_schedule.proofs.Lists.{often-push, parties-joins_same, length-joins, often-joins, often-joins_elsewhere, often-joins_other}
use Rattle.gt_book.specs.View.{Agrees, wanted, Fits}
use Rattle.gt_model.specs.Script.{instr_at}
use Rattle.std.specs.Option.{option_and_then}
use Rattle.gt_book.proofs.Changing.{party, wants_of, Known, known, fits-changes, one-is, one-of}

-- ---- a goroutine in hand waits at an operation

at-agrees : (mode : Mode) (since : ℕ) → mode ≡ Mode.At → Agrees mode (RunStatus.Parked since)
at-agrees mode since e = subst (λ (mode : Mode). Agrees mode (RunStatus.Parked since)) (sym e) tt

-- a plain instruction has one operation
one-operation : (i : Instr) (n : ℕ) (kind : CaseKind) → operation i 0 ≡ Some kind → operation i (suc n) ≡ None
one-operation (Instr.Recv o) n kind has = refl
one-operation (Instr.Send c v) n kind has = refl
one-operation (Instr.Select cases default_to) n kind has = cc
one-operation i n kind has = refl

-- who stands at an instruction waits for its operations
mode-stands : (mode : Mode) (o : Option Instr) (i : Instr) → (elim mode [ Mode.At ↦ o | _ ↦ None ]) ≡ Some i → mode ≡ Mode.At
mode-stands Mode.At o i e = refl
mode-stands _ o i e = cc

pub wanted-at : (script : Script) (r : Goroutine) (n : ℕ) → r.mode ≡ Mode.At
    → wanted script n r ≡ option_and_then (λ (i : Instr). operation i n) (instr_at script r.place)
wanted-at script r n at = ap (λ (mode : Mode). wanted script n (record r { mode = mode })) at

pub wanted-stands : (script : Script) (r : Goroutine) (i : Instr) (n : ℕ) → stands script r ≡ Some i → wanted script n r ≡ operation i n
wanted-stands script r i n e =
    let at : r.mode ≡ Mode.At = mode-stands r.mode (instr_at script r.place) i e in
    let on : instr_at script r.place ≡ Some i = sym (ap (λ (mode : Mode). stands script (record r { mode = mode })) at) ∙ e in
    wanted-at script r n at ∙ ap (option_and_then (λ (i : Instr). operation i n)) on

abbrev passes : (CaseKind → Bool) → Option CaseKind → Bool
passes test o = elim o [ None ↦ false | Some kind ↦ test kind ]

-- who waits for one thing alone, which is plain
abbrev pub WaitsFor : Script → Goroutine → CaseKind → Type 0
WaitsFor script r kind = (n : ℕ) (test : CaseKind → Bool) → wants_of script (Some r) n test ≡ (eqb 0 n && test kind)

-- who stands at an operation stands at that one, at its plain instruction
case-standing : (script : Script) (r : Goroutine) (i : Instr) (kind : CaseKind) → stands script r ≡ Some i → operation i 0 ≡ Some kind → WaitsFor script r kind
case-standing script r i kind e has n test =
    ap (passes test) (wanted-stands script r i n e) ∙ at_number n
  where
    at_number : (n : ℕ) → passes test (operation i n) ≡ (eqb 0 n && test kind)
    at_number zero = ap (passes test) has
    at_number (suc n) =
        ap (passes test) (one-operation i n kind has)
        ∙ ap (λ b. b && test kind) (sym (ne_eqb 0 (suc n) (λ e. absurd (omega arith))))

both-true : (a b : Bool) → b ≡ true → (a && b) ≡ a
both-true true b e = e
both-true false b e = refl

both-false : (a b : Bool) → b ≡ false → (a && b) ≡ false
both-false true b e = e
both-false false b e = refl

and-turned : (a b : Bool) → (a && b) ≡ (b && a)
and-turned true true = refl
and-turned true false = refl
and-turned false true = refl
and-turned false false = refl

same-party : (g k n : ℕ) → is_party (party g k) (party g n) ≡ eqb k n
same-party g k n = rw (eq-eqb g g refl) refl

pub own-party : (g n : ℕ) → is_party (plainly g) (party g n) ≡ eqb 0 n
own-party g n = rw (eq-eqb g g refl) refl

-- a goroutine that is to wait at an operation
pub record Waiter (script : Script) (s : State) (m : Schedule) (g : ℕ) (kind : CaseKind) : Type 0 where
  pub instr : Instr
  pub stands : stands_at script s g ≡ Some instr
  pub has : operation instr 0 ≡ Some kind
  pub in_hand : status_of m g ≡ Some RunStatus.InHand
  pub declared : object_of kind < length script.decls

module _ (script : Script) (lists : List (List Party)) (r : Goroutine) (g : ℕ) (kind : CaseKind) (test : ℕ → CaseKind → Bool) (one : WaitsFor script r kind) where
  -- it joins the list of its operation
  pub joined-waits : (t u n : ℕ) → ((u : ℕ) → test u kind ≡ eqb t u) → t < length lists → often (party g n) (parties_at lists u) ≡ 0
      → often (party g n) (parties_at (joins lists t (plainly g)) u) ≡ as_number (wants_of script (Some r) n (test u))
  joined-waits t u n of_t within none =
      elim (cases_eq u t) [
        | inl e ↦
            let here : often (party g n) (parties_at lists t) ≡ 0 = subst (λ u. often (party g n) (parties_at lists u) ≡ 0) e none in
            let first : often (party g n) (parties_at (joins lists t (plainly g)) t) ≡ 0 + as_number (eqb 0 n) =
            ap (often (party g n)) (parties-joins_same lists t (plainly g) within)
            ∙ (often-push (party g n) (plainly g) (parties_at lists t) ∙ (ap (λ k. k + as_number (is_party (plainly g) (party g n))) here ∙ ap (λ b. 0 + as_number b) (own-party g n))) in
            let waits : wants_of script (Some r) n (test t) ≡ eqb 0 n =
            one n (test t) ∙ both-true (eqb 0 n) (test t kind) (of_t t ∙ eq-eqb t t refl) in
            let same : as_number (wants_of script (Some r) n (test t)) ≡ as_number (eqb 0 n) = ap as_number waits in
            subst (λ u. often (party g n) (parties_at (joins lists t (plainly g)) u) ≡ as_number (wants_of script (Some r) n (test u))) (sym e) (omega arith)
        | inr k ↦
            often-joins_elsewhere lists t u (party g n) (plainly g) k
            ∙ (none ∙ sym (ap as_number (one n (test u) ∙ both-false (eqb 0 n) (test u kind) (of_t u ∙ ne_eqb t u (λ e. k (sym e))))))
      ]

  -- it stands in no list of another kind
  pub apart-waits : (u n : ℕ) → test u kind ≡ false → often (party g n) (parties_at lists u) ≡ 0 → often (party g n) (parties_at lists u) ≡ as_number (wants_of script (Some r) n (test u))
  apart-waits u n other none = none ∙ sym (ap as_number (one n (test u) ∙ both-false (eqb 0 n) (test u kind) other))

module _ (script : Script) (s : State) (m : Schedule) (g : ℕ) (fits : Fits script s m) where
  fits-parked_by : (kind : CaseKind) → Waiter script s m g kind → Fits script s (parked_at m (plainly g) kind)
  fits-parked_by kind w =
      let k : Known script s m g RunStatus.InHand = known script s m g RunStatus.InHand fits w.in_hand in
      let st : Standing script s g w.instr = standing script s g w.instr w.stands in
      let there : goroutine_at s g ≡ Some k.who = k.there in
      let there_too : goroutine_at s g ≡ Some st.who = st.there in
      let same : st.who ≡ k.who = cc in
      let stands_there : k.who.mode ≡ Mode.At = subst (λ (r : Goroutine). r.mode ≡ Mode.At) same st.at in
      let stands_so : stands script k.who ≡ Some w.instr =
      ap (λ (o : Option Goroutine). elim o as (λ x. Option Instr) [ None ↦ None | Some r ↦ stands script r ]) (sym there) ∙ w.stands in
      with_kind kind k stands_there stands_so w.has w.in_hand w.declared
    where
      x : RunStatus
      x = RunStatus.Parked m.parks

      with_kind : (kind : CaseKind) (k : Known script s m g RunStatus.InHand) → k.who.mode ≡ Mode.At → stands script k.who ≡ Some w.instr → operation w.instr 0 ≡ Some kind
          → status_of m g ≡ Some RunStatus.InHand → object_of kind < length script.decls → Fits script s (parked_at m (plainly g) kind)
      with_kind (CaseKind.Recv t) k at on has in_hand declared =
          let within : t < length m.receivers = subst (λ n. t < n) (sym fits.receivers) declared in
          let n : Schedule = parked_at m (plainly g) (CaseKind.Recv t) in
          let waits : WaitsFor script k.who (CaseKind.Recv t) = case-standing script k.who w.instr (CaseKind.Recv t) on has in
          fits-changes script s s m n g fits
          (length-change_numbered m.statuses g (λ _. x) ∙ fits.as_many)
          refl
          (length-joins m.receivers t (plainly g))
          refl
          (λ y other. refl)
          (λ y other. numbered-change_other m.statuses g y (λ _. x) other)
          (λ y other. refl)
          (λ u p other. often-joins_other m.receivers t u p (plainly g) other)
          (λ u p other. refl)
          (one-is script n g (goroutine_at s g) (Some k.who) (status_of n g) (Some x) k.there
          (numbered-change_same m.statuses g (λ _. x) RunStatus.InHand in_hand)
          (one-of script n g k.who x (at-agrees k.who.mode m.parks at) k.one.queued
          (λ u c h. joined-waits script m.receivers k.who g (CaseKind.Recv t) receives_from waits t u c (λ u. refl) within (k.one.waiting u c h))
          (λ u c h. apart-waits script m.senders k.who g (CaseKind.Recv t) sends_to waits u c refl (k.one.sending u c h))))
      with_kind (CaseKind.Send t v) k at on has in_hand declared =
          let within : t < length m.senders = subst (λ n. t < n) (sym fits.senders) declared in
          let n : Schedule = parked_at m (plainly g) (CaseKind.Send t v) in
          let waits : WaitsFor script k.who (CaseKind.Send t v) = case-standing script k.who w.instr (CaseKind.Send t v) on has in
          fits-changes script s s m n g fits
          (length-change_numbered m.statuses g (λ _. x) ∙ fits.as_many)
          refl
          refl
          (length-joins m.senders t (plainly g))
          (λ y other. refl)
          (λ y other. numbered-change_other m.statuses g y (λ _. x) other)
          (λ y other. refl)
          (λ u p other. refl)
          (λ u p other. often-joins_other m.senders t u p (plainly g) other)
          (one-is script n g (goroutine_at s g) (Some k.who) (status_of n g) (Some x) k.there
          (numbered-change_same m.statuses g (λ _. x) RunStatus.InHand in_hand)
          (one-of script n g k.who x (at-agrees k.who.mode m.parks at) k.one.queued
          (λ u c h. apart-waits script m.receivers k.who g (CaseKind.Send t v) receives_from waits u c refl (k.one.waiting u c h))
          (λ u c h. joined-waits script m.senders k.who g (CaseKind.Send t v) sends_to waits t u c (λ u. refl) within (k.one.sending u c h))))

pub fits-parked_at : (script : Script) (s : State) (m : Schedule) (g : ℕ) (kind : CaseKind) → Fits script s m → Waiter script s m g kind
    → Fits script s (parked_at m (plainly g) kind)
fits-parked_at script s m g kind fits w = fits-parked_by script s m g fits kind w

-- ---- a goroutine in hand waits at all cases of its choice

-- whether the case with a number is there and passes a test, where the first one has the number k
abbrev case_in : (CaseKind → Bool) → ℕ → List Case → ℕ → Bool
case_in test k [] n = false
case_in test k (c ∷ cases) n = cond (eqb k n) (test c.kind) (case_in test (k + 1) cases n)

case-below : (test : CaseKind → Bool) (k : ℕ) (cases : List Case) (n : ℕ) → n < k → case_in test k cases n ≡ false
case-below test k [] n below = refl
case-below test k (c ∷ cases) n below =
    ap (λ b. cond b (test c.kind) (case_in test (k + 1) cases n)) (ne_eqb k n (λ e. absurd (omega arith))) ∙ case-below test (k + 1) cases n (omega arith)

case-there : (test : CaseKind → Bool) (k : ℕ) (cases : List Case) (j : ℕ)
    → case_in test k cases (k + j) ≡ (elim (option_map (λ (c : Case). c.kind) (slice_get cases j)) as (λ x. Bool) [ None ↦ false | Some kind ↦ test kind ])
case-there test k [] j = refl
case-there test k (c ∷ cases) zero =
    let here : k ≡ k + 0 = omega arith in
    ap (λ b. cond b (test c.kind) (case_in test (k + 1) cases (k + 0))) (eq-eqb k (k + 0) here)
case-there test k (c ∷ cases) (suc j) =
    let next : k + suc j ≡ (k + 1) + j = omega arith in
    ap (λ b. cond b (test c.kind) (case_in test (k + 1) cases (k + suc j))) (ne_eqb k (k + suc j) (λ e. absurd (omega arith)))
    ∙ (ap (case_in test (k + 1) cases) next ∙ case-there test (k + 1) cases j)

-- it stands at its cases alone
cases-standing : (script : Script) (r : Goroutine) (cases : List Case) (default_to : Option ℕ) (n : ℕ) (test : CaseKind → Bool)
    → stands script r ≡ Some (Instr.Select cases default_to)
    → wants_of script (Some r) n test ≡ case_in test 1 cases n
cases-standing script r cases default_to n test e =
    ap (passes test) (wanted-stands script r (Instr.Select cases default_to) n e) ∙ at_number n
  where
    at_number : (n : ℕ) → passes test (operation (Instr.Select cases default_to) n) ≡ case_in test 1 cases n
    at_number zero = sym (case-below test 1 cases 0 (omega arith))
    at_number (suc j) =
        let number : 1 + j ≡ suc j = omega arith in
        sym (ap (case_in test 1 cases) (sym number) ∙ case-there test 1 cases j)

-- one party joins at its case
step-receivers : (m : Schedule) (g k : ℕ) (kind : CaseKind) (t n : ℕ) → object_of kind < length m.receivers
    → often (party g n) (parties_at (waiting_at m (party g k) kind).receivers t) ≡ often (party g n) (parties_at m.receivers t) + as_number (eqb k n && receives_from t kind)
step-receivers m g k (CaseKind.Recv o) t n within =
    often-joins m.receivers o t (party g n) (party g k) within
    ∙ ap (λ b. often (party g n) (parties_at m.receivers t) + as_number b) (ap (λ b. eqb o t && b) (same-party g k n) ∙ and-turned (eqb o t) (eqb k n))
step-receivers m g k (CaseKind.Send c v) t n within =
    let none : as_number (eqb k n && false) ≡ 0 = ap as_number (both-false (eqb k n) false refl) in
    omega arith

step-senders : (m : Schedule) (g k : ℕ) (kind : CaseKind) (t n : ℕ) → object_of kind < length m.senders
    → often (party g n) (parties_at (waiting_at m (party g k) kind).senders t) ≡ often (party g n) (parties_at m.senders t) + as_number (eqb k n && sends_to t kind)
step-senders m g k (CaseKind.Send c v) t n within =
    often-joins m.senders c t (party g n) (party g k) within
    ∙ ap (λ b. often (party g n) (parties_at m.senders t) + as_number b) (ap (λ b. eqb c t && b) (same-party g k n) ∙ and-turned (eqb c t) (eqb k n))
step-senders m g k (CaseKind.Recv o) t n within =
    let none : as_number (eqb k n && false) ≡ 0 = ap as_number (both-false (eqb k n) false refl) in
    omega arith

-- that case, or a later one
case-or_later : (test : CaseKind → Bool) (k : ℕ) (c : Case) (cases : List Case) (n : ℕ)
    → as_number (eqb k n && test c.kind) + as_number (case_in test (k + 1) cases n) ≡ as_number (case_in test k (c ∷ cases) n)
case-or_later test k c cases n =
    elim (cases_eq k n) [
      | inl e ↦
          let here : as_number (eqb k n && test c.kind) ≡ as_number (test c.kind) = ap (λ b. as_number (b && test c.kind)) (eq-eqb k n e) in
          let all : as_number (case_in test k (c ∷ cases) n) ≡ as_number (test c.kind) =
          ap (λ b. as_number (cond b (test c.kind) (case_in test (k + 1) cases n))) (eq-eqb k n e) in
          let none : as_number (case_in test (k + 1) cases n) ≡ 0 = ap as_number (case-below test (k + 1) cases n (omega arith)) in
          omega arith
      | inr other ↦
          let here : as_number (eqb k n && test c.kind) ≡ 0 = ap (λ b. as_number (b && test c.kind)) (ne_eqb k n other) in
          let all : as_number (case_in test k (c ∷ cases) n) ≡ as_number (case_in test (k + 1) cases n) =
          ap (λ b. as_number (cond b (test c.kind) (case_in test (k + 1) cases n))) (ne_eqb k n other) in
          omega arith
    ]

length-waiting_receivers : (m : Schedule) (p : Party) (kind : CaseKind) → length (waiting_at m p kind).receivers ≡ length m.receivers
length-waiting_receivers m p (CaseKind.Recv o) = length-joins m.receivers o p
length-waiting_receivers m p (CaseKind.Send c v) = refl

length-waiting_senders : (m : Schedule) (p : Party) (kind : CaseKind) → length (waiting_at m p kind).senders ≡ length m.senders
length-waiting_senders m p (CaseKind.Recv o) = refl
length-waiting_senders m p (CaseKind.Send c v) = length-joins m.senders c p

statuses-waiting : (m : Schedule) (p : Party) (kind : CaseKind) → (waiting_at m p kind).statuses ≡ m.statuses
statuses-waiting m p (CaseKind.Recv o) = refl
statuses-waiting m p (CaseKind.Send c v) = refl

mutexes-waiting : (m : Schedule) (p : Party) (kind : CaseKind) → (waiting_at m p kind).mutexes ≡ m.mutexes
mutexes-waiting m p (CaseKind.Recv o) = refl
mutexes-waiting m p (CaseKind.Send c v) = refl

run_queue-waiting : (m : Schedule) (p : Party) (kind : CaseKind) → (waiting_at m p kind).run_queue ≡ m.run_queue
run_queue-waiting m p (CaseKind.Recv o) = refl
run_queue-waiting m p (CaseKind.Send c v) = refl

others-receivers : (m : Schedule) (p q : Party) (kind : CaseKind) (t : ℕ) → q.g ≢ p.g
    → often q (parties_at (waiting_at m p kind).receivers t) ≡ often q (parties_at m.receivers t)
others-receivers m p q (CaseKind.Recv o) t other = often-joins_other m.receivers o t q p other
others-receivers m p q (CaseKind.Send c v) t other = refl

others-senders : (m : Schedule) (p q : Party) (kind : CaseKind) (t : ℕ) → q.g ≢ p.g
    → often q (parties_at (waiting_at m p kind).senders t) ≡ often q (parties_at m.senders t)
others-senders m p q (CaseKind.Recv o) t other = refl
others-senders m p q (CaseKind.Send c v) t other = often-joins_other m.senders c t q p other

-- all of its parties do
pub cases-statuses : (m : Schedule) (g k : ℕ) (cases : List Case) → (waiting_at_cases m g k cases).statuses ≡ m.statuses
cases-statuses m g k [] = refl
cases-statuses m g k (c ∷ cases) = cases-statuses (waiting_at m (party g k) c.kind) g (k + 1) cases ∙ statuses-waiting m (party g k) c.kind

cases-mutexes : (m : Schedule) (g k : ℕ) (cases : List Case) → (waiting_at_cases m g k cases).mutexes ≡ m.mutexes
cases-mutexes m g k [] = refl
cases-mutexes m g k (c ∷ cases) = cases-mutexes (waiting_at m (party g k) c.kind) g (k + 1) cases ∙ mutexes-waiting m (party g k) c.kind

cases-run_queue : (m : Schedule) (g k : ℕ) (cases : List Case) → (waiting_at_cases m g k cases).run_queue ≡ m.run_queue
cases-run_queue m g k [] = refl
cases-run_queue m g k (c ∷ cases) = cases-run_queue (waiting_at m (party g k) c.kind) g (k + 1) cases ∙ run_queue-waiting m (party g k) c.kind

-- what joins at one side, and what stays there
record JoinsAt (before after : List (List Party)) (g k : ℕ) (cases : List Case) (test : ℕ → CaseKind → Bool) : Type 0 where
  long : length after ≡ length before
  own : (t n : ℕ) → often (party g n) (parties_at after t) ≡ often (party g n) (parties_at before t) + as_number (case_in (test t) k cases n)
  others : (t : ℕ) (p : Party) → p.g ≢ g → often p (parties_at after t) ≡ often p (parties_at before t)

-- each object has its lists
abbrev pub AreDeclared : ℕ → List Case → Type 0
AreDeclared many cases = (k : ℕ) (c : Case) → slice_get cases k ≡ Some c → object_of c.kind < many

joins-receivers : (m : Schedule) (g k : ℕ) (cases : List Case) → AreDeclared (length m.receivers) cases
    → JoinsAt m.receivers (waiting_at_cases m g k cases).receivers g k cases receives_from
joins-receivers m g k [] declared = record { long = refl; own = λ t n. omega arith; others = λ t p other. refl }
joins-receivers m g k (c ∷ cases) declared =
    let one : Schedule = waiting_at m (party g k) c.kind in
    let many : length one.receivers ≡ length m.receivers = length-waiting_receivers m (party g k) c.kind in
    let rest : JoinsAt one.receivers (waiting_at_cases one g (k + 1) cases).receivers g (k + 1) cases receives_from =
    joins-receivers one g (k + 1) cases (λ j d e. subst (λ n. object_of d.kind < n) (sym many) (declared (suc j) d e)) in
    record {
      long = rest.long ∙ many;
      own = λ t n.
          let later : often (party g n) (parties_at (waiting_at_cases one g (k + 1) cases).receivers t)
          ≡ often (party g n) (parties_at one.receivers t) + as_number (case_in (receives_from t) (k + 1) cases n) = rest.own t n in
          let first : often (party g n) (parties_at one.receivers t) ≡ often (party g n) (parties_at m.receivers t) + as_number (eqb k n && receives_from t c.kind) =
          step-receivers m g k c.kind t n (declared 0 c refl) in
          let both : as_number (eqb k n && receives_from t c.kind) + as_number (case_in (receives_from t) (k + 1) cases n) ≡ as_number (case_in (receives_from t) k (c ∷ cases) n) =
          case-or_later (receives_from t) k c cases n in
          omega arith;
      others = λ t p other. rest.others t p other ∙ others-receivers m (party g k) p c.kind t other;
    }

joins-senders : (m : Schedule) (g k : ℕ) (cases : List Case) → AreDeclared (length m.senders) cases
    → JoinsAt m.senders (waiting_at_cases m g k cases).senders g k cases sends_to
joins-senders m g k [] declared = record { long = refl; own = λ t n. omega arith; others = λ t p other. refl }
joins-senders m g k (c ∷ cases) declared =
    let one : Schedule = waiting_at m (party g k) c.kind in
    let many : length one.senders ≡ length m.senders = length-waiting_senders m (party g k) c.kind in
    let rest : JoinsAt one.senders (waiting_at_cases one g (k + 1) cases).senders g (k + 1) cases sends_to =
    joins-senders one g (k + 1) cases (λ j d e. subst (λ n. object_of d.kind < n) (sym many) (declared (suc j) d e)) in
    record {
      long = rest.long ∙ many;
      own = λ t n.
          let later : often (party g n) (parties_at (waiting_at_cases one g (k + 1) cases).senders t)
          ≡ often (party g n) (parties_at one.senders t) + as_number (case_in (sends_to t) (k + 1) cases n) = rest.own t n in
          let first : often (party g n) (parties_at one.senders t) ≡ often (party g n) (parties_at m.senders t) + as_number (eqb k n && sends_to t c.kind) =
          step-senders m g k c.kind t n (declared 0 c refl) in
          let both : as_number (eqb k n && sends_to t c.kind) + as_number (case_in (sends_to t) (k + 1) cases n) ≡ as_number (case_in (sends_to t) k (c ∷ cases) n) =
          case-or_later (sends_to t) k c cases n in
          omega arith;
      others = λ t p other. rest.others t p other ∙ others-senders m (party g k) p c.kind t other;
    }

-- a goroutine that is to wait at its choice
pub record Chooser (script : Script) (s : State) (m : Schedule) (g : ℕ) (cases : List Case) (default_to : Option ℕ) : Type 0 where
  pub stands : stands_at script s g ≡ Some (Instr.Select cases default_to)
  pub in_hand : status_of m g ≡ Some RunStatus.InHand
  pub declared : AreDeclared (length script.decls) cases

-- the object of an operation is declared
pub object-declared : (script : Script) (kind : CaseKind) → NamesObject script kind → object_of kind < length script.decls
object-declared script (CaseKind.Recv o) names = declared_within script o (λ what. (names_timer what || names_chan what || can_end (named_form what)) || (names_mutex what || names_wg what)) refl names
object-declared script (CaseKind.Send c v) names = chan_declared script c names

pub declared-cases : (script : Script) (cases : List Case) (default_to : Option ℕ) → NamesRightly script (Instr.Select cases default_to)
    → AreDeclared (length script.decls) cases
declared-cases script cases default_to names k c there =
    object-declared script c.kind (names-operation script (Instr.Select cases default_to) (suc k) c.kind (ap (option_map (λ (c : Case). c.kind)) there) names)

pub fits-parked_cases : (script : Script) (s : State) (m : Schedule) (g : ℕ) (cases : List Case) (default_to : Option ℕ) → Fits script s m
    → Chooser script s m g cases default_to
    → Fits script s (parked_cases m g cases)
fits-parked_cases script s m g cases default_to fits w =
    let k : Known script s m g RunStatus.InHand = known script s m g RunStatus.InHand fits w.in_hand in
    let st : Standing script s g (Instr.Select cases default_to) = standing script s g (Instr.Select cases default_to) w.stands in
    let there : goroutine_at s g ≡ Some k.who = k.there in
    let there_too : goroutine_at s g ≡ Some st.who = st.there in
    let same : st.who ≡ k.who = cc in
    let at : k.who.mode ≡ Mode.At = subst (λ (r : Goroutine). r.mode ≡ Mode.At) same st.at in
    let on : stands script k.who ≡ Some (Instr.Select cases default_to) =
    ap (λ (o : Option Goroutine). elim o as (λ x. Option Instr) [ None ↦ None | Some r ↦ stands script r ]) (sym there) ∙ w.stands in
    let x : RunStatus = RunStatus.Parked m.parks in
    let n : Schedule = parked_cases m g cases in
    let statuses : n.statuses ≡ change_numbered m.statuses g (λ _. x) = cases-statuses (parked m g) g 1 cases in
    let run : n.run_queue ≡ m.run_queue = cases-run_queue (parked m g) g 1 cases in
    let mutexes : n.mutexes ≡ m.mutexes = cases-mutexes (parked m g) g 1 cases in
    let in_receivers : JoinsAt m.receivers n.receivers g 1 cases receives_from =
    joins-receivers (parked m g) g 1 cases (λ j c e. subst (λ n. object_of c.kind < n) (sym fits.receivers) (w.declared j c e)) in
    let in_senders : JoinsAt m.senders n.senders g 1 cases sends_to =
    joins-senders (parked m g) g 1 cases (λ j c e. subst (λ n. object_of c.kind < n) (sym fits.senders) (w.declared j c e)) in
    fits-changes script s s m n g fits
    (ap length statuses ∙ (length-change_numbered m.statuses g (λ _. x) ∙ fits.as_many))
    mutexes
    in_receivers.long
    in_senders.long
    (λ y other. refl)
    (λ y other. ap (λ (ss : List RunStatus). numbered ss y) statuses ∙ numbered-change_other m.statuses g y (λ _. x) other)
    (λ y other. ap (times y) run)
    (λ t p other. in_receivers.others t p other)
    (λ t p other. in_senders.others t p other)
    (one-is script n g (goroutine_at s g) (Some k.who) (status_of n g) (Some x) k.there
    (ap (λ (ss : List RunStatus). numbered ss g) statuses ∙ numbered-change_same m.statuses g (λ _. x) RunStatus.InHand w.in_hand)
    (one-of script n g k.who x (at-agrees k.who.mode m.parks at) (ap (times g) run ∙ k.one.queued)
    (λ t c h. in_receivers.own t c ∙ joined-none (often (party g c) (parties_at m.receivers t)) (case_in (receives_from t) 1 cases c) (wants_of script (Some k.who) c (receives_from t))
    (k.one.waiting t c h) (cases-standing script k.who cases default_to c (receives_from t) on))
    (λ t c h. in_senders.own t c ∙ joined-none (often (party g c) (parties_at m.senders t)) (case_in (sends_to t) 1 cases c) (wants_of script (Some k.who) c (sends_to t))
    (k.one.sending t c h) (cases-standing script k.who cases default_to c (sends_to t) on))))
  where
    -- who stood nowhere stands at its cases
    joined-none : (before : ℕ) (joined stood : Bool) → before ≡ 0 → stood ≡ joined → before + as_number joined ≡ as_number stood
    joined-none before joined stood none is = let same : as_number stood ≡ as_number joined = ap as_number is in omega arith
