-- A goroutine that waits at all cases of a choice: who waits where then, case by case.
use Rattle.std.proofs.Common.{◌≡◌, ◌≢◌, ℕ, zero, suc, ◌+◌, ◌<◌, Bool, true, false, ◌&&◌, List, [], ◌∷◌, length, slice_get, get_or, Option, None, Some, refl, sym, ap, subst, ◌∙◌, arith}
use Rattle.std.specs.List.{All}
use Rattle.std.proofs.lemmas.Bool.{eq-eqb, ne_eqb}
use Rattle.gt_model.specs.declared.entry.Party.{Party}
use Rattle.gt_model.specs.declared.script.Case.{Case}
use Rattle.gt_model.specs.declared.script.CaseKind.{CaseKind}
use Rattle.gt_model.specs.Tables.{numbered}
use Rattle.gt_model.proofs.Changes.{length-change_numbered}
use Rattle.gt_model.proofs.Items.{numbered-change_same, numbered-change_other}
use Rattle.gt_rules.specs.Operations.{receives_from, sends_to}
use Rattle.gt_schedule.specs.declared.status.RunStatus.{RunStatus}
use Rattle.gt_schedule.specs.Counts.{as_number, times, is_party, often}
use Rattle.gt_schedule.specs.Schedule.{Schedule, status_of, parties_at, parked, at_case, waiting_at, waiting_at_cases, parked_cases, object_of}
use Rattle.gt_schedule.proofs.Lists.{length-joins, often-joins, often-joins_other, is_party-same}
use Rattle.gt_schedule.proofs.Parties.{OthersStay}

-- ---- of all but the lists it is the parking that counts

pub waiting_at-statuses : (m : Schedule) (p : Party) (kind : CaseKind) → (waiting_at m p kind).statuses ≡ m.statuses
waiting_at-statuses m p (CaseKind.Recv o) = refl
waiting_at-statuses m p (CaseKind.Send c v) = refl

pub waiting_at-run_queue : (m : Schedule) (p : Party) (kind : CaseKind) → (waiting_at m p kind).run_queue ≡ m.run_queue
waiting_at-run_queue m p (CaseKind.Recv o) = refl
waiting_at-run_queue m p (CaseKind.Send c v) = refl

pub waiting_at-marks : (m : Schedule) (p : Party) (kind : CaseKind) → (waiting_at m p kind).marks ≡ m.marks
waiting_at-marks m p (CaseKind.Recv o) = refl
waiting_at-marks m p (CaseKind.Send c v) = refl

pub waiting_at-mutexes : (m : Schedule) (p : Party) (kind : CaseKind) → (waiting_at m p kind).mutexes ≡ m.mutexes
waiting_at-mutexes m p (CaseKind.Recv o) = refl
waiting_at-mutexes m p (CaseKind.Send c v) = refl

pub waiting_at-receivers_long : (m : Schedule) (p : Party) (kind : CaseKind) → length (waiting_at m p kind).receivers ≡ length m.receivers
waiting_at-receivers_long m p (CaseKind.Recv o) = length-joins m.receivers o p
waiting_at-receivers_long m p (CaseKind.Send c v) = refl

pub waiting_at-senders_long : (m : Schedule) (p : Party) (kind : CaseKind) → length (waiting_at m p kind).senders ≡ length m.senders
waiting_at-senders_long m p (CaseKind.Recv o) = refl
waiting_at-senders_long m p (CaseKind.Send c v) = length-joins m.senders c p

-- what one waiting leaves of a schedule is left where a goroutine waits at all its cases
stays : {X : Type 0} (part : Schedule → X) → ((m : Schedule) (p : Party) (kind : CaseKind) → part (waiting_at m p kind) ≡ part m)
    → (m : Schedule) (g n : ℕ) (cases : List Case) → part (waiting_at_cases m g n cases) ≡ part m
stays part one m g n [] = refl
stays part one m g n (c ∷ cases) = stays part one (waiting_at m (at_case g n) c.kind) g (n + 1) cases ∙ one m (at_case g n) c.kind

pub cases-statuses : (m : Schedule) (g n : ℕ) (cases : List Case) → (waiting_at_cases m g n cases).statuses ≡ m.statuses
cases-statuses = stays (λ (m : Schedule). m.statuses) waiting_at-statuses

pub cases-run_queue : (m : Schedule) (g n : ℕ) (cases : List Case) → (waiting_at_cases m g n cases).run_queue ≡ m.run_queue
cases-run_queue = stays (λ (m : Schedule). m.run_queue) waiting_at-run_queue

pub cases-marks : (m : Schedule) (g n : ℕ) (cases : List Case) → (waiting_at_cases m g n cases).marks ≡ m.marks
cases-marks = stays (λ (m : Schedule). m.marks) waiting_at-marks

pub cases-mutexes : (m : Schedule) (g n : ℕ) (cases : List Case) → (waiting_at_cases m g n cases).mutexes ≡ m.mutexes
cases-mutexes = stays (λ (m : Schedule). m.mutexes) waiting_at-mutexes

pub cases-receivers_long : (m : Schedule) (g n : ℕ) (cases : List Case) → length (waiting_at_cases m g n cases).receivers ≡ length m.receivers
cases-receivers_long = stays (λ (m : Schedule). length m.receivers) waiting_at-receivers_long

pub cases-senders_long : (m : Schedule) (g n : ℕ) (cases : List Case) → length (waiting_at_cases m g n cases).senders ≡ length m.senders
cases-senders_long = stays (λ (m : Schedule). length m.senders) waiting_at-senders_long

-- ---- the same of who is parked at all its cases

pub parked_cases-as_many : (m : Schedule) (g : ℕ) (cases : List Case) → length (parked_cases m g cases).statuses ≡ length m.statuses
parked_cases-as_many m g cases = ap length (cases-statuses (parked m g) g 1 cases) ∙ length-change_numbered m.statuses g (λ _. RunStatus.Parked m.parks)

parked_cases-status : (m : Schedule) (g : ℕ) (cases : List Case) (h : ℕ) → status_of (parked_cases m g cases) h ≡ status_of (parked m g) h
parked_cases-status m g cases h = ap (λ (xs : List RunStatus). numbered xs h) (cases-statuses (parked m g) g 1 cases)

pub parked_cases-status_same : (m : Schedule) (g : ℕ) (cases : List Case) (was : RunStatus) → status_of m g ≡ Some was
    → status_of (parked_cases m g cases) g ≡ Some (RunStatus.Parked m.parks)
parked_cases-status_same m g cases was e = parked_cases-status m g cases g ∙ numbered-change_same m.statuses g (λ _. RunStatus.Parked m.parks) was e

pub parked_cases-status_other : (m : Schedule) (g : ℕ) (cases : List Case) (h : ℕ) → h ≢ g → status_of (parked_cases m g cases) h ≡ status_of m h
parked_cases-status_other m g cases h n = parked_cases-status m g cases h ∙ numbered-change_other m.statuses g h (λ _. RunStatus.Parked m.parks) n

-- ---- the parties of other goroutines stand as often as before

other-receivers : (m : Schedule) (p : Party) (kind : CaseKind) (t : ℕ) (q : Party) → q.g ≢ p.g
    → often q (parties_at (waiting_at m p kind).receivers t) ≡ often q (parties_at m.receivers t)
other-receivers m p (CaseKind.Recv o) t q n = often-joins_other m.receivers o t q p n
other-receivers m p (CaseKind.Send c v) t q n = refl

other-senders : (m : Schedule) (p : Party) (kind : CaseKind) (t : ℕ) (q : Party) → q.g ≢ p.g
    → often q (parties_at (waiting_at m p kind).senders t) ≡ often q (parties_at m.senders t)
other-senders m p (CaseKind.Recv o) t q n = refl
other-senders m p (CaseKind.Send c v) t q n = often-joins_other m.senders c t q p n

pub cases-receivers_other : (m : Schedule) (g n : ℕ) (cases : List Case) (t : ℕ) (q : Party) → q.g ≢ g
    → often q (parties_at (waiting_at_cases m g n cases).receivers t) ≡ often q (parties_at m.receivers t)
cases-receivers_other m g n [] t q other = refl
cases-receivers_other m g n (c ∷ cases) t q other =
    cases-receivers_other (waiting_at m (at_case g n) c.kind) g (n + 1) cases t q other ∙ other-receivers m (at_case g n) c.kind t q other

pub cases-senders_other : (m : Schedule) (g n : ℕ) (cases : List Case) (t : ℕ) (q : Party) → q.g ≢ g
    → often q (parties_at (waiting_at_cases m g n cases).senders t) ≡ often q (parties_at m.senders t)
cases-senders_other m g n [] t q other = refl
cases-senders_other m g n (c ∷ cases) t q other =
    cases-senders_other (waiting_at m (at_case g n) c.kind) g (n + 1) cases t q other ∙ other-senders m (at_case g n) c.kind t q other

pub others-parked_cases : (m : Schedule) (g : ℕ) (cases : List Case) → OthersStay m (parked_cases m g cases) g
others-parked_cases m g cases = record {
  statuses = parked_cases-status_other m g cases;
  run_queue = λ h n. ap (times h) (cases-run_queue (parked m g) g 1 cases);
  receivers_long = cases-receivers_long (parked m g) g 1 cases;
  senders_long = cases-senders_long (parked m g) g 1 cases;
  receivers = cases-receivers_other (parked m g) g 1 cases;
  senders = cases-senders_other (parked m g) g 1 cases;
}

-- ---- its own parties: the one of each case stands once more in the list of that case, and in no other

own-receivers : (m : Schedule) (p q : Party) (kind : CaseKind) (u : ℕ) → object_of kind < length m.receivers
    → often p (parties_at (waiting_at m q kind).receivers u) ≡ often p (parties_at m.receivers u) + as_number (receives_from u kind && is_party q p)
own-receivers m p q (CaseKind.Recv o) u within = often-joins m.receivers o u p q within
own-receivers m p q (CaseKind.Send c v) u within = omega arith

own-senders : (m : Schedule) (p q : Party) (kind : CaseKind) (u : ℕ) → object_of kind < length m.senders
    → often p (parties_at (waiting_at m q kind).senders u) ≡ often p (parties_at m.senders u) + as_number (sends_to u kind && is_party q p)
own-senders m p q (CaseKind.Recv o) u within = omega arith
own-senders m p q (CaseKind.Send c v) u within = often-joins m.senders c u p q within

none-at : (b : Bool) (g j k : ℕ) → j ≢ k → as_number (b && is_party (at_case g j) (at_case g k)) ≡ 0
none-at false g j k n = refl
none-at true g j k n = rw (eq-eqb g g refl, ne_eqb j k n) refl

one-at : (b : Bool) (p : Party) → as_number (b && is_party p p) ≡ as_number b
one-at false p = refl
one-at true p = ap as_number (is_party-same p)

-- whether there is a case whose operation passes a test
abbrev pub case_passes : (CaseKind → Bool) → Option Case → Bool
case_passes test None = false
case_passes test (Some c) = test c.kind

-- of the two sides one: how often a party stands there, whether an operation is of that side, and what one waiting does
module _ (count : Schedule → ℕ → Party → ℕ) (size : Schedule → ℕ) (test : ℕ → CaseKind → Bool)
    (one : (m : Schedule) (p q : Party) (kind : CaseKind) (u : ℕ) → object_of kind < size m → count (waiting_at m q kind) u p ≡ count m u p + as_number (test u kind && is_party q p))
    (long : (m : Schedule) (p : Party) (kind : CaseKind) → size (waiting_at m p kind) ≡ size m) where
  declared-behind : (m : Schedule) (p : Party) (c : Case) (cases : List Case) → All (λ (x : Case). object_of x.kind < size m) (c ∷ cases)
      → All (λ (x : Case). object_of x.kind < size (waiting_at m p c.kind)) cases
  declared-behind m p c cases all k d within =
      subst (λ n. object_of (get_or cases k d).kind < n) (sym (long m p c.kind)) (all (suc k) d (omega arith))

  -- the parties of earlier cases stand as often as before
  earlier : (m : Schedule) (g n j : ℕ) (cases : List Case) (u : ℕ) → j < n → All (λ (c : Case). object_of c.kind < size m) cases
      → count (waiting_at_cases m g n cases) u (at_case g j) ≡ count m u (at_case g j)
  earlier m g n j [] u before all = refl
  earlier m g n j (c ∷ cases) u before all =
      let then : Schedule = waiting_at m (at_case g n) c.kind in
      let rest : count (waiting_at_cases then g (n + 1) cases) u (at_case g j) ≡ count then u (at_case g j) =
      earlier then g (n + 1) j cases u (omega arith) (declared-behind m (at_case g n) c cases all) in
      let step = one m (at_case g j) (at_case g n) c.kind u (all 0 c (omega arith)) in
      let other : n ≢ j = λ e. omega arith in
      let none = none-at (test u c.kind) g n j other in
      omega arith

  case_by_case : (m : Schedule) (g n i : ℕ) (cases : List Case) (u : ℕ) → All (λ (c : Case). object_of c.kind < size m) cases
      → count (waiting_at_cases m g n cases) u (at_case g (n + i)) ≡ count m u (at_case g (n + i)) + as_number (case_passes (test u) (slice_get cases i))
  case_by_case m g n i [] u all = omega arith
  case_by_case m g n zero (c ∷ cases) u all =
      let here : n + 0 ≡ n = omega arith in
      let then : Schedule = waiting_at m (at_case g n) c.kind in
      let rest = earlier then g (n + 1) n cases u (omega arith) (declared-behind m (at_case g n) c cases all) in
      let step = one m (at_case g n) (at_case g n) c.kind u (all 0 c (omega arith)) in
      let once = one-at (test u c.kind) (at_case g n) in
      subst (λ k. count (waiting_at_cases m g n (c ∷ cases)) u (at_case g k) ≡ count m u (at_case g k) + as_number (test u c.kind)) (sym here) (omega arith)
  case_by_case m g n (suc i) (c ∷ cases) u all =
      let there : n + 1 + i ≡ n + suc i = omega arith in
      let then : Schedule = waiting_at m (at_case g n) c.kind in
      let rest = case_by_case then g (n + 1) i cases u (declared-behind m (at_case g n) c cases all) in
      let step = one m (at_case g (n + 1 + i)) (at_case g n) c.kind u (all 0 c (omega arith)) in
      let other : n ≢ n + 1 + i = λ e. omega arith in
      let none = none-at (test u c.kind) g n (n + 1 + i) other in
      subst (λ k. count (waiting_at_cases m g n (c ∷ cases)) u (at_case g k) ≡ count m u (at_case g k) + as_number (case_passes (test u) (slice_get cases i))) there (omega arith)

pub cases-receivers : (m : Schedule) (g n i : ℕ) (cases : List Case) (u : ℕ) → All (λ (c : Case). object_of c.kind < length m.receivers) cases
    → often (at_case g (n + i)) (parties_at (waiting_at_cases m g n cases).receivers u)
    ≡ often (at_case g (n + i)) (parties_at m.receivers u) + as_number (case_passes (receives_from u) (slice_get cases i))
cases-receivers = case_by_case (λ m u p. often p (parties_at m.receivers u)) (λ m. length m.receivers) receives_from own-receivers waiting_at-receivers_long

pub cases-senders : (m : Schedule) (g n i : ℕ) (cases : List Case) (u : ℕ) → All (λ (c : Case). object_of c.kind < length m.senders) cases
    → often (at_case g (n + i)) (parties_at (waiting_at_cases m g n cases).senders u)
    ≡ often (at_case g (n + i)) (parties_at m.senders u) + as_number (case_passes (sends_to u) (slice_get cases i))
cases-senders = case_by_case (λ m u p. often p (parties_at m.senders u)) (λ m. length m.senders) sends_to own-senders waiting_at-senders_long

pub earlier-receivers : (m : Schedule) (g n j : ℕ) (cases : List Case) (u : ℕ) → j < n → All (λ (c : Case). object_of c.kind < length m.receivers) cases
    → often (at_case g j) (parties_at (waiting_at_cases m g n cases).receivers u) ≡ often (at_case g j) (parties_at m.receivers u)
earlier-receivers = earlier (λ m u p. often p (parties_at m.receivers u)) (λ m. length m.receivers) receives_from own-receivers waiting_at-receivers_long

pub earlier-senders : (m : Schedule) (g n j : ℕ) (cases : List Case) (u : ℕ) → j < n → All (λ (c : Case). object_of c.kind < length m.senders) cases
    → often (at_case g j) (parties_at (waiting_at_cases m g n cases).senders u) ≡ often (at_case g j) (parties_at m.senders u)
earlier-senders = earlier (λ m u p. often p (parties_at m.senders u)) (λ m. length m.senders) sends_to own-senders waiting_at-senders_long
