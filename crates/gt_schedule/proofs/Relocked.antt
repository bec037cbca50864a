-- Who was signalled at a Cond leaves those that wait there, and takes its place among those that wait for the mutex.
use Rattle.std.proofs.Common.{◌≡◌, ◌≢◌, ℕ, ◌+◌, ◌-◌, ◌<◌, ◌≤◌, ◌^◌, eqb, Bool, true, false, List, [], ◌∷◌, ◌++◌, length, map, set, Some, None, IsSome, is_some, slice_get, get_or-set_same, get_or-set_other, length-set, refl, sym, ap, subst, ◌∙◌, inl, inr, arith}
use Rattle.std.specs.List.{Contains, IsDistinct, AllByRecursion}
use Rattle.std.proofs.lemmas.Bool.{cases_Bool, cases_eq, cases_lt, and_parts, eq-eqb, eqb-true, ne_eqb, false≢true}
use Rattle.std.proofs.lemmas.List.{get_or_past, set_past, take-set-le, drop-set-lt, drop-set-add, length-map}
use Rattle.std.proofs.lemmas.Map.Keys.{IsDistinct-head, IsDistinct-tail, IsDistinct-cons}
use Rattle.std.proofs.Math.Seq.{take-set-lt}
use Rattle.gt_model.specs.declared.entry.Party.{Party}
use Rattle.gt_queue.proofs.Members as members
use Rattle.gt_select.specs.Waiting.{Waiting, IsLawful, MayWait, ticket_of, parties_in, forgotten}
use Rattle.gt_select.specs.Waiting as waiting
use Rattle.gt_schedule.specs.declared.scheduler.Scheduler.{Scheduler}
use Rattle.gt_schedule.specs.Counts.{as_number, is_party, often}
use Rattle.gt_schedule.specs.Schedule.{Schedule, plainly, status_of, is_parked, parties_at, without_goroutine, joins, leaves, in_place, takes_place, is_later, mutex_at, relocked, each_relocked, all_relocked, IsCondAt, StandsAt, ArePlain, AreParked}
use Rattle.gt_schedule.specs.Scheduler.{schedule_of, capacity, IsScheduler, IsOrderly}
use Rattle.gt_schedule.proofs.Lists.{is_party-same, is_party-other, often-push, often-without_same, often-without_other}
use Rattle.gt_schedule.proofs.Keeping.{schedule-is, parties-receivers, parties-senders, names-receivers, without-absent}
use Rattle.gt_schedule.proofs.Places.{Contains-here, Contains-there, Contains-cases, often-place}

-- ---- what each relocking leaves of a schedule

pub long-relocked : (m : Schedule) (g k : ℕ) → length (relocked m g k).receivers ≡ length m.receivers
long-relocked m g k = length-set m.receivers k _

pub long-relocked_senders : (m : Schedule) (g k : ℕ) → length (relocked m g k).senders ≡ length m.senders
long-relocked_senders m g k = length-set m.senders (mutex_at m k) _

each-stays : {X : Type 0} (part : Schedule → X) → ((m : Schedule) (g k : ℕ) → part (relocked m g k) ≡ part m) → (m : Schedule) (k : ℕ) (ps : List Party)
    → part (each_relocked m k ps) ≡ part m
each-stays part one m k [] = refl
each-stays part one m k (p ∷ ps) = each-stays part one (relocked m p.g k) k ps ∙ one m p.g k

pub each-statuses : (m : Schedule) (k : ℕ) (ps : List Party) → (each_relocked m k ps).statuses ≡ m.statuses
each-statuses = each-stays (λ (m : Schedule). m.statuses) (λ m g k. refl)

pub each-run_queue : (m : Schedule) (k : ℕ) (ps : List Party) → (each_relocked m k ps).run_queue ≡ m.run_queue
each-run_queue = each-stays (λ (m : Schedule). m.run_queue) (λ m g k. refl)

pub each-parks : (m : Schedule) (k : ℕ) (ps : List Party) → (each_relocked m k ps).parks ≡ m.parks
each-parks = each-stays (λ (m : Schedule). m.parks) (λ m g k. refl)

pub each-marks : (m : Schedule) (k : ℕ) (ps : List Party) → (each_relocked m k ps).marks ≡ m.marks
each-marks = each-stays (λ (m : Schedule). m.marks) (λ m g k. refl)

pub each-mutexes : (m : Schedule) (k : ℕ) (ps : List Party) → (each_relocked m k ps).mutexes ≡ m.mutexes
each-mutexes = each-stays (λ (m : Schedule). m.mutexes) (λ m g k. refl)

pub each-receivers_long : (m : Schedule) (k : ℕ) (ps : List Party) → length (each_relocked m k ps).receivers ≡ length m.receivers
each-receivers_long = each-stays (λ (m : Schedule). length m.receivers) long-relocked

pub each-senders_long : (m : Schedule) (k : ℕ) (ps : List Party) → length (each_relocked m k ps).senders ≡ length m.senders
each-senders_long = each-stays (λ (m : Schedule). length m.senders) long-relocked_senders

-- a Cond is one still
pub cond-relocked : (m : Schedule) (g k h : ℕ) → IsCondAt m h → IsCondAt (relocked m g k) h
cond-relocked m g k h cond =
    let long : length (relocked m g k).receivers ≡ length m.receivers = long-relocked m g k in
    let long_senders : length (relocked m g k).senders ≡ length m.senders = long-relocked_senders m g k in
    let declared : h < length m.receivers = cond.declared in
    let mutex : mutex_at m h < length m.senders = cond.mutex_declared in
    record { declared = omega arith; mutex_declared = omega arith }

-- ---- those in the lists are parked

-- they are where a list is replaced by one whose parties are parked
pub parked-set : (m : Schedule) (lists : List (List Party)) (t : ℕ) (xs : List Party) → AreParked m lists → ((p : Party) → is_parked (status_of m p.g) ≡ false → often p xs ≡ 0)
    → AreParked m (set lists t xs)
parked-set m lists t xs are these u p not_parked =
    elim (cases_lt t (length lists)) [
      | inl within ↦
          elim (cases_eq u t) [
            | inl e ↦
                subst (λ k. often p (parties_at (set lists t xs) k) ≡ 0) (sym e) (ap (often p) (get_or-set_same lists t xs [] within) ∙ these p not_parked)
            | inr n ↦ ap (often p) (get_or-set_other lists t u xs [] n) ∙ are u p not_parked
          ]
      | inr past ↦ ap (λ ls. often p (parties_at ls u)) (set_past lists t xs past) ∙ are u p not_parked
    ]

-- one who is parked is no other one that is not
apart-parked : (m : Schedule) (q p : Party) → is_parked (status_of m q.g) ≡ true → is_parked (status_of m p.g) ≡ false → as_number (is_party q p) ≡ 0
apart-parked m q p waits not_parked =
    ap as_number (is_party-other q p (λ e. false≢true (sym not_parked ∙ (ap (λ h. is_parked (status_of m h)) (sym e) ∙ waits))))

pub parked-joins : (m : Schedule) (lists : List (List Party)) (t : ℕ) (q : Party) → AreParked m lists → is_parked (status_of m q.g) ≡ true → AreParked m (joins lists t q)
parked-joins m lists t q are waits =
    parked-set m lists t (parties_at lists t ++ q ∷ []) are (λ p not_parked.
    let push : often p (parties_at lists t ++ q ∷ []) ≡ often p (parties_at lists t) + as_number (is_party q p) = often-push p q (parties_at lists t) in
    let before : often p (parties_at lists t) ≡ 0 = are t p not_parked in
    let other : as_number (is_party q p) ≡ 0 = apart-parked m q p waits not_parked in
    omega arith)

parked-leaves : (m : Schedule) (lists : List (List Party)) (t g : ℕ) → AreParked m lists → AreParked m (leaves lists t g)
parked-leaves m lists t g are =
    parked-set m lists t (without_goroutine g (parties_at lists t)) are (λ p not_parked. elim (cases_eq p.g g) [
      | inl e ↦ often-without_same p g (parties_at lists t) e
      | inr n ↦ often-without_other p g (parties_at lists t) n ∙ are t p not_parked
    ])

parked-takes_place : (m : Schedule) (later : Party → Bool) (lists : List (List Party)) (t : ℕ) (q : Party) → AreParked m lists → is_parked (status_of m q.g) ≡ true
    → AreParked m (takes_place later lists t q)
parked-takes_place m later lists t q are waits =
    parked-set m lists t (in_place later q (parties_at lists t)) are (λ p not_parked.
    let place : often p (in_place later q (parties_at lists t)) ≡ often p (parties_at lists t) + as_number (is_party q p) = often-place later q p (parties_at lists t) in
    let before : often p (parties_at lists t) ≡ 0 = are t p not_parked in
    let other : as_number (is_party q p) ≡ 0 = apart-parked m q p waits not_parked in
    omega arith)

pub orderly-relocked : (m : Schedule) (g k : ℕ) → IsOrderly m → is_parked (status_of m g) ≡ true → IsOrderly (relocked m g k)
orderly-relocked m g k orderly waits = record {
  queued = orderly.queued;
  receivers = parked-leaves m m.receivers k g orderly.receivers;
  senders = parked-takes_place m (is_later m g) m.senders (mutex_at m k) (plainly g) orderly.senders waits;
}

orderly-each : (m : Schedule) (k : ℕ) (ps : List Party) → IsOrderly m → ((p : Party) → 0 < often p ps → is_parked (status_of m p.g) ≡ true) → IsOrderly (each_relocked m k ps)
orderly-each m k [] orderly waits = orderly
orderly-each m k (p ∷ ps) orderly waits =
    let one : as_number (is_party p p) ≡ 1 = ap as_number (is_party-same p) in
    orderly-each (relocked m p.g k) k ps (orderly-relocked m p.g k orderly (waits p (omega arith))) (λ q h. waits q (omega arith))

-- who stands in a list is parked
pub stands-parked : (m : Schedule) (lists : List (List Party)) (t : ℕ) (p : Party) → AreParked m lists → 0 < often p (parties_at lists t) → is_parked (status_of m p.g) ≡ true
stands-parked m lists t p are some =
    elim (cases_Bool (is_parked (status_of m p.g))) [
      | inl e ↦ e
      | inr e ↦ let none : often p (parties_at lists t) ≡ 0 = are t p e in absurd (omega arith)
    ]

pub orderly-all : (m : Schedule) (k : ℕ) → IsOrderly m → IsOrderly (all_relocked m k)
orderly-all m k orderly = orderly-each m k (parties_at m.receivers k) orderly (λ p some. stands-parked m m.receivers k p orderly.receivers some)

-- ---- the list of a Cond after a relocking

pub cond-list : (m : Schedule) (g k : ℕ) → IsCondAt m k → parties_at (relocked m g k).receivers k ≡ without_goroutine g (parties_at m.receivers k)
cond-list m g k cond = get_or-set_same m.receivers k (without_goroutine g (parties_at m.receivers k)) [] cond.declared

all-contains : (P : Party → Type 0) (q : Party) (xs : List Party) → AllByRecursion P xs → Contains xs q → P q
all-contains P q [] all h = absurd (omega (arith, h.1))
all-contains P q (x ∷ xs) all h =
    elim (Contains-cases x q xs h) [
      | inl e ↦ subst P e all.0
      | inr there ↦ all-contains P q xs all.1 there
    ]

pub plain-rest : (x : Party) (xs : List Party) → ArePlain (x ∷ xs) → ArePlain xs
plain-rest x xs plain p some = plain p (omega arith)

plain-contains : (q : Party) (xs : List Party) → ArePlain xs → Contains xs q → q.case_no ≡ 0
plain-contains q [] plain h = absurd (omega (arith, h.1))
plain-contains q (x ∷ xs) plain h =
    elim (Contains-cases x q xs h) [
      | inl e ↦
          let one : as_number (is_party x x) ≡ 1 = ap as_number (is_party-same x) in
          subst (λ (p : Party). p.case_no ≡ 0) e (plain x (omega arith))
      | inr there ↦ plain-contains q xs (plain-rest x xs plain) there
    ]

-- plain parties that are distinct are of different goroutines
apart-goroutines : (x : Party) (xs : List Party) → IsDistinct waiting.is_party (x ∷ xs) → ArePlain (x ∷ xs) → (q : Party) → Contains xs q → q.g ≢ x.g
apart-goroutines x xs distinct plain q h same =
    let other : waiting.is_party x q ≡ false = all-contains (λ y. waiting.is_party x y ≡ false) q xs (IsDistinct-head waiting.is_party x xs distinct) h in
    let first : x.case_no ≡ 0 = plain-contains x (x ∷ xs) plain (Contains-here x xs) in
    let second : q.case_no ≡ 0 = plain-contains q xs (plain-rest x xs plain) h in
    let is : waiting.is_party x q ≡ true = rw (eq-eqb x.g q.g (sym same)) (eq-eqb x.case_no q.case_no (first ∙ sym second)) in
    false≢true (sym other ∙ is)

-- without the goroutine of the first, the others are left
pub without-first : (x : Party) (xs : List Party) → IsDistinct waiting.is_party (x ∷ xs) → ArePlain (x ∷ xs) → without_goroutine x.g (x ∷ xs) ≡ xs
without-first x xs distinct plain = rw (eq-eqb x.g x.g refl) (without-absent x.g xs (apart-goroutines x xs distinct plain))

-- ---- there are no more of them than goroutines

abbrev numbers : List Party → List ℕ
numbers xs = map (λ (p : Party). p.g) xs

all-numbers : (x : Party) (xs : List Party) → ((q : Party) → Contains xs q → q.g ≢ x.g) → AllByRecursion (λ y. eqb x.g y ≡ false) (numbers xs)
all-numbers x [] apart = tt
all-numbers x (y ∷ ys) apart =
    (ne_eqb x.g y.g (λ e. apart y (Contains-here y ys) (sym e)), all-numbers x ys (λ q h. apart q (Contains-there y q ys h)))

distinct-numbers : (xs : List Party) → IsDistinct waiting.is_party xs → ArePlain xs → IsDistinct eqb (numbers xs)
unfolding IsDistinct
distinct-numbers [] distinct plain = tt
distinct-numbers (x ∷ xs) distinct plain =
    IsDistinct-cons eqb x.g (numbers xs) (all-numbers x xs (apart-goroutines x xs distinct plain))
    (distinct-numbers xs (IsDistinct-tail waiting.is_party x xs distinct) (plain-rest x xs plain))

below-numbers : (xs : List Party) (n : ℕ) → ((q : Party) → Contains xs q → q.g < n) → (y : ℕ) → Contains (numbers xs) y → y < n
below-numbers [] n below y h = absurd (omega (arith, h.1))
below-numbers (x ∷ xs) n below y h =
    elim (members.Contains_cases x.g y (numbers xs) h) [
      | inl e ↦ subst (λ z. z < n) e (below x (Contains-here x xs))
      | inr there ↦ below-numbers xs n (λ q h. below q (Contains-there x q xs h)) y there
    ]

-- who has a ticket has a number
number-below : (w : Waiting) (g : ℕ) → IsLawful w → IsSome (ticket_of w g) → g < w.goroutines + 1
number-below w g lawful has =
    elim (cases_lt g (length w.tickets)) [
      | inl inside ↦ let size : length w.tickets ≡ w.goroutines + 1 = lawful.goroutines in omega arith
      | inr past ↦ absurd (false≢true (sym (ap is_some (get_or_past w.tickets g None past)) ∙ has))
    ]

pub few-parties : (w : Waiting) (list : ℕ) → IsLawful w → ArePlain (parties_in w.lists list) → length (parties_in w.lists list) ≤ w.goroutines + 1
few-parties w list lawful plain =
    let xs : List Party = parties_in w.lists list in
    let long : length (numbers xs) ≡ length xs = length-map xs (λ (p : Party). p.g) in
    let few : length (numbers xs) ≤ w.goroutines + 1 =
    members.length-le_from_distinct (w.goroutines + 1) (numbers xs) (distinct-numbers xs (lawful.once list) plain)
    (below-numbers xs (w.goroutines + 1) (λ q h. number-below w q.g lawful (lawful.live list q h))) in
    omega arith

-- ---- a scheduler after a relocking

-- with one list of receivers, or of senders, exchanged
set-receivers : (m : Scheduler) (list : ℕ) (xs : List Party) → list < m.declared
    → schedule_of (record m { waiters = record m.waiters { lists = set m.waiters.lists list xs } }) ≡ record (schedule_of m) { receivers = set (schedule_of m).receivers list xs }
set-receivers m list xs within =
    schedule-is (schedule_of (record m { waiters = record m.waiters { lists = set m.waiters.lists list xs } })) (record (schedule_of m) { receivers = set (schedule_of m).receivers list xs })
    refl
    refl
    (take-set-lt m.declared m.waiters.lists list xs within)
    (drop-set-lt m.declared m.waiters.lists list xs within)
    refl
    refl
    refl

set-senders : (m : Scheduler) (c : ℕ) (xs : List Party)
    → schedule_of (record m { waiters = record m.waiters { lists = set m.waiters.lists (m.declared + c) xs } }) ≡ record (schedule_of m) { senders = set (schedule_of m).senders c xs }
set-senders m c xs =
    schedule-is (schedule_of (record m { waiters = record m.waiters { lists = set m.waiters.lists (m.declared + c) xs } })) (record (schedule_of m) { senders = set (schedule_of m).senders c xs })
    refl
    refl
    (take-set-le m.declared m.waiters.lists (m.declared + c) xs (omega arith))
    (drop-set-add m.declared m.waiters.lists c xs)
    refl
    refl
    refl

-- who has left the list of the Cond
left-is : (m : Scheduler) (g k : ℕ) → k < m.declared → schedule_of (record m { waiters = forgotten m.waiters k g }) ≡ record (schedule_of m) { receivers = leaves (schedule_of m).receivers k g }
left-is m g k within =
    set-receivers m k (without_goroutine g (parties_in m.waiters.lists k)) within
    ∙ ap (λ ps. record (schedule_of m) { receivers = set (schedule_of m).receivers k (without_goroutine g ps) }) (sym (parties-receivers m.declared m.waiters.lists k within))

-- and has its place among those that were signalled for the mutex
relocked-is : (m : Scheduler) (w : Waiting) (g k : ℕ) → IsCondAt (schedule_of m) k
    → w ≡ (let v : Waiting = forgotten m.waiters k g in
    let list : ℕ = m.declared + mutex_at (schedule_of m) k in
    record v { lists = set v.lists list (in_place (is_later (schedule_of m) g) (plainly g) (parties_in v.lists list)) })
    → schedule_of (record m { waiters = w }) ≡ relocked (schedule_of m) g k
relocked-is m w g k cond now =
    let mutex : ℕ = mutex_at (schedule_of m) k in
    let here : k < m.declared = names-receivers m k cond.declared in
    let left : Scheduler = record m { waiters = forgotten m.waiters k g } in
    let later : Party → Bool = is_later (schedule_of m) g in
    let xs : List Party = in_place later (plainly g) (parties_in left.waiters.lists (m.declared + mutex)) in
    ap (λ (v : Waiting). schedule_of (record m { waiters = v })) now
    ∙ (set-senders left mutex xs
    ∙ (ap (λ ps. record (schedule_of left) { senders = set (schedule_of left).senders mutex (in_place later (plainly g) ps) }) (sym (parties-senders m.declared left.waiters.lists mutex))
    ∙ ap (λ (s : Schedule). record s { senders = takes_place later s.senders mutex (plainly g) }) (left-is m g k here)))

pub placed-is : (m : Scheduler) (v w : Waiting) (g k list : ℕ) (p : Party) (xs : List Party) → IsCondAt (schedule_of m) k → v ≡ forgotten m.waiters k g
    → list ≡ m.declared + mutex_at (schedule_of m) k → p ≡ plainly g → w ≡ record v { lists = set v.lists list xs }
    → in_place (is_later (schedule_of m) g) p (parties_in v.lists list) ≡ xs → schedule_of (record m { waiters = w }) ≡ relocked (schedule_of m) g k
placed-is m v w g k list p xs cond left mutex plain now place =
    let later : Party → Bool = is_later (schedule_of m) g in
    let there : ℕ = m.declared + mutex_at (schedule_of m) k in
    relocked-is m w g k cond (now
    ∙ (ap (λ ys. record v { lists = set v.lists list ys }) (sym place)
    ∙ (ap (λ q. record v { lists = set v.lists list (in_place later q (parties_in v.lists list)) }) plain
    ∙ (ap (λ n. record v { lists = set v.lists n (in_place later (plainly g) (parties_in v.lists n)) }) mutex
    ∙ ap (λ (u : Waiting). record u { lists = set u.lists there (in_place later (plainly g) (parties_in u.lists there)) }) left))))

-- who stands in a list is there
often-contains : (p : Party) (xs : List Party) → 0 < often p xs → Contains xs p
often-contains p [] some = absurd (omega arith)
often-contains p (x ∷ xs) some =
    elim (cases_Bool (is_party x p)) [
      | inl e ↦ subst (λ q. Contains (x ∷ xs) q) (party-is x p e) (Contains-here x xs)
      | inr e ↦
          let none : as_number (is_party x p) ≡ 0 = ap as_number e in
          Contains-there x p xs (often-contains p xs (omega arith))
    ]
  where
    party-is : (p q : Party) → is_party p q ≡ true → p ≡ q
    party-is p q e =
        let both = and_parts (eqb p.g q.g) (eqb p.case_no q.case_no) e in
        ap (λ g. record p { g = g }) (eqb-true p.g q.g both.0) ∙ ap (λ n. record q { case_no = n }) (eqb-true p.case_no q.case_no both.1)

-- nobody of g is left there
absent-without : (g : ℕ) (xs : List Party) (p : Party) → Contains (without_goroutine g xs) p → p.g ≢ g
absent-without g [] p h = absurd (omega (arith, h.1))
absent-without g (x ∷ xs) p h =
    elim (cases_eq x.g g) [
      | inl e ↦ absent-without g xs p (rw (eq-eqb x.g g e) at h)
      | inr n ↦
          elim (Contains-cases x p (without_goroutine g xs) (rw (ne_eqb x.g g n) at h)) [
            | inl e ↦ subst (λ (q : Party). q.g ≢ g) e n
            | inr there ↦ absent-without g xs p there
          ]
    ]

-- once it has left, it may wait anew
may-relock : (w : Waiting) (g k : ℕ) → IsLawful w → Contains (parties_in w.lists k) (plainly g) → MayWait (forgotten w k g) (plainly g)
may-relock w g k lawful stands = record {
  live = lawful.live k (plainly g) stands;
  case_no = omega arith;
  waits_nowhere = nowhere;
}
  where
    left : List Party
    left = without_goroutine g (parties_in w.lists k)

    here : k < length w.lists → (list : ℕ) → Contains (parties_in (set w.lists k left) list) (plainly g) → ⊥
    here within list h =
        elim (cases_eq list k) [
          | inl e ↦ absent-without g (parties_in w.lists k) (plainly g) (rw (e, get_or-set_same w.lists k left [] within) at h) refl
          | inr n ↦ n (lawful.apart list k (plainly g) (rw (get_or-set_other w.lists k list left [] n) at h) stands)
        ]

    nowhere : (list : ℕ) → Contains (parties_in (set w.lists k left) list) (plainly g) → ⊥
    nowhere list h =
        elim (cases_lt k (length w.lists)) [
          | inl within ↦ here within list h
          | inr past ↦ absurd (let none : Contains [] (plainly g) = rw (get_or_past w.lists k [] past) at stands in omega (arith, none.1))
        ]

pub may-leave : (m : Scheduler) (w : Waiting) (g k : ℕ) (p : Party) → IsLawful m.waiters → IsCondAt (schedule_of m) k → StandsAt (schedule_of m) g k → w ≡ forgotten m.waiters k g
    → p ≡ plainly g → MayWait w p
may-leave m w g k p lawful cond stands left plain =
    let here : parties_at (schedule_of m).receivers k ≡ parties_in m.waiters.lists k = parties-receivers m.declared m.waiters.lists k (names-receivers m k cond.declared) in
    let there : Contains (parties_in m.waiters.lists k) (plainly g) = subst (λ ps. Contains ps (plainly g)) here (often-contains (plainly g) (parties_at (schedule_of m).receivers k) stands) in
    subst (λ v. MayWait v p) (sym left) (subst (MayWait (forgotten m.waiters k g)) (sym plain) (may-relock m.waiters g k lawful there))

-- ---- one after the other

-- what is left to do: so many have come to wait for the mutex
pub record Relocks (first now : Scheduler) (k count : ℕ) : Type 0 where
  pub schedule : all_relocked (schedule_of now) k ≡ all_relocked (schedule_of first) k
  pub counted : count + length (parties_at (schedule_of now).receivers k) ≡ length (parties_at (schedule_of first).receivers k)
  pub few : length (parties_at (schedule_of first).receivers k) < 2 ^ 32
  pub room : capacity now ≡ capacity first
  pub cond : IsCondAt (schedule_of now) k
  pub plain : ArePlain (parties_at (schedule_of now).receivers k)
  pub kept : IsScheduler now

pub relocks-first : (m : Scheduler) (k : ℕ) → IsLawful m.waiters → IsScheduler m → IsCondAt (schedule_of m) k → ArePlain (parties_at (schedule_of m).receivers k) → Relocks m m k 0
relocks-first m k lawful kept cond plain =
    let same : parties_at (schedule_of m).receivers k ≡ parties_in m.waiters.lists k = parties-receivers m.declared m.waiters.lists k (names-receivers m k cond.declared) in
    let as_many : length (parties_at (schedule_of m).receivers k) ≡ length (parties_in m.waiters.lists k) = ap length same in
    let some : length (parties_in m.waiters.lists k) ≤ m.waiters.goroutines + 1 = few-parties m.waiters k lawful (subst ArePlain same plain) in
    let goroutines : m.waiters.goroutines ≡ capacity m = kept.goroutines in
    let bound : capacity m + length m.waiters.lists < 2 ^ 32 - 2 = kept.few in
    record { schedule = refl; counted = omega arith; few = omega arith; room = refl; cond = cond; plain = plain; kept = kept }

-- the first of them
pub record First (m : Scheduler) (k : ℕ) (p : Party) : Type 0 where
  pub rest : List Party
  pub parts : parties_at (schedule_of m).receivers k ≡ p ∷ rest
  pub left : without_goroutine p.g (p ∷ rest) ≡ rest
  pub plain : ArePlain rest
  pub stands : StandsAt (schedule_of m) p.g k

pub first-is : (m : Scheduler) (k : ℕ) (p : Party) → IsLawful m.waiters → IsCondAt (schedule_of m) k → ArePlain (parties_at (schedule_of m).receivers k)
    → Some p ≡ slice_get (parties_at (schedule_of m).receivers k) 0 → First m k p
first-is m k p lawful cond plain first = at (parties_at (schedule_of m).receivers k) refl
  where
    same : parties_at (schedule_of m).receivers k ≡ parties_in m.waiters.lists k
    same = parties-receivers m.declared m.waiters.lists k (names-receivers m k cond.declared)

    at : (xs : List Party) → parties_at (schedule_of m).receivers k ≡ xs → First m k p
    at [] e = absurd (none (first ∙ ap (λ ys. slice_get ys 0) e))
      where
        none : Some p ≡ None → ⊥
        none q = cc
    at (x ∷ xs) e =
        let is : x ≡ p = some (first ∙ ap (λ ys. slice_get ys 0) e) in
        let whole : parties_at (schedule_of m).receivers k ≡ p ∷ xs = e ∙ ap (λ y. y ∷ xs) is in
        let all : ArePlain (p ∷ xs) = subst ArePlain whole plain in
        let one : as_number (is_party p p) ≡ 1 = ap as_number (is_party-same p) in
        let own : p ≡ plainly p.g = ap (λ n. record p { case_no = n }) (all p (omega arith)) in
        let more : 0 < often p (p ∷ xs) = omega arith in
        let distinct : IsDistinct waiting.is_party (p ∷ xs) = subst (IsDistinct waiting.is_party) (sym same ∙ whole) (lawful.once k) in
        record {
          rest = xs;
          parts = whole;
          left = without-first p xs distinct all;
          plain = plain-rest p xs all;
          stands = subst (λ q. 0 < often q (parties_at (schedule_of m).receivers k)) own (subst (λ ys. 0 < often p ys) (sym whole) more);
        }
      where
        some : Some p ≡ Some x → x ≡ p
        some q = cc

pub relocks-next : (first m n : Scheduler) (k count : ℕ) (p : Party) → Relocks first m k count → First m k p → schedule_of n ≡ relocked (schedule_of m) p.g k → capacity n ≡ capacity m
    → IsScheduler n → Relocks first n k (count + 1)
relocks-next first m n k count p so_far one now room kept =
    let s : Schedule = relocked (schedule_of m) p.g k in
    let list : parties_at s.receivers k ≡ one.rest = cond-list (schedule_of m) p.g k so_far.cond ∙ (ap (without_goroutine p.g) one.parts ∙ one.left) in
    let after : parties_at (schedule_of n).receivers k ≡ one.rest = ap (λ (x : Schedule). parties_at x.receivers k) now ∙ list in
    let before : length (parties_at (schedule_of m).receivers k) ≡ length (p ∷ one.rest) = ap length one.parts in
    let fewer : length (parties_at (schedule_of n).receivers k) ≡ length one.rest = ap length after in
    let counted : count + length (parties_at (schedule_of m).receivers k) ≡ length (parties_at (schedule_of first).receivers k) = so_far.counted in
    record {
      schedule = ap (λ x. all_relocked x k) now ∙ (ap (each_relocked s k) list ∙ (ap (each_relocked (schedule_of m) k) (sym one.parts) ∙ so_far.schedule));
      counted = omega arith;
      few = so_far.few;
      room = room ∙ so_far.room;
      cond = subst (λ x. IsCondAt x k) (sym now) (cond-relocked (schedule_of m) p.g k k so_far.cond);
      plain = subst ArePlain (sym after) one.plain;
      kept = kept;
    }

pub relocks-fewer : (m n : Scheduler) (k : ℕ) (p : Party) → IsCondAt (schedule_of m) k → First m k p → schedule_of n ≡ relocked (schedule_of m) p.g k
    → length (parties_at (schedule_of n).receivers k) < length (parties_at (schedule_of m).receivers k)
relocks-fewer m n k p cond one now =
    let after : parties_at (schedule_of n).receivers k ≡ one.rest = ap (λ (x : Schedule). parties_at x.receivers k) now
    ∙ (cond-list (schedule_of m) p.g k cond ∙ (ap (without_goroutine p.g) one.parts ∙ one.left)) in
    let before : length (parties_at (schedule_of m).receivers k) ≡ length (p ∷ one.rest) = ap length one.parts in
    let fewer : length (parties_at (schedule_of n).receivers k) ≡ length one.rest = ap length after in
    omega arith

-- where nobody is left, all is done
pub relocks-all : (first m : Scheduler) (k count : ℕ) → Relocks first m k count → parties_at (schedule_of m).receivers k ≡ [] → schedule_of m ≡ all_relocked (schedule_of first) k
relocks-all first m k count so_far none = sym (ap (each_relocked (schedule_of m) k) none) ∙ so_far.schedule

pub relocks-count : (first m : Scheduler) (k count : ℕ) → Relocks first m k count → parties_at (schedule_of m).receivers k ≡ [] → count ≡ length (parties_at (schedule_of first).receivers k)
relocks-count first m k count so_far none =
    let counted : count + length (parties_at (schedule_of m).receivers k) ≡ length (parties_at (schedule_of first).receivers k) = so_far.counted in
    let nobody : length (parties_at (schedule_of m).receivers k) ≡ 0 = ap length none in
    omega arith
