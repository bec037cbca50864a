-- What the run queue and the lists of a scheduler mean, after a change.
use Rattle.std.proofs.Common.{◌≡◌, ◌≢◌, ℕ, zero, suc, ◌+◌, ◌<◌, ◌≤◌, ◌^◌, true, false, List, [], ◌∷◌, ◌++◌, length, set, map, take, drop, get_or, replicate, ◌-◌, min, Option, Some, None, IsSome, is_some, Bool, count_by, length-append, refl, sym, ap, subst, ◌∙◌, arith, inl, inr}
use Rattle.std.specs.List.{Contains}
use Rattle.std.proofs.lemmas.Bool.{cases_eq, cases_lt, ne_eqb, false≢true}
use Rattle.std.proofs.lemmas.List.{get_or-set_same, get_or-set_other, get_or-take, get_or-drop, get_or_past, set-get_or, take-set-le, drop-set-lt, drop-set-add, take-map, drop-map, take-replicate, drop-replicate, length-take, length-set}
use Rattle.std.proofs.Math.Seq.{take-set-lt}
use Rattle.std.proofs.lemmas.Option.{slice_get_within}
use Rattle.gt_model.specs.declared.script.Script.{Script}
use Rattle.gt_model.specs.declared.script.Decl.{Decl}
use Rattle.gt_model.specs.declared.script.Case.{Case}
use Rattle.gt_model.specs.declared.script.CaseKind.{CaseKind}
use Rattle.gt_model.specs.declared.entry.Party.{Party}
use Rattle.gt_model.specs.Tables.{numbered, change_numbered}
use Rattle.gt_model.proofs.Items.{numbered-change_same, numbered-next, numbered-push_other}
use Rattle.gt_queue.specs.Contents as queue
use Rattle.gt_queue.specs.Contents.{waiting_in, IsWaiting}
use Rattle.gt_queue.proofs.Members.{Contains-nil}
use Rattle.gt_select.specs.Waiting.{Waiting, IsLawful, MayEnrol, MayWait, ticket_of, parties_in, nobody_waits, enrolled, joined, gone}
use Rattle.gt_select.proofs.Tickets.{none-replicate}
use Rattle.gt_select.proofs.Callers.{MayWait-enrolled}
use Rattle.gt_schedule.specs.declared.status.RunStatus.{RunStatus}
use Rattle.gt_schedule.specs.declared.scheduler.Scheduler.{Scheduler}
use Rattle.gt_schedule.specs.Counts.{as_number, times}
use Rattle.gt_schedule.specs.Schedule.{Schedule, at_case, waiting_at_cases, parked, status_of, first_schedule, is_parked, is_queued, is_in_hand, parties_at, without_goroutine, waiting_at, object_of, unparked, mutex_in, RunsQueued}
use Rattle.gt_schedule.specs.Scheduler.{schedule_of, capacity, list_of, HoldParked, IsScheduler}
use Rattle.gt_room.specs.Contents.{Contents}
use Rattle.gt_schedule.proofs.Lists.{times-contains, length-joins}
use Rattle.gt_schedule.proofs.Counting.{no-ticket, count-cons}

pub schedule-is : (m n : Schedule) → m.statuses ≡ n.statuses → m.run_queue ≡ n.run_queue → m.receivers ≡ n.receivers → m.senders ≡ n.senders → m.parks ≡ n.parks
    → m.marks ≡ n.marks → m.mutexes ≡ n.mutexes → m ≡ n
schedule-is m n statuses run receivers senders parks marks mutexes =
    ap (λ x. record m { statuses = x }) statuses
    ∙ (ap (λ x. record m { statuses = n.statuses; run_queue = x }) run
    ∙ (ap (λ x. record m { statuses = n.statuses; run_queue = n.run_queue; receivers = x }) receivers
    ∙ (ap (λ x. record m { statuses = n.statuses; run_queue = n.run_queue; receivers = n.receivers; senders = x }) senders
    ∙ (ap (λ x. record m { statuses = n.statuses; run_queue = n.run_queue; receivers = n.receivers; senders = n.senders; parks = x }) parks
    ∙ (ap (λ x. record m { statuses = n.statuses; run_queue = n.run_queue; receivers = n.receivers; senders = n.senders; parks = n.parks; marks = x }) marks
    ∙ ap (λ x. record m { statuses = n.statuses; run_queue = n.run_queue; receivers = n.receivers; senders = n.senders; parks = n.parks; marks = n.marks; mutexes = x }) mutexes)))))

-- ---- who waits where

pub numbered-le : {X : Type 0} (xs : List X) (g : ℕ) (x : X) → numbered xs g ≡ Some x → g ≤ length xs
numbered-le xs zero x e = cc
numbered-le xs (suc i) x e = let below : i < length xs = slice_get_within xs i x e in omega arith

-- the parties at a receive from t, and those at a send to it
pub parties-receivers : (d : ℕ) (lists : List (List Party)) (t : ℕ) → t < d → parties_at (take d lists) t ≡ parties_in lists t
parties-receivers d lists t h = get_or-take d lists t [] h

pub parties-senders : (d : ℕ) (lists : List (List Party)) (t : ℕ) → parties_at (drop d lists) t ≡ parties_in lists (d + t)
parties-senders d lists t = get_or-drop d lists t []

-- there are no more lists of receivers than names
pub names-receivers : (m : Scheduler) (t : ℕ) → t < length (schedule_of m).receivers → t < m.declared
names-receivers m t h =
    let long : length (schedule_of m).receivers ≡ min m.declared (length m.waiters.lists) = length-take m.declared m.waiters.lists in
    omega arith

-- who is not queued does not stand in the run queue
pub free-unqueued : (m : Scheduler) (g : ℕ) → IsScheduler m → RunsQueued (schedule_of m) → is_queued (status_of (schedule_of m) g) ≡ false → ¬ IsWaiting m.run_queue.queues g
free-unqueued m g kept runs not_queued w = nowhere w.0 w.1
  where
    nowhere : (q : ℕ) → Contains (waiting_in m.run_queue.queues q) g → ⊥
    nowhere zero h =
        let some : 0 < times g (waiting_in m.run_queue.queues 0) = times-contains g (waiting_in m.run_queue.queues 0) h in
        let none : times g (waiting_in m.run_queue.queues 0) ≡ 0 = runs g ∙ ap as_number not_queued in
        omega arith
    nowhere (suc q) h =
        let one : length m.run_queue.queues ≡ 1 = kept.queues in
        let past : waiting_in m.run_queue.queues (suc q) ≡ [] = get_or_past m.run_queue.queues (suc q) [] (omega arith) in
        Contains-nil g (subst (λ xs. Contains xs g) past h)

pub parked-unqueued : (o : Option RunStatus) → is_parked o ≡ true → is_queued o ≡ false
parked-unqueued None h = cc
parked-unqueued (Some RunStatus.Queued) h = cc
parked-unqueued (Some RunStatus.InHand) h = cc
parked-unqueued (Some (RunStatus.Parked since)) h = refl
parked-unqueued (Some RunStatus.Ended) h = cc

-- ---- a goroutine gets a ticket, and joins those at an operation

-- one that is in hand can have a ticket
pub may-enrol : (m : Scheduler) (g : ℕ) (was : RunStatus) → IsScheduler m → status_of (schedule_of m) g ≡ Some was → is_parked (Some was) ≡ false → MayEnrol m.waiters g
may-enrol m g was kept at not_parked =
    let most : g ≤ length m.statuses.items = numbered-le m.statuses.items g was at in
    let room : m.waiters.goroutines ≡ capacity m = kept.goroutines in
    record {
      first = first g at;
      last = omega arith;
      none = no-ticket m g kept.tickets (ap is_parked at ∙ not_parked);
    }
  where
    first : (h : ℕ) → numbered m.statuses.items h ≡ Some was → 1 ≤ h
    first zero e = cc
    first (suc i) e = omega arith

-- one that was in hand is parked after its parking
pub parked-now : (m n : Schedule) (g : ℕ) → status_of m g ≡ Some RunStatus.InHand → n ≡ parked m g → is_parked (status_of n g) ≡ true
parked-now m n g at now =
    ap (λ (s : Schedule). is_parked (status_of s g)) now ∙ ap is_parked (numbered-change_same m.statuses g (λ _. RunStatus.Parked m.parks) RunStatus.InHand at)

-- with its new ticket it may wait at each of its cases, since nobody of it stands in any list
pub may-wait : (w : Waiting) (g k : ℕ) → IsLawful w → MayEnrol w g → k ≤ 16 → MayWait (enrolled w g) (at_case g k)
may-wait w g k lawful may few =
    let size : length w.tickets ≡ w.goroutines + 1 = lawful.goroutines in
    let last : g ≤ w.goroutines = may.last in
    MayWait-enrolled w (at_case g k) (omega arith) few (λ list h. false≢true (sym (ap is_some may.none) ∙ lawful.live list (at_case g k) h))

-- it has its ticket while it is parked
pub kept-enrolled : (m : Scheduler) (g : ℕ) → IsScheduler m → is_parked (status_of (schedule_of m) g) ≡ true → IsScheduler (record m { waiters = enrolled m.waiters g })
kept-enrolled m g kept at = record {
  running = kept.running;
  members = kept.members;
  queues = kept.queues;
  goroutines = kept.goroutines;
  lists = kept.lists;
  few = kept.few;
  parks = kept.parks;
  tickets = holds;
  marks = kept.marks;
  mark_room = kept.mark_room;
}
  where
    holds : HoldParked (record m { waiters = enrolled m.waiters g })
    holds h has =
        elim (cases_eq h g) [
          | inl e ↦ ap (λ k. is_parked (status_of (schedule_of m) k)) e ∙ at
          | inr other ↦ kept.tickets h (subst (λ (o : Option ℕ). IsSome o) (get_or-set_other m.waiters.tickets g h (Some m.waiters.turns) None other) has)
        ]

-- n is m with other lists
abbrev with_lists : Scheduler → List (List Party) → Schedule
with_lists m lists = record (schedule_of m) { receivers = take m.declared lists; senders = drop m.declared lists }

-- a party joins a list
abbrev joining : List (List Party) → ℕ → Party → List (List Party)
joining lists list p = set lists list (parties_in lists list ++ p ∷ [])

joined-at : (m : Scheduler) (p : Party) (kind : CaseKind) → object_of kind < m.declared
    → with_lists m (joining m.waiters.lists (list_of m.declared kind) p) ≡ waiting_at (schedule_of m) p kind
joined-at m p (CaseKind.Recv o) within =
    let lists : List (List Party) = m.waiters.lists in
    let d : ℕ = m.declared in
    let xs : List Party = parties_in lists o ++ p ∷ [] in
    schedule-is (with_lists m (joining lists o p)) (waiting_at (schedule_of m) p (CaseKind.Recv o))
    refl
    refl
    (take-set-lt d lists o xs within ∙ ap (λ ps. set (take d lists) o (ps ++ p ∷ [])) (sym (parties-receivers d lists o within)))
    (drop-set-lt d lists o xs within)
    refl
    refl
    refl
joined-at m p (CaseKind.Send c v) within =
    let lists : List (List Party) = m.waiters.lists in
    let d : ℕ = m.declared in
    let xs : List Party = parties_in lists (d + c) ++ p ∷ [] in
    schedule-is (with_lists m (joining lists (d + c) p)) (waiting_at (schedule_of m) p (CaseKind.Send c v))
    refl
    refl
    (take-set-le d lists (d + c) xs (omega arith))
    (drop-set-add d lists c xs ∙ ap (λ ps. set (drop d lists) c (ps ++ p ∷ [])) (sym (parties-senders d lists c)))
    refl
    refl
    refl

pub joined-is : (m : Scheduler) (w : Waiting) (p : Party) (kind : CaseKind) → object_of kind < length (schedule_of m).receivers
    → w ≡ joined m.waiters (list_of m.declared kind) p → schedule_of (record m { waiters = w }) ≡ waiting_at (schedule_of m) p kind
joined-is m w p kind within now =
    ap (λ (x : Waiting). schedule_of (record m { waiters = x })) now ∙ joined-at m p kind (names-receivers m (object_of kind) within)

pub kept-joined : (m : Scheduler) (list : ℕ) (p : Party) → IsScheduler m → IsScheduler (record m { waiters = joined m.waiters list p })
kept-joined m list p kept =
    let many : length (joining m.waiters.lists list p) ≡ length m.waiters.lists = length-set m.waiters.lists list _ in
    let few : capacity m + length m.waiters.lists < 2 ^ 32 - 2 = kept.few in
    record {
      running = kept.running;
      members = kept.members;
      queues = kept.queues;
      goroutines = kept.goroutines;
      lists = many ∙ kept.lists;
      few = omega arith;
      parks = kept.parks;
      tickets = kept.tickets;
      marks = kept.marks;
      mark_room = kept.mark_room;
    }

-- ---- a goroutine waits at its cases, one after the other

-- the case at place k is the next one
pub waits-next : (m : Schedule) (g n k : ℕ) (cases : List Case) (other : Case) → k < length cases
    → waiting_at_cases m g n (drop k cases) ≡ waiting_at_cases (waiting_at m (at_case g n) (get_or cases k other).kind) g (n + 1) (drop (k + 1) cases)
waits-next m g n k [] other within = absurd (omega arith)
waits-next m g n zero (c ∷ cases) other within = refl
waits-next m g n (suc k) (c ∷ cases) other within =
    let next : suc (k + 1) ≡ suc k + 1 = omega arith in
    waits-next m g n k cases other (omega arith)
    ∙ ap (λ j. waiting_at_cases (waiting_at m (at_case g n) (get_or cases k other).kind) g (n + 1) (drop j (c ∷ cases))) next

pub waits-all : (m : Schedule) (g n k : ℕ) (cases : List Case) → length cases ≤ k → waiting_at_cases m g n (drop k cases) ≡ m
waits-all m g n zero [] past = refl
waits-all m g n (suc k) [] past = refl
waits-all m g n zero (c ∷ cases) past = absurd (omega arith)
waits-all m g n (suc k) (c ∷ cases) past = waits-all m g n k cases (omega arith)

-- each name has its list of receivers, as before
pub as_many-receivers : (m : Schedule) (p : Party) (kind : CaseKind) → length (waiting_at m p kind).receivers ≡ length m.receivers
as_many-receivers m p (CaseKind.Recv o) = length-joins m.receivers o p
as_many-receivers m p (CaseKind.Send c v) = refl

-- parties at different cases are different
pub apart-cases : (g j k : ℕ) → j < k → at_case g j ≢ at_case g k
apart-cases g j k before same =
    let equal : j ≡ k = ap (λ (p : Party). p.case_no) same in
    omega arith

-- ---- a new goroutine, and the first one, have no ticket

hold-new : (m n : Scheduler) → HoldParked m → n.waiters ≡ m.waiters → n.statuses.items ≡ m.statuses.items ++ RunStatus.Queued ∷ [] → HoldParked n
hold-new m n hold waiters items h has =
    let before : IsSome (ticket_of m.waiters h) = subst (λ (w : Waiting). IsSome (ticket_of w h)) waiters has in
    elim (cases_eq h (length m.statuses.items + 1)) [
      | inl e ↦ absurd (false≢true (sym (ap is_parked (numbered-next m.statuses.items h e)) ∙ hold h before))
      | inr other ↦ ap (λ xs. is_parked (numbered xs h)) items ∙ (ap is_parked (numbered-push_other m.statuses.items RunStatus.Queued h other) ∙ hold h before)
    ]

-- how many of a list pass a test, and it has one more, at which it fails
count-push : {X : Type 0} (p : X → Bool) (xs : List X) (x : X) → p x ≡ false → count_by p (xs ++ x ∷ []) ≡ count_by p xs
count-push p [] x fails = rw fails refl
count-push p (y ∷ ys) x fails =
    let rest : count_by p (ys ++ x ∷ []) ≡ count_by p ys = count-push p ys x fails in
    let before : count_by p (y ∷ ys) ≡ as_number (p y) + count_by p ys = count-cons p y ys in
    let after : count_by p (y ∷ (ys ++ x ∷ [])) ≡ as_number (p y) + count_by p (ys ++ x ∷ []) = count-cons p y (ys ++ x ∷ []) in
    omega arith

pub kept-new : (m : Scheduler) (statuses : Contents RunStatus) (run : queue.Contents) (marks : Contents (List ℕ)) → IsScheduler m
    → statuses.items ≡ m.statuses.items ++ RunStatus.Queued ∷ [] → statuses.spare + 1 ≡ m.statuses.spare
    → marks.items ≡ m.marks.items ++ [] ∷ [] → marks.spare + 1 ≡ m.marks.spare
    → run.members ≡ m.run_queue.members → length run.queues ≡ length m.run_queue.queues
    → IsScheduler (record m { statuses = statuses; run_queue = run; marks = marks })
kept-new m statuses run marks kept items spare mark_items mark_spare members queues =
    let n : Scheduler = record m { statuses = statuses; run_queue = run; marks = marks } in
    let more : length statuses.items ≡ length m.statuses.items + 1 = ap length items ∙ length-append m.statuses.items (RunStatus.Queued ∷ []) in
    let more_marks : length marks.items ≡ length m.marks.items + 1 = ap length mark_items ∙ length-append m.marks.items ([] ∷ []) in
    let room : capacity n ≡ capacity m = omega arith in
    let few : capacity m + length m.waiters.lists < 2 ^ 32 - 2 = kept.few in
    let as_many : length m.marks.items ≡ length m.statuses.items = kept.marks in
    let mark_room : length m.marks.items + m.marks.spare ≡ capacity m = kept.mark_room in
    record {
      running = kept.running ∙ sym (ap (count_by (λ (status : RunStatus). is_in_hand (Some status))) items ∙ count-push (λ (status : RunStatus). is_in_hand (Some status)) m.statuses.items RunStatus.Queued refl);
      members = members ∙ (kept.members ∙ ap (λ k. k + 1) (sym room));
      queues = queues ∙ kept.queues;
      goroutines = kept.goroutines ∙ sym room;
      lists = kept.lists;
      few = omega arith;
      parks = kept.parks;
      tickets = hold-new m n kept.tickets refl items;
      marks = omega arith;
      mark_room = omega arith;
    }

pub hold-first : (m : Scheduler) (goroutines lists : ℕ) → m.waiters ≡ nobody_waits goroutines lists → HoldParked m
hold-first m goroutines lists empty h has =
    let none : ticket_of m.waiters h ≡ None = ap (λ (w : Waiting). ticket_of w h) empty ∙ none-replicate (goroutines + 1) h in
    absurd (false≢true (sym (ap is_some none) ∙ has))

-- ---- a goroutine leaves all lists, and joins the run queue

behind-first : (x p : Party) (ps : List Party) → Contains ps p → Contains (x ∷ ps) p
behind-first x p ps h = (suc h.0, omega (arith, h.1), h.2)

pub without-absent : (g : ℕ) (ps : List Party) → ((p : Party) → Contains ps p → p.g ≢ g) → without_goroutine g ps ≡ ps
without-absent g [] absent = refl
without-absent g (x ∷ ps) absent =
    rw (ne_eqb x.g g (absent x (0, omega arith, refl)))
    (ap (λ qs. x ∷ qs) (without-absent g ps (λ p h. absent p (behind-first x p ps h))))

all-absent : (g : ℕ) (lists : List (List Party)) → ((list : ℕ) (p : Party) → Contains (parties_in lists list) p → p.g ≢ g) → map (without_goroutine g) lists ≡ lists
all-absent g [] absent = refl
all-absent g (x ∷ xs) absent =
    ap (λ y. y ∷ map (without_goroutine g) xs) (without-absent g x (absent 0)) ∙ ap (λ ys. x ∷ ys) (all-absent g xs (λ list. absent (suc list)))

-- who has no ticket stands nowhere
pub gone-already : (w : Waiting) (g : ℕ) → IsLawful w → ticket_of w g ≡ None → w ≡ gone w g
gone-already w g lawful none =
    let lists : map (without_goroutine g) w.lists ≡ w.lists =
    all-absent g w.lists (λ list p h e. false≢true (sym (ap is_some (ap (ticket_of w) e ∙ none)) ∙ lawful.live list p h)) in
    let tickets : set w.tickets g None ≡ w.tickets = ap (set w.tickets g) (sym none) ∙ set-get_or w.tickets g None in
    sym (ap (λ xs. record w { lists = xs; tickets = set w.tickets g None }) lists ∙ ap (λ xs. record w { tickets = xs }) tickets)

pub unparked-is : (m : Scheduler) (statuses : Contents RunStatus) (queue : queue.Contents) (w : Waiting) (g : ℕ) → IsScheduler m
    → statuses.items ≡ change_numbered m.statuses.items g (λ _. RunStatus.Queued)
    → queue.queues ≡ set m.run_queue.queues 0 (waiting_in m.run_queue.queues 0 ++ g ∷ [])
    → w ≡ gone m.waiters g
    → schedule_of (record m { statuses = statuses; run_queue = queue; waiters = w }) ≡ unparked (schedule_of m) g
unparked-is m statuses queue w g kept items queues now =
    let one : length m.run_queue.queues ≡ 1 = kept.queues in
    let run : List ℕ = waiting_in m.run_queue.queues 0 ++ g ∷ [] in
    schedule-is (schedule_of (record m { statuses = statuses; run_queue = queue; waiters = w })) (unparked (schedule_of m) g)
    items
    (ap (λ q. waiting_in q 0) queues ∙ get_or-set_same m.run_queue.queues 0 run [] (omega arith))
    (ap (λ (x : Waiting). take m.declared x.lists) now ∙ take-map (without_goroutine g) m.declared m.waiters.lists)
    (ap (λ (x : Waiting). drop m.declared x.lists) now ∙ drop-map (without_goroutine g) m.declared m.waiters.lists)
    refl
    refl
    refl

-- its ticket is gone, and the others have theirs
pub gone-own : (w : Waiting) (g : ℕ) → IsSome (ticket_of (gone w g) g) → ⊥
gone-own w g has =
    elim (cases_lt g (length w.tickets)) [
      | inl inside ↦ false≢true (sym (ap is_some (get_or-set_same w.tickets g None None inside)) ∙ has)
      | inr past ↦
          let size : length (set w.tickets g None) ≡ length w.tickets = length-set w.tickets g None in
          false≢true (sym (ap is_some (get_or_past (set w.tickets g None) g None (omega arith))) ∙ has)
    ]

pub gone-tickets : (w : Waiting) (g h : ℕ) → IsSome (ticket_of (gone w g) h) → IsSome (ticket_of w h)
gone-tickets w g h has =
    elim (cases_eq h g) [
      | inl e ↦ absurd (gone-own w g (subst (λ k. IsSome (ticket_of (gone w g) k)) e has))
      | inr other ↦ subst (λ (o : Option ℕ). IsSome o) (get_or-set_other w.tickets g h None None other) has
    ]

-- ---- the first schedule

pub begun-is : (m : Scheduler) (script : Script) (made : List (List ℕ)) (goroutines : ℕ) → m.statuses.items ≡ RunStatus.Queued ∷ [] → m.declared ≡ length script.decls
    → made ≡ replicate 1 []
    → m.run_queue.queues ≡ set made 0 (waiting_in made 0 ++ 1 ∷ []) → m.waiters ≡ nobody_waits goroutines (length script.decls + length script.decls)
    → m.parks ≡ 0 → m.marks.items ≡ [] ∷ [] → m.mutexes.items ≡ map (λ (d : Decl). mutex_in d.what) script.decls → schedule_of m ≡ first_schedule script
begun-is m script made goroutines statuses declared empty queues waiters parks marks mutexes =
    let d : ℕ = length script.decls in
    let left : (d + d) - d ≡ d = omega arith in
    schedule-is (schedule_of m) (first_schedule script)
    statuses
    (ap (λ q. waiting_in q 0) (queues ∙ ap (λ q. set q 0 (waiting_in q 0 ++ 1 ∷ [])) empty))
    (ap (λ (x : Waiting). take m.declared x.lists) waiters ∙ (ap (λ k. take k (replicate (d + d) [])) declared ∙ take-replicate d (d + d) [] (omega arith)))
    (ap (λ (x : Waiting). drop m.declared x.lists) waiters
    ∙ (ap (λ k. drop k (replicate (d + d) [])) declared ∙ (drop-replicate d (d + d) [] ∙ ap (λ k. replicate k []) left)))
    parks
    marks
    mutexes
