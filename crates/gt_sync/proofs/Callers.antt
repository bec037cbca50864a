-- What a caller makes of the clauses: who waits where after a call, and who may park.
use Rattle.std.proofs.Common.{◌≡◌, ◌≢◌, ℕ, ◌+◌, ◌<◌, ◌≤◌, ap, Option, Some, None, List, [], ◌∷◌, ◌++◌, drop, length, set, get_or-set_same, get_or-set_other, refl, sym, ◌∙◌, inl, inr}
use Rattle.std.specs.List.{Contains, slice_get}
use Rattle.std.proofs.lemmas.Bool.{cases_eq, cases_lt}
use Rattle.std.proofs.lemmas.List.{get_or_past, set_past}
use Rattle.std.proofs.lemmas.List.Elements.{Contains-push_cases, Contains-append_cases}
use Rattle.gt_queue.specs.Contents.{waiting_in, without}
use Rattle.gt_queue.proofs.Members.{Contains-nil, Contains-there, Contains-from_first, Contains-without, without-first}
use Rattle.gt_sync.specs.Waiting.{Waiting, waiters, queue_for, HasQueue, MayPark, Parks, IsQueueFor, IsLawful, no_waiters, queue_left, first_gone, all_woken, handed_out}
use Rattle.gt_sync.proofs.Room.{empty_list}

-- two objects have no queue in common
abbrev pub AreApart : Option ℕ → Option ℕ → Type 0
AreApart queue other = (n : ℕ) → queue ≡ Some n → other ≡ Some n → ⊥

-- where somebody waits there is a queue
queue_there : (qs : List (List ℕ)) (n : ℕ) → waiting_in qs n ≢ [] → n < length qs
queue_there qs n some =
    elim (cases_lt n (length qs)) [
      | inl l ↦ l
      | inr past ↦ absurd (some (get_or_past qs n [] past))
    ]

-- a list that gets no new member has none anywhere
set-members : (qs : List (List ℕ)) (n : ℕ) (xs : List ℕ) (k g : ℕ) → (Contains xs g → Contains (waiting_in qs n) g) → Contains (waiting_in (set qs n xs) k) g → Contains (waiting_in qs k) g
set-members qs n xs k g old h =
    elim (cases_lt n (length qs)) [
      | inl l ↦
          elim (cases_eq k n) [
            | inl same ↦ rw same (old (rw (same, get_or-set_same qs n xs [] l) at h))
            | inr other ↦ rw (get_or-set_other qs n k xs [] other) at h
          ]
      | inr past ↦ rw (set_past qs n xs past) at h
    ]

Contains-drop : (xs : List ℕ) (g : ℕ) → Contains (drop 1 xs) g → Contains xs g
Contains-drop [] g h = h
Contains-drop (x ∷ xs) g h = Contains-there x g xs h

-- another object keeps those that wait at it
kept_elsewhere : (qs : List (List ℕ)) (n m : ℕ) (xs : List ℕ) → (n ≡ m → ⊥) → waiting_in (set qs n xs) m ≡ waiting_in qs m
kept_elsewhere qs n m xs apart = get_or-set_other qs n m xs [] (λ e. apart (sym e))

-- the queue of one who parks is no other object's
number_apart : (q : Waiting) (queue : Option ℕ) (n m : ℕ) → HasQueue q (Some m) → AreApart queue (Some m) → IsQueueFor q queue n → n ≡ m → ⊥
number_apart q None n m here apart fits same = here (ap (waiting_in q.queues) (sym same) ∙ fits.1)
number_apart q (Some own) n m here apart fits same = apart m (ap Some (sym fits ∙ same)) refl

-- after a parking, g waits at the object behind those that waited there
pub waiters-parked : (q q' : Waiting) (queue queue' : Option ℕ) (g : ℕ) → HasQueue q queue → Parks q queue g q' queue' → waiters q' queue' ≡ waiters q queue ++ g ∷ []
waiters-parked q q' queue None g here p = absurd p
waiters-parked q q' None (Some n) g here p =
    rw p.1
    (get_or-set_same q.queues n (waiting_in q.queues n ++ g ∷ []) [] p.0.0 ∙ ap (λ xs. xs ++ g ∷ []) p.0.1)
waiters-parked q q' (Some own) (Some n) g here p =
    let there : n < length q.queues = rw (← p.0) at (queue_there q.queues own here) in
    rw p.1
    (get_or-set_same q.queues n (waiting_in q.queues n ++ g ∷ []) [] there ∙ ap (λ k. waiting_in q.queues k ++ g ∷ []) p.0)

-- another object has those that waited there, and no queue in common with this one
pub waiters-parked_other : (q q' : Waiting) (queue queue' other : Option ℕ) (g : ℕ) → HasQueue q other → AreApart queue other → Parks q queue g q' queue' → waiters q' other ≡ waiters q other
waiters-parked_other q q' queue None other g here apart p = absurd p
waiters-parked_other q q' queue (Some n) None g here apart p = refl
waiters-parked_other q q' queue (Some n) (Some m) g here apart p =
    rw p.1 (kept_elsewhere q.queues n m (waiting_in q.queues n ++ g ∷ []) (number_apart q queue n m here apart p.0))

pub AreApart-parked : (q q' : Waiting) (queue queue' other : Option ℕ) (g : ℕ) → HasQueue q other → AreApart queue other → Parks q queue g q' queue' → AreApart queue' other
AreApart-parked q q' queue None other g here apart p n e f = p
AreApart-parked q q' queue (Some n) None g here apart p k e f = cc
AreApart-parked q q' queue (Some n) (Some m) g here apart p k e f =
    number_apart q queue n m here apart p.0 cc

-- after the first has left, the others wait at the object
pub waiters-gone : (q : Waiting) (queue : Option ℕ) → HasQueue q queue → waiters (first_gone q queue) (queue_left q queue) ≡ drop 1 (waiters q queue)
waiters-gone q None here = refl
waiters-gone q (Some n) here = go (drop 1 (waiting_in q.queues n)) refl
  where
    go : (xs : List ℕ) → xs ≡ drop 1 (waiting_in q.queues n) → waiters (first_gone q (Some n)) (queue_for xs (Some n)) ≡ drop 1 (waiting_in q.queues n)
    go [] e = e
    go (x ∷ xs) e = get_or-set_same q.queues n (drop 1 (waiting_in q.queues n)) [] (queue_there q.queues n here)

pub waiters-gone_other : (q : Waiting) (queue other : Option ℕ) → AreApart queue other → waiters (first_gone q queue) other ≡ waiters q other
waiters-gone_other q None other apart = refl
waiters-gone_other q (Some n) None apart = refl
waiters-gone_other q (Some n) (Some m) apart =
    kept_elsewhere q.queues n m (drop 1 (waiting_in q.queues n)) (λ e. apart m (ap Some e) refl)

pub AreApart-gone : (q : Waiting) (queue other : Option ℕ) → AreApart queue other → AreApart (queue_left q queue) other
AreApart-gone q queue other apart = go (drop 1 (waiters q queue))
  where
    go : (xs : List ℕ) → AreApart (queue_for xs queue) other
    go [] n e f = cc
    go (x ∷ xs) n e f = apart n e f

-- after all were woken, the other objects have those that waited there
pub waiters-woken_other : (q : Waiting) (queue other : Option ℕ) → AreApart queue other → waiters (all_woken q queue) other ≡ waiters q other
waiters-woken_other q None other apart = refl
waiters-woken_other q (Some n) None apart = refl
waiters-woken_other q (Some n) (Some m) apart =
    kept_elsewhere q.queues n m [] (λ e. apart m (ap Some e) refl)

-- who waits at an object does so after each change of another
pub HasQueue-same : (q q' : Waiting) (other : Option ℕ) → waiters q' other ≡ waiters q other → HasQueue q other → HasQueue q' other
HasQueue-same q q' None same here = here
HasQueue-same q q' (Some m) same here = λ e. here (sym same ∙ e)

-- who may park at first, and after each change
pub MayPark-no_waiters : (goroutines g : ℕ) → 1 ≤ g → g ≤ goroutines → MayPark (no_waiters goroutines) g
MayPark-no_waiters goroutines g first last = record {
  first = first;
  last = last;
  waits_nowhere = λ n h. Contains-nil g (rw (empty_list (goroutines + 1) n) at h);
  handed_out = λ h. Contains-nil g h;
}

pub MayPark-parked : (q q' : Waiting) (queue queue' : Option ℕ) (g h : ℕ) → Parks q queue g q' queue' → h ≢ g → MayPark q h → MayPark q' h
MayPark-parked q q' queue None g h p other may = absurd p
MayPark-parked q q' queue (Some n) g h p other may =
    rw p.1
    (record {
      first = may.first;
      last = may.last;
      waits_nowhere = λ k c.
          may.waits_nowhere k
          (set-members q.queues n (waiting_in q.queues n ++ g ∷ []) k h
          (λ d. elim (Contains-push_cases (waiting_in q.queues n) g h d) [ inl old ↦ old | inr new ↦ absurd (other (sym new)) ])
          c);
      handed_out = may.handed_out;
    })

pub MayPark-gone : (q : Waiting) (queue : Option ℕ) (h : ℕ) → MayPark q h → MayPark (first_gone q queue) h
MayPark-gone q None h may = may
MayPark-gone q (Some n) h may = record {
  first = may.first;
  last = may.last;
  waits_nowhere = λ k c. may.waits_nowhere k (set-members q.queues n (drop 1 (waiting_in q.queues n)) k h (Contains-drop (waiting_in q.queues n) h) c);
  handed_out = may.handed_out;
}

pub MayPark-woken : (q : Waiting) (queue : Option ℕ) (h : ℕ) → (Contains (waiters q queue) h → ⊥) → MayPark q h → MayPark (all_woken q queue) h
MayPark-woken q None h waits may = may
MayPark-woken q (Some n) h waits may = record {
  first = may.first;
  last = may.last;
  waits_nowhere = λ k c. may.waits_nowhere k (set-members q.queues n [] k h (λ d. Contains-nil h d) c);
  handed_out = λ c. elim (Contains-append_cases q.woken (waiting_in q.queues n) h c) [ inl old ↦ may.handed_out old | inr new ↦ waits new ];
}

pub MayPark-handed_out : (q : Waiting) (h : ℕ) → MayPark q h → MayPark (handed_out q) h
MayPark-handed_out q h may = record {
  first = may.first;
  last = may.last;
  waits_nowhere = may.waits_nowhere;
  handed_out = λ c. may.handed_out (Contains-drop q.woken h c);
}

-- so may the one that left
pub MayPark-left : (q : Waiting) (queue : Option ℕ) (g : ℕ) → IsLawful q → HasQueue q queue → 1 ≤ g → Some g ≡ slice_get (waiters q queue) 0 → MayPark (first_gone q queue) g
MayPark-left q None g lawful here first e = absurd (cc)
MayPark-left q (Some n) g lawful here first e =
    let stands = Contains-from_first g (waiting_in q.queues n) e in
    record {
      first = first;
      last = lawful.below n g stands;
      waits_nowhere = λ k c.
          elim (cases_eq k n) [
            | inl same ↦
                let left : waiting_in (set q.queues n (drop 1 (waiting_in q.queues n))) n ≡ without (waiting_in q.queues n) g =
                get_or-set_same q.queues n (drop 1 (waiting_in q.queues n)) [] (queue_there q.queues n here)
                ∙ sym (without-first g (waiting_in q.queues n) e (lawful.once n)) in
                (Contains-without g g (waiting_in q.queues n) (rw (same, left) at c)).1 refl
            | inr other ↦
                other
                (lawful.apart k n g
                (rw (get_or-set_other q.queues n k (drop 1 (waiting_in q.queues n)) [] other) at c)
                stands)
          ];
      handed_out = λ c. lawful.woken_apart n g c stands;
    }

-- and the one that was handed out
pub MayPark-taken : (q : Waiting) (g : ℕ) → IsLawful q → 1 ≤ g → Some g ≡ slice_get q.woken 0 → MayPark (handed_out q) g
MayPark-taken q g lawful first e =
    let stands = Contains-from_first g q.woken e in
    record {
      first = first;
      last = lawful.woken_below g stands;
      waits_nowhere = λ k c. lawful.woken_apart k g stands c;
      handed_out = λ c. (Contains-without g g q.woken (rw (← (without-first g q.woken e lawful.woken_once)) at c)).1 refl;
    }
