-- Who waits in front of a member, and who came last: where the path comes from.
use Rattle.std.proofs.Common.{◌≡◌, ◌≢◌, ℕ, ◌+◌, ◌<◌, ◌≤◌, Some, None, List, [], ◌∷◌, length, get_or, refl, sym, ◌∙◌, ap, inl, inr, arith}
use Rattle.std.specs.List.{Contains, last_or}
use Rattle.std.proofs.lemmas.Bool.{cases_eq, eq-eqb, ne_eqb}
use Rattle.gt_queue.specs.Contents.{waiting_in, in_front}
use Rattle.gt_queue.specs.Links.{Leads, AreRings, IsLinked}
use Rattle.gt_queue.proofs.Members.{Contains-nil, Contains-here, Contains-there, Contains_cases}
use Rattle.gt_queue.proofs.Waiting.{queue_in}

pub in_front-same : (x m : ℕ) (xs : List ℕ) → x ≡ m → in_front (x ∷ xs) m ≡ []
in_front-same x m xs e = rw (eq-eqb x m e) refl

pub in_front-other : (x m : ℕ) (xs : List ℕ) → x ≢ m → in_front (x ∷ xs) m ≡ x ∷ in_front xs m
in_front-other x m xs n = rw (ne_eqb x m n) refl

-- who waits in front of a member waits
pub Contains-in_front : (m y : ℕ) (xs : List ℕ) → Contains (in_front xs m) y → Contains xs y
Contains-in_front m y [] h = h
Contains-in_front m y (x ∷ xs) h =
    elim (cases_eq x m) [
      | inl e ↦ Contains-nil y (rw (in_front-same x m xs e) at h)
      | inr n ↦
          elim (Contains_cases x y (in_front xs m) (rw (in_front-other x m xs n) at h)) [
            | inl f ↦ rw (← f) (Contains-here x xs)
            | inr g ↦ Contains-there x y xs (Contains-in_front m y xs g)
          ]
    ]

-- the last of a list is on it
pub Contains-from_last : (m : ℕ) (xs : List ℕ) → Some m ≡ last_or None xs → Contains xs m
Contains-from_last m [] e = absurd (cc)
Contains-from_last m (x ∷ xs) e = from x xs e
  where
    from : (y : ℕ) (ys : List ℕ) → Some m ≡ last_or (Some y) ys → Contains (y ∷ ys) m
    from y [] e = let same : y ≡ m = cc in rw (← same) (Contains-here y [])
    from y (z ∷ ys) e = Contains-there y m (z ∷ ys) (from z ys e)

Leads-in_front : (f : ℕ → ℕ) (m : ℕ) (xs : List ℕ) (node end : ℕ) → Contains xs m → Leads f node xs end → Leads f node (in_front xs m) m
unfolding Leads
Leads-in_front f m [] node end stands path = Contains-nil m stands
Leads-in_front f m (x ∷ xs) node end stands path =
    elim (cases_eq x m) [
      | inl e ↦ rw (in_front-same x m xs e) (path.0 ∙ e)
      | inr n ↦
          rw (in_front-other x m xs n)
          (elim (Contains_cases x m xs stands) [
            | inl e ↦ absurd (n e)
            | inr h ↦ (path.0, Leads-in_front f m xs (f x) end h path.1)
          ])
    ]

-- the node before the end of a path is its last one, or the one from which the path goes out
Leads-last : (next prev : List ℕ) → AreRings next prev → (xs : List ℕ) (from end : ℕ) → from < length next → Leads (λ k. get_or next k 0) (get_or next from 0) xs end → Some (get_or prev end 0) ≡ last_or (Some from) xs
unfolding Leads
Leads-last next prev r [] from end fl path = ap Some (ap (λ k. get_or prev k 0) (sym path) ∙ r.back from fl)
Leads-last next prev r (x ∷ xs) from end fl path =
    Leads-last next prev r xs x end (rw path.0 at (r.next_in from fl)) path.1

-- what stands last at a node is a member, or no member
pub record Ends (members : ℕ) (xs : List ℕ) (node : ℕ) : Type 0 where
  pub member : node < members → last_or None xs ≡ Some node
  pub nobody : members ≤ node → xs ≡ []

-- a path of members that goes out from a node that is no member's
Ends-path : (members from node : ℕ) (xs : List ℕ) → members ≤ from → ((x : ℕ) → Contains xs x → x < members) → Some node ≡ last_or (Some from) xs → Ends members xs node
Ends-path members from node [] above below last =
    let same : node ≡ from = cc in
    record {
      member = λ low. absurd (omega arith);
      nobody = λ high. refl;
    }
Ends-path members from node (x ∷ xs) above below last =
    let low = below node (Contains-from_last node (x ∷ xs) last) in
    record {
      member = λ l. sym last;
      nobody = λ high. absurd (omega arith);
    }

module _ (members : ℕ) (next prev : List ℕ) (queues : List (List ℕ)) (l : IsLinked members next prev queues) (q node : ℕ) where
  -- what stands before the node of a queue
  pub Ends-IsLinked : q < length queues → node ≡ get_or prev (members + q) 0 → Ends members (waiting_in queues q) node
  Ends-IsLinked ql read =
      let nodes = l.nodes in
      Ends-path members (members + q) node (waiting_in queues q) (omega arith)
      (λ x h. l.lawful.below q x h)
      (ap Some read ∙ Leads-last next prev l.rings (waiting_in queues q) (members + q) (members + q) (omega arith) (l.leads q ql))

  -- and before a member's node
  pub Ends-in_front : (m : ℕ) → Contains (waiting_in queues q) m → node ≡ get_or prev m 0 → Ends members (in_front (waiting_in queues q) m) node
  Ends-in_front m stands read =
      let nodes = l.nodes in
      let ql = queue_in queues q m stands in
      let xs = in_front (waiting_in queues q) m in
      let path = Leads-in_front (λ k. get_or next k 0) m (waiting_in queues q) (get_or next (members + q) 0) (members + q) stands (l.leads q ql) in
      Ends-path members (members + q) node xs (omega arith)
      (λ x h. l.lawful.below q x (Contains-in_front m x (waiting_in queues q) h))
      (ap Some read ∙ Leads-last next prev l.rings xs (members + q) m (omega arith) path)
