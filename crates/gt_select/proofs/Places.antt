-- The places of those that wait, after one joined, left or went on.
use Rattle.std.proofs.Common.{◌≡◌, ◌≢◌, ℕ, ◌*◌, ◌/◌, ◌%◌, ◌^◌, ◌<◌, ◌≤◌, ◌⊎◌, Option, Some, None, IsSome, List, [], ◌∷◌, length, map, get_or, set, replicate, length-set, get_or-set_same, get_or-set_other, refl, sym, ap, ◌∙◌, inl, inr, arith}
use Rattle.std.specs.List.{Contains}
use Rattle.std.proofs.Math.ListN.{get_or-map}
use Rattle.std.proofs.lemmas.Bool.{cases_eq, cases_lt}
use Rattle.std.proofs.lemmas.List.{get_or_past, get_or-replicate, length-replicate}
use Rattle.slab.specs.Slab.{Slab, get, Updates}
use Rattle.gt_queue.specs.Contents.{Contents, IsWaiting, waiting_in, without}
use Rattle.gt_queue.proofs.Members.{Contains-nil, Contains-here, Contains-there, Contains_cases, Contains-without}
use Rattle.gt_select.specs.declared.nodes.Waiter.{Waiter}
use Rattle.gt_select.specs.Kept.{without_key, ArePlaced}
use Rattle.gt_select.proofs.Runs.{without_key-same, without_key-other}
use Rattle.gt_select.proofs.Parties.{some_value}

-- who is left was there, and is another's
pub Contains-without_key : (key y : ℕ) (xs : List ℕ) → Contains (without_key xs key) y → Contains xs y × (y / 17 ≢ key)
Contains-without_key key y [] h = Contains-nil y h
Contains-without_key key y (x ∷ xs) h =
    elim (cases_eq (x / 17) key) [
      | inl e ↦
          let r = Contains-without_key key y xs (rw (without_key-same x key xs e) at h) in
          (Contains-there x y xs r.0, r.1)
      | inr n ↦
          elim (Contains_cases x y (without_key xs key) (rw (without_key-other x key xs n) at h)) [
            | inl e ↦ (rw (← e) (Contains-here x xs), λ same. n (ap (λ z. z / 17) e ∙ same))
            | inr g ↦ let r = Contains-without_key key y xs g in (Contains-there x y xs r.0, r.1)
          ]
    ]

module _ (places : List (Option ℕ)) (tickets : Slab Waiter) (c c' : Contents) (a : ArePlaced places tickets c) (members : c'.members ≡ c.members) where
  -- where nobody has joined
  pub ArePlaced-fewer : ((q y : ℕ) → Contains (waiting_in c'.queues q) y → Contains (waiting_in c.queues q) y) → ArePlaced places tickets c'
  ArePlaced-fewer old = record {
    nodes = members ∙ a.nodes;
    few = rw members a.few;
    size = a.size ∙ sym members;
    placed = λ q y h. a.placed q y (old q y h);
    ticketed = λ q y h. a.ticketed q y (old q y h);
    reached = λ k w e q y h. a.reached k w e q y (old q y h);
    small = a.small;
  }

  pub ArePlaced-left : (node : ℕ) → c'.queues ≡ map (λ waiting. without waiting node) c.queues → ArePlaced places tickets c'
  ArePlaced-left node e =
      ArePlaced-fewer (λ q y h.
      (Contains-without node y (waiting_in c.queues q) (rw (e, get_or-map (λ waiting. without waiting node) c.queues q []) at h)).0)

  pub ArePlaced-forgotten : (queue key : ℕ) → queue < length c.queues → c'.queues ≡ set c.queues queue (without_key (waiting_in c.queues queue) key) → ArePlaced places tickets c'
  ArePlaced-forgotten queue key ql e =
      let xs = without_key (waiting_in c.queues queue) key in
      ArePlaced-fewer (λ q y h.
      let now : Contains (waiting_in (set c.queues queue xs) q) y = rw e at h in
      elim (cases_eq q queue) [
        | inl same ↦ rw same (Contains-without_key key y (waiting_in c.queues queue) (rw (same, get_or-set_same c.queues queue xs [] ql) at now)).0
        | inr other ↦ rw (get_or-set_other c.queues queue q xs [] other) at now
      ])

  -- where all of a key have left, and then its ticket
  pub ArePlaced-gone : (key : ℕ) (tickets' : Slab Waiter) → c'.queues ≡ map (λ waiting. without_key waiting key) c.queues → Updates tickets tickets' key None → tickets'.capacity ≡ tickets.capacity → ArePlaced places tickets' c'
  ArePlaced-gone key tickets' e u capacity =
      let was : (q y : ℕ) → Contains (waiting_in c'.queues q) y → Contains (waiting_in c.queues q) y × (y / 17 ≢ key) = λ q y h.
      Contains-without_key key y (waiting_in c.queues q) (rw (e, get_or-map (λ waiting. without_key waiting key) c.queues q []) at h) in
      record {
        nodes = members ∙ a.nodes ∙ ap (λ n. n * 17) (sym capacity);
        few = rw members a.few;
        size = a.size ∙ sym members;
        placed = λ q y h. a.placed q y (was q y h).0;
        ticketed = λ q y h. let w = was q y h in rw (u.others (y / 17) w.1) (a.ticketed q y w.0);
        reached = λ k v now q y h of.
            let w = was q y h in
            a.reached k v (sym (u.others k (λ same. w.1 (of ∙ same))) ∙ now) q y w.0 of;
        small = λ k v now. a.small k v (sym (u.others k (λ same. let no = sym u.changed ∙ ap (get tickets') (sym same) ∙ now in cc)) ∙ now);
      }

  -- where one has joined, after its case was noted
  pub ArePlaced-joined : (queue node : ℕ) → node < c.members → ¬ IsWaiting c.queues node → IsSome (get tickets (node / 17)) → ((w : Waiter) → get tickets (node / 17) ≡ Some w → node % 17 ≤ w.most) → ((q y : ℕ) → Contains (waiting_in c'.queues q) y → Contains (waiting_in c.queues q) y ⊎ ((q ≡ queue) × (node ≡ y))) → ArePlaced (set places node (Some queue)) tickets c'
  ArePlaced-joined queue node nl free ticket noted was =
      let size = a.size in
      let inside : node < length places = omega arith in
      record {
        nodes = members ∙ a.nodes;
        few = rw members a.few;
        size = length-set places node (Some queue) ∙ a.size ∙ sym members;
        placed = λ q y h.
            elim (was q y h) [
              | inl old ↦ get_or-set_other places node y (Some queue) None (λ same. free (q, rw same at old)) ∙ a.placed q y old
              | inr new ↦ rw (← new.1, new.0) (get_or-set_same places node (Some queue) None inside)
            ];
        ticketed = λ q y h.
            elim (was q y h) [
              | inl old ↦ a.ticketed q y old
              | inr new ↦ rw (← new.1) ticket
            ];
        reached = λ k w now q y h of.
            elim (was q y h) [
              | inl old ↦ a.reached k w now q y old of
              | inr new ↦ rw (← new.1) (noted w (ap (λ n. get tickets (n / 17)) new.1 ∙ ap (get tickets) of ∙ now))
            ];
        small = a.small;
      }

-- where a ticket was given
pub ArePlaced-given : (places : List (Option ℕ)) (tickets tickets' : Slab Waiter) (c : Contents) (key : ℕ) (t : Waiter) → ArePlaced places tickets c → get tickets key ≡ None → t.most ≡ 0 → Updates tickets tickets' key (Some t) → tickets'.capacity ≡ tickets.capacity → ArePlaced places tickets' c
ArePlaced-given places tickets tickets' c key t a vacant none u capacity = record {
  nodes = a.nodes ∙ ap (λ n. n * 17) (sym capacity);
  few = a.few;
  size = a.size;
  placed = a.placed;
  ticketed = λ q y h.
      elim (cases_eq (y / 17) key) [
        | inl same ↦ rw (same, u.changed) refl
        | inr other ↦ rw (u.others (y / 17) other) (a.ticketed q y h)
      ];
  reached = λ k v now q y h of.
      elim (cases_eq k key) [
        | inl same ↦
            let some = some_value (get tickets (y / 17)) (a.ticketed q y h) in
            let no = sym some.1 ∙ ap (get tickets) (of ∙ same) ∙ vacant in
            absurd (cc)
        | inr other ↦ a.reached k v (sym (u.others k other) ∙ now) q y h of
      ];
  small = λ k v now.
      elim (cases_eq k key) [
        | inl same ↦
            let here : Some t ≡ Some v = sym u.changed ∙ ap (get tickets') (sym same) ∙ now in
            let is : t ≡ v = cc in
            let most = ap (λ w. w.most) is in
            omega arith
        | inr other ↦ a.small k v (sym (u.others k other) ∙ now)
      ];
}

pub empty_queue : (n q : ℕ) → get_or {A = List ℕ} (replicate n []) q [] ≡ []
empty_queue n q =
    elim (cases_lt q n) [
      | inl l ↦ get_or-replicate n q [] [] l
      | inr past ↦ get_or_past (replicate n []) q [] (omega (arith, length-replicate {A = List ℕ} n []))
    ]

pub ArePlaced-first : (nodes lists : ℕ) (tickets : Slab Waiter) (c : Contents) → c.queues ≡ replicate lists [] → c.members ≡ nodes → nodes ≡ tickets.capacity * 17 → nodes < 2 ^ 32 → tickets.slots ≡ [] → ArePlaced (replicate nodes None) tickets c
ArePlaced-first nodes lists tickets c empty members size few nobody = record {
  nodes = members ∙ size;
  few = rw members few;
  size = length-replicate {A = Option ℕ} nodes None ∙ sym members;
  placed = λ q y h. Contains-nil y (rw (empty, empty_queue lists q) at h);
  ticketed = λ q y h. Contains-nil y (rw (empty, empty_queue lists q) at h);
  reached = λ k w e q y h. Contains-nil y (rw (empty, empty_queue lists q) at h);
  small = λ k w e. let no = sym (ap (λ xs. get_or xs k None) nobody) ∙ e in absurd (cc);
}
