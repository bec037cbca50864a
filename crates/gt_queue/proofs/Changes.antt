-- The links make the queues that the calls promise.
use Rattle.std.proofs.Common.{◌≡◌, ◌≢◌, ℕ, ◌+◌, ◌-◌, ◌^◌, ◌<◌, eqb, List, [], ◌∷◌, ◌++◌, length, get_or, replicate, length-set, zero-add, refl, sym, ◌∙◌, ap, inl, inr, arith}
use Rattle.std.specs.List.{Contains, swap, range_with_len}
use Rattle.std.proofs.lemmas.Bool.{cases_eq, cases_lt}
use Rattle.std.proofs.lemmas.List.{length-replicate, get_or-replicate, get_or_past}
use Rattle.std.proofs.lemmas.List.Edits.{Swapped, swapped_from_swap, length-swap}
use Rattle.std.proofs.lemmas.List.FromFn.{fill_by_all, length-range_with_len, get_or-range_with_len}
use Rattle.std.proofs.lemmas.Map.Keys.{IsDistinct-from_apart}
use Rattle.gt_queue.specs.Contents.{waiting_in, IsWaiting, without}
use Rattle.gt_queue.specs.Links.{walk, linked_queues, Leads, AreRings, IsLinked}
use Rattle.gt_queue.proofs.Members.{Contains-nil, length-le_from_distinct}
use Rattle.gt_queue.proofs.Paths.{walk-leads, passing, passing-same, passing-other, Begins, Goes, Leads-first, Leads-nothing, Leads-push, Leads-other, Leads-without, Leads-not_alone}
use Rattle.gt_queue.proofs.Rings.{AreInverse, AreInverse-from_rings, AreInverse-swapped, same_place}
use Rattle.gt_queue.proofs.Waiting.{queue_in, pushed, removed, waiting_in-pushed_same, waiting_in-pushed_other, kept_by_push, added_by_push, IsLawful-pushed, waiting_in-removed, kept_by_remove, IsLawful-removed}

-- the walks find the queues that the links make
pub linked_queues-IsLinked : (members : ℕ) (next prev : List ℕ) (queues : List (List ℕ)) → IsLinked members next prev queues → linked_queues members next ≡ queues
unfolding linked_queues
linked_queues-IsLinked members next prev queues l =
    sym (fill_by_all
    (λ q. walk (λ k. get_or next k 0) members members (get_or next (members + q) 0))
    queues
    (length next - members)
    []
    (omega (arith, l.nodes))
    (λ k kl. sym (walk-leads
    (λ i. get_or next i 0)
    members
    (waiting_in queues k)
    (get_or next (members + k) 0)
    (members + k)
    members
    (omega arith)
    (λ x h. l.lawful.below k x h)
    (length-le_from_distinct members (waiting_in queues k) (l.lawful.once k) (λ y h. l.lawful.below k y h))
    (l.leads k (omega (arith, l.nodes))))))

-- an exchange leaves rings
pub AreRings-swapped : (next prev : List ℕ) (x y : ℕ) → x < length next → y < length next → AreRings next prev → AreRings (swap next (get_or prev x 0) (get_or prev y 0)) (swap prev x y)
AreRings-swapped next prev x y xl yl r =
    let next' = swap next (get_or prev x 0) (get_or prev y 0) in
    let prev' = swap prev x y in
    let xp : x < length prev = omega (arith, r.as_many) in
    let yp : y < length prev = omega (arith, r.as_many) in
    let s = swapped_from_swap next next' (get_or prev x 0) (get_or prev y 0) 0 (r.prev_in x xl) (r.prev_in y yl) refl in
    let t = swapped_from_swap prev prev' x y 0 xp yp refl in
    let i = AreInverse-swapped (length next) (λ k. get_or next k 0) (λ k. get_or prev k 0) (λ k. get_or next' k 0) (λ k. get_or prev' k 0) x y xl yl (AreInverse-from_rings next prev r) s t in
    let n = length-swap next (get_or prev x 0) (get_or prev y 0) in
    let p = length-swap prev x y in
    record {
      as_many = p ∙ r.as_many ∙ sym n;
      next_in = λ k kl. rw n (i.f_in k (rw n at kl));
      prev_in = λ k kl. rw n (i.g_in k (rw n at kl));
      back = λ k kl. i.back k (rw n at kl);
      forth = λ k kl. i.forth k (rw n at kl);
    }

module _ (members : ℕ) (next prev : List ℕ) (queues : List (List ℕ)) (l : IsLinked members next prev queues) where
  abbrev after : ℕ → ℕ
  after k = get_or next k 0

  abbrev before : ℕ → ℕ
  before k = get_or prev k 0

  abbrev after_exchange : ℕ → ℕ → ℕ → ℕ
  after_exchange x y k = get_or (swap next (before x) (before y)) k 0

  inverse : AreInverse (length next) after before
  inverse = AreInverse-from_rings next prev l.rings

  exchanged : (x y : ℕ) → x < length next → y < length next → Swapped after (after_exchange x y) (before x) (before y)
  exchanged x y xl yl =
      swapped_from_swap next (swap next (before x) (before y)) (before x) (before y) 0 (l.rings.prev_in x xl) (l.rings.prev_in y yl) refl

  -- who stands in no queue is alone
  alone_if_free : (m : ℕ) → m < members → (IsWaiting queues m → ⊥) → after m ≡ m
  alone_if_free m ml free =
      elim (cases_eq (after m) m) [ inl e ↦ e | inr n ↦ absurd (free (l.alone m ml n)) ]

  -- who stands in one is not
  pub not_alone_if_waiting : (q m : ℕ) → Contains (waiting_in queues q) m → after m ≢ m
  not_alone_if_waiting q m stands itself =
      let ql = queue_in queues q m stands in
      let ml = l.lawful.below q m stands in
      let nodes = l.nodes in
      Leads-not_alone after m (length next) l.rings.next_in (same_place (length next) after before inverse) (omega arith) itself (waiting_in queues q) (members + q) (members + q) (omega arith) (λ e. absurd (omega arith)) (l.leads q ql) stands

  module _ (place m : ℕ) (pl : place < length next) (ml : m < members) (free : IsWaiting queues m → ⊥) where
    -- where m comes to stand before a place, from each node but m
    pub joined_goes : (k : ℕ) → k < length next → k ≢ m → after_exchange place m k ≡ passing place m (after k)
    joined_goes k kl n =
        let nodes = l.nodes in
        let s = exchanged place m pl (omega arith) in
        let itself = alone_if_free m ml free in
        let back : before m ≡ m = rw itself at (l.rings.back m (omega arith)) in
        let place_after : after (before place) ≡ place = l.rings.forth place pl in
        elim (cases_eq k (before place)) [
          | inl e ↦ rw e (s.0 ∙ rw back itself ∙ sym (passing-same place m (after (before place)) place_after))
          | inr other ↦
              s.2 k other (λ e. n (e ∙ back))
              ∙ sym (passing-other place m (after k)
              (λ e. other (same_place (length next) after before inverse k (before place) kl (l.rings.prev_in place pl) (e ∙ sym place_after))))
        ]

    -- and from m
    pub joined_to : after_exchange place m m ≡ place
    joined_to =
        let nodes = l.nodes in
        let s = exchanged place m pl (omega arith) in
        let back : before m ≡ m = rw (alone_if_free m ml free) at (l.rings.back m (omega arith)) in
        ap (after_exchange place m) (sym back) ∙ s.1 ∙ l.rings.forth place pl

  module _ (q m : ℕ) (ql : q < length queues) (ml : m < members) (free : IsWaiting queues m → ⊥) where
    pushed_goes : (k : ℕ) → k < length next → k ≢ m → after_exchange (members + q) m k ≡ passing (members + q) m (after k)
    pushed_goes = joined_goes (members + q) m (let nodes = l.nodes in omega arith) ml free

    -- as from each that stands in a queue
    waiting_goes : (p k : ℕ) → Contains (waiting_in queues p) k → Goes after (after_exchange (members + q) m) m (members + q) k
    waiting_goes p k h =
        let nodes = l.nodes in
        let kl = l.lawful.below p k h in
        let other : k ≢ m = λ e. free (p, rw e at h) in
        record {
          not_m = other;
          not_last = λ e. absurd (omega arith);
          to = pushed_goes k (omega arith) other;
        }

    pub IsLinked-pushed : IsLinked members (swap next (before (members + q)) (before m)) (swap prev (members + q) m) (pushed queues q m)
    IsLinked-pushed =
        let nodes = l.nodes in
        let few = l.few in
        let ends : after_exchange (members + q) m m ≡ members + q = joined_to (members + q) m (omega arith) ml free in
        let count : length (pushed queues q m) ≡ length queues = length-set queues q (waiting_in queues q ++ m ∷ []) in
        let size = length-swap next (before (members + q)) (before m) in
        record {
          nodes = omega arith;
          few = omega arith;
          rings = AreRings-swapped next prev (members + q) m (omega arith) (omega arith) l.rings;
          leads = λ p pl.
              let pq : p < length queues = omega arith in
              let start = pushed_goes (members + p) (omega arith) (λ e. absurd (omega arith)) in
              rw start
              (elim (cases_eq p q) [
                | inl e ↦
                    rw (waiting_in-pushed_same queues q m p ql e)
                    (rw e
                    (Leads-push after (after_exchange (members + q) m) m (members + q) ends (waiting_in queues q) (after (members + q)) (waiting_goes q) (l.leads q ql)))
                | inr n ↦
                    rw (waiting_in-pushed_other queues q m p n)
                    (Leads-other after (after_exchange (members + q) m) m (members + q) (waiting_in queues p) (after (members + p)) (members + p) (λ e. n (omega arith)) (waiting_goes p) (l.leads p pq))
              ]);
          alone = λ k kl moves.
              elim (cases_eq k m) [
                | inl e ↦ rw e (q, added_by_push queues q m ql)
                | inr n ↦
                    let w = l.alone k kl (λ itself. moves (pushed_goes k (omega arith) n ∙ ap (passing (members + q) m) itself ∙ passing-other (members + q) m k (λ e. absurd (omega arith)))) in
                    (w.0, kept_by_push queues q m w.0 k ql w.1)
              ];
          lawful = IsLawful-pushed queues q m members ql ml free l.lawful;
        }

  module _ (q m : ℕ) (stands : Contains (waiting_in queues q) m) where
    -- from each node but m
    removed_goes : (k : ℕ) → k < length next → k ≢ m → after_exchange m (after m) k ≡ passing m (after m) (after k)
    removed_goes k kl n =
        let nodes = l.nodes in
        let ml : m < length next = let below = l.lawful.below q m stands in omega arith in
        let s = exchanged m (after m) ml (l.rings.next_in m ml) in
        let back = l.rings.back m ml in
        let forth = l.rings.forth m ml in
        elim (cases_eq k (before m)) [
          | inl e ↦ rw e (s.0 ∙ ap after back ∙ sym (passing-same m (after m) (after (before m)) forth))
          | inr other ↦
              s.2 k other (λ e. n (e ∙ back))
              ∙ sym (passing-other m (after m) (after k)
              (λ e. other (same_place (length next) after before inverse k (before m) kl (l.rings.prev_in m ml) (e ∙ sym forth))))
        ]

    pub IsLinked-removed : IsLinked members (swap next (before m) (before (after m))) (swap prev m (after m)) (removed queues q m)
    IsLinked-removed =
        let nodes = l.nodes in
        let few = l.few in
        let below = l.lawful.below q m stands in
        let ml : m < length next = omega arith in
        let s = exchanged m (after m) ml (l.rings.next_in m ml) in
        let back : after_exchange m (after m) m ≡ after (before m) = ap (after_exchange m (after m)) (sym (l.rings.back m ml)) ∙ s.1 in
        let itself : after_exchange m (after m) m ≡ m = back ∙ l.rings.forth m ml in
        let count : length (removed queues q m) ≡ length queues = length-set queues q (without (waiting_in queues q) m) in
        let size = length-swap next (before m) (before (after m)) in
        record {
          nodes = omega arith;
          few = omega arith;
          rings = AreRings-swapped next prev m (after m) ml (l.rings.next_in m ml) l.rings;
          leads = λ p pl.
              let pq : p < length queues = omega arith in
              let start = removed_goes (members + p) (omega arith) (λ e. absurd (omega arith)) in
              rw (start, waiting_in-removed queues q m members p stands l.lawful)
              (Leads-without after (after_exchange m (after m)) m (not_alone_if_waiting q m stands) (waiting_in queues p) (after (members + p)) (members + p)
              (λ e. absurd (omega arith))
              (λ k h n. let kl = l.lawful.below p k h in removed_goes k (omega arith) n)
              (l.leads p pq));
          alone = λ k kl moves.
              elim (cases_eq k m) [
                | inl e ↦ absurd (moves (rw e itself))
                | inr n ↦
                    let w = l.alone k kl (λ alone. moves (removed_goes k (omega arith) n ∙ ap (passing m (after m)) alone ∙ passing-other m (after m) k n)) in
                    (w.0, kept_by_remove queues q m members w.0 k stands l.lawful n w.1)
              ];
          lawful = IsLawful-removed queues q m members stands l.lawful;
        }

-- each node alone makes empty queues
pub IsLinked-alone : (members queues : ℕ) → members + queues < 2 ^ 32 → IsLinked members (range_with_len 0 (members + queues)) (range_with_len 0 (members + queues)) (replicate queues [])
unfolding Leads
IsLinked-alone members queues few =
    let count = length-range_with_len 0 (members + queues) in
    let itself : (k : ℕ) → k < length (range_with_len 0 (members + queues)) → get_or (range_with_len 0 (members + queues)) k 0 ≡ k = λ k kl. get_or-range_with_len 0 (members + queues) k 0 (omega arith) ∙ zero-add k in
    let empty : (q : ℕ) → waiting_in (replicate queues []) q ≡ [] = λ q.
    elim (cases_lt q queues) [
      | inl ql ↦ get_or-replicate queues q [] [] ql
      | inr past ↦ get_or_past (replicate queues []) q [] (omega (arith, length-replicate {A = List ℕ} queues []))
    ] in
    let size = length-replicate {A = List ℕ} queues [] in
    record {
      nodes = omega arith;
      few = omega arith;
      rings = record {
        as_many = refl;
        next_in = λ k kl. rw (itself k kl) kl;
        prev_in = λ k kl. rw (itself k kl) kl;
        back = λ k kl. rw (itself k kl) (itself k kl);
        forth = λ k kl. rw (itself k kl) (itself k kl);
      };
      leads = λ q ql. rw (empty q) (itself (members + q) (omega arith));
      alone = λ m ml moves. absurd (moves (itself m (omega arith)));
      lawful = record {
        below = λ q m h. Contains-nil m (rw (empty q) at h);
        apart = λ p q m h k. Contains-nil m (rw (empty p) at h);
        once = λ q. rw (empty q) (IsDistinct-from_apart eqb [] (λ i j d ij jl. absurd (omega arith)));
      };
    }

-- the links after a call: they make the queues that they show, and these are the queues that the call promises
pub record Makes (members : ℕ) (next prev : List ℕ) (queues : List (List ℕ)) : Type 0 where
  pub linked : IsLinked members next prev (linked_queues members next)
  pub shown : linked_queues members next ≡ queues

pub Makes-linked : (members : ℕ) (next prev : List ℕ) (queues : List (List ℕ)) → IsLinked members next prev queues → Makes members next prev queues
Makes-linked members next prev queues l =
    let shown = linked_queues-IsLinked members next prev queues l in
    record { linked = rw shown l; shown = shown }

module _ (members : ℕ) (next prev next' prev' : List ℕ) (l : IsLinked members next prev (linked_queues members next)) where
  abbrev queues : List (List ℕ)
  queues = linked_queues members next

  pub Makes-pushed : (q m : ℕ) → q < length queues → m < members → (IsWaiting queues m → ⊥) → next' ≡ swap next (get_or prev (members + q) 0) (get_or prev m 0) → prev' ≡ swap prev (members + q) m → Makes members next' prev' (pushed queues q m)
  Makes-pushed q m ql ml free n p =
      rw (n, p)
      (Makes-linked members _ _ (pushed queues q m) (IsLinked-pushed members next prev queues l q m ql ml free))

  pub Makes-removed : (q m : ℕ) → Contains (waiting_in queues q) m → next' ≡ swap next (get_or prev m 0) (get_or prev (get_or next m 0) 0) → prev' ≡ swap prev m (get_or next m 0) → Makes members next' prev' (removed queues q m)
  Makes-removed q m stands n p =
      rw (n, p)
      (Makes-linked members _ _ (removed queues q m) (IsLinked-removed members next prev queues l q m stands))

-- what stands after the node of a queue
pub Begins-IsLinked : (members : ℕ) (next prev : List ℕ) (queues : List (List ℕ)) → IsLinked members next prev queues → (q node : ℕ) → q < length queues → node ≡ get_or next (members + q) 0 → Begins members (waiting_in queues q) node
Begins-IsLinked members next prev queues l q node ql read =
    let path = rw (← read) at (l.leads q ql) in
    record {
      member = λ low. Leads-first (λ k. get_or next k 0) members (waiting_in queues q) node (members + q) (omega arith) low path;
      nobody = λ high. Leads-nothing (λ k. get_or next k 0) members (waiting_in queues q) node (members + q) (λ x h. l.lawful.below q x h) high path;
    }

pub Makes-alone : (members queues : ℕ) (next prev : List ℕ) → members + queues < 2 ^ 32 → next ≡ range_with_len 0 (members + queues) → prev ≡ range_with_len 0 (members + queues) → Makes members next prev (replicate queues [])
Makes-alone members queues next prev few n p =
    rw (n, p) (Makes-linked members _ _ (replicate queues []) (IsLinked-alone members queues few))
