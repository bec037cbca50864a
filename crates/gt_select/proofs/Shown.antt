-- The lists as they are shown, after each call; and what is true of them at all times.
use Rattle.std.proofs.Common.{◌≡◌, ◌≢◌, ℕ, zero, suc, ◌+◌, ◌*◌, ◌/◌, ◌%◌, ◌<◌, ◌≤◌, Option, Some, None, IsSome, not, List, [], ◌∷◌, ◌++◌, length, map, get_or, set, replicate, refl, sym, ap, ◌∙◌, arith}
use Rattle.std.specs.Prelude.{nat_eq}
use Rattle.std.specs.List.{Contains, IsDistinct}
use Rattle.std.proofs.Math.Nat.{mod-lt}
use Rattle.std.proofs.lemmas.Bool.{eq-eqb, ne_eqb, false≢true}
use Rattle.std.proofs.lemmas.List.{map-set, map-append, set-get_or, get_or-map, length-map}
use Rattle.std.proofs.lemmas.Grind.{get_or_default_zero}
use Rattle.std.proofs.lemmas.Map.Keys.{IsDistinct-from_apart, apart_from_distinct}
use Rattle.slab.specs.Slab.{Slab, get, Updates}
use Rattle.gt_model.specs.declared.entry.Party.{Party}
use Rattle.gt_queue.specs.Contents.{Contents, IsWaiting, waiting_in, without}
use Rattle.gt_queue.specs.Contents as queue
use Rattle.gt_queue.proofs.Waiting.{pushed}
use Rattle.gt_select.specs.declared.nodes.Waiter.{Waiter}
use Rattle.gt_select.specs.Kept.{goroutine_of, party_at, lists_of, turn_at, turn_of, turns_of, without_key, AreTickets, ArePlaced}
use Rattle.gt_select.specs.Waiting.{Waiting, IsLawful, parties_in, is_party, without_party, without_goroutine}
use Rattle.gt_select.proofs.Parties.{some_value, parties_in-lists, turn_at-turns, Contains-map, map-Contains, is_party-other, map-agree, map-agree_on, map-map_agree, filter-all, none_of, map-without, map-without_key, same_node, key_known}

module _ (goroutines turns : ℕ) (keys places : List (Option ℕ)) (tickets : Slab Waiter) (c : Contents) (a : AreTickets goroutines turns keys tickets) (b : ArePlaced places tickets c) where
  abbrev at : ℕ → Party
  at = party_at tickets

  -- a party that stands in no list has a node that stands in no queue
  pub node_free : (p : Party) (node : ℕ) → at node ≡ p → ((q : ℕ) → Contains (parties_in (lists_of tickets c.queues) q) p → ⊥) → ¬ IsWaiting c.queues node
  node_free p node own nowhere w =
      nowhere w.0
      (rw (parties_in-lists tickets c.queues w.0)
      (rw own at (map-Contains at (waiting_in c.queues w.0) node w.1)))

  pub lists_of-joined : (queues' : List (List ℕ)) (q node : ℕ) (p : Party) → queues' ≡ pushed c.queues q node → at node ≡ p → lists_of tickets queues' ≡ set (lists_of tickets c.queues) q (parties_in (lists_of tickets c.queues) q ++ p ∷ [])
  lists_of-joined queues' q node p e own =
      let ws = waiting_in c.queues q in
      ap (lists_of tickets) e
      ∙ map-set (map at) c.queues q (ws ++ node ∷ [])
      ∙ ap (set (lists_of tickets c.queues) q)
      (map-append at ws (node ∷ []) ∙ ap (λ x. map at ws ++ x ∷ []) own ∙ ap (λ xs. xs ++ p ∷ []) (sym (parties_in-lists tickets c.queues q)))

  pub lists_of-left : (queues' : List (List ℕ)) (p : Party) (key : ℕ) → get_or keys p.g None ≡ Some key → p.case_no ≤ 16 → queues' ≡ map (λ waiting. without waiting (key * 17 + p.case_no)) c.queues → lists_of tickets queues' ≡ map (λ waiting. without_party waiting p) (lists_of tickets c.queues)
  lists_of-left queues' p key known small e =
      ap (lists_of tickets) e
      ∙ map-map_agree (map at) (map at) (λ waiting. without waiting (key * 17 + p.case_no)) (λ waiting. without_party waiting p) c.queues
      (λ q. map-without goroutines turns keys tickets a (waiting_in c.queues q) (b.ticketed q) p key known small)

  -- without a party of a goroutine that stands nowhere
  pub lists_of-absent : (p : Party) → get_or keys p.g None ≡ None → lists_of tickets c.queues ≡ map (λ waiting. without_party waiting p) (lists_of tickets c.queues)
  lists_of-absent p none =
      sym (all c.queues (λ q. filter-all goroutines turns keys tickets a (waiting_in c.queues q) (b.ticketed q) (λ other. not (is_party other p))
      (λ x h. ap not (is_party-other (at x) p (λ e. none_of goroutines turns keys tickets a (waiting_in c.queues q) (b.ticketed q) p.g none x h (ap (λ r. r.g) e))))))
    where
      all : (qs : List (List ℕ)) → ((q : ℕ) → without_party (map at (waiting_in qs q)) p ≡ map at (waiting_in qs q)) → map (λ waiting. without_party waiting p) (map (map at) qs) ≡ map (map at) qs
      all [] same = refl
      all (x ∷ qs) same = ap (λ y. y ∷ map (λ waiting. without_party waiting p) (map (map at) qs)) (same 0) ∙ ap (λ ys. map at x ∷ ys) (all qs (λ q. same (suc q)))

  pub lists_of-forgotten : (queues' : List (List ℕ)) (q g key : ℕ) → get_or keys g None ≡ Some key → queues' ≡ set c.queues q (without_key (waiting_in c.queues q) key) → lists_of tickets queues' ≡ set (lists_of tickets c.queues) q (without_goroutine (parties_in (lists_of tickets c.queues) q) g)
  lists_of-forgotten queues' q g key known e =
      let ws = waiting_in c.queues q in
      ap (lists_of tickets) e
      ∙ map-set (map at) c.queues q (without_key ws key)
      ∙ ap (set (lists_of tickets c.queues) q)
      (map-without_key goroutines turns keys tickets a ws (b.ticketed q) tickets g key known (λ x h n. refl) ∙ ap (λ xs. without_goroutine xs g) (sym (parties_in-lists tickets c.queues q)))

  pub lists_of-unknown : (q g : ℕ) → get_or keys g None ≡ None → lists_of tickets c.queues ≡ set (lists_of tickets c.queues) q (without_goroutine (parties_in (lists_of tickets c.queues) q) g)
  lists_of-unknown q g none =
      let ws = waiting_in c.queues q in
      let same = parties_in-lists tickets c.queues q in
      sym (ap (set (lists_of tickets c.queues) q)
      (ap (λ xs. without_goroutine xs g) same
      ∙ filter-all goroutines turns keys tickets a ws (b.ticketed q) (λ other. not (nat_eq other.g g))
      (λ x h. ap not (ne_eqb (at x).g g (none_of goroutines turns keys tickets a ws (b.ticketed q) g none x h)))
      ∙ sym same)
      ∙ set-get_or (lists_of tickets c.queues) q [])

  pub lists_of-gone : (queues' : List (List ℕ)) (tickets' : Slab Waiter) (g key : ℕ) → get_or keys g None ≡ Some key → queues' ≡ map (λ waiting. without_key waiting key) c.queues → Updates tickets tickets' key None → lists_of tickets' queues' ≡ map (λ waiting. without_goroutine waiting g) (lists_of tickets c.queues)
  lists_of-gone queues' tickets' g key known e u =
      ap (lists_of tickets') e
      ∙ map-map_agree (map at) (map (party_at tickets')) (λ waiting. without_key waiting key) (λ waiting. without_goroutine waiting g) c.queues
      (λ q. map-without_key goroutines turns keys tickets a (waiting_in c.queues q) (b.ticketed q) tickets' g key known
      (λ x h n. let mk : Option Waiter → Party = λ o. record { g = goroutine_of o; case_no = x % 17 } in ap mk (u.others (x / 17) n)))

  pub lists_of-given : (tickets' : Slab Waiter) (key : ℕ) (t : Waiter) → get tickets key ≡ None → Updates tickets tickets' key (Some t) → lists_of tickets' c.queues ≡ lists_of tickets c.queues
  lists_of-given tickets' key t vacant u =
      map-agree (map at) (map (party_at tickets')) c.queues []
      (λ q. map-agree_on at (party_at tickets') (waiting_in c.queues q)
      (λ x h.
      let mk : Option Waiter → Party = λ o. record { g = goroutine_of o; case_no = x % 17 } in
      let some = some_value (get tickets (x / 17)) (b.ticketed q x h) in
      ap mk (u.others (x / 17) (λ same. let no = sym some.1 ∙ ap (get tickets) same ∙ vacant in cc))))

  -- who stands in a list stands at a node
  pub at_node : (q : ℕ) (p : Party) → Contains (parties_in (lists_of tickets c.queues) q) p → (x : ℕ) × Contains (waiting_in c.queues q) x × (at x ≡ p)
  at_node q p h = Contains-map at (waiting_in c.queues q) p (rw (parties_in-lists tickets c.queues q) at h)

  pub IsLawful-shown : queue.IsLawful c → IsLawful (record { lists = lists_of tickets c.queues; tickets = turns_of tickets keys; turns = turns; goroutines = goroutines })
  IsLawful-shown l = record {
    live = λ q p h.
        let n = at_node q p h in
        let t = some_value (get tickets (n.0 / 17)) (b.ticketed q n.0 n.1) in
        let known = sym (ap (λ g. get_or keys g None) (ap (λ r. r.g) n.2)) ∙ key_known goroutines turns keys tickets a n.0 (b.ticketed q n.0 n.1) in
        let turn : get_or (turns_of tickets keys) p.g None ≡ Some t.0.turn = turn_at-turns tickets keys p.g ∙ ap (turn_at tickets) known ∙ ap turn_of t.1 in
        rw turn refl;
    case_no = λ q p h.
        let n = at_node q p h in
        let below = mod-lt n.0 {m = 17} (omega arith) in
        let same : n.0 % 17 ≡ p.case_no = ap (λ r. r.case_no) n.2 in
        omega arith;
    apart = λ m q p h k.
        let x = at_node m p h in
        let y = at_node q p k in
        let one = same_node goroutines turns keys tickets a x.0 y.0 (b.ticketed m x.0 x.1) (b.ticketed q y.0 y.1) (x.2 ∙ sym y.2) in
        l.apart m q y.0 (rw one at x.1) y.1;
    once = λ q. rw (parties_in-lists tickets c.queues q) (distinct (waiting_in c.queues q) (b.ticketed q) (l.once q));
    goroutines = length-map keys (turn_at tickets) ∙ a.size;
    earlier = λ g turn e. early g turn (get_or keys g None) refl e;
  }
    where
      distinct : (xs : List ℕ) → ((x : ℕ) → Contains xs x → IsSome (get tickets (x / 17))) → IsDistinct nat_eq xs → IsDistinct is_party (map at xs)
      distinct xs stands d =
          IsDistinct-from_apart is_party (map at xs)
          (λ i j p ij jl.
          let jl' : j < length xs = let e = length-map xs at in omega arith in
          let il' : i < length xs = omega arith in
          let x = get_or xs i 0 in
          let y = get_or xs j 0 in
          let n = apart_from_distinct nat_eq xs i j 0 d ij jl' in
          let differ : x ≢ y = λ e. false≢true (sym n ∙ eq-eqb x y e) in
          rw (get_or-map at xs i 0 p il', get_or-map at xs j 0 p jl')
          (is_party-other (at x) (at y) (λ e. differ (same_node goroutines turns keys tickets a x y (stands x (i, il', get_or_default_zero xs i x il')) (stands y (j, jl', get_or_default_zero xs j y jl')) e))))

      early : (g turn : ℕ) (o : Option ℕ) → get_or keys g None ≡ o → get_or (turns_of tickets keys) g None ≡ Some turn → turn ≤ turns
      early g turn None e is = let no = sym is ∙ turn_at-turns tickets keys g ∙ ap (turn_at tickets) e in absurd (cc)
      early g turn (Some key) e is =
          let t = a.keyed g key e in
          let same : Some turn ≡ Some t.0.turn = sym is ∙ turn_at-turns tickets keys g ∙ ap (turn_at tickets) e ∙ ap turn_of t.1 in
          let one : turn ≡ t.0.turn = cc in
          rw one (a.earlier key t.0 t.1)

-- nobody waits at first
pub lists_of-empty : (tickets : Slab Waiter) (n : ℕ) → lists_of tickets (replicate n []) ≡ replicate n []
lists_of-empty tickets zero = refl
lists_of-empty tickets (suc n) = ap (λ xs. [] ∷ xs) (lists_of-empty tickets n)

pub turns_of-empty : (tickets : Slab Waiter) (n : ℕ) → turns_of tickets (replicate n None) ≡ replicate n None
turns_of-empty tickets zero = refl
turns_of-empty tickets (suc n) = ap (λ xs. None ∷ xs) (turns_of-empty tickets n)

abbrev pub shown : List (List Party) → List (Option ℕ) → ℕ → ℕ → Waiting
shown lists tickets turns goroutines = record { lists = lists; tickets = tickets; turns = turns; goroutines = goroutines }
