-- The tickets after it was noted of a goroutine that it comes to wait under a number of a case: nobody's ticket is another one.
use Rattle.std.proofs.Common.{◌≡◌, ℕ, ◌+◌, ◌*◌, ◌/◌, ◌%◌, ◌≤◌, max, Option, Some, None, IsSome, is_some, cond, List, [], map, get_or, refl, sym, ap, ◌∙◌, inl, inr, arith}
use Rattle.std.proofs.lemmas.Bool.{cases_eq}
use Rattle.std.proofs.lemmas.List.Sums.{sum_by-set}
use Rattle.slab.specs.Slab.{Slab, get, slab_len, with_value, Updates}
use Rattle.slab.proofs.SlabLemmas.{ContainsKey-within, Updates-with_value}
use Rattle.gt_model.specs.declared.entry.Party.{Party}
use Rattle.gt_queue.specs.Contents.{Contents, waiting_in}
use Rattle.gt_select.specs.declared.nodes.Waiter.{Waiter}
use Rattle.gt_select.specs.Kept.{goroutine_of, party_at, lists_of, turn_of, turn_at, turns_of, raised, AreTickets, ArePlaced}
use Rattle.gt_select.proofs.Parties.{map-agree, map-agree_on, key_of-node, case_of-node}

module _ (tickets : Slab Waiter) (key case_no : ℕ) (w : Waiter) (known : get tickets key ≡ Some w) where
  abbrev pub noted : Slab Waiter
  noted = with_value tickets key (raised w case_no)

  has : IsSome (get tickets key)
  has = rw known refl

  updates : Updates tickets noted key (Some (raised w case_no))
  updates = Updates-with_value tickets key (raised w case_no) has

  is_raised : (k : ℕ) (v : Waiter) → k ≡ key → get noted k ≡ Some v → raised w case_no ≡ v
  is_raised k v same e =
      let here : Some (raised w case_no) ≡ Some v = sym updates.changed ∙ ap (get noted) (sym same) ∙ e in
      cc

  -- whoever has a ticket had it before
  was : (k : ℕ) (v : Waiter) → get noted k ≡ Some v → (u : Waiter) × (get tickets k ≡ Some u) × (u.g ≡ v.g) × (u.turn ≡ v.turn)
  was k v e =
      elim (cases_eq k key) [
        | inl same ↦
            let is = is_raised k v same e in
            (w, ap (get tickets) same ∙ known, ap (λ u. u.g) is, ap (λ u. u.turn) is)
        | inr other ↦ (v, sym (updates.others k other) ∙ e, refl, refl)
      ]

  same_goroutine : (k : ℕ) → goroutine_of (get noted k) ≡ goroutine_of (get tickets k)
  same_goroutine k =
      elim (cases_eq k key) [
        | inl same ↦ rw (same, known) (ap goroutine_of updates.changed)
        | inr other ↦ ap goroutine_of (updates.others k other)
      ]

  same_turn : (k : ℕ) → turn_of (get noted k) ≡ turn_of (get tickets k)
  same_turn k =
      elim (cases_eq k key) [
        | inl same ↦ rw (same, known) (ap turn_of updates.changed)
        | inr other ↦ ap turn_of (updates.others k other)
      ]

  pub party_at-noted : (node : ℕ) → party_at noted node ≡ party_at tickets node
  party_at-noted node =
      let mk : ℕ → Party = λ g. record { g = g; case_no = node % 17 } in
      ap mk (same_goroutine (node / 17))

  pub lists_of-noted : (queues : List (List ℕ)) → lists_of noted queues ≡ lists_of tickets queues
  lists_of-noted queues =
      map-agree (map (party_at tickets)) (map (party_at noted)) queues []
      (λ q. map-agree_on (party_at tickets) (party_at noted) (waiting_in queues q) (λ x h. party_at-noted x))

  pub turns_of-noted : (keys : List (Option ℕ)) → turns_of noted keys ≡ turns_of tickets keys
  turns_of-noted keys = map-agree (turn_at tickets) (turn_at noted) keys None (λ i. same (get_or keys i None))
    where
      same : (o : Option ℕ) → turn_at noted o ≡ turn_at tickets o
      same None = refl
      same (Some k) = same_turn k

  slab_len-noted : slab_len noted ≡ slab_len tickets
  slab_len-noted =
      let one_of : Option Waiter → ℕ = λ o. cond (is_some o) 1 0 in
      let e = sum_by-set one_of tickets.slots key (Some (raised w case_no)) None (ContainsKey-within tickets key has) in
      let one : one_of (get_or tickets.slots key None) ≡ 1 = ap one_of known in
      omega arith

  pub AreTickets-noted : (goroutines turns : ℕ) (keys : List (Option ℕ)) → AreTickets goroutines turns keys tickets → AreTickets goroutines turns keys noted
  AreTickets-noted goroutines turns keys a = record {
    size = a.size;
    room = a.room;
    counted = slab_len-noted ∙ a.counted;
    keyed = λ g k e.
        let old = a.keyed g k e in
        elim (cases_eq k key) [
          | inl same ↦
              let here : Some old.0 ≡ Some w = sym old.1 ∙ ap (get tickets) same ∙ known in
              let is : w ≡ old.0 = cc in
              (raised w case_no, ap (get noted) same ∙ updates.changed, ap (λ u. u.g) is ∙ old.2)
          | inr other ↦ (old.0, updates.others k other ∙ old.1, old.2)
        ];
    held = λ k v e. let u = was k v e in ap (λ g. get_or keys g None) (sym u.2) ∙ a.held k u.0 u.1;
    earlier = λ k v e.
        let u = was k v e in
        let before = a.earlier k u.0 u.1 in
        let same = u.3 in
        omega arith;
    most = a.most;
    inside = λ k v e. let u = was k v e in a.inside k u.0 u.1;
  }

  pub ArePlaced-noted : (places : List (Option ℕ)) (c : Contents) → case_no ≤ 16 → ArePlaced places tickets c → ArePlaced places noted c
  ArePlaced-noted places c low b = record {
    nodes = b.nodes;
    few = b.few;
    size = b.size;
    placed = b.placed;
    ticketed = λ q y h.
        elim (cases_eq (y / 17) key) [
          | inl same ↦ rw (same, updates.changed) refl
          | inr other ↦ rw (updates.others (y / 17) other) (b.ticketed q y h)
        ];
    reached = λ k v e q y h of.
        elim (cases_eq k key) [
          | inl same ↦
              let before = b.reached key w known q y h (of ∙ same) in
              let most : max w.most case_no ≡ v.most = ap (λ u. u.most) (is_raised k v same e) in
              omega arith
          | inr other ↦ b.reached k v (sym (updates.others k other) ∙ e) q y h of
        ];
    small = λ k v e.
        elim (cases_eq k key) [
          | inl same ↦
              let before = b.small key w known in
              let most : max w.most case_no ≡ v.most = ap (λ u. u.most) (is_raised k v same e) in
              omega arith
          | inr other ↦ b.small k v (sym (updates.others k other) ∙ e)
        ];
  }

  -- the node that comes to stand somewhere
  pub noted_node : case_no ≤ 16 → (v : Waiter) → get noted ((key * 17 + case_no) / 17) ≡ Some v → (key * 17 + case_no) % 17 ≤ v.most
  noted_node low v e =
      let most : max w.most case_no ≡ v.most = ap (λ u. u.most) (is_raised ((key * 17 + case_no) / 17) v (key_of-node key case_no low) e) in
      let own = case_of-node key case_no low in
      omega arith
