-- The parties at nodes: which node is a party's, and what a change of the nodes is of the lists.
use Rattle.std.proofs.Common.{◌≡◌, ◌≢◌, ℕ, zero, suc, ◌+◌, ◌*◌, ◌/◌, ◌%◌, ◌≤◌, Bool, true, false, not, eqb, Option, Some, None, IsSome, List, [], ◌∷◌, map, set, get_or, refl, sym, ap, ◌∙◌, inl, inr, arith}
use Rattle.std.specs.Prelude.{filter}
use Rattle.std.specs.List.{Contains}
use Rattle.std.proofs.Math.ListN.{get_or-map}
use Rattle.std.proofs.lemmas.Bool.{cases_eq, cases_Bool, eq-eqb, ne_eqb, false≢true}
use Rattle.std.proofs.lemmas.Nat.{div-mul-add, div-add-mod'}
use Rattle.slab.specs.Slab.{Slab, get}
use Rattle.slab.proofs.SlabLemmas.{Contains-cons, Contains-cons_cases}
use Rattle.gt_model.specs.declared.entry.Party.{Party}
use Rattle.gt_queue.specs.Contents.{waiting_in, without}
use Rattle.gt_queue.proofs.Members.{Contains-nil, Contains-here, Contains-there}
use Rattle.gt_select.specs.declared.nodes.Waiter.{Waiter}
use Rattle.gt_select.specs.Kept.{party_at, goroutine_of, lists_of, turn_at, turns_of, without_key, AreTickets}
use Rattle.gt_select.specs.Waiting.{parties_in, is_party, without_party, without_goroutine}

pub some_value : {X : Type 0} (o : Option X) → IsSome o → (x : X) × (o ≡ Some x)
some_value None h = absurd (false≢true h)
some_value (Some x) h = (x, refl)

pub parties_in-lists : (tickets : Slab Waiter) (queues : List (List ℕ)) (q : ℕ) → parties_in (lists_of tickets queues) q ≡ map (party_at tickets) (waiting_in queues q)
parties_in-lists tickets queues q = get_or-map (map (party_at tickets)) queues q []

pub turn_at-turns : (tickets : Slab Waiter) (keys : List (Option ℕ)) (g : ℕ) → get_or (turns_of tickets keys) g None ≡ turn_at tickets (get_or keys g None)
turn_at-turns tickets keys g = get_or-map (turn_at tickets) keys g None

-- whoever is on a list of f's values
pub Contains-map : (f : ℕ → Party) (xs : List ℕ) (p : Party) → Contains (map f xs) p → (x : ℕ) × Contains xs x × (f x ≡ p)
Contains-map f [] p h = absurd (omega (arith, h.1))
Contains-map f (x ∷ xs) p h =
    elim (Contains-cons_cases (f x) p (map f xs) h) [
      | inl e ↦ (x, Contains-here x xs, e)
      | inr g ↦ let r = Contains-map f xs p g in (r.0, Contains-there x r.0 xs r.1, r.2)
    ]

pub map-Contains : (f : ℕ → Party) (xs : List ℕ) (x : ℕ) → Contains xs x → Contains (map f xs) (f x)
map-Contains f [] x h = Contains-nil x h
map-Contains f (y ∷ ys) x h =
    elim (Contains-cons_cases y x ys h) [
      | inl e ↦ rw (← e) (0, omega arith, refl)
      | inr g ↦ Contains-cons (f y) (f x) (map f ys) (map-Contains f ys x g)
    ]

pub party_eq : (p q : Party) → p.g ≡ q.g → p.case_no ≡ q.case_no → p ≡ q
party_eq p q e f =
    let mk : ℕ → ℕ → Party = λ g n. record { g = g; case_no = n } in
    ap (λ g. mk g p.case_no) e ∙ ap (mk q.g) f

pub is_party-same : (p q : Party) → p ≡ q → is_party p q ≡ true
is_party-same p q e = rw (eq-eqb p.g q.g (ap (λ r. r.g) e)) (eq-eqb p.case_no q.case_no (ap (λ r. r.case_no) e))

pub is_party-other : (p q : Party) → p ≢ q → is_party p q ≡ false
is_party-other p q n =
    elim (cases_eq p.g q.g) [
      | inl e ↦ rw (eq-eqb p.g q.g e) (ne_eqb p.case_no q.case_no (λ f. n (party_eq p q e f)))
      | inr k ↦ rw (ne_eqb p.g q.g k) refl
    ]

-- a node of a key, and its number of a case
pub key_of-node : (key c : ℕ) → c ≤ 16 → (key * 17 + c) / 17 ≡ key
key_of-node key c small = div-mul-add key 17 c (omega arith)

pub case_of-node : (key c : ℕ) → c ≤ 16 → (key * 17 + c) % 17 ≡ c
case_of-node key c small =
    let whole = div-add-mod' (key * 17 + c) 17 in
    let same = key_of-node key c small in
    omega arith

-- f' of what is kept is what is kept of f
pub map-filter : (f f' : ℕ → Party) (keep : ℕ → Bool) (keep' : Party → Bool) (xs : List ℕ) → ((x : ℕ) → Contains xs x → keep' (f x) ≡ keep x) → ((x : ℕ) → Contains xs x → keep x ≡ true → f' x ≡ f x) → map f' (filter keep xs) ≡ filter keep' (map f xs)
map-filter f f' keep keep' [] tests same = refl
map-filter f f' keep keep' (x ∷ xs) tests same =
    let here = tests x (Contains-here x xs) in
    let rest = map-filter f f' keep keep' xs (λ y h. tests y (Contains-there x y xs h)) (λ y h. same y (Contains-there x y xs h)) in
    elim (cases_Bool (keep x)) [
      | inl e ↦ rw (e, here ∙ e) (ap (λ y. y ∷ map f' (filter keep xs)) (same x (Contains-here x xs) e) ∙ ap (λ ys. f x ∷ ys) rest)
      | inr e ↦ rw (e, here ∙ e) rest
    ]

pub map-agree : {X Y : Type 0} (f f' : X → Y) (xs : List X) (d : X) → ((i : ℕ) → f' (get_or xs i d) ≡ f (get_or xs i d)) → map f' xs ≡ map f xs
map-agree f f' [] d same = refl
map-agree f f' (x ∷ xs) d same = ap (λ y. y ∷ map f' xs) (same 0) ∙ ap (λ ys. f x ∷ ys) (map-agree f f' xs d (λ i. same (suc i)))

pub map-agree_on : (f f' : ℕ → Party) (xs : List ℕ) → ((x : ℕ) → Contains xs x → f' x ≡ f x) → map f' xs ≡ map f xs
map-agree_on f f' [] same = refl
map-agree_on f f' (x ∷ xs) same = ap (λ y. y ∷ map f' xs) (same x (Contains-here x xs)) ∙ ap (λ ys. f x ∷ ys) (map-agree_on f f' xs (λ y h. same y (Contains-there x y xs h)))

-- but for the item that is replaced
pub set-agree : (f f' : Option ℕ → Option ℕ) (xs : List (Option ℕ)) (g : ℕ) (v : Option ℕ) → ((i : ℕ) → i ≢ g → f' (get_or xs i None) ≡ f (get_or xs i None)) → set (map f' xs) g v ≡ set (map f xs) g v
set-agree f f' [] g v same = refl
set-agree f f' (x ∷ xs) zero v same = ap (λ ys. v ∷ ys) (map-agree f f' xs None (λ i. same (suc i) (λ e. absurd (omega arith))))
set-agree f f' (x ∷ xs) (suc g) v same =
    ap (λ y. y ∷ set (map f' xs) g v) (same 0 (λ e. absurd (omega arith)))
    ∙ ap (λ ys. f x ∷ ys) (set-agree f f' xs g v (λ i n. same (suc i) (λ e. n (omega arith))))

-- a change of each list
pub map-map_agree : (f f' : List ℕ → List Party) (k : List ℕ → List ℕ) (k' : List Party → List Party) (queues : List (List ℕ)) → ((q : ℕ) → f' (k (waiting_in queues q)) ≡ k' (f (waiting_in queues q))) → map f' (map k queues) ≡ map k' (map f queues)
map-map_agree f f' k k' [] same = refl
map-map_agree f f' k k' (x ∷ queues) same =
    ap (λ y. y ∷ map f' (map k queues)) (same 0) ∙ ap (λ ys. k' (f x) ∷ ys) (map-map_agree f f' k k' queues (λ q. same (suc q)))

module _ (goroutines turns : ℕ) (keys : List (Option ℕ)) (tickets : Slab Waiter) (a : AreTickets goroutines turns keys tickets) where
  abbrev at : ℕ → Party
  at = party_at tickets

  -- whose the node is
  pub key_from_goroutine : (x g key : ℕ) → IsSome (get tickets (x / 17)) → get_or keys g None ≡ Some key → (at x).g ≡ g → x / 17 ≡ key
  key_from_goroutine x g key stands known e =
      let t = some_value (get tickets (x / 17)) stands in
      let mine : (at x).g ≡ t.0.g = ap goroutine_of t.1 in
      let held = a.held (x / 17) t.0 t.1 in
      let here : t.0.g ≡ g = sym mine ∙ e in
      let found : Some (x / 17) ≡ Some key = sym held ∙ ap (λ h. get_or keys h None) here ∙ known in
      cc

  pub goroutine_from_key : (x g key : ℕ) → get_or keys g None ≡ Some key → x / 17 ≡ key → (at x).g ≡ g
  goroutine_from_key x g key known e =
      let t = a.keyed g key known in
      ap (λ k. goroutine_of (get tickets k)) e ∙ ap goroutine_of t.1 ∙ t.2

  pub ticketed : (g key : ℕ) → get_or keys g None ≡ Some key → IsSome (get tickets key)
  ticketed g key known = let t = a.keyed g key known in rw t.1 refl

  -- a goroutine that stands somewhere has a key
  pub key_known : (x : ℕ) → IsSome (get tickets (x / 17)) → get_or keys (at x).g None ≡ Some (x / 17)
  key_known x stands =
      let t = some_value (get tickets (x / 17)) stands in
      let mine : (at x).g ≡ t.0.g = ap goroutine_of t.1 in
      ap (λ h. get_or keys h None) mine ∙ a.held (x / 17) t.0 t.1

  pub same_node : (x y : ℕ) → IsSome (get tickets (x / 17)) → IsSome (get tickets (y / 17)) → at x ≡ at y → x ≡ y
  same_node x y sx sy e =
      let key = key_from_goroutine x (at y).g (y / 17) sx (key_known y sy) (ap (λ p. p.g) e) in
      let case_no : x % 17 ≡ y % 17 = ap (λ p. p.case_no) e in
      let wx = div-add-mod' x 17 in
      let wy = div-add-mod' y 17 in
      omega arith

  pub party_at-node : (p : Party) (key : ℕ) → get_or keys p.g None ≡ Some key → p.case_no ≤ 16 → at (key * 17 + p.case_no) ≡ p
  party_at-node p key known small =
      let x = key * 17 + p.case_no in
      party_eq (at x) p (goroutine_from_key x p.g key known (key_of-node key p.case_no small)) (case_of-node key p.case_no small)

  -- a node is a party's own, or another party's
  pub is_party-node : (p : Party) (key : ℕ) → get_or keys p.g None ≡ Some key → p.case_no ≤ 16 → (x : ℕ) → IsSome (get tickets (x / 17)) → is_party (at x) p ≡ eqb x (key * 17 + p.case_no)
  is_party-node p key known small x stands =
      let node = key * 17 + p.case_no in
      let own = party_at-node p key known small in
      elim (cases_eq x node) [
        | inl e ↦ is_party-same (at x) p (ap at e ∙ own) ∙ sym (eq-eqb x node e)
        | inr n ↦
            is_party-other (at x) p (λ e. n (same_node x node stands (rw (key_of-node key p.case_no small) (ticketed p.g key known)) (e ∙ sym own)))
            ∙ sym (ne_eqb x node n)
      ]

  module _ (xs : List ℕ) (stands : (x : ℕ) → Contains xs x → IsSome (get tickets (x / 17))) where
    -- without one party
    pub map-without : (p : Party) (key : ℕ) → get_or keys p.g None ≡ Some key → p.case_no ≤ 16 → map at (without xs (key * 17 + p.case_no)) ≡ without_party (map at xs) p
    map-without p key known small =
        map-filter at at (λ x. not (eqb x (key * 17 + p.case_no))) (λ q. not (is_party q p)) xs
        (λ x h. ap not (is_party-node p key known small x (stands x h)))
        (λ x h k. refl)

    -- and without all of a goroutine, whose ticket may be gone then
    pub map-without_key : (tickets' : Slab Waiter) (g key : ℕ) → get_or keys g None ≡ Some key → ((x : ℕ) → Contains xs x → x / 17 ≢ key → party_at tickets' x ≡ at x) → map (party_at tickets') (without_key xs key) ≡ without_goroutine (map at xs) g
    map-without_key tickets' g key known same =
        map-filter at (party_at tickets') (λ x. not (eqb (x / 17) key)) (λ q. not (eqb q.g g)) xs
        (λ x h. ap not (elim (cases_eq (x / 17) key) [
          | inl e ↦ eq-eqb (at x).g g (goroutine_from_key x g key known e) ∙ sym (eq-eqb (x / 17) key e)
          | inr n ↦ ne_eqb (at x).g g (λ e. n (key_from_goroutine x g key (stands x h) known e)) ∙ sym (ne_eqb (x / 17) key n)
        ]))
        (λ x h k. same x h (λ e. false≢true (sym (ap not (eq-eqb (x / 17) key e)) ∙ k)))

    -- nobody stands there of a goroutine without a key
    pub none_of : (g : ℕ) → get_or keys g None ≡ None → (x : ℕ) → Contains xs x → (at x).g ≢ g
    none_of g none x h e =
        let known = key_known x (stands x h) in
        let no : Some (x / 17) ≡ None = sym known ∙ ap (λ k. get_or keys k None) e ∙ none in
        cc

    pub filter-all : (keep : Party → Bool) → ((x : ℕ) → Contains xs x → keep (at x) ≡ true) → filter keep (map at xs) ≡ map at xs
    filter-all keep kept = all xs kept
      where
        all : (ys : List ℕ) → ((x : ℕ) → Contains ys x → keep (at x) ≡ true) → filter keep (map at ys) ≡ map at ys
        all [] k = refl
        all (y ∷ ys) k = rw (k y (Contains-here y ys)) (ap (λ zs. at y ∷ zs) (all ys (λ x h. k x (Contains-there y x ys h))))
