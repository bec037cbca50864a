-- The last party of a list, the parties in front of one, and a party that came to stand in front of another one.
use Rattle.std.proofs.Common.{◌≡◌, ℕ, ◌+◌, ◌*◌, ◌/◌, ◌%◌, ◌<◌, ◌≤◌, eqb, Option, Some, None, IsSome, List, [], ◌∷◌, map, set, get_or, refl, sym, ap, ◌∙◌, inl, inr, arith}
use Rattle.std.specs.List.{Contains, last_or}
use Rattle.std.proofs.Math.Nat.{mod-lt}
use Rattle.std.proofs.lemmas.Bool.{cases_Bool}
use Rattle.std.proofs.lemmas.List.{map-set}
use Rattle.std.proofs.lemmas.Nat.{div-add-mod'}
use Rattle.slab.specs.Slab.{Slab}
use Rattle.gt_model.specs.declared.entry.Party.{Party}
use Rattle.gt_queue.specs.Contents.{Contents, waiting_in, in_front, put_before}
use Rattle.gt_queue.proofs.Members.{Contains-here, Contains-there}
use Rattle.gt_queue.proofs.PutBefore.{inserted}
use Rattle.gt_select.specs.declared.nodes.Waiter.{Waiter}
use Rattle.gt_select.specs.Kept.{party_at, lists_of, AreTickets, ArePlaced}
use Rattle.gt_select.specs.Waiting.{parties_in, is_party, parties_in_front, put_party_before}
use Rattle.gt_select.proofs.Parties.{parties_in-lists, key_known, is_party-node}
use Rattle.gt_select.proofs.Shown.{at_node}

-- the last of a list of f's values
pub last-map_some : (f : ℕ → Party) (xs : List ℕ) (x : ℕ) → Some x ≡ last_or None xs → Some (f x) ≡ last_or None (map f xs)
last-map_some f [] x e = absurd (cc)
last-map_some f (y ∷ ys) x e = from y ys e
  where
    from : (z : ℕ) (zs : List ℕ) → Some x ≡ last_or (Some z) zs → Some (f x) ≡ last_or (Some (f z)) (map f zs)
    from z [] e = let same : x ≡ z = cc in ap Some (ap f same)
    from z (w ∷ zs) e = from w zs e

pub last-map_none : (f : ℕ → Party) (xs : List ℕ) → None ≡ last_or None xs → None ≡ last_or None (map f xs)
last-map_none f [] e = refl
last-map_none f (y ∷ ys) e = absurd (from y ys e)
  where
    from : (z : ℕ) (zs : List ℕ) → None ≡ last_or (Some z) zs → ⊥
    from z [] e = cc
    from z (w ∷ zs) e = from w zs e

module _ (f : ℕ → Party) (node : ℕ) (p : Party) where
  -- where f's value at the node alone is p
  pub map-in_front : (xs : List ℕ) → ((x : ℕ) → Contains xs x → is_party (f x) p ≡ eqb x node) → map f (in_front xs node) ≡ parties_in_front (map f xs) p
  map-in_front [] same = refl
  map-in_front (x ∷ xs) same =
      let here = same x (Contains-here x xs) in
      elim (cases_Bool (eqb x node)) [
        | inl e ↦ rw (e, here ∙ e) refl
        | inr e ↦ rw (e, here ∙ e) (ap (λ ys. f x ∷ ys) (map-in_front xs (λ y h. same y (Contains-there x y xs h))))
      ]

  pub map-put_before : (q : Party) (new : ℕ) → f new ≡ q → (xs : List ℕ) → ((x : ℕ) → Contains xs x → is_party (f x) p ≡ eqb x node) → map f (put_before xs node new) ≡ put_party_before (map f xs) p q
  map-put_before q new own [] same = refl
  map-put_before q new own (x ∷ xs) same =
      let here = same x (Contains-here x xs) in
      elim (cases_Bool (eqb x node)) [
        | inl e ↦ rw (e, here ∙ e) (ap (λ r. r ∷ f x ∷ map f xs) own)
        | inr e ↦ rw (e, here ∙ e) (ap (λ ys. f x ∷ ys) (map-put_before q new own xs (λ y h. same y (Contains-there x y xs h))))
      ]

-- the party stands in the queue at the node of its key
pub record StandsAt (c : Contents) (q : ℕ) (p : Party) (key : ℕ) : Type 0 where
  pub small : p.case_no ≤ 16
  pub below : key * 17 + p.case_no < c.members
  pub stands : Contains (waiting_in c.queues q) (key * 17 + p.case_no)

module _ (goroutines turns : ℕ) (keys places : List (Option ℕ)) (tickets : Slab Waiter) (c : Contents) (a : AreTickets goroutines turns keys tickets) (b : ArePlaced places tickets c) where
  abbrev at : ℕ → Party
  at = party_at tickets

  abbrev lists : List (List Party)
  lists = lists_of tickets c.queues

  module _ (q : ℕ) (p : Party) (standing : Contains (parties_in lists q) p) where
    abbrev node : (x : ℕ) × Contains (waiting_in c.queues q) x × (at x ≡ p)
    node = at_node goroutines turns keys places tickets c a b q p standing

    own_key : get_or keys p.g None ≡ Some (node.0 / 17)
    own_key =
        sym (ap (λ g. get_or keys g None) (ap (λ r. r.g) node.2))
        ∙ key_known goroutines turns keys tickets a node.0 (b.ticketed q node.0 node.1)

    -- a party that stands in a list has a key
    pub has_key : IsSome (get_or keys p.g None)
    has_key = rw own_key refl

    pub stands_at : (key : ℕ) → get_or keys p.g None ≡ Some key → StandsAt c q p key
    stands_at key known =
        let found : Some (node.0 / 17) ≡ Some key = sym own_key ∙ known in
        let mine : node.0 / 17 ≡ key = cc in
        let case_no : node.0 % 17 ≡ p.case_no = ap (λ r. r.case_no) node.2 in
        let under = mod-lt node.0 {m = 17} (omega arith) in
        let whole = div-add-mod' node.0 17 in
        let is : node.0 ≡ key * 17 + p.case_no = omega arith in
        let t = a.keyed p.g key known in
        let inside = a.inside key t.0 t.1 in
        let nodes = b.nodes in
        record {
          small = omega arith;
          below = omega arith;
          stands = rw is at node.1;
        }

  -- each node of a queue, and the party at the node of a key
  is_node : (q : ℕ) (p : Party) (key : ℕ) → get_or keys p.g None ≡ Some key → p.case_no ≤ 16 → (x : ℕ) → Contains (waiting_in c.queues q) x → is_party (at x) p ≡ eqb x (key * 17 + p.case_no)
  is_node q p key known small x h = is_party-node goroutines turns keys tickets a p key known small x (b.ticketed q x h)

  fronts : (q : ℕ) (p : Party) (key : ℕ) → get_or keys p.g None ≡ Some key → p.case_no ≤ 16 → map at (in_front (waiting_in c.queues q) (key * 17 + p.case_no)) ≡ parties_in_front (parties_in lists q) p
  fronts q p key known small =
      map-in_front at (key * 17 + p.case_no) p (waiting_in c.queues q) (is_node q p key known small)
      ∙ ap (λ ps. parties_in_front ps p) (sym (parties_in-lists tickets c.queues q))

  -- the last node in front of a party's node, and the last party in front of it
  pub before_some : (q : ℕ) (p : Party) (key x : ℕ) → get_or keys p.g None ≡ Some key → p.case_no ≤ 16 → Some x ≡ last_or None (in_front (waiting_in c.queues q) (key * 17 + p.case_no)) → Some (at x) ≡ last_or None (parties_in_front (parties_in lists q) p)
  before_some q p key x known small e =
      last-map_some at (in_front (waiting_in c.queues q) (key * 17 + p.case_no)) x e ∙ ap (last_or None) (fronts q p key known small)

  pub before_none : (q : ℕ) (p : Party) (key : ℕ) → get_or keys p.g None ≡ Some key → p.case_no ≤ 16 → None ≡ last_or None (in_front (waiting_in c.queues q) (key * 17 + p.case_no)) → None ≡ last_or None (parties_in_front (parties_in lists q) p)
  before_none q p key known small e =
      last-map_none at (in_front (waiting_in c.queues q) (key * 17 + p.case_no)) e ∙ ap (last_or None) (fronts q p key known small)

  pub lists_of-inserted : (queues' : List (List ℕ)) (q new other_key : ℕ) (p other : Party) → queues' ≡ inserted c.queues q (other_key * 17 + other.case_no) new → at new ≡ p → get_or keys other.g None ≡ Some other_key → other.case_no ≤ 16 → lists_of tickets queues' ≡ set lists q (put_party_before (parties_in lists q) other p)
  lists_of-inserted queues' q new other_key p other e own known small =
      let node = other_key * 17 + other.case_no in
      let ws = waiting_in c.queues q in
      ap (lists_of tickets) e
      ∙ map-set (map at) c.queues q (put_before ws node new)
      ∙ ap (set lists q)
      (map-put_before at node other p new own ws (is_node q other other_key known small)
      ∙ ap (λ ps. put_party_before ps other p) (sym (parties_in-lists tickets c.queues q)))
