-- The tickets after one was given, and after one was won.
use Rattle.std.proofs.Common.{◌≡◌, ◌≢◌, ℕ, zero, suc, ◌+◌, ◌<◌, ◌≤◌, ◌⊎◌, Option, Some, None, IsSome, is_some, cond, List, [], length, get_or, set, count_by, replicate, length-set, get_or-set_same, get_or-set_other, refl, sym, ap, ◌∙◌, inl, inr, arith}
use Rattle.std.proofs.lemmas.Bool.{cases_eq, cases_lt}
use Rattle.std.proofs.lemmas.List.{get_or_past, get_or-replicate, length-replicate, map-set}
use Rattle.std.proofs.lemmas.List.Sums.{sum_by-set, count_by-le-length}
use Rattle.slab.specs.Slab.{Slab, get, slab_len, HasRoomFor, Updates}
use Rattle.gt_select.specs.declared.nodes.Waiter.{Waiter}
use Rattle.gt_select.specs.Kept.{turn_at, turn_of, turns_of, AreTickets}
use Rattle.gt_select.specs.Waiting.{next_turn}
use Rattle.gt_select.proofs.Parties.{some_value, turn_at-turns, set-agree}

abbrev one_of : Option ℕ → ℕ
one_of o = cond (is_some o) 1 0

count-set : (keys : List (Option ℕ)) (g : ℕ) (x : Option ℕ) → g < length keys → count_by is_some (set keys g x) + one_of (get_or keys g None) ≡ count_by is_some keys + one_of x
count-set keys g x gl = sum_by-set one_of keys g x None gl

-- one more, and one less
pub count-added : (keys : List (Option ℕ)) (g key : ℕ) → g < length keys → get_or keys g None ≡ None → count_by is_some (set keys g (Some key)) ≡ count_by is_some keys + 1
count-added keys g key gl none =
    let e = count-set keys g (Some key) gl in
    let zero : one_of (get_or keys g None) ≡ 0 = ap one_of none in
    omega arith

pub count-removed : (keys : List (Option ℕ)) (g key : ℕ) → g < length keys → get_or keys g None ≡ Some key → count_by is_some (set keys g None) + 1 ≡ count_by is_some keys
count-removed keys g key gl some =
    let e = count-set keys g None gl in
    let one : one_of (get_or keys g None) ≡ 1 = ap one_of some in
    omega arith

pub count-none : (n : ℕ) → count_by {X = Option ℕ} is_some (replicate n None) ≡ 0
count-none zero = refl
count-none (suc n) = count-none n

pub none-replicate : (n k : ℕ) → get_or {A = Option ℕ} (replicate n None) k None ≡ None
none-replicate n k =
    elim (cases_lt k n) [
      | inl l ↦ get_or-replicate n k None None l
      | inr past ↦ get_or_past (replicate n None) k None (omega (arith, length-replicate {A = Option ℕ} n None))
    ]

-- where a key is there is a place for it
pub key_inside : (keys : List (Option ℕ)) (g key : ℕ) → get_or keys g None ≡ Some key → g < length keys
key_inside keys g key some =
    elim (cases_lt g (length keys)) [
      | inl l ↦ l
      | inr past ↦ let none = get_or_past keys g None past in absurd (cc)
    ]

module _ (goroutines turns : ℕ) (keys : List (Option ℕ)) (tickets : Slab Waiter) (a : AreTickets goroutines turns keys tickets) where
  -- a goroutine without a ticket has no key
  pub no_key : (g : ℕ) → get_or (turns_of tickets keys) g None ≡ None → get_or keys g None ≡ None
  no_key g none = go (get_or keys g None) refl
    where
      go : (o : Option ℕ) → get_or keys g None ≡ o → get_or keys g None ≡ None
      go None e = e
      go (Some key) e =
          let t = a.keyed g key e in
          let turn : get_or (turns_of tickets keys) g None ≡ Some t.0.turn = turn_at-turns tickets keys g ∙ ap (turn_at tickets) e ∙ ap turn_of t.1 in
          absurd (cc)

  -- and one with a ticket has one
  pub some_key : (g : ℕ) → IsSome (get_or (turns_of tickets keys) g None) → (key : ℕ) × (get_or keys g None ≡ Some key)
  some_key g some = go (get_or keys g None) refl
    where
      go : (o : Option ℕ) → get_or keys g None ≡ o → (key : ℕ) × (get_or keys g None ≡ Some key)
      go None e =
          let turn = some_value (get_or (turns_of tickets keys) g None) some in
          let none : get_or (turns_of tickets keys) g None ≡ None = turn_at-turns tickets keys g ∙ ap (turn_at tickets) e in
          absurd (cc)
      go (Some key) e = (key, e)

  pub has_room : (g : ℕ) → g ≤ goroutines → get_or keys g None ≡ None → HasRoomFor tickets 1
  has_room g gl none =
      let size = a.size in
      let room = a.room in
      let counted = a.counted in
      let inside : g < length keys = omega arith in
      let more = count-added keys g 0 inside none in
      let few = count_by-le-length is_some (set keys g (Some 0)) in
      let same = length-set keys g (Some 0) in
      omega arith

  module _ (g key : ℕ) (t : Waiter) (tickets' : Slab Waiter) (none : get_or keys g None ≡ None) (gl : g ≤ goroutines) (vacant : get tickets key ≡ None) (u : Updates tickets tickets' key (Some t)) where
    -- each other ticket stands as it stood
    stood : (k : ℕ) (v : Waiter) → get tickets' k ≡ Some v → ((k ≡ key) × (v ≡ t)) ⊎ ((k ≢ key) × (get tickets k ≡ Some v))
    stood k v e =
        elim (cases_eq k key) [
          | inl same ↦
              let here : Some t ≡ Some v = sym u.changed ∙ ap (get tickets') (sym same) ∙ e in
              inl (same, cc)
          | inr other ↦ inr (other, sym (u.others k other) ∙ e)
        ]

    pub AreTickets-given : t.g ≡ g → t.turn ≡ turns → slab_len tickets' ≡ slab_len tickets + 1 → key < tickets'.capacity → tickets'.capacity ≡ tickets.capacity → AreTickets goroutines (next_turn turns) (set keys g (Some key)) tickets'
    AreTickets-given mine turn len inside capacity =
        let size = a.size in
        let room = a.room in
        let counted = a.counted in
        let most = a.most in
        let gin : g < length keys = omega arith in
        record {
          size = length-set keys g (Some key) ∙ a.size;
          room = omega arith;
          counted = len ∙ ap (λ n. n + 1) counted ∙ sym (count-added keys g key gin none);
          keyed = λ h k e.
              elim (cases_eq h g) [
                | inl same ↦
                    let here : Some key ≡ Some k = sym (get_or-set_same keys g (Some key) None gin) ∙ ap (λ i. get_or (set keys g (Some key)) i None) (sym same) ∙ e in
                    let is : key ≡ k = cc in
                    (t, ap (get tickets') (sym is) ∙ u.changed, mine ∙ sym same)
                | inr other ↦
                    let old = a.keyed h k (sym (get_or-set_other keys g h (Some key) None other) ∙ e) in
                    (old.0, u.others k (λ same. let no = sym (ap (get tickets) same) ∙ old.1 in cc) ∙ old.1, old.2)
              ];
          held = λ k v e.
              elim (stood k v e) [
                | inl new ↦ rw (new.1, mine, new.0) (get_or-set_same keys g (Some key) None gin)
                | inr old ↦
                    let before = a.held k v old.1 in
                    get_or-set_other keys g v.g (Some key) None (λ same. let no = sym before ∙ ap (λ h. get_or keys h None) same ∙ none in cc) ∙ before
              ];
          earlier = λ k v e.
              elim (stood k v e) [
                | inl new ↦ let same = ap (λ w. w.turn) new.1 in omega arith
                | inr old ↦ let before = a.earlier k v old.1 in omega arith
              ];
          most = omega arith;
          inside = λ k v e.
              elim (stood k v e) [
                | inl new ↦ let same = new.0 in omega arith
                | inr old ↦ let before = a.inside k v old.1 in omega arith
              ];
        }

    -- who stands somewhere has another key
    pub not_vacant : (k : ℕ) → IsSome (get tickets k) → k ≢ key
    not_vacant k some same =
        let v = some_value (get tickets k) some in
        let no = sym v.1 ∙ ap (get tickets) same ∙ vacant in
        cc

    pub turns_of-given : t.turn ≡ turns → turns_of tickets' (set keys g (Some key)) ≡ set (turns_of tickets keys) g (Some turns)
    turns_of-given turn =
        map-set (turn_at tickets') keys g (Some key)
        ∙ ap (set (turns_of tickets' keys) g) (ap turn_of u.changed ∙ ap Some turn)
        ∙ set-agree (turn_at tickets) (turn_at tickets') keys g (Some turns) (λ i other. same (get_or keys i None) i refl)
      where
        same : (o : Option ℕ) (i : ℕ) → get_or keys i None ≡ o → turn_at tickets' o ≡ turn_at tickets o
        same None i e = refl
        same (Some k) i e =
            let old = a.keyed i k e in
            ap turn_of (u.others k (not_vacant k (rw old.1 refl)))

  module _ (g key : ℕ) (tickets' : Slab Waiter) (known : get_or keys g None ≡ Some key) (u : Updates tickets tickets' key None) where
    remains : (k : ℕ) (v : Waiter) → get tickets' k ≡ Some v → (k ≢ key) × (get tickets k ≡ Some v)
    remains k v e =
        let other : k ≢ key = λ same. let no = sym u.changed ∙ ap (get tickets') (sym same) ∙ e in cc in
        (other, sym (u.others k other) ∙ e)

    -- another goroutine has another key
    apart : (h k : ℕ) → h ≢ g → get_or keys h None ≡ Some k → k ≢ key
    apart h k other e same =
        let mine = a.keyed g key known in
        let theirs = a.keyed h k e in
        let found : Some theirs.0 ≡ Some mine.0 = sym theirs.1 ∙ ap (get tickets) same ∙ mine.1 in
        let one : theirs.0 ≡ mine.0 = cc in
        other (sym theirs.2 ∙ ap (λ v. v.g) one ∙ mine.2)

    pub AreTickets-gone : slab_len tickets' + 1 ≡ slab_len tickets → tickets'.capacity ≡ tickets.capacity → AreTickets goroutines turns (set keys g None) tickets'
    AreTickets-gone len capacity =
        let size = a.size in
        let room = a.room in
        let counted = a.counted in
        let gin = key_inside keys g key known in
        let less = count-removed keys g key gin known in
        record {
          size = length-set keys g None ∙ a.size;
          room = omega arith;
          counted = omega arith;
          keyed = λ h k e.
              elim (cases_eq h g) [
                | inl same ↦
                    let no = sym (get_or-set_same keys g None None gin) ∙ ap (λ i. get_or (set keys g None) i None) (sym same) ∙ e in
                    absurd (cc)
                | inr other ↦
                    let before = sym (get_or-set_other keys g h None None other) ∙ e in
                    let old = a.keyed h k before in
                    (old.0, u.others k (apart h k other before) ∙ old.1, old.2)
              ];
          held = λ k v e.
              let old = remains k v e in
              let before = a.held k v old.1 in
              get_or-set_other keys g v.g None None (λ same. let no : Some k ≡ Some key = sym before ∙ ap (λ h. get_or keys h None) same ∙ known in old.0 (cc)) ∙ before;
          earlier = λ k v e. a.earlier k v (remains k v e).1;
          most = a.most;
          inside = λ k v e. let before = a.inside k v (remains k v e).1 in omega arith;
        }

    pub turns_of-gone : turns_of tickets' (set keys g None) ≡ set (turns_of tickets keys) g None
    turns_of-gone =
        map-set (turn_at tickets') keys g None
        ∙ set-agree (turn_at tickets) (turn_at tickets') keys g None (λ i other. same (get_or keys i None) i other refl)
      where
        same : (o : Option ℕ) (i : ℕ) → i ≢ g → get_or keys i None ≡ o → turn_at tickets' o ≡ turn_at tickets o
        same None i other e = refl
        same (Some k) i other e = ap turn_of (u.others k (apart i k other e))

pub AreTickets-first : (goroutines : ℕ) (tickets : Slab Waiter) → tickets.slots ≡ [] → goroutines + 1 ≤ tickets.capacity → AreTickets goroutines 0 (replicate (goroutines + 1) None) tickets
AreTickets-first goroutines tickets empty room =
    let nothing : (k : ℕ) → get tickets k ≡ None = λ k. ap (λ xs. get_or xs k None) empty in
    record {
      size = length-replicate {A = Option ℕ} (goroutines + 1) None;
      room = room;
      counted = ap (count_by is_some) empty ∙ sym (count-none (goroutines + 1));
      keyed = λ g key e. let no = sym (none-replicate (goroutines + 1) g) ∙ e in absurd (cc);
      held = λ key t e. let no = sym (nothing key) ∙ e in absurd (cc);
      earlier = λ key t e. let no = sym (nothing key) ∙ e in absurd (cc);
      most = omega arith;
      inside = λ key t e. let no = sym (nothing key) ∙ e in absurd (cc);
    }
