-- A queue that is moved to the end of another, one by one; and a list of the first numbers.
use Rattle.std.proofs.Common.{◌≡◌, ◌≢◌, ℕ, zero, suc, ◌+◌, ◌<◌, ◌≤◌, ap, arith, Some, List, [], ◌∷◌, ◌++◌, append_assoc, append-nil, drop, length, set, get_or-set_same, get_or-set_other, refl, sym, ◌∙◌}
use Rattle.std.specs.List.{Contains, slice_get, range_with_len}
use Rattle.std.proofs.lemmas.List.{set-get_or, set-set, set_comm, length-set}
use Rattle.std.proofs.lemmas.List.FromFn.{length-range_with_len, get_or-range_with_len}
use Rattle.gt_queue.specs.Contents.{IsLawful, IsWaiting, waiting_in}
use Rattle.gt_queue.proofs.Members.{length-le_from_distinct, Contains-nil}
use Rattle.gt_queue.proofs.Callers.{IsWaiting-removed_before, Contains-first, removed-first}

-- so far: the two queues have changed, together they have the same members in the same order, and `count` were moved
pub record IsMoving (before now : List (List ℕ)) (from to count members : ℕ) : Type 0 where
  pub queues : now ≡ set (set before from (waiting_in now from)) to (waiting_in now to)
  pub moved : waiting_in now to ++ waiting_in now from ≡ waiting_in before to ++ waiting_in before from
  pub counted : count + length (waiting_in now from) ≡ length (waiting_in before from)
  pub few : length (waiting_in before from) ≤ members
  pub size : length now ≡ length before
  pub lawful : IsLawful (record { queues = now; members = members })

-- a queue has no more than all members
pub length-le-members : (queues : List (List ℕ)) (members q : ℕ) → IsLawful (record { queues = queues; members = members }) → length (waiting_in queues q) ≤ members
length-le-members queues members q lawful =
    length-le_from_distinct members (waiting_in queues q) (lawful.once q) (λ y h. lawful.below q y h)

pub IsMoving-start : (queues : List (List ℕ)) (from to members : ℕ) → IsLawful (record { queues = queues; members = members }) → IsMoving queues queues from to 0 members
IsMoving-start queues from to members lawful = record {
  queues = sym (ap (λ qs. set qs to (waiting_in queues to)) (set-get_or queues from []) ∙ set-get_or queues to []);
  moved = refl;
  counted = omega arith;
  few = length-le-members queues members from lawful;
  size = refl;
  lawful = lawful;
}

-- who has left a queue waits nowhere
pub left_is_free : (queues : List (List ℕ)) (q m members : ℕ) → Some m ≡ slice_get (waiting_in queues q) 0 → IsLawful (record { queues = queues; members = members }) → ¬ IsWaiting (set queues q (drop 1 (waiting_in queues q))) m
left_is_free queues q m members first lawful w =
    (IsWaiting-removed_before queues q m members m (Contains-first queues q m first) lawful (rw (removed-first queues q m members first lawful) at w)).1 refl

-- the two lists are written again
written_again : (qs : List (List ℕ)) (f t : ℕ) (xs zs ys ws : List ℕ) → f ≢ t → set (set (set (set qs f xs) t zs) f ys) t ws ≡ set (set qs f ys) t ws
written_again qs f t xs zs ys ws n =
    ap (λ l. set l t ws) (set_comm (set qs f xs) t f zs ys (λ e. n (sym e)) ∙ ap (λ l. set l t zs) (set-set qs f xs ys))
    ∙ set-set (set qs f ys) t zs ws

-- one more is moved
abbrev pub taken_from : List (List ℕ) → ℕ → List (List ℕ)
taken_from qs from = set qs from (drop 1 (waiting_in qs from))

abbrev pub moved_on : List (List ℕ) → ℕ → ℕ → ℕ → List (List ℕ)
moved_on qs from to m = set (taken_from qs from) to (waiting_in (taken_from qs from) to ++ m ∷ [])

module _ (now : List (List ℕ)) (from to m : ℕ) (n : from ≢ to) (fl : from < length now) (tl : to < length now) where
  to_before : waiting_in (taken_from now from) to ≡ waiting_in now to
  to_before = get_or-set_other now from to (drop 1 (waiting_in now from)) [] (λ e. n (sym e))

  from_after : waiting_in (moved_on now from to m) from ≡ drop 1 (waiting_in now from)
  from_after =
      get_or-set_other (taken_from now from) to from _ [] n
      ∙ get_or-set_same now from (drop 1 (waiting_in now from)) [] fl

  to_after : waiting_in (moved_on now from to m) to ≡ waiting_in now to ++ m ∷ []
  to_after =
      get_or-set_same (taken_from now from) to _ [] (omega (arith, length-set now from (drop 1 (waiting_in now from))))
      ∙ ap (λ xs. xs ++ m ∷ []) to_before

-- the first, and the others
first_and_others : (m : ℕ) (xs : List ℕ) → Some m ≡ slice_get xs 0 → xs ≡ m ∷ drop 1 xs
first_and_others m [] e = absurd (cc)
first_and_others m (x ∷ xs) e = let same : x ≡ m = cc in ap (λ y. y ∷ xs) same

pub IsMoving-step : (before now : List (List ℕ)) (from to count members m : ℕ) → from ≢ to → from < length before → to < length before
    → Some m ≡ slice_get (waiting_in now from) 0
    → IsMoving before now from to count members
    → IsLawful (record { queues = moved_on now from to m; members = members })
    → IsMoving before (moved_on now from to m) from to (count + 1) members
IsMoving-step before now from to count members m n fl tl first i lawful =
    let size = i.size in
    let fl' : from < length now = omega arith in
    let tl' : to < length now = omega arith in
    let left = from_after now from to m n fl' tl' in
    let right = to_after now from to m n fl' tl' in
    let split = first_and_others m (waiting_in now from) first in
    record {
      queues =
          rw (left, right)
          (ap (λ qs. set (set qs from (drop 1 (waiting_in now from))) to (waiting_in (taken_from now from) to ++ m ∷ [])) i.queues
          ∙ written_again before from to (waiting_in now from) (waiting_in now to) (drop 1 (waiting_in now from)) (waiting_in (taken_from now from) to ++ m ∷ []) n
          ∙ ap (λ xs. set (set before from (drop 1 (waiting_in now from))) to (xs ++ m ∷ [])) (to_before now from to m n fl' tl'));
      moved = rw (left, right) (append_assoc (waiting_in now to) (m ∷ []) (drop 1 (waiting_in now from)) ∙ ap (λ xs. waiting_in now to ++ xs) (sym split) ∙ i.moved);
      counted = rw left (let c = i.counted in let s = ap length split in omega arith);
      few = i.few;
      size = length-set (taken_from now from) to _ ∙ length-set now from _ ∙ i.size;
      lawful = lawful;
    }

pub IsMoving-end : (before now : List (List ℕ)) (from to count members : ℕ) → waiting_in now from ≡ [] → IsMoving before now from to count members
    → now ≡ set (set before from []) to (waiting_in before to ++ waiting_in before from)
IsMoving-end before now from to count members none i =
    i.queues
    ∙ ap (λ xs. set (set before from xs) to (waiting_in now to)) none
    ∙ ap (set (set before from []) to) (sym (append-nil (waiting_in now to)) ∙ ap (λ xs. waiting_in now to ++ xs) (sym none) ∙ i.moved)

-- the numbers of a list of the first ones
pub Contains-range : (n m : ℕ) → Contains (range_with_len 0 n) m → m < n
Contains-range n m h =
    let size = length-range_with_len 0 n in
    let below = h.1 in
    let at = get_or-range_with_len 0 n h.0 m (omega arith) in
    let is = h.2 in
    omega arith

pub range-is_free : (n : ℕ) → ¬ IsWaiting (range_with_len 0 n ∷ []) n
range-is_free n w = go w.0 w.1
  where
    go : (q : ℕ) → Contains (waiting_in (range_with_len 0 n ∷ []) q) n → ⊥
    go zero h = let l = Contains-range n n h in omega arith
    go (suc q) h = Contains-nil n h

range-more : (a n : ℕ) → range_with_len a (suc n) ≡ range_with_len a n ++ (a + n) ∷ []
range-more a zero = ap (λ x. x ∷ []) (omega arith)
range-more a (suc n) =
    let e : a + 1 + n ≡ a + suc n = omega arith in
    ap (λ xs. a ∷ xs) (range-more (a + 1) n ∙ ap (λ x. range_with_len (a + 1) n ++ x ∷ []) e)

-- the next number at the end
pub range-pushed : (n : ℕ) → set (range_with_len 0 n ∷ []) 0 (range_with_len 0 n ++ n ∷ []) ≡ range_with_len 0 (n + 1) ∷ []
range-pushed n =
    let e : 0 + n ≡ n = omega arith in
    let more : n + 1 ≡ suc n = omega arith in
    ap (λ xs. xs ∷ []) (sym (ap (range_with_len 0) more ∙ range-more 0 n ∙ ap (λ x. range_with_len 0 n ++ x ∷ []) e))
