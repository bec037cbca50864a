-- Where a party takes its place among those that wait, and how that is found from the end of their list.
use Rattle.std.proofs.Common.{◌≡◌, ℕ, zero, suc, ◌+◌, ◌<◌, ◌⊎◌, ◌&&◌, Bool, true, false, cond, List, [], ◌∷◌, ◌++◌, length, Option, Some, None, IsNone, IfSome, slice_get, get_or, refl, sym, ap, ◌∙◌, arith, inl, inr}
use Rattle.std.specs.List.{Contains, IsDistinct, AllByRecursion, last_or, list_all}
use Rattle.std.proofs.lemmas.List.{append_assoc, append-nil}
use Rattle.std.proofs.lemmas.Map.Keys.{IsDistinct-head, IsDistinct-tail}
use Rattle.gt_model.specs.declared.entry.Party.{Party}
use Rattle.gt_select.specs.Waiting.{is_party, parties_in_front, put_party_before}
use Rattle.gt_select.proofs.Parties.{is_party-same}
use Rattle.gt_schedule.specs.Counts.{as_number, often}
use Rattle.gt_schedule.specs.Counts as counts
use Rattle.gt_schedule.specs.Schedule.{in_place}

-- ---- the last of a list, and those before it

pub record EndsWith (xs : List Party) (p : Party) : Type 0 where
  pub rest : List Party
  pub parts : xs ≡ rest ++ p ∷ []

pub ends-with : (xs : List Party) (p : Party) → last_or None xs ≡ Some p → EndsWith xs p
ends-with [] p e = cc
ends-with (x ∷ xs) p e = from x xs e
  where
    from : (y : Party) (ys : List Party) → last_or (Some y) ys ≡ Some p → EndsWith (y ∷ ys) p
    from y [] e = let is : y ≡ p = cc in record { rest = []; parts = ap (λ z. z ∷ []) is }
    from y (z ∷ zs) e =
        let more : EndsWith (z ∷ zs) p = from z zs e in
        record { rest = y ∷ more.rest; parts = ap (λ ws. y ∷ ws) more.parts }

pub ends-nowhere : (xs : List Party) → last_or None xs ≡ None → xs ≡ []
ends-nowhere [] e = refl
ends-nowhere (x ∷ xs) e = absurd (from x xs e)
  where
    from : (y : Party) (ys : List Party) → last_or (Some y) ys ≡ None → ⊥
    from y [] e = cc
    from y (z ∷ zs) e = from z zs e

pub first-nowhere : (xs : List Party) → slice_get xs 0 ≡ None → xs ≡ []
first-nowhere [] e = refl
first-nowhere (x ∷ xs) e = cc

-- ---- those in front of a party of distinct ones

pub Contains-here : (x : Party) (xs : List Party) → Contains (x ∷ xs) x
Contains-here x xs = (0, omega arith, refl)

pub Contains-there : (x p : Party) (xs : List Party) → Contains xs p → Contains (x ∷ xs) p
Contains-there x p xs h = (suc h.0, omega (arith, h.1), h.2)

pub Contains-cases : (x p : Party) (xs : List Party) → Contains (x ∷ xs) p → (x ≡ p) ⊎ Contains xs p
Contains-cases x p xs h = at h.0 h.1 h.2
  where
    at : (n : ℕ) → n < length (x ∷ xs) → get_or (x ∷ xs) n p ≡ p → (x ≡ p) ⊎ Contains xs p
    at zero within e = inl e
    at (suc n) within e = inr (n, omega arith, e)

pub Contains-middle : (fs : List Party) (p : Party) (ys : List Party) → Contains (fs ++ p ∷ ys) p
Contains-middle [] p ys = Contains-here p ys
Contains-middle (f ∷ fs) p ys = Contains-there f p (fs ++ p ∷ ys) (Contains-middle fs p ys)

all-middle : (P : Party → Type 0) (fs : List Party) (p : Party) (ys : List Party) → AllByRecursion P (fs ++ p ∷ ys) → P p
all-middle P [] p ys a = a.0
all-middle P (f ∷ fs) p ys a = all-middle P fs p ys a.1

head-other : (f : Party) (fs : List Party) (p : Party) (ys : List Party) → IsDistinct is_party (f ∷ (fs ++ p ∷ ys)) → is_party f p ≡ false
head-other f fs p ys d = all-middle (λ y. is_party f y ≡ false) fs p ys (IsDistinct-head is_party f (fs ++ p ∷ ys) d)

pub front-parts : (fs : List Party) (p : Party) (ys : List Party) → IsDistinct is_party (fs ++ p ∷ ys) → parties_in_front (fs ++ p ∷ ys) p ≡ fs
front-parts [] p ys d = rw (is_party-same p p refl) refl
front-parts (f ∷ fs) p ys d = rw (head-other f fs p ys d) (ap (λ zs. f ∷ zs) (front-parts fs p ys (IsDistinct-tail is_party f (fs ++ p ∷ ys) d)))

pub put-parts : (fs : List Party) (q : Party) (ys : List Party) (p : Party) → IsDistinct is_party (fs ++ q ∷ ys) → put_party_before (fs ++ q ∷ ys) q p ≡ fs ++ p ∷ q ∷ ys
put-parts [] q ys p d = rw (is_party-same q q refl) refl
put-parts (f ∷ fs) q ys p d = rw (head-other f fs q ys d) (ap (λ zs. f ∷ zs) (put-parts fs q ys p (IsDistinct-tail is_party f (fs ++ q ∷ ys) d)))

-- ---- the place of a party

-- in front of all, where all are later
place-all : (later : Party → Bool) (p : Party) (xs : List Party) → list_all later xs ≡ true → in_place later p xs ≡ p ∷ xs
place-all later p [] e = refl
place-all later p (x ∷ xs) e = ap (λ b. cond b (p ∷ x ∷ xs) (x ∷ in_place later p xs)) e

and-false : (b : Bool) → (b && false) ≡ false
and-false true = refl
and-false false = refl

none-behind : (later : Party → Bool) (fs : List Party) (q : Party) (back : List Party) → later q ≡ false → list_all later ((fs ++ q ∷ []) ++ back) ≡ false
none-behind later [] q back e = ap (λ b. b && list_all later back) e
none-behind later (f ∷ fs) q back e = ap (λ b. later f && b) (none-behind later fs q back e) ∙ and-false (later f)

-- behind the last one that is not
place-behind : (later : Party → Bool) (p : Party) (fs : List Party) (q : Party) (back : List Party) → later q ≡ false → list_all later back ≡ true
    → in_place later p ((fs ++ q ∷ []) ++ back) ≡ (fs ++ q ∷ []) ++ p ∷ back
place-behind later p [] q back e all =
    ap (λ b. cond b (p ∷ q ∷ back) (q ∷ in_place later p back)) (none-behind later [] q back e) ∙ ap (λ zs. q ∷ zs) (place-all later p back all)
place-behind later p (f ∷ fs) q back e all =
    ap (λ b. cond b (p ∷ f ∷ ((fs ++ q ∷ []) ++ back)) (f ∷ in_place later p ((fs ++ q ∷ []) ++ back))) (none-behind later (f ∷ fs) q back e)
    ∙ ap (λ zs. f ∷ zs) (place-behind later p fs q back e all)

-- how often a party stands in the list then
pub often-place : (later : Party → Bool) (p q : Party) (xs : List Party) → often q (in_place later p xs) ≡ often q xs + as_number (counts.is_party p q)
often-place later p q [] = omega arith
often-place later p q (x ∷ xs) = by (often-place later p q xs) (list_all later (x ∷ xs))
  where
    by : often q (in_place later p xs) ≡ often q xs + as_number (counts.is_party p q) → (b : Bool)
        → often q (cond b (p ∷ x ∷ xs) (x ∷ in_place later p xs)) ≡ often q (x ∷ xs) + as_number (counts.is_party p q)
    by rest true = omega arith
    by rest false = omega arith

-- ---- the search from the end of the list

-- all behind `next` are later, and `foremost` is the first of them
pub record Looks (later : Party → Bool) (xs : List Party) (foremost next : Option Party) : Type 0 where
  pub front : List Party
  pub back : List Party
  pub parts : xs ≡ front ++ back
  pub last : next ≡ last_or None front
  pub first : foremost ≡ slice_get back 0
  pub all_later : list_all later back ≡ true

pub looks-first : (later : Party → Bool) (xs : List Party) (next : Option Party) → next ≡ last_or None xs → Looks later xs None next
looks-first later xs next last = record { front = xs; back = []; parts = sym (append-nil xs); last = last; first = refl; all_later = refl }

-- those in front of the next one, and it
abbrev pub up_to : List Party → Option Party → List Party
up_to xs None = []
up_to xs (Some p) = parties_in_front xs p ++ p ∷ []

-- the front is what is left to look at
pub record LooksAt (later : Party → Bool) (xs : List Party) (p : Party) : Type 0 where
  pub rest : List Party
  pub back : List Party
  pub parts : xs ≡ rest ++ p ∷ back
  pub all_later : list_all later back ≡ true
  pub front : parties_in_front xs p ≡ rest

pub looks-at : (later : Party → Bool) (xs : List Party) (foremost : Option Party) (p : Party) → IsDistinct is_party xs → Looks later xs foremost (Some p) → LooksAt later xs p
looks-at later xs foremost p d looks =
    let end : EndsWith looks.front p = ends-with looks.front p (sym looks.last) in
    let whole : xs ≡ end.rest ++ p ∷ looks.back = looks.parts ∙ (ap (λ ys. ys ++ looks.back) end.parts ∙ append_assoc end.rest (p ∷ []) looks.back) in
    record {
      rest = end.rest;
      back = looks.back;
      parts = whole;
      all_later = looks.all_later;
      front = ap (λ ys. parties_in_front ys p) whole ∙ front-parts end.rest p looks.back (rw whole at d);
    }

pub looks-contains : (later : Party → Bool) (xs : List Party) (p : Party) → LooksAt later xs p → Contains xs p
looks-contains later xs p at = rw at.parts (Contains-middle at.rest p at.back)

pub looks-next : (later : Party → Bool) (xs : List Party) (p : Party) (next : Option Party) → LooksAt later xs p → later p ≡ true → next ≡ last_or None (parties_in_front xs p)
    → Looks later xs (Some p) next
looks-next later xs p next at is last = record {
  front = at.rest;
  back = p ∷ at.back;
  parts = at.parts;
  last = last ∙ ap (last_or None) at.front;
  first = refl;
  all_later = ap (λ b. b && list_all later at.back) is ∙ at.all_later;
}

length-push : (xs : List Party) (p : Party) → length (xs ++ p ∷ []) ≡ length xs + 1
length-push [] p = refl
length-push (x ∷ xs) p = let rest : length (xs ++ p ∷ []) ≡ length xs + 1 = length-push xs p in omega arith

pub looks-shorter : (later : Party → Bool) (xs : List Party) (p : Party) (next : Option Party) → IsDistinct is_party xs → LooksAt later xs p → next ≡ last_or None (parties_in_front xs p)
    → length (up_to xs next) < length (up_to xs (Some p))
looks-shorter later xs p next d at last = shorter next (last ∙ ap (last_or None) at.front)
  where
    whole : length (up_to xs (Some p)) ≡ length at.rest + 1
    whole = ap (λ ys. length (ys ++ p ∷ [])) at.front ∙ length-push at.rest p

    shorter : (o : Option Party) → o ≡ last_or None at.rest → length (up_to xs o) < length (up_to xs (Some p))
    shorter None e = let long = whole in omega arith
    shorter (Some q) e =
        let end : EndsWith at.rest q = ends-with at.rest q (sym e) in
        let parts : xs ≡ end.rest ++ q ∷ (p ∷ at.back) = at.parts ∙ (ap (λ ys. ys ++ p ∷ at.back) end.parts ∙ append_assoc end.rest (q ∷ []) (p ∷ at.back)) in
        let front : parties_in_front xs q ≡ end.rest = ap (λ ys. parties_in_front ys q) parts ∙ front-parts end.rest q (p ∷ at.back) (rw parts at d) in
        let here : length (up_to xs (Some q)) ≡ length at.rest = ap (λ ys. length (ys ++ q ∷ [])) front ∙ ap length (sym end.parts) in
        let long = whole in
        omega arith

-- the place is found: between the front and the back
pub record Found (later : Party → Bool) (xs : List Party) (foremost : Option Party) : Type 0 where
  pub front : List Party
  pub back : List Party
  pub parts : xs ≡ front ++ back
  pub first : foremost ≡ slice_get back 0
  pub place : (p : Party) → in_place later p xs ≡ front ++ p ∷ back

-- where nobody is left
pub found-end : (later : Party → Bool) (xs : List Party) (foremost next : Option Party) → Looks later xs foremost next → next ≡ None → Found later xs foremost
found-end later xs foremost next looks none =
    let nothing : looks.front ≡ [] = ends-nowhere looks.front (sym looks.last ∙ none) in
    let all : xs ≡ looks.back = looks.parts ∙ ap (λ ys. ys ++ looks.back) nothing in
    record {
      front = [];
      back = looks.back;
      parts = all;
      first = looks.first;
      place = λ p. ap (in_place later p) all ∙ place-all later p looks.back looks.all_later;
    }

-- and where the last one that is left is not later
pub found-before : (later : Party → Bool) (xs : List Party) (foremost : Option Party) (q : Party) → Looks later xs foremost (Some q) → later q ≡ false → Found later xs foremost
found-before later xs foremost q looks not_later =
    let end : EndsWith looks.front q = ends-with looks.front q (sym looks.last) in
    let whole : xs ≡ (end.rest ++ q ∷ []) ++ looks.back = looks.parts ∙ ap (λ ys. ys ++ looks.back) end.parts in
    record {
      front = end.rest ++ q ∷ [];
      back = looks.back;
      parts = whole;
      first = looks.first;
      place = λ p. ap (in_place later p) whole ∙ place-behind later p end.rest q looks.back not_later looks.all_later;
    }

pub found-none : (later : Party → Bool) (xs : List Party) (foremost : Option Party) → Found later xs foremost → IsNone foremost → (p : Party) → in_place later p xs ≡ xs ++ p ∷ []
found-none later xs None found none p =
    let nothing : found.back ≡ [] = first-nowhere found.back (sym found.first) in
    let all : xs ≡ found.front = found.parts ∙ (ap (λ ys. found.front ++ ys) nothing ∙ append-nil found.front) in
    found.place p ∙ (ap (λ ys. found.front ++ p ∷ ys) nothing ∙ ap (λ ys. ys ++ p ∷ []) (sym all))
found-none later xs (Some other) found none p = cc

pub found-some : (later : Party → Bool) (xs : List Party) (foremost : Option Party) → IsDistinct is_party xs → Found later xs foremost
    → IfSome foremost (λ other. Contains xs other × ((p : Party) → in_place later p xs ≡ put_party_before xs other p))
found-some later xs None d found = tt
found-some later xs (Some other) d found = at found.back found.parts found.first found.place
  where
    at : (back : List Party) → xs ≡ found.front ++ back → Some other ≡ slice_get back 0 → ((p : Party) → in_place later p xs ≡ found.front ++ p ∷ back)
        → Contains xs other × ((p : Party) → in_place later p xs ≡ put_party_before xs other p)
    at [] parts first place = cc
    at (y ∷ back) parts first place =
        let is : y ≡ other = cc in
        let whole : xs ≡ found.front ++ other ∷ back = parts ∙ ap (λ z. found.front ++ z ∷ back) is in (
          rw whole (Contains-middle found.front other back),
          λ p. place p ∙ (ap (λ z. found.front ++ p ∷ z ∷ back) is ∙ (sym (put-parts found.front other back p (rw whole at d)) ∙ ap (λ ys. put_party_before ys other p) (sym whole))),
        )
