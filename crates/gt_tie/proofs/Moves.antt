-- How a step changes the views, and that seats that are joined or cut keep the rule.
use Rattle.std.proofs.Common.{◌≡◌, ◌≢◌, ◌*◌, ◌⊎◌, ℕ, zero, suc, cond, eqb, List, [], ◌∷◌, ◌++◌, length, set, None, Some, refl, sym, ap, ◌∙◌, subst, inl, inr, ⊎_elim, eq-eqb, ne_eqb}
use mathlib.Core.Option.{some, some-injective, some-ne-none}
use lib.ListN.{get_elem?}
use Rattle.atomic_table.specs.Table.{State, Splits, Joins}
use Rattle.atomic_table.proofs.Lists.{at_set}
use Rattle.gt_tie.specs.declared.view.View.{View}
use Rattle.gt_tie.specs.declared.view.RecPart.{RecPart}
use Rattle.gt_tie.specs.Views.{nobody, rec_view, joined, without_rec, only_rec, without_rest}
use Rattle.gt_tie.specs.Rule.{Holds, Deal, Fits, FitsRec}

-- the function with another value at q
abbrev pub moved : {A : Type 0} → (ℕ → A) → ℕ → A → ℕ → A
moved f q a p = cond (eqb p q) a (f p)

pub moved-same : {A : Type 0} (f : ℕ → A) (q : ℕ) (a : A) → moved f q a q ≡ a
moved-same f q a = ap (λ b. cond b a (f q)) (eq-eqb q q refl)

pub moved-other : {A : Type 0} (f : ℕ → A) (q : ℕ) (a : A) (p : ℕ) → p ≢ q → moved f q a p ≡ f p
moved-other f q a p ne = ap (λ b. cond b a (f p)) (ne_eqb p q ne)

pub some_same : {A : Type 0} {x y : A} → Some x ≡ Some y → x ≡ y
some_same e = cc

pub none_some : {A : Type 0} {P : Type 0} {x : A} → None ≡ Some x → P
none_some e = cc

-- a seat that knows nothing fits
pub fits-nobody : (ws : List ℕ) (n m : ℕ) (d : Deal) (k h : ℕ) → Fits ws n m d k (nobody h)
fits-nobody ws n m d k h = record { rest = λ r e. none_some e; book = λ l e. none_some e; heap = λ q e. none_some e; rec = λ r e. none_some e }

-- the record i is at another seat
abbrev pub with_rec_at : Deal → ℕ → ℕ → Deal
with_rec_at d i k = record d { rec_seat = moved d.rec_seat i k }

-- where a seat does not have the record, it fits as before
pub fits-elsewhere : (ws : List ℕ) (n m : ℕ) (d : Deal) (i to k : ℕ) (v : View) → ((r : RecPart) → v.rec ≡ Some r → r.number ≢ i) → Fits ws n m d k v → Fits ws n m (with_rec_at d i to) k v
fits-elsewhere ws n m d i to k v free f = record {
  rest = λ r e. let t = f.rest r e in record { here = t.here; records = t.records; from_record = t.from_record; from_heap = t.from_heap; due = t.due; period = t.period; heap = t.heap; key = t.key; unplaced = t.unplaced };
  book = λ l e. let t = f.book l e in record { here = t.here; all = t.all; due = t.due; period = t.period };
  heap = λ h e. let t = f.heap h e in record { here = t.here; dealt = t.dealt; number = t.number; all = t.all; keys = t.keys };
  rec = λ r e. let t = f.rec r e in record { here = t.here ∙ sym (moved-other d.rec_seat i to r.number (free r e)); dealt = t.dealt; number = t.number; due = t.due; period = t.period; heap = t.heap; key = t.key; below = t.below };
}

-- the record is at this seat now
pub rec-here : (ws : List ℕ) (n m : ℕ) (d : Deal) (k to : ℕ) (r : RecPart) → FitsRec ws n m d k r → FitsRec ws n m (with_rec_at d r.number to) to r
rec-here ws n m d k to r t = record { here = sym (moved-same d.rec_seat r.number to); dealt = t.dealt; number = t.number; due = t.due; period = t.period; heap = t.heap; key = t.key; below = t.below }

pub at_place : (ws : List ℕ) (n m : ℕ) (d : Deal) (k j : ℕ) (v u : View) → k ≡ j → v ≡ u → Fits ws n m d j v → Fits ws n m d k u
at_place ws n m d k j v u e f t = subst (λ (y : ℕ × View). Fits ws n m d y.0 y.1) (λ i. (sym e i, f i)) t

-- the record's seat is taken in by a seat that has none
pub joins : (n m id other : ℕ) (v : View) (h : ℕ) (r : RecPart) → v.rec ≡ None → Joins (Holds n m) id v other (rec_view h r) (joined v (rec_view h r)) (nobody 0)
joins n m id other v h r bare s t at apart there =
    let both : View = joined v (rec_view h r) in
    let mine : Fits s.words n m t.deal id v = t.each id v at in
    let was : get_elem? s.views other ≡ some (rec_view h r) = ⊎_elim (λ (x : (other ≡ id) × (both ≡ rec_view h r)). absurd (apart x.0)) (λ (x : (other ≢ id) × (get_elem? s.views other ≡ some (rec_view h r))). x.1) (at_set s.views id other both (rec_view h r) there) in
    let theirs : FitsRec s.words n m t.deal other r = (t.each other (rec_view h r) was).rec r refl in
    let d : Deal = with_rec_at t.deal r.number id in
    let kept : Fits s.words n m d id v = fits-elsewhere s.words n m t.deal r.number id id v (λ p e. none_some (sym bare ∙ e)) mine in
    record {
      words = t.words;
      deal = d;
      each = λ k u e. ⊎_elim
          (λ (x : (k ≡ other) × (nobody 0 ≡ u)). at_place s.words n m d k other (nobody 0) u x.0 x.1 (fits-nobody s.words n m d other 0))
          (λ (x : (k ≢ other) × (get_elem? (set s.views id both) k ≡ some u)). ⊎_elim
          (λ (y : (k ≡ id) × (both ≡ u)). at_place s.words n m d k id both u y.0 y.1
          (record { rest = kept.rest; book = kept.book; heap = kept.heap; rec = λ p is. subst (FitsRec s.words n m d id) (some_same is) (rec-here s.words n m t.deal other id r theirs) }))
          (λ (y : (k ≢ id) × (get_elem? s.views k ≡ some u)).
          let f : Fits s.words n m t.deal k u = t.each k u y.1 in
          fits-elsewhere s.words n m t.deal r.number id k u (λ p is same. x.0 ((f.rec p is).here ∙ (ap t.deal.rec_seat same ∙ sym theirs.here))) f)
          (at_set s.views id k both u x.1))
          (at_set (set s.views id both) other k (nobody 0) u e);
    }

-- a place in a list with one more: it is a place of the list, or the last
last_or : {A : Type 0} (xs : List A) (a b : A) (j : ℕ) → get_elem? (xs ++ a ∷ []) j ≡ some b → (get_elem? xs j ≡ some b) ⊎ ((j ≡ length xs) × (a ≡ b))
last_or [] a b zero e = inr (refl, some-injective a b e)
last_or [] a b (suc j) e = absurd (some-ne-none b (sym e))
last_or (x ∷ xs) a b zero e = inl e
last_or (x ∷ xs) a b (suc j) e = ⊎_elim (λ t. inl t) (λ t. inr (ap suc t.0, t.1)) (last_or xs a b j e)

-- a view cut in two, where each view fits afterwards
pub split_holds : (n m id : ℕ) (s : State Unit View) (d : Deal) (left right : View) → length s.words ≡ 4 * n
    → Fits s.words n m d id left → Fits s.words n m d (length (set s.views id left)) right
    → ((k : ℕ) (u : View) → k ≢ id → get_elem? s.views k ≡ some u → Fits s.words n m d k u)
    → Holds n m (record { words = s.words; homes = s.homes; views = set s.views id left ++ right ∷ [] })
split_holds n m id s d left right words mine new others = record {
  words = words;
  deal = d;
  each = λ k u e. ⊎_elim
      (λ (was : get_elem? (set s.views id left) k ≡ some u). ⊎_elim
      (λ (t : (k ≡ id) × (left ≡ u)). at_place s.words n m d k id left u t.0 t.1 mine)
      (λ (t : (k ≢ id) × (get_elem? s.views k ≡ some u)). others k u t.0 t.1)
      (at_set s.views id k left u was))
      (λ (t : (k ≡ length (set s.views id left)) × (right ≡ u)). at_place s.words n m d k (length (set s.views id left)) right u t.0 t.1 new)
      (last_or (set s.views id left) right u k e);
}

-- the record's part is cut off
pub rec_splits : (n m id : ℕ) (v : View) (r : RecPart) → v.rec ≡ Some r → Splits (Holds n m) id v (without_rec v) (only_rec v)
rec_splits n m id v r has s t at =
    let mine : Fits s.words n m t.deal id v = t.each id v at in
    let own : FitsRec s.words n m t.deal id r = mine.rec r has in
    let place : ℕ = length (set s.views id (without_rec v)) in
    let d : Deal = with_rec_at t.deal r.number place in
    let bare : Fits s.words n m t.deal id (without_rec v) = record { rest = mine.rest; book = mine.book; heap = mine.heap; rec = λ p e. none_some e } in
    split_holds n m id s d (without_rec v) (only_rec v) t.words
    (fits-elsewhere s.words n m t.deal r.number place id (without_rec v) (λ p e. none_some e) bare)
    (record { rest = λ p e. none_some e; book = λ p e. none_some e; heap = λ p e. none_some e; rec = λ p is. subst (FitsRec s.words n m d place) (some_same (sym has ∙ is)) (rec-here s.words n m t.deal id place r own) })
    (λ k u ne e. let f = t.each k u e in fits-elsewhere s.words n m t.deal r.number place k u (λ p is same. ne ((f.rec p is).here ∙ (ap t.deal.rec_seat same ∙ sym own.here))) f)

-- an empty seat comes off
pub empty_splits : (n m id : ℕ) (v : View) (h : ℕ) → Splits (Holds n m) id v v (nobody h)
empty_splits n m id v h s t at =
    split_holds n m id s t.deal v (nobody h) t.words (t.each id v at) (fits-nobody s.words n m t.deal (length (set s.views id v)) h) (λ k u ne e. t.each k u e)

-- what is left to be dealt goes
pub rest_splits : (n m id : ℕ) (v : View) (h : ℕ) → Splits (Holds n m) id v (without_rest v) (nobody h)
rest_splits n m id v h s t at =
    let mine : Fits s.words n m t.deal id v = t.each id v at in
    split_holds n m id s t.deal (without_rest v) (nobody h) t.words (record { rest = λ p e. none_some e; book = mine.book; heap = mine.heap; rec = mine.rec })
    (fits-nobody s.words n m t.deal (length (set s.views id (without_rest v))) h) (λ k u ne e. t.each k u e)
