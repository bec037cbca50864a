-- A walk that ends the contexts that an end reaches.
use Rattle.std.proofs.Common.{◌≡◌, ℕ, zero, suc, ◌+◌, ◌<◌, ◌≤◌, eqb, Bool, true, false, not, ◌&&◌, ◌||◌, ◌⊎◌, cond, List, [], ◌∷◌, ◌++◌, length, set, refl, sym, ◌∙◌, ap, inl, inr, Option, None, Some, arith}
use Rattle.std.specs.List.{sum_by}
use Rattle.std.specs.Option.{option_map, option_or, is_none}
use Rattle.std.proofs.lemmas.Bool.{cases_eq, or_cases, or_left, or_right, eqb-true, eq-eqb, true≢false, cases_lt}
use Rattle.std.proofs.lemmas.Grind.{get_or-set_at}
use Rattle.std.proofs.lemmas.List.{get_or_past, get_or-set_other, length-set}
use Rattle.std.proofs.lemmas.List.Folds.{list_any-append}
use Rattle.std.proofs.lemmas.List.Sums.{sum_by-cons}
use Rattle.gt_model.specs.declared.context.Context.{Context}
use Rattle.gt_model.specs.declared.context.End.{End}
use Rattle.gt_ctx.specs.Contents.{context_at}
use Rattle.gt_ctx.specs.Calls.{cut_context, ended_kept}
use Rattle.gt_ctx.specs.Links.{items_of, has}
use Rattle.gt_ctx.specs.Walk.{is_live, is_newly, AreClosed, HasEnded, to_come}

pub live_within : (contexts : List (Option Context)) (y : ℕ) → is_live (context_at contexts y) ≡ true → y < length contexts
live_within contexts y live =
    elim (cases_lt y (length contexts)) [
      | inl l ↦ l
      | inr m ↦ absurd (true≢false (sym live ∙ ap is_live (get_or_past contexts y None m)))
    ]

-- the state of a walk: what has ended newly, and what is left
pub record IsWalking (old now : List (Option Context)) (children waiting : List (List ℕ)) (x : ℕ) (end : End) (stack found : List ℕ) : Type 0 where
  pub as_many : length now ≡ length old
  pub kept : (y : ℕ) → context_at now y ≡ cut_context (is_newly old now y) end (context_at old y)
  pub first : is_live (context_at now x) ≡ true → has stack x ≡ true
  pub closed : (y z : ℕ) → is_newly old now y ≡ true → has (items_of children y) z ≡ true → is_live (context_at now z) ≡ true → has stack z ≡ true
  pub least : (p : ℕ → Bool) → p x ≡ true → AreClosed p children → ((y : ℕ) → is_newly old now y ≡ true → p y ≡ true) × ((z : ℕ) → has stack z ≡ true → p z ≡ true)
  pub found_from : (s : ℕ) → has found s ≡ true → (y : ℕ) × (is_newly old now y ≡ true) × (has (items_of waiting y) s ≡ true)
  pub finds : (y s : ℕ) → is_newly old now y ≡ true → has (items_of waiting y) s ≡ true → has found s ≡ true

pub has_append : (xs ys : List ℕ) (k : ℕ) → has (xs ++ ys) k ≡ (has xs k || has ys k)
has_append xs ys k = list_any-append (λ z. eqb z k) xs ys

has_left : (xs ys : List ℕ) (k : ℕ) → has xs k ≡ true → has (xs ++ ys) k ≡ true
has_left xs ys k h = has_append xs ys k ∙ or_left (has xs k) (has ys k) h

has_right : (xs ys : List ℕ) (k : ℕ) → has ys k ≡ true → has (xs ++ ys) k ≡ true
has_right xs ys k h = has_append xs ys k ∙ or_right (has xs k) (has ys k) h

has_cases : (xs ys : List ℕ) (k : ℕ) → has (xs ++ ys) k ≡ true → (has xs k ≡ true) ⊎ (has ys k ≡ true)
has_cases xs ys k h = or_cases (has xs k) (has ys k) (sym (has_append xs ys k) ∙ h)

has_one : (y k : ℕ) → has (y ∷ []) k ≡ true → y ≡ k
has_one y k h =
    elim (or_cases (eqb y k) false h) [
      | inl e ↦ eqb-true y k e
      | inr e ↦ absurd (true≢false (sym e))
    ]

one_has : (y k : ℕ) → y ≡ k → has (y ∷ []) k ≡ true
one_has y k e = or_left (eqb y k) false (eq-eqb y k e)

never_newly : (b : Bool) → (b && not b) ≡ true → ⊥
never_newly true h = true≢false (sym h)
never_newly false h = true≢false (sym h)

not_left : (b : Bool) → (b ≡ true → false ≡ true) → b ≡ false
not_left true h = sym (h refl)
not_left false h = refl

start_kept : (b : Bool) (end : End) (kept : Option Context) → kept ≡ cut_context (b && not b) end kept
start_kept true end kept = refl
start_kept false end kept = refl

-- nothing has ended newly at the start
pub walk_starts : (old : List (Option Context)) (children waiting : List (List ℕ)) (x : ℕ) (end : End) → IsWalking old old children waiting x end (x ∷ []) []
walk_starts old children waiting x end = record {
  as_many = refl;
  kept = λ y. start_kept (is_live (context_at old y)) end (context_at old y);
  first = λ _. one_has x x refl;
  closed = λ y z n _ _. absurd (never_newly (is_live (context_at old y)) n);
  least = λ p px _. (λ y n. absurd (never_newly (is_live (context_at old y)) n), λ z h. ap p (sym (has_one x z h)) ∙ px);
  found_from = λ s h. absurd (true≢false (sym h));
  finds = λ y s n _. absurd (never_newly (is_live (context_at old y)) n);
}

-- nothing is left at the end
pub walk_ends : (old now : List (Option Context)) (children waiting : List (List ℕ)) (x : ℕ) (end : End) (found : List ℕ) → IsWalking old now children waiting x end [] found → HasEnded old now children waiting x end found
walk_ends old now children waiting x end found w = record {
  as_many = w.as_many;
  kept = w.kept;
  first = not_left (is_live (context_at now x)) w.first;
  closed = λ y z n h. not_left (is_live (context_at now z)) (w.closed y z n h);
  least = λ p px c. (w.least p px c).0;
  found_from = w.found_from;
  finds = w.finds;
}

module _ (old now : List (Option Context)) (children waiting : List (List ℕ)) (x : ℕ) (end : End) (front found : List ℕ) (y : ℕ) (w : IsWalking old now children waiting x end (front ++ y ∷ []) found) where
  left_of : (z : ℕ) → (z ≡ y → ⊥) → has (front ++ y ∷ []) z ≡ true → has front z ≡ true
  left_of z n h =
      elim (has_cases front (y ∷ []) z h) [
        | inl e ↦ e
        | inr e ↦ absurd (n (sym (has_one y z e)))
      ]

  -- one that has ended before is passed over
  pub walk_passes : is_live (context_at now y) ≡ false → IsWalking old now children waiting x end front found
  walk_passes ended =
      let other : (z : ℕ) → is_live (context_at now z) ≡ true → z ≡ y → ⊥ = λ z live e. true≢false (sym live ∙ ap (λ k. is_live (context_at now k)) e ∙ ended) in
      record {
        as_many = w.as_many;
        kept = w.kept;
        first = λ live. left_of x (other x live) (w.first live);
        closed = λ a z n h live. left_of z (other z live) (w.closed a z n h live);
        least = λ p px c. let l = w.least p px c in (l.0, λ z h. l.1 z (has_left front (y ∷ []) z h));
        found_from = w.found_from;
        finds = w.finds;
      }

pub ended_or : (o : Option End) (end : End) → is_none (option_or o (Some end)) ≡ false
ended_or None end = refl
ended_or (Some e) end = refl

pub ended_not_live : (end : End) (kept : Option Context) → is_live (option_map (ended_kept end) kept) ≡ false
ended_not_live end None = refl
ended_not_live end (Some kept) = ended_or kept.end end

and_false : (a : Bool) → (a && false) ≡ false
and_false true = refl
and_false false = refl

pub not_newly : (old now : Option Context) → is_live now ≡ true → (is_live old && not (is_live now)) ≡ false
not_newly old now live = ap (λ b. is_live old && not b) live ∙ and_false (is_live old)

pub is_new : (old now : Option Context) → is_live old ≡ true → is_live now ≡ false → (is_live old && not (is_live now)) ≡ true
is_new old now before after = ap (λ b. b && not (is_live now)) before ∙ ap not after

module _ (old now new : List (Option Context)) (children waiting : List (List ℕ)) (x : ℕ) (end : End) (front found : List ℕ) (y : ℕ) (w : IsWalking old now children waiting x end (front ++ y ∷ []) found) (size : length new ≡ length now) (live : is_live (context_at now y) ≡ true) (here : context_at new y ≡ option_map (ended_kept end) (context_at now y)) (others : (k : ℕ) → (k ≡ y → ⊥) → context_at new k ≡ context_at now k) where
  before : context_at now y ≡ context_at old y
  before = w.kept y ∙ ap (λ b. cut_context b end (context_at old y)) (not_newly (context_at old y) (context_at now y) live)

  ended_here : is_live (context_at new y) ≡ false
  ended_here = ap is_live here ∙ ended_not_live end (context_at now y)

  newly_here : is_newly old new y ≡ true
  newly_here = is_new (context_at old y) (context_at new y) (ap is_live (sym before) ∙ live) ended_here

  same_newly : (k : ℕ) → (k ≡ y → ⊥) → is_newly old new k ≡ is_newly old now k
  same_newly k n = ap (λ o. is_live (context_at old k) && not (is_live o)) (others k n)

  still_newly : (k : ℕ) → is_newly old now k ≡ true → is_newly old new k ≡ true
  still_newly k h =
      elim (cases_eq k y) [
        | inl e ↦ ap (is_newly old new) e ∙ newly_here
        | inr n ↦ same_newly k n ∙ h
      ]

  still_live : (k : ℕ) → is_live (context_at new k) ≡ true → (k ≡ y → ⊥) × (is_live (context_at now k) ≡ true)
  still_live k h =
      let n : k ≡ y → ⊥ = λ e. true≢false (sym h ∙ ap (λ j. is_live (context_at new j)) e ∙ ended_here) in
      (n, ap is_live (sym (others k n)) ∙ h)

  step_kept : (k : ℕ) → context_at new k ≡ cut_context (is_newly old new k) end (context_at old k)
  step_kept k =
      elim (cases_eq k y) [
        | inl e ↦
            ap (context_at new) e ∙ here ∙ ap (option_map (ended_kept end)) before
            ∙ ap (λ b. cut_context b end (context_at old y)) (sym newly_here)
            ∙ ap (λ j. cut_context (is_newly old new j) end (context_at old j)) (sym e)
        | inr n ↦ others k n ∙ w.kept k ∙ ap (λ b. cut_context b end (context_at old k)) (sym (same_newly k n))
      ]

  step_left : (z : ℕ) → (z ≡ y → ⊥) → has (front ++ y ∷ []) z ≡ true → has (front ++ items_of children y) z ≡ true
  step_left z n h = has_left front (items_of children y) z (left_of old now children waiting x end front found y w z n h)

  step_closed : (a z : ℕ) → is_newly old new a ≡ true → has (items_of children a) z ≡ true → is_live (context_at new z) ≡ true → has (front ++ items_of children y) z ≡ true
  step_closed a z newly child alive =
      elim (cases_eq a y) [
        | inl e ↦ has_right front (items_of children y) z (ap (λ j. has (items_of children j) z) (sym e) ∙ child)
        | inr n ↦
            let s = still_live z alive in
            step_left z s.0 (w.closed a z (sym (same_newly a n) ∙ newly) child s.1)
      ]

  step_least : (p : ℕ → Bool) → p x ≡ true → AreClosed p children → ((k : ℕ) → is_newly old new k ≡ true → p k ≡ true) × ((z : ℕ) → has (front ++ items_of children y) z ≡ true → p z ≡ true)
  step_least p px c =
      let l = w.least p px c in
      let py : p y ≡ true = l.1 y (has_right front (y ∷ []) y (one_has y y refl)) in (
        λ k h. elim (cases_eq k y) [
          | inl e ↦ ap p e ∙ py
          | inr n ↦ l.0 k (sym (same_newly k n) ∙ h)
        ],
        λ z h. elim (has_cases front (items_of children y) z h) [
          | inl e ↦ l.1 z (has_left front (y ∷ []) z e)
          | inr e ↦ c y z py e
        ],
      )

  step_from : (s : ℕ) → has (found ++ items_of waiting y) s ≡ true → (k : ℕ) × (is_newly old new k ≡ true) × (has (items_of waiting k) s ≡ true)
  step_from s h =
      elim (has_cases found (items_of waiting y) s h) [
        | inl e ↦ let f = w.found_from s e in (f.0, still_newly f.0 f.1, f.2)
        | inr e ↦ (y, newly_here, e)
      ]

  step_finds : (k s : ℕ) → is_newly old new k ≡ true → has (items_of waiting k) s ≡ true → has (found ++ items_of waiting y) s ≡ true
  step_finds k s newly h =
      elim (cases_eq k y) [
        | inl e ↦ has_right found (items_of waiting y) s (ap (λ j. has (items_of waiting j) s) (sym e) ∙ h)
        | inr n ↦ has_left found (items_of waiting y) s (w.finds k s (sym (same_newly k n) ∙ newly) h)
      ]

  -- one without an error ends, and its children are left
  walk_ends_one : IsWalking old new children waiting x end (front ++ items_of children y) (found ++ items_of waiting y)
  walk_ends_one = record {
    as_many = size ∙ w.as_many;
    kept = step_kept;
    first = λ alive. let s = still_live x alive in step_left x s.0 (w.first s.1);
    closed = step_closed;
    least = step_least;
    found_from = step_from;
    finds = step_finds;
  }

-- the same, where the context that ends is written
pub walk_more : (old now : List (Option Context)) (children waiting : List (List ℕ)) (x : ℕ) (end : End) (front found : List ℕ) (y : ℕ) → IsWalking old now children waiting x end (front ++ y ∷ []) found → is_live (context_at now y) ≡ true → IsWalking old (set now y (option_map (ended_kept end) (context_at now y))) children waiting x end (front ++ items_of children y) (found ++ items_of waiting y)
walk_more old now children waiting x end front found y w live =
    let v : Option Context = option_map (ended_kept end) (context_at now y) in
    walk_ends_one old now (set now y v) children waiting x end front found y w (length-set now y v) live
    (get_or-set_at now y y v None refl (live_within now y live))
    (λ k n. get_or-set_other now y k v None n)

at_live : (kept : Option Context) (n : ℕ) → is_live kept ≡ true → n ≡ cond (is_live kept) n 0
at_live kept n live = ap (λ b. cond b n 0) (sym live)

at_ended : (kept : Option Context) (n : ℕ) → is_live kept ≡ false → cond (is_live kept) n 0 ≡ 0
at_ended kept n e = ap (λ b. cond b n 0) e

-- what the lists of those without an error lose
pub to_come_ends : (lists : List (List ℕ)) (contexts : List (Option Context)) (y : ℕ) (v : Option Context) → length lists ≡ length contexts → is_live (context_at contexts y) ≡ true → is_live v ≡ false → to_come lists (set contexts y v) + length (items_of lists y) ≡ to_come lists contexts
to_come_ends [] [] y v size live e = absurd (true≢false (sym live))
to_come_ends [] (k ∷ ks) y v size live e = absurd (omega arith)
to_come_ends (items ∷ lists) [] y v size live e = absurd (omega arith)
to_come_ends (items ∷ lists) (k ∷ ks) zero v size live e =
    let a = at_live k (length items) live in
    let b = at_ended v (length items) e in
    omega arith
to_come_ends (items ∷ lists) (k ∷ ks) (suc y) v size live e =
    let more = to_come_ends lists ks y v (omega arith) live e in
    omega arith

to_come_one : (b : Bool) (n : ℕ) → cond b n 0 ≤ n
to_come_one true n = omega arith
to_come_one false n = omega arith

pub to_come-le : (lists : List (List ℕ)) (contexts : List (Option Context)) → to_come lists contexts ≤ sum_by length lists
to_come-le [] contexts = omega arith
to_come-le (items ∷ lists) [] = omega arith
to_come-le (items ∷ lists) (k ∷ ks) =
    let more = to_come-le lists ks in
    let here = to_come_one (is_live k) (length items) in
    let all = sum_by-cons length items lists in
    omega arith
