-- The counted times are those of the records, by number.
use Rattle.std.proofs.Common.{◌≡◌, ◌⊎◌, ℕ, zero, suc, ◌+◌, ◌-◌, ◌<◌, ◌≤◌, nat_lt, List, [], ◌∷◌, ◌++◌, length, refl, sym, ap, subst, ◌∙◌, arith, slice_get, Option, None, Some, true, false, min, inl, inr}
use Rattle.std.specs.List.{filter_map, cons_option, enumerate_from}
use Rattle.std.proofs.lemmas.Bool.{ltb-true, lt-ltb, le-ltb}
use Rattle.std.proofs.lemmas.Option.{slice_get_within}
use Rattle.gt_model.specs.declared.script.Script.{Script}
use Rattle.gt_model.specs.declared.state.Timer.{Timer}
use Rattle.gt_model.specs.Tables.{flatten, at, least}
use Rattle.gt_rules.specs.State.{State, goroutine_at, timer_at, context_at}
use Rattle.gt_rules.specs.Counted.{sleep_of, counted_timer, deadline_in, counted}
use Rattle.gt_model.specs.declared.context.Context.{Context}
use Rattle.gt_book.specs.Least.{sleep_in, CountsBy, IsCountedBy}

-- ---- the numbers of a list

abbrev Has : ℕ → List ℕ → Type 0
Has n [] = ⊥
Has n (x ∷ xs) = (n ≡ x) ⊎ Has n xs

has-left : (n : ℕ) (xs ys : List ℕ) → Has n xs → Has n (xs ++ ys)
has-left n [] ys h = absurd h
has-left n (x ∷ xs) ys (inl e) = inl e
has-left n (x ∷ xs) ys (inr h) = inr (has-left n xs ys h)

has-right : (n : ℕ) (xs ys : List ℕ) → Has n ys → Has n (xs ++ ys)
has-right n [] ys h = h
has-right n (x ∷ xs) ys h = inr (has-right n xs ys h)

has-either : (n : ℕ) (xs ys : List ℕ) → Has n (xs ++ ys) → Has n xs ⊎ Has n ys
has-either n [] ys h = inr h
has-either n (x ∷ xs) ys (inl e) = inl (inl e)
has-either n (x ∷ xs) ys (inr h) = elim (has-either n xs ys h) [ inl k ↦ inl (inr k) | inr k ↦ inr k ]

least-from : (ys : List ℕ) (x m : ℕ) → Has m (x ∷ ys) → ((n : ℕ) → Has n (x ∷ ys) → m ≤ n) → least (x ∷ ys) ≡ Some m
least-from [] x m (inl e) low = ap Some (sym e)
least-from [] x m (inr h) low = absurd h
least-from (y ∷ ys) x m h low =
    let under_x : m ≤ x = low x (inl refl) in
    let under_y : m ≤ y = low y (inr (inl refl)) in
    least-from ys (min x y) m (kept ys x y m under_x under_y h) (λ n k. lower ys x y m n under_x under_y low k)
  where
    kept : (ys : List ℕ) (x y m : ℕ) → m ≤ x → m ≤ y → Has m (x ∷ y ∷ ys) → Has m (min x y ∷ ys)
    kept ys x y m a b (inl e) = inl (omega arith)
    kept ys x y m a b (inr (inl e)) = inl (omega arith)
    kept ys x y m a b (inr (inr h)) = inr h

    lower : (ys : List ℕ) (x y m n : ℕ) → m ≤ x → m ≤ y → ((n : ℕ) → Has n (x ∷ y ∷ ys) → m ≤ n) → Has n (min x y ∷ ys) → m ≤ n
    lower ys x y m n a b low (inl e) = omega arith
    lower ys x y m n a b low (inr h) = low n (inr (inr h))

least-has : (xs : List ℕ) (m : ℕ) → Has m xs → ((n : ℕ) → Has n xs → m ≤ n) → least xs ≡ Some m
least-has [] m h low = absurd h
least-has (x ∷ xs) m h low = least-from xs x m h low

no-number : (xs : List ℕ) → ((n : ℕ) → Has n xs → ⊥) → xs ≡ []
no-number [] h = refl
no-number (x ∷ xs) h = absurd (h x (inl refl))

-- ---- what a list gives

given-into : {X : Type 0} (f : X → Option ℕ) (xs : List X) (i : ℕ) (x : X) (n : ℕ) → slice_get xs i ≡ Some x → f x ≡ Some n → Has n (filter_map f xs)
given-into f [] i x n e is = cc
given-into f (y ∷ xs) zero x n e is =
    let same : y ≡ x = cc in
    let gives : f y ≡ Some n = ap f same ∙ is in
    subst (λ o. Has n (cons_option o (filter_map f xs))) (sym gives) (inl refl)
given-into f (y ∷ xs) (suc i) x n e is =
    let rest : Has n (filter_map f xs) = given-into f xs i x n e is in
    elim (f y) as (λ o. Has n (cons_option o (filter_map f xs))) [ None ↦ rest | Some u ↦ inr rest ]

record Given {X : Type 0} (f : X → Option ℕ) (xs : List X) (n : ℕ) : Type 0 where
  place : ℕ
  item : X
  there : slice_get xs place ≡ Some item
  gives : f item ≡ Some n

given-later : {X : Type 0} (f : X → Option ℕ) (y : X) (xs : List X) (n : ℕ) → Given f xs n → Given f (y ∷ xs) n
given-later f y xs n g = record { place = suc g.place; item = g.item; there = g.there; gives = g.gives }

given-from : {X : Type 0} (f : X → Option ℕ) (xs : List X) (n : ℕ) → Has n (filter_map f xs) → Given f xs n
given-from f [] n h = absurd h
given-from {X} f (y ∷ xs) n h =
    elim (f y) as (λ o. f y ≡ o → Has n (cons_option o (filter_map f xs)) → Given f (y ∷ xs) n) [
      | None ↦ λ e k. given-later f y xs n (given-from f xs n k)
      | Some u ↦ λ e k. elim k [
        | inl is ↦ record { place = 0; item = y; there = refl; gives = e ∙ ap Some (sym is) }
        | inr later ↦ given-later f y xs n (given-from f xs n later)
      ]
    ] refl h

-- ---- timers by place

enumerated-from : {X : Type 0} (n : ℕ) (xs : List X) (i : ℕ) (e : ℕ × X) → slice_get (enumerate_from n xs) i ≡ Some e → (e.0 ≡ n + i) × (slice_get xs i ≡ Some e.1)
enumerated-from n [] i e is = cc
enumerated-from {X} n (x ∷ xs) zero e is =
    let same : (n, x) ≡ e = cc in
    subst (λ (e : ℕ × X). (e.0 ≡ n + 0) × (slice_get (x ∷ xs) 0 ≡ Some e.1)) same (omega arith, refl)
enumerated-from n (x ∷ xs) (suc i) e is =
    let rest = enumerated-from (n + 1) xs i e is in
    let place : e.0 ≡ (n + 1) + i = rest.0 in
    (omega arith, rest.1)

enumerated-into : {X : Type 0} (n : ℕ) (xs : List (Option X)) (i : ℕ) → i < length xs → slice_get (enumerate_from n xs) i ≡ Some (n + i, at xs i)
enumerated-into n [] i h = absurd (omega arith)
enumerated-into n (x ∷ xs) zero h = let is : n ≡ n + 0 = omega arith in ap (λ k. Some (k, x)) is
enumerated-into n (x ∷ xs) (suc i) h =
    let is : (n + 1) + i ≡ n + suc i = omega arith in
    enumerated-into (n + 1) xs i (omega arith) ∙ ap (λ k. Some (k, at xs i)) is

-- ---- the counted times and those of the records

abbrev sleeps : State → List ℕ
sleeps s = filter_map (sleep_of 0) s.goroutines

abbrev timers : Script → State → List ℕ
timers script s = filter_map (counted_timer script s 0) (enumerate_from 0 s.timers)

abbrev deadlines : State → List ℕ
deadlines s = filter_map (deadline_in 0) s.contexts

sleep-has : (s : State) (g t : ℕ) → sleep_in (goroutine_at s g) ≡ Some t → Has t (sleeps s)
sleep-has s zero t e = cc
sleep-has s (suc i) t e =
    elim (goroutine_at s (suc i)) as (λ o. goroutine_at s (suc i) ≡ o → sleep_in o ≡ Some t → Has t (sleeps s)) [
      | None ↦ λ q k. cc
      | Some r ↦ λ q k. given-into (sleep_of 0) s.goroutines i r t q k
    ] refl e

timer-has : (script : Script) (s : State) (id t : ℕ) → id < length s.timers → counted_timer script s 0 (id, timer_at s id) ≡ Some t → Has t (timers script s)
timer-has script s id t h e =
    let zero_first : 0 + id ≡ id = omega arith in
    given-into (counted_timer script s 0) (enumerate_from 0 s.timers) id (0 + id, timer_at s id) t (enumerated-into 0 s.timers id h)
    (ap (λ k. counted_timer script s 0 (k, timer_at s id)) zero_first ∙ e)

at-there : {X : Type 0} (xs : List (Option X)) (i : ℕ) → i < length xs → slice_get xs i ≡ Some (at xs i)
at-there [] i h = absurd (omega arith)
at-there (x ∷ xs) zero h = refl
at-there (x ∷ xs) (suc i) h = at-there xs i (omega arith)

deadline-has : (s : State) (id t : ℕ) → id < length s.contexts → deadline_in 0 (context_at s id) ≡ Some t → Has t (deadlines s)
deadline-has s id t h e = given-into (deadline_in 0) s.contexts id (context_at s id) t (at-there s.contexts id h) e

-- there is one timer and one context, or none, for each declaration
pub record AsMany (script : Script) (s : State) : Type 0 where
  pub timers : length s.timers ≡ length script.decls
  pub contexts : length s.contexts ≡ length script.decls

counted-has : (script : Script) (s : State) (id t : ℕ) → AsMany script s → IsCountedBy script s id t → Has t (counted script s 0)
counted-has script s id t size e =
    elim (nat_lt id (length script.decls)) as (λ b. nat_lt id (length script.decls) ≡ b → CountsBy script s id t b → Has t (counted script s 0)) [
      | true ↦ λ q k.
          let below : id < length script.decls = ltb-true id (length script.decls) q in
          let as_many : length s.timers ≡ length script.decls = size.timers in
          let as_many_contexts : length s.contexts ≡ length script.decls = size.contexts in
          elim k [
            | inl timer ↦ has-left t (sleeps s ++ timers script s) (deadlines s) (has-right t (sleeps s) (timers script s) (timer-has script s id t (omega arith) timer))
            | inr own ↦ has-right t (sleeps s ++ timers script s) (deadlines s) (deadline-has s id t (omega arith) own)
          ]
      | false ↦ λ q k. has-left t (sleeps s ++ timers script s) (deadlines s) (has-left t (sleeps s) (timers script s) (sleep-has s (id - length script.decls) t k))
    ] refl e

-- the number of a record with this time
abbrev HasNumbered : Script → State → ℕ → Type 0
HasNumbered script s t = (id : ℕ) × IsCountedBy script s id t

sleep-numbered : (script : Script) (s : State) (t : ℕ) → Has t (sleeps s) → HasNumbered script s t
sleep-numbered script s t h =
    let n : ℕ = length script.decls in
    let g : Given (sleep_of 0) s.goroutines t = given-from (sleep_of 0) s.goroutines t h in
    let number : n + suc g.place - n ≡ suc g.place = omega arith in
    let behind : nat_lt (n + suc g.place) n ≡ false = le-ltb (n + suc g.place) n (omega arith) in
    let there : goroutine_at s (n + suc g.place - n) ≡ Some g.item = ap (goroutine_at s) number ∙ g.there in (
      n + suc g.place,
      subst (CountsBy script s (n + suc g.place) t) (sym behind) (ap sleep_in there ∙ g.gives),
    )

timer-numbered : (script : Script) (s : State) (t : ℕ) → length s.timers ≡ length script.decls → Has t (timers script s) → HasNumbered script s t
timer-numbered script s t size h =
    let g : Given (counted_timer script s 0) (enumerate_from 0 s.timers) t = given-from (counted_timer script s 0) (enumerate_from 0 s.timers) t h in
    let found : (g.item.0 ≡ 0 + g.place) × (slice_get s.timers g.place ≡ Some g.item.1) = enumerated-from 0 s.timers g.place g.item g.there in
    let at_place : g.item.0 ≡ 0 + g.place = found.0 in
    let inside : g.place < length s.timers = slice_get_within s.timers g.place g.item.1 found.1 in
    let number : g.place ≡ g.item.0 = omega arith in
    let below : nat_lt g.place (length script.decls) ≡ true = lt-ltb g.place (length script.decls) (omega arith) in (
      g.place,
      subst (CountsBy script s g.place t) (sym below)
          (inl (ap (λ k. counted_timer script s 0 (k, timer_at s g.place)) number
          ∙ (ap (λ (o : Option Timer). counted_timer script s 0 (g.item.0, o)) (ap flatten found.1) ∙ g.gives))),
    )

deadline-numbered : (script : Script) (s : State) (t : ℕ) → length s.contexts ≡ length script.decls → Has t (deadlines s) → HasNumbered script s t
deadline-numbered script s t size h =
    let g : Given (deadline_in 0) s.contexts t = given-from (deadline_in 0) s.contexts t h in
    let inside : g.place < length s.contexts = slice_get_within s.contexts g.place g.item g.there in
    let below : nat_lt g.place (length script.decls) ≡ true = lt-ltb g.place (length script.decls) (omega arith) in (
      g.place,
      subst (CountsBy script s g.place t) (sym below) (inr (ap (λ (o : Option Context). deadline_in 0 o) (ap flatten g.there) ∙ g.gives)),
    )

has-counted : (script : Script) (s : State) (t : ℕ) → AsMany script s → Has t (counted script s 0) → HasNumbered script s t
has-counted script s t size h =
    elim (has-either t (sleeps s ++ timers script s) (deadlines s) h) [
      | inl k ↦ elim (has-either t (sleeps s) (timers script s) k) [
        | inl sleep ↦ sleep-numbered script s t sleep
        | inr timer ↦ timer-numbered script s t size.timers timer
      ]
      | inr own ↦ deadline-numbered script s t size.contexts own
    ]

-- the least of the records' times is the least counted one
pub least-counted : (script : Script) (s : State) (m id : ℕ) → AsMany script s → IsCountedBy script s id m
    → ((j t : ℕ) → IsCountedBy script s j t → m ≤ t) → least (counted script s 0) ≡ Some m
least-counted script s m id size e low =
    least-has (counted script s 0) m (counted-has script s id m size e) (λ t h. let found = has-counted script s t size h in low found.0 t found.1)

-- where no record has a time, none is counted
pub none-counted : (script : Script) (s : State) → AsMany script s → ((j t : ℕ) → IsCountedBy script s j t → ⊥) → counted script s 0 ≡ []
none-counted script s size none = no-number (counted script s 0) (λ t h. let found = has-counted script s t size h in none found.0 t found.1)
