-- Where nobody runs and no time has come, a book is idle; its clock may jump to the least time that counts.
use Rattle.std.proofs.Common.{◌≡◌, ℕ, ◌+◌, ◌<◌, ◌≤◌, min, List, [], ◌∷◌, refl, sym, ap, subst, arith, Option, None, Some, Bool, true, false, ◌&&◌, nat_lt, IsSomeAnd, IfSome}
use Rattle.std.specs.List.{list_all}
use Rattle.std.proofs.lemmas.Bool.{and_parts, ltb-true, lt-ltb}
use Rattle.gt_model.specs.Times.{greatest_time}
use Rattle.gt_model.specs.Tables.{least}
use Rattle.gt_rules.specs.State.{clock, goroutine_at, timer_at, until_of, due_of, sleeps_until}
use Rattle.gt_model.specs.declared.state.Goroutine.{Goroutine}
use Rattle.gt_model.specs.declared.state.Timer.{Timer}
use Rattle.std.specs.Option.{option_map}
use Rattle.gt_rules.specs.Counted.{counted}
use Rattle.gt_rules.specs.Finish.{IsIdle, IsJump}
use Rattle.gt_facts.specs.Quiet.{none_due}
use Rattle.gt_facts.proofs.Quiet.{quiet-IsIdle}
use Rattle.gt_book.specs.View.{BookView, IsLawful, outcome_of}
use Rattle.gt_book.specs.Least.{NobodyRuns}
use Rattle.gt_book.proofs.Fitting.{none-queued}
use Rattle.gt_book.proofs.Calm.{quiet-calm}

pub idle-nobody : (b : BookView) → IsLawful b → outcome_of b ≡ None → NobodyRuns b → none_due b.script b.state ≡ true → IsIdle b.script b.state
idle-nobody b lawful running nobody due =
    quiet-IsIdle b.script b.state (record {
      world = lawful.formed.world;
      none_firm = quiet-calm b.script b.state b.schedule lawful.fits (lawful.calm running) (none-queued b.script b.state b.schedule lawful.fits nobody.queue) nobody.hands;
      none_due = due;
    })

and-both : (a b : Bool) → a ≡ true → b ≡ true → (a && b) ≡ true
and-both true true p q = refl
and-both true false p q = cc
and-both false b p q = cc

below-true : (m n : ℕ) → m < n → nat_lt m n ≡ true
below-true m n h = lt-ltb m n h

-- what is below the least number of a list is below each
later-from : (c t x : ℕ) (ys : List ℕ) → least (x ∷ ys) ≡ Some t → c < t → list_all (nat_lt c) (x ∷ ys) ≡ true
later-from c t x [] e h =
    let is : x ≡ t = cc in
    and-both (nat_lt c x) true (below-true c x (omega arith)) refl
later-from c t x (y ∷ ys) e h =
    let rest = and_parts (nat_lt c (min x y)) (list_all (nat_lt c) ys) (later-from c t (min x y) ys e h) in
    let low : c < min x y = ltb-true c (min x y) rest.0 in
    and-both (nat_lt c x) (nat_lt c y && list_all (nat_lt c) ys) (below-true c x (omega arith))
    (and-both (nat_lt c y) (list_all (nat_lt c) ys) (below-true c y (omega arith)) rest.1)

pub later-least : (c t : ℕ) (xs : List ℕ) → least xs ≡ Some t → c < t → list_all (nat_lt c) xs ≡ true
later-least c t [] e h = cc
later-least c t (x ∷ xs) e h = later-from c t x xs e h

pub idle-least : (b : BookView) (t : ℕ) → IsLawful b → outcome_of b ≡ None → NobodyRuns b → least (counted b.script b.state 0) ≡ Some t → clock b.state 0 < t → IsIdle b.script b.state
idle-least b t lawful running nobody is later = idle-nobody b lawful running nobody (later-least (clock b.state 0) t (counted b.script b.state 0) is later)

pub idle-none : (b : BookView) → IsLawful b → outcome_of b ≡ None → NobodyRuns b → counted b.script b.state 0 ≡ [] → IsIdle b.script b.state
idle-none b lawful running nobody none = idle-nobody b lawful running nobody (ap (list_all (nat_lt (clock b.state 0))) none)

pub jumps-least : (b : BookView) (t : ℕ) → IsLawful b → outcome_of b ≡ None → NobodyRuns b → least (counted b.script b.state 0) ≡ Some t → clock b.state 0 < t → t ≤ greatest_time → IsJump b.script b.state 0 t
jumps-least b t lawful running nobody is later time = record {
  idle = idle-least b t lawful running nobody is later;
  to_least = subst (λ o. IsSomeAnd o (λ u. t ≡ min (u + 0) greatest_time)) (sym is) (omega arith);
}

due_within : (o : Option Timer) (at : ℕ) → (elim o as (λ x. Option ℕ) [ None ↦ None | Some r ↦ r.due ]) ≡ Some at → ((r : Timer) → o ≡ Some r → IfSome r.due (λ due. due ≤ greatest_time)) → at ≤ greatest_time
due_within None at e h = cc
due_within (Some r) at e h = subst (λ (o : Option ℕ). IfSome o (λ due. due ≤ greatest_time)) e (h r refl)

until_within : (o : Option Goroutine) (at : ℕ) → (elim (option_map (λ (r : Goroutine). r.mode) o) as (λ x. Option ℕ) [ None ↦ None | Some mode ↦ until_of mode ]) ≡ Some at
    → ((r : Goroutine) → o ≡ Some r → IfSome (until_of r.mode) (λ until. until ≤ greatest_time)) → at ≤ greatest_time
until_within None at e h = cc
until_within (Some r) at e h = subst (λ (o : Option ℕ). IfSome o (λ until. until ≤ greatest_time)) e (h r refl)

-- a due time, and the end of a sleep, are at most the greatest time
pub due-time : (b : BookView) (t at : ℕ) → IsLawful b → due_of b.state t ≡ Some at → at ≤ greatest_time
due-time b t at lawful is = due_within (timer_at b.state t) at is (lawful.formed.dues t)

pub sleep-time : (b : BookView) (g at : ℕ) → IsLawful b → sleeps_until b.state g ≡ Some at → at ≤ greatest_time
sleep-time b g at lawful is = until_within (goroutine_at b.state g) at is (lawful.formed.untils g)
