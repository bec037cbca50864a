-- Who waits at a Cond: one where some do, and what a broadcast leaves.
use Rattle.std.proofs.Common.{◌≡◌, ◌≢◌, ℕ, zero, suc, ◌+◌, ◌==◌, cond, List, [], ◌∷◌, length, map, refl, sym, ap, subst, ◌∙◌, arith, Option, None, Some, Bool, true, false, option_map, eqb-true, count_by}
use Rattle.std.proofs.lemmas.List.{length-map}
use Rattle.std.proofs.lemmas.List.Sums.{sum_by-cons}
use Rattle.gt_model.specs.declared.script.Script.{Script}
use Rattle.gt_model.specs.declared.script.Instr.{Instr}
use Rattle.gt_model.specs.declared.state.Goroutine.{Goroutine}
use Rattle.gt_model.specs.declared.state.Mode.{Mode}
use Rattle.gt_model.proofs.Changes.{AllAt, AllNumbered}
use Rattle.gt_rules.specs.State.{State, mode_of, stands_at, suspended_at, is_suspended, suspended_count}
use Rattle.gt_rules.specs.After.{signalled, with_signalled}
use Rattle.gt_facts.proofs.Lookups.{HasAny, Standing, standing, mode_there}

suspends-in : (k : ℕ) (m : Mode) → (elim (suspended_at m) as (λ o. Bool) [ None ↦ false | Some at ↦ at == k ]) ≡ true → m ≡ Mode.Suspended k
suspends-in k (Mode.Suspended j) h = ap Mode.Suspended (eqb-true j k h)
suspends-in k _ h = cc

pub suspended-mode : (k : ℕ) (r : Goroutine) → is_suspended k r ≡ true → r.mode ≡ Mode.Suspended k
suspended-mode k r h = suspends-in k r.mode h

-- what is counted is there
pub counted-has : {X : Type 0} (p : X → Bool) (xs : List X) (n : ℕ) → count_by p xs ≡ suc n → HasAny p xs
counted-has p [] n h = cc
counted-has p (x ∷ xs) n h =
    elim (p x) as (λ b. p x ≡ b → cond b 1 0 + count_by p xs ≡ suc n → HasAny p (x ∷ xs)) [
      | true ↦ λ e k. record { place = 0; item = x; there = refl; passes = e }
      | false ↦ λ e k.
          let more : count_by p xs ≡ suc n = omega (arith, k) in
          let rest : HasAny p xs = counted-has p xs n more in
          record { place = suc rest.place; item = rest.item; there = rest.there; passes = rest.passes }
    ] refl (sym (sum_by-cons (λ y. cond (p y) 1 0) x xs) ∙ h)

-- one that waits at a Cond
pub record Waiter (s : State) (k : ℕ) : Type 0 where
  pub number : ℕ
  pub waits : mode_of s number ≡ Some (Mode.Suspended k)

pub waiter : (s : State) (k n : ℕ) → suspended_count s k ≡ suc n → Waiter s k
waiter s k n h =
    let one : HasAny (is_suspended k) s.goroutines = counted-has (is_suspended k) s.goroutines n h in
    record { number = suc one.place; waits = ap (option_map (λ (r : Goroutine). r.mode)) one.there ∙ ap Some (suspended-mode k one.item one.passes) }

-- who signals is another one than who waits there
pub signals-other : (script : Script) (s : State) (g h k : ℕ) (i : Instr) → stands_at script s g ≡ Some i → mode_of s h ≡ Some (Mode.Suspended k) → h ≢ g
signals-other script s g h k i stands waits same =
    let st : Standing script s g i = standing script s g i stands in
    let both : Some Mode.At ≡ Some (Mode.Suspended k) = sym (mode_there s g st.who Mode.At st.there st.at) ∙ (ap (mode_of s) (sym same) ∙ waits) in
    cc

-- ---- a broadcast

pub length-signalled : (gs : List Goroutine) (o : Option ℕ) → length (with_signalled gs o) ≡ length gs
length-signalled gs None = refl
length-signalled gs (Some k) = length-map gs (signalled k)

all-map : {X : Type 0} (P : X → Type 0) (xs : List X) (f : X → X) → AllAt P xs → ((x : X) → P x → P (f x)) → AllAt P (map f xs)
all-map P [] f all new i x e = cc
all-map P (y ∷ ys) f all new zero x e = let is : f y ≡ x = cc in subst P is (new y (all 0 y refl))
all-map P (y ∷ ys) f all new (suc i) x e = all-map P ys f (λ k. all (suc k)) new i x e

pub all_numbered-map : {X : Type 0} (P : X → Type 0) (xs : List X) (f : X → X) → AllNumbered P xs → ((x : X) → P x → P (f x)) → AllNumbered P (map f xs)
all_numbered-map P xs f all new zero x e = cc
all_numbered-map P xs f all new (suc i) x e = all-map P xs f (λ k. all (suc k)) new i x e

-- what stays true of each that is signalled is true of all after a broadcast
pub all-signalled : (P : Goroutine → Type 0) (gs : List Goroutine) (o : Option ℕ) → AllNumbered P gs → ((k : ℕ) (r : Goroutine) → P r → P (signalled k r)) → AllNumbered P (with_signalled gs o)
all-signalled P gs None all new = all
all-signalled P gs (Some k) all new = all_numbered-map P gs (signalled k) all (new k)
