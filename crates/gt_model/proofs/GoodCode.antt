-- The code of a good script.
use Rattle.std.proofs.Common.{◌≡◌, ℕ, zero, suc, ◌+◌, ◌<◌, List, [], ◌∷◌, ◌++◌, length, map, refl, sym, ap, subst, arith, cond, true, false, slice_get, Option, None, Some, option_map, codes}
use Rattle.std.specs.Option.{option_and_then}
use Rattle.std.specs.List.{All}
use Rattle.std.proofs.lemmas.Option.{get_or_from_slice_get, slice_get_within}
use Rattle.gt_model.specs.declared.script.Script.{Script}
use Rattle.gt_model.specs.declared.script.Decl.{Decl}
use Rattle.gt_model.specs.declared.script.Func.{Func}
use Rattle.gt_model.specs.declared.script.What.{What}
use Rattle.gt_model.specs.Script.{what_at}
use Rattle.gt_model.specs.Good.{IsGood, is_function, function_places}

-- a record, so that it can be taken apart
pub record HasItem {X : Type 0} (xs : List X) (i : ℕ) : Type 0 where
  pub item : X
  pub there : slice_get xs i ≡ Some item

pub has_item : {X : Type 0} (xs : List X) (i : ℕ) → i < length xs → HasItem xs i
has_item [] i h = absurd (omega arith)
has_item (y ∷ ys) zero h = record { item = y; there = refl }
has_item (y ∷ ys) (suc i) h =
    let k : i < length ys = omega arith in
    let rest : HasItem ys i = has_item ys i k in
    record { item = rest.item; there = rest.there }

pub all_at : {X : Type 0} (P : X → Type 0) (xs : List X) (i : ℕ) (x : X) → All P xs → slice_get xs i ≡ Some x → P x
all_at P xs i x all e = subst P (get_or_from_slice_get xs i x x e) (all i x (slice_get_within xs i x e))

-- main has a place among the functions
pub main_within : (script : Script) → IsGood script → script.main < length script.funcs
main_within script good =
    elim (slice_get script.funcs script.main) as (λ o. slice_get script.funcs script.main ≡ o
    → option_and_then (λ (func : Func). option_map (λ (d : Decl). d.name) (slice_get script.decls func.decl)) o ≡ Some (codes "main") → script.main < length script.funcs) [
      | None ↦ λ e h. cc
      | Some func ↦ λ e h. slice_get_within script.funcs script.main func e
    ] refl good.main

abbrev what_in : List Decl → ℕ → Option What
what_in ds j = option_map (λ (d : Decl). d.what) (slice_get ds j)

-- a function's place, among declarations the first of which has the place i
record IsFunctionPlace (ds : List Decl) (i x : ℕ) : Type 0 where
  behind : ℕ
  is : x ≡ i + behind
  what : what_in ds behind ≡ Some What.Function

function_is : (w : What) → is_function w ≡ true → w ≡ What.Function
function_is What.Timer h = cc
function_is What.Ticker h = cc
function_is (What.AfterFunc func) h = cc
function_is (What.Chan cap) h = cc
function_is What.Mutex h = cc
function_is What.Wg h = cc
function_is (What.Cond mutex) h = cc
function_is (What.Ctx parent form) h = cc
function_is (What.Hook ctx func) h = cc
function_is What.Error h = cc
function_is What.Function h = refl

next_place : (d : Decl) (ds : List Decl) (i x : ℕ) → IsFunctionPlace ds (i + 1) x → IsFunctionPlace (d ∷ ds) i x
next_place d ds i x p = record { behind = suc p.behind; is = omega (arith, p.is); what = p.what }

first_place : (d : Decl) (ds : List Decl) (i f x : ℕ) → ((f : ℕ) → slice_get (function_places (i + 1) ds) f ≡ Some x → IsFunctionPlace ds (i + 1) x)
    → is_function d.what ≡ true → slice_get (i ∷ function_places (i + 1) ds) f ≡ Some x → IsFunctionPlace (d ∷ ds) i x
first_place d ds i zero x later e k = let is : i ≡ x = cc in record { behind = 0; is = omega (arith, is); what = ap Some (function_is d.what e) }
first_place d ds i (suc f) x later e k = next_place d ds i x (later f k)

places_are : (ds : List Decl) (i f x : ℕ) → slice_get (function_places i ds) f ≡ Some x → IsFunctionPlace ds i x
places_are [] i f x h = cc
places_are (d ∷ ds) i f x h =
    elim (is_function d.what) as (λ b. is_function d.what ≡ b → slice_get (cond b (i ∷ []) [] ++ function_places (i + 1) ds) f ≡ Some x → IsFunctionPlace (d ∷ ds) i x) [
      | false ↦ λ e k. next_place d ds i x (places_are ds (i + 1) f x k)
      | true ↦ λ e k. first_place d ds i f x (λ f. places_are ds (i + 1) f x) e k
    ] refl h

-- the declaration of a function is one of a function
pub function_declared : (script : Script) (f : ℕ) (func : Func) → IsGood script → slice_get script.funcs f ≡ Some func → what_at script func.decl ≡ Some What.Function
function_declared script f func good e =
    let there : slice_get (map (λ (f : Func). f.decl) script.funcs) f ≡ Some func.decl = slice_get-map (λ (f : Func). f.decl) script.funcs f func e in
    let place : IsFunctionPlace script.decls 0 func.decl = places_are script.decls 0 f func.decl (subst (λ xs. slice_get xs f ≡ Some func.decl) good.functions there) in
    let is : func.decl ≡ place.behind = omega (arith, place.is) in
    subst (λ n. what_at script n ≡ Some What.Function) (sym is) place.what
  where
    slice_get-map : (g : Func → ℕ) (xs : List Func) (i : ℕ) (x : Func) → slice_get xs i ≡ Some x → slice_get (map g xs) i ≡ Some (g x)
    slice_get-map g [] i x e = cc
    slice_get-map g (y ∷ ys) zero x e = let is : y ≡ x = cc in ap (λ z. Some (g z)) is
    slice_get-map g (y ∷ ys) (suc i) x e = slice_get-map g ys i x e
