-- The instruction at a goroutine's place, as it is looked up.
use Rattle.std.proofs.Common.{◌≡◌, ℕ, zero, suc, ◌-◌, ◌<◌, List, [], length, get_or, refl, sym, subst, ◌∙◌, ap, slice_get, Option, None, Some, sub-one, true, is_some, arith}
use Rattle.std.proofs.lemmas.Option.{slice_get_within, slice_get-get_or}
use Rattle.gt_model.specs.declared.script.Script.{Script}
use Rattle.gt_model.specs.declared.script.Func.{Func}
use Rattle.gt_model.specs.declared.script.Instr.{Instr}
use Rattle.gt_model.specs.declared.script.Place.{Place}
use Rattle.gt_model.specs.declared.state.Goroutine.{Goroutine}
use Rattle.gt_model.specs.declared.state.Mode.{Mode}
use Rattle.gt_model.specs.Tables.{numbered}
use Rattle.gt_rules.specs.State.{State, goroutine_at}
use Rattle.gt_model.specs.Script.{code_of, instr_at}
use Rattle.gt_facts.specs.Formed.{IsFormed, IsPlacedIn}
use Rattle.gt_facts.proofs.Formed.{placed_inside}
use Rattle.gt_machine.specs.Places.{placed_at}

-- the goroutine and its function that were looked up, where the number is a goroutine's
pub record FoundCode (script : Script) (s : State) (g : ℕ) (r : Goroutine) (func : Func) : Type 0 where
  pub there : goroutine_at s g ≡ Some r
  pub code : code_of script r.place.func ≡ func.code

some-numbered : {X : Type 0} (xs : List X) (g : ℕ) (x : X) → is_some (numbered xs g) ≡ true → slice_get xs (g - 1) ≡ Some x → numbered xs g ≡ Some x
some-numbered xs zero x h e = cc
some-numbered xs (suc i) x h e = rw sub-one at e

placed-below : (code : List Instr) (p : Place) (mode : Mode) → IsPlacedIn code p mode → p.at < length code
placed-below code p mode h = (placed_inside code p mode h).within

function-inside : (script : Script) (place : Place) (mode : Mode) → IsPlacedIn (code_of script place.func) place mode → place.func < length script.funcs
function-inside script place mode h =
    let below : place.at < length (code_of script place.func) = placed-below (code_of script place.func) place mode h in
    elim (slice_get script.funcs place.func)
    as (λ o. slice_get script.funcs place.func ≡ o → place.at < length (elim o as (λ (x : Option Func). List Instr) [ None ↦ [] | Some func ↦ func.code ]) → place.func < length script.funcs) [
      | None ↦ λ e k. absurd (omega arith)
      | Some func ↦ λ e k. slice_get_within script.funcs place.func func e
    ] refl below

pub found_code : (script : Script) (s : State) (g : ℕ) (r : Goroutine) (func : Func) → IsFormed script s → is_some (goroutine_at s g) ≡ true → slice_get s.goroutines (g - 1) ≡ Some r
    → func ≡ get_or script.funcs r.place.func func → FoundCode script s g r func
found_code script s g r func formed some e read =
    let there : goroutine_at s g ≡ Some r = some-numbered s.goroutines g r some e in
    record {
      there = there;
      code = ap (λ (o : Option Func). elim o as (λ x. List Instr) [ None ↦ [] | Some func ↦ func.code ])
          (slice_get-get_or script.funcs r.place.func func (function-inside script r.place r.mode (formed.placed g r there)) ∙ ap Some (sym read));
    }

pub code-inside : (script : Script) (s : State) (g : ℕ) (r : Goroutine) (func : Func) → IsFormed script s → FoundCode script s g r func → r.place.at < length func.code
code-inside script s g r func formed found =
    subst (λ (code : List Instr). r.place.at < length code) found.code (placed-below (code_of script r.place.func) r.place r.mode (formed.placed g r found.there))

pub code-read : (script : Script) (s : State) (g : ℕ) (r : Goroutine) (func : Func) (d : Instr) → IsFormed script s → FoundCode script s g r func
    → placed_at script s g ≡ Some (get_or func.code r.place.at d)
code-read script s g r func d formed found =
    ap (λ (o : Option Goroutine). elim o as (λ x. Option Instr) [ None ↦ None | Some r ↦ instr_at script r.place ]) found.there
    ∙ (ap (λ (code : List Instr). slice_get code r.place.at) found.code ∙ slice_get-get_or func.code r.place.at d (code-inside script s g r func formed found))
