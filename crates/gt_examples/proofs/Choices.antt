-- Where a choice with a default may go on at it.
use Rattle.std.proofs.Common.{◌≡◌, ℕ, zero, suc, true, false, List, [], ◌∷◌, Option, Some, sym, subst, ◌∙◌, arith}
use Rattle.std.specs.List.{All}
use Rattle.std.proofs.lemmas.Bool.{false≢true}
use Rattle.gt_model.specs.declared.script.Script.{Script}
use Rattle.gt_model.specs.declared.script.Instr.{Instr}
use Rattle.gt_model.specs.declared.script.Case.{Case}
use Rattle.gt_rules.specs.State.{State, stands_at, world_of}
use Rattle.gt_rules.specs.Ready.{is_ready_alone, has_come}
use Rattle.gt_rules.specs.Legal.{Does, Defaults}

-- where its only case could not go on but by a partner
pub defaults-alone : (script : Script) (s : State) (g : ℕ) (c : Case) (to : ℕ) → Does script s g (Instr.Select (c ∷ []) (Some to))
    → is_ready_alone script s (has_come s (world_of s g)) c.kind ≡ false → Defaults script s g
defaults-alone script s g c to does h = record { cases = c ∷ []; to = to; does = does; none = none }
  where
    none : All (λ (c : Case). is_ready_alone script s (has_come s (world_of s g)) c.kind ≡ false) (c ∷ [])
    none zero d within = h
    none (suc k) d within = absurd (omega arith)

same-cases : (xs ys : List Case) (o p : Option ℕ) → Some (Instr.Select xs o) ≡ Some (Instr.Select ys p) → xs ≡ ys
same-cases xs ys o p e = cc

-- not where its first case can go on
pub first-ready : (script : Script) (s : State) (g : ℕ) (c : Case) (cases : List Case) (o : Option ℕ) → stands_at script s g ≡ Some (Instr.Select (c ∷ cases) o)
    → is_ready_alone script s (has_come s (world_of s g)) c.kind ≡ true → Defaults script s g → ⊥
first-ready script s g c cases o at ready h =
    let same : c ∷ cases ≡ h.cases = same-cases (c ∷ cases) h.cases o (Some h.to) (sym at ∙ h.does.stands) in
    let none = subst (All (λ (c : Case). is_ready_alone script s (has_come s (world_of s g)) c.kind ≡ false)) (sym same) h.none in
    false≢true (sym (none 0 c (omega arith)) ∙ ready)
