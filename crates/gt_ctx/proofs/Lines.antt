-- What a node and the nodes above it are, by its parent.
use Rattle.std.proofs.Common.{◌≡◌, ℕ, zero, suc, ◌<◌, ◌≤◌, eqb, ◌||◌, true, false, Option, None, Some, List, [], ◌∷◌, refl, sym, ◌∙◌, ap, arith}
use Rattle.std.specs.Option.{option_map_or, option_and_then, option_or, is_some}
use Rattle.std.specs.List.{list_any}
use Rattle.gt_ctx.specs.declared.decl.CtxDecl.{CtxDecl}
use Rattle.gt_model.specs.declared.context.Form.{Form}
use Rattle.gt_model.specs.declared.context.Context.{Context}
use Rattle.gt_ctx.specs.Decls.{AreOrdered, decl_at, parent_by, heeded_by, heeded_in, heeded}
use Rattle.gt_ctx.specs.Contents.{Contents, context_at, own_at, reached_from, deadline}
use Rattle.gt_ctx.specs.Tree.{line, lineage, is_within, first_found}

module _ (up : ℕ → Option ℕ) (falls : (y p : ℕ) → up y ≡ Some p → p < y) where
  -- the node 0 has no parent
  none_above : (o : Option ℕ) (y : ℕ) → up y ≡ o → y ≤ 0 → o ≡ None
  none_above None y e l = refl
  none_above (Some p) y e l = absurd (omega (arith, falls y p e))

  same_above : (m n y : ℕ) (o : Option ℕ) → up y ≡ o → ((p : ℕ) → p < y → line up m p ≡ line up n p) → option_map_or (λ p. line up m p) o [] ≡ option_map_or (λ p. line up n p) o []
  same_above m n y None e h = refl
  same_above m n y (Some p) e h = h p (falls y p e)

  -- more parents than there can be add nothing
  line-same : (m n y : ℕ) → y ≤ m → y ≤ n → line up m y ≡ line up n y
  unfolding line
  line-same zero zero y a b = refl
  line-same zero (suc n) y a b = ap (λ o. y ∷ option_map_or (λ p. line up n p) o []) (sym (none_above (up y) y refl a))
  line-same (suc m) zero y a b = ap (λ o. y ∷ option_map_or (λ p. line up m p) o []) (none_above (up y) y refl b)
  line-same (suc m) (suc n) y a b =
      ap (λ ys. y ∷ ys) (same_above m n y (up y) refl (λ p l. line-same m n p (omega arith) (omega arith)))

  full_above : (k y : ℕ) (o : Option ℕ) → up y ≡ o → y ≤ suc k → option_map_or (λ p. line up k p) o [] ≡ option_map_or (λ p. lineage up p) o []
  full_above k y None e l = refl
  full_above k y (Some p) e l = line-same k p p (omega (arith, falls y p e)) (omega arith)

  pub lineage-step : (y : ℕ) → lineage up y ≡ y ∷ option_map_or (λ p. lineage up p) (up y) []
  unfolding line
  lineage-step zero = ap (λ o. zero ∷ option_map_or (λ p. lineage up p) o []) (sym (none_above (up zero) zero refl (omega arith)))
  lineage-step (suc k) = ap (λ ys. suc k ∷ ys) (full_above k (suc k) (up (suc k)) refl (omega arith))

  any_above : (x : ℕ) (o : Option ℕ) → list_any (λ y. eqb y x) (option_map_or (λ p. lineage up p) o []) ≡ option_map_or (λ p. is_within up x p) o false
  any_above x None = refl
  any_above x (Some p) = refl

  pub is_within-step : (x y : ℕ) → is_within up x y ≡ (eqb y x || option_map_or (λ p. is_within up x p) (up y) false)
  is_within-step x y =
      ap (list_any (λ z. eqb z x)) (lineage-step y) ∙ ap (λ b. eqb y x || b) (any_above x (up y))

  found_above : (f : ℕ → Option ℕ) (o : Option ℕ) → first_found f (option_map_or (λ p. lineage up p) o []) ≡ option_and_then (λ p. first_found f (lineage up p)) o
  found_above f None = refl
  found_above f (Some p) = refl

  pub first_found-step : (f : ℕ → Option ℕ) (y : ℕ) → first_found f (lineage up y) ≡ option_or (f y) (option_and_then (λ p. first_found f (lineage up p)) (up y))
  first_found-step f y = ap (first_found f) (lineage-step y) ∙ ap (option_or (f y)) (found_above f (up y))

-- a parent that is heeded is the declared one
parent_if_heeded_in : (form : Form) (o : Option ℕ) (p : ℕ) → heeded_in form o ≡ Some p → o ≡ Some p
parent_if_heeded_in Form.Cancel o p e = e
parent_if_heeded_in Form.Cause o p e = e
parent_if_heeded_in (Form.Timeout d cause) o p e = e
parent_if_heeded_in Form.Without o p e = absurd (cc)

parent_if_heeded : (d : CtxDecl) (p : ℕ) → heeded_by d ≡ Some p → parent_by d ≡ Some p
parent_if_heeded CtxDecl.Other p e = e
parent_if_heeded (CtxDecl.Context parent form) p e = parent_if_heeded_in form parent p e
parent_if_heeded (CtxDecl.Hook ctx) p e = absurd (cc)

pub heeded_earlier : (decls : List CtxDecl) → AreOrdered decls → (y p : ℕ) → heeded decls y ≡ Some p → p < y
heeded_earlier decls ordered y p e = ordered.parent_earlier y p (parent_if_heeded (decl_at decls y) p e)

pub heeded_if_made : (kept : Option Context) (o : Option ℕ) (p : ℕ) → option_and_then (λ (_ : Context). o) kept ≡ Some p → o ≡ Some p
heeded_if_made None o p e = absurd (cc)
heeded_if_made (Some kept) o p e = e

pub reached_earlier : (decls : List CtxDecl) (contexts : List (Option Context)) → AreOrdered decls → (y p : ℕ) → reached_from decls contexts y ≡ Some p → p < y
reached_earlier decls contexts ordered y p e =
    heeded_earlier decls ordered y p (heeded_if_made (context_at contexts y) (heeded decls y) p e)

own_first : (own rest : Option ℕ) → is_some own ≡ true → own ≡ option_or own rest
own_first None rest e = absurd (cc)
own_first (Some due) rest e = refl

rest_first : (own rest : Option ℕ) → is_some own ≡ false → option_or own rest ≡ rest
rest_first None rest e = refl
rest_first (Some due) rest e = absurd (cc)

module _ (c : Contents) (ordered : AreOrdered c.decls) (y : ℕ) where
  pub deadline-step : deadline c y ≡ option_or (own_at c.contexts y) (option_and_then (deadline c) (heeded c.decls y))
  deadline-step = first_found-step (heeded c.decls) (heeded_earlier c.decls ordered) (own_at c.contexts) y

  -- an own deadline is the deadline
  pub deadline-own : is_some (own_at c.contexts y) ≡ true → own_at c.contexts y ≡ deadline c y
  deadline-own e = own_first (own_at c.contexts y) _ e ∙ sym deadline-step

  -- without one it is the parent's
  pub deadline-parent : (p : Option ℕ) → is_some (own_at c.contexts y) ≡ false → heeded c.decls y ≡ p → deadline c y ≡ option_and_then (deadline c) p
  deadline-parent p e up =
      deadline-step ∙ rest_first (own_at c.contexts y) _ e ∙ ap (option_and_then (deadline c)) up
