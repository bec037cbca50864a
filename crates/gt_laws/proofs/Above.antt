-- A context and those above it: which contexts the end of one reaches.
use Rattle.std.proofs.Common.{◌≡◌, ◌≢◌, ℕ, zero, suc, ◌<◌, ◌≤◌, ◌==◌, ◌||◌, List, [], ◌∷◌, refl, sym, ap, ◌∙◌, arith, cond, Option, None, Some, Bool, true, false, eqb}
use Rattle.std.specs.List.{list_any}
use Rattle.std.proofs.lemmas.Bool.{eqb-true, eq-eqb}
use Rattle.gt_model.specs.declared.script.Script.{Script}
use Rattle.gt_model.specs.Good.{IsGood}
use Rattle.gt_model.specs.Script.{is_endable, parent_of}
use Rattle.gt_rules.specs.Contexts.{heeded, line_of, above}
use Rattle.gt_laws.specs.Told.{reaches, reaches_some}

-- ---- ways up on which numbers fall

module _ (up : ℕ → Option ℕ) (falls : (x p : ℕ) → up x ≡ Some p → p < x) where
  -- what is above one, so many at most
  abbrev behind : ℕ → Option ℕ → List ℕ
  behind n o = elim o [ None ↦ [] | Some p ↦ line_of up n p ]

  -- context 0 has none above it
  none-behind : (n x : ℕ) (o : Option ℕ) → up x ≡ o → x ≤ 0 → behind n o ≡ []
  none-behind n x None e h = refl
  none-behind n x (Some p) e h = let low : p < x = falls x p e in absurd (omega arith)

  same-behind : (m n x : ℕ) (o : Option ℕ) → up x ≡ o → ((p : ℕ) → p < x → line_of up m p ≡ line_of up n p) → behind m o ≡ behind n o
  same-behind m n x None e same = refl
  same-behind m n x (Some p) e same = same p (falls x p e)

  -- more than there can be above it add nothing
  line-same : (m n x : ℕ) → x ≤ m → x ≤ n → line_of up m x ≡ line_of up n x
  unfolding line_of
  line-same zero zero x a b = refl
  line-same zero (suc n) x a b = ap (λ ys. x ∷ ys) (sym (none-behind n x (up x) refl a))
  line-same (suc m) zero x a b = ap (λ ys. x ∷ ys) (none-behind m x (up x) refl b)
  line-same (suc m) (suc n) x a b = ap (λ ys. x ∷ ys) (same-behind m n x (up x) refl (λ p l. line-same m n p (omega arith) (omega arith)))

  abbrev over : Option ℕ → List ℕ
  over o = elim o [ None ↦ [] | Some p ↦ above up p ]

  full-behind : (k x : ℕ) (o : Option ℕ) → up x ≡ o → x ≤ suc k → behind k o ≡ over o
  full-behind k x None e h = refl
  full-behind k x (Some p) e h = let low : p < x = falls x p e in line-same k p p (omega arith) (omega arith)

  pub above-step : (x : ℕ) → above up x ≡ x ∷ over (up x)
  unfolding line_of
  above-step zero = ap (λ ys. zero ∷ ys) (sym (none-over (up zero) refl))
    where
      none-over : (o : Option ℕ) → up zero ≡ o → over o ≡ []
      none-over None e = refl
      none-over (Some p) e = let low : p < 0 = falls 0 p e in absurd (omega arith)
  above-step (suc k) = ap (λ ys. suc k ∷ ys) (full-behind k (suc k) (up (suc k)) refl (omega arith))

-- ---- contexts

heeded-parent : (script : Script) (b : Bool) (o : Option ℕ) (p : ℕ) → cond b o None ≡ Some p → o ≡ Some p
heeded-parent script true o p e = e
heeded-parent script false o p e = cc

-- a context heeds its parent, if it heeds one, which is declared before it
pub parent-of : (script : Script) (x p : ℕ) → heeded script x ≡ Some p → parent_of script x ≡ Some p
parent-of script x p e = heeded-parent script (is_endable script x) (parent_of script x) p e

pub heeded-falls : (script : Script) → IsGood script → (x p : ℕ) → heeded script x ≡ Some p → p < x
heeded-falls script good x p e = good.parents x p (parent-of script x p e)

-- an end reaches a context where it is the end of that one, or reaches the one that it heeds
pub reaches-step : (script : Script) (x y : ℕ) → IsGood script → reaches script x y ≡ ((y == x) || reaches_some script x (heeded script y))
reaches-step script x y good =
    ap (list_any (λ z. z == x)) (above-step (heeded script) (heeded-falls script good) y) ∙ ap (λ b. (y == x) || b) (any-over (heeded script y))
  where
    any-over : (o : Option ℕ) → list_any (λ z. z == x) (elim o as (λ o. List ℕ) [ None ↦ [] | Some p ↦ above (heeded script) p ]) ≡ reaches_some script x o
    any-over None = refl
    any-over (Some p) = refl

same-number : (x : ℕ) → (x == x) ≡ true
same-number x = eq-eqb x x refl

first-itself : (up : ℕ → Option ℕ) (n x : ℕ) → list_any (λ z. z == x) (line_of up n x) ≡ true
unfolding line_of
first-itself up zero x = ap (λ b. b || false) (same-number x)
first-itself up (suc n) x =
    ap (λ b. b || list_any (λ z. z == x) (elim (up x) as (λ o. List ℕ) [ None ↦ [] | Some p ↦ line_of up n p ])) (same-number x)

-- the end of a context reaches it
pub reaches-itself : (script : Script) (x : ℕ) → reaches script x x ≡ true
reaches-itself script x = first-itself (heeded script) x x

-- and that of another one where it reaches the one that it heeds
pub reaches-other : (script : Script) (x y : ℕ) → IsGood script → y ≢ x → reaches script x y ≡ reaches_some script x (heeded script y)
reaches-other script x y good other =
    reaches-step script x y good
    ∙ elim (eqb y x) as (λ b. eqb y x ≡ b → (b || reaches_some script x (heeded script y)) ≡ reaches_some script x (heeded script y)) [
      | true ↦ λ e. absurd (other (eqb-true y x e))
      | false ↦ λ e. refl
    ] refl
