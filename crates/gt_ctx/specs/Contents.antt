-- What contracts see of the contexts, and what is looked up in it.
use Rattle.std.specs.Prelude.{◌≡◌, ◌≢◌, ℕ, ◌^◌, ◌<◌, ◌≤◌, Bool, not, ◌&&◌, List, length, slice_index, slice_index_or, Option, None, is_some}
use Rattle.std.specs.Option.{option_map, option_and_then}
use Rattle.gt_ctx.specs.declared.decl.CtxDecl.{CtxDecl}
use Rattle.gt_model.specs.declared.context.Context.{Context}
use Rattle.gt_model.specs.declared.context.End.{End}
use Rattle.gt_model.specs.declared.context.HookState.{HookState}
use Rattle.gt_ctx.specs.Decls.{AreOrdered, heeded}
use Rattle.gt_ctx.specs.Links.{has}
use Rattle.gt_ctx.specs.Tree.{lineage, is_within, first_found}

pub record Contents : Type 0 where
  pub decls : List CtxDecl  -- what is declared
  pub contexts : List (Option Context)  -- by number: what is kept of a context, or None where it is unmade
  pub hooks : List HookState  -- by number: what has become of a hook
  pub started : List ℕ  -- the hooks that cuts started and that are still to be handed out, in this order
  pub ended : List ℕ  -- the contexts that the last cancellation ended, in any order

abbrev pub context_at : List (Option Context) → ℕ → Option Context
context_at contexts x = slice_index_or contexts x None

abbrev pub end_at : List (Option Context) → ℕ → Option End
end_at contexts x = option_and_then (λ (kept : Context). kept.end) (context_at contexts x)

abbrev pub own_at : List (Option Context) → ℕ → Option ℕ
own_at contexts x = option_and_then (λ (kept : Context). kept.own) (context_at contexts x)

abbrev pub world_at : List (Option Context) → ℕ → Option ℕ
world_at contexts x = option_map (λ (kept : Context). kept.world) (context_at contexts x)

abbrev pub hook_at : List HookState → ℕ → HookState
hook_at hooks s = slice_index_or hooks s HookState.Unregistered

-- a context's own deadline, else its parent's, which is none for `root` and for the form `Without`
abbrev pub deadline : Contents → ℕ → Option ℕ
deadline c x = first_found (own_at c.contexts) (lineage (heeded c.decls) x)

-- the parent from which an end reaches a context that was made
abbrev pub reached_from : List CtxDecl → List (Option Context) → ℕ → Option ℕ
reached_from decls contexts y = option_and_then (λ (kept : Context). heeded decls y) (context_at contexts y)

-- whether the end of x reaches y: y is x, or it was made, is not of the form `Without`, and the end reaches its parent
abbrev pub is_reached : List CtxDecl → List (Option Context) → ℕ → ℕ → Bool
is_reached decls contexts x y = is_within (reached_from decls contexts) x y

-- a list of the contexts that had no end before and have one now: it has each of them once
pub record AreEnded (old new : List (Option Context)) (ended : List ℕ) : Type 0 where
  pub each : (y : ℕ) → has ended y ≡ (not (is_some (end_at old y)) && is_some (end_at new y))
  pub once : (i j : ℕ) → i < j → j < length ended → slice_index ended i ≢ slice_index ended j
  pub few : length ended ≤ length new

-- what is true at all times: parents are declared earlier, and there is an item for each declaration
pub record IsLawful (c : Contents) : Type 0 where
  pub ordered : AreOrdered c.decls
  pub few : length c.decls < 2 ^ 32
  pub contexts_of_each : length c.contexts ≡ length c.decls
  pub hooks_of_each : length c.hooks ≡ length c.decls
