-- What is true of the fields at all times.
use Rattle.std.specs.Prelude.{◌≡◌, ℕ, ◌+◌, ◌^◌, ◌<◌, ◌≤◌, true, List, length, sum_by, slice_index_or, Option, None, Some, is_some}
use Rattle.std.specs.Option.{option_and_then, option_or}
use Rattle.gt_ctx.specs.declared.decl.CtxDecl.{CtxDecl}
use Rattle.gt_model.specs.declared.context.Context.{Context}
use Rattle.gt_model.specs.declared.context.HookState.{HookState}
use Rattle.gt_ctx.specs.Decls.{AreOrdered, heeded}
use Rattle.gt_ctx.specs.Contents.{context_at, end_at, own_at, hook_at, reached_from}
use Rattle.gt_rules.specs.Contexts.{is_waiting_hook}
use Rattle.gt_ctx.specs.Calls.{ctx_of}
use Rattle.gt_ctx.specs.Links.{items_of, has}

-- 1 for a hook that was not started: it may still need room among those that are handed out
abbrev pub unstarted : HookState → ℕ
unstarted HookState.Unregistered = 1
unstarted HookState.Waiting = 1
unstarted HookState.Started = 0
unstarted HookState.Stopped = 1

-- 1 for a hook that may still come to a list of those that wait
abbrev pub unregistered : HookState → ℕ
unregistered HookState.Unregistered = 1
unregistered HookState.Waiting = 0
unregistered HookState.Started = 0
unregistered HookState.Stopped = 0

-- 1 for a context that may still come to a list of children
abbrev pub unmade : Option Context → ℕ
unmade None = 1
unmade (Some kept) = 0

abbrev pub deadline_at : List (Option ℕ) → ℕ → Option ℕ
deadline_at deadlines y = slice_index_or deadlines y None

-- the deadline that is kept of a context is its own, else the one that is kept of its parent
abbrev pub kept_deadline : List CtxDecl → List (Option Context) → List (Option ℕ) → ℕ → Option ℕ
kept_deadline decls contexts deadlines y =
    option_or (own_at contexts y) (option_and_then (deadline_at deadlines) (heeded decls y))

-- a context that was made has a parent that was made, an error where its parent has one, and its deadline
pub record AreDerived (decls : List CtxDecl) (contexts : List (Option Context)) (deadlines : List (Option ℕ)) : Type 0 where
  pub of_each : length deadlines ≡ length decls
  pub parent_made : (y p : ℕ) → reached_from decls contexts y ≡ Some p → is_some (context_at contexts p) ≡ true
  pub ends_pass : (y p : ℕ) → reached_from decls contexts y ≡ Some p → is_some (end_at contexts p) ≡ true → is_some (end_at contexts y) ≡ true
  pub deadline : (y : ℕ) → is_some (context_at contexts y) ≡ true → deadline_at deadlines y ≡ kept_deadline decls contexts deadlines y

-- the children of a context are those that were made and that its end reaches
pub record AreChildren (decls : List CtxDecl) (contexts : List (Option Context)) (children : List (List ℕ)) : Type 0 where
  pub of_each : length children ≡ length decls
  pub only : (p y : ℕ) → has (items_of children p) y ≡ true → reached_from decls contexts y ≡ Some p
  pub all : (y p : ℕ) → reached_from decls contexts y ≡ Some p → has (items_of children p) y ≡ true
  pub room : sum_by length children + sum_by unmade contexts ≤ length decls

-- each hook that waits is in its context's list, and no list has a hook that was not registered
pub record AreWaiting (decls : List CtxDecl) (hooks : List HookState) (waiting : List (List ℕ)) : Type 0 where
  pub of_each : length waiting ≡ length decls
  pub only : (y s : ℕ) → has (items_of waiting y) s ≡ true → ctx_of decls s ≡ Some y
  pub registered : (y s : ℕ) → has (items_of waiting y) s ≡ true → unregistered (hook_at hooks s) ≡ 0
  pub all : (s y : ℕ) → is_waiting_hook (hook_at hooks s) ≡ true → ctx_of decls s ≡ Some y → has (items_of waiting y) s ≡ true
  pub room : sum_by length waiting + sum_by unregistered hooks ≤ length decls

-- each list has an item for each declaration, and all that can still be added has room
pub record IsKept (decls : List CtxDecl) (contexts : List (Option Context)) (hooks : List HookState) (deadlines : List (Option ℕ)) (children waiting : List (List ℕ)) (stack stack_capacity found found_capacity started started_capacity handed ended_capacity : ℕ) : Type 0 where
  pub ordered : AreOrdered decls
  pub few : length decls < 2 ^ 32
  pub contexts_of_each : length contexts ≡ length decls
  pub hooks_of_each : length hooks ≡ length decls
  pub are_derived : AreDerived decls contexts deadlines
  pub are_children : AreChildren decls contexts children
  pub are_waiting : AreWaiting decls hooks waiting
  pub none_left : stack ≡ 0
  pub room_left : length decls + 1 ≤ stack_capacity
  pub none_found : found ≡ 0
  pub room_found : length decls ≤ found_capacity
  pub handed_out : handed ≤ started
  pub room : started + sum_by unstarted hooks ≤ started_capacity
  pub room_ended : length decls ≤ ended_capacity
