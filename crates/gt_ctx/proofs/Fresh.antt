-- Before any context is made.
use Rattle.std.proofs.Common.{◌≡◌, ℕ, ◌+◌, ◌^◌, ◌<◌, ◌≤◌, true, false, Option, None, Some, List, [], length, replicate, slice_index_or, is_some, sym, ◌∙◌, ap, inl, inr, arith}
use Rattle.std.proofs.lemmas.Bool.{cases_lt, true≢false}
use Rattle.std.proofs.lemmas.List.{get_or_past, get_or-replicate, length-replicate}
use Rattle.std.proofs.lemmas.List.Folds.{sum_by-replicate}
use Rattle.gt_model.specs.declared.context.Context.{Context}
use Rattle.gt_model.specs.declared.context.HookState.{HookState}
use Rattle.gt_ctx.specs.declared.decl.CtxDecl.{CtxDecl}
use Rattle.gt_ctx.specs.Decls.{AreOrdered}
use Rattle.gt_ctx.specs.Contents.{context_at, hook_at, reached_from}
use Rattle.gt_rules.specs.Contexts.{is_waiting_hook}
use Rattle.gt_ctx.specs.Links.{items_of, has}
use Rattle.gt_ctx.specs.Kept.{unstarted, unregistered, unmade, AreDerived, AreChildren, AreWaiting, IsKept}
use Rattle.gt_ctx.proofs.Trees.{reached_is_made}

same_at : {X : Type 0} (x : X) (n i : ℕ) → slice_index_or (replicate n x) i x ≡ x
same_at x n i =
    elim (cases_lt i n) [
      | inl l ↦ get_or-replicate n i x x l
      | inr m ↦ let size = length-replicate n x in get_or_past (replicate n x) i x (omega arith)
    ]

module _ (decls : List CtxDecl) (n : ℕ) where
  abbrev contexts : List (Option Context)
  contexts = replicate n None

  abbrev hooks : List HookState
  hooks = replicate n HookState.Unregistered

  abbrev lists : List (List ℕ)
  lists = replicate n []

  none_made : (y : ℕ) → is_some (context_at contexts y) ≡ false
  none_made y = ap is_some (same_at None n y)

  none_reached : (y p : ℕ) → reached_from decls contexts y ≡ Some p → ⊥
  none_reached y p up = true≢false (sym (reached_is_made decls contexts y p up) ∙ none_made y)

  none_in : (k i : ℕ) → has (items_of lists k) i ≡ true → ⊥
  none_in k i is = true≢false (sym is ∙ ap (λ is. has is i) (same_at [] n k))

  none_waits : (s : ℕ) → is_waiting_hook (hook_at hooks s) ≡ true → ⊥
  none_waits s is = true≢false (sym is ∙ ap is_waiting_hook (same_at HookState.Unregistered n s))

  size : {X : Type 0} (x : X) → n ≡ length decls → length (replicate n x) ≡ length decls
  size x e = length-replicate n x ∙ e

  fresh_derived : n ≡ length decls → AreDerived decls contexts (replicate n None)
  fresh_derived e = record {
    of_each = size None e;
    parent_made = λ y p up. absurd (none_reached y p up);
    ends_pass = λ y p up _. absurd (none_reached y p up);
    deadline = λ y made. absurd (true≢false (sym made ∙ none_made y));
  }

  fresh_children : n ≡ length decls → AreChildren decls contexts lists
  fresh_children e =
      let empty : List ℕ = [] in
      let none = sum_by-replicate length n empty in
      let all = sum_by-replicate unmade n None in
      record {
        of_each = size [] e;
        only = λ p y is. absurd (none_in p y is);
        all = λ y p up. absurd (none_reached y p up);
        room = omega arith;
      }

  fresh_waiting : n ≡ length decls → AreWaiting decls hooks lists
  fresh_waiting e =
      let empty : List ℕ = [] in
      let none = sum_by-replicate length n empty in
      let all = sum_by-replicate unregistered n HookState.Unregistered in
      record {
        of_each = size [] e;
        only = λ y s is. absurd (none_in y s is);
        registered = λ y s is. absurd (none_in y s is);
        all = λ s y waits _. absurd (none_waits s waits);
        room = omega arith;
      }

pub fresh_is_kept : (decls : List CtxDecl) (n : ℕ) (contexts : List (Option Context)) (hooks : List HookState) (deadlines : List (Option ℕ)) (children waiting : List (List ℕ)) (stack stack_capacity found found_capacity started started_capacity ended_capacity : ℕ) → contexts ≡ replicate n None → hooks ≡ replicate n HookState.Unregistered → deadlines ≡ replicate n None → children ≡ replicate n [] → waiting ≡ replicate n [] → n ≡ length decls → AreOrdered decls → length decls < 2 ^ 32 → stack ≡ 0 → n + 1 ≤ stack_capacity → found ≡ 0 → n ≤ found_capacity → started ≡ 0 → n ≤ started_capacity → n ≤ ended_capacity → IsKept decls contexts hooks deadlines children waiting stack stack_capacity found found_capacity started started_capacity 0 ended_capacity
fresh_is_kept decls n contexts hooks deadlines children waiting stack stack_capacity found found_capacity started started_capacity ended_capacity c h d l w e ordered few s0 s f0 f t0 t r =
    let all = sum_by-replicate unstarted n HookState.Unregistered in
    rw (c, h, d, l, w) (record {
      ordered = ordered;
      few = few;
      contexts_of_each = size decls n None e;
      hooks_of_each = size decls n HookState.Unregistered e;
      are_derived = fresh_derived decls n e;
      are_children = fresh_children decls n e;
      are_waiting = fresh_waiting decls n e;
      none_left = s0;
      room_left = omega arith;
      none_found = f0;
      room_found = omega arith;
      handed_out = omega arith;
      room = omega arith;
      room_ended = omega arith;
    })
