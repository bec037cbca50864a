use Rattle.std.proofs.Common.{◌≡◌, ◌≤◌, ◌∙◌, ◌++◌, ◌&&◌, ℕ, true, List, sym, ap, subst, refl, length, length-append, take, drop, vec_len, vec_capacity, arith}
use Rattle.std.specs.List.{filter, range_with_len}
use Rattle.std.specs.Option.{is_some}
use Rattle.std.specs.List.Sorted.{IsNonDecreasing}
use Rattle.std.proofs.lemmas.List.Sorted.{IsNonDecreasingBy-from_sort}
use Rattle.std.proofs.lemmas.List.{drop-append-le}
use Rattle.gt_model.specs.declared.context.HookState.{HookState}
use Rattle.gt_ctx.specs.contracts.ctxs.Ctxs.{the_view}
use Rattle.gt_ctx.specs.Contents.{Contents, context_at, hook_at}
use Rattle.gt_rules.specs.Contexts.{is_waiting_hook}
use Rattle.gt_ctx.specs.Calls.{starting, cut_contexts, cut_hook, cut_hooks}
use Rattle.gt_ctx.specs.Links.{has}
use Rattle.gt_ctx.specs.Walk.{HasEnded}
use Rattle.gt_ctx.specs.Kept.{IsKept}
use Rattle.gt_ctx.proofs.Walks.{to_come-le}
use Rattle.gt_ctx.proofs.Trees.{hook_within}
use Rattle.gt_ctx.proofs.Cuts.{sorted_ended, contexts_cut, derived_cut, children_cut, waiting_cut, starting_found, hooks_cut, written_back}
use Rattle.gt_ctx.proofs.ctxs.Ctxs.cut.Goals as goal

pub end_reached-requires-clause-room_left : goal.end_reached-requires-clause-room_left
end_reached-requires-clause-room_left c =
    let inv = c.self.invariant in
    let few = to_come-le c.self.inside.children c.as_mut_slice.result.now in
    let room = inv.are_children.room in
    let left = inv.room_left in
    omega arith

pub end_reached-requires-clause-room_found : goal.end_reached-requires-clause-room_found
end_reached-requires-clause-room_found c =
    let inv = c.self.invariant in
    let few = to_come-le c.self.inside.waiting c.as_mut_slice.result.now in
    let room = inv.are_waiting.room in
    let left = inv.room_found in
    omega arith

pub start_waiting-starts-requires-clause-ordered :
    goal.start_waiting-starts-requires-clause-ordered
start_waiting-starts-requires-clause-ordered c =
    subst IsNonDecreasing (sym c.as_slice.ensures.value) (IsNonDecreasingBy-from_sort (λ k. k) c.sort_unstable.new.self.items c.sort_unstable.ensures.sorted)

pub start_waiting-starts-requires-clause-declared :
    goal.start_waiting-starts-requires-clause-declared
start_waiting-starts-requires-clause-declared c s is =
    let inv = c.self.invariant in
    let h : HasEnded c.self.inside.contexts.items c.end_reached.new.contexts c.self.inside.children c.self.inside.waiting c.args.x c.args.end c.as_slice.result.now =
    sorted_ended _ _ _ _ _ _ _ _ _ _ c.as_mut_slice.ensures.value c.end_reached.ensures.ended c.sort_unstable.ensures.permutation c.as_slice.ensures.value in
    let from = h.found_from s is in
    let within = hook_within c.self.inside.decls.items s (ap is_some (inv.are_waiting.only from.0 s from.2)) in
    let size = inv.hooks_of_each in
    let same = ap length c.as_mut_slice-2.ensures.value in
    omega arith

pub invariant_of-self : goal.invariant_of-self
invariant_of-self c =
    let v : Contents = the_view c.self.inside in
    let inv = c.self.invariant in
    let made = subst (λ (u : Contents). is_some (context_at u.contexts c.args.x) ≡ true) (sym c.self.view_is) c.requires.made in
    let h : HasEnded v.contexts c.end_reached.new.contexts c.self.inside.children c.self.inside.waiting c.args.x c.args.end c.as_slice.result.now =
    sorted_ended _ _ _ _ _ _ _ _ _ _ c.as_mut_slice.ensures.value c.end_reached.ensures.ended c.sort_unstable.ensures.permutation c.as_slice.ensures.value in
    let contexts_whole = c.self.inside.contexts.ok in
    let hooks_whole = c.self.inside.hooks.ok in
    let hooks_size : length c.start_waiting-starts.new.hooks ≡ length v.hooks = c.start_waiting-starts.auto.hooks ∙ ap length c.as_mut_slice-2.ensures.value in
    let started = ap length c.start_waiting-starts.ensures.started ∙ length-append c.self.inside.started.items _ in
    let started_before = c.self.inside.started.ok in
    let started_after = c.start_waiting-starts.new.started.ok in
    let handed = inv.handed_out in
    let found_capacity = c.clear.ensures.capacity ∙ c.sort_unstable.ensures.capacity ∙ c.end_reached.ensures.room_found in
    let contexts = written_back v.contexts c.end_reached.new.contexts c.self.inside.contexts.len h.as_many (omega arith) in
    let hooks = written_back v.hooks c.start_waiting-starts.new.hooks c.self.inside.hooks.len hooks_size (omega arith) in
    let waiting = subst (λ (hs : List HookState). (s : ℕ) → hook_at c.start_waiting-starts.new.hooks s ≡ cut_hook (is_waiting_hook (hook_at hs s) && has c.as_slice.result.now s) (hook_at hs s)) c.as_mut_slice-2.ensures.value c.start_waiting-starts.ensures.hooks in
    let kept : IsKept v.decls c.end_reached.new.contexts c.start_waiting-starts.new.hooks c.self.inside.deadlines.items c.self.inside.children c.self.inside.waiting (vec_len c.end_reached.new.stack) (vec_capacity c.end_reached.new.stack) (vec_len c.clear.new.self) (vec_capacity c.clear.new.self) (vec_len c.start_waiting-starts.new.started) (vec_capacity c.start_waiting-starts.new.started) c.self.inside.handed (vec_capacity c.end_reached.new.ended) =
    record {
      ordered = inv.ordered;
      few = inv.few;
      contexts_of_each = h.as_many ∙ inv.contexts_of_each;
      hooks_of_each = hooks_size ∙ inv.hooks_of_each;
      are_derived = derived_cut v.decls v.contexts c.end_reached.new.contexts c.self.inside.deadlines.items c.self.inside.children c.self.inside.waiting c.args.x c.args.end c.as_slice.result.now inv.ordered inv.are_derived inv.are_children h made;
      are_children = children_cut v.decls v.contexts c.end_reached.new.contexts c.self.inside.deadlines.items c.self.inside.children c.self.inside.waiting c.args.x c.args.end c.as_slice.result.now inv.ordered inv.are_derived inv.are_children h made;
      are_waiting = waiting_cut v.decls v.hooks c.start_waiting-starts.new.hooks c.self.inside.waiting (has c.as_slice.result.now) inv.are_waiting hooks_size waiting;
      none_left = c.end_reached.ensures.none_left;
      room_left = let left = inv.room_left in let same = c.end_reached.ensures.room_left in omega arith;
      none_found = c.clear.ensures.len;
      room_found = let left = inv.room_found in omega arith;
      handed_out = omega arith;
      room = c.start_waiting-starts.ensures.room;
      room_ended = let left = inv.room_ended in let same = c.end_reached.ensures.room_ended in omega arith;
    } in
    subst (λ ks. IsKept v.decls ks (take c.self.inside.hooks.len (c.start_waiting-starts.new.hooks ++ drop (length c.start_waiting-starts.new.hooks) c.self.inside.hooks.items)) c.self.inside.deadlines.items c.self.inside.children c.self.inside.waiting (vec_len c.end_reached.new.stack) (vec_capacity c.end_reached.new.stack) (vec_len c.clear.new.self) (vec_capacity c.clear.new.self) (vec_len c.start_waiting-starts.new.started) (vec_capacity c.start_waiting-starts.new.started) c.self.inside.handed (vec_capacity c.end_reached.new.ended)) (sym contexts)
    (subst (λ hs. IsKept v.decls c.end_reached.new.contexts hs c.self.inside.deadlines.items c.self.inside.children c.self.inside.waiting (vec_len c.end_reached.new.stack) (vec_capacity c.end_reached.new.stack) (vec_len c.clear.new.self) (vec_capacity c.clear.new.self) (vec_len c.start_waiting-starts.new.started) (vec_capacity c.start_waiting-starts.new.started) c.self.inside.handed (vec_capacity c.end_reached.new.ended)) (sym hooks) kept)

pub returns-clause-starts : goal.returns-clause-starts
returns-clause-starts c =
    let v : Contents = the_view c.self.inside in
    let inv = c.self.invariant in
    let made = subst (λ (u : Contents). is_some (context_at u.contexts c.args.x) ≡ true) (sym c.self.view_is) c.requires.made in
    let h : HasEnded v.contexts c.end_reached.new.contexts c.self.inside.children c.self.inside.waiting c.args.x c.args.end c.as_slice.result.now =
    sorted_ended _ _ _ _ _ _ _ _ _ _ c.as_mut_slice.ensures.value c.end_reached.ensures.ended c.sort_unstable.ensures.permutation c.as_slice.ensures.value in
    c.start_waiting-starts.ensures.count
    ∙ ap (λ hs. length (filter (λ s. is_waiting_hook (hook_at hs s) && has c.as_slice.result.now s) (range_with_len 0 (length hs)))) c.as_mut_slice-2.ensures.value
    ∙ ap length (starting_found v.decls v.contexts c.end_reached.new.contexts c.self.inside.deadlines.items c.self.inside.children c.self.inside.waiting c.args.x c.args.end c.as_slice.result.now inv.ordered inv.are_derived inv.are_children h made v.hooks inv.are_waiting v refl refl refl inv.hooks_of_each)
    ∙ ap (λ (u : Contents). length (starting u c.args.x)) c.self.view_is

pub returns-clause-after : goal.returns-clause-after
returns-clause-after c =
    let v : Contents = the_view c.self.inside in
    let inv = c.self.invariant in
    let made = subst (λ (u : Contents). is_some (context_at u.contexts c.args.x) ≡ true) (sym c.self.view_is) c.requires.made in
    let h : HasEnded v.contexts c.end_reached.new.contexts c.self.inside.children c.self.inside.waiting c.args.x c.args.end c.as_slice.result.now =
    sorted_ended _ _ _ _ _ _ _ _ _ _ c.as_mut_slice.ensures.value c.end_reached.ensures.ended c.sort_unstable.ensures.permutation c.as_slice.ensures.value in
    let contexts_whole = c.self.inside.contexts.ok in
    let hooks_whole = c.self.inside.hooks.ok in
    let hooks_size : length c.start_waiting-starts.new.hooks ≡ length v.hooks = c.start_waiting-starts.auto.hooks ∙ ap length c.as_mut_slice-2.ensures.value in
    let contexts = written_back v.contexts c.end_reached.new.contexts c.self.inside.contexts.len h.as_many (omega arith) in
    let hooks = written_back v.hooks c.start_waiting-starts.new.hooks c.self.inside.hooks.len hooks_size (omega arith) in
    let waiting = subst (λ (hs : List HookState). (s : ℕ) → hook_at c.start_waiting-starts.new.hooks s ≡ cut_hook (is_waiting_hook (hook_at hs s) && has c.as_slice.result.now s) (hook_at hs s)) c.as_mut_slice-2.ensures.value c.start_waiting-starts.ensures.hooks in
    let found = ap (λ hs. filter (λ s. is_waiting_hook (hook_at hs s) && has c.as_slice.result.now s) (range_with_len 0 (length hs))) c.as_mut_slice-2.ensures.value
    ∙ starting_found v.decls v.contexts c.end_reached.new.contexts c.self.inside.deadlines.items c.self.inside.children c.self.inside.waiting c.args.x c.args.end c.as_slice.result.now inv.ordered inv.are_derived inv.are_children h made v.hooks inv.are_waiting v refl refl refl inv.hooks_of_each in
    let started_whole = c.self.inside.started.ok in
    let handed : c.self.inside.handed ≤ length c.self.inside.started.items = let h = inv.handed_out in omega arith in
    let same : c.self.inside.decls.items ≡ c.args.self.now.decls = ap (λ (u : Contents). u.decls) c.self.view_is in
    record {
      declared = same;
      contexts =
          contexts
          ∙ contexts_cut v.decls v.contexts c.end_reached.new.contexts c.self.inside.deadlines.items c.self.inside.children c.self.inside.waiting c.args.x c.args.end c.as_slice.result.now inv.ordered inv.are_derived inv.are_children h made v refl refl inv.contexts_of_each
          ∙ ap (λ (u : Contents). cut_contexts u c.args.x c.args.end) c.self.view_is;
      hooks =
          hooks
          ∙ hooks_cut v.decls v.contexts c.end_reached.new.contexts c.self.inside.deadlines.items c.self.inside.children c.self.inside.waiting c.args.x c.args.end c.as_slice.result.now inv.ordered inv.are_derived inv.are_children h made v.hooks inv.are_waiting v refl refl refl inv.hooks_of_each c.start_waiting-starts.new.hooks hooks_size waiting
          ∙ ap (λ (u : Contents). cut_hooks u c.args.x) c.self.view_is;
      started =
          ap (drop c.self.inside.handed) (c.start_waiting-starts.ensures.started ∙ ap (λ more. c.self.inside.started.items ++ more) found)
          ∙ drop-append-le c.self.inside.handed c.self.inside.started.items _ handed
          ∙ ap (λ (u : Contents). u.started ++ starting u c.args.x) c.self.view_is;
    }
