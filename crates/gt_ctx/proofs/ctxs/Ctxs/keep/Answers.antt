use Rattle.std.proofs.Common.{◌≡◌, ◌<◌, ◌∙◌, Some, None, IfSome, true, ℕ, sym, ap, subst, refl, length, arith}
use Rattle.std.proofs.lemmas.List.{length-set}
use Rattle.std.specs.Option.{is_some, option_or, option_and_then}
use Rattle.gt_ctx.specs.contracts.ctxs.Ctxs.{the_view}
use Rattle.gt_ctx.specs.Contents.{Contents, context_at, end_at}
use Rattle.gt_ctx.specs.Calls.{parents_end, parents_deadline}
use Rattle.gt_ctx.specs.Decls.{heeded}
use Rattle.gt_ctx.specs.Links.{items_of, joined_to}
use Rattle.gt_ctx.specs.Kept.{AreChildren}
use Rattle.gt_ctx.proofs.Trees.{derived_more, children_more, if_some, parents_kept, short_children, made_within}
use Rattle.gt_ctx.proofs.ctxs.Ctxs.keep.Goals as goal

pub join_to-requires-clause-list : goal.join_to-requires-clause-list
join_to-requires-clause-list c =
    let v : Contents = the_view c.self.inside in
    let inv = c.self.invariant in
    let size = inv.contexts_of_each in
    let lists = inv.are_children.of_each in
    elim c.parent-parent.result as (λ o. c.parent-parent.result ≡ o → IfSome o (λ p. p < length c.self.inside.children)) [
      | None ↦ λ e. tt
      | Some p ↦ λ e.
          let up : heeded c.args.self.now.decls c.args.x ≡ Some p = sym c.parent-parent.ensures ∙ e in
          let made : is_some (context_at v.contexts p) ≡ true = ap (λ (u : Contents). is_some (context_at u.contexts p)) c.self.view_is ∙ if_some _ _ p c.requires.parent up in
          let within = made_within v.contexts p made in
          omega arith
    ] refl

pub join_to-requires-clause-short : goal.join_to-requires-clause-short
join_to-requires-clause-short c =
    let v : Contents = the_view c.self.inside in
    let inv = c.self.invariant in
    let x = c.args.x in
    let within = subst (λ (u : Contents). x < length u.decls) (sym c.self.view_is) c.requires.context in
    let unmade_yet = subst (λ (u : Contents). context_at u.contexts x ≡ None) (sym c.self.view_is) c.requires.unmade in
    let size = inv.contexts_of_each in
    elim c.parent-parent.result as (λ o. IfSome o (λ p. length (items_of c.self.inside.children p) < length c.self.inside.children)) [
      | None ↦ tt
      | Some p ↦ short_children v.decls v.contexts c.self.inside.children x p inv.are_children (omega arith) unmade_yet
    ]

pub invariant_of-self : goal.invariant_of-self
invariant_of-self c =
    let v : Contents = the_view c.self.inside in
    let inv = c.self.invariant in
    let x = c.args.x in
    let within = subst (λ (u : Contents). x < length u.decls) (sym c.self.view_is) c.requires.context in
    let unmade_yet = subst (λ (u : Contents). context_at u.contexts x ≡ None) (sym c.self.view_is) c.requires.unmade in
    let above = subst (λ (u : Contents). IfSome (heeded u.decls x) (λ p. is_some (context_at u.contexts p) ≡ true)) (sym c.self.view_is) c.requires.parent in
    let parent : (p : ℕ) → heeded v.decls x ≡ Some p → is_some (context_at v.contexts p) ≡ true = λ p up. if_some _ _ p above up in
    let passes = subst (λ (u : Contents). is_some (parents_end u x) ≡ true → is_some c.args.kept.end ≡ true) (sym c.self.view_is) c.requires.end in
    let due : c.or-deadline.result ≡ option_or c.args.kept.own (parents_deadline v x) =
    c.or-deadline.ensures ∙ ap (option_or c.args.kept.own) (c.parents_deadline.ensures ∙ ap (λ (u : Contents). parents_deadline u x) (sym c.self.view_is)) in
    record {
      ordered = inv.ordered;
      few = inv.few;
      contexts_of_each = length-set v.contexts x (Some c.args.kept) ∙ inv.contexts_of_each;
      hooks_of_each = inv.hooks_of_each;
      are_derived =
          derived_more v.decls v.contexts c.self.inside.deadlines.items inv.ordered x c.args.kept c.or-deadline.result inv.contexts_of_each within unmade_yet parent inv.are_derived
          (λ p up ended. passes (ap (λ o. is_some (option_and_then (end_at v.contexts) o)) up ∙ ended))
          (due ∙ ap (option_or c.args.kept.own) (sym (parents_kept v c.self.inside.deadlines.items inv.ordered inv.are_derived (heeded v.decls x) parent)));
      are_children =
          subst (AreChildren v.decls _) (sym (c.join_to.ensures ∙ ap (λ o. joined_to c.self.inside.children o x) (c.parent-parent.ensures ∙ ap (λ (u : Contents). heeded u.decls x) (sym c.self.view_is))))
          (children_more v.decls v.contexts c.self.inside.deadlines.items inv.ordered x c.args.kept c.or-deadline.result inv.contexts_of_each within unmade_yet parent c.self.inside.children inv.are_children (heeded v.decls x) refl);
      are_waiting = inv.are_waiting;
      none_left = inv.none_left;
      room_left = inv.room_left;
      none_found = inv.none_found;
      room_found = inv.room_found;
      handed_out = inv.handed_out;
      room = inv.room;
      room_ended = inv.room_ended;
    }
