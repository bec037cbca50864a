use Rattle.std.proofs.Common.{◌≡◌, ◌∙◌, true, sym, ap, subst, None, arith}
use Rattle.std.specs.Option.{is_some}
use Rattle.std.proofs.lemmas.List.{get_or_read}
use Rattle.gt_ctx.specs.contracts.ctxs.Ctxs.{the_view}
use Rattle.gt_ctx.specs.Contents.{Contents, context_at, deadline}
use Rattle.gt_ctx.proofs.Trees.{kept_is_deadline, made_within}
use Rattle.gt_ctx.proofs.ctxs.Ctxs.made_deadline.Goals as goal

pub returns : goal.returns
returns c =
    let v : Contents = the_view c.self.inside in
    let inv = c.self.invariant in
    let made = subst (λ (u : Contents). is_some (context_at u.contexts c.args.x) ≡ true) (sym c.self.view_is) c.requires in
    let within = made_within v.contexts c.args.x made in
    let size = inv.contexts_of_each in
    let due = inv.are_derived.of_each in
    let is = get_or_read c.self.inside.deadlines.items c.args.x c.index.result.now (omega arith) c.index.ensures None in
    is ∙ kept_is_deadline v c.self.inside.deadlines.items inv.ordered inv.are_derived c.args.x made ∙ ap (λ (u : Contents). deadline u c.args.x) c.self.view_is
