use Rattle.std.proofs.Common.{◌≡◌, ◌∙◌, false, sym, ap}
use Rattle.std.specs.Option.{is_some}
use Rattle.gt_ctx.specs.contracts.ctxs.Ctxs.{the_view}
use Rattle.gt_ctx.specs.Contents.{Contents, end_at}
use Rattle.gt_ctx.specs.Calls.{after_cancel}
use Rattle.gt_ctx.proofs.Cuts.{cancel_cut}
use Rattle.gt_ctx.proofs.ctxs.Ctxs.cancel.Goals as goal

pub returns-clause-after : goal.returns-clause-after
returns-clause-after c =
    let v : Contents = the_view c.self.inside in
    let open_yet : is_some (end_at v.contexts c.args.x) ≡ false =
    ap (λ ks. is_some (end_at ks c.args.x)) (sym c.as_slice.ensures.value) ∙ ap is_some (sym c.end_of.ensures) ∙ sym c.is_some.ensures ∙ c.if-is_some.false in
    let same = cancel_cut v c.args.x (record { err = c.args.err; cause = c.args.cause }) open_yet ∙ ap (λ (u : Contents). after_cancel u c.args.x (record { err = c.args.err; cause = c.args.cause })) c.self.view_is in
    let after = c.cut-starts.ensures.after in
    record {
      declared = after.declared ∙ ap (λ (u : Contents). u.decls) same;
      contexts = after.contexts ∙ ap (λ (u : Contents). u.contexts) same;
      hooks = after.hooks ∙ ap (λ (u : Contents). u.hooks) same;
      started = after.started ∙ ap (λ (u : Contents). u.started) same;
    }
