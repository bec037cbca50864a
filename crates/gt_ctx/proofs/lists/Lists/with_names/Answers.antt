use Rattle.std.proofs.Common.{rules}
use Rattle.gt_ctx.proofs.Links.{fresh_lists, fresh_kept}
use Rattle.gt_ctx.proofs.lists.Lists.with_names.Goals as goal

pub returns : goal.returns
returns c = search (rules, fresh_lists, fresh_kept)
