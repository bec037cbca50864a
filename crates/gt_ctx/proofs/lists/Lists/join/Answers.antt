use Rattle.std.proofs.Common.{ap, length, None, arith}
use Rattle.std.proofs.lemmas.List.{get_or_read, length-map}
use Rattle.gt_ctx.specs.Links.{chain}
use Rattle.gt_ctx.proofs.Links.{joined}
use Rattle.gt_ctx.proofs.lists.Lists.join.Goals as goal

pub invariant_of-self : goal.invariant_of-self
invariant_of-self c =
    let firsts = c.self.inside.firsts.items in
    let nexts = c.self.inside.nexts.items in
    let whole = ap length c.self.view_is in
    let many = length-map firsts (chain nexts (length nexts)) in
    let is = get_or_read firsts c.args.list c.index.result.now (omega (arith, c.requires.list)) c.index.ensures None in
    (joined firsts nexts c.args.list c.args.item c.index.result.now c.args.self.now c.self.invariant is c.self.view_is c.requires.list c.requires.item c.requires.alone c.requires.short).0

pub returns : goal.returns
returns c =
    let firsts = c.self.inside.firsts.items in
    let nexts = c.self.inside.nexts.items in
    let whole = ap length c.self.view_is in
    let many = length-map firsts (chain nexts (length nexts)) in
    let is = get_or_read firsts c.args.list c.index.result.now (omega (arith, c.requires.list)) c.index.ensures None in
    (joined firsts nexts c.args.list c.args.item c.index.result.now c.args.self.now c.self.invariant is c.self.view_is c.requires.list c.requires.item c.requires.alone c.requires.short).1
