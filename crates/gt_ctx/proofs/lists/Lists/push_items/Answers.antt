use Rattle.std.proofs.Common.{◌+◌, ◌++◌, ◌∷◌, [], ◌∙◌, sym, ap, subst, length, None, vec_len, vec_capacity, refl, arith}
use Rattle.std.proofs.lemmas.List.{get_or_read, length-map}
use Rattle.gt_ctx.specs.Links.{items_of, chain, link_at}
use Rattle.gt_ctx.proofs.Links.{IsAhead, ahead_starts, ahead_step, ahead_ends}
use Rattle.gt_ctx.proofs.lists.Lists.push_items.Goals as goal

pub loop-next-init : goal.loop-next-init
loop-next-init c =
    let firsts = c.self.inside.firsts.items in
    let nexts = c.self.inside.nexts.items in
    let whole = ap length c.self.view_is in
    let many = length-map firsts (chain nexts (length nexts)) in
    let is = get_or_read firsts c.args.list c.index-next.result.now (omega (arith, c.requires.list)) c.index-next.ensures None in
    let out = c.args.out.now in
    record {
      ahead = subst (λ o. IsAhead nexts o out.items (out.items ++ items_of c.args.self.now c.args.list) (vec_len out) (vec_capacity out)) (sym is) (ahead_starts firsts nexts c.args.self.now c.args.list out.items (vec_len out) (vec_capacity out) c.self.invariant c.self.view_is c.requires.room);
      capacity = refl;
    }

pub index-next-requires-in-Some : goal.index-next-requires-in-Some
index-next-requires-in-Some c =
    let step = ahead_step c.self.inside.nexts.items c.in-Some.item _ _ _ _ (subst (λ o. IsAhead c.self.inside.nexts.items o c.loop-next.out.items (c.args.out.now.items ++ items_of c.args.self.now c.args.list) (vec_len c.loop-next.out) (vec_capacity c.loop-next.out)) c.in-Some.is c.loop-next.invariant.ahead) in
    omega (arith, step.1.0)

pub loop-next-smaller : goal.loop-next-smaller
loop-next-smaller c =
    let nexts = c.self.inside.nexts.items in
    let step = ahead_step nexts c.in-Some.item _ _ _ _ (subst (λ o. IsAhead nexts o c.loop-next.out.items (c.args.out.now.items ++ items_of c.args.self.now c.args.list) (vec_len c.loop-next.out) (vec_capacity c.loop-next.out)) c.in-Some.is c.loop-next.invariant.ahead) in
    let is = get_or_read nexts c.in-Some.item c.index-next-in-Some.result.now step.1.0 c.index-next-in-Some.ensures None in
    let before = ap (λ o. length (chain nexts (length nexts) o)) c.in-Some.is in
    let after = ap (λ o. length (chain nexts (length nexts) o)) is in
    omega (arith, step.1.1.1)

pub loop-next-preserved : goal.loop-next-preserved
loop-next-preserved c =
    let nexts = c.self.inside.nexts.items in
    let all = c.args.out.now.items ++ items_of c.args.self.now c.args.list in
    let out = c.loop-next.out in
    let new = c.push_reserved.new.self in
    let step = ahead_step nexts c.in-Some.item _ _ _ _ (subst (λ o. IsAhead nexts o out.items all (vec_len out) (vec_capacity out)) c.in-Some.is c.loop-next.invariant.ahead) in
    let is = get_or_read nexts c.in-Some.item c.index-next-in-Some.result.now step.1.0 c.index-next-in-Some.ensures None in
    record {
      ahead =
          subst (λ o. IsAhead nexts o new.items all (vec_len new) (vec_capacity new)) (sym is)
          (subst (λ is. IsAhead nexts (link_at nexts c.in-Some.item) is all (vec_len new) (vec_capacity new)) (sym c.push_reserved.ensures.items)
          (subst (λ n. IsAhead nexts (link_at nexts c.in-Some.item) (out.items ++ c.in-Some.item ∷ []) all n (vec_capacity new)) (sym c.push_reserved.ensures.len)
          (subst (λ n. IsAhead nexts (link_at nexts c.in-Some.item) (out.items ++ c.in-Some.item ∷ []) all (vec_len out + 1) n) (sym c.push_reserved.ensures.capacity) step.0)));
      capacity = c.push_reserved.ensures.capacity ∙ c.loop-next.invariant.capacity;
    }

pub returns-clause-items : goal.returns-clause-items
returns-clause-items c =
    ahead_ends c.self.inside.nexts.items c.loop-next.out.items _ (vec_len c.loop-next.out) (vec_capacity c.loop-next.out)
    (subst (λ o. IsAhead c.self.inside.nexts.items o c.loop-next.out.items (c.args.out.now.items ++ items_of c.args.self.now c.args.list) (vec_len c.loop-next.out) (vec_capacity c.loop-next.out)) c.in_default.is c.loop-next.invariant.ahead)
