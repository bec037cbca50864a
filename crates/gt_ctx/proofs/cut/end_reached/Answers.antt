use Rattle.std.proofs.Common.{◌∙◌, sym, ap, subst, ◌++◌, ◌∷◌, [], List, Option, length, length-append, set, arith}
use Rattle.std.proofs.lemmas.Bool.{cond-true, cond-false}
use Rattle.std.specs.Option.{option_map}
use Rattle.gt_model.specs.declared.context.Context.{Context}
use Rattle.gt_ctx.specs.Calls.{ended_kept}
use Rattle.gt_ctx.specs.Contents.{context_at}
use Rattle.gt_ctx.specs.Links.{items_of}
use Rattle.gt_ctx.specs.Walk.{to_come}
use Rattle.gt_ctx.proofs.Walks.{IsWalking, walk_more, walk_passes, to_come_ends, ended_not_live}
use Rattle.gt_ctx.proofs.Ended.{AreListed, listed_more, listed_ended, count_one, live_kept}
use Rattle.gt_ctx.proofs.cut.end_reached.Goals as goal

pub push_items-requires-clause-room : goal.push_items-requires-clause-room
push_items-requires-clause-room c =
    let live = sym c.end_context.ensures.newly ∙ c.if-end_context.true in
    let many = c.loop-y.invariant.walk.as_many in
    let v = option_map (ended_kept c.args.end) (context_at c.loop-y.contexts c.in-Some.y) in
    let fewer = to_come_ends c.args.children.now c.loop-y.contexts c.in-Some.y v (omega arith) live (ended_not_live c.args.end (context_at c.loop-y.contexts c.in-Some.y)) in
    let room = c.loop-y.invariant.room_left in
    let popped = c.in-Some.ensures.len in
    let cap = c.in-Some.ensures.capacity in
    omega arith

pub push_items-requires-then-end_context-clause-room :
    goal.push_items-requires-then-end_context-clause-room
push_items-requires-then-end_context-clause-room c =
    let live = sym c.end_context.ensures.newly ∙ c.if-end_context.true in
    let many = c.loop-y.invariant.walk.as_many in
    let v = option_map (ended_kept c.args.end) (context_at c.loop-y.contexts c.in-Some.y) in
    let fewer = to_come_ends c.args.waiting.now c.loop-y.contexts c.in-Some.y v (omega arith) live (ended_not_live c.args.end (context_at c.loop-y.contexts c.in-Some.y)) in
    let room = c.loop-y.invariant.room_found in
    omega arith

pub push_reserved-requires-then-end_context : goal.push_reserved-requires-then-end_context
push_reserved-requires-then-end_context c =
    let live = sym c.end_context.ensures.newly ∙ c.if-end_context.true in
    let one = count_one c.loop-y.contexts c.in-Some.y live in
    let room = c.loop-y.invariant.listed.room in
    let size = c.loop-y.invariant.walk.as_many in
    let capacity = c.loop-y.invariant.same_ended in
    let taken = c.requires.room_ended in
    let len = c.loop-y.ended.ok in
    omega arith

pub loop-y-smaller-then-end_context : goal.loop-y-smaller-then-end_context
loop-y-smaller-then-end_context c =
    let live = sym c.end_context.ensures.newly ∙ c.if-end_context.true in
    let many = c.loop-y.invariant.walk.as_many in
    let v = option_map (ended_kept c.args.end) (context_at c.loop-y.contexts c.in-Some.y) in
    let fewer = to_come_ends c.args.children.now c.loop-y.contexts c.in-Some.y v (omega arith) live (ended_not_live c.args.end (context_at c.loop-y.contexts c.in-Some.y)) in
    let new = ap (to_come c.args.children.now) (c.end_context.ensures.contexts ∙ cond-true _ (set c.loop-y.contexts c.in-Some.y v) c.loop-y.contexts live) in
    let popped = c.in-Some.ensures.len in
    let before = c.pop.new.self.ok in
    let after = c.push_items.new.out.ok in
    let pushed = ap length c.push_items.ensures.items ∙ length-append c.pop.new.self.items (items_of c.args.children.now c.in-Some.y) in
    omega arith

pub loop-y-preserved-then-end_context : goal.loop-y-preserved-then-end_context
loop-y-preserved-then-end_context c =
    let live = sym c.end_context.ensures.newly ∙ c.if-end_context.true in
    let inv = c.loop-y.invariant in
    let many = inv.walk.as_many in
    let y = c.in-Some.y in
    let v = option_map (ended_kept c.args.end) (context_at c.loop-y.contexts y) in
    let dead = ended_not_live c.args.end (context_at c.loop-y.contexts y) in
    let is = c.end_context.ensures.contexts ∙ cond-true _ (set c.loop-y.contexts y v) c.loop-y.contexts live in
    let children = c.args.children.now in
    let waiting = c.args.waiting.now in
    let fewer = to_come_ends children c.loop-y.contexts y v (omega arith) live dead in
    let fewer_waiting = to_come_ends waiting c.loop-y.contexts y v (omega arith) live dead in
    let new = ap (to_come children) is in
    let new_waiting = ap (to_come waiting) is in
    let popped = c.in-Some.ensures.len in
    let before = c.pop.new.self.ok in
    let after = c.push_items.new.out.ok in
    let pushed = ap length c.push_items.ensures.items ∙ length-append c.pop.new.self.items (items_of children y) in
    let found_before = c.loop-y.found.ok in
    let found_after = c.push_items-then-end_context.new.out.ok in
    let found = ap length c.push_items-then-end_context.ensures.items ∙ length-append c.loop-y.found.items (items_of waiting y) in
    let cap = c.push_items.ensures.capacity ∙ c.in-Some.ensures.capacity in
    let found_cap = c.push_items-then-end_context.ensures.capacity in
    let left = inv.room_left in
    let left_found = inv.room_found in
    let walk : IsWalking c.args.contexts.now c.loop-y.contexts children waiting c.args.x c.args.end (c.pop.new.self.items ++ y ∷ []) c.loop-y.found.items =
    subst (λ stack. IsWalking c.args.contexts.now c.loop-y.contexts children waiting c.args.x c.args.end stack c.loop-y.found.items) c.in-Some.ensures.items inv.walk in
    record {
      walk =
          subst (λ (ks : List (Option Context)). IsWalking c.args.contexts.now ks children waiting c.args.x c.args.end c.push_items.new.out.items c.push_items-then-end_context.new.out.items) (sym is)
          (subst (λ stack. IsWalking c.args.contexts.now (set c.loop-y.contexts y v) children waiting c.args.x c.args.end stack c.push_items-then-end_context.new.out.items) (sym c.push_items.ensures.items)
          (subst (IsWalking c.args.contexts.now (set c.loop-y.contexts y v) children waiting c.args.x c.args.end (c.pop.new.self.items ++ items_of children y)) (sym c.push_items-then-end_context.ensures.items)
          (walk_more c.args.contexts.now c.loop-y.contexts children waiting c.args.x c.args.end c.pop.new.self.items c.loop-y.found.items y walk live)));
      room_left = omega arith;
      room_found = omega arith;
      same_left = cap ∙ inv.same_left;
      listed =
          subst (λ (ks : List (Option Context)). AreListed c.args.contexts.now ks c.push_reserved-then-end_context.new.self.items) (sym is)
          (subst (AreListed c.args.contexts.now (set c.loop-y.contexts y v)) (sym c.push_reserved-then-end_context.ensures.items)
          (listed_more c.args.contexts.now c.loop-y.contexts c.args.end c.loop-y.ended.items y inv.listed (live_kept c.args.contexts.now c.loop-y.contexts c.args.end y (inv.walk.kept y) live) live));
      same_ended = c.push_reserved-then-end_context.ensures.capacity ∙ inv.same_ended;
      same_found = found_cap ∙ inv.same_found;
    }

pub loop-y-preserved : goal.loop-y-preserved
loop-y-preserved c =
    let ended = sym c.end_context.ensures.newly ∙ c.if-end_context.false in
    let inv = c.loop-y.invariant in
    let y = c.in-Some.y in
    let v = option_map (ended_kept c.args.end) (context_at c.loop-y.contexts y) in
    let is = c.end_context.ensures.contexts ∙ cond-false _ (set c.loop-y.contexts y v) c.loop-y.contexts ended in
    let children = c.args.children.now in
    let waiting = c.args.waiting.now in
    let new = ap (to_come children) is in
    let new_waiting = ap (to_come waiting) is in
    let popped = c.in-Some.ensures.len in
    let cap = c.in-Some.ensures.capacity in
    let left = inv.room_left in
    let left_found = inv.room_found in
    let walk : IsWalking c.args.contexts.now c.loop-y.contexts children waiting c.args.x c.args.end (c.pop.new.self.items ++ y ∷ []) c.loop-y.found.items =
    subst (λ stack. IsWalking c.args.contexts.now c.loop-y.contexts children waiting c.args.x c.args.end stack c.loop-y.found.items) c.in-Some.ensures.items inv.walk in
    record {
      walk =
          subst (λ (ks : List (Option Context)). IsWalking c.args.contexts.now ks children waiting c.args.x c.args.end c.pop.new.self.items c.loop-y.found.items) (sym is)
          (walk_passes c.args.contexts.now c.loop-y.contexts children waiting c.args.x c.args.end c.pop.new.self.items c.loop-y.found.items y walk ended);
      room_left = omega arith;
      room_found = omega arith;
      same_left = cap ∙ inv.same_left;
      listed = subst (λ (ks : List (Option Context)). AreListed c.args.contexts.now ks c.loop-y.ended.items) (sym is) inv.listed;
      same_ended = inv.same_ended;
      same_found = inv.same_found;
    }

pub returns-clause-each : goal.returns-clause-each
returns-clause-each c = listed_ended c.args.contexts.now c.loop-y.contexts c.args.end c.loop-y.ended.items c.loop-y.invariant.walk.kept c.loop-y.invariant.listed
