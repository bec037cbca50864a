use Rattle.std.proofs.Common.{◌<◌, ◌∙◌, sym, ap, append_assoc, length-append, length, [], ◌∷◌, ◌++◌, get_or, vec_len, vec_capacity, arith}
use Rattle.std.specs.List.{sum_by}
use Rattle.std.proofs.lemmas.List.{append-nil}
use Rattle.gt_ctx.specs.Contents.{hook_at}
use Rattle.gt_ctx.specs.Kept.{unstarted}
use Rattle.gt_ctx.proofs.Hooks.{starts_among, none_started, none_among, done_more, done_passed, started_more, started_passed, room_started, has_at, filter_few}
use Rattle.gt_ctx.proofs.cut.start_waiting.Goals as goal
use Rattle.gt_ctx.proofs.cut.start_waiting.Goals.{then-waits, else-waits}

pub loop-s-init : goal.loop-s-init
loop-s-init c = record {
  done = none_started c.args.hooks.now c.args.found.now;
  started = sym (ap (λ more. c.args.started.now.items ++ more) (none_among c.args.hooks.now c.args.found.now) ∙ append-nil c.args.started.now.items);
  room = c.requires.room;
}

pub waits-requires : goal.waits-requires
waits-requires c =
    let within = c.requires.declared (get_or c.args.found.now c.loop-s.s-index 0) (has_at c.args.found.now c.loop-s.s-index c.loop-s-test.true) in
    omega arith

pub loop-s-preserved : goal.loop-s-preserved
loop-s-preserved c =
    let old = c.args.hooks.now in
    let hooks = c.loop-s.hooks in
    let found = c.args.found.now in
    let i = c.loop-s.s-index in
    let s = get_or found i 0 in
    let l : i < length found = c.loop-s-test.true in
    let inv = c.loop-s.invariant in
    let within : s < length old = c.requires.declared s (has_at found i l) in
    let within_now : s < length hooks = omega arith in
    let before = c.args.started.now.items in
    elim c.if-waits.branch [
      | then-waits w ↦
          let waits = sym c.waits.ensures ∙ w.if-waits.true in
          let room = room_started hooks s (vec_len c.loop-s.started) (vec_capacity c.loop-s.started) within_now waits inv.room in
          let more = room.1 in
          let len = ap vec_len w.started-is in
          let cap = ap vec_capacity w.started-is in
          let sum = ap (sum_by unstarted) w.hooks-is in
          record {
            done = λ k. ap (λ hs. hook_at hs k) w.hooks-is ∙ done_more old hooks found i l c.requires.ordered inv.done waits within_now k;
            started =
                ap (λ v. v.items) w.started-is ∙ w.push_reserved.ensures.items
                ∙ ap (λ is. is ++ (s ∷ [])) inv.started
                ∙ append_assoc before _ (s ∷ [])
                ∙ ap (λ is. before ++ is) (sym (started_more old hooks found i l c.requires.ordered inv.done waits within));
            room = omega arith;
          }
      | else-waits w ↦
          let stays = sym c.waits.ensures ∙ w.if-waits.false in
          let len = ap vec_len w.started-is in
          let cap = ap vec_capacity w.started-is in
          let sum = ap (sum_by unstarted) w.hooks-is in
          record {
            done = λ k. ap (λ hs. hook_at hs k) w.hooks-is ∙ done_passed old hooks found i l c.requires.ordered inv.done stays k;
            started =
                ap (λ v. v.items) w.started-is ∙ inv.started
                ∙ ap (λ is. before ++ is) (sym (started_passed old hooks found i l c.requires.ordered inv.done stays));
            room = omega arith;
          }
    ]

pub overflow_cast-result : goal.overflow_cast-result
overflow_cast-result c =
    let few = filter_few (starts_among c.args.hooks.now c.args.found.now c.loop-s.s-index) (length c.args.hooks.now) in
    let size = ap length c.loop-s.invariant.started ∙ length-append c.args.started.now.items _ in
    let before = c.args.started.now.ok in
    let after = c.loop-s.started.ok in
    omega arith
