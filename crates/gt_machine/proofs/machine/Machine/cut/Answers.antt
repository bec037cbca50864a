use Rattle.std.proofs.Common.{◌≡◌, ◌≢◌, ◌<◌, ◌==◌, not, ◌&&◌, is_some, subst, slice_index, ◌∙◌, ◌++◌, ◌∷◌, [], ℕ, List, ap, sym, refl, length, map, append_assoc, length-append, drop, arith}
use Rattle.std.specs.List.{list_any}
use Rattle.std.proofs.lemmas.List.{append-nil}
use Rattle.gt_model.specs.declared.state.Goroutine.{Goroutine}
use Rattle.gt_rules.specs.State.{State}
use Rattle.gt_rules.specs.Contexts.{start_count}
use Rattle.gt_rules.specs.Change.{by_end}
use Rattle.gt_rules.specs.After.{with_starts}
use Rattle.gt_ctx.specs.Contents.{Contents, end_at}
use Rattle.gt_ctx.specs.declared.ends.Cut.{Cut}
use Rattle.gt_machine.specs.Machine.{state_of}
use Rattle.gt_machine.proofs.Trees.{begun_by, cut-tree, cut-count, begun-cut, first-of, none-first, with_hooks, with_parts, starts-all, ended-in, length-cut}
use Rattle.gt_machine.proofs.machine.Machine.cut.Goals as goal

pub loop-s-init : goal.loop-s-init
loop-s-init c =
    let script = c.args.script.now in
    let m = c.args.self.now in
    let s = state_of m in
    let tree = cut-tree script m c.requires.contexts c.requires.formed c.args.x c.requires.live c.args.end c.cancel-cut.new.self c.cancel-cut.ensures.after in
    record {
      begun = ap (λ hs. m.goroutines.items ++ map (begun_by script s) hs) tree.started;
      state = refl;
      room = omega (arith, ap length tree.started, starts-all script s c.args.x c.requires.live, c.requires.room);
      many = refl;
      channels = refl;
      declared = tree.declared ∙ sym c.requires.contexts.declared;
      ended = refl;
    }

pub loop-s-preserved : goal.loop-s-preserved
loop-s-preserved c =
    let script = c.args.script.now in
    let m = c.args.self.now in
    let s = state_of m in
    let inv = c.loop-s.invariant in
    let tree = cut-tree script m c.requires.contexts c.requires.formed c.args.x c.requires.live c.args.end c.cancel-cut.new.self c.cancel-cut.ensures.after in
    let h = c.in-Some.s in
    let others : List ℕ = drop 1 c.loop-s.self.ctxs.started in
    let first : c.loop-s.self.ctxs.started ≡ h ∷ others = first-of c.loop-s.self.ctxs.started h (sym c.take_started.ensures.first ∙ c.in-Some.is) in
    let left : c.take_started.new.self.started ≡ others = ap (λ (t : Contents). t.started) c.take_started.ensures.after in
    let contexts = ap (λ (t : Contents). t.contexts) c.take_started.ensures.after ∙ ap (λ (t : State). t.contexts) inv.state ∙ tree.contexts in
    let begins : c.by_hook-begins.result ≡ begun_by script s h = c.by_hook-begins.ensures ∙ begun-cut script s c.take_started.new.self.contexts c.args.x c.args.end h contexts in
    let size = ap length first in
    let fewer = ap length left in
    let more = ap length c.put.ensures.items in
    record {
      begun =
          ap (λ gs. gs ++ map (begun_by script s) c.take_started.new.self.started) c.put.ensures.items
          ∙ append_assoc c.loop-s.self.goroutines.items (c.by_hook-begins.result ∷ []) (map (begun_by script s) c.take_started.new.self.started)
          ∙ ap (λ hs. c.loop-s.self.goroutines.items ++ c.by_hook-begins.result ∷ map (begun_by script s) hs) left
          ∙ ap (λ r. c.loop-s.self.goroutines.items ++ r ∷ map (begun_by script s) others) begins
          ∙ ap (λ hs. c.loop-s.self.goroutines.items ++ map (begun_by script s) hs) (sym first)
          ∙ inv.begun;
      state = rw c.take_started.ensures.after (ap (λ (t : State). let r : State = record t { goroutines = c.put.new.self.items } in r) inv.state);
      room = omega (arith, c.put.ensures.spare, inv.room);
      many = omega (arith, c.put.ensures.spare, inv.many, length-append c.loop-s.self.goroutines.items (c.by_hook-begins.result ∷ []));
      channels = inv.channels;
      declared = ap (λ (t : Contents). t.decls) c.take_started.ensures.after ∙ inv.declared;
      ended = ap (λ (t : Contents). t.ended) c.take_started.ensures.after ∙ inv.ended;
    }

pub returns-clause-state : goal.returns-clause-state
returns-clause-state c =
    let script = c.args.script.now in
    let m = c.args.self.now in
    let s = state_of m in
    let inv = c.loop-s.invariant in
    let tree = cut-tree script m c.requires.contexts c.requires.formed c.args.x c.requires.live c.args.end c.cancel-cut.new.self c.cancel-cut.ensures.after in
    let none : c.loop-s.self.ctxs.started ≡ [] = none-first c.loop-s.self.ctxs.started (sym c.take_started.ensures.first ∙ c.in_default.is) in
    let gs : List Goroutine = m.goroutines.items in
    let begun : c.loop-s.self.goroutines.items ≡ with_starts script s gs (by_end c.args.x (start_count script s c.args.x)) =
    sym (append-nil c.loop-s.self.goroutines.items)
    ∙ ap (λ hs. c.loop-s.self.goroutines.items ++ map (begun_by script s) hs) (sym none)
    ∙ inv.begun
    ∙ sym (with_hooks script s gs c.args.x)
    ∙ ap (λ n. with_starts script s gs (by_end c.args.x n)) (starts-all script s c.args.x c.requires.live) in
    rw c.take_started.ensures.after
    (inv.state ∙ with_parts s c.loop-s.self.goroutines.items (with_starts script s gs (by_end c.args.x (start_count script s c.args.x))) c.cancel-cut.new.self.contexts _ c.cancel-cut.new.self.hooks _ begun tree.contexts tree.hooks)

pub returns-clause-count : goal.returns-clause-count
returns-clause-count c =
    cut-count c.args.script.now c.args.self.now c.requires.contexts c.requires.formed c.args.x c.requires.live c.cancel-cut.result.starts (ap (λ (t : Cut). t.starts) c.cancel-cut.ensures.answer)

pub returns-clause-ended : goal.returns-clause-ended
returns-clause-ended c y =
    let m = c.args.self.now in
    let inv = c.loop-s.invariant in
    let all = c.cancel-cut.ensures.ended in
    let ended : c.take_started.new.self.ended ≡ c.cancel-cut.new.self.ended = ap (λ (t : Contents). t.ended) c.take_started.ensures.after ∙ inv.ended in
    let contexts : c.take_started.new.self.contexts ≡ c.cancel-cut.new.self.contexts = ap (λ (t : Contents). t.contexts) c.take_started.ensures.after ∙ ap (λ (t : State). t.contexts) inv.state in
    ap (λ ys. list_any (λ z. z == y) ys) ended
    ∙ all.each y
    ∙ ap (λ cs. not (is_some (end_at m.ctxs.contexts y)) && is_some (end_at cs y)) (sym contexts)
    ∙ ended-in m.ctxs.contexts c.take_started.new.self.contexts y

pub returns-clause-once : goal.returns-clause-once
returns-clause-once c =
    let inv = c.loop-s.invariant in
    let ended : c.take_started.new.self.ended ≡ c.cancel-cut.new.self.ended = ap (λ (t : Contents). t.ended) c.take_started.ensures.after ∙ inv.ended in
    subst (λ ys. (i j : ℕ) → i < j → j < length ys → slice_index ys i ≢ slice_index ys j) (sym ended) c.cancel-cut.ensures.ended.once

pub returns-clause-few : goal.returns-clause-few
returns-clause-few c =
    let inv = c.loop-s.invariant in
    let script = c.args.script.now in
    let m = c.args.self.now in
    let tree = cut-tree script m c.requires.contexts c.requires.formed c.args.x c.requires.live c.args.end c.cancel-cut.new.self c.cancel-cut.ensures.after in
    let ended = ap (λ (t : Contents). length t.ended) c.take_started.ensures.after ∙ ap length inv.ended in
    let most = c.cancel-cut.ensures.ended.few in
    let same = ap length tree.contexts ∙ length-cut script (state_of m) c.args.x c.args.end in
    let all = c.requires.formed.contexts in
    omega arith
