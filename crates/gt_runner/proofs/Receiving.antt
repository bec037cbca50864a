-- What a receive from a timer leaves of a watched record: a ticker has a next due time, which is no earlier than the one that was received.
use Rattle.std.proofs.Common.{◌≡◌, ℕ, ◌+◌, ◌<◌, ◌≤◌, min, sym, ap, subst, ◌∙◌, arith, Option, None, Some, IsSome, IsSomeAnd, Bool, true, ◌&&◌, is_some}
use Rattle.gt_rules.specs.State.{clock}
use Rattle.gt_rec.specs.declared.RecKind.{RecKind}
use Rattle.gt_rec.specs.Ticks.{greatest_time, next_tick, due_left}
use Rattle.gt_rec.specs.Rec.{Rec, needs_heap}
use Rattle.gt_rec.specs.Changes.{received, taken}
use Rattle.gt_lazy.specs.Slots.{LazyHeap}
use Rattle.gt_book.specs.View.{BookView, IsLawful}
use Rattle.gt_chtimer.proofs.Receiving.{Got, got}
use Rattle.gt_runner.specs.Served.{IsWatched}
use Rattle.gt_runner.proofs.Needing.{shown-when}
use Rattle.gt_runner.proofs.Tending.{KeepsNote}
use Rattle.gt_runner.proofs.Touching.{IsNoted}
use Rattle.gt_runner.proofs.Watching.{right-of}

min-above : (most a more : ℕ) → a ≤ most → a ≤ min most (a + more)
min-above most a more h = omega arith

left-above : (kind : RecKind) (period due now w : ℕ) → due ≤ greatest_time → due_left kind period due now ≡ Some w → due ≤ w
left-above RecKind.Timer period due now w most e = cc
left-above RecKind.Ticker period due now w most e =
    let is : next_tick due period now ≡ w = cc in
    subst (λ w. due ≤ w) is (min-above greatest_time due _ most)
left-above RecKind.Func period due now w most e = cc
left-above RecKind.Sleep period due now w most e = cc
left-above RecKind.Deadline period due now w most e = cc

needed-before : (w left : Option ℕ) (due : ℕ) (c : Bool) → w ≡ Some due → (is_some left && c) ≡ true → (is_some w && c) ≡ true
needed-before w left due c at h = ap (λ o. is_some o && c) at ∙ right-of (is_some left) c h

noted-later : (noted : Option ℕ) (a b : ℕ) → a ≤ b → IsSomeAnd noted (λ v. v ≤ a) → IsSomeAnd noted (λ v. v ≤ b)
noted-later None a b le h = absurd h
noted-later (Some v) a b le h = let low : v ≤ a = h in omega arith

-- a record that needs the heap after a receive needed it before, and is due no earlier
pub taken-noted : (v : BookView) (h : LazyHeap) (noted noted' : Option ℕ) (r r' : Rec) (value : ℕ × Option ℕ) → IsLawful v → IsWatched v h noted r
    → received r (clock v.state 0) ≡ Some value → r' ≡ taken r value.1 → KeepsNote noted noted' → needs_heap r' ≡ true → IsNoted noted' r'
taken-noted v h noted noted' r r' value lawful watched is rec_is keeps needs =
    let g : Got r (clock v.state 0) value.0 value.1 = got r (clock v.state 0) value.0 value.1 is in
    let at : r.when ≡ Some value.0 = sym (shown-when r watched.none_ready watched.none_sent) ∙ g.shows in
    let needed : needs_heap (taken r value.1) ≡ true = subst (λ r. needs_heap r ≡ true) rec_is needs in
    let before : needs_heap r ≡ true = needed-before r.when value.1 value.0 _ at needed in
    let come : value.0 ≤ clock v.state 0 = g.come in
    let time : clock v.state 0 ≤ greatest_time = lawful.formed.time in
    let most : value.0 ≤ greatest_time = omega arith in
    record {
      heaped = subst IsSome (sym (ap (λ (r : Rec). r.heaped) rec_is)) (watched.heaped before);
      early = λ w e l.
          let left : value.1 ≡ Some w = sym (ap (λ (r : Rec). r.when) rec_is) ∙ e in
          let low : w < r.key = subst (λ k. w < k) (ap (λ (r : Rec). r.key) rec_is) l in
          let after : value.0 ≤ w = left-above r.kind r.period value.0 (clock v.state 0) w most (sym g.left ∙ left) in
          keeps w (noted-later noted value.0 w after (watched.early before value.0 at (omega arith)));
    }
