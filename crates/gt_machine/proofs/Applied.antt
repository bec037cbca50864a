-- The changes of an entry, one after the other, make the state after it.
use Rattle.std.proofs.Common.{◌≡◌, ℕ, zero, suc, ◌+◌, refl, ap, Option, IfSome, List, [], ◌∷◌, map, count_by, Bool, true, false, cond, sym, ◌∙◌, arith}
use Rattle.std.proofs.lemmas.List.Sums.{sum_by-cons}
use Rattle.gt_model.specs.declared.script.Script.{Script}
use Rattle.gt_model.specs.declared.entry.Entry.{Entry}
use Rattle.gt_model.specs.declared.state.Goroutine.{Goroutine}
use Rattle.gt_model.specs.declared.state.Ending.{Ending}
use Rattle.gt_rules.specs.State.{State, is_suspended, suspended_count}
use Rattle.gt_rules.specs.declared.change.Move.{Move}
use Rattle.gt_rules.specs.declared.change.Setting.{Setting}
use Rattle.gt_rules.specs.declared.change.Trade.{Trade}
use Rattle.gt_rules.specs.declared.change.SyncStep.{SyncStep}
use Rattle.gt_rules.specs.declared.change.TreeStep.{TreeStep}
use Rattle.gt_rules.specs.Change.{Change, change_of}
use Rattle.gt_rules.specs.After.{after, changed, with_mover, with_starts, with_grown, with_hooked, with_retimed, with_traded, with_stepped, with_clock, with_signalled, signalled, moved_on, option_or}
use Rattle.gt_model.specs.Tables.{change, change_numbered}
use Rattle.gt_rules.specs.Legal.{May}
use Rattle.gt_machine.specs.Machine.{with_new}

-- an entry that may come next counts, since it is not the end of the run
counted-May : (script : Script) (s : State) (e : Entry) → May script s e → (change_of e).counted ≡ 1
counted-May script s (Entry.Finish outcome) may = absurd may
counted-May script s _ may = refl

-- what the code reads of a change is the change
pub record IsRead (c : Change) (m p : Option (ℕ × Move)) (t : Option (ℕ × Setting)) (ch : Option (ℕ × Trade)) (sy : Option (ℕ × SyncStep)) (tr : Option (ℕ × TreeStep)) (k : Option (ℕ × ℕ)) (how : Option Ending) : Type 0 where
  pub mover : m ≡ c.mover
  pub partner : p ≡ c.partner
  pub timer : t ≡ c.timer
  pub channel : ch ≡ c.channel
  pub sync : sy ≡ c.sync
  pub tree : tr ≡ c.tree
  pub clock : k ≡ c.clock
  pub ending : how ≡ c.ending

-- ---- a broadcast that finds nobody suspended

count-cons : (p : Goroutine → Bool) (r : Goroutine) (gs : List Goroutine) → count_by p (r ∷ gs) ≡ cond (p r) 1 0 + count_by p gs
count-cons p r gs = sum_by-cons (λ y. cond (p y) 1 0) r gs

unsignalled : (k : ℕ) (gs : List Goroutine) → count_by (is_suspended k) gs ≡ 0 → map (signalled k) gs ≡ gs
unsignalled k [] none = refl
unsignalled k (r ∷ gs) none =
    elim (is_suspended k r) as (λ b. is_suspended k r ≡ b → cond b 1 0 + count_by (is_suspended k) gs ≡ 0 → map (signalled k) (r ∷ gs) ≡ r ∷ gs) [
      | true ↦ λ is h. absurd (omega (arith, h))
      | false ↦ λ is h.
          let rest : count_by (is_suspended k) gs ≡ 0 = omega (arith, h) in
          let same : signalled k r ≡ r = rw (signalled, is) refl in
          ap (λ (x : Goroutine). x ∷ map (signalled k) gs) same ∙ ap (λ xs. r ∷ xs) (unsignalled k gs rest)
    ] refl (sym (count-cons (is_suspended k) r gs) ∙ none)

-- who goes on is suspended nowhere
moved-unsuspended : (script : Script) (k n : ℕ) (gs : List Goroutine) (i : ℕ) → count_by (is_suspended k) gs ≡ 0 → count_by (is_suspended k) (change gs i (moved_on script n)) ≡ 0
moved-unsuspended script k n [] i none = refl
moved-unsuspended script k n (r ∷ gs) zero none =
    let was : cond (is_suspended k r) 1 0 + count_by (is_suspended k) gs ≡ 0 = sym (count-cons (is_suspended k) r gs) ∙ none in
    let rest : count_by (is_suspended k) gs ≡ 0 = omega (arith, was) in
    count-cons (is_suspended k) (moved_on script n r) gs ∙ omega (arith, rest)
moved-unsuspended script k n (r ∷ gs) (suc i) none =
    let one : ℕ = cond (is_suspended k r) 1 0 in
    let was : one + count_by (is_suspended k) gs ≡ 0 = sym (count-cons (is_suspended k) r gs) ∙ none in
    let first : one ≡ 0 = omega (arith, was) in
    let rest : count_by (is_suspended k) gs ≡ 0 = omega (arith, was) in
    let after : count_by (is_suspended k) (change gs i (moved_on script n)) ≡ 0 = moved-unsuspended script k n gs i rest in
    count-cons (is_suspended k) r (change gs i (moved_on script n)) ∙ omega (arith, first, after)

mover-unsuspended : (script : Script) (k n g : ℕ) (gs : List Goroutine) → count_by (is_suspended k) gs ≡ 0 → count_by (is_suspended k) (change_numbered gs g (moved_on script n)) ≡ 0
mover-unsuspended script k n zero gs none = none
mover-unsuspended script k n (suc i) gs none = moved-unsuspended script k n gs i none

pub signalled-none : (script : Script) (s : State) (e : Entry) → IfSome (change_of e).broadcast (λ k. suspended_count s k ≡ 0)
    → with_signalled (with_mover script (with_mover script s.goroutines (change_of e).mover) (change_of e).partner) (change_of e).broadcast
    ≡ with_mover script (with_mover script s.goroutines (change_of e).mover) (change_of e).partner
signalled-none script s (Entry.Broadcast g k count) none = unsignalled k (change_numbered s.goroutines g (moved_on script 0)) (mover-unsuspended script k 0 g s.goroutines none)
signalled-none script s _ none = refl

-- the change, part by part
pub all_changed : (script : Script) (s : State) (mover partner : Option (ℕ × Move)) (timer : Option (ℕ × Setting)) (channel : Option (ℕ × Trade)) (sync : Option (ℕ × SyncStep)) (tree : Option (ℕ × TreeStep)) (begins : Option Goroutine)
    (clock : Option (ℕ × ℕ)) (ending : Option Ending) (c : Change) → IsRead c mover partner timer channel sync tree clock ending → c.counted ≡ 1
    → ((gs : List Goroutine) → with_starts script s gs c.starts ≡ with_new gs begins)
    → with_signalled (with_mover script (with_mover script s.goroutines c.mover) c.partner) c.broadcast ≡ with_mover script (with_mover script s.goroutines c.mover) c.partner
    → record {
      clocks = with_clock s.clocks clock;
      entries = s.entries + 1;
      goroutines = with_new (with_mover script (with_mover script s.goroutines mover) partner) begins;
      timers = with_retimed script s mover s.timers timer;
      channels = with_traded s mover s.channels channel;
      syncs = with_stepped script s mover s.syncs sync;
      contexts = with_grown script s mover tree;
      hooks = with_hooked script s tree;
      ending = option_or s.ending ending;
    } ≡ changed script s c
all_changed script s mover partner timer channel sync tree begins clock ending c is one new none =
    rw (none, is.mover, is.partner, is.timer, is.channel, is.sync, is.tree, is.clock, is.ending, one, new) refl

-- the state after an entry, by the states between its changes
pub applied : (script : Script) (e : Entry) (s s1 s2 t2 u2 s3 s4 s5 s6 s7 : State) (mover partner : Option (ℕ × Move)) (timer : Option (ℕ × Setting)) (channel : Option (ℕ × Trade)) (sync : Option (ℕ × SyncStep))
    (tree : Option (ℕ × TreeStep)) (begins : Option Goroutine) (clock : Option (ℕ × ℕ)) (ending : Option Ending) → May script s e
    → IsRead (change_of e) mover partner timer channel sync tree clock ending → IfSome (change_of e).broadcast (λ k. suspended_count s k ≡ 0)
    → ((gs : List Goroutine) → with_starts script s gs (change_of e).starts ≡ with_new gs begins)
    → s1 ≡ record s { timers = with_retimed script s mover s.timers timer }
    → s2 ≡ record s1 { channels = with_traded s1 mover s1.channels channel }
    → t2 ≡ record s2 { syncs = with_stepped script s2 mover s2.syncs sync }
    → u2 ≡ record t2 { contexts = with_grown script t2 mover tree; hooks = with_hooked script t2 tree }
    → s3 ≡ record u2 { goroutines = with_mover script u2.goroutines mover }
    → s4 ≡ record s3 { goroutines = with_mover script s3.goroutines partner }
    → s5 ≡ record s4 { goroutines = with_new s4.goroutines begins }
    → s6 ≡ record s5 { clocks = with_clock s5.clocks clock }
    → s7 ≡ record s6 { ending = option_or s6.ending ending }
    → record s7 { entries = s7.entries + 1 } ≡ after script s e
applied script e s s1 s2 t2 u2 s3 s4 s5 s6 s7 mover partner timer channel sync tree begins clock ending may is none new e1 e2 f2 g2 e3 e4 e5 e6 e7 =
    rw (e7, e6, e5, e4, e3, g2, f2, e2, e1) (all_changed script s mover partner timer channel sync tree begins clock ending (change_of e) is (counted-May script s e may) new (signalled-none script s e none))
