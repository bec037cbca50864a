-- Where the program's clock jumps, by the entries alone.
use Rattle.std.proofs.Common.{◌≡◌, ℕ, zero, suc, ◌+◌, min, List, [], ◌∷◌, ◌++◌, refl, sym, subst, ◌∙◌, IsSomeAnd, append_assoc}
use Rattle.gt_model.specs.declared.script.Script.{Script}
use Rattle.gt_model.specs.declared.entry.Entry.{Entry}
use Rattle.gt_model.specs.declared.entry.Limits.{Limits}
use Rattle.gt_model.specs.declared.entry.Outcome.{Outcome}
use Rattle.gt_model.specs.Good.{IsGood}
use Rattle.gt_model.specs.Tables.{least}
use Rattle.gt_model.specs.Times.{greatest_time}
use Rattle.gt_rules.specs.State.{State}
use Rattle.gt_rules.specs.After.{after, first_state}
use Rattle.gt_rules.specs.History.{History, AllJump, ClockJumps, state_after}
use Rattle.gt_facts.proofs.Histories.{state_after-append}
use Rattle.gt_facts.proofs.Still.{still-IsIdle, idle-IsStill}
use Rattle.gt_laws.specs.Laws.{AtEach}
use Rattle.gt_laws.specs.Ends.{JumpsToLeast}
use Rattle.gt_laws.proofs.GoesOn.{reached, counted-told, still-told, told-still}
use Rattle.gt_laws.proofs.Comes.{Comes, comes}

pub jumps-at : (script : Script) (slip : ℕ) (s : State) (front : List Entry) (e : Entry) (rest : List Entry) → AllJump script slip s (front ++ e ∷ rest)
    → ClockJumps script slip (state_after script s front) e
jumps-at script slip s [] e rest all = all.0
jumps-at script slip s (x ∷ front) e rest all = jumps-at script slip (after script s x) front e rest all.1

jump-told : (script : Script) (limits : Limits) (slip : ℕ) (front : List Entry) (e : Entry) → Comes script limits front e
    → ClockJumps script slip (reached script front) e → JumpsToLeast script slip front e
jump-told script limits slip front (Entry.Clock zero to) c jump = (
  still-told script limits front c.good c.before (idle-IsStill script (reached script front) c.good jump.idle),
  subst (λ (times : List ℕ). IsSomeAnd (least times) (λ time. to ≡ min (time + slip) greatest_time)) (counted-told script limits front 0 c.good c.before) jump.to_least,
)
jump-told script limits slip front (Entry.Clock (suc world) to) c jump = tt
jump-told script limits slip front _ c jump = tt

told-jump : (script : Script) (limits : Limits) (slip : ℕ) (front : List Entry) (e : Entry) → Comes script limits front e
    → JumpsToLeast script slip front e → ClockJumps script slip (reached script front) e
told-jump script limits slip front (Entry.Clock zero to) c jump = record {
  idle = still-IsIdle script (reached script front) (told-still script limits front c.good c.before jump.0);
  to_least =
      subst (λ (times : List ℕ). IsSomeAnd (least times) (λ time. to ≡ min (time + slip) greatest_time)) (sym (counted-told script limits front 0 c.good c.before)) jump.1;
}
told-jump script limits slip front _ c jump = tt

pub each-jumps : (script : Script) (limits : Limits) (slip : ℕ) (h : List Entry) (outcome : Outcome) → IsGood script → History script limits h outcome
    → AllJump script slip (first_state script) h → AtEach (JumpsToLeast script slip) h
each-jumps script limits slip h outcome good history jumps front e rest is =
    jump-told script limits slip front e (comes script limits h outcome front e rest good history is)
    (jumps-at script slip (first_state script) front e rest (subst (AllJump script slip (first_state script)) is jumps))

-- the jumps behind a front
jumps-on : (script : Script) (limits : Limits) (slip : ℕ) (h : List Entry) (outcome : Outcome) (front rest : List Entry) → IsGood script → History script limits h outcome
    → AtEach (JumpsToLeast script slip) h → h ≡ front ++ rest → AllJump script slip (reached script front) rest
jumps-on script limits slip h outcome front [] good history jumps is = tt
jumps-on script limits slip h outcome front (e ∷ rest) good history jumps is = (
  told-jump script limits slip front e (comes script limits h outcome front e rest good history is) (jumps front e rest is),
  subst (λ (s : State). AllJump script slip s rest) (state_after-append script (first_state script) front e)
      (jumps-on script limits slip h outcome (front ++ e ∷ []) rest good history jumps (is ∙ sym (append_assoc front (e ∷ []) rest))),
)

pub all-jump : (script : Script) (limits : Limits) (slip : ℕ) (h : List Entry) (outcome : Outcome) → IsGood script → History script limits h outcome
    → AtEach (JumpsToLeast script slip) h → AllJump script slip (first_state script) h
all-jump script limits slip h outcome good history jumps = jumps-on script limits slip h outcome [] h good history jumps refl
