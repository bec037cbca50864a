-- A run ends for its cause, and a deadlock is reported exactly where nothing can go on.
use Rattle.std.proofs.Common.{◌≡◌, ℕ, zero, ◌+◌, ◌==◌, ◌<◌, min, List, [], refl, sym, subst, ◌∙◌, arith, cond, None, Some, true, false, IsSomeAnd}
use Rattle.gt_model.specs.declared.script.Script.{Script}
use Rattle.gt_model.specs.declared.entry.Entry.{Entry}
use Rattle.gt_model.specs.declared.entry.Limits.{Limits}
use Rattle.gt_model.specs.declared.entry.Outcome.{Outcome}
use Rattle.gt_model.specs.declared.state.Ending.{Ending}
use Rattle.gt_model.specs.Good.{IsGood}
use Rattle.gt_model.specs.Tables.{least}
use Rattle.gt_model.specs.Times.{greatest_time}
use Rattle.gt_rules.specs.State.{State}
use Rattle.gt_rules.specs.After.{first_state}
use Rattle.gt_rules.specs.Counted.{counted}
use Rattle.gt_rules.specs.Finish.{IsRunning, IsJump}
use Rattle.gt_rules.specs.History.{History, AllJump, ClockJumps}
use Rattle.gt_facts.proofs.Still.{still-IsIdle, idle-IsStill}
use Rattle.gt_laws.specs.Told.{entries_told}
use Rattle.gt_laws.specs.Laws.{AtEach}
use Rattle.gt_laws.specs.Ends.{IsOn, SaysRightly, EndsRightly, EndsWhereStuck}
use Rattle.gt_laws.proofs.Shown.{ending-told, entries-told}
use Rattle.gt_laws.proofs.GoesOn.{reached, stuck-told, told-stuck}
use Rattle.gt_laws.proofs.Jumps.{jumps-at}
use Rattle.gt_laws.proofs.Comes.{Comes, comes, each}

on : (script : Script) (limits : Limits) (front : List Entry) (e : Entry) → Comes script limits front e → IsRunning limits (reached script front) → IsOn limits front
on script limits front e c running = (
  sym (ending-told script limits front c.good c.before) ∙ running.ending,
  subst (λ n. n < limits.entries) (entries-told script limits front c.good c.before) running.room,
)

-- ---- each outcome for its cause

ends : (script : Script) (limits : Limits) (front : List Entry) (e : Entry) → Comes script limits front e → EndsRightly script limits front e
ends script limits front (Entry.Finish Outcome.Exit) c = sym (ending-told script limits front c.good c.before) ∙ c.legal
ends script limits front (Entry.Finish Outcome.Panic) c = sym (ending-told script limits front c.good c.before) ∙ c.legal
ends script limits front (Entry.Finish Outcome.Limit) c =
    (sym (ending-told script limits front c.good c.before) ∙ c.legal.0, sym (entries-told script limits front c.good c.before) ∙ c.legal.1)
ends script limits front (Entry.Finish Outcome.Deadlock) c = (
  on script limits front _ c c.legal.0,
  stuck-told script limits front c.good c.before (idle-IsStill script (reached script front) c.good c.legal.1) c.legal.2,
)
ends script limits front (Entry.End g) c =
    let running : IsOn limits front = on script limits front _ c c.legal.0 in
    elim (g == 1) as (λ b. SaysRightly script limits front (cond b (Some Ending.MainEnded) None)) [ true ↦ running | false ↦ running ]
ends script limits front _ c = on script limits front _ c c.legal.0

pub each-ends : (script : Script) (limits : Limits) (h : List Entry) (outcome : Outcome) → IsGood script → History script limits h outcome
    → AtEach (EndsRightly script limits) h
each-ends = each EndsRightly ends

-- ---- where nothing can go on

no-jump : (script : Script) (s : State) (slip to : ℕ) → counted script s 0 ≡ [] → IsJump script s slip to → ⊥
no-jump script s slip to none jump = subst (λ (times : List ℕ). IsSomeAnd (least times) (λ t. to ≡ min (t + slip) greatest_time)) none jump.to_least

stuck-ends : (script : Script) (limits : Limits) (slip : ℕ) (front : List Entry) (e : Entry) → Comes script limits front e
    → ClockJumps script slip (reached script front) e → EndsWhereStuck script limits front e
stuck-ends script limits slip front (Entry.Finish Outcome.Exit) c jumps on stuck =
    let main_ended : Ending.MainEnded ≡ Ending.Running = sym c.legal ∙ (ending-told script limits front c.good c.before ∙ on.0) in
    cc
stuck-ends script limits slip front (Entry.Finish Outcome.Panic) c jumps on stuck =
    let panicked : Ending.Panicked ≡ Ending.Running = sym c.legal ∙ (ending-told script limits front c.good c.before ∙ on.0) in
    cc
stuck-ends script limits slip front (Entry.Finish Outcome.Limit) c jumps on stuck =
    let full : entries_told front ≡ limits.entries = sym (entries-told script limits front c.good c.before) ∙ c.legal.1 in
    let room : entries_told front < limits.entries = on.1 in
    absurd (omega arith)
stuck-ends script limits slip front (Entry.Finish Outcome.Deadlock) c jumps on stuck = refl
stuck-ends script limits slip front (Entry.Clock zero to) c jumps on stuck =
    absurd (no-jump script (reached script front) slip to (told-stuck script limits front c.good c.before stuck).1 jumps)
stuck-ends script limits slip front e c jumps on stuck =
    absurd (still-IsIdle script (reached script front) (told-stuck script limits front c.good c.before stuck).0 e c.legal.1)

pub each-ends_where_stuck : (script : Script) (limits : Limits) (slip : ℕ) (h : List Entry) (outcome : Outcome) → IsGood script → History script limits h outcome
    → AllJump script slip (first_state script) h → AtEach (EndsWhereStuck script limits) h
each-ends_where_stuck script limits slip h outcome good history jumps front e rest is =
    stuck-ends script limits slip front e (comes script limits h outcome front e rest good history is)
    (jumps-at script slip (first_state script) front e rest (subst (AllJump script slip (first_state script)) is jumps))
