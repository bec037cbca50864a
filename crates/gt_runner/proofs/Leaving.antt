-- What an entry leaves to the records that it does not touch.
use Rattle.std.proofs.Common.{◌≡◌, ◌≢◌, ◌⊎◌, ℕ, suc, ◌+◌, ◌-◌, ◌≤◌, nat_lt, cond, List, [], ◌∷◌, length, sum_by, slice_get, refl, sym, ap, subst, ◌∙◌, arith, Option, None, Some, IfSome, IsTrue, is_some, Bool, true, false, inl, inr}
use Rattle.std.proofs.lemmas.Bool.{cases_eq, eq-eqb, ne_eqb, ltb-false}
use Rattle.std.proofs.lemmas.List.Sums.{sum_by-cons}
use Rattle.gt_model.specs.declared.script.Script.{Script}
use Rattle.gt_model.specs.declared.entry.Entry.{Entry}
use Rattle.gt_model.specs.Script.{is_ctx}
use Rattle.gt_model.specs.declared.context.Context.{Context}
use Rattle.gt_facts.proofs.Contexts.{FitsTree}
use Rattle.gt_rules.specs.Contexts.{made_context, is_reached}
use Rattle.gt_rules.specs.State.{State, due_of, sleeps_until, context_at, has_ended, world_of}
use Rattle.gt_rules.specs.After.{new_period, number_of}
use Rattle.gt_rules.specs.Change.{Change, change_of}
use Rattle.gt_rules.specs.declared.change.Move.{Move}
use Rattle.gt_rules.specs.declared.change.Setting.{Setting}
use Rattle.gt_rules.specs.declared.change.TreeStep.{TreeStep}
use Rattle.gt_book.specs.Steps.{live_deadline}
use Rattle.gt_schedule.specs.Counts.{times}
use Rattle.gt_schedule.specs.Schedule.{mark_count}
use Rattle.gt_book.specs.View.{BookView, Enters, IsLawful}
use Rattle.gt_rows.specs.Agrees.{period_by, live_at}
use Rattle.gt_rows.specs.Frames.{due_after, until_after, timer_touched, sleep_touched, own_touched, period_after, timer_period_touched}
use Rattle.gt_rows.proofs.Frames.{enters-dues, enters-periods, enters-marks, enters-fits}
use Rattle.gt_rows.proofs.Owns.{ends-reached, EndsAt}
use Rattle.gt_runner.proofs.Tending.{DueStays}

-- who moves has another record, or neither slept nor falls asleep
abbrev pub LeavesSleep : BookView → ℕ → ℕ × Move → Type 0
LeavesSleep b j x = (length b.script.decls + x.0 ≢ j) ⊎ ((sleeps_until b.state x.0 ≡ None) × (until_after x.1 None ≡ None))

-- a context that is made is another, or has no deadline to come. An end touches no record
abbrev pub LeavesOwn : BookView → Change → ℕ → ℕ → TreeStep → Type 0
LeavesOwn b c j x TreeStep.Derived = (x ≢ j) ⊎ (live_deadline (made_context b.script b.state (world_of b.state (number_of c.mover)) x) ≡ None)
LeavesOwn b c j x TreeStep.Canceled = Unit {0}
LeavesOwn b c j x TreeStep.Expired = Unit {0}
LeavesOwn b c j x TreeStep.Registered = Unit {0}
LeavesOwn b c j x TreeStep.Unhooked = Unit {0}

-- a change does not touch the record of number j: its timer is another, so are the sleeps of the two that may move, and so is the context that is made
pub record Leaves (b : BookView) (c : Change) (j : ℕ) : Type 0 where
  pub timer : IfSome c.timer (λ x. x.0 ≢ j)
  pub mover : IfSome c.mover (LeavesSleep b j)
  pub partner : IfSome c.partner (LeavesSleep b j)
  pub tree : IfSome c.tree (λ x. LeavesOwn b c j x.0 x.1)

timer-stays : (o : Option (ℕ × Setting)) (j : ℕ) (before : Option ℕ) → IfSome o (λ x. x.0 ≢ j) → timer_touched o j before ≡ before
timer-stays None j before h = refl
timer-stays (Some x) j before h = ap (λ b. cond b (due_after x.1) before) (ne_eqb j x.0 (λ e. h (sym e)))

sleep-stays : (b : BookView) (o : Option (ℕ × Move)) (j : ℕ) → length b.script.decls ≤ j
    → IfSome o (LeavesSleep b j)
    → sleep_touched o (j - length b.script.decls) (sleeps_until b.state (j - length b.script.decls)) ≡ sleeps_until b.state (j - length b.script.decls)
sleep-stays b None j behind h = refl
sleep-stays b (Some x) j behind h =
    let g : ℕ = j - length b.script.decls in
    elim (cases_eq g x.0) [
      | inl e ↦ elim h [
        | inl other ↦ absurd (other (omega arith))
        | inr none ↦
            let awake : sleeps_until b.state g ≡ None = ap (sleeps_until b.state) e ∙ none.0 in
            ap (λ q. cond q (until_after x.1 (sleeps_until b.state g)) (sleeps_until b.state g)) (eq-eqb g x.0 e) ∙ (ap (until_after x.1) awake ∙ (none.1 ∙ sym awake))
      ]
      | inr n ↦ ap (λ q. cond q (until_after x.1 (sleeps_until b.state g)) (sleeps_until b.state g)) (ne_eqb g x.0 n)
    ]

-- a context that was not made has no deadline
unmade-own : (o : Option Context) → is_some o ≡ false → (elim o as (λ _. Option ℕ) [ None ↦ None | Some r ↦ live_deadline r ]) ≡ None
unmade-own None h = refl
unmade-own (Some r) h = cc

-- an end leaves the deadline of a context as it was, or ends it
own-cut : (old : BookView) (e : Entry) (new : BookView) (j : ℕ) → IsTrue (is_ctx old.script j) → (is_reached_now : Bool)
    → (is_reached_now ≡ true → is_some (context_at old.state j) ≡ true → has_ended new.state j ≡ true)
    → (cond is_reached_now None (live_at old.state j) ≡ live_at old.state j) ⊎ (IsTrue (is_ctx old.script j) × IsTrue (has_ended new.state j))
own-cut old e new j ctx false ends = inl refl
own-cut old e new j ctx true ends = by (is_some (context_at old.state j)) refl
  where
    by : (made : Bool) → is_some (context_at old.state j) ≡ made
        → (cond true None (live_at old.state j) ≡ live_at old.state j) ⊎ (IsTrue (is_ctx old.script j) × IsTrue (has_ended new.state j))
    by true made = inr (ctx, ends refl made)
    by false fresh = inl (sym (unmade-own (context_at old.state j) fresh))

own-stays : (old : BookView) (e : Entry) (new : BookView) (j : ℕ) → Enters old e new → IsTrue (is_ctx old.script j) → (o : Option (ℕ × TreeStep)) → (change_of e).tree ≡ o
    → IfSome o (λ (x : ℕ × TreeStep). FitsTree old.script old.state x.0 x.1) → IfSome o (λ (x : ℕ × TreeStep). LeavesOwn old (change_of e) j x.0 x.1)
    → (own_touched old.script old.state (change_of e) o j (live_at old.state j) ≡ live_at old.state j) ⊎ (IsTrue (is_ctx old.script j) × IsTrue (has_ended new.state j))
own-stays old e new j enters ctx None is fits leaves = inl refl
own-stays old e new j enters ctx (Some (x, TreeStep.Derived)) is fits leaves =
    let made : Option ℕ = live_deadline (made_context old.script old.state (world_of old.state (number_of (change_of e).mover)) x) in
    elim (cases_eq j x) [
      | inl same ↦ elim leaves [
        | inl other ↦ absurd (other (sym same))
        | inr none ↦
            let fresh : is_some (context_at old.state j) ≡ false = ap (λ k. is_some (context_at old.state k)) same ∙ fits.fresh in
            inl (ap (λ b. cond b made (live_at old.state j)) (eq-eqb j x same) ∙ (none ∙ sym (unmade-own (context_at old.state j) fresh)))
      ]
      | inr other ↦ inl (ap (λ b. cond b made (live_at old.state j)) (ne_eqb j x other))
    ]
own-stays old e new j enters ctx (Some (x, TreeStep.Canceled)) is fits leaves =
    own-cut old e new j ctx (is_reached old.script old.state x j)
    (λ reached made. ends-reached old e new j enters (subst (λ o. EndsAt old.script old.state o j) (sym is) reached) made)
own-stays old e new j enters ctx (Some (x, TreeStep.Expired)) is fits leaves =
    own-cut old e new j ctx (is_reached old.script old.state x j)
    (λ reached made. ends-reached old e new j enters (subst (λ o. EndsAt old.script old.state o j) (sym is) reached) made)
own-stays old e new j enters ctx (Some (x, TreeStep.Registered)) is fits leaves = inl refl
own-stays old e new j enters ctx (Some (x, TreeStep.Unhooked)) is fits leaves = inl refl

-- the due time of a number before, by whether it is that of a declaration, and of a context
abbrev due_before : BookView → ℕ → Bool → Bool → Option ℕ
due_before b j declared ctx = cond declared (cond ctx (live_at b.state j) (due_of b.state j)) (sleeps_until b.state (j - length b.script.decls))

-- and what an entry makes of it
abbrev due_touched : BookView → Change → ℕ → Bool → Bool → Option ℕ → Option ℕ
due_touched b c j declared ctx before =
    cond declared (cond ctx (own_touched b.script b.state c c.tree j before) (timer_touched c.timer j before))
    (sleep_touched c.partner (j - length b.script.decls) (sleep_touched c.mover (j - length b.script.decls) before))

touched-stays : (old : BookView) (e : Entry) (new : BookView) (j : ℕ) (declared ctx : Bool) → IsLawful old → Enters old e new → nat_lt j (length old.script.decls) ≡ declared → is_ctx old.script j ≡ ctx
    → Leaves old (change_of e) j
    → (due_touched old (change_of e) j declared ctx (due_before old j declared ctx) ≡ due_before old j declared ctx) ⊎ (IsTrue (is_ctx old.script j) × IsTrue (has_ended new.state j))
touched-stays old e new j true true lawful enters below is h = own-stays old e new j enters is (change_of e).tree refl (enters-fits old e new lawful enters) h.tree
touched-stays old e new j true false lawful enters below is h = inl (timer-stays (change_of e).timer j (due_of old.state j) h.timer)
touched-stays old e new j false ctx lawful enters past is h =
    let behind : length old.script.decls ≤ j = ltb-false j (length old.script.decls) past in
    inl (ap (sleep_touched (change_of e).partner (j - length old.script.decls)) (sleep-stays old (change_of e).mover j behind h.mover) ∙ sleep-stays old (change_of e).partner j behind h.partner)

pub leaves-due : (old : BookView) (e : Entry) (new : BookView) → IsLawful old → Enters old e new → (j : ℕ) → Leaves old (change_of e) j → DueStays old new j
leaves-due old e new lawful enters j h =
    elim (touched-stays old e new j (nat_lt j (length old.script.decls)) (is_ctx old.script j) lawful enters refl refl h) [
      | inl same ↦ inl (enters-dues old e new lawful enters j ∙ same)
      | inr over ↦ inr over
    ]

period-stays : (script : Script) (s : State) (c : Change) (j before : ℕ) (o : Option (ℕ × Setting)) → IfSome o (λ x. x.0 ≢ j) → timer_period_touched script s c j before o ≡ before
period-stays script s c j before None h = refl
period-stays script s c j before (Some x) h = ap (λ b. cond b (period_after x.1 (new_period script s (number_of c.mover) x.0) before) before) (ne_eqb j x.0 (λ e. h (sym e)))

pub leaves-period : (old : BookView) (e : Entry) (new : BookView) → IsLawful old → Enters old e new → (j : ℕ) → Leaves old (change_of e) j
    → period_by new.script new.state j ≡ period_by old.script old.state j
leaves-period old e new lawful enters j h =
    enters-periods old e new lawful enters j
    ∙ elim (nat_lt j (length old.script.decls))
    as (λ q. cond q (timer_period_touched old.script old.state (change_of e) j (period_by old.script old.state j) (change_of e).timer) (period_by old.script old.state j) ≡ period_by old.script old.state j) [
      | true ↦ period-stays old.script old.state (change_of e) j (period_by old.script old.state j) (change_of e).timer h.timer
      | false ↦ refl
    ]

-- ---- how many marks a timer has

abbrev list_or_none : Option (List ℕ) → List ℕ
list_or_none None = []
list_or_none (Some ts) = ts

none-left : (t : ℕ) (yss : List (List ℕ)) → ((i : ℕ) → [] ≡ list_or_none (slice_get yss i)) → 0 ≡ sum_by (times t) yss
none-left t [] h = refl
none-left t (ys ∷ yss) h =
    let sum : sum_by (times t) (ys ∷ yss) ≡ times t ys + sum_by (times t) yss = sum_by-cons (times t) ys yss in
    let here : 0 ≡ times t ys = ap (times t) (h 0) in
    let rest : 0 ≡ sum_by (times t) yss = none-left t yss (λ i. h (suc i)) in
    omega arith

same-sums : (t : ℕ) (xss yss : List (List ℕ)) → ((i : ℕ) → list_or_none (slice_get xss i) ≡ list_or_none (slice_get yss i)) → sum_by (times t) xss ≡ sum_by (times t) yss
same-sums t [] yss h = none-left t yss h
same-sums t (xs ∷ xss) [] h = sym (none-left t (xs ∷ xss) (λ i. sym (h i)))
same-sums t (xs ∷ xss) (ys ∷ yss) h =
    let first : sum_by (times t) (xs ∷ xss) ≡ times t xs + sum_by (times t) xss = sum_by-cons (times t) xs xss in
    let second : sum_by (times t) (ys ∷ yss) ≡ times t ys + sum_by (times t) yss = sum_by-cons (times t) ys yss in
    let here : times t xs ≡ times t ys = ap (times t) (h 0) in
    let rest : sum_by (times t) xss ≡ sum_by (times t) yss = same-sums t xss yss (λ i. h (suc i)) in
    omega arith

pub enters-mark_count : (old : BookView) (e : Entry) (new : BookView) → Enters old e new → (t : ℕ) → mark_count new.schedule t ≡ mark_count old.schedule t
enters-mark_count old e new enters t = same-sums t new.schedule.marks old.schedule.marks (λ i. enters-marks old e new enters (suc i))
