-- Each ticker that was made has a time between its ticks, and no other timer has one.
use Rattle.std.proofs.Common.{◌≡◌, ℕ, zero, suc, ◌&&◌, ◌==◌, cond, List, [], ◌∷◌, set, map, refl, sym, ap, subst, ◌∙◌, arith, Option, None, Some, IfSome, Bool, true, false, inl, inr}
use Rattle.std.proofs.lemmas.Bool.{cases_eq}
use Rattle.gt_model.specs.declared.script.Script.{Script}
use Rattle.gt_model.specs.declared.script.Decl.{Decl}
use Rattle.gt_model.specs.declared.script.Instr.{Instr}
use Rattle.gt_model.specs.declared.state.Timer.{Timer}
use Rattle.gt_model.specs.declared.entry.Entry.{Entry}
use Rattle.gt_model.specs.declared.entry.Reason.{Reason}
use Rattle.gt_model.specs.Script.{is_ticker}
use Rattle.gt_model.specs.Tables.{at, change}
use Rattle.gt_model.proofs.Items.{at-set_other, at-change_other}
use Rattle.gt_rules.specs.State.{State, stands_at, world_of}
use Rattle.gt_rules.specs.After.{first_state, duration_of, new_period, number_of, retimed, set_again, set_due, with_retimed}
use Rattle.gt_rules.specs.Change.{change_of}
use Rattle.gt_rules.specs.Legal.{May}
use Rattle.gt_rules.specs.Panics.{when, zero_ticker}
use Rattle.gt_rules.specs.declared.change.Move.{Move}
use Rattle.gt_rules.specs.declared.change.Setting.{Setting}
use Rattle.gt_facts.specs.Formed.{IsPeriod}
use Rattle.gt_facts.proofs.Makers.{neither, calm-fault}

abbrev pub ArePeriods : Script → List (Option Timer) → Type 0
ArePeriods script timers = (t : ℕ) (r : Timer) → at timers t ≡ Some r → IsPeriod (is_ticker script t) r.period

-- the period that a setting brings
abbrev pub BringsPeriod : Script → State → Option (ℕ × Move) → ℕ → Setting → Type 0
BringsPeriod script s m t (Setting.Made due) = IsPeriod (is_ticker script t) (new_period script s (number_of m) t)
BringsPeriod script s m t (Setting.SetAnew due) = IsPeriod (is_ticker script t) (new_period script s (number_of m) t)
BringsPeriod script s m t (Setting.Ended next) = Unit {0}

pub no-zero : (ticker : Bool) (d : ℕ) → when (ticker && d == 0) Reason.Ticker ≡ None → IsPeriod ticker (cond ticker d 0)
no-zero true zero h = cc
no-zero true (suc d) h = omega arith
no-zero false d h = refl

brings : (script : Script) (s : State) (g t d : ℕ) (i : Instr) → stands_at script s g ≡ Some i → duration_of (Some i) ≡ d → zero_ticker script t d ≡ None
    → IsPeriod (is_ticker script t) (new_period script s g t)
brings script s g t d i stands is calm =
    let here : d ≡ duration_of (stands_at script s g) = sym is ∙ ap duration_of (sym stands) in
    subst (λ d. IsPeriod (is_ticker script t) (cond (is_ticker script t) d 0)) here (no-zero (is_ticker script t) d calm)

brings-period : (script : Script) (s : State) (e : Entry) → May script s e → IfSome (change_of e).timer (λ (x : ℕ × Setting). BringsPeriod script s (change_of e).mover x.0 x.1)
brings-period script s (Entry.New g t due) may =
    brings script s g t may.0 (Instr.New t may.0) may.1.stands refl (neither _ (zero_ticker script t may.0) (calm-fault script s g (Instr.New t may.0) may.1)).1
brings-period script s (Entry.Reset g t was due) may =
    brings script s g t may.0 (Instr.Reset t may.0) may.1.stands refl (neither _ (zero_ticker script t may.0) (calm-fault script s g (Instr.Reset t may.0) may.1)).1
brings-period script s (Entry.Stop g t was) may = tt
brings-period script s (Entry.TRecv p t due next) may = tt
brings-period script s (Entry.FireFunc t child) may = tt
brings-period script s _ may = tt

-- ---- one place changes

set-same : (timers : List (Option Timer)) (t : ℕ) (o : Option Timer) (r : Timer) → at (set timers t o) t ≡ Some r → o ≡ Some r
set-same [] t o r h = cc
set-same (x ∷ xs) zero o r h = h
set-same (x ∷ xs) (suc t) o r h = set-same xs t o r h

change-same : (timers : List (Option Timer)) (t : ℕ) (f : Option Timer → Option Timer) (r : Timer) → at (change timers t f) t ≡ Some r → f (at timers t) ≡ Some r
change-same [] t f r h = cc
change-same (x ∷ xs) zero f r h = h
change-same (x ∷ xs) (suc t) f r h = change-same xs t f r h

periods-but : (script : Script) (timers next : List (Option Timer)) (t : ℕ) → ((r : Timer) → at next t ≡ Some r → IsPeriod (is_ticker script t) r.period)
    → ((j : ℕ) → (j ≡ t → ⊥) → at next j ≡ at timers j) → ArePeriods script timers → ArePeriods script next
periods-but script timers next t own others all j r e =
    elim (cases_eq j t) [
      | inl is ↦ subst (λ j. IsPeriod (is_ticker script j) r.period) (sym is) (own r (subst (λ j. at next j ≡ Some r) is e))
      | inr n ↦ all j r (sym (others j n) ∙ e)
    ]

again-period : (due period : ℕ) (o : Option Timer) (r : Timer) → set_again due period o ≡ Some r → r.period ≡ period
again-period due period None r h = cc
again-period due period (Some q) r h = let is : record q { due = Some due; period = period } ≡ r = cc in sym (ap (λ (r : Timer). r.period) is)

ended-period : (script : Script) (timers : List (Option Timer)) (t : ℕ) (due : Option ℕ) (o : Option Timer) (r : Timer) → at timers t ≡ o → ArePeriods script timers → set_due due o ≡ Some r
    → IsPeriod (is_ticker script t) r.period
ended-period script timers t due None r e all h = cc
ended-period script timers t due (Some q) r e all h =
    let is : record q { due = due } ≡ r = cc in
    subst (IsPeriod (is_ticker script t)) (ap (λ (r : Timer). r.period) is) (all t q e)

periods-retimed : (script : Script) (s : State) (m : Option (ℕ × Move)) (t : ℕ) (timers : List (Option Timer)) (x : Setting) → BringsPeriod script s m t x
    → ArePeriods script timers → ArePeriods script (retimed script s m t timers x)
periods-retimed script s m t timers (Setting.Made due) brings all =
    let made : Timer = record { world = world_of s (number_of m); due = Some due; period = new_period script s (number_of m) t } in
    periods-but script timers (set timers t (Some made)) t
    (λ r e. (let same : made ≡ r = some-same made r (set-same timers t (Some made) r e) in subst (IsPeriod (is_ticker script t)) (ap (λ (r : Timer). r.period) same) brings))
    (λ j n. at-set_other timers t j (Some made) n) all
  where
    some-same : (a b : Timer) → Some a ≡ Some b → a ≡ b
    some-same a b h = cc
periods-retimed script s m t timers (Setting.SetAnew due) brings all =
    let period : ℕ = new_period script s (number_of m) t in
    periods-but script timers (change timers t (set_again due period)) t
    (λ r e. subst (IsPeriod (is_ticker script t)) (sym (again-period due period (at timers t) r (change-same timers t (set_again due period) r e))) brings)
    (λ j n. at-change_other timers t j (set_again due period) n) all
periods-retimed script s m t timers (Setting.Ended due) brings all =
    periods-but script timers (change timers t (set_due due)) t
    (λ r e. ended-period script timers t due (at timers t) r refl all (change-same timers t (set_due due) r e))
    (λ j n. at-change_other timers t j (set_due due) n) all

periods-with : (script : Script) (s : State) (m : Option (ℕ × Move)) (timers : List (Option Timer)) (o : Option (ℕ × Setting)) → IfSome o (λ (x : ℕ × Setting). BringsPeriod script s m x.0 x.1)
    → ArePeriods script timers → ArePeriods script (with_retimed script s m timers o)
periods-with script s m timers None h all = all
periods-with script s m timers (Some x) h all = periods-retimed script s m x.0 timers x.1 h all

pub periods-entered : (script : Script) (s : State) (e : Entry) → May script s e → ArePeriods script s.timers
    → ArePeriods script (with_retimed script s (change_of e).mover s.timers (change_of e).timer)
periods-entered script s e may all = periods-with script s (change_of e).mover s.timers (change_of e).timer (brings-period script s e may) all

none-made : (decls : List Decl) (t : ℕ) (timer : Option Timer) → timer ≡ None → (r : Timer) → at (map (λ (d : Decl). timer) decls) t ≡ Some r → ⊥
none-made [] t timer is r e = cc
none-made (d ∷ ds) zero timer is r e = cc
none-made (d ∷ ds) (suc i) timer is r e = none-made ds i timer is r e

pub periods-first : (script : Script) → ArePeriods script (first_state script).timers
periods-first script t r e = absurd (none-made script.decls t None refl r e)
