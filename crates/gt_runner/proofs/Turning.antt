-- A turn leaves less of the run.
use Rattle.std.proofs.Common.{◌≡◌, ℕ, ◌+◌, ◌-◌, ◌*◌, ◌<◌, ◌≤◌, add-one, refl, sym, ap, subst, ◌∙◌, arith, Some, length, inl, inr}
use Rattle.std.proofs.Math.Nat.{mul-le-mul_right, suc-mul}
use Rattle.std.proofs.lemmas.Bool.{cases_eq}
use Rattle.gt_book.specs.declared.answers.Pick.{Pick}
use Rattle.gt_schedule.specs.declared.status.RunStatus.{RunStatus}
use Rattle.gt_schedule.specs.Schedule.{status_of, taken, queued_count, most_goroutines}
use Rattle.gt_book.specs.Steps.{Takes}
use Rattle.gt_book.specs.View.{BookView, IsLawful, with_schedule}
use Rattle.gt_schedule.proofs.Moving.{first-queued}
use Rattle.gt_book.proofs.Passing.{taken-in_hand, taken-hands, taken-queued_count, queued_count-few}
use Rattle.gt_runner.specs.Run.{HandsFree, IsAlone, Passes, run_left}

pub taken-queued : (old new : BookView) (g : ℕ) → IsLawful old → Takes old (Pick.Run g) new → status_of old.schedule g ≡ Some RunStatus.Queued
taken-queued old new g lawful takes = first-queued old.schedule g lawful.fits.queued takes.0

pub alone-taken : (old new : BookView) (g : ℕ) → IsLawful old → HandsFree old → Takes old (Pick.Run g) new → IsAlone new g
alone-taken old new g lawful free takes =
    subst (λ (v : BookView). IsAlone v g) (sym takes.1) (record {
      in_hand = taken-in_hand old.schedule g (taken-queued old new g lawful takes);
      alone = λ h is. elim (cases_eq h g) [ inl e ↦ e | inr n ↦ absurd (free h (taken-hands old.schedule g h is n)) ];
    })

-- fewer rounds are left, whatever is queued
rounds : (a b k p q : ℕ) → b < a → q < k → b * k + q < a * k + p
rounds a b k p q h j =
    let more : (b + 1) * k ≤ a * k = mul-le-mul_right k (omega arith) in
    let split : (b + 1) * k ≡ b * k + k = (rw (add-one) (suc-mul b k)) in
    omega arith

longer-less : (old new : BookView) → new.script ≡ old.script → new.limits ≡ old.limits → length old.history < length new.history → length new.history ≤ new.limits.entries + 1
    → length new.schedule.statuses ≤ most_goroutines new.script new.limits → run_left new < run_left old
longer-less old new script limits longer few statuses =
    let left : ℕ = queued_count new.schedule in
    let most : ℕ = most_goroutines old.script old.limits in
    let same : new.limits.entries ≡ old.limits.entries = ap (λ l. l.entries) limits in
    let same_most : most_goroutines new.script new.limits ≡ most = ap (λ s. most_goroutines s new.limits) script ∙ ap (λ l. most_goroutines old.script l) limits in
    let queued : left ≤ length new.schedule.statuses = queued_count-few new.schedule in
    let now : run_left new ≡ (old.limits.entries + 1 - length new.history) * (most + 2) + left =
    ap (λ n. (n + 1 - length new.history) * (most_goroutines new.script new.limits + 2) + left) same
    ∙ ap (λ n. (old.limits.entries + 1 - length new.history) * (n + 2) + left) same_most in
    let few_left : left ≤ most = subst (λ n. left ≤ n) same_most (omega arith) in
    subst (λ n. n < run_left old) (sym now)
    (rounds (old.limits.entries + 1 - length old.history) (old.limits.entries + 1 - length new.history) (most + 2) (queued_count old.schedule) left (omega arith) (omega arith))

pub less-run : (old mid new : BookView) (g : ℕ) → IsLawful old → Takes old (Pick.Run g) mid → Passes mid new → length new.history ≤ new.limits.entries + 1
    → length new.schedule.statuses ≤ most_goroutines new.script new.limits → run_left new < run_left old
less-run old mid new g lawful takes passes few statuses =
    let here : Passes (with_schedule old (taken old.schedule g)) new = subst (λ (v : BookView). Passes v new) takes.1 passes in
    let one : queued_count (taken old.schedule g) + 1 ≡ queued_count old.schedule = taken-queued_count old.schedule g (taken-queued old mid g lawful takes) in
    elim here.goes [
      | inl longer ↦ longer-less old new here.script here.limits longer few statuses
      | inr same ↦
          let fewer : queued_count new.schedule + 1 ≡ queued_count old.schedule = ap (λ n. n + 1) same.1 ∙ one in
          let times : (new.limits.entries + 1 - length new.history) * (most_goroutines new.script new.limits + 2)
          ≡ (old.limits.entries + 1 - length old.history) * (most_goroutines old.script old.limits + 2) = rw (here.script, here.limits, same.0) refl in
          omega arith
    ]
