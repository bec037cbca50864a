-- A goroutine is taken, goes on, and a turn ends.
use Rattle.std.proofs.Common.{◌≡◌, ◌≢◌, ℕ, ◌+◌, ◌<◌, ◌≤◌, length, slice_get, refl, sym, ap, subst, ◌∙◌, arith, Option, None, Some, inl, inr}
use Rattle.gt_model.specs.Tables.{numbered}
use Rattle.gt_model.proofs.Changes.{length-change_numbered}
use Rattle.gt_model.proofs.Items.{numbered-change_other}
use Rattle.gt_schedule.specs.declared.status.RunStatus.{RunStatus}
use Rattle.gt_schedule.specs.Schedule.{Schedule, status_of, marks_at, taken, queued_count}
use Rattle.gt_book.specs.declared.answers.Pick.{Pick}
use Rattle.gt_book.specs.Steps.{Takes}
use Rattle.gt_book.specs.View.{BookView, IsLawful, outcome_of, with_schedule}
use Rattle.gt_book.proofs.Passing.{taken-in_hand}
use Rattle.gt_runner.specs.declared.runner.Runner.{Runner}
use Rattle.gt_runner.specs.Run.{IsAlone, Passes, Goes, hand, turn_left}
use Rattle.gt_runner.specs.Served.{MarkFits, awaited_by, IsServed}
use Rattle.gt_runner.specs.Serves.{IsTaken, ButMarks}
use Rattle.gt_runner.proofs.Tending.{number-stays}
use Rattle.gt_runner.proofs.Turning.{taken-queued}

-- who is taken may be counted still where it waited; all else is what it was
pub after-taken : (x : Runner) (new : BookView) (g : ℕ) → IsServed x → IsLawful x.book → length x.book.schedule.marks ≡ length x.book.schedule.statuses → Takes x.book (Pick.Run g) new
    → IsTaken (record x { book = new }) g
after-taken x new g served lawful many takes =
    let queued : status_of x.book.schedule g ≡ Some RunStatus.Queued = taken-queued x.book new g lawful takes in
    subst (λ (b : BookView). IsTaken (record x { book = b }) g) (sym takes.1) (record {
      but = record {
        tended = record {
          at = λ id. number-stays x.book (with_schedule x.book (taken x.book.schedule g)) x.heap x.heap x.noted x.noted id (slice_get x.records.items id)
              (record { script_is = refl; due = inl refl; ended = λ h. h; period = refl; count = refl; slot = refl; number_is = refl }) (λ w h. h) (served.tended.at id);
          declared = served.tended.declared;
          record_room = served.tended.record_room;
          heap_room = served.tended.heap_room;
        };
        marks = λ h n. subst (MarkFits (marks_at x.book.schedule h) (awaited_by x.book.script x.book.state h)) (sym (numbered-change_other x.book.schedule.statuses g h (λ _. RunStatus.InHand) n)) (served.marks h);
        named = λ h t k. served.named h t k;
      };
      marks_many = many ∙ sym (length-change_numbered x.book.schedule.statuses g (λ _. RunStatus.InHand));
      in_hand = taken-in_hand x.book.schedule g queued;
    })

-- ---- marks are nobody's turn

pub alone-marks : (b b' : BookView) (g : ℕ) → ButMarks b b' → IsAlone b g → IsAlone b' g
alone-marks b b' g but alone = subst (λ (v : BookView). IsAlone v g) (sym but.is) (record {
  in_hand = ap (λ ss. numbered ss g) but.statuses ∙ alone.in_hand;
  alone = λ h is. alone.alone h (sym (ap (λ ss. numbered ss h) but.statuses) ∙ is);
})

pub running-marks : (b b' : BookView) → ButMarks b b' → outcome_of b ≡ None → outcome_of b' ≡ None
running-marks b b' but e = ap outcome_of but.is ∙ e

pub passes-marks : (b b' new : BookView) → ButMarks b b' → Passes b' new → Passes b new
passes-marks b b' new but passes =
    let p : Passes (with_schedule b but.schedule) new = subst (λ (v : BookView). Passes v new) but.is passes in
    record {
      script = p.script;
      limits = p.limits;
      jumps = p.jumps;
      hands = p.hands;
      goes = elim p.goes [
        | inl longer ↦ inl longer
        | inr same ↦ inr (same.0, same.1 ∙ count but.schedule b.schedule but.statuses)
      ];
    }
  where
    count : (m m' : Schedule) → m.statuses ≡ m'.statuses → queued_count m ≡ queued_count m'
    count m m' e = ap (λ ss. Rattle.std.specs.List.count_by (λ (status : RunStatus). Rattle.gt_schedule.specs.Schedule.is_queued (Some status)) ss) e

-- ---- one call leaves less of a turn

hand-one : (o : Option RunStatus) → hand o ≤ 1
hand-one (Some RunStatus.InHand) = omega arith
hand-one (Some RunStatus.Queued) = omega arith
hand-one (Some (RunStatus.Parked since)) = omega arith
hand-one (Some RunStatus.Ended) = omega arith
hand-one None = omega arith

hand-none : (o : Option RunStatus) → o ≢ Some RunStatus.InHand → hand o ≡ 0
hand-none (Some RunStatus.InHand) n = absurd (n refl)
hand-none (Some RunStatus.Queued) n = refl
hand-none (Some (RunStatus.Parked since)) n = refl
hand-none (Some RunStatus.Ended) n = refl
hand-none None n = refl

pub less-turn : (old new : BookView) (g : ℕ) → status_of old.schedule g ≡ Some RunStatus.InHand → Goes g old new → length new.history ≤ new.limits.entries + 1 → turn_left g new < turn_left g old
less-turn old new g in_hand goes few =
    let entries : new.limits.entries ≡ old.limits.entries = ap (λ l. l.entries) goes.limits in
    let before : hand (status_of old.schedule g) ≡ 1 = ap hand in_hand in
    elim goes.goes [
      | inl longer ↦ (let after : hand (status_of new.schedule g) ≤ 1 = hand-one (status_of new.schedule g) in omega arith)
      | inr same ↦
          let after : hand (status_of new.schedule g) ≡ 0 = hand-none (status_of new.schedule g) same.2 in
          let long : length new.history ≡ length old.history = ap length same.0 in
          omega arith
    ]
