-- A run under way with one more entry is under way, and with the finish that is due then its book is lawful.
use Rattle.std.proofs.Common.{cond, ◌≡◌, ◌≢◌, ◌+◌, ◌<◌, ◌≤◌, List, [], ◌∷◌, refl, sym, ap, subst, ◌∙◌, arith, append_assoc, append-nil, ◌++◌, ◌==◌, eqb, if◌then◌else◌, Option, None, Some, Bool, true, false, MatchOption}
use Rattle.std.proofs.lemmas.Bool.{eqb-false, eqb-true}
use Rattle.gt_model.specs.declared.script.Script.{Script}
use Rattle.gt_model.specs.declared.entry.Entry.{Entry}
use Rattle.gt_model.specs.declared.entry.Limits.{Limits}
use Rattle.gt_model.specs.declared.entry.Outcome.{Outcome}
use Rattle.gt_model.specs.declared.state.Ending.{Ending}
use Rattle.gt_rules.specs.State.{State}
use Rattle.gt_rules.specs.After.{option_or, after, first_state}
use Rattle.gt_rules.specs.Legal.{May}
use Rattle.gt_rules.specs.Finish.{Legal, IsRunning, Finishes}
use Rattle.gt_rules.specs.History.{AllLegal, state_after}
use Rattle.gt_facts.specs.Formed.{IsFormed}
use Rattle.gt_facts.proofs.Histories.{AllLegal-append, state_after-append}
use Rattle.gt_facts.proofs.Formed.{formed-after, formed-finish}
use Rattle.gt_schedule.specs.Schedule.{Schedule, scheduled, schedule_after, Served}
use Rattle.gt_book.specs.View.{BookView, IsLawful, Fits, NoneFirm, AreWoken, with_entries, outcome_of}
use Rattle.gt_book.specs.Run.{IsSound, IsUnderWay}
use Rattle.gt_machine.specs.Outcomes.{due_outcome, outcome_in}
use Rattle.gt_rules.specs.Change.{change_of}
use Rattle.gt_book.proofs.Fitting.{fits-changed, fits-entered, rightly-finish}

-- an entry that may come while the run goes on is legal
pub legal-May : (script : Script) (limits : Limits) (s : State) (e : Entry) → IsRunning limits s → May script s e → Legal script limits s e
legal-May script limits s (Entry.Finish outcome) running may = absurd may
legal-May script limits s _ running may = (running, may)

-- an entry that may come is counted, and ends no run by itself
pub record IsCounted (script : Script) (s : State) (e : Entry) : Type 0 where
  pub more : (after script s e).entries ≡ s.entries + 1
  pub unfinished : (outcome : Outcome) → s.ending ≡ Ending.Running → (after script s e).ending ≡ Ending.Finished outcome → ⊥

cond_ending : (b : Bool) (ending : Ending) (outcome : Outcome) → ending ≡ Ending.Running → option_or ending (cond b (Some Ending.MainEnded) None) ≡ Ending.Finished outcome → ⊥
cond_ending true ending outcome is e = cc
cond_ending false ending outcome is e = cc

pub counted-May : (script : Script) (s : State) (e : Entry) → May script s e → IsCounted script s e
counted-May script s (Entry.End g) may = record { more = refl; unfinished = λ outcome is e. cond_ending (eqb g 1) s.ending outcome is e }
counted-May script s (Entry.Finish outcome) may = absurd may
counted-May script s _ may = record { more = refl; unfinished = λ outcome is e. cc }

pub lawful-sound : (b : BookView) → IsSound b → MatchOption (outcome_of b) (IsRunning b.limits b.state) (λ outcome. Unit {0}) → (outcome_of b ≡ None → NoneFirm b) → IsLawful b
lawful-sound b sound goes calm = record {
  good = sound.good;
  limits = sound.limits;
  legal = sound.legal;
  reached = sound.reached;
  goes = goes;
  formed = sound.formed;
  fits = sound.fits;
  calm = calm;
}

-- one more entry
pub sound-more : (b : BookView) (e : Entry) → IsSound b → Legal b.script b.limits b.state e → IsFormed b.script (after b.script b.state e)
    → Fits b.script (after b.script b.state e) (scheduled b.schedule e) → IsSound (with_entries b (e ∷ []))
sound-more b e sound legal formed fits = record {
  good = sound.good;
  limits = sound.limits;
  legal = AllLegal-append b.script b.limits (first_state b.script) b.history e sound.legal (subst (λ (s : State). Legal b.script b.limits s e) (sym sound.reached) legal);
  reached = state_after-append b.script (first_state b.script) b.history e ∙ ap (λ (s : State). after b.script s e) sound.reached;
  formed = formed;
  fits = fits;
}

-- where no outcome is due the run goes on
goes_on : (limits : Limits) (s : State) → s.entries ≤ limits.entries → ((outcome : Outcome) → s.ending ≡ Ending.Finished outcome → ⊥) → due_outcome limits s ≡ None → IsRunning limits s
goes_on limits s few unfinished none =
    elim s.ending as (λ (ending : Ending). s.ending ≡ ending
    → (elim ending as (λ x. Option Outcome) [
      | Ending.MainEnded ↦ Some Outcome.Exit
      | Ending.Panicked ↦ Some Outcome.Panic
      | Ending.Running ↦ if s.entries == limits.entries then Some Outcome.Limit else None
      | Ending.Finished outcome ↦ None
    ]) ≡ None → IsRunning limits s) [
      | Ending.Running ↦ λ is e. record { ending = is; room = below (s.entries == limits.entries) refl e }
      | Ending.MainEnded ↦ λ is e. cc_absurd e
      | Ending.Panicked ↦ λ is e. cc_absurd e
      | Ending.Finished outcome ↦ λ is e. absurd (unfinished outcome is)
    ] refl none
  where
    below : (b : Bool) → (s.entries == limits.entries) ≡ b → (if b then Some Outcome.Limit else None) ≡ None → s.entries < limits.entries
    below true q e = cc
    below false q e = let apart : s.entries ≢ limits.entries = eqb-false s.entries limits.entries q in omega arith

    cc_absurd : {o : Outcome} → Some o ≡ None → IsRunning limits s
    cc_absurd {o} e = cc

-- an outcome that is due may come
due-Finishes : (script : Script) (limits : Limits) (s : State) (outcome : Outcome) → due_outcome limits s ≡ Some outcome → Finishes script limits s outcome
due-Finishes script limits s outcome due =
    elim s.ending as (λ (ending : Ending). s.ending ≡ ending
    → (elim ending as (λ x. Option Outcome) [
      | Ending.MainEnded ↦ Some Outcome.Exit
      | Ending.Panicked ↦ Some Outcome.Panic
      | Ending.Running ↦ if s.entries == limits.entries then Some Outcome.Limit else None
      | Ending.Finished outcome ↦ None
    ]) ≡ Some outcome → Finishes script limits s outcome) [
      | Ending.MainEnded ↦ λ is e. let same : Outcome.Exit ≡ outcome = cc in subst (λ o. Finishes script limits s o) same is
      | Ending.Panicked ↦ λ is e. let same : Outcome.Panic ≡ outcome = cc in subst (λ o. Finishes script limits s o) same is
      | Ending.Running ↦ λ is e. limited (s.entries == limits.entries) refl is e
      | Ending.Finished done ↦ λ is e. none_some e
    ] refl due
  where
    limited : (b : Bool) → (s.entries == limits.entries) ≡ b → s.ending ≡ Ending.Running → (if b then Some Outcome.Limit else None) ≡ Some outcome → Finishes script limits s outcome
    limited true q is e =
        let same : Outcome.Limit ≡ outcome = cc in
        subst (λ o. Finishes script limits s o) same (is, eqb-true s.entries limits.entries q)
    limited false q is e = cc

    none_some : {o : Outcome} → None ≡ Some o → Finishes script limits s outcome
    none_some {o} e = cc

pub sound-lawful : (b : BookView) → IsLawful b → IsSound b
sound-lawful b lawful = record {
  good = lawful.good;
  limits = lawful.limits;
  legal = lawful.legal;
  reached = lawful.reached;
  formed = lawful.formed;
  fits = lawful.fits;
}

pub running-none : (b : BookView) → IsLawful b → outcome_of b ≡ None → IsRunning b.limits b.state
running-none b lawful none =
    subst (λ (o : Option Outcome). MatchOption o (IsRunning b.limits b.state) (λ outcome. Unit {0})) none lawful.goes

-- ---- a run under way

pub way-lawful : (b : BookView) → IsLawful b → outcome_of b ≡ None → IsUnderWay b
way-lawful b lawful none =
    let running : IsRunning b.limits b.state = running-none b lawful none in
    let room : b.state.entries < b.limits.entries = running.room in
    record { sound = sound-lawful b lawful; few = omega arith; unfinished = none }

unfinished-none : (ending : Ending) → ((outcome : Outcome) → ending ≡ Ending.Finished outcome → ⊥) → outcome_in ending ≡ None
unfinished-none Ending.Running h = refl
unfinished-none Ending.MainEnded h = refl
unfinished-none Ending.Panicked h = refl
unfinished-none (Ending.Finished outcome) h = absurd (h outcome refl)

none-unfinished : (ending : Ending) → outcome_in ending ≡ None → (outcome : Outcome) → ending ≡ Ending.Finished outcome → ⊥
none-unfinished ending none outcome is = let some : outcome_in ending ≡ Some outcome = ap outcome_in is in cc

-- with an entry that may come it is under way still
pub way-more : (b : BookView) (e : Entry) → IsUnderWay b → IsRunning b.limits b.state → May b.script b.state e → Served b.schedule e → IsUnderWay (with_entries b (e ∷ []))
way-more b e way running may served =
    let counted : IsCounted b.script b.state e = counted-May b.script b.state e may in
    let legal : Legal b.script b.limits b.state e = legal-May b.script b.limits b.state e running may in
    let more : (after b.script b.state e).entries ≡ b.state.entries + 1 = counted.more in
    let room : b.state.entries < b.limits.entries = running.room in
    record {
      sound = sound-more b e way.sound legal (formed-after b.script b.state e way.sound.good way.sound.formed may)
          (fits-entered b.script b.state b.schedule e way.sound.good way.sound.formed may way.sound.fits served);
      few = omega arith;
      unfinished = unfinished-none (after b.script b.state e).ending (λ outcome. counted.unfinished outcome running.ending);
    }

-- where no outcome is due it goes on
pub way-running : (b : BookView) → IsUnderWay b → due_outcome b.limits b.state ≡ None → IsRunning b.limits b.state
way-running b way none = goes_on b.limits b.state way.few (none-unfinished b.state.ending way.unfinished) none

pub lawful-way : (b : BookView) → IsUnderWay b → due_outcome b.limits b.state ≡ None → NoneFirm b → IsLawful b
lawful-way b way none calm =
    let running : IsRunning b.limits b.state = way-running b way none in
    lawful-sound b way.sound
    (subst (λ (ending : Ending). MatchOption (outcome_in ending) (IsRunning b.limits b.state) (λ outcome. Unit {0})) (sym running.ending) running)
    (λ none. calm)

-- where one is due, the book that ends with it is lawful
pub lawful-finishes : (b : BookView) (outcome : Outcome) → IsUnderWay b → due_outcome b.limits b.state ≡ Some outcome → IsLawful (with_entries b (Entry.Finish outcome ∷ []))
lawful-finishes b outcome way due =
    let finished : IsSound (with_entries b (Entry.Finish outcome ∷ [])) =
    sound-more b (Entry.Finish outcome) way.sound (due-Finishes b.script b.limits b.state outcome due)
    (formed-finish b.script b.state outcome way.sound.formed)
    (fits-changed b.script b.state b.schedule (change_of (Entry.Finish outcome)) (rightly-finish b.script b.state outcome way.sound.good way.sound.formed) way.sound.fits (tt, tt)) in
    lawful-sound (with_entries b (Entry.Finish outcome ∷ [])) finished tt (λ none. cc)

-- ---- entries one after another

pub state_after-more : (script : Script) (s : State) (h k : List Entry) → state_after script s (h ++ k) ≡ state_after script (state_after script s h) k
state_after-more script s [] k = refl
state_after-more script s (x ∷ h) k = state_after-more script (after script s x) h k

schedule_after-more : (m : Schedule) (h k : List Entry) → schedule_after m (h ++ k) ≡ schedule_after (schedule_after m h) k
schedule_after-more m [] k = refl
schedule_after-more m (x ∷ h) k = schedule_after-more (scheduled m x) h k

pub no-entries : (b : BookView) → b ≡ with_entries b []
no-entries b = ap (λ h. record { script = b.script; limits = b.limits; history = h; state = b.state; schedule = b.schedule }) (sym (append-nil b.history))

pub with_entries-more : (b : BookView) (h k : List Entry) → with_entries (with_entries b h) k ≡ with_entries b (h ++ k)
with_entries-more b h k =
    ap (λ x. record { script = b.script; limits = b.limits; history = x; state = state_after b.script (state_after b.script b.state h) k; schedule = schedule_after (schedule_after b.schedule h) k })
    (append_assoc b.history h k)
    ∙ (ap (λ x. record { script = b.script; limits = b.limits; history = b.history ++ (h ++ k); state = x; schedule = schedule_after (schedule_after b.schedule h) k })
    (sym (state_after-more b.script b.state h k))
    ∙ ap (λ x. record { script = b.script; limits = b.limits; history = b.history ++ (h ++ k); state = state_after b.script b.state (h ++ k); schedule = x })
    (sym (schedule_after-more b.schedule h k)))

pub all_legal-more : (script : Script) (limits : Limits) (s : State) (h k : List Entry) → AllLegal script limits s h → AllLegal script limits (state_after script s h) k → AllLegal script limits s (h ++ k)
all_legal-more script limits s [] k all next = next
all_legal-more script limits s (x ∷ h) k all next = (all.0, all_legal-more script limits (after script s x) h k all.1 next)

pub woken-more : (script : Script) (s : State) (m : Schedule) (h k : List Entry) → AreWoken script s m h → AreWoken script (state_after script s h) (schedule_after m h) k → AreWoken script s m (h ++ k)
woken-more script s m [] k all next = next
woken-more script s m (x ∷ h) k all next = (all.0, woken-more script (after script s x) (scheduled m x) h k all.1 next)
