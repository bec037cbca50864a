-- What follows from a schedule that fits its state: who is queued, and who waits longest.
use Rattle.std.proofs.Common.{◌≡◌, ◌≢◌, ℕ, zero, suc, ◌+◌, ◌<◌, ◌≤◌, List, [], length, drop, refl, sym, ap, subst, ◌∙◌, arith, slice_get, Some, Bool, true, false, inl, inr}
use Rattle.std.proofs.lemmas.Bool.{cases_lt}
use Rattle.std.proofs.lemmas.List.{get_or_past, length-replicate}
use Rattle.gt_model.specs.declared.script.Script.{Script}
use Rattle.gt_model.specs.declared.entry.Party.{Party}
use Rattle.gt_model.specs.declared.state.Mode.{Mode}
use Rattle.gt_model.proofs.Changes.{length-change_numbered}
use Rattle.gt_model.proofs.Items.{numbered-change_same, numbered-change_other, HasNumber}
use Rattle.gt_rules.specs.State.{State, goroutine_at}
use Rattle.gt_rules.specs.After.{first_state, begun}
use Rattle.gt_rules.specs.Operations.{receives_from, sends_to}
use Rattle.gt_facts.proofs.Lookups.{Asleep}
use Rattle.gt_schedule.specs.declared.status.RunStatus.{RunStatus}
use Rattle.gt_schedule.specs.Counts.{as_number, times, often}
use Rattle.gt_schedule.specs.Schedule.{Schedule, first_schedule, status_of, is_queued, is_parked, parties_at, taken}
use Rattle.gt_schedule.specs.Scheduler.{IsOrderly}
use Rattle.gt_schedule.proofs.Lists.{times-one_other, times-first_same, times-first_other, often-first, nobody-there}
use Rattle.gt_schedule.proofs.Moving.{first-queued}
use Rattle.gt_book.specs.View.{Agrees, is_waiting, wants, is_parked_at, Fits}
use Rattle.gt_book.proofs.Changing.{party, FitsOne, fits-from_each, one-is, one-of, fits-changes, off}
pub use Rattle.gt_book.proofs.Changing.{has_goroutine, has_status, Known, known, fits-stays}
pub use Rattle.gt_book.proofs.Joining.{Waiter, Chooser, AreDeclared, object-declared, declared-cases, cases-statuses, fits-parked_at, fits-parked_cases}
pub use Rattle.gt_book.proofs.Turning.{unchanged, fits-moved, fits-both, fits-changed, fits-entered, rightly-May, rightly-finish, ChangesRightly}

-- ---- the first schedule

one-first : (script : Script) (g : ℕ) → FitsOne script (first_schedule script) g (goroutine_at (first_state script) g) (status_of (first_schedule script) g)
one-first script zero = record {
  agree = λ r x e f. cc;
  queued = refl;
  waiting = λ t n h. ap (often (party 0 n)) (nobody-there (length script.decls) t);
  sending = λ t n h. ap (often (party 0 n)) (nobody-there (length script.decls) t);
}
one-first script (suc zero) =
    one-of script (first_schedule script) 1 (begun script 0 script.main) RunStatus.Queued tt refl (λ t n h. ap (often (party 1 n)) (nobody-there (length script.decls) t))
    (λ t n h. ap (often (party 1 n)) (nobody-there (length script.decls) t))
one-first script (suc (suc i)) = record {
  agree = λ r x e f. cc;
  queued = times-one_other (suc (suc i)) 1 (λ e. absurd (omega arith));
  waiting = λ t n h. ap (often (party (suc (suc i)) n)) (nobody-there (length script.decls) t);
  sending = λ t n h. ap (often (party (suc (suc i)) n)) (nobody-there (length script.decls) t);
}

pub fits-first : (script : Script) → Fits script (first_state script) (first_schedule script)
fits-first script =
    fits-from_each script (first_state script) (first_schedule script) refl refl (length-replicate (length script.decls) []) (length-replicate (length script.decls) []) (one-first script)

-- ---- the run queue

pub none-queued : (script : Script) (s : State) (m : Schedule) → Fits script s m → m.run_queue ≡ [] → (g : ℕ) → status_of m g ≢ Some RunStatus.Queued
none-queued script s m fits e g h =
    let none : times g m.run_queue ≡ 0 = ap (times g) e in
    let one : as_number (is_queued (status_of m g)) ≡ 1 = ap (λ o. as_number (is_queued o)) h in
    let both : times g m.run_queue ≡ as_number (is_queued (status_of m g)) = fits.queued g in
    absurd (omega arith)

queued-agrees : (mode : Mode) → Agrees mode RunStatus.Queued → Agrees mode RunStatus.InHand
queued-agrees Mode.At h = h
queued-agrees (Mode.Sleeping until) h = absurd h
queued-agrees (Mode.Suspended k) h = absurd h
queued-agrees (Mode.Relocking k) h = absurd h
queued-agrees Mode.Ended h = absurd h

pub fits-taken : (script : Script) (s : State) (m : Schedule) (g : ℕ) → Fits script s m → slice_get m.run_queue 0 ≡ Some g → Fits script s (taken m g)
fits-taken script s m g fits e =
    let in_queue : status_of m g ≡ Some RunStatus.Queued = first-queued m g fits.queued e in
    let k : Known script s m g RunStatus.Queued = known script s m g RunStatus.Queued fits in_queue in
    let once : times g m.run_queue ≡ 1 = k.one.queued in
    let first : times g m.run_queue ≡ times g (drop 1 m.run_queue) + 1 = times-first_same g m.run_queue e in
    let no_more : times g (drop 1 m.run_queue) ≡ 0 = omega arith in
    fits-changes script s s m (taken m g) g fits
    (length-change_numbered m.statuses g (λ _. RunStatus.InHand) ∙ fits.as_many)
    refl
    refl
    refl
    (λ x n. refl)
    (λ x n. numbered-change_other m.statuses g x (λ _. RunStatus.InHand) n)
    (λ x n. times-first_other x g m.run_queue e n)
    (λ t p n. refl)
    (λ t p n. refl)
    (one-is script (taken m g) g (goroutine_at s g) (Some k.who) (status_of (taken m g) g) (Some RunStatus.InHand) k.there
    (numbered-change_same m.statuses g (λ _. RunStatus.InHand) RunStatus.Queued in_queue)
    (one-of script (taken m g) g k.who RunStatus.InHand (queued-agrees k.who.mode k.agrees) no_more k.one.waiting k.one.sending))

-- ---- who is parked

sleeping-parked : (mode : Mode) (until : ℕ) (x : RunStatus) → mode ≡ Mode.Sleeping until → Agrees mode x → is_parked (Some x) ≡ true
sleeping-parked (Mode.Sleeping now) until (RunStatus.Parked since) e h = refl
sleeping-parked (Mode.Sleeping now) until RunStatus.Queued e h = absurd h
sleeping-parked (Mode.Sleeping now) until RunStatus.InHand e h = absurd h
sleeping-parked (Mode.Sleeping now) until RunStatus.Ended e h = absurd h
sleeping-parked Mode.At until x e h = cc
sleeping-parked (Mode.Suspended k) until x e h = cc
sleeping-parked (Mode.Relocking k) until x e h = cc
sleeping-parked Mode.Ended until x e h = cc

pub asleep-parked : (script : Script) (s : State) (m : Schedule) (g : ℕ) → Fits script s m → Asleep s g → is_parked (status_of m g) ≡ true
asleep-parked script s m g fits a =
    let x : HasNumber m.statuses g = has_status script s m g a.who fits a.there in
    ap is_parked x.there ∙ sleeping-parked a.who.mode a.until x.item a.sleeps (fits.agree g a.who x.item a.there x.there)

pub orderly-fits : (script : Script) (s : State) (m : Schedule) → Fits script s m → IsOrderly m
orderly-fits script s m fits = record {
  queued = fits.queued;
  receivers = λ t p not_parked. listed m.receivers t p fits.receivers
      (λ h. fits.waiting t p h ∙ off (is_waiting m p.g) (wants script s p (receives_from t)) not_parked);
  senders = λ c p not_parked. listed m.senders c p fits.senders
      (λ h. fits.sending c p h ∙ off (is_waiting m p.g) (wants script s p (sends_to c)) not_parked);
}
  where
    listed : (lists : List (List Party)) (t : ℕ) (p : Party) → length lists ≡ length script.decls → (t < length script.decls → often p (parties_at lists t) ≡ 0)
        → often p (parties_at lists t) ≡ 0
    listed lists t p many inside =
        elim (cases_lt t (length script.decls)) [
          | inl h ↦ inside h
          | inr past ↦
              let beyond : length lists ≤ t = subst (λ n. n ≤ t) (sym many) past in
              ap (often p) (get_or_past lists t [] beyond)
        ]

positive : (b : Bool) → 0 < as_number b → b ≡ true
positive true h = refl
positive false h = absurd (omega arith)

no-number : (b : Bool) → as_number b ≡ 0 → b ≡ false
no-number true e = absurd (omega arith)
no-number false e = refl

-- who waits longest at a receive, or at a send, is parked there; where nobody stands there nobody is
pub first-waiting : (script : Script) (s : State) (m : Schedule) (p : Party) (t : ℕ) → Fits script s m → t < length script.decls → slice_get (parties_at m.receivers t) 0 ≡ Some p
    → is_parked_at script s m p (receives_from t) ≡ true
first-waiting script s m p t fits h e =
    positive (is_parked_at script s m p (receives_from t)) (subst (λ n. 0 < n) (fits.waiting t p h) (often-first p (parties_at m.receivers t) e))

pub first-sending : (script : Script) (s : State) (m : Schedule) (p : Party) (c : ℕ) → Fits script s m → c < length script.decls → slice_get (parties_at m.senders c) 0 ≡ Some p
    → is_parked_at script s m p (sends_to c) ≡ true
first-sending script s m p c fits h e =
    positive (is_parked_at script s m p (sends_to c)) (subst (λ n. 0 < n) (fits.sending c p h) (often-first p (parties_at m.senders c) e))

pub none-waiting : (script : Script) (s : State) (m : Schedule) (t : ℕ) → Fits script s m → t < length script.decls → parties_at m.receivers t ≡ [] → (p : Party)
    → is_parked_at script s m p (receives_from t) ≡ false
none-waiting script s m t fits h e p = no-number (is_parked_at script s m p (receives_from t)) (sym (fits.waiting t p h) ∙ ap (often p) e)

pub none-sending : (script : Script) (s : State) (m : Schedule) (c : ℕ) → Fits script s m → c < length script.decls → parties_at m.senders c ≡ [] → (p : Party)
    → is_parked_at script s m p (sends_to c) ≡ false
none-sending script s m c fits h e p = no-number (is_parked_at script s m p (sends_to c)) (sym (fits.sending c p h) ∙ ap (often p) e)
