-- A book in which whoever is in a worker's hand goes back to the run queue keeps what a book keeps.
use Rattle.std.proofs.Common.{◌≡◌, suc, List, [], ◌∷◌, length, map, Option, Some, None, ◌&&◌, refl, sym, ap, subst, ◌∙◌}
use Rattle.std.specs.Option.{option_map}
use Rattle.gt_model.specs.declared.script.Script.{Script}
use Rattle.gt_model.specs.declared.state.Mode.{Mode}
use Rattle.gt_rules.specs.State.{State}
use Rattle.gt_machine.specs.Machine.{state_of}
use Rattle.gt_schedule.specs.declared.status.RunStatus.{RunStatus}
use Rattle.gt_schedule.specs.declared.scheduler.Scheduler.{Scheduler}
use Rattle.gt_schedule.specs.Counts.{as_number}
use Rattle.gt_schedule.specs.Schedule.{Schedule, status_of, back_in_queue, given_back}
use Rattle.gt_schedule.specs.Scheduler.{schedule_of, capacity, IsScheduler, IsOrderly}
use Rattle.gt_schedule.proofs.Back.{status-given, parked-given}
use Rattle.gt_book.specs.declared.book.Book.TheInside.{Inside}
use Rattle.gt_rules.specs.Operations.{receives_from, sends_to}
use Rattle.gt_book.specs.View.{Fits, Agrees, wants}
use Rattle.gt_book.specs.Book.{IsKept}
use Rattle.gt_book.specs.Calm.{IsCalm}
use Rattle.gt_book.proofs.Calm.{calm-scheduled}
use Rattle.gt_book.proofs.Scheduled.{with_scheduler, kept-scheduled}

as_many-back : (xs : List RunStatus) → length (map back_in_queue xs) ≡ length xs
as_many-back [] = refl
as_many-back (x ∷ xs) = ap suc (as_many-back xs)

-- who is to be taken stands where one in hand did
agrees-back : (mode : Mode) (x : RunStatus) → Agrees mode x → Agrees mode (back_in_queue x)
agrees-back mode RunStatus.Queued h = h
agrees-back Mode.At RunStatus.InHand h = tt
agrees-back (Mode.Sleeping until) RunStatus.InHand h = absurd h
agrees-back (Mode.Suspended k) RunStatus.InHand h = absurd h
agrees-back (Mode.Relocking k) RunStatus.InHand h = absurd h
agrees-back Mode.Ended RunStatus.InHand h = absurd h
agrees-back mode (RunStatus.Parked since) h = h
agrees-back mode RunStatus.Ended h = h

record WasStatus (o : Option RunStatus) (status : RunStatus) : Type 0 where
  was : RunStatus
  there : o ≡ Some was
  now : back_in_queue was ≡ status

was-status : (o : Option RunStatus) (status : RunStatus) → option_map back_in_queue o ≡ Some status → WasStatus o status
was-status None status e = cc
was-status (Some x) status e = record { was = x; there = refl; now = cc }

fits-given : (script : Script) (s : State) (m : Schedule) → Fits script s m → IsOrderly (given_back m) → Fits script s (given_back m)
fits-given script s m fits orderly = record {
  as_many = as_many-back m.statuses ∙ fits.as_many;
  mutexes = fits.mutexes;
  receivers = fits.receivers;
  senders = fits.senders;
  agree = λ g r status there is.
      let w : WasStatus (status_of m g) status = was-status (status_of m g) status (sym (status-given m g) ∙ is) in
      subst (λ (x : RunStatus). Agrees r.mode x) w.now (agrees-back r.mode w.was (fits.agree g r w.was there w.there));
  queued = orderly.queued;
  waiting = λ t p h. fits.waiting t p h ∙ ap (λ b. as_number (b && wants script s p (receives_from t))) (sym (parked-given m p.g));
  sending = λ c p h. fits.sending c p h ∙ ap (λ b. as_number (b && wants script s p (sends_to c))) (sym (parked-given m p.g));
}

calm-given : (script : Script) (s : State) (m : Schedule) → IsCalm script s m → IsCalm script s (given_back m)
calm-given script s m calm = calm-scheduled script s m (given_back m) (λ g waits. sym (parked-given m g) ∙ waits) calm

pub kept-given : (b : Inside) (m : Scheduler) → IsKept b → schedule_of m ≡ given_back (schedule_of b.run.scheduler) → IsOrderly (schedule_of m) → capacity m ≡ capacity b.run.scheduler
    → IsScheduler m → IsKept (with_scheduler b m)
kept-given b m kept is orderly places scheduler =
    kept-scheduled b m (given_back (schedule_of b.run.scheduler)) kept is
    (fits-given b.script (state_of b.run.machine) (schedule_of b.run.scheduler) kept.lawful.fits (subst IsOrderly is orderly))
    (λ running. calm-given b.script (state_of b.run.machine) (schedule_of b.run.scheduler) (kept.lawful.calm running))
    places scheduler
