-- A book whose schedule changes, and one that ends, keep what a book keeps.
use Rattle.std.proofs.Common.{◌≡◌, ℕ, List, [], ◌∷◌, sym, subst, ◌∙◌, Option, None, Some, IfSome, IfNone, slice_get}
use Rattle.gt_model.specs.declared.entry.Entry.{Entry}
use Rattle.gt_model.specs.declared.entry.Outcome.{Outcome}
use Rattle.gt_rules.specs.Finish.{IsIdle}
use Rattle.gt_rules.specs.Counted.{counted}
use Rattle.gt_facts.proofs.Formed.{formed-finish}
use Rattle.gt_book.specs.declared.book.Book.TheInside.{Inside}
use Rattle.gt_schedule.specs.declared.scheduler.Scheduler.{Scheduler}
use Rattle.gt_machine.specs.Machine.{state_of}
use Rattle.gt_schedule.specs.Schedule.{Schedule, taken}
use Rattle.gt_schedule.specs.Scheduler.{schedule_of, capacity, IsScheduler}
use Rattle.gt_schedule.proofs.Moving.{first-queued}
use Rattle.gt_rules.specs.Change.{change_of}
use Rattle.gt_book.specs.View.{BookView, IsLawful, Fits, NoneFirm, with_entries, with_schedule, outcome_of}
use Rattle.gt_book.specs.Book.{seen, IsKept}
use Rattle.gt_book.specs.Calm.{IsCalm}
use Rattle.gt_book.proofs.Calm.{calm-taken}
use Rattle.gt_book.proofs.Entering.{running-none, sound-more, sound-lawful, lawful-sound}
use Rattle.gt_book.specs.declared.run.Run.{Run}
use Rattle.gt_book.proofs.Books.{Finished, seen-finished, finished-rooms}
use Rattle.gt_book.proofs.Fitting.{fits-taken, fits-changed, rightly-finish}

-- ---- another schedule

lawful-scheduled : (v : BookView) (m : Schedule) → IsLawful v → Fits v.script v.state m → (outcome_of v ≡ None → NoneFirm (with_schedule v m)) → IsLawful (with_schedule v m)
lawful-scheduled v m lawful fits calm = record {
  good = lawful.good;
  limits = lawful.limits;
  legal = lawful.legal;
  reached = lawful.reached;
  goes = lawful.goes;
  formed = lawful.formed;
  fits = fits;
  calm = calm;
}

abbrev pub with_scheduler : Inside → Scheduler → Inside
with_scheduler b m = record { script = b.script; limits = b.limits; run = record { history = b.run.history; machine = b.run.machine; scheduler = m; waking = b.run.waking } }

pub kept-scheduled : (b : Inside) (m : Scheduler) (schedule : Schedule) → IsKept b → schedule_of m ≡ schedule → Fits b.script (state_of b.run.machine) schedule
    → (outcome_of (seen b) ≡ None → IsCalm b.script (state_of b.run.machine) schedule) → capacity m ≡ capacity b.run.scheduler → IsScheduler m → IsKept (with_scheduler b m)
kept-scheduled b m schedule kept is fits calm places scheduler = record {
  lawful = lawful-scheduled (seen b) (schedule_of m) kept.lawful (subst (Fits b.script (state_of b.run.machine)) (sym is) fits)
      (λ running. subst (IsCalm b.script (state_of b.run.machine)) (sym is) (calm running));
  rooms = record {
    history = kept.rooms.history;
    goroutines = kept.rooms.goroutines;
    channels = kept.rooms.channels;
    contexts = kept.rooms.contexts;
    waking = record { room = kept.rooms.waking.room };
    schedule = places ∙ kept.rooms.schedule;
    scheduler = scheduler;
    entries = kept.rooms.entries;
  };
}

-- marks are nobody's status, and stand in no list
pub kept-marked : (b : Inside) (m : Scheduler) (marks : List (List ℕ)) → IsKept b → schedule_of m ≡ record (schedule_of b.run.scheduler) { marks = marks }
    → capacity m ≡ capacity b.run.scheduler → IsScheduler m → IsKept (with_scheduler b m)
kept-marked b m marks kept is places scheduler =
    let fits : Fits b.script (state_of b.run.machine) (schedule_of b.run.scheduler) = kept.lawful.fits in
    kept-scheduled b m (record (schedule_of b.run.scheduler) { marks = marks }) kept is
    (record {
      as_many = fits.as_many;
      mutexes = fits.mutexes;
      receivers = fits.receivers;
      senders = fits.senders;
      agree = fits.agree;
      queued = fits.queued;
      waiting = fits.waiting;
      sending = fits.sending;
    })
    (λ running g waits. kept.lawful.calm running g waits) places scheduler

-- a goroutine was taken, or none was
pub kept-taken : (b : Inside) (m : Scheduler) (result : Option ℕ) → IsKept b → result ≡ slice_get (schedule_of b.run.scheduler).run_queue 0
    → IfNone result (m ≡ b.run.scheduler) → IfSome result (λ g. schedule_of m ≡ taken (schedule_of b.run.scheduler) g)
    → capacity m ≡ capacity b.run.scheduler → IsScheduler m → IsKept (with_scheduler b m)
kept-taken b m None kept first unchanged schedule places scheduler = subst (λ (m : Scheduler). IsKept (with_scheduler b m)) (sym unchanged) kept
kept-taken b m (Some g) kept first unchanged schedule places scheduler =
    kept-scheduled b m (taken (schedule_of b.run.scheduler) g) kept schedule
    (fits-taken b.script (state_of b.run.machine) (schedule_of b.run.scheduler) g kept.lawful.fits (sym first))
    (λ running. calm-taken b.script (state_of b.run.machine) (schedule_of b.run.scheduler) g (first-queued (schedule_of b.run.scheduler) g kept.lawful.fits.queued (sym first)) (kept.lawful.calm running))
    places scheduler

-- ---- the end in a deadlock

pub lawful-deadlock : (v : BookView) → IsLawful v → outcome_of v ≡ None → IsIdle v.script v.state → counted v.script v.state 0 ≡ []
    → IsLawful (with_entries v (Entry.Finish Outcome.Deadlock ∷ []))
lawful-deadlock v lawful none idle uncounted =
    lawful-sound (with_entries v (Entry.Finish Outcome.Deadlock ∷ []))
    (sound-more v (Entry.Finish Outcome.Deadlock) (sound-lawful v lawful) (running-none v lawful none, idle, uncounted)
    (formed-finish v.script v.state Outcome.Deadlock lawful.formed)
    (fits-changed v.script v.state v.schedule (change_of (Entry.Finish Outcome.Deadlock)) (rightly-finish v.script v.state Outcome.Deadlock lawful.good lawful.formed) lawful.fits (tt, tt)))
    tt (λ none. cc)

abbrev pub ended : Inside → Run → Inside
ended b run = record { script = b.script; limits = b.limits; run = run }

pub seen-deadlock : (b : Inside) (run : Run) → Finished b.script Outcome.Deadlock b.run run → seen (ended b run) ≡ with_entries (seen b) (Entry.Finish Outcome.Deadlock ∷ [])
seen-deadlock b run ends = seen-finished b.script b.limits Outcome.Deadlock b.run run ends

pub kept-deadlock : (b : Inside) (run : Run) → IsKept b → outcome_of (seen b) ≡ None → IsIdle b.script (state_of b.run.machine) → counted b.script (state_of b.run.machine) 0 ≡ []
    → Finished b.script Outcome.Deadlock b.run run → IsKept (ended b run)
kept-deadlock b run kept none idle uncounted ends = record {
  lawful = subst IsLawful (sym (seen-deadlock b run ends)) (lawful-deadlock (seen b) kept.lawful none idle uncounted);
  rooms = finished-rooms b.script b.limits Outcome.Deadlock b.run run kept.rooms none ends;
}
