-- The run that lets those go on who wait at the contexts that are noted.
use Rattle.std.proofs.Common.{◌≡◌, ℕ, ◌+◌, List, ◌<◌, ◌≤◌, ◌==◌, ◌||◌, ◌&&◌, [], ◌∷◌, ◌++◌, length, refl, sym, subst, ◌∙◌, arith, Option, None, Some, Bool, true, false, is_some, IsTrue}
use Rattle.std.specs.List.{list_any, AllByRecursion}
use Rattle.std.specs.List.Sorted.{IsPermutation}
use Rattle.std.specs.BinaryHeap.{heap_items, heap_len, heap_capacity}
use Rattle.std.proofs.lemmas.Bool.{eqb-true, eq-eqb}
use Rattle.gt_model.specs.declared.script.Script.{Script}
use Rattle.gt_model.specs.declared.entry.Entry.{Entry}
use Rattle.gt_model.specs.declared.entry.Limits.{Limits}
use Rattle.gt_model.specs.declared.entry.Outcome.{Outcome}
use Rattle.gt_model.specs.Script.{is_ctx}
use Rattle.gt_model.proofs.Declared.{ctx_declared}
use Rattle.gt_rules.specs.State.{State}
use Rattle.gt_rules.specs.Finish.{IsRunning}
use Rattle.gt_rules.specs.Change.{change_of}
use Rattle.gt_machine.specs.Machine.{state_of, ended_of, is_cut}
use Rattle.gt_machine.specs.Outcomes.{due_outcome}
use Rattle.gt_schedule.specs.Schedule.{Schedule}
use Rattle.gt_schedule.specs.Scheduler.{schedule_of}
use Rattle.gt_book.specs.declared.run.Run.{Run}
use Rattle.gt_book.specs.Calm.{IsCalm, IsCalmBut}
use Rattle.gt_book.specs.Cuts.{has_just_ended, CanWakeEnded}
use Rattle.gt_book.specs.Notes.{Notes, CanWakeNoted, Takes, is_noted, is_waited_at, since_at, notes_by}
use Rattle.gt_book.specs.Run.{seen_of, IsKeptRun, HasRooms, CanMake, Makes, Wakes}
use Rattle.gt_book.specs.View.{BookView}
use Rattle.gt_book.proofs.Calm.{calm_but-again}
use Rattle.gt_book.proofs.Entering.{way-running}
use Rattle.gt_book.proofs.Noting.{calm-less, nobody-there, noted-again, or-first, or-second}
use Rattle.gt_book.proofs.Runs.{Woke, HasLists, woke-first, woke-more, woke-calm, woke-due}
use Rattle.gt_book.proofs.Waking.{IsWoken, is-woken}

-- ---- the notes of a run

abbrev pub noting : Run → Notes → Run
noting r notes = record r { waking = notes }

-- which keeps its rooms
pub noting-rooms : (script : Script) (limits : Limits) (r : Run) (notes : Notes) → HasRooms script limits r → length script.decls ≤ heap_capacity notes → HasRooms script limits (noting r notes)
noting-rooms script limits r notes had room = record {
  history = had.history;
  goroutines = had.goroutines;
  channels = had.channels;
  contexts = had.contexts;
  waking = record { room = room };
  entries = had.entries;
  schedule = had.schedule;
  scheduler = had.scheduler;
}

pub noting-kept : (script : Script) (limits : Limits) (r : Run) (notes : Notes) → IsKeptRun script limits r → length script.decls ≤ heap_capacity notes → IsKeptRun script limits (noting r notes)
noting-kept script limits r notes kept room = record { way = kept.way; rooms = noting-rooms script limits r notes kept.rooms room }

-- ---- the contexts that ended last are noted

-- where somebody waits at one it is noted, and no other is
waited-ended : (m : Schedule) (xs : List ℕ) (o : ℕ) → is_waited_at m xs o ≡ true → list_any (λ x. x == o) xs ≡ true
waited-ended m [] o h = cc
waited-ended m (x ∷ xs) o h = first (x == o) (is_some (since_at m x)) (is_waited_at m xs o) (list_any (λ x. x == o) xs) (waited-ended m xs o) h
  where
    first : (a b c d : Bool) → (c ≡ true → d ≡ true) → (a && b || c) ≡ true → (a || d) ≡ true
    first true b c d rest h = refl
    first false b c d rest h = rest h

-- at one that is not nobody waits
ended-unwaited : (m : Schedule) (xs : List ℕ) (o : ℕ) → list_any (λ x. x == o) xs ≡ true → is_waited_at m xs o ≡ false → since_at m o ≡ None
ended-unwaited m [] o h out = cc
ended-unwaited m (x ∷ xs) o h out =
    elim (x == o) as (λ b. (x == o) ≡ b → (b || list_any (λ x. x == o) xs) ≡ true → (b && is_some (since_at m x) || is_waited_at m xs o) ≡ false → since_at m o ≡ None) [
      | true ↦ λ q k l. subst (λ o. since_at m o ≡ None) (eqb-true x o q) (none-first (since_at m x) (is_waited_at m xs o) l)
      | false ↦ λ q k l. ended-unwaited m xs o k l
    ] refl h out
  where
    none-first : (s : Option ℕ) (c : Bool) → (is_some s || c) ≡ false → s ≡ None
    none-first None c h = refl
    none-first (Some since) c h = cc

-- each of them has its list of those that wait
each-of : (P : ℕ → Type 0) (xs : List ℕ) → ((x : ℕ) → list_any (λ y. y == x) xs ≡ true → P x) → AllByRecursion P xs
each-of P [] h = tt
each-of P (x ∷ xs) h =
    (h x (or-first (x == x) (list_any (λ y. y == x) xs) (eq-eqb x x refl)), each-of P xs (λ y k. h y (or-second (x == y) (list_any (λ z. z == y) xs) k)))

pub ended-within : (script : Script) (limits : Limits) (r : Run) → CanWakeEnded script limits r
    → AllByRecursion (λ x. x < length (schedule_of r.scheduler).receivers) (ended_of r.machine)
ended-within script limits r can =
    each-of (λ x. x < length (schedule_of r.scheduler).receivers) (ended_of r.machine)
    (λ x h. subst (λ k. x < k) (sym can.kept.way.sound.fits.receivers) (ctx_declared script x (can.contexts x h)))

pub noted-can : (script : Script) (limits : Limits) (r : Run) (notes : Notes) → CanWakeEnded script limits r
    → ((o : ℕ) → is_noted (heap_items notes) o ≡ is_waited_at (schedule_of r.scheduler) (ended_of r.machine) o) → heap_len notes ≤ length (ended_of r.machine)
    → heap_capacity r.waking ≤ heap_capacity notes → CanWakeNoted script limits (noting r notes)
noted-can script limits r notes can noted few wider =
    let s : State = state_of r.machine in
    let m : Schedule = schedule_of r.scheduler in
    let had : length script.decls ≤ heap_capacity r.waking = can.kept.rooms.waking.room in
    let ended : length (ended_of r.machine) ≤ length script.decls = can.few in
    let room : length script.decls ≤ heap_capacity notes = omega arith in
    let contexts : (x : ℕ) → is_noted (heap_items notes) x ≡ true → IsTrue (is_ctx script x) =
    λ x h. can.contexts x (waited-ended m (ended_of r.machine) x (sym (noted x) ∙ h)) in
    record {
      kept = noting-kept script limits r notes can.kept room;
      noted = record {
        contexts = contexts;
        but = calm-less script s m (has_just_ended r) (is_noted (heap_items notes)) can.kept.way.sound.good can.kept.way.sound.formed can.kept.way.sound.fits can.but
            (λ o wide out.
            nobody-there script s m o can.kept.way.sound.good can.kept.way.sound.formed can.kept.way.sound.fits (can.contexts o wide)
            (ended-unwaited m (ended_of r.machine) o wide (sym (noted o) ∙ out)))
            (λ o h. ctx_declared script o (contexts o h));
        few = omega arith;
        room = room;
      };
    }

-- the same entries were made, whatever is noted
pub wakes-noted : (script : Script) (limits : Limits) (r new : Run) (notes : Notes) → Wakes script limits (noting r notes) new → Wakes script limits r new
wakes-noted script limits r new notes w = record { woken = w.woken; legal = w.legal; each_woken = w.each_woken; is = w.is; kept = w.kept; calm = w.calm }

-- ---- one after the other goes on

pub record WakingNoted (script : Script) (limits : Limits) (old now : Run) : Type 0 where
  pub woke : Woke script limits old now
  pub can : CanWakeNoted script limits now

pub noted-first : (script : Script) (limits : Limits) (r : Run) → CanWakeNoted script limits r → WakingNoted script limits r r
noted-first script limits r can = record { woke = woke-first script limits r r refl; can = can }

-- where nobody goes on any more
pub noted-done : (script : Script) (limits : Limits) (old now : Run) (notes : Notes) → WakingNoted script limits old now → length script.decls ≤ heap_capacity notes
    → IsCalm script (state_of now.machine) (schedule_of now.scheduler) → Wakes script limits old (noting now notes)
noted-done script limits old now notes w room calm =
    woke-calm script limits old (noting now notes) (woke-noting script limits old now notes w.woke) (noting-kept script limits now notes w.can.kept room) (λ due. calm)
  where
    woke-noting : (script : Script) (limits : Limits) (old now : Run) (notes : Notes) → Woke script limits old now → Woke script limits old (noting now notes)
    woke-noting script limits old now notes w = record { woken = w.woken; legal = w.legal; each_woken = w.each_woken; is = w.is }

pub noted-due : (script : Script) (limits : Limits) (old now : Run) (outcome : Outcome) → WakingNoted script limits old now → due_outcome limits (state_of now.machine) ≡ Some outcome
    → Wakes script limits old now
noted-due script limits old now outcome w due = woke-due script limits old now outcome w.woke w.can.kept due

-- one that is taken goes on
module _ (script : Script) (limits : Limits) (old now : Run) (w : WakingNoted script limits old now) (x : ℕ) (e : Entry) (mid : Notes)
    (takes : Takes script (state_of now.machine) (schedule_of now.scheduler) x e mid) (room : length script.decls ≤ heap_capacity mid)
    (none : due_outcome limits (state_of now.machine) ≡ None) where
  abbrev these : ℕ → Bool
  these = λ o. x == o || is_noted (heap_items mid) o

  goes : IsWoken script (state_of now.machine) (schedule_of now.scheduler) these e
  goes =
      is-woken script (state_of now.machine) (schedule_of now.scheduler) these x (or-first (x == x) (is_noted (heap_items mid) x) (eq-eqb x x refl)) w.can.kept.way.sound.good
      w.can.kept.way.sound.formed w.can.kept.way.sound.fits takes.but e takes.next

  running : IsRunning limits (state_of now.machine)
  running = way-running (seen_of script limits now) w.can.kept.way none

  pub taken-can : CanMake script limits (noting now mid) e
  taken-can = record { kept = noting-kept script limits now mid w.can.kept room; running = running; may = goes.may; served = goes.served }

  pub taken-alone : (change_of e).broadcast ≡ None
  taken-alone = goes.quiet

  pub taken-uncut : is_cut (change_of e).tree ≡ false
  taken-uncut = goes.uncut

  module _ (new : Run) (makes : Makes script limits (noting now mid) e new) where
    calm-then : IsCalmBut script (state_of new.machine) (schedule_of new.scheduler) these
    calm-then =
        subst (λ (b : BookView). IsCalmBut script b.state b.schedule these) (sym makes.is)
        (calm_but-again script (state_of now.machine) (schedule_of now.scheduler) e these w.can.kept.way.sound.good goes.may w.can.kept.way.sound.fits goes.served goes.here goes.alone goes.quiet takes.but)

    pub taken-lists : HasLists (schedule_of new.scheduler) x
    taken-lists =
        let within : x < length script.decls = ctx_declared script x takes.context in
        record {
          receivers = subst (λ k. x < k) (sym makes.kept.way.sound.fits.receivers) within;
          senders = subst (λ k. x < k) (sym makes.kept.way.sound.fits.senders) within;
        }

    pub taken-more : (notes : Notes) → IsPermutation (notes_by x (since_at (schedule_of new.scheduler) x) ++ heap_items mid) (heap_items notes) → heap_len notes ≤ heap_len mid + 1
        → heap_capacity mid ≤ heap_capacity notes → WakingNoted script limits old (noting new notes)
    taken-more notes same longer wider =
        let woke : Woke script limits old new =
        woke-more script limits old (noting now mid) new e running goes.may goes.woken
        (record { woken = w.woke.woken; legal = w.woke.legal; each_woken = w.woke.each_woken; is = w.woke.is }) makes in
        record {
          woke = record { woken = woke.woken; legal = woke.legal; each_woken = woke.each_woken; is = woke.is };
          can = record {
            kept = noting-kept script limits new notes makes.kept (omega arith);
            noted = noted-again script (state_of new.machine) (schedule_of new.scheduler) makes.kept.way.sound.good makes.kept.way.sound.formed makes.kept.way.sound.fits x mid notes takes.context
                takes.contexts same calm-then takes.few room longer wider;
          };
        }
