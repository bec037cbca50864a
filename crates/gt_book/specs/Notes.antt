-- What is noted of the contexts at which somebody is to go on: with when the one was parked who has waited longest there.
use Rattle.std.specs.Prelude.{ℕ, ◌≡◌, ◌<◌, ◌≤◌, ◌==◌, ◌||◌, ◌&&◌, nat_lt, Bool, true, false, IsTrue, List, [], ◌∷◌, length, slice_get, is_some}
use Rattle.std.specs.List.{list_any}
use Rattle.std.specs.Option.{option_map}
use Rattle.std.specs.BinaryHeap.{heap_items, heap_len, heap_capacity}
use Rattle.std.specs.declared.collections.binary_heap.BinaryHeap.{BinaryHeap}
use Rattle.std.specs.declared.alloc.Global.{Global}
use Rattle.std.specs.declared.cmp.Reverse.{Reverse}
use Rattle.std.specs.declared.option.Option.{Option}
use Rattle.std.specs.declared.option.Option.TheVariants.{None, Some}
use Rattle.gt_model.specs.declared.script.Script.{Script}
use Rattle.gt_model.specs.declared.entry.Entry.{Entry}
use Rattle.gt_model.specs.declared.entry.Party.{Party}
use Rattle.gt_model.specs.declared.entry.Limits.{Limits}
use Rattle.gt_model.specs.Script.{is_ctx}
use Rattle.gt_rules.specs.State.{State}
use Rattle.gt_machine.specs.Machine.{state_of}
use Rattle.gt_schedule.specs.Schedule.{Schedule, parties_at, since_of}
use Rattle.gt_schedule.specs.Scheduler.{schedule_of}
use Rattle.gt_book.specs.declared.run.Run.{Run}
use Rattle.gt_book.specs.Calm.{IsCalmBut}
use Rattle.gt_book.specs.Run.{IsKeptRun}
use Rattle.gt_book.specs.Woken.{next_woken}

-- when one was parked at a context, and that context
abbrev pub Note : Type 0
Note = Reverse (ℕ × ℕ)

abbrev pub Notes : Type 0
Notes = BinaryHeap Note Global

-- a context is noted
abbrev pub is_noted : List Note → ℕ → Bool
is_noted notes x = list_any (λ (n : Note). n.0.1 == x) notes

-- since when the one has been parked who has waited longest at a context
abbrev pub since_at : Schedule → ℕ → Option ℕ
since_at m x = option_map (λ (p : Party). since_of m p.g) (slice_get (parties_at m.receivers x) 0)

-- what is noted of a context where somebody waits
abbrev pub notes_by : ℕ → Option ℕ → List Note
notes_by x None = []
notes_by x (Some since) = record { 0 = (since, x) } ∷ []

-- what was noted is out of date where the first one there was parked later
abbrev pub is_later : ℕ → Option ℕ → Bool
is_later since None = false
is_later since (Some now) = nat_lt since now

-- a context is one of some, and somebody waits there
abbrev pub is_waited_at : Schedule → List ℕ → ℕ → Bool
is_waited_at m xs o = list_any (λ x. x == o && is_some (since_at m x)) xs

-- What is noted: contexts, and nobody else who is parked could go on. There is room for all
pub record AreNoted (script : Script) (s : State) (m : Schedule) (notes : Notes) : Type 0 where
  pub contexts : (x : ℕ) → is_noted (heap_items notes) x ≡ true → IsTrue (is_ctx script x)
  pub but : IsCalmBut script s m (is_noted (heap_items notes))
  pub few : heap_len notes ≤ length script.decls
  pub room : length script.decls ≤ heap_capacity notes

-- one that waits at a context goes on by its entry, and that context is noted no more
pub record Takes (script : Script) (s : State) (m : Schedule) (x : ℕ) (e : Entry) (notes : Notes) : Type 0 where
  pub next : next_woken script s m x ≡ Some e
  pub context : IsTrue (is_ctx script x)
  pub contexts : (y : ℕ) → is_noted (heap_items notes) y ≡ true → IsTrue (is_ctx script y)
  pub but : IsCalmBut script s m (λ o. x == o || is_noted (heap_items notes) o)
  pub few : heap_len notes < length script.decls

-- a run that may let those go on that wait at the contexts that are noted: nobody else could
pub record CanWakeNoted (script : Script) (limits : Limits) (r : Run) : Type 0 where
  pub kept : IsKeptRun script limits r
  pub noted : AreNoted script (state_of r.machine) (schedule_of r.scheduler) r.waking
