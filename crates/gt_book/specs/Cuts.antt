-- What the end of a context needs, and what it does.
use Rattle.std.specs.Prelude.{ℕ, ◌==◌, ◌≡◌, ◌≤◌, ◌&&◌, not, Bool, true, IsTrue, length}
use Rattle.std.specs.List.{list_any}
use Rattle.gt_model.specs.declared.script.Script.{Script}
use Rattle.gt_model.specs.declared.entry.Limits.{Limits}
use Rattle.gt_model.specs.Script.{is_ctx}
use Rattle.gt_rules.specs.State.{has_ended}
use Rattle.gt_machine.specs.Machine.{state_of, ended_of}
use Rattle.gt_schedule.specs.Scheduler.{schedule_of}
use Rattle.gt_book.specs.declared.run.Run.{Run}
use Rattle.gt_book.specs.Calm.{IsCalmBut}
use Rattle.gt_book.specs.Run.{IsKeptRun}

-- a context is one of those that ended last
abbrev pub has_just_ended : Run → ℕ → Bool
has_just_ended r x = list_any (λ y. y == x) (ended_of r.machine)

-- a run knows which contexts its last entry ended
pub record KnowsEnded (script : Script) (old new : Run) : Type 0 where
  pub each : (y : ℕ) → has_just_ended new y ≡ (not (has_ended (state_of old.machine) y) && has_ended (state_of new.machine) y)
  pub few : length (ended_of new.machine) ≤ length script.decls

-- where a run may let those go on that wait at the contexts that ended last: nobody else could
pub record CanWakeEnded (script : Script) (limits : Limits) (r : Run) : Type 0 where
  pub kept : IsKeptRun script limits r
  pub contexts : (x : ℕ) → has_just_ended r x ≡ true → IsTrue (is_ctx script x)
  pub few : length (ended_of r.machine) ≤ length script.decls
  pub but : IsCalmBut script (state_of r.machine) (schedule_of r.scheduler) (has_just_ended r)
