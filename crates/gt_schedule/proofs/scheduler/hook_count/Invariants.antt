use Rattle.std.proofs.Common.{◌≡◌, count_by}
use Rattle.std.specs.Prelude.{take}
use Rattle.gt_schedule.specs.Schedule.{is_hook_decl}
use Rattle.gt_schedule.proofs.scheduler.hook_count.Given as goal

-- the hooks among the declarations so far
abbrev pub invariant-loop-decl : goal.invariant-loop-decl
invariant-loop-decl l = l.count ≡ count_by is_hook_decl (take l.decl-index l.decls)
