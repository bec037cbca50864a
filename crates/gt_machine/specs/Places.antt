-- The instruction at a goroutine's place.
use Rattle.std.specs.Prelude.{ℕ, ◌-◌, ◌<◌, ◌^◌, ◌≡◌, List, length, slice_get}
use Rattle.std.specs.declared.option.Option.{Option}
use Rattle.std.specs.declared.option.Option.TheVariants.{None, Some}
use Rattle.gt_model.specs.declared.script.Script.{Script}
use Rattle.gt_model.specs.declared.script.Instr.{Instr}
use Rattle.gt_rules.specs.State.{State, goroutine_at}
use Rattle.gt_model.specs.Script.{instr_at}

-- the instruction at a goroutine's place, whatever its mode
abbrev pub placed_at : Script → State → ℕ → Option Instr
placed_at script s g = elim (goroutine_at s g) [ None ↦ None | Some r ↦ instr_at script r.place ]

-- where the bounds of a loop lead is an index, and their depth one of a loop
abbrev pub LeadsRightly : Instr → Type 0
LeadsRightly (Instr.LoopTop depth count past) = depth < 4
LeadsRightly (Instr.LoopEnd depth top) = (depth < 4) × (top < 2 ^ 32 - 1)
LeadsRightly _ = Unit {0}

pub record IsWalkable (code : List Instr) : Type 0 where
  pub short : length code < 2 ^ 32
  pub leads : (i : ℕ) (x : Instr) → slice_get code i ≡ Some x → LeadsRightly x
