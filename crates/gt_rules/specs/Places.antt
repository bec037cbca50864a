-- Where a goroutine begins, and where it goes on: over instructions that make no entry.
use Rattle.std.specs.Prelude.{ℕ, zero, suc, ◌+◌, ◌-◌, ◌==◌, if◌then◌else◌, List, [], ◌∷◌, length, slice_get, slice_index, set}
use Rattle.std.specs.declared.option.Option.{Option}
use Rattle.std.specs.declared.option.Option.TheVariants.{None, Some}
use Rattle.gt_model.specs.declared.script.Script.{Script}
use Rattle.gt_model.specs.declared.script.Instr.{Instr}
use Rattle.gt_model.specs.declared.script.Place.{Place}
use Rattle.gt_model.specs.declared.script.Case.{Case}
use Rattle.gt_model.specs.Script.{code_of, instr_at}

-- a loop whose count is 0 is passed over, another one is entered with its count
abbrev pub at_top : Place → ℕ → ℕ → ℕ → Place
at_top p depth count past = if count == 0 then record p { at = past } else record p { at = p.at + 1; loops = set p.loops depth count }

-- how many passes are left at the end of a loop
abbrev pub passes_left : Place → ℕ → ℕ
passes_left p depth = slice_index p.loops depth - 1

-- a loop is passed again while passes are left
abbrev pub at_end : Place → ℕ → ℕ → Place
at_end p depth top = record p { at = if passes_left p depth == 0 then p.at + 1 else top + 1; loops = set p.loops depth (passes_left p depth) }

-- where an instruction leads that makes no entry; none where it makes one
abbrev pub silent : Place → Instr → Option Place
silent p (Instr.LoopTop depth count past) = Some (at_top p depth count past)
silent p (Instr.LoopEnd depth top) = Some (at_end p depth top)
silent p (Instr.Jump to) = Some (record p { at = to })
silent p _ = None

-- where a place in a code leads without an entry
abbrev pub silent_at : List Instr → Place → Option Place
silent_at code p = elim (slice_get code p.at) [ None ↦ None | Some i ↦ silent p i ]

-- on from a place, over at most so many instructions that make no entry
abbrev pub go_on : ℕ → List Instr → Place → Place
go_on zero code p = p
go_on (suc more) code p = elim (silent_at code p) [ None ↦ p | Some q ↦ go_on more code q ]

-- A loop that is passed more than once has an entry in each pass: so two walks through the code are enough
abbrev pub settled_in : List Instr → Place → Place
settled_in code p = go_on (length code + length code) code p

abbrev pub settled : Script → Place → Place
settled script p = settled_in (code_of script p.func) p

-- the first place of a function
abbrev pub first_place : Script → ℕ → Place
first_place script f = settled script (record { func = f; at = 0; loops = 0 ∷ 0 ∷ 0 ∷ 0 ∷ [] })

-- the index at which a case goes on, where the choice has it
abbrev pub body_of : List Case → ℕ → ℕ → ℕ
body_of cases k behind = elim (slice_get cases k) [ None ↦ behind | Some c ↦ c.to ]

-- The index at which who stands at an instruction goes on after an operation with this case number: behind a plain instruction, and at the body of a case.
-- The number 0 stands for a plain operation, and at a choice for its default
abbrev pub next_index : Instr → ℕ → ℕ → ℕ
next_index (Instr.Select cases default_to) zero behind = elim default_to [ None ↦ behind | Some to ↦ to ]
next_index (Instr.Select cases default_to) (suc k) behind = body_of cases k behind
next_index _ case_no behind = behind

abbrev pub next_of : Option Instr → ℕ → ℕ → ℕ
next_of None case_no behind = behind
next_of (Some i) case_no behind = next_index i case_no behind

-- the place after an operation of an instruction
abbrev pub place_after : Script → ℕ → Place → Place
place_after script case_no p = settled script (record p { at = next_of (instr_at script p) case_no (p.at + 1) })
