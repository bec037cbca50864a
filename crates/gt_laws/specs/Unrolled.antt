-- Loops repeat their bodies exactly as often as they say, and a choice leads into the body of its case: told by the entries and the script alone, with no
-- counter and no next place.
use Rattle.std.specs.Prelude.{ℕ, zero, suc, ◌+◌, ◌-◌, ◌≡◌, ◌==◌, nat_le, if◌then◌else◌, IfSome, List, [], ◌∷◌, ◌++◌, length, slice_get}
use Rattle.std.specs.Option.{unwrap_or}
use Rattle.std.specs.declared.option.Option.{Option}
use Rattle.std.specs.declared.option.Option.TheVariants.{None, Some}
use Rattle.gt_model.specs.declared.script.Script.{Script}
use Rattle.gt_model.specs.declared.script.Instr.{Instr}
use Rattle.gt_model.specs.declared.script.Case.{Case}
use Rattle.gt_model.specs.declared.script.Place.{Place}
use Rattle.gt_model.specs.declared.entry.Entry.{Entry}
use Rattle.gt_model.specs.Script.{code_of, instr_at}
use Rattle.gt_rules.specs.declared.change.Move.{Move}
use Rattle.gt_rules.specs.Change.{Change}
use Rattle.gt_laws.specs.Told.{told, place_told}

-- ---- where so many moves lead

-- The instruction at which somebody stands who goes on through a part of a code by moves with these case numbers, or the numbers that are left behind it
pub data Course : Type 0 where
  stands : Instr → Course
  behind : List ℕ → Course

-- one part behind another one, and a part so many times in a row
abbrev pub followed : Course → (List ℕ → Course) → Course
followed (stands i) more = stands i
followed (behind moves) more = more moves

abbrev pub repeated : ℕ → (List ℕ → Course) → List ℕ → Course
repeated zero body moves = behind moves
repeated (suc n) body moves = followed (body moves) (repeated n body)

-- where a move of an instruction leads: to the body of its case, or behind it
abbrev pub body_in : List Case → Option ℕ → ℕ → ℕ → ℕ
body_in cases default_to zero next = unwrap_or default_to next
body_in cases default_to (suc k) next = elim (slice_get cases k) [ None ↦ next | Some c ↦ c.to ]

-- From one index of a code up to another, over at most so many instructions. Where a loop stands its body comes as often as it says; the body ends before
-- the end of the loop, which is the last instruction before `past`. Where a choice stands, the body of the case comes that its move names; the body ends
-- with a jump behind the choice
abbrev pub course : ℕ → List Instr → ℕ → ℕ → List ℕ → Course
course zero code i j moves = behind moves
course (suc more) code i j moves = if nat_le j i then behind moves else elim (slice_get code i) [
  | None ↦ behind moves
  | Some x ↦ elim x [
    | Instr.LoopTop depth count past ↦ followed (repeated count (course more code (i + 1) (past - 1)) moves) (course more code past j)
    | Instr.LoopEnd depth top ↦ behind moves
    | Instr.Jump to ↦ course more code to j moves
    | Instr.Select cases default_to ↦ elim moves [ [] ↦ stands (Instr.Select cases default_to) | n ∷ rest ↦ course more code (body_in cases default_to n (i + 1)) j rest ]
    | other ↦ elim moves [ [] ↦ stands other | n ∷ rest ↦ course more code (i + 1) j rest ]
  ]
]

abbrev pub stood_at : Course → Option Instr
stood_at (stands i) = Some i
stood_at (behind moves) = None

-- the instruction of a code to which these moves lead, from its beginning
abbrev pub turn_of : List Instr → List ℕ → Option Instr
turn_of code moves = stood_at (course (length code) code 0 (length code) moves)

-- ---- how far a goroutine is

-- a move that leads on from an instruction, by its case number: a sleep and a wait at a Cond do so when they end, and a panic never
abbrev pub led_by : Move → List ℕ
led_by (Move.GoesOn case_no) = case_no ∷ []
led_by (Move.FallsAsleep until) = []
led_by (Move.Suspends k) = []
led_by (Move.Relocks k) = []
led_by Move.Ends = 0 ∷ []
led_by Move.Panics = []

-- the moves of goroutine g, behind the move of one, and behind those of all who make an entry
abbrev pub moved_with : ℕ → List ℕ → Option (ℕ × Move) → List ℕ
moved_with g moves None = moves
moved_with g moves (Some m) = if m.0 == g then moves ++ led_by m.1 else moves

abbrev pub moved_by : ℕ → List ℕ → Change → List ℕ
moved_by g moves c = moved_with g (moved_with g moves c.mover) c.partner

abbrev pub moves_told : ℕ → List Entry → List ℕ
moves_told g h = told (moved_by g) [] h

-- Each goroutine stands, sleeps or waits at the instruction whose turn it is: the one to which its moves have led through its function's code, in which loops
-- repeat their bodies as often as they say, and of a choice the body of the chosen case comes
abbrev pub InTurn : Script → List Entry → Entry → Type 0
InTurn script front e =
    (g : ℕ) → IfSome (place_told script g front) (λ (p : Place). instr_at script p ≡ turn_of (code_of script p.func) (moves_told g front))
