-- What a script keeps to that the reader accepts.
use Rattle.std.specs.Prelude.{ℤ, nat_abs, ℕ, zero, suc, ◌+◌, ◌-◌, ◌^◌, ◌<◌, ◌≤◌, ◌≡◌, ◌≢◌, ◌==◌, nat_le, Bool, true, false, cond, if◌then◌else◌, ◌&&◌, ◌||◌, IsTrue, List, [], ◌∷◌, ◌++◌, length, map, filter, slice_get, sum_by, codes, IsSome, IfSome}
use Rattle.std.specs.List.{All, list_all}
use Rattle.std.specs.Option.{option_map, option_and_then}
use Rattle.std.specs.declared.option.Option.{Option}
use Rattle.std.specs.declared.option.Option.TheVariants.{None, Some}
use Rattle.gt_model.specs.declared.script.Script.{Script}
use Rattle.gt_model.specs.declared.script.Decl.{Decl}
use Rattle.gt_model.specs.declared.script.Func.{Func}
use Rattle.gt_model.specs.declared.script.What.{What}
use Rattle.gt_model.specs.declared.script.Instr.{Instr}
use Rattle.gt_model.specs.declared.script.Case.{Case}
use Rattle.gt_model.specs.declared.script.CaseKind.{CaseKind}
use Rattle.gt_model.specs.Times.{greatest_time}
use Rattle.gt_model.specs.declared.entry.Limits.{Limits}
use Rattle.gt_model.specs.declared.context.Form.{Form}
use Rattle.gt_model.specs.Script.{is_timer, is_func, is_chan, is_mutex, is_wg, is_cond, is_ctx, form_of, parent_of, is_endable, takes_cause, is_hook, is_error}

-- a timer that is set and stopped: a channel timer or an AfterFunc timer
abbrev pub is_setting : Script → ℕ → Bool
is_setting script t = is_timer script t || is_func script t

abbrev pub is_letter : ℕ → Bool
is_letter b = (nat_le 97 b && nat_le b 122) || (nat_le 65 b && nat_le b 90)

abbrev pub is_digit : ℕ → Bool
is_digit b = nat_le 48 b && nat_le b 57

-- a byte that may stand in a name behind its first one: a letter, a digit or `_`
abbrev pub is_name_byte : ℕ → Bool
is_name_byte b = is_letter b || is_digit b || b == 95

-- a letter, then letters, digits and `_`; at most 32 bytes
abbrev pub is_name : List ℕ → Bool
is_name [] = false
is_name (b ∷ bs) = is_letter b && list_all is_name_byte bs && nat_le (length bs) 31

-- the greatest number of passes that a loop may have
abbrev pub most_passes : ℕ
most_passes = 1000000

-- the greatest capacity of a channel
abbrev pub most_capacity : ℕ
most_capacity = 1024

-- how deep loops may stand in one another
abbrev pub most_loops : ℕ
most_loops = 4

-- what is received from: a channel timer, a channel, or a context that can end
abbrev pub gives_values : Script → ℕ → Bool
gives_values script o = is_timer script o || is_chan script o || is_endable script o

-- an operation is on what gives values, or on what takes them
abbrev pub OperatesRightly : Script → CaseKind → Type 0
OperatesRightly script (CaseKind.Recv o) = IsTrue (gives_values script o)
OperatesRightly script (CaseKind.Send c v) = IsTrue (is_chan script c)

-- the receive of a timer
abbrev pub awaits_timer : Script → CaseKind → Bool
awaits_timer script (CaseKind.Recv o) = is_timer script o
awaits_timer script (CaseKind.Send c v) = false

-- the greatest number of cases of a choice
abbrev pub most_cases : ℕ
most_cases = 16

-- a choice has some cases, and with a default at most one that receives from a timer
pub record IsGoodChoice (script : Script) (cases : List Case) (default_to : Option ℕ) : Type 0 where
  pub some : 1 ≤ length cases
  pub few : length cases ≤ most_cases
  pub each : All (λ (c : Case). OperatesRightly script c.kind) cases
  pub polls : IsSome default_to → length (filter (λ (c : Case). awaits_timer script c.kind) cases) ≤ 1

-- how much is added to a counter at most, or taken from it
abbrev pub most_added : ℕ
most_added = 1000000

abbrev pub IsAddable : ℤ → Type 0
IsAddable n = nat_abs n ≤ most_added

-- a context is canceled that can end, and with a cause where its form takes one
abbrev pub CancelsRightly : Script → ℕ → Option ℕ → Type 0
CancelsRightly script x None = IsTrue (is_endable script x)
CancelsRightly script x (Some e) = IsTrue (takes_cause (form_of script x)) × IsTrue (is_error script e)

-- What an instruction names is declared as such, and its times are at most the greatest
abbrev pub NamesRightly : Script → Instr → Type 0
NamesRightly script (Instr.Say n) = Unit {0}
NamesRightly script Instr.Now = Unit {0}
NamesRightly script (Instr.Sleep d) = d ≤ greatest_time
NamesRightly script (Instr.Go f) = f < length script.funcs
NamesRightly script (Instr.New t d) = IsTrue (is_setting script t) × (d ≤ greatest_time)
NamesRightly script (Instr.Stop t) = IsTrue (is_setting script t)
NamesRightly script (Instr.Reset t d) = IsTrue (is_setting script t) × (d ≤ greatest_time)
NamesRightly script (Instr.Recv o) = OperatesRightly script (CaseKind.Recv o)
NamesRightly script (Instr.Make c) = IsTrue (is_chan script c)
NamesRightly script (Instr.Send c v) = OperatesRightly script (CaseKind.Send c v)
NamesRightly script (Instr.Close c) = IsTrue (is_chan script c)
NamesRightly script (Instr.Lock m) = IsTrue (is_mutex script m)
NamesRightly script (Instr.Unlock m) = IsTrue (is_mutex script m)
NamesRightly script (Instr.CWait k) = IsTrue (is_cond script k)
NamesRightly script (Instr.Signal k) = IsTrue (is_cond script k)
NamesRightly script (Instr.Broadcast k) = IsTrue (is_cond script k)
NamesRightly script (Instr.Add w n) = IsTrue (is_wg script w) × IsAddable n
NamesRightly script (Instr.Wait w) = IsTrue (is_wg script w)
NamesRightly script (Instr.With x) = IsTrue (is_ctx script x)
NamesRightly script (Instr.Cancel x cause) = CancelsRightly script x cause
NamesRightly script (Instr.ErrOf x) = IsTrue (is_ctx script x)
NamesRightly script (Instr.CauseOf x) = IsTrue (is_ctx script x)
NamesRightly script (Instr.After s) = IsTrue (is_hook script s)
NamesRightly script (Instr.Unhook s) = IsTrue (is_hook script s)
NamesRightly script (Instr.LoopTop depth count past) = count ≤ most_passes
NamesRightly script (Instr.LoopEnd depth top) = Unit {0}
NamesRightly script (Instr.Select cases default_to) = IsGoodChoice script cases default_to
NamesRightly script (Instr.Jump to) = Unit {0}
NamesRightly script Instr.Finish = Unit {0}

-- whether an instruction is the end of a function
abbrev pub is_finish : Instr → Bool
is_finish Instr.Finish = true
is_finish _ = false

-- An instruction at place i of a code of n instructions: `Finish` is the last one, and no other is
pub record IsGoodInstr (script : Script) (n i : ℕ) (instr : Instr) : Type 0 where
  pub names : NamesRightly script instr
  pub last : is_finish instr ≡ i + 1 == n

-- whether a goroutine that goes on from the index i meets an instruction that makes an entry before it meets the end of a loop; it looks at no more than so many
-- instructions. It passes over the loops with a count of 0, and enters the others; it follows jumps
abbrev pub meets_instr : ℕ → List Instr → ℕ → Bool
meets_instr zero code i = false
meets_instr (suc more) code i = elim (slice_get code i) [
  | None ↦ false
  | Some x ↦ elim x [
    | Instr.LoopTop depth count past ↦ meets_instr more code (if count == 0 then past else i + 1)
    | Instr.LoopEnd depth top ↦ false
    | Instr.Jump to ↦ meets_instr more code to
    | _ ↦ true
  ]
]

-- the loop whose top has the index i has its end in the code, and a loop in it stands deeper and ends before it does
pub record IsGoodLoop (code : List Instr) (i depth count past : ℕ) : Type 0 where
  pub shallow : depth < most_loops
  pub ahead : i + 1 < past
  pub within : past < length code
  pub end : slice_get code (past - 1) ≡ Some (Instr.LoopEnd depth i)
  pub nested : (j inner passes behind : ℕ) → i < j → j < past → slice_get code j ≡ Some (Instr.LoopTop inner passes behind) → (depth < inner) × (behind < past)
  -- each pass makes an entry
  pub moves : 0 < count → meets_instr (length code) code (i + 1) ≡ true

-- the end of a loop has the index i: its top stands before it
pub record IsGoodEnd (code : List Instr) (i depth top : ℕ) : Type 0 where
  pub before : top < i
  pub count : ℕ
  pub begin : slice_get code top ≡ Some (Instr.LoopTop depth count (i + 1))

-- Who goes from one index to another one goes ahead, leaves no loop, and comes into no loop but at its top
pub record IsGoodTarget (code : List Instr) (i to : ℕ) : Type 0 where
  pub ahead : i < to
  pub within : to < length code
  pub stays : (top depth count past : ℕ) → slice_get code top ≡ Some (Instr.LoopTop depth count past) → top < i → i < past → to < past
  pub clear : (top depth count past : ℕ) → slice_get code top ≡ Some (Instr.LoopTop depth count past) → i < top → top < to → past ≤ to

-- a choice goes on at the bodies of its cases and of its default
pub record HasGoodTargets (code : List Instr) (i : ℕ) (cases : List Case) (default_to : Option ℕ) : Type 0 where
  pub each : All (λ (c : Case). IsGoodTarget code i c.to) cases
  pub otherwise : IfSome default_to (IsGoodTarget code i)

pub record IsGoodCode (script : Script) (code : List Instr) : Type 0 where
  pub some : 0 < length code
  pub short : length code < 2 ^ 32
  pub each : (i : ℕ) (x : Instr) → slice_get code i ≡ Some x → IsGoodInstr script (length code) i x
  pub loops : (i depth count past : ℕ) → slice_get code i ≡ Some (Instr.LoopTop depth count past) → IsGoodLoop code i depth count past
  pub ends : (i depth top : ℕ) → slice_get code i ≡ Some (Instr.LoopEnd depth top) → IsGoodEnd code i depth top
  pub choices : (i : ℕ) (cases : List Case) (default_to : Option ℕ) → slice_get code i ≡ Some (Instr.Select cases default_to) → HasGoodTargets code i cases default_to
  pub jumps : (i to : ℕ) → slice_get code i ≡ Some (Instr.Jump to) → IsGoodTarget code i to

-- a time is at most the greatest, and a cause is an error
abbrev pub FormsRightly : Script → Form → Type 0
FormsRightly script Form.Cancel = Unit {0}
FormsRightly script Form.Cause = Unit {0}
FormsRightly script (Form.Timeout d cause) = (d ≤ greatest_time) × IfSome cause (λ e. IsTrue (is_error script e))
FormsRightly script Form.Without = Unit {0}

-- a declaration names what it starts, and what it stands on, and a channel has a capacity that it may have
abbrev pub DeclaresRightly : Script → What → Type 0
DeclaresRightly script What.Timer = Unit {0}
DeclaresRightly script What.Ticker = Unit {0}
DeclaresRightly script (What.AfterFunc func) = func < length script.funcs
DeclaresRightly script (What.Chan cap) = cap ≤ most_capacity
DeclaresRightly script What.Mutex = Unit {0}
DeclaresRightly script What.Wg = Unit {0}
DeclaresRightly script (What.Cond mutex) = IsTrue (is_mutex script mutex)
DeclaresRightly script (What.Ctx parent form) = IfSome parent (λ p. IsTrue (is_ctx script p)) × FormsRightly script form
DeclaresRightly script (What.Hook ctx func) = IsTrue (is_ctx script ctx) × (func < length script.funcs)
DeclaresRightly script What.Error = Unit {0}
DeclaresRightly script What.Function = Unit {0}

-- the greatest numbers of names, of functions among them, and of instructions that a script may have
abbrev pub most_names : ℕ
most_names = 4096

abbrev pub most_functions : ℕ
most_functions = 256

abbrev pub most_instructions : ℕ
most_instructions = 100000

-- the greatest limit of a run
abbrev pub most_entries : ℕ
most_entries = 200000

-- whether an instruction stands for a line with an instruction: the bounds of a loop, the ends of bodies and the end of a function do not
abbrev pub is_line : Instr → Bool
is_line (Instr.LoopTop depth count past) = false
is_line (Instr.LoopEnd depth top) = false
is_line (Instr.Jump to) = false
is_line Instr.Finish = false
is_line _ = true

-- how many instructions a script has
abbrev pub instruction_count : Script → ℕ
instruction_count script = sum_by (λ (f : Func). length (filter is_line f.code)) script.funcs

-- whether a declaration is that of a function
abbrev pub is_function : What → Bool
is_function What.Timer = false
is_function What.Ticker = false
is_function (What.AfterFunc func) = false
is_function (What.Chan cap) = false
is_function What.Mutex = false
is_function What.Wg = false
is_function (What.Cond mutex) = false
is_function (What.Ctx parent form) = false
is_function (What.Hook ctx func) = false
is_function What.Error = false
is_function What.Function = true

-- the places of the functions among declarations, the first of which has the place i
abbrev pub function_places : ℕ → List Decl → List ℕ
function_places i [] = []
function_places i (d ∷ ds) = cond (is_function d.what) (i ∷ []) [] ++ function_places (i + 1) ds

-- the name of a function
abbrev pub function_name : Script → ℕ → Option (List ℕ)
function_name script f = option_and_then (λ (func : Func). option_map (λ (d : Decl). d.name) (slice_get script.decls func.decl)) (slice_get script.funcs f)

-- each name is a name, and none is `root`, which is that of the context which nobody makes; no two declarations have the same
pub record HasNames (decls : List Decl) : Type 0 where
  pub each : All (λ (d : Decl). IsTrue (is_name d.name)) decls
  pub none_is_root : All (λ (d : Decl). d.name ≢ codes "root") decls
  pub differ : (i j : ℕ) (a b : Decl) → slice_get decls i ≡ Some a → slice_get decls j ≡ Some b → a.name ≡ b.name → i ≡ j

pub record IsGood (script : Script) : Type 0 where
  pub main : function_name script script.main ≡ Some (codes "main")
  pub names : HasNames script.decls
  pub declares : All (λ (d : Decl). DeclaresRightly script d.what) script.decls
  -- a context is derived from one that is declared before it
  pub parents : (x p : ℕ) → parent_of script x ≡ Some p → p < x
  -- the functions are the declarations of functions, in their order
  pub functions : map (λ (f : Func). f.decl) script.funcs ≡ function_places 0 script.decls
  pub code : All (λ (f : Func). IsGoodCode script f.code) script.funcs
  pub few_names : length script.decls ≤ most_names
  pub few_functions : length script.funcs ≤ most_functions
  pub few_instructions : instruction_count script ≤ most_instructions

-- the limits that a run may have
pub record AreLimits (limits : Limits) : Type 0 where
  pub some : 1 ≤ limits.entries
  pub most : limits.entries ≤ most_entries
