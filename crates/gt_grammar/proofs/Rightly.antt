-- When the deeds of lines follow one another rightly.
use Rattle.std.proofs.Common.{◌≡◌, ℕ, ◌+◌, ◌<◌, ◌≤◌, Bool, true, false, List, [], ◌∷◌, Option, None, Some, IfSome, ltb as nat_lt}
use Rattle.gt_model.specs.declared.script.What.{What}
use Rattle.gt_model.specs.declared.script.Instr.{Instr}
use Rattle.gt_model.specs.declared.script.CaseKind.{CaseKind}
use Rattle.gt_model.specs.declared.context.Form.{Form}
use Rattle.gt_model.specs.Good.{most_capacity, IsAddable}
use Rattle.gt_model.specs.Times.{greatest_time}
use Rattle.gt_table.specs.declared.form.CtxForm.{CtxForm}
use Rattle.gt_table.specs.declared.form.Kind.{Kind}
use Rattle.gt_table.specs.Forms.{is_kind_function, is_kind_setting, is_kind_timer, is_kind_chan, is_kind_source, is_kind_mutex, is_kind_wg, is_kind_cond, is_kind_ctx, is_kind_endable, is_kind_causable, is_kind_hook, is_kind_error}
use Rattle.gt_names.specs.declared.names.Declared.{Declared}
use Rattle.gt_names.specs.Names.{Names, Naming, is_free_name, Declaration, declaration}
use Rattle.gt_grammar.specs.declared.progress.OpenBlock.{OpenBlock}
use Rattle.gt_grammar.specs.declared.progress.Held.{Held}
use Rattle.gt_grammar.specs.Faults.{holding, may_end, loop_count, block_ended, case_added, default_added}
use Rattle.gt_grammar.specs.Deeds.{Deed, declares, opens, does, loops, selects, chooses, defaults, closes}

-- the word of a form
abbrev pub ctx_form : Form → CtxForm
ctx_form Form.Cancel = CtxForm.Cancel
ctx_form Form.Cause = CtxForm.Cause
ctx_form (Form.Timeout d cause) = CtxForm.Timeout
ctx_form Form.Without = CtxForm.Without

abbrev pub kind_in : What → Kind
kind_in What.Timer = Kind.Timer
kind_in What.Ticker = Kind.Ticker
kind_in (What.AfterFunc func) = Kind.AfterFunc
kind_in (What.Chan cap) = Kind.Chan
kind_in What.Mutex = Kind.Mutex
kind_in What.Wg = Kind.Wg
kind_in (What.Cond mutex) = Kind.Cond
kind_in (What.Ctx parent form) = Kind.Ctx (Some (ctx_form form))
kind_in (What.Hook ctx func) = Kind.Hook
kind_in What.Error = Kind.Error
kind_in What.Function = Kind.Function

-- the place of a declared name, and whether it is among the first ones
abbrev pub place_of : Option Declared → ℕ
place_of None = 0
place_of (Some d) = d.place

abbrev pub is_declared_before : ℕ → Option Declared → Bool
is_declared_before n None = false
is_declared_before n (Some d) = nat_lt d.place n

abbrev pub naming_as : List ℕ → Kind → Naming
naming_as name kind = record { name = name; kind = kind }

abbrev pub names_in : ℕ → ℕ → List Deed → List Declaration
names_in n f [] = []
names_in n f (declares name what ∷ rest) = declaration (naming_as name (kind_in what)) n f ∷ names_in (n + 1) f rest
names_in n f (opens name decl ∷ rest) = declaration (naming_as name Kind.Function) n f ∷ names_in (n + 1) (f + 1) rest
names_in n f (does instr ∷ rest) = names_in n f rest
names_in n f (loops count ∷ rest) = names_in n f rest
names_in n f (selects ∷ rest) = names_in n f rest
names_in n f (chooses kind ∷ rest) = names_in n f rest
names_in n f (defaults ∷ rest) = names_in n f rest
names_in n f (closes ∷ rest) = names_in n f rest

-- a name that is declared
pub record Ref (names : Names) : Type 0 where
  pub name : List ℕ
  pub declared : Declared
  pub known : names name ≡ Some declared

-- the place of a name that is declared as a kind for which this holds
pub record IsPlace (names : Names) (holds : Kind → Bool) (place : ℕ) : Type 0 where
  pub ref : Ref names
  pub kind : holds ref.declared.kind ≡ true
  pub is : place ≡ ref.declared.place

-- the place of a function that is declared
abbrev pub IsFunc : Names → ℕ → Type 0
IsFunc names f = (r : Ref names) × (is_kind_function r.declared.kind ≡ true) × (f ≡ r.declared.func)

-- what an instruction names is declared as such
abbrev pub Refers : Names → Instr → Type 0
Refers names (Instr.Sleep d) = d ≤ greatest_time
Refers names (Instr.Go f) = IsFunc names f
Refers names (Instr.New t d) = IsPlace names is_kind_setting t × (d ≤ greatest_time)
Refers names (Instr.Stop t) = IsPlace names is_kind_setting t
Refers names (Instr.Reset t d) = IsPlace names is_kind_setting t × (d ≤ greatest_time)
Refers names (Instr.Recv o) = IsPlace names is_kind_source o
Refers names (Instr.Make c) = IsPlace names is_kind_chan c
Refers names (Instr.Send c v) = IsPlace names is_kind_chan c
Refers names (Instr.Close c) = IsPlace names is_kind_chan c
Refers names (Instr.Lock m) = IsPlace names is_kind_mutex m
Refers names (Instr.Unlock m) = IsPlace names is_kind_mutex m
Refers names (Instr.Add w n) = IsPlace names is_kind_wg w × IsAddable n
Refers names (Instr.Wait w) = IsPlace names is_kind_wg w
Refers names (Instr.CWait k) = IsPlace names is_kind_cond k
Refers names (Instr.Signal k) = IsPlace names is_kind_cond k
Refers names (Instr.Broadcast k) = IsPlace names is_kind_cond k
Refers names (Instr.With x) = IsPlace names is_kind_ctx x
Refers names (Instr.Cancel x None) = IsPlace names is_kind_endable x
Refers names (Instr.Cancel x (Some e)) = IsPlace names is_kind_causable x × IsPlace names is_kind_error e
Refers names (Instr.ErrOf x) = IsPlace names is_kind_ctx x
Refers names (Instr.CauseOf x) = IsPlace names is_kind_ctx x
Refers names (Instr.After s) = IsPlace names is_kind_hook s
Refers names (Instr.Unhook s) = IsPlace names is_kind_hook s
Refers names (Instr.LoopTop depth count past) = ⊥
Refers names (Instr.LoopEnd depth top) = ⊥
Refers names (Instr.Select cases default_to) = ⊥
Refers names (Instr.Jump to) = ⊥
Refers names Instr.Finish = ⊥
Refers names _ = Unit {0}

-- what a case names is declared as such, and it receives from a timer or does not
abbrev pub RefersCase : Names → Bool → CaseKind → Type 0
RefersCase names awaits (CaseKind.Recv o) = (p : IsPlace names is_kind_source o) × (awaits ≡ is_kind_timer p.ref.declared.kind)
RefersCase names awaits (CaseKind.Send c v) = IsPlace names is_kind_chan c × (awaits ≡ false)

-- the cause of a timeout is declared as an error, and its time is at most the greatest
abbrev pub StartsForm : Names → Form → Type 0
StartsForm names Form.Cancel = Unit {0}
StartsForm names Form.Cause = Unit {0}
StartsForm names (Form.Timeout d cause) = (d ≤ greatest_time) × IfSome cause (IsPlace names is_kind_error)
StartsForm names Form.Without = Unit {0}

-- what a declaration starts, locks or is derived from is declared as such, and its capacity is in range
abbrev pub Starts : Names → What → Type 0
Starts names What.Timer = Unit {0}
Starts names What.Ticker = Unit {0}
Starts names (What.AfterFunc f) = IsFunc names f
Starts names (What.Chan cap) = cap ≤ most_capacity
Starts names What.Mutex = Unit {0}
Starts names What.Wg = Unit {0}
Starts names (What.Cond mutex) = IsPlace names is_kind_mutex mutex
Starts names (What.Ctx parent form) = IfSome parent (IsPlace names is_kind_ctx) × StartsForm names form
Starts names (What.Hook ctx func) = IsPlace names is_kind_ctx ctx × IsFunc names func
Starts names What.Error = Unit {0}
Starts names What.Function = ⊥

-- the context from which a declaration is derived
abbrev pub parent_in : What → Option ℕ
parent_in (What.Ctx parent form) = parent
parent_in _ = None

-- it is one of the first n declarations
abbrev pub Precedes : ℕ → What → Type 0
Precedes n what = IfSome (parent_in what) (λ p. p < n)

-- a name that is spelled rightly and declared by none of the first n declarations
pub record IsNew (names : Names) (name : List ℕ) (n : ℕ) : Type 0 where
  pub free : is_free_name name ≡ true
  pub first : is_declared_before n (names name) ≡ false

-- a loop with so many passes opens in these
abbrev pub opened : ℕ → List OpenBlock → List OpenBlock
opened count outer = OpenBlock.Loop (nat_lt 0 count) Held.Nothing ∷ outer

-- a select opens in these
abbrev pub chosen_in : List OpenBlock → List OpenBlock
chosen_in outer = OpenBlock.Choice 0 0 false ∷ holding Held.Entered outer

-- the next deed is the first case of a select
abbrev pub IsChosen : List Deed → Type 0
IsChosen (chooses kind ∷ rest) = Unit {0}
IsChosen _ = ⊥

-- a block may end, and a select may have a case more, or its default
abbrev pub MayEnd : OpenBlock → Type 0
MayEnd (OpenBlock.Loop repeats held) = may_end repeats held ≡ true
MayEnd (OpenBlock.Choice cases timers has_default) = Unit {0}

abbrev pub MayChoose : List OpenBlock → Type 0
MayChoose [] = ⊥
MayChoose (OpenBlock.Loop repeats held ∷ outer) = ⊥
MayChoose (OpenBlock.Choice cases timers has_default ∷ outer) = (has_default ≡ false) × (cases < 16)

abbrev pub MayDefault : List OpenBlock → Type 0
MayDefault [] = ⊥
MayDefault (OpenBlock.Loop repeats held ∷ outer) = ⊥
MayDefault (OpenBlock.Choice cases timers has_default ∷ outer) = (has_default ≡ false) × (timers < 2)

-- deeds that follow one another rightly, behind so many names, functions and instructions, where these blocks are open, the innermost first
abbrev pub Right : Names → Bool → List OpenBlock → ℕ → ℕ → ℕ → List Deed → Type 0
Right names inside blocks n f k [] = inside ≡ false
Right names inside blocks n f k (declares name what ∷ rest) =
    (inside ≡ false) × (n < 4096) × IsNew names name n × Starts names what × Precedes n what × Right names false blocks (n + 1) f k rest
Right names inside blocks n f k (opens name decl ∷ rest) =
    (inside ≡ false) × (n < 4096) × (f < 256) × IsNew names name n × (decl ≡ place_of (names name)) × (blocks ≡ []) × Right names true [] (n + 1) (f + 1) k rest
Right names inside blocks n f k (does instr ∷ rest) =
    (inside ≡ true) × (k < 100000) × Refers names instr × Right names true (holding Held.Entered blocks) n f (k + 1) rest
Right names inside blocks n f k (loops count ∷ rest) =
    (inside ≡ true) × (count ≤ 1000000) × (loop_count blocks < 4)
    × Right names true (opened count blocks) n f k rest
Right names inside blocks n f k (selects ∷ rest) =
    (inside ≡ true) × (k < 100000) × IsChosen rest × Right names true (chosen_in blocks) n f (k + 1) rest
Right names inside blocks n f k (chooses kind ∷ rest) =
    (inside ≡ true) × MayChoose blocks × ((awaits : Bool) × RefersCase names awaits kind × Right names true (case_added awaits blocks) n f k rest)
Right names inside blocks n f k (defaults ∷ rest) =
    (inside ≡ true) × MayDefault blocks × Right names true (default_added blocks) n f k rest
Right names inside [] n f k (closes ∷ rest) = (inside ≡ true) × Right names false [] n f k rest
Right names inside (inner ∷ outer) n f k (closes ∷ rest) =
    (inside ≡ true) × MayEnd inner × Right names true (block_ended (inner ∷ outer)) n f k rest
