-- What is looked up in a script.
use Rattle.std.specs.Prelude.{ℕ, Bool, true, false, List, [], slice_get}
use Rattle.std.specs.Option.{option_map}
use Rattle.std.specs.declared.option.Option.{Option}
use Rattle.std.specs.declared.option.Option.TheVariants.{None, Some}
use Rattle.gt_model.specs.declared.script.Script.{Script}
use Rattle.gt_model.specs.declared.script.Decl.{Decl}
use Rattle.gt_model.specs.declared.script.What.{What}
use Rattle.gt_model.specs.declared.script.Instr.{Instr}
use Rattle.gt_model.specs.declared.script.Place.{Place}
use Rattle.gt_model.specs.declared.context.Form.{Form}

-- what the script declares at a place
abbrev pub what_at : Script → ℕ → Option What
what_at script i = option_map (λ (d : Decl). d.what) (slice_get script.decls i)

-- the code of a function
abbrev pub code_of : Script → ℕ → List Instr
code_of script f = elim (slice_get script.funcs f) [ None ↦ [] | Some func ↦ func.code ]

-- the instruction at a place
abbrev pub instr_at : Script → Place → Option Instr
instr_at script p = slice_get (code_of script p.func) p.at

-- what is received from by its times: a one-shot channel timer or a ticker; a ticker alone; an AfterFunc timer
abbrev pub names_timer : Option What → Bool
names_timer (Some What.Timer) = true
names_timer (Some What.Ticker) = true
names_timer _ = false

abbrev pub names_ticker : Option What → Bool
names_ticker (Some What.Ticker) = true
names_ticker _ = false

abbrev pub names_func : Option What → Bool
names_func (Some (What.AfterFunc func)) = true
names_func _ = false

abbrev pub names_chan : Option What → Bool
names_chan (Some (What.Chan cap)) = true
names_chan _ = false

abbrev pub names_mutex : Option What → Bool
names_mutex (Some What.Mutex) = true
names_mutex _ = false

abbrev pub names_wg : Option What → Bool
names_wg (Some What.Wg) = true
names_wg _ = false

abbrev pub names_cond : Option What → Bool
names_cond (Some (What.Cond mutex)) = true
names_cond _ = false

-- a context; one that can end; a hook; an error
abbrev pub names_ctx : Option What → Bool
names_ctx (Some (What.Ctx parent form)) = true
names_ctx _ = false

abbrev pub names_hook : Option What → Bool
names_hook (Some (What.Hook ctx func)) = true
names_hook _ = false

abbrev pub names_error : Option What → Bool
names_error (Some What.Error) = true
names_error _ = false

-- the form of a context
abbrev pub named_form : Option What → Option Form
named_form (Some (What.Ctx parent form)) = Some form
named_form _ = None

-- a context of the form `without` never ends
abbrev pub can_end : Option Form → Bool
can_end None = false
can_end (Some Form.Cancel) = true
can_end (Some Form.Cause) = true
can_end (Some (Form.Timeout d cause)) = true
can_end (Some Form.Without) = false

-- one that is canceled with a cause
abbrev pub takes_cause : Option Form → Bool
takes_cause (Some Form.Cause) = true
takes_cause _ = false

abbrev pub is_timer : Script → ℕ → Bool
is_timer script t = names_timer (what_at script t)

abbrev pub is_ticker : Script → ℕ → Bool
is_ticker script t = names_ticker (what_at script t)

abbrev pub is_func : Script → ℕ → Bool
is_func script t = names_func (what_at script t)

-- a channel, and how many values it keeps at most
abbrev pub is_chan : Script → ℕ → Bool
is_chan script c = names_chan (what_at script c)

abbrev pub capacity_of : Script → ℕ → ℕ
capacity_of script c = elim (what_at script c) [ None ↦ 0 | Some what ↦ elim what [ What.Chan cap ↦ cap | _ ↦ 0 ] ]

-- a mutex, and a WaitGroup
abbrev pub is_mutex : Script → ℕ → Bool
is_mutex script m = names_mutex (what_at script m)

abbrev pub is_wg : Script → ℕ → Bool
is_wg script w = names_wg (what_at script w)

-- a Cond, and its mutex
abbrev pub is_cond : Script → ℕ → Bool
is_cond script k = names_cond (what_at script k)

abbrev pub mutex_of : Script → ℕ → ℕ
mutex_of script k = elim (what_at script k) [ None ↦ 0 | Some what ↦ elim what [ What.Cond mutex ↦ mutex | _ ↦ 0 ] ]

-- the function that an AfterFunc timer starts
abbrev pub func_of : Script → ℕ → ℕ
func_of script t = elim (what_at script t) [ None ↦ 0 | Some what ↦ elim what [ What.AfterFunc f ↦ f | _ ↦ 0 ] ]

-- a context, its form, and the one from which it is derived, where that is not the root
abbrev pub is_ctx : Script → ℕ → Bool
is_ctx script x = names_ctx (what_at script x)

abbrev pub form_of : Script → ℕ → Option Form
form_of script x = named_form (what_at script x)

abbrev pub parent_of : Script → ℕ → Option ℕ
parent_of script x = elim (what_at script x) [ None ↦ None | Some what ↦ elim what [ What.Ctx parent form ↦ parent | _ ↦ None ] ]

-- a context that can end: so it can be canceled, and waited for
abbrev pub is_endable : Script → ℕ → Bool
is_endable script x = can_end (form_of script x)

-- a hook, its context, and the function that it starts
abbrev pub is_hook : Script → ℕ → Bool
is_hook script s = names_hook (what_at script s)

abbrev pub ctx_of : Script → ℕ → Option ℕ
ctx_of script s = elim (what_at script s) [ None ↦ None | Some what ↦ elim what [ What.Hook ctx func ↦ Some ctx | _ ↦ None ] ]

abbrev pub hook_func : Script → ℕ → ℕ
hook_func script s = elim (what_at script s) [ None ↦ 0 | Some what ↦ elim what [ What.Hook ctx func ↦ func | _ ↦ 0 ] ]

abbrev pub is_error : Script → ℕ → Bool
is_error script e = names_error (what_at script e)
