-- What is declared, by its number.
use Rattle.std.specs.Prelude.{◌≡◌, ℕ, ◌<◌, Bool, true, false, List, map, slice_index_or, Option, None, Some}
use Rattle.gt_model.specs.declared.script.Decl.{Decl}
use Rattle.gt_model.specs.declared.script.What.{What}
use Rattle.gt_ctx.specs.declared.decl.CtxDecl.{CtxDecl}
use Rattle.gt_model.specs.declared.context.Form.{Form}
use Rattle.gt_model.specs.declared.context.End.{End}
use Rattle.gt_model.specs.declared.context.ErrVal.{ErrVal}
use Rattle.gt_model.specs.declared.context.CauseVal.{CauseVal}

-- what is kept of a declaration, and of all of a script
abbrev pub decl_by : What → CtxDecl
decl_by What.Timer = CtxDecl.Other
decl_by What.Ticker = CtxDecl.Other
decl_by (What.AfterFunc func) = CtxDecl.Other
decl_by (What.Chan cap) = CtxDecl.Other
decl_by What.Mutex = CtxDecl.Other
decl_by What.Wg = CtxDecl.Other
decl_by (What.Cond mutex) = CtxDecl.Other
decl_by (What.Ctx parent form) = CtxDecl.Context parent form
decl_by (What.Hook ctx func) = CtxDecl.Hook ctx
decl_by What.Error = CtxDecl.Other
decl_by What.Function = CtxDecl.Other

abbrev pub decls_of : List Decl → List CtxDecl
decls_of decls = map (λ (d : Decl). decl_by d.what) decls

abbrev pub decl_at : List CtxDecl → ℕ → CtxDecl
decl_at decls i = slice_index_or decls i CtxDecl.Other

abbrev pub is_context : CtxDecl → Bool
is_context CtxDecl.Other = false
is_context (CtxDecl.Context parent form) = true
is_context (CtxDecl.Hook ctx) = false

-- the context from which it is derived, where that is not `root`
abbrev pub parent_by : CtxDecl → Option ℕ
parent_by CtxDecl.Other = None
parent_by (CtxDecl.Context parent form) = parent
parent_by (CtxDecl.Hook ctx) = None

-- the context of a hook
abbrev pub ctx_by : CtxDecl → Option ℕ
ctx_by CtxDecl.Other = None
ctx_by (CtxDecl.Context parent form) = None
ctx_by (CtxDecl.Hook ctx) = Some ctx

-- the parent whose end and deadline reach a context: none is reached that is of the form `Without`
abbrev pub heeded_in : Form → Option ℕ → Option ℕ
heeded_in Form.Cancel parent = parent
heeded_in Form.Cause parent = parent
heeded_in (Form.Timeout d cause) parent = parent
heeded_in Form.Without parent = None

abbrev pub heeded_by : CtxDecl → Option ℕ
heeded_by CtxDecl.Other = None
heeded_by (CtxDecl.Context parent form) = heeded_in form parent
heeded_by (CtxDecl.Hook ctx) = None

abbrev pub heeded : List CtxDecl → ℕ → Option ℕ
heeded decls y = heeded_by (decl_at decls y)

-- the cause of an expiry: the error that the form names, if it names one
abbrev pub cause_of_expiry : Option ℕ → CauseVal
cause_of_expiry None = CauseVal.DeadlineExceeded
cause_of_expiry (Some error) = CauseVal.Named error

abbrev pub expiry_by : Form → End
expiry_by Form.Cancel = record { err = ErrVal.DeadlineExceeded; cause = CauseVal.DeadlineExceeded }
expiry_by Form.Cause = record { err = ErrVal.DeadlineExceeded; cause = CauseVal.DeadlineExceeded }
expiry_by (Form.Timeout d cause) = record { err = ErrVal.DeadlineExceeded; cause = cause_of_expiry cause }
expiry_by Form.Without = record { err = ErrVal.DeadlineExceeded; cause = CauseVal.DeadlineExceeded }

-- parents are contexts that are declared earlier, and hooks wait on contexts
pub record AreOrdered (decls : List CtxDecl) : Type 0 where
  pub parent_earlier : (y p : ℕ) → parent_by (decl_at decls y) ≡ Some p → p < y
  pub parent_context : (y p : ℕ) → parent_by (decl_at decls y) ≡ Some p → is_context (decl_at decls p) ≡ true
  pub ctx_context : (s c : ℕ) → ctx_by (decl_at decls s) ≡ Some c → is_context (decl_at decls c) ≡ true
