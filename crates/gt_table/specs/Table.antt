-- The table of the words that a line may begin with, that may stand behind `case`, or by which a context's line tells its form: where such a line stands, what
-- follows the word, and what the line does.
use Rattle.std.specs.Prelude.{ℕ, zero, suc, pos, negsuc, ◌-ℤ◌, Bool, if◌then◌else◌, List, [], ◌∷◌, codes}
use Rattle.std.specs.Option.{option_map}
use Rattle.std.specs.Str.{bytes_eq}
use Rattle.std.specs.declared.option.Option.{Option}
use Rattle.std.specs.declared.option.Option.TheVariants.{None, Some}
use Rattle.gt_model.specs.declared.script.CaseKind.{CaseKind}
use Rattle.gt_model.specs.declared.script.Instr.{Instr}
use Rattle.gt_model.specs.declared.script.What.{What}
use Rattle.gt_model.specs.declared.context.Form.{Form as DerivedBy}
use Rattle.gt_model.specs.Good.{most_added}
use Rattle.gt_table.specs.declared.form.Arg.{Arg}
use Rattle.gt_table.specs.declared.form.CtxForm.{CtxForm}
use Rattle.gt_table.specs.declared.form.Form.{Form}
use Rattle.gt_table.specs.declared.form.Kind.{Kind}
use Rattle.gt_table.specs.declared.form.Role.{Role}
use Rattle.gt_table.specs.declared.form.Step.{Step}
use Rattle.gt_table.specs.declared.form.Values.{Values}
use Rattle.gt_table.specs.declared.table.Keyword.{Keyword}
use Rattle.gt_table.specs.Forms.{form_with}

-- what a line with this word does, by the values of the words that follow; one that is not wanted counts as 0
pub record Row : Type 0 where
  pub word : List ℕ
  pub form : Form
  pub step : Values → Step

abbrev long_row : List ℕ → Role → Arg → Arg → Arg → Arg → (Values → Step) → Row
long_row word role first second third fourth step = record { word = word; form = form_with role first second third fourth; step = step }

-- at most two words follow
abbrev row : List ℕ → Role → Arg → Arg → (ℕ → ℕ → Step) → Row
row word role first second step = long_row word role first second Arg.Nothing Arg.Nothing (λ v. step v.first v.second)

-- the place of a parent, by its value: the root has none
abbrev pub parent_at : ℕ → Option ℕ
parent_at zero = None
parent_at (suc place) = Some place

abbrev declares_ctx : CtxForm → Role
declares_ctx form = Role.Declares (Kind.Ctx (Some form))

abbrev derived : ℕ → DerivedBy → Step
derived parent form = Step.Declare (What.Ctx (parent_at parent) form)

-- a context of this form, which tells no more
abbrev ctx_row : List ℕ → CtxForm → DerivedBy → Row
ctx_row word form by = row word (declares_ctx form) Arg.NewName Arg.Parent (λ a p. derived p by)

-- An object's value is its place among the names, and a function's its place among the functions. A new name's is its own place. A parent's is one more than its
-- place, and 0 for the root. That of what is added is how far it lies above the least that is
abbrev pub row_of : Keyword → Row
row_of Keyword.Timer = row (codes "timer") (Role.Declares Kind.Timer) Arg.NewName Arg.Nothing (λ a b. Step.Declare What.Timer)
row_of Keyword.Ticker = row (codes "ticker") (Role.Declares Kind.Ticker) Arg.NewName Arg.Nothing (λ a b. Step.Declare What.Ticker)
row_of Keyword.AfterFunc = row (codes "afterfunc") (Role.Declares Kind.AfterFunc) Arg.NewName Arg.Function (λ a f. Step.Declare (What.AfterFunc f))
row_of Keyword.Chan = row (codes "chan") (Role.Declares Kind.Chan) Arg.NewName Arg.Capacity (λ a cap. Step.Declare (What.Chan cap))
row_of Keyword.Mutex = row (codes "mutex") (Role.Declares Kind.Mutex) Arg.NewName Arg.Nothing (λ a b. Step.Declare What.Mutex)
row_of Keyword.Wg = row (codes "wg") (Role.Declares Kind.Wg) Arg.NewName Arg.Nothing (λ a b. Step.Declare What.Wg)
row_of Keyword.Cond = row (codes "cond") (Role.Declares Kind.Cond) Arg.NewName Arg.Mutex (λ a m. Step.Declare (What.Cond m))
row_of Keyword.CtxCancel = ctx_row (codes "cancel") CtxForm.Cancel DerivedBy.Cancel
row_of Keyword.CtxCause = ctx_row (codes "cause") CtxForm.Cause DerivedBy.Cause
row_of Keyword.CtxTimeout = long_row (codes "timeout") (declares_ctx CtxForm.Timeout) Arg.NewName Arg.Parent Arg.Duration Arg.Nothing (λ v. derived v.second (DerivedBy.Timeout v.third None))
row_of Keyword.CtxTimeoutCause = long_row (codes "timeout") (declares_ctx CtxForm.Timeout) Arg.NewName Arg.Parent Arg.Duration Arg.Error (λ v. derived v.second (DerivedBy.Timeout v.third (Some v.fourth)))
row_of Keyword.CtxWithout = ctx_row (codes "without") CtxForm.Without DerivedBy.Without
row_of Keyword.Hook = long_row (codes "hook") (Role.Declares Kind.Hook) Arg.NewName Arg.Context Arg.Function Arg.Nothing (λ v. Step.Declare (What.Hook v.second v.third))
row_of Keyword.Error = row (codes "error") (Role.Declares Kind.Error) Arg.NewName Arg.Nothing (λ a b. Step.Declare What.Error)
row_of Keyword.Func = row (codes "func") (Role.Declares Kind.Function) Arg.NewName Arg.Nothing (λ decl b. Step.Open decl)
row_of Keyword.End = row (codes "end") Role.Closes Arg.Nothing Arg.Nothing (λ a b. Step.Close)
row_of Keyword.Loop = row (codes "loop") Role.Loops Arg.Passes Arg.Nothing (λ n b. Step.Loop n)
row_of Keyword.Select = row (codes "select") Role.Selects Arg.Nothing Arg.Nothing (λ a b. Step.Select)
row_of Keyword.CaseRecv = row (codes "recv") Role.Chooses Arg.Source Arg.Nothing (λ o b. Step.Case (CaseKind.Recv o))
row_of Keyword.CaseSend = row (codes "send") Role.Chooses Arg.Channel Arg.Number (λ c v. Step.Case (CaseKind.Send c v))
row_of Keyword.Default = row (codes "default") Role.Defaults Arg.Nothing Arg.Nothing (λ a b. Step.Default)
row_of Keyword.Say = row (codes "say") Role.Acts Arg.Number Arg.Nothing (λ n b. Step.Do (Instr.Say n))
row_of Keyword.Now = row (codes "now") Role.Acts Arg.Nothing Arg.Nothing (λ a b. Step.Do Instr.Now)
row_of Keyword.Sleep = row (codes "sleep") Role.Acts Arg.Duration Arg.Nothing (λ d b. Step.Do (Instr.Sleep d))
row_of Keyword.Go = row (codes "go") Role.Acts Arg.Function Arg.Nothing (λ f b. Step.Do (Instr.Go f))
row_of Keyword.New = row (codes "new") Role.Acts Arg.Setting Arg.Duration (λ t d. Step.Do (Instr.New t d))
row_of Keyword.Stop = row (codes "stop") Role.Acts Arg.Setting Arg.Nothing (λ t b. Step.Do (Instr.Stop t))
row_of Keyword.Reset = row (codes "reset") Role.Acts Arg.Setting Arg.Duration (λ t d. Step.Do (Instr.Reset t d))
row_of Keyword.Recv = row (codes "recv") Role.Acts Arg.Source Arg.Nothing (λ o b. Step.Do (Instr.Recv o))
row_of Keyword.Make = row (codes "make") Role.Acts Arg.Channel Arg.Nothing (λ c b. Step.Do (Instr.Make c))
row_of Keyword.Send = row (codes "send") Role.Acts Arg.Channel Arg.Number (λ c v. Step.Do (Instr.Send c v))
row_of Keyword.Close = row (codes "close") Role.Acts Arg.Channel Arg.Nothing (λ c b. Step.Do (Instr.Close c))
row_of Keyword.Lock = row (codes "lock") Role.Acts Arg.Mutex Arg.Nothing (λ m b. Step.Do (Instr.Lock m))
row_of Keyword.Unlock = row (codes "unlock") Role.Acts Arg.Mutex Arg.Nothing (λ m b. Step.Do (Instr.Unlock m))
row_of Keyword.Add = row (codes "add") Role.Acts Arg.WaitGroup Arg.Added (λ w n. Step.Do (Instr.Add w (pos n -ℤ pos most_added)))
row_of Keyword.Done = row (codes "done") Role.Acts Arg.WaitGroup Arg.Nothing (λ w b. Step.Do (Instr.Add w (negsuc 0)))
row_of Keyword.Wait = row (codes "wait") Role.Acts Arg.WaitGroup Arg.Nothing (λ w b. Step.Do (Instr.Wait w))
row_of Keyword.CWait = row (codes "cwait") Role.Acts Arg.Cond Arg.Nothing (λ k b. Step.Do (Instr.CWait k))
row_of Keyword.Signal = row (codes "signal") Role.Acts Arg.Cond Arg.Nothing (λ k b. Step.Do (Instr.Signal k))
row_of Keyword.Broadcast = row (codes "broadcast") Role.Acts Arg.Cond Arg.Nothing (λ k b. Step.Do (Instr.Broadcast k))
row_of Keyword.With = row (codes "with") Role.Acts Arg.Context Arg.Nothing (λ x b. Step.Do (Instr.With x))
row_of Keyword.Cancel = row (codes "cancel") Role.Acts Arg.Endable Arg.Nothing (λ x b. Step.Do (Instr.Cancel x None))
row_of Keyword.CancelCause = row (codes "cancel") Role.Acts Arg.Causable Arg.Error (λ x e. Step.Do (Instr.Cancel x (Some e)))
row_of Keyword.ErrOf = row (codes "err") Role.Acts Arg.Context Arg.Nothing (λ x b. Step.Do (Instr.ErrOf x))
row_of Keyword.CauseOf = row (codes "cause") Role.Acts Arg.Context Arg.Nothing (λ x b. Step.Do (Instr.CauseOf x))
row_of Keyword.After = row (codes "after") Role.Acts Arg.Hook Arg.Nothing (λ s b. Step.Do (Instr.After s))
row_of Keyword.Unhook = row (codes "unhook") Role.Acts Arg.Hook Arg.Nothing (λ s b. Step.Do (Instr.Unhook s))

-- those that a line's first word tells by itself
abbrev pub keywords : List Keyword
keywords =
    Keyword.Timer ∷ Keyword.Ticker ∷ Keyword.AfterFunc ∷ Keyword.Chan ∷ Keyword.Mutex ∷ Keyword.Wg ∷ Keyword.Cond ∷ Keyword.Hook ∷ Keyword.Error ∷ Keyword.Func ∷ Keyword.End ∷ Keyword.Loop ∷ Keyword.Select ∷ Keyword.Default ∷ Keyword.Say ∷ Keyword.Now ∷ Keyword.Sleep ∷ Keyword.Go ∷ Keyword.New
    ∷ Keyword.Stop ∷ Keyword.Reset ∷ Keyword.Recv ∷ Keyword.Make ∷ Keyword.Send ∷ Keyword.Close
    ∷ Keyword.Lock ∷ Keyword.Unlock ∷ Keyword.Add ∷ Keyword.Done ∷ Keyword.Wait ∷ Keyword.CWait ∷ Keyword.Signal ∷ Keyword.Broadcast
    ∷ Keyword.With ∷ Keyword.ErrOf ∷ Keyword.CauseOf ∷ Keyword.After ∷ Keyword.Unhook ∷ []

abbrev pub keyword_in : List Keyword → List ℕ → Option Keyword
keyword_in [] word = None
keyword_in (k ∷ ks) word = if bytes_eq word (row_of k).word then Some k else keyword_in ks word

-- what a case does
abbrev pub case_keywords : List Keyword
case_keywords = Keyword.CaseRecv ∷ Keyword.CaseSend ∷ []

-- the keyword that the first word of a line is; `case`, `ctx` and `cancel` are none by themselves
abbrev pub keyword_of : List ℕ → Option Keyword
keyword_of word = keyword_in keywords word

-- the keyword of a case that has this word behind `case`
abbrev pub case_keyword_of : List ℕ → Option Keyword
case_keyword_of word = keyword_in case_keywords word

-- the form that the fourth word of a context's line tells, if it tells one
abbrev pub ctx_form_of : List ℕ → Option CtxForm
ctx_form_of word =
    if bytes_eq word (codes "cancel") then Some CtxForm.Cancel
    else if bytes_eq word (codes "cause") then Some CtxForm.Cause
    else if bytes_eq word (codes "timeout") then Some CtxForm.Timeout
    else if bytes_eq word (codes "without") then Some CtxForm.Without
    else None

-- the keyword of a context of this form; a timeout has a cause, where one is named, or none
abbrev pub ctx_with : Bool → CtxForm → Keyword
ctx_with caused CtxForm.Cancel = Keyword.CtxCancel
ctx_with caused CtxForm.Cause = Keyword.CtxCause
ctx_with caused CtxForm.Timeout = if caused then Keyword.CtxTimeoutCause else Keyword.CtxTimeout
ctx_with caused CtxForm.Without = Keyword.CtxWithout

abbrev pub ctx_keyword_of : List ℕ → Bool → Option Keyword
ctx_keyword_of word caused = option_map (ctx_with caused) (ctx_form_of word)

-- the keyword of `cancel`, with a cause or without
abbrev pub cancel_with : Bool → Keyword
cancel_with caused = if caused then Keyword.CancelCause else Keyword.Cancel

abbrev pub form_of : Keyword → Form
form_of k = (row_of k).form

abbrev pub step_of : Keyword → Values → Step
step_of k = (row_of k).step
