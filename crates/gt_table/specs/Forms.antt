-- What a line is made of.
use Rattle.std.specs.Prelude.{ℕ, ◌+◌, Bool, true, false}
use Rattle.std.specs.declared.option.Option.{Option}
use Rattle.std.specs.declared.option.Option.TheVariants.{None, Some}
use Rattle.gt_model.specs.Good.{most_passes, most_capacity, most_added}
use Rattle.gt_model.specs.Times.{greatest_time}
use Rattle.gt_table.specs.declared.form.Arg.{Arg}
use Rattle.gt_table.specs.declared.form.CtxForm.{CtxForm}
use Rattle.gt_table.specs.declared.form.Form.{Form}
use Rattle.gt_table.specs.declared.form.Kind.{Kind}
use Rattle.gt_table.specs.declared.form.Role.{Role}

abbrev pub form_with : Role → Arg → Arg → Arg → Arg → Form
form_with role first second third fourth = record { role = role; first = first; second = second; third = third; fourth = fourth }

-- what a line declares its name as
abbrev pub declared_kind : Role → Option Kind
declared_kind (Role.Declares kind) = Some kind
declared_kind Role.Closes = None
declared_kind Role.Acts = None
declared_kind Role.Loops = None
declared_kind Role.Selects = None
declared_kind Role.Chooses = None
declared_kind Role.Defaults = None

abbrev pub is_declaration : Role → Bool
is_declaration (Role.Declares kind) = true
is_declaration Role.Closes = false
is_declaration Role.Acts = false
is_declaration Role.Loops = false
is_declaration Role.Selects = false
is_declaration Role.Chooses = false
is_declaration Role.Defaults = false

abbrev pub is_kind_function : Kind → Bool
is_kind_function Kind.Timer = false
is_kind_function Kind.Ticker = false
is_kind_function Kind.AfterFunc = false
is_kind_function Kind.Chan = false
is_kind_function Kind.Mutex = false
is_kind_function Kind.Wg = false
is_kind_function Kind.Cond = false
is_kind_function (Kind.Ctx form) = false
is_kind_function Kind.Hook = false
is_kind_function Kind.Error = false
is_kind_function Kind.Function = true

-- a timer that is set and stopped
abbrev pub is_kind_setting : Kind → Bool
is_kind_setting Kind.Timer = true
is_kind_setting Kind.Ticker = true
is_kind_setting Kind.AfterFunc = true
is_kind_setting Kind.Chan = false
is_kind_setting Kind.Mutex = false
is_kind_setting Kind.Wg = false
is_kind_setting Kind.Cond = false
is_kind_setting (Kind.Ctx form) = false
is_kind_setting Kind.Hook = false
is_kind_setting Kind.Error = false
is_kind_setting Kind.Function = false

-- a timer that is received from
abbrev pub is_kind_timer : Kind → Bool
is_kind_timer Kind.Timer = true
is_kind_timer Kind.Ticker = true
is_kind_timer Kind.AfterFunc = false
is_kind_timer Kind.Chan = false
is_kind_timer Kind.Mutex = false
is_kind_timer Kind.Wg = false
is_kind_timer Kind.Cond = false
is_kind_timer (Kind.Ctx form) = false
is_kind_timer Kind.Hook = false
is_kind_timer Kind.Error = false
is_kind_timer Kind.Function = false

abbrev pub is_kind_chan : Kind → Bool
is_kind_chan Kind.Timer = false
is_kind_chan Kind.Ticker = false
is_kind_chan Kind.AfterFunc = false
is_kind_chan Kind.Chan = true
is_kind_chan Kind.Mutex = false
is_kind_chan Kind.Wg = false
is_kind_chan Kind.Cond = false
is_kind_chan (Kind.Ctx form) = false
is_kind_chan Kind.Hook = false
is_kind_chan Kind.Error = false
is_kind_chan Kind.Function = false

-- a context may end that is not of the form `without`
abbrev pub ends : Option CtxForm → Bool
ends None = true
ends (Some CtxForm.Cancel) = true
ends (Some CtxForm.Cause) = true
ends (Some CtxForm.Timeout) = true
ends (Some CtxForm.Without) = false

-- and is canceled with a cause that is of the form `cause`
abbrev pub takes_cause : Option CtxForm → Bool
takes_cause None = false
takes_cause (Some CtxForm.Cancel) = false
takes_cause (Some CtxForm.Cause) = true
takes_cause (Some CtxForm.Timeout) = false
takes_cause (Some CtxForm.Without) = false

-- what is received from
abbrev pub is_kind_source : Kind → Bool
is_kind_source Kind.Timer = true
is_kind_source Kind.Ticker = true
is_kind_source Kind.AfterFunc = false
is_kind_source Kind.Chan = true
is_kind_source Kind.Mutex = false
is_kind_source Kind.Wg = false
is_kind_source Kind.Cond = false
is_kind_source (Kind.Ctx form) = ends form
is_kind_source Kind.Hook = false
is_kind_source Kind.Error = false
is_kind_source Kind.Function = false

abbrev pub is_kind_mutex : Kind → Bool
is_kind_mutex Kind.Timer = false
is_kind_mutex Kind.Ticker = false
is_kind_mutex Kind.AfterFunc = false
is_kind_mutex Kind.Chan = false
is_kind_mutex Kind.Mutex = true
is_kind_mutex Kind.Wg = false
is_kind_mutex Kind.Cond = false
is_kind_mutex (Kind.Ctx form) = false
is_kind_mutex Kind.Hook = false
is_kind_mutex Kind.Error = false
is_kind_mutex Kind.Function = false

abbrev pub is_kind_wg : Kind → Bool
is_kind_wg Kind.Timer = false
is_kind_wg Kind.Ticker = false
is_kind_wg Kind.AfterFunc = false
is_kind_wg Kind.Chan = false
is_kind_wg Kind.Mutex = false
is_kind_wg Kind.Wg = true
is_kind_wg Kind.Cond = false
is_kind_wg (Kind.Ctx form) = false
is_kind_wg Kind.Hook = false
is_kind_wg Kind.Error = false
is_kind_wg Kind.Function = false

abbrev pub is_kind_cond : Kind → Bool
is_kind_cond Kind.Timer = false
is_kind_cond Kind.Ticker = false
is_kind_cond Kind.AfterFunc = false
is_kind_cond Kind.Chan = false
is_kind_cond Kind.Mutex = false
is_kind_cond Kind.Wg = false
is_kind_cond Kind.Cond = true
is_kind_cond (Kind.Ctx form) = false
is_kind_cond Kind.Hook = false
is_kind_cond Kind.Error = false
is_kind_cond Kind.Function = false

-- a context; one that may end; one that is canceled with a cause
abbrev pub is_kind_ctx : Kind → Bool
is_kind_ctx Kind.Timer = false
is_kind_ctx Kind.Ticker = false
is_kind_ctx Kind.AfterFunc = false
is_kind_ctx Kind.Chan = false
is_kind_ctx Kind.Mutex = false
is_kind_ctx Kind.Wg = false
is_kind_ctx Kind.Cond = false
is_kind_ctx (Kind.Ctx form) = true
is_kind_ctx Kind.Hook = false
is_kind_ctx Kind.Error = false
is_kind_ctx Kind.Function = false

abbrev pub is_kind_endable : Kind → Bool
is_kind_endable Kind.Timer = false
is_kind_endable Kind.Ticker = false
is_kind_endable Kind.AfterFunc = false
is_kind_endable Kind.Chan = false
is_kind_endable Kind.Mutex = false
is_kind_endable Kind.Wg = false
is_kind_endable Kind.Cond = false
is_kind_endable (Kind.Ctx form) = ends form
is_kind_endable Kind.Hook = false
is_kind_endable Kind.Error = false
is_kind_endable Kind.Function = false

abbrev pub is_kind_causable : Kind → Bool
is_kind_causable Kind.Timer = false
is_kind_causable Kind.Ticker = false
is_kind_causable Kind.AfterFunc = false
is_kind_causable Kind.Chan = false
is_kind_causable Kind.Mutex = false
is_kind_causable Kind.Wg = false
is_kind_causable Kind.Cond = false
is_kind_causable (Kind.Ctx form) = takes_cause form
is_kind_causable Kind.Hook = false
is_kind_causable Kind.Error = false
is_kind_causable Kind.Function = false

abbrev pub is_kind_hook : Kind → Bool
is_kind_hook Kind.Timer = false
is_kind_hook Kind.Ticker = false
is_kind_hook Kind.AfterFunc = false
is_kind_hook Kind.Chan = false
is_kind_hook Kind.Mutex = false
is_kind_hook Kind.Wg = false
is_kind_hook Kind.Cond = false
is_kind_hook (Kind.Ctx form) = false
is_kind_hook Kind.Hook = true
is_kind_hook Kind.Error = false
is_kind_hook Kind.Function = false

abbrev pub is_kind_error : Kind → Bool
is_kind_error Kind.Timer = false
is_kind_error Kind.Ticker = false
is_kind_error Kind.AfterFunc = false
is_kind_error Kind.Chan = false
is_kind_error Kind.Mutex = false
is_kind_error Kind.Wg = false
is_kind_error Kind.Cond = false
is_kind_error (Kind.Ctx form) = false
is_kind_error Kind.Hook = false
is_kind_error Kind.Error = true
is_kind_error Kind.Function = false

-- the declaration of a function opens it
abbrev pub opens : Role → Bool
opens (Role.Declares kind) = is_kind_function kind
opens Role.Closes = false
opens Role.Acts = false
opens Role.Loops = false
opens Role.Selects = false
opens Role.Chooses = false
opens Role.Defaults = false

abbrev pub closes : Role → Bool
closes (Role.Declares kind) = false
closes Role.Closes = true
closes Role.Acts = false
closes Role.Loops = false
closes Role.Selects = false
closes Role.Chooses = false
closes Role.Defaults = false

-- whether it is an instruction
abbrev pub acts : Role → Bool
acts (Role.Declares kind) = false
acts Role.Closes = false
acts Role.Acts = true
acts Role.Loops = false
acts Role.Selects = true
acts Role.Chooses = false
acts Role.Defaults = false

-- whether it opens a loop
abbrev pub loops : Role → Bool
loops (Role.Declares kind) = false
loops Role.Closes = false
loops Role.Acts = false
loops Role.Loops = true
loops Role.Selects = false
loops Role.Chooses = false
loops Role.Defaults = false

-- whether a word is wanted there
abbrev pub is_wanted : Arg → Bool
is_wanted Arg.Nothing = false
is_wanted Arg.NewName = true
is_wanted Arg.Setting = true
is_wanted Arg.Channel = true
is_wanted Arg.Source = true
is_wanted Arg.Mutex = true
is_wanted Arg.WaitGroup = true
is_wanted Arg.Cond = true
is_wanted Arg.Parent = true
is_wanted Arg.Context = true
is_wanted Arg.Endable = true
is_wanted Arg.Causable = true
is_wanted Arg.Hook = true
is_wanted Arg.Error = true
is_wanted Arg.Function = true
is_wanted Arg.Duration = true
is_wanted Arg.Number = true
is_wanted Arg.Passes = true
is_wanted Arg.Capacity = true
is_wanted Arg.Added = true

-- whether a word of this kind spells an amount; the others are names
abbrev pub is_amount : Arg → Bool
is_amount Arg.Nothing = false
is_amount Arg.NewName = false
is_amount Arg.Setting = false
is_amount Arg.Channel = false
is_amount Arg.Source = false
is_amount Arg.Mutex = false
is_amount Arg.WaitGroup = false
is_amount Arg.Cond = false
is_amount Arg.Parent = false
is_amount Arg.Context = false
is_amount Arg.Endable = false
is_amount Arg.Causable = false
is_amount Arg.Hook = false
is_amount Arg.Error = false
is_amount Arg.Function = false
is_amount Arg.Duration = true
is_amount Arg.Number = true
is_amount Arg.Passes = true
is_amount Arg.Capacity = true
is_amount Arg.Added = true

-- whether a name that is declared as this kind may stand there
abbrev pub takes : Arg → Kind → Bool
takes Arg.Nothing kind = false
takes Arg.NewName kind = false
takes Arg.Setting kind = is_kind_setting kind
takes Arg.Channel kind = is_kind_chan kind
takes Arg.Source kind = is_kind_source kind
takes Arg.Mutex kind = is_kind_mutex kind
takes Arg.WaitGroup kind = is_kind_wg kind
takes Arg.Cond kind = is_kind_cond kind
takes Arg.Parent kind = is_kind_ctx kind
takes Arg.Context kind = is_kind_ctx kind
takes Arg.Endable kind = is_kind_endable kind
takes Arg.Causable kind = is_kind_causable kind
takes Arg.Hook kind = is_kind_hook kind
takes Arg.Error kind = is_kind_error kind
takes Arg.Function kind = is_kind_function kind
takes Arg.Duration kind = false
takes Arg.Number kind = false
takes Arg.Passes kind = false
takes Arg.Capacity kind = false
takes Arg.Added kind = false

-- whether it is the parent of a context
abbrev pub is_parent : Arg → Bool
is_parent Arg.Nothing = false
is_parent Arg.NewName = false
is_parent Arg.Setting = false
is_parent Arg.Channel = false
is_parent Arg.Source = false
is_parent Arg.Mutex = false
is_parent Arg.WaitGroup = false
is_parent Arg.Cond = false
is_parent Arg.Parent = true
is_parent Arg.Context = false
is_parent Arg.Endable = false
is_parent Arg.Causable = false
is_parent Arg.Hook = false
is_parent Arg.Error = false
is_parent Arg.Function = false
is_parent Arg.Duration = false
is_parent Arg.Number = false
is_parent Arg.Passes = false
is_parent Arg.Capacity = false
is_parent Arg.Added = false

-- the greatest value of a word of this kind: a place and a number have 32 bits, a parent counts from 1, a duration is a time, and what is added counts from the least that is
abbrev pub most_of : Arg → ℕ
most_of Arg.Nothing = 0
most_of Arg.NewName = 4294967295
most_of Arg.Setting = 4294967295
most_of Arg.Channel = 4294967295
most_of Arg.Source = 4294967295
most_of Arg.Mutex = 4294967295
most_of Arg.WaitGroup = 4294967295
most_of Arg.Cond = 4294967295
most_of Arg.Parent = 4294967296
most_of Arg.Context = 4294967295
most_of Arg.Endable = 4294967295
most_of Arg.Causable = 4294967295
most_of Arg.Hook = 4294967295
most_of Arg.Error = 4294967295
most_of Arg.Function = 4294967295
most_of Arg.Duration = greatest_time
most_of Arg.Number = 4294967295
most_of Arg.Passes = most_passes
most_of Arg.Capacity = most_capacity
most_of Arg.Added = most_added + most_added
