-- Where a record agrees with the one-thread machine.
use Rattle.std.specs.Prelude.{ℕ, ◌-◌, ◌≡◌, ◌⊎◌, cond, nat_lt, IsTrue, length, slice_get}
use Rattle.std.specs.declared.option.Option.{Option}
use Rattle.std.specs.declared.option.Option.TheVariants.{None, Some}
use Rattle.gt_model.specs.declared.script.Script.{Script}
use Rattle.gt_model.specs.declared.script.Decl.{Decl}
use Rattle.gt_model.specs.declared.script.What.{What}
use Rattle.gt_model.specs.declared.state.Timer.{Timer}
use Rattle.gt_model.specs.Script.{is_ctx}
use Rattle.gt_rules.specs.State.{State, due_of, sleeps_until, timer_at, context_at, has_ended}
use Rattle.gt_book.specs.Steps.{live_deadline}
use Rattle.gt_rec.specs.declared.RecKind.{RecKind}
use Rattle.gt_rec.specs.Rec.{Rec, shown}

-- The records of the declarations have the first numbers, and those of the sleeps of goroutines the numbers behind them: the sleep of goroutine g has g more
-- than there are declarations
abbrev pub of_declaration : Script → ℕ → Option Decl
of_declaration script id = slice_get script.decls id

abbrev pub kind_of_what : What → Option RecKind
kind_of_what What.Timer = Some RecKind.Timer
kind_of_what What.Ticker = Some RecKind.Ticker
kind_of_what (What.AfterFunc f) = Some RecKind.Func
kind_of_what (What.Chan cap) = None
kind_of_what What.Mutex = None
kind_of_what What.Wg = None
kind_of_what (What.Cond mutex) = None
kind_of_what (What.Ctx parent form) = Some RecKind.Deadline
kind_of_what (What.Hook ctx func) = None
kind_of_what What.Error = None
kind_of_what What.Function = None

-- the kind of the record of a number; a function, a channel and the like have none
abbrev pub kind_by : Script → ℕ → Option RecKind
kind_by script id = elim (of_declaration script id) [ None ↦ Some RecKind.Sleep | Some decl ↦ kind_of_what decl.what ]

-- the own deadline of a context that has not ended
abbrev pub live_at : State → ℕ → Option ℕ
live_at s x = elim (context_at s x) [ None ↦ None | Some r ↦ live_deadline r ]

-- the due time of the machine that the record of a number has to show: that of a timer or of a context, or the end of a goroutine's sleep
abbrev pub due_by : Script → State → ℕ → Option ℕ
due_by script s id = cond (nat_lt id (length script.decls)) (cond (is_ctx script id) (live_at s id) (due_of s id)) (sleeps_until s (id - length script.decls))

abbrev pub period_of_timer : Option Timer → ℕ
period_of_timer None = 0
period_of_timer (Some r) = r.period

-- the same for the period: a sleep has none
abbrev pub period_by : Script → State → ℕ → ℕ
period_by script s id = cond (nat_lt id (length script.decls)) (period_of_timer (timer_at s id)) 0

-- A record shows the machine's due time. That of a context that has ended may show any, until it is dropped: an end touches no record
abbrev pub Shows : Script → State → Rec → Type 0
Shows script s r = (shown r ≡ due_by script s r.id) ⊎ (IsTrue (is_ctx script r.id) × IsTrue (has_ended s r.id))

-- a record agrees with the machine: its kind is that of its number, and it shows the machine's due time and period
pub record Agrees (script : Script) (s : State) (r : Rec) : Type 0 where
  pub kind : kind_by script r.id ≡ Some r.kind
  pub shown : Shows script s r
  pub period : r.period ≡ period_by script s r.id
