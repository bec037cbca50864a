-- The tree of contexts: which deadline each has, what an end reaches, and which hooks it starts (Go 1.23, package context).
use Rattle.std.specs.Prelude.{ℕ, zero, suc, ◌+◌, ◌==◌, Bool, true, false, not, ◌&&◌, cond, min, nat_le, nat_lt, is_some, is_none, List, [], ◌∷◌, map, filter, set, length, slice_index, slice_index_or}
use Rattle.std.specs.List.{list_any, enumerate_from}
use Rattle.std.specs.Option.{option_map}
use Rattle.std.specs.declared.option.Option.{Option}
use Rattle.std.specs.declared.option.Option.TheVariants.{None, Some}
use Rattle.gt_model.specs.declared.script.Script.{Script}
use Rattle.gt_model.specs.declared.script.Instr.{Instr}
use Rattle.gt_model.specs.declared.context.Form.{Form}
use Rattle.gt_model.specs.declared.context.ErrVal.{ErrVal}
use Rattle.gt_model.specs.declared.context.CauseVal.{CauseVal}
use Rattle.gt_model.specs.declared.context.End.{End}
use Rattle.gt_model.specs.declared.context.Context.{Context}
use Rattle.gt_model.specs.declared.context.HookState.{HookState}
use Rattle.gt_model.specs.Script.{form_of, parent_of, is_endable, ctx_of}
use Rattle.gt_model.specs.Times.{greatest_time}
use Rattle.gt_rules.specs.State.{State, clock, context_at, end_at, own_at, hook_at, has_ended}

-- ---- who is above whom

-- the context from which the end and the deadline reach this one: of the form `without` none does
abbrev pub heeded : Script → ℕ → Option ℕ
heeded script x = cond (is_endable script x) (parent_of script x) None

-- a context and those above it, so many at most
unfoldable pub line_of : (ℕ → Option ℕ) → ℕ → ℕ → List ℕ
line_of up zero x = x ∷ []
line_of up (suc more) x = x ∷ elim (up x) [ None ↦ [] | Some y ↦ line_of up more y ]

-- all of them: numbers fall on the way up
abbrev pub above : (ℕ → Option ℕ) → ℕ → List ℕ
above up x = line_of up x x

-- ---- deadlines

abbrev pub first_own : State → List ℕ → Option ℕ
first_own s [] = None
first_own s (x ∷ xs) = elim (own_at s x) [ None ↦ first_own s xs | Some at ↦ Some at ]

-- the deadline of a context: its own one, else that of the one that it heeds
abbrev pub deadline_of : Script → State → ℕ → Option ℕ
deadline_of script s x = first_own s (above (heeded script) x)

abbrev pub deadline_above : Script → State → ℕ → Option ℕ
deadline_above script s x = elim (heeded script x) [ None ↦ None | Some p ↦ deadline_of script s p ]

-- a time, unless another one is earlier
abbrev pub unless_earlier : Option ℕ → ℕ → Option ℕ
unless_earlier None at = Some at
unless_earlier (Some other) at = cond (nat_lt other at) None (Some at)

-- the own deadline of a context that is made at a time, below one with a deadline
abbrev pub own_by : Option Form → ℕ → Option ℕ → Option ℕ
own_by None now parents = None
own_by (Some Form.Cancel) now parents = None
own_by (Some Form.Cause) now parents = None
own_by (Some (Form.Timeout d cause)) now parents = unless_earlier parents (min (now + d) greatest_time)
own_by (Some Form.Without) now parents = None

-- ---- how a context ends

-- by a cancellation: its cause is the error that the call names, if it names one
abbrev pub cancel_cause : Option ℕ → CauseVal
cancel_cause None = CauseVal.Canceled
cancel_cause (Some e) = CauseVal.Named e

abbrev pub cancel_end : Option ℕ → End
cancel_end named = record { err = ErrVal.Canceled; cause = cancel_cause named }

-- the error that an instruction names
abbrev pub named_by : Option Instr → Option ℕ
named_by None = None
named_by (Some i) = elim i [ Instr.Cancel x cause ↦ cause | _ ↦ None ]

-- by its deadline: its cause is the error that its form names, if it names one
abbrev pub expiry_cause : Option Form → CauseVal
expiry_cause (Some (Form.Timeout d (Some e))) = CauseVal.Named e
expiry_cause _ = CauseVal.DeadlineExceeded

abbrev pub expiry_end : Script → ℕ → End
expiry_end script x = record { err = ErrVal.DeadlineExceeded; cause = expiry_cause (form_of script x) }

-- ---- a context that is made

-- the end of the context that it heeds
abbrev pub end_above : Script → State → ℕ → Option End
end_above script s x = elim (heeded script x) [ None ↦ None | Some p ↦ end_at s p ]

-- the end at once of one whose deadline has come
abbrev pub end_by : End → Option ℕ → ℕ → Option End
end_by end None now = None
end_by end (Some at) now = cond (nat_le at now) (Some end) None

-- below one that has ended it ends the same way, and has no deadline of its own
abbrev pub made_below : ℕ → Option End → Option ℕ → End → ℕ → Context
made_below w (Some end) own expiry now = record { world = w; own = None; end = Some end }
made_below w None own expiry now = record { world = w; own = own; end = end_by expiry own now }

-- by a goroutine of world w
abbrev pub made_context : Script → State → ℕ → ℕ → Context
made_context script s w x =
    made_below w (end_above script s x) (own_by (form_of script x) (clock s w) (deadline_above script s x)) (expiry_end script x) (clock s w)

-- ---- what an end reaches

-- the one from which an end reaches a context that was made
abbrev pub reached_from : Script → State → ℕ → Option ℕ
reached_from script s y = cond (is_some (context_at s y)) (heeded script y) None

-- the end of x reaches x and those that were made below it
abbrev pub is_reached : Script → State → ℕ → ℕ → Bool
is_reached script s x y = list_any (λ z. z == x) (above (reached_from script s) y)

-- it ends those that it reaches and that have no end yet
abbrev pub ended_by : End → Context → Context
ended_by end r = record r { end = elim r.end [ None ↦ Some end | Some first ↦ Some first ] }

abbrev pub cut_one : Script → State → ℕ → End → ℕ × Option Context → Option Context
cut_one script s x end e = cond (is_reached script s x e.0) (option_map (ended_by end) e.1) e.1

abbrev pub cut_contexts : Script → State → ℕ → End → List (Option Context)
cut_contexts script s x end = map (cut_one script s x end) (enumerate_from 0 s.contexts)

-- and starts the hooks that wait on these
abbrev pub is_waiting_hook : HookState → Bool
is_waiting_hook HookState.Unregistered = false
is_waiting_hook HookState.Waiting = true
is_waiting_hook HookState.Started = false
is_waiting_hook HookState.Stopped = false

abbrev pub waits_on : Script → State → ℕ → Option ℕ → Bool
waits_on script s x None = false
waits_on script s x (Some y) = is_reached script s x y && not (has_ended s y)

abbrev pub is_starting : Script → State → ℕ → ℕ × HookState → Bool
is_starting script s x e = is_waiting_hook e.1 && waits_on script s x (ctx_of script e.0)

-- these hooks, in the order of their declarations
abbrev pub starting : Script → State → ℕ → List ℕ
starting script s x = map (λ (e : ℕ × HookState). e.0) (filter (is_starting script s x) (enumerate_from 0 s.hooks))

abbrev pub cut_hook : Script → State → ℕ → ℕ × HookState → HookState
cut_hook script s x e = cond (is_starting script s x e) HookState.Started e.1

abbrev pub cut_hooks : Script → State → ℕ → List HookState
cut_hooks script s x = map (cut_hook script s x) (enumerate_from 0 s.hooks)

-- how many an end of x starts: none where x has ended
abbrev pub start_count : Script → State → ℕ → ℕ
start_count script s x = cond (has_ended s x) 0 (length (starting script s x))

-- ---- hooks

-- whether the context of a hook has ended, and its world
abbrev pub hook_is_due : Script → State → ℕ → Bool
hook_is_due script s h = elim (ctx_of script h) [ None ↦ false | Some x ↦ has_ended s x ]

abbrev pub hook_world : Script → State → ℕ → ℕ
hook_world script s h = elim (ctx_of script h) [ None ↦ 0 | Some x ↦ elim (context_at s x) [ None ↦ 0 | Some r ↦ r.world ] ]

-- it starts at once where its context has ended, and waits else
abbrev pub registered : Script → State → ℕ → HookState
registered script s h = cond (hook_is_due script s h) HookState.Started HookState.Waiting

-- one that waits is stopped
abbrev pub unhooked : HookState → HookState
unhooked hook = cond (is_waiting_hook hook) HookState.Stopped hook
