-- How contexts end, and by which time: told by the entries and the script alone.
use Rattle.std.specs.Prelude.{ℕ, cond, Bool, true, false, ◌||◌, is_some, List, [], ◌∷◌, ◌++◌, map, set}
use Rattle.std.specs.declared.option.Option.{Option}
use Rattle.std.specs.declared.option.Option.TheVariants.{None, Some}
use Rattle.std.specs.Option.{option_map}
use Rattle.gt_model.specs.declared.script.Script.{Script}
use Rattle.gt_model.specs.declared.script.Decl.{Decl}
use Rattle.gt_model.specs.declared.context.ErrVal.{ErrVal}
use Rattle.gt_model.specs.declared.context.CauseVal.{CauseVal}
use Rattle.gt_model.specs.declared.context.End.{End}
use Rattle.gt_model.specs.declared.entry.Entry.{Entry}
use Rattle.gt_model.specs.Script.{form_of, ctx_of}
use Rattle.gt_model.specs.Tables.{at}
use Rattle.gt_rules.specs.Contexts.{heeded, above, own_by, cancel_end, named_by, expiry_end}
use Rattle.gt_rules.specs.Ready.{is_due}
use Rattle.gt_laws.specs.Told.{reaches, clock_told, ctx_world_told, now_told, stands_told}

-- ---- the first end that reaches a context

-- The context that an entry ends, and how it ends: a call ends it with the cause that its instruction names, and its deadline with the one that its declaration
-- names. One that is made below an ended context and is due at once has the end of that one, which came before
abbrev pub end_by : Script → List Entry → Entry → Option (ℕ × End)
end_by script front (Entry.CtxMake g x true) = Some (x, expiry_end script x)
end_by script front (Entry.Cancel g x true starts) = Some (x, cancel_end (named_by (stands_told script g front)))
end_by script front (Entry.Expire x starts) = Some (x, expiry_end script x)
end_by script front _ = None

-- the end of a context that the end of another one brings, where it reaches it
abbrev pub end_for : Script → ℕ → Option (ℕ × End) → Option End
end_for script x None = None
end_for script x (Some e) = cond (reaches script e.0 x) (Some e.1) None

abbrev pub first_of : Option End → Option End → Option End
first_of None later = later
first_of (Some first) later = Some first

-- the first end that reaches context x by the entries of h, which come after those of front
abbrev pub end_from : Script → ℕ → List Entry → List Entry → Option End
end_from script x front [] = None
end_from script x front (e ∷ h) = first_of (end_for script x (end_by script front e)) (end_from script x (front ++ e ∷ []) h)

-- the end of context x: the first one that reaches it, be it of x or of a context above it, and made before x or after
abbrev pub end_told : Script → ℕ → List Entry → Option End
end_told script x h = end_from script x [] h

abbrev pub ended_told : Script → ℕ → List Entry → Bool
ended_told script x h = is_some (end_told script x h)

abbrev pub error_told : Script → ℕ → List Entry → Option ErrVal
error_told script x h = option_map (λ (end : End). end.err) (end_told script x h)

abbrev pub cause_told : Script → ℕ → List Entry → Option CauseVal
cause_told script x h = option_map (λ (end : End). end.cause) (end_told script x h)

-- whether the context of a hook has ended
abbrev pub ended_some : Script → List Entry → Option ℕ → Bool
ended_some script h None = false
ended_some script h (Some x) = ended_told script x h

abbrev pub hook_due_told : Script → ℕ → List Entry → Bool
hook_due_told script k h = ended_some script h (ctx_of script k)

-- ---- the own deadlines of contexts, by declaration

-- the first one on a way up
abbrev pub first_time : List (Option ℕ) → List ℕ → Option ℕ
first_time owns [] = None
first_time owns (x ∷ xs) = elim (at owns x) [ None ↦ first_time owns xs | Some time ↦ Some time ]

-- the deadline of the context whose deadline reaches another one
abbrev pub parent_time : Script → List (Option ℕ) → Option ℕ → Option ℕ
parent_time script owns None = None
parent_time script owns (Some p) = first_time owns (above (heeded script) p)

-- The own deadline that a context gets which goroutine g makes: so long after the clock of g as its form says, unless the deadline above it is earlier. One
-- below an ended context gets none
abbrev pub own_given : Script → List Entry → List (Option ℕ) → ℕ → ℕ → Option ℕ
own_given script front owns g x =
    cond (ended_told script x front) None (own_by (form_of script x) (now_told script g front) (parent_time script owns (heeded script x)))

abbrev pub owns_by : Script → List Entry → List (Option ℕ) → Entry → List (Option ℕ)
owns_by script front owns (Entry.CtxMake g x ended) = set owns x (own_given script front owns g x)
owns_by script front owns _ = owns

-- those that the entries of h leave, which come after those of front
abbrev pub owns_from : Script → List Entry → List (Option ℕ) → List Entry → List (Option ℕ)
owns_from script front owns [] = owns
owns_from script front owns (e ∷ h) = owns_from script (front ++ e ∷ []) (owns_by script front owns e) h

abbrev pub owns_told : Script → List Entry → List (Option ℕ)
owns_told script h = owns_from script [] (map (λ (d : Decl). None) script.decls) h

abbrev pub own_told : Script → ℕ → List Entry → Option ℕ
own_told script x h = at (owns_told script h) x

-- whether context x, which g makes, ends at once: an end has come to a context above it, or its own deadline has
abbrev pub ends_at_once : Script → ℕ → ℕ → List Entry → Bool
ends_at_once script g x front = ended_told script x front || is_due (own_given script front (owns_told script front) g x) (now_told script g front)

-- whether the clock of its world has come to the own deadline of context x
abbrev pub own_is_due : Script → ℕ → List Entry → Bool
own_is_due script x front = is_due (own_told script x front) (clock_told (ctx_world_told script x front) front)
