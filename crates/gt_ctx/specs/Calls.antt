-- What each call answers, and what it makes of the contents.
use Rattle.std.specs.Prelude.{◌≡◌, ℕ, ◌+◌, min, Bool, true, false, ◌&&◌, nat_lt, nat_le, if◌then◌else◌, List, [], map, filter, drop, ◌++◌, length, slice_set, replicate, Option, None, Some, is_some, is_none}
use Rattle.std.specs.List.{range_with_len}
use Rattle.std.specs.Option.{option_map, option_and_then, option_map_or, option_or}
use Rattle.gt_model.specs.Times.{greatest_time}
use Rattle.gt_ctx.specs.declared.decl.CtxDecl.{CtxDecl}
use Rattle.gt_model.specs.declared.context.Form.{Form}
use Rattle.gt_model.specs.declared.context.Context.{Context}
use Rattle.gt_model.specs.declared.context.End.{End}
use Rattle.gt_model.specs.declared.context.HookState.{HookState}
use Rattle.gt_ctx.specs.declared.ends.Made.{Made}
use Rattle.gt_ctx.specs.declared.ends.After.{After}
use Rattle.gt_ctx.specs.declared.ends.Cut.{Cut}
use Rattle.gt_ctx.specs.Decls.{decl_at, heeded, expiry_by, ctx_by}
use Rattle.gt_ctx.specs.Contents.{Contents, context_at, end_at, deadline, is_reached, hook_at}
use Rattle.gt_rules.specs.Contexts.{is_waiting_hook}

-- a deadline, unless the parent's is strictly earlier
abbrev pub unless_earlier : ℕ → Option ℕ → Option ℕ
unless_earlier due None = Some due
unless_earlier due (Some parents) = if nat_lt parents due then None else Some due

-- the own deadline of a context of this form, made at now below a parent with this deadline
abbrev pub own_by : Form → Option ℕ → ℕ → Option ℕ
own_by Form.Cancel parents now = None
own_by Form.Cause parents now = None
own_by (Form.Timeout d cause) parents now = unless_earlier (min greatest_time (now + d)) parents
own_by Form.Without parents now = None

-- what is kept of a context that is made below a parent that has ended so, or below one without an error
abbrev pub kept_by : Form → ℕ → ℕ → Option ℕ → Option End → Context
kept_by form world now own (Some end) = record { world = world; own = None; end = Some end }
kept_by form world now None None = record { world = world; own = None; end = None }
kept_by form world now (Some due) None =
    record { world = world; own = Some due; end = if nat_le due now then Some (expiry_by form) else None }

-- the deadline and the end of the parent that a context heeds
abbrev pub parents_deadline : Contents → ℕ → Option ℕ
parents_deadline c x = option_and_then (deadline c) (heeded c.decls x)

abbrev pub parents_end : Contents → ℕ → Option End
parents_end c x = option_and_then (end_at c.contexts) (heeded c.decls x)

abbrev pub form_by : CtxDecl → Form
form_by CtxDecl.Other = Form.Cancel
form_by (CtxDecl.Context parent form) = form
form_by (CtxDecl.Hook ctx) = Form.Cancel

abbrev pub form_at : List CtxDecl → ℕ → Form
form_at decls x = form_by (decl_at decls x)

-- the context that is made
abbrev pub made_context : Contents → ℕ → ℕ → ℕ → Context
made_context c x world now =
    let form = form_at c.decls x
    in kept_by form world now (own_by form (parents_deadline c x) now) (parents_end c x)

abbrev pub answer_made : Option ℕ → Option End → Made
answer_made own None = Made.Live own
answer_made own (Some end) = Made.Ended end.err end.cause

abbrev pub after_make : Contents → ℕ → Context → Contents
after_make c x kept = record c { contexts = slice_set c.contexts x (Some kept) }

-- the end of a context without an error; a kept one stays
abbrev pub ended_kept : End → Context → Context
ended_kept end kept = record kept { end = option_or kept.end (Some end) }

-- the cut of x: each context that is reached and has no error has this end from now on
abbrev pub cut_context : Bool → End → Option Context → Option Context
cut_context reached end kept = if reached then option_map (ended_kept end) kept else kept

abbrev pub cut_contexts : Contents → ℕ → End → List (Option Context)
cut_contexts c x end =
    map
    (λ y. cut_context (is_reached c.decls c.contexts x y) end (context_at c.contexts y))
    (range_with_len 0 (length c.decls))

-- the context of a hook, and that context's end
abbrev pub ctx_of : List CtxDecl → ℕ → Option ℕ
ctx_of decls s = ctx_by (decl_at decls s)

abbrev pub hooks_end : Contents → ℕ → Option End
hooks_end c s = option_and_then (end_at c.contexts) (ctx_of c.decls s)

-- whether a cut that reaches these contexts starts a hook: it waits on one of them that has no error
abbrev pub starts_by : (ℕ → Bool) → List CtxDecl → List (Option Context) → List HookState → ℕ → Bool
starts_by reached decls contexts hooks s =
    is_waiting_hook (hook_at hooks s)
    && option_map_or (λ y. reached y && is_none (end_at contexts y)) (ctx_of decls s) false

abbrev pub is_starting : Contents → ℕ → ℕ → Bool
is_starting c x s = starts_by (is_reached c.decls c.contexts x) c.decls c.contexts c.hooks s

-- these hooks, in order of declaration
abbrev pub starting : Contents → ℕ → List ℕ
starting c x = filter (is_starting c x) (range_with_len 0 (length c.decls))

abbrev pub cut_hook : Bool → HookState → HookState
cut_hook starts hook = if starts then HookState.Started else hook

abbrev pub cut_hooks : Contents → ℕ → List HookState
cut_hooks c x =
    map
    (λ s. cut_hook (is_starting c x s) (hook_at c.hooks s))
    (range_with_len 0 (length c.decls))

abbrev pub cut : Contents → ℕ → End → Contents
cut c x end = record c {
  contexts = cut_contexts c x end;
  hooks = cut_hooks c x;
  started = c.started ++ starting c x;
}

-- nothing is cut where x has an error
abbrev pub after_cancel : Contents → ℕ → End → Contents
after_cancel c x end = if is_none (end_at c.contexts x) then cut c x end else c

-- a call has made this of the contents, but for the list of those that have ended
pub record Becomes (new made : Contents) : Type 0 where
  pub declared : new.decls ≡ made.decls
  pub contexts : new.contexts ≡ made.contexts
  pub hooks : new.hooks ≡ made.hooks
  pub started : new.started ≡ made.started

abbrev pub answer_cancel : Contents → ℕ → Cut
answer_cancel c x =
    if is_none (end_at c.contexts x) then record { newly = true; starts = length (starting c x) }
    else record { newly = false; starts = 0 }

-- a hook that is registered starts at once where its context has an error
abbrev pub after_registering : Contents → ℕ → Contents
after_registering c s = record c {
  hooks = slice_set c.hooks s (if is_some (hooks_end c s) then HookState.Started else HookState.Waiting);
}

abbrev pub answer_after : Contents → ℕ → After
answer_after c s = if is_some (hooks_end c s) then After.Starts else After.Waits

-- a hook that waits is stopped
abbrev pub after_stop : Contents → ℕ → Contents
after_stop c s =
    if is_waiting_hook (hook_at c.hooks s) then record c { hooks = slice_set c.hooks s HookState.Stopped } else c

-- the first of the started hooks is handed out
abbrev pub handed_out : Contents → Contents
handed_out c = record c { started = drop 1 c.started }

-- nothing was made or registered
abbrev pub fresh : List CtxDecl → Contents
fresh decls = record {
  decls = decls;
  contexts = replicate (length decls) None;
  hooks = replicate (length decls) HookState.Unregistered;
  started = [];
  ended = [];
}
