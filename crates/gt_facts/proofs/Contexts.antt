-- What is kept of contexts and hooks stays formed.
use Rattle.std.proofs.Common.{◌≡◌, ◌≢◌, ℕ, zero, suc, ◌+◌, ◌<◌, ◌≤◌, List, [], ◌∷◌, length, map, set, refl, sym, ap, subst, ◌∙◌, arith, Option, None, Some, Bool, true, false, not, cond, nat_le, nat_lt, min, slice_index_or, is_none, is_some, option_map, eqb, IsTrue, IfSome, IsSomeAnd}
use Rattle.std.specs.List.{enumerate_from}
use Rattle.std.proofs.lemmas.Bool.{and_parts, eqb-true, eqb-false}
use Rattle.std.proofs.lemmas.List.{length-map, length-set}
use Rattle.std.proofs.lemmas.List.FromFn.{length-enumerate_from}
use Rattle.gt_model.specs.declared.script.Script.{Script}
use Rattle.gt_model.specs.declared.script.Decl.{Decl}
use Rattle.gt_model.specs.declared.script.Instr.{Instr}
use Rattle.gt_model.specs.declared.script.What.{What}
use Rattle.gt_model.specs.declared.entry.Entry.{Entry}
use Rattle.gt_model.specs.declared.entry.Reason.{Reason}
use Rattle.gt_model.specs.declared.context.Form.{Form}
use Rattle.gt_model.specs.declared.context.End.{End}
use Rattle.gt_model.specs.declared.context.Context.{Context}
use Rattle.gt_model.specs.declared.context.HookState.{HookState}
use Rattle.gt_model.specs.Script.{what_at, names_hook, is_ctx, is_hook, form_of, parent_of, ctx_of}
use Rattle.gt_model.specs.Good.{IsGood, CancelsRightly, FormsRightly}
use Rattle.gt_model.specs.Named.{IsNamedCause}
use Rattle.gt_model.specs.Tables.{at, change}
use Rattle.gt_model.specs.Times.{greatest_time}
use Rattle.gt_model.proofs.Items.{at-set_same, at-set_other}
use Rattle.gt_model.proofs.Changes.{length-change}
use Rattle.gt_rules.specs.State.{State, clock, context_at, end_at, has_ended, hook_at, stands_at, world_of, is_registered}
use Rattle.gt_rules.specs.Contexts.{heeded, deadline_above, unless_earlier, own_by, cancel_cause, cancel_end, named_by, expiry_cause, expiry_end, end_above, end_by, made_below, made_context, is_reached, ended_by, cut_one, cut_contexts, is_starting, is_waiting_hook, waits_on, cut_hook, cut_hooks, registered, unhooked}
use Rattle.gt_rules.specs.Panics.{when, unmade_parent}
use Rattle.gt_rules.specs.Ready.{is_due}
use Rattle.gt_rules.specs.declared.change.Move.{Move}
use Rattle.gt_rules.specs.declared.change.TreeStep.{TreeStep}
use Rattle.gt_rules.specs.Change.{change_of}
use Rattle.gt_rules.specs.After.{first_state, number_of, grown, hooked, with_grown, with_hooked}
use Rattle.gt_rules.specs.Legal.{May, Does, Expires}
use Rattle.gt_facts.specs.Formed.{IsFormed, IsFormedContext, IsFormedHook}
use Rattle.gt_facts.proofs.Lookups.{names-Does}
use Rattle.gt_facts.proofs.Makers.{none-when, neither, calm-fault, some-not_none}
use Rattle.gt_facts.proofs.Starts.{unregistered, expires-open, waiting-registered}
use Rattle.gt_facts.proofs.Within.{form-rightly, ctx_within, hook_within, cancels-ctx}

pub record AreContexts (script : Script) (cs : List (Option Context)) : Type 0 where
  pub count : length cs ≡ length script.decls
  pub each : (x : ℕ) (r : Context) → at cs x ≡ Some r → IsFormedContext script x r

-- a hook that was registered, among contexts
pub record IsHookOf (script : Script) (cs : List (Option Context)) (h : ℕ) : Type 0 where
  pub named : IsTrue (is_hook script h)
  pub made : IsSomeAnd (ctx_of script h) (λ x. IsTrue (is_some (at cs x)))

pub record AreHooks (script : Script) (cs : List (Option Context)) (hooks : List HookState) : Type 0 where
  pub count : length hooks ≡ length script.decls
  pub each : (h : ℕ) → IsTrue (is_registered (slice_index_or hooks h HookState.Unregistered)) → IsHookOf script cs h

pub contexts-of : (script : Script) (s : State) → IsFormed script s → AreContexts script s.contexts
contexts-of script s formed = record { count = formed.contexts; each = formed.ctxs }

pub hooks-of : (script : Script) (s : State) → IsFormed script s → AreHooks script s.contexts s.hooks
hooks-of script s formed = record {
  count = formed.hooks;
  each = λ h is. (let was : IsFormedHook script s h = formed.hooked h is in record { named = was.named; made = was.made });
}

-- ---- what an entry does to them fits

-- a context that is made is declared as one and has its place; it was not made, and its parent was
pub record FitsDerived (script : Script) (s : State) (x : ℕ) : Type 0 where
  pub named : IsTrue (is_ctx script x)
  pub within : x < length s.contexts
  pub fresh : is_some (context_at s x) ≡ false
  pub parent : IfSome (parent_of script x) (λ p. is_some (context_at s p) ≡ true)

-- one that ends was made, and has no end yet
pub record FitsEnd (script : Script) (s : State) (x : ℕ) : Type 0 where
  pub named : IsTrue (is_ctx script x)
  pub within : x < length s.contexts
  pub made : is_some (context_at s x) ≡ true
  pub going : has_ended s x ≡ false

-- a hook that is registered is declared as one and has its place; it was not registered, and its context was made
pub record FitsRegistered (script : Script) (s : State) (h : ℕ) : Type 0 where
  pub named : IsTrue (is_hook script h)
  pub within : h < length s.hooks
  pub fresh : is_registered (hook_at s h) ≡ false
  pub made : IsSomeAnd (ctx_of script h) (λ x. IsTrue (is_some (context_at s x)))

-- and one that is taken back was registered
pub record FitsUnhooked (script : Script) (s : State) (h : ℕ) : Type 0 where
  pub named : IsTrue (is_hook script h)
  pub within : h < length s.hooks
  pub registered : is_registered (hook_at s h) ≡ true

abbrev pub FitsTree : Script → State → ℕ → TreeStep → Type 0
FitsTree script s x TreeStep.Derived = FitsDerived script s x
FitsTree script s x TreeStep.Canceled = FitsEnd script s x
FitsTree script s x TreeStep.Expired = FitsEnd script s x
FitsTree script s x TreeStep.Registered = FitsRegistered script s x
FitsTree script s x TreeStep.Unhooked = FitsUnhooked script s x

made-parent : (s : State) (o : Option ℕ) → unmade_parent s o ≡ None → IfSome o (λ p. is_some (context_at s p) ≡ true)
made-parent s None calm = tt
made-parent s (Some p) calm = some-not_none (context_at s p) (none-when (is_none (context_at s p)) Reason.Unmade calm)

-- the context of a hook is declared with it
abbrev ctx_in : Option What → Option ℕ
ctx_in w = elim w [ None ↦ None | Some what ↦ elim what [ What.Hook ctx func ↦ Some ctx | _ ↦ None ] ]

made-hook : (s : State) (w : Option What) → IsTrue (names_hook w) → unmade_parent s (ctx_in w) ≡ None → IsSomeAnd (ctx_in w) (λ x. IsTrue (is_some (context_at s x)))
made-hook s (Some (What.Hook ctx func)) hook calm = some-not_none (context_at s ctx) (none-when (is_none (context_at s ctx)) Reason.Unmade calm)
made-hook s _ hook calm = cc

not_not : (b : Bool) → true ≡ not b → b ≡ false
not_not true h = cc
not_not false h = refl

was-there : (b : Bool) → not b ≡ false → b ≡ true
was-there true h = refl
was-there false h = cc

derived-fits : (script : Script) (s : State) (g x : ℕ) → IsGood script → IsFormed script s → Does script s g (Instr.With x) → FitsDerived script s x
derived-fits script s g x good formed does =
    let named : IsTrue (is_ctx script x) = names-Does script s g (Instr.With x) good does in
    let calm = neither (when (is_some (context_at s x)) Reason.Twice) (unmade_parent s (parent_of script x)) (calm-fault script s g (Instr.With x) does) in
    record {
      named = named;
      within = ctx_within script s x formed named;
      fresh = none-when (is_some (context_at s x)) Reason.Twice calm.0;
      parent = made-parent s (parent_of script x) calm.1;
    }

canceled-fits : (script : Script) (s : State) (g x : ℕ) (named : Option ℕ) → IsGood script → IsFormed script s → Does script s g (Instr.Cancel x named)
    → true ≡ not (has_ended s x) → FitsEnd script s x
canceled-fits script s g x named good formed does newly =
    let is : IsTrue (is_ctx script x) = cancels-ctx script x named (names-Does script s g (Instr.Cancel x named) good does) in
    record {
      named = is;
      within = ctx_within script s x formed is;
      made = some-not_none (context_at s x) (none-when (is_none (context_at s x)) Reason.Unmade (calm-fault script s g (Instr.Cancel x named) does));
      going = not_not (has_ended s x) newly;
    }

pub expired-fits : (script : Script) (s : State) (x : ℕ) → IsFormed script s → Expires s x → FitsEnd script s x
expired-fits script s x formed h =
    elim (context_at s x)
    as (λ o. context_at s x ≡ o → IsSomeAnd o (λ (r : Context). IsTrue (is_due r.own (clock s r.world)) × IsTrue (is_none r.end)) → FitsEnd script s x) [
      | None ↦ λ e k. absurd k
      | Some r ↦ λ e k.
          let named : IsTrue (is_ctx script x) = (formed.ctxs x r e).named in
          record { named = named; within = ctx_within script s x formed named; made = ap is_some e; going = expires-open s x h }
    ] refl h

registered-fits : (script : Script) (s : State) (g h : ℕ) → IsGood script → IsFormed script s → Does script s g (Instr.After h) → FitsRegistered script s h
registered-fits script s g h good formed does =
    let named : IsTrue (is_hook script h) = names-Does script s g (Instr.After h) good does in
    let calm = neither (when (is_registered (hook_at s h)) Reason.Twice) (unmade_parent s (ctx_of script h)) (calm-fault script s g (Instr.After h) does) in
    record {
      named = named;
      within = hook_within script s h formed named;
      fresh = unregistered script s g h does;
      made = made-hook s (what_at script h) named calm.1;
    }

unhooked-fits : (script : Script) (s : State) (g h : ℕ) → IsGood script → IsFormed script s → Does script s g (Instr.Unhook h) → FitsUnhooked script s h
unhooked-fits script s g h good formed does =
    let named : IsTrue (is_hook script h) = names-Does script s g (Instr.Unhook h) good does in
    record {
      named = named;
      within = hook_within script s h formed named;
      registered = was-there (is_registered (hook_at s h)) (none-when (not (is_registered (hook_at s h))) Reason.Unmade (calm-fault script s g (Instr.Unhook h) does));
    }

pub tree-fits : (script : Script) (s : State) (e : Entry) → IsGood script → IsFormed script s → May script s e
    → IfSome (change_of e).tree (λ (x : ℕ × TreeStep). FitsTree script s x.0 x.1)
tree-fits script s (Entry.CtxMake g x ended) good formed may = derived-fits script s g x good formed may.0
tree-fits script s (Entry.Cancel g x true count) good formed may = canceled-fits script s g x may.0 good formed may.1 may.2
tree-fits script s (Entry.Cancel g x false count) good formed may = tt
tree-fits script s (Entry.Expire x count) good formed may = expired-fits script s x formed may.0
tree-fits script s (Entry.CtxAfter g h child) good formed may = registered-fits script s g h good formed may.0
tree-fits script s (Entry.CtxStop g h stopped) good formed may = unhooked-fits script s g h good formed may.0
tree-fits script s _ good formed may = tt

-- ---- causes are named

abbrev pub IsNamedEnd : Script → End → Type 0
IsNamedEnd script end = IsNamedCause script (Some end.cause)

-- that of a context which has ended
pub end-named : (script : Script) (s : State) (x : ℕ) → IsFormed script s → IfSome (end_at s x) (IsNamedEnd script)
end-named script s x formed =
    elim (context_at s x) as (λ o. context_at s x ≡ o → IfSome (elim o as (λ o. Option End) [ None ↦ None | Some r ↦ r.end ]) (IsNamedEnd script)) [
      | None ↦ λ e. tt
      | Some r ↦ λ e. (formed.ctxs x r e).cause
    ] refl

cancel-named : (script : Script) (x : ℕ) (named : Option ℕ) → CancelsRightly script x named → IsNamedCause script (Some (cancel_cause named))
cancel-named script x None h = tt
cancel-named script x (Some e) h = h.1

expiry_in-named : (script : Script) (o : Option Form) → ((form : Form) → o ≡ Some form → FormsRightly script form) → IsNamedCause script (Some (expiry_cause o))
expiry_in-named script (Some (Form.Timeout d (Some e))) rightly = (rightly (Form.Timeout d (Some e)) refl).1
expiry_in-named script _ rightly = tt

expiry-named : (script : Script) (x : ℕ) → IsGood script → IsNamedEnd script (expiry_end script x)
expiry-named script x good = expiry_in-named script (form_of script x) (λ form e. form-rightly script x form good e)

-- the cause of the end that a step brings, where somebody stands at this instruction
abbrev EndsNamed : Script → Option Instr → TreeStep → Type 0
EndsNamed script i TreeStep.Derived = Unit {0}
EndsNamed script i TreeStep.Canceled = IsNamedCause script (Some (cancel_cause (named_by i)))
EndsNamed script i TreeStep.Expired = Unit {0}
EndsNamed script i TreeStep.Registered = Unit {0}
EndsNamed script i TreeStep.Unhooked = Unit {0}

ends-named : (script : Script) (s : State) (e : Entry) → IsGood script → May script s e
    → IfSome (change_of e).tree (λ (x : ℕ × TreeStep). EndsNamed script (stands_at script s (number_of (change_of e).mover)) x.1)
ends-named script s (Entry.Cancel g x true count) good may =
    let its : named_by (stands_at script s g) ≡ may.0 = ap named_by may.1.stands in
    subst (λ named. IsNamedCause script (Some (cancel_cause named))) (sym its) (cancel-named script x may.0 (names-Does script s g (Instr.Cancel x may.0) good may.1))
ends-named script s (Entry.Cancel g x false count) good may = tt
ends-named script s _ good may = tt

-- ---- a context that is made

earlier-time : (parents : Option ℕ) (due : ℕ) → due ≤ greatest_time → IfSome (unless_earlier parents due) (λ due. due ≤ greatest_time)
earlier-time None due h = h
earlier-time (Some other) due h = elim (nat_lt other due) as (λ b. IfSome (cond b None (Some due)) (λ due. due ≤ greatest_time)) [ true ↦ tt | false ↦ h ]

own-time : (o : Option Form) (now : ℕ) (parents : Option ℕ) → IfSome (own_by o now parents) (λ due. due ≤ greatest_time)
own-time (Some (Form.Timeout d cause)) now parents = earlier-time parents (min (now + d) greatest_time) (omega arith)
own-time _ now parents = tt

above-named : (script : Script) (s : State) (x : ℕ) → IsFormed script s → IfSome (end_above script s x) (IsNamedEnd script)
above-named script s x formed =
    elim (heeded script x) as (λ o. IfSome (elim o as (λ o. Option End) [ None ↦ None | Some p ↦ end_at s p ]) (IsNamedEnd script)) [
      | None ↦ tt
      | Some p ↦ end-named script s p formed
    ]

once-named : (script : Script) (end : End) (own : Option ℕ) (now : ℕ) → IsNamedEnd script end → IfSome (end_by end own now) (IsNamedEnd script)
once-named script end None now h = tt
once-named script end (Some due) now h =
    elim (nat_le due now) as (λ b. IfSome (cond b (Some end) None) (IsNamedEnd script)) [ true ↦ h | false ↦ tt ]

below-formed : (script : Script) (x w : ℕ) (above : Option End) (own : Option ℕ) (expiry : End) (now : ℕ) → IsTrue (is_ctx script x) → w ≡ 0
    → IfSome above (IsNamedEnd script) → IfSome own (λ due. due ≤ greatest_time) → IsNamedEnd script expiry
    → IsFormedContext script x (made_below w above own expiry now)
below-formed script x w (Some end) own expiry now named zero_world above time late = record { named = named; world = zero_world; own = tt; cause = above }
below-formed script x w None own expiry now named zero_world above time late =
    record { named = named; world = zero_world; own = time; cause = once-named script expiry own now late }

made-formed : (script : Script) (s : State) (w x : ℕ) → IsGood script → IsFormed script s → w ≡ 0 → IsTrue (is_ctx script x)
    → IsFormedContext script x (made_context script s w x)
made-formed script s w x good formed zero_world named =
    below-formed script x w (end_above script s x) (own_by (form_of script x) (clock s w) (deadline_above script s x)) (expiry_end script x) (clock s w) named zero_world
    (above-named script s x formed) (own-time (form_of script x) (clock s w) (deadline_above script s x)) (expiry-named script x good)

derived-contexts : (script : Script) (s : State) (w x : ℕ) → IsGood script → IsFormed script s → w ≡ 0 → FitsDerived script s x
    → AreContexts script (set s.contexts x (Some (made_context script s w x)))
derived-contexts script s w x good formed zero_world fits = record {
  count = length-set s.contexts x (Some (made_context script s w x)) ∙ formed.contexts;
  each = λ y r e.
      elim (eqb y x) as (λ b. eqb y x ≡ b → IsFormedContext script y r) [
        | true ↦ λ is.
            let same : y ≡ x = eqb-true y x is in
            let there : at (set s.contexts x (Some (made_context script s w x))) x ≡ Some r =
            subst (λ j. at (set s.contexts x (Some (made_context script s w x))) j ≡ Some r) same e in
            let new : made_context script s w x ≡ r =
            inside (made_context script s w x) r (sym (at-set_same s.contexts x (Some (made_context script s w x)) fits.within) ∙ there) in
            subst (λ j. IsFormedContext script j r) (sym same) (subst (IsFormedContext script x) new (made-formed script s w x good formed zero_world fits.named))
        | false ↦ λ is. formed.ctxs y r (sym (at-set_other s.contexts x y (Some (made_context script s w x)) (eqb-false y x is)) ∙ e)
      ] refl;
}
  where
    inside : (a b : Context) → Some a ≡ Some b → a ≡ b
    inside a b e = cc

-- ---- contexts that end

same_either : {X : Type 0} (b : Bool) (x : X) → x ≡ cond b x x
same_either true x = refl
same_either false x = refl

at-cut_from : (script : Script) (s : State) (x : ℕ) (end : End) (n : ℕ) (cs : List (Option Context)) (y : ℕ)
    → at (map (cut_one script s x end) (enumerate_from n cs)) y ≡ cond (is_reached script s x (n + y)) (option_map (ended_by end) (at cs y)) (at cs y)
at-cut_from script s x end n [] y = same_either (is_reached script s x (n + y)) None
at-cut_from script s x end n (c ∷ cs) zero =
    let here : n ≡ n + 0 = omega arith in
    subst (λ m. cond (is_reached script s x n) (option_map (ended_by end) c) c ≡ cond (is_reached script s x m) (option_map (ended_by end) c) c) here refl
at-cut_from script s x end n (c ∷ cs) (suc y) =
    let here : (n + 1) + y ≡ n + suc y = omega arith in
    subst (λ m. at (map (cut_one script s x end) (enumerate_from (n + 1) cs)) y ≡ cond (is_reached script s x m) (option_map (ended_by end) (at cs y)) (at cs y)) here
    (at-cut_from script s x end (n + 1) cs y)

-- an end cuts the contexts that it reaches
pub at-cut : (script : Script) (s : State) (x : ℕ) (end : End) (y : ℕ)
    → at (cut_contexts script s x end) y ≡ cond (is_reached script s x y) (option_map (ended_by end) (context_at s y)) (context_at s y)
at-cut script s x end y =
    let here : 0 + y ≡ y = omega arith in
    subst (λ m. at (cut_contexts script s x end) y ≡ cond (is_reached script s x m) (option_map (ended_by end) (context_at s y)) (context_at s y)) here
    (at-cut_from script s x end 0 s.contexts y)

ended-formed : (script : Script) (y : ℕ) (end : End) (r : Context) → IsNamedEnd script end → IsFormedContext script y r → IsFormedContext script y (ended_by end r)
ended-formed script y end r named was = record {
  named = was.named;
  world = was.world;
  own = was.own;
  cause = elim r.end
      as (λ o. IfSome o (IsNamedEnd script) → IfSome (elim o as (λ o. Option End) [ None ↦ Some end | Some first ↦ Some first ]) (IsNamedEnd script)) [
        | None ↦ λ k. named
        | Some first ↦ λ k. k
      ] was.cause;
}

cut-formed : (script : Script) (y : ℕ) (end : End) (b : Bool) (o : Option Context) (r : Context) → IsNamedEnd script end
    → ((q : Context) → o ≡ Some q → IsFormedContext script y q) → cond b (option_map (ended_by end) o) o ≡ Some r → IsFormedContext script y r
cut-formed script y end true None r named was e = cc
cut-formed script y end true (Some q) r named was e =
    let is : ended_by end q ≡ r = cc in
    subst (IsFormedContext script y) is (ended-formed script y end q named (was q refl))
cut-formed script y end false o r named was e = was r e

length-cut : (script : Script) (s : State) (x : ℕ) (end : End) → length (cut_contexts script s x end) ≡ length s.contexts
length-cut script s x end = length-map (enumerate_from 0 s.contexts) (cut_one script s x end) ∙ length-enumerate_from 0 s.contexts

cut-are : (script : Script) (s : State) (x : ℕ) (end : End) → IsFormed script s → IsNamedEnd script end → AreContexts script (cut_contexts script s x end)
cut-are script s x end formed named = record {
  count = length-cut script s x end ∙ formed.contexts;
  each = λ y r e. cut-formed script y end (is_reached script s x y) (context_at s y) r named (formed.ctxs y) (sym (at-cut script s x end y) ∙ e);
}

contexts-grown : (script : Script) (s : State) (w : ℕ) (i : Option Instr) (x : ℕ) (step : TreeStep) → IsGood script → IsFormed script s → w ≡ 0
    → FitsTree script s x step → EndsNamed script i step → AreContexts script (grown script s w i x step)
contexts-grown script s w i x TreeStep.Derived good formed zero_world fits named = derived-contexts script s w x good formed zero_world fits
contexts-grown script s w i x TreeStep.Canceled good formed zero_world fits named = cut-are script s x (cancel_end (named_by i)) formed named
contexts-grown script s w i x TreeStep.Expired good formed zero_world fits named = cut-are script s x (expiry_end script x) formed (expiry-named script x good)
contexts-grown script s w i x TreeStep.Registered good formed zero_world fits named = contexts-of script s formed
contexts-grown script s w i x TreeStep.Unhooked good formed zero_world fits named = contexts-of script s formed

contexts-with : (script : Script) (s : State) (m : Option (ℕ × Move)) (o : Option (ℕ × TreeStep)) → IsGood script → IsFormed script s
    → world_of s (number_of m) ≡ 0 → IfSome o (λ (x : ℕ × TreeStep). FitsTree script s x.0 x.1)
    → IfSome o (λ (x : ℕ × TreeStep). EndsNamed script (stands_at script s (number_of m)) x.1)
    → AreContexts script (with_grown script s m o)
contexts-with script s m None good formed zero_world fits named = contexts-of script s formed
contexts-with script s m (Some x) good formed zero_world fits named =
    contexts-grown script s (world_of s (number_of m)) (stands_at script s (number_of m)) x.0 x.1 good formed zero_world fits named

pub contexts-entered : (script : Script) (s : State) (e : Entry) → IsGood script → IsFormed script s
    → world_of s (number_of (change_of e).mover) ≡ 0 → May script s e → AreContexts script (with_grown script s (change_of e).mover (change_of e).tree)
contexts-entered script s e good formed zero_world may =
    contexts-with script s (change_of e).mover (change_of e).tree good formed zero_world (tree-fits script s e good formed may) (ends-named script s e good may)

-- ---- a context that was made stays so

cut-made : (b : Bool) (end : End) (o : Option Context) → is_some o ≡ true → is_some (cond b (option_map (ended_by end) o) o) ≡ true
cut-made b end None h = cc
cut-made true end (Some r) h = refl
cut-made false end (Some r) h = refl

pub grown-made : (script : Script) (s : State) (w : ℕ) (i : Option Instr) (x : ℕ) (step : TreeStep) → FitsTree script s x step
    → (y : ℕ) → is_some (context_at s y) ≡ true → is_some (at (grown script s w i x step) y) ≡ true
grown-made script s w i x TreeStep.Derived fits y h =
    elim (eqb y x) as (λ b. eqb y x ≡ b → is_some (at (set s.contexts x (Some (made_context script s w x))) y) ≡ true) [
      | true ↦ λ is.
          let same : y ≡ x = eqb-true y x is in
          subst (λ y. is_some (at (set s.contexts x (Some (made_context script s w x))) y) ≡ true) (sym same)
          (ap is_some (at-set_same s.contexts x (Some (made_context script s w x)) fits.within))
      | false ↦ λ is. ap is_some (at-set_other s.contexts x y (Some (made_context script s w x)) (eqb-false y x is)) ∙ h
    ] refl
grown-made script s w i x TreeStep.Canceled fits y h =
    ap is_some (at-cut script s x (cancel_end (named_by i)) y) ∙ cut-made (is_reached script s x y) (cancel_end (named_by i)) (context_at s y) h
grown-made script s w i x TreeStep.Expired fits y h =
    ap is_some (at-cut script s x (expiry_end script x) y) ∙ cut-made (is_reached script s x y) (expiry_end script x) (context_at s y) h
grown-made script s w i x TreeStep.Registered fits y h = h
grown-made script s w i x TreeStep.Unhooked fits y h = h

-- ---- hooks

still-made : (cs ds : List (Option Context)) (o : Option ℕ) → ((x : ℕ) → is_some (at cs x) ≡ true → is_some (at ds x) ≡ true)
    → IsSomeAnd o (λ x. IsTrue (is_some (at cs x))) → IsSomeAnd o (λ x. IsTrue (is_some (at ds x)))
still-made cs ds None keeps h = absurd h
still-made cs ds (Some x) keeps h = keeps x h

still-hook : (script : Script) (cs ds : List (Option Context)) (h : ℕ) → ((x : ℕ) → is_some (at cs x) ≡ true → is_some (at ds x) ≡ true)
    → IsHookOf script cs h → IsHookOf script ds h
still-hook script cs ds h keeps was = record { named = was.named; made = still-made cs ds (ctx_of script h) keeps was.made }

index-change_other : (hooks : List HookState) (h j : ℕ) (f : HookState → HookState) → j ≢ h
    → slice_index_or (change hooks h f) j HookState.Unregistered ≡ slice_index_or hooks j HookState.Unregistered
index-change_other [] h j f n = refl
index-change_other (k ∷ ks) zero zero f n = absurd (n refl)
index-change_other (k ∷ ks) zero (suc j) f n = refl
index-change_other (k ∷ ks) (suc h) zero f n = refl
index-change_other (k ∷ ks) (suc h) (suc j) f n = index-change_other ks h j f (λ e. n (ap suc e))

changed-hooks : (script : Script) (s : State) (ds : List (Option Context)) (h : ℕ) (f : HookState → HookState) → AreHooks script ds s.hooks
    → IsHookOf script ds h → AreHooks script ds (change s.hooks h f)
changed-hooks script s ds h f was own = record {
  count = length-change s.hooks h f ∙ was.count;
  each = λ j is.
      elim (eqb j h) as (λ b. eqb j h ≡ b → IsHookOf script ds j) [
        | true ↦ λ e. subst (IsHookOf script ds) (sym (eqb-true j h e)) own
        | false ↦ λ e. was.each j (subst (λ hook. is_registered hook ≡ true) (index-change_other s.hooks h j f (eqb-false j h e)) is)
      ] refl;
}

-- a hook that a cut starts was registered
cut-registered : (script : Script) (s : State) (x n : ℕ) (hooks : List HookState) (j : ℕ)
    → is_registered (slice_index_or (map (cut_hook script s x) (enumerate_from n hooks)) j HookState.Unregistered) ≡ true
    → is_registered (slice_index_or hooks j HookState.Unregistered) ≡ true
cut-registered script s x n [] j h = h
cut-registered script s x n (hook ∷ hooks) zero h =
    elim (is_starting script s x (n, hook))
    as (λ b. is_starting script s x (n, hook) ≡ b → is_registered (cond b HookState.Started hook) ≡ true → is_registered hook ≡ true) [
      | true ↦ λ e k. waiting-registered hook (and_parts (is_waiting_hook hook) (waits_on script s x (ctx_of script n)) e).0
      | false ↦ λ e k. k
    ] refl h
cut-registered script s x n (hook ∷ hooks) (suc j) h = cut-registered script s x (n + 1) hooks j h

length-cut_hooks : (script : Script) (s : State) (x : ℕ) → length (cut_hooks script s x) ≡ length s.hooks
length-cut_hooks script s x = length-map (enumerate_from 0 s.hooks) (cut_hook script s x) ∙ length-enumerate_from 0 s.hooks

cut-hooks : (script : Script) (s : State) (ds : List (Option Context)) (x : ℕ) → AreHooks script ds s.hooks → AreHooks script ds (cut_hooks script s x)
cut-hooks script s ds x was = record { count = length-cut_hooks script s x ∙ was.count; each = λ j is. was.each j (cut-registered script s x 0 s.hooks j is) }

hooks-hooked : (script : Script) (s : State) (ds : List (Option Context)) (x : ℕ) (step : TreeStep) → IsFormed script s → FitsTree script s x step
    → ((y : ℕ) → is_some (context_at s y) ≡ true → is_some (at ds y) ≡ true) → AreHooks script ds s.hooks → AreHooks script ds (hooked script s x step)
hooks-hooked script s ds x TreeStep.Derived formed fits keeps was = was
hooks-hooked script s ds x TreeStep.Canceled formed fits keeps was = cut-hooks script s ds x was
hooks-hooked script s ds x TreeStep.Expired formed fits keeps was = cut-hooks script s ds x was
hooks-hooked script s ds x TreeStep.Registered formed fits keeps was =
    changed-hooks script s ds x (λ hook. registered script s x) was
    (record { named = fits.named; made = still-made s.contexts ds (ctx_of script x) keeps fits.made })
hooks-hooked script s ds x TreeStep.Unhooked formed fits keeps was = changed-hooks script s ds x unhooked was (was.each x fits.registered)

hooks-with : (script : Script) (s : State) (m : Option (ℕ × Move)) (o : Option (ℕ × TreeStep)) → IsFormed script s
    → IfSome o (λ (x : ℕ × TreeStep). FitsTree script s x.0 x.1) → AreHooks script (with_grown script s m o) (with_hooked script s o)
hooks-with script s m None formed fits = hooks-of script s formed
hooks-with script s m (Some x) formed fits =
    let ds : List (Option Context) = grown script s (world_of s (number_of m)) (stands_at script s (number_of m)) x.0 x.1 in
    let keeps : (y : ℕ) → is_some (context_at s y) ≡ true → is_some (at ds y) ≡ true =
    grown-made script s (world_of s (number_of m)) (stands_at script s (number_of m)) x.0 x.1 fits in
    let was : AreHooks script s.contexts s.hooks = hooks-of script s formed in
    hooks-hooked script s ds x.0 x.1 formed fits keeps (record { count = was.count; each = λ h is. still-hook script s.contexts ds h keeps (was.each h is) })

pub hooks-entered : (script : Script) (s : State) (e : Entry) → IsGood script → IsFormed script s → May script s e
    → AreHooks script (with_grown script s (change_of e).mover (change_of e).tree) (with_hooked script s (change_of e).tree)
hooks-entered script s e good formed may = hooks-with script s (change_of e).mover (change_of e).tree formed (tree-fits script s e good formed may)

-- ---- at first nothing is made, and no hook is registered

none_context : (script : Script) (ds : List Decl) (x k : ℕ) (r : Context) → at (map (λ (d : Decl). None) ds) x ≡ Some r → IsFormedContext script k r
none_context script [] x k r e = cc
none_context script (d ∷ ds) zero k r e = cc
none_context script (d ∷ ds) (suc x) k r e = none_context script ds x k r e

pub contexts-first : (script : Script) → AreContexts script (first_state script).contexts
contexts-first script = record { count = length-map script.decls (λ (d : Decl). None); each = λ x r e. none_context script script.decls x x r e }

none_registered : (ds : List Decl) (h : ℕ) → is_registered (slice_index_or (map (λ (d : Decl). HookState.Unregistered) ds) h HookState.Unregistered) ≡ true → ⊥
none_registered [] h is = cc
none_registered (d ∷ ds) zero is = cc
none_registered (d ∷ ds) (suc h) is = none_registered ds h is

pub hooks-first : (script : Script) → AreHooks script (first_state script).contexts (first_state script).hooks
hooks-first script = record { count = length-map script.decls (λ (d : Decl). HookState.Unregistered); each = λ h is. absurd (none_registered script.decls h is) }
