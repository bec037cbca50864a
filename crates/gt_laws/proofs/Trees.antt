-- What the states keep of contexts and hooks that a run reaches: what a context heeds was made before it, and a hook waits only while its context has no end.
use Rattle.std.proofs.Common.{◌≡◌, ◌≢◌, ℕ, zero, suc, ◌+◌, ◌<◌, ◌==◌, ◌&&◌, ◌||◌, List, [], ◌∷◌, length, map, filter, set, refl, sym, ap, subst, ◌∙◌, arith, cond, if◌then◌else◌, Option, None, Some, option_map, Bool, true, false, not, eqb, is_some, IfSome, IsSomeAnd, IsTrue, slice_get, slice_index_or}
use Rattle.std.specs.List.{list_any, enumerate_from}
use Rattle.std.proofs.lemmas.Bool.{true≢false, eqb-true, eqb-false}
use Rattle.gt_model.specs.declared.script.Script.{Script}
use Rattle.gt_model.specs.declared.script.Decl.{Decl}
use Rattle.gt_model.specs.declared.script.Instr.{Instr}
use Rattle.gt_model.specs.declared.entry.Entry.{Entry}
use Rattle.gt_model.specs.declared.context.Context.{Context}
use Rattle.gt_model.specs.declared.context.End.{End}
use Rattle.gt_model.specs.declared.context.HookState.{HookState}
use Rattle.gt_model.specs.Script.{parent_of, ctx_of}
use Rattle.gt_model.specs.Tables.{at, change}
use Rattle.gt_model.proofs.Items.{at-set_same, at-set_other}
use Rattle.gt_rules.specs.State.{State, context_at, has_ended, hook_at, stands_at, world_of}
use Rattle.gt_rules.specs.Contexts.{heeded, line_of, reached_from, is_reached, ended_by, cut_contexts, cancel_end, named_by, expiry_end, made_context, is_waiting_hook, waits_on, is_starting, starting, cut_hook, cut_hooks, hook_is_due, registered, unhooked}
use Rattle.gt_rules.specs.declared.change.Move.{Move}
use Rattle.gt_rules.specs.declared.change.TreeStep.{TreeStep}
use Rattle.gt_rules.specs.Change.{change_of}
use Rattle.gt_rules.specs.After.{after, first_state, number_of, grown, hooked, with_grown, with_hooked}
use Rattle.gt_facts.specs.Formed.{IsFormed}
use Rattle.gt_facts.proofs.Fits.{Fits, FitsTree}
use Rattle.gt_facts.proofs.Contexts.{at-cut, grown-made}
use Rattle.gt_facts.proofs.Starts.{waiting-registered}
use Rattle.gt_laws.specs.Told.{derives, reaches, reaches_some, is_hook_started, hooks_started, at_end, all_at_end}
use Rattle.gt_laws.proofs.Numbers.{by-number}
use Rattle.gt_laws.proofs.Above.{parent-of}

-- ---- whether a context was made, after a step

same-either : {V : Type 0} (b : Bool) (v : V) → v ≡ (if b then v else v)
same-either true v = refl
same-either false v = refl

cut-made : (b : Bool) (end : End) (o : Option Context) → is_some (cond b (option_map (ended_by end) o) o) ≡ is_some o
cut-made true end None = refl
cut-made true end (Some r) = refl
cut-made false end o = refl

made-cut : (script : Script) (s : State) (x y : ℕ) (end : End) (o : Option Context) → o ≡ cond (is_reached script s x y) (option_map (ended_by end) (context_at s y)) (context_at s y)
    → is_some o ≡ is_some (context_at s y)
made-cut script s x y end o e = ap is_some e ∙ cut-made (is_reached script s x y) end (context_at s y)

pub grown-derives : (script : Script) (s : State) (w : ℕ) (i : Option Instr) (x y : ℕ) (step : TreeStep) → FitsTree script s x step
    → is_some (at (grown script s w i x step) y) ≡ (if x == y then derives step (is_some (context_at s y)) else is_some (context_at s y))
grown-derives script s w i x y TreeStep.Derived fits =
    let new : Option Context = Some (made_context script s w x) in
    by-number x y (λ b. is_some (at (set s.contexts x new) y) ≡ (if b then true else is_some (context_at s y)))
    (λ same. subst (λ y. is_some (at (set s.contexts x new) y) ≡ true) same (ap is_some (at-set_same s.contexts x new fits.within)))
    (λ other. ap is_some (at-set_other s.contexts x y new other))
grown-derives script s w i x y TreeStep.Canceled fits =
    made-cut script s x y (cancel_end (named_by i)) _ (at-cut script s x (cancel_end (named_by i)) y) ∙ same-either (x == y) (is_some (context_at s y))
grown-derives script s w i x y TreeStep.Expired fits =
    made-cut script s x y (expiry_end script x) _ (at-cut script s x (expiry_end script x) y) ∙ same-either (x == y) (is_some (context_at s y))
grown-derives script s w i x y TreeStep.Registered fits = same-either (x == y) (is_some (context_at s y))
grown-derives script s w i x y TreeStep.Unhooked fits = same-either (x == y) (is_some (context_at s y))

-- ---- the invariant

pub record IsTree (script : Script) (s : State) : Type 0 where
  pub parents : (y p : ℕ) → is_some (context_at s y) ≡ true → heeded script y ≡ Some p → is_some (context_at s p) ≡ true
  pub going : (k x : ℕ) → is_waiting_hook (hook_at s k) ≡ true → ctx_of script k ≡ Some x → has_ended s x ≡ false

-- a context that was made is reached by the same ends, by what is made and by what is declared
same-line : (script : Script) (s : State) (n y : ℕ) → IsTree script s → is_some (context_at s y) ≡ true → line_of (reached_from script s) n y ≡ line_of (heeded script) n y
unfolding line_of
same-line script s zero y tree made = refl
same-line script s (suc n) y tree made =
    ap (λ b. y ∷ elim (cond b (heeded script y) None) as (λ o. List ℕ) [ None ↦ [] | Some p ↦ line_of (reached_from script s) n p ]) made
    ∙ ap (λ ys. y ∷ ys) (elim (heeded script y) as (λ o. heeded script y ≡ o
    → (elim o as (λ o. List ℕ) [ None ↦ [] | Some p ↦ line_of (reached_from script s) n p ]) ≡ (elim o as (λ o. List ℕ) [ None ↦ [] | Some p ↦ line_of (heeded script) n p ])) [
      | None ↦ λ e. refl
      | Some p ↦ λ e. same-line script s n p tree (tree.parents y p made e)
    ] refl)

pub reached-reaches : (script : Script) (s : State) (x y : ℕ) → IsTree script s → is_some (context_at s y) ≡ true → is_reached script s x y ≡ reaches script x y
reached-reaches script s x y tree made = ap (list_any (λ z. z == x)) (same-line script s y y tree made)

-- and none but that of one that was made reaches it
made-line : (script : Script) (s : State) (x n y : ℕ) → IsTree script s → is_some (context_at s y) ≡ true → list_any (λ z. z == x) (line_of (heeded script) n y) ≡ true
    → is_some (context_at s x) ≡ true
unfolding line_of
made-line script s x zero y tree made h = here (y == x) refl h
  where
    here : (b : Bool) → (y == x) ≡ b → (b || false) ≡ true → is_some (context_at s x) ≡ true
    here true e k = subst (λ x. is_some (context_at s x) ≡ true) (eqb-true y x e) made
    here false e k = cc
made-line script s x (suc n) y tree made h = here (y == x) refl (heeded script y) refl (λ p. made-line script s x n p tree) h
  where
    here : (b : Bool) → (y == x) ≡ b → (o : Option ℕ) → heeded script y ≡ o
        → ((p : ℕ) → is_some (context_at s p) ≡ true → list_any (λ z. z == x) (line_of (heeded script) n p) ≡ true → is_some (context_at s x) ≡ true)
        → (b || list_any (λ z. z == x) (elim o as (λ o. List ℕ) [ None ↦ [] | Some p ↦ line_of (heeded script) n p ])) ≡ true → is_some (context_at s x) ≡ true
    here true e o is later k = subst (λ x. is_some (context_at s x) ≡ true) (eqb-true y x e) made
    here false e None is later k = cc
    here false e (Some p) is later k = later p (tree.parents y p made is) k

pub reaches-made : (script : Script) (s : State) (x y : ℕ) → IsTree script s → is_some (context_at s y) ≡ true → is_some (context_at s x) ≡ false → reaches script x y ≡ false
reaches-made script s x y tree made unmade =
    elim (reaches script x y) as (λ b. reaches script x y ≡ b → b ≡ false) [
      | true ↦ λ e. let was : is_some (context_at s x) ≡ true = made-line script s x y y tree made e in sym was ∙ unmade
      | false ↦ λ e. refl
    ] refl

-- ---- which hooks an end starts

pub filter-enumerated : {X : Type 0} (p q : ℕ × X → Bool) (n : ℕ) (xs : List X) → ((i : ℕ) (x : X) → slice_get xs i ≡ Some x → p (n + i, x) ≡ q (n + i, x))
    → filter p (enumerate_from n xs) ≡ filter q (enumerate_from n xs)
filter-enumerated p q n [] same = refl
filter-enumerated p q n (x ∷ xs) same =
    let here : n + 0 ≡ n = omega arith in
    ap (λ b. cond b ((n, x) ∷ filter p (enumerate_from (n + 1) xs)) (filter p (enumerate_from (n + 1) xs))) (subst (λ j. p (j, x) ≡ q (j, x)) here (same 0 x refl))
    ∙ ap (λ ys. cond (q (n, x)) ((n, x) ∷ ys) ys)
    (filter-enumerated p q (n + 1) xs (λ i y e. subst (λ j. p (j, y) ≡ q (j, y)) (next n i) (same (suc i) y e)))
  where
    next : (n i : ℕ) → n + suc i ≡ (n + 1) + i
    next n i = omega arith

pub map-enumerated : {X Y : Type 0} (f k : ℕ × X → Y) (n : ℕ) (xs : List X) → ((i : ℕ) (x : X) → slice_get xs i ≡ Some x → f (n + i, x) ≡ k (n + i, x))
    → map f (enumerate_from n xs) ≡ map k (enumerate_from n xs)
map-enumerated f k n [] same = refl
map-enumerated f k n (x ∷ xs) same =
    let here : n + 0 ≡ n = omega arith in
    ap (λ y. y ∷ map f (enumerate_from (n + 1) xs)) (subst (λ j. f (j, x) ≡ k (j, x)) here (same 0 x refl))
    ∙ ap (λ ys. k (n, x) ∷ ys) (map-enumerated f k (n + 1) xs (λ i y e. subst (λ j. f (j, y) ≡ k (j, y)) (next n i) (same (suc i) y e)))
  where
    next : (n i : ℕ) → n + suc i ≡ (n + 1) + i
    next n i = omega arith

hook-there : (hooks : List HookState) (k : ℕ) (hook : HookState) → slice_get hooks k ≡ Some hook → slice_index_or hooks k HookState.Unregistered ≡ hook
hook-there [] k hook e = cc
hook-there (h ∷ hs) zero hook e = cc
hook-there (h ∷ hs) (suc k) hook e = hook-there hs k hook e

-- the context of a hook that waits was made
pub waits-made : (script : Script) (s : State) (k x : ℕ) → IsFormed script s → is_waiting_hook (hook_at s k) ≡ true → ctx_of script k ≡ Some x → is_some (context_at s x) ≡ true
waits-made script s k x formed waits e =
    subst (λ (o : Option ℕ). IsSomeAnd o (λ x. IsTrue (is_some (context_at s x)))) e (formed.hooked k (waiting-registered (hook_at s k) waits)).made

both-true : (b c : Bool) → c ≡ true → (b && c) ≡ b
both-true true c h = h
both-true false c h = refl

waits-same : (script : Script) (s : State) (x k : ℕ) (o : Option ℕ) → IsFormed script s → IsTree script s → is_waiting_hook (hook_at s k) ≡ true → ctx_of script k ≡ o
    → waits_on script s x o ≡ reaches_some script x o
waits-same script s x k None formed tree waits e = refl
waits-same script s x k (Some y) formed tree waits e =
    both-true (is_reached script s x y) (not (has_ended s y)) (ap not (tree.going k y waits e))
    ∙ reached-reaches script s x y tree (waits-made script s k y formed waits e)

pub starting-same : (script : Script) (s : State) (x k : ℕ) (hook : HookState) → IsFormed script s → IsTree script s → hook_at s k ≡ hook
    → is_starting script s x (k, hook) ≡ is_hook_started script x (k, hook)
starting-same script s x k hook formed tree is =
    elim (is_waiting_hook hook) as (λ b. is_waiting_hook hook ≡ b → (b && waits_on script s x (ctx_of script k)) ≡ (b && reaches_some script x (ctx_of script k))) [
      | true ↦ λ waits. waits-same script s x k (ctx_of script k) formed tree (ap is_waiting_hook is ∙ waits) refl
      | false ↦ λ none. refl
    ] refl

pub starting-started : (script : Script) (s : State) (x : ℕ) → IsFormed script s → IsTree script s → starting script s x ≡ hooks_started script s.hooks x
starting-started script s x formed tree =
    ap (λ es. map (λ (e : ℕ × HookState). e.0) es)
    (filter-enumerated (is_starting script s x) (is_hook_started script x) 0 s.hooks
    (λ k hook e. subst (λ j. is_starting script s x (j, hook) ≡ is_hook_started script x (j, hook)) (zero-more k)
    (starting-same script s x k hook formed tree (hook-there s.hooks k hook e))))
  where
    zero-more : (k : ℕ) → k ≡ 0 + k
    zero-more k = omega arith

pub cut-at_end : (script : Script) (s : State) (x : ℕ) → IsFormed script s → IsTree script s → cut_hooks script s x ≡ all_at_end script x s.hooks
cut-at_end script s x formed tree =
    map-enumerated (cut_hook script s x) (at_end script x) 0 s.hooks
    (λ k hook e. subst (λ j. cut_hook script s x (j, hook) ≡ at_end script x (j, hook)) (zero-more k)
    (ap (λ b. cond b HookState.Started hook) (starting-same script s x k hook formed tree (hook-there s.hooks k hook e))))
  where
    zero-more : (k : ℕ) → k ≡ 0 + k
    zero-more k = omega arith

-- ---- one hook, after a step

cut-in : (script : Script) (s : State) (x n : ℕ) (hooks : List HookState) (k : ℕ)
    → slice_index_or (map (cut_hook script s x) (enumerate_from n hooks)) k HookState.Unregistered ≡ cut_hook script s x (n + k, slice_index_or hooks k HookState.Unregistered)
cut-in script s x n [] k = refl
cut-in script s x n (hook ∷ hooks) zero = ap (λ j. cut_hook script s x (j, hook)) (zero-less n)
  where
    zero-less : (n : ℕ) → n ≡ n + 0
    zero-less n = omega arith
cut-in script s x n (hook ∷ hooks) (suc k) =
    cut-in script s x (n + 1) hooks k ∙ ap (λ j. cut_hook script s x (j, slice_index_or hooks k HookState.Unregistered)) (next n k)
  where
    next : (n k : ℕ) → (n + 1) + k ≡ n + suc k
    next n k = omega arith

pub hook-cut : (script : Script) (s : State) (x k : ℕ) → slice_index_or (cut_hooks script s x) k HookState.Unregistered ≡ cut_hook script s x (k, hook_at s k)
hook-cut script s x k = cut-in script s x 0 s.hooks k ∙ ap (λ j. cut_hook script s x (j, hook_at s k)) (zero-more k)
  where
    zero-more : (k : ℕ) → 0 + k ≡ k
    zero-more k = omega arith

pub hook-change_other : (hooks : List HookState) (h k : ℕ) (f : HookState → HookState) → k ≢ h
    → slice_index_or (change hooks h f) k HookState.Unregistered ≡ slice_index_or hooks k HookState.Unregistered
hook-change_other [] h k f n = refl
hook-change_other (x ∷ xs) zero zero f n = absurd (n refl)
hook-change_other (x ∷ xs) zero (suc k) f n = refl
hook-change_other (x ∷ xs) (suc h) zero f n = refl
hook-change_other (x ∷ xs) (suc h) (suc k) f n = hook-change_other xs h k f (λ e. n (ap suc e))

pub hook-change_same : (hooks : List HookState) (h : ℕ) (f : HookState → HookState) → h < length hooks
    → slice_index_or (change hooks h f) h HookState.Unregistered ≡ f (slice_index_or hooks h HookState.Unregistered)
hook-change_same [] h f within = absurd (omega arith)
hook-change_same (x ∷ xs) zero f within = refl
hook-change_same (x ∷ xs) (suc h) f within = hook-change_same xs h f (omega arith)

-- ---- it holds of each state that a run reaches

abbrev pub end_in : Option Context → Option End
end_in o = elim o [ None ↦ None | Some r ↦ r.end ]

-- the same of contexts and hooks
record AreTree (script : Script) (cs : List (Option Context)) (hooks : List HookState) : Type 0 where
  parents : (y p : ℕ) → is_some (at cs y) ≡ true → heeded script y ≡ Some p → is_some (at cs p) ≡ true
  going : (k x : ℕ) → is_waiting_hook (slice_index_or hooks k HookState.Unregistered) ≡ true → ctx_of script k ≡ Some x → is_some (end_in (at cs x)) ≡ false

-- a context that is made heeds one that was, and so does each that was made
parents-grown : (script : Script) (s : State) (w : ℕ) (i : Option Instr) (x : ℕ) (step : TreeStep) → IsTree script s → FitsTree script s x step
    → (y p : ℕ) → is_some (at (grown script s w i x step) y) ≡ true → heeded script y ≡ Some p → is_some (at (grown script s w i x step) p) ≡ true
parents-grown script s w i x TreeStep.Derived tree fits y p made e =
    let new : Option Context = Some (made_context script s w x) in
    grown-made script s w i x TreeStep.Derived fits p
    (elim (eqb y x) as (λ b. eqb y x ≡ b → is_some (context_at s p) ≡ true) [
      | true ↦ λ is.
          let same : parent_of script x ≡ Some p = parent-of script x p (subst (λ y. heeded script y ≡ Some p) (eqb-true y x is) e) in
          subst (λ (o : Option ℕ). IfSome o (λ p. is_some (context_at s p) ≡ true)) same fits.parent
      | false ↦ λ is. tree.parents y p (sym (ap is_some (at-set_other s.contexts x y new (eqb-false y x is))) ∙ made) e
    ] refl)
parents-grown script s w i x TreeStep.Canceled tree fits y p made e =
    grown-made script s w i x TreeStep.Canceled fits p
    (tree.parents y p (same-either (x == y) (is_some (context_at s y)) ∙ (sym (grown-derives script s w i x y TreeStep.Canceled fits) ∙ made)) e)
parents-grown script s w i x TreeStep.Expired tree fits y p made e =
    grown-made script s w i x TreeStep.Expired fits p
    (tree.parents y p (same-either (x == y) (is_some (context_at s y)) ∙ (sym (grown-derives script s w i x y TreeStep.Expired fits) ∙ made)) e)
parents-grown script s w i x TreeStep.Registered tree fits y p made e = tree.parents y p made e
parents-grown script s w i x TreeStep.Unhooked tree fits y p made e = tree.parents y p made e

-- a hook that waits still after an end waits on a context that the end does not reach
still-waits : (script : Script) (s : State) (x k y : ℕ) (hook : HookState) → is_waiting_hook (cut_hook script s x (k, hook)) ≡ true → ctx_of script k ≡ Some y → has_ended s y ≡ false
    → (is_waiting_hook hook ≡ true) × (is_reached script s x y ≡ false)
still-waits script s x k y HookState.Waiting waits e none =
    let on : is_starting script s x (k, HookState.Waiting) ≡ is_reached script s x y = ap (waits_on script s x) e ∙ both-true (is_reached script s x y) (not (has_ended s y)) (ap not none) in
    (refl, no-cut (is_reached script s x y) (subst (λ b. is_waiting_hook (cond b HookState.Started HookState.Waiting) ≡ true) on waits))
  where
    no-cut : (b : Bool) → is_waiting_hook (cond b HookState.Started HookState.Waiting) ≡ true → b ≡ false
    no-cut true h = cc
    no-cut false h = refl
still-waits script s x k y HookState.Unregistered waits e none = cc
still-waits script s x k y HookState.Started waits e none = cc
still-waits script s x k y HookState.Stopped waits e none = cc

waits-cut : (script : Script) (s : State) (x k : ℕ) (hook : HookState) → is_waiting_hook (cut_hook script s x (k, hook)) ≡ true → is_waiting_hook hook ≡ true
waits-cut script s x k hook h =
    elim (is_starting script s x (k, hook)) as (λ b. is_waiting_hook (cond b HookState.Started hook) ≡ true → is_waiting_hook hook ≡ true) [ true ↦ λ h. cc | false ↦ λ h. h ] h

going-cut : (script : Script) (s : State) (x : ℕ) (end : End) → IsTree script s → (k y : ℕ)
    → is_waiting_hook (slice_index_or (cut_hooks script s x) k HookState.Unregistered) ≡ true → ctx_of script k ≡ Some y
    → is_some (end_in (at (cut_contexts script s x end) y)) ≡ false
going-cut script s x end tree k y waits e =
    let after : is_waiting_hook (cut_hook script s x (k, hook_at s k)) ≡ true = sym (ap is_waiting_hook (hook-cut script s x k)) ∙ waits in
    let none : has_ended s y ≡ false = tree.going k y (waits-cut script s x k (hook_at s k) after) e in
    let both = still-waits script s x k y (hook_at s k) after e none in
    ap (λ (o : Option Context). is_some (end_in o)) (at-cut script s x end y)
    ∙ (ap (λ b. is_some (end_in (cond b (option_map (ended_by end) (context_at s y)) (context_at s y)))) both.1 ∙ none)

-- one that is registered waits where its context has no end
registered-waits : (script : Script) (s : State) (h x : ℕ) → is_waiting_hook (registered script s h) ≡ true → ctx_of script h ≡ Some x → has_ended s x ≡ false
registered-waits script s h x waits e =
    let due : hook_is_due script s h ≡ has_ended s x = ap (λ (o : Option ℕ). elim o as (λ o. Bool) [ None ↦ false | Some x ↦ has_ended s x ]) e in
    no-end (has_ended s x) (subst (λ b. is_waiting_hook (cond b HookState.Started HookState.Waiting) ≡ true) due waits)
  where
    no-end : (b : Bool) → is_waiting_hook (cond b HookState.Started HookState.Waiting) ≡ true → b ≡ false
    no-end true h = cc
    no-end false h = refl

unhooked-waits : (hook : HookState) → is_waiting_hook (unhooked hook) ≡ true → ⊥
unhooked-waits HookState.Waiting h = cc
unhooked-waits HookState.Unregistered h = cc
unhooked-waits HookState.Started h = cc
unhooked-waits HookState.Stopped h = cc

going-hooked : (script : Script) (s : State) (w : ℕ) (i : Option Instr) (x : ℕ) (step : TreeStep) → IsFormed script s → IsTree script s → FitsTree script s x step
    → (k y : ℕ) → is_waiting_hook (slice_index_or (hooked script s x step) k HookState.Unregistered) ≡ true → ctx_of script k ≡ Some y
    → is_some (end_in (at (grown script s w i x step) y)) ≡ false
going-hooked script s w i x TreeStep.Derived formed tree fits k y waits e =
    let new : Option Context = Some (made_context script s w x) in
    let made : is_some (context_at s y) ≡ true = waits-made script s k y formed waits e in
    let other : y ≢ x = λ same. true≢false (sym made ∙ (ap (λ y. is_some (context_at s y)) same ∙ fits.fresh)) in
    ap (λ (o : Option Context). is_some (end_in o)) (at-set_other s.contexts x y new other) ∙ tree.going k y waits e
going-hooked script s w i x TreeStep.Canceled formed tree fits k y waits e = going-cut script s x (cancel_end (named_by i)) tree k y waits e
going-hooked script s w i x TreeStep.Expired formed tree fits k y waits e = going-cut script s x (expiry_end script x) tree k y waits e
going-hooked script s w i x TreeStep.Registered formed tree fits k y waits e =
    elim (eqb k x) as (λ b. eqb k x ≡ b → has_ended s y ≡ false) [
      | true ↦ λ is.
          let same : k ≡ x = eqb-true k x is in
          let now : is_waiting_hook (registered script s x) ≡ true =
          sym (ap is_waiting_hook (hook-change_same s.hooks x (λ hook. registered script s x) fits.within))
          ∙ subst (λ k. is_waiting_hook (slice_index_or (change s.hooks x (λ hook. registered script s x)) k HookState.Unregistered) ≡ true) same waits in
          registered-waits script s x y now (subst (λ k. ctx_of script k ≡ Some y) same e)
      | false ↦ λ is. tree.going k y (sym (ap is_waiting_hook (hook-change_other s.hooks x k (λ hook. registered script s x) (eqb-false k x is))) ∙ waits) e
    ] refl
going-hooked script s w i x TreeStep.Unhooked formed tree fits k y waits e =
    elim (eqb k x) as (λ b. eqb k x ≡ b → has_ended s y ≡ false) [
      | true ↦ λ is.
          let same : k ≡ x = eqb-true k x is in
          absurd (unhooked-waits (hook_at s x) (sym (ap is_waiting_hook (hook-change_same s.hooks x unhooked fits.within))
          ∙ subst (λ k. is_waiting_hook (slice_index_or (change s.hooks x unhooked) k HookState.Unregistered) ≡ true) same waits))
      | false ↦ λ is. tree.going k y (sym (ap is_waiting_hook (hook-change_other s.hooks x k unhooked (eqb-false k x is))) ∙ waits) e
    ] refl

tree-with : (script : Script) (s : State) (m : Option (ℕ × Move)) (o : Option (ℕ × TreeStep)) → IsFormed script s → IsTree script s
    → IfSome o (λ (x : ℕ × TreeStep). FitsTree script s x.0 x.1) → AreTree script (with_grown script s m o) (with_hooked script s o)
tree-with script s m None formed tree fits = record { parents = tree.parents; going = tree.going }
tree-with script s m (Some x) formed tree fits = record {
  parents = parents-grown script s (world_of s (number_of m)) (stands_at script s (number_of m)) x.0 x.1 tree fits;
  going = going-hooked script s (world_of s (number_of m)) (stands_at script s (number_of m)) x.0 x.1 formed tree fits;
}

pub tree-after : (script : Script) (s : State) (e : Entry) → IsFormed script s → IsTree script s → Fits script s (change_of e) → IsTree script (after script s e)
tree-after script s e formed tree fits =
    let are : AreTree script (with_grown script s (change_of e).mover (change_of e).tree) (with_hooked script s (change_of e).tree) =
    tree-with script s (change_of e).mover (change_of e).tree formed tree fits.tree in
    record { parents = are.parents; going = are.going }

pub none-at : {X V : Type 0} (show : Option X → V) (decls : List Decl) (x : ℕ) → show (at (map (λ (d : Decl). None) decls) x) ≡ show None
none-at show [] x = refl
none-at show (d ∷ ds) zero = refl
none-at show (d ∷ ds) (suc x) = none-at show ds x

pub none-hooked : (decls : List Decl) (k : ℕ) → slice_index_or (map (λ (d : Decl). HookState.Unregistered) decls) k HookState.Unregistered ≡ HookState.Unregistered
none-hooked [] k = refl
none-hooked (d ∷ ds) zero = refl
none-hooked (d ∷ ds) (suc k) = none-hooked ds k

pub tree-first : (script : Script) → IsTree script (first_state script)
tree-first script = record {
  parents = λ y p made e. absurd (true≢false (sym made ∙ none-at is_some script.decls y));
  going = λ k x waits e. absurd (true≢false (sym waits ∙ ap is_waiting_hook (none-hooked script.decls k)));
}
