-- The contexts and the hooks of a machine are those of its state.
use Rattle.std.proofs.Common.{◌≡◌, ◌≢◌, ℕ, zero, suc, ◌+◌, ◌≤◌, not, ◌&&◌, Bool, true, false, cond, Option, None, Some, IfSome, IsSomeAnd, List, [], ◌∷◌, ◌++◌, length, map, replicate, is_some, refl, sym, ◌∙◌, ap, subst, append_assoc, slice_get, slice_index, drop, arith}
use Rattle.std.specs.List.{range_with_len, enumerate_from}
use Rattle.std.specs.Option.{option_map, option_and_then}
use Rattle.std.proofs.lemmas.List.{append-nil, length-map, get_or-map}
use Rattle.std.proofs.lemmas.List.FromFn.{fill_by_all, length-enumerate_from}
use Rattle.gt_model.specs.declared.script.Script.{Script}
use Rattle.gt_model.specs.declared.script.Decl.{Decl}
use Rattle.gt_model.specs.declared.entry.Entry.{Entry}
use Rattle.gt_model.specs.declared.state.Goroutine.{Goroutine}
use Rattle.gt_model.specs.declared.context.Context.{Context}
use Rattle.gt_model.specs.declared.context.End.{End}
use Rattle.gt_model.specs.declared.context.HookState.{HookState}
use Rattle.gt_model.specs.Good.{IsGood}
use Rattle.gt_model.specs.Script.{parent_of, ctx_of, hook_func}
use Rattle.gt_model.specs.Times.{greatest_time}
use Rattle.gt_model.specs.Tables.{at}
use Rattle.gt_rules.specs.State.{State, clock, world_of, context_at, goroutine_at, hook_at, has_ended, is_registered}
use Rattle.gt_rules.specs.Contexts.{is_reached, ended_by, starting, cut_one, cut_contexts, cut_hooks, start_count, hook_world}
use Rattle.gt_rules.specs.Change.{change_of, by_end}
use Rattle.gt_rules.specs.After.{begun, started_by, with_starts, number_of}
use Rattle.gt_rules.specs.Legal.{May}
use Rattle.gt_rules.specs.declared.change.Start.{Start}
use Rattle.gt_rules.specs.declared.change.TreeStep.{TreeStep}
use Rattle.gt_facts.specs.Formed.{IsFormed}
use Rattle.gt_facts.proofs.Fits.{FitsTree, tree-fits}
use Rattle.gt_facts.proofs.Contexts.{at-cut}
use Rattle.gt_ctx.specs.Decls.{decls_of}
use Rattle.gt_ctx.specs.Contents as contents
use Rattle.gt_ctx.specs.Calls as calls
use Rattle.gt_ctx.specs.Rules.{IsTreeOf}
use Rattle.gt_ctx.proofs.Cuts.{cancel_cut, cancel_count}
use Rattle.gt_ctx.proofs.Rules.{at-is, end_at-is, cut_contexts-is, cut_hooks-is, starting-is, start_count-is, context_at-is, is_context-is, parent_by-is, ctx_of-is}
use Rattle.gt_machine.specs.Machine.{state_of, HasContexts, is_cut, IsGrowable, with_new}
use Rattle.gt_machine.specs.declared.machine.Machine.{Machine}

pub tree_of : (script : Script) (m : Machine) → HasContexts script m → IsTreeOf script (state_of m) m.ctxs
tree_of script m has = record { declared = has.declared; contexts = refl; hooks = refl }

-- ---- the first ones

pub none_made : (ds : List Decl) → replicate {A = Option Context} (length (decls_of ds)) None ≡ map (λ (d : Decl). None) ds
none_made [] = refl
none_made (d ∷ ds) = ap (λ cs. None ∷ cs) (none_made ds)

pub none_registered : (ds : List Decl) → replicate {A = HookState} (length (decls_of ds)) HookState.Unregistered ≡ map (λ (d : Decl). HookState.Unregistered) ds
none_registered [] = refl
none_registered (d ∷ ds) = ap (λ hs. HookState.Unregistered ∷ hs) (none_registered ds)

-- ---- what an entry does to them

none_if : {X : Type 0} (o : Option X) → is_some o ≡ false → o ≡ None
none_if None h = refl
none_if (Some x) h = cc

idle_if : (h : HookState) → is_registered h ≡ false → h ≡ HookState.Unregistered
idle_if HookState.Unregistered e = refl
idle_if HookState.Waiting e = cc
idle_if HookState.Started e = cc
idle_if HookState.Stopped e = cc

used_if : (h : HookState) → is_registered h ≡ true → h ≢ HookState.Unregistered
used_if h e is = let no : is_registered HookState.Unregistered ≡ true = ap is_registered (sym is) ∙ e in cc

-- everybody belongs to the program
pub world-zero : (script : Script) (s : State) (g : ℕ) → IsFormed script s → world_of s g ≡ 0
world-zero script s g formed =
    elim (goroutine_at s g) as (λ o. goroutine_at s g ≡ o → elim o as (λ _. ℕ) [ None ↦ 0 | Some r ↦ r.world ] ≡ 0) [
      | None ↦ λ e. refl
      | Some r ↦ λ e. formed.world.goroutines g r e
    ] refl

made-world : (s : State) (p w : ℕ) → ((r : Context) → context_at s p ≡ Some r → r.world ≡ w) → is_some (context_at s p) ≡ true → contents.world_at s.contexts p ≡ Some w
made-world s p w world made =
    ap (option_map (λ (k : Context). k.world)) (context_at-is s p)
    ∙ elim (context_at s p) as (λ o. ((r : Context) → o ≡ Some r → r.world ≡ w) → is_some o ≡ true → option_map (λ (k : Context). k.world) o ≡ Some w) [
      | None ↦ λ _ h. cc
      | Some r ↦ λ its h. ap Some (its r refl)
    ] world made

some-and : {X : Type 0} (o : Option X) (P : X → Type 0) → IsSomeAnd o P → is_some o ≡ true
some-and None P h = absurd h
some-and (Some x) P h = refl

each-some : {X : Type 0} (o : Option X) (P Q : X → Type 0) → ((x : X) → P x → Q x) → IfSome o P → IfSome o Q
each-some None P Q f h = tt
each-some (Some x) P Q f h = f x h

module _ (script : Script) (s : State) (good : IsGood script) (formed : IsFormed script s) where
  growable : (g x : ℕ) (step : TreeStep) → FitsTree script s x step → is_cut (Some (x, step)) ≡ false
      → IsGrowable (decls_of script.decls) s.contexts s.hooks (world_of s g) (clock s (world_of s g)) x step
  growable g x TreeStep.Derived fits uncut =
      let zero_world : world_of s g ≡ 0 = world-zero script s g formed in
      record {
        context = is_context-is script x ∙ fits.named;
        fresh = context_at-is s x ∙ none_if (context_at s x) fits.fresh;
        parent =
            subst (λ o. IfSome o (λ p. contents.world_at s.contexts p ≡ Some (world_of s g))) (sym (parent_by-is script x))
            (each-some (parent_of script x) _ _ (λ p made. made-world s p (world_of s g) (λ r e. formed.world.contexts p r e ∙ sym zero_world) made) fits.parent);
        time = subst (λ w. clock s w ≤ greatest_time) (sym zero_world) formed.time;
      }
  growable g x TreeStep.Canceled fits uncut = cc
  growable g x TreeStep.Expired fits uncut = cc
  growable g h TreeStep.Registered fits uncut = (ap is_some (ctx_of-is script h) ∙ some-and (ctx_of script h) _ fits.made, idle_if (hook_at s h) fits.fresh)
  growable g h TreeStep.Unhooked fits uncut = used_if (hook_at s h) fits.registered

  pub growable-May : (e : Entry) → May script s e → is_cut (change_of e).tree ≡ false
      → IfSome (change_of e).tree (λ (c : ℕ × TreeStep). IsGrowable (decls_of script.decls) s.contexts s.hooks
      (world_of s (number_of (change_of e).mover)) (clock s (world_of s (number_of (change_of e).mover))) c.0 c.1)
  growable-May e may uncut =
      elim (change_of e).tree as (λ o. IfSome o (λ (c : ℕ × TreeStep). FitsTree script s c.0 c.1) → is_cut o ≡ false
      → IfSome o (λ (c : ℕ × TreeStep). IsGrowable (decls_of script.decls) s.contexts s.hooks
      (world_of s (number_of (change_of e).mover)) (clock s (world_of s (number_of (change_of e).mover))) c.0 c.1)) [
        | None ↦ λ fits is. tt
        | Some c ↦ λ fits is. growable (number_of (change_of e).mover) c.0 c.1 fits is
      ] (tree-fits script s e good formed may) uncut

-- the same under other names
pub with_tree : (s : State) (cs ds : List (Option Context)) (hs ks : List HookState) → cs ≡ ds → hs ≡ ks
    → (let a : State = record s { contexts = cs; hooks = hs } in a) ≡ (let b : State = record s { contexts = ds; hooks = ks } in b)
with_tree s cs ds hs ks c h = rw (c, h) refl

pub with_parts : (s : State) (gs gs' : List Goroutine) (cs ds : List (Option Context)) (hs ks : List HookState) → gs ≡ gs' → cs ≡ ds → hs ≡ ks
    → (let a : State = record s { goroutines = gs; contexts = cs; hooks = hs } in a) ≡ (let b : State = record s { goroutines = gs'; contexts = ds; hooks = ks } in b)
with_parts s gs gs' cs ds hs ks g c h = rw (g, c, h) refl

-- ---- who begins

-- the goroutine that a hook starts
abbrev pub begun_by : Script → State → ℕ → Goroutine
begun_by script s h = begun script (hook_world script s h) (hook_func script h)

-- whoever begins is named by the entry
pub begins-named : (script : Script) (s : State) (starts : List Start) (begins : Option Goroutine) → ((gs : List Goroutine) → with_starts script s gs starts ≡ with_new gs begins) → is_some begins ≡ true → 1 ≤ length starts
begins-named script s [] None new is = cc
begins-named script s [] (Some r) new is = let none : [] ≡ r ∷ [] = new [] in cc
begins-named script s (x ∷ starts) begins new is = omega arith

with_all : (script : Script) (s : State) (gs : List Goroutine) (xs : List Start) → with_starts script s gs xs ≡ gs ++ map (started_by script s) xs
with_all script s gs [] = sym (append-nil gs)
with_all script s gs (x ∷ xs) =
    with_all script s (gs ++ started_by script s x ∷ []) xs ∙ append_assoc gs (started_by script s x ∷ []) (map (started_by script s) xs)

by-end-begun : (script : Script) (s : State) (x k n : ℕ) → map (started_by script s) (map (Start.ByEnd x) (range_with_len k n)) ≡ map (λ i. begun_by script s (slice_index (starting script s x) i)) (range_with_len k n)
by-end-begun script s x k zero = refl
by-end-begun script s x k (suc n) = ap (λ gs. begun_by script s (slice_index (starting script s x) k) ∷ gs) (by-end-begun script s x (k + 1) n)

-- whom an end starts are the goroutines of the hooks that it starts
pub with_hooks : (script : Script) (s : State) (gs : List Goroutine) (x : ℕ) → with_starts script s gs (by_end x (length (starting script s x))) ≡ gs ++ map (begun_by script s) (starting script s x)
with_hooks script s gs x =
    let hs : List ℕ = starting script s x in
    let nobody : Goroutine = begun_by script s 0 in
    with_all script s gs (by_end x (length hs))
    ∙ ap (λ more. gs ++ more)
    (by-end-begun script s x 0 (length hs)
    ∙ sym (fill_by_all (λ i. begun_by script s (slice_index hs i)) (map (begun_by script s) hs) (length hs) nobody (length-map hs (begun_by script s)) (λ k l. get_or-map (begun_by script s) hs k 0 nobody l)))

-- ---- a cut

-- a tree after the end of x
pub record IsCutTree (script : Script) (s : State) (x : ℕ) (end : End) (t : contents.Contents) : Type 0 where
  pub declared : t.decls ≡ decls_of script.decls
  pub contexts : t.contexts ≡ cut_contexts script s x end
  pub hooks : t.hooks ≡ cut_hooks script s x
  pub started : t.started ≡ starting script s x

module _ (script : Script) (m : Machine) (has : HasContexts script m) (formed : IsFormed script (state_of m)) (x : ℕ) (going : has_ended (state_of m) x ≡ false) where
  open_yet : is_some (contents.end_at m.ctxs.contexts x) ≡ false
  open_yet = ap is_some (end_at-is (state_of m) x) ∙ going

  pub cut-tree : (end : End) (t : contents.Contents) → calls.Becomes t (calls.after_cancel m.ctxs x end) → IsCutTree script (state_of m) x end t
  cut-tree end t becomes =
      let tree = tree_of script m has in
      let is = sym (cancel_cut m.ctxs x end open_yet) in
      record {
        declared = becomes.declared ∙ ap (λ (u : contents.Contents). u.decls) is ∙ has.declared;
        contexts = becomes.contexts ∙ ap (λ (u : contents.Contents). u.contexts) is ∙ cut_contexts-is script (state_of m) m.ctxs tree formed.contexts formed.hooks x end;
        hooks = becomes.hooks ∙ ap (λ (u : contents.Contents). u.hooks) is ∙ cut_hooks-is script (state_of m) m.ctxs tree formed.contexts formed.hooks x;
        started = becomes.started ∙ ap (λ (u : contents.Contents). u.started) is ∙ ap (λ hs. hs ++ calls.starting m.ctxs x) has.begun ∙ starting-is script (state_of m) m.ctxs tree formed.contexts formed.hooks x;
      }

  pub cut-count : (n : ℕ) → n ≡ (calls.answer_cancel m.ctxs x).starts → n ≡ start_count script (state_of m) x
  cut-count n is = is ∙ cancel_count m.ctxs x open_yet ∙ start_count-is script (state_of m) m.ctxs (tree_of script m has) formed.contexts formed.hooks x going

-- how many hooks the end of one starts that has not ended
pub starts-all : (script : Script) (s : State) (x : ℕ) → has_ended s x ≡ false → length (starting script s x) ≡ start_count script s x
starts-all script s x going = ap (λ b. let n : ℕ = cond b 0 (length (starting script s x)) in n) (sym going)

-- a cut leaves the worlds of contexts
same-world : (b : Bool) (end : End) (o : Option Context) → elim (cond b (option_map (ended_by end) o) o) as (λ _. ℕ) [ None ↦ 0 | Some r ↦ r.world ] ≡ elim o [ None ↦ 0 | Some r ↦ r.world ]
same-world false end o = refl
same-world true end None = refl
same-world true end (Some r) = refl

-- the world of a hook, by the contexts
abbrev pub world_in : Script → List (Option Context) → ℕ → ℕ
world_in script cs h = elim (ctx_of script h) [ None ↦ 0 | Some y ↦ elim (at cs y) [ None ↦ 0 | Some r ↦ r.world ] ]

pub begun-cut : (script : Script) (s : State) (cs : List (Option Context)) (x : ℕ) (end : End) (h : ℕ) → cs ≡ cut_contexts script s x end → begun script (world_in script cs h) (hook_func script h) ≡ begun_by script s h
begun-cut script s cs x end h is = ap (λ w. begun script w (hook_func script h)) (world-cut (ctx_of script h))
  where
    world-cut : (o : Option ℕ) → elim o as (λ _. ℕ) [ None ↦ 0 | Some y ↦ elim (at cs y) as (λ _. ℕ) [ None ↦ 0 | Some r ↦ r.world ] ] ≡ elim o [ None ↦ 0 | Some y ↦ elim (context_at s y) [ None ↦ 0 | Some r ↦ r.world ] ]
    world-cut None = refl
    world-cut (Some y) =
        ap (λ (o : Option Context). elim o as (λ _. ℕ) [ None ↦ 0 | Some r ↦ r.world ]) (ap (λ ds. at ds y) is ∙ at-cut script s x end y)
        ∙ same-world (is_reached script s x y) end (context_at s y)

-- the first of a list, and the others
pub first-of : (xs : List ℕ) (x : ℕ) → slice_get xs 0 ≡ Some x → xs ≡ x ∷ drop 1 xs
first-of [] x e = cc
first-of (y ∷ ys) x e = let is : y ≡ x = cc in ap (λ z. z ∷ ys) is

pub none-first : (xs : List ℕ) → slice_get xs 0 ≡ None → xs ≡ []
none-first [] e = refl
none-first (x ∷ xs) e = cc

-- ended by the contents, or by the rules
end_in-is : (cs : List (Option Context)) (y : ℕ) → contents.end_at cs y ≡ elim (at cs y) [ None ↦ None | Some r ↦ r.end ]
end_in-is cs y = ap (option_and_then (λ (k : Context). k.end)) (at-is cs y) ∙ in-kept (at cs y)
  where
    in-kept : (o : Option Context) → option_and_then (λ (k : Context). k.end) o ≡ elim o [ None ↦ None | Some r ↦ r.end ]
    in-kept None = refl
    in-kept (Some r) = refl

pub ended-in : (old new : List (Option Context)) (y : ℕ) → (not (is_some (contents.end_at old y)) && is_some (contents.end_at new y))
    ≡ (not (is_some (elim (at old y) [ None ↦ None | Some r ↦ r.end ])) && is_some (elim (at new y) [ None ↦ None | Some r ↦ r.end ]))
ended-in old new y =
    ap (λ o. not (is_some o) && is_some (contents.end_at new y)) (end_in-is old y)
    ∙ ap (λ o. not (is_some (elim (at old y) as (λ _. Option End) [ None ↦ None | Some r ↦ r.end ])) && is_some o) (end_in-is new y)

-- a cut leaves as many
pub length-cut : (script : Script) (s : State) (x : ℕ) (end : End) → length (cut_contexts script s x end) ≡ length s.contexts
length-cut script s x end = length-map (enumerate_from 0 s.contexts) (cut_one script s x end) ∙ length-enumerate_from 0 s.contexts
