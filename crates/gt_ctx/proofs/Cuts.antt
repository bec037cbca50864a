-- What a walk has ended and started is what a cut ends and starts, and what is kept stays so.
use Rattle.std.proofs.Common.{◌≡◌, ℕ, zero, suc, ◌<◌, eqb, ◌&&◌, ◌||◌, Bool, true, false, Option, None, Some, List, ◌++◌, length, get_or, set, take, drop, map, sum, is_some, is_none, if◌then◌else◌, refl, sym, ◌∙◌, ap, subst, inl, inr, zero-add, arith}
use Rattle.std.specs.List.{sum_by, filter, range_with_len}
use Rattle.std.specs.Option.{option_map, option_map_or, option_and_then, option_or}
use Rattle.std.proofs.lemmas.Bool.{cases_Bool, or_cases, or_left, or_right, and_parts, and_from, eqb-true, eq-eqb, true≢false}
use Rattle.std.proofs.lemmas.List.{get_or-set_other, get_or-map, length-map, ext_get_or, drop_all, append-nil, take_all}
use Rattle.std.proofs.lemmas.List.Sums.{sum-map}
use Rattle.std.specs.List.Sorted.{IsPermutation}
use Rattle.std.proofs.lemmas.List.Sorted.{list_any-IsPermutation}
use Rattle.std.proofs.lemmas.List.FromFn.{fill_by_all, get_or-map-range_with_len}
use Rattle.gt_model.specs.declared.context.Context.{Context}
use Rattle.gt_model.specs.declared.context.End.{End}
use Rattle.gt_model.specs.declared.context.HookState.{HookState}
use Rattle.gt_ctx.specs.declared.decl.CtxDecl.{CtxDecl}
use Rattle.gt_ctx.specs.Decls.{AreOrdered, heeded}
use Rattle.gt_ctx.specs.Contents.{Contents, context_at, end_at, world_at, hook_at, reached_from, is_reached}
use Rattle.gt_rules.specs.Contexts.{is_waiting_hook}
use Rattle.gt_ctx.specs.Calls.{ctx_of, cut_context, cut_contexts, is_starting, starting, cut_hook, cut_hooks, cut, after_cancel, answer_cancel, after_stop, Becomes}
use Rattle.gt_ctx.specs.Links.{has}
use Rattle.gt_ctx.specs.Walk.{is_live, is_newly, HasEnded}
use Rattle.gt_ctx.specs.Kept.{unregistered, unmade, deadline_at, AreDerived, AreChildren, AreWaiting}
use Rattle.gt_ctx.proofs.Lines.{reached_earlier, is_within-step}
use Rattle.gt_ctx.proofs.Trees.{reached_is_made}
use Rattle.gt_ctx.proofs.Walks.{is_new}
use Rattle.gt_ctx.proofs.Hooks.{filter_same}

-- ---- of one context

pub same_test : (a b : Bool) → (a ≡ true → b ≡ true) → (b ≡ true → a ≡ true) → a ≡ b
same_test true b f g = sym (f refl)
same_test false true f g = g refl
same_test false false f g = refl

none_if : (o : Option End) → is_some o ≡ false → is_none o ≡ true
none_if None h = refl
none_if (Some end) h = absurd (true≢false h)

some_if : (o : Option End) → is_none o ≡ false → is_some o ≡ true
some_if None h = absurd (true≢false h)
some_if (Some end) h = refl

not_both : (o : Option End) → is_none o ≡ true → is_some o ≡ false
not_both None h = refl
not_both (Some end) h = absurd (true≢false (sym h))

abbrev end_in : Option Context → Option End
end_in kept = option_and_then (λ (k : Context). k.end) kept

live_if : (kept : Option Context) → is_some kept ≡ true → is_some (end_in kept) ≡ false → is_live kept ≡ true
live_if None made h = absurd (true≢false (sym made))
live_if (Some k) made h = none_if k.end h

pub live_made : (kept : Option Context) → is_live kept ≡ true → is_some kept ≡ true
live_made None live = absurd (true≢false (sym live))
live_made (Some k) live = refl

live_open : (kept : Option Context) → is_live kept ≡ true → is_none (end_in kept) ≡ true
live_open None live = refl
live_open (Some k) live = live

ended_if : (kept : Option Context) → is_some kept ≡ true → is_live kept ≡ false → is_some (end_in kept) ≡ true
ended_if None made h = absurd (true≢false (sym made))
ended_if (Some k) made h = some_if k.end h

dead_if : (kept : Option Context) → is_some (end_in kept) ≡ true → is_live kept ≡ false
dead_if None h = refl
dead_if (Some k) h = elim (cases_Bool (is_none k.end)) [
  | inl e ↦ absurd (true≢false (sym h ∙ not_both k.end e))
  | inr e ↦ e
]

-- one that has no error and keeps it, or has one, is not changed
keeps_end : (o : Option End) (end : End) → is_none o ≡ false → option_or o (Some end) ≡ o
keeps_end None end h = absurd (true≢false h)
keeps_end (Some e) end h = refl

cut_dead : (b : Bool) (end : End) (kept : Option Context) → is_live kept ≡ false → cut_context b end kept ≡ kept
cut_dead false end kept dead = refl
cut_dead true end None dead = refl
cut_dead true end (Some k) dead = ap (λ (o : Option End). Some (record k { end = o })) (keeps_end k.end end dead)

-- what a cut leaves of a context
cut_made : (b : Bool) (end : End) (kept : Option Context) → is_some (cut_context b end kept) ≡ is_some kept
cut_made false end kept = refl
cut_made true end None = refl
cut_made true end (Some k) = refl

cut_own : (b : Bool) (end : End) (kept : Option Context) → option_and_then (λ (k : Context). k.own) (cut_context b end kept) ≡ option_and_then (λ (k : Context). k.own) kept
cut_own false end kept = refl
cut_own true end None = refl
cut_own true end (Some k) = refl

cut_world : (b : Bool) (end : End) (kept : Option Context) → option_map (λ (k : Context). k.world) (cut_context b end kept) ≡ option_map (λ (k : Context). k.world) kept
cut_world false end kept = refl
cut_world true end None = refl
cut_world true end (Some k) = refl

cut_heeds : (b : Bool) (end : End) (kept : Option Context) (o : Option ℕ) → option_and_then (λ (_ : Context). o) (cut_context b end kept) ≡ option_and_then (λ (_ : Context). o) kept
cut_heeds false end kept o = refl
cut_heeds true end None o = refl
cut_heeds true end (Some k) o = refl

cut_unmade : (b : Bool) (end : End) (kept : Option Context) → unmade (cut_context b end kept) ≡ unmade kept
cut_unmade false end kept = refl
cut_unmade true end None = refl
cut_unmade true end (Some k) = refl

cut_ended : (b : Bool) (end : End) (kept : Option Context) → is_some (end_in kept) ≡ true → is_some (end_in (cut_context b end kept)) ≡ true
cut_ended b end kept h = ap (λ k. is_some (end_in k)) (cut_dead b end kept (dead_if kept h)) ∙ h

-- sums over lists that agree
sum_same : {X : Type 0} (f : X → ℕ) (d : X) (xs ys : List X) → length xs ≡ length ys → ((i : ℕ) → f (get_or xs i d) ≡ f (get_or ys i d)) → sum_by f xs ≡ sum_by f ys
sum_same f d xs ys size same =
    let a = length-map xs f in
    let b = length-map ys f in
    sym (sum-map f xs)
    ∙ ap sum (ext_get_or 0 (map f xs) (map f ys) (omega arith) (λ i l. get_or-map f xs i d 0 (omega arith) ∙ same i ∙ sym (get_or-map f ys i d 0 (omega arith))))
    ∙ sum-map f ys

module _ (decls : List CtxDecl) (old new : List (Option Context)) (deadlines : List (Option ℕ)) (children waiting : List (List ℕ)) (x : ℕ) (end : End) (found : List ℕ) (ordered : AreOrdered decls) (d : AreDerived decls old deadlines) (a : AreChildren decls old children) (h : HasEnded old new children waiting x end found) (made : is_some (context_at old x) ≡ true) where
  step : (y : ℕ) → is_reached decls old x y ≡ (eqb y x || option_map_or (λ p. is_reached decls old x p) (reached_from decls old y) false)
  step y = is_within-step (reached_from decls old) (reached_earlier decls old ordered) x y

  reached_here : is_reached decls old x x ≡ true
  reached_here = step x ∙ or_left (eqb x x) _ (eq-eqb x x refl)

  reached_below : (y p : ℕ) → reached_from decls old y ≡ Some p → is_reached decls old x p ≡ true → is_reached decls old x y ≡ true
  reached_below y p up r =
      step y ∙ or_right (eqb y x) _ (ap (λ o. option_map_or (λ q. is_reached decls old x q) o false) up ∙ r)

  made_above : (y : ℕ) (o : Option ℕ) → reached_from decls old y ≡ o → option_map_or (λ p. is_reached decls old x p) o false ≡ true → is_some (context_at old y) ≡ true
  made_above y None up r = absurd (true≢false (sym r))
  made_above y (Some p) up r = reached_is_made decls old y p up

  -- whatever is reached was made
  reached_made : (y : ℕ) → is_reached decls old x y ≡ true → is_some (context_at old y) ≡ true
  reached_made y r =
      elim (or_cases (eqb y x) _ (sym (step y) ∙ r)) [
        | inl e ↦ ap (λ k. is_some (context_at old k)) (eqb-true y x e) ∙ made
        | inr e ↦ made_above y (reached_from decls old y) refl e
      ]

  newly_reached : (y : ℕ) → is_newly old new y ≡ true → is_reached decls old x y ≡ true
  newly_reached = h.least (is_reached decls old x) reached_here (λ y z r child. reached_below z y (a.only y z child) r)

  live_above : (y p : ℕ) → reached_from decls old y ≡ Some p → is_live (context_at old y) ≡ true → is_live (context_at old p) ≡ true
  live_above y p up live =
      live_if (context_at old p) (d.parent_made y p up)
      (elim (cases_Bool (is_some (end_at old p))) [
        | inl e ↦ absurd (true≢false (sym (d.ends_pass y p up e) ∙ not_both (end_at old y) (live_open (context_at old y) live)))
        | inr e ↦ e
      ])

  newly_above : (y : ℕ) (o : Option ℕ) → reached_from decls old y ≡ o → is_live (context_at old y) ≡ true → option_map_or (λ p. is_reached decls old x p) o false ≡ true → ((p : ℕ) → p < y → is_reached decls old x p ≡ true → is_live (context_at old p) ≡ true → is_newly old new p ≡ true) → is_newly old new y ≡ true
  newly_above y None up live r before = absurd (true≢false (sym r))
  newly_above y (Some p) up live r before =
      let newly = before p (reached_earlier decls old ordered y p up) r (live_above y p up live) in
      is_new (context_at old y) (context_at new y) live (h.closed p y newly (a.all y p up))

  newly_below : (n y : ℕ) → y < n → is_reached decls old x y ≡ true → is_live (context_at old y) ≡ true → is_newly old new y ≡ true
  newly_below zero y l r live = absurd (omega arith)
  newly_below (suc n) y l r live =
      elim (or_cases (eqb y x) _ (sym (step y) ∙ r)) [
        | inl e ↦ is_new (context_at old y) (context_at new y) live (ap (λ k. is_live (context_at new k)) (eqb-true y x e) ∙ h.first)
        | inr e ↦ newly_above y (reached_from decls old y) refl live e (λ p k. newly_below n p (omega (arith, k, l)))
      ]

  was_live : (y : ℕ) → is_newly old new y ≡ true → is_live (context_at old y) ≡ true
  was_live y newly = (and_parts (is_live (context_at old y)) _ newly).0

  -- what has ended newly is what is reached and had no error
  pub newly_is : (y : ℕ) → is_newly old new y ≡ (is_reached decls old x y && is_live (context_at old y))
  newly_is y =
      same_test _ _ (λ newly. and_from (is_reached decls old x y) _ (newly_reached y newly) (was_live y newly))
      (λ both. let parts = and_parts (is_reached decls old x y) _ both in newly_below (suc y) y (omega arith) parts.0 parts.1)

  cut_same : (y : ℕ) → cut_context (is_newly old new y) end (context_at old y) ≡ cut_context (is_reached decls old x y) end (context_at old y)
  cut_same y =
      elim (cases_Bool (is_live (context_at old y))) [
        | inl live ↦
            ap (λ b. cut_context b end (context_at old y))
            (same_test _ _ (newly_reached y) (λ r. newly_below (suc y) y (omega arith) r live))
        | inr dead ↦ cut_dead (is_newly old new y) end (context_at old y) dead ∙ sym (cut_dead (is_reached decls old x y) end (context_at old y) dead)
      ]

  pub contexts_cut : (c : Contents) → c.decls ≡ decls → c.contexts ≡ old → length old ≡ length decls → new ≡ cut_contexts c x end
  contexts_cut c is_decls is_old many =
      let all = ap length is_decls in
      fill_by_all _ new (length c.decls) None (h.as_many ∙ many ∙ sym all)
      (λ y l. h.kept y ∙ cut_same y
      ∙ ap (λ ds. cut_context (is_reached ds old x y) end (context_at old y)) (sym is_decls)
      ∙ ap (λ ks. cut_context (is_reached c.decls ks x y) end (context_at ks y)) (sym is_old))

  -- ---- what is kept of contexts

  same_reached_from : (y : ℕ) → reached_from decls new y ≡ reached_from decls old y
  same_reached_from y = ap (option_and_then (λ (_ : Context). heeded decls y)) (h.kept y) ∙ cut_heeds (is_newly old new y) end (context_at old y) (heeded decls y)

  same_made : (y : ℕ) → is_some (context_at new y) ≡ is_some (context_at old y)
  same_made y = ap is_some (h.kept y) ∙ cut_made (is_newly old new y) end (context_at old y)

  still_ended : (y : ℕ) → is_some (end_at old y) ≡ true → is_some (end_at new y) ≡ true
  still_ended y ended = ap (λ k. is_some (end_in k)) (h.kept y) ∙ cut_ended (is_newly old new y) end (context_at old y) ended

  ends_pass : (y p : ℕ) → reached_from decls new y ≡ Some p → is_some (end_at new p) ≡ true → is_some (end_at new y) ≡ true
  ends_pass y p up ended =
      let before : reached_from decls old y ≡ Some p = sym (same_reached_from y) ∙ up in
      elim (cases_Bool (is_some (end_at old p))) [
        | inl e ↦ still_ended y (d.ends_pass y p before e)
        | inr e ↦
            let live = live_if (context_at old p) (d.parent_made y p before) e in
            let newly = is_new (context_at old p) (context_at new p) live (dead_if (context_at new p) ended) in
            ended_if (context_at new y) (same_made y ∙ reached_is_made decls old y p before) (h.closed p y newly (a.all y p before))
      ]

  pub derived_cut : AreDerived decls new deadlines
  derived_cut = record {
    of_each = d.of_each;
    parent_made = λ y p up. same_made p ∙ d.parent_made y p (sym (same_reached_from y) ∙ up);
    ends_pass = ends_pass;
    deadline = λ y is. (
        d.deadline y (sym (same_made y) ∙ is)
        ∙ ap (λ o. option_or o (option_and_then (deadline_at deadlines) (heeded decls y))) (sym (ap (option_and_then (λ (k : Context). k.own)) (h.kept y) ∙ cut_own (is_newly old new y) end (context_at old y)))
        );
  }

  pub children_cut : AreChildren decls new children
  children_cut =
      let same = sum_same unmade None new old h.as_many (λ y. ap unmade (h.kept y) ∙ cut_unmade (is_newly old new y) end (context_at old y)) in
      let before = a.room in
      record {
        of_each = a.of_each;
        only = λ p y is. same_reached_from y ∙ a.only p y is;
        all = λ y p up. a.all y p (sym (same_reached_from y) ∙ up);
        room = omega arith;
      }

  -- ---- the hooks that start

  module _ (hooks : List HookState) (w : AreWaiting decls hooks waiting) where
    starts_at : (s : ℕ) (o : Option ℕ) → ctx_of decls s ≡ o → is_waiting_hook (hook_at hooks s) ≡ true → option_map_or (λ y. is_reached decls old x y && is_none (end_at old y)) o false ≡ true → has found s ≡ true
    starts_at s None of waits is = absurd (true≢false (sym is))
    starts_at s (Some y) of waits is =
        let parts = and_parts (is_reached decls old x y) _ is in
        let live = live_if (context_at old y) (reached_made y parts.0) (not_both (end_at old y) parts.1) in
        h.finds y s (newly_below (suc y) y (omega arith) parts.0 live) (w.all s y waits of)

    found_starts : (s : ℕ) → has found s ≡ true → option_map_or (λ y. is_reached decls old x y && is_none (end_at old y)) (ctx_of decls s) false ≡ true
    found_starts s is =
        let f = h.found_from s is in
        ap (λ o. option_map_or (λ y. is_reached decls old x y && is_none (end_at old y)) o false) (w.only f.0 s f.2)
        ∙ and_from (is_reached decls old x f.0) _ (newly_reached f.0 f.1) (live_open (context_at old f.0) (was_live f.0 f.1))

    pub starts_same : (s : ℕ) → (is_waiting_hook (hook_at hooks s) && has found s) ≡ (is_waiting_hook (hook_at hooks s) && option_map_or (λ y. is_reached decls old x y && is_none (end_at old y)) (ctx_of decls s) false)
    starts_same s =
        same_test _ _
        (λ both. let parts = and_parts (is_waiting_hook (hook_at hooks s)) _ both in and_from (is_waiting_hook (hook_at hooks s)) _ parts.0 (found_starts s parts.1))
        (λ both. let parts = and_parts (is_waiting_hook (hook_at hooks s)) _ both in and_from (is_waiting_hook (hook_at hooks s)) _ parts.0 (starts_at s (ctx_of decls s) refl parts.0 parts.1))

    module _ (c : Contents) (is_decls : c.decls ≡ decls) (is_old : c.contexts ≡ old) (is_hooks : c.hooks ≡ hooks) (many : length hooks ≡ length decls) where
      starting_same : (s : ℕ) → (is_waiting_hook (hook_at hooks s) && has found s) ≡ is_starting c x s
      starting_same s =
          starts_same s
          ∙ ap (λ ds. is_waiting_hook (hook_at hooks s) && option_map_or (λ y. is_reached ds old x y && is_none (end_at old y)) (ctx_of ds s) false) (sym is_decls)
          ∙ ap (λ ks. is_waiting_hook (hook_at hooks s) && option_map_or (λ y. is_reached c.decls ks x y && is_none (end_at ks y)) (ctx_of c.decls s) false) (sym is_old)
          ∙ ap (λ hs. is_waiting_hook (hook_at hs s) && option_map_or (λ y. is_reached c.decls c.contexts x y && is_none (end_at c.contexts y)) (ctx_of c.decls s) false) (sym is_hooks)

      pub starting_found : filter (λ s. is_waiting_hook (hook_at hooks s) && has found s) (range_with_len 0 (length hooks)) ≡ starting c x
      starting_found =
          filter_same _ (is_starting c x) (length hooks) (λ s _. starting_same s)
          ∙ ap (λ n. filter (is_starting c x) (range_with_len 0 n)) (many ∙ ap length (sym is_decls))

      pub hooks_cut : (now : List HookState) → length now ≡ length hooks → ((s : ℕ) → hook_at now s ≡ cut_hook (is_waiting_hook (hook_at hooks s) && has found s) (hook_at hooks s)) → now ≡ cut_hooks c x
      hooks_cut now size each =
          fill_by_all _ now (length c.decls) HookState.Unregistered (size ∙ many ∙ ap length (sym is_decls))
          (λ s l. each s ∙ ap (λ b. cut_hook b (hook_at hooks s)) (starting_same s) ∙ ap (λ hs. cut_hook (is_starting c x s) (hook_at hs s)) (sym is_hooks))

-- ---- what is kept of hooks

cut_hook_registered : (b : Bool) (hook : HookState) → (b ≡ true → is_waiting_hook hook ≡ true) → unregistered (cut_hook b hook) ≡ unregistered hook
cut_hook_registered false hook waits = refl
cut_hook_registered true HookState.Unregistered waits = absurd (true≢false (sym (waits refl)))
cut_hook_registered true HookState.Waiting waits = refl
cut_hook_registered true HookState.Started waits = refl
cut_hook_registered true HookState.Stopped waits = refl

cut_hook_waits : (b : Bool) (hook : HookState) → is_waiting_hook (cut_hook b hook) ≡ true → is_waiting_hook hook ≡ true
cut_hook_waits false hook waits = waits
cut_hook_waits true hook waits = absurd (true≢false (sym waits))

pub waiting_cut : (decls : List CtxDecl) (hooks now : List HookState) (waiting : List (List ℕ)) (p : ℕ → Bool) → AreWaiting decls hooks waiting → length now ≡ length hooks → ((s : ℕ) → hook_at now s ≡ cut_hook (is_waiting_hook (hook_at hooks s) && p s) (hook_at hooks s)) → AreWaiting decls now waiting
waiting_cut decls hooks now waiting p w size each =
    let kept : (s : ℕ) → unregistered (hook_at now s) ≡ unregistered (hook_at hooks s) =
    λ s. ap unregistered (each s) ∙ cut_hook_registered _ (hook_at hooks s) (λ both. (and_parts (is_waiting_hook (hook_at hooks s)) (p s) both).0) in
    let same = sum_same unregistered HookState.Unregistered now hooks size kept in
    let before = w.room in
    record {
      of_each = w.of_each;
      only = w.only;
      registered = λ y s is. kept s ∙ w.registered y s is;
      all = λ s y waits of. w.all s y (cut_hook_waits _ (hook_at hooks s) (ap is_waiting_hook (sym (each s)) ∙ waits)) of;
      room = omega arith;
    }

-- ---- names for the same

-- what a borrowed slice of all elements leaves
pub written_back : {X : Type 0} (items new : List X) (n : ℕ) → length new ≡ length items → n ≡ length items → take n (new ++ drop (length new) items) ≡ new
written_back items new n as_many all =
    ap (λ rest. take n (new ++ rest)) (drop_all (length new) items (omega arith))
    ∙ ap (take n) (append-nil new)
    ∙ take_all n new (omega arith)

pub contents_same : (a b : Contents) → a.decls ≡ b.decls → a.contexts ≡ b.contexts → a.hooks ≡ b.hooks → a.started ≡ b.started → a.ended ≡ b.ended → a ≡ b
contents_same a b d k h s e =
    ap (λ (v : List CtxDecl). let r : Contents = record a { decls = v } in r) d
    ∙ ap (λ (v : List (Option Context)). let r : Contents = record b { contexts = v; hooks = a.hooks; started = a.started; ended = a.ended } in r) k
    ∙ ap (λ (v : List HookState). let r : Contents = record b { hooks = v; started = a.started; ended = a.ended } in r) h
    ∙ ap (λ (v : List ℕ). let r : Contents = record b { started = v; ended = a.ended } in r) s
    ∙ ap (λ (v : List ℕ). let r : Contents = record b { ended = v } in r) e

-- the same, with what was found in order
pub sorted_ended : (old old' new : List (Option Context)) (children waiting : List (List ℕ)) (x : ℕ) (end : End) (found sorted seen : List ℕ) → old' ≡ old → HasEnded old' new children waiting x end found → IsPermutation found sorted → seen ≡ sorted → HasEnded old new children waiting x end seen
sorted_ended old old' new children waiting x end found sorted seen is_old h permutation is_seen =
    let same : (s : ℕ) → has seen s ≡ has found s =
    λ s. ap (λ ks. has ks s) is_seen ∙ sym (list_any-IsPermutation (λ k. eqb k s) found sorted permutation) in
    subst (λ ks. HasEnded ks new children waiting x end seen) is_old
    (record {
      as_many = h.as_many;
      kept = h.kept;
      first = h.first;
      closed = h.closed;
      least = h.least;
      found_from = λ s is. h.found_from s (sym (same s) ∙ is);
      finds = λ y s newly is. same s ∙ h.finds y s newly is;
    })

-- a cancellation of one without an error is its cut
pub cancel_cut : (c : Contents) (x : ℕ) (end : End) → is_some (end_at c.contexts x) ≡ false → cut c x end ≡ after_cancel c x end
cancel_cut c x end open_yet = rw (none_if (end_at c.contexts x) open_yet) refl

pub cancel_count : (c : Contents) (x : ℕ) → is_some (end_at c.contexts x) ≡ false → (answer_cancel c x).starts ≡ length (starting c x)
cancel_count c x open_yet = rw (none_if (end_at c.contexts x) open_yet) refl

-- ---- what a cancellation leaves

module _ (c new : Contents) (x : ℕ) (end : End) (becomes : Becomes new (after_cancel c x end)) where
  pub declared_still : new.decls ≡ c.decls
  declared_still =
      becomes.declared
      ∙ elim (is_none (end_at c.contexts x)) as (λ b. (let d : Contents = if b then cut c x end else c in d.decls) ≡ c.decls) [ true ↦ refl | false ↦ refl ]

  -- a context that was made, and one that was not
  pub made_still : (y : ℕ) → y < length c.decls → is_some (context_at new.contexts y) ≡ is_some (context_at c.contexts y)
  made_still y l =
      ap (λ ks. is_some (context_at ks y)) becomes.contexts
      ∙ elim (is_none (end_at c.contexts x)) as (λ b. is_some (context_at (let d : Contents = if b then cut c x end else c in d.contexts) y) ≡ is_some (context_at c.contexts y)) [
        | true ↦
            ap is_some (get_or-map-range_with_len (λ y. cut_context (is_reached c.decls c.contexts x y) end (context_at c.contexts y)) 0 (length c.decls) y y None l (zero-add y))
            ∙ cut_made (is_reached c.decls c.contexts x y) end (context_at c.contexts y)
        | false ↦ refl
      ]

  -- its world
  pub world_still : (y : ℕ) → y < length c.decls → world_at new.contexts y ≡ world_at c.contexts y
  world_still y l =
      ap (λ ks. world_at ks y) becomes.contexts
      ∙ elim (is_none (end_at c.contexts x)) as (λ b. world_at (let d : Contents = if b then cut c x end else c in d.contexts) y ≡ world_at c.contexts y) [
        | true ↦
            ap (option_map (λ (k : Context). k.world)) (get_or-map-range_with_len (λ y. cut_context (is_reached c.decls c.contexts x y) end (context_at c.contexts y)) 0 (length c.decls) y y None l (zero-add y))
            ∙ cut_world (is_reached c.decls c.contexts x y) end (context_at c.contexts y)
        | false ↦ refl
      ]

  -- a hook that was registered, and one that was not
  pub registered_still : (s : ℕ) → s < length c.decls → unregistered (hook_at new.hooks s) ≡ unregistered (hook_at c.hooks s)
  registered_still s l =
      ap (λ hs. unregistered (hook_at hs s)) becomes.hooks
      ∙ elim (is_none (end_at c.contexts x)) as (λ b. unregistered (hook_at (let d : Contents = if b then cut c x end else c in d.hooks) s) ≡ unregistered (hook_at c.hooks s)) [
        | true ↦
            ap unregistered (get_or-map-range_with_len (λ s. cut_hook (is_starting c x s) (hook_at c.hooks s)) 0 (length c.decls) s s HookState.Unregistered l (zero-add s))
            ∙ cut_hook_registered (is_starting c x s) (hook_at c.hooks s) (λ both. (and_parts (is_waiting_hook (hook_at c.hooks s)) _ both).0)
        | false ↦ refl
      ]

pub none_made : {X : Type 0} (o : Option X) → is_some o ≡ false → o ≡ None
none_made None e = refl
none_made (Some x) e = absurd (true≢false e)

pub is_unregistered : (h : HookState) → unregistered h ≡ 1 → h ≡ HookState.Unregistered
is_unregistered HookState.Unregistered e = refl
is_unregistered HookState.Waiting e = absurd (omega arith)
is_unregistered HookState.Started e = absurd (omega arith)
is_unregistered HookState.Stopped e = absurd (omega arith)

pub is_registered : (h : HookState) → unregistered h ≡ 0 → h ≡ HookState.Unregistered → ⊥
is_registered h e is = let one = ap unregistered is in absurd (omega arith)

-- a hook that is stopped leaves the others
pub stopped_other : (c : Contents) (s k : ℕ) → (k ≡ s → ⊥) → unregistered (hook_at (after_stop c s).hooks k) ≡ unregistered (hook_at c.hooks k)
stopped_other c s k other =
    elim (is_waiting_hook (hook_at c.hooks s)) as (λ b. unregistered (hook_at (let d : Contents = if b then record c { hooks = set c.hooks s HookState.Stopped } else c in d.hooks) k) ≡ unregistered (hook_at c.hooks k)) [
      | true ↦ ap unregistered (get_or-set_other c.hooks s k HookState.Stopped HookState.Unregistered other)
      | false ↦ refl
    ]
