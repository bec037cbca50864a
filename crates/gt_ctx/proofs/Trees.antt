-- What is kept of deadlines, children and hooks stays so where a context is made and where a hook changes.
use Rattle.std.proofs.Common.{◌≡◌, ℕ, zero, suc, ◌+◌, ◌<◌, ◌≤◌, ◌⊎◌, eqb, true, false, Option, None, Some, IfSome, List, [], ◌∷◌, length, set, is_some, refl, sym, ◌∙◌, ap, subst, inl, inr, arith}
use Rattle.std.specs.List.{sum_by}
use Rattle.std.specs.Option.{option_and_then, option_or}
use Rattle.std.proofs.lemmas.Bool.{cases_eq, cases_lt, or_cases, or_left, or_right, eqb-true, eq-eqb, true≢false}
use Rattle.std.proofs.lemmas.Grind.{get_or-set_at}
use Rattle.std.proofs.lemmas.List.{get_or_past, get_or-set_other, length-set}
use Rattle.std.proofs.lemmas.List.Sums.{sum_by-set, get_or-le-sum_by}
use Rattle.gt_model.specs.declared.context.Context.{Context}
use Rattle.gt_model.specs.declared.context.HookState.{HookState}
use Rattle.gt_ctx.specs.declared.decl.CtxDecl.{CtxDecl}
use Rattle.gt_ctx.specs.Decls.{AreOrdered, decl_at, is_context, ctx_by, heeded}
use Rattle.gt_ctx.specs.Contents.{Contents, context_at, end_at, own_at, hook_at, deadline, reached_from}
use Rattle.gt_rules.specs.Contexts.{is_waiting_hook}
use Rattle.gt_ctx.specs.Calls.{ctx_of}
use Rattle.gt_ctx.specs.Links.{items_of, has, joined_to}
use Rattle.gt_ctx.specs.Kept.{unstarted, unregistered, unmade, deadline_at, kept_deadline, AreDerived, AreChildren, AreWaiting}
use Rattle.gt_ctx.proofs.Lines.{heeded_earlier, heeded_if_made, deadline-step}

-- ---- what is declared has its place

pub context_within : (decls : List CtxDecl) (x : ℕ) → is_context (decl_at decls x) ≡ true → x < length decls
context_within decls x is =
    elim (cases_lt x (length decls)) [
      | inl l ↦ l
      | inr m ↦ absurd (true≢false (sym is ∙ ap is_context (get_or_past decls x CtxDecl.Other m)))
    ]

pub made_within : (contexts : List (Option Context)) (x : ℕ) → is_some (context_at contexts x) ≡ true → x < length contexts
made_within contexts x is =
    elim (cases_lt x (length contexts)) [
      | inl l ↦ l
      | inr m ↦ absurd (true≢false (sym is ∙ ap is_some (get_or_past contexts x None m)))
    ]

pub waiting_within : (hooks : List HookState) (s : ℕ) → is_waiting_hook (hook_at hooks s) ≡ true → s < length hooks
waiting_within hooks s is =
    elim (cases_lt s (length hooks)) [
      | inl l ↦ l
      | inr m ↦ absurd (true≢false (sym is ∙ ap is_waiting_hook (get_or_past hooks s HookState.Unregistered m)))
    ]

pub hook_within : (decls : List CtxDecl) (s : ℕ) → is_some (ctx_of decls s) ≡ true → s < length decls
hook_within decls s is =
    elim (cases_lt s (length decls)) [
      | inl l ↦ l
      | inr m ↦ absurd (true≢false (sym is ∙ ap (λ d. is_some (ctx_by d)) (get_or_past decls s CtxDecl.Other m)))
    ]

-- a context that was not made has no own deadline
no_own : (kept : Option Context) → is_some kept ≡ false → is_some (option_and_then (λ (k : Context). k.own) kept) ≡ false
no_own None h = refl
no_own (Some kept) h = absurd (true≢false h)

pub unmade_own : (contexts : List (Option Context)) (x : ℕ) → is_some (context_at contexts x) ≡ false → is_some (own_at contexts x) ≡ false
unmade_own contexts x h = no_own (context_at contexts x) h

-- what holds of an optional value that is there
pub if_some : {X : Type 0} (P : X → Type 0) (o : Option X) (x : X) → IfSome o P → o ≡ Some x → P x
if_some P None x h e = absurd (cc)
if_some P (Some y) x h e = let same : y ≡ x = cc in subst P same h

-- ---- parents

made_heeds : (kept : Option Context) (o : Option ℕ) → is_some kept ≡ true → option_and_then (λ (_ : Context). o) kept ≡ o
made_heeds None o made = absurd (true≢false (sym made))
made_heeds (Some kept) o made = refl

unmade_heeds : (kept : Option Context) (o : Option ℕ) (p : ℕ) → option_and_then (λ (_ : Context). o) kept ≡ Some p → is_some kept ≡ true
unmade_heeds None o p e = absurd (cc)
unmade_heeds (Some kept) o p e = refl

pub reached_is_made : (decls : List CtxDecl) (contexts : List (Option Context)) (y p : ℕ) → reached_from decls contexts y ≡ Some p → is_some (context_at contexts y) ≡ true
reached_is_made decls contexts y p e = unmade_heeds (context_at contexts y) (heeded decls y) p e

pub reached_heeds : (decls : List CtxDecl) (contexts : List (Option Context)) (y p : ℕ) → reached_from decls contexts y ≡ Some p → heeded decls y ≡ Some p
reached_heeds decls contexts y p e = heeded_if_made (context_at contexts y) (heeded decls y) p e

pub made_reached : (decls : List CtxDecl) (contexts : List (Option Context)) (y : ℕ) → is_some (context_at contexts y) ≡ true → reached_from decls contexts y ≡ heeded decls y
made_reached decls contexts y made = made_heeds (context_at contexts y) (heeded decls y) made

-- ---- the deadline that is kept of a context that was made is its deadline

deadline_above : (deadlines : List (Option ℕ)) (c : Contents) (o : Option ℕ) → ((p : ℕ) → o ≡ Some p → deadline_at deadlines p ≡ deadline c p) → option_and_then (deadline_at deadlines) o ≡ option_and_then (deadline c) o
deadline_above deadlines c None h = refl
deadline_above deadlines c (Some p) h = h p refl

module _ (c : Contents) (deadlines : List (Option ℕ)) (ordered : AreOrdered c.decls) (d : AreDerived c.decls c.contexts deadlines) where
  parent_is_made : (y p : ℕ) → is_some (context_at c.contexts y) ≡ true → heeded c.decls y ≡ Some p → is_some (context_at c.contexts p) ≡ true
  parent_is_made y p made up = d.parent_made y p (made_reached c.decls c.contexts y made ∙ up)

  kept_below : (n y : ℕ) → y < n → is_some (context_at c.contexts y) ≡ true → deadline_at deadlines y ≡ deadline c y
  kept_below zero y l made = absurd (omega arith)
  kept_below (suc n) y l made =
      d.deadline y made
      ∙ ap (option_or (own_at c.contexts y)) (deadline_above deadlines c (heeded c.decls y) (λ p up.
      kept_below n p (omega (arith, heeded_earlier c.decls ordered y p up)) (parent_is_made y p made up)))
      ∙ sym (deadline-step c ordered y)

  pub kept_is_deadline : (y : ℕ) → is_some (context_at c.contexts y) ≡ true → deadline_at deadlines y ≡ deadline c y
  kept_is_deadline y made = kept_below (suc y) y (omega arith) made

  -- that of the parent of one that is made
  pub parents_kept : (o : Option ℕ) → ((p : ℕ) → o ≡ Some p → is_some (context_at c.contexts p) ≡ true) → option_and_then (deadline_at deadlines) o ≡ option_and_then (deadline c) o
  parents_kept o made = deadline_above deadlines c o (λ p e. kept_is_deadline p (made p e))

-- ---- a context is made

module _ (decls : List CtxDecl) (contexts : List (Option Context)) (deadlines : List (Option ℕ)) (ordered : AreOrdered decls) (x : ℕ) (kept : Context) (due : Option ℕ) (many : length contexts ≡ length decls) (within : x < length decls) (unmade_yet : context_at contexts x ≡ None) (parent : (p : ℕ) → heeded decls x ≡ Some p → is_some (context_at contexts p) ≡ true) where
  abbrev contexts' : List (Option Context)
  contexts' = set contexts x (Some kept)

  at_x : context_at contexts' x ≡ Some kept
  at_x = get_or-set_at contexts x x (Some kept) None refl (omega arith)

  elsewhere : (y : ℕ) → (y ≡ x → ⊥) → context_at contexts' y ≡ context_at contexts y
  elsewhere y n = get_or-set_other contexts x y (Some kept) None n

  not_x : (p : ℕ) → is_some (context_at contexts p) ≡ true → p ≡ x → ⊥
  not_x p made e = true≢false (sym made ∙ ap (λ k. is_some (context_at contexts k)) e ∙ ap is_some unmade_yet)

  still_made : (p : ℕ) → is_some (context_at contexts p) ≡ true → is_some (context_at contexts' p) ≡ true
  still_made p made = ap is_some (elsewhere p (not_x p made)) ∙ made

  same_end : (p : ℕ) → is_some (context_at contexts p) ≡ true → end_at contexts' p ≡ end_at contexts p
  same_end p made = ap (option_and_then (λ (k : Context). k.end)) (elsewhere p (not_x p made))

  reached_at_x : reached_from decls contexts' x ≡ heeded decls x
  reached_at_x = ap (option_and_then (λ (_ : Context). heeded decls x)) at_x

  reached_elsewhere : (y : ℕ) → (y ≡ x → ⊥) → reached_from decls contexts' y ≡ reached_from decls contexts y
  reached_elsewhere y n = ap (option_and_then (λ (_ : Context). heeded decls y)) (elsewhere y n)

  -- whoever reaches a context was made before, and x reaches nobody
  parent_before : AreDerived decls contexts deadlines → (y p : ℕ) → reached_from decls contexts' y ≡ Some p → is_some (context_at contexts p) ≡ true
  parent_before d y p up =
      elim (cases_eq y x) [
        | inl e ↦ parent p (sym reached_at_x ∙ ap (reached_from decls contexts') (sym e) ∙ up)
        | inr n ↦ d.parent_made y p (sym (reached_elsewhere y n) ∙ up)
      ]

  module _ (d : AreDerived decls contexts deadlines) (ends : (p : ℕ) → heeded decls x ≡ Some p → is_some (end_at contexts p) ≡ true → is_some kept.end ≡ true) (is_due : due ≡ option_or kept.own (option_and_then (deadline_at deadlines) (heeded decls x))) where
    abbrev deadlines' : List (Option ℕ)
    deadlines' = set deadlines x due

    same_deadline : (p : ℕ) → is_some (context_at contexts p) ≡ true → deadline_at deadlines' p ≡ deadline_at deadlines p
    same_deadline p made = get_or-set_other deadlines x p due None (not_x p made)

    same_above : (o : Option ℕ) → ((p : ℕ) → o ≡ Some p → is_some (context_at contexts p) ≡ true) → option_and_then (deadline_at deadlines) o ≡ option_and_then (deadline_at deadlines') o
    same_above None h = refl
    same_above (Some p) h = sym (same_deadline p (h p refl))

    ends_still : (y p : ℕ) → reached_from decls contexts' y ≡ Some p → is_some (end_at contexts' p) ≡ true → is_some (end_at contexts' y) ≡ true
    ends_still y p up ended =
        let before : is_some (end_at contexts p) ≡ true = ap is_some (sym (same_end p (parent_before d y p up))) ∙ ended in
        elim (cases_eq y x) [
          | inl e ↦
              ap (λ k. is_some (end_at contexts' k)) e ∙ ap (λ o. is_some (option_and_then (λ (k : Context). k.end) o)) at_x
              ∙ ends p (sym reached_at_x ∙ ap (reached_from decls contexts') (sym e) ∙ up) before
          | inr n ↦
              ap (λ o. is_some (option_and_then (λ (k : Context). k.end) o)) (elsewhere y n)
              ∙ d.ends_pass y p (sym (reached_elsewhere y n) ∙ up) before
        ]

    due_still : (y : ℕ) → is_some (context_at contexts' y) ≡ true → deadline_at deadlines' y ≡ kept_deadline decls contexts' deadlines' y
    due_still y made =
        elim (cases_eq y x) [
          | inl e ↦
              let size = d.of_each in
              ap (deadline_at deadlines') e ∙ get_or-set_at deadlines x x due None refl (omega arith) ∙ is_due
              ∙ ap (option_or kept.own) (same_above (heeded decls x) parent)
              ∙ ap (λ o. option_or (option_and_then (λ (k : Context). k.own) o) (option_and_then (deadline_at deadlines') (heeded decls x))) (sym at_x)
              ∙ ap (kept_deadline decls contexts' deadlines') (sym e)
          | inr n ↦
              let was : is_some (context_at contexts y) ≡ true = ap is_some (sym (elsewhere y n)) ∙ made in
              get_or-set_other deadlines x y due None n ∙ d.deadline y was
              ∙ ap (option_or (own_at contexts y)) (same_above (heeded decls y) (λ p up. d.parent_made y p (made_reached decls contexts y was ∙ up)))
              ∙ ap (λ o. option_or (option_and_then (λ (k : Context). k.own) o) (option_and_then (deadline_at deadlines') (heeded decls y))) (sym (elsewhere y n))
        ]

    pub derived_more : AreDerived decls contexts' deadlines'
    derived_more = record {
      of_each = length-set deadlines x due ∙ d.of_each;
      parent_made = λ y p up. still_made p (parent_before d y p up);
      ends_pass = ends_still;
      deadline = due_still;
    }

  module _ (children : List (List ℕ)) (a : AreChildren decls contexts children) where
    one_made : sum_by unmade contexts' + 1 ≡ sum_by unmade contexts
    one_made =
        let change = sum_by-set unmade contexts x (Some kept) None (omega arith) in
        let was = ap unmade unmade_yet in
        omega arith

    -- below a parent
    children_of : (p : ℕ) → heeded decls x ≡ Some p → AreChildren decls contexts' (set children p (x ∷ items_of children p))
    children_of p up =
        let size = a.of_each in
        let lower : p < x = heeded_earlier decls ordered x p up in
        let change = sum_by-set length children p (x ∷ items_of children p) [] (omega arith) in
        let made = one_made in
        let before = a.room in
        let here : items_of (set children p (x ∷ items_of children p)) p ≡ x ∷ items_of children p =
        get_or-set_at children p p (x ∷ items_of children p) [] refl (omega arith) in
        let there : (q : ℕ) → (q ≡ p → ⊥) → items_of (set children p (x ∷ items_of children p)) q ≡ items_of children q =
        λ q n. get_or-set_other children p q (x ∷ items_of children p) [] n in
        let old : (q y : ℕ) → has (items_of children q) y ≡ true → reached_from decls contexts' y ≡ Some q =
        λ q y h. reached_elsewhere y (not_x y (reached_is_made decls contexts y q (a.only q y h))) ∙ a.only q y h in
        let new : (q y : ℕ) → reached_from decls contexts' y ≡ Some q → (y ≡ x → ⊥) → has (items_of children q) y ≡ true =
        λ q y h n. a.all y q (sym (reached_elsewhere y n) ∙ h) in
        record {
          of_each = length-set children p (x ∷ items_of children p) ∙ a.of_each;
          only = λ q y h. elim (cases_eq q p) [
            | inl e ↦
                elim (or_cases (eqb x y) (has (items_of children p) y) (ap (λ is. has is y) (sym here) ∙ ap (λ k. has (items_of (set children p (x ∷ items_of children p)) k) y) (sym e) ∙ h)) [
                  | inl is ↦ ap (reached_from decls contexts') (sym (eqb-true x y is)) ∙ reached_at_x ∙ up ∙ ap Some (sym e)
                  | inr is ↦ old p y is ∙ ap Some (sym e)
                ]
            | inr n ↦ old q y (ap (λ is. has is y) (sym (there q n)) ∙ h)
          ];
          all = λ y q h. elim (cases_eq q p) [
            | inl e ↦
                ap (λ k. has (items_of (set children p (x ∷ items_of children p)) k) y) e ∙ ap (λ is. has is y) here
                ∙ elim (cases_eq y x) [
                  | inl is ↦ or_left (eqb x y) (has (items_of children p) y) (eq-eqb x y (sym is))
                  | inr n ↦ or_right (eqb x y) (has (items_of children p) y) (new p y (h ∙ ap Some e) n)
                ]
            | inr n ↦
                ap (λ is. has is y) (there q n)
                ∙ elim (cases_eq y x) [
                  | inl is ↦ let same : Some q ≡ Some p = sym h ∙ ap (reached_from decls contexts') is ∙ reached_at_x ∙ up in absurd (n (cc))
                  | inr m ↦ new q y h m
                ]
          ];
          room = omega arith;
        }

    -- below `root`, or a parent that reaches nobody
    children_none : heeded decls x ≡ None → AreChildren decls contexts' children
    children_none up =
        let made = one_made in
        let before = a.room in
        record {
          of_each = a.of_each;
          only = λ q y h. reached_elsewhere y (not_x y (reached_is_made decls contexts y q (a.only q y h))) ∙ a.only q y h;
          all = λ y q h. elim (cases_eq y x) [
            | inl is ↦ let same : None ≡ Some q = sym up ∙ sym reached_at_x ∙ ap (reached_from decls contexts') (sym is) ∙ h in absurd (cc)
            | inr n ↦ a.all y q (sym (reached_elsewhere y n) ∙ h)
          ];
          room = omega arith;
        }

    pub children_more : (o : Option ℕ) → heeded decls x ≡ o → AreChildren decls contexts' (joined_to children o x)
    children_more None up = children_none up
    children_more (Some p) up = children_of p up

-- ---- a hook changes

module _ (decls : List CtxDecl) (hooks : List HookState) (waiting : List (List ℕ)) (w : AreWaiting decls hooks waiting) (s : ℕ) (l : s < length hooks) where
  -- one that was registered, and no longer waits
  pub hook_leaves : (v : HookState) → unregistered v ≡ 0 → is_waiting_hook v ≡ false → AreWaiting decls (set hooks s v) waiting
  hook_leaves v registered idle =
      let change = sum_by-set unregistered hooks s v HookState.Unregistered l in
      let before = w.room in
      record {
        of_each = w.of_each;
        only = w.only;
        registered = λ y k h. elim (cases_eq k s) [
          | inl e ↦ ap unregistered (get_or-set_at hooks s k v HookState.Unregistered e l) ∙ registered
          | inr n ↦ ap unregistered (get_or-set_other hooks s k v HookState.Unregistered n) ∙ w.registered y k h
        ];
        all = λ k y h at. elim (cases_eq k s) [
          | inl e ↦ absurd (true≢false (sym h ∙ ap is_waiting_hook (get_or-set_at hooks s k v HookState.Unregistered e l) ∙ idle))
          | inr n ↦ w.all k y (ap is_waiting_hook (sym (get_or-set_other hooks s k v HookState.Unregistered n)) ∙ h) at
        ];
        room = omega arith;
      }

  -- one that waits from now on
  pub hook_joins : (x : ℕ) → hook_at hooks s ≡ HookState.Unregistered → ctx_of decls s ≡ Some x → x < length waiting → AreWaiting decls (set hooks s HookState.Waiting) (set waiting x (s ∷ items_of waiting x))
  hook_joins x fresh of within =
      let change = sum_by-set unregistered hooks s HookState.Waiting HookState.Unregistered l in
      let was = ap unregistered fresh in
      let lists = sum_by-set length waiting x (s ∷ items_of waiting x) [] within in
      let before = w.room in
      let here : items_of (set waiting x (s ∷ items_of waiting x)) x ≡ s ∷ items_of waiting x = get_or-set_at waiting x x (s ∷ items_of waiting x) [] refl within in
      let there : (y : ℕ) → (y ≡ x → ⊥) → items_of (set waiting x (s ∷ items_of waiting x)) y ≡ items_of waiting y =
      λ y n. get_or-set_other waiting x y (s ∷ items_of waiting x) [] n in
      -- each item of a list is new or old
      let parts : (y k : ℕ) → has (items_of (set waiting x (s ∷ items_of waiting x)) y) k ≡ true → ((k ≡ s) × (y ≡ x)) ⊎ (has (items_of waiting y) k ≡ true) =
      λ y k h. elim (cases_eq y x) [
        | inl e ↦
            elim (or_cases (eqb s k) (has (items_of waiting x) k) (ap (λ is. has is k) (sym here) ∙ ap (λ j. has (items_of (set waiting x (s ∷ items_of waiting x)) j) k) (sym e) ∙ h)) [
              | inl is ↦ inl (sym (eqb-true s k is), e)
              | inr is ↦ inr (ap (λ j. has (items_of waiting j) k) e ∙ is)
            ]
        | inr n ↦ inr (ap (λ is. has is k) (sym (there y n)) ∙ h)
      ] in
      record {
        of_each = length-set waiting x (s ∷ items_of waiting x) ∙ w.of_each;
        only = λ y k h. elim (parts y k h) [
          | inl is ↦ ap (ctx_of decls) is.0 ∙ of ∙ ap Some (sym is.1)
          | inr is ↦ w.only y k is
        ];
        registered = λ y k h. elim (cases_eq k s) [
          | inl e ↦ ap unregistered (get_or-set_at hooks s k HookState.Waiting HookState.Unregistered e l)
          | inr n ↦ elim (parts y k h) [
            | inl is ↦ absurd (n is.0)
            | inr is ↦ ap unregistered (get_or-set_other hooks s k HookState.Waiting HookState.Unregistered n) ∙ w.registered y k is
          ]
        ];
        all = λ k y h at. elim (cases_eq y x) [
          | inl e ↦
              ap (λ j. has (items_of (set waiting x (s ∷ items_of waiting x)) j) k) e ∙ ap (λ is. has is k) here
              ∙ elim (cases_eq k s) [
                | inl is ↦ or_left (eqb s k) (has (items_of waiting x) k) (eq-eqb s k (sym is))
                | inr n ↦
                    or_right (eqb s k) (has (items_of waiting x) k)
                    (w.all k x (ap is_waiting_hook (sym (get_or-set_other hooks s k HookState.Waiting HookState.Unregistered n)) ∙ h) (at ∙ ap Some e))
              ]
          | inr n ↦
              ap (λ is. has is k) (there y n)
              ∙ elim (cases_eq k s) [
                | inl is ↦ let same : Some y ≡ Some x = sym at ∙ ap (ctx_of decls) is ∙ of in absurd (n (cc))
                | inr m ↦ w.all k y (ap is_waiting_hook (sym (get_or-set_other hooks s k HookState.Waiting HookState.Unregistered m)) ∙ h) at
              ]
        ];
        room = omega arith;
      }

-- the room that hooks may still need
pub room_stays : (hooks : List HookState) (s : ℕ) (v : HookState) (started capacity : ℕ) → s < length hooks → unstarted v ≤ unstarted (hook_at hooks s) → started + sum_by unstarted hooks ≤ capacity → started + sum_by unstarted (set hooks s v) ≤ capacity
room_stays hooks s v started capacity l less room =
    let change = sum_by-set unstarted hooks s v HookState.Unregistered l in
    omega arith

pub waits_unstarted : (h : HookState) → is_waiting_hook h ≡ true → 1 ≤ unstarted h
waits_unstarted HookState.Unregistered e = absurd (true≢false (sym e))
waits_unstarted HookState.Waiting e = omega arith
waits_unstarted HookState.Started e = absurd (true≢false (sym e))
waits_unstarted HookState.Stopped e = absurd (true≢false (sym e))

pub fresh_unstarted : (h : HookState) → h ≡ HookState.Unregistered → 1 ≤ unstarted h
fresh_unstarted h e = subst (λ k. 1 ≤ unstarted k) (sym e) (omega arith)

-- no list is as long as there are contexts, while one of them is unmade
pub short_children : (decls : List CtxDecl) (contexts : List (Option Context)) (children : List (List ℕ)) (x p : ℕ) → AreChildren decls contexts children → x < length contexts → context_at contexts x ≡ None → length (items_of children p) < length children
short_children decls contexts children x p a within unmade_yet =
    let one = get_or-le-sum_by unmade contexts x None within in
    let was = ap unmade unmade_yet in
    let room = a.room in
    let size = a.of_each in
    elim (cases_lt p (length children)) [
      | inl l ↦ let here = get_or-le-sum_by length children p [] l in omega arith
      | inr m ↦ let none = ap length (get_or_past children p [] m) in omega arith
    ]
