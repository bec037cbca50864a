-- At each entry of a context or a hook the laws ask what the machine's rules ask.
use Rattle.std.proofs.Common.{◌≡◌, ℕ, ◌+◌, ◌&&◌, List, length, refl, sym, ap, subst, ◌∙◌, cond, Option, None, Some, option_map, Bool, true, false, not, is_some, is_none, IfSome, IsSomeAnd, IsTrue}
use Rattle.std.proofs.lemmas.Bool.{and_parts}
use Rattle.gt_model.specs.declared.script.Script.{Script}
use Rattle.gt_model.specs.declared.script.CaseKind.{CaseKind}
use Rattle.gt_model.specs.declared.script.Instr.{Instr}
use Rattle.gt_model.specs.declared.entry.Entry.{Entry}
use Rattle.gt_model.specs.declared.entry.Limits.{Limits}
use Rattle.gt_model.specs.declared.entry.Party.{Party}
use Rattle.gt_model.specs.declared.entry.Reason.{Reason}
use Rattle.gt_model.specs.declared.context.Context.{Context}
use Rattle.gt_model.specs.declared.context.End.{End}
use Rattle.gt_model.specs.declared.context.ErrVal.{ErrVal}
use Rattle.gt_model.specs.declared.context.CauseVal.{CauseVal}
use Rattle.gt_model.specs.Script.{parent_of, ctx_of}
use Rattle.gt_rules.specs.State.{State, clock, context_at, end_at, own_at, has_ended, next_number, world_of}
use Rattle.gt_rules.specs.Contexts.{made_context, start_count, hook_is_due, is_waiting_hook}
use Rattle.gt_rules.specs.Panics.{when, or_else}
use Rattle.gt_rules.specs.Ready.{is_due}
use Rattle.gt_rules.specs.Legal.{Does, Expires}
use Rattle.gt_facts.proofs.Makers.{none-when, neither}
use Rattle.gt_laws.specs.Told.{derived_told, registered_told, started_told, starts_told}
use Rattle.gt_laws.specs.GoesOn.{underived, misuse_told}
use Rattle.gt_laws.specs.Contexts.{end_told, ended_told, ended_some, hook_due_told, ends_at_once, own_is_due}
use Rattle.gt_laws.specs.Laws.{AreDerived}
use Rattle.gt_laws.proofs.Shown.{derived-told}
use Rattle.gt_laws.proofs.Everyone.{hook-told, starts-told}
use Rattle.gt_laws.proofs.FirstEnds.{end-told, ended-told, own_due-told, once-told}
use Rattle.gt_laws.proofs.GoesOn.{reached}
use Rattle.gt_laws.proofs.Behind.{Behind, Row, told, next, calm-told, does, calm-there, operates-told, told-operates, not-false}

-- ---- what was made

made-there : {script : Script} {limits : Limits} {front : List Entry} (b : Behind script limits front) (x : ℕ) → derived_told x front ≡ true → is_some (context_at (reached script front) x) ≡ true
made-there {script} {limits} {front} b x made = derived-told script limits x front b.good b.before ∙ made

unmade-there : {script : Script} {limits : Limits} {front : List Entry} (b : Behind script limits front) (x : ℕ) → derived_told x front ≡ false → is_some (context_at (reached script front) x) ≡ false
unmade-there {script} {limits} {front} b x unmade = derived-told script limits x front b.good b.before ∙ unmade

-- who is named was made, where its use is no misuse
is-there : (was : Bool) → when (not was) Reason.Unmade ≡ None → was ≡ true
is-there was none = not-false was (none-when (not was) Reason.Unmade none)

there-is : (was : Bool) → was ≡ true → when (not was) Reason.Unmade ≡ None
there-is was h = ap (λ b. when (not b) Reason.Unmade) h

are-derived : (front : List Entry) (o : Option ℕ) → underived front o ≡ None → AreDerived front o
are-derived front None none = tt
are-derived front (Some x) none = is-there (derived_told x front) none

derived-are : (front : List Entry) (o : Option ℕ) → AreDerived front o → underived front o ≡ None
derived-are front None made = refl
derived-are front (Some x) made = there-is (derived_told x front) made

parent-there : {script : Script} {limits : Limits} {front : List Entry} (b : Behind script limits front) (o : Option ℕ) → AreDerived front o
    → IfSome o (λ p. is_some (context_at (reached script front) p) ≡ true)
parent-there b None made = tt
parent-there b (Some x) made = made-there b x made

-- what is used once and behind another one
unused : (was : Bool) (front : List Entry) (o : Option ℕ) → was ≡ false → AreDerived front o → or_else (when was Reason.Twice) (underived front o) ≡ None
unused was front o fresh made = ap (λ b. or_else (when b Reason.Twice) (underived front o)) fresh ∙ derived-are front o made

-- ---- the end of a context that was made

ended-there : {script : Script} {limits : Limits} {front : List Entry} (b : Behind script limits front) (x : ℕ) → derived_told x front ≡ true
    → has_ended (reached script front) x ≡ ended_told script x front
ended-there {script} {limits} {front} b x made = ended-told script limits x front b.good b.before ∙ ap (λ d. d && ended_told script x front) made

end-there : {script : Script} {limits : Limits} {front : List Entry} (b : Behind script limits front) (x : ℕ) → derived_told x front ≡ true
    → end_at (reached script front) x ≡ end_told script x front
end-there {script} {limits} {front} b x made = end-told script limits x front b.good b.before (made-there b x made)

derived-there : {script : Script} {limits : Limits} {front : List Entry} (b : Behind script limits front) (g x : ℕ) (i : Instr) → Does script (reached script front) g i
    → misuse_told script front i ≡ underived front (Some x) → derived_told x front ≡ true
derived-there {script} {limits} {front} b g x i may is = is-there (derived_told x front) (sym is ∙ calm-there b g i may)

-- ---- a context is made

once-there : {script : Script} {limits : Limits} {front : List Entry} (b : Behind script limits front) (g x : ℕ) → derived_told x front ≡ false → AreDerived front (parent_of script x)
    → is_some (made_context script (reached script front) (world_of (reached script front) g) x).end ≡ ends_at_once script g x front
once-there {script} {limits} {front} b g x fresh parent =
    once-told script limits front g x b.good b.before (unmade-there b x fresh) (parent-there b (parent_of script x) parent)

pub derives-row : {script : Script} {limits : Limits} {front : List Entry} (b : Behind script limits front) (g x : ℕ) (ended : Bool) → Row script front (Entry.CtxMake g x ended)
derives-row {script} {limits} {front} b g x ended = (
  λ may.
      let calm = neither (when (derived_told x front) Reason.Twice) (underived front (parent_of script x)) (calm-there b g (Instr.With x) may.0) in
      let fresh : derived_told x front ≡ false = none-when (derived_told x front) Reason.Twice calm.0 in
      let parent : AreDerived front (parent_of script x) = are-derived front (parent_of script x) calm.1 in
      record {
        order = told b g (Instr.With x) may.0.stands;
        time = tt;
        fresh = tt;
        uses = (fresh, parent);
        passes = tt;
        chooses = tt;
        alone = tt;
        adds_up = tt;
        signals = tt;
        keeps = may.1 ∙ once-there b g x fresh parent;
        hooks = tt;
      },
  λ o. (
    does b g (Instr.With x) o.order (unused (derived_told x front) front (parent_of script x) o.uses.0 o.uses.1),
    o.keeps ∙ sym (once-there b g x o.uses.0 o.uses.1),
  ),
)

-- ---- a context ends

either-way : (b : Bool) (n : ℕ) → cond b 0 n ≡ cond (not b) n 0
either-way true n = refl
either-way false n = refl

count-there : {script : Script} {limits : Limits} {front : List Entry} (b : Behind script limits front) (x : ℕ)
    → start_count script (reached script front) x ≡ cond (not (has_ended (reached script front) x)) (length (starts_told script x front)) 0
count-there {script} {limits} {front} b x =
    ap (λ (hs : List ℕ). cond (has_ended (reached script front) x) 0 (length hs)) (starts-told script limits x front b.good b.before)
    ∙ either-way (has_ended (reached script front) x) (length (starts_told script x front))

pub cancels-row : {script : Script} {limits : Limits} {front : List Entry} (b : Behind script limits front) (g x : ℕ) (newly : Bool) (starts : ℕ)
    → Row script front (Entry.Cancel g x newly starts)
cancels-row {script} {limits} {front} b g x newly starts = (
  λ may.
      let made : derived_told x front ≡ true = derived-there b g x (Instr.Cancel x may.0) may.1 refl in
      record {
        order = (may.0, told b g (Instr.Cancel x may.0) may.1.stands);
        time = tt;
        fresh = tt;
        uses = made;
        passes = tt;
        chooses = tt;
        alone = tt;
        adds_up = tt;
        signals = tt;
        keeps = may.2 ∙ ap not (ended-there b x made);
        hooks = may.3 ∙ (count-there b x ∙ ap (λ c. cond c (length (starts_told script x front)) 0) (sym may.2));
      },
  λ o.
      let newly_is : newly ≡ not (has_ended (reached script front) x) = o.keeps ∙ ap not (sym (ended-there b x o.uses)) in (
        o.order.0,
        does b g (Instr.Cancel x o.order.0) o.order.1 (there-is (derived_told x front) o.uses),
        newly_is,
        o.hooks ∙ (ap (λ c. cond c (length (starts_told script x front)) 0) newly_is ∙ sym (count-there b x)),
      ),
)

-- a context that has come to its own deadline and has not ended
record Overdue (s : State) (x : ℕ) : Type 0 where
  made : is_some (context_at s x) ≡ true
  going : has_ended s x ≡ false
  due : is_due (own_at s x) (clock s (elim (context_at s x) as (λ o. ℕ) [ None ↦ 0 | Some r ↦ r.world ])) ≡ true

none-going : (o : Option End) → is_none o ≡ true → is_some o ≡ false
none-going None h = refl
none-going (Some end) h = cc

going-none : (o : Option End) → is_some o ≡ false → is_none o ≡ true
going-none None h = refl
going-none (Some end) h = cc

expires-overdue : (s : State) (x : ℕ) → Expires s x → Overdue s x
expires-overdue s x h =
    let parts = elim (context_at s x) as (λ o. IsSomeAnd o (λ (r : Context). IsTrue (is_due r.own (clock s r.world)) × IsTrue (is_none r.end))
    → (is_some o ≡ true) × (is_some (elim o as (λ o. Option End) [ None ↦ None | Some r ↦ r.end ]) ≡ false)
    × (is_due (elim o as (λ o. Option ℕ) [ None ↦ None | Some r ↦ r.own ]) (clock s (elim o as (λ o. ℕ) [ None ↦ 0 | Some r ↦ r.world ])) ≡ true)) [
      | None ↦ λ k. absurd k
      | Some r ↦ λ k. (refl, none-going r.end k.1, k.0)
    ] h in
    record { made = parts.0; going = parts.1; due = parts.2 }

overdue-expires : (s : State) (x : ℕ) → Overdue s x → Expires s x
overdue-expires s x h =
    elim (context_at s x) as (λ o. is_some o ≡ true → is_some (elim o as (λ o. Option End) [ None ↦ None | Some r ↦ r.end ]) ≡ false
    → is_due (elim o as (λ o. Option ℕ) [ None ↦ None | Some r ↦ r.own ]) (clock s (elim o as (λ o. ℕ) [ None ↦ 0 | Some r ↦ r.world ])) ≡ true
    → IsSomeAnd o (λ (r : Context). IsTrue (is_due r.own (clock s r.world)) × IsTrue (is_none r.end))) [
      | None ↦ λ made going due. cc
      | Some r ↦ λ made going due. (due, going-none r.end going)
    ] h.made h.going h.due

going-count : {script : Script} {limits : Limits} {front : List Entry} (b : Behind script limits front) (x : ℕ) → has_ended (reached script front) x ≡ false
    → start_count script (reached script front) x ≡ length (starts_told script x front)
going-count {script} {limits} {front} b x going = count-there b x ∙ ap (λ e. cond (not e) (length (starts_told script x front)) 0) going

pub expires-row : {script : Script} {limits : Limits} {front : List Entry} (b : Behind script limits front) (x starts : ℕ) → Row script front (Entry.Expire x starts)
expires-row {script} {limits} {front} b x starts = (
  λ may.
      let over : Overdue (reached script front) x = expires-overdue (reached script front) x may.0 in
      let made : derived_told x front ≡ true = sym (derived-told script limits x front b.good b.before) ∙ over.made in
      let due : own_is_due script x front ≡ true = sym (own_due-told script limits x front b.good b.before) ∙ over.due in
      record {
        order = tt;
        time = due;
        fresh = tt;
        uses = made;
        passes = tt;
        chooses = tt;
        alone = tt;
        adds_up = tt;
        signals = tt;
        keeps = (sym (ended-there b x made) ∙ over.going, due);
        hooks = may.1 ∙ going-count b x over.going;
      },
  λ o.
      let going : has_ended (reached script front) x ≡ false = ended-there b x o.uses ∙ o.keeps.0 in (
        overdue-expires (reached script front) x
            (record { made = made-there b x o.uses; going = going; due = own_due-told script limits x front b.good b.before ∙ o.keeps.1 }),
        o.hooks ∙ sym (going-count b x going),
      ),
)

-- ---- what a look at a context shows

pub error-row : {script : Script} {limits : Limits} {front : List Entry} (b : Behind script limits front) (g x : ℕ) (err : Option ErrVal) → Row script front (Entry.CtxErr g x err)
error-row {script} {limits} {front} b g x err = (
  λ may.
      let made : derived_told x front ≡ true = derived-there b g x (Instr.ErrOf x) may.0 refl in
      record {
        order = told b g (Instr.ErrOf x) may.0.stands;
        time = tt;
        fresh = tt;
        uses = made;
        passes = tt;
        chooses = tt;
        alone = tt;
        adds_up = tt;
        signals = tt;
        keeps = may.1 ∙ ap (option_map (λ (end : End). end.err)) (end-there b x made);
        hooks = tt;
      },
  λ o. (
    does b g (Instr.ErrOf x) o.order (there-is (derived_told x front) o.uses),
    o.keeps ∙ ap (option_map (λ (end : End). end.err)) (sym (end-there b x o.uses)),
  ),
)

pub cause-row : {script : Script} {limits : Limits} {front : List Entry} (b : Behind script limits front) (g x : ℕ) (cause : Option CauseVal) → Row script front (Entry.Cause g x cause)
cause-row {script} {limits} {front} b g x cause = (
  λ may.
      let made : derived_told x front ≡ true = derived-there b g x (Instr.CauseOf x) may.0 refl in
      record {
        order = told b g (Instr.CauseOf x) may.0.stands;
        time = tt;
        fresh = tt;
        uses = made;
        passes = tt;
        chooses = tt;
        alone = tt;
        adds_up = tt;
        signals = tt;
        keeps = may.1 ∙ ap (option_map (λ (end : End). end.cause)) (end-there b x made);
        hooks = tt;
      },
  λ o. (
    does b g (Instr.CauseOf x) o.order (there-is (derived_told x front) o.uses),
    o.keeps ∙ ap (option_map (λ (end : End). end.cause)) (sym (end-there b x o.uses)),
  ),
)

pub ended-row : {script : Script} {limits : Limits} {front : List Entry} (b : Behind script limits front) (p : Party) (x : ℕ) → Row script front (Entry.CtxDone p x)
ended-row {script} {limits} {front} b p x = (
  λ may.
      let both = and_parts (derived_told x front) (ended_told script x front) (sym (ended-told script limits x front b.good b.before) ∙ may.2) in
      record {
        order = (operates-told b p (CaseKind.Recv x) may.0, may.1);
        time = tt;
        fresh = tt;
        uses = (both.0, calm-told b p.g may.0.calm);
        passes = tt;
        chooses = tt;
        alone = tt;
        adds_up = tt;
        signals = tt;
        keeps = both.1;
        hooks = tt;
      },
  λ o. (told-operates b p (CaseKind.Recv x) o.uses.1 o.order.0, o.order.1, ended-there b x o.uses.0 ∙ o.keeps),
)

-- ---- a hook

due-some : {script : Script} {limits : Limits} {front : List Entry} (b : Behind script limits front) (o : Option ℕ) → AreDerived front o
    → (elim o as (λ o. Bool) [ None ↦ false | Some x ↦ has_ended (reached script front) x ]) ≡ ended_some script front o
due-some b None made = refl
due-some b (Some x) made = ended-there b x made

due-there : {script : Script} {limits : Limits} {front : List Entry} (b : Behind script limits front) (s : ℕ) → AreDerived front (ctx_of script s)
    → hook_is_due script (reached script front) s ≡ hook_due_told script s front
due-there {script} {limits} {front} b s made = due-some b (ctx_of script s) made

child-number : (due : Bool) (child : Option ℕ) (n m : ℕ) → child ≡ cond due (Some n) None → n ≡ m → IfSome child (λ k. k ≡ m)
child-number true child n m is same = subst (λ (o : Option ℕ). IfSome o (λ k. k ≡ m)) (sym is) same
child-number false child n m is same = subst (λ (o : Option ℕ). IfSome o (λ k. k ≡ m)) (sym is) tt

child-due : (due : Bool) (child : Option ℕ) (n : ℕ) → child ≡ cond due (Some n) None → is_some child ≡ due
child-due true child n is = ap is_some is
child-due false child n is = ap is_some is

due-child : (due : Bool) (child : Option ℕ) (n m : ℕ) → is_some child ≡ due → IfSome child (λ k. k ≡ m) → n ≡ m → child ≡ cond due (Some n) None
due-child true None n m is number same = cc
due-child true (Some k) n m is number same = ap Some (number ∙ sym same)
due-child false None n m is number same = refl
due-child false (Some k) n m is number same = cc

pub hangs-row : {script : Script} {limits : Limits} {front : List Entry} (b : Behind script limits front) (g s : ℕ) (child : Option ℕ) → Row script front (Entry.CtxAfter g s child)
hangs-row {script} {limits} {front} b g s child = (
  λ may.
      let calm = neither (when (registered_told s front) Reason.Twice) (underived front (ctx_of script s)) (calm-there b g (Instr.After s) may.0) in
      let made : AreDerived front (ctx_of script s) = are-derived front (ctx_of script s) calm.1 in
      record {
        order = (told b g (Instr.After s) may.0.stands, child-number (hook_is_due script (reached script front) s) child (next_number (reached script front)) (started_told front + 1) may.1 (next b));
        time = tt;
        fresh = tt;
        uses = (none-when (registered_told s front) Reason.Twice calm.0, made);
        passes = tt;
        chooses = tt;
        alone = tt;
        adds_up = tt;
        signals = tt;
        keeps = tt;
        hooks = child-due (hook_is_due script (reached script front) s) child (next_number (reached script front)) may.1 ∙ due-there b s made;
      },
  λ o. (
    does b g (Instr.After s) o.order.0 (unused (registered_told s front) front (ctx_of script s) o.uses.0 o.uses.1),
    due-child (hook_is_due script (reached script front) s) child (next_number (reached script front)) (started_told front + 1)
        (o.hooks ∙ sym (due-there b s o.uses.1)) o.order.1 (next b),
  ),
)

pub takes_back-row : {script : Script} {limits : Limits} {front : List Entry} (b : Behind script limits front) (g s : ℕ) (stopped : Bool) → Row script front (Entry.CtxStop g s stopped)
takes_back-row {script} {limits} {front} b g s stopped = (
  λ may. record {
    order = told b g (Instr.Unhook s) may.0.stands;
    time = tt;
    fresh = tt;
    uses = is-there (registered_told s front) (calm-there b g (Instr.Unhook s) may.0);
    passes = tt;
    chooses = tt;
    alone = tt;
    adds_up = tt;
    signals = tt;
    keeps = tt;
    hooks = may.1 ∙ ap is_waiting_hook (hook-told script limits s front b.good b.before);
  },
  λ o. (
    does b g (Instr.Unhook s) o.order (there-is (registered_told s front) o.uses),
    o.hooks ∙ ap is_waiting_hook (sym (hook-told script limits s front b.good b.before)),
  ),
)
