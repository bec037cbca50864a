-- What follows for whole histories: a context has one cause, and a hook that was started or stopped stays so.
use Rattle.std.proofs.Common.{◌≡◌, ◌≢◌, ℕ, zero, suc, ◌<◌, List, [], ◌∷◌, ◌++◌, length, refl, sym, ap, subst, ◌∙◌, arith, Option, None, Some, option_map, true, false, eqb, slice_index_or, append_assoc, append-nil, IfSome}
use Rattle.std.specs.List.{Contains}
use Rattle.std.proofs.lemmas.Bool.{true≢false, eqb-true, eqb-false}
use Rattle.gt_model.specs.declared.script.Script.{Script}
use Rattle.gt_model.specs.declared.entry.Entry.{Entry}
use Rattle.gt_model.specs.declared.entry.Limits.{Limits}
use Rattle.gt_model.specs.declared.entry.Outcome.{Outcome}
use Rattle.gt_model.specs.declared.context.CauseVal.{CauseVal}
use Rattle.gt_model.specs.declared.context.End.{End}
use Rattle.gt_model.specs.declared.context.ErrVal.{ErrVal}
use Rattle.gt_model.specs.declared.context.HookState.{HookState}
use Rattle.gt_model.specs.Good.{IsGood}
use Rattle.gt_rules.specs.State.{State, hook_at, is_registered}
use Rattle.gt_rules.specs.Contexts.{cut_hook, registered, unhooked}
use Rattle.gt_rules.specs.declared.change.TreeStep.{TreeStep}
use Rattle.gt_rules.specs.Change.{change_of}
use Rattle.gt_rules.specs.After.{first_state, hooked, with_hooked}
use Rattle.gt_rules.specs.History.{History}
use Rattle.gt_facts.proofs.Fits.{FitsTree, fits-Legal}
use Rattle.gt_facts.proofs.Histories.{AllLegal-append, state_after-append}
use Rattle.gt_laws.specs.Told.{hook_told}
use Rattle.gt_laws.specs.Contexts.{end_by, end_for, first_of, end_from, end_told}
use Rattle.gt_laws.specs.Laws.{AtEach, KeepsFirstCause, HasOneCause, is_settled, HooksStay}
use Rattle.gt_laws.proofs.Comes.{Comes, each}
use Rattle.gt_laws.proofs.Everyone.{hook-told}
use Rattle.gt_laws.proofs.FirstEnds.{first-assoc}
use Rattle.gt_laws.proofs.GoesOn.{reached}
use Rattle.gt_laws.proofs.Laws.{each-keeps}
use Rattle.gt_laws.proofs.Shown.{formed-reached}
use Rattle.gt_laws.proofs.Trees.{hook-cut, hook-change_same, hook-change_other}

-- ---- the first end stays

end_from-more : (script : Script) (x : ℕ) (front h rest : List Entry)
    → end_from script x front (h ++ rest) ≡ first_of (end_from script x front h) (end_from script x (front ++ h) rest)
end_from-more script x front [] rest = ap (λ fs. end_from script x fs rest) (sym (append-nil front))
end_from-more script x front (d ∷ h) rest =
    ap (first_of (end_for script x (end_by script front d))) (end_from-more script x (front ++ d ∷ []) h rest)
    ∙ (sym (first-assoc (end_for script x (end_by script front d)) (end_from script x (front ++ d ∷ []) h) (end_from script x ((front ++ d ∷ []) ++ h) rest))
    ∙ ap (λ fs. first_of (first_of (end_for script x (end_by script front d)) (end_from script x (front ++ d ∷ []) h)) (end_from script x fs rest))
    (append_assoc front (d ∷ []) h))

first-stays : {V : Type 0} (f : End → V) (v : V) (a b : Option End) → Some v ≡ option_map f a → option_map f (first_of a b) ≡ Some v
first-stays f v None b e = cc
first-stays f v (Some end) b e = sym e

-- what is shown of a first end is of the end that the whole list tells
shown-last : {V : Type 0} (f : End → V) (v : V) (script : Script) (x : ℕ) (h front : List Entry) (e : Entry) (rest : List Entry) → h ≡ front ++ e ∷ rest
    → Some v ≡ option_map f (end_told script x front) → option_map f (end_told script x h) ≡ Some v
shown-last f v script x h front e rest is shows =
    ap (λ all. option_map f (end_told script x all)) is
    ∙ (ap (option_map f) (end_from-more script x [] front (e ∷ rest)) ∙ first-stays f v (end_told script x front) (end_from script x front (e ∷ rest)) shows)

-- ---- where an entry stands in a list

record Stands (h : List Entry) (e : Entry) : Type 0 where
  front : List Entry
  rest : List Entry
  is : h ≡ front ++ e ∷ rest

stands : (h : List Entry) (e : Entry) (k : ℕ) → k < length h → slice_index_or h k e ≡ e → Stands h e
stands [] e k within is = absurd (omega arith)
stands (d ∷ h) e zero within is = record { front = []; rest = h; is = ap (λ d. d ∷ h) is }
stands (d ∷ h) e (suc k) within is =
    let later : Stands h e = stands h e k (omega arith) is in
    record { front = d ∷ later.front; rest = later.rest; is = ap (λ h. d ∷ h) later.is }

stands-in : (h : List Entry) (e : Entry) → Contains h e → Stands h e
stands-in h e has = stands h e has.0 has.1 has.2

same-some : {V : Type 0} (a b : V) → Some a ≡ Some b → a ≡ b
same-some a b e = cc

-- ---- one cause

keeps-one : (script : Script) (h : List Entry) → AtEach (KeepsFirstCause script) h → HasOneCause h
keeps-one script h keeps = record {
  causes = λ g k x a b one other.
      let first : Stands h (Entry.Cause g x (Some a)) = stands-in h (Entry.Cause g x (Some a)) one in
      let second : Stands h (Entry.Cause k x (Some b)) = stands-in h (Entry.Cause k x (Some b)) other in
      let cause_of : End → CauseVal = λ end. end.cause in
      same-some a b
      (sym (shown-last cause_of a script x h first.front (Entry.Cause g x (Some a)) first.rest first.is (keeps first.front (Entry.Cause g x (Some a)) first.rest first.is))
      ∙ shown-last cause_of b script x h second.front (Entry.Cause k x (Some b)) second.rest second.is (keeps second.front (Entry.Cause k x (Some b)) second.rest second.is));
  errors = λ g k x a b one other.
      let first : Stands h (Entry.CtxErr g x (Some a)) = stands-in h (Entry.CtxErr g x (Some a)) one in
      let second : Stands h (Entry.CtxErr k x (Some b)) = stands-in h (Entry.CtxErr k x (Some b)) other in
      let error_of : End → ErrVal = λ end. end.err in
      same-some a b
      (sym (shown-last error_of a script x h first.front (Entry.CtxErr g x (Some a)) first.rest first.is (keeps first.front (Entry.CtxErr g x (Some a)) first.rest first.is))
      ∙ shown-last error_of b script x h second.front (Entry.CtxErr k x (Some b)) second.rest second.is (keeps second.front (Entry.CtxErr k x (Some b)) second.rest second.is));
}

pub one-cause : (script : Script) (limits : Limits) (h : List Entry) (outcome : Outcome) → IsGood script → History script limits h outcome → HasOneCause h
one-cause script limits h outcome good history = keeps-one script h (each-keeps script limits h outcome good history)

-- ---- hooks that were started or stopped

settled-registered : (hook : HookState) → is_settled hook ≡ true → is_registered hook ≡ true
settled-registered HookState.Started is = refl
settled-registered HookState.Stopped is = refl
settled-registered HookState.Waiting is = cc
settled-registered HookState.Unregistered is = cc

settled-unhooked : (hook : HookState) → is_settled hook ≡ true → unhooked hook ≡ hook
settled-unhooked HookState.Started is = refl
settled-unhooked HookState.Stopped is = refl
settled-unhooked HookState.Waiting is = cc
settled-unhooked HookState.Unregistered is = cc

settled-cut : (script : Script) (s : State) (x k : ℕ) (hook : HookState) → is_settled hook ≡ true → cut_hook script s x (k, hook) ≡ hook
settled-cut script s x k HookState.Started is = refl
settled-cut script s x k HookState.Stopped is = refl
settled-cut script s x k HookState.Waiting is = cc
settled-cut script s x k HookState.Unregistered is = cc

step-settled : (script : Script) (s : State) (x k : ℕ) (step : TreeStep) → FitsTree script s x step → is_settled (hook_at s k) ≡ true
    → slice_index_or (hooked script s x step) k HookState.Unregistered ≡ hook_at s k
step-settled script s x k TreeStep.Derived fits is = refl
step-settled script s x k TreeStep.Canceled fits is = hook-cut script s x k ∙ settled-cut script s x k (hook_at s k) is
step-settled script s x k TreeStep.Expired fits is = hook-cut script s x k ∙ settled-cut script s x k (hook_at s k) is
step-settled script s x k TreeStep.Registered fits is =
    let fresh : is_registered (hook_at s x) ≡ false = fits.fresh in
    let other : k ≢ x = λ same. true≢false (sym (settled-registered (hook_at s k) is) ∙ (ap (λ k. is_registered (hook_at s k)) same ∙ fresh)) in
    hook-change_other s.hooks x k (λ hook. registered script s x) other
step-settled script s x k TreeStep.Unhooked fits is =
    elim (eqb k x) as (λ b. eqb k x ≡ b → slice_index_or (hooked script s x TreeStep.Unhooked) k HookState.Unregistered ≡ hook_at s k) [
      | true ↦ λ e.
          let same : k ≡ x = eqb-true k x e in
          subst (λ k. slice_index_or (hooked script s x TreeStep.Unhooked) k HookState.Unregistered ≡ hook_at s k) (sym same)
          (hook-change_same s.hooks x unhooked fits.within ∙ settled-unhooked (hook_at s x) (sym (ap (λ k. is_settled (hook_at s k)) same) ∙ is))
      | false ↦ λ e. hook-change_other s.hooks x k unhooked (eqb-false k x e)
    ] refl

with-settled : (script : Script) (s : State) (k : ℕ) (o : Option (ℕ × TreeStep)) → IfSome o (λ (x : ℕ × TreeStep). FitsTree script s x.0 x.1) → is_settled (hook_at s k) ≡ true
    → slice_index_or (with_hooked script s o) k HookState.Unregistered ≡ hook_at s k
with-settled script s k None fits is = refl
with-settled script s k (Some x) fits is = step-settled script s x.0 k x.1 fits is

stays : (script : Script) (limits : Limits) (front : List Entry) (e : Entry) → Comes script limits front e → HooksStay script front e
stays script limits front e c k is =
    let s : State = reached script front in
    let now : hook_at s k ≡ hook_told script k front = hook-told script limits k front c.good c.before in
    let settled : is_settled (hook_at s k) ≡ true = ap is_settled now ∙ is in
    sym (hook-told script limits k (front ++ e ∷ []) c.good (AllLegal-append script limits (first_state script) front e c.before c.legal))
    ∙ (ap (λ (s : State). hook_at s k) (state_after-append script (first_state script) front e)
    ∙ (with-settled script s k (change_of e).tree (fits-Legal script limits s e c.good (formed-reached script limits front c.good c.before) c.legal).tree settled ∙ now))

pub each-stays : (script : Script) (limits : Limits) (h : List Entry) (outcome : Outcome) → IsGood script → History script limits h outcome → AtEach (HooksStay script) h
each-stays = each (λ script limits. HooksStay script) stays
