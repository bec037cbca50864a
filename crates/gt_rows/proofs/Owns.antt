-- A context that has ended stays so when an entry comes.
use Rattle.std.proofs.Common.{◌≡◌, ℕ, List, refl, ap, subst, ◌∙◌, Option, None, Some, Bool, true, false, cond, is_some, IfSome, option_map, inl, inr, zero, suc, [], eqb, ◌||◌}
use Rattle.gt_model.specs.declared.script.Script.{Script}
use Rattle.gt_model.specs.declared.entry.Entry.{Entry}
use Rattle.gt_model.specs.declared.context.Context.{Context}
use Rattle.gt_model.specs.declared.context.End.{End}
use Rattle.gt_model.specs.Tables.{at}
use Rattle.gt_model.proofs.Items.{at-set_other}
use Rattle.std.proofs.lemmas.Bool.{cases_eq, eq-eqb}
use Rattle.gt_rules.specs.State.{State, context_at, has_ended, stands_at}
use Rattle.gt_rules.specs.After.{with_grown, number_of}
use Rattle.gt_rules.specs.Change.{change_of}
use Rattle.gt_rules.specs.Contexts.{is_reached, ended_by, cut_contexts, cancel_end, expiry_end, named_by, line_of, reached_from}
use Rattle.gt_rules.specs.declared.change.Move.{Move}
use Rattle.gt_rules.specs.declared.change.TreeStep.{TreeStep}
use Rattle.gt_facts.proofs.Contexts.{at-cut}
use Rattle.gt_facts.proofs.Fits.{FitsTree}
use Rattle.gt_book.specs.View.{BookView, Enters, IsLawful}
use Rattle.gt_rows.proofs.Frames.{IsFrame, enters-frame, contexts-woken, enters-fits}
use Rattle.std.specs.List.{list_any}

abbrev pub ended_in : Option Context → Bool
ended_in o = is_some (elim o as (λ o. Option End) [ None ↦ None | Some r ↦ r.end ])

-- one that ends keeps the end that it has
ended-by : (end : End) (o : Option Context) → ended_in o ≡ true → ended_in (option_map (ended_by end) o) ≡ true
ended-by end None h = cc
ended-by end (Some r) h =
    elim r.end as (λ o. is_some (elim o as (λ o. Option End) [ None ↦ Some end | Some first ↦ Some first ]) ≡ true) [
      | None ↦ refl
      | Some first ↦ refl
    ]

-- and one that was made and is reached has ended
pub reached-ended : (end : End) (o : Option Context) → is_some o ≡ true → ended_in (option_map (ended_by end) o) ≡ true
reached-ended end None h = cc
reached-ended end (Some r) h =
    elim r.end as (λ o. is_some (elim o as (λ o. Option End) [ None ↦ Some end | Some first ↦ Some first ]) ≡ true) [
      | None ↦ refl
      | Some first ↦ refl
    ]

ended-cut : (b : Bool) (end : End) (o : Option Context) → ended_in o ≡ true → ended_in (cond b (option_map (ended_by end) o) o) ≡ true
ended-cut true end o h = ended-by end o h
ended-cut false end o h = h

-- what is made had not been made
fresh-ended : (o : Option Context) → is_some o ≡ false → ended_in o ≡ true → ⊥
fresh-ended None e h = cc
fresh-ended (Some r) e h = cc

ended-grown : (script : Script) (s : State) (mover : Option (ℕ × Move)) (o : Option (ℕ × TreeStep)) (u : ℕ)
    → IfSome o (λ (x : ℕ × TreeStep). FitsTree script s x.0 x.1) → has_ended s u ≡ true
    → ended_in (at (with_grown script s mover o) u) ≡ true
ended-grown script s mover None u fits h = h
ended-grown script s mover (Some (x, TreeStep.Derived)) u fits h =
    elim (cases_eq u x) [
      | inl is ↦ absurd (fresh-ended (context_at s x) fits.fresh (subst (λ u. has_ended s u ≡ true) is h))
      | inr other ↦ ap ended_in (at-set_other s.contexts x u _ other) ∙ h
    ]
ended-grown script s mover (Some (x, TreeStep.Canceled)) u fits h = ap ended_in (at-cut script s x _ u) ∙ ended-cut (is_reached script s x u) _ (context_at s u) h
ended-grown script s mover (Some (x, TreeStep.Expired)) u fits h = ap ended_in (at-cut script s x _ u) ∙ ended-cut (is_reached script s x u) _ (context_at s u) h
ended-grown script s mover (Some (x, TreeStep.Registered)) u fits h = h
ended-grown script s mover (Some (x, TreeStep.Unhooked)) u fits h = h

ended-frame : (script : Script) (u : ℕ) → IsFrame script (λ s. has_ended s u)
ended-frame script u = record {
  woken = λ s m e w. ap (λ cs. ended_in (at cs u)) (contexts-woken script s m e w);
  finish = λ s outcome. refl;
}

pub ended-stays : (old : BookView) (e : Entry) (new : BookView) (u : ℕ) → IsLawful old → Enters old e new → has_ended old.state u ≡ true → has_ended new.state u ≡ true
ended-stays old e new u lawful enters h =
    enters-frame old e new (λ s. has_ended s u) (ended-frame old.script u) enters
    ∙ ended-grown old.script old.state (change_of e).mover (change_of e).tree u (enters-fits old e new lawful enters) h

-- an end ends those that it reaches and that were made
abbrev pub EndsAt : Script → State → Option (ℕ × TreeStep) → ℕ → Type 0
EndsAt script s None u = ⊥
EndsAt script s (Some (x, TreeStep.Derived)) u = ⊥
EndsAt script s (Some (x, TreeStep.Canceled)) u = is_reached script s x u ≡ true
EndsAt script s (Some (x, TreeStep.Expired)) u = is_reached script s x u ≡ true
EndsAt script s (Some (x, TreeStep.Registered)) u = ⊥
EndsAt script s (Some (x, TreeStep.Unhooked)) u = ⊥

reached-cut : (script : Script) (s : State) (x : ℕ) (end : End) (u : ℕ) → is_reached script s x u ≡ true → is_some (context_at s u) ≡ true → ended_in (at (cut_contexts script s x end) u) ≡ true
reached-cut script s x end u ends made =
    ap ended_in (at-cut script s x end u)
    ∙ (ap (λ b. ended_in (cond b (option_map (ended_by end) (context_at s u)) (context_at s u))) ends ∙ reached-ended end (context_at s u) made)

ends-grown : (script : Script) (s : State) (mover : Option (ℕ × Move)) (o : Option (ℕ × TreeStep)) (u : ℕ) → EndsAt script s o u → is_some (context_at s u) ≡ true
    → ended_in (at (with_grown script s mover o) u) ≡ true
ends-grown script s mover None u ends made = absurd ends
ends-grown script s mover (Some (x, TreeStep.Derived)) u ends made = absurd ends
ends-grown script s mover (Some (x, TreeStep.Canceled)) u ends made =
    reached-cut script s x (cancel_end (named_by (stands_at script s (number_of mover)))) u ends made
ends-grown script s mover (Some (x, TreeStep.Expired)) u ends made =
    reached-cut script s x (expiry_end script x) u ends made
ends-grown script s mover (Some (x, TreeStep.Registered)) u ends made = absurd ends
ends-grown script s mover (Some (x, TreeStep.Unhooked)) u ends made = absurd ends

pub ends-reached : (old : BookView) (e : Entry) (new : BookView) (u : ℕ) → Enters old e new → EndsAt old.script old.state (change_of e).tree u → is_some (context_at old.state u) ≡ true
    → has_ended new.state u ≡ true
ends-reached old e new u enters ends made =
    enters-frame old e new (λ s. has_ended s u) (ended-frame old.script u) enters
    ∙ ends-grown old.script old.state (change_of e).mover (change_of e).tree u ends made

-- an end reaches its own context
reached-self : (script : Script) (s : State) (x : ℕ) → is_reached script s x x ≡ true
unfolding line_of
reached-self script s x = by x
  where
    by : (n : ℕ) → list_any (λ z. eqb z x) (line_of (reached_from script s) n x) ≡ true
    by zero = ap (λ b. b || false) (eq-eqb x x refl)
    by (suc n) = ap (λ b. b || list_any (λ z. eqb z x) (elim (reached_from script s x) as (λ o. List ℕ) [ None ↦ [] | Some y ↦ line_of (reached_from script s) n y ])) (eq-eqb x x refl)

pub expiry-ends : (old : BookView) (x count : ℕ) (new : BookView) → Enters old (Entry.Expire x count) new → is_some (context_at old.state x) ≡ true → has_ended new.state x ≡ true
expiry-ends old x count new enters made = ends-reached old (Entry.Expire x count) new x enters (reached-self old.script old.state x) made
