-- The making of a context.
use Rattle.std.proofs.Common.{◌≡◌, ℕ, refl, sym, ap, subst, ◌∙◌, Option, None, Some, IfSome, Bool, true, false, inr}
use Rattle.gt_model.specs.declared.script.Instr.{Instr}
use Rattle.gt_model.specs.declared.entry.Entry.{Entry}
use Rattle.gt_model.specs.Script.{is_ctx}
use Rattle.gt_rules.specs.State.{stands_at, world_of}
use Rattle.gt_rules.specs.After.{number_of}
use Rattle.gt_rules.specs.Change.{change_of}
use Rattle.gt_rules.specs.Contexts.{made_context}
use Rattle.gt_rules.specs.Legal.{May, Does}
use Rattle.gt_rules.specs.declared.change.Move.{Move}
use Rattle.gt_facts.proofs.Lookups.{Standing, standing, names-instr_at}
use Rattle.gt_schedule.specs.declared.status.RunStatus.{RunStatus}
use Rattle.gt_schedule.specs.Schedule.{status_of}
use Rattle.gt_book.specs.declared.step.Step.{Step}
use Rattle.gt_book.specs.declared.answers.TimerOp.{TimerOp}
use Rattle.gt_book.specs.Steps.{live_deadline}
use Rattle.gt_book.specs.View.{BookView, IsLawful, outcome_of}
use Rattle.gt_book.proofs.Deadlines.{MayDerive, may-derive}
use Rattle.gt_book.proofs.Going.{MakesSo, alone, from_partner, to_partner, to_suspended}
use Rattle.gt_rows.specs.Rows.{DerivesAt, derives, next_of}
use Rattle.gt_fire.proofs.Deriving.{Makes, misused, settled, needed, NextMakes, next-makes}
use Rattle.gt_runner.proofs.Leaving.{LeavesOwn}

-- who makes a context stands there
at-derives : (v : BookView) (g x : ℕ) → stands_at v.script v.state g ≡ Some (Instr.With x) → DerivesAt v g x
at-derives v g x e = subst (λ (o : Option Instr). elim o as (λ _. Type 0) [ None ↦ ⊥ | Some i ↦ derives i ≡ Some x ]) (sym e) refl

-- ---- the deadline of a context that is made with its entry alone is not to come

made-none : (v : BookView) (g x : ℕ) (ended : Bool) (step : Step) → Makes v g x step → step ≡ Step.Makes (Entry.CtxMake g x ended)
    → live_deadline (made_context v.script v.state (world_of v.state g) x) ≡ None
made-none v g x ended _ (misused p reason) e = cc
made-none v g x ended _ (settled none) e = none
made-none v g x ended _ (needed due live) e = cc

entry-none : (v : BookView) (g x : ℕ) (ended : Bool) → next_of v g ≡ Some (Step.Makes (Entry.CtxMake g x ended)) → Does v.script v.state g (Instr.With x)
    → live_deadline (made_context v.script v.state (world_of v.state g) x) ≡ None
entry-none v g x ended next does =
    let made : NextMakes v g x = next-makes v g x (at-derives v g x does.stands) in
    let is : made.step ≡ Step.Makes (Entry.CtxMake g x ended) = same (next_of v g) made.step (Step.Makes (Entry.CtxMake g x ended)) made.is next in
    made-none v g x ended made.step made.makes is
  where
    same : (o : Option Step) (a b : Step) → o ≡ Some a → o ≡ Some b → a ≡ b
    same o a b p q = cc

tree-alone : (v : BookView) (g : ℕ) (e : Entry) (move : Move) (j : ℕ) → next_of v g ≡ Some (Step.Makes e) → May v.script v.state e → (change_of e).mover ≡ Some (g, move)
    → IfSome (change_of e).tree (λ x. LeavesOwn v (change_of e) j x.0 x.1)
tree-alone v g (Entry.CtxMake h x ended) move j next may mover =
    let same : h ≡ g = ap number_of mover in
    let own : next_of v h ≡ Some (Step.Makes (Entry.CtxMake h x ended)) = ap (next_of v) same ∙ next in
    inr (entry-none v h x ended own may.0)
tree-alone v g (Entry.Cancel h x true starts) move j next may mover = tt
tree-alone v g (Entry.Cancel h x false starts) move j next may mover = tt
tree-alone v g _ move j next may mover = tt

pub makes-tree : (v : BookView) (g : ℕ) (e : Entry) (j : ℕ) → next_of v g ≡ Some (Step.Makes e) → MakesSo v.script v.state v.schedule g e
    → IfSome (change_of e).tree (λ x. LeavesOwn v (change_of e) j x.0 x.1)
makes-tree v g e j next (alone _ move may moves mover none) = tree-alone v g e move j next may mover
makes-tree v g e j next (from_partner q n c w waits may) = tt
makes-tree v g e j next (to_partner q n c w waits may) = tt
makes-tree v g e j next (to_suspended h k waits may) = tt

-- ---- one whose own deadline is to come

pub record IsMade (v : BookView) (g x : ℕ) : Type 0 where
  pub stands : DerivesAt v g x
  pub named : is_ctx v.script x ≡ true

pub derive-made : (v : BookView) (g x due : ℕ) → IsLawful v → outcome_of v ≡ None → status_of v.schedule g ≡ Some RunStatus.InHand → next_of v g ≡ Some (Step.Needs (TimerOp.Deadline x due))
    → IsMade v g x
derive-made v g x due lawful running in_hand next =
    let made : MayDerive v g x due = may-derive v g x due lawful running next in_hand in
    let on : stands_at v.script v.state g ≡ Some (Instr.With x) = made.may.0.0.stands in
    let st : Standing v.script v.state g (Instr.With x) = standing v.script v.state g (Instr.With x) on in
    record { stands = at-derives v g x on; named = names-instr_at v.script st.who.place (Instr.With x) lawful.good st.on }
