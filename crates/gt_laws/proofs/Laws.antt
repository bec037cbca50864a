-- The laws of complete histories: each asks of an entry a part of what the entry's rule says.
use Rattle.std.proofs.Common.{List}
use Rattle.gt_model.specs.declared.script.Script.{Script}
use Rattle.gt_model.specs.declared.entry.Entry.{Entry}
use Rattle.gt_model.specs.declared.entry.Limits.{Limits}
use Rattle.gt_model.specs.declared.entry.Outcome.{Outcome}
use Rattle.gt_model.specs.Good.{IsGood}
use Rattle.gt_rules.specs.State.{State}
use Rattle.gt_rules.specs.Finish.{Legal}
use Rattle.gt_rules.specs.History.{History}
use Rattle.gt_laws.specs.Laws.{AtEach, InOrder, InTime, IsFresh, PassesOn, UsesRightly, ChoosesRightly, IsAlone, AddsUp, IsSignalled, KeepsFirstCause, HooksOnce}
use Rattle.gt_laws.proofs.GoesOn.{reached}
use Rattle.gt_laws.proofs.Behind.{Behind, Obeys, Rule}
use Rattle.gt_laws.proofs.Rows.{row}
use Rattle.gt_laws.proofs.Comes.{Comes, each}

rule-Legal : (script : Script) (limits : Limits) (s : State) (e : Entry) → Legal script limits s e → Rule script s e
rule-Legal script limits s (Entry.Finish outcome) legal = tt
rule-Legal script limits s e legal = legal.1

obeys : (script : Script) (limits : Limits) (front : List Entry) (e : Entry) → Comes script limits front e → Obeys script front e
obeys script limits front e c =
    let behind : Behind script limits front = record { good = c.good; before = c.before } in
    (row behind e).0 (rule-Legal script limits (reached script front) e c.legal)

-- ---- at each entry

pub each-in_order : (script : Script) (limits : Limits) (h : List Entry) (outcome : Outcome) → IsGood script → History script limits h outcome → AtEach (InOrder script) h
each-in_order = each (λ script limits. InOrder script) (λ script limits front e c. (obeys script limits front e c).order)

pub each-in_time : (script : Script) (limits : Limits) (h : List Entry) (outcome : Outcome) → IsGood script → History script limits h outcome → AtEach (InTime script) h
each-in_time = each (λ script limits. InTime script) (λ script limits front e c. (obeys script limits front e c).time)

pub each-fresh : (script : Script) (limits : Limits) (h : List Entry) (outcome : Outcome) → IsGood script → History script limits h outcome → AtEach (IsFresh script) h
each-fresh = each (λ script limits. IsFresh script) (λ script limits front e c. (obeys script limits front e c).fresh)

pub each-uses_rightly : (script : Script) (limits : Limits) (h : List Entry) (outcome : Outcome) → IsGood script → History script limits h outcome
    → AtEach (UsesRightly script) h
each-uses_rightly = each (λ script limits. UsesRightly script) (λ script limits front e c. (obeys script limits front e c).uses)

pub each-passes_on : (script : Script) (limits : Limits) (h : List Entry) (outcome : Outcome) → IsGood script → History script limits h outcome
    → AtEach (PassesOn script) h
each-passes_on = each (λ script limits. PassesOn script) (λ script limits front e c. (obeys script limits front e c).passes)

pub each-chooses_rightly : (script : Script) (limits : Limits) (h : List Entry) (outcome : Outcome) → IsGood script → History script limits h outcome
    → AtEach (ChoosesRightly script) h
each-chooses_rightly = each (λ script limits. ChoosesRightly script) (λ script limits front e c. (obeys script limits front e c).chooses)

pub each-alone : (script : Script) (limits : Limits) (h : List Entry) (outcome : Outcome) → IsGood script → History script limits h outcome → AtEach (IsAlone script) h
each-alone = each (λ script limits. IsAlone script) (λ script limits front e c. (obeys script limits front e c).alone)

pub each-adds_up : (script : Script) (limits : Limits) (h : List Entry) (outcome : Outcome) → IsGood script → History script limits h outcome → AtEach AddsUp h
each-adds_up = each (λ script limits. AddsUp) (λ script limits front e c. (obeys script limits front e c).adds_up)

pub each-signalled : (script : Script) (limits : Limits) (h : List Entry) (outcome : Outcome) → IsGood script → History script limits h outcome
    → AtEach (IsSignalled script) h
each-signalled = each (λ script limits. IsSignalled script) (λ script limits front e c. (obeys script limits front e c).signals)

pub each-keeps : (script : Script) (limits : Limits) (h : List Entry) (outcome : Outcome) → IsGood script → History script limits h outcome
    → AtEach (KeepsFirstCause script) h
each-keeps = each (λ script limits. KeepsFirstCause script) (λ script limits front e c. (obeys script limits front e c).keeps)

pub each-hooks : (script : Script) (limits : Limits) (h : List Entry) (outcome : Outcome) → IsGood script → History script limits h outcome
    → AtEach (HooksOnce script) h
each-hooks = each (λ script limits. HooksOnce script) (λ script limits front e c. (obeys script limits front e c).hooks)
