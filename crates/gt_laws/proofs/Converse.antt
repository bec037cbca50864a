-- A list of entries that keeps the laws at each entry is a legal one: the laws say all that the machine's rules ask.
use Rattle.std.proofs.Common.{◌≡◌, ℕ, ◌==◌, ◌<◌, List, [], ◌∷◌, ◌++◌, refl, sym, subst, ◌∙◌, cond, None, Some, true, false, append_assoc, append-nil}
use Rattle.gt_model.specs.declared.script.Script.{Script}
use Rattle.gt_model.specs.declared.entry.Entry.{Entry}
use Rattle.gt_model.specs.declared.entry.Limits.{Limits}
use Rattle.gt_model.specs.declared.entry.Outcome.{Outcome}
use Rattle.gt_model.specs.declared.state.Ending.{Ending}
use Rattle.gt_model.specs.Good.{IsGood}
use Rattle.gt_rules.specs.After.{first_state}
use Rattle.gt_rules.specs.Finish.{IsRunning, Legal}
use Rattle.gt_rules.specs.History.{AllLegal, History}
use Rattle.gt_facts.proofs.Histories.{AllLegal-append}
use Rattle.gt_facts.proofs.Still.{still-IsIdle}
use Rattle.gt_laws.specs.Told.{ending_told}
use Rattle.gt_laws.specs.Laws.{AtEach, InOrder, InTime, IsFresh, PassesOn, UsesRightly, ChoosesRightly, IsAlone, AddsUp, IsSignalled, KeepsFirstCause, HooksOnce}
use Rattle.gt_laws.specs.Ends.{IsOn, SaysRightly, EndsRightly}
use Rattle.gt_laws.proofs.Shown.{ending-told, entries-told}
use Rattle.gt_laws.proofs.GoesOn.{reached, told-stuck}
use Rattle.gt_laws.proofs.Behind.{Behind, Obeys, Rule}
use Rattle.gt_laws.proofs.Rows.{row}

-- the laws at an entry, behind entries that are legal
record Keeps (script : Script) (limits : Limits) (front : List Entry) (e : Entry) : Type 0 where
  good : IsGood script
  before : AllLegal script limits (first_state script) front
  obeys : Obeys script front e
  ends : EndsRightly script limits front e

running : (script : Script) (limits : Limits) (front : List Entry) (e : Entry) → Keeps script limits front e → IsOn limits front → IsRunning limits (reached script front)
running script limits front e k on = record {
  ending = ending-told script limits front k.good k.before ∙ on.0;
  room = subst (λ n. n < limits.entries) (sym (entries-told script limits front k.good k.before)) on.1;
}

-- the end of a goroutine is an entry of a run that goes on
end-on : (script : Script) (limits : Limits) (front : List Entry) (g : ℕ) → EndsRightly script limits front (Entry.End g) → IsOn limits front
end-on script limits front g h =
    elim (g == 1) as (λ b. SaysRightly script limits front (cond b (Some Ending.MainEnded) None) → IsOn limits front) [ true ↦ λ k. k | false ↦ λ k. k ] h

-- an entry but a finish, in a run that goes on
comes-on : (script : Script) (limits : Limits) (front : List Entry) (e : Entry) → Keeps script limits front e → IsOn limits front
    → IsRunning limits (reached script front) × Rule script (reached script front) e
comes-on script limits front e k on =
    let behind : Behind script limits front = record { good = k.good; before = k.before } in
    (running script limits front e k on, (row behind e).1 k.obeys)

legal : (script : Script) (limits : Limits) (front : List Entry) (e : Entry) → Keeps script limits front e → Legal script limits (reached script front) e
legal script limits front (Entry.Finish Outcome.Exit) k = ending-told script limits front k.good k.before ∙ k.ends
legal script limits front (Entry.Finish Outcome.Panic) k = ending-told script limits front k.good k.before ∙ k.ends
legal script limits front (Entry.Finish Outcome.Limit) k =
    (ending-told script limits front k.good k.before ∙ k.ends.0, entries-told script limits front k.good k.before ∙ k.ends.1)
legal script limits front (Entry.Finish Outcome.Deadlock) k =
    let stuck = told-stuck script limits front k.good k.before k.ends.1 in
    (running script limits front _ k k.ends.0, still-IsIdle script (reached script front) stuck.0, stuck.1)
legal script limits front (Entry.End g) k = comes-on script limits front (Entry.End g) k (end-on script limits front g k.ends)
legal script limits front e k = comes-on script limits front e k k.ends

-- ---- of all entries

-- a list that keeps the laws
pub record Lawful (script : Script) (limits : Limits) (h : List Entry) : Type 0 where
  pub good : IsGood script
  pub order : AtEach (InOrder script) h
  pub time : AtEach (InTime script) h
  pub fresh : AtEach (IsFresh script) h
  pub uses : AtEach (UsesRightly script) h
  pub passes : AtEach (PassesOn script) h
  pub chooses : AtEach (ChoosesRightly script) h
  pub alone : AtEach (IsAlone script) h
  pub adds_up : AtEach AddsUp h
  pub signals : AtEach (IsSignalled script) h
  pub keeps : AtEach (KeepsFirstCause script) h
  pub hooks : AtEach (HooksOnce script) h
  pub ends : AtEach (EndsRightly script limits) h

legal-on : (script : Script) (limits : Limits) (h front rest : List Entry) → Lawful script limits h → h ≡ front ++ rest → AllLegal script limits (first_state script) front
    → AllLegal script limits (first_state script) h
legal-on script limits h front [] l is before = subst (AllLegal script limits (first_state script)) (sym (is ∙ append-nil front)) before
legal-on script limits h front (e ∷ rest) l is before =
    let keeps : Keeps script limits front e = record {
      good = l.good;
      before = before;
      obeys = record {
        order = l.order front e rest is;
        time = l.time front e rest is;
        fresh = l.fresh front e rest is;
        uses = l.uses front e rest is;
        passes = l.passes front e rest is;
        chooses = l.chooses front e rest is;
        alone = l.alone front e rest is;
        adds_up = l.adds_up front e rest is;
        signals = l.signals front e rest is;
        keeps = l.keeps front e rest is;
        hooks = l.hooks front e rest is;
      };
      ends = l.ends front e rest is;
    } in
    legal-on script limits h (front ++ e ∷ []) rest l (is ∙ sym (append_assoc front (e ∷ []) rest))
    (AllLegal-append script limits (first_state script) front e before (legal script limits front e keeps))

pub lawful-legal : (script : Script) (limits : Limits) (h : List Entry) → Lawful script limits h → AllLegal script limits (first_state script) h
lawful-legal script limits h l = legal-on script limits h [] h l refl tt

pub lawful-History : (script : Script) (limits : Limits) (h : List Entry) (outcome : Outcome) → Lawful script limits h → ending_told h ≡ Ending.Finished outcome
    → History script limits h outcome
lawful-History script limits h outcome l over =
    let all : AllLegal script limits (first_state script) h = lawful-legal script limits h l in
    record { legal = all; over = ending-told script limits h l.good all ∙ over }
