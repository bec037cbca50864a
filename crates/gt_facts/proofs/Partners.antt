-- The partner of a goroutine at a channel that keeps no values: another one that stands at the other operation and makes no panic.
use Rattle.std.proofs.Common.{◌≡◌, ◌≢◌, ℕ, ◌==◌, refl, ap, ◌∙◌, Option, None, Some, Bool, true, false, not, ◌&&◌, is_none}
use Rattle.std.proofs.lemmas.Bool.{and_parts, and_from, eqb-false, ne_eqb}
use Rattle.gt_model.specs.declared.script.Script.{Script}
use Rattle.gt_model.specs.declared.script.Instr.{Instr}
use Rattle.gt_model.specs.declared.script.CaseKind.{CaseKind}
use Rattle.gt_model.specs.declared.state.Goroutine.{Goroutine}
use Rattle.gt_model.specs.declared.entry.Reason.{Reason}
use Rattle.gt_rules.specs.State.{State, goroutine_at, stands}
use Rattle.gt_rules.specs.Operations.{offers, polls}
use Rattle.gt_rules.specs.Panics.{panic_of}
use Rattle.gt_rules.specs.Ready.{is_partner, partner_waits}
use Rattle.gt_rules.specs.Legal.{Does}
use Rattle.gt_facts.proofs.Lookups.{Found, found, any-enumerated}

-- goroutine `number`, which counts and does an instruction of which an operation passes a test, and at which it would wait
pub record Partner (script : Script) (s : State) (counts : ℕ → Bool) (me : ℕ) (test : CaseKind → Bool) : Type 0 where
  pub number : ℕ
  pub instr : Instr
  pub other : number ≢ me
  pub counted : counts number ≡ true
  pub does : Does script s number instr
  pub waits : polls instr ≡ false
  pub passes : offers test instr ≡ true

pub none-is : {X : Type 0} (o : Option X) → is_none o ≡ true → o ≡ None
none-is None h = refl
none-is (Some x) h = cc

not_same : (b : Bool) → not b ≡ true → b ≡ false
not_same true h = cc
not_same false h = refl

-- the instruction at which a goroutine stands and would wait, of which an operation passes a test
record Offers (script : Script) (r : Goroutine) (test : CaseKind → Bool) : Type 0 where
  pub instr : Instr
  pub on : stands script r ≡ Some instr
  pub waits : polls instr ≡ false
  pub passes : offers test instr ≡ true

offered : (script : Script) (r : Goroutine) (test : CaseKind → Bool) → (elim (stands script r) as (λ o. Bool) [ None ↦ false | Some i ↦ not (polls i) && offers test i ]) ≡ true → Offers script r test
offered script r test h =
    elim (stands script r) as (λ o. stands script r ≡ o → (elim o as (λ o. Bool) [ None ↦ false | Some i ↦ not (polls i) && offers test i ]) ≡ true → Offers script r test) [
      | None ↦ λ e k. cc
      | Some i ↦ λ e k.
          let both = and_parts (not (polls i)) (offers test i) k in
          record { instr = i; on = e; waits = not_same (polls i) both.0; passes = both.1 }
    ] refl h

pub does-there : (script : Script) (s : State) (g : ℕ) (r : Goroutine) (i : Instr) → goroutine_at s g ≡ Some r → stands script r ≡ Some i → panic_of script s r ≡ None → Does script s g i
does-there script s g r i e on calm = record {
  stands = ap (λ (o : Option Goroutine). elim o as (λ o. Option Instr) [ None ↦ None | Some r ↦ stands script r ]) e ∙ on;
  calm = ap (λ (o : Option Goroutine). elim o as (λ o. Option (ℕ × Reason)) [ None ↦ None | Some r ↦ panic_of script s r ]) e ∙ calm;
}

partner-is : (script : Script) (s : State) (counts : ℕ → Bool) (me : ℕ) (test : CaseKind → Bool) (g : ℕ) (r : Goroutine) → goroutine_at s g ≡ Some r
    → is_partner script s counts me test (g, r) ≡ true → Partner script s counts me test
partner-is script s counts me test g r e h =
    let stands_at_it : Bool = elim (stands script r) as (λ o. Bool) [ None ↦ false | Some i ↦ not (polls i) && offers test i ] in
    let last = and_parts (not (g == me) && counts g && is_none (panic_of script s r)) stands_at_it h in
    let calm = and_parts (not (g == me) && counts g) (is_none (panic_of script s r)) last.0 in
    let first = and_parts (not (g == me)) (counts g) calm.0 in
    let at : Offers script r test = offered script r test last.1 in
    record {
      number = g;
      instr = at.instr;
      other = eqb-false g me (not_same (g == me) first.0);
      counted = first.1;
      does = does-there script s g r at.instr e at.on (none-is (panic_of script s r) calm.1);
      waits = at.waits;
      passes = at.passes;
    }

pub partner : (script : Script) (s : State) (counts : ℕ → Bool) (me : ℕ) (test : CaseKind → Bool) → partner_waits script s counts me test ≡ true → Partner script s counts me test
partner script s counts me test h =
    let one : Found (is_partner script s counts me test) s.goroutines = found (is_partner script s counts me test) s.goroutines h in
    partner-is script s counts me test one.number one.item one.there one.passes

is-partner : (script : Script) (s : State) (counts : ℕ → Bool) (me : ℕ) (test : CaseKind → Bool) (g : ℕ) (r : Goroutine) (i : Instr) → g ≢ me → counts g ≡ true
    → stands script r ≡ Some i → panic_of script s r ≡ None → polls i ≡ false → offers test i ≡ true → is_partner script s counts me test (g, r) ≡ true
is-partner script s counts me test g r i other counted on calm waits passes =
    let differ : not (g == me) ≡ true = ap not (ne_eqb g me other) in
    let quiet : is_none (panic_of script s r) ≡ true = ap is_none calm in
    let at : (elim (stands script r) as (λ o. Bool) [ None ↦ false | Some i ↦ not (polls i) && offers test i ]) ≡ true =
    ap (λ (o : Option Instr). elim o as (λ o. Bool) [ None ↦ false | Some i ↦ not (polls i) && offers test i ]) on ∙ and_from (not (polls i)) (offers test i) (ap not waits) passes in
    and_from _ _ (and_from _ _ (and_from _ _ differ counted) quiet) at

-- who is there, and what it does
record Doing (script : Script) (s : State) (g : ℕ) (i : Instr) : Type 0 where
  pub who : Goroutine
  pub there : goroutine_at s g ≡ Some who
  pub on : stands script who ≡ Some i
  pub calm : panic_of script s who ≡ None

doing : (script : Script) (s : State) (g : ℕ) (i : Instr) → Does script s g i → Doing script s g i
doing script s g i does =
    elim (goroutine_at s g) as (λ o. goroutine_at s g ≡ o → (elim o as (λ o. Option Instr) [ None ↦ None | Some r ↦ stands script r ]) ≡ Some i
    → (elim o as (λ o. Option (ℕ × Reason)) [ None ↦ None | Some r ↦ panic_of script s r ]) ≡ None → Doing script s g i) [
      | None ↦ λ e on calm. cc
      | Some r ↦ λ e on calm. record { who = r; there = e; on = on; calm = calm }
    ] refl does.stands does.calm

pub partner-waits : (script : Script) (s : State) (counts : ℕ → Bool) (me : ℕ) (test : CaseKind → Bool) → Partner script s counts me test → partner_waits script s counts me test ≡ true
partner-waits script s counts me test p =
    let d : Doing script s p.number p.instr = doing script s p.number p.instr p.does in
    any-enumerated (is_partner script s counts me test) s.goroutines p.number d.who d.there
    (is-partner script s counts me test p.number d.who p.instr p.other p.counted d.on d.calm p.waits p.passes)
