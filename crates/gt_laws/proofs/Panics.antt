-- Where a goroutine panics, and at which operation it stands: what the entries tell is what the machine's state after them says.
use Rattle.std.proofs.Common.{◌≡◌, ℕ, List, refl, sym, ap, subst, ◌∙◌, Option, None, Some, MatchOption}
use Rattle.gt_model.specs.declared.script.Script.{Script}
use Rattle.gt_model.specs.declared.script.Instr.{Instr}
use Rattle.gt_model.specs.declared.script.CaseKind.{CaseKind}
use Rattle.gt_model.specs.declared.entry.Entry.{Entry}
use Rattle.gt_model.specs.declared.entry.Limits.{Limits}
use Rattle.gt_model.specs.declared.entry.Party.{Party}
use Rattle.gt_model.specs.declared.entry.Reason.{Reason}
use Rattle.gt_model.specs.Good.{IsGood}
use Rattle.gt_rules.specs.State.{State, stands_at}
use Rattle.gt_rules.specs.Operations.{operation}
use Rattle.gt_rules.specs.Panics.{fault, fault_at, fault_case, panic_at}
use Rattle.gt_rules.specs.After.{first_state}
use Rattle.gt_rules.specs.Legal.{MayPanic, ChoosesClosed, operation_at}
use Rattle.gt_rules.specs.History.{AllLegal}
use Rattle.gt_facts.proofs.Still.{panic_stands}
use Rattle.gt_laws.specs.Told.{stands_told, operation_in, operation_told}
use Rattle.gt_laws.specs.GoesOn.{misuse_in, misuse_told, misused_case}
use Rattle.gt_laws.specs.Laws.{ChoosesMisuse, IsMisuse}
use Rattle.gt_laws.proofs.Channels.{closed-told}
use Rattle.gt_laws.proofs.Everyone.{stands-told}
use Rattle.gt_laws.proofs.GoesOn.{reached, misuse-told, misused-told}

-- a misuse with its case number
abbrev pub with_case : ℕ → Option Reason → Option (ℕ × Reason)
with_case n None = None
with_case n (Some reason) = Some (n, reason)

fault-case : (n : ℕ) (o : Option Reason) → (elim o as (λ o. Option (ℕ × Reason)) [ None ↦ None | Some reason ↦ Some (n, reason) ]) ≡ with_case n o
fault-case n None = refl
fault-case n (Some reason) = refl

abbrev pub panic_in : Script → List Entry → Option Instr → Option (ℕ × Reason)
panic_in script front None = None
panic_in script front (Some i) = with_case (misused_case front i) (misuse_told script front i)

panic-there : (script : Script) (limits : Limits) (front : List Entry) (o : Option Instr) → IsGood script → AllLegal script limits (first_state script) front
    → (elim o as (λ x. Option (ℕ × Reason)) [ None ↦ None | Some i ↦ fault_at script (reached script front) i ]) ≡ panic_in script front o
panic-there script limits front None good legal = refl
panic-there script limits front (Some i) good legal =
    let s : State = reached script front in
    fault-case (fault_case s i) (fault script s i)
    ∙ (ap (λ n. with_case n (fault script s i)) (misused-told script limits front i good legal)
    ∙ ap (with_case (misused_case front i)) (misuse-told script limits front i good legal))

-- the panic of a goroutine where it stands
pub panic-told : (script : Script) (limits : Limits) (g : ℕ) (front : List Entry) → IsGood script → AllLegal script limits (first_state script) front
    → panic_at script (reached script front) g ≡ panic_in script front (stands_told script g front)
panic-told script limits g front good legal =
    sym (panic_stands script (reached script front) g)
    ∙ (panic-there script limits front (stands_at script (reached script front) g) good legal ∙ ap (panic_in script front) (stands-told script limits g front good legal))

operation-there : (n : ℕ) (o : Option Instr) → (elim o as (λ o. Option CaseKind) [ None ↦ None | Some i ↦ operation i n ]) ≡ operation_in o n
operation-there n None = refl
operation-there n (Some i) = refl

-- the operation of a party
pub operation-told : (script : Script) (limits : Limits) (p : Party) (front : List Entry) → IsGood script → AllLegal script limits (first_state script) front
    → operation_at script (reached script front) p ≡ operation_told script p front
operation-told script limits p front good legal =
    operation-there p.case_no (stands_at script (reached script front) p.g)
    ∙ ap (λ (o : Option Instr). operation_in o p.case_no) (stands-told script limits p.g front good legal)

-- ---- no misuse

case-none : (n : ℕ) (o : Option Reason) → with_case n o ≡ None → o ≡ None
case-none n None h = refl
case-none n (Some reason) h = cc

pub calm-in : (script : Script) (front : List Entry) (o : Option Instr) → panic_in script front o ≡ None → misuse_in script front o ≡ None
calm-in script front None h = refl
calm-in script front (Some i) h = case-none (misused_case front i) (misuse_told script front i) h

pub in-calm : (script : Script) (front : List Entry) (o : Option Instr) → misuse_in script front o ≡ None → panic_in script front o ≡ None
in-calm script front None h = refl
in-calm script front (Some i) h = ap (with_case (misused_case front i)) h

-- ---- a misuse

-- the choice of a case that sends to a closed channel
chooses-told : (script : Script) (limits : Limits) (front : List Entry) (o : Option CaseKind) (reason : Reason) → IsGood script → AllLegal script limits (first_state script) front
    → ChoosesClosed (reached script front) o reason → ChoosesMisuse front o reason
chooses-told script limits front (Some (CaseKind.Send c v)) reason good legal h = (sym (closed-told script limits c front good legal) ∙ h.0, h.1)
chooses-told script limits front (Some (CaseKind.Recv o)) reason good legal h = h
chooses-told script limits front None reason good legal h = h

told-chooses : (script : Script) (limits : Limits) (front : List Entry) (o : Option CaseKind) (reason : Reason) → IsGood script → AllLegal script limits (first_state script) front
    → ChoosesMisuse front o reason → ChoosesClosed (reached script front) o reason
told-chooses script limits front (Some (CaseKind.Send c v)) reason good legal h = (closed-told script limits c front good legal ∙ h.0, h.1)
told-chooses script limits front (Some (CaseKind.Recv o)) reason good legal h = h
told-chooses script limits front None reason good legal h = h

-- the rule of a panic, in the words of the entries
abbrev MayPanicTold : Script → List Entry → Option Instr → ℕ → Reason → Type 0
MayPanicTold script front o n reason = MatchOption (panic_in script front o) (ChoosesMisuse front (operation_in o n) reason) (λ x. x ≡ (n, reason))

-- the instruction at which a goroutine panics
pub record Misuses (script : Script) (front : List Entry) (o : Option Instr) (n : ℕ) (reason : Reason) : Type 0 where
  pub instr : Instr
  pub stands : o ≡ Some instr
  pub is : IsMisuse front instr n reason (misuse_told script front instr)

misuse-is : (front : List Entry) (i : Instr) (n : ℕ) (reason : Reason) (o : Option Reason)
    → MatchOption (with_case (misused_case front i) o) (ChoosesMisuse front (operation i n) reason) (λ x. x ≡ (n, reason)) → IsMisuse front i n reason o
misuse-is front i n reason None h = h
misuse-is front i n reason (Some why) h = (ap (λ (x : ℕ × Reason). x.1) h, sym (ap (λ (x : ℕ × Reason). x.0) h))

is-misuse : (front : List Entry) (i : Instr) (n : ℕ) (reason : Reason) (o : Option Reason)
    → IsMisuse front i n reason o → MatchOption (with_case (misused_case front i) o) (ChoosesMisuse front (operation i n) reason) (λ x. x ≡ (n, reason))
is-misuse front i n reason None h = h
is-misuse front i n reason (Some why) h = ap (λ m. (m, why)) (sym h.1) ∙ ap (λ why. (n, why)) h.0

misuses : (script : Script) (front : List Entry) (o : Option Instr) (n : ℕ) (reason : Reason) → MayPanicTold script front o n reason → Misuses script front o n reason
misuses script front None n reason h = absurd h
misuses script front (Some i) n reason h = record { instr = i; stands = refl; is = misuse-is front i n reason (misuse_told script front i) h }

either : {P Q : Type 0} (R : ℕ × Reason → Type 0) (o : Option (ℕ × Reason)) → (P → Q) → MatchOption o P R → MatchOption o Q R
either R None on h = on h
either R (Some x) on h = h

pub may-told : (script : Script) (limits : Limits) (p : Party) (reason : Reason) (front : List Entry) → IsGood script → AllLegal script limits (first_state script) front
    → MayPanic script (reached script front) p reason → Misuses script front (stands_told script p.g front) p.case_no reason
may-told script limits p reason front good legal may =
    let s : State = reached script front in
    misuses script front (stands_told script p.g front) p.case_no reason
    (subst (λ (o : Option (ℕ × Reason)). MatchOption o (ChoosesMisuse front (operation_told script p front) reason) (λ x. x ≡ (p.case_no, reason)))
    (panic-told script limits p.g front good legal)
    (subst (λ (k : Option CaseKind). MatchOption (panic_at script s p.g) (ChoosesMisuse front k reason) (λ x. x ≡ (p.case_no, reason)))
    (operation-told script limits p front good legal)
    (either (λ x. x ≡ (p.case_no, reason)) (panic_at script s p.g) (λ h. chooses-told script limits front (operation_at script s p) reason good legal h) may)))

pub told-may : (script : Script) (limits : Limits) (p : Party) (reason : Reason) (front : List Entry) → IsGood script → AllLegal script limits (first_state script) front
    → Misuses script front (stands_told script p.g front) p.case_no reason → MayPanic script (reached script front) p reason
told-may script limits p reason front good legal m =
    let s : State = reached script front in
    let there : MayPanicTold script front (stands_told script p.g front) p.case_no reason =
    subst (λ (o : Option Instr). MayPanicTold script front o p.case_no reason) (sym m.stands) (is-misuse front m.instr p.case_no reason (misuse_told script front m.instr) m.is) in
    either (λ x. x ≡ (p.case_no, reason)) (panic_at script s p.g) (λ h. told-chooses script limits front (operation_at script s p) reason good legal h)
    (subst (λ (k : Option CaseKind). MatchOption (panic_at script s p.g) (ChoosesMisuse front k reason) (λ x. x ≡ (p.case_no, reason)))
    (sym (operation-told script limits p front good legal))
    (subst (λ (o : Option (ℕ × Reason)). MatchOption o (ChoosesMisuse front (operation_told script p front) reason) (λ x. x ≡ (p.case_no, reason)))
    (sym (panic-told script limits p.g front good legal)) there))
