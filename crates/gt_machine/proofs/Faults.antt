-- The first faulty case of a choice.
use Rattle.std.proofs.Common.{◌≡◌, ℕ, zero, suc, ◌+◌, ◌<◌, ◌≤◌, List, [], ◌∷◌, length, drop, refl, sym, ap, ◌∙◌, get_or, Option, Some, None, arith}
use Rattle.gt_model.specs.declared.script.Script.{Script}
use Rattle.gt_model.specs.declared.script.Instr.{Instr}
use Rattle.gt_model.specs.declared.script.Case.{Case}
use Rattle.gt_model.specs.declared.entry.Reason.{Reason}
use Rattle.gt_model.specs.Good.{IsGood, NamesRightly}
use Rattle.gt_rules.specs.State.{State, stands_at}
use Rattle.gt_facts.proofs.Lookups.{Standing, standing, names-instr_at}
use Rattle.gt_rules.specs.Panics.{case_fault, choice_fault, faulty_case, fault, fault_at}
use Rattle.gt_machine.specs.Machine.{first_fault, HasFewCases}

-- where the case at place k is not faulty, the first faulty one stands behind it
pub passes-by : (s : State) (n k : ℕ) (cases : List Case) (d : Case) → k < length cases → case_fault s (get_or cases k d).kind ≡ None
    → first_fault s n (drop k cases) ≡ first_fault s (n + 1) (drop (k + 1) cases)
passes-by s n k [] d within fine = absurd (omega arith)
passes-by s n zero (c ∷ cases) d within fine = rw (first_fault, fine) refl
passes-by s n (suc k) (c ∷ cases) d within fine =
    let next : suc (k + 1) ≡ suc k + 1 = omega arith in
    passes-by s n k cases d (omega arith) fine ∙ ap (λ j. first_fault s (n + 1) (drop j (c ∷ cases))) next

-- and where it is faulty it is that one
pub stops-at : (s : State) (n k : ℕ) (cases : List Case) (d : Case) (reason : Reason) → k < length cases → case_fault s (get_or cases k d).kind ≡ Some reason
    → first_fault s n (drop k cases) ≡ Some (n, reason)
stops-at s n k [] d reason within faulty = absurd (omega arith)
stops-at s n zero (c ∷ cases) d reason within faulty = rw (first_fault, faulty) refl
stops-at s n (suc k) (c ∷ cases) d reason within faulty = stops-at s n k cases d reason (omega arith) faulty

-- who is behind all cases has found none
pub nothing-behind : (s : State) (n k : ℕ) (cases : List Case) → length cases ≤ k → first_fault s n (drop k cases) ≡ None
nothing-behind s n zero [] past = refl
nothing-behind s n (suc k) [] past = refl
nothing-behind s n zero (x ∷ cases) past = absurd (omega arith)
nothing-behind s n (suc k) (x ∷ cases) past = nothing-behind s n k cases (omega arith)

-- what the first faulty case tells of a choice, whose first case has the place n
pub record IsFirst (s : State) (n : ℕ) (cases : List Case) (k : ℕ) (reason : Reason) : Type 0 where
  pub why : choice_fault s cases ≡ Some reason
  pub number : faulty_case s (n + 1) cases ≡ k + 1
  pub within : k < n + length cases

same-pair : (x y : ℕ × Reason) → Some x ≡ Some y → x ≡ y
same-pair x y e = cc

pub fault-found : (s : State) (n : ℕ) (cases : List Case) (k : ℕ) (reason : Reason) → first_fault s n cases ≡ Some (k, reason) → IsFirst s n cases k reason
fault-found s n [] k reason e = cc
fault-found s n (c ∷ cases) k reason e =
    elim (case_fault s c.kind) as (λ o. case_fault s c.kind ≡ o → IsFirst s n (c ∷ cases) k reason) [
      | None ↦ λ is.
          let rest : IsFirst s (n + 1) cases k reason = fault-found s (n + 1) cases k reason (rw (first_fault, is) at e) in
          let within : k < n + 1 + length cases = rest.within in
          record { why = rw is rest.why; number = rw is rest.number; within = omega arith }
      | Some r ↦ λ is.
          let same : ◌≡◌ {A = ℕ × Reason} (n, r) (k, reason) = same-pair (n, r) (k, reason) (rw (first_fault, is) at e) in
          let place : n ≡ k = ap (λ (x : ℕ × Reason). x.0) same in
          record { why = rw is (ap (λ (x : ℕ × Reason). Some x.1) same); number = rw is (ap (λ m. m + 1) place); within = omega arith }
    ] refl

pub no-fault : (s : State) (n : ℕ) (cases : List Case) → first_fault s n cases ≡ None → choice_fault s cases ≡ None
no-fault s n [] e = refl
no-fault s n (c ∷ cases) e =
    elim (case_fault s c.kind) as (λ o. case_fault s c.kind ≡ o → choice_fault s (c ∷ cases) ≡ None) [
      | None ↦ λ is. rw is (no-fault s (n + 1) cases (rw (first_fault, is) at e))
      | Some r ↦ λ is. let here : ◌≡◌ {A = Option (ℕ × Reason)} (Some (n, r)) None = rw (first_fault, is) at e in cc
    ] refl

-- the first faulty case is the misuse of its choice
abbrev told : (s : State) (cases : List Case) → Option Reason → Option (ℕ × Reason)
told s cases o = elim o as (λ o. Option (ℕ × Reason)) [ None ↦ None | Some reason ↦ Some (faulty_case s 1 cases, reason) ]

pub choice-found : (script : Script) (s : State) (cases : List Case) (default_to : Option ℕ) (k : ℕ) (reason : Reason) → IsFirst s 0 cases k reason
    → Some (k + 1, reason) ≡ fault_at script s (Instr.Select cases default_to)
choice-found script s cases default_to k reason first = sym (ap (told s cases) first.why ∙ ap (λ (n : ℕ). Some (n, reason)) first.number)

pub choice-none : (script : Script) (s : State) (cases : List Case) (default_to : Option ℕ) → first_fault s 0 cases ≡ None → None ≡ fault_at script s (Instr.Select cases default_to)
choice-none script s cases default_to none = sym (ap (told s cases) (no-fault s 0 cases none))

-- the misuse of a plain instruction has the number 0
pub plain-fault : (script : Script) (s : State) (i : Instr) → ((cases : List Case) (default_to : Option ℕ) → i ≡ Instr.Select cases default_to → ⊥)
    → fault_at script s i ≡ elim (fault script s i) as (λ o. Option (ℕ × Reason)) [ None ↦ None | Some reason ↦ Some (0, reason) ]
plain-fault script s (Instr.Select cases default_to) plain = absurd (plain cases default_to refl)
plain-fault script s _ plain = refl

-- in a good script each choice has few cases
pub few-cases : (script : Script) (s : State) (g : ℕ) (i : Instr) → IsGood script → stands_at script s g ≡ Some i → HasFewCases i
few-cases script s g i good on =
    let there : Standing script s g i = standing script s g i on in
    few-named script i (names-instr_at script there.who.place i good there.on)
  where
    few-named : (script : Script) (i : Instr) → NamesRightly script i → HasFewCases i
    few-named script (Instr.Select cases default_to) h = h.few
    few-named script _ h = tt
