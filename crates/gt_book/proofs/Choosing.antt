-- The operations of an instruction: their misuse, and what holds of each where the instruction is not ready.
use Rattle.std.proofs.Common.{◌≡◌, ℕ, zero, suc, List, [], ◌∷◌, refl, ap, subst, ◌∙◌, slice_get, Option, Some, None, Bool, true, false, is_some, is_none}
use Rattle.std.specs.List.{list_any}
use Rattle.gt_model.specs.declared.script.Script.{Script}
use Rattle.gt_model.specs.declared.script.Instr.{Instr}
use Rattle.gt_model.specs.declared.script.Case.{Case}
use Rattle.gt_model.specs.declared.script.CaseKind.{CaseKind}
use Rattle.gt_model.specs.declared.entry.Reason.{Reason}
use Rattle.gt_rules.specs.State.{State, channel_at, is_closed}
use Rattle.gt_rules.specs.Operations.{operation, polls}
use Rattle.gt_rules.specs.Panics.{fault, fault_case, fault_at, case_fault, choice_fault, or_else, when}
use Rattle.gt_rules.specs.Ready.{is_ready_case, is_ready_instr}
use Rattle.gt_facts.proofs.Lookups.{IsCase, is-case, operation-any}
use Rattle.gt_book.proofs.Firm.{or-false, never-both, unless-true}

-- a misuse and its case number
pub record IsFault (script : Script) (s : State) (i : Instr) (n : ℕ) (reason : Reason) : Type 0 where
  pub why : fault script s i ≡ Some reason
  pub number : fault_case s i ≡ n

pub fault-is : (script : Script) (s : State) (i : Instr) (n : ℕ) (reason : Reason) → fault_at script s i ≡ Some (n, reason) → IsFault script s i n reason
fault-is script s i n reason e =
    elim (fault script s i) as (λ o. fault script s i ≡ o → (elim o as (λ o. Option (ℕ × Reason)) [ None ↦ None | Some r ↦ Some (fault_case s i, r) ]) ≡ Some (n, reason) → IsFault script s i n reason) [
      | None ↦ λ is h. cc
      | Some r ↦ λ is h.
          let same : ◌≡◌ {A = ℕ × Reason} (fault_case s i, r) (n, reason) = pair-same _ _ h in
          record { why = is ∙ ap (λ (x : ℕ × Reason). Some x.1) same; number = ap (λ (x : ℕ × Reason). x.0) same }
    ] refl e
  where
    pair-same : (x y : ℕ × Reason) → Some x ≡ Some y → x ≡ y
    pair-same x y e = cc

pub fault-none : (script : Script) (s : State) (i : Instr) → fault_at script s i ≡ None → fault script s i ≡ None
fault-none script s i e =
    elim (fault script s i) as (λ o. (elim o as (λ o. Option (ℕ × Reason)) [ None ↦ None | Some r ↦ Some (fault_case s i, r) ]) ≡ None → o ≡ None) [
      | None ↦ λ h. refl
      | Some r ↦ λ h. cc
    ] e

-- ---- an instruction that is not ready

-- it is no choice with a default
pub unready-waits : (script : Script) (s : State) (timed counts : ℕ → Bool) (g : ℕ) (i : Instr) → is_ready_instr script s timed counts g i ≡ false → polls i ≡ false
unready-waits script s timed counts g (Instr.Select cases default_to) h = (or-false (is_some default_to) _ h).0
unready-waits script s timed counts g _ h = refl

-- and none of its operations is ready
pub unready-operation : (script : Script) (s : State) (timed counts : ℕ → Bool) (g : ℕ) (i : Instr) (n : ℕ) (kind : CaseKind) → operation i n ≡ Some kind
    → is_ready_instr script s timed counts g i ≡ false → is_ready_case script s timed counts g kind ≡ false
unready-operation script s timed counts g (Instr.Recv o) zero kind e h =
    let is : CaseKind.Recv o ≡ kind = cc in subst (λ kind. is_ready_case script s timed counts g kind ≡ false) is h
unready-operation script s timed counts g (Instr.Recv o) (suc k) kind e h = cc
unready-operation script s timed counts g (Instr.Send c v) zero kind e h =
    let is : CaseKind.Send c v ≡ kind = cc in subst (λ kind. is_ready_case script s timed counts g kind ≡ false) is h
unready-operation script s timed counts g (Instr.Send c v) (suc k) kind e h = cc
unready-operation script s timed counts g (Instr.Select cases default_to) zero kind e h = cc
unready-operation script s timed counts g (Instr.Select cases default_to) (suc k) kind e h =
    unless-true (is_ready_case script s timed counts g kind) (λ ready.
    never-both (list_any (λ (c : Case). is_ready_case script s timed counts g c.kind) cases)
    (operation-any (is_ready_case script s timed counts g) cases k kind e ready) (or-false (is_some default_to) _ h).1)
unready-operation script s timed counts g (Instr.Lock m) zero kind e h =
    let is : CaseKind.Recv m ≡ kind = cc in subst (λ kind. is_ready_case script s timed counts g kind ≡ false) is h
unready-operation script s timed counts g (Instr.Lock m) (suc k) kind e h = cc
unready-operation script s timed counts g (Instr.Wait w) zero kind e h =
    let is : CaseKind.Recv w ≡ kind = cc in subst (λ kind. is_ready_case script s timed counts g kind ≡ false) is h
unready-operation script s timed counts g (Instr.Wait w) (suc k) kind e h = cc
unready-operation script s timed counts g _ n kind e h = cc

-- ---- an instruction without misuse

some-not_none : {X : Type 0} (o : Option X) → is_none o ≡ false → is_some o ≡ true
some-not_none None h = cc
some-not_none (Some x) h = refl

none-when : (b : Bool) (reason : Reason) → when b reason ≡ None → b ≡ false
none-when true reason h = cc
none-when false reason h = refl

no-first : (a b : Option Reason) → or_else a b ≡ None → (a ≡ None) × (b ≡ None)
no-first None b h = (refl, h)
no-first (Some reason) b h = cc

-- each of its cases is without misuse
no-case_fault : (s : State) (cases : List Case) (k : ℕ) (c : Case) → choice_fault s cases ≡ None → slice_get cases k ≡ Some c → case_fault s c.kind ≡ None
no-case_fault s [] k c none e = cc
no-case_fault s (d ∷ cases) zero c none e =
    let is : d ≡ c = cc in
    subst (λ (c : Case). case_fault s c.kind ≡ None) is (no-first (case_fault s d.kind) (choice_fault s cases) none).0
no-case_fault s (d ∷ cases) (suc k) c none e = no-case_fault s cases k c (no-first (case_fault s d.kind) (choice_fault s cases) none).1 e

-- the channels to which it sends were made
pub sends-made : (script : Script) (s : State) (i : Instr) (n c v : ℕ) → fault script s i ≡ None → operation i n ≡ Some (CaseKind.Send c v) → is_some (channel_at s c) ≡ true
sends-made script s (Instr.Send d w) zero c v none e =
    let same : d ≡ c = cc in
    subst (λ c. is_some (channel_at s c) ≡ true) same
    (some-not_none (channel_at s d) (none-when (is_none (channel_at s d)) Reason.Unmade (no-first (when (is_none (channel_at s d)) Reason.Unmade) (when (is_closed s d) Reason.Closed) none).0))
sends-made script s (Instr.Send d w) (suc k) c v none e = cc
sends-made script s (Instr.Recv o) zero c v none e = cc
sends-made script s (Instr.Recv o) (suc k) c v none e = cc
sends-made script s (Instr.Lock m) zero c v none e = cc
sends-made script s (Instr.Lock m) (suc k) c v none e = cc
sends-made script s (Instr.Wait w) zero c v none e = cc
sends-made script s (Instr.Wait w) (suc k) c v none e = cc
sends-made script s (Instr.Select cases default_to) zero c v none e = cc
sends-made script s (Instr.Select cases default_to) (suc k) c v none e =
    let one : IsCase cases k (CaseKind.Send c v) = is-case cases k (CaseKind.Send c v) e in
    some-not_none (channel_at s c) (none-when (is_none (channel_at s c)) Reason.Unmade
    (subst (λ kind. case_fault s kind ≡ None) one.its (no-case_fault s cases k one.item none one.there)))
sends-made script s _ n c v none e = cc
