-- The timers that a goroutine awaits: at most as many as a choice may have cases, and it stands at a receive from each.
use Rattle.std.proofs.Common.{◌≡◌, ℕ, ◌+◌, ◌<◌, ◌≤◌, ◌||◌, cond, List, [], ◌∷◌, ◌++◌, length, map, refl, sym, ap, subst, ◌∙◌, arith, Option, None, Some, Bool, true, false, inl, inr}
use Rattle.std.specs.List.{filter_map, cons_option, list_any}
use Rattle.std.proofs.lemmas.Bool.{cases_eq, eq-eqb, ne_eqb}
use Rattle.std.proofs.lemmas.List.{length-map}
use Rattle.gt_model.specs.declared.script.Script.{Script}
use Rattle.gt_model.specs.declared.script.Instr.{Instr}
use Rattle.gt_model.specs.declared.script.Case.{Case}
use Rattle.gt_model.specs.declared.script.CaseKind.{CaseKind}
use Rattle.gt_model.specs.declared.script.Place.{Place}
use Rattle.gt_model.specs.declared.state.Goroutine.{Goroutine}
use Rattle.gt_model.specs.declared.state.Mode.{Mode}
use Rattle.gt_model.specs.Script.{instr_at, is_timer}
use Rattle.gt_model.specs.Good.{IsGood, NamesRightly}
use Rattle.gt_rules.specs.State.{State, stands, stands_at, goroutine_at}
use Rattle.gt_rules.specs.Operations.{receives_from, offers}
use Rattle.gt_facts.proofs.Lookups.{names-instr_at}
use Rattle.gt_schedule.specs.Counts.{as_number, times}
use Rattle.gt_schedule.proofs.Lists.{times-append}
use Rattle.gt_book.specs.Steps.{timer_of}
use Rattle.gt_runner.specs.Served.{operations_of, timers_of, awaited_by}

-- ---- few timers

length-filter_map : {X Y : Type 0} (h : X → Option Y) (xs : List X) → length (filter_map h xs) ≤ length xs
length-filter_map h [] = omega arith
length-filter_map h (x ∷ xs) =
    let rest : length (filter_map h xs) ≤ length xs = length-filter_map h xs in
    elim (h x) as (λ o. length (cons_option o (filter_map h xs)) ≤ length (x ∷ xs)) [ None ↦ omega arith | Some y ↦ omega arith ]

pub few-operations : (script : Script) (i : Instr) → NamesRightly script i → length (operations_of i) ≤ 16
few-operations script (Instr.Recv o) names = omega arith
few-operations script (Instr.Select cases default_to) names =
    let same : length (map (λ (c : Case). c.kind) cases) ≡ length cases = length-map cases (λ (c : Case). c.kind) in
    let few : length cases ≤ 16 = names.few in
    omega arith
few-operations script _ names = omega arith

few-timers : (script : Script) (i : Instr) → NamesRightly script i → length (timers_of script i) ≤ 16
few-timers script i names =
    let fewer : length (timers_of script i) ≤ length (operations_of i) = length-filter_map (timer_of script) (operations_of i) in
    let few : length (operations_of i) ≤ 16 = few-operations script i names in
    omega arith

few-at : (script : Script) (o : Option Instr) → ((i : Instr) → o ≡ Some i → NamesRightly script i) → length (elim o as (λ _. List ℕ) [ None ↦ [] | Some i ↦ timers_of script i ]) ≤ 16
few-at script None names = omega arith
few-at script (Some i) names = few-timers script i (names i refl)

few-place : (script : Script) (p : Place) (mode : Mode) → IsGood script
    → length (elim (elim mode as (λ _. Option Instr) [ Mode.At ↦ instr_at script p | _ ↦ None ]) as (λ _. List ℕ) [ None ↦ [] | Some i ↦ timers_of script i ]) ≤ 16
few-place script p Mode.At good = few-at script (instr_at script p) (λ i e. names-instr_at script p i good e)
few-place script p _ good = omega arith

-- a goroutine of a good script awaits few timers
abbrev pub awaited_in : Script → Option Goroutine → List ℕ
awaited_in script o = elim (elim o as (λ _. Option Instr) [ None ↦ None | Some r ↦ stands script r ]) [ None ↦ [] | Some i ↦ timers_of script i ]

pub few-awaited_in : (script : Script) (o : Option Goroutine) → IsGood script → length (awaited_in script o) ≤ 16
few-awaited_in script None good = omega arith
few-awaited_in script (Some r) good = few-place script r.place r.mode good

pub few-awaited : (script : Script) (s : State) (g : ℕ) → IsGood script → length (awaited_by script s g) ≤ 16
few-awaited script s g good = few-awaited_in script (goroutine_at s g) good

-- ---- where it stands

-- a goroutine stands at an instruction that receives from this timer
pub record WaitsAt (script : Script) (s : State) (g t : ℕ) : Type 0 where
  pub instr : Instr
  pub stands : stands_at script s g ≡ Some instr
  pub offered : offers (receives_from t) instr ≡ true
  pub timer : is_timer script t ≡ true

record Receives (script : Script) (t : ℕ) (kinds : List CaseKind) : Type 0 where
  some : list_any (receives_from t) kinds ≡ true
  timer : is_timer script t ≡ true

some-later : (a b : Bool) → b ≡ true → (a || b) ≡ true
some-later true b h = refl
some-later false b h = h

receives-kind : (script : Script) (t : ℕ) (kind : CaseKind) (kinds : List CaseKind) → timer_of script kind ≡ Some t → Receives script t (kind ∷ kinds)
receives-kind script t (CaseKind.Recv o) kinds e = by (is_timer script o) refl e
  where
    by : (b : Bool) → is_timer script o ≡ b → cond b (Some o) None ≡ Some t → Receives script t (CaseKind.Recv o ∷ kinds)
    by true timer k =
        let same : o ≡ t = cc in
        record { some = ap (λ b. b || list_any (receives_from t) kinds) (eq-eqb o t same); timer = ap (is_timer script) (sym same) ∙ timer }
    by false timer k = cc
receives-kind script t (CaseKind.Send c v) kinds e = cc

receives-first : (script : Script) (t : ℕ) (kind : CaseKind) (kinds : List CaseKind) (o : Option ℕ) → timer_of script kind ≡ o
    → 0 < times t (cons_option o (filter_map (timer_of script) kinds)) → (0 < times t (filter_map (timer_of script) kinds) → Receives script t kinds) → Receives script t (kind ∷ kinds)
receives-first script t kind kinds None e h rest =
    let later : Receives script t kinds = rest h in
    record { some = some-later (receives_from t kind) (list_any (receives_from t) kinds) later.some; timer = later.timer }
receives-first script t kind kinds (Some u) e h rest =
    elim (cases_eq u t) [
      | inl same ↦ receives-kind script t kind kinds (e ∙ ap Some same)
      | inr n ↦
          let other : 0 < as_number false + times t (filter_map (timer_of script) kinds) = subst (λ b. 0 < as_number b + times t (filter_map (timer_of script) kinds)) (ne_eqb u t n) h in
          let later : Receives script t kinds = rest (omega arith) in
          record { some = some-later (receives_from t kind) (list_any (receives_from t) kinds) later.some; timer = later.timer }
    ]

some-receives : (script : Script) (t : ℕ) (kinds : List CaseKind) → 0 < times t (filter_map (timer_of script) kinds) → Receives script t kinds
some-receives script t [] h = absurd (omega arith)
some-receives script t (kind ∷ kinds) h = receives-first script t kind kinds (timer_of script kind) refl h (λ k. some-receives script t kinds k)

any-kinds : (test : CaseKind → Bool) (cases : List Case) → list_any test (map (λ (c : Case). c.kind) cases) ≡ list_any (λ (c : Case). test c.kind) cases
any-kinds test [] = refl
any-kinds test (c ∷ cases) = ap (λ b. test c.kind || b) (any-kinds test cases)

or-nothing : (a : Bool) → (a || false) ≡ true → a ≡ true
or-nothing true h = refl
or-nothing false h = h

offers-any : (test : CaseKind → Bool) (i : Instr) → list_any test (operations_of i) ≡ true → offers test i ≡ true
offers-any test (Instr.Recv o) h = or-nothing (test (CaseKind.Recv o)) h
offers-any test (Instr.Select cases default_to) h = sym (any-kinds test cases) ∙ h
offers-any test _ h = cc

pub waits-by : (script : Script) (s : State) (g t : ℕ) (o : Option Instr) → stands_at script s g ≡ o → 0 < times t (elim o as (λ _. List ℕ) [ None ↦ [] | Some i ↦ timers_of script i ]) → WaitsAt script s g t
waits-by script s g t None e h = absurd (omega arith)
waits-by script s g t (Some i) e h =
    let found : Receives script t (operations_of i) = some-receives script t (operations_of i) h in
    record { instr = i; stands = e; offered = offers-any (receives_from t) i found.some; timer = found.timer }

times-within : (t : ℕ) (done left : List ℕ) → 0 < times t (done ++ t ∷ left)
times-within t done left =
    let both : times t (done ++ t ∷ left) ≡ times t done + times t (t ∷ left) = times-append t done (t ∷ left) in
    let here : times t (t ∷ left) ≡ 1 + times t left = ap (λ b. as_number b + times t left) (eq-eqb t t refl) in
    omega arith

-- who awaits a timer stands at a receive from it
pub awaits-at : (script : Script) (s : State) (g t : ℕ) (done left : List ℕ) → awaited_by script s g ≡ done ++ t ∷ left → WaitsAt script s g t
awaits-at script s g t done left e = waits-by script s g t (stands_at script s g) refl (subst (λ ts. 0 < times t ts) (sym e) (times-within t done left))
