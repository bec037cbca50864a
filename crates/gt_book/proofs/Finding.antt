-- A look at all goroutines and declarations finds the least time that counts.
use Rattle.std.proofs.Common.{◌≡◌, ◌⊎◌, ◌↔◌, ℕ, ◌+◌, ◌-◌, ◌<◌, ◌≤◌, nat_lt, List, [], ◌∷◌, length, drop, get_or, refl, sym, ap, subst, ◌∙◌, arith, Option, None, Some, IfSome, IsNone, Bool, true, false, inl, inr, eq-eqb}
use Rattle.std.specs.List.{list_any}
use Rattle.std.proofs.lemmas.Bool.{ltb-true, ltb-false, or_cases, or_left, or_right}
use Rattle.std.proofs.lemmas.List.{drop_more, drop_all}
use Rattle.gt_model.specs.declared.script.Script.{Script}
use Rattle.gt_model.specs.declared.script.Instr.{Instr}
use Rattle.gt_model.specs.declared.script.Case.{Case}
use Rattle.gt_model.specs.declared.script.CaseKind.{CaseKind}
use Rattle.gt_model.specs.Good.{IsGood}
use Rattle.gt_model.specs.Script.{is_func}
use Rattle.gt_model.specs.Tables.{least}
use Rattle.gt_rules.specs.State.{State, stands_at, sleeps_until, due_of, context_at}
use Rattle.gt_rules.specs.Operations.{receives_from, offers}
use Rattle.gt_rules.specs.Counted.{counted, is_awaited, deadline_in}
use Rattle.gt_facts.specs.Formed.{IsFormed}
use Rattle.gt_book.specs.Least.{IsCountedBy}
use Rattle.gt_book.specs.Found.{IsNotLater, IsOneOf, IsOneDue, IsOneOfDue, IsOneAt, IsShown, IsLeastBelow, IsLeastWith}
use Rattle.gt_book.proofs.Counting.{AsMany, least-counted, none-counted}
use Rattle.gt_book.proofs.Waiting.{Counts, counts-timer, counts-sleep, counted-declared, counted-slept, Awaiting, awaited-stands, awaited-shown, stands-below, sleeps-below, sleep-shown, func-shown, deadline-shown, func-no_deadline}

-- ---- one more

below-next : (P : ℕ → Type 0) (n : ℕ) → ((k : ℕ) → k < n → P k) → P n → (k : ℕ) → k < n + 1 → P k
below-next P n before here k less =
    elim (nat_lt k n) as (λ b. nat_lt k n ≡ b → P k) [
      | true ↦ λ q. before k (ltb-true k n q)
      | false ↦ λ q. (let behind : n ≤ k = ltb-false k n q in let is : n ≡ k = omega arith in subst P is here)
    ] refl

-- ---- what was found

-- an earlier time is shown where both are
pub shown-one : (script : Script) (s : State) (found : Option (ℕ × ℕ)) (time : Option ℕ) (id : ℕ) (result : Option (ℕ × ℕ)) → IsOneOf found time id result → IsShown script s found
    → ((w : ℕ) → time ≡ Some w → IsCountedBy script s id w) → IsShown script s result
shown-one script s found time id result (inl is) shown new = subst (IsShown script s) (sym is) shown
shown-one script s found None id result (inr none) shown new = absurd none
shown-one script s found (Some w) id result (inr is) shown new = subst (IsShown script s) (sym is) (new w refl)

-- the goroutine's sleep was looked at
pub record WithSleep (script : Script) (s : State) (g : ℕ) (found with_sleep : Option (ℕ × ℕ)) : Type 0 where
  pub before : IsLeastBelow script s g found
  pub one : IsOneOf found (sleeps_until s g) (length script.decls + g) with_sleep
  pub not_later : IsNotLater with_sleep (sleeps_until s g)
  pub still : (other : Option ℕ) → IsNotLater found other → IsNotLater with_sleep other

-- an earlier time is that of the record under its number
pub earlier-sleep : (script : Script) (s : State) (g : ℕ) (found : Option (ℕ × ℕ)) (time : Option ℕ) (id : ℕ) (result : Option (ℕ × ℕ)) → time ≡ sleeps_until s g
    → id ≡ length script.decls + g → IsLeastBelow script s g found → IsOneOf found time id result → IsNotLater result time
    → ((other : Option ℕ) → IsNotLater found other → IsNotLater result other) → WithSleep script s g found result
earlier-sleep script s g found time id result is number before one not_later still = record {
  before = before;
  one = subst (λ (x : Option ℕ). IsOneOf found x (length script.decls + g) result) is (subst (λ n. IsOneOf found time n result) number one);
  not_later = subst (IsNotLater result) is not_later;
  still = still;
}

-- the sleep is shown
sleep-found : (script : Script) (s : State) (g : ℕ) (found result : Option (ℕ × ℕ)) → IsFormed script s → WithSleep script s g found result → IsShown script s result
sleep-found script s g found result formed w =
    shown-one script s found (sleeps_until s g) (length script.decls + g) result w.one w.before.shown (λ at e. sleep-shown script s g at formed e)

-- a goroutine that stands nowhere was looked at
pub with-none : (script : Script) (s : State) (g : ℕ) (found result : Option (ℕ × ℕ)) → IsFormed script s → WithSleep script s g found result → stands_at script s g ≡ None
    → IsLeastBelow script s (g + 1) result
with-none script s g found result formed w nowhere = record {
  shown = sleep-found script s g found result formed w;
  sleeps = below-next (λ h. IsNotLater result (sleeps_until s h)) g (λ h less. w.still (sleeps_until s h) (w.before.sleeps h less)) w.not_later;
  timers = λ h t i less. below-next (λ h. stands_at script s h ≡ Some i → offers (receives_from t) i ≡ true → IsNotLater result (due_of s t)) g
      (λ h less e q. w.still (due_of s t) (w.before.timers h t i less e q)) (λ e q. let off : ◌≡◌ {A = Option Instr} None (Some i) = sym nowhere ∙ e in cc) h less;
}

-- what an instruction receives from shows what was found there
one-shown : (script : Script) (s : State) (found : Option (ℕ × ℕ)) (kind : CaseKind) (result : Option (ℕ × ℕ))
    → ((t w : ℕ) → receives_from t kind ≡ true → due_of s t ≡ Some w → IsCountedBy script s t w) → IsShown script s found → IsOneDue s found kind result → IsShown script s result
one-shown script s found (CaseKind.Recv o) result shows shown one = shown-one script s found (due_of s o) o result one shown (λ w e. shows o w (eq-eqb o o refl) e)
one-shown script s found (CaseKind.Send c v) result shows shown one = subst (IsShown script s) (sym one) shown

-- whether a case receives from t
abbrev gets : ℕ → Case → Bool
gets t c = receives_from t c.kind

cases-shown : (script : Script) (s : State) (found : Option (ℕ × ℕ)) (cases : List Case) (result : Option (ℕ × ℕ))
    → ((t w : ℕ) → list_any (gets t) cases ≡ true → due_of s t ≡ Some w → IsCountedBy script s t w) → IsShown script s found → IsOneOfDue s found cases result → IsShown script s result
cases-shown script s found [] result shows shown one = subst (IsShown script s) (sym one) shown
cases-shown script s found (c ∷ cases) result shows shown one =
    cases-shown script s one.0 cases result (λ t w q. shows t w (or_right (gets t c) (list_any (gets t) cases) q))
    (one-shown script s found c.kind one.0 (λ t w q. shows t w (or_left (gets t c) (list_any (gets t) cases) q)) shown one.1) one.2

instr-shown : (script : Script) (s : State) (found : Option (ℕ × ℕ)) (i : Instr) (result : Option (ℕ × ℕ))
    → ((t w : ℕ) → offers (receives_from t) i ≡ true → due_of s t ≡ Some w → IsCountedBy script s t w) → IsShown script s found → IsOneAt s found i result → IsShown script s result
instr-shown script s found (Instr.Recv o) result shows shown one = one-shown script s found (CaseKind.Recv o) result shows shown one
instr-shown script s found (Instr.Lock m) result shows shown one = one-shown script s found (CaseKind.Recv m) result shows shown one
instr-shown script s found (Instr.Wait w) result shows shown one = one-shown script s found (CaseKind.Recv w) result shows shown one
instr-shown script s found (Instr.Select cases default_to) result shows shown one = cases-shown script s found cases result shows shown one
instr-shown script s found _ result shows shown one = subst (IsShown script s) (sym one) shown

-- the timers were looked at from which an instruction receives
pub record WithTimers (s : State) (i : Instr) (found result : Option (ℕ × ℕ)) : Type 0 where
  pub one : IsOneAt s found i result
  pub not_later : (t : ℕ) → offers (receives_from t) i ≡ true → IsNotLater result (due_of s t)
  pub still : (other : Option ℕ) → IsNotLater found other → IsNotLater result other

pub with-instr : (script : Script) (s : State) (g : ℕ) (i : Instr) (found with_sleep result : Option (ℕ × ℕ)) → IsGood script → IsFormed script s
    → WithSleep script s g found with_sleep → stands_at script s g ≡ Some i → WithTimers s i with_sleep result → IsLeastBelow script s (g + 1) result
with-instr script s g i found with_sleep result good formed w stands next = record {
  shown = instr-shown script s with_sleep i result (λ t at q e. awaited-shown script s g t at i good formed stands q e) (sleep-found script s g found with_sleep formed w) next.one;
  sleeps = below-next (λ h. IsNotLater result (sleeps_until s h)) g
      (λ h less. next.still (sleeps_until s h) (w.still (sleeps_until s h) (w.before.sleeps h less))) (next.still (sleeps_until s g) w.not_later);
  timers = λ h t j less. below-next (λ h. stands_at script s h ≡ Some j → offers (receives_from t) j ≡ true → IsNotLater result (due_of s t)) g
      (λ h less e q. next.still (due_of s t) (w.still (due_of s t) (w.before.timers h t j less e q)))
      (λ e q.
      let same : Some i ≡ Some j = sym stands ∙ e in
      let is : i ≡ j = cc in
      next.not_later t (subst (λ (i : Instr). offers (receives_from t) i ≡ true) (sym is) q)) h less;
}

-- ---- a choice, case by case

-- What was found so far, with what the cases that are left show, is what all show. No time is before it that was looked at
pub record LooksOn (s : State) (found : Option (ℕ × ℕ)) (cases : List Case) (least : Option (ℕ × ℕ)) (rest : List Case) : Type 0 where
  pub shown : (result : Option (ℕ × ℕ)) → IsOneOfDue s least rest result → IsOneOfDue s found cases result
  pub still : (other : Option ℕ) → IsNotLater found other → IsNotLater least other
  pub looked : (t : ℕ) → list_any (gets t) cases ≡ true → IsNotLater least (due_of s t) ⊎ (list_any (gets t) rest ≡ true)

pub looks-first : (s : State) (found : Option (ℕ × ℕ)) (cases : List Case) → LooksOn s found cases found cases
looks-first s found cases = record { shown = λ result one. one; still = λ other h. h; looked = λ t q. inr q }

pub looks-on : (s : State) (found : Option (ℕ × ℕ)) (cases : List Case) (least result : Option (ℕ × ℕ)) (k : ℕ) (d : Case) → k < length cases
    → LooksOn s found cases least (drop k cases) → ((t : ℕ) → gets t (get_or cases k d) ≡ true → IsNotLater result (due_of s t))
    → ((other : Option ℕ) → IsNotLater least other → IsNotLater result other) → IsOneDue s least (get_or cases k d).kind result → LooksOn s found cases result (drop (k + 1) cases)
looks-on s found cases least result k d within before not_later still one = record {
  shown = λ last rest. (now before within).shown last (result, one, rest);
  still = λ other h. still other (before.still other h);
  looked = λ t q. elim ((now before within).looked t q) [
    | inl h ↦ inl (still (due_of s t) h)
    | inr h ↦ elim (or_cases (gets t (get_or cases k d)) (list_any (gets t) (drop (k + 1) cases)) h) [ inl here ↦ inl (not_later t here) | inr later ↦ inr later ]
  ];
}
  where
    now : LooksOn s found cases least (drop k cases) → k < length cases → LooksOn s found cases least (get_or cases k d ∷ drop (k + 1) cases)
    now before within = subst (LooksOn s found cases least) (drop_more cases k d within) before

-- all cases were looked at
pub looks-last : (s : State) (found : Option (ℕ × ℕ)) (cases : List Case) (least : Option (ℕ × ℕ)) (k : ℕ) → length cases ≤ k → LooksOn s found cases least (drop k cases)
    → LooksOn s found cases least []
looks-last s found cases least k past all = subst (LooksOn s found cases least) (drop_all k cases past) all

pub looked-all : (s : State) (found : Option (ℕ × ℕ)) (cases : List Case) (least : Option (ℕ × ℕ)) → LooksOn s found cases least [] → (t : ℕ) → list_any (gets t) cases ≡ true
    → IsNotLater least (due_of s t)
looked-all s found cases least all t q = elim (all.looked t q) [ inl h ↦ h | inr h ↦ cc ]

-- a declaration was looked at: an AfterFunc timer is due, or a context has its deadline
pub record WithTime (found : Option (ℕ × ℕ)) (time : Option ℕ) (t : ℕ) (result : Option (ℕ × ℕ)) : Type 0 where
  pub one : IsOneOf found time t result
  pub not_later : IsNotLater result time
  pub still : (other : Option ℕ) → IsNotLater found other → IsNotLater result other

pub with-time : (found : Option (ℕ × ℕ)) (time is : Option ℕ) (t : ℕ) (result : Option (ℕ × ℕ)) → time ≡ is → IsOneOf found time t result → IsNotLater result time
    → ((other : Option ℕ) → IsNotLater found other → IsNotLater result other) → WithTime found is t result
with-time found time is t result same one not_later still = record {
  one = subst (λ (x : Option ℕ). IsOneOf found x t result) same one;
  not_later = subst (IsNotLater result) same not_later;
  still = still;
}

looked-below : (script : Script) (s : State) (found result : Option (ℕ × ℕ)) (time : Option ℕ) (t : ℕ) → WithTime found time t result → IsShown script s result
    → IsLeastBelow script s (length s.goroutines + 1) found → IsLeastBelow script s (length s.goroutines + 1) result
looked-below script s found result time t next shown before = record {
  shown = shown;
  sleeps = λ g less. next.still (sleeps_until s g) (before.sleeps g less);
  timers = λ g k i less e q. next.still (due_of s k) (before.timers g k i less e q);
}

pub with-func : (script : Script) (s : State) (t : ℕ) (found result : Option (ℕ × ℕ)) → IsFormed script s → IsLeastWith script s t found → is_func script t ≡ true
    → WithTime found (due_of s t) t result → IsLeastWith script s (t + 1) result
with-func script s t found result formed before named next = record {
  goroutines = looked-below script s found result (due_of s t) t next
      (shown-one script s found (due_of s t) t result next.one before.goroutines.shown (λ at e. func-shown script s t at formed named e)) before.goroutines;
  funcs = below-next (λ k. is_func script k ≡ true → IsNotLater result (due_of s k)) t (λ k less is. next.still (due_of s k) (before.funcs k less is)) (λ is. next.not_later);
  deadlines = below-next (λ x. IsNotLater result (deadline_in 0 (context_at s x))) t (λ x less. next.still (deadline_in 0 (context_at s x)) (before.deadlines x less))
      (subst (IsNotLater result) (sym (func-no_deadline script s t formed named)) tt);
}

both-ways : (b : Bool) → b ≡ true → b ≡ false → ⊥
both-ways true e h = cc
both-ways false e h = cc

pub with-deadline : (script : Script) (s : State) (t : ℕ) (found result : Option (ℕ × ℕ)) → IsFormed script s → IsLeastWith script s t found → is_func script t ≡ false
    → WithTime found (deadline_in 0 (context_at s t)) t result → IsLeastWith script s (t + 1) result
with-deadline script s t found result formed before other next = record {
  goroutines = looked-below script s found result (deadline_in 0 (context_at s t)) t next
      (shown-one script s found (deadline_in 0 (context_at s t)) t result next.one before.goroutines.shown (λ at e. deadline-shown script s t at formed e)) before.goroutines;
  funcs = below-next (λ k. is_func script k ≡ true → IsNotLater result (due_of s k)) t (λ k less is. next.still (due_of s k) (before.funcs k less is)) (λ is. absurd (both-ways (is_func script t) is other));
  deadlines = below-next (λ x. IsNotLater result (deadline_in 0 (context_at s x))) t (λ x less. next.still (deadline_in 0 (context_at s x)) (before.deadlines x less)) next.not_later;
}

-- ---- before any

pub least-of_none : (script : Script) (s : State) → IsLeastBelow script s 1 None
least-of_none script s = record {
  shown = tt;
  sleeps = λ g less. (let is : 0 ≡ g = omega arith in subst (λ g. IsNotLater None (sleeps_until s g)) is tt);
  timers = λ g t i less e q. (let is : g ≡ 0 = omega arith in let off : ◌≡◌ {A = Option Instr} None (Some i) = subst (λ g. stands_at script s g ≡ Some i) is e in cc);
}

pub least-of_goroutines : (script : Script) (s : State) (found : Option (ℕ × ℕ)) → IsLeastBelow script s (length s.goroutines + 1) found → IsLeastWith script s 0 found
least-of_goroutines script s found below = record { goroutines = below; funcs = λ t less is. absurd (omega arith); deadlines = λ x less. absurd (omega arith) }

-- ---- all

-- no record's time is before what was found
covers : (script : Script) (s : State) (found : Option (ℕ × ℕ)) → IsLeastWith script s (length script.decls) found → (j t : ℕ) → IsCountedBy script s j t → IsNotLater found (Some t)
covers script s found all j t e =
    elim (nat_lt j (length script.decls)) as (λ b. nat_lt j (length script.decls) ≡ b → IsNotLater found (Some t)) [
      | true ↦ λ q.
          let within : j < length script.decls = ltb-true j (length script.decls) q in
          elim (counted-declared script s j t within e) [
            | inl timer ↦ declared script s found all j t within (counts-timer script s j t timer)
            | inr own ↦ subst (IsNotLater found) own (all.deadlines j within)
          ]
      | false ↦ λ q.
          let behind : length script.decls ≤ j = ltb-false j (length script.decls) q in
          let g : ℕ = j - length script.decls in
          let until : sleeps_until s g ≡ Some t = counts-sleep s g t (counted-slept script s j t behind e) in
          subst (IsNotLater found) until (all.goroutines.sleeps g (sleeps-below s g t until))
    ] refl
  where
    declared : (script : Script) (s : State) (found : Option (ℕ × ℕ)) → IsLeastWith script s (length script.decls) found → (j t : ℕ) → j < length script.decls
        → Counts script s j t → IsNotLater found (Some t)
    declared script s found all j t within c =
        elim (or_cases (is_func script j) (is_awaited script s 0 j) c.counts) [
          | inl named ↦ subst (IsNotLater found) c.due (all.funcs j within named)
          | inr awaited ↦
              let at : Awaiting script s j = awaited-stands script s j awaited in
              subst (IsNotLater found) c.due (all.goroutines.timers at.number j at.instr (stands-below script s at.number at.instr at.stands) at.stands at.passes)
        ]

as-many : (script : Script) (s : State) → IsFormed script s → AsMany script s
as-many script s formed = record { timers = formed.timers; contexts = formed.contexts }

pub found-least : (script : Script) (s : State) (found : Option (ℕ × ℕ)) → IsFormed script s → IsLeastWith script s (length script.decls) found
    → IfSome found (λ x. least (counted script s 0) ≡ Some x.0)
found-least script s None formed all = tt
found-least script s (Some x) formed all = least-counted script s x.0 x.1 (as-many script s formed) all.goroutines.shown (λ j t e. covers script s (Some x) all j t e)

pub found-none : (script : Script) (s : State) (found : Option (ℕ × ℕ)) → IsFormed script s → IsLeastWith script s (length script.decls) found
    → IsNone found ↔ (counted script s 0 ≡ [])
found-none script s None formed all = (λ _. none-counted script s (as-many script s formed) (λ j t e. covers script s None all j t e), λ _. refl)
found-none script s (Some x) formed all = (
  λ none. cc,
  λ empty.
      let is : least (counted script s 0) ≡ Some x.0 = found-least script s (Some x) formed all in
      let off : ◌≡◌ {A = Option ℕ} None (Some x.0) = sym (ap least empty) ∙ is in
      cc,
)
