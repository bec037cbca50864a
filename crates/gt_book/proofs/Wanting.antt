-- What a party waits for, by its mode: its operation; who is suspended at a Cond a signal of it; who was signalled there the Cond's mutex.
use Rattle.std.proofs.Common.{◌≡◌, ℕ, zero, suc, refl, ap, subst, ◌∙◌, Option, None, Some, Bool, true, false, IsTrue, ◌||◌}
use Rattle.std.proofs.lemmas.Bool.{eqb-true}
use Rattle.std.specs.Option.{option_and_then}
use Rattle.gt_model.specs.declared.script.Script.{Script}
use Rattle.gt_model.specs.declared.script.Instr.{Instr}
use Rattle.gt_model.specs.declared.script.Place.{Place}
use Rattle.gt_model.specs.declared.script.What.{What}
use Rattle.gt_model.specs.declared.script.CaseKind.{CaseKind}
use Rattle.gt_model.specs.declared.entry.Party.{Party}
use Rattle.gt_model.specs.declared.state.Goroutine.{Goroutine}
use Rattle.gt_model.specs.declared.state.Mode.{Mode}
use Rattle.gt_model.specs.Good.{IsGood, gives_values}
use Rattle.gt_model.specs.Script.{is_chan, instr_at, what_at, is_mutex, is_cond, names_timer, names_chan, names_mutex, names_wg, names_cond, mutex_of, can_end, named_form}
use Rattle.gt_rules.specs.State.{State, goroutine_at, mode_of, stands, stands_at}
use Rattle.gt_rules.specs.Operations.{operation, receives_from, sends_to}
use Rattle.gt_rules.specs.Legal.{operation_at}
use Rattle.gt_facts.specs.Formed.{IsFormed}
use Rattle.gt_facts.proofs.Lookups.{Standing, standing, AtOperation, at_operation, NamesObject, names-instr_at, names-operation, InMode, in-mode, mode_there}
use Rattle.gt_facts.proofs.Within.{mutex_of-is, suspended-cond, relocking-cond}
use Rattle.gt_schedule.specs.Schedule.{plainly}
use Rattle.gt_book.specs.View.{is_at, wants_plainly, wanted, wanted_at, wants}

pub data Wanting (script : Script) (s : State) (p : Party) : CaseKind → Type 0 where
  operates : (kind : CaseKind) → operation_at script s p ≡ Some kind → Wanting script s p kind
  suspends : (k : ℕ) → mode_of s p.g ≡ Some (Mode.Suspended k) → p.case_no ≡ 0 → Wanting script s p (CaseKind.Recv k)
  relocks : (k : ℕ) → mode_of s p.g ≡ Some (Mode.Relocking k) → p.case_no ≡ 0 → Wanting script s p (CaseKind.Send (mutex_of script k) 0)

-- what is wanted that is plain
record IsPlain (want : CaseKind) (n : ℕ) (kind : CaseKind) : Type 0 where
  plain : n ≡ 0
  is : want ≡ kind

plainly-is : (want : CaseKind) (n : ℕ) (kind : CaseKind) → wants_plainly want n ≡ Some kind → IsPlain want n kind
plainly-is want zero kind h = record { plain = refl; is = cc }
plainly-is want (suc k) kind h = cc

-- what a goroutine wants in a mode
abbrev wanted_in : Script → ℕ → Place → Mode → Option CaseKind
wanted_in script n place mode = elim mode [
  | Mode.At ↦ option_and_then (λ (i : Instr). operation i n) (instr_at script place)
  | Mode.Sleeping until ↦ None
  | Mode.Suspended k ↦ wants_plainly (CaseKind.Recv k) n
  | Mode.Relocking k ↦ wants_plainly (CaseKind.Send (mutex_of script k) 0) n
  | Mode.Ended ↦ None
]

at-place : (o : Option Instr) (n : ℕ)
    → (elim o as (λ o. Option CaseKind) [ None ↦ None | Some i ↦ operation i n ]) ≡ option_and_then (λ (i : Instr). operation i n) o
at-place None n = refl
at-place (Some i) n = refl

wanting-in : (script : Script) (s : State) (p : Party) (kind : CaseKind) (r : Goroutine) (mode : Mode) → goroutine_at s p.g ≡ Some r → r.mode ≡ mode
    → wanted_in script p.case_no r.place mode ≡ Some kind → Wanting script s p kind
wanting-in script s p kind r Mode.At there is h =
    let stood : stands_at script s p.g ≡ instr_at script r.place =
    ap (λ (o : Option Goroutine). elim o as (λ o. Option Instr) [ None ↦ None | Some r ↦ stands script r ]) there
    ∙ ap (λ (mode : Mode). elim mode as (λ m. Option Instr) [ Mode.At ↦ instr_at script r.place | _ ↦ None ]) is in
    operates kind (ap (λ (o : Option Instr). elim o as (λ o. Option CaseKind) [ None ↦ None | Some i ↦ operation i p.case_no ]) stood ∙ (at-place (instr_at script r.place) p.case_no ∙ h))
wanting-in script s p kind r (Mode.Sleeping until) there is h = cc
wanting-in script s p kind r (Mode.Suspended k) there is h =
    let plain : IsPlain (CaseKind.Recv k) p.case_no kind = plainly-is (CaseKind.Recv k) p.case_no kind h in
    subst (Wanting script s p) plain.is (suspends k (mode_there s p.g r (Mode.Suspended k) there is) plain.plain)
wanting-in script s p kind r (Mode.Relocking k) there is h =
    let plain : IsPlain (CaseKind.Send (mutex_of script k) 0) p.case_no kind = plainly-is (CaseKind.Send (mutex_of script k) 0) p.case_no kind h in
    subst (Wanting script s p) plain.is (relocks k (mode_there s p.g r (Mode.Relocking k) there is) plain.plain)
wanting-in script s p kind r Mode.Ended there is h = cc

pub wanting : (script : Script) (s : State) (p : Party) (kind : CaseKind) → wanted_at script s p ≡ Some kind → Wanting script s p kind
wanting script s p kind h =
    elim (goroutine_at s p.g) as (λ o. goroutine_at s p.g ≡ o → option_and_then (wanted script p.case_no) o ≡ Some kind → Wanting script s p kind) [
      | None ↦ λ e k. cc
      | Some r ↦ λ e k. wanting-in script s p kind r r.mode e refl k
    ] refl h

-- who stands at an operation waits for it
pub operates-wanted : (script : Script) (s : State) (p : Party) (kind : CaseKind) → operation_at script s p ≡ Some kind → wanted_at script s p ≡ Some kind
operates-wanted script s p kind h =
    let at : AtOperation script s p kind = at_operation script s p kind h in
    let st : Standing script s p.g at.instr = standing script s p.g at.instr at.stands in
    ap (option_and_then (wanted script p.case_no)) st.there
    ∙ (ap (wanted_in script p.case_no st.who.place) st.at
    ∙ (ap (option_and_then (λ (i : Instr). operation i p.case_no)) st.on ∙ at.has))

-- who is suspended at a Cond waits there plainly
pub suspended-wanted : (script : Script) (s : State) (g k : ℕ) → mode_of s g ≡ Some (Mode.Suspended k) → wanted_at script s (plainly g) ≡ Some (CaseKind.Recv k)
suspended-wanted script s g k h =
    let a : InMode s g (Mode.Suspended k) = in-mode s g (Mode.Suspended k) h in
    ap (option_and_then (wanted script 0)) a.there ∙ ap (wanted_in script 0 a.who.place) a.its

-- who was signalled there for its mutex, among those that send
pub relocking-wanted : (script : Script) (s : State) (g k : ℕ) → mode_of s g ≡ Some (Mode.Relocking k) → wanted_at script s (plainly g) ≡ Some (CaseKind.Send (mutex_of script k) 0)
relocking-wanted script s g k h =
    let a : InMode s g (Mode.Relocking k) = in-mode s g (Mode.Relocking k) h in
    ap (option_and_then (wanted script 0)) a.there ∙ ap (wanted_in script 0 a.who.place) a.its

-- what is wanted that passes a test
pub record Wanted (script : Script) (s : State) (p : Party) (test : CaseKind → Bool) : Type 0 where
  pub kind : CaseKind
  pub there : wanted_at script s p ≡ Some kind
  pub passes : test kind ≡ true

pub wants-some : (script : Script) (s : State) (p : Party) (test : CaseKind → Bool) → wants script s p test ≡ true → Wanted script s p test
wants-some script s p test h =
    elim (wanted_at script s p) as (λ o. wanted_at script s p ≡ o → (elim o as (λ o. Bool) [ None ↦ false | Some kind ↦ test kind ]) ≡ true → Wanted script s p test) [
      | None ↦ λ e k. cc
      | Some kind ↦ λ e k. record { kind = kind; there = e; passes = k }
    ] refl h

-- the test of what is wanted, and of the operation
pub wanted-passes : (script : Script) (s : State) (p : Party) (test : CaseKind → Bool) (kind : CaseKind) → wanted_at script s p ≡ Some kind
    → test kind ≡ true → wants script s p test ≡ true
wanted-passes script s p test kind e h = ap (λ (o : Option CaseKind). elim o as (λ o. Bool) [ None ↦ false | Some kind ↦ test kind ]) e ∙ h

at-passes : (script : Script) (s : State) (p : Party) (test : CaseKind → Bool) (kind : CaseKind) → operation_at script s p ≡ Some kind → test kind ≡ true
    → is_at script s p test ≡ true
at-passes script s p test kind e h = ap (λ (o : Option CaseKind). elim o as (λ o. Bool) [ None ↦ false | Some kind ↦ test kind ]) e ∙ h

-- ---- who waits at a channel or a timer stands at its operation

no-chan_mutex : (w : Option What) → IsTrue (names_chan w) → IsTrue (names_mutex w) → ⊥
no-chan_mutex (Some What.Mutex) h mutex = cc
no-chan_mutex _ h mutex = cc

sends-at : (script : Script) (s : State) (p : Party) (c : ℕ) (kind : CaseKind) → IsGood script → IsFormed script s → IsTrue (is_chan script c) → Wanting script s p kind
    → sends_to c kind ≡ true → is_at script s p (sends_to c) ≡ true
sends-at script s p c kind good formed chan (operates _ e) h = at-passes script s p (sends_to c) kind e h
sends-at script s p c kind good formed chan (suspends k e plain) h = cc
sends-at script s p c kind good formed chan (relocks k e plain) h =
    absurd (no-chan_mutex (what_at script c) chan
    (subst (λ m. IsTrue (is_mutex script m)) (eqb-true (mutex_of script k) c h) (mutex_of-is script k good (relocking-cond script s p.g k formed e))))

pub wants-sends : (script : Script) (s : State) (p : Party) (c : ℕ) → IsGood script → IsFormed script s → IsTrue (is_chan script c) → wants script s p (sends_to c) ≡ true
    → is_at script s p (sends_to c) ≡ true
wants-sends script s p c good formed chan h =
    let w : Wanted script s p (sends_to c) = wants-some script s p (sends_to c) h in
    sends-at script s p c w.kind good formed chan (wanting script s p w.kind w.there) w.passes

no-value_cond : (w : Option What) → IsTrue (names_timer w || names_chan w || can_end (named_form w)) → IsTrue (names_cond w) → ⊥
no-value_cond (Some (What.Cond mutex)) h cond = cc
no-value_cond _ h cond = cc

no-operation_cond : (w : Option What) → IsTrue ((names_timer w || names_chan w || can_end (named_form w)) || (names_mutex w || names_wg w)) → IsTrue (names_cond w) → ⊥
no-operation_cond (Some (What.Cond mutex)) h cond = cc
no-operation_cond _ h cond = cc

receives-at : (script : Script) (s : State) (p : Party) (o : ℕ) (kind : CaseKind) → IsGood script → IsFormed script s → IsTrue (gives_values script o)
    → Wanting script s p kind
    → receives_from o kind ≡ true → is_at script s p (receives_from o) ≡ true
receives-at script s p o kind good formed gives (operates _ e) h = at-passes script s p (receives_from o) kind e h
receives-at script s p o kind good formed gives (suspends k e plain) h =
    absurd (no-value_cond (what_at script o) gives (subst (λ k. IsTrue (is_cond script k)) (eqb-true k o h) (suspended-cond script s p.g k formed e)))
receives-at script s p o kind good formed gives (relocks k e plain) h = cc

pub wants-receives : (script : Script) (s : State) (p : Party) (o : ℕ) → IsGood script → IsFormed script s → IsTrue (gives_values script o)
    → wants script s p (receives_from o) ≡ true
    → is_at script s p (receives_from o) ≡ true
wants-receives script s p o good formed gives h =
    let w : Wanted script s p (receives_from o) = wants-some script s p (receives_from o) h in
    receives-at script s p o w.kind good formed gives (wanting script s p w.kind w.there) w.passes

-- ---- who waits at a Cond is suspended there

pub receives-kind : (kind : CaseKind) (o : ℕ) → receives_from o kind ≡ true → kind ≡ CaseKind.Recv o
receives-kind (CaseKind.Recv p) o h = ap CaseKind.Recv (eqb-true p o h)
receives-kind (CaseKind.Send c v) o h = cc

-- what somebody operates at is declared for it
pub operates-named : (script : Script) (s : State) (p : Party) (kind : CaseKind) → IsGood script → operation_at script s p ≡ Some kind → NamesObject script kind
operates-named script s p kind good e =
    let at : AtOperation script s p kind = at_operation script s p kind e in
    let st : Standing script s p.g at.instr = standing script s p.g at.instr at.stands in
    names-operation script at.instr p.case_no kind at.has (names-instr_at script st.who.place at.instr good st.on)

-- nobody operates at a Cond
operates-nowhere : (script : Script) (s : State) (p : Party) (k : ℕ) → IsGood script → IsTrue (is_cond script k)
    → operation_at script s p ≡ Some (CaseKind.Recv k) → ⊥
operates-nowhere script s p k good cond e =
    no-operation_cond (what_at script k) (operates-named script s p (CaseKind.Recv k) good e) cond

suspends-at : (script : Script) (s : State) (p : Party) (k : ℕ) (kind : CaseKind) → IsGood script → IsFormed script s → IsTrue (is_cond script k)
    → Wanting script s p kind
    → receives_from k kind ≡ true → mode_of s p.g ≡ Some (Mode.Suspended k)
suspends-at script s p k kind good formed cond (operates _ e) h = absurd (operates-nowhere script s p k good cond (e ∙ ap Some (receives-kind kind k h)))
suspends-at script s p k kind good formed cond (suspends j e plain) h = e ∙ ap (λ k. Some (Mode.Suspended k)) (eqb-true j k h)
suspends-at script s p k kind good formed cond (relocks j e plain) h = cc

pub wants-suspended : (script : Script) (s : State) (p : Party) (k : ℕ) → IsGood script → IsFormed script s → IsTrue (is_cond script k)
    → wants script s p (receives_from k) ≡ true
    → mode_of s p.g ≡ Some (Mode.Suspended k)
wants-suspended script s p k good formed cond h =
    let w : Wanted script s p (receives_from k) = wants-some script s p (receives_from k) h in
    suspends-at script s p k w.kind good formed cond (wanting script s p w.kind w.there) w.passes
