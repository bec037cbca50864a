-- Who waits at a Cond, and who is signalled there and waits for its mutex.
use Rattle.std.proofs.Common.{◌≡◌, ℕ, zero, suc, ◌+◌, ◌<◌, length, refl, sym, ap, subst, ◌∙◌, arith, Option, None, Some, Bool, true, false, ◌&&◌, ◌||◌, eqb, eqb-true, IsTrue, inl, inr}
use Rattle.std.specs.Option.{option_and_then}
use Rattle.std.proofs.lemmas.Bool.{cases_eq, eq-eqb, ne_eqb}
use Rattle.gt_model.specs.declared.script.Script.{Script}
use Rattle.gt_model.specs.declared.script.Instr.{Instr}
use Rattle.gt_model.specs.declared.script.CaseKind.{CaseKind}
use Rattle.gt_model.specs.declared.script.What.{What}
use Rattle.gt_model.specs.declared.entry.Party.{Party}
use Rattle.gt_model.specs.declared.state.Goroutine.{Goroutine}
use Rattle.gt_model.specs.declared.state.Mode.{Mode}
use Rattle.gt_model.specs.Tables.{change_numbered}
use Rattle.gt_model.specs.Good.{IsGood, NamesRightly}
use Rattle.gt_model.specs.Script.{instr_at, what_at, mutex_of, is_cond, names_timer, names_chan, names_mutex, names_wg, names_cond, can_end, named_form}
use Rattle.gt_model.proofs.Declared.{cond_declared, mutex_declared}
use Rattle.gt_model.proofs.Changes.{length-change_numbered}
use Rattle.gt_model.proofs.Items.{numbered-change_same, numbered-change_other, HasNumber}
use Rattle.gt_rules.specs.State.{State, goroutine_at, mode_of}
use Rattle.gt_rules.specs.After.{in_mode}
use Rattle.gt_rules.specs.Operations.{operation, receives_from, sends_to}
use Rattle.gt_facts.proofs.Formed.{WaitsRightly}
use Rattle.gt_facts.proofs.Lookups.{InMode, in-mode, names-operation, names-instr_at, mode_there}
use Rattle.gt_facts.proofs.Within.{mutex_of-is}
use Rattle.gt_schedule.specs.declared.status.RunStatus.{RunStatus}
use Rattle.gt_schedule.specs.Counts.{as_number, is_party, often}
use Rattle.gt_schedule.specs.Schedule.{Schedule, plainly, status_of, is_parked, parties_at, mutex_at, relocked, IsCondAt, StandsAt, ArePlain}
use Rattle.gt_schedule.proofs.Counting.{Parking, status-parked}
use Rattle.gt_schedule.proofs.Parties.{OthersStay}
use Rattle.gt_schedule.proofs.Signalled.{others-relocked, relocked-cond, relocked-mutex, relocked-elsewhere, relocked-senders_elsewhere, mutex-script}
use Rattle.gt_book.specs.View.{Agrees, Fits, is_parked_at, is_waiting, wants_plainly}
use Rattle.gt_book.proofs.Changing.{party, wants_of, Known, known, has_status, fits-changes, one-is, one-of}
use Rattle.gt_book.proofs.Joining.{WaitsFor, own-party}

-- who waits at a Cond, or for its mutex, waits at what is declared as one
abbrev pub WaitAtConds : Script → State → Type 0
WaitAtConds script s = (g : ℕ) (r : Goroutine) → goroutine_at s g ≡ Some r → WaitsRightly script r.mode

-- what is wanted plainly
wants-plainly : (kind : CaseKind) (n : ℕ) (test : CaseKind → Bool)
    → (elim (wants_plainly kind n) as (λ x. Bool) [ None ↦ false | Some kind ↦ test kind ]) ≡ (eqb 0 n && test kind)
wants-plainly kind zero test = refl
wants-plainly kind (suc n) test = ap (λ b. b && test kind) (sym (ne_eqb 0 (suc n) (λ e. absurd (omega arith))))

pub suspended-waits : (script : Script) (r : Goroutine) (k : ℕ) → WaitsFor script (in_mode (Mode.Suspended k) r) (CaseKind.Recv k)
suspended-waits script r k n test = wants-plainly (CaseKind.Recv k) n test

pub relocking-waits : (script : Script) (r : Goroutine) (k : ℕ) → WaitsFor script (in_mode (Mode.Relocking k) r) (CaseKind.Send (mutex_of script k) 0)
relocking-waits script r k n test = wants-plainly (CaseKind.Send (mutex_of script k) 0) n test

-- and by the mode that a goroutine has
pub in-suspended : (script : Script) (r : Goroutine) (k : ℕ) → r.mode ≡ Mode.Suspended k → WaitsFor script r (CaseKind.Recv k)
in-suspended script r k is = subst (λ (mode : Mode). WaitsFor script (record r { mode = mode }) (CaseKind.Recv k)) (sym is) (suspended-waits script r k)

pub in-relocking : (script : Script) (r : Goroutine) (k : ℕ) → r.mode ≡ Mode.Relocking k → WaitsFor script r (CaseKind.Send (mutex_of script k) 0)
in-relocking script r k is = subst (λ (mode : Mode). WaitsFor script (record r { mode = mode }) (CaseKind.Send (mutex_of script k) 0)) (sym is) (relocking-waits script r k)

-- ---- a Cond and its mutex have their lists

pub cond-at : (script : Script) (s : State) (m : Schedule) (k : ℕ) → IsGood script → Fits script s m → IsTrue (is_cond script k) → IsCondAt m k
cond-at script s m k good fits cond =
    let of : mutex_at m k ≡ mutex_of script k = mutex-script script m k fits.mutexes in
    let many : length m.receivers ≡ length script.decls = fits.receivers in
    let as_many : length m.senders ≡ length script.decls = fits.senders in
    let declared : k < length script.decls = cond_declared script k cond in
    let mutex : mutex_of script k < length script.decls = mutex_declared script (mutex_of script k) (mutex_of-is script k good cond) in
    record { declared = omega arith; mutex_declared = omega arith }

-- ---- a goroutine that waits at a Cond

suspended-parked : (k : ℕ) (mode : Mode) (x : RunStatus) → mode ≡ Mode.Suspended k → Agrees mode x → is_parked (Some x) ≡ true
suspended-parked k (Mode.Suspended j) (RunStatus.Parked since) e h = refl
suspended-parked k (Mode.Suspended j) _ e h = absurd h
suspended-parked k _ x e h = cc

-- what is known of it: it is parked, and waits for its Cond alone
pub record AtCond (script : Script) (s : State) (m : Schedule) (g k : ℕ) : Type 0 where
  pub since : ℕ
  pub parked : status_of m g ≡ Some (RunStatus.Parked since)
  pub its : Known script s m g (RunStatus.Parked since)
  pub mode : its.who.mode ≡ Mode.Suspended k

pub at-cond : (script : Script) (s : State) (m : Schedule) (g k : ℕ) → Fits script s m → mode_of s g ≡ Some (Mode.Suspended k) → AtCond script s m g k
at-cond script s m g k fits waits =
    let a : InMode s g (Mode.Suspended k) = in-mode s g (Mode.Suspended k) waits in
    let x : HasNumber m.statuses g = has_status script s m g a.who fits a.there in
    let parked : is_parked (status_of m g) ≡ true =
    ap is_parked x.there ∙ suspended-parked k a.who.mode x.item a.its (fits.agree g a.who x.item a.there x.there) in
    let was : Parking (status_of m g) = status-parked (status_of m g) parked in
    let its : Known script s m g (RunStatus.Parked was.since) = known script s m g (RunStatus.Parked was.since) fits was.is in
    let there : goroutine_at s g ≡ Some its.who = its.there in
    let there_too : goroutine_at s g ≡ Some a.who = a.there in
    let same : a.who ≡ its.who = cc in
    record { since = was.since; parked = was.is; its = its; mode = subst (λ (r : Goroutine). r.mode ≡ Mode.Suspended k) same a.its }

-- it stands in the list of its Cond, plainly
pub stands-at_cond : (script : Script) (s : State) (m : Schedule) (g k : ℕ) → Fits script s m → mode_of s g ≡ Some (Mode.Suspended k)
    → IsTrue (is_cond script k) → StandsAt m g k
stands-at_cond script s m g k fits waits cond =
    let a : AtCond script s m g k = at-cond script s m g k fits waits in
    let listed : often (plainly g) (parties_at m.receivers k) ≡ as_number (wants_of script (Some a.its.who) 0 (receives_from k)) =
    a.its.one.waiting k 0 (cond_declared script k cond) in
    let one : as_number (wants_of script (Some a.its.who) 0 (receives_from k)) ≡ 1 =
    ap as_number (in-suspended script a.its.who k a.mode 0 (receives_from k) ∙ eq-eqb k k refl) in
    omega arith

-- ---- it is signalled, and waits for the mutex

none-else : (a b : Bool) → b ≡ false → as_number (a && b) ≡ 0
none-else true b e = ap as_number e
none-else false b e = refl

module _ (script : Script) (s : State) (m : Schedule) (g k : ℕ) (good : IsGood script) (fits : Fits script s m) (cond : IsTrue (is_cond script k)) (a : AtCond script s m g k) where
  abbrev after_it : Schedule
  after_it = relocked m g k

  abbrev who : Goroutine
  who = a.its.who

  at : IsCondAt m k
  at = cond-at script s m k good fits cond

  of : mutex_at m k ≡ mutex_of script k
  of = mutex-script script m k fits.mutexes

  -- where it stood, and where it stands
  stood : (u n : ℕ) → u < length script.decls → often (party g n) (parties_at m.receivers u) ≡ as_number (eqb 0 n && eqb k u)
  stood u n within = a.its.one.waiting u n within ∙ ap as_number (in-suspended script who k a.mode n (receives_from u))

  -- nowhere among receivers, and among the senders of the mutex alone
  in-list : (u n : ℕ) → u < length script.decls → often (party g n) (parties_at after_it.receivers u) ≡ 0
  in-list u n within =
      elim (cases_eq u k) [
        | inl e ↦ subst (λ u. often (party g n) (parties_at after_it.receivers u) ≡ 0) (sym e) (relocked-cond m g k (party g n) at refl)
        | inr other ↦
            ap (often (party g n)) (relocked-elsewhere m g k u other)
            ∙ (stood u n within ∙ none-else (eqb 0 n) (eqb k u) (ne_eqb k u (λ e. other (sym e))))
      ]

  sent : (u n : ℕ) → u < length script.decls → often (party g n) (parties_at m.senders u) ≡ 0
  sent u n within = a.its.one.sending u n within ∙ (ap as_number (in-suspended script who k a.mode n (sends_to u)) ∙ none-else (eqb 0 n) false refl)

  in-senders : (u n : ℕ) → u < length script.decls → often (party g n) (parties_at after_it.senders u) ≡ as_number (eqb 0 n && eqb (mutex_of script k) u)
  in-senders u n within =
      elim (cases_eq u (mutex_at m k)) [
        | inl e ↦
            let here : often (party g n) (parties_at m.senders (mutex_at m k)) ≡ 0 = subst (λ u. often (party g n) (parties_at m.senders u) ≡ 0) e (sent u n within) in
            let one : often (party g n) (parties_at after_it.senders (mutex_at m k)) ≡ often (party g n) (parties_at m.senders (mutex_at m k)) + as_number (is_party (plainly g) (party g n)) =
            relocked-mutex m g k (party g n) at in
            let same : as_number (is_party (plainly g) (party g n)) ≡ as_number (eqb 0 n && eqb (mutex_of script k) (mutex_at m k)) =
            ap as_number (own-party g n ∙ sym (both-true (eqb 0 n) (eqb (mutex_of script k) (mutex_at m k)) (eq-eqb (mutex_of script k) (mutex_at m k) (sym of)))) in
            subst (λ u. often (party g n) (parties_at after_it.senders u) ≡ as_number (eqb 0 n && eqb (mutex_of script k) u)) (sym e) (omega arith)
        | inr apart ↦
            ap (often (party g n)) (relocked-senders_elsewhere m g k u apart)
            ∙ (sent u n within ∙ sym (none-else (eqb 0 n) (eqb (mutex_of script k) u) (ne_eqb (mutex_of script k) u (λ e. apart (sym e ∙ sym of)))))
      ]
    where
      both-true : (a b : Bool) → b ≡ true → (a && b) ≡ a
      both-true true b e = e
      both-true false b e = refl

  fits-relocks : Fits script (record s { goroutines = change_numbered s.goroutines g (in_mode (Mode.Relocking k)) }) (relocked m g k)
  fits-relocks =
      let others : OthersStay m after_it g = others-relocked m g k in
      let next : State = record s { goroutines = change_numbered s.goroutines g (in_mode (Mode.Relocking k)) } in
      let x : RunStatus = RunStatus.Parked a.since in
      fits-changes script s next m after_it g fits
      (fits.as_many ∙ sym (length-change_numbered s.goroutines g (in_mode (Mode.Relocking k))))
      refl
      others.receivers_long
      others.senders_long
      (λ y other. numbered-change_other s.goroutines g y (in_mode (Mode.Relocking k)) other)
      others.statuses
      others.run_queue
      others.receivers
      others.senders
      (one-is script after_it g (goroutine_at next g) (Some (in_mode (Mode.Relocking k) who)) (status_of after_it g) (Some x)
      (numbered-change_same s.goroutines g (in_mode (Mode.Relocking k)) who a.its.there)
      a.parked
      (one-of script after_it g (in_mode (Mode.Relocking k) who) x tt a.its.one.queued
      (λ u n h. in-list u n h ∙ sym (ap as_number (relocking-waits script who k n (receives_from u)) ∙ none-else (eqb 0 n) false refl))
      (λ u n h. in-senders u n h ∙ sym (ap as_number (relocking-waits script who k n (sends_to u))))))

-- who is suspended is so at a Cond
pub waits-cond : (script : Script) (s : State) (g k : ℕ) → WaitAtConds script s → mode_of s g ≡ Some (Mode.Suspended k) → IsTrue (is_cond script k)
waits-cond script s g k conds waits =
    let a : InMode s g (Mode.Suspended k) = in-mode s g (Mode.Suspended k) waits in
    (subst (WaitsRightly script) a.its (conds g a.who a.there)).0

pub fits-relocked : (script : Script) (s : State) (m : Schedule) (g k : ℕ) → IsGood script → WaitAtConds script s → Fits script s m
    → mode_of s g ≡ Some (Mode.Suspended k)
    → Fits script (record s { goroutines = change_numbered s.goroutines g (in_mode (Mode.Relocking k)) }) (relocked m g k)
fits-relocked script s m g k good conds fits waits =
    fits-relocks script s m g k good fits (waits-cond script s g k conds waits) (at-cond script s m g k fits waits)

-- ---- who stands in the list of a Cond

-- nobody operates at a Cond, and it is no mutex
no-object : (w : Option What) → IsTrue ((names_timer w || names_chan w || can_end (named_form w)) || (names_mutex w || names_wg w)) → IsTrue (names_cond w) → ⊥
no-object (Some (What.Cond mutex)) h cond = cc
no-object _ h cond = cc

and-parts : (a b : Bool) → (a && b) ≡ true → (a ≡ true) × (b ≡ true)
and-parts true b h = (refl, h)
and-parts false b h = cc

plain-number : (n : ℕ) → eqb 0 n ≡ true → n ≡ 0
plain-number n h = sym (eqb-true 0 n h)

receives-from : (o : ℕ) (kind : CaseKind) → receives_from o kind ≡ true → kind ≡ CaseKind.Recv o
receives-from o (CaseKind.Recv t) h = ap CaseKind.Recv (eqb-true t o h)
receives-from o (CaseKind.Send c v) h = cc

-- what somebody wants of a Cond
pub record WaitsThere (r : Goroutine) (k n : ℕ) : Type 0 where
  pub mode : r.mode ≡ Mode.Suspended k
  pub plain : n ≡ 0

operates-no_cond : (script : Script) (i : Instr) (n k : ℕ) → IsTrue (is_cond script k) → NamesRightly script i
    → (elim (operation i n) as (λ x. Bool) [ None ↦ false | Some kind ↦ receives_from k kind ]) ≡ true → ⊥
operates-no_cond script i n k cond names h =
    elim (operation i n) as (λ o. operation i n ≡ o → (elim o as (λ x. Bool) [ None ↦ false | Some kind ↦ receives_from k kind ]) ≡ true → ⊥) [
      | None ↦ λ e q. cc
      | Some kind ↦ λ e q. no-object (what_at script k) (names-operation script i n (CaseKind.Recv k) (e ∙ ap Some (receives-from k kind q)) names) cond
    ] refl h

pub waits-there : (script : Script) (r : Goroutine) (k n : ℕ) → IsGood script → WaitsRightly script r.mode → IsTrue (is_cond script k)
    → wants_of script (Some r) n (receives_from k) ≡ true
    → WaitsThere r k n
waits-there script r k n good conds cond h =
    elim r.mode as (λ mode. r.mode ≡ mode → WaitsThere r k n) [
      | Mode.At ↦ λ is. absurd (at-instr is (instr_at script r.place) refl)
      | Mode.Sleeping until ↦ λ is. let none : wants_of script (Some (in_mode (Mode.Sleeping until) r)) n (receives_from k) ≡ true = by_mode (Mode.Sleeping until) is in cc
      | Mode.Suspended j ↦ λ is.
          let both : (eqb 0 n ≡ true) × (eqb j k ≡ true) = and-parts (eqb 0 n) (eqb j k) (sym (in-suspended script r j is n (receives_from k)) ∙ h) in
          record { mode = is ∙ ap Mode.Suspended (eqb-true j k both.1); plain = plain-number n both.0 }
      | Mode.Relocking j ↦ λ is.
          let both : (eqb 0 n ≡ true) × (false ≡ true) = and-parts (eqb 0 n) false (sym (in-relocking script r j is n (receives_from k)) ∙ h) in
          let never : false ≡ true = both.1 in
          cc
      | Mode.Ended ↦ λ is. let none : wants_of script (Some (in_mode Mode.Ended r)) n (receives_from k) ≡ true = by_mode Mode.Ended is in cc
    ] refl
  where
    by_mode : (mode : Mode) → r.mode ≡ mode → wants_of script (Some (in_mode mode r)) n (receives_from k) ≡ true
    by_mode mode is = sym (ap (λ (mode : Mode). wants_of script (Some (record r { mode = mode })) n (receives_from k)) is) ∙ h

    at-instr : r.mode ≡ Mode.At → (o : Option Instr) → instr_at script r.place ≡ o → ⊥
    at-instr is None e =
        let none : (elim (option_and_then (λ (i : Instr). operation i n) None) as (λ x. Bool) [ None ↦ false | Some kind ↦ receives_from k kind ]) ≡ true =
        sym (ap (λ o. elim (option_and_then (λ (i : Instr). operation i n) o) as (λ x. Bool) [ None ↦ false | Some kind ↦ receives_from k kind ]) e) ∙ by_mode Mode.At is in
        cc
    at-instr is (Some i) e =
        operates-no_cond script i n k cond (names-instr_at script r.place i good e)
        (sym (ap (λ o. elim (option_and_then (λ (i : Instr). operation i n) o) as (λ x. Bool) [ None ↦ false | Some kind ↦ receives_from k kind ]) e) ∙ by_mode Mode.At is)

-- so who stands in its list is suspended there, and stands there plainly
pub record AtList (s : State) (p : Party) (k : ℕ) : Type 0 where
  pub suspended : mode_of s p.g ≡ Some (Mode.Suspended k)
  pub plain : p.case_no ≡ 0

positive : (b : Bool) → 0 < as_number b → b ≡ true
positive true h = refl
positive false h = absurd (omega arith)

pub at-list : (script : Script) (s : State) (m : Schedule) (p : Party) (k : ℕ) → IsGood script → WaitAtConds script s → Fits script s m
    → IsTrue (is_cond script k)
    → 0 < often p (parties_at m.receivers k) → AtList s p k
at-list script s m p k good conds fits cond some =
    let listed : often p (parties_at m.receivers k) ≡ as_number (is_parked_at script s m p (receives_from k)) =
    fits.waiting k p (cond_declared script k cond) in
    let waits : (is_waiting m p.g ≡ true) × (wants_of script (goroutine_at s p.g) p.case_no (receives_from k) ≡ true) =
    and-parts (is_waiting m p.g) (wants_of script (goroutine_at s p.g) p.case_no (receives_from k))
    (positive (is_parked_at script s m p (receives_from k)) (subst (λ n. 0 < n) listed some)) in
    elim (goroutine_at s p.g) as (λ o. goroutine_at s p.g ≡ o → wants_of script o p.case_no (receives_from k) ≡ true → AtList s p k) [
      | None ↦ λ e h. cc
      | Some r ↦ λ e h.
          let there : WaitsThere r k p.case_no = waits-there script r k p.case_no good (conds p.g r e) cond h in
          record { suspended = mode_there s p.g r (Mode.Suspended k) e there.mode; plain = there.plain }
    ] refl waits.1

pub plain-at_cond : (script : Script) (s : State) (m : Schedule) (k : ℕ) → IsGood script → WaitAtConds script s → Fits script s m → IsTrue (is_cond script k)
    → ArePlain (parties_at m.receivers k)
plain-at_cond script s m k good conds fits cond p some = (at-list script s m p k good conds fits cond some).plain
