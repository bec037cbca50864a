-- A change by an entry leaves nobody parked who is firmly ready, but at the object that it changes.
use Rattle.std.proofs.Common.{◌≡◌, ◌≢◌, ℕ, zero, suc, ◌+◌, ◌<◌, List, [], ◌∷◌, ◌++◌, length, slice_get, eqb, ◌==◌, refl, sym, ap, subst, ◌∙◌, arith, Option, None, Some, Bool, true, false, not, ◌&&◌, is_some, IsTrue, inl, inr, IfSome, cond, option_map, map}
use Rattle.std.specs.List.{list_all, enumerate_from}
use Rattle.std.proofs.lemmas.Bool.{cases_eq, eq-eqb, eqb-true, and_parts, and_from}
use Rattle.std.proofs.Math.ListN.{length-append}
use Rattle.gt_model.specs.declared.script.Script.{Script}
use Rattle.gt_model.specs.declared.script.Instr.{Instr}
use Rattle.gt_model.specs.declared.script.CaseKind.{CaseKind}
use Rattle.gt_model.specs.declared.script.Case.{Case}
use Rattle.gt_model.specs.declared.entry.Entry.{Entry}
use Rattle.gt_model.specs.declared.state.Goroutine.{Goroutine}
use Rattle.gt_model.specs.declared.state.Mode.{Mode}
use Rattle.gt_model.specs.Good.{IsGood}
use Rattle.gt_model.specs.Script.{is_chan, capacity_of, mutex_of}
use Rattle.gt_model.specs.Tables.{numbered, change_numbered}
use Rattle.gt_model.proofs.Items.{numbered-change_same, numbered-change_other, numbered-push_same, numbered-push_other, HasNumber, has_number}
use Rattle.gt_rules.specs.State.{State, goroutine_at, stands_at, mode_of, is_locked, is_suspended}
use Rattle.gt_rules.specs.Operations.{operation, offers, receives_from, sends_to}
use Rattle.gt_rules.specs.After.{after, changed, moved, in_mode, with_mover, with_starts, started_by, signalled, with_signalled}
use Rattle.gt_rules.specs.Change.{Change, change_of}
use Rattle.gt_rules.specs.Legal.{May, Does}
use Rattle.gt_rules.specs.Panics.{fault, choice_fault}
use Rattle.gt_rules.specs.Ready.{is_firm, is_ready_case, is_ready_alone, has_partner, partner_waits, no_timer, everyone}
use Rattle.gt_rules.specs.declared.change.Move.{Move}
use Rattle.gt_rules.specs.declared.change.Start.{Start}
use Rattle.gt_facts.specs.Quiet.{none_firm}
use Rattle.gt_facts.proofs.Lookups.{Standing, standing, AtOperation, at_operation, SendsTo, sends-send, ReceivesFrom, receives-recv, offers-operation, names-Does, names-operation, InMode, in-mode}
use Rattle.gt_facts.proofs.Partners.{Partner, partner, partner-waits}
use Rattle.gt_schedule.specs.declared.status.RunStatus.{RunStatus}
use Rattle.gt_schedule.specs.Schedule.{Schedule, plainly, at_case, status_of, is_parked, taken, parked, parked_at, parked_cases, with_new, gone_on, turned, moved_by, begun_by, rescheduled, scheduled, MayMove, ServedBy, ServedIn, Served, parties_at, all_relocked, signalled_by}
use Rattle.gt_schedule.proofs.Counting.{Parking, status-parked}
use Rattle.gt_schedule.proofs.Parties.{parked_at-status_other}
use Rattle.gt_schedule.proofs.Moving.{as_many-moved}
use Rattle.gt_schedule.proofs.Relocked.{each-statuses}
use Rattle.gt_schedule.proofs.Cases.{cases-statuses}
use Rattle.gt_facts.proofs.Formed.{length-mover}
use Rattle.gt_facts.proofs.Suspended.{length-signalled}
use Rattle.gt_facts.specs.Formed.{IsFormed}
use Rattle.gt_book.specs.View.{Agrees, is_waiting, is_firm_at, Fits}
use Rattle.gt_book.specs.Calm.{IsCalm, IsCalmBut}
use Rattle.gt_book.specs.Woken.{signalled_for, changed_object}
use Rattle.gt_book.proofs.Fitting.{unchanged, Waiter}
use Rattle.gt_book.proofs.Firm.{WasThere, waited, sleeps, suspends, relocks, AllWere, firm_of, firm_on, stood, firm-stood, stood-firm, firm-locked, stands-relocks, firm-fault, IsQuiet, firm-each, firm-waits, firm-made, quiet-firm, waits-polls, any-none, never-both, both-false, unless-true, no-reason, calm-standing, nowhere, calm-nowhere, calm_but-next, calm-next}
use Rattle.gt_book.proofs.Stays.{alters, alters-one, alters-none, signals-none, signals-one, signals-all, altered-declared, stays-May, stays-wider, stays-same}
use Rattle.gt_machine.specs.Machine.{is_cut}

-- ---- who is parked after a move

-- all that are parked have a property that their goroutines have by their numbers
abbrev EachParked : (ℕ → Option Goroutine → Type 0) → Schedule → List Goroutine → Type 0
EachParked Q m gs = (g : ℕ) → is_parked (status_of m g) ≡ true → Q g (numbered gs g)

-- who takes another status is not parked
unparked-now : (o : Option RunStatus) (x : RunStatus) → o ≡ Some x → is_parked (Some x) ≡ false → is_parked o ≡ true → ⊥
unparked-now o x e free waiting = let same : is_parked o ≡ is_parked (Some x) = ap is_parked e in cc

each-other : (Q : ℕ → Option Goroutine → Type 0) (m n : Schedule) (gs : List Goroutine) (g : ℕ) (x : RunStatus) (f : Goroutine → Goroutine) (was : RunStatus)
    → EachParked Q m gs → status_of m g ≡ Some was → n.statuses ≡ change_numbered m.statuses g (λ _. x) → is_parked (Some x) ≡ false
    → EachParked Q n (change_numbered gs g f)
each-other Q m n gs g x f was each e statuses free h waiting =
    elim (cases_eq h g) [
      | inl is ↦
          let now : status_of n h ≡ Some x = ap (λ (ss : List RunStatus). numbered ss h) statuses ∙ (ap (numbered (change_numbered m.statuses g (λ _. x))) is ∙ numbered-change_same m.statuses g (λ _. x) was e) in
          absurd (unparked-now (status_of n h) x now free waiting)
      | inr other ↦
          let before : status_of n h ≡ status_of m h = ap (λ (ss : List RunStatus). numbered ss h) statuses ∙ numbered-change_other m.statuses g h (λ _. x) other in
          subst (Q h) (sym (numbered-change_other gs g h f other)) (each h (sym (ap is_parked before) ∙ waiting))
    ]

each-in_hand : (Q : ℕ → Option Goroutine → Type 0) (m : Schedule) (gs : List Goroutine) (g : ℕ) (f : Goroutine → Goroutine) → EachParked Q m gs → is_parked (status_of m g) ≡ false
    → EachParked Q m (change_numbered gs g f)
each-in_hand Q m gs g f each free h waiting =
    elim (cases_eq h g) [
      | inl is ↦ (let both : is_parked (status_of m h) ≡ is_parked (status_of m g) = ap (λ g. is_parked (status_of m g)) is in absurd (cc))
      | inr other ↦ subst (Q h) (sym (numbered-change_other gs g h f other)) (each h waiting)
    ]

each-gone_on : (Q : ℕ → Option Goroutine → Type 0) (m : Schedule) (gs : List Goroutine) (g : ℕ) (f : Goroutine → Goroutine) (waits : Bool) → is_parked (status_of m g) ≡ waits → EachParked Q m gs
    → EachParked Q (gone_on m g waits) (change_numbered gs g f)
each-gone_on Q m gs g f true e each =
    let was : Parking (status_of m g) = status-parked (status_of m g) e in
    each-other Q m (gone_on m g true) gs g RunStatus.Queued f (RunStatus.Parked was.since) each was.is refl refl
each-gone_on Q m gs g f false e each = each-in_hand Q m gs g f each e

-- where who falls asleep has it
each-parked : (Q : ℕ → Option Goroutine → Type 0) (m n : Schedule) (gs : List Goroutine) (g : ℕ) (x : RunStatus) (f : Goroutine → Goroutine) (who : Goroutine)
    → EachParked Q m gs → n.statuses ≡ change_numbered m.statuses g (λ _. x) → numbered gs g ≡ Some who → Q g (Some (f who)) → EachParked Q n (change_numbered gs g f)
each-parked Q m n gs g x f who each statuses there own h waiting =
    elim (cases_eq h g) [
      | inl is ↦ subst (λ h. Q h (numbered (change_numbered gs g f) h)) (sym is) (subst (Q g) (sym (numbered-change_same gs g f who there)) own)
      | inr other ↦
          let before : status_of n h ≡ status_of m h = ap (λ (ss : List RunStatus). numbered ss h) statuses ∙ numbered-change_other m.statuses g h (λ _. x) other in
          subst (Q h) (sym (numbered-change_other gs g h f other)) (each h (sym (ap is_parked before) ∙ waiting))
    ]

-- nobody's status changes, and who is parked has it after
each-stays : (Q : ℕ → Option Goroutine → Type 0) (m n : Schedule) (gs : List Goroutine) (g : ℕ) (f : Goroutine → Goroutine) (who : Goroutine)
    → EachParked Q m gs → n.statuses ≡ m.statuses → numbered gs g ≡ Some who → Q g (Some (f who)) → EachParked Q n (change_numbered gs g f)
each-stays Q m n gs g f who each statuses there own h waiting =
    elim (cases_eq h g) [
      | inl is ↦ subst (λ h. Q h (numbered (change_numbered gs g f) h)) (sym is) (subst (Q g) (sym (numbered-change_same gs g f who there)) own)
      | inr other ↦
          subst (Q h) (sym (numbered-change_other gs g h f other))
          (each h (sym (ap is_parked (ap (λ (ss : List RunStatus). numbered ss h) statuses)) ∙ waiting))
    ]

-- whoever comes to wait by a move has it
abbrev RestsBy : (ℕ → Option Goroutine → Type 0) → Move → Type 0
RestsBy Q (Move.GoesOn case_no) = Unit {0}
RestsBy Q (Move.FallsAsleep until) = (h : ℕ) (r : Goroutine) → Q h (Some (in_mode (Mode.Sleeping until) r))
RestsBy Q (Move.Suspends k) = (h : ℕ) (r : Goroutine) → Q h (Some (in_mode (Mode.Suspended k) r))
RestsBy Q (Move.Relocks k) = (h : ℕ) (r : Goroutine) → Q h (Some (in_mode (Mode.Relocking k) r))
RestsBy Q Move.Ends = Unit {0}
RestsBy Q Move.Panics = Unit {0}

each-turned : (Q : ℕ → Option Goroutine → Type 0) (script : Script) (m : Schedule) (gs : List Goroutine) (g : ℕ) (move : Move) → length m.statuses ≡ length gs → MayMove (status_of m g) move
    → RestsBy Q move → EachParked Q m gs → EachParked Q (turned m g move) (change_numbered gs g (moved script move))
each-turned Q script m gs g (Move.GoesOn n) as_many may rests each = each-gone_on Q m gs g (moved script (Move.GoesOn n)) (is_parked (status_of m g)) refl each
each-turned Q script m gs g (Move.FallsAsleep until) as_many may rests each =
    let x : HasNumber gs g = has_number m.statuses gs g RunStatus.InHand as_many may in
    each-parked Q m (turned m g (Move.FallsAsleep until)) gs g (RunStatus.Parked m.parks) (moved script (Move.FallsAsleep until)) x.item each refl x.there (rests g x.item)
each-turned Q script m gs g (Move.Suspends k) as_many may rests each =
    let x : HasNumber gs g = has_number m.statuses gs g RunStatus.InHand as_many may in
    each-parked Q m (turned m g (Move.Suspends k)) gs g (RunStatus.Parked m.parks) (moved script (Move.Suspends k)) x.item each refl x.there (rests g x.item)
each-turned Q script m gs g (Move.Relocks k) as_many may rests each =
    let was : Parking (status_of m g) = status-parked (status_of m g) may in
    let x : HasNumber gs g = has_number m.statuses gs g (RunStatus.Parked was.since) as_many was.is in
    each-stays Q m (turned m g (Move.Relocks k)) gs g (moved script (Move.Relocks k)) x.item each refl x.there (rests g x.item)
each-turned Q script m gs g Move.Ends as_many may rests each = each-other Q m (turned m g Move.Ends) gs g RunStatus.Ended (moved script Move.Ends) RunStatus.InHand each may refl refl
each-turned Q script m gs g Move.Panics as_many may rests each = λ h waiting. subst (λ gs. Q h (numbered gs h)) (sym (unchanged gs g)) (each h waiting)

each-moved : (Q : ℕ → Option Goroutine → Type 0) (script : Script) (m : Schedule) (gs : List Goroutine) (o : Option (ℕ × Move)) → length m.statuses ≡ length gs → ServedBy m o
    → IfSome o (λ x. RestsBy Q x.1) → EachParked Q m gs → EachParked Q (moved_by m o) (with_mover script gs o)
each-moved Q script m gs None as_many served rests each = each
each-moved Q script m gs (Some x) as_many served rests each = each-turned Q script m gs x.0 x.1 as_many served rests each

-- one of whom it is known whether it waits at a Cond
signals-one_of : (P : Option Goroutine → Type 0) (k : ℕ) (r : Goroutine) (waits : Bool) → ((r : Goroutine) → P (Some (in_mode (Mode.Relocking k) r))) → P (Some r)
    → P (Some (cond waits (in_mode (Mode.Relocking k) r) r))
signals-one_of P k r true rests has = rests r
signals-one_of P k r false rests has = has

signals-of : (P : Option Goroutine → Type 0) (k : ℕ) (o : Option Goroutine) → ((r : Goroutine) → P (Some (in_mode (Mode.Relocking k) r))) → P o → P (option_map (signalled k) o)
signals-of P k None rests has = has
signals-of P k (Some r) rests has = signals-one_of P k r (is_suspended k r) rests has

numbered-map : (gs : List Goroutine) (f : Goroutine → Goroutine) (h : ℕ) → numbered (map f gs) h ≡ option_map f (numbered gs h)
numbered-map gs f zero = refl
numbered-map gs f (suc i) = at gs f i
  where
    at : (gs : List Goroutine) (f : Goroutine → Goroutine) (i : ℕ) → slice_get (map f gs) i ≡ option_map f (slice_get gs i)
    at [] f i = refl
    at (r ∷ rs) f zero = refl
    at (r ∷ rs) f (suc i) = at rs f i

-- and who is signalled by a broadcast
each-signalled : (Q : ℕ → Option Goroutine → Type 0) (m : Schedule) (gs : List Goroutine) (o : Option ℕ)
    → IfSome o (λ k. (h : ℕ) (r : Goroutine) → Q h (Some (in_mode (Mode.Relocking k) r))) → EachParked Q m gs → EachParked Q (signalled_by m o) (with_signalled gs o)
each-signalled Q m gs None rests each = each
each-signalled Q m gs (Some k) rests each = λ h waiting.
    let same : status_of (all_relocked m k) h ≡ status_of m h = ap (λ (ss : List RunStatus). numbered ss h) (each-statuses m k (parties_at m.receivers k)) in
    subst (Q h) (sym (numbered-map gs (signalled k) h)) (signals-of (Q h) k (numbered gs h) (rests h) (each h (sym (ap is_parked same) ∙ waiting)))

as_many-signalled : (m : Schedule) (gs : List Goroutine) (o : Option ℕ) → length m.statuses ≡ length gs → length (signalled_by m o).statuses ≡ length (with_signalled gs o)
as_many-signalled m gs None as_many = as_many
as_many-signalled m gs (Some k) as_many = ap length (each-statuses m k (parties_at m.receivers k)) ∙ (as_many ∙ sym (length-signalled gs (Some k)))

-- who begins is not parked
each-begun : (Q : ℕ → Option Goroutine → Type 0) (script : Script) (s : State) (m : Schedule) (gs : List Goroutine) (starts : List Start) → length m.statuses ≡ length gs → EachParked Q m gs
    → EachParked Q (begun_by m starts) (with_starts script s gs starts)
each-begun Q script s m gs [] as_many each = each
each-begun Q script s m gs (x ∷ xs) as_many each =
    each-begun Q script s (with_new m) (gs ++ started_by script s x ∷ []) xs
    (length-append m.statuses (RunStatus.Queued ∷ []) ∙ (ap (λ n. n + 1) as_many ∙ sym (length-append gs (started_by script s x ∷ []))))
    (λ h waiting. elim (cases_eq h (length m.statuses + 1)) [
      | inl is ↦ absurd (unparked-now (status_of (with_new m) h) RunStatus.Queued (numbered-push_same m.statuses RunStatus.Queued h is) refl waiting)
      | inr other ↦
          subst (Q h) (sym (numbered-push_other gs (started_by script s x) h (λ e. other (e ∙ ap (λ n. n + 1) (sym as_many)))))
          (each h (sym (ap is_parked (numbered-push_other m.statuses RunStatus.Queued h other)) ∙ waiting))
    ])

-- ---- every change

-- who is signalled by a change waits for one of some objects
pub record Signalled (script : Script) (y : ℕ → Bool) (c : Change) : Type 0 where
  pub mover : IfSome (signalled_for script c.mover) (λ o. y o ≡ true)
  pub partner : IfSome (signalled_for script c.partner) (λ o. y o ≡ true)
  pub broadcast : IfSome c.broadcast (λ k. y (mutex_of script k) ≡ true)

rests-in : (script : Script) (s : State) (m : Schedule) (y : ℕ → Bool) (g : ℕ) (move : Move) → IfSome (signalled_for script (Some (g, move))) (λ o. y o ≡ true) → RestsBy (WasThere script s m y) move
rests-in script s m y g (Move.GoesOn case_no) here = tt
rests-in script s m y g (Move.FallsAsleep until) here = λ h r. sleeps until r
rests-in script s m y g (Move.Suspends k) here = λ h r. suspends k r
rests-in script s m y g (Move.Relocks k) here = λ h r. relocks k r here
rests-in script s m y g Move.Ends here = tt
rests-in script s m y g Move.Panics here = tt

rests-by : (script : Script) (s : State) (m : Schedule) (y : ℕ → Bool) (o : Option (ℕ × Move)) → IfSome (signalled_for script o) (λ o. y o ≡ true)
    → IfSome o (λ x. RestsBy (WasThere script s m y) x.1)
rests-by script s m y None here = tt
rests-by script s m y (Some x) here = rests-in script s m y x.0 x.1 here

rests-all : (script : Script) (s : State) (m : Schedule) (y : ℕ → Bool) (o : Option ℕ) → IfSome o (λ k. y (mutex_of script k) ≡ true)
    → IfSome o (λ k. (h : ℕ) (r : Goroutine) → WasThere script s m y h (Some (in_mode (Mode.Relocking k) r)))
rests-all script s m y None here = tt
rests-all script s m y (Some k) here = λ h r. relocks k r here

pub were-changed : (script : Script) (s : State) (m : Schedule) (y : ℕ → Bool) (c : Change) → Fits script s m → ServedIn m c → Signalled script y c
    → AllWere script s m y (changed script s c) (rescheduled m c)
were-changed script s m y c fits served signals =
    let mid : Schedule = moved_by m c.mover in
    let both : Schedule = moved_by mid c.partner in
    let movers : List Goroutine = with_mover script s.goroutines c.mover in
    let partners : List Goroutine = with_mover script movers c.partner in
    let mid_many : length mid.statuses ≡ length movers = as_many-moved m c.mover ∙ (fits.as_many ∙ sym (length-mover script s.goroutines c.mover)) in
    let both_many : length both.statuses ≡ length partners = as_many-moved mid c.partner ∙ (mid_many ∙ sym (length-mover script movers c.partner)) in
    each-begun (WasThere script s m y) script s (signalled_by both c.broadcast) (with_signalled partners c.broadcast) c.starts (as_many-signalled both partners c.broadcast both_many)
    (each-signalled (WasThere script s m y) both partners c.broadcast (rests-all script s m y c.broadcast signals.broadcast)
    (each-moved (WasThere script s m y) script mid movers c.partner mid_many served.1 (rests-by script s m y c.partner signals.partner)
    (each-moved (WasThere script s m y) script m s.goroutines c.mover fits.as_many served.0 (rests-by script s m y c.mover signals.mover) (λ g waiting. waited waiting (goroutine_at s g) refl))))

-- an entry signals nobody but at the object that it changes
none-signalled : (script : Script) (y : ℕ → Bool) (o : Option ℕ) → o ≡ None → IfSome o (λ d. y d ≡ true)
none-signalled script y None is = tt
none-signalled script y (Some d) is = cc

if_some-next : (P R : ℕ → Type 0) (o : Option ℕ) → ((d : ℕ) → P d → R d) → IfSome o P → IfSome o R
if_some-next P R None next h = tt
if_some-next P R (Some d) next h = next d h

signalled-entry : (script : Script) (e : Entry) (o : Option ℕ) (y : ℕ → Bool) → changed_object script (change_of e) ≡ o → ((d : ℕ) → o ≡ Some d → y d ≡ true)
    → Signalled script y (change_of e)
signalled-entry script e o y is here = record {
  mover = none-signalled script y (signalled_for script (change_of e).mover) (signals-none script e);
  partner = if_some-next (λ d. o ≡ Some d) (λ d. y d ≡ true) (signalled_for script (change_of e).partner) here (signals-one script e o is);
  broadcast = if_some-next (λ k. o ≡ Some (mutex_of script k)) (λ k. y (mutex_of script k) ≡ true) (change_of e).broadcast (λ k. here (mutex_of script k)) (signals-all script e o is);
}

-- an entry that changes no object leaves nobody firmly ready
pub calm-entered : (script : Script) (s : State) (m : Schedule) (e : Entry) → IsGood script → May script s e → Fits script s m → Served m e → changed_object script (change_of e) ≡ None
    → is_cut (change_of e).tree ≡ false → IsCalm script s m → IsCalm script (after script s e) (scheduled m e)
calm-entered script s m e good may fits served none uncut calm =
    calm-next script s (after script s e) m (scheduled m e)
    (stays-wider s (after script s e) (alters script (change_of e)) nowhere (λ o h. alters-none script e none uncut o) (stays-May script s e good may))
    (were-changed script s m nowhere (change_of e) fits served (signalled-entry script e None nowhere none (λ d is. cc))) calm

-- one that changes an object leaves none but there
pub calm-but : (script : Script) (s : State) (m : Schedule) (e : Entry) (c : ℕ) → IsGood script → IsFormed script s → May script s e → Fits script s m → Served m e
    → changed_object script (change_of e) ≡ Some c → IsCalm script s m → IsCalmBut script (after script s e) (scheduled m e) (λ o. eqb o c)
calm-but script s m e c good formed may fits served is calm =
    calm_but-next script s (after script s e) m (scheduled m e) nowhere (λ o. eqb o c)
    (stays-wider s (after script s e) (alters script (change_of e)) (λ o. eqb o c) (alters-one script e c is) (stays-May script s e good may))
    (were-changed script s m (λ o. eqb o c) (change_of e) fits served
    (signalled-entry script e (Some c) (λ o. eqb o c) is (λ d same. let at : c ≡ d = cc in eq-eqb d c (sym at)))) (λ o h. refl) (calm-nowhere script s m calm)
    (λ d h. subst (λ d. d < length script.decls) (sym (eqb-true d c h)) (altered-declared script s e c good formed may is))

-- one that changes one of these objects, or none, and signals nobody, leaves none but there
pub calm_but-again : (script : Script) (s : State) (m : Schedule) (e : Entry) (these : ℕ → Bool) → IsGood script → May script s e → Fits script s m → Served m e
    → ((o : ℕ) → these o ≡ false → alters script (change_of e) o ≡ false) → (change_of e).partner ≡ None → (change_of e).broadcast ≡ None → IsCalmBut script s m these
    → IsCalmBut script (after script s e) (scheduled m e) these
calm_but-again script s m e these good may fits served here alone quiet but =
    calm_but-next script s (after script s e) m (scheduled m e) these these
    (stays-wider s (after script s e) (alters script (change_of e)) these here (stays-May script s e good may))
    (were-changed script s m these (change_of e) fits served (record {
      mover = none-signalled script these (signalled_for script (change_of e).mover) (signals-none script e);
      partner = none-signalled script these (signalled_for script (change_of e).partner) (ap (signalled_for script) alone);
      broadcast = subst (λ o. IfSome o (λ k. these (mutex_of script k) ≡ true)) (sym quiet) tt;
    })) (λ o h. h) but but.declared

-- ---- changes of the schedule alone

-- where nobody comes to be parked
pub calm-scheduled : (script : Script) (s : State) (m n : Schedule) → ((g : ℕ) → is_waiting n g ≡ true → is_waiting m g ≡ true) → IsCalm script s m → IsCalm script s n
calm-scheduled script s m n less calm = calm-next script s s m n (stays-same s nowhere) (λ g waits. waited (less g waits) (goroutine_at s g) refl) calm

pub calm-taken : (script : Script) (s : State) (m : Schedule) (g : ℕ) → status_of m g ≡ Some RunStatus.Queued → IsCalm script s m → IsCalm script s (taken m g)
calm-taken script s m g e calm =
    calm-scheduled script s m (taken m g) (λ h waiting. elim (cases_eq h g) [
      | inl is ↦
          absurd (unparked-now (status_of (taken m g) h) RunStatus.InHand
          (ap (status_of (taken m g)) is ∙ numbered-change_same m.statuses g (λ _. RunStatus.InHand) RunStatus.Queued e) refl waiting)
      | inr other ↦ sym (ap is_parked (numbered-change_other m.statuses g h (λ _. RunStatus.InHand) other)) ∙ waiting
    ]) calm

-- one that is to wait at an operation which is ready neither alone nor by a partner that is parked
pub record CanPark (script : Script) (s : State) (m : Schedule) (g : ℕ) (kind : CaseKind) : Type 0 where
  pub waiter : Waiter script s m g kind
  pub faultless : fault script s waiter.instr ≡ None
  pub alone : is_ready_alone script s no_timer kind ≡ false
  pub partner : has_partner script s (is_waiting m) g kind ≡ false

pub plain-firm : (script : Script) (s : State) (counts : ℕ → Bool) (g : ℕ) (i : Instr) (kind : CaseKind) → operation i 0 ≡ Some kind → fault script s i ≡ None
    → is_ready_alone script s no_timer kind ≡ false → has_partner script s counts g kind ≡ false → firm_on script s counts g (Some i) ≡ false
plain-firm script s counts g (Instr.Recv o) kind has none alone partner =
    let is : CaseKind.Recv o ≡ kind = cc in
    both-false (is_some (fault script s (Instr.Recv o))) _ (ap is_some none)
    (subst (λ k. is_ready_case script s no_timer counts g k ≡ false) (sym is) (both-false (is_ready_alone script s no_timer kind) _ alone partner))
plain-firm script s counts g (Instr.Send c v) kind has none alone partner =
    let is : CaseKind.Send c v ≡ kind = cc in
    both-false (is_some (fault script s (Instr.Send c v))) _ (ap is_some none)
    (subst (λ k. is_ready_case script s no_timer counts g k ≡ false) (sym is) (both-false (is_ready_alone script s no_timer kind) _ alone partner))
plain-firm script s counts g (Instr.Lock m) kind has none alone partner =
    let is : CaseKind.Recv m ≡ kind = cc in
    both-false (is_some (fault script s (Instr.Lock m))) _ (ap is_some none)
    (subst (λ k. is_ready_case script s no_timer counts g k ≡ false) (sym is) (both-false (is_ready_alone script s no_timer kind) _ alone partner))
plain-firm script s counts g (Instr.Wait w) kind has none alone partner =
    let is : CaseKind.Recv w ≡ kind = cc in
    both-false (is_some (fault script s (Instr.Wait w))) _ (ap is_some none)
    (subst (λ k. is_ready_case script s no_timer counts g k ≡ false) (sym is) (both-false (is_ready_alone script s no_timer kind) _ alone partner))
plain-firm script s counts g i kind has none alone partner = cc

-- One that is to wait where it stands, where it is not firmly ready by those that are parked
pub record CanWait (script : Script) (s : State) (m : Schedule) (g : ℕ) : Type 0 where
  pub instr : Instr
  pub stands : stands_at script s g ≡ Some instr
  pub firm : firm_on script s (is_waiting m) g (Some instr) ≡ false

pub parks-waits : (script : Script) (s : State) (m : Schedule) (g : ℕ) (kind : CaseKind) → CanPark script s m g kind → CanWait script s m g
parks-waits script s m g kind can = record {
  instr = can.waiter.instr;
  stands = can.waiter.stands;
  firm = plain-firm script s (is_waiting m) g can.waiter.instr kind can.waiter.has can.faultless can.alone can.partner;
}

-- a choice without a default may wait where none of its cases is ready
pub chooses-waits : (script : Script) (s : State) (m : Schedule) (g : ℕ) (cases : List Case) → stands_at script s g ≡ Some (Instr.Select cases None) → choice_fault s cases ≡ None
    → ((k : ℕ) (c : Case) → slice_get cases k ≡ Some c → is_ready_case script s no_timer (is_waiting m) g c.kind ≡ false) → CanWait script s m g
chooses-waits script s m g cases stands none each = record {
  instr = Instr.Select cases None;
  stands = stands;
  firm = both-false (is_some (choice_fault s cases)) _ (ap is_some none) (any-none (λ (c : Case). is_ready_case script s no_timer (is_waiting m) g c.kind) cases each);
}

-- who waits at such operations leaves nobody firmly ready
module _ (script : Script) (s : State) (m then : Schedule) (g : ℕ) (others_stay : (h : ℕ) → h ≢ g → status_of then h ≡ status_of m h) (good : IsGood script) (can : CanWait script s m g)
    (calm : IsCalm script s m) where
  abbrev instr : Instr
  instr = can.instr

  quiet : (n : ℕ) (kind : CaseKind) → operation instr n ≡ Some kind → IsQuiet script s (is_waiting m) g kind
  quiet n kind has = firm-each script s (is_waiting m) g (Some instr) n kind can.firm has

  -- who is parked then, but g, was parked before
  waited-before : (h : ℕ) → h ≢ g → is_waiting then h ≡ true → is_waiting m h ≡ true
  waited-before h other waits = sym (ap is_parked (others_stay h other)) ∙ waits

  partner-other : (h : ℕ) (test : CaseKind → Bool) (p : Partner script s (is_waiting then) h test) → p.number ≢ g → Partner script s (is_waiting m) h test
  partner-other h test p other = record {
    number = p.number;
    instr = p.instr;
    other = p.other;
    counted = waited-before p.number other p.counted;
    does = p.does;
    waits = p.waits;
    passes = p.passes;
  }

  -- g itself meets nobody
  alone-partner : (test : CaseKind → Bool) → partner_waits script s (is_waiting then) g test ≡ true → partner_waits script s (is_waiting m) g test ≡ true
  alone-partner test h =
      let p : Partner script s (is_waiting then) g test = partner script s (is_waiting then) g test h in
      partner-waits script s (is_waiting m) g test (partner-other g test p p.other)

  has-back : (k : CaseKind) → has_partner script s (is_waiting then) g k ≡ true → has_partner script s (is_waiting m) g k ≡ true
  has-back (CaseKind.Recv o) h =
      let parts = and_parts (is_chan script o && capacity_of script o == 0) (partner_waits script s (is_waiting then) g (sends_to o)) h in
      and_from (is_chan script o && capacity_of script o == 0) (partner_waits script s (is_waiting m) g (sends_to o)) parts.0 (alone-partner (sends_to o) parts.1)
  has-back (CaseKind.Send c v) h =
      let parts = and_parts (capacity_of script c == 0) (partner_waits script s (is_waiting then) g (receives_from c)) h in
      and_from (capacity_of script c == 0) (partner_waits script s (is_waiting m) g (receives_from c)) parts.0 (alone-partner (receives_from c) parts.1)

  own-firm : is_firm_at script s then g ≡ false
  own-firm =
      stood-firm script s (is_waiting then) g (goroutine_at s g)
      (ap (firm_on script s (is_waiting then) g) can.stands
      ∙ quiet-firm script s (is_waiting then) g (Some instr) (firm-waits script s (is_waiting m) g (Some instr) can.firm) (firm-made script s (is_waiting m) g (Some instr) can.firm) (λ n kind has.
      let x : IsQuiet script s (is_waiting m) g kind = quiet n kind has in
      record {
        alone = x.alone;
        partner = unless-true (has_partner script s (is_waiting then) g kind) (λ h. never-both (has_partner script s (is_waiting m) g kind) (has-back kind h) x.partner);
      }))
      (λ k mode. absurd (stands-relocks script s g k instr can.stands mode))

  -- one that was parked before, where it stands
  record Parked (h : ℕ) (i : Instr) : Type 0 where
    other : h ≢ g
    waits : is_waiting m h ≡ true
    stands : stands_at script s h ≡ Some i
    firm : firm_on script s (is_waiting m) h (Some i) ≡ false

  parked-does : (h : ℕ) (i : Instr) → Parked h i → Does script s h i
  parked-does h i p = record { stands = p.stands; calm = calm-standing script s h i p.stands (no-reason (fault script s i) (firm-fault script s (is_waiting m) h (Some i) p.firm)) }

  -- another one whom g would meet would be met by g: it is parked, and makes no misuse
  meets-back : (h : ℕ) (i : Instr) (test : CaseKind → Bool) → Parked h i → offers test i ≡ true → partner_waits script s (is_waiting m) g test ≡ true
  meets-back h i test p passes =
      partner-waits script s (is_waiting m) g test (record {
        number = h;
        instr = i;
        other = p.other;
        counted = p.waits;
        does = parked-does h i p;
        waits = waits-polls i (firm-waits script s (is_waiting m) h (Some i) p.firm);
        passes = passes;
      })

  -- where g stands, its instruction is this one
  same-instr : (n : ℕ) (i : Instr) → n ≡ g → stands_at script s n ≡ Some i → i ≡ instr
  same-instr n i is on =
      let same : Some instr ≡ Some i = sym can.stands ∙ (ap (stands_at script s) (sym is) ∙ on) in
      cc

  -- a partner of another one is not g
  not-met : (h n : ℕ) (i : Instr) (k : CaseKind) → Parked h i → operation i n ≡ Some k → has_partner script s (is_waiting then) h k ≡ true → has_partner script s (is_waiting m) h k ≡ true
  not-met h n i (CaseKind.Recv o) at has full =
      let parts = and_parts (is_chan script o && capacity_of script o == 0) (partner_waits script s (is_waiting then) h (sends_to o)) full in
      let room = and_parts (is_chan script o) (capacity_of script o == 0) parts.0 in
      let p : Partner script s (is_waiting then) h (sends_to o) = partner script s (is_waiting then) h (sends_to o) parts.1 in
      elim (cases_eq p.number g) [
        | inl is ↦
            let sends : SendsTo instr o =
            sends-send instr o (subst (λ i. offers (sends_to o) i ≡ true) (same-instr p.number p.instr is p.does.stands) p.passes) in
            let met : partner_waits script s (is_waiting m) g (receives_from o) ≡ true =
            meets-back h i (receives_from o) at (offers-operation (receives_from o) i n (CaseKind.Recv o) has (eq-eqb o o refl)) in
            absurd (never-both (has_partner script s (is_waiting m) g (CaseKind.Send o sends.value))
            (and_from (capacity_of script o == 0) (partner_waits script s (is_waiting m) g (receives_from o)) room.1 met)
            (quiet sends.case_no (CaseKind.Send o sends.value) sends.has).partner)
        | inr apart ↦
            and_from (is_chan script o && capacity_of script o == 0) (partner_waits script s (is_waiting m) h (sends_to o)) parts.0
            (partner-waits script s (is_waiting m) h (sends_to o) (partner-other h (sends_to o) p apart))
      ]
  not-met h n i (CaseKind.Send c v) at has full =
      let parts = and_parts (capacity_of script c == 0) (partner_waits script s (is_waiting then) h (receives_from c)) full in
      let p : Partner script s (is_waiting then) h (receives_from c) = partner script s (is_waiting then) h (receives_from c) parts.1 in
      elim (cases_eq p.number g) [
        | inl is ↦
            let receives : ReceivesFrom instr c =
            receives-recv instr c (subst (λ i. offers (receives_from c) i ≡ true) (same-instr p.number p.instr is p.does.stands) p.passes) in
            let met : partner_waits script s (is_waiting m) g (sends_to c) ≡ true =
            meets-back h i (sends_to c) at (offers-operation (sends_to c) i n (CaseKind.Send c v) has (eq-eqb c c refl)) in
            let declared : IsTrue (is_chan script c) = names-operation script i n (CaseKind.Send c v) has (names-Does script s h i good (parked-does h i at)) in
            absurd (never-both (has_partner script s (is_waiting m) g (CaseKind.Recv c))
            (and_from (is_chan script c && capacity_of script c == 0) (partner_waits script s (is_waiting m) g (sends_to c))
            (and_from (is_chan script c) (capacity_of script c == 0) declared parts.0) met)
            (quiet receives.case_no (CaseKind.Recv c) receives.has).partner)
        | inr apart ↦
            and_from (capacity_of script c == 0) (partner_waits script s (is_waiting m) h (receives_from c)) parts.0
            (partner-waits script s (is_waiting m) h (receives_from c) (partner-other h (receives_from c) p apart))
      ]

  other-firm : (h : ℕ) → h ≢ g → is_waiting then h ≡ true → is_firm_at script s then h ≡ false
  other-firm h other waits =
      let before : is_waiting m h ≡ true = waited-before h other waits in
      let on : Option Instr = stood script (goroutine_at s h) in
      let firm : firm_on script s (is_waiting m) h on ≡ false = firm-stood script s (is_waiting m) h (goroutine_at s h) (calm h before) in
      stood-firm script s (is_waiting then) h (goroutine_at s h)
      (quiet-firm script s (is_waiting then) h on (firm-waits script s (is_waiting m) h on firm) (firm-made script s (is_waiting m) h on firm) (λ n k e.
      let x : IsQuiet script s (is_waiting m) h k = firm-each script s (is_waiting m) h on n k firm e in
      let at : AtOperation script s (at_case h n) k = at_operation script s (at_case h n) k e in
      let parked : Parked h at.instr = record { other = other; waits = before; stands = at.stands; firm = ap (firm_on script s (is_waiting m) h) (sym at.stands) ∙ firm } in
      record {
        alone = x.alone;
        partner = unless-true (has_partner script s (is_waiting then) h k) (λ full. never-both (has_partner script s (is_waiting m) h k) (not-met h n at.instr k parked at.has full) x.partner);
      }))
      (λ k mode. firm-locked script s (is_waiting m) h k (goroutine_at s h) mode (calm h before))

  pub calm-parked : IsCalm script s then
  calm-parked h waits =
      elim (cases_eq h g) [
        | inl is ↦ subst (λ h. is_firm_at script s then h ≡ false) (sym is) own-firm
        | inr other ↦ other-firm h other waits
      ]

pub calm-parked_at : (script : Script) (s : State) (m : Schedule) (g : ℕ) (kind : CaseKind) → IsGood script → CanPark script s m g kind → IsCalm script s m → IsCalm script s (parked_at m (plainly g) kind)
calm-parked_at script s m g kind good can calm =
    calm-parked script s m (parked_at m (plainly g) kind) g (λ h other. parked_at-status_other m (plainly g) kind h other) good (parks-waits script s m g kind can) calm

-- and who waits at a choice leaves nobody either
pub calm-parked_cases : (script : Script) (s : State) (m : Schedule) (g : ℕ) (cases : List Case) → IsGood script → CanWait script s m g → IsCalm script s m → IsCalm script s (parked_cases m g cases)
calm-parked_cases script s m g cases good can calm =
    calm-parked script s m (parked_cases m g cases) g
    (λ h other. ap (λ (ss : List RunStatus). numbered ss h) (cases-statuses (parked m g) g 1 cases) ∙ numbered-change_other m.statuses g h (λ _. RunStatus.Parked m.parks) other) good can calm

-- ---- the idle point

-- what each numbered item passes with its number, all pass
all_from : {X : Type 0} (p : ℕ × X → Bool) (n : ℕ) (xs : List X) → ((i : ℕ) (x : X) → slice_get xs i ≡ Some x → p (n + i, x) ≡ true) → list_all p (enumerate_from n xs) ≡ true
all_from p n [] h = refl
all_from p n (x ∷ xs) h =
    let zero_more : n + 0 ≡ n = omega arith in
    and_from (p (n, x)) (list_all p (enumerate_from (n + 1) xs)) (subst (λ k. p (k, x) ≡ true) zero_more (h 0 x refl))
    (all_from p (n + 1) xs (λ i y e. let one_more : n + suc i ≡ (n + 1) + i = omega arith in subst (λ k. p (k, y) ≡ true) one_more (h (suc i) y e)))

all-numbered : {X : Type 0} (p : ℕ × X → Bool) (xs : List X) → ((g : ℕ) (x : X) → numbered xs g ≡ Some x → p (g, x) ≡ true) → list_all p (enumerate_from 1 xs) ≡ true
all-numbered p xs h = all_from p 1 xs (λ i x e. let is : suc i ≡ 1 + i = omega arith in subst (λ k. p (k, x) ≡ true) is (h (suc i) x e))

-- who is neither queued nor in hand, and has not ended, is parked
abbrev HasEnded : Mode → Bool
HasEnded Mode.At = false
HasEnded (Mode.Sleeping until) = false
HasEnded (Mode.Suspended k) = false
HasEnded (Mode.Relocking k) = false
HasEnded Mode.Ended = true

at_rest-parked : (mode : Mode) (x : RunStatus) → HasEnded mode ≡ false → Some x ≢ Some RunStatus.Queued → Some x ≢ Some RunStatus.InHand → Agrees mode x → is_parked (Some x) ≡ true
at_rest-parked mode RunStatus.Queued goes q w h = absurd (q refl)
at_rest-parked mode RunStatus.InHand goes q w h = absurd (w refl)
at_rest-parked mode (RunStatus.Parked since) goes q w h = refl
at_rest-parked Mode.At RunStatus.Ended goes q w h = absurd h
at_rest-parked (Mode.Sleeping until) RunStatus.Ended goes q w h = absurd h
at_rest-parked (Mode.Suspended k) RunStatus.Ended goes q w h = absurd h
at_rest-parked (Mode.Relocking k) RunStatus.Ended goes q w h = absurd h
at_rest-parked Mode.Ended RunStatus.Ended goes q w h = cc

module _ (script : Script) (s : State) (m : Schedule) (fits : Fits script s m) (calm : IsCalm script s m) (none_queued : (g : ℕ) → status_of m g ≢ Some RunStatus.Queued)
    (none_in_hand : (g : ℕ) → status_of m g ≢ Some RunStatus.InHand) where
  rest-waits : (g : ℕ) (r : Goroutine) → goroutine_at s g ≡ Some r → HasEnded r.mode ≡ false → is_waiting m g ≡ true
  rest-waits g r there goes =
      let x : HasNumber m.statuses g = has_number s.goroutines m.statuses g r (sym fits.as_many) there in
      ap is_parked x.there
      ∙ at_rest-parked r.mode x.item goes (λ k. none_queued g (x.there ∙ k)) (λ k. none_in_hand g (x.there ∙ k)) (fits.agree g r x.item there x.there)

  standing-waits : (g : ℕ) (i : Instr) → stands_at script s g ≡ Some i → is_waiting m g ≡ true
  standing-waits g i e =
      let st : Standing script s g i = standing script s g i e in
      rest-waits g st.who st.there (ap HasEnded st.at)

  relocking-locked : (g k : ℕ) → mode_of s g ≡ Some (Mode.Relocking k) → is_locked s (mutex_of script k) ≡ true
  relocking-locked g k mode =
      let a : InMode s g (Mode.Relocking k) = in-mode s g (Mode.Relocking k) mode in
      firm-locked script s (is_waiting m) g k (goroutine_at s g) mode (calm g (rest-waits g a.who a.there (ap HasEnded a.its)))

  everyone-back : (g : ℕ) (test : CaseKind → Bool) → partner_waits script s everyone g test ≡ true → partner_waits script s (is_waiting m) g test ≡ true
  everyone-back g test h =
      let p : Partner script s everyone g test = partner script s everyone g test h in
      partner-waits script s (is_waiting m) g test
      (record { number = p.number; instr = p.instr; other = p.other; counted = standing-waits p.number p.instr p.does.stands; does = p.does; waits = p.waits; passes = p.passes })

  everyone-partner : (g : ℕ) (k : CaseKind) → has_partner script s everyone g k ≡ true → has_partner script s (is_waiting m) g k ≡ true
  everyone-partner g (CaseKind.Recv o) h =
      let parts = and_parts (is_chan script o && capacity_of script o == 0) (partner_waits script s everyone g (sends_to o)) h in
      and_from (is_chan script o && capacity_of script o == 0) (partner_waits script s (is_waiting m) g (sends_to o)) parts.0 (everyone-back g (sends_to o) parts.1)
  everyone-partner g (CaseKind.Send c v) h =
      let parts = and_parts (capacity_of script c == 0) (partner_waits script s everyone g (receives_from c)) h in
      and_from (capacity_of script c == 0) (partner_waits script s (is_waiting m) g (receives_from c)) parts.0 (everyone-back g (receives_from c) parts.1)

  quiet-one : (g : ℕ) (o : Option Instr) → stood script (goroutine_at s g) ≡ o → firm_on script s everyone g o ≡ false
  quiet-one g None e = refl
  quiet-one g (Some i) e =
      let waits : is_waiting m g ≡ true = standing-waits g i e in
      let firm : firm_on script s (is_waiting m) g (Some i) ≡ false =
      sym (ap (firm_on script s (is_waiting m) g) e) ∙ firm-stood script s (is_waiting m) g (goroutine_at s g) (calm g waits) in
      quiet-firm script s everyone g (Some i) (firm-waits script s (is_waiting m) g (Some i) firm) (firm-made script s (is_waiting m) g (Some i) firm) (λ n k q.
      let x : IsQuiet script s (is_waiting m) g k = firm-each script s (is_waiting m) g (Some i) n k firm q in
      record {
        alone = x.alone;
        partner = unless-true (has_partner script s everyone g k) (λ h. never-both (has_partner script s (is_waiting m) g k) (everyone-partner g k h) x.partner);
      })

  pub quiet-calm : none_firm script s ≡ true
  quiet-calm =
      all-numbered (λ (e : ℕ × Goroutine). not (is_firm script s everyone e.0 e.1)) s.goroutines (λ g r e.
      ap not (ap (firm_of script s everyone g) (sym e)
      ∙ stood-firm script s everyone g (goroutine_at s g) (quiet-one g (stood script (goroutine_at s g)) refl) (λ k mode. relocking-locked g k mode)))
