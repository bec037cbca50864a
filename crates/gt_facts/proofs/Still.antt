-- A program is idle exactly where it stands still: who is ready has an entry that may come next, and who is not has none.
use Rattle.std.proofs.Common.{◌≡◌, ℕ, zero, suc, ◌≤◌, refl, sym, ap, subst, ◌∙◌, Option, None, Some, Bool, true, false, not, ◌||◌, ◌==◌, ◌≢◌, is_some, is_none, IsTrue, IsSomeAnd, MatchOption}
use Rattle.std.specs.Option.{option_map}
use Rattle.std.proofs.lemmas.Bool.{leb-true, le-leb, eq-eqb, and_from}
pub use Rattle.std.proofs.lemmas.Bool.{or_left, or_right}
use Rattle.gt_model.specs.declared.script.Script.{Script}
use Rattle.gt_model.specs.declared.script.Instr.{Instr}
use Rattle.gt_model.specs.declared.entry.Entry.{Entry}
use Rattle.gt_model.specs.declared.entry.Party.{Party}
use Rattle.gt_model.specs.declared.entry.Reason.{Reason}
use Rattle.gt_model.specs.declared.state.Goroutine.{Goroutine}
use Rattle.gt_model.specs.declared.state.Timer.{Timer}
use Rattle.gt_model.specs.declared.state.Mode.{Mode}
use Rattle.gt_rules.specs.State.{State, goroutine_at, stands, stands_at, until_of, sleeps_until, clock, clock_of, world_of, mode_of, next_number, timer_at, due_of, is_closed, is_locked, context_at}
use Rattle.gt_rules.specs.Contexts.{start_count}
use Rattle.gt_model.specs.declared.context.Context.{Context}
use Rattle.gt_model.specs.declared.script.CaseKind.{CaseKind}
use Rattle.gt_model.specs.declared.script.What.{What}
use Rattle.gt_model.specs.Script.{instr_at, what_at, names_timer, is_func, is_timer, mutex_of, capacity_of}
use Rattle.gt_rules.specs.Panics.{fault, fault_at, fault_case, panic_of, panic_at}
use Rattle.gt_rules.specs.Operations.{operation, polls, receives_from}
use Rattle.gt_rules.specs.Ready.{is_due, is_ready, is_ready_in, is_ready_at, is_ready_instr, is_ready_case, is_ready_alone, is_ready_recv, has_partner, partner_waits, has_come, everyone}
use Rattle.gt_model.specs.Good.{IsGood}
use Rattle.gt_rules.specs.declared.change.Move.{Move}
use Rattle.gt_rules.specs.Change.{change_of}
use Rattle.gt_rules.specs.Legal.{May, Expires, MayPanic, ChoosesClosed, Does, Operates, operation_at}
use Rattle.gt_rules.specs.Finish.{IsIdle, IsProgramClock}
use Rattle.gt_facts.specs.Still.{IsStill}
use Rattle.gt_facts.proofs.Lookups.{Standing, standing, AtOperation, at_operation, operates-Does, operation-any, offers-operation, Asleep, sleeper, InMode, in-mode, mode_there}
use Rattle.gt_facts.proofs.Partners.{Partner, partner-waits, none-is}
use Rattle.gt_facts.proofs.Makers.{Maker, calls, receives, trades, pairs, wakes, fires, expires, ticks, panics, retakes, signals, maker, idle-not}

-- ---- a still program is idle

true_false : (b : Bool) → b ≡ true → b ≡ false → ⊥
true_false true h k = cc
true_false false h k = cc

-- a goroutine that stands at an instruction which can go on, or is misused, is ready
ready_there : (script : Script) (s : State) (g : ℕ) (i : Instr) (st : Standing script s g i)
    → is_ready_at script s (has_come s st.who.world) everyone g (Some i) ≡ true → is_ready script s g st.who ≡ true
ready_there script s g i st h =
    subst (λ (m : Mode). is_ready_in script s g st.who m ≡ true) (sym st.at)
    (subst (λ (o : Option Instr). is_ready_at script s (has_come s st.who.world) everyone g o ≡ true) (sym st.on) h)

not_ready : (script : Script) (s : State) (g : ℕ) (i : Instr) (st : Standing script s g i) → IsStill script s
    → is_ready_at script s (has_come s st.who.world) everyone g (Some i) ≡ true → ⊥
not_ready script s g i st still h = true_false (is_ready script s g st.who) (ready_there script s g i st h) (still.nobody_ready g st.who st.there)

-- an instruction that goes on by whatever clock
goes_not : (script : Script) (s : State) (g : ℕ) (i : Instr) → IsStill script s → Does script s g i
    → ((w : ℕ) → is_ready_instr script s (has_come s w) everyone g i ≡ true) → ⊥
goes_not script s g i still does goes =
    let st : Standing script s g i = standing script s g i does.stands in
    not_ready script s g i st still (or_right (is_some (fault script s i)) (is_ready_instr script s (has_come s st.who.world) everyone g i) (goes st.who.world))

world_there : (s : State) (g : ℕ) (r : Goroutine) → goroutine_at s g ≡ Some r → world_of s g ≡ r.world
world_there s g r e = ap (λ (o : Option Goroutine). elim o as (λ o. ℕ) [ None ↦ 0 | Some r ↦ r.world ]) e

until_there : (s : State) (g : ℕ) (r : Goroutine) → goroutine_at s g ≡ Some r → sleeps_until s g ≡ until_of r.mode
until_there s g r e =
    ap (λ (o : Option Goroutine). elim (option_map (λ (r : Goroutine). r.mode) o) as (λ o. Option ℕ) [ None ↦ None | Some mode ↦ until_of mode ]) e

wakes_not : (script : Script) (s : State) (g : ℕ) → IsStill script s → IsSomeAnd (sleeps_until s g) (λ until. until ≤ clock_of s g) → ⊥
wakes_not script s g still h =
    let a : Asleep s g = sleeper s g (λ until. until ≤ clock_of s g) h in
    let until : sleeps_until s g ≡ Some a.until = until_there s g a.who a.there ∙ ap until_of a.sleeps in
    let come : a.until ≤ clock_of s g = subst (λ (o : Option ℕ). IsSomeAnd o (λ until. until ≤ clock_of s g)) until h in
    let here : a.until ≤ clock s a.who.world = subst (λ w. a.until ≤ clock s w) (world_there s g a.who a.there) come in
    let ready : is_ready script s g a.who ≡ true =
    subst (λ (m : Mode). is_ready_in script s g a.who m ≡ true) (sym a.sleeps) (le-leb a.until (clock s a.who.world) here) in
    true_false (is_ready script s g a.who) ready (still.nobody_ready g a.who a.there)

-- who was signalled at a Cond goes on where its mutex is free
retakes_not : (script : Script) (s : State) (g k : ℕ) → IsStill script s → mode_of s g ≡ Some (Mode.Relocking k) → is_locked s (mutex_of script k) ≡ false → ⊥
retakes_not script s g k still relocks free =
    let a : InMode s g (Mode.Relocking k) = in-mode s g (Mode.Relocking k) relocks in
    let ready : is_ready script s g a.who ≡ true = subst (λ (m : Mode). is_ready_in script s g a.who m ≡ true) (sym a.its) (ap not free) in
    true_false (is_ready script s g a.who) ready (still.nobody_ready g a.who a.there)

-- the receive of a timer is ready where its time has come
timer-ready : (s : State) (timed : ℕ → Bool) (t : ℕ) (o : Option What) → IsTrue (names_timer o) → timed t ≡ true → is_ready_recv s timed t o ≡ true
timer-ready s timed t (Some What.Timer) timer come = come
timer-ready s timed t (Some What.Ticker) timer come = come
timer-ready s timed t (Some (What.AfterFunc func)) timer come = cc
timer-ready s timed t (Some (What.Chan cap)) timer come = cc
timer-ready s timed t (Some What.Mutex) timer come = cc
timer-ready s timed t (Some What.Wg) timer come = cc
timer-ready s timed t (Some (What.Cond mutex)) timer come = cc
timer-ready s timed t (Some (What.Ctx parent form)) timer come = cc
timer-ready s timed t (Some (What.Hook ctx func)) timer come = cc
timer-ready s timed t (Some What.Error) timer come = cc
timer-ready s timed t (Some What.Function) timer come = cc
timer-ready s timed t None timer come = cc

-- an instruction is ready where one of its operations is
operation-ready : (script : Script) (s : State) (timed counts : ℕ → Bool) (me n : ℕ) (i : Instr) (kind : CaseKind) → operation i n ≡ Some kind
    → is_ready_case script s timed counts me kind ≡ true → is_ready_instr script s timed counts me i ≡ true
operation-ready script s timed counts me zero (Instr.Recv o) kind e h =
    let is : CaseKind.Recv o ≡ kind = cc in
    subst (λ (k : CaseKind). is_ready_case script s timed counts me k ≡ true) (sym is) h
operation-ready script s timed counts me zero (Instr.Send c v) kind e h =
    let is : CaseKind.Send c v ≡ kind = cc in
    subst (λ (k : CaseKind). is_ready_case script s timed counts me k ≡ true) (sym is) h
operation-ready script s timed counts me (suc n) (Instr.Recv o) kind e h = cc
operation-ready script s timed counts me (suc n) (Instr.Send c v) kind e h = cc
operation-ready script s timed counts me zero (Instr.Select cases default_to) kind e h = cc
operation-ready script s timed counts me (suc k) (Instr.Select cases default_to) kind e h =
    or_right (is_some default_to) _ (operation-any (is_ready_case script s timed counts me) cases k kind e h)
operation-ready script s timed counts me zero (Instr.Lock m) kind e h =
    let is : CaseKind.Recv m ≡ kind = cc in
    subst (λ (k : CaseKind). is_ready_case script s timed counts me k ≡ true) (sym is) h
operation-ready script s timed counts me (suc n) (Instr.Lock m) kind e h = cc
operation-ready script s timed counts me zero (Instr.Wait w) kind e h =
    let is : CaseKind.Recv w ≡ kind = cc in
    subst (λ (k : CaseKind). is_ready_case script s timed counts me k ≡ true) (sym is) h
operation-ready script s timed counts me (suc n) (Instr.Wait w) kind e h = cc
operation-ready script s timed counts me n _ kind e h = cc

receives_not : (script : Script) (s : State) (p : Party) (t due : ℕ) → IsStill script s → Operates script s p (CaseKind.Recv t) → IsTrue (is_timer script t) → due_of s t ≡ Some due
    → due ≤ clock_of s p.g → ⊥
receives_not script s p t due still call timer is h =
    let at : AtOperation script s p (CaseKind.Recv t) = at_operation script s p (CaseKind.Recv t) call.stands in
    let st : Standing script s p.g at.instr = standing script s p.g at.instr at.stands in
    let here : due ≤ clock s st.who.world = subst (λ w. due ≤ clock s w) (world_there s p.g st.who st.there) h in
    let come : has_come s st.who.world t ≡ true =
    subst (λ (o : Option ℕ). is_due o (clock s st.who.world) ≡ true) (sym is) (le-leb due (clock s st.who.world) here) in
    let alone : is_ready_alone script s (has_come s st.who.world) (CaseKind.Recv t) ≡ true = timer-ready s (has_come s st.who.world) t (what_at script t) timer come in
    not_ready script s p.g at.instr st still
    (or_right (is_some (fault script s at.instr)) _
    (operation-ready script s (has_come s st.who.world) everyone p.g p.case_no at.instr (CaseKind.Recv t) at.has
    (or_left (is_ready_alone script s (has_come s st.who.world) (CaseKind.Recv t)) _ alone)))

-- an operation that goes on by whatever clock
operates_not : (script : Script) (s : State) (p : Party) (kind : CaseKind) → IsStill script s → Operates script s p kind
    → ((w : ℕ) → is_ready_case script s (has_come s w) everyone p.g kind ≡ true) → ⊥
operates_not script s p kind still call goes =
    let at : AtOperation script s p kind = at_operation script s p kind call.stands in
    goes_not script s p.g at.instr still (record { stands = at.stands; calm = call.calm })
    (λ w. operation-ready script s (has_come s w) everyone p.g p.case_no at.instr kind at.has (goes w))

-- who stands at a choice with a default is ready
polls-ready : (script : Script) (s : State) (timed counts : ℕ → Bool) (me : ℕ) (i : Instr) → polls i ≡ true → is_ready_instr script s timed counts me i ≡ true
polls-ready script s timed counts me (Instr.Select cases default_to) h = or_left (is_some default_to) _ h
polls-ready script s timed counts me _ h = cc

-- a sender whose partner would wait there is ready, and so is one who would not wait
pairs_not : (script : Script) (s : State) (from to : Party) (c v : ℕ) → IsStill script s → Operates script s from (CaseKind.Send c v) → Operates script s to (CaseKind.Recv c)
    → capacity_of script c ≡ 0 → from.g ≢ to.g → ⊥
pairs_not script s from to c v still sends gets none other =
    let at : AtOperation script s to (CaseKind.Recv c) = at_operation script s to (CaseKind.Recv c) gets.stands in
    let does : Does script s to.g at.instr = operates-Does script s to (CaseKind.Recv c) at gets in
    elim (polls at.instr) as (λ b. polls at.instr ≡ b → ⊥) [
      | true ↦ λ polling. goes_not script s to.g at.instr still does (λ w. polls-ready script s (has_come s w) everyone to.g at.instr polling)
      | false ↦ λ waits.
          let p : Partner script s everyone from.g (receives_from c) = record {
            number = to.g;
            instr = at.instr;
            other = λ e. other (sym e);
            counted = refl;
            does = does;
            waits = waits;
            passes = offers-operation (receives_from c) at.instr to.case_no (CaseKind.Recv c) at.has (eq-eqb c c refl);
          } in
          let ready : has_partner script s everyone from.g (CaseKind.Send c v) ≡ true =
          and_from (capacity_of script c == 0) (partner_waits script s everyone from.g (receives_from c)) (eq-eqb (capacity_of script c) 0 none)
          (partner-waits script s everyone from.g (receives_from c) p) in
          operates_not script s from (CaseKind.Send c v) still sends (λ w. or_right (is_ready_alone script s (has_come s w) (CaseKind.Send c v)) _ ready)
    ] refl

fires_not : (script : Script) (s : State) (t : ℕ) → IsStill script s → IsTrue (is_func script t)
    → IsSomeAnd (timer_at s t) (λ (r : Timer). IsTrue (is_due r.due (clock s r.world))) → ⊥
fires_not script s t still func h =
    elim (timer_at s t) as (λ o. timer_at s t ≡ o → IsSomeAnd o (λ (r : Timer). IsTrue (is_due r.due (clock s r.world))) → ⊥) [
      | None ↦ λ e k. k
      | Some r ↦ λ e k. true_false (is_due r.due (clock s r.world)) k (still.no_func_due t r e func)
    ] refl h

-- a context that has come to its deadline has ended
expires_not : (script : Script) (s : State) (x : ℕ) → IsStill script s → Expires s x → ⊥
expires_not script s x still h =
    elim (context_at s x) as (λ o. context_at s x ≡ o → IsSomeAnd o (λ (r : Context). IsTrue (is_due r.own (clock s r.world)) × IsTrue (is_none r.end)) → ⊥) [
      | None ↦ λ e k. k
      | Some r ↦ λ e k. true_false (is_due r.own (clock s r.world)) k.0 (still.no_deadline_due x r e (none-is r.end k.1))
    ] refl h

faulty : (o : Option Reason) (k n : ℕ) (reason : Reason) → (elim o as (λ x. Option (ℕ × Reason)) [ None ↦ None | Some why ↦ Some (k, why) ]) ≡ Some (n, reason) → is_some o ≡ true
faulty None k n reason e = cc
faulty (Some why) k n reason e = refl

pub panic_stands : (script : Script) (s : State) (g : ℕ)
    → (elim (stands_at script s g) as (λ x. Option (ℕ × Reason)) [ None ↦ None | Some i ↦ fault_at script s i ]) ≡ panic_at script s g
panic_stands script s g =
    elim (goroutine_at s g) as (λ o. (elim (elim o as (λ x. Option Instr) [ None ↦ None | Some r ↦ stands script r ]) as (λ x. Option (ℕ × Reason)) [ None ↦ None | Some i ↦ fault_at script s i ])
    ≡ (elim o as (λ x. Option (ℕ × Reason)) [ None ↦ None | Some r ↦ panic_of script s r ])) [
      | None ↦ refl
      | Some r ↦ refl
    ]

panics_not : (script : Script) (s : State) (g n : ℕ) (reason : Reason) → IsStill script s → panic_at script s g ≡ Some (n, reason) → ⊥
panics_not script s g n reason still h =
    elim (stands_at script s g)
    as (λ o. stands_at script s g ≡ o → (elim o as (λ x. Option (ℕ × Reason)) [ None ↦ None | Some i ↦ fault_at script s i ]) ≡ Some (n, reason) → ⊥) [
      | None ↦ λ e k. cc
      | Some i ↦ λ e k. not_ready script s g i (standing script s g i e) still (or_left (is_some (fault script s i)) _ (faulty (fault script s i) (fault_case s i) n reason k))
    ] refl (panic_stands script s g ∙ h)

-- a case that sends to a closed channel is ready
chooses_not : (script : Script) (s : State) (p : Party) (o : Option CaseKind) (reason : Reason) → IsStill script s → panic_at script s p.g ≡ None → operation_at script s p ≡ o
    → ChoosesClosed s o reason → ⊥
chooses_not script s p (Some (CaseKind.Send c v)) reason still calm stands chooses =
    operates_not script s p (CaseKind.Send c v) still (record { stands = stands; calm = calm })
    (λ w. or_left (is_ready_alone script s (has_come s w) (CaseKind.Send c v)) _ (or_left (is_closed s c) _ chooses.0))
chooses_not script s p (Some (CaseKind.Recv o)) reason still calm stands chooses = chooses
chooses_not script s p None reason still calm stands chooses = chooses

may-panic_not : (script : Script) (s : State) (p : Party) (reason : Reason) → IsStill script s → MayPanic script s p reason → ⊥
may-panic_not script s p reason still may =
    elim (panic_at script s p.g)
    as (λ o. panic_at script s p.g ≡ o → MatchOption o (ChoosesClosed s (operation_at script s p) reason) (λ x. x ≡ (p.case_no, reason)) → ⊥) [
      | None ↦ λ calm h. chooses_not script s p (operation_at script s p) reason still calm refl h
      | Some x ↦ λ is h. panics_not script s p.g p.case_no reason still (is ∙ ap Some h)
    ] refl may

-- nobody makes an entry but the program's clock
clock-Maker : (script : Script) (s : State) (m p : Option (ℕ × Move)) (k : Option (ℕ × ℕ)) → IsStill script s → Maker script s m p k → is_some k ≡ true
clock-Maker script s m q k still (calls g i n does goes leaves) = absurd (goes_not script s g i still does (λ w. goes (has_come s w) everyone g))
clock-Maker script s m q k still (receives p t due call timer is come) = absurd (receives_not script s p t due still call timer is come)
clock-Maker script s m q k still (trades p kind call ready) =
    absurd (operates_not script s p kind still call (λ w. or_left (is_ready_alone script s (has_come s w) kind) _ (ready (has_come s w))))
clock-Maker script s m q k still (pairs from to c v sends gets chan none other waits) = absurd (pairs_not script s from to c v still sends gets none other)
clock-Maker script s m q k still (wakes g h) = absurd (wakes_not script s g still h)
clock-Maker script s m q k still (fires t func h) = absurd (fires_not script s t still func h)
clock-Maker script s m q k still (expires x h) = absurd (expires_not script s x still h)
clock-Maker script s m q k still (ticks to up most) = refl
clock-Maker script s m q k still (panics p reason h) = absurd (may-panic_not script s p reason still h)
clock-Maker script s m q k still (retakes g c relocks free) = absurd (retakes_not script s g c still relocks free)
clock-Maker script s m q k still (signals g c h does waits) = absurd (goes_not script s g (Instr.Signal c) still does (λ w. refl))

moves-clock : (script : Script) (s : State) (e : Entry) → May script s e → is_some (change_of e).clock ≡ true → IsProgramClock e
moves-clock script s (Entry.Clock zero to) may h = tt
moves-clock script s (Entry.Clock (suc world) to) may h = may
moves-clock script s _ may h = cc

pub still-IsIdle : (script : Script) (s : State) → IsStill script s → IsIdle script s
still-IsIdle script s still e may =
    moves-clock script s e may (clock-Maker script s (change_of e).mover (change_of e).partner (change_of e).clock still (maker script s e may))

-- ---- an idle program is still

panic-may : (script : Script) (s : State) (g n : ℕ) (reason : Reason) → panic_at script s g ≡ Some (n, reason) → MayPanic script s (record { g = g; case_no = n }) reason
panic-may script s g n reason is =
    subst (λ (o : Option (ℕ × Reason)). MatchOption o (ChoosesClosed s (operation_at script s (record { g = g; case_no = n })) reason) (λ x. x ≡ (n, reason))) (sym is) refl

at_not : (script : Script) (s : State) (g : ℕ) (r : Goroutine) (i : Instr) → IsGood script → IsIdle script s → goroutine_at s g ≡ Some r → stands_at script s g ≡ Some i
    → is_ready_at script s (has_come s r.world) everyone g (Some i) ≡ true → ⊥
at_not script s g r i good idle e on ready =
    let panics : panic_at script s g ≡ fault_at script s i =
    sym (panic_stands script s g) ∙ ap (λ (o : Option Instr). elim o as (λ x. Option (ℕ × Reason)) [ None ↦ None | Some i ↦ fault_at script s i ]) on in
    let now : clock_of s g ≡ clock s r.world = ap (clock s) (world_there s g r e) in
    elim (fault script s i)
    as (λ o. fault script s i ≡ o → (is_some o || is_ready_instr script s (has_come s r.world) everyone g i) ≡ true → ⊥) [
      | None ↦ λ is h.
          let calm : panic_at script s g ≡ None = panics ∙ ap (λ (o : Option Reason). elim o as (λ x. Option (ℕ × Reason)) [ None ↦ None | Some why ↦ Some (fault_case s i, why) ]) is in
          idle-not script s g r.world i good idle now (record { stands = on; calm = calm }) h
      | Some reason ↦ λ is h.
          let misuse : panic_at script s g ≡ Some (fault_case s i, reason) =
          panics ∙ ap (λ (o : Option Reason). elim o as (λ x. Option (ℕ × Reason)) [ None ↦ None | Some why ↦ Some (fault_case s i, why) ]) is in
          idle (Entry.Panic (record { g = g; case_no = fault_case s i }) reason) (panic-may script s g (fault_case s i) reason misuse)
    ] refl ready

pub stands_there : (script : Script) (s : State) (g : ℕ) (r : Goroutine) (i : Instr) → goroutine_at s g ≡ Some r → r.mode ≡ Mode.At → instr_at script r.place ≡ Some i
    → stands_at script s g ≡ Some i
stands_there script s g r i e at on =
    ap (λ (o : Option Goroutine). elim o as (λ o. Option Instr) [ None ↦ None | Some r ↦ stands script r ]) e
    ∙ (ap (λ (m : Mode). elim m as (λ m. Option Instr) [ Mode.At ↦ instr_at script r.place | _ ↦ None ]) at ∙ on)

not_true : (b : Bool) → (b ≡ true → ⊥) → b ≡ false
not_true true h = absurd (h refl)
not_true false h = refl

ready_not : (script : Script) (s : State) (g : ℕ) (r : Goroutine) → IsGood script → IsIdle script s → goroutine_at s g ≡ Some r → (mode : Mode) → r.mode ≡ mode
    → is_ready_in script s g r mode ≡ true → ⊥
ready_not script s g r good idle e Mode.At at ready =
    elim (instr_at script r.place) as (λ o. instr_at script r.place ≡ o
    → is_ready_at script s (has_come s r.world) everyone g o ≡ true → ⊥) [
      | None ↦ λ on h. cc
      | Some i ↦ λ on h. at_not script s g r i good idle e (stands_there script s g r i e at on) h
    ] refl ready
ready_not script s g r good idle e (Mode.Sleeping until) at ready =
    let now : clock_of s g ≡ clock s r.world = ap (clock s) (world_there s g r e) in
    let come : until ≤ clock_of s g = subst (λ now. until ≤ now) (sym now) (leb-true until (clock s r.world) ready) in
    let sleeps : sleeps_until s g ≡ Some until = until_there s g r e ∙ ap until_of at in
    idle (Entry.Wake g) (subst (λ (o : Option ℕ). IsSomeAnd o (λ until. until ≤ clock_of s g)) (sym sleeps) come)
ready_not script s g r good idle e (Mode.Suspended k) at ready = cc
ready_not script s g r good idle e (Mode.Relocking k) at ready = idle (Entry.CondWake g k) (mode_there s g r (Mode.Relocking k) e at, free_is (is_locked s (mutex_of script k)) ready)
  where
    free_is : (b : Bool) → not b ≡ true → b ≡ false
    free_is true h = cc
    free_is false h = refl
ready_not script s g r good idle e Mode.Ended at ready = cc

func_not : (script : Script) (s : State) (t : ℕ) (r : Timer) → IsIdle script s → timer_at s t ≡ Some r → IsTrue (is_func script t) → is_due r.due (clock s r.world) ≡ true → ⊥
func_not script s t r idle e func come =
    idle (Entry.FireFunc t (next_number s))
    (func, subst (λ (o : Option Timer). IsSomeAnd o (λ (r : Timer). IsTrue (is_due r.due (clock s r.world)))) (sym e) come, refl)

deadline_not : (script : Script) (s : State) (x : ℕ) (r : Context) → IsIdle script s → context_at s x ≡ Some r → r.end ≡ None → is_due r.own (clock s r.world) ≡ true → ⊥
deadline_not script s x r idle e none come =
    idle (Entry.Expire x (start_count script s x))
    (subst (λ (o : Option Context). IsSomeAnd o (λ (r : Context). IsTrue (is_due r.own (clock s r.world)) × IsTrue (is_none r.end))) (sym e) (come, ap is_none none), refl)

pub idle-IsStill : (script : Script) (s : State) → IsGood script → IsIdle script s → IsStill script s
idle-IsStill script s good idle = record {
  nobody_ready = λ g r e. not_true (is_ready script s g r) (ready_not script s g r good idle e r.mode refl);
  no_func_due = λ t r e func. not_true (is_due r.due (clock s r.world)) (func_not script s t r idle e func);
  no_deadline_due = λ x r e none. not_true (is_due r.own (clock s r.world)) (deadline_not script s x r idle e none);
}
