-- Where nobody runs, the counted times are the due times of the records that need a heap.
use Rattle.std.proofs.Common.{IsTrue, ◌≡◌, ◌≢◌, cond, ℕ, zero, suc, ◌<◌, ◌==◌, List, [], ◌∷◌, slice_get, refl, sym, ap, subst, ◌∙◌, arith, Option, None, Some, Bool, true, false, ◌&&◌, ◌||◌, eq-eqb}
use Rattle.std.specs.List.{list_any, filter_map, cons_option}
use Rattle.std.proofs.lemmas.Option.{slice_get-map}
use Rattle.gt_model.specs.declared.script.Script.{Script}
use Rattle.gt_model.specs.declared.script.Instr.{Instr}
use Rattle.gt_model.specs.declared.script.Case.{Case}
use Rattle.gt_model.specs.declared.script.CaseKind.{CaseKind}
use Rattle.gt_model.specs.declared.entry.Party.{Party}
use Rattle.gt_model.specs.Script.{is_timer, is_mutex, is_wg, what_at, names_timer, names_mutex, names_wg}
use Rattle.gt_model.specs.declared.script.What.{What}
use Rattle.gt_model.specs.Good.{IsGood, NamesRightly}
use Rattle.gt_model.specs.declared.state.Goroutine.{Goroutine}
use Rattle.gt_model.specs.declared.state.Mode.{Mode}
use Rattle.gt_model.specs.Tables.{numbered}
use Rattle.gt_model.proofs.Items.{HasNumber}
use Rattle.gt_rules.specs.State.{State, goroutine_at, stands, stands_at}
use Rattle.gt_rules.specs.Counted.{awaits, is_awaited}
use Rattle.gt_rules.specs.Legal.{operation_at}
use Rattle.gt_rules.specs.Operations.{operation, receives_from, offers}
use Rattle.gt_facts.proofs.Lookups.{any-numbered, ReceivesFrom, receives-recv, offers-operation, names-instr_at, Standing, standing, AtOperation}
use Rattle.gt_schedule.specs.declared.status.RunStatus.{RunStatus}
use Rattle.gt_schedule.specs.Counts.{times}
use Rattle.gt_schedule.specs.Schedule.{Schedule, status_of, is_parked, marks_at, mark_count}
use Rattle.gt_book.specs.Least.{NobodyRuns}
use Rattle.gt_book.specs.Steps.{timer_of}
use Rattle.gt_book.specs.View.{BookView, IsLawful, Agrees, wants, is_parked_at}
use Rattle.gt_book.proofs.Wanting.{operates-wanted}
use Rattle.gt_book.proofs.Fitting.{has_status, none-queued}
use Rattle.gt_runner.specs.declared.runner.Runner.{Runner}
use Rattle.gt_runner.specs.Served.{MarkFits, MarkFitsAt, awaited_by, operations_of, timers_of}
use Rattle.gt_runner.proofs.Marks.{HasMark, has-mark, mark-counts}
use Rattle.gt_runner.proofs.Awaiting.{WaitsAt, waits-by}

-- ---- who stands somewhere is parked where nobody runs

parked-status : (mode : Mode) (x : RunStatus) → mode ≡ Mode.At → Agrees mode x
    → x ≢ RunStatus.Queued → x ≢ RunStatus.InHand → (since : ℕ) × (x ≡ RunStatus.Parked since)
parked-status mode RunStatus.Queued is h queued in_hand = absurd (queued refl)
parked-status mode RunStatus.InHand is h queued in_hand = absurd (in_hand refl)
parked-status mode (RunStatus.Parked since) is h queued in_hand = (since, refl)
parked-status mode RunStatus.Ended is h queued in_hand = absurd (subst (λ (mode : Mode). Agrees mode RunStatus.Ended) is h)

waiting : (v : BookView) (g : ℕ) (i : Instr) → IsLawful v → NobodyRuns v → stands_at v.script v.state g ≡ Some i → (since : ℕ) × (status_of v.schedule g ≡ Some (RunStatus.Parked since))
waiting v g i lawful nobody e =
    let st : Standing v.script v.state g i = standing v.script v.state g i e in
    let status : HasNumber v.schedule.statuses g = has_status v.script v.state v.schedule g st.who lawful.fits st.there in
    let parked = parked-status st.who.mode status.item st.at (lawful.fits.agree g st.who status.item st.there status.there)
    (λ is. none-queued v.script v.state v.schedule lawful.fits nobody.queue g (status.there ∙ ap Some is))
    (λ is. nobody.hands g (status.there ∙ ap Some is)) in
    (parked.0, status.there ∙ ap Some parked.1)

-- ---- who receives from a timer awaits it, and nobody else does

no-timer_mutex : (w : Option What) → names_timer w ≡ true → IsTrue (names_mutex w) → ⊥
no-timer_mutex (Some What.Mutex) timer mutex = cc
no-timer_mutex _ timer mutex = cc

no-timer_wg : (w : Option What) → names_timer w ≡ true → IsTrue (names_wg w) → ⊥
no-timer_wg (Some What.Wg) timer wg = cc
no-timer_wg _ timer wg = cc

-- a timer is received from plainly, or as a case
operation-slot : (script : Script) (i : Instr) (n t : ℕ) → is_timer script t ≡ true → NamesRightly script i → operation i n ≡ Some (CaseKind.Recv t) → (k : ℕ) × (slice_get (operations_of i) k ≡ Some (CaseKind.Recv t))
operation-slot script (Instr.Recv o) zero t timer names e = (0, e)
operation-slot script (Instr.Recv o) (suc k) t timer names e = cc
operation-slot script (Instr.Send c v) zero t timer names e = cc
operation-slot script (Instr.Send c v) (suc k) t timer names e = cc
operation-slot script (Instr.Select cases default_to) zero t timer names e = cc
operation-slot script (Instr.Select cases default_to) (suc k) t timer names e = (k, slice_get-map (λ (c : Case). c.kind) cases k ∙ e)
operation-slot script (Instr.Lock m) zero t timer names e = let is : m ≡ t = cc in absurd (no-timer_mutex (what_at script t) timer (subst (λ m. IsTrue (is_mutex script m)) is names))
operation-slot script (Instr.Lock m) (suc k) t timer names e = cc
operation-slot script (Instr.Wait w) zero t timer names e = let is : w ≡ t = cc in absurd (no-timer_wg (what_at script t) timer (subst (λ w. IsTrue (is_wg script w)) is names))
operation-slot script (Instr.Wait w) (suc k) t timer names e = cc
operation-slot script _ n t timer names e = cc

slot-times : (script : Script) (t : ℕ) (kinds : List CaseKind) (k : ℕ) → is_timer script t ≡ true → slice_get kinds k ≡ Some (CaseKind.Recv t)
    → 0 < times t (filter_map (timer_of script) kinds)
slot-times script t [] k timer e = cc
slot-times script t (kind ∷ kinds) zero timer e =
    let is : kind ≡ CaseKind.Recv t = cc in
    let its : timer_of script kind ≡ Some t = ap (timer_of script) is ∙ ap (λ b. cond b (Some t) None) timer in
    subst (λ o. 0 < times t (cons_option o (filter_map (timer_of script) kinds))) (sym its) (rw (eq-eqb t t refl) (omega arith))
slot-times script t (kind ∷ kinds) (suc k) timer e = more (timer_of script kind) (slot-times script t kinds k timer e)
  where
    more : (o : Option ℕ) → 0 < times t (filter_map (timer_of script) kinds) → 0 < times t (cons_option o (filter_map (timer_of script) kinds))
    more None h = h
    more (Some u) h = omega arith

-- a party that stands at a receive from t
abbrev pub IsReceiver : Script → State → ℕ → Party → Type 0
IsReceiver script s t p = AtOperation script s p (CaseKind.Recv t)

abbrev awaited_in : Script → Option Instr → List ℕ
awaited_in script o = elim o as (λ _. List ℕ) [ None ↦ [] | Some i ↦ timers_of script i ]

receiver-awaits : (script : Script) (s : State) (t : ℕ) (p : Party) → IsGood script → is_timer script t ≡ true → IsReceiver script s t p → 0 < times t (awaited_by script s p.g)
receiver-awaits script s t p good timer at =
    let st : Standing script s p.g at.instr = standing script s p.g at.instr at.stands in
    let slot = operation-slot script at.instr p.case_no t timer (names-instr_at script st.who.place at.instr good st.on) at.has in
    subst (λ o. 0 < times t (awaited_in script o)) (sym at.stands) (slot-times script t (operations_of at.instr) slot.0 timer slot.1)

awaits-receiver : (script : Script) (s : State) (t g : ℕ) → 0 < times t (awaited_by script s g) → (p : Party) × IsReceiver script s t p
awaits-receiver script s t g h =
    let at : WaitsAt script s g t = waits-by script s g t (stands_at script s g) refl h in
    let from : ReceivesFrom at.instr t = receives-recv at.instr t at.offered in
    (record { g = g; case_no = from.case_no }, record { instr = at.instr; stands = at.stands; has = from.has })

-- ---- a timer has marks exactly where it is awaited

abbrev list_or_none : Option (List ℕ) → List ℕ
list_or_none None = []
list_or_none (Some ts) = ts

marks-option : (o : Option (List ℕ)) (m : Schedule) (g : ℕ) → numbered m.marks g ≡ o → marks_at m g ≡ (elim o as (λ _. List ℕ) [ None ↦ [] | Some ts ↦ ts ])
marks-option None m g e = rw e refl
marks-option (Some ts) m g e = rw e refl

pub receiver-marked : (x : Runner) (t : ℕ) (p : Party) → IsLawful x.book → NobodyRuns x.book → ((h : ℕ) → MarkFitsAt x.book.script x.book.state x.book.schedule h)
    → is_timer x.book.script t ≡ true → IsReceiver x.book.script x.book.state t p → 0 < mark_count x.book.schedule t
receiver-marked x t p lawful nobody fit timer at =
    let v : BookView = x.book in
    let parked = waiting v p.g at.instr lawful nobody at.stands in
    let marks : marks_at v.schedule p.g ≡ awaited_by v.script v.state p.g = subst (MarkFits (marks_at v.schedule p.g) (awaited_by v.script v.state p.g)) parked.1 (fit p.g) in
    has-count v.schedule p.g t (subst (λ ts. 0 < times t ts) (sym marks) (receiver-awaits v.script v.state t p lawful.good timer at))
  where
    has-count : (m : Schedule) (g t : ℕ) → 0 < times t (marks_at m g) → 0 < mark_count m t
    has-count m g t h =
        elim (numbered m.marks g) as (λ o. numbered m.marks g ≡ o → 0 < times t (list_or_none o) → 0 < mark_count m t) [
          | None ↦ λ e k. absurd (omega arith)
          | Some ts ↦ λ e k. mark-counts m g t ts e k
        ] refl h

-- who has a mark and is not to be taken stands there
pub marked-receiver : (x : Runner) (t : ℕ) → IsLawful x.book → NobodyRuns x.book → ((h : ℕ) → MarkFitsAt x.book.script x.book.state x.book.schedule h)
    → 0 < mark_count x.book.schedule t → (p : Party) × IsReceiver x.book.script x.book.state t p
marked-receiver x t lawful nobody fit some =
    let v : BookView = x.book in
    let m : HasMark v.schedule t = has-mark v.schedule t some in
    let marks : marks_at v.schedule m.who ≡ m.marks = marks-option (Some m.marks) v.schedule m.who m.there in
    let has : 0 < times t (marks_at v.schedule m.who) = subst (λ ts. 0 < times t ts) (sym marks) m.marked in
    awaits-receiver v.script v.state t m.who (by_status (status_of v.schedule m.who) refl has (fit m.who))
  where
    by_status : (o : Option RunStatus) → status_of x.book.schedule (has-mark x.book.schedule t some).who ≡ o
        → 0 < times t (marks_at x.book.schedule (has-mark x.book.schedule t some).who)
        → MarkFitsAt x.book.script x.book.state x.book.schedule (has-mark x.book.schedule t some).who
        → 0 < times t (awaited_by x.book.script x.book.state (has-mark x.book.schedule t some).who)
    by_status (Some (RunStatus.Parked since)) e has fit =
        let g : ℕ = (has-mark x.book.schedule t some).who in
        let is : marks_at x.book.schedule g ≡ awaited_by x.book.script x.book.state g = subst (MarkFits (marks_at x.book.schedule g) (awaited_by x.book.script x.book.state g)) e fit in
        subst (λ ts. 0 < times t ts) is has
    by_status (Some RunStatus.Queued) e has fit = absurd (none-queued x.book.script x.book.state x.book.schedule lawful.fits nobody.queue (has-mark x.book.schedule t some).who e)
    by_status (Some RunStatus.InHand) e has fit = absurd (nobody.hands (has-mark x.book.schedule t some).who e)
    by_status (Some RunStatus.Ended) e has fit =
        let g : ℕ = (has-mark x.book.schedule t some).who in
        let none : marks_at x.book.schedule g ≡ [] = subst (MarkFits (marks_at x.book.schedule g) (awaited_by x.book.script x.book.state g)) e fit in
        let off : 0 < times t [] = subst (λ ts. 0 < times t ts) none has in
        absurd (omega arith)
    by_status None e has fit =
        let g : ℕ = (has-mark x.book.schedule t some).who in
        let none : marks_at x.book.schedule g ≡ [] = subst (MarkFits (marks_at x.book.schedule g) (awaited_by x.book.script x.book.state g)) e fit in
        let off : 0 < times t [] = subst (λ ts. 0 < times t ts) none has in
        absurd (omega arith)

-- ---- who is awaited

any-found : {X : Type 0} (p : X → Bool) (xs : List X) → list_any p xs ≡ true → (g : ℕ) × ((y : X) × (numbered xs g ≡ Some y) × (p y ≡ true))
any-found p [] e = cc
any-found {X} p (y ∷ ys) e =
    elim (p y) as (λ b. p y ≡ b → (b || list_any p ys) ≡ true → (g : ℕ) × ((z : X) × (numbered (y ∷ ys) g ≡ Some z) × (p z ≡ true))) [
      | true ↦ λ q k. (1, (y, refl, q))
      | false ↦ λ q k. (let found = any-found p ys k in later p y ys found.0 found.1.0 found.1.1 found.1.2)
    ] refl e
  where
    later : {X : Type 0} (p : X → Bool) (y : X) (ys : List X) (g : ℕ) (z : X) → numbered ys g ≡ Some z → p z ≡ true → (g : ℕ) × ((z : X) × (numbered (y ∷ ys) g ≡ Some z) × (p z ≡ true))
    later p y ys zero z e h = cc
    later p y ys (suc i) z e h = (suc (suc i), (z, e, h))

pub right-of : (a b : Bool) → (a && b) ≡ true → b ≡ true
right-of true b e = e
right-of false b e = cc

pub left-of : (a b : Bool) → (a && b) ≡ true → a ≡ true
left-of true b e = refl
left-of false b e = cc

awaits-recv : (script : Script) (s : State) (g t : ℕ) (r : Goroutine) → goroutine_at s g ≡ Some r → awaits script 0 t r ≡ true → (p : Party) × IsReceiver script s t p
awaits-recv script s g t r there e =
    let at : offered_in (stands script r) ≡ true = right-of (r.world == 0) (offered_in (stands script r)) e in
    on (stands script r) refl at
  where
    offered_in : Option Instr → Bool
    offered_in o = elim o as (λ _. Bool) [ None ↦ false | Some i ↦ offers (receives_from t) i ]

    on : (o : Option Instr) → stands script r ≡ o → offered_in o ≡ true → (p : Party) × IsReceiver script s t p
    on None is h = cc
    on (Some i) is h =
        let from : ReceivesFrom i t = receives-recv i t h in (
          record { g = g; case_no = from.case_no },
          record { instr = i; stands = ap (λ (o : Option Goroutine). elim o as (λ _. Option Instr) [ None ↦ None | Some r ↦ stands script r ]) there ∙ is; has = from.has },
        )

pub awaited-receiver : (script : Script) (s : State) (t : ℕ) → is_awaited script s 0 t ≡ true → (p : Party) × IsReceiver script s t p
awaited-receiver script s t e =
    let found = any-found (awaits script 0 t) s.goroutines e in
    awaits-recv script s found.0 t found.1.0 found.1.1 found.1.2

pub receiver-awaited : (v : BookView) (t : ℕ) (p : Party) → IsLawful v → IsReceiver v.script v.state t p → is_awaited v.script v.state 0 t ≡ true
receiver-awaited v t p lawful at =
    let st : Standing v.script v.state p.g at.instr = standing v.script v.state p.g at.instr at.stands in
    let world : st.who.world ≡ 0 = lawful.formed.world.goroutines p.g st.who st.there in
    let on : stands v.script st.who ≡ Some at.instr =
    ap (λ (o : Option Goroutine). elim o as (λ _. Option Instr) [ None ↦ None | Some r ↦ stands v.script r ]) (sym st.there) ∙ at.stands in
    any-numbered (awaits v.script 0 t) v.state.goroutines p.g st.who st.there
    (rw (eq-eqb st.who.world 0 world) (ap (λ (o : Option Instr). elim o as (λ _. Bool) [ None ↦ false | Some i ↦ offers (receives_from t) i ]) on
    ∙ offers-operation (receives_from t) at.instr p.case_no (CaseKind.Recv t) at.has (eq-eqb t t refl)))

-- whether it stands there
receiver-receiving : (script : Script) (s : State) (t : ℕ) (p : Party) → IsReceiver script s t p → wants script s p (receives_from t) ≡ true
receiver-receiving script s t p at =
    let there : operation_at script s p ≡ Some (CaseKind.Recv t) =
    ap (λ (o : Option Instr). elim o as (λ _. Option CaseKind) [ None ↦ None | Some i ↦ operation i p.case_no ]) at.stands ∙ at.has in
    ap (λ (o : Option CaseKind). elim o as (λ _. Bool) [ None ↦ false | Some kind ↦ receives_from t kind ]) (operates-wanted script s p (CaseKind.Recv t) there) ∙ eq-eqb t t refl

pub receiver-parked : (v : BookView) (t : ℕ) (p : Party) → IsLawful v → NobodyRuns v → IsReceiver v.script v.state t p → is_parked_at v.script v.state v.schedule p (receives_from t) ≡ true
receiver-parked v t p lawful nobody at =
    let waits = waiting v p.g at.instr lawful nobody at.stands in
    let known : is_parked (status_of v.schedule p.g) ≡ true = ap is_parked waits.1 in
    rw (known, receiver-receiving v.script v.state t p at) refl
