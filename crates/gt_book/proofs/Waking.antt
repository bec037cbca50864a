-- Who goes on at an object, of those that wait there: each entry may come and is of one that is firmly ready; where there is none, nobody parked is.
use Rattle.std.proofs.Common.{◌≡◌, ℕ, zero, suc, cond, ◌+◌, ◌<◌, List, [], ◌∷◌, length, slice_get, nat_lt, eqb, refl, sym, ap, subst, ◌∙◌, arith, Option, None, Some, Bool, true, false, not, ◌||◌, is_some, is_none, IsTrue, ◌⊎◌, inl, inr}
use Rattle.std.specs.Prelude.{MatchOption}
use Rattle.std.proofs.lemmas.Bool.{eqb-true, eq-eqb, ltb-true, and_parts, and_from}
use Rattle.gt_model.specs.declared.script.Script.{Script}
use Rattle.gt_model.specs.declared.script.Instr.{Instr}
use Rattle.gt_model.specs.declared.script.What.{What}
use Rattle.gt_model.specs.declared.script.CaseKind.{CaseKind}
use Rattle.gt_model.specs.declared.script.Case.{Case}
use Rattle.gt_model.specs.declared.entry.Entry.{Entry}
use Rattle.gt_model.specs.declared.entry.Party.{Party}
use Rattle.gt_model.specs.declared.entry.Reason.{Reason}
use Rattle.gt_model.specs.Good.{IsGood}
use Rattle.gt_model.specs.Script.{what_at, names_chan, names_mutex, names_wg, capacity_of, instr_at, is_chan, is_mutex, is_cond, mutex_of, names_ctx}
use Rattle.gt_rules.specs.State.{State, Channel, goroutine_at, channel_at, items_of, item_count, is_closed, is_locked, is_done, counter_of, stands_at, mode_of, has_ended}
use Rattle.gt_rules.specs.Operations.{operation, receives_from, sends_to}
use Rattle.gt_rules.specs.Panics.{fault, case_fault, when, or_else, open_fault, panic_at}
use Rattle.gt_rules.specs.Ready.{is_ready_alone, is_ready_recv, no_timer}
use Rattle.gt_rules.specs.Legal.{May, MayPanic, ChoosesClosed, Gives, Operates, operation_at}
use Rattle.gt_rules.specs.Change.{change_of}
use Rattle.gt_facts.proofs.Lookups.{AtOperation, at_operation, IsCase, is-case, locks-Operates, waits-Operates, mode_there}
use Rattle.gt_facts.proofs.Makers.{gives-ready, free-ready, done-ready, ended-ready}
use Rattle.gt_machine.specs.Machine.{is_cut}
use Rattle.gt_schedule.specs.Counts.{as_number, often}
use Rattle.gt_schedule.specs.Schedule.{Schedule, at_case, object_of, parties_at, status_of, is_in_hand, is_parked, Served, plainly}
use Rattle.gt_model.specs.declared.state.Goroutine.{Goroutine}
use Rattle.gt_model.specs.declared.state.Mode.{Mode}
use Rattle.gt_facts.specs.Formed.{IsFormed}
use Rattle.gt_facts.proofs.Within.{mutex_of-is, suspended-cond, relocking-cond}
use Rattle.gt_book.specs.Steps.{or_next, goes_alone, receives_alone, sends_alone, takes_alone}
use Rattle.gt_book.specs.Woken.{first_alone, alone_of, woken_by, is_longer, first_woken, next_woken, woken_in}
use Rattle.gt_book.specs.Calm.{IsCalmBut, unmade}
use Rattle.gt_book.specs.View.{Fits, AreWoken, is_waiting, is_parked_at, is_firm_at, wanted_at, wants}
use Rattle.gt_book.proofs.Firm.{operation_of, firm_on, firm-stood, firm-quiet, choice-sound, made-sound, case-there, never-both, both-false, panic-standing, calm-standing, open-no_fault, stood, firm-locked, unless-true}
use Rattle.gt_book.proofs.Wanting.{Wanting, operates, suspends, relocks, wanting, operates-wanted, operates-named, relocking-wanted}
use Rattle.gt_book.proofs.Woken.{cond-unready, woken_as, woken-stands, woken-relocks, locked-none}
use Rattle.gt_book.proofs.Fitting.{first-waiting, first-sending}
use Rattle.gt_book.proofs.Stays.{alters}

-- ---- who stands at an operation of a channel

at-recv : (o : Option CaseKind) (c : ℕ) → (elim o as (λ o. Bool) [ None ↦ false | Some kind ↦ receives_from c kind ]) ≡ true → o ≡ Some (CaseKind.Recv c)
at-recv None c h = cc
at-recv (Some (CaseKind.Recv o)) c h = ap (λ o. Some (CaseKind.Recv o)) (eqb-true o c h)
at-recv (Some (CaseKind.Send d v)) c h = cc

record AtSend (o : Option CaseKind) (c : ℕ) : Type 0 where
  value : ℕ
  is : o ≡ Some (CaseKind.Send c value)

at-send : (o : Option CaseKind) (c : ℕ) → (elim o as (λ o. Bool) [ None ↦ false | Some kind ↦ sends_to c kind ]) ≡ true → AtSend o c
at-send None c h = cc
at-send (Some (CaseKind.Recv o)) c h = cc
at-send (Some (CaseKind.Send d v)) c h = record { value = v; is = ap (λ d. Some (CaseKind.Send d v)) (eqb-true d c h) }

either : (a b : Bool) → b ≡ true → (a || b) ≡ true
either true b h = refl
either false b h = h

first-true : (a b : Bool) → a ≡ true → (a || b) ≡ true
first-true true b h = refl
first-true false b h = cc

if-true : (b : Bool) → (b ≡ false → ⊥) → b ≡ true
if-true true h = refl
if-true false h = absurd (h refl)

open-is : (o : Option Channel) → is_some o ≡ true → (elim o as (λ o. Bool) [ None ↦ false | Some r ↦ r.closed ]) ≡ false → (elim o as (λ o. Bool) [ None ↦ false | Some r ↦ not r.closed ]) ≡ true
open-is None made h = cc
open-is (Some r) made h = ap not h

closed-fault : (o : Option Channel) (closed : Bool) → is_some o ≡ true → closed ≡ true → or_else (when (is_none o) Reason.Unmade) (when closed Reason.Closed) ≡ Some Reason.Closed
closed-fault None closed made h = cc
closed-fault (Some r) true made h = refl
closed-fault (Some r) false made h = cc

both-none : (o next : Option Entry) → or_next o next ≡ None → (o ≡ None) × (next ≡ None)
both-none None next h = (refl, h)
both-none (Some e) next h = cc

-- ---- the one that goes on

-- of two that may go on one is asked first: that somebody does, and that nobody does
abbrev asked : Option Entry → Option Entry → Bool → Option Entry
asked receiver sender true = or_next sender receiver
asked receiver sender false = or_next receiver sender

either-first : (script : Script) (s : State) (receiver sender : Option Party) {x : Option Entry} (b : Bool) → first_woken script s receiver sender b ≡ x
    → asked (woken_by script s receiver) (woken_by script s sender) b ≡ x
either-first script s receiver sender true h = h
either-first script s receiver sender false h = h

first-some : (receiver sender : Option Entry) (e : Entry) (b : Bool) (P : Type 0) → (receiver ≡ Some e → P) → (sender ≡ Some e → P) → asked receiver sender b ≡ Some e → P
first-some None sender e false P by_receiver by_sender h = by_sender h
first-some (Some x) sender e false P by_receiver by_sender h = by_receiver h
first-some receiver None e true P by_receiver by_sender h = by_receiver h
first-some receiver (Some x) e true P by_receiver by_sender h = by_sender h

first-none : (receiver sender : Option Entry) (b : Bool) → asked receiver sender b ≡ None → (receiver ≡ None) × (sender ≡ None)
first-none None sender false h = (refl, h)
first-none (Some x) sender false h = cc
first-none receiver None true h = (h, refl)
first-none receiver (Some x) true h = cc

-- a mutex is no channel
chan-mutex : (w : Option What) → IsTrue (names_chan w) → IsTrue (names_mutex w) → ⊥
chan-mutex (Some What.Mutex) chan mutex = cc
chan-mutex _ chan mutex = cc

-- an entry of one that waits at an object of some, and is firmly ready there
pub record IsWoken (script : Script) (s : State) (m : Schedule) (these : ℕ → Bool) (e : Entry) : Type 0 where
  pub may : May script s e
  pub served : Served m e
  pub woken : AreWoken script s m (e ∷ [])
  pub here : (o : ℕ) → these o ≡ false → alters script (change_of e) o ≡ false
  pub alone : (change_of e).partner ≡ None
  pub quiet : (change_of e).broadcast ≡ None
  pub uncut : is_cut (change_of e).tree ≡ false

-- what a receive gives, by the values that the channel keeps and whether it is closed
abbrev GivesOf : List ℕ → Bool → Option ℕ → Type 0
GivesOf items closed None = (items ≡ []) × IsTrue closed
GivesOf items closed (Some v) = slice_get items 0 ≡ Some v

gives-of : (s : State) (c : ℕ) (v : Option ℕ) → GivesOf (items_of s c) (is_closed s c) v → Gives s c v
gives-of s c None h = h
gives-of s c (Some v) h = h

record Receiving (p : Party) (c : ℕ) (items : List ℕ) (closed : Bool) (e : Entry) : Type 0 where
  v : Option ℕ
  gives : GivesOf items closed v
  is : Entry.Recv p c v ≡ e

receiving : (p : Party) (c : ℕ) (items : List ℕ) (closed : Bool) (e : Entry) → receives_alone p c items closed ≡ Some e → Receiving p c items closed e
receiving p c (v ∷ items) closed e h = record { v = Some v; gives = refl; is = cc }
receiving p c [] true e h = record { v = None; gives = (refl, refl); is = cc }
receiving p c [] false e h = cc

none-receiving : (p : Party) (c : ℕ) (items : List ℕ) (closed : Bool) → receives_alone p c items closed ≡ None → (items ≡ []) × (closed ≡ false)
none-receiving p c (v ∷ items) closed h = cc
none-receiving p c [] true h = cc
none-receiving p c [] false h = (refl, refl)

abbrev Sending : Party → ℕ → ℕ → Bool → Bool → Entry → Type 0
Sending p c v closed room e = ((closed ≡ true) × (Entry.Panic p Reason.Closed ≡ e)) ⊎ ((closed ≡ false) × (room ≡ true) × (Entry.Send p c v ≡ e))

sending : (p : Party) (c v : ℕ) (closed room : Bool) (e : Entry) → sends_alone p c v closed room ≡ Some e → Sending p c v closed room e
sending p c v true room e h = inl (refl, cc)
sending p c v false true e h = inr (refl, refl, cc)
sending p c v false false e h = cc

none-sending : (p : Party) (c v : ℕ) (closed room : Bool) → sends_alone p c v closed room ≡ None → (closed ≡ false) × (room ≡ false)
none-sending p c v true room h = cc
none-sending p c v false true h = cc
none-sending p c v false false h = (refl, refl)

-- what goes on by itself where it receives: a receive from a channel, the lock of a mutex that is free, the end of a wait, or that of a context
data Getting (s : State) (p : Party) (o : ℕ) (w : Option What) (e : Entry) : Type 0 where
  gets : (v : Option ℕ) → IsTrue (names_chan w) → Gives s o v → Entry.Recv p o v ≡ e → Getting s p o w e
  locks : IsTrue (names_mutex w) → is_locked s o ≡ false → Entry.Lock p.g o ≡ e → Getting s p o w e
  passes_by : IsTrue (names_wg w) → counter_of s o ≡ 0 → Entry.WgWait p.g o ≡ e → Getting s p o w e
  has_end : IsTrue (names_ctx w) → has_ended s o ≡ true → Entry.CtxDone p o ≡ e → Getting s p o w e

-- by what is declared
abbrev got_from : State → Party → ℕ → Option What → Option Entry
got_from s p o w = cond (names_chan w) (receives_alone p o (items_of s o) (is_closed s o)) (takes_alone s p o w)

free-some : (locked : Bool) (x e : Entry) → cond locked None (Some x) ≡ Some e → (locked ≡ false) × (x ≡ e)
free-some true x e h = cc
free-some false x e h = (refl, cc)

done-some : (done : Bool) (x e : Entry) → cond done (Some x) None ≡ Some e → (done ≡ true) × (x ≡ e)
done-some true x e h = (refl, cc)
done-some false x e h = cc

getting : (s : State) (p : Party) (o : ℕ) (w : Option What) (e : Entry) → got_from s p o w ≡ Some e → Getting s p o w e
getting s p o (Some (What.Chan cap)) e h =
    let x : Receiving p o (items_of s o) (is_closed s o) e = receiving p o (items_of s o) (is_closed s o) e h in
    gets x.v refl (gives-of s o x.v x.gives) x.is
getting s p o (Some What.Mutex) e h = let parts = free-some (is_locked s o) (Entry.Lock p.g o) e h in locks refl parts.0 parts.1
getting s p o (Some What.Wg) e h =
    let parts = done-some (is_done s o) (Entry.WgWait p.g o) e h in
    passes_by refl (eqb-true (counter_of s o) 0 parts.0) parts.1
getting s p o (Some (What.Ctx parent form)) e h = let parts = done-some (has_ended s o) (Entry.CtxDone p o) e h in has_end refl parts.0 parts.1
getting s p o _ e h = cc

getting-ready : (script : Script) (s : State) (p : Party) (o : ℕ) (e : Entry) → Getting s p o (what_at script o) e → is_ready_alone script s no_timer (CaseKind.Recv o) ≡ true
getting-ready script s p o e (gets v chan gives is) = gives-ready script s o v chan gives no_timer
getting-ready script s p o e (locks mutex free is) = free-ready s o (what_at script o) mutex free no_timer
getting-ready script s p o e (passes_by wg done is) = done-ready s o (what_at script o) wg done no_timer
getting-ready script s p o e (has_end ctx end is) = ended-ready s o (what_at script o) ctx end no_timer

-- where nothing goes on, the receive is not ready
free-none : (locked : Bool) (x : Entry) → cond locked None (Some x) ≡ None → not locked ≡ false
free-none true x h = refl
free-none false x h = cc

done-none : (done : Bool) (x : Entry) → cond done (Some x) None ≡ None → done ≡ false
done-none true x h = cc
done-none false x h = refl

none-getting : (s : State) (p : Party) (o : ℕ) (w : Option What) → got_from s p o w ≡ None → is_ready_recv s no_timer o w ≡ false
none-getting s p o None h = refl
none-getting s p o (Some What.Timer) h = refl
none-getting s p o (Some What.Ticker) h = refl
none-getting s p o (Some (What.AfterFunc func)) h = refl
none-getting s p o (Some (What.Chan cap)) h =
    let quiet = none-receiving p o (items_of s o) (is_closed s o) h in
    both-false (nat_lt 0 (item_count s o)) (is_closed s o) (ap (λ (xs : List ℕ). nat_lt 0 (length xs)) quiet.0) quiet.1
none-getting s p o (Some What.Mutex) h = free-none (is_locked s o) (Entry.Lock p.g o) h
none-getting s p o (Some (What.Cond mutex)) h = refl
none-getting s p o (Some (What.Ctx parent form)) h = done-none (has_ended s o) (Entry.CtxDone p o) h
none-getting s p o (Some (What.Hook ctx func)) h = refl
none-getting s p o (Some What.Error) h = refl
none-getting s p o (Some What.Wg) h = done-none (is_done s o) (Entry.WgWait p.g o) h
none-getting s p o (Some What.Function) h = refl

-- an operation of an instruction goes on by itself, by this entry
record Alone (script : Script) (s : State) (g : ℕ) (i : Instr) (e : Entry) : Type 0 where
  case_no : ℕ
  kind : CaseKind
  has : operation i case_no ≡ Some kind
  goes : goes_alone script s (at_case g case_no) kind ≡ Some e

record AloneCase (script : Script) (s : State) (g n : ℕ) (cases : List Case) (e : Entry) : Type 0 where
  place : ℕ
  item : Case
  there : slice_get cases place ≡ Some item
  goes : goes_alone script s (at_case g (n + place)) item.kind ≡ Some e

alone-case : (script : Script) (s : State) (g n : ℕ) (cases : List Case) (e : Entry) → first_alone script s g n cases ≡ Some e → AloneCase script s g n cases e
alone-case script s g n [] e h = cc
alone-case script s g n (c ∷ cases) e h =
    elim (goes_alone script s (at_case g n) c.kind) as (λ o. goes_alone script s (at_case g n) c.kind ≡ o → or_next o (first_alone script s g (n + 1) cases) ≡ Some e
    → AloneCase script s g n (c ∷ cases) e) [
      | None ↦ λ q k.
          let rest : AloneCase script s g (n + 1) cases e = alone-case script s g (n + 1) cases e k in
          let number : (n + 1) + rest.place ≡ n + suc rest.place = omega arith in
          record {
            place = suc rest.place;
            item = rest.item;
            there = rest.there;
            goes = subst (λ j. goes_alone script s (at_case g j) rest.item.kind ≡ Some e) number rest.goes;
          }
      | Some x ↦ λ q k.
          let number : n ≡ n + 0 = omega arith in
          record { place = 0; item = c; there = refl; goes = subst (λ j. goes_alone script s (at_case g j) c.kind ≡ Some e) number (q ∙ k) }
    ] refl h

none-case : (script : Script) (s : State) (g n : ℕ) (cases : List Case) (j : ℕ) (c : Case) → first_alone script s g n cases ≡ None → slice_get cases j ≡ Some c
    → goes_alone script s (at_case g (n + j)) c.kind ≡ None
none-case script s g n [] j c h there = cc
none-case script s g n (d ∷ cases) zero c h there =
    let is : d ≡ c = cc in
    let number : n ≡ n + 0 = omega arith in
    subst (λ j. goes_alone script s (at_case g j) c.kind ≡ None) number
    (subst (λ (c : Case). goes_alone script s (at_case g n) c.kind ≡ None) is (both-none (goes_alone script s (at_case g n) d.kind) (first_alone script s g (n + 1) cases) h).0)
none-case script s g n (d ∷ cases) (suc j) c h there =
    let number : (n + 1) + j ≡ n + suc j = omega arith in
    subst (λ j. goes_alone script s (at_case g j) c.kind ≡ None) number
    (none-case script s g (n + 1) cases j c (both-none (goes_alone script s (at_case g n) d.kind) (first_alone script s g (n + 1) cases) h).1 there)

alone : (script : Script) (s : State) (g : ℕ) (i : Instr) (e : Entry) → alone_of script s g (Some i) ≡ Some e → Alone script s g i e
alone script s g (Instr.Recv o) e h = record { case_no = 0; kind = CaseKind.Recv o; has = refl; goes = h }
alone script s g (Instr.Lock m) e h = record { case_no = 0; kind = CaseKind.Recv m; has = refl; goes = h }
alone script s g (Instr.Wait w) e h = record { case_no = 0; kind = CaseKind.Recv w; has = refl; goes = h }
alone script s g (Instr.Send c v) e h = record { case_no = 0; kind = CaseKind.Send c v; has = refl; goes = h }
alone script s g (Instr.Select cases default_to) e h =
    let x : AloneCase script s g 1 cases e = alone-case script s g 1 cases e h in
    let number : 1 + x.place ≡ suc x.place = omega arith in
    record {
      case_no = suc x.place;
      kind = x.item.kind;
      has = case-there cases x.place x.item x.there;
      goes = subst (λ j. goes_alone script s (at_case g j) x.item.kind ≡ Some e) number x.goes;
    }
alone script s g i e h = cc

none-alone : (script : Script) (s : State) (g : ℕ) (i : Instr) (n : ℕ) (kind : CaseKind) → alone_of script s g (Some i) ≡ None → operation i n ≡ Some kind
    → goes_alone script s (at_case g n) kind ≡ None
none-alone script s g (Instr.Recv o) zero kind h has = let is : CaseKind.Recv o ≡ kind = cc in subst (λ kind. goes_alone script s (at_case g 0) kind ≡ None) is h
none-alone script s g (Instr.Recv o) (suc k) kind h has = cc
none-alone script s g (Instr.Lock m) zero kind h has = let is : CaseKind.Recv m ≡ kind = cc in subst (λ kind. goes_alone script s (at_case g 0) kind ≡ None) is h
none-alone script s g (Instr.Lock m) (suc k) kind h has = cc
none-alone script s g (Instr.Wait w) zero kind h has = let is : CaseKind.Recv w ≡ kind = cc in subst (λ kind. goes_alone script s (at_case g 0) kind ≡ None) is h
none-alone script s g (Instr.Wait w) (suc k) kind h has = cc
none-alone script s g (Instr.Send c v) zero kind h has = let is : CaseKind.Send c v ≡ kind = cc in subst (λ kind. goes_alone script s (at_case g 0) kind ≡ None) is h
none-alone script s g (Instr.Send c v) (suc k) kind h has = cc
none-alone script s g (Instr.Select cases default_to) zero kind h has = cc
none-alone script s g (Instr.Select cases default_to) (suc k) kind h has =
    let one : IsCase cases k kind = is-case cases k kind has in
    let number : 1 + k ≡ suc k = omega arith in
    subst (λ kind. goes_alone script s (at_case g (suc k)) kind ≡ None) one.its
    (subst (λ j. goes_alone script s (at_case g j) one.item.kind ≡ None) number (none-case script s g 1 cases k one.item h one.there))
none-alone script s g i n kind h has = cc

-- an operation that goes on by itself is ready so
goes-ready : (script : Script) (s : State) (p : Party) (kind : CaseKind) (e : Entry) → goes_alone script s p kind ≡ Some e → is_ready_alone script s no_timer kind ≡ true
goes-ready script s p (CaseKind.Recv o) e h = getting-ready script s p o e (getting s p o (what_at script o) e h)
goes-ready script s p (CaseKind.Send c v) e h =
    elim (sending p c v (is_closed s c) (nat_lt (item_count s c) (capacity_of script c)) e h) [
      | inl k ↦ first-true (is_closed s c) (nat_lt (item_count s c) (capacity_of script c)) k.0
      | inr k ↦ either (is_closed s c) (nat_lt (item_count s c) (capacity_of script c)) k.1
    ]

-- ---- who names what was made makes no misuse but at a closed channel

-- what one sends to was made
send-made : (s : State) (i : Instr) (n c v : ℕ) → operation i n ≡ Some (CaseKind.Send c v) → unmade s i ≡ None → is_some (channel_at s c) ≡ true
send-made s (Instr.Send d w) zero c v has made = let is : d ≡ c = cc in made-sound (channel_at s c) (subst (λ d. case_fault s (CaseKind.Send d w) ≡ None) is made)
send-made s (Instr.Send d w) (suc k) c v has made = cc
send-made s (Instr.Select cases default_to) zero c v has made = cc
send-made s (Instr.Select cases default_to) (suc k) c v has made =
    let one : IsCase cases k (CaseKind.Send c v) = is-case cases k (CaseKind.Send c v) has in
    made-sound (channel_at s c) (subst (λ kind. case_fault s kind ≡ None) one.its (choice-sound s cases k one.item made one.there))
send-made s (Instr.Recv o) zero c v has made = cc
send-made s (Instr.Recv o) (suc k) c v has made = cc
send-made s (Instr.Lock m) zero c v has made = cc
send-made s (Instr.Lock m) (suc k) c v has made = cc
send-made s (Instr.Wait w) zero c v has made = cc
send-made s (Instr.Wait w) (suc k) c v has made = cc
send-made s i n c v has made = cc

unfaulty : (script : Script) (s : State) (i : Instr) (n : ℕ) (kind : CaseKind) → operation i n ≡ Some kind → unmade s i ≡ None
    → ((c v : ℕ) → kind ≡ CaseKind.Send c v → is_closed s c ≡ false) → fault script s i ≡ None
unfaulty script s (Instr.Recv o) n kind has made unshut = made
unfaulty script s (Instr.Lock m) n kind has made unshut = refl
unfaulty script s (Instr.Wait w) n kind has made unshut = refl
unfaulty script s (Instr.Send c v) zero kind has made unshut =
    let is : kind ≡ CaseKind.Send c v = cc in
    open-no_fault s c (record { made = made-sound (channel_at s c) made; unshut = unshut c v is })
unfaulty script s (Instr.Send c v) (suc k) kind has made unshut = cc
unfaulty script s (Instr.Select cases default_to) n kind has made unshut = made
unfaulty script s i n kind has made unshut = cc

-- who sends to a closed channel panics: at a choice where it chooses that case
panicking : (script : Script) (s : State) (g : ℕ) (i : Instr) (n c v : ℕ) → stands_at script s g ≡ Some i → operation i n ≡ Some (CaseKind.Send c v) → unmade s i ≡ None → is_closed s c ≡ true
    → MayPanic script s (at_case g n) Reason.Closed
panicking script s g (Instr.Send d w) zero c v stands has made shut =
    let is : d ≡ c = cc in
    let misuse : open_fault s d ≡ Some Reason.Closed =
    closed-fault (channel_at s d) (is_closed s d) (made-sound (channel_at s d) made) (ap (is_closed s) is ∙ shut) in
    let panic : panic_at script s g ≡ Some (0, Reason.Closed) =
    panic-standing script s g (Instr.Send d w) stands
    ∙ ap (λ (o : Option Reason). elim o as (λ o. Option (ℕ × Reason)) [ None ↦ None | Some reason ↦ Some (0, reason) ]) misuse in
    subst (λ o. MatchOption o (ChoosesClosed s (operation_at script s (at_case g 0)) Reason.Closed) (λ x. x ≡ (0, Reason.Closed))) (sym panic) refl
panicking script s g (Instr.Send d w) (suc k) c v stands has made shut = cc
panicking script s g (Instr.Recv o) zero c v stands has made shut = cc
panicking script s g (Instr.Recv o) (suc k) c v stands has made shut = cc
panicking script s g (Instr.Lock m) zero c v stands has made shut = cc
panicking script s g (Instr.Lock m) (suc k) c v stands has made shut = cc
panicking script s g (Instr.Wait w) zero c v stands has made shut = cc
panicking script s g (Instr.Wait w) (suc k) c v stands has made shut = cc
panicking script s g (Instr.Select cases default_to) n c v stands has made shut =
    let calm : panic_at script s g ≡ None = calm-standing script s g (Instr.Select cases default_to) stands made in
    let at : operation_at script s (at_case g n) ≡ Some (CaseKind.Send c v) = ap (λ o. operation_of o n) stands ∙ has in
    subst (λ o. MatchOption o (ChoosesClosed s (operation_at script s (at_case g n)) Reason.Closed) (λ x. x ≡ (n, Reason.Closed))) (sym calm)
    (subst (λ o. ChoosesClosed s o Reason.Closed) (sym at) (shut, refl))
panicking script s g i n c v stands has made shut = cc

takes-uncut : (p : Party) (c : ℕ) (v : Option ℕ) → is_cut (change_of (Entry.Recv p c v)).tree ≡ false
takes-uncut p c None = refl
takes-uncut p c (Some v) = refl

takes-here : (script : Script) (p : Party) (c : ℕ) (v : Option ℕ) (o : ℕ) → eqb o c ≡ false → alters script (change_of (Entry.Recv p c v)) o ≡ false
takes-here script p c None o h = refl
takes-here script p c (Some v) o h = both-false (eqb o c || false) false (both-false (eqb o c) false h refl) refl

-- some objects are apart from one of others
pub apart-of : (these : ℕ → Bool) (o c : ℕ) → these c ≡ true → these o ≡ false → eqb o c ≡ false
apart-of these o c h k = unless-true (eqb o c) (λ is. never-both (these o) (ap these (eqb-true o c is) ∙ h) k)

module _ (script : Script) (s : State) (m : Schedule) (these : ℕ → Bool) (c : ℕ) (here : these c ≡ true) (good : IsGood script) (formed : IsFormed script s) (fits : Fits script s m)
    (but : IsCalmBut script s m these) where
  pub declared : c < length script.decls
  declared = but.declared c here

  -- who is parked goes on
  parked-served : (g : ℕ) → is_waiting m g ≡ true → IsTrue (is_in_hand (status_of m g) || is_parked (status_of m g))
  parked-served g waits = either (is_in_hand (status_of m g)) (is_parked (status_of m g)) waits

  -- who is parked at an operation that goes on by itself is firmly ready, and its operation is on c
  module _ (g : ℕ) (i : Instr) (e : Entry) (waits : is_waiting m g ≡ true) (stands : stands_at script s g ≡ Some i) where
    there : (n : ℕ) (kind : CaseKind) → operation i n ≡ Some kind → operation_at script s (at_case g n) ≡ Some kind
    there n kind has = ap (λ o. operation_of o n) stands ∙ has

    made : unmade s i ≡ None
    made = but.objects g i waits stands

    firm : (x : Alone script s g i e) → is_firm_at script s m g ≡ true
    firm x =
        if-true (is_firm_at script s m g) (λ quiet.
        never-both (is_ready_alone script s no_timer x.kind) (goes-ready script s (at_case g x.case_no) x.kind e x.goes)
        (firm-quiet script s (is_waiting m) g i x.case_no x.kind (ap (firm_on script s (is_waiting m) g) (sym stands) ∙ firm-stood script s (is_waiting m) g (goroutine_at s g) quiet) x.has).alone)

    on-these : (x : Alone script s g i e) → these (object_of x.kind) ≡ true
    on-these x =
        if-true (these (object_of x.kind)) (λ apart.
        never-both (is_ready_alone script s no_timer x.kind) (goes-ready script s (at_case g x.case_no) x.kind e x.goes)
        (but.others g x.case_no x.kind waits (there x.case_no x.kind x.has) apart))

    -- who receives makes no misuse
    quiet-recv : (n o : ℕ) → operation i n ≡ Some (CaseKind.Recv o) → Operates script s (at_case g n) (CaseKind.Recv o)
    quiet-recv n o has = record {
      stands = there n (CaseKind.Recv o) has;
      calm = calm-standing script s g i stands (unfaulty script s i n (CaseKind.Recv o) has made (λ d w is. cc));
    }

    receives : (x : Alone script s g i e) (n o : ℕ) → these o ≡ true → operation i n ≡ Some (CaseKind.Recv o) → (then : Entry) → Getting s (at_case g n) o (what_at script o) then → IsWoken script s m these then
    receives x n o on has then (gets v chan gives is) =
        subst (IsWoken script s m these) is (record {
          may = (quiet-recv n o has, chan, gives);
          served = (parked-served g waits, tt);
          woken = ((waits, firm x), tt);
          here = λ d h. takes-here script (at_case g n) o v d (apart-of these d o on h);
          alone = refl;
          quiet = refl;
          uncut = takes-uncut (at_case g n) o v;
        })
    receives x n o on has then (locks mutex free is) =
        subst (IsWoken script s m these) is (record {
          may = ((locks-Operates script s (at_case g n) o good (quiet-recv n o has) mutex).0, mutex, free);
          served = (parked-served g waits, tt);
          woken = ((waits, firm x), tt);
          here = λ d h. both-false (eqb d o) false (apart-of these d o on h) refl;
          alone = refl;
          quiet = refl;
          uncut = refl;
        })
    receives x n o on has then (passes_by wg done is) =
        subst (IsWoken script s m these) is (record {
          may = ((waits-Operates script s (at_case g n) o good (quiet-recv n o has) wg).0, wg, done);
          served = (parked-served g waits, tt);
          woken = ((waits, firm x), tt);
          here = λ d h. refl;
          alone = refl;
          quiet = refl;
          uncut = refl;
        })
    receives x n o on has then (has_end ctx end is) =
        subst (IsWoken script s m these) is (record {
          may = (quiet-recv n o has, ctx, end);
          served = (parked-served g waits, tt);
          woken = ((waits, firm x), tt);
          here = λ d h. refl;
          alone = refl;
          quiet = refl;
          uncut = refl;
        })

    panics : (x : Alone script s g i e) (n d v : ℕ) → operation i n ≡ Some (CaseKind.Send d v) → is_closed s d ≡ true → IsWoken script s m these (Entry.Panic (at_case g n) Reason.Closed)
    panics x n d v has shut = record {
      may = panicking script s g i n d v stands has made shut;
      served = (parked-served g waits, tt);
      woken = ((waits, firm x), tt);
      here = λ o h. refl;
      alone = refl;
      quiet = refl;
      uncut = refl;
    }

    sends : (x : Alone script s g i e) (n d v : ℕ) → these d ≡ true → operation i n ≡ Some (CaseKind.Send d v) → is_closed s d ≡ false → nat_lt (item_count s d) (capacity_of script d) ≡ true
        → IsWoken script s m these (Entry.Send (at_case g n) d v)
    sends x n d v on has unshut room =
        let shut_not : (b w : ℕ) → CaseKind.Send d v ≡ CaseKind.Send b w → is_closed s b ≡ false =
        λ b w is. (let same : d ≡ b = cc in subst (λ b. is_closed s b ≡ false) same unshut) in
        let calm : panic_at script s g ≡ None = calm-standing script s g i stands (unfaulty script s i n (CaseKind.Send d v) has made shut_not) in
        record {
          may = (record { stands = there n (CaseKind.Send d v) has; calm = calm }, open-is (channel_at s d) (send-made s i n d v has made) unshut, ltb-true (item_count s d) (capacity_of script d) room);
          served = (parked-served g waits, tt);
          woken = ((waits, firm x), tt);
          here = λ o h. both-false (eqb o d || false) false (both-false (eqb o d) false (apart-of these o d on h) refl) refl;
          alone = refl;
          quiet = refl;
          uncut = refl;
        }

    woken-at : (x : Alone script s g i e) (kind : CaseKind) → x.kind ≡ kind → these (object_of kind) ≡ true → IsWoken script s m these e
    woken-at x (CaseKind.Recv o) is on =
        let has : operation i x.case_no ≡ Some (CaseKind.Recv o) = x.has ∙ ap Some is in
        let goes : goes_alone script s (at_case g x.case_no) (CaseKind.Recv o) ≡ Some e = ap (goes_alone script s (at_case g x.case_no)) (sym is) ∙ x.goes in
        receives x x.case_no o on has e (getting s (at_case g x.case_no) o (what_at script o) e goes)
    woken-at x (CaseKind.Send d v) is on =
        let has : operation i x.case_no ≡ Some (CaseKind.Send d v) = x.has ∙ ap Some is in
        let goes : goes_alone script s (at_case g x.case_no) (CaseKind.Send d v) ≡ Some e = ap (goes_alone script s (at_case g x.case_no)) (sym is) ∙ x.goes in
        elim (sending (at_case g x.case_no) d v (is_closed s d) (nat_lt (item_count s d) (capacity_of script d)) e goes) [
          | inl k ↦ subst (IsWoken script s m these) k.1 (panics x x.case_no d v has k.0)
          | inr k ↦ subst (IsWoken script s m these) k.2 (sends x x.case_no d v on has k.0 k.1)
        ]

    alone-woken : alone_of script s g (Some i) ≡ Some e → IsWoken script s m these e
    alone-woken h = let x : Alone script s g i e = alone script s g i e h in woken-at x x.kind refl (on-these x)

  -- who was signalled at a Cond the mutex of which is free is firmly ready, and waits for one of these
  module _ (g k : ℕ) (waits : is_waiting m g ≡ true) (mode : mode_of s g ≡ Some (Mode.Relocking k)) (free : is_locked s (mutex_of script k) ≡ false) where
    relocks-firm : is_firm_at script s m g ≡ true
    relocks-firm =
        if-true (is_firm_at script s m g) (λ quiet.
        never-both (is_locked s (mutex_of script k)) (firm-locked script s (is_waiting m) g k (goroutine_at s g) mode quiet) free)

    relocks-these : these (mutex_of script k) ≡ true
    relocks-these = if-true (these (mutex_of script k)) (λ apart. never-both (is_locked s (mutex_of script k)) (but.relocks g k waits mode apart) free)

    relocks-woken : IsWoken script s m these (Entry.CondWake g k)
    relocks-woken = record {
      may = (mode, free);
      served = (parked-served g waits, tt);
      woken = ((waits, relocks-firm), tt);
      here = λ o h. both-false (eqb o (mutex_of script k)) false (apart-of these o (mutex_of script k) relocks-these h) refl;
      alone = refl;
      quiet = refl;
      uncut = refl;
    }

  by-mode : (p : Party) (e : Entry) (r : Goroutine) (mode : Mode) → is_waiting m p.g ≡ true → goroutine_at s p.g ≡ Some r → r.mode ≡ mode → woken_as script s p.g r mode ≡ Some e
      → IsWoken script s m these e
  by-mode p e r Mode.At waits there is h =
      let at : stands_at script s p.g ≡ instr_at script r.place =
      ap (stood script) there ∙ ap (λ (mode : Mode). elim mode as (λ mode. Option Instr) [ Mode.At ↦ instr_at script r.place | _ ↦ None ]) is in
      elim (instr_at script r.place) as (λ o. instr_at script r.place ≡ o → alone_of script s p.g o ≡ Some e → IsWoken script s m these e) [
        | None ↦ λ q k. cc
        | Some i ↦ λ q k. alone-woken p.g i e waits (at ∙ q) k
      ] refl h
  by-mode p e r (Mode.Sleeping until) waits there is h = cc
  by-mode p e r (Mode.Suspended k) waits there is h = cc
  by-mode p e r (Mode.Relocking k) waits there is h =
      let parts = free-some (is_locked s (mutex_of script k)) (Entry.CondWake p.g k) e h in
      subst (IsWoken script s m these) parts.1 (relocks-woken p.g k waits (mode_there s p.g r (Mode.Relocking k) there is) parts.0)
  by-mode p e r Mode.Ended waits there is h = cc

  by-woken : (o : Option Party) (e : Entry) → ((p : Party) → o ≡ Some p → is_waiting m p.g ≡ true) → woken_by script s o ≡ Some e → IsWoken script s m these e
  by-woken None e parked h = cc
  by-woken (Some p) e parked h =
      elim (goroutine_at s p.g) as (λ o. goroutine_at s p.g ≡ o → (elim o as (λ o. Option Entry) [ None ↦ None | Some r ↦ woken_in script s p.g r ]) ≡ Some e → IsWoken script s m these e) [
        | None ↦ λ q k. cc
        | Some r ↦ λ q k. by-mode p e r r.mode (parked p refl) q refl k
      ] refl h

  first-receiver : (p : Party) → slice_get (parties_at m.receivers c) 0 ≡ Some p → (is_waiting m p.g ≡ true) × (wants script s p (receives_from c) ≡ true)
  first-receiver p first = and_parts (is_waiting m p.g) (wants script s p (receives_from c)) (first-waiting script s m p c fits declared first)

  first-sender : (p : Party) → slice_get (parties_at m.senders c) 0 ≡ Some p → (is_waiting m p.g ≡ true) × (wants script s p (sends_to c) ≡ true)
  first-sender p first = and_parts (is_waiting m p.g) (wants script s p (sends_to c)) (first-sending script s m p c fits declared first)

  receiver-woken : (e : Entry) → woken_by script s (slice_get (parties_at m.receivers c) 0) ≡ Some e → IsWoken script s m these e
  receiver-woken e h = by-woken (slice_get (parties_at m.receivers c) 0) e (λ p first. (first-receiver p first).0) h

  sender-woken : (e : Entry) → woken_by script s (slice_get (parties_at m.senders c) 0) ≡ Some e → IsWoken script s m these e
  sender-woken e h = by-woken (slice_get (parties_at m.senders c) 0) e (λ p first. (first-sender p first).0) h

  pub is-woken : (e : Entry) → next_woken script s m c ≡ Some e → IsWoken script s m these e
  is-woken e h =
      first-some (woken_by script s (slice_get (parties_at m.receivers c) 0)) (woken_by script s (slice_get (parties_at m.senders c) 0)) e
      (is_longer m (slice_get (parties_at m.senders c) 0) (slice_get (parties_at m.receivers c) 0))
      (IsWoken script s m these e) (receiver-woken e) (sender-woken e)
      (either-first script s (slice_get (parties_at m.receivers c) 0) (slice_get (parties_at m.senders c) 0)
      (is_longer m (slice_get (parties_at m.senders c) 0) (slice_get (parties_at m.receivers c) 0)) h)

  -- ---- where nobody goes on there

  one-first : (p : Party) (ps : List Party) → often p ps ≡ 1 → (q : Party) × (slice_get ps 0 ≡ Some q)
  one-first p [] h = absurd (omega arith)
  one-first p (q ∷ ps) h = (q, refl)

  -- the first one there does not go on under its case number
  first-rests : (p : Party) (kind : CaseKind) → woken_by script s (Some p) ≡ None → operation_at script s p ≡ Some kind → goes_alone script s (at_case p.g p.case_no) kind ≡ None
  first-rests p kind none at =
      let on : AtOperation script s p kind = at_operation script s p kind at in
      none-alone script s p.g on.instr p.case_no kind (sym (woken-stands script s p on.instr on.stands) ∙ none) on.has

  -- so no receive from c is ready by itself
  first-unready : (p : Party) (kind : CaseKind) → woken_by script s (Some p) ≡ None → Wanting script s p kind → kind ≡ CaseKind.Recv c → is_ready_recv s no_timer c (what_at script c) ≡ false
  first-unready p kind none (operates _ at) is = none-getting s (at_case p.g p.case_no) c (what_at script c) (first-rests p (CaseKind.Recv c) none (at ∙ ap Some is))
  first-unready p kind none (suspends k mode plain) is =
      let here : k ≡ c = cc in
      cond-unready s c (what_at script c) (subst (λ k. IsTrue (is_cond script k)) here (suspended-cond script s p.g k formed mode))
  first-unready p kind none (relocks k mode plain) is = cc

  rests-recv : (p : Party) → woken_by script s (slice_get (parties_at m.receivers c) 0) ≡ None → is_waiting m p.g ≡ true → wanted_at script s p ≡ Some (CaseKind.Recv c)
      → is_ready_alone script s no_timer (CaseKind.Recv c) ≡ false
  rests-recv p none waits at =
      let here : wants script s p (receives_from c) ≡ true =
      ap (λ (o : Option CaseKind). elim o as (λ o. Bool) [ None ↦ false | Some kind ↦ receives_from c kind ]) at ∙ eq-eqb c c refl in
      let parked : is_parked_at script s m p (receives_from c) ≡ true = and_from (is_waiting m p.g) (wants script s p (receives_from c)) waits here in
      let first = one-first p (parties_at m.receivers c) (fits.waiting c p declared ∙ ap as_number parked) in
      let its : wanted_at script s first.0 ≡ Some (CaseKind.Recv c) = at-recv (wanted_at script s first.0) c (first-receiver first.0 first.1).1 in
      first-unready first.0 (CaseKind.Recv c) (ap (woken_by script s) (sym first.1) ∙ none) (wanting script s first.0 (CaseKind.Recv c) its) refl

  -- who waits to send to a channel stands at its send
  sender-stands : (p : Party) (kind : CaseKind) (v : ℕ) → IsTrue (is_chan script c) → Wanting script s p kind → kind ≡ CaseKind.Send c v → operation_at script s p ≡ Some (CaseKind.Send c v)
  sender-stands p kind v chan (operates _ at) is = at ∙ ap Some is
  sender-stands p kind v chan (suspends k mode plain) is = cc
  sender-stands p kind v chan (relocks k mode plain) is =
      let here : mutex_of script k ≡ c = cc in
      absurd (chan-mutex (what_at script c) chan (subst (λ o. IsTrue (is_mutex script o)) here (mutex_of-is script k good (relocking-cond script s p.g k formed mode))))

  rests-send : (p : Party) (v : ℕ) → woken_by script s (slice_get (parties_at m.senders c) 0) ≡ None → is_waiting m p.g ≡ true → operation_at script s p ≡ Some (CaseKind.Send c v)
      → is_ready_alone script s no_timer (CaseKind.Send c v) ≡ false
  rests-send p v none waits at =
      let chan : IsTrue (is_chan script c) = operates-named script s p (CaseKind.Send c v) good at in
      let here : wants script s p (sends_to c) ≡ true =
      ap (λ (o : Option CaseKind). elim o as (λ o. Bool) [ None ↦ false | Some kind ↦ sends_to c kind ]) (operates-wanted script s p (CaseKind.Send c v) at) ∙ eq-eqb c c refl in
      let parked : is_parked_at script s m p (sends_to c) ≡ true = and_from (is_waiting m p.g) (wants script s p (sends_to c)) waits here in
      let first = one-first p (parties_at m.senders c) (fits.sending c p declared ∙ ap as_number parked) in
      let its : AtSend (wanted_at script s first.0) c = at-send (wanted_at script s first.0) c (first-sender first.0 first.1).1 in
      let stands : operation_at script s first.0 ≡ Some (CaseKind.Send c its.value) = sender-stands first.0 (CaseKind.Send c its.value) its.value chan (wanting script s first.0 (CaseKind.Send c its.value) its.is) (refl {a = CaseKind.Send c its.value}) in
      let rests : goes_alone script s (at_case first.0.g first.0.case_no) (CaseKind.Send c its.value) ≡ None =
      first-rests first.0 (CaseKind.Send c its.value) (ap (woken_by script s) (sym first.1) ∙ none) stands in
      let quiet = none-sending (at_case first.0.g first.0.case_no) c its.value (is_closed s c) (nat_lt (item_count s c) (capacity_of script c)) rests in
      both-false (is_closed s c) (nat_lt (item_count s c) (capacity_of script c)) quiet.0 quiet.1

  -- who waits for a mutex after a signal waits while it is locked
  sender-locked : (p : Party) (kind : CaseKind) (v : ℕ) → IsTrue (is_mutex script c) → woken_by script s (Some p) ≡ None → Wanting script s p kind → kind ≡ CaseKind.Send c v → is_locked s c ≡ true
  sender-locked p kind v mutex none (operates _ at) is = absurd (chan-mutex (what_at script c) (operates-named script s p (CaseKind.Send c v) good (at ∙ ap Some is)) mutex)
  sender-locked p kind v mutex none (suspends k mode plain) is = cc
  sender-locked p kind v mutex none (relocks k mode plain) is =
      let here : mutex_of script k ≡ c = cc in
      subst (λ o. is_locked s o ≡ true) here (locked-none (is_locked s (mutex_of script k)) (Entry.CondWake p.g k) (sym (woken-relocks script s p k mode) ∙ none))

  rests-locked : (g k : ℕ) → woken_by script s (slice_get (parties_at m.senders c) 0) ≡ None → is_waiting m g ≡ true → mode_of s g ≡ Some (Mode.Relocking k) → mutex_of script k ≡ c
      → is_locked s (mutex_of script k) ≡ true
  rests-locked g k none waits mode here =
      let mutex : IsTrue (is_mutex script c) = subst (λ o. IsTrue (is_mutex script o)) here (mutex_of-is script k good (relocking-cond script s g k formed mode)) in
      let at : wanted_at script s (plainly g) ≡ Some (CaseKind.Send c 0) = relocking-wanted script s g k mode ∙ ap (λ o. Some (CaseKind.Send o 0)) here in
      let wants_it : wants script s (plainly g) (sends_to c) ≡ true =
      ap (λ (o : Option CaseKind). elim o as (λ o. Bool) [ None ↦ false | Some kind ↦ sends_to c kind ]) at ∙ eq-eqb c c refl in
      let parked : is_parked_at script s m (plainly g) (sends_to c) ≡ true = and_from (is_waiting m g) (wants script s (plainly g) (sends_to c)) waits wants_it in
      let first = one-first (plainly g) (parties_at m.senders c) (fits.sending c (plainly g) declared ∙ ap as_number parked) in
      let its : AtSend (wanted_at script s first.0) c = at-send (wanted_at script s first.0) c (first-sender first.0 first.1).1 in
      subst (λ o. is_locked s o ≡ true) (sym here)
      (sender-locked first.0 (CaseKind.Send c its.value) its.value mutex (ap (woken_by script s) (sym first.1) ∙ none) (wanting script s first.0 (CaseKind.Send c its.value) its.is) (refl {a = CaseKind.Send c its.value}))

  -- no operation of one that waits is ready by itself
  rests : (p : Party) (kind : CaseKind) → woken_by script s (slice_get (parties_at m.receivers c) 0) ≡ None → woken_by script s (slice_get (parties_at m.senders c) 0) ≡ None
      → is_waiting m p.g ≡ true → operation_at script s p ≡ Some kind → object_of kind ≡ c → is_ready_alone script s no_timer kind ≡ false
  rests p (CaseKind.Recv o) none_receives none_sends waits at is =
      subst (λ o. is_ready_alone script s no_timer (CaseKind.Recv o) ≡ false) (sym is) (rests-recv p none_receives waits (operates-wanted script s p (CaseKind.Recv c) (at ∙ ap (λ o. Some (CaseKind.Recv o)) is)))
  rests p (CaseKind.Send d v) none_receives none_sends waits at is =
      subst (λ d. is_ready_alone script s no_timer (CaseKind.Send d v) ≡ false) (sym is) (rests-send p v none_sends waits (at ∙ ap (λ d. Some (CaseKind.Send d v)) is))

  -- so the object is calm too
  pub none-woken : (less : ℕ → Bool) → ((o : ℕ) → less o ≡ false → these o ≡ true → o ≡ c) → ((o : ℕ) → less o ≡ true → o < length script.decls) → next_woken script s m c ≡ None
      → IsCalmBut script s m less
  none-woken less only within h =
      let none = first-none (woken_by script s (slice_get (parties_at m.receivers c) 0)) (woken_by script s (slice_get (parties_at m.senders c) 0))
      (is_longer m (slice_get (parties_at m.senders c) 0) (slice_get (parties_at m.receivers c) 0))
      (either-first script s (slice_get (parties_at m.receivers c) 0) (slice_get (parties_at m.senders c) 0)
      (is_longer m (slice_get (parties_at m.senders c) 0) (slice_get (parties_at m.receivers c) 0)) h) in
      record {
        waits = but.waits;
        objects = but.objects;
        partners = but.partners;
        others = λ g n kind waits at apart.
            elim (these (object_of kind)) as (λ b. these (object_of kind) ≡ b → is_ready_alone script s no_timer kind ≡ false) [
              | true ↦ λ q. rests (at_case g n) kind none.0 none.1 waits at (only (object_of kind) apart q)
              | false ↦ λ q. but.others g n kind waits at q
            ] refl;
        relocks = λ g k waits mode apart.
            elim (these (mutex_of script k)) as (λ b. these (mutex_of script k) ≡ b → is_locked s (mutex_of script k) ≡ true) [
              | true ↦ λ q. rests-locked g k none.1 waits mode (only (mutex_of script k) apart q)
              | false ↦ λ q. but.relocks g k waits mode q
            ] refl;
        declared = within;
      }
