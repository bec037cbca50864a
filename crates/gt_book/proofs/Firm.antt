-- What becomes of those that are parked and not firmly ready, where objects and goroutines change: they stay so, but at the objects that change.
use Rattle.std.proofs.Common.{◌≡◌, ◌≢◌, ℕ, zero, suc, ◌<◌, List, [], ◌∷◌, slice_get, option_map, length, nat_lt, ◌==◌, refl, sym, ap, subst, ◌∙◌, Option, None, Some, Bool, true, false, not, ◌&&◌, ◌||◌, is_some, is_none}
use Rattle.std.proofs.lemmas.Bool.{and_parts, and_from}
use Rattle.std.specs.List.{list_any}
use Rattle.gt_model.specs.declared.script.Case.{Case}
use Rattle.gt_model.specs.declared.script.Script.{Script}
use Rattle.gt_model.specs.declared.script.Instr.{Instr}
use Rattle.gt_model.specs.declared.script.What.{What}
use Rattle.gt_model.specs.declared.script.CaseKind.{CaseKind}
use Rattle.gt_model.specs.declared.entry.Reason.{Reason}
use Rattle.gt_model.specs.declared.state.Goroutine.{Goroutine}
use Rattle.gt_model.specs.declared.state.Mode.{Mode}
use Rattle.gt_model.specs.Script.{instr_at, what_at, is_chan, capacity_of, mutex_of}
use Rattle.gt_rules.specs.State.{State, Channel, goroutine_at, mode_of, timer_at, channel_at, is_locked, counter_of, item_count, is_closed, is_made, stands, stands_at, context_at, has_ended}
use Rattle.gt_rules.specs.Operations.{operation, offers, polls, receives_from, sends_to}
use Rattle.gt_rules.specs.Panics.{fault, fault_at, fault_case, case_fault, choice_fault, when, or_else, open_fault, panic_at}
use Rattle.gt_rules.specs.Ready.{is_firm, is_firm_in, is_ready_at, is_ready_instr, is_ready_case, is_ready_alone, is_ready_recv, has_partner, partner_waits, no_timer}
use Rattle.gt_rules.specs.Legal.{operation_at}
use Rattle.gt_rules.specs.After.{in_mode}
use Rattle.gt_schedule.specs.Schedule.{Schedule, at_case, object_of}
use Rattle.gt_facts.proofs.Still.{panic_stands}
use Rattle.gt_facts.proofs.Lookups.{IsCase, is-case, Standing, standing, mode_there}
use Rattle.gt_facts.proofs.Partners.{Partner, partner, partner-waits}
use Rattle.gt_book.specs.View.{is_waiting}
use Rattle.gt_book.specs.Calm.{IsCalm, IsCalmBut, may_wait, unmade}

-- ---- tests

pub or-false : (a b : Bool) → (a || b) ≡ false → (a ≡ false) × (b ≡ false)
or-false true b h = cc
or-false false b h = (refl, h)

pub both-false : (a b : Bool) → a ≡ false → b ≡ false → (a || b) ≡ false
both-false true b h k = cc
both-false false b h k = k

pub never-both : (b : Bool) → b ≡ true → b ≡ false → ⊥
never-both true h k = cc
never-both false h k = cc

pub unless-true : (b : Bool) → (b ≡ true → ⊥) → b ≡ false
unless-true true h = absurd (h refl)
unless-true false h = refl

and-false : (a b : Bool) → (b ≡ true → ⊥) → (a && b) ≡ false
and-false true b h = unless-true b h
and-false false b h = refl

pub no-reason : (o : Option Reason) → is_some o ≡ false → o ≡ None
no-reason None h = refl
no-reason (Some reason) h = cc

-- the values of a channel, and whether it is closed
abbrev pub kept_in : Option Channel → List ℕ
kept_in o = elim o [ None ↦ [] | Some r ↦ r.items ]

abbrev pub shut_in : Option Channel → Bool
shut_in o = elim o [ None ↦ false | Some r ↦ r.closed ]

-- ---- what is known of a goroutine by where it stands

abbrev pub firm_of : Script → State → (ℕ → Bool) → ℕ → Option Goroutine → Bool
firm_of script s counts g o = elim o [ None ↦ false | Some r ↦ is_firm script s counts g r ]

abbrev pub stood : Script → Option Goroutine → Option Instr
stood script o = elim o [ None ↦ None | Some r ↦ stands script r ]

abbrev pub operation_of : Option Instr → ℕ → Option CaseKind
operation_of o n = elim o [ None ↦ None | Some i ↦ operation i n ]

-- whether it is ready where it stands, by no timer
abbrev pub firm_on : Script → State → (ℕ → Bool) → ℕ → Option Instr → Bool
firm_on script s counts g o = is_ready_at script s no_timer counts g o

abbrev its_mode : Option Goroutine → Option Mode
its_mode o = option_map (λ (r : Goroutine). r.mode) o

quiet-mode : (script : Script) (s : State) (counts : ℕ → Bool) (g : ℕ) (r : Goroutine) (mode : Mode) → is_firm_in script s counts g r mode ≡ false
    → firm_on script s counts g (elim mode [ Mode.At ↦ instr_at script r.place | _ ↦ None ]) ≡ false
quiet-mode script s counts g r Mode.At h = h
quiet-mode script s counts g r mode h = refl

-- who is not firmly ready is not where it stands
pub firm-stood : (script : Script) (s : State) (counts : ℕ → Bool) (g : ℕ) (o : Option Goroutine) → firm_of script s counts g o ≡ false
    → firm_on script s counts g (stood script o) ≡ false
firm-stood script s counts g None h = refl
firm-stood script s counts g (Some r) h = quiet-mode script s counts g r r.mode h

-- and the other way round, where it waits for no mutex that is free
mode-firm : (script : Script) (s : State) (counts : ℕ → Bool) (g : ℕ) (r : Goroutine) (mode : Mode)
    → firm_on script s counts g (elim mode [ Mode.At ↦ instr_at script r.place | _ ↦ None ]) ≡ false
    → ((k : ℕ) → mode ≡ Mode.Relocking k → is_locked s (mutex_of script k) ≡ true) → is_firm_in script s counts g r mode ≡ false
mode-firm script s counts g r Mode.At h locked = h
mode-firm script s counts g r (Mode.Sleeping until) h locked = refl
mode-firm script s counts g r (Mode.Suspended k) h locked = refl
mode-firm script s counts g r (Mode.Relocking k) h locked = ap not (locked k refl)
mode-firm script s counts g r Mode.Ended h locked = refl

pub stood-firm : (script : Script) (s : State) (counts : ℕ → Bool) (g : ℕ) (o : Option Goroutine) → firm_on script s counts g (stood script o) ≡ false
    → ((k : ℕ) → its_mode o ≡ Some (Mode.Relocking k) → is_locked s (mutex_of script k) ≡ true) → firm_of script s counts g o ≡ false
stood-firm script s counts g None h locked = refl
stood-firm script s counts g (Some r) h locked = mode-firm script s counts g r r.mode h (λ k is. locked k (ap Some is))

pub not-false : (b : Bool) → not b ≡ false → b ≡ true
not-false true h = refl
not-false false h = cc

mode-locked : (script : Script) (s : State) (counts : ℕ → Bool) (g : ℕ) (r : Goroutine) (mode : Mode) (k : ℕ) → Some mode ≡ Some (Mode.Relocking k) → is_firm_in script s counts g r mode ≡ false
    → is_locked s (mutex_of script k) ≡ true
mode-locked script s counts g r mode k is h =
    let same : mode ≡ Mode.Relocking k = cc in
    not-false (is_locked s (mutex_of script k)) (subst (λ mode. is_firm_in script s counts g r mode ≡ false) same h)

-- who was signalled at a Cond and is not firmly ready waits for a mutex that is locked
pub firm-locked : (script : Script) (s : State) (counts : ℕ → Bool) (g k : ℕ) (o : Option Goroutine) → its_mode o ≡ Some (Mode.Relocking k) → firm_of script s counts g o ≡ false
    → is_locked s (mutex_of script k) ≡ true
firm-locked script s counts g k None is h = cc
firm-locked script s counts g k (Some r) is h = mode-locked script s counts g r r.mode k is h

-- nobody who stands at an instruction waits so
pub stands-relocks : (script : Script) (s : State) (g k : ℕ) (i : Instr) → stands_at script s g ≡ Some i → mode_of s g ≡ Some (Mode.Relocking k) → ⊥
stands-relocks script s g k i stands waits =
    let st : Standing script s g i = standing script s g i stands in
    let both : Some Mode.At ≡ Some (Mode.Relocking k) = sym (mode_there s g st.who Mode.At st.there st.at) ∙ waits in
    cc

-- ---- one whose operation has no partner is firmly ready by its object alone

abbrev pub has_fault : Script → State → Option Instr → Bool
has_fault script s None = false
has_fault script s (Some i) = is_some (fault script s i)

pub firm-fault : (script : Script) (s : State) (counts : ℕ → Bool) (g : ℕ) (o : Option Instr) → firm_on script s counts g o ≡ false → has_fault script s o ≡ false
firm-fault script s counts g None h = refl
firm-fault script s counts g (Some i) h = (or-false (is_some (fault script s i)) (is_ready_instr script s no_timer counts g i) h).0

-- ---- what stays: what was made stays made, what was closed stays closed, and channels, locks, counters and ends of contexts stay as they are but those that `may` change

pub record Stays (s next : State) (may : ℕ → Bool) : Type 0 where
  pub timers : (t : ℕ) → is_some (timer_at s t) ≡ true → is_some (timer_at next t) ≡ true
  pub made : (c : ℕ) → is_some (channel_at s c) ≡ true → is_some (channel_at next c) ≡ true
  pub closed : (c : ℕ) → is_closed s c ≡ true → is_closed next c ≡ true
  pub same : (c : ℕ) → may c ≡ false → channel_at next c ≡ channel_at s c
  pub locks : (o : ℕ) → may o ≡ false → is_locked next o ≡ is_locked s o
  pub counters : (o : ℕ) → may o ≡ false → counter_of next o ≡ counter_of s o
  pub contexts : (x : ℕ) → is_some (context_at s x) ≡ true → is_some (context_at next x) ≡ true
  pub ends : (x : ℕ) → may x ≡ false → has_ended next x ≡ has_ended s x

-- who is parked now was parked before, as it is, or sleeps, or waits at a Cond; or was signalled, and waits for one of the objects that `may` change
pub data WasThere (script : Script) (s : State) (m : Schedule) (may : ℕ → Bool) (g : ℕ) : Option Goroutine → Type 0 where
  waited : is_waiting m g ≡ true → (o : Option Goroutine) → o ≡ goroutine_at s g → WasThere script s m may g o
  sleeps : (until : ℕ) (r : Goroutine) → WasThere script s m may g (Some (in_mode (Mode.Sleeping until) r))
  suspends : (k : ℕ) (r : Goroutine) → WasThere script s m may g (Some (in_mode (Mode.Suspended k) r))
  relocks : (k : ℕ) (r : Goroutine) → may (mutex_of script k) ≡ true → WasThere script s m may g (Some (in_mode (Mode.Relocking k) r))

abbrev pub AllWere : Script → State → Schedule → (ℕ → Bool) → State → Schedule → Type 0
AllWere script s m may next n = (g : ℕ) → is_waiting n g ≡ true → WasThere script s m may g (goroutine_at next g)

-- ---- a goroutine without a misuse makes none

made-none : (b : Bool) → b ≡ true → when (not b) Reason.Unmade ≡ None
made-none true h = refl
made-none false h = cc

none-made : (b : Bool) → is_some (when (not b) Reason.Unmade) ≡ false → b ≡ true
none-made true h = refl
none-made false h = cc

made-either : (a b c d : Bool) → (a ≡ true → c ≡ true) → (b ≡ true → d ≡ true) → (a || b) ≡ true → (c || d) ≡ true
made-either true b c d f g h = rw (f refl) refl
made-either false b true d f g h = refl
made-either false b false d f g h = g h

pub made-stays : (s next : State) (may : ℕ → Bool) (o : ℕ) → Stays s next may → is_made s o ≡ true → is_made next o ≡ true
made-stays s next may o stays h =
    made-either (is_some (timer_at s o) || is_some (channel_at s o)) (is_some (context_at s o)) (is_some (timer_at next o) || is_some (channel_at next o)) (is_some (context_at next o))
    (made-either (is_some (timer_at s o)) (is_some (channel_at s o)) (is_some (timer_at next o)) (is_some (channel_at next o)) (stays.timers o) (stays.made o)) (stays.contexts o) h

-- the parts of the use of an open channel
pub record IsOpenChannel (s : State) (c : ℕ) : Type 0 where
  pub made : is_some (channel_at s c) ≡ true
  pub unshut : is_closed s c ≡ false

open-parts : (o : Option Channel) (closed : Bool) → is_some (or_else (when (is_none o) Reason.Unmade) (when closed Reason.Closed)) ≡ false → (is_some o ≡ true) × (closed ≡ false)
open-parts None closed h = cc
open-parts (Some r) true h = cc
open-parts (Some r) false h = (refl, refl)

pub open-fault : (s : State) (c : ℕ) → is_some (open_fault s c) ≡ false → IsOpenChannel s c
open-fault s c h = let parts = open-parts (channel_at s c) (is_closed s c) h in record { made = parts.0; unshut = parts.1 }

open-none : (o : Option Channel) (closed : Bool) → is_some o ≡ true → closed ≡ false → or_else (when (is_none o) Reason.Unmade) (when closed Reason.Closed) ≡ None
open-none None closed h k = cc
open-none (Some r) true h k = cc
open-none (Some r) false h k = refl

pub open-no_fault : (s : State) (c : ℕ) → IsOpenChannel s c → open_fault s c ≡ None
open-no_fault s c is = open-none (channel_at s c) (is_closed s c) is.made is.unshut

-- ---- the operations of one that is parked

-- an operation which is ready neither by itself nor by a partner
pub record IsQuiet (script : Script) (s : State) (counts : ℕ → Bool) (g : ℕ) (kind : CaseKind) : Type 0 where
  pub alone : is_ready_alone script s no_timer kind ≡ false
  pub partner : has_partner script s counts g kind ≡ false

pub made-sound : (o : Option Channel) → when (is_none o) Reason.Unmade ≡ None → is_some o ≡ true
made-sound None h = cc
made-sound (Some r) h = refl

sound-made : (o : Option Channel) → is_some o ≡ true → when (is_none o) Reason.Unmade ≡ None
sound-made None h = cc
sound-made (Some r) h = refl

both-sound : (o other : Option Reason) → or_else o other ≡ None → (o ≡ None) × (other ≡ None)
both-sound None other h = (refl, h)
both-sound (Some reason) other h = cc

-- a choice makes no misuse where none of its cases does, and the other way round
pub choice-sound : (s : State) (cases : List Case) (k : ℕ) (c : Case) → choice_fault s cases ≡ None → slice_get cases k ≡ Some c → case_fault s c.kind ≡ None
choice-sound s [] k c h e = cc
choice-sound s (d ∷ cases) zero c h e =
    let is : d ≡ c = cc in
    subst (λ (c : Case). case_fault s c.kind ≡ None) is (both-sound (case_fault s d.kind) (choice_fault s cases) h).0
choice-sound s (d ∷ cases) (suc k) c h e = choice-sound s cases k c (both-sound (case_fault s d.kind) (choice_fault s cases) h).1 e

pub sound-choice : (s : State) (cases : List Case) → ((k : ℕ) (c : Case) → slice_get cases k ≡ Some c → case_fault s c.kind ≡ None) → choice_fault s cases ≡ None
sound-choice s [] each = refl
sound-choice s (d ∷ cases) each =
    ap (λ (o : Option Reason). or_else o (choice_fault s cases)) (each 0 d refl) ∙ sound-choice s cases (λ k c e. each (suc k) c e)

none-any : {X : Type 0} (p : X → Bool) (xs : List X) (k : ℕ) (x : X) → list_any p xs ≡ false → slice_get xs k ≡ Some x → p x ≡ false
none-any p [] k x h e = cc
none-any p (y ∷ xs) zero x h e = let is : y ≡ x = cc in subst (λ x. p x ≡ false) is (or-false (p y) (list_any p xs) h).0
none-any p (y ∷ xs) (suc k) x h e = none-any p xs k x (or-false (p y) (list_any p xs) h).1 e

pub any-none : {X : Type 0} (p : X → Bool) (xs : List X) → ((k : ℕ) (x : X) → slice_get xs k ≡ Some x → p x ≡ false) → list_any p xs ≡ false
any-none p [] each = refl
any-none p (y ∷ xs) each = both-false (p y) (list_any p xs) (each 0 y refl) (any-none p xs (λ k x e. each (suc k) x e))

no-default : (o : Option ℕ) → is_none o ≡ true → is_some o ≡ false
no-default None h = refl
no-default (Some to) h = cc

default-none : (o : Option ℕ) → is_some o ≡ false → is_none o ≡ true
default-none None h = refl
default-none (Some to) h = cc

pub case-there : (cases : List Case) (k : ℕ) (c : Case) → slice_get cases k ≡ Some c → option_map (λ (c : Case). c.kind) (slice_get cases k) ≡ Some c.kind
case-there cases k c e = ap (option_map (λ (c : Case). c.kind)) e

ready-quiet : (script : Script) (s : State) (counts : ℕ → Bool) (g : ℕ) (kind : CaseKind) → is_ready_case script s no_timer counts g kind ≡ false → IsQuiet script s counts g kind
ready-quiet script s counts g kind h =
    let parts = or-false (is_ready_alone script s no_timer kind) (has_partner script s counts g kind) h in
    record { alone = parts.0; partner = parts.1 }

quiet-ready : (script : Script) (s : State) (counts : ℕ → Bool) (g : ℕ) (kind : CaseKind) → IsQuiet script s counts g kind → is_ready_case script s no_timer counts g kind ≡ false
quiet-ready script s counts g kind x = both-false (is_ready_alone script s no_timer kind) (has_partner script s counts g kind) x.alone x.partner

-- the same of where one stands
abbrev pub unmade_of : State → Option Instr → Option Reason
unmade_of s None = None
unmade_of s (Some i) = unmade s i

-- who is not firmly ready stands at such operations alone, where it may wait
pub firm-quiet : (script : Script) (s : State) (counts : ℕ → Bool) (g : ℕ) (i : Instr) (n : ℕ) (kind : CaseKind) → firm_on script s counts g (Some i) ≡ false → operation i n ≡ Some kind
    → IsQuiet script s counts g kind
firm-quiet script s counts g (Instr.Recv o) zero kind h e =
    let is : CaseKind.Recv o ≡ kind = cc in
    let parts = or-false (is_some (fault script s (Instr.Recv o))) (is_ready_instr script s no_timer counts g (Instr.Recv o)) h in
    subst (IsQuiet script s counts g) is (ready-quiet script s counts g (CaseKind.Recv o) parts.1)
firm-quiet script s counts g (Instr.Recv o) (suc k) kind h e = cc
firm-quiet script s counts g (Instr.Send c v) zero kind h e =
    let is : CaseKind.Send c v ≡ kind = cc in
    let parts = or-false (is_some (fault script s (Instr.Send c v))) (is_ready_instr script s no_timer counts g (Instr.Send c v)) h in
    subst (IsQuiet script s counts g) is (ready-quiet script s counts g (CaseKind.Send c v) parts.1)
firm-quiet script s counts g (Instr.Send c v) (suc k) kind h e = cc
firm-quiet script s counts g (Instr.Lock m) zero kind h e =
    let is : CaseKind.Recv m ≡ kind = cc in
    let parts = or-false (is_some (fault script s (Instr.Lock m))) (is_ready_instr script s no_timer counts g (Instr.Lock m)) h in
    subst (IsQuiet script s counts g) is (ready-quiet script s counts g (CaseKind.Recv m) parts.1)
firm-quiet script s counts g (Instr.Lock m) (suc k) kind h e = cc
firm-quiet script s counts g (Instr.Wait w) zero kind h e =
    let is : CaseKind.Recv w ≡ kind = cc in
    let parts = or-false (is_some (fault script s (Instr.Wait w))) (is_ready_instr script s no_timer counts g (Instr.Wait w)) h in
    subst (IsQuiet script s counts g) is (ready-quiet script s counts g (CaseKind.Recv w) parts.1)
firm-quiet script s counts g (Instr.Wait w) (suc k) kind h e = cc
firm-quiet script s counts g (Instr.Select cases default_to) zero kind h e = cc
firm-quiet script s counts g (Instr.Select cases default_to) (suc k) kind h e =
    let one : IsCase cases k kind = is-case cases k kind e in
    let parts = or-false (is_some (choice_fault s cases)) (is_ready_instr script s no_timer counts g (Instr.Select cases default_to)) h in
    let ready = or-false (is_some default_to) (list_any (λ (c : Case). is_ready_case script s no_timer counts g c.kind) cases) parts.1 in
    subst (IsQuiet script s counts g) one.its
    (ready-quiet script s counts g one.item.kind (none-any (λ (c : Case). is_ready_case script s no_timer counts g c.kind) cases k one.item ready.1 one.there))
firm-quiet script s counts g i n kind h e = cc

faultless-made : (script : Script) (s : State) (i : Instr) → is_some (fault script s i) ≡ false → unmade s i ≡ None
faultless-made script s (Instr.Recv o) h = no-reason (fault script s (Instr.Recv o)) h
faultless-made script s (Instr.Send c v) h = sound-made (channel_at s c) (open-fault s c h).made
faultless-made script s (Instr.Select cases default_to) h = no-reason (choice_fault s cases) h
faultless-made script s _ h = refl

pub firm-made : (script : Script) (s : State) (counts : ℕ → Bool) (g : ℕ) (o : Option Instr) → firm_on script s counts g o ≡ false → unmade_of s o ≡ None
firm-made script s counts g None h = refl
firm-made script s counts g (Some i) h = faultless-made script s i (firm-fault script s counts g (Some i) h)

or-true : (b : Bool) → (b || true) ≡ false → ⊥
or-true true e = cc
or-true false e = cc

pub firm-waits : (script : Script) (s : State) (counts : ℕ → Bool) (g : ℕ) (o : Option Instr) → firm_on script s counts g o ≡ false → may_wait o ≡ true
firm-waits script s counts g None h = refl
firm-waits script s counts g (Some (Instr.Recv o)) h = refl
firm-waits script s counts g (Some (Instr.Send c v)) h = refl
firm-waits script s counts g (Some (Instr.Lock m)) h = refl
firm-waits script s counts g (Some (Instr.Wait w)) h = refl
firm-waits script s counts g (Some (Instr.Select cases default_to)) h =
    let parts = or-false (is_some (choice_fault s cases)) (is_ready_instr script s no_timer counts g (Instr.Select cases default_to)) h in
    default-none default_to (or-false (is_some default_to) (list_any (λ (c : Case). is_ready_case script s no_timer counts g c.kind) cases) parts.1).0
firm-waits script s counts g (Some (Instr.LoopTop depth count past)) h = refl
firm-waits script s counts g (Some (Instr.LoopEnd depth top)) h = refl
firm-waits script s counts g (Some (Instr.Jump to)) h = refl
firm-waits script s counts g (Some i) h = absurd (or-true (is_some (fault script s i)) h)

-- who may wait makes no misuse where its operations are such, on what was made
pub quiet-faultless : (script : Script) (s : State) (counts : ℕ → Bool) (g : ℕ) (i : Instr) → may_wait (Some i) ≡ true → unmade s i ≡ None
    → ((n : ℕ) (kind : CaseKind) → operation i n ≡ Some kind → IsQuiet script s counts g kind) → fault script s i ≡ None
quiet-faultless script s counts g (Instr.Recv o) w made q = made
quiet-faultless script s counts g (Instr.Send c v) w made q =
    let x : IsQuiet script s counts g (CaseKind.Send c v) = q 0 (CaseKind.Send c v) refl in
    open-no_fault s c (record { made = made-sound (channel_at s c) made; unshut = (or-false (is_closed s c) (nat_lt (item_count s c) (capacity_of script c)) x.alone).0 })
quiet-faultless script s counts g (Instr.Select cases default_to) w made q = made
quiet-faultless script s counts g (Instr.Lock m) w made q = refl
quiet-faultless script s counts g (Instr.Wait w) h made q = refl
quiet-faultless script s counts g (Instr.LoopTop depth count past) w made q = refl
quiet-faultless script s counts g (Instr.LoopEnd depth top) w made q = refl
quiet-faultless script s counts g (Instr.Jump to) w made q = refl
quiet-faultless script s counts g i w made q = cc

quiet-instr : (script : Script) (s : State) (counts : ℕ → Bool) (g : ℕ) (i : Instr) → may_wait (Some i) ≡ true
    → ((n : ℕ) (kind : CaseKind) → operation i n ≡ Some kind → IsQuiet script s counts g kind) → is_ready_instr script s no_timer counts g i ≡ false
quiet-instr script s counts g (Instr.Recv o) w q = quiet-ready script s counts g (CaseKind.Recv o) (q 0 (CaseKind.Recv o) refl)
quiet-instr script s counts g (Instr.Send c v) w q = quiet-ready script s counts g (CaseKind.Send c v) (q 0 (CaseKind.Send c v) refl)
quiet-instr script s counts g (Instr.Lock m) w q = quiet-ready script s counts g (CaseKind.Recv m) (q 0 (CaseKind.Recv m) refl)
quiet-instr script s counts g (Instr.Wait w) h q = quiet-ready script s counts g (CaseKind.Recv w) (q 0 (CaseKind.Recv w) refl)
quiet-instr script s counts g (Instr.Select cases default_to) w q =
    both-false (is_some default_to) _ (no-default default_to w)
    (any-none (λ (c : Case). is_ready_case script s no_timer counts g c.kind) cases (λ k c e. quiet-ready script s counts g c.kind (q (suc k) c.kind (case-there cases k c e))))
quiet-instr script s counts g (Instr.LoopTop depth count past) w q = refl
quiet-instr script s counts g (Instr.LoopEnd depth top) w q = refl
quiet-instr script s counts g (Instr.Jump to) w q = refl
quiet-instr script s counts g i w q = cc

-- so it is not firmly ready
pub quiet-firm : (script : Script) (s : State) (counts : ℕ → Bool) (g : ℕ) (o : Option Instr) → may_wait o ≡ true → unmade_of s o ≡ None
    → ((n : ℕ) (kind : CaseKind) → operation_of o n ≡ Some kind → IsQuiet script s counts g kind) → firm_on script s counts g o ≡ false
quiet-firm script s counts g None w made q = refl
quiet-firm script s counts g (Some i) w made q =
    both-false (is_some (fault script s i)) (is_ready_instr script s no_timer counts g i) (ap is_some (quiet-faultless script s counts g i w made q)) (quiet-instr script s counts g i w q)

-- and the other way round
pub firm-each : (script : Script) (s : State) (counts : ℕ → Bool) (g : ℕ) (o : Option Instr) (n : ℕ) (kind : CaseKind) → firm_on script s counts g o ≡ false → operation_of o n ≡ Some kind
    → IsQuiet script s counts g kind
firm-each script s counts g None n kind h e = cc
firm-each script s counts g (Some i) n kind h e = firm-quiet script s counts g i n kind h e

-- who may wait waits at no choice with a default
pub waits-polls : (i : Instr) → may_wait (Some i) ≡ true → polls i ≡ false
waits-polls (Instr.Select cases default_to) w = no-default default_to w
waits-polls i w = refl

-- ---- the partners of one that is parked were its partners before

-- who stands at operations on what was made, and makes no misuse after, made none before
fault-before : (script : Script) (s next : State) (may : ℕ → Bool) (test : CaseKind → Bool) (i : Instr) → Stays s next may → offers test i ≡ true → unmade s i ≡ None
    → fault script next i ≡ None → fault script s i ≡ None
fault-before script s next may test (Instr.Recv o) stays passes made none = made
fault-before script s next may test (Instr.Send c v) stays passes made none =
    let after : IsOpenChannel next c = open-fault next c (ap is_some none) in
    open-no_fault s c (record {
      made = made-sound (channel_at s c) made;
      unshut = unless-true (is_closed s c) (λ shut. never-both (is_closed next c) (stays.closed c shut) after.unshut);
    })
fault-before script s next may test (Instr.Select cases default_to) stays passes made none = made
fault-before script s next may test (Instr.Lock m) stays passes made none = refl
fault-before script s next may test (Instr.Wait w) stays passes made none = refl
fault-before script s next may test i stays passes made none = cc

pub panic-standing : (script : Script) (s : State) (g : ℕ) (i : Instr) → stands_at script s g ≡ Some i → panic_at script s g ≡ fault_at script s i
panic-standing script s g i e =
    sym (panic_stands script s g) ∙ ap (λ (o : Option Instr). elim o as (λ o. Option (ℕ × Reason)) [ None ↦ None | Some i ↦ fault_at script s i ]) e

none-fault : (n : ℕ) (o : Option Reason) → (elim o as (λ o. Option (ℕ × Reason)) [ None ↦ None | Some reason ↦ Some (n, reason) ]) ≡ None → o ≡ None
none-fault n None h = refl
none-fault n (Some reason) h = cc

-- who makes no panic stands at no misuse, and the other way round
pub faultless-standing : (script : Script) (s : State) (g : ℕ) (i : Instr) → stands_at script s g ≡ Some i → panic_at script s g ≡ None → fault script s i ≡ None
faultless-standing script s g i e calm = none-fault (fault_case s i) (fault script s i) (sym (panic-standing script s g i e) ∙ calm)

pub calm-standing : (script : Script) (s : State) (g : ℕ) (i : Instr) → stands_at script s g ≡ Some i → fault script s i ≡ None → panic_at script s g ≡ None
calm-standing script s g i e none =
    panic-standing script s g i e
    ∙ ap (λ (o : Option Reason). elim o as (λ o. Option (ℕ × Reason)) [ None ↦ None | Some reason ↦ Some (fault_case s i, reason) ]) none

-- one of those that are parked makes no misuse, where it makes none after
module _ (script : Script) (s next : State) (m n : Schedule) (x y : ℕ → Bool) (stays : Stays s next y) (were : AllWere script s m y next n) (calm : IsCalmBut script s m x) where
  calm-before : (g : ℕ) (i : Instr) (test : CaseKind → Bool) → is_waiting m g ≡ true → stands_at script s g ≡ Some i → offers test i ≡ true → fault script next i ≡ None → fault script s i ≡ None
  calm-before g i test waits e passes none = fault-before script s next y test i stays passes (calm.objects g i waits e) none

  partner-was : (g k : ℕ) (test : CaseKind → Bool) (i : Instr) (o : Option Goroutine) → WasThere script s m y k o → goroutine_at next k ≡ o → k ≢ g → stands_at script next k ≡ Some i → fault script next i ≡ None
      → polls i ≡ false → offers test i ≡ true → Partner script s (is_waiting m) g test
  partner-was g k test i o (waited waits p e) there other on none stays_there passes =
      let same : goroutine_at s k ≡ goroutine_at next k = sym (there ∙ e) in
      let before : stands_at script s k ≡ Some i = ap (stood script) same ∙ on in
      record {
        number = k;
        instr = i;
        other = other;
        counted = waits;
        does = record { stands = before; calm = calm-standing script s k i before (calm-before k i test waits before passes none) };
        waits = stays_there;
        passes = passes;
      }
  partner-was g k test i o (sleeps until r) there other on none stays_there passes = let asleep : stands_at script next k ≡ None = ap (stood script) there in cc
  partner-was g k test i o (suspends c r) there other on none stays_there passes = let nowhere : stands_at script next k ≡ None = ap (stood script) there in cc
  partner-was g k test i o (relocks c r here) there other on none stays_there passes = let nowhere : stands_at script next k ≡ None = ap (stood script) there in cc

  pub partner-back : (g : ℕ) (test : CaseKind → Bool) → partner_waits script next (is_waiting n) g test ≡ true → partner_waits script s (is_waiting m) g test ≡ true
  partner-back g test h =
      let p : Partner script next (is_waiting n) g test = partner script next (is_waiting n) g test h in
      partner-waits script s (is_waiting m) g test
      (partner-was g p.number test p.instr (goroutine_at next p.number) (were p.number p.counted) refl p.other p.does.stands
      (faultless-standing script next p.number p.instr p.does.stands p.does.calm) p.waits p.passes)

  partner-kept : (g : ℕ) (kind : CaseKind) → has_partner script next (is_waiting n) g kind ≡ true → has_partner script s (is_waiting m) g kind ≡ true
  partner-kept g (CaseKind.Recv o) h =
      let parts = and_parts (is_chan script o && capacity_of script o == 0) (partner_waits script next (is_waiting n) g (sends_to o)) h in
      and_from (is_chan script o && capacity_of script o == 0) (partner_waits script s (is_waiting m) g (sends_to o)) parts.0 (partner-back g (sends_to o) parts.1)
  partner-kept g (CaseKind.Send c v) h =
      let parts = and_parts (capacity_of script c == 0) (partner_waits script next (is_waiting n) g (receives_from c)) h in
      and_from (capacity_of script c == 0) (partner_waits script s (is_waiting m) g (receives_from c)) parts.0 (partner-back g (receives_from c) parts.1)

-- ---- one that is not firmly ready stays so where its object stays and it has no partner

-- the objects under a number
pub record IsSame (s next : State) (o : ℕ) : Type 0 where
  pub channel : channel_at next o ≡ channel_at s o
  pub lock : is_locked next o ≡ is_locked s o
  pub counter : counter_of next o ≡ counter_of s o
  pub end : has_ended next o ≡ has_ended s o

recv-same : (s next : State) (o : ℕ) (w : Option What) → IsSame s next o → is_ready_recv next no_timer o w ≡ is_ready_recv s no_timer o w
recv-same s next o None same = refl
recv-same s next o (Some What.Timer) same = refl
recv-same s next o (Some What.Ticker) same = refl
recv-same s next o (Some (What.AfterFunc func)) same = refl
recv-same s next o (Some (What.Chan cap)) same = ap (λ (ch : Option Channel). nat_lt 0 (length (kept_in ch)) || shut_in ch) same.channel
recv-same s next o (Some What.Mutex) same = ap not same.lock
recv-same s next o (Some What.Wg) same = ap (λ n. n == 0) same.counter
recv-same s next o (Some (What.Cond mutex)) same = refl
recv-same s next o (Some (What.Ctx parent form)) same = same.end
recv-same s next o (Some (What.Hook ctx func)) same = refl
recv-same s next o (Some What.Error) same = refl
recv-same s next o (Some What.Function) same = refl

send-same : (s next : State) (c cap : ℕ) → channel_at next c ≡ channel_at s c → (is_closed next c || nat_lt (item_count next c) cap) ≡ (is_closed s c || nat_lt (item_count s c) cap)
send-same s next c cap same = ap (λ (ch : Option Channel). shut_in ch || nat_lt (length (kept_in ch)) cap) same

pub alone-same : (script : Script) (s next : State) (kind : CaseKind) → IsSame s next (object_of kind) → is_ready_alone script next no_timer kind ≡ is_ready_alone script s no_timer kind
alone-same script s next (CaseKind.Recv o) same = recv-same s next o (what_at script o) same
alone-same script s next (CaseKind.Send c v) same = send-same s next c (capacity_of script c) same.channel

sound-stays : (s next : State) (may : ℕ → Bool) (kind : CaseKind) → Stays s next may → case_fault s kind ≡ None → case_fault next kind ≡ None
sound-stays s next may (CaseKind.Recv o) stays h = made-none (is_made next o) (made-stays s next may o stays (none-made (is_made s o) (ap is_some h)))
sound-stays s next may (CaseKind.Send c v) stays h = sound-made (channel_at next c) (stays.made c (made-sound (channel_at s c) h))

unmade-stays : (s next : State) (may : ℕ → Bool) (i : Instr) → Stays s next may → unmade s i ≡ None → unmade next i ≡ None
unmade-stays s next may (Instr.Recv o) stays h = sound-stays s next may (CaseKind.Recv o) stays h
unmade-stays s next may (Instr.Send c v) stays h = sound-stays s next may (CaseKind.Send c v) stays h
unmade-stays s next may (Instr.Select cases default_to) stays h = sound-choice next cases (λ k c e. sound-stays s next may c.kind stays (choice-sound s cases k c h e))
unmade-stays s next may _ stays h = refl

-- ---- all of them

-- who is parked at an operation was parked at it before
record Was (script : Script) (s : State) (m : Schedule) (g k : ℕ) (kind : CaseKind) : Type 0 where
  waits : is_waiting m g ≡ true
  at : operation_at script s (at_case g k) ≡ Some kind

pub calm_but-next : (script : Script) (s next : State) (m n : Schedule) (x y : ℕ → Bool) → Stays s next y → AllWere script s m y next n → ((o : ℕ) → y o ≡ false → x o ≡ false) → IsCalmBut script s m x
    → ((c : ℕ) → y c ≡ true → c < length script.decls) → IsCalmBut script next n y
calm_but-next script s next m n x y stays were wider calm declared = record {
  waits = λ g waits. stands-there g (goroutine_at next g) (were g waits) refl;
  objects = λ g i waits e. made-there g i (goroutine_at next g) (were g waits) refl e;
  partners = λ g k kind waits e.
      let w : Was script s m g k kind = was g k kind (goroutine_at next g) (were g waits) refl e in
      unless-true (has_partner script next (is_waiting n) g kind)
      (λ h. never-both (has_partner script s (is_waiting m) g kind) (partner-kept script s next m n x y stays were calm g kind h) (calm.partners g k kind w.waits w.at));
  others = λ g k kind waits e apart.
      let w : Was script s m g k kind = was g k kind (goroutine_at next g) (were g waits) refl e in
      alone-same script s next kind (record {
        channel = stays.same (object_of kind) apart;
        lock = stays.locks (object_of kind) apart;
        counter = stays.counters (object_of kind) apart;
        end = stays.ends (object_of kind) apart;
      }) ∙ calm.others g k kind w.waits w.at (wider (object_of kind) apart);
  relocks = λ g k waits mode apart. locked g k (goroutine_at next g) (were g waits) refl mode apart;
  declared = declared;
}
  where
    was : (g k : ℕ) (kind : CaseKind) (o : Option Goroutine) → WasThere script s m y g o → goroutine_at next g ≡ o → operation_at script next (at_case g k) ≡ Some kind → Was script s m g k kind
    was g k kind o (waited waits p is) there e = record { waits = waits; at = ap (λ o. operation_of (stood script o) k) (sym (there ∙ is)) ∙ e }
    was g k kind o (sleeps until r) there e =
        let none : operation_at script next (at_case g k) ≡ None = ap (λ o. operation_of (stood script o) k) there in
        cc
    was g k kind o (suspends c r) there e =
        let none : operation_at script next (at_case g k) ≡ None = ap (λ o. operation_of (stood script o) k) there in
        cc
    was g k kind o (relocks c r here) there e =
        let none : operation_at script next (at_case g k) ≡ None = ap (λ o. operation_of (stood script o) k) there in
        cc

    made-there : (g : ℕ) (i : Instr) (o : Option Goroutine) → WasThere script s m y g o → goroutine_at next g ≡ o → stands_at script next g ≡ Some i → unmade next i ≡ None
    made-there g i o (waited waits p is) there e = unmade-stays s next y i stays (calm.objects g i waits (ap (stood script) (sym (there ∙ is)) ∙ e))
    made-there g i o (sleeps until r) there e = let none : stands_at script next g ≡ None = ap (stood script) there in cc
    made-there g i o (suspends c r) there e = let none : stands_at script next g ≡ None = ap (stood script) there in cc
    made-there g i o (relocks c r here) there e = let none : stands_at script next g ≡ None = ap (stood script) there in cc

    stands-there : (g : ℕ) (o : Option Goroutine) → WasThere script s m y g o → goroutine_at next g ≡ o → may_wait (stands_at script next g) ≡ true
    stands-there g o (waited waits p is) there = ap (λ o. may_wait (stood script o)) (there ∙ is) ∙ calm.waits g waits
    stands-there g o (sleeps until r) there = ap (λ o. may_wait (stood script o)) there
    stands-there g o (suspends c r) there = ap (λ o. may_wait (stood script o)) there
    stands-there g o (relocks c r here) there = ap (λ o. may_wait (stood script o)) there

    locked : (g k : ℕ) (o : Option Goroutine) → WasThere script s m y g o → goroutine_at next g ≡ o → mode_of next g ≡ Some (Mode.Relocking k) → y (mutex_of script k) ≡ false
        → is_locked next (mutex_of script k) ≡ true
    locked g k o (waited waits p is) there mode apart =
        stays.locks (mutex_of script k) apart ∙ calm.relocks g k waits (ap its_mode (sym (there ∙ is)) ∙ mode) (wider (mutex_of script k) apart)
    locked g k o (sleeps until r) there mode apart = let asleep : mode_of next g ≡ Some (Mode.Sleeping until) = ap its_mode there in cc
    locked g k o (suspends c r) there mode apart = let suspended : mode_of next g ≡ Some (Mode.Suspended c) = ap its_mode there in cc
    locked g k o (relocks c r here) there mode apart =
        let relocking : mode_of next g ≡ Some (Mode.Relocking c) = ap its_mode there in
        let same : c ≡ k = cc in
        absurd (never-both (y (mutex_of script k)) (subst (λ k. y (mutex_of script k) ≡ true) same here) apart)

-- nobody is firmly ready, nor but at no object
abbrev pub nowhere : ℕ → Bool
nowhere o = false

pub calm-nowhere : (script : Script) (s : State) (m : Schedule) → IsCalm script s m → IsCalmBut script s m nowhere
calm-nowhere script s m calm = record {
  waits = λ g waits. firm-waits script s (is_waiting m) g (stood script (goroutine_at s g)) (firm g waits);
  objects = λ g i waits e. firm-made script s (is_waiting m) g (Some i) (ap (firm_on script s (is_waiting m) g) (sym e) ∙ firm g waits);
  partners = λ g n kind waits e. (firm-each script s (is_waiting m) g (stood script (goroutine_at s g)) n kind (firm g waits) e).partner;
  others = λ g n kind waits e apart. (firm-each script s (is_waiting m) g (stood script (goroutine_at s g)) n kind (firm g waits) e).alone;
  relocks = λ g k waits mode apart. firm-locked script s (is_waiting m) g k (goroutine_at s g) mode (calm g waits);
  declared = λ c h. cc;
}
  where
    firm : (g : ℕ) → is_waiting m g ≡ true → firm_on script s (is_waiting m) g (stood script (goroutine_at s g)) ≡ false
    firm g waits = firm-stood script s (is_waiting m) g (goroutine_at s g) (calm g waits)

-- where none of their operations is ready by itself, and the mutexes are locked for which they wait, nobody is
pub calm_but-calm : (script : Script) (s : State) (m : Schedule) (but : ℕ → Bool) → IsCalmBut script s m but
    → ((g n : ℕ) (kind : CaseKind) → is_waiting m g ≡ true → operation_at script s (at_case g n) ≡ Some kind → is_ready_alone script s no_timer kind ≡ false)
    → ((g k : ℕ) → is_waiting m g ≡ true → mode_of s g ≡ Some (Mode.Relocking k) → is_locked s (mutex_of script k) ≡ true) → IsCalm script s m
calm_but-calm script s m but calm alone locked g waits =
    stood-firm script s (is_waiting m) g (goroutine_at s g)
    (quiet-firm script s (is_waiting m) g (stood script (goroutine_at s g)) (calm.waits g waits) (made (stood script (goroutine_at s g)) refl)
    (λ n kind e. record { alone = alone g n kind waits e; partner = calm.partners g n kind waits e }))
    (λ k mode. locked g k waits mode)
  where
    made : (o : Option Instr) → stands_at script s g ≡ o → unmade_of s o ≡ None
    made None e = refl
    made (Some i) e = calm.objects g i waits e

pub nowhere-calm : (script : Script) (s : State) (m : Schedule) → IsCalmBut script s m nowhere → IsCalm script s m
nowhere-calm script s m but = calm_but-calm script s m nowhere but (λ g n kind waits e. but.others g n kind waits e refl) (λ g k waits mode. but.relocks g k waits mode refl)

-- where every object stays, and who is parked was parked before
pub calm-next : (script : Script) (s next : State) (m n : Schedule) → Stays s next nowhere → AllWere script s m nowhere next n → IsCalm script s m → IsCalm script next n
calm-next script s next m n stays were calm =
    nowhere-calm script next n (calm_but-next script s next m n nowhere nowhere stays were (λ o e. refl) (calm-nowhere script s m calm) (λ c h. cc))
