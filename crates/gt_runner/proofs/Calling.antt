-- What a whole call of a goroutine in hand does to a run.
use Rattle.std.proofs.Common.{◌≡◌, ◌≢◌, ℕ, zero, suc, ◌+◌, ◌<◌, ◌≤◌, List, [], ◌∷◌, length, set, slice_get, count_by, refl, sym, ap, subst, ◌∙◌, arith, Option, None, Some, IsNone, MatchOption, Bool, true, false, ◌||◌, is_some, inl, inr, IfSome}
use Rattle.std.specs.Option.{option_map}
use Rattle.std.proofs.lemmas.Option.{slice_get_within}
use Rattle.gt_model.specs.declared.script.Script.{Script}
use Rattle.gt_model.specs.declared.script.Decl.{Decl}
use Rattle.gt_model.specs.declared.script.What.{What}
use Rattle.gt_model.specs.declared.script.Instr.{Instr}
use Rattle.gt_model.specs.declared.script.CaseKind.{CaseKind}
use Rattle.gt_model.specs.declared.entry.Entry.{Entry}
use Rattle.gt_model.specs.declared.entry.Reason.{Reason}
use Rattle.gt_model.specs.declared.state.Goroutine.{Goroutine}
use Rattle.gt_model.specs.declared.state.Mode.{Mode}
use Rattle.gt_model.specs.Script.{names_timer, names_func, is_ctx}
use Rattle.gt_model.specs.Good.{is_setting, NamesRightly}
use Rattle.gt_model.specs.declared.entry.Outcome.{Outcome}
use Rattle.gt_model.proofs.Declared.{setting_declared, ctx_declared}
use Rattle.gt_rules.specs.State.{State, stands_at, until_of, sleeps_until, suspended_count, clock_of}
use Rattle.gt_rules.specs.Panics.{fault, fault_case}
use Rattle.gt_rules.specs.Change.{Change, change_of}
use Rattle.gt_rules.specs.History.{ClockJumps}
use Rattle.gt_rules.specs.Legal.{due_at}
use Rattle.gt_rules.specs.Contexts.{start_count}
use Rattle.gt_rules.specs.After.{new_period}
use Rattle.gt_chtimer.proofs.Setting.{names-setting}
use Rattle.gt_facts.proofs.Lookups.{Standing, standing, names-instr_at}
use Rattle.gt_rec.specs.declared.RecKind.{RecKind}
use Rattle.gt_rec.specs.Rec.{Rec}
use Rattle.gt_rows.specs.Agrees.{kind_by, kind_of_what, of_declaration}
use Rattle.gt_rows.specs.declared.answers.SetDone.{SetDone}
use Rattle.gt_rows.specs.Lent.{IsLent, IsKept}
use Rattle.gt_rows.specs.Rows.{Parts, answer_of, sets, SetsAt, SetsBy, SetRow, DerivesBy, DeriveRow, Arms, UnlessOver, next_of}
use Rattle.gt_schedule.specs.declared.status.RunStatus.{RunStatus}
use Rattle.gt_schedule.specs.Schedule.{at_case, plainly, Schedule, status_of, Served}
use Rattle.gt_schedule.proofs.Counting.{count-cons}
use Rattle.gt_schedule.specs.Counts.{as_number}
use Rattle.gt_book.specs.declared.step.Step.{Step}
use Rattle.gt_book.specs.declared.answers.TimerOp.{TimerOp}
use Rattle.gt_book.specs.Steps.{goes_by, set_instr, set_entry, step_of_instr, step_or_panic}
use Rattle.gt_book.specs.View.{BookView, Enters, IsLawful, Agrees, outcome_of}
use Rattle.gt_book.proofs.Fitting.{Known, known}
use Rattle.gt_rules.specs.declared.change.Move.{Move}
use Rattle.gt_rules.specs.declared.change.Setting.{Setting}
use Rattle.gt_rows.specs.Frames.{until_after}
use Rattle.gt_book.specs.Calm.{IsCalm}
use Rattle.gt_book.proofs.Going.{IsStep, step-is, in_hand-goes, makes-so, makes-served, makes-awake, makes-call, waits-rightly, IsCall, IsAwake, AreAwake}
use Rattle.gt_book.proofs.Meeting.{plain-is, recv-is, send-is, choice-is, with-is, cancel-is}
use Rattle.gt_book.proofs.Setting.{instr-set}
use Rattle.gt_book.proofs.Passing.{enters-script, enters-limits}
use Rattle.gt_runner.specs.declared.runner.Runner.{Runner}
use Rattle.gt_runner.specs.Calls.{HasRecord, After, Ready, WantsSet, IsDerive}
use Rattle.gt_runner.specs.Served.{IsWatched, AtKind, IsAt, AtNumber, IsTended, is_heaped, record_count, noted_at}
use Rattle.gt_runner.proofs.Fitting.{fit-enters, named-enters}
use Rattle.gt_runner.proofs.Leaving.{Leaves, LeavesSleep, LeavesOwn}
use Rattle.gt_runner.proofs.Deriving.{makes-tree}
use Rattle.gt_runner.proofs.Tending.{tended-spared, tended-touched}
use Rattle.gt_runner.proofs.Touching.{stays-enters, sets-touches}
use Rattle.gt_runner.proofs.Passes.{goes-enters, makes-no_clock}
use Rattle.gt_runner.proofs.Needing.{ctx-kind}
use Rattle.gt_runner.proofs.Deriving.{IsMade, derive-made}

-- ---- who is in hand is awake

awake-mode : (mode : Mode) → Agrees mode RunStatus.InHand → until_of mode ≡ None
awake-mode Mode.At h = refl
awake-mode (Mode.Sleeping until) h = absurd h
awake-mode (Mode.Suspended k) h = absurd h
awake-mode (Mode.Relocking k) h = absurd h
awake-mode Mode.Ended h = absurd h

pub in_hand-awake : (v : BookView) (g : ℕ) → IsLawful v → status_of v.schedule g ≡ Some RunStatus.InHand → sleeps_until v.state g ≡ None
in_hand-awake v g lawful e =
    let k : Known v.script v.state v.schedule g RunStatus.InHand = known v.script v.state v.schedule g RunStatus.InHand lawful.fits e in
    ap (λ (o : Option Goroutine). elim (option_map (λ (r : Goroutine). r.mode) o) as (λ _. Option ℕ) [ None ↦ None | Some mode ↦ until_of mode ]) k.there ∙ awake-mode k.who.mode k.agrees

standing-awake : (v : BookView) (g : ℕ) (i : Instr) → stands_at v.script v.state g ≡ Some i → sleeps_until v.state g ≡ None
standing-awake v g i e =
    let st : Standing v.script v.state g i = standing v.script v.state g i e in
    ap (λ (o : Option Goroutine). elim (option_map (λ (r : Goroutine). r.mode) o) as (λ _. Option ℕ) [ None ↦ None | Some mode ↦ until_of mode ]) st.there ∙ ap until_of st.at

pub stands-awake : (v : BookView) (g : ℕ) (i : Instr) → stands_at v.script v.state g ≡ Some i → sleeps_until v.state g ≡ None
stands-awake v g i e = standing-awake v g i e

-- ---- the instruction that asks for a record

-- what an instruction asks for of a record
abbrev stopped_by : Step → Option ℕ
stopped_by (Step.Needs (TimerOp.Stop t)) = Some t
stopped_by _ = None

abbrev stopped_at : Instr → Option ℕ
stopped_at (Instr.Stop t) = Some t
stopped_at _ = None

same-stop : (script : Script) (s : State) (m : Schedule) (g : ℕ) (i : Instr) → stopped_by (step_of_instr script s m g i) ≡ stopped_at i
same-stop script s m g (Instr.Sleep zero) = refl
same-stop script s m g (Instr.Sleep (suc d)) = refl
same-stop script s m g (Instr.Recv o) = recv-is (λ step. stopped_by step ≡ None) (λ e. refl) (λ kind. refl) (λ t. refl) script s m g o
same-stop script s m g (Instr.Send c v) = send-is (λ step. stopped_by step ≡ None) (λ e. refl) (λ kind. refl) script s m g c v
same-stop script s m g (Instr.Lock k) = plain-is (λ step. stopped_by step ≡ None) (λ e. refl) (λ kind. refl) (CaseKind.Recv k) (goes_by script s m (plainly g) (CaseKind.Recv k))
same-stop script s m g (Instr.Wait k) = plain-is (λ step. stopped_by step ≡ None) (λ e. refl) (λ kind. refl) (CaseKind.Recv k) (goes_by script s m (plainly g) (CaseKind.Recv k))
same-stop script s m g (Instr.Select cases default_to) = choice-is (λ step. stopped_by step ≡ None) (λ e. refl) (λ t. refl) (λ timed. refl) script s m g cases default_to
same-stop script s m g (Instr.With x) = with-is (λ step. stopped_by step ≡ None) (λ e. refl) (λ y due. refl) script s m g x
same-stop script s m g (Instr.Cancel x cause) = cancel-is (λ step. stopped_by step ≡ None) (λ e. refl) (λ y. refl) script s m g x cause
same-stop script s m g _ = refl

only-stop : (i : Instr) (t : ℕ) → stopped_at i ≡ Some t → i ≡ Instr.Stop t
only-stop (Instr.Stop u) t h = (let a : u ≡ t = cc in ap Instr.Stop a)
only-stop _ t h = cc

asks-stop : (script : Script) (s : State) (m : Schedule) (g : ℕ) (i : Instr) (t : ℕ) → step_of_instr script s m g i ≡ Step.Needs (TimerOp.Stop t) → i ≡ Instr.Stop t
asks-stop script s m g i t h = only-stop i t (sym (same-stop script s m g i) ∙ ap stopped_by h)

asks-sleep : (script : Script) (s : State) (m : Schedule) (g : ℕ) (i : Instr) (d : ℕ) → step_of_instr script s m g i ≡ Step.Needs (TimerOp.Sleep d) → (k : ℕ) × (i ≡ Instr.Sleep (suc k))
asks-sleep script s m g (Instr.Sleep zero) d h = cc
asks-sleep script s m g (Instr.Sleep (suc c)) d h = (c, refl)
asks-sleep script s m g (Instr.Recv o) d h = absurd (recv-is (λ step. step ≡ Step.Needs (TimerOp.Sleep d) → ⊥) (λ e k. cc) (λ kind k. cc) (λ t k. cc) script s m g o h)
asks-sleep script s m g (Instr.Send c v) d h = absurd (send-is (λ step. step ≡ Step.Needs (TimerOp.Sleep d) → ⊥) (λ e k. cc) (λ kind k. cc) script s m g c v h)
asks-sleep script s m g (Instr.Lock k) d h = absurd (plain-is (λ step. step ≡ Step.Needs (TimerOp.Sleep d) → ⊥) (λ e q. cc) (λ kind q. cc) (CaseKind.Recv k) (goes_by script s m (plainly g) (CaseKind.Recv k)) h)
asks-sleep script s m g (Instr.Wait k) d h = absurd (plain-is (λ step. step ≡ Step.Needs (TimerOp.Sleep d) → ⊥) (λ e q. cc) (λ kind q. cc) (CaseKind.Recv k) (goes_by script s m (plainly g) (CaseKind.Recv k)) h)
asks-sleep script s m g (Instr.Select cases default_to) d h =
    absurd (choice-is (λ step. step ≡ Step.Needs (TimerOp.Sleep d) → ⊥) (λ e k. cc) (λ t k. cc) (λ timed k. cc) script s m g cases default_to h)
asks-sleep script s m g (Instr.With x) d h = absurd (with-is (λ step. step ≡ Step.Needs (TimerOp.Sleep d) → ⊥) (λ e q. cc) (λ y due q. cc) script s m g x h)
asks-sleep script s m g (Instr.Cancel x cause) d h = absurd (cancel-is (λ step. step ≡ Step.Needs (TimerOp.Sleep d) → ⊥) (λ e q. cc) (λ y q. cc) script s m g x cause h)
asks-sleep script s m g _ d h = cc

-- no panic asks for a record
no-panic : (script : Script) (s : State) (m : Schedule) (g : ℕ) (i : Instr) (o : Option Reason) (step : Step) (P : Type 0) → step_or_panic script s m g i o ≡ step
    → ((e : Entry) → Step.Makes e ≡ step → P) → (step_of_instr script s m g i ≡ step → P) → P
no-panic script s m g i None step P h panics calm = calm h
no-panic script s m g i (Some reason) step P h panics calm = panics (Entry.Panic (at_case g (fault_case s i)) reason) h

pub stands-set : (v : BookView) (g t d : ℕ) (anew : Bool) → next_of v g ≡ Some (Step.Needs (TimerOp.Set t d anew)) → stands_at v.script v.state g ≡ Some (set_instr t d anew)
stands-set v g t d anew e =
    let st : IsStep v.script v.state v.schedule g (Step.Needs (TimerOp.Set t d anew)) = step-is v.script v.state v.schedule g (Step.Needs (TimerOp.Set t d anew)) e in
    no-panic v.script v.state v.schedule g st.instr (fault v.script v.state st.instr) (Step.Needs (TimerOp.Set t d anew)) (stands_at v.script v.state g ≡ Some (set_instr t d anew)) st.is (λ x h. cc)
    (λ h. st.stands ∙ ap Some (instr-set v.script v.state v.schedule g t d anew st.instr h))

pub stands-stop : (v : BookView) (g t : ℕ) → next_of v g ≡ Some (Step.Needs (TimerOp.Stop t)) → stands_at v.script v.state g ≡ Some (Instr.Stop t)
stands-stop v g t e =
    let st : IsStep v.script v.state v.schedule g (Step.Needs (TimerOp.Stop t)) = step-is v.script v.state v.schedule g (Step.Needs (TimerOp.Stop t)) e in
    no-panic v.script v.state v.schedule g st.instr (fault v.script v.state st.instr) (Step.Needs (TimerOp.Stop t)) (stands_at v.script v.state g ≡ Some (Instr.Stop t)) st.is (λ x h. cc)
    (λ h. st.stands ∙ ap Some (asks-stop v.script v.state v.schedule g st.instr t h))

pub stands-sleep : (v : BookView) (g d : ℕ) → next_of v g ≡ Some (Step.Needs (TimerOp.Sleep d)) → (k : ℕ) × (stands_at v.script v.state g ≡ Some (Instr.Sleep (suc k)))
stands-sleep v g d e =
    let st : IsStep v.script v.state v.schedule g (Step.Needs (TimerOp.Sleep d)) = step-is v.script v.state v.schedule g (Step.Needs (TimerOp.Sleep d)) e in
    no-panic v.script v.state v.schedule g st.instr (fault v.script v.state st.instr) (Step.Needs (TimerOp.Sleep d)) ((k : ℕ) × (stands_at v.script v.state g ≡ Some (Instr.Sleep (suc k)))) st.is (λ x h. cc)
    (λ h. let found = asks-sleep v.script v.state v.schedule g st.instr d h in (found.0, st.stands ∙ ap Some found.1))

-- who waits at a timer stands at its receive
pub stands-recv : (v : BookView) (g t : ℕ) → IsLawful v → next_of v g ≡ Some (Step.Waits t) → stands_at v.script v.state g ≡ Some (Instr.Recv t)
stands-recv v g t lawful e = (waits-rightly v.script v.state v.schedule g t lawful.good lawful.formed e).stands

-- ---- the records of timers

some-kind : (o : Option Decl) → (names_timer (option_map (λ (d : Decl). d.what) o) || names_func (option_map (λ (d : Decl). d.what) o)) ≡ true
    → (kind : RecKind) × ((elim o as (λ _. Option RecKind) [ None ↦ Some RecKind.Sleep | Some decl ↦ kind_of_what decl.what ]) ≡ Some kind)
some-kind None h = cc
some-kind (Some decl) h = of_what decl.what h
  where
    of_what : (w : What) → (names_timer (Some w) || names_func (Some w)) ≡ true → (kind : RecKind) × (kind_of_what w ≡ Some kind)
    of_what What.Timer h = (RecKind.Timer, refl)
    of_what What.Ticker h = (RecKind.Ticker, refl)
    of_what (What.AfterFunc f) h = (RecKind.Func, refl)
    of_what (What.Chan cap) h = cc
    of_what What.Mutex h = cc
    of_what What.Wg h = cc
    of_what (What.Cond mutex) h = cc
    of_what (What.Ctx parent form) h = cc
    of_what (What.Hook ctx func) h = cc
    of_what What.Error h = cc
    of_what What.Function h = cc

get-some : {X : Type 0} (xs : List X) (i : ℕ) → i < length xs → (x : X) × (slice_get xs i ≡ Some x)
get-some [] i h = absurd (omega arith)
get-some (x ∷ xs) zero h = (x, refl)
get-some (x ∷ xs) (suc i) h = get-some xs i (omega arith)

kind-record : (x : Runner) (id : ℕ) (r : Rec) (kind : RecKind) → kind_by x.book.script id ≡ Some kind → slice_get x.records.items id ≡ Some r → IsAt x.book x.heap x.noted id r → HasRecord x id
kind-record x id r kind is there at = record { rec = r; there = there; id_is = at.id_is; watched = subst (AtKind x.book x.heap x.noted id r) is at.watched }

pub setting-record : (x : Runner) (t : ℕ) → IsTended x → is_setting x.book.script t ≡ true → HasRecord x t
setting-record x t tended setting =
    let within : t < length x.book.script.decls = setting_declared x.book.script t setting in
    let declared : length x.book.script.decls ≤ length x.records.items = tended.declared in
    let found = get-some x.records.items t (omega arith) in
    let kind = some-kind (of_declaration x.book.script t) setting in
    kind-record x t found.0 kind.0 kind.1 found.1 (subst (AtNumber x.book x.heap x.noted t) found.1 (tended.at t))

-- and that of a context
pub ctx-record : (x : Runner) (id : ℕ) → IsTended x → is_ctx x.book.script id ≡ true → HasRecord x id
ctx-record x id tended ctx =
    let within : id < length x.book.script.decls = ctx_declared x.book.script id ctx in
    let declared : length x.book.script.decls ≤ length x.records.items = tended.declared in
    let found = get-some x.records.items id (omega arith) in
    kind-record x id found.0 RecKind.Deadline (ctx-kind x.book.script id ctx) found.1 (subst (AtNumber x.book x.heap x.noted id) found.1 (tended.at id))

beyond : {X : Type 0} (xs : List X) (i : ℕ) → length xs ≤ i → slice_get xs i ≡ None
beyond [] i h = refl
beyond (x ∷ xs) zero h = absurd (omega arith)
beyond (x ∷ xs) (suc i) h = beyond xs i (omega arith)

pub sleep-record : (x : Runner) (id : ℕ) → IsTended x → length x.book.script.decls ≤ id → id < length x.records.items → HasRecord x id
sleep-record x id tended behind within =
    let found = get-some x.records.items id within in
    let kind : kind_by x.book.script id ≡ Some RecKind.Sleep =
    ap (λ (o : Option Decl). elim o as (λ _. Option RecKind) [ None ↦ Some RecKind.Sleep | Some decl ↦ kind_of_what decl.what ]) (beyond x.book.script.decls id behind) in
    kind-record x id found.0 RecKind.Sleep kind found.1 (subst (AtNumber x.book x.heap x.noted id) found.1 (tended.at id))

pub record-within : (x : Runner) (id : ℕ) → HasRecord x id → id < length x.records.items
record-within x id h = slice_get_within x.records.items id h.rec h.there

-- ---- room in the heap

count-most : (xs : List Rec) → count_by is_heaped xs ≤ length xs
count-most [] = omega arith
count-most (r ∷ rs) =
    let sum : count_by is_heaped (r ∷ rs) ≡ as_number (is_heaped r) + count_by is_heaped rs = count-cons is_heaped r rs in
    let rest : count_by is_heaped rs ≤ length rs = count-most rs in
    let one : as_number (is_heaped r) ≤ 1 = at_most (is_heaped r) in
    omega arith
  where
    at_most : (b : Bool) → as_number b ≤ 1
    at_most true = omega arith
    at_most false = omega arith

count-less : (xs : List Rec) (i : ℕ) (r : Rec) → slice_get xs i ≡ Some r → is_heaped r ≡ false → count_by is_heaped xs < length xs
count-less [] i r e h = cc
count-less (s ∷ rs) zero r e h =
    let sum : count_by is_heaped (s ∷ rs) ≡ as_number (is_heaped s) + count_by is_heaped rs = count-cons is_heaped s rs in
    let none : as_number (is_heaped s) ≡ 0 = (let is : s ≡ r = cc in ap (λ s. as_number (is_heaped s)) is ∙ ap as_number h) in
    let rest : count_by is_heaped rs ≤ length rs = count-most rs in
    omega arith
count-less (s ∷ rs) (suc i) r e h =
    let sum : count_by is_heaped (s ∷ rs) ≡ as_number (is_heaped s) + count_by is_heaped rs = count-cons is_heaped s rs in
    let rest : count_by is_heaped rs < length rs = count-less rs i r e h in
    let one : as_number (is_heaped s) ≤ 1 = at_most (is_heaped s) in
    omega arith
  where
    at_most : (b : Bool) → as_number b ≤ 1
    at_most true = omega arith
    at_most false = omega arith

none-is_some : (o : Option ℕ) → IsNone o → is_some o ≡ false
none-is_some None h = refl
none-is_some (Some q) h = cc

pub record-lent : (x : Runner) (id : ℕ) (r : Rec) → IsTended x → (h : HasRecord x id) → slice_get x.records.items id ≡ Some r → IsLent x.book x.heap r
record-lent x id r tended h there =
    let is : h.rec ≡ r = (let own = h.there in cc) in
    let w : IsWatched x.book x.heap x.noted r = subst (IsWatched x.book x.heap x.noted) is h.watched in
    record {
      rec = w.kept.rec;
      placed = w.kept.placed;
      room = λ none.
          let fewer : count_by is_heaped x.records.items < length x.records.items = count-less x.records.items id r there (none-is_some r.heaped none) in
          let all : length x.records.items + x.records.spare ≡ record_count x.book = tended.record_room in
          let heap : record_count x.book ≤ x.heap.spare + count_by is_heaped x.records.items = tended.heap_room in
          omega arith;
    }

pub record-is : (x : Runner) (id : ℕ) (r : Rec) → (h : HasRecord x id) → slice_get x.records.items id ≡ Some r → HasRecord x id × (r.id ≡ id) × IsWatched x.book x.heap x.noted r
record-is x id r h there =
    let is : h.rec ≡ r = (let own = h.there in cc) in
    (h, subst (λ (r : Rec). r.id ≡ id) is h.id_is, subst (IsWatched x.book x.heap x.noted) is h.watched)

-- ---- after an entry of a goroutine in hand

pub after-enters : (x x' : Runner) (g : ℕ) (e : Entry) → Ready x g → Enters x.book e x'.book → Served x.book.schedule e
    → ClockJumps x.book.script 0 x.book.state e → IsTended x' → After x x' g
after-enters x x' g e ready enters served clock tended = record {
  goes = goes-enters x.book e x'.book g ready.lawful enters clock ready.alone;
  served = record { tended = tended; marks = fit-enters x.book e x'.book ready.lawful ready.marks enters served ready.served.marks; named = named-enters x.book e x'.book enters ready.served.named };
}

-- an entry that touches no record
pub tended-plain : (x x' : Runner) (e : Entry) → IsTended x → IsLawful x.book → Enters x.book e x'.book → ((j : ℕ) → Leaves x.book (change_of e) j)
    → x'.records ≡ x.records → x'.heap ≡ x.heap → x'.noted ≡ x.noted → IsTended x'
tended-plain x x' e tended lawful enters leaves records_are heap_is noted_is =
    tended-spared x x' tended (record {
      records_are = records_are;
      heap_is = heap_is;
      noted_is = noted_is;
      limits = enters-limits x.book e x'.book enters;
      script_is = enters-script x.book e x'.book enters;
      stays = λ j. stays-enters x.book e x'.book x.heap x.heap j lawful enters (leaves j) refl refl;
    })

-- what a step makes touches no record: who moves by it did not sleep, and does not fall asleep
awake-until : (m : Move) → IsAwake m → until_after m None ≡ None
awake-until (Move.GoesOn n) h = refl
awake-until (Move.FallsAsleep until) h = absurd h
awake-until (Move.Suspends k) h = refl
awake-until (Move.Relocks k) h = refl
awake-until Move.Ends h = refl
awake-until Move.Panics h = refl

moved-leaves : (v : BookView) (o : Option (ℕ × Move)) (j : ℕ) → IfSome o (λ (x : ℕ × Move). IsAwake x.1) → IfSome o (λ (x : ℕ × Move). sleeps_until v.state x.0 ≡ None) → IfSome o (LeavesSleep v j)
moved-leaves v None j stays awake = tt
moved-leaves v (Some x) j stays awake = inr (awake, awake-until x.1 stays)

pub call-leaves : (v : BookView) (c : Change) (j : ℕ) → IsCall c → AreAwake v.state c → IfSome c.tree (λ x. LeavesOwn v c j x.0 x.1) → Leaves v c j
call-leaves v c j call awake tree = record {
  tree = tree;
  timer = subst (λ (o : Option (ℕ × Setting)). IfSome o (λ x. x.0 ≢ j)) (sym call.timer) tt;
  mover = moved-leaves v c.mover j call.mover awake.mover;
  partner = moved-leaves v c.partner j call.partner awake.partner;
}

-- ---- the calls, one by one

pub after-makes : (x x' : Runner) (g : ℕ) (e : Entry) → Ready x g → next_of x.book g ≡ Some (Step.Makes e) → Enters x.book e x'.book
    → x'.records ≡ x.records → x'.heap ≡ x.heap → x'.noted ≡ x.noted → After x x' g
after-makes x x' g e ready next enters records_are heap_is noted_is =
    let v : BookView = x.book in
    let calm : IsCalm v.script v.state v.schedule = λ h waits. ready.lawful.calm ready.running h waits in
    let call : IsCall (change_of e) = makes-call v.script v.state v.schedule g e next in
    let awake : AreAwake v.state (change_of e) = makes-awake v.script v.state v.schedule g e ready.lawful.good ready.lawful.formed ready.lawful.fits calm ready.alone.in_hand next in
    after-enters x x' g e ready enters
    (makes-served v.script v.state v.schedule g e ready.lawful.good ready.lawful.formed ready.lawful.fits calm ready.alone.in_hand next)
    (makes-no_clock v g e next)
    (tended-plain x x' e ready.served.tended ready.lawful enters
    (λ j. call-leaves v (change_of e) j call awake (makes-tree v g e j next (makes-so v.script v.state v.schedule g ready.lawful.good ready.lawful.formed ready.lawful.fits calm ready.alone.in_hand e next)))
    records_are heap_is noted_is)

-- a section that arms a record
pub record Armed (x x' : Runner) (g id : ℕ) (r r' : Rec) (e : Entry) (due period : ℕ) (done : SetDone) : Type 0 where
  pub there : slice_get x.records.items id ≡ Some r
  pub id_is : r.id ≡ id
  pub watched : IsWatched x.book x.heap x.noted r
  pub records_are : x'.records.items ≡ set x.records.items id r'
  pub spare : x'.records.spare ≡ x.records.spare
  pub noted_is : x'.noted ≡ noted_at x.noted r'
  pub arms : Arms (record { heap = x.heap; rec = r; book = x.book }) e due period (record { heap = x'.heap; rec = r'; book = x'.book }) done
  pub kept : IsKept x'.book x'.heap r'
  pub leaves : (j : ℕ) → j ≢ id → Leaves x.book (change_of e) j
  pub served : Served x.book.schedule e
  pub clock : ClockJumps x.book.script 0 x.book.state e

pub after-armed : (x x' : Runner) (g id : ℕ) (r r' : Rec) (e : Entry) (due period : ℕ) (done : SetDone) → Ready x g → Armed x x' g id r r' e due period done → After x x' g
after-armed x x' g id r r' e due period done ready a =
    after-enters x x' g e ready a.arms.entered a.served a.clock
    (tended-touched x x' id r r' ready.served.tended
    (sets-touches x x' id r r' e due period done ready.lawful (record {
      there = a.there;
      id_is = a.id_is;
      watched = a.watched;
      records_are = a.records_are;
      spare = a.spare;
      noted_is = a.noted_is;
      arms = a.arms;
      leaves = a.leaves;
      kept = a.kept;
    })))

pub names-standing : (v : BookView) (g : ℕ) (i : Instr) → IsLawful v → stands_at v.script v.state g ≡ Some i → NamesRightly v.script i
names-standing v g i lawful e =
    let st : Standing v.script v.state g i = standing v.script v.state g i e in
    names-instr_at v.script st.who.place i lawful.good st.on

pub wants-setting : (v : BookView) (g t : ℕ) → IsLawful v → WantsSet v g t → is_setting v.script t ≡ true
wants-setting v g t lawful w =
    names-setting v.script t w.d w.anew (names-standing v g (set_instr t w.d w.anew) lawful (stands-set v g t w.d w.anew w.wants))

pub wants-sets : (v : BookView) (g t : ℕ) → WantsSet v g t → SetsAt v g t
wants-sets v g t w =
    let st : IsStep v.script v.state v.schedule g (Step.Needs (TimerOp.Set t w.d w.anew)) = step-is v.script v.state v.schedule g (Step.Needs (TimerOp.Set t w.d w.anew)) w.wants in
    no-panic v.script v.state v.schedule g st.instr (fault v.script v.state st.instr) (Step.Needs (TimerOp.Set t w.d w.anew)) (SetsAt v g t) st.is (λ x h. cc)
    (λ h. subst (λ o. elim o as (λ _. Type 0) [ None ↦ ⊥ | Some i ↦ sets (step_of_instr v.script v.state v.schedule g i) ≡ Some t ]) (sym st.stands) (ap sets h))

-- ---- setting a timer

-- the entry of a setting touches no other record and moves no clock, and its goroutine may make it
set-leaves : (v : BookView) (g t due : ℕ) (anew : Bool) (was : Option Bool) (j : ℕ) → sleeps_until v.state g ≡ None → j ≢ t → Leaves v (change_of (set_entry g t anew was due)) j
set-leaves v g t due true was j awake n = record { timer = λ e. n (sym e); mover = inr (awake, refl); partner = tt; tree = tt }
set-leaves v g t due false was j awake n = record { timer = λ e. n (sym e); mover = inr (awake, refl); partner = tt; tree = tt }

set-served : (v : BookView) (g t due : ℕ) (anew : Bool) (was : Option Bool) → status_of v.schedule g ≡ Some RunStatus.InHand → Served v.schedule (set_entry g t anew was due)
set-served v g t due true was in_hand = (in_hand-goes (status_of v.schedule g) in_hand, tt)
set-served v g t due false was in_hand = (in_hand-goes (status_of v.schedule g) in_hand, tt)

set-no_clock : (v : BookView) (g t due : ℕ) (anew : Bool) (was : Option Bool) → ClockJumps v.script 0 v.state (set_entry g t anew was due)
set-no_clock v g t due true was = tt
set-no_clock v g t due false was = tt

pub running-row : {Done : Type 0} (b : BookView) (over : Outcome → Done) (done : Done) (Same Row : Type 0) → outcome_of b ≡ None → UnlessOver b over done Same Row → Row
running-row b over done Same Row none h = subst (λ (o : Option Outcome). MatchOption o Row (λ outcome. (done ≡ over outcome) × Same)) none h

pub after-set : (x x' : Runner) (g t : ℕ) (r r' : Rec) (done : SetDone) → Ready x g → WantsSet x.book g t → (h : HasRecord x t) → slice_get x.records.items t ≡ Some r
    → x'.records.items ≡ set x.records.items t r' → x'.records.spare ≡ x.records.spare → x'.noted ≡ noted_at x.noted r'
    → SetRow (record { heap = x.heap; rec = r; book = x.book }) g (record { heap = x'.heap; rec = r'; book = x'.book }) done → IsKept x'.book x'.heap r' → After x x' g
after-set x x' g t r r' done ready wants h there records_are spare noted_is row kept =
    let own = record-is x t r h there in
    let awake = in_hand-awake x.book g ready.lawful ready.alone.in_hand in
    let old : Parts = record { heap = x.heap; rec = r; book = x.book } in
    let new : Parts = record { heap = x'.heap; rec = r'; book = x'.book } in
    let by : SetsBy old g new done (next_of x.book g) = running-row x.book SetDone.Over done (new ≡ old) (SetsBy old g new done (next_of x.book g)) ready.running row in
    let arms = subst (SetsBy old g new done) wants.wants by in
    let was : Option Bool = answer_of r in
    let due : ℕ = due_at (clock_of x.book.state g) wants.d in
    after-armed x x' g t r r' (set_entry g t wants.anew was due) due (new_period x.book.script x.book.state g t) done ready (record {
      there = there;
      id_is = own.1;
      watched = own.2;
      records_are = records_are;
      spare = spare;
      noted_is = noted_is;
      arms = arms;
      kept = kept;
      leaves = λ j n. set-leaves x.book g t due wants.anew was j awake n;
      served = set-served x.book g t due wants.anew was ready.alone.in_hand;
      clock = set-no_clock x.book g t due wants.anew was;
    })

-- a broadcast touches no record either
pub after-broadcasts : (x x' : Runner) (g k : ℕ) → Ready x g → next_of x.book g ≡ Some (Step.Broadcasts k) → Enters x.book (Entry.Broadcast g k (suspended_count x.book.state k)) x'.book
    → x'.records ≡ x.records → x'.heap ≡ x.heap → x'.noted ≡ x.noted → After x x' g
after-broadcasts x x' g k ready next enters records_are heap_is noted_is =
    let e : Entry = Entry.Broadcast g k (suspended_count x.book.state k) in
    let awake : sleeps_until x.book.state g ≡ None = in_hand-awake x.book g ready.lawful ready.alone.in_hand in
    after-enters x x' g e ready enters (in_hand-goes (status_of x.book.schedule g) ready.alone.in_hand, tt) tt
    (tended-plain x x' e ready.served.tended ready.lawful enters (λ j. record { timer = tt; mover = inr (awake, refl); partner = tt; tree = tt }) records_are heap_is noted_is)

-- nor does a cancellation, whatever it ends
pub after-cancels : (x x' : Runner) (g c : ℕ) → Ready x g → Enters x.book (Entry.Cancel g c true (start_count x.book.script x.book.state c)) x'.book
    → x'.records ≡ x.records → x'.heap ≡ x.heap → x'.noted ≡ x.noted → After x x' g
after-cancels x x' g c ready enters records_are heap_is noted_is =
    let e : Entry = Entry.Cancel g c true (start_count x.book.script x.book.state c) in
    let awake : sleeps_until x.book.state g ≡ None = in_hand-awake x.book g ready.lawful ready.alone.in_hand in
    after-enters x x' g e ready enters (in_hand-goes (status_of x.book.schedule g) ready.alone.in_hand, tt) tt
    (tended-plain x x' e ready.served.tended ready.lawful enters (λ j. record { timer = tt; mover = inr (awake, refl); partner = tt; tree = tt }) records_are heap_is noted_is)

-- ---- making a context whose own deadline is to come

pub after-derive : (x x' : Runner) (g c : ℕ) (r r' : Rec) (done : SetDone) → Ready x g → IsDerive x.book g c → (h : HasRecord x c) → slice_get x.records.items c ≡ Some r
    → x'.records.items ≡ set x.records.items c r' → x'.records.spare ≡ x.records.spare → x'.noted ≡ noted_at x.noted r'
    → DeriveRow (record { heap = x.heap; rec = r; book = x.book }) g (record { heap = x'.heap; rec = r'; book = x'.book }) done → IsKept x'.book x'.heap r' → After x x' g
after-derive x x' g c r r' done ready wants h there records_are spare noted_is row kept =
    let own = record-is x c r h there in
    let awake = in_hand-awake x.book g ready.lawful ready.alone.in_hand in
    let old : Parts = record { heap = x.heap; rec = r; book = x.book } in
    let new : Parts = record { heap = x'.heap; rec = r'; book = x'.book } in
    let by : DerivesBy old g new done (next_of x.book g) = running-row x.book SetDone.Over done (new ≡ old) (DerivesBy old g new done (next_of x.book g)) ready.running row in
    let arms = subst (DerivesBy old g new done) wants.1 by in
    after-armed x x' g c r r' (Entry.CtxMake g c false) wants.0 0 done ready (record {
      there = there;
      id_is = own.1;
      watched = own.2;
      records_are = records_are;
      spare = spare;
      noted_is = noted_is;
      arms = arms;
      kept = kept;
      leaves = λ j n. record { timer = tt; mover = inr (awake, refl); partner = tt; tree = inl (λ e. n (sym e)) };
      served = (in_hand-goes (status_of x.book.schedule g) ready.alone.in_hand, tt);
      clock = tt;
    })

-- the record of the context that is made
pub derive-record : (x : Runner) (g c : ℕ) → Ready x g → IsDerive x.book g c → HasRecord x c
derive-record x g c ready wants =
    let made : IsMade x.book g c = derive-made x.book g c wants.0 ready.lawful ready.running ready.alone.in_hand wants.1 in
    ctx-record x c ready.served.tended made.named
