-- What an operation is for a goroutine in hand, and what a choice is: the case with the lowest number that can go on, its default, or a wait.
use Rattle.std.proofs.Common.{◌≡◌, ℕ, suc, ◌+◌, ◌<◌, nat_lt, cond, List, [], ◌∷◌, length, slice_get, refl, ap, subst, arith, Option, None, Some, Bool, true, false, not, ◌&&◌, is_some, ◌⊎◌, inl, inr}
use Rattle.std.specs.List.{All, AllByRecursion, list_any}
use Rattle.std.proofs.lemmas.List.Elements.{All-from_recursion}
use Rattle.std.specs.Option.{option_map}
use Rattle.gt_model.specs.declared.script.Script.{Script}
use Rattle.gt_model.specs.declared.script.Instr.{Instr}
use Rattle.gt_model.specs.declared.script.Case.{Case}
use Rattle.gt_model.specs.declared.script.CaseKind.{CaseKind}
use Rattle.gt_model.specs.declared.script.What.{What}
use Rattle.gt_model.specs.declared.entry.Entry.{Entry}
use Rattle.gt_model.specs.declared.entry.Party.{Party}
use Rattle.gt_model.specs.Good.{awaits_timer}
use Rattle.gt_model.specs.Script.{what_at, is_chan, is_timer, names_chan, names_timer, capacity_of}
use Rattle.gt_rules.specs.State.{State, clock_of, due_of, world_of, items_of, item_count, is_closed, is_locked, is_done, has_ended}
use Rattle.gt_rules.specs.Operations.{operation}
use Rattle.gt_rules.specs.Ready.{is_due, is_ready_recv, is_ready_alone, has_partner, has_come, no_timer}
use Rattle.gt_schedule.specs.Schedule.{Schedule, at_case, object_of}
use Rattle.gt_book.specs.declared.step.Step.{Step}
use Rattle.gt_book.specs.declared.answers.TimerOp.{TimerOp}
use Rattle.gt_book.specs.Steps.{or_next, receives_alone, takes_alone, sends_alone, goes_alone, partner_in, meets_sender, meets_receiver, meets, goes_by, come_timer, case_step, first_step, no_case, choice_step}
use Rattle.gt_book.specs.View.{Fits, is_waiting}
use Rattle.gt_book.proofs.Firm.{both-false}
use Rattle.gt_book.proofs.Meeting.{recv-alone, send-alone, timer-alone}

-- ---- the first of two entries

pub or-is : (a b : Option Entry) (e : Entry) → or_next a b ≡ Some e → (a ≡ Some e) ⊎ ((a ≡ None) × (b ≡ Some e))
or-is None b e h = inr (refl, h)
or-is (Some x) b e h = inl h

pub or-none : (a b : Option Entry) → or_next a b ≡ None → (a ≡ None) × (b ≡ None)
or-none None b h = (refl, h)
or-none (Some x) b h = cc

-- ---- an operation that can't go on

receives-none : (p : Party) (c : ℕ) (items : List ℕ) (closed : Bool) → receives_alone p c items closed ≡ None → (items ≡ []) × (closed ≡ false)
receives-none p c (v ∷ items) closed h = cc
receives-none p c [] true h = cc
receives-none p c [] false h = (refl, refl)

pub sends-none : (p : Party) (c v : ℕ) (closed room : Bool) → sends_alone p c v closed room ≡ None → (closed ≡ false) × (room ≡ false)
sends-none p c v true room h = cc
sends-none p c v false true h = cc
sends-none p c v false false h = (refl, refl)

-- its timer's time has not come, by a test
abbrev pub NotCome : Script → (ℕ → Bool) → CaseKind → Type 0
NotCome script timed (CaseKind.Recv o) = (is_timer script o && timed o) ≡ false
NotCome script timed (CaseKind.Send c v) = Unit {0}

cond-none : {X : Type 0} (b : Bool) (x : X) → cond b (Some x) None ≡ None → b ≡ false
cond-none true x h = cc
cond-none false x h = refl

not-cond_none : {X : Type 0} (b : Bool) (x : X) → cond b None (Some x) ≡ None → not b ≡ false
not-cond_none true x h = refl
not-cond_none false x h = cc

recv-not : (s : State) (p : Party) (timed : ℕ → Bool) (o : ℕ) (w : Option What)
    → cond (names_chan w) (receives_alone p o (items_of s o) (is_closed s o)) (takes_alone s p o w) ≡ None → (names_timer w && timed o) ≡ false → is_ready_recv s timed o w ≡ false
recv-not s p timed o None none come = refl
recv-not s p timed o (Some What.Timer) none come = come
recv-not s p timed o (Some What.Ticker) none come = come
recv-not s p timed o (Some (What.AfterFunc func)) none come = refl
recv-not s p timed o (Some (What.Chan cap)) none come =
    let parts = receives-none p o (items_of s o) (is_closed s o) none in
    both-false (nat_lt 0 (item_count s o)) (is_closed s o) (ap (λ (xs : List ℕ). nat_lt 0 (length xs)) parts.0) parts.1
recv-not s p timed o (Some What.Mutex) none come = not-cond_none (is_locked s o) (Entry.Lock p.g o) none
recv-not s p timed o (Some What.Wg) none come = cond-none (is_done s o) (Entry.WgWait p.g o) none
recv-not s p timed o (Some (What.Cond mutex)) none come = refl
recv-not s p timed o (Some (What.Ctx parent form)) none come = cond-none (has_ended s o) (Entry.CtxDone p o) none
recv-not s p timed o (Some (What.Hook ctx func)) none come = refl
recv-not s p timed o (Some What.Error) none come = refl
recv-not s p timed o (Some What.Function) none come = refl

pub unready-alone : (script : Script) (s : State) (p : Party) (timed : ℕ → Bool) (kind : CaseKind) → goes_alone script s p kind ≡ None → NotCome script timed kind
    → is_ready_alone script s timed kind ≡ false
unready-alone script s p timed (CaseKind.Recv o) none come = recv-not s p timed o (what_at script o) none come
unready-alone script s p timed (CaseKind.Send c v) none come =
    let parts = sends-none p c v (is_closed s c) (nat_lt (item_count s c) (capacity_of script c)) none in
    both-false (is_closed s c) (nat_lt (item_count s c) (capacity_of script c)) parts.0 parts.1

and-false : (b : Bool) → (b && false) ≡ false
and-false true = refl
and-false false = refl

pub never-come : (script : Script) (kind : CaseKind) → NotCome script no_timer kind
never-come script (CaseKind.Recv o) = and-false (is_timer script o)
never-come script (CaseKind.Send c v) = tt

pub not-come : (script : Script) (s : State) (g : ℕ) (kind : CaseKind) → come_timer script s (clock_of s g) kind ≡ None → NotCome script (has_come s (world_of s g)) kind
not-come script s g (CaseKind.Recv o) h = cond-none (is_timer script o && is_due (due_of s o) (clock_of s g)) o h
not-come script s g (CaseKind.Send c v) h = tt

sender-none : (script : Script) (s : State) (p : Party) (c : ℕ) (o : Option Party) → meets_sender script s p c o ≡ None → o ≡ None
sender-none script s p c None h = refl
sender-none script s p c (Some q) h = cc

receiver-none : (p : Party) (c v : ℕ) (o : Option Party) → meets_receiver p c v o ≡ None → o ≡ None
receiver-none p c v None h = refl
receiver-none p c v (Some q) h = cc

-- it meets nobody who is parked
pub meets-nobody : (script : Script) (s : State) (m : Schedule) (g : ℕ) (p : Party) (kind : CaseKind) → Fits script s m → object_of kind < length script.decls → meets script s m p kind ≡ None
    → has_partner script s (is_waiting m) g kind ≡ false
meets-nobody script s m g p (CaseKind.Recv o) fits declared none =
    elim (is_chan script o) as (λ b. is_chan script o ≡ b → cond b (meets_sender script s p o (partner_in script m.senders o)) None ≡ None
    → has_partner script s (is_waiting m) g (CaseKind.Recv o) ≡ false) [
      | true ↦ λ chan h. recv-alone script s m g o fits declared (sender-none script s p o (partner_in script m.senders o) h)
      | false ↦ λ plain h. timer-alone script s m g o plain
    ] refl none
meets-nobody script s m g p (CaseKind.Send c v) fits declared none =
    send-alone script s m g c v fits declared (receiver-none p c v (partner_in script m.receivers c) none)

-- ---- a choice

-- none of these cases can go on, where the first one has the number n
abbrev pub NoneGoes : Script → State → Schedule → ℕ → Bool → ℕ → List Case → Type 0
NoneGoes script s m g polling n [] = Unit {0}
NoneGoes script s m g polling n (c ∷ cases) =
    (case_step (goes_by script s m (at_case g n) c.kind) polling (come_timer script s (clock_of s g) c.kind) ≡ None) × NoneGoes script s m g polling (n + 1) cases

-- what the step of a choice is
pub data ChoiceIs (script : Script) (s : State) (m : Schedule) (g : ℕ) (cases : List Case) (default_to : Option ℕ) : Step → Type 0 where
  case_goes : (n : ℕ) (kind : CaseKind) (e : Entry) → operation (Instr.Select cases default_to) n ≡ Some kind → goes_by script s m (at_case g n) kind ≡ Some e
      → ChoiceIs script s m g cases default_to (Step.Makes e)
  case_polls : (n : ℕ) (kind : CaseKind) (t : ℕ) → operation (Instr.Select cases default_to) n ≡ Some kind → come_timer script s (clock_of s g) kind ≡ Some t
      → ChoiceIs script s m g cases default_to (Step.Needs (TimerOp.Poll t))
  all_rest : (to : ℕ) → default_to ≡ Some to → NoneGoes script s m g true 1 cases → ChoiceIs script s m g cases default_to (Step.Makes (Entry.Default g))
  all_wait : default_to ≡ None → NoneGoes script s m g false 1 cases
      → ChoiceIs script s m g cases default_to (Step.Chooses (list_any (λ (c : Case). awaits_timer script c.kind) cases))

module _ (script : Script) (s : State) (m : Schedule) (g : ℕ) (cases : List Case) (default_to : Option ℕ) where
  abbrev Is : Step → Type 0
  Is step = ChoiceIs script s m g cases default_to step

  abbrev HasCase : ℕ → CaseKind → Type 0
  HasCase n kind = operation (Instr.Select cases default_to) n ≡ Some kind

  case-so : (n : ℕ) (kind : CaseKind) (step : Step) (e : Option Entry) (polling : Bool) (come : Option ℕ) → HasCase n kind → goes_by script s m (at_case g n) kind ≡ e
      → come_timer script s (clock_of s g) kind ≡ come → case_step e polling come ≡ Some step → Is step
  case-so n kind step (Some e) polling come has by timed h = let is : Step.Makes e ≡ step = cc in subst Is is (case_goes n kind e has by)
  case-so n kind step None true (Some t) has by timed h = let is : Step.Needs (TimerOp.Poll t) ≡ step = cc in subst Is is (case_polls n kind t has timed)
  case-so n kind step None true None has by timed h = cc
  case-so n kind step None false come has by timed h = cc

  -- what is found among the cases that are left
  abbrev FirstIs : ℕ → List Case → Option Step → Type 0
  FirstIs n left None = NoneGoes script s m g (is_some default_to) n left
  FirstIs n left (Some step) = Is step

  first-so : (n : ℕ) (left : List Case) → ((j : ℕ) (c : Case) → slice_get left j ≡ Some c → HasCase (n + j) c.kind) → FirstIs n left (first_step script s m g (is_some default_to) n left)
  first-so n [] has = tt
  first-so n (c ∷ left) has =
      let here : n + 0 ≡ n = omega arith in
      one (case_step (goes_by script s m (at_case g n) c.kind) (is_some default_to) (come_timer script s (clock_of s g) c.kind)) refl
      (subst (λ (n : ℕ). HasCase n c.kind) here (has 0 c refl))
      (first_step script s m g (is_some default_to) (n + 1) left)
      (first-so (n + 1) left (λ j d e.
      let next : n + suc j ≡ (n + 1) + j = omega arith in
      subst (λ (n : ℕ). HasCase n d.kind) next (has (suc j) d e)))
    where
      one : (o : Option Step) → case_step (goes_by script s m (at_case g n) c.kind) (is_some default_to) (come_timer script s (clock_of s g) c.kind) ≡ o → HasCase n c.kind
          → (next : Option Step) → FirstIs (n + 1) left next → FirstIs n (c ∷ left) (elim o as (λ o. Option Step) [ None ↦ next | Some step ↦ Some step ])
      one None is its None h = (is, h)
      one None is its (Some step) h = h
      one (Some step) is its next h =
          case-so n c.kind step (goes_by script s m (at_case g n) c.kind) (is_some default_to) (come_timer script s (clock_of s g) c.kind) its refl refl is

  rest-so : (to : Option ℕ) → default_to ≡ to → NoneGoes script s m g (is_some default_to) 1 cases → Is (no_case script g cases to)
  rest-so (Some to) e none = all_rest to e (subst (λ (o : Option ℕ). NoneGoes script s m g (is_some o) 1 cases) e none)
  rest-so None e none = all_wait e (subst (λ (o : Option ℕ). NoneGoes script s m g (is_some o) 1 cases) e none)

  pub choice-so : Is (choice_step script s m g cases default_to)
  choice-so =
      last (first_step script s m g (is_some default_to) 1 cases)
      (first-so 1 cases (λ j c e.
      let number : suc j ≡ 1 + j = omega arith in
      subst (λ (n : ℕ). HasCase n c.kind) number (ap (option_map (λ (c : Case). c.kind)) e)))
    where
      last : (o : Option Step) → FirstIs 1 cases o → Is (elim o as (λ o. Step) [ None ↦ no_case script g cases default_to | Some step ↦ step ])
      last None none = rest-so default_to refl none
      last (Some step) is = is

-- where none of the cases of a choice with a default can go on, none is ready but by a partner
rests-each : (script : Script) (s : State) (m : Schedule) (g n : ℕ) (kind : CaseKind) → case_step (goes_by script s m (at_case g n) kind) true (come_timer script s (clock_of s g) kind) ≡ None
    → is_ready_alone script s (has_come s (world_of s g)) kind ≡ false
rests-each script s m g n kind h =
    let neither = step-none (goes_by script s m (at_case g n) kind) (come_timer script s (clock_of s g) kind) h in
    unready-alone script s (at_case g n) (has_come s (world_of s g)) kind (or-none (goes_alone script s (at_case g n) kind) (meets script s m (at_case g n) kind) neither.0).0
    (not-come script s g kind neither.1)
  where
    step-none : (e : Option Entry) (come : Option ℕ) → case_step e true come ≡ None → (e ≡ None) × (come ≡ None)
    step-none (Some e) come h = cc
    step-none None (Some t) h = cc
    step-none None None h = (refl, refl)

pub none-rests : (script : Script) (s : State) (m : Schedule) (g : ℕ) (cases : List Case) (n : ℕ) → NoneGoes script s m g true n cases
    → All (λ (c : Case). is_ready_alone script s (has_come s (world_of s g)) c.kind ≡ false) cases
none-rests script s m g cases n none = All-from_recursion (λ (c : Case). is_ready_alone script s (has_come s (world_of s g)) c.kind ≡ false) cases (each n cases none)
  where
    each : (n : ℕ) (cases : List Case) → NoneGoes script s m g true n cases → AllByRecursion (λ (c : Case). is_ready_alone script s (has_come s (world_of s g)) c.kind ≡ false) cases
    each n [] none = tt
    each n (c ∷ cases) none = (rests-each script s m g n c.kind none.0, each (n + 1) cases none.1)
