-- The law of quiet: where nobody could go on and no time has come, nothing may come next but a move of the program's clock.
use Rattle.std.proofs.Common.{◌≡◌, ℕ, zero, suc, ◌+◌, ◌<◌, List, [], ◌∷◌, ◌++◌, refl, sym, ap, subst, ◌∙◌, arith, slice_get, Option, None, Some, Bool, true, false, not, ◌||◌, eqb, IsTrue, is_some, nat_lt, nat_le, eq-eqb}
use Rattle.std.specs.List.{list_all, list_any, filter_map, enumerate_from}
use Rattle.std.specs.Option.{option_map}
use Rattle.std.proofs.lemmas.Bool.{and_parts, ltb-true, lt-leb, or_left, or_right, or_parts, or_from}
use Rattle.std.proofs.lemmas.List.Folds.{list_all-append}
use Rattle.gt_model.specs.declared.script.Script.{Script}
use Rattle.gt_model.specs.declared.script.Instr.{Instr}
use Rattle.gt_model.specs.declared.state.Goroutine.{Goroutine}
use Rattle.gt_model.specs.declared.state.Timer.{Timer}
use Rattle.gt_model.specs.declared.state.Mode.{Mode}
use Rattle.gt_model.specs.Tables.{numbered, at}
use Rattle.gt_rules.specs.State.{State, goroutine_at, stands, stands_at, until_of, clock, timer_at, due_of, context_at}
use Rattle.gt_model.specs.declared.script.Case.{Case}
use Rattle.gt_model.specs.declared.script.CaseKind.{CaseKind}
use Rattle.gt_model.specs.declared.script.What.{What}
use Rattle.gt_model.specs.Script.{instr_at, what_at, is_func}
use Rattle.gt_rules.specs.Panics.{fault}
use Rattle.gt_rules.specs.Operations.{operation, receives_from, offers}
use Rattle.gt_rules.specs.Ready.{is_firm, is_firm_in, is_due, is_ready_in, is_ready_at, is_ready_instr, is_ready_case, is_ready_recv, has_partner, has_come, everyone, no_timer}
use Rattle.gt_facts.specs.Still.{IsStill}
use Rattle.gt_rules.specs.Counted.{sleep_of, awaits, is_awaited, counted_timer, deadline_in}
use Rattle.gt_model.specs.declared.context.Context.{Context}
use Rattle.gt_rules.specs.Finish.{IsIdle}
use Rattle.gt_facts.specs.Quiet.{IsQuiet, none_due}
use Rattle.gt_facts.proofs.Lookups.{any-numbered, offers-operation, enumerated_at, all-enumerated, Standing, standing}
use Rattle.gt_model.proofs.Items.{at-is}
use Rattle.gt_facts.proofs.Still.{still-IsIdle, stands_there}

-- what holds of all that a list gives holds of what one item gives
given_at : {X : Type 0} (f : X → Option ℕ) (p : ℕ → Bool) (xs : List X) (i : ℕ) (x : X) (t : ℕ)
    → slice_get xs i ≡ Some x → f x ≡ Some t → list_all p (filter_map f xs) ≡ true → p t ≡ true
given_at f p [] i x t e is h = cc
given_at f p (y ∷ xs) zero x t e is h =
    let same : y ≡ x = cc in
    let gives : f y ≡ Some t = rw same is in
    let parts : list_all p (t ∷ filter_map f xs) ≡ true = rw gives at h in
    (and_parts (p t) (list_all p (filter_map f xs)) parts).0
given_at f p (y ∷ xs) (suc i) x t e is h =
    elim (f y) as (λ o. list_all p (Rattle.std.specs.List.cons_option o (filter_map f xs)) ≡ true → p t ≡ true) [
      | None ↦ λ k. given_at f p xs i x t e is k
      | Some u ↦ λ k. given_at f p xs i x t e is (and_parts (p u) (list_all p (filter_map f xs)) k).1
    ] h

given_numbered : (f : Goroutine → Option ℕ) (p : ℕ → Bool) (xs : List Goroutine) (g : ℕ) (x : Goroutine) (t : ℕ)
    → numbered xs g ≡ Some x → f x ≡ Some t → list_all p (filter_map f xs) ≡ true → p t ≡ true
given_numbered f p xs zero x t e is h = cc
given_numbered f p xs (suc i) x t e is h = given_at f p xs i x t e is h

-- the three parts of the test on times
record Later (script : Script) (s : State) : Type 0 where
  sleeps : list_all (nat_lt (clock s 0)) (filter_map (sleep_of 0) s.goroutines) ≡ true
  timers : list_all (nat_lt (clock s 0)) (filter_map (counted_timer script s 0) (enumerate_from 0 s.timers)) ≡ true
  deadlines : list_all (nat_lt (clock s 0)) (filter_map (deadline_in 0) s.contexts) ≡ true

all_later : (script : Script) (s : State) → none_due script s ≡ true → Later script s
all_later script s h =
    let sleeps : List ℕ = filter_map (sleep_of 0) s.goroutines in
    let timers : List ℕ = filter_map (counted_timer script s 0) (enumerate_from 0 s.timers) in
    let deadlines : List ℕ = filter_map (deadline_in 0) s.contexts in
    let last = and_parts (list_all (nat_lt (clock s 0)) (sleeps ++ timers)) (list_all (nat_lt (clock s 0)) deadlines)
    (sym (list_all-append (nat_lt (clock s 0)) (sleeps ++ timers) deadlines) ∙ h) in
    let both = and_parts (list_all (nat_lt (clock s 0)) sleeps) (list_all (nat_lt (clock s 0)) timers)
    (sym (list_all-append (nat_lt (clock s 0)) sleeps timers) ∙ last.0) in
    record { sleeps = both.0; timers = both.1; deadlines = last.1 }

-- ---- who is not firmly ready

not_true : (b : Bool) → not b ≡ true → b ≡ false
not_true true h = cc
not_true false h = refl

-- nobody's sleep is over
sleeps_on : (script : Script) (s : State) (g until : ℕ) (r : Goroutine) → IsQuiet script s → goroutine_at s g ≡ Some r → r.mode ≡ Mode.Sleeping until → nat_le until (clock s r.world) ≡ false
sleeps_on script s g until r quiet e asleep =
    let zero_world : r.world ≡ 0 = quiet.world.goroutines g r e in
    let gives : sleep_of 0 r ≡ Some until = rw (eq-eqb r.world 0 zero_world) (ap until_of asleep) in
    let later : clock s 0 < until = ltb-true (clock s 0) until (given_numbered (sleep_of 0) (nat_lt (clock s 0)) s.goroutines g r until e gives (all_later script s quiet.none_due).sleeps) in
    subst (λ w. nat_le until (clock s w) ≡ false) (sym zero_world) (lt-leb until (clock s 0) later)

-- a timer that counts is not due
timer_later : (script : Script) (s : State) (t due : ℕ) (r : Timer) → IsQuiet script s → timer_at s t ≡ Some r → r.due ≡ Some due
    → (is_func script t || is_awaited script s 0 t) ≡ true → clock s 0 < due
timer_later script s t due r quiet e is counts =
    let zero_world : r.world ≡ 0 = quiet.world.timers t r e in
    let gives : counted_timer script s 0 (t, Some r) ≡ Some due = rw (eq-eqb r.world 0 zero_world, counts) is in
    let there : slice_get (enumerate_from 0 s.timers) t ≡ Some (0 + t, Some r) = enumerated_at 0 s.timers t (Some r) (at-is s.timers t r e) in
    let zero_t : 0 + t ≡ t = omega arith in
    ltb-true (clock s 0) due (given_at (counted_timer script s 0) (nat_lt (clock s 0)) (enumerate_from 0 s.timers) t (t, Some r) due (rw zero_t at there) gives (all_later script s quiet.none_due).timers)

same_number : (t : ℕ) → eqb t t ≡ true
same_number t = eq-eqb t t refl

awaited_there : (script : Script) (s : State) (g t : ℕ) (i : Instr) → IsQuiet script s → stands_at script s g ≡ Some i → offers (receives_from t) i ≡ true → is_awaited script s 0 t ≡ true
awaited_there script s g t i quiet e offer =
    let st : Standing script s g i = standing script s g i e in
    let zero_world : st.who.world ≡ 0 = quiet.world.goroutines g st.who st.there in
    let on : stands script st.who ≡ Some i = subst (λ (m : Mode). (elim m [ Mode.At ↦ instr_at script st.who.place | _ ↦ None ]) ≡ Some i) (sym st.at) st.on in
    let yes : awaits script 0 t st.who ≡ true = rw (eq-eqb st.who.world 0 zero_world) (subst (λ (o : Option Instr). (elim o [ None ↦ false | Some i ↦ offers (receives_from t) i ]) ≡ true) (sym on) offer) in
    any-numbered (awaits script 0 t) s.goroutines g st.who st.there yes

-- what counts is not due
not_due : (script : Script) (s : State) (t : ℕ) (r : Timer) → IsQuiet script s → timer_at s t ≡ Some r → (is_func script t || is_awaited script s 0 t) ≡ true → is_due r.due (clock s 0) ≡ false
not_due script s t r quiet e counts =
    elim r.due as (λ d. r.due ≡ d → is_due d (clock s 0) ≡ false) [
      | None ↦ λ q. refl
      | Some due ↦ λ q. lt-leb due (clock s 0) (timer_later script s t due r quiet e q counts)
    ] refl

-- nobody's receive is ready
waits_on : (script : Script) (s : State) (g t : ℕ) (i : Instr) → IsQuiet script s → stands_at script s g ≡ Some i → offers (receives_from t) i ≡ true
    → is_due (due_of s t) (clock s 0) ≡ false
waits_on script s g t i quiet on offer =
    elim (timer_at s t) as (λ o. timer_at s t ≡ o → is_due (elim o as (λ o. Option ℕ) [ None ↦ None | Some r ↦ r.due ]) (clock s 0) ≡ false) [
      | None ↦ λ e. refl
      | Some r ↦ λ e. not_due script s t r quiet e (or_right (is_func script t) _ (awaited_there script s g t i quiet on offer))
    ] refl

-- a receive that is ready where no timer counts is ready where some do: they differ in the receive of a timer
recv_not : (s : State) (timed : ℕ → Bool) (t : ℕ) (o : Option What) → timed t ≡ false → is_ready_recv s no_timer t o ≡ false → is_ready_recv s timed t o ≡ false
recv_not s timed t None later h = refl
recv_not s timed t (Some What.Timer) later h = later
recv_not s timed t (Some What.Ticker) later h = later
recv_not s timed t (Some (What.AfterFunc func)) later h = refl
recv_not s timed t (Some (What.Chan cap)) later h = h
recv_not s timed t (Some What.Mutex) later h = h
recv_not s timed t (Some What.Wg) later h = h
recv_not s timed t (Some (What.Cond mutex)) later h = refl
recv_not s timed t (Some (What.Ctx parent form)) later h = h
recv_not s timed t (Some (What.Hook ctx func)) later h = refl
recv_not s timed t (Some What.Error) later h = refl
recv_not s timed t (Some What.Function) later h = refl

-- so it is with each operation of who stands there
ready_case_not : (script : Script) (s : State) (g : ℕ) (i : Instr) (n : ℕ) (kind : CaseKind) → IsQuiet script s → stands_at script s g ≡ Some i → operation i n ≡ Some kind
    → is_ready_case script s no_timer everyone g kind ≡ false → is_ready_case script s (has_come s 0) everyone g kind ≡ false
ready_case_not script s g i n (CaseKind.Recv t) quiet on has stays =
    let none = or_parts (is_ready_recv s no_timer t (what_at script t)) (has_partner script s everyone g (CaseKind.Recv t)) stays in
    let offer : offers (receives_from t) i ≡ true = offers-operation (receives_from t) i n (CaseKind.Recv t) has (same_number t) in
    or_from (is_ready_recv s (has_come s 0) t (what_at script t)) (has_partner script s everyone g (CaseKind.Recv t))
    (recv_not s (has_come s 0) t (what_at script t) (waits_on script s g t i quiet on offer) none.0) none.1
ready_case_not script s g i n (CaseKind.Send c v) quiet on has stays = stays

-- what holds of no item of a list holds of none of them
none-item : (p : Case → Bool) (cases : List Case) (k : ℕ) (c : Case) → list_any p cases ≡ false → slice_get cases k ≡ Some c → p c ≡ false
none-item p [] k c none e = cc
none-item p (d ∷ cases) zero c none e = let is : d ≡ c = cc in subst (λ c. p c ≡ false) is (or_parts (p d) (list_any p cases) none).0
none-item p (d ∷ cases) (suc k) c none e = none-item p cases k c (or_parts (p d) (list_any p cases) none).1 e

none-any : (p : Case → Bool) (cases : List Case) → ((k : ℕ) (c : Case) → slice_get cases k ≡ Some c → p c ≡ false) → list_any p cases ≡ false
none-any p [] each = refl
none-any p (d ∷ cases) each = or_from (p d) (list_any p cases) (each 0 d refl) (none-any p cases (λ k c e. each (suc k) c e))

ready_instr_not : (script : Script) (s : State) (g : ℕ) (i : Instr) → IsQuiet script s → stands_at script s g ≡ Some i → is_ready_instr script s no_timer everyone g i ≡ false
    → is_ready_instr script s (has_come s 0) everyone g i ≡ false
ready_instr_not script s g (Instr.Recv t) quiet on stays = ready_case_not script s g (Instr.Recv t) 0 (CaseKind.Recv t) quiet on refl stays
ready_instr_not script s g (Instr.Send c v) quiet on stays = stays
ready_instr_not script s g (Instr.Select cases default_to) quiet on stays =
    let none = or_parts (is_some default_to) (list_any (λ (c : Case). is_ready_case script s no_timer everyone g c.kind) cases) stays in
    or_from (is_some default_to) (list_any (λ (c : Case). is_ready_case script s (has_come s 0) everyone g c.kind) cases) none.0
    (none-any (λ (c : Case). is_ready_case script s (has_come s 0) everyone g c.kind) cases (λ k c e.
    ready_case_not script s g (Instr.Select cases default_to) (suc k) c.kind quiet on (ap (option_map (λ (c : Case). c.kind)) e)
    (none-item (λ (c : Case). is_ready_case script s no_timer everyone g c.kind) cases k c none.1 e)))
ready_instr_not script s g (Instr.LoopTop depth count past) quiet on stays = refl
ready_instr_not script s g (Instr.LoopEnd depth top) quiet on stays = refl
ready_instr_not script s g (Instr.Jump to) quiet on stays = refl
ready_instr_not script s g (Instr.Lock m) quiet on stays = ready_case_not script s g (Instr.Lock m) 0 (CaseKind.Recv m) quiet on refl stays
ready_instr_not script s g (Instr.Wait w) quiet on stays = ready_case_not script s g (Instr.Wait w) 0 (CaseKind.Recv w) quiet on refl stays
ready_instr_not script s g _ quiet on stays = cc

-- who stands at an instruction is not ready: it is no misuse, it has no partner, and it waits for a time that is still to come
waits : (script : Script) (s : State) (g : ℕ) (r : Goroutine) (i : Instr) → IsQuiet script s → goroutine_at s g ≡ Some r → r.mode ≡ Mode.At → instr_at script r.place ≡ Some i
    → is_ready_at script s no_timer everyone g (Some i) ≡ false → is_ready_at script s (has_come s r.world) everyone g (Some i) ≡ false
waits script s g r i quiet e at on firm =
    let none = or_parts (is_some (fault script s i)) (is_ready_instr script s no_timer everyone g i) firm in
    or_from (is_some (fault script s i)) (is_ready_instr script s (has_come s r.world) everyone g i) none.0
    (subst (λ w. is_ready_instr script s (has_come s w) everyone g i ≡ false) (sym (quiet.world.goroutines g r e))
    (ready_instr_not script s g i quiet (stands_there script s g r i e at on) none.1))

not_firm : (script : Script) (s : State) (g : ℕ) (r : Goroutine) → IsQuiet script s → goroutine_at s g ≡ Some r → is_firm script s everyone g r ≡ false
not_firm script s g r quiet e =
    not_true (is_firm script s everyone g r)
    (all-enumerated (λ (e : ℕ × Goroutine). not (is_firm script s everyone e.0 e.1)) s.goroutines g r e quiet.none_firm)

not_ready : (script : Script) (s : State) (g : ℕ) (r : Goroutine) → IsQuiet script s → goroutine_at s g ≡ Some r → (mode : Mode) → r.mode ≡ mode → is_ready_in script s g r mode ≡ false
not_ready script s g r quiet e Mode.At at =
    elim (instr_at script r.place) as (λ o. instr_at script r.place ≡ o
    → is_ready_at script s no_timer everyone g o ≡ false → is_ready_at script s (has_come s r.world) everyone g o ≡ false) [
      | None ↦ λ on h. refl
      | Some i ↦ λ on h. waits script s g r i quiet e at on h
    ] refl
    (subst (λ (m : Mode). is_firm_in script s everyone g r m ≡ false) at (not_firm script s g r quiet e))
not_ready script s g r quiet e (Mode.Sleeping until) at = sleeps_on script s g until r quiet e at
not_ready script s g r quiet e (Mode.Suspended k) at = refl
not_ready script s g r quiet e (Mode.Relocking k) at = subst (λ (m : Mode). is_firm_in script s everyone g r m ≡ false) at (not_firm script s g r quiet e)
not_ready script s g r quiet e Mode.Ended at = refl

func_not : (script : Script) (s : State) (t : ℕ) (r : Timer) → IsQuiet script s → timer_at s t ≡ Some r → IsTrue (is_func script t) → is_due r.due (clock s r.world) ≡ false
func_not script s t r quiet e func =
    subst (λ w. is_due r.due (clock s w) ≡ false) (sym (quiet.world.timers t r e)) (not_due script s t r quiet e (or_left (is_func script t) _ func))

-- and no context that has not ended has come to its deadline
deadline_later : (script : Script) (s : State) (x due : ℕ) (r : Context) → IsQuiet script s → context_at s x ≡ Some r → r.end ≡ None → r.own ≡ Some due
    → clock s 0 < due
deadline_later script s x due r quiet e none is =
    let gives : deadline_in 0 (Some r) ≡ Some due = rw (eq-eqb r.world 0 (quiet.world.contexts x r e), none) is in
    ltb-true (clock s 0) due
    (given_at (deadline_in 0) (nat_lt (clock s 0)) s.contexts x (Some r) due (at-is s.contexts x r e) gives (all_later script s quiet.none_due).deadlines)

deadline_not : (script : Script) (s : State) (x : ℕ) (r : Context) → IsQuiet script s → context_at s x ≡ Some r → r.end ≡ None
    → is_due r.own (clock s r.world) ≡ false
deadline_not script s x r quiet e none =
    elim r.own as (λ d. r.own ≡ d → is_due d (clock s r.world) ≡ false) [
      | None ↦ λ q. refl
      | Some due ↦ λ q.
          subst (λ w. nat_le due (clock s w) ≡ false) (sym (quiet.world.contexts x r e))
          (lt-leb due (clock s 0) (deadline_later script s x due r quiet e none q))
    ] refl

pub quiet-IsStill : (script : Script) (s : State) → IsQuiet script s → IsStill script s
quiet-IsStill script s quiet = record {
  nobody_ready = λ g r e. not_ready script s g r quiet e r.mode refl;
  no_func_due = λ t r e func. func_not script s t r quiet e func;
  no_deadline_due = λ x r e none. deadline_not script s x r quiet e none;
}

-- the law of quiet
pub quiet-IsIdle : (script : Script) (s : State) → IsQuiet script s → IsIdle script s
quiet-IsIdle script s quiet = still-IsIdle script s (quiet-IsStill script s quiet)
