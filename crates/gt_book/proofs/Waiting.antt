-- Where the time of a record comes from: from the sleep of a goroutine, from a timer at whose receive one stands, or from an AfterFunc timer.
use Rattle.std.proofs.Common.{◌≡◌, ℕ, zero, suc, ◌+◌, ◌-◌, ◌<◌, ◌≤◌, ◌==◌, cond, List, [], ◌∷◌, length, slice_get, refl, sym, ap, subst, ◌∙◌, arith, Option, None, Some, Bool, true, false, IsTrue, inl, inr, ◌&&◌, ◌||◌, eq-eqb}
use Rattle.std.specs.Option.{option_map}
use Rattle.std.specs.List.{list_any}
use Rattle.std.proofs.lemmas.Bool.{lt-ltb, le-ltb}
use Rattle.std.proofs.lemmas.Option.{slice_get_within}
use Rattle.gt_model.specs.declared.script.Script.{Script}
use Rattle.gt_model.specs.declared.script.Decl.{Decl}
use Rattle.gt_model.specs.declared.script.What.{What}
use Rattle.gt_model.specs.declared.script.Instr.{Instr}
use Rattle.gt_model.specs.declared.script.CaseKind.{CaseKind}
use Rattle.gt_model.specs.declared.state.Goroutine.{Goroutine}
use Rattle.gt_model.specs.declared.state.Timer.{Timer}
use Rattle.gt_model.specs.Good.{IsGood}
use Rattle.gt_model.specs.Tables.{numbered}
use Rattle.gt_model.specs.Script.{what_at, is_func, names_func, names_timer, names_chan, names_mutex, names_wg, names_ctx, can_end, named_form}
use Rattle.gt_rules.specs.State.{State, goroutine_at, timer_at, context_at, stands, stands_at, until_of, sleeps_until, due_of}
use Rattle.gt_rules.specs.Operations.{receives_from, offers}
use Rattle.gt_rules.specs.Counted.{awaits, is_awaited, counted_timer, deadline_in}
use Rattle.gt_facts.specs.Formed.{IsFormed}
use Rattle.gt_facts.proofs.Lookups.{any-numbered, ReceivesFrom, receives-recv, names-instr_at, names-operation, Standing, standing}
use Rattle.gt_book.specs.Least.{sleep_in, CountsBy, IsCountedBy}
use Rattle.gt_model.specs.declared.context.Context.{Context}
use Rattle.gt_model.proofs.Declared.{ctx_declared}

-- ---- both sides of a test

pub right-of : (a b : Bool) → (a && b) ≡ true → b ≡ true
right-of true b e = e
right-of false b e = cc

or-first : (a b : Bool) → a ≡ true → (a || b) ≡ true
or-first true b e = refl
or-first false b e = cc

or-second : (a b : Bool) → b ≡ true → (a || b) ≡ true
or-second true b e = refl
or-second false b e = e

-- ---- who is awaited

any-found : {X : Type 0} (p : X → Bool) (xs : List X) → list_any p xs ≡ true → (g : ℕ) × ((y : X) × (numbered xs g ≡ Some y) × (p y ≡ true))
any-found p [] e = cc
any-found {X} p (y ∷ ys) e =
    elim (p y) as (λ b. p y ≡ b → (b || list_any p ys) ≡ true → (g : ℕ) × ((z : X) × (numbered (y ∷ ys) g ≡ Some z) × (p z ≡ true))) [
      | true ↦ λ q k. (1, (y, refl, q))
      | false ↦ λ q k. (let found = any-found p ys k in later p y ys found.0 found.1.0 found.1.1 found.1.2)
    ] refl e
  where
    later : {X : Type 0} (p : X → Bool) (y : X) (ys : List X) (g : ℕ) (z : X) → numbered ys g ≡ Some z → p z ≡ true → (g : ℕ) × ((z : X) × (numbered (y ∷ ys) g ≡ Some z) × (p z ≡ true))
    later p y ys zero z e h = cc
    later p y ys (suc i) z e h = (suc (suc i), (z, e, h))

-- a goroutine that stands at an instruction which receives from t, plainly or as a case
pub record Awaiting (script : Script) (s : State) (t : ℕ) : Type 0 where
  pub number : ℕ
  pub instr : Instr
  pub stands : stands_at script s number ≡ Some instr
  pub passes : offers (receives_from t) instr ≡ true

awaits-recv : (script : Script) (s : State) (g t : ℕ) (r : Goroutine) → goroutine_at s g ≡ Some r → awaits script 0 t r ≡ true → Awaiting script s t
awaits-recv script s g t r there e =
    let at : (elim (stands script r) as (λ _. Bool) [ None ↦ false | Some i ↦ offers (receives_from t) i ]) ≡ true = right-of (r.world == 0) _ e in
    on (stands script r) refl at
  where
    on : (o : Option Instr) → stands script r ≡ o → (elim o as (λ _. Bool) [ None ↦ false | Some i ↦ offers (receives_from t) i ]) ≡ true → Awaiting script s t
    on None is h = cc
    on (Some i) is h = record {
      number = g;
      instr = i;
      stands = ap (λ (o : Option Goroutine). elim o as (λ _. Option Instr) [ None ↦ None | Some r ↦ stands script r ]) there ∙ is;
      passes = h;
    }

pub awaited-stands : (script : Script) (s : State) (t : ℕ) → is_awaited script s 0 t ≡ true → Awaiting script s t
awaited-stands script s t e =
    let found = any-found (awaits script 0 t) s.goroutines e in
    awaits-recv script s found.0 t found.1.0 found.1.1 found.1.2

pub stands-awaited : (script : Script) (s : State) (g t : ℕ) (i : Instr) → IsFormed script s → stands_at script s g ≡ Some i → offers (receives_from t) i ≡ true → is_awaited script s 0 t ≡ true
stands-awaited script s g t i formed e passes =
    let st : Standing script s g i = standing script s g i e in
    let world : st.who.world ≡ 0 = formed.world.goroutines g st.who st.there in
    let on : stands script st.who ≡ Some i =
    ap (λ (o : Option Goroutine). elim o as (λ _. Option Instr) [ None ↦ None | Some r ↦ stands script r ]) (sym st.there) ∙ e in
    any-numbered (awaits script 0 t) s.goroutines g st.who st.there
    (rw (eq-eqb st.who.world 0 world) (ap (λ (o : Option Instr). elim o as (λ _. Bool) [ None ↦ false | Some i ↦ offers (receives_from t) i ]) on ∙ passes))

-- ---- the time of a declaration, and of a sleep

pub named-within : (script : Script) (id : ℕ) (P : Option What → Bool) → P None ≡ false → P (what_at script id) ≡ true → id < length script.decls
named-within script id P none e =
    elim (slice_get script.decls id) as (λ o. slice_get script.decls id ≡ o → P (option_map (λ (d : Decl). d.what) o) ≡ true → id < length script.decls) [
      | None ↦ λ q k. absurd (both (P None) none k)
      | Some d ↦ λ q k. slice_get_within script.decls id d q
    ] refl e
  where
    both : (b : Bool) → b ≡ false → b ≡ true → ⊥
    both true e h = cc
    both false e h = cc

-- the record of a declaration shows when a timer is due that counts, and the deadline of a context
pub timer-counted : (script : Script) (s : State) (id w : ℕ) → id < length script.decls → counted_timer script s 0 (id, timer_at s id) ≡ Some w → IsCountedBy script s id w
timer-counted script s id w h e = subst (CountsBy script s id w) (sym (lt-ltb id (length script.decls) h)) (inl e)

pub deadline-counted : (script : Script) (s : State) (id w : ℕ) → id < length script.decls → deadline_in 0 (context_at s id) ≡ Some w → IsCountedBy script s id w
deadline-counted script s id w h e = subst (CountsBy script s id w) (sym (lt-ltb id (length script.decls) h)) (inr e)

pub sleep-counted : (script : Script) (s : State) (id w : ℕ) → length script.decls ≤ id → sleep_in (goroutine_at s (id - length script.decls)) ≡ Some w → IsCountedBy script s id w
sleep-counted script s id w h e = subst (CountsBy script s id w) (sym (le-ltb id (length script.decls) h)) e

-- and the other way round
pub counted-declared : (script : Script) (s : State) (id w : ℕ) → id < length script.decls → IsCountedBy script s id w → CountsBy script s id w true
counted-declared script s id w h e = subst (CountsBy script s id w) (lt-ltb id (length script.decls) h) e

pub counted-slept : (script : Script) (s : State) (id w : ℕ) → length script.decls ≤ id → IsCountedBy script s id w → CountsBy script s id w false
counted-slept script s id w h e = subst (CountsBy script s id w) (le-ltb id (length script.decls) h) e

-- a timer that counts is due then
pub timer-counts : (script : Script) (s : State) (id w : ℕ) → IsFormed script s → (is_func script id || is_awaited script s 0 id) ≡ true → due_of s id ≡ Some w
    → counted_timer script s 0 (id, timer_at s id) ≡ Some w
timer-counts script s id w formed counts due =
    elim (timer_at s id) as (λ o. timer_at s id ≡ o → (elim o as (λ _. Option ℕ) [ None ↦ None | Some r ↦ r.due ]) ≡ Some w → counted_timer script s 0 (id, o) ≡ Some w) [
      | None ↦ λ q k. cc
      | Some r ↦ λ q k. rw (eq-eqb r.world 0 (formed.world.timers id r q), counts) k
    ] refl due

pub record Counts (script : Script) (s : State) (id w : ℕ) : Type 0 where
  pub counts : (is_func script id || is_awaited script s 0 id) ≡ true
  pub due : due_of s id ≡ Some w

pub counts-timer : (script : Script) (s : State) (id w : ℕ) → counted_timer script s 0 (id, timer_at s id) ≡ Some w → Counts script s id w
counts-timer script s id w e =
    elim (timer_at s id) as (λ o. timer_at s id ≡ o → counted_timer script s 0 (id, o) ≡ Some w → Counts script s id w) [
      | None ↦ λ q k. cc
      | Some r ↦ λ q k.
          let both : (r.world == 0 && (is_func script id || is_awaited script s 0 id)) ≡ true = cond-true (r.world == 0 && (is_func script id || is_awaited script s 0 id)) r.due k in
          record {
            counts = right-of (r.world == 0) (is_func script id || is_awaited script s 0 id) both;
            due = ap (λ (o : Option Timer). elim o as (λ _. Option ℕ) [ None ↦ None | Some r ↦ r.due ]) q ∙ cond-some (r.world == 0 && (is_func script id || is_awaited script s 0 id)) r.due k;
          }
    ] refl e
  where
    cond-true : (b : Bool) (o : Option ℕ) → cond b o None ≡ Some w → b ≡ true
    cond-true true o h = refl
    cond-true false o h = cc

    cond-some : (b : Bool) (o : Option ℕ) → cond b o None ≡ Some w → o ≡ Some w
    cond-some true o h = h
    cond-some false o h = cc

pub sleep-counts : (script : Script) (s : State) (g w : ℕ) → IsFormed script s → sleeps_until s g ≡ Some w → sleep_in (goroutine_at s g) ≡ Some w
sleep-counts script s g w formed e =
    elim (goroutine_at s g) as (λ o. goroutine_at s g ≡ o → (elim (option_map (λ (r : Goroutine). r.mode) o) as (λ _. Option ℕ) [ None ↦ None | Some mode ↦ until_of mode ]) ≡ Some w
    → sleep_in o ≡ Some w) [
      | None ↦ λ q k. cc
      | Some r ↦ λ q k. rw (eq-eqb r.world 0 (formed.world.goroutines g r q)) k
    ] refl e

pub counts-sleep : (s : State) (g w : ℕ) → sleep_in (goroutine_at s g) ≡ Some w → sleeps_until s g ≡ Some w
counts-sleep s g w e =
    elim (goroutine_at s g) as (λ o. sleep_in o ≡ Some w
    → (elim (option_map (λ (r : Goroutine). r.mode) o) as (λ _. Option ℕ) [ None ↦ None | Some mode ↦ until_of mode ]) ≡ Some w) [
      | None ↦ λ k. cc
      | Some r ↦ λ k. in_world (r.world == 0) (until_of r.mode) k
    ] e
  where
    in_world : (b : Bool) (o : Option ℕ) → cond b o None ≡ Some w → o ≡ Some w
    in_world true o h = h
    in_world false o h = cc

-- ---- the numbers of goroutines

numbered-below : {X : Type 0} (xs : List X) (g : ℕ) (x : X) → numbered xs g ≡ Some x → g < length xs + 1
numbered-below xs zero x e = omega arith
numbered-below xs (suc i) x e = let inside : i < length xs = slice_get_within xs i x e in omega arith

pub stands-below : (script : Script) (s : State) (g : ℕ) (i : Instr) → stands_at script s g ≡ Some i → g < length s.goroutines + 1
stands-below script s g i e = let st : Standing script s g i = standing script s g i e in numbered-below s.goroutines g st.who st.there

pub sleeps-below : (s : State) (g w : ℕ) → sleeps_until s g ≡ Some w → g < length s.goroutines + 1
sleeps-below s g w e =
    elim (goroutine_at s g) as (λ o. goroutine_at s g ≡ o → (elim (option_map (λ (r : Goroutine). r.mode) o) as (λ _. Option ℕ) [ None ↦ None | Some mode ↦ until_of mode ]) ≡ Some w → g < length s.goroutines + 1) [
      | None ↦ λ q k. cc
      | Some r ↦ λ q k. numbered-below s.goroutines g r q
    ] refl e

-- ---- the records of what goroutines wait for

-- the record behind the declarations shows the end of a sleep
pub sleep-shown : (script : Script) (s : State) (g w : ℕ) → IsFormed script s → sleeps_until s g ≡ Some w → IsCountedBy script s (length script.decls + g) w
sleep-shown script s g w formed e =
    let is : (length script.decls + g) - length script.decls ≡ g = omega arith in
    sleep-counted script s (length script.decls + g) w (omega arith) (ap (λ n. sleep_in (goroutine_at s n)) is ∙ sleep-counts script s g w formed e)

-- that of a declaration shows when it is due, where one stands at an instruction that receives from it
pub awaited-shown : (script : Script) (s : State) (g t w : ℕ) (i : Instr) → IsGood script → IsFormed script s → stands_at script s g ≡ Some i → offers (receives_from t) i ≡ true
    → due_of s t ≡ Some w → IsCountedBy script s t w
awaited-shown script s g t w i good formed e passes due =
    let st : Standing script s g i = standing script s g i e in
    let at : ReceivesFrom i t = receives-recv i t passes in
    let named : ((names_timer (what_at script t) || names_chan (what_at script t) || can_end (named_form (what_at script t))) || (names_mutex (what_at script t) || names_wg (what_at script t))) ≡ true =
    names-operation script i at.case_no (CaseKind.Recv t) at.has (names-instr_at script st.who.place i good st.on) in
    timer-counted script s t w
    (named-within script t (λ what. (names_timer what || names_chan what || can_end (named_form what)) || (names_mutex what || names_wg what)) refl named)
    (timer-counts script s t w formed (or-second (is_func script t) _ (stands-awaited script s g t i formed e passes)) due)

-- and where it is an AfterFunc timer
pub func-shown : (script : Script) (s : State) (t w : ℕ) → IsFormed script s → is_func script t ≡ true → due_of s t ≡ Some w → IsCountedBy script s t w
func-shown script s t w formed named due =
    timer-counted script s t w (named-within script t names_func refl named) (timer-counts script s t w formed (or-first (is_func script t) _ named) due)

-- or a context
deadline-made : (o : Option Context) (w : ℕ) → deadline_in 0 o ≡ Some w → (r : Context) × (o ≡ Some r)
deadline-made None w e = cc
deadline-made (Some r) w e = (r, refl)

pub deadline-shown : (script : Script) (s : State) (x w : ℕ) → IsFormed script s → deadline_in 0 (context_at s x) ≡ Some w → IsCountedBy script s x w
deadline-shown script s x w formed e =
    let made = deadline-made (context_at s x) w e in
    deadline-counted script s x w (ctx_declared script x (formed.ctxs x made.0 made.1).named) e

-- an AfterFunc timer is none
func-no_ctx : (w : Option What) → names_func w ≡ true → IsTrue (names_ctx w) → ⊥
func-no_ctx (Some (What.AfterFunc func)) h k = cc
func-no_ctx _ h k = cc

pub func-no_deadline : (script : Script) (s : State) (t : ℕ) → IsFormed script s → is_func script t ≡ true → deadline_in 0 (context_at s t) ≡ None
func-no_deadline script s t formed named =
    elim (context_at s t) as (λ o. context_at s t ≡ o → deadline_in 0 o ≡ None) [
      | None ↦ λ q. refl
      | Some r ↦ λ q. absurd (func-no_ctx (what_at script t) named (formed.ctxs t r q).named)
    ] refl
