-- What a record tells of its timer: what ending its setting answers, its period, and the tick that is next after a receive.
use Rattle.std.proofs.Common.{◌≡◌, ℕ, ◌+◌, ◌-◌, ◌*◌, ◌/◌, ◌<◌, ◌≤◌, min, cond, length, slice_get, option_map, refl, sym, ap, subst, ◌∙◌, arith, Option, None, Some, Bool, true, false, is_some, IsTrue, inl, inr}
use Rattle.std.proofs.Math.Nat.{mul-div-le, mul_comm}
use Rattle.std.proofs.lemmas.Bool.{lt-ltb, le-ltb}
use Rattle.gt_model.specs.Times.{greatest_time}
use Rattle.gt_model.specs.declared.script.Script.{Script}
use Rattle.gt_model.specs.declared.script.Decl.{Decl}
use Rattle.gt_model.specs.declared.script.What.{What}
use Rattle.gt_model.specs.Script.{is_ticker, names_ticker, is_ctx, names_ctx}
use Rattle.gt_rules.specs.State.{State, due_of, period_at, sleeps_until, has_ended}
use Rattle.gt_rules.specs.Legal.{IsNextTick, LeavesBy, LeavesDue, was_set}
use Rattle.gt_facts.specs.Formed.{IsPeriod}
use Rattle.gt_rec.specs.declared.RecKind.{RecKind}
use Rattle.gt_rec.specs.Rec.{Rec, shown, has_channel}
use Rattle.gt_rec.specs.Ticks.{next_tick, due_left}
use Rattle.gt_rows.specs.Agrees.{Agrees, kind_by, kind_of_what, live_at}
use Rattle.gt_rows.specs.Rows.{answer_of}
use Rattle.gt_model.proofs.Declared.{ctx_declared}

-- ---- a record is a ticker's exactly where its declaration is one

abbrev pub is_ticking : RecKind → Bool
is_ticking RecKind.Timer = false
is_ticking RecKind.Ticker = true
is_ticking RecKind.Func = false
is_ticking RecKind.Sleep = false
is_ticking RecKind.Deadline = false

ticker-what : (what : What) (kind : RecKind) → kind_of_what what ≡ Some kind → names_ticker (Some what) ≡ is_ticking kind
ticker-what What.Timer kind h = let is : RecKind.Timer ≡ kind = cc in ap is_ticking is
ticker-what What.Ticker kind h = let is : RecKind.Ticker ≡ kind = cc in ap is_ticking is
ticker-what (What.AfterFunc f) kind h = let is : RecKind.Func ≡ kind = cc in ap is_ticking is
ticker-what (What.Chan cap) kind h = cc
ticker-what What.Mutex kind h = cc
ticker-what What.Wg kind h = cc
ticker-what (What.Cond mutex) kind h = cc
ticker-what (What.Ctx parent form) kind h = let is : RecKind.Deadline ≡ kind = cc in ap is_ticking is
ticker-what (What.Hook ctx func) kind h = cc
ticker-what What.Error kind h = cc
ticker-what What.Function kind h = cc

pub ticker-kind : (script : Script) (id : ℕ) (kind : RecKind) → kind_by script id ≡ Some kind → is_ticker script id ≡ is_ticking kind
ticker-kind script id kind h =
    elim (slice_get script.decls id) as (λ o. (elim o as (λ o. Option RecKind) [ None ↦ Some RecKind.Sleep | Some decl ↦ kind_of_what decl.what ]) ≡ Some kind
    → names_ticker (option_map (λ (d : Decl). d.what) o) ≡ is_ticking kind) [
      | None ↦ λ k. let is : RecKind.Sleep ≡ kind = cc in ap is_ticking is
      | Some d ↦ λ k. ticker-what d.what kind k
    ] h

-- ---- what ending its setting answers

answer-kind : (kind : RecKind) (o : Option ℕ) → (elim kind as (λ k. Option Bool) [ RecKind.Ticker ↦ None | _ ↦ Some (is_some o) ]) ≡ cond (is_ticking kind) None (Some (is_some o))
answer-kind RecKind.Timer o = refl
answer-kind RecKind.Ticker o = refl
answer-kind RecKind.Func o = refl
answer-kind RecKind.Sleep o = refl
answer-kind RecKind.Deadline o = refl

-- a record of a timer shows when that is due
pub shown-due : (script : Script) (s : State) (r : Rec) → Agrees script s r → r.id < length script.decls → is_ctx script r.id ≡ false → shown r ≡ due_of s r.id
shown-due script s r agrees below other =
    elim agrees.shown [
      | inl is ↦ is ∙ rw (lt-ltb r.id (length script.decls) below, other) refl
      | inr ended ↦ absurd (both (is_ctx script r.id) ended.0 other)
    ]
  where
    both : (b : Bool) → IsTrue b → b ≡ false → ⊥
    both true h k = cc
    both false h k = cc

pub answer-was_set : (script : Script) (s : State) (r : Rec) → Agrees script s r → r.id < length script.decls → is_ctx script r.id ≡ false → answer_of r ≡ was_set script s r.id
answer-was_set script s r agrees below other =
    let due : shown r ≡ due_of s r.id = shown-due script s r agrees below other in
    answer-kind r.kind (shown r)
    ∙ (ap (λ b. cond b None (Some (is_some (shown r)))) (sym (ticker-kind script r.id r.kind agrees.kind))
    ∙ ap (λ o. cond (is_ticker script r.id) None (Some (is_some o))) due)

-- ---- the period

pub period-declared : (script : Script) (s : State) (r : Rec) → Agrees script s r → r.id < length script.decls → r.period ≡ period_at s r.id
period-declared script s r agrees below = agrees.period ∙ rw (lt-ltb r.id (length script.decls) below) refl

-- that of a ticker's setting is above 0
pub ticking-period : (script : Script) (s : State) (r : Rec) (period : ℕ) → Agrees script s r → IsPeriod (is_ticker script r.id) period → r.kind ≡ RecKind.Ticker → 0 < period
ticking-period script s r period agrees right is = subst (λ ticker. IsPeriod ticker period) (ticker-kind script r.id r.kind agrees.kind ∙ ap is_ticking is) right

-- ---- the next tick

next-tick : (now v period : ℕ) → v ≤ now → IsNextTick now v period (next_tick v period now)
next-tick now v period come =
    let gone : ℕ = (now - v) / period in
    let within : period * gone ≤ now - v = mul-div-le (now - v) period in
    let turned : gone * period ≡ period * gone = mul_comm gone period in
    let before : (1 + gone) - 1 ≡ gone = omega arith in
    let begun : v + gone * period ≤ now = omega arith in
    record {
      ticks = 1 + gone;
      some = omega arith;
      begun = subst (λ k. v + k * period ≤ now) (sym before) begun;
      is = ap (λ x. min greatest_time (v + x)) (mul_comm period (1 + gone));
    }

leaves-kind : (kind : RecKind) (now v period : ℕ) → v ≤ now → LeavesBy (is_ticking kind) now v period (due_left kind period v now)
leaves-kind RecKind.Timer now v period come = refl
leaves-kind RecKind.Ticker now v period come = next-tick now v period come
leaves-kind RecKind.Func now v period come = refl
leaves-kind RecKind.Sleep now v period come = refl
leaves-kind RecKind.Deadline now v period come = refl

-- what a receive of the shown due time leaves of a record is what it leaves of the timer
pub leaves-due : (script : Script) (s : State) (r : Rec) (now due : ℕ) → Agrees script s r → r.id < length script.decls → due ≤ now
    → LeavesDue script s now r.id due (due_left r.kind r.period due now)
leaves-due script s r now due agrees below come =
    subst (λ ticker. LeavesBy ticker now due (period_at s r.id) (due_left r.kind r.period due now)) (sym (ticker-kind script r.id r.kind agrees.kind))
    (subst (λ period. LeavesBy (is_ticking r.kind) now due period (due_left r.kind r.period due now)) (period-declared script s r agrees below)
    (leaves-kind r.kind now due r.period come))

-- ---- what the records of sleeps and of contexts show

ctx-named : (script : Script) (id : ℕ) → IsTrue (is_ctx script id) → length script.decls ≤ id → ⊥
ctx-named script id ctx beyond = let within : id < length script.decls = ctx_declared script id ctx in absurd (omega arith)

-- a record of a sleep shows its end
pub shown-sleep : (script : Script) (s : State) (r : Rec) → Agrees script s r → length script.decls ≤ r.id → shown r ≡ sleeps_until s (r.id - length script.decls)
shown-sleep script s r agrees beyond =
    elim agrees.shown [
      | inl is ↦ is ∙ rw (le-ltb r.id (length script.decls) beyond) refl
      | inr ended ↦ absurd (ctx-named script r.id ended.0 beyond)
    ]

-- that of a context that has not ended shows its own deadline
pub shown-own : (script : Script) (s : State) (r : Rec) → Agrees script s r → is_ctx script r.id ≡ true → has_ended s r.id ≡ false → shown r ≡ live_at s r.id
shown-own script s r agrees ctx going =
    elim agrees.shown [
      | inl is ↦ is ∙ rw (lt-ltb r.id (length script.decls) (ctx_declared script r.id ctx), ctx) refl
      | inr ended ↦ absurd (both (has_ended s r.id) ended.1 going)
    ]
  where
    both : (b : Bool) → IsTrue b → b ≡ false → ⊥
    both true h k = cc
    both false h k = cc

-- ---- the kind of a number

pub what-deadline : (what : What) → kind_of_what what ≡ Some RecKind.Deadline → names_ctx (Some what) ≡ true
what-deadline (What.Ctx parent form) h = refl
what-deadline What.Timer h = cc
what-deadline What.Ticker h = cc
what-deadline (What.AfterFunc f) h = cc
what-deadline (What.Chan cap) h = cc
what-deadline What.Mutex h = cc
what-deadline What.Wg h = cc
what-deadline (What.Cond mutex) h = cc
what-deadline (What.Hook ctx func) h = cc
what-deadline What.Error h = cc
what-deadline What.Function h = cc

-- a record is a deadline's exactly where its declaration is a context
pub kind-deadline : (script : Script) (id : ℕ) → kind_by script id ≡ Some RecKind.Deadline → is_ctx script id ≡ true
kind-deadline script id h =
    elim (slice_get script.decls id) as (λ o. (elim o as (λ o. Option RecKind) [ None ↦ Some RecKind.Sleep | Some decl ↦ kind_of_what decl.what ]) ≡ Some RecKind.Deadline
    → names_ctx (option_map (λ (d : Decl). d.what) o) ≡ true) [
      | None ↦ λ k. cc
      | Some d ↦ λ k. what-deadline d.what k
    ] h

what-other : (what : What) (kind : RecKind) → kind_of_what what ≡ Some kind → (kind ≡ RecKind.Deadline → ⊥) → names_ctx (Some what) ≡ false
what-other (What.Ctx parent form) kind h other = let is : RecKind.Deadline ≡ kind = cc in absurd (other (sym is))
what-other What.Timer kind h other = refl
what-other What.Ticker kind h other = refl
what-other (What.AfterFunc f) kind h other = refl
what-other (What.Chan cap) kind h other = refl
what-other What.Mutex kind h other = refl
what-other What.Wg kind h other = refl
what-other (What.Cond mutex) kind h other = refl
what-other (What.Hook ctx func) kind h other = refl
what-other What.Error kind h other = refl
what-other What.Function kind h other = refl

pub kind-other : (script : Script) (id : ℕ) (kind : RecKind) → kind_by script id ≡ Some kind → (kind ≡ RecKind.Deadline → ⊥) → is_ctx script id ≡ false
kind-other script id kind h other =
    elim (slice_get script.decls id) as (λ o. (elim o as (λ o. Option RecKind) [ None ↦ Some RecKind.Sleep | Some decl ↦ kind_of_what decl.what ]) ≡ Some kind
    → names_ctx (option_map (λ (d : Decl). d.what) o) ≡ false) [
      | None ↦ λ k. refl
      | Some d ↦ λ k. what-other d.what kind k other
    ] h

-- one with a channel is none
pub channel-no_ctx : (script : Script) (s : State) (r : Rec) → Agrees script s r → has_channel r.kind ≡ true → is_ctx script r.id ≡ false
channel-no_ctx script s r agrees channel = kind-other script r.id r.kind agrees.kind (λ is. both (has_channel r.kind) channel (ap has_channel is))
  where
    both : (b : Bool) → b ≡ true → b ≡ false → ⊥
    both true h k = cc
    both false h k = cc
