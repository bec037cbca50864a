-- Behind entries that are legal: what the machine's rules ask of the state there is what the laws ask of the entries.
use Rattle.std.proofs.Common.{◌≡◌, ℕ, ℤ, zero, suc, ◌+◌, ◌<◌, ◌≤◌, List, [], ◌∷◌, ◌&&◌, length, slice_get, refl, sym, ap, subst, ◌∙◌, arith, cond, Option, None, Some, Bool, true, false, not, is_some, IsSome, IsSomeAnd, IsTrue}
use Rattle.std.proofs.lemmas.Bool.{leb-true, le-leb, or_parts, or_from}
use Rattle.std.specs.List.{All, list_any}
use Rattle.std.proofs.lemmas.List.{drop_all}
use Rattle.gt_model.specs.declared.script.Script.{Script}
use Rattle.gt_model.specs.declared.script.Case.{Case}
use Rattle.gt_model.specs.declared.script.CaseKind.{CaseKind}
use Rattle.gt_model.specs.declared.script.Instr.{Instr}
use Rattle.gt_model.specs.declared.entry.Entry.{Entry}
use Rattle.gt_model.specs.declared.entry.Limits.{Limits}
use Rattle.gt_model.specs.declared.entry.Party.{Party}
use Rattle.gt_model.specs.declared.entry.Reason.{Reason}
use Rattle.gt_model.specs.declared.state.Timer.{Timer}
use Rattle.gt_model.specs.Good.{IsGood}
use Rattle.gt_model.specs.Script.{is_ticker, mutex_of, capacity_of}
use Rattle.gt_rules.specs.State.{State, Channel, clock, clock_of, world_of, stands_at, sleeps_until, timer_at, due_of, period_at, next_number, channel_at, items_of, item_count, is_closed, is_open}
use Rattle.gt_rules.specs.Operations.{polls}
use Rattle.gt_rules.specs.Panics.{panic_at, when, or_else, falls_below}
use Rattle.gt_rules.specs.Ready.{is_due, is_ready_alone}
use Rattle.gt_rules.specs.Ready as ready
use Rattle.gt_rules.specs.declared.change.Setting.{Setting}
use Rattle.gt_rules.specs.After.{first_state, timer_world}
use Rattle.gt_rules.specs.Legal.{May, Does, Defaults, Operates, Signals, is_polling, was_set, LeavesBy}
use Rattle.gt_rules.specs.History.{AllLegal}
use Rattle.gt_facts.proofs.Makers.{Sets, was_made, none-when}
use Rattle.gt_laws.specs.Told.{clock_told, due_told, made_told, opened_told, closed_told, sent_told, taken_told, held_told, counter_told, now_told, owner_told, period_told, started_told, stands_told, operation_told, polls_in, polls_told, until_told}
use Rattle.gt_laws.specs.GoesOn.{alone_told, misuse_in, misuse_told}
use Rattle.gt_laws.specs.Laws.{InOrder, InTime, IsFresh, PassesOn, UsesRightly, ChoosesRightly, IsAlone, AddsUp, IsSignalled, KeepsFirstCause, HooksOnce, IsNoMisuse, answer_told, gives_some}
use Rattle.gt_laws.proofs.Shown.{clock-told, due-told, made-told, started-told}
use Rattle.gt_laws.proofs.Channels.{closed_in, opened-told, closed-told, kept-told, count-told, drop-first}
use Rattle.gt_laws.proofs.Everyone.{now-told, owner-told, period-told, stands-told, until-told, world-told, suspends-told, told-suspends, suspended-told}
use Rattle.gt_laws.proofs.GoesOn.{reached, alone-told}
use Rattle.gt_laws.proofs.Panics.{panic-told, operation-told, calm-in, in-calm}

-- entries that are legal
pub record Behind (script : Script) (limits : Limits) (front : List Entry) : Type 0 where
  pub good : IsGood script
  pub before : AllLegal script limits (first_state script) front

-- the laws at an entry; how a run ends is a law of its own
pub record Obeys (script : Script) (front : List Entry) (e : Entry) : Type 0 where
  pub order : InOrder script front e
  pub time : InTime script front e
  pub fresh : IsFresh script front e
  pub uses : UsesRightly script front e
  pub passes : PassesOn script front e
  pub chooses : ChoosesRightly script front e
  pub alone : IsAlone script front e
  pub adds_up : AddsUp front e
  pub signals : IsSignalled script front e
  pub keeps : KeepsFirstCause script front e
  pub hooks : HooksOnce script front e

-- the rule of an entry: that of a finish is no row of May
abbrev pub Rule : Script → State → Entry → Type 0
Rule script s (Entry.Finish outcome) = Unit {0}
Rule script s e = May script s e

-- what the rule says the laws say, and the other way round
abbrev pub Row : Script → List Entry → Entry → Type 0
Row script front e = (Rule script (reached script front) e → Obeys script front e) × (Obeys script front e → Rule script (reached script front) e)

-- ---- what the state says is what is told

pub told : {script : Script} {limits : Limits} {front : List Entry} (b : Behind script limits front) (g : ℕ) (i : Instr) → stands_at script (reached script front) g ≡ Some i
    → stands_told script g front ≡ Some i
told {script} {limits} {front} b g i h = sym (stands-told script limits g front b.good b.before) ∙ h

pub now : {script : Script} {limits : Limits} {front : List Entry} (b : Behind script limits front) (g : ℕ) → clock_of (reached script front) g ≡ now_told script g front
now {script} {limits} {front} b g = now-told script limits g front b.good b.before

pub next : {script : Script} {limits : Limits} {front : List Entry} (b : Behind script limits front) → next_number (reached script front) ≡ started_told front + 1
next {script} {limits} {front} b = ap (λ n. n + 1) (started-told script limits front b.good b.before)

pub was : {script : Script} {limits : Limits} {front : List Entry} (b : Behind script limits front) (t : ℕ) → was_set script (reached script front) t ≡ answer_told script t front
was {script} {limits} {front} b t = ap (λ (o : Option ℕ). cond (is_ticker script t) None (Some (is_some o))) (due-told script limits t front b.good b.before)

-- the next tick of a ticker
pub leaves : {script : Script} {limits : Limits} {front : List Entry} (b : Behind script limits front) (g t due : ℕ) (later : Option ℕ)
    → LeavesBy (is_ticker script t) (clock_of (reached script front) g) due (period_at (reached script front) t) later
    → LeavesBy (is_ticker script t) (now_told script g front) due (period_told script t front) later
leaves {script} {limits} {front} b g t due later h =
    subst (λ period. LeavesBy (is_ticker script t) (now_told script g front) due period later) (period-told script limits t front b.good b.before)
    (subst (λ time. LeavesBy (is_ticker script t) time due (period_at (reached script front) t) later) (now b g) h)

pub told-leaves : {script : Script} {limits : Limits} {front : List Entry} (b : Behind script limits front) (g t due : ℕ) (later : Option ℕ)
    → LeavesBy (is_ticker script t) (now_told script g front) due (period_told script t front) later
    → LeavesBy (is_ticker script t) (clock_of (reached script front) g) due (period_at (reached script front) t) later
told-leaves {script} {limits} {front} b g t due later h =
    subst (λ period. LeavesBy (is_ticker script t) (clock_of (reached script front) g) due period later) (sym (period-told script limits t front b.good b.before))
    (subst (λ time. LeavesBy (is_ticker script t) time due (period_told script t front) later) (sym (now b g)) h)

pub made : {script : Script} {limits : Limits} {front : List Entry} (b : Behind script limits front) (t : ℕ) (x : Setting) → Sets script (reached script front) t x
    → made_told t front ≡ was_made x
made {script} {limits} {front} b t x h = sym (made-told script limits t front b.good b.before) ∙ h.made

-- ---- who makes no misuse

pub calm-told : {script : Script} {limits : Limits} {front : List Entry} (b : Behind script limits front) (g : ℕ) → panic_at script (reached script front) g ≡ None
    → IsNoMisuse script front g
calm-told {script} {limits} {front} b g calm = calm-in script front (stands_told script g front) (sym (panic-told script limits g front b.good b.before) ∙ calm)

pub told-calm : {script : Script} {limits : Limits} {front : List Entry} (b : Behind script limits front) (g : ℕ) → IsNoMisuse script front g
    → panic_at script (reached script front) g ≡ None
told-calm {script} {limits} {front} b g none = panic-told script limits g front b.good b.before ∙ in-calm script front (stands_told script g front) none

pub does : {script : Script} {limits : Limits} {front : List Entry} (b : Behind script limits front) (g : ℕ) (i : Instr) → stands_told script g front ≡ Some i
    → misuse_told script front i ≡ None → Does script (reached script front) g i
does {script} {limits} {front} b g i h none =
    record { stands = stands-told script limits g front b.good b.before ∙ h; calm = told-calm b g (ap (misuse_in script front) h ∙ none) }

-- who stands at an instruction makes no misuse
pub no-misuse : {script : Script} {limits : Limits} {front : List Entry} (b : Behind script limits front) (g : ℕ) (i : Instr) → stands_told script g front ≡ Some i
    → IsNoMisuse script front g → misuse_told script front i ≡ None
no-misuse {script} {limits} {front} b g i h none = sym (ap (misuse_in script front) h) ∙ none

pub used-made : (front : List Entry) (t : ℕ) → made_told t front ≡ true → when (not (made_told t front)) Reason.Unmade ≡ None
used-made front t h = ap (λ b. when (not b) Reason.Unmade) h

-- the use of a channel that was made and not closed
pub used-open : (front : List Entry) (c : ℕ) → opened_told c front ≡ true → closed_told c front ≡ false
    → or_else (when (not (opened_told c front)) Reason.Unmade) (when (closed_told c front) Reason.Closed) ≡ None
used-open front c made unshut =
    ap (λ b. or_else (when (not b) Reason.Unmade) (when (closed_told c front) Reason.Closed)) made ∙ ap (λ b. when b Reason.Closed) unshut

-- ---- what the state says of a channel is what is told

pub opened-there : {script : Script} {limits : Limits} {front : List Entry} (b : Behind script limits front) (c : ℕ) → is_some (channel_at (reached script front) c) ≡ true
    → opened_told c front ≡ true
opened-there {script} {limits} {front} b c h = sym (opened-told script limits c front b.good b.before) ∙ h

pub closed-there : {script : Script} {limits : Limits} {front : List Entry} (b : Behind script limits front) (c : ℕ) (shut : Bool) → is_closed (reached script front) c ≡ shut
    → closed_told c front ≡ shut
closed-there {script} {limits} {front} b c shut h = sym (closed-told script limits c front b.good b.before) ∙ h

pub made-open : (o : Option Channel) → is_some o ≡ true → closed_in o ≡ false → (elim o as (λ o. Bool) [ None ↦ false | Some r ↦ not r.closed ]) ≡ true
made-open None made unshut = cc
made-open (Some r) made unshut = ap not unshut

pub open-there : {script : Script} {limits : Limits} {front : List Entry} (b : Behind script limits front) (c : ℕ) → opened_told c front ≡ true → closed_told c front ≡ false
    → is_open (reached script front) c ≡ true
open-there {script} {limits} {front} b c made unshut =
    made-open (channel_at (reached script front) c) (opened-told script limits c front b.good b.before ∙ made) (closed-told script limits c front b.good b.before ∙ unshut)

pub closed-made : (o : Option Channel) → closed_in o ≡ true → is_some o ≡ true
closed-made None h = cc
closed-made (Some r) h = refl

-- the rooms of a channel
pub room-told : {script : Script} {limits : Limits} {front : List Entry} (b : Behind script limits front) (c : ℕ) → item_count (reached script front) c < capacity_of script c
    → length (sent_told c front) < capacity_of script c + taken_told c front
room-told {script} {limits} {front} b c h =
    let n : ℕ = item_count (reached script front) c in
    let count : n + taken_told c front ≡ length (sent_told c front) = count-told script limits c front b.good b.before in
    let room : n < capacity_of script c = h in
    omega arith

pub told-room : {script : Script} {limits : Limits} {front : List Entry} (b : Behind script limits front) (c : ℕ)
    → length (sent_told c front) < capacity_of script c + taken_told c front → item_count (reached script front) c < capacity_of script c
told-room {script} {limits} {front} b c h =
    let n : ℕ = item_count (reached script front) c in
    let count : n + taken_told c front ≡ length (sent_told c front) = count-told script limits c front b.good b.before in
    let room : length (sent_told c front) < capacity_of script c + taken_told c front = h in
    omega arith

-- its next value: the first one that was sent and not yet received
pub next-told : {script : Script} {limits : Limits} {front : List Entry} (b : Behind script limits front) (c : ℕ)
    → slice_get (items_of (reached script front) c) 0 ≡ slice_get (sent_told c front) (taken_told c front)
next-told {script} {limits} {front} b c =
    ap (λ (vs : List ℕ). slice_get vs 0) (kept-told script limits c front b.good b.before).items ∙ drop-first (sent_told c front) (taken_told c front)

pub drained-told : {script : Script} {limits : Limits} {front : List Entry} (b : Behind script limits front) (c : ℕ) → items_of (reached script front) c ≡ []
    → taken_told c front ≡ length (sent_told c front)
drained-told {script} {limits} {front} b c h =
    let none : item_count (reached script front) c ≡ 0 = ap (λ (vs : List ℕ). length vs) h in
    let count : item_count (reached script front) c + taken_told c front ≡ length (sent_told c front) = count-told script limits c front b.good b.before in
    omega arith

pub told-drained : {script : Script} {limits : Limits} {front : List Entry} (b : Behind script limits front) (c : ℕ) → taken_told c front ≡ length (sent_told c front)
    → items_of (reached script front) c ≡ []
told-drained {script} {limits} {front} b c h =
    let all : length (sent_told c front) ≤ taken_told c front = omega arith in
    (kept-told script limits c front b.good b.before).items ∙ drop_all (taken_told c front) (sent_told c front) all

-- ---- who is a party of an operation

pub operates-told : {script : Script} {limits : Limits} {front : List Entry} (b : Behind script limits front) (p : Party) (kind : CaseKind)
    → Operates script (reached script front) p kind → operation_told script p front ≡ Some kind
operates-told {script} {limits} {front} b p kind call = sym (operation-told script limits p front b.good b.before) ∙ call.stands

pub told-operates : {script : Script} {limits : Limits} {front : List Entry} (b : Behind script limits front) (p : Party) (kind : CaseKind) → IsNoMisuse script front p.g
    → operation_told script p front ≡ Some kind → Operates script (reached script front) p kind
told-operates {script} {limits} {front} b p kind calm has =
    record { stands = operation-told script limits p front b.good b.before ∙ has; calm = told-calm b p.g calm }

-- ---- who stands at a choice with a default

pub polls-there : (o : Option Instr) → (elim o as (λ o. Bool) [ None ↦ false | Some i ↦ polls i ]) ≡ polls_in o
polls-there None = refl
polls-there (Some i) = refl

pub polls-told : {script : Script} {limits : Limits} {front : List Entry} (b : Behind script limits front) (g : ℕ) → is_polling script (reached script front) g ≡ polls_told script g front
polls-told {script} {limits} {front} b g =
    polls-there (stands_at script (reached script front) g) ∙ ap polls_in (stands-told script limits g front b.good b.before)

pub both-told : {script : Script} {limits : Limits} {front : List Entry} (b : Behind script limits front) (g k : ℕ)
    → (is_polling script (reached script front) g && is_polling script (reached script front) k) ≡ (polls_told script g front && polls_told script k front)
both-told {script} {limits} {front} b g k =
    ap (λ x. x && is_polling script (reached script front) k) (polls-told b g) ∙ ap (λ x. polls_told script g front && x) (polls-told b k)

pub not-true : (b : Bool) → not b ≡ true → b ≡ false
not-true true h = cc
not-true false h = refl

pub not-false : (b : Bool) → not b ≡ false → b ≡ true
not-false true h = refl
not-false false h = cc

-- a choice with a default
pub record HasDefault (o : Option Instr) : Type 0 where
  pub cases : List Case
  pub to : ℕ
  pub is : o ≡ Some (Instr.Select cases (Some to))

pub has-default : (o : Option Instr) → polls_in o ≡ true → HasDefault o
has-default None h = cc
has-default (Some (Instr.Select cases None)) h = cc
has-default (Some (Instr.Select cases (Some to))) h = record { cases = cases; to = to; is = refl }
has-default (Some i) h = cc

-- what holds of no case
pub none-any : (p : Case → Bool) (cases : List Case) → All (λ (c : Case). p c ≡ false) cases → list_any p cases ≡ false
none-any p [] none = refl
none-any p (c ∷ cases) none = or_from (p c) (list_any p cases) (none 0 c (omega arith)) (none-any p cases (λ k d h. none (suc k) d (omega arith)))

pub any-none : (p : Case → Bool) (cases : List Case) → list_any p cases ≡ false → All (λ (c : Case). p c ≡ false) cases
any-none p [] none k d h = absurd (omega arith)
any-none p (c ∷ cases) none zero d h = (or_parts (p c) (list_any p cases) none).0
any-none p (c ∷ cases) none (suc k) d h = any-none p cases (or_parts (p c) (list_any p cases) none).1 k d (omega arith)

-- whether a case goes on by itself
pub alone : {script : Script} {limits : Limits} {front : List Entry} (b : Behind script limits front) (g : ℕ) (kind : CaseKind)
    → is_ready_alone script (reached script front) (ready.has_come (reached script front) (world_of (reached script front) g)) kind ≡ alone_told script front (now_told script g front) kind
alone {script} {limits} {front} b g kind =
    alone-told script limits front (world_of (reached script front) g) kind b.good b.before
    ∙ ap (λ w. alone_told script front (clock_told w front) kind) (world-told script limits g front b.good b.before)

pub defaults-told : {script : Script} {limits : Limits} {front : List Entry} (b : Behind script limits front) (g : ℕ) → Defaults script (reached script front) g → Obeys script front (Entry.Default g)
defaults-told {script} {limits} {front} b g d =
    let on : stands_told script g front ≡ Some (Instr.Select d.cases (Some d.to)) = told b g (Instr.Select d.cases (Some d.to)) d.does.stands in
    record {
      order = ap polls_in on;
      time = tt;
      fresh = tt;
      uses = calm-told b g d.does.calm;
      passes = tt;
      chooses = ap (λ (o : Option Instr). gives_some script front (now_told script g front) o) on
          ∙ none-any (λ (c : Case). alone_told script front (now_told script g front) c.kind) d.cases (λ k x h. sym (alone b g _) ∙ d.none k x h);
      alone = tt;
      adds_up = tt;
      signals = tt;
      keeps = tt;
      hooks = tt;
    }

pub told-defaults : {script : Script} {limits : Limits} {front : List Entry} (b : Behind script limits front) (g : ℕ) → Obeys script front (Entry.Default g) → Defaults script (reached script front) g
told-defaults {script} {limits} {front} b g o =
    let has : HasDefault (stands_told script g front) = has-default (stands_told script g front) o.order in
    let none : list_any (λ (c : Case). alone_told script front (now_told script g front) c.kind) has.cases ≡ false =
    sym (ap (λ (o : Option Instr). gives_some script front (now_told script g front) o) has.is) ∙ o.chooses in
    record {
      cases = has.cases;
      to = has.to;
      does = record { stands = stands-told script limits g front b.good b.before ∙ has.is; calm = told-calm b g o.uses };
      none = λ k x h. alone b g _ ∙ any-none (λ (c : Case). alone_told script front (now_told script g front) c.kind) has.cases none k x h;
    }

-- ---- who unlocks a mutex or adds to a counter, without a misuse

-- the misuse of who unlocks a mutex that is free
pub held-there : (held : Bool) → when (not held) Reason.Unlocked ≡ None → held ≡ true
held-there held none = not-false held (none-when (not held) Reason.Unlocked none)

pub calm-there : {script : Script} {limits : Limits} {front : List Entry} (b : Behind script limits front) (g : ℕ) (i : Instr) → Does script (reached script front) g i
    → misuse_told script front i ≡ None
calm-there {script} {limits} {front} b g i may = no-misuse b g i (told b g i may.stands) (calm-told b g may.calm)

pub unlock-told : {script : Script} {limits : Limits} {front : List Entry} (b : Behind script limits front) (g m : ℕ) → Does script (reached script front) g (Instr.Unlock m)
    → Obeys script front (Entry.Unlock g m)
unlock-told {script} {limits} {front} b g m may =
    let held : held_told script m front ≡ true = held-there (held_told script m front) (calm-there b g (Instr.Unlock m) may) in
    record { order = told b g (Instr.Unlock m) may.stands; time = tt; fresh = tt; uses = held; passes = tt; chooses = tt; alone = held; adds_up = tt; signals = tt; keeps = tt; hooks = tt }

pub above-there : {script : Script} {limits : Limits} {front : List Entry} (b : Behind script limits front) (g w : ℕ) (n : ℤ) → Does script (reached script front) g (Instr.Add w n)
    → falls_below (counter_told w front) n ≡ false
above-there {script} {limits} {front} b g w n may =
    none-when (falls_below (counter_told w front) n) Reason.Negative (calm-there b g (Instr.Add w n) may)

pub add-told : {script : Script} {limits : Limits} {front : List Entry} (b : Behind script limits front) (g w : ℕ) (n : ℤ) → Does script (reached script front) g (Instr.Add w n)
    → Obeys script front (Entry.Add g w n)
add-told {script} {limits} {front} b g w n may =
    let above : falls_below (counter_told w front) n ≡ false = above-there b g w n may in
    record { order = told b g (Instr.Add w n) may.stands; time = tt; fresh = tt; uses = above; passes = tt; chooses = tt; alone = tt; adds_up = above; signals = tt; keeps = tt; hooks = tt }

-- ---- who waits at a Cond, and who signals

pub waits-told : {script : Script} {limits : Limits} {front : List Entry} (b : Behind script limits front) (g k : ℕ) → Does script (reached script front) g (Instr.CWait k)
    → Obeys script front (Entry.CondWait g k)
waits-told {script} {limits} {front} b g k may =
    let held : held_told script (mutex_of script k) front ≡ true = held-there (held_told script (mutex_of script k) front) (calm-there b g (Instr.CWait k) may) in
    record { order = told b g (Instr.CWait k) may.stands; time = tt; fresh = tt; uses = held; passes = tt; chooses = tt; alone = held; adds_up = tt; signals = tt; keeps = tt; hooks = tt }

-- who is signalled waits at the Cond, or nobody does
pub signals-told : {script : Script} {limits : Limits} {front : List Entry} (b : Behind script limits front) (g k : ℕ) (woken : Option ℕ) → Signals (reached script front) k woken
    → IsSignalled script front (Entry.Signal g k woken)
signals-told {script} {limits} {front} b g k None h = sym (suspended-told script limits k front b.good b.before) ∙ h
signals-told {script} {limits} {front} b g k (Some other) h = suspends-told script limits other k front b.good b.before h

pub told-signals : {script : Script} {limits : Limits} {front : List Entry} (b : Behind script limits front) (g k : ℕ) (woken : Option ℕ)
    → IsSignalled script front (Entry.Signal g k woken) → Signals (reached script front) k woken
told-signals {script} {limits} {front} b g k None h = suspended-told script limits k front b.good b.before ∙ h
told-signals {script} {limits} {front} b g k (Some other) h = told-suspends script limits other k front b.good b.before h

-- ---- whose time has come

pub some-and : (o : Option ℕ) (P : ℕ → Type 0) → IsSomeAnd o P → IsSome o
some-and None P h = absurd h
some-and (Some x) P h = refl

pub wakes-told : {script : Script} {limits : Limits} {front : List Entry} (b : Behind script limits front) (g : ℕ)
    → IsSomeAnd (sleeps_until (reached script front) g) (λ until. until ≤ clock_of (reached script front) g)
    → IsSomeAnd (until_told script g front) (λ until. until ≤ now_told script g front)
wakes-told {script} {limits} {front} b g h =
    subst (λ (o : Option ℕ). IsSomeAnd o (λ until. until ≤ now_told script g front)) (until-told script limits g front b.good b.before)
    (subst (λ time. IsSomeAnd (sleeps_until (reached script front) g) (λ until. until ≤ time)) (now b g) h)

pub told-wakes : {script : Script} {limits : Limits} {front : List Entry} (b : Behind script limits front) (g : ℕ)
    → IsSomeAnd (until_told script g front) (λ until. until ≤ now_told script g front)
    → IsSomeAnd (sleeps_until (reached script front) g) (λ until. until ≤ clock_of (reached script front) g)
told-wakes {script} {limits} {front} b g h =
    subst (λ (o : Option ℕ). IsSomeAnd o (λ until. until ≤ clock_of (reached script front) g)) (sym (until-told script limits g front b.good b.before))
    (subst (λ time. IsSomeAnd (until_told script g front) (λ until. until ≤ time)) (sym (now b g)) h)

pub come-due : (due : Option ℕ) (now : ℕ) → is_due due now ≡ true → IsSomeAnd due (λ due. due ≤ now)
come-due None now h = cc
come-due (Some due) now h = leb-true due now h

pub due-come : (due : Option ℕ) (time : ℕ) → IsSomeAnd due (λ due. due ≤ time) → is_due due time ≡ true
due-come None time h = absurd h
due-come (Some due) time h = le-leb due time h

-- a timer that has come to its time, by its due time and its world
abbrev pub HasCome : State → ℕ → Type 0
HasCome s t = IsSomeAnd (timer_at s t) (λ (r : Timer). IsTrue (is_due r.due (clock s r.world)))

pub has-come : (s : State) (t : ℕ) → HasCome s t → IsSomeAnd (due_of s t) (λ due. due ≤ clock s (timer_world s t))
has-come s t h =
    elim (timer_at s t) as (λ o. IsSomeAnd o (λ (r : Timer). IsTrue (is_due r.due (clock s r.world)))
    → IsSomeAnd (elim o as (λ o. Option ℕ) [ None ↦ None | Some r ↦ r.due ]) (λ due. due ≤ clock s (elim o as (λ o. ℕ) [ None ↦ 0 | Some r ↦ r.world ]))) [
      | None ↦ λ h. h
      | Some r ↦ λ h. come-due r.due (clock s r.world) h
    ] h

pub come-has : (s : State) (t : ℕ) → IsSomeAnd (due_of s t) (λ due. due ≤ clock s (timer_world s t)) → HasCome s t
come-has s t h =
    elim (timer_at s t) as (λ o. IsSomeAnd (elim o as (λ o. Option ℕ) [ None ↦ None | Some r ↦ r.due ]) (λ due. due ≤ clock s (elim o as (λ o. ℕ) [ None ↦ 0 | Some r ↦ r.world ]))
    → IsSomeAnd o (λ (r : Timer). IsTrue (is_due r.due (clock s r.world)))) [
      | None ↦ λ h. h
      | Some r ↦ λ h. due-come r.due (clock s r.world) h
    ] h

pub timer-clock : {script : Script} {limits : Limits} {front : List Entry} (b : Behind script limits front) (t : ℕ)
    → clock (reached script front) (timer_world (reached script front) t) ≡ clock_told (owner_told script t front) front
timer-clock {script} {limits} {front} b t =
    clock-told script limits (timer_world (reached script front) t) front b.good b.before
    ∙ ap (λ w. clock_told w front) (owner-told script limits t front b.good b.before)

pub fires-told : {script : Script} {limits : Limits} {front : List Entry} (b : Behind script limits front) (t : ℕ) → HasCome (reached script front) t
    → IsSomeAnd (due_told t front) (λ due. due ≤ clock_told (owner_told script t front) front)
fires-told {script} {limits} {front} b t h =
    subst (λ (o : Option ℕ). IsSomeAnd o (λ due. due ≤ clock_told (owner_told script t front) front)) (due-told script limits t front b.good b.before)
    (subst (λ time. IsSomeAnd (due_of (reached script front) t) (λ due. due ≤ time)) (timer-clock b t) (has-come (reached script front) t h))

pub told-fires : {script : Script} {limits : Limits} {front : List Entry} (b : Behind script limits front) (t : ℕ)
    → IsSomeAnd (due_told t front) (λ due. due ≤ clock_told (owner_told script t front) front) → HasCome (reached script front) t
told-fires {script} {limits} {front} b t h =
    let s : State = reached script front in
    come-has s t
    (subst (λ (o : Option ℕ). IsSomeAnd o (λ due. due ≤ clock s (timer_world s t))) (sym (due-told script limits t front b.good b.before))
    (subst (λ time. IsSomeAnd (due_told t front) (λ due. due ≤ time)) (sym (timer-clock b t)) h))
