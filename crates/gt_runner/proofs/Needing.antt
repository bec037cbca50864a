-- Where nobody runs, a record needs the heap exactly where its time counts.
use Rattle.std.proofs.Common.{◌≡◌, ℕ, zero, suc, ◌-◌, ◌<◌, ◌≤◌, nat_lt, List, [], ◌∷◌, length, slice_get, refl, sym, ap, subst, ◌∙◌, arith, Option, None, Some, IsTrue, Bool, true, false, not, ◌&&◌, ◌||◌, cond, is_some, is_none, eq-eqb, inl, inr}
use Rattle.std.specs.Option.{option_or, option_map}
use Rattle.std.proofs.lemmas.Bool.{ltb-true, ltb-false, lt-ltb, le-ltb}
use Rattle.std.proofs.lemmas.Option.{slice_get_within}
use Rattle.gt_model.specs.declared.script.Script.{Script}
use Rattle.gt_model.specs.declared.script.Decl.{Decl}
use Rattle.gt_model.specs.declared.script.What.{What}
use Rattle.gt_model.specs.declared.context.Context.{Context}
use Rattle.gt_model.specs.declared.context.End.{End}
use Rattle.gt_model.specs.Script.{what_at, is_func, is_timer, is_ctx, names_func, names_timer, names_ctx}
use Rattle.gt_model.specs.Good.{is_setting}
use Rattle.gt_model.proofs.Declared.{ctx_declared}
use Rattle.gt_rules.specs.State.{State, sleeps_until, due_of, context_at, has_ended}
use Rattle.gt_rules.specs.Counted.{is_awaited, deadline_in}
use Rattle.gt_rec.specs.declared.RecKind.{RecKind}
use Rattle.gt_rec.specs.Rec.{Rec, needs_heap, has_channel, in_flight, due_of_send, shown}
use Rattle.gt_schedule.specs.Schedule.{mark_count}
use Rattle.gt_book.specs.Least.{NobodyRuns, IsCountedBy}
use Rattle.gt_book.specs.Steps.{live_deadline}
use Rattle.gt_book.specs.View.{BookView, IsLawful}
use Rattle.gt_book.proofs.Waiting.{Counts, timer-counted, deadline-counted, sleep-counted, counted-declared, counted-slept, timer-counts, counts-timer, sleep-counts, counts-sleep}
use Rattle.gt_rows.specs.Agrees.{kind_by, kind_of_what, due_by, live_at, of_declaration}
use Rattle.gt_rows.proofs.Tickers.{shown-due, shown-own, shown-sleep, kind-deadline, kind-other}
use Rattle.gt_runner.specs.declared.runner.Runner.{Runner}
use Rattle.gt_runner.specs.Served.{IsWatched, AtKind, IsAt, AtNumber, IsServed, MarkFitsAt}
use Rattle.gt_runner.specs.Settled.{is_deadline, is_over}
use Rattle.gt_runner.proofs.Named.{due-setting}
use Rattle.gt_runner.proofs.Watching.{receiver-marked, marked-receiver, awaited-receiver, receiver-awaited, right-of}

-- ---- what a record shows that has no value

pub shown-when : (r : Rec) → r.ready ≡ None → r.sending ≡ None → shown r ≡ r.when
shown-when r ready sent =
    ap (λ o. option_or o (option_or (in_flight r) r.when)) ready
    ∙ ap (λ o. option_or (due_of_send o r.seq) r.when) sent

-- ---- where a record's time stands

both-ways : (b : Bool) → b ≡ true → b ≡ false → ⊥
both-ways true e h = cc
both-ways false e h = cc

-- a timer that gives values, an AfterFunc timer, or a goroutine's sleep
pub channel-timer : (o : Option Decl) (kind : RecKind) → (elim o as (λ _. Option RecKind) [ None ↦ Some RecKind.Sleep | Some decl ↦ kind_of_what decl.what ]) ≡ Some kind → has_channel kind ≡ true
    → names_timer (option_map (λ (d : Decl). d.what) o) ≡ true
channel-timer None kind e h = let is : RecKind.Sleep ≡ kind = cc in absurd (both-ways (has_channel kind) h (ap has_channel (sym is)))
channel-timer (Some decl) kind e h = of_what decl.what kind e h
  where
    of_what : (w : What) (kind : RecKind) → kind_of_what w ≡ Some kind → has_channel kind ≡ true → names_timer (Some w) ≡ true
    of_what What.Timer kind e h = refl
    of_what What.Ticker kind e h = refl
    of_what (What.AfterFunc f) kind e h = let is : RecKind.Func ≡ kind = cc in absurd (both-ways (has_channel kind) h (ap has_channel (sym is)))
    of_what (What.Chan cap) kind e h = cc
    of_what What.Mutex kind e h = cc
    of_what What.Wg kind e h = cc
    of_what (What.Cond mutex) kind e h = cc
    of_what (What.Ctx parent form) kind e h = let is : RecKind.Deadline ≡ kind = cc in absurd (both-ways (has_channel kind) h (ap has_channel (sym is)))
    of_what (What.Hook ctx func) kind e h = cc
    of_what What.Error kind e h = cc
    of_what What.Function kind e h = cc

kind-func : (o : Option Decl) → (elim o as (λ _. Option RecKind) [ None ↦ Some RecKind.Sleep | Some decl ↦ kind_of_what decl.what ]) ≡ Some RecKind.Func → names_func (option_map (λ (d : Decl). d.what) o) ≡ true
kind-func None e = cc
kind-func (Some decl) e = of_what decl.what e
  where
    of_what : (w : What) → kind_of_what w ≡ Some RecKind.Func → names_func (Some w) ≡ true
    of_what What.Timer e = cc
    of_what What.Ticker e = cc
    of_what (What.AfterFunc f) e = refl
    of_what (What.Chan cap) e = cc
    of_what What.Mutex e = cc
    of_what What.Wg e = cc
    of_what (What.Cond mutex) e = cc
    of_what (What.Ctx parent form) e = cc
    of_what (What.Hook ctx func) e = cc
    of_what What.Error e = cc
    of_what What.Function e = cc

pub kind-sleep : (o : Option Decl) → (elim o as (λ _. Option RecKind) [ None ↦ Some RecKind.Sleep | Some decl ↦ kind_of_what decl.what ]) ≡ Some RecKind.Sleep → o ≡ None
kind-sleep None e = refl
kind-sleep (Some decl) e = absurd (of_what decl.what e)
  where
    of_what : (w : What) → kind_of_what w ≡ Some RecKind.Sleep → ⊥
    of_what What.Timer e = cc
    of_what What.Ticker e = cc
    of_what (What.AfterFunc f) e = cc
    of_what (What.Chan cap) e = cc
    of_what What.Mutex e = cc
    of_what What.Wg e = cc
    of_what (What.Cond mutex) e = cc
    of_what (What.Ctx parent form) e = cc
    of_what (What.Hook ctx func) e = cc
    of_what What.Error e = cc
    of_what What.Function e = cc

pub get-none : {X : Type 0} (xs : List X) (i : ℕ) → slice_get xs i ≡ None → length xs ≤ i
get-none [] i e = omega arith
get-none (x ∷ xs) zero e = cc
get-none (x ∷ xs) (suc i) e = let rest : length xs ≤ i = get-none xs i e in omega arith

get-some : {X : Type 0} (xs : List X) (i : ℕ) → i < length xs → (x : X) × (slice_get xs i ≡ Some x)
get-some [] i h = absurd (omega arith)
get-some (x ∷ xs) zero h = (x, refl)
get-some (x ∷ xs) (suc i) h = get-some xs i (omega arith)

pub named-within : (script : Script) (id : ℕ) (P : Option What → Bool) → P None ≡ false → P (what_at script id) ≡ true → id < length script.decls
named-within script id P none e =
    elim (slice_get script.decls id) as (λ o. slice_get script.decls id ≡ o → P (option_map (λ (d : Decl). d.what) o) ≡ true → id < length script.decls) [
      | None ↦ λ q k. absurd (both (P None) none k)
      | Some d ↦ λ q k. slice_get_within script.decls id d q
    ] refl e
  where
    both : (b : Bool) → b ≡ false → b ≡ true → ⊥
    both true e h = cc
    both false e h = cc

or-true : (a b : Bool) → (a ≡ true → ⊥) → (a || b) ≡ true → b ≡ true
or-true true b n e = absurd (n refl)
or-true false b n e = e

pub due-slept : (script : Script) (s : State) (id : ℕ) → length script.decls ≤ id → due_by script s id ≡ sleeps_until s (id - length script.decls)
due-slept script s id h = rw (le-ltb id (length script.decls) h) refl

-- the deadline of a context counts while it has not ended
live-counted : (v : BookView) (id : ℕ) → IsLawful v → deadline_in 0 (context_at v.state id) ≡ live_at v.state id
live-counted v id lawful =
    elim (context_at v.state id) as (λ o. context_at v.state id ≡ o → deadline_in 0 o ≡ (elim o as (λ _. Option ℕ) [ None ↦ None | Some r ↦ live_deadline r ])) [
      | None ↦ λ q. refl
      | Some r ↦ λ q. rw (eq-eqb r.world 0 (lawful.formed.world.contexts id r q)) refl
    ] refl

live-going : (o : Option Context) (w : ℕ) → (elim o as (λ _. Option ℕ) [ None ↦ None | Some r ↦ live_deadline r ]) ≡ Some w
    → is_some (elim o as (λ _. Option End) [ None ↦ None | Some r ↦ r.end ]) ≡ false
live-going None w e = refl
live-going (Some r) w e = by r.end e
  where
    by : (end : Option End) → cond (is_none end) r.own None ≡ Some w → is_some end ≡ false
    by None h = refl
    by (Some end) h = cc

-- ---- a record that needs the heap counts

pub needs-some : (a b : Bool) (w : Option ℕ) → (is_some w && (not a || b)) ≡ true → a ≡ true → b ≡ true
needs-some true b w e h = right-of (is_some w) b e
needs-some false b w e h = cc

or-first : (a b : Bool) → a ≡ true → (a || b) ≡ true
or-first true b e = refl
or-first false b e = cc

or-second : (a b : Bool) → b ≡ true → (a || b) ≡ true
or-second true b e = refl
or-second false b e = e

-- somebody waits at a timer whose record needs the heap
channel-counted : (x : Runner) (id w : ℕ) (r : Rec) → IsLawful x.book → NobodyRuns x.book → ((h : ℕ) → MarkFitsAt x.book.script x.book.state x.book.schedule h)
    → r.id ≡ id → IsWatched x.book x.heap x.noted r → needs_heap r ≡ true → has_channel r.kind ≡ true → kind_by x.book.script id ≡ Some r.kind
    → due_of x.book.state id ≡ Some w → IsCountedBy x.book.script x.book.state id w
channel-counted x id w r lawful nobody fit is watched needs channel kind due =
    let v : BookView = x.book in
    let named : names_timer (what_at v.script id) ≡ true = channel-timer (of_declaration v.script id) r.kind kind channel in
    let within : id < length v.script.decls = named-within v.script id names_timer refl named in
    let blocked : 0 < r.blocked = ltb-true 0 r.blocked (needs-some (has_channel r.kind) (nat_lt 0 r.blocked) r.when needs channel) in
    let count : r.blocked ≡ mark_count v.schedule id = watched.blocked channel ∙ ap (mark_count v.schedule) is in
    let receiver = marked-receiver x id lawful nobody fit (omega arith) in
    timer-counted v.script v.state id w within
    (timer-counts v.script v.state id w lawful.formed (or-second (is_func v.script id) _ (receiver-awaited v id receiver.0 lawful receiver.1)) due)

-- what a record with no value shows that is of a timer, a context or a sleep
record-due : (x : Runner) (id w : ℕ) (r : Rec) → r.id ≡ id → IsWatched x.book x.heap x.noted r → r.when ≡ Some w → id < length x.book.script.decls → (r.kind ≡ RecKind.Deadline → ⊥)
    → due_of x.book.state id ≡ Some w
record-due x id w r is watched at within other =
    let v : BookView = x.book in
    let below : r.id < length v.script.decls = omega arith in
    ap (due_of v.state) (sym is)
    ∙ (sym (shown-due v.script v.state r watched.kept.rec.agrees below (kind-other v.script r.id r.kind watched.kept.rec.agrees.kind other))
    ∙ (shown-when r watched.none_ready watched.none_sent ∙ at))

deadline-needs : (x : Runner) (id w : ℕ) (r : Rec) → IsLawful x.book → r.id ≡ id → IsWatched x.book x.heap x.noted r → r.when ≡ Some w → r.kind ≡ RecKind.Deadline → is_over x.book r ≡ false
    → IsCountedBy x.book.script x.book.state id w
deadline-needs x id w r lawful is watched at kind going =
    let v : BookView = x.book in
    let ctx : is_ctx v.script r.id ≡ true = kind-deadline v.script r.id (watched.kept.rec.agrees.kind ∙ ap Some kind) in
    let goes : has_ended v.state r.id ≡ false = sym (ap (λ k. is_deadline k && has_ended v.state r.id) kind) ∙ going in
    let live : live_at v.state r.id ≡ Some w = sym (shown-own v.script v.state r watched.kept.rec.agrees ctx goes) ∙ (shown-when r watched.none_ready watched.none_sent ∙ at) in
    deadline-counted v.script v.state id w (ctx_declared v.script id (subst (λ id. IsTrue (is_ctx v.script id)) is ctx))
    (live-counted v id lawful ∙ (ap (live_at v.state) (sym is) ∙ live))

pub needs-counted : (x : Runner) (id w : ℕ) (r : Rec) → IsLawful x.book → NobodyRuns x.book → ((h : ℕ) → MarkFitsAt x.book.script x.book.state x.book.schedule h)
    → r.id ≡ id → IsWatched x.book x.heap x.noted r → needs_heap r ≡ true → r.when ≡ Some w → is_over x.book r ≡ false → IsCountedBy x.book.script x.book.state id w
needs-counted x id w r lawful nobody fit is watched needs at going =
    let v : BookView = x.book in
    let kind : kind_by v.script id ≡ Some r.kind = ap (kind_by v.script) (sym is) ∙ watched.kept.rec.agrees.kind in
    elim r.kind as (λ k. r.kind ≡ k → kind_by v.script id ≡ Some k → IsCountedBy v.script v.state id w) [
      | RecKind.Timer ↦ λ q k. timer q k (ap has_channel q) (λ e. let off : RecKind.Timer ≡ RecKind.Deadline = sym q ∙ e in cc)
      | RecKind.Ticker ↦ λ q k. timer q k (ap has_channel q) (λ e. let off : RecKind.Ticker ≡ RecKind.Deadline = sym q ∙ e in cc)
      | RecKind.Func ↦ λ q k.
          let named : names_func (what_at v.script id) ≡ true = kind-func (of_declaration v.script id) k in
          let within : id < length v.script.decls = named-within v.script id names_func refl named in
          let due : due_of v.state id ≡ Some w = record-due x id w r is watched at within (λ e. let off : RecKind.Func ≡ RecKind.Deadline = sym q ∙ e in cc) in
          timer-counted v.script v.state id w within (timer-counts v.script v.state id w lawful.formed (or-first (is_func v.script id) _ named) due)
      | RecKind.Sleep ↦ λ q k.
          let behind : length v.script.decls ≤ id = get-none v.script.decls id (kind-sleep (of_declaration v.script id) k) in
          let past : length v.script.decls ≤ r.id = omega arith in
          let due : sleeps_until v.state (id - length v.script.decls) ≡ Some w =
          ap (λ n. sleeps_until v.state (n - length v.script.decls)) (sym is)
          ∙ (sym (shown-sleep v.script v.state r watched.kept.rec.agrees past) ∙ (shown-when r watched.none_ready watched.none_sent ∙ at)) in
          sleep-counted v.script v.state id w behind (sleep-counts v.script v.state (id - length v.script.decls) w lawful.formed due)
      | RecKind.Deadline ↦ λ q k. deadline-needs x id w r lawful is watched at q going
    ] refl kind
  where
    timer : {k : RecKind} → r.kind ≡ k → kind_by x.book.script id ≡ Some k → has_channel r.kind ≡ true → (r.kind ≡ RecKind.Deadline → ⊥) → IsCountedBy x.book.script x.book.state id w
    timer q k channel other =
        let kind : kind_by x.book.script id ≡ Some r.kind = k ∙ ap Some (sym q) in
        let named : names_timer (what_at x.book.script id) ≡ true = channel-timer (of_declaration x.book.script id) r.kind kind channel in
        let within : id < length x.book.script.decls = named-within x.book.script id names_timer refl named in
        channel-counted x id w r lawful nobody fit is watched needs channel kind (record-due x id w r is watched at within other)

-- ---- a time that counts is shown by a record that needs the heap

pub record Needing (x : Runner) (id w : ℕ) : Type 0 where
  pub rec : Rec
  pub there : slice_get x.records.items id ≡ Some rec
  pub id_is : rec.id ≡ id
  pub watched : IsWatched x.book x.heap x.noted rec
  pub needs : needs_heap rec ≡ true
  pub when_is : rec.when ≡ Some w

-- a record that shows a time
shows-needing : (x : Runner) (id w : ℕ) (r : Rec) → slice_get x.records.items id ≡ Some r → r.id ≡ id → IsWatched x.book x.heap x.noted r → shown r ≡ Some w
    → (has_channel r.kind ≡ true → 0 < r.blocked) → Needing x id w
shows-needing x id w r there is watched due waited =
    let at : r.when ≡ Some w = sym (shown-when r watched.none_ready watched.none_sent) ∙ due in
    record {
      rec = r;
      there = there;
      id_is = is;
      watched = watched;
      needs = needs at (has_channel r.kind) refl;
      when_is = at;
    }
  where
    needs : r.when ≡ Some w → (c : Bool) → has_channel r.kind ≡ c → needs_heap r ≡ true
    needs at true e = rw (at, e, lt-ltb 0 r.blocked (waited e)) refl
    needs at false e = rw (at, e) refl

not-named : (o : Option Decl) → (elim o as (λ _. Option RecKind) [ None ↦ Some RecKind.Sleep | Some decl ↦ kind_of_what decl.what ]) ≡ None
    → (names_func (option_map (λ (d : Decl). d.what) o) ≡ false) × (names_timer (option_map (λ (d : Decl). d.what) o) ≡ false)
not-named None e = cc
not-named (Some decl) e = of_what decl.what e
  where
    of_what : (w : What) → kind_of_what w ≡ None → (names_func (Some w) ≡ false) × (names_timer (Some w) ≡ false)
    of_what What.Timer e = cc
    of_what What.Ticker e = cc
    of_what (What.AfterFunc f) e = cc
    of_what (What.Chan cap) e = (refl, refl)
    of_what What.Mutex e = (refl, refl)
    of_what What.Wg e = (refl, refl)
    of_what (What.Cond mutex) e = (refl, refl)
    of_what (What.Ctx parent form) e = cc
    of_what (What.Hook ctx func) e = (refl, refl)
    of_what What.Error e = (refl, refl)
    of_what What.Function e = (refl, refl)

neither : (a b : Bool) → (a || b) ≡ true → a ≡ false → b ≡ false → ⊥
neither true b h p q = cc
neither false b h p q = both-ways b h q

func-not_timer : (o : Option What) → names_func o ≡ true → names_timer o ≡ true → ⊥
func-not_timer None e h = cc
func-not_timer (Some What.Timer) e h = cc
func-not_timer (Some What.Ticker) e h = cc
func-not_timer (Some (What.AfterFunc f)) e h = cc
func-not_timer (Some (What.Chan cap)) e h = cc
func-not_timer (Some What.Mutex) e h = cc
func-not_timer (Some What.Wg) e h = cc
func-not_timer (Some (What.Cond mutex)) e h = cc
func-not_timer (Some (What.Ctx parent form)) e h = cc
func-not_timer (Some (What.Hook ctx func)) e h = cc
func-not_timer (Some What.Error) e h = cc
func-not_timer (Some What.Function) e h = cc

setting-no_ctx : (o : Option What) → (names_timer o || names_func o) ≡ true → names_ctx o ≡ false
setting-no_ctx (Some (What.Ctx parent form)) h = cc
setting-no_ctx _ h = refl

-- the record of a declaration
record Declared (x : Runner) (id : ℕ) : Type 0 where
  rec : Rec
  there : slice_get x.records.items id ≡ Some rec
  at : IsAt x.book x.heap x.noted id rec

declared-rec : (x : Runner) (id : ℕ) → IsServed x → id < length x.book.script.decls → Declared x id
declared-rec x id served within =
    let declared : length x.book.script.decls ≤ length x.records.items = served.tended.declared in
    let found = get-some x.records.items id (omega arith) in
    record { rec = found.0; there = found.1; at = subst (AtNumber x.book x.heap x.noted id) found.1 (served.tended.at id) }

declared-needing : (x : Runner) (id w : ℕ) → IsLawful x.book → NobodyRuns x.book → IsServed x → id < length x.book.script.decls → Counts x.book.script x.book.state id w → Needing x id w
declared-needing x id w lawful nobody served within c =
    let v : BookView = x.book in
    let d : Declared x id = declared-rec x id served within in
    let setting : is_setting v.script id ≡ true = due-setting v id w lawful c.due in
    elim (kind_by v.script id) as (λ o. kind_by v.script id ≡ o → AtKind x.book x.heap x.noted id d.rec o → Needing x id w) [
      | None ↦ λ q k.
          let none = not-named (of_declaration v.script id) q in
          absurd (neither (is_timer v.script id) (is_func v.script id) setting none.1 none.0)
      | Some kind ↦ λ q k.
          let below : d.rec.id < length v.script.decls = (let is : d.rec.id ≡ id = d.at.id_is in omega arith) in
          let other : is_ctx v.script d.rec.id ≡ false = ap (is_ctx v.script) d.at.id_is ∙ setting-no_ctx (what_at v.script id) setting in
          let due : shown d.rec ≡ Some w = shown-due v.script v.state d.rec k.kept.rec.agrees below other ∙ (ap (due_of v.state) d.at.id_is ∙ c.due) in
          shows-needing x id w d.rec d.there d.at.id_is k due (λ channel.
          let kind_is : kind_by v.script id ≡ Some d.rec.kind = ap (kind_by v.script) (sym d.at.id_is) ∙ k.kept.rec.agrees.kind in
          let timer : names_timer (what_at v.script id) ≡ true = channel-timer (of_declaration v.script id) d.rec.kind kind_is channel in
          let awaited : is_awaited v.script v.state 0 id ≡ true = or-true (is_func v.script id) _ (λ e. func-not_timer (what_at v.script id) e timer) c.counts in
          let receiver = awaited-receiver v.script v.state id awaited in
          let some : 0 < mark_count v.schedule id = receiver-marked x id receiver.0 lawful nobody served.marks timer receiver.1 in
          let count : d.rec.blocked ≡ mark_count v.schedule id = k.blocked channel ∙ ap (mark_count v.schedule) d.at.id_is in
          omega arith)
    ] refl d.at.watched

-- the kind of a context's record
what-ctx : (what : What) → names_ctx (Some what) ≡ true → kind_of_what what ≡ Some RecKind.Deadline
what-ctx (What.Ctx parent form) h = refl
what-ctx _ h = cc

pub ctx-kind : (script : Script) (id : ℕ) → is_ctx script id ≡ true → kind_by script id ≡ Some RecKind.Deadline
ctx-kind script id h =
    elim (slice_get script.decls id) as (λ o. names_ctx (option_map (λ (d : Decl). d.what) o) ≡ true
    → (elim o as (λ _. Option RecKind) [ None ↦ Some RecKind.Sleep | Some decl ↦ kind_of_what decl.what ]) ≡ Some RecKind.Deadline) [
      | None ↦ λ k. cc
      | Some d ↦ λ k. what-ctx d.what k
    ] h

made-some : (o : Option Context) (w : ℕ) → deadline_in 0 o ≡ Some w → (r : Context) × (o ≡ Some r)
made-some None w e = cc
made-some (Some r) w e = (r, refl)

deadline-needing : (x : Runner) (id w : ℕ) → IsLawful x.book → IsServed x → id < length x.book.script.decls → deadline_in 0 (context_at x.book.state id) ≡ Some w → Needing x id w
deadline-needing x id w lawful served within e =
    let v : BookView = x.book in
    let d : Declared x id = declared-rec x id served within in
    let made = made-some (context_at v.state id) w e in
    let ctx : is_ctx v.script id ≡ true = (lawful.formed.ctxs id made.0 made.1).named in
    let watched : IsWatched x.book x.heap x.noted d.rec = subst (AtKind x.book x.heap x.noted id d.rec) (ctx-kind v.script id ctx) d.at.watched in
    let live : live_at v.state id ≡ Some w = sym (live-counted v id lawful) ∙ e in
    let going : has_ended v.state d.rec.id ≡ false = ap (has_ended v.state) d.at.id_is ∙ live-going (context_at v.state id) w live in
    let shows : shown d.rec ≡ Some w =
    shown-own v.script v.state d.rec watched.kept.rec.agrees (ap (is_ctx v.script) d.at.id_is ∙ ctx) going ∙ (ap (live_at v.state) d.at.id_is ∙ live) in
    let same : Some d.rec.kind ≡ Some RecKind.Deadline = sym watched.kept.rec.agrees.kind ∙ (ap (kind_by v.script) d.at.id_is ∙ ctx-kind v.script id ctx) in
    let kind : d.rec.kind ≡ RecKind.Deadline = cc in
    shows-needing x id w d.rec d.there d.at.id_is watched shows (λ channel. absurd (both-ways (has_channel d.rec.kind) channel (ap has_channel kind)))

slept-needing : (x : Runner) (id w : ℕ) → IsServed x → length x.book.script.decls ≤ id → sleeps_until x.book.state (id - length x.book.script.decls) ≡ Some w → Needing x id w
slept-needing x id w served behind e =
    let v : BookView = x.book in
    elim (slice_get x.records.items id) as (λ o. slice_get x.records.items id ≡ o → AtNumber x.book x.heap x.noted id o → Needing x id w) [
      | None ↦ λ q k. (let off : ◌≡◌ {A = Option ℕ} None (Some w) = sym k.0 ∙ (due-slept v.script v.state id behind ∙ e) in cc)
      | Some r ↦ λ q k.
          let none : slice_get v.script.decls id ≡ None = past v.script.decls id behind in
          let kind : kind_by v.script id ≡ Some RecKind.Sleep = ap (λ (o : Option Decl). elim o as (λ _. Option RecKind) [ None ↦ Some RecKind.Sleep | Some decl ↦ kind_of_what decl.what ]) none in
          let watched : IsWatched x.book x.heap x.noted r = subst (AtKind x.book x.heap x.noted id r) kind k.watched in
          let sleeps : r.kind ≡ RecKind.Sleep = (let own : kind_by v.script r.id ≡ Some r.kind = watched.kept.rec.agrees.kind in let same : kind_by v.script r.id ≡ kind_by v.script id = ap (kind_by v.script) k.id_is in cc) in
          let beyond : length v.script.decls ≤ r.id = (let is : r.id ≡ id = k.id_is in omega arith) in
          let due : shown r ≡ Some w = shown-sleep v.script v.state r watched.kept.rec.agrees beyond ∙ (ap (λ n. sleeps_until v.state (n - length v.script.decls)) k.id_is ∙ e) in
          shows-needing x id w r q k.id_is watched due (λ channel. absurd (both-ways (has_channel r.kind) channel (ap has_channel sleeps)))
    ] refl (served.tended.at id)
  where
    past : {X : Type 0} (xs : List X) (i : ℕ) → length xs ≤ i → slice_get xs i ≡ None
    past [] i h = refl
    past (x ∷ xs) zero h = absurd (omega arith)
    past (x ∷ xs) (suc i) h = past xs i (omega arith)

pub counted-needing : (x : Runner) (id w : ℕ) → IsLawful x.book → NobodyRuns x.book → IsServed x → IsCountedBy x.book.script x.book.state id w → Needing x id w
counted-needing x id w lawful nobody served e =
    let v : BookView = x.book in
    elim (nat_lt id (length v.script.decls)) as (λ b. nat_lt id (length v.script.decls) ≡ b → Needing x id w) [
      | true ↦ λ q.
          let within : id < length v.script.decls = ltb-true id (length v.script.decls) q in
          elim (counted-declared v.script v.state id w within e) [
            | inl timer ↦ declared-needing x id w lawful nobody served within (counts-timer v.script v.state id w timer)
            | inr own ↦ deadline-needing x id w lawful served within own
          ]
      | false ↦ λ q.
          let behind : length v.script.decls ≤ id = ltb-false id (length v.script.decls) q in
          slept-needing x id w served behind (counts-sleep v.state (id - length v.script.decls) w (counted-slept v.script v.state id w behind e))
    ] refl
