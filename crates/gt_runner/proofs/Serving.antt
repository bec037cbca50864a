-- The head whose time has come is served: one entry is made, and the run is tended as before.
use Rattle.std.proofs.Common.{◌≡◌, ◌≢◌, ℕ, zero, suc, ◌+◌, ◌-◌, ◌<◌, ◌≤◌, nat_lt, nat_le, if◌then◌else◌, List, [], ◌∷◌, length, set, slice_get, refl, sym, ap, subst, ◌∙◌, arith, Option, None, Some, IsSome, IsSomeAnd, MatchOption, Bool, true, false, not, ◌&&◌, ◌||◌, is_some, is_none, eq-eqb, unwrap_or, ◌==◌, inl, inr}
use Rattle.std.specs.Option.{option_or, option_map, option_and_then}
use Rattle.std.proofs.lemmas.Bool.{le-ltb, le-leb, ltb-true, eqb-true}
use Rattle.gt_model.specs.declared.script.CaseKind.{CaseKind}
use Rattle.gt_model.specs.declared.entry.Entry.{Entry}
use Rattle.gt_model.specs.declared.entry.Party.{Party}
use Rattle.gt_model.specs.declared.entry.Outcome.{Outcome}
use Rattle.gt_rules.specs.Contexts.{start_count}
use Rattle.gt_rules.specs.State.{clock, sleeps_until, next_number, has_ended}
use Rattle.gt_rules.specs.Legal.{operation_at}
use Rattle.gt_rules.specs.Operations.{receives_from}
use Rattle.gt_rules.specs.Change.{change_of}
use Rattle.gt_rules.specs.History.{ClockJumps}
use Rattle.gt_facts.proofs.Lookups.{AtOperation, at_operation}
use Rattle.gt_rec.specs.declared.RecKind.{RecKind}
use Rattle.gt_rec.specs.Ticks.{next_tick, due_left}
use Rattle.gt_rec.specs.Rec.{Rec, needs_heap, has_channel, in_flight, due_of_send, shown, is_awaited}
use Rattle.gt_rec.specs.Changes.{disarmed, out_of_heap, rekeyed, begun, send_begun, ended, received}
use Rattle.gt_lazy.specs.Slots.{LazyHeap, Scans}
use Rattle.gt_lazy.specs.Running.{is_stale, head_answer, head_run, due_answer, run_as, send_answer}
use Rattle.gt_lazy.specs.declared.answer.Ran.{Ran}
use Rattle.gt_rows.specs.declared.answers.HeadDone.{HeadDone}
use Rattle.gt_rows.specs.declared.answers.Delivered.{Delivered}
use Rattle.gt_rows.specs.Lent.{IsKept, IsLentRec}
use Rattle.gt_rows.specs.Rows.{Pair, Parts, Answers, HeadRow, HeadBy, FiresAs, ExpiresBy, Fires, Runs, DeliverRow, DeliversBy, DeliversTo, Gives}
use Rattle.gt_schedule.specs.Counts.{as_number, often}
use Rattle.gt_schedule.specs.Schedule.{status_of, is_parked, parties_at, mark_count, Served}
use Rattle.gt_book.specs.View.{BookView, Enters, IsLawful, outcome_of, is_at, wants, is_parked_at}
use Rattle.gt_book.proofs.Wanting.{wants-receives}
use Rattle.gt_model.specs.Script.{is_timer, is_chan, is_endable}
use Rattle.gt_book.proofs.Fitting.{first-waiting, asleep-parked}
use Rattle.gt_book.proofs.Going.{parked-goes}
use Rattle.gt_runner.specs.declared.runner.Runner.{Runner}
use Rattle.gt_runner.specs.Served.{IsWatched, is_heaped}
use Rattle.gt_runner.specs.Serves.{IsIdleRun, IsDueHead, Passing}
use Rattle.gt_runner.specs.Settled.{is_deadline, is_over}
use Rattle.gt_runner.proofs.Fitting.{fit-enters, named-enters}
use Rattle.gt_runner.proofs.Leaving.{Leaves}
use Rattle.gt_runner.proofs.Tending.{tended-touched}
use Rattle.gt_runner.proofs.Touching.{IsNoted, needs-nothing, note-same, rests-touches}
use Rattle.gt_model.specs.Script.{what_at, names_timer}
use Rattle.gt_facts.proofs.Lookups.{sleeper}
use Rattle.gt_rows.specs.Agrees.{kind_by, of_declaration}
use Rattle.gt_rows.proofs.Tickers.{shown-sleep}
use Rattle.gt_runner.proofs.Watching.{marked-receiver, receiver-parked}
use Rattle.gt_runner.proofs.Needing.{shown-when, kind-sleep, channel-timer, get-none, needs-some, named-within}
use Rattle.gt_runner.proofs.Calling.{stands-awake}
use Rattle.gt_runner.proofs.Waiting.{placed-same}
use Rattle.gt_runner.proofs.Passes.{moves-enters}

-- ---- what is known of a head whose time has come

left-false : (a b : Bool) → (a || b) ≡ false → a ≡ false
left-false true b e = cc
left-false false b e = refl

right-false : (a b : Bool) → (a || b) ≡ false → b ≡ false
right-false true b e = cc
right-false false b e = e

not-false : (b : Bool) → false ≡ not b → b ≡ true
not-false true e = refl
not-false false e = cc

pub head-needs : (x : Runner) (id : ℕ) → (d : IsDueHead x id) → needs_heap d.rec ≡ true
head-needs x id d =
    let heaped : IsSome d.rec.heaped = ap is_some d.stands.heaped in
    let zombie : d.rec.zombie ≡ false = right-false d.rec.modified d.rec.zombie d.fresh in
    not-false (needs_heap d.rec) (sym zombie ∙ d.watched.kept.rec.bits.zombie heaped)

pub head-when : (x : Runner) (id : ℕ) → (d : IsDueHead x id) → d.rec.when ≡ Some d.rec.key
head-when x id d =
    let heaped : IsSome d.rec.heaped = ap is_some d.stands.heaped in
    d.watched.kept.rec.bits.key heaped (left-false d.rec.modified d.rec.zombie d.fresh) (right-false d.rec.modified d.rec.zombie d.fresh)

answer-due : (r : Rec) (now : ℕ) → is_stale r ≡ false → r.key ≤ now → head_answer r now ≡ due_answer r now
answer-due r now fresh come =
    ap (λ b. if b then Ran.Stale else (if nat_lt now r.key then Ran.NotDue r.key else due_answer r now)) fresh
    ∙ ap (λ b. if b then Ran.NotDue r.key else due_answer r now) (le-ltb now r.key come)

run-due : (r : Rec) (now : ℕ) → is_stale r ≡ false → r.key ≤ now → head_run r now ≡ run_as r.kind r now
run-due r now fresh come =
    ap (λ b. if b then Rattle.gt_lazy.specs.Cleaning.cleaned r else (if nat_lt now r.key then r else run_as r.kind r now)) fresh
    ∙ ap (λ b. if b then r else run_as r.kind r now) (le-ltb now r.key come)

-- ---- an entry after which the head was run

pub record RunsHead (x x' : Runner) (id : ℕ) (r r1 r' : Rec) (e : Entry) : Type 0 where
  pub there : slice_get x.records.items id ≡ Some r
  pub id_is : r.id ≡ id
  pub watched : IsWatched x.book x.heap x.noted r
  pub heaped : r.heaped ≡ Some x.heap.number
  pub records_are : x'.records.items ≡ set x.records.items id r'
  pub spare : x'.records.spare ≡ x.records.spare
  pub noted_is : x'.noted ≡ x.noted
  pub enters : Enters x.book e x'.book
  pub leaves : (j : ℕ) → j ≢ id → Leaves x.book (change_of e) j
  pub scans : Scans x.heap x'.heap 0 r r1
  -- it has left the heap, or is there still
  pub stays : IsSome r1.heaped → r1.heaped ≡ r.heaped
  pub kept : IsKept x'.book x'.heap r'
  pub same_id : r'.id ≡ r.id
  pub same_kind : r'.kind ≡ r.kind
  pub same_blocked : r'.blocked ≡ r.blocked
  pub same_heaped : r'.heaped ≡ r1.heaped
  pub needs : needs_heap r' ≡ true → IsNoted x'.noted r'
  pub none_ready : r'.ready ≡ None
  pub none_sent : r'.sending ≡ None
  pub served : Served x.book.schedule e
  pub clock : ClockJumps x.book.script 0 x.book.state e

none-some : (o : Option ℕ) → o ≡ None → IsSome o → ⊥
none-some None e h = cc
none-some (Some q) e h = cc

room-scanned : (out : Bool) (was now before after : ℕ) → was ≡ 1 → now ≡ as_number out → after ≡ before + (if out then 0 else 1) → after + now ≡ before + was
room-scanned true was now before after a b c = let one : now ≡ 1 = b in omega arith
room-scanned false was now before after a b c = let none : now ≡ 0 = b in omega arith

pub runs-passing : (x x' : Runner) (id : ℕ) (r r1 r' : Rec) (e : Entry) → IsIdleRun x → RunsHead x x' id r r1 r' e → Passing x x'
runs-passing x x' id r r1 r' e idle c = record {
  moves = moves-enters x.book e x'.book idle.lawful c.enters c.clock idle.nobody.hands;
  served = λ _. record {
    tended = tended-touched x x' id r r' idle.served.tended (rests-touches x x' id r r' e idle.lawful (record {
      there = c.there;
      id_is = c.id_is;
      watched = c.watched;
      records_are = c.records_are;
      spare = c.spare;
      notes = note-same x.noted x'.noted c.noted_is;
      enters = c.enters;
      leaves = c.leaves;
      slots = λ j n. c.scans.entries.others j (λ e. n (e ∙ c.id_is));
      number_is = c.scans.number;
      room = room-scanned (is_some r1.heaped) (as_number (is_heaped r)) (as_number (is_heaped r')) x.heap.spare x'.heap.spare
          (ap (λ o. as_number (is_some o)) c.heaped) (ap (λ o. as_number (is_some o)) c.same_heaped) c.scans.spare;
      kept = c.kept;
      same_id = c.same_id;
      same_kind = c.same_kind;
      same_blocked = c.same_blocked;
      inside = λ some. c.same_heaped ∙ (c.stays (subst IsSome c.same_heaped some) ∙ (c.heaped ∙ ap Some (sym c.scans.number)));
      needs = c.needs;
      none_ready = c.none_ready;
      none_sent = c.none_sent;
    }));
    marks = fit-enters x.book e x'.book idle.lawful idle.marks_many c.enters c.served idle.served.marks;
    named = named-enters x.book e x'.book c.enters idle.served.named;
  };
}

-- ---- a function starts, and a sleep ends

by-running : (b : BookView) (over : Outcome → HeadDone) (reply : HeadDone) (Same Row : Type 0) → outcome_of b ≡ None
    → Rattle.gt_rows.specs.Rows.UnlessOver b over reply Same Row → Row
by-running b over reply Same Row none h = subst (λ (o : Option Outcome). MatchOption o Row (λ outcome. (reply ≡ over outcome) × Same)) none h

plain-answer : (r : Rec) (now : ℕ) → has_channel r.kind ≡ false → is_stale r ≡ false → r.key ≤ now → head_answer r now ≡ Ran.Fired r.key r.seq None
plain-answer r now plain fresh come =
    answer-due r now fresh come ∙ ap (λ b. if b then send_answer (send_begun r) (begun r now).when else Ran.Fired r.key r.seq None) plain

fires-passing : (x x' : Runner) (id : ℕ) (d : IsDueHead x id) (r r' : Rec) (e : Entry) (reply : HeadDone) → IsIdleRun x → d.rec ≡ r → slice_get x.records.items id ≡ Some r
    → x'.records.items ≡ set x.records.items id r' → x'.records.spare ≡ x.records.spare → x'.noted ≡ x.noted
    → Fires (record { heap = x.heap; rec = r; book = x.book }) e (record { heap = x'.heap; rec = r'; book = x'.book }) reply → IsKept x'.book x'.heap r'
    → run_as r.kind r (clock x.book.state 0) ≡ out_of_heap (disarmed r)
    → ((j : ℕ) → j ≢ id → Leaves x.book (change_of e) j) → Served x.book.schedule e → ClockJumps x.book.script 0 x.book.state e → Passing x x'
fires-passing x x' id d r r' e reply idle is there records_are spare noted_is fires kept runs leaves served jumps =
    let now : ℕ = clock x.book.state 0 in
    let stale : is_stale r ≡ false = subst (λ r. is_stale r ≡ false) is d.fresh in
    let come : r.key ≤ now = subst (λ (r : Rec). r.key ≤ now) is d.come in
    let rec_is : r' ≡ out_of_heap (disarmed r) = fires.rec ∙ (run-due r now stale come ∙ runs) in
    runs-passing x x' id r r' r' e idle (record {
      there = there;
      id_is = subst (λ (r : Rec). r.id ≡ id) is d.id_is;
      watched = subst (IsWatched x.book x.heap x.noted) is d.watched;
      heaped = subst (λ (r : Rec). r.heaped ≡ Some x.heap.number) is d.stands.heaped;
      records_are = records_are;
      spare = spare;
      noted_is = noted_is;
      enters = fires.entered;
      leaves = leaves;
      scans = fires.scans;
      stays = λ some. absurd (none-some r'.heaped (ap (λ (r : Rec). r.heaped) rec_is) some);
      kept = kept;
      same_id = ap (λ (r : Rec). r.id) rec_is;
      same_kind = ap (λ (r : Rec). r.kind) rec_is;
      same_blocked = ap (λ (r : Rec). r.blocked) rec_is;
      same_heaped = refl;
      needs = needs-nothing x'.noted r' (ap needs_heap rec_is);
      none_ready = ap (λ (r : Rec). r.ready) rec_is;
      none_sent = ap (λ (r : Rec). r.sending) rec_is;
      served = served;
      clock = jumps;
    })

-- ---- by what the head was

-- the send of a timer that has no value begins
timer-begins : (r : Rec) (key : ℕ) → r.ready ≡ None → r.sending ≡ None → r.when ≡ Some key → send_begun r ≡ Some (r.seq, key)
timer-begins r key ready sent at =
    let none_flying : in_flight r ≡ None = ap (λ o. due_of_send o r.seq) sent in
    ap (λ o. if is_some o || is_some (in_flight r) then None else option_map (λ due. (r.seq, due)) r.when) ready
    ∙ (ap (λ o. if is_some o then None else option_map (λ due. (r.seq, due)) r.when) none_flying
    ∙ ap (option_map (λ due. (r.seq, due))) at)

timer-answer : (r : Rec) (now key : ℕ) → has_channel r.kind ≡ true → is_stale r ≡ false → r.key ≤ now → r.ready ≡ None → r.sending ≡ None → r.when ≡ Some key
    → head_answer r now ≡ Ran.Fired key r.seq (begun r now).when
timer-answer r now key channel fresh come ready sent at =
    answer-due r now fresh come
    ∙ (ap (λ b. if b then send_answer (send_begun r) (begun r now).when else Ran.Fired r.key r.seq None) channel
    ∙ ap (λ o. send_answer o (begun r now).when) (timer-begins r key ready sent at))

abbrev parts : Runner → Rec → Parts
parts x r = record { heap = x.heap; rec = r; book = x.book }

head-by : (x x' : Runner) (r r' : Rec) (reply : HeadDone) (ran : Ran) → IsIdleRun x → HeadRow (parts x r) (parts x' r') reply → head_answer r (clock x.book.state 0) ≡ ran
    → HeadBy (parts x r) (parts x' r') reply ran
head-by x x' r r' reply ran idle row is =
    subst (HeadBy (parts x r) (parts x' r') reply) is
    (by-running x.book HeadDone.Over reply (parts x' r' ≡ parts x r) (HeadBy (parts x r) (parts x' r') reply (head_answer r (clock x.book.state 0))) idle.running row)

-- what is known of the record at the head
pub record Due (x : Runner) (id : ℕ) (r : Rec) : Type 0 where
  pub head : IsDueHead x id
  pub is : head.rec ≡ r
  pub id_is : r.id ≡ id
  pub watched : IsWatched x.book x.heap x.noted r
  pub heaped : r.heaped ≡ Some x.heap.number
  pub fresh : is_stale r ≡ false
  pub going : is_over x.book r ≡ false
  pub come : r.key ≤ clock x.book.state 0
  pub at : r.when ≡ Some r.key
  pub needs : needs_heap r ≡ true

pub due-item : (x : Runner) (id : ℕ) (r : Rec) → IsDueHead x id → slice_get x.records.items id ≡ Some r → Due x id r
due-item x id r d there =
    let is : d.rec ≡ r = (let own = d.there in cc) in
    record {
      head = d;
      is = is;
      id_is = subst (λ (r : Rec). r.id ≡ id) is d.id_is;
      watched = subst (IsWatched x.book x.heap x.noted) is d.watched;
      heaped = subst (λ (r : Rec). r.heaped ≡ Some x.heap.number) is d.stands.heaped;
      fresh = subst (λ r. is_stale r ≡ false) is d.fresh;
      going = subst (λ r. is_over x.book r ≡ false) is d.going;
      come = subst (λ (r : Rec). r.key ≤ clock x.book.state 0) is d.come;
      at = subst (λ (r : Rec). r.when ≡ Some r.key) is (head-when x id d);
      needs = subst (λ r. needs_heap r ≡ true) is (head-needs x id d);
    }

-- a context comes to its deadline: it has not ended, as its record is not over
head-expires : (x x' : Runner) (id : ℕ) (r r' : Rec) (reply : HeadDone) → Due x id r → r.kind ≡ RecKind.Deadline
    → ExpiresBy (parts x r) (parts x' r') reply (has_ended x.book.state r.id) → Fires (parts x r) (Entry.Expire r.id (start_count x.book.script x.book.state r.id)) (parts x' r') reply
head-expires x x' id r r' reply d kind h =
    let going : has_ended x.book.state r.id ≡ false = sym (ap (λ k. is_deadline k && has_ended x.book.state r.id) kind) ∙ d.going in
    subst (ExpiresBy (parts x r) (parts x' r') reply) going h

func-leaves : (v : BookView) (t child j : ℕ) → t ≢ j → Leaves v (change_of (Entry.FireFunc t child)) j
func-leaves v t child j n = record { timer = n; mover = tt; partner = tt; tree = tt }

wake-leaves : (v : BookView) (g j : ℕ) → length v.script.decls + g ≢ j → Leaves v (change_of (Entry.Wake g)) j
wake-leaves v g j n = record { timer = tt; mover = inl n; partner = tt; tree = tt }

sleep-served : (x : Runner) (id : ℕ) (r : Rec) → IsIdleRun x → Due x id r → r.kind ≡ RecKind.Sleep
    → (length x.book.script.decls + (r.id - length x.book.script.decls) ≡ id) × (is_parked (status_of x.book.schedule (r.id - length x.book.script.decls)) ≡ true)
sleep-served x id r idle d kind =
    let n : ℕ = length x.book.script.decls in
    let behind : n ≤ id = get-none x.book.script.decls id (kind-sleep (of_declaration x.book.script id)
    (ap (kind_by x.book.script) (sym d.id_is) ∙ (d.watched.kept.rec.agrees.kind ∙ ap Some kind))) in
    let id_is : r.id ≡ id = d.id_is in
    let sleeps : sleeps_until x.book.state (r.id - n) ≡ Some r.key =
    sym (shown-sleep x.book.script x.book.state r d.watched.kept.rec.agrees (omega arith)) ∙ (shown-when r d.watched.none_ready d.watched.none_sent ∙ d.at) in
    let asleep = sleeper x.book.state (r.id - n) (λ until. until ≡ r.key) (subst (λ o. IsSomeAnd o (λ until. until ≡ r.key)) (sym sleeps) refl) in
    (omega arith, asleep-parked x.book.script x.book.state x.book.schedule (r.id - n) idle.lawful.fits asleep)

pub heads-passing : (x x' : Runner) (id : ℕ) (r r' : Rec) (reply : HeadDone) → IsIdleRun x → Due x id r → slice_get x.records.items id ≡ Some r
    → x'.records.items ≡ set x.records.items id r' → x'.records.spare ≡ x.records.spare → x'.noted ≡ x.noted → HeadRow (parts x r) (parts x' r') reply → IsKept x'.book x'.heap r'
    → ((seq : ℕ) → reply ≡ HeadDone.Send seq → ⊥) → Passing x x'
heads-passing x x' id r r' reply idle d there records_are spare noted_is row kept other =
    let now : ℕ = clock x.book.state 0 in
    let plain : has_channel r.kind ≡ false → HeadBy (parts x r) (parts x' r') reply (Ran.Fired r.key r.seq None) = λ c.
    head-by x x' r r' reply (Ran.Fired r.key r.seq None) idle row (plain-answer r now c d.fresh d.come) in
    let sent : has_channel r.kind ≡ true → HeadBy (parts x r) (parts x' r') reply (Ran.Fired r.key r.seq (begun r now).when) = λ c.
    head-by x x' r r' reply (Ran.Fired r.key r.seq (begun r now).when) idle row (timer-answer r now r.key c d.fresh d.come d.watched.none_ready d.watched.none_sent d.at) in
    elim r.kind as (λ k. r.kind ≡ k → Passing x x') [
      | RecKind.Func ↦ λ k.
          let fires = subst (FiresAs (parts x r) r.seq (parts x' r') reply) k (plain (ap has_channel k)) in
          fires-passing x x' id d.head r r' _ reply idle d.is there records_are spare noted_is fires kept (ap (λ k. run_as k r now) k)
          (λ j n. func-leaves x.book r.id (next_number x.book.state) j (λ e. n (sym e ∙ d.id_is))) (tt, tt) tt
      | RecKind.Sleep ↦ λ k.
          let fires = subst (FiresAs (parts x r) r.seq (parts x' r') reply) k (plain (ap has_channel k)) in
          let served = sleep-served x id r idle d k in
          fires-passing x x' id d.head r r' _ reply idle d.is there records_are spare noted_is fires kept (ap (λ k. run_as k r now) k)
          (λ j n. wake-leaves x.book (r.id - length x.book.script.decls) j (λ e. n (sym e ∙ served.0))) (parked-goes (status_of x.book.schedule (r.id - length x.book.script.decls)) served.1, tt) tt
      | RecKind.Timer ↦ λ k. (let runs = subst (FiresAs (parts x r) r.seq (parts x' r') reply) k (sent (ap has_channel k)) in absurd (other r.seq runs.answer))
      | RecKind.Ticker ↦ λ k. (let runs = subst (FiresAs (parts x r) r.seq (parts x' r') reply) k (sent (ap has_channel k)) in absurd (other r.seq runs.answer))
      | RecKind.Deadline ↦ λ k.
          let fires = head-expires x x' id r r' reply d k (subst (FiresAs (parts x r) r.seq (parts x' r') reply) k (plain (ap has_channel k))) in
          fires-passing x x' id d.head r r' _ reply idle d.is there records_are spare noted_is fires kept (ap (λ k. run_as k r now) k)
          (λ j n. record { timer = tt; mover = tt; partner = tt; tree = tt }) (tt, tt) tt
    ] refl

-- ---- a timer's send is delivered at once

-- only a timer that gives values begins a send
pub record Sends (x : Runner) (b1 : BookView) (h1 : LazyHeap) (r r1 : Rec) (seq : ℕ) : Type 0 where
  pub channel : has_channel r.kind ≡ true
  pub book_is : b1 ≡ x.book
  pub rec_is : r1 ≡ run_as r.kind r (clock x.book.state 0)
  pub scans : Scans x.heap h1 0 r r1
  pub seq_is : seq ≡ r.seq

not-fired : (b : BookView) (reply : HeadDone) (seq : ℕ) → Answers b HeadDone.Over reply HeadDone.Fired → reply ≡ HeadDone.Send seq → ⊥
not-fired b reply seq h e =
    elim (outcome_of b) as (λ o. MatchOption o (reply ≡ HeadDone.Fired) (λ outcome. reply ≡ HeadDone.Over outcome) → ⊥) [
      | None ↦ λ k. cc
      | Some outcome ↦ λ k. cc
    ] h

runs-sends : (x x' : Runner) (id : ℕ) (r r' : Rec) (reply : HeadDone) (seq : ℕ) → Due x id r → has_channel r.kind ≡ true → Runs (parts x r) (parts x' r') reply (HeadDone.Send r.seq)
    → reply ≡ HeadDone.Send seq → Sends x x'.book x'.heap r r' seq
runs-sends x x' id r r' reply seq d channel runs e =
    let answer : reply ≡ HeadDone.Send r.seq = runs.answer in
    record {
      channel = channel;
      book_is = runs.book;
      rec_is = runs.rec ∙ run-due r (clock x.book.state 0) d.fresh d.come;
      scans = runs.scans;
      seq_is = cc;
    }

pub head-sends : (x x' : Runner) (id : ℕ) (r r' : Rec) (reply : HeadDone) (seq : ℕ) → IsIdleRun x → Due x id r → HeadRow (parts x r) (parts x' r') reply → reply ≡ HeadDone.Send seq
    → Sends x x'.book x'.heap r r' seq
head-sends x x' id r r' reply seq idle d row e =
    let now : ℕ = clock x.book.state 0 in
    let plain : has_channel r.kind ≡ false → HeadBy (parts x r) (parts x' r') reply (Ran.Fired r.key r.seq None) = λ c.
    head-by x x' r r' reply (Ran.Fired r.key r.seq None) idle row (plain-answer r now c d.fresh d.come) in
    let sent : has_channel r.kind ≡ true → HeadBy (parts x r) (parts x' r') reply (Ran.Fired r.key r.seq (begun r now).when) = λ c.
    head-by x x' r r' reply (Ran.Fired r.key r.seq (begun r now).when) idle row (timer-answer r now r.key c d.fresh d.come d.watched.none_ready d.watched.none_sent d.at) in
    elim r.kind as (λ k. r.kind ≡ k → Sends x x'.book x'.heap r r' seq) [
      | RecKind.Func ↦ λ k. (let fires = subst (FiresAs (parts x r) r.seq (parts x' r') reply) k (plain (ap has_channel k)) in absurd (not-fired x'.book reply seq fires.answer e))
      | RecKind.Sleep ↦ λ k. (let fires = subst (FiresAs (parts x r) r.seq (parts x' r') reply) k (plain (ap has_channel k)) in absurd (not-fired x'.book reply seq fires.answer e))
      | RecKind.Timer ↦ λ k. runs-sends x x' id r r' reply seq d (ap has_channel k) (subst (FiresAs (parts x r) r.seq (parts x' r') reply) k (sent (ap has_channel k))) e
      | RecKind.Ticker ↦ λ k. runs-sends x x' id r r' reply seq d (ap has_channel k) (subst (FiresAs (parts x r) r.seq (parts x' r') reply) k (sent (ap has_channel k))) e
      | RecKind.Deadline ↦ λ k.
          let fires = head-expires x x' id r r' reply d k (subst (FiresAs (parts x r) r.seq (parts x' r') reply) k (plain (ap has_channel k))) in
          absurd (not-fired x'.book reply seq fires.answer e)
    ] refl

-- the record whose send has begun: a ticker's is in the heap still
pub record IsSent (r : Rec) (now : ℕ) (r1 : Rec) : Type 0 where
  pub id : r1.id ≡ r.id
  pub kind : r1.kind ≡ r.kind
  pub period : r1.period ≡ r.period
  pub seq : r1.seq ≡ r.seq
  pub blocked : r1.blocked ≡ r.blocked
  pub ready : r1.ready ≡ r.ready
  pub sending : r1.sending ≡ option_or (send_begun r) r.sending
  pub stays : IsSome r1.heaped → r1.heaped ≡ r.heaped

sent-as : (k : RecKind) (r : Rec) (now : ℕ) → has_channel k ≡ true → IsSent r now (run_as k r now)
sent-as RecKind.Timer r now channel =
    record { id = refl; kind = refl; period = refl; seq = refl; blocked = refl; ready = refl; sending = refl; stays = λ some. absurd (none-some None refl some) }
sent-as RecKind.Ticker r now channel =
    record { id = refl; kind = refl; period = refl; seq = refl; blocked = refl; ready = refl; sending = refl; stays = λ some. refl }
sent-as RecKind.Func r now channel = cc
sent-as RecKind.Sleep r now channel = cc
sent-as RecKind.Deadline r now channel = cc

pub is-sent : (x : Runner) (b1 : BookView) (h1 : LazyHeap) (r r1 : Rec) (seq : ℕ) → Sends x b1 h1 r r1 seq → IsSent r (clock x.book.state 0) r1
is-sent x b1 h1 r r1 seq s = subst (IsSent r (clock x.book.state 0)) (sym s.rec_is) (sent-as r.kind r (clock x.book.state 0) s.channel)

-- what a receive takes from it
pub record Begun (r : Rec) (now : ℕ) (r1 : Rec) : Type 0 where
  pub awaited : is_awaited r1 r.seq ≡ true
  pub received_is : received (ended r1 r.seq) now ≡ Some (r.key, due_left r.kind r.period r.key now)

received-shown : (r : Rec) (now due : ℕ) → shown r ≡ Some due → due ≤ now → received r now ≡ Some (due, due_left r.kind r.period due now)
received-shown r now due shows come =
    ap (option_and_then (λ due. if nat_le due now then Some (due, due_left r.kind r.period due now) else None)) shows
    ∙ ap (λ q. if q then Some (due, due_left r.kind r.period due now) else None) (le-leb due now come)

begun-is : (r : Rec) (now : ℕ) (r1 : Rec) → r.ready ≡ None → r.sending ≡ None → r.when ≡ Some r.key → r.key ≤ now → IsSent r now r1 → Begun r now r1
begun-is r now r1 ready sent at come s =
    let sending : r1.sending ≡ Some (r.seq, r.key) = s.sending ∙ ap (λ o. option_or o r.sending) (timer-begins r r.key ready sent at) in
    let same : (r.seq == r1.seq) ≡ true = eq-eqb r.seq r1.seq (sym s.seq) in
    let flying : in_flight r1 ≡ Some r.key = ap (λ o. due_of_send o r1.seq) sending ∙ ap (λ q. if q then Some r.key else None) same in
    let awaited : is_awaited r1 r.seq ≡ true =
    ap (λ q. q && is_none r1.ready && is_some (in_flight r1)) same
    ∙ (ap (λ o. is_none o && is_some (in_flight r1)) (s.ready ∙ ready) ∙ ap is_some flying) in
    let ready_now : (ended r1 r.seq).ready ≡ Some r.key = ap (λ q. if q then in_flight r1 else r1.ready) awaited ∙ flying in
    let shows : shown (ended r1 r.seq) ≡ Some r.key = ap (λ o. option_or o (option_or (in_flight (ended r1 r.seq)) (ended r1 r.seq).when)) ready_now in
    let got : received (ended r1 r.seq) now ≡ Some (r.key, due_left r1.kind r1.period r.key now) = received-shown (ended r1 r.seq) now r.key shows come in
    let kind : due_left r1.kind r1.period r.key now ≡ due_left r.kind r1.period r.key now = ap (λ k. due_left k r1.period r.key now) s.kind in
    let period : due_left r.kind r1.period r.key now ≡ due_left r.kind r.period r.key now = ap (λ p. due_left r.kind p r.key now) s.period in
    record { awaited = awaited; received_is = got ∙ ap (λ left. Some (r.key, left)) (kind ∙ period) }

-- ---- what the receive leaves: a ticker stands in the heap under its next due time

needs-when : (r : Rec) → r.when ≡ None → needs_heap r ≡ true → ⊥
needs-when r none needs =
    let off : needs_heap r ≡ false = ap (λ o. is_some o && (not (has_channel r.kind) || nat_lt 0 r.blocked)) none in
    cc

begun-when : (r : Rec) (now : ℕ) → r.when ≡ Some r.key → (begun r now).when ≡ due_left r.kind r.period r.key now
begun-when r now at = ap (option_and_then (λ due. due_left r.kind r.period due now)) at

ticker-noted : (r r1 r' : Rec) (now : ℕ) (noted : Option ℕ) → r.kind ≡ RecKind.Ticker → IsSome r.heaped → r.when ≡ Some r.key → r1 ≡ rekeyed (begun r now)
    → r'.heaped ≡ r1.heaped → r'.key ≡ r1.key → r'.when ≡ due_left r.kind r.period r.key now → IsNoted noted r'
ticker-noted r r1 r' now noted kind heaped at is same_heaped same_key when_is =
    let tick : ℕ = next_tick r.key r.period now in
    let left : due_left r.kind r.period r.key now ≡ Some tick = ap (λ k. due_left k r.period r.key now) kind in
    let key : r'.key ≡ tick = same_key ∙ (ap (λ (r : Rec). r.key) is ∙ ap (λ o. unwrap_or o r.key) (begun-when r now at ∙ left)) in
    record {
      heaped = subst IsSome (sym (same_heaped ∙ ap (λ (r : Rec). r.heaped) is)) heaped;
      early = λ w e low.
          let due : tick ≡ w = (let both : Some tick ≡ Some w = sym (when_is ∙ left) ∙ e in cc) in
          absurd (omega arith);
    }

sent-noted : (r r1 r' : Rec) (now : ℕ) (noted : Option ℕ) → has_channel r.kind ≡ true → IsSome r.heaped → r.when ≡ Some r.key → r1 ≡ run_as r.kind r now
    → r'.heaped ≡ r1.heaped → r'.key ≡ r1.key → r'.when ≡ due_left r.kind r.period r.key now → needs_heap r' ≡ true → IsNoted noted r'
sent-noted r r1 r' now noted channel heaped at is same_heaped same_key when_is needs =
    elim r.kind as (λ k. r.kind ≡ k → IsNoted noted r') [
      | RecKind.Timer ↦ λ k. absurd (needs-when r' (when_is ∙ ap (λ k. due_left k r.period r.key now) k) needs)
      | RecKind.Ticker ↦ λ k. ticker-noted r r1 r' now noted k heaped at (is ∙ ap (λ k. run_as k r now) k) same_heaped same_key when_is
      | RecKind.Func ↦ λ k. absurd (no-channel k refl)
      | RecKind.Sleep ↦ λ k. absurd (no-channel k refl)
      | RecKind.Deadline ↦ λ k. absurd (no-channel k refl)
    ] refl
  where
    no-channel : {k : RecKind} → r.kind ≡ k → has_channel k ≡ false → ⊥
    no-channel is h = let both : true ≡ false = sym channel ∙ (ap has_channel is ∙ h) in cc

-- who waits longest there
some-party : (ps : List Party) (p : Party) → 0 < often p ps → (q : Party) × (slice_get ps 0 ≡ Some q)
some-party [] p h = absurd (omega arith)
some-party (q ∷ qs) p h = (q, refl)

pub waiter-there : (x : Runner) (id : ℕ) (r : Rec) → IsIdleRun x → Due x id r → has_channel r.kind ≡ true → (p : Party) × (slice_get (parties_at x.book.schedule.receivers id) 0 ≡ Some p)
waiter-there x id r idle d channel =
    let v : BookView = x.book in
    let blocked : 0 < r.blocked = ltb-true 0 r.blocked (needs-some (has_channel r.kind) (nat_lt 0 r.blocked) r.when d.needs channel) in
    let count : r.blocked ≡ mark_count v.schedule id = d.watched.blocked channel ∙ ap (mark_count v.schedule) d.id_is in
    let receiver = marked-receiver x id idle.lawful idle.nobody idle.served.marks (omega arith) in
    let p : Party = receiver.0 in
    let parked : is_parked_at v.script v.state v.schedule p (receives_from id) ≡ true = receiver-parked v id p idle.lawful idle.nobody receiver.1 in
    let named : names_timer (what_at v.script id) ≡ true = channel-timer (of_declaration v.script id) r.kind (ap (kind_by v.script) (sym d.id_is) ∙ d.watched.kept.rec.agrees.kind) channel in
    let within : id < length v.script.decls = named-within v.script id names_timer refl named in
    let often_is : often p (parties_at v.schedule.receivers id) ≡ as_number (is_parked_at v.script v.state v.schedule p (receives_from id)) = idle.lawful.fits.waiting id p within in
    let one : as_number (is_parked_at v.script v.state v.schedule p (receives_from id)) ≡ 1 = ap as_number parked in
    some-party (parties_at v.schedule.receivers id) p (omega arith)

by-delivering : (b : BookView) (reply : Delivered) (Same Row : Type 0) → outcome_of b ≡ None → Rattle.gt_rows.specs.Rows.UnlessOver b Delivered.Over reply Same Row → Row
by-delivering b reply Same Row none h = subst (λ (o : Option Outcome). MatchOption o Row (λ outcome. (reply ≡ Delivered.Over outcome) × Same)) none h

party-parked : (v : BookView) (p : Party) (id : ℕ) → IsLawful v → is_timer v.script id ≡ true → is_parked_at v.script v.state v.schedule p (receives_from id) ≡ true
    → (is_parked (status_of v.schedule p.g) ≡ true) × (sleeps_until v.state p.g ≡ None)
party-parked v p id lawful timer h =
    let parked : is_parked (status_of v.schedule p.g) ≡ true = left-true (is_parked (status_of v.schedule p.g)) (wants v.script v.state p (receives_from id)) h in
    let there : is_at v.script v.state p (receives_from id) ≡ true =
    wants-receives v.script v.state p id lawful.good lawful.formed (ap (λ b. b || is_chan v.script id || is_endable v.script id) timer)
    (right-true (is_parked (status_of v.schedule p.g)) (wants v.script v.state p (receives_from id)) h) in
    let at : AtOperation v.script v.state p (CaseKind.Recv id) = at_operation v.script v.state p (CaseKind.Recv id) (at-recv (operation_at v.script v.state p) there) in
    (parked, stands-awake v p.g at.instr at.stands)
  where
    at-recv : (o : Option CaseKind) → (elim o as (λ _. Bool) [ None ↦ false | Some kind ↦ receives_from id kind ]) ≡ true → o ≡ Some (CaseKind.Recv id)
    at-recv None h = cc
    at-recv (Some (CaseKind.Recv o)) h = ap (λ o. Some (CaseKind.Recv o)) (eqb-true o id h)
    at-recv (Some (CaseKind.Send c v)) h = cc

    left-true : (a b : Bool) → (a && b) ≡ true → a ≡ true
    left-true true b e = refl
    left-true false b e = cc

    right-true : (a b : Bool) → (a && b) ≡ true → b ≡ true
    right-true true b e = e
    right-true false b e = cc

pub sends-passing : (x x' : Runner) (id seq : ℕ) (r r1 r' : Rec) (b1 : BookView) (h1 : LazyHeap) (reply : Delivered) → IsIdleRun x → Due x id r → slice_get x.records.items id ≡ Some r
    → Sends x b1 h1 r r1 seq → x'.records.items ≡ set x.records.items id r' → x'.records.spare ≡ x.records.spare → x'.noted ≡ x.noted → x'.heap ≡ h1
    → DeliverRow (record { rec = r1; book = b1 }) seq (record { rec = r'; book = x'.book }) reply → IsLentRec x'.book r' → IsKept b1 h1 r1 → Passing x x'
sends-passing x x' id seq r r1 r' b1 h1 reply idle d there s records_are spare noted_is heap_is row lent kept1 =
    let v : BookView = x.book in
    let now : ℕ = clock v.state 0 in
    let old : Pair = record { rec = r1; book = v } in
    let new : Pair = record { rec = r'; book = x'.book } in
    let row_x : DeliverRow old seq new reply = subst (λ b. DeliverRow (record { rec = r1; book = b }) seq new reply) s.book_is row in
    let by : DeliversBy old seq new reply (is_awaited r1 seq) = by-delivering v reply (new ≡ old) (DeliversBy old seq new reply (is_awaited r1 seq)) idle.running row_x in
    let sent : IsSent r now r1 = is-sent x b1 h1 r r1 seq s in
    let b : Begun r now r1 = begun-is r now r1 d.watched.none_ready d.watched.none_sent d.at d.come sent in
    let left : Option ℕ = due_left r.kind r.period r.key now in
    let same_seq : seq ≡ r.seq = s.seq_is in
    let awaited : is_awaited r1 seq ≡ true = ap (is_awaited r1) same_seq ∙ b.awaited in
    let got : received (ended r1 seq) now ≡ Some (r.key, left) = ap (λ k. received (ended r1 k) now) same_seq ∙ b.received_is in
    let to : DeliversTo old (ended r1 seq) new reply (slice_get (parties_at v.schedule.receivers r1.id) 0) (received (ended r1 seq) now) = subst (DeliversBy old seq new reply) awaited by in
    let id1 : r1.id ≡ id = sent.id ∙ d.id_is in
    let waiter = waiter-there x id r idle d s.channel in
    let first : slice_get (parties_at v.schedule.receivers r1.id) 0 ≡ Some waiter.0 = ap (λ i. slice_get (parties_at v.schedule.receivers i) 0) id1 ∙ waiter.1 in
    let gives : Gives old (ended r1 seq) waiter.0 r.key left new reply =
    subst (λ o. DeliversTo old (ended r1 seq) new reply (Some waiter.0) o) got (subst (λ o. DeliversTo old (ended r1 seq) new reply o (received (ended r1 seq) now)) first to) in
    let enters : Enters v (Entry.TRecv waiter.0 id r.key left) x'.book = subst (λ i. Enters v (Entry.TRecv waiter.0 i r.key left) x'.book) id1 gives.entered in
    let named : names_timer (what_at v.script id) ≡ true = channel-timer (of_declaration v.script id) r.kind (ap (kind_by v.script) (sym d.id_is) ∙ d.watched.kept.rec.agrees.kind) s.channel in
    let within : id < length v.script.decls = named-within v.script id names_timer refl named in
    let parked : is_parked_at v.script v.state v.schedule waiter.0 (receives_from id) ≡ true = first-waiting v.script v.state v.schedule waiter.0 id idle.lawful.fits within waiter.1 in
    let at = party-parked v waiter.0 id idle.lawful named parked in
    let same_heaped : r'.heaped ≡ r1.heaped = ap (λ (r : Rec). r.heaped) gives.rec in
    let same_key : r'.key ≡ r1.key = ap (λ (r : Rec). r.key) gives.rec in
    let same1 : r'.id ≡ r1.id = ap (λ (r : Rec). r.id) gives.rec in
    runs-passing x x' id r r1 r' (Entry.TRecv waiter.0 id r.key left) idle (record {
      there = there;
      id_is = d.id_is;
      watched = d.watched;
      heaped = d.heaped;
      records_are = records_are;
      spare = spare;
      noted_is = noted_is;
      enters = enters;
      leaves = λ j n. record { timer = λ e. n (sym e); mover = inr (at.1, refl); partner = tt; tree = tt };
      scans = subst (λ h. Scans x.heap h 0 r r1) (sym heap_is) s.scans;
      stays = sent.stays;
      kept = record {
        rec = lent;
        placed = subst (λ h. Rattle.gt_rows.specs.Lent.IsPlaced h r') (sym heap_is) (placed-same h1 r1 r' same1 same_heaped same_key kept1.placed);
      };
      same_id = same1 ∙ sent.id;
      same_kind = ap (λ (r : Rec). r.kind) gives.rec ∙ sent.kind;
      same_blocked = ap (λ (r : Rec). r.blocked) gives.rec ∙ sent.blocked;
      same_heaped = same_heaped;
      needs = sent-noted r r1 r' now x'.noted s.channel (ap is_some d.heaped) d.at s.rec_is same_heaped same_key (ap (λ (r : Rec). r.when) gives.rec);
      none_ready = ap (λ (r : Rec). r.ready) gives.rec;
      none_sent = ap (λ (r : Rec). r.sending) gives.rec;
      served = (parked-goes (status_of v.schedule waiter.0.g) at.0, tt);
      clock = tt;
    })

-- a record that is written twice
pub set-twice : {X : Type 0} (xs : List X) (i : ℕ) (y z : X) → set (set xs i y) i z ≡ set xs i z
set-twice [] i y z = refl
set-twice (x ∷ xs) zero y z = refl
set-twice (x ∷ xs) (suc i) y z = ap (λ zs. x ∷ zs) (set-twice xs i y z)
