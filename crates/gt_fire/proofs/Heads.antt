-- The head of a heap that was run: its record agrees with the machine as before, and what fired may be entered.
use Rattle.std.proofs.Common.{◌≡◌, inr, Bool, ℕ, zero, suc, ◌-◌, ◌<◌, ◌≤◌, nat_lt, length, List, [], ◌∷◌, slice_get, true, false, refl, sym, ap, subst, ◌∙◌, Option, None, Some, IsNone, IsSomeAnd, IsTrue, MatchOption, if◌then◌else◌, is_some, ◌||◌, arith, option_map}
use Rattle.std.proofs.lemmas.Bool.{eq-eqb}
use Rattle.std.proofs.lemmas.Bool.Decides.{nat_tests}
use Rattle.std.specs.Option.{option_or}
use Rattle.gt_model.specs.declared.entry.Entry.{Entry}
use Rattle.gt_model.specs.declared.script.Script.{Script}
use Rattle.gt_model.specs.declared.script.Decl.{Decl}
use Rattle.gt_model.specs.declared.script.What.{What}
use Rattle.gt_model.specs.declared.context.Context.{Context}
use Rattle.gt_model.specs.Script.{is_func, is_ctx, names_func}
use Rattle.gt_rules.specs.Change.{change_of}
use Rattle.gt_rules.specs.Contexts.{start_count}
use Rattle.gt_rules.specs.State.{State, clock, context_at, has_ended, next_number}
use Rattle.gt_rules.specs.declared.change.Move.{Move}
use Rattle.gt_rules.specs.declared.change.Setting.{Setting}
use Rattle.gt_facts.proofs.Within.{func_within}
use Rattle.gt_rec.specs.declared.RecKind.{RecKind}
use Rattle.gt_rec.specs.Rec.{Rec, Keeps, BitsRight, has_channel, shown, in_flight, due_of_send}
use Rattle.gt_rec.specs.Changes.{begun, send_begun, out_of_heap, rekeyed}
use Rattle.gt_lazy.specs.declared.answer.Ran.{Ran}
use Rattle.gt_lazy.specs.Cleaning.{cleaned}
use Rattle.gt_lazy.specs.Running.{is_stale, send_answer, due_answer, head_answer, run_as, head_run}
use Rattle.gt_lazy.specs.Slots.{LazyHeap, IsSettled, Scans}
use Rattle.gt_book.specs.declared.answers.Op.{Op}
use Rattle.gt_book.specs.Steps.{MayCommit, live_deadline}
use Rattle.gt_book.specs.View.{BookView, IsLawful, outcome_of}
use Rattle.gt_book.proofs.Committing.{may-fire, may-wake}
use Rattle.gt_book.proofs.Deadlines.{may-expire}
use Rattle.gt_rows.specs.declared.answers.HeadDone.{HeadDone}
use Rattle.gt_rows.specs.Agrees.{Agrees, kind_by, kind_of_what, live_at}
use Rattle.gt_rows.specs.Lent.{IsLentRec, IsKept}
use Rattle.gt_rows.specs.Rows.{Parts, ExpiresBy, FiresAs, HeadBy, HeadRow}
use Rattle.gt_rows.proofs.Keeping.{IsOfSame, agrees-stays, agrees-set, agrees-moved, agrees-after, agrees-over, period-still, placed-settled}
use Rattle.gt_rows.proofs.Owns.{expiry-ends}
use Rattle.gt_rows.proofs.Tickers.{shown-due, shown-sleep, shown-own, kind-deadline, kind-other}
use Rattle.gt_fire.specs.Fires.{MayFire, FiredAs, CommitsAs}

pub not-below : (a b : ℕ) → b ≤ a → nat_lt a b ≡ false
not-below a b h = grind (arith, nat_tests)

-- ---- the kind of a number

what-func : (what : What) → kind_of_what what ≡ Some RecKind.Func → names_func (Some what) ≡ true
what-func What.Timer h = cc
what-func What.Ticker h = cc
what-func (What.AfterFunc f) h = refl
what-func What.Mutex h = cc
what-func What.Wg h = cc
what-func (What.Cond mutex) h = cc
what-func What.Function h = cc
what-func (What.Chan cap) h = cc
what-func (What.Ctx parent form) h = cc
what-func (What.Hook ctx func) h = cc
what-func What.Error h = cc

kind-func : (script : Script) (id : ℕ) → kind_by script id ≡ Some RecKind.Func → is_func script id ≡ true
kind-func script id h =
    elim (slice_get script.decls id) as (λ o. (elim o as (λ o. Option RecKind) [ None ↦ Some RecKind.Sleep | Some decl ↦ kind_of_what decl.what ]) ≡ Some RecKind.Func
    → names_func (option_map (λ (d : Decl). d.what) o) ≡ true) [
      | None ↦ λ k. cc
      | Some d ↦ λ k. what-func d.what k
    ] h

what-no_sleep : (what : What) → kind_of_what what ≡ Some RecKind.Sleep → ⊥
what-no_sleep What.Timer h = cc
what-no_sleep What.Ticker h = cc
what-no_sleep (What.AfterFunc f) h = cc
what-no_sleep What.Mutex h = cc
what-no_sleep What.Wg h = cc
what-no_sleep (What.Cond mutex) h = cc
what-no_sleep What.Function h = cc
what-no_sleep (What.Chan cap) h = cc
what-no_sleep (What.Ctx parent form) h = cc
what-no_sleep (What.Hook ctx func) h = cc
what-no_sleep What.Error h = cc

behind : {X : Type 0} (xs : List X) (i : ℕ) → slice_get xs i ≡ None → length xs ≤ i
behind [] i h = omega arith
behind (x ∷ xs) zero h = cc
behind (x ∷ xs) (suc i) h = let rest : length xs ≤ i = behind xs i h in omega arith

pub kind-sleep : (script : Script) (id : ℕ) → kind_by script id ≡ Some RecKind.Sleep → length script.decls ≤ id
kind-sleep script id h =
    behind script.decls id
    (elim (slice_get script.decls id) as (λ o. (elim o as (λ o. Option RecKind) [ None ↦ Some RecKind.Sleep | Some decl ↦ kind_of_what decl.what ]) ≡ Some RecKind.Sleep → o ≡ None) [
      | None ↦ λ k. refl
      | Some d ↦ λ k. absurd (what-no_sleep d.what k)
    ] h)

-- ---- what fires may be entered

-- what a record without a channel shows is the due time that is set
shown-plain : (r : Rec) → IsNone r.sending → IsNone r.ready → shown r ≡ r.when
shown-plain r sending ready =
    elim r.ready as (λ o. IsNone o → option_or o (option_or (in_flight r) r.when) ≡ r.when) [
      | None ↦ λ n.
          elim r.sending as (λ o. IsNone o → option_or (due_of_send o r.seq) r.when ≡ r.when) [
            | None ↦ λ k. refl
            | Some send ↦ λ k. cc
          ] sending
      | Some due ↦ λ n. cc
    ] ready

-- the record of a function is of no context
func-no_ctx : (script : Script) (s : State) (r : Rec) → Agrees script s r → r.kind ≡ RecKind.Func → is_ctx script r.id ≡ false
func-no_ctx script s r agrees func = kind-other script r.id r.kind agrees.kind (λ is. cc)

-- where the time of a deadline has come that is set, its context may expire unless it has ended
deadline-may : (b : BookView) (r : Rec) (due : ℕ) → IsLawful b → outcome_of b ≡ None → Agrees b.script b.state r → Keeps r → r.kind ≡ RecKind.Deadline → r.when ≡ Some due
    → due ≤ clock b.state 0 → has_ended b.state r.id ≡ false → MayCommit b (Op.Expire r.id)
deadline-may b r due lawful running agrees keeps kind set come going =
    let plain : has_channel r.kind ≡ false = ap has_channel kind in
    let ctx : is_ctx b.script r.id ≡ true = kind-deadline b.script r.id (agrees.kind ∙ ap Some kind) in
    may-expire b r.id due lawful running
    (sym (shown-own b.script b.state r agrees ctx going) ∙ (shown-plain r (keeps.none_sent plain) (keeps.none_ready plain) ∙ set)) come

pub fires-may : (b : BookView) (r : Rec) (due : ℕ) (k : RecKind) → IsLawful b → outcome_of b ≡ None → Agrees b.script b.state r → Keeps r → r.kind ≡ k → r.when ≡ Some due
    → due ≤ clock b.state 0 → MayFire b r.id k
fires-may b r due RecKind.Timer lawful running agrees keeps kind set come = tt
fires-may b r due RecKind.Ticker lawful running agrees keeps kind set come = tt
fires-may b r due RecKind.Func lawful running agrees keeps kind set come =
    let func : IsTrue (is_func b.script r.id) = kind-func b.script r.id (agrees.kind ∙ ap Some kind) in
    let below : r.id < length b.script.decls = subst (λ (n : ℕ). r.id < n) lawful.formed.timers (func_within b.script b.state r.id lawful.formed func) in
    let plain : has_channel r.kind ≡ false = ap has_channel kind in
    may-fire b r.id due lawful running func (sym (shown-due b.script b.state r agrees below (func-no_ctx b.script b.state r agrees kind)) ∙ (shown-plain r (keeps.none_sent plain) (keeps.none_ready plain) ∙ set)) come
fires-may b r due RecKind.Sleep lawful running agrees keeps kind set come =
    let beyond : length b.script.decls ≤ r.id = kind-sleep b.script r.id (agrees.kind ∙ ap Some kind) in
    let plain : has_channel r.kind ≡ false = ap has_channel kind in
    let may = may-wake b (r.id - length b.script.decls) due lawful running
    (sym (shown-sleep b.script b.state r agrees beyond) ∙ (shown-plain r (keeps.none_sent plain) (keeps.none_ready plain) ∙ set)) come in
    (beyond, may.0, may.1)
fires-may b r due RecKind.Deadline lawful running agrees keeps kind set come = (running, deadline-may b r due lawful running agrees keeps kind set come)

-- ---- the record after a run

pub record IsRunFrom (r now : Rec) : Type 0 where
  pub same : IsOfSame r now
  pub period : now.period ≡ r.period

from-cleaned : (r : Rec) → IsRunFrom r (cleaned r)
from-cleaned r =
    elim r.zombie as (λ b. IsRunFrom r (if b then out_of_heap r else (if r.modified then rekeyed r else r))) [
      | true ↦ record { same = record { id = refl; kind = refl }; period = refl }
      | false ↦ elim r.modified as (λ b. IsRunFrom r (if b then rekeyed r else r)) [
        | true ↦ record { same = record { id = refl; kind = refl }; period = refl }
        | false ↦ record { same = record { id = refl; kind = refl }; period = refl }
      ]
    ]

from-run_as : (k : RecKind) (r : Rec) (now : ℕ) → IsRunFrom r (run_as k r now)
from-run_as RecKind.Timer r now = record { same = record { id = refl; kind = refl }; period = refl }
from-run_as RecKind.Ticker r now = record { same = record { id = refl; kind = refl }; period = refl }
from-run_as RecKind.Func r now = record { same = record { id = refl; kind = refl }; period = refl }
from-run_as RecKind.Sleep r now = record { same = record { id = refl; kind = refl }; period = refl }
from-run_as RecKind.Deadline r now = record { same = record { id = refl; kind = refl }; period = refl }

from-run : (r : Rec) (now : ℕ) → IsRunFrom r (head_run r now)
from-run r now =
    elim (is_stale r) as (λ b. IsRunFrom r (if b then cleaned r else (if nat_lt now r.key then r else run_as r.kind r now))) [
      | true ↦ from-cleaned r
      | false ↦ elim (nat_lt now r.key) as (λ b. IsRunFrom r (if b then r else run_as r.kind r now)) [
        | true ↦ record { same = record { id = refl; kind = refl }; period = refl }
        | false ↦ from-run_as r.kind r now
      ]
    ]

-- the book stays as it is
pub kept-shows : (b : BookView) (h : LazyHeap) (r after : Rec) (now : ℕ) → IsLentRec b r → after ≡ head_run r now → shown after ≡ shown r → IsSettled h after → BitsRight after
    → IsKept b h after
kept-shows b h r after now lent is shows settled bits =
    let from : IsRunFrom r after = subst (IsRunFrom r) (sym is) (from-run r now) in
    record {
      rec = record { agrees = agrees-stays b.script b.state r after lent.agrees from.same shows from.period; bits = bits };
      placed = placed-settled h after settled;
    }

-- whether the head was run
abbrev DidRun : Ran → Type 0
DidRun (Ran.NotDue key) = ⊥
DidRun Ran.Stale = ⊥
DidRun (Ran.Fired due seq next) = Unit {0}
DidRun Ran.Dropped = Unit {0}

-- a head that was run
abbrev Has : Rec → ℕ → Ran → Rec → Type 0
Has r now a after = (after ≡ run_as r.kind r now) × (due_answer r now ≡ a)

has-run : (r : Rec) (now : ℕ) (a : Ran) → head_answer r now ≡ a → DidRun a → Has r now a (head_run r now)
has-run r now a is ran =
    elim (is_stale r) as (λ b. (if b then Ran.Stale else (if nat_lt now r.key then Ran.NotDue r.key else due_answer r now)) ≡ a
    → Has r now a (if b then cleaned r else (if nat_lt now r.key then r else run_as r.kind r now))) [
      | true ↦ λ h. absurd (subst DidRun (sym h) ran)
      | false ↦ λ h.
          elim (nat_lt now r.key) as (λ b. (if b then Ran.NotDue r.key else due_answer r now) ≡ a → Has r now a (if b then r else run_as r.kind r now)) [
            | true ↦ λ k. absurd (subst DidRun (sym k) ran)
            | false ↦ λ k. (refl, k)
          ] h
    ] is

-- a send that begins shows what was shown
begun-shows : (r : Rec) (now due : ℕ) → r.when ≡ Some due → shown (begun r now) ≡ shown r
begun-shows r now due set =
    send-shows r.ready r.sending r.seq due (begun r now).when r.when set
  where
    send-shows : (ready : Option ℕ) (sending : Option (ℕ × ℕ)) (seq due : ℕ) (left when : Option ℕ) → when ≡ Some due
        → option_or ready (option_or (due_of_send (option_or (if is_some ready || is_some (due_of_send sending seq) then None else option_map (λ due. (seq, due)) when) sending) seq) left)
        ≡ option_or ready (option_or (due_of_send sending seq) when)
    send-shows (Some value) sending seq due left when set = refl
    send-shows None sending seq due left when set =
        elim (due_of_send sending seq) as (λ o. due_of_send sending seq ≡ o
        → option_or (due_of_send (option_or (if is_some o then None else option_map (λ due. (seq, due)) when) sending) seq) left ≡ option_or o when) [
          | None ↦ λ e.
              subst (λ w. option_or (due_of_send (option_or (option_map (λ due. (seq, due)) w) sending) seq) left ≡ w) (sym set)
              (ap (λ b. option_or (if b then Some due else None) left) (eq-eqb seq seq refl))
          | Some sent ↦ λ e. ap (λ o. option_or o left) e
        ] refl

run_as-shows : (k : RecKind) (r : Rec) (now due : ℕ) → has_channel k ≡ true → r.when ≡ Some due → shown (run_as k r now) ≡ shown r
run_as-shows RecKind.Timer r now due channel set = begun-shows r now due set
run_as-shows RecKind.Ticker r now due channel set = begun-shows r now due set
run_as-shows RecKind.Func r now due channel set = cc
run_as-shows RecKind.Sleep r now due channel set = cc
run_as-shows RecKind.Deadline r now due channel set = cc

dropped-channel : (r : Rec) (now : ℕ) → due_answer r now ≡ Ran.Dropped → has_channel r.kind ≡ true
dropped-channel r now h =
    elim (has_channel r.kind) as (λ b. (if b then send_answer (send_begun r) (begun r now).when else Ran.Fired r.key r.seq None) ≡ Ran.Dropped → b ≡ true) [
      | true ↦ λ k. refl
      | false ↦ λ k. cc
    ] h

some-and : (o : Option ℕ) (P : ℕ → Type 0) → IsSomeAnd o P → (due : ℕ) × (o ≡ Some due)
some-and None P h = absurd h
some-and (Some due) P h = (due, refl)

pub dropped-shows : (r after : Rec) (now : ℕ) (P : ℕ → Type 0) → head_answer r now ≡ Ran.Dropped → after ≡ head_run r now → IsSomeAnd r.when P → shown after ≡ shown r
dropped-shows r after now P answer is when =
    let ran : Has r now Ran.Dropped (head_run r now) = has-run r now Ran.Dropped answer tt in
    let due = some-and r.when P when in
    ap shown (is ∙ ran.0) ∙ run_as-shows r.kind r now due.0 (dropped-channel r now ran.1) due.1

-- ---- the book and the record after what fired

live-made : (o : Option Context) (due : ℕ) → (elim o as (λ o. Option ℕ) [ None ↦ None | Some r ↦ live_deadline r ]) ≡ Some due → is_some o ≡ true
live-made None due h = cc
live-made (Some r) due h = refl

-- a context has ended when its deadline has run, now or before
agrees-expired : (old new : BookView) (reply : HeadDone) (r after : Rec) (due : ℕ) → IsLawful old → IsLentRec old r → Keeps r → r.kind ≡ RecKind.Deadline → r.when ≡ Some due
    → IsRunFrom r after → (b : Bool) → has_ended old.state r.id ≡ b → CommitsAs old (Op.Expire r.id) new reply b → Agrees new.script new.state after
agrees-expired old new reply r after due lawful lent keeps kind set from true ended did =
    let ctx : is_ctx old.script r.id ≡ true = kind-deadline old.script r.id (lent.agrees.kind ∙ ap Some kind) in
    subst (λ (b : BookView). Agrees b.script b.state after) (sym did.0) (agrees-over old.script old.state r after lent.agrees from.same from.period ctx ended)
agrees-expired old new reply r after due lawful lent keeps kind set from false going did =
    let e : Entry = Entry.Expire r.id (start_count old.script old.state r.id) in
    let ctx : is_ctx old.script r.id ≡ true = kind-deadline old.script r.id (lent.agrees.kind ∙ ap Some kind) in
    let plain : has_channel r.kind ≡ false = ap has_channel kind in
    let own : live_at old.state r.id ≡ Some due =
    sym (shown-own old.script old.state r lent.agrees ctx going) ∙ (shown-plain r (keeps.none_sent plain) (keeps.none_ready plain) ∙ set) in
    let made : is_some (context_at old.state r.id) ≡ true = live-made (context_at old.state r.id) due own in
    agrees-after old e new r after lawful did.0 lent.agrees from.same (inr (ctx, expiry-ends old r.id (start_count old.script old.state r.id) new did.0 made))
    (from.period ∙ sym (period-still old.script old.state (change_of e) r.id r.period refl))

pub kept-fired : (old : BookView) (seq : ℕ) (new : BookView) (reply : HeadDone) (k : RecKind) (h : LazyHeap) (r after : Rec) (now due number : ℕ) (next : Option ℕ)
    → IsLawful old → IsLentRec old r → Keeps r → r.kind ≡ k → FiredAs old r.id seq new reply k → head_answer r now ≡ Ran.Fired due number next → after ≡ head_run r now
    → r.when ≡ Some due → IsSettled h after → BitsRight after → IsKept new h after
kept-fired old seq new reply k h r after now due number next lawful lent keeps kind fired answer is set settled bits =
    let ran : Has r now (Ran.Fired due number next) (head_run r now) = has-run r now (Ran.Fired due number next) answer tt in
    let from : IsRunFrom r after = subst (IsRunFrom r) (sym is) (from-run r now) in
    record {
      rec = record { agrees = agrees-fired old seq new reply k r after now due lawful lent keeps kind fired (is ∙ (ran.0 ∙ ap (λ k. run_as k r now) kind)) set from; bits = bits };
      placed = placed-settled h after settled;
    }
  where
    agrees-fired : (old : BookView) (seq : ℕ) (new : BookView) (reply : HeadDone) (k : RecKind) (r after : Rec) (now due : ℕ) → IsLawful old → IsLentRec old r → Keeps r → r.kind ≡ k
        → FiredAs old r.id seq new reply k → after ≡ run_as k r now → r.when ≡ Some due → IsRunFrom r after → Agrees new.script new.state after
    agrees-fired old seq new reply RecKind.Timer r after now due lawful lent keeps kind fired is set from =
        subst (λ (b : BookView). Agrees b.script b.state after) (sym fired.0)
        (agrees-stays old.script old.state r after lent.agrees from.same (ap shown is ∙ run_as-shows RecKind.Timer r now due refl set) from.period)
    agrees-fired old seq new reply RecKind.Ticker r after now due lawful lent keeps kind fired is set from =
        subst (λ (b : BookView). Agrees b.script b.state after) (sym fired.0)
        (agrees-stays old.script old.state r after lent.agrees from.same (ap shown is ∙ run_as-shows RecKind.Ticker r now due refl set) from.period)
    agrees-fired old seq new reply RecKind.Func r after now due lawful lent keeps kind fired is set from =
        let func : IsTrue (is_func old.script r.id) = kind-func old.script r.id (lent.agrees.kind ∙ ap Some kind) in
        let below : r.id < length old.script.decls = subst (λ (n : ℕ). r.id < n) lawful.formed.timers (func_within old.script old.state r.id lawful.formed func) in
        agrees-set old (Entry.FireFunc r.id (next_number old.state)) new r after (Setting.Ended None) lawful fired.0 lent.agrees below (func-no_ctx old.script old.state r lent.agrees kind) refl from.same (ap shown is) from.period
    agrees-fired old seq new reply RecKind.Sleep r after now due lawful lent keeps kind fired is set from =
        let beyond : length old.script.decls ≤ r.id = kind-sleep old.script r.id (lent.agrees.kind ∙ ap Some kind) in
        agrees-moved old (Entry.Wake (r.id - length old.script.decls)) new r after (Move.GoesOn 0) lawful fired.0 lent.agrees (not-below r.id (length old.script.decls) beyond) refl refl from.same
        (ap shown is) from.period
    agrees-fired old seq new reply RecKind.Deadline r after now due lawful lent keeps kind fired is set from = agrees-expired old new reply r after due lawful lent keeps kind set from (has_ended old.state r.id) refl fired

-- ---- the row of a head that fired

expires-as : (old new : Parts) (reply : HeadDone) (b : Bool) → new.rec ≡ head_run old.rec (clock old.book.state 0) → Scans old.heap new.heap 0 old.rec new.rec
    → CommitsAs old.book (Op.Expire old.rec.id) new.book reply b → ExpiresBy old new reply b
expires-as old new reply true is scans did = record { book = did.0; rec = is; scans = scans; answer = did.1 }
expires-as old new reply false is scans did = record { entered = did.0; rec = is; scans = scans; answer = did.1 }

fires-as : (old new : Parts) (seq : ℕ) (reply : HeadDone) (k : RecKind) → new.rec ≡ head_run old.rec (clock old.book.state 0) → Scans old.heap new.heap 0 old.rec new.rec
    → FiredAs old.book old.rec.id seq new.book reply k → FiresAs old seq new reply k
fires-as old new seq reply RecKind.Timer is scans fired = record { book = fired.0; rec = is; scans = scans; answer = fired.1 }
fires-as old new seq reply RecKind.Ticker is scans fired = record { book = fired.0; rec = is; scans = scans; answer = fired.1 }
fires-as old new seq reply RecKind.Func is scans fired = record { entered = fired.0; rec = is; scans = scans; answer = fired.1 }
fires-as old new seq reply RecKind.Sleep is scans fired = record { entered = fired.0; rec = is; scans = scans; answer = fired.1 }
fires-as old new seq reply RecKind.Deadline is scans fired = expires-as old new reply (has_ended old.book.state old.rec.id) is scans fired

pub fired-row : (old new : Parts) (reply : HeadDone) (now due seq : ℕ) (next : Option ℕ) → outcome_of old.book ≡ None → now ≡ clock old.book.state 0
    → head_answer old.rec now ≡ Ran.Fired due seq next → new.rec ≡ head_run old.rec now → Scans old.heap new.heap 0 old.rec new.rec
    → FiredAs old.book old.rec.id seq new.book reply old.rec.kind → HeadRow old new reply
fired-row old new reply now due seq next running time answer is scans fired =
    let at_clock : new.rec ≡ head_run old.rec (clock old.book.state 0) = is ∙ ap (head_run old.rec) time in
    let by : HeadBy old new reply (Ran.Fired due seq next) = fires-as old new seq reply old.rec.kind at_clock scans fired in
    let row : HeadBy old new reply (head_answer old.rec (clock old.book.state 0)) =
    subst (HeadBy old new reply) (sym answer ∙ ap (head_answer old.rec) time) by in
    subst (λ o. MatchOption o (HeadBy old new reply (head_answer old.rec (clock old.book.state 0))) (λ outcome. (reply ≡ HeadDone.Over outcome) × (new ≡ old))) (sym running) row
