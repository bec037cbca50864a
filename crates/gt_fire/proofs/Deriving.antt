-- The making of a context: what it asks for, and the record of its deadline afterwards.
use Rattle.std.proofs.Common.{IsTrue, ◌≡◌, ℕ, ◌≤◌, ◌+◌, cond, min, nat_lt, length, Bool, true, false, refl, sym, ap, subst, ◌∙◌, Option, None, Some, IfSome, is_some, is_none, MatchOption, arith}
use Rattle.std.proofs.lemmas.Bool.{lt-ltb, eq-eqb}
use Rattle.gt_model.specs.Times.{greatest_time}
use Rattle.gt_model.specs.Good.{NamesRightly}
use Rattle.gt_model.specs.Script.{is_ctx, form_of, what_at, names_ctx, names_ticker}
use Rattle.gt_model.proofs.Declared.{ctx_declared}
use Rattle.gt_model.specs.declared.context.Context.{Context}
use Rattle.gt_model.specs.declared.context.End.{End}
use Rattle.gt_model.specs.declared.context.Form.{Form}
use Rattle.gt_model.specs.declared.entry.Entry.{Entry}
use Rattle.gt_model.specs.declared.entry.Outcome.{Outcome}
use Rattle.gt_model.specs.declared.entry.Party.{Party}
use Rattle.gt_model.specs.declared.entry.Reason.{Reason}
use Rattle.gt_model.specs.declared.script.Instr.{Instr}
use Rattle.gt_model.specs.declared.script.Script.{Script}
use Rattle.gt_model.specs.declared.script.What.{What}
use Rattle.gt_rules.specs.State.{State, clock, stands_at, timer_at, context_at, has_ended, world_of}
use Rattle.gt_rules.specs.After.{number_of}
use Rattle.gt_rules.specs.Change.{Change, change_of}
use Rattle.gt_rules.specs.Contexts.{made_context, made_below, own_by, unless_earlier, end_above, deadline_above, expiry_end}
use Rattle.gt_rules.specs.Panics.{fault, fault_case}
use Rattle.gt_rules.specs.declared.change.TreeStep.{TreeStep}
use Rattle.gt_facts.specs.Formed.{IsFormed, IsPeriod}
use Rattle.gt_facts.proofs.Lookups.{Standing, standing}
use Rattle.gt_facts.proofs.Named.{names-instr_at}
use Rattle.gt_rec.specs.declared.RecKind.{RecKind}
use Rattle.gt_rec.specs.Rec.{Rec, BitsRight, shown}
use Rattle.gt_rec.specs.Changes.{armed, disarmed}
use Rattle.gt_lazy.specs.Slots.{LazyHeap}
use Rattle.gt_schedule.specs.declared.status.RunStatus.{RunStatus}
use Rattle.gt_schedule.specs.Schedule.{at_case, status_of}
use Rattle.gt_book.specs.declared.answers.Commit.{Commit}
use Rattle.gt_book.specs.declared.answers.Did.{Did}
use Rattle.gt_book.specs.declared.answers.Op.{Op}
use Rattle.gt_book.specs.declared.answers.TimerOp.{TimerOp}
use Rattle.gt_book.specs.declared.step.Step.{Step}
use Rattle.gt_book.specs.Steps.{Commits, DidEnter, Does, Steps, is_gone, live_deadline, makes_context, step_or_panic}
use Rattle.gt_book.specs.View.{BookView, Enters, IsLawful, outcome_of}
use Rattle.gt_book.proofs.Committing.{derives-ctx as made-ctx}
use Rattle.gt_book.proofs.Deadlines.{may-derive, MayDerive}
use Rattle.gt_rows.specs.declared.answers.SetDone.{SetDone}
use Rattle.gt_rows.specs.Agrees.{Agrees, period_of_timer}
use Rattle.gt_rows.specs.Frames.{touched}
use Rattle.gt_rows.specs.Lent.{IsLent, IsLentRec, IsKept, IsPlaced, Settles, joins}
use Rattle.gt_rows.specs.Rows.{Answers, Parts, Arms, DerivesAt, DerivesBy, DeriveRow, derives, next_of, set_answer}
use Rattle.gt_rows.proofs.Frames.{enters-fits}
use Rattle.gt_rows.proofs.Keeping.{IsOfSame, agrees-entered, agrees-over, period-still}
use Rattle.gt_rows.proofs.Tickers.{shown-own, kind-other}
use Rattle.gt_fire.proofs.Sleeping.{Tells, IsArmed, armed-settles}

-- ---- what it asks for

-- the next step of a goroutine that makes a context: its panic, its entry without a deadline that is to come, or the record of its deadline
pub data Makes (b : BookView) (g x : ℕ) : Step → Type 0 where
  misused : (p : Party) (reason : Reason) → Makes b g x (Step.Makes (Entry.Panic p reason))
  settled : live_deadline (made_context b.script b.state (world_of b.state g) x) ≡ None
      → Makes b g x (Step.Makes (Entry.CtxMake g x (is_some (made_context b.script b.state (world_of b.state g) x).end)))
  needed : (due : ℕ) → live_deadline (made_context b.script b.state (world_of b.state g) x) ≡ Some due → Makes b g x (Step.Needs (TimerOp.Deadline x due))

with-makes : (b : BookView) (g x : ℕ) → Makes b g x (makes_context g x (made_context b.script b.state (world_of b.state g) x))
with-makes b g x = by (live_deadline (made_context b.script b.state (world_of b.state g) x)) refl
  where
    by : (o : Option ℕ) → live_deadline (made_context b.script b.state (world_of b.state g) x) ≡ o
        → Makes b g x (elim o as (λ o. Step) [
          | None ↦ Step.Makes (Entry.CtxMake g x (is_some (made_context b.script b.state (world_of b.state g) x).end))
          | Some due ↦ Step.Needs (TimerOp.Deadline x due)
        ])
    by None e = settled e
    by (Some due) e = needed due e

derives-is : (i : Instr) (x : ℕ) → derives i ≡ Some x → i ≡ Instr.With x
derives-is (Instr.With y) x h = let same : y ≡ x = cc in ap Instr.With same
derives-is _ x h = cc

instr-makes : (b : BookView) (g x : ℕ) (o : Option Reason) → Makes b g x (step_or_panic b.script b.state b.schedule g (Instr.With x) o)
instr-makes b g x None = with-makes b g x
instr-makes b g x (Some reason) = misused (at_case g (fault_case b.state (Instr.With x))) reason

pub record NextMakes (b : BookView) (g x : ℕ) : Type 0 where
  pub step : Step
  pub is : next_of b g ≡ Some step
  pub makes : Makes b g x step

pub next-makes : (b : BookView) (g x : ℕ) → DerivesAt b g x → NextMakes b g x
next-makes b g x stands =
    elim (stands_at b.script b.state g) as (λ o. stands_at b.script b.state g ≡ o → (elim o as (λ o. Type 0) [ None ↦ ⊥ | Some i ↦ derives i ≡ Some x ]) → NextMakes b g x) [
      | None ↦ λ e h. absurd h
      | Some i ↦ λ e h.
          let on : stands_at b.script b.state g ≡ Some (Instr.With x) = e ∙ ap Some (derives-is i x h) in
          record {
            step = step_or_panic b.script b.state b.schedule g (Instr.With x) (fault b.script b.state (Instr.With x));
            is = ap (λ (o : Option Instr). elim o as (λ o. Option Step) [ None ↦ None | Some i ↦ Some (step_or_panic b.script b.state b.schedule g i (fault b.script b.state i)) ]) on;
            makes = instr-makes b g x (fault b.script b.state (Instr.With x));
          }
    ] refl stands

-- what came of it: the run was over, an entry came, or the record is asked for
pub data Came (old : BookView) (g x : ℕ) (new : BookView) (did : Did) : Type 0 where
  over : (outcome : Outcome) → outcome_of old ≡ Some outcome → did ≡ Did.Over outcome → new ≡ old → Came old g x new did
  entered : (e : Entry) → outcome_of old ≡ None → next_of old g ≡ Some (Step.Makes e) → Makes old g x (Step.Makes e) → Enters old e new → DidEnter new did → Came old g x new did
  asked : (due : ℕ) → outcome_of old ≡ None → next_of old g ≡ Some (Step.Needs (TimerOp.Deadline x due)) → new ≡ old → did ≡ Did.Timer (TimerOp.Deadline x due) → Came old g x new did

came-by : (old : BookView) (g x : ℕ) (new : BookView) (did : Did) (step : Step) → outcome_of old ≡ None → next_of old g ≡ Some step → Makes old g x step → Does old g step new did
    → Came old g x new did
came-by old g x new did _ running is (misused p reason) does = entered (Entry.Panic p reason) running is (misused p reason) does.0 does.1
came-by old g x new did _ running is (settled none) does =
    entered (Entry.CtxMake g x (is_some (made_context old.script old.state (world_of old.state g) x).end)) running is (settled none) does.0 does.1
came-by old g x new did _ running is (needed due live) does = asked due running is does.0 does.1

pub came : (old : BookView) (g x : ℕ) (new : BookView) (did : Did) → DerivesAt old g x → Steps old g new did → Came old g x new did
came old g x new did stands steps =
    let next : NextMakes old g x = next-makes old g x stands in
    elim (outcome_of old) as (λ o. outcome_of old ≡ o
    → MatchOption o (MatchOption (next_of old g) ⊥ (λ step. Does old g step new did)) (λ outcome. (did ≡ Did.Over outcome) × (new ≡ old)) → Came old g x new did) [
      | None ↦ λ e h. came-by old g x new did next.step e next.is next.makes (subst (λ o. MatchOption o ⊥ (λ step. Does old g step new did)) next.is h)
      | Some outcome ↦ λ e h. over outcome e h.0 h.1
    ] refl steps

-- ---- without the record

-- the record was not asked for, and the answer says what came
abbrev pub Says : Did → SetDone → Type 0
Says Did.Entered reply = reply ≡ SetDone.Done
Says Did.Parked reply = reply ≡ SetDone.Done
Says (Did.Over outcome) reply = reply ≡ SetDone.Over outcome
Says (Did.Timer op) reply = ⊥

says-answers : (new : BookView) (did : Did) (reply : SetDone) → DidEnter new did → Says did reply → Answers new SetDone.Over reply SetDone.Done
says-answers new did reply entry says =
    elim (outcome_of new) as (λ o. MatchOption o (did ≡ Did.Entered) (λ outcome. did ≡ Did.Over outcome) → MatchOption o (reply ≡ SetDone.Done) (λ outcome. reply ≡ SetDone.Over outcome)) [
      | None ↦ λ is. subst (λ did. Says did reply) is says
      | Some outcome ↦ λ is. subst (λ did. Says did reply) is says
    ] entry

derive-row : (old : Parts) (g : ℕ) (new : Parts) (reply : SetDone) (step : Step) → outcome_of old.book ≡ None → next_of old.book g ≡ Some step
    → DerivesBy old g new reply (Some step) → DeriveRow old g new reply
derive-row old g new reply step running next row =
    let by : DerivesBy old g new reply (next_of old.book g) = subst (DerivesBy old g new reply) (sym next) row in
    subst (λ o. MatchOption o (DerivesBy old g new reply (next_of old.book g)) (λ outcome. (reply ≡ SetDone.Over outcome) × (new ≡ old))) (sym running) by

over-row : (old new : Parts) (g : ℕ) (reply : SetDone) (outcome : Outcome) → outcome_of old.book ≡ Some outcome → reply ≡ SetDone.Over outcome → new ≡ old → DeriveRow old g new reply
over-row old new g reply outcome is answer same =
    subst (λ o. MatchOption o (DerivesBy old g new reply (next_of old.book g)) (λ outcome. (reply ≡ SetDone.Over outcome) × (new ≡ old))) (sym is) (answer, same)

pub plain-row : (old : Parts) (g : ℕ) (mid : BookView) (did : Did) (reply : SetDone) → DerivesAt old.book g old.rec.id → Steps old.book g mid did → Says did reply
    → DeriveRow old g (record old { book = mid }) reply
plain-row old g mid did reply stands steps says = by (came old.book g old.rec.id mid did stands steps)
  where
    by : Came old.book g old.rec.id mid did → DeriveRow old g (record old { book = mid }) reply
    by (over outcome is answer same) =
        over-row old (record old { book = mid }) g reply outcome is (subst (λ did. Says did reply) answer says) (ap (λ (b : BookView). record old { book = b }) same)
    by (entered e running next makes enters answer) =
        derive-row old g (record old { book = mid }) reply (Step.Makes e) running next
        (record { entered = enters; heap = refl; rec = refl; answer = says-answers mid did reply answer says })
    by (asked due running next same answer) = absurd (subst (λ did. Says did reply) answer says)

-- ---- the record afterwards

touched-ctx : (script : Script) (s : State) (c : Change) (x : ℕ) (before : Option ℕ) → is_ctx script x ≡ true → c.tree ≡ Some (x, TreeStep.Derived)
    → touched script s c x before ≡ live_deadline (made_context script s (world_of s (number_of c.mover)) x)
touched-ctx script s c x before ctx is =
    rw (lt-ltb x (length script.decls) (ctx_declared script x ctx), ctx, is)
    (ap (λ b. cond b (live_deadline (made_context script s (world_of s (number_of c.mover)) x)) before) (eq-eqb x x refl))

-- the record of a context that is made
pub agrees-derived : (old : BookView) (g x : ℕ) (ends : Bool) (new : BookView) (r now : Rec) → IsLawful old → Enters old (Entry.CtxMake g x ends) new → Agrees old.script old.state r
    → r.id ≡ x → is_ctx old.script r.id ≡ true → IsOfSame r now → shown now ≡ live_deadline (made_context old.script old.state (world_of old.state g) x) → now.period ≡ r.period
    → Agrees new.script new.state now
agrees-derived old g x ends new r now lawful enters agrees its ctx same shows period =
    agrees-entered old (Entry.CtxMake g x ends) new r now lawful enters agrees same
    (shows ∙ sym (subst (λ id. touched old.script old.state (change_of (Entry.CtxMake g x ends)) id (shown r) ≡ live_deadline (made_context old.script old.state (world_of old.state g) x)) (sym its)
    (touched-ctx old.script old.state (change_of (Entry.CtxMake g x ends)) x (shown r) (subst (λ id. is_ctx old.script id ≡ true) its ctx) refl)))
    (period ∙ sym (period-still old.script old.state (change_of (Entry.CtxMake g x ends)) r.id r.period refl))

touched-panic : (script : Script) (s : State) (p : Party) (reason : Reason) (x : ℕ) (before : Option ℕ) → is_ctx script x ≡ true
    → touched script s (change_of (Entry.Panic p reason)) x before ≡ before
touched-panic script s p reason x before ctx = rw (lt-ltb x (length script.decls) (ctx_declared script x ctx), ctx) refl

-- one that was not made shows nothing
fresh-shows : (script : Script) (s : State) (r : Rec) → Agrees script s r → is_ctx script r.id ≡ true → is_some (context_at s r.id) ≡ false → shown r ≡ None
fresh-shows script s r agrees ctx fresh = shown-own script s r agrees ctx (going (context_at s r.id) fresh) ∙ none (context_at s r.id) fresh
  where
    going : (o : Option Context) → is_some o ≡ false → is_some (elim o as (λ o. Option End) [ None ↦ None | Some r ↦ r.end ]) ≡ false
    going None h = refl
    going (Some r) h = cc

    none : (o : Option Context) → is_some o ≡ false → (elim o as (λ o. Option ℕ) [ None ↦ None | Some r ↦ live_deadline r ]) ≡ None
    none None h = refl
    none (Some r) h = cc

agrees-plain : (old : BookView) (g : ℕ) (e : Entry) (new : BookView) (r : Rec) (step : Step) → Makes old g r.id step → step ≡ Step.Makes e → IsLawful old → Enters old e new
    → Agrees old.script old.state r → is_ctx old.script r.id ≡ true → Agrees new.script new.state r
agrees-plain old g e new r _ (misused p reason) is lawful enters agrees ctx =
    let its : Entry.Panic p reason ≡ e = cc in
    let panics : Enters old (Entry.Panic p reason) new = subst (λ e. Enters old e new) (sym its) enters in
    agrees-entered old (Entry.Panic p reason) new r r lawful panics agrees (record { id = refl; kind = refl })
    (sym (touched-panic old.script old.state p reason r.id (shown r) ctx))
    (sym (period-still old.script old.state (change_of (Entry.Panic p reason)) r.id r.period refl))
agrees-plain old g e new r _ (settled none) is lawful enters agrees ctx =
    let ends : Bool = is_some (made_context old.script old.state (world_of old.state g) r.id).end in
    let its : Entry.CtxMake g r.id ends ≡ e = cc in
    let makes : Enters old (Entry.CtxMake g r.id ends) new = subst (λ e. Enters old e new) (sym its) enters in
    agrees-derived old g r.id ends new r r lawful makes agrees refl ctx (record { id = refl; kind = refl })
    (fresh-shows old.script old.state r agrees ctx (enters-fits old (Entry.CtxMake g r.id ends) new lawful makes).fresh ∙ sym none) refl
agrees-plain old g e new r _ (needed due live) is lawful enters agrees ctx = cc

pub plain-kept : (old : BookView) (g : ℕ) (mid : BookView) (did : Did) (reply : SetDone) (h : LazyHeap) (r : Rec) → IsLawful old → is_ctx old.script r.id ≡ true → DerivesAt old g r.id
    → Steps old g mid did → Says did reply → IsLent old h r → IsKept mid h r
plain-kept old g mid did reply h r lawful ctx stands steps says lent = by (came old g r.id mid did stands steps)
  where
    by : Came old g r.id mid did → IsKept mid h r
    by (over outcome is answer same) = subst (λ (b : BookView). IsKept b h r) (sym same) (record { rec = lent.rec; placed = lent.placed })
    by (entered e running next makes enters answer) = record {
      rec = record { agrees = agrees-plain old g e mid r (Step.Makes e) makes refl lawful enters lent.rec.agrees ctx; bits = lent.rec.bits };
      placed = lent.placed;
    }
    by (asked due running next same answer) = absurd (subst (λ did. Says did reply) answer says)

-- ---- with the record

-- what names a context declares one
pub derives-ctx : (b : BookView) (g x : ℕ) → IsLawful b → DerivesAt b g x → is_ctx b.script x ≡ true
derives-ctx b g x lawful stands =
    elim (stands_at b.script b.state g) as (λ o. stands_at b.script b.state g ≡ o → (elim o as (λ o. Type 0) [ None ↦ ⊥ | Some i ↦ derives i ≡ Some x ]) → is_ctx b.script x ≡ true) [
      | None ↦ λ e h. absurd h
      | Some i ↦ λ e h.
          let there : Standing b.script b.state g i = standing b.script b.state g i e in
          let names : NamesRightly b.script i = names-instr_at b.script there.who.place i lawful.good there.on in
          subst (NamesRightly b.script) (derives-is i x h) names
    ] refl stands

-- only the record of its deadline is asked for
pub record AsksDeadline (old : BookView) (g x : ℕ) (new : BookView) (op : TimerOp) : Type 0 where
  pub due : ℕ
  pub running : outcome_of old ≡ None
  pub step : next_of old g ≡ Some (Step.Needs (TimerOp.Deadline x due))
  pub same : new ≡ old
  pub its : op ≡ TimerOp.Deadline x due

pub asks-deadline : (old : BookView) (g x : ℕ) (new : BookView) (op : TimerOp) → DerivesAt old g x → Steps old g new (Did.Timer op) → AsksDeadline old g x new op
asks-deadline old g x new op stands steps = by (came old g x new (Did.Timer op) stands steps)
  where
    by : Came old g x new (Did.Timer op) → AsksDeadline old g x new op
    by (over outcome is answer same) = cc
    by (entered e running next makes enters answer) =
        elim (outcome_of new) as (λ o. MatchOption o (Did.Timer op ≡ Did.Entered) (λ outcome. Did.Timer op ≡ Did.Over outcome) → AsksDeadline old g x new op) [
          | None ↦ λ h. cc
          | Some outcome ↦ λ h. cc
        ] answer
    by (asked due running next same answer) =
        let its : op ≡ TimerOp.Deadline x due = cc in
        record { due = due; running = running; step = next; same = same; its = its }

-- the record of this deadline is needed, and nothing changed
pub record NeedsDeadline (old : BookView) (g x : ℕ) (mid : BookView) (due : ℕ) : Type 0 where
  pub running : outcome_of old ≡ None
  pub step : next_of old g ≡ Some (Step.Needs (TimerOp.Deadline x due))
  pub same : mid ≡ old

pub needs-deadline : (old : BookView) (g x : ℕ) (mid : BookView) (did : Did) (op : TimerOp) (y due : ℕ) → DerivesAt old g x → did ≡ Did.Timer op → op ≡ TimerOp.Deadline y due
    → Steps old g mid did → NeedsDeadline old g x mid due
needs-deadline old g x mid did op y due stands is of steps =
    let asks : AsksDeadline old g x mid op = asks-deadline old g x mid op stands (subst (Steps old g mid) is steps) in
    let its : TimerOp.Deadline y due ≡ TimerOp.Deadline x asks.due = sym of ∙ asks.its in
    let time : asks.due ≡ due = cc in
    record { running = asks.running; step = asks.step ∙ ap (λ due. Some (Step.Needs (TimerOp.Deadline x due))) time; same = asks.same }

-- nothing else is asked for
pub other-never : (old : BookView) (g x : ℕ) (mid : BookView) (did : Did) (op : TimerOp) → DerivesAt old g x → did ≡ Did.Timer op → ((y due : ℕ) → op ≡ TimerOp.Deadline y due → ⊥)
    → Steps old g mid did → ⊥
other-never old g x mid did op stands is other steps =
    let asks : AsksDeadline old g x mid op = asks-deadline old g x mid op stands (subst (Steps old g mid) is steps) in
    other x asks.due asks.its

pub never-parked : (old : BookView) (g x : ℕ) (mid : BookView) (did : Did) → DerivesAt old g x → did ≡ Did.Parked → Steps old g mid did → ⊥
never-parked old g x mid did stands is steps = by (came old g x mid did stands steps)
  where
    by : Came old g x mid did → ⊥
    by (over outcome ended answer same) = cc
    by (entered e running next makes enters answer) =
        elim (outcome_of mid) as (λ o. MatchOption o (did ≡ Did.Entered) (λ outcome. did ≡ Did.Over outcome) → ⊥) [
          | None ↦ λ h. cc
          | Some outcome ↦ λ h. cc
        ] answer
    by (asked due running next same answer) = cc

-- the row of its making, where the book was as before
pub derived-row : (old new : Parts) (mid : BookView) (g due : ℕ) (reply : SetDone) → NeedsDeadline old.book g old.rec.id mid due
    → Arms (record old { book = mid }) (Entry.CtxMake g old.rec.id false) due 0 new reply → DeriveRow old g new reply
derived-row old new mid g due reply needs arms =
    derive-row old g new reply (Step.Needs (TimerOp.Deadline old.rec.id due)) needs.running needs.step
    (subst (λ (b : BookView). Arms (record old { book = b }) (Entry.CtxMake g old.rec.id false) due 0 new reply) needs.same arms)

-- a deadline is a time
earlier-time : (parents : Option ℕ) (due : ℕ) → due ≤ greatest_time → IfSome (unless_earlier parents due) (λ due. due ≤ greatest_time)
earlier-time None due h = h
earlier-time (Some other) due h = elim (nat_lt other due) as (λ b. IfSome (cond b None (Some due)) (λ due. due ≤ greatest_time)) [ true ↦ tt | false ↦ h ]

own-time : (o : Option Form) (now : ℕ) (parents : Option ℕ) → IfSome (own_by o now parents) (λ due. due ≤ greatest_time)
own-time (Some (Form.Timeout d cause)) now parents = earlier-time parents (min (now + d) greatest_time) (omega arith)
own-time _ now parents = tt

live-time : (w : ℕ) (above : Option End) (own : Option ℕ) (expiry : End) (now : ℕ) → IfSome own (λ due. due ≤ greatest_time)
    → IfSome (live_deadline (made_below w above own expiry now)) (λ due. due ≤ greatest_time)
live-time w (Some end) own expiry now time = tt
live-time w None own expiry now time =
    elim (is_none (made_below w None own expiry now).end) as (λ b. IfSome (cond b own None) (λ due. due ≤ greatest_time)) [ true ↦ time | false ↦ tt ]

pub deadline-time : (script : Script) (s : State) (w x due : ℕ) → live_deadline (made_context script s w x) ≡ Some due → due ≤ greatest_time
deadline-time script s w x due live =
    subst (λ o. IfSome o (λ due. due ≤ greatest_time)) live
    (live-time w (end_above script s x) (own_by (form_of script x) (clock s w) (deadline_above script s x)) (expiry_end script x) (clock s w)
    (own-time (form_of script x) (clock s w) (deadline_above script s x)))

-- what is given to the commitment, and what comes of it
pub record IsMade (old new : Parts) (g due : ℕ) (did : Commit) (answer reply : SetDone) : Type 0 where
  pub lawful : IsLawful old.book
  pub running : outcome_of old.book ≡ None
  pub asks : next_of old.book g ≡ Some (Step.Needs (TimerOp.Deadline old.rec.id due))
  pub in_hand : status_of old.book.schedule g ≡ Some RunStatus.InHand
  pub commits : Commits old.book (Op.Derive g old.rec.id) (is_gone old.book (Op.Derive g old.rec.id)) new.book did
  pub answer_is : answer ≡ set_answer old.rec due 0
  pub place : Settles old.heap (armed old.rec due 0) new.heap new.rec (joins (armed old.rec due 0))
  pub tells : Tells did answer reply

-- what the commitment does
record IsCommitted (old new : Parts) (g due : ℕ) (did : Commit) : Type 0 where
  may : MayDerive old.book g old.rec.id due
  entered : Enters old.book (Entry.CtxMake g old.rec.id false) new.book
  answer : MatchOption (outcome_of new.book) (did ≡ Commit.Entered) (λ outcome. did ≡ Commit.Over outcome)

committed : (old new : Parts) (g due : ℕ) (did : Commit) (answer reply : SetDone) → IsMade old new g due did answer reply → IsCommitted old new g due did
committed old new g due did answer reply m =
    let may : MayDerive old.book g old.rec.id due = may-derive old.book g old.rec.id due m.lawful m.running m.asks m.in_hand in
    let all : Commits old.book (Op.Derive g old.rec.id) false new.book did =
    subst (λ b. Commits old.book (Op.Derive g old.rec.id) b new.book did) may.in_time m.commits in
    record { may = may; entered = subst (λ ends. Enters old.book (Entry.CtxMake g old.rec.id ends) new.book) may.ended all.0; answer = all.1 }

pub derive-arms : (old new : Parts) (g due : ℕ) (did : Commit) (answer reply : SetDone) → IsMade old new g due did answer reply
    → Arms old (Entry.CtxMake g old.rec.id false) due 0 new reply
derive-arms old new g due did answer reply m =
    let all : IsCommitted old new g due did = committed old new g due did answer reply m in
    record {
      entered = all.entered;
      place = m.place;
      answer = elim (outcome_of new.book) as (λ o. MatchOption o (did ≡ Commit.Entered) (λ outcome. did ≡ Commit.Over outcome)
          → MatchOption o (reply ≡ set_answer old.rec due 0) (λ outcome. reply ≡ SetDone.Over outcome)) [
            | None ↦ λ is. subst (λ did. Tells did answer reply) is m.tells ∙ m.answer_is
            | Some outcome ↦ λ is. subst (λ did. Tells did answer reply) is m.tells
          ] all.answer;
    }

-- whose deadline is asked for is a context, and its record no ticker's
pub asks-ctx : (b : BookView) (g x due : ℕ) → IsLawful b → MayDerive b g x due → is_ctx b.script x ≡ true
asks-ctx b g x due lawful may = made-ctx b g x lawful.good may.may.0.0

pub ctx-no_ticker : (script : Script) (s : State) (r : Rec) → Agrees script s r → is_ctx script r.id ≡ true → r.kind ≡ RecKind.Ticker → ⊥
ctx-no_ticker script s r agrees ctx h = both (is_ctx script r.id) ctx (kind-other script r.id RecKind.Ticker (agrees.kind ∙ ap Some h) (λ is. cc))
  where
    both : (b : Bool) → b ≡ true → b ≡ false → ⊥
    both true h k = cc
    both false h k = cc

-- a context has no period
timer-period : (script : Script) (s : State) (x : ℕ) → IsFormed script s → is_ctx script x ≡ true → period_of_timer (timer_at s x) ≡ 0
timer-period script s x formed ctx =
    elim (timer_at s x) as (λ o. timer_at s x ≡ o → period_of_timer o ≡ 0) [
      | None ↦ λ e. refl
      | Some r ↦ λ e. subst (λ b. IsPeriod b r.period) (no-ticker (what_at script x) ctx) (formed.periods x r e)
    ] refl
  where
    no-ticker : (o : Option What) → names_ctx o ≡ true → names_ticker o ≡ false
    no-ticker None h = cc
    no-ticker (Some (What.Ctx parent form)) h = refl
    no-ticker (Some what) h = cc

pub derive-kept : (old new : Parts) (g due : ℕ) (did : Commit) (answer reply : SetDone) → IsMade old new g due did answer reply → IsLent old.book old.heap old.rec
    → is_ctx old.book.script old.rec.id ≡ true → IsPlaced new.heap new.rec → BitsRight new.rec → IsKept new.book new.heap new.rec
derive-kept old new g due did answer reply m lent ctx placed bits =
    let all : IsCommitted old new g due did = committed old new g due did answer reply m in
    let now : IsArmed old.rec new.rec due = armed-settles old.heap old.rec new.heap new.rec due (joins (armed old.rec due 0)) m.place in
    let none : old.rec.period ≡ 0 =
    lent.rec.agrees.period ∙ (ap (λ b. cond b (period_of_timer (timer_at old.book.state old.rec.id)) 0)
    (lt-ltb old.rec.id (length old.book.script.decls) (ctx_declared old.book.script old.rec.id ctx)) ∙ timer-period old.book.script old.book.state old.rec.id m.lawful.formed ctx) in
    record {
      rec = record {
        agrees = agrees-derived old.book g old.rec.id false new.book old.rec new.rec m.lawful all.entered lent.rec.agrees refl ctx now.same (now.shows ∙ sym all.may.live)
            (now.period ∙ sym none);
        bits = bits;
      };
      placed = placed;
    }

-- ---- a deadline that is dropped

pub drop-kept : (b : BookView) (r now : Rec) → now ≡ disarmed r → BitsRight now → IsLentRec b r → IsTrue (is_ctx b.script r.id) → IsTrue (has_ended b.state r.id) → IsLentRec b now
drop-kept b r now is bits lent ctx ended = record {
  agrees = agrees-over b.script b.state r now lent.agrees (record { id = ap (λ (r : Rec). r.id) is; kind = ap (λ (r : Rec). r.kind) is }) (ap (λ (r : Rec). r.period) is) ctx ended;
  bits = bits;
}
