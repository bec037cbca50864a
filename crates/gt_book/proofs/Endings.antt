-- The end of a context leaves nobody firmly ready who is parked, but at the contexts that it ends.
use Rattle.std.proofs.Common.{◌≡◌, ℕ, ◌<◌, List, length, slice_index_or, refl, sym, ap, subst, ◌∙◌, Option, None, Some, Bool, true, false, not, ◌&&◌, cond, option_map, is_some, IsTrue}
use Rattle.gt_model.specs.declared.script.Script.{Script}
use Rattle.gt_model.specs.declared.entry.Entry.{Entry}
use Rattle.gt_model.specs.declared.entry.Limits.{Limits}
use Rattle.gt_model.specs.declared.context.Context.{Context}
use Rattle.gt_model.specs.declared.context.End.{End}
use Rattle.gt_model.specs.Good.{IsGood}
use Rattle.gt_model.specs.Script.{is_ctx}
use Rattle.gt_model.proofs.Declared.{ctx_declared}
use Rattle.gt_model.specs.declared.state.SyncState.{SyncState}
use Rattle.gt_model.specs.Tables.{at}
use Rattle.gt_rules.specs.State.{State, unused, context_at, has_ended, stands_at}
use Rattle.gt_rules.specs.After.{after}
use Rattle.gt_rules.specs.Change.{change_of}
use Rattle.gt_rules.specs.Contexts.{is_reached, ended_by, cancel_end, named_by, expiry_end, cut_contexts}
use Rattle.gt_rules.specs.Legal.{May}
use Rattle.gt_facts.specs.Formed.{IsFormed}
use Rattle.gt_facts.proofs.Contexts.{at-cut}
use Rattle.gt_machine.specs.Machine.{state_of}
use Rattle.gt_schedule.specs.Schedule.{Schedule, scheduled, Served}
use Rattle.gt_schedule.specs.Scheduler.{schedule_of}
use Rattle.gt_book.specs.declared.run.Run.{Run}
use Rattle.gt_book.specs.Calm.{IsCalm, IsCalmBut}
use Rattle.gt_book.specs.Cuts.{has_just_ended, KnowsEnded, CanWakeEnded}
use Rattle.gt_book.specs.Run.{CanEnter, Makes}
use Rattle.gt_book.specs.View.{BookView, Fits}
use Rattle.gt_book.proofs.Calm.{Signalled, were-changed}
use Rattle.gt_book.proofs.Firm.{Stays, shut_in, nowhere, calm-nowhere, calm_but-next}
use Rattle.gt_book.proofs.Stays.{ended_in, stays-May}

-- ---- the entry of an end

-- it cuts contexts, changes no timer, channel, mutex or WaitGroup, and signals nobody
pub record IsEnd (script : Script) (s : State) (e : Entry) : Type 0 where
  pub from : ℕ
  pub end : End
  pub contexts : (after script s e).contexts ≡ cut_contexts script s from end
  pub timers : (after script s e).timers ≡ s.timers
  pub channels : (after script s e).channels ≡ s.channels
  pub syncs : (after script s e).syncs ≡ s.syncs
  pub quiet : (these : ℕ → Bool) → Signalled script these (change_of e)

pub cancel-ends : (script : Script) (s : State) (g x starts : ℕ) → IsEnd script s (Entry.Cancel g x true starts)
cancel-ends script s g x starts = record {
  from = x;
  end = cancel_end (named_by (stands_at script s g));
  contexts = refl;
  timers = refl;
  channels = refl;
  syncs = refl;
  quiet = λ these. record { mover = tt; partner = tt; broadcast = tt };
}

pub expiry-ends : (script : Script) (s : State) (x starts : ℕ) → IsEnd script s (Entry.Expire x starts)
expiry-ends script s x starts = record {
  from = x;
  end = expiry_end script x;
  contexts = refl;
  timers = refl;
  channels = refl;
  syncs = refl;
  quiet = λ these. record { mover = tt; partner = tt; broadcast = tt };
}

-- what has ended stays so
cut-ended : (b : Bool) (end : End) (o : Option Context) → ended_in o ≡ true → ended_in (cond b (option_map (ended_by end) o) o) ≡ true
cut-ended false end o h = h
cut-ended true end None h = cc
cut-ended true end (Some r) h =
    elim r.end as (λ o. is_some o ≡ true → is_some (elim o as (λ o. Option End) [ None ↦ Some end | Some first ↦ Some first ]) ≡ true) [
      | None ↦ λ k. refl
      | Some first ↦ λ k. refl
    ] h

ended-still : (script : Script) (s : State) (e : Entry) (y : ℕ) → IsEnd script s e → has_ended s y ≡ true → has_ended (after script s e) y ≡ true
ended-still script s e y ends h =
    ap (λ cs. ended_in (at cs y)) ends.contexts
    ∙ (ap ended_in (at-cut script s ends.from ends.end y) ∙ cut-ended (is_reached script s ends.from y) ends.end (context_at s y) h)

-- which did not end by it
same-end : (was now : Bool) → (was ≡ true → now ≡ true) → (not was && now) ≡ false → now ≡ was
same-end true now still h = still refl
same-end false now still h = h

-- of the rest all stays
cut-stays : (script : Script) (s : State) (e : Entry) (these : ℕ → Bool) → IsEnd script s e → IsGood script → May script s e
    → ((y : ℕ) → these y ≡ (not (has_ended s y) && has_ended (after script s e) y)) → Stays s (after script s e) these
cut-stays script s e these ends good may each = record {
  timers = λ t h. ap (λ ts. is_some (at ts t)) ends.timers ∙ h;
  made = λ c h. ap (λ cs. is_some (at cs c)) ends.channels ∙ h;
  closed = λ c h. ap (λ cs. shut_in (at cs c)) ends.channels ∙ h;
  same = λ c h. ap (λ cs. at cs c) ends.channels;
  locks = λ o h. ap (λ (ss : List SyncState). (slice_index_or ss o unused).locked) ends.syncs;
  counters = λ o h. ap (λ (ss : List SyncState). (slice_index_or ss o unused).counter) ends.syncs;
  contexts = (stays-May script s e good may).contexts;
  ends = λ y h. same-end (has_ended s y) (has_ended (after script s e) y) (ended-still script s e y ends) (sym (each y) ∙ h);
}

pub calm-cut : (script : Script) (s : State) (m : Schedule) (e : Entry) (these : ℕ → Bool) → IsEnd script s e → IsGood script → May script s e → Fits script s m → Served m e
    → ((y : ℕ) → these y ≡ (not (has_ended s y) && has_ended (after script s e) y)) → ((y : ℕ) → these y ≡ true → y < length script.decls) → IsCalm script s m
    → IsCalmBut script (after script s e) (scheduled m e) these
calm-cut script s m e these ends good may fits served each declared calm =
    calm_but-next script s (after script s e) m (scheduled m e) nowhere these (cut-stays script s e these ends good may each)
    (were-changed script s m these (change_of e) fits served (ends.quiet these)) (λ o h. refl) (calm-nowhere script s m calm) declared

-- ---- the run

second : (was now : Bool) → (not was && now) ≡ true → now ≡ true
second true now h = cc
second false now h = h

-- what has ended is a context
ended-there : (script : Script) (s : State) (x : ℕ) (o : Option Context) → IsFormed script s → context_at s x ≡ o → ended_in o ≡ true → IsTrue (is_ctx script x)
ended-there script s x None formed is h = cc
ended-there script s x (Some r) formed is h = (formed.ctxs x r is).named

pub ended-context : (script : Script) (s : State) (x : ℕ) → IsFormed script s → has_ended s x ≡ true → IsTrue (is_ctx script x)
ended-context script s x formed h = ended-there script s x (context_at s x) formed refl h

pub can-wake_ended : (script : Script) (limits : Limits) (old new : Run) (e : Entry) → IsEnd script (state_of old.machine) e → CanEnter script limits old e → Makes script limits old e new → KnowsEnded script old new
    → CanWakeEnded script limits new
can-wake_ended script limits old new e ends can makes knows =
    let is : state_of new.machine ≡ after script (state_of old.machine) e = ap (λ (b : BookView). b.state) makes.is in
    let contexts : (x : ℕ) → has_just_ended new x ≡ true → IsTrue (is_ctx script x) =
    λ x h. ended-context script (state_of new.machine) x makes.kept.way.sound.formed
    (second (has_ended (state_of old.machine) x) (has_ended (state_of new.machine) x) (sym (knows.each x) ∙ h)) in
    record {
      kept = makes.kept;
      contexts = contexts;
      few = knows.few;
      but = subst (λ (b : BookView). IsCalmBut script b.state b.schedule (has_just_ended new)) (sym makes.is)
          (calm-cut script (state_of old.machine) (schedule_of old.scheduler) e (has_just_ended new) ends can.can.kept.way.sound.good can.can.may can.can.kept.way.sound.fits can.can.served
          (λ y. knows.each y ∙ ap (λ (t : State). not (has_ended (state_of old.machine) y) && has_ended t y) is) (λ y h. ctx_declared script y (contexts y h)) can.calm);
    }
