-- A goroutine that comes to wait at a timer.
use Rattle.std.proofs.Common.{◌≡◌, ℕ, refl, sym, ap, subst, ◌∙◌, Option, None, Some, MatchOption, Bool, true, false}
use Rattle.gt_model.specs.declared.entry.Party.{Party}
use Rattle.gt_rules.specs.State.{clock, stands_at}
use Rattle.gt_rec.specs.Rec.{Rec}
use Rattle.gt_rec.specs.Changes.{received}
use Rattle.gt_lazy.specs.Slots.{LazyHeap}
use Rattle.gt_schedule.specs.Schedule.{is_parked, IsLive}
use Rattle.gt_schedule.specs.declared.status.Ticket.{Ticket}
use Rattle.gt_book.specs.declared.answers.Commit.{Commit}
use Rattle.gt_book.specs.Steps.{DidCommit}
use Rattle.gt_book.proofs.Wanting.{operates-wanted}
use Rattle.gt_book.specs.View.{BookView, outcome_of, receiver_of, stands_for, wants, is_parked_at, is_waiting}
use Rattle.gt_book.proofs.Committing.{receiver-at}
use Rattle.gt_model.specs.declared.script.CaseKind.{CaseKind}
use Rattle.gt_rules.specs.Operations.{offers, receives_from}
use Rattle.std.proofs.lemmas.Bool.{and_from, eq-eqb}
use Rattle.gt_rows.specs.declared.answers.BlockDone.{BlockDone}
use Rattle.gt_rows.specs.Lent.{IsPlaced}
use Rattle.gt_rows.specs.Rows.{Parts, Answers, Blocks, BlocksBy, BlockCases, BlockRow}
use Rattle.gt_chtimer.specs.Receive.{Takes, ReceivesBy}
use Rattle.gt_chtimer.proofs.Committing.{Tells}

-- nothing was received
pub record Empty (r : Rec) (b : BookView) (r' : Rec) (b' : BookView) (got : Option (ℕ × Option ℕ)) : Type 0 where
  pub none : got ≡ None
  pub rec : r' ≡ r
  pub book : b' ≡ b

empty : (r : Rec) (b : BookView) (p : Party) (r' : Rec) (b' : BookView) (got : Option (ℕ × Option ℕ)) → ReceivesBy r b p r' b' None got → Empty r b r' b' got
empty r b p r' b' None same = record { none = refl; rec = same.0; book = same.1 }
empty r b p r' b' (Some got) never = absurd never

pub empty-by : (r : Rec) (b : BookView) (p : Party) (r' : Rec) (b' : BookView) (did : Option Commit) (got : Option (ℕ × Option ℕ)) → did ≡ None → ReceivesBy r b p r' b' did got
    → Empty r b r' b' got
empty-by r b p r' b' did got is tried = empty r b p r' b' got (subst (λ did. ReceivesBy r b p r' b' did got) is tried)

-- something was received
pub record Full (r : Rec) (b : BookView) (p : Party) (r' : Rec) (b' : BookView) (did : Commit) (got : Option (ℕ × Option ℕ)) : Type 0 where
  pub value : ℕ × Option ℕ
  pub is : got ≡ Some value
  pub takes : Takes r b p value.0 value.1 r' b' did

pub full : (r : Rec) (b : BookView) (p : Party) (r' : Rec) (b' : BookView) (did : Commit) (got : Option (ℕ × Option ℕ)) → ReceivesBy r b p r' b' (Some did) got
    → Full r b p r' b' did got
full r b p r' b' did None never = absurd never
full r b p r' b' did (Some got) takes = record { value = got; is = refl; takes = takes }

-- by the ticket, which is live
block-live : (old : Parts) (ticket : Ticket) (new : Parts) (done : BlockDone) → outcome_of old.book ≡ None → IsLive old.book.schedule ticket
    → BlocksBy old ticket.g new done (received old.rec (clock old.book.state 0)) → BlockRow old ticket new done
block-live old ticket new done running live cases =
    let row : BlockCases old ticket new done = record { live = λ _. cases; gone = λ not_live. absurd (not_live live) } in
    subst (λ o. MatchOption o (BlockCases old ticket new done) (λ outcome. (done ≡ BlockDone.Over outcome) × (new ≡ old))) (sym running) row

pub block-counts : (old : Parts) (ticket : Ticket) (r : Rec) (book : BookView) (new : Parts) (done : BlockDone) → outcome_of old.book ≡ None → IsLive old.book.schedule ticket
    → Empty old.rec old.book r book (received old.rec (clock old.book.state 0)) → Blocks (record { heap = old.heap; rec = r; book = book }) ticket.g new done → BlockRow old ticket new done
block-counts old ticket r book new done running live e blocks =
    let at_book : Blocks (record { heap = old.heap; rec = r; book = old.book }) ticket.g new done = subst (λ b. Blocks (record { heap = old.heap; rec = r; book = b }) ticket.g new done) e.book blocks in
    let at_rec : Blocks old ticket.g new done = subst (λ r. Blocks (record { heap = old.heap; rec = r; book = old.book }) ticket.g new done) e.rec at_book in
    block-live old ticket new done running live (subst (BlocksBy old ticket.g new done) (sym e.none) at_rec)

block-answer : (new : BookView) (did : Commit) (done : BlockDone) → DidCommit new did → Tells BlockDone.Over BlockDone.Received did done → Answers new BlockDone.Over done BlockDone.Received
block-answer new did done entry tells =
    elim (outcome_of new) as (λ o. MatchOption o (did ≡ Commit.Entered) (λ outcome. did ≡ Commit.Over outcome) → MatchOption o (done ≡ BlockDone.Received) (λ outcome. done ≡ BlockDone.Over outcome)) [
      | None ↦ λ is. subst (λ did. Tells BlockDone.Over BlockDone.Received did done) is tells
      | Some outcome ↦ λ is. subst (λ did. Tells BlockDone.Over BlockDone.Received did done) is tells
    ] entry

pub block-receives : (old : Parts) (ticket : Ticket) (r : Rec) (book : BookView) (did : Option Commit) (commit : Commit) (done : BlockDone) → outcome_of old.book ≡ None → IsLive old.book.schedule ticket
    → did ≡ Some commit → ReceivesBy old.rec old.book (receiver_of old.book.script old.book.state ticket.g old.rec.id) r book did (received old.rec (clock old.book.state 0)) → Tells BlockDone.Over BlockDone.Received commit done
    → BlockRow old ticket (record { heap = old.heap; rec = r; book = book }) done
block-receives old ticket r book did commit done running live is tried tells =
    let now : Option (ℕ × Option ℕ) = received old.rec (clock old.book.state 0) in
    let f : Full old.rec old.book (receiver_of old.book.script old.book.state ticket.g old.rec.id) r book commit now =
    full old.rec old.book (receiver_of old.book.script old.book.state ticket.g old.rec.id) r book commit now (subst (λ did. ReceivesBy old.rec old.book (receiver_of old.book.script old.book.state ticket.g old.rec.id) r book did now) is tried) in
    block-live old ticket (record { heap = old.heap; rec = r; book = book }) done running live
    (subst (BlocksBy old ticket.g (record { heap = old.heap; rec = r; book = book }) done) (sym f.is)
    (record { entered = f.takes.entered; rec = f.takes.rec; heap = refl; answer = block-answer book commit done f.takes.answer tells }))

-- a receive leaves the record where it is
pub placed-received : (h : LazyHeap) (r : Rec) (b : BookView) (p : Party) (r' : Rec) (b' : BookView) (did : Option Commit) (commit : Commit) (got : Option (ℕ × Option ℕ)) → did ≡ Some commit
    → ReceivesBy r b p r' b' did got → IsPlaced h r → IsPlaced h r'
placed-received h r b p r' b' did commit got is tried placed =
    let f : Full r b p r' b' commit got = full r b p r' b' commit got (subst (λ did. ReceivesBy r b p r' b' did got) is tried) in
    subst (IsPlaced h) (sym f.takes.rec) (record { here = placed.here; elsewhere = placed.elsewhere })

-- a goroutine that is parked where it receives from a timer is parked there as the party that receives
at-receiver : (b : BookView) (g t : ℕ) → stands_for b.script b.state g t ≡ true → wants b.script b.state (receiver_of b.script b.state g t) (receives_from t) ≡ true
at-receiver b g t waits =
    elim (stands_at b.script b.state g) as (λ o. stands_at b.script b.state g ≡ o → (elim o as (λ o. Bool) [ None ↦ false | Some i ↦ offers (receives_from t) i ]) ≡ true
    → wants b.script b.state (receiver_of b.script b.state g t) (receives_from t) ≡ true) [
      | None ↦ λ e h. cc
      | Some i ↦ λ e h.
          ap (λ (o : Option CaseKind). elim o as (λ o. Bool) [ None ↦ false | Some kind ↦ receives_from t kind ])
          (operates-wanted b.script b.state (receiver_of b.script b.state g t) (CaseKind.Recv t) (receiver-at b.script b.state g t i e h)) ∙ eq-eqb t t refl
    ] refl waits

pub parked-receiver : (b : BookView) (ticket : Ticket) (t : ℕ) → IsLive b.schedule ticket → stands_for b.script b.state ticket.g t ≡ true
    → is_parked_at b.script b.state b.schedule (receiver_of b.script b.state ticket.g t) (receives_from t) ≡ true
parked-receiver b ticket t live waits =
    and_from (is_waiting b.schedule ticket.g) _ (ap is_parked live) (at-receiver b ticket.g t waits)
