-- The end of a send.
use Rattle.std.proofs.Common.{◌≡◌, ℕ, ◌==◌, ◌&&◌, IsNone, IsSome, is_none, is_some, refl, sym, ap, subst, Option, None, Some, Bool, true, false, not, MatchOption, slice_get}
use Rattle.std.proofs.lemmas.Bool.{eq-eqb}
use Rattle.gt_model.specs.declared.entry.Party.{Party}
use Rattle.gt_rules.specs.State.{clock}
use Rattle.gt_rec.specs.Rec.{Rec, in_flight, is_awaited}
use Rattle.gt_rec.specs.Changes.{ended, received}
use Rattle.gt_schedule.specs.Schedule.{parties_at}
use Rattle.gt_book.specs.declared.answers.Commit.{Commit}
use Rattle.gt_book.specs.Steps.{DidCommit}
use Rattle.gt_book.specs.View.{BookView, outcome_of}
use Rattle.gt_rows.specs.declared.answers.Delivered.{Delivered}
use Rattle.gt_rows.specs.Rows.{Pair, Answers, DeliversTo, DeliversBy, DeliverRow}
use Rattle.gt_chtimer.specs.Receive.{ReceivesBy}
use Rattle.gt_chtimer.proofs.Committing.{Tells}

awaited-by : (now same none some : Bool) → now ≡ (same && none && some) → same ≡ true → none ≡ true → some ≡ true → now ≡ true
awaited-by now true true true is a b c = is
awaited-by now false none some is a b c = cc
awaited-by now true false some is a b c = cc
awaited-by now true true false is a b c = cc

pub awaited-kept : (r : Rec) (seq : ℕ) → seq ≡ r.seq → IsNone r.ready → IsSome (in_flight r) → is_awaited r seq ≡ true
awaited-kept r seq same none some = awaited-by (is_awaited r seq) (seq == r.seq) (is_none r.ready) (is_some (in_flight r)) refl (eq-eqb seq r.seq same) (ap not none) some

-- what the section answers by what became of the receive
abbrev pub TellsGiven : Party → Option Commit → Delivered → Type 0
TellsGiven p None done = done ≡ Delivered.Kept
TellsGiven p (Some did) done = Tells Delivered.Over (Delivered.Given p) did done

delivers-answer : (new : BookView) (p : Party) (did : Commit) (done : Delivered) → DidCommit new did → Tells Delivered.Over (Delivered.Given p) did done
    → Answers new Delivered.Over done (Delivered.Given p)
delivers-answer new p did done entry tells =
    elim (outcome_of new) as (λ o. MatchOption o (did ≡ Commit.Entered) (λ outcome. did ≡ Commit.Over outcome) → MatchOption o (done ≡ Delivered.Given p) (λ outcome. done ≡ Delivered.Over outcome)) [
      | None ↦ λ is. subst (λ did. Tells Delivered.Over (Delivered.Given p) did done) is tells
      | Some outcome ↦ λ is. subst (λ did. Tells Delivered.Over (Delivered.Given p) did done) is tells
    ] entry

delivers-to : (old : Pair) (r : Rec) (p : Party) (new : Pair) (done : Delivered) (did : Option Commit) (got : Option (ℕ × Option ℕ))
    → ReceivesBy r old.book p new.rec new.book did got → TellsGiven p did done → DeliversTo old r new done (Some p) got
delivers-to old r p new done (Some did) (Some got) takes tells = record { entered = takes.entered; rec = takes.rec; answer = delivers-answer new.book p did done takes.answer tells }
delivers-to old r p new done None None same tells = record { book = same.1; rec = same.0; answer = tells }
delivers-to old r p new done (Some did) None never tells = absurd never
delivers-to old r p new done None (Some got) never tells = absurd never

-- the row of a send that ends in time, where somebody waits
pub deliver-row : (old : Pair) (seq : ℕ) (r : Rec) (p : Party) (new : Pair) (done : Delivered) (did : Option Commit) → outcome_of old.book ≡ None → is_awaited old.rec seq ≡ true
    → r ≡ ended old.rec seq → slice_get (parties_at old.book.schedule.receivers r.id) 0 ≡ Some p
    → ReceivesBy r old.book p new.rec new.book did (received r (clock old.book.state 0)) → TellsGiven p did done → DeliverRow old seq new done
deliver-row old seq r p new done did running awaited is first takes tells =
    let its : DeliversTo old r new done (Some p) (received r (clock old.book.state 0)) = delivers-to old r p new done did (received r (clock old.book.state 0)) takes tells in
    let at : DeliversTo old r new done (slice_get (parties_at old.book.schedule.receivers r.id) 0) (received r (clock old.book.state 0)) =
    subst (λ o. DeliversTo old r new done o (received r (clock old.book.state 0))) (sym first) its in
    let all : DeliversBy old seq new done true =
    subst (λ r. DeliversTo old r new done (slice_get (parties_at old.book.schedule.receivers r.id) 0) (received r (clock old.book.state 0))) is at in
    let row : DeliversBy old seq new done (is_awaited old.rec seq) = subst (DeliversBy old seq new done) (sym awaited) all in
    subst (λ o. MatchOption o (DeliversBy old seq new done (is_awaited old.rec seq)) (λ outcome. (done ≡ Delivered.Over outcome) × (new ≡ old))) (sym running) row
