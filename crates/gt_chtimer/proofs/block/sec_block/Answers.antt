use Rattle.std.proofs.Common.{◌≡◌, None, IsTrue, sym, ap, ◌∙◌, subst, rules, refl, true}
use Rattle.gt_rules.specs.State.{clock}
use Rattle.gt_rec.specs.Rec.{Rec}
use Rattle.gt_rec.specs.Changes.{received}
use Rattle.gt_schedule.specs.Schedule.{IsLive, HasMarkRoom}
use Rattle.gt_book.specs.View.{BookView, stands_for, receiver_of, is_parked_at, outcome_of}
use Rattle.gt_rules.specs.Operations.{receives_from}
use Rattle.gt_rows.specs.Lent.{IsLent}
use Rattle.gt_rows.specs.declared.answers.BlockDone.{BlockDone}
use Rattle.gt_chtimer.specs.Receive.{ReceivesBy}
use Rattle.gt_chtimer.proofs.Committing.{tells-over, tells-fine}
use Rattle.gt_chtimer.proofs.Blocking.{parked-receiver, Empty, empty-by, block-counts, block-receives, placed-received}
use Rattle.gt_chtimer.proofs.block.sec_block.Goals as goal

pub receive-requires-clause-waits : goal.receive-requires-clause-waits
receive-requires-clause-waits c =
    let live : IsLive c.args.book.now.schedule c.args.ticket = search rules in
    let is : c.receiver-p.result ≡ receiver_of c.args.book.now.script c.args.book.now.state c.args.ticket.g c.args.rec.now.id =
    c.receiver-p.ensures ∙ ap (λ (r : Rec). receiver_of c.args.book.now.script c.args.book.now.state c.args.ticket.g r.id) c.rec.view_is in
    subst (λ p. is_parked_at c.args.book.now.script c.args.book.now.state c.args.book.now.schedule p (receives_from c.args.rec.now.id) ≡ true) (sym is)
    (parked-receiver c.args.book.now c.args.ticket c.args.rec.now.id live (c.requires.waits live))

pub count-requires-clause-lent : goal.count-requires-clause-lent
count-requires-clause-lent c =
    let e : Empty c.args.rec.now c.args.book.now c.receive.new.rec c.receive.new.book (received c.args.rec.now (clock c.args.book.now.state 0)) =
    empty-by c.args.rec.now c.args.book.now c.receiver-p.result c.receive.new.rec c.receive.new.book c.receive.result (received c.args.rec.now (clock c.args.book.now.state 0))
    c.in_default-receive.is c.receive.ensures.received in
    subst (λ b. IsLent b c.args.heap.now c.receive.new.rec) (sym e.book) (subst (IsLent c.args.book.now c.args.heap.now) (sym e.rec) c.requires.lent)

pub count-requires-clause-live : goal.count-requires-clause-live
count-requires-clause-live c =
    let e : Empty c.args.rec.now c.args.book.now c.receive.new.rec c.receive.new.book (received c.args.rec.now (clock c.args.book.now.state 0)) =
    empty-by c.args.rec.now c.args.book.now c.receiver-p.result c.receive.new.rec c.receive.new.book c.receive.result (received c.args.rec.now (clock c.args.book.now.state 0))
    c.in_default-receive.is c.receive.ensures.received in
    let live : IsLive c.args.book.now.schedule c.args.ticket = search rules in
    subst (λ (b : BookView). IsLive b.schedule c.args.ticket) (sym e.book) live

pub count-requires-clause-waits : goal.count-requires-clause-waits
count-requires-clause-waits c =
    let e : Empty c.args.rec.now c.args.book.now c.receive.new.rec c.receive.new.book (received c.args.rec.now (clock c.args.book.now.state 0)) =
    empty-by c.args.rec.now c.args.book.now c.receiver-p.result c.receive.new.rec c.receive.new.book c.receive.result (received c.args.rec.now (clock c.args.book.now.state 0))
    c.in_default-receive.is c.receive.ensures.received in
    let live : IsLive c.args.book.now.schedule c.args.ticket = search rules in
    subst (λ (b : BookView). IsTrue (stands_for b.script b.state c.args.ticket.g c.receive.new.rec.id)) (sym e.book)
    (subst (λ (r : Rec). IsTrue (stands_for c.args.book.now.script c.args.book.now.state c.args.ticket.g r.id)) (sym e.rec) (c.requires.waits live))

pub count-requires-clause-room : goal.count-requires-clause-room
count-requires-clause-room c =
    let e : Empty c.args.rec.now c.args.book.now c.receive.new.rec c.receive.new.book (received c.args.rec.now (clock c.args.book.now.state 0)) =
    empty-by c.args.rec.now c.args.book.now c.receiver-p.result c.receive.new.rec c.receive.new.book c.receive.result (received c.args.rec.now (clock c.args.book.now.state 0))
    c.in_default-receive.is c.receive.ensures.received in
    let live : IsLive c.args.book.now.schedule c.args.ticket = search rules in
    subst (λ (b : BookView). HasMarkRoom b.schedule c.args.ticket.g) (sym e.book) (c.requires.room live)

pub returns-in_default-receive-clause-row : goal.returns-in_default-receive-clause-row
returns-in_default-receive-clause-row c =
    let e : Empty c.args.rec.now c.args.book.now c.receive.new.rec c.receive.new.book (received c.args.rec.now (clock c.args.book.now.state 0)) =
    empty-by c.args.rec.now c.args.book.now c.receiver-p.result c.receive.new.rec c.receive.new.book c.receive.result (received c.args.rec.now (clock c.args.book.now.state 0))
    c.in_default-receive.is c.receive.ensures.received in
    let running : outcome_of c.args.book.now ≡ None = search rules in
    let live : IsLive c.args.book.now.schedule c.args.ticket = search rules in
    block-counts (record { heap = c.args.heap.now; rec = c.args.rec.now; book = c.args.book.now }) c.args.ticket c.receive.new.rec c.receive.new.book
    (record { heap = c.count.new.heap; rec = c.count.new.rec; book = c.count.new.book }) c.count.result running live e c.count.ensures.row

pub returns-in-Over : goal.returns-in-Over
returns-in-Over c =
    let running : outcome_of c.args.book.now ≡ None = search rules in
    let live : IsLive c.args.book.now.schedule c.args.ticket = search rules in
    let now : ReceivesBy c.args.rec.now c.args.book.now (receiver_of c.args.book.now.script c.args.book.now.state c.args.ticket.g c.args.rec.now.id) c.receive.new.rec c.receive.new.book c.receive.result (received c.args.rec.now (clock c.args.book.now.state 0)) =
    subst (λ p. ReceivesBy c.args.rec.now c.args.book.now p c.receive.new.rec c.receive.new.book c.receive.result (received c.args.rec.now (clock c.args.book.now.state 0))) (c.receiver-p.ensures ∙ ap (λ (r : Rec). receiver_of c.args.book.now.script c.args.book.now.state c.args.ticket.g r.id) c.rec.view_is) c.receive.ensures.received in
    record {
      row = block-receives (record { heap = c.args.heap.now; rec = c.args.rec.now; book = c.args.book.now }) c.args.ticket c.receive.new.rec c.receive.new.book c.receive.result c.in-Some-receive.commit
          (BlockDone.Over c.in-Over.outcome) running live c.in-Some-receive.is now (tells-over BlockDone.Over BlockDone.Received c.in-Some-receive.commit c.in-Over.outcome (BlockDone.Over c.in-Over.outcome) c.in-Over.is refl);
      kept = record {
        rec = c.receive.ensures.kept;
        placed = placed-received c.args.heap.now c.args.rec.now c.args.book.now (receiver_of c.args.book.now.script c.args.book.now.state c.args.ticket.g c.args.rec.now.id) c.receive.new.rec c.receive.new.book c.receive.result c.in-Some-receive.commit
            (received c.args.rec.now (clock c.args.book.now.state 0)) c.in-Some-receive.is now c.requires.lent.placed;
      };
    }

pub returns-in-Entered : goal.returns-in-Entered
returns-in-Entered c =
    let running : outcome_of c.args.book.now ≡ None = search rules in
    let live : IsLive c.args.book.now.schedule c.args.ticket = search rules in
    let now : ReceivesBy c.args.rec.now c.args.book.now (receiver_of c.args.book.now.script c.args.book.now.state c.args.ticket.g c.args.rec.now.id) c.receive.new.rec c.receive.new.book c.receive.result (received c.args.rec.now (clock c.args.book.now.state 0)) =
    subst (λ p. ReceivesBy c.args.rec.now c.args.book.now p c.receive.new.rec c.receive.new.book c.receive.result (received c.args.rec.now (clock c.args.book.now.state 0))) (c.receiver-p.ensures ∙ ap (λ (r : Rec). receiver_of c.args.book.now.script c.args.book.now.state c.args.ticket.g r.id) c.rec.view_is) c.receive.ensures.received in
    record {
      row = block-receives (record { heap = c.args.heap.now; rec = c.args.rec.now; book = c.args.book.now }) c.args.ticket c.receive.new.rec c.receive.new.book c.receive.result c.in-Some-receive.commit
          BlockDone.Received running live c.in-Some-receive.is now (tells-fine BlockDone.Over BlockDone.Received c.in-Some-receive.commit BlockDone.Received c.in-Entered.is refl);
      kept = record {
        rec = c.receive.ensures.kept;
        placed = placed-received c.args.heap.now c.args.rec.now c.args.book.now (receiver_of c.args.book.now.script c.args.book.now.state c.args.ticket.g c.args.rec.now.id) c.receive.new.rec c.receive.new.book c.receive.result c.in-Some-receive.commit
            (received c.args.rec.now (clock c.args.book.now.state 0)) c.in-Some-receive.is now c.requires.lent.placed;
      };
    }
