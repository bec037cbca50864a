use Rattle.std.proofs.Common.{◌≡◌, Some, sym, ap, ◌∙◌, rules}
use Rattle.gt_rules.specs.State.{clock}
use Rattle.gt_rec.specs.Rec.{Rec}
use Rattle.gt_rec.specs.Fields.{rec_of}
use Rattle.gt_rec.specs.Changes.{received, taken}
use Rattle.gt_chtimer.proofs.Receiving.{ReceiveComes, receive-comes, receive-kept, receive-row}
use Rattle.gt_chtimer.proofs.receive.receive.Goals as goal

pub commit-requires : goal.commit-requires
commit-requires c =
    let is : received c.args.rec.now (clock c.args.book.now.state 0) ≡ Some (c.in_ok-due.due, c.in_ok-due.next) = search rules in
    let now : rec_of c.rec.inside ≡ taken c.args.rec.now c.in_ok-due.next = search rules in
    let its : c.rec.inside.id ≡ c.args.rec.now.id = ap (λ (r : Rec). r.id) now in
    let comes : ReceiveComes c.args.book.now c.args.p c.rec.inside.id c.in_ok-due.due c.in_ok-due.next =
    receive-comes c.args.book.now c.args.rec.now c.args.p c.rec.inside.id c.in_ok-due.due c.in_ok-due.next c.lawful.ensures.lawful c.requires.running c.requires.lent c.requires.channel c.requires.waits its is in
    λ in_time. comes.may

pub returns-clause-kept : goal.returns-clause-kept
returns-clause-kept c =
    let is : received c.args.rec.now (clock c.args.book.now.state 0) ≡ Some (c.in_ok-due.due, c.in_ok-due.next) = search rules in
    let now : rec_of c.rec.inside ≡ taken c.args.rec.now c.in_ok-due.next = search rules in
    let its : c.rec.inside.id ≡ c.args.rec.now.id = ap (λ (r : Rec). r.id) now in
    let comes : ReceiveComes c.args.book.now c.args.p c.rec.inside.id c.in_ok-due.due c.in_ok-due.next =
    receive-comes c.args.book.now c.args.rec.now c.args.p c.rec.inside.id c.in_ok-due.due c.in_ok-due.next c.lawful.ensures.lawful c.requires.running c.requires.lent c.requires.channel c.requires.waits its is in
    receive-kept c.args.book.now c.args.rec.now c.args.p c.rec.inside.id c.in_ok-due.due c.in_ok-due.next c.take_ready.new.self c.commit.new.self c.commit.result c.lawful.ensures.lawful c.requires.lent
    c.requires.channel comes its (sym c.rec.view_is ∙ now) (search rules) c.take_ready.ensures.bits c.commit.ensures

pub returns-clause-received : goal.returns-clause-received
returns-clause-received c =
    let is : received c.args.rec.now (clock c.args.book.now.state 0) ≡ Some (c.in_ok-due.due, c.in_ok-due.next) = search rules in
    let now : rec_of c.rec.inside ≡ taken c.args.rec.now c.in_ok-due.next = search rules in
    let its : c.rec.inside.id ≡ c.args.rec.now.id = ap (λ (r : Rec). r.id) now in
    let comes : ReceiveComes c.args.book.now c.args.p c.rec.inside.id c.in_ok-due.due c.in_ok-due.next =
    receive-comes c.args.book.now c.args.rec.now c.args.p c.rec.inside.id c.in_ok-due.due c.in_ok-due.next c.lawful.ensures.lawful c.requires.running c.requires.lent c.requires.channel c.requires.waits its is in
    receive-row c.args.book.now c.args.rec.now c.args.p c.rec.inside.id c.in_ok-due.due c.in_ok-due.next c.take_ready.new.self c.commit.new.self c.commit.result comes its (sym c.rec.view_is ∙ now) is
    c.commit.ensures
