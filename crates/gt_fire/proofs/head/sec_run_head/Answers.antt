use Rattle.std.proofs.Common.{◌∙◌, ℕ, ◌≤◌, sym, subst, refl}
use Rattle.gt_rules.specs.State.{clock}
use Rattle.gt_rec.specs.Rec.{Rec}
use Rattle.gt_fire.specs.Fires.{MayFire, FiredAs}
use Rattle.gt_lazy.specs.Slots.{Scans}
use Rattle.gt_lazy.specs.Running.{UnlessNotDue}
use Rattle.gt_rows.specs.Rows.{Parts}
use Rattle.gt_fire.proofs.Heads.{fired-row, fires-may, kept-shows, dropped-shows, kept-fired}
use Rattle.gt_fire.proofs.head.sec_run_head.Goals as goal

pub fire-requires : goal.fire-requires
fire-requires c =
    let r : Rec = c.args.rec.now in
    let fired = c.in-Fired.ensures.fired in
    let come : c.in-Fired.due ≤ clock c.args.book.now.state 0 = subst (λ now. c.in-Fired.due ≤ now) c.clock_of-now.ensures fired.1 in
    let may : MayFire c.args.book.now r.id r.kind =
    fires-may c.args.book.now r c.in-Fired.due r.kind c.lawful.ensures.lawful (sym c.outcome.ensures ∙ c.in_default.is) c.requires.lent.rec.agrees c.lawful-2.ensures refl fired.0 come in
    subst (λ (r : Rec). MayFire c.args.book.now r.id r.kind) (sym c.rec.view_is) may

pub returns-in-Stale-clause-kept : goal.returns-in-Stale-clause-kept
returns-in-Stale-clause-kept c =
    kept-shows c.args.book.now c.run_head.new.self c.args.rec.now c.run_head.new.rec c.clock_of-now.result c.requires.lent.rec c.run_head.ensures.record
    c.in-Stale.ensures.kept.1 c.run_head.ensures.settled c.run_head.ensures.bits

pub returns-in-Dropped-clause-kept : goal.returns-in-Dropped-clause-kept
returns-in-Dropped-clause-kept c =
    let now : ℕ = c.clock_of-now.result in
    kept-shows c.args.book.now c.run_head.new.self c.args.rec.now c.run_head.new.rec now c.requires.lent.rec c.run_head.ensures.record
    (dropped-shows c.args.rec.now c.run_head.new.rec now (λ due. due ≤ now) (sym c.in-Dropped.ensures.answer) c.run_head.ensures.record (c.in-Dropped.ensures.dropped refl).0)
    c.run_head.ensures.settled c.run_head.ensures.bits

pub returns-in-Fired-clause-kept : goal.returns-in-Fired-clause-kept
returns-in-Fired-clause-kept c =
    let r : Rec = c.args.rec.now in
    let fired : FiredAs c.args.book.now r.id c.in-Fired.seq c.fire.new.book c.fire.result r.kind =
    subst (λ (r : Rec). FiredAs c.args.book.now r.id c.in-Fired.seq c.fire.new.book c.fire.result r.kind) c.rec.view_is c.fire.ensures in
    kept-fired c.args.book.now c.in-Fired.seq c.fire.new.book c.fire.result r.kind c.run_head.new.self r c.run_head.new.rec c.clock_of-now.result c.in-Fired.due c.in-Fired.seq c.in-Fired.next
    c.lawful.ensures.lawful c.requires.lent.rec c.lawful-2.ensures refl fired (sym c.in-Fired.ensures.answer) c.run_head.ensures.record c.in-Fired.ensures.fired.0
    c.run_head.ensures.settled c.run_head.ensures.bits

pub returns-in-Fired-clause-row : goal.returns-in-Fired-clause-row
returns-in-Fired-clause-row c =
    let r : Rec = c.args.rec.now in
    let old : Parts = record { heap = c.args.heap.now; rec = c.args.rec.now; book = c.args.book.now } in
    let new : Parts = record { heap = c.run_head.new.self; rec = c.run_head.new.rec; book = c.fire.new.book } in
    let fired : FiredAs c.args.book.now r.id c.in-Fired.seq c.fire.new.book c.fire.result r.kind =
    subst (λ (r : Rec). FiredAs c.args.book.now r.id c.in-Fired.seq c.fire.new.book c.fire.result r.kind) c.rec.view_is c.fire.ensures in
    let scans : Scans c.args.heap.now c.run_head.new.self 0 c.args.rec.now c.run_head.new.rec =
    subst (λ a. UnlessNotDue a (Scans c.args.heap.now c.run_head.new.self 0 c.args.rec.now c.run_head.new.rec)) c.in-Fired.is c.run_head.ensures.scans in
    fired-row old new c.fire.result c.clock_of-now.result c.in-Fired.due c.in-Fired.seq c.in-Fired.next (sym c.outcome.ensures ∙ c.in_default.is) c.clock_of-now.ensures
    (sym c.in-Fired.ensures.answer) c.run_head.ensures.record scans fired
