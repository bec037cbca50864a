use Rattle.std.proofs.Common.{rules, subst, sym, ap, ◌∙◌, ◌≡◌, Some, is_some}
use Rattle.gt_schedule.specs.declared.status.RunStatus.{RunStatus}
use Rattle.gt_schedule.specs.Schedule.{status_of}
use Rattle.gt_book.specs.View.{BookView}
use Rattle.gt_book.specs.Book.{seen}
use Rattle.gt_book.specs.Steps.{step_of}
use Rattle.gt_book.proofs.Going.{in_hand-steps}
use Rattle.gt_book.proofs.book.Book.next_step.Goals as goal

pub unwrap-requires : goal.unwrap-requires
unwrap-requires c =
    let in_hand : status_of (seen c.self.inside).schedule c.args.g ≡ Some RunStatus.InHand =
    subst (λ (v : BookView). status_of v.schedule c.args.g ≡ Some RunStatus.InHand) (sym c.self.view_is) c.requires in
    ap is_some c.next_step.ensures ∙ in_hand-steps (seen c.self.inside) c.args.g c.self.invariant.lawful in_hand

pub returns : goal.returns
returns c =
    let found : c.next_step.result ≡ Some c.unwrap.result = search rules in
    subst (λ (v : BookView). step_of v.script v.state v.schedule c.args.g ≡ Some c.unwrap.result) c.self.view_is
    (sym c.next_step.ensures ∙ found)
