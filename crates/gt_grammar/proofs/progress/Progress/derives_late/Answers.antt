use Rattle.std.proofs.Common.{◌≡◌, true, ◌&&◌, sym, ap, ◌∙◌}
use Rattle.gt_table.specs.declared.form.Form.{Form}
use Rattle.gt_table.specs.Forms.{is_parent}
use Rattle.gt_table.specs.Table.{form_of}
use Rattle.gt_grammar.specs.Progress.{Progress}
use Rattle.gt_grammar.specs.Faults.{is_late}
use Rattle.gt_grammar.proofs.progress.Progress.derives_late.Goals as goal

pub returns-then-is_parent : goal.returns-then-is_parent
returns-then-is_parent c =
    let s = c.args.s.now in
    let parent : is_parent (form_of s.keyword).second ≡ true =
    ap (λ (f : Form). is_parent f.second) (sym c.form.ensures) ∙ sym c.is_parent.ensures ∙ c.if-is_parent.true in
    c.is_late.ensures ∙ ap (λ (p : Progress). is_late p.names s.second) c.self.view_is
    ∙ sym (ap (λ b. b && is_late c.args.self.now.names s.second) parent)
