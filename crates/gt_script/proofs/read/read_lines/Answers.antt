use Rattle.std.proofs.Common.{◌≡◌, ◌∷◌, Some, refl, sym, subst, ◌∙◌}
use Rattle.gt_model.specs.declared.script.Script.{Script}
use Rattle.gt_lines.specs.Words.{numbered_lines}
use Rattle.gt_lines.specs.Lines.{line_at, lines_at}
use Rattle.gt_lines.proofs.Ahead.{lines-ahead, last-is}
use Rattle.gt_names.specs.Known.{known}
use Rattle.gt_grammar.specs.declared.fault.ScriptFault.{ScriptFault}
use Rattle.gt_grammar.specs.Faults.{fault_from, fault_in_lines, no_progress}
use Rattle.gt_grammar.proofs.Good.{good-read}
use Rattle.gt_script.specs.declared.unread.Unread.{Unread}
use Rattle.gt_script.specs.Unread.{IfRefused}
use Rattle.gt_script.proofs.ReadingLemmas.{head-fault, head-right, script-is, on-ok, if-ok, if-err_refused}
use Rattle.gt_script.proofs.read.read_lines.Goals as goal

pub returns-in-Some-head_cause-clause-fault : goal.returns-in-Some-head_cause-clause-fault
returns-in-Some-head_cause-clause-fault c =
    let all : numbered_lines c.args.text.now ≡ line_at c.in-Some.head ∷ lines_at c.next_line-ahead.result =
    sym c.in-Some.ensures.next ∙ lines-ahead (Some c.in-Some.head) c.next_line-ahead.result c.in-Some.head c.saturating_add.result refl c.next_line-ahead.ensures.next c.saturating_add.ensures in
    let P : Unread → Type 0 = λ u. IfRefused u (λ fault. fault_in_lines (numbered_lines c.args.text.now) ≡ Some fault) in
    subst P (sym c.refused-in-Some-head_cause.ensures)
    (head-fault (numbered_lines c.args.text.now) (known c.in-Ok.names) (line_at c.in-Some.head) (lines_at c.next_line-ahead.result) c.is_none.result c.in-Some-head_cause.why
    all c.in-Ok.ensures (last-is c.next_line-ahead.result c.is_none.result c.is_none.ensures) c.in-Some-head_cause.ensures)

pub returns-clause-faultless : goal.returns-clause-faultless
returns-clause-faultless c =
    let all : numbered_lines c.args.text.now ≡ line_at c.in-Some.head ∷ lines_at c.next_line-ahead.result =
    sym c.in-Some.ensures.next ∙ lines-ahead (Some c.in-Some.head) c.next_line-ahead.result c.in-Some.head c.saturating_add.result refl c.next_line-ahead.ensures.next c.saturating_add.ensures in
    on-ok c.read_body.result
    (λ h. head-right (numbered_lines c.args.text.now) (known c.in-Ok.names) (line_at c.in-Some.head) (lines_at c.next_line-ahead.result) c.is_none.result
    all c.in-Ok.ensures (last-is c.next_line-ahead.result c.is_none.result c.is_none.ensures) c.in-None.ensures ∙ h)
    c.read_body.ensures.faultless

pub returns-clause-read : goal.returns-clause-read
returns-clause-read c =
    let all : numbered_lines c.args.text.now ≡ line_at c.in-Some.head ∷ lines_at c.next_line-ahead.result =
    sym c.in-Some.ensures.next ∙ lines-ahead (Some c.in-Some.head) c.next_line-ahead.result c.in-Some.head c.saturating_add.result refl c.next_line-ahead.ensures.next c.saturating_add.ensures in
    if-ok c.read_body.result
    (λ (s : Script) h. h ∙ script-is (numbered_lines c.args.text.now) (known c.in-Ok.names) (line_at c.in-Some.head) (lines_at c.next_line-ahead.result) all c.in-Ok.ensures)
    c.read_body.ensures.read

pub returns-clause-fault : goal.returns-clause-fault
returns-clause-fault c =
    let all : numbered_lines c.args.text.now ≡ line_at c.in-Some.head ∷ lines_at c.next_line-ahead.result =
    sym c.in-Some.ensures.next ∙ lines-ahead (Some c.in-Some.head) c.next_line-ahead.result c.in-Some.head c.saturating_add.result refl c.next_line-ahead.ensures.next c.saturating_add.ensures in
    if-err_refused
    (λ (f : ScriptFault). fault_from (known c.in-Ok.names) no_progress (lines_at c.next_line-ahead.result) ≡ Some f)
    (λ (f : ScriptFault). fault_in_lines (numbered_lines c.args.text.now) ≡ Some f)
    c.read_body.result
    (λ f h. head-right (numbered_lines c.args.text.now) (known c.in-Ok.names) (line_at c.in-Some.head) (lines_at c.next_line-ahead.result) c.is_none.result
    all c.in-Ok.ensures (last-is c.next_line-ahead.result c.is_none.result c.is_none.ensures) c.in-None.ensures ∙ h)
    c.read_body.ensures.fault

pub returns-clause-good : goal.returns-clause-good
returns-clause-good c = good-read c.read_body.result (numbered_lines c.args.text.now) (returns-clause-faultless c) (returns-clause-read c)
