use Rattle.std.proofs.Common.{◌≡◌, ◌∷◌, List, Some, sym, ap, ◌∙◌}
use Rattle.gt_lines.specs.Words.{NumberedLine, is_end}
use Rattle.gt_lines.specs.Lines.{line_at, lines_at}
use Rattle.gt_lines.proofs.Ahead.{lines-ahead, last-is}
use Rattle.gt_names.specs.Known.{known}
use Rattle.gt_names.specs.Names.{Names}
use Rattle.gt_grammar.specs.declared.fault.ScriptFault.{ScriptFault}
use Rattle.gt_grammar.specs.Progress.{Progress}
use Rattle.gt_grammar.specs.Faults.{fault_from, cause_at, no_progress}
use Rattle.gt_grammar.proofs.RightLines.{outside}
use Rattle.gt_script.specs.Reading.{script_left}
use Rattle.gt_script.proofs.ReadingLemmas.{fault-here, fault-later, if-refused}
use Rattle.gt_script.proofs.read.read_body.Goals as goal

pub returns-in-Err-clause-fault : goal.returns-in-Err-clause-fault
returns-in-Err-clause-fault c =
    let names : Names = known c.args.names.now in
    let p : Progress = c.loop-ahead.reader.progress in
    let left : lines_at c.loop-ahead.ahead ≡ line_at c.in-Some.line ∷ lines_at c.next_line-ahead.result =
    lines-ahead c.loop-ahead.ahead c.next_line-ahead.result c.in-Some.line c.saturating_add.result c.in-Some.is c.next_line-ahead.ensures.next c.saturating_add.ensures in
    if-refused
    (λ (f : ScriptFault). (f.line ≡ c.in-Some.line.number) × (cause_at names c.is_none.result p (line_at c.in-Some.line) ≡ Some f.why))
    (λ (f : ScriptFault). fault_from names no_progress (lines_at c.args.first) ≡ Some f)
    c.in-Err.unread
    (λ f h. sym c.loop-ahead.invariant.fault ∙ ap (fault_from names p) left
    ∙ fault-here names p (line_at c.in-Some.line) (lines_at c.next_line-ahead.result) c.is_none.result f
    (last-is c.next_line-ahead.result c.is_none.result c.is_none.ensures) h.0 h.1)
    c.in-Err.ensures.fault

pub loop-ahead-preserved : goal.loop-ahead-preserved
loop-ahead-preserved c =
    let names : Names = known c.args.names.now in
    let old = c.loop-ahead.reader in
    let p : Progress = c.loop-ahead.reader.progress in
    let line : NumberedLine = line_at c.in-Some.line in
    let rest : List NumberedLine = lines_at c.next_line-ahead.result in
    let left : lines_at c.loop-ahead.ahead ≡ line ∷ rest =
    lines-ahead c.loop-ahead.ahead c.next_line-ahead.result c.in-Some.line c.saturating_add.result c.in-Some.is c.next_line-ahead.ensures.next c.saturating_add.ensures in
    let last : c.is_none.result ≡ is_end rest = last-is c.next_line-ahead.result c.is_none.result c.is_none.ensures in
    let none = c.in_default-read.ensures.faultless in
    let progress = c.in_default-read.ensures.progress in
    record {
      fault = ap (λ (q : Progress). fault_from names q rest) progress ∙ sym (fault-later names p line rest c.is_none.result last none) ∙ sym (ap (fault_from names p) left) ∙ c.loop-ahead.invariant.fault;
      script = c.in_default-read.ensures.built rest
          ∙ ap (script_left names p.inside old.built) (sym left) ∙ c.loop-ahead.invariant.script;
      outside = λ e. ap (λ (q : Progress). q.inside) progress ∙ outside names p line c.is_none.result (last ∙ e) none;
      agrees = c.in_default-read.ensures.agrees;
    }
