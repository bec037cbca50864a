use Rattle.std.proofs.Common.{◌≡◌, ℕ, take, Some, ap, ◌∙◌, arith}
use Rattle.gt_model.specs.declared.script.Script.{Script}
use Rattle.gt_lines.specs.Words.{numbered_lines}
use Rattle.gt_grammar.specs.declared.fault.ScriptFault.{ScriptFault}
use Rattle.gt_grammar.specs.Faults.{fault_in_lines}
use Rattle.gt_grammar.specs.Grammar.{line_number, IsFirstFault, Spells}
use Rattle.gt_script.proofs.ReadingLemmas.{if-err_refused, if-refused}
use Rattle.gt_script.proofs.TextLemmas.{utf8-None, utf8-Some, first-right, spelled, earliest, refuses}
use Rattle.gt_script.proofs.read.read_script.Goals as goal

pub returns-in-Ok-clause-read : goal.returns-in-Ok-clause-read
returns-in-Ok-clause-read c =
    spelled c.read_lines-read.result c.args.bytes.now (utf8-None c.args.bytes.now c.in-Ok.ensures.cases.1) c.read_lines-read.ensures.faultless c.read_lines-read.ensures.read

pub returns-in-Ok-clause-fault : goal.returns-in-Ok-clause-fault
returns-in-Ok-clause-fault c =
    if-err_refused
    (λ (f : ScriptFault). fault_in_lines (numbered_lines c.args.bytes.now) ≡ Some f)
    (IsFirstFault c.args.bytes.now)
    c.read_lines-read.result
    (λ f h. first-right c.args.bytes.now (Some f) (utf8-None c.args.bytes.now c.in-Ok.ensures.cases.1) h)
    c.read_lines-read.ensures.fault

pub returns-in-Ok-clause-refused : goal.returns-in-Ok-clause-refused
returns-in-Ok-clause-refused c =
    if-err_refused (IsFirstFault c.args.bytes.now) (λ _. (script : Script) → Spells c.args.bytes.now script → ⊥)
    c.read_lines-read.result (refuses c.args.bytes.now) (returns-in-Ok-clause-fault c)

pub returns-in-Err-clause-fault : goal.returns-in-Err-clause-fault
returns-in-Err-clause-fault c =
    let text = c.args.bytes.now in
    let n : ℕ = c.valid_up_to.result in
    let line : c.line_number-line.result ≡ line_number (take n text) = c.line_number-line.ensures ∙ ap line_number c.split_at.ensures.front in
    earliest c.read_lines-read.result text c.line_number-line.result c.earlier.result
    (utf8-Some text n c.line_number-line.result (c.valid_up_to.ensures ∙ c.in-Err.ensures.valid_len) (omega (arith, c.valid_up_to.ensures, c.in-Err.ensures.cases.1.short)) line)
    c.read_lines-read.ensures.faultless c.read_lines-read.ensures.fault c.earlier.ensures

pub returns-in-Err-clause-refused : goal.returns-in-Err-clause-refused
returns-in-Err-clause-refused c =
    if-refused (IsFirstFault c.args.bytes.now) (λ _. (script : Script) → Spells c.args.bytes.now script → ⊥)
    c.earlier.result (refuses c.args.bytes.now) (returns-in-Err-clause-fault c)
