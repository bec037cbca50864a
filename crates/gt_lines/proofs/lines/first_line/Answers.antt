use Rattle.std.proofs.Common.{◌+◌, length, sym, arith}
use Rattle.std.proofs.lemmas.List.{drop_all}
use Rattle.gt_lines.proofs.LineLemmas.{some-from_test, lines-None, lines-Some, take-drop_rest}
use Rattle.gt_lines.proofs.lines.first_line.Goals as goal

pub returns-in-None-clause-first : goal.returns-in-None-clause-first
returns-in-None-clause-first c =
    let text = c.args.text.now in
    rw (take-drop_rest (length text) text, drop_all (length text) text (omega arith))
    (lines-None text (sym c.in-None.ensures) (some-from_test _ _ c.if-is_empty.false c.is_empty.ensures))

pub returns-in-Some-clause-first : goal.returns-in-Some-clause-first
returns-in-Some-clause-first c =
    let text = c.args.text.now in
    rw (take-drop_rest (c.in-Some.at + 1) text, c.without_return.ensures) (lines-Some text c.in-Some.at (sym c.in-Some.ensures))
