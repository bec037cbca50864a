use Rattle.std.proofs.Common.{rules, arith}
use Rattle.gt_trace.specs.Text.{line_of}
use Rattle.gt_trace.proofs.Fronts.{front_of_pieces}
use Rattle.gt_trace.proofs.ScriptNames.{AllNamed-at}
use Rattle.gt_trace.proofs.print.write_trace.Goals as goal

pub write_line-requires-clause-named : goal.write_line-requires-clause-named
write_line-requires-clause-named g c =
    AllNamed-at c.args.script.now c.args.entries.now c.loop-entry.entry-index _ c.requires.named (omega arith)

pub returns-in_err-write_line-clause-front : goal.returns-in_err-write_line-clause-front
returns-in_err-write_line-clause-front g c =
    let front = front_of_pieces (line_of c.args.script.now) c.args.entries.now c.loop-entry.entry-index _ _ _ _ (search rules) c.loop-entry.invariant.0 c.in_err-write_line.ensures.front in
    search rules
