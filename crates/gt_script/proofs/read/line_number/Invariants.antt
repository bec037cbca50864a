use Rattle.std.proofs.Common.{◌≡◌, take}
use Rattle.gt_grammar.specs.Grammar.{line_number}
use Rattle.gt_script.proofs.read.line_number.Given as goal

abbrev pub invariant-loop-b : goal.invariant-loop-b
invariant-loop-b l = l.number ≡ line_number (take l.b-index l.front)
