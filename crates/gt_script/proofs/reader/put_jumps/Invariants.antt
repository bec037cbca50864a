use Rattle.std.proofs.Common.{◌≡◌, drop}
use Rattle.gt_script.specs.Reading.{all_jump}
use Rattle.gt_script.proofs.reader.put_jumps.Given as goal

-- the jumps that are left make of the code what all make of the code before
abbrev pub invariant-loop-case : goal.invariant-loop-case
invariant-loop-case l = all_jump l.end (drop l.case-index l.cases) l.code.items ≡ all_jump l.end l.cases l.fn.code.items
