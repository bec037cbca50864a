use Rattle.std.proofs.Common.{◌≡◌, true, false}
use Rattle.gt_lines.specs.Words.{is_end}
use Rattle.gt_lines.specs.Lines.{lines_at}
use Rattle.gt_lines.proofs.Ahead.{bytes_left}
use Rattle.gt_names.specs.Known.{known}
use Rattle.gt_grammar.specs.Faults.{fault_from, no_progress}
use Rattle.gt_script.specs.Reading.{Agrees, nothing_built, script_left}
use Rattle.gt_script.proofs.read.read_body.Given as goal

abbrev pub invariant-loop-ahead : goal.invariant-loop-ahead
invariant-loop-ahead l = record {
  fault : fault_from (known l.names) l.reader.progress (lines_at l.ahead) ≡ fault_from (known l.names) no_progress (lines_at l.first);
  script : script_left (known l.names) l.reader.progress.inside l.reader.built (lines_at l.ahead) ≡ script_left (known l.names) false nothing_built (lines_at l.first);
  outside : is_end (lines_at l.ahead) ≡ true → l.reader.progress.inside ≡ false;
  agrees : Agrees l.reader.progress l.reader.built;
}

abbrev pub decreases-loop-ahead : goal.decreases-loop-ahead
decreases-loop-ahead l = bytes_left l.ahead
