use Rattle.std.proofs.Common.{◌≤◌, take}
use Rattle.gt_io.specs.Bytes.{Appended}
use Rattle.gt_trace.specs.Text.{text}
use Rattle.gt_trace.proofs.print.write_trace.Given as goal

-- the text of the entries so far was appended
abbrev pub invariant-loop-entry : goal.invariant-loop-entry
invariant-loop-entry g l =
    Appended (g.K.Sink.written l.fn.sink) (g.K.Sink.written l.sink) (text l.script (take l.entry-index l.entries))
    × (g.K.Sink.faults l.fn.sink ≤ g.K.Sink.faults l.sink)
