use Rattle.std.proofs.Common.{◌≡◌, ◌+◌, ◌-◌, ◌≤◌, ◌++◌, All, length}
use Rattle.gt_scan.specs.Tokens.{is_line_feed, tokens_of_lines, tokens_of, IsSpan}
use Rattle.gt_scan.proofs.Parts.{parts_behind}
use Rattle.gt_scan.proofs.scan.tokens.Given as goal

abbrev pub invariant-loop-at : goal.invariant-loop-at
invariant-loop-at l = record {
  in_text : l.at ≤ length l.text + 1;
  tokens : l.tokens.items ++ tokens_of_lines l.line l.at (parts_behind is_line_feed l.at l.text) ≡ tokens_of l.text;
  spans : All (IsSpan (length l.text)) l.tokens.items;
}

abbrev pub decreases-loop-at : goal.decreases-loop-at
decreases-loop-at l = length l.text + 1 - l.at
