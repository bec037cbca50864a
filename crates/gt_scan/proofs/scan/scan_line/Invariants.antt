use Rattle.std.proofs.Common.{◌≡◌, ◌+◌, ◌-◌, ◌≤◌, ◌++◌, ℕ, All, length}
use Rattle.std.specs.List.{slice_split}
use Rattle.gt_scan.specs.Tokens.{is_blank, tokens_among, IsSpan}
use Rattle.gt_scan.proofs.Parts.{parts_behind}
use Rattle.gt_scan.proofs.scan.scan_line.Given as goal

abbrev pub invariant-loop-at : goal.invariant-loop-at
invariant-loop-at l = record {
  in_line : l.at ≤ length l.bytes + 1;
  tokens : l.tokens.items ++ tokens_among l.line (l.start + l.at) (parts_behind is_blank l.at l.bytes)
      ≡ l.initial.tokens.items ++ tokens_among l.line l.start (slice_split is_blank l.bytes);
  spans : (n : ℕ) → l.start + length l.bytes ≤ n → All (IsSpan n) l.initial.tokens.items → All (IsSpan n) l.tokens.items;
}

abbrev pub decreases-loop-at : goal.decreases-loop-at
decreases-loop-at l = length l.bytes + 1 - l.at
