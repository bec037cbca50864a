use Rattle.std.proofs.Common.{◌≡◌, ◌+◌, length, ℕ}
use Rattle.gt_rules.specs.Places as places
use Rattle.gt_machine.proofs.places.walked.Given as goal

-- the steps that are left lead from here to where all of them lead from the beginning
abbrev pub invariant-loop : goal.invariant-loop
invariant-loop l = (k : ℕ) → k + l.counter ≡ length l.code + length l.code → places.go_on k l.code l.here ≡ places.settled_in l.code l.fn.place
