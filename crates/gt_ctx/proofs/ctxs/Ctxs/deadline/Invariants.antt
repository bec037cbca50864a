use Rattle.std.proofs.Common.{◌≡◌}
use Rattle.gt_ctx.specs.Contents.{deadline}
use Rattle.gt_ctx.proofs.ctxs.Ctxs.deadline.Given as goal

-- the deadline that is looked for is the one here
abbrev pub invariant-up : goal.invariant-up
invariant-up l = deadline l.self l.x ≡ deadline l.self l.at

abbrev pub decreases-up : goal.decreases-up
decreases-up l = l.at
