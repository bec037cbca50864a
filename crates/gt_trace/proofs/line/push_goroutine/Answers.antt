use Rattle.std.proofs.Common.{◌≤◌, ◌+◌, ◌≡◌, ◌++◌, length, decimal, arith, ap}
use Rattle.std.proofs.Math.ListN.{length-append}
use Rattle.gt_trace.proofs.Decimals.{decimal-short}
use Rattle.gt_trace.proofs.line.push_goroutine.Goals as goal

pub push_decimal-requires : goal.push_decimal-requires
push_decimal-requires c =
    let few : length (decimal c.from.result) ≤ 10 = rw c.from.ensures (decimal-short c.args.g c.ranges.g.fits) in
    omega (arith, few, c.push.ensures.len, c.push-2.ensures.len, c.requires)

pub returns-clause-short : goal.returns-clause-short
returns-clause-short c =
    let few : length (decimal c.from.result) ≤ 10 = rw c.from.ensures (decimal-short c.args.g c.ranges.g.fits) in
    let more : length c.push_decimal.new.line.items ≡ length (c.push-2.new.self.items ++ decimal c.from.result) = ap length c.push_decimal.ensures in
    let both : length (c.push-2.new.self.items ++ decimal c.from.result) ≡ length c.push-2.new.self.items + length (decimal c.from.result) =
    length-append c.push-2.new.self.items (decimal c.from.result) in
    omega (arith, few, more, both, c.push.ensures.len, c.push-2.ensures.len)
