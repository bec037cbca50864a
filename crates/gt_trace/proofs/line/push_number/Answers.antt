use Rattle.std.proofs.Common.{◌≤◌, ◌+◌, ◌≡◌, ◌++◌, length, decimal, arith, ap}
use Rattle.std.proofs.Math.ListN.{length-append}
use Rattle.gt_trace.proofs.Decimals.{decimal-long}
use Rattle.gt_trace.proofs.line.push_number.Goals as goal

pub push_decimal-requires : goal.push_decimal-requires
push_decimal-requires c =
    let few : length (decimal c.args.number) ≤ 20 = decimal-long c.args.number c.ranges.number.fits in
    omega (arith, few, c.push.ensures.len, c.requires)

pub returns-clause-short : goal.returns-clause-short
returns-clause-short c =
    let few : length (decimal c.args.number) ≤ 20 = decimal-long c.args.number c.ranges.number.fits in
    let more : length c.push_decimal.new.line.items ≡ length (c.push.new.self.items ++ decimal c.args.number) = ap length c.push_decimal.ensures in
    let both : length (c.push.new.self.items ++ decimal c.args.number) ≡ length c.push.new.self.items + length (decimal c.args.number) =
    length-append c.push.new.self.items (decimal c.args.number) in
    omega (arith, few, more, both, c.push.ensures.len)
