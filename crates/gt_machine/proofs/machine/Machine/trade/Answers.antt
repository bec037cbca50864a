use Rattle.std.proofs.Common.{ap}
use Rattle.gt_rules.specs.State.{world_of}
use Rattle.gt_rules.specs.After.{traded, number_of}
use Rattle.gt_machine.specs.Machine.{state_of}
use Rattle.gt_machine.proofs.Channels.{tradable-read, traded-set, capacities-set}
use Rattle.gt_machine.proofs.machine.Machine.trade.Goals as goal

pub returns-clause-state : goal.returns-clause-state
returns-clause-state c =
    rw c.in-Some.is
    (ap (λ chs. record (state_of c.args.self.now) { channels = chs })
    (traded-set c.args.self.now.channels.items c.in-Some.c (traded (world_of (state_of c.args.self.now) (number_of c.args.mover)) c.in-Some.how) c.index_mut.result.now
    c.trade_channel.new.ch (tradable-read c.args.self.now.channels.items c.in-Some.c c.in-Some.how c.index_mut.result.now (rw c.in-Some.is at c.requires) c.index_mut.ensures.value) (rw c.mover_world-world.ensures at c.trade_channel.ensures.state)))

pub returns-clause-channels : goal.returns-clause-channels
returns-clause-channels c =
    capacities-set c.args.self.now.channels.items c.in-Some.c c.index_mut.result.now c.trade_channel.new.ch
    (tradable-read c.args.self.now.channels.items c.in-Some.c c.in-Some.how c.index_mut.result.now (rw c.in-Some.is at c.requires) c.index_mut.ensures.value) c.trade_channel.ensures.capacity
