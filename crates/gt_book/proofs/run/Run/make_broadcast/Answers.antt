use Rattle.std.proofs.Common.{sym, refl}
use Rattle.gt_rules.specs.State.{suspended_count}
use Rattle.gt_machine.specs.Machine.{state_of}
use Rattle.gt_book.proofs.Broadcasting.{can_make-signals, broadcast-may, broadcast-applies, broadcast-applied}
use Rattle.gt_book.proofs.run.Run.make_broadcast.Goals as goal

pub signal_all-count-requires : goal.signal_all-count-requires
signal_all-count-requires c =
    can_make-signals c.args.script.now c.requires.can.0 c.args.self.now c.args.g c.args.k (suspended_count (state_of c.args.self.now.machine) c.args.k) c.requires.can.1

pub apply-requires-clause-may : goal.apply-requires-clause-may
apply-requires-clause-may c =
    broadcast-may c.args.script.now c.requires.can.0 c.args.self.now c.signal_all-count.new.self c.args.g c.args.k (suspended_count (state_of c.args.self.now.machine) c.args.k)
    c.signal_all-count.result c.requires.can.1 c.signal_all-count.ensures c.requires.in_hand

pub apply-requires-2 : goal.apply-requires-2
apply-requires-2 c =
    broadcast-applies c.args.script.now c.requires.can.0 c.args.self.now c.signal_all-count.new.self c.args.g c.args.k (suspended_count (state_of c.args.self.now.machine) c.args.k)
    c.signal_all-count.result c.requires.can.1 c.signal_all-count.ensures c.requires.in_hand

pub returns : goal.returns
returns c = λ limits can.
    broadcast-applied c.args.script.now limits c.args.self.now c.signal_all-count.new.self c.args.g c.args.k (suspended_count (state_of c.args.self.now.machine) c.args.k)
    c.signal_all-count.result can c.signal_all-count.ensures c.requires.in_hand
    (record { history = c.put.new.self; machine = c.apply.new.self; scheduler = c.apply-2.new.self; waking = c.signal_all-count.new.self.waking })
    (sym c.signal_all-count.ensures.counted) c.apply.ensures.state c.apply.ensures.room c.apply.ensures.channels c.apply.ensures.contexts refl c.apply-2.ensures.schedule c.apply-2.ensures.room c.apply-2.ensures.kept
    c.put.ensures.items c.put.ensures.spare
