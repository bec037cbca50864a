use Rattle.std.proofs.Common.{refl}
use Rattle.gt_runner.proofs.Calling.{record-within, record-lent}
use Rattle.gt_runner.proofs.Polling.{poll-record, poll-channel, poll-stands, after-poll}
use Rattle.gt_runner.proofs.calls.poll.Goals as goal

pub at_mut-requires : goal.at_mut-requires
at_mut-requires c =
    let x = c.args.run.now in
    record-within x c.args.t (poll-record x c.args.g c.args.t c.requires.ready c.requires.wants)

pub sec_recv-done-requires-clause-lent : goal.sec_recv-done-requires-clause-lent
sec_recv-done-requires-clause-lent c =
    let x = c.args.run.now in
    (record-lent x c.args.t c.at_mut.result.now c.requires.ready.served.tended (poll-record x c.args.g c.args.t c.requires.ready c.requires.wants) c.at_mut.ensures.value).rec

pub sec_recv-done-requires-clause-channel : goal.sec_recv-done-requires-clause-channel
sec_recv-done-requires-clause-channel c =
    poll-channel c.args.run.now c.args.g c.args.t c.at_mut.result.now c.requires.ready c.requires.wants c.at_mut.ensures.value

pub sec_recv-done-requires-clause-stands : goal.sec_recv-done-requires-clause-stands
sec_recv-done-requires-clause-stands c =
    poll-stands c.args.run.now c.args.g c.args.t c.at_mut.result.now c.requires.ready c.requires.wants c.at_mut.ensures.value

pub returns : goal.returns
returns c =
    after-poll c.args.run.now _ c.args.g c.args.t c.at_mut.result.now c.sec_recv-done.new.rec c.sec_recv-done.result c.requires.ready c.requires.wants c.at_mut.ensures.value refl refl refl refl
    c.sec_recv-done.ensures.row c.sec_recv-done.ensures.kept
