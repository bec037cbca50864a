use Rattle.std.proofs.Common.{refl}
use Rattle.gt_machine.proofs.Machines.{all_unmade}
use Rattle.gt_machine.proofs.Syncs.{all_unused}
use Rattle.gt_machine.proofs.Channels.{channels_unmade, capacities_unmade}
use Rattle.gt_machine.proofs.Trees.{none_made, none_registered}
use Rattle.gt_machine.proofs.machine.Machine.begin.Goals as goal

pub returns-clause-state : goal.returns-clause-state
returns-clause-state c =
    rw (
      c.in_ok-clocks.ensures,
      c.in_ok-goroutines.ensures.first,
      c.in_ok-timers.ensures,
      all_unmade,
      c.in_ok-channels.ensures,
      channels_unmade,
      c.in_ok-syncs.ensures,
      all_unused,
      c.in_ok-ctxs.ensures,
      none_made,
      none_registered,
      c.as_slice.ensures,
      c.as_slice-2.ensures,
      c.as_slice-3.ensures,
    ) refl

pub returns-clause-channels : goal.returns-clause-channels
returns-clause-channels c = record { declared = rw (c.in_ok-channels.ensures, c.as_slice-2.ensures) (capacities_unmade c.args.script.now.decls) }
