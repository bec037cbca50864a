use Rattle.std.proofs.Common.{◌≡◌, ◌<◌, true, false, length, set, rules}
use Rattle.gt_rules.specs.After.{with_lock, owned, counted_on}
use Rattle.gt_model.specs.Tables.{change}
use Rattle.gt_model.specs.Script.{mutex_of}
use Rattle.gt_model.specs.declared.state.SyncState.{SyncState}
use Rattle.gt_machine.proofs.Syncs.{set-changes, there, length-changed}
use Rattle.gt_machine.proofs.changes.step_syncs.Goals as goal

pub returns-in-Locks : goal.returns-in-Locks
returns-in-Locks c =
    rw (c.in-Locks.is, c.with_lock.ensures) (set-changes c.args.syncs.now.items c.args.o (with_lock true) c.index.result.now (there c.args.syncs.now.items c.args.o _ c.requires.may) c.index.ensures)

pub returns-in-Unlocks : goal.returns-in-Unlocks
returns-in-Unlocks c =
    rw (c.in-Unlocks.is, c.with_lock-in-Unlocks.ensures)
    (set-changes c.args.syncs.now.items c.args.o (with_lock false) c.index-in-Unlocks.result.now (there c.args.syncs.now.items c.args.o _ c.requires.may) c.index-in-Unlocks.ensures)

pub returns-in-Adds : goal.returns-in-Adds
returns-in-Adds c =
    let was : SyncState = c.index-in-Adds.result.now in
    let is : c.owned.result ≡ owned c.args.world (counted_on c.in-Adds.n was) = search rules in
    rw (c.in-Adds.is, is)
    (set-changes c.args.syncs.now.items c.args.o (λ was. owned c.args.world (counted_on c.in-Adds.n was)) was (there c.args.syncs.now.items c.args.o _ c.requires.may) c.index-in-Adds.ensures)

pub returns-in-Releases : goal.returns-in-Releases
returns-in-Releases c =
    let first : set c.args.syncs.now.items (mutex_of c.args.script.now c.args.o) c.with_lock-in-Releases.result ≡ change c.args.syncs.now.items (mutex_of c.args.script.now c.args.o) (with_lock false) =
    rw c.with_lock-in-Releases.ensures
    (set-changes c.args.syncs.now.items (mutex_of c.args.script.now c.args.o) (with_lock false) c.index-in-Releases.result.now c.requires.mutex (rw c.mutex_of-mutex.ensures at c.index-in-Releases.ensures)) in
    let same : length (change c.args.syncs.now.items (mutex_of c.args.script.now c.args.o) (with_lock false)) ≡ length c.args.syncs.now.items =
    length-changed c.args.syncs.now.items (mutex_of c.args.script.now c.args.o) (with_lock false) in
    let within : c.args.o < length (change c.args.syncs.now.items (mutex_of c.args.script.now c.args.o) (with_lock false)) =
    rw same (there c.args.syncs.now.items c.args.o _ c.requires.may) in
    rw (c.in-Releases.is, c.mutex_of-mutex.ensures, first, c.owned-in-Releases.ensures)
    (set-changes (change c.args.syncs.now.items (mutex_of c.args.script.now c.args.o) (with_lock false)) c.args.o (owned c.args.world) c.index-in-Releases-2.result.now within
    (rw (c.mutex_of-mutex.ensures, first) at c.index-in-Releases-2.ensures))

pub returns-in-Retakes : goal.returns-in-Retakes
returns-in-Retakes c =
    rw (c.in-Retakes.is, c.with_lock-in-Retakes.ensures, c.mutex_of-mutex.ensures)
    (set-changes c.args.syncs.now.items _ (with_lock true) c.index-in-Retakes.result.now c.requires.mutex (rw c.mutex_of-mutex.ensures at c.index-in-Retakes.ensures))
