use Rattle.gt_book.proofs.NotedRuns.{ended-within, noted-can, wakes-noted}
use Rattle.gt_book.proofs.run.Run.wake_ended.Goals as goal

pub note_ended-requires-clause-declared : goal.note_ended-requires-clause-declared
note_ended-requires-clause-declared c = ended-within c.args.script.now c.args.limits c.args.self.now c.requires

pub wake_noted-requires : goal.wake_noted-requires
wake_noted-requires c =
    noted-can c.args.script.now c.args.limits c.args.self.now c.note_ended.new.waking c.requires c.note_ended.ensures.noted c.note_ended.ensures.few c.note_ended.ensures.room

pub returns : goal.returns
returns c = wakes-noted c.args.script.now c.args.limits c.args.self.now c.wake_noted.new.self c.note_ended.new.waking c.wake_noted.ensures
