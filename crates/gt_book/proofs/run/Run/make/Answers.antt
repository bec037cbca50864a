use Rattle.std.proofs.Common.{refl}
use Rattle.gt_book.proofs.Books.{can_make-applies, can_make-room, waking-room, makes-applied}
use Rattle.gt_book.proofs.run.Run.make.Goals as goal

pub apply-requires-2 : goal.apply-requires-2
apply-requires-2 c = can_make-applies c.args.script.now c.requires.can.0 c.args.self.now c.args.entry c.requires.can.1

pub returns-clause-makes : goal.returns-clause-makes
returns-clause-makes c = λ limits can.
    makes-applied c.args.script.now limits c.args.self.now c.args.entry
    (record { history = c.put.new.self; machine = c.apply.new.self; scheduler = c.apply-2.new.self; waking = c.args.self.now.waking }) can
    (record {
      state = c.apply.ensures.state;
      goroutines = c.apply.ensures.room;
      channels = c.apply.ensures.channels;
      contexts = c.apply.ensures.contexts;
      waking = waking-room c.args.script.now c.args.self.now _ refl can.kept.rooms.waking;
      schedule = c.apply-2.ensures.schedule;
      places = c.apply-2.ensures.room;
      kept = c.apply-2.ensures.kept;
      items = c.put.ensures.items;
      spare = c.put.ensures.spare;
    })

pub apply-requires-clause-room : goal.apply-requires-clause-room
apply-requires-clause-room c = can_make-room c.args.script.now c.requires.can.0 c.args.self.now c.args.entry c.requires.can.1

pub apply-requires-clause-contexts : goal.apply-requires-clause-contexts
apply-requires-clause-contexts c = c.requires.can.1.kept.rooms.contexts
