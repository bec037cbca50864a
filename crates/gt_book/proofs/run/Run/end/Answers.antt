use Rattle.std.proofs.Common.{sym, ◌∙◌, refl}
use Rattle.gt_book.proofs.Books.{ends-finished}
use Rattle.gt_book.proofs.run.Run.end.Goals as goal

pub returns-in-Some : goal.returns-in-Some
returns-in-Some c = λ script can.
    ends-finished script c.args.limits c.in-Some.outcome c.args.self.now
    (record { history = c.put.new.self; machine = c.finish.new.self; scheduler = c.args.self.now.scheduler; waking = c.args.self.now.waking }) can
    (sym c.due_outcome.ensures ∙ c.in-Some.is)
    (record {
      state = c.finish.ensures.state script;
      goroutines = c.finish.ensures.room;
      channels = c.finish.ensures.channels;
      contexts = c.finish.ensures.contexts;
      waking = refl;
      scheduler = refl;
      items = c.put.ensures.items;
      spare = c.put.ensures.spare;
    })
