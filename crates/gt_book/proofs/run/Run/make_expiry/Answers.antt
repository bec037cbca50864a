use Rattle.std.proofs.Common.{◌∙◌, ◌+◌, ◌++◌, ◌∷◌, [], length, refl, ap}
use Rattle.gt_model.specs.declared.entry.Entry.{Entry}
use Rattle.gt_model.specs.declared.state.Goroutine.{Goroutine}
use Rattle.gt_rules.specs.State.{State}
use Rattle.gt_rules.specs.Contexts.{start_count}
use Rattle.gt_facts.proofs.Contexts.{expired-fits}
use Rattle.gt_room.specs.Contents.{Contents}
use Rattle.gt_machine.specs.Machine.{state_of}
use Rattle.gt_schedule.specs.Schedule.{scheduled}
use Rattle.gt_schedule.specs.Scheduler.{schedule_of}
use Rattle.gt_book.specs.declared.run.Run.{Run}
use Rattle.gt_book.proofs.Books.{can_make-applies, makes-applied, waking-room}
use Rattle.gt_book.proofs.Cutting.{end-room, same-channels, expiry-after}
use Rattle.gt_book.proofs.run.Run.make_expiry.Goals as goal

pub cut-starts-requires-clause-made : goal.cut-starts-requires-clause-made
cut-starts-requires-clause-made c = (expired-fits c.args.script.now (state_of c.args.self.now.machine) c.args.x c.requires.1.kept.way.sound.formed c.requires.1.may.0).made

pub cut-starts-requires-clause-live : goal.cut-starts-requires-clause-live
cut-starts-requires-clause-live c = (expired-fits c.args.script.now (state_of c.args.self.now.machine) c.args.x c.requires.1.kept.way.sound.formed c.requires.1.may.0).going

pub cut-starts-requires-clause-room : goal.cut-starts-requires-clause-room
cut-starts-requires-clause-room c =
    let e : Entry = Entry.Expire c.args.x (start_count c.args.script.now (state_of c.args.self.now.machine) c.args.x) in
    end-room c.args.script.now c.requires.0 c.args.self.now e c.args.x (start_count c.args.script.now (state_of c.args.self.now.machine) c.args.x) c.requires.1 refl

pub apply-requires : goal.apply-requires
apply-requires c =
    let e : Entry = Entry.Expire c.args.x (start_count c.args.script.now (state_of c.args.self.now.machine) c.args.x) in
    rw c.cut-starts.ensures.count (can_make-applies c.args.script.now c.requires.0 c.args.self.now e c.requires.1)

pub returns-clause-makes : goal.returns-clause-makes
returns-clause-makes c = λ limits can.
    let r : Run = c.args.self.now in
    let s : State = state_of r.machine in
    let e : Entry = Entry.Expire c.args.x (start_count c.args.script.now s c.args.x) in
    let new : Run = record { history = c.put.new.self; machine = c.count.new.self; scheduler = c.apply.new.self; waking = r.waking } in
    makes-applied c.args.script.now limits r e new can
    (record {
      state = expiry-after c.args.script.now s c.args.x c.expiry_end.result (state_of c.cut-starts.new.self) (state_of c.count.new.self) c.expiry_end.ensures c.cut-starts.ensures.state c.count.ensures.state;
      goroutines = ap (λ (gs : Contents Goroutine). length gs.items + gs.spare) c.count.ensures.room ∙ c.cut-starts.ensures.room;
      channels = same-channels c.args.script.now r.machine c.count.new.self (c.count.ensures.channels ∙ c.cut-starts.ensures.channels) can.kept.rooms.channels;
      contexts = c.count.ensures.contexts c.args.script.now c.cut-starts.ensures.contexts;
      waking = waking-room c.args.script.now r new refl can.kept.rooms.waking;
      schedule = c.apply.ensures.schedule ∙ ap (λ n. scheduled (schedule_of r.scheduler) (Entry.Expire c.args.x n)) c.cut-starts.ensures.count;
      places = c.apply.ensures.room;
      kept = c.apply.ensures.kept;
      items = c.put.ensures.items ∙ ap (λ n. r.history.items ++ Entry.Expire c.args.x n ∷ []) c.cut-starts.ensures.count;
      spare = c.put.ensures.spare;
    })
