use Rattle.std.proofs.Common.{◌∙◌, ◌+◌, ◌++◌, ◌∷◌, [], length, true, refl, ap}
use Rattle.gt_model.specs.declared.entry.Entry.{Entry}
use Rattle.gt_model.specs.declared.state.Goroutine.{Goroutine}
use Rattle.gt_rules.specs.State.{State}
use Rattle.gt_rules.specs.Contexts.{start_count}
use Rattle.gt_room.specs.Contents.{Contents}
use Rattle.gt_machine.specs.Machine.{state_of, HasContexts}
use Rattle.gt_schedule.specs.Schedule.{scheduled}
use Rattle.gt_schedule.specs.Scheduler.{schedule_of}
use Rattle.gt_book.specs.declared.run.Run.{Run}
use Rattle.gt_book.proofs.Books.{can_make-applies, makes-applied, waking-room}
use Rattle.gt_book.proofs.Cutting.{end-room, cut_state, same-channels, maker-inside, cancel-inside, cancel-after}
use Rattle.gt_book.proofs.run.Run.make_cancel.Goals as goal

pub cut-starts-requires-clause-room : goal.cut-starts-requires-clause-room
cut-starts-requires-clause-room c =
    let e : Entry = Entry.Cancel c.args.g c.args.x true (start_count c.args.script.now (state_of c.args.self.now.machine) c.args.x) in
    end-room c.args.script.now c.requires.0 c.args.self.now e c.args.x (start_count c.args.script.now (state_of c.args.self.now.machine) c.args.x) c.requires.1 refl

pub move_on-requires-clause-inside : goal.move_on-requires-clause-inside
move_on-requires-clause-inside c =
    cancel-inside c.args.script.now c.requires.0 c.args.self.now c.args.g c.args.x c.cut-starts.new.self.goroutines.items c.requires.1
    (ap (λ (s : State). s.goroutines) c.cut-starts.ensures.state)

pub apply-requires : goal.apply-requires
apply-requires c =
    let e : Entry = Entry.Cancel c.args.g c.args.x true (start_count c.args.script.now (state_of c.args.self.now.machine) c.args.x) in
    rw c.cut-starts.ensures.count (can_make-applies c.args.script.now c.requires.0 c.args.self.now e c.requires.1)

pub returns-clause-makes : goal.returns-clause-makes
returns-clause-makes c = λ limits can.
    let r : Run = c.args.self.now in
    let s : State = state_of r.machine in
    let e : Entry = Entry.Cancel c.args.g c.args.x true (start_count c.args.script.now s c.args.x) in
    let kept : HasContexts c.args.script.now c.move_on.new.self = record {
      declared = ap (λ t. t.decls) c.move_on.ensures.contexts ∙ c.cut-starts.ensures.contexts.declared;
      begun = ap (λ t. t.started) c.move_on.ensures.contexts ∙ c.cut-starts.ensures.contexts.begun;
    } in
    let new : Run = record { history = c.put.new.self; machine = c.count.new.self; scheduler = c.apply.new.self; waking = r.waking } in
    makes-applied c.args.script.now limits r e new can
    (record {
      state = cancel-after c.args.script.now s c.args.g c.args.x c.named_by-named.result (state_of c.cut-starts.new.self) (state_of c.move_on.new.self) (state_of c.count.new.self)
          (maker-inside c.args.script.now limits r c.args.g c.args.x can) c.named_by-named.ensures (c.cut-starts.ensures.state ∙ ap (cut_state c.args.script.now s c.args.x) c.cancel_end.ensures)
          c.move_on.ensures.state c.count.ensures.state;
      goroutines =
          ap (λ (gs : Contents Goroutine). length gs.items + gs.spare) c.count.ensures.room
          ∙ (ap (λ n. n + c.move_on.new.self.goroutines.spare) c.move_on.ensures.many
          ∙ (ap (λ n. length c.cut-starts.new.self.goroutines.items + n) c.move_on.ensures.spare ∙ c.cut-starts.ensures.room));
      channels = same-channels c.args.script.now r.machine c.count.new.self (c.count.ensures.channels ∙ (c.move_on.ensures.channels ∙ c.cut-starts.ensures.channels)) can.kept.rooms.channels;
      contexts = c.count.ensures.contexts c.args.script.now kept;
      waking = waking-room c.args.script.now r new refl can.kept.rooms.waking;
      schedule = c.apply.ensures.schedule ∙ ap (λ n. scheduled (schedule_of r.scheduler) (Entry.Cancel c.args.g c.args.x true n)) c.cut-starts.ensures.count;
      places = c.apply.ensures.room;
      kept = c.apply.ensures.kept;
      items = c.put.ensures.items ∙ ap (λ n. r.history.items ++ Entry.Cancel c.args.g c.args.x true n ∷ []) c.cut-starts.ensures.count;
      spare = c.put.ensures.spare;
    })
