use Rattle.std.proofs.Common.{◌≡◌, ◌+◌, ◌≤◌, ◌++◌, length, map}
use Rattle.gt_rules.specs.State.{State}
use Rattle.gt_rules.specs.Contexts.{starting}
use Rattle.gt_machine.specs.Machine.{state_of, ended_of}
use Rattle.gt_machine.proofs.Trees.{begun_by}
use Rattle.gt_machine.proofs.machine.Machine.cut.Given as goal

-- who has begun and who is still to begin are all whom the end starts
abbrev pub invariant-loop-s : goal.invariant-loop-s
invariant-loop-s l = record {
  begun : l.self.goroutines.items ++ map (begun_by l.script (state_of l.fn.self)) l.self.ctxs.started
      ≡ l.fn.self.goroutines.items ++ map (begun_by l.script (state_of l.fn.self)) (starting l.script (state_of l.fn.self) l.x);
  state : (let s : State = record (state_of l.initial.self) { goroutines = l.self.goroutines.items } in state_of l.self ≡ s);
  room : length l.self.ctxs.started ≤ l.self.goroutines.spare;
  many : length l.self.goroutines.items + l.self.goroutines.spare ≡ length l.fn.self.goroutines.items + l.fn.self.goroutines.spare;
  channels : l.self.channels ≡ l.fn.self.channels;
  declared : l.self.ctxs.decls ≡ l.fn.self.ctxs.decls;
  ended : ended_of l.self ≡ ended_of l.initial.self;
}

abbrev pub decreases-loop-s : goal.decreases-loop-s
decreases-loop-s l = length l.self.ctxs.started
