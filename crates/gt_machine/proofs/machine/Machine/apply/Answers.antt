use Rattle.std.proofs.Common.{◌≡◌, ◌∙◌, refl, ap, sym, subst, IfSome, List, arith}
use Rattle.gt_model.specs.declared.state.Goroutine.{Goroutine}
use Rattle.gt_rules.specs.State.{State, world_of, clock}
use Rattle.gt_rules.specs.Change.{change_of}
use Rattle.gt_rules.specs.After.{with_mover, number_of}
use Rattle.gt_room.specs.Contents as room
use Rattle.gt_ctx.specs.Contents.{Contents}
use Rattle.gt_machine.specs.Machine.{state_of, IsInside, IsTradable, IsSteppable, IsGrowable}
use Rattle.gt_machine.proofs.Trees.{growable-May, begins-named}
use Rattle.gt_machine.proofs.Machines.{inside-May, within-May, partner-May}
use Rattle.gt_machine.proofs.Channels.{tradable-May}
use Rattle.gt_machine.proofs.Syncs.{steppable-May}
use Rattle.gt_machine.proofs.Applied.{applied}
use Rattle.gt_machine.proofs.machine.Machine.apply.Goals as goal

pub retime-requires : goal.retime-requires
retime-requires c =
    rw c.timer_of.ensures (within-May c.args.script.now (state_of c.args.self.now) c.args.entry.now c.requires.good c.requires.formed c.requires.may)

pub trade-requires : goal.trade-requires
trade-requires c =
    let same : c.retime.new.self.channels.items ≡ c.args.self.now.channels.items = rw c.retime.ensures.channels refl in
    subst (λ chs. IfSome c.channel_of.result (λ x. IsTradable chs x.0 x.1)) (sym same)
    (rw c.channel_of.ensures (tradable-May c.args.script.now c.args.self.now c.args.entry.now c.requires.good c.requires.formed c.requires.may c.requires.channels))

pub step_sync-requires : goal.step_sync-requires
step_sync-requires c =
    let retimed : c.retime.new.self.syncs.items ≡ c.args.self.now.syncs.items = ap (λ (s : State). s.syncs) c.retime.ensures.state in
    let same : c.trade.new.self.syncs.items ≡ c.args.self.now.syncs.items = ap (λ (s : State). s.syncs) c.trade.ensures.state ∙ retimed in
    subst (λ syncs. IfSome c.sync_of.result (λ x. IsSteppable c.args.script.now syncs x.0 x.1)) (sym same)
    (rw c.sync_of.ensures (steppable-May c.args.script.now (state_of c.args.self.now) c.args.entry.now c.requires.good c.requires.formed c.requires.may c.requires.few))

-- as it was before anything but contexts and hooks changed
pub grow-requires-clause-may : goal.grow-requires-clause-may
grow-requires-clause-may c =
    let script = c.args.script.now in
    let s = state_of c.args.self.now in
    let e = c.args.entry.now in
    let ctxs : c.step_sync.new.self.ctxs ≡ c.args.self.now.ctxs = c.step_sync.ensures.contexts ∙ c.trade.ensures.contexts ∙ c.retime.ensures.contexts in
    subst (λ (t : Contents). IfSome c.tree_of.result (λ x. IsGrowable t.decls t.contexts t.hooks (world_of (state_of c.step_sync.new.self) (number_of c.mover_of-mover.result)) (clock (state_of c.step_sync.new.self) (world_of (state_of c.step_sync.new.self) (number_of c.mover_of-mover.result))) x.0 x.1)) (sym ctxs)
    (subst (λ (st : State). IfSome c.tree_of.result (λ x. IsGrowable c.args.self.now.ctxs.decls s.contexts s.hooks (world_of st (number_of c.mover_of-mover.result)) (clock st (world_of st (number_of c.mover_of-mover.result))) x.0 x.1)) (sym c.step_sync.ensures.state)
    (subst (λ (st : State). IfSome c.tree_of.result (λ x. IsGrowable c.args.self.now.ctxs.decls s.contexts s.hooks (world_of st (number_of c.mover_of-mover.result)) (clock st (world_of st (number_of c.mover_of-mover.result))) x.0 x.1)) (sym c.trade.ensures.state)
    (subst (λ (st : State). IfSome c.tree_of.result (λ x. IsGrowable c.args.self.now.ctxs.decls s.contexts s.hooks (world_of st (number_of c.mover_of-mover.result)) (clock st (world_of st (number_of c.mover_of-mover.result))) x.0 x.1)) (sym c.retime.ensures.state)
    (rw (c.tree_of.ensures, c.mover_of-mover.ensures, c.requires.contexts.declared) (growable-May script s c.requires.good c.requires.formed e c.requires.may c.requires.uncut)))))

pub move_on-requires-clause-inside : goal.move_on-requires-clause-inside
move_on-requires-clause-inside c =
    let retimed : c.retime.new.self.goroutines.items ≡ c.args.self.now.goroutines.items = ap (λ (s : State). s.goroutines) c.retime.ensures.state in
    let traded : c.trade.new.self.goroutines.items ≡ c.args.self.now.goroutines.items = ap (λ (s : State). s.goroutines) c.trade.ensures.state ∙ retimed in
    let stepped : c.step_sync.new.self.goroutines.items ≡ c.args.self.now.goroutines.items = ap (λ (s : State). s.goroutines) c.step_sync.ensures.state ∙ traded in
    let same : c.grow.new.self.goroutines.items ≡ c.args.self.now.goroutines.items = ap (λ (s : State). s.goroutines) c.grow.ensures.state ∙ stepped in
    subst (λ gs. IfSome c.mover_of-mover.result (λ x. IsInside gs x.0)) (sym same)
    (rw c.mover_of-mover.ensures (inside-May c.args.script.now (state_of c.args.self.now) c.args.entry.now c.requires.good c.requires.formed c.requires.may))

pub move_on-requires-2-clause-inside : goal.move_on-requires-2-clause-inside
move_on-requires-2-clause-inside c =
    let before : List Goroutine = c.args.self.now.goroutines.items in
    let retimed : c.retime.new.self.goroutines.items ≡ before = ap (λ (s : State). s.goroutines) c.retime.ensures.state in
    let traded : c.trade.new.self.goroutines.items ≡ before = ap (λ (s : State). s.goroutines) c.trade.ensures.state ∙ retimed in
    let stepped : c.step_sync.new.self.goroutines.items ≡ before = ap (λ (s : State). s.goroutines) c.step_sync.ensures.state ∙ traded in
    let grown : c.grow.new.self.goroutines.items ≡ before = ap (λ (s : State). s.goroutines) c.grow.ensures.state ∙ stepped in
    let moved : c.move_on.new.self.goroutines.items ≡ with_mover c.args.script.now c.grow.new.self.goroutines.items c.mover_of-mover.result =
    ap (λ (s : State). s.goroutines) c.move_on.ensures.state in
    let same : c.move_on.new.self.goroutines.items ≡ with_mover c.args.script.now before (change_of c.args.entry.now).mover =
    moved ∙ (ap (λ gs. with_mover c.args.script.now gs c.mover_of-mover.result) grown ∙ ap (λ m. with_mover c.args.script.now before m) c.mover_of-mover.ensures) in
    subst (λ gs. IfSome c.partner_of.result (λ x. IsInside gs x.0)) (sym same)
    (rw c.partner_of.ensures (partner-May c.args.script.now (state_of c.args.self.now) c.args.entry.now c.requires.good c.requires.formed c.requires.may))

pub start-requires : goal.start-requires
start-requires c is =
    let some = begins-named c.args.script.now (state_of c.args.self.now) (change_of c.args.entry.now).starts c.begins-begins.result c.begins-begins.ensures is in
    let left = c.requires.room in
    let moved = c.move_on-2.ensures.spare ∙ c.move_on.ensures.spare in
    let grown = ap (λ (gs : room.Contents Goroutine). gs.spare) (c.grow.ensures.room ∙ c.step_sync.ensures.room ∙ c.trade.ensures.room ∙ c.retime.ensures.room) in
    omega arith

pub returns-clause-state : goal.returns-clause-state
returns-clause-state c =
    applied c.args.script.now c.args.entry.now (state_of c.args.self.now) (state_of c.retime.new.self) (state_of c.trade.new.self) (state_of c.step_sync.new.self) (state_of c.grow.new.self) (state_of c.move_on.new.self)
    (state_of c.move_on-2.new.self) (state_of c.start.new.self) (state_of c.move_clock.new.self) (state_of c.end.new.self)
    c.mover_of-mover.result c.partner_of.result c.timer_of.result c.channel_of.result c.sync_of.result c.tree_of.result c.begins-begins.result c.clock_of.result c.ending_of.result c.requires.may
    (record {
      mover = c.mover_of-mover.ensures;
      partner = c.partner_of.ensures;
      timer = c.timer_of.ensures;
      channel = c.channel_of.ensures;
      sync = c.sync_of.ensures;
      tree = c.tree_of.ensures;
      clock = c.clock_of.ensures;
      ending = c.ending_of.ensures;
    })
    c.requires.signalled
    c.begins-begins.ensures c.retime.ensures.state c.trade.ensures.state c.step_sync.ensures.state c.grow.ensures.state c.move_on.ensures.state c.move_on-2.ensures.state c.start.ensures.state c.move_clock.ensures.state
    c.end.ensures.state
