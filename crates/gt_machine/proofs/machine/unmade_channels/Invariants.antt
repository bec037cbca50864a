use Rattle.std.proofs.Common.{◌≡◌, length, map}
use Rattle.std.specs.Prelude.{take}
use Rattle.std.specs.Vec.{vec_capacity}
use Rattle.gt_model.specs.declared.script.Decl.{Decl}
use Rattle.gt_chan.specs.Channel as chan
use Rattle.gt_machine.specs.Machine.{capacity_in}
use Rattle.gt_machine.proofs.machine.unmade_channels.Given as goal

-- the declarations so far have their channels, and there is room for the others
abbrev pub invariant-loop-decl : goal.invariant-loop-decl
invariant-loop-decl l = record {
  made : l.channels.items ≡ map (λ (d : Decl). chan.unmade (capacity_in d.what) 0) (take l.decl-index l.decls);
  room : vec_capacity l.channels ≡ length l.decls;
}
