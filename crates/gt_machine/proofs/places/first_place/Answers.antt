use Rattle.std.proofs.Common.{◌≡◌, sym, subst}
use Rattle.gt_model.specs.Script.{code_of}
use Rattle.gt_machine.specs.Places.{IsWalkable}
use Rattle.gt_machine.proofs.Machines.{code_walkable}
use Rattle.gt_machine.proofs.places.first_place.Goals as goal

pub settled_in-requires : goal.settled_in-requires
settled_in-requires c =
    let is : c.in-Some.code.now ≡ code_of c.args.script.now c.args.f = c.in-Some.ensures.1 in
    subst IsWalkable (sym is) (code_walkable c.args.script.now c.args.f c.requires)
