use Rattle.std.proofs.Common.{◌≤◌, length, sym, arith, refl}
use Rattle.gt_script.proofs.CodeLeft.{lead-is, change-past}
use Rattle.gt_script.specs.Reading.{leading}
use Rattle.gt_script.proofs.reader.lead.Goals as goal

pub returns-in-Some : goal.returns-in-Some
returns-in-Some c =
    lead-is c.args.code.now.items c.args.top c.args.index c.in-Some.instr.now c.lead_past.new.instr (omega (arith, c.in-Some.ensures.variant.0 refl)) c.in-Some.ensures.value c.lead_past.ensures

pub returns-in_default : goal.returns-in_default
returns-in_default c =
    let beyond : length c.args.code.now.items ≤ c.args.top = grind (arith, c.get_mut.ensures.variant.1, c.in_default.is) in
    sym (change-past c.args.code.now.items c.args.top (leading c.args.index) beyond)
