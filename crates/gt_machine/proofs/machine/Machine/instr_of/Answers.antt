use Rattle.std.proofs.Common.{◌∙◌, ◌<◌, Some, sym, ap, subst, length, get_or}
use Rattle.gt_model.specs.declared.script.Instr.{Instr}
use Rattle.gt_machine.specs.Machine.{state_of}
use Rattle.gt_machine.proofs.Codes.{FoundCode, found_code, code-inside, code-read}
use Rattle.gt_machine.proofs.machine.Machine.instr_of.Goals as goal

pub bounds-as_slice-place-2 : goal.bounds-as_slice-place-2
bounds-as_slice-place-2 c =
    let found : FoundCode c.args.script.now (state_of c.args.self.now) c.args.g c.at.result.now c.index-as_slice-place.result =
    found_code c.args.script.now (state_of c.args.self.now) c.args.g c.at.result.now c.index-as_slice-place.result c.requires.formed c.requires.there c.at.ensures.value
    (c.index-as_slice-place.is ∙ ap (λ fs. get_or fs c.at.result.now.place.func c.index-as_slice-place.result) c.as_slice.ensures) in
    subst (λ code. c.at.result.now.place.at < length code) (sym c.as_slice-2.ensures)
    (code-inside c.args.script.now (state_of c.args.self.now) c.args.g c.at.result.now c.index-as_slice-place.result c.requires.formed found)

pub returns : goal.returns
returns c =
    let found : FoundCode c.args.script.now (state_of c.args.self.now) c.args.g c.at.result.now c.index-as_slice-place.result =
    found_code c.args.script.now (state_of c.args.self.now) c.args.g c.at.result.now c.index-as_slice-place.result c.requires.formed c.requires.there c.at.ensures.value
    (c.index-as_slice-place.is ∙ ap (λ fs. get_or fs c.at.result.now.place.func c.index-as_slice-place.result) c.as_slice.ensures) in
    let d : Instr = c.index-as_slice-place-2.result in
    code-read c.args.script.now (state_of c.args.self.now) c.args.g c.at.result.now c.index-as_slice-place.result d c.requires.formed found
    ∙ ap Some (sym (c.index-as_slice-place-2.is ∙ ap (λ code. get_or code c.at.result.now.place.at d) c.as_slice-2.ensures))
