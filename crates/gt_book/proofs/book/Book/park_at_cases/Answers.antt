use Rattle.std.proofs.Common.{rules, ◌≡◌, ◌∙◌, None, Some}
use Rattle.std.specs.Option.{option_copied}
use Rattle.gt_model.specs.declared.script.Instr.{Instr}
use Rattle.gt_book.proofs.book.Book.park_at_cases.Goals.{in_default-via-in-Some+in_default, in_default-via-in_default}
use Rattle.gt_rules.specs.State as at
use Rattle.gt_machine.specs.Machine.{state_of}
use Rattle.gt_book.specs.Steps.{cases_of}
use Rattle.gt_book.proofs.Parking.{MayChoose, chooses-may, chosen-cases, chosen-declared, kept-chosen}
use Rattle.gt_book.proofs.book.Book.park_at_cases.Goals as goal

pub park_cases-requires-clause-few : goal.park_cases-requires-clause-few
park_cases-requires-clause-few c =
    let may : MayChoose c.self.inside c.args.g = chooses-may c.self.inside c.args.self.now c.args.g c.self.view_is c.self.invariant c.requires.chooses in
    let its : cases_of (at.stands_at c.self.inside.script (state_of c.self.inside.run.machine) c.args.g) ≡ c.as_slice.result.now = search rules in
    (chosen-cases c.self.inside c.args.g c.as_slice.result.now may its).few

pub park_cases-requires-clause-declared : goal.park_cases-requires-clause-declared
park_cases-requires-clause-declared c =
    let may : MayChoose c.self.inside c.args.g = chooses-may c.self.inside c.args.self.now c.args.g c.self.view_is c.self.invariant c.requires.chooses in
    let its : cases_of (at.stands_at c.self.inside.script (state_of c.self.inside.run.machine) c.args.g) ≡ c.as_slice.result.now = search rules in
    chosen-declared c.self.inside c.args.g c.as_slice.result.now c.self.invariant (chosen-cases c.self.inside c.args.g c.as_slice.result.now may its)

pub invariant_of-self : goal.invariant_of-self
invariant_of-self c =
    let may : MayChoose c.self.inside c.args.g = chooses-may c.self.inside c.args.self.now c.args.g c.self.view_is c.self.invariant c.requires.chooses in
    let its : cases_of (at.stands_at c.self.inside.script (state_of c.self.inside.run.machine) c.args.g) ≡ c.as_slice.result.now = search rules in
    kept-chosen c.self.inside c.args.self.now c.args.g c.as_slice.result.now c.park_cases.new.self c.self.view_is c.self.invariant c.requires.in_hand may its
    c.park_cases.ensures.schedule c.park_cases.ensures.room c.park_cases.ensures.kept

pub unreachable-requires : goal.unreachable-requires
unreachable-requires c =
    let may : MayChoose c.self.inside c.args.g = chooses-may c.self.inside c.args.self.now c.args.g c.self.view_is c.self.invariant c.requires.chooses in
    let its : option_copied c.stands_at.result ≡ Some (Instr.Select may.cases None) = c.stands_at.ensures ∙ may.stands in
    elim c.in_default.branch [
      | in_default-via-in-Some+in_default w ↦ search rules
      | in_default-via-in_default w ↦ search rules
    ]
