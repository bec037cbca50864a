use Rattle.std.proofs.Common.{rules, sym, subst, ◌≡◌, ◌∙◌, Some, None}
use Rattle.gt_model.specs.declared.script.CaseKind.{CaseKind}
use Rattle.gt_book.specs.declared.step.Step.{Step}
use Rattle.gt_book.specs.Steps.{step_of}
use Rattle.gt_book.specs.View.{IsLawful, outcome_of}
use Rattle.gt_book.proofs.Going.{in_hand-acts, makes-call}
use Rattle.gt_book.proofs.Parking.{may-seen, served-seen, MayPark, waits-may, parks-may, park-declared, kept-parked}
use Rattle.gt_book.proofs.book.Book.step_plain.Goals as goal

pub enter-requires-clause-may : goal.enter-requires-clause-may
enter-requires-clause-may c =
    let step : step_of c.args.self.now.script c.args.self.now.state c.args.self.now.schedule c.args.g ≡ Some (Step.Makes c.in-Makes.entry) = search rules in
    let none : outcome_of c.args.self.now ≡ None = sym c.outcome.ensures ∙ c.in_default.is in
    may-seen c.self.inside c.args.self.now c.args.g c.in-Makes.entry c.self.view_is c.self.invariant none c.requires step

pub enter-requires-clause-served : goal.enter-requires-clause-served
enter-requires-clause-served c =
    let step : step_of c.args.self.now.script c.args.self.now.state c.args.self.now.schedule c.args.g ≡ Some (Step.Makes c.in-Makes.entry) = search rules in
    let none : outcome_of c.args.self.now ≡ None = sym c.outcome.ensures ∙ c.in_default.is in
    served-seen c.self.inside c.args.self.now c.args.g c.in-Makes.entry c.self.view_is c.self.invariant none c.requires step

pub enter-requires-clause-alone : goal.enter-requires-clause-alone
enter-requires-clause-alone c =
    let step : step_of c.args.self.now.script c.args.self.now.state c.args.self.now.schedule c.args.g ≡ Some (Step.Makes c.in-Makes.entry) = search rules in
    (makes-call c.args.self.now.script c.args.self.now.state c.args.self.now.schedule c.args.g c.in-Makes.entry step).alone

pub enter-requires-clause-uncut : goal.enter-requires-clause-uncut
enter-requires-clause-uncut c =
    let step : step_of c.args.self.now.script c.args.self.now.state c.args.self.now.schedule c.args.g ≡ Some (Step.Makes c.in-Makes.entry) = search rules in
    (makes-call c.args.self.now.script c.args.self.now.state c.args.self.now.schedule c.args.g c.in-Makes.entry step).uncut

pub park_at-ticket-requires-clause-declared : goal.park_at-ticket-requires-clause-declared
park_at-ticket-requires-clause-declared c =
    park-declared c.self.inside c.args.g (CaseKind.Recv c.in-Waits.t) c.self.invariant
    (waits-may c.self.inside c.args.self.now c.args.g c.in-Waits.t c.self.view_is c.self.invariant c.requires (search rules))

pub invariant_of-self : goal.invariant_of-self
invariant_of-self c =
    let may : MayPark c.self.inside c.args.g (CaseKind.Recv c.in-Waits.t) =
    waits-may c.self.inside c.args.self.now c.args.g c.in-Waits.t c.self.view_is c.self.invariant c.requires (search rules) in
    kept-parked c.self.inside c.args.g (CaseKind.Recv c.in-Waits.t) c.park_at-ticket.new.self c.self.invariant may c.park_at-ticket.ensures.schedule c.park_at-ticket.ensures.room
    c.park_at-ticket.ensures.kept

pub park_at-ticket-requires-in-Parks-clause-declared : goal.park_at-ticket-requires-in-Parks-clause-declared
park_at-ticket-requires-in-Parks-clause-declared c =
    park-declared c.self.inside c.args.g c.in-Parks.kind c.self.invariant
    (parks-may c.self.inside c.args.self.now c.args.g c.in-Parks.kind c.self.view_is c.self.invariant c.requires (search rules))

pub invariant_of-self-in-Parks : goal.invariant_of-self-in-Parks
invariant_of-self-in-Parks c =
    let may : MayPark c.self.inside c.args.g c.in-Parks.kind =
    parks-may c.self.inside c.args.self.now c.args.g c.in-Parks.kind c.self.view_is c.self.invariant c.requires (search rules) in
    kept-parked c.self.inside c.args.g c.in-Parks.kind c.park_at-ticket-in-Parks.new.self c.self.invariant may c.park_at-ticket-in-Parks.ensures.schedule
    c.park_at-ticket-in-Parks.ensures.room c.park_at-ticket-in-Parks.ensures.kept

pub unreachable-requires : goal.unreachable-requires
unreachable-requires c =
    let nowhere : step_of c.args.self.now.script c.args.self.now.state c.args.self.now.schedule c.args.g ≡ Some Step.Nowhere = search rules in
    in_hand-acts c.args.self.now c.args.g (subst IsLawful c.self.view_is c.self.invariant.lawful) c.requires nowhere
