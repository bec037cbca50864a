use Rattle.std.proofs.Common.{ℕ, ◌≡◌, refl, sym, ap, subst, ◌∙◌, Some}
use Rattle.gt_book.specs.declared.answers.TimerOp.{TimerOp}
use Rattle.gt_book.specs.declared.step.Step.{Step}
use Rattle.gt_book.specs.View.{BookView}
use Rattle.gt_book.specs.Steps.{Steps}
use Rattle.gt_book.specs.declared.answers.Did.{Did}
use Rattle.gt_book.proofs.Setting.{NeedsOnly, ParksUnder, steps-timer, steps-enrolled, is_enrolled}
use Rattle.gt_rows.specs.Rows.{next_of}
use Rattle.gt_schedule.specs.declared.status.Ticket.{Ticket}
use Rattle.gt_runner.specs.declared.runner.Runner.{Runner}
use Rattle.gt_runner.specs.Calls.{Ready, WantsSet, IsUncounted}
use Rattle.gt_runner.proofs.Growing.{ready-same, after-same}
use Rattle.gt_runner.proofs.Parking.{steps-after}
use Rattle.gt_runner.proofs.Enrolling.{Parks, parks-under, parked-uncounted, after-enrols}
use Rattle.gt_runner.proofs.calls.call.Goals as goal

pub returns-in_default : goal.returns-in_default
returns-in_default c = steps-after c.args.run.now _ c.args.g c.step_plain.result c.requires.ready c.step_plain.ensures c.in_default.not-Timer refl refl refl

pub stop-requires-clause-ready : goal.stop-requires-clause-ready
stop-requires-clause-ready c =
    let x = c.args.run.now in
    let needs : NeedsOnly x.book c.args.g c.in-Timer.wanted c.step_plain.new.self =
    steps-timer x.book c.args.g c.step_plain.new.self c.in-Timer.wanted c.requires.ready.running (ap is_enrolled c.in-Stop.is) c.in-Timer.ensures in
    ready-same x c.step_plain.new.self c.args.g needs.same c.requires.ready

pub stop-requires-clause-wants : goal.stop-requires-clause-wants
stop-requires-clause-wants c =
    let x = c.args.run.now in
    let needs : NeedsOnly x.book c.args.g c.in-Timer.wanted c.step_plain.new.self =
    steps-timer x.book c.args.g c.step_plain.new.self c.in-Timer.wanted c.requires.ready.running (ap is_enrolled c.in-Stop.is) c.in-Timer.ensures in
    subst (λ b. next_of b c.args.g ≡ Some (Step.Needs (TimerOp.Stop c.in-Stop.t))) (sym needs.same) (needs.needs ∙ ap (λ op. Some (Step.Needs op)) c.in-Stop.is)

pub sleep-requires-clause-ready : goal.sleep-requires-clause-ready
sleep-requires-clause-ready c =
    let x = c.args.run.now in
    let needs : NeedsOnly x.book c.args.g c.in-Timer.wanted c.step_plain.new.self =
    steps-timer x.book c.args.g c.step_plain.new.self c.in-Timer.wanted c.requires.ready.running (ap is_enrolled c.in-Sleep.is) c.in-Timer.ensures in
    ready-same x c.step_plain.new.self c.args.g needs.same c.requires.ready

-- the goroutine was parked where it awaits timers
under : (x : Runner) (g : ℕ) (b : BookView) (wanted : TimerOp) (ticket : Ticket) → Ready x g → wanted ≡ TimerOp.Enrolled ticket → Steps x.book g b (Did.Timer wanted) → ParksUnder x.book g ticket b
under x g b wanted ticket ready is steps = steps-enrolled x.book g b ticket ready.running (subst (λ w. Steps x.book g b (Did.Timer w)) is steps)

pub wait-requires : goal.wait-requires
wait-requires c =
    let x = c.args.run.now in
    let b = c.step_plain.new.self in
    let its : ParksUnder x.book c.args.g c.in-Enrolled.ticket b = under x c.args.g b c.in-Timer.wanted c.in-Enrolled.ticket c.requires.ready c.in-Enrolled.is c.in-Timer.ensures in
    let parks : Parks x.book c.args.g b = parks-under x.book c.args.g c.in-Enrolled.ticket b its in
    record {
      uncounted = subst (λ ticket. IsUncounted (record x { book = b }) ticket) (sym its.its)
          (parked-uncounted x (record x { book = b }) c.args.g parks.schedule parks.instr c.requires.ready parks.stands parks.is parks.was refl refl refl
          c.lawful.ensures.lawful c.lawful.ensures.marks);
    }

pub poll-requires-clause-ready : goal.poll-requires-clause-ready
poll-requires-clause-ready c =
    let x = c.args.run.now in
    let needs : NeedsOnly x.book c.args.g c.in-Timer.wanted c.step_plain.new.self =
    steps-timer x.book c.args.g c.step_plain.new.self c.in-Timer.wanted c.requires.ready.running (ap is_enrolled c.in-Poll.is) c.in-Timer.ensures in
    ready-same x c.step_plain.new.self c.args.g needs.same c.requires.ready

pub poll-requires-clause-wants : goal.poll-requires-clause-wants
poll-requires-clause-wants c =
    let x = c.args.run.now in
    let needs : NeedsOnly x.book c.args.g c.in-Timer.wanted c.step_plain.new.self =
    steps-timer x.book c.args.g c.step_plain.new.self c.in-Timer.wanted c.requires.ready.running (ap is_enrolled c.in-Poll.is) c.in-Timer.ensures in
    subst (λ b. next_of b c.args.g ≡ Some (Step.Needs (TimerOp.Poll c.in-Poll.t))) (sym needs.same) (needs.needs ∙ ap (λ op. Some (Step.Needs op)) c.in-Poll.is)

pub set-requires-clause-ready : goal.set-requires-clause-ready
set-requires-clause-ready c =
    let x = c.args.run.now in
    let needs : NeedsOnly x.book c.args.g c.in-Timer.wanted c.step_plain.new.self =
    steps-timer x.book c.args.g c.step_plain.new.self c.in-Timer.wanted c.requires.ready.running (ap is_enrolled c.in-Set.is) c.in-Timer.ensures in
    ready-same x c.step_plain.new.self c.args.g needs.same c.requires.ready

pub set-requires-clause-wants : goal.set-requires-clause-wants
set-requires-clause-wants c =
    let x = c.args.run.now in
    let needs : NeedsOnly x.book c.args.g c.in-Timer.wanted c.step_plain.new.self =
    steps-timer x.book c.args.g c.step_plain.new.self c.in-Timer.wanted c.requires.ready.running (ap is_enrolled c.in-Set.is) c.in-Timer.ensures in
    subst (λ b. WantsSet b c.args.g c.in-Set.t) (sym needs.same)
    (record { d = c.in-Set.d; anew = c.in-Set.anew; wants = needs.needs ∙ ap (λ op. Some (Step.Needs op)) c.in-Set.is })

pub sleep-requires-clause-wants : goal.sleep-requires-clause-wants
sleep-requires-clause-wants c =
    let x = c.args.run.now in
    let needs : NeedsOnly x.book c.args.g c.in-Timer.wanted c.step_plain.new.self =
    steps-timer x.book c.args.g c.step_plain.new.self c.in-Timer.wanted c.requires.ready.running (ap is_enrolled c.in-Sleep.is) c.in-Timer.ensures in
    (c.in-Sleep.field-0, subst (λ b. next_of b c.args.g ≡ Some (Step.Needs (TimerOp.Sleep c.in-Sleep.field-0))) (sym needs.same) (needs.needs ∙ ap (λ op. Some (Step.Needs op)) c.in-Sleep.is))

pub derive-requires-clause-ready : goal.derive-requires-clause-ready
derive-requires-clause-ready c =
    let x = c.args.run.now in
    let needs : NeedsOnly x.book c.args.g c.in-Timer.wanted c.step_plain.new.self =
    steps-timer x.book c.args.g c.step_plain.new.self c.in-Timer.wanted c.requires.ready.running (ap is_enrolled c.in-Deadline.is) c.in-Timer.ensures in
    ready-same x c.step_plain.new.self c.args.g needs.same c.requires.ready

pub derive-requires-clause-wants : goal.derive-requires-clause-wants
derive-requires-clause-wants c =
    let x = c.args.run.now in
    let needs : NeedsOnly x.book c.args.g c.in-Timer.wanted c.step_plain.new.self =
    steps-timer x.book c.args.g c.step_plain.new.self c.in-Timer.wanted c.requires.ready.running (ap is_enrolled c.in-Deadline.is) c.in-Timer.ensures in
    (c.in-Deadline.due, subst (λ b. next_of b c.args.g ≡ Some (Step.Needs (TimerOp.Deadline c.in-Deadline.x c.in-Deadline.due))) (sym needs.same) (needs.needs ∙ ap (λ op. Some (Step.Needs op)) c.in-Deadline.is))

pub returns-in-Deadline : goal.returns-in-Deadline
returns-in-Deadline c =
    let x = c.args.run.now in
    let needs : NeedsOnly x.book c.args.g c.in-Timer.wanted c.step_plain.new.self =
    steps-timer x.book c.args.g c.step_plain.new.self c.in-Timer.wanted c.requires.ready.running (ap is_enrolled c.in-Deadline.is) c.in-Timer.ensures in
    after-same x (record x { book = c.step_plain.new.self }) c.derive.new.run c.args.g needs.same c.derive.ensures

pub returns-in-Stop : goal.returns-in-Stop
returns-in-Stop c =
    let x = c.args.run.now in
    let needs : NeedsOnly x.book c.args.g c.in-Timer.wanted c.step_plain.new.self =
    steps-timer x.book c.args.g c.step_plain.new.self c.in-Timer.wanted c.requires.ready.running (ap is_enrolled c.in-Stop.is) c.in-Timer.ensures in
    after-same x (record x { book = c.step_plain.new.self }) c.stop.new.run c.args.g needs.same c.stop.ensures

pub returns-in-Sleep : goal.returns-in-Sleep
returns-in-Sleep c =
    let x = c.args.run.now in
    let needs : NeedsOnly x.book c.args.g c.in-Timer.wanted c.step_plain.new.self =
    steps-timer x.book c.args.g c.step_plain.new.self c.in-Timer.wanted c.requires.ready.running (ap is_enrolled c.in-Sleep.is) c.in-Timer.ensures in
    after-same x (record x { book = c.step_plain.new.self }) c.sleep.new.run c.args.g needs.same c.sleep.ensures

pub returns-in-Set : goal.returns-in-Set
returns-in-Set c =
    let x = c.args.run.now in
    let needs : NeedsOnly x.book c.args.g c.in-Timer.wanted c.step_plain.new.self =
    steps-timer x.book c.args.g c.step_plain.new.self c.in-Timer.wanted c.requires.ready.running (ap is_enrolled c.in-Set.is) c.in-Timer.ensures in
    after-same x (record x { book = c.step_plain.new.self }) c.set.new.run c.args.g needs.same c.set.ensures

pub returns-in-Poll : goal.returns-in-Poll
returns-in-Poll c =
    let x = c.args.run.now in
    let needs : NeedsOnly x.book c.args.g c.in-Timer.wanted c.step_plain.new.self =
    steps-timer x.book c.args.g c.step_plain.new.self c.in-Timer.wanted c.requires.ready.running (ap is_enrolled c.in-Poll.is) c.in-Timer.ensures in
    after-same x (record x { book = c.step_plain.new.self }) c.poll.new.run c.args.g needs.same c.poll.ensures

pub returns-in-Enrolled : goal.returns-in-Enrolled
returns-in-Enrolled c =
    let x = c.args.run.now in
    let b = c.step_plain.new.self in
    let its : ParksUnder x.book c.args.g c.in-Enrolled.ticket b = under x c.args.g b c.in-Timer.wanted c.in-Enrolled.ticket c.requires.ready c.in-Enrolled.is c.in-Timer.ensures in
    let parks : Parks x.book c.args.g b = parks-under x.book c.args.g c.in-Enrolled.ticket b its in
    after-enrols x (record x { book = b }) c.wait.new.run c.args.g parks.schedule c.requires.ready parks.is parks.was c.wait.ensures
