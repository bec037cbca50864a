use Rattle.std.proofs.Common.{◌≡◌, ◌+◌, ◌<◌, ◌≤◌, ℕ, length, drop, refl, sym, ap, ◌∙◌, arith}
use Rattle.gt_schedule.specs.Schedule.{Schedule, at_case, waiting_at_cases}
use Rattle.gt_schedule.specs.Scheduler.{schedule_of}
use Rattle.gt_schedule.proofs.Keeping.{waits-next, waits-all, as_many-receivers, apart-cases}
use Rattle.gt_schedule.proofs.scheduler.Scheduler.wait_at_cases.Goals as goal

pub loop-k-init : goal.loop-k-init
loop-k-init c = record {
  schedule = refl;
  room = refl;
  declared = refl;
  may = λ j some few. c.requires.may j few;
  kept = c.requires.kept;
}

pub wait_at-requires-clause-kept : goal.wait_at-requires-clause-kept
wait_at-requires-clause-kept c = c.loop-k.invariant.kept

below : (x m n : ℕ) → n ≡ m → x < m → x < n
below x m n same less = omega arith

pub wait_at-requires-clause-declared : goal.wait_at-requires-clause-declared
wait_at-requires-clause-declared c = below _ _ _ c.loop-k.invariant.declared (c.requires.declared c.loop-k.k _ c.loop-k-test.true)

pub wait_at-requires-clause-may : goal.wait_at-requires-clause-may
wait_at-requires-clause-may c =
    let within : c.loop-k.k < length c.args.cases.now = c.loop-k-test.true in
    let few : length c.args.cases.now ≤ 16 = c.requires.few in
    c.loop-k.invariant.may (c.loop-k.k + 1) (omega arith) (omega arith)

pub loop-k-preserved : goal.loop-k-preserved
loop-k-preserved c =
    let g = c.args.g in
    let k = c.loop-k.k in
    let cases = c.args.cases.now in
    let was = schedule_of c.loop-k.self in
    record {
      schedule = ap (λ (s : Schedule). waiting_at_cases s g (k + 1 + 1) (drop (k + 1) cases)) c.wait_at.ensures.schedule
          ∙ (sym (waits-next was g (k + 1) k cases _ c.loop-k-test.true) ∙ c.loop-k.invariant.schedule);
      room = c.wait_at.ensures.room ∙ c.loop-k.invariant.room;
      declared = ap (λ (s : Schedule). length s.receivers) c.wait_at.ensures.schedule ∙ (as_many-receivers was (at_case g (k + 1)) _ ∙ c.loop-k.invariant.declared);
      may = λ j after few. c.wait_at.ensures.may (at_case g j) (apart-cases g (k + 1) j after) (c.loop-k.invariant.may j (omega arith) few);
      kept = c.wait_at.ensures.kept;
    }

pub returns-clause-schedule : goal.returns-clause-schedule
returns-clause-schedule c =
    sym (waits-all (schedule_of c.loop-k.self) c.args.g (c.loop-k.k + 1) c.loop-k.k c.args.cases.now c.loop-k-test.false) ∙ c.loop-k.invariant.schedule

pub returns-clause-room : goal.returns-clause-room
returns-clause-room c = c.loop-k.invariant.room

pub returns-clause-kept : goal.returns-clause-kept
returns-clause-kept c = c.loop-k.invariant.kept
