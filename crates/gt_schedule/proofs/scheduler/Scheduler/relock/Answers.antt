use Rattle.std.proofs.Common.{◌++◌, ◌∷◌, [], ◌+◌, ap, refl}
use Rattle.gt_select.specs.Waiting.{parties_in, put_party_before}
use Rattle.gt_schedule.proofs.Relocked.{may-leave, placed-is}
use Rattle.gt_schedule.proofs.scheduler.Scheduler.relock.Goals as goal

pub wait_before-requires-clause-may_wait : goal.wait_before-requires-clause-may_wait
wait_before-requires-clause-may_wait c =
    may-leave c.args.self.now c.forget.new.self c.args.g c.args.k c.plainly.result c.lawful.ensures c.requires.cond c.requires.stands c.forget.ensures c.plainly.ensures

pub wait-requires-clause-may_wait : goal.wait-requires-clause-may_wait
wait-requires-clause-may_wait c =
    may-leave c.args.self.now c.forget.new.self c.args.g c.args.k c.plainly-in-None.result c.lawful.ensures c.requires.cond c.requires.stands c.forget.ensures c.plainly-in-None.ensures

pub returns-in-Some-clause-schedule : goal.returns-in-Some-clause-schedule
returns-in-Some-clause-schedule c =
    let v = c.forget.new.self in
    let list = c.args.self.now.declared + c.mutex_of.result in
    let p = c.plainly.result in
    placed-is c.args.self.now v c.wait_before.new.self c.args.g c.args.k list p (put_party_before (parties_in v.lists list) c.in-Some.other p)
    c.requires.cond c.forget.ensures (ap (λ n. c.args.self.now.declared + n) c.mutex_of.ensures) c.plainly.ensures c.wait_before.ensures (c.in-Some.ensures.some.1 p)

pub returns-in-None-clause-schedule : goal.returns-in-None-clause-schedule
returns-in-None-clause-schedule c =
    let v = c.forget.new.self in
    let list = c.args.self.now.declared + c.mutex_of.result in
    let p = c.plainly-in-None.result in
    placed-is c.args.self.now v c.wait.new.self c.args.g c.args.k list p (parties_in v.lists list ++ p ∷ [])
    c.requires.cond c.forget.ensures (ap (λ n. c.args.self.now.declared + n) c.mutex_of.ensures) c.plainly-in-None.ensures c.wait.ensures (c.in-None.ensures.none refl p)
