use Rattle.std.proofs.Common.{rules, ◌≡◌, ◌∙◌, ap, sym, Some}
use Rattle.std.specs.Option.{option_copied}
use Rattle.gt_rules.specs.State.{stands_at}
use Rattle.gt_machine.specs.Machine.{state_of}
use Rattle.gt_book.proofs.Finding.{WithSleep, WithTimers, earlier-sleep, with-none, with-instr}
use Rattle.gt_book.proofs.counted.with_goroutine.Goals as goal

pub returns-in-Some : goal.returns-in-Some
returns-in-Some c =
    let slept : WithSleep c.args.script.now (state_of c.args.machine.now) c.args.g c.args.found c.earlier-with_sleep.result =
    earlier-sleep c.args.script.now (state_of c.args.machine.now) c.args.g c.args.found c.until.result _ c.earlier-with_sleep.result c.until.ensures (search rules)
    c.requires.found c.earlier-with_sleep.ensures.one c.earlier-with_sleep.ensures.not_later c.earlier-with_sleep.ensures.still in
    let stands : stands_at c.args.script.now (state_of c.args.machine.now) c.args.g ≡ Some c.in-Some.instr.now = sym c.stands_at.ensures ∙ ap option_copied c.in-Some.is in
    let timed : WithTimers (state_of c.args.machine.now) c.in-Some.instr.now c.earlier-with_sleep.result c.with_instr.result =
    record { one = c.with_instr.ensures.shown; not_later = c.with_instr.ensures.not_later; still = c.with_instr.ensures.still } in
    with-instr c.args.script.now (state_of c.args.machine.now) c.args.g c.in-Some.instr.now c.args.found c.earlier-with_sleep.result c.with_instr.result
    c.requires.good c.requires.formed slept stands timed

pub returns-in-None : goal.returns-in-None
returns-in-None c =
    let slept : WithSleep c.args.script.now (state_of c.args.machine.now) c.args.g c.args.found c.earlier-with_sleep.result =
    earlier-sleep c.args.script.now (state_of c.args.machine.now) c.args.g c.args.found c.until.result _ c.earlier-with_sleep.result c.until.ensures (search rules)
    c.requires.found c.earlier-with_sleep.ensures.one c.earlier-with_sleep.ensures.not_later c.earlier-with_sleep.ensures.still in
    with-none c.args.script.now (state_of c.args.machine.now) c.args.g c.args.found c.earlier-with_sleep.result c.requires.formed slept
    (sym c.stands_at.ensures ∙ ap option_copied c.in-None.is)
