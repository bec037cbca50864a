use Rattle.std.proofs.Common.{sym, ◌∙◌}
use Rattle.gt_machine.specs.Machine.{state_of}
use Rattle.gt_book.proofs.Finding.{with-time, with-func, with-deadline}
use Rattle.gt_book.proofs.counted.with_decl.Goals as goal

pub returns-then-is_func : goal.returns-then-is_func
returns-then-is_func c =
    with-func c.args.script.now (state_of c.args.machine.now) c.args.t c.args.found c.earlier.result c.requires.formed c.requires.found (sym c.is_func.ensures ∙ c.if-is_func.true)
    (with-time c.args.found c.due_of.result _ c.args.t c.earlier.result c.due_of.ensures c.earlier.ensures.one c.earlier.ensures.not_later c.earlier.ensures.still)

pub returns-else-is_func : goal.returns-else-is_func
returns-else-is_func c =
    with-deadline c.args.script.now (state_of c.args.machine.now) c.args.t c.args.found c.earlier-else-is_func.result c.requires.formed c.requires.found (sym c.is_func.ensures ∙ c.if-is_func.false)
    (with-time c.args.found c.deadline_of.result _ c.args.t c.earlier-else-is_func.result c.deadline_of.ensures c.earlier-else-is_func.ensures.one c.earlier-else-is_func.ensures.not_later c.earlier-else-is_func.ensures.still)
