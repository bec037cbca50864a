use Rattle.std.proofs.Common.{sym, ◌∙◌}
use Rattle.gt_runner.proofs.Cleanings.{clean-unscanned, none-early}
use Rattle.gt_runner.proofs.settling.settle.Goals as goal

pub returns-else-is_early-clause-clean : goal.returns-else-is_early-clause-clean
returns-else-is_early-clause-clean c = clean-unscanned c.clean.new.run c.clean.ensures.fit (sym c.if-is_early.ensures)

pub returns-then-is_early-clause-clean : goal.returns-then-is_early-clause-clean
returns-then-is_early-clause-clean c =
    let x = c.clean-then-is_early.new.run in
    clean-unscanned x c.clean-then-is_early.ensures.fit (none-early x (c.clean-then-is_early.ensures.noted ∙ c.pass.ensures.noted))
