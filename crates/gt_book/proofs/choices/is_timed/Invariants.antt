use Rattle.std.proofs.Common.{◌≡◌, drop}
use Rattle.std.specs.List.{list_any}
use Rattle.gt_model.specs.declared.script.Case.{Case}
use Rattle.gt_model.specs.Good.{awaits_timer}
use Rattle.gt_book.proofs.choices.is_timed.Given as goal

-- none of the cases so far receives from a timer
abbrev pub invariant-loop-case : goal.invariant-loop-case
invariant-loop-case l = list_any (λ (c : Case). awaits_timer l.script c.kind) l.cases ≡ list_any (λ (c : Case). awaits_timer l.script c.kind) (drop l.case-index l.cases)
