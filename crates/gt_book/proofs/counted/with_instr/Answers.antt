use Rattle.std.proofs.Common.{List, IsTrue, subst, sym}
use Rattle.std.specs.List.{list_any}
use Rattle.gt_model.specs.declared.script.Case.{Case}
use Rattle.gt_model.specs.declared.script.Instr.{Instr}
use Rattle.gt_rules.specs.Operations.{receives_from, offers}
use Rattle.gt_book.proofs.counted.with_instr.Goals as goal

pub returns-in-Select-clause-not_later : goal.returns-in-Select-clause-not_later
returns-in-Select-clause-not_later c t q =
    let any : IsTrue (list_any (λ (c : Case). receives_from t c.kind) c.in-Select.cases) = subst (λ (i : Instr). IsTrue (offers (receives_from t) i)) c.in-Select.is q in
    c.with_cases.ensures.not_later t (subst (λ (cases : List Case). IsTrue (list_any (λ (c : Case). receives_from t c.kind) cases)) (sym c.as_slice.ensures) any)
