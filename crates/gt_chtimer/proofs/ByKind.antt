-- What a record of a kind answers, and what it is set with.
use Rattle.std.proofs.Common.{◌≡◌, ℕ, cond, sym, ap, ◌∙◌, refl, Option, None, Some, Bool, is_some}
use Rattle.gt_model.specs.declared.script.Script.{Script}
use Rattle.gt_rules.specs.After.{period_of}
use Rattle.gt_rec.specs.declared.RecKind.{RecKind}
use Rattle.gt_rec.specs.Rec.{Rec, shown}
use Rattle.gt_rows.specs.Agrees.{kind_by}
use Rattle.gt_rows.specs.Rows.{answer_of}
use Rattle.gt_rows.proofs.Tickers.{is_ticking, ticker-kind}
use Rattle.gt_chtimer.specs.Kinds.{answer_by, setting_period}

answer-kind : (kind : RecKind) (o : Option ℕ) → answer_by kind (is_some o) ≡ (elim kind as (λ k. Option Bool) [ RecKind.Ticker ↦ None | _ ↦ Some (is_some o) ])
answer-kind RecKind.Timer o = refl
answer-kind RecKind.Ticker o = refl
answer-kind RecKind.Func o = refl
answer-kind RecKind.Sleep o = refl
answer-kind RecKind.Deadline o = refl

-- what is answered is what the record tells
pub answer-is : (r : Rec) (was_set : Bool) (was : Option Bool) → was_set ≡ is_some (shown r) → was ≡ answer_by r.kind was_set → was ≡ answer_of r
answer-is r was_set was set is = is ∙ (ap (answer_by r.kind) set ∙ answer-kind r.kind (shown r))

period-kind : (kind : RecKind) (d : ℕ) → setting_period kind d ≡ cond (is_ticking kind) d 0
period-kind RecKind.Timer d = refl
period-kind RecKind.Ticker d = refl
period-kind RecKind.Func d = refl
period-kind RecKind.Sleep d = refl
period-kind RecKind.Deadline d = refl

-- the period by the record's kind is that of its declaration
pub period-is : (script : Script) (id d : ℕ) (kind : RecKind) → kind_by script id ≡ Some kind → setting_period kind d ≡ period_of script id d
period-is script id d kind is = period-kind kind d ∙ ap (λ b. cond b d 0) (sym (ticker-kind script id kind is))
