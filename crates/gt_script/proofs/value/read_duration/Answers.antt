use Rattle.std.proofs.Common.{cond, Option, None, ℕ, ◌≤◌, IfSome, sym, ap, subst, ◌∙◌}
use Rattle.std.specs.Result.{result_ok}
use Rattle.std.proofs.lemmas.Str.{is_utf8-from_IsUtf8}
use Rattle.gt_dur.specs.Duration.{read_of}
use Rattle.gt_model.specs.Times.{greatest_time}
use Rattle.gt_grammar.proofs.Fits.{duration-most}
use Rattle.gt_script.proofs.DurationLemmas.{is_utf8-false}
use Rattle.gt_script.proofs.value.read_duration.Goals as goal

pub returns-in-Ok-clause-value : goal.returns-in-Ok-clause-value
returns-in-Ok-clause-value c =
    c.ok.ensures.value ∙ ap result_ok (c.read_dur.ensures.reading ∙ ap read_of c.in-Ok.ensures.cases.0)
    ∙ sym (ap (λ b. cond b (result_ok (read_of c.args.word.now)) None) (is_utf8-from_IsUtf8 c.args.word.now c.in-Ok.ensures.cases.1))

pub returns-in-Ok-clause-most : goal.returns-in-Ok-clause-most
returns-in-Ok-clause-most c =
    let P : Option ℕ → Type 0 = λ o. IfSome o (λ d. d ≤ greatest_time) in
    subst P (sym (returns-in-Ok-clause-value c)) (duration-most c.args.word.now)

pub returns-in-Err-clause-value : goal.returns-in-Err-clause-value
returns-in-Err-clause-value c =
    sym (ap (λ b. cond b (result_ok (read_of c.args.word.now)) None) (is_utf8-false c.args.word.now c.in-Err.ensures.cases.0))
