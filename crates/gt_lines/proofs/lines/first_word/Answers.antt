use Rattle.std.proofs.Common.{sym}
use Rattle.gt_lines.proofs.LineLemmas.{first-is_last, first-is_cut, words_of-None}
use Rattle.gt_lines.proofs.lines.first_word.Goals as goal

pub returns-in-None : goal.returns-in-None
returns-in-None c =
    rw (c.split_at-in-None.ensures.front, c.split_at-in-None.ensures.back, c.split_at.ensures.back)
    (first-is_last c.args.line.now c.in_ok-start.start (sym c.in_ok-start.ensures) (rw (← c.split_at.ensures.back) (sym c.in-None.ensures)))

pub returns-in-Some : goal.returns-in-Some
returns-in-Some c =
    rw (c.split_at-in-Some.ensures.front, c.split_at-in-Some.ensures.back, c.split_at.ensures.back)
    (first-is_cut c.args.line.now c.in_ok-start.start c.in-Some.end (sym c.in_ok-start.ensures) (rw (← c.split_at.ensures.back) (sym c.in-Some.ensures)))

pub returns-in_err-start : goal.returns-in_err-start
returns-in_err-start c = rw c.from_residual.ensures (words_of-None c.args.line.now (sym c.in_err-start.ensures))
