use Rattle.std.proofs.lemmas.List.Sums.{prefix_len-le-length}
use Rattle.gt_model.specs.Good.{is_digit}
use Rattle.gt_dur.proofs.Runs.{is_other, take-prefix_len, drop-prefix_len, pairs_of-front, is_at_digits-behind, All-front}
use Rattle.gt_dur.proofs.pairs.first_pair.Goals as goal

pub split_at-requires : goal.split_at-requires
split_at-requires c = rw c.digit_count.ensures (prefix_len-le-length is_digit c.args.text.now)

pub split_at-requires-2 : goal.split_at-requires-2
split_at-requires-2 c = rw c.unit_length.ensures (prefix_len-le-length is_other c.split_at.result.1.now)

pub returns-clause-first : goal.returns-clause-first
returns-clause-first c =
    rw (c.split_at-2.ensures.front, c.split_at-2.ensures.back, c.unit_length.ensures, take-prefix_len, drop-prefix_len)
    (rw (c.split_at.ensures.front, c.split_at.ensures.back, c.digit_count.ensures, take-prefix_len, drop-prefix_len)
    (pairs_of-front c.args.text.now c.requires))

pub returns-clause-digits : goal.returns-clause-digits
returns-clause-digits c =
    rw (c.split_at.ensures.front, c.digit_count.ensures, take-prefix_len) (All-front c.args.text.now)

pub returns-clause-next : goal.returns-clause-next
returns-clause-next c =
    rw (c.split_at-2.ensures.back, c.unit_length.ensures, drop-prefix_len) (is_at_digits-behind c.split_at.result.1.now)
