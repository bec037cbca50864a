use Rattle.std.proofs.Common.{rules, ◌≡◌, codes, List, ℕ, arith}
use Rattle.std.proofs.lemmas.Slice.Eq.{text_from_reads}
use Rattle.gt_table.proofs.table.read_ctx_form.Goals as goal

pub returns-in-cancel : goal.returns-in-cancel
returns-in-cancel c =
    let word : List ℕ = c.args.word.now in
    let is : word ≡ codes "cancel" = text_from_reads word (codes "cancel") (omega arith) (search rules) in
    rw is

pub returns-in-timeout : goal.returns-in-timeout
returns-in-timeout c =
    let word : List ℕ = c.args.word.now in
    let is : word ≡ codes "timeout" = text_from_reads word (codes "timeout") (omega arith) (search rules) in
    rw is

pub returns-in-without : goal.returns-in-without
returns-in-without c =
    let word : List ℕ = c.args.word.now in
    let is : word ≡ codes "without" = text_from_reads word (codes "without") (omega arith) (search rules) in
    rw is
