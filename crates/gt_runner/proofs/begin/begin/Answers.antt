use Rattle.std.proofs.Common.{rules, ◌≡◌, ◌≤◌, ◌+◌, length, [], refl, ap, subst, ◌∙◌}
use Rattle.gt_book.specs.View.{first_view}
use Rattle.gt_runner.specs.Served.{record_count}
use Rattle.gt_runner.specs.Begun.{AreFirst}
use Rattle.gt_runner.proofs.Beginning.{served-first}
use Rattle.gt_runner.proofs.begin.begin.Goals as goal

-- src/begin.rt:46:1
pub returns-clause-served : goal.returns-clause-served
returns-clause-served c =
    let book : c.in_ok-book.book ≡ first_view c.args.script c.args.limits = search rules in
    let empty : c.in_ok-heap.heap.slots ≡ [] = search rules in
    let room : c.records-count.result ≤ c.in_ok-heap.heap.spare = search rules in
    let count : c.records-count.result ≡ record_count c.in_ok-book.book = c.records-count.ensures in
    let same : c.records-count.result ≡ record_count (first_view c.args.script c.args.limits) = count ∙ ap record_count book in
    let of_script : c.script.result.now ≡ c.args.script = c.script.ensures ∙ ap (λ b. b.script) book in
    let all : length c.in_ok-records.records.items + c.in_ok-records.records.spare ≡ c.records-count.result = c.in_ok-records.ensures.room in
    served-first _ c.args.script c.args.limits book empty refl (subst (λ s. AreFirst s c.in_ok-records.records) of_script c.in_ok-records.ensures.first)
    (all ∙ same) (subst (λ n. n ≤ c.in_ok-heap.heap.spare) same room)
