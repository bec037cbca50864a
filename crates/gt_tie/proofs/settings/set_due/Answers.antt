use Rattle.std.proofs.Common.{◌≡◌, ℕ, List, ap, sym, ◌∙◌, set}
use Rattle.atomic_table.specs.Table.{Me}
use Rattle.gt_tie.specs.declared.view.View.{View}
use Rattle.gt_tie.specs.declared.view.Setting.{Setting}
use Rattle.gt_tie.specs.Views.{book_of, due_of}
use Rattle.gt_tie.specs.Steps.{due_put, period_put}
use Rattle.gt_tie.proofs.Puts.{period_put-due_put}
use Rattle.gt_tie.proofs.settings.set_due.Goals as goal

pub returns-clause-book : goal.returns-clause-book
returns-clause-book c =
    let book : Me Unit View → List Setting = λ m. book_of m.0 in
    let i : ℕ = c.rec.inside.number in
    let w : ℕ = c.due_word-word.result in
    let p : ℕ = c.args.period in
    let old : List Setting = book_of c.book.inside.seat.me.0 in
    let due = ap book c.store_due.ensures.side ∙ ap (due_put i w) (ap book c.bring.ensures.both) in
    let settings : book_of c.part.new.side.me.0 ≡ set old i (record { due = due_of w; period = p }) =
    ap book c.part.ensures.side ∙ (ap book c.store_period.ensures.side ∙ (ap (period_put i p) due ∙ period_put-due_put old i w p)) in
    let shown = settings ∙ (λ j. set (ap (λ b. b.settings) c.book.view_is j) (ap (λ r. r.number) c.rec.view_is j) (record { due = c.due_word-word.ensures j; period = p })) in
    let table = c.part.ensures.side_table ∙ sym c.requires.book_table in
    λ j. record { table = table j; settings = shown j }
