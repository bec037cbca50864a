use Rattle.std.proofs.Common.{◌≡◌, ◌<◌, [], ap, sym, refl, ◌∙◌, subst, arith}
use Rattle.atomic_table.specs.Seated.{TableId}
use Rattle.gt_word_table.specs.declared.view.View.TheVariants.{Worker}
use Rattle.gt_word_table.specs.declared.view.Worker.{Worker as WorkerView}
use Rattle.gt_word_table.specs.Shown.{worker_of}
use Rattle.gt_word_table.specs.Views.{with_note, IsSized}
use Rattle.gt_word_table.proofs.Known.{worker_after, worker_kept, worker_is, IsSized-with_note}
use Rattle.gt_word_table.proofs.Seats.{notes_as}
use Rattle.gt_word_table.proofs.worker.WorkerSeat.note.Goals as goal

pub fetch_min-requires : goal.fetch_min-requires
fetch_min-requires c =
    let table : c.self.inside.seat.table_id ≡ c.t.inside.words.shared.table_id = ap (λ w. w.table) c.self.view_is ∙ (c.requires.table ∙ ap (λ t. t.table) (sym c.t.view_is)) in
    let all = c.t.invariant.0 in
    let words = c.t.invariant.1 in
    let heaps = ap (λ t. t.heaps) c.t.view_is in
    let below = c.requires.heap in
    let inside : c.args.q < c.t.inside.words.shared.key = omega arith in
    (table, omega arith, notes_as c.t.inside.words.shared.key c.self.inside.seat.id c.t.inside.words.shared.table_id.slots c.args.q c.args.when c.self.inside.seat.me (worker_of c.self.inside.seat.me.0) c.self.invariant.0 inside)

pub invariant_of-self : goal.invariant_of-self
invariant_of-self c =
    let w : WorkerView = with_note (worker_of c.self.inside.seat.me.0) c.args.q c.args.when in
    let is : c.fetch_min.new.seat.me ≡ (Worker w, []) = worker_after c.self.inside.seat.me c.fetch_min.new.seat.me (λ k. with_note k c.args.q c.args.when) c.self.invariant.0 (c.fetch_min.ensures.2 c.args.q refl) in
    let sized : IsSized c.self.inside.seat.table_id.words w = IsSized-with_note c.self.inside.seat.table_id.words c.args.q c.args.when (worker_of c.self.inside.seat.me.0) c.self.invariant.1 in
    (worker_kept c.fetch_min.new.seat.me w is, subst (λ (y : TableId × WorkerView). IsSized y.0.words y.1) (λ j. (sym c.fetch_min.ensures.0 j, sym (worker_is c.fetch_min.new.seat.me w is) j)) sized)

pub returns-clause-view : goal.returns-clause-view
returns-clause-view c =
    let w : WorkerView = with_note (worker_of c.self.inside.seat.me.0) c.args.q c.args.when in
    let is : c.fetch_min.new.seat.me ≡ (Worker w, []) = worker_after c.self.inside.seat.me c.fetch_min.new.seat.me (λ k. with_note k c.args.q c.args.when) c.self.invariant.0 (c.fetch_min.ensures.2 c.args.q refl) in
    worker_is c.fetch_min.new.seat.me w is ∙ ap (λ s. with_note s.view c.args.q c.args.when) c.self.view_is
