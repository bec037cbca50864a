use Rattle.std.proofs.Common.{◌≡◌, ◌+◌, ◌<◌, [], length, ap, sym, refl, ◌∙◌, subst, arith}
use Rattle.atomic_table.specs.Seated.{TableId}
use Rattle.atomic_table.specs.Table.{Me}
use Rattle.gt_word_table.specs.declared.view.View.{View}
use Rattle.gt_word_table.specs.declared.view.View.TheVariants.{Worker}
use Rattle.gt_word_table.specs.declared.view.Worker.{Worker as WorkerView}
use Rattle.gt_word_table.specs.Shown.{worker_of}
use Rattle.gt_word_table.specs.Views.{with_count, load_at, IsSized}
use Rattle.gt_word_table.proofs.Known.{worker_after, worker_kept, worker_is, IsSized-with_count, load_at-loaded_same}
use Rattle.gt_word_table.proofs.Seats.{count_loads_as}
use Rattle.gt_word_table.proofs.worker.WorkerSeat.load_count.Goals as goal

pub load-requires : goal.load-requires
load-requires c =
    let table : c.self.inside.seat.table_id ≡ c.t.inside.words.shared.table_id = ap (λ w. w.table) c.self.view_is ∙ (c.requires.table ∙ ap (λ t. t.table) (sym c.t.view_is)) in
    let all = c.t.invariant.0 in
    let words = c.t.invariant.1 in
    let heaps = ap (λ t. t.heaps) c.t.view_is in
    let below = c.requires.heap in
    let inside : c.args.q < c.t.inside.words.shared.key = omega arith in
    (table, omega arith, count_loads_as c.t.inside.words.shared.key c.self.inside.seat.id c.t.inside.words.shared.table_id.slots c.args.q c.self.inside.seat.me (worker_of c.self.inside.seat.me.0) c.self.invariant.0)

pub invariant_of-self : goal.invariant_of-self
invariant_of-self c =
    let w : WorkerView = with_count (worker_of c.self.inside.seat.me.0) c.args.q c.load.result in
    let is : c.load.new.seat.me ≡ (Worker w, []) = worker_after c.self.inside.seat.me c.load.new.seat.me (λ k. with_count k c.args.q c.load.result) c.self.invariant.0 ((c.load.ensures.2 c.args.q refl).0) in
    let sized : IsSized c.self.inside.seat.table_id.words w = IsSized-with_count c.self.inside.seat.table_id.words c.args.q c.load.result (worker_of c.self.inside.seat.me.0) c.self.invariant.1 in
    (worker_kept c.load.new.seat.me w is, subst (λ (y : TableId × WorkerView). IsSized y.0.words y.1) (λ j. (sym c.load.ensures.0 j, sym (worker_is c.load.new.seat.me w is) j)) sized)

pub returns-clause-view : goal.returns-clause-view
returns-clause-view c =
    let w : WorkerView = with_count (worker_of c.self.inside.seat.me.0) c.args.q c.load.result in
    let is : c.load.new.seat.me ≡ (Worker w, []) = worker_after c.self.inside.seat.me c.load.new.seat.me (λ k. with_count k c.args.q c.load.result) c.self.invariant.0 ((c.load.ensures.2 c.args.q refl).0) in
    worker_is c.load.new.seat.me w is ∙ ap (λ s. with_count s.view c.args.q c.load.result) c.self.view_is

pub returns-clause-kept : goal.returns-clause-kept
returns-clause-kept c =
    let old : WorkerView = worker_of c.self.inside.seat.me.0 in
    let w : WorkerView = with_count old c.args.q c.load.result in
    let is : c.load.new.seat.me ≡ (Worker w, []) = worker_after c.self.inside.seat.me c.load.new.seat.me (λ k. with_count k c.args.q c.load.result) c.self.invariant.0 ((c.load.ensures.2 c.args.q refl).0) in
    let sized = c.self.invariant.1.counts in
    let table = ap (λ (z : TableId). z.words) (ap (λ w. w.table) c.self.view_is ∙ (c.requires.table ∙ ap (λ t. t.table) (sym c.t.view_is))) in
    let words = c.t.invariant.1 in
    let heaps = ap (λ t. t.heaps) c.t.view_is in
    let below = c.requires.heap in
    let inside : c.args.q < length old.counts = omega arith in
    ap (λ (k : WorkerView). load_at k.counts c.args.q) (worker_is c.load.new.seat.me w is)
    ∙ (load_at-loaded_same old.counts c.args.q c.load.result inside ∙ ap (λ s. record { word = c.load.result; loads = (load_at s.view.counts c.args.q).loads + 1 }) c.self.view_is)

pub returns-clause-behind : goal.returns-clause-behind
returns-clause-behind c = λ m noted here behind.
    (c.load.ensures.2 c.args.q refl).1 (worker_of c.self.inside.seat.me.0) m (ap (λ (v : Me Unit View). v.0) c.self.invariant.0) (ap (λ s. s.view.note) c.self.view_is ∙ noted) here behind
