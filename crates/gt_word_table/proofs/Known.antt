-- What a worker's seat knows after a step.
use Rattle.std.proofs.Common.{◌≡◌, ◌+◌, ◌*◌, ◌<◌, ℕ, List, [], length, sym, ap, ◌∙◌, length-set}
use Rattle.std.proofs.lemmas.List.{get_or-set_same}
use Rattle.atomic_table.specs.Table.{Me}
use Rattle.gt_word_table.specs.declared.view.View.{View}
use Rattle.gt_word_table.specs.declared.view.View.TheVariants.{Worker}
use Rattle.gt_word_table.specs.declared.view.Worker.{Worker as WorkerView}
use Rattle.gt_word_table.specs.declared.view.Load.{Load}
use Rattle.gt_word_table.specs.Shown.{worker_of}
use Rattle.gt_word_table.specs.Views.{IsSized, no_load, load_at, loaded, with_count, with_mod, with_heap, with_note}
use Rattle.gt_word_table.specs.Steps.{worker_then}

pub worker_after : (me me' : Me Unit View) (f : WorkerView → WorkerView) → me ≡ (Worker (worker_of me.0), []) → me' ≡ (worker_then f me.0, me.1)
    → me' ≡ (Worker (f (worker_of me.0)), [])
worker_after me me' f e is = is ∙ (λ k. (worker_then f (e k).0, (e k).1))

-- the seat keeps that it is a worker's
pub worker_kept : (me : Me Unit View) (w : WorkerView) → me ≡ (Worker w, []) → me ≡ (Worker (worker_of me.0), [])
worker_kept me w is = is ∙ ap (λ (v : WorkerView). (Worker v, [])) (sym (ap (λ (m : Me Unit View). worker_of m.0) is))

pub worker_is : (me : Me Unit View) (w : WorkerView) → me ≡ (Worker w, []) → worker_of me.0 ≡ w
worker_is me w is = ap (λ (m : Me Unit View). worker_of m.0) is

pub IsSized-with_count : (words q n : ℕ) (w : WorkerView) → IsSized words w → IsSized words (with_count w q n)
IsSized-with_count words q n w s = record { counts = ap (λ k. 3 * k) (length-set w.counts q _) ∙ s.counts; mods = s.mods; heaps = s.heaps }

pub IsSized-with_mod : (words q n : ℕ) (w : WorkerView) → IsSized words w → IsSized words (with_mod w q n)
IsSized-with_mod words q n w s = record { counts = s.counts; mods = ap (λ k. 3 * k) (length-set w.mods q _) ∙ s.mods; heaps = s.heaps }

pub IsSized-with_heap : (words q n : ℕ) (w : WorkerView) → IsSized words w → IsSized words (with_heap w q n)
IsSized-with_heap words q n w s = record { counts = s.counts; mods = s.mods; heaps = ap (λ k. 3 * k) (length-set w.heaps q _) ∙ s.heaps }

pub IsSized-with_note : (words q when : ℕ) (w : WorkerView) → IsSized words w → IsSized words (with_note w q when)
IsSized-with_note words q when w s = record { counts = s.counts; mods = s.mods; heaps = s.heaps }

pub load_at-loaded_same : (ls : List Load) (q n : ℕ) → q < length ls → load_at (loaded ls q n) q ≡ record { word = n; loads = (load_at ls q).loads + 1 }
load_at-loaded_same ls q n inside = get_or-set_same ls q _ no_load inside
