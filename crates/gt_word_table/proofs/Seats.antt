-- The steps of seats whose views are known.
use Rattle.std.proofs.Common.{◌≡◌, ◌+◌, ◌*◌, ◌%◌, ◌^◌, ◌<◌, ℕ, eqb, min, [], sym, subst}
use mathlib.Core.Option.{none}
use prog.Atomic.{either}
use Rattle.atomic_table.specs.Table.{Me, step, Allows}
use Rattle.gt_word_table.specs.declared.view.View.{View}
use Rattle.gt_word_table.specs.declared.view.View.TheVariants.{Worker, Heap}
use Rattle.gt_word_table.specs.declared.view.Worker.{Worker as WorkerView}
use Rattle.gt_word_table.specs.declared.view.Heap.{Heap as HeapView}
use Rattle.gt_word_table.specs.declared.view.Phase.{Phase}
use Rattle.gt_word_table.specs.Rule.{Holds}
use Rattle.gt_word_table.specs.Steps.{CountLoads, ModLoads, HeapLoads, Notes, Looks, Lowers, Clears, Bumps, Raises}
use Rattle.gt_word_table.proofs.Workers.{count_loads, mod_loads, heap_loads, notes}
use Rattle.gt_word_table.proofs.Heaps.{looks, lowers, clears, bumps, raises}

pub looks_as : (n id slots : ℕ) (me : Me Unit View) (h : HeapView) → me ≡ (Heap h, [])
    → Allows (Holds n) slots id me (3 * h.heap) (λ x. x) (Looks (step slots (3 * h.heap) 0 0 none) me)
looks_as n id slots me h e = subst (λ (m : Me Unit View). Allows (Holds n) slots id m (3 * h.heap) (λ x. x) (Looks (step slots (3 * h.heap) 0 0 none) m)) (sym e) (looks n id slots h [])

pub lowers_as : (n id slots v : ℕ) (me : Me Unit View) (h : HeapView) → me ≡ (Heap h, []) → h.heap < n
    → Allows (Holds n) slots id me (3 * h.heap + 1) (λ x. min x v) (Lowers (step slots (3 * h.heap + 1) v 0 none) me)
lowers_as n id slots v me h e inside = subst (λ (m : Me Unit View). Allows (Holds n) slots id m (3 * h.heap + 1) (λ x. min x v) (Lowers (step slots (3 * h.heap + 1) v 0 none) m)) (sym e) (lowers n id slots v h [] inside)

pub clears_as : (n id slots seen new : ℕ) (me : Me Unit View) (h : HeapView) → me ≡ (Heap h, []) → h.heap < n → h.phase ≡ Phase.Low seen
    → Allows (Holds n) slots id me (3 * h.heap) (λ x. either (eqb x seen) new x) (Clears (step slots (3 * h.heap) seen new none) me)
clears_as n id slots seen new me h e inside phase = subst (λ (m : Me Unit View). Allows (Holds n) slots id m (3 * h.heap) (λ x. either (eqb x seen) new x) (Clears (step slots (3 * h.heap) seen new none) m)) (sym e) (clears n id slots seen new h [] inside phase)

pub bumps_as : (n id slots : ℕ) (me : Me Unit View) (h : HeapView) → me ≡ (Heap h, []) → h.heap < n → h.phase ≡ Phase.Cleared → h.count + 1 < 2 ^ 64
    → Allows (Holds n) slots id me (3 * h.heap + 2) (λ x. (x + 1) % 2 ^ 64) (Bumps (step slots (3 * h.heap + 2) 1 0 none) me)
bumps_as n id slots me h e inside phase small = subst (λ (m : Me Unit View). Allows (Holds n) slots id m (3 * h.heap + 2) (λ x. (x + 1) % 2 ^ 64) (Bumps (step slots (3 * h.heap + 2) 1 0 none) m)) (sym e) (bumps n id slots h [] inside phase small)

pub raises_as : (n id slots v : ℕ) (me : Me Unit View) (h : HeapView) → me ≡ (Heap h, []) → h.heap < n → h.phase ≡ Phase.Bumped
    → Allows (Holds n) slots id me (3 * h.heap + 1) (λ _. v) (λ _. Raises (step slots (3 * h.heap + 1) v 0 none) me v)
raises_as n id slots v me h e inside phase = subst (λ (m : Me Unit View). Allows (Holds n) slots id m (3 * h.heap + 1) (λ _. v) (λ _. Raises (step slots (3 * h.heap + 1) v 0 none) m v)) (sym e) (raises n id slots v h [] inside phase)

pub count_loads_as : (n id slots q : ℕ) (me : Me Unit View) (w : WorkerView) → me ≡ (Worker w, [])
    → Allows (Holds n) slots id me (3 * q + 2) (λ x. x) (CountLoads (step slots (3 * q + 2) 0 0 none) me)
count_loads_as n id slots q me w e = subst (λ (m : Me Unit View). Allows (Holds n) slots id m (3 * q + 2) (λ x. x) (CountLoads (step slots (3 * q + 2) 0 0 none) m)) (sym e) (count_loads n id slots q w [])

pub mod_loads_as : (n id slots q : ℕ) (me : Me Unit View) (w : WorkerView) → me ≡ (Worker w, [])
    → Allows (Holds n) slots id me (3 * q) (λ x. x) (ModLoads (step slots (3 * q) 0 0 none) me)
mod_loads_as n id slots q me w e = subst (λ (m : Me Unit View). Allows (Holds n) slots id m (3 * q) (λ x. x) (ModLoads (step slots (3 * q) 0 0 none) m)) (sym e) (mod_loads n id slots q w [])

pub heap_loads_as : (n id slots q : ℕ) (me : Me Unit View) (w : WorkerView) → me ≡ (Worker w, [])
    → Allows (Holds n) slots id me (3 * q + 1) (λ x. x) (HeapLoads (step slots (3 * q + 1) 0 0 none) me)
heap_loads_as n id slots q me w e = subst (λ (m : Me Unit View). Allows (Holds n) slots id m (3 * q + 1) (λ x. x) (HeapLoads (step slots (3 * q + 1) 0 0 none) m)) (sym e) (heap_loads n id slots q w [])

pub notes_as : (n id slots q when : ℕ) (me : Me Unit View) (w : WorkerView) → me ≡ (Worker w, []) → q < n
    → Allows (Holds n) slots id me (3 * q) (λ x. min x when) (Notes (step slots (3 * q) when 0 none) me)
notes_as n id slots q when me w e inside = subst (λ (m : Me Unit View). Allows (Holds n) slots id m (3 * q) (λ x. min x when) (Notes (step slots (3 * q) when 0 none) m)) (sym e) (notes n id slots q when w [] inside)
