-- The steps of seats whose views are known.
use Rattle.std.proofs.Common.{◌≡◌, ◌+◌, ◌*◌, ℕ, List, [], None, sym, subst}
use mathlib.Core.Option.{none}
use Rattle.atomic_table.specs.Table.{Me, step, Allows, Joins}
use Rattle.gt_tie.specs.declared.view.View.{View}
use Rattle.gt_tie.specs.declared.view.Setting.{Setting}
use Rattle.gt_tie.specs.declared.view.HeapPart.{HeapPart}
use Rattle.gt_tie.specs.declared.view.RecPart.{RecPart}
use Rattle.gt_tie.specs.Views.{nobody, rec_view, joined, with_book, with_heap, IsOurs}
use Rattle.gt_tie.specs.Rule.{Holds}
use Rattle.gt_tie.specs.Steps.{DueStores, PeriodStores, HeapStores, KeyStores}
use Rattle.gt_tie.proofs.Moves.{joins}
use Rattle.gt_tie.proofs.Stores.{due_stores, period_stores, heap_stores, key_stores}

pub joins_as : (n m id other : ℕ) (v w : View) (h : ℕ) (r : RecPart) → v.rec ≡ None → w ≡ rec_view h r → Joins (Holds n m) id v other w (joined v w) (nobody 0)
joins_as n m id other v w h r bare e = subst (λ (u : View). Joins (Holds n m) id v other u (joined v u) (nobody 0)) (sym e) (joins n m id other v h r bare)

pub due_stores_as : (n m id slots hm x i : ℕ) (me : Me Unit View) (l : List Setting) (r : RecPart) → me ≡ (with_book hm l r, []) → i ≡ r.number
    → Allows (Holds n m) slots id me (4 * i) (λ _. x) (λ _. DueStores (step slots (4 * i) x 0 none) me x)
due_stores_as n m id slots hm x i me l r e at = subst (λ (y : ℕ × Me Unit View). Allows (Holds n m) slots id y.1 (4 * y.0) (λ _. x) (λ _. DueStores (step slots (4 * y.0) x 0 none) y.1 x)) (λ j. (sym at j, sym e j)) (due_stores n m id slots hm x l r)

pub period_stores_as : (n m id slots hm x i : ℕ) (me : Me Unit View) (l : List Setting) (r : RecPart) → me ≡ (with_book hm l r, []) → i ≡ r.number
    → Allows (Holds n m) slots id me (4 * i + 1) (λ _. x) (λ _. PeriodStores (step slots (4 * i + 1) x 0 none) me x)
period_stores_as n m id slots hm x i me l r e at = subst (λ (y : ℕ × Me Unit View). Allows (Holds n m) slots id y.1 (4 * y.0 + 1) (λ _. x) (λ _. PeriodStores (step slots (4 * y.0 + 1) x 0 none) y.1 x)) (λ j. (sym at j, sym e j)) (period_stores n m id slots hm x l r)

pub heap_stores_as : (n m id slots hm x i : ℕ) (me : Me Unit View) (h : HeapPart) (r : RecPart) → me ≡ (with_heap hm h r, []) → i ≡ r.number → IsOurs h.number x → IsOurs h.number r.heap
    → Allows (Holds n m) slots id me (4 * i + 2) (λ _. x) (λ _. HeapStores (step slots (4 * i + 2) x 0 none) me x)
heap_stores_as n m id slots hm x i me h r e at new ours = subst (λ (y : ℕ × Me Unit View). Allows (Holds n m) slots id y.1 (4 * y.0 + 2) (λ _. x) (λ _. HeapStores (step slots (4 * y.0 + 2) x 0 none) y.1 x)) (λ j. (sym at j, sym e j)) (heap_stores n m id slots hm x h r new ours)

pub key_stores_as : (n m id slots hm x i : ℕ) (me : Me Unit View) (h : HeapPart) (r : RecPart) → me ≡ (with_heap hm h r, []) → i ≡ r.number → IsOurs h.number r.heap
    → Allows (Holds n m) slots id me (4 * i + 3) (λ _. x) (λ _. KeyStores (step slots (4 * i + 3) x 0 none) me x)
key_stores_as n m id slots hm x i me h r e at ours = subst (λ (y : ℕ × Me Unit View). Allows (Holds n m) slots id y.1 (4 * y.0 + 3) (λ _. x) (λ _. KeyStores (step slots (4 * y.0 + 3) x 0 none) y.1 x)) (λ j. (sym at j, sym e j)) (key_stores n m id slots hm x h r ours)
