-- The mutexes and the WaitGroups.
use Rattle.std.proofs.Common.{Option, ◌≡◌, ℕ, suc, zero, ◌*◌, ◌<◌, ◌≤◌, List, [], ◌∷◌, length, map, replicate, set, slice_get, get_or, refl, sym, ap, subst, Some, None, IsSomeAnd, IfSome, arith, slice_index_or}
use Rattle.gt_model.specs.declared.script.Script.{Script}
use Rattle.gt_model.specs.declared.script.Decl.{Decl}
use Rattle.gt_model.specs.declared.entry.Entry.{Entry}
use Rattle.gt_model.specs.declared.state.SyncState.{SyncState}
use Rattle.gt_model.specs.Good.{IsGood}
use Rattle.gt_model.specs.Tables.{change}
use Rattle.gt_rules.specs.State.{State, unused, counter_of}
use Rattle.gt_rules.specs.Change.{change_of}
use Rattle.gt_rules.specs.Legal.{May}
use Rattle.gt_rules.specs.declared.change.SyncStep.{SyncStep}
use Rattle.gt_facts.specs.Formed.{IsFormed}
use Rattle.gt_facts.proofs.Counters.{Addable, addable-May}
use Rattle.gt_facts.proofs.Fits.{FitsSync, fits-May}
use Rattle.gt_machine.specs.Machine.{MayStep, IsSteppable}

-- ---- the first ones

pub all_unused : (ds : List Decl) → replicate {A = SyncState} (length ds) unused ≡ map (λ (d : Decl). unused) ds
all_unused [] = refl
all_unused (d ∷ ds) = ap (λ syncs. unused ∷ syncs) (all_unused ds)

-- ---- a step is a write at its place

-- what holds of the one at a place is read there
pub step-read : (syncs : List SyncState) (o : ℕ) (P : SyncState → Type 0) (was : SyncState) → IsSomeAnd (slice_get syncs o) P → was ≡ get_or syncs o was → P was
step-read [] o P was h e = absurd h
step-read (s ∷ syncs) zero P was h e = subst P (sym e) h
step-read (s ∷ syncs) (suc o) P was h e = step-read syncs o P was h e

pub there : (syncs : List SyncState) (o : ℕ) (P : SyncState → Type 0) → IsSomeAnd (slice_get syncs o) P → o < length syncs
there [] o P h = absurd h
there (s ∷ syncs) zero P h = omega arith
there (s ∷ syncs) (suc o) P h = let k : o < length syncs = there syncs o P h in omega arith

-- a write at a place is a change there
pub set-changes : (syncs : List SyncState) (o : ℕ) (f : SyncState → SyncState) (was : SyncState) → o < length syncs → was ≡ get_or syncs o was → set syncs o (f was) ≡ change syncs o f
set-changes [] o f was h e = absurd (omega arith)
set-changes (s ∷ syncs) zero f was h e = ap (λ (x : SyncState). f x ∷ syncs) e
set-changes (s ∷ syncs) (suc o) f was h e = ap (λ rest. s ∷ rest) (set-changes syncs o f was (omega arith) e)

pub length-changed : (syncs : List SyncState) (o : ℕ) (f : SyncState → SyncState) → length (change syncs o f) ≡ length syncs
length-changed [] o f = refl
length-changed (s ∷ syncs) zero f = refl
length-changed (s ∷ syncs) (suc o) f = ap suc (length-changed syncs o f)

-- ---- what an entry steps

may-step : (x : SyncStep) (counter entries : ℕ) → Addable x → counter ≤ 1000000 * entries → entries < 200000 → MayStep x counter
may-step SyncStep.Locks counter entries h most few = tt
may-step SyncStep.Unlocks counter entries h most few = tt
may-step (SyncStep.Adds n) counter entries h most few = (omega arith, h)
may-step SyncStep.Releases counter entries h most few = tt
may-step SyncStep.Retakes counter entries h most few = tt

some-sync : (syncs : List SyncState) (o : ℕ) (P : SyncState → Type 0) → o < length syncs → P (slice_index_or syncs o unused) → IsSomeAnd (slice_get syncs o) P
some-sync [] o P h p = absurd (omega arith)
some-sync (s ∷ syncs) zero P h p = p
some-sync (s ∷ syncs) (suc o) P h p = some-sync syncs o P (omega arith) p

steppable : (script : Script) (s : State) (o : Option (ℕ × SyncStep)) → IsFormed script s → s.entries < 200000 → IfSome o (λ (x : ℕ × SyncStep). FitsSync script s x.0 x.1)
    → IfSome o (λ (x : ℕ × SyncStep). Addable x.1) → IfSome o (λ (x : ℕ × SyncStep). IsSteppable script s.syncs x.0 x.1)
steppable script s None formed few fits addable = tt
steppable script s (Some x) formed few fits addable =
    let f : FitsSync script s x.0 x.1 = fits in
    record {
      may = some-sync s.syncs x.0 (λ (sync : SyncState). MayStep x.1 sync.counter) f.within (may-step x.1 (counter_of s x.0) s.entries addable (formed.counters x.0) few);
      mutex = f.mutex;
    }

-- the mutex, the WaitGroup or the Cond of an entry may step so
pub steppable-May : (script : Script) (s : State) (e : Entry) → IsGood script → IsFormed script s → May script s e → s.entries < 200000
    → IfSome (change_of e).sync (λ (x : ℕ × SyncStep). IsSteppable script s.syncs x.0 x.1)
steppable-May script s e good formed may few = steppable script s (change_of e).sync formed few (fits-May script s e good formed may).sync (addable-May script s e good may)
