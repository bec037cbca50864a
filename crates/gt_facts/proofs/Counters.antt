-- What is kept of mutexes, WaitGroups and Conds stays formed: an entry adds a million to a counter at most.
use Rattle.std.proofs.Common.{◌≡◌, ℕ, ℤ, pos, negsuc, ◌+◌, ◌*◌, ◌≤◌, List, [], ◌∷◌, length, map, slice_index_or, zero, suc, refl, sym, ap, subst, ◌∙◌, arith, Option, None, Some, IfSome, true, false}
use Rattle.gt_model.specs.declared.script.Script.{Script}
use Rattle.gt_model.specs.declared.script.Decl.{Decl}
use Rattle.gt_model.specs.declared.script.Instr.{Instr}
use Rattle.gt_model.specs.declared.state.SyncState.{SyncState}
use Rattle.gt_model.specs.declared.entry.Entry.{Entry}
use Rattle.gt_model.specs.Good.{IsGood, IsAddable, most_added}
use Rattle.gt_model.specs.Tables.{change}
use Rattle.gt_rules.specs.State.{State, counter_of, unused, world_of}
use Rattle.gt_model.specs.Script.{mutex_of}
use Rattle.gt_rules.specs.After.{first_state, number_of, added, with_lock, owned, counted_on, stepped, with_stepped}
use Rattle.gt_rules.specs.Change.{change_of}
use Rattle.gt_rules.specs.Legal.{May}
use Rattle.gt_rules.specs.declared.change.Move.{Move}
use Rattle.gt_rules.specs.declared.change.SyncStep.{SyncStep}
use Rattle.gt_facts.specs.Formed.{IsFormed}
use Rattle.gt_facts.proofs.Lookups.{names-Does}

pub record AreSyncs (script : Script) (entries : ℕ) (syncs : List SyncState) : Type 0 where
  pub count : length syncs ≡ length script.decls
  pub each : (w : ℕ) → (slice_index_or syncs w unused).counter ≤ most_added * entries

-- the finish is not counted
pub syncs-finished : (script : Script) (s : State) → IsFormed script s → AreSyncs script (s.entries + 0) s.syncs
syncs-finished script s formed = record { count = formed.syncs; each = λ w. (let was : counter_of s w ≤ most_added * s.entries = formed.counters w in omega arith) }

-- what an entry adds: what may be added
abbrev pub Addable : SyncStep → Type 0
Addable SyncStep.Locks = Unit {0}
Addable SyncStep.Unlocks = Unit {0}
Addable (SyncStep.Adds n) = IsAddable n
Addable SyncStep.Releases = Unit {0}
Addable SyncStep.Retakes = Unit {0}

added-most : (counter most : ℕ) (n : ℤ) → counter ≤ most → IsAddable n → added counter n ≤ most + most_added
added-most counter most (pos n) was few = omega arith
added-most counter most (negsuc n) was few = omega arith

-- no counter is above a number
abbrev AllMost : ℕ → List SyncState → Type 0
AllMost most syncs = (j : ℕ) → (slice_index_or syncs j unused).counter ≤ most

changed-most : (most more o : ℕ) (f : SyncState → SyncState) (syncs : List SyncState) → most ≤ more → ((was : SyncState) → was.counter ≤ most → (f was).counter ≤ more)
    → AllMost most syncs → AllMost more (change syncs o f)
changed-most most more o f [] wide each all j = omega arith
changed-most most more zero f (s ∷ syncs) wide each all zero = each s (all 0)
changed-most most more zero f (s ∷ syncs) wide each all (suc j) = let h : (slice_index_or syncs j unused).counter ≤ most = all (suc j) in omega arith
changed-most most more (suc o) f (s ∷ syncs) wide each all zero = let h : s.counter ≤ most = all 0 in omega arith
changed-most most more (suc o) f (s ∷ syncs) wide each all (suc j) = changed-most most more o f syncs wide each (λ k. all (suc k)) j

-- a change that adds nothing
unchanged-most : (most o : ℕ) (f : SyncState → SyncState) (syncs : List SyncState) → ((was : SyncState) → (f was).counter ≡ was.counter) → AllMost most syncs
    → AllMost most (change syncs o f)
unchanged-most most o f syncs same all =
    changed-most most most o f syncs (omega arith) (λ was few. (let is : (f was).counter ≡ was.counter = same was in omega arith)) all

stepped-most : (script : Script) (w most : ℕ) (syncs : List SyncState) (o : ℕ) (x : SyncStep) → Addable x → AllMost most syncs → AllMost (most + most_added) (stepped script w syncs o x)
stepped-most script w most syncs o SyncStep.Locks h all j =
    let few : (slice_index_or (change syncs o (with_lock true)) j unused).counter ≤ most = unchanged-most most o (with_lock true) syncs (λ was. refl) all j in
    omega arith
stepped-most script w most syncs o SyncStep.Unlocks h all j =
    let few : (slice_index_or (change syncs o (with_lock false)) j unused).counter ≤ most = unchanged-most most o (with_lock false) syncs (λ was. refl) all j in
    omega arith
stepped-most script w most syncs o (SyncStep.Adds n) h all j =
    changed-most most (most + most_added) o (λ was. owned w (counted_on n was)) syncs (omega arith) (λ was few. added-most was.counter most n few h) all j
stepped-most script w most syncs o SyncStep.Releases h all j =
    let free : List SyncState = change syncs (mutex_of script o) (with_lock false) in
    let few : (slice_index_or (change free o (owned w)) j unused).counter ≤ most =
    unchanged-most most o (owned w) free (λ was. refl) (unchanged-most most (mutex_of script o) (with_lock false) syncs (λ was. refl) all) j in
    omega arith
stepped-most script w most syncs o SyncStep.Retakes h all j =
    let few : (slice_index_or (change syncs (mutex_of script o) (with_lock true)) j unused).counter ≤ most =
    unchanged-most most (mutex_of script o) (with_lock true) syncs (λ was. refl) all j in
    omega arith

length-changed : (syncs : List SyncState) (o : ℕ) (f : SyncState → SyncState) → length (change syncs o f) ≡ length syncs
length-changed [] o f = refl
length-changed (s ∷ syncs) zero f = refl
length-changed (s ∷ syncs) (suc o) f = ap suc (length-changed syncs o f)

pub length-stepped : (script : Script) (w : ℕ) (syncs : List SyncState) (o : ℕ) (x : SyncStep) → length (stepped script w syncs o x) ≡ length syncs
length-stepped script w syncs o SyncStep.Locks = length-changed syncs o (with_lock true)
length-stepped script w syncs o SyncStep.Unlocks = length-changed syncs o (with_lock false)
length-stepped script w syncs o (SyncStep.Adds n) = length-changed syncs o (λ was. owned w (counted_on n was))
length-stepped script w syncs o SyncStep.Releases =
    length-changed (change syncs (mutex_of script o) (with_lock false)) o (owned w) ∙ length-changed syncs (mutex_of script o) (with_lock false)
length-stepped script w syncs o SyncStep.Retakes = length-changed syncs (mutex_of script o) (with_lock true)

syncs-with : (script : Script) (s : State) (m : Option (ℕ × Move)) (o : Option (ℕ × SyncStep)) → IsFormed script s → IfSome o (λ (x : ℕ × SyncStep). Addable x.1)
    → AreSyncs script (s.entries + 1) (with_stepped script s m s.syncs o)
syncs-with script s m None formed h = record { count = formed.syncs; each = λ w. (let was : counter_of s w ≤ most_added * s.entries = formed.counters w in omega arith) }
syncs-with script s m (Some x) formed h =
    let next : List SyncState = stepped script (world_of s (number_of m)) s.syncs x.0 x.1 in
    let most : (j : ℕ) → (slice_index_or next j unused).counter ≤ most_added * s.entries + most_added =
    stepped-most script (world_of s (number_of m)) (most_added * s.entries) s.syncs x.0 x.1 h formed.counters in
    record {
      count = length-stepped script (world_of s (number_of m)) s.syncs x.0 x.1 ∙ formed.syncs;
      each = λ j. (let here : (slice_index_or next j unused).counter ≤ most_added * s.entries + most_added = most j in omega arith);
    }

pub addable-May : (script : Script) (s : State) (e : Entry) → IsGood script → May script s e → IfSome (change_of e).sync (λ (x : ℕ × SyncStep). Addable x.1)
addable-May script s (Entry.Add g w n) good may = (names-Does script s g (Instr.Add w n) good may).1
addable-May script s _ good may = tt

one-counted : (script : Script) (s : State) (e : Entry) → May script s e → (change_of e).counted ≡ 1
one-counted script s (Entry.Finish outcome) may = absurd may
one-counted script s _ may = refl

pub syncs-entered : (script : Script) (s : State) (e : Entry) → IsGood script → IsFormed script s → May script s e
    → AreSyncs script (s.entries + (change_of e).counted) (with_stepped script s (change_of e).mover s.syncs (change_of e).sync)
syncs-entered script s e good formed may =
    subst (λ n. AreSyncs script (s.entries + n) (with_stepped script s (change_of e).mover s.syncs (change_of e).sync)) (sym (one-counted script s e may))
    (syncs-with script s (change_of e).mover (change_of e).sync formed (addable-May script s e good may))

zero-counters : (decls : List Decl) (j : ℕ) → (slice_index_or (map (λ (d : Decl). unused) decls) j unused).counter ≤ 0
zero-counters [] j = omega arith
zero-counters (d ∷ ds) zero = omega arith
zero-counters (d ∷ ds) (suc j) = zero-counters ds j

length-unused : (decls : List Decl) → length (map (λ (d : Decl). unused) decls) ≡ length decls
length-unused [] = refl
length-unused (d ∷ ds) = ap suc (length-unused ds)

pub syncs-first : (script : Script) → AreSyncs script 0 (first_state script).syncs
syncs-first script = record { count = length-unused script.decls; each = λ w. (let h : (slice_index_or (map (λ (d : Decl). unused) script.decls) w unused).counter ≤ 0 = zero-counters script.decls w in omega arith) }
