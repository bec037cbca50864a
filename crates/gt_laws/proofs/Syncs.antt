-- Of a mutex the entries of a history tell whether somebody has it, and of a WaitGroup its counter.
use Rattle.std.proofs.Common.{◌≡◌, ◌≢◌, ℕ, zero, suc, ◌<◌, ◌==◌, List, [], ◌∷◌, length, map, slice_index_or, refl, ap, subst, ◌∙◌, arith, if◌then◌else◌, Option, None, Some, Bool, true, false, IfSome}
use Rattle.gt_model.specs.declared.script.Script.{Script}
use Rattle.gt_model.specs.declared.script.Decl.{Decl}
use Rattle.gt_model.specs.declared.entry.Entry.{Entry}
use Rattle.gt_model.specs.declared.entry.Limits.{Limits}
use Rattle.gt_model.specs.declared.state.SyncState.{SyncState}
use Rattle.gt_model.specs.Good.{IsGood}
use Rattle.gt_model.specs.Script.{mutex_of}
use Rattle.gt_model.specs.Tables.{change}
use Rattle.gt_rules.specs.State.{State, is_locked, counter_of, unused, world_of}
use Rattle.gt_rules.specs.declared.change.Move.{Move}
use Rattle.gt_rules.specs.declared.change.SyncStep.{SyncStep}
use Rattle.gt_rules.specs.Change.{change_of}
use Rattle.gt_rules.specs.After.{first_state, number_of, added, with_lock, owned, counted_on, stepped, with_stepped}
use Rattle.gt_rules.specs.History.{AllLegal, state_after}
use Rattle.gt_facts.proofs.Fits.{FitsSync}
use Rattle.gt_laws.specs.Told.{mutex_in, holds, held_by, held_told, adds, counter_by, counter_told}
use Rattle.gt_laws.proofs.Numbers.{by-number}
use Rattle.gt_laws.proofs.Shown.{shown-told}

-- ---- one of them is changed

changed-same : (syncs : List SyncState) (o : ℕ) (f : SyncState → SyncState) → o < length syncs
    → slice_index_or (change syncs o f) o unused ≡ f (slice_index_or syncs o unused)
changed-same [] o f within = absurd (omega arith)
changed-same (s ∷ syncs) zero f within = refl
changed-same (s ∷ syncs) (suc o) f within = changed-same syncs o f (omega arith)

changed-other : (syncs : List SyncState) (o k : ℕ) (f : SyncState → SyncState) → k ≢ o
    → slice_index_or (change syncs o f) k unused ≡ slice_index_or syncs k unused
changed-other [] o k f other = refl
changed-other (s ∷ syncs) zero zero f other = absurd (other refl)
changed-other (s ∷ syncs) zero (suc k) f other = refl
changed-other (s ∷ syncs) (suc o) zero f other = refl
changed-other (s ∷ syncs) (suc o) (suc k) f other = changed-other syncs o k f (λ e. other (ap suc e))

-- what is shown of object k, after object o is changed so that something else is shown of it
changed-shows : {V : Type 0} (show : SyncState → V) (by : V → V) (syncs : List SyncState) (o k : ℕ) (f : SyncState → SyncState)
    → ((was : SyncState) → show (f was) ≡ by (show was)) → o < length syncs
    → show (slice_index_or (change syncs o f) k unused) ≡ (if o == k then by (show (slice_index_or syncs k unused)) else show (slice_index_or syncs k unused))
changed-shows show by syncs o k f one within =
    by-number o k (λ b. show (slice_index_or (change syncs o f) k unused) ≡ (if b then by (show (slice_index_or syncs k unused)) else show (slice_index_or syncs k unused)))
    (λ same. subst (λ j. show (slice_index_or (change syncs o f) j unused) ≡ by (show (slice_index_or syncs j unused))) same
    (ap show (changed-same syncs o f within) ∙ one (slice_index_or syncs o unused)))
    (λ other. ap show (changed-other syncs o k f other))

-- and where the change is none of what is shown
unseen-shows : {V : Type 0} (show : SyncState → V) (syncs : List SyncState) (o k : ℕ) (f : SyncState → SyncState) → ((was : SyncState) → show (f was) ≡ show was)
    → show (slice_index_or (change syncs o f) k unused) ≡ show (slice_index_or syncs k unused)
unseen-shows show [] o k f one = refl
unseen-shows show (s ∷ syncs) zero zero f one = one s
unseen-shows show (s ∷ syncs) zero (suc k) f one = refl
unseen-shows show (s ∷ syncs) (suc o) zero f one = refl
unseen-shows show (s ∷ syncs) (suc o) (suc k) f one = unseen-shows show syncs o k f one

same-either : {V : Type 0} (b : Bool) (v : V) → v ≡ (if b then v else v)
same-either true v = refl
same-either false v = refl

none-used : (decls : List Decl) (k : ℕ) → slice_index_or (map (λ (d : Decl). unused) decls) k unused ≡ unused
none-used [] k = refl
none-used (d ∷ ds) zero = refl
none-used (d ∷ ds) (suc k) = none-used ds k

-- ---- who has a mutex

abbrev locked : SyncState → Bool
locked r = r.locked

locked-stepped : (script : Script) (s : State) (w o m : ℕ) (x : SyncStep) → FitsSync script s o x
    → locked (slice_index_or (stepped script w s.syncs o x) m unused) ≡ (if mutex_in script o x == m then holds x (is_locked s m) else is_locked s m)
locked-stepped script s w o m SyncStep.Locks fits = changed-shows locked (λ was. true) s.syncs o m (with_lock true) (λ was. refl) fits.within
locked-stepped script s w o m SyncStep.Unlocks fits = changed-shows locked (λ was. false) s.syncs o m (with_lock false) (λ was. refl) fits.within
locked-stepped script s w o m (SyncStep.Adds n) fits =
    unseen-shows locked s.syncs o m (λ was. owned w (counted_on n was)) (λ was. refl) ∙ same-either (o == m) (is_locked s m)
locked-stepped script s w o m SyncStep.Releases fits =
    unseen-shows locked (change s.syncs (mutex_of script o) (with_lock false)) o m (owned w) (λ was. refl)
    ∙ changed-shows locked (λ was. false) s.syncs (mutex_of script o) m (with_lock false) (λ was. refl) fits.mutex
locked-stepped script s w o m SyncStep.Retakes fits = changed-shows locked (λ was. true) s.syncs (mutex_of script o) m (with_lock true) (λ was. refl) fits.mutex

says-held : (script : Script) (s : State) (m : Option (ℕ × Move)) (k : ℕ) (o : Option (ℕ × SyncStep)) → IfSome o (λ (x : ℕ × SyncStep). FitsSync script s x.0 x.1)
    → locked (slice_index_or (with_stepped script s m s.syncs o) k unused)
    ≡ (elim o as (λ o. Bool) [ None ↦ is_locked s k | Some x ↦ if mutex_in script x.0 x.1 == k then holds x.1 (is_locked s k) else is_locked s k ])
says-held script s m k None fits = refl
says-held script s m k (Some x) fits = locked-stepped script s (world_of s (number_of m)) x.0 k x.1 fits

pub held-told : (script : Script) (limits : Limits) (m : ℕ) (h : List Entry) → IsGood script → AllLegal script limits (first_state script) h
    → is_locked (state_after script (first_state script) h) m ≡ held_told script m h
held-told script limits m = shown-told script limits (λ (s : State). is_locked s m) (held_by script m) false
    (λ s e step. says-held script s (change_of e).mover m (change_of e).sync step.fits.sync) (ap locked (none-used script.decls m))

-- ---- the counter of a WaitGroup

abbrev count : SyncState → ℕ
count r = r.counter

count-stepped : (script : Script) (s : State) (w o k : ℕ) (x : SyncStep) → FitsSync script s o x
    → count (slice_index_or (stepped script w s.syncs o x) k unused) ≡ (if o == k then adds x (counter_of s k) else counter_of s k)
count-stepped script s w o k SyncStep.Locks fits = unseen-shows count s.syncs o k (with_lock true) (λ was. refl) ∙ same-either (o == k) (counter_of s k)
count-stepped script s w o k SyncStep.Unlocks fits = unseen-shows count s.syncs o k (with_lock false) (λ was. refl) ∙ same-either (o == k) (counter_of s k)
count-stepped script s w o k (SyncStep.Adds n) fits =
    changed-shows count (λ counter. added counter n) s.syncs o k (λ was. owned w (counted_on n was)) (λ was. refl) fits.within
count-stepped script s w o k SyncStep.Releases fits =
    unseen-shows count (change s.syncs (mutex_of script o) (with_lock false)) o k (owned w) (λ was. refl)
    ∙ (unseen-shows count s.syncs (mutex_of script o) k (with_lock false) (λ was. refl) ∙ same-either (o == k) (counter_of s k))
count-stepped script s w o k SyncStep.Retakes fits =
    unseen-shows count s.syncs (mutex_of script o) k (with_lock true) (λ was. refl) ∙ same-either (o == k) (counter_of s k)

says-counter : (script : Script) (s : State) (m : Option (ℕ × Move)) (k : ℕ) (o : Option (ℕ × SyncStep)) → IfSome o (λ (x : ℕ × SyncStep). FitsSync script s x.0 x.1)
    → count (slice_index_or (with_stepped script s m s.syncs o) k unused)
    ≡ (elim o as (λ o. ℕ) [ None ↦ counter_of s k | Some x ↦ if x.0 == k then adds x.1 (counter_of s k) else counter_of s k ])
says-counter script s m k None fits = refl
says-counter script s m k (Some x) fits = count-stepped script s (world_of s (number_of m)) x.0 k x.1 fits

pub counter-told : (script : Script) (limits : Limits) (w : ℕ) (h : List Entry) → IsGood script → AllLegal script limits (first_state script) h
    → counter_of (state_after script (first_state script) h) w ≡ counter_told w h
counter-told script limits w = shown-told script limits (λ (s : State). counter_of s w) (counter_by w) 0
    (λ s e step. says-counter script s (change_of e).mover w (change_of e).sync step.fits.sync) (ap count (none-used script.decls w))
