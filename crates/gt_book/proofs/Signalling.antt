-- All that wait at a Cond are signalled, one after the other: a schedule that fits the state fits it still.
use Rattle.std.proofs.Common.{◌≡◌, ◌≢◌, ℕ, zero, suc, ◌<◌, List, [], ◌∷◌, map, refl, sym, ap, subst, ◌∙◌, arith, slice_get, Option, None, Some, Bool, true, false, IsTrue, IfSome, cond}
use Rattle.std.proofs.lemmas.Bool.{eq-eqb, ne_eqb}
use Rattle.gt_model.specs.declared.script.Script.{Script}
use Rattle.gt_model.specs.declared.entry.Party.{Party}
use Rattle.gt_model.specs.declared.state.Goroutine.{Goroutine}
use Rattle.gt_model.specs.declared.state.Mode.{Mode}
use Rattle.gt_model.specs.Tables.{numbered, change, change_numbered}
use Rattle.gt_model.specs.Good.{IsGood}
use Rattle.gt_model.specs.Script.{is_cond}
use Rattle.gt_model.proofs.Changes.{AllAt, all_numbered-change}
use Rattle.gt_model.proofs.Declared.{cond_declared}
use Rattle.gt_rules.specs.State.{State, mode_of, is_suspended}
use Rattle.gt_rules.specs.After.{in_mode, signalled, with_signalled}
use Rattle.gt_rules.specs.Operations.{receives_from}
use Rattle.gt_facts.proofs.Formed.{WaitsRightly}
use Rattle.gt_facts.proofs.Lookups.{InMode, in-mode, mode_there}
use Rattle.gt_facts.proofs.Suspended.{suspended-mode}
use Rattle.gt_schedule.specs.Counts.{as_number, is_party, often}
use Rattle.gt_schedule.specs.Schedule.{Schedule, plainly, parties_at, without_goroutine, relocked, each_relocked, signalled_by, StandsAt}
use Rattle.gt_schedule.proofs.Lists.{is_party-same}
use Rattle.gt_schedule.proofs.Relocked.{cond-list}
use Rattle.gt_book.specs.View.{is_parked_at, Fits}
use Rattle.gt_book.proofs.Relocking.{WaitAtConds, fits-relocked, AtList, at-list, cond-at, stands-at_cond}

-- ---- lists

pub map-same : {X : Type 0} (f : X → X) (xs : List X) → AllAt (λ x. f x ≡ x) xs → map f xs ≡ xs
map-same f [] all = refl
map-same f (x ∷ xs) all = ap (λ y. y ∷ map f xs) (all 0 x refl) ∙ ap (λ ys. x ∷ ys) (map-same f xs (λ i. all (suc i)))

map-change : {X : Type 0} (f h : X → X) (xs : List X) (i : ℕ) (x : X) → slice_get xs i ≡ Some x → f (h x) ≡ f x → map f (change xs i h) ≡ map f xs
map-change f h [] i x e same = cc
map-change f h (y ∷ ys) zero x e same = let is : y ≡ x = cc in ap (λ z. z ∷ map f ys) (subst (λ z. f (h z) ≡ f z) (sym is) same)
map-change f h (y ∷ ys) (suc i) x e same = ap (λ zs. f y ∷ zs) (map-change f h ys i x e same)

map-change_numbered : {X : Type 0} (f h : X → X) (xs : List X) (g : ℕ) (x : X) → numbered xs g ≡ Some x → f (h x) ≡ f x → map f (change_numbered xs g h) ≡ map f xs
map-change_numbered f h xs zero x e same = refl
map-change_numbered f h xs (suc i) x e same = map-change f h xs i x e same

-- without a goroutine that is not there, a list is what it was
without-none : (g : ℕ) (ps : List Party) → ((p : Party) → 0 < often p ps → p.g ≢ g) → without_goroutine g ps ≡ ps
without-none g [] absent = refl
without-none g (x ∷ xs) absent =
    let one : as_number (is_party x x) ≡ 1 = ap as_number (is_party-same x) in
    rw (ne_eqb x.g g (absent x (omega arith))) (ap (λ qs. x ∷ qs) (without-none g xs (λ q some. absent q (omega arith))))

one-most : (b : Bool) → as_number b < 2
one-most true = omega arith
one-most false = omega arith

-- ---- the first of them

-- a party stands at a Cond once
stands-once : (script : Script) (s : State) (m : Schedule) (k : ℕ) (p : Party) → Fits script s m → IsTrue (is_cond script k) → often p (parties_at m.receivers k) < 2
stands-once script s m k p fits is =
    subst (λ n. n < 2) (sym (fits.waiting k p (cond_declared script k is))) (one-most (is_parked_at script s m p (receives_from k)))

abbrev pub relocked_state : State → ℕ → ℕ → State
relocked_state s g k = record s { goroutines = change_numbered s.goroutines g (in_mode (Mode.Relocking k)) }

-- it is suspended there, stands there plainly, and leaves the others
pub record FirstThere (s : State) (m : Schedule) (k : ℕ) (p : Party) (rest : List Party) : Type 0 where
  pub waits : mode_of s p.g ≡ Some (Mode.Suspended k)
  pub stands : StandsAt m p.g k
  pub list : parties_at (relocked m p.g k).receivers k ≡ rest

pub first-there : (script : Script) (s : State) (m : Schedule) (k : ℕ) (p : Party) (rest : List Party) → IsGood script → WaitAtConds script s → Fits script s m → IsTrue (is_cond script k)
    → parties_at m.receivers k ≡ p ∷ rest → FirstThere s m k p rest
first-there script s m k p rest good conds fits is parts =
    let one : as_number (is_party p p) ≡ 1 = ap as_number (is_party-same p) in
    let more : 0 < often p (p ∷ rest) = omega arith in
    let some : 0 < often p (parties_at m.receivers k) = subst (λ xs. 0 < often p xs) (sym parts) more in
    let its : AtList s p k = at-list script s m p k good conds fits is some in
    let own : p ≡ plainly p.g = ap (λ n. record p { case_no = n }) its.plain in
    record {
      waits = its.suspended;
      stands = subst (λ q. 0 < often q (parties_at m.receivers k)) own some;
      list = cond-list m p.g k (cond-at script s m k good fits is) ∙ (ap (without_goroutine p.g) parts ∙ left);
    }
  where
    -- another party of the same goroutine would be the same one
    alone : (q : Party) → 0 < often q rest → q.g ≢ p.g
    alone q there same =
        let one : as_number (is_party p p) ≡ 1 = ap as_number (is_party-same p) in
        let first : p.case_no ≡ 0 = (at-list script s m p k good conds fits is (subst (λ xs. 0 < often p xs) (sym parts) (omega arith))).plain in
        let other : q.case_no ≡ 0 = (at-list script s m q k good conds fits is (subst (λ xs. 0 < often q xs) (sym parts) (omega arith))).plain in
        let is_p : q ≡ p = ap (λ g. record q { g = g }) same ∙ ap (λ n. record p { case_no = n }) (other ∙ sym first) in
        let twice : 0 < often p rest = subst (λ (x : Party). 0 < often x rest) is_p there in
        let once : often p (p ∷ rest) < 2 = subst (λ xs. often p xs < 2) parts (stands-once script s m k p fits is) in
        omega arith

    left : without_goroutine p.g (p ∷ rest) ≡ rest
    left = rw (eq-eqb p.g p.g refl) (without-none p.g rest alone)

-- ---- what is left to signal

-- who was signalled is passed over by the others' signals
signalled-is : (k : ℕ) (r : Goroutine) → r.mode ≡ Mode.Suspended k → signalled k (in_mode (Mode.Relocking k) r) ≡ signalled k r
signalled-is k r its =
    let suspended : is_suspended k r ≡ true = subst (λ (m : Mode). is_suspended k (in_mode m r) ≡ true) (sym its) (eq-eqb k k refl) in
    rw suspended refl

pub signalled-relocked : (s : State) (g k : ℕ) → mode_of s g ≡ Some (Mode.Suspended k) → map (signalled k) (relocked_state s g k).goroutines ≡ map (signalled k) s.goroutines
signalled-relocked s g k waits =
    let a : InMode s g (Mode.Suspended k) = in-mode s g (Mode.Suspended k) waits in
    map-change_numbered (signalled k) (in_mode (Mode.Relocking k)) s.goroutines g a.who a.there (signalled-is k a.who a.its)

pub conds-relocked : (script : Script) (s : State) (g k : ℕ) → WaitAtConds script s → mode_of s g ≡ Some (Mode.Suspended k) → WaitAtConds script (relocked_state s g k)
conds-relocked script s g k conds waits =
    let a : InMode s g (Mode.Suspended k) = in-mode s g (Mode.Suspended k) waits in
    let its : WaitsRightly script (Mode.Suspended k) = subst (WaitsRightly script) a.its (conds g a.who a.there) in
    all_numbered-change (λ (r : Goroutine). WaitsRightly script r.mode) s.goroutines g (in_mode (Mode.Relocking k)) conds (λ r e. (tt, its.0))

-- ---- where nobody stands at a Cond, nobody is suspended there

signalled-other : (k : ℕ) (r : Goroutine) → (r.mode ≡ Mode.Suspended k → ⊥) → signalled k r ≡ r
signalled-other k r other =
    elim (is_suspended k r) as (λ b. is_suspended k r ≡ b → cond b (in_mode (Mode.Relocking k) r) r ≡ r) [
      | true ↦ λ e. absurd (other (suspended-mode k r e))
      | false ↦ λ e. refl
    ] refl

pub signalled-none : (script : Script) (s : State) (m : Schedule) (k : ℕ) → Fits script s m → IsTrue (is_cond script k) → parties_at m.receivers k ≡ []
    → map (signalled k) s.goroutines ≡ s.goroutines
signalled-none script s m k fits is none =
    map-same (signalled k) s.goroutines (λ i r e. signalled-other k r (λ its.
    let stands : 0 < often (plainly (suc i)) (parties_at m.receivers k) = stands-at_cond script s m (suc i) k fits (mode_there s (suc i) r (Mode.Suspended k) e its) is in
    let nobody : often (plainly (suc i)) (parties_at m.receivers k) ≡ 0 = ap (often (plainly (suc i))) none in
    absurd (omega arith)))

-- ---- all of them

fits-each : (script : Script) (s : State) (m : Schedule) (k : ℕ) (ps : List Party) → IsGood script → WaitAtConds script s → Fits script s m → IsTrue (is_cond script k)
    → parties_at m.receivers k ≡ ps → Fits script (record s { goroutines = map (signalled k) s.goroutines }) (each_relocked m k ps)
fits-each script s m k [] good conds fits is parts =
    subst (λ gs. Fits script (record s { goroutines = gs }) m) (sym (signalled-none script s m k fits is parts)) fits
fits-each script s m k (p ∷ ps) good conds fits is parts =
    let first : FirstThere s m k p ps = first-there script s m k p ps good conds fits is parts in
    subst (λ gs. Fits script (record s { goroutines = gs }) (each_relocked (relocked m p.g k) k ps)) (signalled-relocked s p.g k first.waits)
    (fits-each script (relocked_state s p.g k) (relocked m p.g k) k ps good (conds-relocked script s p.g k conds first.waits) (fits-relocked script s m p.g k good conds fits first.waits) is first.list)

pub fits-signalled : (script : Script) (s : State) (m : Schedule) (o : Option ℕ) → IsGood script → WaitAtConds script s → Fits script s m → IfSome o (λ k. IsTrue (is_cond script k))
    → Fits script (record s { goroutines = with_signalled s.goroutines o }) (signalled_by m o)
fits-signalled script s m None good conds fits is = fits
fits-signalled script s m (Some k) good conds fits is = fits-each script s m k (parties_at m.receivers k) good conds fits is refl
