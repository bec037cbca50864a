-- Who waits where after those that wait at a Cond are signalled, and which mutex a Cond has.
use Rattle.std.proofs.Common.{◌≡◌, ◌≢◌, ℕ, zero, suc, ◌+◌, ◌<◌, Bool, true, false, List, [], ◌∷◌, length, map, set, slice_get, slice_index_or, Option, None, Some, get_or-set_same, get_or-set_other, refl, sym, ap, subst, ◌∙◌, inl, inr, arith}
use Rattle.std.proofs.lemmas.Bool.{cases_eq, cases_lt}
use Rattle.std.proofs.lemmas.List.{set_past}
use Rattle.std.specs.Option.{option_map, option_map_or}
use Rattle.gt_model.specs.declared.entry.Party.{Party}
use Rattle.gt_model.specs.declared.script.Script.{Script}
use Rattle.gt_model.specs.declared.script.Decl.{Decl}
use Rattle.gt_model.specs.declared.script.What.{What}
use Rattle.gt_model.specs.Script.{mutex_of}
use Rattle.gt_rules.specs.declared.change.Move.{Move}
use Rattle.gt_rules.specs.declared.change.Start.{Start}
use Rattle.gt_rules.specs.Change.{Change}
use Rattle.gt_schedule.specs.Counts.{as_number, is_party, often}
use Rattle.gt_schedule.specs.Schedule.{Schedule, plainly, status_of, is_parked, parties_at, without_goroutine, in_place, is_later, mutex_in, mutex_at, relocked, each_relocked, all_relocked, gone_on, turned, moved_by, signalled_by, begun_by, with_new, rescheduled, IsCondAt, ArePlain}
use Rattle.gt_schedule.proofs.Lists.{is_party-same, is_party-other, often-without_same, often-without_other}
use Rattle.gt_schedule.proofs.Places.{often-place}
use Rattle.gt_schedule.proofs.Parties.{OthersStay}
use Rattle.gt_schedule.proofs.Relocked.{long-relocked, long-relocked_senders, cond-relocked, cond-list, plain-rest, each-mutexes}

-- ---- one goroutine

-- where a party stands in a list as often as in the one that it replaces, it stands everywhere as often as before
often-set : (lists : List (List Party)) (t u : ℕ) (xs : List Party) (p : Party) → often p xs ≡ often p (parties_at lists t) → often p (parties_at (set lists t xs) u) ≡ often p (parties_at lists u)
often-set lists t u xs p same =
    elim (cases_lt t (length lists)) [
      | inl within ↦
          elim (cases_eq u t) [
            | inl e ↦
                subst (λ k. often p (parties_at (set lists t xs) k) ≡ often p (parties_at lists k)) (sym e) (ap (often p) (get_or-set_same lists t xs [] within) ∙ same)
            | inr n ↦ ap (often p) (get_or-set_other lists t u xs [] n)
          ]
      | inr past ↦ ap (λ ls. often p (parties_at ls u)) (set_past lists t xs past)
    ]

relocked-receivers_other : (m : Schedule) (g k t : ℕ) (p : Party) → p.g ≢ g → often p (parties_at (relocked m g k).receivers t) ≡ often p (parties_at m.receivers t)
relocked-receivers_other m g k t p other =
    often-set m.receivers k t (without_goroutine g (parties_at m.receivers k)) p (often-without_other p g (parties_at m.receivers k) other)

relocked-senders_other : (m : Schedule) (g k t : ℕ) (p : Party) → p.g ≢ g → often p (parties_at (relocked m g k).senders t) ≡ often p (parties_at m.senders t)
relocked-senders_other m g k t p other =
    let there : List Party = parties_at m.senders (mutex_at m k) in
    let place : often p (in_place (is_later m g) (plainly g) there) ≡ often p there + as_number (is_party (plainly g) p) = often-place (is_later m g) (plainly g) p there in
    let none : as_number (is_party (plainly g) p) ≡ 0 = ap as_number (is_party-other (plainly g) p (λ e. other (sym e))) in
    often-set m.senders (mutex_at m k) t (in_place (is_later m g) (plainly g) there) p (omega arith)

pub others-relocked : (m : Schedule) (g k : ℕ) → OthersStay m (relocked m g k) g
others-relocked m g k = record {
  statuses = λ h n. refl;
  run_queue = λ h n. refl;
  receivers_long = long-relocked m g k;
  senders_long = long-relocked_senders m g k;
  receivers = λ t p n. relocked-receivers_other m g k t p n;
  senders = λ t p n. relocked-senders_other m g k t p n;
}

-- it is gone from the Cond, stands once more at the mutex, and all other lists stay
pub relocked-cond : (m : Schedule) (g k : ℕ) (p : Party) → IsCondAt m k → p.g ≡ g → often p (parties_at (relocked m g k).receivers k) ≡ 0
relocked-cond m g k p cond own = ap (often p) (cond-list m g k cond) ∙ often-without_same p g (parties_at m.receivers k) own

pub relocked-mutex : (m : Schedule) (g k : ℕ) (p : Party) → IsCondAt m k
    → often p (parties_at (relocked m g k).senders (mutex_at m k)) ≡ often p (parties_at m.senders (mutex_at m k)) + as_number (is_party (plainly g) p)
relocked-mutex m g k p cond =
    let t : ℕ = mutex_at m k in
    ap (often p) (get_or-set_same m.senders t (in_place (is_later m g) (plainly g) (parties_at m.senders t)) [] cond.mutex_declared)
    ∙ often-place (is_later m g) (plainly g) p (parties_at m.senders t)

pub relocked-elsewhere : (m : Schedule) (g k u : ℕ) → u ≢ k → parties_at (relocked m g k).receivers u ≡ parties_at m.receivers u
relocked-elsewhere m g k u other = get_or-set_other m.receivers k u (without_goroutine g (parties_at m.receivers k)) [] other

pub relocked-senders_elsewhere : (m : Schedule) (g k u : ℕ) → u ≢ mutex_at m k → parties_at (relocked m g k).senders u ≡ parties_at m.senders u
relocked-senders_elsewhere m g k u other = get_or-set_other m.senders (mutex_at m k) u _ [] other

-- ---- all that wait at a Cond

-- nobody is left at the Cond of those that are named
each-cond : (m : Schedule) (k : ℕ) (ps : List Party) (q : Party) → IsCondAt m k → (0 < often q (parties_at m.receivers k) → 0 < often q ps)
    → often q (parties_at (each_relocked m k ps).receivers k) ≡ 0
each-cond m k [] q cond named = none (often q (parties_at m.receivers k)) named
  where
    none : (n : ℕ) → (0 < n → 0 < 0) → n ≡ 0
    none zero h = refl
    none (suc n) h = absurd (let never : 0 < 0 = h (omega arith) in omega arith)
each-cond m k (p ∷ ps) q cond named =
    each-cond (relocked m p.g k) k ps q (cond-relocked m p.g k k cond) (λ some. elim (cases_eq q.g p.g) [
      | inl own ↦ let none : often q (parties_at (relocked m p.g k).receivers k) ≡ 0 = relocked-cond m p.g k q cond own in absurd (omega arith)
      | inr other ↦
          let same : often q (parties_at (relocked m p.g k).receivers k) ≡ often q (parties_at m.receivers k) = relocked-receivers_other m p.g k k q other in
          let more : 0 < often q (p ∷ ps) = named (omega arith) in
          let none : as_number (is_party p q) ≡ 0 = ap as_number (is_party-other p q (λ e. other (sym e))) in
          omega arith
    ])

pub all-cond : (m : Schedule) (k : ℕ) (q : Party) → IsCondAt m k → often q (parties_at (all_relocked m k).receivers k) ≡ 0
all-cond m k q cond = each-cond m k (parties_at m.receivers k) q cond (λ some. some)

-- each of them stands at the mutex as often more as it stood at the Cond
each-mutex : (m : Schedule) (k : ℕ) (ps : List Party) (q : Party) → IsCondAt m k → ArePlain ps
    → often q (parties_at (each_relocked m k ps).senders (mutex_at m k)) ≡ often q (parties_at m.senders (mutex_at m k)) + often q ps
each-mutex m k [] q cond plain = omega arith
each-mutex m k (p ∷ ps) q cond plain =
    let rest : often q (parties_at (each_relocked (relocked m p.g k) k ps).senders (mutex_at m k)) ≡ often q (parties_at (relocked m p.g k).senders (mutex_at m k)) + often q ps =
    each-mutex (relocked m p.g k) k ps q (cond-relocked m p.g k k cond) (plain-rest p ps plain) in
    let step : often q (parties_at (relocked m p.g k).senders (mutex_at m k)) ≡ often q (parties_at m.senders (mutex_at m k)) + as_number (is_party (plainly p.g) q) =
    relocked-mutex m p.g k q cond in
    let once : as_number (is_party p p) ≡ 1 = ap as_number (is_party-same p) in
    let own : p ≡ plainly p.g = ap (λ n. record p { case_no = n }) (plain p (omega arith)) in
    let same : as_number (is_party (plainly p.g) q) ≡ as_number (is_party p q) = ap (λ (r : Party). as_number (is_party r q)) (sym own) in
    omega arith

pub all-mutex : (m : Schedule) (k : ℕ) (q : Party) → IsCondAt m k → ArePlain (parties_at m.receivers k)
    → often q (parties_at (all_relocked m k).senders (mutex_at m k)) ≡ often q (parties_at m.senders (mutex_at m k)) + often q (parties_at m.receivers k)
all-mutex m k q cond plain = each-mutex m k (parties_at m.receivers k) q cond plain

each-elsewhere : (m : Schedule) (k u : ℕ) (ps : List Party) → u ≢ k → parties_at (each_relocked m k ps).receivers u ≡ parties_at m.receivers u
each-elsewhere m k u [] other = refl
each-elsewhere m k u (p ∷ ps) other = each-elsewhere (relocked m p.g k) k u ps other ∙ relocked-elsewhere m p.g k u other

pub all-elsewhere : (m : Schedule) (k u : ℕ) → u ≢ k → parties_at (all_relocked m k).receivers u ≡ parties_at m.receivers u
all-elsewhere m k u other = each-elsewhere m k u (parties_at m.receivers k) other

each-senders_elsewhere : (m : Schedule) (k u : ℕ) (ps : List Party) → u ≢ mutex_at m k → parties_at (each_relocked m k ps).senders u ≡ parties_at m.senders u
each-senders_elsewhere m k u [] other = refl
each-senders_elsewhere m k u (p ∷ ps) other = each-senders_elsewhere (relocked m p.g k) k u ps other ∙ relocked-senders_elsewhere m p.g k u other

pub all-senders_elsewhere : (m : Schedule) (k u : ℕ) → u ≢ mutex_at m k → parties_at (all_relocked m k).senders u ≡ parties_at m.senders u
all-senders_elsewhere m k u other = each-senders_elsewhere m k u (parties_at m.receivers k) other

-- ---- the mutexes stay, and are those of the script

mutexes-gone_on : (m : Schedule) (g : ℕ) (waits : Bool) → (gone_on m g waits).mutexes ≡ m.mutexes
mutexes-gone_on m g true = refl
mutexes-gone_on m g false = refl

mutexes-turned : (m : Schedule) (g : ℕ) (move : Move) → (turned m g move).mutexes ≡ m.mutexes
mutexes-turned m g (Move.GoesOn case_no) = mutexes-gone_on m g (is_parked (status_of m g))
mutexes-turned m g (Move.FallsAsleep until) = refl
mutexes-turned m g (Move.Suspends k) = refl
mutexes-turned m g (Move.Relocks k) = refl
mutexes-turned m g Move.Ends = refl
mutexes-turned m g Move.Panics = refl

pub mutexes-moved : (m : Schedule) (o : Option (ℕ × Move)) → (moved_by m o).mutexes ≡ m.mutexes
mutexes-moved m None = refl
mutexes-moved m (Some x) = mutexes-turned m x.0 x.1

pub mutexes-signalled : (m : Schedule) (o : Option ℕ) → (signalled_by m o).mutexes ≡ m.mutexes
mutexes-signalled m None = refl
mutexes-signalled m (Some k) = each-mutexes m k (parties_at m.receivers k)

mutexes-begun : (m : Schedule) (starts : List Start) → (begun_by m starts).mutexes ≡ m.mutexes
mutexes-begun m [] = refl
mutexes-begun m (x ∷ xs) = mutexes-begun (with_new m) xs

pub mutexes-rescheduled : (m : Schedule) (c : Change) → (rescheduled m c).mutexes ≡ m.mutexes
mutexes-rescheduled m c =
    let mid : Schedule = moved_by m c.mover in
    let both : Schedule = moved_by mid c.partner in
    mutexes-begun (signalled_by both c.broadcast) c.starts ∙ (mutexes-signalled both c.broadcast ∙ (mutexes-moved mid c.partner ∙ mutexes-moved m c.mover))

abbrev mutexes_in : List Decl → List ℕ
mutexes_in decls = map (λ (d : Decl). mutex_in d.what) decls

mutex-none : (ds : List Decl) (k : ℕ) → slice_get ds k ≡ None → slice_index_or (mutexes_in ds) k 0 ≡ 0
mutex-none [] k e = refl
mutex-none (d ∷ ds) zero e = cc
mutex-none (d ∷ ds) (suc k) e = mutex-none ds k e

mutex-some : (ds : List Decl) (k : ℕ) (d : Decl) → slice_get ds k ≡ Some d → slice_index_or (mutexes_in ds) k 0 ≡ mutex_in d.what
mutex-some [] k d e = cc
mutex-some (x ∷ ds) zero d e = let is : x ≡ d = cc in ap (λ (y : Decl). mutex_in y.what) is
mutex-some (x ∷ ds) (suc k) d e = mutex-some ds k d e

-- what the script says of what is declared so
mutex-named : (o : Option Decl) → elim (option_map (λ (d : Decl). d.what) o) [ None ↦ 0 | Some what ↦ elim what [ What.Cond mutex ↦ mutex | _ ↦ 0 ] ] ≡ option_map_or (λ (d : Decl). mutex_in d.what) o 0
mutex-named None = refl
mutex-named (Some d) = named d.what
  where
    named : (what : What) → elim what [ What.Cond mutex ↦ mutex | _ ↦ 0 ] ≡ mutex_in what
    named What.Timer = refl
    named What.Ticker = refl
    named (What.AfterFunc func) = refl
    named (What.Chan size) = refl
    named What.Mutex = refl
    named What.Wg = refl
    named (What.Cond mutex) = refl
    named (What.Ctx parent form) = refl
    named (What.Hook ctx func) = refl
    named What.Error = refl
    named What.Function = refl

pub mutex-script : (script : Script) (m : Schedule) (k : ℕ) → m.mutexes ≡ mutexes_in script.decls → mutex_at m k ≡ mutex_of script k
mutex-script script m k is = ap (λ xs. slice_index_or xs k 0) is ∙ (at (slice_get script.decls k) refl ∙ sym (mutex-named (slice_get script.decls k)))
  where
    at : (o : Option Decl) → slice_get script.decls k ≡ o → slice_index_or (mutexes_in script.decls) k 0 ≡ option_map_or (λ (d : Decl). mutex_in d.what) (slice_get script.decls k) 0
    at None e = mutex-none script.decls k e ∙ ap (λ o. option_map_or (λ (d : Decl). mutex_in d.what) o 0) (sym e)
    at (Some d) e = mutex-some script.decls k d e ∙ ap (λ o. option_map_or (λ (d : Decl). mutex_in d.what) o 0) (sym e)
