-- What a caller makes of the clauses: who was found, and who may wait.
use Rattle.std.proofs.Common.{◌≡◌, ◌≢◌, ℕ, ◌<◌, ◌≤◌, Bool, true, not, eqb, Some, None, List, [], ◌∷◌, ◌++◌, length, set, replicate, get_or-set_same, get_or-set_other, refl, sym, ap, ◌∙◌, inl, inr, arith}
use Rattle.std.specs.Prelude.{filter}
use Rattle.std.specs.List.{Contains, slice_get}
use Rattle.std.proofs.lemmas.Bool.{cases_eq, cases_lt, cases_Bool, eq-eqb, false≢true}
use Rattle.std.proofs.lemmas.List.{get_or_past, get_or-replicate, length-replicate, set_past}
use Rattle.std.proofs.lemmas.List.Elements.{Contains-push_cases}
use Rattle.slab.proofs.SlabLemmas.{Contains-cons, Contains-cons_cases}
use Rattle.gt_model.specs.declared.entry.Party.{Party}
use Rattle.gt_select.specs.Waiting.{Waiting, MayWait, parties_in, without_goroutine, joined, enrolled, nobody_waits}

Contains-filter : (keep : Party → Bool) (xs : List Party) (p : Party) → Contains (filter keep xs) p → Contains xs p × (keep p ≡ true)
Contains-filter keep [] p h = absurd (omega (arith, h.1))
Contains-filter keep (x ∷ xs) p h =
    elim (cases_Bool (keep x)) [
      | inl kept ↦
          elim (Contains-cons_cases x p (filter keep xs) (rw kept at h)) [
            | inl e ↦ rw (← e) ((0, omega arith, refl), kept)
            | inr g ↦ let r = Contains-filter keep xs p g in (Contains-cons x p xs r.0, r.1)
          ]
      | inr gone ↦ let r = Contains-filter keep xs p (rw gone at h) in (Contains-cons x p xs r.0, r.1)
    ]

Contains-first : (xs : List Party) (p : Party) → Some p ≡ slice_get xs 0 → Contains xs p
Contains-first [] p e = absurd (cc)
Contains-first (x ∷ xs) p e = let same : x ≡ p = cc in rw (← same) (0, omega arith, refl)

-- the first of another goroutine stands in the list, and is another's
pub found_other : (xs : List Party) (g : ℕ) (p : Party) → Some p ≡ slice_get (without_goroutine xs g) 0 → Contains xs p × (p.g ≢ g)
found_other xs g p e =
    let r = Contains-filter (λ other. not (eqb other.g g)) xs p (Contains-first (without_goroutine xs g) p e) in
    (r.0, λ same. false≢true (sym (ap not (eq-eqb p.g g same)) ∙ r.1))

-- in empty lists nobody stands
pub nowhere-nobody_waits : (goroutines lists list : ℕ) (p : Party) → Contains (parties_in (nobody_waits goroutines lists).lists list) p → ⊥
nowhere-nobody_waits goroutines lists list p h =
    let empty : parties_in (replicate lists []) list ≡ [] =
    elim (cases_lt list lists) [
      | inl l ↦ get_or-replicate lists list [] [] l
      | inr past ↦ get_or_past (replicate lists []) list [] (omega (arith, length-replicate {A = List Party} lists []))
    ] in
    let none : Contains [] p = rw empty at h in
    absurd (omega (arith, none.1))

-- whoever may wait still may, after another party joined a list
pub MayWait-joined : (w : Waiting) (list : ℕ) (p q : Party) → p ≢ q → MayWait w q → MayWait (joined w list p) q
MayWait-joined w list p q other may = record {
  live = may.live;
  case_no = may.case_no;
  waits_nowhere = λ k h. may.waits_nowhere k (still k h);
}
  where
    now : List Party
    now = parties_in w.lists list ++ p ∷ []

    still : (k : ℕ) → Contains (parties_in (set w.lists list now) k) q → Contains (parties_in w.lists k) q
    still k h =
        elim (cases_lt list (length w.lists)) [
          | inl l ↦
              elim (cases_eq k list) [
                | inl same ↦
                    elim (Contains-push_cases (parties_in w.lists list) p q (rw (same, get_or-set_same w.lists list now [] l) at h)) [
                      | inl old ↦ rw same old
                      | inr new ↦ absurd (other new)
                    ]
                | inr apart ↦ rw (get_or-set_other w.lists list k now [] apart) at h
              ]
          | inr past ↦ rw (set_past w.lists list now past) at h
        ]

-- a goroutine that has just been given its ticket may wait
pub MayWait-enrolled : (w : Waiting) (p : Party) → p.g < length w.tickets → p.case_no ≤ 16 → ((list : ℕ) → Contains (parties_in w.lists list) p → ⊥) → MayWait (enrolled w p.g) p
MayWait-enrolled w p known small nowhere = record {
  live = rw (get_or-set_same w.tickets p.g (Some w.turns) None known) refl;
  case_no = small;
  waits_nowhere = nowhere;
}
