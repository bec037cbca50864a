-- When each answer of the reader comes.
use Rattle.std.proofs.Common.{◌≡◌, ◌≢◌, ◌<◌, ◌≤◌, ◌↔◌, ℕ, Bool, true, false, ◌&&◌, ◌||◌, cond, eqb, leb, IsTrue, List, [], ◌∷◌, length, codes, Option, Some, None, is_none, Result, Ok, Err, refl, sym, ap, ◌∙◌, subst, arith}
use Rattle.std.specs.List.{list_all}
use Rattle.std.specs.Str.{bytes_eq}
use Rattle.std.proofs.lemmas.Bool.{leb-true, leb-false, ne_eqb}
use Rattle.std.proofs.lemmas.Slice.Eq.{bytes_eq-Decides}
use Rattle.gt_model.specs.Good.{is_digit}
use Rattle.gt_model.specs.Times.{greatest_time}
use Rattle.gt_dur.specs.declared.fault.DurFault.{DurFault}
use Rattle.gt_dur.specs.Pairs.{Pair, pairs_of, unit_of, has_unit, unmet_from}
use Rattle.gt_dur.specs.Duration.{is_duration, unmet_place, nanoseconds_of, capped, outcome_of, read_of}

-- all pairs have units exactly where no place lacks one
list_all-unmet : (from : ℕ) (ps : List Pair) → list_all has_unit ps ≡ is_none (unmet_from from ps)
list_all-unmet from [] = refl
list_all-unmet from (p ∷ ps) = next (has_unit p) refl (λ n. list_all-unmet n ps)
  where
    next : (b : Bool) → has_unit p ≡ b → ((n : ℕ) → list_all has_unit ps ≡ is_none (unmet_from n ps))
        → list_all has_unit (p ∷ ps) ≡ is_none (unmet_from from (p ∷ ps))
    next true h more = simp h (more _)
    next false h more = simp h

capped-Ok : (n m : ℕ) → (capped n ≡ Ok m) ↔ ((n ≡ m) × (m ≤ greatest_time))
capped-Ok n m = next (leb n greatest_time) refl
  where
    next : (b : Bool) → leb n greatest_time ≡ b → (cond b (Ok n) (Err DurFault.Big) ≡ Ok m) ↔ ((n ≡ m) × (m ≤ greatest_time))
    next true h = (λ is. let same : n ≡ m = cc in (same, omega (arith, leb-true n greatest_time h)), λ (same, small). ap Ok same)
    next false h = (λ is. cc, λ (same, small). absurd (omega (arith, leb-false n greatest_time h)))

capped-Big : (n : ℕ) → (capped n ≡ Err DurFault.Big) ↔ (greatest_time < n)
capped-Big n = next (leb n greatest_time) refl
  where
    next : (b : Bool) → leb n greatest_time ≡ b → (cond b (Ok n) (Err DurFault.Big) ≡ Err DurFault.Big) ↔ (greatest_time < n)
    next true h = (λ is. cc, λ big. absurd (omega (arith, leb-true n greatest_time h)))
    next false h = (λ is. leb-false n greatest_time h, λ big. refl)

-- what is read, by the tests that the reader makes
abbrev pub chosen : Bool → Bool → Option ℕ → ℕ → Result ℕ DurFault
chosen is_zero digit unmet n = cond is_zero (Ok 0) (cond digit (outcome_of unmet n) (Err DurFault.Digit))

chosen-good : (digit met : Bool) (unmet : Option ℕ) (n : ℕ) → (digit && met) ≡ true → met ≡ is_none unmet
    → chosen false digit unmet n ≡ capped n
chosen-good true true None n good is = refl
chosen-good true true (Some at) n good is = cc
chosen-good true false unmet n good is = cc
chosen-good false met unmet n good is = cc

-- a fault that is not about the size
abbrev pub FailsToRead : Result ℕ DurFault → Type 0
FailsToRead r = (e : DurFault) × (r ≡ Err e) × (e ≢ DurFault.Big)

chosen-bad : (digit met : Bool) (unmet : Option ℕ) (n : ℕ) → (digit && met) ≡ false → met ≡ is_none unmet
    → FailsToRead (chosen false digit unmet n)
chosen-bad true true unmet n bad is = cc
chosen-bad true false None n bad is = cc
chosen-bad true false (Some at) n bad is = (DurFault.Unit at, refl, λ e. cc)
chosen-bad false met unmet n bad is = (DurFault.Digit, refl, λ e. cc)

read_of-some : (b : ℕ) (bs : List ℕ)
    → read_of (b ∷ bs) ≡ chosen (bytes_eq (b ∷ bs) (codes "0")) (is_digit b) (unmet_place (b ∷ bs)) (nanoseconds_of (b ∷ bs))
read_of-some b bs = let some : eqb (length (b ∷ bs)) 0 ≡ false = ne_eqb _ _ (λ e. omega arith) in simp some

read_of-zero : read_of (codes "0") ≡ capped (nanoseconds_of (codes "0"))
unfolding unit_of
read_of-zero = refl

-- a duration is read, unless it is too big
read_of-good : (text : List ℕ) → is_duration text ≡ true → read_of text ≡ capped (nanoseconds_of text)
read_of-good [] good = cc
read_of-good (b ∷ bs) good = next (bytes_eq (b ∷ bs) (codes "0")) refl
  where
    next : (is_zero : Bool) → bytes_eq (b ∷ bs) (codes "0") ≡ is_zero → read_of (b ∷ bs) ≡ capped (nanoseconds_of (b ∷ bs))
    next true h =
        let P : List ℕ → Type 0 = λ t. read_of t ≡ capped (nanoseconds_of t) in
        subst P (sym ((bytes_eq-Decides (b ∷ bs) (codes "0")).0 h)) read_of-zero
    next false h =
        let unmet = list_all-unmet 0 (pairs_of (b ∷ bs)) in
        read_of-some b bs
        ∙ ap (λ is_zero. chosen is_zero (is_digit b) (unmet_place (b ∷ bs)) (nanoseconds_of (b ∷ bs))) h
        ∙ chosen-good _ _ _ _ (sym (ap (λ is_zero. is_zero || is_digit b && list_all has_unit (pairs_of (b ∷ bs))) h) ∙ good) unmet

-- any other text is not
read_of-bad : (text : List ℕ) → is_duration text ≡ false → FailsToRead (read_of text)
read_of-bad [] bad = (DurFault.Empty, refl, λ e. cc)
read_of-bad (b ∷ bs) bad = next (bytes_eq (b ∷ bs) (codes "0")) refl
  where
    next : (is_zero : Bool) → bytes_eq (b ∷ bs) (codes "0") ≡ is_zero → FailsToRead (read_of (b ∷ bs))
    next true h = cc
    next false h =
        let unmet = list_all-unmet 0 (pairs_of (b ∷ bs)) in
        let is = read_of-some b bs
        ∙ ap (λ is_zero. chosen is_zero (is_digit b) (unmet_place (b ∷ bs)) (nanoseconds_of (b ∷ bs))) h in
        subst FailsToRead (sym is)
        (chosen-bad _ _ _ _ (sym (ap (λ is_zero. is_zero || is_digit b && list_all has_unit (pairs_of (b ∷ bs))) h) ∙ bad) unmet)

pub read_of-Ok : (text : List ℕ) (n : ℕ)
    → (read_of text ≡ Ok n) ↔ (IsTrue (is_duration text) × (nanoseconds_of text ≡ n) × (n ≤ greatest_time))
read_of-Ok text n = next (is_duration text) refl
  where
    next : (b : Bool) → is_duration text ≡ b
        → (read_of text ≡ Ok n) ↔ ((b ≡ true) × (nanoseconds_of text ≡ n) × (n ≤ greatest_time))
    next true h =
        let read = read_of-good text h in
        let both = capped-Ok (nanoseconds_of text) n in
        (λ is. let found = both.0 (sym read ∙ is) in (refl, found.0, found.1), λ (_, same, small). read ∙ both.1 (same, small))
    next false h = let fails = read_of-bad text h in (λ is. cc, λ (good, same, small). cc)

pub read_of-Big : (text : List ℕ)
    → (read_of text ≡ Err DurFault.Big) ↔ (IsTrue (is_duration text) × (greatest_time < nanoseconds_of text))
read_of-Big text = next (is_duration text) refl
  where
    next : (b : Bool) → is_duration text ≡ b
        → (read_of text ≡ Err DurFault.Big) ↔ ((b ≡ true) × (greatest_time < nanoseconds_of text))
    next true h =
        let read = read_of-good text h in
        let both = capped-Big (nanoseconds_of text) in
        (λ is. (refl, both.0 (sym read ∙ is)), λ (_, big). read ∙ both.1 big)
    next false h =
        let fails = read_of-bad text h in
        (λ is. let same : fails.0 ≡ DurFault.Big = cc in absurd (fails.2 same), λ (good, big). cc)
