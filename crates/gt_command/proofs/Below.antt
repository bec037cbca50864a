-- What the sink below has, from what a sink that keeps bytes back took.
use Rattle.std.proofs.Common.{◌≡◌, ℕ, ◌+◌, ◌≤◌, List, [], ◌∷◌, ◌++◌, length, take, drop, Option, Some, None, IfSome, refl, sym, ◌∙◌, ap, subst, arith}
use Rattle.std.proofs.lemmas.List.{append-nil, length-append, take_at, take-take, length-take}
use Rattle.gt_io.specs.Bytes.{Appended}
use Rattle.gt_io.specs.Buffer.{and_then}
use Rattle.gt_io.proofs.ByteLemmas.{Appended-trans, Appended-passed_on}

-- the bytes that the sink below has are a prefix of what was taken, where it had none before
pub prefix_below : (before after : Option (List ℕ)) (kept₀ kept bytes : List ℕ) → IfSome before (λ xs. xs ≡ []) → kept₀ ≡ [] → Appended (and_then before kept₀) (and_then after kept) bytes → (k : ℕ) × (k ≤ length bytes) × Appended before after (take k bytes)
prefix_below None None kept₀ kept bytes empty nothing appended = (0, omega arith, tt)
prefix_below None (Some ys) kept₀ kept bytes empty nothing appended = absurd appended
prefix_below (Some xs) None kept₀ kept bytes empty nothing appended = (0, omega arith, tt)
prefix_below (Some xs) (Some ys) kept₀ kept bytes empty nothing appended =
    let whole : ys ++ kept ≡ bytes = appended ∙ ap (λ (l : List ℕ). (l ++ kept₀) ++ bytes) empty ∙ ap (λ (l : List ℕ). l ++ bytes) nothing in
    let len : length ys + length kept ≡ length bytes = sym (length-append ys kept) ∙ ap length whole in
    let front : take (length ys) bytes ≡ ys = ap (λ (l : List ℕ). take (length ys) l) (sym whole) ∙ take_at ys kept (length ys) refl in
    (length ys, omega (arith, len), sym front ∙ ap (λ (l : List ℕ). l ++ take (length ys) bytes) (sym empty))

-- the same, where only a prefix of the bytes was taken
pub prefix_below-of_prefix : (before after : Option (List ℕ)) (kept₀ kept bytes : List ℕ) (n : ℕ) → IfSome before (λ xs. xs ≡ []) → kept₀ ≡ [] → Appended (and_then before kept₀) (and_then after kept) (take n bytes) → (k : ℕ) × (k ≤ length bytes) × Appended before after (take k bytes)
prefix_below-of_prefix before after kept₀ kept bytes n empty nothing appended =
    let found = prefix_below before after kept₀ kept (take n bytes) empty nothing appended in
    let within : found.0 ≤ n = omega (arith, found.1, length-take n bytes) in
    let short : found.0 ≤ length bytes = omega (arith, found.1, length-take n bytes) in
    (found.0, short, subst (λ (l : List ℕ). Appended before after l) (take-take found.0 n bytes within) found.2)

-- the same, where all was taken and a prefix of what was kept back was passed on
pub prefix_below-passed_on : (before middle after : Option (List ℕ)) (kept₀ kept bytes : List ℕ) (n : ℕ) → IfSome before (λ xs. xs ≡ []) → kept₀ ≡ [] → Appended (and_then before kept₀) (and_then middle kept) bytes → Appended middle after (take n kept) → (k : ℕ) × (k ≤ length bytes) × Appended before after (take k bytes)
prefix_below-passed_on before middle after kept₀ kept bytes n empty nothing appended passed =
    let moved : Appended (and_then middle kept) (and_then after (drop n kept)) [] = Appended-passed_on middle after kept n passed in
    let both : Appended (and_then before kept₀) (and_then after (drop n kept)) (bytes ++ []) = Appended-trans _ _ _ _ _ appended moved in
    prefix_below before after kept₀ (drop n kept) bytes empty nothing (subst (λ (l : List ℕ). Appended (and_then before kept₀) (and_then after (drop n kept)) l) (append-nil bytes) both)

-- the bytes that were taken, where all that was kept back was passed on
pub whole_below : (before middle after : Option (List ℕ)) (kept₀ kept bytes : List ℕ) → kept₀ ≡ [] → Appended (and_then before kept₀) (and_then middle kept) bytes → Appended middle after kept → Appended before after bytes
whole_below None None None kept₀ kept bytes nothing appended passed = tt
whole_below None None (Some zs) kept₀ kept bytes nothing appended passed = absurd passed
whole_below None (Some ys) after kept₀ kept bytes nothing appended passed = absurd appended
whole_below (Some xs) None None kept₀ kept bytes nothing appended passed = tt
whole_below (Some xs) None (Some zs) kept₀ kept bytes nothing appended passed = absurd passed
whole_below (Some xs) (Some ys) None kept₀ kept bytes nothing appended passed = tt
whole_below (Some xs) (Some ys) (Some zs) kept₀ kept bytes nothing appended passed =
    passed ∙ appended ∙ ap (λ (l : List ℕ). (xs ++ l) ++ bytes) nothing ∙ ap (λ (l : List ℕ). l ++ bytes) (append-nil xs)

-- a list that makes no bytes with another has none
nothing-front : (xs ys : List ℕ) → xs ++ ys ≡ [] → xs ≡ []
nothing-front [] ys e = refl
nothing-front (x ∷ xs) ys e = cc

-- where nothing was taken, the sink below has what it had
pub same_below : (before after : Option (List ℕ)) (kept₀ kept : List ℕ) → IfSome before (λ xs. xs ≡ []) → kept₀ ≡ [] → and_then after kept ≡ and_then before kept₀ → after ≡ before
same_below None None kept₀ kept empty nothing same = refl
same_below None (Some ys) kept₀ kept empty nothing same = cc
same_below (Some xs) None kept₀ kept empty nothing same = cc
same_below (Some xs) (Some ys) kept₀ kept empty nothing same =
    let bytes : ys ++ kept ≡ xs ++ kept₀ = cc in
    let none : ys ++ kept ≡ [] = bytes ∙ ap (λ (l : List ℕ). l ++ kept₀) empty ∙ nothing in
    ap (λ (l : List ℕ). Some l) (nothing-front ys kept none ∙ sym empty)
