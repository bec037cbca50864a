-- The parts of a text between separators, from the front on.
use Rattle.std.proofs.Common.{◌≡◌, ◌+◌, ◌-◌, ◌<◌, ◌≤◌, ℕ, Bool, not, cond, leb, List, [], ◌∷◌, length, take, drop, refl, sym, ap, ◌∙◌, arith, length-drop, inl, inr}
use Rattle.std.specs.List.{slice_split, before_first, position_or_len}
use Rattle.std.proofs.lemmas.Bool.{le-leb, lt-leb, cases_lt}
use Rattle.std.proofs.lemmas.List.{take_all, length-take-le, drop-drop}
use Rattle.std.proofs.lemmas.List.Splits.{slice_split_first, slice_split_none}
use Rattle.std.proofs.lemmas.List.Sums.{fails_before_first, prefix_len-le-length}

-- a tail of a text, as the code cuts it
pub take-drop_rest : (n : ℕ) (xs : List ℕ) → take (length xs - n) (drop n xs) ≡ drop n xs
take-drop_rest n xs = take_all _ _ (omega (arith, length-drop n xs))

-- the parts from the byte `at` on; where it is behind the end, there are none
abbrev pub parts_behind : (ℕ → Bool) → ℕ → List ℕ → List (List ℕ)
parts_behind p at text = cond (leb at (length text)) (slice_split p (drop at text)) []

pub parts_behind-begin : (p : ℕ → Bool) (text : List ℕ) → parts_behind p 0 text ≡ slice_split p text
parts_behind-begin p text = rw (le-leb 0 (length text) (omega arith)) refl

pub parts_behind-end : (p : ℕ → Bool) (at : ℕ) (text : List ℕ) → length text < at → parts_behind p at text ≡ []
parts_behind-end p at text h = rw (lt-leb at (length text) h) refl

pub parts_behind-inside : (p : ℕ → Bool) (at : ℕ) (text : List ℕ) → at ≤ length text → parts_behind p at text ≡ slice_split p (drop at text)
parts_behind-inside p at text h = rw (le-leb at (length text) h) refl

pub length-before_first : (p : ℕ → Bool) (xs : List ℕ) → length (before_first p xs) ≡ position_or_len p xs
length-before_first p xs = length-take-le (position_or_len p xs) xs (prefix_len-le-length (λ b. not (p b)) xs)

-- the next part, and the parts behind it
pub parts_behind-cut : (p : ℕ → Bool) (at : ℕ) (text : List ℕ) → at ≤ length text
    → parts_behind p at text ≡ before_first p (drop at text) ∷ parts_behind p (at + (length (before_first p (drop at text)) + 1)) text
parts_behind-cut p at text h = elim (cases_lt n (length xs)) [ inl more ↦ when_more more | inr last ↦ when_last last ]
  where
    xs : List ℕ
    xs = drop at text

    n : ℕ
    n = position_or_len p xs

    when_more : n < length xs → parts_behind p at text ≡ take n xs ∷ parts_behind p (at + (length (take n xs) + 1)) text
    when_more more =
        let inside : at + (n + 1) ≤ length text = omega (arith, length-drop at text) in
        parts_behind-inside p at text h ∙ (slice_split_first p xs 0 more
        ∙ (ap (λ r. take n xs ∷ slice_split p r) (drop-drop (n + 1) at text)
        ∙ rw (length-before_first p xs, le-leb (at + (n + 1)) (length text) inside) refl))

    when_last : length xs ≤ n → parts_behind p at text ≡ take n xs ∷ parts_behind p (at + (length (take n xs) + 1)) text
    when_last last =
        let outside : length text < at + (n + 1) = omega (arith, length-drop at text) in
        parts_behind-inside p at text h ∙ (slice_split_none p xs (λ k d in_xs. fails_before_first p xs k d (omega arith))
        ∙ (ap (λ part. part ∷ []) (sym (take_all n xs last))
        ∙ rw (length-before_first p xs, lt-leb (at + (n + 1)) (length text) outside) refl))

-- the next part ends inside of the text
pub first-fits : (p : ℕ → Bool) (at : ℕ) (text : List ℕ) → at ≤ length text → at + length (before_first p (drop at text)) ≤ length text
first-fits p at text h =
    let n = length-before_first p (drop at text) in
    let m : position_or_len p (drop at text) ≤ length (drop at text) = prefix_len-le-length (λ b. not (p b)) (drop at text) in
    omega (arith, length-drop at text)
