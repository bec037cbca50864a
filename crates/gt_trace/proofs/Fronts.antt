-- Fronts of texts that are made of pieces.
use Rattle.std.proofs.Common.{◌≡◌, ℕ, zero, suc, ◌+◌, ◌<◌, ◌≤◌, List, [], ◌∷◌, ◌++◌, length, get_or, take, Option, sym, ap, ◌∙◌, append_assoc, zero-add, add_assoc, arith, length-append}
use Rattle.std.proofs.lemmas.List.{take-append-le}
use Rattle.std.proofs.Math.Seq.{take-append-add}
use Rattle.std.specs.List.{flat_map}
use Rattle.gt_io.specs.Bytes.{Appended}
use Rattle.gt_io.proofs.ByteLemmas.{Appended-trans}

-- the list begins with n items that are front
record BeginsWith (whole front : List ℕ) (n : ℕ) : Type 0 where
  pub within : n ≤ length whole
  pub is_taken : take n whole ≡ front

-- the pieces before place i, and a front of the piece there, stand at the beginning of all the pieces
begins_with_pieces : {X : Type 0} (f : X → List ℕ) (xs : List X) (i k : ℕ) (d : X) → i < length xs → k ≤ length (f (get_or xs i d))
    → BeginsWith (flat_map f xs) (flat_map f (take i xs) ++ take k (f (get_or xs i d))) (length (flat_map f (take i xs)) + k)
begins_with_pieces f [] i k d in_list short = absurd (omega arith)
begins_with_pieces f (x ∷ xs) zero k d in_list short = record {
  within = omega (arith, length-append (f x) (flat_map f xs));
  is_taken = rw zero-add (take-append-le k (f x) (flat_map f xs) short);
}
begins_with_pieces f (x ∷ xs) (suc i) k d in_list short =
    let before = flat_map f (take i xs) in
    let rest = begins_with_pieces f xs i k d (omega arith) short in
    record {
      within = omega (arith, rest.within, length-append (f x) (flat_map f xs), length-append (f x) before);
      is_taken =
          rw (length-append (f x) before, add_assoc (length (f x)) (length before) k, take-append-add (f x) (flat_map f xs) (length before + k))
          (ap (λ l. f x ++ l) rest.is_taken ∙ sym (append_assoc (f x) before _));
    }

-- where the pieces before place i were appended and then a front of the piece there, a front of all was appended
pub front_of_pieces : {X : Type 0} (f : X → List ℕ) (xs : List X) (i : ℕ) (d : X) (old middle new : Option (List ℕ)) → i < length xs
    → Appended old middle (flat_map f (take i xs))
    → ((k : ℕ) × k ≤ length (f (get_or xs i d)) × Appended middle new (take k (f (get_or xs i d))))
    → (k : ℕ) × k ≤ length (flat_map f xs) × Appended old new (take k (flat_map f xs))
front_of_pieces f xs i d old middle new in_list first next =
    let begins = begins_with_pieces f xs i next.0 d in_list next.1 in
    (length (flat_map f (take i xs)) + next.0, begins.within, rw begins.is_taken (Appended-trans old middle new _ _ first next.2))
