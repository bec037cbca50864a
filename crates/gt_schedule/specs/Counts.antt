-- How often a number, and how often a party, stands in a list.
use Rattle.std.specs.Prelude.{ℕ, ◌+◌, ◌==◌, ◌&&◌, Bool, true, false, List, [], ◌∷◌}
use Rattle.gt_model.specs.declared.entry.Party.{Party}

abbrev pub as_number : Bool → ℕ
as_number true = 1
as_number false = 0

abbrev pub times : ℕ → List ℕ → ℕ
times g [] = 0
times g (x ∷ xs) = as_number (x == g) + times g xs

-- the same party: the same goroutine at the same case
abbrev pub is_party : Party → Party → Bool
is_party p q = p.g == q.g && p.case_no == q.case_no

abbrev pub often : Party → List Party → ℕ
often p [] = 0
often p (x ∷ xs) = as_number (is_party x p) + often p xs
