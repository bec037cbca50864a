-- What is left to be given and what was written, where a source or a sink tells it: Some bytes, or None
-- where it tells nothing.
use Rattle.std.specs.Prelude.{◌≡◌, ℕ, List, ◌++◌, Option, Some, None}

-- The piece is a prefix of what was left, and went from it. A source tells its bytes always or never.
abbrev pub Taken : Option (List ℕ) → Option (List ℕ) → List ℕ → Type 0
Taken None None piece = Unit {0}
Taken None (Some rest) piece = ⊥
Taken (Some bytes) None piece = ⊥
Taken (Some bytes) (Some rest) piece = bytes ≡ piece ++ rest

-- The piece came at the end of what was written. A sink may stop telling, and then never tells again.
abbrev pub Appended : Option (List ℕ) → Option (List ℕ) → List ℕ → Type 0
Appended old None piece = Unit {0}
Appended None (Some after) piece = ⊥
Appended (Some before) (Some after) piece = after ≡ before ++ piece
