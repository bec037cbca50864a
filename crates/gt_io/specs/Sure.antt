-- What contracts see of the source and the sink that never fail.
use Rattle.std.specs.Prelude.{ℕ, List, Option, Some, None, Bool, true, false}

-- a source: the bytes that are left, and how many were given
pub record Supply : Type 0 where
  pub rest : List ℕ
  pub count : ℕ

-- a sink: the bytes that it keeps, how many more it has room for, and whether it kept all that was written
pub record Store : Type 0 where
  pub kept : List ℕ
  pub room : ℕ
  pub is_whole : Bool

-- what the sink tells: the bytes that it keeps, where they are all that was written
abbrev pub told : Store → Option (List ℕ)
told s = told_if s.is_whole s.kept
  where
    told_if : Bool → List ℕ → Option (List ℕ)
    told_if true kept = Some kept
    told_if false kept = None
