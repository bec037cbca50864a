-- How far a script is read.
use Rattle.std.specs.Prelude.{ℕ, Bool, List}
use Rattle.gt_grammar.specs.declared.progress.OpenBlock.{OpenBlock}

pub record Progress : Type 0 where
  pub inside : Bool  -- whether the next line stands inside a function
  pub blocks : List OpenBlock  -- the loops and selects that are open, the innermost first
  pub names : ℕ  -- how many names are declared
  pub functions : ℕ  -- how many functions are opened
  pub instructions : ℕ  -- how many lines with an instruction there are
