-- What the words of the line ask for.
use Rattle.std.specs.Prelude.{ℕ, ◌^◌, ◌<◌, ◌≡◌, if◌then◌else◌, List, codes}
use Rattle.std.specs.Str.{bytes_eq}
use Rattle.std.specs.Str.Parse.{IsNumeral, digits_value, without_leading_plus}
use Rattle.std.specs.declared.option.Option.{Option}
use Rattle.std.specs.declared.option.Option.TheVariants.{None, Some}
use Rattle.gt_words_bench.specs.declared.task.Calls.{Calls}

abbrev pub calls_of : List ℕ → Option Calls
calls_of word =
    if bytes_eq word (codes "note") then Some Calls.Note
    else if bytes_eq word (codes "agree") then Some Calls.Agree
    else None

-- the word is a decimal number below 2^32; a plus may stand in front of it
pub record IsCount (word : List ℕ) (n : ℕ) : Type 0 where
  pub numeral : IsNumeral 10 (without_leading_plus word)
  pub value : digits_value 10 (without_leading_plus word) ≡ n
  pub small : n < 2 ^ 32
