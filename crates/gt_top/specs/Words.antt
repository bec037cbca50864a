-- The order that the words of a command line mean.
use Rattle.std.specs.Prelude.{ℕ, ◌&&◌, ◌==◌, not, nat_le, if◌then◌else◌, Bool, false, List, [], ◌∷◌, codes}
use Rattle.std.specs.Str.{bytes_eq}
use Rattle.std.specs.declared.option.Option.TheVariants.{None, Some}
use Rattle.std.specs.declared.result.Result.{Result}
use Rattle.std.specs.declared.result.Result.TheVariants.{Ok, Err}
use Rattle.gt_model.specs.Good.{most_entries}
use Rattle.gt_lines.specs.Number.{number_of}
use Rattle.gt_top.specs.declared.words.Order.{Order}
use Rattle.gt_top.specs.declared.words.WordFault.{WordFault}

-- a word that is an option and no value: `-` with more behind it
abbrev pub is_option : List ℕ → Bool
is_option (first ∷ second ∷ rest) = first == 45
is_option _ = false

-- how many entries a run may have where no word says it
abbrev pub default_limit : ℕ
default_limit = 10000

-- a number from 1 to the greatest limit
abbrev pub limit_of : List ℕ → Result ℕ WordFault
limit_of value = elim (number_of value) [
  | None ↦ Err WordFault.Number
  | Some limit ↦ if nat_le 1 limit && nat_le limit most_entries then Ok limit else Err WordFault.Number
]

-- the limit that the words behind a command give: `-l LIMIT`, or none
abbrev pub limit_after : List (List ℕ) → Result ℕ WordFault
limit_after [] = Ok default_limit
limit_after (option ∷ value ∷ []) = if bytes_eq option (codes "-l") && not (is_option value) then limit_of value else Err WordFault.Form
limit_after _ = Err WordFault.Form

-- `sim` with its limit
abbrev pub sim_with : Result ℕ WordFault → Result Order WordFault
sim_with (Ok limit) = Ok (Order.Sim limit)
sim_with (Err fault) = Err fault

abbrev pub order_of : List (List ℕ) → Result Order WordFault
order_of [] = Err WordFault.Command
order_of (command ∷ words) = if bytes_eq command (codes "sim") then sim_with (limit_after words) else Err WordFault.Command
