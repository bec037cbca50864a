-- Durations.
use Rattle.std.specs.Prelude.{ℕ, List, if◌then◌else◌}
use Rattle.std.specs.Result.{result_ok}
use Rattle.std.specs.Str.{is_utf8}
use Rattle.std.specs.declared.option.Option.{Option}
use Rattle.std.specs.declared.option.Option.TheVariants.{None}
use Rattle.gt_dur.specs.Duration.{read_of}

-- the duration that a word spells, in nanoseconds; a word that is not UTF-8 spells none
abbrev pub duration_of : List ℕ → Option ℕ
duration_of word = if is_utf8 word then result_ok (read_of word) else None
