-- Times, in whole nanoseconds since the program began.
use Rattle.std.specs.Prelude.{ℕ}

-- the greatest time, 2^63 - 1: the greatest duration of Go's package `time`
abbrev pub greatest_time : ℕ
greatest_time = 9223372036854775807
