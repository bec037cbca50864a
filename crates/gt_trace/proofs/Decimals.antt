-- How many digits a number has.
use Rattle.std.proofs.Common.{ℕ, ◌^◌, ◌<◌, ◌≤◌, length, decimal, arith}
use Rattle.std.proofs.lemmas.Fmt.{length-decimal-le}

pub decimal-short : (n : ℕ) → n < 2 ^ 32 → length (decimal n) ≤ 10
decimal-short n h = length-decimal-le 10 n (omega arith) (omega (arith, h)) (omega (arith, h))

pub decimal-long : (n : ℕ) → n < 2 ^ 64 → length (decimal n) ≤ 20
decimal-long n h = length-decimal-le 20 n (omega arith) (omega (arith, h)) h
