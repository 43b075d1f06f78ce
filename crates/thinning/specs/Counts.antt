-- A count that has an end.
use Rattle.std.specs.Prelude.{ℕ, ◌+◌, min}

-- the largest number of 64 bits
abbrev pub most_count : ℕ
most_count = 18446744073709551615

-- a sum, or the largest number where it would lie above that
abbrev pub sum_of : ℕ → ℕ → ℕ
sum_of a b = min (a + b) most_count
