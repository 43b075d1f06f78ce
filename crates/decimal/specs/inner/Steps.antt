-- The contracts of private steps: nothing that a caller of `read` has to know.
use Rattle.std.specs.Prelude.{◌≡◌, Bool, true, false, cond, List, ◌++◌, ℕ, ◌+◌, ◌-◌, ◌*◌, ◌^◌, ◌≤◌, ◌<◌, length, drop, get_or}
use Rattle.std.specs.Float.{binary32}
use Rattle.std.specs.Float.Ieee.{round, to_bits}
use Rattle.decimal.specs.Decimal.{is_digit, are_digits, value_after}

-- s is digits, which make value after `before`, and then rest
pub record DigitRun (before : ℕ) (s : List ℕ) (value : ℕ) (rest : List ℕ) : Type 0 where
  pub run : List ℕ
  pub is : s ≡ run ++ rest
  pub all : are_digits run ≡ true
  pub makes : value ≡ value_after before run

-- from `from` on s has digits up to `end`, and none there
pub record RunsTo (s : List ℕ) (from before value five end : ℕ) : Type 0 where
  pub run : DigitRun before (drop from s) value (drop end s)
  pub within : end ≤ length s
  pub fives : five ≡ 5 ^ (end - from)
  pub stops : end < length s → is_digit (get_or s end 0) ≡ false
  pub small : value < 10 ^ end

-- five doubled up times is from 2 ^ 39 on
pub record DoublesTo (five up : ℕ) : Type 0 where
  pub lo : 2 ^ 39 ≤ five * 2 ^ up
  pub hi : five * 2 ^ up < 2 ^ 63
  pub few : up ≤ 39

-- den is first, or first doubled once, and num is less than 2 ^ 24 of it; a num of 64 digits is at least 2 ^ 23 of it, where first has 40
pub record FitsTo (num first den up : ℕ) : Type 0 where
  pub is : den ≡ first * 2 ^ up
  pub once : up ≤ 1
  pub bound : den < 2 ^ 63
  pub above : num < 16777216 * den
  pub under : 2 ^ 63 ≤ num → first < 2 ^ 40 → 8388608 * den ≤ num

-- den is five doubled up times, and num is less than 2 ^ 24 of it
pub record ScalesTo (num five den up : ℕ) : Type 0 where
  pub is : den ≡ five * 2 ^ up
  pub some : 0 < den
  pub bound : den < 2 ^ 63
  pub above : num < 16777216 * den
  pub few : up ≤ 40

-- num * 2 ^ down is m times den and a rest, and m has 24 binary digits
pub record DividesTo (num den m rest down : ℕ) : Type 0 where
  pub long : num * 2 ^ down ≡ m * den + rest
  pub less : rest < den
  pub lo : 8388608 ≤ m
  pub hi : m < 16777216
  pub few : down ≤ 24

-- r has the bits of d / p rounded to binary32, but for the sign's
pub record BitsOf (d p r : ℕ) : Type 0 where
  pub small : r ≤ 2139095040
  pub signed : (s : Bool) → cond s (2 ^ 31) 0 + r ≡ to_bits binary32 (round binary32 s d p)
