-- An f32 in units of 2 ^ -149, which is the smallest f32 above zero: a finite f32 is a sign and a whole number of units. What the root and the nearest f32 are said in. Definitions only.
use Rattle.std.specs.Prelude.{Bool, true, false, ℕ, ◌*◌, ◌/◌, ◌^◌, T, Float}
use Rattle.std.specs.Float.{nan, inf, fin, binary32}
use Rattle.std.specs.Float.Ieee.{up, down, fits}
use Rattle.std.specs.Float.Ieee.Exact.{HasValue}

-- y is a finite f32, negative where neg is true, and c units in size. There is a zero of either sign.
pub record Sized (y : Float) (neg : Bool) (c : ℕ) : Type 0 where
  pub one : T (fits binary32 y)
  pub is : HasValue y neg c (2 ^ 149)

-- how many units go into x: a whole number for every finite f32, and 0 for the others
unfoldable pub count : Float → ℕ
count nan = 0
count (inf s) = 0
count (fin s m e) = m * up e * 2 ^ 149 / down e

-- finite, with the sign clear
abbrev pub plain : Float → Bool
plain nan = false
plain (inf s) = false
plain (fin true m e) = false
plain (fin false m e) = true
