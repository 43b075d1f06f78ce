-- What it means that r is the f32 nearest to a fraction d / p, by whole numbers alone. `round` is worked out; this is the meaning to hold it to, and it has one r at most. Definitions only.
use Rattle.std.specs.Prelude.{◌≡◌, Bool, ℕ, ◌+◌, ◌-◌, ◌*◌, ◌%◌, ◌^◌, ◌≤◌, ◌<◌, Float}
use Rattle.std.specs.Float.{inf, binary32}
use Rattle.std.specs.Float.Ieee.{to_bits}
use Rattle.float.specs.Units.{Sized}

-- How far c units of 2 ^ -149 are from d / p: as whole numbers, in units and times p, c * p and d * 2 ^ 149. One of the differences is 0, since - stops there.
abbrev pub far : ℕ → ℕ → ℕ → ℕ
far d p c = c * p - d * 2 ^ 149 + (d * 2 ^ 149 - c * p)

-- r is an f32 of the sign, no f32 of the sign is nearer to d / p, and where another is just as near, the last binary digit of r's pattern is 0.
-- An f32 of the other sign is on the other side of zero, so it is no nearer than zero is.
pub record IsNearest (neg : Bool) (d p : ℕ) (r : Float) : Type 0 where
  pub count : ℕ
  pub is : Sized r neg count
  pub least : (y : Float) (c : ℕ) → Sized y neg c → far d p count ≤ far d p c
  pub even : (y : Float) (c : ℕ) → Sized y neg c → far d p c ≡ far d p count → (y ≡ r → ⊥) → to_bits binary32 r % 2 ≡ 0

-- half-way between the greatest f32 and 2 ^ 128, where the next would be: from here on IEEE 754 rounds to an infinity
abbrev pub past : ℕ
past = 33554431 * 2 ^ 103

-- what d / p is rounded to: the nearest f32, or from there on the infinity of the sign
pub data Rounded (neg : Bool) (d p : ℕ) : Float → Type 0 where
  near : {r : Float} → d < past * p → IsNearest neg d p r → Rounded neg d p r
  beyond : past * p ≤ d → Rounded neg d p (inf neg)
