-- What it is that the difference of two colours is a distance but for its rounding: said in units of 2 ^ -149, of which every f32 is a whole number (`count`). Definitions only.
use Rattle.std.specs.Prelude.{ℕ, ◌+◌, ◌*◌, ◌^◌, ◌≤◌, ◌<◌, T, Float}
use Rattle.std.specs.Float.{binary32}
use Rattle.std.specs.Float.Ieee.{fits, le}
use Rattle.std.specs.Float.Ieee.Scale.{finite}
use Rattle.float.specs.F32.{f0}
use Rattle.blend.specs.declared.Rgba.{Rgba}

-- a colour of f32, as every colour is that a call takes or hands out
pub record SingleColour (c : Rgba) : Type 0 where
  pub red : T (fits binary32 c.r)
  pub green : T (fits binary32 c.g)
  pub blue : T (fits binary32 c.b)
  pub alpha : T (fits binary32 c.a)

-- a finite f32 that is not below 0
pub record Plain (x : Float) : Type 0 where
  pub single : T (fits binary32 x)
  pub whole : T (finite x)
  pub low : T (le f0 x)

-- e is no more than `most` and what rounding can add: 168 parts in 2 ^ 28 of it, which is ten and a half in 2 ^ 24, and 3 * 2 ^ -73
abbrev pub AtMost : ℕ → ℕ → Type 0
AtMost e most = 2 ^ 28 * e ≤ (2 ^ 28 + 168) * most + 3 * 2 ^ 28 * 2 ^ 76

-- e is more than that
abbrev pub Beyond : ℕ → ℕ → Type 0
Beyond e most = (2 ^ 28 + 168) * most + 3 * 2 ^ 28 * 2 ^ 76 < 2 ^ 28 * e
