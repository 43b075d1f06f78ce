-- What it means that r is the f32 nearest to the root of x. `root_of` is worked out; this is the meaning to hold it to, and it has one r at most. Definitions only.
use Rattle.std.specs.Prelude.{◌+◌, ◌*◌, ◌^◌, ◌<◌, T, Float}
use Rattle.std.specs.Float.{binary32}
use Rattle.std.specs.Float.Ieee.{fits}
use Rattle.float.specs.Units.{count, plain}

-- x and r are f32, finite, with the sign clear. Against every other such y, the root of x lies strictly on r's side of half-way between y and r, so there is no tie.
-- In units of 2 ^ -149 the root of x is the root of count x * 2 ^ 149 and half-way is (count y + count r) / 2: both are doubled and squared.
pub record IsRoot (x r : Float) : Type 0 where
  pub of : T (fits binary32 x) × T (plain x)
  pub is : T (fits binary32 r) × T (plain r)
  pub over : (y : Float) → T (fits binary32 y) → T (plain y) → count y < count r → (count y + count r) * (count y + count r) < 4 * (count x * 2 ^ 149)
  pub under : (y : Float) → T (fits binary32 y) → T (plain y) → count r < count y → 4 * (count x * 2 ^ 149) < (count y + count r) * (count y + count r)
