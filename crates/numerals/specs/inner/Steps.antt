-- What private functions promise each other.
use Rattle.std.specs.Prelude.{◌≡◌, ℕ, ◌*◌, ◌^◌, ◌≤◌, ◌<◌, Bool, true, false, Float}
use Rattle.std.specs.Float.Ieee.{neg}
use Rattle.std.specs.Float.Ieee.Nearest.{closest}
use Rattle.numerals.specs.Written.{places, nine, plain_decimal}

-- x with its sign changed where neg
abbrev pub with_sign : Bool → Float → Float
with_sign true x = neg x
with_sign false x = x

-- m / 2 ^ shift is a number of the range, and m has 24 binary digits
pub record Ranging (m shift : ℕ) : Type 0 where
  pub lo : 8388608 ≤ m
  pub hi : m < 16777216
  pub low : 4 ≤ shift
  pub high : shift ≤ 43
  pub reach : 10 ^ 8 * 2 ^ shift ≤ m * 10 ^ 15

-- d / 10 ^ k is the decimal nearest to m / 2 ^ shift, of the places that make nine digits
pub record Nines (m shift d k ten : ℕ) : Type 0 where
  pub places_are : k ≡ places 15 m (2 ^ shift) 0
  pub nearest : d ≡ closest (m * 10 ^ k) (2 ^ shift)
  pub few : k ≤ 15
  pub power : ten ≡ 10 ^ k

-- the text of m / 2 ^ shift is d / 10 ^ k written out
pub record Settled (m shift d k ten : ℕ) : Type 0 where
  pub text_is : nine m (2 ^ shift) (places 15 m (2 ^ shift) 0) ≡ plain_decimal d k
  pub few : k ≤ 15
  pub power : ten ≡ 10 ^ k
