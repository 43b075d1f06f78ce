-- A number as text. Document 02 (v): 9 significant digits, rounded to nearest, a tie to even, in plain decimal, for zero and for magnitudes from 1e-6 to 1e6, both as f32.
-- Trailing zeros are kept; zero is `0`, minus zero `-0`.
use Rattle.std.specs.Prelude.{ℕ, zero, suc, ◌+◌, ◌-◌, ◌*◌, ◌/◌, ◌%◌, ◌^◌, max, ◌≡◌, Bool, true, false, cond, ◌&&◌, List, [], ◌∷◌, ◌++◌, leb, eqb, length, replicate, Float}
use Rattle.std.specs.Float.{nan, inf, fin}
use Rattle.std.specs.Float.Ieee.{up, down}
use Rattle.std.specs.Float.Ieee.Nearest.{closest}

-- ---- a decimal

-- the last w decimal digits of x
unfoldable pub digits : ℕ → ℕ → List ℕ
digits zero x = []
digits (suc w) x = (48 + x / 10 ^ w % 10) ∷ digits w x

-- d / 10 ^ k in plain decimal, for a d of nine digits
unfoldable pub plain_decimal : ℕ → ℕ → List ℕ
plain_decimal d k = digits (max 1 (9 - k)) (d / 10 ^ k) ++ (46 ∷ digits k d)

-- how many places after the point make nine digits of num / den: the first k from `from` on, at most f more, with 10 ^ 8 ≤ num / den * 10 ^ k
unfoldable pub places : ℕ → ℕ → ℕ → ℕ → ℕ
places zero num den from = from
places (suc f) num den from =
    let more = places f num den (from + 1) in
    cond (leb (10 ^ 8 * den) (num * 10 ^ from)) from more

-- num / den to the nearest number of k places, a tie to the even one; where that has ten digits, it is 10 ^ 9 / 10 ^ k, and one place goes
unfoldable pub nine : ℕ → ℕ → ℕ → List ℕ
nine num den k = cond (eqb (closest (num * 10 ^ k) den) (10 ^ 9)) (plain_decimal (10 ^ 8) (k - 1)) (plain_decimal (closest (num * 10 ^ k) den) k)

-- ---- a number

-- from 1e-6 to 1e6: the f32 nearest to 1e-6 is 8796093 / 2 ^ 43
unfoldable pub in_range : ℕ → ℕ → Bool
in_range num den = leb (8796093 * den) (num * 2 ^ 43) && leb num (1000000 * den)

-- zero, and magnitudes of the range
unfoldable pub writable : Float → Bool
writable nan = false
writable (inf s) = false
writable (fin s zero e) = true
writable (fin s (suc m) e) = in_range (suc m * up e) (down e)

-- '-' before the negative ones
unfoldable pub signed : Bool → List ℕ → List ℕ
signed s t = cond s (45 ∷ t) t

-- what is written of a number: nothing where it cannot be written
unfoldable pub text_of : Float → List ℕ
text_of nan = []
text_of (inf s) = []
text_of (fin s zero e) = signed s (48 ∷ [])
text_of (fin s (suc m) e) =
    let num = suc m * up e in
    let den = down e in
    cond (in_range num den) (signed s (nine num den (places 15 num den 0))) []

-- ---- the promise: the first len bytes are the text t, and 0 follows
pub record TextIs (t : List ℕ) (bytes : List ℕ) (len : ℕ) : Type 0 where
  pub long : len ≡ length t
  pub is : bytes ≡ t ++ replicate (18 - length t) 0
