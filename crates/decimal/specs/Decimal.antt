-- A token is read as a number or as no number: optional sign, digits with at most one point, at least 1 and at most 18 digits in all, no exponent.
-- It is rounded once, to nearest even (`round` of lib.Ieee). Zero keeps its sign.
use Rattle.std.specs.Prelude.{ℕ, ◌+◌, ◌-◌, ◌*◌, ◌^◌, Bool, true, false, cond, ◌&&◌, List, [], ◌∷◌, ◌++◌, leb, eqb, length}
use Rattle.std.specs.Float.{binary32}
use Rattle.std.specs.Float.Ieee.{round}
use Rattle.decimal.specs.declared.Token.{Token}
use Rattle.decimal.specs.declared.Token.TheVariants.{Number, NoNumber}

abbrev pub most_digits : ℕ
most_digits = 18

-- '0' to '9'
abbrev pub is_digit : ℕ → Bool
is_digit b = leb 48 b && leb b 57

unfoldable pub are_digits : List ℕ → Bool
are_digits [] = true
are_digits (b ∷ bs) = is_digit b && are_digits bs

-- the number that digits make, written after those that make v
unfoldable pub value_after : ℕ → List ℕ → ℕ
value_after v [] = v
value_after v (b ∷ bs) = value_after (v * 10 + (b - 48)) bs

-- what stands before the first point, and what after it: everything and nothing where there is none
unfoldable pub before_point : List ℕ → List ℕ
before_point [] = []
before_point (b ∷ bs) = cond (eqb b 46) [] (b ∷ before_point bs)

unfoldable pub after_point : List ℕ → List ℕ
after_point [] = []
after_point (b ∷ bs) = cond (eqb b 46) bs (after_point bs)

-- n digits that make d, of which k stand after the point
unfoldable pub number_of : Bool → ℕ → ℕ → ℕ → Token
number_of neg d n k = cond (leb 1 n && leb n most_digits) (Number (round binary32 neg d (10 ^ k))) NoNumber

-- a token after its sign: all of it but one point is digits; a second point stands after the first, and is none
unfoldable pub unsigned_of : Bool → List ℕ → Token
unsigned_of neg s =
    let digits = before_point s ++ after_point s in
    cond (are_digits digits) (number_of neg (value_after 0 digits) (length digits) (length (after_point s))) NoNumber

-- a token: '-' and '+' are signs
unfoldable pub read_of : List ℕ → Token
read_of [] = NoNumber
read_of (b ∷ bs) = cond (eqb b 45) (unsigned_of true bs) (cond (eqb b 43) (unsigned_of false bs) (unsigned_of false (b ∷ bs)))
