-- A long token is read as a number or as no number: optional sign, digits with at most one point, at least one digit; then perhaps 'e' or 'E', an optional sign and one or more digits.
-- Zeros at the start and at the end of the digits do not count, and of the others there are at most 19. The value is rounded once, to nearest even (`round` of lib.Ieee):
-- beyond the greatest f32 it is infinite, below half of the least it is zero, and both keep the sign.
use Rattle.std.specs.Prelude.{ℕ, ◌+◌, ◌*◌, ◌^◌, Bool, true, false, cond, ◌&&◌, List, [], ◌∷◌, ◌++◌, leb, eqb, length, drop}
use Rattle.std.specs.Float.{binary32}
use Rattle.std.specs.Float.Ieee.{round}
use Rattle.decimal.specs.declared.Token.{Token}
use Rattle.decimal.specs.declared.Token.TheVariants.{Number, NoNumber}
use Rattle.decimal.specs.Decimal.{is_digit, are_digits, value_after}

abbrev pub most_significant : ℕ
most_significant = 19

-- whether a minus stands first; and what follows a sign, everything where there is none
abbrev pub is_minus : List ℕ → Bool
is_minus [] = false
is_minus (b ∷ bs) = eqb b 45

abbrev pub past_sign : List ℕ → List ℕ
past_sign [] = []
past_sign (b ∷ bs) = cond (eqb b 45) bs (cond (eqb b 43) bs (b ∷ bs))

-- the digits that stand first, and what follows them
unfoldable pub first_digits : List ℕ → List ℕ
first_digits [] = []
first_digits (b ∷ bs) = cond (is_digit b) (b ∷ first_digits bs) []

unfoldable pub past_digits : List ℕ → List ℕ
past_digits [] = []
past_digits (b ∷ bs) = cond (is_digit b) (past_digits bs) (b ∷ bs)

-- digits from the first that is not '0'; and whether all of them are '0'
unfoldable pub from_first : List ℕ → List ℕ
from_first [] = []
from_first (b ∷ bs) = cond (eqb b 48) (from_first bs) (b ∷ bs)

unfoldable pub are_zeros : List ℕ → Bool
are_zeros [] = true
are_zeros (b ∷ bs) = eqb b 48 && are_zeros bs

-- at most 19 digits count: from the first that is not '0' on, all after the 19th are
abbrev pub few_count : List ℕ → Bool
few_count ds = are_zeros (drop most_significant (from_first ds))

-- digits, with the point moved up places to the right and down places to the left
unfoldable pub long_number : Bool → List ℕ → ℕ → ℕ → Token
long_number neg ds up down = cond (leb 1 (length ds) && few_count ds) (Number (round binary32 neg (value_after 0 ds * 10 ^ up) (10 ^ down))) NoNumber

-- 'e' or 'E'
abbrev pub is_mark : ℕ → Bool
is_mark b = cond (eqb b 101) true (eqb b 69)

-- digits ds, k of them after the point, and a power of ten: its sign, and its digits
unfoldable pub with_power : Bool → List ℕ → ℕ → Bool → List ℕ → Token
with_power neg ds k lower es =
    cond (leb 1 (length es) && are_digits es) (cond lower (long_number neg ds 0 (k + value_after 0 es)) (long_number neg ds (value_after 0 es) k)) NoNumber

-- digits ds, k of them after the point, and what follows them
unfoldable pub after_digits : Bool → List ℕ → ℕ → List ℕ → Token
after_digits neg ds k [] = long_number neg ds 0 k
after_digits neg ds k (b ∷ bs) = cond (is_mark b) (with_power neg ds k (is_minus bs) (past_sign bs)) NoNumber

-- the digits before a point, and what follows them
unfoldable pub after_whole : Bool → List ℕ → List ℕ → Token
after_whole neg whole [] = after_digits neg whole 0 []
after_whole neg whole (b ∷ bs) = cond (eqb b 46) (after_digits neg (whole ++ first_digits bs) (length (first_digits bs)) (past_digits bs)) (after_digits neg whole 0 (b ∷ bs))

-- a token after its sign, and a token
unfoldable pub unsigned_long_of : Bool → List ℕ → Token
unsigned_long_of neg s = after_whole neg (first_digits s) (past_digits s)

unfoldable pub read_long_of : List ℕ → Token
read_long_of s = unsigned_long_of (is_minus s) (past_sign s)
