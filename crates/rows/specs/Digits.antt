-- A whole number in digits. Document 01: the count of a GIMP file, and the index of an edit; document 02 (iv): the plus of a count.
use Rattle.std.specs.Prelude.{ℕ, ◌^◌, Bool, true, false, cond, ◌&&◌, List, [], ◌∷◌, length, ltb, eqb, Option, Some, None}
use Rattle.decimal.specs.Decimal.{is_digit, value_after}
use Rattle.text.specs.Text.{every}

-- one or more decimal digits, nothing else, and at most 2^64 - 1
unfoldable pub digits_of : List ℕ → Option ℕ
digits_of l =
    cond (ltb 0 (length l) && every is_digit l)
    (cond (ltb (value_after 0 l) (2 ^ 64)) (Some (value_after 0 l)) None)
    None

-- `+`
abbrev pub plus_sign : ℕ
plus_sign = 43

-- the same, before which one leading plus may stand where that is allowed
unfoldable pub digits_with : Bool → List ℕ → Option ℕ
digits_with false l = digits_of l
digits_with true [] = None
digits_with true (b ∷ l) = cond (eqb b plus_sign) (digits_of l) (digits_of (b ∷ l))
