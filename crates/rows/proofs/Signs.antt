-- A number with its plus or without. Assumes nothing.
use Prim.Native.Nat.{ℕ, ◌-◌}
use native.Mathlib.Omega.{arith}
use mathlib.Core.Path.{◌≡◌, refl, ap, ◌∙◌}
use mathlib.Core.Bool.{Bool, true, false, ◌&&◌}
use mathlib.Core.Logic.{◌⊎◌, inl, inr}
use mathlib.Core.List.{List, [], ◌∷◌}
use lib.ListN.{length, get_or, take, drop}
use lib.Seq.{take_all}
use lib.Dec.{eqb}
use borrow.Author.Tests.{eq-eqb}
use lib.Pointwise.{pointwise}
use Rattle.std.specs.Prelude.{Option}
use Rattle.rows.specs.Digits.{digits_of, plus_sign, digits_with}

-- whether a plus stands first
abbrev pub starts_plus : List ℕ → Bool
starts_plus l = pointwise eqb (take 1 l) (plus_sign ∷ [])

first_plus : (b : ℕ) (l : List ℕ) → starts_plus (b ∷ l) ≡ eqb b plus_sign
first_plus b l = go (eqb b plus_sign)
  where
    go : (t : Bool) → (t && true) ≡ t
    go true = refl
    go false = refl

-- no plus, or one that is not allowed
pub number_plain : (p : Bool) (l : List ℕ) → (p ≡ false) ⊎ (starts_plus l ≡ false) → digits_of l ≡ digits_with p l
unfolding digits_of digits_with
number_plain false l f = refl
number_plain true l (inl f) = cc
number_plain true [] (inr f) = refl
number_plain true (b ∷ l) (inr f) = let e = first_plus b l in rw (← e, f)

-- one that is
pub number_plus : (p : Bool) (l : List ℕ) → p ≡ true → starts_plus l ≡ true → digits_of (drop 1 l) ≡ digits_with p l
unfolding digits_with
number_plus false l f g = cc
number_plus true [] f g = cc
number_plus true (b ∷ l) f g = let e = first_plus b l in rw (← e, g)

-- the same of the first byte, and of the bytes after it by their number
module _ (p : Bool) (e : p ≡ true) (r : Option ℕ) where
  pub number_first : (l : List ℕ) → (length l ≡ 0 → ⊥) → get_or l 0 0 ≡ plus_sign → r ≡ digits_of (take (length l - 1) (drop 1 l)) → r ≡ digits_with p l
  number_first [] n f q = absurd (n refl)
  number_first (b ∷ l) n f q =
      q ∙ ap digits_of (take_all (length (b ∷ l) - 1) l (omega arith)) ∙ number_plus p (b ∷ l) e (first_plus b l ∙ eq-eqb b plus_sign f)
