-- Which of m and m + 1 is the nearest, from one test. Assumes nothing.
use mathlib.Core.Path.{◌≡◌, refl, sym, ap, ◌∙◌}
use mathlib.Core.Bool.{true, false}
use Prim.Native.Nat.{ℕ, ◌+◌, ◌%◌, ◌≤◌, ◌<◌, compare, Ordering}
use native.Mathlib.Omega.{arith}
use native.Mathlib.Decide.{dec_le}
use native.Mathlib.Nat.{lt_of_not-le}
use native.Mathlib.Numerals.{add-one}
use lib.Dec.{is_le, compare_is_eq}
use lib.Ieee.{nearest}
use borrow.Author.Tests.{le-leb, lt-leb, eq-eqb, ne_eqb}

only_lt : (o : Ordering) → is_le o ≡ true → compare_is_eq o ≡ false → o ≡ Ordering.lt
only_lt Ordering.lt a b = refl
only_lt Ordering.eq a b = cc
only_lt Ordering.gt a b = cc

only_eq : (o : Ordering) → compare_is_eq o ≡ true → o ≡ Ordering.eq
only_eq Ordering.lt a = cc
only_eq Ordering.eq a = refl
only_eq Ordering.gt a = cc

only_gt : (o : Ordering) → is_le o ≡ false → o ≡ Ordering.gt
only_gt Ordering.lt a = cc
only_gt Ordering.eq a = cc
only_gt Ordering.gt a = refl

differ : (a b : ℕ) → a < b → a ≡ b → ⊥
differ a b l e = omega arith

below : (a b : ℕ) → a < b → a ≤ b
below a b l = omega arith

above : (a b : ℕ) → b ≤ a → (a ≡ b → ⊥) → b < a
above a b l e = omega arith

is_lt : (a b : ℕ) → a < b → compare a b ≡ Ordering.lt
is_lt a b l = only_lt (compare a b) (le-leb a b (below a b l)) (ne_eqb a b (differ a b l))

is_eq : (a b : ℕ) → a ≡ b → compare a b ≡ Ordering.eq
is_eq a b e = only_eq (compare a b) (eq-eqb a b e)

is_gt : (a b : ℕ) → b ≤ a → (a ≡ b → ⊥) → compare a b ≡ Ordering.gt
is_gt a b l e = only_gt (compare a b) (lt-leb a b (above a b l e))

-- ---- twice the rest, and one more where m is odd, against den: it says which of m and m + 1 is the nearest, a tie to the even one
pub stays : (m t den : ℕ) → t + m % 2 ≤ den → m ≡ nearest m (compare t den)
stays m t den h = go (dec_le den t)
  where
    even : den ≤ t → m + m % 2 ≡ m
    even l = omega arith

    go : Dec (den ≤ t) → m ≡ nearest m (compare t den)
    go (yes l) = sym (ap (nearest m) (is_eq t den (omega arith)) ∙ even l)
    go (no f) = sym (ap (nearest m) (is_lt t den (lt_of_not-le f)))

pub moves : (m t den : ℕ) → den < t + m % 2 → m + 1 ≡ nearest m (compare t den)
moves m t den h = go (dec_le t den)
  where
    odd : t ≤ den → m + m % 2 ≡ m + 1
    odd l = omega arith

    go : Dec (t ≤ den) → m + 1 ≡ nearest m (compare t den)
    go (yes l) = sym (ap (nearest m) (is_eq t den (omega arith)) ∙ odd l)
    go (no f) = sym (ap (nearest m) (is_gt t den (omega arith) (omega arith)) ∙ sym (add-one m))
