-- Every number that a token is, having at most 18 digits, is finite. Assumes nothing.
use Prim.Native.Nat.{ℕ, zero, suc, ◌+◌, ◌-◌, ◌*◌, ◌^◌, ◌≤◌, ◌<◌}
use native.Mathlib.Nat.{pow-succ', mul-le-mul_right}
use native.Mathlib.Omega.{arith}
use mathlib.Core.Path.{◌≡◌, refl}
use mathlib.Core.Bool.{Bool, true, false, cond, ◌&&◌}
use mathlib.Core.List.{List, [], ◌∷◌, ◌++◌}
use lib.ListN.{length}
use lib.Dec.{T, leb, ltb, eqb}
use lib.Ieee.{Float, Format, nan, inf, fin, binary32, low, emax, prec, units, odd, round, le}
use lib.Ieee.Scale.{finite}
use lib.Ieee.Order.{round_mono}
use lib.Ieee.Order as order
use borrow.Author.Tests.{leb-true}
use Rattle.float.proofs.Flags.{both_l, both_r}
use Rattle.decimal.specs.Decimal.{most_digits, is_digit, are_digits, value_after, before_point, after_point, number_of, unsigned_of, read_of}
use Rattle.decimal.specs.declared.Token.{Token}
use Rattle.decimal.specs.declared.Token.TheVariants.{Number, NoNumber}
use Rattle.decimal.proofs.Scale.{ten_le}

odd-finite : (d : ℕ) (s : Bool) (q k l : ℕ) → finite (odd d s q k l) ≡ true
unfolding odd
odd-finite d s zero k l = refl
odd-finite d s (suc q) k l = refl

-- the sign is nothing to it
units_sign : (f : Format) (s : Bool) (q k : ℕ) → finite (units f false q k) ≡ true → finite (units f s q k) ≡ true
unfolding units
units_sign f s q k = go (ltb (q * 2 ^ k) (2 ^ (low f + suc (emax f)))) where
  go : (b : Bool) → finite (cond b (odd (suc (prec f)) false q k (low f)) (inf false)) ≡ true → finite (cond b (odd (suc (prec f)) s q k (low f)) (inf s)) ≡ true
  go true h = odd-finite (suc (prec f)) s q k (low f)
  go false h = h

-- no more than a finite number
below_finite : (y : Float) → finite y ≡ true → T (le (inf false) y) → ⊥
unfolding le
below_finite nan h t = t
below_finite (inf s) h t = let z : ◌≡◌ {A = ℕ} 0 1 = cc in omega arith
below_finite (fin s m e) h t = t

units_below : (f : Format) (q k : ℕ) (y : Float) → finite y ≡ true → T (le (units f false q k) y) → finite (units f false q k) ≡ true
unfolding units
units_below f q k y h = go (ltb (q * 2 ^ k) (2 ^ (low f + suc (emax f)))) where
  go : (b : Bool) → T (le (cond b (odd (suc (prec f)) false q k (low f)) (inf false)) y) → finite (cond b (odd (suc (prec f)) false q k (low f)) (inf false)) ≡ true
  go true t = odd-finite (suc (prec f)) false q k (low f)
  go false t = absurd (below_finite y h t)

top_finite : finite (round binary32 false (10 ^ 18) 1) ≡ true
unfolding round
top_finite = refl

round-finite : (s : Bool) (d p : ℕ) → d ≤ 10 ^ 18 → 0 < p → finite (round binary32 s d p) ≡ true
unfolding round
round-finite s d p h k =
    let q = order.kept (prec binary32) (d * 2 ^ low binary32) p in
    let j = order.drop (prec binary32) (d * 2 ^ low binary32) p in
    let small : d * 1 ≤ 10 ^ 18 * p = many d p (10 ^ 18) h k in
    units_sign binary32 s q j (units_below binary32 q j (round binary32 false (10 ^ 18) 1) top_finite (round_mono binary32 d p (10 ^ 18) 1 k (omega arith) small))
  where
    many : (a b c : ℕ) → a ≤ c → 0 < b → a * 1 ≤ c * b
    many a zero c h k = absurd (omega arith)
    many a (suc b) c h k = omega arith

-- digits make a number of as many
ten_more : (v w p r : ℕ) → w + 1 ≤ (v + 1) * 10 → r < (w + 1) * p → r < (v + 1) * (10 * p)
ten_more v w p r h l = omega (arith, mul-le-mul_right p h)

value_below : (v : ℕ) (xs : List ℕ) → are_digits xs ≡ true → value_after v xs < (v + 1) * 10 ^ length xs
unfolding value_after are_digits
value_below v [] h = omega arith
value_below v (x ∷ xs) h =
    let high = leb-true x 57 (both_r (leb 48 x) (leb x 57) (both_l (is_digit x) (are_digits xs) h)) in
    let w = v * 10 + (x - 48) in
    rw (pow-succ' 10 (length xs)) (ten_more v w (10 ^ length xs) (value_after w xs) (omega arith) (value_below w xs (both_r (is_digit x) (are_digits xs) h)))

abbrev pub token_finite : Token → Bool
token_finite (Number x) = finite x
token_finite NoNumber = true

number_finite : (neg : Bool) (d n k : ℕ) → d < 1 * 10 ^ n → token_finite (number_of neg d n k) ≡ true
unfolding number_of
number_finite neg d n k h = go (leb 1 n && leb n most_digits) refl where
  go : (t : Bool) → (leb 1 n && leb n most_digits) ≡ t → token_finite (cond t (Number (round binary32 neg d (10 ^ k))) NoNumber) ≡ true
  go false e = refl
  go true e = round-finite neg d (10 ^ k) (omega (arith, ten_le n 18 (leb-true n most_digits (both_r (leb 1 n) (leb n most_digits) e)))) (pow_some k)
    where
      pow_some : (j : ℕ) → 0 < 10 ^ j
      pow_some zero = omega arith
      pow_some (suc j) = omega (arith, pow-succ' 10 j, pow_some j)

unsigned_finite : (neg : Bool) (s : List ℕ) → token_finite (unsigned_of neg s) ≡ true
unfolding unsigned_of
unsigned_finite neg s = go (are_digits (before_point s ++ after_point s)) refl where
  go : (t : Bool) → are_digits (before_point s ++ after_point s) ≡ t → token_finite (cond t (number_of neg (value_after 0 (before_point s ++ after_point s)) (length (before_point s ++ after_point s)) (length (after_point s))) NoNumber) ≡ true
  go false e = refl
  go true e = number_finite neg (value_after 0 (before_point s ++ after_point s)) (length (before_point s ++ after_point s)) (length (after_point s)) (value_below 0 (before_point s ++ after_point s) e)

pub token_finite_lem : (s : List ℕ) → token_finite (read_of s) ≡ true
unfolding read_of
token_finite_lem [] = refl
token_finite_lem (b ∷ bs) = go (eqb b 45) (eqb b 43) where
  go : (t u : Bool) → token_finite (cond t (unsigned_of true bs) (cond u (unsigned_of false bs) (unsigned_of false (b ∷ bs)))) ≡ true
  go true u = unsigned_finite true bs
  go false true = unsigned_finite false bs
  go false false = unsigned_finite false (b ∷ bs)
