-- What is clamped lies from 0 to 1, and in the order that it had. Assumes nothing.
use mathlib.Core.Path.{◌≡◌, refl, subst}
use mathlib.Core.Bool.{Bool, true, false, cond}
use lib.Dec.{T}
use lib.Ieee.{Float, is_nan, of_bits, le, lt}
use Rattle.float.specs.F32.{f0, f1}
use Rattle.float.specs.Number.{clamp_of}
use Rattle.float.proofs.Order.{as_T, le_lt_trans, lt-le_trans, le_from_not_lt, no_nan_l, no_nan_r}

zero_number : is_nan f0 ≡ false
unfolding is_nan of_bits
zero_number = refl

one_number : is_nan f1 ≡ false
unfolding is_nan of_bits
one_number = refl

zero_one : T (le f0 f1)
unfolding of_bits le
zero_one = tt

zero-zero : T (le f0 f0)
unfolding of_bits le
zero-zero = tt

one_one : T (le f1 f1)
unfolding of_bits le
one_one = tt

module _ (x : Float) (n : is_nan x ≡ false) where
  pub clamp_low : T (le f0 (clamp_of x))
  unfolding clamp_of
  clamp_low = go (lt x f0) (lt f1 x) refl
    where
      go : (a b : Bool) → lt x f0 ≡ a → T (le f0 (cond a f0 (cond b f1 x)))
      go true b e = zero-zero
      go false true e = zero_one
      go false false e = le_from_not_lt x f0 n zero_number e

  pub clamp_high : T (le (clamp_of x) f1)
  unfolding clamp_of
  clamp_high = go (lt x f0) (lt f1 x) refl
    where
      go : (a b : Bool) → lt f1 x ≡ b → T (le (cond a f0 (cond b f1 x)) f1)
      go true b e = zero_one
      go false true e = one_one
      go false false e = le_from_not_lt f1 x one_number n e

pub clamp_mono : (x y : Float) → T (le x y) → T (le (clamp_of x) (clamp_of y))
unfolding clamp_of
clamp_mono x y h = go (lt x f0) (lt f1 x) (lt y f0) (lt f1 y) refl refl refl refl
  where
    n : is_nan y ≡ false
    n = no_nan_r x y h

    none : {A : Type 0} {b : Bool} → T b → b ≡ false → A
    none t e = absurd (subst T e t)

    go : (a b c d : Bool) → lt x f0 ≡ a → lt f1 x ≡ b → lt y f0 ≡ c → lt f1 y ≡ d → T (le (cond a f0 (cond b f1 x)) (cond c f0 (cond d f1 y)))
    go true b true d ea eb ec ed = zero-zero
    go true b false true ea eb ec ed = zero_one
    go true b false false ea eb ec ed = le_from_not_lt y f0 n zero_number ec
    go false b true d ea eb ec ed = none (le_lt_trans x y f0 h (as_T (lt y f0) ec)) ea
    go false true false true ea eb ec ed = one_one
    go false true false false ea eb ec ed = none (lt-le_trans f1 x y (as_T (lt f1 x) eb) h) ed
    go false false false true ea eb ec ed = le_from_not_lt f1 x one_number (no_nan_l x y h) eb
    go false false false false ea eb ec ed = h
