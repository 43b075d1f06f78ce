-- The last digit of the pattern of an f32 of q * 2 ^ k units is that of q. Assumes nothing.
use mathlib.Core.Path.{◌≡◌, refl, sym, ap, ◌∙◌, subst}
use mathlib.Core.Logic.{inl, inr}
use mathlib.Core.Bool.{Bool, true, false, cond}
use Prim.Native.Nat.{ℕ, ◌+◌, ◌-◌, ◌*◌, ◌%◌, ◌^◌, ◌≤◌, ◌<◌}
use native.Mathlib.Nat.{lt_of_not-le, mul-one, div-one}
use native.Mathlib.Decide.{dec_le}
use native.Mathlib.Omega.{arith}
use lib.Ieee.{Float, binary32, size, to_bits}
use lib.Ieee.Digits.{size-le}
use Rattle.float.specs.Units.{Sized}
use Rattle.float.proofs.Fraction.{fields, bits_of, fields_put, fields_of}
use Rattle.float.proofs.Units.{Full}

fields_low : (s : Bool) (q : ℕ) → q < 2 ^ 23 → fields s (q * 2 ^ 0) ≡ cond s (2 ^ 31) 0 + 0 * 2 ^ 23 + q
fields_low s q h = ap (fields s) (mul-one q) ∙ fields_put s q (size q) 0 q refl (few (size q) (size-le q 23 h)) (div-one q)
  where
    few : (z : ℕ) → z ≤ 23 → z - 24 ≡ 0
    few z l = omega arith

pub fields_at : (s : Bool) (q k : ℕ) → Full q k → q ≤ 2 ^ 24 → fields s (q * 2 ^ k) ≡ cond s (2 ^ 31) 0 + k * 2 ^ 23 + q
fields_at s q k (inr l) h = fields_of s q k l h
fields_at s q k (inl e) h = subst (λ (j : ℕ). fields s (q * 2 ^ j) ≡ cond s (2 ^ 31) 0 + j * 2 ^ 23 + q) (sym e) (go (dec_le (2 ^ 23) q))
  where
    go : Dec (2 ^ 23 ≤ q) → fields s (q * 2 ^ 0) ≡ cond s (2 ^ 31) 0 + 0 * 2 ^ 23 + q
    go (yes l) = fields_of s q 0 l h
    go (no f) = fields_low s q (lt_of_not-le f)

pub last_digit : {y : Float} {s : Bool} (q k : ℕ) → Sized y s (q * 2 ^ k) → Full q k → q ≤ 2 ^ 24 → to_bits binary32 y % 2 ≡ q % 2
last_digit {y} {s} q k z f h = ap (λ (x : ℕ). x % 2) (bits_of y s (q * 2 ^ k) z.is ∙ fields_at s q k f h) ∙ parity s
  where
    parity : (t : Bool) → (cond t (2 ^ 31) 0 + k * 2 ^ 23 + q) % 2 ≡ q % 2
    parity true = omega arith
    parity false = omega arith
