-- The sign's bit of a pattern: what is left without it is the magnitude's pattern. Assumes nothing.
use mathlib.Core.Path.{◌≡◌, refl, sym, ap, ◌∙◌, subst}
use mathlib.Core.Bool.{Bool, true, false, not}
use Prim.Native.Nat.{ℕ, zero, suc, ◌+◌, ◌-◌, ◌*◌, ◌/◌, ◌%◌, ◌^◌, ◌<◌, ◌≤◌}
use native.Mathlib.Omega.{arith}
use lib.Dec.{T}
use lib.IntN.{ℤ}
use lib.Ieee.{Float, nan, inf, fin, binary32, up, down, size, is_nan, fits, to_bits, of_bits, nan_bits}
use lib.Ieee.Bits.{of_bits-to_bits, to_bits-lt, nan_bits_is}
use lib.Ieee.Fits.{inf-fits}
use Rattle.float.specs.Number.{magnitude_of}
use Rattle.float.proofs.Patterns.{number_below}

-- ---- whether a number fits does not turn on its sign
pub fits_signed : (s t : Bool) (m : ℕ) (e : ℤ) → T (fits binary32 (fin s m e)) → T (fits binary32 (fin t m e))
unfolding fits
fits_signed s t zero e h = h
fits_signed s t (suc m) e h = h

fits_magnitude : (x : Float) → T (fits binary32 x) → T (fits binary32 (magnitude_of x))
unfolding magnitude_of
fits_magnitude nan h = h
fits_magnitude (inf s) h = inf-fits binary32 false
fits_magnitude (fin s m e) h = fits_signed s false m e h

-- ---- the sign's bit is on top of the others
below : (u v : ℕ) → 2147483648 + u + v < 4294967296 → 0 + u + v < 2147483648
below u v h = omega arith

clear : (u v : ℕ) → 2147483648 + u + v < 4294967296 → 0 + u + v ≡ (2147483648 + u + v) % 2147483648
clear u v h = omega arith

above : (u v : ℕ) → 2147483648 ≤ 2147483648 + u + v
above u v = omega arith

keep : (a : ℕ) → a < 2147483648 → a ≡ a % 2147483648
keep a h = omega arith

module _ (m : ℕ) (e : ℤ) where
  abbrev n : ℕ
  n = m * up e * 2 ^ 149 / down e

  abbrev field : ℕ
  field = (size n - 24) * 8388608

  abbrev digits : ℕ
  digits = n / 2 ^ (size n - 24)

  pub plus_bits : T (fits binary32 (fin false m e)) → to_bits binary32 (fin false m e) < 2147483648
  unfolding to_bits
  plus_bits f = below field digits (to_bits-lt binary32 (fin true m e) (fits_signed false true m e f))

  pub minus_bits : 2147483648 ≤ to_bits binary32 (fin true m e)
  unfolding to_bits
  minus_bits = above field digits

  cleared : T (fits binary32 (fin true m e)) → to_bits binary32 (fin false m e) ≡ to_bits binary32 (fin true m e) % 2147483648
  unfolding to_bits
  cleared f = clear field digits (to_bits-lt binary32 (fin true m e) f)

pub pattern_magnitude : (x : Float) → T (fits binary32 x) → to_bits binary32 (magnitude_of x) ≡ to_bits binary32 x % 2147483648
unfolding magnitude_of to_bits
pattern_magnitude nan f = refl
pattern_magnitude (inf true) f = refl
pattern_magnitude (inf false) f = refl
pattern_magnitude (fin true m e) f = cleared m e f
pattern_magnitude (fin false m e) f = keep _ (plus_bits m e f)

-- ---- what `magnitude` asks
pub magnitude_back : (x : Float) → T (fits binary32 x) → of_bits binary32 (to_bits binary32 x % 2147483648) ≡ magnitude_of x
magnitude_back x f = ap (of_bits binary32) (sym (pattern_magnitude x f)) ∙ of_bits-to_bits binary32 (magnitude_of x) (fits_magnitude x f)

still_number : (x : Float) → T (not (is_nan x)) → T (not (is_nan (magnitude_of x)))
unfolding is_nan magnitude_of
still_number nan h = h
still_number (inf s) h = tt
still_number (fin s m e) h = tt

-- where the sign is clear, and where it is set
pub magnitude_plus : (x : Float) → T (fits binary32 x) → to_bits binary32 x < 2147483648 → x ≡ magnitude_of x
magnitude_plus x f h = sym (of_bits-to_bits binary32 x f) ∙ ap (of_bits binary32) (keep (to_bits binary32 x) h) ∙ magnitude_back x f

pub set : (x : Float) → T (fits binary32 x) → 2147483648 ≤ to_bits binary32 x → to_bits binary32 x - 2147483648 ≡ to_bits binary32 x % 2147483648
set x f h = let l = to_bits-lt binary32 x f in omega arith

pub magnitude_minus : (x : Float) → T (fits binary32 x) → 2147483648 ≤ to_bits binary32 x → of_bits binary32 (to_bits binary32 x - 2147483648) ≡ magnitude_of x
magnitude_minus x f h = ap (of_bits binary32) (set x f h) ∙ magnitude_back x f

pub magnitude_pattern : (x : Float) → T (fits binary32 x) → T (not (is_nan x)) → T (not (nan_bits binary32 (to_bits binary32 x % 2147483648)))
magnitude_pattern x f h =
    subst (λ (b : Bool). T (not b)) (sym (nan_bits_is binary32 (to_bits binary32 x % 2147483648) ∙ ap is_nan (magnitude_back x f))) (still_number x h)

pub magnitude_below : (x : Float) → T (fits binary32 x) → T (not (is_nan x)) → to_bits binary32 x % 2147483648 ≤ 2139095040
magnitude_below x f h = number_below (to_bits binary32 x % 2147483648) (omega arith) (magnitude_pattern x f h)
