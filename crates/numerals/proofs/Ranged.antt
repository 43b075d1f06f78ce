-- A number of the range, its digits and where they stand in its bits. Assumes nothing.
use mathlib.Core.Path.{◌≡◌, refl, sym, ap, ◌∙◌}
use mathlib.Core.Bool.{Bool, cond}
use Prim.Native.Nat.{ℕ, suc, ◌+◌, ◌*◌, ◌^◌, ◌≤◌, ◌<◌}
use native.Mathlib.Nat.{le_trans, le_of_eq, lt_of_lt_of_le, lt_of_le_of_lt, lt_of_not-le, not-le_of_lt, mul_assoc, mul_right_comm, mul-le-mul_right, le_of_mul-le-mul_right}
use native.Mathlib.Omega.{arith}
use lib.Dec.{T, lit<, lit≤}
use lib.IntN.{ℤ}
use lib.Pow.{pow-add, pow_mono, shl_lt}
use lib.Ieee.{Float, fin, binary32, up, down, to_bits, fits}
use lib.Ieee.Fits.{down_pos}
use Rattle.numerals.proofs.OwnDigits.{Normal, normal_bits, Digits, digits_of, Shift, own_digits}

-- num / den is n units
module _ (num den n : ℕ) (some : 0 < den) (same : num * 2 ^ 149 ≡ n * den) (low : 8796093 * den ≤ num * 2 ^ 43) (high : num ≤ 1000000 * den) where
  pub n_least : 8796093 * 2 ^ 106 ≤ n
  n_least =
      (le_of_mul-le-mul_right {m = 8796093 * 2 ^ 106} {k = den}
      (le_trans (le_of_eq (mul_right_comm 8796093 (2 ^ 106) den))
      (le_trans (mul-le-mul_right (2 ^ 106) low) (le_of_eq (mul_assoc num (2 ^ 43) (2 ^ 106) ∙ same)))) some)

  pub n_low : 2 ^ 129 ≤ n
  n_low = le_trans (lit≤ tt) n_least

  pub n_high : n < 2 ^ 169
  n_high =
      lt_of_le_of_lt
      (le_of_mul-le-mul_right {n = 1000000 * 2 ^ 149} {k = den}
      (le_trans (le_of_eq (sym same)) (le_trans (mul-le-mul_right (2 ^ 149) high) (le_of_eq (mul_right_comm 1000000 den (2 ^ 149))))) some)
      (lit< tt)

-- the digits of a number of the range, and where they stand in its bits, for the code
pub record Ranged (x : Float) (s : Bool) (num den : ℕ) : Type 0 where
  pub m : ℕ
  pub k : ℕ
  pub lo : 2 ^ 23 ≤ m
  pub hi : m < 2 ^ 24
  pub bits : to_bits binary32 x ≡ cond s (2 ^ 31) 0 + k * 2 ^ 23 + m
  pub same : num * 2 ^ 149 ≡ m * 2 ^ k * den
  pub k_lo : 106 ≤ k
  pub k_hi : k ≤ 145
  pub enough_of : 10 ^ 8 * 2 ^ 149 ≤ m * 2 ^ k * 10 ^ 15

of_digits : (x : Float) (s : Bool) (num den n : ℕ) → num * 2 ^ 149 ≡ n * den → Digits x s n → 8796093 * 2 ^ 106 ≤ n → n < 2 ^ 169 → Ranged x s num den
of_digits x s num den n e g a b = record {
  m = m;
  k = k;
  lo = v.lo;
  hi = v.hi;
  bits = normal_bits x s m k v;
  same = e ∙ ap (λ (y : ℕ). y * den) g.is;
  k_lo = lower (lt_of_not-le (λ (h : 24 + k ≤ 129). not-le_of_lt (shl_lt 24 k v.hi) (le_trans (pow_mono h) (le_trans (lit≤ tt) a'))));
  k_hi = upper (lt_of_not-le (λ (h : 169 ≤ 23 + k). not-le_of_lt b' (le_trans (pow_mono h) (le_trans (le_of_eq (pow-add 2 23 k)) (mul-le-mul_right (2 ^ k) v.lo)))));
  enough_of = le_trans (lit≤ tt) (mul-le-mul_right (10 ^ 15) a');
}
  where
    m : ℕ
    m = g.m

    k : ℕ
    k = g.k

    v : Normal x s m k
    v = g.normal

    a' : 8796093 * 2 ^ 106 ≤ m * 2 ^ k
    a' = le_trans a (le_of_eq g.is)

    b' : m * 2 ^ k < 2 ^ 169
    b' = lt_of_le_of_lt (le_of_eq (sym g.is)) b

    lower : 129 < 24 + k → 106 ≤ k
    lower h = omega arith

    upper : 23 + k < 169 → k ≤ 145
    upper h = omega arith

pub ranged : (s : Bool) (a : ℕ) (e : ℤ) → T (fits binary32 (fin s (suc a) e)) → 8796093 * down e ≤ suc a * up e * 2 ^ 43 → suc a * up e ≤ 1000000 * down e → Ranged (fin s (suc a) e) s (suc a * up e) (down e)
ranged s a e f low high =
    let w = own_digits s a e f in
    let hi : suc a < 2 ^ 24 = w.0 in
    let sh : Shift (suc a) e = w.1 in
    let num = suc a * up e in
    let n = suc a * 2 ^ sh.j in
    let nl = n_least num (down e) n (down_pos e) sh.is low high in
    let nh = n_high num (down e) n (down_pos e) sh.is low high in
    of_digits (fin s (suc a) e) s num (down e) n sh.is
    (digits_of (fin s (suc a) e) s (suc a) sh.j (refl, sh.is) hi (le_trans (lit≤ tt) nl) (lt_of_lt_of_le nh (lit≤ tt))) nl nh
