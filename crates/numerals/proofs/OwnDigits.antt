-- A float's own 24 digits. Assumes nothing.
use mathlib.Core.Path.{◌≡◌, sym, ap, ◌∙◌, subst}
use mathlib.Core.Bool.{Bool, cond, ◌&&◌}
use Prim.Native.Nat.{ℕ, suc, ◌+◌, ◌-◌, ◌*◌, ◌%◌, ◌^◌, ◌≤◌, ◌<◌}
use native.Mathlib.Nat.{le_trans, le_of_eq, le_of_lt, lt_of_lt_of_le, lt_of_not-le, not-le_of_lt, mul-one, mul_assoc, mul-le-mul_right, le_of_mul-le-mul_right}
use native.Mathlib.Omega.{arith}
use lib.Dec.{T, leb, ltb, eqb, leb→le, ltb→lt}
use lib.IntN.{ℤ, pos, negsuc}
use lib.Pow.{pow-add, pow_pos, pow-lt, pow_mono, shl_lt}
use lib.Ieee.{Float, fin, binary32, up, down, size, to_bits, fits}
use lib.Ieee.Digits.{size-lt, size-le, size_reaches}
use lib.Ieee.Fits.{and_l, and_r}
use lib.Ieee.Exact.{HasValue}
use Rattle.float.proofs.Fraction.{bits_of, fields_of}

-- of x in units of the smallest value: m * 2 ^ k, with m of 24 digits
pub record Normal (x : Float) (s : Bool) (m k : ℕ) : Type 0 where
  pub value : HasValue x s (m * 2 ^ k) (2 ^ 149)
  pub lo : 2 ^ 23 ≤ m
  pub hi : m < 2 ^ 24

-- the bits say so
pub normal_bits : (x : Float) (s : Bool) (m k : ℕ) → Normal x s m k → to_bits binary32 x ≡ cond s (2 ^ 31) 0 + k * 2 ^ 23 + m
normal_bits x s m k v = bits_of x s (m * 2 ^ k) v.value ∙ fields_of s m k v.lo (le_of_lt v.hi)

-- ---- every float in the range has its 24 digits

size-gt : (n j : ℕ) → 2 ^ j ≤ n → j < size n
size-gt n j h = lt_of_not-le (λ (g : size n ≤ j). not-le_of_lt (lt_of_lt_of_le (size-lt n) (pow_mono g)) h)

-- from a number of no more than 24 digits, moved up
pub record Digits (x : Float) (s : Bool) (n : ℕ) : Type 0 where
  pub m : ℕ
  pub k : ℕ
  pub normal : Normal x s m k
  pub is : n ≡ m * 2 ^ k
  pub some : 0 < k
  pub small : k ≤ 250

module _ (x : Float) (s : Bool) (a j : ℕ) (v : HasValue x s (a * 2 ^ j) (2 ^ 149)) (hi : a < 2 ^ 24) (low : 2 ^ 129 ≤ a * 2 ^ j) (high : a * 2 ^ j < 2 ^ 200) where
  abbrev n : ℕ
  n = a * 2 ^ j

  abbrev k : ℕ
  k = size n - 24

  z_lo : 129 < size n
  z_lo = size-gt n 129 low

  z_hi : size n ≤ 200
  z_hi = size-le n 200 high

  k_is : 24 + k ≡ size n
  k_is = go (size n) z_lo
    where
      go : (z : ℕ) → 129 < z → 24 + (z - 24) ≡ z
      go z h = omega arith

  k_le : k ≤ j
  k_le = go (size n) (size-le n (24 + j) (shl_lt 24 j hi))
    where
      go : (z : ℕ) → z ≤ 24 + j → z - 24 ≤ j
      go z h = omega arith

  abbrev m : ℕ
  m = a * 2 ^ (j - k)

  n_is : n ≡ m * 2 ^ k
  n_is = ap (λ (e : ℕ). a * 2 ^ e) (sym (join j k k_le)) ∙ ap (λ (y : ℕ). a * y) (pow-add 2 (j - k) k) ∙ sym (mul_assoc a (2 ^ (j - k)) (2 ^ k))
    where
      join : (e f : ℕ) → f ≤ e → e - f + f ≡ e
      join e f h = omega arith

  m_lo : 2 ^ 23 ≤ m
  m_lo = le_of_mul-le-mul_right {k = 2 ^ k} (le_trans (le_of_eq (sym (pow-add 2 23 k))) (le_trans (size_reaches n (23 + k) (go k (size n) k_is)) (le_of_eq n_is))) (pow_pos k)
    where
      go : (e z : ℕ) → 24 + e ≡ z → 23 + e < z
      go e z h = omega arith

  m_hi : m < 2 ^ 24
  m_hi = lt_of_not-le (λ (g : 2 ^ 24 ≤ m). not-le_of_lt (size-lt n) (le_trans (le_of_eq (ap (λ (z : ℕ). 2 ^ z) (sym k_is) ∙ pow-add 2 24 k)) (le_trans (mul-le-mul_right (2 ^ k) g) (le_of_eq (sym n_is)))))

  pub digits_of : Digits x s n
  digits_of = record {
    m = m;
    k = k;
    normal = record { value = subst (λ (y : ℕ). HasValue x s y (2 ^ 149)) n_is v; lo = m_lo; hi = m_hi };
    is = n_is;
    some = some_of (size n) z_lo;
    small = small_of (size n) z_hi;
  }
    where
      some_of : (z : ℕ) → 129 < z → 0 < z - 24
      some_of z h = omega arith

      small_of : (z : ℕ) → z ≤ 200 → z - 24 ≤ 250
      small_of z h = omega arith

-- ---- a float's size in units of the smallest value
pub record Shift (a : ℕ) (e : ℤ) : Type 0 where
  pub j : ℕ
  pub is : a * up e * 2 ^ 149 ≡ a * 2 ^ j * down e

shift : (a : ℕ) (e : ℤ) → down e ≤ 2 ^ 149 → Shift a e
shift a (pos k) h = record { j = k + 149; is = mul_assoc a (2 ^ k) (2 ^ 149) ∙ ap (λ (x : ℕ). a * x) (sym (pow-add 2 k 149)) ∙ sym (mul-one (a * 2 ^ (k + 149))) }
shift a (negsuc i) h = record {
  j = 149 - suc i;
  is =
      ap (λ (x : ℕ). x * 2 ^ 149) (mul-one a)
      ∙ ap (λ (x : ℕ). a * 2 ^ x) (sym (join (suc i) (lt_of_not-le (λ (g : 150 ≤ suc i). not-le_of_lt (pow-lt g) h))))
      ∙ ap (λ (x : ℕ). a * x) (pow-add 2 (149 - suc i) (suc i))
      ∙ sym (mul_assoc a (2 ^ (149 - suc i)) (2 ^ suc i));
}
  where
    join : (x : ℕ) → x < 150 → 149 - x + x ≡ 149
    join x l = omega arith

-- a float that is not zero has at most 24 digits, moved up or down
pub own_digits : (s : Bool) (a : ℕ) (e : ℤ) → T (fits binary32 (fin s (suc a) e)) → (suc a < 2 ^ 24) × Shift (suc a) e
unfolding fits
own_digits s a e f =
    let b1 : Bool = eqb (suc a % 2) 1 in
    let b2 : Bool = ltb (suc a) (2 ^ 24) in
    let b3 : Bool = leb (down e) (2 ^ 149) in
    let b4 : Bool = ltb (suc a * up e) (2 ^ 128 * down e) in
    (ltb→lt (suc a) (2 ^ 24) (and_r b1 b2 (and_l (b1 && b2) b3 (and_l (b1 && b2 && b3) b4 f))), shift (suc a) e (leb→le (down e) (2 ^ 149) (and_r (b1 && b2) b3 (and_l (b1 && b2 && b3) b4 f))))
