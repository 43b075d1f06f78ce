-- A fraction within a quarter of a float's spacing rounds to that float. Assumes nothing.
use mathlib.Core.Path.{◌≡◌, sym, ap, ◌∙◌, subst}
use mathlib.Core.Logic.{inl, inr}
use mathlib.Core.Bool.{Bool, true, false, cond, not}
use Prim.Native.Nat.{ℕ, suc, ◌+◌, ◌-◌, ◌*◌, ◌/◌, ◌%◌, ◌^◌, ◌≤◌, ◌<◌, compare}
use native.Mathlib.Nat.{div-add-mod', mod-lt, mul_left_comm, le_antisymm, le_trans, le_of_eq, mul-pos, mul_comm, mul_assoc, le-div_iff_mul-le, div-lt_iff_lt-mul, add-mul, mul-sub, mul_right_comm, mul-le-mul_right, lt_of_lt_of_le, eq-or-lt_of_le, sub-le}
use native.Mathlib.Omega.{arith}
use lib.Dec.{T, leb, leb→le, nleb→lt, lit<}
use lib.Pow.{pow-add, pow_pos}
use lib.Ieee.{binary32, nearest, round, to_bits}
use lib.Ieee.Nearest.{closest, closest_mono}
use Rattle.float.proofs.Fraction.{bits_are}

-- ---- the bits of a fraction whose unit is known: 2 ^ k of the smallest values, of which it has a whole part of 24 digits
bits_unit : (s : Bool) (d p k : ℕ) → 0 < p → 2 ^ 23 ≤ d * 2 ^ 149 / (p * 2 ^ k) → d * 2 ^ 149 / (p * 2 ^ k) < 2 ^ 24 → k ≤ 250
    → to_bits binary32 (round binary32 s d p) ≡ cond s (2 ^ 31) 0 + k * 2 ^ 23 + closest (d * 2 ^ 149) (p * 2 ^ k)
bits_unit s d p k P lo hi k_le =
    bits_are s d p (d * 2 ^ 149 / (p * 2 ^ k)) (d * 2 ^ 149 % (p * 2 ^ k)) (p * 2 ^ k) 149 k P
    (sym (div-add-mod' (d * 2 ^ 149) (p * 2 ^ k))) (mod-lt (d * 2 ^ 149) (mul-pos P (pow_pos k)))
    (mul_left_comm (2 ^ 149) p (2 ^ k) ∙ ap (λ (x : ℕ). p * x) (mul_comm (2 ^ 149) (2 ^ k) ∙ sym (pow-add 2 k 149)))
    lo hi k_le

twice : (p k : ℕ) → p * 2 ^ (k + 1) ≡ p * 2 ^ k * 2
twice p k = ap (λ (x : ℕ). p * x) (pow-add 2 k 1) ∙ sym (mul_assoc p (2 ^ k) 2)

-- ---- a quarter above a whole number, and a quarter below
up_quarter : (m : ℕ) → closest (m * 4 + 1) 4 ≡ m
up_quarter m =
    let q : (m * 4 + 1) / 4 ≡ m = omega arith in
    let r : (m * 4 + 1) % 4 ≡ 1 = omega arith in
    ap (λ (x : ℕ). nearest x (compare ((m * 4 + 1) % 4 * 2) 4)) q ∙ ap (λ (x : ℕ). nearest m (compare (x * 2) 4)) r

down_quarter : (m : ℕ) → 0 < m → closest (m * 4 - 1) 4 ≡ m
down_quarter m h =
    let q : (m * 4 - 1) / 4 ≡ m - 1 = omega arith in
    let r : (m * 4 - 1) % 4 ≡ 3 = omega arith in
    let e : suc (m - 1) ≡ m = omega arith in
    ap (λ (x : ℕ). nearest x (compare ((m * 4 - 1) % 4 * 2) 4)) q ∙ ap (λ (x : ℕ). nearest (m - 1) (compare (x * 2) 4)) r ∙ e

-- n / u is less than a quarter from m
near : (n u m : ℕ) → 0 < u → 0 < m → m * u * 4 < n * 4 + u → n * 4 < m * u * 4 + u → closest n u ≡ m
near n u m U M a b =
    let e : m * 4 * u ≡ m * u * 4 = mul_right_comm m 4 u in
    let f : (m * 4 + 1) * u ≡ m * 4 * u + 1 * u = add-mul (m * 4) 1 u in
    let g : (m * 4 - 1) * u ≡ m * 4 * u - 1 * u = mul_comm (m * 4 - 1) u ∙ mul-sub u (m * 4) 1 ∙ ap (λ (x : ℕ). x - u * 1) (mul_comm u (m * 4)) ∙ ap (λ (x : ℕ). m * 4 * u - x) (mul_comm u 1) in
    le_antisymm
    (le_trans (closest_mono n u (m * 4 + 1) 4 U (lit< tt) (omega arith)) (le_of_eq (up_quarter m)))
    (le_trans (le_of_eq (sym (down_quarter m M))) (closest_mono (m * 4 - 1) 4 n u (lit< tt) U (omega arith)))

-- ---- of n, in units u: facts with no power of two in them, since `omega` stops at a number of more than 38 digits
top_of : (n u m : ℕ) → 0 < u → m < 16777216 → n * 4 < m * u * 4 + u → n < 16777216 * u
top_of n u m U l h =
    let a : (m + 1) * u ≡ m * u + 1 * u = add-mul m 1 u in
    let b : (m + 1) * u ≤ 16777216 * u = mul-le-mul_right u (omega arith) in
    omega arith

-- just below 2 ^ 23 units m is 2 ^ 23
least : (n u m : ℕ) → 0 < u → 8388608 < m → m * u * 4 < n * 4 + u → n < 8388608 * u → ⊥
least n u m U l a b = let c : 8388609 * u ≤ m * u = mul-le-mul_right u l in omega arith

-- and of half the unit, v, n has 2 ^ 24 to the nearest
half_lo : (n u v : ℕ) → u ≡ v * 2 → 8388608 * u * 4 < n * 4 + u → 33554431 * v ≤ n * 2
half_lo n u v e a = omega arith

half_hi : (n u v : ℕ) → u ≡ v * 2 → n < 8388608 * u → n < 16777216 * v
half_hi n u v e a = omega arith

half_in : (n v : ℕ) → 33554431 * v ≤ n * 2 → 8388608 * v ≤ n
half_in n v a = omega arith

half_near : (n v : ℕ) → 0 < v → 33554431 * v ≤ n * 2 → n < 16777216 * v → closest n v ≡ 16777216
half_near n v vp a b = le_antisymm (closest_mono n v 16777216 1 vp (lit< tt) (omega arith)) (closest_mono 33554431 2 n v (lit< tt) vp a)

one_less : (k : ℕ) → 0 < k → k - 1 + 1 ≡ k
one_less k h = omega arith

carry : (x k : ℕ) → 0 < k → x + (k - 1) * 8388608 + 16777216 ≡ x + k * 8388608 + 8388608
carry x k h = omega arith

-- ---- such a fraction rounds to the float
-- the float is m * 2 ^ k of the smallest values, with m of 24 digits, and d / p is less than a quarter of 2 ^ k from it
module _ (s : Bool) (d p m k : ℕ) (P : 0 < p) (lo : 2 ^ 23 ≤ m) (hi : m < 2 ^ 24) (some : 0 < k) (k_le : k ≤ 250)
    (under : m * (p * 2 ^ k) * 4 < d * 2 ^ 149 * 4 + p * 2 ^ k) (over : d * 2 ^ 149 * 4 < m * (p * 2 ^ k) * 4 + p * 2 ^ k) where
  abbrev n : ℕ
  n = d * 2 ^ 149

  abbrev u : ℕ
  u = p * 2 ^ k

  abbrev v : ℕ
  v = p * 2 ^ (k - 1)

  u_pos : 0 < u
  u_pos = mul-pos P (pow_pos k)

  v_pos : 0 < v
  v_pos = mul-pos P (pow_pos (k - 1))

  u_is : u ≡ v * 2
  u_is = ap (λ (x : ℕ). p * 2 ^ x) (sym (one_less k some)) ∙ twice p (k - 1)

  -- no less than 2 ^ 23 of the units
  within : 2 ^ 23 * u ≤ n → to_bits binary32 (round binary32 s d p) ≡ cond s (2 ^ 31) 0 + k * 2 ^ 23 + m
  within h =
      bits_unit s d p k P ((le-div_iff_mul-le u_pos).1 h) ((div-lt_iff_lt-mul u_pos).1 (top_of n u m u_pos hi over)) k_le
      ∙ ap (λ (x : ℕ). cond s (2 ^ 31) 0 + k * 2 ^ 23 + x) (near n u m u_pos (lt_of_lt_of_le (lit< tt) lo) under over)

  -- fewer: then m is 2 ^ 23, and the fraction is just below, where the unit is half as large
  below_at : 2 ^ 23 ≡ m → n < 2 ^ 23 * u → to_bits binary32 (round binary32 s d p) ≡ cond s (2 ^ 31) 0 + k * 2 ^ 23 + m
  below_at e h =
      let a : 33554431 * v ≤ n * 2 = half_lo n u v u_is (subst (λ (x : ℕ). x * u * 4 < n * 4 + u) (sym e) under) in
      let b : n < 16777216 * v = half_hi n u v u_is h in
      bits_unit s d p (k - 1) P ((le-div_iff_mul-le v_pos).1 (half_in n v a)) ((div-lt_iff_lt-mul v_pos).1 b) (le_trans (sub-le k 1) k_le)
      ∙ ap (λ (x : ℕ). cond s (2 ^ 31) 0 + (k - 1) * 2 ^ 23 + x) (half_near n v v_pos a b)
      ∙ carry (cond s (2 ^ 31) 0) k some
      ∙ ap (λ (x : ℕ). cond s (2 ^ 31) 0 + k * 2 ^ 23 + x) e

  below : n < 2 ^ 23 * u → to_bits binary32 (round binary32 s d p) ≡ cond s (2 ^ 31) 0 + k * 2 ^ 23 + m
  below h = elim (eq-or-lt_of_le lo) [ inl e ↦ below_at e h | inr l ↦ absurd (least n u m u_pos l under h) ]

  pub bits_near : to_bits binary32 (round binary32 s d p) ≡ cond s (2 ^ 31) 0 + k * 2 ^ 23 + m
  bits_near = go (leb (2 ^ 23 * u) n) (leb→le (2 ^ 23 * u) n) (nleb→lt (2 ^ 23 * u) n)
    where
      go : (b : Bool) → (T b → 2 ^ 23 * u ≤ n) → (T (not b) → n < 2 ^ 23 * u) → to_bits binary32 (round binary32 s d p) ≡ cond s (2 ^ 31) 0 + k * 2 ^ 23 + m
      go true f g = within (f tt)
      go false f g = below (g tt)
