-- How far the rounded steps of a difference can lead from the exact one, over whole numbers: a unit is 2 ^ -149, u of them are 1, and t is above the root of 6 u. An error of 16 in 2 ^ 28 is that of one operation.
-- Assumes nothing.
use mathlib.Core.Path.{◌≡◌, refl}
use Prim.Native.Nat.{ℕ, ◌+◌, ◌-◌, ◌*◌, ◌^◌, ◌≤◌}
use native.Mathlib.Nat.{le_trans, mul-le-mul_right}
use native.Mathlib.Omega.{arith}
use Rattle.float.proofs.RoundOff.{Part, Off, off_high, off_low}
use Rattle.sqrt.proofs.Squared.{Squared}
use Rattle.difference.proofs.Triangle.{sq_le, sq_back, squares4}

-- ---- a channel: the difference is v, rounded it is z, and its square rounded is p
difference_high : (z v : ℕ) → 2 ^ 24 * z * (2 ^ 24 * z) ≤ (2 ^ 24 * v + v) * (2 ^ 24 * v + v) → 2 ^ 28 * (z * z) ≤ (2 ^ 28 + 33) * (v * v)
difference_high z v h = omega arith

difference_low : (z v : ℕ) → (2 ^ 24 - 1) * v * ((2 ^ 24 - 1) * v) ≤ 2 ^ 24 * z * (2 ^ 24 * z) → 2 ^ 28 * (v * v) ≤ 2 ^ 28 * (z * z) + 32 * (v * v)
difference_low z v h = omega arith

part_low : (z v : ℕ) → 2 ^ 24 * v ≤ 2 ^ 24 * z + v → (2 ^ 24 - 1) * v ≤ 2 ^ 24 * z
part_low z v h = omega arith

-- one operation after another
then_high : (p z v u : ℕ) → 2 ^ 24 * p ≤ 2 ^ 24 * z + z + 2 ^ 24 * u → 2 ^ 28 * z ≤ (2 ^ 28 + 33) * v → 2 ^ 28 * p ≤ (2 ^ 28 + 50) * v + 2 ^ 28 * u
then_high p z v u h k = omega arith

then_low : (p z v u : ℕ) → 2 ^ 24 * z ≤ 2 ^ 24 * p + z + 2 ^ 24 * u → 2 ^ 28 * v ≤ 2 ^ 28 * z + 32 * v → 2 ^ 28 * v ≤ 2 ^ 28 * p + 48 * v + 2 ^ 28 * u
then_low p z v u h k = omega arith

module _ (v z p u : ℕ) (part : Part z v) (off : Off p (z * z) u) where
  square_high : 2 ^ 28 * (p * u) ≤ (2 ^ 28 + 50) * (v * v) + 2 ^ 28 * u
  square_high = then_high (p * u) (z * z) (v * v) u (off_high p (z * z) u off) (difference_high z v (sq_le (2 ^ 24 * z) (2 ^ 24 * v + v) part.0))

  square_low : 2 ^ 28 * (v * v) ≤ 2 ^ 28 * (p * u) + 48 * (v * v) + 2 ^ 28 * u
  square_low = then_low (p * u) (z * z) (v * v) u (off_low p (z * z) u off) (difference_low z v (sq_le ((2 ^ 24 - 1) * v) (2 ^ 24 * z) (part_low z v part.1)))

-- ---- four squares, added from the left
add_high : (s t a b : ℕ) → 2 ^ 24 * s ≤ 2 ^ 24 * (t + b) + (t + b) → 2 ^ 28 * t ≤ (2 ^ 28 + 33) * a → 2 ^ 28 * s ≤ (2 ^ 28 + 50) * (a + b)
add_high s t a b h l = omega arith

module _ (a b c d s₂ s₃ s₄ : ℕ) (two : Part s₂ (a + b)) (three : Part s₃ (s₂ + c)) (four : Part s₄ (s₃ + d)) where
  sum_high : 2 ^ 28 * s₄ ≤ (2 ^ 28 + 50) * (a + b + c + d)
  sum_high =
      let h : 2 ^ 28 * s₃ ≤ (2 ^ 28 + 33) * (a + b + c) = two_high s₃ s₂ (a + b) c three.0 two.0 in
      add_high s₄ s₃ (a + b + c) d four.0 h
    where
      two_high : (s t a c : ℕ) → 2 ^ 24 * s ≤ 2 ^ 24 * (t + c) + (t + c) → 2 ^ 24 * t ≤ 2 ^ 24 * a + a → 2 ^ 28 * s ≤ (2 ^ 28 + 33) * (a + c)
      two_high s t a c h k = omega arith

  sum_low : 2 ^ 28 * (a + b + c + d) ≤ 2 ^ 28 * s₄ + 48 * (a + b + c + d)
  sum_low = three_low s₄ s₃ (a + b + c) d four.1 (two_low s₃ s₂ (a + b) c three.1 two.1)
    where
      two_low : (s t a c : ℕ) → 2 ^ 24 * (t + c) ≤ 2 ^ 24 * s + (t + c) → 2 ^ 24 * a ≤ 2 ^ 24 * t + a → 2 ^ 28 * (a + c) ≤ 2 ^ 28 * s + 32 * (a + c)
      two_low s t a c h k = omega arith

      three_low : (s t a d : ℕ) → 2 ^ 24 * (t + d) ≤ 2 ^ 24 * s + (t + d) → 2 ^ 28 * a ≤ 2 ^ 28 * t + 32 * a → 2 ^ 28 * (a + d) ≤ 2 ^ 28 * s + 48 * (a + d)
      three_low s t a d h k = omega arith

-- ---- the sum s of four squares, in units, and the exact sum q, in squared units
total_high : (s p q u : ℕ) → 2 ^ 28 * s ≤ (2 ^ 28 + 50) * p → 2 ^ 28 * p ≤ (2 ^ 28 + 50) * q + 2 ^ 28 * (4 * u) → 2 ^ 28 * s ≤ (2 ^ 28 + 101) * q + 2 ^ 28 * (5 * u)
total_high s p q u h k = omega arith

total_low : (s p q u : ℕ) → 2 ^ 28 * p ≤ 2 ^ 28 * s + 48 * p → 2 ^ 28 * q ≤ 2 ^ 28 * p + 48 * q + 2 ^ 28 * (4 * u) → 2 ^ 28 * q ≤ 2 ^ 28 * s + 96 * q + 2 ^ 28 * (4 * u)
total_low s p q u h k = omega arith

-- ---- the root r of that sum, squared
root_high : (r s q u : ℕ) → 2 ^ 23 * r ≤ 2 ^ 23 * s + r → 2 ^ 28 * s ≤ (2 ^ 28 + 101) * q + 2 ^ 28 * (5 * u) → 2 ^ 28 * r ≤ (2 ^ 28 + 134) * q + 2 ^ 28 * (6 * u)
root_high r s q u h k = omega arith

root_low : (r s q u : ℕ) → 2 ^ 23 * s ≤ 2 ^ 23 * r + r → 2 ^ 28 * q ≤ 2 ^ 28 * s + 96 * q + 2 ^ 28 * (4 * u) → 2 ^ 28 * q ≤ (2 ^ 28 + 129) * r + 2 ^ 28 * (5 * u)
root_low r s q u h k = omega arith

-- ---- and the root itself, against any m whose square is no less than q
stretched : (c k r m t q w : ℕ) → c * (r * r) ≤ k * k * q + c * w → c * q ≤ m * m → w ≤ t * t → c * r * (c * r) ≤ (k * m + c * t) * (k * m + c * t)
stretched c k r m t q w h l o =
    let a : c * (r * r) * c ≤ (k * k * q + c * w) * c = mul-le-mul_right c h in
    let b : c * q * (k * k) ≤ m * m * (k * k) = mul-le-mul_right (k * k) l in
    let d : w * (c * c) ≤ t * t * (c * c) = mul-le-mul_right (c * c) o in
    omega (arith, a, b, d)

module _ (r q u t : ℕ) (wide : 6 * u ≤ t * t) where
  length_high : (m : ℕ) → 2 ^ 28 * (r * r) ≤ (2 ^ 28 + 134) * q + 2 ^ 28 * (6 * u) → 2 ^ 56 * q ≤ m * m → 2 ^ 56 * r ≤ (2 ^ 28 + 67) * m + 2 ^ 56 * t
  length_high m h k = sq_back (2 ^ 56 * r) ((2 ^ 28 + 67) * m + 2 ^ 56 * t) (stretched (2 ^ 56) (2 ^ 28 + 67) r m t q (6 * u) (twice (r * r) q (6 * u) h) k wide)
    where
      twice : (x y w : ℕ) → 2 ^ 28 * x ≤ (2 ^ 28 + 134) * y + 2 ^ 28 * w → 2 ^ 56 * x ≤ (2 ^ 28 + 67) * (2 ^ 28 + 67) * y + 2 ^ 56 * w
      twice x y w h = omega arith

  length_low : 2 ^ 28 * q ≤ (2 ^ 28 + 129) * (r * r) + 2 ^ 28 * (5 * u) → 2 ^ 56 * q ≤ ((2 ^ 28 + 65) * r + 2 ^ 28 * t) * ((2 ^ 28 + 65) * r + 2 ^ 28 * t)
  length_low h = omega arith

-- ---- its half e
half_high : (e r m t : ℕ) → 3 ≤ t → 2 ^ 24 * (e * 2) ≤ 2 ^ 24 * r + r + 2 ^ 24 * 2 → 2 ^ 56 * r ≤ (2 ^ 28 + 67) * m + 2 ^ 56 * t → 2 ^ 57 * e ≤ (2 ^ 28 + 84) * m + 2 ^ 57 * t
half_high e r m t T h k = omega arith

half_low : (e r h : ℕ) → 2 ^ 24 * r ≤ 2 ^ 24 * (e * 2) + r + 2 ^ 24 * 2 → e ≤ h → (2 ^ 28 + 65) * r ≤ (2 ^ 28 + 83) * (2 * h + 2)
half_low e r h a b = omega arith

-- ---- from the four differences to the half of the root, one rounded step after another
pub record Squarely (v p u : ℕ) : Type 0 where
  pub z : ℕ
  pub part : Part z v
  pub off : Off p (z * z) u

pub record Measured (v₁ v₂ v₃ v₄ e u : ℕ) : Type 0 where
  pub p₁ : ℕ
  pub p₂ : ℕ
  pub p₃ : ℕ
  pub p₄ : ℕ
  pub s₂ : ℕ
  pub s₃ : ℕ
  pub s₄ : ℕ
  pub r : ℕ
  pub one : Squarely v₁ p₁ u
  pub other : Squarely v₂ p₂ u
  pub third : Squarely v₃ p₃ u
  pub fourth : Squarely v₄ p₄ u
  pub two : Part s₂ (p₁ + p₂)
  pub three : Part s₃ (s₂ + p₃)
  pub four : Part s₄ (s₃ + p₄)
  pub root : Squared r (s₄ * u)
  pub half : Off e r 2

four_high : (a b c d v w x y p q u : ℕ) → 2 ^ 28 * a ≤ (2 ^ 28 + 50) * v + 2 ^ 28 * u → 2 ^ 28 * b ≤ (2 ^ 28 + 50) * w + 2 ^ 28 * u → 2 ^ 28 * c ≤ (2 ^ 28 + 50) * x + 2 ^ 28 * u → 2 ^ 28 * d ≤ (2 ^ 28 + 50) * y + 2 ^ 28 * u
    → p ≡ a + b + c + d → q ≡ v + w + x + y → 2 ^ 28 * p ≤ (2 ^ 28 + 50) * q + 2 ^ 28 * (4 * u)
four_high a b c d v w x y p q u h k l o e f = omega arith

four_low : (a b c d v w x y p q u : ℕ) → 2 ^ 28 * v ≤ 2 ^ 28 * a + 48 * v + 2 ^ 28 * u → 2 ^ 28 * w ≤ 2 ^ 28 * b + 48 * w + 2 ^ 28 * u → 2 ^ 28 * x ≤ 2 ^ 28 * c + 48 * x + 2 ^ 28 * u → 2 ^ 28 * y ≤ 2 ^ 28 * d + 48 * y + 2 ^ 28 * u
    → p ≡ a + b + c + d → q ≡ v + w + x + y → 2 ^ 28 * q ≤ 2 ^ 28 * p + 48 * q + 2 ^ 28 * (4 * u)
four_low a b c d v w x y p q u h k l o e f = omega arith

module _ (v₁ v₂ v₃ v₄ e u t : ℕ) (w : Measured v₁ v₂ v₃ v₄ e u) (wide : 6 * u ≤ t * t) where
  abbrev q : ℕ
  q = squares4 v₁ v₂ v₃ v₄

  abbrev ps : ℕ
  ps = w.p₁ + w.p₂ + w.p₃ + w.p₄

  spread : (a b c d : ℕ) → (a + b + c + d) * u ≡ a * u + b * u + c * u + d * u
  spread a b c d = omega arith

  -- in squared units
  summed_high : 2 ^ 28 * (w.s₄ * u) ≤ (2 ^ 28 + 101) * q + 2 ^ 28 * (5 * u)
  summed_high =
      total_high (w.s₄ * u) (ps * u) q u
      (times w.s₄ ps (mul-le-mul_right u (sum_high w.p₁ w.p₂ w.p₃ w.p₄ w.s₂ w.s₃ w.s₄ w.two w.three w.four)))
      (four_high (w.p₁ * u) (w.p₂ * u) (w.p₃ * u) (w.p₄ * u) (v₁ * v₁) (v₂ * v₂) (v₃ * v₃) (v₄ * v₄) (ps * u) q u (high v₁ w.p₁ w.one) (high v₂ w.p₂ w.other) (high v₃ w.p₃ w.third) (high v₄ w.p₄ w.fourth)
      (spread w.p₁ w.p₂ w.p₃ w.p₄) refl)
    where
      high : (v p : ℕ) → Squarely v p u → 2 ^ 28 * (p * u) ≤ (2 ^ 28 + 50) * (v * v) + 2 ^ 28 * u
      high v p k = square_high v k.z p u k.part k.off

      times : (s p : ℕ) → 2 ^ 28 * s * u ≤ (2 ^ 28 + 50) * p * u → 2 ^ 28 * (s * u) ≤ (2 ^ 28 + 50) * (p * u)
      times s p h = omega (arith, h)

  summed_low : 2 ^ 28 * q ≤ 2 ^ 28 * (w.s₄ * u) + 96 * q + 2 ^ 28 * (4 * u)
  summed_low =
      total_low (w.s₄ * u) (ps * u) q u
      (times w.s₄ ps (mul-le-mul_right u (sum_low w.p₁ w.p₂ w.p₃ w.p₄ w.s₂ w.s₃ w.s₄ w.two w.three w.four)))
      (four_low (w.p₁ * u) (w.p₂ * u) (w.p₃ * u) (w.p₄ * u) (v₁ * v₁) (v₂ * v₂) (v₃ * v₃) (v₄ * v₄) (ps * u) q u (low v₁ w.p₁ w.one) (low v₂ w.p₂ w.other) (low v₃ w.p₃ w.third) (low v₄ w.p₄ w.fourth)
      (spread w.p₁ w.p₂ w.p₃ w.p₄) refl)
    where
      low : (v p : ℕ) → Squarely v p u → 2 ^ 28 * (v * v) ≤ 2 ^ 28 * (p * u) + 48 * (v * v) + 2 ^ 28 * u
      low v p k = square_low v k.z p u k.part k.off

      times : (s p : ℕ) → 2 ^ 28 * p * u ≤ (2 ^ 28 * s + 48 * p) * u → 2 ^ 28 * (p * u) ≤ 2 ^ 28 * (s * u) + 48 * (p * u)
      times s p h = omega (arith, h)

  -- no more than the exact one, but for the errors
  pub measured_high : (m : ℕ) → 3 ≤ t → 2 ^ 56 * q ≤ m * m → 2 ^ 57 * e ≤ (2 ^ 28 + 84) * m + 2 ^ 57 * t
  measured_high m T h =
      half_high e w.r m t T (off_high e w.r 2 w.half) (length_high w.r q u t wide m (root_high (w.r * w.r) (w.s₄ * u) q u w.root.0 summed_high) h)

  -- and no less
  pub measured_low : (h : ℕ) → e ≤ h → 2 ^ 56 * q ≤ ((2 ^ 28 + 83) * (2 * h + 2) + 2 ^ 28 * t) * ((2 ^ 28 + 83) * (2 * h + 2) + 2 ^ 28 * t)
  measured_low h l =
      le_trans (length_low w.r q u t wide (root_low (w.r * w.r) (w.s₄ * u) q u w.root.1 summed_low))
      (sq_le ((2 ^ 28 + 65) * w.r + 2 ^ 28 * t) ((2 ^ 28 + 83) * (2 * h + 2) + 2 ^ 28 * t) (more w.r (half_low e w.r h (off_low e w.r 2 w.half) l)))
    where
      more : (r : ℕ) → (2 ^ 28 + 65) * r ≤ (2 ^ 28 + 83) * (2 * h + 2) → (2 ^ 28 + 65) * r + 2 ^ 28 * t ≤ (2 ^ 28 + 83) * (2 * h + 2) + 2 ^ 28 * t
      more r k = omega arith
