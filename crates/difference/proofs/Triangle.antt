-- The triangle inequality of four channels, over whole numbers: where the squares from a to b add up to no more than m², and those from b to c to no more than n², those from a to c do to no more than (m + n)².
-- There are no roots here. Assumes nothing.
use mathlib.Core.Path.{◌≡◌, subst}
use Prim.Native.Nat.{ℕ, suc, ◌+◌, ◌-◌, ◌*◌, ◌≤◌, ◌<◌}
use native.Mathlib.Nat.{le_refl, le_dest, lt_of_not-le, not-le_of_lt, mul-pos, mul-le-mul, mul-le-mul_right, le_of_mul-le-mul_right}
use native.Mathlib.Decide.{dec_le}
use native.Mathlib.Omega.{arith}
use Rattle.float.proofs.RoundOff.{gap}

-- ---- squares
pub sq_le : (a b : ℕ) → a ≤ b → a * a ≤ b * b
sq_le a b h = mul-le-mul h h

sq_lt : (a b : ℕ) → a < b → a * a < b * b
sq_lt a b l = let d = le_dest l in subst (λ (x : ℕ). a * a < x * x) d.1 (omega arith)

pub sq_back : (a b : ℕ) → a * a ≤ b * b → a ≤ b
sq_back a b h = go (dec_le a b)
  where
    go : Dec (a ≤ b) → a ≤ b
    go (yes l) = l
    go (no f) = absurd (not-le_of_lt (sq_lt b a (lt_of_not-le f)) h)

-- twice a product is no more than the two squares
twice : (a b : ℕ) → 2 * (a * b) ≤ a * a + b * b
twice a b = go (dec_le a b)
  where
    less : (a d : ℕ) → 2 * (a * (a + d)) ≤ a * a + (a + d) * (a + d)
    less a d = omega arith

    more : (b d : ℕ) → 2 * ((b + d) * b) ≤ (b + d) * (b + d) + b * b
    more b d = omega arith

    go : Dec (a ≤ b) → 2 * (a * b) ≤ a * a + b * b
    go (yes l) = let d = le_dest l in subst (λ (x : ℕ). 2 * (a * x) ≤ a * a + x * x) d.1 (less a d.0)
    go (no f) = let d = le_dest (lt_of_not-le f) in subst (λ (x : ℕ). 2 * (x * b) ≤ x * x + b * b) (back b a d.0 d.1) (more b (a - b))
      where
        back : (b a k : ℕ) → suc b + k ≡ a → b + (a - b) ≡ a
        back b a k e = omega arith

-- ---- one channel
pub gap_triangle : (a b c : ℕ) → gap a c ≤ gap a b + gap b c
gap_triangle a b c = omega arith

channel : (u v w m n : ℕ) → w ≤ u + v → m * n * (w * w) ≤ (m + n) * (n * (u * u) + m * (v * v))
channel u v w m n h =
    let a : m * n * (w * w) ≤ m * n * ((u + v) * (u + v)) = mul-le-mul (le_refl (m * n)) (sq_le w (u + v) h) in
    let b = twice (n * u) (m * v) in
    omega (arith, a, b)

-- ---- four
abbrev pub squares4 : ℕ → ℕ → ℕ → ℕ → ℕ
squares4 a b c d = a * a + b * b + c * c + d * d

joined : (k l m n x₁ x₂ x₃ x₄ y₁ y₂ y₃ y₄ z₁ z₂ z₃ z₄ : ℕ) → k * z₁ ≤ l * (n * x₁ + m * y₁) → k * z₂ ≤ l * (n * x₂ + m * y₂) → k * z₃ ≤ l * (n * x₃ + m * y₃) → k * z₄ ≤ l * (n * x₄ + m * y₄)
    → k * (z₁ + z₂ + z₃ + z₄) ≤ l * (n * (x₁ + x₂ + x₃ + x₄) + m * (y₁ + y₂ + y₃ + y₄))
joined k l m n x₁ x₂ x₃ x₄ y₁ y₂ y₃ y₄ z₁ z₂ z₃ z₄ a b c d = omega arith

-- scaled by s, as the errors are
pub triangle : (s u₁ u₂ u₃ u₄ v₁ v₂ v₃ v₄ w₁ w₂ w₃ w₄ m n : ℕ) → w₁ ≤ u₁ + v₁ → w₂ ≤ u₂ + v₂ → w₃ ≤ u₃ + v₃ → w₄ ≤ u₄ + v₄ → 0 < m → 0 < n
    → s * squares4 u₁ u₂ u₃ u₄ ≤ m * m → s * squares4 v₁ v₂ v₃ v₄ ≤ n * n → s * squares4 w₁ w₂ w₃ w₄ ≤ (m + n) * (m + n)
triangle s u₁ u₂ u₃ u₄ v₁ v₂ v₃ v₄ w₁ w₂ w₃ w₄ m n h₁ h₂ h₃ h₄ M N p q =
    let P = squares4 u₁ u₂ u₃ u₄ in
    let Q = squares4 v₁ v₂ v₃ v₄ in
    let W = squares4 w₁ w₂ w₃ w₄ in
    let a : m * n * W ≤ (m + n) * (n * P + m * Q) =
    joined (m * n) (m + n) m n (u₁ * u₁) (u₂ * u₂) (u₃ * u₃) (u₄ * u₄) (v₁ * v₁) (v₂ * v₂) (v₃ * v₃) (v₄ * v₄) (w₁ * w₁) (w₂ * w₂) (w₃ * w₃) (w₄ * w₄)
    (channel u₁ v₁ w₁ m n h₁) (channel u₂ v₂ w₂ m n h₂) (channel u₃ v₃ w₃ m n h₃) (channel u₄ v₄ w₄ m n h₄) in
    le_of_mul-le-mul_right {k = m * n} (scaled s P Q W m n a p q) (mul-pos M N)
  where
    scaled : (s P Q W m n : ℕ) → m * n * W ≤ (m + n) * (n * P + m * Q) → s * P ≤ m * m → s * Q ≤ n * n → s * W * (m * n) ≤ (m + n) * (m + n) * (m * n)
    scaled s P Q W m n a p q =
        let b : m * n * W * s ≤ (m + n) * (n * P + m * Q) * s = mul-le-mul_right s a in
        let c : s * P * ((m + n) * n) ≤ m * m * ((m + n) * n) = mul-le-mul_right ((m + n) * n) p in
        let d : s * Q * ((m + n) * m) ≤ n * n * ((m + n) * m) = mul-le-mul_right ((m + n) * m) q in
        omega (arith, b, c, d)
