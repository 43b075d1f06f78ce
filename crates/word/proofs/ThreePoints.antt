-- Three points on a straight way, over whole numbers: the mix of what stands at the first and at the third is what stands at the second, but for the errors of four mixes. Assumes nothing.
use mathlib.Core.Path.{◌≡◌, subst}
use Prim.Native.Nat.{ℕ, ◌+◌, ◌*◌, ◌^◌, ◌≤◌, ◌<◌}
use native.Mathlib.Nat.{mul_assoc, mul-pos, mul-le-mul_right, le_of_mul-le-mul_right}
use native.Mathlib.Omega.{arith}

-- how a mix g of two numbers b and c lies, a of the way come and r of it left: off by no more than 2 ^ -16
pub record Line (g b c a r u : ℕ) : Type 0 where
  pub high : 2 ^ 16 * (g * (a + r)) ≤ 2 ^ 16 * (b * r + c * a) + u * (a + r)
  pub low : 2 ^ 16 * (b * r + c * a) ≤ 2 ^ 16 * (g * (a + r)) + u * (a + r)

-- a straight way from b to c: a come to the first point, s from there to the second, r to the third, d left. The mix of what stands at the first point and at the third is what stands at the second, but for the errors
exact : (b c a s r d : ℕ) → (b * (r + d) + c * (a + s)) * (s + r) ≡ (b * (s + r + d) + c * a) * r + (b * d + c * (a + s + r)) * s
exact b c a s r d = omega arith

shared : (a s r d u : ℕ) → u * (a + (s + r + d)) * r + u * (a + s + r + d) * s ≡ u * ((a + s + r + d) * (s + r))
shared a s r d u = omega arith

ends : (f k a s r d : ℕ) → (f * r + k * s) * (a + s + r + d) ≡ f * (a + (s + r + d)) * r + k * (a + s + r + d) * s
ends f k a s r d = omega arith

widened : (x y u l k : ℕ) → 2 ^ 16 * x ≤ 2 ^ 16 * y + u * l → 2 ^ 16 * (x * k) ≤ 2 ^ 16 * (y * k) + u * l * k
widened x y u l k h = let m = mul-le-mul_right k h in omega (arith, m)

module _ (b c a s r d u g f k m : ℕ) (at_second : Line g b c (a + s) (r + d) u) (at_first : Line f b c a (s + r + d) u) (at_third : Line k b c (a + s + r) d u) (mix : Line m f k s r u) (pos : 0 < s + r) where
  all : 0 < (a + s + r + d) * (s + r)
  all = mul-pos (some a s r d pos) pos
    where
      some : (a s r d : ℕ) → 0 < s + r → 0 < a + s + r + d
      some a s r d h = omega arith

  flat : (x y t p q v w e i j k : ℕ) → 2 ^ 16 * x ≤ 2 ^ 16 * t + e → 2 ^ 16 * (p + q) ≤ 2 ^ 16 * y + k → 2 ^ 16 * v ≤ 2 ^ 16 * p + i → 2 ^ 16 * w ≤ 2 ^ 16 * q + j → t ≡ v + w → i + j ≡ e → k ≡ e → 2 ^ 16 * x ≤ 2 ^ 16 * y + 3 * e
  flat x y t p q v w e i j k h l m n o z o' = omega arith

  flat' : (x y t p q v w e i j k : ℕ) → 2 ^ 16 * t ≤ 2 ^ 16 * x + e → 2 ^ 16 * y ≤ 2 ^ 16 * (p + q) + k → 2 ^ 16 * p ≤ 2 ^ 16 * v + i → 2 ^ 16 * q ≤ 2 ^ 16 * w + j → t ≡ v + w → i + j ≡ e → k ≡ e → 2 ^ 16 * y ≤ 2 ^ 16 * x + 3 * e
  flat' x y t p q v w e i j k h l m n o z o' = omega arith

  swap : (u l n : ℕ) → u * n * l ≡ u * (l * n)
  swap u l n = omega arith

  gather : (x y n l : ℕ) → 2 ^ 16 * (x * l * n) ≤ 2 ^ 16 * (y * n * l) + 3 * (u * (l * n)) → 2 ^ 16 * x * (l * n) ≤ (2 ^ 16 * y + 3 * u) * (l * n)
  gather x y n l h = omega (arith, h)

  gather' : (x y n l : ℕ) → 2 ^ 16 * (y * n * l) ≤ 2 ^ 16 * (x * l * n) + 3 * (u * (l * n)) → 2 ^ 16 * y * (l * n) ≤ (2 ^ 16 * x + 3 * u) * (l * n)
  gather' x y n l h = omega (arith, h)

  second : (a + s) + (r + d) ≡ a + s + r + d
  second = omega arith

  pub straight : (2 ^ 16 * g ≤ 2 ^ 16 * m + 3 * u) × (2 ^ 16 * m ≤ 2 ^ 16 * g + 3 * u)
  straight =
      let l = a + s + r + d in
      let n = s + r in
      let e : u * l * n ≡ u * (l * n) = mul_assoc u l n in
      let h : 2 ^ 16 * (g * l) ≤ 2 ^ 16 * (b * (r + d) + c * (a + s)) + u * l = subst (λ (x : ℕ). 2 ^ 16 * (g * x) ≤ 2 ^ 16 * (b * (r + d) + c * (a + s)) + u * x) second at_second.high in
      let o : 2 ^ 16 * (b * (r + d) + c * (a + s)) ≤ 2 ^ 16 * (g * l) + u * l = subst (λ (x : ℕ). 2 ^ 16 * (b * (r + d) + c * (a + s)) ≤ 2 ^ 16 * (g * x) + u * x) second at_second.low in (
        le_of_mul-le-mul_right {k = l * n}
            (gather g m n l
            (flat (g * l * n) (m * n * l) ((b * (r + d) + c * (a + s)) * n) (f * (a + (n + d)) * r) (k * l * s) ((b * (n + d) + c * a) * r) ((b * d + c * (a + s + r)) * s) (u * (l * n)) (u * (a + (n + d)) * r) (u * l * s) (u * n * l)
            (subst (λ (x : ℕ). 2 ^ 16 * (g * l * n) ≤ 2 ^ 16 * ((b * (r + d) + c * (a + s)) * n) + x) e (widened (g * l) (b * (r + d) + c * (a + s)) u l n h))
            (subst (λ (x : ℕ). 2 ^ 16 * x ≤ 2 ^ 16 * (m * n * l) + u * n * l) (ends f k a s r d) (widened (f * r + k * s) (m * n) u n l mix.low))
            (widened (b * (n + d) + c * a) (f * (a + (n + d))) u (a + (n + d)) r at_first.low) (widened (b * d + c * (a + s + r)) (k * l) u l s at_third.low) (exact b c a s r d) (shared a s r d u) (swap u l n))) all,
        le_of_mul-le-mul_right {k = l * n}
            (gather' g m n l
            (flat' (g * l * n) (m * n * l) ((b * (r + d) + c * (a + s)) * n) (f * (a + (n + d)) * r) (k * l * s) ((b * (n + d) + c * a) * r) ((b * d + c * (a + s + r)) * s) (u * (l * n)) (u * (a + (n + d)) * r) (u * l * s) (u * n * l)
            (subst (λ (x : ℕ). 2 ^ 16 * ((b * (r + d) + c * (a + s)) * n) ≤ 2 ^ 16 * (g * l * n) + x) e (widened (b * (r + d) + c * (a + s)) (g * l) u l n o))
            (subst (λ (x : ℕ). 2 ^ 16 * (m * n * l) ≤ 2 ^ 16 * x + u * n * l) (ends f k a s r d) (widened (m * n) (f * r + k * s) u n l mix.high))
            (widened (f * (a + (n + d))) (b * (n + d) + c * a) u (a + (n + d)) r at_first.high) (widened (k * l) (b * d + c * (a + s + r)) u l s at_third.high) (exact b c a s r d) (shared a s r d u) (swap u l n))) all,
      )
