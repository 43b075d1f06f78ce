-- How far the rounded steps of a mix a + x·(b - a), with x = (t - p) / (q - p), can lead from the exact one, over whole numbers: u units are 1, t lies τ units after p and σ before q, and d = τ + σ.
-- An error of 16 in 2 ^ 28 is that of one operation. Assumes nothing.
use mathlib.Core.Path.{◌≡◌, sym, subst}
use Prim.Native.Nat.{ℕ, ◌+◌, ◌-◌, ◌*◌, ◌^◌, ◌≤◌, ◌<◌}
use native.Mathlib.Nat.{mul-le-mul_right, le_of_mul-le-mul_right}
use native.Mathlib.Omega.{arith}
use Rattle.float.proofs.RoundOff.{Part, Off, off_high, off_low, gap}
use Rattle.float.proofs.OperationsOff.{gap_times}

-- ---- the share x: two differences and their quotient
share_high : (xd xz zu τu z d : ℕ) → (2 ^ 24 - 1) * xd ≤ 2 ^ 24 * xz → 2 ^ 24 * xz ≤ 2 ^ 24 * zu + zu + 2 ^ 24 * z → 2 ^ 24 * zu ≤ 2 ^ 24 * τu + τu → 2 ^ 24 * z ≤ 2 ^ 24 * d + d
    → 2 ^ 28 * xd ≤ (2 ^ 28 + 50) * τu + 2 ^ 29 * d
share_high xd xz zu τu z d h k l o = all (over (quotient k l))
  where
    quotient : 2 ^ 24 * xz ≤ 2 ^ 24 * zu + zu + 2 ^ 24 * z → 2 ^ 24 * zu ≤ 2 ^ 24 * τu + τu → 2 ^ 28 * xz ≤ (2 ^ 28 + 33) * τu + 2 ^ 28 * z
    quotient h k = omega (arith, h, k)

    over : 2 ^ 28 * xz ≤ (2 ^ 28 + 33) * τu + 2 ^ 28 * z → 2 ^ 28 * xd ≤ (2 ^ 28 + 50) * τu + (2 ^ 28 + 17) * z
    over k = omega (arith, h, k)

    all : 2 ^ 28 * xd ≤ (2 ^ 28 + 50) * τu + (2 ^ 28 + 17) * z → 2 ^ 28 * xd ≤ (2 ^ 28 + 50) * τu + 2 ^ 29 * d
    all k = omega (arith, o, k)

share_low : (xd xz zu τu z d : ℕ) → (2 ^ 24 - 1) * τu ≤ 2 ^ 24 * zu → 2 ^ 24 * zu ≤ 2 ^ 24 * xz + zu + 2 ^ 24 * z → 2 ^ 24 * xz ≤ 2 ^ 24 * xd + xd → 2 ^ 24 * z ≤ 2 ^ 24 * d + d
    → 2 ^ 28 * τu ≤ 2 ^ 28 * xd + 50 * τu + 2 ^ 29 * d
share_low xd xz zu τu z d h k l o = omega arith

-- ---- the product y of the share and of the difference
product_high : (X Y Z W O : ℕ) → 2 ^ 24 * X ≤ 2 ^ 24 * Y + Y + 2 ^ 24 * O → 2 ^ 24 * Y ≤ 2 ^ 24 * Z + Z → 2 ^ 28 * Z ≤ (2 ^ 28 + 50) * W + 2 ^ 29 * O → 2 ^ 28 * X ≤ (2 ^ 28 + 84) * W + 2 ^ 30 * O
product_high X Y Z W O h k l = last (first k l)
  where
    first : 2 ^ 24 * Y ≤ 2 ^ 24 * Z + Z → 2 ^ 28 * Z ≤ (2 ^ 28 + 50) * W + 2 ^ 29 * O → 2 ^ 28 * Y ≤ (2 ^ 28 + 67) * W + (2 ^ 29 + 64) * O
    first k l = omega (arith, k, l)

    last : 2 ^ 28 * Y ≤ (2 ^ 28 + 67) * W + (2 ^ 29 + 64) * O → 2 ^ 28 * X ≤ (2 ^ 28 + 84) * W + 2 ^ 30 * O
    last k = omega (arith, h, k)

product_low : (X Y Z W O : ℕ) → 2 ^ 24 * Y ≤ 2 ^ 24 * X + Y + 2 ^ 24 * O → (2 ^ 24 - 1) * Z ≤ 2 ^ 24 * Y → 2 ^ 28 * W ≤ 2 ^ 28 * Z + 50 * W + 2 ^ 29 * O → 2 ^ 28 * W ≤ 2 ^ 28 * X + 84 * W + 2 ^ 30 * O
product_low X Y Z W O h k l = last (first k l)
  where
    first : (2 ^ 24 - 1) * Z ≤ 2 ^ 24 * Y → 2 ^ 28 * W ≤ 2 ^ 28 * Z + 50 * W + 2 ^ 29 * O → 2 ^ 28 * W ≤ 2 ^ 28 * Y + 67 * W + (2 ^ 29 + 64) * O
    first k l = omega (arith, k, l)

    last : 2 ^ 28 * W ≤ 2 ^ 28 * Y + 67 * W + (2 ^ 29 + 64) * O → 2 ^ 28 * W ≤ 2 ^ 28 * X + 84 * W + 2 ^ 30 * O
    last k = omega (arith, h, k)

part_low : (z v : ℕ) → 2 ^ 24 * v ≤ 2 ^ 24 * z + v → (2 ^ 24 - 1) * v ≤ 2 ^ 24 * z
part_low z v h = omega arith

-- what is known of the steps up to the product
pub record Steps (u τ d g y : ℕ) : Type 0 where
  pub z₁ : ℕ
  pub z₂ : ℕ
  pub z₃ : ℕ
  pub x : ℕ
  pub come : Part z₁ τ
  pub all : Part z₂ d
  pub share : Off x (z₁ * u) z₂
  pub apart : Part z₃ g
  pub product : Off y (x * z₃) u

module _ (u τ d g y : ℕ) (w : Steps u τ d g y) (some : 0 < u) (less : g ≤ u) where
  abbrev x : ℕ
  x = w.x

  times : (c a e b k : ℕ) → c * a ≤ e * b → c * (a * k) ≤ e * (b * k)
  times c a e b k h = let m : c * a * k ≤ e * b * k = mul-le-mul_right k h in omega (arith, m)

  times₂ : (c a b k : ℕ) → c * a ≤ c * b + b → c * (a * k) ≤ c * (b * k) + b * k
  times₂ c a b k h = let m : c * a * k ≤ (c * b + b) * k = mul-le-mul_right k h in omega (arith, m)

  x_high : 2 ^ 28 * (x * d) ≤ (2 ^ 28 + 50) * (τ * u) + 2 ^ 29 * d
  x_high =
      share_high (x * d) (x * w.z₂) (w.z₁ * u) (τ * u) w.z₂ d
      (turned (times (2 ^ 24 - 1) d (2 ^ 24) w.z₂ x (part_low w.z₂ d w.all.1)))
      (off_high x (w.z₁ * u) w.z₂ w.share) (times₂ (2 ^ 24) w.z₁ τ u w.come.0) w.all.0
    where
      turned : (2 ^ 24 - 1) * (d * x) ≤ 2 ^ 24 * (w.z₂ * x) → (2 ^ 24 - 1) * (x * d) ≤ 2 ^ 24 * (x * w.z₂)
      turned h = omega (arith, h)

  x_low : 2 ^ 28 * (τ * u) ≤ 2 ^ 28 * (x * d) + 50 * (τ * u) + 2 ^ 29 * d
  x_low =
      share_low (x * d) (x * w.z₂) (w.z₁ * u) (τ * u) w.z₂ d
      (times (2 ^ 24 - 1) τ (2 ^ 24) w.z₁ u (part_low w.z₁ τ w.come.1))
      (off_low x (w.z₁ * u) w.z₂ w.share) (turned (times₂ (2 ^ 24) w.z₂ d x w.all.0)) w.all.0
    where
      turned : 2 ^ 24 * (w.z₂ * x) ≤ 2 ^ 24 * (d * x) + d * x → 2 ^ 24 * (x * w.z₂) ≤ 2 ^ 24 * (x * d) + x * d
      turned h = omega (arith, h)

  -- y·u·d, x·z₃·d, x·d·g, τ·u·g and u·d
  abbrev X : ℕ
  X = y * u * d

  abbrev Y : ℕ
  Y = x * w.z₃ * d

  abbrev Z : ℕ
  Z = x * d * g

  abbrev W : ℕ
  W = τ * u * g

  dg : d * g ≤ u * d
  dg = let m : g * d ≤ u * d = mul-le-mul_right d less in omega (arith, m)

  y_high : 2 ^ 28 * (y * d) ≤ (2 ^ 28 + 84) * (τ * g) + 2 ^ 30 * d
  y_high =
      le_of_mul-le-mul_right {k = u}
      (by_u (product_high X Y Z W (u * d) (one (off_high y (x * w.z₃) u w.product)) (two w.apart.0) (three x_high))) some
    where
      one : 2 ^ 24 * (y * u) ≤ 2 ^ 24 * (x * w.z₃) + x * w.z₃ + 2 ^ 24 * u → 2 ^ 24 * X ≤ 2 ^ 24 * Y + Y + 2 ^ 24 * (u * d)
      one h = let m : 2 ^ 24 * (y * u) * d ≤ (2 ^ 24 * (x * w.z₃) + x * w.z₃ + 2 ^ 24 * u) * d = mul-le-mul_right d h in omega (arith, m)

      two : 2 ^ 24 * w.z₃ ≤ 2 ^ 24 * g + g → 2 ^ 24 * Y ≤ 2 ^ 24 * Z + Z
      two h = let m : 2 ^ 24 * w.z₃ * (x * d) ≤ (2 ^ 24 * g + g) * (x * d) = mul-le-mul_right (x * d) h in omega (arith, m)

      three : 2 ^ 28 * (x * d) ≤ (2 ^ 28 + 50) * (τ * u) + 2 ^ 29 * d → 2 ^ 28 * Z ≤ (2 ^ 28 + 50) * W + 2 ^ 29 * (u * d)
      three h = let m : 2 ^ 28 * (x * d) * g ≤ ((2 ^ 28 + 50) * (τ * u) + 2 ^ 29 * d) * g = mul-le-mul_right g h in omega (arith, m, dg)

      by_u : 2 ^ 28 * X ≤ (2 ^ 28 + 84) * W + 2 ^ 30 * (u * d) → 2 ^ 28 * (y * d) * u ≤ ((2 ^ 28 + 84) * (τ * g) + 2 ^ 30 * d) * u
      by_u h = omega (arith, h)

  y_low : 2 ^ 28 * (τ * g) ≤ 2 ^ 28 * (y * d) + 84 * (τ * g) + 2 ^ 30 * d
  y_low =
      le_of_mul-le-mul_right {k = u}
      (by_u (product_low X Y Z W (u * d) (one (off_low y (x * w.z₃) u w.product)) (two (part_low w.z₃ g w.apart.1)) (three x_low))) some
    where
      one : 2 ^ 24 * (x * w.z₃) ≤ 2 ^ 24 * (y * u) + x * w.z₃ + 2 ^ 24 * u → 2 ^ 24 * Y ≤ 2 ^ 24 * X + Y + 2 ^ 24 * (u * d)
      one h = let m : 2 ^ 24 * (x * w.z₃) * d ≤ (2 ^ 24 * (y * u) + x * w.z₃ + 2 ^ 24 * u) * d = mul-le-mul_right d h in omega (arith, m)

      two : (2 ^ 24 - 1) * g ≤ 2 ^ 24 * w.z₃ → (2 ^ 24 - 1) * Z ≤ 2 ^ 24 * Y
      two h = let m : (2 ^ 24 - 1) * g * (x * d) ≤ 2 ^ 24 * w.z₃ * (x * d) = mul-le-mul_right (x * d) h in omega (arith, m)

      three : 2 ^ 28 * (τ * u) ≤ 2 ^ 28 * (x * d) + 50 * (τ * u) + 2 ^ 29 * d → 2 ^ 28 * W ≤ 2 ^ 28 * Z + 50 * W + 2 ^ 29 * (u * d)
      three h = let m : 2 ^ 28 * (τ * u) * g ≤ (2 ^ 28 * (x * d) + 50 * (τ * u) + 2 ^ 29 * d) * g = mul-le-mul_right g h in omega (arith, m, dg)

      by_u : 2 ^ 28 * W ≤ 2 ^ 28 * X + 84 * W + 2 ^ 30 * (u * d) → 2 ^ 28 * (τ * g) * u ≤ (2 ^ 28 * (y * d) + 84 * (τ * g) + 2 ^ 30 * d) * u
      by_u h = omega (arith, h)

-- ---- the sum: a and b in units, r what comes out
-- the product is off by this much, over d
abbrev pub Mixed : ℕ → ℕ → ℕ → ℕ → ℕ → ℕ → Type 0
Mixed u τ σ a b r = 2 ^ 28 * gap (r * (τ + σ)) (a * σ + b * τ) ≤ 102 * (u * (τ + σ))

-- rd for the sum e, which is off as the product yd is for τg
sum_near : (rd e m yd τg ud d : ℕ) → 2 ^ 24 * rd ≤ 2 ^ 24 * e + e → 2 ^ 24 * e ≤ 2 ^ 24 * rd + e → gap e m ≤ gap yd τg → 2 ^ 28 * yd ≤ (2 ^ 28 + 84) * τg + 2 ^ 30 * d → 2 ^ 28 * τg ≤ 2 ^ 28 * yd + 84 * τg + 2 ^ 30 * d
    → m ≤ ud → τg ≤ ud → 2 ^ 31 * d ≤ ud → 2 ^ 28 * gap rd m ≤ 102 * ud
sum_near rd e m yd τg ud d h k near a b l o q = close (gap rd m) (gap rd e) (gap e m) (gap yd τg) near (product_off a b) (sum_off h k) (way rd e m) (more e m)
  where
    product_off : 2 ^ 28 * yd ≤ (2 ^ 28 + 84) * τg + 2 ^ 30 * d → 2 ^ 28 * τg ≤ 2 ^ 28 * yd + 84 * τg + 2 ^ 30 * d → 2 ^ 28 * gap yd τg ≤ 84 * τg + 2 ^ 30 * d
    product_off h k = omega (arith, h, k)

    sum_off : 2 ^ 24 * rd ≤ 2 ^ 24 * e + e → 2 ^ 24 * e ≤ 2 ^ 24 * rd + e → 2 ^ 24 * gap rd e ≤ e
    sum_off h k = omega (arith, h, k)

    way : (a b c : ℕ) → gap a c ≤ gap a b + gap b c
    way a b c = omega arith

    more : (a b : ℕ) → a ≤ b + gap a b
    more a b = omega arith

    close : (A B C D : ℕ) → C ≤ D → 2 ^ 28 * D ≤ 84 * τg + 2 ^ 30 * d → 2 ^ 24 * B ≤ e → A ≤ B + C → e ≤ m + C → 2 ^ 28 * A ≤ 102 * ud
    close A B C D j n s t v = omega (arith, j, n, s, t, v, l, o, q)

module _ (u τ σ g y : ℕ) (w : Steps u τ (τ + σ) g y) (some : 0 < u) (wide : 2 ^ 31 ≤ u) where
  abbrev d : ℕ
  d = τ + σ

  parted : (r e : ℕ) → Part r e → (2 ^ 24 * (r * d) ≤ 2 ^ 24 * (e * d) + e * d) × (2 ^ 24 * (e * d) ≤ 2 ^ 24 * (r * d) + e * d)
  parted r e h =
      let m = mul-le-mul_right d h.0 in
      let n = mul-le-mul_right d h.1 in
      (omega (arith, m), omega (arith, n))

  under : (k : ℕ) → k ≤ u → k * d ≤ u * d
  under k h = mul-le-mul_right d h

  near : (r e m : ℕ) → g ≤ u → Part r e → gap (e * d) m ≤ gap (y * d) (τ * g) → m ≤ u * d → 2 ^ 28 * gap (r * d) m ≤ 102 * (u * d)
  near r e m l h k o =
      let p = parted r e h in
      sum_near (r * d) (e * d) m (y * d) (τ * g) (u * d) d p.0 p.1 k (y_high u τ d g y w some l) (y_low u τ d g y w some l) o
      (some_way (under g l)) (mul-le-mul_right d wide)
    where
      some_way : g * (τ + σ) ≤ u * (τ + σ) → τ * g ≤ u * (τ + σ)
      some_way h = omega (arith, h)

  -- up from a to a + g
  pub mixed_up : (a r : ℕ) → a + g ≤ u → Part r (a + y) → Mixed u τ σ a (a + g) r
  mixed_up a r l h = near r (a + y) (a * σ + (a + g) * τ) (omega arith) h (omega arith) (most (under (a + g) l))
    where
      most : (a + g) * (τ + σ) ≤ u * (τ + σ) → a * σ + (a + g) * τ ≤ u * (τ + σ)
      most h = omega (arith, h)

  -- down from b + g to b
  pub mixed_down : (b r : ℕ) → b + g ≤ u → Part r (gap (b + g) y) → Mixed u τ σ (b + g) b r
  mixed_down b r l h =
      near r (gap (b + g) y) ((b + g) * σ + b * τ) (omega arith) h
      (subst (λ (k : ℕ). gap k ((b + g) * σ + b * τ) ≤ gap (y * d) (τ * g)) (sym (gap_times (b + g) y d)) (turned ((b + g) * d) (y * d) (τ * g) ((b + g) * σ + b * τ) (omega arith))) (most (under (b + g) l))
    where
      most : (b + g) * (τ + σ) ≤ u * (τ + σ) → (b + g) * σ + b * τ ≤ u * (τ + σ)
      most h = omega (arith, h)

      turned : (ad yd τg m : ℕ) → ad ≡ m + τg → gap (gap ad yd) m ≤ gap yd τg
      turned ad yd τg m e = omega arith
