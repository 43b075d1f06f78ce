-- Differences in a row: what is measured from the first colour to the last is no more than what is measured on the way, but for the errors. Over whole numbers. Assumes nothing.
use Prim.Native.Nat.{ℕ, ◌+◌, ◌*◌, ◌^◌, ◌≤◌, ◌<◌}
use native.Mathlib.Nat.{le_refl}
use native.Mathlib.Omega.{arith}
use Rattle.float.proofs.RoundOff.{gap}
use Rattle.difference.proofs.Triangle.{squares4, triangle, gap_triangle}
use Rattle.difference.proofs.Errors.{Measured, measured_high, measured_low}

-- the four channels of a colour, in units
pub record Four : Type 0 where
  pub r : ℕ
  pub g : ℕ
  pub b : ℕ
  pub a : ℕ

-- e is what is measured from x to y
abbrev pub Leg : Four → Four → ℕ → ℕ → Type 0
Leg x y e u = Measured (gap x.r y.r) (gap x.g y.g) (gap x.b y.b) (gap x.a y.a) e u

abbrev squares_between : Four → Four → ℕ
squares_between x y = squares4 (gap x.r y.r) (gap x.g y.g) (gap x.b y.b) (gap x.a y.a)

-- no more than h is measured, so the exact difference is no more than this, scaled by 2 ^ 28
abbrev bound : ℕ → ℕ → ℕ
bound h t = (2 ^ 28 + 83) * (2 * h + 2) + 2 ^ 28 * t

some : (h t : ℕ) → 0 < bound h t
some h t = omega arith

way : (x y z : Four) (m n : ℕ) → 0 < m → 0 < n → 2 ^ 56 * squares_between x y ≤ m * m → 2 ^ 56 * squares_between y z ≤ n * n → 2 ^ 56 * squares_between x z ≤ (m + n) * (m + n)
way x y z m n M N h k =
    triangle (2 ^ 56) _ _ _ _ _ _ _ _ _ _ _ _ m n
    (gap_triangle x.r y.r z.r) (gap_triangle x.g y.g z.g) (gap_triangle x.b y.b z.b) (gap_triangle x.a y.a z.a) M N h k

module _ (u t : ℕ) (wide : 6 * u ≤ t * t) (large : 1000 ≤ t) where
  exact : (x y : Four) (e h : ℕ) → Leg x y e u → e ≤ h → 2 ^ 56 * squares_between x y ≤ bound h t * bound h t
  exact x y e h w l = measured_low _ _ _ _ e u t w wide h l

  three : 3 ≤ t
  three = omega arith

  pub two_legs : (x y z : Four) (e₁ e₂ e h s : ℕ) → Leg x y e₁ u → Leg y z e₂ u → Leg x z e u → e₁ ≤ h → e₂ ≤ s → 2 ^ 28 * e ≤ (2 ^ 28 + 168) * (h + s) + 3 * 2 ^ 28 * t
  two_legs x y z e₁ e₂ e h s w₁ w₂ w l₁ l₂ =
      added (bound h t) (bound s t)
      (measured_high _ _ _ _ e u t w wide (bound h t + bound s t) three (way x y z (bound h t) (bound s t) (some h t) (some s t) (exact x y e₁ h w₁ l₁) (exact y z e₂ s w₂ l₂)))
      (le_refl (bound h t)) (le_refl (bound s t))
    where
      added : (m n : ℕ) → 2 ^ 57 * e ≤ (2 ^ 28 + 84) * (m + n) + 2 ^ 57 * t → m ≤ bound h t → n ≤ bound s t → 2 ^ 28 * e ≤ (2 ^ 28 + 168) * (h + s) + 3 * 2 ^ 28 * t
      added m n a b c = omega arith

  pub three_legs : (x y z o : Four) (e₁ e₂ e₃ e h s k : ℕ) → Leg x y e₁ u → Leg y z e₂ u → Leg z o e₃ u → Leg x o e u → e₁ ≤ h → e₂ ≤ s → e₃ ≤ k → 2 ^ 28 * e ≤ (2 ^ 28 + 168) * (h + s + k) + 3 * 2 ^ 28 * t
  three_legs x y z o e₁ e₂ e₃ e h s k w₁ w₂ w₃ w l₁ l₂ l₃ =
      let m = bound h t in
      let n = bound s t in
      let p = bound k t in
      added m n p
      (measured_high _ _ _ _ e u t w wide (m + n + p) three
      (way x z o (m + n) p (both m n (some h t)) (some k t) (way x y z m n (some h t) (some s t) (exact x y e₁ h w₁ l₁) (exact y z e₂ s w₂ l₂)) (exact z o e₃ k w₃ l₃)))
      (le_refl m) (le_refl n) (le_refl p)
    where
      both : (m n : ℕ) → 0 < m → 0 < m + n
      both m n h = omega arith

      added : (m n p : ℕ) → 2 ^ 57 * e ≤ (2 ^ 28 + 84) * (m + n + p) + 2 ^ 57 * t → m ≤ bound h t → n ≤ bound s t → p ≤ bound k t → 2 ^ 28 * e ≤ (2 ^ 28 + 168) * (h + s + k) + 3 * 2 ^ 28 * t
      added m n p a b c d = omega arith
