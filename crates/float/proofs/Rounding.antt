-- Sums, differences and products by what is not negative keep the order: each is a signed fraction, and rounding keeps the order of these. Assumes nothing.
use mathlib.Core.Path.{◌≡◌, refl, ◌∙◌}
use Prim.Native.Nat.{ℕ, ◌+◌, ◌*◌, ◌≤◌, ◌<◌}
use native.Mathlib.Nat.{le_trans as le_trans_ℕ, le_of_eq, zero-mul, mul-zero, add-zero, mul-mul-mul_comm, mul-pos, mul_assoc, mul_comm, mul_left_comm, add-mul, mul-le-mul, mul-le-mul_right}
use native.Mathlib.Omega.{arith}
use mathlib.Core.Bool.{true, false}
use lib.Dec.{T, lit<}
use lib.Ieee.{Float, nan, inf, fin, sub, neg, of_bits, le}
use lib.Ieee.Positive.{den, den_pos}
use lib.Ieee.Scale.{finite}
use Rattle.float.specs.F32.{◌⊕◌, ◌⊖◌, ◌⊗◌, f0}
use Rattle.float.proofs.Order.{le_trans}
use Rattle.float.proofs.SignedRound.{rounds_le, zero_rounds, neg-le, pro, con, linear_from_le, add_rounds, mul_rounds}

-- ---- sums and products keep the order
pub dens_pos : (x y : Float) → 0 < den x * den y
dens_pos x y = mul-pos (den_pos x) (den_pos y)

-- of fractions
crossed : (p f q d h j : ℕ) → (p * f + q * d) * (h * j) ≡ p * h * (f * j) + q * j * (d * h)
crossed p f q d h j = add-mul (p * f) (q * d) (h * j) ∙ simp (mul_assoc, mul_comm, mul_left_comm)

join : (A B C D E F G H : ℕ) → A + B ≤ C + D → E + F ≤ G + H → A + E + (B + F) ≤ C + G + (D + H)
join A B C D E F G H h k = omega arith

sums : (p c d q e f r g h s i j : ℕ) → (p * h + g * d) * (f * j) ≤ (r * d + c * h) * (f * j) → (q * j + i * f) * (d * h) ≤ (s * f + e * j) * (d * h)
    → (p * f + q * d) * (h * j) + (g * j + i * h) * (d * f) ≤ (r * j + s * h) * (d * f) + (c * f + e * d) * (h * j)
sums p c d q e f r g h s i j a b =
    rw (crossed p f q d h j, crossed g j i h d f, crossed r j s h d f, crossed c f e d h j, mul_comm j f, mul_comm h d)
    (join (p * h * (f * j)) (g * d * (f * j)) (r * d * (f * j)) (c * h * (f * j)) (q * j * (d * h)) (i * f * (d * h)) (s * f * (d * h)) (e * j * (d * h)) (simp add-mul at a) (simp add-mul at b))

-- what is not negative has no `con`
pub no_con : (x : Float) → T (finite x) → T (le f0 x) → con x ≡ 0
unfolding of_bits
no_con x f h = go x (linear_from_le f0 x tt f h)
  where
    go : (x : Float) → 0 * den x + con x * 1 ≤ pro x * 1 + 0 * den x → con x ≡ 0
    go nan k = refl
    go (inf s) k = refl
    go (fin false m e) k = refl
    go (fin true m e) k = omega arith

products : (p d q f r h s j a b c e : ℕ) → p * h ≤ r * d → q * j ≤ s * f → a ≡ 0 → b ≡ 0 → c ≡ 0 → e ≡ 0
    → (p * q + a * b) * (h * j) + (r * e + c * s) * (d * f) ≤ (r * s + c * e) * (d * f) + (p * b + a * q) * (h * j)
products p d q f r h s j a b c e x y za zb zc ze =
    let m : p * h * (q * j) ≤ r * d * (s * f) = mul-le-mul x y in
    let w : p * q * (h * j) ≤ r * s * (d * f) = le_trans_ℕ (le_of_eq (mul-mul-mul_comm p q h j)) (le_trans_ℕ m (le_of_eq (mul-mul-mul_comm r d s f))) in
    rw (za, zb, zc, ze) (simp (mul-zero, zero-mul, add-zero) w)

plain : (p c d r g h : ℕ) → p * h + g * d ≤ r * d + c * h → c ≡ 0 → g ≡ 0 → p * h ≤ r * d
plain p c d r g h l zc zg = let k = rw (zc, zg) at l in omega arith

-- 0 ≤ x ≤ y as fractions
pub fractions : (x y : Float) → T (finite x) → T (finite y) → T (le f0 x) → T (le x y) → pro x * den y ≤ pro y * den x
fractions x y fx fy nx h = plain (pro x) (con x) (den x) (pro y) (con y) (den y) (linear_from_le x y fx fy h) (no_con x fx nx) (no_con y fy (le_trans f0 x y nx h))

module _ (x y z w : Float) (fx : T (finite x)) (fy : T (finite y)) (fz : T (finite z)) (fw : T (finite w)) where
  pub add_mono : T (le x z) → T (le y w) → T (le (x ⊕ y) (z ⊕ w))
  add_mono h k =
      let a = mul-le-mul_right (den y * den w) (linear_from_le x z fx fz h) in
      let b = mul-le-mul_right (den x * den z) (linear_from_le y w fy fw k) in
      rounds_le (add_rounds x y fx fy) (add_rounds z w fz fw) (dens_pos x y) (dens_pos z w)
      (sums (pro x) (con x) (den x) (pro y) (con y) (den y) (pro z) (con z) (den z) (pro w) (con w) (den w) a b)

  -- of what is not negative
  pub mul_mono : T (le f0 x) → T (le f0 y) → T (le x z) → T (le y w) → T (le (x ⊗ y) (z ⊗ w))
  mul_mono nx ny h k =
      rounds_le (mul_rounds x y fx fy) (mul_rounds z w fz fw) (dens_pos x y) (dens_pos z w)
      (products (pro x) (den x) (pro y) (den y) (pro z) (den z) (pro w) (den w) (con x) (con y) (con z) (con w)
      (fractions x z fx fz nx h) (fractions y w fy fw ny k)
      (no_con x fx nx) (no_con y fy ny) (no_con z fz (le_trans f0 x z nx h)) (no_con w fw (le_trans f0 y w ny k)))

-- ---- differences
pub neg-finite : (x : Float) → T (finite x) → T (finite (neg x))
unfolding neg
neg-finite nan p = absurd p
neg-finite (inf s) p = absurd p
neg-finite (fin s m e) p = tt

pub neg_view : (x : Float) → (pro (neg x) ≡ con x) × (con (neg x) ≡ pro x) × (den (neg x) ≡ den x)
unfolding neg
neg_view nan = (refl, refl, refl)
neg_view (inf s) = (refl, refl, refl)
neg_view (fin true m e) = (refl, refl, refl)
neg_view (fin false m e) = (refl, refl, refl)

pub sub_mono : (x y z w : Float) → T (finite x) → T (finite y) → T (finite z) → T (finite w) → T (le x z) → T (le w y) → T (le (x ⊖ y) (z ⊖ w))
unfolding sub
sub_mono x y z w fx fy fz fw h k = add_mono x (neg y) z (neg w) fx (neg-finite y fy) fz (neg-finite w fw) h (neg-le w y k)

-- y - x is not negative where x ≤ y
pub sub_rising : (x y : Float) → T (finite x) → T (finite y) → T (le x y) → T (le f0 (y ⊖ x))
unfolding sub
sub_rising x y fx fy h =
    let v = neg_view x in
    let l = linear_from_le x y fx fy h in
    rounds_le zero_rounds (add_rounds y (neg x) fy (neg-finite x fx)) (lit< tt) (dens_pos y (neg x)) (rw (v.0, v.1, v.2) (omega arith))
