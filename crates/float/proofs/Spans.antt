-- Numbers from one to another, through products and quotients, each rounded: rounding keeps the order, so what comes out lies from what comes of the ends. Assumes nothing.
use mathlib.Core.Path.{◌≡◌, refl, sym, ap, ◌∙◌, subst}
use mathlib.Core.Bool.{Bool, true, false, true≢false}
use Prim.Native.Nat.{ℕ, zero, suc, ◌+◌, ◌*◌, ◌^◌, ◌≤◌, ◌<◌}
use native.Mathlib.Nat.{le_of_eq, zero-mul, mul-pos, mul-le-mul, mul-le-mul_right, mul-lt-mul_of_pos_right, lt_of_mul-lt-mul_right, lt_of_lt_of_le, lt_of_le_of_lt, lt_of_not-le, lt_irrefl, zero-lt-suc}
use native.Mathlib.Omega.{arith}
use lib.Dec.{T, lit<}
use lib.IntN.{ℤ, negsuc}
use lib.Pow.{pow_pos}
use lib.Ieee.{Float, nan, inf, fin, binary32, up, down, round, sub, div, neg, of_bits, le, fits}
use lib.Ieee.Exact.{HasValue, round_exact}
use lib.Ieee.Fits.{down_pos}
use lib.Ieee.Bits.{is_true, of_bits-fits}
use lib.Ieee.Positive.{den, den_pos}
use lib.Ieee.Scale.{finite}
use borrow.Author.Tests.{ne_eqb}
use Rattle.float.specs.F32.{◌⊖◌, ◌⊗◌, ◌⊘◌, f0, f1}
use Rattle.float.proofs.Order as order
use Rattle.float.proofs.Units.{parts, sized, shape, few_units}
use Rattle.float.proofs.Rounding.{no_con, fractions, dens_pos, neg-finite, neg_view}
use Rattle.float.proofs.Midpoint.{same_value}
use Rattle.float.proofs.SignedRound.{Rounds, rounds_le, round_rounds, zero_rounds, pro, con, linear_from_le, le_from_linear, add_rounds, mul_rounds}

-- ---- products by what is not negative
under : (a b c d e p q g h : ℕ) → a * d ≤ p * c + b * d → e * h ≤ q * g → a * e * (d * h) ≤ p * q * (c * g) + b * e * (d * h)
under a b c d e p q g h l k =
    let u : a * d * (e * h) ≤ (p * c + b * d) * (e * h) = mul-le-mul_right (e * h) l in
    let v : p * c * (e * h) ≤ p * c * (q * g) = mul-le-mul (le_of_eq refl) k in
    omega arith

-- what is not positive has no `pro`
no_pro : (x : Float) → T (finite x) → T (le x f0) → pro x ≡ 0
unfolding of_bits
no_pro x f h = go x (linear_from_le x f0 f tt h)
  where
    go : (x : Float) → pro x * 1 + 0 * den x ≤ 0 * den x + con x * 1 → pro x ≡ 0
    go nan k = refl
    go (inf s) k = refl
    go (fin true m e) k = refl
    go (fin false m e) k = omega arith

module _ (x y u v : Float) (fx : T (finite x)) (fy : T (finite y)) (fu : T (finite u)) (fv : T (finite v)) (ny : T (le f0 y)) (k : T (le y v)) where
  nv : T (le f0 v)
  nv = order.le_trans f0 y v ny k

  -- y ≤ v as fractions
  part : pro y * den v ≤ pro v * den y
  part = fractions y v fy fv ny k

  -- x ≤ u, which is not negative, and 0 ≤ y ≤ v
  pub mul_under : T (le f0 u) → T (le x u) → T (le (x ⊗ y) (u ⊗ v))
  mul_under nu h =
      let zu = no_con u fu nu in
      let zy = no_con y fy ny in
      let zv = no_con v fv nv in
      let l = linear_from_le x u fx fu h in
      let m : pro x * den u ≤ pro u * den x + con x * den u = omega (arith, l) in
      let w = under (pro x) (con x) (den x) (den u) (pro y) (pro u) (pro v) (den y) (den v) m part in
      rounds_le (mul_rounds x y fx fy) (mul_rounds u v fu fv) (dens_pos x y) (dens_pos u v) (rw (zu, zy, zv) (omega (arith, w)))

  -- x ≥ u, which is not positive, and 0 ≤ y ≤ v
  pub mul_over : T (le u f0) → T (le u x) → T (le (u ⊗ v) (x ⊗ y))
  mul_over nu h =
      let zu = no_pro u fu nu in
      let zy = no_con y fy ny in
      let zv = no_con v fv nv in
      let l = linear_from_le u x fu fx h in
      let m : con x * den u ≤ con u * den x + pro x * den u = omega (arith, l, ap (λ (n : ℕ). n * den x) zu) in
      let w = under (con x) (pro x) (den x) (den u) (pro y) (con u) (pro v) (den y) (den v) m part in
      rounds_le (mul_rounds u v fu fv) (mul_rounds x y fx fy) (dens_pos u v) (dens_pos x y) (rw (zu, zy, zv) (omega (arith, w)))

pub mul_swap : (x y : Float) → T (finite x) → T (finite y) → T (le (x ⊗ y) (y ⊗ x))
mul_swap x y fx fy = rounds_le (mul_rounds x y fx fy) (mul_rounds y x fy fx) (dens_pos x y) (dens_pos y x) (omega arith)

-- ---- an f32 beside a fraction that is rounded
finite_size : (s : Bool) (m : ℕ) (e : ℤ) → T (fits binary32 (fin s m e)) → m * up e < 2 ^ 128 * down e
finite_size s zero e t = lt_of_le_of_lt (le_of_eq (zero-mul (up e))) (mul-pos (pow_pos 128) (down_pos e))
finite_size s (suc m) e t = (parts s m e t).2

-- x is its own fraction, rounded
record Own (x : Float) : Type 0 where
  itself : Float
  is : Rounds itself (pro x) (con x) (den x)
  below : T (le x itself)
  above : T (le itself x)

own : (x : Float) → T (fits binary32 x) → T (finite x) → Own x
own nan t f = absurd f
own (inf s) t f = absurd f
own (fin s m e) t f =
    let z = sized s m e t in
    let w = shape z.1 in
    let a = m * up e in
    let units : a * 2 ^ 149 ≡ w.m * 2 ^ w.g * down e = z.1.is.1 ∙ ap (λ (x : ℕ). x * down e) w.is in
    let few : w.m * 2 ^ w.g < 2 ^ 277 = subst (λ (x : ℕ). x < 2 ^ 277) w.is (few_units a (down e) z.0 128 z.1.is.1 (finite_size s m e t)) in
    let v : HasValue (round binary32 s a (down e)) s a (down e) = round_exact binary32 s a (down e) w.m w.g (down_pos e) w.small few units in
    record {
      itself = round binary32 s a (down e);
      is = round_rounds s a (down e);
      below = same_value (fin s m e) (round binary32 s a (down e)) s a (down e) (down_pos e) (refl, refl) v;
      above = same_value (round binary32 s a (down e)) (fin s m e) s a (down e) (down_pos e) v (refl, refl);
    }

module _ (x y : Float) (t : T (fits binary32 x)) (f : T (finite x)) (p n c : ℕ) (r : Rounds y p n c) (C : 0 < c) where
  pub rounded_above : pro x * c + n * den x ≤ p * den x + con x * c → T (le x y)
  rounded_above h = let o = own x t f in order.le_trans x o.itself y o.below (rounds_le o.is r (den_pos x) C h)

  pub rounded_below : p * den x + con x * c ≤ pro x * c + n * den x → T (le y x)
  rounded_below h = let o = own x t f in order.le_trans y o.itself x (rounds_le r o.is C (den_pos x) h) o.above

-- ---- differences
pub sub_rounds : (x y : Float) → T (finite x) → T (finite y) → Rounds (x ⊖ y) (pro x * den y + con y * den x) (con x * den y + pro y * den x) (den x * den y)
unfolding sub
sub_rounds x y fx fy = let v = neg_view y in rw (v.0, v.1, v.2) at (add_rounds x (neg y) fx (neg-finite y fy))

-- ---- quotients
pub quotient_is : (s : Bool) (m n : ℕ) (e d : ℤ) → fin s m e ⊘ fin false (suc n) d ≡ round binary32 s (m * up e * down d) (suc n * up d * down e)
unfolding div
quotient_is true m n e d = rw (ne_eqb (suc n) 0 (λ z. absurd (omega arith)))
quotient_is false m n e d = rw (ne_eqb (suc n) 0 (λ z. absurd (omega arith)))

pub div_rounds : (x y : Float) → T (finite x) → T (finite y) → 0 < pro y → Rounds (x ⊘ y) (pro x * den y) (con x * den y) (pro y * den x)
div_rounds nan y fx fy h = absurd fx
div_rounds (inf s) y fx fy h = absurd fx
div_rounds (fin s m e) nan fx fy h = absurd fy
div_rounds (fin s m e) (inf t) fx fy h = absurd fy
div_rounds (fin s m e) (fin true n d) fx fy h = absurd (omega arith)
div_rounds (fin s m e) (fin false zero d) fx fy h = absurd (lt_irrefl 0 (subst (λ (k : ℕ). 0 < k) (zero-mul (up d)) h))
div_rounds (fin false m e) (fin false (suc n) d) fx fy h = rw (quotient_is false m n e d, zero-mul) (round_rounds false (m * up e * down d) (suc n * up d * down e))
div_rounds (fin true m e) (fin false (suc n) d) fx fy h = rw (quotient_is true m n e d, zero-mul) (round_rounds true (m * up e * down d) (suc n * up d * down e))

one_rounds : Rounds f1 1 0 1
unfolding of_bits round
one_rounds = round_rounds false 1 1

-- 0 ≤ x ≤ y, and y is above 0: the quotient lies from 0 to 1
module _ (x y : Float) (fx : T (finite x)) (fy : T (finite y)) (some : 0 < pro y) where
  pub quotient_low : T (le f0 x) → T (le f0 (x ⊘ y))
  quotient_low h = rounds_le zero_rounds (div_rounds x y fx fy some) (lit< tt) (mul-pos some (den_pos x)) (rw (no_con x fx h) (omega arith))

  pub quotient_high : T (le f0 x) → T (le x y) → T (le (x ⊘ y) f1)
  quotient_high n h =
      let ny = order.le_trans f0 x y n h in
      let l = linear_from_le x y fx fy h in
      rounds_le (div_rounds x y fx fy some) one_rounds (mul-pos some (den_pos x)) (lit< tt)
      (rw (no_con x fx n) (omega (arith, l, ap (λ (k : ℕ). k * den y) (no_con x fx n), ap (λ (k : ℕ). k * den x) (no_con y fy ny))))

-- ---- two f32 that are not equal differ by the smallest f32 at least
in_units : (x : Float) → T (fits binary32 x) → T (finite x) → (p n : ℕ) × (pro x * 2 ^ 149 ≡ p * den x) × (con x * 2 ^ 149 ≡ n * den x)
in_units nan t f = absurd f
in_units (inf s) t f = absurd f
in_units (fin false m e) t f = let z = sized false m e t in (z.0, 0, z.1.is.1, zero-mul (2 ^ 149) ∙ sym (zero-mul (down e)))
in_units (fin true m e) t f = let z = sized true m e t in (0, z.0, zero-mul (2 ^ 149) ∙ sym (zero-mul (down e)), z.1.is.1)

gap : (a b c d e f p n q m u : ℕ) → 0 < u → 0 < c → 0 < f → a * u ≡ p * c → b * u ≡ n * c → d * u ≡ q * f → e * u ≡ m * f → a * f + e * c < d * c + b * f → p + m < q + n
gap a b c d e f p n q m u U C F ea eb ed ee h =
    let k : (a * f + e * c) * u < (d * c + b * f) * u = mul-lt-mul_of_pos_right h U in
    let l : (a * f + e * c) * u ≡ (p + m) * (c * f) = omega (arith, ap (λ (x : ℕ). x * f) ea, ap (λ (x : ℕ). x * c) ee) in
    let r : (d * c + b * f) * u ≡ (q + n) * (c * f) = omega (arith, ap (λ (x : ℕ). x * c) ed, ap (λ (x : ℕ). x * f) eb) in
    lt_of_mul-lt-mul_right (c * f) (lt_of_le_of_lt (le_of_eq (sym l)) (lt_of_lt_of_le k (le_of_eq r)))

stays : (a b c d e f p n q m u : ℕ) → a * u ≡ p * c → b * u ≡ n * c → d * u ≡ q * f → e * u ≡ m * f → p + m < q + n → 1 * (f * c) + (e * c + a * f) * u ≤ (d * c + b * f) * u + 0 * (f * c)
stays a b c d e f p n q m u ea eb ed ee h =
    let l : (e * c + a * f) * u ≡ (p + m) * (f * c) = omega (arith, ap (λ (x : ℕ). x * f) ea, ap (λ (x : ℕ). x * c) ee) in
    let r : (d * c + b * f) * u ≡ (q + n) * (f * c) = omega (arith, ap (λ (x : ℕ). x * c) ed, ap (λ (x : ℕ). x * f) eb) in
    let k : suc (p + m) * (f * c) ≤ (q + n) * (f * c) = mul-le-mul_right (f * c) h in
    omega arith

above_zero : (d c p u : ℕ) → 0 < d → 1 * d + c * u ≤ p * u + 0 * d → 0 < p
above_zero d c zero u D h = absurd (omega arith)
above_zero d c (suc p) u D h = zero-lt-suc p

abbrev tiny : Float
tiny = of_bits binary32 1

tiny_is : tiny ≡ fin false 1 (negsuc 148)
unfolding of_bits
tiny_is = refl

-- x < y, both f32 and their difference finite: it is above 0
module _ (x y : Float) (tx : T (fits binary32 x)) (ty : T (fits binary32 y)) (fx : T (finite x)) (fy : T (finite y)) (apart : le y x ≡ false) (whole : T (finite (y ⊖ x))) where
  strictly : pro x * den y + con y * den x < pro y * den x + con x * den y
  strictly = lt_of_not-le (λ h. true≢false (sym (is_true (le y x) (le_from_linear y x fy fx h)) ∙ apart))

  pub difference_above : 0 < pro (y ⊖ x)
  difference_above =
      let a = in_units x tx fx in
      let b = in_units y ty fy in
      let g = gap (pro x) (con x) (den x) (pro y) (con y) (den y) a.0 a.1 b.0 b.1 (2 ^ 149) (pow_pos 149) (den_pos x) (den_pos y) a.2 a.3 b.2 b.3 strictly in
      let s = stays (pro x) (con x) (den x) (pro y) (con y) (den y) a.0 a.1 b.0 b.1 (2 ^ 149) a.2 a.3 b.2 b.3 g in
      let h : T (le (fin false 1 (negsuc 148)) (y ⊖ x)) =
      rounded_above (fin false 1 (negsuc 148)) (y ⊖ x) (subst (λ (z : Float). T (fits binary32 z)) tiny_is (of_bits-fits binary32 1)) tt _ _ _ (sub_rounds y x fy fx) (dens_pos y x) s in
      above_zero (den (y ⊖ x)) (con (y ⊖ x)) (pro (y ⊖ x)) (2 ^ 149) (den_pos (y ⊖ x)) (linear_from_le (fin false 1 (negsuc 148)) (y ⊖ x) tt whole h)
