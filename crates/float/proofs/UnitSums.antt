-- f32 as whole numbers of units of 2 ^ -149, of either sign: p - n of them. Their order and the order of their sums and midpoints are those of the numbers of units. Assumes nothing.
use mathlib.Core.Path.{◌≡◌, refl, sym, ap, ◌∙◌}
use mathlib.Core.Bool.{Bool, true, false, true≢false}
use mathlib.Core.Logic.{◌⊎◌, inl, inr}
use Prim.Native.Nat.{ℕ, ◌+◌, ◌*◌, ◌^◌, ◌≤◌, ◌<◌}
use native.Mathlib.Nat.{mul-pos, mul-le-mul_right, le_of_mul-le-mul_right, zero-mul}
use native.Mathlib.Omega.{arith}
use lib.Dec.{T, lit<}
use lib.Pow.{pow_pos}
use lib.IntN.{ℤ}
use lib.Ieee.{Float, nan, inf, fin, up, down, binary32, round, neg, le, fits}
use lib.Ieee.Exact.{HasValue, round_exact}
use lib.Ieee.Fits.{round-fits, neg-fits}
use lib.Ieee.Positive.{den, den_pos}
use lib.Ieee.Scale.{finite}
use Rattle.float.specs.F32.{◌⊕◌, ◌⊘◌, f2}
use Rattle.float.proofs.Units.{Shape, sized, shape}
use Rattle.float.proofs.SignedRound.{plus, minus, pro, con, linear_from_le, le_from_linear, add_rounds, half_rounds}
use Rattle.float.proofs.Rounding.{dens_pos, neg_view, neg-finite}
use Rattle.float.proofs.Spans.{rounded_below}

pub record Counted (x : Float) (p n : ℕ) : Type 0 where
  pub whole : T (finite x)
  pub single : T (fits binary32 x)
  pub up : pro x * 2 ^ 149 ≡ p * den x
  pub down : con x * 2 ^ 149 ≡ n * den x

-- of every f32: either number is 0, and the other has at most 24 digits before its zeros
pub record Units (x : Float) : Type 0 where
  pub p : ℕ
  pub n : ℕ
  pub is : Counted x p n
  pub one_sided : (p ≡ 0) ⊎ (n ≡ 0)
  pub p_shape : Shape p
  pub n_shape : Shape n

none : Shape 0
none = record { m = 0; g = 0; is = refl; small = lit< tt }

pub units_of : (x : Float) → T (fits binary32 x) → T (finite x) → Units x
units_of nan t f = absurd f
units_of (inf s) t f = absurd f
units_of (fin false m e) t f =
    let z = sized false m e t in
    record {
      p = z.0;
      n = 0;
      is = record { whole = f; single = t; up = z.1.is.1; down = zero-mul (2 ^ 149) ∙ sym (zero-mul (down e)) };
      one_sided = inr refl;
      p_shape = shape z.1;
      n_shape = none;
    }
units_of (fin true m e) t f =
    let z = sized true m e t in
    record {
      p = 0;
      n = z.0;
      is = record { whole = f; single = t; up = zero-mul (2 ^ 149) ∙ sym (zero-mul (down e)); down = z.1.is.1 };
      one_sided = inl refl;
      p_shape = none;
      n_shape = shape z.1;
    }

pub opposite : (x : Float) (p n : ℕ) → Counted x p n → Counted (neg x) n p
opposite x p n h =
    let v = neg_view x in
    record { whole = neg-finite x h.whole; single = neg-fits binary32 x h.single; up = rw (v.0, v.2) h.down; down = rw (v.1, v.2) h.up }

-- ---- the order
to_fractions : (a b c d e f p n q m u : ℕ) → 0 < u → a * u ≡ p * c → b * u ≡ n * c → d * u ≡ q * f → e * u ≡ m * f → p + m ≤ q + n → a * f + e * c ≤ d * c + b * f
to_fractions a b c d e f p n q m u U ea eb ed ee h =
    let k : (p + m) * (c * f) ≤ (q + n) * (c * f) = mul-le-mul_right (c * f) h in
    le_of_mul-le-mul_right {k = u} (omega (arith, k, ap (λ (x : ℕ). x * f) ea, ap (λ (x : ℕ). x * c) ee, ap (λ (x : ℕ). x * c) ed, ap (λ (x : ℕ). x * f) eb)) U

to_units : (a b c d e f p n q m u : ℕ) → 0 < c → 0 < f → a * u ≡ p * c → b * u ≡ n * c → d * u ≡ q * f → e * u ≡ m * f → a * f + e * c ≤ d * c + b * f → p + m ≤ q + n
to_units a b c d e f p n q m u C F ea eb ed ee h =
    let k : (a * f + e * c) * u ≤ (d * c + b * f) * u = mul-le-mul_right u h in
    le_of_mul-le-mul_right {k = c * f} (omega (arith, k, ap (λ (x : ℕ). x * f) ea, ap (λ (x : ℕ). x * c) ee, ap (λ (x : ℕ). x * c) ed, ap (λ (x : ℕ). x * f) eb)) (mul-pos C F)

module _ (x y : Float) (p n q m : ℕ) (h : Counted x p n) (k : Counted y q m) where
  pub units_le : p + m ≤ q + n → T (le x y)
  units_le l = le_from_linear x y h.whole k.whole (to_fractions (pro x) (con x) (den x) (pro y) (con y) (den y) p n q m (2 ^ 149) (pow_pos 149) h.up h.down k.up k.down l)

  pub le_units : T (le x y) → p + m ≤ q + n
  le_units l = to_units (pro x) (con x) (den x) (pro y) (con y) (den y) p n q m (2 ^ 149) (den_pos x) (den_pos y) h.up h.down k.up k.down (linear_from_le x y h.whole k.whole l)

-- ---- sums: x + y is no more than z
over : (a u p c g k : ℕ) → a * u ≡ p * c → c * g ≡ k → a * g * u ≡ p * k
over a u p c g k e h = let l : a * g * u ≡ p * (c * g) = omega (arith, ap (λ (x : ℕ). x * g) e) in l ∙ ap (λ (x : ℕ). p * x) h

cancelled : (a d j i b e k u p q o r n m : ℕ) → 0 < u → a * u ≡ p * k → d * u ≡ q * k → j * u ≡ o * k → i * u ≡ r * k → b * u ≡ n * k → e * u ≡ m * k → p + q + o ≤ r + n + m → a + d + j ≤ i + b + e
cancelled a d j i b e k u p q o r n m U ea ed ej ei eb ee h = let l : (p + q + o) * k ≤ (r + n + m) * k = mul-le-mul_right k h in le_of_mul-le-mul_right {k = u} (omega arith) U

sum_fractions : (a b c d e f i j l p n q m r o u : ℕ) → 0 < u → a * u ≡ p * c → b * u ≡ n * c → d * u ≡ q * f → e * u ≡ m * f → i * u ≡ r * l → j * u ≡ o * l → p + q + o ≤ r + n + m
    → (a * f + d * c) * l + j * (c * f) ≤ i * (c * f) + (b * f + e * c) * l
sum_fractions a b c d e f i j l p n q m r o u U ea eb ed ee ei ej h =
    let k = c * f * l in
    let cf : c * (f * l) ≡ k = omega arith in
    let fc : f * (c * l) ≡ k = omega arith in
    let lc : l * (c * f) ≡ k = omega arith in
    let w = cancelled (a * (f * l)) (d * (c * l)) (j * (c * f)) (i * (c * f)) (b * (f * l)) (e * (c * l)) k u p q o r n m U
    (over a u p c (f * l) k ea cf) (over d u q f (c * l) k ed fc) (over j u o l (c * f) k ej lc) (over i u r l (c * f) k ei lc) (over b u n c (f * l) k eb cf) (over e u m f (c * l) k ee fc) h in
    omega (arith, w)

module _ (x y z : Float) (p n q m r o : ℕ) (h : Counted x p n) (k : Counted y q m) (w : Counted z r o) where
  pub sum_under : p + q + o ≤ r + n + m → T (le (x ⊕ y) z)
  sum_under l =
      rounded_below z (x ⊕ y) w.single w.whole _ _ _ (add_rounds x y h.whole k.whole) (dens_pos x y)
      (sum_fractions (pro x) (con x) (den x) (pro y) (con y) (den y) (pro z) (con z) (den z) p n q m r o (2 ^ 149) (pow_pos 149) h.up h.down k.up k.down w.up w.down l)

-- ---- halves: where w is twice z, and s no more than w, the half of s is no more than z
without_first : (a b c d e f r o u : ℕ) → 0 < f → d * u ≡ 2 * r * f → e * u ≡ 2 * o * f → a * f + e * c ≤ d * c + b * f → a * u + 2 * o * c ≤ 2 * r * c + b * u
without_first a b c d e f r o u F ed ee h =
    let k : (a * f + e * c) * u ≤ (d * c + b * f) * u = mul-le-mul_right u h in
    le_of_mul-le-mul_right {k = f} (omega (arith, k, ap (λ (x : ℕ). x * c) ed, ap (λ (x : ℕ). x * c) ee)) F

half_fractions : (a b c d e f i j l r o u : ℕ) → 0 < u → 0 < f → d * u ≡ 2 * r * f → e * u ≡ 2 * o * f → i * u ≡ r * l → j * u ≡ o * l → a * f + e * c ≤ d * c + b * f
    → a * l + j * (2 * c) ≤ i * (2 * c) + b * l
half_fractions a b c d e f i j l r o u U F ed ee ei ej h =
    let k : (a * u + 2 * o * c) * l ≤ (2 * r * c + b * u) * l = mul-le-mul_right l (without_first a b c d e f r o u F ed ee h) in
    le_of_mul-le-mul_right {k = u} (omega (arith, k, ap (λ (x : ℕ). x * (2 * c)) ei, ap (λ (x : ℕ). x * (2 * c)) ej)) U

module _ (z w : Float) (r o : ℕ) (h : Counted z r o) (k : Counted w (2 * r) (2 * o)) where
  pub half_under : (s : Float) → T (finite s) → T (le s w) → T (le (s ⊘ f2) z)
  half_under s f l =
      rounded_below z (s ⊘ f2) h.single h.whole _ _ _ (half_rounds s f) (twice_pos (den s) (den_pos s))
      (half_fractions (pro s) (con s) (den s) (pro w) (con w) (den w) (pro z) (con z) (den z) r o (2 ^ 149) (pow_pos 149) (den_pos w) k.up k.down h.up h.down (linear_from_le s w f k.whole l))
    where
      twice_pos : (d : ℕ) → 0 < d → 0 < 2 * d
      twice_pos d h = omega arith

-- ---- m * 2 ^ e units, with m of 24 digits, are an f32
signed : (r s : Bool) (m : ℕ) (e : ℤ) (a : ℕ) → r ≡ s → T (fits binary32 (fin r m e)) → m * up e * 2 ^ 149 ≡ a * down e → Counted (fin r m e) (plus s a) (minus s a)
signed false false m e a q t k = record { whole = tt; single = t; up = k; down = zero-mul (2 ^ 149) ∙ sym (zero-mul (down e)) }
signed true true m e a q t k = record { whole = tt; single = t; up = zero-mul (2 ^ 149) ∙ sym (zero-mul (down e)); down = k }
signed false true m e a q t k = absurd (true≢false (sym q))
signed true false m e a q t k = absurd (true≢false q)

value_counted : (y : Float) (s : Bool) (a : ℕ) → T (fits binary32 y) → HasValue y s a (2 ^ 149) → Counted y (plus s a) (minus s a)
value_counted nan s a t v = absurd v
value_counted (inf r) s a t v = absurd v
value_counted (fin r m e) s a t v = signed r s m e a v.0 t v.1

pub held : (s : Bool) (m e : ℕ) → m < 2 ^ 24 → m * 2 ^ e < 2 ^ 277 → Counted (round binary32 s (m * 2 ^ e) (2 ^ 149)) (plus s (m * 2 ^ e)) (minus s (m * 2 ^ e))
held s m e small few =
    value_counted (round binary32 s (m * 2 ^ e) (2 ^ 149)) s (m * 2 ^ e) (round-fits binary32 s (m * 2 ^ e) (2 ^ 149))
    (round_exact binary32 s (m * 2 ^ e) (2 ^ 149) m e (pow_pos 149) small few refl)
