-- How far off a difference, a sum, a product and a half of f32 may be, in units of 2 ^ -149 (`count`). Assumes nothing.
use mathlib.Core.Path.{◌≡◌, refl, sym, ap, ap₂, ◌∙◌, subst}
use mathlib.Core.Bool.{true, false}
use Prim.Native.Nat.{ℕ, zero, suc, ◌+◌, ◌-◌, ◌*◌, ◌^◌, ◌<◌}
use native.Mathlib.Nat.{mul-pos, mul-one, mul_comm, mul-sub, add-mul, zero-mul, lt_irrefl, zero-lt-suc, mul-mul-mul_comm, mul_assoc}
use native.Mathlib.Omega.{arith}
use lib.Dec.{T, lit<}
use lib.Ieee.{Float, nan, inf, fin, binary32, up, down, unlike, fits, round, mul, le}
use lib.Ieee.Fits.{up_pos, down_pos}
use lib.Ieee.Positive.{den, den_pos}
use lib.Ieee.Scale.{finite}
use Rattle.float.specs.F32.{◌⊕◌, ◌⊖◌, ◌⊗◌, ◌⊘◌, f0, f2}
use Rattle.float.specs.Units.{count}
use Rattle.float.proofs.Units.{zero_units, sized, count_of}
use Rattle.float.proofs.UnitSums.{Counted}
use Rattle.float.proofs.SignedRound.{pro, con, add_rounds, half_rounds}
use Rattle.float.proofs.Rounding.{no_con, dens_pos}
use Rattle.float.proofs.Spans.{sub_rounds}
use Rattle.float.proofs.RoundOff.{Part, Off, same_off, whole_off, round_off, gap, rounds_off}

-- ---- an f32 that is not negative is its count of units, of -0 too
counted_as : (x : Float) (a : ℕ) → T (fits binary32 x) → T (finite x) → count x ≡ a → pro x * 2 ^ 149 ≡ a * den x → con x * 2 ^ 149 ≡ 0 * den x → Counted x (count x) 0
counted_as x a t f e u d = record { whole = f; single = t; up = u ∙ ap (λ (n : ℕ). n * den x) (sym e); down = d }

above_zero : (m u : ℕ) → 0 < u → suc m * u ≡ 0 → ⊥
above_zero m u U e = lt_irrefl 0 (subst (λ (n : ℕ). 0 < n) e (mul-pos (zero-lt-suc m) U))

pub counted_up : (x : Float) → T (fits binary32 x) → T (finite x) → T (le f0 x) → Counted x (count x) 0
counted_up nan t f h = absurd f
counted_up (inf s) t f h = absurd f
counted_up (fin false m e) t f h =
    let z = sized false m e t in
    counted_as (fin false m e) z.0 t f (count_of (fin false m e) false z.0 z.1.is) z.1.is.1 (zero-mul (2 ^ 149) ∙ sym (zero-mul (down e)))
counted_up (fin true zero e) t f h =
    counted_as (fin true zero e) 0 t f (count_of (fin true zero e) true 0 (refl, zero_units e)) (zero-mul (2 ^ 149) ∙ sym (zero-mul (down e))) (zero_units e)
counted_up (fin true (suc m) e) t f h = absurd (above_zero m (up e) (up_pos e) (no_con (fin true (suc m) e) f h))

-- ---- differences and sums of what is not negative
pub gap_times : (a b k : ℕ) → gap a b * k ≡ gap (a * k) (b * k)
gap_times a b k = add-mul (a - b) (b - a) k ∙ ap₂ ◌+◌ (minus_times a b) (minus_times b a)
  where
    minus_times : (x y : ℕ) → (x - y) * k ≡ x * k - y * k
    minus_times x y = mul_comm (x - y) k ∙ mul-sub k x y ∙ ap₂ ◌-◌ (mul_comm k x) (mul_comm k y)

-- p / c and n / c are x and y units
pub in_units : (r p n c x y u : ℕ) → 0 < c → p * u ≡ x * c → n * u ≡ y * c → Off r (gap p n * u) c → Part r (gap x y)
in_units r p n c x y u C ep en h =
    whole_off r (gap x y) (same_off r (gap p n * u) c (gap x y) 1 C (mul-one (gap p n * u) ∙ gap_times p n u ∙ ap₂ gap ep en ∙ sym (gap_times x y c)) h)

pub crossed : (a e c f x y u : ℕ) → a * u ≡ x * c → e * u ≡ y * f → (a * f + e * c) * u ≡ (x + y) * (c * f)
crossed a e c f x y u p q = omega (arith, ap (λ (n : ℕ). n * f) p, ap (λ (n : ℕ). n * c) q)

bare : (x y : ℕ) → gap (x + 0) (0 + y) ≡ gap x y
bare x y = omega arith

module _ (x y : Float) (p q : ℕ) (h : Counted x p 0) (k : Counted y q 0) where
  pub sub_off : T (finite (x ⊖ y)) → Part (count (x ⊖ y)) (gap p q)
  sub_off f =
      subst (Part (count (x ⊖ y))) (bare p q)
      (in_units (count (x ⊖ y)) _ _ (den x * den y) (p + 0) (0 + q) (2 ^ 149) (dens_pos x y)
      (crossed (pro x) (con y) (den x) (den y) p 0 (2 ^ 149) h.up k.down) (crossed (con x) (pro y) (den x) (den y) 0 q (2 ^ 149) h.down k.up)
      (rounds_off (x ⊖ y) _ _ (den x * den y) (sub_rounds x y h.whole k.whole) (dens_pos x y) f))

  pub add_off : T (finite (x ⊕ y)) → Part (count (x ⊕ y)) (p + q)
  add_off f =
      subst (Part (count (x ⊕ y))) (alone (p + q))
      (in_units (count (x ⊕ y)) _ _ (den x * den y) (p + q) (0 + 0) (2 ^ 149) (dens_pos x y)
      (crossed (pro x) (pro y) (den x) (den y) p q (2 ^ 149) h.up k.up) (crossed (con x) (con y) (den x) (den y) 0 0 (2 ^ 149) h.down k.down)
      (rounds_off (x ⊕ y) _ _ (den x * den y) (add_rounds x y h.whole k.whole) (dens_pos x y) f))
    where
      alone : (n : ℕ) → gap n (0 + 0) ≡ n
      alone n = omega arith

-- ---- products of either sign
product_off : (r a b c d x y u : ℕ) → 0 < c * d → a * u ≡ x * c → b * u ≡ y * d → Off r (a * b * u) (c * d) → Off r (x * y) u
product_off r a b c d x y u C p q h = same_off r (a * b * u) (c * d) (x * y) u C (swap (a * b) u ∙ mul-mul-mul_comm a b u u ∙ ap₂ ◌*◌ p q ∙ mul-mul-mul_comm x c y d) h
  where
    swap : (m n : ℕ) → m * n * n ≡ m * (n * n)
    swap m n = mul_assoc m n n

pub mul_off : (x y : Float) → T (fits binary32 x) → T (fits binary32 y) → T (finite x) → T (finite y) → T (finite (x ⊗ y)) → Off (count (x ⊗ y)) (count x * count y) (2 ^ 149)
unfolding mul
mul_off nan y t u f g h = absurd f
mul_off (inf s) y t u f g h = absurd f
mul_off (fin s m e) nan t u f g h = absurd g
mul_off (fin s m e) (inf r) t u f g h = absurd g
mul_off (fin s m e) (fin r n d) t u f g h =
    let x = sized s m e t in
    let y = sized r n d u in
    rw (count_of (fin s m e) s x.0 x.1.is, count_of (fin r n d) r y.0 y.1.is)
    (product_off (count (round binary32 (unlike s r) (m * up e * (n * up d)) (down e * down d))) (m * up e) (n * up d) (down e) (down d) x.0 y.0 (2 ^ 149)
    (mul-pos (down_pos e) (down_pos d)) x.1.is.1 y.1.is.1 (round_off (unlike s r) (m * up e * (n * up d)) (down e * down d) (mul-pos (down_pos e) (down_pos d)) h))

-- ---- halves of what is not negative
pub half_off : (x : Float) (p : ℕ) → Counted x p 0 → T (finite (x ⊘ f2)) → Off (count (x ⊘ f2)) p 2
half_off x p h f =
    same_off (count (x ⊘ f2)) (gap (pro x) (con x) * 2 ^ 149) (2 * den x) p 2 (mul-pos (lit< tt) (den_pos x))
    (ap (λ (n : ℕ). n * 2) (gap_times (pro x) (con x) (2 ^ 149) ∙ ap₂ gap h.up h.down) ∙ doubled p (den x))
    (rounds_off (x ⊘ f2) _ _ (2 * den x) (half_rounds x h.whole) (mul-pos (lit< tt) (den_pos x)) f)
  where
    doubled : (p d : ℕ) → gap (p * d) (0 * d) * 2 ≡ p * (2 * d)
    doubled p d = omega arith
