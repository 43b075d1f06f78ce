-- Quotients by what is above zero keep the order, and a number above zero goes into itself once. Assumes nothing.
use mathlib.Core.Path.{◌≡◌, refl, sym, ◌∙◌, subst}
use mathlib.Core.Bool.{true, false, true≢false}
use Prim.Native.Nat.{ℕ, zero, suc, ◌*◌, ◌≤◌, ◌<◌}
use native.Mathlib.Nat.{le_trans as le_trans_ℕ, le_of_eq, lt_irrefl, lt_of_lt_of_le, zero-mul, zero-lt-suc, mul-pos, mul_comm, mul-le-mul}
use native.Mathlib.Omega.{arith}
use lib.Dec.{T, lit<}
use lib.Ieee.{Float, nan, inf, fin, binary32, up, down, round, of_bits, le, lt}
use lib.Ieee.Bits.{is_true}
use lib.Ieee.Fits.{down_pos}
use lib.Ieee.Positive.{den, den_pos}
use lib.Ieee.Scale.{round_same, finite}
use Rattle.float.specs.F32.{◌⊘◌, f0, f1}
use Rattle.float.specs.Units.{plain}
use Rattle.float.proofs.Order.{le_trans, not_lt_from_le}
use Rattle.float.proofs.Rounding.{no_con, fractions}
use Rattle.float.proofs.SignedRound.{rounds_le, pro, le_from_linear}
use Rattle.float.proofs.Spans.{quotient_is, div_rounds}

-- ---- above zero: `pro` is not 0
none_up : (x : Float) → pro x ≡ 0 → T (finite x) → T (le x f0)
unfolding of_bits
none_up x z f = le_from_linear x f0 f tt (rw z (omega arith))

pub above_some : (x : Float) → T (finite x) → T (lt f0 x) → 0 < pro x
above_some x f h = go (pro x) (λ z. none_up x z f)
  where
    go : (n : ℕ) → (n ≡ 0 → T (le x f0)) → 0 < n
    go zero k = absurd (true≢false (sym (is_true (lt f0 x) h) ∙ not_lt_from_le f0 x (k refl)))
    go (suc n) k = zero-lt-suc n

pub some_plain : (x : Float) → 0 < pro x → T (plain x)
some_plain nan h = absurd (omega arith)
some_plain (inf s) h = absurd (omega arith)
some_plain (fin true m e) h = absurd (omega arith)
some_plain (fin false m e) h = tt

some_left : (a b c d : ℕ) → 0 < a → 0 < b → a * b ≤ c * d → 0 < c
some_left a b zero d A B h = absurd (lt_irrefl 0 (lt_of_lt_of_le (mul-pos A B) (le_trans_ℕ h (le_of_eq (zero-mul d)))))
some_left a b (suc c) d A B h = zero-lt-suc c

pub some_more : (x y : Float) → T (finite x) → T (finite y) → T (le f0 x) → 0 < pro x → T (le x y) → 0 < pro y
some_more x y fx fy nx s h = some_left (pro x) (den y) (pro y) (den x) s (den_pos y) (fractions x y fx fy nx h)

-- ---- 0 ≤ x ≤ z over 0 < w ≤ y
crossed : (p d q e r f s g : ℕ) → p * f ≤ r * d → s * e ≤ q * g → p * e * (s * f) ≤ r * g * (q * d)
crossed p d q e r f s g h k =
    let m : p * f * (s * e) ≤ r * d * (q * g) = mul-le-mul h k in
    le_trans_ℕ (le_of_eq (turned p e s f)) (le_trans_ℕ m (le_of_eq (sym (turned r g q d))))
  where
    turned : (a b c d : ℕ) → a * b * (c * d) ≡ a * d * (c * b)
    turned a b c d = omega arith

module _ (x y z w : Float) (fx : T (finite x)) (fy : T (finite y)) (fz : T (finite z)) (fw : T (finite w)) where
  pub div_mono : T (le f0 x) → T (le x z) → T (le f0 w) → 0 < pro w → T (le w y) → T (le (x ⊘ y) (z ⊘ w))
  div_mono nx h nw s k =
      let t = some_more w y fw fy nw s k in
      let l = crossed (pro x) (den x) (pro y) (den y) (pro z) (den z) (pro w) (den w) (fractions x z fx fz nx h) (fractions w y fw fy nw k) in
      rounds_le (div_rounds x y fx fy t) (div_rounds z w fz fw s) (mul-pos t (den_pos x)) (mul-pos s (den_pos z))
      (rw (no_con x fx nx, no_con z fz (le_trans f0 x z nx h)) (omega (arith, l)))

-- ---- y / y
one_is : round binary32 false 1 1 ≡ f1
unfolding round of_bits
one_is = refl

pub self_quotient : (y : Float) → 0 < pro y → y ⊘ y ≡ f1
self_quotient nan h = absurd (omega arith)
self_quotient (inf s) h = absurd (omega arith)
self_quotient (fin true m e) h = absurd (omega arith)
self_quotient (fin false zero e) h = absurd (lt_irrefl 0 (subst (λ (k : ℕ). 0 < k) (zero-mul (up e)) h))
self_quotient (fin false (suc m) e) h =
    let a = suc m * up e * down e in
    quotient_is false (suc m) m e e ∙ round_same binary32 false a a 1 1 (mul-pos h (down_pos e)) (lit< tt) (mul_comm a 1) ∙ one_is
