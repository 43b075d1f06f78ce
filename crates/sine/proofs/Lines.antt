-- The lines between the entries of the table: each lies from its own entry to the next and never falls. Assumes nothing.
use mathlib.Core.Path.{◌≡◌, refl, sym, ap, ◌∙◌, subst}
use Prim.Native.Nat.{ℕ, zero, suc, ◌+◌, ◌-◌, ◌^◌, ◌≤◌, ◌<◌}
use native.Mathlib.Nat.{add-zero, mul-one}
use native.Mathlib.Omega.{arith}
use lib.Dec.{T}
use lib.Ieee.{Float, of_bits, of_int, le, mul}
use lib.Ieee.Scale.{finite}
use Rattle.float.specs.F32.{◌⊕◌, ◌⊗◌, f0, f1}
use Rattle.float.specs.Number.{count_of}
use Rattle.float.proofs.Order.{le_trans, finite_between}
use Rattle.float.proofs.Rounding.{add_mono, mul_mono}
use Rattle.float.proofs.Wholes.{count_held, count_mono, count_sum, count_product}
use Rattle.sine.specs.Table.{entry}
use Rattle.sine.specs.Wave.{unit, line_of}
use Rattle.sine.proofs.Ruled.{rule, entry_most}

-- ---- closed facts
zero_count : count_of 0 ≡ f0
unfolding of_int of_bits
zero_count = refl

top : count_of (2 ^ 24) ⊗ unit ≡ f1
unfolding of_int of_bits mul
top = refl

bottom : f0 ⊗ unit ≡ f0
unfolding of_bits mul
bottom = refl

unit-finite : T (finite unit)
unfolding of_bits
unit-finite = tt

unit_low : T (le f0 unit)
unfolding of_bits le
unit_low = tt

unit_same : T (le unit unit)
unfolding of_bits le
unit_same = tt

zero_same : T (le f0 f0)
unfolding of_bits le
zero_same = tt

zero-finite : T (finite f0)
unfolding of_bits
zero-finite = tt

nil : f0 ⊗ f0 ≡ f0
unfolding of_bits mul
nil = refl

-- ---- whole numbers in units of the table
count_finite : (n : ℕ) → n ≤ 2 ^ 24 → T (finite (count_of n))
count_finite n h = (count_held n h).bounded

count_low : (n : ℕ) → T (le f0 (count_of n))
count_low n = subst (λ (x : Float). T (le x (count_of n))) zero_count (count_mono 0 n (omega arith))

-- n of the table's units
abbrev pub level : ℕ → Float
level n = count_of n ⊗ unit

pub level_mono : (a b : ℕ) → a ≤ b → b ≤ 2 ^ 24 → T (le (level a) (level b))
level_mono a b h k =
    mul_mono (count_of a) unit (count_of b) unit (count_finite a (omega arith)) unit-finite (count_finite b k) unit-finite (count_low a) unit_low (count_mono a b h) unit_same

pub level_low : (n : ℕ) → n ≤ 2 ^ 24 → T (le f0 (level n))
level_low n h = subst (λ (x : Float). T (le x (level n))) (ap (λ (x : Float). x ⊗ unit) zero_count ∙ bottom) (level_mono 0 n (omega arith) h)

pub level_high : (n : ℕ) → n ≤ 2 ^ 24 → T (le (level n) f1)
level_high n h = subst (λ (x : Float). T (le (level n) x)) top (level_mono n (2 ^ 24) h (omega arith))

-- the table never falls
pub entry_mono : (a d : ℕ) → a + d ≤ 1024 → entry a ≤ entry (a + d)
entry_mono a zero h = let e : a + 0 ≡ a = omega arith in subst (λ (k : ℕ). entry a ≤ entry k) (sym e) (omega arith)
entry_mono a (suc d) h =
    let e : a + suc d ≡ suc (a + d) = omega arith in
    let l : entry a ≤ entry (a + d) = entry_mono a d (omega arith) in
    let r : entry (a + d) ≤ entry (suc (a + d)) = rule.never_falls (a + d) (omega arith) in
    subst (λ (k : ℕ). entry a ≤ entry k) (sym e) (omega arith)

-- ---- the line from entry i to the next, at a fraction from 0 to 1
module _ (i : ℕ) (few : i < 1024) where
  rise : ℕ
  rise = entry (suc i) - entry i

  low_fits : entry i ≤ 2 ^ 24
  low_fits = entry_most i (omega arith)

  rise_fits : rise ≤ 2 ^ 24
  unfolding rise
  rise_fits = let h = entry_most (suc i) few in omega arith

  reaches : entry i + rise ≡ entry (suc i)
  unfolding rise
  reaches = let h = rule.never_falls i few in omega arith

  module _ (x : Float) (f : T (finite x)) (lo : T (le f0 x)) (hi : T (le x (count_of 1))) where
    part_low : T (le f0 (count_of rise ⊗ x))
    part_low =
        subst (λ (y : Float). T (le y (count_of rise ⊗ x))) nil
        (mul_mono f0 f0 (count_of rise) x zero-finite zero-finite (count_finite rise rise_fits) f zero_same zero_same (count_low rise) lo)

    part_high : T (le (count_of rise ⊗ x) (count_of rise))
    part_high =
        le_trans (count_of rise ⊗ x) (count_of rise ⊗ count_of 1) (count_of rise)
        (mul_mono (count_of rise) x (count_of rise) (count_of 1) (count_finite rise rise_fits) f (count_finite rise rise_fits) (count_finite 1 (omega arith)) (count_low rise) lo (count_mono rise rise (omega arith)) hi)
        (subst (λ (k : ℕ). T (le (count_of rise ⊗ count_of 1) (count_of k))) (mul-one rise) (count_product rise 1 rise_fits (omega arith)).0)

    part_finite : T (finite (count_of rise ⊗ x))
    part_finite = finite_between f0 (count_of rise ⊗ x) (count_of rise) zero-finite (count_finite rise rise_fits) part_low part_high

    sum_low : T (le (count_of (entry i)) (count_of (entry i) ⊕ count_of rise ⊗ x))
    sum_low =
        le_trans (count_of (entry i)) (count_of (entry i) ⊕ count_of 0) (count_of (entry i) ⊕ count_of rise ⊗ x)
        (subst (λ (k : ℕ). T (le (count_of k) (count_of (entry i) ⊕ count_of 0))) (add-zero (entry i)) (count_sum (entry i) 0 low_fits (omega arith)).1)
        (add_mono (count_of (entry i)) (count_of 0) (count_of (entry i)) (count_of rise ⊗ x) (count_finite (entry i) low_fits) (count_finite 0 (omega arith)) (count_finite (entry i) low_fits) part_finite
        (count_mono (entry i) (entry i) (omega arith)) (subst (λ (y : Float). T (le y (count_of rise ⊗ x))) (sym zero_count) part_low))

    sum_high : T (le (count_of (entry i) ⊕ count_of rise ⊗ x) (count_of (entry (suc i))))
    sum_high =
        le_trans (count_of (entry i) ⊕ count_of rise ⊗ x) (count_of (entry i) ⊕ count_of rise) (count_of (entry (suc i)))
        (add_mono (count_of (entry i)) (count_of rise ⊗ x) (count_of (entry i)) (count_of rise) (count_finite (entry i) low_fits) part_finite (count_finite (entry i) low_fits) (count_finite rise rise_fits)
        (count_mono (entry i) (entry i) (omega arith)) part_high)
        (subst (λ (k : ℕ). T (le (count_of (entry i) ⊕ count_of rise) (count_of k))) reaches (count_sum (entry i) rise low_fits rise_fits).0)

    sum_finite : T (finite (count_of (entry i) ⊕ count_of rise ⊗ x))
    sum_finite =
        finite_between (count_of (entry i)) (count_of (entry i) ⊕ count_of rise ⊗ x) (count_of (entry (suc i)))
        (count_finite (entry i) low_fits) (count_finite (entry (suc i)) (entry_most (suc i) few)) sum_low sum_high

    sum-zero : T (le f0 (count_of (entry i) ⊕ count_of rise ⊗ x))
    sum-zero = le_trans f0 (count_of (entry i)) (count_of (entry i) ⊕ count_of rise ⊗ x) (count_low (entry i)) sum_low

    pub line_low : T (le (level (entry i)) (line_of i x))
    unfolding line_of rise
    line_low =
        mul_mono (count_of (entry i)) unit (count_of (entry i) ⊕ count_of rise ⊗ x) unit (count_finite (entry i) low_fits) unit-finite sum_finite unit-finite (count_low (entry i)) unit_low sum_low unit_same

    pub line_high : T (le (line_of i x) (level (entry (suc i))))
    unfolding line_of rise
    line_high =
        mul_mono (count_of (entry i) ⊕ count_of rise ⊗ x) unit (count_of (entry (suc i))) unit sum_finite unit-finite (count_finite (entry (suc i)) (entry_most (suc i) few)) unit-finite sum-zero unit_low sum_high unit_same

  pub line_mono : (x y : Float) → T (finite x) → T (finite y) → T (le f0 x) → T (le x y) → T (le y (count_of 1)) → T (le (line_of i x) (line_of i y))
  unfolding line_of rise
  line_mono x y fx fy lo h hi =
      let xi = le_trans x y (count_of 1) h hi in
      let ly = le_trans f0 x y lo h in
      let d = count_of rise in
      let t = count_of (entry i) in
      let ft = count_finite (entry i) low_fits in
      let fd = count_finite rise rise_fits in
      let p = mul_mono d x d y fd fx fd fy (count_low rise) lo (count_mono rise rise (omega arith)) h in
      let s = add_mono t (d ⊗ x) t (d ⊗ y) ft (part_finite x fx lo xi) ft (part_finite y fy ly hi) (count_mono (entry i) (entry i) (omega arith)) p in
      mul_mono (t ⊕ d ⊗ x) unit (t ⊕ d ⊗ y) unit (sum_finite x fx lo xi) unit-finite (sum_finite y fy ly hi) unit-finite (sum-zero x fx lo xi) unit_low s unit_same
