-- A number strictly between 0 and 1 is m·2^-k, with the m and the k that its pattern tells, or of a subnormal the pattern of its 2^24th multiple. Assumes nothing.
use mathlib.Core.Path.{◌≡◌, sym, ap, ◌∙◌}
use Prim.Native.Nat.{ℕ, ◌+◌, ◌-◌, ◌*◌, ◌/◌, ◌%◌, ◌^◌, ◌≤◌}
use native.Mathlib.Nat.{lt_of_not-le, mul_assoc}
use native.Mathlib.Decide.{dec_le}
use native.Mathlib.Omega.{arith}
use lib.Ieee.{Float, binary32, to_bits}
use lib.Ieee.Bits.{of_bits-fits}
use lib.Ieee.Fits.{mul-fits}
use lib.Pow.{pow-add}
use Rattle.float.specs.F32.{◌⊗◌}
use Rattle.float.specs.Units.{count}
use Rattle.float.proofs.PatternOrder.{at, count_at, pattern_le, pattern_lt, pattern_back}
use Rattle.curve.specs.Depth.{lift, level_of, depth_of, Split}
use Rattle.curve.proofs.Sums.{first, last}
use Rattle.curve.proofs.Inside.{Inside, lifted_low, lifted_field, lifted_plain, lifted_exact}
use Rattle.curve.proofs.Deeper.{depth_small, depth_other}

-- ---- by a pattern that is no subnormal's: the digits after the field of 1/2 are 2^k times as many units
scaled : (q e : ℕ) → 1 ≤ e → e ≤ 126 → q * 2 ^ 125 ≡ q * 2 ^ (e - 1) * 2 ^ (126 - e)
scaled q e h k =
    let s : 125 ≡ e - 1 + (126 - e) = omega arith in
    ap (λ (n : ℕ). q * 2 ^ n) s ∙ ap (λ (n : ℕ). q * n) (pow-add 2 (e - 1) (126 - e)) ∙ sym (mul_assoc q (2 ^ (e - 1)) (2 ^ (126 - e)))

module _ (b : ℕ) (h : 2 ^ 23 ≤ b) (l : b ≤ last) where
  digits : count (at (first + b % 2 ^ 23)) ≡ (2 ^ 23 + b % 2 ^ 23) * 2 ^ 125
  digits =
      let p = first + b % 2 ^ 23 in
      let t : p % 2 ^ 23 ≡ b % 2 ^ 23 = omega arith in
      let e : p / 2 ^ 23 - 1 ≡ 125 = omega arith in
      count_at p (omega arith) (omega arith) ∙ ap (λ (n : ℕ). (2 ^ 23 + n) * 2 ^ (p / 2 ^ 23 - 1)) t ∙ ap (λ (n : ℕ). (2 ^ 23 + b % 2 ^ 23) * 2 ^ n) e

  moved : count (at (first + b % 2 ^ 23)) ≡ count (at b) * 2 ^ (126 - b / 2 ^ 23)
  moved =
      digits ∙ scaled (2 ^ 23 + b % 2 ^ 23) (b / 2 ^ 23) (omega arith) (omega arith)
      ∙ ap (λ (n : ℕ). n * 2 ^ (126 - b / 2 ^ 23)) (sym (count_at b h (omega arith)))

-- ---- of numbers
split_at : (x : Float) (b most : ℕ) → level_of b most ≡ depth_of x → count (at (first + b % 2 ^ 23)) ≡ count x * 2 ^ (most - b / 2 ^ 23) → Split x
unfolding level_of
split_at x b most d e = record {
  k = most - b / 2 ^ 23;
  m = at (first + b % 2 ^ 23);
  one = of_bits-fits binary32 (first + b % 2 ^ 23);
  low = pattern_le first (first + b % 2 ^ 23) (omega arith) (omega arith);
  high = pattern_lt (first + b % 2 ^ 23) 0x3f80_0000 (omega arith) (omega arith);
  exact = e;
  is = sym d;
}

pub split : (x : Float) → Inside x → Split x
split x i = go (dec_le (2 ^ 23) (to_bits binary32 x))
  where
    lifted : (c b : ℕ) → b / 2 ^ 23 ≤ 24 → c * 2 ^ 24 * 2 ^ (126 - b / 2 ^ 23) ≡ c * 2 ^ (150 - b / 2 ^ 23)
    lifted c b h =
        let s : 24 + (126 - b / 2 ^ 23) ≡ 150 - b / 2 ^ 23 = omega arith in
        mul_assoc c (2 ^ 24) (2 ^ (126 - b / 2 ^ 23)) ∙ ap (λ (n : ℕ). c * n) (sym (pow-add 2 24 (126 - b / 2 ^ 23))) ∙ ap (λ (n : ℕ). c * 2 ^ n) s

    go : Dec (2 ^ 23 ≤ to_bits binary32 x) → Split x
    go (yes h) =
        let b = to_bits binary32 x in
        split_at x b 126 (depth_other x h) (moved b h i.high ∙ ap (λ (z : Float). count z * 2 ^ (126 - b / 2 ^ 23)) (pattern_back x i.one i.clear))
    go (no f) =
        let s = lt_of_not-le f in
        let y = x ⊗ lift in
        let b = to_bits binary32 y in
        let g = lifted_field x i s in
        split_at x b 150 (depth_small x s)
        (moved b (lifted_low x i s) (omega arith)
        ∙ ap (λ (z : Float). count z * 2 ^ (126 - b / 2 ^ 23)) (pattern_back y (mul-fits binary32 x lift) (lifted_plain x i s))
        ∙ ap (λ (n : ℕ). n * 2 ^ (126 - b / 2 ^ 23)) (lifted_exact x i s) ∙ lifted (count x) b g)
