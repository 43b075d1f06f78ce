-- The shifts of `subnormal` and `normal`: the significand m moved up by its leading zeros, and then by 23 or 24, is the n of 47 or 48 digits whose root is taken. Assumes nothing.
use mathlib.Core.Path.{◌≡◌, refl, sym, ap, ◌∙◌, subst}
use Prim.Native.Nat.{ℕ, zero, suc, ◌+◌, ◌-◌, ◌*◌, ◌/◌, ◌%◌, ◌^◌, ◌≤◌, ◌<◌}
use native.Mathlib.Nat.{mod-eq_of_lt, not-le_of_lt, lt_of_lt_of_le, mul_assoc, mul-le-mul_right, mul-le-mul}
use native.Mathlib.Omega.{arith}
use lib.Pow.{pow_mono, pow-add, shl_lt, shl_exact}
use lib.Count.{count_leading_zeros, leading_top}
use lib.Ieee.{binary32, of_bits}
use Rattle.float.proofs.Units.{pow_under}
use Rattle.sqrt.specs.Root.{nearest_root}
use Rattle.sqrt.specs.inner.Steps.{Rootable}
use Rattle.wholeroot.specs.WholeRoot.{nearest_whole}
use Rattle.wholeroot.proofs.Near.{Near, order, whole_near}
use Rattle.sqrt.proofs.Cut.{four_pow, nearest_root_at}
use Rattle.sqrt.proofs.Values.{pattern}

-- m moved up until it has 24 digits
abbrev pub zeros : ℕ → ℕ
zeros m = count_leading_zeros 32 m - 8

pub record Moved (m : ℕ) : Type 0 where
  pub enough : 8 ≤ count_leading_zeros 32 m
  pub few : zeros m ≤ 23
  pub low : 2 ^ 23 ≤ m * 2 ^ zeros m
  pub high : m * 2 ^ zeros m < 2 ^ 24

pub moved : (m : ℕ) → 0 < m → m < 2 ^ 24 → Moved m
moved m p h =
    let t = leading_top 32 m p (lt_of_lt_of_le h (pow_mono {i = 24} {j = 32} (omega arith))) in
    let j = t.0 in
    let e : count_leading_zeros 32 m + suc j ≡ 32 = t.1 in
    let lo : 2 ^ j ≤ m = t.2 in
    let hi : m < 2 ^ suc j = t.3 in
    let j_lt : j < 24 = pow_under j 24 m lo h in
    let e1 : j + zeros m ≡ 23 = omega arith in
    let e2 : suc j + zeros m ≡ 24 = omega arith in
    record {
      enough = omega arith;
      few = omega arith;
      low = subst (λ (x : ℕ). x ≤ m * 2 ^ zeros m) (sym (pow-add 2 j (zeros m)) ∙ ap (λ (x : ℕ). 2 ^ x) e1) (mul-le-mul_right (2 ^ zeros m) lo);
      high = subst (λ (x : ℕ). m * 2 ^ zeros m < 2 ^ x) e2 (shl_lt (suc j) (zeros m) hi);
    }

-- what has 24 digits is moved by none
pub unmoved : (m : ℕ) → 8388608 ≤ m → m < 2 ^ 24 → zeros m ≡ 0
unmoved m l h = go (zeros m) (moved m (omega arith) h).high
  where
    go : (z : ℕ) → m * 2 ^ z < 2 ^ 24 → z ≡ 0
    go zero k = refl
    go (suc z) k =
        let p : 2 ≤ 2 ^ suc z = pow_mono {i = 1} {j = suc z} (omega arith) in
        let g : 8388608 * 2 ≤ m * 2 ^ suc z = mul-le-mul l p in
        absurd (not-le_of_lt k g)

-- as the machine has it, cut to 32 bits
pub moved_exact : (m : ℕ) → 0 < m → m < 2 ^ 24 → m * 2 ^ zeros m % 2 ^ 32 ≡ m * 2 ^ zeros m
moved_exact m p h = mod-eq_of_lt (lt_of_lt_of_le (moved m p h).high (pow_mono {i = 24} {j = 32} (omega arith)))

-- the n whose root is taken, c being field + 127 - zeros m
abbrev pub scaled : ℕ → ℕ → ℕ
scaled m c = m * 2 ^ zeros m * 2 ^ (23 + c % 2)

-- n as the machine has it, each shift cut to its word's width
pub exact : (m c : ℕ) → 0 < m → m < 2 ^ 24 → (m * 2 ^ zeros m % 2 ^ 32) * 2 ^ (23 + c % 2) % 2 ^ 64 ≡ scaled m c
exact m c p h =
    let s = moved m p h in
    ap (λ (x : ℕ). x * 2 ^ (23 + c % 2) % 2 ^ 64) (moved_exact m p h)
    ∙ shl_exact 24 (23 + c % 2) 64 s.high (omega arith)

pub scaled_low : (m c : ℕ) → 0 < m → m < 2 ^ 24 → 2 ^ 46 ≤ scaled m c
scaled_low m c p h = let g : 2 ^ 23 ≤ 2 ^ (23 + c % 2) = pow_mono {i = 23} {j = 23 + c % 2} (omega arith) in mul-le-mul (moved m p h).low g

pub scaled_high : (m c : ℕ) → 0 < m → m < 2 ^ 24 → scaled m c ≤ (2 ^ 24 - 1) * 2 ^ 24
scaled_high m c p h =
    let s : m * 2 ^ zeros m < 2 ^ 24 = (moved m p h).high in
    let t : m * 2 ^ zeros m ≤ 2 ^ 24 - 1 = omega arith in
    let g : 2 ^ (23 + c % 2) ≤ 2 ^ 24 = pow_mono {i = 23 + c % 2} {j = 24} (omega arith) in
    mul-le-mul t g

-- how many of the root's digits, in units, are dropped
abbrev pub dropped : ℕ → ℕ → ℕ
dropped m f = (f + 127 - zeros m) / 2 - 1

-- what is rooted is n times a power of four
pub regroup : (m f : ℕ) → 0 < m → m < 2 ^ 24 → 0 < f → m * 2 ^ (f - 1) * 2 ^ 149 ≡ scaled m (f + 127 - zeros m) * 4 ^ dropped m f
regroup m f p h g =
    let z = zeros m in
    let c = f + 127 - z in
    let k = c / 2 - 1 in
    let few : z ≤ 23 = (moved m p h).few in
    let e : f - 1 + 149 ≡ z + (23 + c % 2 + (k + k)) = omega arith in
    mul_assoc m (2 ^ (f - 1)) (2 ^ 149)
    ∙ ap (λ (x : ℕ). m * x) (sym (pow-add 2 (f - 1) 149) ∙ ap (λ (x : ℕ). 2 ^ x) e ∙ pow-add 2 z (23 + c % 2 + (k + k)) ∙ ap (λ (x : ℕ). 2 ^ z * x) (pow-add 2 (23 + c % 2) (k + k)))
    ∙ sym (mul_assoc m (2 ^ z) (2 ^ (23 + c % 2) * 2 ^ (k + k)))
    ∙ sym (mul_assoc (m * 2 ^ z) (2 ^ (23 + c % 2)) (2 ^ (k + k)))
    ∙ ap (λ (x : ℕ). scaled m c * x) (pow-add 2 k k ∙ sym (four_pow k))

-- and n and k are what `root_of` takes
pub taken : (m f n k : ℕ) → 0 < m → m < 2 ^ 24 → 0 < f → f < 255 → n ≡ scaled m (f + 127 - zeros m) → k ≡ dropped m f → Rootable n k
taken m f n k p h g l e d =
    let lo : 2 ^ 46 ≤ scaled m (f + 127 - zeros m) = scaled_low m (f + 127 - zeros m) p h in
    let hi : scaled m (f + 127 - zeros m) ≤ (2 ^ 24 - 1) * 2 ^ 24 = scaled_high m (f + 127 - zeros m) p h in
    record { low = subst (λ (x : ℕ). 2 ^ 46 ≤ x) (sym e) lo; high = subst (λ (x : ℕ). x ≤ (2 ^ 24 - 1) * 2 ^ 24) (sym e) hi; few = omega arith }

pub same_root : (m f n k : ℕ) → 0 < m → m < 2 ^ 24 → 0 < f → n ≡ scaled m (f + 127 - zeros m) → k ≡ dropped m f → nearest_root (n * 4 ^ k) ≡ nearest_root (m * 2 ^ (f - 1) * 2 ^ 149)
same_root m f n k p h g e d = ap (λ (x : ℕ). nearest_root (x * 4 ^ k)) e ∙ ap (λ (x : ℕ). nearest_root (scaled m (f + 127 - zeros m) * 4 ^ x)) d ∙ ap nearest_root (sym (regroup m f p h g))

-- ---- a pattern b that is not subnormal: its digits have 24 places already

-- the digits of b, with the one that a pattern leaves out
abbrev pub digits : ℕ → ℕ
digits b = b % 8388608 + 8388608

pub still : (b : ℕ) → zeros (digits b) ≡ 0
still b = unmoved (digits b) (omega arith) (omega arith)

-- n is read off the digits and the exponent's last one, which stand side by side in b
scaled_by : (b p : ℕ) → (b / 8388608 + 127 - 0) % 2 ≡ p → scaled (digits b) (b / 8388608 + 127 - zeros (digits b)) ≡ digits b * 2 ^ 0 * 2 ^ (23 + p)
scaled_by b p e =
    ap (λ (z : ℕ). digits b * 2 ^ z * 2 ^ (23 + (b / 8388608 + 127 - z) % 2)) (still b)
    ∙ ap (λ (x : ℕ). digits b * 2 ^ 0 * 2 ^ (23 + x)) e

even : (f h : ℕ) → f ≡ 2 * h → (f + 127 - 0) % 2 ≡ 1
even f h e = omega arith

odd : (f h : ℕ) → f ≡ 2 * h + 1 → (f + 127 - 0) % 2 ≡ 0
odd f h e = omega arith

pub scaled_even : (b s : ℕ) → b % 16777216 < 8388608 → s ≡ 2 * (b % 16777216) + 16777216 → s * 8388608 ≡ scaled (digits b) (b / 8388608 + 127 - zeros (digits b))
scaled_even b s h e =
    let d : s ≡ 2 * digits b = omega arith in
    let g : s * 8388608 ≡ digits b * 1 * 16777216 = omega arith in
    let f : b / 8388608 ≡ 2 * (b / 16777216) = omega arith in
    g ∙ sym (scaled_by b 1 (even (b / 8388608) (b / 16777216) f))

pub scaled_odd : (b s : ℕ) → 8388608 ≤ b % 16777216 → s ≡ b % 16777216 → s * 8388608 ≡ scaled (digits b) (b / 8388608 + 127 - zeros (digits b))
scaled_odd b s h e =
    let d : s ≡ digits b = omega arith in
    let g : s * 8388608 ≡ digits b * 1 * 8388608 = omega arith in
    let f : b / 8388608 ≡ 2 * (b / 16777216) + 1 = omega arith in
    g ∙ sym (scaled_by b 0 (odd (b / 8388608) (b / 16777216) f))

-- ---- from the whole number nearest to the root of n to the root's pattern

pub record Found (n k q : ℕ) : Type 0 where
  pub high : q < 2 ^ 24
  pub is : of_bits binary32 (k * 8388608 + q) ≡ nearest_root (n * 4 ^ k)

pub found : (n k q : ℕ) → Rootable n k → q ≡ nearest_whole n → Found n k q
found n k q fit e =
    let lo : 2 ^ 46 ≤ n = fit.low in
    let hi : n ≤ (2 ^ 24 - 1) * 2 ^ 24 = fit.high in
    let near : Near n q = subst (Near n) (sym e) (whole_near n (omega arith)) in
    let q_hi : q ≤ 2 ^ 24 - 1 = order n (2 ^ 24 - 1) q (omega arith) near.0 in
    let q_lo : 2 ^ 23 ≤ q = order n q (2 ^ 23) near.1 (omega arith) in
    let q_lt : q < 2 ^ 24 = omega arith in
    let n_lt : n < 2 ^ 48 = omega arith in
    record {
      high = q_lt;
      is = pattern q k q_lo q_lt fit.few ∙ sym (nearest_root_at n k q lo n_lt near);
    }
