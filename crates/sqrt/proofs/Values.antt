-- q * 2 ^ k units of 2 ^ -149, for a q of 24 digits, is the f32 with the pattern k * 2 ^ 23 + q. Assumes nothing.
use mathlib.Core.Path.{◌≡◌, refl, sym, ap, ◌∙◌}
use Prim.Native.Nat.{ℕ, zero, suc, ◌+◌, ◌-◌, ◌*◌, ◌/◌, ◌%◌, ◌^◌, ◌≤◌, ◌<◌}
use native.Mathlib.Nat.{lt_of_lt_of_le}
use native.Mathlib.Omega.{arith}
use mathlib.Core.Bool.{Bool, false, cond}
use lib.Dec.{ltb, lt→ltb}
use lib.Pow.{pow_mono, shl_lt}
use lib.Count.{count_trailing_zeros, under}
use lib.Ieee.{inf, fin, binary32, odd, units, minus, of_bits}
use lib.Ieee.Bits.{is_true}
use Rattle.float.proofs.Fields.{normal}

-- ---- q * 2 ^ k units as a pattern

tz_more : (d n : ℕ) → 0 < n → n < 2 ^ d → count_trailing_zeros (suc d) n ≡ count_trailing_zeros d n
unfolding count_trailing_zeros
tz_more zero n p h = absurd (omega arith)
tz_more (suc d) n p h = go (n % 2) refl (tz_more d (n / 2))
  where
    go : (r : ℕ) → n % 2 ≡ r → (0 < n / 2 → n / 2 < 2 ^ d → count_trailing_zeros (suc d) (n / 2) ≡ count_trailing_zeros d (n / 2)) → under r (count_trailing_zeros (suc d) (n / 2)) ≡ under r (count_trailing_zeros d (n / 2))
    go zero e ih = ap suc (ih (omega arith) (omega arith))
    go (suc r) e ih = refl

odd_more : (d : ℕ) (s : Bool) (q k l : ℕ) → 0 < q → q < 2 ^ d → odd (suc d) s q k l ≡ odd d s q k l
unfolding odd
odd_more d s zero k l p h = absurd (omega arith)
odd_more d s (suc q) k l p h = ap (λ (t : ℕ). fin s (suc q / 2 ^ t) (minus (k + t) l)) (tz_more d (suc q) p h)

pub units_is : (q k : ℕ) → q * 2 ^ k < 2 ^ 277 → units binary32 false q k ≡ odd 25 false q k 149
unfolding units
units_is q k h = ap (λ (b : Bool). cond b (odd 25 false q k 149) (inf false)) (is_true (ltb (q * 2 ^ k) (2 ^ 277)) (lt→ltb (q * 2 ^ k) (2 ^ 277) h))

pub pattern : (q k : ℕ) → 2 ^ 23 ≤ q → q < 2 ^ 24 → k < 200 → of_bits binary32 (k * 8388608 + q) ≡ units binary32 false q k
pattern q k lo hi h =
    let t = q - 8388608 in
    let e : 8388608 + t ≡ q = omega arith in
    let room : q * 2 ^ k < 2 ^ 277 = lt_of_lt_of_le (shl_lt 24 k hi) (pow_mono {i = 24 + k} {j = 277} (omega arith)) in
    normal (k * 8388608 + q) k t (omega arith) (omega arith) (omega arith)
    ∙ ap (λ (x : ℕ). odd 24 false x k 149) e
    ∙ sym (odd_more 24 false q k 149 (omega arith) hi)
    ∙ sym (units_is q k room)
