-- A whole number as an f32: moved up by its leading zeros it fills 64 places, of which the first 24 are kept, rounded by the 40 below. Assumes nothing.
use mathlib.Core.Path.{◌≡◌, sym, ap, ◌∙◌, subst}
use mathlib.Core.Bool.{Bool, true, false, cond, true≢false}
use Prim.Native.Nat.{ℕ, suc, ◌+◌, ◌-◌, ◌*◌, ◌/◌, ◌%◌, ◌^◌, ◌≤◌, ◌<◌, compare}
use native.Mathlib.Nat.{le_trans, le_of_eq, one-mul, mul-pos, mul_comm, mul_assoc, mul_right_comm, mul-sub, mul-le-mul_right, mod-lt}
use native.Mathlib.Omega.{arith}
use lib.Count.{count_leading_zeros, leading_top}
use lib.Dec.{lit<}
use lib.Pow.{pow-add, pow_pos, shl_exact, split}
use lib.Ieee.{Float, nan, inf, fin, binary32, up, down, round, sub, of_int, to_bits, of_bits}
use lib.Ieee.Back.{round_whole}
use lib.Ieee.Bits.{of_bits-to_bits}
use lib.Ieee.Exact.{HasValue}
use lib.Ieee.Fits.{down_pos, of_int-fits, nearest-le}
use lib.Ieee.Nearest.{closest}
use lib.Ieee.Order.{transfer}
use lib.Ieee.Scale.{round_same}
use lib.IntN.{pos}
use borrow.Author.Tests.{le-ltb}
use Rattle.float.specs.F32.{◌⊖◌}
use Rattle.float.specs.Number.{count_of}
use Rattle.float.proofs.Fields.{value_at}
use Rattle.float.proofs.Fraction.{bits_are}

-- ---- below 2 ^ 23: the difference of 2 ^ 23 + n and 2 ^ 23
sub_values : (x y : Float) (a b c : ℕ) → HasValue x false a c → HasValue y false b c → 0 < c → b ≤ a → x ⊖ y ≡ round binary32 false (a - b) c
unfolding sub
sub_values nan y a b c v w p h = absurd v
sub_values (inf s) y a b c v w p h = absurd v
sub_values (fin s m e) nan a b c v w p h = absurd w
sub_values (fin s m e) (inf t) a b c v w p h = absurd w
sub_values (fin true m e) (fin t n d) a b c v w p h = absurd (true≢false v.0)
sub_values (fin false m e) (fin true n d) a b c v w p h = absurd (true≢false w.0)
sub_values (fin false m e) (fin false n d) a b c v w p h =
    let x = m * up e * down d in
    let y = n * up d * down e in
    let z = down e * down d in
    ap (λ (t : Bool). cond t (round binary32 true (y - x) z) (round binary32 false (x - y) z)) (le-ltb x y (transfer (n * up d) (m * up e) (down d) (down e) b a c c p p w.1 v.1 (mul-le-mul_right c h)))
    ∙ round_same binary32 false (x - y) z (a - b) c (mul-pos (down_pos e) (down_pos d)) p (level (m * up e) (n * up d) (down e) (down d) a b c v.1 w.1)
  where
    less : {x y u v : ℕ} → x ≡ u → y ≡ v → x - y ≡ u - v
    less {x} {y} {u} {v} e f = omega arith

    sub-mul : (x y z : ℕ) → (x - y) * z ≡ x * z - y * z
    sub-mul x y z = mul_comm (x - y) z ∙ mul-sub z x y ∙ less (mul_comm z x) (mul_comm z y)

    level : (m n e d a b c : ℕ) → m * c ≡ a * e → n * c ≡ b * d → (m * d - n * e) * c ≡ (a - b) * (e * d)
    level m n e d a b c v w =
        sub-mul (m * d) (n * e) c ∙ less (mul_right_comm m d c ∙ ap (λ (x : ℕ). x * d) v ∙ mul_assoc a e d) (mul_right_comm n e c ∙ ap (λ (x : ℕ). x * e) w ∙ mul_assoc b d e ∙ ap (λ (x : ℕ). b * x) (mul_comm d e))
        ∙ sym (sub-mul a b (e * d))

-- of whole numbers that an f32 holds as they are
pub count_less : (a b : ℕ) → b ≤ a → a ≤ 2 ^ 24 → count_of a ⊖ count_of b ≡ count_of (a - b)
unfolding of_int
count_less a b h l = sub_values (count_of a) (count_of b) a b 1 (round_whole binary32 false a l) (round_whole binary32 false b (le_trans h l)) (lit< tt) h

-- the pattern of 2 ^ 23 is 1258291200
of_digits : (n : ℕ) → n < 8388608 → HasValue (of_bits binary32 (1258291200 + n)) false ((8388608 + n) * 2 ^ 149) (2 ^ 149)
of_digits n h =
    let f : (1258291200 + n) / 8388608 - 1 ≡ 149 = omega arith in
    let d : (1258291200 + n) % 8388608 ≡ n = omega arith in
    subst (λ (k : ℕ). HasValue (of_bits binary32 (1258291200 + n)) false ((8388608 + n) * 2 ^ k) (2 ^ 149)) f
    (subst (λ (t : ℕ). HasValue (of_bits binary32 (1258291200 + n)) false ((8388608 + t) * 2 ^ ((1258291200 + n) / 8388608 - 1)) (2 ^ 149)) d (value_at (1258291200 + n) (omega arith) (omega arith)))

pub count_small : (n : ℕ) → n < 8388608 → of_bits binary32 (1258291200 + n) ⊖ of_bits binary32 1258291200 ≡ count_of n
unfolding of_int
count_small n h =
    sub_values (of_bits binary32 (1258291200 + n)) (of_bits binary32 1258291200) ((8388608 + n) * 2 ^ 149) (8388608 * 2 ^ 149) (2 ^ 149) (of_digits n h) (of_digits 0 (lit< tt)) (pow_pos 149) (mul-le-mul_right (2 ^ 149) more)
    ∙ round_same binary32 false ((8388608 + n) * 2 ^ 149 - 8388608 * 2 ^ 149) (2 ^ 149) n 1 (pow_pos 149) (lit< tt) (rest n (2 ^ 149))
  where
    more : 8388608 ≤ 8388608 + n
    more = omega arith

    rest : (n p : ℕ) → ((8388608 + n) * p - 8388608 * p) * 1 ≡ n * p
    rest n p = omega arith

-- ---- a number moved up by its leading zeros
pub record Shifted (d num zeros : ℕ) : Type 0 where
  pub is : num ≡ d * 2 ^ zeros
  pub full : 2 ^ 63 ≤ num
  pub some : 0 < num
  pub less : num < 2 ^ 64
  pub few : zeros < 64

pub shifted : (d : ℕ) → 0 < d → d < 2 ^ 64 → Shifted d (d * 2 ^ count_leading_zeros 64 d % 2 ^ 64) (count_leading_zeros 64 d)
shifted d p h =
    let t = leading_top 64 d p h in
    let z = count_leading_zeros 64 d in
    let e : z + suc t.0 ≡ 64 = t.1 in
    let x : d * 2 ^ z % 2 ^ 64 ≡ d * 2 ^ z = shl_exact (suc t.0) z 64 t.3 (omega arith) in
    let j : t.0 + z ≡ 63 = omega arith in
    let f : 2 ^ 63 ≤ d * 2 ^ z % 2 ^ 64 = le_trans (le_of_eq (ap (λ (k : ℕ). 2 ^ k) (sym j) ∙ pow-add 2 t.0 z)) (le_trans (mul-le-mul_right (2 ^ z) t.2) (le_of_eq (sym x))) in
    record { is = x; full = f; some = omega arith; less = mod-lt (d * 2 ^ z) (pow_pos 64); few = omega arith }

-- ---- its pattern
pub count_pattern : (n num z : ℕ) → Shifted n num z → to_bits binary32 (count_of n) ≡ (189 - z) * 8388608 + closest num (2 ^ 40)
unfolding of_int
count_pattern n num z s =
    bits_are false n 1 (num / 2 ^ 40) (num % 2 ^ 40) (2 ^ 40) z (189 - z) (lit< tt) (sym s.is ∙ sym (split num 40)) (mod-lt num (pow_pos 40))
    (sym (pow-add 2 149 40) ∙ ap (λ (k : ℕ). 2 ^ k) all ∙ sym (one-mul (2 ^ (189 - z + z)))) lo hi few
    ∙ front ((189 - z) * 8388608) (closest num (2 ^ 40))
  where
    front : (a b : ℕ) → 0 + a + b ≡ a + b
    front a b = omega arith

    all : 149 + 40 ≡ 189 - z + z
    all = let f = s.few in omega arith

    lo : 2 ^ 23 ≤ num / 2 ^ 40
    lo = let f = s.full in omega arith

    hi : num / 2 ^ 40 < 2 ^ 24
    hi = let f = s.less in omega arith

    few : 189 - z ≤ 250
    few = omega arith

pub count_back : (n num z : ℕ) → Shifted n num z → of_bits binary32 ((189 - z) * 8388608 + closest num (2 ^ 40)) ≡ count_of n
count_back n num z s = ap (of_bits binary32) (sym (count_pattern n num z s)) ∙ of_bits-to_bits binary32 (count_of n) (of_int-fits binary32 (pos n))

-- 24 digits, or the one number of 25 that rounding up can make
pub leading_few : (num q : ℕ) → q ≡ closest num (2 ^ 40) → num < 2 ^ 64 → q ≤ 16777216
leading_few num q e h = le_trans (le_of_eq e) (le_trans (nearest-le (num / 2 ^ 40) (compare (num % 2 ^ 40 * 2) (2 ^ 40))) top)
  where
    top : num / 2 ^ 40 < 2 ^ 24
    top = omega arith
