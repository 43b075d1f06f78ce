-- The two sums of powers keep the order: every coefficient is above zero. At 1/2 the first is exactly 1, and at 1 the second is exactly 2. Assumes nothing.
use mathlib.Core.Path.{◌≡◌, refl, subst}
use Prim.Native.Nat.{ℕ, ◌≤◌, ◌<◌}
use native.Mathlib.Omega.{arith}
use lib.Dec.{T, lit<}
use lib.Ieee.{Float, binary32, of_bits, le, add, sub, mul, div}
use lib.Ieee.Scale.{finite}
use Rattle.float.specs.F32.{◌⊕◌, ◌⊖◌, ◌⊘◌, f0, f1, f2, half}
use Rattle.float.proofs.Order.{le_trans}
use Rattle.float.proofs.PatternOrder.{at, pattern_le}
use Rattle.float.proofs.Rounding.{sub_mono, sub_rising}
use Rattle.float.proofs.SignedRound.{pro}
use Rattle.float.proofs.Chains.{Chain, second_finite, chain_same, chain_sum, chain_product, chain_quotient}
use Rattle.curve.specs.Depth.{a0, a1, a2, a3, series_of, part_of}
use Rattle.curve.specs.Factor.{b1, b2, b3, b4, b5, power_of}
use Rattle.curve.proofs.Closed.{one_finite, zero_one, one_one}

-- ---- 2 to the power u, from 0 to 1
pub power_chain : {u v : Float} → Chain u v f1 → Chain (power_of u) (power_of v) (power_of f1)
unfolding power_of
power_chain {u} {v} c =
    let fifth = chain_product c (chain_same b5 (unfold of_bits in tt) (unfold of_bits le in tt)) (unfold of_bits mul in tt) in
    let fourth = chain_product c (chain_sum (chain_same b4 (unfold of_bits in tt) (unfold of_bits le in tt)) fifth (unfold of_bits mul add in tt)) (unfold of_bits mul add in tt) in
    let third = chain_product c (chain_sum (chain_same b3 (unfold of_bits in tt) (unfold of_bits le in tt)) fourth (unfold of_bits mul add in tt)) (unfold of_bits mul add in tt) in
    let second = chain_product c (chain_sum (chain_same b2 (unfold of_bits in tt) (unfold of_bits le in tt)) third (unfold of_bits mul add in tt)) (unfold of_bits mul add in tt) in
    let first = chain_product c (chain_sum (chain_same b1 (unfold of_bits in tt) (unfold of_bits le in tt)) second (unfold of_bits mul add in tt)) (unfold of_bits mul add in tt) in
    chain_sum (chain_same f1 one_finite zero_one) first (unfold of_bits mul add in tt)

pub power_whole : power_of f1 ≡ f2
unfolding power_of of_bits mul add
power_whole = refl

pub power_none : power_of f0 ≡ f1
unfolding power_of of_bits mul add
power_none = refl

-- ---- the depth of m, from 1/2 to below 1, by s
-- (1 - 1/2) / (1 + 1/2)
abbrev most : Float
most = of_bits binary32 0x3eaa_aaab

most_is : (f1 ⊖ half) ⊘ (f1 ⊕ half) ≡ most
unfolding of_bits sub add div
most_is = refl

series_chain : {s t : Float} → Chain s t most → Chain (series_of s) (series_of t) (series_of most)
unfolding series_of
series_chain {s} {t} c =
    let z = chain_product c c (unfold of_bits mul in tt) in
    let third = chain_product z (chain_same a3 (unfold of_bits in tt) (unfold of_bits le in tt)) (unfold of_bits mul in tt) in
    let second = chain_product z (chain_sum (chain_same a2 (unfold of_bits in tt) (unfold of_bits le in tt)) third (unfold of_bits mul add in tt)) (unfold of_bits mul add in tt) in
    let first = chain_product z (chain_sum (chain_same a1 (unfold of_bits in tt) (unfold of_bits le in tt)) second (unfold of_bits mul add in tt)) (unfold of_bits mul add in tt) in
    chain_product c (chain_sum (chain_same a0 (unfold of_bits in tt) (unfold of_bits le in tt)) first (unfold of_bits mul add in tt)) (unfold of_bits mul add in tt)

series_most : series_of most ≡ f1
unfolding series_of of_bits mul add
series_most = refl

-- the least m and the greatest: 1/2, and the f32 just below 1
abbrev pub last : ℕ
last = 0x3f7f_ffff

abbrev pub first : ℕ
first = 0x3f00_0000

one_last : T (le (at last) f1)
unfolding of_bits le
one_last = tt

half-finite : T (finite half)
unfolding of_bits
half-finite = tt

-- half ≤ m ≤ n ≤ 1
module _ (m n : Float) (h : T (le half m)) (k : T (le m n)) (l : T (le n f1)) where
  upper : Chain half n f1
  upper = record { low = unfold of_bits le in tt; mid = le_trans half m n h k; high = l; bounded = one_finite }

  lower : Chain half m n
  lower = record { low = unfold of_bits le in tt; mid = h; high = k; bounded = second_finite upper }

  divisors : Chain (f1 ⊕ half) (f1 ⊕ m) (f1 ⊕ n)
  divisors =
      let one = chain_same f1 one_finite zero_one in
      chain_sum one lower (second_finite (chain_sum one upper (unfold of_bits add in tt)))

  rests : Chain (f1 ⊖ n) (f1 ⊖ m) (f1 ⊖ half)
  rests = record {
    low = sub_rising n f1 (second_finite upper) one_finite l;
    mid = sub_mono f1 n f1 m one_finite (second_finite upper) one_finite (second_finite lower) one_one k;
    high = sub_mono f1 m f1 half one_finite (second_finite lower) one_finite half-finite one_one h;
    bounded = unfold of_bits sub in tt;
  }

  part_chain : Chain (part_of n) (part_of m) f1
  unfolding part_of
  part_chain =
      let q = chain_quotient rests divisors (unfold of_bits add in lit< tt) (unfold of_bits sub add div in tt) in
      subst (λ (t : Float). Chain (part_of n) (part_of m) t) series_most (series_chain (subst (λ (t : Float). Chain ((f1 ⊖ n) ⊘ (f1 ⊕ n)) ((f1 ⊖ m) ⊘ (f1 ⊕ m)) t) most_is q))

-- by patterns: from 1/2 up to just below 1 it falls, and stays from above zero to 1
pub part_falls : (p q : ℕ) → first ≤ p → p ≤ q → q ≤ last → Chain (part_of (at q)) (part_of (at p)) f1
part_falls p q h k l =
    part_chain (at p) (at q) (pattern_le first p h (omega arith)) (pattern_le p q k (omega arith))
    (le_trans (at q) (at last) f1 (pattern_le q last l (omega arith)) one_last)

pub part_half : part_of half ≡ f1
unfolding part_of series_of of_bits sub add mul div
part_half = refl

-- the least depth
abbrev pub least : Float
least = part_of (at last)

pub least_some : 0 < pro least
unfolding part_of series_of of_bits sub add mul div
least_some = lit< tt
