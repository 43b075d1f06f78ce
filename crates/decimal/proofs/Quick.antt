-- The quotient of two whole numbers that binary32 has is their fraction rounded once; and a sign goes through rounding. Assumes nothing.
use mathlib.Core.Path.{◌≡◌, refl, sym, ap, ◌∙◌}
use mathlib.Core.Bool.{Bool, true, false, cond}
use Prim.Native.Nat.{ℕ, zero, suc, ◌+◌, ◌*◌, ◌^◌, ◌≤◌, ◌<◌}
use native.Mathlib.Nat.{mul-one, mul-pos, le_trans, le_of_eq}
use native.Mathlib.Omega.{arith}
use lib.Dec.{eqb, ltb}
use lib.IntN.{pos}
use lib.Ieee.{Float, nan, inf, fin, Format, binary32, prec, emax, low, unlike, up, down, odd, units, round, neg, div, of_int}
use lib.Ieee.Back.{round_whole}
use lib.Ieee.Exact.{HasValue}
use lib.Ieee.Fits.{round_is, down_pos}
use lib.Ieee.Positive.{first_pos}
use lib.Ieee.Scale.{round_same}
use borrow.Author.Tests.{ne_eqb}

-- ---- the sign
neg-odd : (d q k l : ℕ) → neg (odd d false q k l) ≡ odd d true q k l
unfolding odd neg
neg-odd d zero k l = refl
neg-odd d (suc q) k l = refl

neg-units : (f : Format) (q k : ℕ) → neg (units f false q k) ≡ units f true q k
unfolding units neg
neg-units f q k = go (ltb (q * 2 ^ k) (2 ^ (low f + suc (emax f))))
  where
    go : (t : Bool) → neg (cond t (odd (suc (prec f)) false q k (low f)) (inf false)) ≡ cond t (odd (suc (prec f)) true q k (low f)) (inf true)
    go true = neg-odd (suc (prec f)) q k (low f)
    go false = refl

pub neg-round : (f : Format) (a b : ℕ) → neg (round f false a b) ≡ round f true a b
neg-round f a b = ap neg (round_is f false a b) ∙ neg-units f _ _ ∙ sym (round_is f true a b)

-- ---- the quotient of values a and b
pub div_values : (f : Format) (x y : Float) (a b : ℕ) → HasValue x false a 1 → HasValue y false b 1 → 0 < b → div f x y ≡ round f false a b
unfolding div
div_values f nan y a b v w p = absurd v
div_values f (inf s) y a b v w p = absurd v
div_values f (fin s m e) nan a b v w p = absurd w
div_values f (fin s m e) (inf t) a b v w p = absurd w
div_values f (fin s m e) (fin t n d) a b v w p =
    let N : n * up d ≡ b * down d = sym (mul-one (n * up d)) ∙ w.1 in
    let N_pos : 0 < n * up d = le_trans (mul-pos p (down_pos d)) (le_of_eq (sym N)) in
    let n_pos : 0 < n = first_pos n (up d) N_pos in
    let q : Bool → Float = λ (r : Bool). round f r (m * up e * down d) (n * up d * down e) in
    ap (λ (z : Bool). cond z (cond (eqb m 0) nan (inf (unlike s t))) (q (unlike s t))) (ne_eqb n 0 (λ (z : n ≡ 0). omega arith))
    ∙ ap (λ (z : Bool). q (unlike z t)) v.0
    ∙ ap (λ (z : Bool). q (unlike false z)) w.0
    ∙ round_same f false (m * up e * down d) (n * up d * down e) a b (mul-pos N_pos (down_pos e)) p
    (ap (λ (z : ℕ). z * down d * b) (sym (mul-one (m * up e)) ∙ v.1) ∙ shuffle a (down e) (down d) b ∙ sym (ap (λ (z : ℕ). a * (z * down e)) N))
  where
    shuffle : (x y z u : ℕ) → x * y * z * u ≡ x * (u * z * y)
    shuffle x y z u = omega arith

pub quotient : (d p : ℕ) → d ≤ 2 ^ 24 → 0 < p → p ≤ 2 ^ 24 → div binary32 (of_int binary32 (pos d)) (of_int binary32 (pos p)) ≡ round binary32 false d p
unfolding of_int
quotient d p a b c = div_values binary32 (round binary32 false d 1) (round binary32 false p 1) d p (round_whole binary32 false d a) (round_whole binary32 false p c) b
