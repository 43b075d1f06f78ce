-- A number strictly between 0 and 1 by its pattern, and the 2^24th multiple of a subnormal one. Assumes nothing.
use mathlib.Core.Path.{◌≡◌, refl, sym, ap, ◌∙◌, subst}
use mathlib.Core.Bool.{false, true≢false}
use Prim.Native.Nat.{ℕ, zero, suc, ◌*◌, ◌/◌, ◌^◌, ◌≤◌, ◌<◌}
use native.Mathlib.Nat.{lt_of_not-le, lt_of_lt_of_le, zero-lt-suc}
use native.Mathlib.Decide.{dec_le}
use native.Mathlib.Omega.{arith}
use lib.Dec.{T, lit<, lit≤}
use lib.Pow.{pow_pos, pow_mono}
use lib.Ieee.{Float, binary32, fits, of_bits, to_bits, lt, le, mul}
use lib.Ieee.Bits.{is_true}
use lib.Ieee.Exact.{HasValue, round_exact}
use lib.Ieee.Fits.{mul-fits}
use lib.Ieee.Positive.{positive_of_value, mul_at}
use Rattle.float.specs.F32.{◌⊗◌, f0, f1}
use Rattle.float.specs.Units.{count, plain}
use Rattle.float.proofs.Fields.{value_below}
use Rattle.float.proofs.Units.{count_of}
use Rattle.float.proofs.Order.{lt→le, not_lt_from_le, lt_irrefl, finite_between}
use Rattle.float.proofs.PatternOrder.{at, pattern_le, pattern_back, pattern_under, pattern_mono}
use Rattle.float.proofs.Quotients.{above_some, some_plain, some_more}
use Rattle.float.proofs.Chains.{Chain, first_finite, second_finite, chain_same, chain_product}
use Rattle.curve.specs.Depth.{lift}
use Rattle.curve.proofs.Closed.{zero-finite, one_finite}
use Rattle.curve.proofs.Sums.{last}

pub record Inside (x : Float) : Type 0 where
  pub one : T (fits binary32 x)
  pub clear : T (plain x)
  pub low : 1 ≤ to_bits binary32 x
  pub high : to_bits binary32 x ≤ last

pub inside : (x : Float) → T (fits binary32 x) → T (lt f0 x) → T (lt x f1) → Inside x
inside x f l h =
    let p = some_plain x (above_some x (finite_between f0 x f1 zero-finite one_finite (lt→le f0 x l) (lt→le x f1 h)) l) in
    record {
      one = f;
      clear = p;
      low = some (to_bits binary32 x) (pattern_back x f p);
      high = below (pattern_back x f p) (pattern_under x f p) (dec_le (to_bits binary32 x) last);
    }
  where
    some : (b : ℕ) → at b ≡ x → 1 ≤ b
    some zero e = absurd (true≢false (sym (is_true (lt f0 x) l) ∙ ap (lt f0) (sym e) ∙ lt_irrefl f0))
    some (suc b) e = zero-lt-suc b

    below : at (to_bits binary32 x) ≡ x → to_bits binary32 x < 2139095040 → Dec (to_bits binary32 x ≤ last) → to_bits binary32 x ≤ last
    below e u (yes m) = m
    below e u (no g) =
        let m : 0x3f80_0000 ≤ to_bits binary32 x = lt_of_not-le g in
        let k : T (le f1 x) = subst (λ (y : Float). T (le f1 y)) e (pattern_le 0x3f80_0000 (to_bits binary32 x) m (omega arith)) in
        absurd (true≢false (sym (is_true (lt x f1) h) ∙ not_lt_from_le x f1 k))

pub inside_mono : (x y : Float) → Inside x → Inside y → T (le x y) → to_bits binary32 x ≤ to_bits binary32 y
inside_mono x y i j h = pattern_mono x y i.one i.clear j.one j.clear h

-- ---- a subnormal, lifted
abbrev small : ℕ
small = 0x7f_ffff

lifted_tiny : to_bits binary32 (at 1 ⊗ lift) ≡ 0x0100_0000
unfolding to_bits of_bits mul
lifted_tiny = refl

lifted_small : to_bits binary32 (at small ⊗ lift) ≡ 0x0c7f_fffe
unfolding to_bits of_bits mul
lifted_small = refl

module _ (x y : Float) (i : Inside x) (j : Inside y) (h : T (le x y)) (s : to_bits binary32 y < 2 ^ 23) where
  row : Chain x y (at small)
  row =
      let back = pattern_back x i.one i.clear in
      let forth = pattern_back y j.one j.clear in
      record {
        low = subst (λ (z : Float). T (le f0 z)) back (pattern_le 0 (to_bits binary32 x) (let k = i.low in omega arith) (let k = i.high in omega arith));
        mid = h;
        high = subst (λ (z : Float). T (le z (at small))) forth (pattern_le (to_bits binary32 y) small (omega arith) (omega arith));
        bounded = unfold of_bits in tt;
      }

  pub lifted_row : Chain (x ⊗ lift) (y ⊗ lift) (at small ⊗ lift)
  lifted_row = chain_product row (chain_same lift (unfold of_bits in tt) (unfold of_bits le in tt)) (unfold of_bits mul in tt)

module _ (x : Float) (i : Inside x) (s : to_bits binary32 x < 2 ^ 23) where
  tiny : Inside (at 1)
  tiny = inside (at 1) (unfold of_bits fits in tt) (unfold of_bits lt in tt) (unfold of_bits lt in tt)

  from_tiny : T (le (at 1) x)
  from_tiny = subst (λ (z : Float). T (le (at 1) z)) (pattern_back x i.one i.clear) (pattern_le 1 (to_bits binary32 x) i.low (let k = i.high in omega arith))

  pub lifted_plain : T (plain (x ⊗ lift))
  lifted_plain =
      let c = lifted_row (at 1) x tiny i from_tiny s in
      some_plain (x ⊗ lift) (some_more (at 1 ⊗ lift) (x ⊗ lift) (first_finite c) (second_finite c) c.low (unfold of_bits mul in lit< tt) c.mid)

  pub lifted_field : to_bits binary32 (x ⊗ lift) / 2 ^ 23 ≤ 24
  lifted_field =
      let c = lifted_row (at 1) x tiny i from_tiny s in
      let l = pattern_mono (x ⊗ lift) (at small ⊗ lift) (mul-fits binary32 x lift) lifted_plain (mul-fits binary32 (at small) lift) (unfold of_bits mul in tt) c.high in
      let m = lifted_small in
      omega arith

  pub lifted_low : 2 ^ 23 ≤ to_bits binary32 (x ⊗ lift)
  lifted_low =
      let c = lifted_row (at 1) x tiny i from_tiny s in
      let l = pattern_mono (at 1 ⊗ lift) (x ⊗ lift) (mul-fits binary32 (at 1) lift) (unfold of_bits mul in tt) (mul-fits binary32 x lift) lifted_plain c.mid in
      let m = lifted_tiny in
      omega arith

  lift_value : HasValue lift false (2 ^ 24) 1
  unfolding of_bits
  lift_value = (refl, refl)

  -- and exact
  pub lifted_exact : count (x ⊗ lift) ≡ count x * 2 ^ 24
  lifted_exact =
      let b = to_bits binary32 x in
      let v : HasValue x false (b * 2 ^ 0) (2 ^ 149) = subst (λ (z : Float). HasValue z false (b * 2 ^ 0) (2 ^ 149)) (pattern_back x i.one i.clear) (value_below b s) in
      let p = positive_of_value x (b * 2 ^ 0) (2 ^ 149) v (let l = i.low in omega arith) in
      let e = mul_at binary32 x lift (b * 2 ^ 0) (2 ^ 149) (2 ^ 24) 1 p (positive_of_value lift (2 ^ 24) 1 lift_value (lit< tt)) (pow_pos 149) (lit< tt) v lift_value in
      let a = b * 2 ^ 0 * 2 ^ 24 in
      let w = round_exact binary32 false a (2 ^ 149) b 24 (pow_pos 149) (omega arith) (few b s) (regrouped b (2 ^ 149)) in
      count_of (x ⊗ lift) false a (subst (λ (z : Float). HasValue z false a (2 ^ 149)) (sym e) w) ∙ ap (λ (n : ℕ). n * 2 ^ 24) (sym (count_of x false (b * 2 ^ 0) v))
    where
      few : (b : ℕ) → b < 2 ^ 23 → b * 2 ^ 24 < 2 ^ 277
      few b h = let l : b * 2 ^ 24 < 2 ^ 47 = omega arith in lt_of_lt_of_le l (pow_mono {i = 47} {j = 277} (lit≤ tt))

      regrouped : (b u : ℕ) → b * 2 ^ 0 * 2 ^ 24 * u ≡ b * 2 ^ 24 * u
      regrouped b u = omega arith
