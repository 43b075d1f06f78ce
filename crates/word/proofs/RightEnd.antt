-- p + 1 * (q - p), each operation rounded, clamped, lies within 2^-10 + 2^-22 of the clamped q, where p and q lie within ±16,382. Assumes nothing.
-- In units of 2^-149, let G be 2^139, that is 2^-10, and H be 2^126, that is 2^-23. For q from 0 to 1, q - p lies between two multiples of G that are f32, so what it is rounded to does; and p added to these lies between
-- multiples of H that are f32 and no farther from q than G + H. Any other q is clamped to an end, and the mix rises with q.
use mathlib.Core.Path.{◌≡◌, subst}
use mathlib.Core.Bool.{false}
use Prim.Native.Nat.{ℕ, suc, ◌+◌, ◌-◌, ◌*◌, ◌/◌, ◌^◌, ◌≤◌, ◌<◌}
use native.Mathlib.Nat.{lt_of_not-le}
use native.Mathlib.Decide.{dec_le}
use native.Mathlib.Omega.{arith}
use lib.Dec.{T}
use lib.Pow.{pow_pos}
use lib.Ieee.{Float, binary32, fits, round, neg, sub, le}
use lib.Ieee.Fits.{sub-fits}
use lib.Ieee.Bits.{is_true}
use lib.Ieee.Scale.{finite}
use Rattle.float.specs.F32.{◌⊕◌, ◌⊖◌, ◌⊗◌, f0, f1}
use Rattle.float.specs.Number.{clamp_of}
use Rattle.float.proofs.Order as order
use Rattle.float.proofs.Rounding.{add_mono, sub_mono}
use Rattle.float.proofs.Spans.{mul_swap}
use Rattle.float.proofs.UnitSums.{Counted, Units, units_of, opposite, units_le, le_units, sum_under, held}
use Rattle.stops.proofs.Valid.{finite_number}
use Rattle.float.proofs.Clamped.{clamp_low, clamp_mono}
use Rattle.ordinary.proofs.UnitBlend.{once_low, once_high}
use Rattle.ordinary.proofs.Grid.{Point, point, div_below, div_above}
use Rattle.word.specs.Word.{tame}
use Rattle.word.proofs.EndSums.{clamp_id, clamp_under, slack, sum_over, zero_units, one_units, tame_units, slack_units, at-is, at_low, at_high, step_low, step_high, right_room, left_room, few, small, plain, sizes, under_sum, over_sum, above_q, below_q, steps, under_slack, over_slack}

-- ---- the mix at its right end
abbrev pub end_mix : Float → Float → Float
end_mix p q = p ⊕ f1 ⊗ (q ⊖ p)

-- once more or less: f1 * w lies from what w does
module _ (w a b : Float) (single : T (fits binary32 w)) (fa : T (finite a)) (fb : T (finite b)) (low : T (le a w)) (high : T (le w b)) where
  w_finite : T (finite w)
  w_finite = order.finite_between a w b fa fb low high

  one_finite : T (finite f1)
  one_finite = one_units.whole

  pub once_above : T (le a (f1 ⊗ w))
  once_above = order.le_trans a w (f1 ⊗ w) low (order.le_trans w (w ⊗ f1) (f1 ⊗ w) (once_low w single w_finite) (mul_swap w f1 w_finite one_finite))

  pub once_below : T (le (f1 ⊗ w) b)
  once_below = order.le_trans (f1 ⊗ w) w b (order.le_trans (f1 ⊗ w) (w ⊗ f1) w (mul_swap f1 w one_finite w_finite) (once_high w single w_finite)) high

  -- and p added to it
  module _ (p : Float) (fp : T (finite p)) where
    same : T (le p p)
    same = order.le_refl p (finite_number p (is_true _ fp))

    v_finite : T (finite (f1 ⊗ w))
    v_finite = order.finite_between a (f1 ⊗ w) b fa fb once_above once_below

    mix_above : T (le (p ⊕ a) (p ⊕ f1 ⊗ w))
    mix_above = add_mono p a p (f1 ⊗ w) fp fa fp v_finite same once_above

    mix_below : T (le (p ⊕ f1 ⊗ w) (p ⊕ b))
    mix_below = add_mono p (f1 ⊗ w) p b fp v_finite fp fb same once_below

module _ (p : Float) (tp : T (fits binary32 p)) (fp : T (finite p)) (low : T (le (neg tame) p)) (high : T (le p tame)) where
  up : Units p
  up = units_of p tp fp

  abbrev P : ℕ
  P = up.p

  abbrev N : ℕ
  N = up.n

  -- ---- q from 0 to 1
  module _ (q : Float) (tq : T (fits binary32 q)) (fq : T (finite q)) (zero_q : T (le f0 q)) (q_one : T (le q f1)) where
    uq : Units q
    uq = units_of q tq fq

    abbrev Q : ℕ
    Q = uq.p

    q_units : Counted q Q 0
    q_units = subst (Counted q Q) (plain Q uq.n uq.one_sided (le_units f0 q 0 0 Q uq.n zero_units uq.is zero_q)) uq.is

    Q_most : Q + 0 ≤ 2 ^ 149 + 0
    Q_most = le_units q f1 Q 0 (2 ^ 149) 0 q_units one_units q_one

    P_most : P + 0 ≤ 16382 * 2 ^ 149 + N
    P_most = le_units p tame P N (16382 * 2 ^ 149) 0 up.is tame_units high

    N_most : 0 + N ≤ P + 16382 * 2 ^ 149
    N_most = le_units (neg tame) p 0 (16382 * 2 ^ 149) P N (opposite tame (16382 * 2 ^ 149) 0 tame_units) up.is low

    abbrev x : ℕ
    x = Q + N + 16777216 * 2 ^ 139 - P

    abbrev j : ℕ
    j = x / 2 ^ 139

    x-is : P + x ≡ Q + N + 16777216 * 2 ^ 139
    x-is = at-is Q P N (2 ^ 149) (2 ^ 139) (2 ^ 126) sizes.0 P_most

    j_most : j ≤ 33553408
    j_most = step_high x (2 ^ 139) 33553408 (at_high Q P N (2 ^ 149) (2 ^ 139) (2 ^ 126) sizes.0 P_most Q_most N_most) (pow_pos 139)

    on_grid : (i : ℕ) → 0 < i → i ≤ 33553409 → Point 139 i
    on_grid i a b = point 139 i a (less i b) (right_room i (2 ^ 139) (2 ^ 252) b sizes.2) (left_room i (2 ^ 139) (2 ^ 252) sizes.2)
      where
        less : (i : ℕ) → i ≤ 33553409 → i < 33554432
        less i h = omega arith

    before : Point 139 j
    before = on_grid j (step_low x (2 ^ 139) (at_low Q P N (2 ^ 149) (2 ^ 139) (2 ^ 126) sizes.0 P_most) (pow_pos 139)) (more j j_most)
      where
        more : (i : ℕ) → i ≤ 33553408 → i ≤ 33553409
        more i h = omega arith

    after : Point 139 (suc j)
    after = on_grid (suc j) (some j) (more j j_most)
      where
        some : (i : ℕ) → 0 < suc i
        some i = omega arith

        more : (i : ℕ) → i ≤ 33553408 → suc i ≤ 33553409
        more i h = omega arith

    down : j * 2 ^ 139 ≤ x
    down = div_below x (2 ^ 139) (pow_pos 139)

    over_x : x < suc j * 2 ^ 139
    over_x = div_above x (2 ^ 139) (pow_pos 139)

    minus_p : Counted (neg p) N P
    minus_p = opposite p P N up.is

    diff_low : T (le before.y (q ⊖ p))
    unfolding sub
    diff_low = sum_over q (neg p) before.y Q 0 N P before.p before.n q_units minus_p before.is (under_sum Q P N (2 ^ 139) x j x-is before.p before.n before.place down)

    diff_high : T (le (q ⊖ p) after.y)
    unfolding sub
    diff_high = sum_under q (neg p) after.y Q 0 N P after.p after.n q_units minus_p after.is (over_sum Q P N (2 ^ 139) x j x-is after.p after.n after.place over_x)

    -- ---- the multiples of H beside it
    abbrev kh : ℕ
    kh = suc ((Q + 2 ^ 139) / 2 ^ 126)

    abbrev kl : ℕ
    kl = (Q - 2 ^ 139) / 2 ^ 126

    kh_most : kh ≤ 8396801
    kh_most = more _ (step_high (Q + 2 ^ 139) (2 ^ 126) 8396800 (steps Q (2 ^ 149) (2 ^ 139) (2 ^ 126) sizes.0 sizes.1 Q_most) (pow_pos 126))
      where
        more : (i : ℕ) → i ≤ 8396800 → suc i ≤ 8396801
        more i h = omega arith

    kl_most : kl ≤ 8396801
    kl_most = step_high (Q - 2 ^ 139) (2 ^ 126) 8396801 (less Q (2 ^ 139) (2 ^ 126) (steps Q (2 ^ 149) (2 ^ 139) (2 ^ 126) sizes.0 sizes.1 Q_most)) (pow_pos 126)
      where
        less : (q g h : ℕ) → q + g ≤ 8396800 * h → q - g ≤ 8396801 * h
        less q g h l = omega arith

    pub zh : Float
    zh = round binary32 false (kh * 2 ^ 126) (2 ^ 149)

    pub zl : Float
    zl = round binary32 false (kl * 2 ^ 126) (2 ^ 149)

    zh_units : Counted zh (kh * 2 ^ 126) 0
    unfolding zh
    zh_units = held false kh 126 (small kh kh_most) (few kh (2 ^ 126) (2 ^ 277) kh_most (pow_pos 126) sizes.3)

    zl_units : Counted zl (kl * 2 ^ 126) 0
    unfolding zl
    zl_units = held false kl 126 (small kl kl_most) (few kl (2 ^ 126) (2 ^ 277) kl_most (pow_pos 126) sizes.3)

    w_single : T (fits binary32 (q ⊖ p))
    w_single = sub-fits binary32 q p

    mix_high : T (le (end_mix p q) zh)
    mix_high =
        order.le_trans (end_mix p q) (p ⊕ after.y) zh
        (mix_below (q ⊖ p) before.y after.y w_single before.is.whole after.is.whole diff_low diff_high p fp)
        (sum_under p after.y zh P N after.p after.n (kh * 2 ^ 126) 0 up.is after.is zh_units
        (above_q Q P N (2 ^ 139) x j x-is after.p after.n (kh * 2 ^ 126) after.place down (div_above (Q + 2 ^ 139) (2 ^ 126) (pow_pos 126))))

    mix_low : 2 ^ 139 ≤ Q → T (le zl (end_mix p q))
    mix_low h =
        order.le_trans zl (p ⊕ before.y) (end_mix p q)
        (sum_over p before.y zl P N before.p before.n (kl * 2 ^ 126) 0 up.is before.is zl_units
        (below_q Q P N (2 ^ 139) x j x-is before.p before.n (kl * 2 ^ 126) before.place over_x (less Q (2 ^ 139) (kl * 2 ^ 126) h (div_below (Q - 2 ^ 139) (2 ^ 126) (pow_pos 126)))))
        (mix_above (q ⊖ p) before.y after.y w_single before.is.whole after.is.whole diff_low diff_high p fp)
      where
        less : (q g k : ℕ) → g ≤ q → k ≤ q - g → k + g ≤ q
        less q g k a b = omega arith

    zl_zero : (2 ^ 139 ≤ Q → ⊥) → T (le zl f0)
    zl_zero h = units_le zl f0 (kl * 2 ^ 126) 0 0 0 zl_units zero_units (none Q (2 ^ 139) (2 ^ 126) (kl * 2 ^ 126) (lt_of_not-le h) (div_below (Q - 2 ^ 139) (2 ^ 126) (pow_pos 126)))
      where
        none : (q g h k : ℕ) → q < g → k ≤ q - g → k + 0 ≤ 0 + 0
        none q g h k a b = omega arith

    zero_zl : T (le f0 zl)
    zero_zl = units_le f0 zl 0 0 (kl * 2 ^ 126) 0 zero_units zl_units (some (kl * 2 ^ 126))
      where
        some : (k : ℕ) → 0 + 0 ≤ k + 0
        some k = omega arith

    pub zl_q : T (le zl q)
    zl_q = units_le zl q (kl * 2 ^ 126) 0 Q 0 zl_units q_units (less Q (2 ^ 139) (kl * 2 ^ 126) (div_below (Q - 2 ^ 139) (2 ^ 126) (pow_pos 126)))
      where
        less : (q g k : ℕ) → k ≤ q - g → k + 0 ≤ q + 0
        less q g k b = omega arith

    pub q_zh : T (le q zh)
    q_zh = units_le q zh Q 0 (kh * 2 ^ 126) 0 q_units zh_units (less Q (2 ^ 139) (kh * 2 ^ 126) (div_above (Q + 2 ^ 139) (2 ^ 126) (pow_pos 126)))
      where
        less : (q g k : ℕ) → q + g < k → q + 0 ≤ k + 0
        less q g k b = omega arith

    -- ---- what lies from zl to zh lies near q
    same_q : T (le q q)
    same_q = order.le_refl q (finite_number q (is_true _ fq))

    zl_off : T (le (q ⊖ zl) slack)
    unfolding sub
    zl_off =
        sum_under q (neg zl) slack Q 0 0 (kl * 2 ^ 126) (8194 * 2 ^ 126) 0 q_units (opposite zl (kl * 2 ^ 126) 0 zl_units) slack_units
        (under_slack Q (2 ^ 139) (2 ^ 126) kl sizes.1 (div_above (Q - 2 ^ 139) (2 ^ 126) (pow_pos 126)))

    zh_off : T (le (neg slack) (q ⊖ zh))
    unfolding sub
    zh_off =
        sum_over q (neg zh) (neg slack) Q 0 0 (kh * 2 ^ 126) 0 (8194 * 2 ^ 126) q_units (opposite zh (kh * 2 ^ 126) 0 zh_units) (opposite slack (8194 * 2 ^ 126) 0 slack_units)
        (over_slack Q (2 ^ 139) (2 ^ 126) ((Q + 2 ^ 139) / 2 ^ 126) sizes.1 (div_below (Q + 2 ^ 139) (2 ^ 126) (pow_pos 126)))

    pub off_high : (y : Float) → T (finite y) → T (le zl y) → T (le (q ⊖ y) slack)
    off_high y fy from = order.le_trans (q ⊖ y) (q ⊖ zl) slack (sub_mono q y q zl fq fy fq zl_units.whole same_q from) zl_off

    pub off_low : (y : Float) → T (finite y) → T (le y zh) → T (le (neg slack) (q ⊖ y))
    off_low y fy to = order.le_trans (neg slack) (q ⊖ zh) (q ⊖ y) zh_off (sub_mono q zh q y fq zh_units.whole fq fy same_q to)

    -- ---- the clamped mix does
    pub clamped_high : T (le (clamp_of (end_mix p q)) zh)
    clamped_high = order.le_trans (clamp_of (end_mix p q)) (clamp_of zh) zh (clamp_mono (end_mix p q) zh mix_high) (clamp_under zh (order.le_trans f0 q zh zero_q q_zh))

    pub clamped_low : T (le zl (clamp_of (end_mix p q)))
    clamped_low = go (dec_le (2 ^ 139) Q)
      where
        go : Dec (2 ^ 139 ≤ Q) → T (le zl (clamp_of (end_mix p q)))
        go (yes h) = subst (λ (z : Float). T (le z (clamp_of (end_mix p q)))) (clamp_id zl zero_zl (order.le_trans zl q f1 zl_q q_one)) (clamp_mono zl (end_mix p q) (mix_low h))
        go (no f) = order.le_trans zl f0 (clamp_of (end_mix p q)) (zl_zero f) (clamp_low (end_mix p q) (order.no_nan_l (end_mix p q) zh mix_high))
